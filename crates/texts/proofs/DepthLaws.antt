-- How deep brackets stand in a derivation, whatever the places: the depth of the value that it describes. By induction on the derivation.
use mathlib.Core.Path.{◌≡◌, refl, ap, ap₂, ◌∙◌}
use Prim.Native.Nat.{ℕ, suc, ◌+◌, max}
use native.Mathlib.Nat.{max-zero}
use lib.ListN.{length}
use Rattle.texts.specs.Grammar.{string_bytes, Value, Object, Members, Member, Array, Values, structural, member_bytes, value_bytes}
use Rattle.texts.specs.Nodes.{Fields, tree, object_tree, array_tree, fields, with_member, items, deep, deep_items, deep_fields}

unfoldable mutual
  pub depth : Value → ℕ
  depth Value.false = 0
  depth Value.null = 0
  depth Value.true = 0
  depth (Value.object o) = object_depth o
  depth (Value.array a) = array_depth a
  depth (Value.number n) = 0
  depth (Value.string s) = 0

  pub object_depth : Object → ℕ
  object_depth (Object.no_members b e) = 1
  object_depth (Object.members b ms e) = suc (members_depth ms)

  pub members_depth : Members → ℕ
  members_depth (Members.one_member m) = member_depth m
  members_depth (Members.more_members m s ms) = max (member_depth m) (members_depth ms)

  pub member_depth : Member → ℕ
  member_depth (Member.member c s v) = depth v

  pub array_depth : Array → ℕ
  array_depth (Array.no_values b e) = 1
  array_depth (Array.values b vs e) = suc (values_depth vs)

  pub values_depth : Values → ℕ
  values_depth (Values.one_value v) = depth v
  values_depth (Values.more_values v s vs) = max (depth v) (values_depth vs)

mutual
  unfolding tree deep depth

  pub deep_tree : (v : Value) (a : ℕ) → deep (tree a v) ≡ depth v
  deep_tree Value.false a = refl
  deep_tree Value.null a = refl
  deep_tree Value.true a = refl
  deep_tree (Value.object o) a = deep_object o a
  deep_tree (Value.array x) a = deep_array x a
  deep_tree (Value.number n) a = refl
  deep_tree (Value.string s) a = refl

  deep_object : (o : Object) (a : ℕ) → deep (object_tree a o) ≡ object_depth o
  deep_object (Object.no_members b e) a = refl
  deep_object (Object.members b ms e) a = ap suc (deep_fields_is ms (a + length (structural b)))

  deep_fields_is : (ms : Members) (a : ℕ) → deep_fields (fields a ms) ≡ members_depth ms
  deep_fields_is (Members.one_member m) a = deep_member m a Fields.no_fields ∙ max-zero (member_depth m)
  deep_fields_is (Members.more_members m s ms) a =
      let rest = fields (a + length (member_bytes m) + length (structural s)) ms in
      deep_member m a rest ∙ ap (max (member_depth m)) (deep_fields_is ms (a + length (member_bytes m) + length (structural s)))

  deep_member : (m : Member) (a : ℕ) (fs : Fields) → deep_fields (with_member a m fs) ≡ max (member_depth m) (deep_fields fs)
  deep_member (Member.member {raw} c s v) a fs = ap (λ (d : ℕ). max d (deep_fields fs)) (deep_tree v (a + length (string_bytes raw) + length (structural s)))

  deep_array : (x : Array) (a : ℕ) → deep (array_tree a x) ≡ array_depth x
  deep_array (Array.no_values b e) a = refl
  deep_array (Array.values b vs e) a = ap suc (deep_items_is vs (a + length (structural b)))

  deep_items_is : (vs : Values) (a : ℕ) → deep_items (items a vs) ≡ values_depth vs
  deep_items_is (Values.one_value v) a = ap (λ (d : ℕ). max d 0) (deep_tree v a) ∙ max-zero (depth v)
  deep_items_is (Values.more_values v s vs) a =
      ap₂ max (deep_tree v a) (deep_items_is vs (a + length (value_bytes v) + length (structural s)))
