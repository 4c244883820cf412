-- The table of texts: one computed test over it, the machine's verdicts against the table's, and what each verdict means.
use mathlib.Core.Path.{◌≡◌, refl, ap}
use mathlib.Core.Bool.{Bool, true, false, ◌&&◌}
use mathlib.Core.List.{List, [], ◌∷◌}
use lib.Dec.{T, eqb, eqb→eq}
use Rattle.rules.proofs.Booleans.{and_l, and_r}
use Rattle.texts.specs.Machine.{within, is_ws, is_digit, is_e, is_short, is_plain, fits, begin, after, item_first, character, move, Judgement, yes, over, no, read_on, judge}
use Rattle.texts.specs.Texts.{Row, accepted, refused, too_deep, bytes, nested, Claimed, Meant, table}
use Rattle.texts.proofs.Judging.{judge_yes, judge_no, judge_over}

same : Judgement → Judgement → Bool
same yes yes = true
same yes (over q) = false
same yes (no q) = false
same (over p) yes = false
same (over p) (over q) = eqb p q
same (over p) (no q) = false
same (no p) yes = false
same (no p) (over q) = false
same (no p) (no q) = eqb p q

same_eq : (v w : Judgement) → T (same v w) → v ≡ w
unfolding same
same_eq yes yes t = refl
same_eq yes (over q) t = absurd t
same_eq yes (no q) t = absurd t
same_eq (over p) yes t = absurd t
same_eq (over p) (over q) t = ap over (eqb→eq p q t)
same_eq (over p) (no q) t = absurd t
same_eq (no p) yes t = absurd t
same_eq (no p) (over q) t = absurd t
same_eq (no p) (no q) t = ap no (eqb→eq p q t)

right : Row → Bool
unfolding same
right (accepted s) = same (judge 64 (bytes s)) yes
right (refused s p) = same (judge 64 (bytes s)) (no p)
right (too_deep s p) = same (judge 64 (bytes s)) (over p)

all_right : List Row → Bool
unfolding right
all_right [] = true
all_right (row ∷ rows) = right row && all_right rows

tried : T (all_right table)
unfolding all_right right table nested judge read_on move within is_ws is_digit is_e is_short is_plain fits begin after item_first character
tried = tt

claimed : (row : Row) → T (right row) → Claimed row
unfolding right
claimed (accepted s) t = judge_yes 64 (bytes s) (same_eq (judge 64 (bytes s)) yes t)
claimed (refused s p) t = judge_no 64 (bytes s) p (same_eq (judge 64 (bytes s)) (no p) t)
claimed (too_deep s p) t = judge_over 64 (bytes s) p (same_eq (judge 64 (bytes s)) (over p) t)

meant : (rows : List Row) → T (all_right rows) → Meant rows
unfolding all_right
meant [] t = tt
meant (row ∷ rows) t = (claimed row (and_l (right row) (all_right rows) t), meant rows (and_r (right row) (all_right rows) t))

-- each row of the table is as it says
pub texts : Meant table
texts = meant table tried
