-- Each number of a table exactly under its condition, and what a refused and a made table hold.
use Prim.Native.Nat.{ℕ, zero, suc, ◌+◌, ◌*◌, ◌-◌, ◌/◌, ◌≤◌, ◌<◌}
use mathlib.Core.Path.{◌≡◌, refl, sym, ap, ap₂, ◌∙◌, subst}
use mathlib.Core.List.{List, [], ◌∷◌, ◌++◌, append_assoc}
use mathlib.Core.Logic.{inl, inr}
use Rattle.std.specs.Prelude.{Ok, Err}
use native.Mathlib.Omega.{arith}
use native.Mathlib.Nat.{add-zero, zero-add}
use native.Mathlib.Decide.{ℕ_discrete, dec_lt}
use lib.ListN.{length, get_or, take, drop, length-append, length-drop}
use lib.Seq.{get_or_at, get_or-append-add, get_or-drop}
use Rattle.lines.specs.Lines.{Entry, lines, IsLine, At}
use Rattle.lines.specs.Tables.{tabled_number, entries_of, entries, table_with, table_answer, on_tabled, table_after, Tabled}
use Rattle.lines.specs.Tables as tabled
use Rattle.lines.proofs.WhereLaws.{at_part}
use Rattle.lines.proofs.TableLaws.{length_entries, table_empty, table_long, table_many, table_made}
use Rattle.lines.specs.Jobs.{line_at, bytes_at, line_of}
use Rattle.linewise.specs.Cutting.{Among, TableNumbers, EntryIs, Entered, Made}
use Rattle.linewise.proofs.Cutting.{inside, lines_exactly}

module _ (text table : List ℕ) where
  abbrev n : ℕ
  n = length text

  abbrev m : ℕ
  m = length (lines text)

  abbrev number : ℕ
  number = tabled_number (table_answer text table)

  -- by the first condition that holds
  pub table_numbers : TableNumbers n m (length table) number
  table_numbers = empty (ℕ_discrete n 0)
    where
      made : 1 ≤ n → n ≤ 16777216 → Dec (entries_of table < m) → TableNumbers n m (length table) number
      made a b (yes l) =
          let e : 31 ≡ number = ap tabled_number (table_many text table a b l).0 in
          record {
            one = (λ q. omega (arith, e), λ q. omega (arith, e));
            two = (λ q. omega (arith, e), λ q. omega (arith, e));
            thirty_one = (λ q. (a, (b, l)), λ q. sym e);
            zero = (λ q. absurd (omega (arith, e)), λ q. absurd (omega (arith, q.1.1, l)));
            no_other = inr (inr (inr (sym e)));
          }
      made a b (no l) =
          let e : 0 ≡ number = ap tabled_number (table_made text table a b (omega (arith, l)) refl).0 in
          record {
            one = (λ q. omega (arith, e), λ q. omega (arith, e));
            two = (λ q. omega (arith, e), λ q. omega (arith, e));
            thirty_one = (λ q. absurd (omega (arith, e)), λ q. absurd (omega (arith, q.1.1, l)));
            zero = (λ q. (a, (b, omega (arith, l))), λ q. sym e);
            no_other = inl (sym e);
          }

      long : 1 ≤ n → Dec (16777216 < n) → TableNumbers n m (length table) number
      long a (yes l) =
          let e : 2 ≡ number = ap tabled_number (table_long text table l).0 in
          record {
            one = (λ q. omega (arith, e), λ q. omega (arith, e));
            two = (λ q. l, λ q. sym e);
            thirty_one = (λ q. absurd (omega (arith, e)), λ q. absurd (omega (arith, q.1.0)));
            zero = (λ q. absurd (omega (arith, e)), λ q. absurd (omega (arith, q.1.0)));
            no_other = inr (inr (inl (sym e)));
          }
      long a (no l) = made a (omega (arith, l)) (dec_lt (entries_of table) m)

      empty : Dec (n ≡ 0) → TableNumbers n m (length table) number
      empty (yes z) =
          let e : 1 ≡ number = ap tabled_number (table_empty text table z).0 in
          record {
            one = (λ q. z, λ q. sym e);
            two = (λ q. omega (arith, e), λ q. omega (arith, e));
            thirty_one = (λ q. absurd (omega (arith, e)), λ q. absurd (omega (arith, q.0)));
            zero = (λ q. absurd (omega (arith, e)), λ q. absurd (omega (arith, q.0)));
            no_other = inr (inl (sym e));
          }
      empty (no z) = long (omega (arith, z)) (dec_lt 16777216 n)

  -- "the table unchanged"
  pub table_refused : (number ≡ 0 → ⊥) → table_after text table ≡ table
  unfolding table_after
  table_refused other = go (table_answer text table) other
    where
      go : (t : Tabled) → (tabled_number t ≡ 0 → ⊥) → on_tabled t (table_with (lines text) table) table ≡ table
      go (Ok k) o = absurd (o refl)
      go (Err r) o = refl

  -- any two outcomes coincide
  pub table_one : {r q : Tabled} {a b : List ℕ} → (r ≡ table_answer text table) × (a ≡ table_after text table) → (q ≡ table_answer text table) × (b ≡ table_after text table) → (r ≡ q) × (a ≡ b)
  table_one x y = (x.0 ∙ sym y.0, x.1 ∙ sym y.1)

-- ---- what a made table holds

held : (es : List Entry) (i : ℕ) (before rest : List ℕ) → length before ≡ 2 * i → Entered (before ++ (entries es ++ rest)) i es
unfolding entries
held [] i before rest l = tt
held (e ∷ es) i before rest l =
    let two = length-append before (e.start ∷ e.end ∷ []) in (
      (
        get_or_at before e.start (e.end ∷ (entries es ++ rest)) 0 (2 * i) l,
        ap (λ (t : List ℕ). get_or t (2 * i + 1) 0) (sym (append_assoc before (e.start ∷ []) (e.end ∷ (entries es ++ rest))))
            ∙ get_or_at (before ++ e.start ∷ []) e.end (entries es ++ rest) 0 (2 * i + 1) (length-append before (e.start ∷ []) ∙ omega (arith, l)),
      ),
      subst (λ (t : List ℕ). Entered t (suc i) es) (append_assoc before (e.start ∷ e.end ∷ []) (entries es ++ rest)) (held es (suc i) (before ++ e.start ∷ e.end ∷ []) rest (two ∙ omega (arith, l))),
    )

-- an entry by its number, and the number of one
entry_at : (table : List ℕ) (es : List Entry) (i k : ℕ) → Entered table i es → k < length es → (e : Entry) × (Among e es × EntryIs table (i + k) e)
entry_at table [] i k h l = absurd (omega arith)
entry_at table (e ∷ es) i zero h l = (e, (inl refl, rw add-zero h.0))
entry_at table (e ∷ es) i (suc k) h l =
    let f = entry_at table es (suc i) k h.1 (omega arith) in
    let same : suc i + k ≡ i + suc k = omega arith in
    (f.0, (inr f.1.0, rw (← same) f.1.1))

number_of : (table : List ℕ) (es : List Entry) (i : ℕ) (e : Entry) → Entered table i es → Among e es → (k : ℕ) × ((k < length es) × EntryIs table (i + k) e)
number_of table [] i e h m = absurd m
number_of table (f ∷ es) i e h (inl q) = (0, (omega arith, rw (add-zero, q) h.0))
number_of table (f ∷ es) i e h (inr m) =
    let n = number_of table es (suc i) e h.1 m in
    let same : suc i + n.0 ≡ i + suc n.0 = omega arith in
    (suc n.0, (omega (arith, n.1.0), rw (← same) n.1.1))

-- an entry that is a part of the text lies there
line_there : (n : ℕ) (table : List ℕ) (i : ℕ) (e : Entry) → EntryIs table i e → i < entries_of table → e.start ≤ e.end → e.end ≤ n → line_at n table i ≡ At e.start e.end
line_there n table i e is l o p = at_part n table i l (omega (arith, is, o)) (omega (arith, is, p)) ∙ ap₂ At is.0 is.1

module _ (text table : List ℕ) (made : tabled_number (table_answer text table) ≡ 0) where
  conditions : (1 ≤ length text) × ((length text ≤ 16777216) × (length (lines text) ≤ length table / 2))
  conditions = (table_numbers text table).zero.0 made

  -- it answers how many lines there are, and lists them
  pub table_lists : (table_answer text table ≡ tabled.Lines (length (lines text))) × Made text table (table_after text table)
  unfolding table_with
  table_lists =
      let t = table_made text table conditions.0 conditions.1.0 conditions.1.1 refl in
      let k = length_entries (lines text) in
      let rest = drop (2 * length (lines text)) table in (
        sym t.0,
        rw (← t.1)
            (record {
              lists = held (lines text) 0 [] rest refl;
              behind = λ j l.
                  let at : length (entries (lines text)) + (j - 2 * length (lines text)) ≡ j = omega (arith, k, l) in
                  let back : 2 * length (lines text) + (j - 2 * length (lines text)) ≡ j = omega (arith, l) in
                  ap (λ (x : ℕ). get_or (entries (lines text) ++ rest) x 0) (sym at) ∙ get_or-append-add (entries (lines text)) rest (j - 2 * length (lines text)) 0
                  ∙ get_or-drop (2 * length (lines text)) table (j - 2 * length (lines text)) 0 ∙ ap (λ (x : ℕ). get_or table x 0) back;
              as_long = length-append (entries (lines text)) rest ∙ omega (arith, k, length-drop (2 * length (lines text)) table, conditions.1.1);
            }),
      )

  abbrev after : List ℕ
  after = table_after text table

  -- its line i is a line of the text, and that line's bytes are indexed
  pub made_line : (i : ℕ) → i < length (lines text) → (e : Entry) × (IsLine text e × (EntryIs after i e × (line_of text after i ≡ take (e.end - e.start) (drop e.start text))))
  unfolding line_of
  made_line i l =
      let f = entry_at after (lines text) 0 i table_lists.1.lists l in
      let is = (lines_exactly text f.0).0 f.1.0 in
      let own : EntryIs after i f.0 = subst (λ (k : ℕ). EntryIs after k f.0) (zero-add i) f.1.1 in
      (f.0, (is, (own, ap (bytes_at text) (line_there (length text) after i f.0 own (omega (arith, l, table_lists.1.as_long, conditions.1.1)) (omega (arith, is.within)) (inside text f.0 is)))))

  -- and each line of the text is one of its lines
  pub line_made : (e : Entry) → IsLine text e → (i : ℕ) × ((i < length (lines text)) × EntryIs after i e)
  line_made e is =
      let n = number_of after (lines text) 0 e table_lists.1.lists ((lines_exactly text e).1 is) in
      (n.0, (n.1.0, subst (λ (k : ℕ). EntryIs after k e) (zero-add n.0) n.1.1))
