-- Each accepted step keeps what is true of its chunk: scan its guess, settle the truth, level the levels. The other chunks are not touched.
use mathlib.Core.Path.{◌≡◌, refl, sym, ap, ap₂, ◌∙◌, subst}
use mathlib.Core.Bool.{Bool, true, false, ◌&&◌}
use mathlib.Core.List.{List}
use Prim.Native.Nat.{ℕ, ◌+◌, ◌*◌, ◌-◌, ◌≤◌, ◌<◌}
use native.Mathlib.Omega.{arith}
use lib.ListN.{length}
use Rattle.rules.specs.Word.{xor}
use Rattle.rules.specs.Bits.{quote_bit, in_string, mask_bit}
use Rattle.rules.specs.Layout.{quotes, mask, width_of, cell}
use Rattle.rules.proofs.WordLaws.{word_at_ext}
use Rattle.rules.proofs.Booleans.{impossible}
use Rattle.index.specs.Types.{Kept}
use Rattle.index.specs.Types.{Chunk}
use Rattle.index.specs.declared.Job.{Job}
use Rattle.index.specs.Types.{Span}
use Rattle.blocks.specs.Guessing.{guess_bit}
use Rattle.index.specs.Depth.{kept_of}
use Rattle.index.specs.Checks.{chunk_at, span_of}
use Rattle.chunks.specs.Writing.{levels_till}
use Rattle.chunks.specs.Sweeping.{swing_by, scan_words}
use Rattle.index.specs.Scanning.{odd_in, scan_kept, scan_chunk}
use Rattle.chunks.specs.Flipping.{mask_in, flip_words, swing_in}
use Rattle.index.specs.Settling.{inside_of, start_depth, guess_wrong, settle_words, settle_kept, settle_chunk}
use Rattle.chunks.specs.Levels.{level_words}
use Rattle.index.specs.Levelling.{level_chunk}
use Rattle.chunks.proofs.ScanLaws.{swing_by_ext}
use Rattle.runs.proofs.Walks.{Depth}
use Rattle.runs.proofs.Truth.{Truth, Holds, ChunkOk}
use Rattle.runs.proofs.Words.{guess_right, mask_bit_is, scan_quotes, scan_mask, flip_mask, flip_quotes, level_colons, level_commas, level_marks}

pub clash : {A : Type 0} (b : Bool) → b ≡ true → b ≡ false → A
clash b p q = impossible (cc)

pub both : (a b : Bool) → (a && b) ≡ true → (a ≡ true) × (b ≡ true)
both true b p = (refl, p)
both false b p = clash false p refl

is_false : (b : Bool) → (b ≡ true → ⊥) → b ≡ false
is_false true h = absurd (h refl)
is_false false h = refl

xor_same : (a b : Bool) → xor a b ≡ false → a ≡ b
xor_same true true e = refl
xor_same true false e = clash true refl e
xor_same false true e = clash true refl e
xor_same false false e = refl

module _ (text : List ℕ) (levels : ℕ) (j : Job) (words : List ℕ) (k : ℕ) (deep : j.levels ≡ levels) where
  abbrev W : ℕ
  W = width_of (length text)

  abbrev c : Chunk
  c = chunk_at j k

  abbrev s : Span
  s = span_of j (length text) k

  module _ (t : s.to ≤ W) (ok : ChunkOk text levels (cell words levels W) c s) where
    -- ---- scan
    pub unsettled : c.scanned ≡ false → c.settled ≡ false
    unsettled e = is_false c.settled (λ p. clash c.scanned (ok.truth p).scanned_is e)

    pub scan_ok : (g : Bool) → c.scanned ≡ false → ChunkOk text levels (cell (scan_words text j.levels s.from s.to g words) levels W) (scan_chunk j text k g) s
    unfolding scan_chunk
    scan_ok g e =
        let unset = unsettled e in
        record {
          quoted = λ p. subst (λ (x : ℕ). Holds (cell (scan_words text x s.from s.to g words) levels W) s quotes (quote_bit text)) (sym deep) (scan_quotes text levels s words t g);
          guess_kept = λ p q. refl;
          guess_mask = λ p q. subst (λ (x : ℕ). Holds (cell (scan_words text x s.from s.to g words) levels W) s mask (guess_bit g (64 * s.from) text)) (sym deep) (scan_mask text levels s words t g);
          truth = λ p. clash c.settled p unset;
          masked = λ p. clash c.settled p unset;
          settled_first = λ p. clash c.settled (ok.settled_first p) unset;
          coloned = λ p. clash c.settled (ok.settled_first p) unset;
          comma_ed = λ p. clash c.settled (ok.settled_first p) unset;
        }

    -- ---- settle, with the truth at the border
    module _ (scanned : c.scanned ≡ true) (unset : c.settled ≡ false) (inside : inside_of j k ≡ in_string text (64 * s.from)) (depth : Depth text (start_depth j k) (64 * s.from)) (shallow : start_depth j k ≤ 64) where
      abbrev after : List ℕ
      after = settle_words j text words k

      -- by whether the guess was right
      by_guess : (d : Bool) → guess_wrong j k ≡ d → Holds (cell after levels W) s mask (mask_bit text) × ((w : ℕ) → w < W → cell after levels W quotes w ≡ cell words levels W quotes w)
      unfolding settle_words guess_wrong
      by_guess true e =
          let same : after ≡ flip_words (length text) levels s.from s.to words = rw e (ap (λ (x : ℕ). flip_words (length text) x s.from s.to words) deep) in
          let flipped = flip_mask text levels s words t c.inside (ap (xor c.inside) (sym inside) ∙ e) (ok.guess_mask scanned unset) in (
            subst (λ (x : List ℕ). Holds (cell x levels W) s mask (mask_bit text)) (sym same) flipped,
            λ w l. ap (λ (x : List ℕ). cell x levels W quotes w) same ∙ flip_quotes text levels s words t w l,
          )
      by_guess false e =
          let same : after ≡ words = rw e in
          let right : c.inside ≡ in_string text (64 * s.from) = xor_same c.inside (inside_of j k) e ∙ inside in (
            λ w i.
                ap (λ (x : List ℕ). cell x levels W mask w) same ∙ ok.guess_mask scanned unset w i
                ∙ word_at_ext _ _ w (λ b l. guess_right text c.inside (64 * s.from) right (64 * w + b) (omega (arith, i))),
            λ w l. ap (λ (x : List ℕ). cell x levels W quotes w) same,
          )

      pub settle_mask : Holds (cell after levels W) s mask (mask_bit text)
      settle_mask = (by_guess (guess_wrong j k) refl).0

      -- the mask bit by bit, at the places of the chunk
      pub settle_bits : (i : ℕ) → i < 64 * (s.to - s.from) → mask_in after levels (length text) (64 * s.from + i) ≡ mask_bit text (64 * s.from + i)
      settle_bits i l = mask_bit_is text after levels s (mask_bit text) t settle_mask (64 * s.from + i) (omega arith) (omega arith)

      kept_true : (d : Bool) → guess_wrong j k ≡ d → settle_kept j text after k ≡ kept_of (odd_in text s.from s.to) (swing_by (mask_bit text) text (64 * s.from) (64 * (s.to - s.from)))
      unfolding settle_kept guess_wrong scan_kept kept_of swing_in
      kept_true true e =
          rw e
          (
          ap₂ (λ (o : Bool) (x : ℕ). kept_of o (swing_by (mask_in after x (length text)) text (64 * s.from) (64 * (s.to - s.from)))) (ap (λ (x : Kept). x.odd) (ok.guess_kept scanned unset)) deep
          ∙ ap (kept_of (odd_in text s.from s.to)) (swing_by_ext (mask_in after levels (length text)) (mask_bit text) text (64 * s.from) (64 * (s.to - s.from)) settle_bits)
          )
      kept_true false e =
          let right : c.inside ≡ in_string text (64 * s.from) = xor_same c.inside (inside_of j k) e ∙ inside in
          rw e
          (
          ok.guess_kept scanned unset
          ∙ ap (kept_of (odd_in text s.from s.to))
          (swing_by_ext (guess_bit c.inside (64 * s.from) text) (mask_bit text) text (64 * s.from) (64 * (s.to - s.from)) (λ i l. guess_right text c.inside (64 * s.from) right (64 * s.from + i) (omega arith)))
          )

      pub settle_truth : Truth text (settle_chunk j text after k) s
      unfolding settle_chunk
      settle_truth =
          record { scanned_is = scanned; inside_is = inside; depth_is = depth; shallow = shallow; kept_is = kept_true (guess_wrong j k) refl }

      pub settle_ok : ChunkOk text levels (cell after levels W) (settle_chunk j text after k) s
      unfolding settle_chunk
      settle_ok =
          record {
            quoted = λ p w i. (by_guess (guess_wrong j k) refl).1 w (omega (arith, i)) ∙ ok.quoted scanned w i;
            guess_kept = λ p q. clash true refl q;
            guess_mask = λ p q. clash true refl q;
            truth = λ p. settle_truth;
            masked = λ p. settle_mask;
            settled_first = λ p. refl;
            coloned = λ p. clash c.settled (ok.settled_first p) unset;
            comma_ed = λ p. clash c.settled (ok.settled_first p) unset;
          }

    -- ---- level
    pub level_ok : c.settled ≡ true → ChunkOk text levels (cell (level_words text j.levels s.from s.to c.start words) levels W) (level_chunk j k) s
    unfolding level_chunk levels_till
    level_ok set =
        subst (λ (x : ℕ). ChunkOk text levels (cell (level_words text x s.from s.to c.start words) levels W) (level_chunk j k) s) (sym deep)
        (
        let depth = (ok.truth set).depth_is in
        let masks = ok.masked set in
        let marks = level_marks text words levels s c.start t masks depth in
        record {
          quoted = λ p w i. marks quotes tt w (omega (arith, i)) refl ∙ ok.quoted p w i;
          guess_kept = λ p q. clash c.settled set q;
          guess_mask = λ p q. clash c.settled set q;
          truth = λ p. relabel (ok.truth set);
          masked = λ p w i. marks mask tt w (omega (arith, i)) refl ∙ ok.masked p w i;
          settled_first = λ p. set;
          coloned = λ p. level_colons text words levels s c.start t masks depth;
          comma_ed = λ p. level_commas text words levels s c.start t masks depth;
        }
        )
      where
        relabel : Truth text c s → Truth text (level_chunk j k) s
        relabel h = record { scanned_is = h.scanned_is; inside_is = h.inside_is; depth_is = h.depth_is; shallow = h.shallow; kept_is = h.kept_is }
