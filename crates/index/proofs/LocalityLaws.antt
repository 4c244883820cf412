-- Scan's locality: two records of one length that agree on the bytes of a chunk, and whose runs of backslashes ending at its border are
-- equally long, get the same words and the same job, whatever the job, the guess and the words.
use mathlib.Core.Path.{◌≡◌, refl, sym, ap, ap₂, ◌∙◌}
use mathlib.Core.Bool.{Bool, true, not, ◌&&◌}
use mathlib.Core.List.{List}
use Prim.Native.Nat.{ℕ, ◌+◌, ◌*◌, ◌-◌, ◌≤◌, ◌<◌}
use native.Mathlib.Omega.{arith}
use native.Mathlib.Decide.{dec_lt}
use native.Mathlib.Nat.{lt_of_not-le}
use lib.ListN.{length, get_or, get_or-eq_default}
use lib.Dec.{ltb}
use Rattle.rules.specs.Word.{xor, odd, count}
use Rattle.rules.specs.Bytes.{Class, opens, closes, is, has}
use Rattle.rules.specs.Bits.{quote_bit, plain}
use Rattle.rules.specs.Layout.{Bitmap, quotes, mask, colons, commas, width_of}
use Rattle.rules.proofs.Counting.{count_ext}
use Rattle.rules.proofs.WordLaws.{word_at_ext}
use Rattle.rules.proofs.LocalLaws.{SameBytes, quote_local}
use Rattle.chunks.specs.declared.Span.{Span}
use Rattle.index.specs.declared.Step.TheVariants.{Scan}
use Rattle.index.specs.declared.Chunk.{Chunk}
use Rattle.index.specs.declared.Job.{Job}
use Rattle.index.specs.declared.Kept.{Kept}
use Rattle.index.specs.Answers.{on_done}
use Rattle.index.specs.Checks.{chunk_at, with_chunk, span_of, refusal}
use Rattle.index.specs.Depth.{kept_of}
use Rattle.blocks.specs.Guessing.{guessed, guess_bit}
use Rattle.chunks.specs.Writing.{rewritten, marks_till}
use Rattle.chunks.specs.Sweeping.{swing_by, scan_word, scan_words}
use Rattle.index.specs.Scanning.{odd_in, scan_kept, scan_chunk, scanned, scanned_words}
use Rattle.index.specs.Frames.{SameChunk}
use Rattle.index.proofs.AnswerLaws.{handed}
use Rattle.blocks.proofs.SwingLaws.{swing_ext}
use Rattle.chunks.proofs.WriteLaws.{rewritten_ext}

-- the places of the chunk: a is its first, and it has m of them
module _ (chunk : Span) (text also : List ℕ) (same : SameChunk chunk text also) where
  a : ℕ
  a = 64 * chunk.from

  m : ℕ
  m = 64 * (chunk.to - chunk.from)

  -- behind the end both records have none
  bytes_local : SameBytes text also a m
  unfolding a m
  bytes_local j l = go (dec_lt (64 * chunk.from + j) (length text))
    where
      go : Dec (64 * chunk.from + j < length text) → get_or text (64 * chunk.from + j) 0 ≡ get_or also (64 * chunk.from + j) 0
      go (yes h) = same.bytes (64 * chunk.from + j) (omega arith) (omega arith) h
      go (no n) =
          let past : length text ≤ 64 * chunk.from + j = omega (arith, lt_of_not-le n) in
          get_or-eq_default text 0 past ∙ sym (get_or-eq_default also 0 (omega (arith, same.long)))

  quotes_local : (j : ℕ) → j < m → quote_bit text (a + j) ≡ quote_bit also (a + j)
  unfolding a
  quotes_local j l = quote_local text also (64 * chunk.from) same.run j (λ i h. bytes_local i (omega arith))

  count_local : (j : ℕ) → j ≤ m → count (λ i. quote_bit text (a + i)) j ≡ count (λ i. quote_bit also (a + i)) j
  count_local j l = count_ext _ _ j (λ i h. quotes_local i (omega arith))

  module _ (g : Bool) where
    mask_local : (j : ℕ) → j < m → guess_bit g a text (a + j) ≡ guess_bit g a also (a + j)
    unfolding guess_bit guessed
    mask_local j l =
        let e : a + j - a ≡ j = omega arith in
        ap₂ (λ (n x : ℕ). ltb (a + j) n && xor (odd x) g) same.long (rw e (count_local j (omega arith)))

    plain_local : (c : Class) (j : ℕ) → j < m → plain (guess_bit g a text) c text (a + j) ≡ plain (guess_bit g a also) c also (a + j)
    unfolding plain has
    plain_local c j l = ap₂ (λ (b : ℕ) (x : Bool). is c b && not x) (bytes_local j l) (mask_local j l)

    -- the kept values
    kept_local : scan_kept text chunk g ≡ scan_kept also chunk g
    unfolding scan_kept odd_in swing_by a m
    kept_local =
        ap₂ kept_of (ap odd (count_local (64 * (chunk.to - chunk.from)) (omega arith)))
        (swing_ext _ _ _ _ (64 * (chunk.to - chunk.from)) (λ j l. (plain_local opens j l, plain_local closes j l)))

    -- and the words
    word_local : (b : Bitmap) (w : ℕ) → chunk.from ≤ w → w < marks_till chunk.to chunk.to b → scan_word text g chunk.from b w ≡ scan_word also g chunk.from b w
    unfolding scan_word marks_till a m
    word_local quotes w h l = word_at_ext _ _ w (λ b k. at b k)
      where
        at : (b : ℕ) → b < 64 → quote_bit text (64 * w + b) ≡ quote_bit also (64 * w + b)
        at b k = let e : a + (64 * w + b - a) ≡ 64 * w + b = omega arith in rw e at (quotes_local (64 * w + b - a) (omega arith))
    word_local mask w h l = word_at_ext _ _ w (λ b k. at b k)
      where
        at : (b : ℕ) → b < 64 → guess_bit g a text (64 * w + b) ≡ guess_bit g a also (64 * w + b)
        at b k = let e : a + (64 * w + b - a) ≡ 64 * w + b = omega arith in rw e at (mask_local (64 * w + b - a) (omega arith))
    word_local (colons k) w h l = refl
    word_local (commas k) w h l = refl

    words_local : (levels : ℕ) (words : List ℕ) → scan_words text levels chunk.from chunk.to g words ≡ scan_words also levels chunk.from chunk.to g words
    unfolding scan_words
    words_local levels words =
        rewritten_ext levels (width_of (length text)) _ chunk.from _ _ words word_local
        ∙ ap (λ (n : ℕ). rewritten levels (width_of n) (marks_till chunk.to chunk.to) chunk.from (scan_word also g chunk.from) words) same.long

-- ---- the step

-- a scanned chunk, by what it keeps
abbrev keeping : Chunk → Bool → Kept → Chunk
keeping c g x = record { cut = c.cut; scanned = true; settled = c.settled; levelled = c.levelled; inside = g; start = c.start; kept = x }

module _ (j : Job) (k : ℕ) (g : Bool) (text also : List ℕ) (same : SameChunk (span_of j (length text) k) text also) where
  chunk_local : scan_chunk j text k g ≡ scan_chunk j also k g
  unfolding scan_chunk
  chunk_local =
      ap (λ (x : Kept). keeping (chunk_at j k) g x)
      (kept_local (span_of j (length text) k) text also same g ∙ ap (λ (n : ℕ). scan_kept also (span_of j n k) g) same.long)

  -- the same answer and the same job, what it keeps included
  pub scan_local : (w : ℕ) → scanned j text w k g ≡ scanned j also w k g
  unfolding scanned
  scan_local w = ap₂ (λ (n : ℕ) (c : Chunk). handed (refusal Scan j n w k) (on_done (refusal Scan j n w k) (with_chunk j k c) j)) same.long chunk_local

  -- and the same words
  pub scan_words_local : (words : List ℕ) → scanned_words j text words k g ≡ scanned_words j also words k g
  unfolding scanned_words
  scan_words_local words =
      ap₂ (λ (n : ℕ) (x : List ℕ). on_done (refusal Scan j n (length words) k) x words) same.long
      (words_local (span_of j (length text) k) text also same g j.levels words
      ∙ ap (λ (n : ℕ). scan_words also j.levels (span_of j n k).from (span_of j n k).to g words) same.long)
