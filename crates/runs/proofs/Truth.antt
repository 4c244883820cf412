-- What is true of a chunk, by the steps it has had: its words, and once settled the state at its border and what it keeps. Only its own words
-- and its own record are spoken of, so a step on another chunk leaves it true.
use mathlib.Core.Path.{◌≡◌, ◌∙◌}
use mathlib.Core.Bool.{Bool, true, false}
use mathlib.Core.List.{List}
use Prim.Native.Nat.{ℕ, ◌+◌, ◌*◌, ◌-◌, ◌≤◌, ◌<◌, min}
use lib.ListN.{length}
use Rattle.rules.specs.Word.{count, word_at}
use Rattle.rules.specs.Bits.{quote_bit, in_string, mask_bit, opener, closer, colon_bit, comma_bit}
use Rattle.rules.specs.Faults.{fault_from, fault_of}
use Rattle.rules.specs.Layout.{Bitmap, quotes, mask, colons, commas, Has}
use Rattle.index.specs.Types.{Chunk}
use Rattle.index.specs.Types.{Span}
use Rattle.blocks.specs.Guessing.{guess_bit}
use Rattle.index.specs.Depth.{kept_of}
use Rattle.chunks.specs.Sweeping.{swing_by}
use Rattle.index.specs.Scanning.{odd_in, scan_kept}
use Rattle.runs.proofs.Walks.{Depth}

-- a word of the chunk
abbrev pub InSpan : Span → ℕ → Type 0
InSpan s w = (s.from ≤ w) × (w < s.to)

-- the state at the border of a settled chunk, and what it keeps, are those of the rules
pub record Truth (text : List ℕ) (c : Chunk) (s : Span) : Type 0 where
  pub scanned_is : c.scanned ≡ true
  pub inside_is : c.inside ≡ in_string text (64 * s.from)
  pub depth_is : Depth text c.start (64 * s.from)
  pub shallow : c.start ≤ 64
  pub kept_is : c.kept ≡ kept_of (odd_in text s.from s.to) (swing_by (mask_bit text) text (64 * s.from) (64 * (s.to - s.from)))

-- the words of the chunk are w by w those of the bitmap p
abbrev pub Holds : (Bitmap → ℕ → ℕ) → Span → Bitmap → (ℕ → Bool) → Type 0
Holds g s b p = (w : ℕ) → InSpan s w → g b w ≡ word_at p w

-- g is what the words hold
pub record ChunkOk (text : List ℕ) (levels : ℕ) (g : Bitmap → ℕ → ℕ) (c : Chunk) (s : Span) : Type 0 where
  pub quoted : c.scanned ≡ true → Holds g s quotes (quote_bit text)
  pub guess_kept : c.scanned ≡ true → c.settled ≡ false → c.kept ≡ scan_kept text s c.inside
  pub guess_mask : c.scanned ≡ true → c.settled ≡ false → Holds g s mask (guess_bit c.inside (64 * s.from) text)
  pub truth : c.settled ≡ true → Truth text c s
  pub masked : c.settled ≡ true → Holds g s mask (mask_bit text)
  pub settled_first : c.levelled ≡ true → c.settled ≡ true
  pub coloned : c.levelled ≡ true → (k : ℕ) → Has levels (colons k) → Holds g s (colons k) (colon_bit text k)
  pub comma_ed : c.levelled ≡ true → (k : ℕ) → Has levels (commas k) → Holds g s (commas k) (comma_bit text k)

-- other words elsewhere change nothing
pub ok_frame : {text : List ℕ} {levels : ℕ} {g h : Bitmap → ℕ → ℕ} {c : Chunk} {s : Span} → ((b : Bitmap) → Has levels b → (w : ℕ) → InSpan s w → h b w ≡ g b w)
    → ChunkOk text levels g c s → ChunkOk text levels h c s
ok_frame same ok =
    record {
      quoted = λ e w i. same quotes tt w i ∙ ok.quoted e w i;
      guess_kept = ok.guess_kept;
      guess_mask = λ e f w i. same mask tt w i ∙ ok.guess_mask e f w i;
      truth = ok.truth;
      masked = λ e w i. same mask tt w i ∙ ok.masked e w i;
      settled_first = ok.settled_first;
      coloned = λ e k h w i. same (colons k) h w i ∙ ok.coloned e k h w i;
      comma_ed = λ e k h w i. same (commas k) h w i ∙ ok.comma_ed e k h w i;
    }

-- no fault of the record lies before the end of the chunk; `behind` is the depth there
pub record Clear (text : List ℕ) (c : Chunk) (s : Span) : Type 0 where
  pub behind : ℕ
  pub within : behind ≤ 64
  pub swings : c.start + count (λ j. opener text (64 * s.from + j)) (64 * (s.to - s.from)) ≡ behind + count (λ j. closer text (64 * s.from + j)) (64 * (s.to - s.from))
  pub none_yet : fault_of text ≡ fault_from text (min (64 * s.to) (length text)) (length text - min (64 * s.to) (length text))
