-- How the laws speak of what a step may touch: the words that it may write, and the bytes that a scan may use.
use Rattle.std.specs.Prelude.{ℕ, ◌*◌, ◌≤◌, ◌<◌, ◌≡◌, Bool, true, false, List, length, get_or}
use Rattle.rules.specs.Bits.{run_before}
use Rattle.rules.specs.Layout.{Bitmap, quotes, mask, colons, commas, width_of, Has, cell}
use Rattle.index.specs.declared.Step.{Step}
use Rattle.index.specs.declared.Step.TheVariants.{Scan, Settle, Level}
use Rattle.index.specs.declared.Job.{Job}
use Rattle.chunks.specs.declared.Span.{Span}
use Rattle.index.specs.Checks.{span_of}

-- scan "writes that chunk's quote words, and its mask words"; settle its mask words and "no other word"; level "colon and comma words at
-- every level, and no others"
abbrev pub writes : Step → Bitmap → Bool
writes Scan quotes = true
writes Scan mask = true
writes Scan (colons k) = false
writes Scan (commas k) = false
writes Settle quotes = false
writes Settle mask = true
writes Settle (colons k) = false
writes Settle (commas k) = false
writes Level quotes = false
writes Level mask = false
writes Level (colons k) = true
writes Level (commas k) = true

-- word w of bitmap b is one that the step may write: in a bitmap of the step's, and in the chunk
pub record MayWrite (s : Step) (chunk : Span) (b : Bitmap) (w : ℕ) : Type 0 where
  pub bitmap : writes s b ≡ true
  pub begun : chunk.from ≤ w
  pub before_end : w < chunk.to

-- "No step writes a word of another chunk": the number of words stays, and so does each word that the step may not write
pub record Frame (s : Step) (j : Job) (n k : ℕ) (words after : List ℕ) : Type 0 where
  pub long : length after ≡ length words
  pub others : (b : Bitmap) → Has j.levels b → (w : ℕ) → w < width_of n → (MayWrite s (span_of j n k) b w → ⊥) → cell after j.levels (width_of n) b w ≡ cell words j.levels (width_of n) b w

-- "The bytes it may use are the chunk's own and the backslash run ending at its border": two records of one length that agree on those
pub record SameChunk (chunk : Span) (text also : List ℕ) : Type 0 where
  pub long : length text ≡ length also
  pub bytes : (i : ℕ) → 64 * chunk.from ≤ i → i < 64 * chunk.to → i < length text → get_or text i 0 ≡ get_or also i 0
  pub run : run_before text (64 * chunk.from) ≡ run_before also (64 * chunk.from)
