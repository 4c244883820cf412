-- `settle_kept` meets its contract: a right guess changes nothing.
use mathlib.Core.Path.{◌≡◌, sym, ap, ap₂, ◌∙◌, subst}
use mathlib.Core.Bool.{Bool, true, false, not}
use mathlib.Core.List.{List}
use Prim.Native.Nat.{ℕ}
use lib.ListN.{length}
use Rattle.rules.specs.Word.{xor}
use Rattle.index.specs.declared.Kept.{Kept}
use Rattle.index.specs.declared.Chunk.{Chunk}
use Rattle.index.specs.declared.Job.{Job}
use Rattle.chunks.specs.declared.Span.{Span}
use Rattle.blocks.specs.declared.swing.Swing.{Swing}
use Rattle.blocks.specs.Swinging.{Small}
use Rattle.index.specs.Checks.{chunk_at, span_of}
use Rattle.index.specs.Depth.{kept_of}
use Rattle.chunks.specs.Flipping.{flip_words, swing_in}
use Rattle.index.specs.Settling.{guess_wrong, settle_kept, settle_words}
use Rattle.index.proofs.Differs.{xor_ne}
use Rattle.index.proofs.StepLaws.{lent_chunk, small_swing}
use Rattle.index.proofs.Job.settle_kept.Goals as goal

module _ (j : Job) (text words after : List ℕ) (k : ℕ) where
  right : guess_wrong j k ≡ false → ((chunk_at j k).kept ≡ settle_kept j text words k) × (words ≡ settle_words j text words k)
  unfolding settle_kept settle_words
  right e = (rw e, rw e)

  wrong : guess_wrong j k ≡ true → {s : Span} {swing : Swing} {kept : Kept} → s ≡ span_of j (length text) k → swing ≡ swing_in text after j.levels s.from s.to
      → kept ≡ kept_of (chunk_at j k).kept.odd swing → after ≡ flip_words (length text) j.levels s.from s.to words → (kept ≡ settle_kept j text after k) × (after ≡ settle_words j text words k)
  unfolding settle_kept settle_words
  wrong e {s} {swing} {kept} es ew ek ea = (
    ek ∙ ap (kept_of (chunk_at j k).kept.odd) (ew ∙ ap (λ (x : Span). swing_in text after j.levels x.from x.to) es) ∙ rw e,
    ea ∙ ap (λ (x : Span). flip_words (length text) j.levels x.from x.to words) es ∙ rw e,
  )

pub returns-then-c-inside_of : goal.returns-then-c-inside_of
unfolding guess_wrong
returns-then-c-inside_of c = let a = c.args in
    let alike = xor_ne _ _ ∙ ap₂ (λ (x : Chunk) (b : Bool). xor x.inside b) c.chunk-c.ensures c.inside_of.ensures in
    let is = right a.self a.text.now a.words.now a.words.now a.k (sym alike ∙ ap not c.if-c-inside_of.true) in
    record { value = ap (λ (x : Chunk). x.kept) c.chunk-c.ensures ∙ is.0; words_after = is.1 }

pub flip_words-swing-requires : goal.flip_words-swing-requires
flip_words-swing-requires c = let a = c.args in rw c.span-s.ensures (lent_chunk a.self a.text.now a.words.now a.k c.requires)

pub kept_of-requires : goal.kept_of-requires
unfolding swing_in
kept_of-requires c = let a = c.args in
    let s = c.span-s.result in
    subst (Small 16777216) (sym c.flip_words-swing.ensures.value)
    (small_swing _ a.text.now a.words.now a.self.levels s.from s.to (rw c.span-s.ensures (lent_chunk a.self a.text.now a.words.now a.k c.requires)))

pub returns : goal.returns
unfolding guess_wrong
returns c = let a = c.args in
    let alike = xor_ne _ _ ∙ ap₂ (λ (x : Chunk) (b : Bool). xor x.inside b) c.chunk-c.ensures c.inside_of.ensures in
    let kept = c.kept_of.ensures ∙ ap (λ (x : Chunk). kept_of x.kept.odd c.flip_words-swing.result) c.chunk-c.ensures in
    let is = wrong a.self a.text.now a.words.now c.flip_words-swing.new.words a.k (sym alike ∙ ap not c.if-c-inside_of.false) c.span-s.ensures c.flip_words-swing.ensures.value kept c.flip_words-swing.ensures.words_after in
    record { value = is.0; words_after = is.1 }
