-- `scan_chunk` meets its contract.
use mathlib.Core.Path.{◌≡◌, sym, ap, ap₂, ◌∙◌, subst}
use mathlib.Core.Bool.{Bool, true}
use mathlib.Core.List.{List}
use Prim.Native.Nat.{ℕ, ◌+◌, ◌*◌, ◌-◌}
use native.Mathlib.Omega.{arith}
use Rattle.rules.specs.Word.{xor, odd, count}
use Rattle.rules.specs.Bits.{quote_bit}
use Rattle.rules.proofs.Booleans.{bool2}
use Rattle.index.specs.declared.Kept.{Kept}
use Rattle.index.specs.declared.Chunk.{Chunk}
use Rattle.chunks.specs.declared.Span.{Span}
use Rattle.chunks.specs.declared.scanning.Swept.{Swept}
use Rattle.blocks.specs.Guessing.{guessed}
use Rattle.blocks.specs.Swinging.{Small}
use Rattle.index.specs.Depth.{kept_of}
use Rattle.chunks.specs.Sweeping.{swept_of, scan_words}
use Rattle.index.specs.Scanning.{odd_in, scan_kept, scan_chunk}
use Rattle.index.proofs.Differs.{xor_ne}
use Rattle.index.proofs.StepLaws.{lent_chunk, small_swing}
use Rattle.index.proofs.Job.scan_chunk.Goals as goal

unflip : (a b : Bool) → xor (xor a b) b ≡ a
unflip = bool2 _ _ tt

-- the state behind the chunk, less the guess, is the parity of its quotes
parity : (text : List ℕ) (from to : ℕ) (g : Bool) → xor (swept_of text from to g).inside g ≡ odd_in text from to
unfolding swept_of odd_in guessed
parity text from to g =
    let e : 64 * from + 64 * (to - from) - 64 * from ≡ 64 * (to - from) = omega arith in
    ap (λ (m : ℕ). xor (xor (odd (count (λ j. quote_bit text (64 * from + j)) m)) g) g) e ∙ unflip (odd_in text from to) g

kept_is : (text : List ℕ) (s : Span) (g : Bool) {swept : Swept} {o : Bool} {kept : Kept} → swept ≡ swept_of text s.from s.to g → o ≡ xor swept.inside g → kept ≡ kept_of o swept.swing → kept ≡ scan_kept text s g
unfolding scan_kept swept_of
kept_is text s g {swept} {o} {kept} e eo ek =
    ek ∙ ap₂ kept_of (eo ∙ ap (λ (x : Swept). xor x.inside g) e ∙ parity text s.from s.to g) (ap (λ (x : Swept). x.swing) e)

pub scan_words-swept-requires : goal.scan_words-swept-requires
scan_words-swept-requires c = let a = c.args in
    rw c.span-s.ensures (lent_chunk a.self a.text.now a.words.now a.k c.requires)

pub kept_of-kept-requires : goal.kept_of-kept-requires
unfolding swept_of
kept_of-kept-requires c = let a = c.args in
    let s = c.span-s.result in
    subst (Small 16777216) (sym (ap (λ (x : Swept). x.swing) c.scan_words-swept.ensures.value))
    (small_swing _ a.text.now a.words.now a.self.levels _ s.to (rw c.span-s.ensures (lent_chunk a.self a.text.now a.words.now a.k c.requires)))

pub returns : goal.returns
unfolding scan_chunk
returns c = let a = c.args in
    let span = c.span-s.ensures in
    let made : Chunk → Kept → Chunk = λ d x. record { cut = d.cut; scanned = true; settled = d.settled; levelled = d.levelled; inside = a.inside; start = d.start; kept = x } in
    let kept = kept_is a.text.now c.span-s.result a.inside c.scan_words-swept.ensures.value (xor_ne _ _) c.kept_of-kept.ensures in
    record {
      value = ap₂ made c.chunk.ensures (kept ∙ ap (λ (s : Span). scan_kept a.text.now s a.inside) span);
      words_after = c.scan_words-swept.ensures.words_after ∙ ap (λ (s : Span). scan_words a.text.now a.self.levels s.from s.to a.inside a.words.now) span;
    }
