-- What the contracts of private functions and the types cite, and no public function: the bits of the words that are lent with a record, and a path's refusal.
use Rattle.std.specs.Prelude.{ℕ, Bool}
use Rattle.rules.specs.Layout.{bit_in}
use Rattle.layout.specs.declared.Map.{Map}
use Rattle.layout.specs.Maps.{mapped}
use Rattle.query.specs.Items.{Bits, lent}
use Rattle.query.specs.declared.bits.Lent.{Lent}
use Rattle.query.specs.declared.types.Refusal.{Refusal}
use Rattle.query.specs.declared.types.Refusal.TheVariants.{BadPath, TooLarge, TooDeep}
use Rattle.paths.specs.declared.PathRefusal.{PathRefusal}
use Rattle.paths.specs.declared.PathRefusal.TheVariants as Paths

-- the bit of a place in a bitmap
abbrev pub bit_at : Lent → Map → ℕ → Bool
bit_at l m = bit_in l.words.now l.shape.levels l.shape.width (mapped m)

-- what a walk asks of them
abbrev pub bits_of : Lent → Bits
bits_of l = lent l.words.now l.shape.levels l.shape.width

-- a path's refusal is a query's
abbrev pub path_refusal : PathRefusal → Refusal
path_refusal (Paths.Bad p) = BadPath p
path_refusal Paths.TooLarge = TooLarge
path_refusal Paths.TooDeep = TooDeep
