-- `Shape::word` meets its contract: the address lies among the words.
use Rattle.std.proofs.Common.{ℕ, ap, get_or, arith}
use Rattle.rules.specs.Layout.{cell}
use Rattle.layout.proofs.MapLaws.{map_in, map_small}
use Rattle.layout.proofs.Shape.word.Goals as goal

pub offset_bounds-words-address : goal.offset_bounds-words-address
offset_bounds-words-address c = record { fits = omega (arith, map_small c.args.self c.requires.in_map, c.address.ensures) }

pub bounds-words-address : goal.bounds-words-address
bounds-words-address c = omega (arith, map_in c.args.self c.requires.in_map, c.requires.words_len, c.address.ensures)

pub returns : goal.returns
unfolding cell
returns c = ap (λ (a : ℕ). get_or c.args.words.now a 0) c.address.ensures
