-- `Shape::put` meets its contract: the address lies among the words.
use Rattle.std.proofs.Common.{arith}
use Rattle.layout.proofs.MapLaws.{map_in, map_small}
use Rattle.layout.proofs.Shape.put.Goals as goal

pub offset_bounds-words-address : goal.offset_bounds-words-address
offset_bounds-words-address c = record { fits = omega (arith, map_small c.args.self c.requires.in_map, c.address.ensures) }

pub bounds-words-address : goal.bounds-words-address
bounds-words-address c = omega (arith, map_in c.args.self c.requires.in_map, c.requires.words_len, c.address.ensures)
