-- What the clauses of the layout's code cite: the bitmap that the code names, and a word of it.
use Rattle.std.specs.Prelude.{ℕ, ◌<◌}
use Rattle.rules.specs.Layout.{Bitmap, quotes, mask, colons, commas, Has}
use Rattle.layout.specs.declared.Map.{Map}
use Rattle.layout.specs.declared.Map.TheVariants.{Quotes, Mask, Colons, Commas}

abbrev pub mapped : Map → Bitmap
mapped Quotes = quotes
mapped Mask = mask
mapped (Colons k) = colons k
mapped (Commas k) = commas k

-- a word of a bitmap that an index of so many levels has, of so many words each
pub record InMap (levels width : ℕ) (m : Map) (w : ℕ) : Type 0 where
  pub has : Has levels (mapped m)
  pub inside : w < width
