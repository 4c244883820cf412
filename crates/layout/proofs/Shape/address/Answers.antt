-- The address is the layout's, and every part of it is below it, so that it fits.
use Rattle.std.proofs.Common.{◌≡◌, ◌+◌, ◌*◌, sym, ap, ◌∙◌, arith}
use Rattle.rules.specs.Layout.{address, row}
use Rattle.layout.specs.declared.Map.{Map}
use Rattle.layout.specs.Maps.{mapped}
use Rattle.layout.proofs.Shape.address.Goals as goal

pub returns-in-Quotes : goal.returns-in-Quotes
unfolding address row
returns-in-Quotes c = let a = c.args in let z : a.w ≡ 0 * a.self.width + a.w = omega arith in z ∙ ap (λ (m : Map). address a.self.levels a.self.width (mapped m) a.w) (sym c.in-Quotes.is)

pub returns-in-Mask : goal.returns-in-Mask
unfolding address row
returns-in-Mask c = let a = c.args in let z : a.self.width + a.w ≡ 1 * a.self.width + a.w = omega arith in z ∙ ap (λ (m : Map). address a.self.levels a.self.width (mapped m) a.w) (sym c.in-Mask.is)

pub returns-in-Colons : goal.returns-in-Colons
unfolding address row
returns-in-Colons c = let a = c.args in ap (λ (m : Map). address a.self.levels a.self.width (mapped m) a.w) (sym c.in-Colons.is)

pub returns-in-Commas : goal.returns-in-Commas
unfolding address row
returns-in-Commas c = let a = c.args in ap (λ (m : Map). address a.self.levels a.self.width (mapped m) a.w) (sym c.in-Commas.is)
