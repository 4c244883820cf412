-- What the clauses of `escapes` cite.
use Rattle.std.specs.Prelude.{ℕ, zero, suc, Bool, not, ◌&&◌}

-- which places are escaped, where p marks the backslashes and c says whether place 0 is: the place after a backslash that is not itself escaped
unfoldable pub esc_from : Bool → (ℕ → Bool) → ℕ → Bool
esc_from c p zero = c
esc_from c p (suc i) = p i && not (esc_from c p i)
