-- Bytes by their places, and the places at which a test holds, from a place a on and before a place e.
use Rattle.std.specs.Prelude.{ℕ, zero, suc, ◌+◌, ◌-◌, Bool, List, get_or, ltb}
use Rattle.rules.specs.Word.{pick}
use Rattle.rules.specs.Layout.{listed}

-- the byte at a place. (Past the end `get_or` gives 0.)
unfoldable pub byte_in : List ℕ → ℕ → ℕ
byte_in text i = get_or text i 0

-- the bytes from a to e, e not included
abbrev pub between : (ℕ → ℕ) → ℕ → ℕ → List ℕ
between byte a e = listed byte a (e - a)

-- of so many places from a on
unfoldable pub first_in : (ℕ → Bool) → ℕ → ℕ → ℕ
first_in t zero a = a
first_in t (suc c) a = let later = first_in t c (suc a) in pick (t a) a later

-- the first place of a, .., e - 1 at which t holds, else e
unfoldable pub first_at : (ℕ → Bool) → ℕ → ℕ → ℕ
unfolding first_in
first_at t a e = first_in t (e - a) a

unfoldable pub past_last_in : (ℕ → Bool) → ℕ → ℕ → ℕ
past_last_in t zero a = a
past_last_in t (suc c) a = let earlier = past_last_in t c a in pick (t (a + c)) (a + suc c) earlier

-- one past the last place of a, .., e - 1 at which t holds, else a
unfoldable pub past_last : (ℕ → Bool) → ℕ → ℕ → ℕ
unfolding past_last_in
past_last t a e = past_last_in t (e - a) a

-- the place with number m, from 0, of those of a, .., e - 1 at which t holds, else e
unfoldable pub nth_at : (ℕ → Bool) → ℕ → ℕ → ℕ → ℕ
unfolding first_at
nth_at t zero a e = first_at t a e
nth_at t (suc m) a e = let later = nth_at t m (first_at t a e + 1) e in pick (ltb (first_at t a e) e) later e
