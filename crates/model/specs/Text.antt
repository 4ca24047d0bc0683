-- Text as bytes: decimal numbers, and bytes in hex.
use Rattle.std.specs.Prelude.{ℕ, zero, suc, ◌+◌, ◌/◌, ◌%◌, List, [], ◌∷◌, ◌++◌, nat_lt}
use Rattle.model.specs.Tests.{pick}

-- a digit below 16: `0` to `9`, then letters, of which the one for 10 is `high` and 10
abbrev pub digit : ℕ → ℕ → ℕ
digit high d = pick (nat_lt d 10) (48 + d) (high + d)

-- upper-case letters begin at 65, lower-case ones at 97
abbrev pub upper : ℕ
upper = 55

abbrev pub lower : ℕ
lower = 87

-- two digits for each byte, the high one first
abbrev pub hex : ℕ → List ℕ → List ℕ
hex high [] = []
hex high (b ∷ bytes) = digit high (b / 16) ∷ digit high (b % 16) ∷ hex high bytes

-- the last `most` decimal digits of a number, without zeros in front
abbrev pub decimal_in : ℕ → ℕ → List ℕ
decimal_in zero n = []
decimal_in (suc most) n = pick (nat_lt n 10) [] (decimal_in most (n / 10)) ++ ((48 + n % 10) ∷ [])

-- a number of 64 bits has at most twenty digits
unfoldable pub decimal : ℕ → List ℕ
decimal n = decimal_in 20 n

abbrev pub blank : ℕ
blank = 32

abbrev pub line_end : ℕ
line_end = 10
