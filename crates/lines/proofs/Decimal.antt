-- The kit's digits of a number, the fewest that hold it, are the number's decimal digits.
use Prim.Native.Nat.{ℕ, zero, suc, ◌+◌, ◌-◌, ◌*◌, ◌/◌, ◌%◌, ◌^◌, ◌≤◌, ◌<◌}
use mathlib.Core.Path.{◌≡◌}
use native.Mathlib.Nat.{pow-suc, one-le-pow, pow-le-pow_right, mod-lt, div-lt_iff_lt-mul, le-div_iff_mul-le}
use native.Mathlib.Decide.{dec_le}
use native.Mathlib.Numerals.{unary_clauses}
use native.Mathlib.Omega.{arith}
use borrow.Author.Tests.{lt-ltb, le-ltb}
use Rattle.io.specs.Digits.{hex_digit_ascii, last_digits, IsDigitCount}
use Rattle.model.specs.Text.{decimal_in, decimal}

ten : 0 < 10
ten = omega arith

last : (n : ℕ) → hex_digit_ascii (n % 10) ≡ 48 + n % 10
last n = simp (lt-ltb (n % 10) 10 (mod-lt n ten))

-- with j digits before the last
spelt : (j most n : ℕ) → j < most → n < 10 ^ suc j → (0 < j → 10 ^ j ≤ n) → last_digits 10 (suc j) n ≡ decimal_in most n
spelt j zero n l h p = absurd (omega arith)
spelt zero (suc most) n l h p = simp (last n, lt-ltb n 10 (omega arith))
spelt (suc j) (suc most) n l h p =
    let high : n / 10 < 10 ^ suc j = (div-lt_iff_lt-mul ten).1 (rw pow-suc at h) in
    let low : 10 ^ j * 10 ≤ n = rw pow-suc at (p (omega arith)) in
    let least : 0 < j → 10 ^ j ≤ n / 10 = λ _. (le-div_iff_mul-le ten).1 low in
    let two : 10 ≤ n = omega (arith, one-le-pow j 10 ten) in
    simp (last n, le-ltb n 10 two, spelt j most (n / 10) (omega arith) high least)

-- a number of 64 bits is held by twenty
few : (k n : ℕ) → n < 2 ^ 64 → IsDigitCount 10 1 n k → k ≤ 20
few k n b f = elim (dec_le k 20) [ yes l ↦ l | no l ↦ absurd (let h : 10 ^ 20 ≤ 10 ^ (k - 1) = pow-le-pow_right ten {i = 20} {j = k - 1} (omega arith) in let g : 10 ^ (k - 1) ≤ n = f.2 (omega arith) in omega arith) ]

spelt_whole : (k n : ℕ) → k ≤ 20 → IsDigitCount 10 1 n k → last_digits 10 k n ≡ decimal n
unfolding decimal
spelt_whole zero n s f = absurd (omega arith)
spelt_whole (suc j) n s f = spelt j 20 n (omega arith) f.1 (λ p. simp unary_clauses at (f.2 (omega arith)))

pub fewest : (k n : ℕ) → n < 2 ^ 64 → IsDigitCount 10 1 n k → last_digits 10 k n ≡ decimal n
fewest k n b f = spelt_whole k n (few k n b f) f
