-- The masks and shifts of a frame byte, as arithmetic.
use Prim.Native.Nat.{ℕ, ◌+◌, ◌*◌, ◌/◌, ◌%◌, ◌≤◌, ◌<◌}
use mathlib.Core.Path.{◌≡◌}
use mathlib.Core.Bool.{not}
use native.Mathlib.Omega.{arith}
use native.Mathlib.Decide.{dec_le}
use lib.Bits.{bit_and, bit_or, and_high, or_shifted, or_add_and}
use lib.Dec.{eqb, leb, ltb}
use borrow.Author.Tests.{le-leb, lt-leb, lt-ltb, le-ltb}
use Rattle.model.specs.Tests.{pick}

-- a bit alone, as the arithmetic of the bits below it and above it
bit7 : (n : ℕ) → bit_and n 0x80 ≡ (n / 128 % 2) * 128
bit7 n = and_high n 1 7

bit6 : (n : ℕ) → bit_and n 0x40 ≡ (n / 64 % 2) * 64
bit6 n = and_high n 1 6

-- the suppress bit is set in a byte of 128 or more
pub bit7_set : (n : ℕ) → n < 256 → not (eqb (bit_and n 0x80) 0) ≡ leb 128 n
bit7_set n h = elim (dec_le 128 n) [ yes p ↦ at_least p | no p ↦ below (omega arith) ]
  where
    at_least : 128 ≤ n → not (eqb (bit_and n 0x80) 0) ≡ leb 128 n
    at_least p = let e : n / 128 ≡ 1 = omega arith in rw (bit7 n, le-leb 128 n p, e)

    below : n < 128 → not (eqb (bit_and n 0x80) 0) ≡ leb 128 n
    below p = let e : n / 128 ≡ 0 = omega arith in rw (bit7 n, lt-leb 128 n p, e)

-- the response bit is added where it is not set
pub bit6_set : (n : ℕ) → bit_or n 0x40 ≡ pick (ltb (n % 128) 64) (n + 64) n
bit6_set n = elim (dec_le 64 (n % 128)) [ yes p ↦ there p | no p ↦ added (omega arith) ]
  where
    there : 64 ≤ n % 128 → bit_or n 0x40 ≡ pick (ltb (n % 128) 64) (n + 64) n
    there p = let e : bit_or n 0x40 ≡ n = omega (arith, or_add_and n 0x40, bit6 n) in rw (le-ltb (n % 128) 64 p, e)

    added : n % 128 < 64 → bit_or n 0x40 ≡ pick (ltb (n % 128) 64) (n + 64) n
    added p = let e : bit_or n 0x40 ≡ n + 64 = omega (arith, or_add_and n 0x40, bit6 n) in rw (lt-ltb (n % 128) 64 p, e)

-- a byte or-ed into the low half of a word
pub low_byte : (high low : ℕ) → low < 256 → bit_or (high * 256) low ≡ high * 256 + low
low_byte high low h = or_shifted high 8 low h

-- the two bytes of an identifier, and back
pub there_and_back : (n : ℕ) → n < 65536 → (n / 256 % 256) * 256 + n % 256 ≡ n
there_and_back n h = omega arith
