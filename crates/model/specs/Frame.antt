-- Frame rules: how the bytes of a frame are read and made.
use Rattle.std.specs.Prelude.{ℕ, ◌+◌, ◌*◌, ◌/◌, ◌%◌, Bool, List, [], ◌∷◌, drop, get_or, nat_le, nat_lt}
use Rattle.model.specs.Tests.{pick}

-- a frame that waits: to whom, and its bytes
pub record Frame : Type 0 where
  pub dst : ℕ
  pub bytes : List ℕ

-- the first byte names the service: 0 if there is none
abbrev pub sid_of : List ℕ → ℕ
sid_of f = get_or f 0 0

-- payload is all after the first byte
abbrev pub payload_of : List ℕ → List ℕ
payload_of f = drop 1 f

-- the suppress bit is bit 7 of the first payload byte
abbrev pub suppressed : List ℕ → Bool
suppressed p = nat_le 128 (get_or p 0 0)

-- the sub-function is its low seven bits: 0 if it is absent
abbrev pub sub_function : List ℕ → ℕ
sub_function p = get_or p 0 0 % 128

-- two bytes of the payload as a number, high byte first
abbrev pub word : List ℕ → ℕ → ℕ
word p i = get_or p i 0 * 256 + get_or p (i + 1) 0

-- the nibbles of a byte
abbrev pub high_nibble : ℕ → ℕ
high_nibble b = b / 16

abbrev pub low_nibble : ℕ → ℕ
low_nibble b = b % 16

-- a number's low 16 bits as two bytes, high byte first
abbrev pub two_bytes : ℕ → List ℕ
two_bytes n = n / 256 % 256 ∷ n % 256 ∷ []

-- a periodic identifier is F200 or-ed with its byte
abbrev pub periodic_did : ℕ → ℕ
periodic_did b = 0xF200 + b % 256

-- the response identifier is the service with bit 6 set
unfoldable pub response : ℕ → ℕ
response sid = pick (nat_lt (sid % 128) 64) (sid + 64) sid

-- a positive frame is the response identifier, then payload
abbrev pub positive_frame : ℕ → List ℕ → List ℕ
positive_frame sid p = response sid ∷ p

-- a negative frame is 7F, the service, a code
abbrev pub negative_frame : ℕ → ℕ → List ℕ
negative_frame sid code = 0x7F ∷ sid ∷ code ∷ []
