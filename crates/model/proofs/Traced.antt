-- Traces by computation: the worked one, whole; what values and outcomes serve; bad records. And that a trace comes to its end.
use Prim.Native.Nat.{ℕ, zero, suc, ◌+◌, ◌≤◌}
use mathlib.Core.Path.{◌≡◌, refl, ap}
use mathlib.Core.List.{List, [], ◌∷◌, ◌++◌}
use native.Mathlib.Omega.{arith}
use lib.ListN.{length}
use lib.Dec.{eqb, leb}
use borrow.Author.Tests.{ne_eqb, le-leb}
use Rattle.model.specs.Tests.{pick}
use Rattle.model.specs.Text.{decimal}
use Rattle.model.specs.Trace.{Entry, entry_at, suits, good, Held, Printed, stepped, bad, traced, trace}
use Rattle.model.proofs.Laws.{either}
use Rattle.model.proofs.Open.{whole}

-- `10 03` from 3712 at 100, and a tick at 5101
abbrev worked : List ℕ
worked =
    0x12 ∷ 0 ∷ 1 ∷ 0 ∷ 0x64 ∷ 0 ∷ 0 ∷ 0 ∷ 0 ∷ 0 ∷ 0 ∷ 0 ∷ 0x80 ∷ 0x0E ∷ 0 ∷ 0 ∷ 0x10 ∷ 0 ∷ 0 ∷ 0 ∷ 0x10 ∷ 3
    ∷ 8 ∷ 0 ∷ 2 ∷ 0 ∷ 0xED ∷ 0x13 ∷ 0 ∷ 0 ∷ 0 ∷ 0 ∷ 0 ∷ 0
    ∷ []

-- `1 0 3 0`, `> 3712 5003003201F4`, `2 0 1 0`
pub worked_trace : trace worked
    ≡ 49 ∷ 32 ∷ 48 ∷ 32 ∷ 51 ∷ 32 ∷ 48 ∷ 10
    ∷ 62 ∷ 32 ∷ 51 ∷ 55 ∷ 49 ∷ 50 ∷ 32 ∷ 53 ∷ 48 ∷ 48 ∷ 51 ∷ 48 ∷ 48 ∷ 51 ∷ 50 ∷ 48 ∷ 49 ∷ 70 ∷ 52 ∷ 10
    ∷ 50 ∷ 32 ∷ 48 ∷ 32 ∷ 49 ∷ 32 ∷ 48 ∷ 10
    ∷ []
unfolding whole decimal suits stepped
worked_trace = refl

-- `1 0 1 0`: a request was answered in session 1, with no level held; `2 0 1 0`: so a tick
abbrev asked : List ℕ
asked = 49 ∷ 32 ∷ 48 ∷ 32 ∷ 49 ∷ 32 ∷ 48 ∷ 10 ∷ []

abbrev waited : List ℕ
waited = 50 ∷ 32 ∷ 48 ∷ 32 ∷ 49 ∷ 32 ∷ 48 ∷ 10 ∷ []

-- `> 3712`, and what is behind it
abbrev told : List ℕ → List ℕ
told rest = 62 ∷ 32 ∷ 51 ∷ 55 ∷ 49 ∷ 50 ∷ 32 ∷ rest

-- a request of two bytes, or of three, from 3712 at 100
abbrev two : ℕ → ℕ → ℕ → List ℕ
two dst a b = 0x12 ∷ 0 ∷ 1 ∷ 0 ∷ 0x64 ∷ 0 ∷ 0 ∷ 0 ∷ 0 ∷ 0 ∷ 0 ∷ 0 ∷ 0x80 ∷ 0x0E ∷ 0 ∷ 0 ∷ dst ∷ 0 ∷ 0 ∷ 0 ∷ a ∷ b ∷ []

abbrev three : ℕ → ℕ → ℕ → List ℕ
three a b c = 0x13 ∷ 0 ∷ 1 ∷ 0 ∷ 0x64 ∷ 0 ∷ 0 ∷ 0 ∷ 0 ∷ 0 ∷ 0 ∷ 0 ∷ 0x80 ∷ 0x0E ∷ 0 ∷ 0 ∷ 0x10 ∷ 0 ∷ 0 ∷ 0 ∷ a ∷ b ∷ c ∷ []

-- an outcome of an error byte alone, and a tick at 100
abbrev outcome : ℕ → List ℕ
outcome err = 1 ∷ 0 ∷ 3 ∷ 0 ∷ err ∷ []

abbrev tick100 : List ℕ
tick100 = 8 ∷ 0 ∷ 2 ∷ 0 ∷ 0x64 ∷ 0 ∷ 0 ∷ 0 ∷ 0 ∷ 0 ∷ 0 ∷ 0 ∷ []

-- a value of F201, its identifier's low byte first, and `22 F2 01`: `62 F2 01 AA`
pub value_read : trace ((4 ∷ 0 ∷ 4 ∷ 0 ∷ 0x01 ∷ 0xF2 ∷ 0 ∷ 0xAA ∷ []) ++ three 0x22 0xF2 0x01) ≡ asked ++ told (54 ∷ 50 ∷ 70 ∷ 50 ∷ 48 ∷ 49 ∷ 65 ∷ 65 ∷ 10 ∷ [])
unfolding whole decimal suits stepped
value_read = refl

-- a value of an identifier that has no row is ignored: F201 stays empty
pub value_ignored : trace ((4 ∷ 0 ∷ 4 ∷ 0 ∷ 0x02 ∷ 0xF2 ∷ 0 ∷ 0xAA ∷ []) ++ three 0x22 0xF2 0x01) ≡ asked ++ told (54 ∷ 50 ∷ 70 ∷ 50 ∷ 48 ∷ 49 ∷ 10 ∷ [])
unfolding whole decimal suits stepped
value_ignored = refl

-- without an outcome `11 01` is answered `7F 11 22`
pub unanswered_22 : trace (two 0x10 0x11 1) ≡ asked ++ told (55 ∷ 70 ∷ 49 ∷ 49 ∷ 50 ∷ 50 ∷ 10 ∷ [])
unfolding whole decimal suits stepped
unanswered_22 = refl

-- a second outcome replaces the first: `7F 11 33`
pub second_outcome : trace (outcome 0x10 ++ (outcome 0x33 ++ two 0x10 0x11 1)) ≡ asked ++ told (55 ∷ 70 ∷ 49 ∷ 49 ∷ 51 ∷ 51 ∷ 10 ∷ [])
unfolding whole decimal suits stepped
second_outcome = refl

-- a request uses it up, also one to another address: the next is answered `7F 11 22`
pub used_up : trace (outcome 0 ++ (two 0x11 0x11 1 ++ two 0x10 0x11 1)) ≡ asked ++ (asked ++ told (55 ∷ 70 ∷ 49 ∷ 49 ∷ 50 ∷ 50 ∷ 10 ∷ []))
unfolding whole decimal suits stepped
used_up = refl

-- a tick does not: `51 01`
pub not_by_a_tick : trace (outcome 0 ++ (tick100 ++ two 0x10 0x11 1)) ≡ waited ++ (asked ++ told (53 ∷ 49 ∷ 48 ∷ 49 ∷ 10 ∷ []))
unfolding whole decimal suits stepped
not_by_a_tick = refl

-- what is printed before a bad record stays; a record is bad where its head or its body is cut, of a kind that there is not, or of a length that its kind has not
pub bad-records :
    (trace (tick100 ++ (8 ∷ 0 ∷ 2 ∷ [])) ≡ waited ++ bad)
    × (trace (tick100 ++ (8 ∷ 0 ∷ 2 ∷ 0 ∷ 0x64 ∷ [])) ≡ waited ++ bad)
    × (trace (0 ∷ 0 ∷ 5 ∷ 0 ∷ []) ≡ bad)
    × (trace (7 ∷ 0 ∷ 2 ∷ 0 ∷ 0 ∷ 0 ∷ 0 ∷ 0 ∷ 0 ∷ 0 ∷ 0 ∷ []) ≡ bad)
    × (trace (0 ∷ 0 ∷ 3 ∷ 0 ∷ []) ≡ bad)
    × (trace (2 ∷ 0 ∷ 4 ∷ 0 ∷ 0x01 ∷ 0xF2 ∷ []) ≡ bad)
    × (trace [] ≡ [])
unfolding whole decimal suits stepped
bad-records = (refl, refl, refl, refl, refl, refl, refl)

-- kinds 3 and 4 print nothing, and leave the server as it is
pub quiet_kinds : (input : List ℕ) (h : Held) (e : Entry) → (e.kind ≡ 1 → ⊥) → (e.kind ≡ 2 → ⊥) → ((stepped input h e).lines ≡ []) × ((stepped input h e).held.server ≡ h.server)
unfolding stepped
quiet_kinds input h e n m = rw (ne_eqb e.kind 1 n, ne_eqb e.kind 2 m) (either Quiet (eqb e.kind 3) (refl, refl) (refl, refl))
  where
    Quiet : Printed → Type 0
    Quiet p = (p.lines ≡ []) × (p.held.server ≡ h.server)

-- how many records may be looked at does not matter, once there are as many as bytes are left: a record has four bytes at least
pub enough : (input : List ℕ) (m n at : ℕ) (h : Held) → length input ≤ at + m → length input ≤ at + n → traced m input at h ≡ traced n input at h
enough input zero zero at h a b = refl
enough input zero (suc n) at h a b = rw (le-leb (length input) at (omega arith))
enough input (suc m) zero at h a b = rw (le-leb (length input) at (omega arith))
enough input (suc m) (suc n) at h a b =
    let e = entry_at input at in
    let p = stepped input h e in
    ap (λ (x : List ℕ). pick (leb (length input) at) [] (pick (good input at) (p.lines ++ x) bad)) (enough input m n (at + 4 + e.len) p.held (omega arith) (omega arith))
