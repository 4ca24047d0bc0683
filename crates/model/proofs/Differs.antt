-- The theorem of `StandsBetween` is not empty: once the level is held, or where none is asked, two tables do give different replies.
use Prim.Native.Nat.{ℕ, zero, suc}
use mathlib.Core.Path.{◌≡◌, refl, ap}
use mathlib.Core.List.Memᴰ
use mathlib.Core.List.{List, [], ◌∷◌}
use mathlib.Core.Logic.{⊎_elim}
use native.Mathlib.Omega.{arith}
use lib.ListN.{take, get_or}
use Rattle.model.specs.Numbers.{max_frame}
use Rattle.model.specs.Values.{ValueRow, Given, given0, Table}
use Rattle.model.specs.Frame.{Frame}
use Rattle.model.specs.State.{State, fresh_state}
use Rattle.model.specs.History.{Call, requests, run}
use Rattle.model.specs.Alike.{OnlyOf, AlikeRows, AlikeTable, AlikeFrame, AlikeCall, Alike, inbound, asking}
use Rattle.model.specs.Fixed.{fixed_config}
use Rattle.model.proofs.Open.{whole}

-- a table of the two identifiers, with a byte of each
abbrev says : ℕ → ℕ → Table
says a b = record { rows = record { identifier = 0xF190; err = 0; start = 0; len = 1 } ∷ record { identifier = 0xF201; err = 0; start = 1; len = 1 } ∷ []; pool = a ∷ b ∷ [] }

abbrev asks : List ℕ → Given → Table → Call
asks f g t = requests (asking (inbound 5 3712 16 f) g t)

abbrev gives : List ℕ → Given
gives b = record { err = 0; bytes = b }

-- a seed is asked, its key sent and accepted, and F190 read
abbrev unlocks : List ℕ → Table → List Call
unlocks key t =
    asks (0x27 ∷ 3 ∷ []) (gives (1 ∷ 2 ∷ 3 ∷ 4 ∷ [])) t
    ∷ asks (0x27 ∷ 4 ∷ key) given0 t
    ∷ asks (0x22 ∷ 0xF1 ∷ 0x90 ∷ []) given0 t
    ∷ []

abbrev start : State
start = fresh_state fixed_config

-- the last frame of a queue
abbrev last : List Frame → List ℕ
last [] = []
last (f ∷ []) = f.bytes
last (f ∷ g ∷ q) = last (g ∷ q)

abbrev reply : List Call → List ℕ
reply h = last (run max_frame start h).queue

abbrev one : List Call
one = unlocks (9 ∷ 9 ∷ 9 ∷ 9 ∷ []) (says 7 5)

abbrev two : List Call
two = unlocks (8 ∷ 8 ∷ 8 ∷ 8 ∷ []) (says 6 5)

-- the held level reaches 3, and the two tables then give different replies to 22 of F190
pub level_reached : (run max_frame start (take 2 one)).session.level ≡ 3
unfolding whole
level_reached = refl

pub reads_one : reply one ≡ 0x62 ∷ 0xF1 ∷ 0x90 ∷ 7 ∷ []
unfolding whole
reads_one = refl

pub reads_two : reply two ≡ 0x62 ∷ 0xF1 ∷ 0x90 ∷ 6 ∷ []
unfolding whole
reads_two = refl

-- below it F190 is refused, whatever its byte
pub refused-below : reply (asks (0x22 ∷ 0xF1 ∷ 0x90 ∷ []) given0 (says 7 5) ∷ []) ≡ 0x7F ∷ 0x22 ∷ 0x33 ∷ []
unfolding whole
refused-below = refl

-- F201 asks no level: two tables that differ in it give different replies at once
pub free_one : reply (asks (0x22 ∷ 0xF2 ∷ 0x01 ∷ []) given0 (says 7 5) ∷ []) ≡ 0x62 ∷ 0xF2 ∷ 0x01 ∷ 5 ∷ []
unfolding whole
free_one = refl

pub free_two : reply (asks (0x22 ∷ 0xF2 ∷ 0x01 ∷ []) given0 (says 7 4) ∷ []) ≡ 0x62 ∷ 0xF2 ∷ 0x01 ∷ 4 ∷ []
unfolding whole
free_two = refl

-- the two histories differ only in F190's byte and in the key
only : (a : ℕ) → OnlyOf 0xF190 0 (says a 5).rows
only a r m p = ⊎_elim (λ e. ap (λ (v : ValueRow). v.identifier) e) (λ n. ⊎_elim (λ e. absurd (past (ap (λ (v : ValueRow). v.start) e))) (λ o. absurd (Memᴰ.not-nil o)) (Memᴰ.cases_cons n)) (Memᴰ.cases_cons m)
  where
    past : r.start ≡ 1 → ⊥
    past e = omega (arith, p.low)

pub alike_says : AlikeTable 0xF190 (says 7 5) (says 6 5)
alike_says = record { rows = AlikeRows.same (AlikeRows.same AlikeRows.none); pools = refl; bytes = go }
  where
    go : (k : ℕ) → (get_or (says 7 5).pool k 0 ≡ get_or (says 6 5).pool k 0 → ⊥) → OnlyOf 0xF190 k (says 7 5).rows × OnlyOf 0xF190 k (says 6 5).rows
    go zero n = (only 7, only 6)
    go (suc zero) n = absurd (n refl)
    go (suc (suc k)) n = absurd (n refl)

pub alike_histories : Alike 0xF190 one two
alike_histories = Alike.and (AlikeCall.request AlikeFrame.same alike_says) (Alike.and (AlikeCall.request (AlikeFrame.keys refl refl) alike_says) (Alike.and (AlikeCall.request AlikeFrame.same alike_says) Alike.end))
