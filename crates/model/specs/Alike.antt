-- The key stands between: when two histories differ only in what the value tables say of an identifier and in the key bytes of sendKey.
use Rattle.std.specs.Prelude.{ℕ, ◌+◌, ◌%◌, ◌≤◌, ◌<◌, ◌≡◌, length, get_or}
use mathlib.Core.List.{List, [], ◌∷◌, Memᴰ}
use Rattle.model.specs.Numbers.{Moment}
use Rattle.model.specs.Values.{ValueRow, Table, Given}
use Rattle.model.specs.Request.{Inbound, Request}
use Rattle.model.specs.History.{Call, requests, questions, ticks, completes, fails, drains}

-- a row points at a byte of the pool
pub record Points (r : ValueRow) (k : ℕ) : Type 0 where
  pub low : r.start ≤ k
  pub high : k < r.start + r.len

-- no row but those of x points at a byte
abbrev pub OnlyOf : ℕ → ℕ → List ValueRow → Type 0
OnlyOf x k rows = (r : ValueRow) → Memᴰ r rows → Points r k → r.identifier ≡ x

-- the same identifiers in the same places; a row of another identifier is the same in both
pub data AlikeRows (x : ℕ) : List ValueRow → List ValueRow → Type 0 where
  none : AlikeRows x [] []
  same : {r : ValueRow} {l m : List ValueRow} → AlikeRows x l m → AlikeRows x (r ∷ l) (r ∷ m)
  its : {r q : ValueRow} {l m : List ValueRow} → r.identifier ≡ x → q.identifier ≡ x → AlikeRows x l m → AlikeRows x (r ∷ l) (q ∷ m)

-- two tables that differ only in what they say of x: its rows, and the pool bytes that no other row points at in either table;
-- the pools are of equal length
pub record AlikeTable (x : ℕ) (t u : Table) : Type 0 where
  pub rows : AlikeRows x t.rows u.rows
  pub pools : length t.pool ≡ length u.pool
  pub bytes : (k : ℕ) → (get_or t.pool k 0 ≡ get_or u.pool k 0 → ⊥) → OnlyOf x k t.rows × OnlyOf x k u.rows

-- the same frame, or a sendKey (27 and an even access type) with another key of the same length
pub data AlikeFrame : List ℕ → List ℕ → Type 0 where
  same : {f : List ℕ} → AlikeFrame f f
  keys : {access : ℕ} {k m : List ℕ} → access % 2 ≡ 0 → length k ≡ length m → AlikeFrame (0x27 ∷ access ∷ k) (0x27 ∷ access ∷ m)

abbrev pub inbound : Moment → ℕ → ℕ → List ℕ → Inbound
inbound t src dst f = record { time = t; src = src; dst = dst; frame = f }

abbrev pub asking : Inbound → Given → Table → Request
asking i g t = record { inbound = i; given = g; table = t }

-- two calls alike: the same time, addresses and outcome (so the same verdict on a key), alike frames and tables; the rest is the same
pub data AlikeCall (x : ℕ) : Call → Call → Type 0 where
  request : {now : Moment} {src dst : ℕ} {f e : List ℕ} {g : Given} {t u : Table}
      → AlikeFrame f e → AlikeTable x t u → AlikeCall x (requests (asking (inbound now src dst f) g t)) (requests (asking (inbound now src dst e) g u))
  question : {now : Moment} {src dst : ℕ} {f e : List ℕ} → AlikeFrame f e → AlikeCall x (questions (inbound now src dst f)) (questions (inbound now src dst e))
  tick : {now : Moment} {t u : Table} → AlikeTable x t u → AlikeCall x (ticks now t) (ticks now u)
  complete : {now : Moment} {p : List ℕ} → AlikeCall x (completes now p) (completes now p)
  fail : {now : Moment} {code : ℕ} → AlikeCall x (fails now code) (fails now code)
  drain : {b : List ℕ} → AlikeCall x (drains b) (drains b)

-- two histories alike, call by call, in any interleaving and on any clock
pub data Alike (x : ℕ) : List Call → List Call → Type 0 where
  end : Alike x [] []
  and : {c d : Call} {h k : List Call} → AlikeCall x c d → Alike x h k → Alike x (c ∷ h) (d ∷ k)

-- the identifier lies outside the page F200 to F2FF, on which a subscription asks no level
abbrev pub OffPage : ℕ → Type 0
OffPage x = 0xF200 ≤ x → x ≤ 0xF2FF → ⊥
