-- 22 readDataByIdentifier: each identifier in order, with what the value table says of it.
use Rattle.std.specs.Prelude.{ℕ, ◌+◌, ◌*◌, ◌%◌, Bool, ◌&&◌, List, [], ◌∷◌, ◌++◌, length, nat_eq, nat_le}
use Rattle.std.proofs.Math.Option.{Option}
use Rattle.model.specs.Tests.{pick}
use Rattle.model.specs.Config.{DidConfig, find_did, readable, level_of}
use Rattle.model.specs.Values.{Outcome, bytes, error, value}
use Rattle.model.specs.Queue.{Reply, positive, negative}
use Rattle.model.specs.Reply.{refusal}
use Rattle.model.specs.Service.{Seen, Served, says, answers, refuses}

-- the bytes of a reply so far, or the reply that ends it
pub data Reading : Type 0 where
  going : List ℕ → Reading
  ended : Reply → Reading

-- on with the bytes so far
abbrev pub onward : Reading → (List ℕ → Reading) → Reading
onward (going acc) k = k acc
onward (ended r) k = ended r

-- bytes appended; past the limit 0x14 at once
abbrev pub appended : ℕ → List ℕ → List ℕ → Reading
appended limit acc b = pick (nat_le (length acc + length b) limit) (going (acc ++ b)) (ended (negative 0x14))

-- a value appended; an error byte is sent as the negative code
abbrev pub value_appended : ℕ → Outcome → List ℕ → Reading
value_appended limit (bytes b) acc = appended limit acc b
value_appended limit (error code) acc = ended (refusal code)

-- the level is held: an identifier of level 0 needs none
abbrev pub held_for : ℕ → Option DidConfig → Bool
held_for held row = nat_le (level_of row) held

-- the identifier appended, then the value consulted and appended
unfoldable pub read_value : Seen → ℕ → ℕ → List ℕ → Reading
read_value v h l acc = onward (appended v.limit acc (h ∷ l ∷ [])) (value_appended v.limit (value v.limit v.table (h * 256 + l)))

-- readable in the session, else 0x31; the level held, else 0x33
unfoldable pub read_one : Seen → ℕ → ℕ → List ℕ → Reading
read_one v h l acc =
    pick (readable v.session.session_type (find_did v.config (h * 256 + l)))
    (pick (held_for v.session.level (find_did v.config (h * 256 + l))) (read_value v h l acc) (ended (negative 0x33)))
    (ended (negative 0x31))

-- per identifier in order
abbrev pub read_all : Seen → List ℕ → List ℕ → Reading
read_all v [] acc = going acc
read_all v (h ∷ []) acc = going acc
read_all v (h ∷ l ∷ rest) acc = onward (read_one v h l acc) (read_all v rest)

abbrev pub read_reply : Reading → Reply
read_reply (going acc) = positive acc
read_reply (ended r) = r

-- payload 2 or more, even, else short
unfoldable pub service22 : Seen → Served
service22 v =
    pick (nat_le 2 (length v.payload) && nat_eq (length v.payload % 2) 0) (answers (says v (read_reply (read_all v v.payload [])))) (refuses v 0x13)
