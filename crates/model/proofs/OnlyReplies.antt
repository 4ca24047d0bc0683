-- Ten of the fourteen services only reply: they change neither session nor security nor subscriptions.
use Prim.Native.Nat.{ℕ, ◌+◌, ◌%◌}
use mathlib.Core.Path.{◌≡◌, refl}
use mathlib.Core.Bool.{◌&&◌}
use mathlib.Core.List.{List}
use lib.ListN.{length}
use lib.Dec.{leb, eqb}
use Rattle.model.specs.Numbers.{max_download}
use Rattle.model.specs.Config.{find_did, writable}
use Rattle.model.specs.Values.{Outcome, bytes, error, outcome}
use Rattle.model.specs.Frame.{word}
use Rattle.model.specs.Queue.{Reply, positive}
use Rattle.model.specs.Service.{Seen, Effect, Served, says, acted}
use Rattle.model.specs.Service3E.{service3E}
use Rattle.model.specs.Service22.{service22, held_for}
use Rattle.model.specs.Service2E.{service2E, write_row, written}
use Rattle.model.specs.Service31.{service31, routine}
use Rattle.model.specs.Service28.{service28, communication}
use Rattle.model.specs.Service2F.{service2F, controlled}
use Rattle.model.specs.Service34.{service34, address_length, size_length}
use Rattle.model.specs.Service36.{service36, transferred}
use Rattle.model.specs.Service37.{service37}
use Rattle.model.specs.Service38.{service38}
use Rattle.model.proofs.Laws.{either}

-- an effect that is a reply and changes nothing
abbrev pub Only : Seen → Effect → Type 0
Only v e = e ≡ says v e.reply

-- a service that does only that
abbrev pub Replies : Seen → Served → Type 0
Replies v a = Only v a.effect

-- what an act's outcome leads to only replies
acted_only : (v : Seen) (k : List ℕ → Reply) (o : Outcome) → Only v (acted v k o)
unfolding acted
acted_only v k (bytes b) = refl
acted_only v k (error code) = refl

-- the ten services that change none of the three records
pub only3E : (v : Seen) → Replies v (service3E v)
unfolding service3E
only3E v = refl

pub only22 : (v : Seen) → Replies v (service22 v)
unfolding service22
only22 v = either (Replies v) (leb 2 (length v.payload) && eqb (length v.payload % 2) 0) refl refl

pub only2E : (v : Seen) → Replies v (service2E v)
unfolding service2E write_row
only2E v =
    either (Replies v) (leb 3 (length v.payload))
    (either (Replies v) (writable v.session.session_type (find_did v.config (word v.payload 0)))
    (either (Replies v) (held_for v.session.level (find_did v.config (word v.payload 0))) (acted_only v (written v) (outcome v.limit v.given)) refl)
    refl)
    refl

pub only31 : (v : Seen) → Replies v (service31 v)
unfolding service31
only31 v = either (Replies v) (leb 3 (length v.payload)) (acted_only v (routine v) (outcome v.limit v.given)) refl

pub only28 : (v : Seen) → Replies v (service28 v)
unfolding service28
only28 v = either (Replies v) (leb 2 (length v.payload)) (acted_only v (communication v) (outcome v.limit v.given)) refl

pub only2F : (v : Seen) → Replies v (service2F v)
unfolding service2F
only2F v = either (Replies v) (leb 3 (length v.payload)) (acted_only v (controlled v) (outcome v.limit v.given)) refl

pub only34 : (v : Seen) → Replies v (service34 v)
unfolding service34
only34 v =
    either (Replies v) (leb 3 (length v.payload) && leb (2 + address_length v.payload + size_length v.payload) (length v.payload))
    (acted_only v positive (outcome max_download v.given))
    refl

pub only36 : (v : Seen) → Replies v (service36 v)
unfolding service36
only36 v = either (Replies v) (leb 1 (length v.payload)) (acted_only v (transferred v) (outcome v.limit v.given)) refl

pub only37 : (v : Seen) → Replies v (service37 v)
unfolding service37
only37 v = acted_only v positive (outcome v.limit v.given)

pub only38 : (v : Seen) → Replies v (service38 v)
unfolding service38
only38 v = either (Replies v) (leb 3 (length v.payload)) (acted_only v positive (outcome v.limit v.given)) refl
