-- What a reply leaves, and what result 3 means: a frame is to be queued and 16 are held.
use Prim.Native.Nat.{ℕ, suc, ◌≤◌}
use mathlib.Core.Path.{◌≡◌, refl, ap}
use mathlib.Core.Bool.{Bool, true, false}
use mathlib.Core.Logic.{◌↔◌}
use mathlib.Core.List.{List, [], ◌∷◌, ◌++◌}
use mathlib.Core.Option.{Option}
use native.Mathlib.Omega.{arith}
use lib.ListN.{length}
use lib.Dec.{leb, ltb, eqb}
use borrow.Author.Tests.{ltb-false, le-ltb}
use Rattle.model.specs.Tests.{pick, memb}
use Rattle.model.specs.Numbers.{Moment, max_outbox}
use Rattle.model.specs.Config.{Config}
use Rattle.model.specs.State.{AddressMode, physical, functional, Session, Security, Subscription, PendingRequest, State, Step, step, with_pending}
use Rattle.model.specs.Queue as Queue
use Rattle.model.specs.Queue.{QueueStep, Reply, silent, positive, negative, always, pends, leaves, pushed, withheld, refused, answered}
use Rattle.model.specs.Reply.{taken, queued, confirmed, awaiting, begun, replied}
use Rattle.model.specs.Frame.{positive_frame, negative_frame}
use Rattle.model.specs.Values.{bytes}
use Rattle.model.specs.Service.{Seen, Effect, changed, changed_after, apply}
use Rattle.model.specs.Service11.{reset}
use Rattle.model.proofs.Laws.{either, Each}

-- where 16 frames are held, a frame to be queued meets 3 and leaves the state that it was given
pub queued-full : (s : State) (to : ℕ) (b : List ℕ) → max_outbox ≤ length s.queue → queued s to b ≡ step 3 s
unfolding queued pushed
queued-full s to b h = rw (le-ltb (length s.queue) max_outbox h)

-- and it meets 3 only then
pub queued_3 : (s : State) (to : ℕ) (b : List ℕ) → ((queued s to b).result ≡ 3) ↔ (max_outbox ≤ length s.queue)
unfolding queued pushed
queued_3 s to b = (go (ltb (length s.queue) max_outbox) refl, λ h. rw (le-ltb (length s.queue) max_outbox h))
  where
    go : (t : Bool) → ltb (length s.queue) max_outbox ≡ t
        → (pick t (leaves 0 (s.queue ++ (record { dst = to; bytes = b } ∷ []))) (leaves 3 s.queue)).result ≡ 3 → max_outbox ≤ length s.queue
    go true e z = absurd (omega arith)
    go false e z = ltb-false (length s.queue) max_outbox e

-- 3 leaves the very state that was given
abbrev pub Unmoved : State → Step → Type 0
Unmoved s p = p.result ≡ 3 → p.state ≡ s

-- so it does where a frame is queued
pub queued-unmoved : (s : State) (to : ℕ) (b : List ℕ) → Unmoved s (queued s to b)
queued-unmoved s to b z = ap (λ (p : Step). p.state) (queued-full s to b ((queued_3 s to b).0 z))

-- and where a positive payload is answered, with 0x14 in its place or not
pub confirmed-unmoved : (limit : ℕ) (s : State) (to sid : ℕ) (p : List ℕ) → Unmoved s (confirmed limit s to sid p)
unfolding confirmed queued Queue.confirmed refused
confirmed-unmoved limit s to sid p =
    either Stays (leb (suc (length p)) limit) (queued-unmoved s to (positive_frame sid p))
    (either Stays (withheld s.mode 0x14) (λ z. refl) (queued-unmoved s to (negative_frame sid 0x14)))
  where
    Stays : QueueStep → Type 0
    Stays p = Unmoved s (taken s p)

-- after a functional request the codes 11, 12, 31, 7E and 7F are dropped with result 0, and nothing changes
pub five_withheld : (s : State) (to sid : ℕ) → s.mode ≡ functional → Each (λ code. taken s (refused s.mode s.queue to sid code) ≡ step 0 s) (0x11 ∷ 0x12 ∷ 0x31 ∷ 0x7E ∷ 0x7F ∷ [])
unfolding refused withheld
five_withheld s to sid m = (rw m refl, (rw m refl, (rw m refl, (rw m refl, (rw m refl, tt)))))

-- any other code is queued
pub others-sent : (s : State) (to sid code : ℕ) → memb code (0x11 ∷ 0x12 ∷ 0x31 ∷ 0x7E ∷ 0x7F ∷ []) ≡ false → taken s (refused s.mode s.queue to sid code) ≡ queued s to (negative_frame sid code)
unfolding queued refused withheld
others-sent s to sid code h = go s.mode
  where
    go : (m : AddressMode) → taken s (pick (withheld m code) (leaves 0 s.queue) (pushed s.queue to (negative_frame sid code))) ≡ queued s to (negative_frame sid code)
    go physical = refl
    go functional = rw h refl

-- and after a physical request every code is
pub physical-sent : (s : State) (to sid code : ℕ) → s.mode ≡ physical → taken s (refused s.mode s.queue to sid code) ≡ queued s to (negative_frame sid code)
unfolding queued refused withheld
physical-sent s to sid code m = rw m refl

-- what a reply gives and leaves: 0 or 3, and all but the pending request and the queue as it was
pub record Answered (s : State) (p : Step) : Type 0 where
  pub result : memb p.result (0 ∷ 3 ∷ []) ≡ true
  pub config : p.state.config ≡ s.config
  pub mode : p.state.mode ≡ s.mode
  pub session : p.state.session ≡ s.session
  pub security : p.state.security ≡ s.security
  pub periodic : p.state.periodic ≡ s.periodic

-- done, and nothing changed
pub done-answered : (s : State) → Answered s (step 0 s)
done-answered s = record { result = refl; config = refl; mode = refl; session = refl; security = refl; periodic = refl }

-- so a frame that is queued
pub queued-answered : (s : State) (to : ℕ) (b : List ℕ) → Answered s (queued s to b)
unfolding queued pushed
queued-answered s to b = record {
  result = either (λ (p : QueueStep). memb p.result (0 ∷ 3 ∷ []) ≡ true) (ltb (length s.queue) max_outbox) refl refl;
  config = refl;
  mode = refl;
  session = refl;
  security = refl;
  periodic = refl;
}

-- a negative code, withheld or not
pub refused-answered : (s : State) (to sid code : ℕ) → Answered s (taken s (refused s.mode s.queue to sid code))
unfolding queued refused
refused-answered s to sid code = either (λ (p : QueueStep). Answered s (taken s p)) (withheld s.mode code) (done-answered s) (queued-answered s to (negative_frame sid code))

-- a positive payload, or 0x14
pub confirmed-answered : (limit : ℕ) (s : State) (to sid : ℕ) (p : List ℕ) → Answered s (confirmed limit s to sid p)
unfolding queued confirmed Queue.confirmed
confirmed-answered limit s to sid p = either (λ (x : QueueStep). Answered s (taken s x)) (leb (suc (length p)) limit) (queued-answered s to (positive_frame sid p)) (refused-answered s to sid 0x14)

-- another pending request makes no difference to that
pub pending-answered : (s : State) (q : Option PendingRequest) (p : Step) → Answered (with_pending s q) p → Answered s p
pending-answered s q p a = record { result = a.result; config = a.config; mode = a.mode; session = a.session; security = a.security; periodic = a.periodic }

-- a request that becomes pending
pub begun-answered : (s : State) (to sid : ℕ) (now : Moment) → Answered s (begun s to sid now)
unfolding queued begun
begun-answered s to sid now = pending-answered s (awaiting s to sid now).pending (begun s to sid now) (queued-answered (awaiting s to sid now) to (negative_frame sid 0x78))

-- and any reply
pub replied-answered : (limit : ℕ) (s : State) (to sid : ℕ) (now : Moment) (r : Reply) → Answered s (replied limit s to sid now r)
unfolding queued confirmed begun replied answered
replied-answered limit s to sid now silent = done-answered s
replied-answered limit s to sid now (positive p) = confirmed-answered limit s to sid p
replied-answered limit s to sid now (negative code) = refused-answered s to sid code
replied-answered limit s to sid now (always code) = queued-answered s to (negative_frame sid code)
replied-answered limit s to sid now pends = begun-answered s to sid now

-- what is said of a state apart from its pending request and its queue
abbrev pub On : (Config → AddressMode → Session → Security → List Subscription → Type 0) → State → Type 0
On Q s = Q s.config s.mode s.session s.security s.periodic

-- holds after a reply if it held before
pub answered_on : (Q : Config → AddressMode → Session → Security → List Subscription → Type 0) {s : State} {p : Step} → Answered s p → On Q s → On Q p.state
answered_on Q a h = rw (a.config, a.mode, a.session, a.security, a.periodic) h

-- and after an effect if it held before, and holds with the effect's three records
pub apply_on : (Q : Config → AddressMode → Session → Security → List Subscription → Type 0) (limit : ℕ) (s : State) (to sid : ℕ) (now : Moment) (e : Effect)
    → On Q s → On Q (changed s e) → On Q (apply limit s to sid now e).state
unfolding apply changed_after
apply_on Q limit s to sid now e h k =
    either (λ (p : Step). On Q p.state) e.waits
    (either (λ (p : Step). On Q p.state) (eqb (replied limit s to sid now e.reply).result 0) (rw (a.config, a.mode) k) (answered_on Q a h))
    (answered_on Q (replied-answered limit (changed s e) to sid now e.reply) k)
  where
    a : Answered s (replied limit s to sid now e.reply)
    a = replied-answered limit s to sid now e.reply

-- an effect carried out gives 0 or 3
pub apply_gives : (limit : ℕ) (s : State) (to sid : ℕ) (now : Moment) (e : Effect) → memb (apply limit s to sid now e).result (0 ∷ 3 ∷ []) ≡ true
unfolding apply changed_after
apply_gives limit s to sid now e =
    either Gives e.waits
    (either Gives (eqb (replied limit s to sid now e.reply).result 0) refl (replied-answered limit s to sid now e.reply).result)
    (replied-answered limit (changed s e) to sid now e.reply).result
  where
    Gives : Step → Type 0
    Gives p = memb p.result (0 ∷ 3 ∷ []) ≡ true

-- the session, security and subscriptions of a state
pub record Holds (s : State) (session : Session) (security : Security) (periodic : List Subscription) : Type 0 where
  pub session_is : s.session ≡ session
  pub security_is : s.security ≡ security
  pub periodic_is : s.periodic ≡ periodic

-- with `waits`, a reply that meets 3 leaves the session, security and subscriptions as they stood
pub apply-waits : (limit : ℕ) (s : State) (to sid : ℕ) (now : Moment) (e : Effect) → e.waits ≡ true → (apply limit s to sid now e).result ≡ 3
    → Holds (apply limit s to sid now e).state s.session s.security s.periodic
unfolding apply changed_after
apply-waits limit s to sid now e w = rw w (go (replied limit s to sid now e.reply) (replied-answered limit s to sid now e.reply))
  where
    go : (p : Step) → Answered s p → (changed_after e p).result ≡ 3 → Holds (changed_after e p).state s.session s.security s.periodic
    go p a = either (λ (q : Step). q.result ≡ 3 → Holds q.state s.session s.security s.periodic) (eqb p.result 0) (λ z. absurd (omega arith))
        (λ z. record { session_is = a.session; security_is = a.security; periodic_is = a.periodic })

-- without, the change stays, whatever the reply meets
pub apply_stays : (limit : ℕ) (s : State) (to sid : ℕ) (now : Moment) (e : Effect) → e.waits ≡ false
    → Holds (apply limit s to sid now e).state e.session e.security e.periodic
unfolding apply
apply_stays limit s to sid now e w = rw w (record { session_is = a.session; security_is = a.security; periodic_is = a.periodic })
  where
    a : Answered (changed s e) (replied limit (changed s e) to sid now e.reply)
    a = replied-answered limit (changed s e) to sid now e.reply

-- so where the answer to an ECU reset meets 3, the session, the level and the seed stay
pub reset_3 : (limit : ℕ) (s : State) (v : Seen) (b : List ℕ) (to sid : ℕ) (now : Moment) → (apply limit s to sid now (reset v (bytes b))).result ≡ 3
    → Holds (apply limit s to sid now (reset v (bytes b))).state s.session s.security s.periodic
unfolding reset
reset_3 limit s v b to sid now = apply-waits limit s to sid now (reset v (bytes b)) refl
