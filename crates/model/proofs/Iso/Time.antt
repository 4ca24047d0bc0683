-- What time does, against ISO 14229-1: S3, response pending and the final response, periodic messages.
use Prim.Native.Nat.{ℕ, suc, ◌+◌, ◌-◌, ◌%◌, ◌≤◌, ◌<◌}
use mathlib.Core.Path.{◌≡◌, refl, ◌∙◌, ap}
use mathlib.Core.Bool.{Bool, true, false, not, ◌&&◌}
use mathlib.Core.List.{List, [], ◌∷◌, ◌++◌}
use mathlib.Core.Option.{Option, some, none}
use native.Mathlib.Omega.{arith}
use lib.ListN.{length}
use lib.Dec.{eqb, leb}
use borrow.Author.Tests.{lt-ltb, le-ltb, le-leb, lt-leb, eq-eqb, ne_eqb}
use Rattle.model.specs.Iso
use Rattle.model.specs.Tests.{pick}
use Rattle.model.specs.Numbers.{Moment, Span, max_outbox, max_time}
use Rattle.model.specs.Config.{find_session, s3_of, p2_ext_of}
use Rattle.model.specs.Values.{bytes, Table, value}
use Rattle.model.specs.State.{State, Step, step, Subscription, PendingRequest, valid, with_pending}
use Rattle.model.specs.Queue.{pends, pushed, answered, sent}
use Rattle.model.specs.Reply.{queued, replied, begun}
use Rattle.model.specs.Tick.{s3, refreshed, Passed, pass_one, passed, due_sent, periodic, then_periodic, tick}
use Rattle.model.specs.Pending.{completed, failed, complete, fail}
use Rattle.model.proofs.Iso.Frames.{to, confirms}

-- S3 and P2* of the session that a state is in
abbrev pub s3_here : State → Span
s3_here s = s3_of (find_session s.config s.session.session_type)

abbrev pub p2_star_here : State → Span
p2_star_here s = p2_ext_of (find_session s.config s.session.session_type)

-- longer than S3 after the last request the session is the default one, locked, with no seed waiting
pub s3-ends : (s : State) (now : Moment) → (s.session.session_type ≡ Iso.default_session → ⊥) → Iso.S3Elapsed (s3_here s) s.session.last_rx now
    → ((s3 s now).session.session_type ≡ Iso.default_session) × ((s3 s now).session.level ≡ Iso.locked_level) × ((s3 s now).security.seed ≡ [])
unfolding s3
s3-ends s now n h = rw (ne_eqb _ _ n, lt-ltb (s3_here s) (now - s.session.last_rx) (omega arith)) (refl, refl, refl)

-- until then nothing changes
pub s3_stays : (s : State) (now : Moment) → now ≤ s.session.last_rx + s3_here s → s3 s now ≡ s
unfolding s3
s3_stays s now h = rw (le-ltb (s3_here s) (now - s.session.last_rx) (omega arith)) (go (eqb s.session.session_type 1) _)
  where
    go : (t : Bool) (x : State) → pick (not t && false) x s ≡ s
    go true x = refl
    go false x = refl

-- a state but for its subscriptions and queue
abbrev still : State → State
still s = record { config = s.config; session = s.session; security = s.security; periodic = []; pending = s.pending; mode = s.mode; queue = [] }

-- a tick does S3 and pending, and what follows changes subscriptions and queue alone
pub ticks : (limit : ℕ) (s : State) (now : Moment) (t : Table) → valid limit s ≡ true → now ≤ max_time
    → still (tick limit s now t).step.state ≡ still (refreshed (s3 s now) now s.pending).state
unfolding tick then_periodic
ticks limit s now t v h = rw (v, le-leb _ _ h) (go (refreshed (s3 s now) now s.pending) (eqb (refreshed (s3 s now) now s.pending).result 0))
  where
    go : (p : Step) (b : Bool) → still (pick b (periodic limit now t p.state) (record { err = 0; step = p })).step.state ≡ still p.state
    go p true = refl
    go p false = refl

-- so what S3 does to session and security, a tick does
refresh_keeps : (s : State) (now : Moment) (o : Option PendingRequest) → ((refreshed s now o).state.session ≡ s.session) × ((refreshed s now o).state.security ≡ s.security)
unfolding refreshed begun
refresh_keeps s now none = (refl, refl)
refresh_keeps s now (some p) = go (leb p.deadline now)
  where
    go : (t : Bool) → ((pick t (begun s p.dst p.sid now) (step 0 s)).state.session ≡ s.session) × ((pick t (begun s p.dst p.sid now) (step 0 s)).state.security ≡ s.security)
    go true = (refl, refl)
    go false = (refl, refl)

pub s3-ticks : (limit : ℕ) (s : State) (now : Moment) (t : Table) → valid limit s ≡ true → now ≤ max_time
    → ((tick limit s now t).step.state.session ≡ (s3 s now).session) × ((tick limit s now t).step.state.security ≡ (s3 s now).security)
s3-ticks limit s now t v h =
    let e = ticks limit s now t v h in
    let k = refresh_keeps (s3 s now) now s.pending in
    (ap (λ (x : State). x.session) e ∙ k.0, ap (λ (x : State). x.security) e ∙ k.1)

-- the request becomes pending: 78 is due again within P2*
pub pending-begins : (limit : ℕ) (s : State) (client sid : ℕ) (now : Moment) → length s.queue < max_outbox
    → ((replied limit s client sid now pends).state.pending ≡ some (record { dst = client; sid = sid; deadline = Iso.next_due (p2_star_here s) now }))
    × ((replied limit s client sid now pends).state.queue ≡ s.queue ++ to client (Iso.pending_message sid ∷ []))
unfolding replied answered pushed
pending-begins limit s client sid now room = rw (lt-ltb _ _ room) (refl, refl)

-- when it is due, 78 is sent again, and P2* runs anew
pub pending_repeats : (s : State) (now : Moment) (p : PendingRequest) → p.deadline ≤ now → length s.queue < max_outbox
    → ((refreshed s now (some p)).state.pending ≡ some (record { dst = p.dst; sid = p.sid; deadline = Iso.next_due (p2_star_here s) now }))
    × ((refreshed s now (some p)).state.queue ≡ s.queue ++ to p.dst (Iso.pending_message p.sid ∷ []))
unfolding refreshed begun pushed
pending_repeats s now p h room = rw (le-leb _ _ h, lt-ltb _ _ room) (refl, refl)

-- and not before
pub pending-waits : (s : State) (now : Moment) (p : PendingRequest) → now < p.deadline → refreshed s now (some p) ≡ step 0 s
unfolding refreshed
pending-waits s now p h = rw (lt-leb _ _ h)

-- the final response of a pending request is sent however the request was addressed, and whatever its suppress bit was
module _ (limit : ℕ) (s : State) (now : Moment) (p : PendingRequest) (v : valid limit s ≡ true) (h : now ≤ max_time) (e : s.pending ≡ some p) (room : length s.queue < max_outbox) where
  pub final_positive : Iso.RequestIdentifier p.sid → (fields : List ℕ)
      → (complete limit s now fields).state.queue ≡ s.queue ++ to p.dst (Iso.final_messages limit p.sid (Iso.positive_response fields))
  unfolding complete completed
  final_positive k fields = rw (v, le-leb _ _ h, e) (confirms limit (with_pending s none) p.dst p.sid now room k fields)

  pub final_negative : (code : ℕ) → (fail limit s now code).state.queue ≡ s.queue ++ to p.dst (Iso.final_messages limit p.sid (Iso.negative_response code))
  unfolding fail failed queued pushed
  final_negative code = rw (v, le-leb _ _ h, e, lt-ltb _ _ room)

-- a subscription that is due sends its identifier's low byte and its record to its client
pub periodic_message_lem : (limit : ℕ) (now : Moment) (t : Table) (a : Passed) (e : Subscription) (low : ℕ) (b : List ℕ)
    → a.result ≡ 0 → e.next ≤ now → e.identifier ≡ Iso.periodic_identifier low → low < 256 → value limit t e.identifier ≡ bytes b
    → suc (length b) ≤ limit → length a.queue < max_outbox
    → (pass_one limit now t a e).queue ≡ a.queue ++ to e.client (Iso.periodic_message low b ∷ [])
unfolding pass_one due_sent passed sent pushed
periodic_message_lem limit now t a e low b z due i small f fits room =
    let k : e.identifier % 256 ≡ low = omega arith in
    rw (eq-eqb _ _ z, le-leb _ _ due, f, le-leb _ _ fits, lt-ltb _ _ room, k)
