-- A pending request ends by complete or fail, past 10 and 6, and by nothing else. Until then it is owed to the same destination for the same service.
use Prim.Native.Nat.{ℕ, ◌+◌, ◌≤◌}
use mathlib.Core.Path.{◌≡◌, refl, sym, ◌∙◌}
use mathlib.Core.Bool.{true}
use mathlib.Core.Logic.{◌↔◌, ◌⊎◌, inl, inr}
use mathlib.Core.List.{List, [], ◌∷◌}
use mathlib.Core.Option.{Option, some, none, none-ne-some, some-ne-none}
use lib.ListN.{replicate}
use lib.Dec.{leb, eqb}
use borrow.Author.Tests.{le-leb}
use Rattle.model.specs.Numbers.{Moment, max_frame, max_time}
use Rattle.model.specs.Config.{find_session, p2_ext_of}
use Rattle.model.specs.Values.{Table, empty_table}
use Rattle.model.specs.State.{AddressMode, PendingRequest, State, Step, fresh_state, valid, received}
use Rattle.model.specs.Reply.{queued, confirmed, begun}
use Rattle.model.specs.Request.{Request, Answer, heard, addressed, routed, request}
use Rattle.model.specs.Pending.{completed, failed, complete, fail}
use Rattle.model.specs.Tick.{expired, s3, refreshed, Ticked, then_periodic, ticked, tick}
use Rattle.model.specs.Drain.{Drained, drain}
use Rattle.model.specs.History.{Call, requests, questions, ticks, completes, fails, drains, call}
use Rattle.model.specs.Fixed.{fixed_config}
use Rattle.model.specs.Alike.{inbound, asking}
use Rattle.model.proofs.Open.{whole}
use Rattle.model.proofs.Laws.{either}
use Rattle.model.proofs.Leaves.Results.{time_of}
use Rattle.model.proofs.Leaves.{Ends, invalid, late, passes, ends}

-- a call that ends a pending request
abbrev pub Final : Call → Type 0
Final (requests r) = ⊥
Final (questions i) = ⊥
Final (ticks now t) = ⊥
Final (completes now payload) = Unit {0}
Final (fails now code) = Unit {0}
Final (drains buffer) = ⊥

-- a call that may move its deadline
abbrev pub Moves : Call → Type 0
Moves (requests r) = ⊥
Moves (questions i) = ⊥
Moves (ticks now t) = Unit {0}
Moves (completes now payload) = ⊥
Moves (fails now code) = ⊥
Moves (drains buffer) = ⊥

-- the pending request that is left is owed to the same destination for the same service, by the same deadline or a moved one
pub record Owed (Moved : Type 0) (p : PendingRequest) (o : Option PendingRequest) : Type 0 where
  pub request : PendingRequest
  pub there : o ≡ some request
  pub dst : request.dst ≡ p.dst
  pub sid : request.sid ≡ p.sid
  pub deadline : (request.deadline ≡ p.deadline) ⊎ Moved

-- the same one is
same_owed : {Moved : Type 0} {p : PendingRequest} {o : Option PendingRequest} → o ≡ some p → Owed Moved p o
same_owed {p = p} e = record { request = p; there = e; dst = refl; sid = refl; deadline = inl refl }

module _ (limit : ℕ) (p : PendingRequest) where
  -- a request finds the server busy: a frame queued leaves what is pending
  heard_owed : (s : State) (r : Request) (o : Option PendingRequest) → o ≡ some p → s.pending ≡ some p → (heard limit s r o).step.state.pending ≡ some p
  unfolding heard queued
  heard_owed s r none e h = absurd (none-ne-some p e)
  heard_owed s r (some q) e h = h

  -- or is foreign
  routed_owed : (s : State) (r : Request) (o : Option AddressMode) → s.pending ≡ some p → (routed limit s r o).step.state.pending ≡ some p
  unfolding routed
  routed_owed s r none h = h
  routed_owed s r (some m) h = heard_owed (received s m r.inbound.time) r s.pending h h

  -- the second step of a tick: only the deadline moves
  refreshed_owed : (s : State) (now : Moment) (o : Option PendingRequest) → o ≡ some p → s.pending ≡ some p → Owed (Unit {0}) p (refreshed s now o).state.pending
  unfolding refreshed begun
  refreshed_owed s now none e h = absurd (none-ne-some p e)
  refreshed_owed s now (some q) e h =
      either (λ (a : Step). Owed (Unit {0}) p a.state.pending) (leb q.deadline now)
      (record { request = again; there = refl; dst = (cc); sid = (cc); deadline = inr tt })
      (same_owed h)
    where
      again : PendingRequest
      again = record { dst = q.dst; sid = q.sid; deadline = now + p2_ext_of (find_session s.config s.session.session_type) }

  -- nor do the others end it
  ticked_owed : (s : State) (now : Moment) (t : Table) → s.pending ≡ some p → Owed (Unit {0}) p (ticked limit s now t).step.state.pending
  unfolding then_periodic s3
  ticked_owed s now t h = go (refreshed (s3 s now) now s.pending) (refreshed_owed (s3 s now) now s.pending h (either (λ (u : State). u.pending ≡ some p) (expired s now) h h))
    where
      go : (a : Step) → Owed (Unit {0}) p a.state.pending → Owed (Unit {0}) p (then_periodic limit now t a).step.state.pending
      go a k = either (λ (b : Ticked). Owed (Unit {0}) p b.step.state.pending) (eqb a.result 0) k k

  -- a call that is neither complete nor fail leaves a pending request pending, owed to the same destination for the same service,
  -- and but for a tick by the same deadline
  pub stays_pending : (s : State) (c : Call) → (Final c → ⊥) → s.pending ≡ some p → Owed (Moves c) p (call limit s c).state.pending
  unfolding call request tick drain
  stays_pending s (requests r) n h = either Left (valid limit s) (either Left (leb r.inbound.time max_time) (same_owed (routed_owed s r (addressed s.config r.inbound.dst) h)) k) k
    where
      Left : Answer → Type 0
      Left a = Owed ⊥ p a.step.state.pending

      k : Owed ⊥ p s.pending
      k = same_owed h
  stays_pending s (questions i) n h = same_owed h
  stays_pending s (ticks now t) n h = either Left (valid limit s) (either Left (leb now max_time) (ticked_owed s now t h) (same_owed h)) (same_owed h)
    where
      Left : Ticked → Type 0
      Left a = Owed (Unit {0}) p a.step.state.pending
  stays_pending s (completes now payload) n h = absurd (n tt)
  stays_pending s (fails now code) n h = absurd (n tt)
  stays_pending s (drains buffer) n h = either Left (valid limit s) (same_owed h) (same_owed h)
    where
      Left : Drained → Type 0
      Left d = Owed ⊥ p d.step.state.pending

-- after complete or fail, of a valid state and at a time up to 2^48, nothing is pending, also where 3 follows
pub ends-pending : (limit : ℕ) (s : State) (c : Call) → Final c → valid limit s ≡ true → time_of c ≤ max_time → (call limit s c).state.pending ≡ none
unfolding call complete fail completed failed queued confirmed
ends-pending limit s (completes now payload) f v t = rw (v, le-leb now max_time t) (go s.pending refl)
  where
    go : (o : Option PendingRequest) → s.pending ≡ o → (completed limit s payload o).state.pending ≡ none
    go none e = e
    go (some p) e = refl
ends-pending limit s (fails now code) f v t = rw (v, le-leb now max_time t) (go s.pending refl)
  where
    go : (o : Option PendingRequest) → s.pending ≡ o → (failed s code o).state.pending ≡ none
    go none e = e
    go (some p) e = refl
ends-pending limit s (requests r) f v t = absurd f
ends-pending limit s (questions i) f v t = absurd f
ends-pending limit s (ticks now u) f v t = absurd f
ends-pending limit s (drains buffer) f v t = absurd f

-- a call is one of the two, or not
final_or_not : (c : Call) → Final c ⊎ (Final c → ⊥)
final_or_not (requests r) = inr (λ f. f)
final_or_not (questions i) = inr (λ f. f)
final_or_not (ticks now t) = inr (λ f. f)
final_or_not (completes now payload) = inl tt
final_or_not (fails now code) = inl tt
final_or_not (drains buffer) = inr (λ f. f)

-- so a request that is pending is so no more exactly after complete or fail of a valid state, at a time up to 2^48
pub ends_exactly : (limit : ℕ) (s : State) (c : Call) (p : PendingRequest) → s.pending ≡ some p
    → ((call limit s c).state.pending ≡ none) ↔ (Final c × (valid limit s ≡ true) × (time_of c ≤ max_time))
ends_exactly limit s c p h = (λ z. go z (ends limit s c) (final_or_not c), λ k. ends-pending limit s c k.0 k.1 k.2)
  where
    never : {A : Type 0} → (call limit s c).state.pending ≡ none → Owed (Moves c) p (call limit s c).state.pending → A
    never z k = absurd (some-ne-none k.request (sym k.there ∙ z))

    go : (call limit s c).state.pending ≡ none → Ends limit s c → Final c ⊎ (Final c → ⊥) → Final c × (valid limit s ≡ true) × (time_of c ≤ max_time)
    go z (invalid v e) f = never z (rw e (same_owed h))
    go z (late v t e) f = never z (rw e (same_owed h))
    go z (passes v t m) (inl f) = (f, v, t)
    go z (passes v t m) (inr n) = never z (stays_pending limit p s c n h)

-- such a request: 31 answered with 78 at 5 pends; another request and a drain leave it, a tick at its deadline moves the deadline, complete ends it
abbrev pendings : State → List Call → List (Option PendingRequest)
pendings s [] = []
pendings s (c ∷ h) = (call max_frame s c).state.pending ∷ pendings (call max_frame s c).state h

abbrev owes : Moment → Option PendingRequest
owes deadline = some (record { dst = 3712; sid = 0x31; deadline = deadline })

abbrev asks : Moment → List ℕ → ℕ → Call
asks now frame err = requests (asking (inbound now 3712 16 frame) (record { err = err; bytes = [] }) empty_table)

pub pends_then_ends : pendings (fresh_state fixed_config)
    (asks 5 (0x31 ∷ 1 ∷ 2 ∷ 3 ∷ []) 0x78 ∷ asks 6 (0x3E ∷ 0 ∷ []) 0 ∷ drains (replicate 64 0) ∷ ticks 5005 empty_table ∷ completes 5006 [] ∷ [])
    ≡ owes 5005 ∷ owes 5005 ∷ owes 5005 ∷ owes 10005 ∷ none ∷ []
unfolding whole
pends_then_ends = refl
