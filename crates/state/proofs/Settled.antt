-- Nothing else meets the promises: of two answers that meet one, what the theorem names is the same. `Post` is the promise itself, as its function
-- has it; `e` and `f` are what the one and the other leave of what was lent.
use Prim.Native.Nat.{ℕ}
use mathlib.Core.Path.{◌≡◌, refl, ap, ap₂, sym, ◌∙◌}
use mathlib.Core.Bool.{Bool, true, false, false≢true, ◌&&◌}
use mathlib.Core.List.{List, []}
use mathlib.Core.Option.{Option, some, none, none-ne-some, some-ne-none}
use lib.ListN.{length}
use lib.Dec.{eqb}
use Rattle.model.specs.Tests.{pick}
use Rattle.model.specs.State as Model
use Rattle.model.specs.State.{AddressMode, physical, functional, Session, Step, step}
use Rattle.uds.proofs.Promise.{Settles, Answer}
use Rattle.uds.specs.Result.{result_of}
use Rattle.uds.proofs.Refusals.{same_result}
use Rattle.uds.proofs.Settled.{said}
use Rattle.uds.proofs.Tab.{tab-length}
use Rattle.queue.specs.View.{frame_at, queue_of, queue_in, mode_of}
use Rattle.queue.specs.declared.reply.Outbox.{Outbox}
use Rattle.periodic.specs.View.{entry_at}
use Rattle.security.specs.View.{seed_at, ClearsIf}
use Rattle.state.specs.View.{session_of, pending_of, beside, state_of, step_of, Applies}
use Rattle.state.specs.declared.apply.Answer as Applied
use Rattle.state.specs.declared.apply.Effect.{Effect}
use Rattle.state.specs.declared.apply.Said.{Said}
use Rattle.state.specs.declared.PendingRequest.{PendingRequest}
use Rattle.state.specs.declared.SessionState.{SessionState}
use Rattle.state.specs.declared.State.{State}
use Rattle.state.proofs.SessionState.new.Reads as new-session
use Rattle.state.proofs.SessionState.opened.Reads as opened
use Rattle.state.proofs.PendingRequest.new.Reads as new-pending
use Rattle.state.proofs.PendingRequest.is_valid.Reads as pending-valid
use Rattle.state.proofs.State.new.Reads as new-state
use Rattle.state.proofs.apply.awaiting.Reads as awaiting
use Rattle.state.proofs.apply.replied.Reads as replied
use Rattle.state.proofs.apply.apply.Reads as apply
use Rattle.state.proofs.valid.is_valid.Reads as is-valid

-- a session record is all seen
pub session : {r r' : SessionState} → session_of r ≡ session_of r' → r ≡ r'
session e = ap made e
  where
    made : Session → SessionState
    made a = record { last_rx = record { 0 = a.last_rx }; session_type = a.session_type; level = a.level }

pub new_session_settled : (κs : _) (a : _) → Settles (new-session.Post κs a) Answer
new_session_settled κs a x e y f p q = session (said p q)

pub opened_settled : (κs : _) (a : _) → Settles (opened.Post κs a) Answer
opened_settled κs a x e y f p q = session (said p q)

-- what an option holds, or another
abbrev or_else : {A : Type 0} → A → Option A → A
or_else d (some x) = x
or_else d none = d

-- of a pending request, whether there is one, and if so all of it
pub record SamePending (r r' : PendingRequest) : Type 0 where
  pub on : r.on ≡ r'.on
  pub request : r.on ≡ true → r ≡ r'

pending : (r r' : PendingRequest) → pending_of r ≡ pending_of r' → SamePending r r'
pending r r' z = go r.on r'.on refl refl z
  where
    asked : PendingRequest → Model.PendingRequest
    asked x = record { dst = x.dst; sid = x.sid; deadline = x.deadline.0 }

    made : Model.PendingRequest → Bool → PendingRequest
    made x b = record { deadline = record { 0 = x.deadline }; dst = x.dst; sid = x.sid; on = b }

    go : (b b' : Bool) → r.on ≡ b → r'.on ≡ b' → pick b (some (asked r)) none ≡ pick b' (some (asked r')) none → SamePending r r'
    go true true e e' z = record { on = e ∙ sym e'; request = λ w. ap₂ made (ap (or_else (asked r)) z) (e ∙ sym e') }
    go true false e e' z = absurd (some-ne-none _ z)
    go false true e e' z = absurd (none-ne-some _ z)
    go false false e e' z = record { on = e ∙ sym e'; request = λ w. absurd (false≢true (sym e ∙ w)) }

pub new_pending_settled : (κs : _) (a : _) → Settles (new-pending.Post κs a) (λ x e y f. SamePending x y)
new_pending_settled κs a x e y f p q = pending x y (said p q)

pub pending_valid_settled : (κs : _) (a : _) → Settles (pending-valid.Post κs a) Answer
pending_valid_settled κs a x e y f p q = said p q

-- a request that becomes pending is all seen
pub awaiting_settled : (κs : _) (a : _) → Settles (awaiting.Post κs a) Answer
awaiting_settled κs a x e y f p q = (pending x y (said p q)).request (is x.on refl)
  where
    is : (b : Bool) → x.on ≡ b → x.on ≡ true
    is true z = z
    is false z = absurd (none-ne-some _ (rw z at p))

-- how many frames wait
as_many : (m n : ℕ) (heads heads' room room' : List ℕ) → queue_of m heads room ≡ queue_of n heads' room' → m ≡ n
as_many m n heads heads' room room' e = sym (tab-length (frame_at heads room) 0 m) ∙ ap length e ∙ tab-length (frame_at heads' room') 0 n

mode : (b b' : Bool) → mode_of b ≡ mode_of b' → b ≡ b'
mode b b' e = read b ∙ ap of e ∙ sym (read b')
  where
    of : AddressMode → Bool
    of physical = false
    of functional = true

    read : (b : Bool) → b ≡ of (mode_of b)
    read true = refl
    read false = refl

-- of a state all but what a request that is not pending leaves open
pub record SameState (s s' : State) : Type 0 where
  pub session : s.session ≡ s'.session
  pub pending : SamePending s.pending s'.pending
  pub functional : s.functional ≡ s'.functional
  pub subscriptions : s.subscriptions ≡ s'.subscriptions
  pub frames : s.frames ≡ s'.frames

-- whatever is lent beside each
pub state : (s s' : State) (config config' k k' subs subs' heads heads' room room' : List ℕ) → state_of config s k subs heads room ≡ state_of config' s' k' subs' heads' room' → SameState s s'
state s s' config config' k k' subs subs' heads heads' room room' z = record {
  session = session (ap (λ (m : Model.State). m.session) z);
  pending = pending s.pending s'.pending (ap (λ (m : Model.State). m.pending) z);
  functional = mode s.functional s'.functional (ap (λ (m : Model.State). m.mode) z);
  subscriptions = sym (tab-length (entry_at subs) 0 s.subscriptions) ∙ ap (λ (m : Model.State). length m.periodic) z ∙ tab-length (entry_at subs') 0 s'.subscriptions;
  frames = as_many s.frames s'.frames heads heads' room room' (ap (λ (m : Model.State). m.queue) z);
}

pub new_state_settled : (κs : _) (a : _) → Settles (new-state.Post κs a) (λ x e y f. SameState x y)
new_state_settled κs a x e y f p q = state x y [] [] [] [] [] [] [] [] [] [] (said (p [] [] [] [] [] refl) (q [] [] [] [] [] refl))

-- of a reply what was done, the pending request, and the queue that is seen
pub record SameSaid (r r' : Said) (o o' : Outbox) : Type 0 where
  pub done : r.done ≡ r'.done
  pub pending : SamePending r.pending r'.pending
  pub frames : o.count ≡ o'.count
  pub queue : queue_in o ≡ queue_in o'

-- in a state that is any
pub same-said : (config : List ℕ) (at : Session) (functional : Bool) (r r' : Said) (o o' : Outbox)
    → step (result_of r.done) (beside config at Model.fresh_security [] r.pending functional o.count o.heads.now o.room.now) ≡ step (result_of r'.done) (beside config at Model.fresh_security [] r'.pending functional o'.count o'.heads.now o'.room.now)
    → SameSaid r r' o o'
same-said config at fn r r' o o' z = record {
  done = same_result (ap (λ (m : Step). m.result) z);
  pending = pending r.pending r'.pending (ap (λ (m : Step). m.state.pending) z);
  frames = as_many o.count o'.count o.heads.now o'.heads.now o.room.now o'.room.now (ap (λ (m : Step). m.state.queue) z);
  queue = ap (λ (m : Step). m.state.queue) z;
}

-- and which heads and room that queue lies in
pub record SameReplied (r r' : Said) (o o' : Outbox) : Type 0 where
  pub reply : SameSaid r r' o o'
  pub heads : o.heads.ghost_name ≡ o'.heads.ghost_name
  pub room : o.room.ghost_name ≡ o'.room.ghost_name

pub replied_settled : (κs : _) (a : _) → Settles (replied.Post κs a) (λ x e y f. SameReplied x y e.1.1.1.0.now f.1.1.1.0.now)
replied_settled κs a x e y f p q =
    let at : Session = record { session_type = a.1.0; level = 0; last_rx = 0 } in
    record {
      reply = same-said a.0.now at a.1.1.1.1.0.functional x y e.1.1.1.0.now f.1.1.1.0.now (said (p.1.1.step at Model.fresh_security [] refl) (q.1.1.step at Model.fresh_security [] refl));
      heads = p.0 ∙ sym q.0;
      room = p.1.0 ∙ sym q.1.0;
    }

-- of an effect the result, the state, what is seen of all that is lent, and every byte of the seed
pub record SameAnswer (config : List ℕ) (r r' : Applied.Answer) (k k' heads heads' room room' : List ℕ) : Type 0 where
  pub result : r.result ≡ r'.result
  pub state : SameState r.state r'.state
  pub seen : (subs : List ℕ) → step_of config r k subs heads room ≡ step_of config r' k' subs heads' room'
  pub seed : (i : ℕ) → seed_at k i ≡ seed_at k' i

-- a seed that is cleared has no byte left, and else every word is as it was
pub cleared_alike : (clears : Bool) (k k' k'' : List ℕ) → ClearsIf k clears k' → ClearsIf k clears k'' → (i : ℕ) → seed_at k' i ≡ seed_at k'' i
cleared_alike true k k' k'' a b i = a.overwritten refl i ∙ sym (b.overwritten refl i)
cleared_alike false k k' k'' a b i = ap (λ (w : List ℕ). seed_at w i) (a.kept refl ∙ sym (b.kept refl))

module _ (config : List ℕ) (s : State) (k heads room : List ℕ) (to sid t : ℕ) (functional : Bool) (w : Effect) (x y : Applied.Answer) (k' k'' heads' heads'' room' room'' : List ℕ) (p : Applies config s k heads room to sid t functional w x k' heads' room') (q : Applies config s k heads room to sid t functional w y k'' heads'' room'') where
  alike : (subs : List ℕ) → step_of config x k' subs heads' room' ≡ step_of config y k'' subs heads'' room''
  alike subs = said (p.step subs) (q.step subs)

  same-result : x.result ≡ y.result
  same-result = ap (λ (m : Step). m.result) (alike [])

  abbrev clears : ℕ → Bool
  clears n = pick w.waits (eqb n 0) true && w.clears_seed

  pub applied_settled : SameAnswer config x y k' k'' heads' heads'' room' room''
  applied_settled = record {
    result = same-result;
    state = state x.state y.state config config k' k'' [] [] heads' heads'' room' room'' (ap (λ (m : Step). m.state) (alike []));
    seen = alike;
    seed = cleared_alike (clears x.result) k k' k'' p.words (rw (ap clears (sym same-result)) at q.words);
  }

pub apply_settled : (κs : _) (a : _) → Settles (apply.Post κs a) (λ x e y f. SameAnswer a.0.now x y e.1.1.0.now f.1.1.0.now e.1.1.1.0.now f.1.1.1.0.now e.1.1.1.1.0.now f.1.1.1.1.0.now)
apply_settled κs a x e y f p q = applied_settled _ _ _ _ _ _ _ _ _ _ x y _ _ _ _ _ _ p q

pub is_valid_settled : (κs : _) (a : _) → Settles (is-valid.Post κs a) Answer
is_valid_settled κs a x e y f p q = said p q
