-- A tick as its three steps leave it: one law for each way out, of a state that is valid and a time that is taken.
use Prim.Native.Nat.{ℕ, ◌≤◌}
use mathlib.Core.Path.{◌≡◌, refl, ap, ◌∙◌}
use mathlib.Core.Bool.{true}
use mathlib.Core.List.{List, [], ◌∷◌}
use mathlib.Core.Option.{Option, some, none}
use native.Mathlib.Omega.{arith}
use lib.Dec.{ltb}
use borrow.Author.Tests.{eq-eqb, ne_eqb, le-leb, ltb-true}
use Rattle.model.specs.Tests.{all}
use Rattle.model.specs.Numbers.{Moment, max_frame, max_time, max_span, max_periodic}
use Rattle.model.specs.Values.{Table}
use Rattle.model.specs.State as Model
use Rattle.model.specs.State.{Subscription, step, valid, moment_valid, subscription_valid}
use Rattle.model.specs.Tick.{s3, refreshed, Passed, pass_one, pass_all, Ticked, dispatched, then_periodic, ticked, tick}
use Rattle.model.proofs.Laws.{left, right, within_all}
use Rattle.model.proofs.Valid.Parts.{valid_parts}
use Rattle.uds.specs.Values as Values
use Rattle.uds.proofs.Times.{on_the_clock}
use Rattle.security.specs.View.{security_of}
use Rattle.periodic.specs.View.{table_of}
use Rattle.periodic.proofs.Uses.{valid-count}
use Rattle.state.specs.View.{session_of, pending_of, beside, state_of}
use Rattle.state.specs.declared.SessionState.{SessionState}
use Rattle.state.specs.declared.PendingRequest.{PendingRequest}
use Rattle.state.specs.declared.State.{State}
use Rattle.state.proofs.Applied.{made_now}
use Rattle.ticking.specs.View.{Lapses, refreshed_at, Refreshes, pass_one_at, pass_all_at, Sent, Sends}

-- a pending request refreshed now is the definition's
now-refreshed : (s : Model.State) (t : Moment) (o : Option Model.PendingRequest) → refreshed_at s t t o ≡ refreshed s t o
unfolding refreshed
now-refreshed s t none = refl
now-refreshed s t (some p) = refl

-- entries that keep the numbers are advanced now, so that passing them is the definition's
module _ (limit : ℕ) (now : Moment) (t : Table) (h : now ≤ max_time) where
  one_now : (a : Passed) (e : Subscription) → subscription_valid e ≡ true → pass_one_at limit now t a e ≡ pass_one limit now t a e
  unfolding pass_one
  one_now a e v = rw (on_the_clock now e.interval (omega (arith, ltb-true e.interval max_span (left (ltb e.interval max_span) (moment_valid e.next) v))))

  all-now : (es : List Subscription) (a : Passed) → all subscription_valid es ≡ true → pass_all_at limit now t es a ≡ pass_all limit now t es a
  all-now [] a v = refl
  all-now (e ∷ es) a v =
      ap (pass_all_at limit now t es) (one_now a e (left (subscription_valid e) (all subscription_valid es) v)) ∙ all-now es (pass_one limit now t a e) (right (subscription_valid e) (all subscription_valid es) v)

module _ (w : List ℕ) (s : State) (k subs heads room : List ℕ) (t : Moment) (values pool : List ℕ) where
  abbrev before : Model.State
  before = state_of w s k subs heads room

  abbrev after : Ticked
  after = tick max_frame before t (Values.table_of values pool)

  -- the state, with the parts that the steps change
  abbrev pub leaving : SessionState → PendingRequest → ℕ → State
  leaving a p n = record { session = a; pending = p; functional = s.functional; subscriptions = s.subscriptions; frames = n }

  module _ (v : valid max_frame before ≡ true) (h : t ≤ max_time) where
    -- neither 10 nor 6
    pub taken : ticked max_frame before t (Values.table_of values pool) ≡ after
    unfolding tick
    taken = rw (v, le-leb t max_time h)

    module _ (a : SessionState) (k' : List ℕ) (p : Lapses w s.session k t a k')
        (pending' : PendingRequest) (n' frames' : ℕ) (heads1 room1 : List ℕ) (q : Refreshes w a.session_type s.pending s.frames heads room t pending' n' frames' heads1 room1) where
      -- S3 and the pending request
      abbrev then : Model.State
      then = state_of w (leaving a pending' frames') k' subs heads1 room1

      pends : step n' then ≡ refreshed (s3 before t) t (pending_of s.pending)
      pends =
          let x = beside w (session_of a) (security_of k') (table_of s.subscriptions subs) s.pending s.functional s.frames heads room in
          q.step (session_of a) (security_of k') (table_of s.subscriptions subs) s.functional refl
          ∙ ap (λ (n : ℕ). refreshed_at x t n (pending_of s.pending)) (made_now w a.session_type t (valid_parts max_frame before v).config h)
          ∙ now-refreshed x t (pending_of s.pending)
          ∙ ap (λ (y : Model.State). refreshed y t (pending_of s.pending)) (p.state (table_of s.subscriptions subs) s.pending s.functional s.frames heads room)

      goes : then_periodic max_frame t (Values.table_of values pool) (step n' then) ≡ ticked max_frame before t (Values.table_of values pool)
      goes = ap (then_periodic max_frame t (Values.table_of values pool)) pends

      -- the pending step met 3, and the tick ends
      pub met_3 : (n' ≡ 0 → ⊥) → record { err = 0; step = step n' then } ≡ ticked max_frame before t (Values.table_of values pool)
      unfolding then_periodic
      met_3 n = rw (ne_eqb n' 0 n) at goes

      pub tick_3 : (n' ≡ 0 → ⊥) → record { err = 0; step = step n' then } ≡ after
      tick_3 n = met_3 n ∙ taken

      -- it met none, and the due subscriptions are sent
      pub sent : (x : Sent) (subs' heads' room' : List ℕ) → n' ≡ 0 → Sends subs s.subscriptions frames' heads1 room1 t (Values.table_of values pool) x subs' heads' room'
          → record { err = x.err; step = step x.result (state_of w (leaving a pending' x.frames) k' subs' heads' room') } ≡ ticked max_frame before t (Values.table_of values pool)
      unfolding then_periodic
      sent x subs' heads' room' n d =
          let table = (valid_parts max_frame before v).periodic in
          ap (dispatched then)
          (d.passed (valid-count s.subscriptions subs table) ∙ all-now max_frame t (Values.table_of values pool) h (table_of s.subscriptions subs) _ (within_all max_periodic subscription_valid (table_of s.subscriptions subs) table))
          ∙ rw (eq-eqb n' 0 n) at goes

      pub tick-sent : (x : Sent) (subs' heads' room' : List ℕ) → n' ≡ 0 → Sends subs s.subscriptions frames' heads1 room1 t (Values.table_of values pool) x subs' heads' room'
          → record { err = x.err; step = step x.result (state_of w (leaving a pending' x.frames) k' subs' heads' room') } ≡ after
      tick-sent x subs' heads' room' n d = sent x subs' heads' room' n d ∙ taken
