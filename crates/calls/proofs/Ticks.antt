-- One law for each way out of a tick.
use Prim.Native.Nat.{ℕ}
use mathlib.Core.Path.{◌≡◌}
use mathlib.Core.List.{List}
use Rattle.model.specs.Numbers.{max_frame}
use Rattle.model.specs.State as Model
use Rattle.model.specs.Tick.{tick}
use Rattle.uds.specs.Values as Values
use Rattle.state.specs.View.{state_of}
use Rattle.state.specs.declared.SessionState.{SessionState}
use Rattle.state.specs.declared.State.{State}
use Rattle.state.specs.declared.PendingRequest.{PendingRequest}
use Rattle.ticking.specs.View.{Sent, Lapses, Refreshes, Sends}
use Rattle.ticking.proofs.Ticked.{leaving, tick_3, tick-sent}
use Rattle.entry.specs.Gate.{barring}
use Rattle.calls.specs.View.{tick_of}
use Rattle.entry.proofs.Gate.{barred_so, let_through}

module _ (w : List ℕ) (s : State) (k subs heads room : List ℕ) (t : ℕ) (values pool : List ℕ) where
  abbrev before : Model.State
  before = state_of w s k subs heads room

  pub tick-barred : (n : ℕ) → n ≡ barring (Model.valid max_frame before) t → (n ≡ 0 → ⊥) → record { err = 0; step = Model.step n before } ≡ tick max_frame before t (Values.table_of values pool)
  unfolding tick
  tick-barred n g z = barred_so (Model.valid max_frame before) t (λ m. record { err = 0; step = Model.step m before }) _ n g z

  module _ (n : ℕ) (g : n ≡ barring (Model.valid max_frame before) t) (z : n ≡ 0) (a : SessionState) (k' : List ℕ) (p : Lapses w s.session k t a k')
      (pending' : PendingRequest) (n' frames' : ℕ) (heads1 room1 : List ℕ) (q : Refreshes w a.session_type s.pending s.frames heads room t pending' n' frames' heads1 room1) where
    -- 0x78 met 3
    pub ends_3 : (n' ≡ 0 → ⊥) → tick_of w (record { state = leaving w s k subs heads room t values pool a pending' frames'; result = n'; err = 0 }) k' subs heads1 room1 ≡ tick max_frame before t (Values.table_of values pool)
    ends_3 m = let v = let_through (Model.valid max_frame before) t n g z in
        tick_3 w s k subs heads room t values pool v.0 v.1 a k' p pending' n' frames' heads1 room1 q m

    -- it met none, or nothing was due
    pub goes_on : (x : Sent) (subs' heads' room' : List ℕ) → n' ≡ 0 → Sends subs s.subscriptions frames' heads1 room1 t (Values.table_of values pool) x subs' heads' room'
        → tick_of w (record { state = leaving w s k subs heads room t values pool a pending' x.frames; result = x.result; err = x.err }) k' subs' heads' room' ≡ tick max_frame before t (Values.table_of values pool)
    goes_on x subs' heads' room' m d = let v = let_through (Model.valid max_frame before) t n g z in
        tick-sent w s k subs heads room t values pool v.0 v.1 a k' p pending' n' frames' heads1 room1 q x subs' heads' room' m d
