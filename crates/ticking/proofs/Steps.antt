-- S3 and the pending request: one law for each way out.
use Prim.Native.Nat.{ℕ, ◌+◌, ◌-◌}
use mathlib.Core.Path.{◌≡◌, refl, ap, ap₂, sym, ◌∙◌}
use mathlib.Core.Bool.{Bool, true, false, false≢true}
use mathlib.Core.List.{List}
use mathlib.Core.Option.{Option, some, none}
use lib.Dec.{ltb}
use borrow.Author.Tests.{eq-eqb, ne_eqb}
use Rattle.model.specs.Tests.{pick}
use Rattle.model.specs.Numbers.{Moment}
use Rattle.model.specs.Config.{find_session, s3_of, p2_ext_of}
use Rattle.model.specs.Frame.{negative_frame}
use Rattle.model.specs.State as Model
use Rattle.model.specs.State.{Session, Security, step, opened, cleared, with_pending}
use Rattle.model.specs.Queue.{QueueStep, pushed}
use Rattle.model.specs.Reply.{taken, begun}
use Rattle.model.specs.Tick.{s3}
use Rattle.config.specs.View.{config_of}
use Rattle.queue.specs.View.{queue_of}
use Rattle.security.specs.View.{security_of, ClearsIf}
use Rattle.state.specs.View.{session_of, pending_of, beside, made_at, awaited}
use Rattle.state.specs.declared.SessionState.{SessionState}
use Rattle.state.specs.declared.PendingRequest.{PendingRequest}
use Rattle.ticking.specs.View.{expired_of, Lapses, due_of, refreshed_at, Refreshes}

-- whether a session expired
module _ (w : List ℕ) (a : SessionState) (t : Moment) where
  pub in_default : a.session_type ≡ 1 → false ≡ expired_of w a t
  in_default e = rw (eq-eqb a.session_type 1 e)

  pub in_another : (silent span : ℕ) → (a.session_type ≡ 1 → ⊥) → silent ≡ t - a.last_rx.0 → span ≡ s3_of (find_session (config_of w) a.session_type) → ltb span silent ≡ expired_of w a t
  in_another silent span n e f = rw (ne_eqb a.session_type 1 n) (ap₂ ltb f e)

  -- what that leaves
  module _ (lapsed : Bool) (is : lapsed ≡ expired_of w a t) (k k' : List ℕ) (clears : ClearsIf k lapsed k') where
    pub lapses : (r : SessionState) → lapsed ≡ true → session_of r ≡ opened (session_of a) 1 → Lapses w a k t r k'
    unfolding s3
    lapses r l e =
        let seen : security_of k' ≡ cleared (security_of k) = rw l at clears.state in
        let over : expired_of w a t ≡ true = sym is ∙ l in
        record { state = λ table pending functional frames heads room. ap₂ (λ (x : Session) (y : Security). beside w x y table pending functional frames heads room) e seen ∙ rw over; words = rw is at clears }

    pub stays : lapsed ≡ false → Lapses w a k t a k'
    unfolding s3
    stays l =
        let seen : security_of k' ≡ security_of k = rw l at clears.state in
        let on : expired_of w a t ≡ false = sym is ∙ l in
        record { state = λ table pending functional frames heads room. ap (λ (y : Security). beside w (session_of a) y table pending functional frames heads room) seen ∙ rw on; words = rw is at clears }

-- the pending request
module _ (w : List ℕ) (session : ℕ) (pending : PendingRequest) (frames : ℕ) (heads room : List ℕ) (t : Moment) where
  pub not_yet : due_of (pending_of pending) t ≡ false → Refreshes w session pending frames heads room t pending 0 frames heads room
  not_yet e = record { step = λ a k table functional z. waits (beside w a k table pending functional frames heads room) (pending_of pending) e }
    where
      waits : (s : Model.State) (o : Option Model.PendingRequest) → due_of o t ≡ false → step 0 s ≡ refreshed_at s t (made_at w session t) o
      waits s none e = refl
      waits s (some p) e = rw e

  -- the new deadline stands whatever becomes of 0x78
  pub anew : (x : PendingRequest) (n' frames' : ℕ) (heads' room' : List ℕ) → due_of (pending_of pending) t ≡ true → pending_of x ≡ awaited w session pending.dst pending.sid t
      → record { result = n'; queue = queue_of frames' heads' room' } ≡ pushed (queue_of frames heads room) pending.dst (negative_frame pending.sid 0x78)
      → Refreshes w session pending frames heads room t x n' frames' heads' room'
  unfolding begun
  anew x n' frames' heads' room' d n q = record {
    step = λ a k table functional z.
        let s = beside w a k table pending functional frames heads room in
        ap₂ (λ (o : Option Model.PendingRequest) (y : QueueStep). taken (with_pending s o) y)
        (n ∙ ap (λ (y : ℕ). some (record { dst = pending.dst; sid = pending.sid; deadline = made_at w session t + p2_ext_of (find_session (config_of w) y) })) (sym z)) q
        ∙ falls s pending.on d;
  }
    where
      asked : Model.PendingRequest
      asked = record { dst = pending.dst; sid = pending.sid; deadline = pending.deadline.0 }

      falls : (s : Model.State) (b : Bool) → due_of (pick b (some asked) none) t ≡ true → begun s pending.dst pending.sid (made_at w session t) ≡ refreshed_at s t (made_at w session t) (pick b (some asked) none)
      falls s true e = rw e
      falls s false e = absurd (false≢true e)
