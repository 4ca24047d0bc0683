-- What a reply and an effect leave, as laws over what the functions below them promise.
use Prim.Native.Nat.{ℕ, ◌+◌, ◌^◌, ◌≤◌, ◌<◌}
use mathlib.Core.Path.{◌≡◌, refl, ap, ap₂, sym, ◌∙◌}
use mathlib.Core.Bool.{Bool, true, false, false≢true, ◌&&◌}
use mathlib.Core.List.{List}
use mathlib.Core.Option.{some, none}
use native.Mathlib.Omega.{arith}
use lib.Dec.{eqb}
use borrow.Author.Tests.{ne_eqb, eqb-true, eqb-false}
use Rattle.model.specs.Tests.{pick}
use Rattle.model.specs.Numbers.{max_frame, max_time}
use Rattle.model.specs.Config.{find_session, p2_ext_of, within}
use Rattle.model.specs.State as Model
use Rattle.model.specs.State.{Session, Security, Subscription, cleared, received}
use Rattle.model.specs.Queue.{answered}
use Rattle.model.specs.Reply.{taken, readied, replied}
use Rattle.model.specs.Service as Rules
use Rattle.model.proofs.Valid.Parts.{p2_ext-below}
use Rattle.uds.specs.Clock.{later, starts}
use Rattle.uds.proofs.Times.{in_time, on_the_clock}
use Rattle.config.specs.View.{config_of}
use Rattle.queue.specs.View.{queue_of, reply_of, mode_of}
use Rattle.queue.specs.declared.reply.Reply.{Reply}
use Rattle.queue.specs.declared.reply.Reply.TheVariants.{Silent, Positive, Negative, Always, Pends}
use Rattle.periodic.specs.View.{table_of}
use Rattle.security.specs.View.{security_of, ClearsIf}
use Rattle.state.specs.declared.SessionState.{SessionState}
use Rattle.state.specs.declared.PendingRequest.{PendingRequest}
use Rattle.state.specs.declared.State.{State}
use Rattle.state.specs.declared.apply.Effect.{Effect}
use Rattle.state.specs.declared.apply.Answer.{Answer}
use Rattle.state.specs.View.{session_of, pending_of, beside, state_of, step_of, pends_of, made_at, awaited, Replies, effect_of, Applies}

-- a fresh state is fresh in all that it holds
pub fresh-state : (a : SessionState) (p : PendingRequest) (n : ℕ) → session_of a ≡ Model.fresh_session → pending_of p ≡ none → ((w : List ℕ) → table_of n w ≡ Model.fresh_periodic) → (config k subs heads room : List ℕ) → security_of k ≡ Model.fresh_security
    → state_of config (record { session = a; pending = p; functional = false; subscriptions = n; frames = 0 }) k subs heads room ≡ Model.fresh_state (config_of config)
fresh-state a p n e f g config k subs heads room h =
    λ i. record { config = config_of config; session = e i; security = h i; periodic = g subs i; pending = f i; mode = Model.physical; queue = queue_of 0 heads room }

-- a reply that does not make the request pending leaves the state
not-pending : (s : Model.State) (to sid t count : ℕ) (room : List ℕ) (r : Reply) → pends_of r ≡ false → s ≡ readied s to sid t (reply_of r count room)
not-pending s to sid t count room Silent e = refl
not-pending s to sid t count room (Positive len) e = refl
not-pending s to sid t count room (Negative code) e = refl
not-pending s to sid t count room (Always code) e = refl
not-pending s to sid t count room Pends e = absurd (false≢true (sym e))

is_pends : (r : Reply) → pends_of r ≡ true → r ≡ Pends
is_pends Silent e = absurd (false≢true e)
is_pends (Positive len) e = absurd (false≢true e)
is_pends (Negative code) e = absurd (false≢true e)
is_pends (Always code) e = absurd (false≢true e)
is_pends Pends e = refl

-- the deadline of a request that becomes pending is now plus P2* of the session
pub becomes_pending : (w : List ℕ) (session to sid t deadline p2 : ℕ) → p2 < 2 ^ 64 → deadline ≡ later t p2 → p2 ≡ p2_ext_of (find_session (config_of w) session)
    → pending_of (record { deadline = record { 0 = deadline }; dst = to; sid = sid; on = true }) ≡ awaited w session to sid t
becomes_pending w session to sid t deadline p2 fits d e =
    ap (λ (x : ℕ). some (record { dst = to; sid = sid; deadline = x })) (in_time t p2 deadline fits d ∙ ap (λ (x : ℕ). starts t x + x) e)

module _ (w : List ℕ) (session : ℕ) (pending : PendingRequest) (frames : ℕ) (functional : Bool) (heads room : List ℕ) (to sid t : ℕ) (reply : Reply) (n count : ℕ) (heads' room' : List ℕ)
    (q : record { result = n; queue = queue_of count heads' room' } ≡ answered max_frame (mode_of functional) (queue_of frames heads room) to sid (reply_of reply frames room)) where
  -- a reply is the queue's step taken into the state in which it is queued
  reply-taken : (x : PendingRequest) → ((a : Session) (k : Security) (table : List Subscription) → a.session_type ≡ session
      → beside w a k table x functional frames heads room ≡ readied (beside w a k table pending functional frames heads room) to sid (made_at w session t) (reply_of reply frames room))
      → Replies w session pending frames functional heads room to sid t reply x n count heads' room'
  unfolding replied
  reply-taken x h = record { step = λ a k table e. ap₂ taken (h a k table e) q }

  pub reply-kept : pends_of reply ≡ false → Replies w session pending frames functional heads room to sid t reply pending n count heads' room'
  reply-kept n = reply-taken pending (λ a k table e. not-pending (beside w a k table pending functional frames heads room) to sid (made_at w session t) frames room reply n)

  -- one that does makes it so first
  pub reply-pends : (x : PendingRequest) → pends_of reply ≡ true → pending_of x ≡ awaited w session to sid t → Replies w session pending frames functional heads room to sid t reply x n count heads' room'
  reply-pends x n e =
      reply-taken x
      (λ a k table z.
      let m = beside w a k table pending functional frames heads room in
      ap (Model.with_pending m) (e ∙ ap (λ (y : ℕ). some (record { dst = to; sid = sid; deadline = made_at w session t + p2_ext_of (find_session (config_of w) y) })) (sym z))
      ∙ ap (λ (r : Reply). readied m to sid (made_at w session t) (reply_of r frames room)) (sym (is_pends reply n)))

-- an effect: in which order the reply and the change come, and whether the change is made
module _ (w : List ℕ) (s : State) (k heads room : List ℕ) (to sid t : ℕ) (functional : Bool) (e : Effect) (pending' : PendingRequest) (n' frames' : ℕ) (k' heads' room' : List ℕ) where
  -- the answer, with the three numbers that an effect may change
  abbrev leaving : ℕ → ℕ → ℕ → Answer
  leaving x level n = record {
    state = record { session = record { last_rx = record { 0 = t }; session_type = x; level = level }; pending = pending'; functional = functional; subscriptions = n; frames = frames' };
    result = n';
  }

  abbrev Reply_in : ℕ → Type 0
  Reply_in session = Replies w session s.pending s.frames functional heads room to sid t e.reply pending' n' frames' heads' room'

  -- the step that the definition takes
  abbrev Leaves : ℕ → ℕ → ℕ → Type 0
  Leaves x level n = (subs : List ℕ) → step_of w (leaving x level n) k' subs heads' room'
      ≡ Rules.apply max_frame (received (state_of w s k subs heads room) (mode_of functional) t) to sid (made_at w (pick e.waits s.session.session_type e.session) t) (effect_of e t k subs s.frames room)

  abbrev changed : Security
  changed = pick e.clears_seed (cleared (security_of k)) (security_of k)

  abbrev at : ℕ → ℕ → Session
  at x level = record { session_type = x; level = level; last_rx = t }

  -- a change that does not wait is made before the reply
  made_first : e.waits ≡ false → Reply_in e.session → security_of k' ≡ changed → Leaves e.session e.level e.subscriptions
  unfolding Rules.apply
  made_first h r c subs = r.step (at e.session e.level) (security_of k') (table_of e.subscriptions subs) refl ∙ rw (h, c)

  -- one that waits is not made where the reply met a result
  unmade : e.waits ≡ true → (n' ≡ 0 → ⊥) → Reply_in s.session.session_type → security_of k' ≡ security_of k → Leaves s.session.session_type s.session.level s.subscriptions
  unfolding Rules.apply Rules.changed_after
  unmade h n r c subs =
      let z = r.step (at s.session.session_type s.session.level) (security_of k) (table_of s.subscriptions subs) refl in
      let m : (replied max_frame (received (state_of w s k subs heads room) (mode_of functional) t) to sid (made_at w s.session.session_type t) (reply_of e.reply s.frames room)).result ≡ n' = ap (λ (x : Model.Step). x.result) (sym z) in
      rw c (z ∙ rw (h, m, ne_eqb n' 0 n))

  -- and is made where it met none
  made_then : e.waits ≡ true → n' ≡ 0 → Reply_in s.session.session_type → security_of k' ≡ changed → Leaves e.session e.level e.subscriptions
  unfolding Rules.apply Rules.changed_after
  made_then h n r c subs =
      let q = r.step (at s.session.session_type s.session.level) (security_of k) (table_of s.subscriptions subs) refl in
      let v = replied max_frame (received (state_of w s k subs heads room) (mode_of functional) t) to sid (made_at w s.session.session_type t) (reply_of e.reply s.frames room) in
      let m : v.result ≡ 0 = ap (λ (x : Model.Step). x.result) (sym q) ∙ n in
      let f : state_of w (leaving e.session e.level e.subscriptions).state k' subs heads' room' ≡ Rules.changed v.state (effect_of e t k subs s.frames room) =
      rw c (ap (λ (x : Model.Step). Rules.changed x.state (effect_of e t k subs s.frames room)) q) in
      ap₂ Model.step n f ∙ rw (h, m)

  -- what was asked of the callees, and the answer built from it
  pub applied : (at : ℕ) (made clears : Bool) (x level n : ℕ) → at ≡ pick e.waits s.session.session_type e.session → Reply_in at → made ≡ pick e.waits (eqb n' 0) true
      → clears ≡ (made && e.clears_seed) → ClearsIf k clears k'
      → x ≡ pick made e.session s.session.session_type → level ≡ pick made e.level s.session.level → n ≡ pick made e.subscriptions s.subscriptions
      → Applies w s k heads room to sid t functional e (leaving x level n) k' heads' room'
  applied at made clears x level n a r b c d ex el en = record { step = rw (ex, el, en) (go e.waits (eqb n' 0) refl refl); words = rw (← b, ← c) d }
    where
      go : (v z : Bool) → e.waits ≡ v → eqb n' 0 ≡ z → Leaves (pick made e.session s.session.session_type) (pick made e.level s.session.level) (pick made e.subscriptions s.subscriptions)
      go false z h y = let m : made ≡ true = rw h at b in rw m (made_first h (rw (a, h) at r) (d.state ∙ rw (c, m)))
      go true true h y = let m : made ≡ true = rw (h, y) at b in rw m (made_then h (eqb-true n' 0 y) (rw (a, h) at r) (d.state ∙ rw (c, m)))
      go true false h y = let m : made ≡ false = rw (h, y) at b in rw m (unmade h (eqb-false n' 0 y) (rw (a, h) at r) (d.state ∙ rw (c, m)))

  -- and its result told by its number
  pub applied_told : (m at : ℕ) (made clears : Bool) (x level n : ℕ) → m ≡ n' → at ≡ pick e.waits s.session.session_type e.session → Reply_in at → made ≡ pick e.waits (eqb n' 0) true
      → clears ≡ (made && e.clears_seed) → ClearsIf k clears k'
      → x ≡ pick made e.session s.session.session_type → level ≡ pick made e.level s.session.level → n ≡ pick made e.subscriptions s.subscriptions
      → Applies w s k heads room to sid t functional e (record { state = (leaving x level n).state; result = m }) k' heads' room'
  applied_told m at made clears x level n z a r b c d ex el en = rw z (applied at made clears x level n a r b c d ex el en)

-- at the times that are taken, under a configuration that keeps the numbers, a reply is made now
pub made_now : (w : List ℕ) (session t : ℕ) → within (config_of w) ≡ true → t ≤ max_time → made_at w session t ≡ t
made_now w session t v h = on_the_clock t (p2_ext_of (find_session (config_of w) session)) (omega (arith, p2_ext-below (config_of w) session v))
