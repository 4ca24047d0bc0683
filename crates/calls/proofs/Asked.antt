-- One law for each way out of a request.
use Prim.Native.Nat.{ℕ, ◌≤◌}
use mathlib.Core.Path.{◌≡◌, refl, ap, ap₂, sym, ◌∙◌}
use mathlib.Core.Bool.{Bool, true, false, false≢true, not, ◌&&◌}
use mathlib.Core.List.{List}
use mathlib.Core.Option.{Option, some, none}
use lib.ListN.{length}
use lib.Dec.{eqb, leb}
use borrow.Author.Tests.{le-leb, eqb-true, not-true, not-false}
use Rattle.model.specs.Tests.{pick}
use Rattle.model.specs.Numbers.{max_frame, max_time, max_periodic}
use Rattle.model.specs.Config.{ServiceConfig, find_service, allowed_in}
use Rattle.model.specs.Frame.{Frame, sid_of, payload_of}
use Rattle.model.specs.State as Model
use Rattle.model.specs.State.{AddressMode, PendingRequest, Security, Subscription, subscription_valid, received, with_queue, with_records}
use Rattle.model.specs.Queue.{answered}
use Rattle.model.specs.Reply.{replied, queued}
use Rattle.model.specs.Service as Service
use Rattle.model.specs.Service.{Seen, Served, no_act, refuses}
use Rattle.model.specs.Request as Definition
use Rattle.model.specs.Request.{Request, plain, length_fits}
use Rattle.model.proofs.Laws.{within-length}
use Rattle.model.proofs.Valid.Parts.{valid_parts}
use Rattle.config.specs.View.{config_of}
use Rattle.periodic.specs.View.{table_of}
use Rattle.security.specs.View.{security_of}
use Rattle.queue.specs.View.{mode_of}
use Rattle.state.specs.View.{state_of, step_of, effect_of, Applies}
use Rattle.state.proofs.Applied.{made_now}
use Rattle.state.specs.declared.State.{State}
use Rattle.state.specs.declared.apply.Effect.{Effect}
use Rattle.state.specs.declared.apply.Answer as Applied
use Rattle.service.specs.Act.{act_of}
use Rattle.service.specs.Fitted.{fitted}
use Rattle.queue.specs.declared.reply.Reply.TheVariants.{Always}
use Rattle.service.specs.Seen.{Serves, says_of}
use Rattle.service.specs.declared.Wanted.{Wanted}
use Rattle.service.proofs.Fitted.{fitted-apply}
use Rattle.access.specs.Access.{ready27, access27}
use Rattle.transmission.specs.View2A.{guarded2A}
use Rattle.dispatch.specs.Rules as Rules
use Rattle.dispatch.specs.Seen.{seen_of}
use Rattle.entry.specs.Address.{addressed_of}
use Rattle.entry.specs.Gate.{barring}
use Rattle.std.specs.Prelude.{Option as Maybe, Some, None}
use Rattle.entry.proofs.Gate.{barred_so, let_through}
use Rattle.calls.specs.Request.{request_of, answer_of, Hears, wanted_by}
use Rattle.calls.specs.declared.request.Answered.{Answered}

-- where the numbers are kept the dispatch is the definition's
module _ (v : Seen) (a : ready27 v.config v.security v.now ≡ true) (b : (leb (length v.periodic) max_periodic && leb v.now max_time) ≡ true) where
  kept-service : (sid : ℕ) → Rules.service sid v ≡ Definition.service sid v
  unfolding Rules.service Definition.service access27 guarded2A
  kept-service sid = go (eqb sid 0x27) (eqb sid 0x2A) refl refl
    where
      go : (x y : Bool) → eqb sid 0x27 ≡ x → eqb sid 0x2A ≡ y → Rules.service sid v ≡ Definition.service sid v
      go true y e f = rw (eqb-true sid 0x27 e, a)
      go false true e f = rw (eqb-true sid 0x2A f, b)
      go false false e f = rw (e, f)

  kept_row : (sid : ℕ) (o : Option ServiceConfig) → Rules.rowed sid v o ≡ Definition.guarded sid v o
  unfolding Rules.rowed Definition.guarded
  kept_row sid none = refl
  kept_row sid (some row) = ap (λ (x : Served). pick (allowed_in v.session.session_type row) x (refuses v 0x7F)) (kept-service sid)

-- a change that does not wait hides what the lent words held before
lent_anew : (s : Model.State) (a b : Security) (x y : List Subscription) (e : Service.Effect) (to sid n : ℕ) → (e.waits ≡ true → (b ≡ a) × (y ≡ x))
    → Service.apply max_frame (with_records s s.session b y) to sid n e ≡ Service.apply max_frame (with_records s s.session a x) to sid n e
unfolding Service.apply
lent_anew s a b x y e to sid n h = go e.waits refl
  where
    go : (w : Bool) → e.waits ≡ w → Service.apply max_frame (with_records s s.session b y) to sid n e ≡ Service.apply max_frame (with_records s s.session a x) to sid n e
    go true z = ap₂ (λ (p : Security) (q : List Subscription). Service.apply max_frame (with_records s s.session p q) to sid n e) (h z).0 (h z).1
    go false z = rw z

-- a request from its first test to its last
module _ (w : List ℕ) (s : State) (k subs heads room : List ℕ) (t src dst : ℕ) (frame : List ℕ) (err : ℕ) (given values pool : List ℕ) where
  abbrev before : Model.State
  before = state_of w s k subs heads room

  abbrev asked : Request
  asked = request_of t src dst frame err given values pool

  abbrev seen : Seen
  seen = seen_of w s.session.session_type s.session.level s.subscriptions src t (payload_of frame) err given values pool k subs

  -- nothing asked: the state and the result alone
  abbrev Gives : State → ℕ → Type 0
  Gives x n = (r : Answered) → (r.state ≡ x) × (r.result ≡ n) × (act_of r.act ≡ no_act) → answer_of w r k subs heads room ≡ Definition.request max_frame before asked

  told : (x : State) (n : ℕ) → plain (Model.step n (state_of w x k subs heads room)) ≡ Definition.request max_frame before asked → Gives x n
  told x n e r (f, g, h) = ap₂ (λ (a : Service.Act) (p : Model.Step). record { act = a; step = p }) h (ap₂ (λ (y : State) (m : ℕ). Model.step m (state_of w y k subs heads room)) f g) ∙ e

  pub barred : (n : ℕ) → n ≡ barring (Model.valid max_frame before) t → (n ≡ 0 → ⊥) → Gives s n
  unfolding Definition.request
  barred n e z = told s n (barred_so (Model.valid max_frame before) t (λ m. plain (Model.step m before)) _ n e z)

  -- let through: the state is valid, and the time at most 2^48
  module _ (n : ℕ) (g : n ≡ barring (Model.valid max_frame before) t) (z : n ≡ 0) where
    v : Model.valid max_frame before ≡ true
    v = (let_through (Model.valid max_frame before) t n g z).0

    h : t ≤ max_time
    h = (let_through (Model.valid max_frame before) t n g z).1

    routes : (m : Option AddressMode) → m ≡ Definition.addressed (config_of w) dst → Definition.routed max_frame before asked m ≡ Definition.request max_frame before asked
    unfolding Definition.request
    routes m e = rw (v, le-leb t max_time h, e)

    pub to_none : (x : Maybe Bool) → addressed_of x ≡ Definition.addressed (config_of w) dst → x ≡ None → plain (Model.step 0 before) ≡ Definition.request max_frame before asked
    unfolding Definition.routed
    to_none x a e = routes none (rw e at a)

    pub foreign : (x : Maybe Bool) → addressed_of x ≡ Definition.addressed (config_of w) dst → x ≡ None → Gives s 0
    foreign x a e = told s 0 (to_none x a e)

    -- what 27 and 2A ask of the numbers
    ready : ready27 (config_of w) (security_of k) t ≡ true
    ready = let p = valid_parts max_frame before v in rw (p.config, p.security, le-leb t max_time h)

    few : (leb (length (table_of s.subscriptions subs)) max_periodic && leb t max_time) ≡ true
    few = let p = valid_parts max_frame before v in rw (le-leb (length (table_of s.subscriptions subs)) max_periodic (within-length max_periodic subscription_valid (table_of s.subscriptions subs) p.periodic), le-leb t max_time h)

    module _ (x : Maybe Bool) (a : addressed_of x ≡ Definition.addressed (config_of w) dst) (fn : Bool) (to : x ≡ Some fn) where
      abbrev got : Model.State
      got = received before (mode_of fn) t

      hears : Definition.heard max_frame got asked before.pending ≡ Definition.request max_frame before asked
      unfolding Definition.routed
      hears = routes (some (mode_of fn)) (rw to at a)

      -- of no bytes, or of too many
      short : (on : Bool) (p : PendingRequest) → pick on false (not (length_fits frame)) ≡ true → plain (Model.step 2 got) ≡ Definition.heard max_frame got asked (pick on (some p) none)
      unfolding Definition.heard
      short true p z = absurd (false≢true z)
      short false p z = rw (not-true (length_fits frame) z)

      pub refused_2 : (b : Bool) → b ≡ pick s.pending.on false (not (length_fits frame)) → b ≡ true → plain (Model.step 2 got) ≡ Definition.request max_frame before asked
      refused_2 b e z = short s.pending.on _ (sym e ∙ z) ∙ hears

      pub misfit : (x : State) (b : Bool) → b ≡ pick s.pending.on false (not (length_fits frame)) → b ≡ true → Hears s t fn x → Gives x 2
      misfit x b e z q = told x 2 (ap (λ (y : Model.State). plain (Model.step 2 y)) (q.state w k subs heads room) ∙ refused_2 b e z)

      -- busy, or what the service wants
      carries : (on : Bool) (p : PendingRequest) → pick on false (not (length_fits frame)) ≡ false
          → record { act = (wanted_by on (sid_of frame) seen).act; step = Service.apply max_frame got (pick on dst src) (sid_of frame) t (wanted_by on (sid_of frame) seen).effect } ≡ Definition.heard max_frame got asked (pick on (some p) none)
      unfolding Definition.heard Service.apply replied answered queued
      carries true p z = refl
      carries false p z = rw (not-false (length_fits frame) z) (ap (Definition.carried max_frame got asked.inbound) (kept_row seen ready few (sid_of frame) (find_service (config_of w) (sid_of frame))))

      pub answers_so : (b : Bool) → b ≡ pick s.pending.on false (not (length_fits frame)) → b ≡ false
          → record { act = (wanted_by s.pending.on (sid_of frame) seen).act; step = Service.apply max_frame got (pick s.pending.on dst src) (sid_of frame) t (wanted_by s.pending.on (sid_of frame) seen).effect } ≡ Definition.request max_frame before asked
      answers_so b e z = carries s.pending.on _ (sym e ∙ z) ∙ hears

      pub carried_out : (q : Wanted) (dest sid : ℕ) (k1 subs1 room1 : List ℕ) (r : Applied.Answer) (k' heads' room' : List ℕ) (b : Bool) → b ≡ pick s.pending.on false (not (length_fits frame)) → b ≡ false → sid ≡ sid_of frame → dest ≡ pick s.pending.on dst src
          → Serves (wanted_by s.pending.on sid) seen k subs s.frames room q k1 subs1 room1 → Applies w s k1 heads room1 dest sid t fn q.effect r k' heads' room'
          → answer_of w (record { state = r.state; result = r.result; act = q.act }) k' subs1 heads' room' ≡ Definition.request max_frame before asked
      carried_out q dest sid k1 subs1 room1 r k' heads' room' b m z d o g p =
          let f = effect_of q.effect t k1 subs1 s.frames room1 in
          let x = wanted_by s.pending.on (sid_of frame) seen in
          let same : fitted max_frame x ≡ record { act = act_of q.act; effect = f } = ap (λ (n : ℕ). fitted max_frame (wanted_by s.pending.on n seen)) (sym d) ∙ g.served in
          let c : step_of w r k' subs1 heads' room' ≡ Service.apply max_frame got (pick s.pending.on dst src) (sid_of frame) t f =
          p.step subs1
          ∙ ap₂ (λ (y : List Frame) (n : ℕ). Service.apply max_frame (with_queue (received (state_of w s k1 subs1 heads room) (mode_of fn) t) y) dest sid n f) (g.unseen heads) (made_now w (pick q.effect.waits s.session.session_type q.effect.session) t (valid_parts max_frame before v).config h)
          ∙ lent_anew got (security_of k) (security_of k1) (table_of s.subscriptions subs) (table_of s.subscriptions subs1) f dest sid t (λ y. (ap security_of (g.kept y).0, ap (table_of s.subscriptions) (g.kept y).1))
          ∙ ap₂ (λ (y n : ℕ). Service.apply max_frame got y n t f) o d in
          ap (λ (y : Model.Step). record { act = act_of q.act; step = y }) c
          ∙ ap (λ (y : Served). record { act = y.act; step = Service.apply max_frame got (pick s.pending.on dst src) (sid_of frame) t y.effect }) (sym same)
          ∙ ap (λ (y : Model.Step). record { act = x.act; step = y }) (fitted-apply max_frame got (pick s.pending.on dst src) (sid_of frame) t x.effect)
          ∙ answers_so b m z

-- busy, whatever is seen
pub busy : (sid session level subscriptions src t : ℕ) (config frame : List ℕ) (err : ℕ) (given values pool k subs : List ℕ) (frames : ℕ) (room : List ℕ) (on : Bool) (q : Wanted) → on ≡ true → q.effect ≡ says_of session level subscriptions (Always 0x21) → act_of q.act ≡ no_act
    → Serves (wanted_by on sid) (seen_of config session level subscriptions src t frame err given values pool k subs) k subs frames room q k subs room
busy sid session level subscriptions src t config frame err given values pool k subs frames room on q e f g = record {
  served = rw e (ap₂ (λ (a : Service.Act) (x : Effect). record { act = a; effect = effect_of x t k subs frames room }) (sym g) (sym f));
  unseen = λ heads. refl;
  kept = λ w. absurd (false≢true (sym (ap (λ (x : Effect). x.waits) f) ∙ w));
}

-- one that is not busy is served
pub idle : (sid : ℕ) {v : Seen} {k subs : List ℕ} {frames : ℕ} {room : List ℕ} {on : Bool} {q : Wanted} {k' subs' room' : List ℕ} → on ≡ false → Serves (Rules.guarded sid) v k subs frames room q k' subs' room' → Serves (wanted_by on sid) v k subs frames room q k' subs' room'
idle sid e h = record { served = rw e h.served; unseen = h.unseen; kept = h.kept }
