-- One law for each way out of a question. It is the definition's request with nothing handed in, of which the act and 10, 6 or 2 are told.
use Prim.Native.Nat.{ℕ}
use mathlib.Core.Path.{◌≡◌, refl, ap, sym, ◌∙◌}
use mathlib.Core.Bool.{Bool, true, false, not}
use mathlib.Core.List.{List, [], ◌∷◌}
use lib.Dec.{leb}
use Rattle.model.specs.Tests.{pick}
use Rattle.model.specs.Numbers.{max_frame, max_time}
use Rattle.model.specs.Frame.{sid_of, payload_of}
use Rattle.model.specs.State as Model
use Rattle.model.specs.Service.{Seen, no_act}
use Rattle.model.specs.Service as Service
use Rattle.model.specs.Request as Definition
use Rattle.model.specs.Request.{Inbound, Answer, plain, length_fits}
use Rattle.model.specs.Question as Question
use Rattle.model.specs.Question.{bare, question}
use Rattle.model.proofs.Laws.{memb-each}
use Rattle.model.proofs.Acts.{told}
use Rattle.model.proofs.Leaves.Replies.{apply_gives}
use Rattle.config.specs.View.{config_of}
use Rattle.queue.specs.View.{mode_of}
use Rattle.service.specs.Act.{act_of}
use Rattle.service.specs.declared.Act.{Act}
use Rattle.asking.specs.Seen.{seen_by}
use Rattle.state.specs.View.{state_of}
use Rattle.state.specs.declared.State.{State}
use Rattle.dispatch.specs.Rules.{guarded}
use Rattle.dispatch.specs.Seen.{seen_of}
use Rattle.entry.specs.Gate.{barring}
use Rattle.entry.specs.Address.{addressed_of}
use Rattle.calls.specs.Request.{wanted_by}
use Rattle.calls.specs.View.{inbound_of, asked_of}
use Rattle.std.specs.Prelude.{Option as Maybe, Some, None}
use Rattle.calls.specs.declared.question.Asked.{Asked}
use Rattle.entry.proofs.Gate.{barred_so}
use Rattle.calls.proofs.Asked.{to_none, refused_2, answers_so}

-- 10 and 6 are told as they are
barred-told : (s : Model.State) (t n : ℕ) → n ≡ barring (Model.valid max_frame s) t → (n ≡ 0 → ⊥) → told n ≡ n
unfolding barring
barred-told s t n = go (Model.valid max_frame s) (leb t max_time)
  where
    go : (v b : Bool) → n ≡ pick v (pick b 0 6) 10 → (n ≡ 0 → ⊥) → told n ≡ n
    go false b e z = rw e
    go true false e z = rw e
    go true true e z = absurd (z e)

module _ (w : List ℕ) (s : State) (k subs heads room : List ℕ) (t src dst : ℕ) (frame : List ℕ) where
  abbrev before : Model.State
  before = state_of w s k subs heads room

  abbrev inbound : Inbound
  inbound = inbound_of t src dst frame

  -- what a service would see: nothing is handed in
  abbrev seen : Seen
  seen = seen_of w s.session.session_type s.session.level s.subscriptions src t (payload_of frame) 0 [] [] [] k subs

  abbrev Says : ℕ → Service.Act → Type 0
  Says n act = (r : Asked) → asked_of r ≡ record { result = n; act = act } → asked_of r ≡ question max_frame before inbound

  -- by what the request would answer
  by_request : (n : ℕ) (a : Answer) → told a.step.result ≡ n → a ≡ Definition.request max_frame before (bare inbound) → Says n a.act
  unfolding question Question.asked_of
  by_request n a e f r g = g ∙ ap (λ (m : ℕ). record { result = m; act = a.act }) (sym e) ∙ ap Question.asked_of f

  pub asked-barred : (n : ℕ) → n ≡ barring (Model.valid max_frame before) t → (n ≡ 0 → ⊥) → Says n no_act
  unfolding Definition.request
  asked-barred n e z = by_request n (plain (Model.step n before)) (barred-told before t n e z) (barred_so (Model.valid max_frame before) t (λ m. plain (Model.step m before)) _ n e z)

  module _ (n : ℕ) (g : n ≡ barring (Model.valid max_frame before) t) (z : n ≡ 0) (x : Maybe Bool) (a : addressed_of x ≡ Definition.addressed (config_of w) dst) where
    pub asked_foreign : x ≡ None → Says 0 no_act
    asked_foreign e = by_request 0 (plain (Model.step 0 before)) refl (to_none w s k subs heads room t src dst frame 0 [] [] [] n g z x a e)

    module _ (fn : Bool) (to : x ≡ Some fn) (b : Bool) (m : b ≡ pick s.pending.on false (not (length_fits frame))) where
      pub asked_misfit : b ≡ true → Says 2 no_act
      asked_misfit e = by_request 2 (plain (Model.step 2 (Model.received before (mode_of fn) t))) refl (refused_2 w s k subs heads room t src dst frame 0 [] [] [] n g z x a fn to b m e)

      -- what the reply meets is not told
      asked_so : b ≡ false → Says 0 (wanted_by s.pending.on (sid_of frame) seen).act
      asked_so e =
          let got = Model.received before (mode_of fn) t in
          let y = wanted_by s.pending.on (sid_of frame) seen in
          let p = Service.apply max_frame got (pick s.pending.on dst src) (sid_of frame) t y.effect in
          by_request 0 (record { act = y.act; step = p })
          (memb-each (λ (i : ℕ). told i ≡ 0) p.result (0 ∷ 3 ∷ []) (refl, (refl, tt)) (apply_gives max_frame got (pick s.pending.on dst src) (sid_of frame) t y.effect))
          (answers_so w s k subs heads room t src dst frame 0 [] [] [] n g z x a fn to b m e)

      pub asked_busy : b ≡ false → s.pending.on ≡ true → Says 0 no_act
      asked_busy e on r q = asked_so e r (q ∙ rw on)

      -- the act that the service itself would ask
      pub asked_idle : b ≡ false → s.pending.on ≡ false → (sid : ℕ) (payload : List ℕ) (act : Act) → sid ≡ sid_of frame → payload ≡ payload_of frame
          → ((v : Seen) → act_of act ≡ (guarded sid (seen_by w s.session.session_type s.session.level t payload k v)).act) → asked_of (record { act = act; result = 0 }) ≡ question max_frame before inbound
      asked_idle e on sid payload act i j h =
          asked_so e (record { act = act; result = 0 }) (rw on (ap (λ (y : Service.Act). record { result = 0; act = y }) (rw (i, j) at (h seen))))
