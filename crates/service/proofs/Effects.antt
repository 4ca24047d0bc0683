-- A service with an effect: what its proof cites.
use Prim.Native.Nat.{ℕ}
use mathlib.Core.Path.{◌≡◌, refl, ap, ap₂, sym, ◌∙◌}
use mathlib.Core.Bool.{true, false, false≢true}
use mathlib.Core.List.{List}
use Rattle.model.specs.Numbers.{max_frame}
use Rattle.model.specs.State.{unlocked}
use Rattle.model.specs.Queue as Queue
use Rattle.model.specs.Queue.{negative}
use Rattle.model.specs.Service as Rules
use Rattle.model.specs.Service.{Seen, Served, refuses}
use Rattle.queue.specs.declared.reply.Reply.{Reply}
use Rattle.queue.specs.declared.reply.Reply.TheVariants.{Negative}
use Rattle.security.specs.View.{security_of}
use Rattle.state.specs.View.{effect_of}
use Rattle.state.specs.declared.apply.Effect.{Effect}
use Rattle.service.specs.Act.{act_of, Asked}
use Rattle.service.specs.Fitted.{fitted, fitted_effect}
use Rattle.service.specs.Seen.{in_session, secured, subscribed, says_of, Replies, Serves}
use Rattle.service.specs.Effects.{Effects, Leaves, Refuses}
use Rattle.service.specs.declared.Act.{Act}
use Rattle.std.specs.Prelude.{Ok}
use Rattle.service.specs.declared.Wanted.{Wanted}

-- a service with an effect: refused before any act, or with the effect that its act's outcome has
module _ (f : Seen → Served) (v : Seen) (session level subscriptions frames : ℕ) (k subs room : List ℕ) where
  abbrev pub seen : Seen
  seen = in_session session level (secured k (subscribed subscriptions subs v))

  pub serves_refused : (code : ℕ) (r : Wanted) → Refuses session level subscriptions code r → f seen ≡ refuses seen code → Serves f seen k subs frames room r k subs room
  serves_refused code r h e = record {
    served = ap (fitted max_frame) e ∙ ap₂ (λ (a : Rules.Act) (x : Effect). record { act = a; effect = effect_of x v.now k subs frames room }) (sym h.act) (sym h.effect);
    unseen = λ heads. refl;
    kept = λ w. absurd (false≢true (sym (ap (λ (x : Effect). x.waits) h.effect) ∙ w));
  }

  pub serves_acted : (later : Seen → Rules.Effect) (act : Act) (e : Effect) (k' room' : List ℕ) → Asked f later seen (Ok act) → Effects (later seen) v.now k' subs frames room e room' → (e.waits ≡ true → k' ≡ k)
      → Serves f seen k subs frames room (record { effect = e; act = act }) k' subs room'
  serves_acted later act e k' room' a h w = record {
    served = ap (fitted max_frame) a.asked ∙ ap (λ (x : Rules.Effect). record { act = act_of act; effect = x }) h.effect;
    unseen = h.unseen;
    kept = λ z. (w z, refl);
  }

  -- an effect that is a reply, the level that is held and the security record as it is left
  pub leaves-effect : (k' : List ℕ) (held : ℕ) (should : Rules.Effect) (r : Reply) (e : Effect) (room' : List ℕ) → e ≡ says_of session held subscriptions r → Leaves should seen held frames room r k' room' → Effects should v.now k' subs frames room e room'
  leaves-effect k' held should r e room' w h = record { effect = h.effect ∙ ap (λ (x : Effect). effect_of x v.now k' subs frames room') (sym w); unseen = h.unseen }

module _ (v : Seen) (frames : ℕ) (room : List ℕ) where
  pub leaves : (k' : List ℕ) (held : ℕ) (should : Rules.Effect) (q : Queue.Reply) (r : Reply) (room' : List ℕ)
      → should ≡ record { session = unlocked v.session held; security = security_of k'; periodic = v.periodic; reply = q; waits = false } → Replies q frames room r room' → Leaves should v held frames room r k' room'
  leaves k' held should q r room' z h = record {
    effect = ap (fitted_effect max_frame) z ∙ ap (λ (x : Queue.Reply). record { session = unlocked v.session held; security = security_of k'; periodic = v.periodic; reply = x; waits = false }) (sym h.reply);
    unseen = h.unseen;
  }

  -- by another name
  pub leaves_as : {k' : List ℕ} {held : ℕ} {should other : Rules.Effect} {r : Reply} {room' : List ℕ} → should ≡ other → Leaves other v held frames room r k' room' → Leaves should v held frames room r k' room'
  leaves_as e h = record { effect = ap (fitted_effect max_frame) e ∙ h.effect; unseen = h.unseen }

  -- a reply that is no more than a code
  pub negates : (code : ℕ) → Replies (negative code) frames room (Negative code) room
  negates code = record { reply = refl; unseen = λ heads. refl }
