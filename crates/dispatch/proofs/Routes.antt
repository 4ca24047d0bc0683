-- Which service a first byte names, and what comes before it.
use Prim.Native.Nat.{ℕ}
use mathlib.Core.Path.{◌≡◌, refl, ap, sym, ◌∙◌}
use mathlib.Core.Bool.{true, false}
use mathlib.Core.List.{List}
use mathlib.Core.Option.{Option, some, none}
use borrow.Author.Tests.{ne_eqb}
use Rattle.model.specs.Config.{ServiceConfig, find_service, allowed_in}
use Rattle.model.specs.Service.{Seen, Served, refuses}
use Rattle.model.specs.Request as Definition
use Rattle.model.specs.Service10.{service10}
use Rattle.model.specs.Service11.{service11}
use Rattle.model.specs.Service22.{service22}
use Rattle.model.specs.Service28.{service28}
use Rattle.model.specs.Service2E.{service2E}
use Rattle.model.specs.Service2F.{service2F}
use Rattle.model.specs.Service31.{service31}
use Rattle.model.specs.Service34.{service34}
use Rattle.model.specs.Service36.{service36}
use Rattle.model.specs.Service37.{service37}
use Rattle.model.specs.Service38.{service38}
use Rattle.model.specs.Service3E.{service3E}
use Rattle.config.specs.View.{allowed}
use Rattle.access.specs.Access.{access27}
use Rattle.transmission.specs.View2A.{guarded2A}
use Rattle.service.specs.Fitted.{fitted}
use Rattle.model.specs.Numbers.{max_frame}
use Rattle.service.specs.Seen.{in_session, secured, subscribed, Speaks, Serves, says_of}
use Rattle.service.specs.declared.Spoken.{Spoken}
use Rattle.service.specs.declared.Wanted.{Wanted}
use Rattle.service.proofs.Laws as Laws
use Rattle.dispatch.specs.Rules.{service, rowed, guarded}

-- a service by another name
pub rerouted : {f g : Seen → Served} {v : Seen} {k subs : List ℕ} {frames : ℕ} {room : List ℕ} {w : Wanted} {k' subs' room' : List ℕ} → f v ≡ g v → Serves g v k subs frames room w k' subs' room' → Serves f v k subs frames room w k' subs' room'
rerouted z h = record { served = ap (fitted max_frame) z ∙ h.served; unseen = h.unseen; kept = h.kept }

-- one that only speaks
pub spoke : (f : Seen → Served) (v : Seen) (session level subscriptions frames : ℕ) (k subs room : List ℕ) (r : Spoken) (w : Wanted) (room' : List ℕ) → w ≡ record { effect = says_of session level subscriptions r.reply; act = r.act }
    → Speaks f (in_session session level (secured k (subscribed subscriptions subs v))) frames room r room'
    → Serves f (in_session session level (secured k (subscribed subscriptions subs v))) k subs frames room w k subs room'
spoke f v session level subscriptions frames k subs room r w room' e h = rw e (Laws.spoken f v session level subscriptions frames k subs room r (says_of session level subscriptions r.reply) room' refl h)

module _ (sid : ℕ) (v : Seen) where
  pub is_3E : sid ≡ 0x3E → service sid v ≡ service3E v
  unfolding service Definition.service
  is_3E e = rw e

  pub is_10 : sid ≡ 0x10 → service sid v ≡ service10 v
  unfolding service Definition.service
  is_10 e = rw e

  pub is_11 : sid ≡ 0x11 → service sid v ≡ service11 v
  unfolding service Definition.service
  is_11 e = rw e

  pub is_27 : sid ≡ 0x27 → service sid v ≡ access27 v
  unfolding service Definition.service
  is_27 e = rw e

  pub is_22 : sid ≡ 0x22 → service sid v ≡ service22 v
  unfolding service Definition.service
  is_22 e = rw e

  pub is_2E : sid ≡ 0x2E → service sid v ≡ service2E v
  unfolding service Definition.service
  is_2E e = rw e

  pub is_2A : sid ≡ 0x2A → service sid v ≡ guarded2A v
  unfolding service Definition.service
  is_2A e = rw e

  pub is_31 : sid ≡ 0x31 → service sid v ≡ service31 v
  unfolding service Definition.service
  is_31 e = rw e

  pub is_28 : sid ≡ 0x28 → service sid v ≡ service28 v
  unfolding service Definition.service
  is_28 e = rw e

  pub is_2F : sid ≡ 0x2F → service sid v ≡ service2F v
  unfolding service Definition.service
  is_2F e = rw e

  pub is_34 : sid ≡ 0x34 → service sid v ≡ service34 v
  unfolding service Definition.service
  is_34 e = rw e

  pub is_36 : sid ≡ 0x36 → service sid v ≡ service36 v
  unfolding service Definition.service
  is_36 e = rw e

  pub is_37 : sid ≡ 0x37 → service sid v ≡ service37 v
  unfolding service Definition.service
  is_37 e = rw e

  pub is_38 : sid ≡ 0x38 → service sid v ≡ service38 v
  unfolding service Definition.service
  is_38 e = rw e

  pub is_none : (sid ≡ 0x3E → ⊥) → (sid ≡ 0x10 → ⊥) → (sid ≡ 0x11 → ⊥) → (sid ≡ 0x27 → ⊥) → (sid ≡ 0x22 → ⊥) → (sid ≡ 0x2E → ⊥) → (sid ≡ 0x2A → ⊥) → (sid ≡ 0x31 → ⊥) → (sid ≡ 0x28 → ⊥) → (sid ≡ 0x2F → ⊥) → (sid ≡ 0x34 → ⊥) → (sid ≡ 0x36 → ⊥) → (sid ≡ 0x37 → ⊥) → (sid ≡ 0x38 → ⊥) → service sid v ≡ refuses v 0x11
  unfolding service Definition.service
  is_none n3E n10 n11 n27 n22 n2E n2A n31 n28 n2F n34 n36 n37 n38 = simp (ne_eqb sid 0x27 n27, ne_eqb sid 0x2A n2A, ne_eqb sid 0x3E n3E, ne_eqb sid 0x10 n10, ne_eqb sid 0x11 n11, ne_eqb sid 0x22 n22, ne_eqb sid 0x2E n2E, ne_eqb sid 0x31 n31, ne_eqb sid 0x28 n28, ne_eqb sid 0x2F n2F, ne_eqb sid 0x34 n34, ne_eqb sid 0x36 n36, ne_eqb sid 0x37 n37, ne_eqb sid 0x38 n38)

  module _ (o : Option ServiceConfig) (f : o ≡ find_service v.config sid) where
    asked : guarded sid v ≡ rowed sid v o
    asked = ap (rowed sid v) (sym f)

    pub no_row : o ≡ none → guarded sid v ≡ refuses v 0x11
    unfolding rowed
    no_row e = asked ∙ rw e

    module _ (row : ServiceConfig) (e : o ≡ some row) where
      pub not-here : allowed v.session.session_type o ≡ false → guarded sid v ≡ refuses v 0x7F
      unfolding rowed
      not-here a = let b : allowed_in v.session.session_type row ≡ false = rw e at a in asked ∙ rw (e, b)

      pub here : allowed v.session.session_type o ≡ true → guarded sid v ≡ service sid v
      unfolding rowed
      here a = let b : allowed_in v.session.session_type row ≡ true = rw e at a in asked ∙ rw (e, b)
