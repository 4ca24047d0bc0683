-- The services that ask no act.
use Prim.Native.Nat.{ℕ, ◌%◌}
use mathlib.Core.Path.{◌≡◌, refl}
use mathlib.Core.Bool.{◌&&◌}
use mathlib.Core.Option.{Option, some, none}
use lib.ListN.{length, get_or}
use lib.Dec.{eqb, leb, ltb}
use borrow.Author.Tests.{ne_eqb}
use Rattle.model.specs.Numbers.{max_periodic, max_time}
use Rattle.model.specs.Config.{SessionConfig, find_session}
use Rattle.model.specs.Frame.{sub_function}
use Rattle.model.specs.Service.{Seen, Served, no_act}
use Rattle.model.specs.Service3E.{service3E}
use Rattle.model.specs.Service10.{service10, session_control}
use Rattle.model.specs.Service22.{service22}
use Rattle.model.specs.Service2A.{service2A, transmission}
use Rattle.model.specs.Request as Definition
use Rattle.model.proofs.Laws.{either}
use Rattle.transmission.specs.View2A.{guarded2A}
use Rattle.dispatch.specs.Rules.{service}

abbrev AsksNone : Served → Type 0
AsksNone a = a.act ≡ no_act

module _ (v : Seen) where
  none3E : AsksNone (service3E v)
  unfolding service3E
  none3E = refl

  none10 : AsksNone (service10 v)
  unfolding service10 session_control
  none10 = either AsksNone (ltb (length v.payload) 1) refl (row (find_session v.config (sub_function v.payload)))
    where
      row : (o : Option SessionConfig) → AsksNone (session_control v (sub_function v.payload) o)
      row none = refl
      row (some r) = refl

  none22 : AsksNone (service22 v)
  unfolding service22
  none22 = either AsksNone (leb 2 (length v.payload) && eqb (length v.payload % 2) 0) refl refl

  none2A : AsksNone (service2A v)
  unfolding service2A transmission
  none2A =
      either AsksNone (ltb (length v.payload) 1) refl
      (either AsksNone (eqb (get_or v.payload 0 0) 4) refl (either AsksNone (leb 1 (get_or v.payload 0 0) && leb (get_or v.payload 0 0) 3) refl refl))

  none-guarded2A : AsksNone (guarded2A v)
  unfolding guarded2A
  none-guarded2A = either AsksNone (leb (length v.periodic) max_periodic && leb v.now max_time) none2A refl

  -- those that the ten are not
  pub asks_none : (sid : ℕ) → (sid ≡ 0x11 → ⊥) → (sid ≡ 0x27 → ⊥) → (sid ≡ 0x2E → ⊥) → (sid ≡ 0x31 → ⊥) → (sid ≡ 0x28 → ⊥) → (sid ≡ 0x2F → ⊥) → (sid ≡ 0x34 → ⊥) → (sid ≡ 0x36 → ⊥) → (sid ≡ 0x37 → ⊥) → (sid ≡ 0x38 → ⊥) → (service sid v).act ≡ no_act
  unfolding service Definition.service
  asks_none sid n11 n27 n2E n31 n28 n2F n34 n36 n37 n38 =
      rw (ne_eqb sid 0x27 n27, ne_eqb sid 0x11 n11, ne_eqb sid 0x2E n2E, ne_eqb sid 0x31 n31, ne_eqb sid 0x28 n28, ne_eqb sid 0x2F n2F, ne_eqb sid 0x34 n34, ne_eqb sid 0x36 n36, ne_eqb sid 0x37 n37, ne_eqb sid 0x38 n38)
      (either AsksNone (eqb sid 0x2A) none-guarded2A
      (either AsksNone (eqb sid 0x3E) none3E
      (either AsksNone (eqb sid 0x10) none10
      (either AsksNone (eqb sid 0x22) none22
      (either AsksNone (eqb sid 0x2A) none2A refl)))))
