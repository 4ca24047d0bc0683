-- What holds of each of the fourteen services, and of the refusal of any other, holds of whichever a frame names.
use Prim.Native.Nat.{ℕ}
use mathlib.Core.Path.{◌≡◌, refl}
use mathlib.Core.Bool.{Bool, true, false}
use mathlib.Core.Option.{Option, some, none}
use lib.Dec.{eqb}
use borrow.Author.Tests.{eqb-true}
use Rattle.model.specs.Tests.{pick}
use Rattle.model.specs.Config.{ServiceConfig, allowed_in}
use Rattle.model.specs.Service.{Seen, Served, refuses}
use Rattle.model.specs.Service3E.{service3E}
use Rattle.model.specs.Service10.{service10}
use Rattle.model.specs.Service11.{service11}
use Rattle.model.specs.Service27.{service27}
use Rattle.model.specs.Service22.{service22}
use Rattle.model.specs.Service2E.{service2E}
use Rattle.model.specs.Service2A.{service2A}
use Rattle.model.specs.Service31.{service31}
use Rattle.model.specs.Service28.{service28}
use Rattle.model.specs.Service2F.{service2F}
use Rattle.model.specs.Service34.{service34}
use Rattle.model.specs.Service36.{service36}
use Rattle.model.specs.Service37.{service37}
use Rattle.model.specs.Service38.{service38}
use Rattle.model.specs.Request.{service, guarded}
use Rattle.model.proofs.Laws.{either}

-- a property of the fourteen, each with its number, and of every refusal
pub record Each (P : ℕ → Served → Type 0) (v : Seen) : Type 0 where
  pub at3E : P 0x3E (service3E v)
  pub at10 : P 0x10 (service10 v)
  pub at11 : P 0x11 (service11 v)
  pub at27 : P 0x27 (service27 v)
  pub at22 : P 0x22 (service22 v)
  pub at2E : P 0x2E (service2E v)
  pub at2A : P 0x2A (service2A v)
  pub at31 : P 0x31 (service31 v)
  pub at28 : P 0x28 (service28 v)
  pub at2F : P 0x2F (service2F v)
  pub at34 : P 0x34 (service34 v)
  pub at36 : P 0x36 (service36 v)
  pub at37 : P 0x37 (service37 v)
  pub at38 : P 0x38 (service38 v)
  pub refused : (sid code : ℕ) → P sid (refuses v code)

-- one of two, by whether a number is the one that the first is for
named : (P : ℕ → Served → Type 0) (sid x : ℕ) {a b : Served} → P x a → P sid b → P sid (pick (eqb sid x) a b)
named P sid x {a} {b} p q = go (eqb sid x) refl
  where
    go : (t : Bool) → eqb sid x ≡ t → P sid (pick t a b)
    go true e = rw (eqb-true sid x e) p
    go false e = q

module _ (P : ℕ → Served → Type 0) (v : Seen) (e : Each P v) where
  pub at_service : (sid : ℕ) → P sid (service sid v)
  unfolding service
  at_service sid =
      named P sid 0x3E e.at3E
      (named P sid 0x10 e.at10
      (named P sid 0x11 e.at11
      (named P sid 0x27 e.at27
      (named P sid 0x22 e.at22
      (named P sid 0x2E e.at2E
      (named P sid 0x2A e.at2A
      (named P sid 0x31 e.at31
      (named P sid 0x28 e.at28
      (named P sid 0x2F e.at2F
      (named P sid 0x34 e.at34
      (named P sid 0x36 e.at36
      (named P sid 0x37 e.at37
      (named P sid 0x38 e.at38
      (e.refused sid 0x11))))))))))))))

  -- also behind the tests of the service's row
  pub at_guarded : (sid : ℕ) (o : Option ServiceConfig) → P sid (guarded sid v o)
  unfolding guarded
  at_guarded sid none = e.refused sid 0x11
  at_guarded sid (some row) = either (P sid) (allowed_in v.session.session_type row) (at_service sid) (e.refused sid 0x7F)
