-- A reply that was found too long in the making is, carried out, what the positive reply would have become.
use Prim.Native.Nat.{ℕ, suc, ◌≤◌, ◌<◌}
use mathlib.Core.Path.{◌≡◌, refl, ap₂}
use mathlib.Core.Bool.{Bool, true, false}
use mathlib.Core.List.{List}
use native.Mathlib.Omega.{arith}
use lib.ListN.{length}
use lib.Dec.{leb}
use borrow.Author.Tests.{le-leb, lt-leb, leb-false}
use Rattle.model.specs.Tests.{pick}
use Rattle.model.specs.Numbers.{Moment}
use Rattle.model.specs.State.{AddressMode, State}
use Rattle.model.specs.Queue.{Reply, silent, positive, negative, always, pends, confirmed, answered}
use Rattle.model.specs.Reply.{taken, readied, replied}
use Rattle.model.specs.Service.{Effect, apply, changed, changed_after}
use Rattle.service.specs.Fitted.{fitted_reply, fitted_effect}

fitted-readied : (limit : ℕ) (s : State) (to sid : ℕ) (now : Moment) (r : Reply) → readied s to sid now (fitted_reply limit r) ≡ readied s to sid now r
fitted-readied limit s to sid now silent = refl
fitted-readied limit s to sid now (positive p) = go (leb (length p) limit)
  where
    go : (b : Bool) → readied s to sid now (pick b (positive p) (negative 0x14)) ≡ s
    go true = refl
    go false = refl
fitted-readied limit s to sid now (negative code) = refl
fitted-readied limit s to sid now (always code) = refl
fitted-readied limit s to sid now pends = refl

fitted-answered : (limit : ℕ) (mode : AddressMode) (q : List _) (to sid : ℕ) (r : Reply) → answered limit mode q to sid (fitted_reply limit r) ≡ answered limit mode q to sid r
unfolding answered confirmed
fitted-answered limit mode q to sid silent = refl
fitted-answered limit mode q to sid (positive p) = go (leb (length p) limit) refl
  where
    go : (b : Bool) → leb (length p) limit ≡ b → answered limit mode q to sid (pick b (positive p) (negative 0x14)) ≡ answered limit mode q to sid (positive p)
    go true e = refl
    go false e = rw (lt-leb (suc (length p)) limit (omega (arith, leb-false (length p) limit e)))
fitted-answered limit mode q to sid (negative code) = refl
fitted-answered limit mode q to sid (always code) = refl
fitted-answered limit mode q to sid pends = refl

pub fitted-replied : (limit : ℕ) (s : State) (to sid : ℕ) (now : Moment) (r : Reply) → replied limit s to sid now (fitted_reply limit r) ≡ replied limit s to sid now r
unfolding replied
fitted-replied limit s to sid now r = ap₂ taken (fitted-readied limit s to sid now r) (fitted-answered limit s.mode s.queue to sid r)

pub fitted-apply : (limit : ℕ) (s : State) (to sid : ℕ) (now : Moment) (e : Effect) → apply limit s to sid now (fitted_effect limit e) ≡ apply limit s to sid now e
unfolding apply changed_after
fitted-apply limit s to sid now e = rw (fitted-replied limit s to sid now e.reply, fitted-replied limit (changed s e) to sid now e.reply)

-- a reply that fits is as it was
pub fits : (limit : ℕ) (p : List ℕ) → length p ≤ limit → fitted_reply limit (positive p) ≡ positive p
fits limit p h = rw (le-leb (length p) limit h)

pub exceeds : (limit : ℕ) (p : List ℕ) → limit < length p → fitted_reply limit (positive p) ≡ negative 0x14
exceeds limit p h = rw (lt-leb (length p) limit h)
