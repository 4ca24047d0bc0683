-- Whom a frame is for, and whether its length fits.
use Prim.Native.Nat.{ℕ, ◌≤◌, ◌<◌}
use mathlib.Core.Path.{◌≡◌, refl}
use mathlib.Core.Bool.{Bool, true, false, not}
use mathlib.Core.List.{List}
use mathlib.Core.Option.{some, none}
use lib.ListN.{length}
use lib.Dec.{leb, ltb}
use borrow.Author.Tests.{eq-eqb, ne_eqb, le-leb, lt-leb, le-ltb, lt-ltb, leb-true, leb-false}
use Rattle.model.specs.Tests.{pick}
use Rattle.model.specs.Config.{Config}
use Rattle.model.specs.State.{physical, functional}
use Rattle.model.specs.Request as Definition
use Rattle.model.specs.Request.{length_fits}

-- whom a frame is for
module _ (c : Config) (dst : ℕ) where
  pub to_physical : dst ≡ c.physical → some physical ≡ Definition.addressed c dst
  unfolding Definition.addressed
  to_physical e = rw (eq-eqb dst c.physical e)

  module _ (n : dst ≡ c.physical → ⊥) where
    pub to_functional : dst ≡ c.functional → some functional ≡ Definition.addressed c dst
    unfolding Definition.addressed
    to_functional e = rw (ne_eqb dst c.physical n, eq-eqb dst c.functional e)

    pub to_another : (dst ≡ c.functional → ⊥) → none ≡ Definition.addressed c dst
    unfolding Definition.addressed
    to_another e = rw (ne_eqb dst c.physical n, ne_eqb dst c.functional e)

-- whether its length fits
pub empty : (f : List ℕ) (on : Bool) → on ≡ false → length f < 1 → true ≡ pick on false (not (length_fits f))
empty f on e h = rw (e, lt-leb 1 (length f) h)

pub by_length : (f : List ℕ) (on : Bool) → on ≡ false → 1 ≤ length f → ltb 4095 (length f) ≡ pick on false (not (length_fits f))
by_length f on e h = rw (e, le-leb 1 (length f) h) (go (leb (length f) 4095) refl)
  where
    go : (b : Bool) → leb (length f) 4095 ≡ b → ltb 4095 (length f) ≡ not b
    go true z = le-ltb 4095 (length f) (leb-true (length f) 4095 z)
    go false z = lt-ltb 4095 (length f) (leb-false (length f) 4095 z)
