-- Laws of the steps: the services one by one, and what all steps make of no rows.
use Prim.Native.Nat.{ℕ, ◌+◌, ◌≤◌, ◌<◌}
use mathlib.Core.Path.{◌≡◌, refl}
use mathlib.Core.List.{List}
use native.Mathlib.Numerals.{add-one}
use lib.ListN.{length, get_or, drop, drop_of_length-le}
use lib.Seq.{drop-cons}
use Rattle.model.specs.Config as Model
use Rattle.model.specs.Config.{Config}
use Rattle.model.specs.Fixed.{fixed_session, fixed_service, fixed_did, fourteen, fixed_config}
use Rattle.config.specs.Build.{bare, settled, add_session, add_service, add_did, add_level}
use Rattle.fixed.specs.Steps.{fixed_level, add_services}

module _ (c : Config) (ids : List ℕ) (i : ℕ) where
  -- the next service, and then those behind it
  pub one_more : i < length ids → add_services (settled (add_service c (fixed_service (get_or ids i 0)))) (drop (i + 1) ids) ≡ add_services c (drop i ids)
  one_more h = rw (add-one, drop-cons ids i 0)

  pub none_left : length ids ≤ i → c ≡ add_services c (drop i ids)
  none_left h = rw drop_of_length-le

-- no step goes past the numbers
pub steps : settled (add_level (settled (add_did (settled (add_did (add_services (settled (add_session (settled (add_session (bare 16 2015) (fixed_session 1))) (fixed_session 3))) fourteen) (fixed_did 0xF190 3))) (fixed_did 0xF201 0))) fixed_level) ≡ fixed_config
unfolding Model.within
steps = refl
