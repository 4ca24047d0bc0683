-- Membership as the slice's own `contains` tells it, and as the definition does.
use Rattle.std.proofs.Common.{◌≡◌, refl, ℕ, Bool, true, false, ◌||◌, List, [], ◌∷◌, eqb}
use Rattle.std.specs.List.{list_any}
use Rattle.model.specs.Tests.{memb, pick}

pub any_memb : (x : ℕ) (l : List ℕ) → list_any (λ y. eqb y x) l ≡ memb x l
any_memb x [] = refl
any_memb x (y ∷ l) = at (eqb y x) (any_memb x l)
  where
    at : (b : Bool) → list_any (λ y. eqb y x) l ≡ memb x l → (b || list_any (λ y. eqb y x) l) ≡ pick b true (memb x l)
    at true e = refl
    at false e = e
