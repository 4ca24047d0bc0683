-- 10, then 6: said once for every call that has a time.
use Prim.Native.Nat.{ℕ, ◌≤◌, ◌<◌}
use mathlib.Core.Path.{◌≡◌, refl, sym, ◌∙◌}
use mathlib.Core.Bool.{Bool, true, false, not}
use native.Mathlib.Omega.{arith}
use lib.Dec.{leb}
use borrow.Author.Tests.{le-leb, lt-leb, leb-true, not-true, not-false}
use Rattle.model.specs.Tests.{pick}
use Rattle.model.specs.Numbers.{Moment, max_time}
use Rattle.entry.specs.Gate.{barring}

module _ (valid : Bool) (t : Moment) where
  pub invalid : not valid ≡ true → 10 ≡ barring valid t
  unfolding barring
  invalid z = rw (not-true valid z)

  pub late : not valid ≡ false → max_time < t → 6 ≡ barring valid t
  unfolding barring
  late z h = rw (not-false valid z, lt-leb t max_time h)

  pub in_time : not valid ≡ false → t ≤ max_time → 0 ≡ barring valid t
  unfolding barring
  in_time z h = rw (not-false valid z, le-leb t max_time h)

  -- a call that is let through has a valid state, and is in time
  pub let_through : (n : ℕ) → n ≡ barring valid t → n ≡ 0 → (valid ≡ true) × (t ≤ max_time)
  unfolding barring
  let_through n g z = go valid (leb t max_time) refl refl (sym z ∙ g)
    where
      go : (v b : Bool) → valid ≡ v → leb t max_time ≡ b → ◌≡◌ {A = ℕ} 0 (pick v (pick b 0 6) 10) → (valid ≡ true) × (t ≤ max_time)
      go false b e f y = absurd (omega arith)
      go true false e f y = absurd (omega arith)
      go true true e f y = (e, leb-true t max_time f)

  -- one that is barred answers with the number alone, whatever it would have done
  pub barred_so : {A : Type 0} (refused : ℕ → A) (else : A) (n : ℕ) → n ≡ barring valid t → (n ≡ 0 → ⊥) → refused n ≡ pick valid (pick (leb t max_time) else (refused 6)) (refused 10)
  unfolding barring
  barred_so refused else n = go valid (leb t max_time)
    where
      go : (v b : Bool) → n ≡ pick v (pick b 0 6) 10 → (n ≡ 0 → ⊥) → refused n ≡ pick v (pick b else (refused 6)) (refused 10)
      go false b e z = rw e
      go true false e z = rw e
      go true true e z = absurd (z e)

-- what was found of the state is told
pub told_so : (valid found : Bool) (t n : ℕ) → found ≡ valid → n ≡ barring found t → n ≡ barring valid t
told_so valid found t n e g = rw e at g
