-- A number tells which refusal it was, or that there was none.
use Rattle.std.proofs.Common.{◌≡◌, refl, ap, sym, ◌∙◌, ℕ, eqb, arith}
use Rattle.std.specs.Prelude.{Result, Ok, Err}
use Rattle.model.specs.Tests.{pick}
use Rattle.uds.specs.Result.{number_of, result_of}
use Rattle.uds.specs.declared.result.Refusal.{Refusal}
use Rattle.uds.specs.declared.result.Refusal.TheVariants.{NotPending, FrameLength, QueueFull, FrameTooLong, BufferTooShort, TimeTooLate, Configuration, ValueError, StateNotValid}

abbrev Done : Type 0
Done = Result (Unit {0}) Refusal

abbrev told_by : ℕ → Done
told_by n =
    pick (eqb n 0) (Ok tt)
    (pick (eqb n 1) (Err NotPending)
    (pick (eqb n 2) (Err FrameLength)
    (pick (eqb n 3) (Err QueueFull)
    (pick (eqb n 4) (Err FrameTooLong)
    (pick (eqb n 5) (Err BufferTooShort)
    (pick (eqb n 6) (Err TimeTooLate)
    (pick (eqb n 7) (Err Configuration)
    (pick (eqb n 8) (Err ValueError) (Err StateNotValid)))))))))

told : (r : Done) → told_by (result_of r) ≡ r
told (Ok done) = refl
told (Err NotPending) = refl
told (Err FrameLength) = refl
told (Err QueueFull) = refl
told (Err FrameTooLong) = refl
told (Err BufferTooShort) = refl
told (Err TimeTooLate) = refl
told (Err Configuration) = refl
told (Err ValueError) = refl
told (Err StateNotValid) = refl

-- two answers of the same number are the same answer
pub same_result : {r r' : Result (Unit {0}) Refusal} → result_of r ≡ result_of r' → r ≡ r'
same_result {r} {r'} e = sym (told r) ∙ ap told_by e ∙ told r'

-- what was answered, by its number
pub told_why : {r : Result (Unit {0}) Refusal} {why : Refusal} {n m : ℕ} → r ≡ Err why → result_of r ≡ m → n ≡ number_of why → n ≡ m
told_why e h z = z ∙ sym (ap result_of e) ∙ h

pub told_done : {r : Result (Unit {0}) Refusal} {done : Unit {0}} {m : ℕ} → r ≡ Ok done → result_of r ≡ m → 0 ≡ m
told_done e h = sym (ap result_of e) ∙ h

pub told_no_other : (r : Result (Unit {0}) Refusal) {m : ℕ} → ((why : Refusal) → r ≡ Err why → ⊥) → result_of r ≡ m → 0 ≡ m
told_no_other (Ok done) n h = h
told_no_other (Err why) n h = absurd (n why refl)

-- no refusal has the number of none
pub no_zero : (why : Refusal) {n : ℕ} → n ≡ number_of why → n ≡ 0 → ⊥
no_zero NotPending e z = omega arith
no_zero FrameLength e z = omega arith
no_zero QueueFull e z = omega arith
no_zero FrameTooLong e z = omega arith
no_zero BufferTooShort e z = omega arith
no_zero TimeTooLate e z = omega arith
no_zero Configuration e z = omega arith
no_zero ValueError e z = omega arith
no_zero StateNotValid e z = omega arith
