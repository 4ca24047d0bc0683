-- The number that a call answers with where it is refused; 0 is done.
use Rattle.std.specs.Prelude.{ℕ, Result, Ok, Err}
use Rattle.uds.specs.declared.result.Refusal.{Refusal}
use Rattle.uds.specs.declared.result.Refusal.TheVariants.{NotPending, FrameLength, QueueFull, FrameTooLong, BufferTooShort, TimeTooLate, Configuration, ValueError, StateNotValid}

abbrev pub number_of : Refusal → ℕ
number_of NotPending = 1
number_of FrameLength = 2
number_of QueueFull = 3
number_of FrameTooLong = 4
number_of BufferTooShort = 5
number_of TimeTooLate = 6
number_of Configuration = 7
number_of ValueError = 8
number_of StateNotValid = 10

-- the number of an answer that may be a refusal
abbrev pub result_of : {A : Type 0} → Result A Refusal → ℕ
result_of (Ok done) = 0
result_of (Err why) = number_of why
