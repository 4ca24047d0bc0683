-- Histories: calls in a row, what each shows, and the state after them.
use Rattle.std.specs.Prelude.{ℕ, List, [], ◌∷◌}
use Rattle.model.specs.Numbers.{Moment}
use Rattle.model.specs.Values.{Table}
use Rattle.model.specs.State.{State, Step}
use Rattle.model.specs.Service.{Act, no_act}
use Rattle.model.specs.Request.{Inbound, Request, Answer, request}
use Rattle.model.specs.Question.{Asked, question}
use Rattle.model.specs.Pending.{complete, fail}
use Rattle.model.specs.Tick.{Ticked, tick}
use Rattle.model.specs.Drain.{Drained, drain}

pub data Call : Type 0 where
  requests : Request → Call
  questions : Inbound → Call
  ticks : Moment → Table → Call
  completes : Moment → List ℕ → Call
  fails : Moment → ℕ → Call
  drains : List ℕ → Call

-- what a call shows: the result, the error byte that comes with 8, the act, the number of frames drained and the buffer drained into
pub record Shown : Type 0 where
  pub result : ℕ
  pub err : ℕ
  pub act : Act
  pub count : ℕ
  pub buffer : List ℕ

-- a call's outcome: what it shows, and the state that it leaves
pub record Done : Type 0 where
  pub shown : Shown
  pub state : State

abbrev pub done_step : Step → Done
done_step p = record { shown = record { result = p.result; err = 0; act = no_act; count = 0; buffer = [] }; state = p.state }

abbrev pub done_answer : Answer → Done
done_answer a = record { shown = record { result = a.step.result; err = 0; act = a.act; count = 0; buffer = [] }; state = a.step.state }

-- a question changes nothing
abbrev pub done_asked : State → Asked → Done
done_asked s a = record { shown = record { result = a.result; err = 0; act = a.act; count = 0; buffer = [] }; state = s }

abbrev pub done_tick : Ticked → Done
done_tick a = record { shown = record { result = a.step.result; err = a.err; act = no_act; count = 0; buffer = [] }; state = a.step.state }

abbrev pub done_drain : Drained → Done
done_drain d = record { shown = record { result = d.step.result; err = 0; act = no_act; count = d.count; buffer = d.buffer }; state = d.step.state }

unfoldable pub call : ℕ → State → Call → Done
call limit s (requests r) = done_answer (request limit s r)
call limit s (questions i) = done_asked s (question limit s i)
call limit s (ticks now t) = done_tick (tick limit s now t)
call limit s (completes now payload) = done_step (complete limit s now payload)
call limit s (fails now code) = done_step (fail limit s now code)
call limit s (drains buffer) = done_drain (drain limit s buffer)

-- the state after a history
abbrev pub run : ℕ → State → List Call → State
run limit s [] = s
run limit s (c ∷ h) = run limit (call limit s c).state h

-- what each of its calls shows
abbrev pub shows : ℕ → State → List Call → List Shown
shows limit s [] = []
shows limit s (c ∷ h) = (call limit s c).shown ∷ shows limit (call limit s c).state h
