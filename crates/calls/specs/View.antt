-- From what a question, a tick and a drain answer to the definition's.
use Rattle.std.specs.Prelude.{ℕ, List}
use Rattle.model.specs.Numbers.{Moment}
use Rattle.model.specs.Request.{Inbound}
use Rattle.model.specs.Question as Question
use Rattle.model.specs.Tick as Tick
use Rattle.model.specs.Drain as Drain
use Rattle.service.specs.Act.{act_of}
use Rattle.state.specs.View.{state_of}
use Rattle.calls.specs.declared.question.Asked.{Asked}
use Rattle.calls.specs.declared.tick.Ticked.{Ticked}
use Rattle.calls.specs.declared.drain.Drained.{Drained}

abbrev pub inbound_of : Moment → ℕ → ℕ → List ℕ → Inbound
inbound_of t src dst frame = record { time = t; src = src; dst = dst; frame = frame }

abbrev pub asked_of : Asked → Question.Asked
asked_of r = record { result = r.result; act = act_of r.act }

-- what a tick leaves, and the error byte that comes with 8
abbrev pub tick_of : List ℕ → Ticked → List ℕ → List ℕ → List ℕ → List ℕ → Tick.Ticked
tick_of config r k subs heads room = record { err = r.err; step = record { result = r.result; state = state_of config r.state k subs heads room } }

-- what a drain leaves, and the buffer
abbrev pub drain_of : List ℕ → Drained → List ℕ → List ℕ → List ℕ → List ℕ → List ℕ → Drain.Drained
drain_of config d k subs heads room buffer = record { step = record { result = d.result; state = state_of config d.state k subs heads room }; count = d.frames; buffer = buffer }
