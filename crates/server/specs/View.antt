-- From the server by value, and from what its calls answer, to the definition's.
use Rattle.std.specs.Prelude.{ℕ, List}
use Rattle.model.specs.State as Model
use Rattle.model.specs.Request as Request
use Rattle.model.specs.Tick as Tick
use Rattle.model.specs.Drain as Drain
use Rattle.service.specs.Act.{act_of}
use Rattle.state.specs.View.{state_of}
use Rattle.server.specs.declared.drain.ServerDrained.{ServerDrained}
use Rattle.server.specs.declared.fresh.Server.{Server}
use Rattle.server.specs.declared.fresh.Fresh.{Fresh}
use Rattle.server.specs.declared.pending.ServerAnswer.{ServerAnswer}
use Rattle.server.specs.declared.request.ServerAnswered.{ServerAnswered}
use Rattle.server.specs.declared.tick.ServerTicked.{ServerTicked}

-- the server that holds its arrays
abbrev pub server_of : Server → Model.State
server_of v = state_of v.config v.state v.security v.subscriptions v.heads v.room

abbrev pub fresh_of : Fresh → Model.Step
fresh_of r = record { result = r.result; state = server_of r.server }

abbrev pub step_of : ServerAnswer → Model.Step
step_of r = record { result = r.result; state = server_of r.server }

abbrev pub answered_of : ServerAnswered → Request.Answer
answered_of r = record { act = act_of r.act; step = record { result = r.result; state = server_of r.server } }

-- what a tick leaves, and the error byte that comes with 8
abbrev pub ticked_of : ServerTicked → Tick.Ticked
ticked_of r = record { err = r.err; step = record { result = r.result; state = server_of r.server } }

-- what a drain leaves, and the buffer
abbrev pub drained_of : ServerDrained → List ℕ → Drain.Drained
drained_of d buffer = record { step = record { result = d.result; state = server_of d.server }; count = d.frames; buffer = buffer }
