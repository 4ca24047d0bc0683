-- From a request to the definition's.
use Rattle.std.specs.Prelude.{ℕ, ◌≡◌, Bool, List}
use Rattle.model.specs.Tests.{pick}
use Rattle.model.specs.Numbers.{Moment}
use Rattle.model.specs.State.{step, received}
use Rattle.model.specs.Queue.{always}
use Rattle.model.specs.Service.{Seen, Served, says, answers}
use Rattle.model.specs.Request as Definition
use Rattle.uds.specs.Values as Values
use Rattle.queue.specs.View.{mode_of}
use Rattle.service.specs.Act.{act_of}
use Rattle.state.specs.View.{state_of}
use Rattle.state.specs.declared.State.{State}
use Rattle.dispatch.specs.Rules.{guarded}
use Rattle.calls.specs.declared.request.Answered.{Answered}

abbrev pub request_of : Moment → ℕ → ℕ → List ℕ → ℕ → List ℕ → List ℕ → List ℕ → Definition.Request
request_of t src dst frame err given values pool = record { inbound = record { time = t; src = src; dst = dst; frame = frame }; given = record { err = err; bytes = given }; table = Values.table_of values pool }

-- what a request leaves, with all that was lent
abbrev pub answer_of : List ℕ → Answered → List ℕ → List ℕ → List ℕ → List ℕ → Definition.Answer
answer_of config r k subs heads room = record { act = act_of r.act; step = step r.result (state_of config r.state k subs heads room) }

-- the state once a request was received, whatever is lent
pub record Hears (s : State) (t : Moment) (functional : Bool) (r : State) : Type 0 where
  pub state : (config k subs heads room : List ℕ) → state_of config r k subs heads room ≡ received (state_of config s k subs heads room) (mode_of functional) t

-- what a request wants of a server that has one pending, or none: busy is said as a service would say it
abbrev pub wanted_by : Bool → ℕ → Seen → Served
wanted_by on sid v = pick on (answers (says v (always 0x21))) (guarded sid v)
