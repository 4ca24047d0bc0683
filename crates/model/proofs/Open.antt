-- Every definition with branches, opened by one word: `unfolding whole` computes a call of closed data.
use Rattle.model.specs.Tests.{enter}
use Rattle.model.specs.Config.{within}
use Rattle.model.specs.Values.{row_value, outcome}
use Rattle.model.specs.Frame.{response}
use Rattle.model.specs.State.{fresh, security_valid, valid}
use Rattle.model.specs.Queue as Queue
use Rattle.model.specs.Queue.{pushed, withheld, refused, answered, sent, drained}
use Rattle.model.specs.Reply.{refusal, queued, confirmed, begun, replied}
use Rattle.model.specs.Service.{part, acted, changed_after, apply}
use Rattle.model.specs.Service3E.{service3E}
use Rattle.model.specs.Service10.{session_control, service10}
use Rattle.model.specs.Service11.{reset, service11}
use Rattle.model.specs.Service27.{seed_given, seed_asked, request_seed, locked_out, denied, judged, send_key, security_access, service27}
use Rattle.model.specs.Service22.{read_value, read_one, service22}
use Rattle.model.specs.Service2E.{write_row, service2E}
use Rattle.model.specs.Service2A.{transmission, service2A}
use Rattle.model.specs.Service31.{service31}
use Rattle.model.specs.Service28.{service28}
use Rattle.model.specs.Service2F.{service2F}
use Rattle.model.specs.Service34.{service34}
use Rattle.model.specs.Service36.{service36}
use Rattle.model.specs.Service37.{service37}
use Rattle.model.specs.Service38.{service38}
use Rattle.model.specs.Request.{service, guarded, heard, addressed, routed, request}
use Rattle.model.specs.Question.{asked_of, question}
use Rattle.model.specs.Pending.{completed, failed, complete, fail}
use Rattle.model.specs.Tick.{s3, refreshed, passed, due_sent, pass_one, then_periodic, tick}
use Rattle.model.specs.Drain.{drain}
use Rattle.model.specs.History.{call}

unfoldable pub whole : Unit {0}
unfolding enter within row_value outcome response fresh security_valid valid pushed withheld refused Queue.confirmed answered sent drained refusal queued confirmed begun replied part acted changed_after apply service3E session_control service10 reset service11 seed_given seed_asked request_seed locked_out denied judged send_key security_access service27 read_value read_one service22 write_row service2E transmission service2A service31 service28 service2F service34 service36 service37 service38 service guarded heard addressed routed request asked_of question completed failed complete fail s3 refreshed passed due_sent pass_one then_periodic tick drain call
whole = tt
