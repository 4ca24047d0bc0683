-- Nothing else meets the promises: they are those of `calls`, and settle what those settle.
use Rattle.uds.proofs.Promise.{Settles}
use Rattle.calls.proofs.Settled.{SameAnswered, SameAsked, SameTicked, SameAnswer, SameDrained, request_settled, question_settled, tick_settled, complete_settled, fail_settled, drain_settled}
use Rattle.calls_bench.proofs.bench_server_request.Reads as bench-server-request
use Rattle.calls_bench.proofs.bench_server_question.Reads as bench-server-question
use Rattle.calls_bench.proofs.bench_server_tick.Reads as bench-server-tick
use Rattle.calls_bench.proofs.bench_server_complete.Reads as bench-server-complete
use Rattle.calls_bench.proofs.bench_server_fail.Reads as bench-server-fail
use Rattle.calls_bench.proofs.bench_server_drain.Reads as bench-server-drain

pub bench_server_request_settled : (κs : _) (a : _)
    → Settles (bench-server-request.Post κs a) (λ x e y f. SameAnswered a.0.now x y e.1.1.0.now f.1.1.0.now e.1.1.1.0.now f.1.1.1.0.now e.1.1.1.1.0.now f.1.1.1.1.0.now e.1.1.1.1.1.0.now f.1.1.1.1.1.0.now)
bench_server_request_settled κs a = request_settled κs a

pub bench_server_question_settled : (κs : _) (a : _) → Settles (bench-server-question.Post κs a) (λ x e y f. SameAsked x y)
bench_server_question_settled κs a = question_settled κs a

pub bench_server_tick_settled : (κs : _) (a : _)
    → Settles (bench-server-tick.Post κs a) (λ x e y f. SameTicked a.0.now x y e.1.1.0.now f.1.1.0.now e.1.1.1.0.now f.1.1.1.0.now e.1.1.1.1.0.now f.1.1.1.1.0.now e.1.1.1.1.1.0.now f.1.1.1.1.1.0.now)
bench_server_tick_settled κs a = tick_settled κs a

pub bench_server_complete_settled : (κs : _) (a : _)
    → Settles (bench-server-complete.Post κs a) (λ x e y f. SameAnswer a.0.now x y a.1.1.0.now a.1.1.1.0.now e.1.1.1.1.0.now f.1.1.1.1.0.now e.1.1.1.1.1.0.now f.1.1.1.1.1.0.now)
bench_server_complete_settled κs a = complete_settled κs a

pub bench_server_fail_settled : (κs : _) (a : _)
    → Settles (bench-server-fail.Post κs a) (λ x e y f. SameAnswer a.0.now x y a.1.1.0.now a.1.1.1.0.now e.1.1.1.1.0.now f.1.1.1.1.0.now e.1.1.1.1.1.0.now f.1.1.1.1.1.0.now)
bench_server_fail_settled κs a = fail_settled κs a

pub bench_server_drain_settled : (κs : _) (a : _) → Settles (bench-server-drain.Post κs a) (λ x e y f. SameDrained x y e.1.1.1.1.1.1.0.now f.1.1.1.1.1.1.0.now)
bench_server_drain_settled κs a = drain_settled κs a
