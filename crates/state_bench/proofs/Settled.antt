-- Nothing else meets the two promises: what they settle is what those of `state` settle.
use Rattle.uds.proofs.Promise.{Settles, Answer}
use Rattle.uds.proofs.Settled.{said}
use Rattle.state.proofs.Settled.{SameAnswer, applied_settled}
use Rattle.state_bench.proofs.bench_is_valid.Reads as bench-is-valid
use Rattle.state_bench.proofs.bench_apply.Reads as bench-apply

pub bench_is_valid_settled : (κs : _) (a : _) → Settles (bench-is-valid.Post κs a) Answer
bench_is_valid_settled κs a x e y f p q = said p q

pub bench_apply_settled : (κs : _) (a : _) → Settles (bench-apply.Post κs a) (λ x e y f. SameAnswer a.0.now x y e.1.1.0.now f.1.1.0.now e.1.1.1.0.now f.1.1.1.0.now e.1.1.1.1.0.now f.1.1.1.1.0.now)
bench_apply_settled κs a x e y f p q = applied_settled _ _ _ _ _ _ _ _ _ _ x y _ _ _ _ _ _ p q
