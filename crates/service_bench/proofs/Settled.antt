-- Nothing else meets the promises: what they settle is what those of the services settle, of what is told in numbers.
use Prim.Native.Nat.{ℕ}
use mathlib.Core.List.{List}
use Rattle.uds.proofs.Promise.{Settles}
use Rattle.service.specs.Seen.{received_at}
use Rattle.service.proofs.Settled.{blank, SameSpoken, same-spoken, SameWanted, same-wanted}
use Rattle.service_bench.specs.Told.{spoken_told, wanted_told}
use Rattle.service_bench.proofs.bench_service10.Reads as bench-service10
use Rattle.service_bench.proofs.bench_service11.Reads as bench-service11
use Rattle.service_bench.proofs.bench_service22.Reads as bench-service22
use Rattle.service_bench.proofs.bench_service27.Reads as bench-service27
use Rattle.service_bench.proofs.bench_service28.Reads as bench-service28
use Rattle.service_bench.proofs.bench_service2A.Reads as bench-service2A
use Rattle.service_bench.proofs.bench_service2E.Reads as bench-service2E
use Rattle.service_bench.proofs.bench_service2F.Reads as bench-service2F
use Rattle.service_bench.proofs.bench_service31.Reads as bench-service31
use Rattle.service_bench.proofs.bench_service34.Reads as bench-service34
use Rattle.service_bench.proofs.bench_service36.Reads as bench-service36
use Rattle.service_bench.proofs.bench_service37.Reads as bench-service37
use Rattle.service_bench.proofs.bench_service38.Reads as bench-service38
use Rattle.service_bench.proofs.bench_service3E.Reads as bench-service3E

pub bench_service10_settled : (κs : _) (a : _) → Settles (bench-service10.Post κs a) (λ x e y f. (t : ℕ) (k subs : List ℕ) → SameWanted t a.1.1.1.1.0 (wanted_told x) (wanted_told y) k k subs subs e.1.1.1.1.1.1.0.now f.1.1.1.1.1.1.0.now)
bench_service10_settled κs a x e y f p q t k subs = same-wanted (p (received_at t blank) k subs) (q (received_at t blank) k subs)

pub bench_service11_settled : (κs : _) (a : _) → Settles (bench-service11.Post κs a) (λ x e y f. (t : ℕ) (k subs : List ℕ) → SameWanted t a.1.1.1.0 (wanted_told x) (wanted_told y) k k subs subs e.1.1.1.1.1.1.1.0.now f.1.1.1.1.1.1.1.0.now)
bench_service11_settled κs a x e y f p q t k subs = same-wanted (p (received_at t blank) k subs) (q (received_at t blank) k subs)

pub bench_service22_settled : (κs : _) (a : _) → Settles (bench-service22.Post κs a) (λ x e y f. SameSpoken a.1.1.1.0 (spoken_told x) (spoken_told y) e.1.1.1.1.1.1.1.0.now f.1.1.1.1.1.1.1.0.now)
bench_service22_settled κs a x e y f p q = same-spoken (p blank) (q blank)

pub bench_service27_settled : (κs : _) (a : _)
    → Settles (bench-service27.Post κs a) (λ x e y f. (subs : List ℕ) → SameWanted a.1.1.1.1.1.1.0.0 a.1.1.1.1.0 (wanted_told x) (wanted_told y) e.1.1.1.1.1.1.1.1.1.0.now f.1.1.1.1.1.1.1.1.1.0.now subs subs e.1.1.1.1.1.1.1.1.1.1.0.now f.1.1.1.1.1.1.1.1.1.1.0.now)
bench_service27_settled κs a x e y f p q subs = same-wanted (p blank subs) (q blank subs)

pub bench_service28_settled : (κs : _) (a : _) → Settles (bench-service28.Post κs a) (λ x e y f. SameSpoken a.0 (spoken_told x) (spoken_told y) e.1.1.1.1.0.now f.1.1.1.1.0.now)
bench_service28_settled κs a x e y f p q = same-spoken (p blank) (q blank)

pub bench_service2A_settled : (κs : _) (a : _)
    → Settles (bench-service2A.Post κs a) (λ x e y f. (k : List ℕ) → SameWanted a.1.1.1.1.1.1.0.0 a.1.1.1.1.0 (wanted_told x) (wanted_told y) k k e.1.1.1.1.1.1.1.1.0.now f.1.1.1.1.1.1.1.1.0.now e.1.1.1.1.1.1.1.1.1.0.now f.1.1.1.1.1.1.1.1.1.0.now)
bench_service2A_settled κs a x e y f p q k = same-wanted (p blank k) (q blank k)

pub bench_service2E_settled : (κs : _) (a : _) → Settles (bench-service2E.Post κs a) (λ x e y f. SameSpoken a.1.1.1.0 (spoken_told x) (spoken_told y) e.1.1.1.1.1.1.1.0.now f.1.1.1.1.1.1.1.0.now)
bench_service2E_settled κs a x e y f p q = same-spoken (p blank) (q blank)

pub bench_service2F_settled : (κs : _) (a : _) → Settles (bench-service2F.Post κs a) (λ x e y f. SameSpoken a.0 (spoken_told x) (spoken_told y) e.1.1.1.1.0.now f.1.1.1.1.0.now)
bench_service2F_settled κs a x e y f p q = same-spoken (p blank) (q blank)

pub bench_service31_settled : (κs : _) (a : _) → Settles (bench-service31.Post κs a) (λ x e y f. SameSpoken a.0 (spoken_told x) (spoken_told y) e.1.1.1.1.0.now f.1.1.1.1.0.now)
bench_service31_settled κs a x e y f p q = same-spoken (p blank) (q blank)

pub bench_service34_settled : (κs : _) (a : _) → Settles (bench-service34.Post κs a) (λ x e y f. SameSpoken a.0 (spoken_told x) (spoken_told y) e.1.1.1.1.0.now f.1.1.1.1.0.now)
bench_service34_settled κs a x e y f p q = same-spoken (p blank) (q blank)

pub bench_service36_settled : (κs : _) (a : _) → Settles (bench-service36.Post κs a) (λ x e y f. SameSpoken a.0 (spoken_told x) (spoken_told y) e.1.1.1.1.0.now f.1.1.1.1.0.now)
bench_service36_settled κs a x e y f p q = same-spoken (p blank) (q blank)

pub bench_service37_settled : (κs : _) (a : _) → Settles (bench-service37.Post κs a) (λ x e y f. SameSpoken a.0 (spoken_told x) (spoken_told y) e.1.1.1.1.0.now f.1.1.1.1.0.now)
bench_service37_settled κs a x e y f p q = same-spoken (p blank) (q blank)

pub bench_service38_settled : (κs : _) (a : _) → Settles (bench-service38.Post κs a) (λ x e y f. SameSpoken a.0 (spoken_told x) (spoken_told y) e.1.1.1.1.0.now f.1.1.1.1.0.now)
bench_service38_settled κs a x e y f p q = same-spoken (p blank) (q blank)

pub bench_service3E_settled : (κs : _) (a : _) → Settles (bench-service3E.Post κs a) (λ x e y f. SameSpoken a.0 (spoken_told x) (spoken_told y) e.1.1.0.now f.1.1.0.now)
bench_service3E_settled κs a x e y f p q = same-spoken (p blank) (q blank)
