-- Nothing else meets the three promises: the answer itself, the queue that is seen, and of a drain what that of `queue` settles.
use Prim.Native.Nat.{ℕ}
use mathlib.Core.Path.{◌≡◌, ap, ap₂, sym, ◌∙◌}
use mathlib.Core.List.{List}
use Rattle.model.specs.Queue.{QueueStep}
use Rattle.uds.proofs.Promise.{Settles}
use Rattle.queue.specs.View.{queue_of}
use Rattle.queue.proofs.Settled.{counted, SameDrain, emptied_settled}
use Rattle.queue_bench.specs.View.{step_of}
use Rattle.queue_bench.specs.declared.Pushed.{Pushed}
use Rattle.queue_bench.proofs.bench_confirm.Reads as bench-confirm
use Rattle.queue_bench.proofs.bench_refuse.Reads as bench-refuse
use Rattle.queue_bench.proofs.bench_drain.Reads as bench-drain

-- a step of the queue: the answer itself, and the queue that is seen
pub record Same (r r' : Pushed) (heads heads' room room' : List ℕ) : Type 0 where
  pub answer : r ≡ r'
  pub queue : queue_of r.count heads room ≡ queue_of r'.count heads' room'

abbrev pushed_of : ℕ → ℕ → Pushed
pushed_of a n = record { result = a; count = n }

pub step_settled : (q : QueueStep) (r r' : Pushed) (heads heads' room room' : List ℕ) → step_of r heads room ≡ q → step_of r' heads' room' ≡ q → Same r r' heads heads' room room'
step_settled q r r' heads heads' room room' e e' =
    let a : r.result ≡ r'.result = ap (λ (p : QueueStep). p.result) (e ∙ sym e') in
    let b : queue_of r.count heads room ≡ queue_of r'.count heads' room' = ap (λ (p : QueueStep). p.queue) (e ∙ sym e') in
    let n : r.count ≡ r'.count = counted r.count r'.count heads heads' room room' b in
    record { answer = ap₂ pushed_of a n; queue = b }

pub bench_confirm_settled : (κs : _) (a : _) → Settles (bench-confirm.Post κs a) (λ x e y f. Same x y e.1.0.now f.1.0.now e.1.1.0.now f.1.1.0.now)
bench_confirm_settled κs a x e y f p q = step_settled _ x y e.1.0.now f.1.0.now e.1.1.0.now f.1.1.0.now p q

pub bench_refuse_settled : (κs : _) (a : _) → Settles (bench-refuse.Post κs a) (λ x e y f. Same x y e.1.0.now f.1.0.now e.1.1.0.now f.1.1.0.now)
bench_refuse_settled κs a x e y f p q = step_settled _ x y e.1.0.now f.1.0.now e.1.1.0.now f.1.1.0.now p q

pub bench_drain_settled : (κs : _) (a : _) → Settles (bench-drain.Post κs a) (λ x e y f. SameDrain x y e.1.1.1.0.now f.1.1.1.0.now)
bench_drain_settled κs a x e y f p q = emptied_settled _ x y a.1.0.now a.1.1.0.now e.1.1.1.0.now f.1.1.1.0.now p q
