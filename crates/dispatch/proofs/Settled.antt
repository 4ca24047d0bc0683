-- Nothing else meets the promises: of two answers that meet one, the act, the effect with the lent words as it leaves them, and the queue that is seen are the same.
use Rattle.uds.proofs.Promise.{Settles}
use Rattle.service.proofs.Settled.{SameWanted, same-wanted}
use Rattle.dispatch.proofs.serve.Reads as serve
use Rattle.dispatch.proofs.guarded.Reads as guarded

pub serve_settled : (κs : _) (a : _)
    → Settles (serve.Post κs a) (λ x e y f. SameWanted a.1.0.now.t.0 a.1.0.now.frames x y e.1.1.0.now f.1.1.0.now e.1.1.1.0.now f.1.1.1.0.now e.1.1.1.1.0.now f.1.1.1.1.0.now)
serve_settled κs a x e y f p q = same-wanted p q

pub guarded_settled : (κs : _) (a : _)
    → Settles (guarded.Post κs a) (λ x e y f. SameWanted a.1.0.now.t.0 a.1.0.now.frames x y e.1.1.0.now f.1.1.0.now e.1.1.1.0.now f.1.1.1.0.now e.1.1.1.1.0.now f.1.1.1.1.0.now)
guarded_settled κs a x e y f p q = same-wanted p q
