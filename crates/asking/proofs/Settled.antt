-- Nothing else meets the promise: two answers that meet it name the same act. The theorem is of two calls that agree in what is read: the configuration, session
-- and level, when and what is asked, and the security record. All else of their requests may differ.
use mathlib.Core.Path.{◌≡◌}
use Rattle.service.specs.Act.{act_of}
use Rattle.service.proofs.Settled.{SettlesAlike, AlikeHeld, blank}
use Rattle.asking.proofs.asked.Reads as asked

pub asked_settled : SettlesAlike asked.Post
    (λ a b. (a.0 ≡ b.0) × AlikeHeld a.1.0.now b.1.0.now × (a.1.0.now.config.now ≡ b.1.0.now.config.now) × (a.1.0.now.payload.now ≡ b.1.0.now.payload.now) × (a.1.0.now.t.0 ≡ b.1.0.now.t.0) × (a.1.1.0.now ≡ b.1.1.0.now))
    (λ a b x e y f. act_of x ≡ act_of y)
asked_settled κs κs' a b h x e y f p q = cc (p blank, q blank)
