-- Nothing else meets the promises: of two answers that meet one, what the theorem names is the same. Each theorem is of two calls
-- that agree in what is read, as it says; all else of their requests may differ.
use Prim.Native.Nat.{ℕ}
use mathlib.Core.List.{List}
use mathlib.Core.Path.{◌≡◌, refl}
use Rattle.service.proofs.Settled.{SettlesAlike, AlikePlaced, AlikeHeld, blank, SameWanted, alike-wanted}
use Rattle.transmission.proofs.service2A.service2A.Reads as service2A

-- whatever the security record holds, which it is not lent
pub service2A_settled : SettlesAlike service2A.Post
    (λ a b. AlikePlaced a.0.now b.0.now a.1.1.0.now b.1.1.0.now × AlikeHeld a.0.now b.0.now × (a.0.now.config.now ≡ b.0.now.config.now) × (a.0.now.subscriptions ≡ b.0.now.subscriptions) × (a.0.now.src ≡ b.0.now.src) × (a.0.now.t.0 ≡ b.0.now.t.0) × (a.1.0.now ≡ b.1.0.now))
    (λ a b x e y f. (k : List ℕ) → SameWanted a.0.now.t.0 a.0.now.frames x y k k e.1.0.now f.1.0.now e.1.1.0.now f.1.1.0.now)
service2A_settled κs κs' a b h x e y f p q k = alike-wanted h.0 (p blank k) (q blank k) (cc) refl h.6
