-- Nothing else meets the promises: of two answers that meet one, what the theorem names is the same. Each theorem is of two calls
-- that agree in what is read, as it says; all else of their requests may differ.
use mathlib.Core.Path.{◌≡◌}
use Rattle.service.proofs.Settled.{SettlesAlike, AlikePlaced, AlikeHeld, AlikeHanded, blank, asked_act, alike_asked, SameSpoken, alike-spoken}
use Rattle.data.proofs.service22.service22.Reads as service22
use Rattle.data.proofs.service2E.ask2E.Reads as ask2E
use Rattle.data.proofs.service2E.service2E.Reads as service2E

pub service22_settled : SettlesAlike service22.Post (λ a b. AlikePlaced a.0.now b.0.now a.1.0.now b.1.0.now × AlikeHeld a.0.now b.0.now × (a.0.now.config.now ≡ b.0.now.config.now) × (a.0.now.values.now ≡ b.0.now.values.now) × (a.0.now.pool.now ≡ b.0.now.pool.now)) (λ a b x e y f. SameSpoken a.0.now.frames x y e.1.0.now f.1.0.now)
service22_settled κs κs' a b h x e y f p q = alike-spoken h.0 (p blank) (q blank) (cc)

pub ask2E_settled : SettlesAlike ask2E.Post (λ a b. AlikeHeld a.0.now b.0.now × (a.0.now.payload.now ≡ b.0.now.payload.now) × (a.0.now.config.now ≡ b.0.now.config.now)) (λ a b x e y f. asked_act x ≡ asked_act y)
ask2E_settled κs κs' a b h x e y f p q = alike_asked (p blank) (q blank) (cc)

pub service2E_settled : SettlesAlike service2E.Post (λ a b. AlikePlaced a.0.now b.0.now a.1.0.now b.1.0.now × AlikeHeld a.0.now b.0.now × AlikeHanded a.0.now b.0.now × (a.0.now.config.now ≡ b.0.now.config.now)) (λ a b x e y f. SameSpoken a.0.now.frames x y e.1.0.now f.1.0.now)
service2E_settled κs κs' a b h x e y f p q = alike-spoken h.0 (p blank) (q blank) (cc)
