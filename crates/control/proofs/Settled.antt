-- Nothing else meets the promises: of two answers that meet one, what the theorem names is the same. Each theorem is of two calls
-- that agree in what is read, as it says; all else of their requests may differ.
use mathlib.Core.Path.{◌≡◌}
use Rattle.service.proofs.Settled.{SettlesAlike, AlikePlaced, AlikeHanded, blank, asked_act, alike_asked, SameSpoken, alike-spoken}
use Rattle.control.proofs.service2F.ask2F.Reads as ask2F
use Rattle.control.proofs.service2F.service2F.Reads as service2F
use Rattle.control.proofs.service31.ask31.Reads as ask31
use Rattle.control.proofs.service31.service31.Reads as service31

pub ask2F_settled : SettlesAlike ask2F.Post (λ a b. a.0.now.payload.now ≡ b.0.now.payload.now) (λ a b x e y f. asked_act x ≡ asked_act y)
ask2F_settled κs κs' a b h x e y f p q = alike_asked (p blank) (q blank) (cc)

pub service2F_settled : SettlesAlike service2F.Post (λ a b. AlikePlaced a.0.now b.0.now a.1.0.now b.1.0.now × AlikeHanded a.0.now b.0.now) (λ a b x e y f. SameSpoken a.0.now.frames x y e.1.0.now f.1.0.now)
service2F_settled κs κs' a b h x e y f p q = alike-spoken h.0 (p blank) (q blank) (cc)

pub ask31_settled : SettlesAlike ask31.Post (λ a b. a.0.now.payload.now ≡ b.0.now.payload.now) (λ a b x e y f. asked_act x ≡ asked_act y)
ask31_settled κs κs' a b h x e y f p q = alike_asked (p blank) (q blank) (cc)

pub service31_settled : SettlesAlike service31.Post (λ a b. AlikePlaced a.0.now b.0.now a.1.0.now b.1.0.now × AlikeHanded a.0.now b.0.now) (λ a b x e y f. SameSpoken a.0.now.frames x y e.1.0.now f.1.0.now)
service31_settled κs κs' a b h x e y f p q = alike-spoken h.0 (p blank) (q blank) (cc)
