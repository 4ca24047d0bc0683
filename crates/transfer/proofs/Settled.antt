-- Nothing else meets the promises: of two answers that meet one, what the theorem names is the same. Each theorem is of two calls
-- that agree in what is read, as it says; all else of their requests may differ.
use mathlib.Core.Path.{◌≡◌}
use Rattle.service.specs.Act.{act_of}
use Rattle.service.proofs.Settled.{SettlesAlike, AlikePlaced, AlikeHanded, blank, asked_act, alike_asked, SameSpoken, alike-spoken}
use Rattle.transfer.proofs.service34.ask34.Reads as ask34
use Rattle.transfer.proofs.service34.service34.Reads as service34
use Rattle.transfer.proofs.service36.ask36.Reads as ask36
use Rattle.transfer.proofs.service36.service36.Reads as service36
use Rattle.transfer.proofs.service37.ask37.Reads as ask37
use Rattle.transfer.proofs.service37.service37.Reads as service37
use Rattle.transfer.proofs.service38.ask38.Reads as ask38
use Rattle.transfer.proofs.service38.service38.Reads as service38

pub ask34_settled : SettlesAlike ask34.Post (λ a b. a.0.now.payload.now ≡ b.0.now.payload.now) (λ a b x e y f. asked_act x ≡ asked_act y)
ask34_settled κs κs' a b h x e y f p q = alike_asked (p blank) (q blank) (cc)

pub service34_settled : SettlesAlike service34.Post (λ a b. AlikePlaced a.0.now b.0.now a.1.0.now b.1.0.now × AlikeHanded a.0.now b.0.now) (λ a b x e y f. SameSpoken a.0.now.frames x y e.1.0.now f.1.0.now)
service34_settled κs κs' a b h x e y f p q = alike-spoken h.0 (p blank) (q blank) (cc)

pub ask36_settled : SettlesAlike ask36.Post (λ a b. a.0.now.payload.now ≡ b.0.now.payload.now) (λ a b x e y f. asked_act x ≡ asked_act y)
ask36_settled κs κs' a b h x e y f p q = alike_asked (p blank) (q blank) (cc)

pub service36_settled : SettlesAlike service36.Post (λ a b. AlikePlaced a.0.now b.0.now a.1.0.now b.1.0.now × AlikeHanded a.0.now b.0.now) (λ a b x e y f. SameSpoken a.0.now.frames x y e.1.0.now f.1.0.now)
service36_settled κs κs' a b h x e y f p q = alike-spoken h.0 (p blank) (q blank) (cc)

pub ask37_settled : SettlesAlike ask37.Post (λ a b. a.0.now.payload.now ≡ b.0.now.payload.now) (λ a b x e y f. act_of x ≡ act_of y)
ask37_settled κs κs' a b h x e y f p q = alike_asked (p blank) (q blank) (cc)

pub service37_settled : SettlesAlike service37.Post (λ a b. AlikePlaced a.0.now b.0.now a.1.0.now b.1.0.now × AlikeHanded a.0.now b.0.now) (λ a b x e y f. SameSpoken a.0.now.frames x y e.1.0.now f.1.0.now)
service37_settled κs κs' a b h x e y f p q = alike-spoken h.0 (p blank) (q blank) (cc)

pub ask38_settled : SettlesAlike ask38.Post (λ a b. a.0.now.payload.now ≡ b.0.now.payload.now) (λ a b x e y f. asked_act x ≡ asked_act y)
ask38_settled κs κs' a b h x e y f p q = alike_asked (p blank) (q blank) (cc)

pub service38_settled : SettlesAlike service38.Post (λ a b. AlikePlaced a.0.now b.0.now a.1.0.now b.1.0.now × AlikeHanded a.0.now b.0.now) (λ a b x e y f. SameSpoken a.0.now.frames x y e.1.0.now f.1.0.now)
service38_settled κs κs' a b h x e y f p q = alike-spoken h.0 (p blank) (q blank) (cc)
