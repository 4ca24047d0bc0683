-- Nothing else meets the promises: of two answers that meet one, what the theorem names is the same. Each theorem is of two calls
-- that agree in what is read, as it says; all else of their requests may differ. An effect is compared as it is seen: the words that no view shows, such as the
-- bytes behind a seed, are open.
use Prim.Native.Nat.{ℕ}
use mathlib.Core.Path.{◌≡◌, refl}
use mathlib.Core.List.{List}
use Rattle.service.specs.Seen.{received_at}
use Rattle.service.proofs.Settled.{SettlesAlike, AlikePlaced, AlikeHeld, AlikeHanded, blank, asked_act, alike_asked, SameSpoken, alike-spoken, SameWanted, alike-wanted}
use Rattle.management.proofs.service3E.service3E.Reads as service3E
use Rattle.management.proofs.service10.service10.Reads as service10
use Rattle.management.proofs.service11.ask11.Reads as ask11
use Rattle.management.proofs.service11.service11.Reads as service11
use Rattle.management.proofs.service28.ask28.Reads as ask28
use Rattle.management.proofs.service28.service28.Reads as service28

pub service3E_settled : SettlesAlike service3E.Post (λ a b. AlikePlaced a.0.now b.0.now a.1.0.now b.1.0.now) (λ a b x e y f. SameSpoken a.0.now.frames x y e.1.0.now f.1.0.now)
service3E_settled κs κs' a b h x e y f p q = alike-spoken h (p blank) (q blank) (cc)

-- whatever the security words and the subscriptions are, and whenever the request was received
pub service10_settled : SettlesAlike service10.Post (λ a b. AlikePlaced a.0.now b.0.now a.1.0.now b.1.0.now × AlikeHeld a.0.now b.0.now × (a.0.now.config.now ≡ b.0.now.config.now) × (a.0.now.subscriptions ≡ b.0.now.subscriptions))
    (λ a b x e y f. (t : ℕ) (k subs : List ℕ) → SameWanted t a.0.now.frames x y k k subs subs e.1.0.now f.1.0.now)
service10_settled κs κs' a b h x e y f p q t k subs = alike-wanted h.0 (p (received_at t blank) k subs) (q (received_at t blank) k subs) (cc) refl refl

pub ask11_settled : SettlesAlike ask11.Post (λ a b. a.0.now.payload.now ≡ b.0.now.payload.now) (λ a b x e y f. asked_act x ≡ asked_act y)
ask11_settled κs κs' a b h x e y f p q = alike_asked (p blank) (q blank) (cc)

pub service11_settled : SettlesAlike service11.Post (λ a b. AlikePlaced a.0.now b.0.now a.1.0.now b.1.0.now × AlikeHeld a.0.now b.0.now × AlikeHanded a.0.now b.0.now × (a.0.now.subscriptions ≡ b.0.now.subscriptions))
    (λ a b x e y f. (t : ℕ) (k subs : List ℕ) → SameWanted t a.0.now.frames x y k k subs subs e.1.0.now f.1.0.now)
service11_settled κs κs' a b h x e y f p q t k subs = alike-wanted h.0 (p (received_at t blank) k subs) (q (received_at t blank) k subs) (cc) refl refl

pub ask28_settled : SettlesAlike ask28.Post (λ a b. a.0.now.payload.now ≡ b.0.now.payload.now) (λ a b x e y f. asked_act x ≡ asked_act y)
ask28_settled κs κs' a b h x e y f p q = alike_asked (p blank) (q blank) (cc)

pub service28_settled : SettlesAlike service28.Post (λ a b. AlikePlaced a.0.now b.0.now a.1.0.now b.1.0.now × AlikeHanded a.0.now b.0.now) (λ a b x e y f. SameSpoken a.0.now.frames x y e.1.0.now f.1.0.now)
service28_settled κs κs' a b h x e y f p q = alike-spoken h.0 (p blank) (q blank) (cc)
