-- Nothing else meets the promises: of two answers that meet one, what the theorem names is the same. Each theorem is of two calls
-- that agree in what is read, as it says; all else of their requests may differ. An effect is compared as it is seen: the words that no view shows, such as the
-- bytes behind a seed, are open.
use mathlib.Core.Path.{◌≡◌, refl}
use mathlib.Core.List.{List}
use Prim.Native.Nat.{ℕ}
use Rattle.service.proofs.Settled.{SettlesAlike, AlikePlaced, AlikeHeld, AlikeHanded, blank, asked_act, alike_asked, SameWanted, alike-wanted}
use Rattle.access.proofs.service27.ask27.Reads as ask27
use Rattle.access.proofs.service27.service27.Reads as service27

pub ask27_settled : SettlesAlike ask27.Post (λ a b. (a.0.now.payload.now ≡ b.0.now.payload.now) × (a.0.now.config.now ≡ b.0.now.config.now) × (a.0.now.t.0 ≡ b.0.now.t.0) × (a.1.0.now ≡ b.1.0.now)) (λ a b x e y f. asked_act x ≡ asked_act y)
ask27_settled κs κs' a b h x e y f p q = alike_asked (p blank) (q blank) (cc)

-- of the security words as it leaves them
pub service27_settled : SettlesAlike service27.Post (λ a b. AlikePlaced a.0.now b.0.now a.1.1.0.now b.1.1.0.now × AlikeHeld a.0.now b.0.now × AlikeHanded a.0.now b.0.now × (a.0.now.config.now ≡ b.0.now.config.now) × (a.0.now.subscriptions ≡ b.0.now.subscriptions) × (a.0.now.t.0 ≡ b.0.now.t.0) × (a.1.0.now ≡ b.1.0.now))
    (λ a b x e y f. (subs : List ℕ) → SameWanted a.0.now.t.0 a.0.now.frames x y e.1.0.now f.1.0.now subs subs e.1.1.0.now f.1.1.0.now)
service27_settled κs κs' a b h x e y f p q subs = alike-wanted h.0 (p blank subs) (q blank subs) (cc) h.6 refl
