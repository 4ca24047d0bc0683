use Rattle.std.proofs.Common.{ℕ, List, ap, false, sym, ◌≡◌, ◌∙◌}
use Rattle.model.specs.Service.{Seen}
use Rattle.queue.specs.declared.reply.Reply.{Reply}
use Rattle.state.specs.declared.apply.Effect.{Effect}
use Rattle.service.specs.declared.Request.{Request}
use Rattle.service.specs.Act.{Handed, outcome_of}
use Rattle.service.specs.Seen.{configured, received_at, in_session, secured, subscribed, says_of}
use Rattle.service.specs.Effects.{Effects, Leaves}
use Rattle.access.specs.Access.{access27, outcome27}
use Rattle.service.proofs.Effects.{leaves-effect, leaves_as}
use Rattle.access.proofs.Access.{left-with, gives, accepts, denies}
use Rattle.access.proofs.service27.carried.Goals as goal

-- the request as it is seen, whatever else is
abbrev sees : Request → List ℕ → Seen → List ℕ → Seen
sees q k v subs = in_session q.session q.level (secured k (subscribed q.subscriptions subs (received_at q.t.0 (configured q.config.now v))))

-- an effect that is a reply, the level that is held and the security record as it is left
module _ (q : Request) (k room : List ℕ) (access : ℕ) (o : Handed) where
  carries : {k' room' : List ℕ} {held : ℕ} {r : Reply} {e : Effect} → e ≡ says_of q.session held q.subscriptions r
      → ((v : Seen) (subs : List ℕ) → Leaves (outcome27 (sees q k v subs) access (outcome_of o q.given.now)) (sees q k v subs) held q.frames room r k' room')
      → ((v : Seen) (subs : List ℕ) → Effects (outcome27 (sees q k v subs) access (outcome_of o q.given.now)) q.t.0 k' subs q.frames room e room') × (e.waits ≡ false)
  carries w h =
      (λ v subs. leaves-effect access27 (received_at q.t.0 (configured q.config.now v)) q.session q.level q.subscriptions q.frames k subs room _ _ _ _ _ _ w (h v subs), ap (λ (x : Effect). x.waits) w)

pub returns-then-access-eq1 : goal.returns-then-access-eq1
returns-then-access-eq1 c = let a = c.args in
    carries a.request.now a.k.now a.room.now a.access a.outcome c.says.ensures
    (λ v subs. leaves_as _ _ _ (gives _ a.access _ a.outcome c.if-access-eq1.true) (c.give_seed-reply.ensures _))

pub returns-then-is_ok : goal.returns-then-is_ok
returns-then-is_ok c = let a = c.args in
    carries a.request.now a.k.now a.room.now a.access a.outcome (ap (λ (x : Effect). record x { level = c.saturating_sub-level.result }) c.says-then-is_ok.ensures)
    (λ v subs. leaves_as _ _ _ (accepts _ a.access _ c.if-access-eq1.false c.saturating_sub-level.ensures a.outcome (sym c.is_ok.ensures.value ∙ c.if-is_ok.true)) (c.accept-reply.ensures _))

pub returns : goal.returns
returns c = let a = c.args in
    carries a.request.now a.k.now a.room.now a.access a.outcome c.says-2.ensures
    (λ v subs. let u = sees a.request.now a.k.now v subs in left-with u (denies u a.access _ c.if-access-eq1.false c.saturating_sub-level.ensures a.outcome (sym c.is_ok.ensures.value ∙ c.if-is_ok.false) ∙ c.deny-refusal.ensures u))
