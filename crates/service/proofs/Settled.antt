-- Nothing else meets the promises: of two answers that meet one, what the theorem names is the same. Whoever is lent a request reads only a part of it: there
-- the theorem is of two calls that agree in that part. The first laws are of the promises of all services, and a crate of services cites them; then come the
-- functions of this crate.
use Prim.Native.Nat.{ℕ}
use mathlib.Core.Path.{◌≡◌, ap, sym, ◌∙◌}
use mathlib.Core.List.{List, [], ◌++◌}
use Rattle.model.specs.Config.{empty_config}
use Rattle.model.specs.Values as Values
use Rattle.model.specs.State.{fresh_session, fresh_security, fresh_periodic}
use Rattle.model.specs.Queue as Queue
use Rattle.model.specs.Service as Rules
use Rattle.model.specs.Service.{Seen, Served, no_act}
use Rattle.uds.proofs.Promise.{Settles, Answer}
use Rattle.uds.proofs.Settled.{said}
use Rattle.queue.specs.View.{queue_of, reply_of}
use Rattle.queue.specs.declared.reply.Reply.{Reply}
use Rattle.state.specs.View.{effect_of}
use Rattle.service.specs.Act.{act_of, Ask, asked_of, Asked, outcome_of, acted_reply}
use Rattle.service.specs.Seen.{Replies, Speaks, Serves}
use Rattle.std.specs.Prelude.{Ok, Err}
use Rattle.service.specs.declared.Part.{Part}
use Rattle.service.specs.declared.Request.{Request}
use Rattle.service.specs.declared.Spoken.{Spoken}
use Rattle.service.specs.declared.Wanted.{Wanted}
use Rattle.service.proofs.Act.none.Reads as none
use Rattle.service.proofs.Part.of.Reads as part_of
use Rattle.service.proofs.acted.Reads as acted
use Rattle.service.proofs.answered.Reads as answered
use Rattle.service.proofs.first.Reads as first
use Rattle.service.proofs.joined.Reads as joined
use Rattle.service.proofs.Request.of.Reads as of
use Rattle.service.proofs.Request.outcome.Reads as outcome
use Rattle.service.proofs.refusal.Reads as refusal
use Rattle.service.proofs.Request.refused.Reads as refused
use Rattle.service.proofs.Request.says.Reads as says

-- `P` is a contract, at any lifetimes and arguments. Of two calls that `Agree` it settles what `Same` compares: of two answers that meet it, one to each call,
-- that much is the same. `Agree` names what the function reads; all else that it is lent may differ
abbrev pub SettlesAlike : {K A R S : Type 0} → (K → A → R → S → Type 0) → (A → A → Type 0) → (A → A → R → S → R → S → Type 0) → Type 0
SettlesAlike {K} {A} {R} {S} P Agree Same = (κs κs' : K) (a b : A) → Agree a b → (x : R) (e : S) (y : R) (f : S) → P κs a x e → P κs' b y f → Same a b x e y f

-- requests that agree in the session and in the level that is held
pub record AlikeHeld (r r' : Request) : Type 0 where
  pub session : r.session ≡ r'.session
  pub level : r.level ≡ r'.level

-- in what was handed in for the act
pub record AlikeHanded (r r' : Request) : Type 0 where
  pub err : r.err ≡ r'.err
  pub given : r.given.now ≡ r'.given.now

-- in what every service reads: the payload, how many frames wait, and the room before, which stands beside the request
pub record AlikePlaced (r r' : Request) (before before' : List ℕ) : Type 0 where
  pub payload : r.payload.now ≡ r'.payload.now
  pub frames : r.frames ≡ r'.frames
  pub room : before ≡ before'

-- something to see: a promise that holds whatever is seen is settled by this
abbrev pub blank : Seen
blank = record { limit = 0; config = empty_config; session = fresh_session; security = fresh_security; periodic = fresh_periodic; now = 0; src = 0; payload = []; given = Values.given0; table = Values.empty_table }

-- the act that a question is told
abbrev pub asked_act : Ask → Rules.Act
asked_act (Err code) = no_act
asked_act (Ok a) = act_of a

asked-act : (r : Ask) (v : Seen) (e : Rules.Effect) → (asked_of r v e).act ≡ asked_act r
asked-act (Err code) v e = λ i. no_act
asked-act (Ok a) v e = λ i. act_of a

pub same_asked : {f : Seen → Served} {later : Seen → Rules.Effect} {v : Seen} {r r' : Ask} → Asked f later v r → Asked f later v r' → asked_act r ≡ asked_act r'
same_asked {later = later} {v} {r} {r'} p q = sym (asked-act r v (later v)) ∙ ap (λ (a : Served). a.act) (sym p.asked ∙ q.asked) ∙ asked-act r' v (later v)

-- and of two things seen that are equal
pub alike_asked : {f : Seen → Served} {later : Seen → Rules.Effect} {v v' : Seen} {r r' : Ask} → Asked f later v r → Asked f later v' r' → v ≡ v' → asked_act r ≡ asked_act r'
alike_asked p q e = same_asked p (rw (← e) at q)

-- a reply, as it stands in the free place, and the queue that is seen
pub record SameReply (frames : ℕ) (r r' : Reply) (room room' : List ℕ) : Type 0 where
  pub reply : reply_of r frames room ≡ reply_of r' frames room'
  pub queue : (heads : List ℕ) → queue_of frames heads room ≡ queue_of frames heads room'

pub same-reply : {should : Queue.Reply} {frames : ℕ} {before room room' : List ℕ} {r r' : Reply} → Replies should frames before r room → Replies should frames before r' room' → SameReply frames r r' room room'
same-reply p q = record { reply = said p.reply q.reply; queue = λ heads. said (p.unseen heads) (q.unseen heads) }

-- and the act with it
pub record SameSpoken (frames : ℕ) (r r' : Spoken) (room room' : List ℕ) : Type 0 where
  pub act : act_of r.act ≡ act_of r'.act
  pub reply : SameReply frames r.reply r'.reply room room'

pub same-spoken : {f : Seen → Served} {v : Seen} {frames : ℕ} {before room room' : List ℕ} {r r' : Spoken} → Speaks f v frames before r room → Speaks f v frames before r' room' → SameSpoken frames r r' room room'
same-spoken p q = record {
  act = ap (λ (a : Served). a.act) (sym p.served ∙ q.served);
  reply = record { reply = ap (λ (a : Served). a.effect.reply) (sym p.served ∙ q.served); queue = λ heads. said (p.unseen heads) (q.unseen heads) };
}

-- and of two calls that agree, to which what is seen is equal
pub alike-spoken : {f : Seen → Served} {v v' : Seen} {z z' : Request} {before before' room room' : List ℕ} {r r' : Spoken} → AlikePlaced z z' before before' → Speaks f v z.frames before r room → Speaks f v' z'.frames before' r' room' → v ≡ v'
    → SameSpoken z.frames r r' room room'
alike-spoken h p q e = same-spoken p (rw (← e, ← h.frames, ← h.room) at q)

-- an effect, of the lent words as it leaves them
pub record SameWanted (t frames : ℕ) (r r' : Wanted) (k k' subs subs' room room' : List ℕ) : Type 0 where
  pub act : act_of r.act ≡ act_of r'.act
  pub effect : effect_of r.effect t k subs frames room ≡ effect_of r'.effect t k' subs' frames room'
  pub queue : (heads : List ℕ) → queue_of frames heads room ≡ queue_of frames heads room'

pub same-wanted : {f : Seen → Served} {v : Seen} {before-k before-subs : List ℕ} {frames : ℕ} {before k k' subs subs' room room' : List ℕ} {r r' : Wanted} → Serves f v before-k before-subs frames before r k subs room → Serves f v before-k before-subs frames before r' k' subs' room'
    → SameWanted v.now frames r r' k k' subs subs' room room'
same-wanted p q = record {
  act = ap (λ (a : Served). a.act) (sym p.served ∙ q.served);
  effect = ap (λ (a : Served). a.effect) (sym p.served ∙ q.served);
  queue = λ heads. said (p.unseen heads) (q.unseen heads);
}

-- and of two calls that agree, to which what is seen and the words before are equal
pub alike-wanted : {f : Seen → Served} {v v' : Seen} {z z' : Request} {before-k before-k' before-subs before-subs' before before' k k' subs subs' room room' : List ℕ} {r r' : Wanted} → AlikePlaced z z' before before'
    → Serves f v before-k before-subs z.frames before r k subs room → Serves f v' before-k' before-subs' z'.frames before' r' k' subs' room' → v ≡ v' → before-k ≡ before-k' → before-subs ≡ before-subs'
    → SameWanted v.now z.frames r r' k k' subs subs' room room'
alike-wanted h p q e k subs = same-wanted p (rw (← e, ← k, ← subs, ← h.frames, ← h.room) at q)

pub part_of_settled : (κs : _) (a : _) → Settles (part_of.Post κs a) Answer
part_of_settled κs a x e y f p q = ap made (said p q)
  where
    made : Rules.Part → Part
    made z = record { start = z.start; len = z.len }

pub none_settled : (κs : _) (a : _) → Settles (none.Post κs a) (λ x e y f. act_of x ≡ act_of y)
none_settled κs a x e y f p q = said p q

-- a request, as it is seen
pub record SameRequest (r r' : Request) : Type 0 where
  pub lent : (r.config.now ≡ r'.config.now) × (r.payload.now ≡ r'.payload.now)
  pub numbers : (r.session ≡ r'.session) × (r.level ≡ r'.level) × (r.subscriptions ≡ r'.subscriptions) × (r.frames ≡ r'.frames) × (r.src ≡ r'.src) × (r.t.0 ≡ r'.t.0)
  pub handed : (r.err ≡ r'.err) × (r.given.now ≡ r'.given.now) × (r.values.now ≡ r'.values.now) × (r.pool.now ≡ r'.pool.now)

pub of_settled : (κs : _) (a : _) → Settles (of.Post κs a) (λ x e y f. SameRequest x y)
of_settled κs a x e y f p q = record {
  lent = (said p.0.0 q.0.0, said p.0.1 q.0.1);
  numbers = (
    said p.1.0.0 q.1.0.0,
    said p.1.0.1 q.1.0.1,
    said p.1.0.2 q.1.0.2,
    said p.1.0.3 q.1.0.3,
    said p.1.0.4 q.1.0.4,
    said p.1.0.5 q.1.0.5,
  );
  handed = (said p.1.1.0 q.1.1.0, said p.1.1.1 q.1.1.1, said p.1.1.2 q.1.1.2, said p.1.1.3 q.1.1.3);
}

-- an outcome: the bytes, or which error
pub outcome_settled : SettlesAlike outcome.Post (λ a b. AlikeHanded a.0.now b.0.now × (a.1.0 ≡ b.1.0)) (λ a b x e y f. outcome_of x a.0.now.given.now ≡ outcome_of y b.0.now.given.now)
outcome_settled κs κs' a b h x e y f p q = sym p ∙ rw (h.0.err, h.0.given, h.1) q

pub first_settled : (κs : _) (a : _) → Settles (first.Post κs a) (λ x e y f. x.now ≡ y.now)
first_settled κs a x e y f p q = said p q

pub says_settled : SettlesAlike says.Post (λ a b. AlikeHeld a.0.now b.0.now × (a.0.now.subscriptions ≡ b.0.now.subscriptions) × (a.1.0 ≡ b.1.0)) (λ a b. Answer)
says_settled κs κs' a b h x e y f p q = cc

pub refused_settled : SettlesAlike refused.Post (λ a b. AlikeHeld a.0.now b.0.now × (a.0.now.subscriptions ≡ b.0.now.subscriptions) × (a.1.0 ≡ b.1.0)) (λ a b x e y f. (x.effect ≡ y.effect) × (act_of x.act ≡ act_of y.act))
refused_settled κs κs' a b h x e y f p q = ((cc), said p.act q.act)

pub refusal_settled : (κs : _) (a : _) → Settles (refusal.Post κs a) (λ x e y f. (frames : ℕ) (room : List ℕ) → reply_of x frames room ≡ reply_of y frames room)
refusal_settled κs a x e y f p q frames room = said (p frames room) (q frames room)

pub joined_settled : (κs : _) (a : _) → Settles (joined.Post κs a) (λ x e y f. SameReply a.0 x y e.1.1.1.0.now f.1.1.1.0.now)
joined_settled κs a x e y f p q = same-reply p q

pub acted_settled : (κs : _) (a : _) → Settles (acted.Post κs a) (λ x e y f. SameReply a.0 x y e.1.1.1.1.1.0.now f.1.1.1.1.1.0.now)
acted_settled κs a x e y f p q = same-reply p q

-- of a service that answers just this
pub answered_settled : (κs : _) (a : _) → Settles (answered.Post κs a) (λ x e y f. SameSpoken a.1.0 x y e.1.1.1.1.1.1.0.now f.1.1.1.1.1.1.0.now)
answered_settled κs a x e y f p q = same-spoken (p serve later blank (record { asked = λ i. serve blank }) (λ i. later blank)) (q serve later blank (record { asked = λ i. serve blank }) (λ i. later blank))
  where
    later : Seen → Rules.Effect
    later v = Rules.says v (acted_reply a.1.1.0 a.1.1.1.0 (a.1.1.1.1.0.now ++ a.1.1.1.1.1.0.now))

    serve : Seen → Served
    serve v = asked_of a.0 v (later v)
