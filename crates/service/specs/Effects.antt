-- What the part of a service does that carries out the outcome of its act.
use Rattle.std.specs.Prelude.{ℕ, ◌≡◌, false, List}
use Rattle.model.specs.Numbers.{Moment, max_frame}
use Rattle.model.specs.State.{unlocked}
use Rattle.model.specs.Service as Rules
use Rattle.queue.specs.View.{Unseen, reply_of}
use Rattle.queue.specs.declared.reply.Reply.{Reply}
use Rattle.queue.specs.declared.reply.Reply.TheVariants.{Negative}
use Rattle.security.specs.View.{security_of}
use Rattle.service.specs.Act.{act_of}
use Rattle.service.specs.Fitted.{fitted_effect}
use Rattle.service.specs.Seen.{says_of}
use Rattle.service.specs.declared.Wanted.{Wanted}
use Rattle.state.specs.View.{effect_of}
use Rattle.state.specs.declared.apply.Effect.{Effect}

-- the effect that is wanted, of the lent words as they are left
pub record Effects (should : Rules.Effect) (t : Moment) (k subs : List ℕ) (frames : ℕ) (room : List ℕ) (r : Effect) (room' : List ℕ) : Type 0 where
  pub effect : fitted_effect max_frame should ≡ effect_of r t k subs frames room'
  pub unseen : Unseen frames room room'

-- the same, of any session: the reply, the level that is held, and the security record as it is left
pub record Leaves (should : Rules.Effect) (v : Rules.Seen) (held frames : ℕ) (room : List ℕ) (r : Reply) (k' room' : List ℕ) : Type 0 where
  pub effect : fitted_effect max_frame should ≡ record { session = unlocked v.session held; security = security_of k'; periodic = v.periodic; reply = reply_of r frames room'; waits = false }
  pub unseen : Unseen frames room room'

-- refused before any act, and nothing changed
pub record Refuses (session level subscriptions code : ℕ) (r : Wanted) : Type 0 where
  pub effect : r.effect ≡ says_of session level subscriptions (Negative code)
  pub act : act_of r.act ≡ Rules.no_act
