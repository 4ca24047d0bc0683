-- What registering and cancelling leave of the lent subscriptions, and what is said.
use Rattle.std.specs.Prelude.{ℕ, ◌≤◌, ◌≡◌, ◌&&◌, List, ◌∷◌, length, nat_le, Result, Ok, Err}
use Rattle.model.specs.Tests.{pick, without}
use Rattle.model.specs.Numbers.{Moment, max_frame, max_periodic, max_time}
use Rattle.model.specs.Frame.{periodic_did}
use Rattle.model.specs.Queue.{negative, always}
use Rattle.model.specs.Service.{Seen, Effect, Served, schedules, answers, refuses}
use Rattle.model.specs.Service2A.{is_subscription, register_all, service2A}
use Rattle.periodic.specs.View.{table_of}
use Rattle.queue.specs.View.{Unseen, reply_of}
use Rattle.service.specs.Fitted.{fitted}
use Rattle.service.specs.Seen.{asking, configured, in_session, received_at, received_from, subscribed}
use Rattle.transmission.specs.declared.service2A.Scheduled.{Scheduled}
use Rattle.transmission.specs.declared.service2A.Unregistered.{Unregistered}
use Rattle.transmission.specs.declared.service2A.Unregistered.TheVariants.{Full, Unreadable}

-- the service, but that a table of more than sixteen or a time above 2^48, which no valid call has, is refused
unfoldable pub guarded2A : Seen → Served
guarded2A v = pick (nat_le (length v.periodic) max_periodic && nat_le v.now max_time) (service2A v) (refuses v 0x22)

-- a count and a time that a valid call has
pub record Ready (count : ℕ) (t : Moment) : Type 0 where
  pub few : count ≤ max_periodic
  pub early : t ≤ max_time

-- of every request that is seen so, whatever else there is of it
abbrev pub Every2A : List ℕ → ℕ → ℕ → ℕ → (Seen → Type 0) → Type 0
Every2A config session src t P = (level : ℕ) (v : Seen) → P (in_session session level (received_at t (received_from src (configured config v))))

abbrev pub Asked2A : List ℕ → ℕ → ℕ → ℕ → ℕ → List ℕ → List ℕ → (Seen → Type 0) → Type 0
Asked2A config session src t count subs payload P = (level : ℕ) (v : Seen) → P (in_session session level (received_at t (received_from src (configured config (subscribed count subs (asking payload v))))))

-- how many subscriptions stand, or why an identifier is not registered
abbrev pub Registering : Type 0
Registering = Result ℕ Unregistered

-- what is left to do after one identifier
abbrev pub onward_of : Registering → Seen → ℕ → List ℕ → ℕ → List ℕ → Effect
onward_of (Ok n) v mode ids count subs = register_all v mode ids (table_of n subs)
onward_of (Err Full) v mode ids count subs = schedules v (table_of count subs) (always 0x31)
onward_of (Err Unreadable) v mode ids count subs = schedules v (table_of count subs) (negative 0x31)

-- how many subscriptions stand then, as many as there is room for
abbrev pub Few : Registering → Type 0
Few (Ok n) = n ≤ max_periodic
Few (Err Full) = 0 ≤ max_periodic
Few (Err Unreadable) = 0 ≤ max_periodic

pub record RegistersOne (config : List ℕ) (session count src t mode b : ℕ) (before : List ℕ) (r : Registering) (after : List ℕ) : Type 0 where
  pub onward : Every2A config session src t (λ v. (ids : List ℕ) → register_all v mode (b ∷ ids) (table_of count before) ≡ onward_of r v mode ids count after)
  pub few : Few r

pub record CancelsOne (count src b : ℕ) (before : List ℕ) (r : ℕ) (after : List ℕ) : Type 0 where
  pub table : table_of r after ≡ without (is_subscription (periodic_did b) src) (table_of count before)
  pub fewer : r ≤ count

-- what is said, and what stands then; the reply is made in the free place, which nothing shows yet
pub record Schedules (v : Seen) (should : Served) (frames : ℕ) (room : List ℕ) (r : Scheduled) (subs' room' : List ℕ) : Type 0 where
  pub scheduled : fitted max_frame should ≡ answers (schedules v (table_of r.count subs') (reply_of r.reply frames room'))
  pub unseen : Unseen frames room room'
