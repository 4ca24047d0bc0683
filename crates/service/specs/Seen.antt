-- What a service sees of the numbers and of what is lent, and what its answer means. A service is lent a request and reads only a part of it: its promise is for
-- every `v`, with that part in its place.
use Rattle.std.specs.Prelude.{ℕ, ◌≡◌, true, false, List}
use Rattle.model.specs.Numbers.{Moment, max_frame}
use Rattle.model.specs.Queue as Queue
use Rattle.model.specs.Service.{Seen, Served, says}
use Rattle.uds.specs.Values as Values
use Rattle.config.specs.View.{config_of}
use Rattle.periodic.specs.View.{table_of}
use Rattle.security.specs.View.{security_of}
use Rattle.queue.specs.View.{Unseen, reply_of}
use Rattle.queue.specs.declared.reply.Reply.{Reply}
use Rattle.state.specs.View.{effect_of}
use Rattle.state.specs.declared.apply.Effect.{Effect}
use Rattle.service.specs.Fitted.{fitted_reply, fitted}
use Rattle.service.specs.Act.{act_of}
use Rattle.service.specs.declared.Spoken.{Spoken}
use Rattle.service.specs.declared.Wanted.{Wanted}

-- the request's payload, under the frame limit
abbrev pub asking : List ℕ → Seen → Seen
asking payload v = record { limit = max_frame; config = v.config; session = v.session; security = v.security; periodic = v.periodic; now = v.now; src = v.src; payload = payload; given = v.given; table = v.table }

-- what is handed in for an act: an error byte and bytes
abbrev pub handed : ℕ → List ℕ → Seen → Seen
handed err bytes v = record {
  limit = v.limit;
  config = v.config;
  session = v.session;
  security = v.security;
  periodic = v.periodic;
  now = v.now;
  src = v.src;
  payload = v.payload;
  given = record { err = err; bytes = bytes };
  table = v.table;
}

-- the configuration
abbrev pub configured : List ℕ → Seen → Seen
configured config v = record { limit = v.limit; config = config_of config; session = v.session; security = v.security; periodic = v.periodic; now = v.now; src = v.src; payload = v.payload; given = v.given; table = v.table }

-- the session and the held level, of a request that was received now
abbrev pub in_session : ℕ → ℕ → Seen → Seen
in_session session level v = record {
  limit = v.limit;
  config = v.config;
  session = record { session_type = session; level = level; last_rx = v.now };
  security = v.security;
  periodic = v.periodic;
  now = v.now;
  src = v.src;
  payload = v.payload;
  given = v.given;
  table = v.table;
}

-- when, and from whom
abbrev pub received_at : Moment → Seen → Seen
received_at t v = record { limit = v.limit; config = v.config; session = v.session; security = v.security; periodic = v.periodic; now = t; src = v.src; payload = v.payload; given = v.given; table = v.table }

abbrev pub received_from : ℕ → Seen → Seen
received_from src v = record { limit = v.limit; config = v.config; session = v.session; security = v.security; periodic = v.periodic; now = v.now; src = src; payload = v.payload; given = v.given; table = v.table }

-- the security record, the subscriptions, the value table
abbrev pub secured : List ℕ → Seen → Seen
secured k v = record { limit = v.limit; config = v.config; session = v.session; security = security_of k; periodic = v.periodic; now = v.now; src = v.src; payload = v.payload; given = v.given; table = v.table }

abbrev pub subscribed : ℕ → List ℕ → Seen → Seen
subscribed n subs v = record { limit = v.limit; config = v.config; session = v.session; security = v.security; periodic = table_of n subs; now = v.now; src = v.src; payload = v.payload; given = v.given; table = v.table }

abbrev pub valued : List ℕ → List ℕ → Seen → Seen
valued values pool v = record { limit = v.limit; config = v.config; session = v.session; security = v.security; periodic = v.periodic; now = v.now; src = v.src; payload = v.payload; given = v.given; table = Values.table_of values pool }

-- a reply is what it should be: it is made in the free place, which nothing shows yet
pub record Replies (should : Queue.Reply) (frames : ℕ) (room : List ℕ) (r : Reply) (room' : List ℕ) : Type 0 where
  pub reply : reply_of r frames room' ≡ fitted_reply max_frame should
  pub unseen : Unseen frames room room'

-- a service that only speaks: the act that it asks, and its reply
pub record Speaks (f : Seen → Served) (v : Seen) (frames : ℕ) (room : List ℕ) (r : Spoken) (room' : List ℕ) : Type 0 where
  pub served : fitted max_frame (f v) ≡ record { act = act_of r.act; effect = says v (reply_of r.reply frames room') }
  pub unseen : Unseen frames room room'

-- a service with an effect, of the lent words as it leaves them; one whose change waits leaves them as they were
pub record Serves (f : Seen → Served) (v : Seen) (k subs : List ℕ) (frames : ℕ) (room : List ℕ) (r : Wanted) (k' subs' room' : List ℕ) : Type 0 where
  pub served : fitted max_frame (f v) ≡ record { act = act_of r.act; effect = effect_of r.effect v.now k' subs' frames room' }
  pub unseen : Unseen frames room room'
  pub kept : r.effect.waits ≡ true → (k' ≡ k) × (subs' ≡ subs)

-- a reply, and nothing changed
abbrev pub says_of : ℕ → ℕ → ℕ → Reply → Effect
says_of session level subscriptions reply = record { reply = reply; session = session; level = level; subscriptions = subscriptions; clears_seed = false; waits = false }
