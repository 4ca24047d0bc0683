-- All that a service may see, of the numbers and of what is lent.
use Rattle.std.specs.Prelude.{ℕ, List}
use Rattle.model.specs.Numbers.{Moment, max_frame}
use Rattle.model.specs.Service.{Seen}
use Rattle.uds.specs.Values as Values
use Rattle.config.specs.View.{config_of}
use Rattle.periodic.specs.View.{table_of}
use Rattle.security.specs.View.{security_of}
use Rattle.service.specs.declared.Request.{Request}

abbrev pub seen_of : List ℕ → ℕ → ℕ → ℕ → ℕ → Moment → List ℕ → ℕ → List ℕ → List ℕ → List ℕ → List ℕ → List ℕ → Seen
seen_of config session level subscriptions src t payload err given values pool k subs = record {
  limit = max_frame;
  config = config_of config;
  session = record { session_type = session; level = level; last_rx = t };
  security = security_of k;
  periodic = table_of subscriptions subs;
  now = t;
  src = src;
  payload = payload;
  given = record { err = err; bytes = given };
  table = Values.table_of values pool;
}

-- the same of a request, with the security record and the subscriptions that stand beside it
abbrev pub seen_in : Request → List ℕ → List ℕ → Seen
seen_in r k subs = seen_of r.config.now r.session r.level r.subscriptions r.src r.t.0 r.payload.now r.err r.given.now r.values.now r.pool.now k subs
