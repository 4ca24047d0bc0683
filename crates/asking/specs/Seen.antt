-- What a question hands of all that a service may see.
use Rattle.std.specs.Prelude.{ℕ, List}
use Rattle.model.specs.Numbers.{Moment, max_frame}
use Rattle.model.specs.Service.{Seen}
use Rattle.config.specs.View.{config_of}
use Rattle.security.specs.View.{security_of}
use Rattle.service.specs.declared.Request.{Request}

-- the subscriptions, who asks, the outcome and the value table are those of any `v`
abbrev pub seen_by : List ℕ → ℕ → ℕ → Moment → List ℕ → List ℕ → Seen → Seen
seen_by config session level t payload k v = record {
  limit = max_frame;
  config = config_of config;
  session = record { session_type = session; level = level; last_rx = t };
  security = security_of k;
  periodic = v.periodic;
  now = t;
  src = v.src;
  payload = payload;
  given = v.given;
  table = v.table;
}

-- the same of a request, with the security record that stands beside it
abbrev pub asked_in : Request → List ℕ → Seen → Seen
asked_in r k v = seen_by r.config.now r.session r.level r.t.0 r.payload.now k v
