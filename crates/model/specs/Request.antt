-- Request path. The order is: 10; 6; address test; last_rx; busy; 2; service; session; service rule.
use Rattle.std.specs.Prelude.{ℕ, Bool, ◌&&◌, List, length, nat_eq, nat_le}
use Rattle.std.proofs.Math.Option.{Option, some, none}
use Rattle.model.specs.Tests.{pick}
use Rattle.model.specs.Numbers.{Moment, max_request, max_time}
use Rattle.model.specs.Config.{Config, ServiceConfig, find_service, allowed_in}
use Rattle.model.specs.Values.{Given, Table}
use Rattle.model.specs.Frame.{sid_of, payload_of, negative_frame}
use Rattle.model.specs.State.{AddressMode, physical, functional, PendingRequest, State, Step, step, valid, received}
use Rattle.model.specs.Reply.{queued}
use Rattle.model.specs.Service.{Seen, Act, no_act, Served, refuses, apply}
use Rattle.model.specs.Service3E.{service3E}
use Rattle.model.specs.Service10.{service10}
use Rattle.model.specs.Service11.{service11}
use Rattle.model.specs.Service27.{service27}
use Rattle.model.specs.Service22.{service22}
use Rattle.model.specs.Service2E.{service2E}
use Rattle.model.specs.Service2A.{service2A}
use Rattle.model.specs.Service31.{service31}
use Rattle.model.specs.Service28.{service28}
use Rattle.model.specs.Service2F.{service2F}
use Rattle.model.specs.Service34.{service34}
use Rattle.model.specs.Service36.{service36}
use Rattle.model.specs.Service37.{service37}
use Rattle.model.specs.Service38.{service38}

-- a frame that comes in: when, from whom, to whom
pub record Inbound : Type 0 where
  pub time : Moment
  pub src : ℕ
  pub dst : ℕ
  pub frame : List ℕ

-- a request: the frame, what is handed in for its act, and the value table
pub record Request : Type 0 where
  pub inbound : Inbound
  pub given : Given
  pub table : Table

-- a request's answer: the act that it asks, the result and the state
pub record Answer : Type 0 where
  pub act : Act
  pub step : Step

-- answered with no act
abbrev pub plain : Step → Answer
plain p = record { act = no_act; step = p }

-- what a service sees of a state and a request
abbrev pub seen : ℕ → State → Request → Seen
seen limit s r = record {
  limit = limit;
  config = s.config;
  session = s.session;
  security = s.security;
  periodic = s.periodic;
  now = r.inbound.time;
  src = r.inbound.src;
  payload = payload_of r.inbound.frame;
  given = r.given;
  table = r.table;
}

-- the fourteen services; a configured service outside them is 0x11
unfoldable pub service : ℕ → Seen → Served
service sid v =
    pick (nat_eq sid 0x3E) (service3E v)
    (pick (nat_eq sid 0x10) (service10 v)
    (pick (nat_eq sid 0x11) (service11 v)
    (pick (nat_eq sid 0x27) (service27 v)
    (pick (nat_eq sid 0x22) (service22 v)
    (pick (nat_eq sid 0x2E) (service2E v)
    (pick (nat_eq sid 0x2A) (service2A v)
    (pick (nat_eq sid 0x31) (service31 v)
    (pick (nat_eq sid 0x28) (service28 v)
    (pick (nat_eq sid 0x2F) (service2F v)
    (pick (nat_eq sid 0x34) (service34 v)
    (pick (nat_eq sid 0x36) (service36 v)
    (pick (nat_eq sid 0x37) (service37 v)
    (pick (nat_eq sid 0x38) (service38 v)
    (refuses v 0x11))))))))))))))

-- no service row: 0x11; the session not in its list: 0x7F
unfoldable pub guarded : ℕ → Seen → Option ServiceConfig → Served
guarded sid v none = refuses v 0x11
guarded sid v (some row) = pick (allowed_in v.session.session_type row) (service sid v) (refuses v 0x7F)

-- what the frame's service answers
abbrev pub served : ℕ → State → Request → Served
served limit s r = guarded (sid_of r.inbound.frame) (seen limit s r) (find_service s.config (sid_of r.inbound.frame))

-- a service's effect carried out, the reply going to the frame's source
abbrev pub carried : ℕ → State → Inbound → Served → Answer
carried limit s i a = record { act = a.act; step = apply limit s i.src (sid_of i.frame) i.time a.effect }

-- a frame's length is neither 0 nor above 4095
abbrev pub length_fits : List ℕ → Bool
length_fits f = nat_le 1 (length f) && nat_le (length f) max_request

-- with a request pending: 7F, first byte (0 if none), 21, queued to the frame's dst; else 2 where the length does not fit
unfoldable pub heard : ℕ → State → Request → Option PendingRequest → Answer
heard limit s r (some p) = plain (queued s r.inbound.dst (negative_frame (sid_of r.inbound.frame) 0x21))
heard limit s r none = pick (length_fits r.inbound.frame) (carried limit s r.inbound (served limit s r)) (plain (step 2 s))

-- dst equal to the physical address: physical; else equal to the functional one: functional; else foreign
unfoldable pub addressed : Config → ℕ → Option AddressMode
addressed c dst = pick (nat_eq dst c.physical) (some physical) (pick (nat_eq dst c.functional) (some functional) none)

-- a foreign frame is done, nothing changed; else the address mode is set and last_rx becomes now, also if the clock went back
unfoldable pub routed : ℕ → State → Request → Option AddressMode → Answer
routed limit s r none = plain (step 0 s)
routed limit s r (some m) = heard limit (received s m r.inbound.time) r s.pending

-- 10 comes first, then 6
unfoldable pub request : ℕ → State → Request → Answer
request limit s r =
    pick (valid limit s)
    (pick (nat_le r.inbound.time max_time) (routed limit s r (addressed s.config r.inbound.dst)) (plain (step 6 s)))
    (plain (step 10 s))
