-- What a service sees, which act it asks, and what it wants: an effect, which one function carries out.
use Rattle.std.specs.Prelude.{ℕ, Bool, false, List, [], nat_eq}
use Rattle.model.specs.Tests.{pick}
use Rattle.model.specs.Numbers.{Moment}
use Rattle.model.specs.Config.{Config}
use Rattle.model.specs.Values.{Outcome, bytes, error, Given, Table}
use Rattle.model.specs.State.{Session, Security, Subscription, State, Step, step, with_records}
use Rattle.model.specs.Queue.{Reply, negative}
use Rattle.model.specs.Reply.{refusal, replied}

-- what a service sees: the frame limit, the configuration, the three records that it may change, and the request
pub record Seen : Type 0 where
  pub limit : ℕ
  pub config : Config
  pub session : Session
  pub security : Security
  pub periodic : List Subscription
  pub now : Moment
  pub src : ℕ
  pub payload : List ℕ
  pub given : Given
  pub table : Table

-- a part of the frame, by start and length: 0 and 0 when it is empty
pub record Part : Type 0 where
  pub start : ℕ
  pub len : ℕ

unfoldable pub part : ℕ → ℕ → Part
part start len = pick (nat_eq len 0) (record { start = 0; len = 0 }) (record { start = start; len = len })

-- the act that a request asks: its number is the service byte, 0 for none, and its arguments are parts of the frame in frame order
pub record Act : Type 0 where
  pub number : ℕ
  pub arguments : List Part

abbrev pub no_act : Act
no_act = record { number = 0; arguments = [] }

-- what a service wants: the three records as they are to be, the reply, and whether the change waits until the reply is queued
pub record Effect : Type 0 where
  pub session : Session
  pub security : Security
  pub periodic : List Subscription
  pub reply : Reply
  pub waits : Bool

-- a reply, and nothing changed
abbrev pub says : Seen → Reply → Effect
says v r = record { session = v.session; security = v.security; periodic = v.periodic; reply = r; waits = false }

-- a reply, and another security record
abbrev pub secures : Seen → Security → Reply → Effect
secures v k r = record { session = v.session; security = k; periodic = v.periodic; reply = r; waits = false }

-- a reply, and another table of subscriptions
abbrev pub schedules : Seen → List Subscription → Reply → Effect
schedules v t r = record { session = v.session; security = v.security; periodic = t; reply = r; waits = false }

-- a service's answer: the act that it asks and, with that act's outcome, its effect
pub record Served : Type 0 where
  pub act : Act
  pub effect : Effect

-- answered before any act
abbrev pub answers : Effect → Served
answers e = record { act = no_act; effect = e }

-- refused before any act
abbrev pub refuses : Seen → ℕ → Served
refuses v code = answers (says v (negative code))

-- an act asked
abbrev pub asks : ℕ → List Part → Effect → Served
asks sid ps e = record { act = record { number = sid; arguments = ps }; effect = e }

-- an act's bytes make the reply; an error byte from an act is sent as the negative code
unfoldable pub acted : Seen → (List ℕ → Reply) → Outcome → Effect
acted v k (bytes b) = says v (k b)
acted v k (error code) = says v (refusal code)

-- the three records of an effect, taken into the state
abbrev pub changed : State → Effect → State
changed s e = with_records s e.session e.security e.periodic

-- a change that waits is not made where the reply met a result other than 0
unfoldable pub changed_after : Effect → Step → Step
changed_after e p = pick (nat_eq p.result 0) (step 0 (changed p.state e)) p

-- an effect carried out: the change and then the reply, or the reply and then the change
unfoldable pub apply : ℕ → State → ℕ → ℕ → Moment → Effect → Step
apply limit s to sid now e =
    pick e.waits (changed_after e (replied limit s to sid now e.reply)) (replied limit (changed s e) to sid now e.reply)
