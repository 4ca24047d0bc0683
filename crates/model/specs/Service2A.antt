-- 2A readDataByPeriodicIdentifier: subscriptions of the asking client. The level is not tested here.
use Rattle.std.specs.Prelude.{ℕ, ◌+◌, max, Bool, ◌&&◌, List, [], ◌∷◌, length, drop, get_or, nat_eq, nat_le, nat_lt}
use Rattle.std.proofs.Math.Option.{Option, some, none}
use Rattle.model.specs.Tests.{pick, without, enter}
use Rattle.model.specs.Numbers.{Moment, Span, max_periodic}
use Rattle.model.specs.Config.{find_did, readable, min_interval_of}
use Rattle.model.specs.Frame.{periodic_did}
use Rattle.model.specs.State.{Subscription}
use Rattle.model.specs.Queue.{positive, negative, always}
use Rattle.model.specs.Service.{Seen, Effect, Served, schedules, answers, refuses}

abbrev pub slow : Span
slow = 2000

abbrev pub medium : Span
medium = 500

abbrev pub fast : Span
fast = 50

-- 1, 2, 3 are SLOW, MEDIUM, FAST
abbrev pub rate_of : ℕ → Span
rate_of mode = pick (nat_eq mode 1) slow (pick (nat_eq mode 2) medium fast)

abbrev pub is_subscription : ℕ → ℕ → Subscription → Bool
is_subscription x client e = nat_eq e.identifier x && nat_eq e.client client

-- registering sets next to now plus interval
abbrev pub subscription : ℕ → ℕ → Span → Moment → Subscription
subscription x client interval now = record { identifier = x; client = client; interval = interval; next = now + interval }

abbrev pub renewed : Span → Moment → Subscription → Subscription
renewed interval now e = subscription e.identifier e.client interval now

-- the same identifier and client renews; another is added, if the table has room
abbrev pub register : ℕ → ℕ → Span → Moment → List Subscription → Option (List Subscription)
register x client interval now t = enter max_periodic (is_subscription x client) (renewed interval now) (subscription x client interval now) t

-- the interval is the larger of rate and minimum
abbrev pub interval_for : Seen → Span → ℕ → Span
interval_for v rate x = max rate (min_interval_of (find_did v.config x))

-- a full table sends 0x31 even after a functional request; earlier subscriptions stay
abbrev pub registered : Seen → List Subscription → Option (List Subscription) → (List Subscription → Effect) → Effect
registered v t none k = schedules v t (always 0x31)
registered v t (some u) k = k u

-- each identifier: readable or 0x31, then registered. Earlier ones stay after a refusal. The reply is the mode
abbrev pub register_all : Seen → ℕ → List ℕ → List Subscription → Effect
register_all v mode [] t = schedules v t (positive (mode ∷ []))
register_all v mode (b ∷ ids) t =
    pick (readable v.session.session_type (find_did v.config (periodic_did b)))
    (registered v t (register (periodic_did b) v.src (interval_for v (rate_of mode) (periodic_did b)) v.now t) (register_all v mode ids))
    (schedules v t (negative 0x31))

-- the listed identifiers of the asking client cancelled
abbrev pub cancel_all : ℕ → List ℕ → List Subscription → List Subscription
cancel_all client [] t = t
cancel_all client (b ∷ ids) t = cancel_all client ids (without (is_subscription (periodic_did b) client) t)

-- the first byte, unmasked: 4 cancels, 1 to 3 register, any other is 0x12
unfoldable pub transmission : Seen → ℕ → List ℕ → Served
transmission v mode ids =
    pick (nat_eq mode 4) (answers (schedules v (cancel_all v.src ids v.periodic) (positive (mode ∷ []))))
    (pick (nat_le 1 mode && nat_le mode 3) (answers (register_all v mode ids v.periodic)) (refuses v 0x12))

-- empty is short
unfoldable pub service2A : Seen → Served
service2A v = pick (nat_lt (length v.payload) 1) (refuses v 0x13) (transmission v (get_or v.payload 0 0) (drop 1 v.payload))
