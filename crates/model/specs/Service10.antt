-- 10 diagnosticSessionControl: opens a session.
use Rattle.std.specs.Prelude.{ℕ, ◌/◌, false, List, ◌∷◌, ◌++◌, length, nat_lt}
use Rattle.std.proofs.Math.Option.{Option, some, none}
use Rattle.model.specs.Tests.{pick}
use Rattle.model.specs.Config.{SessionConfig, find_session, p2_of, p2_ext_of}
use Rattle.model.specs.Frame.{suppressed, sub_function, two_bytes}
use Rattle.model.specs.State.{opened, cleared}
use Rattle.model.specs.Queue.{Reply, silent, positive}
use Rattle.model.specs.Service.{Seen, Effect, Served, answers, refuses}

-- the session, P2, and a tenth of P2*, each as its low 16 bits, high byte first
abbrev pub timings : ℕ → Option SessionConfig → List ℕ
timings x row = x ∷ (two_bytes (p2_of row) ++ two_bytes (p2_ext_of row / 10))

-- the session set, no level held, the seed cleared
abbrev pub opens : Seen → ℕ → Reply → Effect
opens v x r = record { session = opened v.session x; security = cleared v.security; periodic = v.periodic; reply = r; waits = false }

-- an unknown session is 0x12
unfoldable pub session_control : Seen → ℕ → Option SessionConfig → Served
session_control v x none = refuses v 0x12
session_control v x (some row) = answers (opens v x (pick (suppressed v.payload) silent (positive (timings x (some row)))))

-- absent is short
unfoldable pub service10 : Seen → Served
service10 v =
    pick (nat_lt (length v.payload) 1) (refuses v 0x13) (session_control v (sub_function v.payload) (find_session v.config (sub_function v.payload)))
