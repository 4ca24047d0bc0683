-- A span on the clock: where it starts and where it ends.
use Prim.Native.Nat.{◌+◌, ◌^◌, ◌≤◌, ◌<◌}
use mathlib.Core.Path.{◌≡◌}
use native.Mathlib.Omega.{arith}
use Rattle.model.specs.Numbers.{Moment, Span}
use Rattle.uds.specs.Clock.{last_moment, later, starts}

-- it ends a span later than it starts
pub in_time : (t : Moment) (d : Span) (end : Moment) → d < 2 ^ 64 → end ≡ later t d → end ≡ starts t d + d
in_time t d end fits late = omega arith

-- one that ends on the clock starts where it starts
pub on_the_clock : (t : Moment) (d : Span) → t + d ≤ last_moment → starts t d ≡ t
on_the_clock t d h = omega arith
