-- What every call with a time asks first.
use Rattle.std.specs.Prelude.{ℕ, Bool, nat_le}
use Rattle.model.specs.Tests.{pick}
use Rattle.model.specs.Numbers.{Moment, max_time}

-- 10 where the state is not valid, then 6 where the time is above 2^48; else 0
unfoldable pub barring : Bool → Moment → ℕ
barring valid t = pick valid (pick (nat_le t max_time) 0 6) 10
