-- Moments and spans: what their sum is at the end of time.
use Rattle.std.specs.Prelude.{◌+◌, ◌-◌, ◌^◌, min, max}
use Rattle.model.specs.Numbers.{Moment, Span}

-- the last moment that a clock can tell
abbrev pub last_moment : Moment
last_moment = 2 ^ 64 - 1

-- a span later, and the last moment where that would be passed
abbrev pub later : Moment → Span → Moment
later t d = min (t + d) last_moment

-- a moment from which a span would pass the last moment counts as the last one from which it does not
abbrev pub starts : Moment → Span → Moment
starts t d = min t (last_moment - d)

-- the larger of two spans
abbrev pub larger : Span → Span → Span
larger a b = max a b
