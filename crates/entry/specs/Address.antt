-- Whom a frame is for, in the definition's words.
use Rattle.std.specs.Prelude.{Option as Maybe, Some, None}
use Rattle.std.specs.Prelude.{Bool}
use Rattle.std.proofs.Math.Option.{Option, some, none}
use Rattle.model.specs.State.{AddressMode}
use Rattle.queue.specs.View.{mode_of}

-- functionally or not, or none where it is for another
abbrev pub addressed_of : Maybe Bool → Option AddressMode
addressed_of (Some functional) = some (mode_of functional)
addressed_of None = none
