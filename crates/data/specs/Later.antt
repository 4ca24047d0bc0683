-- What comes of the outcome of an act: the definition's effect, where the act is asked.
use Rattle.model.specs.Values.{outcome}
use Rattle.model.specs.Service.{Seen, Effect, acted}
use Rattle.model.specs.Service2E.{written}

abbrev pub later2E : Seen → Effect
later2E v = acted v (written v) (outcome v.limit v.given)
