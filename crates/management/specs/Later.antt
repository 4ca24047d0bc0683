-- What comes of the outcome of an act, service by service: the definition's effect, where the act is asked.
use Rattle.model.specs.Values.{outcome}
use Rattle.model.specs.Service.{Seen, Effect, acted}
use Rattle.model.specs.Service11.{reset}
use Rattle.model.specs.Service28.{communication}

abbrev pub later11 : Seen → Effect
later11 v = reset v (outcome v.limit v.given)

abbrev pub later28 : Seen → Effect
later28 v = acted v (communication v) (outcome v.limit v.given)
