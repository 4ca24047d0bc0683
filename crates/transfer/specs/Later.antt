-- What comes of the outcome of an act, service by service: the definition's effect, where the act is asked.
use Rattle.model.specs.Numbers.{max_download}
use Rattle.model.specs.Values.{outcome}
use Rattle.model.specs.Queue.{positive}
use Rattle.model.specs.Service.{Seen, Effect, acted}
use Rattle.model.specs.Service36.{transferred}

abbrev pub later34 : Seen → Effect
later34 v = acted v positive (outcome max_download v.given)

abbrev pub later36 : Seen → Effect
later36 v = acted v (transferred v) (outcome v.limit v.given)

abbrev pub later37 : Seen → Effect
later37 v = acted v positive (outcome v.limit v.given)

abbrev pub later38 : Seen → Effect
later38 v = acted v positive (outcome v.limit v.given)
