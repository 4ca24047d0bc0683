-- Nothing else meets the promise: two configurations that it allows are seen alike. The law is that of the builders.
use Rattle.uds.proofs.Promise.{Settles}
use Rattle.config.proofs.Settled.{SameConfig, built}
use Rattle.fixed.proofs.configuration.Reads as configuration

pub configuration_settled : (κs : _) (a : _) → Settles (configuration.Post κs a) (λ x e y f. SameConfig x y)
configuration_settled κs a x e y f p q = built x y _ p q
