-- Nothing else meets the promises: two answers that meet one are the same.
use mathlib.Core.Path.{◌≡◌}
use Rattle.uds.proofs.Promise.{Settles, Answer}
use Rattle.uds.proofs.Settled.{said}
use Rattle.uds.proofs.Refusals.{same_result}
use Rattle.entry.specs.Address.{addressed_of}
use Rattle.entry.proofs.addressed.Reads as addressed
use Rattle.entry.proofs.barred.Reads as barred
use Rattle.entry.proofs.misfits.Reads as misfits

pub barred_settled : (κs : _) (a : _) → Settles (barred.Post κs a) Answer
barred_settled κs a x e y f p q = same_result (said p q)

pub addressed_settled : (κs : _) (a : _) → Settles (addressed.Post κs a) (λ x e y f. addressed_of x ≡ addressed_of y)
addressed_settled κs a x e y f p q = said p q

pub misfits_settled : (κs : _) (a : _) → Settles (misfits.Post κs a) Answer
misfits_settled κs a x e y f p q = said p q
