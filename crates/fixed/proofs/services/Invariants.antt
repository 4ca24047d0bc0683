-- The loop's invariant: what is left, added to what is built so far, is the whole.
use Rattle.std.proofs.Common.{drop, ◌≡◌}
use Rattle.config.specs.View.{config_of}
use Rattle.fixed.specs.Steps.{add_services}
use Rattle.fixed.proofs.services.Given as goal

abbrev pub invariant-loop-id : goal.invariant-loop-id
invariant-loop-id l = add_services (config_of l.config) (drop l.id-index l.ids) ≡ add_services (config_of l.initial.config) l.ids
