use Rattle.std.proofs.Common.{drop, ◌≡◌, ◌≤◌}
use Rattle.model.specs.Service2A.{cancel_all}
use Rattle.periodic.specs.View.{table_of}
use Rattle.transmission.proofs.service2A.cancel_all.Given as goal

abbrev pub invariant-loop-b : goal.invariant-loop-b
invariant-loop-b l = (l.count ≤ 16) × (cancel_all l.request.src l.ids (table_of l.request.subscriptions l.initial.subs) ≡ cancel_all l.request.src (drop l.b-index l.ids) (table_of l.count l.subs))
