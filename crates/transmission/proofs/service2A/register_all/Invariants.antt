use Rattle.std.proofs.Common.{drop, ◌≡◌, ◌≤◌}
use Rattle.model.specs.Service2A.{register_all}
use Rattle.periodic.specs.View.{table_of}
use Rattle.transmission.specs.View2A.{Every2A}
use Rattle.transmission.proofs.service2A.register_all.Given as goal

abbrev pub invariant-loop-b : goal.invariant-loop-b
invariant-loop-b l =
    let r = l.request in
    (l.count ≤ 16) × Every2A r.config.now r.session r.src r.t.0 (λ v. register_all v l.mode l.ids (table_of r.subscriptions l.initial.subs) ≡ register_all v l.mode (drop l.b-index l.ids) (table_of l.count l.subs))
