use Rattle.std.proofs.Common.{◌++◌, ◌-◌, ◌≡◌, ◌≤◌}
use Rattle.model.specs.Tests.{without}
use Rattle.model.specs.Service2A.{is_subscription}
use Rattle.uds.specs.Table.{tab}
use Rattle.periodic.specs.View.{entry_at, table_of}
use Rattle.periodic.proofs.cancel.Given as goal

abbrev pub invariant-loop-i : goal.invariant-loop-i
invariant-loop-i l = (l.kept ≤ l.i) × (without (is_subscription l.identifier l.client) (table_of l.count l.initial.subs) ≡ table_of l.kept l.subs ++ without (is_subscription l.identifier l.client) (tab (entry_at l.subs) l.i (l.count - l.i)))
