-- The invariant: the answer is that of the entries that are left.
use Rattle.std.proofs.Common.{◌-◌, ◌≡◌}
use Rattle.model.specs.Tests.{place}
use Rattle.model.specs.Service2A.{is_subscription}
use Rattle.uds.specs.Table.{tab}
use Rattle.uds.proofs.Tab.{place_from}
use Rattle.periodic.specs.View.{entry_at, table_of}
use Rattle.periodic.proofs.find.Given as goal

abbrev pub invariant-loop-i : goal.invariant-loop-i
invariant-loop-i l = place (is_subscription l.identifier l.client) (table_of l.count l.subs) ≡ place_from (is_subscription l.identifier l.client) (tab (entry_at l.subs) l.i (l.count - l.i)) l.i
