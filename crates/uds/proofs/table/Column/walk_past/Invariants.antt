-- The invariant: the answer is that of the rows that are left.
use Rattle.std.proofs.Common.{◌-◌, ◌≡◌}
use Rattle.uds.specs.Table.{tab, column, is_key, key_place}
use Rattle.uds.proofs.Tab.{place_from}
use Rattle.uds.proofs.table.Column.walk_past.Given as goal

abbrev pub invariant-loop-row : goal.invariant-loop-row
invariant-loop-row l = key_place l.words l.self.from l.self.step l.rows l.key ≡ place_from (is_key l.key) (tab (column l.words l.self.from l.self.step) l.row (l.rows - l.row)) l.row
