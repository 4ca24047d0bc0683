-- The invariant: the answer is that of the rows that are left, and the place is theirs.
use Rattle.std.proofs.Common.{◌*◌, ◌+◌, ◌-◌, ◌≡◌}
use Rattle.uds.specs.Table.{tab, column, is_key, key_place}
use Rattle.uds.proofs.Tab.{place_from}
use Rattle.uds.proofs.table.Column.walk.Given as goal

abbrev pub invariant-loop-i : goal.invariant-loop-i
invariant-loop-i l = (l.at ≡ l.self.from + l.i * l.self.step) × (key_place l.words l.self.from l.self.step l.rows l.key ≡ place_from (is_key l.key) (tab (column l.words l.self.from l.self.step) l.i (l.rows - l.i)) l.i)
