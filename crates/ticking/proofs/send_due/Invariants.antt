use Rattle.std.proofs.Common.{◌≡◌}
use Rattle.uds.specs.Values.{table_of}
use Rattle.ticking.proofs.Walk.{Walks}
use Rattle.ticking.proofs.send_due.Given as goal

abbrev pub invariant-loop-i : goal.invariant-loop-i
invariant-loop-i l =
    let o = l.initial.outbox in
    (l.outbox.heads.ghost_name ≡ o.heads.ghost_name) × (l.outbox.room.ghost_name ≡ o.room.ghost_name)
    × Walks l.initial.subs l.count o.count o.heads.now o.room.now l.t.0 (table_of l.values l.pool) l.i l.subs l.outbox.count l.outbox.heads.now l.outbox.room.now
