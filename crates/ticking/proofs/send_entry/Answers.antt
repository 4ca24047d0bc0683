use Rattle.std.proofs.Common.{refl}
use Rattle.uds.specs.Result.{number_of}
use Rattle.uds.specs.Values.{table_of}
use Rattle.uds.proofs.Refusals.{no_zero}
use Rattle.periodic.specs.View.{entry_of}
use Rattle.ticking.proofs.Walk.{part_of, value-error, frame_met, frame-sent}
use Rattle.ticking.proofs.send_entry.Goals as goal

pub returns-in-Err-clause-goes : goal.returns-in-Err-clause-goes
returns-in-Err-clause-goes c = let a = c.args in
    let o = a.outbox.now in
    value-error a.subs.now a.i o.count o.heads.now o.room.now a.t.0 (table_of a.values.now a.pool.now) (entry_of c.entry_at-e.result) c.entry_at-e.ensures c.in-Err.err c.in-Err.ensures.says

pub returns-in-Err-send_value-clause-goes : goal.returns-in-Err-send_value-clause-goes
returns-in-Err-send_value-clause-goes c = let a = c.args in
    let o = a.outbox.now in
    let s = c.in-Ok.place in
    let n = c.send_value.new.outbox in
    frame_met a.subs.now a.i o.count o.heads.now o.room.now a.t.0 (table_of a.values.now a.pool.now) (entry_of c.entry_at-e.result) c.entry_at-e.ensures _ (part_of a.pool.now s.start s.len _ c.in-Ok.ensures.says)
    (number_of c.in-Err-send_value.why) n.count n.heads.now n.room.now c.in-Err-send_value.ensures.step (no_zero c.in-Err-send_value.why refl)

pub returns-in-Ok-send_value-clause-goes : goal.returns-in-Ok-send_value-clause-goes
returns-in-Ok-send_value-clause-goes c = let a = c.args in
    let o = a.outbox.now in
    let s = c.in-Ok.place in
    let n = c.send_value.new.outbox in
    frame-sent a.subs.now a.i o.count o.heads.now o.room.now a.t.0 (table_of a.values.now a.pool.now) (entry_of c.entry_at-e.result) c.entry_at-e.ensures _ (part_of a.pool.now s.start s.len _ c.in-Ok.ensures.says)
    0 n.count n.heads.now n.room.now c.in-Ok-send_value.ensures.step c.advance.new.subs a.count refl c.requires.0 c.requires.1 c.advance.ensures
