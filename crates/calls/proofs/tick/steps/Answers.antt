use Rattle.std.proofs.Common.{ap, refl, sym, ◌∙◌, ◌≡◌}
use Rattle.uds.specs.Result.{result_of}
use Rattle.uds.specs.Values.{table_of}
use Rattle.uds.proofs.Refusals.{told_no_other, no_zero}
use Rattle.ticking.specs.View.{Sent, Refreshes, Sends}
use Rattle.calls.proofs.Ticks.{ends_3, goes_on}
use Rattle.calls.proofs.tick.steps.Goals as goal

pub returns-in-Err-clause-ticks : goal.returns-in-Err-clause-ticks
returns-in-Err-clause-ticks c = let a = c.args in
    let o = a.outbox.now in
    let n = c.refreshed-said.new.outbox in
    let told : c.from.result ≡ result_of c.refreshed-said.result.done = c.from.ensures ∙ sym (ap result_of c.in-Err.is) in
    let q : Refreshes a.config.now c.s3-session.result.session_type a.s.pending a.s.frames o.heads.now o.room.now a.t.0 c.refreshed-said.result.pending c.from.result n.count n.heads.now n.room.now = rw (c.requires.0, told) c.refreshed-said.ensures.refreshes in
    ends_3 a.config.now a.s a.k.now a.subs.now o.heads.now o.room.now a.t.0 a.values.now a.pool.now 0 c.requires.1 refl c.s3-session.result c.s3-session.new.k c.s3-session.ensures c.refreshed-said.result.pending c.from.result n.count n.heads.now n.room.now q (no_zero c.in-Err.why c.from.ensures)

pub returns-in-Ok-clause-ticks : goal.returns-in-Ok-clause-ticks
returns-in-Ok-clause-ticks c = let a = c.args in
    let o = a.outbox.now in
    let n = c.refreshed-said.new.outbox in
    let m = c.send_due.new.outbox in
    let q : Refreshes a.config.now c.s3-session.result.session_type a.s.pending a.s.frames o.heads.now o.room.now a.t.0 c.refreshed-said.result.pending (result_of c.refreshed-said.result.done) n.count n.heads.now n.room.now = rw c.requires.0 c.refreshed-said.ensures.refreshes in
    let sent : Sent = record { frames = m.count; result = 0; err = 0 } in
    goes_on a.config.now a.s a.k.now a.subs.now o.heads.now o.room.now a.t.0 a.values.now a.pool.now 0 c.requires.1 refl c.s3-session.result c.s3-session.new.k c.s3-session.ensures c.refreshed-said.result.pending (result_of c.refreshed-said.result.done) n.count n.heads.now n.room.now q
    sent c.send_due.new.subs m.heads.now m.room.now (sym (told_no_other c.refreshed-said.result.done c.in_default.not-Err refl)) c.in-Ok.ensures.sends

pub returns-in-Err-send_due-clause-ticks : goal.returns-in-Err-send_due-clause-ticks
returns-in-Err-send_due-clause-ticks c = let a = c.args in
    let o = a.outbox.now in
    let n = c.refreshed-said.new.outbox in
    let m = c.send_due.new.outbox in
    let q : Refreshes a.config.now c.s3-session.result.session_type a.s.pending a.s.frames o.heads.now o.room.now a.t.0 c.refreshed-said.result.pending (result_of c.refreshed-said.result.done) n.count n.heads.now n.room.now = rw c.requires.0 c.refreshed-said.ensures.refreshes in
    let sent : Sent = record { frames = m.count; result = c.from-in-Err-send_due.result; err = c.in-Err-send_due.unsent.err } in
    let d : Sends a.subs.now a.s.subscriptions n.count n.heads.now n.room.now a.t.0 (table_of a.values.now a.pool.now) sent c.send_due.new.subs m.heads.now m.room.now = rw c.from-in-Err-send_due.ensures c.in-Err-send_due.ensures.sends in
    goes_on a.config.now a.s a.k.now a.subs.now o.heads.now o.room.now a.t.0 a.values.now a.pool.now 0 c.requires.1 refl c.s3-session.result c.s3-session.new.k c.s3-session.ensures c.refreshed-said.result.pending (result_of c.refreshed-said.result.done) n.count n.heads.now n.room.now q
    sent c.send_due.new.subs m.heads.now m.room.now (sym (told_no_other c.refreshed-said.result.done c.in_default.not-Err refl)) d
