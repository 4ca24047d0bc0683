use Rattle.std.proofs.Common.{arith, sym, ◌∙◌}
use Rattle.model.specs.Service2A.{is_subscription}
use Rattle.periodic.specs.View.{entry_at}
use Rattle.periodic.proofs.Without.{passed_over, moved_up}
use Rattle.periodic.proofs.cancel.Goals as goal
use Rattle.periodic.proofs.cancel.Goals.{then-not-is_subscription, else-not-is_subscription}

pub loop-i-preserved : goal.loop-i-preserved
loop-i-preserved c = let a = c.args in
    let l = c.loop-i in
    let p = is_subscription a.identifier a.client in
    elim c.if-not-is_subscription.branch [
      | then-not-is_subscription w ↦
          (let puts = rw w.from.ensures at w.put.ensures in
          rw (w.kept-is, w.subs-is) (omega arith, moved_up p (entry_at l.subs) a.count l.kept l.i _ l.invariant.1 (omega arith) (entry_at w.put.new.subs) l.invariant.0 (sym c.is_subscription.ensures ∙ w.if-not-is_subscription.true) (puts.here ∙ w.entry_at-e.ensures) puts.others))
      | else-not-is_subscription w ↦
          rw (w.kept-is, w.subs-is) (omega arith, passed_over p (entry_at l.subs) a.count l.kept l.i _ l.invariant.1 (omega arith) (sym c.is_subscription.ensures ∙ w.if-not-is_subscription.false))
    ]
