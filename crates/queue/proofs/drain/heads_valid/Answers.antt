use Rattle.std.proofs.Common.{ap, arith, inl, inr, sym, ◌∙◌}
use Rattle.model.specs.Tests.{all}
use Rattle.model.specs.Numbers.{max_frame}
use Rattle.model.specs.State.{frame_valid}
use Rattle.uds.proofs.Tab.{tab-all, broken, still}
use Rattle.queue.specs.View.{frame_at}
use Rattle.queue.proofs.Records.{frame_empty, frame-long, frame_right, too_many, few_enough}
use Rattle.queue.proofs.drain.heads_valid.Goals as goal

pub returns-then-count-gt-OUTBOX : goal.returns-then-count-gt-OUTBOX
returns-then-count-gt-OUTBOX c = λ room z. too_many c.args.count c.args.heads.now room c.if-count-gt-OUTBOX.true

pub loop-i-init : goal.loop-i-init
loop-i-init c =
    let a = c.args in
    λ room z. sym (few_enough a.count a.heads.now room c.if-count-gt-OUTBOX.false) ∙ ap (all (frame_valid max_frame)) (tab-all (frame_at a.heads.now room) a.count)

pub returns-then-len-eq0 : goal.returns-then-len-eq0
returns-then-len-eq0 c =
    let a = c.args in
    let l = c.loop-i in
    λ room z. broken (frame_at a.heads.now room) (frame_valid max_frame) a.count l.i _ (l.invariant room z) (omega arith) (elim c.then-len-eq0.either [
      | inl e ↦ frame_empty a.heads.now room z l.i (omega arith) (omega arith)
      | inr e ↦ frame-long a.heads.now room z l.i (omega arith) (omega arith)
    ])

pub loop-i-preserved : goal.loop-i-preserved
loop-i-preserved c =
    let a = c.args in
    let l = c.loop-i in
    λ room z. still (frame_at a.heads.now room) (frame_valid max_frame) a.count l.i _ (l.invariant room z) (omega arith) (frame_right a.heads.now room z l.i (omega arith) (omega arith) (omega arith))
