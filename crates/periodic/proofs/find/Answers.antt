use Rattle.std.proofs.Common.{ap, arith, sym, ◌-◌, ◌∙◌}
use Rattle.model.specs.Tests.{place}
use Rattle.model.specs.Service2A.{is_subscription}
use Rattle.uds.specs.Table.{tab}
use Rattle.uds.proofs.Tab.{counted, tab-all, hit, miss}
use Rattle.periodic.specs.View.{entry_at}
use Rattle.periodic.proofs.find.Goals as goal

pub loop-i-init : goal.loop-i-init
loop-i-init c =
    let a = c.args in
    let f = entry_at a.subs.now in
    let p = is_subscription a.identifier a.client in
    ap (place p) (tab-all f a.count) ∙ counted p (tab f 0 (a.count - 0))

pub returns-then-is_subscription : goal.returns-then-is_subscription
returns-then-is_subscription c =
    let a = c.args in
    let l = c.loop-i in
    hit (entry_at a.subs.now) (is_subscription a.identifier a.client) a.count l.i _ l.invariant (omega arith) (sym c.is_subscription.ensures ∙ c.if-is_subscription.true)

pub loop-i-preserved : goal.loop-i-preserved
loop-i-preserved c =
    let a = c.args in
    let l = c.loop-i in
    miss (entry_at a.subs.now) (is_subscription a.identifier a.client) a.count l.i _ l.invariant (omega arith) (sym c.is_subscription.ensures ∙ c.if-is_subscription.false)
