use Rattle.std.proofs.Common.{[], ◌∙◌}
use Rattle.std.proofs.lemmas.Result.{err_from_is_err_and}
use Rattle.service.proofs.Settled.{blank}
use Rattle.data.proofs.Laws22.{onwards, ends}
use Rattle.data.proofs.service22.read_all.Goals as goal

pub returns-in_err-len : goal.returns-in_err-len
returns-in_err-len c =
    let l = c.loop-id in
    let cut = c.in-Some.ensures.steps.1 in
    let p = err_from_is_err_and c.from_residual.result c.from_residual.ensures.1 in
    λ v payload.
    let one = c.in_err-len.ensures v payload in
    rw (p.1, p.2) (record { reading = ends _ _ _ _ (l.invariant.2 v payload) _ _ cut.0 (cut.1 ∙ l.invariant.0) _ one.reading; unseen = λ heads. one.unseen heads ∙ l.invariant.1 heads })

pub loop-id-preserved : goal.loop-id-preserved
loop-id-preserved c =
    let l = c.loop-id in
    let cut = c.in-Some.ensures.steps.1 in
    let one = c.in_ok-len.ensures in
    (c.in-Some.ensures.steps.0 ∙ l.invariant.0, λ heads. (one blank []).unseen heads ∙ l.invariant.1 heads, λ v payload. onwards _ _ _ _ (l.invariant.2 v payload) _ _ cut.0 (cut.1 ∙ l.invariant.0) _ (one v payload).reading)
