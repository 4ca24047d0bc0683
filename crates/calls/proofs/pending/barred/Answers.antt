use Rattle.std.proofs.Common.{refl, ap, ◌≡◌, ◌∙◌}
use Rattle.std.proofs.lemmas.Result.{err_from_is_err_and}
use Rattle.uds.specs.Result.{number_of, result_of}
use Rattle.uds.proofs.Refusals.{told_done, no_zero}
use Rattle.calls.proofs.Ended.{ends-barred, ends_one, ends-none}
use Rattle.calls.proofs.pending.barred.Goals as goal

pub returns-in_err-barred : goal.returns-in_err-barred
returns-in_err-barred c = let a = c.args in
    let p = err_from_is_err_and c.from_residual.result c.from_residual.ensures.1 in
    let same : result_of c.from_residual.result ≡ number_of p.0 = ap result_of p.1 in
    ends-barred a.valid a.on a.t.0 (result_of c.from_residual.result) (same ∙ ap number_of p.2 ∙ c.in_err-barred.ensures) (no_zero p.0 same)

pub returns-then-on : goal.returns-then-on
returns-then-on c = let a = c.args in
    ends_one a.valid a.on a.t.0 0 (told_done c.in_ok-barred.was c.barred.ensures) refl c.if-on.true

pub returns-else-on : goal.returns-else-on
returns-else-on c = let a = c.args in
    ends-none a.valid a.on a.t.0 0 (told_done c.in_ok-barred.was c.barred.ensures) refl c.if-on.false
