use Rattle.std.proofs.Common.{arith, rules, ◌+◌, ◌-◌, ◌∙◌}
use Rattle.std.proofs.lemmas.Slice.{take-put_mid}
use Rattle.lines.proofs.Laws.{cut}
use Rattle.lines.proofs.put.Goals as goal

pub returns : goal.returns
returns c =
    let line = c.args.line.now in
    let part = c.copy_from_slice.new.self in
    let from = c.min-from.result in
    let n = c.min-n.result in
    take-put_mid from (from + n - from) line part (from + n) (search rules) (omega arith)
    ∙ cut line c.args.word.now part c.args.at from n c.min-from.ensures c.min-n.ensures c.copy_from_slice.ensures.after
