use Rattle.std.proofs.Common.{[], drop, ◌≡◌}
use Rattle.model.specs.Text.{hex}
use Rattle.lines.specs.View.{text_of, appended}
use Rattle.lines.proofs.Line.digits.Given as goal

abbrev pub invariant-loop-b : goal.invariant-loop-b
invariant-loop-b l =
    (text_of l.line ≡ appended (text_of l.line) []) ×
    (appended (text_of l.line) (hex l.high (drop l.b-index l.bytes)) ≡ appended (text_of l.initial.line) (hex l.high l.bytes))
