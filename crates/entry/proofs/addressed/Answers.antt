use Rattle.std.proofs.Common.{sym, ◌∙◌}
use Rattle.entry.proofs.Frames.{to_physical, to_functional, to_another}
use Rattle.entry.proofs.addressed.Goals as goal

pub returns-then-dst-physical : goal.returns-then-dst-physical
returns-then-dst-physical c = to_physical _ c.args.dst (c.if-dst-physical.true ∙ c.physical.ensures)

pub returns-then-dst-functional : goal.returns-then-dst-functional
returns-then-dst-functional c = to_functional _ c.args.dst (λ e. c.if-dst-physical.false (e ∙ sym c.physical.ensures)) (c.if-dst-functional.true ∙ c.functional.ensures)

pub returns : goal.returns
returns c = to_another _ c.args.dst (λ e. c.if-dst-physical.false (e ∙ sym c.physical.ensures)) (λ e. c.if-dst-functional.false (e ∙ sym c.functional.ensures))
