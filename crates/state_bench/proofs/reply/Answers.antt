use Rattle.std.proofs.Common.{ne_eqb, refl}
use Rattle.state_bench.specs.Wanted.{wanted}
use Rattle.state_bench.proofs.reply.Goals as goal

pub returns-in-0 : goal.returns-in-0
unfolding wanted
returns-in-0 c = rw c.in-0.is refl

pub returns-in-1 : goal.returns-in-1
unfolding wanted
returns-in-1 c = rw c.in-1.is refl

pub returns-in-2 : goal.returns-in-2
unfolding wanted
returns-in-2 c = rw c.in-2.is refl

pub returns-in-3 : goal.returns-in-3
unfolding wanted
returns-in-3 c = rw c.in-3.is refl

pub returns-in_default : goal.returns-in_default
unfolding wanted
returns-in_default c = let k = c.args.kind in
    rw (ne_eqb k 0 c.in_default.in_default-own.rest.0.0.0.1, ne_eqb k 1 c.in_default.in_default-own.rest.0.0.1, ne_eqb k 2 c.in_default.in_default-own.rest.0.1, ne_eqb k 3 c.in_default.in_default-own.rest.1) refl
