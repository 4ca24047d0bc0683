-- The invariant: the bytes so far stand in their places, and no other word has changed.
use Rattle.security.specs.View.{Fills}
use Rattle.security.proofs.fill.Given as goal

abbrev pub invariant-loop-i : goal.invariant-loop-i
invariant-loop-i l = Fills l.initial.k l.bytes 0 l.i l.k
