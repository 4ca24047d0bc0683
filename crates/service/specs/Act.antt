-- The act that a service asks, and what was handed in for it.
use Rattle.std.specs.Prelude.{ℕ, ◌≡◌, Bool, List, [], ◌∷◌, take, Result, Ok, Err}
use Rattle.model.specs.Tests.{pick}
use Rattle.model.specs.Values as Values
use Rattle.model.specs.Queue.{Reply, silent, positive}
use Rattle.model.specs.Reply.{refusal}
use Rattle.model.specs.Service as Rules
use Rattle.model.specs.Service.{Seen, Served, refuses}
use Rattle.service.specs.declared.Part.{Part}
use Rattle.service.specs.declared.Act.{Act}

abbrev pub part_of : Part → Rules.Part
part_of p = record { start = p.start; len = p.len }

-- as many of the three parts as are counted
abbrev pub act_of : Act → Rules.Act
act_of a = record { number = a.number; arguments = take a.parts (part_of a.a ∷ part_of a.b ∷ part_of a.c ∷ []) }

-- what a service answers before its act's outcome is known: the act that it asks, or the code by which it refuses
abbrev pub Ask : Type 0
Ask = Result Act ℕ

-- refused, or an act with the effect that the outcome will have
abbrev pub asked_of : Ask → Seen → Rules.Effect → Served
asked_of (Err code) v e = refuses v code
asked_of (Ok a) v e = record { act = act_of a; effect = e }

pub record Asked (f : Seen → Served) (later : Seen → Rules.Effect) (v : Seen) (r : Ask) : Type 0 where
  pub asked : f v ≡ asked_of r v (later v)

-- whether bytes were handed in, or which error byte
abbrev pub Handed : Type 0
Handed = Result (Unit {0}) ℕ

abbrev pub outcome_of : Handed → List ℕ → Values.Outcome
outcome_of (Ok done) bytes = Values.bytes bytes
outcome_of (Err code) bytes = Values.error code

-- what comes of an act that is answered by a payload, unless suppressed
abbrev pub acted_reply : Handed → Bool → List ℕ → Reply
acted_reply (Ok done) suppress p = pick suppress silent (positive p)
acted_reply (Err code) suppress p = refusal code
