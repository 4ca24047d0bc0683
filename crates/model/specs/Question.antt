-- A question call changes nothing and says which act the same request would ask. No act depends on an outcome or on the value table.
use Rattle.std.specs.Prelude.{ℕ, [], ◌∷◌}
use Rattle.model.specs.Tests.{pick, memb}
use Rattle.model.specs.Values.{given0, empty_table}
use Rattle.model.specs.State.{State}
use Rattle.model.specs.Service.{Act}
use Rattle.model.specs.Request.{Inbound, Request, Answer, request}

-- the frame with nothing handed in
abbrev pub bare : Inbound → Request
bare i = record { inbound = i; given = given0; table = empty_table }

-- a question's answer: its result, and the act (0 with no arguments where none would be asked)
pub record Asked : Type 0 where
  pub result : ℕ
  pub act : Act

-- a question is refused where the request would be, by 10, 6 or 2; else its result is 0, whatever the request's reply would meet
unfoldable pub asked_of : Answer → Asked
asked_of a = record { result = pick (memb a.step.result (10 ∷ 6 ∷ 2 ∷ [])) a.step.result 0; act = a.act }

unfoldable pub question : ℕ → State → Inbound → Asked
question limit s i = asked_of (request limit s (bare i))
