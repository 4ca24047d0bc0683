-- The definition's dispatch, but that 27 and 2A refuse numbers that no valid call has. Where the numbers are kept it is the definition's own (`proofs/Routes`).
use Rattle.std.specs.Prelude.{ℕ, nat_eq}
use Rattle.std.proofs.Math.Option.{Option, some, none}
use Rattle.model.specs.Tests.{pick}
use Rattle.model.specs.Config.{ServiceConfig, find_service, allowed_in}
use Rattle.model.specs.Service.{Seen, Served, refuses}
use Rattle.model.specs.Request as Definition
use Rattle.access.specs.Access.{access27}
use Rattle.transmission.specs.View2A.{guarded2A}

unfoldable pub service : ℕ → Seen → Served
service sid v = pick (nat_eq sid 0x27) (access27 v) (pick (nat_eq sid 0x2A) (guarded2A v) (Definition.service sid v))

-- no service row: 0x11; the session not in its list: 0x7F
unfoldable pub rowed : ℕ → Seen → Option ServiceConfig → Served
rowed sid v none = refuses v 0x11
rowed sid v (some row) = pick (allowed_in v.session.session_type row) (service sid v) (refuses v 0x7F)

abbrev pub guarded : ℕ → Seen → Served
guarded sid v = rowed sid v (find_service v.config sid)
