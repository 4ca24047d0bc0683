-- 2E writeDataByIdentifier: writable in the session, else 0x31; the level held, else 0x33; the act; the identifier echoed.
use Rattle.std.specs.Prelude.{ℕ, ◌-◌, List, [], ◌∷◌, length, take, nat_le}
use Rattle.std.proofs.Math.Option.{Option}
use Rattle.model.specs.Tests.{pick}
use Rattle.model.specs.Config.{DidConfig, find_did, writable}
use Rattle.model.specs.Values.{outcome}
use Rattle.model.specs.Frame.{word}
use Rattle.model.specs.Queue.{Reply, positive}
use Rattle.model.specs.Service.{Seen, Served, refuses, asks, acted, part}
use Rattle.model.specs.Service22.{held_for}

-- the identifier
abbrev pub written : Seen → List ℕ → Reply
written v b = positive (take 2 v.payload)

unfoldable pub write_row : Seen → Option DidConfig → Served
write_row v row =
    pick (writable v.session.session_type row)
    (pick (held_for v.session.level row)
    (asks 0x2E (part 1 2 ∷ part 3 (length v.payload - 2) ∷ []) (acted v (written v) (outcome v.limit v.given)))
    (refuses v 0x33))
    (refuses v 0x31)

-- 3 or more
unfoldable pub service2E : Seen → Served
service2E v = pick (nat_le 3 (length v.payload)) (write_row v (find_did v.config (word v.payload 0))) (refuses v 0x13)
