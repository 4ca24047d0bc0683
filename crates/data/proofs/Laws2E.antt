-- One law for each way out.
use Prim.Native.Nat.{◌-◌, ◌≤◌, ◌<◌}
use mathlib.Core.Path.{◌≡◌, ◌∙◌}
use mathlib.Core.Bool.{true, false}
use mathlib.Core.List.{[], ◌∷◌}
use lib.ListN.{length}
use borrow.Author.Tests.{le-leb, lt-leb}
use Rattle.model.specs.Config.{find_did, writable, level_of}
use Rattle.model.specs.Frame.{word}
use Rattle.model.specs.Service.{Seen, part, asks, refuses}
use Rattle.model.specs.Service2E.{write_row, service2E}
use Rattle.data.specs.Later.{later2E}

module _ (v : Seen) where
  pub short2E : length v.payload < 3 → service2E v ≡ refuses v 0x13
  unfolding service2E
  short2E h = rw (lt-leb 3 (length v.payload) h)

  module _ (h : 3 ≤ length v.payload) where
    row : service2E v ≡ write_row v (find_did v.config (word v.payload 0))
    unfolding service2E
    row = rw (le-leb 3 (length v.payload) h)

    pub unwritable : writable v.session.session_type (find_did v.config (word v.payload 0)) ≡ false → service2E v ≡ refuses v 0x31
    unfolding write_row
    unwritable e = row ∙ rw e

    module _ (e : writable v.session.session_type (find_did v.config (word v.payload 0)) ≡ true) where
      pub unheld : v.session.level < level_of (find_did v.config (word v.payload 0)) → service2E v ≡ refuses v 0x33
      unfolding write_row
      unheld p = row ∙ rw (e, lt-leb (level_of (find_did v.config (word v.payload 0))) v.session.level p)

      pub asks2E : level_of (find_did v.config (word v.payload 0)) ≤ v.session.level → service2E v ≡ asks 0x2E (part 1 2 ∷ part 3 (length v.payload - 2) ∷ []) (later2E v)
      unfolding write_row
      asks2E p = row ∙ rw (e, le-leb (level_of (find_did v.config (word v.payload 0))) v.session.level p)

-- the ways out
pub ruleset ways2E = (short2E, unwritable, unheld, asks2E)
