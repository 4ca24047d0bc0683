-- What a row of the value table says, in each of the ways that a reading of it ends.
use Prim.Native.Nat.{ℕ, ◌+◌, ◌≤◌, ◌<◌}
use mathlib.Core.Path.{◌≡◌, refl}
use mathlib.Core.List.{List}
use mathlib.Core.Option.{some, none}
use native.Mathlib.Omega.{arith}
use lib.ListN.{length}
use borrow.Author.Tests.{le-leb, lt-leb, eq-eqb, ne_eqb}
use Rattle.model.specs.Values.{ValueRow, row_value}
use Rattle.std.specs.Prelude.{Ok, Err}
use Rattle.uds.specs.Values.{Says}

module _ (pool : List ℕ) (limit : ℕ) where
  pub missing : Says pool limit none (Err 0x22)
  unfolding row_value
  missing = record { says = refl; stands = refl; inside = omega arith; short = omega arith }

  module _ (r : ValueRow) where
    pub outside : length pool < r.start + r.len → Says pool limit (some r) (Err 0x22)
    unfolding row_value
    outside p = record { says = rw (lt-leb (r.start + r.len) (length pool) p); stands = refl; inside = omega arith; short = omega arith }

    module _ (p : r.start + r.len ≤ length pool) where
      pub long : limit < r.len → Says pool limit (some r) (Err 0x22)
      unfolding row_value
      long q = record { says = rw (le-leb (r.start + r.len) (length pool) p, lt-leb r.len limit q); stands = refl; inside = omega arith; short = omega arith }

      module _ (q : r.len ≤ limit) where
        pub fails : (r.err ≡ 0 → ⊥) → Says pool limit (some r) (Err r.err)
        unfolding row_value
        fails e =
            record {
              says = rw (le-leb (r.start + r.len) (length pool) p, le-leb r.len limit q, ne_eqb r.err 0 e);
              stands = refl;
              inside = omega arith;
              short = omega arith;
            }

        pub succeeds : r.err ≡ 0 → Says pool limit (some r) (Ok (record { start = r.start; len = r.len }))
        unfolding row_value
        succeeds e =
            record {
              says = rw (le-leb (r.start + r.len) (length pool) p, le-leb r.len limit q, eq-eqb r.err 0 e);
              stands = refl;
              inside = p;
              short = q;
            }
