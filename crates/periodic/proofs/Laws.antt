-- One law for each way out of a function that the check does not find alone.
use Prim.Native.Nat.{ℕ, ◌+◌, ◌^◌, ◌≤◌, ◌<◌}
use mathlib.Core.Path.{◌≡◌, refl, ap, ap₂, sym, ◌∙◌}
use mathlib.Core.Bool.{Bool, true, false}
use mathlib.Core.List.{List}
use mathlib.Core.Option.{some, none}
use native.Mathlib.Omega.{arith}
use lib.Dec.{eqb, leb}
use borrow.Author.Tests.{eqb-true, eqb-false, le-leb, lt-leb}
use Rattle.model.specs.Tests.{pick, place, all}
use Rattle.model.specs.Numbers.{max_periodic}
use Rattle.model.specs.Config.{table_within}
use Rattle.model.specs.State.{Subscription, subscription_valid}
use Rattle.model.specs.Service2A.{is_subscription, subscription, renewed}
use Rattle.model.specs.Tick.{advanced}
use Rattle.model.proofs.Laws.{left, right}
use Rattle.std.specs.Prelude.{Option as Maybe, Some, None}
use Rattle.uds.specs.Table.{tab, place_of}
use Rattle.uds.specs.Clock.{later, starts}
use Rattle.uds.proofs.Times.{in_time}
use Rattle.uds.proofs.Tab.{tab-same, tab-length}
use Rattle.periodic.specs.View.{entry_at, table_of, advanced_at, Puts, Registers, Advances}
use Rattle.uds.proofs.Tables.{passing, enter_known, enter-new, enter-full}

-- where a found entry stands
module _ (w : List ℕ) (count x client : ℕ) (found : Maybe ℕ) (is : place_of found ≡ place (is_subscription x client) (table_of count w)) where
  pub stands : (i : ℕ) → found ≡ Some i → place (is_subscription x client) (table_of count w) ≡ some i
  stands i e = sym is ∙ ap place_of e

  pub unknown : found ≡ None → place (is_subscription x client) (table_of count w) ≡ none
  unknown e = sym is ∙ ap place_of e

  pub below : (i : ℕ) → found ≡ Some i → i < count
  below i e = (passing (is_subscription x client) (entry_at w) 0 count i (stands i e)).below

-- an answer is one or the other
not_full : (n : ℕ) → None ≡ Some n → ⊥
not_full n e = cc

-- the entry that is put
abbrev entered : ℕ → ℕ → ℕ → ℕ → Subscription
entered x client interval next = record { identifier = x; client = client; interval = interval; next = next }

-- an entry that passes the test has the identifier and the client
is_it : (x client : ℕ) (e : Subscription) → is_subscription x client e ≡ true → (e.identifier ≡ x) × (e.client ≡ client)
is_it x client e h = (eqb-true e.identifier x (left (eqb e.identifier x) (eqb e.client client) h), eqb-true e.client client (right (eqb e.identifier x) (eqb e.client client) h))

-- registering
module _ (w : List ℕ) (count x client interval t : ℕ) where
  module _ (h : count ≤ max_periodic) (found : Maybe ℕ) (is : place_of found ≡ place (is_subscription x client) (table_of count w)) where
    pub register-full : found ≡ None → count ≡ max_periodic → Registers w count x client interval t None w
    register-full e z = record {
      table = λ l. sym (enter-full (is_subscription x client) max_periodic (renewed interval (starts t interval)) (subscription x client interval (starts t interval)) (entry_at w) count (unknown w count x client found is e) (omega arith));
      beyond = λ l. refl;
      full = λ e. refl;
      room = λ n e. absurd (not_full n e);
    }

    module _ (next : ℕ) (fits : interval < 2 ^ 64) (late : next ≡ later t interval) (after : List ℕ) where
      pub register_known : (i : ℕ) → found ≡ Some i → Puts w i (entered x client interval next) after → Registers w count x client interval t (Some count) after
      register_known i e puts = record {
        table = λ l. sym (enter_known (is_subscription x client) max_periodic (renewed interval (starts t interval)) (subscription x client interval (starts t interval)) (entry_at w) (entry_at after) count i (stands w count x client found is i e)
            (puts.here ∙ rw (in_time t interval next fits late) (ap₂ (λ (a b : ℕ). subscription a b interval (starts t interval)) (sym same.0) (sym same.1)))
            (λ j b n. puts.others j n));
        beyond = λ l. absurd (omega arith);
        full = λ z. absurd (not_full count (sym z));
        room = λ n z. let q : count ≡ n = cc in omega arith;
      }
        where
          same : ((entry_at w i).identifier ≡ x) × ((entry_at w i).client ≡ client)
          same = let z : 0 + i ≡ i = omega arith in is_it x client (entry_at w i) (rw z at (passing (is_subscription x client) (entry_at w) 0 count i (stands w count x client found is i e)).passes)

      pub register-new : found ≡ None → (count ≡ max_periodic → ⊥) → Puts w count (entered x client interval next) after → Registers w count x client interval t (Some (count + 1)) after
      register-new e z puts = record {
        table = λ l. sym (enter-new (is_subscription x client) max_periodic (renewed interval (starts t interval)) (subscription x client interval (starts t interval)) (entry_at w) (entry_at after) count (unknown w count x client found is e) (omega arith)
            (puts.here ∙ rw (in_time t interval next fits late))
            (λ j b. puts.others j (λ q. absurd (omega arith))));
        beyond = λ l. absurd (omega arith);
        full = λ q. absurd (not_full (count + 1) (sym q));
        room = λ n q. let q : count + 1 ≡ n = cc in omega arith;
      }

-- advancing
module _ (w : List ℕ) (count i t : ℕ) where
  rows : (after : List ℕ) → ((j : ℕ) → j < count → j ≡ i → entry_at after j ≡ advanced (starts t (entry_at w j).interval) (entry_at w j))
      → ((j : ℕ) → (j ≡ i → ⊥) → entry_at after j ≡ entry_at w j) → table_of count after ≡ tab (advanced_at i t (entry_at w)) 0 count
  rows after here others = tab-same (entry_at after) (advanced_at i t (entry_at w)) 0 count (λ j a b. row j (omega arith) (eqb j i) refl)
    where
      row : (j : ℕ) → j < count → (b : Bool) → eqb j i ≡ b → entry_at after j ≡ pick b (advanced (starts t (entry_at w j).interval) (entry_at w j)) (entry_at w j)
      row j l true e = here j l (eqb-true j i e)
      row j l false e = others j (eqb-false j i e)

  pub advance-beyond : max_periodic < count → Advances w count i t w
  advance-beyond h = record { table = λ l. absurd (omega arith); here = λ l. absurd (omega arith); others = λ j n. refl; beyond = λ l. refl; past = λ l. refl }

  pub advance-past : count ≤ i → Advances w count i t w
  advance-past h = record { table = λ l. rows w (λ j a b. absurd (omega arith)) (λ j n. refl); here = λ l k. absurd (omega arith); others = λ j n. refl; beyond = λ l. refl; past = λ l. refl }

-- a valid table
module _ (w : List ℕ) (count : ℕ) where
  pub valid-beyond : max_periodic < count → leb count max_periodic ≡ table_within max_periodic subscription_valid (table_of count w)
  valid-beyond h = rw (tab-length (entry_at w) 0 count, lt-leb count max_periodic h)

  pub valid-within : (b : Bool) → count ≤ max_periodic → b ≡ all subscription_valid (table_of count w) → b ≡ table_within max_periodic subscription_valid (table_of count w)
  valid-within b h e = rw (tab-length (entry_at w) 0 count, le-leb count max_periodic h) e
