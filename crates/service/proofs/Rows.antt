-- What is read of a row of the configuration is so of what the row is looked up by.
use Prim.Native.Nat.{ℕ}
use mathlib.Core.Path.{◌≡◌, ap, sym, ◌∙◌}
use mathlib.Core.List.{List}
use mathlib.Core.Option.{Option}
use Rattle.model.specs.Config.{DidConfig, find_did}
use Rattle.uds.specs.Table.{row_of}
use Rattle.std.specs.Prelude.{Option as Maybe}
use Rattle.config.specs.View.{did_at, config_of}

-- what was read of the row that a lookup found is so of the identifier's
pub of_row : {A : Type 0} (f : Option DidConfig → A) (w : List ℕ) (x y : ℕ) (did : Maybe ℕ) (a : A) → x ≡ y → row_of (did_at w) did ≡ find_did (config_of w) x → a ≡ f (row_of (did_at w) did) → f (find_did (config_of w) y) ≡ a
of_row f w x y did a e row r = sym (r ∙ ap f row ∙ ap (λ (n : ℕ). f (find_did (config_of w) n)) e)
