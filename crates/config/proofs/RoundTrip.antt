-- What was put in is found: over the promises of a builder and of a lookup alone, so for every image that they hold of.
use Prim.Native.Nat.{ℕ}
use mathlib.Core.Path.{◌≡◌, refl, ap, sym, ◌∙◌}
use mathlib.Core.Bool.{Bool, true, false}
use mathlib.Core.List.{List, [], ◌∷◌, ◌++◌}
use mathlib.Core.Option.{Option, some, none}
use lib.Dec.{eqb}
use borrow.Author.Tests.{eq-eqb}
use Rattle.model.specs.Tests.{pick, first}
use Rattle.model.specs.Config.{SessionConfig, ServiceConfig, DidConfig, SecurityLevelConfig, Config, within, is_session, is_service, is_did, is_level, find_session, find_service, find_did, find_level}
use Rattle.std.specs.Prelude.{Option as Maybe}
use Rattle.uds.specs.Table.{row_of, Finds}
use Rattle.config.specs.View.{session_at, service_at, did_at, level_at, session_count, service_count, did_count, level_count, config_of}
use Rattle.config.specs.Build.{overfull, settled, add_session, add_service, add_did, add_level}

-- the one that is there, or else the other
abbrev pub or_else : {A : Type 0} → Option A → Option A → Option A
or_else none b = b
or_else (some a) b = some a

-- first row first: a row at the end is found where no earlier one passes the test
pub first_more : {A : Type 0} (p : A → Bool) (l : List A) (r : A) → p r ≡ true → first p (l ++ (r ∷ [])) ≡ or_else (first p l) (some r)
first_more p [] r e = rw e
first_more p (a ∷ l) r e = go (p a) (first_more p l r e)
  where
    go : (b : Bool) → first p (l ++ (r ∷ [])) ≡ or_else (first p l) (some r) → pick b (some a) (first p (l ++ (r ∷ []))) ≡ or_else (pick b (some a) (first p l)) (some r)
    go true ih = refl
    go false ih = ih

own : (x : ℕ) → eqb x x ≡ true
own x = eq-eqb x x refl

-- a configuration that is taken is the one that was asked for, and one that is not says so
pub taken_as_it_is : (c : Config) → within c ≡ true → settled c ≡ c
taken_as_it_is c e = rw e

pub told : (c : Config) → within (settled c) ≡ within c
unfolding within
told c = go (within c) refl
  where
    go : (b : Bool) → within c ≡ b → within (pick b c overfull) ≡ within c
    go true e = refl
    go false e = sym e

-- v is what a builder made of w and a row: the lookup of the row's key finds the first row of w that has the key, and else the row
module _ (w v : List ℕ) (found : Maybe ℕ) where
  pub session : (r : SessionConfig) → config_of v ≡ settled (add_session (config_of w) r) → within (add_session (config_of w) r) ≡ true
      → Finds (is_session r.session_type) (session_at v) (session_count v) found → row_of (session_at v) found ≡ or_else (find_session (config_of w) r.session_type) (some r)
  session r b k f =
      f.row ∙ ap (λ (c : Config). find_session c r.session_type) (b ∙ taken_as_it_is (add_session (config_of w) r) k)
      ∙ first_more (is_session r.session_type) (config_of w).sessions r (own r.session_type)

  pub service : (r : ServiceConfig) → config_of v ≡ settled (add_service (config_of w) r) → within (add_service (config_of w) r) ≡ true
      → Finds (is_service r.service_id) (service_at v) (service_count v) found → row_of (service_at v) found ≡ or_else (find_service (config_of w) r.service_id) (some r)
  service r b k f =
      f.row ∙ ap (λ (c : Config). find_service c r.service_id) (b ∙ taken_as_it_is (add_service (config_of w) r) k)
      ∙ first_more (is_service r.service_id) (config_of w).services r (own r.service_id)

  pub did : (r : DidConfig) → config_of v ≡ settled (add_did (config_of w) r) → within (add_did (config_of w) r) ≡ true
      → Finds (is_did r.identifier) (did_at v) (did_count v) found → row_of (did_at v) found ≡ or_else (find_did (config_of w) r.identifier) (some r)
  did r b k f =
      f.row ∙ ap (λ (c : Config). find_did c r.identifier) (b ∙ taken_as_it_is (add_did (config_of w) r) k)
      ∙ first_more (is_did r.identifier) (config_of w).dids r (own r.identifier)

  pub security-level : (r : SecurityLevelConfig) → config_of v ≡ settled (add_level (config_of w) r) → within (add_level (config_of w) r) ≡ true
      → Finds (is_level r.level) (level_at v) (level_count v) found → row_of (level_at v) found ≡ or_else (find_level (config_of w) r.level) (some r)
  security-level r b k f =
      f.row ∙ ap (λ (c : Config). find_level c r.level) (b ∙ taken_as_it_is (add_level (config_of w) r) k)
      ∙ first_more (is_level r.level) (config_of w).levels r (own r.level)
