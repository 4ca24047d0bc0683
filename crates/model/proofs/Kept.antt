-- No call changes the configuration, and from a fresh server every subscription lies on the page F200 to F2FF.
use Prim.Native.Nat.{ℕ}
use mathlib.Core.Path.{◌≡◌, refl}
use mathlib.Core.List.{List}
use Rattle.model.specs.Tests.{all}
use Rattle.model.specs.Numbers.{Moment}
use Rattle.model.specs.Config.{Config, within}
use Rattle.model.specs.State.{Security, Subscription, State, Step, fresh}
use Rattle.model.specs.Tick.{s3, refreshed}
use Rattle.model.specs.History.{Call, call}
use Rattle.model.proofs.EveryCall.{Advances, empty, stands, sent, AnyService, names, Parts, keeps_refreshed, keeps_call}
use Rattle.model.proofs.Laws.{both, left, right, either}
use Rattle.model.proofs.Page.{on_page, Paged, page_keeps}
use Rattle.model.proofs.Subscribing.{any-service}

-- a state with a configuration, whose subscriptions lie on the page
pub record Kept (c : Config) (s : State) : Type 0 where
  pub config : s.config ≡ c
  pub page : Paged s.periodic

-- entries advanced keep their identifiers
advances_paged : {now : Moment} {t u : List Subscription} → Advances now t u → Paged t → Paged u
advances_paged empty h = h
advances_paged (stands {e = e} {t = t} a) h = both (left (on_page e) (all on_page t) h) (advances_paged a (right (on_page e) (all on_page t) h))
advances_paged (sent {e = e} {t = t} a) h = both (left (on_page e) (all on_page t) h) (advances_paged a (right (on_page e) (all on_page t) h))

module _ (c : Config) where
  -- of the parts of a call none changes the configuration, and only 2A enters subscriptions
  abbrev Q : Config → Security → List Subscription → Type 0
  Q d k t = (d ≡ c) × Paged t

  parts : Parts Q AnyService
  parts = record {
    clears = λ d k t h. h;
    advances = λ d k t u now a h. (h.0, advances_paged a h.1);
    serves = λ v sid a l n h. (h.0, any-service Paged v h.1 (page_keeps v) sid a l);
  }

  -- the first two steps of a tick
  pub kept-refreshed : (s : State) (now : Moment) → Kept c s → Kept c (refreshed (s3 s now) now s.pending).state
  kept-refreshed s now i = let k = keeps_refreshed Q AnyService parts 0 s now (i.config, i.page) in record { config = k.0; page = k.1 }

  -- every call
  pub kept-call : (limit : ℕ) (s : State) (k : Call) → Kept c s → Kept c (call limit s k).state
  kept-call limit s k i = let h = keeps_call Q AnyService parts limit s k (names k) (i.config, i.page) in record { config = h.0; page = h.1 }

-- a fresh server keeps its own configuration, and has no subscription
pub kept_fresh : (c : Config) → Kept (fresh c).state.config (fresh c).state
unfolding fresh
kept_fresh c = record { config = refl; page = either (λ (p : Step). Paged p.state.periodic) (within c) refl refl }
