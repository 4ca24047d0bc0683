-- What holds of a table of subscriptions, and still holds with one entered and with some cancelled, holds of the table that service 2A leaves.
use Prim.Native.Nat.{ℕ}
use mathlib.Core.Path.{◌≡◌}
use mathlib.Core.Bool.{◌&&◌}
use mathlib.Core.List.{List, [], ◌∷◌}
use mathlib.Core.Logic.{◌⊎◌, inl, inr}
use mathlib.Core.Option.{Option, some, none}
use lib.ListN.{length, drop, get_or}
use lib.Dec.{eqb, leb, ltb}
use Rattle.model.specs.Tests.{without}
use Rattle.model.specs.Config.{find_did, readable}
use Rattle.model.specs.Frame.{periodic_did}
use Rattle.model.specs.State.{Subscription}
use Rattle.model.specs.Service.{Seen, Effect, Served}
use Rattle.model.specs.Service2A.{rate_of, is_subscription, register, interval_for, registered, register_all, cancel_all, transmission, service2A}
use Rattle.model.proofs.Laws.{either, IfSome}
use Rattle.model.proofs.Untouched.{Left}

module _ (P : List Subscription → Type 0) where
  -- an effect, and a service, that leaves such a table
  abbrev Wants : Effect → Type 0
  Wants e = P e.periodic

  abbrev pub Serves : Served → Type 0
  Serves a = Wants a.effect

  -- one listed identifier entered for the asking client, and cancelled
  pub record Keeps (v : Seen) : Type 0 where
    pub enters : (mode b : ℕ) (t : List Subscription) → P t → IfSome P (register (periodic_did b) v.src (interval_for v (rate_of mode) (periodic_did b)) v.now t)
    pub cancels : (b : ℕ) (t : List Subscription) → P t → P (without (is_subscription (periodic_did b) v.src) t)

  module _ (v : Seen) (h : P v.periodic) (k : Keeps v) where
    -- the listed ones in turn, up to a refusal
    enters_all : (mode : ℕ) (ids : List ℕ) (t : List Subscription) → P t → Wants (register_all v mode ids t)
    enters_all mode [] t p = p
    enters_all mode (b ∷ ids) t p =
        either Wants (readable v.session.session_type (find_did v.config (periodic_did b)))
        (go (register (periodic_did b) v.src (interval_for v (rate_of mode) (periodic_did b)) v.now t) (k.enters mode b t p) (enters_all mode ids)) p
      where
        go : (o : Option (List Subscription)) → IfSome P o → ((u : List Subscription) → P u → Wants (register_all v mode ids u)) → Wants (registered v t o (register_all v mode ids))
        go none q f = p
        go (some u) q f = f u q

    -- the listed ones cancelled
    cancels_all : (ids : List ℕ) (t : List Subscription) → P t → P (cancel_all v.src ids t)
    cancels_all [] t p = p
    cancels_all (b ∷ ids) t p = cancels_all ids (without (is_subscription (periodic_did b) v.src) t) (k.cancels b t p)

    -- 2A by its mode
    pub subscribing : Serves (service2A v)
    unfolding service2A transmission
    subscribing =
        let mode = get_or v.payload 0 0 in
        let ids = drop 1 v.payload in
        either Serves (ltb (length v.payload) 1) h
        (either Serves (eqb mode 4) (cancels_all ids v.periodic h) (either Serves (leb 1 mode && leb mode 3) (enters_all mode ids v.periodic h) h))

    -- and so of the table that any service leaves: no other changes it
    pub any-service : (sid : ℕ) (a : Served) → Left v sid a → Serves a
    any-service sid a l = go l.periodic
      where
        go : (a.effect.periodic ≡ v.periodic) ⊎ ((sid ≡ 0x2A) × (a ≡ service2A v)) → Serves a
        go (inl e) = rw e h
        go (inr e) = rw e.1 subscribing
