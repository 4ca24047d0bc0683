-- No identifier and client stands twice: from a fresh server, after any history, the table of subscriptions has each pair at most once.
use Prim.Native.Nat.{ℕ, suc, ◌+◌, ◌≤◌, ◌<◌}
use mathlib.Core.Path.{◌≡◌, refl, sym}
use mathlib.Core.Bool.{Bool, true, false, ◌&&◌, ◌||◌, false≢true}
use mathlib.Core.List.{List, [], ◌∷◌, ◌++◌}
use native.Mathlib.Omega.{arith}
use lib.ListN.{length}
use lib.Dec.{eqb}
use borrow.Author.Tests.{eqb-true}
use Rattle.model.specs.Tests.{pick, any, change_first, without}
use Rattle.model.specs.Numbers.{Moment, Span, max_frame, max_periodic}
use Rattle.model.specs.Config.{Config, within}
use Rattle.model.specs.Values.{given0, empty_table}
use Rattle.model.specs.Frame.{periodic_did}
use Rattle.model.specs.State.{Security, Subscription, State, Step, fresh_state, fresh}
use Rattle.model.specs.Service.{Seen}
use Rattle.model.specs.Service2A.{rate_of, is_subscription, subscription, renewed, register, interval_for}
use Rattle.model.specs.History.{Call, requests, call, run}
use Rattle.model.specs.Fixed.{fixed_config}
use Rattle.model.specs.Alike.{inbound, asking}
use Rattle.model.proofs.Laws.{left, right, either, alike, IfSome, enter_gives}
use Rattle.model.proofs.Open.{whole}
use Rattle.model.proofs.EveryCall.{Advances, empty, stands, sent, AnyService, names, all_name, Parts, keeps_call, keeps_run}
use Rattle.model.proofs.Subscribing.{Keeps, any-service}

-- how many elements pass a test
abbrev pub count : {A : Type 0} → (A → Bool) → List A → ℕ
count p [] = 0
count p (a ∷ l) = pick (p a) (suc (count p l)) (count p l)

-- each identifier and client at most once
abbrev pub Once : List Subscription → Type 0
Once t = (x client : ℕ) → count (is_subscription x client) t ≤ 1

module _ {A : Type 0} (q : A → Bool) where
  -- one more at the end
  count_snoc : (l : List A) (a : A) → count q (l ++ (a ∷ [])) ≡ count q l + count q (a ∷ [])
  count_snoc [] a = omega arith
  count_snoc (b ∷ l) a = let k = count_snoc l a in alike (λ m n. m ≡ n + count q (a ∷ [])) (q b) (omega arith) k

  -- one changed in a way that the test does not see
  count-change_first : (p : A → Bool) (f : A → A) → ((a : A) → q (f a) ≡ q a) → (l : List A) → count q (change_first p f l) ≡ count q l
  count-change_first p f h [] = refl
  count-change_first p f h (b ∷ l) = either (λ m. count q m ≡ count q (b ∷ l)) (p b) (rw (h b)) (rw (count-change_first p f h l))

  -- some left out
  count-without : (p : A → Bool) (l : List A) → count q (without p l) ≤ count q l
  count-without p [] = omega arith
  count-without p (b ∷ l) =
      let k = count-without p l in
      either (λ m. count q m ≤ count q (b ∷ l)) (p b) (either (λ n. count q (without p l) ≤ n) (q b) (omega arith) k) (alike (λ m n. m ≤ n) (q b) (omega arith) k)

  -- where none passes there are none
  count_none : (l : List A) → any q l ≡ false → count q l ≡ 0
  count_none [] h = refl
  count_none (b ∷ l) h = go (q b) h (count_none l)
    where
      go : (t : Bool) → (t || any q l) ≡ false → (any q l ≡ false → count q l ≡ 0) → pick t (suc (count q l)) (count q l) ≡ 0
      go true e k = absurd (false≢true (sym e))
      go false e k = k e

-- entries advanced keep identifier and client
advances_once : {now : Moment} {t u : List Subscription} → Advances now t u → Once t → Once u
advances_once a h x client = rw (go a) (h x client)
  where
    go : {now : Moment} {t u : List Subscription} → Advances now t u → count (is_subscription x client) u ≡ count (is_subscription x client) t
    go empty = refl
    go (stands a) = rw (go a)
    go (sent a) = rw (go a)

-- the same identifier and client renews, and only one that is not there is added
register_once : (x client : ℕ) (interval : Span) (now : Moment) (t : List Subscription) → Once t → IfSome Once (register x client interval now t)
register_once x client interval now t h =
    enter_gives Once max_periodic (is_subscription x client) (renewed interval now) new t
    (λ y d. rw (count-change_first (is_subscription y d) (is_subscription x client) (renewed interval now) (λ a. refl) t) (h y d)) added
  where
    new : Subscription
    new = subscription x client interval now

    added : any (is_subscription x client) t ≡ false → length t < max_periodic → Once (t ++ (new ∷ []))
    added n r y d = rw (count_snoc (is_subscription y d) t new) (go (eqb x y && eqb client d) refl)
      where
        go : (b : Bool) → (eqb x y && eqb client d) ≡ b → count (is_subscription y d) t + pick b 1 0 ≤ 1
        go false e = let k = h y d in omega arith
        go true e =
            let p = eqb-true x y (left (eqb x y) (eqb client d) e) in
            let q = eqb-true client d (right (eqb x y) (eqb client d) e) in
            rw (← p, ← q) (rw (count_none (is_subscription x client) t n) (omega arith))

-- 2A enters one so, and cancels
once_keeps : (v : Seen) → Keeps Once v
once_keeps v = record {
  enters = λ mode b t h. register_once (periodic_did b) v.src (interval_for v (rate_of mode) (periodic_did b)) v.now t h;
  cancels = λ b t h y d. let a = count-without (is_subscription y d) (is_subscription (periodic_did b) v.src) t in let c = h y d in omega arith;
}

-- no other service changes the table, and a tick advances its entries
abbrev TableOnce : Config → Security → List Subscription → Type 0
TableOnce c k t = Once t

once_parts : Parts TableOnce AnyService
once_parts = record {
  clears = λ c k t h. h;
  advances = λ c k t u now a h. advances_once a h;
  serves = λ v sid a l n h. any-service Once v h (once_keeps v) sid a l;
}

-- every call leaves each at most once where it was so
pub call_once : (limit : ℕ) (s : State) (c : Call) → Once s.periodic → Once (call limit s c).state.periodic
call_once limit s c = keeps_call TableOnce AnyService once_parts limit s c (names c)

-- a fresh server has no subscription
pub fresh_once : (c : Config) → Once (fresh c).state.periodic
unfolding fresh
fresh_once c = either (λ (p : Step). Once p.state.periodic) (within c) (λ x client. omega arith) (λ x client. omega arith)

-- so after any history no identifier and client stands twice
pub reached_once : (limit : ℕ) (c : Config) (h : List Call) → Once (run limit (fresh c).state h).periodic
reached_once limit c h = keeps_run TableOnce AnyService once_parts limit h (fresh c).state (all_name h) (fresh_once c)

-- that is not empty: two clients that subscribe to F201, the first of them twice, have an entry each
abbrev subscribes : Moment → ℕ → Call
subscribes now client = requests (asking (inbound now client 16 (0x2A ∷ 3 ∷ 1 ∷ [])) given0 empty_table)

pub two_clients : (run max_frame (fresh_state fixed_config) (subscribes 5 3712 ∷ subscribes 7 3713 ∷ subscribes 9 3712 ∷ [])).periodic
    ≡ subscription 0xF201 3712 50 9 ∷ subscription 0xF201 3713 50 7 ∷ []
unfolding whole
two_clients = refl
