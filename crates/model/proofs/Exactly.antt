-- Every result number of every call: the law that says exactly when it comes, and the law that says what it then leaves.
use Prim.Native.Nat.{ℕ, ◌≤◌}
use mathlib.Core.Path.{◌≡◌, refl, sym}
use mathlib.Core.Bool.{Bool, true, false}
use mathlib.Core.Logic.{◌↔◌}
use mathlib.Core.List.{List, [], ◌∷◌}
use mathlib.Core.Option.{some, none}
use native.Mathlib.Omega.{arith}
use lib.ListN.{length, drop}
use lib.Dec.{eqb}
use borrow.Author.Tests.{le-leb, eqb-true}
use Rattle.model.specs.Tests.{pick, memb}
use Rattle.model.specs.Numbers.{max_time}
use Rattle.model.specs.Config.{Config, within}
use Rattle.model.specs.State.{AddressMode, State, Step, step, fresh_state, fresh, valid}
use Rattle.model.specs.Service.{no_act}
use Rattle.model.specs.Request.{Inbound, Request, addressed, request}
use Rattle.model.specs.Question.{bare, asked_of, question}
use Rattle.model.specs.Queue.{records, written, drained}
use Rattle.model.specs.Drain.{emptied, drain}
use Rattle.model.specs.History.{Call, requests, questions, ticks, completes, fails, drains, call}
use Rattle.model.proofs.Laws.{either, either_by, Each, memb-each}
use Rattle.model.proofs.Leaves.{Misfit, request_2, request_2_only, call_results}
use Rattle.model.proofs.Leaves.Results.{may_give}
use Rattle.model.proofs.Valid.Parts.{valid_parts}
-- every call: 10, and 6 if it has a time; 0 is `exactly_0` below
pub use Rattle.model.proofs.Leaves.{exactly_10, exactly_6}
pub use Rattle.model.proofs.Leaves.Results.{call_10, call_6}
-- a request: 2, given exactly by `request_2_exactly` below; 3; what 0 leaves
pub use Rattle.model.proofs.Leaves.{request_2_leaves}
pub use Rattle.model.proofs.Leaves.Room.{request_3_exactly, request_3_leaves, reset_3_leaves, request_else}
-- a question: 2, by `question_2_exactly` and `question_2_leaves` below; 0 says the request's act. It changes nothing
pub use Rattle.model.proofs.Acts.{question-act}
-- a tick: 3, by its pending step or by a due frame; 4; 8; what 0 leaves
pub use Rattle.model.proofs.Leaves.Tick.{tick_3_exactly, tick_3_leaves, tick_3, tick_4_exactly, tick_4, tick_8_exactly, tick_8, tick_0_leaves}
-- complete and fail: 1; 3; what 0 leaves
pub use Rattle.model.proofs.Leaves.{complete_1, complete_1_leaves, complete_3, fail_1, fail_1_leaves, fail_3}
pub use Rattle.model.proofs.Leaves.Room.{complete_3_exactly, complete_3_leaves, complete_else, fail_3_exactly, fail_3_leaves, fail_else}
-- a drain: 5; what 0 leaves is `drain_0_leaves` below
pub use Rattle.model.proofs.Leaves.{drain_5, drain_5_leaves}
-- fresh: 7; 0 is `fresh_0` and `fresh_0_leaves` below
pub use Rattle.model.proofs.Leaves.{fresh_7, fresh_7_leaves}

-- one of some numbers, and none of those behind the first, is the first
only_first : (n m : ℕ) (ns : List ℕ) → memb n (m ∷ ns) ≡ true → Each (λ k. n ≡ k → ⊥) ns → n ≡ m
only_first n m ns h k = go (eqb m n) refl h
  where
    go : (t : Bool) → eqb m n ≡ t → pick t true (memb n ns) ≡ true → n ≡ m
    go true e z = sym (eqb-true m n e)
    go false e z = absurd (memb-each (λ k. n ≡ k → ⊥) n ns k z refl)

-- the numbers of a call but 0, which stands first
abbrev others : Call → List ℕ
others c = drop 1 (may_give c)

-- 0 is given exactly when none of them is
pub exactly_0 : (limit : ℕ) (s : State) (c : Call) → ((call limit s c).shown.result ≡ 0) ↔ Each (λ n. (call limit s c).shown.result ≡ n → ⊥) (others c)
exactly_0 limit s c = go c (call_results limit s c)
  where
    n : ℕ
    n = (call limit s c).shown.result

    go : (c : Call) → memb n (may_give c) ≡ true → (n ≡ 0) ↔ Each (λ k. n ≡ k → ⊥) (others c)
    go (requests r) h = (λ e. omega arith, only_first n 0 (others (requests r)) h)
    go (questions i) h = (λ e. omega arith, only_first n 0 (others (questions i)) h)
    go (ticks now t) h = (λ e. omega arith, only_first n 0 (others (ticks now t)) h)
    go (completes now payload) h = (λ e. omega arith, only_first n 0 (others (completes now payload)) h)
    go (fails now code) h = (λ e. omega arith, only_first n 0 (others (fails now code)) h)
    go (drains buffer) h = (λ e. omega arith, only_first n 0 (others (drains buffer)) h)

-- a frame that comes to this server while nothing is pending, and whose length is 0 or above 4095
abbrev pub Unfit : State → Inbound → Type 0
Unfit s i = (s.pending ≡ none) × ((m : AddressMode) × (addressed s.config i.dst ≡ some m)) × Misfit i.frame

-- of a valid state and at a time up to 2^48
module _ (limit : ℕ) (s : State) (v : valid limit s ≡ true) where
  -- 2 is given by a request exactly for such a frame
  pub request_2_exactly : (r : Request) → r.inbound.time ≤ max_time → ((request limit s r).step.result ≡ 2) ↔ Unfit s r.inbound
  request_2_exactly r h = (there, λ k. (request_2 limit s v r k.1.0 h k.1.1 k.0).1 k.2)
    where
      there : (request limit s r).step.result ≡ 2 → Unfit s r.inbound
      there e = let k = request_2_only limit s v r h e in (k.0, k.1, (request_2 limit s v r k.1.0 h k.1.1 k.0).0 e)

  -- and by a question
  pub question_2_exactly : (i : Inbound) → i.time ≤ max_time → ((question limit s i).result ≡ 2) ↔ Unfit s i
  unfolding question asked_of
  question_2_exactly i h = (λ e. two.0 (told (request limit s (bare i)).step.result e), λ k. rw (two.1 k) refl)
    where
      two : ((request limit s (bare i)).step.result ≡ 2) ↔ Unfit s i
      two = request_2_exactly (bare i) h

      told : (n : ℕ) → pick (memb n (10 ∷ 6 ∷ 2 ∷ [])) n 0 ≡ 2 → n ≡ 2
      told n = either (λ (k : ℕ). k ≡ 2 → n ≡ 2) (memb n (10 ∷ 6 ∷ 2 ∷ [])) (λ e. e) (λ e. absurd (omega arith))

  -- which then says no act
  pub question_2_leaves : (i : Inbound) → i.time ≤ max_time → Unfit s i → question limit s i ≡ record { result = 2; act = no_act }
  unfolding question asked_of
  question_2_leaves i h k = rw (request_2_leaves limit s v (bare i) k.1.0 h k.1.1 k.0 k.2) refl

  -- 0 of a drain leaves the records in the buffer, and the queue empty
  pub drain_0_leaves : (buffer : List ℕ) → length (records s.queue) ≤ length buffer → drain limit s buffer ≡ emptied s (written s.queue buffer)
  unfolding drain drained
  drain_0_leaves buffer h = rw (v, (valid_parts limit s v).queue, le-leb (length (records s.queue)) (length buffer) h) refl

-- 0 is given by fresh exactly when the configuration keeps the numbers
pub fresh_0 : (c : Config) → ((fresh c).result ≡ 0) ↔ (within c ≡ true)
unfolding fresh
fresh_0 c = (either_by (λ (p : Step). p.result ≡ 0 → within c ≡ true) (within c) (λ e z. e) (λ e z. absurd (omega arith)), λ e. rw e refl)

-- and comes with its fresh server
pub fresh_0_leaves : (c : Config) → within c ≡ true → fresh c ≡ step 0 (fresh_state c)
unfolding fresh
fresh_0_leaves c e = rw e refl
