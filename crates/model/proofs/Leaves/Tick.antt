-- 8, 4 and 3 of a tick: given exactly when, and what they leave; and what 0 leaves.
use Prim.Native.Nat.{ℕ, suc, ◌≤◌, ◌<◌, ◌%◌}
use mathlib.Core.Path.{◌≡◌, refl, ap, sym, ◌∙◌}
use mathlib.Core.Bool.{Bool, true, false}
use mathlib.Core.Logic.{◌↔◌, ◌⊎◌, inl, inr}
use mathlib.Core.List.{List, [], ◌∷◌, ◌++◌, map, append-nil}
use mathlib.Core.Option.{Option, some, none}
use native.Mathlib.Omega.{arith}
use lib.ListN.{length}
use lib.Dec.{leb, ltb}
use borrow.Author.Tests.{leb-true, leb-false, ltb-false, le-leb, eq-eqb}
use Rattle.model.specs.Tests.{pick}
use Rattle.model.specs.Numbers.{Moment, max_time, max_outbox}
use Rattle.model.specs.Values.{Outcome, bytes, error, Table, value}
use Rattle.model.specs.Frame.{Frame, negative_frame}
use Rattle.model.specs.State.{Subscription, PendingRequest, State, Step, step, valid}
use Rattle.model.specs.Queue.{leaves, pushed, sent}
use Rattle.model.specs.Reply.{awaiting, queued, begun}
use Rattle.model.specs.Tick.{expired, s3, refreshed, Passed, stopped, passed, due_sent, pass_all, Ticked, with_passed, periodic, then_periodic, tick}
use Rattle.model.proofs.Laws.{either, either_by, memb-each}
use Rattle.model.proofs.Leaves.Replies.{queued-full, queued_3}
use Rattle.model.proofs.Leaves.Results.{refreshed-answered}
use Rattle.model.proofs.Leaves.Periodic.{due_8, due_4, due_3, due_frames, moved, stops_at, passed-clean, Met, met}

-- why a due entry meets a number: 8 and the error byte for an error value; 4 for a value that, with the identifier byte, exceeds the
-- limit; 3 for one that fits where 16 frames are held
abbrev pub Why : ℕ → Passed → ℕ → ℕ → Outcome → Type 0
Why limit a n err (error code) = (n ≡ 8) × (err ≡ code)
Why limit a n err (bytes b) = ((n ≡ 4) × (err ≡ 0) × (limit < suc (length b))) ⊎ ((n ≡ 3) × (err ≡ 0) × (suc (length b) ≤ limit) × (max_outbox ≤ length a.queue))

module _ (limit : ℕ) (now : Moment) (a : Passed) (e : Subscription) (n err : ℕ) where
  -- for those reasons a due entry stops the step
  pub why_stops : (o : Outcome) → Why limit a n err o → due_sent limit now a e o ≡ stopped a e n err
  why_stops (error code) w = rw (w.0, w.1) (due_8 limit now a e code)
  why_stops (bytes b) (inl w) = rw (w.0, w.1) (due_4 limit now a e b w.2)
  why_stops (bytes b) (inr w) = rw (w.0, w.1) (due_3 limit now a e b w.2 w.3)

  -- and for no others
  pub stops_why : (o : Outcome) → a.result ≡ 0 → (n ≡ 0 → ⊥) → due_sent limit now a e o ≡ stopped a e n err → Why limit a n err o
  unfolding due_sent passed sent pushed
  stops_why (error code) r z m = (sym (ap (λ (p : Passed). p.result) m), sym (ap (λ (p : Passed). p.err) m))
  stops_why (bytes b) r z m = long (leb (suc (length b)) limit) refl m
    where
      f : Frame
      f = record { dst = e.client; bytes = e.identifier % 256 ∷ b }

      full : (u : Bool) → ltb (length a.queue) max_outbox ≡ u → suc (length b) ≤ limit → passed now a e (pick u (leaves 0 (a.queue ++ (f ∷ []))) (leaves 3 a.queue)) ≡ stopped a e n err → Why limit a n err (bytes b)
      full true q l p = absurd (z (sym (ap (λ (p : Passed). p.result) p) ∙ r))
      full false q l p = inr (sym (ap (λ (p : Passed). p.result) p), sym (ap (λ (p : Passed). p.err) p), l, ltb-false (length a.queue) max_outbox q)

      long : (u : Bool) → leb (suc (length b)) limit ≡ u → passed now a e (pick u (pushed a.queue e.client (e.identifier % 256 ∷ b)) (leaves 4 a.queue)) ≡ stopped a e n err
          → Why limit a n err (bytes b)
      long true q p = full (ltb (length a.queue) max_outbox) refl (leb-true (suc (length b)) limit q) p
      long false q p = inl (sym (ap (λ (p : Passed). p.result) p), sym (ap (λ (p : Passed). p.err) p), leb-false (suc (length b)) limit q)

-- so the entry by which a periodic step met a number met it for one of those reasons
pub met_why : (limit : ℕ) (now : Moment) (t : Table) (es : List Subscription) (a : Passed) (n err : ℕ) (m : Met limit now t es a n err) → (n ≡ 0 → ⊥)
    → Why limit (pass_all limit now t m.before a) n err (value limit t m.entry.identifier)
met_why limit now t es a n err m z = stops_why limit now (pass_all limit now t m.before a) m.entry n err (value limit t m.entry.identifier) m.clean z m.meets

-- the periodic step's beginning
abbrev pub start : State → Passed
start s = record { result = 0; err = 0; entries = []; queue = s.queue }

-- the state after S3 and the pending step, with that step's result
abbrev pub awake : State → Moment → Step
awake s now = refreshed (s3 s now) now s.pending

-- S3 leaves the frames that wait
s3-queue : (s : State) (now : Moment) → (s3 s now).queue ≡ s.queue
unfolding s3
s3-queue s now = either (λ (u : State). u.queue ≡ s.queue) (expired s now) refl refl

-- the deadline of a pending request has come, and 16 frames wait
abbrev pub Overdue : State → Moment → Option PendingRequest → Type 0
Overdue s now o = (p : PendingRequest) × (o ≡ some p) × (p.deadline ≤ now) × (max_outbox ≤ length s.queue)

-- exactly then the pending step meets 3
refreshed_3 : (s : State) (now : Moment) (o : Option PendingRequest) → ((refreshed s now o).result ≡ 3) ↔ Overdue s now o
unfolding refreshed begun queued
refreshed_3 s now o = (there o, λ k. rw (k.1, le-leb k.0.deadline now k.2) ((full k.0).1 k.3))
  where
    full : (p : PendingRequest) → ((begun s p.dst p.sid now).result ≡ 3) ↔ (max_outbox ≤ length s.queue)
    full p = queued_3 (awaiting s p.dst p.sid now) p.dst (negative_frame p.sid 0x78)

    there : (o : Option PendingRequest) → (refreshed s now o).result ≡ 3 → Overdue s now o
    there none z = absurd (omega arith)
    there (some p) z =
        either_by (λ (x : Step). x.result ≡ 3 → Overdue s now (some p)) (leb p.deadline now) (λ d y. (p, refl, leb-true p.deadline now d, (full p).0 y)) (λ d y. absurd (omega arith)) z

-- and leaves the request pending anew, with no frame queued
refreshed_3_leaves : (s : State) (now : Moment) (p : PendingRequest) → p.deadline ≤ now → max_outbox ≤ length s.queue
    → refreshed s now (some p) ≡ step 3 (awaiting s p.dst p.sid now)
unfolding refreshed begun queued
refreshed_3_leaves s now p d h = rw (le-leb p.deadline now d) (queued-full (awaiting s p.dst p.sid now) p.dst (negative_frame p.sid 0x78) h)

-- and so it does after S3
pub awake_3 : (s : State) (now : Moment) → ((awake s now).result ≡ 3) ↔ Overdue s now s.pending
awake_3 s now =
    let e = refreshed_3 (s3 s now) now s.pending in
    (λ z. let k = e.0 z in (k.0, k.1, k.2, rw s3-queue at k.3), λ k. e.1 (k.0, k.1, k.2, rw s3-queue k.3))

-- a due entry that the tick comes to: neither the pending step nor an entry before it met a number
pub record Comes (limit : ℕ) (s : State) (now : Moment) (t : Table) : Type 0 where
  pub before : List Subscription
  pub entry : Subscription
  pub after : List Subscription
  pub goes_on : (awake s now).result ≡ 0
  pub split : (awake s now).state.periodic ≡ before ++ (entry ∷ after)
  pub clean : (pass_all limit now t before (start (awake s now).state)).result ≡ 0
  pub due : entry.next ≤ now

-- the periodic step as it is there
abbrev pub sofar : {limit : ℕ} {s : State} {now : Moment} {t : Table} → Comes limit s now t → Passed
sofar {limit} {s} {now} {t} d = pass_all limit now t d.before (start (awake s now).state)

-- a tick that stopped with a number: the frames of the earlier due entries are queued and those entries advanced; the rest stand
abbrev pub stopped_tick : ℕ → State → Moment → Table → List Subscription → List Subscription → ℕ → ℕ → Ticked
stopped_tick limit u now t earlier rest n err = record {
  err = err;
  step = step n (with_passed u (record { result = n; err = err; entries = map (moved now) earlier ++ rest; queue = u.queue ++ due_frames limit now t earlier }));
}

-- the reason for 8 is an error value, and the byte is its own
why_8 : (limit : ℕ) (a : Passed) (err : ℕ) (o : Outcome) → Why limit a 8 err o → o ≡ error err
why_8 limit a err (error code) w = rw w.1 refl
why_8 limit a err (bytes b) (inl w) = absurd (omega arith)
why_8 limit a err (bytes b) (inr w) = absurd (omega arith)

-- the reason for 4 is a value that, with the identifier byte, exceeds the limit
why_4 : (limit : ℕ) (a : Passed) (err : ℕ) (o : Outcome) → Why limit a 4 err o → (b : List ℕ) × (o ≡ bytes b) × (limit < suc (length b))
why_4 limit a err (error code) w = absurd (omega arith)
why_4 limit a err (bytes b) (inl w) = (b, refl, w.2)
why_4 limit a err (bytes b) (inr w) = absurd (omega arith)

-- the reason for 3 is a value that fits where 16 frames are held
why_3 : (limit : ℕ) (a : Passed) (err : ℕ) (o : Outcome) → Why limit a 3 err o → (b : List ℕ) × (o ≡ bytes b) × (suc (length b) ≤ limit) × (max_outbox ≤ length a.queue)
why_3 limit a err (error code) w = absurd (omega arith)
why_3 limit a err (bytes b) (inl w) = absurd (omega arith)
why_3 limit a err (bytes b) (inr w) = (b, refl, w.2, w.3)

module _ (limit : ℕ) (s : State) (now : Moment) (t : Table) (v : valid limit s ≡ true) (h : now ≤ max_time) where
  -- past 10 and 6, a tick is S3, the pending step and then the periodic step
  is_ticked : tick limit s now t ≡ then_periodic limit now t (awake s now)
  unfolding tick
  is_ticked = rw (v, le-leb now max_time h) refl

  -- result 3 of the pending step ends the tick
  pub tick-ends : (awake s now).result ≡ 3 → tick limit s now t ≡ record { err = 0; step = awake s now }
  unfolding then_periodic
  tick-ends e = rw (is_ticked, e) refl

  -- else the periodic step follows
  pub tick_goes_on : (awake s now).result ≡ 0 → tick limit s now t ≡ periodic limit now t (awake s now).state
  unfolding then_periodic
  tick_goes_on e = rw (is_ticked, e) refl

  -- an entry that is due after entries that met none
  module _ (xs ys : List Subscription) (e : Subscription) (r : (awake s now).result ≡ 0) (p : (awake s now).state.periodic ≡ xs ++ (e ∷ ys))
      (c : (pass_all limit now t xs (start (awake s now).state)).result ≡ 0) (d : e.next ≤ now) where
    -- for one of those reasons the tick stops at it
    pub tick_stops : (n err : ℕ) → (n ≡ 0 → ⊥) → Why limit (pass_all limit now t xs (start (awake s now).state)) n err (value limit t e.identifier)
        → tick limit s now t ≡ stopped_tick limit (awake s now).state now t xs (e ∷ ys) n err
    tick_stops n err z w =
        rw (tick_goes_on r, p, stops_at limit now t xs ys e (start u) n err z c d (why_stops limit now a e n err (value limit t e.identifier) w), clean.0, clean.1) refl
      where
        u : State
        u = (awake s now).state

        a : Passed
        a = pass_all limit now t xs (start u)

        clean : (a.entries ≡ map (moved now) xs) × (a.queue ≡ u.queue ++ due_frames limit now t xs) × (a.err ≡ 0)
        clean = passed-clean limit now t xs (start u) refl c

    -- 8, with the error byte, where its value is an error
    pub tick_8 : (code : ℕ) → value limit t e.identifier ≡ error code → tick limit s now t ≡ stopped_tick limit (awake s now).state now t xs (e ∷ ys) 8 code
    tick_8 code q = tick_stops 8 code (λ z. omega arith) (rw q (refl, refl))

    -- 4 where its value, with the identifier byte, exceeds the limit
    pub tick_4 : (b : List ℕ) → value limit t e.identifier ≡ bytes b → limit < suc (length b)
        → tick limit s now t ≡ stopped_tick limit (awake s now).state now t xs (e ∷ ys) 4 0
    tick_4 b q l = tick_stops 4 0 (λ z. omega arith) (rw q (inl (refl, refl, l)))

    -- 3 where its value fits and 16 frames are held by then
    pub tick_3 : (b : List ℕ) → value limit t e.identifier ≡ bytes b → suc (length b) ≤ limit → max_outbox ≤ length (pass_all limit now t xs (start (awake s now).state)).queue
        → tick limit s now t ≡ stopped_tick limit (awake s now).state now t xs (e ∷ ys) 3 0
    tick_3 b q l k = tick_stops 3 0 (λ z. omega arith) (rw q (inr (refl, refl, l, k)))

  -- the pending step meets 0 or 3
  zero_or_three : ((awake s now).result ≡ 0) ⊎ ((awake s now).result ≡ 3)
  zero_or_three = memb-each (λ n. (n ≡ 0) ⊎ (n ≡ 3)) (awake s now).result (0 ∷ 3 ∷ []) (inl refl, (inr refl, tt)) (refreshed-answered (s3 s now) now s.pending).result

  -- a tick that gives another number than 0 met 3 in its pending step, or in its periodic step an entry met that number
  pub tick_met : ((tick limit s now t).step.result ≡ 0 → ⊥)
      → ((awake s now).result ≡ 3)
      ⊎ Met limit now t (awake s now).state.periodic (start (awake s now).state) (tick limit s now t).step.result (tick limit s now t).err
  unfolding then_periodic
  tick_met = rw is_ticked (go (awake s now) zero_or_three)
    where
      go : (p : Step) → (p.result ≡ 0) ⊎ (p.result ≡ 3) → ((then_periodic limit now t p).step.result ≡ 0 → ⊥)
          → (p.result ≡ 3) ⊎ Met limit now t p.state.periodic (start p.state) (then_periodic limit now t p).step.result (then_periodic limit now t p).err
      go p (inl e) = rw (eq-eqb p.result 0 e) (λ z. inr (met limit now t p.state.periodic (start p.state) refl z))
      go p (inr e) = λ z. inl e

  -- a tick that gives another number than 3 met 0 in its pending step
  past : ((tick limit s now t).step.result ≡ 3 → ⊥) → (awake s now).result ≡ 0
  past z = go zero_or_three
    where
      go : ((awake s now).result ≡ 0) ⊎ ((awake s now).result ≡ 3) → (awake s now).result ≡ 0
      go (inl e) = e
      go (inr e) = absurd (z (ap (λ (k : Ticked). k.step.result) (tick-ends e) ∙ e))

  -- one that gives another number than 0 then came to an entry that met it, for one of the reasons above
  comes : (n : ℕ) → (n ≡ 0 → ⊥) → (awake s now).result ≡ 0 → (tick limit s now t).step.result ≡ n
      → (d : Comes limit s now t) × (err : ℕ) × Why limit (sofar d) n err (value limit t d.entry.identifier)
  comes n z r e = go (tick_met (λ f. z (sym e ∙ f)))
    where
      u : State
      u = (awake s now).state

      go : ((awake s now).result ≡ 3) ⊎ Met limit now t u.periodic (start u) (tick limit s now t).step.result (tick limit s now t).err
          → (d : Comes limit s now t) × (err : ℕ) × Why limit (sofar d) n err (value limit t d.entry.identifier)
      go (inl f) = absurd (omega arith)
      go (inr m) = (
        record { before = m.before; entry = m.entry; after = m.after; goes_on = r; split = m.split; clean = m.clean; due = m.due },
        (tick limit s now t).err,
        (rw e at (met_why limit now t u.periodic (start u) (tick limit s now t).step.result (tick limit s now t).err m (λ f. z (sym e ∙ f)))),
      )

  -- and for one of those it stops there
  stops_with : (d : Comes limit s now t) (n err : ℕ) → (n ≡ 0 → ⊥) → Why limit (sofar d) n err (value limit t d.entry.identifier) → (tick limit s now t).step.result ≡ n
  stops_with d n err z w = ap (λ (k : Ticked). k.step.result) (tick_stops d.before d.after d.entry d.goes_on d.split d.clean d.due n err z w)

  -- 8 is given exactly where it comes to an entry whose value is an error; `tick_8` says what it leaves
  pub tick_8_exactly : ((tick limit s now t).step.result ≡ 8) ↔ ((d : Comes limit s now t) × (code : ℕ) × (value limit t d.entry.identifier ≡ error code))
  tick_8_exactly = (
    (λ e. let k = comes 8 (λ z. omega arith) (past (λ z. omega arith)) e in (k.0, k.1, why_8 limit (sofar k.0) k.1 (value limit t k.0.entry.identifier) k.2)),
    (λ k. stops_with k.0 8 k.1 (λ z. omega arith) (rw k.2 (refl, refl))),
  )

  -- 4 exactly where it comes to one whose value, with the identifier byte, exceeds the limit; `tick_4` says what it leaves
  pub tick_4_exactly : ((tick limit s now t).step.result ≡ 4)
      ↔ ((d : Comes limit s now t) × ((b : List ℕ) × (value limit t d.entry.identifier ≡ bytes b) × (limit < suc (length b))))
  tick_4_exactly = (
    (λ e. let k = comes 4 (λ z. omega arith) (past (λ z. omega arith)) e in (k.0, why_4 limit (sofar k.0) k.1 (value limit t k.0.entry.identifier) k.2)),
    (λ k. stops_with k.0 4 0 (λ z. omega arith) (rw k.1.1 (inl (refl, refl, k.1.2)))),
  )

  -- 3 by a due frame: the tick comes to an entry whose value fits, and 16 frames are held by then
  abbrev pub DueFull : Type 0
  DueFull = (d : Comes limit s now t)
      × ((b : List ℕ) × (value limit t d.entry.identifier ≡ bytes b) × (suc (length b) ≤ limit) × (max_outbox ≤ length (sofar d).queue))

  -- 3 is given exactly where the pending step meets it, or a due frame does; `tick_3_leaves` and `tick_3` say what it leaves
  pub tick_3_exactly : ((tick limit s now t).step.result ≡ 3) ↔ (Overdue s now s.pending ⊎ DueFull)
  tick_3_exactly = (there zero_or_three, back)
    where
      there : ((awake s now).result ≡ 0) ⊎ ((awake s now).result ≡ 3) → (tick limit s now t).step.result ≡ 3 → Overdue s now s.pending ⊎ DueFull
      there (inl r) e = let k = comes 3 (λ z. omega arith) r e in inr (k.0, why_3 limit (sofar k.0) k.1 (value limit t k.0.entry.identifier) k.2)
      there (inr r) e = inl ((awake_3 s now).0 r)

      back : Overdue s now s.pending ⊎ DueFull → (tick limit s now t).step.result ≡ 3
      back (inl k) = let r = (awake_3 s now).1 k in ap (λ (x : Ticked). x.step.result) (tick-ends r) ∙ r
      back (inr k) = stops_with k.0 3 0 (λ z. omega arith) (rw k.1.1 (inr (refl, refl, k.1.2, k.1.3)))

  -- by the pending step 3 leaves the change of S3 and the request pending anew, and no entry had its turn
  pub tick_3_leaves : (p : PendingRequest) → s.pending ≡ some p → p.deadline ≤ now → max_outbox ≤ length s.queue
      → tick limit s now t ≡ record { err = 0; step = step 3 (awaiting (s3 s now) p.dst p.sid now) }
  tick_3_leaves p e d k =
      tick-ends ((awake_3 s now).1 (p, e, d, k))
      ∙ ap (λ (o : Option PendingRequest). record { err = 0; step = refreshed (s3 s now) now o }) e
      ∙ ap (λ (x : Step). record { err = 0; step = x }) (refreshed_3_leaves (s3 s now) now p d (rw s3-queue k))

  -- 0 leaves every due entry advanced and its frame queued, and all others as they stand
  pub tick_0_leaves : (tick limit s now t).step.result ≡ 0 → tick limit s now t ≡ stopped_tick limit (awake s now).state now t (awake s now).state.periodic [] 0 0
  tick_0_leaves e = go (past (λ z. omega arith))
    where
      u : State
      u = (awake s now).state

      go : (awake s now).result ≡ 0 → tick limit s now t ≡ stopped_tick limit u now t u.periodic [] 0 0
      go r =
          let z : (pass_all limit now t u.periodic (start u)).result ≡ 0 = rw (tick_goes_on r) at e in
          let c = passed-clean limit now t u.periodic (start u) refl z in
          rw (tick_goes_on r, z, c.0, c.1, c.2, append-nil) refl
