-- A tick's periodic step: what 8, 4 and 3 mean and leave. Before the entry that meets one, the due ones are queued and advanced;
-- that entry and those after it stand.
use Prim.Native.Nat.{ℕ, suc, ◌≤◌, ◌<◌, ◌%◌}
use mathlib.Core.Path.{◌≡◌, refl, ap, sym, ◌∙◌}
use mathlib.Core.Bool.{Bool, true, false}
use mathlib.Core.List.{List, [], ◌∷◌, ◌++◌, map, append-nil, append_assoc}
use native.Mathlib.Omega.{arith}
use lib.ListN.{length}
use lib.Dec.{leb, ltb, eqb}
use borrow.Author.Tests.{leb-true, lt-leb, le-leb, le-ltb, eqb-true, eqb-false, ne_eqb, eq-eqb}
use Rattle.model.specs.Tests.{pick}
use Rattle.model.specs.Numbers.{Moment, max_outbox}
use Rattle.model.specs.Values.{Outcome, bytes, error, Table, value}
use Rattle.model.specs.Frame.{Frame}
use Rattle.model.specs.State.{Subscription}
use Rattle.model.specs.Queue.{QueueStep, pushed, sent}
use Rattle.model.specs.Tick.{Passed, kept, stopped, advanced, passed, due_sent, pass_one, pass_all}
use Rattle.model.proofs.Laws.{either}

-- an error value meets 8, whatever the queue, and its byte goes with it
pub due_8 : (limit : ℕ) (now : Moment) (a : Passed) (e : Subscription) (code : ℕ) → due_sent limit now a e (error code) ≡ stopped a e 8 code
unfolding due_sent
due_8 limit now a e code = refl

-- a value that exceeds the limit, with the identifier byte, meets 4, even where 16 frames are held
pub due_4 : (limit : ℕ) (now : Moment) (a : Passed) (e : Subscription) (b : List ℕ) → limit < suc (length b) → due_sent limit now a e (bytes b) ≡ stopped a e 4 0
unfolding due_sent passed sent
due_4 limit now a e b h = rw (lt-leb (suc (length b)) limit h) refl

-- a value that fits meets 3 where 16 frames are held
pub due_3 : (limit : ℕ) (now : Moment) (a : Passed) (e : Subscription) (b : List ℕ) → suc (length b) ≤ limit → max_outbox ≤ length a.queue
    → due_sent limit now a e (bytes b) ≡ stopped a e 3 0
unfolding due_sent passed sent pushed
due_3 limit now a e b h k = rw (le-leb (suc (length b)) limit h, le-ltb (length a.queue) max_outbox k) refl

-- an entry as it is after its turn: advanced if it was due
abbrev pub moved : Moment → Subscription → Subscription
moved now e = pick (leb e.next now) (advanced now e) e

-- the frame of a value
abbrev pub frame_of : Subscription → Outcome → List Frame
frame_of e (bytes b) = record { dst = e.client; bytes = e.identifier % 256 ∷ b } ∷ []
frame_of e (error code) = []

-- an entry's frame, if it is due
abbrev pub due_frame : ℕ → Moment → Table → Subscription → List Frame
due_frame limit now t e = pick (leb e.next now) (frame_of e (value limit t e.identifier)) []

-- the frames of the due entries in table order
abbrev pub due_frames : ℕ → Moment → Table → List Subscription → List Frame
due_frames limit now t [] = []
due_frames limit now t (e ∷ es) = due_frame limit now t e ++ due_frames limit now t es

module _ (limit : ℕ) (now : Moment) (t : Table) where
  -- entries are passed in table order: the first of two parts, then the second
  pub pass_all_split : (xs ys : List Subscription) (a : Passed) → pass_all limit now t (xs ++ ys) a ≡ pass_all limit now t ys (pass_all limit now t xs a)
  pass_all_split [] ys a = refl
  pass_all_split (x ∷ xs) ys a = pass_all_split xs ys (pass_one limit now t a x)

  -- once the result is not 0 the later entries stand: queue, result and error byte are kept
  pub later_stand : (ys : List Subscription) (a : Passed) → (a.result ≡ 0 → ⊥)
      → pass_all limit now t ys a ≡ record { result = a.result; err = a.err; entries = a.entries ++ ys; queue = a.queue }
  unfolding pass_one
  later_stand [] a h = rw append-nil refl
  later_stand (e ∷ ys) a h = rw (ne_eqb a.result 0 h) (rw (later_stand ys (kept a e) h, append_assoc a.entries (e ∷ []) ys) refl)

  -- a due entry that meets a result stops the step: it and those after it stand
  stop_one : (ys : List Subscription) (e : Subscription) (a : Passed) (n err : ℕ) → (n ≡ 0 → ⊥) → a.result ≡ 0 → e.next ≤ now
      → due_sent limit now a e (value limit t e.identifier) ≡ stopped a e n err
      → pass_all limit now t (e ∷ ys) a ≡ record { result = n; err = err; entries = a.entries ++ (e ∷ ys); queue = a.queue }
  unfolding pass_one
  stop_one ys e a n err z r d m =
      rw (eq-eqb a.result 0 r, le-leb e.next now d, m) (rw (later_stand ys (stopped a e n err) z, append_assoc a.entries (e ∷ []) ys) refl)

  -- so too after others that met none: what they queued and advanced stays
  pub stops_at : (xs ys : List Subscription) (e : Subscription) (a : Passed) (n err : ℕ) → (n ≡ 0 → ⊥)
      → (pass_all limit now t xs a).result ≡ 0 → e.next ≤ now
      → due_sent limit now (pass_all limit now t xs a) e (value limit t e.identifier) ≡ stopped (pass_all limit now t xs a) e n err
      → pass_all limit now t (xs ++ (e ∷ ys)) a
      ≡ record { result = n; err = err; entries = (pass_all limit now t xs a).entries ++ (e ∷ ys); queue = (pass_all limit now t xs a).queue }
  stops_at xs ys e a n err z r d m = pass_all_split xs (e ∷ ys) a ∙ stop_one ys e (pass_all limit now t xs a) n err z r d m

  -- a step that ends with 0 had 0 all along
  was_0 : (ys : List Subscription) (a : Passed) → (pass_all limit now t ys a).result ≡ 0 → a.result ≡ 0
  was_0 ys a e = go (eqb a.result 0) refl
    where
      go : (b : Bool) → eqb a.result 0 ≡ b → a.result ≡ 0
      go true q = eqb-true a.result 0 q
      go false q = sym (ap (λ (p : Passed). p.result) (later_stand ys a (eqb-false a.result 0 q))) ∙ e

  -- a due entry that met nothing is advanced, its frame queued, and no error byte set
  due-clean : (a : Passed) (e : Subscription) (o : Outcome) → (due_sent limit now a e o).result ≡ 0
      → ((due_sent limit now a e o).entries ≡ a.entries ++ (advanced now e ∷ [])) × ((due_sent limit now a e o).queue ≡ a.queue ++ frame_of e o) × ((due_sent limit now a e o).err ≡ a.err)
  unfolding due_sent passed sent pushed
  due-clean a e (error code) z = absurd (omega arith)
  due-clean a e (bytes b) z =
      either Clean (leb (suc (length b)) limit) (either Clean (ltb (length a.queue) max_outbox) (λ y. (refl, refl, refl)) (λ y. absurd (omega arith))) (λ y. absurd (omega arith)) z
    where
      Clean : QueueStep → Type 0
      Clean p = (passed now a e p).result ≡ 0
          → ((passed now a e p).entries ≡ a.entries ++ (advanced now e ∷ [])) × ((passed now a e p).queue ≡ a.queue ++ frame_of e (bytes b)) × ((passed now a e p).err ≡ a.err)

  -- one that was not due stands, and queues nothing
  one_clean : (a : Passed) (e : Subscription) → a.result ≡ 0 → (pass_one limit now t a e).result ≡ 0
      → ((pass_one limit now t a e).entries ≡ a.entries ++ (moved now e ∷ []))
      × ((pass_one limit now t a e).queue ≡ a.queue ++ due_frame limit now t e)
      × ((pass_one limit now t a e).err ≡ a.err)
  unfolding pass_one
  one_clean a e r = rw (eq-eqb a.result 0 r) (go (leb e.next now))
    where
      one : Bool → Passed
      one u = pick u (due_sent limit now a e (value limit t e.identifier)) (kept a e)

      go : (u : Bool) → (one u).result ≡ 0
          → ((one u).entries ≡ a.entries ++ (pick u (advanced now e) e ∷ []))
          × ((one u).queue ≡ a.queue ++ pick u (frame_of e (value limit t e.identifier)) [])
          × ((one u).err ≡ a.err)
      go true z = due-clean a e (value limit t e.identifier) z
      go false z = (refl, sym (append-nil a.queue), refl)

  -- so where no entry met a result, each due one is advanced and its frame queued, in table order
  pub passed-clean : (xs : List Subscription) (a : Passed) → a.result ≡ 0 → (pass_all limit now t xs a).result ≡ 0
      → ((pass_all limit now t xs a).entries ≡ a.entries ++ map (moved now) xs)
      × ((pass_all limit now t xs a).queue ≡ a.queue ++ due_frames limit now t xs)
      × ((pass_all limit now t xs a).err ≡ a.err)
  passed-clean [] a r z = (sym (append-nil a.entries), sym (append-nil a.queue), refl)
  passed-clean (e ∷ xs) a r z =
      let r' = was_0 xs (pass_one limit now t a e) z in
      let one = one_clean a e r r' in
      let rest = passed-clean xs (pass_one limit now t a e) r' z in (
        rest.0 ∙ ap (λ (l : List Subscription). l ++ map (moved now) xs) one.0 ∙ append_assoc a.entries (moved now e ∷ []) (map (moved now) xs),
        rest.1 ∙ ap (λ (q : List Frame). q ++ due_frames limit now t xs) one.1 ∙ append_assoc a.queue (due_frame limit now t e) (due_frames limit now t xs),
        rest.2 ∙ one.2,
      )

  -- an entry that met a number: it was due, and those before it met none
  pub record Met (es : List Subscription) (a : Passed) (n err : ℕ) : Type 0 where
    pub before : List Subscription
    pub entry : Subscription
    pub after : List Subscription
    pub split : es ≡ before ++ (entry ∷ after)
    pub clean : (pass_all limit now t before a).result ≡ 0
    pub due : entry.next ≤ now
    pub meets : due_sent limit now (pass_all limit now t before a) entry (value limit t entry.identifier) ≡ stopped (pass_all limit now t before a) entry n err

  -- a due entry either is sent, with 0, or stops the step
  due_stops : (a : Passed) (e : Subscription) (o : Outcome) → a.result ≡ 0 → ((due_sent limit now a e o).result ≡ 0 → ⊥)
      → due_sent limit now a e o ≡ stopped a e (due_sent limit now a e o).result (due_sent limit now a e o).err
  unfolding due_sent passed sent pushed
  due_stops a e (error code) r z = refl
  due_stops a e (bytes b) r z = either Stops (leb (suc (length b)) limit) (either Stops (ltb (length a.queue) max_outbox) (λ y. absurd (y r)) (λ y. refl)) (λ y. refl) z
    where
      Stops : QueueStep → Type 0
      Stops p = ((passed now a e p).result ≡ 0 → ⊥) → passed now a e p ≡ stopped a e (passed now a e p).result (passed now a e p).err

  -- one entry that changes a result from 0 was due, and met it
  one_met : (a : Passed) (e : Subscription) → a.result ≡ 0 → ((pass_one limit now t a e).result ≡ 0 → ⊥)
      → (e.next ≤ now) × (due_sent limit now a e (value limit t e.identifier) ≡ stopped a e (pass_one limit now t a e).result (pass_one limit now t a e).err)
  unfolding pass_one
  one_met a e r = rw (eq-eqb a.result 0 r) (go (leb e.next now) refl)
    where
      go : (u : Bool) → leb e.next now ≡ u → ((pick u (due_sent limit now a e (value limit t e.identifier)) (kept a e)).result ≡ 0 → ⊥)
          → (e.next ≤ now) × (due_sent limit now a e (value limit t e.identifier)
          ≡ stopped a e (pick u (due_sent limit now a e (value limit t e.identifier)) (kept a e)).result (pick u (due_sent limit now a e (value limit t e.identifier)) (kept a e)).err)
      go true d z = (leb-true e.next now d, due_stops a e (value limit t e.identifier) r z)
      go false d z = absurd (z r)

  -- a step that ends with a number other than 0 has such an entry
  pub met : (es : List Subscription) (a : Passed) → a.result ≡ 0 → ((pass_all limit now t es a).result ≡ 0 → ⊥)
      → Met es a (pass_all limit now t es a).result (pass_all limit now t es a).err
  met [] a r z = absurd (z r)
  met (e ∷ es) a r z = go (eqb (pass_one limit now t a e).result 0) refl (met es (pass_one limit now t a e))
    where
      b : Passed
      b = pass_one limit now t a e

      go : (u : Bool) → eqb b.result 0 ≡ u → (b.result ≡ 0 → ((pass_all limit now t es b).result ≡ 0 → ⊥) → Met es b (pass_all limit now t es b).result (pass_all limit now t es b).err)
          → Met (e ∷ es) a (pass_all limit now t es b).result (pass_all limit now t es b).err
      go true q ih =
          let m = ih (eqb-true b.result 0 q) z in
          record { before = e ∷ m.before; entry = m.entry; after = m.after; split = ap (λ (l : List Subscription). e ∷ l) m.split; clean = m.clean; due = m.due; meets = m.meets }
      go false q ih = rw (later_stand es b (eqb-false b.result 0 q))
          (let m = one_met a e r (eqb-false b.result 0 q) in record { before = []; entry = e; after = es; split = refl; clean = r; due = m.0; meets = m.1 })
