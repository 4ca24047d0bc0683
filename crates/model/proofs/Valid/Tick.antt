-- A tick keeps a state valid: the session opened, the deadline moved on, the due frames queued.
use Prim.Native.Nat.{ℕ, suc, ◌+◌, ◌≤◌, ◌%◌}
use mathlib.Core.Path.{◌≡◌, refl}
use mathlib.Core.Bool.{Bool, true, false, ◌&&◌}
use mathlib.Core.List.{List, [], ◌∷◌, ◌++◌}
use mathlib.Core.Option.{Option, some, none}
use native.Mathlib.Omega.{arith}
use lib.ListN.{length, length-append}
use lib.Dec.{leb, ltb, eqb}
use borrow.Author.Tests.{ltb-true, leb-true, le-leb}
use Rattle.model.specs.Tests.{pick, all}
use Rattle.model.specs.Numbers.{Moment, max_outbox, max_time, max_span, max_periodic}
use Rattle.model.specs.Values.{Outcome, bytes, error, Table, value}
use Rattle.model.specs.Frame.{Frame}
use Rattle.model.specs.State.{Subscription, PendingRequest, State, Step, moment_valid, subscription_valid}
use Rattle.model.specs.Queue.{leaves, pushed, sent}
use Rattle.model.specs.Tick.{expired, s3, refreshed, Passed, advanced, passed, due_sent, pass_one, pass_all, Ticked, periodic, then_periodic, ticked}
use Rattle.model.proofs.Laws.{both, left, right, either, all_snoc, within-length, within_all, table-within}
use Rattle.model.specs.Reply.{begun}
use Rattle.model.proofs.Valid.Parts.{Queued, Valid, later-valid}
use Rattle.model.proofs.Valid.Replies.{ValidStep, frames_snoc, begun-valid}
use Rattle.model.proofs.Valid.Services.{cleared-valid}

-- the periodic step so far: the entries passed, with as many still to come, fit the table; and the queue keeps the numbers
pub record Standing (limit : ℕ) (rest : List Subscription) (a : Passed) : Type 0 where
  pub entries : all subscription_valid a.entries ≡ true
  pub size : length a.entries + length rest ≤ max_periodic
  pub queue : Queued limit a.queue

-- a subscription sent at a time that is handed in is as good as it was
advanced-valid : (now : Moment) (e : Subscription) → now ≤ max_time → subscription_valid e ≡ true → subscription_valid (advanced now e) ≡ true
advanced-valid now e t h =
    let interval = left (ltb e.interval max_span) (moment_valid e.next) h in both interval (later-valid now e.interval t (ltb-true e.interval max_span interval))

module _ (limit : ℕ) (now : Moment) (t : Table) (time : now ≤ max_time) where
  -- an entry that passes, as it stands or changed, and a queue
  passed_on : (rest : List Subscription) (a : Passed) (e f : Subscription) (n err : ℕ) (q : List Frame)
      → Standing limit (e ∷ rest) a → subscription_valid f ≡ true → Queued limit q
      → Standing limit rest (record { result = n; err = err; entries = a.entries ++ (f ∷ []); queue = q })
  passed_on rest a e f n err q h g k = record {
    entries = all_snoc subscription_valid a.entries f h.entries g;
    size = let s = h.size in rw length-append (omega arith);
    queue = k;
  }

  -- a due entry
  due-stands : (rest : List Subscription) (a : Passed) (e : Subscription) (o : Outcome) → Standing limit (e ∷ rest) a → subscription_valid e ≡ true
      → Standing limit rest (due_sent limit now a e o)
  unfolding due_sent passed sent pushed
  due-stands rest a e (error code) h g = passed_on rest a e e 8 code a.queue h g h.queue
  due-stands rest a e (bytes b) h g = long (leb (suc (length b)) limit) refl
    where
      f : Frame
      f = record { dst = e.client; bytes = e.identifier % 256 ∷ b }

      full : (u : Bool) → ltb (length a.queue) max_outbox ≡ u → suc (length b) ≤ limit → Standing limit rest (passed now a e (pick u (leaves 0 (a.queue ++ (f ∷ []))) (leaves 3 a.queue)))
      full true r l =
          passed_on rest a e (advanced now e) a.result a.err (a.queue ++ (f ∷ [])) h (advanced-valid now e time g)
          (frames_snoc limit a.queue f h.queue
          (both (le-leb 1 (suc (length b)) (omega arith)) (le-leb (suc (length b)) limit l)) (ltb-true (length a.queue) max_outbox r))
      full false r l = passed_on rest a e e 3 0 a.queue h g h.queue

      long : (u : Bool) → leb (suc (length b)) limit ≡ u → Standing limit rest (passed now a e (pick u (pushed a.queue e.client (e.identifier % 256 ∷ b)) (leaves 4 a.queue)))
      long true r = full (ltb (length a.queue) max_outbox) refl (leb-true (suc (length b)) limit r)
      long false r = passed_on rest a e e 4 0 a.queue h g h.queue

  -- one entry, due or not
  one_stands : (rest : List Subscription) (a : Passed) (e : Subscription) → Standing limit (e ∷ rest) a → subscription_valid e ≡ true → Standing limit rest (pass_one limit now t a e)
  unfolding pass_one
  one_stands rest a e h g =
      either (Standing limit rest) (eqb a.result 0 && leb e.next now) (due-stands rest a e (value limit t e.identifier) h g)
      (passed_on rest a e e a.result a.err a.queue h g h.queue)

  -- all of them
  all_stand : (es : List Subscription) (a : Passed) → Standing limit es a → all subscription_valid es ≡ true → Standing limit [] (pass_all limit now t es a)
  all_stand [] a h g = h
  all_stand (e ∷ es) a h g =
      all_stand es (pass_one limit now t a e) (one_stands es a e h (left (subscription_valid e) (all subscription_valid es) g)) (right (subscription_valid e) (all subscription_valid es) g)

  -- the periodic step
  periodic-valid : (s : State) → Valid limit s → ValidStep limit (periodic limit now t s).step
  periodic-valid s h = record {
    config = h.config;
    last_rx = h.last_rx;
    security = h.security;
    periodic = let n = end.size in table-within max_periodic subscription_valid passed.entries (omega arith) end.entries;
    pending = h.pending;
    queue = end.queue;
  }
    where
      start : Passed
      start = record { result = 0; err = 0; entries = []; queue = s.queue }

      passed : Passed
      passed = pass_all limit now t s.periodic start

      end : Standing limit [] passed
      end =
          all_stand s.periodic start
          (record { entries = refl; size = let n = within-length max_periodic subscription_valid s.periodic h.periodic in omega arith; queue = h.queue })
          (within_all max_periodic subscription_valid s.periodic h.periodic)

  module _ (room : 3 ≤ limit) where
    -- S3
    s3-valid : (s : State) → Valid limit s → Valid limit (s3 s now)
    unfolding s3
    s3-valid s h =
        either (Valid limit) (expired s now)
        (record { config = h.config; last_rx = h.last_rx; security = cleared-valid s.security h.security; periodic = h.periodic; pending = h.pending; queue = h.queue }) h

    -- the pending step: 0x78 as when the request became pending
    refreshed-valid : (s : State) (o : Option PendingRequest) → Valid limit s → ValidStep limit (refreshed s now o)
    unfolding refreshed begun
    refreshed-valid s none h = h
    refreshed-valid s (some p) h =
        either (ValidStep limit) (leb p.deadline now)
        (begun-valid limit room s p.dst p.sid now time h)
        h

    -- the whole tick
    pub ticked-valid : (s : State) → Valid limit s → ValidStep limit (ticked limit s now t).step
    unfolding then_periodic
    ticked-valid s h = go (refreshed (s3 s now) now s.pending) (refreshed-valid (s3 s now) s.pending (s3-valid s h))
      where
        go : (p : Step) → ValidStep limit p → ValidStep limit (then_periodic limit now t p).step
        go p k = either (λ (u : Ticked). ValidStep limit u.step) (eqb p.result 0) (periodic-valid p.state k) k
