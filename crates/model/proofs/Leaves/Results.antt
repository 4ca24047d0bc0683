-- The result numbers: which ones a call may give, and the two that come first in every call. 10 where the state handed in is not
-- valid, then 6 where the time is above 2^48: either leaves all unchanged.
use Prim.Native.Nat.{ℕ, suc, ◌≤◌, ◌<◌}
use mathlib.Core.Path.{◌≡◌, refl}
use mathlib.Core.Bool.{true, false, ◌&&◌}
use mathlib.Core.List.{List, [], ◌∷◌}
use mathlib.Core.Option.{Option, some, none}
use native.Mathlib.Omega.{arith}
use lib.ListN.{length}
use lib.Dec.{leb, ltb, eqb}
use borrow.Author.Tests.{le-leb, lt-leb}
use Rattle.model.specs.Tests.{pick, memb}
use Rattle.model.specs.Numbers.{Moment, max_time, max_outbox}
use Rattle.model.specs.Values.{Outcome, bytes, error, Table, value}
use Rattle.model.specs.Frame.{sid_of, negative_frame}
use Rattle.model.specs.State.{AddressMode, Subscription, PendingRequest, State, Step, step, valid, with_pending, received}
use Rattle.model.specs.Reply.{begun}
use Rattle.model.specs.Service.{no_act}
use Rattle.model.specs.Request.{Request, Answer, served, carried, length_fits, heard, addressed, routed, request}
use Rattle.model.specs.Question.{bare, asked_of, question}
use Rattle.model.specs.Pending.{completed, failed, complete, fail}
use Rattle.model.specs.Tick.{s3, refreshed, Passed, passed, due_sent, pass_one, pass_all, Ticked, periodic, then_periodic, ticked, tick}
use Rattle.model.specs.Queue.{QueueStep, QueueDrain, pushed, sent, records, drained}
use Rattle.model.specs.Drain.{drain}
use Rattle.model.specs.History.{Call, requests, questions, ticks, completes, fails, drains, Done, call}
use Rattle.model.proofs.Laws.{either, Each, memb-each}
use Rattle.model.proofs.Leaves.Replies.{Answered, done-answered, queued-answered, confirmed-answered, begun-answered, apply_gives}
use Rattle.model.proofs.Valid.Parts.{valid_parts}

-- when a call is made: a drain has no time, and 0 serves for it
abbrev pub time_of : Call → Moment
time_of (requests r) = r.inbound.time
time_of (questions i) = i.time
time_of (ticks now t) = now
time_of (completes now payload) = now
time_of (fails now code) = now
time_of (drains buffer) = 0

-- the buffer lent to a call: only a drain has one
abbrev pub lent_to : Call → List ℕ
lent_to (requests r) = []
lent_to (questions i) = []
lent_to (ticks now t) = []
lent_to (completes now payload) = []
lent_to (fails now code) = []
lent_to (drains buffer) = buffer

-- refused with a number, all unchanged: the state, and a drain's buffer, with no frame drained
abbrev pub refused_by : ℕ → State → Call → Done
refused_by n s c = record { shown = record { result = n; err = 0; act = no_act; count = 0; buffer = lent_to c }; state = s }

-- what a call may give once it is neither 10 nor 6
abbrev pub passing : Call → List ℕ
passing (requests r) = 0 ∷ 2 ∷ 3 ∷ []
passing (questions i) = 0 ∷ 2 ∷ []
passing (ticks now t) = 0 ∷ 3 ∷ 4 ∷ 8 ∷ []
passing (completes now payload) = 0 ∷ 1 ∷ 3 ∷ []
passing (fails now code) = 0 ∷ 1 ∷ 3 ∷ []
passing (drains buffer) = 0 ∷ 5 ∷ []

-- and what it may give at all
abbrev pub may_give : Call → List ℕ
may_give (requests r) = 0 ∷ 2 ∷ 3 ∷ 6 ∷ 10 ∷ []
may_give (questions i) = 0 ∷ 2 ∷ 6 ∷ 10 ∷ []
may_give (ticks now t) = 0 ∷ 3 ∷ 4 ∷ 6 ∷ 8 ∷ 10 ∷ []
may_give (completes now payload) = 0 ∷ 1 ∷ 3 ∷ 6 ∷ 10 ∷ []
may_give (fails now code) = 0 ∷ 1 ∷ 3 ∷ 6 ∷ 10 ∷ []
may_give (drains buffer) = 0 ∷ 5 ∷ 10 ∷ []

-- what a reply gives, 0 or 3, is one of more numbers
among : (ns : List ℕ) {s : State} {p : Step} → Each (λ n. memb n ns ≡ true) (0 ∷ 3 ∷ []) → Answered s p → memb p.result ns ≡ true
among ns {p = p} e a = memb-each (λ n. memb n ns ≡ true) p.result (0 ∷ 3 ∷ []) e a.result

-- a request that is heard gives 0, 2 or 3
heard_gives : (limit : ℕ) (s : State) (r : Request) (o : Option PendingRequest) → memb (heard limit s r o).step.result (0 ∷ 2 ∷ 3 ∷ []) ≡ true
unfolding heard
heard_gives limit s r (some p) = among (0 ∷ 2 ∷ 3 ∷ []) (refl, (refl, tt)) (queued-answered s r.inbound.dst (negative_frame (sid_of r.inbound.frame) 0x21))
heard_gives limit s r none =
    either (λ (a : Answer). memb a.step.result (0 ∷ 2 ∷ 3 ∷ []) ≡ true) (length_fits r.inbound.frame)
    (memb-each (λ n. memb n (0 ∷ 2 ∷ 3 ∷ []) ≡ true) (carried limit s r.inbound (served limit s r)).step.result (0 ∷ 3 ∷ []) (refl, (refl, tt))
    (apply_gives limit s r.inbound.src (sid_of r.inbound.frame) r.inbound.time (served limit s r).effect))
    refl

-- and so does one that is routed
routed_gives : (limit : ℕ) (s : State) (r : Request) (o : Option AddressMode) → memb (routed limit s r o).step.result (0 ∷ 2 ∷ 3 ∷ []) ≡ true
unfolding routed
routed_gives limit s r none = refl
routed_gives limit s r (some m) = heard_gives limit (received s m r.inbound.time) r s.pending

-- a pending request's answer gives 0, 1 or 3
completed_gives : (limit : ℕ) (s : State) (payload : List ℕ) (o : Option PendingRequest) → memb (completed limit s payload o).result (0 ∷ 1 ∷ 3 ∷ []) ≡ true
unfolding completed
completed_gives limit s payload none = refl
completed_gives limit s payload (some p) = among (0 ∷ 1 ∷ 3 ∷ []) (refl, (refl, tt)) (confirmed-answered limit (with_pending s none) p.dst p.sid payload)

-- and so does its failure
failed_gives : (s : State) (code : ℕ) (o : Option PendingRequest) → memb (failed s code o).result (0 ∷ 1 ∷ 3 ∷ []) ≡ true
unfolding failed
failed_gives s code none = refl
failed_gives s code (some p) = among (0 ∷ 1 ∷ 3 ∷ []) (refl, (refl, tt)) (queued-answered (with_pending s none) p.dst (negative_frame p.sid code))

-- a tick's pending step gives 0 or 3
pub refreshed-answered : (s : State) (now : Moment) (o : Option PendingRequest) → Answered s (refreshed s now o)
unfolding refreshed begun
refreshed-answered s now none = done-answered s
refreshed-answered s now (some p) = either (Answered s) (leb p.deadline now) (begun-answered s p.dst p.sid now) (done-answered s)

-- the numbers of its periodic step: 0, 3, 4 or 8
abbrev Periodic : Passed → Type 0
Periodic a = memb a.result (0 ∷ 3 ∷ 4 ∷ 8 ∷ []) ≡ true

-- a due entry meets one of those
due-result : (limit : ℕ) (now : Moment) (a : Passed) (e : Subscription) (o : Outcome) → Periodic a → Periodic (due_sent limit now a e o)
unfolding due_sent passed sent pushed
due-result limit now a e (error code) h = refl
due-result limit now a e (bytes b) h = either Going (leb (suc (length b)) limit) (either Going (ltb (length a.queue) max_outbox) h refl) refl
  where
    Going : QueueStep → Type 0
    Going p = Periodic (passed now a e p)

-- so the whole step does
pass_all-result : (limit : ℕ) (now : Moment) (t : Table) (es : List Subscription) (a : Passed) → Periodic a → Periodic (pass_all limit now t es a)
unfolding pass_one
pass_all-result limit now t [] a h = h
pass_all-result limit now t (e ∷ es) a h =
    pass_all-result limit now t es (pass_one limit now t a e) (either Periodic (eqb a.result 0 && leb e.next now) (due-result limit now a e (value limit t e.identifier) h) h)

-- and the tick does
ticked-result : (limit : ℕ) (s : State) (now : Moment) (t : Table) → memb (ticked limit s now t).step.result (0 ∷ 3 ∷ 4 ∷ 8 ∷ []) ≡ true
unfolding then_periodic
ticked-result limit s now t = go (refreshed (s3 s now) now s.pending) (refreshed-answered (s3 s now) now s.pending)
  where
    go : (p : Step) → Answered (s3 s now) p → memb (then_periodic limit now t p).step.result (0 ∷ 3 ∷ 4 ∷ 8 ∷ []) ≡ true
    go p a =
        either (λ (u : Ticked). memb u.step.result (0 ∷ 3 ∷ 4 ∷ 8 ∷ []) ≡ true) (eqb p.result 0)
        (pass_all-result limit now t p.state.periodic (record { result = 0; err = 0; entries = []; queue = p.state.queue }) refl)
        (among (0 ∷ 3 ∷ 4 ∷ 8 ∷ []) (refl, (refl, tt)) a)

-- 10: a state that is not valid is refused by every call, and nothing changes
pub call_10 : (limit : ℕ) (s : State) (c : Call) → valid limit s ≡ false → call limit s c ≡ refused_by 10 s c
unfolding call request question asked_of tick complete fail drain
call_10 limit s (requests r) e = rw e
call_10 limit s (questions i) e = rw e
call_10 limit s (ticks now t) e = rw e
call_10 limit s (completes now payload) e = rw e
call_10 limit s (fails now code) e = rw e
call_10 limit s (drains buffer) e = rw e

-- 6: a time above 2^48 is refused by every call that has one, and nothing changes
pub call_6 : (limit : ℕ) (s : State) (c : Call) → valid limit s ≡ true → max_time < time_of c → call limit s c ≡ refused_by 6 s c
unfolding call request question asked_of tick complete fail
call_6 limit s (requests r) e h = rw (e, lt-leb r.inbound.time max_time h)
call_6 limit s (questions i) e h = rw (e, lt-leb i.time max_time h)
call_6 limit s (ticks now t) e h = rw (e, lt-leb now max_time h)
call_6 limit s (completes now payload) e h = rw (e, lt-leb now max_time h)
call_6 limit s (fails now code) e h = rw (e, lt-leb now max_time h)
call_6 limit s (drains buffer) e h = absurd (omega arith)

-- a valid state and a time up to 2^48: the other numbers
pub call_passing : (limit : ℕ) (s : State) (c : Call) → valid limit s ≡ true → time_of c ≤ max_time → memb (call limit s c).shown.result (passing c) ≡ true
unfolding call request question asked_of tick complete fail drain drained
call_passing limit s (requests r) e h = rw (e, le-leb r.inbound.time max_time h) (routed_gives limit s r (addressed s.config r.inbound.dst))
call_passing limit s (questions i) e h =
    rw (e, le-leb i.time max_time h)
    (memb-each (λ n. memb (pick (memb n (10 ∷ 6 ∷ 2 ∷ [])) n 0) (0 ∷ 2 ∷ []) ≡ true)
    (routed limit s (bare i) (addressed s.config i.dst)).step.result (0 ∷ 2 ∷ 3 ∷ []) (refl, (refl, (refl, tt)))
    (routed_gives limit s (bare i) (addressed s.config i.dst)))
call_passing limit s (ticks now t) e h = rw (e, le-leb now max_time h) (ticked-result limit s now t)
call_passing limit s (completes now payload) e h = rw (e, le-leb now max_time h) (completed_gives limit s payload s.pending)
call_passing limit s (fails now code) e h = rw (e, le-leb now max_time h) (failed_gives s code s.pending)
call_passing limit s (drains buffer) e h =
    rw (e, (valid_parts limit s e).queue) (either (λ (d : QueueDrain). memb d.result (0 ∷ 5 ∷ []) ≡ true) (leb (length (records s.queue)) (length buffer)) refl refl)
