-- What the parts of a call keep, every call keeps, and so does a history: said once of any property of configuration, security and subscriptions.
use Prim.Native.Nat.{ℕ, suc}
use mathlib.Core.Bool.{◌&&◌}
use mathlib.Core.List.{List, [], ◌∷◌, ◌++◌, append-nil, append_assoc}
use mathlib.Core.Option.{Option, some, none}
use lib.ListN.{length}
use lib.Dec.{eqb, leb, ltb}
use Rattle.model.specs.Numbers.{Moment, max_outbox, max_time}
use Rattle.model.specs.Config.{Config, find_service}
use Rattle.model.specs.Values.{Outcome, bytes, error, Table, value}
use Rattle.model.specs.Frame.{sid_of, negative_frame}
use Rattle.model.specs.State.{Session, Security, Subscription, PendingRequest, AddressMode, State, Step, step, valid, with_pending, received, cleared}
use Rattle.model.specs.Service.{Seen, Served}
use Rattle.model.specs.Request.{Request, Answer, seen, served, length_fits, heard, addressed, routed, request}
use Rattle.model.specs.Pending.{completed, failed, complete, fail}
use Rattle.model.specs.Tick.{expired, s3, refreshed, Passed, advanced, passed, due_sent, pass_one, pass_all, Ticked, begins, then_periodic, ticked, tick}
use Rattle.model.specs.Queue as Queue
use Rattle.model.specs.Queue.{QueueStep, pushed}
use Rattle.model.specs.Drain.{Drained, drain}
use Rattle.model.specs.History.{Call, requests, questions, ticks, completes, fails, drains, call, run}
use Rattle.model.proofs.Dispatch.{at_guarded}
use Rattle.model.proofs.Laws.{either}
use Rattle.model.proofs.Leaves.Replies.{queued-answered, confirmed-answered, answered_on, apply_on}
use Rattle.model.proofs.Leaves.Results.{refreshed-answered}
use Rattle.model.proofs.Untouched.{Left, untouched}

-- a table of which some entries were sent: each stands as it was, or is advanced, and none is moved, added or lost
pub data Advances (now : Moment) : List Subscription → List Subscription → Type 0 where
  empty : Advances now [] []
  stands : {e : Subscription} {t u : List Subscription} → Advances now t u → Advances now (e ∷ t) (e ∷ u)
  sent : {e : Subscription} {t u : List Subscription} → Advances now t u → Advances now (e ∷ t) (advanced now e ∷ u)

-- so too with one more at the end, which stands
stands-last : {now : Moment} {t u : List Subscription} (e : Subscription) → Advances now t u → Advances now (t ++ (e ∷ [])) (u ++ (e ∷ []))
stands-last e empty = stands empty
stands-last e (stands a) = stands (stands-last e a)
stands-last e (sent a) = sent (stands-last e a)

-- or which is sent
sent-last : {now : Moment} {t u : List Subscription} (e : Subscription) → Advances now t u → Advances now (t ++ (e ∷ [])) (u ++ (advanced now e ∷ []))
sent-last e empty = sent empty
sent-last e (stands a) = stands (sent-last e a)
sent-last e (sent a) = sent (sent-last e a)

-- a tick's periodic step leaves such a table
module _ (limit : ℕ) (now : Moment) (table : Table) where
  -- one entry
  one_advances : (t : List Subscription) (a : Passed) (e : Subscription) → Advances now t a.entries → Advances now (t ++ (e ∷ [])) (pass_one limit now table a e).entries
  unfolding pass_one due_sent passed Queue.sent pushed
  one_advances t a e h = either Going (eqb a.result 0 && leb e.next now) (due (value limit table e.identifier)) (stands-last e h)
    where
      Going : Passed → Type 0
      Going p = Advances now (t ++ (e ∷ [])) p.entries

      due : (o : Outcome) → Going (due_sent limit now a e o)
      due (error code) = stands-last e h
      due (bytes b) = either On (leb (suc (length b)) limit) (either On (ltb (length a.queue) max_outbox) (sent-last e h) (stands-last e h)) (stands-last e h)
        where
          On : QueueStep → Type 0
          On p = Going (passed now a e p)

  -- those behind the entries that have passed
  all-advance : (t es : List Subscription) (a : Passed) → Advances now t a.entries → Advances now (t ++ es) (pass_all limit now table es a).entries
  all-advance t [] a h = rw append-nil h
  all-advance t (e ∷ es) a h = rw append_assoc at (all-advance (t ++ (e ∷ [])) es (pass_one limit now table a e) (one_advances t a e h))

  -- the whole table
  pub passed_advances : (s : State) → Advances now s.periodic (pass_all limit now table s.periodic (begins s)).entries
  passed_advances s = all-advance [] s.periodic (begins s) empty

-- the numbers of the services that are spoken of
module _ (N : ℕ → Type 0) where
  -- a call names no other
  abbrev pub Names : Call → Type 0
  Names (requests r) = N (sid_of r.inbound.frame)
  Names (questions i) = Unit {0}
  Names (ticks now t) = Unit {0}
  Names (completes now p) = Unit {0}
  Names (fails now code) = Unit {0}
  Names (drains b) = Unit {0}

  -- nor does a history
  abbrev pub AllName : List Call → Type 0
  AllName [] = Unit {0}
  AllName (c ∷ h) = Names c × AllName h

-- where all are spoken of, every call and every history names no other
abbrev pub AnyService : ℕ → Type 0
AnyService sid = Unit {0}

pub names : (c : Call) → Names AnyService c
names (requests r) = tt
names (questions i) = tt
names (ticks now t) = tt
names (completes now p) = tt
names (fails now code) = tt
names (drains b) = tt

pub all_name : (h : List Call) → AllName AnyService h
all_name [] = tt
all_name (c ∷ h) = (names c, all_name h)

-- a property of configuration, security and subscriptions, and the services that are spoken of
module _ (Q : Config → Security → List Subscription → Type 0) (N : ℕ → Type 0) where
  -- it holds of a state
  abbrev pub Of : State → Type 0
  Of s = Q s.config s.security s.periodic

  -- the parts of a call keep it: the seed cleared, entries advanced, a service
  pub record Parts : Type 0 where
    pub clears : (c : Config) (k : Security) (t : List Subscription) → Q c k t → Q c (cleared k) t
    pub advances : (c : Config) (k : Security) (t u : List Subscription) (now : Moment) → Advances now t u → Q c k t → Q c k u
    pub serves : (v : Seen) (sid : ℕ) (a : Served) → Left v sid a → N sid → Q v.config v.security v.periodic → Q v.config a.effect.security a.effect.periodic

  -- a step, and an answer, that leave it
  abbrev Leaves : Step → Type 0
  Leaves p = Of p.state

  abbrev Answers : Answer → Type 0
  Answers a = Leaves a.step

  -- said as of a state apart from its pending request and its queue
  abbrev Q' : Config → AddressMode → Session → Security → List Subscription → Type 0
  Q' c m a k t = Q c k t

  module _ (parts : Parts) (limit : ℕ) where
    -- a request that is heard: busy, of a length that does not fit, or served
    keeps_heard : (s : State) (r : Request) (o : Option PendingRequest) → N (sid_of r.inbound.frame) → Of s → Answers (heard limit s r o)
    unfolding heard
    keeps_heard s r (some p) n h = answered_on Q' (queued-answered s r.inbound.dst (negative_frame (sid_of r.inbound.frame) 0x21)) h
    keeps_heard s r none n h =
        let sid = sid_of r.inbound.frame in
        let v = seen limit s r in
        either Answers (length_fits r.inbound.frame)
        (apply_on Q' limit s r.inbound.src sid r.inbound.time (served limit s r).effect h
        (parts.serves v sid (served limit s r) (at_guarded (Left v) v (untouched v) sid (find_service s.config sid)) n h)) h

    -- a request that is routed, also one to a foreign address
    keeps_routed : (s : State) (r : Request) (o : Option AddressMode) → N (sid_of r.inbound.frame) → Of s → Answers (routed limit s r o)
    unfolding routed
    keeps_routed s r none n h = h
    keeps_routed s r (some m) n h = keeps_heard (received s m r.inbound.time) r s.pending n h

    -- a pending request ends by an answer
    keeps_completed : (s : State) (p : List ℕ) (o : Option PendingRequest) → Of s → Leaves (completed limit s p o)
    unfolding completed
    keeps_completed s p none h = h
    keeps_completed s p (some q) h = answered_on Q' (confirmed-answered limit (with_pending s none) q.dst q.sid p) h

    -- or by a code
    keeps_failed : (s : State) (code : ℕ) (o : Option PendingRequest) → Of s → Leaves (failed s code o)
    unfolding failed
    keeps_failed s code none h = h
    keeps_failed s code (some q) h = answered_on Q' (queued-answered (with_pending s none) q.dst (negative_frame q.sid code)) h

    -- the first two steps of a tick
    pub keeps_refreshed : (s : State) (now : Moment) → Of s → Leaves (refreshed (s3 s now) now s.pending)
    unfolding s3
    keeps_refreshed s now h =
        answered_on Q' (refreshed-answered (s3 s now) now s.pending) (either Of (expired s now) (parts.clears s.config s.security s.periodic h) h)

    -- and the third
    keeps_ticked : (s : State) (now : Moment) (t : Table) → Of s → Leaves (ticked limit s now t).step
    unfolding then_periodic
    keeps_ticked s now t h = go (refreshed (s3 s now) now s.pending) (keeps_refreshed s now h)
      where
        go : (p : Step) → Leaves p → Leaves (then_periodic limit now t p).step
        go p k =
            let u = p.state in
            either (λ (a : Ticked). Leaves a.step) (eqb p.result 0) (parts.advances u.config u.security u.periodic _ now (passed_advances limit now t u) k) k

    -- every call
    pub keeps_call : (s : State) (c : Call) → Names N c → Of s → Of (call limit s c).state
    unfolding call request tick complete fail drain
    keeps_call s (requests r) n h =
        either Answers (valid limit s) (either Answers (leb r.inbound.time max_time) (keeps_routed s r (addressed s.config r.inbound.dst) n h) h) h
    keeps_call s (questions i) n h = h
    keeps_call s (ticks now t) n h = either Ticks (valid limit s) (either Ticks (leb now max_time) (keeps_ticked s now t h) h) h
      where
        Ticks : Ticked → Type 0
        Ticks a = Leaves a.step
    keeps_call s (completes now p) n h = either Leaves (valid limit s) (either Leaves (leb now max_time) (keeps_completed s p s.pending h) h) h
    keeps_call s (fails now code) n h = either Leaves (valid limit s) (either Leaves (leb now max_time) (keeps_failed s code s.pending h) h) h
    keeps_call s (drains b) n h = either Drains (valid limit s) h h
      where
        Drains : Drained → Type 0
        Drains d = Leaves d.step

    -- and every history
    pub keeps_run : (h : List Call) (s : State) → AllName N h → Of s → Of (run limit s h)
    keeps_run [] s n i = i
    keeps_run (c ∷ h) s n i = keeps_run h (call limit s c).state n.1 (keeps_call s c n.0 i)
