-- The due subscriptions: a frame, an entry, a turn of the walk, one law for each way out.
use Prim.Native.Nat.{ℕ, zero, suc, ◌+◌, ◌-◌, ◌%◌, ◌≤◌, ◌<◌}
use mathlib.Core.Path.{◌≡◌, refl, ap, ap₂, sym, ◌∙◌}
use mathlib.Core.Bool.{Bool, true, false}
use mathlib.Core.List.{List, [], ◌∷◌, ◌++◌, append-nil, append_assoc}
use native.Mathlib.Omega.{arith}
use lib.ListN.{length, take, drop}
use lib.Dec.{leb, ltb}
use borrow.Author.Tests.{ne_eqb, eq-eqb, lt-ltb, leb-false}
use Rattle.model.specs.Tests.{pick}
use Rattle.model.specs.Numbers.{Moment, max_frame, max_outbox, max_periodic}
use Rattle.model.specs.Values as Model
use Rattle.model.specs.Values.{Table, value}
use Rattle.model.specs.Frame.{Frame}
use Rattle.model.specs.State.{Subscription}
use Rattle.model.specs.Queue.{QueueStep, leaves, pushed, sent, negative}
use Rattle.model.specs.Service22.{going, ended}
use Rattle.model.specs.Tick.{Passed, passed, due_sent}
use Rattle.model.proofs.Laws.{either}
use Rattle.uds.specs.Clock.{starts}
use Rattle.uds.specs.Table.{tab}
use Rattle.uds.proofs.Tab.{tab_cons, tab-end, tab-same, tab_snoc, tab-all}
use Rattle.queue.specs.View.{queue_of, draft_of, Drafts}
use Rattle.std.specs.Prelude.{Some, None}
use Rattle.queue.proofs.Laws.{sent-long}
use Rattle.periodic.specs.View.{entry_at, table_of, due_at, Advances}
use Rattle.ticking.specs.View.{due_one, pass_one_at, pass_all_at, so_far, Sent, passed_of, Goes, Sends}

-- what a push leaves, in numbers
abbrev step_at : ℕ → ℕ → List ℕ → List ℕ → QueueStep
step_at n c heads room = record { result = n; queue = queue_of c heads room }

-- a value as a frame
module _ (frames to first : ℕ) (heads room value after : List ℕ) where
  abbrev Sending : ℕ → ℕ → List ℕ → List ℕ → Type 0
  Sending n c heads' room' = step_at n c heads' room' ≡ sent max_frame (queue_of frames heads room) to (first ∷ value)

  pub exceeds : Drafts frames 0 value room None after → Sending 4 frames heads after
  exceeds d = ap (leaves 4) (d.unseen heads) ∙ sent-long (queue_of frames heads room) to (first ∷ value) (long (leb (0 + length value) max_frame) refl d.reading)
    where
      long : (b : Bool) → leb (0 + length value) max_frame ≡ b → ended (negative 0x14) ≡ pick b (going ([] ++ value)) (ended (negative 0x14)) → max_frame < suc (length value)
      long true e z = let y : ◌≡◌ {A = ℕ} 0 1 = cc in absurd (omega arith)
      long false e z = omega (arith, leb-false (0 + length value) max_frame e)

  pub made : (len n c : ℕ) (heads' room' : List ℕ) → Drafts frames 0 value room (Some len) after
      → step_at n c heads' room' ≡ sent max_frame (queue_of frames heads after) to (first ∷ draft_of frames len after) → Sending n c heads' room'
  made len n c heads' room' d e = e ∙ ap₂ (λ (q : List Frame) (b : List ℕ). sent max_frame q to (first ∷ b)) (d.unseen heads) (whole (leb (0 + length value) max_frame) d.reading)
    where
      whole : (b : Bool) → going (draft_of frames len after) ≡ pick b (going ([] ++ value)) (ended (negative 0x14)) → draft_of frames len after ≡ value
      whole true z = cc
      whole false z = cc

-- the bytes of a value are a part of the pool
pub part_of : (pool : List ℕ) (start size : ℕ) (o : Model.Outcome) → Model.bytes (take size (drop start pool)) ≡ o → Model.bytes (take (start + size - start) (drop start pool)) ≡ o
part_of pool start size o e = let k : start + size - start ≡ size = omega arith in rw k e

-- a frame that meets a result leaves the queue
sent_stays : (q : List Frame) (to : ℕ) (b : List ℕ) → ((sent max_frame q to b).result ≡ 0 → ⊥) → (sent max_frame q to b).queue ≡ q
unfolding sent pushed
sent_stays q to b = either Stays (leb (length b) max_frame) (either Stays (ltb (length q) max_outbox) (λ z. absurd (z refl)) (λ z. refl)) (λ z. refl)
  where
    Stays : QueueStep → Type 0
    Stays p = (p.result ≡ 0 → ⊥) → p.queue ≡ q

-- one due entry, of which `e` is read
module _ (subs : List ℕ) (i frames : ℕ) (heads room : List ℕ) (t : Moment) (table : Table) (e : Subscription) (is : e ≡ entry_at subs i) where
  abbrev Going_on : Sent → List ℕ → List ℕ → List ℕ → Type 0
  Going_on r subs' heads' room' = Goes subs i frames heads room t table r subs' heads' room'

  -- its value
  said : (o : Model.Outcome) → o ≡ value max_frame table e.identifier → (es : List Subscription) → due_sent max_frame (starts t (entry_at subs i).interval) (so_far es (queue_of frames heads room)) (entry_at subs i) o ≡ due_one max_frame t table (so_far es (queue_of frames heads room)) (entry_at subs i)
  said o v es = ap (due_sent max_frame (starts t (entry_at subs i).interval) (so_far es (queue_of frames heads room)) (entry_at subs i)) (v ∙ ap (λ (x : Subscription). value max_frame table x.identifier) is)

  pub value-error : (code : ℕ) → Model.error code ≡ value max_frame table e.identifier → Going_on (record { frames = frames; result = 8; err = code }) subs heads room
  unfolding due_sent
  value-error code v = record { passed = said (Model.error code) v; clean = λ z. absurd (omega arith); others = λ j n. refl }

  module _ (b : List ℕ) (v : Model.bytes b ≡ value max_frame table e.identifier) (n' c' : ℕ) (heads' room' : List ℕ)
      (q : step_at n' c' heads' room' ≡ sent max_frame (queue_of frames heads room) e.client (e.identifier % 256 ∷ b)) where
    queues : step_at n' c' heads' room' ≡ sent max_frame (queue_of frames heads room) (entry_at subs i).client ((entry_at subs i).identifier % 256 ∷ b)
    queues = q ∙ ap (λ (x : Subscription). sent max_frame (queue_of frames heads room) x.client (x.identifier % 256 ∷ b)) is

    -- by what became of its frame
    goes : (es : List Subscription) → passed (starts t (entry_at subs i).interval) (so_far es (queue_of frames heads room)) (entry_at subs i) (step_at n' c' heads' room') ≡ due_one max_frame t table (so_far es (queue_of frames heads room)) (entry_at subs i)
    unfolding due_sent
    goes es = ap (passed (starts t (entry_at subs i).interval) (so_far es (queue_of frames heads room)) (entry_at subs i)) queues ∙ said (Model.bytes b) v es

    pub frame_met : (n' ≡ 0 → ⊥) → Going_on (record { frames = c'; result = n'; err = 0 }) subs heads' room'
    unfolding passed
    frame_met n = record { passed = λ es. ap (λ (x : List Frame). record { result = n'; err = 0; entries = es ++ (entry_at subs i ∷ []); queue = x }) same ∙ rw (ne_eqb n' 0 n) at (goes es); clean = λ z. refl; others = λ j z. refl }
      where
        same : queue_of c' heads' room' ≡ queue_of frames heads room
        same = ap (λ (x : QueueStep). x.queue) q ∙ sent_stays (queue_of frames heads room) e.client (e.identifier % 256 ∷ b) (λ z. n (ap (λ (x : QueueStep). x.result) q ∙ z))

    pub frame-sent : (subs' : List ℕ) (count : ℕ) → n' ≡ 0 → count ≤ max_periodic → i < count → Advances subs count i t subs' → Going_on (record { frames = c'; result = n'; err = 0 }) subs' heads' room'
    unfolding passed
    frame-sent subs' count n l h a = record {
      passed = λ es. ap₂ (λ (m : ℕ) (x : Subscription). record { result = m; err = 0; entries = es ++ (x ∷ []); queue = queue_of c' heads' room' }) n (a.here l h) ∙ rw (eq-eqb n' 0 n) at (goes es);
      clean = λ z. refl;
      others = a.others;
    }

-- an entry that stands is due by its moment
pub judged : (count i : ℕ) (w : List ℕ) (t : Moment) (b : Bool) → i < count → b ≡ due_at count w i t → leb (entry_at w i).next t ≡ b
judged count i w t b h e = sym (rw (lt-ltb i count h) at e)

-- a table is what was passed and what is left
tab-joined : {B : Type 0} (f : ℕ → B) (m i : ℕ) → i ≤ m → tab f 0 i ++ tab f i (m - i) ≡ tab f 0 m
tab-joined f m zero h = sym (tab-all f m)
tab-joined f m (suc i) h =
    let s : suc i ≡ i + 1 = omega arith in
    ap (λ (n : ℕ). tab f 0 n ++ tab f n (m - n)) s
    ∙ ap (λ l. l ++ tab f (i + 1) (m - (i + 1))) (tab_snoc f i)
    ∙ append_assoc (tab f 0 i) (f i ∷ []) (tab f (i + 1) (m - (i + 1)))
    ∙ ap (λ l. tab f 0 i ++ l) (sym (tab_cons f m i (omega arith)))
    ∙ tab-joined f m i (omega arith)

module _ (limit : ℕ) (now : Moment) (t : Table) where
  -- once a result is met the rest stand
  rest_stand : (ys : List Subscription) (a : Passed) → (a.result ≡ 0 → ⊥) → pass_all_at limit now t ys a ≡ record { result = a.result; err = a.err; entries = a.entries ++ ys; queue = a.queue }
  rest_stand [] a h = rw append-nil
  rest_stand (e ∷ ys) a h = rw (ne_eqb a.result 0 h) (rw (rest_stand ys (record { result = a.result; err = a.err; entries = a.entries ++ (e ∷ []); queue = a.queue }) h, append_assoc a.entries (e ∷ []) ys))

  -- a turn: what is left to pass is what it is all about
  module _ (f : ℕ → Subscription) (m i : ℕ) (q : List Frame) (whole : Passed) (inv : whole ≡ pass_all_at limit now t (tab f i (m - i)) (so_far (tab f 0 i) q)) where
    pub over : (n x : ℕ) → n ≡ 0 → x ≡ 0 → i ≤ m → m ≤ i → record { result = n; err = x; entries = tab f 0 m; queue = q } ≡ whole
    over n x e c l h =
        let z : m ≡ i = omega arith in
        ap₂ (λ (n x : ℕ). record { result = n; err = x; entries = tab f 0 m; queue = q }) e c ∙ ap (λ (n : ℕ). so_far (tab f 0 n) q) z ∙ sym (inv ∙ rw (tab-end f m i h))

    module _ (h : i < m) where
      turn : whole ≡ pass_all_at limit now t (tab f (i + 1) (m - (i + 1))) (pass_one_at limit now t (so_far (tab f 0 i) q) (f i))
      turn = inv ∙ rw (tab_cons f m i h)

      pub not-due : leb (f i).next now ≡ false → whole ≡ pass_all_at limit now t (tab f (i + 1) (m - (i + 1))) (so_far (tab f 0 (i + 1)) q)
      not-due e = turn ∙ rw (e, tab_snoc f i)

      -- the entries with this one as it was left
      module _ (d : leb (f i).next now ≡ true) (g : ℕ → Subscription) (others : (j : ℕ) → (j ≡ i → ⊥) → g j ≡ f j) (r : Sent) (q' : List Frame)
          (goes : (es : List Subscription) → record { result = r.result; err = r.err; entries = es ++ (g i ∷ []); queue = q' } ≡ due_one limit now t (so_far es q) (f i)) where
        before : tab f 0 i ≡ tab g 0 i
        before = tab-same f g 0 i (λ j a b. sym (others j (λ z. absurd (omega arith))))

        after : tab f (i + 1) (m - (i + 1)) ≡ tab g (i + 1) (m - (i + 1))
        after = tab-same f g (i + 1) (m - (i + 1)) (λ j a b. sym (others j (λ z. absurd (omega arith))))

        went_by : whole ≡ pass_all_at limit now t (tab g (i + 1) (m - (i + 1))) (record { result = r.result; err = r.err; entries = tab g 0 (i + 1); queue = q' })
        went_by =
            let one : pass_one_at limit now t (so_far (tab f 0 i) q) (f i) ≡ record { result = r.result; err = r.err; entries = tab f 0 i ++ (g i ∷ []); queue = q' } = rw d (sym (goes (tab f 0 i))) in
            let es : tab f 0 i ++ (g i ∷ []) ≡ tab g 0 (i + 1) = ap (λ l. l ++ (g i ∷ [])) before ∙ sym (tab_snoc g i) in
            turn
            ∙ ap₂ (pass_all_at limit now t) after (one ∙ ap (λ (l : List Subscription). record { result = r.result; err = r.err; entries = l; queue = q' }) es)

        pub goes_on : r.result ≡ 0 → r.err ≡ 0 → whole ≡ pass_all_at limit now t (tab g (i + 1) (m - (i + 1))) (so_far (tab g 0 (i + 1)) q')
        goes_on e c = went_by ∙ ap₂ (λ (n x : ℕ). pass_all_at limit now t (tab g (i + 1) (m - (i + 1))) (record { result = n; err = x; entries = tab g 0 (i + 1); queue = q' })) e c

        pub ends : (r.result ≡ 0 → ⊥) → record { result = r.result; err = r.err; entries = tab g 0 m; queue = q' } ≡ whole
        ends n = sym (went_by ∙ rest_stand (tab g (i + 1) (m - (i + 1))) (record { result = r.result; err = r.err; entries = tab g 0 (i + 1); queue = q' }) n
            ∙ ap (λ (es : List Subscription). record { result = r.result; err = r.err; entries = es; queue = q' }) (tab-joined g m (i + 1) (omega arith)))

-- the walk as a whole
module _ (subs : List ℕ) (count frames : ℕ) (heads room : List ℕ) (t : Moment) (table : Table) where
  pub none-sent : max_periodic < count → Sends subs count frames heads room t table (record { frames = frames; result = 0; err = 0 }) subs heads room
  none-sent h = record { passed = λ l. absurd (omega arith); beyond = λ l. (refl, refl, refl, refl) }

  pub all-passed : (r : Sent) (subs' heads' room' : List ℕ) → count ≤ max_periodic → passed_of r (table_of count subs') heads' room' ≡ pass_all_at max_frame t table (table_of count subs) (so_far [] (queue_of frames heads room))
      → Sends subs count frames heads room t table r subs' heads' room'
  all-passed r subs' heads' room' h e = record { passed = λ l. e; beyond = λ l. absurd (omega arith) }

-- the walk has come to entry i: passing what is left gives what passing the whole table gives
pub record Walks (subs : List ℕ) (count frames : ℕ) (heads room : List ℕ) (t : Moment) (table : Table) (i : ℕ) (subs' : List ℕ) (frames' : ℕ) (heads' room' : List ℕ) : Type 0 where
  pub left : pass_all_at max_frame t table (table_of count subs) (so_far [] (queue_of frames heads room))
      ≡ pass_all_at max_frame t table (tab (entry_at subs') i (count - i)) (so_far (table_of i subs') (queue_of frames' heads' room'))

module _ {subs : List ℕ} {count frames : ℕ} {heads room : List ℕ} {t : Moment} {table : Table} {i : ℕ} {subs' : List ℕ} {frames' : ℕ} {heads' room' : List ℕ}
    (w : Walks subs count frames heads room t table i subs' frames' heads' room') (h : i < count) where
  -- it is not due, and stands
  pub passes_over : false ≡ due_at count subs' i t → Walks subs count frames heads room t table (i + 1) subs' frames' heads' room'
  passes_over e = record { left = not-due max_frame t table (entry_at subs') count i _ _ w.left h (judged count i subs' t false h e) }

  module _ (d : true ≡ due_at count subs' i t) where
    -- it was sent, and the walk goes on
    pub walks_on : {n : ℕ} {subs'' heads'' room'' : List ℕ} → Goes subs' i frames' heads' room' t table (record { frames = n; result = 0; err = 0 }) subs'' heads'' room''
        → Walks subs count frames heads room t table (i + 1) subs'' n heads'' room''
    walks_on {n} {subs''} {heads''} {room''} g = record {
      left = goes_on max_frame t table (entry_at subs') count i _ _ w.left h (judged count i subs' t true h d) (entry_at subs'') g.others (record { frames = n; result = 0; err = 0 }) (queue_of n heads'' room'') g.passed refl refl;
    }

    -- a refusal, and the rest stand
    pub walk_ends : {r : Sent} {subs'' heads'' room'' : List ℕ} → count ≤ max_periodic → Goes subs' i frames' heads' room' t table r subs'' heads'' room'' → (r.result ≡ 0 → ⊥)
        → Sends subs count frames heads room t table r subs'' heads'' room''
    walk_ends {r} {subs''} {heads''} {room''} l g n = all-passed subs count frames heads room t table r subs'' heads'' room'' l
        (ends max_frame t table (entry_at subs') count i _ _ w.left h (judged count i subs' t true h d) (entry_at subs'') g.others r (queue_of r.frames heads'' room'') g.passed n)

-- what a turn of `send_due` does
pub ruleset turns = (passes_over, walks_on, walk_ends)
