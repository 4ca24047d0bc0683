-- Nothing else meets the promises: two answers that meet a function's promise, each with what it leaves, are equal in all that the promise
-- speaks of. `e` and `f` are what two answers leave of what was lent, in the order of the parameters.
use Prim.Native.Nat.{ℕ}
use mathlib.Core.Path.{◌≡◌, refl, ap, ap₂, sym, ◌∙◌}
use mathlib.Core.List.{List, []}
use lib.ListN.{length, replicate, length-replicate}
use Rattle.model.specs.Queue.{QueueStep, QueueDrain, pushed}
use Rattle.model.specs.Service22.{read_reply}
use Rattle.uds.proofs.Promise.{Settles, Answer}
use Rattle.uds.proofs.Settled as Uds
use Rattle.uds.proofs.Tab.{tab-length}
use Rattle.uds.proofs.Refusals.{same_result}
use Rattle.uds.specs.Result.{result_of}
use Rattle.uds.specs.declared.result.Refusal.{Refusal}
use Rattle.queue.specs.View.{room_size, frame_at, queue_of, queue_in, bytes_at, place_of, draft_of, step_in, reply_of, reading_of, drain_of, Drafts, Pushes}
use Rattle.std.specs.Prelude.{Option as Maybe, Some, None, Result}
use Rattle.queue.specs.declared.drain.Drained.{Drained}
use Rattle.queue.specs.declared.reply.Outbox.{Outbox}
use Rattle.queue.specs.declared.reply.Reply.{Reply}
use Rattle.queue.specs.declared.reply.Reply.TheVariants.{Silent, Positive, Negative, Always, Pends}
use Rattle.queue.proofs.Room.{draft_length}
use Rattle.queue.proofs.draft.extend.Reads as extend
use Rattle.queue.proofs.draft.put.Reads as put
use Rattle.queue.proofs.draft.said.Reads as said
use Rattle.queue.proofs.reply.Outbox.push.Reads as push
use Rattle.queue.proofs.reply.Outbox.negative.Reads as negative
use Rattle.queue.proofs.reply.Outbox.refuse.Reads as refuse
use Rattle.queue.proofs.reply.Outbox.send.Reads as send
use Rattle.queue.proofs.reply.Outbox.confirm.Reads as confirm
use Rattle.queue.proofs.reply.Outbox.answer.Reads as answer
use Rattle.queue.proofs.drain.frames_valid.Reads as frames-valid
use Rattle.queue.proofs.drain.drain.Reads as drain

-- queues that are equal have as many frames
pub counted : (m n : ℕ) (heads heads' room room' : List ℕ) → queue_of m heads room ≡ queue_of n heads' room' → m ≡ n
counted m n heads heads' room room' e = sym (tab-length (frame_at heads room) 0 m) ∙ ap length e ∙ tab-length (frame_at heads' room') 0 n

-- a step of the queue: the answer itself, how many frames wait then, the queue that is seen, and which heads and room it lies in
pub record Same (r r' : Result (Unit {0}) Refusal) (o o' : Outbox) : Type 0 where
  pub answer : r ≡ r'
  pub count : o.count ≡ o'.count
  pub queue : queue_in o ≡ queue_in o'
  pub heads : o.heads.ghost_name ≡ o'.heads.ghost_name
  pub room : o.room.ghost_name ≡ o'.room.ghost_name

-- what a method promises: where heads and room stand, and the step
abbrev pub Stepped : QueueStep → Outbox → Result (Unit {0}) Refusal → Outbox → Type 0
Stepped q old r o = (o.heads.ghost_name ≡ old.heads.ghost_name) × ((o.room.ghost_name ≡ old.room.ghost_name) × (step_in r o ≡ q))

pub step_settled : (q : QueueStep) (old : Outbox) (r r' : Result (Unit {0}) Refusal) (o o' : Outbox) → Stepped q old r o → Stepped q old r' o' → Same r r' o o'
step_settled q old r r' o o' p p' =
    let e : step_in r o ≡ step_in r' o' = p.1.1 ∙ sym p'.1.1 in
    let b : queue_in o ≡ queue_in o' = ap (λ (s : QueueStep). s.queue) e in
    record {
      answer = same_result (ap (λ (s : QueueStep). s.result) e);
      count = counted o.count o'.count o.heads.now o'.heads.now o.room.now o'.room.now b;
      queue = b;
      heads = p.0 ∙ sym p'.0;
      room = p.1.0 ∙ sym p'.1.0;
    }

-- the relation by itself settles the answer, how many frames wait, and the queue that is seen, of any room
pub pushes_settled : (count to len : ℕ) (heads : List ℕ) (r r' : Result (Unit {0}) Refusal) (n n' : ℕ) (after after' : List ℕ) → Pushes count to len heads r n after → Pushes count to len heads r' n' after'
    → (r ≡ r') × (n ≡ n') × ((room : List ℕ) → queue_of n after room ≡ queue_of n' after' room)
pushes_settled count to len heads r r' n n' after after' p p' = (same_result (ap (λ (s : QueueStep). s.result) (step [])), counted n n' after after' [] [] (ap (λ (s : QueueStep). s.queue) (step [])), λ room. ap (λ (s : QueueStep). s.queue) (step room))
  where
    left : Result (Unit {0}) Refusal → ℕ → List ℕ → List ℕ → QueueStep
    left s m heads room = record { result = result_of s; queue = queue_of m heads room }

    step : (room : List ℕ) → left r n after room ≡ left r' n' after' room
    step room = p.step room ∙ sym (p'.step room)

-- a push: the queue also in every other room, and that the room is as it was
pub record SamePush (r r' : Result (Unit {0}) Refusal) (o o' : Outbox) : Type 0 where
  pub step : Same r r' o o'
  pub queue : (room : List ℕ) → queue_of o.count o.heads.now room ≡ queue_of o'.count o'.heads.now room
  pub room : o.room.now ≡ o'.room.now

pub push_settled : (κs : _) (a : _) → Settles (push.Post κs a) (λ x e y f. SamePush x y e.0.now f.0.now)
push_settled κs a x e y f p q =
    let old = a.0.now in
    let s : QueueStep = pushed (queue_in old) a.1.0 (bytes_at old.room.now (place_of old.count) a.1.1.0) in
    record {
      step = step_settled s old x y e.0.now f.0.now (p.0, (p.1.0, rw p.1.1.0 (p.1.1.1.step old.room.now))) (q.0, (q.1.0, rw q.1.1.0 (q.1.1.1.step old.room.now)));
      queue = λ room. ap (λ (s : QueueStep). s.queue) (p.1.1.1.step room ∙ sym (q.1.1.1.step room));
      room = p.1.1.0 ∙ sym q.1.1.0;
    }

pub negative_settled : (κs : _) (a : _) → Settles (negative.Post κs a) (λ x e y f. Same x y e.0.now f.0.now)
negative_settled κs a x e y f p q = step_settled _ a.0.now x y e.0.now f.0.now p q

pub refuse_settled : (κs : _) (a : _) → Settles (refuse.Post κs a) (λ x e y f. Same x y e.0.now f.0.now)
refuse_settled κs a x e y f p q = step_settled _ a.0.now x y e.0.now f.0.now p q

pub send_settled : (κs : _) (a : _) → Settles (send.Post κs a) (λ x e y f. Same x y e.0.now f.0.now)
send_settled κs a x e y f p q = step_settled _ a.0.now x y e.0.now f.0.now p q

pub confirm_settled : (κs : _) (a : _) → Settles (confirm.Post κs a) (λ x e y f. Same x y e.0.now f.0.now)
confirm_settled κs a x e y f p q = step_settled _ a.0.now x y e.0.now f.0.now p q

pub answer_settled : (κs : _) (a : _) → Settles (answer.Post κs a) (λ x e y f. Same x y e.0.now f.0.now)
answer_settled κs a x e y f p q = step_settled _ a.0.now x y e.0.now f.0.now p q

-- bytes appended: the answer with its length, of rooms that have all their places; the reply in the making; and the queue under any heads
pub record SameDraft (count : ℕ) (r r' : Maybe ℕ) (after after' : List ℕ) : Type 0 where
  pub answer : length after ≡ room_size → length after' ≡ room_size → r ≡ r'
  pub reading : reading_of r count after ≡ reading_of r' count after'
  pub queue : (heads : List ℕ) → queue_of count heads after ≡ queue_of count heads after'

pub draft_settled : (count len : ℕ) (bytes before : List ℕ) (r r' : Maybe ℕ) (after after' : List ℕ) → Drafts count len bytes before r after → Drafts count len bytes before r' after' → SameDraft count r r' after after'
draft_settled count len bytes before r r' after after' d d' = record { answer = λ z z'. same z z' r r' reads; reading = reads; queue = λ heads. d.unseen heads ∙ sym (d'.unseen heads) }
  where
    reads : reading_of r count after ≡ reading_of r' count after'
    reads = d.reading ∙ sym d'.reading

    same : length after ≡ room_size → length after' ≡ room_size → (x y : Maybe ℕ) → reading_of x count after ≡ reading_of y count after' → x ≡ y
    same z z' (Some m) (Some n) e = let k : draft_of count m after ≡ draft_of count n after' = cc in ap Some (sym (draft_length count m after z) ∙ ap length k ∙ draft_length count n after' z')
    same z z' (Some m) None e = cc
    same z z' None (Some n) e = cc
    same z z' None None e = refl

pub extend_settled : (κs : _) (a : _) → Settles (extend.Post κs a) (λ x e y f. SameDraft a.1.0 x y e.0.now f.0.now)
extend_settled κs a x e y f p q = draft_settled _ _ _ _ x y e.0.now f.0.now p q

pub put_settled : (κs : _) (a : _) → Settles (put.Post κs a) (λ x e y f. SameDraft a.1.0 x y e.0.now f.0.now)
put_settled κs a x e y f p q = draft_settled _ _ _ _ x y e.0.now f.0.now p q

-- said: the reply, which any one room tells
abbrev said_of : Maybe ℕ → Reply
said_of (Some len) = Positive len
said_of None = Negative 0x14

said_is : (d : Maybe ℕ) (r : Reply) (count : ℕ) (room : List ℕ) → length room ≡ room_size → reply_of r count room ≡ read_reply (reading_of d count room) → r ≡ said_of d
said_is (Some n) (Positive m) count room z e =
    let k : draft_of count m room ≡ draft_of count n room = cc in
    ap Positive (sym (draft_length count m room z) ∙ ap length k ∙ draft_length count n room z)
said_is (Some n) Silent count room z e = cc
said_is (Some n) (Negative c) count room z e = cc
said_is (Some n) (Always c) count room z e = cc
said_is (Some n) Pends count room z e = cc
said_is None (Negative c) count room z e = let k : c ≡ 0x14 = cc in ap Negative k
said_is None Silent count room z e = cc
said_is None (Positive m) count room z e = cc
said_is None (Always c) count room z e = cc
said_is None Pends count room z e = cc

pub said_settled : (κs : _) (a : _) → Settles (said.Post κs a) Answer
said_settled κs a x e y f p q = Uds.said (is x p) (is y q)
  where
    is : (r : Reply) → ((count : ℕ) (room : List ℕ) → reply_of r count room ≡ read_reply (reading_of a.0 count room)) → r ≡ said_of a.0
    is r p = said_is a.0 r 0 (replicate room_size 0) (length-replicate {A = ℕ} room_size 0) (p 0 (replicate room_size 0))

pub frames_valid_settled : (κs : _) (a : _) → Settles (frames-valid.Post κs a) Answer
frames_valid_settled κs a x e y f p q = Uds.said p q

abbrev drained_of : ℕ → ℕ → ℕ → Drained
drained_of a f n = record { result = a; frames = f; count = n }

-- a drain: the answer itself, and the whole buffer; so too the queue that is seen, since heads and room are only read
pub record SameDrain (d d' : Drained) (out out' : List ℕ) : Type 0 where
  pub answer : d ≡ d'
  pub buffer : out ≡ out'

pub emptied_settled : (q : QueueDrain) (d d' : Drained) (heads room buffer buffer' : List ℕ) → drain_of d heads room buffer ≡ q → drain_of d' heads room buffer' ≡ q → SameDrain d d' buffer buffer'
emptied_settled q d d' heads room buffer buffer' e e' =
    let a : d.result ≡ d'.result = ap (λ (p : QueueDrain). p.result) (e ∙ sym e') in
    let f : d.frames ≡ d'.frames = ap (λ (p : QueueDrain). p.frames) (e ∙ sym e') in
    let n : d.count ≡ d'.count = counted d.count d'.count heads heads room room (ap (λ (p : QueueDrain). p.queue) (e ∙ sym e')) in
    record { answer = ap₂ (λ (x y : ℕ). drained_of x y d.count) a f ∙ ap (drained_of d'.result d'.frames) n; buffer = ap (λ (p : QueueDrain). p.buffer) (e ∙ sym e') }

pub drain_settled : (κs : _) (a : _) → Settles (drain.Post κs a) (λ x e y f. SameDrain x y e.1.1.1.0.now f.1.1.1.0.now)
drain_settled κs a x e y f p q = emptied_settled _ x y a.1.0.now a.1.1.0.now e.1.1.1.0.now f.1.1.1.0.now p q
