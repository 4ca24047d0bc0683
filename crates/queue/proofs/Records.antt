-- Laws of a drain: which queues are valid, how long their records are, and that records written one after the other are all of them.
use Prim.Native.Nat.{ℕ, zero, suc, ◌+◌, ◌*◌, ◌-◌, ◌≤◌, ◌<◌}
use mathlib.Core.Path.{◌≡◌, ap, sym, ◌∙◌}
use mathlib.Core.Bool.{Bool, true, false}
use mathlib.Core.List.{List, ◌++◌}
use native.Mathlib.Omega.{arith}
use native.Mathlib.Decide.{dec_le}
use lib.ListN.{length, take, drop, length-append}
use lib.Dec.{leb}
use borrow.Author.Tests.{le-leb, lt-leb, leb-true}
use Rattle.std.proofs.lemmas.Bool.{and_parts}
use Rattle.model.specs.Tests.{all}
use Rattle.model.specs.Numbers.{max_frame, max_outbox}
use Rattle.model.specs.Config.{table_within}
use Rattle.model.specs.Frame.{Frame}
use Rattle.model.specs.State.{frame_valid}
use Rattle.model.specs.Queue.{u16, u32, record1, records, drained, unmoved}
use Rattle.uds.specs.Table.{tab}
use Rattle.uds.proofs.Tab.{tab_cons, tab-end, tab-length}
use Rattle.queue.specs.Over.{over}
use Rattle.queue.specs.View.{room_size, Framed, head_at, frame_at, queue_of}
use Rattle.queue.proofs.Over.{over_nothing, over-over}
use Rattle.queue.proofs.Room.{bytes-length, plain}

-- a record is eight bytes longer than its frame
pub record_length : (f : Frame) → length (record1 f) ≡ 8 + length f.bytes
record_length f = omega arith

-- what stands before the frame, and then the frame, are the record
pub record_written : (out mid after head : List ℕ) (at to : ℕ) (f : List ℕ) → head ≡ u16 (4 + length f) ++ (u16 1 ++ u32 to) → at + (8 + length f) ≤ length out → mid ≡ over out at head → after ≡ over mid (at + 8) f
    → after ≡ over out at (record1 (record { dst = to; bytes = f }))
record_written out mid after head at to f h p m a = rw (a, m, h) (over-over out at (u16 (4 + length f) ++ (u16 1 ++ u32 to)) (omega arith) (at + 8) f (omega arith))

-- a frame is as long as its head says
module _ (heads room : List ℕ) (z : length room ≡ room_size) (i : ℕ) (h : i < max_outbox) where
  pub frame-length : length (frame_at heads room i).bytes ≡ head_at heads (2 * i + 1)
  frame-length = bytes-length room (max_frame * i) (head_at heads (2 * i + 1)) (omega arith)

  pub frame_empty : head_at heads (2 * i + 1) ≡ 0 → frame_valid max_frame (frame_at heads room i) ≡ false
  frame_empty e = rw (lt-leb 1 (length (frame_at heads room i).bytes) (omega (arith, frame-length)))

  pub frame-long : max_frame < head_at heads (2 * i + 1) → frame_valid max_frame (frame_at heads room i) ≡ false
  frame-long e = rw (le-leb 1 (length (frame_at heads room i).bytes) (omega (arith, frame-length)), lt-leb (length (frame_at heads room i).bytes) max_frame (omega (arith, frame-length)))

  pub frame_right : 1 ≤ head_at heads (2 * i + 1) → head_at heads (2 * i + 1) ≤ max_frame → frame_valid max_frame (frame_at heads room i) ≡ true
  frame_right e g =
      rw (le-leb 1 (length (frame_at heads room i).bytes) (omega (arith, frame-length)), le-leb (length (frame_at heads room i).bytes) max_frame (omega (arith, frame-length)))

-- the part of the room where it stands
pub frame-part : (heads room : List ℕ) (i len : ℕ) → len ≡ head_at heads (2 * i + 1) → len ≤ max_frame → take (max_frame * i + len - max_frame * i) (drop (max_frame * i) room) ≡ (frame_at heads room i).bytes
frame-part heads room i len e g =
    let k : max_frame * i + len - max_frame * i ≡ len = omega arith in
    rw (k, ← e) (sym (plain room (max_frame * i) len g))

-- a table of at most so many is valid where each row is
abbrev valid : List Frame → Bool
valid q = table_within max_outbox (frame_valid max_frame) q

module _ (n : ℕ) (heads room : List ℕ) where
  pub too_many : max_outbox < n → false ≡ valid (queue_of n heads room)
  too_many h = rw (tab-length (frame_at heads room) 0 n, lt-leb n max_outbox h)

  pub few_enough : n ≤ max_outbox → all (frame_valid max_frame) (queue_of n heads room) ≡ valid (queue_of n heads room)
  few_enough h = rw (tab-length (frame_at heads room) 0 n, le-leb n max_outbox h)

-- a valid queue's frames stand in their places
each_of : {B : Type 0} (p : B → Bool) (f : ℕ → B) (k n : ℕ) → all p (tab f k n) ≡ true → (i : ℕ) → k ≤ i → i < k + n → p (f i) ≡ true
each_of p f k zero e i a b = absurd (omega arith)
each_of p f k (suc n) e i a b =
    let w = and_parts (p (f k)) (all p (tab f (suc k) n)) e in
    elim (dec_le (suc k) i) [ yes d ↦ each_of p f (suc k) n w.1 i d (omega arith) | no d ↦ (let z : i ≡ k = omega arith in rw z w.0) ]

pub framed : (n : ℕ) (heads room : List ℕ) → length room ≡ room_size → true ≡ valid (queue_of n heads room) → Framed n heads
framed n heads room z e =
    let w = and_parts (leb (length (queue_of n heads room)) max_outbox) (all (frame_valid max_frame) (queue_of n heads room)) (sym e) in
    let few : n ≤ max_outbox = omega (arith, leb-true (length (queue_of n heads room)) max_outbox w.0, tab-length (frame_at heads room) 0 n) in
    record {
      few = few;
      each = λ i h.
          let b = (frame_at heads room i).bytes in
          let v = and_parts (leb 1 (length b)) (leb (length b) max_frame) (each_of (frame_valid max_frame) (frame_at heads room) 0 n w.1 i (omega arith) (omega arith)) in
          omega (arith, leb-true (length b) max_frame v.1, frame-length heads room z i (omega arith));
    }

module _ (f : ℕ → Frame) (n i : ℕ) (h : i < n) where
  abbrev left : List ℕ
  left = records (tab f i (n - i))

  abbrev later : List ℕ
  later = records (tab f (i + 1) (n - (i + 1)))

  next : left ≡ record1 (f i) ++ later
  next = rw (tab_cons f n i h)

  pub left_length : length left ≡ 8 + length (f i).bytes + length later
  left_length = omega (arith, ap length next, length-append (record1 (f i)) later, record_length (f i))

  -- the oldest record of those that are left, written
  pub write_turn : (at at' : ℕ) (out out' whole : List ℕ) → at + length left ≤ length out → at' ≡ at + (8 + length (f i).bytes) → out' ≡ over out at (record1 (f i)) → over out at left ≡ whole → over out' at' later ≡ whole
  write_turn at at' out out' whole p q e inv =
      rw e (over-over out at (record1 (f i)) (omega (arith, left_length, record_length (f i))) at' later (omega (arith, record_length (f i))))
      ∙ ap (over out at) (sym next)
      ∙ inv

-- nothing is left
pub all-written : (f : ℕ → Frame) (n i at : ℕ) (out whole : List ℕ) → n ≤ i → over out at (records (tab f i (n - i))) ≡ whole → out ≡ whole
all-written f n i at out whole h inv = sym (over_nothing out at) ∙ sym (rw (tab-end f n i h)) ∙ inv

-- the three ways in which a drain ends
module _ (count : ℕ) (heads room buffer : List ℕ) where
  pub drain_invalid : (v : Bool) → v ≡ false → v ≡ valid (queue_of count heads room) → unmoved 10 (queue_of count heads room) buffer ≡ drained max_frame (queue_of count heads room) buffer
  unfolding drained
  drain_invalid v e g = rw (← g, e)

  module _ (v : Bool) (e : v ≡ true) (g : v ≡ valid (queue_of count heads room)) where
    pub drain-over : length buffer < length (records (queue_of count heads room)) → unmoved 5 (queue_of count heads room) buffer ≡ drained max_frame (queue_of count heads room) buffer
    unfolding drained
    drain-over h = rw (← g, e, lt-leb (length (records (queue_of count heads room))) (length buffer) h)

    pub drain-written : (after : List ℕ) → length (records (queue_of count heads room)) ≤ length buffer → after ≡ over buffer 0 (records (queue_of count heads room))
        → record { result = 0; frames = count; queue = queue_of 0 heads room; buffer = after } ≡ drained max_frame (queue_of count heads room) buffer
    unfolding drained over
    drain-written after h w =
        let k : 0 + length (records (queue_of count heads room)) ≡ length (records (queue_of count heads room)) = omega arith in
        rw (← g, e, le-leb (length (records (queue_of count heads room))) (length buffer) h, tab-length (frame_at heads room) 0 count, w, k)

-- the ways out of `drain`, and that a valid queue's frames stand in their places
pub ruleset drains = (framed, drain_invalid, drain-over, drain-written)
