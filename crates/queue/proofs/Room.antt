-- Laws of the lent room: its places, the queue that stands in it, and the reply that is made in the free place.
use Prim.Native.Nat.{ℕ, min, ◌*◌, ◌+◌, ◌-◌, ◌≤◌, ◌<◌}
use mathlib.Core.Path.{◌≡◌, refl, ap, ap₂, sym, ◌∙◌}
use mathlib.Core.List.{List, [], ◌∷◌, ◌++◌, append-nil}
use native.Mathlib.Omega.{arith}
use native.Mathlib.Decide.{dec_lt}
use lib.ListN.{length, take, drop, set, replicate, length-take, length-drop, length-append, length-set, length-replicate, get_or-eq_default}
use lib.Seq.{get_or-set_same, get_or-set_other, take-take, take-add, take_all, drop-drop}
use borrow.Author.Tests.{lt-ltb, le-ltb, le-leb, lt-leb}
use Rattle.model.specs.Numbers.{max_frame, max_outbox}
use Rattle.model.specs.Frame.{Frame}
use Rattle.model.specs.Service22.{going}
use Rattle.uds.proofs.Tab.{tab-same, tab_snoc, tab-length}
use Rattle.std.specs.Prelude.{Some, None}
use Rattle.queue.specs.Over.{over}
use Rattle.model.specs.Queue.{leaves, pushed}
use Rattle.queue.specs.View.{room_size, heads_size, head_at, bytes_at, frame_at, queue_of, place_of, draft_of, Unseen, Drafts}
use Rattle.std.proofs.lemmas.List.{drop-take}
use Rattle.queue.proofs.Over.{over-length, over_below, over_from, over-above}

abbrev pub frame : ℕ → List ℕ → Frame
frame dst bytes = record { dst = dst; bytes = bytes }

-- within a place, bytes are seen as they stand
pub plain : (room : List ℕ) (at n : ℕ) → n ≤ max_frame → bytes_at room at n ≡ take n (drop at room)
plain room at n h = let e : min n max_frame ≡ n = omega arith in let z : n - max_frame ≡ 0 = omega arith in rw (e, z) (append-nil (take n (drop at room)))

-- as many bytes are seen as are counted
pub bytes-length : (room : List ℕ) (at n : ℕ) → at + max_frame ≤ length room → length (bytes_at room at n) ≡ n
bytes-length room at n h =
    omega (arith, length-append (take (min n max_frame) (drop at room)) (replicate (n - max_frame) 0), length-take (min n max_frame) (drop at room), length-drop at room, length-replicate {A = ℕ} (n - max_frame) 0)

-- rooms that agree below a place show the same bytes there
agree : (l m : List ℕ) (a n k : ℕ) → k ≤ length l → k ≤ length m → a + max_frame ≤ k → take k l ≡ take k m → bytes_at l a n ≡ bytes_at m a n
agree l m a n k p q h e =
    ap (λ (x : List ℕ). x ++ replicate (n - max_frame) 0) (sym (drop-take a b l) ∙ ap (drop a) (sym (below l) ∙ ap (take (a + b)) e ∙ below m) ∙ drop-take a b m)
  where
    b : ℕ
    b = min n max_frame

    below : (x : List ℕ) → take (a + b) (take k x) ≡ take (a + b) x
    below x = take-take (a + b) k x (omega arith)

-- what is put from the free place on is not seen: a frame counted past the sixteenth has no head, and so no bytes
pub unseen : (count : ℕ) (room : List ℕ) (at : ℕ) (xs : List ℕ) → length room ≡ room_size → place_of count ≤ at → at + length xs ≤ room_size → Unseen count room (over room at xs)
unseen count room at xs z p q heads =
    tab-same (frame_at heads (over room at xs)) (frame_at heads room) 0 count (λ i _ s. ap (frame (head_at heads (2 * i))) (same i s (dec_lt i max_outbox)))
  where
    same : (i : ℕ) → i < 0 + count → Dec (i < max_outbox) → bytes_at (over room at xs) (max_frame * i) (head_at heads (2 * i + 1)) ≡ bytes_at room (max_frame * i) (head_at heads (2 * i + 1))
    same i s (yes d) =
        agree (over room at xs) room (max_frame * i) (head_at heads (2 * i + 1)) (place_of count) (omega (arith, over-length room at xs (omega arith))) (omega arith) (omega arith)
        (over_below room at xs (omega arith) (place_of count) p)
    same i s (no d) = let e : head_at heads (2 * i + 1) ≡ 0 = get_or-eq_default (take heads_size heads) 0 {n = 2 * i + 1} (omega (arith, length-take heads_size heads)) in rw e

-- bytes that stand in the free place, which nothing shows yet
pub record Stands (count : ℕ) (bytes : List ℕ) (n : ℕ) (before after : List ℕ) : Type 0 where
  pub there : bytes_at after (place_of count) n ≡ bytes
  pub unseen : Unseen count before after

module _ (count at : ℕ) (room after : List ℕ) (z : length room ≡ room_size) (p : at ≡ place_of count) where
  -- bytes put in the free place stand there
  pub stands : (bytes : List ℕ) → length bytes ≤ max_frame → after ≡ over room at bytes → Stands count bytes (length bytes) room after
  stands bytes h e =
      let f : 0 + length bytes ≡ length bytes = omega arith in
      rw (e, p)
      (record {
        there = plain (over room (place_of count) bytes) (place_of count) (length bytes) h ∙ rw f at (over_from room (place_of count) bytes (omega arith) (place_of count) 0 (omega arith));
        unseen = unseen count room (place_of count) bytes z (omega arith) (omega arith);
      })

  -- a first byte put before the reply in the making makes it a frame
  pub leads : (first len : ℕ) → len < max_frame → after ≡ over room at (first ∷ []) → Stands count (first ∷ draft_of count len room) (1 + len) room after
  leads first len h e =
      let o : List ℕ = over room (place_of count) (first ∷ []) in
      let k : place_of count + 1 ≤ length room = omega arith in
      rw (e, p)
      (record {
        there =
            plain o (place_of count) (1 + len) (omega arith)
            ∙ take-add 1 len (drop (place_of count) o)
            ∙ ap₂ (λ (x y : List ℕ). x ++ take len y) (over_from room (place_of count) (first ∷ []) k (place_of count) 0 (omega arith)) (drop-drop 1 (place_of count) o ∙ over-above room (place_of count) (first ∷ []) k)
            ∙ ap (◌∷◌ first) (sym (plain room (place_of count + 1) len (omega arith)));
        unseen = unseen count room (place_of count) (first ∷ []) z (omega arith) (omega arith);
      })

-- a reply in the making is as long as it is said to be
pub draft_length : (count len : ℕ) (room : List ℕ) → length room ≡ room_size → length (draft_of count len room) ≡ len
draft_length count len room z = bytes-length room (place_of count + 1) len (omega arith)

-- bytes appended to it
module _ (count len : ℕ) (room bytes : List ℕ) (z : length room ≡ room_size) where
  pub too_long : max_frame < len + length bytes → Drafts count len bytes room None room
  too_long h = record { reading = rw (lt-leb (length (draft_of count len room) + length bytes) max_frame (omega (arith, draft_length count len room z))); unseen = λ heads. refl }

  pub grows : (n at : ℕ) (after : List ℕ) → n ≡ len + length bytes → n ≤ max_frame → at ≡ place_of count → after ≡ over room (at + 1 + len) bytes → Drafts count len bytes room (Some n) after
  grows n at after s h p e =
      let o : List ℕ = over room (at + 1 + len) bytes in
      let q : at + 1 + len ≡ place_of count + 1 + len = omega arith in
      let k : at + 1 + len + length bytes ≤ length room = omega arith in
      rw (e, s)
      (record {
        reading =
            rw (le-leb (length (draft_of count len room) + length bytes) max_frame (omega (arith, draft_length count len room z)))
            (ap going
            (plain o (place_of count + 1) (len + length bytes) (omega arith)
            ∙ over_from room (at + 1 + len) bytes k (place_of count + 1) len q
            ∙ ap (λ (x : List ℕ). x ++ bytes) (sym (plain room (place_of count + 1) len (omega arith)))));
        unseen = unseen count room (at + 1 + len) bytes z (omega arith) (omega arith);
      })

-- one more frame
module _ (count to len : ℕ) (heads room : List ℕ) (h : count < max_outbox) (d : length heads ≡ heads_size) where
  abbrev more : List ℕ
  more = set (set heads (2 * count) to) (2 * count + 1) len

  -- all of the heads are seen
  whole : take heads_size more ≡ more
  whole = take_all heads_size more (omega (arith, length-set (set heads (2 * count) to) (2 * count + 1) len, length-set heads (2 * count) to))

  newest : frame_at more room count ≡ frame to (bytes_at room (place_of count) len)
  newest =
      let e : min count max_outbox ≡ count = omega arith in
      rw (whole, get_or-set_same (set heads (2 * count) to) (2 * count + 1) len 0 (omega (arith, length-set heads (2 * count) to)), get_or-set_other (set heads (2 * count) to) (2 * count + 1) (2 * count) len 0 (omega arith), get_or-set_same heads (2 * count) to 0 (omega arith), e)

  earlier : (i : ℕ) → i < count → frame_at more room i ≡ frame_at heads room i
  earlier i p =
      rw (whole, take_all heads_size heads (omega arith), get_or-set_other (set heads (2 * count) to) (2 * count + 1) (2 * i) len 0 (omega arith), get_or-set_other (set heads (2 * count) to) (2 * count + 1) (2 * i + 1) len 0 (omega arith), get_or-set_other heads (2 * count) (2 * i) to 0 (omega arith), get_or-set_other heads (2 * count) (2 * i + 1) to 0 (omega arith))

  appended : queue_of (count + 1) more room ≡ queue_of count heads room ++ (frame to (bytes_at room (place_of count) len) ∷ [])
  appended =
      tab_snoc (frame_at more room) count
      ∙ ap₂ (λ (q : List Frame) (f : Frame). q ++ (f ∷ [])) (tab-same (frame_at more room) (frame_at heads room) 0 count (λ i _ s. earlier i (omega arith))) newest

  pub push_free : leaves 0 (queue_of (count + 1) more room) ≡ pushed (queue_of count heads room) to (bytes_at room (place_of count) len)
  unfolding pushed
  push_free =
      let p : length (queue_of count heads room) < max_outbox = omega (arith, tab-length (frame_at heads room) 0 count) in
      rw (appended, lt-ltb (length (queue_of count heads room)) max_outbox p)

-- sixteen wait
pub push-full : (count to len : ℕ) (heads room : List ℕ) → max_outbox ≤ count → leaves 3 (queue_of count heads room) ≡ pushed (queue_of count heads room) to (bytes_at room (place_of count) len)
unfolding pushed
push-full count to len heads room h =
    let p : max_outbox ≤ length (queue_of count heads room) = omega (arith, tab-length (frame_at heads room) 0 count) in
    rw (le-ltb (length (queue_of count heads room)) max_outbox p)
