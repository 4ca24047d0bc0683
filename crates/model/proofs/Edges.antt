-- Rules that are easy to get wrong: earlier subscriptions stay, busy comes before the length, a drain leaves the buffer's rest.
use Prim.Native.Nat.{ℕ, ◌≤◌}
use mathlib.Core.Path.{◌≡◌, refl, ◌∙◌}
use mathlib.Core.Bool.{Bool, true, false}
use mathlib.Core.List.{List, [], ◌∷◌, ◌++◌}
use mathlib.Core.Option.{Option, some, none}
use native.Mathlib.Omega.{arith}
use lib.ListN.{length, take, drop, length-append, length-drop}
use lib.Seq.{take-append_seam, drop-append_seam}
use borrow.Author.Tests.{le-leb}
use Rattle.model.specs.Tests.{pick}
use Rattle.model.specs.Numbers.{max_time}
use Rattle.model.specs.Config.{find_did, readable}
use Rattle.model.specs.Frame.{sid_of, periodic_did, negative_frame}
use Rattle.model.specs.State.{Subscription, AddressMode, PendingRequest, State, received, valid}
use Rattle.model.specs.Queue.{positive, negative}
use Rattle.model.specs.Reply.{queued}
use Rattle.model.specs.Service.{Seen, schedules}
use Rattle.model.specs.Service2A.{rate_of, register, interval_for, registered, register_all}
use Rattle.model.specs.Request.{Request, plain, heard, addressed, routed, request}
use Rattle.model.specs.Queue as Queue
use Rattle.model.specs.Queue.{records}
use Rattle.model.specs.Drain.{drain}
use Rattle.model.proofs.Valid.Parts.{valid_parts}

-- subscriptions that were registered stay when a later identifier is refused
module _ (v : Seen) (mode : ℕ) where
  -- all of a list registered
  abbrev Registers : List ℕ → List Subscription → Type 0
  Registers ids t = (register_all v mode ids t).reply ≡ positive (mode ∷ [])

  -- the rest is then registered over what stands
  pub registered-onward : (ids more : List ℕ) (t : List Subscription) → Registers ids t → register_all v mode (ids ++ more) t ≡ register_all v mode more (register_all v mode ids t).periodic
  registered-onward [] more t h = refl
  registered-onward (b ∷ ids) more t h =
      go (readable v.session.session_type (find_did v.config (periodic_did b))) (register (periodic_did b) v.src (interval_for v (rate_of mode) (periodic_did b)) v.now t) h (registered-onward ids more)
    where
      go : (a : Bool) (o : Option (List Subscription)) → (pick a (registered v t o (register_all v mode ids)) (schedules v t (negative 0x31))).reply ≡ positive (mode ∷ [])
          → ((u : List Subscription) → Registers ids u → register_all v mode (ids ++ more) u ≡ register_all v mode more (register_all v mode ids u).periodic)
          → pick a (registered v t o (register_all v mode (ids ++ more))) (schedules v t (negative 0x31))
          ≡ register_all v mode more (pick a (registered v t o (register_all v mode ids)) (schedules v t (negative 0x31))).periodic
      go true (some u) z ih = ih u z
      go true none z ih = cc
      go false o z ih = cc

  -- so after 0x31 for an unreadable identifier the earlier ones stand
  pub earlier_stay : (ids more : List ℕ) (b : ℕ) (t : List Subscription) → Registers ids t → readable v.session.session_type (find_did v.config (periodic_did b)) ≡ false
      → register_all v mode (ids ++ (b ∷ more)) t ≡ schedules v (register_all v mode ids t).periodic (negative 0x31)
  earlier_stay ids more b t h e = registered-onward ids (b ∷ more) t h ∙ rw e

-- with a request pending the answer is 0x21 to the called address, whatever the frame: also an empty one, or one above 4095 bytes
pub busy_first : (limit : ℕ) (s : State) (r : Request) (m : AddressMode) (p : PendingRequest) → valid limit s ≡ true → r.inbound.time ≤ max_time
    → addressed s.config r.inbound.dst ≡ some m → s.pending ≡ some p
    → request limit s r ≡ plain (queued (received s m r.inbound.time) r.inbound.dst (negative_frame (sid_of r.inbound.frame) 0x21))
unfolding request routed heard
busy_first limit s r m p v h a e = rw (v, le-leb r.inbound.time max_time h, a, e)

-- a drain that is done writes the records at the front, leaves the rest, keeps the buffer's length, counts the frames and empties the queue
pub record Drains (s : State) (before after : List ℕ) (count : ℕ) (u : State) : Type 0 where
  pub front : take (length (records s.queue)) after ≡ records s.queue
  pub rest : drop (length (records s.queue)) after ≡ drop (length (records s.queue)) before
  pub size : length after ≡ length before
  pub counted : count ≡ length s.queue
  pub emptied : u.queue ≡ []

pub drained : (limit : ℕ) (s : State) (b : List ℕ) → valid limit s ≡ true → length (records s.queue) ≤ length b
    → Drains s b (drain limit s b).buffer (drain limit s b).count (drain limit s b).step.state
unfolding drain Queue.drained
drained limit s b v h =
    let r = records s.queue in
    rw (v, (valid_parts limit s v).queue, le-leb (length r) (length b) h)
    (record {
      front = take-append_seam r _;
      rest = drop-append_seam r (drop (length r) b);
      size = length-append r (drop (length r) b) ∙ omega (arith, length-drop (length r) b);
      counted = refl;
      emptied = refl;
    })
