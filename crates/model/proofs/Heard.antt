-- A request that is addressed here is heard: it leaves last_rx at its time and the address mode of its destination, whichever service it names and whatever
-- its reply meets. A foreign one leaves the whole state.
use Prim.Native.Nat.{ℕ, ◌≤◌}
use mathlib.Core.Path.{◌≡◌, refl}
use mathlib.Core.Bool.{true}
use mathlib.Core.List.{List, [], ◌∷◌}
use mathlib.Core.Option.{Option, some, none}
use lib.ListN.{replicate}
use lib.Dec.{leb}
use borrow.Author.Tests.{le-leb}
use Rattle.model.specs.Numbers.{Moment, max_frame, max_time}
use Rattle.model.specs.Config.{Config, find_service}
use Rattle.model.specs.Values.{given0, empty_table}
use Rattle.model.specs.Frame.{sid_of, negative_frame}
use Rattle.model.specs.State.{AddressMode, functional, Session, Security, Subscription, PendingRequest, State, step, valid, with_queue, fresh_state, received}
use Rattle.model.specs.Request.{Request, Answer, plain, seen, served, length_fits, heard, addressed, routed, request}
use Rattle.model.specs.Fixed.{fixed_config}
use Rattle.model.specs.Alike.{inbound, asking}
use Rattle.model.proofs.Open.{whole}
use Rattle.model.proofs.Dispatch.{at_guarded}
use Rattle.model.proofs.Laws.{either}
use Rattle.model.proofs.Leaves.Replies.{On, queued-answered, answered_on, apply_on}
use Rattle.model.proofs.Untouched.{Left, untouched}

module _ (m : AddressMode) (now : Moment) where
  -- the address mode and last_rx are those of a request
  pub record Heard (a : AddressMode) (x : Session) : Type 0 where
    pub mode : a ≡ m
    pub last_rx : x.last_rx ≡ now

  abbrev Hears : Config → AddressMode → Session → Security → List Subscription → Type 0
  Hears c a x k t = Heard a x

  -- a request that is heard leaves them so: busy, of a length that does not fit, or served
  heard_hears : (limit : ℕ) (s : State) (r : Request) (o : Option PendingRequest) → On Hears s → On Hears (heard limit s r o).step.state
  unfolding heard
  heard_hears limit s r (some p) h = answered_on Hears (queued-answered s r.inbound.dst (negative_frame (sid_of r.inbound.frame) 0x21)) h
  heard_hears limit s r none h =
      let sid = sid_of r.inbound.frame in
      let l = at_guarded (Left (seen limit s r)) (seen limit s r) (untouched (seen limit s r)) sid (find_service s.config sid) in
      either (λ (a : Answer). On Hears a.step.state) (length_fits r.inbound.frame)
      (apply_on Hears limit s r.inbound.src sid r.inbound.time (served limit s r).effect h (record { mode = h.mode; last_rx = rw l.last_rx h.last_rx }))
      h

-- a request that is addressed here, of a valid state and at a time up to 2^48, leaves last_rx and the address mode as its own
pub hears : (limit : ℕ) (s : State) (r : Request) (m : AddressMode) → valid limit s ≡ true → r.inbound.time ≤ max_time → addressed s.config r.inbound.dst ≡ some m
    → Heard m r.inbound.time (request limit s r).step.state.mode (request limit s r).step.state.session
unfolding request routed
hears limit s r m v t a =
    rw (v, le-leb r.inbound.time max_time t, a)
    (heard_hears m r.inbound.time limit (received s m r.inbound.time) r s.pending (record { mode = refl; last_rx = refl }))

-- one that is not leaves the state as it was, also where it is refused by 10 or 6
pub foreign : (limit : ℕ) (s : State) (r : Request) → addressed s.config r.inbound.dst ≡ none → (request limit s r).step.state ≡ s
unfolding request routed
foreign limit s r a =
    rw a (either (λ (p : Answer). p.step.state ≡ s) (valid limit s) (either (λ (p : Answer). p.step.state ≡ s) (leb r.inbound.time max_time) refl refl) refl)

-- and of a valid state, at a time up to 2^48, it is done: no act, and result 0
pub foreign_done : (limit : ℕ) (s : State) (r : Request) → valid limit s ≡ true → r.inbound.time ≤ max_time → addressed s.config r.inbound.dst ≡ none
    → request limit s r ≡ plain (step 0 s)
unfolding request routed
foreign_done limit s r v t a = rw (v, le-leb r.inbound.time max_time t, a)

-- such a request: with 16 frames held, 3E to the functional address at 5 meets 3, and is heard all the same
abbrev full : State
full = with_queue (fresh_state fixed_config) (replicate 16 (record { dst = 3712; bytes = 0x7E ∷ 0 ∷ [] }))

abbrev presents : Request
presents = asking (inbound 5 3712 2015 (0x3E ∷ 0 ∷ [])) given0 empty_table

pub full_hears : ((request max_frame full presents).step.result ≡ 3) × ((request max_frame full presents).step.state.session.last_rx ≡ 5) × ((request max_frame full presents).step.state.mode ≡ functional)
unfolding whole
full_hears = (refl, refl, refl)
