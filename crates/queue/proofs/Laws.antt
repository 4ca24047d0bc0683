-- What the functions of the queue do, as laws of the definitions over what their callees promise: one for each way out.
use Prim.Native.Nat.{ℕ, suc, ◌≤◌, ◌<◌}
use mathlib.Core.Path.{◌≡◌, refl, ap₂, sym, ◌∙◌}
use mathlib.Core.Bool.{true, false}
use mathlib.Core.List.{List}
use lib.ListN.{length}
use borrow.Author.Tests.{le-leb, lt-leb}
use Rattle.model.specs.Numbers.{max_frame}
use Rattle.model.specs.Frame.{Frame, positive_frame, negative_frame}
use Rattle.model.specs.State.{AddressMode, physical}
use Rattle.model.specs.Queue.{withheld, leaves, pushed, refused, confirmed, sent}
use Rattle.std.specs.Prelude.{Result}
use Rattle.uds.specs.Result.{result_of}
use Rattle.uds.specs.declared.result.Refusal.{Refusal}
use Rattle.queue.specs.View.{queue_of, Pushes}
use Rattle.queue.proofs.Room.{Stands, draft_length, stands, leads, push_free, push-full}

-- a frame that stands in the free place, pushed
pub queues : {count to n count' : ℕ} {bytes heads heads' room room' : List ℕ} {r : Result (Unit {0}) Refusal} → Stands count bytes n room room' → Pushes count to n heads r count' heads'
    → record { result = result_of r; queue = queue_of count' heads' room' } ≡ pushed (queue_of count heads room) to bytes
queues {to = to} {heads = h} {room' = m} s p = p.step m ∙ ap₂ (λ (q : List Frame) (b : List ℕ). pushed q to b) (s.unseen h) s.there

-- a physical request hears every code
pub unwithheld : (code : ℕ) → withheld physical code ≡ false
unfolding withheld
unwithheld code = refl

module _ (q : List Frame) (to : ℕ) (bytes : List ℕ) where
  pub sent-short : length bytes ≤ max_frame → pushed q to bytes ≡ sent max_frame q to bytes
  unfolding sent
  sent-short h = rw (le-leb (length bytes) max_frame h)

  pub sent-long : max_frame < length bytes → leaves 4 q ≡ sent max_frame q to bytes
  unfolding sent
  sent-long h = rw (lt-leb (length bytes) max_frame h)

module _ (mode : AddressMode) (q : List Frame) (to sid : ℕ) where
  pub confirmed-short : (p : List ℕ) → suc (length p) ≤ max_frame → sent max_frame q to (positive_frame sid p) ≡ confirmed max_frame mode q to sid p
  unfolding confirmed
  confirmed-short p h = sym (sent-short q to (positive_frame sid p) h) ∙ rw (le-leb (suc (length p)) max_frame h)

  pub confirmed-long : (p : List ℕ) → max_frame < suc (length p) → refused mode q to sid 0x14 ≡ confirmed max_frame mode q to sid p
  unfolding confirmed
  confirmed-long p h = rw (lt-leb (suc (length p)) max_frame h)

  pub refused-silent : (code : ℕ) → withheld mode code ≡ true → leaves 0 q ≡ refused mode q to sid code
  unfolding refused
  refused-silent code e = rw e

  pub refused-said : (code : ℕ) → withheld mode code ≡ false → pushed q to (negative_frame sid code) ≡ refused mode q to sid code
  unfolding refused
  refused-said code e = rw e

-- the ways out of `push`, of `refuse`, of `send` and of `confirm`
pub ruleset pushes = (push_free, push-full)

pub ruleset refusals = (refused-silent, refused-said, unwithheld)

pub ruleset sends = (queues, leads, sent-short, sent-long, draft_length)

pub ruleset confirms = (confirmed-short, confirmed-long, draft_length)
