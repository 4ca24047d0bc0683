-- A reply that was found too long in the making is what the positive frame would have become.
use Prim.Native.Nat.{ℕ, suc, ◌+◌}
use mathlib.Core.Path.{◌≡◌, refl, ap₂}
use mathlib.Core.Bool.{Bool, true, false}
use mathlib.Core.List.{List, ◌++◌}
use native.Mathlib.Omega.{arith}
use lib.ListN.{length, length-append}
use lib.Dec.{leb}
use borrow.Author.Tests.{lt-leb, leb-false}
use Rattle.model.specs.Tests.{pick}
use Rattle.model.specs.Numbers.{Moment}
use Rattle.model.specs.Frame.{Frame}
use Rattle.model.specs.State.{AddressMode, State}
use Rattle.model.specs.Queue.{positive, negative, confirmed, answered}
use Rattle.model.specs.Reply.{taken, readied, replied}
use Rattle.model.specs.Service22.{going, ended, appended, read_reply}

-- to the queue
pub made : (limit : ℕ) (mode : AddressMode) (q : List Frame) (to sid : ℕ) (acc b : List ℕ) → answered limit mode q to sid (read_reply (appended limit acc b)) ≡ answered limit mode q to sid (positive (acc ++ b))
unfolding answered confirmed
made limit mode q to sid acc b = go (leb (length acc + length b) limit) refl
  where
    go : (t : Bool) → leb (length acc + length b) limit ≡ t → answered limit mode q to sid (read_reply (appended limit acc b)) ≡ answered limit mode q to sid (positive (acc ++ b))
    go true e = rw e
    go false e = rw (e, lt-leb (suc (length (acc ++ b))) limit (omega (arith, leb-false (length acc + length b) limit e, length-append acc b)))

-- and to the state, which stays as it is but for the queue
pub made_too_long : (limit : ℕ) (s : State) (to sid : ℕ) (now : Moment) (acc b : List ℕ) → replied limit s to sid now (read_reply (appended limit acc b)) ≡ replied limit s to sid now (positive (acc ++ b))
unfolding replied
made_too_long limit s to sid now acc b = ap₂ taken (stays (leb (length acc + length b) limit)) (made limit s.mode s.queue to sid acc b)
  where
    stays : (t : Bool) → readied s to sid now (read_reply (pick t (going (acc ++ b)) (ended (negative 0x14)))) ≡ s
    stays true = refl
    stays false = refl
