-- Complete and fail: the final answer of a pending request.
use Rattle.std.specs.Prelude.{ℕ, List, nat_le}
use Rattle.std.proofs.Math.Option.{Option, some, none}
use Rattle.model.specs.Tests.{pick}
use Rattle.model.specs.Numbers.{Moment, max_time}
use Rattle.model.specs.Frame.{negative_frame}
use Rattle.model.specs.State.{PendingRequest, State, Step, step, valid, with_pending}
use Rattle.model.specs.Reply.{queued, confirmed}

-- the pending request ends, even if result 3 follows; its answer is positive, with 0x14 above the limit
unfoldable pub completed : ℕ → State → List ℕ → Option PendingRequest → Step
completed limit s payload none = step 1 s
completed limit s payload (some p) = confirmed limit (with_pending s none) p.dst p.sid payload

-- a failing code is sent even after a functional request; 0x78 starts nothing
unfoldable pub failed : State → ℕ → Option PendingRequest → Step
failed s code none = step 1 s
failed s code (some p) = queued (with_pending s none) p.dst (negative_frame p.sid code)

-- 10, then 6, and 1 after 6
unfoldable pub complete : ℕ → State → Moment → List ℕ → Step
complete limit s now payload = pick (valid limit s) (pick (nat_le now max_time) (completed limit s payload s.pending) (step 6 s)) (step 10 s)

unfoldable pub fail : ℕ → State → Moment → ℕ → Step
fail limit s now code = pick (valid limit s) (pick (nat_le now max_time) (failed s code s.pending) (step 6 s)) (step 10 s)
