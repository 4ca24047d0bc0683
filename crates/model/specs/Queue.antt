-- The queue by itself: what a reply, a periodic frame and a drain do to the frames that wait. `Reply`, `Tick` and `Drain` take this into the state.
use Rattle.std.specs.Prelude.{ℕ, suc, ◌+◌, ◌/◌, ◌%◌, Bool, false, List, [], ◌∷◌, ◌++◌, length, drop, nat_le, nat_lt}
use Rattle.model.specs.Tests.{pick, memb}
use Rattle.model.specs.Numbers.{max_outbox}
use Rattle.model.specs.Config.{table_within}
use Rattle.model.specs.Frame.{Frame, positive_frame, negative_frame}
use Rattle.model.specs.State.{AddressMode, physical, functional, frame_valid}

-- a result number and the queue that is left
pub record QueueStep : Type 0 where
  pub result : ℕ
  pub queue : List Frame

abbrev pub leaves : ℕ → List Frame → QueueStep
leaves n q = record { result = n; queue = q }

-- a frame is queued, or 3 where 16 are held: the queue is then unchanged
unfoldable pub pushed : List Frame → ℕ → List ℕ → QueueStep
pushed q to bytes = pick (nat_lt (length q) max_outbox) (leaves 0 (q ++ (record { dst = to; bytes = bytes } ∷ []))) (leaves 3 q)

-- the codes that are withheld after a functional request
abbrev pub functionally_suppressed : List ℕ
functionally_suppressed = 0x11 ∷ 0x12 ∷ 0x31 ∷ 0x7E ∷ 0x7F ∷ []

unfoldable pub withheld : AddressMode → ℕ → Bool
withheld physical code = false
withheld functional code = memb code functionally_suppressed

-- a negative frame with one of them after a functional request is dropped, result 0
unfoldable pub refused : AddressMode → List Frame → ℕ → ℕ → ℕ → QueueStep
refused mode q to sid code = pick (withheld mode code) (leaves 0 q) (pushed q to (negative_frame sid code))

-- a positive frame above the limit in all becomes 0x14
unfoldable pub confirmed : ℕ → AddressMode → List Frame → ℕ → ℕ → List ℕ → QueueStep
confirmed limit mode q to sid p = pick (nat_le (suc (length p)) limit) (pushed q to (positive_frame sid p)) (refused mode q to sid 0x14)

-- of a request that becomes pending 0x78 is queued, however it was addressed
abbrev pub pended : List Frame → ℕ → ℕ → QueueStep
pended q to sid = pushed q to (negative_frame sid 0x78)

-- what a service may say: nothing; a positive payload; a negative code; one that is sent however the request was addressed; or the
-- request becomes pending
pub data Reply : Type 0 where
  silent : Reply
  positive : List ℕ → Reply
  negative : ℕ → Reply
  always : ℕ → Reply
  pends : Reply

-- a reply queued: to whom, for which service
unfoldable pub answered : ℕ → AddressMode → List Frame → ℕ → ℕ → Reply → QueueStep
answered limit mode q to sid silent = leaves 0 q
answered limit mode q to sid (positive p) = confirmed limit mode q to sid p
answered limit mode q to sid (negative code) = refused mode q to sid code
answered limit mode q to sid (always code) = pushed q to (negative_frame sid code)
answered limit mode q to sid pends = pended q to sid

-- a periodic frame: 4 where it exceeds the limit, else queued
unfoldable pub sent : ℕ → List Frame → ℕ → List ℕ → QueueStep
sent limit q to bytes = pick (nat_le (length bytes) limit) (pushed q to bytes) (leaves 4 q)

-- little-endian numbers
abbrev pub u16 : ℕ → List ℕ
u16 n = n % 256 ∷ n / 256 % 256 ∷ []

abbrev pub u32 : ℕ → List ℕ
u32 n = n % 256 ∷ n / 256 % 256 ∷ n / 65536 % 256 ∷ n / 16777216 % 256 ∷ []

-- a record: u16 length of what follows the kind, u16 kind 1, u32 destination, frame
abbrev pub record1 : Frame → List ℕ
record1 f = u16 (4 + length f.bytes) ++ (u16 1 ++ (u32 f.dst ++ f.bytes))

-- oldest first
abbrev pub records : List Frame → List ℕ
records [] = []
records (f ∷ q) = record1 f ++ records q

-- a drain's result, how many frames it wrote, the queue that is left, and the buffer afterwards
pub record QueueDrain : Type 0 where
  pub result : ℕ
  pub frames : ℕ
  pub queue : List Frame
  pub buffer : List ℕ

-- a drain that is refused: no frame is written, and all is as it was
abbrev pub unmoved : ℕ → List Frame → List ℕ → QueueDrain
unmoved n q buffer = record { result = n; frames = 0; queue = q; buffer = buffer }

-- the records, and the buffer's rest unchanged; the queue is then empty
abbrev pub written : List Frame → List ℕ → QueueDrain
written q buffer = record { result = 0; frames = length q; queue = []; buffer = records q ++ drop (length (records q)) buffer }

-- 10 where the queue is not valid, then 5 where the records exceed the buffer
unfoldable pub drained : ℕ → List Frame → List ℕ → QueueDrain
drained limit q buffer =
    pick (table_within max_outbox (frame_valid limit) q) (pick (nat_le (length (records q)) (length buffer)) (written q buffer) (unmoved 5 q buffer)) (unmoved 10 q buffer)
