-- From the count, the heads and the room to the definition's queue, and from the program's answers to what they mean.
use Rattle.std.specs.Prelude.{Option as Maybe, Some, None, Result}
use Rattle.std.specs.Prelude.{ℕ, ◌+◌, ◌*◌, ◌-◌, ◌≤◌, ◌<◌, min, ◌≡◌, Bool, List, ◌++◌, take, drop, get_or, replicate}
use Rattle.model.specs.Tests.{pick}
use Rattle.model.specs.Numbers.{max_frame, max_outbox}
use Rattle.model.specs.Frame.{Frame}
use Rattle.model.specs.State.{AddressMode, physical, functional}
use Rattle.model.specs.Queue as Definition
use Rattle.model.specs.Queue.{QueueStep, QueueDrain, pushed}
use Rattle.model.specs.Service22.{Reading, going, ended, appended}
use Rattle.uds.specs.Result.{result_of}
use Rattle.uds.specs.Table.{tab}
use Rattle.uds.specs.declared.result.Refusal.{Refusal}
use Rattle.queue.specs.declared.drain.Drained.{Drained}
use Rattle.queue.specs.declared.reply.Outbox.{Outbox}
use Rattle.queue.specs.declared.reply.Reply.{Reply}
use Rattle.queue.specs.declared.reply.Reply.TheVariants.{Silent, Positive, Negative, Always, Pends}

-- how long the lent arrays are
abbrev pub room_size : ℕ
room_size = 4353

abbrev pub heads_size : ℕ
heads_size = 32

-- n bytes of the room from `at` on. A place has 256: what a greater n counts past them is seen as zeros, so that a frame whose length is
-- above the limit is seen as one, and shows no byte of another place
abbrev pub bytes_at : List ℕ → ℕ → ℕ → List ℕ
bytes_at room at n = take (min n max_frame) (drop at room) ++ replicate (n - max_frame) 0

-- a head: there are none past the sixteenth frame's
abbrev pub head_at : List ℕ → ℕ → ℕ
head_at heads k = get_or (take heads_size heads) k 0

abbrev pub frame_at : List ℕ → List ℕ → ℕ → Frame
frame_at heads room i = record { dst = head_at heads (2 * i); bytes = bytes_at room (max_frame * i) (head_at heads (2 * i + 1)) }

-- as many frames as are counted, also where that is more than there are places
abbrev pub queue_of : ℕ → List ℕ → List ℕ → List Frame
queue_of count heads room = tab (frame_at heads room) 0 count

-- the queue that an outbox holds
abbrev pub queue_in : Outbox → List Frame
queue_in o = queue_of o.count o.heads.now o.room.now

-- where the free place begins
abbrev pub place_of : ℕ → ℕ
place_of count = max_frame * min count max_outbox

-- a reply in the making stands after the first byte of the free place
abbrev pub draft_of : ℕ → ℕ → List ℕ → List ℕ
draft_of count len room = bytes_at room (place_of count + 1) len

abbrev pub mode_of : Bool → AddressMode
mode_of b = pick b functional physical

-- what a service's answer means
abbrev pub reply_of : Reply → ℕ → List ℕ → Definition.Reply
reply_of Silent count room = Definition.silent
reply_of (Positive len) count room = Definition.positive (draft_of count len room)
reply_of (Negative code) count room = Definition.negative code
reply_of (Always code) count room = Definition.always code
reply_of Pends count room = Definition.pends

-- a refusal leaves as many frames as there were
abbrev pub step_in : Result (Unit {0}) Refusal → Outbox → QueueStep
step_in r o = record { result = result_of r; queue = queue_in o }

-- a push, of every room: the first `len` bytes of the free place become a frame
pub record Pushes (count to len : ℕ) (before : List ℕ) (r : Result (Unit {0}) Refusal) (count' : ℕ) (after : List ℕ) : Type 0 where
  pub step : (room : List ℕ) → record { result = result_of r; queue = queue_of count' after room } ≡ pushed (queue_of count before room) to (bytes_at room (place_of count) len)

-- the visible queue is as it was, whatever its heads
abbrev pub Unseen : ℕ → List ℕ → List ℕ → Type 0
Unseen count before after = (heads : List ℕ) → queue_of count heads after ≡ queue_of count heads before

-- what appending to a reply in the making answers: how many bytes it has, or none where it would be too long
abbrev pub reading_of : Maybe ℕ → ℕ → List ℕ → Reading
reading_of (Some len) count room = going (draft_of count len room)
reading_of None count room = ended (Definition.negative 0x14)

-- bytes appended to a reply in the making, which nothing shows yet
pub record Drafts (count len : ℕ) (bytes before : List ℕ) (r : Maybe ℕ) (after : List ℕ) : Type 0 where
  pub reading : reading_of r count after ≡ appended max_frame (draft_of count len before) bytes
  pub unseen : Unseen count before after

-- frames that stand in their places
pub record Framed (n : ℕ) (heads : List ℕ) : Type 0 where
  pub few : n ≤ max_outbox
  pub each : (i : ℕ) → i < n → head_at heads (2 * i + 1) ≤ max_frame

abbrev pub drain_of : Drained → List ℕ → List ℕ → List ℕ → QueueDrain
drain_of d heads room buffer = record { result = d.result; frames = d.frames; queue = queue_of d.count heads room; buffer = buffer }
