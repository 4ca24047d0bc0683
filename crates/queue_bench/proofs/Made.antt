-- A payload put in the free place and said is answered as the positive reply of that payload.
use Prim.Native.Nat.{ℕ}
use mathlib.Core.Path.{◌≡◌, ap, ap₂, ◌∙◌}
use mathlib.Core.List.{List, []}
use Rattle.std.specs.Prelude.{Option as Maybe}
use Rattle.model.specs.Numbers.{max_frame}
use Rattle.model.specs.Frame.{Frame}
use Rattle.model.specs.State.{AddressMode}
use Rattle.model.specs.Queue.{Reply, answered, confirmed}
use Rattle.model.specs.Service22.{read_reply}
use Rattle.queue.specs.View.{queue_of, reading_of, Drafts}
use Rattle.queue.proofs.Replied.{made}

-- of what `extend` and `said` promise: found too long in the making or not, it is the positive reply
pub makes : (mode : AddressMode) (heads : List ℕ) (to sid : ℕ) {count : ℕ} {bytes before after : List ℕ} {d : Maybe ℕ} {r : Reply} → r ≡ read_reply (reading_of d count after) → Drafts count 0 bytes before d after
    → answered max_frame mode (queue_of count heads after) to sid r ≡ confirmed max_frame mode (queue_of count heads before) to sid bytes
unfolding answered
makes mode heads to sid {count = count} {bytes = bytes} {before = before} e g =
    ap₂ (λ (q : List Frame) (x : Reply). answered max_frame mode q to sid x) (g.unseen heads) (e ∙ ap read_reply g.reading)
    ∙ made max_frame mode (queue_of count heads before) to sid [] bytes
