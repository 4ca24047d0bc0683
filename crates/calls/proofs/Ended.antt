-- One law for each way out of complete and fail.
use Prim.Native.Nat.{ℕ}
use mathlib.Core.Path.{◌≡◌, refl, ap, ap₂, sym, ◌∙◌}
use mathlib.Core.Bool.{Bool, true, false}
use mathlib.Core.List.{List, []}
use mathlib.Core.Option.{Option, some, none}
use native.Mathlib.Omega.{arith}
use lib.Dec.{leb}
use borrow.Author.Tests.{le-leb}
use Rattle.model.specs.Tests.{pick}
use Rattle.model.specs.Numbers.{max_frame, max_time}
use Rattle.model.specs.Frame.{Frame}
use Rattle.model.specs.State as Model
use Rattle.model.specs.State.{AddressMode, PendingRequest, with_pending}
use Rattle.model.specs.Queue as Queue
use Rattle.model.specs.Queue.{answered}
use Rattle.model.specs.Reply.{taken, queued, confirmed}
use Rattle.model.specs.Service22.{Reading, appended, read_reply}
use Rattle.model.specs.Pending.{complete, completed, fail, failed}
use Rattle.queue.specs.View.{Unseen, queue_of, mode_of}
use Rattle.queue.proofs.Replied.{made}
use Rattle.state.specs.View.{state_of, step_of}
use Rattle.state.specs.declared.State.{State}
use Rattle.entry.specs.Gate.{barring}
use Rattle.entry.proofs.Gate.{let_through}
use Rattle.calls.specs.Pending.{ending, Ends}

-- 1 after 10 and 6
module _ (valid on : Bool) (t n : ℕ) where
  module _ (g : n ≡ barring valid t) where
    pub ends-barred : (n ≡ 0 → ⊥) → n ≡ ending valid on t
    unfolding barring ending
    ends-barred z = go valid (leb t max_time) g
      where
        go : (v b : Bool) → n ≡ pick v (pick b 0 6) 10 → n ≡ pick v (pick b (pick on 0 1) 6) 10
        go false b e = e
        go true false e = e
        go true true e = absurd (z e)

    ends_through : n ≡ 0 → pick on 0 1 ≡ ending valid on t
    unfolding ending
    ends_through z = let p = let_through valid t n g z in rw (p.0, le-leb t max_time p.1)

    pub ends_one : n ≡ 0 → on ≡ true → 0 ≡ ending valid on t
    ends_one z e = ap (λ (o : Bool). pick o 0 1) (sym e) ∙ ends_through z

    pub ends-none : n ≡ 0 → on ≡ false → 1 ≡ ending valid on t
    ends-none z e = ap (λ (o : Bool). pick o 0 1) (sym e) ∙ ends_through z

  -- complete and fail end a pending request by some step, or answer with the number alone
  module _ {A : Type 0} (refused : ℕ → A) (end : Option PendingRequest → A) (p : PendingRequest) (g : n ≡ ending valid on t) where
    pub ended-barred : (n ≡ 0 → ⊥) → end none ≡ refused 1 → refused n ≡ pick valid (pick (leb t max_time) (end (pick on (some p) none)) (refused 6)) (refused 10)
    unfolding ending
    ended-barred z f = go valid (leb t max_time) on g
      where
        go : (v b o : Bool) → n ≡ pick v (pick b (pick o 0 1) 6) 10 → refused n ≡ pick v (pick b (end (pick o (some p) none)) (refused 6)) (refused 10)
        go false b o e = rw e
        go true false o e = rw e
        go true true false e = rw (e, f)
        go true true true e = absurd (z e)

    pub ended_through : n ≡ 0 → end (some p) ≡ pick valid (pick (leb t max_time) (end (pick on (some p) none)) (refused 6)) (refused 10)
    unfolding ending
    ended_through z = go valid (leb t max_time) on (sym z ∙ g)
      where
        go : (v b o : Bool) → ◌≡◌ {A = ℕ} 0 (pick v (pick b (pick o 0 1) 6) 10) → end (some p) ≡ pick v (pick b (end (pick o (some p) none)) (refused 6)) (refused 10)
        go false b o e = absurd (omega arith)
        go true false o e = absurd (omega arith)
        go true true false e = absurd (omega arith)
        go true true true e = refl

-- a payload made where it will wait, or found too long in the making, is confirmed
confirms : (mode : AddressMode) (q : List Frame) (to sid : ℕ) (payload : List ℕ) (o : Reading) → o ≡ appended max_frame [] payload → answered max_frame mode q to sid (read_reply o) ≡ Queue.confirmed max_frame mode q to sid payload
unfolding answered
confirms mode q to sid payload o e = ap (λ (x : Reading). answered max_frame mode q to sid (read_reply x)) e ∙ made max_frame mode q to sid [] payload

pub confirmed_so : (mode : AddressMode) (count : ℕ) (heads before after : List ℕ) (to sid : ℕ) (payload : List ℕ) (o : Reading) (reply : Queue.Reply) (q : Queue.QueueStep)
    → Unseen count before after → o ≡ appended max_frame [] payload → reply ≡ read_reply o → q ≡ answered max_frame mode (queue_of count heads after) to sid reply
    → q ≡ Queue.confirmed max_frame mode (queue_of count heads before) to sid payload
confirmed_so mode count heads before after to sid payload o reply q u d z e =
    e ∙ ap₂ (λ (l : List Frame) (r : Queue.Reply). answered max_frame mode l to sid r) (u heads) z ∙ confirms mode (queue_of count heads before) to sid payload o d

module _ (w : List ℕ) (s : State) (k subs heads room : List ℕ) (t : ℕ) (found : Bool) (n : ℕ) (v : found ≡ Model.valid max_frame (state_of w s k subs heads room)) (g : n ≡ ending found s.pending.on t) where
  abbrev before : Model.State
  before = state_of w s k subs heads room

  -- the request that is pending, where one is
  abbrev waiting : PendingRequest
  waiting = record { dst = s.pending.dst; sid = s.pending.sid; deadline = s.pending.deadline.0 }

  asked : n ≡ ending (Model.valid max_frame before) s.pending.on t
  asked = rw v at g

  module _ (payload : List ℕ) where
    pub complete-barred : (n ≡ 0 → ⊥) → Model.step n before ≡ complete max_frame before t payload
    unfolding complete completed
    complete-barred z = ended-barred (Model.valid max_frame before) s.pending.on t n (λ m. Model.step m before) (completed max_frame before payload) waiting asked z refl

    pub completes : n ≡ 0 → (x m c' : ℕ) (r : State) (heads' room' : List ℕ) → x ≡ m
        → record { result = m; queue = queue_of c' heads' room' } ≡ Queue.confirmed max_frame (mode_of s.functional) (queue_of s.frames heads room) s.pending.dst s.pending.sid payload → Ends s c' r
        → step_of w (record { state = r; result = x }) k subs heads' room' ≡ complete max_frame before t payload
    unfolding complete completed confirmed
    completes z x m c' r heads' room' told q d =
        ap₂ Model.step told (d.state w k subs heads room heads' room')
        ∙ ap (taken (with_pending before none)) q
        ∙ ended_through (Model.valid max_frame before) s.pending.on t n (λ m. Model.step m before) (completed max_frame before payload) waiting asked z

  module _ (code : ℕ) where
    pub fail-barred : (n ≡ 0 → ⊥) → Model.step n before ≡ fail max_frame before t code
    unfolding fail failed
    fail-barred z = ended-barred (Model.valid max_frame before) s.pending.on t n (λ m. Model.step m before) (failed before code) waiting asked z refl

    pub fails : n ≡ 0 → (x m c' : ℕ) (r : State) (heads' room' : List ℕ) → x ≡ m
        → record { result = m; queue = queue_of c' heads' room' } ≡ answered max_frame (mode_of false) (queue_of s.frames heads room) s.pending.dst s.pending.sid (Queue.negative code) → Ends s c' r
        → step_of w (record { state = r; result = x }) k subs heads' room' ≡ fail max_frame before t code
    unfolding fail failed queued answered Queue.refused Queue.withheld
    fails z x m c' r heads' room' told q d =
        ap₂ Model.step told (d.state w k subs heads room heads' room')
        ∙ ap (taken (with_pending before none)) q
        ∙ ended_through (Model.valid max_frame before) s.pending.on t n (λ m. Model.step m before) (failed before code) waiting asked z
