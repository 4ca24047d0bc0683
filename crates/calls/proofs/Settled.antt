-- Nothing else meets the promises: of two answers that meet one, what the theorem names is the same. `Post` is the promise itself, as its function
-- has it; `e` and `f` are what the one and the other leave of what was lent.
use Prim.Native.Nat.{ℕ}
use mathlib.Core.Path.{◌≡◌, ap}
use mathlib.Core.List.{List}
use Rattle.model.specs.State as Model
use Rattle.model.specs.Drain as Drain
use Rattle.model.specs.Question as Question
use Rattle.model.specs.Request as Request
use Rattle.model.specs.Tick as Tick
use Rattle.uds.proofs.Promise.{Settles}
use Rattle.uds.proofs.Settled.{said}
use Rattle.state.proofs.Settled.{SameState, state}
use Rattle.state.specs.View.{state_of, step_of}
use Rattle.state.specs.declared.apply.Answer.{Answer}
use Rattle.state.specs.declared.State.{State}
use Rattle.service.specs.Act.{act_of}
use Rattle.calls.specs.declared.drain.Drained.{Drained}
use Rattle.calls.specs.declared.question.Asked.{Asked}
use Rattle.calls.specs.declared.request.Answered.{Answered}
use Rattle.calls.specs.declared.tick.Ticked.{Ticked}
use Rattle.calls.proofs.drain.drain.Reads as drain
use Rattle.calls.proofs.pending.complete.Reads as complete
use Rattle.calls.proofs.pending.fail.Reads as fail
use Rattle.calls.proofs.question.question.Reads as question
use Rattle.calls.proofs.request.request.Reads as request
use Rattle.calls.proofs.tick.tick.Reads as tick

-- a state under a configuration: its own numbers, and what is seen of all that is lent
pub record SameLeft (config : List ℕ) (s s' : State) (k k' subs subs' heads heads' room room' : List ℕ) : Type 0 where
  pub state : SameState s s'
  pub seen : state_of config s k subs heads room ≡ state_of config s' k' subs' heads' room'

same_left : (config : List ℕ) (s s' : State) (k k' subs subs' heads heads' room room' : List ℕ) → state_of config s k subs heads room ≡ state_of config s' k' subs' heads' room' → SameLeft config s s' k k' subs subs' heads heads' room room'
same_left config s s' k k' subs subs' heads heads' room room' z = record { state = state s s' config config k k' subs subs' heads heads' room room' z; seen = z }

-- the result, how many frames were written, the state, and every byte of the buffer
pub record SameDrained (r r' : Drained) (buffer buffer' : List ℕ) : Type 0 where
  pub result : r.result ≡ r'.result
  pub frames : r.frames ≡ r'.frames
  pub state : SameState r.state r'.state
  pub bytes : buffer ≡ buffer'

pub drain_settled : (κs : _) (a : _) → Settles (drain.Post κs a) (λ x e y f. SameDrained x y e.1.1.1.1.1.1.0.now f.1.1.1.1.1.1.0.now)
drain_settled κs a x e y f p q =
    let z = said p q in
    let config = a.0.now in
    let k = a.1.1.0.now in
    let subs = a.1.1.1.0.now in
    let heads = a.1.1.1.1.0.now in
    let room = a.1.1.1.1.1.0.now in
    record {
      result = ap (λ (m : Drain.Drained). m.step.result) z;
      frames = ap (λ (m : Drain.Drained). m.count) z;
      state = state x.state y.state config config k k subs subs heads heads room room (ap (λ (m : Drain.Drained). m.step.state) z);
      bytes = ap (λ (m : Drain.Drained). m.buffer) z;
    }

-- a question: the act and the result
pub record SameAsked (r r' : Asked) : Type 0 where
  pub act : act_of r.act ≡ act_of r'.act
  pub result : r.result ≡ r'.result

pub question_settled : (κs : _) (a : _) → Settles (question.Post κs a) (λ x e y f. SameAsked x y)
question_settled κs a x e y f p q = let z = said p q in
    record { act = ap (λ (m : Question.Asked). m.act) z; result = ap (λ (m : Question.Asked). m.result) z }

-- a request: the act, the result, and what is left
pub record SameAnswered (config : List ℕ) (r r' : Answered) (k k' subs subs' heads heads' room room' : List ℕ) : Type 0 where
  pub act : act_of r.act ≡ act_of r'.act
  pub result : r.result ≡ r'.result
  pub left : SameLeft config r.state r'.state k k' subs subs' heads heads' room room'

pub request_settled : (κs : _) (a : _)
    → Settles (request.Post κs a) (λ x e y f. SameAnswered a.0.now x y e.1.1.0.now f.1.1.0.now e.1.1.1.0.now f.1.1.1.0.now e.1.1.1.1.0.now f.1.1.1.1.0.now e.1.1.1.1.1.0.now f.1.1.1.1.1.0.now)
request_settled κs a x e y f p q = let z = said p q in
    record {
      act = ap (λ (m : Request.Answer). m.act) z;
      result = ap (λ (m : Request.Answer). m.step.result) z;
      left = same_left a.0.now x.state y.state e.1.1.0.now f.1.1.0.now e.1.1.1.0.now f.1.1.1.0.now e.1.1.1.1.0.now f.1.1.1.1.0.now e.1.1.1.1.1.0.now f.1.1.1.1.1.0.now (ap (λ (m : Request.Answer). m.step.state) z);
    }

-- a tick: the error byte, the result, and what is left
pub record SameTicked (config : List ℕ) (r r' : Ticked) (k k' subs subs' heads heads' room room' : List ℕ) : Type 0 where
  pub err : r.err ≡ r'.err
  pub result : r.result ≡ r'.result
  pub left : SameLeft config r.state r'.state k k' subs subs' heads heads' room room'

pub tick_settled : (κs : _) (a : _)
    → Settles (tick.Post κs a) (λ x e y f. SameTicked a.0.now x y e.1.1.0.now f.1.1.0.now e.1.1.1.0.now f.1.1.1.0.now e.1.1.1.1.0.now f.1.1.1.1.0.now e.1.1.1.1.1.0.now f.1.1.1.1.1.0.now)
tick_settled κs a x e y f p q = let z = said p q in
    record {
      err = ap (λ (m : Tick.Ticked). m.err) z;
      result = ap (λ (m : Tick.Ticked). m.step.result) z;
      left = same_left a.0.now x.state y.state e.1.1.0.now f.1.1.0.now e.1.1.1.0.now f.1.1.1.0.now e.1.1.1.1.0.now f.1.1.1.1.0.now e.1.1.1.1.1.0.now f.1.1.1.1.1.0.now (ap (λ (m : Tick.Ticked). m.step.state) z);
    }

-- complete and fail: the result, and what is left; they are lent the security record and the subscriptions to read
pub record SameAnswer (config : List ℕ) (r r' : Answer) (k subs heads heads' room room' : List ℕ) : Type 0 where
  pub result : r.result ≡ r'.result
  pub left : SameLeft config r.state r'.state k k subs subs heads heads' room room'

same_answer : (config : List ℕ) (r r' : Answer) (k subs heads heads' room room' : List ℕ) → step_of config r k subs heads room ≡ step_of config r' k subs heads' room' → SameAnswer config r r' k subs heads heads' room room'
same_answer config r r' k subs heads heads' room room' z = record {
  result = ap (λ (m : Model.Step). m.result) z;
  left = same_left config r.state r'.state k k subs subs heads heads' room room' (ap (λ (m : Model.Step). m.state) z);
}

pub complete_settled : (κs : _) (a : _) → Settles (complete.Post κs a) (λ x e y f. SameAnswer a.0.now x y a.1.1.0.now a.1.1.1.0.now e.1.1.1.1.0.now f.1.1.1.1.0.now e.1.1.1.1.1.0.now f.1.1.1.1.1.0.now)
complete_settled κs a x e y f p q = same_answer a.0.now x y a.1.1.0.now a.1.1.1.0.now e.1.1.1.1.0.now f.1.1.1.1.0.now e.1.1.1.1.1.0.now f.1.1.1.1.1.0.now (said p q)

pub fail_settled : (κs : _) (a : _) → Settles (fail.Post κs a) (λ x e y f. SameAnswer a.0.now x y a.1.1.0.now a.1.1.1.0.now e.1.1.1.1.0.now f.1.1.1.1.0.now e.1.1.1.1.1.0.now f.1.1.1.1.1.0.now)
fail_settled κs a x e y f p q = same_answer a.0.now x y a.1.1.0.now a.1.1.1.0.now e.1.1.1.1.0.now f.1.1.1.1.0.now e.1.1.1.1.1.0.now f.1.1.1.1.1.0.now (said p q)
