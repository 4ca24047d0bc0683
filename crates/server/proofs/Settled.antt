-- Nothing else meets the promises: of two answers that meet one, what the theorem names is the same. `Post` is the promise itself, as its function
-- has it; `e` and `f` are what the one and the other leave of what was lent.
use Prim.Native.Nat.{ℕ}
use mathlib.Core.Path.{◌≡◌, ap}
use mathlib.Core.List.{List}
use Rattle.model.specs.State as Model
use Rattle.model.specs.Drain as Drain
use Rattle.model.specs.Question as Question
use Rattle.model.specs.Request as Request
use Rattle.model.specs.Tick as Tick
use Rattle.uds.proofs.Promise.{Settles}
use Rattle.uds.proofs.Settled.{said}
use Rattle.state.proofs.Settled.{SameState, state}
use Rattle.service.specs.Act.{act_of}
use Rattle.service.specs.declared.Act.{Act}
use Rattle.calls.proofs.Settled.{SameAsked}
use Rattle.server.specs.View.{server_of}
use Rattle.server.specs.declared.fresh.Server.{Server}
use Rattle.server.proofs.fresh.Server.complete.Reads as complete
use Rattle.server.proofs.fresh.Server.drain.Reads as drain
use Rattle.server.proofs.fresh.Server.fail.Reads as fail
use Rattle.server.proofs.fresh.Server.fresh.Reads as fresh
use Rattle.server.proofs.fresh.Server.question.Reads as question
use Rattle.server.proofs.fresh.Server.request.Reads as request
use Rattle.server.proofs.fresh.Server.tick.Reads as tick

-- of a server that holds its arrays its state, and what is seen of all else
pub record SameServer (v v' : Server) : Type 0 where
  pub state : SameState v.state v'.state
  pub seen : server_of v ≡ server_of v'

server : (v v' : Server) → server_of v ≡ server_of v' → SameServer v v'
server v v' z = record {
  state = state v.state v'.state v.config v'.config v.security v'.security v.subscriptions v'.subscriptions v.heads v'.heads v.room v'.room z;
  seen = z;
}

-- fresh, complete, fail: the result and the server
pub record SameStep (n n' : ℕ) (v v' : Server) : Type 0 where
  pub result : n ≡ n'
  pub server : SameServer v v'

step : (n n' : ℕ) (v v' : Server) → Model.step n (server_of v) ≡ Model.step n' (server_of v') → SameStep n n' v v'
step n n' v v' z = record { result = ap (λ (m : Model.Step). m.result) z; server = server v v' (ap (λ (m : Model.Step). m.state) z) }

pub fresh_settled : (κs : _) (a : _) → Settles (fresh.Post κs a) (λ x e y f. SameStep x.result y.result x.server y.server)
fresh_settled κs a x e y f p q = step x.result y.result x.server y.server (said p q)

pub complete_settled : (κs : _) (a : _) → Settles (complete.Post κs a) (λ x e y f. SameStep x.result y.result x.server y.server)
complete_settled κs a x e y f p q = step x.result y.result x.server y.server (said p q)

pub fail_settled : (κs : _) (a : _) → Settles (fail.Post κs a) (λ x e y f. SameStep x.result y.result x.server y.server)
fail_settled κs a x e y f p q = step x.result y.result x.server y.server (said p q)

-- a request: the act too
pub record SameRequest (a a' : Act) (n n' : ℕ) (v v' : Server) : Type 0 where
  pub act : act_of a ≡ act_of a'
  pub step : SameStep n n' v v'

pub request_settled : (κs : _) (a : _) → Settles (request.Post κs a) (λ x e y f. SameRequest x.act y.act x.result y.result x.server y.server)
request_settled κs a x e y f p q = let z = said p q in
    record { act = ap (λ (m : Request.Answer). m.act) z; step = step x.result y.result x.server y.server (ap (λ (m : Request.Answer). m.step) z) }

-- a question: the act and the result
pub question_settled : (κs : _) (a : _) → Settles (question.Post κs a) (λ x e y f. SameAsked x y)
question_settled κs a x e y f p q = let z = said p q in
    record { act = ap (λ (m : Question.Asked). m.act) z; result = ap (λ (m : Question.Asked). m.result) z }

-- a tick: the error byte too
pub record SameTick (e e' n n' : ℕ) (v v' : Server) : Type 0 where
  pub err : e ≡ e'
  pub step : SameStep n n' v v'

pub tick_settled : (κs : _) (a : _) → Settles (tick.Post κs a) (λ x e y f. SameTick x.err y.err x.result y.result x.server y.server)
tick_settled κs a x e y f p q = let z = said p q in
    record { err = ap (λ (m : Tick.Ticked). m.err) z; step = step x.result y.result x.server y.server (ap (λ (m : Tick.Ticked). m.step) z) }

-- a drain: how many frames were written, and every byte of the buffer
pub record SameDrain (n n' : ℕ) (v v' : Server) (k k' : ℕ) (buffer buffer' : List ℕ) : Type 0 where
  pub step : SameStep n n' v v'
  pub frames : k ≡ k'
  pub bytes : buffer ≡ buffer'

pub drain_settled : (κs : _) (a : _) → Settles (drain.Post κs a) (λ x e y f. SameDrain x.result y.result x.server y.server x.frames y.frames e.1.0.now f.1.0.now)
drain_settled κs a x e y f p q = let z = said p q in
    record {
      step = step x.result y.result x.server y.server (ap (λ (m : Drain.Drained). m.step) z);
      frames = ap (λ (m : Drain.Drained). m.count) z;
      bytes = ap (λ (m : Drain.Drained). m.buffer) z;
    }
