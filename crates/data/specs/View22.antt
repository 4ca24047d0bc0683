-- What a reading in the making means, and of which requests the promises speak.
use Rattle.std.specs.Prelude.{ℕ, ◌≡◌, List, Result, Ok, Err}
use Rattle.model.specs.Reply.{refusal}
use Rattle.model.specs.Service.{Seen, says, answers}
use Rattle.model.specs.Service22 as Rules
use Rattle.queue.specs.View.{Unseen, draft_of, reply_of}
use Rattle.queue.specs.declared.reply.Reply.{Reply}
use Rattle.service.specs.Seen.{asking, configured, in_session, valued}

-- how many bytes the reply has so far, or the code that ends it
abbrev pub Reading : Type 0
Reading = Result ℕ ℕ

abbrev pub reading_of : Reading → ℕ → List ℕ → Rules.Reading
reading_of (Ok len) count room = Rules.going (draft_of count len room)
reading_of (Err code) count room = Rules.ended (refusal code)

-- a reading goes on as it should, and nothing shows it yet
pub record Reads (count : ℕ) (should : Rules.Reading) (before : List ℕ) (r : Reading) (after : List ℕ) : Type 0 where
  pub reading : reading_of r count after ≡ should
  pub unseen : Unseen count before after

-- of every request that is seen so, whatever else there is of it
abbrev pub Every : List ℕ → ℕ → ℕ → List ℕ → List ℕ → (Seen → Type 0) → Type 0
Every config session level values pool P = (v : Seen) (payload : List ℕ) → P (asking payload (configured config (in_session session level (valued values pool v))))

-- the reply is the definition's, byte for byte
pub record Answers22 (v : Seen) (frames : ℕ) (room : List ℕ) (r : Reply) (room' : List ℕ) : Type 0 where
  pub answer : Rules.service22 v ≡ answers (says v (reply_of r frames room'))
  pub unseen : Unseen frames room room'
