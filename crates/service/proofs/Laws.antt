-- One law for each way out, and what a service's own proof cites.
use Prim.Native.Nat.{ℕ, ◌+◌, ◌≤◌, ◌<◌}
use mathlib.Core.Path.{◌≡◌, refl, ap, sym, ◌∙◌}
use mathlib.Core.Bool.{Bool, true, false, false≢true}
use mathlib.Core.List.{List, [], ◌++◌}
use native.Mathlib.Omega.{arith}
use lib.ListN.{length, length-append}
use lib.Dec.{eqb, leb}
use borrow.Author.Tests.{le-leb, lt-leb, leb-false, eq-eqb, ne_eqb}
use Rattle.model.specs.Tests.{pick}
use Rattle.model.specs.Numbers.{max_frame}
use Rattle.model.specs.Values as Values
use Rattle.model.specs.Queue as Queue
use Rattle.model.specs.Queue.{silent, positive, negative}
use Rattle.model.specs.Reply.{refusal}
use Rattle.model.specs.Service as Rules
use Rattle.model.specs.Service.{Seen, Served, says, acted, part}
use Rattle.model.specs.Service22.{Reading, going, ended, appended, read_reply}
use Rattle.queue.specs.View.{reply_of}
use Rattle.queue.specs.declared.reply.Reply.{Reply}
use Rattle.queue.specs.declared.reply.Reply.TheVariants.{Negative}
use Rattle.state.specs.View.{effect_of}
use Rattle.state.specs.declared.apply.Effect.{Effect}
use Rattle.service.specs.Fitted.{fitted_reply, fitted}
use Rattle.service.specs.Act.{act_of, Asked, Handed, outcome_of, acted_reply}
use Rattle.service.specs.Seen.{in_session, secured, subscribed, Replies, Speaks, Serves, says_of}
use Rattle.service.specs.declared.Act.{Act}
use Rattle.std.specs.Prelude.{Ok, Err}
use Rattle.service.specs.declared.Spoken.{Spoken}
use Rattle.service.proofs.Fitted.{exceeds}

-- a part of the frame
pub nothing : (start len : ℕ) → len ≡ 0 → record { start = 0; len = 0 } ≡ part start len
unfolding part
nothing start len e = rw (eq-eqb len 0 e)

pub something : (start len : ℕ) → (len ≡ 0 → ⊥) → record { start = start; len = len } ≡ part start len
unfolding part
something start len e = rw (ne_eqb len 0 e)

-- an outcome by its code
module _ (limit err : ℕ) (b : List ℕ) where
  abbrev given : Values.Given
  given = record { err = err; bytes = b }

  pub an_error : (err ≡ 0 → ⊥) → Values.outcome limit given ≡ outcome_of (Err err) b
  unfolding Values.outcome
  an_error e = rw (ne_eqb err 0 e)

  pub too_many : err ≡ 0 → limit < length b → Values.outcome limit given ≡ outcome_of (Err 0x22) b
  unfolding Values.outcome
  too_many e h = rw (eq-eqb err 0 e, lt-leb (length b) limit h)

  pub the_bytes : err ≡ 0 → length b ≤ limit → Values.outcome limit given ≡ outcome_of (Ok tt) b
  unfolding Values.outcome
  the_bytes e h = rw (eq-eqb err 0 e, le-leb (length b) limit h)

-- a reading is one or the other
inner : {a b : List ℕ} → going a ≡ going b → a ≡ b
inner e = cc

never : {r : Queue.Reply} {b : List ℕ} → ended r ≡ going b → ⊥
never e = let z : ◌≡◌ {A = ℕ} 0 1 = cc in omega arith

never' : {r : Queue.Reply} {b : List ℕ} → going b ≡ ended r → ⊥
never' e = let z : ◌≡◌ {A = ℕ} 0 1 = cc in omega arith

-- bytes appended to none, and to others
module _ (head tail : List ℕ) where
  began : (o : Reading) → o ≡ appended max_frame [] head → (b : Bool) → leb (0 + length head) max_frame ≡ b → o ≡ pick b (going head) (ended (negative 0x14))
  began o e true h = e ∙ rw h
  began o e false h = e ∙ rw h

  pub too_long : ended (negative 0x14) ≡ appended max_frame [] head → negative 0x14 ≡ fitted_reply max_frame (positive (head ++ tail))
  too_long e = go (leb (0 + length head) max_frame) refl
    where
      go : (b : Bool) → leb (0 + length head) max_frame ≡ b → negative 0x14 ≡ fitted_reply max_frame (positive (head ++ tail))
      go true h = absurd (never (began (ended (negative 0x14)) e true h))
      go false h = sym (exceeds max_frame (head ++ tail) (omega (arith, leb-false (0 + length head) max_frame h, length-append head tail)))

  pub held : (acc : List ℕ) → going acc ≡ appended max_frame [] head → acc ≡ head
  held acc e = go (leb (0 + length head) max_frame) refl
    where
      go : (b : Bool) → leb (0 + length head) max_frame ≡ b → acc ≡ head
      go true h = inner (began (going acc) e true h)
      go false h = absurd (never' (began (going acc) e false h))

  pub both_parts : (acc : List ℕ) → acc ≡ head → read_reply (appended max_frame acc tail) ≡ fitted_reply max_frame (positive (head ++ tail))
  both_parts acc e = rw (e, length-append head tail) (go (leb (length head + length tail) max_frame))
    where
      go : (b : Bool) → read_reply (pick b (going (head ++ tail)) (ended (negative 0x14))) ≡ pick b (positive (head ++ tail)) (negative 0x14)
      go true = refl
      go false = refl

-- what comes of an act
module _ (frames : ℕ) (room : List ℕ) (suppress : Bool) (p : List ℕ) where
  fitted-refusal : (code : ℕ) → fitted_reply max_frame (refusal code) ≡ refusal code
  unfolding refusal
  fitted-refusal code = go (eqb code 0x78)
    where
      go : (b : Bool) → fitted_reply max_frame (pick b Queue.pends (negative code)) ≡ pick b Queue.pends (negative code)
      go true = refl
      go false = refl

  pub acted-error : (code : ℕ) (r : Reply) → reply_of r frames room ≡ refusal code → Replies (acted_reply (Err code) suppress p) frames room r room
  acted-error code r e = record { reply = e ∙ sym (fitted-refusal code); unseen = λ heads. refl }

-- of an act whose bytes make a payload: all that a service shows of its own is how
pub acts : (v : Seen) (k : List ℕ → Queue.Reply) (o : Values.Outcome) (handed : Handed) (b : List ℕ) (suppress : Bool) (p : List ℕ) → o ≡ outcome_of handed b → k b ≡ pick suppress silent (positive p)
    → acted v k o ≡ says v (acted_reply handed suppress p)
unfolding acted
acts v k o (Ok done) b suppress p e h = rw e (ap (says v) h)
acts v k o (Err code) b suppress p e h = rw e

-- a service that may ask an act: refused before it, or answered by its outcome
module _ (f : Seen → Served) (later : Seen → Rules.Effect) (v : Seen) (frames : ℕ) (room : List ℕ) where
  pub speaks_refused : (code : ℕ) (none : Act) → Asked f later v (Err code) → act_of none ≡ Rules.no_act → Speaks f v frames room (record { reply = Negative code; act = none }) room
  speaks_refused code none a e = record { served = ap (fitted max_frame) a.asked ∙ ap (λ (x : Rules.Act). record { act = x; effect = says v (negative code) }) (sym e); unseen = λ heads. refl }

  pub speaks_acted : (act : Act) (should : Queue.Reply) (r : Reply) (room' : List ℕ) → Asked f later v (Ok act) → later v ≡ says v should → Replies should frames room r room'
      → Speaks f v frames room (record { reply = r; act = act }) room'
  speaks_acted act should r room' a e h = record {
    served =
        ap (fitted max_frame) (a.asked ∙ ap (λ (x : Rules.Effect). record { act = act_of act; effect = x }) e)
        ∙ ap (λ (x : Queue.Reply). record { act = act_of act; effect = says v x }) (sym h.reply);
    unseen = h.unseen;
  }

-- a service that asks none
module _ (f : Seen → Served) (v : Seen) (frames : ℕ) (room : List ℕ) where
  pub speaks : (none : Act) (should : Queue.Reply) (r : Reply) (room' : List ℕ) → act_of none ≡ Rules.no_act → f v ≡ Rules.answers (says v should) → Replies should frames room r room' → Speaks f v frames room (record { reply = r; act = none }) room'
  speaks none should r room' n e h = record {
    served = ap (fitted max_frame) e ∙ ap (λ (x : Queue.Reply). Rules.answers (says v x)) (sym h.reply) ∙ ap (λ (x : Rules.Act). record { act = x; effect = says v (reply_of r frames room') }) (sym n);
    unseen = h.unseen;
  }

-- a service that only speaks, as one with an effect that changes nothing
pub spoken : (f : Seen → Served) (v : Seen) (session level subscriptions frames : ℕ) (k subs room : List ℕ) (r : Spoken) (e : Effect) (room' : List ℕ) → e ≡ says_of session level subscriptions r.reply
    → Speaks f (in_session session level (secured k (subscribed subscriptions subs v))) frames room r room'
    → Serves f (in_session session level (secured k (subscribed subscriptions subs v))) k subs frames room (record { effect = e; act = r.act }) k subs room'
spoken f v session level subscriptions frames k subs room r e room' z h = record {
  served = h.served ∙ ap (λ (x : Effect). record { act = act_of r.act; effect = effect_of x v.now k subs frames room' }) (sym z);
  unseen = h.unseen;
  kept = λ w. absurd (false≢true (sym (ap (λ (x : Effect). x.waits) z) ∙ w));
}
