-- One law for each way out.
use Prim.Native.Nat.{ℕ, ◌≤◌, ◌<◌}
use mathlib.Core.Path.{◌≡◌, refl, ap, ap₂, sym, ◌∙◌}
use mathlib.Core.Bool.{Bool, true, false, false≢true}
use mathlib.Core.List.{List, [], ◌∷◌}
use native.Mathlib.Omega.{arith}
use lib.ListN.{length}
use lib.Dec.{eqb}
use borrow.Author.Tests.{le-leb, lt-leb, lt-ltb, le-ltb, eqb-true, eqb-false}
use Rattle.std.specs.Prelude.{Option as Maybe, Some, None, is_some, Ok, Err}
use Rattle.model.specs.Tests.{pick}
use Rattle.model.specs.Numbers.{max_frame}
use Rattle.model.specs.Config.{SessionConfig, find_session}
use Rattle.model.specs.Frame.{suppressed, sub_function}
use Rattle.model.specs.State.{opened, cleared}
use Rattle.model.specs.Queue.{Reply, silent, positive}
use Rattle.model.specs.Service.{Act as Asked_act}
use Rattle.model.specs.Service.{Seen, no_act, Effect, Part, part, says, asks, answers, refuses}
use Rattle.model.specs.Service3E.{service3E}
use Rattle.model.specs.Service10.{timings, opens, session_control, service10}
use Rattle.model.specs.Service11.{reset, service11}
use Rattle.model.specs.Service28.{service28}
use Rattle.uds.specs.Table.{row_of}
use Rattle.queue.specs.declared.reply.Reply.{Reply as Made}
use Rattle.service.specs.declared.Act.{Act}
use Rattle.service.specs.Fitted.{fitted}
use Rattle.service.specs.Seen.{in_session, secured, subscribed, Replies, Serves}
use Rattle.service.specs.Act.{act_of, Handed, outcome_of, acted_reply}
use Rattle.management.specs.Later.{later11, later28}

module _ (v : Seen) where
  pub echoes3E : service3E v ≡ answers (says v (acted_reply (Ok tt) (suppressed v.payload) (sub_function v.payload ∷ [])))
  unfolding service3E
  echoes3E = refl

  -- a sub-function that is absent, or there
  module _ {empty : Bool} (e : empty ≡ eqb (length v.payload) 0) where
    absent : empty ≡ true → length v.payload < 1
    absent z = omega (arith, eqb-true (length v.payload) 0 (sym e ∙ z))

    there : empty ≡ false → 1 ≤ length v.payload
    there z = omega (arith, eqb-false (length v.payload) 0 (sym e ∙ z))

    pub short10 : empty ≡ true → service10 v ≡ refuses v 0x13
    unfolding service10
    short10 z = rw (lt-ltb (length v.payload) 1 (absent z))

    module _ (z : empty ≡ false) {x : ℕ} (s : x ≡ sub_function v.payload) (row : ℕ → SessionConfig) where
      known : (i : Maybe ℕ) → row_of row i ≡ find_session v.config x → service10 v ≡ session_control v x (row_of row i)
      unfolding service10
      known i f = rw (le-ltb (length v.payload) 1 (there z), f, s)

      pub unknown10 : (i : Maybe ℕ) → row_of row i ≡ find_session v.config x → is_some i ≡ false → service10 v ≡ refuses v 0x12
      unfolding session_control
      unknown10 None f n = known None f
      unknown10 (Some j) f n = absurd (false≢true (sym n))

      pub opens10 : (i : Maybe ℕ) → row_of row i ≡ find_session v.config x → is_some i ≡ true → service10 v ≡ answers (opens v x (pick (suppressed v.payload) silent (positive (timings x (row_of row i)))))
      unfolding session_control
      opens10 None f n = absurd (false≢true n)
      opens10 (Some j) f n = known (Some j) f

    pub short11 : empty ≡ true → service11 v ≡ refuses v 0x13
    unfolding service11
    short11 z = rw (lt-ltb (length v.payload) 1 (absent z))

    pub asks11 : empty ≡ false → {a : Part} → a ≡ part 1 1 → service11 v ≡ asks 0x11 (a ∷ []) (later11 v)
    unfolding service11
    asks11 z f = rw (le-ltb (length v.payload) 1 (there z), f)

  -- what comes of a reset, by its outcome
  pub fails11 : (o : Handed) (code : ℕ) (b : List ℕ) → o ≡ Err code → reset v (outcome_of o b) ≡ says v (acted_reply o (suppressed v.payload) (sub_function v.payload ∷ []))
  unfolding reset
  fails11 o code b e = rw e

  -- session 1, no level held, the seed cleared, once the reply is sent
  abbrev pub resets : Reply → Effect
  resets q = record { session = opened v.session 1; security = cleared v.security; periodic = v.periodic; reply = q; waits = true }

  pub resets11 : (o : Handed) (b : List ℕ) → o ≡ Ok tt → reset v (outcome_of o b) ≡ resets (acted_reply o (suppressed v.payload) (sub_function v.payload ∷ []))
  unfolding reset
  resets11 o b e = rw e

  pub short28 : length v.payload < 2 → service28 v ≡ refuses v 0x13
  unfolding service28
  short28 h = rw (lt-leb 2 (length v.payload) h)

  pub asks28 : 2 ≤ length v.payload → {a b : Part} → a ≡ part 1 1 → b ≡ part 2 1 → service28 v ≡ asks 0x28 (a ∷ b ∷ []) (later28 v)
  unfolding service28
  asks28 h e f = rw (le-leb 2 (length v.payload) h, e, f)

-- a session that is opened, of any words that are lent
pub serves10 : (v : Seen) (session level subscriptions frames : ℕ) (k subs room : List ℕ) {empty : Bool} → empty ≡ eqb (length v.payload) 0 → empty ≡ false → {x : ℕ} → x ≡ sub_function v.payload
    → (row : ℕ → SessionConfig) (i : Maybe ℕ) → row_of row i ≡ find_session v.config x → is_some i ≡ true → {r : Made} {room' : List ℕ} → Replies (pick (suppressed v.payload) silent (positive (timings x (row_of row i)))) frames room r room' → {act : Act} → act_of act ≡ no_act
    → Serves service10 (in_session session level (secured k (subscribed subscriptions subs v))) k subs frames room (record { effect = record { reply = r; session = x; level = 0; subscriptions = subscriptions; clears_seed = true; waits = false }; act = act }) k subs room'
serves10 v session level subscriptions frames k subs room e z {x} s row i f n {r} {room'} h {act} a =
    let u = in_session session level (secured k (subscribed subscriptions subs v)) in
    record {
      served = ap (fitted max_frame) (opens10 u e z s row i f n) ∙ ap₂ (λ (b : Asked_act) (q : Reply). record { act = b; effect = opens u x q }) (sym a) (sym h.reply);
      unseen = h.unseen;
      kept = λ w. absurd (false≢true w);
    }
