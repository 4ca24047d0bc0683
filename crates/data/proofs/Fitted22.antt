-- A reading never exceeds the limit: its reply is fitted already.
use Prim.Native.Nat.{ℕ, ◌+◌, ◌*◌, ◌%◌, ◌≤◌}
use mathlib.Core.Path.{◌≡◌, refl, ap, sym, ◌∙◌}
use mathlib.Core.Bool.{Bool, true, false, ◌&&◌}
use mathlib.Core.List.{List, [], ◌∷◌, ◌++◌}
use native.Mathlib.Omega.{arith}
use lib.ListN.{length, length-append}
use lib.Dec.{eqb, leb}
use borrow.Author.Tests.{leb-true}
use Rattle.model.specs.Tests.{pick}
use Rattle.model.specs.Config.{find_did, readable}
use Rattle.model.specs.Values.{Outcome, bytes, error, value}
use Rattle.model.specs.Queue.{Reply, negative, pends}
use Rattle.model.specs.Reply.{refusal}
use Rattle.model.specs.Service as Rules
use Rattle.model.specs.Service.{Seen, says, answers, refuses, no_act}
use Rattle.model.specs.Service22.{Reading, going, ended, onward, appended, value_appended, held_for, read_value, read_one, read_all, read_reply, service22}
use Rattle.queue.specs.View.{reply_of}
use Rattle.queue.specs.declared.reply.Reply as Program
use Rattle.service.specs.Fitted.{fitted_reply, fitted}
use Rattle.service.specs.Act.{act_of}
use Rattle.service.specs.Seen.{asking, Speaks}
use Rattle.service.specs.declared.Act.{Act}
use Rattle.service.proofs.Fitted.{fits}
use Rattle.data.specs.View22.{Answers22}

module _ (limit : ℕ) where
  abbrev Fits : Reading → Type 0
  Fits (going acc) = length acc ≤ limit
  Fits (ended r) = fitted_reply limit r ≡ r

  fits_pick : (b : Bool) (x y : Reading) → (b ≡ true → Fits x) → Fits y → Fits (pick b x y)
  fits_pick true x y p q = p refl
  fits_pick false x y p q = q

  fits_onward : (o : Reading) (k : List ℕ → Reading) → Fits o → ((acc : List ℕ) → length acc ≤ limit → Fits (k acc)) → Fits (onward o k)
  fits_onward (going acc) k p q = q acc p
  fits_onward (ended r) k p q = p

  fits_appended : (acc b : List ℕ) → Fits (appended limit acc b)
  fits_appended acc b = fits_pick (leb (length acc + length b) limit) (going (acc ++ b)) (ended (negative 0x14)) (λ e. omega (arith, leb-true (length acc + length b) limit e, length-append acc b)) refl

  fits_refusal : (code : ℕ) → fitted_reply limit (refusal code) ≡ refusal code
  unfolding refusal
  fits_refusal code = go (eqb code 0x78)
    where
      go : (b : Bool) → fitted_reply limit (pick b pends (negative code)) ≡ pick b pends (negative code)
      go true = refl
      go false = refl

  fits_value : (o : Outcome) (acc : List ℕ) → Fits (value_appended limit o acc)
  fits_value (bytes b) acc = fits_appended acc b
  fits_value (error code) acc = fits_refusal code

  fits_reply : (r : Reading) → Fits r → fitted_reply limit (read_reply r) ≡ read_reply r
  fits_reply (going acc) p = fits limit acc p
  fits_reply (ended r) p = p

module _ (v : Seen) where
  fits_one : (h l : ℕ) (acc : List ℕ) → Fits v.limit (read_one v h l acc)
  unfolding read_one read_value
  fits_one h l acc =
      fits_pick v.limit (readable v.session.session_type (find_did v.config (h * 256 + l))) _ _
      (λ e. fits_pick v.limit (held_for v.session.level (find_did v.config (h * 256 + l))) _ _
      (λ g. fits_onward v.limit (appended v.limit acc (h ∷ l ∷ [])) _ (fits_appended v.limit acc (h ∷ l ∷ [])) (λ more p. fits_value v.limit (value v.limit v.table (h * 256 + l)) more)) refl) refl

  fits_all : (ids acc : List ℕ) → length acc ≤ v.limit → Fits v.limit (read_all v ids acc)
  fits_all [] acc p = p
  fits_all (h ∷ []) acc p = p
  fits_all (h ∷ l ∷ rest) acc p = fits_onward v.limit (read_one v h l acc) (read_all v rest) (fits_one h l acc) (fits_all rest)

  -- as the service answers it
  pub fitted22 : fitted v.limit (service22 v) ≡ service22 v
  unfolding service22
  fitted22 = go (leb 2 (length v.payload) && eqb (length v.payload % 2) 0)
    where
      go : (b : Bool) → fitted v.limit (pick b (answers (says v (read_reply (read_all v v.payload [])))) (refuses v 0x13)) ≡ pick b (answers (says v (read_reply (read_all v v.payload [])))) (refuses v 0x13)
      go true = ap (λ (r : Reply). answers (says v r)) (fits_reply v.limit (read_all v v.payload []) (fits_all v.payload [] (omega arith)))
      go false = refl

-- a service that asks no act, and whose reply is the definition's
pub speaks22 : (payload : List ℕ) (v : Seen) (frames : ℕ) (room : List ℕ) (r : Program.Reply) (act : Act) (room' : List ℕ) → Answers22 (asking payload v) frames room r room' → act_of act ≡ no_act
    → Speaks service22 (asking payload v) frames room (record { reply = r; act = act }) room'
speaks22 payload v frames room r act room' q n = record {
  served = fitted22 (asking payload v) ∙ q.answer ∙ ap (λ (x : Rules.Act). record { act = x; effect = says (asking payload v) (reply_of r frames room') }) (sym n);
  unseen = q.unseen;
}
