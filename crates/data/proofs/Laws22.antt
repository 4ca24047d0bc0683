-- One law for each way out of a reading.
use Prim.Native.Nat.{ℕ, ◌+◌, ◌*◌, ◌%◌, ◌≤◌, ◌<◌}
use mathlib.Core.Path.{◌≡◌, refl, sym, ◌∙◌}
use mathlib.Core.Bool.{true, false}
use mathlib.Core.List.{List, [], ◌∷◌, ◌++◌}
use native.Mathlib.Omega.{arith}
use lib.ListN.{length, get_or}
use borrow.Author.Tests.{le-leb, lt-leb, eq-eqb, ne_eqb}
use Rattle.model.specs.Config.{find_did, readable, level_of}
use Rattle.model.specs.Values as Model
use Rattle.model.specs.Queue.{Reply}
use Rattle.model.specs.Reply.{refusal}
use Rattle.model.specs.Service.{Seen, says, answers, refuses}
use Rattle.model.specs.Service22.{Reading, going, ended, onward, appended, value_appended, read_value, read_one, read_all, read_reply, service22}

module _ (v : Seen) (h l : ℕ) (acc : List ℕ) where
  pub unreadable : readable v.session.session_type (find_did v.config (h * 256 + l)) ≡ false → ended (refusal 0x31) ≡ read_one v h l acc
  unfolding read_one refusal
  unreadable e = rw e

  module _ (e : readable v.session.session_type (find_did v.config (h * 256 + l)) ≡ true) where
    pub unheld : v.session.level < level_of (find_did v.config (h * 256 + l)) → ended (refusal 0x33) ≡ read_one v h l acc
    unfolding read_one refusal
    unheld p = rw (e, lt-leb (level_of (find_did v.config (h * 256 + l))) v.session.level p)

    pub served : level_of (find_did v.config (h * 256 + l)) ≤ v.session.level → read_one v h l acc ≡ onward (appended v.limit acc (h ∷ l ∷ [])) (value_appended v.limit (Model.value v.limit v.table (h * 256 + l)))
    unfolding read_one read_value
    served p = rw (e, le-leb (level_of (find_did v.config (h * 256 + l))) v.session.level p)

-- the ways out of `read_one`
pub ruleset reads_one = (unreadable, unheld, served)

-- a rest of fewer than two bytes
pub no_more : (v : Seen) (rest acc : List ℕ) → length rest < 2 → read_all v rest acc ≡ going acc
no_more v [] acc h = refl
no_more v (x ∷ []) acc h = refl
no_more v (x ∷ y ∷ rest) acc h = absurd (omega arith)

-- the next identifier of what is left
module _ (v : Seen) (whole : Reading) (rest acc : List ℕ) (inv : whole ≡ read_all v rest acc) (id more : List ℕ) (cut : rest ≡ id ++ more) (two : length id ≡ 2) where
  next_id : whole ≡ onward (read_one v (get_or id 0 0) (get_or id 1 0) acc) (read_all v more)
  next_id = inv ∙ rw cut (go id two)
    where
      go : (q : List ℕ) → length q ≡ 2 → read_all v (q ++ more) acc ≡ onward (read_one v (get_or q 0 0) (get_or q 1 0) acc) (read_all v more)
      go [] h = absurd (omega arith)
      go (x ∷ []) h = absurd (omega arith)
      go (x ∷ y ∷ []) h = refl
      go (x ∷ y ∷ z ∷ q) h = absurd (omega arith)

  -- it goes on
  pub onwards : (next : List ℕ) → going next ≡ read_one v (get_or id 0 0) (get_or id 1 0) acc → whole ≡ read_all v more next
  onwards next e = next_id ∙ rw (sym e)

  -- it ends there
  pub ends : (r : Reply) → ended r ≡ read_one v (get_or id 0 0) (get_or id 1 0) acc → ended r ≡ whole
  ends r e = sym (next_id ∙ rw (sym e))

-- the length of a payload
module _ (v : Seen) where
  pub too_short : length v.payload < 2 → service22 v ≡ refuses v 0x13
  unfolding service22
  too_short h = rw (lt-leb 2 (length v.payload) h)

  pub odd : 2 ≤ length v.payload → (length v.payload % 2 ≡ 0 → ⊥) → service22 v ≡ refuses v 0x13
  unfolding service22
  odd h e = rw (le-leb 2 (length v.payload) h, ne_eqb (length v.payload % 2) 0 e)

  pub even : 2 ≤ length v.payload → length v.payload % 2 ≡ 0 → service22 v ≡ answers (says v (read_reply (read_all v v.payload [])))
  unfolding service22
  even h e = rw (le-leb 2 (length v.payload) h, eq-eqb (length v.payload % 2) 0 e)

-- what is no payload of identifiers
pub ruleset reads = (too_short, odd)
