-- Nothing else meets the contracts: of two answers that meet one, each with what it leaves in the words, all that is seen of the words is the
-- same, and every byte of the seed's place with it. Open are only the words of rows that no count reaches.
use Prim.Native.Nat.{ℕ}
use mathlib.Core.Path.{◌≡◌, refl, ap, sym, ◌∙◌}
use mathlib.Core.Bool.{Bool, true, false, false≢true}
use mathlib.Core.List.{List}
use mathlib.Core.Option.{Option, some, none, none-ne-some, some-ne-none}
use lib.ListN.{length, get_or}
use Rattle.model.specs.Tests.{pick}
use Rattle.model.specs.State.{Security}
use Rattle.uds.proofs.Promise.{Settles, Answer}
use Rattle.uds.proofs.Settled.{said}
use Rattle.uds.proofs.Tab.{tab-length}
use Rattle.security.specs.View.{seed_at, failed_at, lock_at, security_of, Enters, ClearsIf}
use Rattle.security.proofs.SecurityState.new.Reads as new
use Rattle.security.proofs.is_locked.Reads as is-locked
use Rattle.security.proofs.failed_count.Reads as failed-count
use Rattle.security.proofs.increment.Reads as increment
use Rattle.security.proofs.lock.Reads as lock
use Rattle.security.proofs.reset.Reads as reset
use Rattle.security.proofs.awaits.Reads as awaits
use Rattle.security.proofs.clear.Reads as clear
use Rattle.security.proofs.settle.Reads as settle
use Rattle.security.proofs.seed.Reads as seed
use Rattle.security.proofs.is_valid.Reads as is-valid

-- the record that is seen, and so how much there is of each thing
pub record SameSeen (a a' : List ℕ) : Type 0 where
  pub seen : security_of a ≡ security_of a'
  pub seed-length : get_or a 0 0 ≡ get_or a' 0 0
  pub seed-level : get_or a 1 0 ≡ get_or a' 1 0
  pub failed : get_or a 2 0 ≡ get_or a' 2 0
  pub locks : get_or a 3 0 ≡ get_or a' 3 0

same_seen : (a a' : List ℕ) → security_of a ≡ security_of a' → SameSeen a a'
same_seen a a' z = record {
  seen = z;
  seed-length = sym (tab-length (seed_at a) 0 (get_or a 0 0)) ∙ ap (λ (k : Security). length k.seed) z ∙ tab-length (seed_at a') 0 (get_or a' 0 0);
  seed-level = ap (λ (k : Security). k.seed_level) z;
  failed = sym (tab-length (failed_at a) 0 (get_or a 2 0)) ∙ ap (λ (k : Security). length k.failed) z ∙ tab-length (failed_at a') 0 (get_or a' 2 0);
  locks = sym (tab-length (lock_at a) 0 (get_or a 3 0)) ∙ ap (λ (k : Security). length k.locks) z ∙ tab-length (lock_at a') 0 (get_or a' 3 0);
}

-- and the bytes of the seed's place, also those past its length
pub record SameWords (a a' : List ℕ) : Type 0 where
  pub seen : SameSeen a a'
  pub bytes : (i : ℕ) → seed_at a i ≡ seed_at a' i

same-words : {a a' : List ℕ} {k : Security} {s : ℕ → ℕ} → security_of a ≡ k → ((i : ℕ) → seed_at a i ≡ s i) → security_of a' ≡ k → ((i : ℕ) → seed_at a' i ≡ s i) → SameWords a a'
same-words {a} {a'} p b q d = record { seen = same_seen a a' (said p q); bytes = λ i. said (b i) (d i) }

-- whether there was room, and the words in either case: where there was none, all of them
pub record SameEntered (r r' : Bool) (a a' : List ℕ) : Type 0 where
  pub room : r ≡ r'
  pub words : SameWords a a'
  pub full : r ≡ false → a ≡ a'

same-entered : {b : List ℕ} {o : Option Security} (r r' : Bool) (a a' : List ℕ) → Enters b o r a → Enters b o r' a' → SameEntered r r' a a'
same-entered r r' a a' p q = go r r' refl refl (said p.answer q.answer)
  where
    or_else : Security → Option Security → Security
    or_else d (some x) = x
    or_else d none = d

    bytes : (i : ℕ) → seed_at a i ≡ seed_at a' i
    bytes i = said (p.seed i) (q.seed i)

    go : (x y : Bool) → r ≡ x → r' ≡ y → pick x (some (security_of a)) none ≡ pick y (some (security_of a')) none → SameEntered r r' a a'
    go true true e f z = record { room = said e f; words = record { seen = same_seen a a' (ap (or_else (security_of a)) z); bytes = bytes }; full = λ w. absurd (false≢true (sym w ∙ e)) }
    go true false e f z = absurd (some-ne-none (security_of a) z)
    go false true e f z = absurd (none-ne-some (security_of a') z)
    go false false e f z = record { room = said e f; words = record { seen = same_seen a a' (ap security_of (said (p.full e) (q.full f))); bytes = bytes }; full = λ w. said (p.full e) (q.full f) }

-- cleared or not, and where it is not, every word
pub record SameSettled (clears : Bool) (a a' : List ℕ) : Type 0 where
  pub words : SameWords a a'
  pub kept : clears ≡ false → a ≡ a'

same_settled : {b : List ℕ} (clears : Bool) (a a' : List ℕ) → ClearsIf b clears a → ClearsIf b clears a' → SameSettled clears a a'
same_settled true a a' p q = record { words = same-words p.state (p.overwritten refl) q.state (q.overwritten refl); kept = λ z. absurd (false≢true (sym z)) }
same_settled false a a' p q = let z : a ≡ a' = said (p.kept refl) (q.kept refl) in record { words = record { seen = same_seen a a' (ap security_of z); bytes = λ i. ap (λ (w : List ℕ). seed_at w i) z }; kept = λ w. z }

pub new_settled : (κs : _) (a : _) → Settles (new.Post κs a) (λ x e y f. SameSeen x.words y.words)
new_settled κs a x e y f p q = same_seen x.words y.words (said p q)

pub is_locked_settled : (κs : _) (a : _) → Settles (is-locked.Post κs a) Answer
is_locked_settled κs a x e y f p q = said p q

pub failed_count_settled : (κs : _) (a : _) → Settles (failed-count.Post κs a) Answer
failed_count_settled κs a x e y f p q = said p q

pub increment_settled : (κs : _) (a : _) → Settles (increment.Post κs a) (λ x e y f. SameEntered x y e.0.now f.0.now)
increment_settled κs a x e y f p q = same-entered x y e.0.now f.0.now p q

pub lock_settled : (κs : _) (a : _) → Settles (lock.Post κs a) (λ x e y f. SameEntered x y e.0.now f.0.now)
lock_settled κs a x e y f p q = same-entered x y e.0.now f.0.now p q

pub reset_settled : (κs : _) (a : _) → Settles (reset.Post κs a) (λ x e y f. SameWords e.0.now f.0.now)
reset_settled κs a x e y f p q = same-words p.state p.seed q.state q.seed

pub awaits_settled : (κs : _) (a : _) → Settles (awaits.Post κs a) Answer
awaits_settled κs a x e y f p q = said p q

pub clear_settled : (κs : _) (a : _) → Settles (clear.Post κs a) (λ x e y f. SameWords e.0.now f.0.now)
clear_settled κs a x e y f p q = same-words p.state p.overwritten q.state q.overwritten

pub settle_settled : (κs : _) (a : _) → Settles (settle.Post κs a) (λ x e y f. SameSettled a.1.0 e.0.now f.0.now)
settle_settled κs a x e y f p q = same_settled a.1.0 e.0.now f.0.now p q

pub seed_settled : (κs : _) (a : _) → Settles (seed.Post κs a) (λ x e y f. SameWords e.0.now f.0.now)
seed_settled κs a x e y f p q = same-words p.state p.overwritten q.state q.overwritten

pub is_valid_settled : (κs : _) (a : _) → Settles (is-valid.Post κs a) Answer
is_valid_settled κs a x e y f p q = said p q
