-- Nothing else meets the contracts: of two answers that meet one, each with what it leaves in the words, all that it speaks of is the same.
use Prim.Native.Nat.{ℕ, ◌<◌}
use mathlib.Core.Path.{◌≡◌, refl, ap, ap₂, sym, ◌∙◌}
use mathlib.Core.Bool.{Bool, true, false}
use mathlib.Core.List.{List, []}
use mathlib.Core.Option.{none-ne-some, some-ne-none}
use native.Mathlib.Decide.{dec_le}
use native.Mathlib.Omega.{arith}
use lib.ListN.{length}
use lib.Dec.{eqb}
use borrow.Author.Tests.{eqb-true, eqb-false}
use Rattle.std.specs.Prelude.{Option as Maybe, Some, None}
use Rattle.model.specs.Numbers.{Moment, Span, max_periodic}
use Rattle.model.specs.State.{Subscription, fresh_periodic}
use Rattle.uds.proofs.Promise.{Settles, Answer}
use Rattle.uds.proofs.Settled as uds
use Rattle.uds.proofs.Settled.{said}
use Rattle.uds.proofs.Tab.{tab-same, tab-length}
use Rattle.periodic.specs.declared.PeriodicEntry.{PeriodicEntry}
use Rattle.periodic.specs.declared.PeriodicState.{PeriodicState}
use Rattle.periodic.specs.View.{entry_at, entry_of, table_of, left_by, Registers, Cancels, Advances}
use Rattle.periodic.proofs.PeriodicState.new.Reads as new
use Rattle.periodic.proofs.entry_at.Reads as entry_at
use Rattle.periodic.proofs.find.Reads as find
use Rattle.periodic.proofs.register.Reads as register
use Rattle.periodic.proofs.cancel.Reads as cancel
use Rattle.periodic.proofs.due.Reads as due
use Rattle.periodic.proofs.advance.Reads as advance
use Rattle.periodic.proofs.subscriptions_valid.Reads as subscriptions-valid

-- tables that are equal have as many entries
as_many : (m n : ℕ) (w w' : List ℕ) → table_of m w ≡ table_of n w' → m ≡ n
as_many m n w w' e = sym (tab-length (entry_at w) 0 m) ∙ ap length e ∙ tab-length (entry_at w') 0 n

-- entry_at: all four numbers
entry : (r r' : PeriodicEntry) (e : Subscription) → entry_of r ≡ e → entry_of r' ≡ e → r ≡ r'
entry r r' e p q = ap made (p ∙ sym q)
  where
    made : Subscription → PeriodicEntry
    made e = record { identifier = e.identifier; client = e.client; interval = record { 0 = e.interval }; next = record { 0 = e.next } }

-- PeriodicState::new: the count
fresh : (r : PeriodicState) → ((w : List ℕ) → table_of r.count w ≡ fresh_periodic) → r.count ≡ 0
fresh r h = as_many r.count 0 [] [] (h [])

-- register: the answer, and the table that it leaves; where it is full, every word
pub record SameRegistered (r r' : Maybe ℕ) (after after' : List ℕ) : Type 0 where
  pub answer : r ≡ r'
  pub table : left_by r after ≡ left_by r' after'
  pub words : r ≡ None → after ≡ after'

registered : {before after after' : List ℕ} {count x client : ℕ} {interval : Span} {t : Moment} {r r' : Maybe ℕ} → Registers before count x client interval t r after → Registers before count x client interval t r' after' → SameRegistered r r' after after'
registered {after = after} {after'} {count} {r = r} {r'} p q = elim (dec_le count max_periodic) [ yes l ↦ within (p.table l ∙ sym (q.table l)) | no l ↦ beyond (omega arith) ]
  where
    same : (r r' : Maybe ℕ) → left_by r after ≡ left_by r' after' → r ≡ r'
    same (Some m) (Some n) e = let z : table_of m after ≡ table_of n after' = cc in ap Some (as_many m n after after' z)
    same (Some m) None e = absurd (some-ne-none (table_of m after) e)
    same None (Some n) e = absurd (none-ne-some (table_of n after') e)
    same None None e = refl

    settled : left_by r after ≡ left_by r' after' → r ≡ r' → SameRegistered r r' after after'
    settled t e = record { answer = e; table = t; words = λ z. p.full z ∙ sym (q.full (sym e ∙ z)) }

    within : left_by r after ≡ left_by r' after' → SameRegistered r r' after after'
    within t = settled t (same r r' t)

    beyond : max_periodic < count → SameRegistered r r' after after'
    beyond l = settled (ap (λ (r : Maybe ℕ). left_by r after) (p.beyond l) ∙ sym (ap (λ (r : Maybe ℕ). left_by r after') (q.beyond l))) (p.beyond l ∙ sym (q.beyond l))

-- cancel: how many stand, and the table; beyond sixteen, every word
pub record SameCancelled (count r r' : ℕ) (after after' : List ℕ) : Type 0 where
  pub answer : r ≡ r'
  pub table : table_of r after ≡ table_of r' after'
  pub words : max_periodic < count → after ≡ after'

cancelled : {before after after' : List ℕ} {count x client r r' : ℕ} → Cancels before count x client r after → Cancels before count x client r' after' → SameCancelled count r r' after after'
cancelled {after = after} {after'} {count} {r = r} {r'} p q = elim (dec_le count max_periodic) [ yes l ↦ settled (p.table l ∙ sym (q.table l)) | no l ↦ settled (beyond (omega arith)) ]
  where
    settled : table_of r after ≡ table_of r' after' → SameCancelled count r r' after after'
    settled t = record { answer = as_many r r' after after' t; table = t; words = λ l. p.beyond l ∙ sym (q.beyond l) }

    beyond : max_periodic < count → table_of r after ≡ table_of r' after'
    beyond l = ap₂ table_of (p.as_many l ∙ sym (q.as_many l)) (p.beyond l ∙ sym (q.beyond l))

-- advance: every entry, and so the table
pub record SameAdvanced (count : ℕ) (after after' : List ℕ) : Type 0 where
  pub entries : (j : ℕ) → entry_at after j ≡ entry_at after' j
  pub table : table_of count after ≡ table_of count after'

advanced : {before after after' : List ℕ} {count i : ℕ} {t : Moment} → Advances before count i t after → Advances before count i t after' → SameAdvanced count after after'
advanced {after = after} {after'} {count} {i} p q = record { entries = λ j. at j (eqb j i) refl; table = tab-same (entry_at after) (entry_at after') 0 count (λ j a b. at j (eqb j i) refl) }
  where
    here : entry_at after i ≡ entry_at after' i
    here =
        elim (dec_le count i) [
          | yes l ↦ ap (λ (w : List ℕ). entry_at w i) (p.past l ∙ sym (q.past l))
          | no l ↦ elim (dec_le count max_periodic) [ yes k ↦ p.here k (omega arith) ∙ sym (q.here k (omega arith)) | no k ↦ ap (λ (w : List ℕ). entry_at w i) (p.beyond (omega arith) ∙ sym (q.beyond (omega arith))) ]
        ]

    at : (j : ℕ) (b : Bool) → eqb j i ≡ b → entry_at after j ≡ entry_at after' j
    at j true e = rw (eqb-true j i e) here
    at j false e = p.others j (eqb-false j i e) ∙ sym (q.others j (eqb-false j i e))

pub new_settled : (κs : _) (a : _) → Settles (new.Post κs a) (λ x e y f. x.count ≡ y.count)
new_settled κs a x e y f p q = said (fresh x p) (fresh y q)

pub entry_at_settled : (κs : _) (a : _) → Settles (entry_at.Post κs a) Answer
entry_at_settled κs a x e y f p q = entry x y _ p q

pub find_settled : (κs : _) (a : _) → Settles (find.Post κs a) Answer
find_settled κs a x e y f p q = uds.found p q

pub register_settled : (κs : _) (a : _) → Settles (register.Post κs a) (λ x e y f. SameRegistered x y e.0.now f.0.now)
register_settled κs a x e y f p q = registered p q

pub cancel_settled : (κs : _) (a : _) → Settles (cancel.Post κs a) (λ x e y f. SameCancelled a.1.0 x y e.0.now f.0.now)
cancel_settled κs a x e y f p q = cancelled p q

pub due_settled : (κs : _) (a : _) → Settles (due.Post κs a) Answer
due_settled κs a x e y f p q = said p q

pub advance_settled : (κs : _) (a : _) → Settles (advance.Post κs a) (λ x e y f. SameAdvanced a.1.0 e.0.now f.0.now)
advance_settled κs a x e y f p q = advanced p q

pub subscriptions_valid_settled : (κs : _) (a : _) → Settles (subscriptions-valid.Post κs a) Answer
subscriptions_valid_settled κs a x e y f p q = said p q
