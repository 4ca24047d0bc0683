-- Nothing else meets the promises: two answers that meet one are the same answer. First the laws, which the crates above use too; then
-- each public function, by its contract.
use Prim.Native.Nat.{ℕ}
use mathlib.Core.Path.{◌≡◌, refl, ap, sym, ◌∙◌}
use mathlib.Core.Bool.{Bool}
use mathlib.Core.List.{List}
use mathlib.Core.Option.{Option, some, none, none-ne-some, some-ne-none}
use native.Mathlib.Omega.{arith}
use lib.ListN.{take, drop}
use Rattle.model.specs.Config as Model
use Rattle.model.specs.Values as Values
use Rattle.uds.specs.Table.{place_of, Finds}
use Rattle.uds.specs.Rows.{session_of}
use Rattle.uds.specs.Values.{Says, Reading}
use Rattle.uds.specs.declared.clock.Instant.{Instant}
use Rattle.uds.specs.declared.clock.Duration.{Duration}
use Rattle.uds.specs.declared.rows.SessionConfig.{SessionConfig}
use Rattle.std.specs.Prelude.{Option as Maybe, Some, None, Ok, Err}
use Rattle.uds.proofs.Promise.{Settles, Answer}
use Rattle.uds.proofs.clock.Instant.plus.Reads as plus
use Rattle.uds.proofs.clock.Instant.since.Reads as since
use Rattle.uds.proofs.clock.Instant.is_before.Reads as is-before
use Rattle.uds.proofs.clock.Instant.is_valid.Reads as is-valid
use Rattle.uds.proofs.clock.Duration.exceeds.Reads as exceeds
use Rattle.uds.proofs.clock.Duration.larger.Reads as larger
use Rattle.uds.proofs.clock.Duration.within.Reads as span-within
use Rattle.uds.proofs.frame.sid.Reads as sid
use Rattle.uds.proofs.frame.payload.Reads as payload
use Rattle.uds.proofs.frame.sub_function.Reads as sub-function
use Rattle.uds.proofs.frame.suppressed.Reads as suppressed
use Rattle.uds.proofs.frame.high_nibble.Reads as high-nibble
use Rattle.uds.proofs.frame.low_nibble.Reads as low-nibble
use Rattle.uds.proofs.frame.periodic_did.Reads as periodic-did
use Rattle.uds.proofs.frame.response.Reads as response
use Rattle.uds.proofs.frame.identifier.Reads as identifier
use Rattle.uds.proofs.frame.word.Reads as frame-word
use Rattle.uds.proofs.frame.two_bytes.Reads as two_bytes
use Rattle.uds.proofs.frame.byte.Reads as byte
use Rattle.uds.proofs.nrc.Nrc.withheld.Reads as withheld
use Rattle.uds.proofs.result.number.Reads as number
use Rattle.uds.proofs.nrc.Rate.interval.Reads as interval
use Rattle.uds.proofs.rows.SessionList.of.Reads as of
use Rattle.uds.proofs.rows.SessionList.within.Reads as list-within
use Rattle.uds.proofs.rows.SessionConfig.default_session.Reads as default_session_lem
use Rattle.uds.proofs.rows.SessionConfig.programming_session.Reads as programming-session
use Rattle.uds.proofs.rows.SessionConfig.extended_session.Reads as extended-session
use Rattle.uds.proofs.rows.SessionConfig.within.Reads as session-within
use Rattle.uds.proofs.rows.ServiceConfig.new.Reads as service-new
use Rattle.uds.proofs.rows.ServiceConfig.secured.Reads as service-secured
use Rattle.uds.proofs.rows.ServiceConfig.within.Reads as service-within
use Rattle.uds.proofs.rows.DidConfig.read_only.Reads as read_only_lem
use Rattle.uds.proofs.rows.DidConfig.read_write.Reads as read-write
use Rattle.uds.proofs.rows.DidConfig.periodic.Reads as periodic
use Rattle.uds.proofs.rows.DidConfig.secured.Reads as did-secured
use Rattle.uds.proofs.rows.DidConfig.within.Reads as did-within
use Rattle.uds.proofs.rows.SecurityLevelConfig.within.Reads as level-within
use Rattle.uds.proofs.table.examined.Reads as examined
use Rattle.uds.proofs.table.word.Reads as word
use Rattle.uds.proofs.table.Column.cell.Reads as cell
use Rattle.uds.proofs.table.Column.find.Reads as find
use Rattle.uds.proofs.values.find_value.Reads as find-value
use Rattle.uds.proofs.values.row_value.Reads as row-value
use Rattle.uds.proofs.values.value.Reads as value

-- a number, a test, a record, or bytes that are lent on: the promise is the answer
pub said : {A : Type 0} {r r' x : A} → r ≡ x → r' ≡ x → r ≡ r'
said e e' = e ∙ sym e'

-- a moment, a span
pub moment : {r r' : Instant} {t : ℕ} → r.0 ≡ t → r'.0 ≡ t → r ≡ r'
moment e e' = ap made (said e e')
  where
    made : ℕ → Instant
    made t = record { 0 = t }

pub span : {r r' : Duration} {d : ℕ} → r.0 ≡ d → r'.0 ≡ d → r ≡ r'
span e e' = ap made (said e e')
  where
    made : ℕ → Duration
    made d = record { 0 = d }

-- a session's row
session : {r r' : SessionConfig} {m : Model.SessionConfig} → session_of r ≡ m → session_of r' ≡ m → r ≡ r'
session e e' = ap made (said e e')
  where
    made : Model.SessionConfig → SessionConfig
    made m = record { session_type = m.session_type; p2_timeout = record { 0 = m.p2 }; p2_extended_timeout = record { 0 = m.p2_ext }; s3_timeout = record { 0 = m.s3 } }

-- what a lookup answers: the row, or that there is none
pub found : {r r' : Maybe ℕ} {o : Option ℕ} → place_of r ≡ o → place_of r' ≡ o → r ≡ r'
found {r} {r'} e e' = same r r' (said e e')
  where
    same : (r r' : Maybe ℕ) → place_of r ≡ place_of r' → r ≡ r'
    same (Some i) (Some j) e = let z : i ≡ j = cc in ap Some z
    same (Some i) None e = absurd (some-ne-none i e)
    same None (Some j) e = absurd (none-ne-some j e)
    same None None e = refl

pub looked_up : {B : Type 0} {p : B → Bool} {f : ℕ → B} {n : ℕ} {r r' : Maybe ℕ} → Finds p f n r → Finds p f n r' → r ≡ r'
looked_up a b = found a.where_it_stands b.where_it_stands

-- what a row of the value table reads as: the error byte, or where the bytes stand and how many they are
module _ (pool : List ℕ) (limit : ℕ) where
  no_bytes : (l : List ℕ) → Values.bytes l ≡ Values.row_value limit pool none → ⊥
  unfolding Values.row_value
  no_bytes l e = let z : ◌≡◌ {A = ℕ} 0 1 = cc in omega arith

  pub reading : (row : Option Values.ValueRow) (r r' : Reading) → Says pool limit row r → Says pool limit row r' → r ≡ r'
  reading row (Err x) (Err y) a b = let e = said a.says b.says in let z : x ≡ y = cc in ap Err z
  reading row (Err x) (Ok s) a b = let e = said a.says b.says in absurd (let z : ◌≡◌ {A = ℕ} 0 1 = cc in omega arith)
  reading row (Ok s) (Err y) a b = let e = said a.says b.says in absurd (let z : ◌≡◌ {A = ℕ} 0 1 = cc in omega arith)
  reading (some x) (Ok s) (Ok t) a b = said a.stands b.stands
  reading none (Ok s) (Ok t) a b = absurd (no_bytes (take s.len (drop s.start pool)) a.says)

-- moments and spans
pub plus_settled : (κs : _) (a : _) → Settles (plus.Post κs a) Answer
plus_settled κs a x e y f p q = moment p q

pub since_settled : (κs : _) (a : _) → Settles (since.Post κs a) Answer
since_settled κs a x e y f p q = span p q

pub is_before_settled : (κs : _) (a : _) → Settles (is-before.Post κs a) Answer
is_before_settled κs a x e y f p q = said p q

pub is_valid_settled : (κs : _) (a : _) → Settles (is-valid.Post κs a) Answer
is_valid_settled κs a x e y f p q = said p q

pub exceeds_settled : (κs : _) (a : _) → Settles (exceeds.Post κs a) Answer
exceeds_settled κs a x e y f p q = said p q

pub larger_settled : (κs : _) (a : _) → Settles (larger.Post κs a) Answer
larger_settled κs a x e y f p q = span p q

pub span_within_settled : (κs : _) (a : _) → Settles (span-within.Post κs a) Answer
span_within_settled κs a x e y f p q = said p q

-- frames
pub sid_settled : (κs : _) (a : _) → Settles (sid.Post κs a) Answer
sid_settled κs a x e y f p q = said p q

pub payload_settled : (κs : _) (a : _) → Settles (payload.Post κs a) (λ x e y f. x.now ≡ y.now)
payload_settled κs a x e y f p q = said p q

pub sub_function_settled : (κs : _) (a : _) → Settles (sub-function.Post κs a) Answer
sub_function_settled κs a x e y f p q = said p q

pub suppressed_settled : (κs : _) (a : _) → Settles (suppressed.Post κs a) Answer
suppressed_settled κs a x e y f p q = said p q

pub high_nibble_settled : (κs : _) (a : _) → Settles (high-nibble.Post κs a) Answer
high_nibble_settled κs a x e y f p q = said p q

pub low_nibble_settled : (κs : _) (a : _) → Settles (low-nibble.Post κs a) Answer
low_nibble_settled κs a x e y f p q = said p q

pub periodic_did_settled : (κs : _) (a : _) → Settles (periodic-did.Post κs a) Answer
periodic_did_settled κs a x e y f p q = said p q

pub response_settled : (κs : _) (a : _) → Settles (response.Post κs a) Answer
response_settled κs a x e y f p q = said p q

pub identifier_settled : (κs : _) (a : _) → Settles (identifier.Post κs a) Answer
identifier_settled κs a x e y f p q = said p q

pub frame_word_settled : (κs : _) (a : _) → Settles (frame-word.Post κs a) Answer
frame_word_settled κs a x e y f p q = said p q

pub two_bytes_settled : (κs : _) (a : _) → Settles (two_bytes.Post κs a) Answer
two_bytes_settled κs a x e y f p q = said p q

pub byte_settled : (κs : _) (a : _) → Settles (byte.Post κs a) Answer
byte_settled κs a x e y f p q = said p q

-- codes and rates
pub withheld_settled : (κs : _) (a : _) → Settles (withheld.Post κs a) Answer
withheld_settled κs a x e y f p q = said p q

pub interval_settled : (κs : _) (a : _) → Settles (interval.Post κs a) Answer
interval_settled κs a x e y f p q = span p q

-- the number of what was done
pub number_settled : (κs : _) (a : _) → Settles (number.Post κs a) Answer
number_settled κs a x e y f p q = said p q

-- rows
pub of_settled : (κs : _) (a : _) → Settles (of.Post κs a) Answer
of_settled κs a x e y f p q = said p q

pub list_within_settled : (κs : _) (a : _) → Settles (list-within.Post κs a) Answer
list_within_settled κs a x e y f p q = said p q

pub default_session_settled : (κs : _) (a : _) → Settles (default_session_lem.Post κs a) Answer
default_session_settled κs a x e y f p q = session p q

pub programming_session_settled : (κs : _) (a : _) → Settles (programming-session.Post κs a) Answer
programming_session_settled κs a x e y f p q = session p q

pub extended_session_settled : (κs : _) (a : _) → Settles (extended-session.Post κs a) Answer
extended_session_settled κs a x e y f p q = session p q

pub session_within_settled : (κs : _) (a : _) → Settles (session-within.Post κs a) Answer
session_within_settled κs a x e y f p q = said p q

pub service_new_settled : (κs : _) (a : _) → Settles (service-new.Post κs a) Answer
service_new_settled κs a x e y f p q = said p q

pub service_secured_settled : (κs : _) (a : _) → Settles (service-secured.Post κs a) Answer
service_secured_settled κs a x e y f p q = said p q

pub service_within_settled : (κs : _) (a : _) → Settles (service-within.Post κs a) Answer
service_within_settled κs a x e y f p q = said p q

pub read_only_settled : (κs : _) (a : _) → Settles (read_only_lem.Post κs a) Answer
read_only_settled κs a x e y f p q = said p q

pub read_write_settled : (κs : _) (a : _) → Settles (read-write.Post κs a) Answer
read_write_settled κs a x e y f p q = said p q

pub periodic_settled : (κs : _) (a : _) → Settles (periodic.Post κs a) Answer
periodic_settled κs a x e y f p q = said p q

pub did_secured_settled : (κs : _) (a : _) → Settles (did-secured.Post κs a) Answer
did_secured_settled κs a x e y f p q = said p q

pub did_within_settled : (κs : _) (a : _) → Settles (did-within.Post κs a) Answer
did_within_settled κs a x e y f p q = said p q

pub level_within_settled : (κs : _) (a : _) → Settles (level-within.Post κs a) Answer
level_within_settled κs a x e y f p q = said p q

-- tables of words
pub examined_settled : (κs : _) (a : _) → Settles (examined.Post κs a) Answer
examined_settled κs a x e y f p q = said p q

pub word_settled : (κs : _) (a : _) → Settles (word.Post κs a) Answer
word_settled κs a x e y f p q = said p q

pub cell_settled : (κs : _) (a : _) → Settles (cell.Post κs a) Answer
cell_settled κs a x e y f p q = said p q

pub find_settled : (κs : _) (a : _) → Settles (find.Post κs a) Answer
find_settled κs a x e y f p q = found p q

-- values
pub find_value_settled : (κs : _) (a : _) → Settles (find-value.Post κs a) Answer
find_value_settled κs a x e y f p q = looked_up p q

pub row_value_settled : (κs : _) (a : _) → Settles (row-value.Post κs a) Answer
row_value_settled κs a x e y f p q = reading _ _ _ x y p q

pub value_settled : (κs : _) (a : _) → Settles (value.Post κs a) Answer
value_settled κs a x e y f p q = reading _ _ _ x y p q
