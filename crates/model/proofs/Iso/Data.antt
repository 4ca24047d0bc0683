-- Reading and writing by identifier, control, and transfer, against ISO 14229-1.
use Prim.Native.Nat.{ℕ, suc, ◌+◌, ◌*◌, ◌%◌, ◌≤◌, ◌<◌}
use mathlib.Core.Path.{◌≡◌, refl, sym, ◌∙◌, ap}
use mathlib.Core.Bool.{Bool, true, false, ◌&&◌}
use mathlib.Core.List.{List, [], ◌∷◌, ◌++◌, append_assoc, append-nil}
use mathlib.Core.Option.{some}
use native.Mathlib.Omega.{arith}
use lib.ListN.{length, length-append}
use lib.Dec.{eqb, leb}
use borrow.Author.Tests.{le-leb, lt-leb, eq-eqb, eqb-true}
use Rattle.model.specs.Iso
use Rattle.model.specs.Tests.{pick}
use Rattle.model.specs.Numbers.{max_download}
use Rattle.model.specs.Config.{find_did, readable, writable}
use Rattle.model.specs.Values.{Outcome, bytes, error, outcome, value}
use Rattle.model.specs.Queue.{Reply, positive, negative}
use Rattle.model.specs.Service.{Seen, acted, says, answers, refuses}
use Rattle.model.specs.Service22.{Reading, going, ended, onward, appended, value_appended, held_for, read_value, read_one, read_all, read_reply, service22}
use Rattle.model.specs.Service2E.{written, write_row, service2E}
use Rattle.model.specs.Service2F.{controlled, service2F}
use Rattle.model.specs.Service34.{address_length, size_length, service34}
use Rattle.model.specs.Service36.{transferred, service36}
use Rattle.model.specs.Service37.{service37}
use Rattle.model.specs.Service38.{service38}
use Rattle.model.proofs.Laws.{right, either}
use Rattle.model.proofs.Iso.Frames.{response_of, refusal_code}
use Rattle.model.proofs.Iso.Request.{Refuses, answer, decided, by_act}

-- r is the record of x: x is supported in the session, its level is held, and the value table says r of it
pub record Record (v : Seen) (x : ℕ) (r : List ℕ) : Type 0 where
  pub supported : readable v.session.session_type (find_did v.config x) ≡ true
  pub held : held_for v.session.level (find_did v.config x) ≡ true
  pub value : value v.limit v.table x ≡ bytes r

-- a reading that goes on has passed each test, and each step before it went on
passes : (t : Bool) (a : Reading) (r : Reply) (q : List ℕ) → pick t a (ended r) ≡ going q → (t ≡ true) × (a ≡ going q)
passes true a r q e = (refl, e)
passes false a r q e = let z : ◌≡◌ {A = ℕ} 0 1 = cc in absurd (omega arith)

went : (a : Reading) (k : List ℕ → Reading) (q : List ℕ) → onward a k ≡ going q → (x : List ℕ) × (a ≡ going x) × (k x ≡ going q)
went (going x) k q e = (x, refl, e)
went (ended r) k q e = let z : ◌≡◌ {A = ℕ} 0 1 = cc in absurd (omega arith)

grew : (limit : ℕ) (acc b q : List ℕ) → appended limit acc b ≡ going q → q ≡ acc ++ b
grew limit acc b q e = let f = (passes (leb (length acc + length b) limit) (going (acc ++ b)) (negative 0x14) q e).1 in cc

gave : (limit : ℕ) (o : Outcome) (acc q : List ℕ) → value_appended limit o acc ≡ going q → (b : List ℕ) × (o ≡ bytes b) × (q ≡ acc ++ b)
gave limit (bytes b) acc q e = (b, refl, grew limit acc b q e)
gave limit (error code) acc q e = let z : ◌≡◌ {A = ℕ} 0 1 = cc in absurd (omega arith)

regroup : (q m acc x r : List ℕ) → q ≡ m ++ r → m ≡ acc ++ x → q ≡ acc ++ (x ++ r)
regroup q m acc x r e f = e ∙ rw (f, append_assoc)

-- one identifier read: its two bytes and its record stand behind the bytes so far
record One (v : Seen) (h l : ℕ) (acc q : List ℕ) : Type 0 where
  r : List ℕ
  is : Record v (Iso.unsigned h l) r
  behind : q ≡ acc ++ (h ∷ l ∷ r)

-- a reading that ends, ends in a negative response
abbrev pub Ends : Reading → Type 0
Ends (going q) = Unit {0}
Ends (ended r) = (code : ℕ) × (response_of r ≡ some (Iso.negative_response code))

ends-onward : (a : Reading) (k : List ℕ → Reading) → Ends a → ((q : List ℕ) → Ends (k q)) → Ends (onward a k)
ends-onward (going q) k h f = f q
ends-onward (ended r) k h f = h

ends-appended : (limit : ℕ) (acc b : List ℕ) → Ends (appended limit acc b)
ends-appended limit acc b = either Ends (leb (length acc + length b) limit) tt (0x14, refl)

ends-value : (limit : ℕ) (o : Outcome) (acc : List ℕ) → Ends (value_appended limit o acc)
ends-value limit (bytes b) acc = ends-appended limit acc b
ends-value limit (error code) acc = (code, refusal_code code)

module _ (v : Seen) where
  ends_one : (h l : ℕ) (acc : List ℕ) → Ends (read_one v h l acc)
  unfolding read_one read_value
  ends_one h l acc =
      either Ends (readable v.session.session_type (find_did v.config (h * 256 + l)))
      (either Ends (held_for v.session.level (find_did v.config (h * 256 + l)))
      (ends-onward (appended v.limit acc (h ∷ l ∷ [])) (value_appended v.limit (value v.limit v.table (h * 256 + l)))
      (ends-appended v.limit acc (h ∷ l ∷ [])) (ends-value v.limit (value v.limit v.table (h * 256 + l))))
      (0x33, refl))
      (0x31, refl)

  pub ends-all : (p acc : List ℕ) → Ends (read_all v p acc)
  ends-all [] acc = tt
  ends-all (a ∷ []) acc = tt
  ends-all (a ∷ b ∷ p) acc = ends-onward (read_one v a b acc) (read_all v p) (ends_one a b acc) (ends-all p)

  one : (h l : ℕ) (acc q : List ℕ) → read_one v h l acc ≡ going q → One v h l acc q
  unfolding read_one read_value
  one h l acc q e =
      let a = passes (readable v.session.session_type (find_did v.config x)) _ (negative 0x31) q e in
      let b = passes (held_for v.session.level (find_did v.config x)) _ (negative 0x33) q a.1 in
      let c = went (appended v.limit acc (h ∷ l ∷ [])) (value_appended v.limit (value v.limit v.table x)) q b.1 in
      let d = gave v.limit (value v.limit v.table x) c.0 q c.2 in
      let g = grew v.limit acc (h ∷ l ∷ []) c.0 c.1 in
      record { r = d.0; is = record { supported = a.0; held = b.0; value = d.1 }; behind = regroup q c.0 acc (h ∷ l ∷ []) d.0 d.2 g }
    where
      x : ℕ
      x = h * 256 + l

  -- all read: their fields stand behind the bytes so far
  all_read : (p acc q : List ℕ) → length p % 2 ≡ 0 → read_all v p acc ≡ going q → (fields : List ℕ) × (q ≡ acc ++ fields) × Iso.DataFields (Record v) p fields
  all_read [] acc q h e = let f : acc ≡ q = cc in ([], sym f ∙ sym (append-nil acc), Iso.no_more)
  all_read (a ∷ []) acc q h e = absurd (omega arith)
  all_read (a ∷ b ∷ p) acc q h e =
      let c = went (read_one v a b acc) (read_all v p) q e in
      let d = one a b acc c.0 c.1 in
      let n : length p % 2 ≡ 0 = omega arith in
      let f = all_read p c.0 q n c.2 in
      (a ∷ b ∷ (d.r ++ f.0), regroup q c.0 acc (a ∷ b ∷ d.r) f.0 f.1 d.behind, Iso.and_then d.is f.2)

  -- a positive response to readDataByIdentifier is each identifier with its record, in the request's order
  pub data_read : (fields : List ℕ) → answer (service22 v) ≡ some (Iso.positive_response fields) → Iso.DataFields (Record v) v.payload fields
  unfolding service22
  data_read fields e = go (leb 2 (length v.payload) && eqb (length v.payload % 2) 0) refl e
    where
      took : (a : Reading) → Ends a → response_of (read_reply a) ≡ some (Iso.positive_response fields) → a ≡ going fields
      took (going q) h e = ap going cc
      took (ended r) h e = let f = h.1 in let z : ◌≡◌ {A = ℕ} 0 1 = cc in absurd (omega arith)

      go : (t : Bool) → (leb 2 (length v.payload) && eqb (length v.payload % 2) 0) ≡ t
          → answer (pick t (answers (says v (read_reply (read_all v v.payload [])))) (refuses v 0x13)) ≡ some (Iso.positive_response fields)
          → Iso.DataFields (Record v) v.payload fields
      go true h e =
          let n = eqb-true _ _ (right (leb 2 (length v.payload)) (eqb (length v.payload % 2) 0) h) in
          let f = all_read v.payload [] fields n (took (read_all v v.payload []) (ends-all v.payload []) e) in
          rw f.1 f.2
      go false h e = let z : ◌≡◌ {A = ℕ} 0 1 = cc in absurd (omega arith)

  reads_one : (a b : ℕ) (r acc : List ℕ) → Record v (Iso.unsigned a b) r → length acc + 2 + length r ≤ v.limit → read_one v a b acc ≡ going (acc ++ (a ∷ b ∷ r))
  unfolding read_one read_value
  reads_one a b r acc x h =
      let k : length acc + 2 ≤ v.limit = omega arith in
      let n : length (acc ++ (a ∷ b ∷ [])) + length r ≤ v.limit = simp length-append (omega arith) in
      rw (x.supported, x.held, le-leb _ _ k, x.value, le-leb _ _ n, append_assoc)

  all_reads : {p fields : List ℕ} → Iso.DataFields (Record v) p fields → (acc : List ℕ) → length acc + length fields ≤ v.limit → read_all v p acc ≡ going (acc ++ fields)
  all_reads Iso.no_more acc h = ap going (sym (append-nil acc))
  all_reads (Iso.and_then {h = a} {l = b} {r = r} {ids = ids} {fields = fields} x d) acc h =
      let n = rw (length-append r fields) at h in
      let k : length (acc ++ (a ∷ b ∷ r)) + length fields ≤ v.limit = simp length-append (omega arith) in
      ap (λ (o : Reading). onward o (read_all v ids)) (reads_one a b r acc x (omega arith)) ∙ all_reads d (acc ++ (a ∷ b ∷ r)) k ∙ ap going (append_assoc acc (a ∷ b ∷ r) fields)

  whole : {p fields : List ℕ} → Iso.DataFields (Record v) p fields → length p % 2 ≡ 0
  whole Iso.no_more = refl
  whole (Iso.and_then x d) = let n = whole d in omega arith

  -- and where each identifier has its record and the fields fit, the response is positive
  pub data_reads : (fields : List ℕ) → 2 ≤ length v.payload → Iso.DataFields (Record v) v.payload fields → length fields ≤ v.limit
      → answer (service22 v) ≡ some (Iso.positive_response fields)
  unfolding service22
  data_reads fields h d k = rw (le-leb 2 _ h, eq-eqb _ _ (whole d), all_reads d [] (omega arith))

  -- at an identifier that the session does not support: requestOutOfRange; at one whose level is not held: securityAccessDenied
  module _ (h l : ℕ) (rest : List ℕ) (p : v.payload ≡ h ∷ l ∷ rest) (even : length rest % 2 ≡ 0) where
    reads : answer (service22 v) ≡ response_of (read_reply (onward (read_one v h l []) (read_all v rest)))
    unfolding service22
    reads = let n : suc (suc (length rest)) % 2 ≡ 0 = omega arith in rw (p, le-leb 2 (suc (suc (length rest))) (omega arith), n)

    pub read_unsupported : readable v.session.session_type (find_did v.config (Iso.unsigned h l)) ≡ false → Refuses (service22 v) Iso.request_out_of_range
    unfolding read_one
    read_unsupported e = reads ∙ rw e

    pub read-denied : readable v.session.session_type (find_did v.config (Iso.unsigned h l)) ≡ true → held_for v.session.level (find_did v.config (Iso.unsigned h l)) ≡ false
        → Refuses (service22 v) Iso.security_access_denied
    unfolding read_one
    read-denied e f = reads ∙ rw (e, f)

    -- and a record that the response cannot carry: responseTooLong
    pub read-long : (r : List ℕ) → Record v (Iso.unsigned h l) r → 2 ≤ v.limit → v.limit < 2 + length r → Refuses (service22 v) Iso.response_too_long
    unfolding read_one read_value
    read-long r x n k = reads ∙ rw (x.supported, x.held, x.value, le-leb 2 _ n, lt-leb (2 + length r) v.limit k)

-- half an identifier is incorrectMessageLengthOrInvalidFormat
pub read_odd : (v : Seen) → length v.payload % 2 ≡ 1 → Refuses (service22 v) Iso.incorrect_message_length_or_invalid_format
unfolding service22
read_odd v h = rw h (go (leb 2 (length v.payload)))
  where
    go : (t : Bool) → answer (pick (t && false) (answers (says v (read_reply (read_all v v.payload [])))) (refuses v 0x13)) ≡ some (Iso.negative_response 0x13)
    go true = refl
    go false = refl

-- writeDataByIdentifier of an identifier and at least a byte
module _ (v : Seen) (h l d : ℕ) (rest : List ℕ) (p : v.payload ≡ h ∷ l ∷ d ∷ rest) where
  writes : service2E v ≡ write_row v (find_did v.config (Iso.unsigned h l))
  unfolding service2E
  writes = rw (p, le-leb 3 (suc (suc (suc (length rest)))) (omega arith))

  -- not writable in the session: requestOutOfRange
  pub write_unsupported : writable v.session.session_type (find_did v.config (Iso.unsigned h l)) ≡ false → Refuses (service2E v) Iso.request_out_of_range
  unfolding write_row
  write_unsupported e = rw (writes, e)

  module _ (e : writable v.session.session_type (find_did v.config (Iso.unsigned h l)) ≡ true) where
    -- its level not held: securityAccessDenied
    pub write-denied : held_for v.session.level (find_did v.config (Iso.unsigned h l)) ≡ false → Refuses (service2E v) Iso.security_access_denied
    unfolding write_row
    write-denied f = rw (writes, e, f)

    -- else the act's code, or the identifier
    pub write_done : held_for v.session.level (find_did v.config (Iso.unsigned h l)) ≡ true
        → answer (service2E v) ≡ some (decided (λ b. Iso.positive_response (Iso.write_fields h l)) (outcome v.limit v.given))
    unfolding write_row
    write_done f = rw (writes, e, f) (by_act v (written v) (λ b. Iso.positive_response (Iso.write_fields h l)) (λ b. rw p) (outcome v.limit v.given))

-- inputOutputControlByIdentifier: the act's code, or the identifier and the act's bytes
pub io_control : (v : Seen) (h l c : ℕ) (rest : List ℕ) → v.payload ≡ h ∷ l ∷ c ∷ rest
    → answer (service2F v) ≡ some (decided (λ b. Iso.positive_response (Iso.control_fields h l b)) (outcome v.limit v.given))
unfolding service2F
io_control v h l c rest p =
    rw (le-leb 3 (length v.payload) (omega (arith, ap length p)))
    (by_act v (controlled v) (λ b. Iso.positive_response (Iso.control_fields h l b)) (λ b. rw p) (outcome v.limit v.given))

-- transferData: the act's code, or the counter and the act's bytes
pub transfer_data_lem : (v : Seen) (counter : ℕ) (rest : List ℕ) → v.payload ≡ counter ∷ rest
    → answer (service36 v) ≡ some (decided (λ b. Iso.positive_response (Iso.transfer_fields counter b)) (outcome v.limit v.given))
unfolding service36
transfer_data_lem v counter rest p =
    rw (le-leb 1 (length v.payload) (omega (arith, ap length p)))
    (by_act v (transferred v) (λ b. Iso.positive_response (Iso.transfer_fields counter b)) (λ b. rw p) (outcome v.limit v.given))

-- requestDownload, requestTransferExit, requestFileTransfer: the act's code, or its bytes. The response has the standard's fields exactly where the act gives them
module _ (v : Seen) where
  passed_on : (o : Outcome) → response_of (acted v positive o).reply ≡ some (decided Iso.positive_response o)
  passed_on o = by_act v positive Iso.positive_response (λ b. refl) o

  pub request_download_lem : 3 ≤ length v.payload → 2 + address_length v.payload + size_length v.payload ≤ length v.payload
      → answer (service34 v) ≡ some (decided Iso.positive_response (outcome max_download v.given))
  unfolding service34
  request_download_lem h k = rw (le-leb 3 (length v.payload) h, le-leb _ _ k) (passed_on (outcome max_download v.given))

  pub transfer_exit : answer (service37 v) ≡ some (decided Iso.positive_response (outcome v.limit v.given))
  unfolding service37
  transfer_exit = passed_on (outcome v.limit v.given)

  pub file_transfer : 3 ≤ length v.payload → answer (service38 v) ≡ some (decided Iso.positive_response (outcome v.limit v.given))
  unfolding service38
  file_transfer h = rw (le-leb 3 (length v.payload) h) (passed_on (outcome v.limit v.given))

  pub download_fields_lem : (n : List ℕ) → 3 ≤ length v.payload → 2 + address_length v.payload + size_length v.payload ≤ length v.payload
      → outcome max_download v.given ≡ bytes (Iso.download_fields n) → answer (service34 v) ≡ some (Iso.positive_response (Iso.download_fields n))
  download_fields_lem n h k o = rw o at (request_download_lem h k)

  pub exit_fields_lem : (r : List ℕ) → outcome v.limit v.given ≡ bytes (Iso.exit_fields r) → answer (service37 v) ≡ some (Iso.positive_response (Iso.exit_fields r))
  exit_fields_lem r o = rw o at transfer_exit

  pub file_fields_lem : (mode : ℕ) (more : List ℕ) → 3 ≤ length v.payload → outcome v.limit v.given ≡ bytes (Iso.file_fields mode more)
      → answer (service38 v) ≡ some (Iso.positive_response (Iso.file_fields mode more))
  file_fields_lem mode more h o = rw o at (file_transfer h)
