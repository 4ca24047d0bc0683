-- The act that a request asks has the number of its service, and its arguments lie in the frame behind the service byte, in the frame's order.
use Prim.Native.Nat.{ℕ, suc, ◌+◌, ◌-◌, ◌%◌, ◌≤◌}
use mathlib.Core.Path.{◌≡◌, refl}
use mathlib.Core.Bool.{Bool, true, false, ◌&&◌}
use mathlib.Core.Logic.{◌⊎◌, inl, inr}
use mathlib.Core.List.Memᴰ
use mathlib.Core.List.{List, [], ◌∷◌, Memᴰ}
use mathlib.Core.Option.{Option, some, none}
use native.Mathlib.Omega.{arith}
use lib.ListN.{length, drop, get_or, length-drop}
use lib.Dec.{eqb, leb, ltb}
use borrow.Author.Tests.{leb-true, ltb-false}
use Rattle.model.specs.Tests.{pick}
use Rattle.model.specs.Numbers.{max_time, max_request, max_frame}
use Rattle.model.specs.Config.{DidConfig, SessionConfig, SecurityLevelConfig, find_session, find_service, find_level, find_did, writable}
use Rattle.model.specs.Values.{given0, empty_table}
use Rattle.model.specs.Frame.{sid_of, sub_function, word}
use Rattle.model.specs.State.{AddressMode, PendingRequest, State, valid, fresh_state, received}
use Rattle.model.specs.Service.{Seen, Part, part, Act, no_act, Served}
use Rattle.model.specs.Service3E.{service3E}
use Rattle.model.specs.Service10.{service10, session_control}
use Rattle.model.specs.Service11.{service11}
use Rattle.model.specs.Service27.{service27, security_access, request_seed, seed_asked, send_key, locked, awaits, key_fits}
use Rattle.model.specs.Service22.{service22, held_for}
use Rattle.model.specs.Service2E.{service2E, write_row}
use Rattle.model.specs.Service2A.{service2A, transmission}
use Rattle.model.specs.Service31.{service31}
use Rattle.model.specs.Service28.{service28}
use Rattle.model.specs.Service2F.{service2F}
use Rattle.model.specs.Service34.{service34, address_length, size_length}
use Rattle.model.specs.Service36.{service36}
use Rattle.model.specs.Service37.{service37}
use Rattle.model.specs.Service38.{service38, path_length}
use Rattle.model.specs.Request.{Inbound, Request, Answer, seen, served, length_fits, heard, addressed, routed, request}
use Rattle.model.specs.Question.{bare, question}
use Rattle.model.specs.Fixed.{fixed_config}
use Rattle.model.specs.Alike.{inbound}
use Rattle.model.proofs.Open.{whole}
use Rattle.model.proofs.Acts.{question-act}
use Rattle.model.proofs.Dispatch.{Each, at_guarded}
use Rattle.model.proofs.Laws.{left, right, either, either_by}

-- a part with no bytes is 0 and 0
abbrev pub Empty : Part → Type 0
Empty p = (p.start ≡ 0) × (p.len ≡ 0)

-- parts that lie in a frame of some length, in its order, from a place on: the first is empty, or begins there or later and ends in the frame,
-- and so do the others, from its end on
pub data InOrder (size : ℕ) : ℕ → List Part → Type 0 where
  done : {from : ℕ} → InOrder size from []
  skips : {from : ℕ} {p : Part} {ps : List Part} → Empty p → InOrder size from ps → InOrder size from (p ∷ ps)
  holds : {from : ℕ} {p : Part} {ps : List Part} → from ≤ p.start → p.start + p.len ≤ size → InOrder size (p.start + p.len) ps → InOrder size from (p ∷ ps)

-- a part among others, which end in the frame
among : {p q : Part} {ps : List Part} (size : ℕ) → q.start + q.len ≤ size → (Memᴰ p ps → p.start + p.len ≤ size) → Memᴰ p (q ∷ ps) → p.start + p.len ≤ size
among {p} {q} {ps} size h k m = go (Memᴰ.cases_cons m)
  where
    go : (p ≡ q) ⊎ Memᴰ p ps → p.start + p.len ≤ size
    go (inl e) = rw e h
    go (inr l) = k l

-- so each ends in the frame
pub inside : {size from : ℕ} {ps : List Part} (p : Part) → InOrder size from ps → Memᴰ p ps → p.start + p.len ≤ size
inside p done m = absurd (Memᴰ.not-nil m)
inside {size} p (skips {p = q} e k) m = let a = e.0 in let b = e.1 in among {q = q} size (omega arith) (inside p k) m
inside {size} p (holds low high k) m = among size high (inside p k) m

-- an act of no number, or of the service's; its arguments behind the service byte
pub record Placed (size sid : ℕ) (a : Act) : Type 0 where
  pub number : (a.number ≡ 0) ⊎ (a.number ≡ sid)
  pub in_order : InOrder size 1 a.arguments

-- no act
unasked : (size sid : ℕ) → Placed size sid no_act
unasked size sid = record { number = inl refl; in_order = done }

-- what comes behind a place also comes behind an earlier one
earlier : {size b : ℕ} {ps : List Part} (a : ℕ) → a ≤ b → InOrder size b ps → InOrder size a ps
earlier a h done = done
earlier a h (skips e k) = skips e (earlier a h k)
earlier a h (holds {p = p} low high k) = holds {from = a} {p = p} (omega arith) high k

-- a part, and those behind its end
place : {size : ℕ} {ps : List Part} (from start len : ℕ) → from ≤ start → start + len ≤ size → InOrder size (start + len) ps → InOrder size from (part start len ∷ ps)
unfolding part
place {size} {ps} from start len low high k = go (eqb len 0)
  where
    go : (t : Bool) → InOrder size from (pick t (record { start = 0; len = 0 }) (record { start = start; len = len }) ∷ ps)
    go true = skips (refl, refl) (earlier from (omega arith) k)
    go false = holds low high k

module _ (v : Seen) where
  -- the length of the payload, and of the frame
  abbrev n : ℕ
  n = length v.payload

  abbrev Serves : ℕ → Served → Type 0
  Serves sid a = Placed (suc n) sid a.act

  -- no act
  still : (sid : ℕ) → Placed (suc n) sid no_act
  still sid = unasked (suc n) sid

  -- or the service's own
  asked : {sid : ℕ} {ps : List Part} → InOrder (suc n) 1 ps → Placed (suc n) sid (record { number = sid; arguments = ps })
  asked k = record { number = inr refl; in_order = k }

  -- the first byte of the payload, and what comes behind it
  first_byte : {ps : List Part} → 1 ≤ n → InOrder (suc n) 2 ps → InOrder (suc n) 1 (part 1 1 ∷ ps)
  first_byte h k = place 1 1 1 (omega arith) (omega arith) k

  -- the services that ask none
  placed10 : Serves 0x10 (service10 v)
  unfolding service10 session_control
  placed10 = either (Serves 0x10) (ltb n 1) (still 0x10) (row (find_session v.config (sub_function v.payload)))
    where
      row : (o : Option SessionConfig) → Serves 0x10 (session_control v (sub_function v.payload) o)
      row none = still 0x10
      row (some r) = still 0x10

  placed22 : Serves 0x22 (service22 v)
  unfolding service22
  placed22 = either (Serves 0x22) (leb 2 n && eqb (n % 2) 0) (still 0x22) (still 0x22)

  placed2A : Serves 0x2A (service2A v)
  unfolding service2A transmission
  placed2A =
      let mode = get_or v.payload 0 0 in
      either (Serves 0x2A) (ltb n 1) (still 0x2A) (either (Serves 0x2A) (eqb mode 4) (still 0x2A) (either (Serves 0x2A) (leb 1 mode && leb mode 3) (still 0x2A) (still 0x2A)))

  -- 27: a seed asked, and a key sent
  placed-seed : (level : ℕ) → 1 ≤ n → Serves 0x27 (request_seed v level)
  unfolding request_seed seed_asked
  placed-seed level h = either (Serves 0x27) (locked v.security level v.now) (still 0x27) (row (find_level v.config level))
    where
      row : (o : Option SecurityLevelConfig) → Serves 0x27 (seed_asked v level o)
      row none = still 0x27
      row (some r) = asked (first_byte h done)

  placed-key : (level : ℕ) → 1 ≤ n → Serves 0x27 (send_key v level)
  unfolding send_key
  placed-key level h =
      either (Serves 0x27) (locked v.security level v.now) (still 0x27)
      (either (Serves 0x27) (awaits v.security level)
      (either (Serves 0x27) (key_fits (n - 1) (find_level v.config level)) (asked (first_byte h (place 2 2 _ (omega arith) (omega arith) done))) (still 0x27))
      (still 0x27))

  -- 27 by its access type
  placed27 : Serves 0x27 (service27 v)
  unfolding service27 security_access
  placed27 = either_by (Serves 0x27) (ltb n 1) (λ t. still 0x27) (λ t. go (ltb-false n 1 t))
    where
      access : ℕ
      access = sub_function v.payload

      go : 1 ≤ n → Serves 0x27 (security_access v access)
      go h = either (Serves 0x27) (eqb access 0) (still 0x27) (either (Serves 0x27) (eqb (access % 2) 1) (placed-seed access h) (placed-key (access - 1) h))

  -- 11: the type
  placed11 : Serves 0x11 (service11 v)
  unfolding service11
  placed11 = either_by (Serves 0x11) (ltb n 1) (λ t. still 0x11) (λ t. asked (first_byte (ltb-false n 1 t) done))

  -- the others ask where the payload is long enough, and 2E after its tests
  placed2E : Serves 0x2E (service2E v)
  unfolding service2E write_row
  placed2E = either_by (Serves 0x2E) (leb 3 n) row (λ t. still 0x2E)
    where
      did : Option DidConfig
      did = find_did v.config (word v.payload 0)

      row : leb 3 n ≡ true → Serves 0x2E (write_row v did)
      row t =
          let h = leb-true 3 n t in
          either (Serves 0x2E) (writable v.session.session_type did)
          (either (Serves 0x2E) (held_for v.session.level did) (asked (place 1 1 2 (omega arith) (omega arith) (place 3 3 _ (omega arith) (omega arith) done))) (still 0x2E))
          (still 0x2E)

  placed31 : Serves 0x31 (service31 v)
  unfolding service31
  placed31 =
      either_by (Serves 0x31) (leb 3 n)
      (λ t. let h = leb-true 3 n t in asked (first_byte (omega arith) (place 2 2 _ (omega arith) (omega arith) (place 4 4 _ (omega arith) (omega arith) done))))
      (λ t. still 0x31)

  placed28 : Serves 0x28 (service28 v)
  unfolding service28
  placed28 =
      either_by (Serves 0x28) (leb 2 n)
      (λ t. let h = leb-true 2 n t in asked (first_byte (omega arith) (place 2 2 _ (omega arith) (omega arith) done)))
      (λ t. still 0x28)

  placed2F : Serves 0x2F (service2F v)
  unfolding service2F
  placed2F =
      either_by (Serves 0x2F) (leb 3 n)
      (λ t. let h = leb-true 3 n t in asked (place 1 1 _ (omega arith) (omega arith) (place 3 3 _ (omega arith) (omega arith) (place 4 4 _ (omega arith) (omega arith) done))))
      (λ t. still 0x2F)

  placed34 : Serves 0x34 (service34 v)
  unfolding service34
  placed34 = either_by (Serves 0x34) (leb 3 n && leb (2 + a + b) n) (λ t. asked (go (leb-true (2 + a + b) n (right (leb 3 n) (leb (2 + a + b) n) t)))) (λ t. still 0x34)
    where
      a : ℕ
      a = address_length v.payload

      b : ℕ
      b = size_length v.payload

      go : 2 + a + b ≤ n → InOrder (suc n) 1 (part 1 1 ∷ part 3 a ∷ part (3 + a) b ∷ [])
      go h = first_byte (omega arith) (place 2 3 a (omega arith) (omega arith) (place (3 + a) (3 + a) b (omega arith) (omega arith) done))

  placed36 : Serves 0x36 (service36 v)
  unfolding service36
  placed36 =
      either_by (Serves 0x36) (leb 1 n)
      (λ t. let h = leb-true 1 n t in asked (first_byte h (place 2 2 _ (omega arith) (omega arith) done)))
      (λ t. still 0x36)

  placed37 : Serves 0x37 (service37 v)
  unfolding service37
  placed37 = asked (place 1 1 n (omega arith) (omega arith) done)

  placed38 : Serves 0x38 (service38 v)
  unfolding service38
  placed38 = either_by (Serves 0x38) (leb 3 n) (λ t. asked (go (leb-true 3 n t))) (λ t. still 0x38)
    where
      fits : path_length v.payload ≤ n - 3
      fits = either_by (λ k. k ≤ n - 3) (leb (3 + word v.payload 1) n) (λ t. let h = leb-true (3 + word v.payload 1) n t in omega arith) (λ t. omega arith)

      go : 3 ≤ n → InOrder (suc n) 1 (part 1 1 ∷ part 4 (path_length v.payload) ∷ [])
      go h = let k = fits in first_byte (omega arith) (place 2 4 (path_length v.payload) (omega arith) (omega arith) done)

  -- each of the fourteen, and every refusal
  pub placed-each : Each Serves v
  unfolding service3E
  placed-each = record {
    at3E = still 0x3E;
    at10 = placed10;
    at11 = placed11;
    at27 = placed27;
    at22 = placed22;
    at2E = placed2E;
    at2A = placed2A;
    at31 = placed31;
    at28 = placed28;
    at2F = placed2F;
    at34 = placed34;
    at36 = placed36;
    at37 = placed37;
    at38 = placed38;
    refused = λ sid code. still sid;
  }

module _ (limit : ℕ) (r : Request) where
  -- an act that is placed in the frame
  abbrev Frame : Act → Type 0
  Frame a = Placed (length r.inbound.frame) (sid_of r.inbound.frame) a

  abbrev Answers : Answer → Type 0
  Answers a = Frame a.act

  -- a request that is heard: a frame that has a byte is as long as its payload and that byte
  placed-heard : (s : State) (o : Option PendingRequest) → Answers (heard limit s r o)
  unfolding heard
  placed-heard s (some p) = unasked (length r.inbound.frame) (sid_of r.inbound.frame)
  placed-heard s none = either_by Answers (length_fits f) go (λ t. unasked (length f) (sid_of f))
    where
      f : List ℕ
      f = r.inbound.frame

      go : length_fits f ≡ true → Frame (served limit s r).act
      go t =
          let h = leb-true 1 (length f) (left (leb 1 (length f)) (leb (length f) max_request) t) in
          let e : suc (length (drop 1 f)) ≡ length f = omega (arith, length-drop 1 f) in
          rw e at (at_guarded (Serves (seen limit s r)) (seen limit s r) (placed-each (seen limit s r)) (sid_of f) (find_service s.config (sid_of f)))

  -- whatever a request asks of whichever service, its act is placed in the frame
  pub request-placed : (s : State) → Placed (length r.inbound.frame) (sid_of r.inbound.frame) (request limit s r).act
  unfolding request routed
  request-placed s = either Answers (valid limit s) (either Answers (leb r.inbound.time max_time) (go (addressed s.config r.inbound.dst)) nothing) nothing
    where
      nothing : Frame no_act
      nothing = unasked (length r.inbound.frame) (sid_of r.inbound.frame)

      go : (o : Option AddressMode) → Answers (routed limit s r o)
      go none = nothing
      go (some m) = placed-heard (received s m r.inbound.time) s.pending

-- and so is the act that a question tells
pub question-placed : (limit : ℕ) (s : State) (i : Inbound) → Placed (length i.frame) (sid_of i.frame) (question limit s i).act
question-placed limit s i = rw (question-act limit i given0 empty_table s) at (request-placed limit (bare i) s)

-- such an act: of a 34 with one byte of address and none of size
abbrev tells : List ℕ → Act
tells f = (question max_frame (fresh_state fixed_config) (inbound 5 3712 16 f)).act

pub download_told : tells (0x34 ∷ 0 ∷ 0x10 ∷ 7 ∷ []) ≡ record { number = 0x34; arguments = record { start = 1; len = 1 } ∷ record { start = 3; len = 1 } ∷ record { start = 0; len = 0 } ∷ [] }
unfolding whole
download_told = refl
