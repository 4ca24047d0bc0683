-- Which kinds of answer each service can give: only those with a sub-function are ever silent, and only 2A sends a code whatever the addressing.
use Prim.Native.Nat.{ℕ, ◌%◌, ◌-◌, ◌+◌, ◌<◌}
use mathlib.Core.Path.{◌≡◌, refl, ◌∙◌, ap}
use mathlib.Core.Bool.{true, false, ◌&&◌, false≢true}
use mathlib.Core.List.{List, [], ◌∷◌, ◌++◌}
use mathlib.Core.Option.{Option, some, none}
use native.Mathlib.Omega.{arith}
use lib.ListN.{length, get_or, drop}
use lib.Dec.{eqb, leb, ltb}
use Rattle.model.specs.Iso
use Rattle.model.specs.Tests.{pick}
use Rattle.model.specs.Numbers.{max_outbox, max_seed, max_download}
use Rattle.model.specs.Config.{ServiceConfig, find_service, allowed_in, SessionConfig, SecurityLevelConfig, find_session, find_did, find_level, readable, writable, max_attempts_of, lockout_of}
use Rattle.model.specs.Values.{Outcome, bytes, error, outcome}
use Rattle.model.specs.Frame.{sid_of, suppressed, sub_function, periodic_did, word}
use Rattle.model.specs.State.{AddressMode, State, Failed, Lock, Subscription, received}
use Rattle.model.specs.Queue.{Reply, silent, positive, negative, always, pends}
use Rattle.model.specs.Reply.{refusal}
use Rattle.model.specs.Service.{Seen, Effect, Served, acted}
use Rattle.model.specs.Service3E.{service3E}
use Rattle.model.specs.Service10.{session_control, service10}
use Rattle.model.specs.Service11.{reset, service11}
use Rattle.model.specs.Service27.{locked, awaits, key_fits, failed_count, increment_failed, set_lockout, seed_given, seed_asked, request_seed, locked_out, denied, judged, send_key, security_access, service27}
use Rattle.model.specs.Service22.{Reading, going, ended, read_all, read_reply, held_for, service22}
use Rattle.model.specs.Service2A.{rate_of, register, interval_for, registered, register_all, transmission, service2A}
use Rattle.model.specs.Service28.{communication, service28}
use Rattle.model.specs.Service2E.{written, write_row, service2E}
use Rattle.model.specs.Service2F.{controlled, service2F}
use Rattle.model.specs.Service31.{routine, service31}
use Rattle.model.specs.Service34.{address_length, size_length, service34}
use Rattle.model.specs.Service36.{transferred, service36}
use Rattle.model.specs.Service37.{service37}
use Rattle.model.specs.Service38.{service38}
use Rattle.model.specs.Request.{Request, seen, service, served, request}
use Rattle.model.proofs.Laws.{either}
use Rattle.model.proofs.Iso.Frames.{response_of, to, functionally, every_map, every_both}
use Rattle.model.proofs.Iso.Request.{answer, Arrives, serves, responds}
use Rattle.model.proofs.Iso.Data.{Ends, ends-all}

-- a reply that is neither silent nor sent whatever the addressing
abbrev Spoken : Reply → Type 0
Spoken silent = ⊥
Spoken (positive p) = Unit {0}
Spoken (negative code) = Unit {0}
Spoken (always code) = ⊥
Spoken pends = Unit {0}

-- a reply that is not sent whatever the addressing; a reply that says something
abbrev Ordinary : Reply → Type 0
Ordinary silent = Unit {0}
Ordinary (positive p) = Unit {0}
Ordinary (negative code) = Unit {0}
Ordinary (always code) = ⊥
Ordinary pends = Unit {0}

abbrev Heard : Reply → Type 0
Heard silent = ⊥
Heard (positive p) = Unit {0}
Heard (negative code) = Unit {0}
Heard (always code) = Unit {0}
Heard pends = Unit {0}

ordinary : (r : Reply) → Spoken r → Ordinary r
ordinary silent h = absurd h
ordinary (positive p) h = tt
ordinary (negative code) h = tt
ordinary (always code) h = h
ordinary pends h = tt

heard : (r : Reply) → Spoken r → Heard r
heard silent h = h
heard (positive p) h = tt
heard (negative code) h = tt
heard (always code) h = absurd h
heard pends h = tt

refusal-spoken : (code : ℕ) → Spoken (refusal code)
unfolding refusal
refusal-spoken code = either Spoken (eqb code 0x78) tt tt

-- a property of a served answer's reply, and of one of two
abbrev Of : (Reply → Type 0) → Served → Type 0
Of P a = P a.effect.reply

-- a property of an act's effect, whatever its outcome
by_outcome : (P : Reply → Type 0) (e : Outcome → Effect) → ((b : List ℕ) → P (e (bytes b)).reply) → ((code : ℕ) → P (e (error code)).reply) → (o : Outcome) → P (e o).reply
by_outcome P e f g (bytes b) = f b
by_outcome P e f g (error code) = g code

-- the services without a sub-function, 2A aside
module _ (v : Seen) where
  abbrev given : Outcome
  given = outcome v.limit v.given

  abbrev len : ℕ
  len = length v.payload

  spoken_22 : Of Spoken (service22 v)
  unfolding service22
  spoken_22 = either (Of Spoken) (leb 2 len && eqb (len % 2) 0) (go (read_all v v.payload []) (ends-all v v.payload [])) tt
    where
      told : (r : Reply) (code : ℕ) → response_of r ≡ some (Iso.negative_response code) → Spoken r
      told silent code e = let z : false ≡ true = cc in absurd (false≢true z)
      told (positive p) code e = tt
      told (negative c) code e = tt
      told (always c) code e = let z : false ≡ true = cc in absurd (false≢true z)
      told pends code e = tt

      go : (a : Reading) → Ends a → Spoken (read_reply a)
      go (going q) h = tt
      go (ended r) h = told r h.0 h.1

  spoken_2E : Of Spoken (service2E v)
  unfolding service2E write_row acted
  spoken_2E =
      let row = find_did v.config (word v.payload 0) in
      let acts = by_outcome Spoken (acted v (written v)) (λ b. tt) refusal-spoken given in
      either (Of Spoken) (leb 3 len) (either (Of Spoken) (writable v.session.session_type row) (either (Of Spoken) (held_for v.session.level row) acts tt) tt) tt

  spoken_2F : Of Spoken (service2F v)
  unfolding service2F acted
  spoken_2F = either (Of Spoken) (leb 3 len) (by_outcome Spoken (acted v (controlled v)) (λ b. tt) refusal-spoken given) tt

  spoken-passed : (o : Outcome) → Spoken (acted v positive o).reply
  unfolding acted
  spoken-passed o = by_outcome Spoken (acted v positive) (λ b. tt) refusal-spoken o

  spoken_34 : Of Spoken (service34 v)
  unfolding service34
  spoken_34 = either (Of Spoken) (leb 3 len && leb (2 + address_length v.payload + size_length v.payload) len) (spoken-passed (outcome max_download v.given)) tt

  spoken_36 : Of Spoken (service36 v)
  unfolding service36 acted
  spoken_36 = either (Of Spoken) (leb 1 len) (by_outcome Spoken (acted v (transferred v)) (λ b. tt) refusal-spoken given) tt

  spoken_37 : Of Spoken (service37 v)
  unfolding service37
  spoken_37 = spoken-passed given

  spoken_38 : Of Spoken (service38 v)
  unfolding service38
  spoken_38 = either (Of Spoken) (leb 3 len) (spoken-passed given) tt

  -- 2A, whose full table is told whatever the addressing
  heard_all : (mode : ℕ) (ids : List ℕ) (t : List Subscription) → Heard (register_all v mode ids t).reply
  heard_all mode [] t = tt
  heard_all mode (b ∷ ids) t =
      either (λ (e : Effect). Heard e.reply) (readable v.session.session_type (find_did v.config (periodic_did b)))
      (go (heard_all mode ids) (register (periodic_did b) v.src (interval_for v (rate_of mode) (periodic_did b)) v.now t)) tt
    where
      go : ((u : List Subscription) → Heard (register_all v mode ids u).reply) → (o : Option (List Subscription)) → Heard (registered v t o (register_all v mode ids)).reply
      go k none = tt
      go k (some u) = k u

  heard_2A : Of Heard (service2A v)
  unfolding service2A transmission
  heard_2A =
      let mode = get_or v.payload 0 0 in
      either (Of Heard) (ltb len 1) tt
      (either (Of Heard) (eqb mode 4) tt (either (Of Heard) (leb 1 mode && leb mode 3) (heard_all mode (drop 1 v.payload) v.periodic) tt))

  -- the services with a sub-function
  refusal_ordinary : (code : ℕ) → Ordinary (refusal code)
  refusal_ordinary code = ordinary (refusal code) (refusal-spoken code)

  quiet : (p : List ℕ) → Ordinary (pick (suppressed v.payload) silent (positive p))
  quiet p = either Ordinary (suppressed v.payload) tt tt

  ordinary_3E : Of Ordinary (service3E v)
  unfolding service3E
  ordinary_3E = quiet _

  ordinary_10 : Of Ordinary (service10 v)
  unfolding service10 session_control
  ordinary_10 = either (Of Ordinary) (ltb len 1) tt (go (find_session v.config (sub_function v.payload)))
    where
      go : (o : Option SessionConfig) → Of Ordinary (session_control v (sub_function v.payload) o)
      go none = tt
      go (some row) = quiet _

  ordinary_11 : Of Ordinary (service11 v)
  unfolding service11 reset
  ordinary_11 = either (Of Ordinary) (ltb len 1) tt (by_outcome Ordinary (reset v) (λ b. quiet _) refusal_ordinary given)

  ordinary_28 : Of Ordinary (service28 v)
  unfolding service28 acted
  ordinary_28 = either (Of Ordinary) (leb 2 len) (by_outcome Ordinary (acted v (communication v)) (λ b. quiet _) refusal_ordinary given) tt

  ordinary_31 : Of Ordinary (service31 v)
  unfolding service31 acted
  ordinary_31 = either (Of Ordinary) (leb 3 len) (by_outcome Ordinary (acted v (routine v)) (λ b. quiet _) refusal_ordinary given) tt

  ordinary_seed : (level : ℕ) → Of Ordinary (request_seed v level)
  unfolding request_seed seed_asked seed_given
  ordinary_seed level = either (Of Ordinary) (locked v.security level v.now) tt (go (find_level v.config level))
    where
      go : (o : Option SecurityLevelConfig) → Of Ordinary (seed_asked v level o)
      go none = tt
      go (some row) =
          by_outcome Ordinary (seed_given v level row)
          (λ b. either (λ (e : Effect). Ordinary e.reply) (eqb (length b) row.seed_length) (either (λ (e : Effect). Ordinary e.reply) (ltb (length b) max_seed) tt tt) tt)
          (λ c. tt) given

  ordinary_denied : (level : ℕ) (row : Option SecurityLevelConfig) (o : Option (List Failed)) → Ordinary (denied v level row o).reply
  unfolding denied locked_out
  ordinary_denied level row none = tt
  ordinary_denied level row (some f) =
      either (λ (e : Effect). Ordinary e.reply) (leb (max_attempts_of row) (failed_count level f)) (go (set_lockout level (v.now + lockout_of row) v.security.locks)) tt
    where
      go : (o : Option (List Lock)) → Ordinary (locked_out v f o).reply
      go none = tt
      go (some l) = tt

  ordinary_key : (level : ℕ) → Of Ordinary (send_key v level)
  unfolding send_key judged
  ordinary_key level =
      let row = find_level v.config level in
      let acts = by_outcome Ordinary (judged v level) (λ b. tt) (λ c. ordinary_denied level row (increment_failed level v.security.failed)) given in
      either (Of Ordinary) (locked v.security level v.now) tt
      (either (Of Ordinary) (awaits v.security level) (either (Of Ordinary) (key_fits (len - 1) row) acts tt) tt)

  ordinary_27 : Of Ordinary (service27 v)
  unfolding service27 security_access
  ordinary_27 =
      let access = sub_function v.payload in
      either (Of Ordinary) (ltb len 1) tt
      (either (Of Ordinary) (eqb access 0) tt (either (Of Ordinary) (eqb (access % 2) 1) (ordinary_seed access) (ordinary_key (access - 1))))

-- what says something is not silent, and what is ordinary has a response in the standard's words
speaks : (r : Reply) → Heard r → response_of r ≡ some Iso.no_response → ⊥
speaks silent h e = h
speaks (positive p) h e = let z : false ≡ true = cc in false≢true z
speaks (negative code) h e = let z : false ≡ true = cc in false≢true z
speaks (always code) h e = let z : false ≡ true = cc in false≢true z
speaks pends h e = let z : false ≡ true = cc in false≢true z

has : (r : Reply) → Ordinary r → (a : Iso.Response) × (response_of r ≡ some a)
has silent h = (Iso.no_response, refl)
has (positive p) h = (Iso.positive_response p, refl)
has (negative code) h = (Iso.negative_response code, refl)
has (always code) h = absurd h
has pends h = (Iso.negative_response 0x78, refl)

-- a service that is never silent; one that always has such a response
abbrev NeverSilent : (Seen → Served) → Type 0
NeverSilent f = (v : Seen) → answer (f v) ≡ some Iso.no_response → ⊥

abbrev Answers : (Seen → Served) → Type 0
Answers f = (v : Seen) → (a : Iso.Response) × (answer (f v) ≡ some a)

module _ (f : Seen → Served) where
  by_heard : ((v : Seen) → Of Heard (f v)) → NeverSilent f
  by_heard h v = speaks (f v).effect.reply (h v)

  by_spoken : ((v : Seen) → Of Spoken (f v)) → NeverSilent f
  by_spoken h v = speaks (f v).effect.reply (heard (f v).effect.reply (h v))

  with_bit : ((v : Seen) → Of Ordinary (f v)) → Answers f
  with_bit h v = has (f v).effect.reply (h v)

  without_bit : ((v : Seen) → Of Spoken (f v)) → Answers f
  without_bit h v = has (f v).effect.reply (ordinary (f v).effect.reply (h v))

-- a service without a sub-function is never silent
pub never_silent : Iso.Every (λ sid. NeverSilent (service sid)) Iso.without_sub_function
unfolding service
never_silent = (
  by_spoken service22 spoken_22,
  (
    by_heard service2A heard_2A,
    (
      by_spoken service2E spoken_2E,
      (
        by_spoken service2F spoken_2F,
        (
          by_spoken service34 spoken_34,
          (
            by_spoken service36 spoken_36,
            (
              by_spoken service37 spoken_37,
              (by_spoken service38 spoken_38, tt),
            ),
          ),
        ),
      ),
    ),
  ),
)

-- every service but readDataByPeriodicIdentifier has an answer in the standard's words, so that what it sends is what the standard sends for it
abbrev pub but_periodic : List ℕ
but_periodic =
    Iso.with_sub_function
    ++ (Iso.read_data_by_identifier ∷ Iso.write_data_by_identifier ∷ Iso.input_output_control_by_identifier ∷ Iso.request_download ∷ Iso.transfer_data ∷ Iso.request_transfer_exit ∷ Iso.request_file_transfer ∷ [])

pub thirteen_answer : Iso.Every (λ sid. Answers (service sid)) but_periodic
unfolding service
thirteen_answer = (
  with_bit service10 ordinary_10,
  (
    with_bit service11 ordinary_11,
    (
      with_bit service27 ordinary_27,
      (
        with_bit service28 ordinary_28,
        (
          with_bit service31 ordinary_31,
          (
            with_bit service3E ordinary_3E,
            (
              without_bit service22 spoken_22,
              (
                without_bit service2E spoken_2E,
                (
                  without_bit service2F spoken_2F,
                  (
                    without_bit service34 spoken_34,
                    (
                      without_bit service36 spoken_36,
                      (
                        without_bit service37 spoken_37,
                        (without_bit service38 spoken_38, tt),
                      ),
                    ),
                  ),
                ),
              ),
            ),
          ),
        ),
      ),
    ),
  ),
)

-- a request for a service, which its configuration allows in the session, and which finds room in the queue
pub record Allowed (sid limit : ℕ) (s : State) (r : Request) (m : AddressMode) : Type 0 where
  pub arrives : Arrives limit s r m
  pub named : sid_of r.inbound.frame ≡ sid
  pub row : ServiceConfig
  pub configured : find_service s.config sid ≡ some row
  pub allowed : allowed_in s.session.session_type row ≡ true
  pub room : length s.queue < max_outbox

-- its service has an answer in the standard's words, and what is sent, to the sender, is what the standard sends for that answer
pub record Responds (sid limit : ℕ) (s : State) (r : Request) (m : AddressMode) : Type 0 where
  pub response : Iso.Response
  pub answered : answer (service sid (seen limit (received s m r.inbound.time) r)) ≡ some response
  pub sent : (request limit s r).step.state.queue ≡ s.queue ++ to r.inbound.src (Iso.messages (functionally m) limit sid response)

pub thirteen_respond : Iso.Every (λ sid. (limit : ℕ) (s : State) (r : Request) (m : AddressMode) → Allowed sid limit s r m → Responds sid limit s r m) but_periodic
thirteen_respond = every_map one but_periodic (every_both Iso.RequestIdentifier (λ sid. Answers (service sid)) but_periodic (omega arith) thirteen_answer)
  where
    one : (sid : ℕ) → Iso.RequestIdentifier sid × Answers (service sid) → (limit : ℕ) (s : State) (r : Request) (m : AddressMode) → Allowed sid limit s r m → Responds sid limit s r m
    one sid h limit s r m c = record { response = a.0; answered = a.1; sent = rw c.named at (responds limit s r m c.arrives c.room request-identifier a.0 found) }
      where
        a : (x : Iso.Response) × (answer (service sid (seen limit (received s m r.inbound.time) r)) ≡ some x)
        a = h.1 (seen limit (received s m r.inbound.time) r)

        request-identifier : Iso.RequestIdentifier (sid_of r.inbound.frame)
        request-identifier = rw c.named h.0

        found : answer (served limit (received s m r.inbound.time) r) ≡ some a.0
        found = ap answer (serves limit s r m c.arrives c.row (rw c.named c.configured) c.allowed) ∙ rw c.named a.1
