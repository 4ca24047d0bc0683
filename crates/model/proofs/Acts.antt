-- A question says what the request would: no act depends on an outcome or on the value table, and neither do the refusals 10, 6 and 2.
use Prim.Native.Nat.{ℕ, ◌+◌, ◌-◌, ◌%◌}
use mathlib.Core.Path.{◌≡◌, refl, sym, ◌∙◌}
use mathlib.Core.Bool.{◌&&◌}
use mathlib.Core.List.{[], ◌∷◌}
use mathlib.Core.Option.{Option, some, none}
use lib.ListN.{length, get_or}
use lib.Dec.{leb, ltb, eqb}
use Rattle.model.specs.Tests.{pick, memb}
use Rattle.model.specs.Numbers.{max_time}
use Rattle.model.specs.Config.{ServiceConfig, SessionConfig, SecurityLevelConfig, find_session, find_service, find_did, find_level, writable, allowed_in}
use Rattle.model.specs.Values.{Given, Table}
use Rattle.model.specs.Frame.{sid_of, sub_function, word}
use Rattle.model.specs.State.{AddressMode, PendingRequest, State, valid, received}
use Rattle.model.specs.Service.{Seen, Served}
use Rattle.model.specs.Service3E.{service3E}
use Rattle.model.specs.Service10.{service10, session_control}
use Rattle.model.specs.Service11.{service11}
use Rattle.model.specs.Service27.{service27, security_access, request_seed, seed_asked, send_key, locked, awaits, key_fits}
use Rattle.model.specs.Service22.{service22, held_for}
use Rattle.model.specs.Service2E.{service2E, write_row}
use Rattle.model.specs.Service2A.{service2A, transmission}
use Rattle.model.specs.Service31.{service31}
use Rattle.model.specs.Service28.{service28}
use Rattle.model.specs.Service2F.{service2F}
use Rattle.model.specs.Service34.{service34, address_length, size_length}
use Rattle.model.specs.Service36.{service36}
use Rattle.model.specs.Service37.{service37}
use Rattle.model.specs.Service38.{service38}
use Rattle.model.specs.Request.{Inbound, Answer, service, guarded, seen, served, carried, length_fits, heard, addressed, routed, request}
use Rattle.model.specs.Question.{bare, asked_of, question}
use Rattle.model.proofs.Blind.{sighted}
use Rattle.model.proofs.Laws.{alike, memb-each}
use Rattle.model.proofs.Leaves.Replies.{apply_gives}

-- two answers that ask the same act: of a service, and of a request
abbrev pub SameAct : Served → Served → Type 0
SameAct a b = a.act ≡ b.act

abbrev pub SameAnswer : Answer → Answer → Type 0
SameAnswer a b = a.act ≡ b.act

-- what a service sees, with another outcome and value table
abbrev pub handed : Seen → Given → Table → Seen
handed v g t = sighted v v.payload g t

module _ (v : Seen) (g : Given) (t : Table) where
  -- the same request with the other outcome and table
  abbrev pub w : Seen
  w = handed v g t

  -- the services that ask no act
  act3E : SameAct (service3E w) (service3E v)
  unfolding service3E
  act3E = refl

  act10 : SameAct (service10 w) (service10 v)
  unfolding service10 session_control
  act10 = alike SameAct (ltb (length v.payload) 1) refl (row (find_session v.config (sub_function v.payload)))
    where
      row : (o : Option SessionConfig) → SameAct (session_control w (sub_function v.payload) o) (session_control v (sub_function v.payload) o)
      row none = refl
      row (some r) = refl

  act22 : SameAct (service22 w) (service22 v)
  unfolding service22
  act22 = alike SameAct (leb 2 (length v.payload) && eqb (length v.payload % 2) 0) refl refl

  act2A : SameAct (service2A w) (service2A v)
  unfolding service2A transmission
  act2A =
      alike SameAct (ltb (length v.payload) 1) refl
      (alike SameAct (eqb (get_or v.payload 0 0) 4) refl (alike SameAct (leb 1 (get_or v.payload 0 0) && leb (get_or v.payload 0 0) 3) refl refl))

  -- the services that ask one where the payload is long enough
  act11 : SameAct (service11 w) (service11 v)
  unfolding service11
  act11 = alike SameAct (ltb (length v.payload) 1) refl refl

  act31 : SameAct (service31 w) (service31 v)
  unfolding service31
  act31 = alike SameAct (leb 3 (length v.payload)) refl refl

  act28 : SameAct (service28 w) (service28 v)
  unfolding service28
  act28 = alike SameAct (leb 2 (length v.payload)) refl refl

  act2F : SameAct (service2F w) (service2F v)
  unfolding service2F
  act2F = alike SameAct (leb 3 (length v.payload)) refl refl

  act34 : SameAct (service34 w) (service34 v)
  unfolding service34
  act34 = alike SameAct (leb 3 (length v.payload) && leb (2 + address_length v.payload + size_length v.payload) (length v.payload)) refl refl

  act36 : SameAct (service36 w) (service36 v)
  unfolding service36
  act36 = alike SameAct (leb 1 (length v.payload)) refl refl

  act37 : SameAct (service37 w) (service37 v)
  unfolding service37
  act37 = refl

  act38 : SameAct (service38 w) (service38 v)
  unfolding service38
  act38 = alike SameAct (leb 3 (length v.payload)) refl refl

  -- and those that test more first
  act2E : SameAct (service2E w) (service2E v)
  unfolding service2E write_row
  act2E =
      alike SameAct (leb 3 (length v.payload))
      (alike SameAct (writable v.session.session_type (find_did v.config (word v.payload 0)))
      (alike SameAct (held_for v.session.level (find_did v.config (word v.payload 0))) refl refl) refl)
      refl

  -- 27: a seed asked
  act-seed : (level : ℕ) → SameAct (request_seed w level) (request_seed v level)
  unfolding request_seed seed_asked
  act-seed level = alike SameAct (locked v.security level v.now) refl (row (find_level v.config level))
    where
      row : (o : Option SecurityLevelConfig) → SameAct (seed_asked w level o) (seed_asked v level o)
      row none = refl
      row (some r) = refl

  -- 27: a key sent
  act-key : (level : ℕ) → SameAct (send_key w level) (send_key v level)
  unfolding send_key
  act-key level =
      alike SameAct (locked v.security level v.now) refl
      (alike SameAct (awaits v.security level) (alike SameAct (key_fits (length v.payload - 1) (find_level v.config level)) refl refl) refl)

  -- 27 by its access type
  act27 : SameAct (service27 w) (service27 v)
  unfolding service27 security_access
  act27 =
      alike SameAct (ltb (length v.payload) 1) refl
      (alike SameAct (eqb (sub_function v.payload) 0) refl
      (alike SameAct (eqb (sub_function v.payload % 2) 1) (act-seed (sub_function v.payload)) (act-key (sub_function v.payload - 1))))

  -- any of the fourteen, or none of them
  act-service : (sid : ℕ) → SameAct (service sid w) (service sid v)
  unfolding service
  act-service sid =
      alike SameAct (eqb sid 0x3E) act3E
      (alike SameAct (eqb sid 0x10) act10
      (alike SameAct (eqb sid 0x11) act11
      (alike SameAct (eqb sid 0x27) act27
      (alike SameAct (eqb sid 0x22) act22
      (alike SameAct (eqb sid 0x2E) act2E
      (alike SameAct (eqb sid 0x2A) act2A
      (alike SameAct (eqb sid 0x31) act31
      (alike SameAct (eqb sid 0x28) act28
      (alike SameAct (eqb sid 0x2F) act2F
      (alike SameAct (eqb sid 0x34) act34
      (alike SameAct (eqb sid 0x36) act36
      (alike SameAct (eqb sid 0x37) act37
      (alike SameAct (eqb sid 0x38) act38 refl)))))))))))))

  -- what a frame's service asks
  pub act-guarded : (sid : ℕ) (row : Option ServiceConfig) → SameAct (guarded sid w row) (guarded sid v row)
  unfolding guarded
  act-guarded sid none = refl
  act-guarded sid (some r) = alike SameAct (allowed_in v.session.session_type r) (act-service sid) refl

-- a request's result as a question gives it: 10, 6 and 2 are told, and all else is 0
abbrev pub told : ℕ → ℕ
told n = pick (memb n (10 ∷ 6 ∷ 2 ∷ [])) n 0

-- two answers of which a question would tell the same
abbrev pub SameTold : Answer → Answer → Type 0
SameTold a b = told a.step.result ≡ told b.step.result

-- what a service's reply meets is not told
carried-told : (limit : ℕ) (s : State) (i : Inbound) (a : Served) → told (carried limit s i a).step.result ≡ 0
carried-told limit s i a =
    memb-each (λ n. told n ≡ 0) (carried limit s i a).step.result (0 ∷ 3 ∷ []) (refl, (refl, tt)) (apply_gives limit s i.src (sid_of i.frame) i.time a.effect)

module _ (limit : ℕ) (i : Inbound) (g : Given) (t : Table) where
  -- a request that is heard, and one that is routed
  act-heard : (s : State) (o : Option PendingRequest) → (heard limit s (record { inbound = i; given = g; table = t }) o).act ≡ (heard limit s (bare i) o).act
  unfolding heard
  act-heard s (some p) = refl
  act-heard s none = alike SameAnswer (length_fits i.frame) (act-guarded (seen limit s (bare i)) g t (sid_of i.frame) (find_service s.config (sid_of i.frame))) refl

  act-routed : (s : State) (o : Option AddressMode) → (routed limit s (record { inbound = i; given = g; table = t }) o).act ≡ (routed limit s (bare i) o).act
  unfolding routed
  act-routed s none = refl
  act-routed s (some m) = act-heard (received s m i.time) s.pending

  -- whatever outcome and value table come with a request, it asks the act that the question says
  pub question-act : (s : State) → (request limit s (record { inbound = i; given = g; table = t })).act ≡ (question limit s i).act
  unfolding request question asked_of
  question-act s = alike SameAnswer (valid limit s) (alike SameAnswer (leb i.time max_time) (act-routed s (addressed s.config i.dst)) refl) refl

  -- so with what is told of a request that is heard, and of one that is routed
  told-heard : (s : State) (o : Option PendingRequest) → SameTold (heard limit s (bare i) o) (heard limit s (record { inbound = i; given = g; table = t }) o)
  unfolding heard
  told-heard s (some p) = refl
  told-heard s none =
      alike SameTold (length_fits i.frame)
      (carried-told limit s i (served limit s (bare i)) ∙ sym (carried-told limit s i (served limit s (record { inbound = i; given = g; table = t })))) refl

  told-routed : (s : State) (o : Option AddressMode) → SameTold (routed limit s (bare i) o) (routed limit s (record { inbound = i; given = g; table = t }) o)
  unfolding routed
  told-routed s none = refl
  told-routed s (some m) = told-heard (received s m i.time) s.pending

  -- a question is refused by 10, 6 or 2 where the request would be, whatever comes with it; else its result is 0
  pub question-result : (s : State) → (question limit s i).result ≡ told (request limit s (record { inbound = i; given = g; table = t })).step.result
  unfolding request question asked_of
  question-result s = alike SameTold (valid limit s) (alike SameTold (leb i.time max_time) (told-routed s (addressed s.config i.dst)) refl) refl
