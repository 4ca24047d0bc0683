-- Service 27 asks its act, for a seed as for a key, only where the level is not locked.
use Prim.Native.Nat.{ℕ, ◌-◌, ◌%◌}
use mathlib.Core.Path.{◌≡◌, sym, ◌∙◌}
use mathlib.Core.Bool.{false}
use mathlib.Core.Logic.{◌⊎◌, inl, inr}
use mathlib.Core.Option.{Option, some, none}
use native.Mathlib.Omega.{arith}
use lib.ListN.{length}
use lib.Dec.{eqb, leb, ltb}
use Rattle.model.specs.Tests.{pick}
use Rattle.model.specs.Numbers.{max_time}
use Rattle.model.specs.Config.{ServiceConfig, find_service, allowed_in}
use Rattle.model.specs.Frame.{sid_of, payload_of, sub_function}
use Rattle.model.specs.State.{AddressMode, PendingRequest, State, valid, received}
use Rattle.model.specs.Service.{Seen, Served}
use Rattle.model.specs.Service27.{locked, request_seed, send_key, security_access, service27}
use Rattle.model.specs.Request.{Request, Answer, seen, service, guarded, length_fits, heard, addressed, routed, request}
use Rattle.model.proofs.Laws.{either, either_by}
use Rattle.model.proofs.Places.{request-placed}

-- the level of an access type: an odd one is its own, an even one that of the odd one before
abbrev pub access_level : ℕ → ℕ
access_level access = pick (eqb (access % 2) 1) access (access - 1)

module _ (v : Seen) where
  -- if the act of 27 is asked, the level is not locked
  abbrev Unlocked : ℕ → Served → Type 0
  Unlocked level a = a.act.number ≡ 0x27 → locked v.security level v.now ≡ false

  -- a seed, and a key
  seed-unlocked : (level : ℕ) → Unlocked level (request_seed v level)
  unfolding request_seed
  seed-unlocked level = either_by (Unlocked level) (locked v.security level v.now) (λ t z. absurd (omega arith)) (λ t z. t)

  key-unlocked : (level : ℕ) → Unlocked level (send_key v level)
  unfolding send_key
  key-unlocked level = either_by (Unlocked level) (locked v.security level v.now) (λ t z. absurd (omega arith)) (λ t z. t)

  -- by its access type
  service-unlocked : Unlocked (access_level (sub_function v.payload)) (service27 v)
  unfolding service27 security_access
  service-unlocked =
      let x = sub_function v.payload in
      let P = Unlocked (access_level x) in
      either P (ltb (length v.payload) 1) (λ z. absurd (omega arith))
      (either P (eqb x 0) (λ z. absurd (omega arith))
      (either_by P (eqb (x % 2) 1) (λ t. rw t (seed-unlocked x)) (λ t. rw t (key-unlocked (x - 1)))))

  -- also behind the tests of its row
  guarded-unlocked : (sid : ℕ) (o : Option ServiceConfig) → sid ≡ 0x27 → Unlocked (access_level (sub_function v.payload)) (guarded sid v o)
  unfolding guarded service
  guarded-unlocked sid none e = λ z. absurd (omega arith)
  guarded-unlocked sid (some row) e = rw e (either (Unlocked (access_level (sub_function v.payload))) (allowed_in v.session.session_type row) service-unlocked (λ z. absurd (omega arith)))

module _ (limit : ℕ) (s : State) (r : Request) where
  -- the level that is asked for is not locked
  abbrev pub NotLocked : Type 0
  NotLocked = locked s.security (access_level (sub_function (payload_of r.inbound.frame))) r.inbound.time ≡ false

  abbrev Free : Answer → Type 0
  Free a = a.act.number ≡ 0x27 → NotLocked

  -- a request that is heard
  heard-unlocked : (m : AddressMode) (o : Option PendingRequest) → sid_of r.inbound.frame ≡ 0x27 → Free (heard limit (received s m r.inbound.time) r o)
  unfolding heard
  heard-unlocked m (some p) e = λ z. absurd (omega arith)
  heard-unlocked m none e =
      let u = received s m r.inbound.time in
      either Free (length_fits r.inbound.frame)
      (guarded-unlocked (seen limit u r) (sid_of r.inbound.frame) (find_service s.config (sid_of r.inbound.frame)) e) (λ z. absurd (omega arith))

  -- a request whose act is that of 27 finds its level not locked (`BothSides` has one of each: until 900, asked at 899 and at 900)
  pub asked-unlocked : (request limit s r).act.number ≡ 0x27 → locked s.security (access_level (sub_function (payload_of r.inbound.frame))) r.inbound.time ≡ false
  unfolding request routed
  asked-unlocked z = go (request-placed limit r s).number
    where
      mode : (o : Option AddressMode) → sid_of r.inbound.frame ≡ 0x27 → Free (routed limit s r o)
      mode none e = λ z. absurd (omega arith)
      mode (some m) e = heard-unlocked m s.pending e

      go : ((request limit s r).act.number ≡ 0) ⊎ ((request limit s r).act.number ≡ sid_of r.inbound.frame) → NotLocked
      go (inl e) = absurd (omega arith)
      go (inr e) =
          either Free (valid limit s)
          (either Free (leb r.inbound.time max_time) (mode (addressed s.config r.inbound.dst) (sym e ∙ z)) (λ z. absurd (omega arith)))
          (λ z. absurd (omega arith)) z
