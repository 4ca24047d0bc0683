-- The services with a sub-function, against ISO 14229-1 (27 is in `Iso/Security`, the session's end by S3 in `Iso/Time`).
use Prim.Native.Nat.{ℕ, suc, ◌/◌, ◌%◌, ◌≤◌, ◌<◌}
use mathlib.Core.Path.{◌≡◌, refl, ap, ap₂}
use mathlib.Core.Bool.{Bool}
use mathlib.Core.List.{List, [], ◌∷◌, ◌++◌}
use mathlib.Core.Option.{some, none}
use native.Mathlib.Omega.{arith}
use native.Mathlib.Nat.{mod-eq_of_lt}
use lib.ListN.{length}
use borrow.Author.Tests.{le-ltb, le-leb}
use Rattle.model.specs.Iso
use Rattle.model.specs.Config.{SessionConfig, find_session}
use Rattle.model.specs.Values.{Outcome, bytes, error, outcome}
use Rattle.model.specs.Service.{Seen}
use Rattle.model.specs.Service10.{timings, session_control, service10}
use Rattle.model.specs.Service11.{reset, service11}
use Rattle.model.specs.Service28.{communication, service28}
use Rattle.model.specs.Service31.{routine, service31}
use Rattle.model.specs.Service3E.{service3E}
use Rattle.model.proofs.Iso.Frames.{response_of, suppress_bit, suppressing, refusal_code, two_bytes_lem}
use Rattle.model.proofs.Iso.Request.{Refuses, answer, decided, by_act}

-- the session parameter record: P2 in ms and P2* in 10 ms, each as its low 16 bits
pub session_fields_lem : (x : ℕ) (row : SessionConfig) → timings x (some row) ≡ Iso.session_fields x (row.p2 % 65536) (row.p2_ext / 10 % 65536)
session_fields_lem x row = ap₂ (λ (a b : List ℕ). x ∷ (a ++ b)) (two_bytes_lem row.p2) (two_bytes_lem (row.p2_ext / 10))

-- and whole where they have no more
pub session_fields_fit : (x : ℕ) (row : SessionConfig) → row.p2 < 65536 → row.p2_ext / 10 < 65536 → timings x (some row) ≡ Iso.session_fields x row.p2 (row.p2_ext / 10)
session_fields_fit x row h k = rw (mod-eq_of_lt h, mod-eq_of_lt k) at (session_fields_lem x row)

module _ (v : Seen) (sub : ℕ) (rest : List ℕ) (p : v.payload ≡ sub ∷ rest) (byte : sub < 256) where
  abbrev Bit : Bool
  Bit = Iso.suppress_pos_rsp_msg_indication_bit sub

  -- testerPresent: the value echoed, unless suppressed
  pub tester_present_lem : answer (service3E v) ≡ some (Iso.unless_suppressed sub (Iso.value_fields (Iso.sub_function_value sub)))
  unfolding service3E
  tester_present_lem = rw (p, suppress_bit sub byte) (suppressing Bit (sub % 128 ∷ []))

  -- diagnosticSessionControl of a session that is not known is subFunctionNotSupported
  pub session_unknown : find_session v.config (Iso.sub_function_value sub) ≡ none → Refuses (service10 v) Iso.sub_function_not_supported
  unfolding service10 session_control
  session_unknown e = rw (p, le-ltb (suc (length rest)) 1 (omega arith), e)

  module _ (row : SessionConfig) (known : find_session v.config (Iso.sub_function_value sub) ≡ some row) where
    -- of one that is, it is answered with the session and its two times, unless suppressed
    pub session_control_lem : answer (service10 v) ≡ some (Iso.unless_suppressed sub (Iso.session_fields (Iso.sub_function_value sub) (row.p2 % 65536) (row.p2_ext / 10 % 65536)))
    unfolding service10 session_control
    session_control_lem = rw (← session_fields_lem (sub % 128) row, p, le-ltb (suc (length rest)) 1 (omega arith), known, suppress_bit sub byte) (suppressing Bit (timings (sub % 128) (some row)))

    -- and the session is the one asked for, with security locked and no seed waiting
    pub session-opened : ((service10 v).effect.session.session_type ≡ Iso.sub_function_value sub) × ((service10 v).effect.session.level ≡ Iso.locked_level)
        × ((service10 v).effect.security.seed ≡ [])
    unfolding service10 session_control
    session-opened = rw (p, le-ltb (suc (length rest)) 1 (omega arith), known) (refl, refl, refl)

  -- what these answer if the act allows it: the sub-function's value, unless suppressed
  abbrev Echo : List ℕ → Iso.Response
  Echo b = Iso.unless_suppressed sub (Iso.value_fields (Iso.sub_function_value sub))

  -- ecuReset: the act's code, suppressed or not; or the type echoed, unless suppressed
  pub ecu_reset_lem : answer (service11 v) ≡ some (decided Echo (outcome v.limit v.given))
  unfolding service11 reset
  ecu_reset_lem = rw (le-ltb (length v.payload) 1 (omega (arith, ap length p))) (go (outcome v.limit v.given))
    where
      go : (o : Outcome) → response_of (reset v o).reply ≡ some (decided Echo o)
      go (bytes b) = rw (p, suppress_bit sub byte) (suppressing Bit (sub % 128 ∷ []))
      go (error code) = refusal_code code

  -- and once it is allowed, the session is the default one, locked
  pub reset-session : (b : List ℕ) → outcome v.limit v.given ≡ bytes b
      → ((service11 v).effect.session.session_type ≡ Iso.default_session) × ((service11 v).effect.session.level ≡ Iso.locked_level)
  unfolding service11 reset
  reset-session b o = rw (o, p, le-ltb (suc (length rest)) 1 (omega arith)) (refl, refl)

  -- communicationControl: the same with the control type
  pub communication_control_lem : 2 ≤ length v.payload → answer (service28 v) ≡ some (decided Echo (outcome v.limit v.given))
  unfolding service28
  communication_control_lem h =
      rw (le-leb 2 (length v.payload) h)
      (by_act v (communication v) Echo (λ b. rw (p, suppress_bit sub byte) (suppressing Bit (sub % 128 ∷ []))) (outcome v.limit v.given))

  -- routineControl: the value, the routine's identifier and the act's bytes, unless suppressed
  module _ (h l : ℕ) (more : List ℕ) (e : rest ≡ h ∷ l ∷ more) where
    abbrev Routine : List ℕ → Iso.Response
    Routine b = Iso.unless_suppressed sub (Iso.routine_fields (Iso.sub_function_value sub) h l b)

    pub routine_control_lem : answer (service31 v) ≡ some (decided Routine (outcome v.limit v.given))
    unfolding service31
    routine_control_lem =
        rw (le-leb 3 (length v.payload) (omega (arith, ap length p, ap length e)))
        (by_act v (routine v) Routine (λ b. rw (p, e, suppress_bit sub byte) (suppressing Bit (sub % 128 ∷ h ∷ l ∷ b))) (outcome v.limit v.given))
