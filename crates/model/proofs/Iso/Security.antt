-- securityAccess against ISO 14229-1: odd access types ask a seed, the next even one sends its key, and each code in its situation.
use Prim.Native.Nat.{ℕ, suc, ◌+◌, ◌-◌, ◌%◌, ◌≤◌, ◌<◌}
use mathlib.Core.Path.{◌≡◌, refl}
use mathlib.Core.Bool.{true, false}
use mathlib.Core.List.{List, [], ◌∷◌}
use mathlib.Core.Option.{some, none}
use native.Mathlib.Omega.{arith}
use lib.ListN.{length}
use borrow.Author.Tests.{lt-ltb, le-ltb, le-leb, lt-leb, eq-eqb, ne_eqb}
use Rattle.model.specs.Iso
use Rattle.model.specs.Numbers.{Moment, max_seed, max_levels}
use Rattle.model.specs.Config.{SecurityLevelConfig, find_level, max_attempts_of, lockout_of}
use Rattle.model.specs.Values.{bytes, error, outcome}
use Rattle.model.specs.State.{Failed, Lock, Security}
use Rattle.model.specs.Service.{Seen, Act, Part, part}
use Rattle.model.specs.Service27.{is_lock, relock, locked, awaits, key_fits, failed_count, increment_failed, set_lockout, seed_given, seed_asked, request_seed, locked_out, denied, judged, send_key, security_access, service27}
use Rattle.model.proofs.Iso.Enter.{entered}
use Rattle.model.proofs.Iso.Request.{Refuses, answer}

-- the act of securityAccess, asked with parts of the frame
abbrev pub asked : List Part → Act
asked parts = record { number = Iso.security_access; arguments = parts }

-- a level that was locked until a moment is locked before it
pub delay_runs : (level : ℕ) (until now : Moment) (k : Security) (l : List Lock) → set_lockout level until l ≡ some k.locks → now < until → locked k level now ≡ true
delay_runs level until now k l e h =
    let f = entered (is_lock level) (λ (x : Lock). x.until ≡ until) (relock until) (λ a g. g) (λ a g. refl) (record { level = level; until = until }) (eq-eqb level level refl) refl max_levels l k.locks e in
    rw (f.first, f.has) (lt-ltb now until h)

module _ (v : Seen) (b : ℕ) (rest : List ℕ) (p : v.payload ≡ b ∷ rest) where
  -- access type 0 is reserved: subFunctionNotSupported
  pub reserved : Iso.sub_function_value b ≡ 0 → Refuses (service27 v) Iso.sub_function_not_supported
  unfolding service27 security_access
  reserved e = rw (p, le-ltb (suc (length rest)) 1 (omega arith), e)

  -- an odd access type asks a seed
  module _ (odd : Iso.requests_seed (Iso.sub_function_value b)) where
    seeks : service27 v ≡ request_seed v (b % 128)
    unfolding service27 security_access
    seeks = let n : b % 128 ≡ 0 → ⊥ = omega arith in rw (p, le-ltb (suc (length rest)) 1 (omega arith), ne_eqb _ _ n, odd)

    -- while its delay runs: requiredTimeDelayNotExpired
    pub seed_delayed : locked v.security (Iso.sub_function_value b) v.now ≡ true → Refuses (service27 v) Iso.required_time_delay_not_expired
    unfolding request_seed
    seed_delayed l = rw (seeks, l)

    module _ (free : locked v.security (Iso.sub_function_value b) v.now ≡ false) where
      -- an access type that has no row: subFunctionNotSupported
      pub seed_unknown : find_level v.config (Iso.sub_function_value b) ≡ none → Refuses (service27 v) Iso.sub_function_not_supported
      unfolding request_seed seed_asked
      seed_unknown e = rw (seeks, free, e)

      module _ (row : SecurityLevelConfig) (known : find_level v.config (Iso.sub_function_value b) ≡ some row) where
        -- the act is asked with the access type alone
        pub seed-asked : (service27 v).act ≡ asked (part 1 1 ∷ [])
        unfolding request_seed seed_asked
        seed-asked = rw (seeks, free, known)

        -- a seed of its length, below 32, is the response, and waits for the key of this access type
        pub seed-given : (seed : List ℕ) → outcome v.limit v.given ≡ bytes seed → length seed ≡ row.seed_length → length seed < max_seed
            → (answer (service27 v) ≡ some (Iso.positive_response (Iso.seed_fields (Iso.sub_function_value b) seed)))
            × ((service27 v).effect.security.seed ≡ seed) × ((service27 v).effect.security.seed_level ≡ Iso.sub_function_value b)
        unfolding request_seed seed_asked seed_given
        seed-given seed o e f = rw (seeks, free, known, o, eq-eqb _ _ e, lt-ltb _ _ f) (refl, refl, refl)

        -- where none can be had: conditionsNotCorrect
        pub seed-refused : (code : ℕ) → outcome v.limit v.given ≡ error code → Refuses (service27 v) Iso.conditions_not_correct
        unfolding request_seed seed_asked seed_given
        seed-refused code o = rw (seeks, free, known, o)

  -- the even access type after an odd one sends its key
  module _ (level : ℕ) (odd : Iso.requests_seed level) (even : Iso.sub_function_value b ≡ Iso.key_type_of level) where
    sends : service27 v ≡ send_key v level
    unfolding service27 security_access
    sends =
        let z : level + 1 ≡ 0 → ⊥ = omega arith in
        let n : (level + 1) % 2 ≡ 1 → ⊥ = omega arith in
        let m : level + 1 - 1 ≡ level = omega arith in
        rw (p, le-ltb (suc (length rest)) 1 (omega arith), even, ne_eqb _ _ z, ne_eqb _ _ n, m)

    -- while the delay runs: requiredTimeDelayNotExpired
    pub key_delayed : locked v.security level v.now ≡ true → Refuses (service27 v) Iso.required_time_delay_not_expired
    unfolding send_key
    key_delayed l = rw (sends, l)

    module _ (free : locked v.security level v.now ≡ false) where
      -- without its seed: requestSequenceError
      pub key_before_seed : awaits v.security level ≡ false → Refuses (service27 v) Iso.request_sequence_error
      unfolding send_key
      key_before_seed e = rw (sends, free, e)

      module _ (waiting : awaits v.security level ≡ true) where
        -- of another length than its level's: incorrectMessageLengthOrInvalidFormat
        pub key-length : key_fits (length v.payload - 1) (find_level v.config level) ≡ false → Refuses (service27 v) Iso.incorrect_message_length_or_invalid_format
        unfolding send_key
        key-length e = rw (sends, free, waiting, e)

        module _ (fits : key_fits (length v.payload - 1) (find_level v.config level) ≡ true) where
          -- the act is asked with the access type and the key
          pub key-asked : (service27 v).act ≡ asked (part 1 1 ∷ part 2 (length v.payload - 1) ∷ [])
          unfolding send_key
          key-asked = rw (sends, free, waiting, fits)

          -- a key that is accepted: the access type, its level held, and no seed waiting
          pub key-accepted : (x : List ℕ) → outcome v.limit v.given ≡ bytes x
              → (answer (service27 v) ≡ some (Iso.positive_response (Iso.key_fields (Iso.sub_function_value b))))
              × ((service27 v).effect.session.level ≡ level) × ((service27 v).effect.security.seed ≡ [])
          unfolding send_key judged
          key-accepted x o = rw (even, sends, free, waiting, fits, o) (refl, refl, refl)

          module _ (code : ℕ) (o : outcome v.limit v.given ≡ error code) (f : List Failed) (room : increment_failed level v.security.failed ≡ some f) where
            -- one that is refused: invalidKey
            pub key_invalid : failed_count level f < max_attempts_of (find_level v.config level) → Refuses (service27 v) Iso.invalid_key
            unfolding send_key judged denied
            key_invalid h = rw (sends, free, waiting, fits, o, room, lt-leb _ _ h)

            -- and once too often: exceededNumberOfAttempts, and the delay runs from now
            pub key_exceeded : (l : List Lock) → max_attempts_of (find_level v.config level) ≤ failed_count level f
                → set_lockout level (v.now + lockout_of (find_level v.config level)) v.security.locks ≡ some l
                → (Refuses (service27 v) Iso.exceeded_number_of_attempts) × ((service27 v).effect.security.locks ≡ l)
            unfolding send_key judged denied locked_out
            key_exceeded l h e = rw (sends, free, waiting, fits, o, room, le-leb _ _ h, e) (refl, refl)
