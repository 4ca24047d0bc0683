-- What only one service changes outlives a change of session, a reset, the end of S3 and every other call: the counts of refused keys and the locks,
-- which only 27 changes; who is sent what, and how often, which only 2A changes.
use Prim.Native.Nat.{ℕ}
use mathlib.Core.Path.{◌≡◌, refl, ◌∙◌}
use mathlib.Core.Logic.{◌⊎◌, inl, inr}
use mathlib.Core.List.{List, [], ◌∷◌, map}
use Rattle.model.specs.Numbers.{Moment, Span, max_frame}
use Rattle.model.specs.Config.{Config}
use Rattle.model.specs.Values.{empty_table}
use Rattle.model.specs.State.{Security, Subscription, State, fresh_state}
use Rattle.model.specs.Service.{Seen, Served}
use Rattle.model.specs.Service27.{service27}
use Rattle.model.specs.Service2A.{service2A}
use Rattle.model.specs.History.{Call, requests, ticks, call, run}
use Rattle.model.specs.Fixed.{fixed_config}
use Rattle.model.specs.Alike.{inbound, asking}
use Rattle.model.proofs.Open.{whole}
use Rattle.model.proofs.EveryCall.{Advances, empty, stands, sent, Names, AllName, Parts, keeps_call, keeps_run}
use Rattle.model.proofs.Untouched.{SameCounts, Left}

-- a service other than 27
abbrev pub NotKeys : ℕ → Type 0
NotKeys sid = sid ≡ 0x27 → ⊥

-- the counts and locks are those of k
abbrev Counted : Security → Config → Security → List Subscription → Type 0
Counted k c l t = SameCounts k l

counted_parts : (k : Security) → Parts (Counted k) NotKeys
counted_parts k = record { clears = λ c l t h. record { failed = h.failed; locks = h.locks }; advances = λ c l t u now a h. h; serves = serves }
  where
    serves : (v : Seen) (sid : ℕ) (a : Served) → Left v sid a → NotKeys sid → SameCounts k v.security → SameCounts k a.effect.security
    serves v sid a l n h = go l.counts
      where
        go : SameCounts v.security a.effect.security ⊎ ((sid ≡ 0x27) × (a ≡ service27 v)) → SameCounts k a.effect.security
        go (inl e) = record { failed = e.failed ∙ h.failed; locks = e.locks ∙ h.locks }
        go (inr e) = absurd (n e.0)

-- a call that is no request of service 27 leaves the counts and locks
pub counts_stay : (limit : ℕ) (s : State) (c : Call) → Names NotKeys c → SameCounts s.security (call limit s c).state.security
counts_stay limit s c n = keeps_call (Counted s.security) NotKeys (counted_parts s.security) limit s c n (record { failed = refl; locks = refl })

-- and so does a history of such calls
pub counts_outlive : (limit : ℕ) (s : State) (h : List Call) → AllName NotKeys h → SameCounts s.security (run limit s h).security
counts_outlive limit s h n = keeps_run (Counted s.security) NotKeys (counted_parts s.security) limit h s n (record { failed = refl; locks = refl })

-- what a subscription says but for its next moment
pub record Terms : Type 0 where
  pub identifier : ℕ
  pub client : ℕ
  pub interval : Span

abbrev pub terms_of : Subscription → Terms
terms_of e = record { identifier = e.identifier; client = e.client; interval = e.interval }

-- a service other than 2A
abbrev pub NotPeriodic : ℕ → Type 0
NotPeriodic sid = sid ≡ 0x2A → ⊥

-- the table has these terms, in this order
abbrev Termed : List Terms → Config → Security → List Subscription → Type 0
Termed l c k t = map terms_of t ≡ l

-- entries advanced keep theirs
advances_terms : {now : Moment} {t u : List Subscription} → Advances now t u → map terms_of u ≡ map terms_of t
advances_terms empty = refl
advances_terms (stands a) = rw (advances_terms a)
advances_terms (sent a) = rw (advances_terms a)

termed_parts : (l : List Terms) → Parts (Termed l) NotPeriodic
termed_parts l = record { clears = λ c k t h. h; advances = λ c k t u now a h. advances_terms a ∙ h; serves = serves }
  where
    serves : (v : Seen) (sid : ℕ) (a : Served) → Left v sid a → NotPeriodic sid → map terms_of v.periodic ≡ l → map terms_of a.effect.periodic ≡ l
    serves v sid a p n h = go p.periodic
      where
        go : (a.effect.periodic ≡ v.periodic) ⊎ ((sid ≡ 0x2A) × (a ≡ service2A v)) → map terms_of a.effect.periodic ≡ l
        go (inl e) = rw e h
        go (inr e) = absurd (n e.0)

-- a call that is no request of service 2A leaves identifiers, clients and intervals, in their order
pub terms_stay : (limit : ℕ) (s : State) (c : Call) → Names NotPeriodic c → map terms_of (call limit s c).state.periodic ≡ map terms_of s.periodic
terms_stay limit s c n = keeps_call (Termed (map terms_of s.periodic)) NotPeriodic (termed_parts (map terms_of s.periodic)) limit s c n refl

-- and so does a history of such calls
pub terms_outlive : (limit : ℕ) (s : State) (h : List Call) → AllName NotPeriodic h → map terms_of (run limit s h).periodic ≡ map terms_of s.periodic
terms_outlive limit s h n = keeps_run (Termed (map terms_of s.periodic)) NotPeriodic (termed_parts (map terms_of s.periodic)) limit h s n refl

-- that is not empty: a key refused is counted, and the count is there after session 3, the end of S3 and a reset
abbrev asks : Moment → List ℕ → ℕ → List ℕ → Call
asks now frame err given = requests (asking (inbound now 3712 16 frame) (record { err = err; bytes = given }) empty_table)

pub refused_outlives : (run max_frame (fresh_state fixed_config)
    (asks 5 (0x27 ∷ 3 ∷ []) 0 (1 ∷ 2 ∷ 3 ∷ 4 ∷ []) ∷ asks 6 (0x27 ∷ 4 ∷ 9 ∷ 9 ∷ 9 ∷ 9 ∷ []) 0x35 [] ∷ asks 7 (0x10 ∷ 3 ∷ []) 0 [] ∷ ticks 9999 empty_table ∷ asks 10000 (0x11 ∷ 1 ∷ []) 0 [] ∷ [])
    ).security.failed ≡ record { level = 3; count = 1 } ∷ []
unfolding whole
refused_outlives = refl
