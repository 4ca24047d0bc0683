-- An image after one more row: the tables that the row is no part of, and the rows before it, are as they were.
use Prim.Native.Nat.{ℕ, ◌+◌, ◌*◌, ◌≤◌, ◌<◌}
use mathlib.Core.Path.{◌≡◌, ap, ◌∙◌}
use mathlib.Core.List.{List, [], ◌∷◌, ◌++◌}
use native.Mathlib.Omega.{arith}
use lib.ListN.{length, get_or, set, length-set}
use lib.Seq.{paste, get_or-set_same, get_or-set_other}
use Rattle.model.specs.Config.{SessionConfig, ServiceConfig, DidConfig, SecurityLevelConfig, Config}
use Rattle.model.specs.Numbers.{max_listed}
use Rattle.uds.specs.Table.{tab, column}
use Rattle.config.specs.View.{capped, list_at, session_at, service_at, did_at, level_at, session_count, service_count, did_count, level_count, config_of}
use Rattle.config.specs.Build.{add_session, add_service, add_did, add_level}
use Rattle.uds.proofs.Tab.{tab-same, tab_snoc}
use Rattle.uds.proofs.Paste.{pasted_in, pasted_before, pasted_after}
use Rattle.config.proofs.Kept.{Kept}

-- v is w with one more row at a place and the table's count gone up
pub record Grown (w v : List ℕ) (counter at : ℕ) (row : List ℕ) : Type 0 where
  pub count : get_or v counter 0 ≡ get_or w counter 0 + 1
  pub new : (k : ℕ) → k < length row → get_or v (at + k) 0 ≡ get_or row k 0
  pub before : (j : ℕ) → (j ≡ counter → ⊥) → j < at → get_or v j 0 ≡ get_or w j 0
  pub after : (j : ℕ) → at + length row ≤ j → get_or v j 0 ≡ get_or w j 0

pub grown : (w v : List ℕ) (counter at : ℕ) (row : List ℕ) → v ≡ paste (set w counter (get_or w counter 0 + 1)) at row (length row)
    → counter < at → at + length row ≤ length w → Grown w v counter at row
grown w v counter at row e c f =
    let u = set w counter (get_or w counter 0 + 1) in
    let l : at + length row ≤ length u = omega (arith, length-set w counter (get_or w counter 0 + 1)) in
    let r : length row ≤ length row = omega arith in
    record {
      count = rw e (pasted_before u at row (length row) l r counter c ∙ get_or-set_same w counter (get_or w counter 0 + 1) 0 (omega arith));
      new = λ k h. rw e (pasted_in u at row (length row) l r k h);
      before = λ j n h. rw e (pasted_before u at row (length row) l r j h ∙ get_or-set_other w counter j (get_or w counter 0 + 1) 0 n);
      after = λ j h. rw e (pasted_after u at row (length row) l r j h ∙ get_or-set_other w counter j (get_or w counter 0 + 1) 0 (λ z. omega arith));
    }

-- two images that agree on a part
abbrev pub Same : List ℕ → List ℕ → ℕ → ℕ → Type 0
Same w v from to = (j : ℕ) → from ≤ j → j < to → get_or v j 0 ≡ get_or w j 0

module _ (w v : List ℕ) where
  -- on a list, which its count and eight words hold
  list_same : (at : ℕ) → Same w v at (at + 9) → list_at v at ≡ list_at w at
  list_same at h =
      ap (λ (n : ℕ). tab (column v (at + 1) 1) 0 (capped n max_listed)) (h at (omega arith) (omega arith))
      ∙ tab-same (column v (at + 1) 1) (column w (at + 1) 1) 0 (capped (get_or w at 0) max_listed) (λ k p q. h (at + 1 + k * 1) (omega arith) (omega arith))

  -- on each table
  pub sessions-same : (m : ℕ) → Same w v 6 (6 + m * 4) → tab (session_at v) 0 m ≡ tab (session_at w) 0 m
  sessions-same m h =
      tab-same (session_at v) (session_at w) 0 m
      (λ i p q. rw (h (6 + i * 4) (omega arith) (omega arith), h (7 + i * 4) (omega arith) (omega arith), h (8 + i * 4) (omega arith) (omega arith), h (9 + i * 4) (omega arith) (omega arith)))

  pub services-same : (m : ℕ) → Same w v 38 (38 + m * 10) → tab (service_at v) 0 m ≡ tab (service_at w) 0 m
  services-same m h =
      tab-same (service_at v) (service_at w) 0 m
      (λ i p q. rw (h (38 + i * 10) (omega arith) (omega arith), list_same (39 + i * 10) (λ j a b. h j (omega arith) (omega arith))))

  pub dids-same : (m : ℕ) → Same w v 278 (278 + m * 21) → tab (did_at v) 0 m ≡ tab (did_at w) 0 m
  dids-same m h =
      tab-same (did_at v) (did_at w) 0 m
      (λ i p q.
      rw (
        h (278 + i * 21) (omega arith) (omega arith),
        h (279 + i * 21) (omega arith) (omega arith),
        h (280 + i * 21) (omega arith) (omega arith),
        list_same (281 + i * 21) (λ j a b. h j (omega arith) (omega arith)),
        list_same (290 + i * 21) (λ j a b. h j (omega arith) (omega arith)),
      ))

  pub levels-same : (m : ℕ) → Same w v 2966 (2966 + m * 5) → tab (level_at v) 0 m ≡ tab (level_at w) 0 m
  levels-same m h =
      tab-same (level_at v) (level_at w) 0 m
      (λ i p q.
      rw (
        h (2966 + i * 5) (omega arith) (omega arith),
        h (2967 + i * 5) (omega arith) (omega arith),
        h (2968 + i * 5) (omega arith) (omega arith),
        h (2969 + i * 5) (omega arith) (omega arith),
        h (2970 + i * 5) (omega arith) (omega arith),
      ))

-- one more row of a table, after those that stay
pub one_more : {B : Type 0} (f g : ℕ → B) (n m : ℕ) (r : B) → m ≡ n + 1 → tab f 0 n ≡ tab g 0 n → f n ≡ r → tab f 0 m ≡ tab g 0 n ++ (r ∷ [])
one_more f g n m r e s h = rw (e, tab_snoc f n, s, h)

-- two configurations that agree in each part
abbrev made : ℕ → ℕ → List SessionConfig → List ServiceConfig → List DidConfig → List SecurityLevelConfig → Config
made p f s v i l = record { physical = p; functional = f; sessions = s; services = v; dids = i; levels = l }

parts : {p p' f f' : ℕ} {s s' : List SessionConfig} {v v' : List ServiceConfig} {i i' : List DidConfig} {l l' : List SecurityLevelConfig}
    → p ≡ p' → f ≡ f' → s ≡ s' → v ≡ v' → i ≡ i' → l ≡ l' → made p f s v i l ≡ made p' f' s' v' i' l'
parts a b c d e g = rw (a, b, c, d, e, g)

-- the four tables in turn: that one has a row more, and the others are as they were
module _ (w v : List ℕ) (k : Kept w) where
  -- a table whose count stands and whose words do
  sessions_stay : get_or v 2 0 ≡ get_or w 2 0 → Same w v 6 38 → tab (session_at v) 0 (session_count v) ≡ tab (session_at w) 0 (session_count w)
  sessions_stay e h = rw e (sessions-same w v (session_count w) (λ j a b. h j a (omega (arith, k.sessions))))

  services_stay : get_or v 3 0 ≡ get_or w 3 0 → Same w v 38 278 → tab (service_at v) 0 (service_count v) ≡ tab (service_at w) 0 (service_count w)
  services_stay e h = rw e (services-same w v (service_count w) (λ j a b. h j a (omega (arith, k.services))))

  dids_stay : get_or v 4 0 ≡ get_or w 4 0 → Same w v 278 2966 → tab (did_at v) 0 (did_count v) ≡ tab (did_at w) 0 (did_count w)
  dids_stay e h = rw e (dids-same w v (did_count w) (λ j a b. h j a (omega (arith, k.dids))))

  levels_stay : get_or v 5 0 ≡ get_or w 5 0 → Same w v 2966 3006 → tab (level_at v) 0 (level_count v) ≡ tab (level_at w) 0 (level_count w)
  levels_stay e h = rw e (levels-same w v (level_count w) (λ j a b. h j a (omega (arith, k.levels))))

  pub session-added : (row : List ℕ) (r : SessionConfig) → length row ≡ 4 → session_count w < 8 → Grown w v 2 (6 + session_count w * 4) row → session_at v (session_count w) ≡ r → config_of v ≡ add_session (config_of w) r
  session-added row r l n g e =
      let b : (j : ℕ) → (j ≡ 2 → ⊥) → j < 6 → get_or v j 0 ≡ get_or w j 0 = λ j x h. g.before j x (omega arith) in
      parts (b 0 (λ z. omega arith) (omega arith)) (b 1 (λ z. omega arith) (omega arith))
      (one_more (session_at v) (session_at w) (session_count w) (session_count v) r g.count
      (sessions-same w v (session_count w) (λ j x h. g.before j (λ z. omega arith) h)) e)
      (services_stay (b 3 (λ z. omega arith) (omega arith)) (λ j x h. g.after j (omega arith)))
      (dids_stay (b 4 (λ z. omega arith) (omega arith)) (λ j x h. g.after j (omega arith)))
      (levels_stay (b 5 (λ z. omega arith) (omega arith)) (λ j x h. g.after j (omega arith)))

  pub service-added : (row : List ℕ) (r : ServiceConfig) → length row ≡ 10 → service_count w < 24 → Grown w v 3 (38 + service_count w * 10) row → service_at v (service_count w) ≡ r → config_of v ≡ add_service (config_of w) r
  service-added row r l n g e =
      let b : (j : ℕ) → (j ≡ 3 → ⊥) → j < 38 → get_or v j 0 ≡ get_or w j 0 = λ j x h. g.before j x (omega arith) in
      parts (b 0 (λ z. omega arith) (omega arith)) (b 1 (λ z. omega arith) (omega arith))
      (sessions_stay (b 2 (λ z. omega arith) (omega arith)) (λ j x h. b j (λ z. omega arith) h))
      (one_more (service_at v) (service_at w) (service_count w) (service_count v) r g.count
      (services-same w v (service_count w) (λ j x h. g.before j (λ z. omega arith) h)) e)
      (dids_stay (b 4 (λ z. omega arith) (omega arith)) (λ j x h. g.after j (omega arith)))
      (levels_stay (b 5 (λ z. omega arith) (omega arith)) (λ j x h. g.after j (omega arith)))

  pub did-added : (row : List ℕ) (r : DidConfig) → length row ≡ 21 → did_count w < 128 → Grown w v 4 (278 + did_count w * 21) row → did_at v (did_count w) ≡ r → config_of v ≡ add_did (config_of w) r
  did-added row r l n g e =
      let b : (j : ℕ) → (j ≡ 4 → ⊥) → j < 278 → get_or v j 0 ≡ get_or w j 0 = λ j x h. g.before j x (omega arith) in
      parts (b 0 (λ z. omega arith) (omega arith)) (b 1 (λ z. omega arith) (omega arith))
      (sessions_stay (b 2 (λ z. omega arith) (omega arith)) (λ j x h. b j (λ z. omega arith) (omega arith)))
      (services_stay (b 3 (λ z. omega arith) (omega arith)) (λ j x h. b j (λ z. omega arith) h))
      (one_more (did_at v) (did_at w) (did_count w) (did_count v) r g.count
      (dids-same w v (did_count w) (λ j x h. g.before j (λ z. omega arith) h)) e)
      (levels_stay (b 5 (λ z. omega arith) (omega arith)) (λ j x h. g.after j (omega arith)))

  pub level-added : (row : List ℕ) (r : SecurityLevelConfig) → level_count w < 8 → Grown w v 5 (2966 + level_count w * 5) row → level_at v (level_count w) ≡ r → config_of v ≡ add_level (config_of w) r
  level-added row r n g e =
      let b : (j : ℕ) → (j ≡ 5 → ⊥) → j < 2966 → get_or v j 0 ≡ get_or w j 0 = λ j x h. g.before j x (omega arith) in
      parts (b 0 (λ z. omega arith) (omega arith)) (b 1 (λ z. omega arith) (omega arith))
      (sessions_stay (b 2 (λ z. omega arith) (omega arith)) (λ j x h. b j (λ z. omega arith) (omega arith)))
      (services_stay (b 3 (λ z. omega arith) (omega arith)) (λ j x h. b j (λ z. omega arith) (omega arith)))
      (dids_stay (b 4 (λ z. omega arith) (omega arith)) (λ j x h. b j (λ z. omega arith) h))
      (one_more (level_at v) (level_at w) (level_count w) (level_count v) r g.count
      (levels-same w v (level_count w) (λ j x h. g.before j (λ z. omega arith) h)) e)
