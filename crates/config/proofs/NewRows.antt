-- The row that was written is the row that was asked for, where that keeps the numbers.
use Prim.Native.Nat.{ℕ, zero, suc, ◌+◌, ◌*◌, ◌^◌, ◌≤◌, ◌<◌}
use mathlib.Core.Path.{◌≡◌, refl, ap, ◌∙◌}
use mathlib.Core.Bool.{true, ◌&&◌}
use mathlib.Core.List.{List, []}
use native.Mathlib.Omega.{arith}
use lib.ListN.{length, get_or}
use lib.Dec.{leb, ltb}
use borrow.Author.Tests.{leb-true, ltb-true}
use Rattle.model.proofs.Laws.{left, right}
use Rattle.model.specs.Numbers.{max_listed, max_seed}
use Rattle.model.specs.Config.{session_within, service_within, did_within, level_within}
use Rattle.uds.specs.declared.rows.SessionList.{SessionList}
use Rattle.uds.specs.declared.rows.SessionConfig.{SessionConfig}
use Rattle.uds.specs.declared.rows.ServiceConfig.{ServiceConfig}
use Rattle.uds.specs.declared.rows.DidConfig.{DidConfig}
use Rattle.uds.specs.declared.rows.SecurityLevelConfig.{SecurityLevelConfig}
use Rattle.uds.specs.Table.{tab, column}
use Rattle.config.specs.View.{capped, list_at, session_at, service_at, did_at, level_at}
use Rattle.uds.specs.Rows.{entry_of, list_of, session_of, service_of, did_of, level_of}
use Rattle.config.specs.Build.{low, list_words, session_row, service_row, did_row, level_row}
use Rattle.uds.proofs.Tab.{tab-length, tab-same}
use Rattle.config.proofs.Grown.{Grown}

low_is : (x : ℕ) → x < 2 ^ 32 → low x ≡ x
low_is x h = omega arith

-- a number that keeps the limit is not cut
kept_low : (x most : ℕ) → x ≤ most → most < 2 ^ 32 → capped (low x) most ≡ x
kept_low x most h k = omega arith

-- the eight sessions of a list stand in its words
entries : (l : SessionList) (rest : List ℕ) (k : ℕ) → k < 8 → get_or (list_words l rest) (suc k) 0 ≡ entry_of l k
entries l rest zero h = refl
entries l rest (suc zero) h = refl
entries l rest (suc (suc zero)) h = refl
entries l rest (suc (suc (suc zero))) h = refl
entries l rest (suc (suc (suc (suc zero)))) h = refl
entries l rest (suc (suc (suc (suc (suc zero))))) h = refl
entries l rest (suc (suc (suc (suc (suc (suc zero)))))) h = refl
entries l rest (suc (suc (suc (suc (suc (suc (suc zero))))))) h = refl
entries l rest (suc (suc (suc (suc (suc (suc (suc (suc k)))))))) h = absurd (omega arith)

short : (l : SessionList) → leb (length (list_of l)) 8 ≡ true → l.count ≤ 8
short l e = omega (arith, leb-true (length (list_of l)) 8 e, tab-length (entry_of l) 0 l.count)

list_new : (v : List ℕ) (at : ℕ) (l : SessionList) → l.count ≤ 8 → get_or v at 0 ≡ low l.count → ((k : ℕ) → k < 8 → get_or v (at + suc k) 0 ≡ entry_of l k) → list_at v at ≡ list_of l
list_new v at l s c h =
    let n : capped (get_or v at 0) max_listed ≡ l.count = rw c (kept_low l.count max_listed s (omega arith)) in
    ap (tab (column v (at + 1) 1) 0) n
    ∙ tab-same (column v (at + 1) 1) (entry_of l) 0 l.count (λ k p q. let e : at + 1 + k * 1 ≡ at + suc k = omega arith in rw e (h k (omega arith)))

module _ {w v : List ℕ} {counter at : ℕ} {row : List ℕ} (g : Grown w v counter at row) where
  -- a word of the row, wherever its place is written
  cell : (k j : ℕ) → j ≡ at + k → k < length row → get_or v j 0 ≡ get_or row k 0
  cell k j e h = rw e (g.new k h)

pub session-new : (w v : List ℕ) (n : ℕ) (r : SessionConfig) → Grown w v 2 (6 + n * 4) (session_row r) → session_within (session_of r) ≡ true → session_at v n ≡ session_of r
session-new w v n r g e =
    let a = ltb r.p2_timeout.0 (2 ^ 32) in
    let b = ltb r.p2_extended_timeout.0 (2 ^ 32) in
    let d = ltb r.s3_timeout.0 (2 ^ 32) in
    rw (
      cell g 0 (6 + n * 4) (omega arith) (omega arith),
      cell g 1 (7 + n * 4) (omega arith) (omega arith),
      cell g 2 (8 + n * 4) (omega arith) (omega arith),
      cell g 3 (9 + n * 4) (omega arith) (omega arith),
      low_is r.p2_timeout.0 (ltb-true _ _ (left a b (left (a && b) d e))),
      low_is r.p2_extended_timeout.0 (ltb-true _ _ (right a b (left (a && b) d e))),
      low_is r.s3_timeout.0 (ltb-true _ _ (right (a && b) d e)),
    )

pub service-new : (w v : List ℕ) (n : ℕ) (r : ServiceConfig) → Grown w v 3 (38 + n * 10) (service_row r) → service_within (service_of r) ≡ true → service_at v n ≡ service_of r
service-new w v n r g e =
    let l = r.supported_in in
    rw (
      cell g 0 (38 + n * 10) (omega arith) (omega arith),
      list_new v (39 + n * 10) l (short l e) (cell g 1 (39 + n * 10) (omega arith) (omega arith))
          (λ k h. cell g (suc (suc k)) (39 + n * 10 + suc k) (omega arith) (omega arith) ∙ entries l [] k h),
    )

pub did-new : (w v : List ℕ) (n : ℕ) (r : DidConfig) → Grown w v 4 (278 + n * 21) (did_row r) → did_within (did_of r) ≡ true → did_at v n ≡ did_of r
did-new w v n r g e =
    let l = r.readable_in in
    let m = r.writable_in in
    let a = leb (length (list_of l)) 8 in
    let b = leb (length (list_of m)) 8 in
    let d = ltb r.min_periodic_interval.0 (2 ^ 32) in
    rw (
      cell g 0 (278 + n * 21) (omega arith) (omega arith),
      cell g 1 (279 + n * 21) (omega arith) (omega arith),
      cell g 2 (280 + n * 21) (omega arith) (omega arith),
      low_is r.min_periodic_interval.0 (ltb-true _ _ (right (a && b) d e)),
      list_new v (281 + n * 21) l (short l (left a b (left (a && b) d e))) (cell g 3 (281 + n * 21) (omega arith) (omega arith))
          (λ k h. cell g (suc (suc (suc (suc k)))) (281 + n * 21 + suc k) (omega arith) (omega arith) ∙ entries l (list_words m []) k h),
      list_new v (290 + n * 21) m (short m (right a b (left (a && b) d e))) (cell g 12 (290 + n * 21) (omega arith) (omega arith))
          (λ k h. cell g (suc (suc (suc (suc (suc (suc (suc (suc (suc (suc (suc (suc (suc k))))))))))))) (290 + n * 21 + suc k) (omega arith) (omega arith) ∙ entries m [] k h),
    )

pub level-new : (w v : List ℕ) (n : ℕ) (r : SecurityLevelConfig) → Grown w v 5 (2966 + n * 5) (level_row r) → level_within (level_of r) ≡ true → level_at v n ≡ level_of r
level-new w v n r g e =
    let a = ltb r.lockout_duration.0 (2 ^ 32) in
    let b = leb r.seed_length 32 in
    let d = leb r.key_length 32 in
    rw (
      cell g 0 (2966 + n * 5) (omega arith) (omega arith),
      cell g 1 (2967 + n * 5) (omega arith) (omega arith),
      cell g 2 (2968 + n * 5) (omega arith) (omega arith),
      cell g 3 (2969 + n * 5) (omega arith) (omega arith),
      cell g 4 (2970 + n * 5) (omega arith) (omega arith),
      low_is r.lockout_duration.0 (ltb-true _ _ (left a b (left (a && b) d e))),
      kept_low r.seed_length max_seed (leb-true r.seed_length 32 (right a b (left (a && b) d e))) (omega arith),
      kept_low r.key_length max_seed (leb-true r.key_length 32 (right (a && b) d e)) (omega arith),
    )
