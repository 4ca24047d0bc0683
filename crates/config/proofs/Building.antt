-- What each builder makes, from what it tested and wrote.
use Prim.Native.Nat.{ℕ, ◌+◌, ◌*◌, ◌<◌}
use mathlib.Core.Path.{◌≡◌, refl, ap, sym, ◌∙◌}
use mathlib.Core.Bool.{Bool, ◌&&◌}
use mathlib.Core.List.{List, [], ◌∷◌}
use native.Mathlib.Omega.{arith}
use lib.ListN.{length, set, replicate}
use lib.Seq.{paste}
use lib.Dec.{ltb}
use borrow.Author.Tests.{ltb-true}
use Rattle.model.specs.Tests.{pick}
use Rattle.model.proofs.Laws.{left, right}
use Rattle.model.specs.Config.{within, session_within, service_within, did_within, level_within}
use Rattle.uds.specs.declared.rows.SessionList.{SessionList}
use Rattle.uds.specs.declared.rows.SessionConfig.{SessionConfig}
use Rattle.uds.specs.declared.rows.ServiceConfig.{ServiceConfig}
use Rattle.uds.specs.declared.rows.DidConfig.{DidConfig}
use Rattle.uds.specs.declared.rows.SecurityLevelConfig.{SecurityLevelConfig}
use Rattle.config.specs.View.{session_at, service_at, did_at, level_at, session_count, service_count, did_count, level_count, config_of}
use Rattle.uds.specs.Rows.{session_of, service_of, did_of, level_of}
use Rattle.config.specs.Build.{settled, row_put, overfull_words, add_session, add_service, add_did, add_level, list_words, session_row, service_row, did_row, level_row}
use Rattle.uds.proofs.Tab.{tab-length}
use Rattle.config.proofs.Kept.{kept, with_session, with_service, with_did, with_level, made}
use Rattle.config.proofs.Grown.{grown, session-added, service-added, did-added, level-added}
use Rattle.config.proofs.NewRows.{session-new, service-new, did-new, level-new}

-- the words of rows that have lists, as they are put together
pub service-words : (a : ℕ) (l : SessionList) (v r : List ℕ) → r ≡ list_words l [] → v ≡ paste (set (replicate 10 0) 0 a) 1 r (length r) → v ≡ a ∷ list_words l []
service-words a l v r e f = rw (f, e)

pub did-words : (a b x y : ℕ) (l m : SessionList) (u v r t : List ℕ) → x ≡ y → r ≡ list_words l [] → t ≡ list_words m []
    → u ≡ paste (set (set (set (replicate 21 0) 0 a) 1 b) 2 x) 3 r (length r) → v ≡ paste u 12 t (length t) → v ≡ a ∷ b ∷ y ∷ list_words l (list_words m [])
did-words a b x y l m u v r t e p q f g = rw (g, f, e, p, q)

module _ (w v row : List ℕ) (keeps : Bool) (l : length w ≡ 3006) where
  pub session_made : (r : SessionConfig) → row ≡ session_row r → keeps ≡ session_within (session_of r)
      → v ≡ pick ((within (config_of w) && ltb (session_count w) 8) && keeps) (row_put w 2 (6 + session_count w * 4) row) overfull_words → config_of v ≡ settled (add_session (config_of w) (session_of r))
  session_made r i k e =
      made v (row_put w 2 (6 + session_count w * 4) row) (add_session (config_of w) (session_of r)) (within (config_of w) && ltb (session_count w) 8) keeps
      (with_session (config_of w) (session_of r) ∙ rw (tab-length (session_at w) 0 (session_count w), ← k)) e
      (λ a b m.
      let few : session_count w < 8 = ltb-true (session_count w) 8 (right (within (config_of w)) (ltb (session_count w) 8) a) in
      let g = grown w v 2 (6 + session_count w * 4) (session_row r) (m ∙ ap (row_put w 2 (6 + session_count w * 4)) i) (omega arith) (omega arith) in
      session-added w v (kept w (left (within (config_of w)) (ltb (session_count w) 8) a)) (session_row r) (session_of r) refl (omega arith) g (session-new w v (session_count w) r g (sym k ∙ b)))

  pub service_made : (r : ServiceConfig) → row ≡ service_row r → keeps ≡ service_within (service_of r)
      → v ≡ pick ((within (config_of w) && ltb (service_count w) 24) && keeps) (row_put w 3 (38 + service_count w * 10) row) overfull_words → config_of v ≡ settled (add_service (config_of w) (service_of r))
  service_made r i k e =
      made v (row_put w 3 (38 + service_count w * 10) row) (add_service (config_of w) (service_of r)) (within (config_of w) && ltb (service_count w) 24) keeps
      (with_service (config_of w) (service_of r) ∙ rw (tab-length (service_at w) 0 (service_count w), ← k)) e
      (λ a b m.
      let few : service_count w < 24 = ltb-true (service_count w) 24 (right (within (config_of w)) (ltb (service_count w) 24) a) in
      let g = grown w v 3 (38 + service_count w * 10) (service_row r) (m ∙ ap (row_put w 3 (38 + service_count w * 10)) i) (omega arith) (omega arith) in
      service-added w v (kept w (left (within (config_of w)) (ltb (service_count w) 24) a)) (service_row r) (service_of r) refl (omega arith) g (service-new w v (service_count w) r g (sym k ∙ b)))

  pub did_made : (r : DidConfig) → row ≡ did_row r → keeps ≡ did_within (did_of r)
      → v ≡ pick ((within (config_of w) && ltb (did_count w) 128) && keeps) (row_put w 4 (278 + did_count w * 21) row) overfull_words → config_of v ≡ settled (add_did (config_of w) (did_of r))
  did_made r i k e =
      made v (row_put w 4 (278 + did_count w * 21) row) (add_did (config_of w) (did_of r)) (within (config_of w) && ltb (did_count w) 128) keeps
      (with_did (config_of w) (did_of r) ∙ rw (tab-length (did_at w) 0 (did_count w), ← k)) e
      (λ a b m.
      let few : did_count w < 128 = ltb-true (did_count w) 128 (right (within (config_of w)) (ltb (did_count w) 128) a) in
      let g = grown w v 4 (278 + did_count w * 21) (did_row r) (m ∙ ap (row_put w 4 (278 + did_count w * 21)) i) (omega arith) (omega arith) in
      did-added w v (kept w (left (within (config_of w)) (ltb (did_count w) 128) a)) (did_row r) (did_of r) refl (omega arith) g (did-new w v (did_count w) r g (sym k ∙ b)))

  pub level_made : (r : SecurityLevelConfig) → row ≡ level_row r → keeps ≡ level_within (level_of r)
      → v ≡ pick ((within (config_of w) && ltb (level_count w) 8) && keeps) (row_put w 5 (2966 + level_count w * 5) row) overfull_words → config_of v ≡ settled (add_level (config_of w) (level_of r))
  level_made r i k e =
      made v (row_put w 5 (2966 + level_count w * 5) row) (add_level (config_of w) (level_of r)) (within (config_of w) && ltb (level_count w) 8) keeps
      (with_level (config_of w) (level_of r) ∙ rw (tab-length (level_at w) 0 (level_count w), ← k)) e
      (λ a b m.
      let few : level_count w < 8 = ltb-true (level_count w) 8 (right (within (config_of w)) (ltb (level_count w) 8) a) in
      let g = grown w v 5 (2966 + level_count w * 5) (level_row r) (m ∙ ap (row_put w 5 (2966 + level_count w * 5)) i) (omega arith) (omega arith) in
      level-added w v (kept w (left (within (config_of w)) (ltb (level_count w) 8) a)) (level_row r) (level_of r) (omega arith) g (level-new w v (level_count w) r g (sym k ∙ b)))
