-- What is behind the key: a value is read only where its level is held, so no answer depends on one that is kept out.
use Prim.Native.Nat.{ℕ, ◌+◌, ◌*◌, ◌<◌}
use mathlib.Core.Path.{◌≡◌, refl, ap, sym, ◌∙◌}
use mathlib.Core.Bool.{false}
use mathlib.Core.List.{List, [], ◌∷◌}
use mathlib.Core.Option.{Option, some, none}
use native.Mathlib.Omega.{arith}
use native.Mathlib.Decide.{ℕ_discrete}
use lib.ListN.{length, take, drop, get_or, length-take, length-drop}
use lib.Seq.{ext_get_or, get_or-take, get_or-drop}
use borrow.Author.Tests.{eqb-true, ne_eqb, lt-leb}
use Rattle.model.specs.Tests.{first}
use Rattle.model.specs.Values.{bytes, ValueRow, Table, is_value, row_value, value}
use Rattle.model.specs.Config.{DidConfig, find_did, level_of}
use Rattle.model.specs.Service.{Seen}
use Rattle.model.specs.Service22.{Reading, going, ended, onward, held_for, read_value, read_one, read_all, service22}
use Rattle.model.specs.Request.{service}
use Rattle.model.specs.Alike.{Points, AlikeRows, AlikeTable}
use Rattle.model.proofs.FirstRow.{first_in}
use Rattle.model.proofs.Blind.{seeing, blind3E, blind10, blind11, blind27, blind2E, blind2A, blind31, blind28, blind2F, blind34, blind36, blind37, blind38}

-- another identifier's first row is the same in both
rows_alike : (x y : ℕ) {l m : List ValueRow} → (y ≡ x → ⊥) → AlikeRows x l m → first (is_value y) l ≡ first (is_value y) m
rows_alike x y n AlikeRows.none = refl
rows_alike x y n (AlikeRows.same r) = rw (rows_alike x y n r)
rows_alike x y n (AlikeRows.its {r = r} {q = q} a b k) =
    let f : r.identifier ≡ y → ⊥ = λ u. n (sym u ∙ a) in
    let g : q.identifier ≡ y → ⊥ = λ u. n (sym u ∙ b) in
    rw (ne_eqb _ _ f, ne_eqb _ _ g) (rows_alike x y n k)

-- a row's bytes are the same in both pools where each byte that it points at is
part_alike : (r : ValueRow) (p q : List ℕ) → length p ≡ length q → ((k : ℕ) → Points r k → get_or p k 0 ≡ get_or q k 0) → take r.len (drop r.start p) ≡ take r.len (drop r.start q)
part_alike r p q l h =
    ext_get_or 0 (take r.len (drop r.start p)) (take r.len (drop r.start q)) (simp (length-take, length-drop) (rw l)) go
  where
    go : (i : ℕ) → i < length (take r.len (drop r.start p)) → get_or (take r.len (drop r.start p)) i 0 ≡ get_or (take r.len (drop r.start q)) i 0
    go i h1 =
        let b : i < r.len = omega (arith, length-take r.len (drop r.start p)) in
        simp (get_or-take, get_or-drop) (h (r.start + i) (record { low = omega arith; high = omega arith }))

row_alike : (limit : ℕ) (o : Option ValueRow) (p q : List ℕ) → length p ≡ length q → ((r : ValueRow) → o ≡ some r → (k : ℕ) → Points r k → get_or p k 0 ≡ get_or q k 0) → row_value limit p o ≡ row_value limit q o
unfolding row_value
row_alike limit none p q l h = refl
row_alike limit (some r) p q l h = rw (l, part_alike r p q l (h r refl))

-- what the tables say of another identifier is the same
pub value_alike : (limit x y : ℕ) (t u : Table) → (y ≡ x → ⊥) → AlikeTable x t u → value limit t y ≡ value limit u y
value_alike limit x y t u n a = rw (← rows_alike x y n a.rows) (row_alike limit (first (is_value y) t.rows) t.pool u.pool a.pools go)
  where
    go : (r : ValueRow) → first (is_value y) t.rows ≡ some r → (k : ℕ) → Points r k → get_or t.pool k 0 ≡ get_or u.pool k 0
    go r e k h =
        let f = first_in (is_value y) t.rows r e in
        elim (ℕ_discrete (get_or t.pool k 0) (get_or u.pool k 0)) [ yes z ↦ z | no z ↦ absurd (n (sym (eqb-true _ _ f.1) ∙ (a.bytes k z).0 r f.0 h)) ]

-- a level that is not held keeps a reader out
kept_out : (held level : ℕ) (o : Option DidConfig) → level_of o ≡ level → held < level → held_for held o ≡ false
kept_out held level o e h = rw e (lt-leb level held h)

module _ (x level : ℕ) (v : Seen) (t u : Table) (p : List ℕ) (row : level_of (find_did v.config x) ≡ level) (low : v.session.level < level) (alike : AlikeTable x t u) where
  -- 22 of one identifier: x is refused before its value is consulted, and another's value is the same
  alike_one : (h l : ℕ) (acc : List ℕ) → read_one (seeing v p t) h l acc ≡ read_one (seeing v p u) h l acc
  unfolding read_one read_value
  alike_one h l acc = elim (ℕ_discrete (h * 256 + l) x) [
    | yes z ↦ rw (kept_out v.session.level level (find_did v.config (h * 256 + l)) (ap (λ (n : ℕ). level_of (find_did v.config n)) z ∙ row) low)
    | no z ↦ rw (value_alike v.limit x (h * 256 + l) t u z alike)
  ]

  alike_all : (q acc : List ℕ) → read_all (seeing v p t) q acc ≡ read_all (seeing v p u) q acc
  alike_all [] acc = refl
  alike_all (h ∷ []) acc = refl
  alike_all (h ∷ l ∷ rest) acc = rw (alike_one h l acc) (go (read_one (seeing v p u) h l acc) (alike_all rest))
    where
      go : (r : Reading) → ((a : List ℕ) → read_all (seeing v p t) rest a ≡ read_all (seeing v p u) rest a) → onward r (read_all (seeing v p t) rest) ≡ onward r (read_all (seeing v p u) rest)
      go (going a) ih = ih a
      go (ended r) ih = refl

  alike22 : service22 (seeing v p t) ≡ service22 (seeing v p u)
  unfolding service22
  alike22 = rw (alike_all p [])

  -- so it is with every service
  pub alike_service : (sid : ℕ) → service sid (seeing v p t) ≡ service sid (seeing v p u)
  unfolding service
  alike_service sid =
      rw (blind3E v p t u, blind10 v p t u, blind11 v p t u, blind27 v p p t u refl refl, alike22, blind2E v p t u, blind2A v p t u)
      (rw (blind31 v p t u, blind28 v p t u, blind2F v p t u, blind34 v p t u, blind36 v p t u, blind37 v p t u, blind38 v p t u))
