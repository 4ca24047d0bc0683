-- The key stands between, of the code: two runs from a fresh server whose calls differ only in what the value tables say of an identifier behind a level,
-- and in the key bytes of sendKey, show the same and leave the same while the held level is below. And what a question says, and what is not seen.
use Prim.Native.Nat.{ℕ, suc, zero, ◌<◌}
use mathlib.Core.Path.{◌≡◌, refl, ap, ap₂, sym, ◌∙◌, subst}
use mathlib.Core.Bool.{true}
use mathlib.Core.List.{List, [], ◌∷◌}
use native.Mathlib.Omega.{arith}
use lib.ListN.{length, take}
use Rattle.model.specs.Numbers.{max_frame}
use Rattle.model.specs.Config as Config
use Rattle.model.specs.Config.{Config, find_did, level_of}
use Rattle.model.specs.Values.{Given, Table}
use Rattle.model.specs.State as Model
use Rattle.model.specs.Request.{Inbound}
use Rattle.model.specs.History.{Call, requests, questions, Shown, Done, call, run, shows}
use Rattle.model.specs.Alike.{Alike, OffPage}
use Rattle.model.proofs.Acts.{told, question-act, question-result}
use Rattle.model.proofs.StandsBetween.{between}
use Rattle.config.specs.View.{config_of}
use Rattle.security.specs.declared.SecurityState.{SecurityState}
use Rattle.security.proofs.SecurityState.new.Reads as no_key
use Rattle.state.specs.declared.State.{State}
use Rattle.state.proofs.State.new.Reads as new
use Rattle.server.specs.declared.fresh.Fresh.{Fresh}
use Rattle.server.proofs.fresh.Server.fresh.Reads as fresh
use Rattle.server.proofs.Runs.{Held, held_of, within, beside, Does, does_so, Runs, end, and, runs_show, runs_leave}

-- what a request reports is what a question said beforehand, whatever is handed in with it
pub reports_the_question : {m m1 m2 : Held} (i : Inbound) (g : Given) (t : Table) {x y : Shown} → Does m (questions i) x m1 → Does m (requests (record { inbound = i; given = g; table = t })) y m2
    → (y.act ≡ x.act) × (x.result ≡ told y.result) × (held_of m1 ≡ held_of m)
unfolding call
reports_the_question {m = m} i g t d e =
    let p = does_so d in
    let q = does_so e in (
      ap (λ (z : Done). z.shown.act) (sym q) ∙ question-act max_frame i g t (held_of m) ∙ ap (λ (z : Done). z.shown.act) p,
      ap (λ (z : Done). z.shown.result) (sym p) ∙ question-result max_frame i g t (held_of m) ∙ ap (λ (z : Done). told z.shown.result) q,
      ap (λ (z : Done). z.state) (sym p),
    )

-- what the definition leaves out, the bytes and words that do not count, is shown by no later call: two memories that are seen alike go on alike
pub unseen : {m n m' n' : Held} {h : List Call} {xs ys : List Shown} → held_of m ≡ held_of n → Runs m h xs m' → Runs n h ys n' → (xs ≡ ys) × (held_of m' ≡ held_of n')
unseen {h = h} e r q = (runs_show r ∙ ap (λ (s : Model.State). shows max_frame s h) e ∙ sym (runs_show q), runs_leave r ∙ ap (λ (s : Model.State). run max_frame s h) e ∙ sym (runs_leave q))

-- the held level is below before each call of a run
abbrev pub Below : ℕ → {m m' : Held} {h : List Call} {xs : List Shown} → Runs m h xs m' → Type 0
Below level end = Unit {0}
Below level (and {m = m} d r) = (m.state.session.level < level) × Below level r

-- which is to say, in the definition's states
below : (level : ℕ) {m m' : Held} {h : List Call} {xs : List Shown} (r : Runs m h xs m') → Below level r → (i : ℕ) → i < length h → (run max_frame (held_of m) (take i h)).session.level < level
below level end b i l = absurd (omega arith)
below level (and d r) b zero l = b.0
below level (and {h = h} d r) b (suc i) l = subst (λ (y : Done). (run max_frame y.state (take i h)).session.level < level) (sym (does_so d)) (below level r b.1 i (omega arith))

-- a history is all of its calls
whole : (h : List Call) → take (length h) h ≡ h
whole [] = refl
whole (c ∷ h) = ap (c ∷◌) (whole h)

as_long : {x : ℕ} {h k : List Call} → Alike x h k → length h ≡ length k
as_long Alike.end = refl
as_long (Alike.and a b) = ap suc (as_long b)

-- a run of a whole history, from a memory that is seen as some state
from : {m m' : Held} {h : List Call} {xs : List Shown} (s : Model.State) → held_of m ≡ s → Runs m h xs m' → (n : ℕ) → take n h ≡ h → (xs ≡ shows max_frame s (take n h)) × (held_of m' ≡ run max_frame s (take n h))
from s e r n w = (runs_show r ∙ ap₂ (shows max_frame) e (sym w), runs_leave r ∙ ap₂ (run max_frame) e (sym w))

-- an identifier off the page F200 to F2FF whose first row has a level above zero; two memories that are seen as a fresh server, however they were made
pub fresh_runs : (c : Config) (x level : ℕ) → OffPage x → level_of (find_did (Model.fresh c).state.config x) ≡ level → 0 < level → {h k : List Call} → Alike x h k
    → {m0 n0 m n : Held} {xs ys : List Shown} → held_of m0 ≡ (Model.fresh c).state → held_of n0 ≡ (Model.fresh c).state → (p : Runs m0 h xs m) → Runs n0 k ys n → Below level p
    → (xs ≡ ys) × (held_of m ≡ held_of n)
fresh_runs c x level off row high {h = h} {k = k} alike e f p q b =
    let s = (Model.fresh c).state in
    let low : (i : ℕ) → i < length h → (run max_frame s (take i h)).session.level < level = λ i l. subst (λ (y : Model.State). (run max_frame y (take i h)).session.level < level) e (below level p b i l) in
    let z = between max_frame c x level off row high h k alike (length h) low in
    let one = from s e p (length h) (whole h) in
    let two = from s f q (length h) (ap (λ (n : ℕ). take n k) (as_long alike) ∙ whole k) in
    (one.0 ∙ z.0 ∙ sym two.0, one.1 ∙ z.1 ∙ sym two.1)

-- by value: from `Server::fresh`
pub key-stands_between : (κs : _) (a : _) (r : Fresh) (e : _) → fresh.Post κs a r e → (r' : Fresh) (e' : _) → fresh.Post κs a r' e'
    → (x level : ℕ) → OffPage x → level_of (find_did (Model.fresh (config_of a.0)).state.config x) ≡ level → 0 < level
    → {h k : List Call} → Alike x h k → {xs ys : List Shown} {m n : Held} (p : Runs (within r.server) h xs m) → Runs (within r'.server) k ys n → Below level p
    → (xs ≡ ys) × (held_of m ≡ held_of n)
key-stands_between κs a r e f r' e' f' x level off row high alike p q b =
    fresh_runs (config_of a.0) x level off row high alike (ap (λ (y : Model.Step). y.state) f) (ap (λ (y : Model.Step). y.state) f') p q b

-- lent: from `State::new` and `SecurityState::new`, under a configuration that keeps the numbers, whatever stands in all else that is lent
pub lent-begun : (κs : _) (a : _) (s : State) (e : _) → new.Post κs a s e → (κs' : _) (a' : _) (k : SecurityState) (e' : _) → no_key.Post κs' a' k e'
    → (config subs heads room : List ℕ) → Config.within (config_of config) ≡ true → held_of (beside config s k.words subs heads room) ≡ (Model.fresh (config_of config)).state
unfolding Model.fresh
lent-begun κs a s e f κs' a' k e' g config subs heads room w = f config k.words subs heads room g ∙ rw w
