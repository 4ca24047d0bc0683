-- The key stands between: two histories from a fresh server that differ only in what the value tables say of an identifier behind a
-- level, and in the key bytes of sendKey, show the same and leave the same states while the held level is below.
use Prim.Native.Nat.{ℕ, suc, zero, ◌≤◌, ◌<◌}
use mathlib.Core.Path.{◌≡◌, refl, ap, ◌∙◌}
use mathlib.Core.Bool.{true}
use mathlib.Core.List.{List, [], ◌∷◌}
use mathlib.Core.Option.{Option, some, none}
use native.Mathlib.Omega.{arith}
use lib.ListN.{length, take}
use lib.Dec.{leb}
use borrow.Author.Tests.{leb-true}
use Rattle.model.specs.Tests.{all}
use Rattle.model.specs.Numbers.{Moment}
use Rattle.model.specs.Config.{Config, ServiceConfig, find_did, find_service, level_of}
use Rattle.model.specs.Values.{Given, given0, Table, empty_table}
use Rattle.model.specs.Frame.{payload_of, sid_of}
use Rattle.model.specs.State.{Subscription, PendingRequest, AddressMode, State, received, fresh}
use Rattle.model.specs.Service.{Seen}
use Rattle.model.specs.Request.{Request, service, guarded, seen, heard, addressed, routed, request}
use Rattle.model.specs.Question.{question}
use Rattle.model.specs.Tick.{s3, refreshed, Passed, pass_one, pass_all, begins, periodic, then_periodic, tick}
use Rattle.model.specs.History.{Call, Done, call, run, shows}
use Rattle.model.specs.Alike.{AlikeRows, AlikeTable, AlikeFrame, AlikeCall, Alike, OffPage, inbound, asking}
use Rattle.model.proofs.Laws.{left, right}
use Rattle.model.proofs.Blind.{seeing, blind27}
use Rattle.model.proofs.Secret.{value_alike, alike_service}
use Rattle.model.proofs.Page.{on_page, Paged}
use Rattle.model.proofs.Kept.{Kept, kept-refreshed, kept-call, kept_fresh}

-- what a service sees does not tell which of two tables is at hand
module _ (x level : ℕ) (t u : Table) (alike : AlikeTable x t u) where
  alike_guarded : (v : Seen) (p : List ℕ) → level_of (find_did v.config x) ≡ level → v.session.level < level
      → (sid : ℕ) (o : Option ServiceConfig) → guarded sid (seeing v p t) o ≡ guarded sid (seeing v p u) o
  unfolding guarded
  alike_guarded v p row low sid none = refl
  alike_guarded v p row low sid (some r) = rw (alike_service x level v t u p row low alike sid)

  -- nor which of two keys of one length
  alike_key : (v : Seen) (access : ℕ) (k m : List ℕ) → length k ≡ length m → (o : Option ServiceConfig) → guarded 0x27 (seeing v (access ∷ k) t) o ≡ guarded 0x27 (seeing v (access ∷ m) u) o
  unfolding guarded service
  alike_key v access k m l none = refl
  alike_key v access k m l (some r) = rw (blind27 v (access ∷ k) (access ∷ m) t u refl (ap suc l))

  module _ (limit : ℕ) (now : Moment) (src dst : ℕ) (g : Given) where
    abbrev one : List ℕ → Request
    one f = asking (inbound now src dst f) g t

    abbrev two : List ℕ → Request
    two f = asking (inbound now src dst f) g u

    -- a request
    alike_heard : (s : State) (f e : List ℕ) (o : Option PendingRequest) → level_of (find_did s.config x) ≡ level → s.session.level < level → AlikeFrame f e → heard limit s (one f) o ≡ heard limit s (two e) o
    unfolding heard
    alike_heard s f e none row low AlikeFrame.same = rw (alike_guarded (seen limit s (one f)) (payload_of f) row low (sid_of f) (find_service s.config (sid_of f)))
    alike_heard s f e none row low (AlikeFrame.keys {access = a} {k = k} {m = m} even l) = rw (l, alike_key (seen limit s (one (0x27 ∷ a ∷ k))) a k m l (find_service s.config 0x27))
    alike_heard s f e (some p) row low AlikeFrame.same = refl
    alike_heard s f e (some p) row low (AlikeFrame.keys even l) = refl

    alike_routed : (s : State) (f e : List ℕ) (o : Option AddressMode) → level_of (find_did s.config x) ≡ level → s.session.level < level → AlikeFrame f e → routed limit s (one f) o ≡ routed limit s (two e) o
    unfolding routed
    alike_routed s f e none row low a = refl
    alike_routed s f e (some m) row low a = alike_heard (received s m now) f e s.pending row low a

    pub alike_request : (s : State) (f e : List ℕ) → level_of (find_did s.config x) ≡ level → s.session.level < level → AlikeFrame f e → request limit s (one f) ≡ request limit s (two e)
    unfolding request
    alike_request s f e row low a = rw (alike_routed s f e (addressed s.config dst) row low a)

  -- a tick reads only identifiers of the page
  module _ (limit : ℕ) (now : Moment) (off : OffPage x) where
    alike_one : (a : Passed) (e : Subscription) → on_page e ≡ true → pass_one limit now t a e ≡ pass_one limit now u a e
    unfolding pass_one
    alike_one a e h = rw (value_alike limit x e.identifier t u other alike)
      where
        low : 0xF200 ≤ e.identifier
        low = leb-true 0xF200 e.identifier (left (leb 0xF200 e.identifier) (leb e.identifier 0xF2FF) h)

        high : e.identifier ≤ 0xF2FF
        high = leb-true e.identifier 0xF2FF (right (leb 0xF200 e.identifier) (leb e.identifier 0xF2FF) h)

        other : e.identifier ≡ x → ⊥
        other z = off (rw z at low) (rw z at high)

    alike_all : (es : List Subscription) (a : Passed) → Paged es → pass_all limit now t es a ≡ pass_all limit now u es a
    alike_all [] a h = refl
    alike_all (e ∷ es) a h = rw (alike_one a e (left (on_page e) (all on_page es) h)) (alike_all es (pass_one limit now u a e) (right (on_page e) (all on_page es) h))

    pub alike_tick : (c : Config) (s : State) → Kept c s → tick limit s now t ≡ tick limit s now u
    unfolding tick then_periodic
    alike_tick c s k =
        let p = refreshed (s3 s now) now s.pending in
        rw (alike_all p.state.periodic (begins p.state) (kept-refreshed c s now k).page)

-- the empty table is like itself
alike_empty : (x : ℕ) → AlikeTable x empty_table empty_table
alike_empty x = record { rows = AlikeRows.none; pools = refl; bytes = λ k n. absurd (n refl) }

-- one call
module _ (limit : ℕ) (c : Config) (x level : ℕ) (off : OffPage x) (row : level_of (find_did c x) ≡ level) where
  row_of : (s : State) → Kept c s → level_of (find_did s.config x) ≡ level
  row_of s k = ap (λ (d : Config). level_of (find_did d x)) k.config ∙ row

  alike_call : (s : State) {a b : Call} → Kept c s → s.session.level < level → AlikeCall x a b → call limit s a ≡ call limit s b
  unfolding call question
  alike_call s k low (AlikeCall.request {now = now} {src = src} {dst = dst} {f = f} {e = e} {g = g} {t = t} {u = u} frames tables) =
      rw (alike_request x level t u tables limit now src dst g s f e (row_of s k) low frames)
  alike_call s k low (AlikeCall.question {now = now} {src = src} {dst = dst} {f = f} {e = e} frames) =
      rw (alike_request x level empty_table empty_table (alike_empty x) limit now src dst given0 s f e (row_of s k) low frames)
  alike_call s k low (AlikeCall.tick {now = now} {t = t} {u = u} tables) = rw (alike_tick x level t u tables limit now off c s k)
  alike_call s k low AlikeCall.complete = refl
  alike_call s k low AlikeCall.fail = refl
  alike_call s k low AlikeCall.drain = refl

  -- the held level is below before each of the first n calls
  abbrev pub Below : State → List Call → ℕ → Type 0
  Below s h n = (i : ℕ) → i < n → (run limit s (take i h)).session.level < level

  alike_run : (n : ℕ) (s : State) {h k : List Call} → Kept c s → Alike x h k → Below s h n → (shows limit s (take n h) ≡ shows limit s (take n k)) × (run limit s (take n h) ≡ run limit s (take n k))
  alike_run zero s i a low = (refl, refl)
  alike_run (suc n) s i Alike.end low = (refl, refl)
  alike_run (suc n) s i (Alike.and {c = a} {d = b} {h = h} {k = k} first rest) low =
      let e : call limit s a ≡ call limit s b = alike_call s i (low 0 (omega arith)) first in
      let r = alike_run n (call limit s a).state (kept-call c limit s a i) rest (λ j z. low (suc j) (omega arith)) in
      (rw (← e) (ap ((call limit s a).shown ∷◌) r.0), r.1 ∙ ap (λ (d : Done). run limit d.state (take n k)) e)

-- from a fresh server: for an identifier off the page, whose first row has a level above zero, and for every n, while the held level
-- is below it before each of the first n calls, all that those calls show, and the state and queue after them, are the same in both
pub between : (limit : ℕ) (c : Config) (x level : ℕ) → OffPage x → level_of (find_did (fresh c).state.config x) ≡ level → 0 < level
    → (h k : List Call) → Alike x h k → (n : ℕ)
    → ((i : ℕ) → i < n → (run limit (fresh c).state (take i h)).session.level < level)
    → (shows limit (fresh c).state (take n h) ≡ shows limit (fresh c).state (take n k)) × (run limit (fresh c).state (take n h) ≡ run limit (fresh c).state (take n k))
between limit c x level off row high h k a n low = alike_run limit (fresh c).state.config x level off row n (fresh c).state (kept_fresh c) a low
