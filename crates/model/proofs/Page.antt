-- Service 2A leaves subscriptions that lie on the page F200 to F2FF there: it enters no others.
use Prim.Native.Nat.{ℕ}
use mathlib.Core.Path.{◌≡◌}
use mathlib.Core.Bool.{Bool, true, ◌&&◌}
use mathlib.Core.List.{List}
use native.Mathlib.Omega.{arith}
use lib.Dec.{leb}
use borrow.Author.Tests.{le-leb}
use Rattle.model.specs.Tests.{all}
use Rattle.model.specs.Numbers.{max_periodic}
use Rattle.model.specs.Frame.{periodic_did}
use Rattle.model.specs.State.{Subscription}
use Rattle.model.specs.Service.{Seen}
use Rattle.model.specs.Service2A.{rate_of, is_subscription, renewed, subscription, interval_for, register}
use Rattle.model.proofs.Laws.{both, IfSome, all_snoc, all_change, all_without, enter_gives}
use Rattle.model.proofs.Subscribing.{Keeps}

abbrev pub on_page : Subscription → Bool
on_page e = leb 0xF200 e.identifier && leb e.identifier 0xF2FF

abbrev pub Paged : List Subscription → Type 0
Paged l = all on_page l ≡ true

page_did : (b : ℕ) → (leb 0xF200 (periodic_did b) && leb (periodic_did b) 0xF2FF) ≡ true
page_did b = both (le-leb 0xF200 (periodic_did b) (omega arith)) (le-leb (periodic_did b) 0xF2FF (omega arith))

-- an entry renewed keeps its identifier, and a new one has that of a byte
pub page_keeps : (v : Seen) → Keeps Paged v
page_keeps v = record { enters = enters; cancels = λ b t h. all_without (is_subscription (periodic_did b) v.src) on_page t h }
  where
    enters : (mode b : ℕ) (t : List Subscription) → Paged t → IfSome Paged (register (periodic_did b) v.src (interval_for v (rate_of mode) (periodic_did b)) v.now t)
    enters mode b t h =
        let mine = is_subscription (periodic_did b) v.src in
        let i = interval_for v (rate_of mode) (periodic_did b) in
        enter_gives Paged max_periodic mine (renewed i v.now) (subscription (periodic_did b) v.src i v.now) t
        (all_change mine on_page (renewed i v.now) t (λ a z. z) h) (λ n r. all_snoc on_page t (subscription (periodic_did b) v.src i v.now) h (page_did b))
