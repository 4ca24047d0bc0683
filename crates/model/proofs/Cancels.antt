-- 2A with mode 4 cancels the listed identifiers of the asking client and nothing else: all other subscriptions stay, in their order.
use Prim.Native.Nat.{ℕ, suc}
use mathlib.Core.Path.{◌≡◌, refl, ap, ◌∙◌}
use mathlib.Core.Bool.{Bool, true, false, ◌||◌}
use mathlib.Core.List.{List, [], ◌∷◌}
use mathlib.Core.Option.{some}
use native.Mathlib.Omega.{arith}
use lib.ListN.{length}
use borrow.Author.Tests.{le-ltb}
use Rattle.model.specs.Tests.{pick, any, without}
use Rattle.model.specs.Numbers.{max_frame}
use Rattle.model.specs.Config.{ServiceConfig, find_service, allowed_in}
use Rattle.model.specs.Values.{given0, empty_table}
use Rattle.model.specs.Frame.{sid_of, periodic_did}
use Rattle.model.specs.State.{AddressMode, Subscription, State, fresh_state}
use Rattle.model.specs.Queue.{positive}
use Rattle.model.specs.Service.{Seen, Effect, Served, schedules, apply}
use Rattle.model.specs.Service2A.{is_subscription, subscription, cancel_all, transmission, service2A}
use Rattle.model.specs.Request.{Request, seen, served, service, request}
use Rattle.model.specs.History.{Call, requests, run}
use Rattle.model.specs.Fixed.{fixed_config}
use Rattle.model.specs.Alike.{inbound, asking}
use Rattle.model.proofs.Open.{whole}
use Rattle.model.proofs.Leaves.Replies.{apply_stays}
use Rattle.model.proofs.Iso.Request.{Arrives, found, arrives, serves}

-- a subscription of a client to one of the listed identifiers
abbrev pub listed : ℕ → List ℕ → Subscription → Bool
listed client ids e = any (λ b. is_subscription (periodic_did b) client e) ids

-- without none is the whole list, and without some and then others is without either
without-none : {A : Type 0} (l : List A) → without (λ a. false) l ≡ l
without-none [] = refl
without-none (a ∷ l) = rw (without-none l)

without-both : {A : Type 0} (p q : A → Bool) (l : List A) → without q (without p l) ≡ without (λ a. p a || q a) l
without-both p q [] = refl
without-both p q (a ∷ l) = go (p a) (q a) refl (without-both p q l)
  where
    go : (s t : Bool) → q a ≡ t → without q (without p l) ≡ without (λ b. p b || q b) l
        → without q (pick s (without p l) (a ∷ without p l)) ≡ pick (s || t) (without (λ b. p b || q b) l) (a ∷ without (λ b. p b || q b) l)
    go true t e k = k
    go false true e k = rw (e, k)
    go false false e k = rw (e, k)

-- the listed ones cancelled one after the other is the table without them
pub cancelled : (client : ℕ) (ids : List ℕ) (t : List Subscription) → cancel_all client ids t ≡ without (listed client ids) t
cancelled client [] t = rw (without-none t)
cancelled client (b ∷ ids) t =
    cancelled client ids (without (is_subscription (periodic_did b) client) t) ∙ without-both (is_subscription (periodic_did b) client) (listed client ids) t

-- so the service wants the table without them, says 04, and changes nothing else
pub cancels_only : (v : Seen) (ids : List ℕ) → v.payload ≡ 4 ∷ ids → (service2A v).effect ≡ schedules v (without (listed v.src ids) v.periodic) (positive (4 ∷ []))
unfolding service2A transmission
cancels_only v ids p = rw (p, le-ltb (suc (length ids)) 1 (omega arith), cancelled v.src ids v.periodic)

-- and a request that comes as far as its service leaves that table, whatever its reply meets
module _ (limit : ℕ) (s : State) (r : Request) (m : AddressMode) (a : Arrives limit s r m) (row : ServiceConfig) where
  pub request_cancels : (ids : List ℕ) → r.inbound.frame ≡ 0x2A ∷ 4 ∷ ids → find_service s.config 0x2A ≡ some row → allowed_in s.session.session_type row ≡ true
      → (request limit s r).step.state.periodic ≡ without (listed r.inbound.src ids) s.periodic
  unfolding service
  request_cancels ids f e k =
      rw (arrives limit s r m a)
      (go (served limit u r).effect (ap (λ (b : Served). b.effect) (serves limit s r m a row (rw f e) k) ∙ rw f (cancels_only v ids refl)))
    where
      u : State
      u = found limit s r m a

      v : Seen
      v = seen limit u (record { inbound = record { time = r.inbound.time; src = r.inbound.src; dst = r.inbound.dst; frame = 0x2A ∷ 4 ∷ ids }; given = r.given; table = r.table })

      go : (x : Effect) → x ≡ schedules v (without (listed r.inbound.src ids) s.periodic) (positive (4 ∷ []))
          → (apply limit u r.inbound.src (sid_of r.inbound.frame) r.inbound.time x).state.periodic ≡ without (listed r.inbound.src ids) s.periodic
      go x e = rw e (apply_stays limit u r.inbound.src (sid_of r.inbound.frame) r.inbound.time (schedules v (without (listed r.inbound.src ids) s.periodic) (positive (4 ∷ []))) refl).periodic_is

-- such a request: of two clients of F201 the one that cancels it is gone, the other stays
abbrev mode : ℕ → ℕ → Call
mode n client = requests (asking (inbound 5 client 16 (0x2A ∷ n ∷ 1 ∷ [])) given0 empty_table)

pub other_stays : (run max_frame (fresh_state fixed_config) (mode 3 3712 ∷ mode 3 3713 ∷ mode 4 3712 ∷ [])).periodic ≡ subscription 0xF201 3713 50 5 ∷ []
unfolding whole
other_stays = refl
