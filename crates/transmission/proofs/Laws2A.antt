-- One law for each way out.
use Prim.Native.Nat.{ℕ, ◌≤◌, ◌<◌}
use mathlib.Core.Path.{◌≡◌, ap, sym, ◌∙◌}
use mathlib.Core.Bool.{false≢true}
use mathlib.Core.List.{List, [], ◌∷◌}
use native.Mathlib.Omega.{arith}
use lib.ListN.{length}
use borrow.Author.Tests.{lt-ltb, le-ltb, lt-leb, le-leb, eq-eqb, ne_eqb}
use Rattle.model.specs.Numbers.{max_frame, max_periodic, max_time}
use Rattle.model.specs.Queue.{positive}
use Rattle.model.specs.Service as Rules
use Rattle.model.specs.Service.{Seen, Effect, Served, schedules, answers, refuses}
use Rattle.model.specs.Service2A.{register_all, cancel_all, transmission, service2A}
use Rattle.uds.proofs.Tab.{tab-length}
use Rattle.state.specs.View.{effect_of}
use Rattle.state.specs.declared.apply.Effect as Program
use Rattle.service.specs.Fitted.{fitted}
use Rattle.service.specs.Act.{act_of}
use Rattle.service.specs.Seen.{in_session, received_at, secured, Serves, says_of}
use Rattle.service.specs.declared.Act.{Act}
use Rattle.transmission.specs.View2A.{guarded2A, Schedules}
use Rattle.transmission.specs.declared.service2A.Scheduled.{Scheduled}

-- what stands and what is said, of another equal to it
pub so : (v : Seen) (frames : ℕ) (room : List ℕ) (a b : Served) (r : Scheduled) (subs' room' : List ℕ) → b ≡ a → Schedules v a frames room r subs' room' → Schedules v b frames room r subs' room'
so v frames room a b r subs' room' e q = record { scheduled = ap (fitted max_frame) e ∙ q.scheduled; unseen = q.unseen }

-- the first byte
module _ (v : Seen) where
  pub short : length v.payload < 1 → service2A v ≡ refuses v 0x13
  unfolding service2A
  short h = rw (lt-ltb (length v.payload) 1 h)

  module _ (mode : ℕ) (ids : List ℕ) (p : v.payload ≡ mode ∷ ids) where
    by_mode : service2A v ≡ transmission v mode ids
    unfolding service2A
    by_mode = rw (p, le-ltb (length (mode ∷ ids)) 1 (omega arith))

    pub cancels : mode ≡ 4 → service2A v ≡ answers (schedules v (cancel_all v.src ids v.periodic) (positive (mode ∷ [])))
    unfolding transmission
    cancels e = by_mode ∙ rw (eq-eqb mode 4 e)

    module _ (n : mode ≡ 4 → ⊥) where
      pub zero-mode : mode < 1 → service2A v ≡ refuses v 0x12
      unfolding transmission
      zero-mode e = by_mode ∙ rw (ne_eqb mode 4 n, lt-leb 1 mode e)

      pub high-mode : 3 < mode → service2A v ≡ refuses v 0x12
      unfolding transmission
      high-mode e = let k : 1 ≤ mode = omega arith in by_mode ∙ rw (ne_eqb mode 4 n, le-leb 1 mode k, lt-leb mode 3 e)

      pub registers : 1 ≤ mode → mode ≤ 3 → service2A v ≡ answers (register_all v mode ids v.periodic)
      unfolding transmission
      registers a b = by_mode ∙ rw (ne_eqb mode 4 n, le-leb 1 mode a, le-leb mode 3 b)

-- the refusals of `transmission`
pub ruleset ways2A = (short, zero-mode, high-mode)

-- the count and the time
module _ (v : Seen) where
  pub too_many : max_periodic < length v.periodic → guarded2A v ≡ refuses v 0x22
  unfolding guarded2A
  too_many h = rw (lt-leb (length v.periodic) max_periodic h)

  module _ (few : length v.periodic ≤ max_periodic) where
    pub too_late : max_time < v.now → guarded2A v ≡ refuses v 0x22
    unfolding guarded2A
    too_late l = rw (le-leb (length v.periodic) max_periodic few, lt-leb v.now max_time l)

    pub ready : v.now ≤ max_time → guarded2A v ≡ service2A v
    unfolding guarded2A
    ready l = rw (le-leb (length v.periodic) max_periodic few, le-leb v.now max_time l)

-- the ways out of `guarded`, where as many subscriptions stand as are counted
pub ruleset guards = (too_many, too_late, ready, tab-length)

-- an effect on the subscriptions alone
pub wanted : (f : Seen → Served) (v : Seen) (session level t : ℕ) (k subs : List ℕ) (frames : ℕ) (room : List ℕ) (s : Scheduled) (e : Program.Effect) (act : Act) (subs' room' : List ℕ)
    → e ≡ says_of session level s.count s.reply → act_of act ≡ Rules.no_act → Schedules (in_session session level (received_at t (secured k v))) (f (in_session session level (received_at t (secured k v)))) frames room s subs' room'
    → Serves f (in_session session level (received_at t (secured k v))) k subs frames room (record { effect = e; act = act }) k subs' room'
wanted f v session level t k subs frames room s e act subs' room' z n q = record {
  served = q.scheduled ∙ ap (λ (a : Rules.Act). record { act = a; effect = effect_of (says_of session level s.count s.reply) t k subs' frames room' }) (sym n) ∙ ap (λ (x : Program.Effect). record { act = act_of act; effect = effect_of x t k subs' frames room' }) (sym z);
  unseen = q.unseen;
  kept = λ w. absurd (false≢true (sym (ap (λ (x : Program.Effect). x.waits) z) ∙ w));
}
