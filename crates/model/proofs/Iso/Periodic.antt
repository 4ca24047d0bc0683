-- readDataByPeriodicIdentifier against ISO 14229-1: what the transmission modes do to the subscriptions of the asking client.
use Prim.Native.Nat.{ℕ, suc, ◌+◌, ◌≤◌, ◌<◌}
use mathlib.Core.Path.{◌≡◌, refl, sym, subst, ◌∙◌}
use mathlib.Core.Bool.{Bool, true, false, ◌||◌, false≢true}
use mathlib.Core.List.{List, [], ◌∷◌}
use mathlib.Core.Option.{Option, some, none}
use native.Mathlib.Omega.{arith}
use native.Mathlib.Nat.{mod-eq_of_lt}
use lib.ListN.{length}
use borrow.Author.Tests.{le-ltb, le-leb, eq-eqb, ne_eqb, eqb-true}
use Rattle.model.specs.Iso
use Rattle.model.specs.Tests.{pick, any, without}
use Rattle.model.specs.Numbers.{Span, max_periodic}
use Rattle.model.specs.Config.{find_did, readable}
use Rattle.model.specs.Frame.{periodic_did}
use Rattle.model.specs.State.{Subscription}
use Rattle.model.specs.Queue.{negative}
use Rattle.model.specs.Service.{Seen, Effect, schedules}
use Rattle.model.specs.Service2A.{rate_of, is_subscription, subscription, renewed, register, interval_for, registered, register_all, cancel_all, transmission, service2A}
use Rattle.model.proofs.Laws.{left, both}
use Rattle.model.proofs.Iso.Enter.{Entry, entered, kept}
use Rattle.model.proofs.Iso.Frames.{response_of}
use Rattle.model.proofs.Iso.Request.{Refuses, answer}

-- a byte names the identifier whose low byte it is
pub periodic-identifier : (low : ℕ) → low < 256 → periodic_did low ≡ Iso.periodic_identifier low
periodic-identifier low h = rw (mod-eq_of_lt h)

-- the rates are in the order of their names
pub rates : (rate_of Iso.send_at_fast_rate < rate_of Iso.send_at_medium_rate) × (rate_of Iso.send_at_medium_rate < rate_of Iso.send_at_slow_rate)
rates = omega arith

-- an entry of x is sent every so often, first after that span: the mode's rate, or the identifier's own minimum where that is larger
abbrev pub Timed : Seen → ℕ → ℕ → Subscription → Type 0
Timed v mode x e = (e.interval ≡ interval_for v (rate_of mode) x) × (e.next ≡ v.now + interval_for v (rate_of mode) x)

-- x is so subscribed for the asking client
abbrev pub Subscribed : Seen → ℕ → List Subscription → ℕ → Type 0
Subscribed v mode t x = Entry (is_subscription x v.src) (Timed v mode x) t

module _ (v : Seen) (mode : ℕ) where
  abbrev every : ℕ → Span
  every x = interval_for v (rate_of mode) x

  registers : (x : ℕ) (t u : List Subscription) → register x v.src (every x) v.now t ≡ some u → Subscribed v mode u x
  registers x t u e =
      entered (is_subscription x v.src) (Timed v mode x) (renewed (every x) v.now) (λ a h. h) (λ a h. (refl, refl))
      (subscription x v.src (every x) v.now) (both (eq-eqb x x refl) (eq-eqb v.src v.src refl)) (refl, refl) max_periodic t u e

  same : (x y : ℕ) (a : Subscription) → is_subscription y v.src a ≡ true → is_subscription x v.src a ≡ true → y ≡ x
  same x y a h k = sym (eqb-true a.identifier y (left _ _ h)) ∙ eqb-true a.identifier x (left _ _ k)

  keeps : (x y : ℕ) (t u : List Subscription) → register y v.src (every y) v.now t ≡ some u → Subscribed v mode t x → Subscribed v mode u x
  keeps x y t u e g =
      kept (is_subscription x v.src) (Timed v mode x) (is_subscription y v.src) (renewed (every y) v.now) (λ a h. refl)
      (λ a h k. rw (same x y a h k) (refl, refl)) max_periodic (subscription y v.src (every y) v.now) t u e g

  -- an effect whose reply is a positive response
  abbrev Positive : Effect → Type 0
  Positive e = (fields : List ℕ) × (response_of e.reply ≡ some (Iso.positive_response fields))

  -- registering that ends so went on after its first identifier, which is supported and was entered
  record First (b : ℕ) (ids : List ℕ) (t : List Subscription) : Type 0 where
    supported : readable v.session.session_type (find_did v.config (periodic_did b)) ≡ true
    table : List Subscription
    entry : register (periodic_did b) v.src (every (periodic_did b)) v.now t ≡ some table
    rest : register_all v mode (b ∷ ids) t ≡ register_all v mode ids table

  goes : (b : ℕ) (ids : List ℕ) (t : List Subscription) → Positive (register_all v mode (b ∷ ids) t) → First b ids t
  goes b ids t h = go (readable v.session.session_type (find_did v.config (periodic_did b))) refl (register (periodic_did b) v.src (every (periodic_did b)) v.now t) refl h
    where
      go : (w : Bool) → readable v.session.session_type (find_did v.config (periodic_did b)) ≡ w
          → (o : Option (List Subscription)) → register (periodic_did b) v.src (every (periodic_did b)) v.now t ≡ o
          → Positive (pick w (registered v t o (register_all v mode ids)) (schedules v t (negative 0x31))) → First b ids t
      go true e (some u) f h = record { supported = e; table = u; entry = f; rest = rw (e, f) }
      go true e none f h = let g = h.1 in let z : false ≡ true = cc in absurd (false≢true z)
      go false e o f h = let g = h.1 in let z : false ≡ true = cc in absurd (false≢true z)

  later : (x : ℕ) (ids : List ℕ) (t : List Subscription) → Positive (register_all v mode ids t) → Subscribed v mode t x → Subscribed v mode (register_all v mode ids t).periodic x
  later x [] t e g = g
  later x (b ∷ ids) t e g =
      let f = goes b ids t e in
      subst (λ (r : Effect). Subscribed v mode r.periodic x) (sym f.rest) (later x ids f.table (subst Positive f.rest e) (keeps x (periodic_did b) t f.table f.entry g))

  -- a byte's identifier is supported in the session, and subscribed
  abbrev pub Sent : List Subscription → ℕ → Type 0
  Sent t b = (readable v.session.session_type (find_did v.config (periodic_did b)) ≡ true) × Subscribed v mode t (periodic_did b)

  all : (ids : List ℕ) (t : List Subscription) → Positive (register_all v mode ids t) → Iso.Every (Sent (register_all v mode ids t).periodic) ids
  all [] t e = tt
  all (b ∷ ids) t e =
      let f = goes b ids t e in
      let k = subst Positive f.rest e in
      subst (λ (r : Effect). Iso.Every (Sent r.periodic) (b ∷ ids)) (sym f.rest)
      ((f.supported, later (periodic_did b) ids f.table k (registers (periodic_did b) t f.table f.entry)), all ids f.table k)

  module _ (ids : List ℕ) (p : v.payload ≡ mode ∷ ids) (low : Iso.send_at_slow_rate ≤ mode) (high : mode ≤ Iso.send_at_fast_rate) where
    sending : (service2A v).effect ≡ register_all v mode ids v.periodic
    unfolding service2A transmission
    sending =
        let n : mode ≡ 4 → ⊥ = omega arith in
        rw (p, le-ltb (suc (length ids)) 1 (omega arith), ne_eqb mode 4 n, le-leb 1 mode low, le-leb mode 3 high)

    -- modes 1 to 3: after a positive response each identifier asked for is supported, and sent to the client at the mode's rate
    pub sends : (fields : List ℕ) → answer (service2A v) ≡ some (Iso.positive_response fields) → Iso.Every (Sent (service2A v).effect.periodic) ids
    sends fields e =
        subst (λ (r : Effect). Iso.Every (Sent r.periodic) ids) (sym sending)
        (all ids v.periodic (fields, rw sending at e))

  -- and the first identifier that the session does not support is requestOutOfRange
  pub sends_unsupported : (b : ℕ) (ids : List ℕ) → v.payload ≡ mode ∷ b ∷ ids → Iso.send_at_slow_rate ≤ mode → mode ≤ Iso.send_at_fast_rate
      → readable v.session.session_type (find_did v.config (periodic_did b)) ≡ false → Refuses (service2A v) Iso.request_out_of_range
  sends_unsupported b ids p low high e = rw (sending (b ∷ ids) p low high, e)

-- what is without those that pass has none that passes, and gains none
without-none : (p : Subscription → Bool) (t : List Subscription) → any p (without p t) ≡ false
without-none p [] = refl
without-none p (e ∷ t) = go (without-none p t) (p e) refl
  where
    go : any p (without p t) ≡ false → (w : Bool) → p e ≡ w → any p (pick w (without p t) (e ∷ without p t)) ≡ false
    go k true h = k
    go k false h = rw (h, k)

neither : (a b : Bool) → (a || b) ≡ false → (a ≡ false) × (b ≡ false)
neither true b h = absurd (false≢true (sym h))
neither false b h = (refl, h)

without_less : (p q : Subscription → Bool) (t : List Subscription) → any p t ≡ false → any p (without q t) ≡ false
without_less p q [] h = refl
without_less p q (e ∷ t) h = go (neither (p e) (any p t) h).0 (without_less p q t (neither (p e) (any p t) h).1) (q e)
  where
    go : p e ≡ false → any p (without q t) ≡ false → (w : Bool) → any p (pick w (without q t) (e ∷ without q t)) ≡ false
    go f k true = k
    go f k false = rw (f, k)

cancels_less : (p : Subscription → Bool) (client : ℕ) (ids : List ℕ) (t : List Subscription) → any p t ≡ false → any p (cancel_all client ids t) ≡ false
cancels_less p client [] t h = h
cancels_less p client (b ∷ ids) t h = cancels_less p client ids (without (is_subscription (periodic_did b) client) t) (without_less p (is_subscription (periodic_did b) client) t h)

cancels : (client : ℕ) (ids : List ℕ) (t : List Subscription) → Iso.Every (λ b. any (is_subscription (periodic_did b) client) (cancel_all client ids t) ≡ false) ids
cancels client [] t = tt
cancels client (b ∷ ids) t =
    let q = is_subscription (periodic_did b) client in
    (cancels_less q client ids (without q t) (without-none q t), cancels client ids (without q t))

-- mode 4: a positive response, after which none of the identifiers listed is sent to the client
pub stops : (v : Seen) (ids : List ℕ) → v.payload ≡ Iso.stop_sending ∷ ids
    → (answer (service2A v) ≡ some (Iso.positive_response (Iso.stop_sending ∷ []))) × Iso.Every (λ b. any (is_subscription (periodic_did b) v.src) (service2A v).effect.periodic ≡ false) ids
unfolding service2A transmission
stops v ids p = rw (p, le-ltb (suc (length ids)) 1 (omega arith)) (refl, cancels v.src ids v.periodic)
