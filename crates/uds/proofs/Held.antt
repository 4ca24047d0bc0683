-- What a list that is held means: as many sessions as the slice has, and up to eight of them the slice's own.
use Prim.Native.Nat.{ℕ, ◌+◌, ◌≤◌}
use mathlib.Core.Path.{◌≡◌, refl, ap, ◌∙◌}
use mathlib.Core.List.{List}
use native.Mathlib.Omega.{arith}
use lib.ListN.{length, get_or}
use Rattle.model.specs.Numbers.{max_listed}
use Rattle.uds.specs.Rows.{entry_of, list_of, held_of}
use Rattle.uds.proofs.Tab.{tab-length, tab_list, tab_at}

pub as_many : (s : List ℕ) → length (list_of (held_of s)) ≡ length s
as_many s = tab-length (entry_of (held_of s)) 0 (length s)

pub held : (s : List ℕ) → length s ≤ max_listed → list_of (held_of s) ≡ s
held s h =
    tab_list (entry_of (held_of s)) s (length s) refl
    (λ k q. let e : 0 + k ≡ k = omega arith in tab_at (λ (k : ℕ). get_or s k 0) 0 8 k (omega arith) ∙ ap (λ (j : ℕ). get_or s j 0) e)
