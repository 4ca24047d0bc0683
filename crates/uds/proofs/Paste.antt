-- What stands where after words were written from a place on: the new ones there, and the old ones elsewhere.
use Prim.Native.Nat.{ℕ, ◌+◌, ◌-◌, ◌≤◌, ◌<◌}
use mathlib.Core.Path.{◌≡◌, sym, ap, ◌∙◌}
use mathlib.Core.List.{List, ◌++◌}
use native.Mathlib.Omega.{arith}
use lib.ListN.{length, get_or, take, drop, get_or-append}
use lib.Seq.{paste, length_paste_head, length-take-le, get_or-append-add, get_or-take, get_or-drop}

module _ (d : List ℕ) (at : ℕ) (s : List ℕ) (n : ℕ) (p : at + n ≤ length d) (q : n ≤ length s) where
  head : length (take at d ++ take n s) ≡ at + n
  head = length_paste_head d at s n (omega arith) q

  pub pasted_in : (k : ℕ) → k < n → get_or (paste d at s n) (at + k) 0 ≡ get_or s k 0
  pasted_in k h =
      let e : length (take at d) ≡ at = length-take-le at d (omega arith) in
      get_or-append (take at d ++ take n s) (drop (at + n) d) 0 (at + k) (omega (arith, head))
      ∙ ap (λ (j : ℕ). get_or (take at d ++ take n s) (j + k) 0) (sym e)
      ∙ get_or-append-add (take at d) (take n s) k 0
      ∙ get_or-take n s k 0 h

  pub pasted_before : (j : ℕ) → j < at → get_or (paste d at s n) j 0 ≡ get_or d j 0
  pasted_before j h =
      let e : length (take at d) ≡ at = length-take-le at d (omega arith) in
      get_or-append (take at d ++ take n s) (drop (at + n) d) 0 j (omega (arith, head))
      ∙ get_or-append (take at d) (take n s) 0 j (omega arith)
      ∙ get_or-take at d j 0 h

  pub pasted_after : (j : ℕ) → at + n ≤ j → get_or (paste d at s n) j 0 ≡ get_or d j 0
  pasted_after j h =
      let e : length (take at d ++ take n s) + (j - (at + n)) ≡ j = omega (arith, head) in
      let b : (at + n) + (j - (at + n)) ≡ j = omega arith in
      ap (λ (i : ℕ). get_or (paste d at s n) i 0) (sym e)
      ∙ get_or-append-add (take at d ++ take n s) (drop (at + n) d) (j - (at + n)) 0
      ∙ get_or-drop (at + n) d (j - (at + n)) 0
      ∙ ap (λ (i : ℕ). get_or d i 0) b
