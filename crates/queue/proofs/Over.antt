-- Laws of bytes put over others: what stands then where, and that writes one after the other are one write.
use Rattle.std.proofs.Common.{◌≡◌, ℕ, ◌+◌, ◌≤◌, List, [], ◌++◌, length, take, drop, refl, sym, ◌∙◌, arith, length-append}
use Rattle.std.proofs.Math.Seq.{paste, take-length, drop-append-le}
use Rattle.std.proofs.lemmas.List.{drop-take, length-take-le}
use Rattle.std.proofs.lemmas.List.Edits.{paste_none, length-paste, take-paste, drop-paste, paste-paste}
use Rattle.std.proofs.lemmas.Slice.{put_mid-paste, take-put_mid_below}
use Rattle.queue.specs.Over.{over}

-- the library's copy, of all of the bytes
pub pasted : (d : List ℕ) (at : ℕ) (xs : List ℕ) → over d at xs ≡ paste d at xs (length xs)
unfolding over
pasted d at xs = sym (rw (take-length xs))

-- nothing put over it
pub over_nothing : (d : List ℕ) (at : ℕ) → over d at [] ≡ d
over_nothing d at = pasted d at [] ∙ sym (paste_none d at [])

module _ (d : List ℕ) (at : ℕ) (xs : List ℕ) (p : at + length xs ≤ length d) where
  pub over-length : length (over d at xs) ≡ length d
  over-length = rw (pasted d at xs) (length-paste d at xs (length xs) p (omega arith))

  -- what stands below is as it was
  pub over_below : (n : ℕ) → n ≤ at → take n (over d at xs) ≡ take n d
  over_below n q = rw (pasted d at xs, ← put_mid-paste at (length xs) d xs xs (length xs) refl refl refl) (take-put_mid_below at (length xs) d xs n q (omega arith))

  -- from a place below, what stood there and then what was put
  pub over_from : (a k : ℕ) → at ≡ a + k → take (k + length xs) (drop a (over d at xs)) ≡ take k (drop a d) ++ xs
  over_from a k e =
      let s : a + (k + length xs) ≡ at + length xs = omega arith in
      let h : a ≤ length (take at d) = omega (arith, length-take-le at d) in
      rw (← drop-take a (k + length xs) (over d at xs), s, pasted d at xs, take-paste d at xs (length xs) (omega arith) (omega arith), take-length xs, drop-append-le a (take at d) xs h, e, drop-take a k d)

  -- what stands above is as it was
  pub over-above : drop (at + length xs) (over d at xs) ≡ drop (at + length xs) d
  over-above = rw (pasted d at xs) (drop-paste d at xs (length xs) (omega arith) (omega arith))

  -- a second write where the first ended
  pub over-over : (m : ℕ) (b : List ℕ) → m ≡ at + length xs → over (over d at xs) m b ≡ over d at (xs ++ b)
  over-over m b e =
      rw (e, pasted (over d at xs) (at + length xs) b, pasted d at xs, pasted d at (xs ++ b), length-append xs b)
      (paste-paste d at xs b (length xs) (length b) refl refl (omega arith))
