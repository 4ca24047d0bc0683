-- What is put behind a text, piece by piece, and cut at the line's end is what is put there at once.
use Prim.Native.Nat.{ℕ, zero, suc, ◌+◌, ◌/◌, ◌%◌, ◌<◌, ◌-◌, min}
use mathlib.Core.Path.{◌≡◌, refl, ap, sym, ◌∙◌}
use mathlib.Core.List.{List, [], ◌∷◌, ◌++◌, append_assoc, append-nil}
use native.Mathlib.Omega.{arith}
use native.Mathlib.Numerals.{add-one}
use lib.ListN.{length, take, drop, get_or, length-take}
use lib.Seq.{drop-cons, take-append-add}
use Rattle.std.proofs.lemmas.List.{take_min}
use Rattle.model.specs.Text.{digit, hex}
use Rattle.lines.specs.View.{appended}

-- cut before and after is cut after
pub cut_twice : (n : ℕ) (x y : List ℕ) → take n (take n x ++ y) ≡ take n (x ++ y)
cut_twice zero x y = refl
cut_twice (suc n) [] y = refl
cut_twice (suc n) (a ∷ x) y = ap (λ (l : List ℕ). a ∷ l) (cut_twice n x y)

-- two words behind a text
pub more : (t a b : List ℕ) → appended (appended t a) b ≡ appended t (a ++ b)
more t a b = cut_twice 640 (t ++ a) b ∙ rw append_assoc

-- nothing behind a text that is cut
pub nothing_more : {u : List ℕ} (t a : List ℕ) → u ≡ appended t a → u ≡ appended u []
nothing_more t a e = rw e (sym (more t a [] ∙ ap (appended t) (append-nil a)))

-- what has room of a word, put behind a text: it is the text with the word, cut at the line's end
pub cut : (line word part : List ℕ) (at from n : ℕ) → from ≡ min at (length line) → n ≡ min (length line - from) (length word) → part ≡ take n word
    → take from line ++ part ≡ take (length line) (take at line ++ word)
cut line word part at from n e f g =
    let stands : take from line ≡ take at line = rw e (take_min at line) in
    let fits : part ≡ take (length line - from) word = rw (g, f) (take_min (length line - from) word) in
    let long : length line ≡ length (take at line) + (length line - from) = omega (arith, length-take at line) in
    rw (stands, fits) (sym (ap (λ (k : ℕ). take k (take at line ++ word)) long ∙ take-append-add (take at line) word (length line - from)))

-- a byte's two digits, and those of the bytes behind it
pub spelt : (high : ℕ) (bytes : List ℕ) (i a b : ℕ) → i < length bytes → a ≡ digit high (get_or bytes i 0 / 16) → b ≡ digit high (get_or bytes i 0 % 16) → (a ∷ b ∷ []) ++ hex high (drop (i + 1) bytes) ≡ hex high (drop i bytes)
spelt high bytes i a b h p q = rw (p, q, add-one, drop-cons bytes i 0 h)
