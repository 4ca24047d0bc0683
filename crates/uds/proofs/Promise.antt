-- What it is that nothing else meets a function's promise.
use mathlib.Core.Path.{◌≡◌}

-- `P` is a contract at given arguments: a claim of an answer and of what is left in all that was lent. It settles what `Same` compares:
-- of two answers that meet it, each with what it leaves, that much is the same
abbrev pub Settles : {R S : Type 0} → (R → S → Type 0) → (R → S → R → S → Type 0) → Type 0
Settles {R} {S} P Same = (x : R) (e : S) (y : R) (f : S) → P x e → P y f → Same x e y f

-- the answer itself
abbrev pub Answer : {R S : Type 0} → R → S → R → S → Type 0
Answer x e y f = x ≡ y
