-- Bytes put over others.
use Rattle.std.specs.Prelude.{ℕ, ◌+◌, List, ◌++◌, length, take, drop}

-- the bytes put over a buffer from a place on, the rest as it was
unfoldable pub over : List ℕ → ℕ → List ℕ → List ℕ
over d at xs = take at d ++ xs ++ drop (at + length xs) d
