-- A line of text as a list of bytes, and what may be put behind it.
use Rattle.std.specs.Prelude.{ℕ, Bool, cond, List, [], ◌∷◌, ◌++◌, length, take, nat_eq}
use Rattle.lines.specs.declared.Line.{Line}

-- what a line says: as many of its bytes as are counted
abbrev pub text_of : Line → List ℕ
text_of l = take l.len l.bytes

-- a text with a word behind it, cut at the end of the line
abbrev pub appended : List ℕ → List ℕ → List ℕ
appended text word = take 640 (text ++ word)

-- a blank, but not at the start of a line
abbrev pub gap : List ℕ → List ℕ
gap text = cond (nat_eq (length text) 0) [] (32 ∷ [])

-- one digit for a yes or a no
abbrev pub flag_of : Bool → List ℕ
flag_of b = cond b (49 ∷ []) (48 ∷ [])
