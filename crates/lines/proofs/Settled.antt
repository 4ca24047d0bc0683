-- Nothing else meets the promises: two lines that meet one say the same. Each public function by its contract.
use mathlib.Core.Path.{◌≡◌, sym, ◌∙◌}
use Rattle.std.specs.Prelude.{ℕ, Result, Ok}
use Rattle.uds.proofs.Promise.{Settles}
use Rattle.lines.specs.declared.Line.{Line}
use Rattle.lines.specs.View.{text_of}
use Rattle.lines.proofs.Line.new.Reads as new
use Rattle.lines.proofs.Line.text.Reads as text
use Rattle.lines.proofs.Line.word.Reads as word
use Rattle.lines.proofs.Line.number.Reads as number
use Rattle.lines.proofs.Line.flag.Reads as flag
use Rattle.lines.proofs.Line.hex.Reads as hex
use Rattle.lines.proofs.Line.lower_hex.Reads as lower-hex
use Rattle.lines.proofs.Line.print.Reads as print

-- what a line says; not the bytes past its length
abbrev SameText : {S : Type 0} → Line → S → Line → S → Type 0
SameText x e y f = text_of x ≡ text_of y

-- how many bytes were handed over; an error of a write says nothing of them
abbrev SameCount : {S E : Type 0} → Result ℕ E → S → Result ℕ E → S → Type 0
SameCount x e y f = (m n : ℕ) → x ≡ Ok m → y ≡ Ok n → m ≡ n

pub new_settled : (κs : _) (a : _) → Settles (new.Post κs a) SameText
new_settled κs a x e y f p q = p ∙ sym q

pub text_settled : (κs : _) (a : _) → Settles (text.Post κs a) SameText
text_settled κs a x e y f p q = p ∙ sym q

pub word_settled : (κs : _) (a : _) → Settles (word.Post κs a) SameText
word_settled κs a x e y f p q = p ∙ sym q

pub number_settled : (κs : _) (a : _) → Settles (number.Post κs a) SameText
number_settled κs a x e y f p q = p ∙ sym q

pub flag_settled : (κs : _) (a : _) → Settles (flag.Post κs a) SameText
flag_settled κs a x e y f p q = p ∙ sym q

pub hex_settled : (κs : _) (a : _) → Settles (hex.Post κs a) SameText
hex_settled κs a x e y f p q = p ∙ sym q

pub lower_hex_settled : (κs : _) (a : _) → Settles (lower-hex.Post κs a) SameText
lower_hex_settled κs a x e y f p q = p ∙ sym q

pub print_settled : (κs : _) (a : _) (g : _) (d : _) (h : _) (o : _) → Settles (print.Post κs a g d h o) SameCount
print_settled κs a g d h o x e y f p q m n i j = (rw i at p) ∙ sym (rw j at q)
