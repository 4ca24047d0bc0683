use Rattle.std.proofs.Common.{List, [], ap, arith, drop, drop_of_length-le, refl, sym, ℕ, ◌+◌, ◌∙◌, ◌∷◌, ◌≡◌}
use Rattle.model.specs.Text.{hex}
use Rattle.lines.specs.View.{text_of, appended, gap}
use Rattle.lines.proofs.Laws.{spelt, more, nothing_more}
use Rattle.lines.proofs.Line.digits.Goals as goal

pub loop-b-init : goal.loop-b-init
loop-b-init c = let t = text_of c.args.self in (nothing_more t (gap t) c.gap-line.ensures, refl)

pub loop-b-preserved : goal.loop-b-preserved
loop-b-preserved c =
    let a = c.args in
    let l = c.loop-b in
    let x = c.digit in
    let y = c.digit-in-loop-b in
    let u = text_of l.line in
    let pair = x.result ∷ y.result ∷ [] in
    let rest = hex a.high (drop (l.b-index + 1) a.bytes.now) in (
      nothing_more u pair c.text-line.ensures,
      ap (λ (t : List ℕ). appended t rest) c.text-line.ensures ∙ more u pair rest
          ∙ ap (appended u) (spelt a.high a.bytes.now l.b-index x.result y.result (omega arith) x.ensures y.ensures) ∙ l.invariant.1,
    )

pub returns : goal.returns
returns c =
    let a = c.args in
    let l = c.loop-b in
    let t = text_of a.self in
    let n : drop l.b-index a.bytes.now ≡ [] = drop_of_length-le a.bytes.now {i = l.b-index} (omega arith) in
    l.invariant.0 ∙ ap (λ (b : List ℕ). appended (text_of l.line) (hex a.high b)) (sym n) ∙ l.invariant.1
    ∙ ap (λ (u : List ℕ). appended u (hex a.high a.bytes.now)) c.gap-line.ensures ∙ more t (gap t) (hex a.high a.bytes.now)
