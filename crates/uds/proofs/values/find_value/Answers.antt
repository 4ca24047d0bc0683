-- The first row whose identifier is asked for is the first row that the definition means.
use Rattle.std.proofs.Common.{ap, length, refl, ℕ, ◌/◌, ◌∙◌}
use Rattle.model.specs.Values.{is_value}
use Rattle.uds.specs.Values.{value_at}
use Rattle.uds.specs.Table.{column, is_key, key_place}
use Rattle.uds.proofs.Tab.{finds}
use Rattle.uds.proofs.values.find_value.Goals as goal

pub returns : goal.returns
returns c =
    let a = c.args in
    let w = a.values.now in
    finds (is_value a.identifier) (value_at w) (is_key a.identifier) (column w 0 4) (length w / 4) (length w / 4) c.find.result (λ i. refl) refl (c.find.ensures ∙ ap (λ (k : ℕ). key_place w 0 4 (length w / 4) k) c.from.ensures)
