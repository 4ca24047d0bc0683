-- A fresh server, and the one that stands in for a configuration that does not keep the numbers.
use mathlib.Core.Path.{◌≡◌, ap, ◌∙◌}
use mathlib.Core.Bool.{true, false}
use Rattle.model.specs.Config.{Config, empty_config, within}
use Rattle.model.specs.State.{State, step, fresh_state, fresh}

pub fresh_kept : (c : Config) (s : State) → within c ≡ true → s ≡ fresh_state c → step 0 s ≡ fresh c
unfolding fresh
fresh_kept c s w e = rw w (ap (step 0) e)

pub fresh-refused : (c d : Config) (s : State) → within c ≡ false → s ≡ fresh_state d → d ≡ empty_config → step 7 s ≡ fresh c
unfolding fresh
fresh-refused c d s w e f = rw w (ap (step 7) (e ∙ ap fresh_state f))
