-- 3E testerPresent: the sub-function (0 if absent) is echoed unless suppressed.
use Rattle.std.specs.Prelude.{[], ◌∷◌}
use Rattle.model.specs.Tests.{pick}
use Rattle.model.specs.Frame.{suppressed, sub_function}
use Rattle.model.specs.Queue.{silent, positive}
use Rattle.model.specs.Service.{Seen, Served, says, answers}

unfoldable pub service3E : Seen → Served
service3E v = answers (says v (pick (suppressed v.payload) silent (positive (sub_function v.payload ∷ []))))
