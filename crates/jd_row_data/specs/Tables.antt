-- The rows that are made.
use Rattle.std.specs.Global.{Vec}
use Rattle.std.specs.Prelude.{IfOk, List, map, ◌≡◌}
use Rattle.std.specs.declared.result.Result.{Result}
use Rattle.jd_base.specs.declared.memory.NoMemory.{NoMemory}
use Rattle.jd_schema_trees.specs.TacletViews.{taclet}
use Rattle.jd_schema_trees.specs.declared.taclet.Taclet.{Taclet}
use Rattle.jd_taclets.specs.Taclets as plain

abbrev pub GivesRow : Result Taclet NoMemory → plain.Taclet → Type 0
GivesRow r x = IfOk r (λ v. taclet v ≡ x)

abbrev pub GivesRows : Result (Vec Taclet) NoMemory → List plain.Taclet → Type 0
GivesRows r l = IfOk r (λ v. map taclet v.items ≡ l)
