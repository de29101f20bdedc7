-- The names of the variables for which a step gives what they stand for.
use Rattle.std.specs.Prelude.{List, ℕ}
use Rattle.jd_schema_trees.specs.declared.taclet.InstVar.{InstVar}
use Rattle.jd_row_data.specs.declared.data.GivenData.{GivenData}

abbrev pub inst_name : InstVar → List ℕ
inst_name v = v.name.items

abbrev pub given_name : GivenData → List ℕ
given_name g = g.0.now
