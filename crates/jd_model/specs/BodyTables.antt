-- Tables whose bodies leave the heap's variable to the heap.
use Rattle.std.specs.Prelude.{All}
use Rattle.jd_syntax.specs.Names.{Declared}
use Rattle.jd_model.specs.Occurrences.{Always, CodeIn}
use Rattle.jd_model.specs.Bodies.{NotHeap}
use Rattle.jd_model.specs.ContractForms.{PlainBody, PlainContracts}

-- code has variables of the sorts Int, Bool and Ref alone, so that no body declares or assigns the heap's variable
pub record RowAssignsNoHeap (b : PlainBody) : Type 0 where
  pub variables : All (λ (v : Declared). NotHeap v.name) b.vars
  pub code : CodeIn Always NotHeap b.code

-- so it is of each row
abbrev pub BodiesAssignNoHeap : PlainContracts → Type 0
BodiesAssignNoHeap t = All RowAssignsNoHeap t.bodies
