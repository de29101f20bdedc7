-- The body that runs for a case, and what its row does not tell.
use Rattle.std.specs.Prelude.{◌≡◌, map, option_map, take}
use Rattle.jd_syntax.specs.CodeViews.{code_view}
use Rattle.jd_model.specs.Cases.{Contract}
use Rattle.jd_model.specs.Programs.{Body}
use Rattle.jd_model.specs.Tables.{receiver_then}
use Rattle.jd_oblig.specs.KeptByObligations.{sort_of_result}
use Rattle.jd_obligation_makers.specs.Parts.{has_name}
use Rattle.jd_obligation_makers.specs.Starts.{decl_name}
use Rattle.jd_case_obligations.specs.Listed.{keeps_invariant}
use Rattle.jd_case_obligations.specs.declared.obligations.Running.{Running}
use Rattle.jd_case_obligations.specs.declared.obligations.Untold.{Untold}

-- its first variables are the body's receiver, where there is one, and parameters, and its code is the body's
pub record IsRunning (r : Running) (b : Body) : Type 0 where
  pub receiver : r.has_receiver ≡ has_name b.receiver
  pub variables : map decl_name (take r.parameters r.variables.now) ≡ receiver_then b.receiver b.parameters
  pub code : b.code ≡ code_view r.code.now

-- the result's sort, and whether the invariant is kept, as the contract has it
pub record IsUntold (u : Untold) (k : Contract) : Type 0 where
  pub outcome : option_map sort_of_result k.result ≡ u.result
  pub keeps : keeps_invariant k.role ≡ u.keeps_invariant
