-- What was made, if memory sufficed.
use Rattle.std.specs.Prelude.{◌≡◌, IfOk, Option, option_map}
use Rattle.std.specs.declared.result.Result.{Result}
use Rattle.jd_base.specs.declared.memory.NoMemory.{NoMemory}
use Rattle.jd_syntax.specs.Names.{Name, var_view}
use Rattle.jd_syntax.specs.declared.variable.VarId.{VarId}

-- it is this variable, or there is none
abbrev pub GivesResult : Result (Option VarId) NoMemory → Option Name → Type 0
GivesResult r x = IfOk r (λ v. option_map var_view v ≡ x)
