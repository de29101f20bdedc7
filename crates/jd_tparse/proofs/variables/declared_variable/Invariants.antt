use Rattle.std.proofs.Common.{◌≡◌, drop}
use Rattle.std.specs.List.{find}
use Rattle.std.specs.Str.{bytes_eq}
use Rattle.jd_syntax.specs.Names.{Name}
use Rattle.jd_tparse.specs.Names.{variables}
use Rattle.jd_tparse.proofs.variables.declared_variable.Given as goal

-- none so far has the name
abbrev pub invariant-loop-declared : goal.invariant-loop-declared
invariant-loop-declared l = find (λ (x : Name). bytes_eq x.text l.name) (variables (drop l.declared-index l.vars)) ≡ find (λ (x : Name). bytes_eq x.text l.name) (variables l.vars)
