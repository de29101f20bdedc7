use Rattle.std.proofs.Common.{◌≡◌, ◌++◌, drop, map}
use Rattle.jd_syntax.specs.JavaTypes.{type_view}
use Rattle.jd_syntax.specs.JavaTrees.{parameter_view}
use Rattle.jd_jinfos.proofs.copies.copy_types.Given as goal

-- what is made so far, and what the rest adds
abbrev pub invariant-loop-parameter : goal.invariant-loop-parameter
invariant-loop-parameter l =
    map type_view l.types.items ++ map (λ p. p.ty.written) (map parameter_view (drop l.parameter-index l.parameters))
    ≡ map (λ p. p.ty.written) (map parameter_view l.parameters)
