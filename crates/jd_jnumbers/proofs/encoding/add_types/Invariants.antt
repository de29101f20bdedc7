use Rattle.std.proofs.Common.{◌≡◌, ◌++◌, drop, map}
use Rattle.jd_syntax.specs.JavaTrees.{parameter_view}
use Rattle.jd_jnumbers.specs.Encoding.{encoded_types, types_of}
use Rattle.jd_jnumbers.proofs.encoding.add_types.Given as goal

-- what is made so far, and what the rest adds
abbrev pub invariant-loop-parameter : goal.invariant-loop-parameter
invariant-loop-parameter l =
    l.text.items ++ encoded_types (types_of (map parameter_view (drop l.parameter-index l.parameters)))
    ≡ l.fn.text.items ++ encoded_types (types_of (map parameter_view l.parameters))
