use Rattle.std.proofs.Common.{◌≡◌, ◌++◌, map, drop}
use Rattle.jd_syntax.specs.Names.{const_decl_view}
use Rattle.jd_model.specs.Tables.{constants_of_parameters}
use Rattle.jd_obligation_makers.specs.Starts.{decl_name}
use Rattle.jd_case_obligations.proofs.constants.add_parameters.Given as goal

-- what is there, and what those that are left add
abbrev pub invariant-loop-v : goal.invariant-loop-v
invariant-loop-v l =
    map const_decl_view l.to.items ++ constants_of_parameters (map decl_name (drop l.v-index l.vars)) ≡ map const_decl_view l.fn.to.items ++ constants_of_parameters (map decl_name l.fn.vars)
