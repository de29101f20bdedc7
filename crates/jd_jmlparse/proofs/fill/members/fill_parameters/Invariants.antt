use Rattle.std.proofs.Common.{◌≡◌, length, map, take}
use Rattle.std.specs.List.{flat_map}
use Rattle.jd_lex.specs.View.{tokens_view}
use Rattle.jd_syntax.specs.JavaTrees.{parameter_view}
use Rattle.jd_jmlparse.specs.Filled.{bare_parameter, parameter_blocks}
use Rattle.jd_jmlparse.specs.Filling.{Goes}
use Rattle.jd_jmlparse.proofs.fill.members.fill_parameters.Given as goal

abbrev pub invariant-loop-i : goal.invariant-loop-i
invariant-loop-i l =
    (length l.parameters ≡ length l.fn.parameters)
    × (map bare_parameter (map parameter_view l.parameters) ≡ map bare_parameter (map parameter_view l.fn.parameters))
    × Goes (tokens_view l.tokens) l.fn.first (flat_map parameter_blocks (map parameter_view (take l.i l.parameters))) l.first
