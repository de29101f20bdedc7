use Rattle.std.proofs.Common.{◌≡◌, map, take}
use Rattle.jd_row_makers.specs.Heads.{parameter_view}
use Rattle.jd_term.specs.TermViews.{term_view}
use Rattle.jd_case_clauses.specs.Spelled.{parameter_term}
use Rattle.jd_case_clauses.proofs.spelling.arguments.Given as goal

-- those so far
abbrev pub invariant-loop-p : goal.invariant-loop-p
invariant-loop-p l = map term_view l.made.items ≡ map parameter_term (map parameter_view (take l.p-index l.ps))
