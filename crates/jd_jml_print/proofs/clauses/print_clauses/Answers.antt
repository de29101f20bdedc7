use Rattle.std.proofs.Common.{map, subst}
use Rattle.jd_syntax.specs.SpecTrees.{clause_view}
use Rattle.jd_jml_print.specs.Writing.{Holds}
use Rattle.jd_jml_print.proofs.Written.{all_printed}
use Rattle.jd_jml_print.proofs.clauses.print_clauses.Goals as goal

pub returns : goal.returns
returns c =
    subst (Holds c.put-out.result) (all_printed (map clause_view c.args.clauses.now))
    (c.put-out.ensures _ (c.clauses.ensures _ (c.put.ensures _ c.new.ensures)))
