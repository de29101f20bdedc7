use Rattle.jd_tparse.specs.Names.{table_of}
use Rattle.rule_rows.proofs.sequents.formulas_in.Goals as goal

pub loop-part-preserved : goal.loop-part-preserved
loop-part-preserved c = c.and_formula-formulas.ensures (table_of c.args.names.now) c.loop-part.invariant c.read_formula.ensures
