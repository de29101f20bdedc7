use Rattle.std.proofs.Common.{◌≤◌, subst, sym}
use Rattle.jd_jml_attributes.proofs.Names.{few_names}
use Rattle.jd_jml_attributes.proofs.rows.names_of.Goals as goal

pub returns-clause-few : goal.returns-clause-few
returns-clause-few c = subst (λ row. row.0 ≤ 4) (sym c.row.ensures) (few_names c.args.production)
