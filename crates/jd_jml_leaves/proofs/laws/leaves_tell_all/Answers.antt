use Rattle.jd_jml_leaves.proofs.Printed.{leaves_printed}
use Rattle.jd_jml_leaves.proofs.Same.{clauses_same, faultless_same, within_same}
use Rattle.jd_jml_leaves.proofs.laws.leaves_tell_all.Goals as goal

pub returns : goal.returns
returns c = record {
  texts = leaves_printed;
  clauses = clauses_same c.places_are_apart.ensures;
  faultless = faultless_same c.places_are_apart.ensures;
  within = within_same c.places_are_apart.ensures;
}
