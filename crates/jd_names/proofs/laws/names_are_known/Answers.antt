use Rattle.jd_names.proofs.Known.{known_members}
use Rattle.jd_names.proofs.Telling.{constant_known, special_known, variable_known}
use Rattle.jd_names.proofs.laws.names_are_known.Goals as goal

pub returns : goal.returns
returns c = record {
  members_ = known_members c.one_method.ensures;
  variables_ = variable_known;
  special_ = special_known;
  constants_ = constant_known;
}
