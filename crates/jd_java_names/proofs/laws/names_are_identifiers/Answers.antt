use Rattle.jd_java_names.proofs.Declared.{read_identifiers, file_identifiers}
use Rattle.jd_java_names.proofs.laws.names_are_identifiers.Goals as goal

pub returns : goal.returns
returns c = record {
  read = read_identifiers;
  files = file_identifiers;
  known = λ files units depths variables are stand deep. c.names_are_known.ensures.members_ units depths variables stand deep (file_identifiers files units are);
}
