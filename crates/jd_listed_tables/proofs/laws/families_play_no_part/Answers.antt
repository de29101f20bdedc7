use Rattle.jd_listed_tables.proofs.Families.{same_rows}
use Rattle.jd_listed_tables.proofs.laws.families_play_no_part.Goals as goal

pub returns : goal.returns
returns c units lineage d p fields f g = same_rows units lineage d p fields f g
