-- What the rows find and assume are forms that matching decides.
use Rattle.jd_taclets.specs.Taclets.{AllFinds}
use Rattle.jd_tac_logic.specs.Logic.{logic_rows}
use Rattle.jd_tac_logic.proofs.Rows.{◌⊗◌}

-- a find with one part or none, or with two parts; one beside an assumed formula
abbrev one_part : Unit {0} × Unit {0}
one_part = (tt, tt)

abbrev two_parts : (Unit {0} × Unit {0}) × Unit {0}
two_parts = ((tt, tt), tt)

abbrev one_by_one : Unit {0} × (Unit {0} × Unit {0})
one_by_one = (tt, (tt, tt))

abbrev one_by_two : Unit {0} × ((Unit {0} × Unit {0}) × Unit {0})
one_by_two = (tt, ((tt, tt), tt))

pub all_finds : AllFinds logic_rows
all_finds =
    one_by_one ⊗ one_part ⊗ one_part ⊗ one_part ⊗ one_part ⊗ two_parts ⊗ two_parts ⊗ two_parts ⊗ two_parts ⊗ two_parts ⊗ two_parts ⊗ two_parts ⊗ two_parts
    ⊗ one_part ⊗ one_part ⊗ one_part ⊗ one_part ⊗ one_part ⊗ one_part ⊗ one_part ⊗ two_parts ⊗ two_parts ⊗ one_by_two ⊗ one_by_one ⊗ one_by_one ⊗ one_part
    ⊗ two_parts ⊗ one_part ⊗ one_part ⊗ one_part ⊗ two_parts ⊗ two_parts ⊗ two_parts ⊗ two_parts ⊗ two_parts ⊗ two_parts ⊗ two_parts ⊗ two_parts ⊗
    two_parts ⊗ two_parts ⊗ two_parts ⊗ two_parts ⊗ one_part ⊗ one_part ⊗ tt
