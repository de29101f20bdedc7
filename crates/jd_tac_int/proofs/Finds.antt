-- What the rows find and assume are forms that matching decides.
use Rattle.jd_taclets.specs.Taclets.{AllFinds}
use Rattle.jd_tac_int.specs.Integers.{integer_rows}
use Rattle.jd_tac_int.proofs.Rows.{◌⊗◌}

-- a part, and two of them
abbrev part : Unit {0}
part = tt

abbrev two : Unit {0} × Unit {0}
two = (tt, tt)

-- the parts of a find, with nothing assumed
abbrev one_part : Unit {0} × Unit {0}
one_part = part ⊗ part

abbrev two_parts : (Unit {0} × Unit {0}) × Unit {0}
two_parts = two ⊗ part

abbrev two_and_one : ((Unit {0} × Unit {0}) × Unit {0}) × Unit {0}
two_and_one = (two ⊗ part) ⊗ part

abbrev one_and_two : (Unit {0} × (Unit {0} × Unit {0})) × Unit {0}
one_and_two = (part ⊗ two) ⊗ part

abbrev two_and_two : ((Unit {0} × Unit {0}) × (Unit {0} × Unit {0})) × Unit {0}
two_and_two = (two ⊗ two) ⊗ part

-- beside one assumed comparison, or two
abbrev two_by_two : (Unit {0} × Unit {0}) × ((Unit {0} × Unit {0}) × Unit {0})
two_by_two = two ⊗ two ⊗ part

abbrev sum_by_two : (Unit {0} × (Unit {0} × Unit {0})) × ((Unit {0} × Unit {0}) × Unit {0})
sum_by_two = (part ⊗ two) ⊗ two ⊗ part

abbrev one_by_both : Unit {0} × ((Unit {0} × Unit {0}) × ((Unit {0} × Unit {0}) × Unit {0}))
one_by_both = part ⊗ two ⊗ two ⊗ part

pub all_finds : AllFinds integer_rows
all_finds =
    two_parts ⊗ two_parts ⊗ two_parts ⊗ one_part ⊗ two_parts ⊗ two_parts ⊗ one_part ⊗ two_parts ⊗ two_parts ⊗ two_parts ⊗ two_parts ⊗ two_and_one ⊗ two_parts ⊗ two_parts ⊗ two_and_one ⊗ two_parts ⊗ two_parts ⊗ one_and_two ⊗ two_parts ⊗ one_part ⊗ two_and_two ⊗ one_and_two ⊗ two_parts ⊗ two_parts ⊗ two_parts ⊗ two_parts ⊗ two_parts ⊗ two_by_two ⊗ two_by_two ⊗ two_by_two ⊗ two_parts ⊗ two_parts ⊗ two_parts ⊗ two_parts ⊗ two_by_two ⊗ one_part ⊗ one_part ⊗ one_part ⊗ one_by_both ⊗ one_part ⊗ one_part ⊗ two_parts ⊗ two_parts ⊗ one_part ⊗ two_parts ⊗ two_parts ⊗ two_parts ⊗ one_part ⊗ sum_by_two ⊗ sum_by_two ⊗ tt
