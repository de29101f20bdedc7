-- The table passes, and has the productions: computations.
use Rattle.std.proofs.Common.{◌≡◌, true, refl}
use Rattle.jd_grammar.specs.Tests.{is_ll1, is_start, runs_pass, IsLl1}
use Rattle.jd_java_grammar.specs.declared.names.TheConstants.{COMPILATION_UNIT}
use Rattle.jd_java_grammar.specs.Java.{java}
use Rattle.jd_java_grammar.specs.Productions.{java_productions}
use Rattle.jd_java_grammar.specs.Sets.{sets}

passed : is_ll1 sets java ≡ true
unfolding java
passed = refl

runs_passed : runs_pass sets java java.runs ≡ true
unfolding java
runs_passed = refl

pub passes : IsLl1 java
passes = record { sets = sets; passes = passed; runs = runs_passed }

pub has_productions : java.productions ≡ java_productions
unfolding java
has_productions = refl

pub starts : is_start java COMPILATION_UNIT ≡ true
unfolding java
starts = refl
