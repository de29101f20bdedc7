-- The table passes, and has the productions: computations.
use Rattle.std.proofs.Common.{◌≡◌, true, ℕ, refl}
use Rattle.jd_grammar.specs.Tests.{is_ll1, is_start, runs_pass, IsLl1}
use Rattle.jd_jml_grammar.specs.Jml.{jml, is_place}
use Rattle.jd_jml_grammar.specs.Productions.{jml_productions}
use Rattle.jd_jml_grammar.specs.Sets.{sets}

passed : is_ll1 sets jml ≡ true
unfolding jml
passed = refl

runs_passed : runs_pass sets jml jml.runs ≡ true
unfolding jml
runs_passed = refl

pub passes : IsLl1 jml
passes = record { sets = sets; passes = passed; runs = runs_passed }

pub has_productions : jml.productions ≡ jml_productions
unfolding jml
has_productions = refl

pub starts : (place : ℕ) → is_place place ≡ true → is_start jml place ≡ true
unfolding jml
starts place is = is
