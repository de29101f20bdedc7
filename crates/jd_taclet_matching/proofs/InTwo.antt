-- What is given, in two steps.
use Rattle.std.proofs.Common.{Bool, None, Option, Some, false, length, nat_eq, refl, true, ◌≡◌}
use Rattle.std.specs.Option.{option_and_then}
use Rattle.jd_patterns.specs.Bindings.{Bindings}
use Rattle.jd_patterns.specs.Chosen.{chosen}
use Rattle.jd_sequent.specs.declared.bad.Bad.TheVariants.{BadInst, MissingInst}
use Rattle.jd_taclet_matching.specs.Laws.{GivenInTwo}
use Rattle.jd_sequent.specs.Obligations.{names_of}
use Rattle.jd_taclet_stages.specs.Stages.{all_named, and_then, bind_all, given_for, going, provided}
use Rattle.jd_told_programs.specs.Told.{told_setting}

in_two : (b e : Bool) (o : Option Bindings) (k : Bindings → Option Bindings) → provided MissingInst b (provided BadInst e (going BadInst (option_and_then k o))) ≡ and_then (provided MissingInst b (provided BadInst e (going BadInst o))) (λ l. going BadInst (k l))
in_two true true None k = refl
in_two true true (Some l) k = refl
in_two true false o k = refl
in_two false e o k = refl

pub given_in_two : GivenInTwo
given_in_two w t vs given τ = in_two (all_named vs given) (nat_eq (length given) (length vs)) (given_for (names_of t) (told_setting t).program (chosen w τ) vs given) (λ l. bind_all w l τ)
