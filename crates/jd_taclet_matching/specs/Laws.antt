-- What is given, in two steps: what the text stands for, and what it is bound to.
use Rattle.std.specs.Prelude.{List, ◌≡◌, ℕ}
use Rattle.jd_patterns.specs.Bindings.{Bindings, Tests}
use Rattle.jd_patterns.specs.Chosen.{chosen}
use Rattle.jd_sequent.specs.Obligations.{PlainTask}
use Rattle.jd_sequent.specs.declared.bad.Bad.TheVariants.{BadInst}
use Rattle.jd_syntax.specs.Sxs.{Bracketed}
use Rattle.jd_taclet_stages.specs.Stages.{and_then, bind_all, given_stage, going}
use Rattle.jd_taclets.specs.Taclets.{InstVar}
use Rattle.jd_taclet_matching.specs.Given.{given_told}

abbrev pub GivenInTwo : Type 0
GivenInTwo = (w : Tests) (t : PlainTask) (vs : List InstVar) (given : List (List ℕ × Bracketed)) (τ : Bindings) → given_stage w t vs given τ ≡ and_then (given_told t vs given (chosen w τ)) (λ l. going BadInst (bind_all w l τ))
