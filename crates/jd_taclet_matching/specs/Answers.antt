-- What the answer to a stage tells.
use Rattle.std.specs.Prelude.{Bool, MatchResult, cond, ◌≡◌}
use Rattle.std.specs.declared.result.Result.{Result}
use Rattle.std.specs.declared.result.Result.TheVariants.{Err, Ok}
use Rattle.jd_base.specs.declared.memory.NoMemory.{NoMemory}
use Rattle.jd_patterns.specs.Bindings.{Bindings}
use Rattle.jd_sequent.specs.declared.bad.Bad.{Bad}
use Rattle.jd_sequent.specs.declared.bad.Bad.TheVariants.{NoMemory as OutOfMemory}
use Rattle.jd_taclet_stages.specs.Stages.{Goes, Outcome, Refuses}

-- the step is refused for this cause; that memory ran out tells nothing
abbrev pub IsRefusal : Bad → Outcome → Type 0
IsRefusal OutOfMemory o = Unit {0}
IsRefusal b o = o ≡ Refuses b

-- the variables stand for what this is a view of, or the step is refused
abbrev pub Answers : {A : Type 0} → (A → Bindings) → Result A Bad → Outcome → Type 0
Answers view r o = MatchResult r (λ x. o ≡ Goes (view x)) (λ b. IsRefusal b o)

-- what was made, where all of it was; else the cause
abbrev pub ended : {A : Type 0} → Result Bool NoMemory → A → Bad → Result A Bad
ended (Ok whole) x b = cond whole (Ok x) (Err b)
ended (Err e) x b = Err OutOfMemory
