-- What was found out, if counting sufficed.
use Rattle.std.specs.Prelude.{Bool, IfOk, ◌≡◌}
use Rattle.std.specs.declared.result.Result.{Result}
use Rattle.jd_base.specs.declared.memory.NoMemory.{NoMemory}

abbrev pub Tells : Result Bool NoMemory → Bool → Type 0
Tells r x = IfOk r (λ b. b ≡ x)
