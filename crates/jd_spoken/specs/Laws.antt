-- That contracts speak of what they may.
use Rattle.std.specs.Prelude.{◌≡◌, ℕ, List, [], ◌∷◌, Ok}
use Rattle.jd_syntax.specs.JavaTrees.{JavaMethod}
use Rattle.jd_bodies.specs.Declarations.{Declarations}
use Rattle.jd_specifications.specs.Refused.{method}
use Rattle.jd_specifications.specs.Scopes.{SpecLocal}
use Rattle.jd_specifications.specs.WrittenCases.{contracts}
use Rattle.jd_jml_meaning.specs.JmlContracts.{JmlContract}
use Rattle.jd_case_rows.specs.Speaking.{ContractSpeaks}

abbrev pub AllContractsSpeak : List JmlContract → Type 0
AllContractsSpeak [] = Unit {0}
AllContractsSpeak (c ∷ cs) = ContractSpeaks c × AllContractsSpeak cs

-- where no token of its JML is refused
abbrev pub ContractsSpeak : Type 0
ContractsSpeak = (d : Declarations) (class : ℕ) (m : JavaMethod) (ls : List SpecLocal) → method d class m ≡ Ok ls → AllContractsSpeak (contracts d class m)
