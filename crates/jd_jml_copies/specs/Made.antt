-- Trees of JML made of parts that may be missing.
use Rattle.std.specs.Prelude.{IfOk, ◌≡◌, ℕ, List, map}
use Rattle.std.specs.Global.{Box, Vec}
use Rattle.std.specs.declared.result.Result.{Result}
use Rattle.jd_base.specs.declared.memory.NoMemory.{NoMemory}
use Rattle.jd_syntax.specs.JavaTypes.{PlainIdentifier, PlainWritten, identifier_view, written_view}
use Rattle.jd_syntax.specs.SpecTrees.{PlainClause, PlainLocation, PlainSpec, PlainSpecType, clause_view, location_view, spec_type_view, spec_view}
use Rattle.jd_syntax.specs.declared.java.Identifier.{Identifier}
use Rattle.jd_syntax.specs.declared.java.WrittenType.{WrittenType}
use Rattle.jd_syntax.specs.declared.spec.LocExpr.{LocExpr}
use Rattle.jd_syntax.specs.declared.spec.SpecClause.{SpecClause}
use Rattle.jd_syntax.specs.declared.spec.SpecExpr.{SpecExpr}
use Rattle.jd_syntax.specs.declared.spec.SpecType.{SpecType}

-- what was made, if memory sufficed, is this
abbrev pub GivesBytes : Result (Vec ℕ) NoMemory → List ℕ → Type 0
GivesBytes r x = IfOk r (λ v. v.items ≡ x)

abbrev pub GivesIdentifier : Result Identifier NoMemory → PlainIdentifier → Type 0
GivesIdentifier r x = IfOk r (λ v. identifier_view v ≡ x)

abbrev pub GivesWritten : Result WrittenType NoMemory → PlainWritten → Type 0
GivesWritten r x = IfOk r (λ v. written_view v ≡ x)

abbrev pub GivesType : Result SpecType NoMemory → PlainSpecType → Type 0
GivesType r x = IfOk r (λ v. spec_type_view v ≡ x)

abbrev pub GivesBound : Result (SpecType × Identifier) NoMemory → PlainSpecType → PlainIdentifier → Type 0
GivesBound r t x = IfOk r (λ v. (spec_type_view v.0 ≡ t) × (identifier_view v.1 ≡ x))

abbrev pub GivesSpec : Result SpecExpr NoMemory → PlainSpec → Type 0
GivesSpec r x = IfOk r (λ v. spec_view v ≡ x)

abbrev pub GivesBoxed : Result (Box SpecExpr) NoMemory → PlainSpec → Type 0
GivesBoxed r x = IfOk r (λ v. spec_view v.value ≡ x)

abbrev pub GivesSpecs : Result (Vec SpecExpr) NoMemory → List PlainSpec → Type 0
GivesSpecs r x = IfOk r (λ v. map spec_view v.items ≡ x)

abbrev pub GivesLocation : Result LocExpr NoMemory → PlainLocation → Type 0
GivesLocation r x = IfOk r (λ v. location_view v ≡ x)

abbrev pub GivesLocations : Result (Vec LocExpr) NoMemory → List PlainLocation → Type 0
GivesLocations r x = IfOk r (λ v. map location_view v.items ≡ x)

abbrev pub GivesIdentifiers : Result (Vec Identifier) NoMemory → List PlainIdentifier → Type 0
GivesIdentifiers r x = IfOk r (λ v. map identifier_view v.items ≡ x)

abbrev pub GivesClause : Result SpecClause NoMemory → PlainClause → Type 0
GivesClause r x = IfOk r (λ v. clause_view v ≡ x)

abbrev pub GivesClauses : Result (Vec SpecClause) NoMemory → List PlainClause → Type 0
GivesClauses r x = IfOk r (λ v. map clause_view v.items ≡ x)
