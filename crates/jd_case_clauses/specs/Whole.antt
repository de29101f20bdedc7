-- All clauses of a case.
use Rattle.std.specs.Prelude.{◌≡◌, ◌<◌, ◌⊎◌, ℕ, Bool, List, map}
use Rattle.std.specs.Option.{unwrap_or}
use Rattle.jd_syntax.specs.SpecTrees.{PlainClause}
use Rattle.jd_bodies.specs.Declarations.{Declarations}
use Rattle.jd_bodies.specs.declared.value.ValueType.{ValueType}
use Rattle.jd_jml_meaning.specs.ContractFormulas.{contract_spelling}
use Rattle.jd_jml_meaning.specs.JmlContracts.{JmlContract}
use Rattle.jd_jml_meaning.specs.Translation.{Spelling}
use Rattle.jd_specifications.specs.Resolution.{Entry}
use Rattle.jd_specifications.specs.WrittenCases as plain
use Rattle.jd_term.specs.TermSizes.{loc_depth}
use Rattle.jd_model.specs.Cases.{Contract}
use Rattle.jd_case_rows.specs.Rows.{only_member, signalled_members}
use Rattle.jd_jml_formulas.specs.declared.whole.Unmade.{Unmade}
use Rattle.jd_jml_formulas.specs.declared.whole.Unmade.TheVariants as causes
use Rattle.jd_case_clauses.specs.Said.{OneIsLarge, level_limit}

-- what the clauses of a case say, where these names are in scope, by the contract of the case; and what they speak of by its parameters and
-- its result
pub record SaysClauses (d : Declarations) (class : ℕ) (r : ValueType) (es : List Entry) (sp : Spelling) (pure constructor : Bool) (cs : List PlainClause) (c : JmlContract) : Type 0 where
  pub required : c.requires_ ≡ plain.requires_of d class r es cs
  pub ensured : c.ensures_ ≡ plain.ensures_of d class r es cs
  pub signals : c.signals ≡ plain.signals_of d class r es cs
  pub signals_only : c.signals_only ≡ plain.signals_only_of d class r es cs
  pub assignable : c.assignable ≡ unwrap_or (plain.assignable_of d class r es cs) (plain.assignable_else d pure constructor)
  pub measure : c.measure ≡ plain.measure_of d class r es cs
  pub spelling : sp ≡ contract_spelling c.parameters c.result

-- a formula of the contract's clauses, or what may be assigned, is more than a sequent may have
abbrev pub IsTooLarge : ℕ → Contract → Type 0
IsTooLarge limit k = ((OneIsLarge limit k.requires_ ⊎ OneIsLarge limit k.ensures_) ⊎ (OneIsLarge limit (signalled_members k.signals) ⊎ OneIsLarge limit (map only_member k.signals_only))) ⊎ (level_limit < loc_depth k.assignable)

-- what the cause says of a contract whose clauses are not made
abbrev pub TellsOfCase : ℕ → Contract → Unmade → Type 0
TellsOfCase limit k causes.TooLarge = IsTooLarge limit k
TellsOfCase limit k causes.NoMemory = Unit {0}
