-- The expressions that clauses of a kind say.
use Rattle.std.specs.Prelude.{◌⊎◌, ◌<◌, ℕ, List, [], ◌∷◌, flat_map, map, Option, Some, None}
use Rattle.jd_syntax.specs.SpecTrees.{PlainSpec, PlainClause, Requires, Ensures}
use Rattle.jd_term.specs.Formulas.{PlainFormula}
use Rattle.jd_term.specs.FormulaSizes.{formula_depth, formula_size}
use Rattle.jd_jml_formulas.specs.declared.whole.Unmade.{Unmade}
use Rattle.jd_jml_formulas.specs.declared.whole.Unmade.TheVariants as causes
use Rattle.jd_case_clauses.specs.declared.said.Kind.{Kind}
use Rattle.jd_case_clauses.specs.declared.said.Kind.TheVariants as kinds

abbrev pub required_in : PlainClause → Option PlainSpec
required_in (Requires at e) = Some e
required_in c = None

abbrev pub ensured_in : PlainClause → Option PlainSpec
ensured_in (Ensures at e) = Some e
ensured_in c = None

abbrev pub said_in : Kind → PlainClause → Option PlainSpec
said_in kinds.Requires c = required_in c
said_in kinds.Ensures c = ensured_in c

abbrev pub listed : Option PlainSpec → List PlainSpec
listed None = []
listed (Some e) = e ∷ []

-- what is made of what a clause of the kind says, and of those of all in their order
abbrev pub said_by : (PlainSpec → PlainFormula) → Kind → PlainClause → List PlainFormula
said_by f k c = map f (listed (said_in k c))

abbrev pub made_of : (PlainSpec → PlainFormula) → Kind → List PlainClause → List PlainFormula
made_of f k cs = flat_map (said_by f k) cs

-- a formula of an obligation has no more levels
abbrev pub level_limit : ℕ
level_limit = 1000

-- it has more nodes than it may, or more levels
abbrev pub IsLarge : ℕ → PlainFormula → Type 0
IsLarge limit x = (limit < formula_size x) ⊎ (level_limit < formula_depth x)

abbrev pub OneIsLarge : ℕ → List PlainFormula → Type 0
OneIsLarge limit [] = ⊥
OneIsLarge limit (x ∷ xs) = IsLarge limit x ⊎ OneIsLarge limit xs

-- where the cause is that a formula is too large, one of these is
abbrev pub TellsOfOne : ℕ → List PlainFormula → Unmade → Type 0
TellsOfOne limit xs causes.TooLarge = OneIsLarge limit xs
TellsOfOne limit xs causes.NoMemory = Unit {0}
