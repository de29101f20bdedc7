-- What the form of a node of each name tells of the height of its value.
use Rattle.std.proofs.Common.{◌≡◌, ◌⊎◌, ℕ, ◌+◌, max, List, [], ◌∷◌, length, slice_index_or, sym, subst}
use Rattle.jd_syntax.specs.SpecTrees.{PlainSpec, specs_of}
use Rattle.jd_jml_values.specs.Values as values
use Rattle.jd_jml_values.specs.Values.{PlainSuffix, PlainStart, PlainEnd, PlainValue}
use Rattle.jd_jml_values.specs.Parts.{expression_of, some_expression, suffixes_of, expressions_of, arguments_of, steps_of, end_of, locations_of, clauses_of}
use Rattle.jd_jml_attributes.specs.Forms.{PlainForm, Same}
use Rattle.jd_jml_heights.specs.Heights.{spec_height, specs_height, locations_height, highest}
use Rattle.jd_jml_heights.proofs.Levels.{IsForm, Flat, IsStep}
use Rattle.jd_jml_heights.proofs.Sizes.{at_least, call_height, start_height, some_height, end_height}

-- ---- what is told

abbrev pub IsExpr : PlainValue → PlainForm → Type 0
IsExpr v f = (e : PlainSpec) × (v ≡ values.Expression e) × IsForm f (spec_height e) 0

abbrev pub AreSuffixes : PlainValue → PlainForm → Type 0
AreSuffixes v f = (ss : List PlainSuffix) × (v ≡ values.Suffixes ss) × IsForm f (at_least ss) (length ss)

abbrev pub IsStart : PlainValue → PlainForm → Type 0
IsStart v f = (s : PlainStart) × (ss : List PlainSuffix) × (v ≡ values.Started s ss) × IsForm f (max (start_height s + length ss) (at_least ss)) 0

-- with nothing behind it
abbrev pub IsBareStart : PlainValue → PlainForm → Type 0
IsBareStart v f = (s : PlainStart) × (v ≡ values.Started s []) × IsForm f (start_height s) 0

abbrev pub AreSteps : PlainValue → PlainForm → Type 0
AreSteps v f = (ss : List PlainSuffix) × (end : PlainEnd) × (v ≡ values.Steps ss end) × IsStep f (max (at_least ss) (end_height end)) (length ss)

-- behind the arguments of a call
abbrev pub AreInvoked : PlainValue → PlainForm → Type 0
AreInvoked v f =
    (es : List PlainSpec) × (ss : List PlainSuffix) × (end : PlainEnd) × (v ≡ values.Invoked es ss end)
    × IsStep f (max (1 + specs_height (specs_of es) + length ss) (max (at_least ss) (end_height end))) (length ss)

-- nothing behind a location's last part
abbrev pub IsNone : PlainValue → PlainForm → Type 0
IsNone v f = (v ≡ values.Nothing) × Flat f × (f.kind ≡ Same)

abbrev pub IsBound : PlainValue → PlainForm → Type 0
IsBound v f = (j : PlainSpec) × (v ≡ values.Bound j) × IsForm f (spec_height j) 0 × (f.kind ≡ Same)

abbrev pub AreExprs : PlainValue → PlainForm → Type 0
AreExprs v f = (es : List PlainSpec) × (v ≡ values.Expressions es) × IsForm f (specs_height (specs_of es)) 0

abbrev pub IsInvocation : PlainValue → PlainForm → Type 0
IsInvocation v f = (es : List PlainSpec) × (v ≡ values.Expressions es) × IsForm f (1 + specs_height (specs_of es)) 0

-- ---- by name

pub data Role : Type 0 where
  Clauses : Role
  Expression : Role
  Suffixes : Role
  Start : Role
  BareStart : Role
  Low : Role
  Locations : Role
  BehindLocationName : Role
  Steps : Role
  BehindLocationIndex : Role
  BehindLocationElement : Role
  IntCast : Role
  BehindParenthesis : Role
  BehindRange : Role
  Call : Role
  Invocation : Role
  Arguments : Role

abbrev pub told_by : Role → PlainValue → PlainForm → Type 0
told_by Clauses v f = IsForm f (highest (clauses_of v)) 0
told_by Expression v f = IsExpr v f
told_by Suffixes v f = AreSuffixes v f
told_by Start v f = IsStart v f
told_by BareStart v f = IsBareStart v f
told_by Low v f = Flat f
told_by Locations v f = IsForm f (locations_height (locations_of v)) 0
told_by BehindLocationName v f = IsNone v f ⊎ (AreSteps v f ⊎ AreInvoked v f)
told_by Steps v f = AreSteps v f
told_by BehindLocationIndex v f = IsNone v f ⊎ (IsBound v f ⊎ AreSteps v f)
told_by BehindLocationElement v f = IsNone v f ⊎ AreSteps v f
told_by IntCast v f = IsExpr v f ⊎ ((e : PlainSpec) × (v ≡ values.ArrayOperand e) × IsForm f (spec_height e) 0)
told_by BehindParenthesis v f = ((e : PlainSpec) × (v ≡ values.Expression e) × IsForm f (1 + spec_height e) 0) ⊎ AreSuffixes v f
told_by BehindRange v f = IsForm f (some_height (some_expression v)) 0
told_by Call v f = IsForm f (call_height (arguments_of v)) 0
told_by Invocation v f = IsInvocation v f
told_by Arguments v f = AreExprs v f

-- in the order of the names
abbrev pub roles : List Role
roles =
    Clauses
    ∷ Clauses
    ∷ Clauses
    ∷ Clauses
    ∷ Clauses
    ∷ Clauses
    ∷ Clauses
    ∷ Clauses
    ∷ Clauses
    ∷ Clauses
    ∷ Clauses
    ∷ Clauses
    ∷ Clauses
    ∷ Clauses
    ∷ Clauses
    ∷ Clauses
    ∷ Clauses
    ∷ Clauses
    ∷ Expression
    ∷ Low
    ∷ Low
    ∷ Low
    ∷ Locations
    ∷ Low
    ∷ Low
    ∷ Locations
    ∷ Locations
    ∷ BehindLocationName
    ∷ Expression
    ∷ Steps
    ∷ Start
    ∷ BareStart
    ∷ Invocation
    ∷ Steps
    ∷ Steps
    ∷ BehindLocationIndex
    ∷ BehindLocationElement
    ∷ Expression
    ∷ Suffixes
    ∷ Expression
    ∷ Suffixes
    ∷ Expression
    ∷ Suffixes
    ∷ Expression
    ∷ Suffixes
    ∷ Expression
    ∷ Suffixes
    ∷ Expression
    ∷ Suffixes
    ∷ Expression
    ∷ Suffixes
    ∷ Low
    ∷ Low
    ∷ Expression
    ∷ Suffixes
    ∷ Expression
    ∷ Suffixes
    ∷ Expression
    ∷ Start
    ∷ Call
    ∷ Suffixes
    ∷ IntCast
    ∷ BehindParenthesis
    ∷ Low
    ∷ BehindRange
    ∷ Low
    ∷ Arguments
    ∷ Arguments
    ∷ []

abbrev pub role_of : ℕ → Role
role_of a = slice_index_or roles a Clauses

-- a node of that name with that value has this form
abbrev pub Tells : ℕ → PlainValue → PlainForm → Type 0
Tells a v f = told_by (role_of a) v f

-- ---- heights of parts

pub expr_is : (v : PlainValue) (f : PlainForm) → IsExpr v f → IsForm f (spec_height (expression_of v)) 0
expr_is v f (e, is, i) = subst (λ x. IsForm f (spec_height (expression_of x)) 0) (sym is) i

pub suffixes_is : (v : PlainValue) (f : PlainForm) → AreSuffixes v f → IsForm f (at_least (suffixes_of v)) (length (suffixes_of v))
suffixes_is v f (ss, is, i) = subst (λ x. IsForm f (at_least (suffixes_of x)) (length (suffixes_of x))) (sym is) i

pub steps_is : (v : PlainValue) (f : PlainForm) → AreSteps v f → IsStep f (max (at_least (steps_of v)) (end_height (end_of v))) (length (steps_of v))
steps_is v f (ss, end, is, i) = subst (λ x. IsStep f (max (at_least (steps_of x)) (end_height (end_of x))) (length (steps_of x))) (sym is) i

pub exprs_is : (v : PlainValue) (f : PlainForm) → AreExprs v f → IsForm f (specs_height (specs_of (expressions_of v))) 0
exprs_is v f (es, is, i) = subst (λ x. IsForm f (specs_height (specs_of (expressions_of x))) 0) (sym is) i

pub invocation_is : (v : PlainValue) (f : PlainForm) → IsInvocation v f → IsForm f (1 + specs_height (specs_of (expressions_of v))) 0
invocation_is v f (es, is, i) = subst (λ x. IsForm f (1 + specs_height (specs_of (expressions_of x))) 0) (sym is) i

pub call_is : (v : PlainValue) (f : PlainForm) → IsInvocation v f → IsForm f (call_height (arguments_of v)) 0
call_is v f (es, is, i) = subst (λ x. IsForm f (call_height (arguments_of x)) 0) (sym is) i

pub some_is : (v : PlainValue) (f : PlainForm) → IsExpr v f → IsForm f (some_height (some_expression v)) 0
some_is v f (e, is, i) = subst (λ x. IsForm f (some_height (some_expression x)) 0) (sym is) i
