-- Rows whose steps can be worked out from the left: what is found, given and assumed says what the conditions look at, and with what these
-- compute all that the premises are made of. It computes from the row.
use Rattle.std.specs.Prelude.{Bool, List, None, Option, Some, [], ◌&&◌, ◌++◌, ◌∷◌, false, nat_eq, true}
use Rattle.std.specs.List.{list_all, list_any}
use Rattle.std.specs.Str.{bytes_eq}
use Rattle.jd_model.specs.declared.sequent.Side.{Side}
use Rattle.jd_patterns.specs.Chosen.{number_of}
use Rattle.jd_patterns.specs.Patterns.{FormulaPattern}
use Rattle.jd_patterns.specs.Variables.{FieldKind, FormulaKind, KindKind, LiteralKind, NameKind, SimpleKind, SortKind, TermKind, VarKind, Variable, formula_variables, sort_variables, term_variables}
use Rattle.jd_taclets.specs.Conditions as condition
use Rattle.jd_taclets.specs.Conditions.{Calculation, Condition, NegationOf, NumberOf, Numeral, Operation, WrapOf}
use Rattle.jd_taclets.specs.Taclets.{AFormula, ANumber, ATerm, AskedSort, AtFormula, AtTerm, FormulaFind, Free, InstForm, InstVar, NewConstant, NewVariable, OnLeft, OnRight, Pattern, SortOf, SortOfSimple, Taclet, TacletGoal, TacletKind, TermFind}

-- ---- variables of parts

abbrev pub is_same_variable : Variable → Variable → Bool
is_same_variable v x = nat_eq (number_of v.0) (number_of x.0) && bytes_eq v.1 x.1

abbrev pub are_among : List Variable → List Variable → Bool
are_among vs known = list_all (λ v. list_any (is_same_variable v) known) vs

abbrev pub pattern_variables : Pattern → List Variable
pattern_variables (FormulaFind a) = formula_variables a
pattern_variables (TermFind t) = term_variables t

abbrev pub maybe_variables : Option Pattern → List Variable
maybe_variables None = []
maybe_variables (Some p) = pattern_variables p

abbrev pub formulas_variables : List FormulaPattern → List Variable
formulas_variables [] = []
formulas_variables (a ∷ l) = formula_variables a ++ formulas_variables l

abbrev pub assumed_variables : List (Side × FormulaPattern) → List Variable
assumed_variables [] = []
assumed_variables (a ∷ l) = formula_variables a.1 ++ assumed_variables l

abbrev pub asked_variables : AskedSort → List Variable
asked_variables (SortOf s) = sort_variables s
asked_variables (SortOfSimple n) = (SimpleKind, n) ∷ []

abbrev pub form_variables : InstForm → List Variable
form_variables AFormula = []
form_variables ANumber = []
form_variables (ATerm k) = asked_variables k
form_variables (NewConstant k) = asked_variables k
form_variables (NewVariable k) = asked_variables k

-- what the sorts of what is given hang on
abbrev pub all_asked_variables : List InstVar → List Variable
all_asked_variables [] = []
all_asked_variables (v ∷ vs) = form_variables v.form ++ all_asked_variables vs

abbrev pub given_kind : InstForm → VarKind
given_kind AFormula = FormulaKind
given_kind ANumber = LiteralKind
given_kind (ATerm k) = TermKind
given_kind (NewConstant k) = NameKind
given_kind (NewVariable k) = NameKind

abbrev pub given_variables : List InstVar → List Variable
given_variables [] = []
given_variables (v ∷ vs) = (given_kind v.form, v.name) ∷ given_variables vs

abbrev pub goals_variables : List TacletGoal → List Variable
goals_variables [] = []
goals_variables (n ∷ ns) = maybe_variables n.replace ++ (formulas_variables n.left ++ (formulas_variables n.right ++ goals_variables ns))

-- ---- conditions

abbrev pub calculation_variables : Calculation → List Variable
calculation_variables (NumberOf n) = (LiteralKind, n) ∷ []
calculation_variables (Numeral z) = []
calculation_variables (Operation op a c) = calculation_variables a ++ calculation_variables c
calculation_variables (NegationOf a) = calculation_variables a
calculation_variables (WrapOf a) = calculation_variables a

-- what a condition looks at; nothing where it holds of each sequent that rules take
abbrev pub looked_at : Condition → List Variable
looked_at (condition.SteadyIn t a) = (TermKind, t) ∷ (FormulaKind, a) ∷ []
looked_at (condition.NamedFieldTerm f) = (TermKind, f) ∷ []
looked_at (condition.FieldsApart f e) = (TermKind, f) ∷ (TermKind, e) ∷ []
looked_at (condition.AtLeastZero m) = (LiteralKind, m) ∷ []
looked_at (condition.TermHasSort t s) = (TermKind, t) ∷ sort_variables s
looked_at (condition.KindBelow d c) = (KindKind, d) ∷ (KindKind, c) ∷ []
looked_at (condition.KindsDiffer d c) = (KindKind, d) ∷ (KindKind, c) ∷ []
looked_at (condition.FieldRefersTo f d) = (TermKind, f) ∷ []
looked_at (condition.FieldTakes f s) = (TermKind, f) ∷ (TermKind, s) ∷ []
looked_at (condition.Calculated k c) = calculation_variables c
looked_at (condition.WhetherNumbers k q a c) = calculation_variables a ++ calculation_variables c
looked_at (condition.WhetherBelow k d c) = (KindKind, d) ∷ (KindKind, c) ∷ []
looked_at (condition.DefaultTerm k s) = sort_variables s
looked_at (condition.DefaultExpr k x) = (NameKind, x) ∷ []
looked_at (condition.FieldHasSort k f) = (FieldKind, f) ∷ []
looked_at (condition.DeclaredBy k f) = (TermKind, f) ∷ []
looked_at (condition.TypingOf k f h s) = (TermKind, f) ∷ (TermKind, h) ∷ (TermKind, s) ∷ []
looked_at (condition.InvariantsOf k c h o) = (KindKind, c) ∷ (TermKind, h) ∷ (TermKind, o) ∷ []
looked_at (condition.IndexSort a s) = []
looked_at (condition.IndexSortInTerm t s) = []
looked_at (condition.EntrySort s) = []
looked_at (condition.OnlyIndex a) = []

-- what a condition says what it stands for
abbrev pub fixed_by : Condition → List Variable
fixed_by (condition.FieldRefersTo f d) = (KindKind, d) ∷ []
fixed_by (condition.Calculated k c) = (LiteralKind, k) ∷ []
fixed_by (condition.WhetherNumbers k q a c) = (FormulaKind, k) ∷ []
fixed_by (condition.WhetherBelow k d c) = (FormulaKind, k) ∷ []
fixed_by (condition.DefaultTerm k s) = (TermKind, k) ∷ []
fixed_by (condition.DefaultExpr k x) = (SimpleKind, k) ∷ []
fixed_by (condition.FieldHasSort k f) = (SortKind, k) ∷ []
fixed_by (condition.DeclaredBy k f) = (KindKind, k) ∷ []
fixed_by (condition.TypingOf k f h s) = (FormulaKind, k) ∷ []
fixed_by (condition.InvariantsOf k c h o) = (FormulaKind, k) ∷ []
fixed_by c = []

abbrev pub all_looked_at : List Condition → List Variable
all_looked_at [] = []
all_looked_at (c ∷ cs) = looked_at c ++ all_looked_at cs

abbrev pub all_fixed : List Condition → List Variable
all_fixed [] = []
all_fixed (c ∷ cs) = fixed_by c ++ all_fixed cs

abbrev pub is_plain : Calculation → Bool
is_plain (NumberOf n) = true
is_plain (Numeral z) = true
is_plain c = false

-- one operation at most, so that no number between has to fit
abbrev pub is_single : Calculation → Bool
is_single (Operation op a c) = is_plain a && is_plain c
is_single (NegationOf a) = is_plain a
is_single (WrapOf a) = is_plain a
is_single c = true

-- the condition can be worked out; that one class declares a field asks more of the task, and comes with the rows of heaps
abbrev pub can_be_told : Condition → Bool
can_be_told (condition.Calculated k c) = is_single c
can_be_told (condition.WhetherNumbers k q a c) = is_plain a && is_plain c
can_be_told (condition.DeclaredBy k f) = false
can_be_told c = true

-- ---- rows

abbrev pub fits_kind : TacletKind → Option Pattern → Bool
fits_kind OnLeft (Some (FormulaFind a)) = true
fits_kind OnRight (Some (FormulaFind a)) = true
fits_kind AtFormula (Some (FormulaFind a)) = true
fits_kind AtTerm (Some (TermFind t)) = true
fits_kind Free None = true
fits_kind k f = false

abbrev pub known_when_told : Taclet → List Variable
known_when_told r = maybe_variables r.find ++ given_variables r.insts ++ assumed_variables r.assumes

abbrev pub is_ready : Taclet → Bool
is_ready r =
    fits_kind r.kind r.find
    && (are_among (all_asked_variables r.insts) (maybe_variables r.find)
    && (list_all can_be_told r.conds
    && (are_among (all_looked_at r.conds) (known_when_told r)
    && are_among (goals_variables r.goals) (known_when_told r ++ all_fixed r.conds))))
