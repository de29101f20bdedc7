-- What the data of a table means: the rows as they are written.
use Rattle.std.specs.Prelude.{List, [], ◌∷◌, map, cond}
use Rattle.std.specs.Str.{bytes_eq}
use Rattle.jd_model.specs.declared.sequent.Side.{Side}
use Rattle.jd_patterns.specs.Patterns.{SchemaVar, SortPattern, SortVar, SortIs, NameVar, TermPattern, AnyTerm, TermOf, LiteralVar, Put, Constant, Given, OnePart, NegationOf, WrapOf, Arithmetic, Sum, FormulaPattern, Compared, Connected, FormulaVar, PutIn, Quantified, TrueFormula, FalseFormula, Not, Tested, InIntOf}
use Rattle.jd_patterns.specs.Patterns as plain
use Rattle.jd_schema_trees.specs.TacletViews.{number_test}
use Rattle.jd_taclets.specs.Conditions as condition
use Rattle.jd_taclets.specs.Conditions.{Calculation, Condition, NumberOf, Numeral, Operation, NegationOf as NegatedOf, WrapOf as WrappedOf}
use Rattle.jd_taclets.specs.Taclets.{AFormula, ANumber, ATerm, InstForm, InstVar, NewConstant, SortOf, Taclet, TacletGoal}
use Rattle.jd_taclets.specs.Writing.{goal, plus, left_row, right_row, free_row, formula_row, term_row}
use Rattle.jd_term.specs.Terms as terms
use Rattle.jd_row_data.specs.declared.data.CalculationData.{CalculationData}
use Rattle.jd_row_data.specs.declared.data.CalculationData.TheVariants as numbers
use Rattle.jd_row_data.specs.declared.data.ConditionData.{ConditionData}
use Rattle.jd_row_data.specs.declared.data.ConditionData.TheVariants as conds
use Rattle.jd_row_data.specs.declared.data.FormData.{FormData}
use Rattle.jd_row_data.specs.declared.data.FormData.TheVariants as forms
use Rattle.jd_row_data.specs.declared.data.FormulaData.{FormulaData}
use Rattle.jd_row_data.specs.declared.data.FormulaData.TheVariants as formulas
use Rattle.jd_row_data.specs.declared.data.GivenData.{GivenData}
use Rattle.jd_row_data.specs.declared.data.GoalData.{GoalData}
use Rattle.jd_row_data.specs.declared.data.GoalData.TheVariants as goals
use Rattle.jd_row_data.specs.declared.data.RowData.{RowData}
use Rattle.jd_row_data.specs.declared.data.RowData.TheVariants as kinds
use Rattle.jd_row_data.specs.declared.data.Comparison.{Comparison}
use Rattle.jd_row_data.specs.declared.data.Comparison.TheVariants as comparisons
use Rattle.jd_row_data.specs.declared.data.Connective.{Connective}
use Rattle.jd_row_data.specs.declared.data.Connective.TheVariants as connectives
use Rattle.jd_row_data.specs.declared.data.Quantifier.{Quantifier}
use Rattle.jd_row_data.specs.declared.data.Quantifier.TheVariants as quantifiers
use Rattle.jd_row_data.specs.declared.data.SortData.{SortData}
use Rattle.jd_row_data.specs.declared.data.SortData.TheVariants as sorts
use Rattle.jd_row_data.specs.declared.data.TermData.{TermData}
use Rattle.jd_row_data.specs.declared.data.TermData.TheVariants as patterns

abbrev pub sort_data : SortData → SortPattern
sort_data (sorts.AnySort n) = SortVar n.now
sort_data (sorts.Only s) = SortIs s

abbrev pub term_data : TermData → TermPattern
term_data (patterns.AnyTerm n) = AnyTerm n.now
term_data (patterns.OfSort s n) = TermOf s n.now
term_data (patterns.Literal n) = LiteralVar n.now
term_data (patterns.Put' n p t) = Put n.now (term_data t)
term_data (patterns.Constant n) = Constant (NameVar n.now)
term_data (patterns.Number z) = Given (terms.Number z)
term_data (patterns.Boolean b) = Given (terms.Boolean b)
term_data (patterns.Bound k s) = Given (terms.Bound k s)
term_data (patterns.Negation' p t) = OnePart NegationOf (term_data t)
term_data (patterns.Wrap' p t) = OnePart WrapOf (term_data t)
term_data (patterns.Arithmetic' op p t q u) = Arithmetic op (term_data t) (term_data u)
term_data (patterns.Sum' p t q u r v) = Sum (term_data t) (term_data u) (term_data v)

abbrev pub connective : Connective → plain.Connective
connective connectives.And = plain.AndOf
connective connectives.Or = plain.OrOf
connective connectives.Implies = plain.ImpliesOf
connective connectives.Iff = plain.IffOf

abbrev pub comparison : Comparison → plain.Comparison
comparison comparisons.Equal = plain.EqualOf
comparison comparisons.Less = plain.LessOf
comparison comparisons.LessOrEqual = plain.LessOrEqualOf

abbrev pub quantifier : Quantifier → plain.Quantifier
quantifier quantifiers.Forall = plain.ForallOf
quantifier quantifiers.Exists = plain.ExistsOf

abbrev pub formula_data : FormulaData → FormulaPattern
formula_data (formulas.AnyFormula n) = FormulaVar n.now
formula_data (formulas.PutIn n t) = PutIn n.now (term_data t)
formula_data formulas.True = TrueFormula
formula_data formulas.False = FalseFormula
formula_data (formulas.Not' p a) = Not (formula_data a)
formula_data (formulas.Connected' k p a q c) = Connected (connective k) (formula_data a) (formula_data c)
formula_data (formulas.Compared k t u) = Compared (comparison k) (term_data t) (term_data u)
formula_data (formulas.Quantified' k s p a) = Quantified (quantifier k) (sort_data s) (formula_data a)
formula_data (formulas.InInt t) = Tested InIntOf (term_data t)

abbrev pub assumed_data : Side × FormulaData → Side × FormulaPattern
assumed_data a = (a.0, formula_data a.1)

-- ---- what a step gives

abbrev pub form_data : FormData → InstForm
form_data forms.AFormula = AFormula
form_data forms.ANumber = ANumber
form_data (forms.ATerm s) = ATerm (SortOf (sort_data s))
form_data (forms.NewConstant s) = NewConstant (SortOf (sort_data s))

-- that of the first of this name; of a formula where there is none
abbrev pub form_among : List GivenData → SchemaVar → InstForm
form_among [] n = AFormula
form_among (g ∷ gs) n = cond (bytes_eq g.0.now n) (form_data g.1) (form_among gs n)

abbrev pub given_data : List GivenData → GivenData → InstVar
given_data gs g = record { name = g.0.now; form = form_among gs g.0.now }

-- ---- conditions

abbrev pub calculation_data : CalculationData → Calculation
calculation_data (numbers.Of n) = NumberOf n.now
calculation_data (numbers.Numeral z) = Numeral z
calculation_data (numbers.Operation' op p a q c) = Operation op (calculation_data a) (calculation_data c)
calculation_data (numbers.Negated' p a) = NegatedOf (calculation_data a)
calculation_data (numbers.Wrapped' p a) = WrappedOf (calculation_data a)

abbrev pub condition_data : ConditionData → Condition
condition_data (conds.Steady t a) = condition.SteadyIn t.now a.now
condition_data (conds.AtLeastZero m) = condition.AtLeastZero m.now
condition_data (conds.Calculated n c) = condition.Calculated n.now (calculation_data c)
condition_data (conds.Whether n q a c) = condition.WhetherNumbers n.now (number_test q) (calculation_data a) (calculation_data c)
condition_data (conds.Index a s) = condition.IndexSort a.now (sort_data s)
condition_data (conds.IndexInTerm t s) = condition.IndexSortInTerm t.now (sort_data s)
condition_data (conds.OnlyIndex a) = condition.OnlyIndex a.now

-- ---- premises

abbrev pub goal_data : GoalData → TacletGoal
goal_data (goals.Goal l r) = goal (map formula_data l.now) (map formula_data r.now)
goal_data (goals.Plus l r) = plus (map formula_data l.now) (map formula_data r.now)

-- ---- rows

abbrev pub row_data : RowData → Taclet
row_data (kinds.LeftRow n f a g c l) = left_row n.now (formula_data f) (map assumed_data a.now) (map (given_data g.now) g.now) (map condition_data c.now) (map goal_data l.now)
row_data (kinds.RightRow n f a g c l) = right_row n.now (formula_data f) (map assumed_data a.now) (map (given_data g.now) g.now) (map condition_data c.now) (map goal_data l.now)
row_data (kinds.FreeRow n g c l) = free_row n.now (map (given_data g.now) g.now) (map condition_data c.now) (map goal_data l.now)
row_data (kinds.FormulaRow n f a g c r) = formula_row n.now (formula_data f) (map assumed_data a.now) (map (given_data g.now) g.now) (map condition_data c.now) (formula_data r)
row_data (kinds.TermRow n f a c r) = term_row n.now (term_data f) (map assumed_data a.now) (map condition_data c.now) (term_data r)
