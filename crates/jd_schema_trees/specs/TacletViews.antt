-- The views of rows.
use Rattle.std.specs.Prelude.{List, [], ◌∷◌, map, flat_map, option_map, cond, bytes_eq}
use Rattle.jd_model.specs.declared.sequent.Side.{Side}
use Rattle.jd_patterns.specs.Patterns.{SchemaVar, FormulaPattern}
use Rattle.jd_taclets.specs.Conditions as plain
use Rattle.jd_taclets.specs.Conditions.{Condition}
use Rattle.jd_taclets.specs.Taclets as rows
use Rattle.jd_taclets.specs.Taclets.{OnLeft, OnRight, AtFormula, AtTerm, Free, FormulaFind, TermFind, SortOf, SortOfSimple, InstForm, AFormula, ANumber, ATerm, NewConstant, NewVariable}
use Rattle.jd_schema_trees.specs.HeadViews.{sort_pattern}
use Rattle.jd_schema_trees.specs.TermViews.{term_pattern}
use Rattle.jd_schema_trees.specs.FormulaViews.{formula_pattern}
use Rattle.jd_schema_trees.specs.declared.formula.SFormula.{SFormula}
use Rattle.jd_schema_trees.specs.declared.condition.Calculation.{Calculation}
use Rattle.jd_schema_trees.specs.declared.condition.Calculation.TheVariants as numbers
use Rattle.jd_schema_trees.specs.declared.condition.NumberTest.{NumberTest}
use Rattle.jd_schema_trees.specs.declared.condition.NumberTest.TheVariants as tests
use Rattle.jd_schema_trees.specs.declared.condition.AskedSort.{AskedSort}
use Rattle.jd_schema_trees.specs.declared.condition.AskedSort.TheVariants as asked
use Rattle.jd_schema_trees.specs.declared.condition.GivenForm.{GivenForm}
use Rattle.jd_schema_trees.specs.declared.condition.GivenForm.TheVariants as given
use Rattle.jd_schema_trees.specs.declared.condition.VarCond.{VarCond}
use Rattle.jd_schema_trees.specs.declared.condition.VarCond.TheVariants as conds
use Rattle.jd_schema_trees.specs.declared.taclet.TacletKind.{TacletKind}
use Rattle.jd_schema_trees.specs.declared.taclet.TacletKind.TheVariants as kinds
use Rattle.jd_schema_trees.specs.declared.taclet.Pattern.{Pattern}
use Rattle.jd_schema_trees.specs.declared.taclet.Pattern.TheVariants as patterns
use Rattle.jd_schema_trees.specs.declared.taclet.InstVar.{InstVar}
use Rattle.jd_schema_trees.specs.declared.taclet.TacletGoal.{TacletGoal}
use Rattle.jd_schema_trees.specs.declared.taclet.Taclet.{Taclet}

-- ---- conditions

abbrev pub calculation : Calculation → plain.Calculation
calculation (numbers.Variable n) = plain.NumberOf n.items
calculation (numbers.Number z) = plain.Numeral z
calculation (numbers.Arithmetic' op p a q c) = plain.Operation op (calculation a) (calculation c)
calculation (numbers.Negation' p a) = plain.NegationOf (calculation a)
calculation (numbers.Wrap' p a) = plain.WrapOf (calculation a)

abbrev pub number_test : NumberTest → plain.NumberTest
number_test tests.Less = plain.IsLess
number_test tests.LessOrEqual = plain.IsLessOrEqual
number_test tests.Equal = plain.IsEqual

abbrev pub asked_sort : AskedSort → rows.AskedSort
asked_sort (asked.Of s) = SortOf (sort_pattern s)
asked_sort (asked.OfSimple n) = SortOfSimple n.items

abbrev pub given_form : GivenForm → InstForm
given_form given.Formula = AFormula
given_form given.Number = ANumber
given_form (given.Term s) = ATerm (asked_sort s)
given_form (given.NewConstant s) = NewConstant (asked_sort s)
given_form (given.NewVariable s) = NewVariable (asked_sort s)

-- the condition, as a list of one; what a step gives is none
abbrev pub condition : VarCond → List Condition
condition (conds.Gives n f) = []
condition (conds.SteadyIn t a) = plain.SteadyIn t.items a.items ∷ []
condition (conds.NamedFieldTerm f) = plain.NamedFieldTerm f.items ∷ []
condition (conds.FieldsApart f e) = plain.FieldsApart f.items e.items ∷ []
condition (conds.AtLeastZero m) = plain.AtLeastZero m.items ∷ []
condition (conds.TermHasSort t s) = plain.TermHasSort t.items (sort_pattern s) ∷ []
condition (conds.KindBelow d c) = plain.KindBelow d.items c.items ∷ []
condition (conds.KindsDiffer d c) = plain.KindsDiffer d.items c.items ∷ []
condition (conds.FieldRefersTo f d) = plain.FieldRefersTo f.items d.items ∷ []
condition (conds.FieldTakes f s) = plain.FieldTakes f.items s.items ∷ []
condition (conds.Calculated n a) = plain.Calculated n.items (calculation a) ∷ []
condition (conds.WhetherNumbers n t a c) = plain.WhetherNumbers n.items (number_test t) (calculation a) (calculation c) ∷ []
condition (conds.WhetherBelow n d c) = plain.WhetherBelow n.items d.items c.items ∷ []
condition (conds.DefaultTerm n s) = plain.DefaultTerm n.items (sort_pattern s) ∷ []
condition (conds.DefaultExpr n x) = plain.DefaultExpr n.items x.items ∷ []
condition (conds.FieldHasSort n f) = plain.FieldHasSort n.items f.items ∷ []
condition (conds.DeclaredBy k f) = plain.DeclaredBy k.items f.items ∷ []
condition (conds.TypingOf n f h s) = plain.TypingOf n.items f.items h.items s.items ∷ []
condition (conds.InvariantsOf n c h o) = plain.InvariantsOf n.items c.items h.items o.items ∷ []
condition (conds.IndexSort a s) = plain.IndexSort a.items (sort_pattern s) ∷ []
condition (conds.IndexSortInTerm t s) = plain.IndexSortInTerm t.items (sort_pattern s) ∷ []
condition (conds.EntrySort s) = plain.EntrySort s.items ∷ []
condition (conds.OnlyIndex a) = plain.OnlyIndex a.items ∷ []

-- ---- rows

-- what the conditions say that a step gives for the variable, else the form that is handed over
abbrev pub form_by : VarCond → SchemaVar → InstForm → InstForm
form_by (conds.Gives m f) n g = cond (bytes_eq m.items n) (given_form f) g
form_by c n g = g

abbrev pub form_said : List VarCond → SchemaVar → InstForm
form_said [] n = AFormula
form_said (c ∷ cs) n = form_by c n (form_said cs n)

abbrev pub inst_var : List VarCond → InstVar → rows.InstVar
inst_var cs v = record { name = v.name.items; form = form_said cs v.name.items }

abbrev pub taclet_kind : TacletKind → rows.TacletKind
taclet_kind kinds.Left = OnLeft
taclet_kind kinds.Right = OnRight
taclet_kind kinds.Formula = AtFormula
taclet_kind kinds.Term = AtTerm
taclet_kind kinds.Free = Free

abbrev pub pattern : Pattern → rows.Pattern
pattern (patterns.Formula a) = FormulaFind (formula_pattern a)
pattern (patterns.Term t) = TermFind (term_pattern t)

abbrev pub assumption : Side × SFormula → Side × FormulaPattern
assumption a = (a.0, formula_pattern a.1)

abbrev pub goal : TacletGoal → rows.TacletGoal
goal q = record { keep = q.keep; replace = option_map pattern q.replace; left = map formula_pattern q.left.items; right = map formula_pattern q.right.items }

abbrev pub taclet : Taclet → rows.Taclet
taclet r = record {
  name = r.name.items;
  kind = taclet_kind r.kind;
  find = option_map pattern r.find;
  assumes = map assumption r.assumes.items;
  insts = map (inst_var r.conds.items) r.insts.items;
  conds = flat_map condition r.conds.items;
  goals = map goal r.goals.items;
}
