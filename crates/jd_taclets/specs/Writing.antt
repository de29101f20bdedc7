-- How rows are written: forms of patterns by the names of the row, and rows by their kinds.
use Rattle.std.specs.Prelude.{ℕ, Bool, true, false, ℤ, List, [], ◌∷◌, Some, None, codes}
use Rattle.jd_base.specs.declared.sort.Sort.TheVariants.{Bool as BoolSort}
use Rattle.jd_term.specs.Terms.{Number, Boolean, CreatedField}
use Rattle.jd_model.specs.declared.sequent.Side.{Side}
use Rattle.jd_patterns.specs.Patterns.{SortPattern, SortIs, TermPattern, Given, Select, FormulaPattern, FormulaVar, Connected, AndOf, OrOf, ImpliesOf, IffOf, Compared, EqualOf, LessOf, LessOrEqualOf, Quantified, ForallOf, ExistsOf, CodePattern, Focus, Not, StmtPattern, Then, Done}
use Rattle.jd_taclets.specs.Conditions.{Condition}
use Rattle.jd_taclets.specs.Taclets.{OnLeft, OnRight, AtFormula, AtTerm, Free, Pattern, FormulaFind, TermFind, InstVar, TacletGoal, Taclet}

-- ---- forms

abbrev pub and : FormulaPattern → FormulaPattern → FormulaPattern
and a c = Connected AndOf a c

abbrev pub or : FormulaPattern → FormulaPattern → FormulaPattern
or a c = Connected OrOf a c

abbrev pub imp : FormulaPattern → FormulaPattern → FormulaPattern
imp a c = Connected ImpliesOf a c

abbrev pub iff : FormulaPattern → FormulaPattern → FormulaPattern
iff a c = Connected IffOf a c

abbrev pub eq : TermPattern → TermPattern → FormulaPattern
eq t u = Compared EqualOf t u

abbrev pub lt : TermPattern → TermPattern → FormulaPattern
lt t u = Compared LessOf t u

abbrev pub le : TermPattern → TermPattern → FormulaPattern
le t u = Compared LessOrEqualOf t u

abbrev pub forall_ : SortPattern → FormulaPattern → FormulaPattern
forall_ s a = Quantified ForallOf s a

abbrev pub exists_ : SortPattern → FormulaPattern → FormulaPattern
exists_ s a = Quantified ExistsOf s a

abbrev pub number : ℤ → TermPattern
number z = Given (Number z)

abbrev pub boolean : Bool → TermPattern
boolean b = Given (Boolean b)

-- the object is created in the heap
abbrev pub cr : TermPattern → TermPattern → FormulaPattern
cr h o = eq (Select (SortIs BoolSort) h o (Given CreatedField)) (boolean true)

-- one of two formulas by a condition
abbrev pub case : FormulaPattern → FormulaPattern → FormulaPattern → FormulaPattern
case c a e = and (imp c a) (imp (Not c) e)

-- the modality with these statements at its focus, the formula kept
abbrev pub focused : CodePattern → FormulaPattern
focused c = Focus (codes "M") (codes "..") c (FormulaVar (codes "A"))

abbrev pub statement : StmtPattern → CodePattern
statement s = Then s Done

-- ---- premises

abbrev pub goal : List FormulaPattern → List FormulaPattern → TacletGoal
goal left right = record { keep = false; replace = None; left = left; right = right }

-- beside what was found
abbrev pub plus : List FormulaPattern → List FormulaPattern → TacletGoal
plus left right = record { keep = true; replace = None; left = left; right = right }

abbrev pub instead : Pattern → TacletGoal
instead r = record { keep = false; replace = Some r; left = []; right = [] }

-- ---- rows

abbrev pub left_row : List ℕ → FormulaPattern → List (Side × FormulaPattern) → List InstVar → List Condition → List TacletGoal → Taclet
left_row name find assumes insts conds goals = record { name = name; kind = OnLeft; find = Some (FormulaFind find); assumes = assumes; insts = insts; conds = conds; goals = goals }

abbrev pub right_row : List ℕ → FormulaPattern → List (Side × FormulaPattern) → List InstVar → List Condition → List TacletGoal → Taclet
right_row name find assumes insts conds goals = record { name = name; kind = OnRight; find = Some (FormulaFind find); assumes = assumes; insts = insts; conds = conds; goals = goals }

abbrev pub free_row : List ℕ → List InstVar → List Condition → List TacletGoal → Taclet
free_row name insts conds goals = record { name = name; kind = Free; find = None; assumes = []; insts = insts; conds = conds; goals = goals }

abbrev pub formula_row : List ℕ → FormulaPattern → List (Side × FormulaPattern) → List InstVar → List Condition → FormulaPattern → Taclet
formula_row name find assumes insts conds c = record { name = name; kind = AtFormula; find = Some (FormulaFind find); assumes = assumes; insts = insts; conds = conds; goals = instead (FormulaFind c) ∷ [] }

abbrev pub term_row : List ℕ → TermPattern → List (Side × FormulaPattern) → List Condition → TermPattern → Taclet
term_row name find assumes conds u = record { name = name; kind = AtTerm; find = Some (TermFind find); assumes = assumes; insts = []; conds = conds; goals = instead (TermFind u) ∷ [] }
