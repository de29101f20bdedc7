-- The rows of logic (The KeY Book, 2.2.4 and 4.2).
use Rattle.std.specs.Prelude.{true, false, List, [], ◌∷◌, codes}
use Rattle.jd_base.specs.declared.sort.Sort.TheVariants.{Bool as BoolSort}
use Rattle.jd_model.specs.declared.sequent.Side.TheVariants.{Left, Right}
use Rattle.jd_patterns.specs.Patterns.{SortPattern, SortVar, SortIs, NameVar, TermPattern, AnyTerm, TermOf, Constant, FormulaPattern, FormulaVar, PutIn, TrueFormula, FalseFormula, Not}
use Rattle.jd_taclets.specs.Conditions.{SteadyIn, IndexSort}
use Rattle.jd_taclets.specs.Taclets.{SortOf, InstVar, AFormula, ATerm, NewConstant, Taclet}
use Rattle.jd_taclets.specs.Writing.{and, or, imp, iff, eq, forall_, exists_, boolean, goal, plus, left_row, right_row, free_row, formula_row, term_row}

-- ---- the variables

abbrev A : FormulaPattern
A = FormulaVar (codes "A")

abbrev B : FormulaPattern
B = FormulaVar (codes "B")

abbrev S : SortPattern
S = SortVar (codes "S")

abbrev s : TermPattern
s = AnyTerm (codes "s")

abbrev t : TermPattern
t = AnyTerm (codes "t")

abbrev b : TermPattern
b = TermOf BoolSort (codes "b")

-- the formula with the term, or the new constant, for its index
abbrev A_of : TermPattern → FormulaPattern
A_of u = PutIn (codes "A") u

abbrev c : TermPattern
c = Constant (NameVar (codes "c"))

abbrev given_t : InstVar
given_t = record { name = codes "t"; form = ATerm (SortOf S) }

abbrev new_c : InstVar
new_c = record { name = codes "c"; form = NewConstant (SortOf S) }

abbrev given_phi : InstVar
given_phi = record { name = codes "phi"; form = AFormula }

abbrev phi : FormulaPattern
phi = FormulaVar (codes "phi")

abbrev given_b : InstVar
given_b = record { name = codes "b"; form = ATerm (SortOf (SortIs BoolSort)) }

-- ---- the rows

abbrev pub close : Taclet
close = right_row (codes "close") A ((Left, A) ∷ []) [] [] []

abbrev pub close_true : Taclet
close_true = right_row (codes "closeTrue") TrueFormula [] [] [] []

abbrev pub close_false : Taclet
close_false = left_row (codes "closeFalse") FalseFormula [] [] [] []

abbrev pub not_left : Taclet
not_left = left_row (codes "notLeft") (Not A) [] [] [] (goal [] (A ∷ []) ∷ [])

abbrev pub not_right : Taclet
not_right = right_row (codes "notRight") (Not A) [] [] [] (goal (A ∷ []) [] ∷ [])

abbrev pub and_left : Taclet
and_left = left_row (codes "andLeft") (and A B) [] [] [] (goal (A ∷ B ∷ []) [] ∷ [])

abbrev pub and_right : Taclet
and_right = right_row (codes "andRight") (and A B) [] [] [] (goal [] (A ∷ []) ∷ goal [] (B ∷ []) ∷ [])

abbrev pub or_left : Taclet
or_left = left_row (codes "orLeft") (or A B) [] [] [] (goal (A ∷ []) [] ∷ goal (B ∷ []) [] ∷ [])

abbrev pub or_right : Taclet
or_right = right_row (codes "orRight") (or A B) [] [] [] (goal [] (A ∷ B ∷ []) ∷ [])

abbrev pub imp_left : Taclet
imp_left = left_row (codes "impLeft") (imp A B) [] [] [] (goal [] (A ∷ []) ∷ goal (B ∷ []) [] ∷ [])

abbrev pub imp_right : Taclet
imp_right = right_row (codes "impRight") (imp A B) [] [] [] (goal (A ∷ []) (B ∷ []) ∷ [])

abbrev pub iff_left : Taclet
iff_left = left_row (codes "iffLeft") (iff A B) [] [] [] (goal (A ∷ B ∷ []) [] ∷ goal [] (A ∷ B ∷ []) ∷ [])

abbrev pub iff_right : Taclet
iff_right = right_row (codes "iffRight") (iff A B) [] [] [] (goal (A ∷ []) (B ∷ []) ∷ goal (B ∷ []) (A ∷ []) ∷ [])

abbrev pub all_right : Taclet
all_right = right_row (codes "allRight") (forall_ S A) [] (new_c ∷ []) (IndexSort (codes "A") S ∷ []) (goal [] (A_of c ∷ []) ∷ [])

abbrev pub ex_left : Taclet
ex_left = left_row (codes "exLeft") (exists_ S A) [] (new_c ∷ []) (IndexSort (codes "A") S ∷ []) (goal (A_of c ∷ []) [] ∷ [])

abbrev pub all_left : Taclet
all_left = left_row (codes "allLeft") (forall_ S A) [] (given_t ∷ []) (SteadyIn (codes "t") (codes "A") ∷ IndexSort (codes "A") S ∷ []) (plus (A_of t ∷ []) [] ∷ [])

abbrev pub ex_right : Taclet
ex_right = right_row (codes "exRight") (exists_ S A) [] (given_t ∷ []) (SteadyIn (codes "t") (codes "A") ∷ IndexSort (codes "A") S ∷ []) (plus [] (A_of t ∷ []) ∷ [])

abbrev pub cut : Taclet
cut = free_row (codes "cut") (given_phi ∷ []) [] (plus (phi ∷ []) [] ∷ plus [] (phi ∷ []) ∷ [])

abbrev pub hide_left : Taclet
hide_left = left_row (codes "hideLeft") A [] [] [] (goal [] [] ∷ [])

abbrev pub hide_right : Taclet
hide_right = right_row (codes "hideRight") A [] [] [] (goal [] [] ∷ [])

abbrev pub eq_refl : Taclet
eq_refl = formula_row (codes "eqRefl") (eq s s) [] [] [] TrueFormula

abbrev pub eq_sym : Taclet
eq_sym = formula_row (codes "eqSym") (eq s t) [] [] [] (eq t s)

abbrev pub apply_eq : Taclet
apply_eq = term_row (codes "applyEq") s ((Left, eq s t) ∷ []) [] t

abbrev pub known_left : Taclet
known_left = formula_row (codes "knownLeft") A ((Left, A) ∷ []) [] [] TrueFormula

abbrev pub known_right : Taclet
known_right = formula_row (codes "knownRight") A ((Right, A) ∷ []) [] [] FalseFormula

abbrev pub bool_cases : Taclet
bool_cases = free_row (codes "boolCases") (given_b ∷ []) [] (plus (eq b (boolean true) ∷ []) [] ∷ plus (eq b (boolean false) ∷ []) [] ∷ [])

abbrev pub bool_distinct : Taclet
bool_distinct = formula_row (codes "boolDistinct") (eq (boolean true) (boolean false)) [] [] [] FalseFormula

abbrev pub not_true : Taclet
not_true = formula_row (codes "notTrue") (Not TrueFormula) [] [] [] FalseFormula

abbrev pub not_false : Taclet
not_false = formula_row (codes "notFalse") (Not FalseFormula) [] [] [] TrueFormula

abbrev pub not_not : Taclet
not_not = formula_row (codes "notNot") (Not (Not A)) [] [] [] A

abbrev pub and_true_left : Taclet
and_true_left = formula_row (codes "andTrueL") (and TrueFormula A) [] [] [] A

abbrev pub and_true_right : Taclet
and_true_right = formula_row (codes "andTrueR") (and A TrueFormula) [] [] [] A

abbrev pub and_false_left : Taclet
and_false_left = formula_row (codes "andFalseL") (and FalseFormula A) [] [] [] FalseFormula

abbrev pub and_false_right : Taclet
and_false_right = formula_row (codes "andFalseR") (and A FalseFormula) [] [] [] FalseFormula

abbrev pub or_true_left : Taclet
or_true_left = formula_row (codes "orTrueL") (or TrueFormula A) [] [] [] TrueFormula

abbrev pub or_true_right : Taclet
or_true_right = formula_row (codes "orTrueR") (or A TrueFormula) [] [] [] TrueFormula

abbrev pub or_false_left : Taclet
or_false_left = formula_row (codes "orFalseL") (or FalseFormula A) [] [] [] A

abbrev pub or_false_right : Taclet
or_false_right = formula_row (codes "orFalseR") (or A FalseFormula) [] [] [] A

abbrev pub imp_true_left : Taclet
imp_true_left = formula_row (codes "impTrueL") (imp TrueFormula A) [] [] [] A

abbrev pub imp_true_right : Taclet
imp_true_right = formula_row (codes "impTrueR") (imp A TrueFormula) [] [] [] TrueFormula

abbrev pub imp_false_left : Taclet
imp_false_left = formula_row (codes "impFalseL") (imp FalseFormula A) [] [] [] TrueFormula

abbrev pub imp_false_right : Taclet
imp_false_right = formula_row (codes "impFalseR") (imp A FalseFormula) [] [] [] (Not A)

abbrev pub all_true : Taclet
all_true = formula_row (codes "allTrue") (forall_ S TrueFormula) [] [] [] TrueFormula

abbrev pub ex_false : Taclet
ex_false = formula_row (codes "exFalse") (exists_ S FalseFormula) [] [] [] FalseFormula

-- all of them
abbrev pub logic_rows : List Taclet
logic_rows =
    close ∷ close_true ∷ close_false ∷ not_left ∷ not_right ∷ and_left ∷ and_right ∷ or_left ∷ or_right ∷ imp_left ∷ imp_right
    ∷ iff_left ∷ iff_right ∷ all_right ∷ ex_left ∷ all_left ∷ ex_right ∷ cut ∷ hide_left ∷ hide_right ∷ eq_refl ∷ eq_sym ∷ apply_eq
    ∷ known_left ∷ known_right ∷ bool_cases ∷ bool_distinct ∷ not_true ∷ not_false ∷ not_not ∷ and_true_left ∷ and_true_right
    ∷ and_false_left ∷ and_false_right ∷ or_true_left ∷ or_true_right ∷ or_false_left ∷ or_false_right ∷ imp_true_left ∷ imp_true_right
    ∷ imp_false_left ∷ imp_false_right ∷ all_true ∷ ex_false ∷ []
