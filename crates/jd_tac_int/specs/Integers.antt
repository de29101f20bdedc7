-- The rows of integers: numbers folded, sums and products, order, induction, the 32 bits of an int, division as Java rounds it, and sums
-- over ranges (JLS 4.2.1, 4.2.2, 15.17.2 and 15.17.3; The KeY Book, 5.4).
-- A number or truth value that is computed is a variable, which a condition fixes; it is named by what it is, as `m+n`.
use Rattle.std.specs.Prelude.{ℕ, pos, negsuc, List, [], ◌∷◌, codes}
use Rattle.jd_base.specs.declared.sort.Sort.TheVariants.{Int as IntSort}
use Rattle.jd_term.specs.declared.term.ArithmeticOp.{ArithmeticOp}
use Rattle.jd_term.specs.declared.term.ArithmeticOp.TheVariants.{Add, Subtract, Multiply, Divide, Remainder}
use Rattle.jd_term.specs.Terms.{Bound}
use Rattle.jd_model.specs.declared.sequent.Side.TheVariants.{Left}
use Rattle.jd_patterns.specs.Patterns.{SchemaVar, SortPattern, SortIs, TermPattern, NegationOf, WrapOf, AnyTerm, TermOf, LiteralVar, Put, Given, OnePart, Arithmetic, Sum, InIntOf, FormulaPattern, FormulaVar, PutIn, TrueFormula, FalseFormula, Not, Tested}
use Rattle.jd_taclets.specs.Conditions as condition
use Rattle.jd_taclets.specs.Conditions.{Calculation, NumberOf, Numeral, Operation, NumberTest, IsLess, IsLessOrEqual, IsEqual, Calculated, WhetherNumbers, AtLeastZero, IndexSort, IndexSortInTerm, OnlyIndex}
use Rattle.jd_taclets.specs.Taclets.{SortOf, InstVar, ANumber, ATerm, Taclet}
use Rattle.jd_taclets.specs.Writing.{and, imp, eq, lt, le, forall_, number, goal, plus, left_row, right_row, free_row, formula_row, term_row}

-- ---- the variables

abbrev Int : SortPattern
Int = SortIs IntSort

abbrev A : FormulaPattern
A = FormulaVar (codes "A")

-- the formula with the term for its index
abbrev A_of : TermPattern → FormulaPattern
A_of t = PutIn (codes "A") t

abbrev i : TermPattern
i = TermOf IntSort (codes "i")

abbrev j : TermPattern
j = TermOf IntSort (codes "j")

abbrev k : TermPattern
k = TermOf IntSort (codes "k")

abbrev l : TermPattern
l = TermOf IntSort (codes "l")

abbrev m : TermPattern
m = LiteralVar (codes "m")

abbrev n : TermPattern
n = LiteralVar (codes "n")

-- the variable that the quantifier outside binds
abbrev x : TermPattern
x = Given (Bound 0 IntSort)

-- what a sum adds up, and this with a term for its index
abbrev s : TermPattern
s = AnyTerm (codes "s")

abbrev s_of : TermPattern → TermPattern
s_of t = Put (codes "s") t

abbrev given_i : InstVar
given_i = record { name = codes "i"; form = ATerm (SortOf Int) }

abbrev given_j : InstVar
given_j = record { name = codes "j"; form = ATerm (SortOf Int) }

abbrev given_k : InstVar
given_k = record { name = codes "k"; form = ATerm (SortOf Int) }

abbrev given_m : InstVar
given_m = record { name = codes "m"; form = ANumber }

-- ---- the terms

abbrev zero : TermPattern
zero = number (pos 0)

abbrev one : TermPattern
one = number (pos 1)

abbrev add : TermPattern → TermPattern → TermPattern
add t u = Arithmetic Add t u

abbrev sub : TermPattern → TermPattern → TermPattern
sub t u = Arithmetic Subtract t u

abbrev mul : TermPattern → TermPattern → TermPattern
mul t u = Arithmetic Multiply t u

abbrev div : TermPattern → TermPattern → TermPattern
div t u = Arithmetic Divide t u

abbrev mod_ : TermPattern → TermPattern → TermPattern
mod_ t u = Arithmetic Remainder t u

abbrev neg : TermPattern → TermPattern
neg t = OnePart NegationOf t

abbrev wrap : TermPattern → TermPattern
wrap t = OnePart WrapOf t

abbrev in_int : TermPattern → FormulaPattern
in_int t = Tested InIntOf t

-- the least and the greatest int
abbrev least : TermPattern
least = number (negsuc 2147483647)

abbrev greatest : TermPattern
greatest = number (pos 2147483647)

-- ---- numbers folded: what does not fit 128 bits is folded by no step

abbrev of_m : Calculation
of_m = NumberOf (codes "m")

abbrev of_n : Calculation
of_n = NumberOf (codes "n")

-- an operation on two numbers, and a test of them
abbrev pub fold_operation : List ℕ → ArithmeticOp → SchemaVar → Taclet
fold_operation name op result = term_row name (Arithmetic op m n) [] (Calculated result (Operation op of_m of_n) ∷ []) (LiteralVar result)

abbrev pub fold_test : List ℕ → FormulaPattern → NumberTest → SchemaVar → Taclet
fold_test name find q result = formula_row name find [] [] (WhetherNumbers result q of_m of_n ∷ []) (FormulaVar result)

abbrev pub fold_add : Taclet
fold_add = fold_operation (codes "foldAdd") Add (codes "m+n")

abbrev pub fold_sub : Taclet
fold_sub = fold_operation (codes "foldSub") Subtract (codes "m-n")

abbrev pub fold_mul : Taclet
fold_mul = fold_operation (codes "foldMul") Multiply (codes "m*n")

abbrev pub fold_neg : Taclet
fold_neg = term_row (codes "foldNeg") (neg m) [] (Calculated (codes "-m") (condition.NegationOf of_m) ∷ []) (LiteralVar (codes "-m"))

abbrev pub fold_div : Taclet
fold_div = fold_operation (codes "foldDiv") Divide (codes "m/n")

abbrev pub fold_mod : Taclet
fold_mod = fold_operation (codes "foldMod") Remainder (codes "m%n")

abbrev pub fold_wrap : Taclet
fold_wrap = term_row (codes "foldWrap") (wrap m) [] (Calculated (codes "wrap32(m)") (condition.WrapOf of_m) ∷ []) (LiteralVar (codes "wrap32(m)"))

abbrev pub fold_lt : Taclet
fold_lt = fold_test (codes "foldLt") (lt m n) IsLess (codes "m<n")

abbrev pub fold_le : Taclet
fold_le = fold_test (codes "foldLe") (le m n) IsLessOrEqual (codes "m<=n")

abbrev pub fold_eq : Taclet
fold_eq = fold_test (codes "foldEq") (eq m n) IsEqual (codes "m=n")

-- ---- sums and products

abbrev pub add_comm : Taclet
add_comm = term_row (codes "addComm") (add i j) [] [] (add j i)

abbrev pub add_assoc : Taclet
add_assoc = term_row (codes "addAssoc") (add (add i j) k) [] [] (add i (add j k))

abbrev pub add_zero : Taclet
add_zero = term_row (codes "addZero") (add i zero) [] [] i

abbrev pub mul_comm : Taclet
mul_comm = term_row (codes "mulComm") (mul i j) [] [] (mul j i)

abbrev pub mul_assoc : Taclet
mul_assoc = term_row (codes "mulAssoc") (mul (mul i j) k) [] [] (mul i (mul j k))

abbrev pub mul_one : Taclet
mul_one = term_row (codes "mulOne") (mul i one) [] [] i

abbrev pub mul_zero : Taclet
mul_zero = term_row (codes "mulZero") (mul i zero) [] [] zero

abbrev pub distrib : Taclet
distrib = term_row (codes "distrib") (mul i (add j k)) [] [] (add (mul i j) (mul i k))

abbrev pub sub_def : Taclet
sub_def = term_row (codes "subDef") (sub i j) [] [] (add i (neg j))

abbrev pub neg_def : Taclet
neg_def = term_row (codes "negDef") (neg i) [] [] (mul i (number (negsuc 0)))

abbrev pub collect : Taclet
collect = term_row (codes "collect") (add (mul i m) (mul i n)) [] (Calculated (codes "m+n") (Operation Add of_m of_n) ∷ []) (mul i (LiteralVar (codes "m+n")))

abbrev pub collect_one : Taclet
collect_one = term_row (codes "collectOne") (add i (mul i n)) [] (Calculated (codes "n+1") (Operation Add of_n (Numeral (pos 1))) ∷ []) (mul i (LiteralVar (codes "n+1")))

-- ---- order

abbrev pub lt_to_le : Taclet
lt_to_le = formula_row (codes "ltToLe") (lt i j) [] [] [] (le (add i one) j)

abbrev pub not_le : Taclet
not_le = formula_row (codes "notLe") (Not (le i j)) [] [] [] (lt j i)

abbrev pub not_lt : Taclet
not_lt = formula_row (codes "notLt") (Not (lt i j)) [] [] [] (le j i)

abbrev pub le_refl : Taclet
le_refl = formula_row (codes "leRefl") (le i i) [] [] [] TrueFormula

abbrev pub lt_refl : Taclet
lt_refl = formula_row (codes "ltRefl") (lt i i) [] [] [] FalseFormula

abbrev pub le_trans : Taclet
le_trans = left_row (codes "leTrans") (le i j) ((Left, le j k) ∷ []) [] [] (plus (le i k ∷ []) [] ∷ [])

abbrev pub le_antisym : Taclet
le_antisym = left_row (codes "leAntisym") (le i j) ((Left, le j i) ∷ []) [] [] (plus (eq i j ∷ []) [] ∷ [])

abbrev pub le_sum : Taclet
le_sum = left_row (codes "leSum") (le i j) ((Left, le k l) ∷ []) [] [] (plus (le (add i k) (add j l) ∷ []) [] ∷ [])

abbrev pub le_scale : Taclet
le_scale = left_row (codes "leScale") (le i j) [] (given_m ∷ []) (AtLeastZero (codes "m") ∷ []) (plus (le (mul i m) (mul j m) ∷ []) [] ∷ [])

abbrev pub le_weaken : Taclet
le_weaken = left_row (codes "leWeaken") (le i j) [] (given_m ∷ []) (AtLeastZero (codes "m") ∷ []) (plus (le i (add j m) ∷ []) [] ∷ [])

abbrev pub le_shift : Taclet
le_shift = formula_row (codes "leShift") (le i j) [] (given_k ∷ []) [] (le (add i k) (add j k))

abbrev pub le_eq : Taclet
le_eq = left_row (codes "leEq") (eq i j) [] [] [] (plus (le i j ∷ le j i ∷ []) [] ∷ [])

abbrev pub le_clash : Taclet
le_clash = left_row (codes "leClash") (le i j) ((Left, lt j i) ∷ []) [] [] []

abbrev pub int_cases : Taclet
int_cases = free_row (codes "intCases") (given_i ∷ given_j ∷ []) [] (plus (lt i j ∷ []) [] ∷ plus (eq i j ∷ []) [] ∷ plus (lt j i ∷ []) [] ∷ [])

-- ---- induction: from 0, by a step upward and a step downward, which keep the formula's own index below the new binder

abbrev pub int_ind : Taclet
int_ind = right_row (codes "intInd") (forall_ Int A) [] [] (IndexSort (codes "A") Int ∷ OnlyIndex (codes "A") ∷ []) (
    goal [] (A_of zero ∷ [])
    ∷ goal [] (forall_ Int (imp (and (le zero x) A) (A_of (add x one))) ∷ [])
    ∷ goal [] (forall_ Int (imp (and (le x zero) A) (A_of (sub x one))) ∷ [])
    ∷ [])

-- ---- the 32 bits of an int

abbrev pub in_int_def : Taclet
in_int_def = formula_row (codes "inIntDef") (in_int i) [] [] [] (and (le least i) (le i greatest))

abbrev pub wrap_in : Taclet
wrap_in = term_row (codes "wrapIn") (wrap i) ((Left, le least i) ∷ (Left, le i greatest) ∷ []) [] i

abbrev pub wrap_range : Taclet
wrap_range = free_row (codes "wrapRange") (given_i ∷ []) [] (plus (in_int (wrap i) ∷ []) [] ∷ [])

abbrev pub wrap_wrap : Taclet
wrap_wrap = term_row (codes "wrapWrap") (wrap (wrap i)) [] [] (wrap i)

abbrev pub wrap_add : Taclet
wrap_add = term_row (codes "wrapAdd") (wrap (add (wrap i) j)) [] [] (wrap (add i j))

abbrev pub wrap_mul : Taclet
wrap_mul = term_row (codes "wrapMul") (wrap (mul (wrap i) j)) [] [] (wrap (mul i j))

abbrev pub wrap_neg : Taclet
wrap_neg = term_row (codes "wrapNeg") (wrap (neg (wrap i))) [] [] (wrap (neg i))

-- ---- division toward zero, by 0 too: then the quotient is 0 and the remainder the dividend

abbrev pub mod_def : Taclet
mod_def = term_row (codes "modDef") (mod_ i j) [] [] (sub i (mul j (div i j)))

abbrev pub div_neg_left : Taclet
div_neg_left = term_row (codes "divNegL") (div (neg i) j) [] [] (neg (div i j))

abbrev pub div_neg_right : Taclet
div_neg_right = term_row (codes "divNegR") (div i (neg j)) [] [] (neg (div i j))

abbrev pub div_bound : Taclet
div_bound = free_row (codes "divBound") (given_i ∷ given_j ∷ []) [] (plus (imp (and (le zero i) (lt zero j)) (and (le (mul j (div i j)) i) (lt i (add (mul j (div i j)) j))) ∷ []) [] ∷ [])

-- ---- sums over a range, which leave out its end

abbrev pub sum_empty : Taclet
sum_empty = term_row (codes "sumEmpty") (Sum i j s) ((Left, le j i) ∷ []) [] zero

abbrev pub sum_last : Taclet
sum_last = term_row (codes "sumLast") (Sum i j s) ((Left, lt i j) ∷ []) (IndexSortInTerm (codes "s") Int ∷ []) (add (Sum i (sub j one) s) (s_of (sub j one)))

-- all of them
abbrev pub integer_rows : List Taclet
integer_rows =
    fold_add ∷ fold_sub ∷ fold_mul ∷ fold_neg ∷ fold_div ∷ fold_mod ∷ fold_wrap ∷ fold_lt ∷ fold_le ∷ fold_eq ∷ add_comm ∷ add_assoc ∷ add_zero
    ∷ mul_comm ∷ mul_assoc ∷ mul_one ∷ mul_zero ∷ distrib ∷ sub_def ∷ neg_def ∷ collect ∷ collect_one ∷ lt_to_le ∷ not_le ∷ not_lt ∷ le_refl
    ∷ lt_refl ∷ le_trans ∷ le_antisym ∷ le_sum ∷ le_scale ∷ le_weaken ∷ le_shift ∷ le_eq ∷ le_clash ∷ int_cases ∷ int_ind ∷ in_int_def ∷ wrap_in
    ∷ wrap_range ∷ wrap_wrap ∷ wrap_add ∷ wrap_mul ∷ wrap_neg ∷ mod_def ∷ div_neg_left ∷ div_neg_right ∷ div_bound ∷ sum_empty ∷ sum_last ∷ []
