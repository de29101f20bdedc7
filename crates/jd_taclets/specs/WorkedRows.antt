-- Rows of each kind, written out: what the definitions are read against, beside the rows of logic.
-- A computed part is a variable that a condition fixes: `foldAdd` has the sum, `selCreateDefault` the default of the select's sort,
-- `instExact` a truth value, `wfStore` the class that declares the field and the typing of the value, `invExact` the invariants of the
-- class and of those above it, `setGet` the sort of the field.
use Rattle.std.specs.Prelude.{pos, List, [], ◌∷◌, codes}
use Rattle.jd_base.specs.declared.sort.Sort.TheVariants.{Int as IntSort, Ref as RefSort, Heap as HeapSort, Field as FieldSort}
use Rattle.jd_syntax.specs.CodeNames.{heap_name}
use Rattle.jd_term.specs.declared.term.ArithmeticOp.TheVariants.{Add, Subtract}
use Rattle.jd_term.specs.Terms.{Bound, NullTerm}
use Rattle.jd_model.specs.declared.sequent.Side.TheVariants.{Left, Right}
use Rattle.jd_patterns.specs.Patterns.{SortPattern, SortVar, SortIs, KindPattern, KindVar, NameVar, NameIs, ResultIn, NullPointer, ClassOf, Simple, SimpleAt, Variable, ReadField, Set, Block, BlockPast, Break, Frame, Finally, Return, ReturnVar, Raise, CodePattern, Done, Then, CodeThen, TermPattern, AnyTerm, TermOf, LiteralVar, FieldVar, OfSimple, ProgramVariable, Given, Arithmetic, Select, Store, Create, FormulaPattern, FormulaVar, PutIn, Updated, Compared, InvariantOf, Tested, WellFormedOf, Classed, InstanceTest, ExactTest}
use Rattle.jd_taclets.specs.Conditions.{NumberOf, Operation, NamedFieldTerm, FieldTakes, Calculated, WhetherBelow, DefaultTerm, FieldHasSort, DeclaredBy, TypingOf, InvariantsOf, IndexSort, EntrySort, OnlyIndex}
use Rattle.jd_taclets.specs.Taclets.{SortOfSimple, InstVar, NewVariable, Taclet}
use Rattle.jd_taclets.specs.Writing.{and, imp, eq, le, forall_, number, case, focused, statement, goal, right_row, formula_row, term_row}

abbrev A : FormulaPattern
A = FormulaVar (codes "A")

abbrev A_of : TermPattern → FormulaPattern
A_of t = PutIn (codes "A") t

abbrev Int : SortPattern
Int = SortIs IntSort

abbrev X : SortPattern
X = SortVar (codes "X")

-- the variable that the quantifier outside binds
abbrev x : TermPattern
x = Given (Bound 0 IntSort)

abbrev h : TermPattern
h = TermOf HeapSort (codes "h")

abbrev o : TermPattern
o = TermOf RefSort (codes "o")

abbrev p : TermPattern
p = TermOf RefSort (codes "p")

abbrev f : TermPattern
f = TermOf FieldSort (codes "f")

abbrev e : TermPattern
e = TermOf FieldSort (codes "e")

abbrev s : TermPattern
s = AnyTerm (codes "s")

abbrev C : KindPattern
C = KindVar (codes "C")

abbrev D : KindPattern
D = KindVar (codes "D")

-- what is behind the first statement of a list
abbrev rest : CodePattern
rest = CodeThen (codes "rest") Done

-- ---- integers

-- foldAdd T (add m n) => [m+n]
abbrev pub fold_add : Taclet
fold_add = term_row (codes "foldAdd") (Arithmetic Add (LiteralVar (codes "m")) (LiteralVar (codes "n"))) [] (Calculated (codes "m+n") (Operation Add (NumberOf (codes "m")) (NumberOf (codes "n"))) ∷ []) (LiteralVar (codes "m+n"))

-- intInd R (forall Int A) => ==> A[0] and the two steps, which keep the formula's own index below the new binder
abbrev pub int_ind : Taclet
int_ind = right_row (codes "intInd") (forall_ Int A) [] [] (IndexSort (codes "A") Int ∷ OnlyIndex (codes "A") ∷ []) (
    goal [] (A_of (number (pos 0)) ∷ [])
    ∷ goal [] (forall_ Int (imp (and (le (number (pos 0)) x) A) (A_of (Arithmetic Add x (number (pos 1))))) ∷ [])
    ∷ goal [] (forall_ Int (imp (and (le x (number (pos 0))) A) (A_of (Arithmetic Subtract x (number (pos 1))))) ∷ [])
    ∷ [])

-- ---- heaps

-- selStoreObj T (selX (store h o f s) p e); assume R (eq o p) => (selX h p e)
abbrev pub sel_store_obj : Taclet
sel_store_obj = term_row (codes "selStoreObj") (Select X (Store h o f s) p e) ((Right, eq o p) ∷ []) [] (Select X h p e)

-- selCreateDefault T (selX (create h o) o f); if named(f) => d(X)
abbrev pub sel_create_default : Taclet
sel_create_default = term_row (codes "selCreateDefault") (Select X (Create h o) o f) [] (NamedFieldTerm (codes "f") ∷ EntrySort (codes "X") ∷ DefaultTerm (codes "d(X)") X ∷ []) (AnyTerm (codes "d(X)"))

-- instExact F (inst C o); assume L (exact D o) => [D is C or below C]
abbrev pub inst_exact : Taclet
inst_exact = formula_row (codes "instExact") (Classed InstanceTest C o) ((Left, Classed ExactTest D o) ∷ []) [] (WhetherBelow (codes "[D]") (codes "D") (codes "C") ∷ []) (FormulaVar (codes "[D]"))

-- wfStore R (wf (store h o f s)); if f is C.f, s of its sort => ==> (and (wf h) (and (inst C o) TY))
abbrev pub wf_store : Taclet
wf_store = right_row (codes "wfStore") (Tested WellFormedOf (Store h o f s)) [] [] (FieldTakes (codes "f") (codes "s") ∷ DeclaredBy (codes "C") (codes "f") ∷ TypingOf (codes "TY") (codes "f") (codes "h") (codes "s") ∷ []) (goal [] (and (Tested WellFormedOf h) (and (Classed InstanceTest C o) (FormulaVar (codes "TY"))) ∷ []) ∷ [])

-- invExact F (inv h o); assume L (exact C o) => INV(C;h,o)
abbrev pub inv_exact : Taclet
inv_exact = formula_row (codes "invExact") (Compared InvariantOf h o) ((Left, Classed ExactTest C o) ∷ []) [] (InvariantsOf (codes "INV") (codes "C") (codes "h") (codes "o") ∷ []) (FormulaVar (codes "INV"))

-- ---- execution

abbrev pub updated : TermPattern → FormulaPattern → FormulaPattern
updated t a = Updated (NameVar (codes "x")) t a

-- setSimple (set x s) => (upd ((x s)) {})
abbrev pub set_simple : Taclet
set_simple = formula_row (codes "setSimple") (focused (statement (Set (NameVar (codes "x")) (Simple (codes "s"))))) [] [] [] (updated (OfSimple (codes "s")) (focused Done))

-- setGet (set x (get s C.f)) => CASE((eq s null),{raiseN},(upd ((x (selX @heap s C.f))) {}))
abbrev pub set_get : Taclet
set_get = formula_row (codes "setGet") (focused (statement (Set (NameVar (codes "x")) (ReadField (SimpleAt RefSort (codes "s")) (codes "C.f"))))) [] [] (FieldHasSort (codes "X") (codes "C.f") ∷ [])
    (case (eq (OfSimple (codes "s")) (Given NullTerm)) (focused (statement (Raise (ClassOf NullPointer)))) (updated (Select X (ProgramVariable (NameIs heap_name)) (OfSimple (codes "s")) (FieldVar (codes "C.f"))) (focused Done)))

-- blockOther (block l ((break k)..)), k not l => {(break k)}
abbrev pub block_other : Taclet
block_other = formula_row (codes "blockOther") (focused (statement (BlockPast (codes "l") (codes "k") rest))) [] [] [] (focused (statement (Break (codes "k"))))

-- blockReturn (block l (R..)), R a return of a simple or no value => {R}
abbrev pub block_return : Taclet
block_return = formula_row (codes "blockReturn") (focused (statement (Block (codes "l") (Then (ReturnVar (codes "R")) rest)))) [] [] [] (focused (statement (ReturnVar (codes "R"))))

-- frameReturn (frame r ((return s)..)) => {(set r s)}
abbrev pub frame_return : Taclet
frame_return = formula_row (codes "frameReturn") (focused (statement (Frame (ResultIn (NameVar (codes "r"))) (Then (Return (Simple (codes "s"))) rest)))) [] [] [] (focused (statement (Set (NameVar (codes "r")) (Simple (codes "s")))))

-- finallyReturn (finally ((return s)..) (F)); new v => {(set v s) F (return v)}
abbrev new_v : InstVar
new_v = record { name = codes "v"; form = NewVariable (SortOfSimple (codes "s")) }

abbrev pub finally_return : Taclet
finally_return = formula_row (codes "finallyReturn") (focused (statement (Finally (Then (Return (Simple (codes "s"))) rest) (CodeThen (codes "F") Done)))) [] (new_v ∷ []) []
    (focused (Then (Set (NameVar (codes "v")) (Simple (codes "s"))) (CodeThen (codes "F") (statement (Return (Variable (NameVar (codes "v"))))))))

-- those whose meaning is proved here, and the others, which are read alone
abbrev pub worked_rows : List Taclet
worked_rows = fold_add ∷ int_ind ∷ sel_store_obj ∷ sel_create_default ∷ inst_exact ∷ set_simple ∷ block_other ∷ block_return ∷ frame_return ∷ []

abbrev pub read_rows : List Taclet
read_rows = wf_store ∷ inv_exact ∷ set_get ∷ finally_return ∷ []
