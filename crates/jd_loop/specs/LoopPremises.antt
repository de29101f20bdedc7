-- The two premises of the loop rule (The KeY Book, 3.7.2).
use Rattle.std.specs.Prelude.{true, false, pos, cond, ℕ, Option, Some, None, List, [], ◌∷◌, ◌++◌}
use Rattle.jd_base.specs.declared.sort.Sort.{Sort}
use Rattle.jd_base.specs.declared.sort.Sort.TheVariants.{Int as IntSort, Bool as BoolSort, Ref as RefSort, Heap as HeapSort, Field as FieldSort}
use Rattle.jd_syntax.specs.Names.{Name, Declared}
use Rattle.jd_syntax.specs.CodeNames.{same_name, heap_name}
use Rattle.jd_syntax.specs.Codes.{PlainKind, OfClass, IntArray, Expr, BoolLiteral, Set, If, While, Stop, PlainCode, Done, Then}
use Rattle.jd_term.specs.declared.formula.Modality.{Modality}
use Rattle.jd_term.specs.declared.formula.Modality.TheVariants as modalities
use Rattle.jd_term.specs.Terms.{PlainTerm, Number, Boolean, NullTerm, ProgramVariable, Constant, Anon, PlainLoc}
use Rattle.jd_term.specs.Formulas.{Pairs, PlainFormula, TrueFormula, And, Or, Implies, Equal, Less, LessOrEqual, Updated, Modal, InInt, WellFormed, IsInstance}
use Rattle.jd_model.specs.Contexts.{Context, fill, chain, one}
use Rattle.jd_model.specs.Conjunctions.{conjunction, created_at, frame}
use Rattle.jd_model.specs.Occurrences.{member}
use Rattle.jd_term.specs.Renamings.{Renaming, rename_loc}
use Rattle.jd_sequent.specs.Obligations.{PlainLoop}
use Rattle.jd_loop.specs.LoopNames.{RenewedVariable, LoopNames, renewed_variables}

-- ---- what each turn keeps

-- the declared class of a reference, or `int[]`
abbrev pub declared_kind : Option ℕ → PlainKind
declared_kind None = IntArray
declared_kind (Some c) = OfClass c

-- an `int` is in range; a reference is null, or a created instance of its class
abbrev pub typing_at : Sort → Name → Option ℕ → List PlainFormula
typing_at IntSort x class = InInt (ProgramVariable x) ∷ []
typing_at BoolSort x class = []
typing_at RefSort x class = Or (Equal (ProgramVariable x) NullTerm) (And (IsInstance (declared_kind class) (ProgramVariable x)) (created_at (ProgramVariable heap_name) (ProgramVariable x))) ∷ []
typing_at HeapSort x class = []
typing_at FieldSort x class = []

-- the typing of a variable by its declaration
abbrev pub declared_typing : List Declared → Name → List PlainFormula
declared_typing [] x = []
declared_typing (v ∷ vs) x = cond (same_name x v.name) (typing_at x.sort x v.class) (declared_typing vs x)

-- the typings of those variables that are in the loop's scope
abbrev pub typings : List Declared → List Name → List Name → List PlainFormula
typings vars scope [] = []
typings vars scope (x ∷ xs) = cond (member x scope) (declared_typing vars x) [] ++ typings vars scope xs

-- a well-formed heap, the assigned variables of the scope typed, and the invariant
abbrev pub loop_invariant : List Declared → PlainLoop → List Name → PlainFormula
loop_invariant vars f xs = conjunction (WellFormed (ProgramVariable heap_name) ∷ (typings vars f.scope xs ++ (f.invariant ∷ [])))

-- ---- the updates

-- `(p1 x1)..`: the values before the loop
abbrev pub saved_pairs : List RenewedVariable → Pairs
saved_pairs [] = []
saved_pairs (r ∷ rs) = (r.before, ProgramVariable r.variable) ∷ saved_pairs rs

-- `(x1 c1)..`: any values before a turn
abbrev pub renewed_pairs : List RenewedVariable → Pairs
renewed_pairs [] = []
renewed_pairs (r ∷ rs) = (r.variable, Constant r.now) ∷ renewed_pairs rs

-- heap and variables are saved
abbrev pub saving : LoopNames → Pairs
saving n = (n.heap_before, ProgramVariable heap_name) ∷ saved_pairs n.renewed

-- the heap is any heap on the locations and on new objects, and the variables have any values
abbrev pub renewing : LoopNames → PlainLoc → Pairs
renewing n l = (heap_name, Anon (ProgramVariable heap_name) l (Constant n.heap_now)) ∷ renewed_pairs n.renewed

-- the variant is noted, and no turn is marked
abbrev pub beginning : LoopNames → PlainTerm → Pairs
beginning n v = (n.variant_before, v) ∷ ((n.mark, Boolean false) ∷ [])

-- ---- the locations, as they are before the loop

-- the new variable of an assigned one, and the others themselves
abbrev pub variable_before : List RenewedVariable → Name → Name
variable_before [] x = x
variable_before (r ∷ rs) x = cond (same_name x r.variable) r.before (variable_before rs x)

-- the name that has the value before the loop
abbrev pub at_start : LoopNames → Name → Name
at_start n x = cond (same_name x heap_name) n.heap_before (variable_before n.renewed x)

-- `@h~n` for `@heap`, and p for x
abbrev pub start_renaming : LoopNames → Renaming
start_renaming n = record { con = λ c. Constant c; var = λ x. ProgramVariable (at_start n x) }

-- the loop's locations, read before the loop
abbrev pub start_locations : LoopNames → PlainLoc → PlainLoc
start_locations n l = rename_loc (start_renaming n) l

-- ---- one turn

-- `(if e (T (set @bx~n true) (stop)) ())`: one turn, marked, and then the end
abbrev pub turn_code : Name → Expr → PlainCode → PlainCode
turn_code mark e c = one (If e (chain c (Then (Set mark (BoolLiteral true)) (one Stop))) Done)

-- a missing variant is 0
abbrev pub variant_or_zero : Option PlainTerm → PlainTerm
variant_or_zero None = Number (pos 0)
variant_or_zero (Some v) = v

-- in a diamond the variant has fallen from a value that is not negative
abbrev pub variant_falls : Modality → LoopNames → PlainTerm → PlainFormula
variant_falls modalities.Necessity n v = TrueFormula
variant_falls modalities.Possibility n v = And (LessOrEqual (Number (pos 0)) (ProgramVariable n.variant_before)) (Less v (ProgramVariable n.variant_before))

-- behind the whole code the formula holds; behind a marked turn the invariant does, the heap is framed, and the variant has fallen
abbrev pub after_turn : Modality → LoopNames → PlainFormula → PlainLoc → PlainTerm → PlainFormula → PlainFormula
after_turn m n w l v a = And (Implies (Equal (ProgramVariable n.mark) (Boolean false)) a)
    (Implies (Equal (ProgramVariable n.mark) (Boolean true)) (And w (And (frame (start_locations n l) (ProgramVariable n.heap_before)) (variant_falls m n v))))

-- what is to be shown of one turn from any state with the invariant w
abbrev pub turn_premise : Modality → LoopNames → PlainFormula → PlainLoc → PlainTerm → Context → Expr → PlainCode → PlainFormula → PlainFormula
turn_premise m n w l v k e c a = Updated (saving n) (Updated (renewing n l) (Implies w (Updated (beginning n v) (Modal m (fill k (turn_code n.mark e c)) (after_turn m n w l v a)))))

-- ---- the rule

-- a modality with the loop at a focus
abbrev pub loop_formula : Modality → Context → ℕ → Expr → PlainCode → PlainFormula → PlainFormula
loop_formula m k j e c a = Modal m (fill k (one (While j e c))) a

-- the invariant holds before the loop
abbrev pub first_premise : List Declared → PlainLoop → LoopNames → PlainFormula
first_premise vars f n = loop_invariant vars f (renewed_variables n.renewed)

-- from any state with the invariant one turn keeps it, or leads to the end
abbrev pub second_premise : Modality → List Declared → PlainLoop → LoopNames → Context → Expr → PlainCode → PlainFormula → PlainFormula
second_premise m vars f n k e c a = turn_premise m n (first_premise vars f n) f.assignable (variant_or_zero f.variant) k e c a
