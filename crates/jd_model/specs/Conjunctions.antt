-- Formulas that several rules are made of.
use Rattle.std.specs.Prelude.{true, List, [], ◌∷◌}
use Rattle.jd_base.specs.declared.sort.Sort.{Sort}
use Rattle.jd_base.specs.declared.sort.Sort.TheVariants.{Int as IntSort, Bool as BoolSort, Ref as RefSort, Field as FieldSort}
use Rattle.jd_syntax.specs.CodeNames.{heap_name}
use Rattle.jd_term.specs.Formulas.{PlainFormula, TrueFormula, Not, And, Or, Equal, Forall, InLocations}
use Rattle.jd_term.specs.Shifts.{term_shift, loc_shift}
use Rattle.jd_term.specs.Terms.{PlainTerm, Boolean, ProgramVariable, Bound, Select, CreatedField, PlainLoc}

abbrev pub conjunction : List PlainFormula → PlainFormula
conjunction [] = TrueFormula
conjunction (a ∷ []) = a
conjunction (a ∷ (b ∷ l)) = And a (conjunction (b ∷ l))

abbrev pub created_at : PlainTerm → PlainTerm → PlainFormula
created_at h o = Equal (Select BoolSort h o CreatedField) (Boolean true)

abbrev pub same_select : Sort → PlainTerm → PlainFormula
same_select k g = Equal (Select k (ProgramVariable heap_name) (Bound 1 RefSort) (Bound 0 FieldSort)) (Select k (term_shift 0 2 g) (Bound 1 RefSort) (Bound 0 FieldSort))

-- at each location outside L of an object that was created, the heap is g
abbrev pub frame : PlainLoc → PlainTerm → PlainFormula
frame l g = Forall RefSort (Forall FieldSort (Or (InLocations (Bound 1 RefSort) (Bound 0 FieldSort) (loc_shift 0 2 l))
    (Or (Not (Equal (Select BoolSort (term_shift 0 2 g) (Bound 1 RefSort) CreatedField) (Boolean true)))
    (And (same_select IntSort g) (And (same_select BoolSort g) (same_select RefSort g))))))
