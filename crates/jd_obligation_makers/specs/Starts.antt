-- The values at the start of a run, by the variables of the body.
use Rattle.std.specs.Prelude.{Bool, true, false, List, [], ◌∷◌, ◌++◌, map}
use Rattle.jd_syntax.specs.CodeNames.{heap_name}
use Rattle.jd_syntax.specs.Names.{Name, decl_view}
use Rattle.jd_syntax.specs.declared.variable.VarDecl.{VarDecl}
use Rattle.jd_term.specs.Formulas.{Pairs}
use Rattle.jd_term.specs.Terms.{NullTerm, Constant}
use Rattle.jd_model.specs.SpecialNames.{entry_heap, receiver, thrown_variable}
use Rattle.jd_oblig.specs.CaseObligations.{parameter_pair}

abbrev pub decl_name : VarDecl → Name
decl_name v = (decl_view v).name

-- of the receiver, which is the first where there is one, and of the parameters
abbrev pub pairs_of : Bool → List Name → Pairs
pairs_of false xs = map parameter_pair xs
pairs_of true [] = []
pairs_of true (x ∷ xs) = (x, Constant receiver) ∷ map parameter_pair xs

abbrev pub whole_start : Bool → List Name → Pairs
whole_start receiver xs = (heap_name, Constant entry_heap) ∷ (pairs_of receiver xs ++ ((thrown_variable, NullTerm) ∷ []))
