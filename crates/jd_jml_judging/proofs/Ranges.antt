-- A range of an array, of what its parts gave.
use Rattle.std.proofs.Common.{◌≡◌, ℕ, false, List, Result, sym, ap, ◌∙◌}
use Rattle.jd_syntax.specs.SpecTrees.{PlainLocation, PlainSpec, Range}
use Rattle.jd_bodies.specs.declared.value.ValueType.{ValueType}
use Rattle.jd_bodies.specs.Declarations.{Declarations}
use Rattle.jd_specifications.specs.declared.fault.SpecFault.{SpecFault}
use Rattle.jd_specifications.specs.Clauses.{location}
use Rattle.jd_specifications.specs.Scopes.{SpecLocal, SpecPlace}
use Rattle.jd_specifications.specs.Types.{at_of, type_of}
use Rattle.jd_jml_judging.specs.Named.{range_by}

abbrev Judged : Type 0
Judged = Result ValueType SpecFault

pub ranged : (d : Declarations) (p : SpecPlace) (ls : List SpecLocal) (l : PlainLocation) (at : ℕ) (a i j : PlainSpec) (x y z : ℕ) (s t u r : Judged) → l ≡ Range at a i j
    → x ≡ at_of a → s ≡ type_of d p false ls a → y ≡ at_of i → t ≡ type_of d p false ls i → z ≡ at_of j → u ≡ type_of d p false ls j → r ≡ range_by d x s y t z u → r ≡ location d p ls l
ranged d p ls l at a i j x y z s t u r is here gives first_here first_gives second_here second_gives told =
    told
    ∙ ap (λ n. range_by d n s y t z u) here
    ∙ ap (λ (g : Judged). range_by d (at_of a) g y t z u) gives
    ∙ ap (λ n. range_by d (at_of a) (type_of d p false ls a) n t z u) first_here
    ∙ ap (λ (g : Judged). range_by d (at_of a) (type_of d p false ls a) (at_of i) g z u) first_gives
    ∙ ap (λ n. range_by d (at_of a) (type_of d p false ls a) (at_of i) (type_of d p false ls i) n u) second_here
    ∙ ap (λ (g : Judged). range_by d (at_of a) (type_of d p false ls a) (at_of i) (type_of d p false ls i) (at_of j) g) second_gives
    ∙ sym (ap (location d p ls) is)
