-- The cases from a clause on, by what it is to them.
use Rattle.std.proofs.Common.{◌≡◌, ◌++◌, ℕ, List, [], ◌∷◌, Option, Some, Result, Ok, Err, IfOk, map, refl, sym, ap, subst, ◌∙◌}
use Rattle.std.specs.Global.{Vec}
use Rattle.std.proofs.lemmas.List.{map-append}
use Rattle.jd_base.specs.declared.memory.NoMemory.{NoMemory}
use Rattle.jd_syntax.specs.declared.spec.SpecCase.{SpecCase}
use Rattle.jd_syntax.specs.declared.spec.SpecClause.{SpecClause}
use Rattle.jd_syntax.specs.SpecTrees as trees
use Rattle.jd_syntax.specs.SpecTrees.{PlainClause, clause_view}
use Rattle.jd_specifications.specs.WrittenCases.{cases_from}
use Rattle.jd_jml_written.specs.declared.cases.Sofar.{Sofar}
use Rattle.jd_jml_written.specs.Marked.{PlainMarks, case_of}
use Rattle.jd_jml_written.specs.Parts.{cases_by, part_of}
use Rattle.jd_jml_written.specs.Views.{case_view, current_view, ended_by}

pub cases_are : (sofar : Option (List PlainClause)) (c : PlainClause) (cs : List PlainClause) → cases_from sofar (c ∷ cs) ≡ cases_by (part_of c) sofar c cs
cases_are sofar (trees.Also at) cs = refl
cases_are sofar (trees.Requires at e) cs = refl
cases_are sofar (trees.Ensures at e) cs = refl
cases_are sofar (trees.Signals at k x e) cs = refl
cases_are sofar (trees.SignalsOnly at ks) cs = refl
cases_are sofar (trees.Assignable at ls) cs = refl
cases_are sofar (trees.MeasuredBy at e) cs = refl
cases_are sofar (trees.Diverges at b) cs = refl
cases_are sofar (trees.LoopInvariant at e) cs = refl
cases_are sofar (trees.Decreases at e) cs = refl
cases_are sofar (trees.Invariant at e) cs = refl
cases_are sofar (trees.NormalBehavior at) cs = refl
cases_are sofar (trees.ExceptionalBehavior at) cs = refl
cases_are sofar (trees.Behavior at) cs = refl
cases_are sofar (trees.Pure at) cs = refl
cases_are sofar (trees.Helper at) cs = refl
cases_are sofar (trees.Nullable at) cs = refl
cases_are sofar (trees.NonNull at) cs = refl
cases_are sofar (trees.SpecPublic at) cs = refl
cases_are sofar (trees.SpecProtected at) cs = refl

-- the case that has begun is the last
pub one_more : (r : Result (Vec SpecCase) NoMemory) (item : Result SpecCase NoMemory) (s : Sofar) (clauses : Vec SpecClause) (n : ℕ) (ms : PlainMarks) → s.current ≡ Some clauses
    → IfOk r (λ v. (x : SpecCase) × (item ≡ Ok x) × (v.items ≡ s.done.items ++ x ∷ [])) → IfOk item (λ v. case_view v ≡ case_of n ms (map clause_view clauses.items)) → IfOk r (λ v. map case_view v.items ≡ ended_by n ms s [])
one_more (Err e) item s clauses n ms is found told = tt
one_more (Ok v) item s clauses n ms is (x, made, items) told =
    let seen : case_view x ≡ case_of n ms (map clause_view clauses.items) = subst (λ (i : Result SpecCase NoMemory). IfOk i (λ y. case_view y ≡ case_of n ms (map clause_view clauses.items))) made told in
    ap (map case_view) items
    ∙ map-append case_view s.done.items (x ∷ [])
    ∙ ap (λ y. map case_view s.done.items ++ y ∷ []) seen
    ∙ sym (ap (λ (o : Option (Vec SpecClause)). map case_view s.done.items ++ map (case_of n ms) (cases_from (current_view o) [])) is)
