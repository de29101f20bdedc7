-- The formulas of a sequent that was read are spelled.
use Rattle.std.proofs.Common.{Err, IfOk, List, MatchResult, Ok, Result, map, subst, sym, ◌++◌, ◌∷◌, ◌≡◌, []}
use Rattle.std.proofs.lemmas.List.{map-append}
use Rattle.jd_spelled_trees.specs.Places.{AreSpelled}
use Rattle.jd_spelled_trees.specs.Spelled.{IsSpelled}
use Rattle.jd_syntax.specs.Sxs.{Bracketed}
use Rattle.jd_term.specs.Formulas.{PlainFormula, formula_view}
use Rattle.jd_term.specs.declared.formula.Formula.{Formula}
use Rattle.jd_tforms.proofs.Answering.{answers}
use Rattle.jd_tforms.specs.Answers.{Is, formula_answer}
use Rattle.jd_tgrammar.specs.NameTables.{NameTable}

pub read_is_spelled : (names : NameTable) (x : Bracketed) (a : PlainFormula) → formula_answer names x ≡ Is a → IsSpelled names a
read_is_spelled names x a e =
    let h = (answers.formula names x a).0 e in
    (h.known, h.sorted)

one_more : (names : NameTable) (l : List PlainFormula) (a : PlainFormula) → AreSpelled names l → IsSpelled names a → AreSpelled names (l ++ (a ∷ []))
one_more names [] a _ s = (s, tt)
one_more names (b ∷ l) a h s = (h.0, one_more names l a h.1 s)

pub one_more_view : {F : Type 0} (view : F → PlainFormula) (names : NameTable) (l m : List F) (f : F) → m ≡ l ++ (f ∷ [])
    → AreSpelled names (map view l) → IsSpelled names (view f) → AreSpelled names (map view m)
one_more_view view names l m f e h s =
    subst (λ k. AreSpelled names (map view k)) (sym e) (subst (AreSpelled names) (sym (map-append view l (f ∷ []))) (one_more names (map view l) (view f) h s))

-- what was read, where something was
pub read_spelled : {E : Type 0} (names : NameTable) (x : Bracketed) (r : Result Formula E) (F : E → Type 0)
    → MatchResult r (λ a. formula_answer names x ≡ Is (formula_view a)) F → IfOk r (λ f. IsSpelled names (formula_view f))
read_spelled names x (Ok a) F h = read_is_spelled names x (formula_view a) h
read_spelled names x (Err e) F h = tt
