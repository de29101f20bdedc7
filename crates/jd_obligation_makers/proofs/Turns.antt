-- Conjunctions made from the last member on.
use Rattle.std.proofs.Common.{◌≡◌, List, [], ◌∷◌, ◌++◌, map, refl, sym, ap, ◌∙◌, append_assoc}
use Rattle.std.proofs.lemmas.List.{map-append}
use Rattle.jd_term.specs.declared.formula.Formula.{Formula}
use Rattle.jd_term.specs.Formulas.{PlainFormula, And, formula_view}
use Rattle.jd_model.specs.Conjunctions.{conjunction}

joined_last : (xs : List PlainFormula) (a b : PlainFormula) → conjunction (xs ++ a ∷ b ∷ []) ≡ conjunction (xs ++ And a b ∷ [])
joined_last [] a b = refl
joined_last (x ∷ []) a b = refl
joined_last (x ∷ (y ∷ ys)) a b = ap (And x) (joined_last (y ∷ ys) a b)

-- one turn: the last member and what was made before
pub turn : (members rest : List Formula) (member : Formula) (before after whole : PlainFormula) → members ≡ rest ++ member ∷ [] → after ≡ And (formula_view member) before → conjunction (map formula_view members ++ before ∷ []) ≡ whole → conjunction (map formula_view rest ++ after ∷ []) ≡ whole
turn members rest member before after whole e made inv =
    ap (λ f. conjunction (map formula_view rest ++ f ∷ [])) made
    ∙ sym (joined_last (map formula_view rest) (formula_view member) before)
    ∙ ap conjunction (sym (append_assoc (map formula_view rest) (formula_view member ∷ []) (before ∷ [])))
    ∙ ap (λ l. conjunction (l ++ before ∷ [])) (sym (map-append formula_view rest (member ∷ [])) ∙ ap (map formula_view) (sym e))
    ∙ inv

-- the start: the last member alone
pub start : (members rest : List Formula) (last : Formula) → members ≡ rest ++ last ∷ [] → conjunction (map formula_view rest ++ formula_view last ∷ []) ≡ conjunction (map formula_view members)
start members rest last e = ap conjunction (sym (ap (map formula_view) e ∙ map-append formula_view rest (last ∷ [])))

pub nothing : (members : List Formula) (whole last : PlainFormula) → members ≡ [] → conjunction (map formula_view members ++ last ∷ []) ≡ whole → last ≡ whole
nothing members whole last none e = sym (ap (λ l. conjunction (map formula_view l ++ last ∷ [])) none) ∙ e
