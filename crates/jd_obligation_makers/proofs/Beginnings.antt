-- The values at a start, one by one.
use Rattle.std.proofs.Common.{◌≡◌, ◌+◌, ◌<◌, ℕ, List, [], ◌∷◌, ◌++◌, length, map, drop, get_or, sym, ap, ◌∙◌, append_assoc}
use Rattle.std.proofs.lemmas.List.{drop_more}
use Rattle.jd_syntax.specs.Names.{Name}
use Rattle.jd_syntax.specs.declared.variable.VarDecl.{VarDecl}
use Rattle.jd_term.specs.Formulas.{Pairs}
use Rattle.jd_term.specs.Terms.{PlainTerm}
use Rattle.jd_oblig.specs.CaseObligations.{parameter_pair}
use Rattle.jd_obligation_makers.specs.Starts.{decl_name}

-- one parameter more
pub pairs_more : (vars : List VarDecl) (i : ℕ) (v : VarDecl) (old new whole : Pairs) → i < length vars → v ≡ get_or vars i v → new ≡ old ++ parameter_pair (decl_name v) ∷ []
    → old ++ map parameter_pair (map decl_name (drop i vars)) ≡ whole → new ++ map parameter_pair (map decl_name (drop (i + 1) vars)) ≡ whole
pairs_more vars i v old new whole lt is more so_far =
    let rest = map parameter_pair (map decl_name (drop (i + 1) vars)) in
    ap (λ l. l ++ rest) more
    ∙ append_assoc old (parameter_pair (decl_name v) ∷ []) rest
    ∙ ap (λ w. old ++ parameter_pair (decl_name w) ∷ rest) is
    ∙ ap (λ l. old ++ map parameter_pair (map decl_name l)) (sym (drop_more vars i v lt))
    ∙ so_far

-- the first, those between and the last
pub all_pairs : (h t : Name × PlainTerm) (between none first more whole : Pairs) → none ≡ [] → first ≡ none ++ h ∷ [] → more ≡ first ++ between → whole ≡ more ++ t ∷ [] → whole ≡ h ∷ (between ++ t ∷ [])
all_pairs h t between none first more whole empty one others last =
    last
    ∙ ap (λ l. l ++ t ∷ []) (others ∙ ap (λ l. l ++ between) (one ∙ ap (λ l. l ++ h ∷ []) empty))
