-- Constants one by one.
use Rattle.std.proofs.Common.{◌≡◌, ◌+◌, ◌<◌, ℕ, List, [], ◌∷◌, ◌++◌, length, map, drop, get_or, sym, ap, ◌∙◌, append_assoc}
use Rattle.std.proofs.lemmas.List.{drop_more, map-append}
use Rattle.jd_base.specs.declared.sort.ConstDecl.{ConstDecl}
use Rattle.jd_syntax.specs.Names.{Name, const_decl_view}
use Rattle.jd_syntax.specs.declared.variable.VarDecl.{VarDecl}
use Rattle.jd_model.specs.Tables.{constants_of_parameters, parameter_constant}
use Rattle.jd_obligation_makers.specs.Starts.{decl_name}

-- one parameter more
pub constants_more : (vars : List VarDecl) (i : ℕ) (v : VarDecl) (old new : List ConstDecl) (c : ConstDecl) (whole : List Name) → i < length vars → v ≡ get_or vars i v → const_decl_view c ≡ parameter_constant (decl_name v) → new ≡ old ++ c ∷ []
    → map const_decl_view old ++ constants_of_parameters (map decl_name (drop i vars)) ≡ whole → map const_decl_view new ++ constants_of_parameters (map decl_name (drop (i + 1) vars)) ≡ whole
constants_more vars i v old new c whole lt is made more so_far =
    let rest = constants_of_parameters (map decl_name (drop (i + 1) vars)) in
    ap (λ l. map const_decl_view l ++ rest) more
    ∙ ap (λ l. l ++ rest) (map-append const_decl_view old (c ∷ []))
    ∙ append_assoc (map const_decl_view old) (const_decl_view c ∷ []) rest
    ∙ ap (λ x. map const_decl_view old ++ (x ∷ rest)) (made ∙ ap (λ w. parameter_constant (decl_name w)) is)
    ∙ ap (λ l. map const_decl_view old ++ constants_of_parameters (map decl_name l)) (sym (drop_more vars i v lt))
    ∙ so_far
