-- What conditions tell one after the other.
use Rattle.std.proofs.Common.{List, None, Option, Some, [], ap, append_assoc, drop, flat_map, get_or, length, refl, sym, ◌+◌, ◌++◌, ◌<◌, ◌≡◌, ◌∙◌, ◌∷◌, ℕ}
use Rattle.std.proofs.lemmas.List.{drop_more}
use Rattle.jd_patterns.specs.Bindings.{Bindings}
use Rattle.jd_patterns.specs.Instances.{Instance}
use Rattle.jd_schema_matching.specs.Tested.{tests}
use Rattle.jd_schema_trees.specs.TacletViews.{condition}
use Rattle.jd_schema_trees.specs.declared.condition.VarCond.{VarCond}
use Rattle.jd_schema_trees.specs.declared.condition.VarCond.TheVariants as conds
use Rattle.jd_sequent.specs.Obligations.{PlainTask}
use Rattle.jd_taclet_stages.specs.Conditions.{Fails, Fixes, Stands, Told, conditions_told, told_with}
use Rattle.jd_taclet_matching.specs.Given.{with_more}
use Rattle.jd_taclet_conditions.specs.Telling.{told_of, with_told}

goes_on : (τ φ : Bindings) (x : Told) (l : Option Bindings) → Some φ ≡ with_told τ x → with_more τ (told_with x l) ≡ with_more φ l
goes_on τ φ Fails l is = cc
goes_on τ φ Stands l is =
    let same : φ ≡ τ = cc in
    ap (λ t. with_more t l) (sym same)
goes_on τ φ (Fixes k x) None is = refl
goes_on τ φ (Fixes k x) (Some ψ) is =
    let same : φ ≡ τ ++ (k, x) ∷ [] = cc in
    ap Some (sym (ap (λ t. t ++ ψ) same ∙ append_assoc τ ((k, x) ∷ []) ψ))

module _ (t : PlainTask) (σ : Instance) where
  abbrev all_told : List VarCond → Option Bindings
  all_told cs = conditions_told tests t σ (flat_map condition cs)

  next_told : (c : VarCond) (cs : List VarCond) → all_told (c ∷ cs) ≡ told_with (told_of t σ c) (all_told cs)
  next_told (conds.Gives m f) cs = refl
  next_told (conds.SteadyIn u a) cs = refl
  next_told (conds.NamedFieldTerm f) cs = refl
  next_told (conds.FieldsApart f e) cs = refl
  next_told (conds.AtLeastZero m) cs = refl
  next_told (conds.TermHasSort u s) cs = refl
  next_told (conds.KindBelow d c) cs = refl
  next_told (conds.KindsDiffer d c) cs = refl
  next_told (conds.FieldRefersTo f d) cs = refl
  next_told (conds.FieldTakes f s) cs = refl
  next_told (conds.Calculated k a) cs = refl
  next_told (conds.WhetherNumbers k q a c) cs = refl
  next_told (conds.WhetherBelow k d c) cs = refl
  next_told (conds.DefaultTerm k s) cs = refl
  next_told (conds.DefaultExpr k x) cs = refl
  next_told (conds.FieldHasSort k f) cs = refl
  next_told (conds.DeclaredBy k f) cs = refl
  next_told (conds.TypingOf k f h s) cs = refl
  next_told (conds.InvariantsOf k c h o) cs = refl
  next_told (conds.IndexSort a s) cs = refl
  next_told (conds.IndexSortInTerm u s) cs = refl
  next_told (conds.EntrySort s) cs = refl
  next_told (conds.OnlyIndex a) cs = refl

  rest_told : (cs : List VarCond) (i : ℕ) (c : VarCond) → i < length cs → c ≡ get_or cs i c → all_told (drop i cs) ≡ told_with (told_of t σ c) (all_told (drop (i + 1) cs))
  rest_told cs i c lt is = ap all_told (drop_more cs i c lt ∙ ap (λ x. x ∷ drop (i + 1) cs) (sym is)) ∙ next_told c (drop (i + 1) cs)

  -- the next condition may hold
  pub one_holds : (cs : List VarCond) (i : ℕ) (c : VarCond) (τ φ : Bindings) → i < length cs → c ≡ get_or cs i c → Some φ ≡ with_told τ (told_of t σ c) → with_more φ (all_told (drop (i + 1) cs)) ≡ with_more τ (all_told (drop i cs))
  one_holds cs i c τ φ lt is told = sym (ap (with_more τ) (rest_told cs i c lt is) ∙ goes_on τ φ (told_of t σ c) _ told)
