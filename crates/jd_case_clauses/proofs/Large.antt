-- That a formula is too large, as one of many.
use Rattle.std.proofs.Common.{◌≡◌, inl, inr, ◌<◌, ◌≤◌, ◌+◌, ℕ, zero, suc, List, [], ◌∷◌, ◌++◌, length, map, flat_map, drop, get_or, Result, Ok, Err, IfErr, IsErrAnd, Option, Some, refl, ap, subst, sym, ◌∙◌, arith, append_assoc}
use Rattle.std.proofs.lemmas.List.{append-nil, drop_more, length-map}
use Rattle.jd_syntax.specs.SpecTrees.{PlainClause, PlainSpec, clause_view}
use Rattle.jd_syntax.specs.declared.spec.SpecClause.{SpecClause}
use Rattle.jd_term.specs.Formulas.{PlainFormula}
use Rattle.jd_term.specs.FormulaSizes.{formula_depth}
use Rattle.jd_case_rows.specs.Rows.{one_of, only_member}
use Rattle.jd_specifications.specs.Resolution.{Entry}
use Rattle.jd_jml_formulas.specs.declared.whole.Unmade.{Unmade}
use Rattle.jd_jml_formulas.specs.declared.whole.Unmade.TheVariants as causes
use Rattle.jd_case_clauses.specs.Said.{OneIsLarge, TellsOfOne, listed}

-- the formula of what a clause says
pub one_said : (f : List Entry → PlainSpec → PlainFormula) (seen known : List Entry) (o : Option PlainSpec) (e : PlainSpec) → seen ≡ known → Some e ≡ o → f seen e ∷ [] ≡ map (f known) (listed o)
one_said f seen known o e same is = ap (λ v. f v e ∷ []) same ∙ ap (λ q. map (f known) (listed q)) is

-- as many levels as there are classes, and one more
levels : (c : ℕ) (cs : List ℕ) → suc (length cs) ≤ formula_depth (one_of c cs)
levels c [] = omega arith
levels c (d ∷ cs) = let below = levels d cs in omega (arith, below)

levels_of : (cs : List ℕ) → length cs ≤ formula_depth (only_member cs)
levels_of [] = omega arith
levels_of (c ∷ cs) = levels c cs

pub many_levels : {X Y : Type 0} (g : X → Y) (f : Y → ℕ) (xs : List X) (n : ℕ) → n < length xs → n < formula_depth (only_member (map f (map g xs)))
many_levels g f xs n lt =
    let many : length (map f (map g xs)) ≡ length xs = length-map (map g xs) f ∙ length-map xs g in
    let below = levels_of (map f (map g xs)) in
    omega (arith, lt, many, below)

among_first : (limit : ℕ) (xs ys : List PlainFormula) → OneIsLarge limit xs → OneIsLarge limit (xs ++ ys)
among_first limit [] ys large = absurd large
among_first limit (x ∷ xs) ys (inl large) = inl large
among_first limit (x ∷ xs) ys (inr large) = inr (among_first limit xs ys large)

among_last : (limit : ℕ) (xs ys : List PlainFormula) → OneIsLarge limit ys → OneIsLarge limit (xs ++ ys)
among_last limit [] ys large = large
among_last limit (x ∷ xs) ys large = inr (among_last limit xs ys large)

module _ (limit : ℕ) (g : PlainClause → List PlainFormula) where
  -- of the clause at a place
  at_place : (cs : List SpecClause) (i : ℕ) (c : SpecClause) → i < length cs → c ≡ get_or cs i c → OneIsLarge limit (g (clause_view c)) → OneIsLarge limit (flat_map g (map clause_view cs))
  at_place [] i c lt is large = absurd (omega (arith, lt))
  at_place (d ∷ cs) zero c lt is large = among_first limit (g (clause_view d)) (flat_map g (map clause_view cs)) (subst (λ e. OneIsLarge limit (g (clause_view e))) is large)
  at_place (d ∷ cs) (suc i) c lt is large = among_last limit (g (clause_view d)) (flat_map g (map clause_view cs)) (at_place cs i c (omega (arith, lt)) is large)

  -- one more of those that are made
  pub one_more : (cs : List SpecClause) (i : ℕ) (c : SpecClause) (old new whole : List PlainFormula) → i < length cs → c ≡ get_or cs i c → new ≡ old ++ g (clause_view c)
      → old ++ flat_map g (map clause_view (drop i cs)) ≡ whole → new ++ flat_map g (map clause_view (drop (i + 1) cs)) ≡ whole
  one_more cs i c old new whole lt is more so_far =
      let rest = flat_map g (map clause_view (drop (i + 1) cs)) in
      ap (λ l. l ++ rest) more
      ∙ append_assoc old (g (clause_view c)) rest
      ∙ ap (λ d. old ++ (g (clause_view d) ++ rest)) is
      ∙ ap (λ l. old ++ flat_map g (map clause_view l)) (sym (drop_more cs i c lt))
      ∙ so_far

  none_left : (cs : List SpecClause) (i : ℕ) → length cs ≤ i → flat_map g (map clause_view (drop i cs)) ≡ []
  none_left [] zero past = refl
  none_left [] (suc i) past = refl
  none_left (c ∷ cs) zero past = absurd (omega (arith, past))
  none_left (c ∷ cs) (suc i) past = none_left cs i (omega (arith, past))

  pub all_made : (cs : List SpecClause) (i : ℕ) (made whole : List PlainFormula) → length cs ≤ i → made ++ flat_map g (map clause_view (drop i cs)) ≡ whole → made ≡ whole
  all_made cs i made whole past so_far = sym (append-nil made) ∙ ap (λ l. made ++ l) (sym (none_left cs i past)) ∙ so_far

  pub passed_on : {A : Type 0} (cs : List SpecClause) (i : ℕ) (c : SpecClause) → i < length cs → c ≡ get_or cs i c → (r : Result A Unmade) (u : Unmade) → IsErrAnd r (λ e. e ≡ u)
      → TellsOfOne limit (g (clause_view c)) u → IfErr r (TellsOfOne limit (flat_map g (map clause_view cs)))
  passed_on cs i c lt is (Ok a) u same told = tt
  passed_on cs i c lt is (Err causes.TooLarge) u same told = at_place cs i c lt is (subst (TellsOfOne limit (g (clause_view c))) (sym same) told)
  passed_on cs i c lt is (Err causes.NoMemory) u same told = tt
