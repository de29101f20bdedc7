-- The rows of invariants one by one.
use Rattle.std.proofs.Common.{◌≡◌, inl, inr, ◌<◌, ◌≤◌, ◌+◌, ℕ, zero, suc, List, [], ◌∷◌, ◌++◌, length, map, drop, get_or, Option, Some, None, Result, Ok, Err, IfErr, IfOk, IsErrAnd, refl, sym, ap, ap₂, subst, ◌∙◌, arith, append_assoc}
use mathlib.Core.Path.{fun_ext}
use Rattle.std.specs.Global.{Vec}
use Rattle.std.specs.List.{range_with_len, slice_get}
use Rattle.std.specs.Option.{option_and_then}
use Rattle.std.proofs.lemmas.List.{append-nil, drop_more}
use Rattle.jd_syntax.specs.CodeNames.{heap_name}
use Rattle.jd_syntax.specs.JavaTrees.{JavaClass, JavaUnit}
use Rattle.jd_syntax.specs.SpecTrees.{PlainSpec, spec_view}
use Rattle.jd_syntax.specs.declared.spec.SpecExpr.{SpecExpr}
use Rattle.jd_term.specs.Formulas.{PlainFormula}
use Rattle.jd_term.specs.Terms as terms
use Rattle.jd_term.specs.Terms.{PlainTerm}
use Rattle.jd_term.specs.declared.term.Term.{Term}
use Rattle.jd_jclasses.specs.Refusals.{AreClasses}
use Rattle.jd_jinfos.specs.Infos.{PlainClassInfo, class_infos}
use Rattle.jd_bodies.specs.Declarations.{Declarations}
use Rattle.jd_bodies.specs.declared.value.ValueType.TheVariants.{Missing}
use Rattle.jd_model.specs.ContractForms.{PlainInvariant}
use Rattle.jd_model.specs.Programs.{Program}
use Rattle.jd_model.specs.SpecialNames.{receiver}
use Rattle.jd_jml_meaning.specs.InvariantFormulas.{invariant_formulas, invariant_spelling}
use Rattle.jd_jml_meaning.specs.JmlCases.{JmlProgram}
use Rattle.jd_jml_meaning.specs.Meaning as meaning
use Rattle.jd_jml_meaning.specs.Resolved.{JmlExpr}
use Rattle.jd_jml_meaning.specs.Translation.{Spelling, formula}
use Rattle.jd_specifications.specs.Resolution.{resolved}
use Rattle.jd_jml_formulas.specs.Spellings.{argument_in, at_time}
use Rattle.jd_jml_formulas.specs.declared.whole.Unmade.{Unmade}
use Rattle.jd_jml_formulas.specs.declared.whole.Unmade.TheVariants as causes
use Rattle.jd_case_clauses.specs.Said.{IsLarge, OneIsLarge, TellsOfOne}
use Rattle.jd_jml_written.specs.Marked.{class_invariants}
use Rattle.jd_jml_cases.proofs.Listing.{as_many}
use Rattle.jd_jmlcheck.specs.Specified.{PlainSpecs, class_spec, invariants_of_tree, specs_of}
use Rattle.jd_jmlcheck.specs.Views.{invariants_view}
use Rattle.jd_programs.specs.Programs as programs
use Rattle.jd_programs.specs.Programs.{IsProgram, class_tree}
use Rattle.jd_invariant_laws.specs.Laws.{InvariantsAreResolved}
use Rattle.jd_listed_tables.specs.Listed as listed
use Rattle.jd_listed_tables.specs.Listed.{invariant_row}
use Rattle.jd_body_tables.specs.Invariants.{TellsOfInvariants, all_formulas, formulas_meant, row_meant, rows_from}

-- ---- what invariants speak of

pub made : {A E : Type 0} (P : A → Type 0) (r : Result A E) (a : A) → r ≡ Ok a → IfOk r P → P a
made P r a is h = subst (λ i. IfOk i P) is h

abbrev of_parts : (meaning.When → PlainTerm) → (meaning.When → ℕ → PlainTerm) → PlainTerm → Spelling
of_parts h a o = record { heap = h; argument = a; this = o; result = invariant_spelling.result; thrown = terms.NullTerm }

alike_at : {A : Type 0} (x y a : A) → x ≡ a → y ≡ a → at_time x y ≡ (λ (t : meaning.When). a)
alike_at x y a now before = fun_ext by
  where
    by : (t : meaning.When) → at_time x y t ≡ a
    by meaning.Now = now
    by meaning.Before = before

no_arguments : argument_in [] ≡ (λ (k : ℕ). invariant_spelling.result)
no_arguments = fun_ext by
  where
    by : (k : ℕ) → argument_in [] k ≡ invariant_spelling.result
    by k = refl

pub terms_are : (now before this : PlainTerm) (xs ys : List Term) → now ≡ terms.ProgramVariable heap_name → before ≡ terms.ProgramVariable heap_name → this ≡ terms.Constant receiver → xs ≡ [] → ys ≡ []
    → of_parts (at_time now before) (at_time (argument_in xs) (argument_in ys)) this ≡ invariant_spelling
terms_are now before this xs ys is_now is_before is_this no_xs no_ys =
    ap (λ h. of_parts h (at_time (argument_in xs) (argument_in ys)) this) (alike_at now before (terms.ProgramVariable heap_name) is_now is_before)
    ∙ ap (λ a. of_parts (λ t. terms.ProgramVariable heap_name) a this) (alike_at (argument_in xs) (argument_in ys) (λ (k : ℕ). invariant_spelling.result) (ap argument_in no_xs ∙ no_arguments) (ap argument_in no_ys ∙ no_arguments))
    ∙ ap (of_parts (λ t. terms.ProgramVariable heap_name) (λ t k. invariant_spelling.result)) is_this

-- what was told of the cause that is passed on
pub told_on : {A : Type 0} (P : Unmade → Type 0) (r : Result A Unmade) (u : Unmade) → IsErrAnd r (λ v. v ≡ u) → P u → IfErr r P
told_on P (Ok a) u same told = tt
told_on P (Err e) u same told = subst P (sym same) told

-- ---- the formulas of a class

module _ (f : PlainSpec → PlainFormula) where
  abbrev all : List SpecExpr → List PlainFormula
  all es = map f (map spec_view es)

  pub one_more : (es : List SpecExpr) (i : ℕ) (e : SpecExpr) (old new whole : List PlainFormula) → i < length es → e ≡ get_or es i e → new ≡ old ++ f (spec_view e) ∷ [] → old ++ all (drop i es) ≡ whole → new ++ all (drop (i + 1) es) ≡ whole
  one_more es i e old new whole lt is more so_far =
      let rest = all (drop (i + 1) es) in
      ap (λ l. l ++ rest) more
      ∙ append_assoc old (f (spec_view e) ∷ []) rest
      ∙ ap (λ x. old ++ f (spec_view x) ∷ rest) is
      ∙ ap (λ l. old ++ all l) (sym (drop_more es i e lt))
      ∙ so_far

  none_left : (es : List SpecExpr) (i : ℕ) → length es ≤ i → all (drop i es) ≡ []
  none_left [] zero past = refl
  none_left [] (suc i) past = refl
  none_left (e ∷ es) zero past = absurd (omega (arith, past))
  none_left (e ∷ es) (suc i) past = none_left es i (omega (arith, past))

  pub all_made : (es : List SpecExpr) (i : ℕ) (done whole : List PlainFormula) → length es ≤ i → done ++ all (drop i es) ≡ whole → done ≡ whole
  all_made es i done whole past so_far = sym (append-nil done) ∙ ap (λ l. done ++ l) (sym (none_left es i past)) ∙ so_far

  at_place : (limit : ℕ) (es : List SpecExpr) (i : ℕ) (e : SpecExpr) → i < length es → e ≡ get_or es i e → OneIsLarge limit (f (spec_view e) ∷ []) → OneIsLarge limit (all es)
  at_place limit [] i e lt is large = absurd (omega (arith, lt))
  at_place limit (x ∷ es) zero e lt is (inl large) = inl (subst (λ y. IsLarge limit (f (spec_view y))) is large)
  at_place limit (x ∷ es) zero e lt is (inr none) = absurd none
  at_place limit (x ∷ es) (suc i) e lt is large = inr (at_place limit es i e (omega (arith, lt)) is large)

  pub passed_on : {A : Type 0} (limit : ℕ) (es : List SpecExpr) (i : ℕ) (e : SpecExpr) → i < length es → e ≡ get_or es i e → (r : Result A Unmade) (u : Unmade) → IsErrAnd r (λ v. v ≡ u)
      → TellsOfOne limit (f (spec_view e) ∷ []) u → IfErr r (TellsOfOne limit (all es))
  passed_on limit es i e lt is (Ok a) u same told = tt
  passed_on limit es i e lt is (Err causes.TooLarge) u same told = at_place limit es i e lt is (subst (TellsOfOne limit (f (spec_view e) ∷ [])) (sym same) told)
  passed_on limit es i e lt is (Err causes.NoMemory) u same told = tt

-- ---- the rows of all classes

among_first : (limit : ℕ) (xs ys : List PlainFormula) → OneIsLarge limit xs → OneIsLarge limit (xs ++ ys)
among_first limit [] ys large = absurd large
among_first limit (x ∷ xs) ys (inl large) = inl large
among_first limit (x ∷ xs) ys (inr large) = inr (among_first limit xs ys large)

among_last : (limit : ℕ) (xs ys : List PlainFormula) → OneIsLarge limit ys → OneIsLarge limit (xs ++ ys)
among_last limit [] ys large = large
among_last limit (x ∷ xs) ys large = inr (among_last limit xs ys large)

module _ (p : Program) (d : Declarations) where
  abbrev rows : ℕ → List (Vec SpecExpr) → List PlainInvariant
  rows n ess = rows_from p d n (map invariants_view ess)

  pub row_more : (ess : List (Vec SpecExpr)) (n : ℕ) (v : Vec SpecExpr) (es : List SpecExpr) (old new whole : List PlainInvariant) → n < length ess → v ≡ get_or ess n v → es ≡ v.items → new ≡ old ++ row_meant p d n (map spec_view es) ∷ []
      → old ++ rows n (drop n ess) ≡ whole → new ++ rows (n + 1) (drop (n + 1) ess) ≡ whole
  row_more ess n v es old new whole lt is lent more so_far =
      let rest = rows (n + 1) (drop (n + 1) ess) in
      let next : n + 1 ≡ suc n = omega arith in
      ap (λ l. l ++ rest) more
      ∙ append_assoc old (row_meant p d n (map spec_view es) ∷ []) rest
      ∙ ap (λ x. old ++ row_meant p d n (map spec_view x) ∷ rest) (lent ∙ ap (λ (x : Vec SpecExpr). x.items) is)
      ∙ ap (λ k. old ++ row_meant p d n (map spec_view (get_or ess n v).items) ∷ rows k (drop (n + 1) ess)) next
      ∙ ap (λ l. old ++ rows n l) (sym (drop_more ess n v lt))
      ∙ so_far

  no_rows : (ess : List (Vec SpecExpr)) (n i : ℕ) → length ess ≤ i → rows n (drop i ess) ≡ []
  no_rows [] n zero past = refl
  no_rows [] n (suc i) past = refl
  no_rows (es ∷ ess) n zero past = absurd (omega (arith, past))
  no_rows (es ∷ ess) n (suc i) past = no_rows ess n i (omega (arith, past))

  pub rows_end : (ess : List (Vec SpecExpr)) (n : ℕ) (done whole : List PlainInvariant) → length ess ≤ n → done ++ rows n (drop n ess) ≡ whole → done ≡ whole
  rows_end ess n done whole past so_far = sym (append-nil done) ∙ ap (λ l. done ++ l) (sym (no_rows ess n n past)) ∙ so_far

  at_row : (limit : ℕ) (ess : List (Vec SpecExpr)) (k i : ℕ) (es : Vec SpecExpr) → i < length ess → es ≡ get_or ess i es → OneIsLarge limit (formulas_meant p d (k + i) (map spec_view es.items)) → OneIsLarge limit (all_formulas (rows k ess))
  at_row limit [] k i es lt is large = absurd (omega (arith, lt))
  at_row limit (fs ∷ ess) k zero es lt is large =
      let same : k + 0 ≡ k = omega arith in
      among_first limit (formulas_meant p d k (map spec_view fs.items)) (all_formulas (rows (suc k) ess)) (subst (λ (x : Vec SpecExpr). OneIsLarge limit (formulas_meant p d k (map spec_view x.items))) is (subst (λ n. OneIsLarge limit (formulas_meant p d n (map spec_view es.items))) same large))
  at_row limit (fs ∷ ess) k (suc i) es lt is large =
      let same : k + suc i ≡ suc k + i = omega arith in
      among_last limit (formulas_meant p d k (map spec_view fs.items)) (all_formulas (rows (suc k) ess)) (at_row limit ess (suc k) i es (omega (arith, lt)) is (subst (λ n. OneIsLarge limit (formulas_meant p d n (map spec_view es.items))) same large))

  pub row_passed_on : {A : Type 0} (limit : ℕ) (ess : List (Vec SpecExpr)) (n : ℕ) (v : Vec SpecExpr) (es : List SpecExpr) → n < length ess → v ≡ get_or ess n v → es ≡ v.items → (r : Result A Unmade) (u : Unmade) → IsErrAnd r (λ x. x ≡ u)
      → TellsOfOne limit (formulas_meant p d n (map spec_view es)) u → IfErr r (TellsOfInvariants limit (rows 0 ess))
  row_passed_on limit ess n v es lt is lent (Ok a) u same told = tt
  row_passed_on limit ess n v es lt is lent (Err causes.TooLarge) u same told =
      let place : n ≡ 0 + n = omega arith in
      let large : OneIsLarge limit (formulas_meant p d n (map spec_view es)) = subst (TellsOfOne limit (formulas_meant p d n (map spec_view es))) (sym same) told in
      at_row limit ess 0 n v lt is (subst (λ k. OneIsLarge limit (formulas_meant p d k (map spec_view v.items))) place (subst (λ l. OneIsLarge limit (formulas_meant p d n (map spec_view l))) lent large))
  row_passed_on limit ess n v es lt is lent (Err causes.NoMemory) u same told = tt

  -- ---- those of the program

  module _ (own : ℕ → List JmlExpr) where
    listed_rows : (k : ℕ) (infos : List PlainClassInfo) → ((i : ℕ) (info : PlainClassInfo) → slice_get infos i ≡ Some info → formulas_meant p d (k + i) (class_spec info) ≡ invariant_formulas p (own (k + i)))
        → rows_from p d k (map class_spec infos) ≡ map (invariant_row p own) (range_with_len k (length infos))
    listed_rows k [] each = refl
    listed_rows k (x ∷ infos) each =
        let same : k + 0 ≡ k = omega arith in
        let next : suc k ≡ k + 1 = omega arith in
        let first : formulas_meant p d k (class_spec x) ≡ invariant_formulas p (own k) = subst (λ n. formulas_meant p d n (class_spec x) ≡ invariant_formulas p (own n)) same (each 0 x refl) in
        ap₂ ◌∷◌ (λ i. record { class = k; formulas = first i })
        (listed_rows (suc k) infos (λ i info there. let place : k + suc i ≡ suc k + i = omega arith in subst (λ n. formulas_meant p d n (class_spec info) ≡ invariant_formulas p (own n)) place (each (suc i) info there)) ∙ ap (λ n. map (invariant_row p own) (range_with_len n (length infos))) next)

  mapped_twice : {X Y Z : Type 0} (g : Y → Z) (h : X → Y) (xs : List X) → map (λ x. g (h x)) xs ≡ map g (map h xs)
  mapped_twice g h [] = refl
  mapped_twice g h (x ∷ xs) = ap (λ l. g (h x) ∷ l) (mapped_twice g h xs)

module _ (law : InvariantsAreResolved) (units : List JavaUnit) (are : AreClasses units) (j : JmlProgram) (is : IsProgram units j) where
  abbrev d : Declarations
  d = is.declarations

  of_tree : (c : ℕ) (o : Option JavaClass) → class_tree units c ≡ o → formulas_meant j.program d c (invariants_of_tree o) ≡ invariant_formulas j.program (programs.invariants_of_tree d c o)
  of_tree c None there = refl
  of_tree c (Some t) there =
      mapped_twice j.program d (formula j.program invariant_spelling meaning.Now) (resolved d c Missing []) (class_invariants t)
      ∙ ap (invariant_formulas j.program) (law units are d is.are_declarations c t there)

  of_class : (c : ℕ) (info : PlainClassInfo) → slice_get (class_infos units) c ≡ Some info → formulas_meant j.program d c (class_spec info) ≡ invariant_formulas j.program (j.own c)
  of_class c info there =
      let tree : class_tree units c ≡ info.decl = ap (option_and_then (λ (i : PlainClassInfo). i.decl)) there in
      of_tree c info.decl tree
      ∙ ap (λ o. invariant_formulas j.program (programs.invariants_of_tree d c o)) (sym tree)
      ∙ ap (invariant_formulas j.program) (sym (is.invariants_ c))

  -- what is made is what is listed
  pub are_listed : (e : Declarations) (s : PlainSpecs) → d ≡ e → s ≡ specs_of units → rows_from j.program e 0 s.classes ≡ listed.invariant_rows units d j.program j.own
  are_listed e s declared specs =
      ap (λ x. rows_from j.program x 0 s.classes) (sym declared)
      ∙ ap (λ (x : PlainSpecs). rows_from j.program d 0 x.classes) specs
      ∙ listed_rows j.program d j.own 0 (class_infos units) (λ i info there. let same : i ≡ 0 + i = omega arith in subst (λ n. formulas_meant j.program d n (class_spec info) ≡ invariant_formulas j.program (j.own n)) same (of_class i info there))
      ∙ ap (λ n. map (invariant_row j.program j.own) (range_with_len 0 n)) (as_many units)
