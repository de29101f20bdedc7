-- Rows of cases that are numbered, and of the cases of a program.
use Rattle.std.proofs.Common.{◌≡◌, ◌<◌, ◌≤◌, ◌+◌, inl, inr, ℕ, suc, List, [], ◌∷◌, ◌++◌, length, map, flat_map, drop, get_or, Some, None, Result, Ok, Err, IfErr, IsErrAnd, refl, sym, ap, subst, ◌∙◌, arith, append_assoc}
use Rattle.std.proofs.lemmas.List.{append-nil}
use Rattle.jd_syntax.specs.JavaTrees.{JavaUnit}
use Rattle.jd_bodies.specs.Declarations.{Declarations}
use Rattle.jd_model.specs.ContractForms.{PlainCase}
use Rattle.jd_model.specs.Programs.{Body, Program}
use Rattle.jd_case_rows.specs.Rows.{row_of, spelled_for}
use Rattle.jd_jml_formulas.specs.declared.whole.Unmade.{Unmade}
use Rattle.jd_jml_formulas.specs.declared.whole.Unmade.TheVariants as causes
use Rattle.jd_jml_meaning.specs.ContractFormulas.{contract_of}
use Rattle.jd_jml_meaning.specs.JmlCases.{JmlCase}
use Rattle.jd_jml_meaning.specs.JmlContracts.{JmlContract}
use Rattle.jd_listed_tables.specs.Listed.{row_by, rows_of}
use Rattle.jd_programs.specs.Cases.{numbered}
use Rattle.jd_row_makers.specs.Rows.{row_with}
use Rattle.jd_case_tables.specs.Large.{OneCaseIsLarge, OneContractIsLarge, TellsOfCases, TellsOfContracts}
use Rattle.jd_case_tables.specs.Numbered.{rows_from}
use Rattle.jd_case_tables.proofs.Lists.{at_place, none_left, opened, same_item}

module _ (p : Program) (fields : ℕ → List ℕ) where
  -- ---- rows of one method

  module _ (b : Body) (class method : ℕ) where
    rows_apart : (n : ℕ) (xs ys : List JmlContract) → rows_from p fields b class method n (xs ++ ys) ≡ rows_from p fields b class method n xs ++ rows_from p fields b class method (n + length xs) ys
    rows_apart n [] ys = let same : n ≡ n + 0 = omega arith in ap (λ k. rows_from p fields b class method k ys) same
    rows_apart n (x ∷ xs) ys =
        let same : suc n + length xs ≡ n + suc (length xs) = omega arith in
        ap (λ l. row_with p fields method class n (contract_of p (spelled_for b x)) ∷ l) (rows_apart (suc n) xs ys ∙ ap (λ k. rows_from p fields b class method (suc n) xs ++ rows_from p fields b class method k ys) same)

    module _ {C X : Type 0} (g : X → List JmlContract) (view : C → X) where
      -- one more of those that are made
      pub row_more : (cs : List C) (i : ℕ) (c : C) (n next : ℕ) (old new whole : List PlainCase) → i < length cs → c ≡ get_or cs i c
          → new ≡ old ++ rows_from p fields b class method n (g (view c)) → next ≡ n + length (g (view c))
          → old ++ rows_from p fields b class method n (flat_map g (map view (drop i cs))) ≡ whole → new ++ rows_from p fields b class method next (flat_map g (map view (drop (i + 1) cs))) ≡ whole
      row_more cs i c n next old new whole lt is more count so_far =
          let rest = flat_map g (map view (drop (i + 1) cs)) in
          ap (λ l. l ++ rows_from p fields b class method next rest) more
          ∙ append_assoc old (rows_from p fields b class method n (g (view c))) (rows_from p fields b class method next rest)
          ∙ ap (λ k. old ++ (rows_from p fields b class method n (g (view c)) ++ rows_from p fields b class method k rest)) count
          ∙ ap (λ l. old ++ l) (sym (rows_apart n (g (view c)) rest))
          ∙ ap (λ l. old ++ rows_from p fields b class method n (flat_map g (map view l))) (sym (opened cs i c lt is))
          ∙ so_far

      pub rows_made : (cs : List C) (i n : ℕ) (made whole : List PlainCase) → length cs ≤ i → made ++ rows_from p fields b class method n (flat_map g (map view (drop i cs))) ≡ whole → made ≡ whole
      rows_made cs i n made whole past so_far =
          sym (append-nil made) ∙ ap (λ l. made ++ rows_from p fields b class method n (flat_map g (map view l))) (sym (none_left cs i past)) ∙ so_far

  -- ---- rows of cases

  rows_joined : (xs ys : List JmlCase) → rows_of p fields (xs ++ ys) ≡ rows_of p fields xs ++ rows_of p fields ys
  rows_joined [] ys = refl
  rows_joined (x ∷ xs) ys = ap (λ l. row_by p fields x (p.body x.body) ++ l) (rows_joined xs ys) ∙ sym (append_assoc (row_by p fields x (p.body x.body)) (rows_of p fields xs) (rows_of p fields ys))

  module _ {C X : Type 0} (g : X → List JmlCase) (view : C → X) where
    pub run_more : (cs : List C) (i : ℕ) (c : C) (old new whole : List PlainCase) → i < length cs → c ≡ get_or cs i c
        → new ≡ old ++ rows_of p fields (g (view c))
        → old ++ rows_of p fields (flat_map g (map view (drop i cs))) ≡ whole → new ++ rows_of p fields (flat_map g (map view (drop (i + 1) cs))) ≡ whole
    run_more cs i c old new whole lt is more so_far =
        let rest = flat_map g (map view (drop (i + 1) cs)) in
        ap (λ l. l ++ rows_of p fields rest) more
        ∙ append_assoc old (rows_of p fields (g (view c))) (rows_of p fields rest)
        ∙ ap (λ l. old ++ l) (sym (rows_joined (g (view c)) rest))
        ∙ ap (λ l. old ++ rows_of p fields (flat_map g (map view l))) (sym (opened cs i c lt is))
        ∙ so_far

    pub run_more_at : (cs : List C) (i : ℕ) (c : C) (old new whole : List PlainCase) → i < length cs → new ≡ old ++ rows_of p fields (g (view (get_or cs i c)))
        → old ++ rows_of p fields (flat_map g (map view (drop i cs))) ≡ whole → new ++ rows_of p fields (flat_map g (map view (drop (i + 1) cs))) ≡ whole
    run_more_at cs i c old new whole lt more so_far = run_more cs i (get_or cs i c) old new whole lt (same_item cs i c (get_or cs i c) lt) more so_far

    pub runs_made : (cs : List C) (i : ℕ) (made whole : List PlainCase) → length cs ≤ i → made ++ rows_of p fields (flat_map g (map view (drop i cs))) ≡ whole → made ≡ whole
    runs_made cs i made whole past so_far =
        sym (append-nil made) ∙ ap (λ l. made ++ rows_of p fields (flat_map g (map view l))) (sym (none_left cs i past)) ∙ so_far

  -- ---- the cases of one method

  module _ (units : List JavaUnit) (lineage : ℕ → List ℕ) (d : Declarations) (family : ℕ → ℕ) (class method : ℕ) where
    pub with_body : (b : Body) → p.body method ≡ Some b → (n : ℕ) (xs : List JmlContract) → rows_of p fields (numbered units lineage d family n class method xs) ≡ rows_from p fields b class method n xs
    with_body b there n [] = refl
    with_body b there n (x ∷ xs) =
        let rest = numbered units lineage d family (suc n) class method xs in
        let c : JmlCase = record { contract = x; class = class; method = method; number = n; body = method; family = family method } in
        ap (λ o. row_by p fields c o ++ rows_of p fields rest) there ∙ ap (λ l. row_of p fields c b ∷ l) (with_body b there (suc n) xs)

    pub without_body : p.body method ≡ None → (n : ℕ) (xs : List JmlContract) → rows_of p fields (numbered units lineage d family n class method xs) ≡ []
    without_body none n [] = refl
    without_body none n (x ∷ xs) =
        let rest = numbered units lineage d family (suc n) class method xs in
        let c : JmlCase = record { contract = x; class = class; method = method; number = n; body = method; family = family method } in
        ap (λ o. row_by p fields c o ++ rows_of p fields rest) none ∙ without_body none (suc n) xs

-- ---- what is too large

module _ (limit : ℕ) (p : Program) where
  contract_first : (b : Body) (xs ys : List JmlContract) → OneContractIsLarge limit p b xs → OneContractIsLarge limit p b (xs ++ ys)
  contract_first b [] ys h = absurd h
  contract_first b (x ∷ xs) ys (inl h) = inl h
  contract_first b (x ∷ xs) ys (inr h) = inr (contract_first b xs ys h)

  contract_last : (b : Body) (xs ys : List JmlContract) → OneContractIsLarge limit p b ys → OneContractIsLarge limit p b (xs ++ ys)
  contract_last b [] ys h = h
  contract_last b (x ∷ xs) ys h = inr (contract_last b xs ys h)

  case_first : (xs ys : List JmlCase) → OneCaseIsLarge limit p xs → OneCaseIsLarge limit p (xs ++ ys)
  case_first [] ys h = absurd h
  case_first (x ∷ xs) ys (inl h) = inl h
  case_first (x ∷ xs) ys (inr h) = inr (case_first xs ys h)

  case_last : (xs ys : List JmlCase) → OneCaseIsLarge limit p ys → OneCaseIsLarge limit p (xs ++ ys)
  case_last [] ys h = h
  case_last (x ∷ xs) ys h = inr (case_last xs ys h)

  pub contract_told : {A C X : Type 0} (b : Body) (g : X → List JmlContract) (view : C → X) (cs : List C) (i : ℕ) (c : C) → i < length cs → c ≡ get_or cs i c → (r : Result A Unmade) (u : Unmade) → IsErrAnd r (λ e. e ≡ u)
      → TellsOfContracts limit p b (g (view c)) u → IfErr r (TellsOfContracts limit p b (flat_map g (map view cs)))
  contract_told b g view cs i c lt is (Ok a) u same told = tt
  contract_told b g view cs i c lt is (Err causes.TooLarge) u same told =
      at_place (OneContractIsLarge limit p b) (contract_first b) (contract_last b) g view cs i c lt is (subst (TellsOfContracts limit p b (g (view c))) (sym same) told)
  contract_told b g view cs i c lt is (Err causes.NoMemory) u same told = tt

  pub case_told : {A C X : Type 0} (g : X → List JmlCase) (view : C → X) (cs : List C) (i : ℕ) (c : C) → i < length cs → c ≡ get_or cs i c → (r : Result A Unmade) (u : Unmade) → IsErrAnd r (λ e. e ≡ u)
      → TellsOfCases limit p (g (view c)) u → IfErr r (TellsOfCases limit p (flat_map g (map view cs)))
  case_told g view cs i c lt is (Ok a) u same told = tt
  case_told g view cs i c lt is (Err causes.TooLarge) u same told =
      at_place (OneCaseIsLarge limit p) case_first case_last g view cs i c lt is (subst (TellsOfCases limit p (g (view c))) (sym same) told)
  case_told g view cs i c lt is (Err causes.NoMemory) u same told = tt

  pub case_told_at : {A C X : Type 0} (g : X → List JmlCase) (view : C → X) (cs : List C) (i : ℕ) (c : C) → i < length cs → (r : Result A Unmade) (u : Unmade) → IsErrAnd r (λ e. e ≡ u)
      → TellsOfCases limit p (g (view (get_or cs i c))) u → IfErr r (TellsOfCases limit p (flat_map g (map view cs)))
  case_told_at g view cs i c lt r u same told = case_told g view cs i (get_or cs i c) lt (same_item cs i c (get_or cs i c) lt) r u same told

  module _ (units : List JavaUnit) (lineage : ℕ → List ℕ) (d : Declarations) (family : ℕ → ℕ) (class method : ℕ) (b : Body) (there : p.body method ≡ Some b) where
    large_numbered : (n : ℕ) (xs : List JmlContract) → OneContractIsLarge limit p b xs → OneCaseIsLarge limit p (numbered units lineage d family n class method xs)
    large_numbered n [] h = absurd h
    large_numbered n (x ∷ xs) (inl h) = inl (b, there, h)
    large_numbered n (x ∷ xs) (inr h) = inr (large_numbered (suc n) xs h)

    pub cause_numbered : {A : Type 0} (xs : List JmlContract) (r : Result A Unmade) → IfErr r (TellsOfContracts limit p b xs) → IfErr r (TellsOfCases limit p (numbered units lineage d family 1 class method xs))
    cause_numbered xs (Ok a) told = tt
    cause_numbered xs (Err causes.TooLarge) told = large_numbered 1 xs told
    cause_numbered xs (Err causes.NoMemory) told = tt
