-- What one case, and what one method, adds to the rows so far.
use Rattle.std.proofs.Common.{◌≡◌, ◌+◌, inl, ℕ, zero, suc, Bool, true, false, cond, List, [], ◌∷◌, ◌++◌, length, map, take, drop, Result, Ok, Err, IfOk, IfErr, OnOk, refl, sym, ap, subst, ◌∙◌, arith}
use Rattle.std.proofs.lemmas.List.{append-nil}
use Rattle.jd_base.specs.declared.sort.Sort.{Sort}
use Rattle.jd_syntax.specs.JavaTrees.{JavaMethod}
use Rattle.jd_syntax.specs.Names.{Declared as Variable, decl_view}
use Rattle.jd_syntax.specs.declared.variable.VarDecl.{VarDecl}
use Rattle.jd_bodies.specs.Declarations.{Declarations}
use Rattle.jd_case_clauses.specs.Whole.{TellsOfCase}
use Rattle.jd_case_heads.specs.Parameters.{decl_name}
use Rattle.jd_case_rows.specs.Rows.{spelled_for}
use Rattle.jd_jml_formulas.specs.declared.whole.Unmade.{Unmade}
use Rattle.jd_jml_formulas.specs.declared.whole.Unmade.TheVariants as causes
use Rattle.jd_jml_meaning.specs.ContractFormulas.{contract_of}
use Rattle.jd_jml_meaning.specs.JmlContracts.{JmlContract}
use Rattle.jd_model.specs.ContractForms.{PlainCase}
use Rattle.jd_model.specs.Cases.{Static, Ordinary, Helper, ConstructorOf}
use Rattle.jd_model.specs.Programs.{Body, Program, field_sort}
use Rattle.jd_programs.specs.Programs.{variable_name}
use Rattle.jd_row_makers.specs.Rows.{FieldsAre, row_with}
use Rattle.jd_specifications.specs.WrittenCases.{builds, has_mark, is_helper, role}
use Rattle.jd_case_tables.specs.Large.{TellsOfContracts}
use Rattle.jd_case_tables.specs.Numbered.{rows_from}
use Rattle.jd_case_tables.specs.Placed.{among_parameters}

module _ (p : Program) (fields : ℕ → List ℕ) (b : Body) (class method n : ℕ) (xs : List JmlContract) where
  pub nothing_added : (old : List PlainCase) → xs ≡ [] → old ≡ old ++ rows_from p fields b class method n xs
  nothing_added old none = sym (append-nil old) ∙ ap (λ l. old ++ rows_from p fields b class method n l) (sym none)

  pub one_added : {A : Type 0} (r : Result A Unmade) (old new : List PlainCase) (x : JmlContract) → xs ≡ x ∷ [] → OnOk r (new ≡ old ++ row_with p fields method class n (contract_of p (spelled_for b x)) ∷ [])
      → OnOk r (new ≡ old ++ rows_from p fields b class method n xs)
  one_added (Err e) old new x one more = tt
  one_added (Ok a) old new x one more = more ∙ ap (λ l. old ++ rows_from p fields b class method n l) (sym one)

pub none_counted : {X : Type 0} (n : ℕ) (xs : List X) → xs ≡ [] → n ≡ n + length xs
none_counted n xs none = let same : n ≡ n + 0 = omega arith in same ∙ ap (λ l. n + length l) (sym none)

pub one_counted : {X : Type 0} (r : Result ℕ Unmade) (n : ℕ) (xs : List X) (x : X) → xs ≡ x ∷ [] → IfOk r (λ k. k ≡ n + 1) → IfOk r (λ k. k ≡ n + length xs)
one_counted (Err e) n xs x one more = tt
one_counted (Ok a) n xs x one more = more ∙ ap (λ l. n + length l) (sym one)

pub one_told : {A : Type 0} (limit : ℕ) (p : Program) (b : Body) (r : Result A Unmade) (xs : List JmlContract) (x : JmlContract) → xs ≡ x ∷ [] → IfErr r (TellsOfCase limit (contract_of p (spelled_for b x)))
    → IfErr r (TellsOfContracts limit p b xs)
one_told limit p b (Ok a) xs x one told = tt
one_told limit p b (Err causes.TooLarge) xs x one told = subst (λ l. TellsOfContracts limit p b l causes.TooLarge) (sym one) (inl told)
one_told limit p b (Err causes.NoMemory) xs x one told = tt

-- ---- the parameters of a body by name

taken : {X Y : Type 0} (f : X → Y) (n : ℕ) (xs : List X) → map f (take n xs) ≡ take n (map f xs)
taken f zero [] = refl
taken f zero (x ∷ xs) = refl
taken f (suc n) [] = refl
taken f (suc n) (x ∷ xs) = ap (λ l. f x ∷ l) (taken f n xs)

dropped : {X Y : Type 0} (f : X → Y) (n : ℕ) (xs : List X) → map f (drop n xs) ≡ drop n (map f xs)
dropped f zero [] = refl
dropped f zero (x ∷ xs) = refl
dropped f (suc n) [] = refl
dropped f (suc n) (x ∷ xs) = dropped f n xs

named : (vs : List VarDecl) → map decl_name vs ≡ map variable_name (map decl_view vs)
named [] = refl
named (v ∷ vs) = ap (λ l. decl_name v ∷ l) (named vs)

pub parameters_named : (m : JavaMethod) (vs some : List VarDecl) (seen : List Variable) → map decl_view vs ≡ seen → some ≡ among_parameters m vs → map variable_name (among_parameters m seen) ≡ map decl_name some
parameters_named m vs some seen told is =
    sym (named some
    ∙ ap (λ l. map variable_name (map decl_view l)) is
    ∙ ap (map variable_name)
    (taken decl_view (length m.parameters) (drop (cond m.is_static 0 1) vs)
    ∙ ap (take (length m.parameters)) (dropped decl_view (cond m.is_static 0 1) vs ∙ ap (drop (cond m.is_static 0 1)) told)))

-- ---- the fields of a new object

module _ (p : Program) (fields : ℕ → List ℕ) (d : Declarations) (class : ℕ) (t : JavaMethod) where
  if_built : (b : Bool) (fs : List (ℕ × Sort)) → b ≡ true → fs ≡ map (λ f. (f, field_sort p f)) (fields class) → FieldsAre p fields (cond b (ConstructorOf class) (cond t.is_static Static (cond (has_mark is_helper t.specs) Helper Ordinary))) fs
  if_built true fs e are = are
  if_built false fs e are = absurd cc

  if_not_built : (b s h : Bool) (fs : List (ℕ × Sort)) → b ≡ false → FieldsAre p fields (cond b (ConstructorOf class) (cond s Static (cond h Helper Ordinary))) fs
  if_not_built true s h fs e = absurd cc
  if_not_built false true h fs e = tt
  if_not_built false false true fs e = tt
  if_not_built false false false fs e = tt

  pub built : {A E : Type 0} (r : Result A E) (view : A → List (ℕ × Sort)) (xs : List (ℕ × Sort)) → builds d t.result ≡ true → xs ≡ map (λ f. (f, field_sort p f)) (fields class) → IfOk r (λ v. view v ≡ xs) → IfOk r (λ v. FieldsAre p fields (role d class t) (view v))
  built (Err e) view xs so are told = tt
  built (Ok a) view xs so are told = if_built (builds d t.result) (view a) so (told ∙ are)

  pub not_built : (fs : List (ℕ × Sort)) → builds d t.result ≡ false → FieldsAre p fields (role d class t) fs
  not_built fs so = if_not_built (builds d t.result) t.is_static (has_mark is_helper t.specs) fs so
