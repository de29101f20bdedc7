-- The cases of a program in their order, by what runs for each class.
use Rattle.std.proofs.Common.{◌≡◌, ◌<◌, ◌≤◌, ◌+◌, ◌||◌, inl, inr, ℕ, zero, suc, Bool, true, false, cond, List, [], ◌∷◌, ◌++◌, length, flat_map, filter_map, reverse, MatchOption, refl, sym, ap, ap₂, subst, ◌∙◌, arith}
use Rattle.std.specs.List.{Contains, range_with_len}
use Rattle.std.proofs.lemmas.List.{reverse-reverse}
use Rattle.jd_syntax.specs.JavaTrees.{JavaUnit}
use Rattle.jd_jclasses.specs.Classes.{parents}
use Rattle.jd_jclasses.specs.Members.{Declared, is_constructor, is_static}
use Rattle.jd_jclasses.specs.Methods.{IsSeen, SeesNone}
use Rattle.jd_jclasses.specs.Refusals.{AreClasses}
use Rattle.jd_bodies.specs.Declarations.{AreDeclarations, Declarations}
use Rattle.jd_declared.proofs.Lists.{In, in_filter_map}
use Rattle.jd_inherited_cases.specs.Laws.{InheritedCasesAreThose, SeenMethodsAreMethods}
use Rattle.jd_jml_cases.specs.Cases.{cases_of_routine, inherited, lineage, written_at}
use Rattle.jd_jml_cases.specs.Laws.{CasesAreContracts, LineagesAreClassesUp, WrittenAreContracts, contract_of_case}
use Rattle.jd_jml_meaning.specs.JmlCases.{JmlCase}
use Rattle.jd_jml_meaning.specs.JmlContracts.{JmlContract}
use Rattle.jd_model.specs.Programs.{Program}
use Rattle.jd_program_laws.proofs.Members.{own_constructor}
use Rattle.jd_programs.specs.Cases as programs
use Rattle.jd_programs.specs.Cases.{all_cases, cases_of, constructor_cases, contracts_in, numbered}
use Rattle.jd_programs.specs.Members.{constructors_run, declared_as, firsts, members_along, members_from, methods_seen, own, routine_name, static_routine}
use Rattle.jd_programs.specs.Programs.{HasClasses}
use Rattle.jd_case_tables.specs.Running.{all_runs, cases_of_run, class_runs, contracts_at, runs_with}
use Rattle.jd_case_tables.proofs.Lists.{joined}

-- ---- lists

contains : {X : Type 0} (xs : List X) (x : X) → In x xs → Contains xs x
contains [] x h = absurd h
contains (y ∷ ys) x (inl same) = (0, omega arith, sym same)
contains (y ∷ ys) x (inr h) = let c = contains ys x h in (suc c.0, omega (arith, c.1), c.2)

module _ (units : List JavaUnit) (d : Declarations) where
  same_numbers : (f g : ℕ → List ℕ) (n c m : ℕ) (xs : List JmlContract) → numbered units f d (λ k. k) n c m xs ≡ numbered units g d (λ k. k) n c m xs
  same_numbers f g n c m [] = refl
  same_numbers f g n c m (x ∷ xs) = ap (λ l. record { contract = x; class = c; method = m; number = n; body = m; family = m } ∷ l) (same_numbers f g (suc n) c m xs)

  each_run : (c : ℕ) (g : ℕ → List JmlCase) (ms : List ℕ) → ((m : ℕ) → In m ms → g m ≡ cases_of_run units d (c, m)) → flat_map g ms ≡ flat_map (cases_of_run units d) (runs_with c ms)
  each_run c g [] each = refl
  each_run c g (m ∷ ms) each = ap₂ ◌++◌ (each m (inl refl)) (each_run c g ms (λ k h. each k (inr h)))

  -- ---- constructors

  alone : (m : ℕ) (s : Bool) (r : Declared) (b : Bool) → b ≡ true → cond (s || b) (written_at units m) (inherited units r.name.name r.class) ≡ written_at units m
  alone m true r b e = refl
  alone m false r true e = refl
  alone m false r false e = absurd cc

  module _ (written : WrittenAreContracts) (law : CasesAreContracts) (those : InheritedCasesAreThose) (methods : SeenMethodsAreMethods) (stand : AreClasses units) (are : AreDeclarations units d) where
    of_constructor : (c m : ℕ) → In m (constructors_run units (lineage units) c) → programs.written_at units (lineage units) d m ≡ contracts_at units d m
    of_constructor c m h =
        let made = in_filter_map (λ a. (own units a).constructor) (lineage units c) m h in
        let o = own_constructor units made.from m made.gives in
        written units d m
        ∙ ap (flat_map (contract_of_case units d))
        (sym (ap (cases_of_routine units m) o.there ∙ alone m (is_static o.it.kind) o.it (is_constructor o.it.kind) o.constructor))

    -- ---- methods

    of_method : (c m : ℕ) → In m (methods_seen units (lineage units) d c) → contracts_in units (lineage units) d c m ≡ contracts_at units d m
    of_method c m h =
        let name = (in_filter_map (λ n. d.method c (routine_name units n)) (firsts units [] (members_along units (lineage units) c)) m h) in
        let x = routine_name units name.from in
        let seen : IsSeen units c x m = subst (λ o. MatchOption o (SeesNone units c x) (IsSeen units c x)) name.gives (are.methods_ c x) in
        let r = seen.declared.routine in
        let there = seen.declared.there in
        let has = contains (methods_seen units (lineage units) d c) m h in
        those units stand d are c m has r there
        ∙ law units d m r there (methods units stand d are c m has r there).0

    module _ (p : Program) (classes : HasClasses units p) (up : LineagesAreClassesUp) where
      pub same_lineage : (c : ℕ) → c < length (parents units) → p.superclasses c ≡ lineage units c
      same_lineage c lt = sym (up units stand c (reverse (p.superclasses c)) (classes.superclasses c lt) ∙ reverse-reverse (p.superclasses c))

      abbrev mine : ℕ → List ℕ
      mine = p.superclasses

      same_written : (c : ℕ) (ms : List ℕ) → ((m : ℕ) → In m ms → programs.written_at units (lineage units) d m ≡ contracts_at units d m)
          → flat_map (constructor_cases units mine d (λ k. k) c) ms ≡ flat_map (cases_of_run units d) (runs_with c ms)
      same_written c ms each =
          each_run c (constructor_cases units mine d (λ k. k) c) ms
          (λ m h. same_numbers mine (lineage units) 1 c m (programs.written_at units mine d m) ∙ ap (numbered units (lineage units) d (λ k. k) 1 c m) (each m h))

      same_seen : (c : ℕ) → mine c ≡ lineage units c → (ms : List ℕ) → ((m : ℕ) → In m ms → contracts_in units (lineage units) d c m ≡ contracts_at units d m)
          → flat_map (programs.method_cases units mine d (λ k. k) c) ms ≡ flat_map (cases_of_run units d) (runs_with c ms)
      same_seen c same ms each =
          each_run c (programs.method_cases units mine d (λ k. k) c) ms
          (λ m h. same_numbers mine (lineage units) 1 c m (contracts_in units mine d c m)
          ∙ ap (λ l. numbered units (lineage units) d (λ k. k) 1 c m (cond (static_routine units m) (programs.written_at units (lineage units) d m) (flat_map (programs.written_at units (lineage units) d) (flat_map (declared_as units (routine_name units m)) l)))) same
          ∙ ap (numbered units (lineage units) d (λ k. k) 1 c m) (each m h))

      of_class : (c : ℕ) → c < length (parents units) → cases_of units mine d (λ k. k) c ≡ flat_map (cases_of_run units d) (class_runs units d c)
      of_class c lt =
          let same = same_lineage c lt in
          ap₂ ◌++◌
          (ap (λ l. flat_map (constructor_cases units mine d (λ k. k) c) (filter_map (λ a. (own units a).constructor) l)) same
          ∙ same_written c (constructors_run units (lineage units) c) (of_constructor c))
          (ap (λ l. flat_map (programs.method_cases units mine d (λ k. k) c) (filter_map (λ m. d.method c (routine_name units m)) (firsts units [] (flat_map (members_from units c) l)))) same
          ∙ same_seen c same (methods_seen units (lineage units) d c) (of_method c))
          ∙ sym (joined (cases_of_run units d) (runs_with c (constructors_run units (lineage units) c)) (runs_with c (methods_seen units (lineage units) d c)))

      of_range : (n k : ℕ) → n + k ≤ length (parents units) → flat_map (cases_of units mine d (λ k. k)) (range_with_len n k) ≡ flat_map (cases_of_run units d) (flat_map (class_runs units d) (range_with_len n k))
      of_range n zero le = refl
      of_range n (suc k) le =
          ap₂ ◌++◌ (of_class n (omega (arith, le))) (of_range (n + 1) k (omega (arith, le)))
          ∙ sym (joined (cases_of_run units d) (class_runs units d n) (flat_map (class_runs units d) (range_with_len (n + 1) k)))

      pub in_order : all_cases units mine d (λ k. k) ≡ flat_map (cases_of_run units d) (all_runs units d)
      in_order = of_range 0 (length (parents units)) (omega arith)
