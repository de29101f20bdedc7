-- Such a program has one case.
use Rattle.std.proofs.Common.{◌≡◌, ◌⊎◌, inl, inr, ⊎_elim, if◌then◌else◌, ℕ, zero, suc, ◌&&◌, ◌||◌, not, nat_eq, arith, Bool, true, false, true≢false, cond, List, [], ◌∷◌, ◌++◌, map, filter, flat_map, Option, Some, None, MatchOption, refl, sym, ap, ap₂, subst, ◌∙◌}
use Rattle.std.specs.List.{cons_option, filter_map, list_any, slice_get}
use Rattle.std.specs.Str.{bytes_eq}
use Rattle.std.proofs.lemmas.Option.{same_Some, none-some}
use Rattle.std.specs.Option.{option_and_then}
use Rattle.std.proofs.lemmas.Bool.{or_parts}
use Rattle.std.proofs.lemmas.Slice.Eq.{bytes_eq-Decides}
use Rattle.std.proofs.lemmas.Bool.Decides.{nat_tests}
use Rattle.jd_bodies.specs.Bodies.{body_of}
use Rattle.jd_programs.specs.Programs.{body_of_declared, body_with}
use Rattle.jd_case_obligations.specs.Listed.{variables_of_body}
use Rattle.jd_syntax.specs.JavaTypes.{PlainIdentifier}
use Rattle.jd_syntax.specs.JavaTrees.{JavaMethod, JavaResult, Void, Gives, OfConstructor, JavaUnit}
use Rattle.jd_syntax.specs.SpecTrees.{PlainClause, PlainSpecBlock}
use Rattle.jd_jclasses.specs.Members.{Declared, RoutineOf, builds}
use Rattle.jd_jclasses.specs.Methods.{IsSeen, SeesNone, routines}
use Rattle.jd_bodies.specs.Declarations.{AreDeclarations, Declarations}
use Rattle.jd_specifications.specs.WrittenCases.{cases_of as written_cases, contract}
use Rattle.jd_jml_meaning.specs.JmlCases.{JmlCase}
use Rattle.jd_programs.specs.Cases.{all_cases, cases_of, constructor_cases, contracts_in, inherited, method_cases, numbered, written_at}
use Rattle.jd_programs.specs.Members.{constructors_run, firsts, members_along, members_from, methods_seen, own, routine_name, static_routine}
use Rattle.jd_first_form.specs.Forms.{gives_int, is_first_form, is_method_form}
use Rattle.jd_first_tasks.proofs.Shape.{IsMethod, by_shape, is_method, with_method}

builds_none : (r : JavaResult) → gives_int r ≡ true → builds r ≡ false
builds_none Void e = refl
builds_none (Gives w) e = refl
builds_none OfConstructor e = absurd (true≢false (sym e))

-- ---- numbers and lists

same_number : (a b : ℕ) → nat_eq a b ≡ true → a ≡ b
same_number a b e = grind (arith, nat_tests)

none_along : {X Y : Type 0} (f : X → Option Y) → ((x : X) → f x ≡ None) → (xs : List X) → filter_map f xs ≡ []
none_along f none [] = refl
none_along f none (x ∷ xs) = ap₂ (λ o l. cons_option o l) (none x) (none_along f none xs)

nothing_flat : {X Y : Type 0} (f : X → List Y) → ((x : X) → f x ≡ []) → (xs : List X) → flat_map f xs ≡ []
nothing_flat f none [] = refl
nothing_flat f none (x ∷ xs) = ap₂ (λ a b. a ++ b) (none x) (nothing_flat f none xs)

-- a list has nothing but 0
abbrev Zeros : List ℕ → Type 0
Zeros [] = Unit {0}
Zeros (n ∷ ns) = (n ≡ 0) × Zeros ns

abbrev zero_if : Bool → List ℕ
zero_if b = cond b (0 ∷ []) []

abbrev either_if : Bool → List ℕ → List ℕ
either_if b l = cond b l []

abbrev first_if : Bool → Option ℕ
first_if b = cond b (Some 0) None

zeros_with : (b : Bool) (l : List ℕ) → Zeros l → Zeros (zero_if b ++ l)
zeros_with true l z = (refl, z)
zeros_with false l z = z

zeros_along : (b : ℕ → Bool) (f : ℕ → List ℕ) → ((a : ℕ) → f a ≡ zero_if (b a)) → (l : List ℕ) → Zeros (flat_map f l)
zeros_along b f is [] = tt
zeros_along b f is (a ∷ l) = subst (λ xs. Zeros (xs ++ flat_map f l)) (sym (is a)) (zeros_with (b a) (flat_map f l) (zeros_along b f is l))

itself : (x : List ℕ) → bytes_eq x x ≡ true
itself x = (bytes_eq-Decides x x).1 refl

-- ---- one class with one method

module _ (at : ℕ) (name : PlainIdentifier) (parent : Option PlainIdentifier) (end : Option PlainSpecBlock) (m : JavaMethod) where
  abbrev units : List JavaUnit
  units = with_method at name parent end m

  -- its number is 10
  abbrev the_routine : Declared
  the_routine = record { class = 10; file = 0; member = 0; name = m.name; kind = RoutineOf m }

  routine_is : routines units ≡ the_routine ∷ []
  routine_is = refl

  module _ (static : m.is_static ≡ true) (made : builds m.result ≡ false) where
    -- ---- no constructor runs

    no_place : (b c : Bool) → b ≡ false → first_if (b && c) ≡ None
    no_place true c e = absurd (true≢false e)
    no_place false c e = refl

    no_constructor : (a : ℕ) → (own units a).constructor ≡ None
    no_constructor a = no_place (builds m.result) (nat_eq a 10) made

    -- ---- members

    methods_at : (b c : Bool) → b ≡ false → zero_if (not b && c) ≡ zero_if c
    methods_at true c e = absurd (true≢false e)
    methods_at false c e = refl

    own_methods : (a : ℕ) → (own units a).methods ≡ zero_if (nat_eq a 10)
    own_methods a = methods_at (builds m.result) (nat_eq a 10) made

    filtered_at : (c a : ℕ) (s b : Bool) → s ≡ true → either_if b (zero_if (not s || nat_eq a c)) ≡ zero_if (b && nat_eq a c)
    filtered_at c a true true e = refl
    filtered_at c a true false e = refl
    filtered_at c a false b e = absurd (true≢false (sym e))

    inside : (c a : ℕ) (b : Bool) → filter (λ n. not (static_routine units n) || nat_eq a c) (zero_if b) ≡ either_if b (zero_if (not m.is_static || nat_eq a c))
    inside c a true = refl
    inside c a false = refl

    -- the method is a member of its own class alone
    members_at : (c a : ℕ) → members_from units c a ≡ zero_if (nat_eq a 10 && nat_eq a c)
    members_at c a =
        ap (filter (λ n. not (static_routine units n) || nat_eq a c)) (own_methods a)
        ∙ inside c a (nat_eq a 10)
        ∙ filtered_at c a m.is_static (nat_eq a 10) static

    module _ (lineage : ℕ → List ℕ) (d : Declarations) (family : ℕ → ℕ) where
      none_run : (c : ℕ) → constructors_run units lineage c ≡ []
      none_run c = none_along (λ a. (own units a).constructor) no_constructor (lineage c)

      by_two : (c : ℕ) (rs ms : List ℕ) → constructors_run units lineage c ≡ rs → methods_seen units lineage d c ≡ ms → cases_of units lineage d family c ≡ flat_map (constructor_cases units lineage d family c) rs ++ flat_map (method_cases units lineage d family c) ms
      by_two c rs ms e f = ap₂ (λ r s. flat_map (constructor_cases units lineage d family c) r ++ flat_map (method_cases units lineage d family c) s) e f

      other_class : (c : ℕ) → ((a : ℕ) → (nat_eq a 10 && nat_eq a c) ≡ false) → cases_of units lineage d family c ≡ []
      other_class c apart =
          by_two c [] [] (none_run c)
          (ap (λ l. filter_map (λ n. d.method c (routine_name units n)) (firsts units [] l)) (nothing_flat (members_from units c) (λ a. members_at c a ∙ ap (λ b. zero_if b) (apart a)) (lineage c)))

      -- ---- the class itself

      repeated : (l : List ℕ) → Zeros l → firsts units (routine_name units 0 ∷ []) l ≡ []
      repeated [] z = refl
      repeated (n ∷ l) z =
          ap (λ k. firsts units (routine_name units 0 ∷ []) (k ∷ l)) z.0
          ∙ ap (λ b. if b || false then firsts units (routine_name units 0 ∷ []) l else (0 ∷ firsts units (routine_name units 0 ∷ routine_name units 0 ∷ []) l)) (itself (routine_name units 0))
          ∙ repeated l z.1

      none_or_one : (l : List ℕ) → Zeros l → (firsts units [] l ≡ []) ⊎ (firsts units [] l ≡ 0 ∷ [])
      none_or_one [] z = inl refl
      none_or_one (n ∷ l) z = inr (ap (λ k. firsts units [] (k ∷ l)) z.0 ∙ ap (λ xs. 0 ∷ xs) (repeated l z.1))

      its_number : (n : ℕ) (r : Declared) → slice_get (routines units) n ≡ Some r → n ≡ 0
      its_number zero r e = refl
      its_number (suc n) r e = absurd (none-some r e)

      seen_number : (o : Option ℕ) → MatchOption o (SeesNone units 10 m.name.name) (IsSeen units 10 m.name.name) → (cons_option o [] ≡ []) ⊎ (cons_option o [] ≡ 0 ∷ [])
      seen_number None h = inl refl
      seen_number (Some n) h = inr (ap (λ k. k ∷ []) (its_number n h.declared.routine h.declared.there))

      seen_here : AreDeclarations units d → (l : List ℕ) → (l ≡ []) ⊎ (l ≡ 0 ∷ []) → (filter_map (λ n. d.method 10 (routine_name units n)) l ≡ []) ⊎ (filter_map (λ n. d.method 10 (routine_name units n)) l ≡ 0 ∷ [])
      seen_here are l (inl e) = inl (ap (filter_map (λ n. d.method 10 (routine_name units n))) e)
      seen_here are l (inr e) =
          ⊎_elim
          (λ h. inl (ap (filter_map (λ n. d.method 10 (routine_name units n))) e ∙ h))
          (λ h. inr (ap (filter_map (λ n. d.method 10 (routine_name units n))) e ∙ h))
          (seen_number (d.method 10 m.name.name) (are.methods_ 10 m.name.name))

      methods_here : AreDeclarations units d → (methods_seen units lineage d 10 ≡ []) ⊎ (methods_seen units lineage d 10 ≡ 0 ∷ [])
      methods_here are =
          seen_here are (firsts units [] (members_along units lineage 10))
          (none_or_one (members_along units lineage 10) (zeros_along (λ a. nat_eq a 10 && nat_eq a 10) (members_from units 10) (members_at 10) (lineage 10)))

      abbrev case_with : List PlainClause → JmlCase
      case_with cs = record { contract = contract d 10 m cs; class = 10; method = 0; number = 1; body = 0; family = family 0 }

      written_here : (cs : List PlainClause) → written_cases m.specs ≡ cs ∷ [] → contracts_in units lineage d 10 0 ≡ contract d 10 m cs ∷ []
      written_here cs one = ap (λ b. cond b (written_at units lineage d 0) (inherited units lineage d 10 0)) static ∙ ap (map (contract d 10 m)) one

      this_class : AreDeclarations units d → (cs : List PlainClause) → written_cases m.specs ≡ cs ∷ [] → (cases_of units lineage d family 10 ≡ []) ⊎ (cases_of units lineage d family 10 ≡ case_with cs ∷ [])
      this_class are cs one =
          ⊎_elim
          (λ h. inl (by_two 10 [] [] (none_run 10) h))
          (λ h. inr (by_two 10 [] (0 ∷ []) (none_run 10) h ∙ ap (λ xs. numbered units lineage d family 1 10 0 xs ++ []) (written_here cs one)))
          (methods_here are)

      -- ---- all classes

      behind : (c a : ℕ) → nat_eq 10 c ≡ false → (b : Bool) → nat_eq a 10 ≡ b → (b && nat_eq a c) ≡ false
      behind c a isnt true e = ap (λ x. nat_eq x c) (same_number a 10 e) ∙ isnt
      behind c a isnt false e = refl

      without_this : (xs ys : List ℕ) → list_any (nat_eq 10) xs ≡ false → flat_map (cases_of units lineage d family) (xs ++ ys) ≡ flat_map (cases_of units lineage d family) ys
      without_this [] ys isnt = refl
      without_this (c ∷ xs) ys isnt =
          let parts = or_parts (nat_eq 10 c) (list_any (nat_eq 10) xs) isnt in
          ap (λ l. l ++ flat_map (cases_of units lineage d family) (xs ++ ys)) (other_class c (λ a. behind c a parts.0 (nat_eq a 10) refl)) ∙ without_this xs ys parts.1

      this_alone : all_cases units lineage d family ≡ cases_of units lineage d family 10 ++ []
      this_alone = without_this (0 ∷ 1 ∷ 2 ∷ 3 ∷ 4 ∷ 5 ∷ 6 ∷ 7 ∷ 8 ∷ 9 ∷ []) (10 ∷ []) refl

      all_of : AreDeclarations units d → (cs : List PlainClause) → written_cases m.specs ≡ cs ∷ [] → (all_cases units lineage d family ≡ []) ⊎ (all_cases units lineage d family ≡ case_with cs ∷ [])
      all_of are cs one = ⊎_elim (λ h. inl (this_alone ∙ ap (λ l. l ++ []) h)) (λ h. inr (this_alone ∙ ap (λ l. l ++ []) h)) (this_class are cs one)

-- ---- of any program of the form

pub record TheCase (units : List JavaUnit) (d : Declarations) (lineage : ℕ → List ℕ) (family : ℕ → ℕ) (c : JmlCase) : Type 0 where
  pub at : ℕ
  pub name : PlainIdentifier
  pub parent : Option PlainIdentifier
  pub end : Option PlainSpecBlock
  pub tree : JavaMethod
  pub shape : units ≡ with_method at name parent end tree
  pub method : IsMethod d tree
  pub body : option_and_then (body_of_declared d) (slice_get (routines units) 0) ≡ Some (body_with d 10 tree)
  pub variables : variables_of_body units d 0 ≡ (body_of d 10 tree).variables
  pub is : c ≡ record { contract = contract d 10 tree method.clauses; class = 10; method = 0; number = 1; body = 0; family = family 0 }
  pub only : all_cases units lineage d family ≡ c ∷ []

module _ (d : Declarations) (lineage : ℕ → List ℕ) (family : ℕ → ℕ) where
  abbrev HasTheCase : List JavaUnit → Type 0
  HasTheCase units = AreDeclarations units d → (c : JmlCase) → slice_get (all_cases units lineage d family) 0 ≡ Some c → TheCase units d lineage family c

  of_shape : (at : ℕ) (name : PlainIdentifier) (parent : Option PlainIdentifier) (end : Option PlainSpecBlock) (m : JavaMethod) → is_method_form d m ≡ true → HasTheCase (with_method at name parent end m)
  of_shape at name parent end m e are c first =
      let method = is_method d m e in
      ⊎_elim
      (λ none. absurd (none-some c (sym (ap (λ l. slice_get l 0) none) ∙ first)))
      (λ one.
      let same = same_Some _ c (sym (ap (λ l. slice_get l 0) one) ∙ first) in
      record { at = at; name = name; parent = parent; end = end; tree = m; shape = refl; method = method; body = refl; variables = refl; is = sym same; only = one ∙ ap (λ x. x ∷ []) same })
      (all_of at name parent end m method.static (builds_none m.result method.gives) lineage d family are method.clauses method.cases)

  pub the_case : (units : List JavaUnit) → is_first_form d units ≡ true → HasTheCase units
  the_case units form = by_shape d HasTheCase of_shape units form
