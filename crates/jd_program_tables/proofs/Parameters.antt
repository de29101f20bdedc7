-- The names of a body's parameters, and their constants.
use Rattle.std.proofs.Common.{◌≡◌, ℕ, Bool, true, false, cond, ◌==◌, if◌then◌else◌, nat_eq, List, [], ◌∷◌, ◌++◌, map, drop, codes, get_or, arith, refl, sym, ap, ap₂, subst, ◌∙◌}
use Rattle.std.proofs.lemmas.List.{append-nil, append_assoc}
use Rattle.jd_base.specs.declared.sort.Sort.{Sort}
use Rattle.jd_base.specs.declared.sort.Sort.TheVariants.{Int as IntSort, Bool as BoolSort, Ref as RefSort, Heap as HeapSort, Field as FieldSort}
use Rattle.jd_syntax.specs.JavaTypes.{PlainType}
use Rattle.jd_syntax.specs.JavaTrees.{JavaMethod, JavaParameter}
use Rattle.jd_syntax.specs.Names.{Name, Declared}
use Rattle.jd_model.specs.EntryExit.{constants_of}
use Rattle.jd_model.specs.Occurrences.{AllApart, NotIn}
use Rattle.jd_model.specs.Programs.{type_sort}
use Rattle.jd_model.specs.SpecialNames.{entry_heap, entry_measure, receiver}
use Rattle.jd_model.specs.Tables.{SortsOf, constants_of_parameters, parameter_constant, sort_letter, source_name}
use Rattle.jd_bodies.specs.declared.value.ValueType.{ValueType}
use Rattle.jd_bodies.specs.declared.value.ValueType.TheVariants as types
use Rattle.jd_bodies.specs.Bodies.{begun, receiver as receiver_of, with_parameters}
use Rattle.jd_bodies.specs.Declarations.{Declarations, type_by}
use Rattle.jd_bodies.specs.Refused.{place_of}
use Rattle.jd_bodies.specs.Variables.{Progress, count_of, declared, local_name, local_text, numbered, sort_of, with_local}
use Rattle.jd_specifications.specs.WrittenCases.{model_type, parameter, type_written}
use Rattle.jd_programs.specs.Programs.{parameter_names, variable_name}
use Rattle.jd_case_rows.specs.Laws.{AreTyped}
use Rattle.jd_program_laws.proofs.Constants.{constant_for, refuted}

module _ (d : Declarations) where
  abbrev pub typed : JavaParameter → ValueType
  typed x = type_by d.class_named x.ty.written

  -- what the parameters add to the variables
  abbrev pub added : List (List ℕ) → List JavaParameter → List Declared
  added ns [] = []
  added ns (x ∷ xs) = declared (local_name (x.name.name ∷ ns) x.name.name (typed x)) (typed x) ∷ added (x.name.name ∷ ns) xs

  pub all_added : (ps : List JavaParameter) (p : Progress) → (with_parameters d ps p).variables ≡ p.variables ++ added p.names ps
  all_added [] p = sym (append-nil p.variables)
  all_added (x ∷ xs) p = all_added xs (with_local x.name.name (typed x) p) ∙ append_assoc p.variables _ (added (x.name.name ∷ p.names) xs)

  abbrev names : List (List ℕ) → List JavaParameter → List Name
  names ns ps = map variable_name (added ns ps)

  behind_receiver : (class : ℕ) (s : Bool) (l : List Declared) → drop (cond s 0 1) (map variable_name (receiver_of (record { class = class; is_static = s }) ++ l)) ≡ map variable_name l
  behind_receiver class true l = refl
  behind_receiver class false l = refl

  named : (class : ℕ) (m : JavaMethod) → parameter_names d class m ≡ names [] m.parameters
  named class m = ap (λ l. drop (cond m.is_static 0 1) (map variable_name l)) (all_added m.parameters (begun (place_of d class m))) ∙ behind_receiver class m.is_static (added [] m.parameters)

  -- ---- sorts

  model_sort : (t : ValueType) → type_sort (model_type d t) ≡ sort_of t
  model_sort types.Int = refl
  model_sort types.Boolean = refl
  model_sort types.Null = refl
  model_sort types.IntArray = refl
  model_sort (types.Class c) = refl
  model_sort types.Missing = refl

  abbrev written : JavaParameter → PlainType
  written x = x.ty.written

  sorted : (ns : List (List ℕ)) (ps qs : List JavaParameter) → map written ps ≡ map written qs → SortsOf (names ns ps) (map (parameter d) qs)
  sorted ns [] [] e = tt
  sorted ns [] (q ∷ qs) e = absurd cc
  sorted ns (p ∷ ps) [] e = absurd cc
  sorted ns (p ∷ ps) (q ∷ qs) e =
      let both = e in
      let head : written p ≡ written q = cc in
      let rest : map written ps ≡ map written qs = cc in
      (ap (λ t. sort_of (type_by d.class_named t)) head ∙ sym (model_sort (typed q)), sorted (p.name.name ∷ ns) ps qs rest)

  pub parameters_sorted : (class : ℕ) (m : JavaMethod) (qs : List JavaParameter) → map written m.parameters ≡ map written qs → SortsOf (parameter_names d class m) (map (parameter d) qs)
  parameters_sorted class m qs e = subst (λ xs. SortsOf xs (map (parameter d) qs)) (sym (named class m)) (sorted [] m.parameters qs e)

  pub parameters_typed : (qs : List JavaParameter) → AreTyped (map (parameter d) qs)
  parameters_typed [] = tt
  parameters_typed (q ∷ qs) = (sym (model_sort (type_written d q.ty)), parameters_typed qs)

  -- ---- constants: that of a later variable of a name is the name's

  before_mark : (x r : List ℕ) → source_name (x ++ (39 ∷ r)) ≡ source_name x
  before_mark [] r = refl
  before_mark (b ∷ bs) r = by (b == 39) (before_mark bs r)
    where
      by : (t : Bool) → source_name (bs ++ (39 ∷ r)) ≡ source_name bs → (if t then [] else (b ∷ source_name (bs ++ (39 ∷ r)))) ≡ (if t then [] else (b ∷ source_name bs))
      by true same = refl
      by false same = ap (λ l. b ∷ l) same

  local_source : (x : List ℕ) (n : ℕ) → source_name (local_text x n) ≡ source_name x
  local_source x n = by (nat_eq n 1)
    where
      by : (t : Bool) → source_name (if t then x else numbered x n) ≡ source_name x
      by true = refl
      by false = before_mark x _

  same_constant : (x y : Name) → x.sort ≡ y.sort → source_name x.text ≡ source_name y.text → parameter_constant x ≡ parameter_constant y
  same_constant x y s e = λ i. record { text = codes "#" ++ (sort_letter (s i) ++ (codes "_" ++ e i)); sort = s i }

  constants_are : (ns : List (List ℕ)) (ps : List JavaParameter) → constants_of_parameters (names ns ps) ≡ constants_of (map (parameter d) ps)
  constants_are ns [] = refl
  constants_are ns (p ∷ ps) =
      ap₂ ◌∷◌
      (same_constant (local_name (p.name.name ∷ ns) p.name.name (typed p)) (record { text = p.name.name; sort = sort_of (type_written d p.ty) }) refl (local_source p.name.name (count_of p.name.name (p.name.name ∷ ns))))
      (constants_are (p.name.name ∷ ns) ps)

  -- none is that of the measure
  no_measure : (x : List ℕ) (s : Sort) → entry_measure ≡ constant_for x s → ⊥
  no_measure x IntSort e = let third : 109 ≡ 95 = ap (λ (n : Name). get_or n.text 2 0) e in absurd (omega (arith, third))
  no_measure x BoolSort e = let sorts = ap (λ (n : Name). n.sort) e in absurd cc
  no_measure x RefSort e = let sorts = ap (λ (n : Name). n.sort) e in absurd cc
  no_measure x HeapSort e = let sorts = ap (λ (n : Name). n.sort) e in absurd cc
  no_measure x FieldSort e = let sorts = ap (λ (n : Name). n.sort) e in absurd cc

  not_measure : (ps : List JavaParameter) → NotIn entry_measure (constants_of (map (parameter d) ps))
  not_measure [] = tt
  not_measure (p ∷ ps) = (refuted entry_measure (constant_for p.name.name (sort_of (type_written d p.ty))) (no_measure p.name.name (sort_of (type_written d p.ty))), not_measure ps)

  pub parameters_apart : (class : ℕ) (m : JavaMethod) → AllApart (entry_heap ∷ receiver ∷ constants_of (map (parameter d) m.parameters)) → AllApart (entry_measure ∷ entry_heap ∷ receiver ∷ constants_of_parameters (parameter_names d class m))
  parameters_apart class m apart =
      subst (λ xs. AllApart (entry_measure ∷ entry_heap ∷ receiver ∷ xs)) (sym (ap constants_of_parameters (named class m) ∙ constants_are [] m.parameters))
      ((refl, (refl, not_measure m.parameters)), apart)
