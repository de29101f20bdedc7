-- Declarations by their numbers, and the contracts of what is written at them.
use Rattle.std.proofs.Common.{◌≡◌, ◌≤◌, ℕ, zero, suc, List, [], ◌∷◌, length, map, take, Option, Some, None, option_map, refl, sym, ap, ◌∙◌, arith, slice_get}
use Rattle.std.proofs.lemmas.Option.{none-some, same_Some, slice_get-map, slice_get_past}
use Rattle.jd_syntax.specs.JavaTrees.{JavaMethod, JavaUnit}
use Rattle.jd_syntax.specs.SpecTrees.{PlainClause}
use Rattle.jd_jclasses.specs.Members.{Declared, Kind, FieldOf, ConstantOf, RoutineOf}
use Rattle.jd_jclasses.specs.Methods.{routines}
use Rattle.jd_jinfos.specs.Infos.{PlainMethodInfo, method_info, method_infos}
use Rattle.jd_bodies.specs.Declarations.{Declarations}
use Rattle.jd_jml_cases.specs.Laws.{contract_of_case, contract_of_declared}
use Rattle.jd_jml_cases.specs.Trees.{trees_of}
use Rattle.jd_jml_cases.proofs.Written.{kind_at}
use Rattle.jd_jml_written.specs.Marked.{PlainCase}
use Rattle.jd_specifications.specs.WrittenCases.{contract}
use Rattle.jd_case_tables.specs.Numbered.{contracts_by}
use Rattle.jd_case_tables.specs.Placed.{Place, place_at, place_of, place_of_kind}

-- ---- contracts

by_place : (d : Declarations) (o : Option Declared) (cs : List PlainClause) → contract_of_declared d o cs ≡ contracts_by d (place_of o) cs
by_place d None cs = refl
by_place d (Some r) cs = by r.kind
  where
    by : (k : Kind) → contract_of_declared d (Some (record { class = r.class; file = r.file; member = r.member; name = r.name; kind = k })) cs ≡ contracts_by d (place_of_kind r.class k) cs
    by (FieldOf t) = refl
    by (ConstantOf n) = refl
    by (RoutineOf m) = refl

module _ (units : List JavaUnit) (d : Declarations) (k : PlainCase) where
  pub no_contract : place_at units k.declared ≡ None → contract_of_case units d k ≡ []
  no_contract none = by_place d (slice_get (routines units) k.declared) k.clauses ∙ ap (λ o. contracts_by d o k.clauses) none

  pub one_contract : (w : Place) → place_at units k.declared ≡ Some w → contract_of_case units d k ≡ contract d w.0 w.1 k.clauses ∷ []
  one_contract w there = by_place d (slice_get (routines units) k.declared) k.clauses ∙ ap (λ o. contracts_by d o k.clauses) there

-- ---- what is told of an optional

pub told_none : {X Y : Type 0} (f : X → Y) (o : Option X) (q : Option Y) → option_map f o ≡ q → o ≡ None → q ≡ None
told_none f o q told none = sym told ∙ ap (option_map f) none

pub told_some : {X Y : Type 0} (f : X → Y) (o : Option X) (q : Option Y) (x : X) → option_map f o ≡ q → o ≡ Some x → q ≡ Some (f x)
told_some f o q x told there = sym told ∙ ap (option_map f) there

-- ---- the declaration of a number

module _ (units : List JavaUnit) (m : ℕ) where
  no_place : (o : Option Declared) → option_map (λ (r : Declared). r.kind) o ≡ None → place_of o ≡ None
  no_place None e = refl
  no_place (Some r) e = absurd cc

  pub place_none : (trees : List JavaMethod) → trees ≡ trees_of units → slice_get trees m ≡ None → place_at units m ≡ None
  place_none trees are none =
      no_place (slice_get (routines units) m)
      (kind_at units m ∙ ap (option_map RoutineOf) (ap (λ (l : List JavaMethod). slice_get l m) (sym are) ∙ none))

  some_place : (o : Option Declared) (i : PlainMethodInfo) (t : JavaMethod) → option_map method_info o ≡ Some i → option_map (λ (r : Declared). r.kind) o ≡ Some (RoutineOf t) → Some (i.class, t) ≡ place_of o
  some_place None i t info kind = absurd (none-some i info)
  some_place (Some r) i t info kind =
      ap (λ (x : PlainMethodInfo). Some (x.class, t)) (sym (same_Some (method_info r) i info))
      ∙ ap (place_of_kind r.class) (sym (same_Some r.kind (RoutineOf t) kind))

  pub place_some : (trees : List JavaMethod) (i : PlainMethodInfo) (t : JavaMethod) → trees ≡ trees_of units → slice_get (method_infos units) m ≡ Some i → slice_get trees m ≡ Some t → Some (i.class, t) ≡ place_at units m
  place_some trees i t are listed there =
      some_place (slice_get (routines units) m) i t
      (sym (slice_get-map method_info (routines units) m) ∙ listed)
      (kind_at units m ∙ ap (option_map RoutineOf) (ap (λ (l : List JavaMethod). slice_get l m) (sym are) ∙ there))

  -- a number of no info is no routine's
  none_of : (o : Option Declared) → option_map method_info o ≡ None → place_of o ≡ None
  none_of None e = refl
  none_of (Some r) e = absurd cc

  pub place_past : {X : Type 0} (view : X → PlainMethodInfo) (infos : List X) → map view infos ≡ method_infos units → length infos ≤ m → None ≡ place_at units m
  place_past view infos are past =
      sym (none_of (slice_get (routines units) m)
      (sym (slice_get-map method_info (routines units) m)
      ∙ ap (λ (l : List PlainMethodInfo). slice_get l m) (sym are)
      ∙ slice_get-map view infos m
      ∙ ap (option_map view) (slice_get_past infos m past)))

-- ---- parts of lists

pub all_first : {X : Type 0} (n : ℕ) (xs : List X) → length xs ≤ n → xs ≡ take n xs
all_first zero [] past = refl
all_first zero (x ∷ xs) past = absurd (omega (arith, past))
all_first (suc n) [] past = refl
all_first (suc n) (x ∷ xs) past = ap (λ l. x ∷ l) (all_first n xs (omega (arith, past)))
