-- A program has few methods and constructors: a class declares one constructor.
use Rattle.std.proofs.Common.{◌≡◌, ℕ, suc, ◌+◌, ◌<◌, ◌≤◌, Bool, true, false, cond, List, [], ◌∷◌, length, Some, slice_index, refl, subst, inl, inr, arith}
use Rattle.std.specs.Prelude.{nat_eq, not}
use Rattle.std.specs.Cmp.{nat_eq_equiv}
use Rattle.std.specs.List.{All, AllByRecursion, Contains, IsDistinct, filter, slice_get}
use Rattle.std.proofs.lemmas.Bool.{cases_eq, cases_lt}
use Rattle.std.proofs.lemmas.Bool.Decides.{nat_tests}
use Rattle.std.proofs.lemmas.List.Elements.{All-contains, All-from_get_or, All-from_recursion, Contains-get_or}
use Rattle.std.proofs.lemmas.Map.Steps.{le-length_from_below, length-le_from_distinct_below}
use Rattle.std.proofs.lemmas.Map.Views.{Contains-from_any, exact_unsigned_eq, list_any-from_Contains}
use Rattle.std.proofs.lemmas.Option.{slice_get_cases, slice_get_within}
use Rattle.jd_syntax.specs.JavaTrees.{JavaUnit}
use Rattle.jd_jclasses.specs.Classes.{declared_classes, parents}
use Rattle.jd_jclasses.specs.Members.{Declared, Kind, FieldOf, ConstantOf, RoutineOf, builds, declared_members, is_constructor, is_method, is_routine}
use Rattle.jd_jclasses.specs.Methods.{AreFamilies, routines}
use Rattle.jd_jclasses.specs.Refusals.{AreClasses, class_limit, method_limit}
use Rattle.std.proofs.lemmas.List.{length-map}
use Rattle.jd_jinfos.specs.Infos.{method_info}
use Rattle.jd_jseen.proofs.Nodes.{length_parents, members_are_of_classes}
use Rattle.jd_classes.specs.Tables.{AreTables, method_count_of}
use Rattle.jd_classes.specs.declared.classes.Classes.{Classes}
use Rattle.jd_declared.proofs.Listing.{method_count}

-- the classes that declare a constructor, one for each that they declare
abbrev building : List Declared → List ℕ
building [] = []
building (m ∷ ms) = cond (is_constructor m.kind) (m.class ∷ building ms) (building ms)

-- a routine is a method or a constructor
one_of_both : (b : Bool) (d : Declared) (ms rs : List Declared) (cs : List ℕ) → length rs ≡ length ms + length cs → length (d ∷ rs) ≡ length (cond (not b) (d ∷ ms) ms) + length (cond b (d.class ∷ cs) cs)
one_of_both true d ms rs cs same = omega (arith, same)
one_of_both false d ms rs cs same = omega (arith, same)

split : (ms : List Declared) → length (filter (λ m. is_routine m.kind) ms) ≡ length (filter (λ m. is_method m.kind) ms) + length (building ms)
split [] = refl
split (d ∷ ms) = by d.kind (split ms)
  where
    by : (k : Kind) → length (filter (λ m. is_routine m.kind) ms) ≡ length (filter (λ m. is_method m.kind) ms) + length (building ms)
        → length (cond (is_routine k) (d ∷ filter (λ m. is_routine m.kind) ms) (filter (λ m. is_routine m.kind) ms)) ≡ length (cond (is_method k) (d ∷ filter (λ m. is_method m.kind) ms) (filter (λ m. is_method m.kind) ms)) + length (cond (is_constructor k) (d.class ∷ building ms) (building ms))
    by (FieldOf t) same = same
    by (ConstantOf n) same = same
    by (RoutineOf r) same = one_of_both (builds r.result) d (filter (λ m. is_method m.kind) ms) (filter (λ m. is_routine m.kind) ms) (building ms) same

-- ---- no class declares two

abbrev AreAlone : List Declared → Type 0
AreAlone ms = (i j : ℕ) (a b : Declared) → i < j → slice_get ms i ≡ Some a → slice_get ms j ≡ Some b → is_constructor a.kind ≡ true → is_constructor b.kind ≡ true → a.class ≡ b.class → ⊥

unlike : (x y : ℕ) → (x ≡ y → ⊥) → nat_eq x y ≡ false
unlike x y apart = elim (cases_eq x y) [
  | inl same ↦ absurd (apart same)
  | inr other ↦ grind (arith, nat_tests)
]

others : (class : ℕ) (ms : List Declared) → ((j : ℕ) (b : Declared) → slice_get ms j ≡ Some b → is_constructor b.kind ≡ true → class ≡ b.class → ⊥) → AllByRecursion (λ y. nat_eq class y ≡ false) (building ms)
others class [] apart = tt
others class (m ∷ ms) apart = by (is_constructor m.kind) refl (others class ms (λ j b there. apart (suc j) b there))
  where
    by : (b : Bool) → is_constructor m.kind ≡ b → AllByRecursion (λ y. nat_eq class y ≡ false) (building ms) → AllByRecursion (λ y. nat_eq class y ≡ false) (cond b (m.class ∷ building ms) (building ms))
    by true is rest = (unlike class m.class (apart 0 m refl is), rest)
    by false is rest = rest

distinct_more : (c : ℕ) (cs : List ℕ) → AllByRecursion (λ y. nat_eq c y ≡ false) cs → IsDistinct nat_eq cs → IsDistinct nat_eq (c ∷ cs)
unfolding IsDistinct
distinct_more c cs apart rest = (apart, rest)

distinct_none : IsDistinct nat_eq []
unfolding IsDistinct
distinct_none = tt

distinct : (ms : List Declared) → AreAlone ms → IsDistinct nat_eq (building ms)
distinct [] alone = distinct_none
distinct (m ∷ ms) alone = by (is_constructor m.kind) refl (distinct ms (λ i j a b lt. alone (suc i) (suc j) a b (omega (arith, lt))))
  where
    by : (b : Bool) → is_constructor m.kind ≡ b → IsDistinct nat_eq (building ms) → IsDistinct nat_eq (cond b (m.class ∷ building ms) (building ms))
    by true is rest = distinct_more m.class (building ms) (others m.class ms (λ j b there built same. alone 0 (suc j) m b (omega arith) refl there is built same)) rest
    by false is rest = rest

all_below : (n : ℕ) (ms : List Declared) → ((j : ℕ) (b : Declared) → slice_get ms j ≡ Some b → b.class < n) → AllByRecursion (λ c. c < n) (building ms)
all_below n [] each = tt
all_below n (m ∷ ms) each = by (is_constructor m.kind) (all_below n ms (λ j b there. each (suc j) b there))
  where
    by : (b : Bool) → AllByRecursion (λ c. c < n) (building ms) → AllByRecursion (λ c. c < n) (cond b (m.class ∷ building ms) (building ms))
    by true rest = (each 0 m refl, rest)
    by false rest = rest

few_built : (n : ℕ) (ms : List Declared) → AreAlone ms → ((j : ℕ) (b : Declared) → slice_get ms j ≡ Some b → b.class < n) → length (building ms) ≤ n
few_built n ms alone each =
    length-le_from_distinct_below (building ms) n (distinct ms alone)
    (λ q h. All-contains (λ c. c < n) (building ms) q (All-from_recursion (λ c. c < n) (building ms) (all_below n ms each)) (Contains-from_any exact_unsigned_eq q (building ms) h))

-- ---- all routines

module _ (units : List JavaUnit) (stand : AreClasses units) where
  alone : AreAlone (declared_members units)
  alone i j a b lt at there a_built b_built same =
      stand.members.members j (record { place = i; earlier = lt; other = a; one = b; other_there = at; there = there; holds = (same, inr (a_built, b_built)) })

  few_methods : length (filter (λ m. is_method m.kind) (declared_members units)) ≤ method_limit
  few_methods = elim (cases_lt method_limit (length (filter (λ m. is_method m.kind) (declared_members units)))) [
    | inl many ↦ absurd (stand.few_methods many)
    | inr few ↦ few
  ]

  few_declared : length (declared_classes units) ≤ class_limit
  few_declared = elim (cases_lt class_limit (length (declared_classes units))) [
    | inl many ↦ absurd (stand.few_classes many)
    | inr few ↦ few
  ]

  pub few_classes : length (parents units) ≤ 266
  few_classes = omega (arith, few_declared, length_parents units)

  pub few_routines : length (routines units) ≤ 2314
  few_routines =
      omega (arith, split (declared_members units), few_methods, few_declared, length_parents units, few_built (length (parents units)) (declared_members units) alone (members_are_of_classes units))

-- the number of each fits
pub few_methods_listed : (units : List JavaUnit) (c : Classes) → AreTables units c → method_count_of c ≤ 4294967295
few_methods_listed units c tables = omega (arith, method_count units c tables, length-map (routines units) method_info, few_routines units tables.stand)
