-- What classes have of their own by names is what they declare.
use Rattle.std.proofs.Common.{◌≡◌, ◌⊎◌, ℕ, zero, suc, ◌+◌, ◌<◌, ℤ, Bool, true, false, cond, ◌&&◌, nat_eq, List, [], ◌∷◌, ◌++◌, length, map, filter, Option, Some, None, option_map, refl, sym, ap, subst, ◌∙◌, inl, inr, arith, slice_get}
use Rattle.std.specs.List.{filter_map}
use Rattle.std.proofs.lemmas.Bool.Decides.{nat_tests}
use Rattle.std.proofs.lemmas.Option.{same_Some, none-some, slice_get-map}
use Rattle.jd_syntax.specs.JavaTypes.{PlainType, IntType, BooleanType, IntArrayType, NamedType}
use Rattle.jd_syntax.specs.JavaTrees.{JavaUnit}
use Rattle.jd_jclasses.specs.CallGraph.{DeclaresConstructor}
use Rattle.jd_jclasses.specs.Classes.{IsSubclass, class_named}
use Rattle.jd_jclasses.specs.Members.{Declared, Kind, FieldOf, ConstantOf, RoutineOf, declared_members, is_constructor, is_field, is_method}
use Rattle.jd_jclasses.specs.Methods.{Declares, RoutineAt, fields, routines}
use Rattle.jd_jinfos.specs.Infos.{PlainFieldInfo, PlainMethodInfo, constant_of, constant_with, field_info, field_infos, is_constructor_of, is_method_of, is_of, method_info, method_infos, own_of, places_from, variable_type}
use Rattle.jd_jseen.proofs.Routines.{kept}
use Rattle.jd_bodies.specs.Declarations.{IsVariableOf, class_type, type_by, type_of}
use Rattle.jd_bodies.specs.Declarations.IsVariableOf.{a_constant, a_field}
use Rattle.jd_bodies.specs.declared.value.ValueType.{ValueType}
use Rattle.jd_bodies.specs.declared.value.Variable.{Variable}
use Rattle.jd_bodies.specs.declared.value.Variable.TheVariants as variables
use Rattle.jd_declared.specs.Named.{first_named}
use Rattle.jd_declared.specs.Owned.{constant_pair, field_pair, field_pairs, method_pair, methods_in, methods_of, variables_of}
use Rattle.jd_declared.proofs.Lists.{In, IsPair, PlaceOf, at_place, filtered_in, first_in, first_place, further, in_either, in_filter, in_filter_map, in_left, in_map, in_mapped, in_right, made_in, no_place, none_in, place_of}

-- ---- the numbers of those that pass a test

pub numbered : (t : Declared → Bool) (n : ℕ) (ms : List Declared) (i : ℕ) → In i (places_from n t ms) → PlaceOf t n ms i
numbered t n [] i h = absurd h
numbered t n (m ∷ ms) i h = by (t m) refl h (numbered t (n + 1) ms i)
  where
    by : (b : Bool) → t m ≡ b → In i (cond b (n ∷ places_from (n + 1) t ms) (places_from (n + 1) t ms)) → (In i (places_from (n + 1) t ms) → PlaceOf t (n + 1) ms i) → PlaceOf t n (m ∷ ms) i
    by true is (inl here) rest = record { k = 0; is = omega (arith, here); one = m; there = refl; passes = is }
    by true is (inr behind) rest = further t n m ms i (rest behind)
    by false is h rest = further t n m ms i (rest h)

pub has_number : (t : Declared → Bool) (n k : ℕ) (ms : List Declared) (m : Declared) → slice_get ms k ≡ Some m → t m ≡ true → In (n + k) (places_from n t ms)
has_number t n k [] m there passes = absurd (none-some m there)
has_number t n zero (d ∷ ms) m there passes = by (t d) (ap t (same_Some d m there) ∙ passes)
  where
    by : (b : Bool) → b ≡ true → In (n + 0) (cond b (n ∷ places_from (n + 1) t ms) (places_from (n + 1) t ms))
    by true e = inl (omega arith)
    by false e = absurd cc
has_number t n (suc k) (d ∷ ms) m there passes =
    let same : n + 1 + k ≡ n + suc k = omega arith in
    by (t d) (subst (λ i. In i (places_from (n + 1) t ms)) same (has_number t (n + 1) k ms m there passes))
  where
    by : (b : Bool) → In (n + suc k) (places_from (n + 1) t ms) → In (n + suc k) (cond b (n ∷ places_from (n + 1) t ms) (places_from (n + 1) t ms))
    by true h = inr h
    by false h = h

same_number : (a b : ℕ) → nat_eq a b ≡ true → b ≡ a
same_number a b e = grind (arith, nat_tests)

its_own : (a : ℕ) → nat_eq a a ≡ true
its_own a = grind (arith, nat_tests)

from_start : (k i : ℕ) → i ≡ 0 + k → i ≡ k
from_start k i is = omega (arith, is)

-- ---- types by the names of classes

pub same_type : (named : List ℕ → Option ℕ) (units : List JavaUnit) → ((q : List ℕ) → named q ≡ class_named units q) → (t : PlainType) → type_by named t ≡ type_of units t
same_type named units same IntType = refl
same_type named units same BooleanType = refl
same_type named units same IntArrayType = refl
same_type named units same (NamedType x) = ap class_type (same x)

-- ---- variables

a_field_kind : (k : Kind) → is_field k ≡ true → k ≡ FieldOf (variable_type k)
a_field_kind (FieldOf t) e = refl
a_field_kind (ConstantOf n) e = absurd cc
a_field_kind (RoutineOf m) e = absurd cc

a_constant_kind : (name : List ℕ) (k : Kind) (c : List ℕ × ℤ) → constant_with name k ≡ Some c → (k ≡ ConstantOf c.1) × (name ≡ c.0)
a_constant_kind name (FieldOf t) c e = absurd (none-some c e)
a_constant_kind name (ConstantOf n) c e = let same = same_Some (name, n) c e in (ap (λ (p : List ℕ × ℤ). ConstantOf p.1) same, ap (λ (p : List ℕ × ℤ). p.0) same)
a_constant_kind name (RoutineOf m) c e = absurd (none-some c e)

module _ (units : List JavaUnit) (named : List ℕ → Option ℕ) (same : (q : List ℕ) → named q ≡ class_named units q) (c : ℕ) (q : List ℕ) where
  abbrev members : List Declared
  members = declared_members units

  -- what is listed of a field
  listed_field : (f : ℕ) (m : Declared) (i : PlainFieldInfo) → slice_get (fields units) f ≡ Some m → slice_get (field_infos units) f ≡ Some i → i ≡ field_info m
  listed_field f m i there is = same_Some i (field_info m) (sym is ∙ slice_get-map field_info (fields units) f ∙ ap (option_map field_info) there)

  field_found : (class f : ℕ) (i : PlainFieldInfo) (v : Variable) → In f (places_from 0 (is_of c) (fields units)) → slice_get (field_infos units) f ≡ Some i → i.name ≡ q → variables.Field f (type_by named i.ty) ≡ v → IsSubclass units class c → IsVariableOf units class q v
  field_found class f i v own is name value sub =
      let p = numbered (is_of c) 0 (fields units) f own in
      let there : slice_get (fields units) f ≡ Some p.one = ap (slice_get (fields units)) (from_start p.k f p.is) ∙ p.there in
      let info = listed_field f p.one i there is in
      let field = a_field_kind p.one.kind (kept (λ (m : Declared). is_field m.kind) members f p.one there).passes in
      let whole : variables.Field f (type_of units (variable_type p.one.kind)) ≡ v =
      ap (variables.Field f) (sym (same_type named units same (variable_type p.one.kind))) ∙ ap (λ (x : PlainFieldInfo). variables.Field f (type_by named x.ty)) (sym info) ∙ value in
      subst (IsVariableOf units class q) whole
      (a_field f p.one (variable_type p.one.kind) there field (ap (λ (x : PlainFieldInfo). x.name) (sym info) ∙ name) (subst (IsSubclass units class) (sym (same_number c p.one.class p.passes)) sub))

  constant_found : (class : ℕ) (k : List ℕ × ℤ) (v : Variable) → In k (filter_map constant_of (filter (is_of c) members)) → k.0 ≡ q → variables.Constant k.1 ≡ v → IsSubclass units class c → IsVariableOf units class q v
  constant_found class k v own name value sub =
      let made = in_filter_map constant_of (filter (is_of c) members) k own in
      let of_class = in_filter (is_of c) members made.from made.in_ in
      let kind = a_constant_kind made.from.name.name made.from.kind k made.gives in
      let place = place_of members made.from of_class.0 in
      subst (IsVariableOf units class q) value
      (a_constant place.0 made.from k.1 place.1 kind.0 (kind.1 ∙ name) (subst (IsSubclass units class) (sym (same_number c made.from.class of_class.1)) sub))

  -- what is found is a variable of each class that is it or extends it
  pub variable_found : (class : ℕ) (v : Variable) → first_named (variables_of units named c) q ≡ Some v → IsSubclass units class c → IsVariableOf units class q v
  variable_found class v e sub =
      let p = first_in (variables_of units named c) q v e in
      by p.pair (in_either p.pair _ _ p.in_) p.name p.value
    where
      by : (p : List ℕ × Variable) → In p (field_pairs (field_infos units) named (own_of members c).fields) ⊎ In p (map constant_pair (own_of members c).constants) → p.0 ≡ q → p.1 ≡ v → IsVariableOf units class q v
      by p (inl field) name value =
          let made = in_filter_map (λ f. option_map (field_pair named f) (slice_get (field_infos units) f)) (own_of members c).fields p field in
          of_info made.from made.in_ (slice_get (field_infos units) made.from) refl made.gives
        where
          of_info : (f : ℕ) → In f (own_of members c).fields → (o : Option PlainFieldInfo) → slice_get (field_infos units) f ≡ o → option_map (field_pair named f) o ≡ Some p → IsVariableOf units class q v
          of_info f own None is gives = absurd (none-some p gives)
          of_info f own (Some i) is gives =
              let pair = same_Some (field_pair named f i) p gives in
              field_found class f i v own is (ap (λ (x : List ℕ × Variable). x.0) pair ∙ name) (ap (λ (x : List ℕ × Variable). x.1) pair ∙ value) sub
      by p (inr constant) name value =
          let made = in_map constant_pair (own_of members c).constants p constant in
          constant_found class made.0 v made.1 (ap (λ (x : List ℕ × Variable). x.0) made.2 ∙ name) (ap (λ (x : List ℕ × Variable). x.1) made.2 ∙ value) sub

  -- and where nothing is, the class declares none
  pub no_field : (f : ℕ) (one : Declared) → first_named (variables_of units named c) q ≡ None → slice_get (fields units) f ≡ Some one → one.name.name ≡ q → one.class ≡ c → ⊥
  no_field f one none there name class =
      let its : is_of c one ≡ true = ap (nat_eq c) class ∙ its_own c in
      let start : 0 + f ≡ f = omega arith in
      let own : In f (own_of members c).fields = subst (λ n. In n (places_from 0 (is_of c) (fields units))) start (has_number (is_of c) 0 f (fields units) one there its) in
      let info : slice_get (field_infos units) f ≡ Some (field_info one) = slice_get-map field_info (fields units) f ∙ ap (option_map field_info) there in
      none_in (variables_of units named c) q (field_pair named f (field_info one)) none
      (in_left (field_pair named f (field_info one)) _ _ (made_in (λ n. option_map (field_pair named n) (slice_get (field_infos units) n)) (own_of members c).fields f (field_pair named f (field_info one)) own (ap (option_map (field_pair named f)) info)))
      name

  pub no_constant : (i : ℕ) (one : Declared) (n : ℤ) → first_named (variables_of units named c) q ≡ None → slice_get members i ≡ Some one → one.kind ≡ ConstantOf n → one.name.name ≡ q → one.class ≡ c → ⊥
  no_constant i one n none there kind name class =
      let its : is_of c one ≡ true = ap (nat_eq c) class ∙ its_own c in
      let made : constant_of one ≡ Some (one.name.name, n) = ap (constant_with one.name.name) kind in
      none_in (variables_of units named c) q (one.name.name, variables.Constant n) none
      (in_right (one.name.name, variables.Constant n) _ _ (in_mapped constant_pair (own_of members c).constants (one.name.name, n) (made_in constant_of (filter (is_of c) members) one (one.name.name, n) (filtered_in (is_of c) members one (at_place members i one there) its) made)))
      name

-- ---- methods and constructors

both_true : (a b : Bool) → (a && b) ≡ true → (a ≡ true) × (b ≡ true)
both_true true b e = (refl, e)
both_true false b e = absurd cc

together : (a b : Bool) → a ≡ true → b ≡ true → (a && b) ≡ true
together a b e f = cc

module _ (units : List JavaUnit) (c : ℕ) where
  abbrev Own : ℕ → Type 0
  Own m = In m (places_from 0 (is_method_of c) (routines units))

  listed_method : (m : ℕ) (r : Declared) (i : PlainMethodInfo) → slice_get (routines units) m ≡ Some r → slice_get (method_infos units) m ≡ Some i → i ≡ method_info r
  listed_method m r i there is = same_Some i (method_info r) (sym is ∙ slice_get-map method_info (routines units) m ∙ ap (option_map method_info) there)

  pub method_found : (q : List ℕ) (m : ℕ) → first_named (methods_of units c) q ≡ Some m → Declares units c q m
  method_found q m e =
      let p = first_in (methods_of units c) q m e in
      let made = in_filter_map (λ n. option_map (method_pair n) (slice_get (method_infos units) n)) (places_from 0 (is_method_of c) (routines units)) p.pair p.in_ in
      of_info p made.from made.in_ (slice_get (method_infos units) made.from) refl made.gives
    where
      of_info : (p : IsPair (methods_of units c) q m) (n : ℕ) → Own n → (o : Option PlainMethodInfo) → slice_get (method_infos units) n ≡ o → option_map (method_pair n) o ≡ Some p.pair → Declares units c q m
      of_info p n own None is gives = absurd (none-some p.pair gives)
      of_info p n own (Some i) is gives =
          let pair = same_Some (method_pair n i) p.pair gives in
          let place = numbered (is_method_of c) 0 (routines units) n own in
          let there : slice_get (routines units) n ≡ Some place.one = ap (slice_get (routines units)) (from_start place.k n place.is) ∙ place.there in
          let tests = both_true (is_method place.one.kind) (is_of c place.one) place.passes in
          let number : n ≡ m = ap (λ (x : List ℕ × ℕ). x.1) pair ∙ p.value in
          let name : place.one.name.name ≡ q = ap (λ (x : PlainMethodInfo). x.name) (sym (listed_method n place.one i there is)) ∙ ap (λ (x : List ℕ × ℕ). x.0) pair ∙ p.name in
          subst (Declares units c q) number (record { routine = place.one; there = there; holds = (tests.0, same_number c place.one.class tests.1, name) })

  pub no_method : (q : List ℕ) (m : ℕ) → first_named (methods_of units c) q ≡ None → Declares units c q m → ⊥
  no_method q m none declares =
      let r = declares.routine in
      let its : is_of c r ≡ true = ap (nat_eq c) declares.holds.1 ∙ its_own c in
      let start : 0 + m ≡ m = omega arith in
      let own : Own m = subst (λ n. In n (places_from 0 (is_method_of c) (routines units))) start (has_number (is_method_of c) 0 m (routines units) r declares.there (together (is_method r.kind) (is_of c r) declares.holds.0 its)) in
      let info : slice_get (method_infos units) m ≡ Some (method_info r) = slice_get-map method_info (routines units) m ∙ ap (option_map method_info) declares.there in
      none_in (methods_of units c) q (method_pair m (method_info r)) none
      (made_in (λ n. option_map (method_pair n) (slice_get (method_infos units) n)) (places_from 0 (is_method_of c) (routines units)) m (method_pair m (method_info r)) own (ap (option_map (method_pair m)) info))
      declares.holds.2

  pub constructor_found : (m : ℕ) → (own_of (declared_members units) c).constructor ≡ Some m → DeclaresConstructor units c m
  constructor_found m e =
      let p = first_place (is_constructor_of c) 0 (routines units) m e in
      let there : slice_get (routines units) m ≡ Some p.one = ap (slice_get (routines units)) (from_start p.k m p.is) ∙ p.there in
      let tests = both_true (is_constructor p.one.kind) (is_of c p.one) p.passes in
      record { routine = p.one; there = there; holds = (tests.0, same_number c p.one.class tests.1) }

  pub no_constructor : (m : ℕ) → (own_of (declared_members units) c).constructor ≡ None → DeclaresConstructor units c m → ⊥
  no_constructor m none declares =
      let r = declares.routine in
      let its : is_of c r ≡ true = ap (nat_eq c) declares.holds.1 ∙ its_own c in
      no_place (is_constructor_of c) 0 (routines units) r none (at_place (routines units) m r declares.there) (together (is_constructor r.kind) (is_of c r) declares.holds.0 its)
