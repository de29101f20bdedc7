-- What classes declare themselves, and which methods are members of them.
use Rattle.std.proofs.Common.{◌≡◌, ◌≢◌, ◌⊎◌, ◌&&◌, ◌||◌, inl, inr, ⊎_elim, ℕ, ◌+◌, Bool, true, false, nat_eq, List, [], ◌∷◌, if◌then◌else◌, bytes_eq, Option, Some, None, option_map, refl, sym, ap, subst, ◌∙◌, arith}
use Rattle.std.specs.List.{list_any, slice_get}
use Rattle.std.proofs.lemmas.Bool.Decides.{nat_tests}
use Rattle.std.proofs.lemmas.Option.{same_Some}
use Rattle.std.proofs.lemmas.Slice.Eq.{bytes_eq-Decides}
use Rattle.jd_syntax.specs.JavaTrees.{JavaUnit}
use Rattle.jd_syntax.specs.JavaTypes.{PlainType, IntType, BooleanType, IntArrayType, NamedType}
use Rattle.jd_jclasses.specs.Classes.{IsAncestor, IsSubclass}
use Rattle.jd_jclasses.specs.Laws.{OneMethod}
use Rattle.jd_jclasses.specs.Members.{Declared, is_constructor, is_method, is_static, result_of}
use Rattle.jd_jclasses.specs.Methods.{Declares, IsSeen, routines}
use Rattle.jd_jclasses.specs.Refusals.{AreClasses}
use Rattle.jd_jinfos.specs.Infos.{is_constructor_of, is_method_of, is_of}
use Rattle.jd_names.specs.Tables.{sort_of}
use Rattle.jd_jseen.proofs.Routines.{routines_are_members}
use Rattle.jd_programs.specs.Members.{declared_as, firsts, name_of, own, routine_name}
use Rattle.jd_declared.proofs.Declaring.{has_number, numbered}
use Rattle.jd_declared.proofs.Lists.{In, filtered_in, first_place, in_filter}

-- the routine of a number, of which something holds
pub record Routine (units : List JavaUnit) (m : ℕ) : Type 0 where
  pub it : Declared
  pub there : slice_get (routines units) m ≡ Some it

both_true : (a b : Bool) → a && b ≡ true → (a ≡ true) × (b ≡ true)
both_true true true e = (refl, refl)
both_true true false e = absurd cc
both_true false b e = absurd cc

true_both : (a b : Bool) → a ≡ true → b ≡ true → a && b ≡ true
true_both true true e f = refl
true_both true false e f = absurd cc
true_both false b e f = absurd cc

same_class : (c : ℕ) (r : Declared) → is_of c r ≡ true → r.class ≡ c
same_class c r e = let h : nat_eq c r.class ≡ true = e in grind (arith, nat_tests)

its_class : (c : ℕ) (r : Declared) → r.class ≡ c → is_of c r ≡ true
its_class c r e = let h : nat_eq r.class r.class ≡ true = grind (arith, nat_tests) in subst (λ x. nat_eq x r.class ≡ true) e h

from_zero : (units : List JavaUnit) (m k : ℕ) (r : Declared) → m ≡ 0 + k → slice_get (routines units) k ≡ Some r → slice_get (routines units) m ≡ Some r
from_zero units m k r is there = let same : k ≡ m = omega (arith, is) in subst (λ x. slice_get (routines units) x ≡ Some r) same there

module _ (units : List JavaUnit) where
  pub record OwnMethod (a m : ℕ) : Type 0 where
    pub it : Declared
    pub there : slice_get (routines units) m ≡ Some it
    pub method : is_method it.kind ≡ true
    pub class : it.class ≡ a

  pub record OwnConstructor (a m : ℕ) : Type 0 where
    pub it : Declared
    pub there : slice_get (routines units) m ≡ Some it
    pub constructor : is_constructor it.kind ≡ true
    pub class : it.class ≡ a

  pub own_method : (a m : ℕ) → In m (own units a).methods → OwnMethod a m
  own_method a m h =
      let p = numbered (is_method_of a) 0 (routines units) m h in
      let both = both_true (is_method p.one.kind) (is_of a p.one) p.passes in
      record { it = p.one; there = from_zero units m p.k p.one p.is p.there; method = both.0; class = same_class a p.one both.1 }

  pub method_owned : (a m : ℕ) → OwnMethod a m → In m (own units a).methods
  method_owned a m o =
      let same : 0 + m ≡ m = omega arith in
      subst (λ n. In n (own units a).methods) same
      (has_number (is_method_of a) 0 m (routines units) o.it o.there (true_both (is_method o.it.kind) (is_of a o.it) o.method (its_class a o.it o.class)))

  pub own_constructor : (a m : ℕ) → (own units a).constructor ≡ Some m → OwnConstructor a m
  own_constructor a m e =
      let p = first_place (is_constructor_of a) 0 (routines units) m e in
      let both = both_true (is_constructor p.one.kind) (is_of a p.one) p.passes in
      record { it = p.one; there = from_zero units m p.k p.one p.is p.there; constructor = both.0; class = same_class a p.one both.1 }

  pub declares : (a m : ℕ) → OwnMethod a m → Declares units a (routine_name units m) m
  declares a m o = record { routine = o.it; there = o.there; holds = (o.method, o.class, sym (ap name_of o.there)) }

  -- ---- the first of each name

  pub first_of_name : (names : List (List ℕ)) (ms : List ℕ) (m : ℕ) → In m ms → (list_any (bytes_eq (routine_name units m)) names ≡ true) ⊎ ((first : ℕ) × In first (firsts units names ms) × (routine_name units first ≡ routine_name units m))
  first_of_name names [] m h = absurd h
  first_of_name names (z ∷ zs) m h = by (list_any (bytes_eq (routine_name units z)) names) refl h (first_of_name names zs m) (first_of_name (routine_name units z ∷ names) zs m)
    where
      Found : List ℕ → Type 0
      Found l = (list_any (bytes_eq (routine_name units m)) names ≡ true) ⊎ ((first : ℕ) × In first l × (routine_name units first ≡ routine_name units m))

      later : (first : ℕ) × In first (firsts units (routine_name units z ∷ names) zs) × (routine_name units first ≡ routine_name units m) → Found (z ∷ firsts units (routine_name units z ∷ names) zs)
      later r = inr (r.0, inr r.1, r.2)

      among_more : (b : Bool) → bytes_eq (routine_name units m) (routine_name units z) ≡ b → (b || list_any (bytes_eq (routine_name units m)) names) ≡ true → Found (z ∷ firsts units (routine_name units z ∷ names) zs)
      among_more true is e = inr (z, inl refl, sym ((bytes_eq-Decides (routine_name units m) (routine_name units z)).0 is))
      among_more false is e = inl e

      by : (b : Bool) → list_any (bytes_eq (routine_name units z)) names ≡ b → In m (z ∷ zs)
          → (In m zs → Found (firsts units names zs))
          → (In m zs → (list_any (bytes_eq (routine_name units m)) (routine_name units z ∷ names) ≡ true) ⊎ ((first : ℕ) × In first (firsts units (routine_name units z ∷ names) zs) × (routine_name units first ≡ routine_name units m)))
          → Found (if b then firsts units names zs else (z ∷ firsts units (routine_name units z ∷ names) zs))
      by true is (inl same) rest more = inl (ap (λ x. list_any (bytes_eq (routine_name units x)) names) same ∙ is)
      by true is (inr behind) rest more = rest behind
      by false is (inl same) rest more = inr (z, inl refl, ap (routine_name units) (sym same))
      by false is (inr behind) rest more = ⊎_elim (λ e. among_more (bytes_eq (routine_name units m) (routine_name units z)) refl e) later (more behind)

  pub one_of_name : (ms : List ℕ) (m : ℕ) → In m ms → (first : ℕ) × In first (firsts units [] ms) × (routine_name units first ≡ routine_name units m)
  one_of_name ms m h = ⊎_elim (λ e. absurd (let no : false ≡ true = e in cc)) (λ r. r) (first_of_name [] ms m h)

  -- ---- the method of a name that a class declares

  pub declared_there : (a m n : ℕ) → In n (declared_as units (routine_name units m) a) → OwnMethod a n × (routine_name units n ≡ routine_name units m)
  declared_there a m n h =
      let r = in_filter (λ x. bytes_eq (routine_name units x) (routine_name units m)) (own units a).methods n h in
      (own_method a n r.0, (bytes_eq-Decides (routine_name units n) (routine_name units m)).0 r.1)

  pub there_declared : (a m n : ℕ) → OwnMethod a n → routine_name units n ≡ routine_name units m → In n (declared_as units (routine_name units m) a)
  there_declared a m n o e =
      filtered_in (λ x. bytes_eq (routine_name units x) (routine_name units m)) (own units a).methods n (method_owned a n o) ((bytes_eq-Decides (routine_name units n) (routine_name units m)).1 e)

  -- ---- methods of one name, of a class and one above it

  sees_own : (a : ℕ) (name : List ℕ) (n : ℕ) → Declares units a name n → IsSeen units a name n
  sees_own a name n d = record { owner = a; declared = d; inherited = inl refl; nearest = λ other k below has. below }

  pub one_in_class : OneMethod → AreClasses units → (a m n : ℕ) → OwnMethod a m → OwnMethod a n → routine_name units n ≡ routine_name units m → m ≡ n
  one_in_class law are a m n o p e =
      law.one_seen units a (routine_name units m) m n are (sees_own a (routine_name units m) m (declares a m o))
      (sees_own a (routine_name units m) n (subst (λ name. Declares units a name n) e (declares a n p)))

  differ : (a b : Bool) → ((a ≢ b) → ⊥) → a ≡ b
  differ true true h = refl
  differ false false h = refl
  differ true false h = absurd (h (λ e. cc))
  differ false true h = absurd (h (λ e. cc))

  same_sorts : (a b : Option PlainType) → ((a ≢ b) → ⊥) → option_map sort_of a ≡ option_map sort_of b
  same_sorts None None h = refl
  same_sorts None (Some t) h = absurd (h (λ e. cc))
  same_sorts (Some s) None h = absurd (h (λ e. cc))
  same_sorts (Some IntType) (Some IntType) h = refl
  same_sorts (Some IntType) (Some BooleanType) h = absurd (h (λ e. cc))
  same_sorts (Some IntType) (Some IntArrayType) h = absurd (h (λ e. cc))
  same_sorts (Some IntType) (Some (NamedType y)) h = absurd (h (λ e. cc))
  same_sorts (Some BooleanType) (Some IntType) h = absurd (h (λ e. cc))
  same_sorts (Some BooleanType) (Some BooleanType) h = refl
  same_sorts (Some BooleanType) (Some IntArrayType) h = absurd (h (λ e. cc))
  same_sorts (Some BooleanType) (Some (NamedType y)) h = absurd (h (λ e. cc))
  same_sorts (Some IntArrayType) (Some IntType) h = absurd (h (λ e. cc))
  same_sorts (Some IntArrayType) (Some BooleanType) h = absurd (h (λ e. cc))
  same_sorts (Some IntArrayType) (Some IntArrayType) h = refl
  same_sorts (Some IntArrayType) (Some (NamedType y)) h = refl
  same_sorts (Some (NamedType x)) (Some IntType) h = absurd (h (λ e. cc))
  same_sorts (Some (NamedType x)) (Some BooleanType) h = absurd (h (λ e. cc))
  same_sorts (Some (NamedType x)) (Some IntArrayType) h = refl
  same_sorts (Some (NamedType x)) (Some (NamedType y)) h = refl

  module _ (law : OneMethod) (are : AreClasses units) (a b m n : ℕ) (o : OwnMethod a m) (p : OwnMethod b n) (e : routine_name units n ≡ routine_name units m) where
    -- in one class they are one
    same_method : a ≡ b → o.it ≡ p.it
    same_method same =
        let q : OwnMethod a n = record { it = p.it; there = p.there; method = p.method; class = p.class ∙ sym same } in
        let one = one_in_class law are a m n o q e in
        same_Some o.it p.it (sym o.there ∙ ap (slice_get (routines units)) one ∙ p.there)

    -- and one overrides the other as it may
    not_bad : IsAncestor units b a → ((result_of p.it.kind ≢ result_of o.it.kind) ⊎ (is_static p.it.kind ≢ is_static o.it.kind)) → ⊥
    not_bad above apart =
        let one = routines_are_members units m o.it o.there in
        let other = routines_are_members units n p.it p.there in
        are.members.overrides one.0 (record {
          place = other.0;
          other = p.it;
          one = o.it;
          other_there = other.1;
          there = one.1;
          holds = (
            subst (λ x. IsAncestor units x o.it.class) (sym p.class) (subst (IsAncestor units b) (sym o.class) above),
            (p.method, o.method, ap name_of (sym p.there) ∙ e ∙ ap name_of o.there),
            apart,
          );
        })

    pub both_static : IsSubclass units a b → is_static o.it.kind ≡ is_static p.it.kind
    both_static (inl same) = ap (λ (r : Declared). is_static r.kind) (same_method same)
    both_static (inr above) = sym (differ (is_static p.it.kind) (is_static o.it.kind) (λ apart. not_bad above (inr apart)))

    -- they give values of one sort
    pub both_given : IsSubclass units a b → option_map sort_of (result_of o.it.kind) ≡ option_map sort_of (result_of p.it.kind)
    both_given (inl same) = ap (λ (r : Declared). option_map sort_of (result_of r.kind)) (same_method same)
    both_given (inr above) = sym (same_sorts (result_of p.it.kind) (result_of o.it.kind) (λ apart. not_bad above (inl apart)))
