-- What the classes declare themselves, by the words that name it.
use Rattle.std.proofs.Common.{◌≡◌, ℕ, zero, suc, ◌+◌, ◌<◌, Bool, true, false, not, cond, ◌&&◌, ◌||◌, nat_eq, nat_lt, List, [], ◌∷◌, length, Option, None, Some, option_map, refl, sym, ap, ◌∙◌, inl, inr, true≢false, arith}
use Rattle.std.specs.List.{All, find, range_with_len, slice_get}
use Rattle.std.specs.Str.{bytes_eq}
use Rattle.std.proofs.lemmas.Bool.{cases_Bool, eq-eqb}
use Rattle.std.proofs.lemmas.Bool.Decides.{nat_tests}
use Rattle.std.proofs.lemmas.List.Elements.{All-cons, All-nil}
use Rattle.std.proofs.lemmas.Option.{same_Some, slice_get-map}
use Rattle.jd_syntax.specs.JavaTrees.{JavaUnit}
use Rattle.jd_jclasses.specs.Classes.{declared_classes, parents, prelude_count}
use Rattle.jd_jclasses.specs.Members.{Declared, Kind, FieldOf, ConstantOf, RoutineOf, builds, declared_members, is_constructor as constructs, is_method as is_method_kind, is_routine, is_static as is_static_kind}
use Rattle.jd_jclasses.specs.Methods.{fields, routines}
use Rattle.jd_jinfos.specs.Infos.{PlainClassInfo, PlainOwnMembers, class_infos, is_method_of, is_of, own_of, places_from}
use Rattle.jd_jinfos.proofs.Together.{own_in_infos}
use Rattle.jd_jseen.proofs.Nodes.{length_parents}
use Rattle.jd_jseen.proofs.Routines.{kept}
use Rattle.jd_tgrammar.specs.NameTables.{member_word}
use Rattle.jd_tforms.specs.Naming.{number_where}
use Rattle.jd_tforms.proofs.Somes.{same_bytes}
use Rattle.jd_tparse.specs.Least.{least}
use Rattle.jd_names.specs.Words.{class_called, names_field, names_static}
use Rattle.jd_names.proofs.Firsts.{first_same, none_first}
use Rattle.jd_tparse.proofs.Leasts.{first_of_two}

-- ---- the own members of a class

from_range : (n k i : ℕ) → i < k → slice_get (range_with_len n k) i ≡ Some (n + i)
from_range n zero i lt = absurd (omega (arith, lt))
from_range n (suc k) zero lt = let same : n ≡ n + 0 = omega arith in ap Some same
from_range n (suc k) (suc i) lt = let same : n + 1 + i ≡ n + suc i = omega arith in from_range (n + 1) k i (omega (arith, lt)) ∙ ap Some same

from_start : (k i : ℕ) → i < k → slice_get (range_with_len 0 k) i ≡ Some i
from_start k i lt = let same : 0 + i ≡ i = omega arith in from_range 0 k i lt ∙ ap Some same

pub own_at : (units : List JavaUnit) (class : ℕ) (info : PlainClassInfo) → slice_get (class_infos units) class ≡ Some info → class < length (parents units) → info.own ≡ own_of (declared_members units) class
own_at units class info there lt =
    same_Some info.own (own_of (declared_members units) class)
    (sym (slice_get-map (λ (i : PlainClassInfo). i.own) (class_infos units) class ∙ ap (option_map (λ (i : PlainClassInfo). i.own)) there)
    ∙ ap (λ (l : List PlainOwnMembers). slice_get l class) (own_in_infos units)
    ∙ slice_get-map (own_of (declared_members units)) (range_with_len 0 (prelude_count + length (declared_classes units))) class
    ∙ ap (option_map (own_of (declared_members units))) (from_start (prelude_count + length (declared_classes units)) class (omega (arith, lt, length_parents units))))

-- ---- the first of the own members

one_further : (k : ℕ) (r o : Option ℕ) → r ≡ option_map (λ i. k + 1 + i) o → r ≡ option_map (λ i. k + i) (option_map suc o)
one_further k r None e = e
one_further k r (Some i) e = let next : k + 1 + i ≡ k + suc i = omega arith in e ∙ ap Some next

pub first_own : (test q : Declared → Bool) (p : ℕ → Bool) (k : ℕ) (ms : List Declared) → ((i : ℕ) (d : Declared) → slice_get ms i ≡ Some d → p (k + i) ≡ q d)
    → find p (places_from k test ms) ≡ option_map (λ i. k + i) (number_where (λ d. test d && q d) ms)
first_own test q p k [] same = refl
first_own test q p k (d ∷ ms) same =
    by (test d) (q d) (number_where (λ d. test d && q d) ms) here
    (first_own test q p (k + 1) ms (λ i e there. let next : k + 1 + i ≡ k + suc i = omega arith in ap p next ∙ same (suc i) e there))
  where
    here : p k ≡ q d
    here = let start : k ≡ k + 0 = omega arith in ap p start ∙ same 0 d refl

    by : (t u : Bool) (o : Option ℕ) → p k ≡ u → find p (places_from (k + 1) test ms) ≡ option_map (λ i. k + 1 + i) o
        → find p (cond t (k ∷ places_from (k + 1) test ms) (places_from (k + 1) test ms)) ≡ option_map (λ i. k + i) (cond (t && u) (Some 0) (option_map suc o))
    by true true o e rest = let start : k ≡ k + 0 = omega arith in ap (λ b. cond b (Some k) (find p (places_from (k + 1) test ms))) e ∙ ap Some start
    by true false o e rest = ap (λ b. cond b (Some k) (find p (places_from (k + 1) test ms))) e ∙ one_further k (find p (places_from (k + 1) test ms)) o rest
    by false u o e rest = one_further k (find p (places_from (k + 1) test ms)) o rest

same_number : (o : Option ℕ) → option_map (λ i. 0 + i) o ≡ o
same_number None = refl
same_number (Some k) = let same : 0 + k ≡ k = omega arith in ap Some same

pub first_of_own : (test q : Declared → Bool) (p : ℕ → Bool) (ms : List Declared) → ((i : ℕ) (d : Declared) → slice_get ms i ≡ Some d → p i ≡ q d)
    → find p (places_from 0 test ms) ≡ number_where (λ d. test d && q d) ms
first_of_own test q p ms same =
    first_own test q p 0 ms (λ i d there. let start : 0 + i ≡ i = omega arith in ap p start ∙ same i d there) ∙ same_number (number_where (λ d. test d && q d) ms)

-- ---- one class more

same_class : (a b : ℕ) → nat_eq a b ≡ true → b ≡ a
same_class a b e = grind (arith, nat_tests)

pub none_below : (f : Declared → Bool) (ms : List Declared) → number_where (λ d. nat_lt d.class 0 && f d) ms ≡ None
none_below f ms = none_first (λ d. nat_lt d.class 0 && f d) ms (λ i d there. let none : nat_lt d.class 0 ≡ false = grind (arith, nat_tests) in ap (λ b. b && f d) none)

pub one_class_more : (f : Declared → Bool) (ms : List Declared) (c : ℕ)
    → number_where (λ d. nat_lt d.class (c + 1) && f d) ms ≡ least (number_where (λ d. nat_lt d.class c && f d) ms) (number_where (λ d. nat_eq c d.class && f d) ms)
one_class_more f ms c =
    first_same (λ d. nat_lt d.class (c + 1) && f d) (λ d. (nat_lt d.class c && f d) || (nat_eq c d.class && f d)) ms (λ i d there. by d.class (f d))
    ∙ first_of_two (λ d. nat_lt d.class c && f d) (λ d. nat_eq c d.class && f d) ms
  where
    over : (n : ℕ) → nat_lt n (c + 1) ≡ (nat_lt n c || nat_eq c n)
    over n = grind (arith, nat_tests)

    spread : (a b t : Bool) → ((a || b) && t) ≡ ((a && t) || (b && t))
    spread true true true = refl
    spread true true false = refl
    spread true false true = refl
    spread true false false = refl
    spread false true true = refl
    spread false true false = refl
    spread false false true = refl
    spread false false false = refl

    by : (n : ℕ) (t : Bool) → (nat_lt n (c + 1) && t) ≡ ((nat_lt n c && t) || (nat_eq c n && t))
    by n t = ap (λ b. b && t) (over n) ∙ spread (nat_lt n c) (nat_eq c n) t

pub all_below : (f : Declared → Bool) (ms : List Declared) (count : ℕ) → ((i : ℕ) (d : Declared) → slice_get ms i ≡ Some d → d.class < count)
    → number_where (λ d. nat_lt d.class count && f d) ms ≡ number_where f ms
all_below f ms count below =
    first_same (λ d. nat_lt d.class count && f d) f ms (λ i d there. let lt = below i d there in let is : nat_lt d.class count ≡ true = grind (arith, nat_tests) in ap (λ b. b && f d) is)

-- what holds of the members of the class alone
pub of_class : (f g : Declared → Bool) (ms : List Declared) (c : ℕ) → ((i : ℕ) (d : Declared) → slice_get ms i ≡ Some d → d.class ≡ c → f d ≡ g d)
    → number_where (λ d. nat_eq c d.class && f d) ms ≡ number_where (λ d. nat_eq c d.class && g d) ms
of_class f g ms c same = first_same (λ d. nat_eq c d.class && f d) (λ d. nat_eq c d.class && g d) ms (λ i d there. by i d there (nat_eq c d.class) refl)
  where
    by : (i : ℕ) (d : Declared) → slice_get ms i ≡ Some d → (b : Bool) → nat_eq c d.class ≡ b → (b && f d) ≡ (b && g d)
    by i d there true is = same i d there (same_class c d.class is)
    by i d there false is = refl

pub none_of_class : (f : Declared → Bool) (ms : List Declared) (c : ℕ) → ((i : ℕ) (d : Declared) → slice_get ms i ≡ Some d → d.class ≡ c → f d ≡ false)
    → number_where (λ d. nat_eq c d.class && f d) ms ≡ None
none_of_class f ms c fails = none_first (λ d. nat_eq c d.class && f d) ms (λ i d there. by i d there (nat_eq c d.class) refl)
  where
    by : (i : ℕ) (d : Declared) → slice_get ms i ≡ Some d → (b : Bool) → nat_eq c d.class ≡ b → (b && f d) ≡ false
    by i d there true is = fails i d there (same_class c d.class is)
    by i d there false is = refl

-- ---- a class's name, a dot and a member's name

pub same_front : (front m n : List ℕ) → bytes_eq (member_word front m) (member_word front n) ≡ bytes_eq m n
same_front [] m n = refl
same_front (x ∷ xs) m n = let same : nat_eq x x ≡ true = eq-eqb x x refl in ap (λ b. b && bytes_eq (member_word xs m) (member_word xs n)) same ∙ same_front xs m n

not_equal : (v w : List ℕ) → (v ≡ w → ⊥) → bytes_eq v w ≡ false
not_equal v w apart = elim (cases_Bool (bytes_eq v w)) [
  | inl same ↦ absurd (apart (same_bytes v w same))
  | inr other ↦ other
]

-- ---- fields and static methods

module _ (units : List JavaUnit) (w : List ℕ) where
  -- where the word is the name of the class, a dot and this
  module _ (c : ℕ) (name : List ℕ) (is : member_word (class_called units c) name ≡ w) where
    behind_class : (d : Declared) → d.class ≡ c → bytes_eq (member_word (class_called units d.class) d.name.name) w ≡ bytes_eq d.name.name name
    behind_class d same =
        ap (λ (n : ℕ). bytes_eq (member_word (class_called units n) d.name.name) w) same
        ∙ ap (bytes_eq (member_word (class_called units c) d.name.name)) (sym is)
        ∙ same_front (class_called units c) d.name.name name

    pub own_field : (p : ℕ → Bool) → ((i : ℕ) (d : Declared) → slice_get (fields units) i ≡ Some d → p i ≡ bytes_eq d.name.name name)
        → find p (places_from 0 (is_of c) (fields units)) ≡ number_where (λ d. nat_eq c d.class && names_field units w d) (fields units)
    own_field p tells =
        first_of_own (is_of c) (λ d. bytes_eq d.name.name name) p (fields units) tells
        ∙ of_class (λ d. bytes_eq d.name.name name) (names_field units w) (fields units) c (λ i d there same. sym (behind_class d same))

    pub own_static : (p : ℕ → Bool) → ((i : ℕ) (d : Declared) → slice_get (routines units) i ≡ Some d → p i ≡ (is_static_kind d.kind && bytes_eq d.name.name name))
        → find p (places_from 0 (is_method_of c) (routines units)) ≡ number_where (λ d. nat_eq c d.class && names_static units w d) (routines units)
    own_static p tells =
        first_of_own (is_method_of c) (λ d. is_static_kind d.kind && bytes_eq d.name.name name) p (routines units) tells
        ∙ first_same (λ d. is_method_of c d && (is_static_kind d.kind && bytes_eq d.name.name name)) (λ d. nat_eq c d.class && (is_method_kind d.kind && (is_static_kind d.kind && bytes_eq d.name.name name))) (routines units)
        (λ i d there. regroup (is_method_kind d.kind) (nat_eq c d.class) (is_static_kind d.kind && bytes_eq d.name.name name))
        ∙ of_class (λ d. is_method_kind d.kind && (is_static_kind d.kind && bytes_eq d.name.name name)) (names_static units w) (routines units) c
        (λ i d there same. of_kind d.kind (kept (λ (m : Declared). is_routine m.kind) (declared_members units) i d there).passes (bytes_eq d.name.name name) (bytes_eq (member_word (class_called units d.class) d.name.name) w) (sym (behind_class d same)))
      where
        regroup : (a b t : Bool) → ((a && b) && t) ≡ (b && (a && t))
        regroup true true t = refl
        regroup true false t = refl
        regroup false true t = refl
        regroup false false t = refl

        of_kind : (k : Kind) → is_routine k ≡ true → (s t : Bool) → s ≡ t → (is_method_kind k && (is_static_kind k && s)) ≡ ((is_static_kind k && not (constructs k)) && t)
        of_kind (FieldOf f) r s t e = absurd (true≢false (sym r))
        of_kind (ConstantOf n) r s t e = absurd (true≢false (sym r))
        of_kind (RoutineOf m) r s t e = by (builds m.result) m.is_static
          where
            by : (a b : Bool) → (not a && (b && s)) ≡ ((b && not a) && t)
            by true true = refl
            by true false = refl
            by false true = e
            by false false = refl

  -- where it does not begin with the name of the class and a dot
  module _ (c : ℕ) (none : (name : List ℕ) → member_word (class_called units c) name ≡ w → ⊥) where
    no_member : (d : Declared) → d.class ≡ c → bytes_eq (member_word (class_called units d.class) d.name.name) w ≡ false
    no_member d same =
        ap (λ (n : ℕ). bytes_eq (member_word (class_called units n) d.name.name) w) same ∙ not_equal (member_word (class_called units c) d.name.name) w (none d.name.name)

    pub no_field_of : number_where (λ d. nat_eq c d.class && names_field units w d) (fields units) ≡ None
    no_field_of = none_of_class (names_field units w) (fields units) c (λ i d there same. no_member d same)

    pub no_static_of : number_where (λ d. nat_eq c d.class && names_static units w d) (routines units) ≡ None
    no_static_of = none_of_class (names_static units w) (routines units) c (λ i d there same. fails (is_static_kind d.kind && not (constructs d.kind)) (bytes_eq (member_word (class_called units d.class) d.name.name) w) (no_member d same))
      where
        fails : (a b : Bool) → b ≡ false → (a && b) ≡ false
        fails true b e = e
        fails false b e = refl

-- ---- the numbers of own members

pub places_below : (test : Declared → Bool) (k : ℕ) (ms : List Declared) → All (λ n. n < k + length ms) (places_from k test ms)
places_below test k [] = All-nil (λ n. n < k + 0)
places_below test k (d ∷ ms) = by (test d) (λ i e lt. let below = places_below test (k + 1) ms i e lt in omega (arith, below))
  where
    by : (b : Bool) → All (λ n. n < k + suc (length ms)) (places_from (k + 1) test ms) → All (λ n. n < k + suc (length ms)) (cond b (k ∷ places_from (k + 1) test ms) (places_from (k + 1) test ms))
    by true all = All-cons (λ n. n < k + suc (length ms)) k (places_from (k + 1) test ms) (omega arith) all
    by false all = all
