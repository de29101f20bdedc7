-- The classes of files put together from their heads, from what they extend and from their own members.
use Rattle.std.proofs.Common.{◌≡◌, ℕ, zero, suc, ◌+◌, ◌<◌, ◌≤◌, List, [], ◌∷◌, ◌++◌, length, map, replicate, Option, refl, sym, ap, ap₂, ◌∙◌, arith, All}
use Rattle.std.specs.List.{AllByRecursion, enumerate_from, range_with_len}
use Rattle.std.proofs.lemmas.List.{map-append}
use Rattle.std.proofs.lemmas.List.Elements.{All-from_recursion}
use Rattle.jd_syntax.specs.JavaTypes.{PlainIdentifier}
use Rattle.jd_syntax.specs.JavaTrees.{JavaMember, FieldMember, ConstantMember, MethodMember, JavaUnit}
use Rattle.jd_jclasses.specs.Classes.{DeclaredClass, class_names, declared_classes, parent_by, parents, prelude, prelude_count}
use Rattle.jd_jclasses.specs.Members.{Kind, Declared, declared_members, of_member, of_members, of_classes}
use Rattle.jd_jinfos.specs.Infos.{PlainClassInfo, PlainOwnMembers, class_infos, declared_info, own_from, own_nothing, own_of, own_of_each, prelude_info}
use Rattle.jd_jinfos.specs.Stages.{PlainHead, class_heads, classes_of, declared_head, next_field, next_routine, prelude_head}
use Rattle.jd_jinfos.proofs.Owning.{of_other}

-- ---- the classes of members

all_behind : (P : Declared → Type 0) (front behind : List Declared) → AllByRecursion P front → AllByRecursion P behind → AllByRecursion P (front ++ behind)
all_behind P [] behind p q = q
all_behind P (m ∷ ms) behind p q = (p.0, all_behind P ms behind p.1 q)

all_then : (P Q : Declared → Type 0) (ms : List Declared) → ((m : Declared) → P m → Q m) → AllByRecursion P ms → AllByRecursion Q ms
all_then P Q [] h p = tt
all_then P Q (m ∷ ms) h p = (h m p.0, all_then P Q ms h p.1)

abbrev IsOf : ℕ → Declared → Type 0
IsOf class m = m.class ≡ class

abbrev IsFrom : ℕ → Declared → Type 0
IsFrom n m = n ≤ m.class

-- a member of one of so many classes, of which the first has this number
abbrev IsBetween : ℕ → ℕ → Declared → Type 0
IsBetween n count m = (n ≤ m.class) × (m.class < n + count)

names_of_class : (class file place : ℕ) (kind : Kind) (names : List PlainIdentifier) → AllByRecursion (IsOf class) (map (λ x. record { class = class; file = file; member = place; name = x; kind = kind }) names)
names_of_class class file place kind [] = tt
names_of_class class file place kind (x ∷ xs) = (refl, names_of_class class file place kind xs)

member_of_class : (class file place : ℕ) (m : JavaMember) → AllByRecursion (IsOf class) (of_member class file place m)
member_of_class class file place (FieldMember f) = names_of_class class file place _ f.names
member_of_class class file place (ConstantMember c) = (refl, tt)
member_of_class class file place (MethodMember m) = (refl, tt)

members_of_class : (class file place : ℕ) (ms : List JavaMember) → AllByRecursion (IsOf class) (of_members class file place ms)
members_of_class class file place [] = tt
members_of_class class file place (m ∷ ms) = all_behind (IsOf class) (of_member class file place m) (of_members class file (suc place) ms) (member_of_class class file place m) (members_of_class class file (suc place) ms)

members_between : (n : ℕ) (ds : List DeclaredClass) → AllByRecursion (IsBetween n (length ds)) (of_classes n ds)
members_between n [] = tt
members_between n (d ∷ ds) =
    all_behind (IsBetween n (suc (length ds))) (of_members n d.file 0 d.tree.members) (of_classes (suc n) ds)
    (all_then (IsOf n) (IsBetween n (suc (length ds))) (of_members n d.file 0 d.tree.members) (λ m same. (omega (arith, same), omega (arith, same))) (members_of_class n d.file 0 d.tree.members))
    (all_then (IsBetween (suc n) (length ds)) (IsBetween n (suc (length ds))) (of_classes (suc n) ds) (λ m between. let least = between.0 in let most = between.1 in (omega (arith, least), omega (arith, most))) (members_between (suc n) ds))

-- each member is one of a class that has a number
pub members_have_classes : (units : List JavaUnit) → All (λ m. m.class < prelude_count + length (declared_classes units)) (declared_members units)
members_have_classes units =
    let count = length (declared_classes units) in
    All-from_recursion (λ (m : Declared). m.class < prelude_count + count) (declared_members units)
    (all_then (IsBetween prelude_count count) (λ m. m.class < prelude_count + count) (declared_members units) (λ m between. between.1) (members_between prelude_count (declared_classes units)))

-- ---- the classes that are always there declare nothing

nothing_of : (f r c : ℕ) (ms : List Declared) → AllByRecursion (IsFrom (c + 1)) ms → own_from f r ms c ≡ own_nothing
nothing_of f r c [] p = refl
nothing_of f r c (m ∷ ms) p =
    of_other f r c m ms (λ same. let below = p.0 in omega (arith, below, same))
    ∙ nothing_of (next_field f m.kind) (next_routine r m.kind) c ms p.1

nothing_below : (n k : ℕ) (ms : List Declared) → AllByRecursion (IsFrom (n + k)) ms → map (own_of ms) (range_with_len n k) ≡ replicate k own_nothing
nothing_below n zero ms p = refl
nothing_below n (suc k) ms p =
    ap₂ (λ (x : PlainOwnMembers) xs. x ∷ xs)
    (nothing_of 0 0 n ms (all_then (IsFrom (n + suc k)) (IsFrom (n + 1)) ms (λ m least. omega (arith, least)) p))
    (nothing_below (n + 1) k ms (all_then (IsFrom (n + suc k)) (IsFrom (n + 1 + k)) ms (λ m least. omega (arith, least)) p))

range_behind : (n i k : ℕ) → range_with_len n (i + k) ≡ range_with_len n i ++ range_with_len (n + i) k
range_behind n zero k =
    let start : n ≡ n + 0 = omega arith in
    let count : 0 + k ≡ k = omega arith in
    ap₂ range_with_len start count
range_behind n (suc i) k =
    let next : n + 1 + i ≡ n + suc i = omega arith in
    let more : suc i + k ≡ suc (i + k) = omega arith in
    ap (range_with_len n) more
    ∙ ap (λ l. n ∷ l) (range_behind (n + 1) i k ∙ ap (λ (m : ℕ). range_with_len (n + 1) i ++ range_with_len m k) next)

each_own : (units : List JavaUnit) → own_of_each (declared_members units) (prelude_count + length (declared_classes units)) ≡ replicate prelude_count own_nothing ++ map (own_of (declared_members units)) (range_with_len prelude_count (length (declared_classes units)))
each_own units =
    let ms = declared_members units in
    ap (map (own_of ms)) (range_behind 0 prelude_count (length (declared_classes units)))
    ∙ map-append (own_of ms) (range_with_len 0 prelude_count) (range_with_len prelude_count (length (declared_classes units)))
    ∙ ap (λ l. l ++ map (own_of ms) (range_with_len prelude_count (length (declared_classes units))))
    (nothing_below 0 prelude_count ms (all_then (IsBetween prelude_count (length (declared_classes units))) (IsFrom prelude_count) ms (λ m between. between.0) (members_between prelude_count (declared_classes units))))

-- ---- the classes one by one

of_prelude : (ps : List (List ℕ × Option ℕ)) (hs : List PlainHead) (qs : List (Option ℕ)) (os : List PlainOwnMembers)
    → classes_of (map prelude_head (map (λ p. p.0) ps) ++ hs) (map (λ p. p.1) ps ++ qs) (replicate (length ps) own_nothing ++ os) ≡ map prelude_info ps ++ classes_of hs qs os
of_prelude [] hs qs os = refl
of_prelude (p ∷ ps) hs qs os = ap (λ (l : List PlainClassInfo). prelude_info p ∷ l) (of_prelude ps hs qs os)

of_files : (units : List JavaUnit) (n : ℕ) (ds : List DeclaredClass)
    → classes_of (map declared_head ds) (map (λ d. parent_by (class_names units) d.tree.parent) ds) (map (own_of (declared_members units)) (range_with_len n (length ds))) ≡ map (declared_info units) (enumerate_from n ds)
of_files units n [] = refl
of_files units n (d ∷ ds) = ap (λ (l : List PlainClassInfo). declared_info units (n, d) ∷ l) (of_files units (n + 1) ds)

pub all_classes : (units : List JavaUnit) (heads : List PlainHead) (ps : List (Option ℕ)) (os : List PlainOwnMembers) → heads ≡ class_heads units → ps ≡ parents units → os ≡ own_of_each (declared_members units) (prelude_count + length (declared_classes units)) → classes_of heads ps os ≡ class_infos units
all_classes units heads ps os are_heads are_parents are_own =
    let ds = declared_classes units in
    let rest = map (own_of (declared_members units)) (range_with_len prelude_count (length ds)) in
    ap₂ (λ (hs : List PlainHead) (qs : List (Option ℕ)). classes_of hs qs os) are_heads are_parents
    ∙ ap (classes_of (class_heads units) (parents units)) (are_own ∙ each_own units)
    ∙ of_prelude prelude (map declared_head ds) (map (λ d. parent_by (class_names units) d.tree.parent) ds) rest
    ∙ ap (λ (l : List PlainClassInfo). map prelude_info prelude ++ l) (of_files units prelude_count ds)

-- ---- what the classes declare themselves

own_from_place : (units : List JavaUnit) (n : ℕ) (ds : List DeclaredClass)
    → map (λ i. i.own) (map (declared_info units) (enumerate_from n ds)) ≡ map (own_of (declared_members units)) (range_with_len n (length ds))
own_from_place units n [] = refl
own_from_place units n (d ∷ ds) = ap (λ (l : List PlainOwnMembers). own_of (declared_members units) n ∷ l) (own_from_place units (n + 1) ds)

-- each class has what it declares itself, also one that is always there
pub own_in_infos : (units : List JavaUnit) → map (λ i. i.own) (class_infos units) ≡ own_of_each (declared_members units) (prelude_count + length (declared_classes units))
own_in_infos units = ap (λ (l : List PlainOwnMembers). replicate prelude_count own_nothing ++ l) (own_from_place units prelude_count (declared_classes units)) ∙ sym (each_own units)
