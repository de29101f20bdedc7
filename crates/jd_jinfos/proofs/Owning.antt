-- What each class declares itself, by what one member adds to its class.
use Rattle.std.proofs.Common.{◌≡◌, ℕ, suc, ◌+◌, ◌<◌, ◌≤◌, true, false, List, [], ◌∷◌, length, map, drop, replicate, get_or, set, Option, Some, None, nat_eq, refl, sym, ap, ap₂, ◌∙◌, subst, inl, inr, arith, append_assoc, All}
use Rattle.std.specs.List.{range_with_len}
use Rattle.std.proofs.lemmas.Bool.{cases_Bool, cases_eq, eq-eqb, ne_eqb}
use Rattle.std.proofs.lemmas.List.{append-nil, get_or-map, get_or-replicate, get_or-set_other, get_or-set_same, length-map, length-set, length-replicate}
use Rattle.jd_syntax.specs.JavaTypes.{PlainIdentifier}
use Rattle.jd_jclasses.specs.Members.{Kind, FieldOf, ConstantOf, RoutineOf, Declared, builds}
use Rattle.jd_syntax.proofs.Lists.{at_item, rest_more}
use Rattle.jd_jlists.specs.declared.member.MemberOf.{MemberOf}
use Rattle.jd_jlists.specs.Views.{member_of_view}
use Rattle.jd_jinfos.specs.declared.info.OwnMembers.{OwnMembers}
use Rattle.jd_jinfos.specs.Infos.{PlainOwnMembers, own_from, own_nothing, own_of, own_of_each}
use Rattle.jd_jinfos.specs.Stages.{first_of, member_alone, next_field, next_routine, with_others}
use Rattle.jd_jinfos.specs.Views.{own_view}

-- ---- members of one class put together

first_alone : (n : Option ℕ) → first_of n None ≡ n
first_alone None = refl
first_alone (Some n) = refl

first_of_three : (a b c : Option ℕ) → first_of (first_of a b) c ≡ first_of a (first_of b c)
first_of_three None b c = refl
first_of_three (Some n) b c = refl

pub with_nothing : (o : PlainOwnMembers) → with_others o own_nothing ≡ o
with_nothing o = simp (append-nil, first_alone)

with_three : (a b c : PlainOwnMembers) → with_others (with_others a b) c ≡ with_others a (with_others b c)
with_three a b c = simp (append_assoc, first_of_three)

-- ---- one member more

abbrev declared : ℕ → ℕ → ℕ → PlainIdentifier → Kind → Declared
declared class file place name kind = record { class = class; file = file; member = place; name = name; kind = kind }

module _ (f r c class file place : ℕ) (name : PlainIdentifier) (ms : List Declared) where
  routine_of_it : (m : _) → nat_eq c class ≡ true → own_from f r (declared class file place name (RoutineOf m) ∷ ms) c ≡ with_others (member_alone f r (declared class file place name (RoutineOf m))) (own_from f (r + 1) ms c)
  routine_of_it m same = elim (cases_Bool (builds m.result)) [
    | inl builds_it ↦ rw (builds_it, same) refl
    | inr builds_none ↦ rw (builds_none, same) refl
  ]

  one_of_it : (k : Kind) → nat_eq c class ≡ true → own_from f r (declared class file place name k ∷ ms) c ≡ with_others (member_alone f r (declared class file place name k)) (own_from (next_field f k) (next_routine r k) ms c)
  one_of_it (FieldOf t) same = rw same refl
  one_of_it (ConstantOf n) same = rw same refl
  one_of_it (RoutineOf m) same = routine_of_it m same

  routine_of_other : (m : _) → nat_eq c class ≡ false → own_from f r (declared class file place name (RoutineOf m) ∷ ms) c ≡ own_from f (r + 1) ms c
  routine_of_other m other = elim (cases_Bool (builds m.result)) [
    | inl builds_it ↦ rw (builds_it, other) refl
    | inr builds_none ↦ rw (builds_none, other) refl
  ]

  one_of_other : (k : Kind) → nat_eq c class ≡ false → own_from f r (declared class file place name k ∷ ms) c ≡ own_from (next_field f k) (next_routine r k) ms c
  one_of_other (FieldOf t) other = rw other refl
  one_of_other (ConstantOf n) other = rw other refl
  one_of_other (RoutineOf m) other = routine_of_other m other

pub of_this : (f r c : ℕ) (m : Declared) (ms : List Declared) → c ≡ m.class → own_from f r (m ∷ ms) c ≡ with_others (member_alone f r m) (own_from (next_field f m.kind) (next_routine r m.kind) ms c)
of_this f r c m ms same = one_of_it f r c m.class m.file m.member m.name ms m.kind (eq-eqb c m.class same)

pub of_other : (f r c : ℕ) (m : Declared) (ms : List Declared) → (c ≡ m.class → ⊥) → own_from f r (m ∷ ms) c ≡ own_from (next_field f m.kind) (next_routine r m.kind) ms c
of_other f r c m ms other = one_of_other f r c m.class m.file m.member m.name ms m.kind (ne_eqb c m.class other)

-- ---- what is made so far, and what the rest adds

abbrev pub IsMade : List OwnMembers → ℕ → ℕ → List Declared → List Declared → Type 0
IsMade own f r rest ms = (c : ℕ) (o : OwnMembers) → c < length own → with_others (own_view (get_or own c o)) (own_from f r rest c) ≡ own_of ms c

pub at_first : (own : List OwnMembers) (n : ℕ) (ms : List Declared) → map own_view own ≡ replicate n own_nothing → IsMade own 0 0 ms ms
at_first own n ms none = λ c o below.
    let few : length own ≡ n = sym (length-map own own_view) ∙ ap length none ∙ length-replicate n own_nothing in
    let empty : own_view (get_or own c o) ≡ own_nothing =
    sym (get_or-map own_view own c o own_nothing below) ∙ ap (λ (l : List PlainOwnMembers). get_or l c own_nothing) none ∙ get_or-replicate n c own_nothing own_nothing (omega (arith, few, below)) in
    ap (λ (x : PlainOwnMembers). with_others x (own_of ms c)) empty

pub one_more : (own new : List OwnMembers) (f r : ℕ) (m : Declared) (rest ms : List Declared) (old added : OwnMembers) → m.class < length own → new ≡ set own m.class added → old ≡ get_or own m.class old
    → own_view added ≡ with_others (own_view old) (member_alone f r m) → IsMade own f r (m ∷ rest) ms → IsMade new (next_field f m.kind) (next_routine r m.kind) rest ms
one_more own new f r m rest ms old added within made was adds before = λ c o below.
    let below_old : c < length own = omega (arith, below, ap length made, length-set own m.class added) in
    let others = own_from (next_field f m.kind) (next_routine r m.kind) rest c in
    elim (cases_eq c m.class) [
      | inl same ↦
          let here : get_or new c o ≡ added = ap₂ (λ (l : List OwnMembers) (k : ℕ). get_or l k o) made same ∙ get_or-set_same own m.class added o within in
          let there : get_or own c old ≡ old = ap (λ (k : ℕ). get_or own k old) same ∙ sym was in
          ap (λ (x : OwnMembers). with_others (own_view x) others) here
          ∙ ap (λ (x : PlainOwnMembers). with_others x others) adds
          ∙ with_three (own_view old) (member_alone f r m) others
          ∙ ap (with_others (own_view old)) (sym (of_this f r c m rest same))
          ∙ ap (λ (x : OwnMembers). with_others (own_view x) (own_from f r (m ∷ rest) c)) (sym there)
          ∙ before c old below_old
      | inr other ↦
          let here : get_or new c o ≡ get_or own c o = ap (λ (l : List OwnMembers). get_or l c o) made ∙ get_or-set_other own m.class c added o other in
          ap₂ with_others (ap own_view here) (sym (of_other f r c m rest other))
          ∙ before c o below_old
    ]

each_from : (n : ℕ) (own : List OwnMembers) (g : ℕ → PlainOwnMembers) → ((k : ℕ) (o : OwnMembers) → k < length own → own_view (get_or own k o) ≡ g (n + k)) → map own_view own ≡ map g (range_with_len n (length own))
each_from n [] g is = refl
each_from n (o ∷ own) g is =
    let start : n + 0 ≡ n = omega arith in
    ap₂ (λ x xs. x ∷ xs) (is 0 o (omega arith) ∙ ap g start)
    (each_from (n + 1) own g (λ k d below.
    let next : n + suc k ≡ n + 1 + k = omega arith in
    is (suc k) d (omega (arith, below)) ∙ ap g next))

pub at_last : (own : List OwnMembers) (n f r : ℕ) (ms : List Declared) → length own ≡ n → IsMade own f r [] ms → map own_view own ≡ own_of_each ms n
at_last own n f r ms few made =
    each_from 0 own (own_of ms) (λ k o below.
    let same : k ≡ 0 + k = omega arith in
    sym (with_nothing (own_view (get_or own k o))) ∙ made k o below ∙ ap (own_of ms) same)
    ∙ ap (λ (k : ℕ). own_of_each ms k) few

-- ---- in the code's list of members

pub how_many : (own : List OwnMembers) (n : ℕ) → map own_view own ≡ replicate n own_nothing → length own ≡ n
how_many own n none = sym (length-map own own_view) ∙ ap length none ∙ length-replicate n own_nothing

pub has_class : (classes : ℕ) (members : List MemberOf) (i : ℕ) (m : MemberOf) → m ≡ get_or members i m → i < length members → All (λ d. d.class < classes) (map member_of_view members) → m.class < classes
has_class classes members i m is lt all = at_item (λ (d : Declared). d.class < classes) member_of_view members i m is lt all

-- one number more at most
pub next_fields : (n next i : ℕ) (k : Kind) → next ≡ next_field n k → n ≤ i → next ≤ i + 1
next_fields n next i (FieldOf t) is few = omega (arith, is, few)
next_fields n next i (ConstantOf v) is few = omega (arith, is, few)
next_fields n next i (RoutineOf m) is few = omega (arith, is, few)

pub next_routines : (n next i : ℕ) (k : Kind) → next ≡ next_routine n k → n ≤ i → next ≤ i + 1
next_routines n next i (FieldOf t) is few = omega (arith, is, few)
next_routines n next i (ConstantOf v) is few = omega (arith, is, few)
next_routines n next i (RoutineOf m) is few = omega (arith, is, few)

pub one_member_more : (members : List MemberOf) (i : ℕ) (m : MemberOf) (own : List OwnMembers) (f r next_f next_r : ℕ) (old added : OwnMembers) → m ≡ get_or members i m → i < length members → m.class < length own → old ≡ get_or own m.class old
    → own_view added ≡ with_others (own_view old) (member_alone f r (member_of_view m)) → next_f ≡ next_field f (member_of_view m).kind → next_r ≡ next_routine r (member_of_view m).kind
    → IsMade own f r (map member_of_view (drop i members)) (map member_of_view members) → IsMade (set own m.class added) next_f next_r (map member_of_view (drop (i + 1) members)) (map member_of_view members)
one_member_more members i m own f r next_f next_r old added is lt within was adds is_f is_r before =
    let ms = map member_of_view members in
    let rest = map member_of_view (drop (i + 1) members) in
    let here : map member_of_view (drop i members) ≡ member_of_view m ∷ rest = rest_more member_of_view members i m lt ∙ ap (λ (x : MemberOf). member_of_view x ∷ rest) (sym is) in
    let step = one_more own (set own m.class added) f r (member_of_view m) rest ms old added within refl was adds (subst (λ (l : List Declared). IsMade own f r l ms) here before) in
    subst (λ (n : ℕ). IsMade (set own m.class added) n next_r rest ms) (sym is_f) (subst (λ (n : ℕ). IsMade (set own m.class added) (next_field f (member_of_view m).kind) n rest ms) (sym is_r) step)
