-- What is refused as the second of its class: members of one key.
use Rattle.std.proofs.Common.{◌≡◌, ℕ, ◌+◌, ◌<◌, ◌⊎◌, Bool, true, false, cond, List, Option, Some, None, length, get_or, slice_index, refl, sym, ap, ◌∙◌, subst, inl, inr, arith}
use Rattle.std.proofs.lemmas.Grind.{get_or_default_zero}
use Rattle.std.proofs.lemmas.Option.{none-some, same_Some, slice_get_within}
use Rattle.std.specs.List.{slice_get}
use Rattle.jd_syntax.specs.JavaTrees.{JavaUnit}
use Rattle.jd_jclasses.specs.Members.{Kind, FieldOf, ConstantOf, RoutineOf, Declared, declared_members, is_variable, is_constructor, is_method}
use Rattle.jd_jclasses.specs.Numbers.{AreNumbers}
use Rattle.jd_jclasses.specs.Refusals.{EarlierMember, FirstAt, Nowhere, SameName}
use Rattle.jd_jclashes.specs.declared.compared.Compared.{Compared}
use Rattle.jd_jclashes.specs.declared.compared.Compared.TheVariants.{Variables, Methods}
use Rattle.jd_jclashes.specs.Repeats.{IsSecond, repeat_key}
use Rattle.jd_jclashes.proofs.Firsts.{first_too, nowhere_too}
use Rattle.jd_jclashes.proofs.Repeating.{IsRepeat}

-- ---- keys

-- two with one key are variables of one number, or both constructors
variables_alike : (v c w d : Bool) (n m count k : ℕ) → n < count → m < count → cond v (Some n) (cond c (Some count) None) ≡ Some k → cond w (Some m) (cond d (Some count) None) ≡ Some k
    → ((v ≡ true) × (w ≡ true) × (n ≡ m)) ⊎ ((c ≡ true) × (d ≡ true))
variables_alike true c true d n m count k lt less p q = inl (refl, refl, same_Some n k p ∙ sym (same_Some m k q))
variables_alike true c false true n m count k lt less p q = absurd (omega (arith, lt, same_Some n k p, same_Some count k q))
variables_alike true c false false n m count k lt less p q = absurd (none-some k q)
variables_alike false true true d n m count k lt less p q = absurd (omega (arith, less, same_Some count k p, same_Some m k q))
variables_alike false true false true n m count k lt less p q = inr (refl, refl)
variables_alike false true false false n m count k lt less p q = absurd (none-some k q)
variables_alike false false w d n m count k lt less p q = absurd (none-some k p)

methods_alike : (v w : Bool) (n m k : ℕ) → cond v (Some n) None ≡ Some k → cond w (Some m) None ≡ Some k → (v ≡ true) × (w ≡ true) × (n ≡ m)
methods_alike true true n m k p q = (refl, refl, same_Some n k p ∙ sym (same_Some m k q))
methods_alike true false n m k p q = absurd (none-some k q)
methods_alike false w n m k p q = absurd (none-some k p)

no_variable : (kind : Kind) → is_constructor kind ≡ true → is_variable kind ≡ false
no_variable (FieldOf t) h = sym h
no_variable (ConstantOf n) h = sym h
no_variable (RoutineOf m) h = refl

of_variable : (kind : Kind) (n count : ℕ) → is_variable kind ≡ true → repeat_key Variables kind n count ≡ Some n
of_variable kind n count h = ap (λ (b : Bool). cond b (Some n) (cond (is_constructor kind) (Some count) None)) h

of_constructor : (kind : Kind) (n count : ℕ) → is_constructor kind ≡ true → repeat_key Variables kind n count ≡ Some count
of_constructor kind n count h =
    ap (λ (b : Bool). cond b (Some n) (cond (is_constructor kind) (Some count) None)) (no_variable kind h)
    ∙ ap (λ (b : Bool). cond b (Some count) None) h

of_method : (kind : Kind) (n count : ℕ) → is_method kind ≡ true → repeat_key Methods kind n count ≡ Some n
of_method kind n count h = ap (λ (b : Bool). cond b (Some n) None) h

variable_small : (v c : Bool) (n count k : ℕ) → n < count → cond v (Some n) (cond c (Some count) None) ≡ Some k → k < count + 1
variable_small true c n count k lt h = omega (arith, lt, same_Some n k h)
variable_small false true n count k lt h = omega (arith, same_Some count k h)
variable_small false false n count k lt h = absurd (none-some k h)

method_small : (v : Bool) (n count k : ℕ) → n < count → cond v (Some n) None ≡ Some k → k < count + 1
method_small true n count k lt h = omega (arith, lt, same_Some n k h)
method_small false n count k lt h = absurd (none-some k h)

-- a key is a name's number or the one past them
key_small : (compared : Compared) (kind : Kind) (n count k : ℕ) → n < count → repeat_key compared kind n count ≡ Some k → k < count + 1
key_small Variables kind n count k lt h = variable_small (is_variable kind) (is_constructor kind) n count k lt h
key_small Methods kind n count k lt h = method_small (is_method kind) n count k lt h

-- the key that the code reads
module _ (compared : Compared) (members : List Declared) (names : List ℕ) (count i d : ℕ) (m : Declared) (key : Option ℕ) (named : AreNumbers SameName members names count) (there : slice_get members i ≡ Some m)
    (reads : key ≡ repeat_key compared m.kind (get_or names i d) count) where
  pub reads_key : key ≡ repeat_key compared m.kind (slice_index names i) count
  reads_key =
      let inside : i < length names = omega (arith, slice_get_within members i m there, named.each) in
      reads ∙ ap (λ (n : ℕ). repeat_key compared m.kind n count) (get_or_default_zero names i d inside)

  pub key_below : (k : ℕ) → key ≡ Some k → k < count + 1
  key_below k is = key_small compared m.kind (slice_index names i) count k (named.below i (slice_get_within members i m there)) (sym reads_key ∙ is)

-- ---- members

module _ (units : List JavaUnit) (names : List ℕ) (count : ℕ) (named : AreNumbers SameName (declared_members units) names count) where
  abbrev number : ℕ → ℕ
  number i = slice_index names i

  small : (i : ℕ) (m : Declared) → slice_get (declared_members units) i ≡ Some m → number i < count
  small i m there = named.below i (slice_get_within (declared_members units) i m there)

  second_of : (compared : Compared) (i j : ℕ) (a b : Declared) (k : ℕ) → slice_get (declared_members units) i ≡ Some a → slice_get (declared_members units) j ≡ Some b
      → a.class ≡ b.class → repeat_key compared a.kind (number i) count ≡ Some k → repeat_key compared b.kind (number j) count ≡ Some k → IsSecond compared a b
  second_of Variables i j a b k p q class one other =
      elim (variables_alike (is_variable a.kind) (is_constructor a.kind) (is_variable b.kind) (is_constructor b.kind) (number i) (number j) count k (small i a p) (small j b q) one other) [
        | inl both ↦ (class, inl (both.0, both.1, (named.same i j a b p q).0 both.2))
        | inr both ↦ (class, inr both)
      ]
  second_of Methods i j a b k p q class one other =
      let both = methods_alike (is_method a.kind) (is_method b.kind) (number i) (number j) k one other in
      (class, (both.0, both.1, (named.same i j a b p q).0 both.2))

  -- two of which the second is refused have one key
  keys_of : (compared : Compared) (i j : ℕ) (a b : Declared) → slice_get (declared_members units) i ≡ Some a → slice_get (declared_members units) j ≡ Some b → IsSecond compared a b
      → (a.class ≡ b.class) × ((k : ℕ) × (repeat_key compared a.kind (number i) count ≡ Some k) × (repeat_key compared b.kind (number j) count ≡ Some k))
  keys_of Variables i j a b p q second =
      elim second.1 [
        | inl both ↦ (second.0, (number i, of_variable a.kind (number i) count both.0, of_variable b.kind (number j) count both.1 ∙ ap Some (sym ((named.same i j a b p q).1 both.2))))
        | inr both ↦ (second.0, (count, of_constructor a.kind (number i) count both.0, of_constructor b.kind (number j) count both.1))
      ]
  keys_of Methods i j a b p q second =
      let both = second.1 in
      (second.0, (number i, of_method a.kind (number i) count both.0, of_method b.kind (number j) count both.1 ∙ ap Some (sym ((named.same i j a b p q).1 both.2))))

  pub is_second : (compared : Compared) (i : ℕ) → IsRepeat compared (declared_members units) names count i → EarlierMember units i (IsSecond compared)
  is_second compared i r =
      record { place = r.place; earlier = r.earlier; other = r.other; one = r.one; other_there = r.other_there; there = r.there; holds = second_of compared r.place i r.other r.one r.key r.other_there r.there r.class r.other_key r.one_key }

  pub repeats : (compared : Compared) (i : ℕ) → EarlierMember units i (IsSecond compared) → IsRepeat compared (declared_members units) names count i
  repeats compared i e =
      let keys = keys_of compared e.place i e.other e.one e.other_there e.there e.holds in
      record { place = e.place; earlier = e.earlier; other = e.other; one = e.one; other_there = e.other_there; there = e.there; class = keys.0; key = keys.1.0; other_key = keys.1.1; one_key = keys.1.2 }

-- the same of members that the files declare
module _ (units : List JavaUnit) (members : List Declared) (same : members ≡ declared_members units) (names : List ℕ) (count : ℕ) (named : AreNumbers SameName members names count) (compared : Compared) where
  second_here : (i : ℕ) → IsRepeat compared members names count i → EarlierMember units i (IsSecond compared)
  second_here =
      subst (λ (l : List Declared). AreNumbers SameName l names count → (i : ℕ) → IsRepeat compared l names count i → EarlierMember units i (IsSecond compared)) (sym same)
      (λ n. is_second units names count n compared) named

  repeats_here : (i : ℕ) → EarlierMember units i (IsSecond compared) → IsRepeat compared members names count i
  repeats_here =
      subst (λ (l : List Declared). AreNumbers SameName l names count → (i : ℕ) → EarlierMember units i (IsSecond compared) → IsRepeat compared l names count i) (sym same)
      (λ n. repeats units names count n compared) named

  pub first_second : (i : ℕ) → FirstAt (IsRepeat compared members names count) i → FirstAt (λ i. EarlierMember units i (IsSecond compared)) i
  first_second = first_too (IsRepeat compared members names count) (λ i. EarlierMember units i (IsSecond compared)) second_here repeats_here

  pub no_second : Nowhere (IsRepeat compared members names count) → Nowhere (λ i. EarlierMember units i (IsSecond compared))
  no_second = nowhere_too (IsRepeat compared members names count) (λ i. EarlierMember units i (IsSecond compared)) second_here repeats_here
