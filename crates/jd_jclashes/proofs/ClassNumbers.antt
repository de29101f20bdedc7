-- The classes of members: they rise along the list, each is a class of the files, and what a class extends is a class.
use Rattle.std.proofs.Common.{◌≡◌, ℕ, zero, suc, ◌+◌, ◌<◌, Bool, true, false, cond, List, [], ◌∷◌, length, map, Option, Some, None, refl, sym, ap, ◌∙◌, subst, inl, inr, arith, bytes_eq, length-append}
use Rattle.std.proofs.lemmas.List.{length-map}
use Rattle.std.proofs.lemmas.Option.{none-some, same_Some, slice_get_within}
use Rattle.std.specs.Prelude.{⊤}
use Rattle.std.specs.List.{position_from, slice_get}
use Rattle.jd_ancestry.specs.Ancestors.{AreNodes}
use Rattle.jd_syntax.specs.JavaTypes.{PlainIdentifier, PlainType}
use Rattle.jd_syntax.specs.JavaTrees.{JavaMember, FieldMember, ConstantMember, MethodMember, JavaUnit}
use Rattle.jd_jclasses.specs.Classes.{DeclaredClass, class_names, declared_classes, parent_by, parents, prelude, IsAncestor}
use Rattle.jd_jclasses.specs.Members.{Declared, FieldOf, declared_members, of_classes, of_member, of_members}
use Rattle.jd_jclasses.specs.Refusals.{ClassesStand}
use Rattle.jd_jclashes.specs.Items.{HaveClassesBelow, HaveRisingClasses}
use Rattle.jd_jclashes.proofs.Lists.{in_one}

-- ---- the class of a member

of_fields : (class file place : ℕ) (ty : PlainType) (names : List PlainIdentifier) (i : ℕ) (m : Declared) → slice_get (map (λ x. record { class = class; file = file; member = place; name = x; kind = FieldOf ty }) names) i ≡ Some m → m.class ≡ class
of_fields class file place ty [] i m h = absurd (none-some m h)
of_fields class file place ty (x ∷ xs) zero m h = ap (λ (d : Declared). d.class) (sym (same_Some _ m h))
of_fields class file place ty (x ∷ xs) (suc i) m h = of_fields class file place ty xs i m h

alone : (d m : Declared) (i : ℕ) → slice_get (d ∷ []) i ≡ Some m → m.class ≡ d.class
alone d m zero h = ap (λ (x : Declared). x.class) (sym (same_Some d m h))
alone d m (suc i) h = absurd (none-some m h)

of_one_member : (class file place : ℕ) (d : JavaMember) (i : ℕ) (m : Declared) → slice_get (of_member class file place d) i ≡ Some m → m.class ≡ class
of_one_member class file place (FieldMember f) i m h = of_fields class file place f.ty.written f.names i m h
of_one_member class file place (ConstantMember c) i m h = alone _ m i h
of_one_member class file place (MethodMember r) i m h = alone _ m i h

of_one_class : (class file place : ℕ) (ds : List JavaMember) (i : ℕ) (m : Declared) → slice_get (of_members class file place ds) i ≡ Some m → m.class ≡ class
of_one_class class file place [] i m h = absurd (none-some m h)
of_one_class class file place (d ∷ ds) i m h =
    elim (in_one (of_member class file place d) (of_members class file (suc place) ds) i m h) [
      | inl first ↦ of_one_member class file place d i m first
      | inr second ↦ of_one_class class file (suc place) ds second.0 m second.2
    ]

-- the class is one of these
record IsOfClass (first : ℕ) (ds : List DeclaredClass) (m : Declared) : Type 0 where
  pub place : ℕ
  pub class : DeclaredClass
  pub number : m.class ≡ first + place
  pub there : slice_get ds place ≡ Some class

of_class : (first : ℕ) (ds : List DeclaredClass) (i : ℕ) (m : Declared) → slice_get (of_classes first ds) i ≡ Some m → IsOfClass first ds m
of_class first [] i m h = absurd (none-some m h)
of_class first (d ∷ ds) i m h =
    elim (in_one (of_members first d.file 0 d.tree.members) (of_classes (suc first) ds) i m h) [
      | inl here ↦ record { place = 0; class = d; number = omega (arith, of_one_class first d.file 0 d.tree.members i m here); there = refl }
      | inr behind ↦
          let c = of_class (suc first) ds behind.0 m behind.2 in
          record { place = suc c.place; class = c.class; number = omega (arith, c.number); there = c.there }
    ]

rising : (first : ℕ) (ds : List DeclaredClass) → HaveRisingClasses (of_classes first ds)
rising first [] i j a b lt p q = absurd (none-some a p)
rising first (d ∷ ds) i j a b lt p q =
    let here = of_members first d.file 0 d.tree.members in
    elim (in_one here (of_classes (suc first) ds) i a p) [
      | inl one ↦ elim (in_one here (of_classes (suc first) ds) j b q) [
        | inl other ↦ omega (arith, of_one_class first d.file 0 d.tree.members i a one, of_one_class first d.file 0 d.tree.members j b other)
        | inr other ↦
            let c = of_class (suc first) ds other.0 b other.2 in
            omega (arith, of_one_class first d.file 0 d.tree.members i a one, c.number)
      ]
      | inr one ↦ elim (in_one here (of_classes (suc first) ds) j b q) [
        | inl other ↦ absurd (omega (arith, lt, one.1, slice_get_within here j b other))
        | inr other ↦ rising (suc first) ds one.0 other.0 a b (omega (arith, lt, one.1, other.1)) one.2 other.2
      ]
    ]

-- ---- what a class extends is a class

position_within : {X : Type 0} (test : X → Bool) (i : ℕ) (xs : List X) (k : ℕ) → position_from test i xs ≡ Some k → k < i + length xs
position_within test i [] k h = absurd (none-some k h)
position_within test i (x ∷ xs) k h = here (test x) (λ e. position_within test (i + 1) xs k e) h
  where
    here : (b : Bool) → (position_from test (i + 1) xs ≡ Some k → k < (i + 1) + length xs) → cond b (Some i) (position_from test (i + 1) xs) ≡ Some k → k < i + length (x ∷ xs)
    here true behind e = omega (arith, same_Some i k e)
    here false behind e = omega (arith, behind e)

parent_within : (names : List (List ℕ)) (o : Option PlainIdentifier) (a : ℕ) → 0 < length names → parent_by names o ≡ Some a → a < length names
parent_within names None a some h = omega (arith, some, same_Some 0 a h)
parent_within names (Some x) a some h = omega (arith, position_within (λ (n : List ℕ). bytes_eq n x.name) 0 names a h)

parents_within : (names : List (List ℕ)) (ds : List DeclaredClass) (k a : ℕ) → 0 < length names → slice_get (map (λ d. parent_by names d.tree.parent) ds) k ≡ Some (Some a) → a < length names
parents_within names [] k a some h = absurd (none-some (Some a) h)
parents_within names (d ∷ ds) zero a some h = parent_within names d.tree.parent a some (same_Some (parent_by names d.tree.parent) (Some a) h)
parents_within names (d ∷ ds) (suc k) a some h = parents_within names ds k a some h

-- each extends one with a number below the bound, or none
abbrev AreBelow : ℕ → List (Option ℕ) → Type 0
AreBelow n [] = ⊤
AreBelow n (None ∷ ps) = AreBelow n ps
AreBelow n (Some a ∷ ps) = (a < n) × AreBelow n ps

is_below : (n : ℕ) (ps : List (Option ℕ)) (b a : ℕ) → AreBelow n ps → slice_get ps b ≡ Some (Some a) → a < n
is_below n [] b a all h = absurd (none-some (Some a) h)
is_below n (None ∷ ps) zero a all h = absurd (none-some a (same_Some None (Some a) h))
is_below n (None ∷ ps) (suc b) a all h = is_below n ps b a all h
is_below n (Some c ∷ ps) zero a all h = omega (arith, all.0, same_Some c a (same_Some (Some c) (Some a) h))
is_below n (Some c ∷ ps) (suc b) a all h = is_below n ps b a all.1 h

abbrev prelude_parents : List (Option ℕ)
prelude_parents = map (λ p. p.1) prelude

prelude_is_below : AreBelow 10 prelude_parents
prelude_is_below = (omega arith, (omega arith, (omega arith, (omega arith, (omega arith, (omega arith, (omega arith, (omega arith, (omega arith, tt)))))))))

-- ---- of the files

module _ (units : List JavaUnit) where
  abbrev classes : List DeclaredClass
  classes = declared_classes units

  length_names : length (class_names units) ≡ 10 + length classes
  length_names = length-append (map (λ p. p.0) prelude) (map (λ d. d.tree.name.name) classes) ∙ ap (λ (n : ℕ). 10 + n) (length-map classes (λ d. d.tree.name.name))

  length_parents : length (parents units) ≡ 10 + length classes
  length_parents =
      length-append prelude_parents (map (λ d. parent_by (class_names units) d.tree.parent) classes) ∙ ap (λ (n : ℕ). 10 + n) (length-map classes (λ d. parent_by (class_names units) d.tree.parent))

  pub rising_members : HaveRisingClasses (declared_members units)
  rising_members = rising 10 classes

  pub classes_below : HaveClassesBelow (length (parents units)) (declared_members units)
  classes_below i m h =
      let c = of_class 10 classes i m h in
      omega (arith, c.number, slice_get_within classes c.place c.class c.there, length_parents)

  pub are_nodes : AreNodes (parents units)
  are_nodes a b h =
      elim (in_one prelude_parents (map (λ d. parent_by (class_names units) d.tree.parent) classes) b (Some a) h) [
        | inl first ↦ omega (arith, is_below 10 prelude_parents b a prelude_is_below first, length_parents)
        | inr second ↦ omega (arith, parents_within (class_names units) classes second.0 a (omega (arith, length_names)) second.2, length_names, length_parents)
      ]

  -- the class of a member is not its own ancestor
  pub no_cycle : ClassesStand units → (i : ℕ) (m : Declared) → slice_get (declared_members units) i ≡ Some m → IsAncestor units m.class m.class → ⊥
  no_cycle stand i m there above =
      let c = of_class 10 classes i m there in
      stand.no_cycle c.place (record { class = c.class; there = c.there; holds = subst (λ (n : ℕ). IsAncestor units n n) c.number above })
