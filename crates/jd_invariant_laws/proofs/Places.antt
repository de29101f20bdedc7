-- Where the members of a class stand among all that is declared.
use Rattle.std.proofs.Common.{◌≡◌, ◌≤◌, ◌+◌, ◌-◌, ℕ, zero, suc, Bool, true, false, cond, List, [], ◌∷◌, ◌++◌, Option, Some, None, refl, sym, ap, subst, ◌∙◌, arith, slice_get}
use Rattle.std.specs.List.{filter}
use Rattle.std.specs.Option.{option_and_then}
use Rattle.std.proofs.lemmas.Option.{same_Some, none-some}
use Rattle.jd_syntax.specs.JavaTrees.{JavaClass, JavaUnit}
use Rattle.jd_jclasses.specs.Classes.{DeclaredClass, declared_classes}
use Rattle.jd_jclasses.specs.Members.{Declared, declared_members, of_classes, of_members}
use Rattle.jd_jinfos.specs.Infos.{PlainClassInfo, class_infos}
use Rattle.jd_bodies.specs.Declarations.{Declarations}
use Rattle.jd_programs.specs.Programs.{class_tree}
use Rattle.jd_check.proofs.Walking.{at_class}

-- ---- places in lists

abbrev pub There : {X : Type 0} → List X → X → Type 0
There xs x = (i : ℕ) × (slice_get xs i ≡ Some x)

there_more : {X : Type 0} (y : X) (xs : List X) (x : X) → There xs x → There (y ∷ xs) x
there_more y xs x there = (suc there.0, there.1)

pub there_left : {X : Type 0} (xs ys : List X) (x : X) → There xs x → There (xs ++ ys) x
there_left {X} xs ys x there = by xs there.0 there.1
  where
    by : (zs : List X) (i : ℕ) → slice_get zs i ≡ Some x → There (zs ++ ys) x
    by [] i is = absurd (none-some x is)
    by (z ∷ zs) zero is = (0, is)
    by (z ∷ zs) (suc i) is = there_more z (zs ++ ys) x (by zs i is)

pub there_right : {X : Type 0} (xs ys : List X) (x : X) → There ys x → There (xs ++ ys) x
there_right [] ys x there = there
there_right (z ∷ zs) ys x there = there_more z (zs ++ ys) x (there_right zs ys x there)

kept_or_not : {X : Type 0} (b : Bool) (y : X) (xs : List X) (x : X) → There xs x → There (cond b (y ∷ xs) xs) x
kept_or_not true y xs x there = there_more y xs x there
kept_or_not false y xs x there = there

pub there_filter : {X : Type 0} (test : X → Bool) (xs : List X) (x : X) → test x ≡ true → There xs x → There (filter test xs) x
there_filter {X} test xs x so there = by xs there.0 there.1
  where
    by : (zs : List X) (i : ℕ) → slice_get zs i ≡ Some x → There (filter test zs) x
    by [] i is = absurd (none-some x is)
    by (z ∷ zs) zero is = subst (λ b. There (cond b (z ∷ filter test zs) (filter test zs)) x) (sym (ap test (same_Some z x is) ∙ so)) (0, is)
    by (z ∷ zs) (suc i) is = kept_or_not (test z) z (filter test zs) x (by zs i is)

-- ---- classes

module _ (units : List JavaUnit) where
  in_classes : (n : ℕ) (ds : List DeclaredClass) (k : ℕ) (d : DeclaredClass) → slice_get ds k ≡ Some d → (m : Declared) → There (of_members (n + k) d.file 0 d.tree.members) m → There (of_classes n ds) m
  in_classes n [] k d e m there = absurd (none-some d e)
  in_classes n (c ∷ cs) zero d e m there =
      let same : n + 0 ≡ n = omega arith in
      there_left (of_members n c.file 0 c.tree.members) (of_classes (suc n) cs) m
      (subst (λ (o : DeclaredClass). There (of_members n o.file 0 o.tree.members) m) (sym (same_Some c d e)) (subst (λ i. There (of_members i d.file 0 d.tree.members) m) same there))
  in_classes n (c ∷ cs) (suc k) d e m there =
      let same : n + suc k ≡ suc n + k = omega arith in
      there_right (of_members n c.file 0 c.tree.members) (of_classes (suc n) cs) m
      (in_classes (suc n) cs k d e m (subst (λ i. There (of_members i d.file 0 d.tree.members) m) same there))

  pub record HasTree (c : ℕ) (t : JavaClass) : Type 0 where
    pub file : ℕ
    pub members : (m : Declared) → There (of_members c file 0 t.members) m → There (declared_members units) m

  of_files : (d : Declarations) (c : ℕ) (t : JavaClass) (info : PlainClassInfo) → 10 ≤ c → slice_get (class_infos units) c ≡ Some info → info.decl ≡ Some t → HasTree c t
  of_files d c t info le there has =
      let at = at_class d units c info le there in
      let tree : at.declared.tree ≡ t = same_Some at.declared.tree t (sym (ap (λ (i : PlainClassInfo). i.decl) at.listed) ∙ has) in
      let number : 10 + (c - 10) ≡ c = omega (arith, le) in
      record {
        file = at.declared.file;
        members = λ m among.
            in_classes 10 (declared_classes units) (c - 10) at.declared at.there m
            (subst (λ i. There (of_members i at.declared.file 0 at.declared.tree.members) m) (sym number) (subst (λ (o : JavaClass). There (of_members c at.declared.file 0 o.members) m) (sym tree) among));
      }

  -- the classes that are always there have no tree
  pub has_tree : (d : Declarations) (c : ℕ) (t : JavaClass) → class_tree units c ≡ Some t → HasTree c t
  has_tree d zero t e = absurd (none-some t e)
  has_tree d (suc zero) t e = absurd (none-some t e)
  has_tree d (suc (suc zero)) t e = absurd (none-some t e)
  has_tree d (suc (suc (suc zero))) t e = absurd (none-some t e)
  has_tree d (suc (suc (suc (suc zero)))) t e = absurd (none-some t e)
  has_tree d (suc (suc (suc (suc (suc zero))))) t e = absurd (none-some t e)
  has_tree d (suc (suc (suc (suc (suc (suc zero)))))) t e = absurd (none-some t e)
  has_tree d (suc (suc (suc (suc (suc (suc (suc zero))))))) t e = absurd (none-some t e)
  has_tree d (suc (suc (suc (suc (suc (suc (suc (suc zero)))))))) t e = absurd (none-some t e)
  has_tree d (suc (suc (suc (suc (suc (suc (suc (suc (suc zero))))))))) t e = absurd (none-some t e)
  has_tree d (suc (suc (suc (suc (suc (suc (suc (suc (suc (suc i)))))))))) t e = by (slice_get (class_infos units) (suc (suc (suc (suc (suc (suc (suc (suc (suc (suc i))))))))))) refl e
    where
      by : (o : Option PlainClassInfo) → slice_get (class_infos units) (suc (suc (suc (suc (suc (suc (suc (suc (suc (suc i)))))))))) ≡ o → option_and_then (λ (k : PlainClassInfo). k.decl) o ≡ Some t → HasTree (suc (suc (suc (suc (suc (suc (suc (suc (suc (suc i)))))))))) t
      by None there has = absurd (none-some t has)
      by (Some info) there has = of_files d (suc (suc (suc (suc (suc (suc (suc (suc (suc (suc i)))))))))) t info (omega arith) there has
