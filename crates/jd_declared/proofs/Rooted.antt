-- Of a program's classes one alone extends none.
use Rattle.std.proofs.Common.{◌≡◌, ℕ, zero, suc, ◌+◌, List, Option, Some, None, option_map, map, refl, sym, ap, ◌∙◌, slice_get}
use Rattle.std.proofs.lemmas.Option.{same_Some, none-some, slice_get-map}
use Rattle.jd_syntax.specs.JavaTypes.{PlainIdentifier}
use Rattle.jd_syntax.specs.JavaTrees.{JavaUnit}
use Rattle.jd_jclasses.specs.Classes.{DeclaredClass, class_in, class_names, declared_classes, parent_by, parents}
use Rattle.jd_jclasses.specs.Refusals.{AreClasses}

module _ (units : List JavaUnit) (stand : AreClasses units) where
  extended : DeclaredClass → Option ℕ
  extended d = parent_by (class_names units) d.tree.parent

  unknown : (i : ℕ) (d : DeclaredClass) (o : Option PlainIdentifier) → slice_get (declared_classes units) i ≡ Some d → d.tree.parent ≡ o → parent_by (class_names units) o ≡ None → ⊥
  unknown i d None there is none = none-some 0 (sym none)
  unknown i d (Some x) there is none = stand.classes.supers i (record { class = d; there = there; holds = (x, is, none) })

  of_a_file : (i : ℕ) (o : Option DeclaredClass) → slice_get (declared_classes units) i ≡ o → option_map (λ d. parent_by (class_names units) d.tree.parent) o ≡ Some None → ⊥
  of_a_file i None is e = none-some None e
  of_a_file i (Some d) is e = unknown i d d.tree.parent is refl (same_Some (parent_by (class_names units) d.tree.parent) None e)

  some_parent : (p : ℕ) → Some (Some p) ≡ Some None → ⊥
  some_parent p e = none-some p (sym (same_Some (Some p) None e))

  pub one_top : (c : ℕ) → slice_get (parents units) c ≡ Some None → c ≡ 0
  one_top zero e = refl
  one_top (suc zero) e = absurd (some_parent 0 e)
  one_top (suc (suc zero)) e = absurd (some_parent 1 e)
  one_top (suc (suc (suc zero))) e = absurd (some_parent 2 e)
  one_top (suc (suc (suc (suc zero)))) e = absurd (some_parent 3 e)
  one_top (suc (suc (suc (suc (suc zero))))) e = absurd (some_parent 3 e)
  one_top (suc (suc (suc (suc (suc (suc zero)))))) e = absurd (some_parent 3 e)
  one_top (suc (suc (suc (suc (suc (suc (suc zero))))))) e = absurd (some_parent 3 e)
  one_top (suc (suc (suc (suc (suc (suc (suc (suc zero)))))))) e = absurd (some_parent 3 e)
  one_top (suc (suc (suc (suc (suc (suc (suc (suc (suc zero))))))))) e = absurd (some_parent 6 e)
  one_top (suc (suc (suc (suc (suc (suc (suc (suc (suc (suc i)))))))))) e =
      absurd (of_a_file i (slice_get (declared_classes units) i) refl (sym (slice_get-map (λ (d : DeclaredClass). parent_by (class_names units) d.tree.parent) (declared_classes units) i) ∙ e))
