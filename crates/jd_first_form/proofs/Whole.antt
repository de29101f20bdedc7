-- The form of a program by what was made of its first method.
use Rattle.std.proofs.Common.{◌≡◌, ℕ, suc, ◌==◌, ◌&&◌, ◌||◌, cond, Bool, true, false, true≢false, List, [], ◌∷◌, map, length, get_or, slice_get, Option, Some, refl, sym, ap, ◌∙◌, arith}
use Rattle.std.proofs.lemmas.Option.{none-some, same_Some}
use Rattle.jd_syntax.specs.JavaTypes.{PlainIdentifier}
use Rattle.jd_syntax.specs.JavaTrees.{JavaMember, FieldMember, ConstantMember, MethodMember, JavaClass, JavaUnit}
use Rattle.jd_syntax.specs.SpecTrees.{PlainClause, PlainSpecBlock}
use Rattle.jd_jclasses.specs.Classes.{parents}
use Rattle.jd_jinfos.specs.Infos.{PlainClassInfo, class_infos}
use Rattle.jd_bodies.specs.Bodies.{PlainBody, bodies}
use Rattle.jd_bodies.specs.Declarations.{Declarations}
use Rattle.jd_specifications.specs.WrittenCases.{cases_of}
use Rattle.jd_jml_written.specs.Marked.{PlainCase, PlainMarks, case_of, class_invariants, marks_of}
use Rattle.jd_jmlcheck.specs.Specified.{PlainMethodSpec, specs_of}
use Rattle.jd_programs.specs.Programs.{class_tree}
use Rattle.jd_first_form.specs.Forms.{are_one_case, class_count, class_number, gives_int, is_class_form, is_first_form}
use Rattle.jd_first_form.specs.Shapes.{clauses_of_case, is_class_form_of}

-- the clauses of the cases that are written at a declaration
written : (declared : ℕ) (marks : PlainMarks) (cs : List (List PlainClause)) → map clauses_of_case (map (case_of declared marks) cs) ≡ cs
written declared marks [] = refl
written declared marks (c ∷ cs) = ap (λ l. c ∷ l) (written declared marks cs)

-- what stands behind a test that fails does not matter
guarded : (s rest x y z : Bool) → (s ≡ true → x ≡ y) → ((s && rest) && (x && z)) ≡ ((s && rest) && (y && z))
guarded true rest x y z same = ap (λ b. rest && (b && z)) (same refl)
guarded false rest x y z same = refl

chosen : (cs : List (List PlainClause)) (s b : Bool) (xs ys : List PlainCase) → s ≡ true → map clauses_of_case xs ≡ cs → map clauses_of_case (cond (s || b) xs ys) ≡ cs
chosen cs true b xs ys e is = is
chosen cs false b xs ys e is = absurd (true≢false (sym e))

module _ (d : Declarations) where
  -- of one class with these members and this end
  module _ (at : ℕ) (name : PlainIdentifier) (parent : Option PlainIdentifier) (end : Option PlainSpecBlock) where
    abbrev class_with : List JavaMember → JavaClass
    class_with ms = record { at = at; name = name; parent = parent; members = ms; end = end }

    abbrev unit_with : List JavaMember → JavaUnit
    unit_with ms = record { classes = class_with ms ∷ [] }

    abbrev SameForm : List JavaMember → Type 0
    SameForm ms = is_class_form_of (Some (class_with ms)) (length (class_invariants (class_with ms))) (specs_of (unit_with ms ∷ [])).methods (bodies d (unit_with ms ∷ [])) ≡ is_class_form d (Some (class_with ms))

    pub same_form : (ms : List JavaMember) → SameForm ms
    same_form [] = refl
    same_form (FieldMember f ∷ ms) = refl
    same_form (ConstantMember c ∷ ms) = refl
    same_form (MethodMember m ∷ n ∷ ms) = refl
    same_form (MethodMember m ∷ []) =
        ap (λ b. length (class_invariants (class_with (MethodMember m ∷ []))) == 0 && b)
        (guarded m.is_static (gives_int m.result && _) _ _ _ (λ static. ap are_one_case (chosen (cases_of m.specs) m.is_static _ _ _ static (written 0 (marks_of m) (cases_of m.specs)))))

  -- of one file with these classes
  of_classes : (cs : List JavaClass) (info : PlainClassInfo) → length (parents (record { classes = cs } ∷ [])) ≡ class_count → slice_get (class_infos (record { classes = cs } ∷ [])) class_number ≡ Some info → is_class_form_of info.decl (length (get_or (specs_of (record { classes = cs } ∷ [])).classes class_number [])) (specs_of (record { classes = cs } ∷ [])).methods (bodies d (record { classes = cs } ∷ [])) ≡ is_class_form d (class_tree (record { classes = cs } ∷ []) class_number)
  of_classes [] info count there = absurd (none-some info there)
  of_classes (c ∷ []) info count there =
      ap (λ (i : PlainClassInfo). is_class_form_of i.decl (length (class_invariants c)) (specs_of (record { classes = c ∷ [] } ∷ [])).methods (bodies d (record { classes = c ∷ [] } ∷ []))) (sym (same_Some _ info there))
      ∙ same_form c.at c.name c.parent c.end c.members
  of_classes (c ∷ e ∷ cs) info count there = absurd (let n : length (parents (record { classes = c ∷ e ∷ cs } ∷ [])) ≡ 11 = count in omega (arith, n))

  -- of so many files and classes, with so many invariants
  pub whole : (units : List JavaUnit) (info : PlainClassInfo) (files : ℕ) → files ≡ length units → files ≡ 1 → length (parents units) ≡ class_count → slice_get (class_infos units) class_number ≡ Some info → (n : ℕ) → n ≡ length (get_or (specs_of units).classes class_number []) → (ss : List PlainMethodSpec) → ss ≡ (specs_of units).methods → (bs : List PlainBody) → bs ≡ bodies d units → is_class_form_of info.decl n ss bs ≡ is_first_form d units
  whole [] info files few one count there n ns ss is bs are = absurd (let z : 0 ≡ 1 = sym few ∙ one in omega (arith, z))
  whole (u ∷ v ∷ us) info files few one count there n ns ss is bs are = absurd (let z : suc (suc (length us)) ≡ 1 = sym few ∙ one in omega (arith, z))
  whole (u ∷ []) info files few one count there n ns ss is bs are =
      ap (λ k. is_class_form_of info.decl k ss bs) ns ∙ ap (λ k. is_class_form_of info.decl (length (get_or (specs_of (u ∷ [])).classes class_number [])) k bs) is
      ∙ ap (is_class_form_of info.decl (length (get_or (specs_of (u ∷ [])).classes class_number [])) (specs_of (u ∷ [])).methods) are
      ∙ of_classes u.classes info count there
      ∙ sym (ap (λ k. (k == class_count) && is_class_form d (class_tree (u ∷ []) class_number)) count)
