-- The names of classes and routines, as the tables tell them.
use Rattle.std.proofs.Common.{◌≡◌, ℕ, ◌+◌, ◌≤◌, List, [], ◌∷◌, ◌++◌, length, map, Option, Some, None, option_map, refl, sym, ap, ◌∙◌, slice_get, arith}
use Rattle.std.specs.List.{enumerate_from}
use Rattle.std.specs.Option.{unwrap_or}
use Rattle.std.proofs.lemmas.List.{length-map}
use Rattle.std.proofs.lemmas.Option.{slice_get-map, slice_get_past}
use Rattle.jd_syntax.specs.JavaTrees.{JavaUnit}
use Rattle.jd_jclasses.specs.Classes.{DeclaredClass, class_names, declared_classes, prelude, prelude_count}
use Rattle.jd_jclasses.specs.Members.{Declared}
use Rattle.jd_jclasses.specs.Methods.{routines}
use Rattle.jd_jinfos.specs.Infos.{PlainClassInfo, PlainMethodInfo, class_infos, declared_info, method_info, method_infos}
use Rattle.jd_jinfos.specs.Views.{class_info_view}
use Rattle.jd_classes.specs.Tables.{AreTables, class_count_of}
use Rattle.jd_classes.specs.declared.classes.Classes.{Classes}
use Rattle.jd_case_obligations.specs.Listed.{class_text, routine_text, text_of_declared}
use Rattle.jd_case_obligations.specs.Told.{info_text}

names_from : (units : List JavaUnit) (n : ℕ) (ds : List DeclaredClass) → map (λ (i : PlainClassInfo). i.name) (map (declared_info units) (enumerate_from n ds)) ≡ map (λ (d : DeclaredClass). d.tree.name.name) ds
names_from units n [] = refl
names_from units n (d ∷ ds) = ap (λ l. d.tree.name.name ∷ l) (names_from units (n + 1) ds)

listed_names : (units : List JavaUnit) → map (λ (i : PlainClassInfo). i.name) (class_infos units) ≡ class_names units
listed_names units = ap (λ (l : List (List ℕ)). map (λ p. p.0) prelude ++ l) (names_from units prelude_count (declared_classes units))

-- the name of a class
pub text_at : (units : List JavaUnit) (class : ℕ) (info : PlainClassInfo) (name : List ℕ) → slice_get (class_infos units) class ≡ Some info → name ≡ info.name → name ≡ class_text units class
text_at units class info name there is =
    is
    ∙ sym (ap (λ o. unwrap_or o [])
    (ap (λ l. slice_get l class) (sym (listed_names units)) ∙ slice_get-map (λ (i : PlainClassInfo). i.name) (class_infos units) class ∙ ap (option_map (λ (i : PlainClassInfo). i.name)) there))

-- no class has the number
pub no_text : (units : List JavaUnit) (c : Classes) (class : ℕ) → AreTables units c → class_count_of c ≤ class → [] ≡ class_text units class
no_text units c class tables past =
    let many : class_count_of c ≡ length (class_names units) =
    sym (length-map c.classes.items class_info_view)
    ∙ ap length tables.classes_
    ∙ sym (length-map (class_infos units) (λ (i : PlainClassInfo). i.name))
    ∙ ap length (listed_names units) in
    sym (ap (λ o. unwrap_or o []) (slice_get_past (class_names units) class (omega (arith, past, many))))

-- ---- methods and constructors

told : (units : List JavaUnit) (class : ℕ) (o : Option Declared) (info : PlainMethodInfo) → option_map method_info o ≡ Some info → info_text units class info ≡ text_of_declared units class o
told units class None info is = absurd cc
told units class (Some r) info is = ap (λ (o : Option PlainMethodInfo). elim o [ None ↦ info_text units class info | Some i ↦ info_text units class i ]) (sym is)

pub told_text : (units : List JavaUnit) (class m : ℕ) (info : PlainMethodInfo) → slice_get (method_infos units) m ≡ Some info → info_text units class info ≡ routine_text units class m
told_text units class m info there = told units class (slice_get (routines units) m) info (sym (slice_get-map method_info (routines units) m) ∙ there)
