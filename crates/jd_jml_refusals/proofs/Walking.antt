-- The JML of the classes of the files, one after the other.
use Rattle.std.proofs.Common.{◌≡◌, Bool, true, false, is_some, ℕ, suc, ◌+◌, ◌-◌, ◌≤◌, List, length, drop, Option, Some, None, Result, Ok, Err, option_map, refl, sym, ap, ◌∙◌, arith, slice_get}
use Rattle.std.proofs.lemmas.Option.{none-some}
use Rattle.jd_syntax.specs.JavaTrees.{JavaUnit}
use Rattle.jd_jclasses.specs.Classes.{declared_classes}
use Rattle.jd_jinfos.specs.Infos.{PlainClassInfo, class_infos}
use Rattle.jd_bodies.specs.Declarations.{Declarations}
use Rattle.jd_check.proofs.Walking.{at_class, all_dropped, dropped}
use Rattle.jd_specifications.specs.declared.fault.SpecFault.{SpecFault}
use Rattle.jd_specifications.specs.Refused.{fault_from, fault_or, first_fault, members}
use Rattle.jd_specifications.specs.Scopes.{SpecLocal}
use Rattle.jd_jml_refusals.specs.First.{class_fault, refused_view}
use Rattle.jd_jml_refusals.specs.declared.refused.Refused.{Refused}

pub is_nothing : (o : Option Refused) (b : Bool) → b ≡ is_some o → b ≡ false → o ≡ None
is_nothing None b is not_so = refl
is_nothing (Some r) b is not_so = absurd (wrong (sym is ∙ not_so))
  where
    wrong : true ≡ false → ⊥
    wrong e = cc

module _ (d : Declarations) (units : List JavaUnit) where
  abbrev From : ℕ → ℕ → Option (ℕ × SpecFault)
  From class i = fault_from d class (drop i (declared_classes units))

  -- a class: its own fault, or else that of those behind it
  either : (file : ℕ) (r : Result (List SpecLocal) SpecFault) (rest own : Option (ℕ × SpecFault)) → own ≡ fault_or d file r None → own ≡ None → fault_or d file r rest ≡ rest
  either file (Ok s) rest own is none = refl
  either file (Err f) rest own is none = absurd (none-some (file, f) (sym none ∙ is))

  here : (file : ℕ) (r : Result (List SpecLocal) SpecFault) (rest own : Option (ℕ × SpecFault)) (x : ℕ × SpecFault) → own ≡ fault_or d file r None → own ≡ Some x → own ≡ fault_or d file r rest
  here file (Ok s) rest own x is some = absurd (none-some x (sym is ∙ some))
  here file (Err f) rest own x is some = is

  -- the next class, which has no fault
  pub goes_on : (class : ℕ) (info : PlainClassInfo) (own : Option (ℕ × SpecFault)) → 10 ≤ class → slice_get (class_infos units) class ≡ Some info → own ≡ class_fault d class info → own ≡ None → first_fault d units ≡ From class (class - 10) → first_fault d units ≡ From (class + 1) (class + 1 - 10)
  goes_on class info own le there is none so_far =
      let a = at_class d units class info le there in
      let next : suc class ≡ class + 1 = omega arith in
      let place : suc (class - 10) ≡ class + 1 - 10 = omega arith in
      so_far
      ∙ ap (fault_from d class) (dropped (declared_classes units) (class - 10) a.declared a.there)
      ∙ either a.declared.file (members d class a.declared.tree.members a.declared.tree.end) (From (suc class) (suc (class - 10))) own (is ∙ ap (class_fault d class) a.listed) none
      ∙ ap (λ n. From n (suc (class - 10))) next
      ∙ ap (From (class + 1)) place

  -- or has one
  ends : (class : ℕ) (info : PlainClassInfo) (own : Option (ℕ × SpecFault)) (x : ℕ × SpecFault) → 10 ≤ class → slice_get (class_infos units) class ≡ Some info → own ≡ class_fault d class info → own ≡ Some x → first_fault d units ≡ From class (class - 10) → own ≡ first_fault d units
  ends class info own x le there is some so_far =
      let a = at_class d units class info le there in
      here a.declared.file (members d class a.declared.tree.members a.declared.tree.end) (From (suc class) (suc (class - 10))) own x (is ∙ ap (class_fault d class) a.listed) some
      ∙ sym (so_far ∙ ap (fault_from d class) (dropped (declared_classes units) (class - 10) a.declared a.there))

  pub ends_there : (class : ℕ) (info : PlainClassInfo) (o : Option Refused) (b : Bool) → 10 ≤ class → slice_get (class_infos units) class ≡ Some info → b ≡ is_some o → b ≡ true → option_map refused_view o ≡ class_fault d class info → first_fault d units ≡ From class (class - 10)
      → option_map refused_view o ≡ first_fault d units
  ends_there class info None b le there is so told so_far = absurd (wrong (sym is ∙ so))
    where
      wrong : false ≡ true → ⊥
      wrong e = cc
  ends_there class info (Some r) b le there is so told so_far = ends class info (Some (refused_view r)) (refused_view r) le there told refl so_far

  -- no class is left
  pub none_left : (class : ℕ) → length (declared_classes units) ≤ class - 10 → first_fault d units ≡ From class (class - 10) → None ≡ first_fault d units
  none_left class few so_far = sym (so_far ∙ ap (fault_from d class) (all_dropped (declared_classes units) (class - 10) few))
