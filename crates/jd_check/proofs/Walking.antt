-- The classes of the files one after the other.
use Rattle.std.proofs.Common.{◌≡◌, Bool, true, false, is_some, ℕ, zero, suc, ◌+◌, ◌-◌, ◌≤◌, List, [], ◌∷◌, length, map, drop, Option, Some, None, Result, Ok, Err, option_map, refl, sym, ap, ◌∙◌, arith, slice_get}
use Rattle.std.specs.List.{enumerate_from}
use Rattle.std.proofs.lemmas.List.{length-append, length-map}
use Rattle.std.proofs.lemmas.Option.{same_Some, none-some, slice_get-map}
use Rattle.jd_syntax.specs.JavaTrees.{JavaUnit}
use Rattle.jd_jclasses.specs.Classes.{DeclaredClass, declared_classes, prelude, prelude_count}
use Rattle.jd_jinfos.specs.Infos.{PlainClassInfo, class_infos, declared_info, prelude_info}
use Rattle.jd_jinfos.specs.Views.{class_info_view}
use Rattle.jd_classes.specs.Tables.{AreTables, class_count_of}
use Rattle.jd_classes.specs.declared.classes.Classes.{Classes}
use Rattle.jd_bodies.specs.declared.fault.Fault.{Fault}
use Rattle.jd_bodies.specs.Declarations.{Declarations}
use Rattle.jd_bodies.specs.Refused.{fault_from, fault_or, first_fault, members}
use Rattle.jd_bodies.specs.Scopes.{Scope}
use Rattle.jd_check.specs.First.{class_fault, refused_view}
use Rattle.jd_check.specs.declared.refused.Refused.{Refused}

numbered : {X : Type 0} (n : ℕ) (xs : List X) (i : ℕ) → slice_get (enumerate_from n xs) i ≡ option_map (λ x. (n + i, x)) (slice_get xs i)
numbered n [] i = refl
numbered n (x ∷ xs) zero = let same : n ≡ n + 0 = omega arith in ap (λ k. Some (k, x)) same
numbered n (x ∷ xs) (suc i) = numbered (n + 1) xs i ∙ (let same : n + 1 + i ≡ n + suc i = omega arith in ap (λ k. option_map (λ y. (k, y)) (slice_get xs i)) same)

as_many : {X : Type 0} (n : ℕ) (xs : List X) → length (enumerate_from n xs) ≡ length xs
as_many n [] = refl
as_many n (x ∷ xs) = ap suc (as_many (n + 1) xs)

-- ten more than the files declare
pub class_count : (units : List JavaUnit) (c : Classes) → AreTables units c → class_count_of c ≡ 10 + length (declared_classes units)
class_count units c tables =
    sym (length-map c.classes.items class_info_view)
    ∙ ap length tables.classes_
    ∙ length-append (map prelude_info prelude) (map (declared_info units) (enumerate_from prelude_count (declared_classes units)))
    ∙ ap (λ n. 10 + n) (length-map (enumerate_from prelude_count (declared_classes units)) (declared_info units) ∙ as_many prelude_count (declared_classes units))

pub is_nothing : (o : Option Refused) (b : Bool) → b ≡ is_some o → b ≡ false → o ≡ None
is_nothing None b is not_so = refl
is_nothing (Some r) b is not_so = absurd (wrong (sym is ∙ not_so))
  where
    wrong : true ≡ false → ⊥
    wrong e = cc

-- a class of the files
behind_prelude : (units : List JavaUnit) (i : ℕ) → slice_get (class_infos units) (suc (suc (suc (suc (suc (suc (suc (suc (suc (suc i)))))))))) ≡ option_map (λ d. declared_info units (10 + i, d)) (slice_get (declared_classes units) i)
behind_prelude units i =
    slice_get-map (declared_info units) (enumerate_from prelude_count (declared_classes units)) i
    ∙ ap (option_map (declared_info units)) (numbered prelude_count (declared_classes units) i)
    ∙ twice (slice_get (declared_classes units) i)
  where
    twice : (o : Option DeclaredClass) → option_map (declared_info units) (option_map (λ d. (10 + i, d)) o) ≡ option_map (λ d. declared_info units (10 + i, d)) o
    twice None = refl
    twice (Some d) = refl

pub dropped : {X : Type 0} (xs : List X) (i : ℕ) (x : X) → slice_get xs i ≡ Some x → drop i xs ≡ x ∷ drop (suc i) xs
dropped [] i x e = absurd (none-some x e)
dropped (y ∷ ys) zero x e = ap (λ z. z ∷ ys) (same_Some y x e)
dropped (y ∷ ys) (suc i) x e = dropped ys i x e

-- no more than these
pub all_dropped : {X : Type 0} (xs : List X) (n : ℕ) → length xs ≤ n → drop n xs ≡ []
all_dropped [] zero le = refl
all_dropped [] (suc n) le = refl
all_dropped (x ∷ xs) zero le = absurd (omega (arith, le))
all_dropped (x ∷ xs) (suc n) le = all_dropped xs n (omega (arith, le))

module _ (d : Declarations) (units : List JavaUnit) where
  abbrev From : ℕ → ℕ → Option (ℕ × Fault)
  From class i = fault_from d class (drop i (declared_classes units))

  -- a class: its own fault, or else that of those behind it
  either : (class file i : ℕ) (r : Result Scope Fault) (rest : Option (ℕ × Fault)) (own : Option (ℕ × Fault)) → own ≡ fault_or d file r None → own ≡ None → fault_or d file r rest ≡ rest
  either class file i (Ok s) rest own is none = refl
  either class file i (Err f) rest own is none = absurd (none-some (file, f) (sym none ∙ is))

  here : (file : ℕ) (r : Result Scope Fault) (rest : Option (ℕ × Fault)) (own : Option (ℕ × Fault)) (x : ℕ × Fault) → own ≡ fault_or d file r None → own ≡ Some x → own ≡ fault_or d file r rest
  here file (Ok s) rest own x is some = absurd (none-some x (sym is ∙ some))
  here file (Err f) rest own x is some = is

  pub record At (class : ℕ) (info : PlainClassInfo) : Type 0 where
    pub declared : DeclaredClass
    pub there : slice_get (declared_classes units) (class - 10) ≡ Some declared
    pub listed : info ≡ declared_info units (class, declared)

  pub at_class : (class : ℕ) (info : PlainClassInfo) → 10 ≤ class → slice_get (class_infos units) class ≡ Some info → At class info
  at_class class info le there =
      let i : ℕ = class - 10 in
      let whole : class ≡ 10 + i = omega arith in
      let ten : class ≡ suc (suc (suc (suc (suc (suc (suc (suc (suc (suc i))))))))) = omega arith in
      by i whole (slice_get (declared_classes units) i) refl (sym (behind_prelude units i) ∙ ap (slice_get (class_infos units)) (sym ten) ∙ there)
    where
      by : (i : ℕ) → class ≡ 10 + i → (o : Option DeclaredClass) → slice_get (declared_classes units) i ≡ o → option_map (λ d. declared_info units (10 + i, d)) o ≡ Some info → At class info
      by i whole None is e = absurd (none-some info e)
      by i whole (Some c) is e =
          let same : i ≡ class - 10 = omega arith in
          record {
            declared = c;
            there = ap (slice_get (declared_classes units)) (sym same) ∙ is;
            listed = sym (same_Some _ info e) ∙ ap (λ n. declared_info units (n, c)) (sym whole);
          }

  -- the next class, which has no fault
  pub goes_on : (class : ℕ) (info : PlainClassInfo) (own : Option (ℕ × Fault)) → 10 ≤ class → slice_get (class_infos units) class ≡ Some info → own ≡ class_fault d class info → own ≡ None → first_fault d units ≡ From class (class - 10) → first_fault d units ≡ From (class + 1) (class + 1 - 10)
  goes_on class info own le there is none so_far =
      let a = at_class class info le there in
      let next : suc class ≡ class + 1 = omega arith in
      let place : suc (class - 10) ≡ class + 1 - 10 = omega arith in
      so_far
      ∙ ap (fault_from d class) (dropped (declared_classes units) (class - 10) a.declared a.there)
      ∙ either class a.declared.file (class - 10) (members d class a.declared.tree.members) (From (suc class) (suc (class - 10))) own (is ∙ ap (class_fault d class) a.listed) none
      ∙ ap (λ n. From n (suc (class - 10))) next
      ∙ ap (From (class + 1)) place

  -- or has one
  pub ends : (class : ℕ) (info : PlainClassInfo) (own : Option (ℕ × Fault)) (x : ℕ × Fault) → 10 ≤ class → slice_get (class_infos units) class ≡ Some info → own ≡ class_fault d class info → own ≡ Some x → first_fault d units ≡ From class (class - 10) → own ≡ first_fault d units
  ends class info own x le there is some so_far =
      let a = at_class class info le there in
      here a.declared.file (members d class a.declared.tree.members) (From (suc class) (suc (class - 10))) own x (is ∙ ap (class_fault d class) a.listed) some
      ∙ sym (so_far ∙ ap (fault_from d class) (dropped (declared_classes units) (class - 10) a.declared a.there))

  pub ends_there : (class : ℕ) (info : PlainClassInfo) (o : Option Refused) (b : Bool) → 10 ≤ class → slice_get (class_infos units) class ≡ Some info → b ≡ is_some o → b ≡ true → option_map refused_view o ≡ class_fault d class info → first_fault d units ≡ From class (class - 10)
      → option_map refused_view o ≡ first_fault d units
  ends_there class info None b le there is so told so_far = absurd (wrong (sym is ∙ so))
    where
      wrong : false ≡ true → ⊥
      wrong e = cc
  ends_there class info (Some r) b le there is so told so_far = ends class info (Some (refused_view r)) (refused_view r) le there told refl so_far

  -- no class is left
  pub none_left : (class : ℕ) → length (declared_classes units) ≤ class - 10 → first_fault d units ≡ From class (class - 10) → None ≡ first_fault d units
  none_left class few so_far = sym (so_far ∙ ap (fault_from d class) (all_dropped (declared_classes units) (class - 10) few))
