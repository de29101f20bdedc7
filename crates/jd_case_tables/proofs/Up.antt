-- What classes and those above them add to what is there.
use Rattle.std.proofs.Common.{◌≡◌, ℕ, zero, suc, ◌<◌, List, [], ◌∷◌, ◌++◌, length, Option, Some, None, Result, Ok, Err, OnOk, refl, sym, ap, ap₂, subst, ◌∙◌, slice_get, flat_map, append_assoc}
use Rattle.std.specs.Option.{option_and_then}
use Rattle.std.proofs.lemmas.Grind.{flat_map-append}
use Rattle.std.proofs.lemmas.List.{append-nil}
use Rattle.jd_ancestry.specs.Walks.{parent_of}
use Rattle.jd_syntax.specs.JavaTrees.{JavaUnit}
use Rattle.jd_jinfos.specs.Infos.{PlainClassInfo, PlainOwnMembers, class_infos}
use Rattle.jd_jclasses.specs.Classes.{parents}
use Rattle.jd_jml_cases.specs.Cases.{classes_up}
use Rattle.jd_jseen.proofs.Nodes.{parents_are_classes}
use Rattle.jd_classes.specs.Tables.{AreTables, class_count_of}
use Rattle.jd_classes.specs.declared.classes.Classes.{Classes}
use Rattle.jd_jml_cases.proofs.Listing.{class_count, own_at, parent_at}
use Rattle.jd_programs.specs.Members.{own}

-- ---- the class above

pub extended_is : (units : List JavaUnit) (class : ℕ) (info : PlainClassInfo) → slice_get (class_infos units) class ≡ Some info → info.parent ≡ parent_of (parents units) class
extended_is units class info listed = sym (ap (option_and_then (λ p. p)) (parent_at units class info listed))

pub extended_within : (units : List JavaUnit) (c : Classes) (class : ℕ) (info : PlainClassInfo) (above : ℕ) → AreTables units c → slice_get (class_infos units) class ≡ Some info → info.parent ≡ Some above → above < class_count_of c
extended_within units c class info above tables listed is =
    subst (λ n. above < n) (sym (class_count units c tables)) (parents_are_classes units above class (parent_at units class info listed ∙ ap Some is))

no_class : (ps : List (Option ℕ)) (n : ℕ) → classes_up ps n None ≡ []
no_class ps zero = refl
no_class ps (suc n) = refl

-- ---- one class more

module _ {X : Type 0} (g : ℕ → List X) (ps : List (Option ℕ)) where
  pub nothing_up : (left : ℕ) (class : Option ℕ) (old : List X) → class ≡ None → old ≡ old ++ flat_map g (classes_up ps left class)
  nothing_up left class old is = sym (append-nil old) ∙ ap (λ l. old ++ flat_map g l) (sym (ap (classes_up ps left) is ∙ no_class ps left))

  one_lower : (up : List ℕ) (c : ℕ) (old middle new : List X) → middle ≡ old ++ flat_map g up → new ≡ middle ++ g c → new ≡ old ++ flat_map g (up ++ c ∷ [])
  one_lower up c old middle new first second =
      second
      ∙ ap (λ l. l ++ g c) first
      ∙ append_assoc old (flat_map g up) (g c)
      ∙ ap (λ l. old ++ l) (ap (λ l. flat_map g up ++ l) (sym (append-nil (g c))) ∙ sym (flat_map-append g up (c ∷ [])))

  pub class_more : {A E : Type 0} (r : Result A E) (left less : ℕ) (class above : Option ℕ) (c : ℕ) (old middle new : List X) → left ≡ suc less → class ≡ Some c → above ≡ parent_of ps c
      → middle ≡ old ++ flat_map g (classes_up ps less above) → OnOk r (new ≡ middle ++ g c) → OnOk r (new ≡ old ++ flat_map g (classes_up ps left class))
  class_more (Err e) left less class above c old middle new more is up first told = tt
  class_more (Ok a) left less class above c old middle new more is up first told =
      one_lower (classes_up ps less (parent_of ps c)) c old middle new (first ∙ ap (λ o. old ++ flat_map g (classes_up ps less o)) up) told
      ∙ ap (λ l. old ++ flat_map g l) (sym (ap₂ (classes_up ps) more is))

-- ---- what a class declares

pub fields_at : (units : List JavaUnit) (class : ℕ) (info : PlainClassInfo) → slice_get (class_infos units) class ≡ Some info → class < length (parents units) → info.own.fields ≡ (own units class).fields
fields_at units class info there lt = ap (λ (o : PlainOwnMembers). o.fields) (own_at units class info there lt)
