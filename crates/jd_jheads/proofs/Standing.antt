-- From the lists of classes to the files: that no refusal holds, and which does.
use Rattle.std.proofs.Common.{◌≡◌, ℕ, List, length, Result, Ok, Err, IsErrAnd, IfErr, map, sym, ap, ◌∙◌, subst}
use Rattle.std.proofs.lemmas.Option.{slice_get_within}
use Rattle.jd_syntax.specs.JavaTrees.{JavaUnit}
use Rattle.jd_jclasses.specs.Classes.{DeclaredClass, declared_classes}
use Rattle.jd_jclasses.specs.Refusals.{ClassAt, ClassesStand, FirstPlace, Nowhere}
use Rattle.jd_jheads.specs.declared.placed.Placed.{Placed}
use Rattle.jd_jheads.specs.declared.refusal.HeadRefusal.{HeadRefusal}
use Rattle.jd_jheads.specs.declared.refusal.HeadRefusal.TheVariants as code
use Rattle.jd_jheads.specs.Firsts.{AtName, AtSuper, CycleRefused, FirstClass, HasNoSuper, HasUsedName, IsOnCycle, NameRefused, NamesAreNew, NoneBelow, NoneOnCycle, SuperRefused, SupersAreKnown}
use Rattle.jd_jheads.specs.Heads.{HeadRefuses}
use Rattle.jd_jheads.specs.Placed.{placed_view}

nowhere : (units : List JavaUnit) (P : ℕ → DeclaredClass → Type 0) → NoneBelow (declared_classes units) P (length (declared_classes units)) → Nowhere (λ i. ClassAt units i (P i))
nowhere units P none = λ i at. none i at.class (slice_get_within (declared_classes units) i at.class at.there) at.there at.holds

first_place : (units : List JavaUnit) (P : ℕ → DeclaredClass → Type 0) (Place : ℕ → ℕ → DeclaredClass → Type 0) (file at : ℕ) → FirstClass (declared_classes units) P (Place file at)
    → FirstPlace (λ i. ClassAt units i (P i)) (λ i f a. ClassAt units i (Place f a)) file at
first_place units P Place file at f =
    record {
      i = f.i;
      holds = record { here = record { class = f.class; there = f.there; holds = f.holds }; first = λ j lt p. f.before j p.class lt p.there p.holds };
      place = record { class = f.class; there = f.there; holds = f.place };
    }

pub stand : (units : List JavaUnit) → NamesAreNew (declared_classes units) → SupersAreKnown (declared_classes units) → NoneOnCycle (declared_classes units) → ClassesStand units
stand units names supers cycles =
    let ds = declared_classes units in
    record {
      names = nowhere units (HasUsedName ds) names;
      supers = nowhere units (HasNoSuper ds) supers;
      no_cycle = nowhere units (IsOnCycle ds) cycles;
    }

pub names_refuse : (units : List JavaUnit) (e : HeadRefusal) → NameRefused (declared_classes units) e → HeadRefuses units e
names_refuse units (code.DuplicateClass file at) h = first_place units (HasUsedName (declared_classes units)) AtName file at h
names_refuse units (code.UnknownSuper file at) h = absurd h
names_refuse units (code.CyclicExtends file at) h = absurd h
names_refuse units code.NoMemory h = tt

pub supers_refuse : (units : List JavaUnit) (e : HeadRefusal) → NamesAreNew (declared_classes units) → SuperRefused (declared_classes units) e → HeadRefuses units e
supers_refuse units (code.DuplicateClass file at) names h = absurd h
supers_refuse units (code.UnknownSuper file at) names h =
    (nowhere units (HasUsedName (declared_classes units)) names, first_place units (HasNoSuper (declared_classes units)) AtSuper file at h)
supers_refuse units (code.CyclicExtends file at) names h = absurd h
supers_refuse units code.NoMemory names h = tt

pub cycles_refuse : (units : List JavaUnit) (e : HeadRefusal) → NamesAreNew (declared_classes units) → SupersAreKnown (declared_classes units) → CycleRefused (declared_classes units) e → HeadRefuses units e
cycles_refuse units (code.DuplicateClass file at) names supers h = absurd h
cycles_refuse units (code.UnknownSuper file at) names supers h = absurd h
cycles_refuse units (code.CyclicExtends file at) names supers h =
    (nowhere units (HasUsedName (declared_classes units)) names, nowhere units (HasNoSuper (declared_classes units)) supers, first_place units (IsOnCycle (declared_classes units)) AtName file at h)
cycles_refuse units code.NoMemory names supers h = tt

-- an error that a `?` passes on
pub passed_on : {T : Type 0} (Q : HeadRefusal → Type 0) (r : Result T HeadRefusal) (e : HeadRefusal) → IsErrAnd r (λ f. f ≡ e) → Q e → IfErr r Q
passed_on Q (Ok x) e h q = tt
passed_on Q (Err f) e h q = subst Q (sym h) q

-- the same classes, read through another reference
pub same_classes : (xs ys : List Placed) (ds : List DeclaredClass) → xs ≡ ys → map placed_view ys ≡ ds → map placed_view xs ≡ ds
same_classes xs ys ds same views = ap (map placed_view) same ∙ views
