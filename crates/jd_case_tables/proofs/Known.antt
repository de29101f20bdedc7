-- What rows are made by, of a program that files mean.
use Rattle.std.proofs.Common.{◌≡◌, ◌<◌, ℕ, List, map, codes, Option, Some, None, refl, sym, ap, subst, ◌∙◌, length, flat_map, slice_get}
use Rattle.std.proofs.lemmas.Option.{none-some, same_Some}
use Rattle.jd_syntax.specs.JavaTrees.{JavaUnit}
use Rattle.jd_jclasses.specs.Classes.{class_named, parents}
use Rattle.jd_jclasses.specs.Members.{Declared, Kind, FieldOf, ConstantOf, RoutineOf}
use Rattle.jd_jclasses.specs.Methods.{routines}
use Rattle.jd_jclasses.specs.Refusals.{AreClasses}
use Rattle.jd_jseen.proofs.Nodes.{members_are_of_classes}
use Rattle.jd_jseen.proofs.Routines.{routines_are_members}
use Rattle.jd_bodies.specs.Bodies.{PlainBody, bodies}
use Rattle.jd_bodies.specs.Declarations.{Declarations}
use Rattle.jd_body_variables.specs.Laws.{BodiesBeginWithParameters}
use Rattle.jd_field_sorts.specs.Laws.{FieldsOfProgramsHaveSorts}
use Rattle.jd_jml_cases.specs.Cases.{lineage}
use Rattle.jd_jml_meaning.specs.JmlCases.{JmlProgram}
use Rattle.jd_jmlcheck.specs.Specified.{PlainMethodSpec, specs_of}
use Rattle.jd_listed_tables.specs.Listed.{fields_along}
use Rattle.jd_model.specs.Programs.{field_sort}
use Rattle.jd_programs.specs.Members.{own}
use Rattle.jd_programs.specs.Programs.{IsProgram}
use Rattle.jd_case_tables.specs.Placed.{Place, place_at, place_of, place_of_kind}
use Rattle.jd_case_tables.specs.Worlds.{AreListed, IsKnown}
use Rattle.jd_case_tables.proofs.Sorting.{fields_sorted}
use Rattle.jd_case_tables.proofs.Specified.{cases_listed, marks_stand, no_body_listed, runs_listed}

module _ (units : List JavaUnit) where
  -- a declaration's class is one of the program's
  pub place_within : (m : ℕ) (w : Place) → place_at units m ≡ Some w → w.0 < length (parents units)
  place_within m w there = by (slice_get (routines units) m) refl there
    where
      of_kind : (class : ℕ) (k : Kind) → place_of_kind class k ≡ Some w → class ≡ w.0
      of_kind class (FieldOf t) e = absurd (none-some w e)
      of_kind class (ConstantOf n) e = absurd (none-some w e)
      of_kind class (RoutineOf t) e = ap (λ (v : Place). v.0) (same_Some (class, t) w e)

      by : (o : Option Declared) → slice_get (routines units) m ≡ o → place_of o ≡ Some w → w.0 < length (parents units)
      by None is e = absurd (none-some w e)
      by (Some r) is e =
          let member = routines_are_members units m r is in
          subst (λ c. c < length (parents units)) (of_kind r.class r.kind e) (members_are_of_classes units member.0 r member.1)

  throwable_is : class_named units (codes "Throwable") ≡ Some 1
  throwable_is = refl

  module _ (stand : AreClasses units) (j : JmlProgram) (is : IsProgram units j) (same : (c : ℕ) → c < length (parents units) → j.program.superclasses c ≡ lineage units c) where
    known_here : FieldsOfProgramsHaveSorts → IsKnown units is.declarations j.program (fields_along units j.program.superclasses) 1
    known_here sorts = record {
      sorts = sorts units j is;
      thrown = same_Some j.program.throwable 1 (sym is.classes.throwable ∙ throwable_is);
      listed = λ m w there.
          fields_sorted units is.declarations j.program is.fields_ (lineage units w.0)
          ∙ ap (λ l. map (λ f. (f, field_sort j.program f)) (flat_map (λ a. (own units a).fields) l)) (sym (same w.0 (place_within m w there)));
      within = place_within;
    }

    pub known : FieldsOfProgramsHaveSorts → (d : Declarations) → is.declarations ≡ d → IsKnown units d j.program (fields_along units j.program.superclasses) 1
    known sorts d are = subst (λ (e : Declarations). IsKnown units e j.program (fields_along units j.program.superclasses) 1) are (known_here sorts)

    pub listed : BodiesBeginWithParameters → (d : Declarations) → is.declarations ≡ d → (specs : List PlainMethodSpec) (bs : List PlainBody) → specs ≡ (specs_of units).methods → bs ≡ bodies d units → AreListed units j.program specs bs
    listed begin d are specs bs specified made = record {
      cases = cases_listed units specs specified;
      marks = marks_stand units;
      runs = runs_listed begin is.declarations units j.program is.bodies bs (made ∙ ap (λ (e : Declarations). bodies e units) (sym are));
      no_body = no_body_listed begin is.declarations units j.program is.bodies;
    }
