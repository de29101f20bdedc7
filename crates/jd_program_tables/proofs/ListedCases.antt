-- There is a row of each case at its place, since each case runs a body.
use Rattle.std.proofs.Common.{◌≡◌, inl, inr, ℕ, zero, suc, true, List, [], ◌∷◌, ◌++◌, Some, refl, sym, ap, subst, ◌∙◌}
use Rattle.std.specs.List.{slice_get}
use Rattle.std.specs.Option.{option_and_then}
use Rattle.jd_syntax.specs.JavaTrees.{JavaUnit}
use Rattle.jd_jclasses.specs.Members.{Declared, Kind, FieldOf, ConstantOf, RoutineOf, declared_members, is_routine}
use Rattle.jd_jclasses.specs.Methods.{routines}
use Rattle.jd_jseen.proofs.Routines.{kept}
use Rattle.jd_model.specs.Programs.{Body}
use Rattle.jd_bodies.specs.Declarations.{Declarations}
use Rattle.jd_jml_meaning.specs.JmlCases.{JmlCase, JmlProgram}
use Rattle.jd_case_rows.specs.Rows.{row_of}
use Rattle.jd_programs.specs.Cases.{all_cases}
use Rattle.jd_programs.specs.Programs.{IsProgram, body_of_declared, body_of_kind, body_with}
use Rattle.jd_declared.proofs.Lists.{In}
use Rattle.jd_listed_tables.specs.Listed.{row_by, rows_of}
use Rattle.jd_program_laws.proofs.Cases.{comes}
use Rattle.jd_program_laws.proofs.Families.{routine_of}
use Rattle.jd_program_tables.specs.Made.{RowAt}

abbrev pub HasBody : JmlProgram → JmlCase → Type 0
HasBody j c = (b : Body) × (j.program.body c.body ≡ Some b)

module _ (j : JmlProgram) (fields : ℕ → List ℕ) where
  first_row : (c : JmlCase) (cs : List JmlCase) (h : HasBody j c) → rows_of j.program fields (c ∷ cs) ≡ row_of j.program fields c h.0 ∷ rows_of j.program fields cs
  first_row c cs h = ap (λ o. row_by j.program fields c o ++ rows_of j.program fields cs) h.1

  pub rows_at : (cs : List JmlCase) → ((c : JmlCase) → In c cs → HasBody j c) → (κ : ℕ) → RowAt j fields (slice_get (rows_of j.program fields cs) κ) (slice_get cs κ)
  rows_at [] each κ = tt
  rows_at (c ∷ cs) each zero =
      let h = each c (inl refl) in
      subst (λ rows. RowAt j fields (slice_get rows 0) (Some c)) (sym (first_row c cs h)) (h.0, h.1, refl)
  rows_at (c ∷ cs) each (suc κ) =
      subst (λ rows. RowAt j fields (slice_get rows (suc κ)) (slice_get cs κ)) (sym (first_row c cs (each c (inl refl)))) (rows_at cs (λ k h. each k (inr h)) κ)

module _ (units : List JavaUnit) (j : JmlProgram) (is : IsProgram units j) where
  abbrev d : Declarations
  d = is.declarations

  of_kind : (class : ℕ) (k : Kind) → is_routine k ≡ true → (b : Body) × (body_of_kind d class k ≡ Some b)
  of_kind class (FieldOf t) e = absurd cc
  of_kind class (ConstantOf n) e = absurd cc
  of_kind class (RoutineOf m) e = (body_with d class m, refl)

  of_routine : (m : ℕ) (r : Declared) → slice_get (routines units) m ≡ Some r → (b : Body) × (j.program.body m ≡ Some b)
  of_routine m r there =
      let k = kept (λ (x : Declared). is_routine x.kind) (declared_members units) m r there in
      let b = of_kind r.class r.kind k.passes in
      (b.0, is.bodies m ∙ ap (option_and_then (body_of_declared d)) there ∙ b.1)

  pub each_runs : (c : JmlCase) → In c (all_cases units j.program.superclasses d is.family) → HasBody j c
  each_runs c h =
      let k = comes units j.program.superclasses d is.family c h in
      let r = routine_of units j is k.c k.m k.x k.is_class k.origin in
      subst (λ m. (b : Body) × (j.program.body m ≡ Some b)) (sym k.is.body) (of_routine k.m r.it r.there)
