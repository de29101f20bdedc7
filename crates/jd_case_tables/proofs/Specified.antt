-- What is listed of a method: its cases with their marks, and the parameters of its body.
use Rattle.std.proofs.Common.{◌≡◌, ◌||◌, ◌+◌, ℕ, zero, suc, Bool, true, false, cond, List, [], ◌∷◌, ◌++◌, length, map, flat_map, take, drop, Option, Some, None, option_map, refl, sym, ap, ◌∙◌, arith, slice_get}
use Rattle.std.specs.List.{range_with_len}
use Rattle.std.specs.Option.{option_and_then}
use Rattle.std.proofs.lemmas.List.{append-nil, append_assoc}
use Rattle.std.proofs.lemmas.Option.{none-some, same_Some, slice_get-map}
use Rattle.jd_syntax.specs.JavaTrees.{JavaMethod, JavaParameter, JavaUnit}
use Rattle.jd_syntax.specs.Names.{Declared as Variable}
use Rattle.jd_syntax.specs.SpecTrees.{PlainClause}
use Rattle.jd_jclasses.specs.Members.{Declared, Kind, FieldOf, ConstantOf, RoutineOf, is_constructor, is_static}
use Rattle.jd_jclasses.specs.Methods.{routines}
use Rattle.jd_model.specs.Programs.{Body, Program}
use Rattle.jd_bodies.specs.Bodies.{PlainBody, begun, bodies, body_by, body_of, receiver, with_parameters}
use Rattle.jd_bodies.specs.Declarations.{Declarations, type_by}
use Rattle.jd_bodies.specs.Refused.{place_of as place_in}
use Rattle.jd_bodies.specs.Variables.{Progress, declared, local_name, with_local}
use Rattle.jd_body_variables.specs.Laws.{BodiesBeginWithParameters}
use Rattle.jd_jml_cases.specs.Cases.{cases_of_declared, cases_of_kind, cases_of_routine, inherited, lineage, method_cases, written_at}
use Rattle.jd_jml_written.specs.Marked.{PlainCase, case_of, marks_of}
use Rattle.jd_jmlcheck.specs.Specified.{PlainMethodSpec, method_spec, specs_of}
use Rattle.jd_programs.specs.Members.{declared_as}
use Rattle.jd_programs.specs.Programs.{body_of_declared, body_of_kind, body_with, parameter_names, variable_name}
use Rattle.jd_specifications.specs.WrittenCases.{cases_of}
use Rattle.jd_case_tables.specs.Placed.{MarksStand, Place, among_parameters, cases_in, place_at, place_of, place_of_kind, variables_in}

-- ---- cases

numbered_at : {X : Type 0} (f : ℕ → PlainMethodSpec) (rs : List X) (n k : ℕ) → slice_get (map f (range_with_len n (length rs))) k ≡ option_map (λ x. f (n + k)) (slice_get rs k)
numbered_at f [] n k = refl
numbered_at f (r ∷ rs) n zero = let same : n ≡ n + 0 = omega arith in ap (λ m. Some (f m)) same
numbered_at f (r ∷ rs) n (suc k) = let same : n + 1 + k ≡ n + suc k = omega arith in numbered_at f rs (n + 1) k ∙ ap (λ m. option_map (λ x. f m) (slice_get rs k)) same

module _ (units : List JavaUnit) where
  pub cases_listed : (specs : List PlainMethodSpec) → specs ≡ (specs_of units).methods → (m : ℕ) → cases_in (slice_get specs m) ≡ method_cases units m
  cases_listed specs are m =
      ap (λ (l : List PlainMethodSpec). cases_in (slice_get l m)) are
      ∙ ap cases_in (numbered_at (method_spec units) (routines units) 0 m)
      ∙ by (slice_get (routines units) m) refl
    where
      by : (o : Option Declared) → slice_get (routines units) m ≡ o → cases_in (option_map (λ x. method_spec units (0 + m)) o) ≡ method_cases units m
      by None none = sym (ap (cases_of_routine units m) none)
      by (Some r) there = let same : 0 + m ≡ m = omega arith in ap (method_cases units) same

  -- ---- marks

  stand_both : (xs ys : List PlainCase) → MarksStand units xs → MarksStand units ys → MarksStand units (xs ++ ys)
  stand_both [] ys f g = g
  stand_both (x ∷ xs) ys f g = (f.0, stand_both xs ys f.1 g)

  own_stand : (m : ℕ) (class : ℕ) (t : JavaMethod) → place_at units m ≡ Some (class, t) → (css : List (List PlainClause)) → MarksStand units (map (case_of m (marks_of t)) css)
  own_stand m class t there [] = tt
  own_stand m class t there (cs ∷ css) = (λ w e. ap (λ (v : Place). marks_of v.1) (same_Some (class, t) w (sym there ∙ e)), own_stand m class t there css)

  written_stand : (m : ℕ) → MarksStand units (written_at units m)
  written_stand m = by (slice_get (routines units) m) refl
    where
      of_kind : (class : ℕ) (k : Kind) → place_at units m ≡ place_of_kind class k → MarksStand units (cases_of_kind m k)
      of_kind class (FieldOf t) there = tt
      of_kind class (ConstantOf n) there = tt
      of_kind class (RoutineOf t) there = own_stand m class t there (cases_of t.specs)

      by : (o : Option Declared) → slice_get (routines units) m ≡ o → MarksStand units (cases_of_declared m o)
      by None there = tt
      by (Some r) there = of_kind r.class r.kind (ap place_of there)

  all_stand : (ms : List ℕ) → MarksStand units (flat_map (written_at units) ms)
  all_stand [] = tt
  all_stand (m ∷ ms) = stand_both (written_at units m) (flat_map (written_at units) ms) (written_stand m) (all_stand ms)

  pub marks_stand : (m : ℕ) → MarksStand units (method_cases units m)
  marks_stand m = by (slice_get (routines units) m)
    where
      either : (b : Bool) (r : Declared) → MarksStand units (cond b (written_at units m) (inherited units r.name.name r.class))
      either true r = written_stand m
      either false r = all_stand (flat_map (declared_as units r.name.name) (lineage units r.class))

      by : (o : Option Declared) → MarksStand units (cases_of_routine units m o)
      by None = tt
      by (Some r) = either (is_static r.kind || is_constructor r.kind) r

-- ---- bodies

abbrev pub RunsWith : Program → List PlainBody → ℕ → Place → Type 0
RunsWith p bs m w = (b : Body) × (p.body m ≡ Some b) × (b.parameters ≡ map variable_name (among_parameters w.1 (variables_in (slice_get bs m))))

take_first : {X : Type 0} (xs ys : List X) (n : ℕ) → length xs ≡ n → take n (xs ++ ys) ≡ xs
take_first [] ys zero e = refl
take_first [] ys (suc n) e = absurd cc
take_first (x ∷ xs) ys zero e = absurd cc
take_first (x ∷ xs) ys (suc n) e = ap (λ l. x ∷ l) (take_first xs ys n (omega (arith, e)))

module _ (begin : BodiesBeginWithParameters) (d : Declarations) where
  -- what the parameters add to the variables
  abbrev added : List (List ℕ) → List JavaParameter → List Variable
  added ns [] = []
  added ns (x ∷ xs) = declared (local_name (x.name.name ∷ ns) x.name.name (type_by d.class_named x.ty.written)) (type_by d.class_named x.ty.written) ∷ added (x.name.name ∷ ns) xs

  all_added : (ps : List JavaParameter) (p : Progress) → (with_parameters d ps p).variables ≡ p.variables ++ added p.names ps
  all_added [] p = sym (append-nil p.variables)
  all_added (x ∷ xs) p = all_added xs (with_local x.name.name (type_by d.class_named x.ty.written) p) ∙ append_assoc p.variables _ (added (x.name.name ∷ p.names) xs)

  as_many : (ns : List (List ℕ)) (ps : List JavaParameter) → length (added ns ps) ≡ length ps
  as_many ns [] = refl
  as_many ns (p ∷ ps) = ap suc (as_many (p.name.name ∷ ns) ps)

  behind : (class : ℕ) (s : Bool) (l more : List Variable) → drop (cond s 0 1) ((receiver (record { class = class; is_static = s }) ++ l) ++ more) ≡ l ++ more
  behind class true l more = refl
  behind class false l more = refl

  behind_named : (class : ℕ) (s : Bool) (l : List Variable) → drop (cond s 0 1) (map variable_name (receiver (record { class = class; is_static = s }) ++ l)) ≡ map variable_name l
  behind_named class true l = refl
  behind_named class false l = refl

  first_ones : (class : ℕ) (m : JavaMethod) → parameter_names d class m ≡ map variable_name (among_parameters m (body_of d class m).variables)
  first_ones class m =
      let b = begin d class m in
      let first = added [] m.parameters in
      ap (λ l. drop (cond m.is_static 0 1) (map variable_name l)) (all_added m.parameters (begun (place_in d class m)))
      ∙ behind_named class m.is_static first
      ∙ ap (map variable_name)
      (sym (ap (among_parameters m) (b.1 ∙ ap (λ l. l ++ b.0) (all_added m.parameters (begun (place_in d class m))))
      ∙ ap (take (length m.parameters)) (behind class m.is_static first b.0)
      ∙ take_first first b.0 (length m.parameters) (as_many [] m.parameters)))

  module _ (units : List JavaUnit) (p : Program) (body : (m : ℕ) → p.body m ≡ option_and_then (body_of_declared d) (slice_get (routines units) m)) where
    pub runs_listed : (bs : List PlainBody) → bs ≡ bodies d units → (m : ℕ) (w : Place) → place_at units m ≡ Some w
        → RunsWith p bs m w
    runs_listed bs are m w there = by (slice_get (routines units) m) refl there
      where
        listed : (o : Option Declared) → slice_get (routines units) m ≡ o → slice_get bs m ≡ option_map (λ (r : Declared). body_by d r.class r.kind) o
        listed o is =
            ap (λ (l : List PlainBody). slice_get l m) are
            ∙ slice_get-map (λ (r : Declared). body_by d r.class r.kind) (routines units) m
            ∙ ap (option_map (λ (r : Declared). body_by d r.class r.kind)) is

        of_kind : (class : ℕ) (k : Kind) → p.body m ≡ body_of_kind d class k → slice_get bs m ≡ Some (body_by d class k) → place_of_kind class k ≡ Some w → RunsWith p bs m w
        of_kind class (FieldOf t) is its e = absurd (none-some w e)
        of_kind class (ConstantOf n) is its e = absurd (none-some w e)
        of_kind class (RoutineOf t) is its e = (
          body_with d class t,
          is,
          first_ones class t
              ∙ ap (λ (v : Place). map variable_name (among_parameters v.1 (body_of d class t).variables)) (same_Some (class, t) w e)
              ∙ ap (λ (o : Option PlainBody). map variable_name (among_parameters w.1 (variables_in o))) (sym its),
        )

        by : (o : Option Declared) → slice_get (routines units) m ≡ o → place_of o ≡ Some w → RunsWith p bs m w
        by None is e = absurd (none-some w e)
        by (Some r) is e = of_kind r.class r.kind (body m ∙ ap (option_and_then (body_of_declared d)) is) (listed (Some r) is) e

    pub no_body_listed : (m : ℕ) → place_at units m ≡ None → p.body m ≡ None
    no_body_listed m none = by (slice_get (routines units) m) refl none
      where
        of_kind : (class : ℕ) (k : Kind) → place_of_kind class k ≡ None → body_of_kind d class k ≡ None
        of_kind class (FieldOf t) e = refl
        of_kind class (ConstantOf n) e = refl
        of_kind class (RoutineOf t) e = absurd cc

        by : (o : Option Declared) → slice_get (routines units) m ≡ o → place_of o ≡ None → p.body m ≡ None
        by None is e = body m ∙ ap (option_and_then (body_of_declared d)) is
        by (Some r) is e = body m ∙ ap (option_and_then (body_of_declared d)) is ∙ of_kind r.class r.kind e
