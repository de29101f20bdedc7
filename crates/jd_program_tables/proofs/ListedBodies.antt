-- The body of each number is that of its row, whose first variables are the receiver and the parameters.
use Rattle.std.proofs.Common.{◌≡◌, ◌<◌, ◌+◌, ◌==◌, ℕ, zero, suc, Bool, true, false, cond, if◌then◌else◌, List, [], ◌∷◌, ◌++◌, map, take, drop, length, Some, None, refl, sym, ap, subst, ◌∙◌, arith}
use Rattle.std.specs.List.{slice_get}
use Rattle.std.specs.Option.{option_and_then}
use Rattle.std.proofs.lemmas.Bool.Decides.{nat_tests}
use Rattle.jd_syntax.specs.JavaTrees.{JavaMethod, JavaParameter, JavaResult, Void, Gives, OfConstructor, JavaUnit}
use Rattle.jd_syntax.specs.Names.{Declared as Variable}
use Rattle.jd_jclasses.specs.Members.{Declared, Kind, FieldOf, ConstantOf, RoutineOf}
use Rattle.jd_jclasses.specs.Methods.{routines}
use Rattle.jd_model.specs.Tables.{BodyAt, HasResult, body_in, receiver_then}
use Rattle.jd_bodies.specs.Bodies.{begun, body_of, receiver, with_parameters}
use Rattle.jd_bodies.specs.Declarations.{Declarations}
use Rattle.jd_bodies.specs.Refused.{place_of}
use Rattle.jd_bodies.specs.Variables.{this_name}
use Rattle.jd_body_variables.specs.Laws.{BodiesBeginWithParameters}
use Rattle.jd_jml_meaning.specs.JmlCases.{JmlProgram}
use Rattle.jd_programs.specs.Programs.{IsProgram, body_of_declared, body_with, parameter_names, result_sort, variable_name}
use Rattle.jd_listed_tables.specs.Listed.{body_row, body_rows_from, body_rows_of_kind, parameter_count, result_if}
use Rattle.jd_program_tables.proofs.Parameters.{added, all_added}

take_first : {X : Type 0} (xs ys : List X) (n : ℕ) → length xs ≡ n → take n (xs ++ ys) ≡ xs
take_first [] ys zero e = refl
take_first [] ys (suc n) e = absurd cc
take_first (x ∷ xs) ys zero e = absurd cc
take_first (x ∷ xs) ys (suc n) e = ap (λ l. x ∷ l) (take_first xs ys n (omega (arith, e)))

module _ (begin : BodiesBeginWithParameters) (d : Declarations) where
  -- ---- the first variables

  as_many : (ns : List (List ℕ)) (ps : List JavaParameter) → length (added d ns ps) ≡ length ps
  as_many ns [] = refl
  as_many ns (p ∷ ps) = ap suc (as_many (p.name.name ∷ ns) ps)

  module _ (class : ℕ) (m : JavaMethod) where
    abbrev first : List Variable
    first = (with_parameters d m.parameters (begun (place_of d class m))).variables

    counted : (s : Bool) (l : List Variable) (n : ℕ) → length l ≡ n → length (receiver (record { class = class; is_static = s }) ++ l) ≡ cond s 0 1 + n
    counted true l n e = omega (arith, e)
    counted false l n e = omega (arith, e)

    first_counted : length first ≡ parameter_count m
    first_counted = ap length (all_added d m.parameters (begun (place_of d class m))) ∙ counted m.is_static (added d [] m.parameters) (length m.parameters) (as_many [] m.parameters)

    named : (s : Bool) (l : List Variable) → map variable_name (receiver (record { class = class; is_static = s }) ++ l) ≡ receiver_then (cond s None (Some this_name)) (drop (cond s 0 1) (map variable_name (receiver (record { class = class; is_static = s }) ++ l)))
    named true l = refl
    named false l = refl

    first_named : map variable_name first ≡ receiver_then (cond m.is_static None (Some this_name)) (parameter_names d class m)
    first_named =
        subst (λ vs. map variable_name vs ≡ receiver_then (cond m.is_static None (Some this_name)) (drop (cond m.is_static 0 1) (map variable_name vs))) (sym (all_added d m.parameters (begun (place_of d class m))))
        (named m.is_static (added d [] m.parameters))

    variables_listed : map variable_name (take (parameter_count m) (body_of d class m).variables) ≡ receiver_then (cond m.is_static None (Some this_name)) (parameter_names d class m)
    variables_listed =
        let b = begin d class m in
        ap (λ vs. map variable_name (take (parameter_count m) vs)) b.1 ∙ ap (map variable_name) (take_first first b.0 (parameter_count m) first_counted) ∙ first_named

    result_listed : (r : JavaResult) → HasResult (result_if d r) (result_sort d r)
    result_listed Void = tt
    result_listed (Gives w) = refl
    result_listed OfConstructor = tt

    listed : (n : ℕ) → BodyAt (Some (body_row d n class m)) (Some (body_with d class m))
    listed n = (variables_listed, result_listed m.result, refl)

  -- ---- rows by their numbers

  not_itself : (n m : ℕ) → m < n → (n == m) ≡ false
  not_itself n m lt = grind (arith, nat_tests)

  not_before : (n k : ℕ) → (n == n + suc k) ≡ false
  not_before n k = grind (arith, nat_tests)

  itself : (n : ℕ) → (n == n + 0) ≡ true
  itself n = grind (arith, nat_tests)

  -- what comes from a number on has none before it
  before : (rs : List Declared) (n m : ℕ) → m < n → body_in (body_rows_from d n rs) m ≡ None
  before [] n m lt = refl
  before (r ∷ rs) n m lt = by r.kind (before rs (suc n) m (omega (arith, lt)))
    where
      by : (k : Kind) → body_in (body_rows_from d (suc n) rs) m ≡ None → body_in (body_rows_of_kind d n r.class k ++ body_rows_from d (suc n) rs) m ≡ None
      by (FieldOf t) h = h
      by (ConstantOf v) h = h
      by (RoutineOf t) h = ap (λ b. if b then Some (body_row d n r.class t) else body_in (body_rows_from d (suc n) rs) m) (not_itself n m lt) ∙ h

  pub rows_listed : (rs : List Declared) (n k : ℕ) → BodyAt (body_in (body_rows_from d n rs) (n + k)) (option_and_then (body_of_declared d) (slice_get rs k))
  rows_listed [] n k = tt
  rows_listed (r ∷ rs) n zero = by r.kind (before rs (suc n) (n + 0) (omega arith))
    where
      by : (k : Kind) → body_in (body_rows_from d (suc n) rs) (n + 0) ≡ None → BodyAt (body_in (body_rows_of_kind d n r.class k ++ body_rows_from d (suc n) rs) (n + 0)) (body_of_declared d (record { class = r.class; file = r.file; member = r.member; name = r.name; kind = k }))
      by (FieldOf t) h = subst (λ o. BodyAt o None) (sym h) tt
      by (ConstantOf v) h = subst (λ o. BodyAt o None) (sym h) tt
      by (RoutineOf t) h = subst (λ b. BodyAt (if b then Some (body_row d n r.class t) else body_in (body_rows_from d (suc n) rs) (n + 0)) (Some (body_with d r.class t))) (sym (itself n)) (listed r.class t n)
  rows_listed (r ∷ rs) n (suc k) =
      let same : suc n + k ≡ n + suc k = omega arith in
      by r.kind (subst (λ m. BodyAt (body_in (body_rows_from d (suc n) rs) m) (option_and_then (body_of_declared d) (slice_get rs k))) same (rows_listed rs (suc n) k))
    where
      by : (kind : Kind) → BodyAt (body_in (body_rows_from d (suc n) rs) (n + suc k)) (option_and_then (body_of_declared d) (slice_get rs k))
          → BodyAt (body_in (body_rows_of_kind d n r.class kind ++ body_rows_from d (suc n) rs) (n + suc k)) (option_and_then (body_of_declared d) (slice_get rs k))
      by (FieldOf t) h = h
      by (ConstantOf v) h = h
      by (RoutineOf t) h =
          subst (λ b. BodyAt (if b then Some (body_row d n r.class t) else body_in (body_rows_from d (suc n) rs) (n + suc k)) (option_and_then (body_of_declared d) (slice_get rs k))) (sym (not_before n k)) h

pub bodies_listed : BodiesBeginWithParameters → (units : List JavaUnit) (j : JmlProgram) (is : IsProgram units j) (m : ℕ) → BodyAt (body_in (body_rows_from is.declarations 0 (routines units)) m) (j.program.body m)
bodies_listed begin units j is m =
    let same : 0 + m ≡ m = omega arith in
    let rows = rows_listed begin is.declarations (routines units) 0 m in
    let at : BodyAt (body_in (body_rows_from is.declarations 0 (routines units)) m) (option_and_then (body_of_declared is.declarations) (slice_get (routines units) m)) =
    subst (λ k. BodyAt (body_in (body_rows_from is.declarations 0 (routines units)) k) (option_and_then (body_of_declared is.declarations) (slice_get (routines units) m))) same rows in
    subst (BodyAt (body_in (body_rows_from is.declarations 0 (routines units)) m)) (sym (is.bodies m)) at
