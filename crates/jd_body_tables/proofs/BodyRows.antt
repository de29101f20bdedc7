-- The rows of bodies one by one.
use Rattle.std.proofs.Common.{◌≡◌, ◌<◌, ◌≤◌, ◌+◌, ℕ, zero, suc, true, cond, List, [], ◌∷◌, ◌++◌, length, map, drop, get_or, Option, Some, None, option_map, Result, Ok, Err, IfOk, refl, sym, ap, subst, ◌∙◌, arith, append_assoc}
use Rattle.std.specs.List.{slice_get}
use Rattle.std.proofs.lemmas.List.{append-nil, length-map, map-append}
use Rattle.std.proofs.lemmas.Option.{none-some, same_Some, slice_get-map, slice_get_read}
use Rattle.jd_syntax.specs.JavaTypes.{PlainType, IntType, BooleanType, IntArrayType, NamedType}
use Rattle.jd_syntax.specs.JavaTrees.{JavaMethod, JavaParameter, JavaResult, Void, Gives, OfConstructor, JavaUnit}
use Rattle.jd_jclasses.specs.Members.{Declared, Kind, FieldOf, ConstantOf, RoutineOf, declared_members, is_routine, result_type}
use Rattle.jd_jclasses.specs.Methods.{routines}
use Rattle.jd_jinfos.specs.Infos.{PlainMethodInfo, method_info, method_infos}
use Rattle.jd_jinfos.specs.Views.{method_info_view}
use Rattle.jd_classes.specs.Tables.{AreTables, method_count_of}
use Rattle.jd_classes.specs.declared.classes.Classes.{Classes}
use Rattle.jd_bodies.specs.Bodies as plain
use Rattle.jd_bodies.specs.Bodies.{bodies, body_by, body_of}
use Rattle.jd_bodies.specs.Declarations.{Declarations, class_type, type_by}
use Rattle.jd_bodies.specs.Variables.{sort_of}
use Rattle.jd_declared.proofs.Lists.{at_place, in_filter}
use Rattle.jd_check.specs.Building as resolved
use Rattle.jd_check.specs.declared.bodies.Body.{Body}
use Rattle.jd_model.specs.ContractForms.{PlainBody, body_view}
use Rattle.jd_model.specs.declared.contracts.BodyForm.{BodyForm}
use Rattle.jd_listed_tables.specs.Listed.{body_row, body_rows_from, body_rows_of_kind, result_if}
use Rattle.jd_body_tables.specs.Rows.{IsRowAt, row_by, sort_written}

pub at_number : {E : Type 0} (units : List JavaUnit) (r : Result BodyForm E) (m n : ℕ) (info : PlainMethodInfo) (b : plain.PlainBody) → m ≡ n → slice_get (method_infos units) m ≡ Some info
    → IfOk r (λ x. body_view x ≡ row_by m info b) → IfOk r (λ x. IsRowAt units n b (body_view x))
at_number units (Err e) m n info b same there told = tt
at_number units (Ok x) m n info b same there told = record { info = info; there = subst (λ k. slice_get (method_infos units) k ≡ Some info) same there; row = told ∙ ap (λ k. row_by k info b) same }

dropped : {X : Type 0} (xs : List X) (i : ℕ) (x : X) → slice_get xs i ≡ Some x → drop i xs ≡ x ∷ drop (i + 1) xs
dropped [] i x e = absurd (none-some x e)
dropped (y ∷ ys) zero x e = ap (λ z. z ∷ ys) (same_Some y x e)
dropped (y ∷ ys) (suc i) x e = let next : suc (i + 1) ≡ suc i + 1 = omega arith in dropped ys i x e ∙ ap (λ n. x ∷ drop n (y ∷ ys)) next

all_dropped : {X : Type 0} (xs : List X) (i : ℕ) → length xs ≤ i → drop i xs ≡ []
all_dropped [] zero le = refl
all_dropped [] (suc i) le = refl
all_dropped (x ∷ xs) zero le = absurd (omega (arith, le))
all_dropped (x ∷ xs) (suc i) le = all_dropped xs i (omega (arith, le))

module _ (d : Declarations) where
  written_sort : (t : PlainType) → sort_written t ≡ sort_of (type_by d.class_named t)
  written_sort IntType = refl
  written_sort BooleanType = refl
  written_sort IntArrayType = refl
  written_sort (NamedType x) = by (d.class_named x)
    where
      by : (c : Option ℕ) → sort_written (NamedType x) ≡ sort_of (class_type c)
      by None = refl
      by (Some c) = refl

  outcome_sort : (r : JavaResult) → option_map sort_written (result_type r) ≡ result_if d r
  outcome_sort Void = refl
  outcome_sort (Gives w) = ap Some (written_sort w.written)
  outcome_sort OfConstructor = refl

  -- the row of a method or constructor, by what the tables tell of it
  row_is : (n : ℕ) (r : Declared) (m : JavaMethod) → r.kind ≡ RoutineOf m → row_by n (method_info r) (body_by d r.class r.kind) ≡ body_row d n r.class m
  row_is n r m kind =
      ap (λ k. row_by n (method_info (record { class = r.class; file = r.file; member = r.member; name = r.name; kind = k })) (body_by d r.class k)) kind
      ∙ λ i. record { method = n; params = cond m.is_static 0 1 + length-map m.parameters (λ (p : JavaParameter). p.ty.written) i; vars = (body_of d r.class m).variables; result = outcome_sort m.result i; code = (body_of d r.class m).code_ }

  rows_next : (n : ℕ) (r : Declared) (rs : List Declared) → is_routine r.kind ≡ true → body_rows_from d n (r ∷ rs) ≡ row_by n (method_info r) (body_by d r.class r.kind) ∷ body_rows_from d (suc n) rs
  rows_next n r rs routine = by r.kind refl routine
    where
      by : (k : Kind) → r.kind ≡ k → is_routine k ≡ true → body_rows_of_kind d n r.class r.kind ++ body_rows_from d (suc n) rs ≡ row_by n (method_info r) (body_by d r.class r.kind) ∷ body_rows_from d (suc n) rs
      by (FieldOf t) kind e = absurd cc
      by (ConstantOf v) kind e = absurd cc
      by (RoutineOf m) kind e = ap (λ k. body_rows_of_kind d n r.class k ++ body_rows_from d (suc n) rs) kind ∙ ap (λ x. x ∷ body_rows_from d (suc n) rs) (sym (row_is n r m kind))

module _ (units : List JavaUnit) (d : Declarations) where
  as_many_bodies : (bs : List Body) → map resolved.body_view bs ≡ bodies d units → length bs ≡ length (routines units)
  as_many_bodies bs are = sym (length-map bs resolved.body_view) ∙ ap length are ∙ length-map (routines units) (λ (r : Declared). body_by d r.class r.kind)

  pub as_many : (c : Classes) (bs : List Body) → AreTables units c → map resolved.body_view bs ≡ bodies d units → length bs ≡ method_count_of c
  as_many c bs tables are = as_many_bodies bs are ∙ sym (length-map (routines units) method_info) ∙ sym (ap length tables.methods_) ∙ length-map c.methods.items method_info_view

  one_more : (n : ℕ) (o : Option Declared) (b : plain.PlainBody) (row : PlainBody) (old new whole : List PlainBody) → slice_get (routines units) n ≡ o → option_map (λ (r : Declared). body_by d r.class r.kind) o ≡ Some b → (info : PlainMethodInfo) → option_map method_info o ≡ Some info → row ≡ row_by n info b
      → new ≡ old ++ row ∷ [] → old ++ body_rows_from d n (drop n (routines units)) ≡ whole → new ++ body_rows_from d (n + 1) (drop (n + 1) (routines units)) ≡ whole
  one_more n None b row old new whole there is info told made more so_far = absurd (none-some b is)
  one_more n (Some r) b row old new whole there is info told made more so_far =
      let rest = body_rows_from d (n + 1) (drop (n + 1) (routines units)) in
      let next : n + 1 ≡ suc n = omega arith in
      let routine = (in_filter (λ (x : Declared). is_routine x.kind) (declared_members units) r (at_place (routines units) n r there)).1 in
      let its : row ≡ row_by n (method_info r) (body_by d r.class r.kind) = made ∙ ap (λ i. row_by n i b) (sym (same_Some (method_info r) info told)) ∙ ap (row_by n (method_info r)) (sym (same_Some (body_by d r.class r.kind) b is)) in
      ap (λ l. l ++ rest) more
      ∙ append_assoc old (row ∷ []) rest
      ∙ ap (λ x. old ++ x ∷ rest) its
      ∙ ap (λ k. old ++ row_by n (method_info r) (body_by d r.class r.kind) ∷ body_rows_from d k (drop (n + 1) (routines units))) next
      ∙ ap (λ l. old ++ l) (sym (rows_next d n r (drop (n + 1) (routines units)) routine))
      ∙ ap (λ l. old ++ body_rows_from d n l) (sym (dropped (routines units) n r there))
      ∙ so_far

  pub row_more : (bs : List Body) (n : ℕ) (b : Body) (old : List BodyForm) (row : BodyForm) (new : List BodyForm) (whole : List PlainBody) → map resolved.body_view bs ≡ bodies d units → n < length bs → b ≡ get_or bs n b → IsRowAt units n (resolved.body_view b) (body_view row)
      → new ≡ old ++ row ∷ [] → map body_view old ++ body_rows_from d n (drop n (routines units)) ≡ whole → map body_view new ++ body_rows_from d (n + 1) (drop (n + 1) (routines units)) ≡ whole
  row_more bs n b old row new whole are lt is at more so_far =
      one_more n (slice_get (routines units) n) (resolved.body_view b) (body_view row) (map body_view old) (map body_view new) whole refl
      (sym (slice_get-map (λ (r : Declared). body_by d r.class r.kind) (routines units) n) ∙ ap (λ l. slice_get l n) (sym are) ∙ slice_get-map resolved.body_view bs n ∙ ap (option_map resolved.body_view) (slice_get_read bs (length bs) n b refl lt is))
      at.info (sym (slice_get-map method_info (routines units) n) ∙ at.there) at.row
      (ap (map body_view) more ∙ map-append body_view old (row ∷ [])) so_far

  pub rows_end : (bs : List Body) (n : ℕ) (made whole : List PlainBody) → map resolved.body_view bs ≡ bodies d units → length bs ≤ n → made ++ body_rows_from d n (drop n (routines units)) ≡ whole → made ≡ whole
  rows_end bs n made whole are le so_far =
      let many = as_many_bodies bs are in
      sym (append-nil made) ∙ ap (λ l. made ++ body_rows_from d n l) (sym (all_dropped (routines units) n (omega (arith, le, many)))) ∙ so_far
