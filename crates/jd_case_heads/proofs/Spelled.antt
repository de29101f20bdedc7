-- Parameters one by one.
use Rattle.std.proofs.Common.{◌≡◌, ℕ, zero, suc, ◌+◌, ◌<◌, ◌≤◌, length, get_or, Bool, false, List, [], ◌∷◌, ◌++◌, map, take, Some, None, option_map, refl, sym, ap, ap₂, ◌∙◌, slice_get, arith}
use Rattle.std.specs.Option.{unwrap_or}
use Rattle.std.proofs.lemmas.List.{length-map}
use Rattle.std.proofs.lemmas.Option.{none-some, same_Some, slice_get-map, slice_get_past, slice_get_read}
use Rattle.jd_syntax.specs.JavaTrees.{JavaParameter}
use Rattle.jd_syntax.specs.Names.{Name}
use Rattle.jd_syntax.specs.declared.variable.VarDecl.{VarDecl}
use Rattle.jd_bodies.specs.Declarations.{Declarations}
use Rattle.jd_model.specs.Cases.{Parameter}
use Rattle.jd_model.specs.Tables.{parameter_constant}
use Rattle.jd_case_rows.specs.Rows.{respelled}
use Rattle.jd_jml_written.specs.Marked.{nullable_parameters}
use Rattle.jd_jml_cases.proofs.Listing.{taken_more}
use Rattle.jd_specifications.specs.WrittenCases.{has_mark, is_nullable, parameter}
use Rattle.jd_case_heads.specs.Parameters.{constant_names, decl_name, respelled_name, spelled_parameter}

respelled_at : (xs : List Name) (qs : List Parameter) (i : ℕ) (q : Parameter) → slice_get qs i ≡ Some q → slice_get (respelled xs qs) i ≡ Some (record { constant = respelled_name (slice_get xs i) q; declared = q.declared })
respelled_at xs [] i q there = absurd (none-some q there)
respelled_at [] (p ∷ qs) i q there = there
respelled_at (x ∷ xs) (p ∷ qs) zero q there = ap (λ (r : Parameter). Some (record { constant = x; declared = r.declared })) (same_Some p q there)
respelled_at (x ∷ xs) (p ∷ qs) (suc i) q there = respelled_at xs qs i q there

-- ---- all of them

all_taken : {X : Type 0} (l : List X) (i : ℕ) → length l ≤ i → take i l ≡ l
all_taken [] zero le = refl
all_taken [] (suc i) le = refl
all_taken (x ∷ xs) zero le = absurd (omega (arith, le))
all_taken (x ∷ xs) (suc i) le = ap (λ l. x ∷ l) (all_taken xs i (omega (arith, le)))

as_many : (xs : List Name) (qs : List Parameter) → length (respelled xs qs) ≡ length qs
as_many xs [] = refl
as_many [] (q ∷ qs) = refl
as_many (x ∷ xs) (q ∷ qs) = ap suc (as_many xs qs)

pub all_spelled : {X : Type 0} (d : Declarations) (xs : List Name) (tree : X → JavaParameter) (ps : List X) (i : ℕ) → length ps ≤ i → take i (respelled xs (map (parameter d) (map tree ps))) ≡ respelled xs (map (parameter d) (map tree ps))
all_spelled d xs tree ps i past =
    let many : length (respelled xs (map (parameter d) (map tree ps))) ≡ length ps = as_many xs (map (parameter d) (map tree ps)) ∙ length-map (map tree ps) (parameter d) ∙ length-map ps tree in
    all_taken (respelled xs (map (parameter d) (map tree ps))) i (omega (arith, past, many))

pub one_there : {X : Type 0} (tree : X → JavaParameter) (ps : List X) (i : ℕ) (x : X) → i < length ps → x ≡ get_or ps i x → slice_get (map tree ps) i ≡ Some (tree x)
one_there tree ps i x lt is = slice_get-map tree ps i ∙ ap (option_map tree) (slice_get_read ps (length ps) i x refl lt is)

-- the constant of the variable at a position
pub named_at : (vs : List VarDecl) (i : ℕ) (v : VarDecl) → i < length vs → v ≡ get_or vs i v → slice_get (constant_names vs) i ≡ Some (parameter_constant (decl_name v))
named_at vs i v lt is =
    slice_get-map parameter_constant (map decl_name vs) i
    ∙ ap (option_map parameter_constant) (slice_get-map decl_name vs i ∙ ap (option_map decl_name) (slice_get_read vs (length vs) i v refl lt is))

pub none_at : (vs : List VarDecl) (i : ℕ) → length vs ≤ i → slice_get (constant_names vs) i ≡ None
none_at vs i past =
    slice_get-map parameter_constant (map decl_name vs) i
    ∙ ap (option_map parameter_constant) (slice_get-map decl_name vs i ∙ ap (option_map decl_name) (slice_get_past vs i past))

module _ (d : Declarations) (xs : List Name) (ps : List JavaParameter) where
  marked_at : (i : ℕ) (p : JavaParameter) → slice_get ps i ≡ Some p → unwrap_or (slice_get (nullable_parameters ps) i) false ≡ has_mark is_nullable p.specs
  marked_at i p there = ap (λ o. unwrap_or o false) (slice_get-map (λ (q : JavaParameter). has_mark is_nullable q.specs) ps i ∙ ap (option_map (λ (q : JavaParameter). has_mark is_nullable q.specs)) there)

  -- one more of those that are made
  pub one_more : (nullable : List Bool) (i : ℕ) (p : JavaParameter) (marked : Bool) (q : Parameter) (done new : List Parameter) → nullable ≡ nullable_parameters ps → slice_get ps i ≡ Some p → marked ≡ unwrap_or (slice_get nullable i) false
      → q ≡ spelled_parameter d xs i p marked → done ≡ take i (respelled xs (map (parameter d) ps)) → new ≡ done ++ q ∷ [] → new ≡ take (i + 1) (respelled xs (map (parameter d) ps))
  one_more nullable i p marked q done new are there marks is so_far more =
      more
      ∙ ap₂ (λ l r. l ++ r ∷ []) so_far (is ∙ ap (spelled_parameter d xs i p) (marks ∙ ap (λ l. unwrap_or (slice_get l i) false) are ∙ marked_at i p there))
      ∙ sym (taken_more (respelled xs (map (parameter d) ps)) i (spelled_parameter d xs i p (has_mark is_nullable p.specs))
      (respelled_at xs (map (parameter d) ps) i (parameter d p) (slice_get-map (parameter d) ps i ∙ ap (option_map (parameter d)) there)))
