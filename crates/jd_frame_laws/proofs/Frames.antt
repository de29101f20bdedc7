-- What is resolved has no free index.
use Rattle.std.proofs.Common.{◌≡◌, ℕ, zero, suc, Bool, true, false, List, [], ◌∷◌, ◌++◌, map, Option, Some, None, refl, subst, arith}
use Rattle.std.specs.Option.{unwrap_or}
use Rattle.jd_syntax.specs.JavaTrees.{JavaMethod, JavaParameter}
use Rattle.jd_syntax.specs.SpecTrees.{PlainClause, PlainLocation, Assignable}
use Rattle.jd_term.specs.Shifts.{LocFits}
use Rattle.jd_bodies.specs.declared.value.ValueType.{ValueType}
use Rattle.jd_bodies.specs.Declarations.{Declarations}
use Rattle.jd_model.specs.Closed.{Below}
use Rattle.jd_model.specs.Cases.{DeclaredType, Parameter}
use Rattle.jd_model.specs.Programs.{Body, Program}
use Rattle.jd_jml_meaning.specs.ContractFormulas.{constant_at, contract_of, contract_spelling, result_term}
use Rattle.jd_jml_meaning.specs.Laws.{ScopedIsClosed}
use Rattle.jd_jml_meaning.specs.Meaning.{When, Now, Before}
use Rattle.jd_jml_meaning.specs.Resolved.{JmlLocation}
use Rattle.jd_jml_meaning.specs.Scopes.{ClosedSpelling, LocationScoped, LocationsScoped}
use Rattle.jd_specifications.specs.Laws.{ResolvedIsScoped, binders}
use Rattle.jd_specifications.specs.Resolution.{Entry, location}
use Rattle.jd_specifications.specs.WrittenCases.{assignable_else, assignable_of, builds, contract, entries, has_mark, is_pure, result_value, with_locations}
use Rattle.jd_case_rows.specs.Rows.{spelled_for}
use Rattle.jd_frame_laws.proofs.Closed.{loc_fits}

-- ---- the words of a contract

argument_below : (xs : List Parameter) (c k : ℕ) → Below c (constant_at xs k)
argument_below [] c k = tt
argument_below (x ∷ xs) c zero = tt
argument_below (x ∷ xs) c (suc k) = argument_below xs c k

result_below : (r : Option DeclaredType) (c : ℕ) → Below c (result_term r)
result_below None c = tt
result_below (Some t) c = tt

heap_below : (xs : List Parameter) (r : Option DeclaredType) (c : ℕ) (t : When) → Below c ((contract_spelling xs r).heap t)
heap_below xs r c Now = tt
heap_below xs r c Before = tt

closed_spelling : (xs : List Parameter) (r : Option DeclaredType) → ClosedSpelling (contract_spelling xs r)
closed_spelling xs r = record { heap = heap_below xs r; argument = λ c t k. argument_below xs c k; this = λ c. tt; result = λ c. result_below r c; thrown = λ c. tt }

-- ---- locations

both_scoped : (c : ℕ) (ls ms : List JmlLocation) → LocationsScoped c ls → LocationsScoped c ms → LocationsScoped c (ls ++ ms)
both_scoped c [] ms h g = g
both_scoped c (l ∷ ls) ms h g = (h.0, both_scoped c ls ms h.1 g)

abbrev IfScoped : Option (List JmlLocation) → Type 0
IfScoped None = Unit {0}
IfScoped (Some ls) = LocationsScoped 0 ls

with_scoped : (d : Declarations) (class : ℕ) (r : ValueType) (es : List Entry) (ls : List JmlLocation) (o : Option (List JmlLocation)) → LocationsScoped 0 ls → IfScoped o → IfScoped (with_locations d class r es ls o)
with_scoped d class r es ls None h g = h
with_scoped d class r es ls (Some ms) h g = both_scoped 0 ls ms h g

unwrapped : (o : Option (List JmlLocation)) (ls : List JmlLocation) → IfScoped o → LocationsScoped 0 ls → LocationsScoped 0 (unwrap_or o ls)
unwrapped None ls h g = g
unwrapped (Some ms) ls h g = h

else_scoped : (d : Declarations) (pure constructor : Bool) → LocationsScoped 0 (assignable_else d pure constructor)
else_scoped d false b = (tt, tt)
else_scoped d true false = (tt, tt)
else_scoped d true true = (tt, tt)

-- parameters have no binder
no_binders : (d : Declarations) (n : ℕ) (ps : List JavaParameter) (es : List Entry) → binders (entries d n ps es) ≡ binders es
no_binders d n [] es = refl
no_binders d n (p ∷ ps) es = no_binders d (suc n) ps _

module _ (law : ResolvedIsScoped) (d : Declarations) (class : ℕ) (r : ValueType) (es : List Entry) (none : binders es ≡ 0) where
  scoped : (l : PlainLocation) → LocationScoped 0 (location d class r es l)
  scoped l = subst (λ c. LocationScoped c (location d class r es l)) none (law.locations_ d class r es l)

  each_scoped : (ls : List PlainLocation) → LocationsScoped 0 (map (location d class r es) ls)
  each_scoped [] = tt
  each_scoped (l ∷ ls) = (scoped l, each_scoped ls)

  assigned : (cs : List PlainClause) → IfScoped (assignable_of d class r es cs)
  assigned [] = tt
  assigned (Assignable at ls ∷ cs) = with_scoped d class r es (map (location d class r es) ls) (assignable_of d class r es cs) (each_scoped ls) (assigned cs)
  assigned (c ∷ cs) = assigned cs

pub frames_fit : ResolvedIsScoped → ScopedIsClosed → (d : Declarations) (p : Program) (class : ℕ) (t : JavaMethod) (cs : List PlainClause) (b : Body) → LocFits 0 2 (contract_of p (spelled_for b (contract d class t cs))).assignable
frames_fit law closed d p class t cs b =
    let k = spelled_for b (contract d class t cs) in
    let es = entries d 0 t.parameters [] in
    loc_fits 2 0 0 (contract_of p k).assignable (omega arith)
    ((closed p (contract_spelling k.parameters k.result) (closed_spelling k.parameters k.result)).locations_ Before 0 k.assignable
    (unwrapped (assignable_of d class (result_value d t.result) es cs) (assignable_else d (has_mark is_pure t.specs) (builds d t.result))
    (assigned law d class (result_value d t.result) es (no_binders d 0 t.parameters []) cs) (else_scoped d (has_mark is_pure t.specs) (builds d t.result))))
