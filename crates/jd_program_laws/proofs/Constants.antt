-- The constants of a method's parameters are apart, and none is that of the heap or of the receiver.
use Rattle.std.proofs.Common.{◌≡◌, ◌≢◌, ℕ, Bool, true, false, not, ◌==◌, ◌&&◌, if◌then◌else◌, List, [], ◌∷◌, map, codes, bytes_eq, Option, Some, None, Ok, refl, sym, ap, subst, ◌∙◌}
use Rattle.std.specs.List.{list_all}
use Rattle.std.specs.Option.{is_none}
use Rattle.std.proofs.lemmas.Slice.Eq.{bytes_eq-Decides}
use Rattle.jd_base.specs.declared.sort.Sort.{Sort}
use Rattle.jd_base.specs.declared.sort.Sort.TheVariants.{Int as IntSort, Bool as BoolSort, Ref as RefSort, Heap as HeapSort, Field as FieldSort}
use Rattle.jd_syntax.specs.CodeNames.{same_name}
use Rattle.jd_syntax.specs.Names.{Name}
use Rattle.jd_syntax.specs.JavaTrees.{JavaMethod, JavaParameter}
use Rattle.jd_syntax.proofs.NameTests.{same_name_decides}
use Rattle.jd_model.specs.EntryExit.{constants_of}
use Rattle.jd_model.specs.Occurrences.{AllApart, NotIn}
use Rattle.jd_model.specs.SpecialNames.{entry_heap, receiver}
use Rattle.jd_model.specs.Tables.{parameter_constant, source_name}
use Rattle.jd_bodies.specs.declared.value.ValueType.{ValueType}
use Rattle.jd_bodies.specs.declared.value.ValueType.TheVariants as types
use Rattle.jd_bodies.specs.Declarations.{Declarations}
use Rattle.jd_bodies.specs.Expressions.{written_type}
use Rattle.jd_bodies.specs.Judgements.{and_then, only_if}
use Rattle.jd_bodies.specs.Refused.{body, method, with_parameters}
use Rattle.jd_bodies.specs.Scopes.{Local, Scope, empty_scope, local_named}
use Rattle.jd_bodies.specs.Statements.{with_local, with_name}
use Rattle.jd_bodies.specs.Variables.{sort_of}
use Rattle.jd_specifications.specs.WrittenCases.{parameter, type_written}
use Rattle.jd_program_laws.specs.Laws.{AreParameterNames, IsParameterName}
use Rattle.jd_program_laws.proofs.Bodies.{through}

-- ---- the constant of a name tells the name

no_mark : (x : List ℕ) → list_all (λ b. not (b == 39)) x ≡ true → source_name x ≡ x
no_mark [] e = refl
no_mark (b ∷ bs) e = by (b == 39) e (no_mark bs)
  where
    by : (t : Bool) → not t && list_all (λ c. not (c == 39)) bs ≡ true → (list_all (λ c. not (c == 39)) bs ≡ true → source_name bs ≡ bs) → (if t then [] else (b ∷ source_name bs)) ≡ b ∷ bs
    by true e rest = absurd cc
    by false e rest = ap (λ l. b ∷ l) (rest e)

abbrev pub constant_for : List ℕ → Sort → Name
constant_for x s = parameter_constant (record { text = x; sort = s })

behind_letter : (s : Sort) (x y : List ℕ) → (constant_for x s).text ≡ (constant_for y s).text → source_name x ≡ source_name y
behind_letter IntSort x y e = cc
behind_letter BoolSort x y e = cc
behind_letter RefSort x y e = cc
behind_letter HeapSort x y e = cc
behind_letter FieldSort x y e = cc

abbrev Unmarked : List ℕ → Type 0
Unmarked x = list_all (λ b. not (b == 39)) x ≡ true

constants_tell : (x y : List ℕ) (s t : Sort) → Unmarked x → Unmarked y → constant_for x s ≡ constant_for y t → x ≡ y
constants_tell x y s t p q e =
    let sorts : s ≡ t = ap (λ (n : Name). n.sort) e in
    let texts : (constant_for x s).text ≡ (constant_for y s).text = ap (λ (n : Name). n.text) e ∙ ap (λ k. (constant_for y k).text) (sym sorts) in
    sym (no_mark x p) ∙ behind_letter s x y texts ∙ no_mark y q

pub refuted : (v w : Name) → (v ≡ w → ⊥) → same_name v w ≡ false
refuted v w unlike = by (same_name v w) refl
  where
    by : (b : Bool) → same_name v w ≡ b → b ≡ false
    by true e = absurd (unlike ((same_name_decides v w).0 e))
    by false e = refl

-- ---- parameters that are not refused

abbrev Unlike : List ℕ → List JavaParameter → Type 0
Unlike x [] = Unit {0}
Unlike x (p ∷ ps) = (x ≢ p.name.name) × Unlike x ps

abbrev Distinct : List JavaParameter → Type 0
Distinct [] = Unit {0}
Distinct (p ∷ ps) = Unlike p.name.name ps × Distinct ps

abbrev Fresh : List Local → List JavaParameter → Type 0
Fresh locals [] = Unit {0}
Fresh locals (p ∷ ps) = (local_named locals p.name.name ≡ None) × Fresh locals ps

none_is : {A : Type 0} (o : Option A) → is_none o ≡ true → o ≡ None
none_is None e = refl
none_is (Some a) e = absurd cc

only : (b : Bool) (at : ℕ) (cause : _) (a t : Scope) → only_if b at cause a ≡ Ok t → (b ≡ true) × (a ≡ t)
only true at cause a t e = (refl, cc)
only false at cause a t e = absurd cc

-- what is new beside one more is new, and unlike it
past : (x : List ℕ) (t : ValueType) (locals : List Local) (ps : List JavaParameter) → Fresh (record { name = x; type = t } ∷ locals) ps → Fresh locals ps × Unlike x ps
past x t locals [] f = (tt, tt)
past x t locals (p ∷ ps) f = let r = past x t locals ps f.1 in let h = by (bytes_eq x p.name.name) refl f.0 in ((h.0, r.0), (h.1, r.1))
  where
    by : (b : Bool) → bytes_eq x p.name.name ≡ b → (if b then Some t else local_named locals p.name.name) ≡ None → (local_named locals p.name.name ≡ None) × (x ≢ p.name.name)
    by true is e = absurd cc
    by false is e = (e, λ same. let yes : bytes_eq x p.name.name ≡ true = (bytes_eq-Decides x p.name.name).1 same in cc)

module _ (d : Declarations) where
  fresh : (ps : List JavaParameter) (s t : Scope) → with_parameters d ps s ≡ Ok t → Fresh s.locals ps × Distinct ps
  fresh [] s t e = (tt, tt)
  fresh (p ∷ ps) s t e =
      let g = through (with_parameters d ps) (and_then (λ k. with_name p.name k s) (written_type d p.ty)) t e in
      let h = through (λ k. with_name p.name k s) (written_type d p.ty) g.0 g.1 in
      let i = only (is_none (local_named s.locals p.name.name)) p.name.at _ (with_local p.name.name h.0 s) g.0 h.2 in
      let r = fresh ps g.0 t g.2 in
      let more = past p.name.name h.0 s.locals ps (subst (λ (u : Scope). Fresh u.locals ps) (sym i.1) r.0) in
      ((none_is (local_named s.locals p.name.name) i.0, more.0), (more.1, r.1))

  -- ---- their constants

  abbrev constant_of : JavaParameter → Name
  constant_of p = constant_for p.name.name (sort_of (type_written d p.ty))

  apart_from : (x : List ℕ) (s : Sort) (ps : List JavaParameter) → IsParameterName x → AreParameterNames ps → Unlike x ps → NotIn (constant_for x s) (constants_of (map (parameter d) ps))
  apart_from x s [] is are u = tt
  apart_from x s (p ∷ ps) is are u =
      (refuted (constant_for x s) (constant_of p) (λ e. u.0 (constants_tell x p.name.name s (sort_of (type_written d p.ty)) is.bytes are.0.bytes e)), apart_from x s ps is are.1 u.1)

  all_apart : (ps : List JavaParameter) → AreParameterNames ps → Distinct ps → AllApart (constants_of (map (parameter d) ps))
  all_apart [] are u = tt
  all_apart (p ∷ ps) are u = (apart_from p.name.name (sort_of (type_written d p.ty)) ps are.0 are.1 u.0, all_apart ps are.1 u.1)

  no_heap : (t : ValueType) → HeapSort ≡ sort_of t → ⊥
  no_heap types.Int e = cc
  no_heap types.Boolean e = cc
  no_heap types.Null e = cc
  no_heap types.IntArray e = cc
  no_heap (types.Class c) e = cc
  no_heap types.Missing e = cc

  not_heap : (ps : List JavaParameter) → NotIn entry_heap (constants_of (map (parameter d) ps))
  not_heap [] = tt
  not_heap (p ∷ ps) = (refuted entry_heap (constant_of p) (λ e. no_heap (type_written d p.ty) (ap (λ (n : Name). n.sort) e)), not_heap ps)

  not_this : (x : List ℕ) (s : Sort) → IsParameterName x → receiver ≡ constant_for x s → ⊥
  not_this x s is e = is.no_this (sym (constants_tell (codes "this") x RefSort s refl is.bytes e))

  not_receiver : (ps : List JavaParameter) → AreParameterNames ps → NotIn receiver (constants_of (map (parameter d) ps))
  not_receiver [] are = tt
  not_receiver (p ∷ ps) are = (refuted receiver (constant_of p) (not_this p.name.name (sort_of (type_written d p.ty)) are.0), not_receiver ps are.1)

  pub own_constants : (ps : List JavaParameter) (s t : Scope) → AreParameterNames ps → with_parameters d ps s ≡ Ok t → AllApart (entry_heap ∷ receiver ∷ constants_of (map (parameter d) ps))
  own_constants ps s t are e = ((refl, not_heap ps), (not_receiver ps are, all_apart ps are (fresh ps s t e).1))

  pub of_method : (class : ℕ) (m : JavaMethod) (s : Scope) → AreParameterNames m.parameters → method d class m empty_scope ≡ Ok s → AllApart (entry_heap ∷ receiver ∷ constants_of (map (parameter d) m.parameters))
  of_method class m s are e =
      let g = through (body d class m) _ s e in
      let h = through (with_parameters d m.parameters) _ g.0 g.1 in
      own_constants m.parameters h.0 g.0 are h.2
