-- Two programs that are both what files mean answer alike.
use Rattle.std.proofs.Common.{◌≡◌, ◌⊎◌, inl, inr, ℕ, ◌<◌, ◌≤◌, Bool, true, List, ◌∷◌, length, reverse, Option, Some, None, MatchOption, refl, sym, ap, ap₂, subst, ◌∙◌, slice_get}
use Rattle.std.specs.Option.{option_and_then}
use Rattle.std.proofs.lemmas.Bool.{cases_lt}
use Rattle.std.proofs.lemmas.Option.{same_Some, none-some}
use mathlib.Core.List.{reverse-reverse}
use mathlib.Core.Path.{fun_ext}
use Rattle.jd_syntax.specs.JavaTrees.{JavaUnit}
use Rattle.jd_jclasses.specs.Classes.{parents}
use Rattle.jd_jclasses.specs.Laws.{OneMethod}
use Rattle.jd_jclasses.specs.Members.{Declared, Kind, FieldOf, ConstantOf, RoutineOf, declared_members, is_field}
use Rattle.jd_jclasses.specs.Methods.{IsSeen, SeesNone, fields, routines}
use Rattle.jd_jclasses.specs.Refusals.{AreClasses}
use Rattle.jd_classes.specs.Fields.{IsLineage}
use Rattle.jd_classes.specs.Fields.IsLineage.{extends, topmost}
use Rattle.jd_bodies.specs.Declarations.{Declarations, type_by}
use Rattle.jd_declaration_laws.specs.Laws.{DeclarationsAreOne}
use Rattle.jd_declared.proofs.Lists.{at_place, in_filter}
use Rattle.jd_model.specs.Programs.{Body, Program, ValueType}
use Rattle.jd_jml_meaning.specs.JmlCases.{JmlProgram}
use Rattle.jd_specifications.specs.WrittenCases.{model_type}
use Rattle.jd_programs.specs.Programs.{IsProgram, body_of_declared, class_tree, declared_along, invariants_of_tree}

-- ---- lineages

only_above : (o : Option (Option ℕ)) (a b : Option ℕ) → o ≡ Some a → o ≡ Some b → a ≡ b
only_above o a b e f = same_Some a b (sym e ∙ f)

one_lineage : (ps : List (Option ℕ)) (c : ℕ) (l m : List ℕ) → IsLineage ps c l → IsLineage ps c m → l ≡ m
one_lineage ps c l m (topmost _ e) (topmost _ f) = refl
one_lineage ps c l m (topmost _ e) (extends a _ above f rest) = absurd (none-some a (only_above (slice_get ps c) None (Some a) e f))
one_lineage ps c l m (extends a _ above e rest) (topmost _ f) = absurd (none-some a (only_above (slice_get ps c) None (Some a) f e))
one_lineage ps c l m (extends a _ above e rest) (extends b _ above' f rest') =
    ap (λ x. c ∷ x) (one_lineage ps a above above' rest (subst (λ x. IsLineage ps x above') (same_Some b a (only_above (slice_get ps c) (Some b) (Some a) f e)) rest'))

from_reverse : (l m : List ℕ) → reverse l ≡ reverse m → l ≡ m
from_reverse l m e = sym (reverse-reverse l) ∙ ap reverse e ∙ reverse-reverse m

-- ---- answers

named_once : (o : Option ℕ) (a b : ℕ) → o ≡ Some a → o ≡ Some b → a ≡ b
named_once o a b e f = same_Some a b (sym e ∙ f)

-- of two answers of which each is right, where only one is
one_of : {None_ : Type 0} {Is : ℕ → Type 0} → ((x : ℕ) → None_ → Is x → ⊥) → ((x y : ℕ) → Is x → Is y → x ≡ y) → (o q : Option ℕ) → MatchOption o None_ Is → MatchOption q None_ Is → o ≡ q
one_of apart same None None h g = refl
one_of apart same None (Some y) h g = absurd (apart y h g)
one_of apart same (Some x) None h g = absurd (apart x g h)
one_of apart same (Some x) (Some y) h g = ap Some (same x y h g)

applied : {A B : Type 0} {f g : A → B} {x y : A} → f ≡ g → x ≡ y → f x ≡ g y
applied e h = ap₂ (λ f x. f x) e h

abbrev made : (ℕ → List ℕ) → ℕ → ℕ → ℕ → ℕ → ℕ → ℕ → ℕ → (ℕ → ValueType) → (ℕ → ℕ → Bool) → (ℕ → ℕ → Option ℕ) → (ℕ → Option Body) → Program
made superclasses object throwable null_pointer arithmetic bounds cast negative_size field_type has_field lookup body = record {
  superclasses = superclasses;
  object = object;
  throwable = throwable;
  null_pointer = null_pointer;
  arithmetic = arithmetic;
  bounds = bounds;
  cast = cast;
  negative_size = negative_size;
  field_type = field_type;
  has_field = has_field;
  lookup = lookup;
  body = body;
}

module _ (law : DeclarationsAreOne) (methods : OneMethod) (units : List JavaUnit) (stand : AreClasses units) (j k : JmlProgram) (of_j : IsProgram units j) (of_k : IsProgram units k) where
  abbrev p : Program
  p = j.program

  abbrev q : Program
  q = k.program

  declared : of_j.declarations ≡ of_k.declarations
  declared = law units stand of_j.declarations of_k.declarations of_j.are_declarations of_k.are_declarations

  -- ---- classes

  lineage_at : (c : ℕ) → (c < length (parents units)) ⊎ (length (parents units) ≤ c) → p.superclasses c ≡ q.superclasses c
  lineage_at c (inl lt) =
      from_reverse (p.superclasses c) (q.superclasses c)
      (one_lineage (parents units) c (reverse (p.superclasses c)) (reverse (q.superclasses c)) (of_j.classes.superclasses c lt) (of_k.classes.superclasses c lt))
  lineage_at c (inr le) = of_j.classes.no_class c le ∙ sym (of_k.classes.no_class c le)

  lineages : p.superclasses ≡ q.superclasses
  lineages = fun_ext (λ c. lineage_at c (cases_lt c (length (parents units))))

  -- ---- fields

  shown_field : (f : ℕ) (one : Declared) (b : Bool) → slice_get (fields units) f ≡ Some one → is_field one.kind ≡ b → b ≡ true
  shown_field f one b there e = sym e ∙ (in_filter (λ (m : Declared). is_field m.kind) (declared_members units) one (at_place (fields units) f one there)).1

  type_by_kind : (f : ℕ) (one : Declared) (t : Kind) → slice_get (fields units) f ≡ Some one → one.kind ≡ t → p.field_type f ≡ q.field_type f
  type_by_kind f one (FieldOf t) there is =
      of_j.fields_.types f one t there is
      ∙ ap (λ (d : Declarations). model_type d (type_by d.class_named t)) declared
      ∙ sym (of_k.fields_.types f one t there is)
  type_by_kind f one (ConstantOf n) there is = absurd (let no = shown_field f one _ there (ap is_field is) in cc)
  type_by_kind f one (RoutineOf m) there is = absurd (let no = shown_field f one _ there (ap is_field is) in cc)

  type_at : (f : ℕ) (o : Option Declared) → slice_get (fields units) f ≡ o → p.field_type f ≡ q.field_type f
  type_at f None none = of_j.fields_.no_type f none ∙ sym (of_k.fields_.no_type f none)
  type_at f (Some one) there = type_by_kind f one one.kind there refl

  types : p.field_type ≡ q.field_type
  types = fun_ext (λ f. type_at f (slice_get (fields units) f) refl)

  fields_had : p.has_field ≡ q.has_field
  fields_had = fun_ext (λ c. fun_ext (λ f.
      of_j.fields_.has_field c f
      ∙ ap (λ (l : ℕ → List ℕ). declared_along (l c) (slice_get (fields units) f)) lineages
      ∙ sym (of_k.fields_.has_field c f)))

  -- ---- methods

  found_at : (c m : ℕ) (o : Option Declared) → slice_get (routines units) m ≡ o → p.lookup c m ≡ q.lookup c m
  found_at c m None none = of_j.lookup.none c m none ∙ sym (of_k.lookup.none c m none)
  found_at c m (Some r) there =
      one_of {None_ = SeesNone units c r.name.name} {Is = IsSeen units c r.name.name} (λ n none is. none is.owner n is.inherited is.declared)
      (λ n o is at. methods.one_seen units c r.name.name n o stand is at) (p.lookup c m) (q.lookup c m) (of_j.lookup.seen c m r there) (of_k.lookup.seen c m r there)

  found : p.lookup ≡ q.lookup
  found = fun_ext (λ c. fun_ext (λ m. found_at c m (slice_get (routines units) m) refl))

  bodies : p.body ≡ q.body
  bodies = fun_ext (λ m.
      of_j.bodies m
      ∙ ap (λ (d : Declarations). option_and_then (body_of_declared d) (slice_get (routines units) m)) declared
      ∙ sym (of_k.bodies m))

  -- ---- all of it

  one_program : p ≡ q
  one_program =
      applied (applied (applied (applied (applied (applied (applied (applied (applied (applied (applied (ap made lineages)
      (named_once _ p.object q.object of_j.classes.object of_k.classes.object))
      (named_once _ p.throwable q.throwable of_j.classes.throwable of_k.classes.throwable))
      (named_once _ p.null_pointer q.null_pointer of_j.classes.null_pointer of_k.classes.null_pointer))
      (named_once _ p.arithmetic q.arithmetic of_j.classes.arithmetic of_k.classes.arithmetic))
      (named_once _ p.bounds q.bounds of_j.classes.bounds of_k.classes.bounds))
      (named_once _ p.cast q.cast of_j.classes.cast of_k.classes.cast))
      (named_once _ p.negative_size q.negative_size of_j.classes.negative_size of_k.classes.negative_size))
      types)
      fields_had)
      found)
      bodies

  invariants : j.own ≡ k.own
  invariants = fun_ext (λ c.
      of_j.invariants_ c
      ∙ ap (λ (d : Declarations). invariants_of_tree d c (class_tree units c)) declared
      ∙ sym (of_k.invariants_ c))

  pub one_meaning : (j.program ≡ k.program) × (j.own ≡ k.own)
  one_meaning = (one_program, invariants)
