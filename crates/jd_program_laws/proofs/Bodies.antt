-- The bodies of a program of which no token is refused are resolved.
use Rattle.std.proofs.Common.{◌≡◌, ◌⊎◌, inl, inr, ⊎_elim, ℕ, zero, suc, Bool, true, false, cond, List, [], ◌∷◌, ◌++◌, map, drop, Option, Some, None, Result, Ok, Err, refl, sym, ap, subst, ◌∙◌}
use Rattle.std.specs.List.{slice_get}
use Rattle.std.specs.Option.{option_and_then}
use Rattle.std.proofs.lemmas.List.{map-append}
use Rattle.std.proofs.lemmas.Option.{same_Some, none-some}
use Rattle.jd_syntax.specs.Names.{Name}
use Rattle.jd_syntax.specs.JavaTrees.{JavaMember, FieldMember, ConstantMember, MethodMember, JavaMethod, JavaParameter, JavaUnit}
use Rattle.jd_jclasses.specs.Classes.{DeclaredClass, declared_classes, prelude_count}
use Rattle.jd_jclasses.specs.Members.{Declared, Kind, FieldOf, ConstantOf, RoutineOf, declared_members, is_routine, of_classes, of_member, of_members}
use Rattle.jd_jclasses.specs.Methods.{routines}
use Rattle.jd_model.specs.Occurrences.{AllOf, Always, MaybeIn}
use Rattle.jd_model.specs.Programs.{Body}
use Rattle.jd_model.specs.ResolvedBodies.{AllResolved, IsResolved, NotSpecial}
use Rattle.jd_bodies.specs.declared.fault.Fault.{Fault}
use Rattle.jd_bodies.specs.Bodies.{begun, receiver, with_parameters}
use Rattle.jd_bodies.specs.Declarations.{Declarations, type_by}
use Rattle.jd_bodies.specs.Judgements.{and_then}
use Rattle.jd_bodies.specs.Refused.{fault_from, fault_or, first_fault, member, members, method, place_of}
use Rattle.jd_bodies.specs.Scopes.{Scope, empty_scope}
use Rattle.jd_bodies.specs.Variables.{Progress, local_name, this_name, with_local}
use Rattle.jd_resolved_bodies.specs.Laws.{BodiesAreResolved, ConstantsFit}
use Rattle.jd_resolved_bodies.specs.Lexical.{AreParameters, IsLexicalMethod}
use Rattle.jd_resolved_bodies.proofs.Parts.{plain_local}
use Rattle.jd_jml_meaning.specs.JmlCases.{JmlProgram}
use Rattle.jd_programs.specs.Programs.{IsProgram, body_of_declared, body_of_kind, body_with, parameter_names, variable_name}
use Rattle.jd_declared.proofs.Lists.{In, at_place, in_either, in_filter, in_map}
use Rattle.jd_program_laws.specs.Laws.{AreLexicalMethods}

-- ---- each method of a program of which no token is refused is accepted

abbrev Accepted : Declarations → ℕ → JavaMethod → Type 0
Accepted d class m = (s : Scope) × (method d class m empty_scope ≡ Ok s)

pub through : {A B : Type 0} (f : A → Result B Fault) (r : Result A Fault) (b : B) → and_then f r ≡ Ok b → (a : A) × (r ≡ Ok a) × (f a ≡ Ok b)
through f (Ok a) b e = (a, refl, e)
through f (Err x) b e = absurd cc

same_routine : (m n : JavaMethod) → RoutineOf m ≡ RoutineOf n → m ≡ n
same_routine m n e = cc

module _ (d : Declarations) where
  of_one : (class file place : ℕ) (m : JavaMember) (s : Scope) (r : Declared) (t : JavaMethod) → member d class m ≡ Ok s → In r (of_member class file place m) → r.kind ≡ RoutineOf t → Accepted d r.class t
  of_one class file place (FieldMember f) s r t e h kind = let x = in_map _ f.names r h in absurd (let k : FieldOf f.ty.written ≡ RoutineOf t = ap (λ (q : Declared). q.kind) x.2 ∙ kind in cc)
  of_one class file place (ConstantMember c) s r t e (inl same) kind = absurd (let k : ConstantOf c.value ≡ RoutineOf t = ap (λ (q : Declared). q.kind) (sym same) ∙ kind in cc)
  of_one class file place (ConstantMember c) s r t e (inr none) kind = absurd none
  of_one class file place (MethodMember m) s r t e (inl same) kind =
      let tree = same_routine m t (ap (λ (q : Declared). q.kind) (sym same) ∙ kind) in
      subst (λ c. Accepted d c t) (ap (λ (q : Declared). q.class) (sym same)) (subst (Accepted d class) tree (s, e))
  of_one class file place (MethodMember m) s r t e (inr none) kind = absurd none

  of_class : (class file place : ℕ) (ms : List JavaMember) (s : Scope) (r : Declared) (t : JavaMethod) → members d class ms ≡ Ok s → In r (of_members class file place ms) → r.kind ≡ RoutineOf t → Accepted d r.class t
  of_class class file place [] s r t e h kind = absurd h
  of_class class file place (m ∷ ms) s r t e h kind =
      let g = through (λ q. members d class ms) (member d class m) s e in
      ⊎_elim (λ first. of_one class file place m g.0 r t g.1 first kind) (λ behind. of_class class file (suc place) ms s r t g.2 behind kind) (in_either r (of_member class file place m) (of_members class file (suc place) ms) h)

  no_fault : (file : ℕ) (r : Result Scope Fault) (rest : Option (ℕ × Fault)) → fault_or d file r rest ≡ None → ((s : Scope) × (r ≡ Ok s)) × (rest ≡ None)
  no_fault file (Ok s) rest e = ((s, refl), e)
  no_fault file (Err f) rest e = absurd (none-some (file, f) (sym e))

  of_all : (class : ℕ) (ds : List DeclaredClass) (r : Declared) (t : JavaMethod) → fault_from d class ds ≡ None → In r (of_classes class ds) → r.kind ≡ RoutineOf t → Accepted d r.class t
  of_all class [] r t e h kind = absurd h
  of_all class (c ∷ cs) r t e h kind =
      let g = no_fault c.file (members d class c.tree.members) (fault_from d (suc class) cs) e in
      ⊎_elim (λ first. of_class class c.file 0 c.tree.members g.0.0 r t g.0.1 first kind) (λ behind. of_all (suc class) cs r t g.1 behind kind) (in_either r (of_members class c.file 0 c.tree.members) (of_classes (suc class) cs) h)

pub accepted : (d : Declarations) (units : List JavaUnit) → first_fault d units ≡ None → (m : ℕ) (r : Declared) (t : JavaMethod) → slice_get (routines units) m ≡ Some r → r.kind ≡ RoutineOf t → Accepted d r.class t
accepted d units none m r t there kind =
    of_all d prelude_count (declared_classes units) r t none (in_filter (λ (x : Declared). is_routine x.kind) (declared_members units) r (at_place (routines units) m r there)).0 kind

-- ---- names of parameters

more_names : (xs ys : List Name) → AllOf NotSpecial xs → AllOf NotSpecial ys → AllOf NotSpecial (xs ++ ys)
more_names [] ys p q = q
more_names (x ∷ xs) ys p q = (p.0, more_names xs ys p.1 q)

fewer_names : (n : ℕ) (xs : List Name) → AllOf NotSpecial xs → AllOf NotSpecial (drop n xs)
fewer_names zero xs p = p
fewer_names (suc n) [] p = tt
fewer_names (suc n) (x ∷ xs) p = fewer_names n xs p.1

module _ (d : Declarations) where
  named_parameters : (ps : List JavaParameter) (p : Progress) → AreParameters ps → AllOf NotSpecial (map variable_name p.variables) → AllOf NotSpecial (map variable_name (with_parameters d ps p).variables)
  named_parameters [] p l g = g
  named_parameters (x ∷ xs) p l g =
      let t = type_by d.class_named x.ty.written in
      let name = local_name (x.name.name ∷ p.names) x.name.name t in
      named_parameters xs (with_local x.name.name t p) l.1
      (subst (AllOf NotSpecial) (sym (map-append variable_name p.variables _)) (more_names (map variable_name p.variables) (name ∷ []) g (plain_local (x.name.name ∷ p.names) x.name.name t l.0, tt)))

  begun_names : (class : ℕ) (m : JavaMethod) (b : Bool) → m.is_static ≡ b → AllOf NotSpecial (map variable_name (begun (place_of d class m)).variables)
  begun_names class m true e = subst (λ c. AllOf NotSpecial (map variable_name (receiver (record { class = class; is_static = c })))) (sym e) tt
  begun_names class m false e = subst (λ c. AllOf NotSpecial (map variable_name (receiver (record { class = class; is_static = c })))) (sym e) (refl, tt)

  names_of : (class : ℕ) (m : JavaMethod) → IsLexicalMethod m → AllOf NotSpecial (parameter_names d class m)
  names_of class m l = fewer_names (cond m.is_static 0 1) _ (named_parameters m.parameters (begun (place_of d class m)) l.parameters_ (begun_names class m m.is_static refl))

receiver_named : (b : Bool) → MaybeIn Always NotSpecial (cond b None (Some this_name))
receiver_named true = tt
receiver_named false = refl

module _ (bodies : BodiesAreResolved) (units : List JavaUnit) (lexical : AreLexicalMethods units) (j : JmlProgram) (is : IsProgram units j) (constants : ConstantsFit is.declarations) (none : first_fault is.declarations units ≡ None) where
  of_kind : (m : ℕ) (r : Declared) (k : Kind) (b : Body) → slice_get (routines units) m ≡ Some r → r.kind ≡ k → body_of_kind is.declarations r.class k ≡ Some b → IsResolved b
  of_kind m r (FieldOf t) b there kind e = absurd (none-some b e)
  of_kind m r (ConstantOf n) b there kind e = absurd (none-some b e)
  of_kind m r (RoutineOf t) b there kind e =
      let l = lexical m r t there kind in
      let a = accepted is.declarations units none m r t there kind in
      let made = bodies is.declarations constants r.class t l a.0 a.1 in
      subst IsResolved (same_Some (body_with is.declarations r.class t) b e) (record { code = made.code; assigned = made.assigned; receiver = receiver_named t.is_static; parameters = names_of is.declarations r.class t l })

  of_routine : (m : ℕ) (o : Option Declared) (b : Body) → slice_get (routines units) m ≡ o → option_and_then (body_of_declared is.declarations) o ≡ Some b → IsResolved b
  of_routine m None b there e = absurd (none-some b e)
  of_routine m (Some r) b there e = of_kind m r r.kind b there refl e

  pub all_resolved : AllResolved j.program
  all_resolved m b e = of_routine m (slice_get (routines units) m) b refl (sym (is.bodies m) ∙ e)
