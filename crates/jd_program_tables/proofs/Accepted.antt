-- Each method of a program of whose JML no token is refused is accepted.
use Rattle.std.proofs.Common.{◌≡◌, ⊎_elim, inl, inr, ℕ, suc, List, [], ◌∷◌, Option, Some, None, Result, Ok, Err, refl, sym, ap, subst, ◌∙◌}
use Rattle.std.specs.List.{slice_get}
use Rattle.std.proofs.lemmas.Option.{none-some}
use Rattle.jd_syntax.specs.JavaTrees.{JavaMember, FieldMember, ConstantMember, MethodMember, JavaMethod, JavaUnit}
use Rattle.jd_syntax.specs.SpecTrees.{PlainSpecBlock}
use Rattle.jd_jclasses.specs.Classes.{DeclaredClass, declared_classes, prelude_count}
use Rattle.jd_jclasses.specs.Members.{Declared, FieldOf, ConstantOf, RoutineOf, declared_members, is_routine, of_classes, of_member, of_members}
use Rattle.jd_jclasses.specs.Methods.{routines}
use Rattle.jd_bodies.specs.Declarations.{Declarations}
use Rattle.jd_specifications.specs.declared.fault.SpecFault.{SpecFault}
use Rattle.jd_specifications.specs.Refused.{fault_from, fault_or, first_fault, member, members, method}
use Rattle.jd_specifications.specs.Scopes.{SpecLocal}
use Rattle.jd_declared.proofs.Lists.{In, at_place, in_either, in_filter, in_map}
use Rattle.jd_spoken.proofs.Expressions.{through}

abbrev pub Accepted : Declarations → ℕ → JavaMethod → Type 0
Accepted d class m = (ls : List SpecLocal) × (method d class m ≡ Ok ls)

same_routine : (m n : JavaMethod) → RoutineOf m ≡ RoutineOf n → m ≡ n
same_routine m n e = cc

module _ (d : Declarations) where
  of_one : (class file place : ℕ) (m : JavaMember) (s : List SpecLocal) (r : Declared) (t : JavaMethod) → member d class m ≡ Ok s → In r (of_member class file place m) → r.kind ≡ RoutineOf t → Accepted d r.class t
  of_one class file place (FieldMember f) s r t e h kind = let x = in_map _ f.names r h in absurd (let k : FieldOf f.ty.written ≡ RoutineOf t = ap (λ (q : Declared). q.kind) x.2 ∙ kind in cc)
  of_one class file place (ConstantMember c) s r t e (inl same) kind = absurd (let k : ConstantOf c.value ≡ RoutineOf t = ap (λ (q : Declared). q.kind) (sym same) ∙ kind in cc)
  of_one class file place (ConstantMember c) s r t e (inr none) kind = absurd none
  of_one class file place (MethodMember m) s r t e (inl same) kind =
      let tree = same_routine m t (ap (λ (q : Declared). q.kind) (sym same) ∙ kind) in
      subst (λ c. Accepted d c t) (ap (λ (q : Declared). q.class) (sym same)) (subst (Accepted d class) tree (s, e))
  of_one class file place (MethodMember m) s r t e (inr none) kind = absurd none

  of_class : (class file place : ℕ) (ms : List JavaMember) (end : Option PlainSpecBlock) (s : List SpecLocal) (r : Declared) (t : JavaMethod) → members d class ms end ≡ Ok s → In r (of_members class file place ms) → r.kind ≡ RoutineOf t → Accepted d r.class t
  of_class class file place [] end s r t e h kind = absurd h
  of_class class file place (m ∷ ms) end s r t e h kind =
      let g = through (λ q. members d class ms end) (member d class m) s e in
      ⊎_elim (λ first. of_one class file place m g.0 r t g.1 first kind) (λ behind. of_class class file (suc place) ms end s r t g.2 behind kind) (in_either r (of_member class file place m) (of_members class file (suc place) ms) h)

  no_fault : (file : ℕ) (r : Result (List SpecLocal) SpecFault) (rest : Option (ℕ × SpecFault)) → fault_or d file r rest ≡ None → ((s : List SpecLocal) × (r ≡ Ok s)) × (rest ≡ None)
  no_fault file (Ok s) rest e = ((s, refl), e)
  no_fault file (Err f) rest e = absurd (none-some (file, f) (sym e))

  of_all : (class : ℕ) (ds : List DeclaredClass) (r : Declared) (t : JavaMethod) → fault_from d class ds ≡ None → In r (of_classes class ds) → r.kind ≡ RoutineOf t → Accepted d r.class t
  of_all class [] r t e h kind = absurd h
  of_all class (c ∷ cs) r t e h kind =
      let g = no_fault c.file (members d class c.tree.members c.tree.end) (fault_from d (suc class) cs) e in
      ⊎_elim (λ first. of_class class c.file 0 c.tree.members c.tree.end g.0.0 r t g.0.1 first kind) (λ behind. of_all (suc class) cs r t g.1 behind kind) (in_either r (of_members class c.file 0 c.tree.members) (of_classes (suc class) cs) h)

pub accepted : (d : Declarations) (units : List JavaUnit) → first_fault d units ≡ None → (m : ℕ) (r : Declared) (t : JavaMethod) → slice_get (routines units) m ≡ Some r → r.kind ≡ RoutineOf t → Accepted d r.class t
accepted d units none m r t there kind =
    of_all d prelude_count (declared_classes units) r t none (in_filter (λ (x : Declared). is_routine x.kind) (declared_members units) r (at_place (routines units) m r there)).0 kind
