-- What a call reaches are the families of the routines for which it counts.
use Rattle.std.proofs.Common.{◌≡◌, ◌<◌, ℕ, true, List, [], length, get_or, Option, Some, None, MatchOption, slice_index, slice_index_or, refl, sym, ap, ◌∙◌, subst, arith}
use Rattle.std.specs.List.{Contains, slice_get}
use Rattle.std.proofs.lemmas.Option.{get_or_from_slice_get, slice_get-get_or, slice_get_within}
use Rattle.jd_ancestry.specs.Laws.{AboveIsTransitive}
use Rattle.jd_syntax.specs.JavaTrees.{JavaUnit}
use Rattle.jd_jcalls.specs.Called.{PlainCalled, MethodNamed, ConstructorOf, ConstructorAbove}
use Rattle.jd_jclasses.specs.CallGraph.{CountsFor, IsConstructorAbove, IsConstructorFor}
use Rattle.jd_jclasses.specs.CallGraph.CountsFor.{by_name, by_new, by_super}
use Rattle.jd_jclasses.specs.Classes.{class_in, class_names, parents}
use Rattle.jd_jclasses.specs.Members.{Declared, declared_members, is_method}
use Rattle.jd_jclasses.specs.Methods.{RoutineAt, routines}
use Rattle.jd_jclasses.specs.Refusals.{AreClasses}
use Rattle.jd_jnumbers.specs.Numbered.{AreNames}
use Rattle.jd_jnumbers.specs.Texts.{number_in}
use Rattle.jd_jseen.specs.Laws.{MembersAreRoutines, ParentsAreClasses, RoutinesAreMembers}
use Rattle.jd_jseen.specs.Own.{routines_before}
use Rattle.jd_jseen.specs.Seen.{RunsNone}
use Rattle.jd_jgraph.specs.Callees.{Lookup, at_most_one, class_above, constructor_of, family_of, list_at, reached}
use Rattle.jd_jgraph.specs.Named.{AreNamed}
use Rattle.jd_jgraph.proofs.Constructors.{one_runs}
use Rattle.jd_jgraph.proofs.Methods.{method_is_routine, the_one}
use Rattle.jd_jgraph.proofs.Positions.{as_many_parents, name_at, parent_at, same_name}

-- calls are looked up in the tables of these files
pub record IsLookup (units : List JavaUnit) (numbers : List ℕ) (l : Lookup) : Type 0 where
  pub classes_are : l.classes ≡ class_names units
  pub extended_are : l.extended ≡ parents units
  pub names_are : AreNames (declared_members units) l.names numbers
  pub named_are : AreNamed (declared_members units) numbers l.families (length (declared_members units)) l.named
  pub as_many : length l.named ≡ length l.names
  pub run : (class : ℕ) → class < length (parents units) → MatchOption (l.runs class) (RunsNone units class) (IsConstructorFor units class)
  pub each : length l.families ≡ length (routines units)

in_none : {X : Type 0} (x : X) → Contains [] x → ⊥
in_none x c = absurd (omega (arith, c.1))

module _ (transitive : AboveIsTransitive) (law : RoutinesAreMembers) (back_law : MembersAreRoutines) (nodes : ParentsAreClasses) (units : List JavaUnit) (are : AreClasses units) (numbers : List ℕ) (l : Lookup) (is : IsLookup units numbers l) where
  -- a routine of this family for which the call counts
  abbrev pub CountsIn : Declared → PlainCalled → ℕ → Type 0
  CountsIn caller c f = (n : ℕ) × CountsFor units caller n c × (slice_index l.families n ≡ f)

  -- ---- methods of a name

  method_in : (caller : Declared) (name : List ℕ) (k f : ℕ) → number_in l.names name ≡ Some k → Contains (slice_index_or l.named k []) f → CountsIn caller (MethodNamed name) f
  method_in caller name k f at c =
      let below : k < length l.named = omega (arith, (name_at l.names name k at).0, is.as_many) in
      let r = (is.named_are k f below).0 c in
      let number : number_in l.names r.member.name.name ≡ Some k = is.names_are.place r.i r.member r.there ∙ ap Some r.named in (
        routines_before (declared_members units) r.i,
        by_name name
            (record {
              routine = r.member;
              there = back_law units r.i r.member r.there (method_is_routine r.member.kind r.method);
              holds = (r.method, same_name l.names r.member.name.name name k number at);
            }),
        r.of_family,
      )

  named_forth : (caller : Declared) (name : List ℕ) (f : ℕ) (o : Option ℕ) → number_in l.names name ≡ o → Contains (list_at l.named o) f → CountsIn caller (MethodNamed name) f
  named_forth caller name f None at c = absurd (in_none f c)
  named_forth caller name f (Some k) at c = method_in caller name k f at c

  named_back : (name : List ℕ) (f n : ℕ) → RoutineAt units n (λ r. (is_method r.kind ≡ true) × (r.name.name ≡ name)) → slice_index l.families n ≡ f → Contains (list_at l.named (number_in l.names name)) f
  named_back name f n r of =
      let i = law units n r.routine r.there in
      let at : number_in l.names name ≡ Some (slice_index numbers i.0) = ap (number_in l.names) (sym r.holds.1) ∙ is.names_are.place i.0 r.routine i.1 in
      let below : slice_index numbers i.0 < length l.named = omega (arith, (name_at l.names name (slice_index numbers i.0) at).0, is.as_many) in
      subst (λ (o : Option ℕ). Contains (list_at l.named o) f) (sym at)
      ((is.named_are (slice_index numbers i.0) f below).1 (record {
        i = i.0;
        before = slice_get_within (declared_members units) i.0 r.routine i.1;
        member = r.routine;
        there = i.1;
        method = r.holds.0;
        named = refl;
        of_family = ap (slice_index l.families) (sym i.3) ∙ of;
      }))

  -- ---- constructors that run for a class

  abbrev RunsIn : ℕ → ℕ → Type 0
  RunsIn class f = (n : ℕ) × IsConstructorFor units class n × (slice_index l.families n ≡ f)

  runs_by : (class f : ℕ) (o : Option ℕ) → MatchOption o (RunsNone units class) (IsConstructorFor units class) → Contains (at_most_one (family_of l.families o)) f → RunsIn class f
  runs_by class f None m c = absurd (in_none f c)
  runs_by class f (Some n) m c = by (slice_get l.families n) refl c
    where
      by : (o : Option ℕ) → slice_get l.families n ≡ o → Contains (at_most_one o) f → RunsIn class f
      by None e h = absurd (in_none f h)
      by (Some x) e h = (n, m, get_or_from_slice_get l.families n x 0 e ∙ the_one x f h)

  runs_forth : (class f : ℕ) → class < length (parents units) → Contains (at_most_one (constructor_of l (Some class))) f → RunsIn class f
  runs_forth class f lt c = runs_by class f (l.runs class) (is.run class lt) c

  runs_of : (class f n : ℕ) → IsConstructorFor units class n → slice_index l.families n ≡ f → (o : Option ℕ) → MatchOption o (RunsNone units class) (IsConstructorFor units class) → Contains (at_most_one (family_of l.families o)) f
  runs_of class f n r of None none = absurd (none r.owner n r.inherited r.declared)
  runs_of class f n r of (Some k) other =
      let same : n ≡ k = one_runs transitive law units are class n k r other in
      let below : k < length l.families = omega (arith, same, is.each, slice_get_within (routines units) n r.declared.routine r.declared.there) in
      subst (λ (o : Option ℕ). Contains (at_most_one o) f) (sym (slice_get-get_or l.families k 0 below)) (0, omega arith, ap (slice_index l.families) (sym same) ∙ of)

  runs_back : (class f n : ℕ) → class < length (parents units) → IsConstructorFor units class n → slice_index l.families n ≡ f → Contains (at_most_one (constructor_of l (Some class))) f
  runs_back class f n lt r of = runs_of class f n r of (l.runs class) (is.run class lt)

  -- ---- `new C(..)`

  class_below : (name : List ℕ) (class : ℕ) → class_in (class_names units) name ≡ Some class → class < length (parents units)
  class_below name class at = omega (arith, (name_at (class_names units) name class at).0, as_many_parents units)

  new_forth : (caller : Declared) (name : List ℕ) (f : ℕ) (o : Option ℕ) → class_in (class_names units) name ≡ o → Contains (at_most_one (constructor_of l o)) f → CountsIn caller (ConstructorOf name) f
  new_forth caller name f None at c = absurd (in_none f c)
  new_forth caller name f (Some class) at c = let r = runs_forth class f (class_below name class at) c in (r.0, by_new name class at r.1, r.2)

  found : (name : List ℕ) → class_in l.classes name ≡ class_in (class_names units) name
  found name = ap (λ (names : List (List ℕ)). class_in names name) is.classes_are

  -- ---- `super(..)`

  above_is : (class : ℕ) → class_above l class ≡ get_or (parents units) class None
  above_is class = ap (λ (p : List (Option ℕ)). get_or p class None) is.extended_are

  pub above_forth : (class f : ℕ) (o : Option ℕ) → get_or (parents units) class None ≡ o → Contains (at_most_one (constructor_of l o)) f → (n : ℕ) × IsConstructorAbove units class n × (slice_index l.families n ≡ f)
  above_forth class f None at c = absurd (in_none f c)
  above_forth class f (Some p) at c =
      let extended = parent_at (parents units) class p at in
      let r = runs_forth p f (nodes units p class extended) c in
      (r.0, record { parent = p; extended = extended; runs = r.1 }, r.2)

  pub super_forth : (class f : ℕ) → Contains (reached l class ConstructorAbove) f → (n : ℕ) × IsConstructorAbove units class n × (slice_index l.families n ≡ f)
  super_forth class f c = above_forth class f (class_above l class) (sym (above_is class)) c

  pub super_back : (class f n : ℕ) → IsConstructorAbove units class n → slice_index l.families n ≡ f → Contains (reached l class ConstructorAbove) f
  super_back class f n r of =
      subst (λ (o : Option ℕ). Contains (at_most_one (constructor_of l o)) f) (sym (above_is class ∙ get_or_from_slice_get (parents units) class (Some r.parent) None r.extended))
      (runs_back r.parent f n (nodes units r.parent class r.extended) r.runs of)

  -- ---- a call

  pub counts_forth : (caller : Declared) (c : PlainCalled) (f : ℕ) → Contains (reached l caller.class c) f → CountsIn caller c f
  counts_forth caller (MethodNamed name) f h = named_forth caller name f (number_in l.names name) refl h
  counts_forth caller (ConstructorOf name) f h =
      new_forth caller name f (class_in l.classes name) (sym (found name)) h
  counts_forth caller ConstructorAbove f h = let r = super_forth caller.class f h in (r.0, by_super r.1, r.2)

  pub counts_back : (caller : Declared) (c : PlainCalled) (f n : ℕ) → CountsFor units caller n c → slice_index l.families n ≡ f → Contains (reached l caller.class c) f
  counts_back caller c f n (by_name name r) of = named_back name f n r of
  counts_back caller c f n (by_new name class at r) of =
      subst (λ (o : Option ℕ). Contains (at_most_one (constructor_of l o)) f) (sym (found name ∙ at)) (runs_back class f n (class_below name class at) r of)
  counts_back caller c f n (by_super r) of = super_back caller.class f n r of
