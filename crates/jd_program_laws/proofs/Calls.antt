-- The body that a call runs has a case for each case of the method that is called.
use Rattle.std.proofs.Common.{◌≡◌, ◌⊎◌, inl, inr, ◌<◌, ◌+◌, ℕ, suc, Bool, true, false, not, ◌||◌, cond, nat_eq, if◌then◌else◌, List, [], length, map, flat_map, Option, Some, None, option_map, refl, sym, ap, subst, ◌∙◌, arith, MatchOption}
use Rattle.std.specs.List.{range_with_len, slice_get}
use Rattle.std.specs.Option.{option_and_then}
use Rattle.std.proofs.lemmas.Option.{same_Some, none-some}
use Rattle.jd_ancestry.specs.Laws.{AboveIsTransitive}
use Rattle.jd_base.specs.declared.sort.Sort.TheVariants.{Ref as RefSort}
use Rattle.jd_syntax.specs.JavaTypes.{PlainType, IntType, BooleanType, IntArrayType, NamedType}
use Rattle.jd_syntax.specs.JavaTrees.{JavaMethod, JavaResult, Void, Gives, OfConstructor, JavaUnit}
use Rattle.jd_jclasses.specs.Classes.{IsAncestor, IsSubclass, declared_classes, parents, prelude_count}
use Rattle.jd_jclasses.specs.Laws.{OneMethod}
use Rattle.jd_jclasses.specs.Members.{Declared, Kind, FieldOf, ConstantOf, RoutineOf, declared_members, is_constructor, is_method, is_static, result_of, result_type}
use Rattle.jd_jclasses.specs.Members as members
use Rattle.jd_jclasses.specs.Methods.{IsSeen, SeesNone, SameFamily, routines}
use Rattle.jd_jclasses.specs.Methods.SameFamily.{its_own, over}
use Rattle.jd_jclasses.specs.Refusals.{AreClasses}
use Rattle.jd_jinfos.specs.Infos.{PlainMethodInfo, PlainOwnMembers, method_info, own_nothing, own_of}
use Rattle.jd_jinfos.proofs.Together.{own_in_infos}
use Rattle.jd_model.specs.Cases.{Case, Role, Static, Ordinary, Helper, ConstructorOf}
use Rattle.jd_model.specs.Programs.{Body, Program, type_sort}
use Rattle.jd_names.specs.Tables.{sort_of}
use Rattle.jd_task_classes.specs.Classes.{kind_of, result_of as sort_given}
use Rattle.jd_names.proofs.Seeing.{no_constructor}
use Rattle.jd_task_classes.specs.Methods.{Constructor, InstanceMethod, IsKindOf, IsResultSort, StaticMethod}
use Rattle.jd_task_classes.specs.ResolvedCalls.{CallsAreResolved, CaseFor, HasReceiver, ReceiverVariable, body_on}
use Rattle.jd_bodies.specs.Declarations.{Declarations, class_type, type_by}
use Rattle.jd_bodies.specs.Variables.{this_name}
use Rattle.jd_jml_meaning.specs.JmlContracts.{JmlContract}
use Rattle.jd_jml_meaning.specs.ContractFormulas.{contract_of}
use Rattle.jd_jml_meaning.specs.JmlCases.{JmlCase, JmlProgram, case_of, specified}
use Rattle.jd_specifications.specs.WrittenCases.{cases_of, contract, has_mark, is_helper, is_nullable, role}
use Rattle.jd_specifications.specs.WrittenCases as written
use Rattle.jd_programs.specs.Cases.{all_cases, contracts_in, contracts_of_declared, contracts_of_kind, inherited, written_at}
use Rattle.jd_programs.specs.Members.{declared_as, declared_static, firsts, members_along, members_from, methods_seen, name_of, own, routine_name, static_routine}
use Rattle.jd_programs.specs.Programs.{IsProgram, body_of_declared, body_of_kind, body_with}
use Rattle.jd_declared.proofs.Lists.{In, filtered_in, in_filter_map, in_map, made_in, place_of}
use Rattle.jd_program_laws.specs.Laws.{ConstructorsAreNotStatic}
use Rattle.jd_program_laws.proofs.Cases.{Comes, Origin, comes, there_is}
use Rattle.jd_program_laws.proofs.Cases.Origin.{of_constructor, of_method}
use Rattle.jd_program_laws.proofs.Families.{known, seen_there, sees}
use Rattle.jd_program_laws.proofs.Lineages.{above_it, below_below, in_classes, in_lineage, only_object, through}
use Rattle.jd_program_laws.proofs.Lists.{among, from_flat, in_flat, same_number}
use Rattle.jd_program_laws.proofs.Members.{OwnMethod, both_given, both_static, declared_there, one_in_class, one_of_name, method_owned, own_constructor}

-- ---- roles

builds_same : (d : Declarations) (r : JavaResult) → written.builds d r ≡ members.builds r
builds_same d Void = refl
builds_same d (Gives w) = refl
builds_same d OfConstructor = refl

role_by : (d : Declarations) (class : ℕ) (m : JavaMethod) (b s : Bool) → members.builds m.result ≡ b → m.is_static ≡ s → role d class m ≡ cond b (ConstructorOf class) (cond s Static (cond (has_mark is_helper m.specs) Helper Ordinary))
role_by d class m b s e f =
    ap (λ x. cond x (ConstructorOf class) (cond m.is_static Static (cond (has_mark is_helper m.specs) Helper Ordinary))) (builds_same d m.result ∙ e)
    ∙ ap (λ x. cond b (ConstructorOf class) (cond x Static (cond (has_mark is_helper m.specs) Helper Ordinary))) f

-- an instance method's
abbrev IsOrdinary : Role → Type 0
IsOrdinary r = (r ≡ Ordinary) ⊎ (r ≡ Helper)

ordinary : (b : Bool) (r : Role) → r ≡ cond b Helper Ordinary → IsOrdinary r
ordinary true r e = inr e
ordinary false r e = inl e

not_false : (b : Bool) → not b ≡ true → b ≡ false
not_false true e = absurd cc
not_false false e = refl

-- what is written at a routine is a contract of its role
record WrittenAt (d : Declarations) (r : Declared) (x : JmlContract) : Type 0 where
  tree : JavaMethod
  kind : r.kind ≡ RoutineOf tree
  role_ : x.role ≡ role d r.class tree
  nullable : Bool
  result_ : x.result ≡ written.result d tree.result nullable

written_there : (d : Declarations) (class : ℕ) (k : Kind) (x : JmlContract) → In x (contracts_of_kind d class k) → (m : JavaMethod) × (k ≡ RoutineOf m) × (x.role ≡ role d class m) × (x.result ≡ written.result d m.result (has_mark is_nullable m.specs))
written_there d class (FieldOf t) x h = absurd h
written_there d class (ConstantOf n) x h = absurd h
written_there d class (RoutineOf m) x h = let r = in_map (contract d class m) (cases_of m.specs) x h in (m, refl, ap (λ (c : JmlContract). c.role) (sym r.2), ap (λ (c : JmlContract). c.result) (sym r.2))

written_at_it : (d : Declarations) (o : Option Declared) (r : Declared) (x : JmlContract) → o ≡ Some r → In x (contracts_of_declared d o) → WrittenAt d r x
written_at_it d None r x e h = absurd h
written_at_it d (Some q) r x e h =
    let w = written_there d q.class q.kind x h in
    subst (λ (s : Declared). WrittenAt d s x) (same_Some q r e) (record { tree = w.0; kind = w.1; role_ = w.2; nullable = has_mark is_nullable w.0.specs; result_ = w.3 })

of_constructor_role : (d : Declarations) (r : Declared) (x : JmlContract) → is_constructor r.kind ≡ true → WrittenAt d r x → x.role ≡ ConstructorOf r.class
of_constructor_role d r x e w = w.role_ ∙ role_by d r.class w.tree true w.tree.is_static (sym (ap is_constructor w.kind) ∙ e) refl

of_static_role : (d : Declarations) (r : Declared) (x : JmlContract) → is_method r.kind ≡ true → is_static r.kind ≡ true → WrittenAt d r x → x.role ≡ Static
of_static_role d r x e s w = w.role_ ∙ role_by d r.class w.tree false true (not_false (members.builds w.tree.result) (sym (ap is_method w.kind) ∙ e)) (sym (ap is_static w.kind) ∙ s)

of_instance_role : (d : Declarations) (r : Declared) (x : JmlContract) → is_method r.kind ≡ true → is_static r.kind ≡ false → WrittenAt d r x → IsOrdinary x.role
of_instance_role d r x e s w =
    ordinary (has_mark is_helper w.tree.specs) x.role
    (w.role_ ∙ role_by d r.class w.tree false false (not_false (members.builds w.tree.result) (sym (ap is_method w.kind) ∙ e)) (sym (ap is_static w.kind) ∙ s))

-- its result has the sort of the routine's
model_sort : (d : Declarations) (t : PlainType) → sort_of t ≡ type_sort (written.model_type d (type_by d.class_named t))
model_sort d IntType = refl
model_sort d BooleanType = refl
model_sort d IntArrayType = refl
model_sort d (NamedType x) = by (d.class_named x)
  where
    by : (o : Option ℕ) → RefSort ≡ type_sort (written.model_type d (class_type o))
    by None = refl
    by (Some c) = refl

given_sort : (d : Declarations) (r : JavaResult) (nullable : Bool) → IsResultSort (option_map sort_of (result_type r)) (written.result d r nullable)
given_sort d Void nullable = tt
given_sort d (Gives w) nullable = model_sort d w.written
given_sort d OfConstructor nullable = tt

of_result : (d : Declarations) (r : Declared) (x : JmlContract) → WrittenAt d r x → IsResultSort (option_map sort_of (result_of r.kind)) x.result
of_result d r x w =
    subst (λ k. IsResultSort (option_map sort_of (result_of k)) x.result) (sym w.kind)
    (subst (IsResultSort (option_map sort_of (result_type w.tree.result))) (sym w.result_) (given_sort d w.tree.result w.nullable))

-- ---- classes that are always there

module _ (units : List JavaUnit) where
  object_declares_nothing : own units 0 ≡ own_nothing
  object_declares_nothing =
      let n = length (declared_classes units) in
      let more : prelude_count + n ≡ suc (9 + n) = omega arith in
      same_Some (own units 0) own_nothing
      (ap (λ k. slice_get (map (own_of (declared_members units)) (range_with_len 0 k)) 0) (sym more) ∙ ap (λ (l : List PlainOwnMembers). slice_get l 0) (sym (own_in_infos units)))

module _ (units : List JavaUnit) (are : AreClasses units) (not_static : ConstructorsAreNotStatic units) (j : JmlProgram) (is : IsProgram units j) (law : AboveIsTransitive) (one : OneMethod) where
  abbrev p : Program
  p = j.program

  abbrev lineage : ℕ → List ℕ
  lineage = j.program.superclasses

  abbrev d : Declarations
  d = is.declarations

  abbrev family : ℕ → ℕ
  family = is.family

  -- ---- the method that a class sees, and what it is

  record Method (c m : ℕ) : Type 0 where
    it : Declared
    there : slice_get (routines units) m ≡ Some it
    method : is_method it.kind ≡ true
    owner : ℕ
    class : it.class ≡ owner
    up : IsSubclass units c owner
    nearest : (other n : ℕ) → IsSubclass units c other → OwnMethod units other n → routine_name units n ≡ routine_name units m → IsSubclass units owner other

  method_seen : (c : ℕ) (name : List ℕ) (m : ℕ) → IsSeen units c name m → Method c m
  method_seen c name m s =
      let r = s.declared.routine in
      let named : routine_name units m ≡ name = ap name_of s.declared.there ∙ s.declared.holds.2 in
      record {
        it = r;
        there = s.declared.there;
        method = s.declared.holds.0;
        owner = s.owner;
        class = s.declared.holds.1;
        up = s.inherited;
        nearest = λ other n below o e. s.nearest other n below (record { routine = o.it; there = o.there; holds = (o.method, o.class, sym (ap name_of o.there) ∙ e ∙ named) });
      }

  abbrev own_of_method : (c m : ℕ) (s : Method c m) → OwnMethod units s.owner m
  own_of_method c m s = record { it = s.it; there = s.there; method = s.method; class = s.class }

  -- ---- what the contract of a case says of its method

  data Knows (c m : ℕ) (x : JmlContract) : Type 0 where
    constructs : (r : Declared) → slice_get (routines units) m ≡ Some r → is_static r.kind ≡ false → (a b : ℕ) → In b (lineage c) → (own units b).constructor ≡ Some m → x.role ≡ ConstructorOf a → In x (written_at units lineage d m) → Knows c m x
    stays : (r : Declared) → slice_get (routines units) m ≡ Some r → is_static r.kind ≡ true → x.role ≡ Static → Knows c m x
    runs : (s : Method c m) → is_static s.it.kind ≡ false → IsOrdinary x.role → In x (inherited units lineage d c m) → Knows c m x

  knows_method : (c m : ℕ) (x : JmlContract) (s : Method c m) (b : Bool) → is_static s.it.kind ≡ b → In x (cond b (written_at units lineage d m) (inherited units lineage d c m)) → Knows c m x
  knows_method c m x s true e h =
      stays s.it s.there e (of_static_role d s.it x s.method e (written_at_it d (slice_get (routines units) m) s.it x s.there h))
  knows_method c m x s false e h =
      let r = from_flat (written_at units lineage d) (flat_map (declared_as units (routine_name units m)) (lineage c)) x h in
      let q = from_flat (declared_as units (routine_name units m)) (lineage c) r.0 r.1 in
      let o = declared_there units q.0 m r.0 q.2 in
      let up = s.nearest q.0 r.0 (above_it units p is.classes c q.0 q.1) o.0 o.1 in
      let same = both_static units one are s.owner q.0 m r.0 (own_of_method c m s) o.0 o.1 up in
      runs s e (of_instance_role d o.0.it x o.0.method (sym same ∙ e) (written_at_it d (slice_get (routines units) r.0) o.0.it x o.0.there r.2)) h

  knows : (c m : ℕ) (x : JmlContract) → c < length (parents units) → Origin units lineage d family c m x → Knows c m x
  knows c m x lt (of_constructor run has) =
      let r = in_filter_map (λ a. (own units a).constructor) (lineage c) m run in
      let o = own_constructor units r.from m r.gives in
      constructs o.it o.there (not_static m o.it o.there o.constructor) o.it.class r.from r.in_ r.gives (of_constructor_role d o.it x o.constructor (written_at_it d (slice_get (routines units) m) o.it x o.there has)) has
  knows c m x lt (of_method among_ has) =
      let n = seen_there units j is c m among_ in
      let s = method_seen c (routine_name units n.named) m (sees units j is c lt m n) in
      knows_method c m x s (is_static s.it.kind) refl (subst (λ b. In x (cond b (written_at units lineage d m) (inherited units lineage d c m))) (ap declared_static s.there) has)

  -- ---- what the tables tell of the method of a case

  record Told (m : ℕ) (x : JmlContract) : Type 0 where
    it : Declared
    there : slice_get (routines units) m ≡ Some it
    kind : IsKindOf (kind_of (method_info it)) x.role
    result : IsResultSort (option_map sort_of (result_of it.kind)) x.result

  kind_told : (i : PlainMethodInfo) (b s : Bool) → i.constructor ≡ b → i.static ≡ s → (r q : Role) → r ≡ q → IsKindOf (if b then Constructor else if s then StaticMethod else InstanceMethod) q → IsKindOf (kind_of i) r
  kind_told i b s e f r q g h =
      subst (IsKindOf (kind_of i)) (sym g)
      (subst (λ k. IsKindOf k q) (sym (ap (λ x. if x then Constructor else if i.static then StaticMethod else InstanceMethod) e ∙ ap (λ x. if b then Constructor else if x then StaticMethod else InstanceMethod) f)) h)

  ordinary_kind : (r : Role) → IsOrdinary r → IsKindOf InstanceMethod r
  ordinary_kind r (inl e) = subst (IsKindOf InstanceMethod) (sym e) tt
  ordinary_kind r (inr e) = subst (IsKindOf InstanceMethod) (sym e) tt

  constructs_none : (r : Declared) → is_method r.kind ≡ true → is_constructor r.kind ≡ false
  constructs_none r e = not_false (is_constructor r.kind) (no_constructor r.kind e)

  told_method : (c m : ℕ) (x : JmlContract) (s : Method c m) (b : Bool) → is_static s.it.kind ≡ b → In x (cond b (written_at units lineage d m) (inherited units lineage d c m)) → Told m x
  told_method c m x s true e h =
      let w = written_at_it d (slice_get (routines units) m) s.it x s.there h in
      record {
        it = s.it;
        there = s.there;
        kind = kind_told (method_info s.it) false true (constructs_none s.it s.method) e x.role Static (of_static_role d s.it x s.method e w) tt;
        result = of_result d s.it x w;
      }
  told_method c m x s false e h =
      let r = from_flat (written_at units lineage d) (flat_map (declared_as units (routine_name units m)) (lineage c)) x h in
      let q = from_flat (declared_as units (routine_name units m)) (lineage c) r.0 r.1 in
      let o = declared_there units q.0 m r.0 q.2 in
      let up = s.nearest q.0 r.0 (above_it units p is.classes c q.0 q.1) o.0 o.1 in
      let same = both_static units one are s.owner q.0 m r.0 (own_of_method c m s) o.0 o.1 up in
      let w = written_at_it d (slice_get (routines units) r.0) o.0.it x o.0.there r.2 in
      record {
        it = s.it;
        there = s.there;
        kind = kind_told (method_info s.it) false false (constructs_none s.it s.method) e x.role x.role refl (ordinary_kind x.role (of_instance_role d o.0.it x o.0.method (sym same ∙ e) w));
        result = subst (λ k. IsResultSort k x.result) (sym (both_given units one are s.owner q.0 m r.0 (own_of_method c m s) o.0 o.1 up)) (of_result d o.0.it x w);
      }

  told : (c m : ℕ) (x : JmlContract) → c < length (parents units) → Origin units lineage d family c m x → Told m x
  told c m x lt (of_constructor run has) =
      let r = in_filter_map (λ a. (own units a).constructor) (lineage c) m run in
      let o = own_constructor units r.from m r.gives in
      let w = written_at_it d (slice_get (routines units) m) o.it x o.there has in
      record {
        it = o.it;
        there = o.there;
        kind = kind_told (method_info o.it) true (is_static o.it.kind) o.constructor refl x.role (ConstructorOf o.it.class) (of_constructor_role d o.it x o.constructor w) tt;
        result = of_result d o.it x w;
      }
  told c m x lt (of_method among_ has) =
      let n = seen_there units j is c m among_ in
      let s = method_seen c (routine_name units n.named) m (sees units j is c lt m n) in
      told_method c m x s (is_static s.it.kind) refl (subst (λ b. In x (cond b (written_at units lineage d m) (inherited units lineage d c m))) (ap declared_static s.there) has)

  pub record CaseTold (c : Case) : Type 0 where
    pub it : Declared
    pub there : slice_get (routines units) c.method ≡ Some it
    pub kind : IsKindOf (kind_of (method_info it)) c.contract.role
    pub result : IsResultSort (sort_given (method_info it)) c.contract.result
    pub family_ : c.family ≡ family c.method

  told_case : (k : JmlCase) → In k (all_cases units lineage d family) → CaseTold (case_of p k)
  told_case k among_ =
      let o = comes units lineage d family k among_ in
      let t = told o.c o.m o.x o.is_class o.origin in
      record {
        it = t.it;
        there = ap (slice_get (routines units)) o.is.method ∙ t.there;
        kind = subst (λ (x : JmlContract). IsKindOf (kind_of (method_info t.it)) x.role) (sym o.is.contract) t.kind;
        result = subst (λ (x : JmlContract). IsResultSort (sort_given (method_info t.it)) x.result) (sym o.is.contract) t.result;
        family_ = o.is.family_ ∙ ap family (sym o.is.method);
      }

  pub case_told : (κ : ℕ) (c : Case) → (specified j).case κ ≡ Some c → CaseTold c
  case_told κ c e = let k = known units j is κ c e in subst CaseTold (sym k.same) (told_case k.case k.among)

  -- ---- receivers

  kind_of_body : (class : ℕ) (k : Kind) (b : Body) → body_of_kind d class k ≡ Some b → (t : JavaMethod) × (k ≡ RoutineOf t) × (b.receiver ≡ cond t.is_static None (Some this_name))
  kind_of_body class (FieldOf t) b e = absurd (none-some b e)
  kind_of_body class (ConstantOf n) b e = absurd (none-some b e)
  kind_of_body class (RoutineOf t) b e = (t, refl, ap (λ (x : Body). x.receiver) (sym (same_Some (body_with d class t) b e)))

  receiver_there : (r : Declared) (m : ℕ) (b : Body) (s : Bool) → slice_get (routines units) m ≡ Some r → p.body m ≡ Some b → is_static r.kind ≡ s → b.receiver ≡ cond s None (Some this_name)
  receiver_there r m b s there e static =
      let k = kind_of_body r.class r.kind b (sym (is.bodies m ∙ ap (option_and_then (body_of_declared d)) there) ∙ e) in
      k.2 ∙ ap (λ x. cond x None (Some this_name)) (sym (ap is_static k.1) ∙ static)

  receiver_fits : (c m : ℕ) (x : JmlContract) (b : Body) → Knows c m x → p.body m ≡ Some b → ReceiverVariable x.role b.receiver
  receiver_fits c m x b (constructs r there static a k in_ gives role_ has) e =
      subst (λ q. ReceiverVariable q b.receiver) (sym role_) (subst (ReceiverVariable (ConstructorOf a)) (sym (receiver_there r m b false there e static)) tt)
  receiver_fits c m x b (stays r there static role_) e =
      subst (λ q. ReceiverVariable q b.receiver) (sym role_) (subst (ReceiverVariable Static) (sym (receiver_there r m b true there e static)) tt)
  receiver_fits c m x b (runs s static (inl role_) has) e =
      subst (λ q. ReceiverVariable q b.receiver) (sym role_) (subst (ReceiverVariable Ordinary) (sym (receiver_there s.it m b false s.there e static)) tt)
  receiver_fits c m x b (runs s static (inr role_) has) e =
      subst (λ q. ReceiverVariable q b.receiver) (sym role_) (subst (ReceiverVariable Helper) (sym (receiver_there s.it m b false s.there e static)) tt)

  -- ---- Object has no case

  no_case : (m : ℕ) (x : JmlContract) → 0 < length (parents units) → Origin units lineage d family 0 m x → ⊥
  no_case m x lt (of_constructor run has) =
      let r = in_filter_map (λ a. (own units a).constructor) (lineage 0) m run in
      let top = only_object units r.from (above_it units p is.classes 0 r.from r.in_) in
      none-some m (sym (ap (λ (o : PlainOwnMembers). o.constructor) (object_declares_nothing units)) ∙ ap (λ a. (own units a).constructor) (sym top) ∙ r.gives)
  no_case m x lt (of_method among_ has) =
      let n = seen_there units j is 0 m among_ in
      let s = method_seen 0 (routine_name units n.named) m (sees units j is 0 lt m n) in
      let top = only_object units s.owner s.up in
      subst (λ (o : PlainOwnMembers). In m o.methods) (ap (own units) top ∙ object_declares_nothing units) (method_owned units s.owner m (own_of_method 0 m s))

  apart : (a b : ℕ) → (a ≡ b → ⊥) → nat_eq a b ≡ false
  apart a b unlike = by (nat_eq a b) refl
    where
      by : (t : Bool) → nat_eq a b ≡ t → t ≡ false
      by true e = absurd (unlike (same_number a b e))
      by false e = refl

  not_object : (k : JmlCase) (o : Comes units lineage d family k) → nat_eq k.class p.object ≡ false
  not_object k o =
      let zero : 0 ≡ p.object = same_Some 0 p.object is.classes.object in
      apart k.class p.object (λ e.
      let at : o.c ≡ 0 = sym o.is.class ∙ e ∙ sym zero in
      no_case o.m o.x (subst (λ (c : ℕ). c < length (parents units)) at o.is_class) (subst (λ c. Origin units lineage d family c o.m o.x) at o.origin))

  -- ---- cases of classes below

  case_for : (k : JmlCase) (class : ℕ) (k' : JmlCase) → In k' (all_cases units lineage d family) → k.contract ≡ k'.contract → k'.family ≡ k.family → k'.class ≡ class → body_on p k.contract.role k.method class ≡ Some k'.body → CaseFor (specified j) (case_of p k) class
  case_for k class k' h same fam is_class runs_ =
      let place = place_of (all_cases units lineage d family) k' h in
      record {
        index = place.0;
        case = case_of p k';
        found = ap (option_map (case_of p)) (is.cases place.0 ∙ place.1);
        contract_same = ap (contract_of p) same;
        family_same = fam;
        class_is = is_class;
        runs = runs_;
      }

  -- a class that does not see none sees one
  seen_one : (class : ℕ) (name : List ℕ) (o : Option ℕ) → MatchOption o (SeesNone units class name) (IsSeen units class name) → (SeesNone units class name → ⊥) → (m : ℕ) × (o ≡ Some m) × IsSeen units class name m
  seen_one class name None h some = absurd (some h)
  seen_one class name (Some m) h some = (m, refl, h)

  module _ (class c m : ℕ) (s : Method c m) (up : In c (lineage class)) (static : is_static s.it.kind ≡ false) where
    under : IsSubclass units class s.owner
    under = below_below law (parents units) class c s.owner (above_it units p is.classes class c up) s.up

    is_class : class < length (parents units)
    is_class = in_classes units p is.classes class c up

    sees_some : (name : List ℕ) → routine_name units m ≡ name → SeesNone units class name → ⊥
    sees_some name e none = none s.owner m under (record { routine = s.it; there = s.there; holds = (s.method, s.class, sym (ap name_of s.there) ∙ e) })

    is_member : In m (members_along units lineage class)
    is_member =
        let stays : not (static_routine units m) ≡ true = ap not (ap declared_static s.there ∙ static) in
        in_flat (members_from units class) (lineage class) s.owner m (in_lineage units p is.classes class s.owner is_class under)
        (filtered_in (λ n. not (static_routine units n) || nat_eq s.owner class) (own units s.owner).methods m (method_owned units s.owner m (own_of_method c m s))
        (ap (λ b. b || nat_eq s.owner class) stays))

    -- the method of the name that the class sees
    record Found : Type 0 where
      number : ℕ
      seen : IsSeen units class (routine_name units m) number
      listed : In number (methods_seen units lineage d class)

    found : Found
    found =
        let first = one_of_name units (members_along units lineage class) m is_member in
        let r = seen_one class (routine_name units first.0) (d.method class (routine_name units first.0)) (is.are_declarations.methods_ class (routine_name units first.0)) (sees_some (routine_name units first.0) (sym first.2)) in
        record {
          number = r.0;
          seen = subst (λ name. IsSeen units class name r.0) first.2 r.2;
          listed = made_in (λ n. d.method class (routine_name units n)) (firsts units [] (members_along units lineage class)) first.0 r.0 first.1 r.1;
        }

    module _ (f : Found) where
      other : Method class f.number
      other = method_seen class (routine_name units m) f.number f.seen

      same_name : routine_name units f.number ≡ routine_name units m
      same_name = ap name_of f.seen.declared.there ∙ f.seen.declared.holds.2

      lower : IsSubclass units other.owner s.owner
      lower = other.nearest s.owner m under (own_of_method c m s) (sym same_name)

      not_static_either : is_static other.it.kind ≡ false
      not_static_either = both_static units one are other.owner s.owner f.number m (own_of_method class f.number other) (own_of_method c m s) (sym same_name) lower ∙ static

      also_inherited : (x : JmlContract) → In x (inherited units lineage d c m) → In x (contracts_in units lineage d class f.number)
      also_inherited x h =
          let r = from_flat (written_at units lineage d) (flat_map (declared_as units (routine_name units m)) (lineage c)) x h in
          let q = from_flat (declared_as units (routine_name units m)) (lineage c) r.0 r.1 in
          let all : In x (inherited units lineage d class f.number) =
          in_flat (written_at units lineage d) (flat_map (declared_as units (routine_name units f.number)) (lineage class)) r.0 x
          (in_flat (declared_as units (routine_name units f.number)) (lineage class) q.0 r.0 (through units p is.classes law class c q.0 up q.1)
          (subst (λ name. In r.0 (declared_as units name q.0)) (sym same_name) q.2)) r.2 in
          subst (λ b. In x (cond b (written_at units lineage d f.number) (inherited units lineage d class f.number))) (sym (ap declared_static other.there ∙ not_static_either)) all

      runs_it : p.lookup class m ≡ Some f.number
      runs_it =
          let name = s.it.name.name in
          let named : routine_name units m ≡ name = ap name_of s.there in
          let r = seen_one class name (p.lookup class m) (is.lookup.seen class m s.it s.there) (sees_some name named) in
          r.1 ∙ ap Some (one.one_seen units class name r.0 f.number are r.2 (subst (λ n. IsSeen units class n f.number) named f.seen))

      of_family : SameFamily units f.number m
      of_family = by lower
        where
          by : IsSubclass units other.owner s.owner → SameFamily units f.number m
          by (inl same) =
              let o : OwnMethod units other.owner m = record { it = s.it; there = s.there; method = s.method; class = s.class ∙ sym same } in
              subst (λ n. SameFamily units f.number n) (one_in_class units one are other.owner f.number m (own_of_method class f.number other) o (sym same_name)) (its_own f.number)
          by (inr above) =
              over f.number m m
              (record {
                one = other.it;
                other = s.it;
                there = other.there;
                other_there = s.there;
                methods = (other.method, s.method);
                instance = (not_static_either, static);
                name = sym (ap name_of other.there) ∙ same_name ∙ ap name_of s.there;
                below = subst (λ a. IsAncestor units a other.it.class) (sym s.class) (subst (IsAncestor units s.owner) (sym other.class) above);
              })
              (its_own m)

      one_family : family f.number ≡ family m
      one_family = (is.are_families.same f.number m other.it s.it other.there s.there).1 of_family

  runs_ordinary : (r : Role) (m class n : ℕ) → IsOrdinary r → p.lookup class m ≡ Some n → body_on p r m class ≡ Some n
  runs_ordinary r m class n (inl e) h = let at : body_on p Ordinary m class ≡ Some n = h in ap (λ q. body_on p q m class) e ∙ at
  runs_ordinary r m class n (inr e) h = let at : body_on p Helper m class ≡ Some n = h in ap (λ q. body_on p q m class) e ∙ at

  dispatch_by : (k : JmlCase) (o : Comes units lineage d family k) → Knows o.c o.m o.x → HasReceiver o.x.role → (class : ℕ) → In o.c (lineage class) → CaseFor (specified j) (case_of p k) class
  dispatch_by k o (constructs r there static a b in_ gives role_ has) receiver class up =
      let run = made_in (λ e. (own units e).constructor) (lineage class) b o.m (through units p is.classes law class o.c b up in_) gives in
      let q = there_is units lineage d family class o.m o.x (in_classes units p is.classes class o.c up) (of_constructor run has) in
      case_for k class q.0 q.1 (o.is.contract ∙ sym q.2.contract) (q.2.family_ ∙ sym o.is.family_) q.2.class
      (ap (λ ro. body_on p ro k.method class) (ap (λ (x : JmlContract). x.role) o.is.contract ∙ role_) ∙ ap Some (o.is.method ∙ sym q.2.body))
  dispatch_by k o (stays r there static role_) receiver class up = absurd (subst HasReceiver role_ receiver)
  dispatch_by k o (runs s static role_ has) receiver class up =
      let f = found class o.c o.m s up static in
      let q = there_is units lineage d family class f.number o.x (in_classes units p is.classes class o.c up) (of_method f.listed (also_inherited class o.c o.m s up static f o.x has)) in
      case_for k class q.0 q.1 (o.is.contract ∙ sym q.2.contract) (q.2.family_ ∙ one_family class o.c o.m s up static f ∙ sym o.is.family_) q.2.class
      (ap (λ (x : JmlContract). body_on p x.role k.method class) o.is.contract ∙ ap (λ m. body_on p o.x.role m class) o.is.method
      ∙ runs_ordinary o.x.role o.m class f.number role_ (runs_it class o.c o.m s up static f) ∙ ap Some (sym q.2.body))

  pub resolved : CallsAreResolved (specified j)
  resolved = record {
    own_body = λ κ c e.
        let k = known units j is κ c e in
        let o = comes units lineage d family k.case k.among in
        ap (λ (x : Case). x.body) k.same ∙ o.is.body ∙ sym o.is.method ∙ ap (λ (x : Case). x.method) (sym k.same);
    receiver_variable = λ κ c e b there.
        let k = known units j is κ c e in
        let o = comes units lineage d family k.case k.among in
        let at : p.body o.m ≡ Some b = ap p.body (sym (ap (λ (x : Case). x.body) k.same ∙ o.is.body)) ∙ there in
        subst (λ r. ReceiverVariable r b.receiver) (sym (ap (λ (x : Case). x.contract.role) k.same ∙ ap (λ (x : JmlContract). x.role) o.is.contract)) (receiver_fits o.c o.m o.x b (knows o.c o.m o.x o.is_class o.origin) at);
    not_object = λ κ c e receiver.
        let k = known units j is κ c e in
        subst (λ n. nat_eq n p.object ≡ false) (ap (λ (x : Case). x.class) (sym k.same)) (not_object k.case (comes units lineage d family k.case k.among));
    dispatched = λ κ c e receiver class below.
        let k = known units j is κ c e in
        let o = comes units lineage d family k.case k.among in
        let up : In o.c (lineage class) = subst (λ n. In n (lineage class)) (ap (λ (x : Case). x.class) k.same ∙ o.is.class) (among c.class (lineage class) below) in
        subst (λ x. CaseFor (specified j) x class) (sym k.same)
        (dispatch_by k.case o (knows o.c o.m o.x o.is_class o.origin) (subst HasReceiver (ap (λ (x : Case). x.contract.role) k.same ∙ ap (λ (x : JmlContract). x.role) o.is.contract) receiver) class up);
  }
