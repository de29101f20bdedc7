-- The case that a step names, and the case whose body its call runs.
use Rattle.std.proofs.Common.{Bool, List, None, Option, Some, ap, cond, drop, eq-eqb, eqb→eq, false, map, nat_eq, refl, subst, suc, sym, take, true, true≢false, ◌≡◌, ◌∷◌, ◌∙◌, ◌&&◌, ℕ, []}
use Rattle.std.proofs.lemmas.Bool.{and_parts}
use Rattle.std.specs.Bool.{passes}
use Rattle.std.specs.Prelude.{slice_get}
use Rattle.std.specs.Option.{unwrap_or}
use Rattle.jd_call.proofs.Calls.{body_of}
use Rattle.jd_call.proofs.Use.{Found}
use Rattle.jd_call.specs.Calls.{ConstructorTarget, StaticTarget, Target, VirtualTarget, called_method, parameters_of, target_kind}
use Rattle.jd_task_classes.specs.Methods.{Constructor, InstanceMethod, IsKindOf, MethodKind, StaticMethod}
use Rattle.jd_task_classes.specs.ResolvedCalls.{CallsAreResolved, CaseFor, HasReceiver, ReceiverVariable, body_on}
use Rattle.jd_call.specs.UseContract.{case_in}
use Rattle.jd_heap.specs.Codings.{same}
use Rattle.jd_heap.specs.Heaps.{Heap}
use Rattle.jd_heap.specs.References.{Array, Null, Object, Reference}
use Rattle.jd_model.specs.Cases.{Case, ConstructorOf, Helper, Ordinary, Role, SpecifiedProgram, Static}
use Rattle.jd_model.specs.ContractForms.{PlainBody, PlainCase, PlainContracts}
use Rattle.jd_model.specs.EntryExit.{Receiver}
use Rattle.jd_model.specs.Programs.{Body, Program, is_exactly, is_instance}
use Rattle.jd_model.specs.Tables.{CaseAt, CaseStandsFor, TablesStandFor, receiver_then}
use Rattle.jd_model.specs.Truth.{Setting}
use Rattle.jd_syntax.specs.Codes.{OfClass}
use Rattle.jd_syntax.specs.Names.{Declared, Name}

-- ---- the row of the table

pub record CaseRow (l : List PlainCase) (class method : ℕ) (f : PlainCase) : Type 0 where
  pub index : ℕ
  pub found : slice_get l index ≡ Some f
  pub class_is : f.class ≡ class
  pub method_is : f.method ≡ method

none_some : {A : Type 0} {a : A} → None ≡ Some a → ⊥
none_some {A = A} e = true≢false (ap (λ (o : Option A). elim o [ None ↦ true | Some x ↦ false ]) e)

same_some : {A : Type 0} {a b : A} → Some a ≡ Some b → a ≡ b
same_some {a = a} e = ap (λ o. unwrap_or o a) e

pub case_row : (l : List PlainCase) (class method number : ℕ) (f : PlainCase) → case_in l class method number ≡ Some f → CaseRow l class method f
case_row [] class method number f e = absurd (none_some e)
case_row (g ∷ l) class method number f e = by (case_row l class method number f) ((nat_eq g.class class && nat_eq g.method method) && nat_eq g.number number) refl e
  where
    by : (case_in l class method number ≡ Some f → CaseRow l class method f) → (b : Bool) → (nat_eq g.class class && nat_eq g.method method) && nat_eq g.number number ≡ b → cond b (Some g) (case_in l class method number) ≡ Some f → CaseRow (g ∷ l) class method f
    by later true t q =
        let is : g ≡ f = same_some q in
        let two = and_parts (nat_eq g.class class) (nat_eq g.method method) (and_parts (nat_eq g.class class && nat_eq g.method method) (nat_eq g.number number) t).0 in
        record {
          index = 0;
          found = ap Some is;
          class_is = ap (λ (x : PlainCase). x.class) (sym is) ∙ eqb→eq g.class class (passes (nat_eq g.class class) two.0);
          method_is = ap (λ (x : PlainCase). x.method) (sym is) ∙ eqb→eq g.method method (passes (nat_eq g.method method) two.1);
        }
    by later false t q = let r = later q in record { index = suc r.index; found = r.found; class_is = r.class_is; method_is = r.method_is }

-- ---- the case of the row

pub record NamedCase (p : SpecifiedProgram) (f : PlainCase) : Type 0 where
  pub index : ℕ
  pub case : Case
  pub is_case : p.case index ≡ Some case
  pub body : Body
  pub has_body : p.setting.program.body case.body ≡ Some body
  pub stands : CaseStandsFor p case body f

module _ (p : SpecifiedProgram) where
  case_at : (index : ℕ) (f : PlainCase) (o : Option Case) → p.case index ≡ o → CaseAt p (Some f) o → NamedCase p f
  case_at index f (Some c) e (b, has, stands) = record { index = index; case = c; is_case = e; body = b; has_body = has; stands = stands }
  case_at index f None e h = absurd h

  pub named : (t : PlainContracts) → TablesStandFor t p → (class method : ℕ) (f : PlainCase) → CaseRow t.cases class method f → NamedCase p f
  named t tables class method f row = case_at row.index f (p.case row.index) refl (subst (λ o. CaseAt p o (p.case row.index)) row.found (tables.cases row.index))

  -- each case has a body
  body_by : (o : Option PlainCase) (c : Case) → CaseAt p o (Some c) → (b : Body) × (p.setting.program.body c.body ≡ Some b)
  body_by (Some f) c (b, has, stands) = (b, has)
  body_by None c h = absurd h

  pub case_body : (t : PlainContracts) → TablesStandFor t p → (index : ℕ) (c : Case) → p.case index ≡ Some c → (b : Body) × (p.setting.program.body c.body ≡ Some b)
  case_body t tables index c e = body_by (slice_get t.cases index) c (subst (CaseAt p (slice_get t.cases index)) e (tables.cases index))

-- ---- kinds and roles

instance_has : (r : Role) → IsKindOf InstanceMethod r → HasReceiver r
instance_has Ordinary o = tt
instance_has Helper o = tt
instance_has Static o = absurd o
instance_has (ConstructorOf a) o = absurd o

constructor_has : (r : Role) → IsKindOf Constructor r → HasReceiver r
constructor_has (ConstructorOf a) o = tt
constructor_has Ordinary o = absurd o
constructor_has Helper o = absurd o
constructor_has Static o = absurd o

instance_body : (p : Program) (r : Role) → IsKindOf InstanceMethod r → (m c : ℕ) → body_on p r m c ≡ p.lookup c m
instance_body p Ordinary o m c = refl
instance_body p Helper o m c = refl
instance_body p Static o m c = absurd o
instance_body p (ConstructorOf a) o m c = absurd o

constructor_body : (p : Program) (r : Role) → IsKindOf Constructor r → (m c : ℕ) → body_on p r m c ≡ Some m
constructor_body p (ConstructorOf a) o m c = refl
constructor_body p Ordinary o m c = absurd o
constructor_body p Helper o m c = absurd o
constructor_body p Static o m c = absurd o

module _ (g : Setting) where
  static_exactly : (r : Role) → IsKindOf StaticMethod r → (c k : ℕ) (h : Heap) (o : Reference) → Receiver g false r c h o → Receiver g true r k h o
  static_exactly Static s c k h o e = e
  static_exactly Ordinary s c k h o e = absurd s
  static_exactly Helper s c k h o e = absurd s
  static_exactly (ConstructorOf a) s c k h o e = absurd s

  is_instance_of : (r : Role) → HasReceiver r → (c : ℕ) (h : Heap) (o : Reference) → Receiver g false r c h o → is_instance g.program (OfClass c) o ≡ true
  is_instance_of Ordinary s c h o e = e.0
  is_instance_of Helper s c h o e = e.0
  is_instance_of (ConstructorOf a) s c h o e = e.0
  is_instance_of Static s c h o e = absurd s

  exactly_of : (r : Role) → HasReceiver r → (c k : ℕ) (h : Heap) (o : Reference) → is_exactly (OfClass k) o ≡ true → Receiver g false r c h o → Receiver g true r k h o
  exactly_of Ordinary s c k h o e q = (e, q.1)
  exactly_of Helper s c k h o e q = (e, q.1)
  exactly_of (ConstructorOf a) s c k h o e q = (e, q.1)
  exactly_of Static s c k h o e q = absurd s

-- ---- the case that a call finds

module _ (p : SpecifiedProgram) (resolved : CallsAreResolved p) (t : PlainContracts) (tables : TablesStandFor t p) (κ : ℕ) (c : Case) (is_case : p.case κ ≡ Some c) where
  -- from the case for the receiver's class
  found_for : (a : Target) (e n : ℕ) → HasReceiver c.contract.role → (w : CaseFor p c e) → body_of p.setting.program a (Object e n) ≡ Some w.case.body → Found p c a (Object e n)
  found_for a e n has w runs = let b = case_body p t tables w.index w.case w.found in record {
    number = w.index;
    case = w.case;
    is_case = w.found;
    contract_same = w.contract_same;
    family_same = w.family_same;
    exactly = λ h o. exactly_of p.setting c.contract.role has c.class w.case.class h (Object e n) (ap (λ k. nat_eq e k) w.class_is ∙ eq-eqb e e refl) o;
    body = b.0;
    has_body = b.1;
    runs = runs;
  }

  by_class : (a : Target) → HasReceiver c.contract.role → ((e n : ℕ) (w : CaseFor p c e) → body_of p.setting.program a (Object e n) ≡ Some w.case.body) → (r : Reference) → is_instance p.setting.program (OfClass c.class) r ≡ true → Found p c a r
  by_class a has runs (Object e n) i = let w = resolved.dispatched κ c is_case has e i in found_for a e n has w (runs e n w)
  by_class a has runs Null i = absurd (true≢false (sym i))
  by_class a has runs (Array l n) i = absurd (true≢false (sym i ∙ resolved.not_object κ c is_case has))

  pub covers : (a : Target) → IsKindOf (target_kind a) c.contract.role → called_method a ≡ c.method → (h : Heap) (r : Reference) → Receiver p.setting false c.contract.role c.class h r → Found p c a r
  covers (StaticTarget m) kind same h r o = let b = case_body p t tables κ c is_case in record {
    number = κ;
    case = c;
    is_case = is_case;
    contract_same = refl;
    family_same = refl;
    exactly = λ k q. static_exactly p.setting c.contract.role kind c.class c.class k r q;
    body = b.0;
    has_body = b.1;
    runs = ap Some (same ∙ sym (resolved.own_body κ c is_case));
  }
  covers (VirtualTarget k m a) kind same h r o =
      by_class (VirtualTarget k m a) (instance_has c.contract.role kind)
      (λ e n w. ap (λ x. p.setting.program.lookup e x) same ∙ sym (instance_body p.setting.program c.contract.role kind c.method e) ∙ w.runs)
      r (is_instance_of p.setting c.contract.role (instance_has c.contract.role kind) c.class h r o)
  covers (ConstructorTarget m a) kind same h r o =
      by_class (ConstructorTarget m a) (constructor_has c.contract.role kind)
      (λ e n w. ap Some same ∙ sym (constructor_body p.setting.program c.contract.role kind c.method e) ∙ w.runs)
      r (is_instance_of p.setting c.contract.role (constructor_has c.contract.role kind) c.class h r o)

-- ---- the parameters

pub parameters_are : (k : MethodKind) (r : Role) → IsKindOf k r → (v : Option Name) → ReceiverVariable r v → (b : PlainBody) (xs : List Name) → map (λ (d : Declared). d.name) (take b.params b.vars) ≡ receiver_then v xs → parameters_of k b ≡ xs
parameters_are StaticMethod Static o None q b xs e = e
parameters_are InstanceMethod Ordinary o (Some x) q b xs e = ap (drop 1) e
parameters_are InstanceMethod Helper o (Some x) q b xs e = ap (drop 1) e
parameters_are Constructor (ConstructorOf a) o (Some x) q b xs e = ap (drop 1) e
parameters_are StaticMethod Static o (Some x) q b xs e = absurd q
parameters_are InstanceMethod Ordinary o None q b xs e = absurd q
parameters_are InstanceMethod Helper o None q b xs e = absurd q
parameters_are Constructor (ConstructorOf a) o None q b xs e = absurd q
parameters_are StaticMethod Ordinary o v q b xs e = absurd o
parameters_are StaticMethod Helper o v q b xs e = absurd o
parameters_are StaticMethod (ConstructorOf a) o v q b xs e = absurd o
parameters_are InstanceMethod Static o v q b xs e = absurd o
parameters_are InstanceMethod (ConstructorOf a) o v q b xs e = absurd o
parameters_are Constructor Static o v q b xs e = absurd o
parameters_are Constructor Ordinary o v q b xs e = absurd o
parameters_are Constructor Helper o v q b xs e = absurd o
