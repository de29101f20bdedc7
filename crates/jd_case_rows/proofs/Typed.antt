-- What the members on values of declared types, receivers and fields say.
use Rattle.std.proofs.Common.{◌≡◌, ◌↔◌, inl, inr, ℕ, Bool, true, false, cond, List, [], ◌∷◌, ◌++◌, map, refl, sym, ap, subst, ◌∙◌, true≢false, ◌||◌}
use Rattle.jd_syntax.specs.Codes.{PlainKind, OfClass}
use Rattle.jd_syntax.specs.Names.{Name}
use Rattle.jd_term.specs.Terms.{PlainTerm, ProgramVariable, Constant}
use Rattle.jd_term.specs.Formulas.{PlainFormula, And, IsInstance, IsExactInstance}
use Rattle.jd_heap.specs.References.{Reference, Null, Object, Array, Named, is_null}
use Rattle.jd_heap.specs.Heaps.{Heap, is_created}
use Rattle.jd_heap.specs.Values.{Value, RefValue, as_int, as_ref, as_heap, at_sort, default, select_at}
use Rattle.jd_model.specs.Conjunctions.{created_at}
use Rattle.jd_model.specs.SpecialNames.{entry_heap, receiver, thrown_variable}
use Rattle.jd_model.specs.States.{State, read}
use Rattle.jd_model.specs.Programs.{ValueType, IntType, BooleanType, ReferenceType, type_sort, field_sort, is_instance, is_exactly}
use Rattle.jd_model.specs.TermValues.{value}
use Rattle.jd_model.specs.WellFormedHeaps.{in_int}
use Rattle.jd_model.specs.Truth.{Setting, Truth, EitherOf}
use Rattle.jd_model.specs.Validity.{AllTrue}
use Rattle.jd_model.specs.Cases.{DeclaredType, Parameter, Role, Static, Ordinary, Helper, ConstructorOf}
use Rattle.jd_model.specs.EntryExit.{AreOf, Receiver, RoleFields, is_of, is_one_of, AllOneOf}
use Rattle.jd_model.specs.Tables.{SortsOf, members, parameter_constant, constants_of_parameters, receiver_in}
use Rattle.jd_model.proofs.Writes.{read_back}
use Rattle.jd_jml_meaning.proofs.Spelled.{iff_same, and_iff, either_iff, iff_then, bit_iff}
use Rattle.jd_jml_meaning.proofs.Located.{either_true}
use Rattle.jd_case_rows.specs.Laws.{Listed}
use Rattle.jd_case_rows.specs.Rows.{or_null, value_members, typed_members, receiver_members, default_term, field_member, field_members, parameter_members, respelled, instance_of_thrown, one_of, only_member}

-- lists that are joined are true together
pub joined_iff : (g : Setting) (d : ℕ) (i s : State) (l m : List PlainFormula) {A B : Type 0} → AllTrue g d i s [] l ↔ A → AllTrue g d i s [] m ↔ B → AllTrue g d i s [] (l ++ m) ↔ (A × B)
joined_iff g d i s l m h k = iff_then (parted l) (and_iff h k)
  where
    parted : (l : List PlainFormula) → AllTrue g d i s [] (l ++ m) ↔ (AllTrue g d i s [] l × AllTrue g d i s [] m)
    parted [] = (λ x. (tt, x), λ y. y.1)
    parted (a ∷ l) = (λ x. let y = (parted l).0 x.1 in ((x.0, y.0), y.1), λ y. (y.0.0, (parted l).1 (y.0.1, y.1)))

-- one member alone
pub alone : {A B : Type 0} → A ↔ B → (A × Unit {0}) ↔ B
alone h = (λ x. h.0 x.0, λ y. (h.1 y, tt))

cond_true : (a b : Bool) → ((a ≡ true) × (b ≡ true)) ↔ (cond a b false ≡ true)
cond_true true b = (λ x. x.1, λ e. (refl, e))
cond_true false b = (λ x. absurd (true≢false (sym x.0)), λ e. absurd (true≢false (sym e)))

stable_true : (b : Bool) → ¬ (¬ (b ≡ true)) → b ≡ true
stable_true true n = refl
stable_true false n = absurd (n (λ e. true≢false (sym e)))

module _ (g : Setting) (d : ℕ) (i s : State) (ht xt : PlainTerm) (h : Heap) (in_heap : as_heap (value i s [] ht) ≡ h) where
  -- ---- references

  pub created_iff : (r : Reference) → value i s [] xt ≡ RefValue r → Truth g d i s [] (created_at ht xt) ↔ (is_created h r ≡ true)
  created_iff r is = bit_iff (λ j. is_created (in_heap j) (as_ref (is j)))

  instance_iff : (k : PlainKind) (r : Reference) → value i s [] xt ≡ RefValue r → Truth g d i s [] (And (IsInstance k xt) (created_at ht xt)) ↔ (cond (is_instance g.program k r) (is_created h r) false ≡ true)
  instance_iff k r is =
      iff_then (and_iff (λ e. sym (ap (λ v. is_instance g.program k (as_ref v)) is) ∙ e, λ e. ap (λ v. is_instance g.program k (as_ref v)) is ∙ e) (created_iff r is)) (cond_true (is_instance g.program k r) (is_created h r))

  or_iff : (a : PlainFormula) (b : Bool) → Truth g d i s [] a ↔ (b ≡ true) → ¬ (value i s [] xt ≡ RefValue Null) → EitherOf (value i s [] xt ≡ RefValue Null) (Truth g d i s [] a) ↔ (b ≡ true)
  or_iff a b h some = (λ n. stable_true b (λ no. n (some, λ x. no (h.0 x))), λ e n. n.1 (h.1 e))

  not_null : (v : Value) (r : Reference) → v ≡ RefValue r → is_null r ≡ false → ¬ (v ≡ RefValue Null)
  not_null v r is some e = true≢false (sym (ap is_null (sym (ap as_ref is) ∙ ap as_ref e)) ∙ some)

  null_iff : (k : PlainKind) (n : Bool) (r : Reference) → value i s [] xt ≡ RefValue r → Truth g d i s [] (or_null n xt (And (IsInstance k xt) (created_at ht xt))) ↔ (cond (is_null r) n (cond (is_instance g.program k r) (is_created h r) false) ≡ true)
  null_iff k true Null is = (λ x. refl, λ e n. n.0 is)
  null_iff k true (Object c n) is = or_iff (And (IsInstance k xt) (created_at ht xt)) (cond (is_instance g.program k (Object c n)) (is_created h (Object c n)) false) (instance_iff k (Object c n) is) (not_null _ (Object c n) is refl)
  null_iff k true (Array l n) is = or_iff (And (IsInstance k xt) (created_at ht xt)) (cond (is_instance g.program k (Array l n)) (is_created h (Array l n)) false) (instance_iff k (Array l n) is) (not_null _ (Array l n) is refl)
  null_iff k false Null is = instance_iff k Null is
  null_iff k false (Object c n) is = instance_iff k (Object c n) is
  null_iff k false (Array l n) is = instance_iff k (Array l n) is

  -- ---- values of declared types

  abbrev Typed : ValueType → Bool → Value → Type 0
  Typed t n v = AllTrue g d i s [] (value_members ht t n xt) ↔ (is_of g h (record { type = t; nullable = n }) v ≡ true)

  value_iff : (t : ValueType) (n : Bool) (v : Value) → value i s [] xt ≡ v → at_sort (type_sort t) v ≡ v → Typed t n v
  value_iff IntType n v is e = subst (Typed IntType n) e (alone (λ x. sym (ap in_range is) ∙ x, λ x. ap in_range is ∙ x))
    where
      in_range : Value → Bool
      in_range x = in_int (as_int x)
  value_iff BooleanType n v is e = subst (Typed BooleanType n) e (λ x. refl, λ x. tt)
  value_iff (ReferenceType k) n v is e = subst (Typed (ReferenceType k) n) e (alone (null_iff k n (as_ref v) (is ∙ sym e)))

  pub typed_iff : (t : DeclaredType) (v : Value) → value i s [] xt ≡ v → at_sort (type_sort t.type) v ≡ v → AllTrue g d i s [] (typed_members ht t xt) ↔ (is_of g h t v ≡ true)
  typed_iff t v is e = value_iff t.type t.nullable v is e

module _ (g : Setting) (d : ℕ) (i s : State) where
  abbrev before : Heap
  before = as_heap (read i entry_heap)

  -- ---- parameters

  constant_sort : (x : Name) → (parameter_constant x).sort ≡ x.sort
  constant_sort x = refl

  pub parameters_iff : (xs : List Name) (ps : List Parameter) → SortsOf xs ps → AllTrue g d i s [] (parameter_members (respelled (constants_of_parameters xs) ps)) ↔ AreOf g before ps (map (read i) (constants_of_parameters xs))
  parameters_iff [] [] e = iff_same
  parameters_iff [] (p ∷ ps) e = absurd e
  parameters_iff (x ∷ xs) [] e = absurd e
  parameters_iff (x ∷ xs) (p ∷ ps) e =
      joined_iff g d i s (typed_members (Constant entry_heap) p.declared (Constant (parameter_constant x))) (parameter_members (respelled (constants_of_parameters xs) ps))
      (typed_iff g d i s (Constant entry_heap) (Constant (parameter_constant x)) before refl p.declared (read i (parameter_constant x)) refl
      (ap (λ k. at_sort k (read i (parameter_constant x))) (sym e.0) ∙ read_back i (parameter_constant x)))
      (parameters_iff xs ps e.1)

  -- ---- the receiver

  this_iff : (class : ℕ) → Truth g d i s [] (created_at (Constant entry_heap) (Constant receiver)) ↔ (is_created before (as_ref (read i receiver)) ≡ true)
  this_iff class = bit_iff refl

  of_class_iff : (exactly : Bool) (class : ℕ) → AllTrue g d i s [] (members exactly (IsExactInstance (OfClass class) (Constant receiver) ∷ created_at (Constant entry_heap) (Constant receiver) ∷ [])) ↔ ((cond exactly (is_exactly (OfClass class) (as_ref (read i receiver))) (is_instance g.program (OfClass class) (as_ref (read i receiver))) ≡ true) × (is_created before (as_ref (read i receiver)) ≡ true))
  of_class_iff true class = and_iff iff_same (alone (this_iff class))
  of_class_iff false class = and_iff iff_same (alone (this_iff class))

  none_iff : (exactly : Bool) → AllTrue g d i s [] (members exactly []) ↔ (Null ≡ Null)
  none_iff true = (λ x. refl, λ x. tt)
  none_iff false = (λ x. refl, λ x. tt)

  pub receiver_iff : (exactly : Bool) (r : Role) (class : ℕ) → AllTrue g d i s [] (members exactly (receiver_members r class)) ↔ Receiver g exactly r class before (receiver_in r i)
  receiver_iff exactly Static class = none_iff exactly
  receiver_iff exactly Ordinary class = of_class_iff exactly class
  receiver_iff exactly Helper class = of_class_iff exactly class
  receiver_iff exactly (ConstructorOf a) class = of_class_iff exactly class

  -- ---- the fields that a constructor finds

  default_value : (t : ValueType) → value i s [] (default_term (type_sort t)) ≡ default (type_sort t)
  default_value IntType = refl
  default_value BooleanType = refl
  default_value (ReferenceType k) = refl

  abbrev IsDefault : ℕ → Type 0
  IsDefault f = select_at (field_sort g.program f) before (as_ref (read i receiver)) (Named f) ≡ default (field_sort g.program f)

  field_iff : (f : ℕ) → Truth g d i s [] (field_member g.program f) ↔ IsDefault f
  field_iff f = (λ e. e ∙ default_value (g.program.field_type f), λ e. e ∙ sym (default_value (g.program.field_type f)))

  listed_iff : (fs : List ℕ) → AllTrue g d i s [] (map (field_member g.program) fs) ↔ ((f : ℕ) → Listed fs f → IsDefault f)
  listed_iff [] = (λ x f l. absurd l, λ x. tt)
  listed_iff (f ∷ fs) = (
    λ x k l. elim l [ inl e ↦ subst IsDefault e ((field_iff f).0 x.0) | inr m ↦ (listed_iff fs).0 x.1 k m ],
    λ x. ((field_iff f).1 (x f (inl refl)), (listed_iff fs).1 (λ k m. x k (inr m))),
  )

  pub fields_iff : (fields : ℕ → List ℕ) → ((c f : ℕ) → (g.program.has_field c f ≡ true) ↔ Listed (fields c) f) → (r : Role) → AllTrue g d i s [] (field_members g.program fields r) ↔ RoleFields g r before (receiver_in r i)
  fields_iff fields all Static = iff_same
  fields_iff fields all Ordinary = iff_same
  fields_iff fields all Helper = iff_same
  fields_iff fields all (ConstructorOf a) = iff_then (listed_iff (fields a)) (λ x f e. x f ((all a f).0 e), λ x f l. x f ((all a f).1 l))

  -- ---- classes of what is thrown

  iff_back : {A B : Type 0} → A ↔ B → B ↔ A
  iff_back h = (h.1, h.0)

  pub thrown_iff : (c : ℕ) (x : Reference) → value i s [] (ProgramVariable thrown_variable) ≡ RefValue x → Truth g d i s [] (instance_of_thrown c) ↔ (is_instance g.program (OfClass c) x ≡ true)
  thrown_iff c x is = (λ e. sym (ap (λ v. is_instance g.program (OfClass c) (as_ref v)) is) ∙ e, λ e. ap (λ v. is_instance g.program (OfClass c) (as_ref v)) is ∙ e)

  pub one_iff : (c : ℕ) (cs : List ℕ) (x : Reference) → value i s [] (ProgramVariable thrown_variable) ≡ RefValue x → Truth g d i s [] (one_of c cs) ↔ (is_one_of g (c ∷ cs) x ≡ true)
  one_iff c [] x is = last (is_instance g.program (OfClass c) x) (thrown_iff c x is)
    where
      last : (b : Bool) {A : Type 0} → A ↔ (b ≡ true) → A ↔ (b || false ≡ true)
      last true h = h
      last false h = h
  one_iff c (k ∷ cs) x is = iff_then (either_iff (thrown_iff c x is) (one_iff k cs x is)) (iff_back (either_true (is_instance g.program (OfClass c) x) (is_one_of g (k ∷ cs) x)))

  pub only_iff : (css : List (List ℕ)) (x : Reference) → value i s [] (ProgramVariable thrown_variable) ≡ RefValue x → AllTrue g d i s [] (map only_member css) ↔ AllOneOf g css x
  only_iff [] x is = iff_same
  only_iff ([] ∷ css) x is = and_iff (λ e. absurd e, λ e. true≢false (sym e)) (only_iff css x is)
  only_iff ((c ∷ cs) ∷ css) x is = and_iff (one_iff c cs x is) (only_iff css x is)
