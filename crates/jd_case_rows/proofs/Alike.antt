-- What an expression means hangs on what it speaks of alone.
use Rattle.std.proofs.Common.{◌≡◌, ◌↔◌, ℕ, true, false, List, [], ◌∷◌, refl, sym, ap, subst, ◌∙◌}
use Rattle.std.specs.Prelude.{ℤ, neg_ℤ, int_lt, int_le}
use Rattle.jd_heap.specs.References.{Reference, Field, Named, Created, Index}
use Rattle.jd_heap.specs.Heaps.{Heap, select_int, select_bool, is_created, length_of}
use Rattle.jd_heap.specs.Values.{Value, IntValue, BoolValue, RefValue, as_int, as_ref, select_at}
use Rattle.jd_model.specs.Programs.{Program, field_sort, is_instance}
use Rattle.jd_model.specs.TermValues.{arithmetic, sum_range}
use Rattle.jd_jml_meaning.specs.Resolved.{QuantifiedType, OverInt, OverBigint, OverBoolean, OverReference, JmlExpr, IntegerLiteral, BooleanLiteral, NullLiteral, This, Result, Thrown, Argument, Local, BoundVariable, FieldAccess, ElementAccess, LengthOf, Arithmetic, Minus, Plus, Sum, Cast, Old, Equal, Unequal, Less, LessOrEqual, Greater, GreaterOrEqual, Not, And, Or, Implies, Equivalent, Inequivalent, Conditional, InstanceOf, Fresh, InvariantFor, Forall, Exists, ForallIn, ExistsIn, JmlLocation, Nothing, Everything, FieldLocation, AllFields, Element, Elements, AllElements}
use Rattle.jd_jml_meaning.specs.Meaning.{When, Before, World, Each, IndexIn, meant, Holds, Among, AmongAll}
use Rattle.jd_jml_meaning.proofs.Spelled.{iff_same, not_iff, and_iff, imp_iff, either_iff, path_iff}
use Rattle.jd_case_rows.specs.Speaking.{Allowed, Speaks, LocationSpeaks, LocationsSpeak}

-- two worlds agree on what is spoken of, at some times, among them the time before
pub record Agree (u : Allowed) (At : When → Type 0) (v w : World) : Type 0 where
  pub before : At Before
  pub heap : (t : When) → At t → v.heap t ≡ w.heap t
  pub argument : (t : When) (k : ℕ) → v.argument t k ≡ w.argument t k
  pub this : u.receiver ≡ true → v.this ≡ w.this
  pub result : u.result ≡ true → v.result ≡ w.result
  pub thrown : u.thrown ≡ true → v.thrown ≡ w.thrown

module _ (p : Program) where
  each_iff : (k : QuantifiedType) (h g : Heap) → h ≡ g → (P Q : Value → Type 0) → ((v : Value) → P v ↔ Q v) → Each p k h P ↔ Each p k g Q
  each_iff OverInt h g e P Q f = (λ x z r. (f (IntValue z)).0 (x z r), λ x z r. (f (IntValue z)).1 (x z r))
  each_iff OverBigint h g e P Q f = (λ x z. (f (IntValue z)).0 (x z), λ x z. (f (IntValue z)).1 (x z))
  each_iff OverBoolean h g e P Q f = (λ x z. (f (BoolValue z)).0 (x z), λ x z. (f (BoolValue z)).1 (x z))
  each_iff (OverReference k) h g e P Q f = (
    λ x r i c. (f (RefValue r)).0 (x r i (ap (λ m. is_created m r) e ∙ c)),
    λ x r i c. (f (RefValue r)).1 (x r i (sym (ap (λ m. is_created m r) e) ∙ c)),
  )

  module _ (u : Allowed) (At : When → Type 0) (v w : World) (a : Agree u At v w) where
    pub meant_alike : (t : When) → At t → (b : List Value) (e : JmlExpr) → Speaks u e → meant p v t b e ≡ meant p w t b e
    meant_alike t now b (IntegerLiteral z) s = refl
    meant_alike t now b (BooleanLiteral x) s = refl
    meant_alike t now b NullLiteral s = refl
    meant_alike t now b This s = ap RefValue (a.this s)
    meant_alike t now b Result s = a.result s
    meant_alike t now b Thrown s = ap RefValue (a.thrown s)
    meant_alike t now b (Argument k) s = a.argument t k
    meant_alike t now b (Local x) s = absurd s
    meant_alike t now b (BoundVariable k srt) s = refl
    meant_alike t now b (FieldAccess e f) s = λ j. select_at (field_sort p f) (a.heap t now j) (as_ref (meant_alike t now b e s j)) (Named f)
    meant_alike t now b (ElementAccess x e) s = λ j. IntValue (select_int (a.heap t now j) (as_ref (meant_alike t now b x s.0 j)) (Index (as_int (meant_alike t now b e s.1 j))))
    meant_alike t now b (LengthOf x) s = λ j. IntValue (length_of (as_ref (meant_alike t now b x s j)))
    meant_alike t now b (Arithmetic op x y) s = λ j. IntValue (arithmetic op (as_int (meant_alike t now b x s.0 j)) (as_int (meant_alike t now b y s.1 j)))
    meant_alike t now b (Minus e) s = λ j. IntValue (neg_ℤ (as_int (meant_alike t now b e s j)))
    meant_alike t now b (Plus e) s = meant_alike t now b e s
    meant_alike t now b (Sum x y e) s = λ j. IntValue (sum_range (as_int (meant_alike t now b x s.0 j)) (as_int (meant_alike t now b y s.1 j)) (λ z. as_int (meant_alike t now (IntValue z ∷ b) e s.2 j)))
    meant_alike t now b (Cast e) s = meant_alike t now b e s
    meant_alike t now b (Old e) s = meant_alike Before a.before b e s
    meant_alike t now b e s = refl

    int_alike : (t : When) → At t → (b : List Value) (e : JmlExpr) → Speaks u e → as_int (meant p v t b e) ≡ as_int (meant p w t b e)
    int_alike t now b e s = ap as_int (meant_alike t now b e s)

    module _ (inv : Heap → Reference → Type 0) where
      same_inv : (h k : Heap) (r q : Reference) → h ≡ k → r ≡ q → inv h r ↔ inv k q
      same_inv h k r q e m = (λ x. subst (inv k) m (subst (λ y. inv y r) e x), λ x. subst (λ y. inv y r) (sym e) (subst (inv k) (sym m) x))

      pub holds_alike : (t : When) → At t → (b : List Value) (e : JmlExpr) → Speaks u e → Holds p v inv t b e ↔ Holds p w inv t b e
      holds_alike t now b (BooleanLiteral true) s = iff_same
      holds_alike t now b (BooleanLiteral false) s = iff_same
      holds_alike t now b (Cast e) s = holds_alike t now b e s
      holds_alike t now b (Old e) s = holds_alike Before a.before b e s
      holds_alike t now b (Equal x y) s = path_iff (meant_alike t now b x s.0) (meant_alike t now b y s.1)
      holds_alike t now b (Unequal x y) s = not_iff (path_iff (meant_alike t now b x s.0) (meant_alike t now b y s.1))
      holds_alike t now b (Less x y) s = path_iff (λ j. int_lt (int_alike t now b x s.0 j) (int_alike t now b y s.1 j)) refl
      holds_alike t now b (LessOrEqual x y) s = path_iff (λ j. int_le (int_alike t now b x s.0 j) (int_alike t now b y s.1 j)) refl
      holds_alike t now b (Greater x y) s = path_iff (λ j. int_lt (int_alike t now b y s.1 j) (int_alike t now b x s.0 j)) refl
      holds_alike t now b (GreaterOrEqual x y) s = path_iff (λ j. int_le (int_alike t now b y s.1 j) (int_alike t now b x s.0 j)) refl
      holds_alike t now b (Not e) s = not_iff (holds_alike t now b e s)
      holds_alike t now b (And x y) s = and_iff (holds_alike t now b x s.0) (holds_alike t now b y s.1)
      holds_alike t now b (Or x y) s = either_iff (holds_alike t now b x s.0) (holds_alike t now b y s.1)
      holds_alike t now b (Implies x y) s = imp_iff (holds_alike t now b x s.0) (holds_alike t now b y s.1)
      holds_alike t now b (Equivalent x y) s = and_iff (imp_iff (holds_alike t now b x s.0) (holds_alike t now b y s.1)) (imp_iff (holds_alike t now b y s.1) (holds_alike t now b x s.0))
      holds_alike t now b (Inequivalent x y) s = not_iff (and_iff (imp_iff (holds_alike t now b x s.0) (holds_alike t now b y s.1)) (imp_iff (holds_alike t now b y s.1) (holds_alike t now b x s.0)))
      holds_alike t now b (Conditional c x y) s = and_iff (imp_iff (holds_alike t now b c s.0) (holds_alike t now b x s.1)) (imp_iff (not_iff (holds_alike t now b c s.0)) (holds_alike t now b y s.2))
      holds_alike t now b (InstanceOf k e) s = path_iff (λ j. is_instance p k (as_ref (meant_alike t now b e s j))) refl
      holds_alike t now b (Fresh e) s =
          and_iff (not_iff (path_iff (meant_alike t now b e s) refl)) (not_iff (path_iff (λ j. select_bool (a.heap Before a.before j) (as_ref (meant_alike t now b e s j)) Created) refl))
      holds_alike t now b (InvariantFor e) s = same_inv _ _ _ _ (a.heap t now) (ap as_ref (meant_alike t now b e s))
      holds_alike t now b (Forall k e) s = each_iff k _ _ (a.heap t now) _ _ (λ x. holds_alike t now (x ∷ b) e s)
      holds_alike t now b (ForallIn k r e) s = each_iff k _ _ (a.heap t now) _ _ (λ x. imp_iff (holds_alike t now (x ∷ b) r s.0) (holds_alike t now (x ∷ b) e s.1))
      holds_alike t now b (Exists k e) s = not_iff (each_iff k _ _ (a.heap t now) _ _ (λ x. not_iff (holds_alike t now (x ∷ b) e s)))
      holds_alike t now b (ExistsIn k r e) s = not_iff (each_iff k _ _ (a.heap t now) _ _ (λ x. not_iff (and_iff (holds_alike t now (x ∷ b) r s.0) (holds_alike t now (x ∷ b) e s.1))))
      holds_alike t now b e s = path_iff (meant_alike t now b e s) refl

    -- ---- locations

    ref_alike : (t : When) → At t → (b : List Value) (e : JmlExpr) → Speaks u e → (o : Reference) → (o ≡ as_ref (meant p v t b e)) ↔ (o ≡ as_ref (meant p w t b e))
    ref_alike t now b e s o = path_iff refl (ap as_ref (meant_alike t now b e s))

    range_alike : (x y x' y' : ℤ) → x ≡ x' → y ≡ y' → (f : Field) → IndexIn x y f ↔ IndexIn x' y' f
    range_alike x y x' y' e m f = (λ h. subst (λ z. IndexIn x' z f) m (subst (λ z. IndexIn z y f) e h), λ h. subst (λ z. IndexIn z y f) (sym e) (subst (λ z. IndexIn x' z f) (sym m) h))

    among_alike : (t : When) → At t → (b : List Value) (l : JmlLocation) → LocationSpeaks u l → (o : Reference) (f : Field) → Among p v t b l o f ↔ Among p w t b l o f
    among_alike t now b Nothing s o f = iff_same
    among_alike t now b Everything s o f = iff_same
    among_alike t now b (FieldLocation e q) s o f = and_iff (ref_alike t now b e s o) iff_same
    among_alike t now b (AllFields e) s o f = ref_alike t now b e s o
    among_alike t now b (Element x e) s o f = and_iff (ref_alike t now b x s.0 o) (path_iff refl (ap Index (int_alike t now b e s.1)))
    among_alike t now b (Elements x y z) s o f = and_iff (ref_alike t now b x s.0 o) (range_alike _ _ _ _ (int_alike t now b y s.1) (int_alike t now b z s.2) f)
    among_alike t now b (AllElements x) s o f = and_iff (ref_alike t now b x s o) iff_same

    pub all_alike : (t : When) → At t → (b : List Value) (ls : List JmlLocation) → LocationsSpeak u ls → (o : Reference) (f : Field) → AmongAll p v t b ls o f ↔ AmongAll p w t b ls o f
    all_alike t now b [] s o f = iff_same
    all_alike t now b (l ∷ ls) s o f = either_iff (among_alike t now b l s.0 o f) (all_alike t now b ls s.1 o f)
