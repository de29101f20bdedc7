-- The term of an expression has the value, and its formula the truth, that JML gives it.
use Rattle.std.proofs.Common.{◌≡◌, ◌↔◌, ℕ, Bool, true, false, ℤ, List, ◌∷◌, refl, sym, ap, subst, ◌∙◌}
use Rattle.std.specs.Prelude.{neg_ℤ, int_lt, int_le}
use Rattle.jd_base.specs.declared.sort.Sort.TheVariants.{Int as IntSort, Bool as BoolSort, Ref as RefSort}
use Rattle.jd_syntax.specs.Codes.{PlainKind}
use Rattle.jd_term.specs.Terms as terms
use Rattle.jd_term.specs.Terms.{PlainTerm}
use Rattle.jd_term.specs.Formulas as formulas
use Rattle.jd_term.specs.Formulas.{PlainFormula}
use Rattle.jd_heap.specs.References.{Reference, Named, Created, Index}
use Rattle.jd_heap.specs.Heaps.{Heap, select_int, select_bool, is_created, length_of}
use Rattle.jd_heap.specs.Values.{Value, IntValue, BoolValue, RefValue, as_int, as_bool, as_ref, as_heap, select_at, IsOf}
use Rattle.jd_model.specs.States.{State}
use Rattle.jd_model.specs.Programs.{field_sort, is_instance}
use Rattle.jd_model.specs.TermValues.{value, arithmetic, sum_range}
use Rattle.jd_model.specs.Truth.{Setting, truth, EitherOf}
use Rattle.jd_model.specs.Conjunctions.{created_at}
use Rattle.jd_jml_meaning.specs.Resolved.{QuantifiedType, OverInt, OverBigint, OverBoolean, OverReference, sort_of_type, JmlExpr, IntegerLiteral, BooleanLiteral, NullLiteral, This, Result, Thrown, Argument, Local, BoundVariable, FieldAccess, ElementAccess, LengthOf, Arithmetic, Minus, Plus, Sum, Cast, Old, Equal, Unequal, Less, LessOrEqual, Greater, GreaterOrEqual, Not, And, Or, Implies, Equivalent, Inequivalent, Conditional, InstanceOf, Fresh, InvariantFor, Forall, Exists, ForallIn, ExistsIn}
use Rattle.jd_jml_meaning.specs.Meaning.{When, Before, World, Each, meant, Holds}
use Rattle.jd_jml_meaning.specs.Translation.{Spelling, if_given, and_given, negated, term, formula}
use Rattle.jd_jml_meaning.specs.Standing.{Stands}

-- ---- the connectives

pub iff_same : {A : Type 0} → A ↔ A
iff_same = (λ x. x, λ x. x)

pub not_iff : {A B : Type 0} → A ↔ B → (¬ A) ↔ (¬ B)
not_iff h = (λ n y. n (h.1 y), λ n x. n (h.0 x))

pub and_iff : {A B C D : Type 0} → A ↔ B → C ↔ D → (A × C) ↔ (B × D)
and_iff h k = (λ p. (h.0 p.0, k.0 p.1), λ p. (h.1 p.0, k.1 p.1))

pub imp_iff : {A B C D : Type 0} → A ↔ B → C ↔ D → (A → C) ↔ (B → D)
imp_iff h k = (λ f y. k.0 (f (h.1 y)), λ f x. k.1 (f (h.0 x)))

pub either_iff : {A B C D : Type 0} → A ↔ B → C ↔ D → EitherOf A C ↔ EitherOf B D
either_iff h k = not_iff (and_iff (not_iff h) (not_iff k))

pub iff_then : {A B C : Type 0} → A ↔ B → B ↔ C → A ↔ C
iff_then h k = (λ x. k.0 (h.0 x), λ x. h.1 (k.1 x))

pub path_iff : {A : Type 0} {x y z u : A} → x ≡ y → z ≡ u → (x ≡ z) ↔ (y ≡ u)
path_iff p q = (λ e. sym p ∙ e ∙ q, λ e. p ∙ e ∙ sym q)

pub bit_iff : {x y : Bool} → x ≡ y → (BoolValue x ≡ BoolValue true) ↔ (y ≡ true)
bit_iff p = (λ e. sym p ∙ ap as_bool e, λ e. ap BoolValue (p ∙ e))

-- ---- the values of a sort

pub ints : (Q : Value → Type 0) → ((z : ℤ) → Q (IntValue z)) → (v : Value) → IsOf IntSort v → Q v
ints Q f (IntValue z) o = f z
ints Q f v o = absurd o

pub bools : (Q : Value → Type 0) → ((z : Bool) → Q (BoolValue z)) → (v : Value) → IsOf BoolSort v → Q v
bools Q f (BoolValue z) o = f z
bools Q f v o = absurd o

pub refs : (Q : Value → Type 0) → ((z : Reference) → Q (RefValue z)) → (v : Value) → IsOf RefSort v → Q v
refs Q f (RefValue z) o = f z
refs Q f v o = absurd o

module _ (g : Setting) (sp : Spelling) (i s : State) (w : World) (st : Stands sp i s w) where
  negation : (t : When) (b : List Value) (e : JmlExpr) → value i s b (negated e (term g.program sp t e)) ≡ IntValue (neg_ℤ (as_int (value i s b (term g.program sp t e))))
  negation t b (IntegerLiteral z) = refl
  negation t b e = refl

  pub spelled : (t : When) (b : List Value) (e : JmlExpr) → value i s b (term g.program sp t e) ≡ meant g.program w t b e
  spelled t b (IntegerLiteral z) = refl
  spelled t b (BooleanLiteral x) = refl
  spelled t b NullLiteral = refl
  spelled t b This = st.this b
  spelled t b Result = st.result b
  spelled t b Thrown = st.thrown b
  spelled t b (Argument k) = st.argument t k b
  spelled t b (Local x) = st.local x
  spelled t b (BoundVariable k srt) = refl
  spelled t b (FieldAccess e f) = λ j. select_at (field_sort g.program f) (as_heap (st.heap t b j)) (as_ref (spelled t b e j)) (Named f)
  spelled t b (ElementAccess a e) = λ j. IntValue (select_int (as_heap (st.heap t b j)) (as_ref (spelled t b a j)) (Index (as_int (spelled t b e j))))
  spelled t b (LengthOf a) = λ j. IntValue (length_of (as_ref (spelled t b a j)))
  spelled t b (Arithmetic op x y) = λ j. IntValue (arithmetic op (as_int (spelled t b x j)) (as_int (spelled t b y j)))
  spelled t b (Minus e) = negation t b e ∙ (λ j. IntValue (neg_ℤ (as_int (spelled t b e j))))
  spelled t b (Plus e) = spelled t b e
  spelled t b (Sum x y e) = λ j. IntValue (sum_range (as_int (spelled t b x j)) (as_int (spelled t b y j)) (λ z. as_int (spelled t (IntValue z ∷ b) e j)))
  spelled t b (Cast e) = spelled t b e
  spelled t b (Old e) = spelled Before b e
  spelled t b e = refl

  pub int_at : (t : When) (b : List Value) (e : JmlExpr) → as_int (value i s b (term g.program sp t e)) ≡ as_int (meant g.program w t b e)
  int_at t b e = ap as_int (spelled t b e)

  module _ (d : ℕ) (inv ok : Heap → Reference → Type 0) (invs : (h : Heap) (o : Reference) → inv h o ↔ ok h o) where
    pub moved_inv : (h k : Heap) (r q : Reference) → h ≡ k → r ≡ q → inv h r ↔ ok k q
    moved_inv h k r q e m = (λ x. (invs k q).0 (subst (inv k) m (subst (λ y. inv y r) e x)), λ x. subst (λ y. inv y r) (sym e) (subst (inv k) (sym m) ((invs k q).1 x)))

    -- what `created` says at a term
    pub created_iff : (t : When) (b : List Value) (u : PlainTerm) (v : Value) → value i s b u ≡ v → truth g d inv i s b (created_at (sp.heap t) u) ↔ (is_created (w.heap t) (as_ref v) ≡ true)
    created_iff t b u v e = bit_iff (λ j. select_bool (as_heap (st.heap t b j)) (as_ref (e j)) Created)

    given_iff : (k : PlainKind) (t : When) (b : List Value) (r : Reference) → (is_instance g.program k r ≡ true) × truth g d inv i s (RefValue r ∷ b) (created_at (sp.heap t) (terms.Bound 0 RefSort)) ↔ (is_instance g.program k r ≡ true) × (is_created (w.heap t) r ≡ true)
    given_iff k t b r = and_iff iff_same (created_iff t (RefValue r ∷ b) (terms.Bound 0 RefSort) (RefValue r) refl)

    all_iff : (k : QuantifiedType) (t : When) (b : List Value) (a : PlainFormula) (P : Value → Type 0) → ((v : Value) → truth g d inv i s (v ∷ b) a ↔ P v) → truth g d inv i s b (formulas.Forall (sort_of_type k) (if_given k (sp.heap t) a)) ↔ Each g.program k (w.heap t) P
    all_iff OverInt t b a P h = (λ f z r. (h (IntValue z)).0 (f (IntValue z) tt r), λ f. ints _ (λ z r. (h (IntValue z)).1 (f z r)))
    all_iff OverBigint t b a P h = (λ f z. (h (IntValue z)).0 (f (IntValue z) tt), λ f. ints _ (λ z. (h (IntValue z)).1 (f z)))
    all_iff OverBoolean t b a P h = (λ f z. (h (BoolValue z)).0 (f (BoolValue z) tt), λ f. bools _ (λ z. (h (BoolValue z)).1 (f z)))
    all_iff (OverReference k) t b a P h = (λ f z c m. (h (RefValue z)).0 (f (RefValue z) tt ((given_iff k t b z).1 (c, m))), λ f. refs _ (λ z q. (h (RefValue z)).1 (f z ((given_iff k t b z).0 q).0 ((given_iff k t b z).0 q).1)))

    some_iff : (k : QuantifiedType) (t : When) (b : List Value) (a : PlainFormula) (P : Value → Type 0) → ((v : Value) → truth g d inv i s (v ∷ b) a ↔ P v) → truth g d inv i s b (formulas.Exists (sort_of_type k) (and_given k (sp.heap t) a)) ↔ ¬ (Each g.program k (w.heap t) (λ v. ¬ (P v)))
    some_iff OverInt t b a P h = not_iff (λ f z r y. f (IntValue z) tt (r, (h (IntValue z)).1 y), λ f. ints _ (λ z q. f z q.0 ((h (IntValue z)).0 q.1)))
    some_iff OverBigint t b a P h = not_iff (λ f z y. f (IntValue z) tt ((h (IntValue z)).1 y), λ f. ints _ (λ z q. f z ((h (IntValue z)).0 q)))
    some_iff OverBoolean t b a P h = not_iff (λ f z y. f (BoolValue z) tt ((h (BoolValue z)).1 y), λ f. bools _ (λ z q. f z ((h (BoolValue z)).0 q)))
    some_iff (OverReference k) t b a P h = not_iff (λ f z c m y. f (RefValue z) tt ((given_iff k t b z).1 (c, m), (h (RefValue z)).1 y), λ f. refs _ (λ z q. f z ((given_iff k t b z).0 q.0).0 ((given_iff k t b z).0 q.0).1 ((h (RefValue z)).0 q.1)))

    pub holds : (t : When) (b : List Value) (e : JmlExpr) → truth g d inv i s b (formula g.program sp t e) ↔ Holds g.program w ok t b e
    holds t b (BooleanLiteral true) = iff_same
    holds t b (BooleanLiteral false) = iff_same
    holds t b (Cast e) = holds t b e
    holds t b (Old e) = holds Before b e
    holds t b (Equal x y) = path_iff (spelled t b x) (spelled t b y)
    holds t b (Unequal x y) = not_iff (path_iff (spelled t b x) (spelled t b y))
    holds t b (Less x y) = path_iff (λ j. int_lt (int_at t b x j) (int_at t b y j)) refl
    holds t b (LessOrEqual x y) = path_iff (λ j. int_le (int_at t b x j) (int_at t b y j)) refl
    holds t b (Greater x y) = path_iff (λ j. int_lt (int_at t b y j) (int_at t b x j)) refl
    holds t b (GreaterOrEqual x y) = path_iff (λ j. int_le (int_at t b y j) (int_at t b x j)) refl
    holds t b (Not e) = not_iff (holds t b e)
    holds t b (And x y) = and_iff (holds t b x) (holds t b y)
    holds t b (Or x y) = either_iff (holds t b x) (holds t b y)
    holds t b (Implies x y) = imp_iff (holds t b x) (holds t b y)
    holds t b (Equivalent x y) = and_iff (imp_iff (holds t b x) (holds t b y)) (imp_iff (holds t b y) (holds t b x))
    holds t b (Inequivalent x y) = not_iff (and_iff (imp_iff (holds t b x) (holds t b y)) (imp_iff (holds t b y) (holds t b x)))
    holds t b (Conditional c x y) = and_iff (imp_iff (holds t b c) (holds t b x)) (imp_iff (not_iff (holds t b c)) (holds t b y))
    holds t b (InstanceOf k e) = path_iff (λ j. is_instance g.program k (as_ref (spelled t b e j))) refl
    holds t b (Fresh e) = and_iff (not_iff (path_iff (spelled t b e) refl)) (not_iff (created_iff Before b (term g.program sp t e) (meant g.program w t b e) (spelled t b e)))
    holds t b (InvariantFor e) = moved_inv _ _ _ _ (λ j. as_heap (st.heap t b j)) (λ j. as_ref (spelled t b e j))
    holds t b (Forall k e) = all_iff k t b (formula g.program sp t e) _ (λ v. holds t (v ∷ b) e)
    holds t b (ForallIn k r e) = all_iff k t b _ _ (λ v. imp_iff (holds t (v ∷ b) r) (holds t (v ∷ b) e))
    holds t b (Exists k e) = some_iff k t b _ _ (λ v. holds t (v ∷ b) e)
    holds t b (ExistsIn k r e) = some_iff k t b _ _ (λ v. and_iff (holds t (v ∷ b) r) (holds t (v ∷ b) e))
    holds t b e = path_iff (spelled t b e) refl
