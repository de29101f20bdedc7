-- An expression of which no token is refused speaks of what it may.
use Rattle.std.proofs.Common.{◌≡◌, ◌⊎◌, inl, inr, ℕ, Bool, true, false, not, List, [], ◌∷◌, if◌then◌else◌, Option, Some, None, Result, Ok, Err, refl, sym, ap, ◌∙◌, subst, bytes_eq}
use Rattle.jd_syntax.specs.JavaTypes.{PlainIdentifier}
use Rattle.jd_syntax.specs.SpecTrees.{PlainSpec, Integer, Boolean, Null, This, Result as ResultWord, Name, Field, Parenthesized, Call, MethodCall, Index, Prefix, Cast, Infix, InstanceOf, Conditional, Implies, Equivalent, Old, Fresh, InvariantFor, Quantified, QuantifiedIn, Sum}
use Rattle.jd_syntax.specs.declared.java.InfixOperator.{InfixOperator}
use Rattle.jd_syntax.specs.declared.java.InfixOperator.TheVariants as operators
use Rattle.jd_syntax.specs.declared.spec.SpecPrefix.{SpecPrefix}
use Rattle.jd_syntax.specs.declared.spec.SpecPrefix.TheVariants as prefixes
use Rattle.jd_syntax.specs.declared.spec.Quantifier.{Quantifier}
use Rattle.jd_syntax.specs.declared.spec.Quantifier.TheVariants as quantifiers
use Rattle.jd_bodies.specs.Declarations.{Declarations}
use Rattle.jd_bodies.specs.declared.value.ValueType.{ValueType}
use Rattle.jd_bodies.specs.declared.value.ValueType.TheVariants as types
use Rattle.jd_bodies.specs.declared.value.Variable.{Variable}
use Rattle.jd_bodies.specs.declared.value.Variable.TheVariants as variables
use Rattle.jd_bodies.specs.Expressions.{part_type, whole_type}
use Rattle.jd_specifications.specs.declared.fault.SpecCause.{SpecCause}
use Rattle.jd_specifications.specs.declared.fault.SpecFault.{SpecFault}
use Rattle.jd_specifications.specs.Scopes.{Named, AParameter, AnException, ABound, SpecLocal, local_named, SpecPlace, and_then, refused, only_if, class_unless}
use Rattle.jd_specifications.specs.Types.{own_variable, name_type, constant_type, result_type, wanted, one, two, operation as judged_operation, choice, cast, instance, element, of_reference, summed, field_type, sign_type, bound as bound_local, bound_type, written_type, class_before as class_judged, type_of, at_of}
use Rattle.jd_specifications.specs.Resolution as to
use Rattle.jd_specifications.specs.Resolution.{Known, AnArgument, TheException, ABinder, Entry, binders_then, found, looked_up, typed, own_member, named, operation, sign, quantified, quantified_in, over_type, bound_value, member, class_before, static_type, bound, field, resolved, is_boolean}
use Rattle.jd_jml_meaning.specs.Resolved as jml
use Rattle.jd_jml_meaning.specs.Resolved.{JmlExpr, QuantifiedType}
use Rattle.jd_case_rows.specs.Speaking.{Allowed, Speaks}

-- what comes before is in order
pub through : {A B : Type 0} (f : A → Result B SpecFault) (r : Result A SpecFault) (b : B) → and_then f r ≡ Ok b → (a : A) × (r ≡ Ok a) × (f a ≡ Ok b)
through f (Ok a) b e = (a, refl, e)
through f (Err x) b e = absurd cc

pub only : {A : Type 0} (t : Bool) (at : ℕ) (cause : SpecCause) (a b : A) → only_if t at cause a ≡ Ok b → t ≡ true
only true at cause a b e = refl
only false at cause a b e = absurd cc

pub refused_is : {B : Type 0} (at : ℕ) (cause : SpecCause) (t : ValueType) → ◌≡◌ {A = Result ValueType SpecFault} (refused at cause) (Ok t) → B
refused_is at cause t e = absurd cc

-- ---- names in scope, as they are judged and as they are resolved

module _ (u : Allowed) where
  abbrev FitsKnown : Named → Known → Type 0
  FitsKnown AParameter (AnArgument k) = Unit {0}
  FitsKnown AnException TheException = u.thrown ≡ true
  FitsKnown ABound ABinder = Unit {0}
  FitsKnown n k = ⊥

  abbrev pub Fit : List SpecLocal → List Entry → Type 0
  Fit [] [] = Unit {0}
  Fit (l ∷ ls) (e ∷ es) = (l.name ≡ e.name) × FitsKnown l.named e.known × Fit ls es
  Fit ls es = ⊥

-- a typed value and that it is there
abbrev pub Fine : Result ValueType SpecFault → Type 0
Fine r = (t : ValueType) × (r ≡ Ok t)

fine : (r : Result ValueType SpecFault) (t : ValueType) → r ≡ Ok t → Fine r
fine r t e = (t, e)

module _ (d : Declarations) where
  -- ---- of each form the parts are in order

  one_fine : (want : ValueType) (at : ℕ) (r : Result ValueType SpecFault) → Fine (one d want at r) → Fine r
  one_fine want at r f = let g = through (wanted d want at) r f.0 f.1 in (g.0, g.1)

  two_fine : (want whole : ValueType) (first : ℕ) (a : Result ValueType SpecFault) (second : ℕ) (b : Result ValueType SpecFault) → Fine (two d want whole first a second b) → Fine a × Fine b
  two_fine want whole first a second b f =
      let g = through _ a f.0 f.1 in
      let h = through _ b f.0 g.2 in ((g.0, g.1), (h.0, h.1))

  operation_fine : (want : Option ValueType) (whole : ValueType) (at first : ℕ) (a : Result ValueType SpecFault) (second : ℕ) (b : Result ValueType SpecFault) → Fine (judged_operation d want whole at first a second b) → Fine a × Fine b
  operation_fine (Some want) whole at first a second b f = two_fine want whole first a second b f
  operation_fine None whole at first a second b f =
      let g = through _ a f.0 f.1 in
      let h = through _ b f.0 g.2 in ((g.0, g.1), (h.0, h.1))

  choice_fine : (at place : ℕ) (c a b : Result ValueType SpecFault) → Fine (choice d at place c a b) → Fine c × Fine a × Fine b
  choice_fine at place c a b f =
      let g = through _ c f.0 f.1 in
      let h = through _ a f.0 g.2 in
      let k = through _ b f.0 h.2 in ((g.0, g.1), (h.0, h.1), (k.0, k.1))

  cast_fine : (at : ℕ) (want e : Result ValueType SpecFault) → Fine (cast d at want e) → Fine e
  cast_fine at want e f =
      let g = through _ want f.0 f.1 in
      let h = through _ e f.0 g.2 in (h.0, h.1)

  instance_fine : (at : ℕ) (e want : Result ValueType SpecFault) → Fine (instance d at e want) → Fine e
  instance_fine at e want f = let g = through _ e f.0 f.1 in (g.0, g.1)

  pub element_fine : (first : ℕ) (a : Result ValueType SpecFault) (second : ℕ) (i : Result ValueType SpecFault) → Fine (element d first a second i) → Fine a × Fine i
  element_fine first a second i f =
      let g = through _ a f.0 f.1 in
      let h = through _ i f.0 g.2 in ((g.0, g.1), (h.0, h.1))

  of_reference_fine : (allowed : Bool) (at : ℕ) (cause : SpecCause) (place : ℕ) (e : Result ValueType SpecFault) → Fine (of_reference d allowed at cause place e) → Fine e
  of_reference_fine allowed at cause place e f = let g = through _ e f.0 f.1 in (g.0, g.1)

  summed_fine : (first : ℕ) (a : Result ValueType SpecFault) (second : ℕ) (b : Result ValueType SpecFault) (third : ℕ) (e : Result ValueType SpecFault) → Fine (summed d first a second b third e) → Fine a × Fine b × Fine e
  summed_fine first a second b third e f =
      let g = through _ a f.0 f.1 in
      let h = through _ b f.0 g.2 in
      let k = through _ e f.0 h.2 in ((g.0, g.1), (h.0, h.1), (k.0, k.1))

  module _ (p : SpecPlace) (result : ValueType) (u : Allowed) (receiver : not p.place.is_static ≡ true → u.receiver ≡ true) (some_result : (t : ValueType) → p.result ≡ Some t → u.result ≡ true) where
    abbrev class : ℕ
    class = p.place.class

    found_speaks : (n : ℕ) (l : Named) (e : Entry) → FitsKnown u l e.known → Speaks u (found n e)
    found_speaks n l e h = by l e.known h
      where
        by : (l : Named) (k : Known) → FitsKnown u l k → Speaks u (found n (record { name = e.name; known = k; type = e.type }))
        by AParameter (AnArgument i) h = tt
        by AnException TheException h = h
        by ABound ABinder h = tt
        by l k h = absurd h

    -- a name is in scope for both or for none
    record Seen (n : ℕ) (ls : List SpecLocal) (es : List Entry) (x : List ℕ) : Type 0 where
      local : Option SpecLocal
      entry : Option JmlExpr
      typed_ : Option ValueType
      local_is : local_named ls x ≡ local
      entry_is : looked_up n es x ≡ entry
      typed_is : typed es x ≡ typed_
      alike : ((local ≡ None) × (entry ≡ None) × (typed_ ≡ None)) ⊎ ((l : SpecLocal) × (e : JmlExpr) × (t : ValueType) × (local ≡ Some l) × (entry ≡ Some e) × (typed_ ≡ Some t) × Speaks u e)

    seen : (n : ℕ) (ls : List SpecLocal) (es : List Entry) (x : List ℕ) → Fit u ls es → Seen n ls es x
    seen n [] [] x f = record { local = None; entry = None; typed_ = None; local_is = refl; entry_is = refl; typed_is = refl; alike = inl (refl, refl, refl) }
    seen n [] (e ∷ es) x f = absurd f
    seen n (l ∷ ls) [] x f = absurd f
    seen n (l ∷ ls) (e ∷ es) x f = by (bytes_eq l.name x) refl (seen (binders_then e.known n) ls es x f.2)
      where
        by : (b : Bool) → bytes_eq l.name x ≡ b → Seen (binders_then e.known n) ls es x → Seen n (l ∷ ls) (e ∷ es) x
        by true is rest = record {
          local = Some l;
          entry = Some (found n e);
          typed_ = Some e.type;
          local_is = ap (λ b. if b then Some l else local_named ls x) is;
          entry_is = ap (λ b. if b then Some (found n e) else looked_up (binders_then e.known n) es x) (ap (λ w. bytes_eq w x) (sym f.0) ∙ is);
          typed_is = ap (λ b. if b then Some e.type else typed es x) (ap (λ w. bytes_eq w x) (sym f.0) ∙ is);
          alike = inr (l, found n e, e.type, refl, refl, refl, found_speaks n l.named e f.1);
        }
        by false is rest = record {
          local = rest.local;
          entry = rest.entry;
          typed_ = rest.typed_;
          local_is = ap (λ b. if b then Some l else local_named ls x) is ∙ rest.local_is;
          entry_is = ap (λ b. if b then Some (found n e) else looked_up (binders_then e.known n) es x) (ap (λ w. bytes_eq w x) (sym f.0) ∙ is) ∙ rest.entry_is;
          typed_is = ap (λ b. if b then Some e.type else typed es x) (ap (λ w. bytes_eq w x) (sym f.0) ∙ is) ∙ rest.typed_is;
          alike = rest.alike;
        }

    -- ---- members

    own_speaks : (e : JmlExpr) (v : Option Variable) → Speaks u e → Speaks u (own_member e v)
    own_speaks e None s = tt
    own_speaks e (Some (variables.Field f t)) s = s
    own_speaks e (Some (variables.Constant n)) s = tt

    member_speaks : (x : List ℕ) (t : ValueType) (e : JmlExpr) → Speaks u e → Speaks u (member d x t e)
    member_speaks x (types.Class c) e s = own_speaks e (d.variable c x) s
    member_speaks x types.Int e s = s
    member_speaks x types.Boolean e s = s
    member_speaks x types.IntArray e s = s
    member_speaks x types.Null e s = s
    member_speaks x types.Missing e s = s

    -- a field without a receiver needs `this`
    own_fine : (at : ℕ) (v : Option Variable) → Fine (own_variable p.place.is_static at v) → Speaks u (own_member jml.This v)
    own_fine at None f = refused_is at _ f.0 f.1
    own_fine at (Some (variables.Field k t)) f = receiver (only (not p.place.is_static) at _ t f.0 f.1)
    own_fine at (Some (variables.Constant n)) f = tt

    constant_fine : (at : ℕ) (e : JmlExpr) (v : Option Variable) → Fine (constant_type at v) → Speaks u (own_member e v)
    constant_fine at e None f = refused_is at _ f.0 f.1
    constant_fine at e (Some (variables.Field k t)) f = refused_is at _ f.0 f.1
    constant_fine at e (Some (variables.Constant n)) f = tt

    name_speaks : (inside : Bool) (at : ℕ) (x : List ℕ) (ls : List SpecLocal) (es : List Entry) → Fit u ls es → Fine (name_type inside p.place.is_static at (local_named ls x) (d.variable class x)) → Speaks u (named (looked_up 0 es x) (d.variable class x))
    name_speaks inside at x ls es f fine_ = by (seen 0 ls es x f)
      where
        by : Seen 0 ls es x → Speaks u (named (looked_up 0 es x) (d.variable class x))
        by s = elim s.alike [
          | inl none ↦
              subst (λ o. Speaks u (named o (d.variable class x))) (sym (s.entry_is ∙ none.1))
              (own_fine at (d.variable class x) (subst (λ o. Fine (name_type inside p.place.is_static at o (d.variable class x))) (s.local_is ∙ none.0) fine_))
          | inr some ↦ subst (λ o. Speaks u (named o (d.variable class x))) (sym (s.entry_is ∙ some.4)) some.6
        ]

    -- what stands before a dot is a class for both or for neither
    unless_same : (l : Option SpecLocal) (t : Option ValueType) (v : Option Variable) (c : Option ℕ) → ((l ≡ None) × (t ≡ None)) ⊎ ((k : SpecLocal) × (w : ValueType) × (l ≡ Some k) × (t ≡ Some w)) → class_unless l v c ≡ to.class_unless d t v c
    unless_same None None None c a = refl
    unless_same None None (Some v) c a = refl
    unless_same (Some l) (Some t) v c a = refl
    unless_same None (Some t) v c (inl none) = absurd (let e = none.1 in cc)
    unless_same None (Some t) v c (inr some) = absurd (let e = some.2 in cc)
    unless_same (Some l) None v c (inl none) = absurd (let e = none.0 in cc)
    unless_same (Some l) None v c (inr some) = absurd (let e = some.3 in cc)

    before_same : (ls : List SpecLocal) (es : List Entry) → Fit u ls es → (e : PlainSpec) → class_judged d p ls e ≡ class_before d class result es e
    before_same ls es f (Name at c) =
        let s = seen 0 ls es c f in
        ap (λ o. class_unless o (d.variable class c) (d.class_named c)) s.local_is
        ∙ unless_same s.local s.typed_ (d.variable class c) (d.class_named c) (elim s.alike [ inl none ↦ inl (none.0, none.2) | inr some ↦ inr (some.0, some.2, some.3, some.5) ])
        ∙ sym (ap (λ o. to.class_unless d o (d.variable class c) (d.class_named c)) s.typed_is)
    before_same ls es f (Integer at n) = refl
    before_same ls es f (Boolean at b) = refl
    before_same ls es f (Null at) = refl
    before_same ls es f (This at) = refl
    before_same ls es f (ResultWord at) = refl
    before_same ls es f (Field at e x) = refl
    before_same ls es f (Parenthesized at e) = refl
    before_same ls es f (Call at m xs) = refl
    before_same ls es f (MethodCall at e m xs) = refl
    before_same ls es f (Index at a i) = refl
    before_same ls es f (Prefix at o e) = refl
    before_same ls es f (Cast at w e) = refl
    before_same ls es f (Infix at o a b) = refl
    before_same ls es f (InstanceOf at e w) = refl
    before_same ls es f (Conditional at c a b) = refl
    before_same ls es f (Implies at a b) = refl
    before_same ls es f (Equivalent at a b) = refl
    before_same ls es f (Old at e) = refl
    before_same ls es f (Fresh at e) = refl
    before_same ls es f (InvariantFor at e) = refl
    before_same ls es f (Quantified at q t x e) = refl
    before_same ls es f (QuantifiedIn at q t x r e) = refl
    before_same ls es f (Sum at x a b e) = refl

    field_speaks : (x : PlainIdentifier) (c : Option ℕ) (r : Result ValueType SpecFault) (t : ValueType) (e : JmlExpr) → (Fine r → Speaks u e) → Fine (field_type d x c r) → Speaks u (field d class result x.name c t e)
    field_speaks x (Some c) r t e h f = constant_fine x.at e (d.variable c x.name) f
    field_speaks x None r t e h f = let g = through _ r f.0 f.1 in member_speaks x.name t e (h (g.0, g.1))

    -- ---- operators

    operation_speaks : (o : InfixOperator) (b : Bool) (x y : JmlExpr) → Speaks u x → Speaks u y → Speaks u (operation o b x y)
    operation_speaks operators.OrElse b x y s t = (s, t)
    operation_speaks operators.AndAlso b x y s t = (s, t)
    operation_speaks operators.Equal true x y s t = (s, t)
    operation_speaks operators.Equal false x y s t = (s, t)
    operation_speaks operators.NotEqual true x y s t = (s, t)
    operation_speaks operators.NotEqual false x y s t = (s, t)
    operation_speaks operators.Less b x y s t = (s, t)
    operation_speaks operators.LessOrEqual b x y s t = (s, t)
    operation_speaks operators.Greater b x y s t = (s, t)
    operation_speaks operators.GreaterOrEqual b x y s t = (s, t)
    operation_speaks operators.Add b x y s t = (s, t)
    operation_speaks operators.Subtract b x y s t = (s, t)
    operation_speaks operators.Multiply b x y s t = (s, t)
    operation_speaks operators.Divide b x y s t = (s, t)
    operation_speaks operators.Remainder b x y s t = (s, t)

    sign_speaks : (o : SpecPrefix) (x : JmlExpr) → Speaks u x → Speaks u (sign o x)
    sign_speaks prefixes.Plus x s = s
    sign_speaks prefixes.Minus x s = s
    sign_speaks prefixes.Not x s = s

    quantified_speaks : (q : Quantifier) (t : QuantifiedType) (e : JmlExpr) → Speaks u e → Speaks u (quantified q t e)
    quantified_speaks quantifiers.ForAll t e s = s
    quantified_speaks quantifiers.Exists t e s = s

    quantified_in_speaks : (q : Quantifier) (t : QuantifiedType) (r e : JmlExpr) → Speaks u r → Speaks u e → Speaks u (quantified_in q t r e)
    quantified_in_speaks quantifiers.ForAll t r e s k = (s, k)
    quantified_in_speaks quantifiers.Exists t r e s k = (s, k)

    -- the result is spoken of where there is one
    result_speaks : (at : ℕ) (o : Option ValueType) → p.result ≡ o → Fine (result_type at o) → u.result ≡ true
    result_speaks at None is f = refused_is at _ f.0 f.1
    result_speaks at (Some t) is f = some_result t is

    pub speaks : (inside : Bool) (ls : List SpecLocal) (es : List Entry) → Fit u ls es → (e : PlainSpec) → Fine (type_of d p inside ls e) → Speaks u (resolved d class result es e)
    speaks inside ls es f (Integer at n) ok = tt
    speaks inside ls es f (Boolean at b) ok = tt
    speaks inside ls es f (Null at) ok = tt
    speaks inside ls es f (This at) ok = receiver (only (not p.place.is_static) at _ (types.Class class) ok.0 ok.1)
    speaks inside ls es f (ResultWord at) ok = result_speaks at p.result refl ok
    speaks inside ls es f (Name at x) ok = name_speaks inside at x ls es f ok
    speaks inside ls es f (Field at e x) ok =
        subst (λ c. Speaks u (field d class result x.name c (static_type d class result es e) (resolved d class result es e))) (before_same ls es f e)
        (field_speaks x (class_judged d p ls e) (type_of d p inside ls e) (static_type d class result es e) (resolved d class result es e) (λ g. speaks inside ls es f e g) ok)
    speaks inside ls es f (Parenthesized at e) ok = speaks inside ls es f e ok
    speaks inside ls es f (Call at m xs) ok = tt
    speaks inside ls es f (MethodCall at e m xs) ok = tt
    speaks inside ls es f (Index at a i) ok =
        let g = element_fine (at_of a) (type_of d p inside ls a) (at_of i) (type_of d p inside ls i) ok in (speaks inside ls es f a g.0, speaks inside ls es f i g.1)
    speaks inside ls es f (Prefix at o e) ok = sign_speaks o (resolved d class result es e) (speaks inside ls es f e (one_fine (sign_type o) (at_of e) (type_of d p inside ls e) ok))
    speaks inside ls es f (Cast at w e) ok = speaks inside ls es f e (cast_fine at (written_type d w) (type_of d p inside ls e) ok)
    speaks inside ls es f (Infix at o a b) ok =
        let g = operation_fine (part_type o) (whole_type o) at (at_of a) (type_of d p inside ls a) (at_of b) (type_of d p inside ls b) ok in
        operation_speaks o (is_boolean (static_type d class result es a)) (resolved d class result es a) (resolved d class result es b) (speaks inside ls es f a g.0) (speaks inside ls es f b g.1)
    speaks inside ls es f (InstanceOf at e w) ok = speaks inside ls es f e (instance_fine at (type_of d p inside ls e) (written_type d w) ok)
    speaks inside ls es f (Conditional at c a b) ok =
        let g = choice_fine at (at_of c) (type_of d p inside ls c) (type_of d p inside ls a) (type_of d p inside ls b) ok in (speaks inside ls es f c g.0, speaks inside ls es f a g.1, speaks inside ls es f b g.2)
    speaks inside ls es f (Implies at a b) ok =
        let g = two_fine types.Boolean types.Boolean (at_of a) (type_of d p inside ls a) (at_of b) (type_of d p inside ls b) ok in (speaks inside ls es f a g.0, speaks inside ls es f b g.1)
    speaks inside ls es f (Equivalent at a b) ok =
        let g = two_fine types.Boolean types.Boolean (at_of a) (type_of d p inside ls a) (at_of b) (type_of d p inside ls b) ok in (speaks inside ls es f a g.0, speaks inside ls es f b g.1)
    speaks inside ls es f (Old at e) ok = let g = through _ (type_of d p true ls e) ok.0 ok.1 in speaks true ls es f e (g.0, g.1)
    speaks inside ls es f (Fresh at e) ok = speaks inside ls es f e (of_reference_fine p.old at _ (at_of e) (type_of d p inside ls e) ok)
    speaks inside ls es f (InvariantFor at e) ok = speaks inside ls es f e (of_reference_fine p.invariants at _ (at_of e) (type_of d p inside ls e) ok)
    speaks inside ls es f (Quantified at q t x e) ok =
        let g = through _ (bound_type d t) ok.0 ok.1 in
        quantified_speaks q (over_type d t) _ (speaks inside (bound_local x g.0 ls) (bound d class result x (bound_value d t) es) (refl, tt, f) e (one_fine types.Boolean (at_of e) (type_of d p inside (bound_local x g.0 ls) e) (ok.0, g.2)))
    speaks inside ls es f (QuantifiedIn at q t x r e) ok =
        let g = through _ (bound_type d t) ok.0 ok.1 in
        let h = two_fine types.Boolean types.Boolean (at_of r) (type_of d p inside (bound_local x g.0 ls) r) (at_of e) (type_of d p inside (bound_local x g.0 ls) e) (ok.0, g.2) in
        quantified_in_speaks q (over_type d t) _ _ (speaks inside (bound_local x g.0 ls) (bound d class result x (bound_value d t) es) (refl, tt, f) r h.0) (speaks inside (bound_local x g.0 ls) (bound d class result x (bound_value d t) es) (refl, tt, f) e h.1)
    speaks inside ls es f (Sum at x a b e) ok =
        let g = summed_fine (at_of a) (type_of d p inside ls a) (at_of b) (type_of d p inside ls b) (at_of e) (type_of d p inside (bound_local x types.Int ls) e) ok in
        (speaks inside ls es f a g.0, speaks inside ls es f b g.1, speaks inside (bound_local x types.Int ls) (bound d class result x types.Int es) (refl, tt, f) e g.2)
