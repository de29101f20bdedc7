-- An expression of which no token is refused has its static type, and the term that stands for it has the sort of that.
use Rattle.std.proofs.Common.{◌≡◌, ◌⊎◌, inl, inr, ℕ, Bool, true, false, not, List, [], ◌∷◌, if◌then◌else◌, Option, Some, None, Result, Ok, refl, sym, ap, ◌∙◌, subst, bytes_eq}
use Rattle.std.proofs.lemmas.Option.{none-some}
use Rattle.jd_base.specs.declared.sort.Sort.TheVariants.{Int as IntSort, Ref as RefSort}
use Rattle.jd_syntax.specs.JavaTypes.{PlainIdentifier}
use Rattle.jd_syntax.specs.SpecTrees.{PlainSpec, Integer, Boolean, Null, This, Result as ResultWord, Name, Field, Parenthesized, Call, MethodCall, Index, Prefix, Cast, Infix, InstanceOf, Conditional, Implies, Equivalent, Old, Fresh, InvariantFor, Quantified, QuantifiedIn, Sum}
use Rattle.jd_syntax.specs.declared.java.InfixOperator.{InfixOperator}
use Rattle.jd_syntax.specs.declared.java.InfixOperator.TheVariants as operators
use Rattle.jd_syntax.specs.declared.spec.SpecPrefix.{SpecPrefix}
use Rattle.jd_syntax.specs.declared.spec.SpecPrefix.TheVariants as prefixes
use Rattle.jd_syntax.specs.declared.spec.Quantifier.{Quantifier}
use Rattle.jd_syntax.specs.declared.spec.Quantifier.TheVariants as quantifiers
use Rattle.jd_term.specs.Terms.{PlainTerm, sort_of_term}
use Rattle.jd_bodies.specs.Declarations.{Declarations, type_by}
use Rattle.jd_bodies.specs.Expressions.{part_type, whole_type}
use Rattle.jd_bodies.specs.Types.{are_related, fits, joined}
use Rattle.jd_bodies.specs.Variables.{sort_of}
use Rattle.jd_bodies.specs.declared.value.ValueType.{ValueType}
use Rattle.jd_bodies.specs.declared.value.ValueType.TheVariants as types
use Rattle.jd_bodies.specs.declared.value.Variable.{Variable}
use Rattle.jd_bodies.specs.declared.value.Variable.TheVariants as variables
use Rattle.jd_model.specs.Programs.{Program}
use Rattle.jd_specifications.specs.declared.fault.SpecCause.{SpecCause}
use Rattle.jd_specifications.specs.declared.fault.SpecFault.{SpecFault}
use Rattle.jd_specifications.specs.Scopes.{Named, AParameter, SpecLocal, local_named, SpecPlace, refused, only_if, class_unless}
use Rattle.jd_specifications.specs.Types as judged
use Rattle.jd_specifications.specs.Types.{known, name_type, own_variable, result_type, type_of, types_of, written_type, at_of, sign_type}
use Rattle.jd_specifications.specs.Resolution as to
use Rattle.jd_specifications.specs.Resolution.{Known, AnArgument, Entry, binders_then, found, looked_up, typed, own_member, named, operation, quantified, quantified_in, static_type, resolved, is_boolean}
use Rattle.jd_jml_meaning.specs.Meaning.{When, Before}
use Rattle.jd_jml_meaning.specs.Resolved as jml
use Rattle.jd_jml_meaning.specs.Resolved.{JmlExpr, QuantifiedType}
use Rattle.jd_jml_meaning.specs.Translation.{Spelling, negated, term}
use Rattle.jd_jml_known.specs.Members.{FieldsHaveSorts}
use Rattle.jd_spoken.proofs.Expressions.{through}
use Rattle.jd_static_types.specs.Types.{IsKnown}
use Rattle.jd_obligation_laws.proofs.Fitting.{is_int, related_sorts}

abbrev Given : Type 0
Given = Result ValueType SpecFault

-- ---- what is told of one type

same_ok : (a b : ValueType) → ◌≡◌ {A = Given} (Ok a) (Ok b) → a ≡ b
same_ok a b e = cc

no_fault : {B : Type 0} (at : ℕ) (cause : SpecCause) (t : ValueType) → ◌≡◌ {A = Given} (refused at cause) (Ok t) → B
no_fault at cause t e = absurd cc

only_same : (b : Bool) (at : ℕ) (cause : SpecCause) (a t : ValueType) → ◌≡◌ {A = Given} (only_if b at cause a) (Ok t) → (b ≡ true) × (a ≡ t)
only_same true at cause a t e = (refl, same_ok a t e)
only_same false at cause a t e = absurd cc

module _ (d : Declarations) where
  known_gives : (at : ℕ) (s t : ValueType) → known d at s ≡ Ok t → (s ≡ t) × IsKnown s
  known_gives at types.Int t e = (same_ok types.Int t e, tt)
  known_gives at types.Boolean t e = (same_ok types.Boolean t e, tt)
  known_gives at types.Null t e = (same_ok types.Null t e, tt)
  known_gives at types.IntArray t e = (same_ok types.IntArray t e, tt)
  known_gives at (types.Class c) t e = (same_ok (types.Class c) t e, tt)
  known_gives at types.Missing t e = no_fault at _ t e

  -- ---- the type of a whole, by its parts

  wanted_gives : (want : ValueType) (at : ℕ) (have t : ValueType) → judged.wanted d want at have ≡ Ok t → (fits d have want ≡ true) × (want ≡ t)
  wanted_gives want at have t e = only_same (fits d have want) at _ want t e

  one_gives : (want : ValueType) (at : ℕ) (r : Given) (t : ValueType) → judged.one d want at r ≡ Ok t → want ≡ t
  one_gives want at r t e = let g = through (judged.wanted d want at) r t e in (wanted_gives want at g.0 t g.2).1

  two_gives : (want whole : ValueType) (first : ℕ) (a : Given) (second : ℕ) (b : Given) (t : ValueType) → judged.two d want whole first a second b ≡ Ok t → whole ≡ t
  two_gives want whole first a second b t e =
      let g = through _ a t e in
      let h = through _ b t g.2 in
      let k = through _ (judged.wanted d want first g.0) t h.2 in
      let l = through _ (judged.wanted d want second h.0) t k.2 in same_ok whole t l.2

  operation_gives : (want : Option ValueType) (whole : ValueType) (at first : ℕ) (a : Given) (second : ℕ) (b : Given) (t : ValueType) → judged.operation d want whole at first a second b ≡ Ok t → whole ≡ t
  operation_gives (Some want) whole at first a second b t e = two_gives want whole first a second b t e
  operation_gives None whole at first a second b t e =
      let g = through _ a t e in
      let h = through _ b t g.2 in (only_same (are_related d g.0 h.0) at _ whole t h.2).1

  choice_gives : (at : ℕ) (o : Option ValueType) (t : ValueType) → judged.choice_of d at o ≡ Ok t → types.Boolean ≡ t
  choice_gives at None t e = no_fault at _ t e
  choice_gives at (Some types.Boolean) t e = same_ok types.Boolean t e
  choice_gives at (Some types.Int) t e = no_fault at _ t e
  choice_gives at (Some types.Null) t e = no_fault at _ t e
  choice_gives at (Some types.IntArray) t e = no_fault at _ t e
  choice_gives at (Some (types.Class c)) t e = no_fault at _ t e
  choice_gives at (Some types.Missing) t e = no_fault at _ t e

  chosen_gives : (at place : ℕ) (c a b : Given) (t : ValueType) → judged.choice d at place c a b ≡ Ok t → types.Boolean ≡ t
  chosen_gives at place c a b t e =
      let g = through _ c t e in
      let h = through _ a t g.2 in
      let k = through _ b t h.2 in
      let l = through _ (judged.wanted d types.Boolean place g.0) t k.2 in choice_gives at (joined d h.0 k.0) t l.2

  instance_gives : (at : ℕ) (e want : Given) (t : ValueType) → judged.instance d at e want ≡ Ok t → types.Boolean ≡ t
  instance_gives at e want t f =
      let g = through _ e t f in
      let h = through _ want t g.2 in (only_same (are_related d g.0 h.0) at _ types.Boolean t h.2).1

  element_gives : (first : ℕ) (a : Given) (second : ℕ) (i : Given) (t : ValueType) → judged.element d first a second i ≡ Ok t → types.Int ≡ t
  element_gives first a second i t e =
      let g = through _ a t e in
      let h = through _ i t g.2 in
      let k = through _ (judged.array d first g.0) t h.2 in
      let l = through _ (judged.wanted d types.Int second h.0) t k.2 in same_ok types.Int t l.2

  of_reference_gives : (allowed : Bool) (at : ℕ) (cause : SpecCause) (place : ℕ) (e : Given) (t : ValueType) → judged.of_reference d allowed at cause place e ≡ Ok t → types.Boolean ≡ t
  of_reference_gives allowed at cause place e t f =
      let g = through _ e t f in
      let h = through _ (only_if allowed at cause g.0) t g.2 in
      let k = through _ (judged.reference d place g.0) t h.2 in same_ok types.Boolean t k.2

  summed_gives : (first : ℕ) (a : Given) (second : ℕ) (b : Given) (third : ℕ) (e : Given) (t : ValueType) → judged.summed d first a second b third e ≡ Ok t → types.Int ≡ t
  summed_gives first a second b third e t f =
      let g = through _ a t f in
      let h = through _ b t g.2 in
      let k = through _ e t h.2 in
      let l = through _ (judged.wanted d types.Int first g.0) t k.2 in
      let m = through _ (judged.wanted d types.Int second h.0) t l.2 in (wanted_gives types.Int third k.0 t m.2).1

module _ (d : Declarations) (prog : Program) (sp : Spelling) (sorted : FieldsHaveSorts d prog) (known_fields : (c : ℕ) (x : List ℕ) (f : ℕ) (t : ValueType) → d.variable c x ≡ Some (variables.Field f t) → IsKnown t) where
  -- its static type, which is some declared one, and the sort of its term
  pub record Has (s : ValueType) (e : JmlExpr) (t : ValueType) : Type 0 where
    pub is : s ≡ t
    pub known_ : IsKnown t
    pub sort : (w : When) → sort_of_term (term prog sp w e) ≡ sort_of t

  truth : (e : JmlExpr) (t : ValueType) → ((w : When) → sort_of_term (term prog sp w e) ≡ sort_of types.Boolean) → types.Boolean ≡ t → Has types.Boolean e t
  truth e t s is = subst (Has types.Boolean e) is (record { is = refl; known_ = tt; sort = s })

  number : (e : JmlExpr) (t : ValueType) → ((w : When) → sort_of_term (term prog sp w e) ≡ sort_of types.Int) → types.Int ≡ t → Has types.Int e t
  number e t s is = subst (Has types.Int e) is (record { is = refl; known_ = tt; sort = s })

  -- ---- names in scope, as they are judged and as they are resolved: parameters

  abbrev KnownAs : Named → Known → ValueType → Type 0
  KnownAs AParameter (AnArgument k) t = IsKnown t × ((w : When) → sort_of_term (sp.argument w k) ≡ sort_of t)
  KnownAs n k t = ⊥

  abbrev pub Fit : List SpecLocal → List Entry → Type 0
  Fit [] [] = Unit {0}
  Fit (l ∷ ls) (e ∷ es) = (l.name ≡ e.name) × (l.type ≡ e.type) × KnownAs l.named e.known l.type × Fit ls es
  Fit ls es = ⊥

  found_has : (n : ℕ) (l : Named) (t : ValueType) (e : Entry) → KnownAs l e.known t → IsKnown t × ((w : When) → sort_of_term (term prog sp w (found n e)) ≡ sort_of t)
  found_has n l t e h = by l e.known h
    where
      by : (l : Named) (k : Known) → KnownAs l k t → IsKnown t × ((w : When) → sort_of_term (term prog sp w (found n (record { name = e.name; known = k; type = e.type }))) ≡ sort_of t)
      by AParameter (AnArgument i) h = h
      by l k h = absurd h

  record Found (n : ℕ) (ls : List SpecLocal) (es : List Entry) (x : List ℕ) : Type 0 where
    one : SpecLocal
    entry : JmlExpr
    local_is : local_named ls x ≡ Some one
    entry_is : looked_up n es x ≡ Some entry
    typed_is : typed es x ≡ Some one.type
    has : Has one.type entry one.type

  abbrev IsNone : ℕ → List SpecLocal → List Entry → List ℕ → Type 0
  IsNone n ls es x = (local_named ls x ≡ None) × (looked_up n es x ≡ None) × (typed es x ≡ None)

  -- a name is in scope for both or for none
  seen : (n : ℕ) (ls : List SpecLocal) (es : List Entry) (x : List ℕ) → Fit ls es → IsNone n ls es x ⊎ Found n ls es x
  seen n [] [] x f = inl (refl, refl, refl)
  seen n [] (e ∷ es) x f = absurd f
  seen n (l ∷ ls) [] x f = absurd f
  seen n (l ∷ ls) (e ∷ es) x f = by (bytes_eq l.name x) refl (seen (binders_then e.known n) ls es x f.3)
    where
      entry_by : (b : Bool) → bytes_eq l.name x ≡ b → looked_up n (e ∷ es) x ≡ (if b then Some (found n e) else looked_up (binders_then e.known n) es x)
      entry_by b is = ap (λ b. if b then Some (found n e) else looked_up (binders_then e.known n) es x) (ap (λ w. bytes_eq w x) (sym f.0) ∙ is)

      typed_by : (b : Bool) → bytes_eq l.name x ≡ b → typed (e ∷ es) x ≡ (if b then Some e.type else typed es x)
      typed_by b is = ap (λ b. if b then Some e.type else typed es x) (ap (λ w. bytes_eq w x) (sym f.0) ∙ is)

      by : (b : Bool) → bytes_eq l.name x ≡ b → IsNone (binders_then e.known n) ls es x ⊎ Found (binders_then e.known n) ls es x → IsNone n (l ∷ ls) (e ∷ es) x ⊎ Found n (l ∷ ls) (e ∷ es) x
      by true is rest =
          let h = found_has n l.named l.type e f.2 in
          inr (record {
            one = l;
            entry = found n e;
            local_is = ap (λ b. if b then Some l else local_named ls x) is;
            entry_is = entry_by true is;
            typed_is = typed_by true is ∙ ap Some (sym f.1);
            has = record { is = refl; known_ = h.0; sort = h.1 };
          })
      by false is (inl none) = inl (ap (λ b. if b then Some l else local_named ls x) is ∙ none.0, entry_by false is ∙ none.1, typed_by false is ∙ none.2)
      by false is (inr r) =
          inr (record {
            one = r.one;
            entry = r.entry;
            local_is = ap (λ b. if b then Some l else local_named ls x) is ∙ r.local_is;
            entry_is = entry_by false is ∙ r.entry_is;
            typed_is = typed_by false is ∙ r.typed_is;
            has = r.has;
          })

  -- ---- members

  constant_has : (at : ℕ) (e : JmlExpr) (v : Option Variable) (t : ValueType) → judged.constant_type at v ≡ Ok t → Has (to.member_type d v) (own_member e v) t
  constant_has at e None t f = no_fault at _ t f
  constant_has at e (Some (variables.Field k u)) t f = no_fault at _ t f
  constant_has at e (Some (variables.Constant n)) t f = number (jml.IntegerLiteral n) t (λ w. refl) (same_ok types.Int t f)

  variable_has : (c : ℕ) (x : List ℕ) (at : ℕ) (e : JmlExpr) (v : Option Variable) (t : ValueType) → d.variable c x ≡ v → judged.variable_type at v ≡ Ok t → Has (to.member_type d v) (own_member e v) t
  variable_has c x at e None t is f = no_fault at _ t f
  variable_has c x at e (Some (variables.Field k u)) t is f = subst (Has u (jml.FieldAccess e k)) (same_ok u t f) (record { is = refl; known_ = known_fields c x k u is; sort = λ w. sorted c x k u is })
  variable_has c x at e (Some (variables.Constant n)) t is f = number (jml.IntegerLiteral n) t (λ w. refl) (same_ok types.Int t f)

  member_has : (x : PlainIdentifier) (u : ValueType) (e : JmlExpr) (t : ValueType) → judged.member_type d x u ≡ Ok t → Has (to.field_type d x.name u) (to.member d x.name u e) t
  member_has x (types.Class c) e t f = variable_has c x.name x.at e (d.variable c x.name) t refl f
  member_has x types.IntArray e t f = number (jml.LengthOf e) t (λ w. refl) (only_same _ x.at _ types.Int t f).1
  member_has x types.Int e t f = no_fault x.at _ t f
  member_has x types.Boolean e t f = no_fault x.at _ t f
  member_has x types.Null e t f = no_fault x.at _ t f
  member_has x types.Missing e t f = no_fault x.at _ t f

  module _ (p : SpecPlace) (no_result : p.result ≡ None) (result : ValueType) (this_sort : sort_of_term sp.this ≡ RefSort) where
    abbrev class : ℕ
    class = p.place.class

    own_has : (at : ℕ) (x : List ℕ) (v : Option Variable) (t : ValueType) → d.variable class x ≡ v → own_variable p.place.is_static at v ≡ Ok t → Has (to.or_member d None v) (named None v) t
    own_has at x None t is f = no_fault at _ t f
    own_has at x (Some (variables.Field k u)) t is f =
        subst (Has u (jml.FieldAccess jml.This k)) (only_same (not p.place.is_static) at _ u t f).1 (record { is = refl; known_ = known_fields class x k u is; sort = λ w. sorted class x k u is })
    own_has at x (Some (variables.Constant n)) t is f = number (jml.IntegerLiteral n) t (λ w. refl) (same_ok types.Int t f)

    name_has : (inside : Bool) (at : ℕ) (x : List ℕ) (ls : List SpecLocal) (es : List Entry) (t : ValueType) → Fit ls es → name_type inside p.place.is_static at (local_named ls x) (d.variable class x) ≡ Ok t → Has (to.or_member d (typed es x) (d.variable class x)) (named (looked_up 0 es x) (d.variable class x)) t
    name_has inside at x ls es t fit_ f = by (seen 0 ls es x fit_)
      where
        by : IsNone 0 ls es x ⊎ Found 0 ls es x → Has (to.or_member d (typed es x) (d.variable class x)) (named (looked_up 0 es x) (d.variable class x)) t
        by (inl none) =
            subst (λ o. Has (to.or_member d o (d.variable class x)) (named (looked_up 0 es x) (d.variable class x)) t) (sym none.2)
            (subst (λ o. Has (to.or_member d None (d.variable class x)) (named o (d.variable class x)) t) (sym none.1)
            (own_has at x (d.variable class x) t refl (subst (λ o. name_type inside p.place.is_static at o (d.variable class x) ≡ Ok t) none.0 f)))
        by (inr r) =
            let e = only_same _ at _ r.one.type t (subst (λ o. name_type inside p.place.is_static at o (d.variable class x) ≡ Ok t) r.local_is f) in
            subst (λ o. Has (to.or_member d o (d.variable class x)) (named (looked_up 0 es x) (d.variable class x)) t) (sym r.typed_is)
            (subst (λ o. Has (to.or_member d (Some r.one.type) (d.variable class x)) (named o (d.variable class x)) t) (sym r.entry_is) (subst (Has r.one.type r.entry) e.1 r.has))

    -- what stands before a dot is a class for both or for neither
    abbrev AreSame : List ℕ → Option SpecLocal → Option ValueType → Type 0
    AreSame c l t = class_unless l (d.variable class c) (d.class_named c) ≡ to.class_unless d t (d.variable class c) (d.class_named c)

    unless_none : (v : Option Variable) (c : Option ℕ) → class_unless None v c ≡ to.class_unless d None v c
    unless_none None c = refl
    unless_none (Some v) c = refl

    before_same : (ls : List SpecLocal) (es : List Entry) → Fit ls es → (e : PlainSpec) → judged.class_before d p ls e ≡ to.class_before d class result es e
    before_same ls es f (Name at c) = by (seen 0 ls es c f)
      where
        by : IsNone 0 ls es c ⊎ Found 0 ls es c → AreSame c (local_named ls c) (typed es c)
        by (inl none) = subst (λ l. AreSame c l (typed es c)) (sym none.0) (subst (AreSame c None) (sym none.2) (unless_none (d.variable class c) (d.class_named c)))
        by (inr r) = subst (λ l. AreSame c l (typed es c)) (sym r.local_is) (subst (AreSame c (Some r.one)) (sym r.typed_is) refl)
    before_same ls es f (Integer at n) = refl
    before_same ls es f e = refl

    field_has : (x : PlainIdentifier) (c : Option ℕ) (r : Given) (s : ValueType) (e : JmlExpr) (t : ValueType) → ((u : ValueType) → r ≡ Ok u → Has s e u) → judged.field_type d x c r ≡ Ok t → Has (to.field_before d class result x.name c s) (to.field d class result x.name c s e) t
    field_has x (Some c) r s e t h f = constant_has x.at e (d.variable c x.name) t f
    field_has x None r s e t h f =
        let g = through _ r t f in
        let k = h g.0 g.1 in
        subst (λ u. Has (to.field_type d x.name u) (to.member d x.name u e) t) (sym k.is) (member_has x g.0 e t g.2)

    -- ---- operators

    abbrev of_infix : InfixOperator → Bool → JmlExpr → JmlExpr → Type 0
    of_infix o b x y = (w : When) → sort_of_term (term prog sp w (operation o b x y)) ≡ sort_of (whole_type o)

    infix_sort : (o : InfixOperator) (b : Bool) (x y : JmlExpr) → of_infix o b x y
    infix_sort operators.OrElse b x y w = refl
    infix_sort operators.AndAlso b x y w = refl
    infix_sort operators.Equal true x y w = refl
    infix_sort operators.Equal false x y w = refl
    infix_sort operators.NotEqual true x y w = refl
    infix_sort operators.NotEqual false x y w = refl
    infix_sort operators.Less b x y w = refl
    infix_sort operators.LessOrEqual b x y w = refl
    infix_sort operators.Greater b x y w = refl
    infix_sort operators.GreaterOrEqual b x y w = refl
    infix_sort operators.Add b x y w = refl
    infix_sort operators.Subtract b x y w = refl
    infix_sort operators.Multiply b x y w = refl
    infix_sort operators.Divide b x y w = refl
    infix_sort operators.Remainder b x y w = refl

    infix_type : (es : List Entry) (at : ℕ) (o : InfixOperator) (a b : PlainSpec) → static_type d class result es (Infix at o a b) ≡ whole_type o
    infix_type es at operators.OrElse a b = refl
    infix_type es at operators.AndAlso a b = refl
    infix_type es at operators.Equal a b = refl
    infix_type es at operators.NotEqual a b = refl
    infix_type es at operators.Less a b = refl
    infix_type es at operators.LessOrEqual a b = refl
    infix_type es at operators.Greater a b = refl
    infix_type es at operators.GreaterOrEqual a b = refl
    infix_type es at operators.Add a b = refl
    infix_type es at operators.Subtract a b = refl
    infix_type es at operators.Multiply a b = refl
    infix_type es at operators.Divide a b = refl
    infix_type es at operators.Remainder a b = refl

    infix_known : (o : InfixOperator) → IsKnown (whole_type o)
    infix_known operators.Add = tt
    infix_known operators.Subtract = tt
    infix_known operators.Multiply = tt
    infix_known operators.Divide = tt
    infix_known operators.Remainder = tt
    infix_known operators.OrElse = tt
    infix_known operators.AndAlso = tt
    infix_known operators.Equal = tt
    infix_known operators.NotEqual = tt
    infix_known operators.Less = tt
    infix_known operators.LessOrEqual = tt
    infix_known operators.Greater = tt
    infix_known operators.GreaterOrEqual = tt

    negated_sort : (e : JmlExpr) (u : PlainTerm) → sort_of_term (negated e u) ≡ IntSort
    negated_sort (jml.IntegerLiteral z) u = refl
    negated_sort e u = refl

    sign_has : (es : List Entry) (at : ℕ) (o : SpecPrefix) (e : PlainSpec) (r : Given) (t : ValueType) → ((u : ValueType) → r ≡ Ok u → Has (static_type d class result es e) (resolved d class result es e) u) → judged.one d (sign_type o) (at_of e) r ≡ Ok t
        → Has (static_type d class result es (Prefix at o e)) (resolved d class result es (Prefix at o e)) t
    sign_has es at prefixes.Plus e r t h f =
        let g = through _ r t f in
        let k = h g.0 g.1 in
        let want = wanted_gives d types.Int (at_of e) g.0 t g.2 in
        number (jml.Plus (resolved d class result es e)) t (λ w. k.sort w ∙ ap sort_of (is_int d g.0 k.known_ want.0)) want.1
    sign_has es at prefixes.Minus e r t h f = number (jml.Minus (resolved d class result es e)) t (λ w. negated_sort (resolved d class result es e) (term prog sp w (resolved d class result es e))) (one_gives d types.Int (at_of e) r t f)
    sign_has es at prefixes.Not e r t h f = truth (jml.Not (resolved d class result es e)) t (λ w. refl) (one_gives d types.Boolean (at_of e) r t f)

    cast_has : (at : ℕ) (want r : Given) (s u : ValueType) (e : JmlExpr) (t : ValueType) → ((v : ValueType) → r ≡ Ok v → Has s e v) → ((v : ValueType) → want ≡ Ok v → (u ≡ v) × IsKnown u) → judged.cast d at want r ≡ Ok t → Has u (jml.Cast e) t
    cast_has at want r s u e t h written f =
        let g = through _ want t f in
        let k = through _ r t g.2 in
        let has = h k.0 k.1 in
        let named_ = written g.0 g.1 in
        let related = only_same (are_related d g.0 k.0) at _ g.0 t k.2 in
        let known_first : IsKnown g.0 = subst IsKnown named_.0 named_.1 in
        subst (Has u (jml.Cast e)) related.1
        (record { is = named_.0; known_ = known_first; sort = λ w. has.sort w ∙ sym (related_sorts d g.0 k.0 known_first has.known_ related.0) })

    quantified_sort : (q : Quantifier) (k : QuantifiedType) (e : JmlExpr) (w : When) → sort_of_term (term prog sp w (quantified q k e)) ≡ sort_of types.Boolean
    quantified_sort quantifiers.ForAll k e w = refl
    quantified_sort quantifiers.Exists k e w = refl

    quantified_in_sort : (q : Quantifier) (k : QuantifiedType) (r e : JmlExpr) (w : When) → sort_of_term (term prog sp w (quantified_in q k r e)) ≡ sort_of types.Boolean
    quantified_in_sort quantifiers.ForAll k r e w = refl
    quantified_in_sort quantifiers.Exists k r e w = refl

    none_given : {B : Type 0} (at : ℕ) (o : Option ValueType) (t : ValueType) → o ≡ None → result_type at o ≡ Ok t → B
    none_given at None t is f = no_fault at _ t f
    none_given at (Some u) t is f = absurd (none-some u (sym is))

    pub has : (inside : Bool) (ls : List SpecLocal) (es : List Entry) → Fit ls es → (e : PlainSpec) (t : ValueType) → type_of d p inside ls e ≡ Ok t → Has (static_type d class result es e) (resolved d class result es e) t
    has inside ls es f (Integer at n) t ok = number (jml.IntegerLiteral n) t (λ w. refl) (same_ok types.Int t ok)
    has inside ls es f (Boolean at b) t ok = truth (jml.BooleanLiteral b) t (λ w. refl) (same_ok types.Boolean t ok)
    has inside ls es f (Null at) t ok = subst (Has types.Null jml.NullLiteral) (same_ok types.Null t ok) (record { is = refl; known_ = tt; sort = λ w. refl })
    has inside ls es f (This at) t ok = subst (Has (types.Class class) jml.This) (only_same (not p.place.is_static) at _ (types.Class class) t ok).1 (record { is = refl; known_ = tt; sort = λ w. this_sort })
    has inside ls es f (ResultWord at) t ok = none_given at p.result t no_result ok
    has inside ls es f (Name at x) t ok = name_has inside at x ls es t f ok
    has inside ls es f (Field at e x) t ok =
        subst (λ c. Has (to.field_before d class result x.name c (static_type d class result es e)) (to.field d class result x.name c (static_type d class result es e) (resolved d class result es e)) t) (before_same ls es f e)
        (field_has x (judged.class_before d p ls e) (type_of d p inside ls e) (static_type d class result es e) (resolved d class result es e) t (λ u g. has inside ls es f e u g) ok)
    has inside ls es f (Parenthesized at e) t ok = let h = has inside ls es f e t ok in record { is = h.is; known_ = h.known_; sort = h.sort }
    has inside ls es f (Call at m xs) t ok = let g = through _ (types_of d p inside ls xs) t ok in no_fault at _ t g.2
    has inside ls es f (MethodCall at e m xs) t ok =
        let g = through _ (judged.receiver d (judged.class_before d p ls e) (type_of d p inside ls e)) t ok in
        let h = through _ (types_of d p inside ls xs) t g.2 in no_fault m.at _ t h.2
    has inside ls es f (Index at a i) t ok =
        number (jml.ElementAccess (resolved d class result es a) (resolved d class result es i)) t (λ w. refl) (element_gives d (at_of a) (type_of d p inside ls a) (at_of i) (type_of d p inside ls i) t ok)
    has inside ls es f (Prefix at o e) t ok = sign_has es at o e (type_of d p inside ls e) t (λ u g. has inside ls es f e u g) ok
    has inside ls es f (Cast at w e) t ok =
        cast_has at (written_type d w) (type_of d p inside ls e) (static_type d class result es e) (type_by d.class_named w.written) (resolved d class result es e) t (λ u g. has inside ls es f e u g)
        (λ v g. known_gives d w.at (type_by d.class_named w.written) v g) ok
    has inside ls es f (Infix at o a b) t ok =
        let s = is_boolean (static_type d class result es a) in
        let x = resolved d class result es a in
        let y = resolved d class result es b in
        subst (Has (static_type d class result es (Infix at o a b)) (operation o s x y))
        (operation_gives d (part_type o) (whole_type o) at (at_of a) (type_of d p inside ls a) (at_of b) (type_of d p inside ls b) t ok)
        (record { is = infix_type es at o a b; known_ = infix_known o; sort = infix_sort o s x y })
    has inside ls es f (InstanceOf at e w) t ok = truth (resolved d class result es (InstanceOf at e w)) t (λ w. refl) (instance_gives d at (type_of d p inside ls e) (written_type d w) t ok)
    has inside ls es f (Conditional at c a b) t ok =
        truth (resolved d class result es (Conditional at c a b)) t (λ w. refl) (chosen_gives d at (at_of c) (type_of d p inside ls c) (type_of d p inside ls a) (type_of d p inside ls b) t ok)
    has inside ls es f (Implies at a b) t ok =
        truth (resolved d class result es (Implies at a b)) t (λ w. refl) (two_gives d types.Boolean types.Boolean (at_of a) (type_of d p inside ls a) (at_of b) (type_of d p inside ls b) t ok)
    has inside ls es f (Equivalent at a b) t ok =
        truth (resolved d class result es (Equivalent at a b)) t (λ w. refl) (two_gives d types.Boolean types.Boolean (at_of a) (type_of d p inside ls a) (at_of b) (type_of d p inside ls b) t ok)
    has inside ls es f (Old at e) t ok =
        let g = through _ (type_of d p true ls e) t ok in
        let h = has true ls es f e g.0 g.1 in
        subst (Has (static_type d class result es e) (jml.Old (resolved d class result es e))) (only_same p.old at _ g.0 t g.2).1 (record { is = h.is; known_ = h.known_; sort = λ w. h.sort Before })
    has inside ls es f (Fresh at e) t ok = truth (resolved d class result es (Fresh at e)) t (λ w. refl) (of_reference_gives d p.old at _ (at_of e) (type_of d p inside ls e) t ok)
    has inside ls es f (InvariantFor at e) t ok = truth (resolved d class result es (InvariantFor at e)) t (λ w. refl) (of_reference_gives d p.invariants at _ (at_of e) (type_of d p inside ls e) t ok)
    has inside ls es f (Quantified at q k x e) t ok =
        let g = through _ (judged.bound_type d k) t ok in
        truth (resolved d class result es (Quantified at q k x e)) t (quantified_sort q _ _) (one_gives d types.Boolean (at_of e) (type_of d p inside (judged.bound x g.0 ls) e) t g.2)
    has inside ls es f (QuantifiedIn at q k x r e) t ok =
        let g = through _ (judged.bound_type d k) t ok in
        truth (resolved d class result es (QuantifiedIn at q k x r e)) t (quantified_in_sort q _ _ _) (two_gives d types.Boolean types.Boolean (at_of r) (type_of d p inside (judged.bound x g.0 ls) r) (at_of e) (type_of d p inside (judged.bound x g.0 ls) e) t g.2)
    has inside ls es f (Sum at x a b e) t ok =
        number (resolved d class result es (Sum at x a b e)) t (λ w. refl) (summed_gives d (at_of a) (type_of d p inside ls a) (at_of b) (type_of d p inside ls b) (at_of e) (type_of d p inside (judged.bound x types.Int ls) e) t ok)
