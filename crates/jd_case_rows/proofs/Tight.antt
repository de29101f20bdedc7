-- Of a row's members only the receiver's class is loosened at a call, and none has an update or a modality.
use Rattle.std.proofs.Common.{◌≡◌, ℕ, Bool, true, false, List, [], ◌∷◌, ◌++◌, map, refl, ap, ap₂, ◌∙◌, Option, Some, None}
use Rattle.std.proofs.lemmas.List.{map-append}
use Rattle.jd_term.specs.Terms.{PlainTerm, Constant}
use Rattle.jd_term.specs.Formulas.{PlainFormula}
use Rattle.jd_term.specs.Renamings.{FirstOrder}
use Rattle.jd_model.specs.SpecialNames.{entry_heap}
use Rattle.jd_model.specs.Programs.{Program, ValueType, IntType, BooleanType, ReferenceType}
use Rattle.jd_model.specs.Cases.{DeclaredType, Parameter, Role, Static, Ordinary, Helper, ConstructorOf, Behaviour, AnyEnd, NormalOnly, ExceptionalOnly}
use Rattle.jd_model.specs.Renamings.{AllFirstOrder}
use Rattle.jd_model.specs.Tables.{loosened, members}
use Rattle.jd_jml_meaning.specs.Resolved.{JmlExpr, BooleanLiteral, Cast, Old}
use Rattle.jd_jml_meaning.specs.Meaning.{When, Before}
use Rattle.jd_jml_meaning.specs.Translation.{Spelling, formula}
use Rattle.jd_jml_meaning.proofs.Scopes.{first_order}
use Rattle.jd_case_rows.specs.Rows.{value_members, typed_members, receiver_members, invariant_members, field_member, field_members, parameter_members, result_members, established_members, unless_normal, unless_exceptional, signalled_members, one_of, only_member}

abbrev Tight : List PlainFormula → Type 0
Tight l = map loosened l ≡ l

pub tight_joined : (l m : List PlainFormula) → Tight l → Tight m → Tight (l ++ m)
tight_joined l m e h = map-append loosened l m ∙ ap₂ ◌++◌ e h

pub joined_as : (l m : List PlainFormula) → Tight m → map loosened (l ++ m) ≡ map loosened l ++ m
joined_as l m e = map-append loosened l m ∙ ap (λ q. map loosened l ++ q) e

tight_value : (h : PlainTerm) (t : ValueType) (n : Bool) (x : PlainTerm) → Tight (value_members h t n x)
tight_value h IntType n x = refl
tight_value h BooleanType n x = refl
tight_value h (ReferenceType k) true x = refl
tight_value h (ReferenceType k) false x = refl

pub tight_parameters : (ps : List Parameter) → Tight (parameter_members ps)
tight_parameters [] = refl
tight_parameters (p ∷ ps) =
    tight_joined (typed_members (Constant entry_heap) p.declared (Constant p.constant)) (parameter_members ps) (tight_value (Constant entry_heap) p.declared.type p.declared.nullable (Constant p.constant)) (tight_parameters ps)

pub tight_invariant : (r : Role) (h : PlainTerm) → Tight (invariant_members r h)
tight_invariant Static h = refl
tight_invariant Ordinary h = refl
tight_invariant Helper h = refl
tight_invariant (ConstructorOf a) h = refl

module _ (p : Program) where
  tight_defaults : (fs : List ℕ) → Tight (map (field_member p) fs)
  tight_defaults [] = refl
  tight_defaults (f ∷ fs) = ap (λ l. field_member p f ∷ l) (tight_defaults fs)

  pub tight_fields : (fields : ℕ → List ℕ) (r : Role) → Tight (field_members p fields r)
  tight_fields fields Static = refl
  tight_fields fields Ordinary = refl
  tight_fields fields Helper = refl
  tight_fields fields (ConstructorOf a) = tight_defaults (fields a)

  module _ (sp : Spelling) where
    tight_formula : (t : When) (e : JmlExpr) → loosened (formula p sp t e) ≡ formula p sp t e
    tight_formula t (BooleanLiteral true) = refl
    tight_formula t (BooleanLiteral false) = refl
    tight_formula t (Cast e) = tight_formula t e
    tight_formula t (Old e) = tight_formula Before e
    tight_formula t e = refl

    pub tight_clauses : (t : When) (es : List JmlExpr) → Tight (map (formula p sp t) es)
    tight_clauses t [] = refl
    tight_clauses t (e ∷ es) = ap₂ ◌∷◌ (tight_formula t e) (tight_clauses t es)

-- ---- first order

pub order_joined : (l m : List PlainFormula) → AllFirstOrder l → AllFirstOrder m → AllFirstOrder (l ++ m)
order_joined [] m e h = h
order_joined (a ∷ l) m e h = (e.0, order_joined l m e.1 h)

order_value : (h : PlainTerm) (t : ValueType) (n : Bool) (x : PlainTerm) → AllFirstOrder (value_members h t n x)
order_value h IntType n x = (tt, tt)
order_value h BooleanType n x = tt
order_value h (ReferenceType k) true x = ((tt, (tt, tt)), tt)
order_value h (ReferenceType k) false x = ((tt, tt), tt)

pub order_parameters : (ps : List Parameter) → AllFirstOrder (parameter_members ps)
order_parameters [] = tt
order_parameters (p ∷ ps) =
    order_joined (typed_members (Constant entry_heap) p.declared (Constant p.constant)) (parameter_members ps) (order_value (Constant entry_heap) p.declared.type p.declared.nullable (Constant p.constant)) (order_parameters ps)

pub order_invariant : (r : Role) (h : PlainTerm) → AllFirstOrder (invariant_members r h)
order_invariant Static h = tt
order_invariant Ordinary h = (tt, tt)
order_invariant Helper h = tt
order_invariant (ConstructorOf a) h = tt

pub order_receiver : (r : Role) (class : ℕ) → AllFirstOrder (map loosened (receiver_members r class))
order_receiver Static class = tt
order_receiver Ordinary class = (tt, (tt, tt))
order_receiver Helper class = (tt, (tt, tt))
order_receiver (ConstructorOf a) class = (tt, (tt, tt))

pub order_result : (t : Option DeclaredType) → AllFirstOrder (result_members t)
order_result None = tt
order_result (Some t) = order_value _ t.type t.nullable _

pub order_established : (r : Role) → AllFirstOrder (established_members r)
order_established Static = tt
order_established Ordinary = tt
order_established Helper = tt
order_established (ConstructorOf a) = ((tt, tt), tt)

pub order_unless_normal : (b : Behaviour) → AllFirstOrder (unless_normal b)
order_unless_normal AnyEnd = tt
order_unless_normal NormalOnly = tt
order_unless_normal ExceptionalOnly = (tt, tt)

pub order_unless_exceptional : (b : Behaviour) → AllFirstOrder (unless_exceptional b)
order_unless_exceptional AnyEnd = tt
order_unless_exceptional NormalOnly = (tt, tt)
order_unless_exceptional ExceptionalOnly = tt

order_one : (c : ℕ) (cs : List ℕ) → FirstOrder (one_of c cs)
order_one c [] = tt
order_one c (k ∷ cs) = (tt, order_one k cs)

pub order_only : (css : List (List ℕ)) → AllFirstOrder (map only_member css)
order_only [] = tt
order_only ([] ∷ css) = (tt, order_only css)
order_only ((c ∷ cs) ∷ css) = (order_one c cs, order_only css)

module _ (p : Program) where
  order_defaults : (fs : List ℕ) → AllFirstOrder (map (field_member p) fs)
  order_defaults [] = tt
  order_defaults (f ∷ fs) = (tt, order_defaults fs)

  pub order_fields : (fields : ℕ → List ℕ) (r : Role) → AllFirstOrder (field_members p fields r)
  order_fields fields Static = tt
  order_fields fields Ordinary = tt
  order_fields fields Helper = tt
  order_fields fields (ConstructorOf a) = order_defaults (fields a)

  module _ (sp : Spelling) where
    pub order_clauses : (t : When) (es : List JmlExpr) → AllFirstOrder (map (formula p sp t) es)
    order_clauses t [] = tt
    order_clauses t (e ∷ es) = (first_order p sp t e, order_clauses t es)

    pub order_signals : (t : When) (es : List (ℕ × JmlExpr)) → AllFirstOrder (signalled_members (map (λ e. (e.0, formula p sp t e.1)) es))
    order_signals t [] = tt
    order_signals t (e ∷ es) = ((tt, first_order p sp t e.1), order_signals t es)
