-- Bindings of schema variables, what it is for an answer to be exact, and how a variable is bound.
use Rattle.std.specs.Prelude.{◌≡◌, ℕ, ℤ, Bool, true, false, cond, List, [], ◌∷◌, Option, Some, None}
use Rattle.jd_base.specs.declared.sort.Sort.{Sort}
use Rattle.jd_syntax.specs.Names.{Name}
use Rattle.jd_syntax.specs.Codes.{PlainKind, Expr, Stmt, PlainCode}
use Rattle.jd_syntax.specs.declared.code.UnaryOp.{UnaryOp}
use Rattle.jd_syntax.specs.declared.code.BinaryOp.{BinaryOp}
use Rattle.jd_term.specs.Terms.{PlainTerm, PlainLoc}
use Rattle.jd_term.specs.declared.term.ArithmeticOp.{ArithmeticOp}
use Rattle.jd_term.specs.Formulas.{PlainFormula}
use Rattle.jd_term.specs.declared.formula.Modality.{Modality}
use Rattle.jd_model.specs.Contexts.{Context}
use Rattle.jd_patterns.specs.Patterns.{SchemaVar}
use Rattle.jd_patterns.specs.Instances.{Instance}

-- what one variable stands for
pub data Part : Type 0 where
  TheFormula : PlainFormula → Part
  TheTerm : PlainTerm → Part
  TheLiteral : ℤ → Part
  TheLocations : PlainLoc → Part
  TheKind : PlainKind → Part
  TheSort : Sort → Part
  TheName : Name → Part
  TheResult : Option Name → Part
  TheField : ℕ → Part
  TheClass : ℕ → Part
  TheLabel : ℕ → Part
  TheCode : PlainCode → Part
  TheReturn : Stmt → Part
  TheSimple : Expr → Part
  TheModality : Modality → Part
  TheContext : Context → Part

abbrev pub Bindings : Type 0
Bindings = List (SchemaVar × Part)

-- the instantiation gives the variable this part
abbrev pub Says : Instance → SchemaVar → Part → Type 0
Says σ n (TheFormula x) = σ.formula n ≡ x
Says σ n (TheTerm x) = σ.term n ≡ x
Says σ n (TheLiteral x) = σ.literal n ≡ x
Says σ n (TheLocations x) = σ.locations n ≡ x
Says σ n (TheKind x) = σ.kind n ≡ x
Says σ n (TheSort x) = σ.sort n ≡ x
Says σ n (TheName x) = σ.name n ≡ x
Says σ n (TheResult x) = σ.result n ≡ x
Says σ n (TheField x) = σ.field n ≡ x
Says σ n (TheClass x) = σ.class n ≡ x
Says σ n (TheLabel x) = σ.label n ≡ x
Says σ n (TheCode x) = σ.code n ≡ x
Says σ n (TheReturn x) = σ.returned n ≡ x
Says σ n (TheSimple x) = σ.simple n ≡ x
Says σ n (TheModality x) = σ.modality n ≡ x
Says σ n (TheContext x) = σ.context n ≡ x

abbrev pub Agrees : Instance → Bindings → Type 0
Agrees σ [] = Unit {0}
Agrees σ (e ∷ τ) = Says σ e.0 e.1 × Agrees σ τ

-- it agrees with the bindings that were found; with none where there are none
abbrev pub Within : Instance → Option Bindings → Type 0
Within σ None = ⊥
Within σ (Some τ) = Agrees σ τ

-- the instantiations that agree with the answer are those that agreed with the bindings so far and have the property: no answer says
-- that there is none, and what it says of a variable is what each of them says
abbrev pub Exactly : Instance → Bindings → Type 0 → Option Bindings → Type 0
Exactly σ τ P o = (Agrees σ τ × P → Within σ o) × (Within σ o → Agrees σ τ × P)

-- ---- exact tests of equality, over which matching goes

pub record Test (A : Type 0) : Type 0 where
  pub same : A → A → Bool
  pub decides : (x y : A) → (same x y ≡ true → x ≡ y) × (x ≡ y → same x y ≡ true)

pub record Tests : Type 0 where
  pub variable : Test SchemaVar
  pub formula : Test PlainFormula
  pub term : Test PlainTerm
  pub literal : Test ℤ
  pub locations : Test PlainLoc
  pub kind : Test PlainKind
  pub sort : Test Sort
  pub name : Test Name
  pub result : Test (Option Name)
  pub number : Test ℕ
  pub code : Test PlainCode
  pub returned : Test Stmt
  pub simple : Test Expr
  pub modality : Test Modality
  pub context : Test Context
  pub unary : Test UnaryOp
  pub binary : Test BinaryOp
  pub arithmetic : Test ArithmeticOp

-- ---- answers one after the other

-- go on with what was found
abbrev pub next : Option Bindings → (Bindings → Option Bindings) → Option Bindings
next None k = None
next (Some τ) k = k τ

-- only where the test holds
abbrev pub only : Bool → Option Bindings → Option Bindings
only b o = cond b o None

-- go on with the tree's parts, where it has the form
abbrev pub on : {A : Type 0} → Option A → (A → Option Bindings) → Option Bindings
on None k = None
on (Some a) k = k a

-- ---- a variable

-- how two parts compare: of two kinds, equal or different
pub data Verdict : Type 0 where
  OtherKind Equal Different : Verdict

abbrev pub verdict : Bool → Verdict
verdict true = Equal
verdict false = Different

-- a binding of the variable's stays where its part is equal, and refuses where it differs; another's is passed over
abbrev pub placed : Verdict → SchemaVar × Part → Bindings → Option Bindings → Option Bindings
placed OtherKind e τ o = next o (λ υ. Some (e ∷ υ))
placed Equal e τ o = Some (e ∷ τ)
placed Different e τ o = None

module _ (w : Tests) where
  abbrev pub compare : Part → Part → Verdict
  compare (TheFormula x) (TheFormula y) = verdict (w.formula.same x y)
  compare (TheTerm x) (TheTerm y) = verdict (w.term.same x y)
  compare (TheLiteral x) (TheLiteral y) = verdict (w.literal.same x y)
  compare (TheLocations x) (TheLocations y) = verdict (w.locations.same x y)
  compare (TheKind x) (TheKind y) = verdict (w.kind.same x y)
  compare (TheSort x) (TheSort y) = verdict (w.sort.same x y)
  compare (TheName x) (TheName y) = verdict (w.name.same x y)
  compare (TheResult x) (TheResult y) = verdict (w.result.same x y)
  compare (TheField x) (TheField y) = verdict (w.number.same x y)
  compare (TheClass x) (TheClass y) = verdict (w.number.same x y)
  compare (TheLabel x) (TheLabel y) = verdict (w.number.same x y)
  compare (TheCode x) (TheCode y) = verdict (w.code.same x y)
  compare (TheReturn x) (TheReturn y) = verdict (w.returned.same x y)
  compare (TheSimple x) (TheSimple y) = verdict (w.simple.same x y)
  compare (TheModality x) (TheModality y) = verdict (w.modality.same x y)
  compare (TheContext x) (TheContext y) = verdict (w.context.same x y)
  compare x y = OtherKind

  -- the variable gets the part behind all others, or had it; no answer where it had another
  abbrev pub bind : SchemaVar → Part → Bindings → Option Bindings
  bind n x [] = Some ((n, x) ∷ [])
  bind n x (e ∷ τ) = placed (cond (w.variable.same e.0 n) (compare x e.1) OtherKind) e τ (bind n x τ)
