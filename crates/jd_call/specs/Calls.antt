-- Calls at the focus of a code.
use Rattle.std.specs.Prelude.{List, None, Option, Some, drop, map, take, ◌≡◌, ◌∷◌, ℕ, []}
use Rattle.jd_base.specs.declared.sort.Sort.{Sort}
use Rattle.jd_base.specs.declared.sort.Sort.TheVariants.{Ref as RefSort}
use Rattle.jd_task_classes.specs.Methods.{Constructor, InstanceMethod, MethodKind, PlainMethods, StaticMethod}
use Rattle.jd_model.specs.Contexts.{Context}
use Rattle.jd_model.specs.ContractForms.{PlainBody}
use Rattle.jd_model.specs.InnermostFocus.{innermost_focus}
use Rattle.jd_model.specs.SimpleExpressions.{SimpleOf, term_of}
use Rattle.jd_model.specs.SpecialNames.{receiver}
use Rattle.jd_syntax.specs.Codes.{ConstructorCall, Evaluate, Expr, ExprThen, Exprs, NoExprs, PlainCode, Set, StaticCall, Stmt, VirtualCall}
use Rattle.jd_syntax.specs.Names.{Declared, Name}
use Rattle.jd_term.specs.Formulas.{Modal, PlainFormula}
use Rattle.jd_term.specs.Terms.{PlainTerm}
use Rattle.jd_term.specs.declared.formula.Modality.{Modality}

-- what is called: the method on an object, of this class or one below it; a static method; a constructor on a new object
pub data Target : Type 0 where
  VirtualTarget : (class method : ℕ) → Expr → Target
  StaticTarget : (method : ℕ) → Target
  ConstructorTarget : (method : ℕ) → Expr → Target

abbrev pub target_kind : Target → MethodKind
target_kind (VirtualTarget k m a) = InstanceMethod
target_kind (StaticTarget m) = StaticMethod
target_kind (ConstructorTarget m a) = Constructor

abbrev pub called_method : Target → ℕ
called_method (VirtualTarget k m a) = m
called_method (StaticTarget m) = m
called_method (ConstructorTarget m a) = m

-- the class that a call names, or the one that declares the static method or the constructor
abbrev pub called_class : PlainMethods → Target → ℕ
called_class methods (VirtualTarget k m a) = k
called_class methods (StaticTarget m) = methods.class m
called_class methods (ConstructorTarget m a) = methods.class m

abbrev pub call_of : Target → Exprs → Expr
call_of (VirtualTarget k m a) bs = VirtualCall k m a bs
call_of (StaticTarget m) bs = StaticCall m bs
call_of (ConstructorTarget m a) bs = ConstructorCall m a bs

-- `(set x CALL)` or `(eval CALL)`
abbrev pub call_stmt : Option Name → Expr → Stmt
call_stmt None e = Evaluate e
call_stmt (Some x) e = Set x e

-- a modality, with a call of its code
pub record FocusedCall : Type 0 where
  pub modality : Modality
  pub code : PlainCode
  pub after : PlainFormula
  pub context : Context
  pub into : Option Name
  pub target : Target
  pub operands : Exprs

abbrev pub formula_of : FocusedCall → PlainFormula
formula_of c = Modal c.modality c.code c.after

-- the call stands at the innermost focus, in its context
abbrev pub IsAtFocus : FocusedCall → Type 0
IsAtFocus c = innermost_focus c.code ≡ Some (c.context, call_stmt c.into (call_of c.target c.operands))

-- ---- simple operands

abbrev pub ReceiverIsSimple : Target → Type 0
ReceiverIsSimple (VirtualTarget k m a) = SimpleOf RefSort a
ReceiverIsSimple (StaticTarget m) = Unit {0}
ReceiverIsSimple (ConstructorTarget m a) = SimpleOf RefSort a

-- one simple operand of its sort for each parameter
abbrev pub OperandsAreSimple : Exprs → List Name → Type 0
OperandsAreSimple NoExprs [] = Unit {0}
OperandsAreSimple (ExprThen a bs) (x ∷ xs) = SimpleOf x.sort a × OperandsAreSimple bs xs
OperandsAreSimple bs xs = ⊥

-- a variable that is set has the sort of the result
abbrev pub ResultFits : Option Name → Option Sort → Type 0
ResultFits None k = Unit {0}
ResultFits (Some x) (Some k) = x.sort ≡ k
ResultFits (Some x) None = ⊥

-- the parameters of a body: its first variables, but for `this`
abbrev pub parameters_of : MethodKind → PlainBody → List Name
parameters_of StaticMethod b = map (λ (v : Declared). v.name) (take b.params b.vars)
parameters_of InstanceMethod b = drop 1 (map (λ (v : Declared). v.name) (take b.params b.vars))
parameters_of Constructor b = drop 1 (map (λ (v : Declared). v.name) (take b.params b.vars))

-- the call has simple operands that fit the method
pub record CallFits (methods : PlainMethods) (c : FocusedCall) (parameters : List Name) : Type 0 where
  pub kind : methods.kind (called_method c.target) ≡ target_kind c.target
  pub receiver : ReceiverIsSimple c.target
  pub operands : OperandsAreSimple c.operands parameters
  pub result : ResultFits c.into (methods.result (called_method c.target))

-- ---- operands as terms

-- the constant of the receiver, where there is one, and its operand
abbrev pub receiver_constants : Target → List Name
receiver_constants (VirtualTarget k m a) = receiver ∷ []
receiver_constants (StaticTarget m) = []
receiver_constants (ConstructorTarget m a) = receiver ∷ []

abbrev pub receiver_terms : Target → List PlainTerm
receiver_terms (VirtualTarget k m a) = term_of a ∷ []
receiver_terms (StaticTarget m) = []
receiver_terms (ConstructorTarget m a) = term_of a ∷ []

abbrev pub terms_of : Exprs → List PlainTerm
terms_of NoExprs = []
terms_of (ExprThen a bs) = term_of a ∷ terms_of bs
