-- The rules that act on a formula at any place.
use Rattle.std.specs.Prelude.{◌≡◌, ◌≢◌, true, [], ◌∷◌, Option, Some, None}
use Rattle.jd_syntax.specs.Names.{Name}
use Rattle.jd_syntax.specs.Codes.{Expr, IntLiteral, BoolLiteral, NullLiteral, Variable, Set, Frame, Return, Catch, PlainCode, Done, Then}
use Rattle.jd_term.specs.declared.formula.Modality.{Modality}
use Rattle.jd_term.specs.Terms.{PlainTerm, Number, Boolean, NullTerm, ProgramVariable}
use Rattle.jd_term.specs.Formulas.{PlainFormula, TrueFormula, Equal, Updated, Modal}
use Rattle.jd_model.specs.Contexts.{Context, fill, one}
use Rattle.jd_update.specs.Binderless.{has_no_binder}
use Rattle.jd_update.specs.Push.{simplified}
use Rattle.jd_first_steps.specs.declared.rules.FirstRule.{FirstRule}
use Rattle.jd_first_steps.specs.declared.rules.FirstRule.TheVariants.{EqRefl, SetSimple, FrameReturn, CatchEmpty, EmptyCode, Simplify}

-- a simple expression as a term; None for all others
abbrev pub simple_term : Expr → Option PlainTerm
simple_term (IntLiteral n) = Some (Number n)
simple_term (BoolLiteral b) = Some (Boolean b)
simple_term NullLiteral = Some NullTerm
simple_term (Variable x) = Some (ProgramVariable x)
simple_term e = None

-- `(set x s)` at a focus becomes the update of x to s before the rest
pub record IsSetSimple (before after : PlainFormula) : Type 0 where
  pub modality : Modality
  pub context : Context
  pub variable : Name
  pub value : Expr
  pub term : PlainTerm
  pub body : PlainFormula
  pub simple : simple_term value ≡ Some term
  pub found : before ≡ Modal modality (fill context (one (Set variable value))) body
  pub made : after ≡ Updated ((variable, term) ∷ []) (Modal modality (fill context Done) body)

-- `(frame r ((return s)..))` at a focus becomes `(set r s)`
pub record IsFrameReturn (before after : PlainFormula) : Type 0 where
  pub modality : Modality
  pub context : Context
  pub variable : Name
  pub value : Expr
  pub term : PlainTerm
  pub dropped : PlainCode
  pub body : PlainFormula
  pub simple : simple_term value ≡ Some term
  pub found : before ≡ Modal modality (fill context (one (Frame (Some variable) (Then (Return value) dropped)))) body
  pub made : after ≡ Modal modality (fill context (one (Set variable value))) body

-- `(catch () x (H))` at a focus goes away
pub record IsCatchEmpty (before after : PlainFormula) : Type 0 where
  pub modality : Modality
  pub context : Context
  pub variable : Name
  pub handler : PlainCode
  pub body : PlainFormula
  pub found : before ≡ Modal modality (fill context (one (Catch Done variable handler))) body
  pub made : after ≡ Modal modality (fill context Done) body

-- a modality over no statement is its formula
pub record IsEmptyCode (before after : PlainFormula) : Type 0 where
  pub modality : Modality
  pub found : before ≡ Modal modality Done after

-- an equation of a term with itself is true
pub record IsReflexive (before after : PlainFormula) : Type 0 where
  pub term : PlainTerm
  pub found : before ≡ Equal term term
  pub made : after ≡ TrueFormula

-- updates are pushed inward, and this changes the formula, which has no binder: none comes up in the first replay
pub record IsSimplified (before after : PlainFormula) : Type 0 where
  pub binderless : has_no_binder before ≡ true
  pub made : after ≡ simplified before
  pub changed : after ≢ before

-- the rule puts one formula for another
abbrev pub Rewrites : FirstRule → PlainFormula → PlainFormula → Type 0
Rewrites EqRefl before after = IsReflexive before after
Rewrites SetSimple before after = IsSetSimple before after
Rewrites FrameReturn before after = IsFrameReturn before after
Rewrites CatchEmpty before after = IsCatchEmpty before after
Rewrites EmptyCode before after = IsEmptyCode before after
Rewrites Simplify before after = IsSimplified before after
Rewrites rule before after = ⊥
