-- The premises of an instance are determined: what stands at the place tells the call, and the tables tell its body and its case.
use Rattle.std.proofs.Common.{List, None, Option, Some, ap, map, refl, sym, ◌≡◌, ◌∷◌, ◌∙◌, ℕ, []}
use Rattle.std.specs.Option.{unwrap_or}
use Rattle.jd_call.specs.Calls.{ConstructorTarget, FocusedCall, StaticTarget, Target, VirtualTarget, call_of, call_stmt, called_class, called_method, formula_of}
use Rattle.jd_call.specs.Laws.{NewObjectIsDetermined, UseContractIsDetermined}
use Rattle.jd_task_classes.specs.Classes.{methods_of}
use Rattle.jd_call.specs.NewObject.{Allocation, ArrayOf, NewObjectInstance, ObjectOf, alloc_stmt, allocation_premise, object_constant}
use Rattle.jd_call.specs.UseContract.{UseContractInstance, case_in, premises_of}
use Rattle.jd_model.specs.Contexts.{Context}
use Rattle.jd_model.specs.InnermostFocus.{innermost_focus}
use Rattle.jd_model.specs.Places.{put_at}
use Rattle.jd_model.specs.Sequents.{PlainPlace, PlainSequent}
use Rattle.jd_model.specs.Tables.{body_in}
use Rattle.jd_sequent.specs.Obligations.{PlainTask}
use Rattle.jd_syntax.specs.CodeNames.{heap_name}
use Rattle.jd_syntax.specs.Codes.{AllocArray, AllocObject, ConstructorCall, Done, Evaluate, Expr, Exprs, NoExprs, NullLiteral, PlainCode, Set, StaticCall, Stmt, VirtualCall}
use Rattle.jd_syntax.specs.Names.{Name}
use Rattle.jd_term.specs.Formulas.{Modal, PlainFormula}
use Rattle.jd_term.specs.declared.formula.Modality.{Modality}
use Rattle.jd_term.specs.declared.formula.Modality.TheVariants as modalities

same_some : {A : Type 0} {a b : A} → Some a ≡ Some b → a ≡ b
same_some {a = a} e = ap (λ o. unwrap_or o a) e

-- ---- the parts of a modality

abbrev modality_in : PlainFormula → Modality
modality_in (Modal m c a) = m
modality_in a = modalities.Necessity

abbrev code_in : PlainFormula → PlainCode
code_in (Modal m c a) = c
code_in a = Done

abbrev after_in : PlainFormula → PlainFormula
after_in (Modal m c a) = a
after_in a = a

-- ---- the parts of a call

abbrev into_in : Stmt → Option Name
into_in (Set x e) = Some x
into_in c = None

abbrev expression_in : Stmt → Expr
expression_in (Set x e) = e
expression_in (Evaluate e) = e
expression_in c = NullLiteral

abbrev target_in : Expr → Target
target_in (VirtualCall k m a bs) = VirtualTarget k m a
target_in (StaticCall m bs) = StaticTarget m
target_in (ConstructorCall m a bs) = ConstructorTarget m a
target_in e = StaticTarget 0

abbrev operands_in : Expr → Exprs
operands_in (VirtualCall k m a bs) = bs
operands_in (StaticCall m bs) = bs
operands_in (ConstructorCall m a bs) = bs
operands_in e = NoExprs

into_is : (y : Option Name) (e : Expr) → into_in (call_stmt y e) ≡ y
into_is None e = refl
into_is (Some x) e = refl

expression_is : (y : Option Name) (e : Expr) → expression_in (call_stmt y e) ≡ e
expression_is None e = refl
expression_is (Some x) e = refl

target_is : (t : Target) (bs : Exprs) → target_in (call_of t bs) ≡ t
target_is (VirtualTarget k m a) bs = refl
target_is (StaticTarget m) bs = refl
target_is (ConstructorTarget m a) bs = refl

operands_are : (t : Target) (bs : Exprs) → operands_in (call_of t bs) ≡ bs
operands_are (VirtualTarget k m a) bs = refl
operands_are (StaticTarget m) bs = refl
operands_are (ConstructorTarget m a) bs = refl

-- ---- useContract

module _ (t : PlainTask) (s : PlainSequent) (place : PlainPlace) (number n : ℕ) (ps qs : List PlainSequent) (a : UseContractInstance t s place number n ps) (b : UseContractInstance t s place number n qs) where
  same_formula : formula_of a.call ≡ formula_of b.call
  same_formula = same_some (sym a.at_place.found ∙ b.at_place.found)

  abbrev focus_of : FocusedCall → Context × Stmt
  focus_of c = (c.context, call_stmt c.into (call_of c.target c.operands))

  same_focus : focus_of a.call ≡ focus_of b.call
  same_focus = same_some (sym a.at_focus ∙ ap (λ c. innermost_focus (code_in c)) same_formula ∙ b.at_focus)

  same_expression : call_of a.call.target a.call.operands ≡ call_of b.call.target b.call.operands
  same_expression = sym (expression_is a.call.into (call_of a.call.target a.call.operands)) ∙ ap (λ (f : Context × Stmt). expression_in f.1) same_focus ∙ expression_is b.call.into (call_of b.call.target b.call.operands)

  same_into : a.call.into ≡ b.call.into
  same_into = sym (into_is a.call.into (call_of a.call.target a.call.operands)) ∙ ap (λ (f : Context × Stmt). into_in f.1) same_focus ∙ into_is b.call.into (call_of b.call.target b.call.operands)

  same_target : a.call.target ≡ b.call.target
  same_target = sym (target_is a.call.target a.call.operands) ∙ ap target_in same_expression ∙ target_is b.call.target b.call.operands

  same_operands : a.call.operands ≡ b.call.operands
  same_operands = sym (operands_are a.call.target a.call.operands) ∙ ap operands_in same_expression ∙ operands_are b.call.target b.call.operands

  same_call : a.call ≡ b.call
  same_call = λ i. record {
    modality = modality_in (same_formula i);
    code = code_in (same_formula i);
    after = after_in (same_formula i);
    context = (same_focus i).0;
    into = same_into i;
    target = same_target i;
    operands = same_operands i;
  }

  same_body : a.body ≡ b.body
  same_body = same_some (sym a.body_found ∙ ap (λ (c : FocusedCall). body_in t.contracts.bodies (called_method c.target)) same_call ∙ b.body_found)

  same_case : a.case ≡ b.case
  same_case = same_some (sym a.case_found ∙ ap (λ (c : FocusedCall). case_in t.contracts.cases (called_class (methods_of t.classes) c.target) (called_method c.target) number) same_call ∙ b.case_found)

  same_premises : ps ≡ qs
  same_premises = a.premises_are ∙ (λ i. map (put_at s place) (premises_of t (same_call i) (same_body i) (same_case i) n)) ∙ sym b.premises_are

pub use_contract_determined : UseContractIsDetermined
use_contract_determined t s place number n ps qs a b = same_premises t s place number n ps qs a b

-- ---- newObject

abbrev variable_in : Stmt → Name
variable_in (AllocObject x c) = x
variable_in (AllocArray x e) = x
variable_in c = heap_name

abbrev allocation_in : Stmt → Allocation
allocation_in (AllocObject x c) = ObjectOf c
allocation_in (AllocArray x e) = ArrayOf e
allocation_in c = ObjectOf 0

variable_is : (x : Name) (k : Allocation) → variable_in (alloc_stmt x k) ≡ x
variable_is x (ObjectOf c) = refl
variable_is x (ArrayOf e) = refl

allocation_is : (x : Name) (k : Allocation) → allocation_in (alloc_stmt x k) ≡ k
allocation_is x (ObjectOf c) = refl
allocation_is x (ArrayOf e) = refl

module _ (t : PlainTask) (s : PlainSequent) (place : PlainPlace) (n : ℕ) (ps qs : List PlainSequent) (a : NewObjectInstance t s place n ps) (b : NewObjectInstance t s place n qs) where
  one_formula : Modal a.modality a.code a.after ≡ Modal b.modality b.code b.after
  one_formula = same_some (sym a.at_place.found ∙ b.at_place.found)

  abbrev allocated_at : Context → Name → Allocation → Context × Stmt
  allocated_at k x w = (k, alloc_stmt x w)

  one_focus : allocated_at a.context a.variable a.allocation ≡ allocated_at b.context b.variable b.allocation
  one_focus = same_some (sym a.at_focus ∙ ap (λ c. innermost_focus (code_in c)) one_formula ∙ b.at_focus)

  one_variable : a.variable ≡ b.variable
  one_variable = sym (variable_is a.variable a.allocation) ∙ ap (λ (f : Context × Stmt). variable_in f.1) one_focus ∙ variable_is b.variable b.allocation

  one_allocation : a.allocation ≡ b.allocation
  one_allocation = sym (allocation_is a.variable a.allocation) ∙ ap (λ (f : Context × Stmt). allocation_in f.1) one_focus ∙ allocation_is b.variable b.allocation

  one_premise : ps ≡ qs
  one_premise = a.premises_are ∙ (λ i. map (put_at s place) (allocation_premise (one_variable i) (one_allocation i) (object_constant n) (modality_in (one_formula i)) ((one_focus i).0) (after_in (one_formula i)) ∷ [])) ∙ sym b.premises_are

pub new_object_determined : NewObjectIsDetermined
new_object_determined t s place n ps qs a b = one_premise t s place n ps qs a b
