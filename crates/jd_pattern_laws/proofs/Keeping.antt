-- What binding a variable keeps of the bindings, matching keeps.
use Rattle.std.proofs.Common.{ℕ, Bool, true, false, not, nat_eq, Option, Some, None}
use Rattle.std.specs.Option.{IfSome}
use Rattle.jd_base.specs.declared.sort.Sort.{Sort}
use Rattle.jd_syntax.specs.Names.{Name}
use Rattle.jd_syntax.specs.Codes.{PlainKind, Expr, Variable, Unary, Binary, ReadField, ReadElement, LengthOf, Cast, InstanceOf, Stmt, Set, WriteField, WriteElement, Evaluate, If, Block, Break, Catch, Finally, Throw, ThrowUnchecked, Return, ReturnVoid, Frame, Raise, NewArray, Stop, PlainCode, Done, Then}
use Rattle.jd_term.specs.Terms.{PlainTerm, sort_of_term, Number, Arithmetic, Select, Sum, Store, Create, Anon, NamedField, PlainLoc, NoLocations, AllLocations, Single, ElementRange, Union}
use Rattle.jd_term.specs.Formulas.{PlainFormula, TrueFormula, FalseFormula, Not, Modal, InLocations}
use Rattle.jd_term.specs.declared.formula.Modality.{Modality}
use Rattle.jd_patterns.specs.Patterns as pattern
use Rattle.jd_patterns.specs.Patterns.{SchemaVar, SortPattern, SortVar, SortIs, KindPattern, KindVar, KindIs, ModalityPattern, ModalityVar, ModalityIs, NamePattern, NameVar, NameIs, ResultPattern, NoResult, ResultIn, ResultVar, ClassPattern, ClassVar, ExprPattern, StmtPattern, CodePattern, TermPattern, LocPattern, FormulaPattern}
use Rattle.jd_patterns.specs.Instances.{is_simple, is_simple_of, is_return}
use Rattle.jd_patterns.specs.Foci.{sought, first_in}
use Rattle.jd_patterns.specs.Bindings.{Part, TheFormula, TheTerm, TheLiteral, TheLocations, TheKind, TheSort, TheName, TheResult, TheField, TheClass, TheLabel, TheCode, TheReturn, TheSimple, TheModality, TheContext, Bindings, Tests, next, only, on, bind}
use Rattle.jd_patterns.specs.Matching.{part_of, object_of, sides_of, terms_of, body_of, term_under, object_under, match_sort, match_kind, match_modality, match_name, match_result, match_class, match_expr, match_stmt, match_code, match_term, match_loc, match_formula}

module _ (Q : Bindings → Type 0) where
  pub keep_next : (o : Option Bindings) (k : Bindings → Option Bindings) → IfSome o Q → ((υ : Bindings) → Q υ → IfSome (k υ) Q) → IfSome (next o k) Q
  keep_next None k h f = tt
  keep_next (Some υ) k h f = f υ h

  pub keep_only : (b : Bool) (o : Option Bindings) → IfSome o Q → IfSome (only b o) Q
  keep_only true o h = h
  keep_only false o h = tt

  pub keep_on : {A : Type 0} (o : Option A) (k : A → Option Bindings) → ((a : A) → IfSome (k a) Q) → IfSome (on o k) Q
  keep_on None k h = tt
  keep_on (Some a) k h = h a

module _ (w : Tests) (Q : Bindings → Type 0) (keeps : (n : SchemaVar) (x : Part) (τ : Bindings) → Q τ → IfSome (bind w n x τ) Q) where
  sort_keeps : (p : SortPattern) (s : Sort) (τ : Bindings) → Q τ → IfSome (match_sort w p s τ) Q
  sort_keeps (SortVar n) s τ kept = keeps n (TheSort s) τ kept
  sort_keeps (SortIs r) s τ kept = keep_only Q (w.sort.same r s) _ kept

  kind_keeps : (p : KindPattern) (k : PlainKind) (τ : Bindings) → Q τ → IfSome (match_kind w p k τ) Q
  kind_keeps (KindVar n) k τ kept = keeps n (TheKind k) τ kept
  kind_keeps (KindIs l) k τ kept = keep_only Q (w.kind.same l k) _ kept

  modality_keeps : (p : ModalityPattern) (m : Modality) (τ : Bindings) → Q τ → IfSome (match_modality w p m τ) Q
  modality_keeps (ModalityVar n) m τ kept = keeps n (TheModality m) τ kept
  modality_keeps (ModalityIs l) m τ kept = keep_only Q (w.modality.same l m) _ kept

  name_keeps : (p : NamePattern) (x : Name) (τ : Bindings) → Q τ → IfSome (match_name w p x τ) Q
  name_keeps (NameVar n) x τ kept = keeps n (TheName x) τ kept
  name_keeps (NameIs y) x τ kept = keep_only Q (w.name.same y x) _ kept

  result_keeps : (p : ResultPattern) (r : Option Name) (τ : Bindings) → Q τ → IfSome (match_result w p r τ) Q
  result_keeps NoResult None τ kept = kept
  result_keeps (ResultIn x) (Some y) τ kept = name_keeps x y τ kept
  result_keeps (ResultVar n) r τ kept = keeps n (TheResult r) τ kept
  result_keeps p r τ kept = tt

  class_keeps : (p : ClassPattern) (c : ℕ) (τ : Bindings) → Q τ → IfSome (match_class w p c τ) Q
  class_keeps (ClassVar n) c τ kept = keeps n (TheClass c) τ kept
  class_keeps p c τ kept = tt

  expr_keeps : (p : ExprPattern) (e : Expr) (τ : Bindings) → Q τ → IfSome (match_expr w p e τ) Q
  expr_keeps (pattern.Simple n) e τ kept = keep_only Q (is_simple e) _ (keeps n (TheSimple e) τ kept)
  expr_keeps (pattern.SimpleAt s n) e τ kept = keep_only Q (is_simple_of s e) _ (keeps n (TheSimple e) τ kept)
  expr_keeps (pattern.Variable x) (Variable y) τ kept = name_keeps x y τ kept
  expr_keeps (pattern.Unary op e) (Unary o d) τ kept = keep_only Q (w.unary.same op o) _ (expr_keeps e d τ kept)
  expr_keeps (pattern.Binary op e f) (Binary o c d) τ kept = keep_only Q (w.binary.same op o) _ (keep_next Q _ _ (expr_keeps e c τ kept) (λ υ kept2. expr_keeps f d υ kept2))
  expr_keeps (pattern.ReadField e n) (ReadField d a) τ kept = keep_next Q _ _ (expr_keeps e d τ kept) (λ υ kept2. keeps n (TheField a) υ kept2)
  expr_keeps (pattern.ReadElement e f) (ReadElement c d) τ kept = keep_next Q _ _ (expr_keeps e c τ kept) (λ υ kept2. expr_keeps f d υ kept2)
  expr_keeps (pattern.LengthOf e) (LengthOf d) τ kept = expr_keeps e d τ kept
  expr_keeps (pattern.Cast k e) (Cast l d) τ kept = keep_next Q _ _ (kind_keeps k l τ kept) (λ υ kept2. expr_keeps e d υ kept2)
  expr_keeps (pattern.InstanceOf k e) (InstanceOf l d) τ kept = keep_next Q _ _ (kind_keeps k l τ kept) (λ υ kept2. expr_keeps e d υ kept2)
  expr_keeps p e τ kept = tt

  mutual
    stmt_keeps : (p : StmtPattern) (s : Stmt) (τ : Bindings) → Q τ → IfSome (match_stmt w p s τ) Q
    stmt_keeps (pattern.ReturnVar n) s τ kept = keep_only Q (is_return s) _ (keeps n (TheReturn s) τ kept)
    stmt_keeps (pattern.BlockPast n m c) (Block l (Then (Break k) a)) τ kept = keep_only Q (not (nat_eq k l)) _ (keep_next Q _ _ (keeps n (TheLabel l) τ kept) (λ υ kept2. keep_next Q _ _ (keeps m (TheLabel k) υ kept2) (λ φ kept3. code_keeps c a φ kept3)))
    stmt_keeps (pattern.Set x e) (Set y d) τ kept = keep_next Q _ _ (name_keeps x y τ kept) (λ υ kept2. expr_keeps e d υ kept2)
    stmt_keeps (pattern.WriteField e n f) (WriteField c a d) τ kept = keep_next Q _ _ (expr_keeps e c τ kept) (λ υ kept2. keep_next Q _ _ (keeps n (TheField a) υ kept2) (λ φ kept3. expr_keeps f d φ kept3))
    stmt_keeps (pattern.WriteElement e f g) (WriteElement b c d) τ kept = keep_next Q _ _ (expr_keeps e b τ kept) (λ υ kept2. keep_next Q _ _ (expr_keeps f c υ kept2) (λ φ kept3. expr_keeps g d φ kept3))
    stmt_keeps (pattern.Evaluate e) (Evaluate d) τ kept = expr_keeps e d τ kept
    stmt_keeps (pattern.If e c d) (If f a b) τ kept = keep_next Q _ _ (expr_keeps e f τ kept) (λ υ kept2. keep_next Q _ _ (code_keeps c a υ kept2) (λ φ kept3. code_keeps d b φ kept3))
    stmt_keeps (pattern.Block n c) (Block l a) τ kept = keep_next Q _ _ (keeps n (TheLabel l) τ kept) (λ υ kept2. code_keeps c a υ kept2)
    stmt_keeps (pattern.Break n) (Break l) τ kept = keeps n (TheLabel l) τ kept
    stmt_keeps (pattern.Catch c x d) (Catch a y b) τ kept = keep_next Q _ _ (code_keeps c a τ kept) (λ υ kept2. keep_next Q _ _ (name_keeps x y υ kept2) (λ φ kept3. code_keeps d b φ kept3))
    stmt_keeps (pattern.Finally c d) (Finally a b) τ kept = keep_next Q _ _ (code_keeps c a τ kept) (λ υ kept2. code_keeps d b υ kept2)
    stmt_keeps (pattern.Throw e) (Throw d) τ kept = expr_keeps e d τ kept
    stmt_keeps (pattern.ThrowUnchecked e) (ThrowUnchecked d) τ kept = expr_keeps e d τ kept
    stmt_keeps (pattern.Return e) (Return d) τ kept = expr_keeps e d τ kept
    stmt_keeps pattern.ReturnVoid ReturnVoid τ kept = kept
    stmt_keeps (pattern.Frame r c) (Frame q a) τ kept = keep_next Q _ _ (result_keeps r q τ kept) (λ υ kept2. code_keeps c a υ kept2)
    stmt_keeps (pattern.Raise c) (Raise a) τ kept = class_keeps c a τ kept
    stmt_keeps (pattern.NewArray x e) (NewArray y d) τ kept = keep_next Q _ _ (name_keeps x y τ kept) (λ υ kept2. expr_keeps e d υ kept2)
    stmt_keeps pattern.Stop Stop τ kept = kept
    stmt_keeps p s τ kept = tt

    code_keeps : (p : CodePattern) (c : PlainCode) (τ : Bindings) → Q τ → IfSome (match_code w p c τ) Q
    code_keeps (pattern.CodeThen n pattern.Done) c τ kept = keeps n (TheCode c) τ kept
    code_keeps pattern.Done Done τ kept = kept
    code_keeps (pattern.Then s c) (Then t d) τ kept = keep_next Q _ _ (stmt_keeps s t τ kept) (λ υ kept2. code_keeps c d υ kept2)
    code_keeps p c τ kept = tt

  mutual
    pub term_keeps : (p : TermPattern) (t : PlainTerm) (τ : Bindings) → Q τ → IfSome (match_term w p t τ) Q
    term_keeps (pattern.AnyTerm n) t τ kept = keeps n (TheTerm t) τ kept
    term_keeps (pattern.TermOf s n) t τ kept = keep_only Q (w.sort.same (sort_of_term t) s) _ (keeps n (TheTerm t) τ kept)
    term_keeps (pattern.LiteralVar n) (Number z) τ kept = keeps n (TheLiteral z) τ kept
    term_keeps (pattern.FieldVar n) (NamedField f) τ kept = keeps n (TheField f) τ kept
    term_keeps (pattern.Given p) t τ kept = keep_only Q (w.term.same p t) _ kept
    term_keeps (pattern.OnePart h p) t τ kept = keep_on Q (part_of h t) _ (λ a. term_keeps p a τ kept)
    term_keeps (pattern.Arithmetic op p q) (Arithmetic o t u) τ kept = keep_only Q (w.arithmetic.same op o) _ (keep_next Q _ _ (term_keeps p t τ kept) (λ υ kept2. term_keeps q u υ kept2))
    term_keeps (pattern.Select s p q r) (Select k h o f) τ kept = keep_next Q _ _ (sort_keeps s k τ kept) (λ υ kept2. keep_next Q _ _ (term_keeps p h υ kept2) (λ φ kept3. keep_next Q _ _ (term_keeps q o φ kept3) (λ ψ kept4. term_keeps r f ψ kept4)))
    term_keeps (pattern.Sum p q r) (Sum t u v) τ kept = keep_next Q _ _ (term_keeps p t τ kept) (λ υ kept2. keep_next Q _ _ (term_keeps q u υ kept2) (λ φ kept3. term_keeps r v φ kept3))
    term_keeps (pattern.Store p q r s) (Store h o f t) τ kept = keep_next Q _ _ (term_keeps p h τ kept) (λ υ kept2. keep_next Q _ _ (term_keeps q o υ kept2) (λ φ kept3. keep_next Q _ _ (term_keeps r f φ kept3) (λ ψ kept4. term_keeps s t ψ kept4)))
    term_keeps (pattern.Create p q) (Create h o) τ kept = keep_next Q _ _ (term_keeps p h τ kept) (λ υ kept2. term_keeps q o υ kept2)
    term_keeps (pattern.Anon p l q) (Anon h m g) τ kept = keep_next Q _ _ (term_keeps p h τ kept) (λ υ kept2. keep_next Q _ _ (loc_keeps l m υ kept2) (λ φ kept3. term_keeps q g φ kept3))
    term_keeps p t τ kept = tt

    pub loc_keeps : (p : LocPattern) (l : PlainLoc) (τ : Bindings) → Q τ → IfSome (match_loc w p l τ) Q
    loc_keeps (pattern.LocVar n) l τ kept = keeps n (TheLocations l) τ kept
    loc_keeps (pattern.OfObject h p) l τ kept = keep_on Q (object_of h l) _ (λ a. term_keeps p a τ kept)
    loc_keeps pattern.NoLocations NoLocations τ kept = kept
    loc_keeps pattern.AllLocations AllLocations τ kept = kept
    loc_keeps (pattern.Single p q) (Single o f) τ kept = keep_next Q _ _ (term_keeps p o τ kept) (λ υ kept2. term_keeps q f υ kept2)
    loc_keeps (pattern.ElementRange p q r) (ElementRange o t u) τ kept = keep_next Q _ _ (term_keeps p o τ kept) (λ υ kept2. keep_next Q _ _ (term_keeps q t υ kept2) (λ φ kept3. term_keeps r u φ kept3))
    loc_keeps (pattern.Union l k) (Union m n) τ kept = keep_next Q _ _ (loc_keeps l m τ kept) (λ υ kept2. loc_keeps k n υ kept2)
    loc_keeps p l τ kept = tt

  pub formula_keeps : (p : FormulaPattern) (a : PlainFormula) (τ : Bindings) → Q τ → IfSome (match_formula w p a τ) Q
  formula_keeps (pattern.FormulaVar n) a τ kept = keeps n (TheFormula a) τ kept
  formula_keeps (pattern.Connected h p q) f τ kept = keep_on Q (sides_of h f) _ (λ a. keep_next Q _ _ (formula_keeps p a.0 τ kept) (λ υ kept2. formula_keeps q a.1 υ kept2))
  formula_keeps (pattern.Compared h p q) f τ kept = keep_on Q (terms_of h f) _ (λ a. keep_next Q _ _ (term_keeps p a.0 τ kept) (λ υ kept2. term_keeps q a.1 υ kept2))
  formula_keeps (pattern.Quantified h s p) f τ kept = keep_on Q (body_of h f) _ (λ a. keep_next Q _ _ (sort_keeps s a.0 τ kept) (λ υ kept2. formula_keeps p a.1 υ kept2))
  formula_keeps (pattern.Tested h p) f τ kept = keep_on Q (term_under h f) _ (λ a. term_keeps p a τ kept)
  formula_keeps (pattern.Classed h k p) f τ kept = keep_on Q (object_under h f) _ (λ a. keep_next Q _ _ (kind_keeps k a.0 τ kept) (λ υ kept2. term_keeps p a.1 υ kept2))
  formula_keeps (pattern.Focus n k (pattern.Then s pattern.Done) p) (Modal m d a) τ kept = keep_next Q _ _ (keeps n (TheModality m) τ kept) (λ υ kept2. keep_next Q _ _ (keep_on Q (first_in (sought s) d) _ (λ r. keep_next Q _ _ (keeps k (TheContext r.0) υ kept2) (λ φ kept3. stmt_keeps s r.1 φ kept3))) (λ ψ kept4. formula_keeps p a ψ kept4))
  formula_keeps pattern.TrueFormula TrueFormula τ kept = kept
  formula_keeps pattern.FalseFormula FalseFormula τ kept = kept
  formula_keeps (pattern.Not p) (Not a) τ kept = formula_keeps p a τ kept
  formula_keeps (pattern.Modal m c p) (Modal n d a) τ kept = keep_next Q _ _ (modality_keeps m n τ kept) (λ υ kept2. keep_next Q _ _ (code_keeps c d υ kept2) (λ φ kept3. formula_keeps p a φ kept3))
  formula_keeps (pattern.InLocations p q l) (InLocations o f m) τ kept = keep_next Q _ _ (term_keeps p o τ kept) (λ υ kept2. keep_next Q _ _ (term_keeps q f υ kept2) (λ φ kept3. loc_keeps l m φ kept3))
  formula_keeps p a τ kept = tt
