-- Matching binds all variables of the pattern, and what was bound stays so.
use Rattle.std.proofs.Common.{◌≡◌, ◌++◌, ℕ, Bool, true, false, cond, not, nat_eq, inl, inr, List, [], ◌∷◌, Option, Some, None, refl}
use Rattle.std.specs.Option.{IfSome}
use Rattle.jd_base.specs.declared.sort.Sort.{Sort}
use Rattle.jd_syntax.specs.Names.{Name}
use Rattle.jd_syntax.specs.Codes.{PlainKind, Expr, Variable as VariableExpr, Unary, Binary, ReadField, ReadElement, LengthOf, Cast, InstanceOf, Stmt, Set, WriteField, WriteElement, Evaluate, If, Block, Break, Catch, Finally, Throw, ThrowUnchecked, Return, ReturnVoid, Frame, Raise, NewArray, Stop, PlainCode, Done, Then}
use Rattle.jd_term.specs.Terms.{PlainTerm, sort_of_term, Number, Arithmetic, Select, Sum, Store, Create, Anon, NamedField, PlainLoc, NoLocations, AllLocations, Single, ElementRange, Union}
use Rattle.jd_term.specs.Formulas.{PlainFormula, TrueFormula, FalseFormula, Not, Modal, InLocations}
use Rattle.jd_term.specs.declared.formula.Modality.{Modality}
use Rattle.jd_patterns.specs.Patterns as pattern
use Rattle.jd_patterns.specs.Patterns.{SchemaVar, SortPattern, SortVar, SortIs, KindPattern, KindVar, KindIs, ModalityPattern, ModalityVar, ModalityIs, NamePattern, NameVar, NameIs, ResultPattern, NoResult, ResultIn, ResultVar, ClassPattern, ClassVar, ExprPattern, StmtPattern, CodePattern, TermPattern, LocPattern, FormulaPattern}
use Rattle.jd_patterns.specs.Instances.{is_simple, is_simple_of, is_return}
use Rattle.jd_patterns.specs.Foci.{sought, first_in}
use Rattle.jd_patterns.specs.Bindings.{Part, TheFormula, TheTerm, TheLiteral, TheLocations, TheKind, TheSort, TheName, TheResult, TheField, TheClass, TheLabel, TheCode, TheReturn, TheSimple, TheModality, TheContext, Bindings, Tests, next, only, on, Verdict, OtherKind, Equal, Different, verdict, compare, placed, bind}
use Rattle.jd_patterns.specs.Chosen.{kind_of, IsBound, AllBound}
use Rattle.jd_patterns.specs.Matching.{part_of, object_of, sides_of, terms_of, body_of, term_under, object_under, match_sort, match_kind, match_modality, match_name, match_result, match_class, match_expr, match_stmt, match_code, match_term, match_loc, match_formula}
use Rattle.jd_patterns.specs.Variables.{VarKind, FormulaKind, TermKind, LiteralKind, LocKind, KindKind, SortKind, NameKind, ResultKind, FieldKind, ClassKind, LabelKind, CodeKind, ReturnKind, SimpleKind, ModalityKind, ContextKind, Variable, sort_variables, kind_variables, modality_variables, name_variables, result_variables, class_variables, expr_variables, stmt_variables, code_variables, term_variables, loc_variables, formula_variables}
use Rattle.jd_pattern_laws.specs.Laws.{Binds}

-- ---- lists of variables

pub both_bound : (xs ys : List Variable) (υ : Bindings) → AllBound xs υ → AllBound ys υ → AllBound (xs ++ ys) υ
both_bound [] ys υ a b = b
both_bound (x ∷ xs) ys υ a b = (a.0, both_bound xs ys υ a.1 b)

-- what was bound is so where more is
pub still_bound : (vs : List Variable) (τ υ : Bindings) → ((v : Variable) → IsBound v τ → IsBound v υ) → AllBound vs τ → AllBound vs υ
still_bound [] τ υ k a = tt
still_bound (v ∷ vs) τ υ k a = (k v a.0, still_bound vs τ υ k a.1)

-- ---- answers one after the other

module _ (τ : Bindings) where
  pub then_binds : (xs ys : List Variable) (o : Option Bindings) (k : Bindings → Option Bindings) → IfSome o (Binds xs τ) → ((υ : Bindings) → IfSome (k υ) (Binds ys υ)) → IfSome (next o k) (Binds (xs ++ ys) τ)
  then_binds xs ys None k h f = tt
  then_binds xs ys (Some υ) k h f = more (k υ) (f υ)
    where
      more : (p : Option Bindings) → IfSome p (Binds ys υ) → IfSome p (Binds (xs ++ ys) τ)
      more None g = tt
      more (Some φ) g = (both_bound xs ys φ (still_bound xs υ φ g.1 h.0) g.0, λ v o. g.1 v (h.1 v o))

  only_binds : (vs : List Variable) (b : Bool) (o : Option Bindings) → IfSome o (Binds vs τ) → IfSome (only b o) (Binds vs τ)
  only_binds vs true o h = h
  only_binds vs false o h = tt

  pub on_binds : {A : Type 0} (vs : List Variable) (o : Option A) (k : A → Option Bindings) → ((a : A) → IfSome (k a) (Binds vs τ)) → IfSome (on o k) (Binds vs τ)
  on_binds vs None k h = tt
  on_binds vs (Some a) k h = h a

  pub stays : Binds [] τ τ
  stays = (tt, λ v o. o)

  no_more : (vs : List Variable) (o : Option Bindings) → IfSome o (Binds vs τ) → IfSome o (Binds (vs ++ []) τ)
  no_more vs None h = tt
  no_more vs (Some υ) h = (both_bound vs [] υ h.0 tt, h.1)

-- ---- a variable

-- what is so where two parts are equal
abbrev AtEqual : Type 0 → Verdict → Type 0
AtEqual P Equal = P
AtEqual P OtherKind = Unit {0}
AtEqual P Different = Unit {0}

one_kind : (k : VarKind) (b : Bool) → AtEqual (k ≡ k) (verdict b)
one_kind k true = refl
one_kind k false = tt

and_named : (P Q : Type 0) (v : Verdict) → AtEqual P v → Q → AtEqual (P × Q) v
and_named P Q Equal p q = (p, q)
and_named P Q OtherKind p q = tt
and_named P Q Different p q = tt

module _ (w : Tests) where
  same_kind : (x y : Part) → AtEqual (kind_of y ≡ kind_of x) (compare w x y)
  same_kind (TheFormula x) (TheFormula y) = one_kind FormulaKind _
  same_kind (TheTerm x) (TheTerm y) = one_kind TermKind _
  same_kind (TheLiteral x) (TheLiteral y) = one_kind LiteralKind _
  same_kind (TheLocations x) (TheLocations y) = one_kind LocKind _
  same_kind (TheKind x) (TheKind y) = one_kind KindKind _
  same_kind (TheSort x) (TheSort y) = one_kind SortKind _
  same_kind (TheName x) (TheName y) = one_kind NameKind _
  same_kind (TheResult x) (TheResult y) = one_kind ResultKind _
  same_kind (TheField x) (TheField y) = one_kind FieldKind _
  same_kind (TheClass x) (TheClass y) = one_kind ClassKind _
  same_kind (TheLabel x) (TheLabel y) = one_kind LabelKind _
  same_kind (TheCode x) (TheCode y) = one_kind CodeKind _
  same_kind (TheReturn x) (TheReturn y) = one_kind ReturnKind _
  same_kind (TheSimple x) (TheSimple y) = one_kind SimpleKind _
  same_kind (TheModality x) (TheModality y) = one_kind ModalityKind _
  same_kind (TheContext x) (TheContext y) = one_kind ContextKind _
  same_kind x y = tt

  place_binds : (v : Verdict) (n : SchemaVar) (x : Part) (e : SchemaVar × Part) (τ : Bindings) (o : Option Bindings) → AtEqual ((kind_of e.1 ≡ kind_of x) × (e.0 ≡ n)) v → IfSome o (Binds ((kind_of x, n) ∷ []) τ) → IfSome (placed v e τ o) (Binds ((kind_of x, n) ∷ []) (e ∷ τ))
  place_binds OtherKind n x e τ None t h = tt
  place_binds OtherKind n x e τ (Some υ) t h = ((inr h.0.0, tt), below)
    where
      below : (v : Variable) → IsBound v (e ∷ τ) → IsBound v (e ∷ υ)
      below v (inl a) = inl a
      below v (inr b) = inr (h.1 v b)
  place_binds Equal n x e τ o t h = ((inl t, tt), λ v o. o)
  place_binds Different n x e τ o t h = tt

  pub bind_binds : (n : SchemaVar) (x : Part) (τ : Bindings) → IfSome (bind w n x τ) (Binds ((kind_of x, n) ∷ []) τ)
  bind_binds n x [] = ((inl (refl, refl), tt), λ v o. absurd o)
  bind_binds n x (e ∷ τ) = place_binds (cond (w.variable.same e.0 n) (compare w x e.1) OtherKind) n x e τ (bind w n x τ) (at (w.variable.same e.0 n) refl) (bind_binds n x τ)
    where
      at : (b : Bool) → w.variable.same e.0 n ≡ b → AtEqual ((kind_of e.1 ≡ kind_of x) × (e.0 ≡ n)) (cond b (compare w x e.1) OtherKind)
      at true q = and_named (kind_of e.1 ≡ kind_of x) (e.0 ≡ n) (compare w x e.1) (same_kind x e.1) ((w.variable.decides e.0 n).0 q)
      at false q = tt

  sort_binds : (p : SortPattern) (s : Sort) (τ : Bindings) → IfSome (match_sort w p s τ) (Binds (sort_variables p) τ)
  sort_binds (SortVar n) s τ = bind_binds n (TheSort s) τ
  sort_binds (SortIs r) s τ = only_binds τ [] (w.sort.same r s) _ (stays τ)

  kind_binds : (p : KindPattern) (k : PlainKind) (τ : Bindings) → IfSome (match_kind w p k τ) (Binds (kind_variables p) τ)
  kind_binds (KindVar n) k τ = bind_binds n (TheKind k) τ
  kind_binds (KindIs r) k τ = only_binds τ [] (w.kind.same r k) _ (stays τ)

  modality_binds : (p : ModalityPattern) (m : Modality) (τ : Bindings) → IfSome (match_modality w p m τ) (Binds (modality_variables p) τ)
  modality_binds (ModalityVar n) m τ = bind_binds n (TheModality m) τ
  modality_binds (ModalityIs r) m τ = only_binds τ [] (w.modality.same r m) _ (stays τ)

  name_binds : (p : NamePattern) (x : Name) (τ : Bindings) → IfSome (match_name w p x τ) (Binds (name_variables p) τ)
  name_binds (NameVar n) x τ = bind_binds n (TheName x) τ
  name_binds (NameIs r) x τ = only_binds τ [] (w.name.same r x) _ (stays τ)

  result_binds : (p : ResultPattern) (r : Option Name) (τ : Bindings) → IfSome (match_result w p r τ) (Binds (result_variables p) τ)
  result_binds NoResult None τ = stays τ
  result_binds (ResultIn x) (Some y) τ = name_binds x y τ
  result_binds (ResultVar n) r τ = bind_binds n (TheResult r) τ
  result_binds p r τ = tt

  class_binds : (p : ClassPattern) (c : ℕ) (τ : Bindings) → IfSome (match_class w p c τ) (Binds (class_variables p) τ)
  class_binds (ClassVar n) c τ = bind_binds n (TheClass c) τ
  class_binds p c τ = tt

  expr_binds : (p : ExprPattern) (e : Expr) (τ : Bindings) → IfSome (match_expr w p e τ) (Binds (expr_variables p) τ)
  expr_binds (pattern.Simple n) e τ = only_binds τ ((SimpleKind, n) ∷ []) (is_simple e) _ (bind_binds n (TheSimple e) τ)
  expr_binds (pattern.SimpleAt s n) e τ = only_binds τ ((SimpleKind, n) ∷ []) (is_simple_of s e) _ (bind_binds n (TheSimple e) τ)
  expr_binds (pattern.Variable x) (VariableExpr y) τ = name_binds x y τ
  expr_binds (pattern.Unary op e) (Unary o d) τ = only_binds τ (expr_variables e) (w.unary.same op o) _ (expr_binds e d τ)
  expr_binds (pattern.Binary op e f) (Binary o c d) τ = only_binds τ (expr_variables e ++ expr_variables f) (w.binary.same op o) _ (then_binds τ (expr_variables e) (expr_variables f) _ _ (expr_binds e c τ) (λ υ. expr_binds f d υ))
  expr_binds (pattern.ReadField e n) (ReadField d a) τ = then_binds τ (expr_variables e) ((FieldKind, n) ∷ []) _ _ (expr_binds e d τ) (λ υ. bind_binds n (TheField a) υ)
  expr_binds (pattern.ReadElement e f) (ReadElement c d) τ = then_binds τ (expr_variables e) (expr_variables f) _ _ (expr_binds e c τ) (λ υ. expr_binds f d υ)
  expr_binds (pattern.LengthOf e) (LengthOf d) τ = expr_binds e d τ
  expr_binds (pattern.Cast k e) (Cast l d) τ = then_binds τ (kind_variables k) (expr_variables e) _ _ (kind_binds k l τ) (λ υ. expr_binds e d υ)
  expr_binds (pattern.InstanceOf k e) (InstanceOf l d) τ = then_binds τ (kind_variables k) (expr_variables e) _ _ (kind_binds k l τ) (λ υ. expr_binds e d υ)
  expr_binds p e τ = tt

  mutual
    stmt_binds : (p : StmtPattern) (s : Stmt) (τ : Bindings) → IfSome (match_stmt w p s τ) (Binds (stmt_variables p) τ)
    stmt_binds (pattern.ReturnVar n) s τ = only_binds τ ((ReturnKind, n) ∷ []) (is_return s) _ (bind_binds n (TheReturn s) τ)
    stmt_binds (pattern.BlockPast n m c) (Block l (Then (Break k) a)) τ = only_binds τ ((LabelKind, n) ∷ (LabelKind, m) ∷ code_variables c) (not (nat_eq k l)) _ (then_binds τ ((LabelKind, n) ∷ []) (((LabelKind, m) ∷ [] ++ code_variables c)) _ _ (bind_binds n (TheLabel l) τ) (λ υ. then_binds υ ((LabelKind, m) ∷ []) (code_variables c) _ _ (bind_binds m (TheLabel k) υ) (λ φ. code_binds c a φ)))
    stmt_binds (pattern.Set x e) (Set y d) τ = then_binds τ (name_variables x) (expr_variables e) _ _ (name_binds x y τ) (λ υ. expr_binds e d υ)
    stmt_binds (pattern.WriteField e n f) (WriteField c a d) τ = then_binds τ (expr_variables e) (((FieldKind, n) ∷ [] ++ expr_variables f)) _ _ (expr_binds e c τ) (λ υ. then_binds υ ((FieldKind, n) ∷ []) (expr_variables f) _ _ (bind_binds n (TheField a) υ) (λ φ. expr_binds f d φ))
    stmt_binds (pattern.WriteElement e f g) (WriteElement b c d) τ = then_binds τ (expr_variables e) ((expr_variables f ++ expr_variables g)) _ _ (expr_binds e b τ) (λ υ. then_binds υ (expr_variables f) (expr_variables g) _ _ (expr_binds f c υ) (λ φ. expr_binds g d φ))
    stmt_binds (pattern.Evaluate e) (Evaluate d) τ = expr_binds e d τ
    stmt_binds (pattern.If e c d) (If f a b) τ = then_binds τ (expr_variables e) ((code_variables c ++ code_variables d)) _ _ (expr_binds e f τ) (λ υ. then_binds υ (code_variables c) (code_variables d) _ _ (code_binds c a υ) (λ φ. code_binds d b φ))
    stmt_binds (pattern.Block n c) (Block l a) τ = then_binds τ ((LabelKind, n) ∷ []) (code_variables c) _ _ (bind_binds n (TheLabel l) τ) (λ υ. code_binds c a υ)
    stmt_binds (pattern.Break n) (Break l) τ = bind_binds n (TheLabel l) τ
    stmt_binds (pattern.Catch c x d) (Catch a y b) τ = then_binds τ (code_variables c) ((name_variables x ++ code_variables d)) _ _ (code_binds c a τ) (λ υ. then_binds υ (name_variables x) (code_variables d) _ _ (name_binds x y υ) (λ φ. code_binds d b φ))
    stmt_binds (pattern.Finally c d) (Finally a b) τ = then_binds τ (code_variables c) (code_variables d) _ _ (code_binds c a τ) (λ υ. code_binds d b υ)
    stmt_binds (pattern.Throw e) (Throw d) τ = expr_binds e d τ
    stmt_binds (pattern.ThrowUnchecked e) (ThrowUnchecked d) τ = expr_binds e d τ
    stmt_binds (pattern.Return e) (Return d) τ = expr_binds e d τ
    stmt_binds pattern.ReturnVoid ReturnVoid τ = stays τ
    stmt_binds (pattern.Frame r c) (Frame q a) τ = then_binds τ (result_variables r) (code_variables c) _ _ (result_binds r q τ) (λ υ. code_binds c a υ)
    stmt_binds (pattern.Raise c) (Raise a) τ = class_binds c a τ
    stmt_binds (pattern.NewArray x e) (NewArray y d) τ = then_binds τ (name_variables x) (expr_variables e) _ _ (name_binds x y τ) (λ υ. expr_binds e d υ)
    stmt_binds pattern.Stop Stop τ = stays τ
    stmt_binds p s τ = tt

    code_binds : (p : CodePattern) (c : PlainCode) (τ : Bindings) → IfSome (match_code w p c τ) (Binds (code_variables p) τ)
    code_binds (pattern.CodeThen n pattern.Done) c τ = bind_binds n (TheCode c) τ
    code_binds pattern.Done Done τ = stays τ
    code_binds (pattern.Then s c) (Then t d) τ = then_binds τ (stmt_variables s) (code_variables c) _ _ (stmt_binds s t τ) (λ υ. code_binds c d υ)
    code_binds p c τ = tt

  mutual
    pub term_binds : (p : TermPattern) (t : PlainTerm) (τ : Bindings) → IfSome (match_term w p t τ) (Binds (term_variables p) τ)
    term_binds (pattern.AnyTerm n) t τ = bind_binds n (TheTerm t) τ
    term_binds (pattern.TermOf s n) t τ = only_binds τ ((TermKind, n) ∷ []) (w.sort.same (sort_of_term t) s) _ (bind_binds n (TheTerm t) τ)
    term_binds (pattern.LiteralVar n) (Number z) τ = bind_binds n (TheLiteral z) τ
    term_binds (pattern.FieldVar n) (NamedField f) τ = bind_binds n (TheField f) τ
    term_binds (pattern.Given p) t τ = only_binds τ [] (w.term.same p t) _ (stays τ)
    term_binds (pattern.OnePart h p) t τ = on_binds τ (term_variables p) (part_of h t) _ (λ a. term_binds p a τ)
    term_binds (pattern.Arithmetic op p q) (Arithmetic o t u) τ = only_binds τ (term_variables p ++ term_variables q) (w.arithmetic.same op o) _ (then_binds τ (term_variables p) (term_variables q) _ _ (term_binds p t τ) (λ υ. term_binds q u υ))
    term_binds (pattern.Select s p q r) (Select k h o f) τ = then_binds τ (sort_variables s) ((term_variables p ++ (term_variables q ++ term_variables r))) _ _ (sort_binds s k τ) (λ υ. then_binds υ (term_variables p) ((term_variables q ++ term_variables r)) _ _ (term_binds p h υ) (λ φ. then_binds φ (term_variables q) (term_variables r) _ _ (term_binds q o φ) (λ ψ. term_binds r f ψ)))
    term_binds (pattern.Sum p q r) (Sum t u v) τ = then_binds τ (term_variables p) ((term_variables q ++ term_variables r)) _ _ (term_binds p t τ) (λ υ. then_binds υ (term_variables q) (term_variables r) _ _ (term_binds q u υ) (λ φ. term_binds r v φ))
    term_binds (pattern.Store p q r s) (Store h o f t) τ = then_binds τ (term_variables p) ((term_variables q ++ (term_variables r ++ term_variables s))) _ _ (term_binds p h τ) (λ υ. then_binds υ (term_variables q) ((term_variables r ++ term_variables s)) _ _ (term_binds q o υ) (λ φ. then_binds φ (term_variables r) (term_variables s) _ _ (term_binds r f φ) (λ ψ. term_binds s t ψ)))
    term_binds (pattern.Create p q) (Create h o) τ = then_binds τ (term_variables p) (term_variables q) _ _ (term_binds p h τ) (λ υ. term_binds q o υ)
    term_binds (pattern.Anon p l q) (Anon h m g) τ = then_binds τ (term_variables p) ((loc_variables l ++ term_variables q)) _ _ (term_binds p h τ) (λ υ. then_binds υ (loc_variables l) (term_variables q) _ _ (loc_binds l m υ) (λ φ. term_binds q g φ))
    term_binds p t τ = tt

    pub loc_binds : (p : LocPattern) (l : PlainLoc) (τ : Bindings) → IfSome (match_loc w p l τ) (Binds (loc_variables p) τ)
    loc_binds (pattern.LocVar n) l τ = bind_binds n (TheLocations l) τ
    loc_binds (pattern.OfObject h p) l τ = on_binds τ (term_variables p) (object_of h l) _ (λ a. term_binds p a τ)
    loc_binds pattern.NoLocations NoLocations τ = stays τ
    loc_binds pattern.AllLocations AllLocations τ = stays τ
    loc_binds (pattern.Single p q) (Single o f) τ = then_binds τ (term_variables p) (term_variables q) _ _ (term_binds p o τ) (λ υ. term_binds q f υ)
    loc_binds (pattern.ElementRange p q r) (ElementRange o t u) τ = then_binds τ (term_variables p) ((term_variables q ++ term_variables r)) _ _ (term_binds p o τ) (λ υ. then_binds υ (term_variables q) (term_variables r) _ _ (term_binds q t υ) (λ φ. term_binds r u φ))
    loc_binds (pattern.Union l k) (Union m n) τ = then_binds τ (loc_variables l) (loc_variables k) _ _ (loc_binds l m τ) (λ υ. loc_binds k n υ)
    loc_binds p l τ = tt

  pub formula_binds : (p : FormulaPattern) (a : PlainFormula) (τ : Bindings) → IfSome (match_formula w p a τ) (Binds (formula_variables p) τ)
  formula_binds (pattern.FormulaVar n) a τ = bind_binds n (TheFormula a) τ
  formula_binds (pattern.Connected h p q) f τ = on_binds τ (formula_variables p ++ formula_variables q) (sides_of h f) _ (λ a. then_binds τ (formula_variables p) (formula_variables q) _ _ (formula_binds p a.0 τ) (λ υ. formula_binds q a.1 υ))
  formula_binds (pattern.Compared h p q) f τ = on_binds τ (term_variables p ++ term_variables q) (terms_of h f) _ (λ a. then_binds τ (term_variables p) (term_variables q) _ _ (term_binds p a.0 τ) (λ υ. term_binds q a.1 υ))
  formula_binds (pattern.Quantified h s p) f τ = on_binds τ (sort_variables s ++ formula_variables p) (body_of h f) _ (λ a. then_binds τ (sort_variables s) (formula_variables p) _ _ (sort_binds s a.0 τ) (λ υ. formula_binds p a.1 υ))
  formula_binds (pattern.Tested h p) f τ = on_binds τ (term_variables p) (term_under h f) _ (λ a. term_binds p a τ)
  formula_binds (pattern.Classed h k p) f τ = on_binds τ (kind_variables k ++ term_variables p) (object_under h f) _ (λ a. then_binds τ (kind_variables k) (term_variables p) _ _ (kind_binds k a.0 τ) (λ υ. term_binds p a.1 υ))
  formula_binds (pattern.Focus n k (pattern.Then s pattern.Done) p) (Modal m d a) τ = then_binds τ ((ModalityKind, n) ∷ []) (((ContextKind, k) ∷ (stmt_variables s ++ []) ++ formula_variables p)) _ _ (bind_binds n (TheModality m) τ) (λ υ. then_binds υ ((ContextKind, k) ∷ (stmt_variables s ++ [])) (formula_variables p) _ _ (on_binds υ ((ContextKind, k) ∷ (stmt_variables s ++ [])) (first_in (sought s) d) _ (λ r. then_binds υ ((ContextKind, k) ∷ []) (stmt_variables s ++ []) _ _ (bind_binds k (TheContext r.0) υ) (λ χ. no_more χ (stmt_variables s) _ (stmt_binds s r.1 χ)))) (λ φ. formula_binds p a φ))
  formula_binds pattern.TrueFormula TrueFormula τ = stays τ
  formula_binds pattern.FalseFormula FalseFormula τ = stays τ
  formula_binds (pattern.Not p) (Not a) τ = formula_binds p a τ
  formula_binds (pattern.Modal m c p) (Modal n d a) τ = then_binds τ (modality_variables m) ((code_variables c ++ formula_variables p)) _ _ (modality_binds m n τ) (λ υ. then_binds υ (code_variables c) (formula_variables p) _ _ (code_binds c d υ) (λ φ. formula_binds p a φ))
  formula_binds (pattern.InLocations p q l) (InLocations o f m) τ = then_binds τ (term_variables p) ((term_variables q ++ loc_variables l)) _ _ (term_binds p o τ) (λ υ. then_binds υ (term_variables q) (loc_variables l) _ _ (term_binds q f υ) (λ φ. loc_binds l m φ))
  formula_binds p a τ = tt
