-- What is known is read from its text.
use Rattle.std.proofs.Common.{◌≡◌, ◌≢◌, List, [], ◌∷◌, true, false, Option, Some, None, option_map, refl, sym, ap, ◌∙◌, true≢false}
use Rattle.std.specs.Option.{option_and_then, option_or}
use Rattle.jd_base.specs.declared.sort.Sort.{Sort}
use Rattle.jd_base.specs.declared.sort.Sort.TheVariants.{Int as IntSort, Bool as BoolSort, Ref as RefSort, Heap as HeapSort, Field as FieldSort}
use Rattle.jd_syntax.specs.Codes as code
use Rattle.jd_syntax.specs.Codes.{Expr, Exprs, NoExprs, ExprThen, Stmt, PlainCode, Done, Then}
use Rattle.jd_syntax.specs.declared.code.UnaryOp.{UnaryOp}
use Rattle.jd_syntax.specs.declared.code.UnaryOp.TheVariants as unary
use Rattle.jd_syntax.specs.declared.code.BinaryOp.{BinaryOp}
use Rattle.jd_syntax.specs.declared.code.BinaryOp.TheVariants as binary
use Rattle.jd_term.specs.Terms as terms
use Rattle.jd_term.specs.Terms.{PlainTerm, PlainLoc}
use Rattle.jd_term.specs.Formulas as formulas
use Rattle.jd_term.specs.Formulas.{PlainFormula, Pairs}
use Rattle.jd_term.specs.declared.term.ArithmeticOp.{ArithmeticOp}
use Rattle.jd_term.specs.declared.term.ArithmeticOp.TheVariants as arithmetic
use Rattle.jd_term.specs.declared.formula.Modality.{Modality}
use Rattle.jd_term.specs.declared.formula.Modality.TheVariants as modalities
use Rattle.jd_tgrammar.specs.NameTables.{NameTable}
use Rattle.jd_tgrammar.specs.Spelling.{term_text, loc_text, expr_text, exprs_text, stmt_text, code_text, pairs_text, formula_text}
use Rattle.jd_tgrammar.specs.Words.{arithmetic_word, modality_word, unary_word, binary_word}
use Rattle.jd_tforms.specs.declared.heads.TermHead.TheVariants as term_kinds
use Rattle.jd_tforms.specs.declared.heads.FormulaHead.TheVariants as formula_kinds
use Rattle.jd_tforms.specs.declared.heads.ExprHead.TheVariants as expr_kinds
use Rattle.jd_tforms.specs.Heads.{head_of, term_word, term_heads, formula_word, formula_heads, expr_word, expr_heads}
use Rattle.jd_tforms.specs.Known.{TermKnown, LocKnown, ExprKnown, ExprsKnown, StmtKnown, CodeKnown, PairsKnown, FormulaKnown}
use Rattle.jd_tforms.specs.Naming.{variable_of}
use Rattle.jd_tforms.specs.Reading.{both, term_of, formula_of, operands, virtual_call, expr_of, all_pairs, read, reads}
use Rattle.jd_tforms.proofs.Somes.{both_is, three_is, four_is}

-- ---- the heads

arithmetic_head : (op : ArithmeticOp) → head_of term_word term_heads (arithmetic_word op) ≡ Some (term_kinds.Arithmetic op)
arithmetic_head arithmetic.Add = refl
arithmetic_head arithmetic.Subtract = refl
arithmetic_head arithmetic.Multiply = refl
arithmetic_head arithmetic.Divide = refl
arithmetic_head arithmetic.Remainder = refl

modal_head : (m : Modality) → head_of formula_word formula_heads (modality_word m) ≡ Some (formula_kinds.Modal m)
modal_head modalities.Necessity = refl
modal_head modalities.Possibility = refl

unary_head : (op : UnaryOp) → head_of expr_word expr_heads (unary_word op) ≡ Some (expr_kinds.Unary op)
unary_head unary.Negate = refl
unary_head unary.Invert = refl

binary_head : (op : BinaryOp) → head_of expr_word expr_heads (binary_word op) ≡ Some (expr_kinds.Binary op)
binary_head binary.Add = refl
binary_head binary.Subtract = refl
binary_head binary.Multiply = refl
binary_head binary.Divide = refl
binary_head binary.Remainder = refl
binary_head binary.Less = refl
binary_head binary.LessOrEqual = refl
binary_head binary.Greater = refl
binary_head binary.GreaterOrEqual = refl
binary_head binary.Equal = refl
binary_head binary.NotEqual = refl

-- ---- options

left_is : {A : Type 0} (a b : Option A) (t : A) → a ≡ Some t → option_or a b ≡ Some t
left_is a b t e = ap (λ o. option_or o b) e

right_is : {A : Type 0} (a b : Option A) (t : A) → a ≡ None → b ≡ Some t → option_or a b ≡ Some t
right_is a b t e g = ap (λ o. option_or o b) e ∙ g

no_second : {A B C : Type 0} (f : A → B → C) (a : Option A) → both f a None ≡ None
no_second f None = refl
no_second f (Some x) = refl

-- ---- terms and location sets

mutual
  pub term_complete : (names : NameTable) (ctx : List Sort) (t : PlainTerm) → TermKnown names ctx t → (read names (term_text names t)).term ctx ≡ Some t
  term_complete names ctx (terms.Number z) k = k
  term_complete names ctx (terms.Boolean true) k = refl
  term_complete names ctx (terms.Boolean false) k = refl
  term_complete names ctx terms.NullTerm k = refl
  term_complete names ctx (terms.ProgramVariable x) k = k
  term_complete names ctx (terms.Constant c) k = k
  term_complete names ctx (terms.Bound n s) k = k
  term_complete names ctx (terms.Arithmetic op t u) k = ap (λ h. term_of names ctx h (read names (term_text names t) ∷ read names (term_text names u) ∷ [])) (arithmetic_head op) ∙ both_is (terms.Arithmetic op) _ _ t u (term_complete names ctx t k.0) (term_complete names ctx u k.1)
  term_complete names ctx (terms.Negation t) k = ap (option_map terms.Negation) (term_complete names ctx t k)
  term_complete names ctx (terms.Wrap t) k = ap (option_map terms.Wrap) (term_complete names ctx t k)
  term_complete names ctx (terms.Length t) k = ap (option_map terms.Length) (term_complete names ctx t k)
  term_complete names ctx (terms.Select IntSort t u v) k = three_is (terms.Select IntSort) _ _ _ t u v (term_complete names ctx t k.1) (term_complete names ctx u k.2) (term_complete names ctx v k.3)
  term_complete names ctx (terms.Select BoolSort t u v) k = three_is (terms.Select BoolSort) _ _ _ t u v (term_complete names ctx t k.1) (term_complete names ctx u k.2) (term_complete names ctx v k.3)
  term_complete names ctx (terms.Select RefSort t u v) k = three_is (terms.Select RefSort) _ _ _ t u v (term_complete names ctx t k.1) (term_complete names ctx u k.2) (term_complete names ctx v k.3)
  term_complete names ctx (terms.Select HeapSort t u v) k = absurd (true≢false (sym k.0))
  term_complete names ctx (terms.Select FieldSort t u v) k = absurd (true≢false (sym k.0))
  term_complete names ctx (terms.Sum t u v) k = three_is terms.Sum _ _ _ t u v (term_complete names ctx t k.0) (term_complete names ctx u k.1) (term_complete names (IntSort ∷ ctx) v k.2)
  term_complete names ctx (terms.Store t u v w) k = four_is terms.Store _ _ _ _ t u v w (term_complete names ctx t k.0) (term_complete names ctx u k.1) (term_complete names ctx v k.2) (term_complete names ctx w k.3)
  term_complete names ctx (terms.Create t u) k = both_is terms.Create _ _ t u (term_complete names ctx t k.0) (term_complete names ctx u k.1)
  term_complete names ctx (terms.Anon t u v) k = three_is terms.Anon _ _ _ t u v (term_complete names ctx t k.0) (loc_complete names ctx u k.1) (term_complete names ctx v k.2)
  term_complete names ctx (terms.NamedField f) k = k
  term_complete names ctx terms.CreatedField k = refl
  term_complete names ctx (terms.ElementField t) k = ap (option_map terms.ElementField) (term_complete names ctx t k)

  pub loc_complete : (names : NameTable) (ctx : List Sort) (l : PlainLoc) → LocKnown names ctx l → (read names (loc_text names l)).loc ctx ≡ Some l
  loc_complete names ctx terms.NoLocations k = refl
  loc_complete names ctx terms.AllLocations k = refl
  loc_complete names ctx (terms.Single t u) k = both_is terms.Single _ _ t u (term_complete names ctx t k.0) (term_complete names ctx u k.1)
  loc_complete names ctx (terms.ObjectFields t) k = ap (option_map terms.ObjectFields) (term_complete names ctx t k)
  loc_complete names ctx (terms.ArrayElements t) k = ap (option_map terms.ArrayElements) (term_complete names ctx t k)
  loc_complete names ctx (terms.ElementRange t u v) k = three_is terms.ElementRange _ _ _ t u v (term_complete names ctx t k.0) (term_complete names ctx u k.1) (term_complete names ctx v k.2)
  loc_complete names ctx (terms.Union t u) k = both_is terms.Union _ _ t u (loc_complete names ctx t k.0) (loc_complete names ctx u k.1)

-- ---- code

mutual
  pub expr_complete : (names : NameTable) (e : Expr) → ExprKnown names e → (read names (expr_text names e)).expr ≡ Some e
  expr_complete names (code.IntLiteral z) k = k
  expr_complete names (code.BoolLiteral true) k = refl
  expr_complete names (code.BoolLiteral false) k = refl
  expr_complete names code.NullLiteral k = refl
  expr_complete names (code.Variable x) k = k
  expr_complete names (code.Unary op t) k = ap (λ h. expr_of names h (read names (expr_text names t) ∷ [])) (unary_head op) ∙ ap (option_map (code.Unary op)) (expr_complete names t k)
  expr_complete names (code.Binary op t u) k = ap (λ h. expr_of names h (read names (expr_text names t) ∷ read names (expr_text names u) ∷ [])) (binary_head op) ∙ both_is (code.Binary op) _ _ t u (expr_complete names t k.0) (expr_complete names u k.1)
  expr_complete names (code.AndAlso t u) k = both_is code.AndAlso _ _ t u (expr_complete names t k.0) (expr_complete names u k.1)
  expr_complete names (code.OrElse t u) k = both_is code.OrElse _ _ t u (expr_complete names t k.0) (expr_complete names u k.1)
  expr_complete names (code.Conditional t u v) k = three_is code.Conditional _ _ _ t u v (expr_complete names t k.0) (expr_complete names u k.1) (expr_complete names v k.2)
  expr_complete names (code.ReadField t u) k = both_is code.ReadField _ _ t u (expr_complete names t k.0) k.1
  expr_complete names (code.ReadElement t u) k = both_is code.ReadElement _ _ t u (expr_complete names t k.0) (expr_complete names u k.1)
  expr_complete names (code.LengthOf t) k = ap (option_map code.LengthOf) (expr_complete names t k)
  expr_complete names (code.Cast t u) k = both_is code.Cast _ _ t u k.0 (expr_complete names u k.1)
  expr_complete names (code.InstanceOf t u) k = both_is code.InstanceOf _ _ t u k.0 (expr_complete names u k.1)
  expr_complete names (code.VirtualCall c m t u) k = three_is (virtual_call names) _ _ _ (c, m) t u k.0 (expr_complete names t k.1) (operands_complete names u k.2)
  expr_complete names (code.StaticCall m u) k = both_is code.StaticCall _ _ m u k.0 (operands_complete names u k.1)
  expr_complete names (code.ConstructorCall m t u) k = three_is code.ConstructorCall _ _ _ m t u k.0 (expr_complete names t k.1) (operands_complete names u k.2)
  expr_complete names (code.DoThen t u) k = both_is code.DoThen _ _ t u (code_complete names t k.0) (expr_complete names u k.1)

  operands_complete : (names : NameTable) (es : Exprs) → ExprsKnown names es → operands names (reads names (exprs_text names es)) ≡ Some es
  operands_complete names NoExprs k = refl
  operands_complete names (ExprThen e es) k = both_is ExprThen _ _ e es (expr_complete names e k.0) (operands_complete names es k.1)

  stmt_complete : (names : NameTable) (s : Stmt) → StmtKnown names s → (read names (stmt_text names s)).stmt ≡ Some s
  stmt_complete names (code.Set t u) k = both_is code.Set _ _ t u k.0 (expr_complete names u k.1)
  stmt_complete names (code.WriteField t u v) k = three_is code.WriteField _ _ _ t u v (expr_complete names t k.0) k.1 (expr_complete names v k.2)
  stmt_complete names (code.WriteElement t u v) k = three_is code.WriteElement _ _ _ t u v (expr_complete names t k.0) (expr_complete names u k.1) (expr_complete names v k.2)
  stmt_complete names (code.Evaluate t) k = ap (option_map code.Evaluate) (expr_complete names t k)
  stmt_complete names (code.If t u v) k = three_is code.If _ _ _ t u v (expr_complete names t k.0) (code_complete names u k.1) (code_complete names v k.2)
  stmt_complete names (code.While t u v) k = three_is code.While _ _ _ t u v k.0 (expr_complete names u k.1) (code_complete names v k.2)
  stmt_complete names (code.Block t u) k = both_is code.Block _ _ t u k.0 (code_complete names u k.1)
  stmt_complete names (code.Break t) k = ap (option_map code.Break) k
  stmt_complete names (code.Catch t u v) k = three_is code.Catch _ _ _ t u v (code_complete names t k.0) k.1 (code_complete names v k.2)
  stmt_complete names (code.Finally t u) k = both_is code.Finally _ _ t u (code_complete names t k.0) (code_complete names u k.1)
  stmt_complete names (code.Throw t) k = ap (option_map code.Throw) (expr_complete names t k)
  stmt_complete names (code.ThrowUnchecked t) k = ap (option_map code.ThrowUnchecked) (expr_complete names t k)
  stmt_complete names (code.Return t) k = left_is _ _ (code.Return t) (ap (option_map code.Return) (expr_complete names t k))
  stmt_complete names code.ReturnVoid k = refl
  stmt_complete names (code.Frame t u) k = both_is code.Frame _ _ t u k.0 (code_complete names u k.1)
  stmt_complete names (code.Raise t) k = ap (option_map code.Raise) k
  stmt_complete names (code.AllocObject x c) k = left_is _ _ (code.AllocObject x c) (both_is code.AllocObject _ _ x c k.0 k.1)
  stmt_complete names (code.AllocArray x e) k = right_is _ _ (code.AllocArray x e) (no_second code.AllocObject (variable_of names x.text)) (both_is code.AllocArray _ _ x e k.0 (expr_complete names e k.1))
  stmt_complete names (code.NewArray t u) k = both_is code.NewArray _ _ t u k.0 (expr_complete names u k.1)
  stmt_complete names code.Stop k = refl

  code_complete : (names : NameTable) (ss : PlainCode) → CodeKnown names ss → (read names (code_text names ss)).code ≡ Some ss
  code_complete names Done k = refl
  code_complete names (Then s ss) k = both_is Then _ _ s ss (stmt_complete names s k.0) (code_complete names ss k.1)

-- ---- formulas

all_pairs_complete : (names : NameTable) (ctx : List Sort) (ps : Pairs) → PairsKnown names ctx ps → all_pairs names ctx (reads names (pairs_text names ps)) ≡ Some ps
all_pairs_complete names ctx [] k = refl
all_pairs_complete names ctx (p ∷ ps) k =
    both_is (λ q qs. q ∷ qs) _ _ p ps (both_is (λ x t. (x, t)) _ _ p.0 p.1 k.0.0 (term_complete names ctx p.1 k.0.1)) (all_pairs_complete names ctx ps k.1)

pairs_complete : (names : NameTable) (ctx : List Sort) (ps : Pairs) → ps ≢ [] → PairsKnown names ctx ps → (read names (Rattle.jd_syntax.specs.Sxs.Brackets (pairs_text names ps))).pairs ctx ≡ Some ps
pairs_complete names ctx [] n k = absurd (n refl)
pairs_complete names ctx (p ∷ ps) n k = all_pairs_complete names ctx (p ∷ ps) k

pub formula_complete : (names : NameTable) (ctx : List Sort) (a : PlainFormula) → FormulaKnown names ctx a → (read names (formula_text names a)).formula ctx ≡ Some a
formula_complete names ctx formulas.TrueFormula k = refl
formula_complete names ctx formulas.FalseFormula k = refl
formula_complete names ctx (formulas.Not t) k = ap (option_map formulas.Not) (formula_complete names ctx t k)
formula_complete names ctx (formulas.And t u) k = both_is formulas.And _ _ t u (formula_complete names ctx t k.0) (formula_complete names ctx u k.1)
formula_complete names ctx (formulas.Or t u) k = both_is formulas.Or _ _ t u (formula_complete names ctx t k.0) (formula_complete names ctx u k.1)
formula_complete names ctx (formulas.Implies t u) k = both_is formulas.Implies _ _ t u (formula_complete names ctx t k.0) (formula_complete names ctx u k.1)
formula_complete names ctx (formulas.Iff t u) k = both_is formulas.Iff _ _ t u (formula_complete names ctx t k.0) (formula_complete names ctx u k.1)
formula_complete names ctx (formulas.Equal t u) k = both_is formulas.Equal _ _ t u (term_complete names ctx t k.0) (term_complete names ctx u k.1)
formula_complete names ctx (formulas.Less t u) k = both_is formulas.Less _ _ t u (term_complete names ctx t k.0) (term_complete names ctx u k.1)
formula_complete names ctx (formulas.LessOrEqual t u) k = both_is formulas.LessOrEqual _ _ t u (term_complete names ctx t k.0) (term_complete names ctx u k.1)
formula_complete names ctx (formulas.Forall s a) k = ap (option_and_then (λ r. option_map (formulas.Forall r) ((read names (formula_text names a)).formula (r ∷ ctx)))) k.0 ∙ ap (option_map (formulas.Forall s)) (formula_complete names (s ∷ ctx) a k.1)
formula_complete names ctx (formulas.Exists s a) k = ap (option_and_then (λ r. option_map (formulas.Exists r) ((read names (formula_text names a)).formula (r ∷ ctx)))) k.0 ∙ ap (option_map (formulas.Exists s)) (formula_complete names (s ∷ ctx) a k.1)
formula_complete names ctx (formulas.Updated t u) k = both_is formulas.Updated _ _ t u (pairs_complete names ctx t k.0 k.1) (formula_complete names ctx u k.2)
formula_complete names ctx (formulas.Modal m ss a) k = ap (λ h. formula_of names ctx h (read names (code_text names ss) ∷ read names (formula_text names a) ∷ [])) (modal_head m) ∙ both_is (formulas.Modal m) _ _ ss a (code_complete names ss k.0) (formula_complete names ctx a k.1)
formula_complete names ctx (formulas.InLocations t u v) k = three_is formulas.InLocations _ _ _ t u v (term_complete names ctx t k.0) (term_complete names ctx u k.1) (loc_complete names ctx v k.2)
formula_complete names ctx (formulas.InInt t) k = ap (option_map formulas.InInt) (term_complete names ctx t k)
formula_complete names ctx (formulas.WellFormed t) k = ap (option_map formulas.WellFormed) (term_complete names ctx t k)
formula_complete names ctx (formulas.Invariant t u) k = both_is formulas.Invariant _ _ t u (term_complete names ctx t k.0) (term_complete names ctx u k.1)
formula_complete names ctx (formulas.IsInstance t u) k = both_is formulas.IsInstance _ _ t u k.0 (term_complete names ctx u k.1)
formula_complete names ctx (formulas.IsExactInstance t u) k = both_is formulas.IsExactInstance _ _ t u k.0 (term_complete names ctx u k.1)
