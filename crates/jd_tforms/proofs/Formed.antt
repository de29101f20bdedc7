-- What is known has a form at its place.
use Rattle.std.proofs.Common.{◌≡◌, ◌≢◌, ℕ, List, [], ◌∷◌, Bool, true, false, ◌&&◌, ◌||◌, Option, Some, None, option_map, codes, refl, sym, ap, subst, true≢false}
use Rattle.std.specs.Option.{is_some}
use Rattle.std.specs.Str.{bytes_eq}
use Rattle.jd_base.specs.declared.sort.Sort.{Sort}
use Rattle.jd_base.specs.declared.sort.Sort.TheVariants.{Int as IntSort, Bool as BoolSort, Ref as RefSort, Heap as HeapSort, Field as FieldSort}
use Rattle.jd_syntax.specs.Names.{Name}
use Rattle.jd_syntax.specs.Sxs.{Bracketed, Atom, Brackets}
use Rattle.jd_syntax.specs.Codes as code
use Rattle.jd_syntax.specs.Codes.{PlainKind, OfClass, IntArray, Expr, Exprs, NoExprs, ExprThen, Stmt, PlainCode, Done, Then}
use Rattle.jd_syntax.specs.declared.code.UnaryOp.{UnaryOp}
use Rattle.jd_syntax.specs.declared.code.UnaryOp.TheVariants as unary
use Rattle.jd_syntax.specs.declared.code.BinaryOp.{BinaryOp}
use Rattle.jd_syntax.specs.declared.code.BinaryOp.TheVariants as binary
use Rattle.jd_term.specs.Terms as terms
use Rattle.jd_term.specs.Terms.{PlainTerm, PlainLoc}
use Rattle.jd_term.specs.Formulas as formulas
use Rattle.jd_term.specs.Formulas.{PlainFormula, Pairs}
use Rattle.jd_term.specs.declared.term.ArithmeticOp.{ArithmeticOp}
use Rattle.jd_term.specs.declared.term.ArithmeticOp.TheVariants as arithmetic
use Rattle.jd_term.specs.declared.formula.Modality.{Modality}
use Rattle.jd_term.specs.declared.formula.Modality.TheVariants as modalities
use Rattle.jd_written.specs.Written.{number_text}
use Rattle.jd_tgrammar.specs.NameTables.{NameTable}
use Rattle.jd_tgrammar.specs.Spelling.{class_word, field_word, kind_word, method_word, result_word, routine, form, one, two, term_text, loc_text, expr_text, exprs_text, stmt_text, stmts_text, code_text, pairs_text, formula_text}
use Rattle.jd_tgrammar.specs.Words.{arithmetic_word, modality_word, unary_word, binary_word, sort_word, truth_word, array_word, label_word}
use Rattle.jd_tforms.specs.Forms.{TermPlace, LocPlace, FormulaPlace, ExprPlace, StmtPlace, CodePlace, PairsPlace, PairPlace, SortPlace, KindPlace, ResultPlace}
use Rattle.jd_tforms.specs.HasForm.{has_form, have_forms, word_fits}
use Rattle.jd_tforms.specs.Known.{TermKnown, LocKnown, ExprKnown, ExprsKnown, StmtKnown, CodeKnown, PairsKnown, FormulaKnown}
use Rattle.jd_tforms.specs.Naming.{at_number, if_word, class_of, kind_of, field_of, static_of, constructor_of, method_of, variable_of, result_of, constant_of, bound_of, truth_of, sort_of_word, word_term, word_expr}
use Rattle.jd_tforms.specs.Shapes.{is_name, bound_number, integer_of, loop_of, label_of, wide, narrow}
use Rattle.jd_tforms.proofs.Somes.{mapped, chained, either, guarded, word_is}
use Rattle.jd_tforms.proofs.Words.{truth_is}

-- ---- tests

and_holds : (a b : Bool) → a ≡ true → b ≡ true → (a && b) ≡ true
and_holds true b e g = g
and_holds false b e g = e

both_hold : {a b : Bool} → a ≡ true → b ≡ true → (a && b) ≡ true
both_hold {a} {b} e g = and_holds a b e g

first_holds : (a b : Bool) → a ≡ true → (a || b) ≡ true
first_holds true b e = refl
first_holds false b e = absurd (true≢false (sym e))

second_holds : (a b : Bool) → b ≡ true → (a || b) ≡ true
second_holds true b e = refl
second_holds false b e = e

is_there : {A : Type 0} (o : Option A) (x : A) → o ≡ Some x → is_some o ≡ true
is_there o x e = ap is_some e

-- ---- words

module _ (names : NameTable) where
  field_name : (w : List ℕ) (f : ℕ) → field_of names w ≡ Some f → is_name w ≡ true
  field_name w f e = (guarded (is_name w) _ f e).0

  class_name : (w : List ℕ) (c : ℕ) → class_of names w ≡ Some c → is_name w ≡ true
  class_name w c e = (guarded (is_name w) _ c e).0

  static_name : (w : List ℕ) (m : ℕ) → static_of names w ≡ Some m → is_name w ≡ true
  static_name w m e = (guarded (is_name w) _ m e).0

  constructor_name : (w : List ℕ) (m : ℕ) → constructor_of names w ≡ Some m → is_name w ≡ true
  constructor_name w m e = (guarded (is_name w) _ m e).0

  method_name : (w : List ℕ) (cm : ℕ × ℕ) → method_of names w ≡ Some cm → is_name w ≡ true
  method_name w cm e = (guarded (is_name w) _ cm e).0

  variable_name : (w : List ℕ) (x : Name) → variable_of names w ≡ Some x → is_name w ≡ true
  variable_name w x e = (guarded (is_name w) _ x e).0

  kind_formed : (w : List ℕ) (k : PlainKind) → kind_of names w ≡ Some k → word_fits KindPlace w ≡ true
  kind_formed w k e = either (if_word array_word IntArray w) (option_map OfClass (class_of names w)) k e
      (λ is. first_holds (bytes_eq array_word w) (is_name w) ((guarded (bytes_eq array_word w) (Some IntArray) k is).0))
      (λ is. second_holds (bytes_eq array_word w) (is_name w) (mapped (λ j. is_name w ≡ true) OfClass (class_of names w) k is (λ c this. class_name w c this)))

  result_formed : (w : List ℕ) (r : Option Name) → result_of names w ≡ Some r → word_fits ResultPlace w ≡ true
  result_formed w r e = either (if_word (codes "-") None w) (option_map Some (variable_of names w)) r e
      (λ is. first_holds (bytes_eq (codes "-") w) (is_name w) ((guarded (bytes_eq (codes "-") w) (Some None) r is).0))
      (λ is. second_holds (bytes_eq (codes "-") w) (is_name w) (mapped (λ q. is_name w ≡ true) Some (variable_of names w) r is (λ x this. variable_name w x this)))

  truth_name : (w : List ℕ) (b : Bool) → truth_of w ≡ Some b → is_name w ≡ true
  truth_name w b e = subst (λ v. is_name v ≡ true) (truth_is w b e) (by b)
    where
      by : (c : Bool) → is_name (truth_word c) ≡ true
      by true = refl
      by false = refl

  bound_formed : (ctx : List Sort) (w : List ℕ) (t : PlainTerm) → bound_of ctx w ≡ Some t → is_some (bound_number w) ≡ true
  bound_formed ctx w t e = let h = chained (λ k. option_map (terms.Bound k) (at_number ctx k)) (bound_number w) t e in is_there (bound_number w) h.0 h.1

  name_fits : (w : List ℕ) → is_name w ≡ true → word_fits TermPlace w ≡ true
  name_fits w n = first_holds (is_some (integer_of wide w) || is_name w) (is_some (bound_number w)) (second_holds (is_some (integer_of wide w)) (is_name w) n)

  name_in_code : (w : List ℕ) → is_name w ≡ true → word_fits ExprPlace w ≡ true
  name_in_code w n = second_holds (is_some (integer_of narrow w)) (is_name w) n

  word_term_formed : (ctx : List Sort) (w : List ℕ) (t : PlainTerm) → word_term names ctx w ≡ Some t → word_fits TermPlace w ≡ true
  word_term_formed ctx w t e = either _ _ t e
      (λ is. mapped (λ u. word_fits TermPlace w ≡ true) terms.Boolean (truth_of w) t is (λ b this. name_fits w (truth_name w b this)))
      (λ e1. either _ _ t e1
      (λ is. subst (λ v. word_fits TermPlace v ≡ true) (word_is (codes "null") terms.NullTerm w t is).0 (name_fits (codes "null") refl))
      (λ e2. either _ _ t e2
      (λ is. subst (λ v. word_fits TermPlace v ≡ true) (word_is (codes "created") terms.CreatedField w t is).0 (name_fits (codes "created") refl))
      (λ e3. either _ _ t e3
      (λ is. mapped (λ u. word_fits TermPlace w ≡ true) terms.Number (integer_of wide w) t is (λ z this. first_holds (is_some (integer_of wide w) || is_name w) (is_some (bound_number w)) (first_holds (is_some (integer_of wide w)) (is_name w) (is_there (integer_of wide w) z this))))
      (λ e4. either _ _ t e4
      (λ is. second_holds (is_some (integer_of wide w) || is_name w) (is_some (bound_number w)) (bound_formed ctx w t is))
      (λ e5. either _ _ t e5
      (λ is. mapped (λ u. word_fits TermPlace w ≡ true) terms.Constant (constant_of w) t is (λ c this. name_fits w ((guarded (is_name w) _ c this).0)))
      (λ e6. either _ _ t e6
      (λ is. mapped (λ u. word_fits TermPlace w ≡ true) terms.ProgramVariable (variable_of names w) t is (λ x this. name_fits w (variable_name w x this)))
      (λ is. mapped (λ u. word_fits TermPlace w ≡ true) terms.NamedField (field_of names w) t is (λ f this. name_fits w (field_name w f this)))))))))

  word_expr_formed : (w : List ℕ) (t : Expr) → word_expr names w ≡ Some t → word_fits ExprPlace w ≡ true
  word_expr_formed w t e = either _ _ t e
      (λ is. mapped (λ u. word_fits ExprPlace w ≡ true) code.BoolLiteral (truth_of w) t is (λ b this. name_in_code w (truth_name w b this)))
      (λ e1. either _ _ t e1
      (λ is. subst (λ v. word_fits ExprPlace v ≡ true) (word_is (codes "null") code.NullLiteral w t is).0 (name_in_code (codes "null") refl))
      (λ e2. either _ _ t e2
      (λ is. mapped (λ u. word_fits ExprPlace w ≡ true) code.IntLiteral (integer_of narrow w) t is (λ z this. first_holds (is_some (integer_of narrow w)) (is_name w) (is_there (integer_of narrow w) z this)))
      (λ is. mapped (λ u. word_fits ExprPlace w ≡ true) code.Variable (variable_of names w) t is (λ x this. name_in_code w (variable_name w x this)))))

sort_formed : (s : Sort) → sort_of_word (sort_word s) ≡ Some s → word_fits SortPlace (sort_word s) ≡ true
sort_formed s e = is_there (sort_of_word (sort_word s)) s e

-- ---- rows, whatever operator begins them

arithmetic_formed : (op : ArithmeticOp) (x y : Bracketed) → has_form x TermPlace ≡ true → has_form y TermPlace ≡ true → has_form (form (arithmetic_word op) (two x y)) TermPlace ≡ true
arithmetic_formed arithmetic.Add x y e g = first_holds _ _ (both_hold e (both_hold g refl))
arithmetic_formed arithmetic.Subtract x y e g = first_holds _ _ (both_hold e (both_hold g refl))
arithmetic_formed arithmetic.Multiply x y e g = first_holds _ _ (both_hold e (both_hold g refl))
arithmetic_formed arithmetic.Divide x y e g = first_holds _ _ (both_hold e (both_hold g refl))
arithmetic_formed arithmetic.Remainder x y e g = first_holds _ _ (both_hold e (both_hold g refl))

modal_formed : (m : Modality) (x y : Bracketed) → has_form x CodePlace ≡ true → has_form y FormulaPlace ≡ true → has_form (form (modality_word m) (two x y)) FormulaPlace ≡ true
modal_formed modalities.Necessity x y e g = first_holds _ _ (both_hold e (both_hold g refl))
modal_formed modalities.Possibility x y e g = first_holds _ _ (both_hold e (both_hold g refl))

unary_formed : (op : UnaryOp) (x : Bracketed) → has_form x ExprPlace ≡ true → has_form (form (unary_word op) (one x)) ExprPlace ≡ true
unary_formed unary.Negate x e = first_holds _ _ (both_hold e refl)
unary_formed unary.Invert x e = first_holds _ _ (both_hold e refl)

binary_formed : (op : BinaryOp) (x y : Bracketed) → has_form x ExprPlace ≡ true → has_form y ExprPlace ≡ true → has_form (form (binary_word op) (two x y)) ExprPlace ≡ true
binary_formed binary.Add x y e g = first_holds _ _ (both_hold e (both_hold g refl))
binary_formed binary.Subtract x y e g = first_holds _ _ (both_hold e (both_hold g refl))
binary_formed binary.Multiply x y e g = first_holds _ _ (both_hold e (both_hold g refl))
binary_formed binary.Divide x y e g = first_holds _ _ (both_hold e (both_hold g refl))
binary_formed binary.Remainder x y e g = first_holds _ _ (both_hold e (both_hold g refl))
binary_formed binary.Less x y e g = first_holds _ _ (both_hold e (both_hold g refl))
binary_formed binary.LessOrEqual x y e g = first_holds _ _ (both_hold e (both_hold g refl))
binary_formed binary.Greater x y e g = first_holds _ _ (both_hold e (both_hold g refl))
binary_formed binary.GreaterOrEqual x y e g = first_holds _ _ (both_hold e (both_hold g refl))
binary_formed binary.Equal x y e g = first_holds _ _ (both_hold e (both_hold g refl))
binary_formed binary.NotEqual x y e g = first_holds _ _ (both_hold e (both_hold g refl))

-- ---- terms and location sets

mutual
  pub term_formed : (names : NameTable) (ctx : List Sort) (t : PlainTerm) → TermKnown names ctx t → has_form (term_text names t) TermPlace ≡ true
  term_formed names ctx (terms.Number z) k = word_term_formed names ctx (Rattle.jd_written.specs.Written.integer_text z) (terms.Number z) k
  term_formed names ctx (terms.ProgramVariable x) k = word_term_formed names ctx x.text (terms.ProgramVariable x) k
  term_formed names ctx (terms.Constant c) k = word_term_formed names ctx c.text (terms.Constant c) k
  term_formed names ctx (terms.Bound n s) k = word_term_formed names ctx (Rattle.jd_tgrammar.specs.Words.bound_word n) (terms.Bound n s) k
  term_formed names ctx (terms.NamedField f) k = word_term_formed names ctx (field_word names f) (terms.NamedField f) k
  term_formed names ctx (terms.Boolean true) k = name_fits names (codes "true") refl
  term_formed names ctx (terms.Boolean false) k = name_fits names (codes "false") refl
  term_formed names ctx terms.NullTerm k = name_fits names (codes "null") refl
  term_formed names ctx terms.CreatedField k = name_fits names (codes "created") refl
  term_formed names ctx (terms.Arithmetic op t u) k = arithmetic_formed op (term_text names t) (term_text names u) (term_formed names ctx t k.0) (term_formed names ctx u k.1)
  term_formed names ctx (terms.Negation t) k = first_holds _ _ (both_hold (term_formed names ctx t k) refl)
  term_formed names ctx (terms.Wrap t) k = first_holds _ _ (both_hold (term_formed names ctx t k) refl)
  term_formed names ctx (terms.Length t) k = first_holds _ _ (both_hold (term_formed names ctx t k) refl)
  term_formed names ctx (terms.ElementField t) k = first_holds _ _ (both_hold (term_formed names ctx t k) refl)
  term_formed names ctx (terms.Select IntSort t u v) k = first_holds _ _ (both_hold (term_formed names ctx t k.1) (both_hold (term_formed names ctx u k.2) (both_hold (term_formed names ctx v k.3) refl)))
  term_formed names ctx (terms.Select BoolSort t u v) k = first_holds _ _ (both_hold (term_formed names ctx t k.1) (both_hold (term_formed names ctx u k.2) (both_hold (term_formed names ctx v k.3) refl)))
  term_formed names ctx (terms.Select RefSort t u v) k = first_holds _ _ (both_hold (term_formed names ctx t k.1) (both_hold (term_formed names ctx u k.2) (both_hold (term_formed names ctx v k.3) refl)))
  term_formed names ctx (terms.Select HeapSort t u v) k = absurd (true≢false (sym k.0))
  term_formed names ctx (terms.Select FieldSort t u v) k = absurd (true≢false (sym k.0))
  term_formed names ctx (terms.Sum t u v) k = first_holds _ _ (both_hold (term_formed names ctx t k.0) (both_hold (term_formed names ctx u k.1) (both_hold (term_formed names (IntSort ∷ ctx) v k.2) refl)))
  term_formed names ctx (terms.Store t u v w) k = first_holds _ _ (both_hold (term_formed names ctx t k.0) (both_hold (term_formed names ctx u k.1) (both_hold (term_formed names ctx v k.2) (both_hold (term_formed names ctx w k.3) refl))))
  term_formed names ctx (terms.Create t u) k = first_holds _ _ (both_hold (term_formed names ctx t k.0) (both_hold (term_formed names ctx u k.1) refl))
  term_formed names ctx (terms.Anon t u v) k = first_holds _ _ (both_hold (term_formed names ctx t k.0) (both_hold (loc_formed names ctx u k.1) (both_hold (term_formed names ctx v k.2) refl)))

  loc_formed : (names : NameTable) (ctx : List Sort) (l : PlainLoc) → LocKnown names ctx l → has_form (loc_text names l) LocPlace ≡ true
  loc_formed names ctx terms.NoLocations k = refl
  loc_formed names ctx terms.AllLocations k = refl
  loc_formed names ctx (terms.Single t u) k = first_holds _ _ (both_hold (term_formed names ctx t k.0) (both_hold (term_formed names ctx u k.1) refl))
  loc_formed names ctx (terms.ObjectFields t) k = first_holds _ _ (both_hold (term_formed names ctx t k) refl)
  loc_formed names ctx (terms.ArrayElements t) k = first_holds _ _ (both_hold (term_formed names ctx t k) refl)
  loc_formed names ctx (terms.ElementRange t u v) k = first_holds _ _ (both_hold (term_formed names ctx t k.0) (both_hold (term_formed names ctx u k.1) (both_hold (term_formed names ctx v k.2) refl)))
  loc_formed names ctx (terms.Union t u) k = first_holds _ _ (both_hold (loc_formed names ctx t k.0) (both_hold (loc_formed names ctx u k.1) refl))

-- ---- code

mutual
  expr_formed : (names : NameTable) (e : Expr) → ExprKnown names e → has_form (expr_text names e) ExprPlace ≡ true
  expr_formed names (code.IntLiteral z) k = word_expr_formed names (Rattle.jd_written.specs.Written.integer_text z) (code.IntLiteral z) k
  expr_formed names (code.Variable x) k = word_expr_formed names x.text (code.Variable x) k
  expr_formed names (code.BoolLiteral true) k = name_in_code names (codes "true") refl
  expr_formed names (code.BoolLiteral false) k = name_in_code names (codes "false") refl
  expr_formed names code.NullLiteral k = name_in_code names (codes "null") refl
  expr_formed names (code.Unary op t) k = unary_formed op (expr_text names t) (expr_formed names t k)
  expr_formed names (code.Binary op t u) k = binary_formed op (expr_text names t) (expr_text names u) (expr_formed names t k.0) (expr_formed names u k.1)
  expr_formed names (code.AndAlso t u) k = first_holds _ _ (both_hold (expr_formed names t k.0) (both_hold (expr_formed names u k.1) refl))
  expr_formed names (code.OrElse t u) k = first_holds _ _ (both_hold (expr_formed names t k.0) (both_hold (expr_formed names u k.1) refl))
  expr_formed names (code.Conditional t u v) k = first_holds _ _ (both_hold (expr_formed names t k.0) (both_hold (expr_formed names u k.1) (both_hold (expr_formed names v k.2) refl)))
  expr_formed names (code.ReadField t u) k = first_holds _ _ (both_hold (expr_formed names t k.0) (both_hold (field_name names (field_word names u) u k.1) refl))
  expr_formed names (code.ReadElement t u) k = first_holds _ _ (both_hold (expr_formed names t k.0) (both_hold (expr_formed names u k.1) refl))
  expr_formed names (code.LengthOf t) k = first_holds _ _ (both_hold (expr_formed names t k) refl)
  expr_formed names (code.Cast t u) k = first_holds _ _ (both_hold (kind_formed names (kind_word names t) t k.0) (both_hold (expr_formed names u k.1) refl))
  expr_formed names (code.InstanceOf t u) k = first_holds _ _ (both_hold (kind_formed names (kind_word names t) t k.0) (both_hold (expr_formed names u k.1) refl))
  expr_formed names (code.DoThen t u) k = first_holds _ _ (both_hold (code_formed names t k.0) (both_hold (expr_formed names u k.1) refl))
  expr_formed names (code.VirtualCall c m t u) k = first_holds _ _ (both_hold (method_name names (method_word names c m) (c, m) k.0) (both_hold (expr_formed names t k.1) (operands_formed names u k.2)))
  expr_formed names (code.StaticCall m u) k = first_holds _ _ (both_hold (static_name names (method_word names (routine names m).class m) m k.0) (operands_formed names u k.1))
  expr_formed names (code.ConstructorCall m t u) k = first_holds _ _ (both_hold (constructor_name names (class_word names (routine names m).class) m k.0) (both_hold (expr_formed names t k.1) (operands_formed names u k.2)))

  operands_formed : (names : NameTable) (es : Exprs) → ExprsKnown names es → have_forms (exprs_text names es) [] (Some ExprPlace) ≡ true
  operands_formed names NoExprs k = refl
  operands_formed names (ExprThen e es) k = both_hold (expr_formed names e k.0) (operands_formed names es k.1)

  stmt_formed : (names : NameTable) (s : Stmt) → StmtKnown names s → has_form (stmt_text names s) StmtPlace ≡ true
  stmt_formed names (code.Set t u) k = first_holds _ _ (both_hold (variable_name names t.text t k.0) (both_hold (expr_formed names u k.1) refl))
  stmt_formed names (code.WriteField t u v) k = first_holds _ _ (both_hold (expr_formed names t k.0) (both_hold (field_name names (field_word names u) u k.1) (both_hold (expr_formed names v k.2) refl)))
  stmt_formed names (code.WriteElement t u v) k = first_holds _ _ (both_hold (expr_formed names t k.0) (both_hold (expr_formed names u k.1) (both_hold (expr_formed names v k.2) refl)))
  stmt_formed names (code.Evaluate t) k = first_holds _ _ (both_hold (expr_formed names t k) refl)
  stmt_formed names (code.If t u v) k = first_holds _ _ (both_hold (expr_formed names t k.0) (both_hold (code_formed names u k.1) (both_hold (code_formed names v k.2) refl)))
  stmt_formed names (code.While t u v) k = first_holds _ _ (both_hold (is_there (loop_of (number_text t)) t k.0) (both_hold (expr_formed names u k.1) (both_hold (code_formed names v k.2) refl)))
  stmt_formed names (code.Block t u) k = first_holds _ _ (both_hold (is_there (label_of (label_word t)) t k.0) (both_hold (code_formed names u k.1) refl))
  stmt_formed names (code.Break t) k = first_holds _ _ (both_hold (is_there (label_of (label_word t)) t k) refl)
  stmt_formed names (code.Catch t u v) k = first_holds _ _ (both_hold (code_formed names t k.0) (both_hold (variable_name names u.text u k.1) (both_hold (code_formed names v k.2) refl)))
  stmt_formed names (code.Finally t u) k = first_holds _ _ (both_hold (code_formed names t k.0) (both_hold (code_formed names u k.1) refl))
  stmt_formed names (code.Throw t) k = first_holds _ _ (both_hold (expr_formed names t k) refl)
  stmt_formed names (code.ThrowUnchecked t) k = first_holds _ _ (both_hold (expr_formed names t k) refl)
  stmt_formed names (code.Return t) k = first_holds _ _ (both_hold (expr_formed names t k) refl)
  stmt_formed names (code.Frame t u) k = first_holds _ _ (both_hold (result_formed names (result_word names t) t k.0) (both_hold (code_formed names u k.1) refl))
  stmt_formed names (code.Raise t) k = first_holds _ _ (both_hold (class_name names (class_word names t) t k) refl)
  stmt_formed names (code.AllocObject t u) k = first_holds _ _ (both_hold (variable_name names t.text t k.0) (both_hold (class_name names (class_word names u) u k.1) refl))
  stmt_formed names (code.NewArray t u) k = first_holds _ _ (both_hold (variable_name names t.text t k.0) (both_hold (expr_formed names u k.1) refl))
  stmt_formed names code.ReturnVoid k = refl
  stmt_formed names code.Stop k = refl
  stmt_formed names (code.AllocArray t u) k = second_holds _ _ (first_holds _ _ (both_hold (variable_name names t.text t k.0) (both_hold (first_holds _ _ (both_hold (expr_formed names u k.1) refl)) refl)))

  stmts_formed : (names : NameTable) (ss : PlainCode) → CodeKnown names ss → have_forms (stmts_text names ss) [] (Some StmtPlace) ≡ true
  stmts_formed names Done k = refl
  stmts_formed names (Then s ss) k = both_hold (stmt_formed names s k.0) (stmts_formed names ss k.1)

  code_formed : (names : NameTable) (ss : PlainCode) → CodeKnown names ss → has_form (code_text names ss) CodePlace ≡ true
  code_formed names Done k = refl
  code_formed names (Then s ss) k = first_holds _ _ (both_hold (stmt_formed names s k.0) (stmts_formed names ss k.1))

-- ---- formulas

pair_formed : (names : NameTable) (ctx : List Sort) (x : Name) (t : PlainTerm) → variable_of names x.text ≡ Some x → TermKnown names ctx t → has_form (Brackets (two (Atom x.text) (term_text names t))) PairPlace ≡ true
pair_formed names ctx x t e k = first_holds _ _ (both_hold (variable_name names x.text x e) (both_hold (term_formed names ctx t k) refl))

all_pairs_formed : (names : NameTable) (ctx : List Sort) (ps : Pairs) → PairsKnown names ctx ps → have_forms (pairs_text names ps) [] (Some PairPlace) ≡ true
all_pairs_formed names ctx [] k = refl
all_pairs_formed names ctx (p ∷ ps) k = both_hold (pair_formed names ctx p.0 p.1 k.0.0 k.0.1) (all_pairs_formed names ctx ps k.1)

pairs_formed : (names : NameTable) (ctx : List Sort) (ps : Pairs) → ps ≢ [] → PairsKnown names ctx ps → has_form (Brackets (pairs_text names ps)) PairsPlace ≡ true
pairs_formed names ctx [] n k = absurd (n refl)
pairs_formed names ctx (p ∷ ps) n k = first_holds _ _ (both_hold (pair_formed names ctx p.0 p.1 k.0.0 k.0.1) (all_pairs_formed names ctx ps k.1))

pub formula_formed : (names : NameTable) (ctx : List Sort) (a : PlainFormula) → FormulaKnown names ctx a → has_form (formula_text names a) FormulaPlace ≡ true
formula_formed names ctx formulas.TrueFormula k = refl
formula_formed names ctx formulas.FalseFormula k = refl
formula_formed names ctx (formulas.Not t) k = first_holds _ _ (both_hold (formula_formed names ctx t k) refl)
formula_formed names ctx (formulas.And t u) k = first_holds _ _ (both_hold (formula_formed names ctx t k.0) (both_hold (formula_formed names ctx u k.1) refl))
formula_formed names ctx (formulas.Or t u) k = first_holds _ _ (both_hold (formula_formed names ctx t k.0) (both_hold (formula_formed names ctx u k.1) refl))
formula_formed names ctx (formulas.Implies t u) k = first_holds _ _ (both_hold (formula_formed names ctx t k.0) (both_hold (formula_formed names ctx u k.1) refl))
formula_formed names ctx (formulas.Iff t u) k = first_holds _ _ (both_hold (formula_formed names ctx t k.0) (both_hold (formula_formed names ctx u k.1) refl))
formula_formed names ctx (formulas.Equal t u) k = first_holds _ _ (both_hold (term_formed names ctx t k.0) (both_hold (term_formed names ctx u k.1) refl))
formula_formed names ctx (formulas.Less t u) k = first_holds _ _ (both_hold (term_formed names ctx t k.0) (both_hold (term_formed names ctx u k.1) refl))
formula_formed names ctx (formulas.LessOrEqual t u) k = first_holds _ _ (both_hold (term_formed names ctx t k.0) (both_hold (term_formed names ctx u k.1) refl))
formula_formed names ctx (formulas.Forall s a) k = first_holds _ _ (both_hold (sort_formed s k.0) (both_hold (formula_formed names (s ∷ ctx) a k.1) refl))
formula_formed names ctx (formulas.Exists s a) k = first_holds _ _ (both_hold (sort_formed s k.0) (both_hold (formula_formed names (s ∷ ctx) a k.1) refl))
formula_formed names ctx (formulas.Updated ps a) k = first_holds _ _ (both_hold (pairs_formed names ctx ps k.0 k.1) (both_hold (formula_formed names ctx a k.2) refl))
formula_formed names ctx (formulas.Modal m ss a) k = modal_formed m (code_text names ss) (formula_text names a) (code_formed names ss k.0) (formula_formed names ctx a k.1)
formula_formed names ctx (formulas.InLocations t u v) k = first_holds _ _ (both_hold (term_formed names ctx t k.0) (both_hold (term_formed names ctx u k.1) (both_hold (loc_formed names ctx v k.2) refl)))
formula_formed names ctx (formulas.InInt t) k = first_holds _ _ (both_hold (term_formed names ctx t k) refl)
formula_formed names ctx (formulas.WellFormed t) k = first_holds _ _ (both_hold (term_formed names ctx t k) refl)
formula_formed names ctx (formulas.Invariant t u) k = first_holds _ _ (both_hold (term_formed names ctx t k.0) (both_hold (term_formed names ctx u k.1) refl))
formula_formed names ctx (formulas.IsInstance t u) k = first_holds _ _ (both_hold (kind_formed names (kind_word names t) t k.0) (both_hold (term_formed names ctx u k.1) refl))
formula_formed names ctx (formulas.IsExactInstance t u) k = first_holds _ _ (both_hold (kind_formed names (kind_word names t) t k.0) (both_hold (term_formed names ctx u k.1) refl))
