-- What patterns mean hangs on no body of a method.
use Rattle.std.proofs.Common.{Some, refl, [], ◌∷◌, ◌≡◌}
use Rattle.jd_syntax.specs.Codes.{Variable, Unary, Binary, ReadField, ReadElement, LengthOf, Cast, InstanceOf, Set, WriteField, WriteElement, Evaluate, If, Block, Break, Catch, Finally, Throw, ThrowUnchecked, Return, Frame, Raise, AllocObject, AllocArray, NewArray, Then}
use Rattle.jd_term.specs.Terms.{ProgramVariable, Constant, Arithmetic, Select, Sum, Store, Create, Anon, Single, ElementRange, Union}
use Rattle.jd_term.specs.Formulas.{Not, Updated, Modal, InLocations}
use Rattle.jd_term.specs.Substitutions.{term_subst, formula_subst}
use Rattle.jd_model.specs.Contexts.{fill, chain}
use Rattle.jd_patterns.specs.Patterns as pattern
use Rattle.jd_patterns.specs.Patterns.{SortPattern, SortVar, SortIs, KindPattern, KindVar, KindIs, ModalityPattern, ModalityVar, ModalityIs, NamePattern, NameVar, NameIs, ResultPattern, NoResult, ResultIn, ResultVar, NullPointer, DivisionByZero, OutOfBounds, BadCast, NegativeSize, ClassPattern, ClassVar, ClassOf, ExprPattern, StmtPattern, CodePattern, TermPattern, LocPattern, FormulaPattern}
use Rattle.jd_model.specs.Programs.{Program}
use Rattle.jd_patterns.specs.Instances.{Instance, of_sort, of_kind, of_modality, of_name, of_result, of_class, of_expr, of_stmt, of_code, of_term, of_loc, of_formula, one_part, of_object, connected, compared, quantified, tested, classed}
use Rattle.jd_told_programs.specs.Told.{without_bodies}

module _ (p : Program) (σ : Instance) where
  pub sort_same : (x : SortPattern) → of_sort (without_bodies p) σ x ≡ of_sort p σ x
  sort_same (SortVar n) = refl
  sort_same (SortIs s) = refl

  kind_same : (x : KindPattern) → of_kind (without_bodies p) σ x ≡ of_kind p σ x
  kind_same (KindVar n) = refl
  kind_same (KindIs k) = refl

  modality_same : (x : ModalityPattern) → of_modality (without_bodies p) σ x ≡ of_modality p σ x
  modality_same (ModalityVar n) = refl
  modality_same (ModalityIs m) = refl

  name_same : (x : NamePattern) → of_name (without_bodies p) σ x ≡ of_name p σ x
  name_same (NameVar n) = refl
  name_same (NameIs x) = refl

  result_same : (x : ResultPattern) → of_result (without_bodies p) σ x ≡ of_result p σ x
  result_same NoResult = refl
  result_same (ResultIn x) = λ i. Some (name_same x i)
  result_same (ResultVar n) = refl

  class_same : (x : ClassPattern) → of_class (without_bodies p) σ x ≡ of_class p σ x
  class_same (ClassVar n) = refl
  class_same (ClassOf NullPointer) = refl
  class_same (ClassOf DivisionByZero) = refl
  class_same (ClassOf OutOfBounds) = refl
  class_same (ClassOf BadCast) = refl
  class_same (ClassOf NegativeSize) = refl

  expr_same : (x : ExprPattern) → of_expr (without_bodies p) σ x ≡ of_expr p σ x
  expr_same (pattern.Simple n) = refl
  expr_same (pattern.SimpleAt s n) = refl
  expr_same (pattern.Variable x) = λ i. Variable (name_same x i)
  expr_same (pattern.Unary op e) = λ i. Unary op (expr_same e i)
  expr_same (pattern.Binary op e f) = λ i. Binary op (expr_same e i) (expr_same f i)
  expr_same (pattern.ReadField e n) = λ i. ReadField (expr_same e i) (σ.field n)
  expr_same (pattern.ReadElement e f) = λ i. ReadElement (expr_same e i) (expr_same f i)
  expr_same (pattern.LengthOf e) = λ i. LengthOf (expr_same e i)
  expr_same (pattern.Cast k e) = λ i. Cast (kind_same k i) (expr_same e i)
  expr_same (pattern.InstanceOf k e) = λ i. InstanceOf (kind_same k i) (expr_same e i)

  mutual
    stmt_same : (x : StmtPattern) → of_stmt (without_bodies p) σ x ≡ of_stmt p σ x
    stmt_same (pattern.ReturnVar n) = refl
    stmt_same (pattern.Set x e) = λ i. Set (name_same x i) (expr_same e i)
    stmt_same (pattern.WriteField e n f) = λ i. WriteField (expr_same e i) (σ.field n) (expr_same f i)
    stmt_same (pattern.WriteElement e f g) = λ i. WriteElement (expr_same e i) (expr_same f i) (expr_same g i)
    stmt_same (pattern.Evaluate e) = λ i. Evaluate (expr_same e i)
    stmt_same (pattern.If e c d) = λ i. If (expr_same e i) (code_same c i) (code_same d i)
    stmt_same (pattern.Block n c) = λ i. Block (σ.label n) (code_same c i)
    stmt_same (pattern.BlockPast n m c) = λ i. Block (σ.label n) (Then (Break (σ.label m)) (code_same c i))
    stmt_same (pattern.Break n) = refl
    stmt_same (pattern.Catch c x d) = λ i. Catch (code_same c i) (name_same x i) (code_same d i)
    stmt_same (pattern.Finally c d) = λ i. Finally (code_same c i) (code_same d i)
    stmt_same (pattern.Throw e) = λ i. Throw (expr_same e i)
    stmt_same (pattern.ThrowUnchecked e) = λ i. ThrowUnchecked (expr_same e i)
    stmt_same (pattern.Return e) = λ i. Return (expr_same e i)
    stmt_same pattern.ReturnVoid = refl
    stmt_same (pattern.Frame r c) = λ i. Frame (result_same r i) (code_same c i)
    stmt_same (pattern.Raise c) = λ i. Raise (class_same c i)
    stmt_same (pattern.AllocObject x c) = λ i. AllocObject (name_same x i) (class_same c i)
    stmt_same (pattern.AllocArray x e) = λ i. AllocArray (name_same x i) (expr_same e i)
    stmt_same (pattern.NewArray x e) = λ i. NewArray (name_same x i) (expr_same e i)
    stmt_same pattern.Stop = refl

    code_same : (x : CodePattern) → of_code (without_bodies p) σ x ≡ of_code p σ x
    code_same pattern.Done = refl
    code_same (pattern.Then s c) = λ i. Then (stmt_same s i) (code_same c i)
    code_same (pattern.CodeThen n pattern.Done) = refl
    code_same (pattern.CodeThen n c) = λ i. chain (σ.code n) (code_same c i)

  mutual
    pub term_same : (x : TermPattern) → of_term (without_bodies p) σ x ≡ of_term p σ x
    term_same (pattern.AnyTerm n) = refl
    term_same (pattern.TermOf s n) = refl
    term_same (pattern.LiteralVar n) = refl
    term_same (pattern.FieldVar n) = refl
    term_same (pattern.Put n t) = λ i. term_subst 0 0 (term_same t i) (σ.term n)
    term_same (pattern.Lifted n) = refl
    term_same (pattern.OfSimple n) = refl
    term_same (pattern.ProgramVariable x) = λ i. ProgramVariable (name_same x i)
    term_same (pattern.Constant x) = λ i. Constant (name_same x i)
    term_same (pattern.Given t) = refl
    term_same (pattern.OnePart h t) = λ i. one_part h (term_same t i)
    term_same (pattern.Arithmetic op t u) = λ i. Arithmetic op (term_same t i) (term_same u i)
    term_same (pattern.Select s h o f) = λ i. Select (sort_same s i) (term_same h i) (term_same o i) (term_same f i)
    term_same (pattern.Sum t u v) = λ i. Sum (term_same t i) (term_same u i) (term_same v i)
    term_same (pattern.Store h o f t) = λ i. Store (term_same h i) (term_same o i) (term_same f i) (term_same t i)
    term_same (pattern.Create h o) = λ i. Create (term_same h i) (term_same o i)
    term_same (pattern.Anon h l g) = λ i. Anon (term_same h i) (loc_same l i) (term_same g i)

    loc_same : (x : LocPattern) → of_loc (without_bodies p) σ x ≡ of_loc p σ x
    loc_same (pattern.LocVar n) = refl
    loc_same (pattern.LiftedLoc n) = refl
    loc_same pattern.NoLocations = refl
    loc_same pattern.AllLocations = refl
    loc_same (pattern.OfObject h o) = λ i. of_object h (term_same o i)
    loc_same (pattern.Single o f) = λ i. Single (term_same o i) (term_same f i)
    loc_same (pattern.ElementRange o t u) = λ i. ElementRange (term_same o i) (term_same t i) (term_same u i)
    loc_same (pattern.Union l m) = λ i. Union (loc_same l i) (loc_same m i)

  pub formula_same : (x : FormulaPattern) → of_formula (without_bodies p) σ x ≡ of_formula p σ x
  formula_same (pattern.FormulaVar n) = refl
  formula_same (pattern.PutIn n t) = λ i. formula_subst 0 0 (term_same t i) (σ.formula n)
  formula_same (pattern.LiftedFormula n) = refl
  formula_same pattern.TrueFormula = refl
  formula_same pattern.FalseFormula = refl
  formula_same (pattern.Not a) = λ i. Not (formula_same a i)
  formula_same (pattern.Connected h a c) = λ i. connected h (formula_same a i) (formula_same c i)
  formula_same (pattern.Compared h t u) = λ i. compared h (term_same t i) (term_same u i)
  formula_same (pattern.Quantified h s a) = λ i. quantified h (sort_same s i) (formula_same a i)
  formula_same (pattern.Updated x t a) = λ i. Updated ((name_same x i, term_same t i) ∷ []) (formula_same a i)
  formula_same (pattern.Focus m k c a) = λ i. Modal (σ.modality m) (fill (σ.context k) (code_same c i)) (formula_same a i)
  formula_same (pattern.Modal m c a) = λ i. Modal (modality_same m i) (code_same c i) (formula_same a i)
  formula_same (pattern.InLocations o f l) = λ i. InLocations (term_same o i) (term_same f i) (loc_same l i)
  formula_same (pattern.Tested h t) = λ i. tested h (term_same t i)
  formula_same (pattern.Classed h k o) = λ i. classed h (kind_same k i) (term_same o i)
