-- Instances depend on a program by the classes of what the machine throws alone.
use Rattle.std.proofs.Common.{◌≡◌, ◌∷◌, [], Some, refl}
use Rattle.jd_model.specs.Contexts.{chain, fill}
use Rattle.jd_model.specs.Programs.{Program}
use Rattle.jd_syntax.specs.Codes as code
use Rattle.jd_term.specs.Formulas as formula
use Rattle.jd_term.specs.Substitutions.{term_subst, formula_subst}
use Rattle.jd_term.specs.Terms as term
use Rattle.jd_patterns.specs.Patterns as pattern
use Rattle.jd_patterns.specs.Patterns.{SortPattern, KindPattern, ModalityPattern, NamePattern, ResultPattern, ClassPattern, ExprPattern, StmtPattern, CodePattern, TermPattern, LocPattern, FormulaPattern}
use Rattle.jd_patterns.specs.Instances.{Instance, of_sort, of_kind, of_modality, of_name, of_result, of_class, of_expr, of_stmt, of_code, of_term, of_loc, of_formula, one_part, of_object, connected, compared, quantified, tested, classed}
use Rattle.jd_schema_instances.specs.Choosing.{ThrowTheSame}

sorts_alike : (p q : Program) (σ : Instance) (s : SortPattern) → of_sort p σ s ≡ of_sort q σ s
sorts_alike p q σ (pattern.SortVar n) = refl
sorts_alike p q σ (pattern.SortIs s) = refl

kinds_alike : (p q : Program) (σ : Instance) (k : KindPattern) → of_kind p σ k ≡ of_kind q σ k
kinds_alike p q σ (pattern.KindVar n) = refl
kinds_alike p q σ (pattern.KindIs k) = refl

modalities_alike : (p q : Program) (σ : Instance) (m : ModalityPattern) → of_modality p σ m ≡ of_modality q σ m
modalities_alike p q σ (pattern.ModalityVar n) = refl
modalities_alike p q σ (pattern.ModalityIs m) = refl

names_alike : (p q : Program) (σ : Instance) (x : NamePattern) → of_name p σ x ≡ of_name q σ x
names_alike p q σ (pattern.NameVar n) = refl
names_alike p q σ (pattern.NameIs x) = refl

results_alike : (p q : Program) (σ : Instance) (r : ResultPattern) → of_result p σ r ≡ of_result q σ r
results_alike p q σ pattern.NoResult = refl
results_alike p q σ (pattern.ResultIn x) = λ i. Some (names_alike p q σ x i)
results_alike p q σ (pattern.ResultVar n) = refl

classes_alike : (p q : Program) (σ : Instance) → ThrowTheSame p q → (c : ClassPattern) → of_class p σ c ≡ of_class q σ c
classes_alike p q σ h (pattern.ClassVar n) = refl
classes_alike p q σ h (pattern.ClassOf pattern.NullPointer) = h.null_pointer
classes_alike p q σ h (pattern.ClassOf pattern.DivisionByZero) = h.division_by_zero
classes_alike p q σ h (pattern.ClassOf pattern.OutOfBounds) = h.out_of_bounds
classes_alike p q σ h (pattern.ClassOf pattern.BadCast) = h.bad_cast
classes_alike p q σ h (pattern.ClassOf pattern.NegativeSize) = h.negative_size

exprs_alike : (p q : Program) (σ : Instance) (e : ExprPattern) → of_expr p σ e ≡ of_expr q σ e
exprs_alike p q σ (pattern.Simple n) = refl
exprs_alike p q σ (pattern.SimpleAt s n) = refl
exprs_alike p q σ (pattern.Variable x) = λ i. code.Variable (names_alike p q σ x i)
exprs_alike p q σ (pattern.Unary op e) = λ i. code.Unary op (exprs_alike p q σ e i)
exprs_alike p q σ (pattern.Binary op e f) = λ i. code.Binary op (exprs_alike p q σ e i) (exprs_alike p q σ f i)
exprs_alike p q σ (pattern.ReadField e n) = λ i. code.ReadField (exprs_alike p q σ e i) (σ.field n)
exprs_alike p q σ (pattern.ReadElement e f) = λ i. code.ReadElement (exprs_alike p q σ e i) (exprs_alike p q σ f i)
exprs_alike p q σ (pattern.LengthOf e) = λ i. code.LengthOf (exprs_alike p q σ e i)
exprs_alike p q σ (pattern.Cast k e) = λ i. code.Cast (kinds_alike p q σ k i) (exprs_alike p q σ e i)
exprs_alike p q σ (pattern.InstanceOf k e) = λ i. code.InstanceOf (kinds_alike p q σ k i) (exprs_alike p q σ e i)

mutual
  pub stmts_alike : (p q : Program) (σ : Instance) → ThrowTheSame p q → (s : StmtPattern) → of_stmt p σ s ≡ of_stmt q σ s
  stmts_alike p q σ h (pattern.ReturnVar n) = refl
  stmts_alike p q σ h (pattern.Set x e) = λ i. code.Set (names_alike p q σ x i) (exprs_alike p q σ e i)
  stmts_alike p q σ h (pattern.WriteField e n f) = λ i. code.WriteField (exprs_alike p q σ e i) (σ.field n) (exprs_alike p q σ f i)
  stmts_alike p q σ h (pattern.WriteElement e f g) = λ i. code.WriteElement (exprs_alike p q σ e i) (exprs_alike p q σ f i) (exprs_alike p q σ g i)
  stmts_alike p q σ h (pattern.Evaluate e) = λ i. code.Evaluate (exprs_alike p q σ e i)
  stmts_alike p q σ h (pattern.If e c d) = λ i. code.If (exprs_alike p q σ e i) (codes_alike p q σ h c i) (codes_alike p q σ h d i)
  stmts_alike p q σ h (pattern.Block n c) = λ i. code.Block (σ.label n) (codes_alike p q σ h c i)
  stmts_alike p q σ h (pattern.BlockPast n m c) = λ i. code.Block (σ.label n) (code.Then (code.Break (σ.label m)) (codes_alike p q σ h c i))
  stmts_alike p q σ h (pattern.Break n) = refl
  stmts_alike p q σ h (pattern.Catch c x d) = λ i. code.Catch (codes_alike p q σ h c i) (names_alike p q σ x i) (codes_alike p q σ h d i)
  stmts_alike p q σ h (pattern.Finally c d) = λ i. code.Finally (codes_alike p q σ h c i) (codes_alike p q σ h d i)
  stmts_alike p q σ h (pattern.Throw e) = λ i. code.Throw (exprs_alike p q σ e i)
  stmts_alike p q σ h (pattern.ThrowUnchecked e) = λ i. code.ThrowUnchecked (exprs_alike p q σ e i)
  stmts_alike p q σ h (pattern.Return e) = λ i. code.Return (exprs_alike p q σ e i)
  stmts_alike p q σ h pattern.ReturnVoid = refl
  stmts_alike p q σ h (pattern.Frame r c) = λ i. code.Frame (results_alike p q σ r i) (codes_alike p q σ h c i)
  stmts_alike p q σ h (pattern.Raise c) = λ i. code.Raise (classes_alike p q σ h c i)
  stmts_alike p q σ h (pattern.AllocObject x c) = λ i. code.AllocObject (names_alike p q σ x i) (classes_alike p q σ h c i)
  stmts_alike p q σ h (pattern.AllocArray x e) = λ i. code.AllocArray (names_alike p q σ x i) (exprs_alike p q σ e i)
  stmts_alike p q σ h (pattern.NewArray x e) = λ i. code.NewArray (names_alike p q σ x i) (exprs_alike p q σ e i)
  stmts_alike p q σ h pattern.Stop = refl

  pub codes_alike : (p q : Program) (σ : Instance) → ThrowTheSame p q → (c : CodePattern) → of_code p σ c ≡ of_code q σ c
  codes_alike p q σ h pattern.Done = refl
  codes_alike p q σ h (pattern.Then s c) = λ i. code.Then (stmts_alike p q σ h s i) (codes_alike p q σ h c i)
  codes_alike p q σ h (pattern.CodeThen n pattern.Done) = refl
  codes_alike p q σ h (pattern.CodeThen n (pattern.Then s c)) = λ i. chain (σ.code n) (codes_alike p q σ h (pattern.Then s c) i)
  codes_alike p q σ h (pattern.CodeThen n (pattern.CodeThen m c)) = λ i. chain (σ.code n) (codes_alike p q σ h (pattern.CodeThen m c) i)

mutual
  pub terms_alike : (p q : Program) (σ : Instance) (t : TermPattern) → of_term p σ t ≡ of_term q σ t
  terms_alike p q σ (pattern.AnyTerm n) = refl
  terms_alike p q σ (pattern.TermOf s n) = refl
  terms_alike p q σ (pattern.LiteralVar n) = refl
  terms_alike p q σ (pattern.FieldVar n) = refl
  terms_alike p q σ (pattern.Put n t) = λ i. term_subst 0 0 (terms_alike p q σ t i) (σ.term n)
  terms_alike p q σ (pattern.Lifted n) = refl
  terms_alike p q σ (pattern.OfSimple n) = refl
  terms_alike p q σ (pattern.ProgramVariable x) = λ i. term.ProgramVariable (names_alike p q σ x i)
  terms_alike p q σ (pattern.Constant x) = λ i. term.Constant (names_alike p q σ x i)
  terms_alike p q σ (pattern.Given t) = refl
  terms_alike p q σ (pattern.OnePart h t) = λ i. one_part h (terms_alike p q σ t i)
  terms_alike p q σ (pattern.Arithmetic op t u) = λ i. term.Arithmetic op (terms_alike p q σ t i) (terms_alike p q σ u i)
  terms_alike p q σ (pattern.Select s h o f) = λ i. term.Select (sorts_alike p q σ s i) (terms_alike p q σ h i) (terms_alike p q σ o i) (terms_alike p q σ f i)
  terms_alike p q σ (pattern.Sum t u v) = λ i. term.Sum (terms_alike p q σ t i) (terms_alike p q σ u i) (terms_alike p q σ v i)
  terms_alike p q σ (pattern.Store h o f t) = λ i. term.Store (terms_alike p q σ h i) (terms_alike p q σ o i) (terms_alike p q σ f i) (terms_alike p q σ t i)
  terms_alike p q σ (pattern.Create h o) = λ i. term.Create (terms_alike p q σ h i) (terms_alike p q σ o i)
  terms_alike p q σ (pattern.Anon h l g) = λ i. term.Anon (terms_alike p q σ h i) (locs_alike p q σ l i) (terms_alike p q σ g i)

  pub locs_alike : (p q : Program) (σ : Instance) (l : LocPattern) → of_loc p σ l ≡ of_loc q σ l
  locs_alike p q σ (pattern.LocVar n) = refl
  locs_alike p q σ (pattern.LiftedLoc n) = refl
  locs_alike p q σ pattern.NoLocations = refl
  locs_alike p q σ pattern.AllLocations = refl
  locs_alike p q σ (pattern.OfObject h o) = λ i. of_object h (terms_alike p q σ o i)
  locs_alike p q σ (pattern.Single o f) = λ i. term.Single (terms_alike p q σ o i) (terms_alike p q σ f i)
  locs_alike p q σ (pattern.ElementRange o t u) = λ i. term.ElementRange (terms_alike p q σ o i) (terms_alike p q σ t i) (terms_alike p q σ u i)
  locs_alike p q σ (pattern.Union l m) = λ i. term.Union (locs_alike p q σ l i) (locs_alike p q σ m i)

pub formulas_alike : (p q : Program) (σ : Instance) → ThrowTheSame p q → (a : FormulaPattern) → of_formula p σ a ≡ of_formula q σ a
formulas_alike p q σ h (pattern.FormulaVar n) = refl
formulas_alike p q σ h (pattern.PutIn n t) = λ i. formula_subst 0 0 (terms_alike p q σ t i) (σ.formula n)
formulas_alike p q σ h (pattern.LiftedFormula n) = refl
formulas_alike p q σ h pattern.TrueFormula = refl
formulas_alike p q σ h pattern.FalseFormula = refl
formulas_alike p q σ h (pattern.Not a) = λ i. formula.Not (formulas_alike p q σ h a i)
formulas_alike p q σ h (pattern.Connected k a c) = λ i. connected k (formulas_alike p q σ h a i) (formulas_alike p q σ h c i)
formulas_alike p q σ h (pattern.Compared k t u) = λ i. compared k (terms_alike p q σ t i) (terms_alike p q σ u i)
formulas_alike p q σ h (pattern.Quantified k s a) = λ i. quantified k (sorts_alike p q σ s i) (formulas_alike p q σ h a i)
formulas_alike p q σ h (pattern.Updated x t a) = λ i. formula.Updated ((names_alike p q σ x i, terms_alike p q σ t i) ∷ []) (formulas_alike p q σ h a i)
formulas_alike p q σ h (pattern.Focus m k c a) = λ i. formula.Modal (σ.modality m) (fill (σ.context k) (codes_alike p q σ h c i)) (formulas_alike p q σ h a i)
formulas_alike p q σ h (pattern.Modal m c a) = λ i. formula.Modal (modalities_alike p q σ m i) (codes_alike p q σ h c i) (formulas_alike p q σ h a i)
formulas_alike p q σ h (pattern.InLocations o f l) = λ i. formula.InLocations (terms_alike p q σ o i) (terms_alike p q σ f i) (locs_alike p q σ l i)
formulas_alike p q σ h (pattern.Tested k t) = λ i. tested k (terms_alike p q σ t i)
formulas_alike p q σ h (pattern.Classed k c o) = λ i. classed k (kinds_alike p q σ c i) (terms_alike p q σ o i)
