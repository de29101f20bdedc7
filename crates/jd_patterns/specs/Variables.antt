-- The schema variables of a pattern, in the order in which they stand.
use Rattle.std.specs.Prelude.{List, [], ◌∷◌, ◌++◌}
use Rattle.jd_patterns.specs.Patterns as pattern
use Rattle.jd_patterns.specs.Patterns.{SchemaVar, SortPattern, SortVar, SortIs, KindPattern, KindVar, KindIs, ModalityPattern, ModalityVar, ModalityIs, NamePattern, NameVar, NameIs, ResultPattern, NoResult, ResultIn, ResultVar, ClassPattern, ClassVar, ClassOf, ExprPattern, StmtPattern, CodePattern, TermPattern, LocPattern, FormulaPattern}

-- what a variable stands for
pub data VarKind : Type 0 where
  FormulaKind TermKind LiteralKind LocKind KindKind SortKind NameKind ResultKind FieldKind ClassKind LabelKind CodeKind ReturnKind SimpleKind ModalityKind ContextKind : VarKind

abbrev pub Variable : Type 0
Variable = VarKind × SchemaVar

abbrev pub sort_variables : SortPattern → List Variable
sort_variables (SortVar n) = (SortKind, n) ∷ []
sort_variables (SortIs s) = []

abbrev pub kind_variables : KindPattern → List Variable
kind_variables (KindVar n) = (KindKind, n) ∷ []
kind_variables (KindIs k) = []

abbrev pub modality_variables : ModalityPattern → List Variable
modality_variables (ModalityVar n) = (ModalityKind, n) ∷ []
modality_variables (ModalityIs m) = []

abbrev pub name_variables : NamePattern → List Variable
name_variables (NameVar n) = (NameKind, n) ∷ []
name_variables (NameIs x) = []

abbrev pub result_variables : ResultPattern → List Variable
result_variables NoResult = []
result_variables (ResultIn x) = name_variables x
result_variables (ResultVar n) = (ResultKind, n) ∷ []

abbrev pub class_variables : ClassPattern → List Variable
class_variables (ClassVar n) = (ClassKind, n) ∷ []
class_variables (ClassOf c) = []

abbrev pub expr_variables : ExprPattern → List Variable
expr_variables (pattern.Simple n) = (SimpleKind, n) ∷ []
expr_variables (pattern.SimpleAt s n) = (SimpleKind, n) ∷ []
expr_variables (pattern.Variable x) = name_variables x
expr_variables (pattern.Unary op e) = expr_variables e
expr_variables (pattern.Binary op e f) = expr_variables e ++ expr_variables f
expr_variables (pattern.ReadField e n) = expr_variables e ++ ((FieldKind, n) ∷ [])
expr_variables (pattern.ReadElement e f) = expr_variables e ++ expr_variables f
expr_variables (pattern.LengthOf e) = expr_variables e
expr_variables (pattern.Cast k e) = kind_variables k ++ expr_variables e
expr_variables (pattern.InstanceOf k e) = kind_variables k ++ expr_variables e

abbrev mutual
  pub stmt_variables : StmtPattern → List Variable
  stmt_variables (pattern.ReturnVar n) = (ReturnKind, n) ∷ []
  stmt_variables (pattern.BlockPast n m c) = (LabelKind, n) ∷ (LabelKind, m) ∷ code_variables c
  stmt_variables (pattern.Set x e) = name_variables x ++ expr_variables e
  stmt_variables (pattern.WriteField e n f) = expr_variables e ++ ((FieldKind, n) ∷ expr_variables f)
  stmt_variables (pattern.WriteElement e f g) = expr_variables e ++ (expr_variables f ++ expr_variables g)
  stmt_variables (pattern.Evaluate e) = expr_variables e
  stmt_variables (pattern.If e c d) = expr_variables e ++ (code_variables c ++ code_variables d)
  stmt_variables (pattern.Block n c) = (LabelKind, n) ∷ code_variables c
  stmt_variables (pattern.Break n) = (LabelKind, n) ∷ []
  stmt_variables (pattern.Catch c x d) = code_variables c ++ (name_variables x ++ code_variables d)
  stmt_variables (pattern.Finally c d) = code_variables c ++ code_variables d
  stmt_variables (pattern.Throw e) = expr_variables e
  stmt_variables (pattern.ThrowUnchecked e) = expr_variables e
  stmt_variables (pattern.Return e) = expr_variables e
  stmt_variables pattern.ReturnVoid = []
  stmt_variables (pattern.Frame r c) = result_variables r ++ code_variables c
  stmt_variables (pattern.Raise c) = class_variables c
  stmt_variables (pattern.NewArray x e) = name_variables x ++ expr_variables e
  stmt_variables (pattern.AllocObject x c) = name_variables x ++ class_variables c
  stmt_variables (pattern.AllocArray x e) = name_variables x ++ expr_variables e
  stmt_variables pattern.Stop = []

  pub code_variables : CodePattern → List Variable
  code_variables pattern.Done = []
  code_variables (pattern.Then s c) = stmt_variables s ++ code_variables c
  code_variables (pattern.CodeThen n c) = (CodeKind, n) ∷ code_variables c

abbrev mutual
  pub term_variables : TermPattern → List Variable
  term_variables (pattern.AnyTerm n) = (TermKind, n) ∷ []
  term_variables (pattern.TermOf s n) = (TermKind, n) ∷ []
  term_variables (pattern.LiteralVar n) = (LiteralKind, n) ∷ []
  term_variables (pattern.FieldVar n) = (FieldKind, n) ∷ []
  term_variables (pattern.Put n p) = (TermKind, n) ∷ term_variables p
  term_variables (pattern.Lifted n) = (TermKind, n) ∷ []
  term_variables (pattern.OfSimple n) = (SimpleKind, n) ∷ []
  term_variables (pattern.ProgramVariable x) = name_variables x
  term_variables (pattern.Constant x) = name_variables x
  term_variables (pattern.Given t) = []
  term_variables (pattern.OnePart h p) = term_variables p
  term_variables (pattern.Arithmetic op p q) = term_variables p ++ term_variables q
  term_variables (pattern.Select s p q r) = sort_variables s ++ (term_variables p ++ (term_variables q ++ term_variables r))
  term_variables (pattern.Sum p q r) = term_variables p ++ (term_variables q ++ term_variables r)
  term_variables (pattern.Store p q r s) = term_variables p ++ (term_variables q ++ (term_variables r ++ term_variables s))
  term_variables (pattern.Create p q) = term_variables p ++ term_variables q
  term_variables (pattern.Anon p l q) = term_variables p ++ (loc_variables l ++ term_variables q)

  pub loc_variables : LocPattern → List Variable
  loc_variables (pattern.LocVar n) = (LocKind, n) ∷ []
  loc_variables (pattern.LiftedLoc n) = (LocKind, n) ∷ []
  loc_variables (pattern.OfObject h p) = term_variables p
  loc_variables pattern.NoLocations = []
  loc_variables pattern.AllLocations = []
  loc_variables (pattern.Single p q) = term_variables p ++ term_variables q
  loc_variables (pattern.ElementRange p q r) = term_variables p ++ (term_variables q ++ term_variables r)
  loc_variables (pattern.Union l k) = loc_variables l ++ loc_variables k

abbrev pub formula_variables : FormulaPattern → List Variable
formula_variables (pattern.FormulaVar n) = (FormulaKind, n) ∷ []
formula_variables (pattern.PutIn n p) = (FormulaKind, n) ∷ term_variables p
formula_variables (pattern.LiftedFormula n) = (FormulaKind, n) ∷ []
formula_variables pattern.TrueFormula = []
formula_variables pattern.FalseFormula = []
formula_variables (pattern.Not p) = formula_variables p
formula_variables (pattern.Connected h p q) = formula_variables p ++ formula_variables q
formula_variables (pattern.Compared h p q) = term_variables p ++ term_variables q
formula_variables (pattern.Quantified h s p) = sort_variables s ++ formula_variables p
formula_variables (pattern.Updated x p q) = name_variables x ++ (term_variables p ++ formula_variables q)
formula_variables (pattern.Focus n k c p) = (ModalityKind, n) ∷ (ContextKind, k) ∷ (code_variables c ++ formula_variables p)
formula_variables (pattern.Modal m c p) = modality_variables m ++ (code_variables c ++ formula_variables p)
formula_variables (pattern.InLocations p q l) = term_variables p ++ (term_variables q ++ loc_variables l)
formula_variables (pattern.Tested h p) = term_variables p
formula_variables (pattern.Classed h k p) = kind_variables k ++ term_variables p
