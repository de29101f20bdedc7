-- Instantiations that give all variables of a pattern the same parts give it one meaning.
use Rattle.std.proofs.Common.{◌≡◌, inl, inr, List, [], ◌∷◌, ◌++◌, Some, refl, sym, ap, ◌∙◌, subst}
use Rattle.jd_syntax.specs.Codes.{Variable as VariableExpr, Unary, Binary, ReadField, ReadElement, LengthOf, Cast, InstanceOf, Set, WriteField, WriteElement, Evaluate, If, Block, Break, Catch, Finally, Throw, ThrowUnchecked, Return, Frame, Raise, AllocObject, AllocArray, NewArray, Then}
use Rattle.jd_term.specs.Terms.{Number, ProgramVariable, Constant, Arithmetic, Select, Sum, Store, Create, Anon, NamedField, Single, ElementRange, Union}
use Rattle.jd_term.specs.Formulas.{Not, Updated, Modal, InLocations}
use Rattle.jd_term.specs.Shifts.{term_shift, loc_shift, formula_shift}
use Rattle.jd_term.specs.Substitutions.{term_subst, formula_subst}
use Rattle.jd_model.specs.Contexts.{fill, chain}
use Rattle.jd_model.specs.Programs.{Program}
use Rattle.jd_model.specs.SimpleExpressions.{term_of}
use Rattle.jd_patterns.specs.Patterns as pattern
use Rattle.jd_patterns.specs.Patterns.{SchemaVar, SortPattern, SortVar, SortIs, KindPattern, KindVar, KindIs, ModalityPattern, ModalityVar, ModalityIs, NamePattern, NameVar, NameIs, ResultPattern, NoResult, ResultIn, ResultVar, ClassPattern, ClassVar, ClassOf, NullPointer, DivisionByZero, OutOfBounds, BadCast, NegativeSize, ExprPattern, StmtPattern, CodePattern, TermPattern, LocPattern, FormulaPattern}
use Rattle.jd_patterns.specs.Instances.{Instance, one_part, of_object, connected, compared, quantified, tested, classed, of_sort, of_kind, of_modality, of_name, of_result, of_class, of_expr, of_stmt, of_code, of_term, of_loc, of_formula}
use Rattle.jd_patterns.specs.Bindings.{Part, TheFormula, TheTerm, TheLiteral, TheLocations, TheKind, TheSort, TheName, TheResult, TheField, TheClass, TheLabel, TheCode, TheReturn, TheSimple, TheModality, TheContext, Bindings, Says, Agrees}
use Rattle.jd_patterns.specs.Variables.{VarKind, FormulaKind, TermKind, LiteralKind, LocKind, KindKind, SortKind, NameKind, ResultKind, FieldKind, ClassKind, LabelKind, CodeKind, ReturnKind, SimpleKind, ModalityKind, ContextKind, Variable, sort_variables, kind_variables, modality_variables, name_variables, result_variables, class_variables, expr_variables, stmt_variables, code_variables, term_variables, loc_variables, formula_variables}
use Rattle.jd_patterns.specs.Chosen.{kind_of, IsBound, AllBound}

-- ---- what a variable stands for

module _ (σ ρ : Instance) where
  -- both instantiations give the variable the same part
  abbrev Same : VarKind → SchemaVar → Type 0
  Same FormulaKind n = σ.formula n ≡ ρ.formula n
  Same TermKind n = σ.term n ≡ ρ.term n
  Same LiteralKind n = σ.literal n ≡ ρ.literal n
  Same LocKind n = σ.locations n ≡ ρ.locations n
  Same KindKind n = σ.kind n ≡ ρ.kind n
  Same SortKind n = σ.sort n ≡ ρ.sort n
  Same NameKind n = σ.name n ≡ ρ.name n
  Same ResultKind n = σ.result n ≡ ρ.result n
  Same FieldKind n = σ.field n ≡ ρ.field n
  Same ClassKind n = σ.class n ≡ ρ.class n
  Same LabelKind n = σ.label n ≡ ρ.label n
  Same CodeKind n = σ.code n ≡ ρ.code n
  Same ReturnKind n = σ.returned n ≡ ρ.returned n
  Same SimpleKind n = σ.simple n ≡ ρ.simple n
  Same ModalityKind n = σ.modality n ≡ ρ.modality n
  Same ContextKind n = σ.context n ≡ ρ.context n

  abbrev pub AllSame : List Variable → Type 0
  AllSame [] = Unit {0}
  AllSame (v ∷ vs) = Same v.0 v.1 × AllSame vs

  said : (n : SchemaVar) (x : Part) → Says σ n x → Says ρ n x → Same (kind_of x) n
  said n (TheFormula x) a b = a ∙ sym b
  said n (TheTerm x) a b = a ∙ sym b
  said n (TheLiteral x) a b = a ∙ sym b
  said n (TheLocations x) a b = a ∙ sym b
  said n (TheKind x) a b = a ∙ sym b
  said n (TheSort x) a b = a ∙ sym b
  said n (TheName x) a b = a ∙ sym b
  said n (TheResult x) a b = a ∙ sym b
  said n (TheField x) a b = a ∙ sym b
  said n (TheClass x) a b = a ∙ sym b
  said n (TheLabel x) a b = a ∙ sym b
  said n (TheCode x) a b = a ∙ sym b
  said n (TheReturn x) a b = a ∙ sym b
  said n (TheSimple x) a b = a ∙ sym b
  said n (TheModality x) a b = a ∙ sym b
  said n (TheContext x) a b = a ∙ sym b

  bound_same : (v : Variable) (τ : Bindings) → IsBound v τ → Agrees σ τ → Agrees ρ τ → Same v.0 v.1
  bound_same v [] o h k = absurd o
  bound_same v (e ∷ τ) (inl q) h k = subst (λ m. Same m v.1) q.0 (subst (λ m. Same (kind_of e.1) m) q.1 (said e.0 e.1 h.0 k.0))
  bound_same v (e ∷ τ) (inr o) h k = bound_same v τ o h.1 k.1

  pub all_same : (vs : List Variable) (τ : Bindings) → AllBound vs τ → Agrees σ τ → Agrees ρ τ → AllSame vs
  all_same [] τ o h k = tt
  all_same (v ∷ vs) τ o h k = (bound_same v τ o.0 h k, all_same vs τ o.1 h k)

  pub halves : (xs ys : List Variable) → AllSame (xs ++ ys) → AllSame xs × AllSame ys
  halves [] ys o = (tt, o)
  halves (x ∷ xs) ys o = let s = halves xs ys o.1 in ((o.0, s.0), s.1)

  pub thirds : (xs ys zs : List Variable) → AllSame (xs ++ (ys ++ zs)) → AllSame xs × (AllSame ys × AllSame zs)
  thirds xs ys zs o = let s = halves xs (ys ++ zs) o in (s.0, halves ys zs s.1)

  pub fourths : (xs ys zs us : List Variable) → AllSame (xs ++ (ys ++ (zs ++ us))) → AllSame xs × (AllSame ys × (AllSame zs × AllSame us))
  fourths xs ys zs us o = let s = halves xs (ys ++ (zs ++ us)) o in (s.0, thirds ys zs us s.1)

  -- ---- the meaning of a pattern

  module _ (q : Program) where
    pub sort_fill : (p : SortPattern) → AllSame (sort_variables p) → of_sort q σ p ≡ of_sort q ρ p
    sort_fill (SortVar n) o = o.0
    sort_fill (SortIs s) o = refl

    kind_fill : (p : KindPattern) → AllSame (kind_variables p) → of_kind q σ p ≡ of_kind q ρ p
    kind_fill (KindVar n) o = o.0
    kind_fill (KindIs k) o = refl

    modality_fill : (p : ModalityPattern) → AllSame (modality_variables p) → of_modality q σ p ≡ of_modality q ρ p
    modality_fill (ModalityVar n) o = o.0
    modality_fill (ModalityIs m) o = refl

    name_fill : (p : NamePattern) → AllSame (name_variables p) → of_name q σ p ≡ of_name q ρ p
    name_fill (NameVar n) o = o.0
    name_fill (NameIs x) o = refl

    result_fill : (p : ResultPattern) → AllSame (result_variables p) → of_result q σ p ≡ of_result q ρ p
    result_fill NoResult o = refl
    result_fill (ResultIn x) o = ap Some (name_fill x o)
    result_fill (ResultVar n) o = o.0

    class_fill : (p : ClassPattern) → AllSame (class_variables p) → of_class q σ p ≡ of_class q ρ p
    class_fill (ClassVar n) o = o.0
    class_fill (ClassOf NullPointer) o = refl
    class_fill (ClassOf DivisionByZero) o = refl
    class_fill (ClassOf OutOfBounds) o = refl
    class_fill (ClassOf BadCast) o = refl
    class_fill (ClassOf NegativeSize) o = refl

    pub expr_fill : (p : ExprPattern) → AllSame (expr_variables p) → of_expr q σ p ≡ of_expr q ρ p
    expr_fill (pattern.Simple n) o = λ i. o.0 i
    expr_fill (pattern.SimpleAt s n) o = λ i. o.0 i
    expr_fill (pattern.Variable x) o = λ i. VariableExpr (name_fill x o i)
    expr_fill (pattern.Unary op e) o = λ i. Unary op (expr_fill e o i)
    expr_fill (pattern.Binary op e f) o = let each = halves (expr_variables e) (expr_variables f) o in λ i. Binary op (expr_fill e each.0 i) (expr_fill f each.1 i)
    expr_fill (pattern.ReadField e n) o = let each = halves (expr_variables e) ((FieldKind, n) ∷ []) o in λ i. ReadField (expr_fill e each.0 i) (each.1.0 i)
    expr_fill (pattern.ReadElement e f) o = let each = halves (expr_variables e) (expr_variables f) o in λ i. ReadElement (expr_fill e each.0 i) (expr_fill f each.1 i)
    expr_fill (pattern.LengthOf e) o = λ i. LengthOf (expr_fill e o i)
    expr_fill (pattern.Cast k e) o = let each = halves (kind_variables k) (expr_variables e) o in λ i. Cast (kind_fill k each.0 i) (expr_fill e each.1 i)
    expr_fill (pattern.InstanceOf k e) o = let each = halves (kind_variables k) (expr_variables e) o in λ i. InstanceOf (kind_fill k each.0 i) (expr_fill e each.1 i)

    mutual
      pub stmt_fill : (p : StmtPattern) → AllSame (stmt_variables p) → of_stmt q σ p ≡ of_stmt q ρ p
      stmt_fill (pattern.ReturnVar n) o = λ i. o.0 i
      stmt_fill (pattern.BlockPast n m c) o = let each = thirds ((LabelKind, n) ∷ []) ((LabelKind, m) ∷ []) (code_variables c) o in λ i. Block (each.0.0 i) (Then (Break (each.1.0.0 i)) (code_fill c each.1.1 i))
      stmt_fill (pattern.Set x e) o = let each = halves (name_variables x) (expr_variables e) o in λ i. Set (name_fill x each.0 i) (expr_fill e each.1 i)
      stmt_fill (pattern.WriteField e n f) o = let each = thirds (expr_variables e) ((FieldKind, n) ∷ []) (expr_variables f) o in λ i. WriteField (expr_fill e each.0 i) (each.1.0.0 i) (expr_fill f each.1.1 i)
      stmt_fill (pattern.WriteElement e f g) o = let each = thirds (expr_variables e) (expr_variables f) (expr_variables g) o in λ i. WriteElement (expr_fill e each.0 i) (expr_fill f each.1.0 i) (expr_fill g each.1.1 i)
      stmt_fill (pattern.Evaluate e) o = λ i. Evaluate (expr_fill e o i)
      stmt_fill (pattern.If e c d) o = let each = thirds (expr_variables e) (code_variables c) (code_variables d) o in λ i. If (expr_fill e each.0 i) (code_fill c each.1.0 i) (code_fill d each.1.1 i)
      stmt_fill (pattern.Block n c) o = let each = halves ((LabelKind, n) ∷ []) (code_variables c) o in λ i. Block (each.0.0 i) (code_fill c each.1 i)
      stmt_fill (pattern.Break n) o = λ i. Break (o.0 i)
      stmt_fill (pattern.Catch c x d) o = let each = thirds (code_variables c) (name_variables x) (code_variables d) o in λ i. Catch (code_fill c each.0 i) (name_fill x each.1.0 i) (code_fill d each.1.1 i)
      stmt_fill (pattern.Finally c d) o = let each = halves (code_variables c) (code_variables d) o in λ i. Finally (code_fill c each.0 i) (code_fill d each.1 i)
      stmt_fill (pattern.Throw e) o = λ i. Throw (expr_fill e o i)
      stmt_fill (pattern.ThrowUnchecked e) o = λ i. ThrowUnchecked (expr_fill e o i)
      stmt_fill (pattern.Return e) o = λ i. Return (expr_fill e o i)
      stmt_fill pattern.ReturnVoid o = refl
      stmt_fill (pattern.Frame r c) o = let each = halves (result_variables r) (code_variables c) o in λ i. Frame (result_fill r each.0 i) (code_fill c each.1 i)
      stmt_fill (pattern.Raise c) o = λ i. Raise (class_fill c o i)
      stmt_fill (pattern.NewArray x e) o = let each = halves (name_variables x) (expr_variables e) o in λ i. NewArray (name_fill x each.0 i) (expr_fill e each.1 i)
      stmt_fill (pattern.AllocObject x c) o = let each = halves (name_variables x) (class_variables c) o in λ i. AllocObject (name_fill x each.0 i) (class_fill c each.1 i)
      stmt_fill (pattern.AllocArray x e) o = let each = halves (name_variables x) (expr_variables e) o in λ i. AllocArray (name_fill x each.0 i) (expr_fill e each.1 i)
      stmt_fill pattern.Stop o = refl

      pub code_fill : (p : CodePattern) → AllSame (code_variables p) → of_code q σ p ≡ of_code q ρ p
      code_fill pattern.Done o = refl
      code_fill (pattern.Then s c) o = let each = halves (stmt_variables s) (code_variables c) o in λ i. Then (stmt_fill s each.0 i) (code_fill c each.1 i)
      code_fill (pattern.CodeThen n pattern.Done) o = o.0
      code_fill (pattern.CodeThen n (pattern.Then s c)) o = λ i. chain (o.0 i) (code_fill (pattern.Then s c) o.1 i)
      code_fill (pattern.CodeThen n (pattern.CodeThen m c)) o = λ i. chain (o.0 i) (code_fill (pattern.CodeThen m c) o.1 i)

    mutual
      pub term_fill : (p : TermPattern) → AllSame (term_variables p) → of_term q σ p ≡ of_term q ρ p
      term_fill (pattern.AnyTerm n) o = λ i. o.0 i
      term_fill (pattern.TermOf s n) o = λ i. o.0 i
      term_fill (pattern.LiteralVar n) o = λ i. Number (o.0 i)
      term_fill (pattern.FieldVar n) o = λ i. NamedField (o.0 i)
      term_fill (pattern.Put n p) o = let each = halves ((TermKind, n) ∷ []) (term_variables p) o in λ i. term_subst 0 0 (term_fill p each.1 i) (each.0.0 i)
      term_fill (pattern.Lifted n) o = λ i. term_shift 0 1 (o.0 i)
      term_fill (pattern.OfSimple n) o = λ i. term_of (o.0 i)
      term_fill (pattern.ProgramVariable x) o = λ i. ProgramVariable (name_fill x o i)
      term_fill (pattern.Constant x) o = λ i. Constant (name_fill x o i)
      term_fill (pattern.Given t) o = refl
      term_fill (pattern.OnePart h p) o = λ i. one_part h (term_fill p o i)
      term_fill (pattern.Arithmetic op p q) o = let each = halves (term_variables p) (term_variables q) o in λ i. Arithmetic op (term_fill p each.0 i) (term_fill q each.1 i)
      term_fill (pattern.Select s p q r) o = let each = fourths (sort_variables s) (term_variables p) (term_variables q) (term_variables r) o in λ i. Select (sort_fill s each.0 i) (term_fill p each.1.0 i) (term_fill q each.1.1.0 i) (term_fill r each.1.1.1 i)
      term_fill (pattern.Sum p q r) o = let each = thirds (term_variables p) (term_variables q) (term_variables r) o in λ i. Sum (term_fill p each.0 i) (term_fill q each.1.0 i) (term_fill r each.1.1 i)
      term_fill (pattern.Store p q r s) o = let each = fourths (term_variables p) (term_variables q) (term_variables r) (term_variables s) o in λ i. Store (term_fill p each.0 i) (term_fill q each.1.0 i) (term_fill r each.1.1.0 i) (term_fill s each.1.1.1 i)
      term_fill (pattern.Create p q) o = let each = halves (term_variables p) (term_variables q) o in λ i. Create (term_fill p each.0 i) (term_fill q each.1 i)
      term_fill (pattern.Anon p l q) o = let each = thirds (term_variables p) (loc_variables l) (term_variables q) o in λ i. Anon (term_fill p each.0 i) (loc_fill l each.1.0 i) (term_fill q each.1.1 i)

      pub loc_fill : (p : LocPattern) → AllSame (loc_variables p) → of_loc q σ p ≡ of_loc q ρ p
      loc_fill (pattern.LocVar n) o = λ i. o.0 i
      loc_fill (pattern.LiftedLoc n) o = λ i. loc_shift 0 1 (o.0 i)
      loc_fill (pattern.OfObject h p) o = λ i. of_object h (term_fill p o i)
      loc_fill pattern.NoLocations o = refl
      loc_fill pattern.AllLocations o = refl
      loc_fill (pattern.Single p q) o = let each = halves (term_variables p) (term_variables q) o in λ i. Single (term_fill p each.0 i) (term_fill q each.1 i)
      loc_fill (pattern.ElementRange p q r) o = let each = thirds (term_variables p) (term_variables q) (term_variables r) o in λ i. ElementRange (term_fill p each.0 i) (term_fill q each.1.0 i) (term_fill r each.1.1 i)
      loc_fill (pattern.Union l k) o = let each = halves (loc_variables l) (loc_variables k) o in λ i. Union (loc_fill l each.0 i) (loc_fill k each.1 i)

    pub formula_fill : (p : FormulaPattern) → AllSame (formula_variables p) → of_formula q σ p ≡ of_formula q ρ p
    formula_fill (pattern.FormulaVar n) o = λ i. o.0 i
    formula_fill (pattern.PutIn n p) o = let each = halves ((FormulaKind, n) ∷ []) (term_variables p) o in λ i. formula_subst 0 0 (term_fill p each.1 i) (each.0.0 i)
    formula_fill (pattern.LiftedFormula n) o = λ i. formula_shift 0 1 (o.0 i)
    formula_fill pattern.TrueFormula o = refl
    formula_fill pattern.FalseFormula o = refl
    formula_fill (pattern.Not p) o = λ i. Not (formula_fill p o i)
    formula_fill (pattern.Connected h p q) o = let each = halves (formula_variables p) (formula_variables q) o in λ i. connected h (formula_fill p each.0 i) (formula_fill q each.1 i)
    formula_fill (pattern.Compared h p q) o = let each = halves (term_variables p) (term_variables q) o in λ i. compared h (term_fill p each.0 i) (term_fill q each.1 i)
    formula_fill (pattern.Quantified h s p) o = let each = halves (sort_variables s) (formula_variables p) o in λ i. quantified h (sort_fill s each.0 i) (formula_fill p each.1 i)
    formula_fill (pattern.Updated x p q) o = let each = thirds (name_variables x) (term_variables p) (formula_variables q) o in λ i. Updated (((name_fill x each.0 i), (term_fill p each.1.0 i)) ∷ []) (formula_fill q each.1.1 i)
    formula_fill (pattern.Focus n k c p) o = let each = fourths ((ModalityKind, n) ∷ []) ((ContextKind, k) ∷ []) (code_variables c) (formula_variables p) o in λ i. Modal (each.0.0 i) (fill (each.1.0.0 i) (code_fill c each.1.1.0 i)) (formula_fill p each.1.1.1 i)
    formula_fill (pattern.Modal m c p) o = let each = thirds (modality_variables m) (code_variables c) (formula_variables p) o in λ i. Modal (modality_fill m each.0 i) (code_fill c each.1.0 i) (formula_fill p each.1.1 i)
    formula_fill (pattern.InLocations p q l) o = let each = thirds (term_variables p) (term_variables q) (loc_variables l) o in λ i. InLocations (term_fill p each.0 i) (term_fill q each.1.0 i) (loc_fill l each.1.1 i)
    formula_fill (pattern.Tested h p) o = λ i. tested h (term_fill p o i)
    formula_fill (pattern.Classed h k p) o = let each = halves (kind_variables k) (term_variables p) o in λ i. classed h (kind_fill k each.0 i) (term_fill p each.1 i)
