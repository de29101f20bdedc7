-- Which patterns may stand in a find or be assumed, and what a find asks of its variables.
use Rattle.std.specs.Prelude.{◌≡◌, true, not, nat_eq}
use Rattle.jd_term.specs.Terms.{sort_of_term}
use Rattle.jd_patterns.specs.Patterns as pattern
use Rattle.jd_patterns.specs.Patterns.{ClassPattern, ClassVar, ExprPattern, StmtPattern, CodePattern, TermPattern, LocPattern, FormulaPattern}
use Rattle.jd_patterns.specs.Instances.{Instance, is_simple, is_simple_of, is_return}

module _ (σ : Instance) where
  -- the variables stand for parts of the sorts and forms that the pattern asks for
  abbrev pub FitsExpr : ExprPattern → Type 0
  FitsExpr (pattern.Simple n) = is_simple (σ.simple n) ≡ true
  FitsExpr (pattern.SimpleAt s n) = is_simple_of s (σ.simple n) ≡ true
  FitsExpr (pattern.Unary op e) = FitsExpr e
  FitsExpr (pattern.Binary op e f) = FitsExpr e × FitsExpr f
  FitsExpr (pattern.ReadField e n) = FitsExpr e
  FitsExpr (pattern.ReadElement e f) = FitsExpr e × FitsExpr f
  FitsExpr (pattern.LengthOf e) = FitsExpr e
  FitsExpr (pattern.Cast k e) = FitsExpr e
  FitsExpr (pattern.InstanceOf k e) = FitsExpr e
  FitsExpr p = Unit {0}

  abbrev mutual
    pub FitsStmt : StmtPattern → Type 0
    FitsStmt (pattern.ReturnVar n) = is_return (σ.returned n) ≡ true
    FitsStmt (pattern.BlockPast n m c) = (not (nat_eq (σ.label m) (σ.label n)) ≡ true) × FitsCode c
    FitsStmt (pattern.Set x e) = FitsExpr e
    FitsStmt (pattern.WriteField e n f) = FitsExpr e × FitsExpr f
    FitsStmt (pattern.WriteElement e f g) = FitsExpr e × (FitsExpr f × FitsExpr g)
    FitsStmt (pattern.Evaluate e) = FitsExpr e
    FitsStmt (pattern.If e c d) = FitsExpr e × (FitsCode c × FitsCode d)
    FitsStmt (pattern.Block n c) = FitsCode c
    FitsStmt (pattern.Catch c x d) = FitsCode c × FitsCode d
    FitsStmt (pattern.Finally c d) = FitsCode c × FitsCode d
    FitsStmt (pattern.Throw e) = FitsExpr e
    FitsStmt (pattern.ThrowUnchecked e) = FitsExpr e
    FitsStmt (pattern.Return e) = FitsExpr e
    FitsStmt (pattern.Frame r c) = FitsCode c
    FitsStmt (pattern.NewArray x e) = FitsExpr e
    FitsStmt p = Unit {0}

    pub FitsCode : CodePattern → Type 0
    FitsCode (pattern.Then s c) = FitsStmt s × FitsCode c
    FitsCode p = Unit {0}

  abbrev mutual
    pub FitsTerm : TermPattern → Type 0
    FitsTerm (pattern.TermOf s n) = sort_of_term (σ.term n) ≡ s
    FitsTerm (pattern.OnePart h p) = FitsTerm p
    FitsTerm (pattern.Arithmetic op p q) = FitsTerm p × FitsTerm q
    FitsTerm (pattern.Select s p q r) = FitsTerm p × (FitsTerm q × FitsTerm r)
    FitsTerm (pattern.Sum p q r) = FitsTerm p × (FitsTerm q × FitsTerm r)
    FitsTerm (pattern.Store p q r s) = FitsTerm p × (FitsTerm q × (FitsTerm r × FitsTerm s))
    FitsTerm (pattern.Create p q) = FitsTerm p × FitsTerm q
    FitsTerm (pattern.Anon p l q) = FitsTerm p × (FitsLoc l × FitsTerm q)
    FitsTerm p = Unit {0}

    pub FitsLoc : LocPattern → Type 0
    FitsLoc (pattern.OfObject h p) = FitsTerm p
    FitsLoc (pattern.Single p q) = FitsTerm p × FitsTerm q
    FitsLoc (pattern.ElementRange p q r) = FitsTerm p × (FitsTerm q × FitsTerm r)
    FitsLoc (pattern.Union l k) = FitsLoc l × FitsLoc k
    FitsLoc p = Unit {0}

  abbrev pub FitsFormula : FormulaPattern → Type 0
  FitsFormula (pattern.Connected h p q) = FitsFormula p × FitsFormula q
  FitsFormula (pattern.Compared h p q) = FitsTerm p × FitsTerm q
  FitsFormula (pattern.Quantified h s p) = FitsFormula p
  FitsFormula (pattern.Tested h p) = FitsTerm p
  FitsFormula (pattern.Classed h k p) = FitsTerm p
  FitsFormula (pattern.Focus n k (pattern.Then s pattern.Done) p) = FitsStmt s × FitsFormula p
  FitsFormula (pattern.Not p) = FitsFormula p
  FitsFormula (pattern.Modal m c p) = FitsCode c × FitsFormula p
  FitsFormula (pattern.InLocations p q l) = FitsTerm p × (FitsTerm q × FitsLoc l)
  FitsFormula p = Unit {0}

-- ---- the forms that may stand in a find

abbrev pub IsFindClass : ClassPattern → Type 0
IsFindClass (ClassVar n) = Unit {0}
IsFindClass p = ⊥

abbrev pub IsFindExpr : ExprPattern → Type 0
IsFindExpr (pattern.Simple n) = Unit {0}
IsFindExpr (pattern.SimpleAt s n) = Unit {0}
IsFindExpr (pattern.Variable x) = Unit {0}
IsFindExpr (pattern.Unary op e) = IsFindExpr e
IsFindExpr (pattern.Binary op e f) = IsFindExpr e × IsFindExpr f
IsFindExpr (pattern.ReadField e n) = IsFindExpr e
IsFindExpr (pattern.ReadElement e f) = IsFindExpr e × IsFindExpr f
IsFindExpr (pattern.LengthOf e) = IsFindExpr e
IsFindExpr (pattern.Cast k e) = IsFindExpr e
IsFindExpr (pattern.InstanceOf k e) = IsFindExpr e

abbrev mutual
  pub IsFindStmt : StmtPattern → Type 0
  IsFindStmt (pattern.ReturnVar n) = Unit {0}
  IsFindStmt (pattern.BlockPast n m c) = IsFindCode c
  IsFindStmt (pattern.Set x e) = IsFindExpr e
  IsFindStmt (pattern.WriteField e n f) = IsFindExpr e × IsFindExpr f
  IsFindStmt (pattern.WriteElement e f g) = IsFindExpr e × (IsFindExpr f × IsFindExpr g)
  IsFindStmt (pattern.Evaluate e) = IsFindExpr e
  IsFindStmt (pattern.If e c d) = IsFindExpr e × (IsFindCode c × IsFindCode d)
  IsFindStmt (pattern.Block n c) = IsFindCode c
  IsFindStmt (pattern.Break n) = Unit {0}
  IsFindStmt (pattern.Catch c x d) = IsFindCode c × IsFindCode d
  IsFindStmt (pattern.Finally c d) = IsFindCode c × IsFindCode d
  IsFindStmt (pattern.Throw e) = IsFindExpr e
  IsFindStmt (pattern.ThrowUnchecked e) = IsFindExpr e
  IsFindStmt (pattern.Return e) = IsFindExpr e
  IsFindStmt pattern.ReturnVoid = Unit {0}
  IsFindStmt (pattern.Frame r c) = IsFindCode c
  IsFindStmt (pattern.Raise c) = IsFindClass c
  IsFindStmt (pattern.NewArray x e) = IsFindExpr e
  IsFindStmt pattern.Stop = Unit {0}
  IsFindStmt p = ⊥

  pub IsFindCode : CodePattern → Type 0
  IsFindCode (pattern.CodeThen n pattern.Done) = Unit {0}
  IsFindCode pattern.Done = Unit {0}
  IsFindCode (pattern.Then s c) = IsFindStmt s × IsFindCode c
  IsFindCode p = ⊥

-- a statement that is bare in each instance
abbrev pub IsBareFind : StmtPattern → Type 0
IsBareFind (pattern.Block n pattern.Done) = Unit {0}
IsBareFind (pattern.Block n c) = ⊥
IsBareFind (pattern.BlockPast n m c) = ⊥
IsBareFind (pattern.Catch pattern.Done x d) = Unit {0}
IsBareFind (pattern.Catch c x d) = ⊥
IsBareFind (pattern.Finally pattern.Done d) = Unit {0}
IsBareFind (pattern.Finally c d) = ⊥
IsBareFind (pattern.Frame r pattern.Done) = Unit {0}
IsBareFind (pattern.Frame r c) = ⊥
IsBareFind p = Unit {0}

-- a statement that is bare or outer in each instance: so it is the first that is sought
abbrev pub IsFocusFind : StmtPattern → Type 0
IsFocusFind (pattern.Block n (pattern.Then s c)) = IsBareFind s
IsFocusFind (pattern.BlockPast n m c) = Unit {0}
IsFocusFind (pattern.Catch (pattern.Then s c) x d) = IsBareFind s
IsFocusFind (pattern.Finally (pattern.Then s c) d) = IsBareFind s
IsFocusFind (pattern.Frame r (pattern.Then s c)) = IsBareFind s
IsFocusFind p = IsBareFind p

abbrev mutual
  pub IsFindTerm : TermPattern → Type 0
  IsFindTerm (pattern.AnyTerm n) = Unit {0}
  IsFindTerm (pattern.TermOf s n) = Unit {0}
  IsFindTerm (pattern.LiteralVar n) = Unit {0}
  IsFindTerm (pattern.FieldVar n) = Unit {0}
  IsFindTerm (pattern.Given t) = Unit {0}
  IsFindTerm (pattern.OnePart h p) = IsFindTerm p
  IsFindTerm (pattern.Arithmetic op p q) = IsFindTerm p × IsFindTerm q
  IsFindTerm (pattern.Select s p q r) = IsFindTerm p × (IsFindTerm q × IsFindTerm r)
  IsFindTerm (pattern.Sum p q r) = IsFindTerm p × (IsFindTerm q × IsFindTerm r)
  IsFindTerm (pattern.Store p q r s) = IsFindTerm p × (IsFindTerm q × (IsFindTerm r × IsFindTerm s))
  IsFindTerm (pattern.Create p q) = IsFindTerm p × IsFindTerm q
  IsFindTerm (pattern.Anon p l q) = IsFindTerm p × (IsFindLoc l × IsFindTerm q)
  IsFindTerm p = ⊥

  pub IsFindLoc : LocPattern → Type 0
  IsFindLoc (pattern.LocVar n) = Unit {0}
  IsFindLoc (pattern.OfObject h p) = IsFindTerm p
  IsFindLoc pattern.NoLocations = Unit {0}
  IsFindLoc pattern.AllLocations = Unit {0}
  IsFindLoc (pattern.Single p q) = IsFindTerm p × IsFindTerm q
  IsFindLoc (pattern.ElementRange p q r) = IsFindTerm p × (IsFindTerm q × IsFindTerm r)
  IsFindLoc (pattern.Union l k) = IsFindLoc l × IsFindLoc k
  IsFindLoc p = ⊥

abbrev pub IsFindFormula : FormulaPattern → Type 0
IsFindFormula (pattern.FormulaVar n) = Unit {0}
IsFindFormula (pattern.Connected h p q) = IsFindFormula p × IsFindFormula q
IsFindFormula (pattern.Compared h p q) = IsFindTerm p × IsFindTerm q
IsFindFormula (pattern.Quantified h s p) = IsFindFormula p
IsFindFormula (pattern.Tested h p) = IsFindTerm p
IsFindFormula (pattern.Classed h k p) = IsFindTerm p
IsFindFormula (pattern.Focus n k (pattern.Then s pattern.Done) p) = IsFocusFind s × (IsFindStmt s × IsFindFormula p)
IsFindFormula pattern.TrueFormula = Unit {0}
IsFindFormula pattern.FalseFormula = Unit {0}
IsFindFormula (pattern.Not p) = IsFindFormula p
IsFindFormula (pattern.Modal m c p) = IsFindCode c × IsFindFormula p
IsFindFormula (pattern.InLocations p q l) = IsFindTerm p × (IsFindTerm q × IsFindLoc l)
IsFindFormula p = ⊥
