-- What it is for an instantiation to make a pattern a tree, form by form: what matching goes by.
use Rattle.std.proofs.Common.{◌≡◌, ℕ, true, not, nat_eq, Option, Some, None}
use Rattle.jd_base.specs.declared.sort.Sort.{Sort}
use Rattle.jd_syntax.specs.Names.{Name}
use Rattle.jd_syntax.specs.Codes.{PlainKind, Expr, Variable, Unary, Binary, ReadField, ReadElement, LengthOf, Cast, InstanceOf, Stmt, Set, WriteField, WriteElement, Evaluate, If, Block, Break, Catch, Finally, Throw, ThrowUnchecked, Return, ReturnVoid, Frame, Raise, NewArray, Stop, PlainCode, Done, Then}
use Rattle.jd_term.specs.Terms.{PlainTerm, sort_of_term, Number, Arithmetic, Select, Sum, Store, Create, Anon, NamedField, PlainLoc, NoLocations, AllLocations, Single, ElementRange, Union}
use Rattle.jd_term.specs.Formulas.{PlainFormula, TrueFormula, FalseFormula, Not, Modal, InLocations}
use Rattle.jd_term.specs.declared.formula.Modality.{Modality}
use Rattle.jd_patterns.specs.Patterns as pattern
use Rattle.jd_patterns.specs.Patterns.{SortPattern, SortVar, SortIs, KindPattern, KindVar, KindIs, ModalityPattern, ModalityVar, ModalityIs, NamePattern, NameVar, NameIs, ResultPattern, NoResult, ResultIn, ResultVar, ClassPattern, ClassVar, ExprPattern, StmtPattern, CodePattern, TermPattern, LocPattern, FormulaPattern}
use Rattle.jd_patterns.specs.Instances.{Instance, is_simple, is_simple_of, is_return}
use Rattle.jd_patterns.specs.Foci.{sought, first_in}
use Rattle.jd_patterns.specs.Matching.{part_of, object_of, sides_of, terms_of, body_of, term_under, object_under}

-- the tree has the form, and its parts the property
abbrev pub Where : {A : Type 0} → Option A → (A → Type 0) → Type 0
Where None P = ⊥
Where (Some a) P = P a

module _ (σ : Instance) where
  abbrev pub MeetsSort : SortPattern → Sort → Type 0
  MeetsSort (SortVar n) s = σ.sort n ≡ s
  MeetsSort (SortIs r) s = r ≡ s

  abbrev pub MeetsKind : KindPattern → PlainKind → Type 0
  MeetsKind (KindVar n) k = σ.kind n ≡ k
  MeetsKind (KindIs l) k = l ≡ k

  abbrev pub MeetsModality : ModalityPattern → Modality → Type 0
  MeetsModality (ModalityVar n) m = σ.modality n ≡ m
  MeetsModality (ModalityIs l) m = l ≡ m

  abbrev pub MeetsName : NamePattern → Name → Type 0
  MeetsName (NameVar n) x = σ.name n ≡ x
  MeetsName (NameIs y) x = y ≡ x

  abbrev pub MeetsResult : ResultPattern → Option Name → Type 0
  MeetsResult NoResult None = Unit {0}
  MeetsResult (ResultIn x) (Some y) = MeetsName x y
  MeetsResult (ResultVar n) r = σ.result n ≡ r
  MeetsResult p r = ⊥

  abbrev pub MeetsClass : ClassPattern → ℕ → Type 0
  MeetsClass (ClassVar n) c = σ.class n ≡ c
  MeetsClass p c = ⊥

  abbrev pub MeetsExpr : ExprPattern → Expr → Type 0
  MeetsExpr (pattern.Simple n) e = (is_simple e ≡ true) × (σ.simple n ≡ e)
  MeetsExpr (pattern.SimpleAt s n) e = (is_simple_of s e ≡ true) × (σ.simple n ≡ e)
  MeetsExpr (pattern.Variable x) (Variable y) = MeetsName x y
  MeetsExpr (pattern.Unary op e) (Unary o d) = (op ≡ o) × MeetsExpr e d
  MeetsExpr (pattern.Binary op e f) (Binary o c d) = (op ≡ o) × (MeetsExpr e c × MeetsExpr f d)
  MeetsExpr (pattern.ReadField e n) (ReadField d a) = MeetsExpr e d × (σ.field n ≡ a)
  MeetsExpr (pattern.ReadElement e f) (ReadElement c d) = MeetsExpr e c × MeetsExpr f d
  MeetsExpr (pattern.LengthOf e) (LengthOf d) = MeetsExpr e d
  MeetsExpr (pattern.Cast k e) (Cast l d) = MeetsKind k l × MeetsExpr e d
  MeetsExpr (pattern.InstanceOf k e) (InstanceOf l d) = MeetsKind k l × MeetsExpr e d
  MeetsExpr p e = ⊥

  abbrev mutual
    pub MeetsStmt : StmtPattern → Stmt → Type 0
    MeetsStmt (pattern.ReturnVar n) s = (is_return s ≡ true) × (σ.returned n ≡ s)
    MeetsStmt (pattern.BlockPast n m c) (Block l (Then (Break k) a)) = (not (nat_eq k l) ≡ true) × ((σ.label n ≡ l) × ((σ.label m ≡ k) × MeetsCode c a))
    MeetsStmt (pattern.Set x e) (Set y d) = MeetsName x y × MeetsExpr e d
    MeetsStmt (pattern.WriteField e n f) (WriteField c a d) = MeetsExpr e c × ((σ.field n ≡ a) × MeetsExpr f d)
    MeetsStmt (pattern.WriteElement e f g) (WriteElement b c d) = MeetsExpr e b × (MeetsExpr f c × MeetsExpr g d)
    MeetsStmt (pattern.Evaluate e) (Evaluate d) = MeetsExpr e d
    MeetsStmt (pattern.If e c d) (If f a b) = MeetsExpr e f × (MeetsCode c a × MeetsCode d b)
    MeetsStmt (pattern.Block n c) (Block l a) = (σ.label n ≡ l) × MeetsCode c a
    MeetsStmt (pattern.Break n) (Break l) = σ.label n ≡ l
    MeetsStmt (pattern.Catch c x d) (Catch a y b) = MeetsCode c a × (MeetsName x y × MeetsCode d b)
    MeetsStmt (pattern.Finally c d) (Finally a b) = MeetsCode c a × MeetsCode d b
    MeetsStmt (pattern.Throw e) (Throw d) = MeetsExpr e d
    MeetsStmt (pattern.ThrowUnchecked e) (ThrowUnchecked d) = MeetsExpr e d
    MeetsStmt (pattern.Return e) (Return d) = MeetsExpr e d
    MeetsStmt pattern.ReturnVoid ReturnVoid = Unit {0}
    MeetsStmt (pattern.Frame r c) (Frame q a) = MeetsResult r q × MeetsCode c a
    MeetsStmt (pattern.Raise c) (Raise a) = MeetsClass c a
    MeetsStmt (pattern.NewArray x e) (NewArray y d) = MeetsName x y × MeetsExpr e d
    MeetsStmt pattern.Stop Stop = Unit {0}
    MeetsStmt p s = ⊥

    pub MeetsCode : CodePattern → PlainCode → Type 0
    MeetsCode (pattern.CodeThen n pattern.Done) c = σ.code n ≡ c
    MeetsCode pattern.Done Done = Unit {0}
    MeetsCode (pattern.Then s c) (Then t d) = MeetsStmt s t × MeetsCode c d
    MeetsCode p c = ⊥

  abbrev mutual
    pub MeetsTerm : TermPattern → PlainTerm → Type 0
    MeetsTerm (pattern.AnyTerm n) t = σ.term n ≡ t
    MeetsTerm (pattern.TermOf s n) t = (sort_of_term t ≡ s) × (σ.term n ≡ t)
    MeetsTerm (pattern.LiteralVar n) (Number z) = σ.literal n ≡ z
    MeetsTerm (pattern.FieldVar n) (NamedField f) = σ.field n ≡ f
    MeetsTerm (pattern.Given p) t = p ≡ t
    MeetsTerm (pattern.OnePart h p) t = Where (part_of h t) (λ a. MeetsTerm p a)
    MeetsTerm (pattern.Arithmetic op p q) (Arithmetic o t u) = (op ≡ o) × (MeetsTerm p t × MeetsTerm q u)
    MeetsTerm (pattern.Select s p q r) (Select k h o f) = MeetsSort s k × (MeetsTerm p h × (MeetsTerm q o × MeetsTerm r f))
    MeetsTerm (pattern.Sum p q r) (Sum t u v) = MeetsTerm p t × (MeetsTerm q u × MeetsTerm r v)
    MeetsTerm (pattern.Store p q r s) (Store h o f t) = MeetsTerm p h × (MeetsTerm q o × (MeetsTerm r f × MeetsTerm s t))
    MeetsTerm (pattern.Create p q) (Create h o) = MeetsTerm p h × MeetsTerm q o
    MeetsTerm (pattern.Anon p l q) (Anon h m g) = MeetsTerm p h × (MeetsLoc l m × MeetsTerm q g)
    MeetsTerm p t = ⊥

    pub MeetsLoc : LocPattern → PlainLoc → Type 0
    MeetsLoc (pattern.LocVar n) l = σ.locations n ≡ l
    MeetsLoc (pattern.OfObject h p) l = Where (object_of h l) (λ a. MeetsTerm p a)
    MeetsLoc pattern.NoLocations NoLocations = Unit {0}
    MeetsLoc pattern.AllLocations AllLocations = Unit {0}
    MeetsLoc (pattern.Single p q) (Single o f) = MeetsTerm p o × MeetsTerm q f
    MeetsLoc (pattern.ElementRange p q r) (ElementRange o t u) = MeetsTerm p o × (MeetsTerm q t × MeetsTerm r u)
    MeetsLoc (pattern.Union l k) (Union m n) = MeetsLoc l m × MeetsLoc k n
    MeetsLoc p l = ⊥

  abbrev pub MeetsFormula : FormulaPattern → PlainFormula → Type 0
  MeetsFormula (pattern.FormulaVar n) a = σ.formula n ≡ a
  MeetsFormula (pattern.Connected h p q) f = Where (sides_of h f) (λ a. MeetsFormula p a.0 × MeetsFormula q a.1)
  MeetsFormula (pattern.Compared h p q) f = Where (terms_of h f) (λ a. MeetsTerm p a.0 × MeetsTerm q a.1)
  MeetsFormula (pattern.Quantified h s p) f = Where (body_of h f) (λ a. MeetsSort s a.0 × MeetsFormula p a.1)
  MeetsFormula (pattern.Tested h p) f = Where (term_under h f) (λ a. MeetsTerm p a)
  MeetsFormula (pattern.Classed h k p) f = Where (object_under h f) (λ a. MeetsKind k a.0 × MeetsTerm p a.1)
  MeetsFormula (pattern.Focus n k (pattern.Then s pattern.Done) p) (Modal m d a) = (σ.modality n ≡ m) × (Where (first_in (sought s) d) (λ q. (σ.context k ≡ q.0) × MeetsStmt s q.1) × MeetsFormula p a)
  MeetsFormula pattern.TrueFormula TrueFormula = Unit {0}
  MeetsFormula pattern.FalseFormula FalseFormula = Unit {0}
  MeetsFormula (pattern.Not p) (Not a) = MeetsFormula p a
  MeetsFormula (pattern.Modal m c p) (Modal n d a) = MeetsModality m n × (MeetsCode c d × MeetsFormula p a)
  MeetsFormula (pattern.InLocations p q l) (InLocations o f m) = MeetsTerm p o × (MeetsTerm q f × MeetsLoc l m)
  MeetsFormula p a = ⊥
