-- To meet a find is to be what it means, with variables that are as it asks.
use Rattle.std.proofs.Common.{◌≡◌, ℕ, not, nat_eq, Option, Some, None, refl, sym, ap, ◌∙◌, subst}
use Rattle.jd_base.specs.declared.sort.Sort.{Sort}
use Rattle.jd_syntax.specs.Names.{Name}
use Rattle.jd_syntax.specs.Codes.{PlainKind, Expr, Variable, Unary, Binary, ReadField, ReadElement, LengthOf, Cast, InstanceOf, Stmt, Set, WriteField, WriteElement, Evaluate, If, Block, Break, Catch, Finally, Throw, ThrowUnchecked, Return, ReturnVoid, Frame, Raise, NewArray, Stop, PlainCode, Done, Then}
use Rattle.jd_term.specs.Terms.{PlainTerm, sort_of_term, Number, Arithmetic, Negation, Wrap, Length, Select, Sum, Store, Create, Anon, NamedField, ElementField, PlainLoc, NoLocations, AllLocations, Single, ObjectFields, ArrayElements, ElementRange, Union}
use Rattle.jd_term.specs.Formulas.{PlainFormula, TrueFormula, FalseFormula, Not, And, Or, Implies, Iff, Equal, Less, LessOrEqual, Forall, Exists, Modal, InLocations, InInt, WellFormed, Invariant, IsInstance, IsExactInstance}
use Rattle.jd_term.specs.declared.formula.Modality.{Modality}
use Rattle.jd_model.specs.Contexts.{Context, fill, one}
use Rattle.jd_model.specs.Programs.{Program}
use Rattle.jd_patterns.specs.Patterns as pattern
use Rattle.jd_patterns.specs.Patterns.{SortPattern, SortVar, SortIs, KindPattern, KindVar, KindIs, ModalityPattern, ModalityVar, ModalityIs, NamePattern, NameVar, NameIs, ResultPattern, NoResult, ResultIn, ResultVar, ClassPattern, ClassVar, ExprPattern, StmtPattern, CodePattern, UnaryTerm, NegationOf, WrapOf, LengthOfArray, ElementOf, UnaryLoc, FieldsOf, ElementsOf, TermPattern, LocPattern, Connective, AndOf, OrOf, ImpliesOf, IffOf, Comparison, EqualOf, LessOf, LessOrEqualOf, InvariantOf, Quantifier, ForallOf, ExistsOf, TermTest, InIntOf, WellFormedOf, KindTest, InstanceTest, ExactTest, FormulaPattern}
use Rattle.jd_patterns.specs.Instances.{Instance, one_part, of_object, connected, compared, quantified, tested, classed, is_simple, is_simple_of, is_return, of_sort, of_kind, of_modality, of_name, of_result, of_class, of_expr, of_stmt, of_code, of_term, of_loc, of_formula}
use Rattle.jd_patterns.specs.Foci.{sought, first_in}
use Rattle.jd_patterns.specs.Matching.{part_of, object_of, sides_of, terms_of, body_of, term_under, object_under}
use Rattle.jd_patterns.specs.Finds.{FitsExpr, FitsStmt, FitsCode, FitsTerm, FitsLoc, FitsFormula, IsFindClass, IsFindExpr, IsFindStmt, IsFindCode, IsFocusFind, IsFindTerm, IsFindLoc, IsFindFormula}
use Rattle.jd_patterns.proofs.Foci.{found_again, found_fills, Fills, sharp_of, sought_in}
use Rattle.jd_pattern_laws.proofs.Meets.{Where, MeetsSort, MeetsKind, MeetsModality, MeetsName, MeetsResult, MeetsClass, MeetsExpr, MeetsStmt, MeetsCode, MeetsTerm, MeetsLoc, MeetsFormula}

-- ---- a tree's parts and the tree

-- parts with the property that make up the tree
abbrev Parted : {A B : Type 0} → (A → B) → B → (A → Type 0) → Type 0
Parted {A} f t P = (a : A) × ((f a ≡ t) × P a)

part_of_is : (h : UnaryTerm) (t : PlainTerm) (P : PlainTerm → Type 0) → Where (part_of h t) P → Parted (one_part h) t P
part_of_is NegationOf (Negation a) P m = (a, (refl, m))
part_of_is WrapOf (Wrap a) P m = (a, (refl, m))
part_of_is LengthOfArray (Length a) P m = (a, (refl, m))
part_of_is ElementOf (ElementField a) P m = (a, (refl, m))
part_of_is h t P m = absurd m

part_of_own : (h : UnaryTerm) (a : PlainTerm) (P : PlainTerm → Type 0) → P a → Where (part_of h (one_part h a)) P
part_of_own NegationOf a P m = m
part_of_own WrapOf a P m = m
part_of_own LengthOfArray a P m = m
part_of_own ElementOf a P m = m

object_of_is : (h : UnaryLoc) (l : PlainLoc) (P : PlainTerm → Type 0) → Where (object_of h l) P → Parted (of_object h) l P
object_of_is FieldsOf (ObjectFields a) P m = (a, (refl, m))
object_of_is ElementsOf (ArrayElements a) P m = (a, (refl, m))
object_of_is h l P m = absurd m

object_of_own : (h : UnaryLoc) (a : PlainTerm) (P : PlainTerm → Type 0) → P a → Where (object_of h (of_object h a)) P
object_of_own FieldsOf a P m = m
object_of_own ElementsOf a P m = m

sides_of_is : (h : Connective) (f : PlainFormula) (P : PlainFormula × PlainFormula → Type 0) → Where (sides_of h f) P → Parted (λ a. connected h a.0 a.1) f P
sides_of_is AndOf (And a c) P m = ((a, c), (refl, m))
sides_of_is OrOf (Or a c) P m = ((a, c), (refl, m))
sides_of_is ImpliesOf (Implies a c) P m = ((a, c), (refl, m))
sides_of_is IffOf (Iff a c) P m = ((a, c), (refl, m))
sides_of_is h f P m = absurd m

sides_of_own : (h : Connective) (a c : PlainFormula) (P : PlainFormula × PlainFormula → Type 0) → P (a, c) → Where (sides_of h (connected h a c)) P
sides_of_own AndOf a c P m = m
sides_of_own OrOf a c P m = m
sides_of_own ImpliesOf a c P m = m
sides_of_own IffOf a c P m = m

terms_of_is : (h : Comparison) (f : PlainFormula) (P : PlainTerm × PlainTerm → Type 0) → Where (terms_of h f) P → Parted (λ a. compared h a.0 a.1) f P
terms_of_is EqualOf (Equal t u) P m = ((t, u), (refl, m))
terms_of_is LessOf (Less t u) P m = ((t, u), (refl, m))
terms_of_is LessOrEqualOf (LessOrEqual t u) P m = ((t, u), (refl, m))
terms_of_is InvariantOf (Invariant t u) P m = ((t, u), (refl, m))
terms_of_is h f P m = absurd m

terms_of_own : (h : Comparison) (t u : PlainTerm) (P : PlainTerm × PlainTerm → Type 0) → P (t, u) → Where (terms_of h (compared h t u)) P
terms_of_own EqualOf t u P m = m
terms_of_own LessOf t u P m = m
terms_of_own LessOrEqualOf t u P m = m
terms_of_own InvariantOf t u P m = m

body_of_is : (h : Quantifier) (f : PlainFormula) (P : Sort × PlainFormula → Type 0) → Where (body_of h f) P → Parted (λ a. quantified h a.0 a.1) f P
body_of_is ForallOf (Forall s a) P m = ((s, a), (refl, m))
body_of_is ExistsOf (Exists s a) P m = ((s, a), (refl, m))
body_of_is h f P m = absurd m

body_of_own : (h : Quantifier) (s : Sort) (a : PlainFormula) (P : Sort × PlainFormula → Type 0) → P (s, a) → Where (body_of h (quantified h s a)) P
body_of_own ForallOf s a P m = m
body_of_own ExistsOf s a P m = m

term_under_is : (h : TermTest) (f : PlainFormula) (P : PlainTerm → Type 0) → Where (term_under h f) P → Parted (tested h) f P
term_under_is InIntOf (InInt t) P m = (t, (refl, m))
term_under_is WellFormedOf (WellFormed t) P m = (t, (refl, m))
term_under_is h f P m = absurd m

term_under_own : (h : TermTest) (t : PlainTerm) (P : PlainTerm → Type 0) → P t → Where (term_under h (tested h t)) P
term_under_own InIntOf t P m = m
term_under_own WellFormedOf t P m = m

object_under_is : (h : KindTest) (f : PlainFormula) (P : PlainKind × PlainTerm → Type 0) → Where (object_under h f) P → Parted (λ a. classed h a.0 a.1) f P
object_under_is InstanceTest (IsInstance k o) P m = ((k, o), (refl, m))
object_under_is ExactTest (IsExactInstance k o) P m = ((k, o), (refl, m))
object_under_is h f P m = absurd m

object_under_own : (h : KindTest) (k : PlainKind) (o : PlainTerm) (P : PlainKind × PlainTerm → Type 0) → P (k, o) → Where (object_under h (classed h k o)) P
object_under_own InstanceTest k o P m = m
object_under_own ExactTest k o P m = m

-- ---- patterns

module _ (q : Program) (σ : Instance) where
  sort_is : (p : SortPattern) (s : Sort) → MeetsSort σ p s → of_sort q σ p ≡ s
  sort_is (SortVar n) s h = h
  sort_is (SortIs r) s h = h

  own_sort : (p : SortPattern) → MeetsSort σ p (of_sort q σ p)
  own_sort (SortVar n) = refl
  own_sort (SortIs r) = refl

  kind_is : (p : KindPattern) (k : PlainKind) → MeetsKind σ p k → of_kind q σ p ≡ k
  kind_is (KindVar n) k h = h
  kind_is (KindIs l) k h = h

  own_kind : (p : KindPattern) → MeetsKind σ p (of_kind q σ p)
  own_kind (KindVar n) = refl
  own_kind (KindIs l) = refl

  modality_is : (p : ModalityPattern) (m : Modality) → MeetsModality σ p m → of_modality q σ p ≡ m
  modality_is (ModalityVar n) m h = h
  modality_is (ModalityIs l) m h = h

  own_modality : (p : ModalityPattern) → MeetsModality σ p (of_modality q σ p)
  own_modality (ModalityVar n) = refl
  own_modality (ModalityIs l) = refl

  name_is : (p : NamePattern) (x : Name) → MeetsName σ p x → of_name q σ p ≡ x
  name_is (NameVar n) x h = h
  name_is (NameIs y) x h = h

  own_name : (p : NamePattern) → MeetsName σ p (of_name q σ p)
  own_name (NameVar n) = refl
  own_name (NameIs y) = refl

  result_is : (p : ResultPattern) (r : Option Name) → MeetsResult σ p r → of_result q σ p ≡ r
  result_is NoResult None h = refl
  result_is (ResultIn x) (Some y) h = ap Some (name_is x y h)
  result_is (ResultVar n) r h = h
  result_is p r h = absurd h

  own_result : (p : ResultPattern) → MeetsResult σ p (of_result q σ p)
  own_result NoResult = tt
  own_result (ResultIn x) = own_name x
  own_result (ResultVar n) = refl

  class_is : (p : ClassPattern) (c : ℕ) → IsFindClass p → MeetsClass σ p c → of_class q σ p ≡ c
  class_is (ClassVar n) c o h = h
  class_is p c o h = absurd h

  own_class : (p : ClassPattern) → IsFindClass p → MeetsClass σ p (of_class q σ p)
  own_class (ClassVar n) o = refl
  own_class p o = absurd o

  expr_is : (p : ExprPattern) (e : Expr) → IsFindExpr p → MeetsExpr σ p e → of_expr q σ p ≡ e
  expr_is (pattern.Simple n) e ok met = met.1
  expr_is (pattern.SimpleAt s n) e ok met = met.1
  expr_is (pattern.Variable x) (Variable y) ok met = λ i. Variable (name_is x y met i)
  expr_is (pattern.Unary op e) (Unary o d) ok met = λ i. Unary (met.0 i) (expr_is e d ok met.1 i)
  expr_is (pattern.Binary op e f) (Binary o c d) ok met = λ i. Binary (met.0 i) (expr_is e c ok.0 met.1.0 i) (expr_is f d ok.1 met.1.1 i)
  expr_is (pattern.ReadField e n) (ReadField d a) ok met = λ i. ReadField (expr_is e d ok met.0 i) (met.1 i)
  expr_is (pattern.ReadElement e f) (ReadElement c d) ok met = λ i. ReadElement (expr_is e c ok.0 met.0 i) (expr_is f d ok.1 met.1 i)
  expr_is (pattern.LengthOf e) (LengthOf d) ok met = λ i. LengthOf (expr_is e d ok met i)
  expr_is (pattern.Cast k e) (Cast l d) ok met = λ i. Cast (kind_is k l met.0 i) (expr_is e d ok met.1 i)
  expr_is (pattern.InstanceOf k e) (InstanceOf l d) ok met = λ i. InstanceOf (kind_is k l met.0 i) (expr_is e d ok met.1 i)
  expr_is p e ok met = absurd met

  own_expr : (p : ExprPattern) → IsFindExpr p → FitsExpr σ p → MeetsExpr σ p (of_expr q σ p)
  own_expr (pattern.Simple n) ok j = (j, refl)
  own_expr (pattern.SimpleAt s n) ok j = (j, refl)
  own_expr (pattern.Variable x) ok j = own_name x
  own_expr (pattern.Unary op e) ok j = (refl, own_expr e ok j)
  own_expr (pattern.Binary op e f) ok j = (refl, (own_expr e ok.0 j.0, own_expr f ok.1 j.1))
  own_expr (pattern.ReadField e n) ok j = (own_expr e ok j, refl)
  own_expr (pattern.ReadElement e f) ok j = (own_expr e ok.0 j.0, own_expr f ok.1 j.1)
  own_expr (pattern.LengthOf e) ok j = own_expr e ok j
  own_expr (pattern.Cast k e) ok j = (own_kind k, own_expr e ok j)
  own_expr (pattern.InstanceOf k e) ok j = (own_kind k, own_expr e ok j)

  expr_fits : (p : ExprPattern) (e : Expr) → MeetsExpr σ p e → FitsExpr σ p
  expr_fits (pattern.Simple n) e met = ap is_simple met.1 ∙ met.0
  expr_fits (pattern.SimpleAt s n) e met = ap (is_simple_of s) met.1 ∙ met.0
  expr_fits (pattern.Variable x) e met = tt
  expr_fits (pattern.Unary op e) (Unary o d) met = expr_fits e d met.1
  expr_fits (pattern.Binary op e f) (Binary o c d) met = (expr_fits e c met.1.0, expr_fits f d met.1.1)
  expr_fits (pattern.ReadField e n) (ReadField d a) met = expr_fits e d met.0
  expr_fits (pattern.ReadElement e f) (ReadElement c d) met = (expr_fits e c met.0, expr_fits f d met.1)
  expr_fits (pattern.LengthOf e) (LengthOf d) met = expr_fits e d met
  expr_fits (pattern.Cast k e) (Cast l d) met = expr_fits e d met.1
  expr_fits (pattern.InstanceOf k e) (InstanceOf l d) met = expr_fits e d met.1
  expr_fits p e met = absurd met

  mutual
    stmt_is : (p : StmtPattern) (s : Stmt) → IsFindStmt p → MeetsStmt σ p s → of_stmt q σ p ≡ s
    stmt_is (pattern.ReturnVar n) s ok met = met.1
    stmt_is (pattern.BlockPast n m c) (Block l (Then (Break k) a)) ok met = λ i. Block (met.1.0 i) (Then (Break (met.1.1.0 i)) (code_is c a ok met.1.1.1 i))
    stmt_is (pattern.Set x e) (Set y d) ok met = λ i. Set (name_is x y met.0 i) (expr_is e d ok met.1 i)
    stmt_is (pattern.WriteField e n f) (WriteField c a d) ok met = λ i. WriteField (expr_is e c ok.0 met.0 i) (met.1.0 i) (expr_is f d ok.1 met.1.1 i)
    stmt_is (pattern.WriteElement e f g) (WriteElement b c d) ok met = λ i. WriteElement (expr_is e b ok.0 met.0 i) (expr_is f c ok.1.0 met.1.0 i) (expr_is g d ok.1.1 met.1.1 i)
    stmt_is (pattern.Evaluate e) (Evaluate d) ok met = λ i. Evaluate (expr_is e d ok met i)
    stmt_is (pattern.If e c d) (If f a b) ok met = λ i. If (expr_is e f ok.0 met.0 i) (code_is c a ok.1.0 met.1.0 i) (code_is d b ok.1.1 met.1.1 i)
    stmt_is (pattern.Block n c) (Block l a) ok met = λ i. Block (met.0 i) (code_is c a ok met.1 i)
    stmt_is (pattern.Break n) (Break l) ok met = λ i. Break (met i)
    stmt_is (pattern.Catch c x d) (Catch a y b) ok met = λ i. Catch (code_is c a ok.0 met.0 i) (name_is x y met.1.0 i) (code_is d b ok.1 met.1.1 i)
    stmt_is (pattern.Finally c d) (Finally a b) ok met = λ i. Finally (code_is c a ok.0 met.0 i) (code_is d b ok.1 met.1 i)
    stmt_is (pattern.Throw e) (Throw d) ok met = λ i. Throw (expr_is e d ok met i)
    stmt_is (pattern.ThrowUnchecked e) (ThrowUnchecked d) ok met = λ i. ThrowUnchecked (expr_is e d ok met i)
    stmt_is (pattern.Return e) (Return d) ok met = λ i. Return (expr_is e d ok met i)
    stmt_is pattern.ReturnVoid ReturnVoid ok met = refl
    stmt_is (pattern.Frame r c) (Frame q a) ok met = λ i. Frame (result_is r q met.0 i) (code_is c a ok met.1 i)
    stmt_is (pattern.Raise c) (Raise a) ok met = λ i. Raise (class_is c a ok met i)
    stmt_is (pattern.NewArray x e) (NewArray y d) ok met = λ i. NewArray (name_is x y met.0 i) (expr_is e d ok met.1 i)
    stmt_is pattern.Stop Stop ok met = refl
    stmt_is p s ok met = absurd met

    code_is : (p : CodePattern) (c : PlainCode) → IsFindCode p → MeetsCode σ p c → of_code q σ p ≡ c
    code_is (pattern.CodeThen n pattern.Done) c ok met = met
    code_is pattern.Done Done ok met = refl
    code_is (pattern.Then s c) (Then t d) ok met = λ i. Then (stmt_is s t ok.0 met.0 i) (code_is c d ok.1 met.1 i)
    code_is p c ok met = absurd met

  mutual
    own_stmt : (p : StmtPattern) → IsFindStmt p → FitsStmt σ p → MeetsStmt σ p (of_stmt q σ p)
    own_stmt (pattern.ReturnVar n) ok j = (j, refl)
    own_stmt (pattern.BlockPast n m c) ok j = (j.0, (refl, (refl, own_code c ok j.1)))
    own_stmt (pattern.Set x e) ok j = (own_name x, own_expr e ok j)
    own_stmt (pattern.WriteField e n f) ok j = (own_expr e ok.0 j.0, (refl, own_expr f ok.1 j.1))
    own_stmt (pattern.WriteElement e f g) ok j = (own_expr e ok.0 j.0, (own_expr f ok.1.0 j.1.0, own_expr g ok.1.1 j.1.1))
    own_stmt (pattern.Evaluate e) ok j = own_expr e ok j
    own_stmt (pattern.If e c d) ok j = (own_expr e ok.0 j.0, (own_code c ok.1.0 j.1.0, own_code d ok.1.1 j.1.1))
    own_stmt (pattern.Block n c) ok j = (refl, own_code c ok j)
    own_stmt (pattern.Break n) ok j = refl
    own_stmt (pattern.Catch c x d) ok j = (own_code c ok.0 j.0, (own_name x, own_code d ok.1 j.1))
    own_stmt (pattern.Finally c d) ok j = (own_code c ok.0 j.0, own_code d ok.1 j.1)
    own_stmt (pattern.Throw e) ok j = own_expr e ok j
    own_stmt (pattern.ThrowUnchecked e) ok j = own_expr e ok j
    own_stmt (pattern.Return e) ok j = own_expr e ok j
    own_stmt pattern.ReturnVoid ok j = tt
    own_stmt (pattern.Frame r c) ok j = (own_result r, own_code c ok j)
    own_stmt (pattern.Raise c) ok j = own_class c ok
    own_stmt (pattern.NewArray x e) ok j = (own_name x, own_expr e ok j)
    own_stmt pattern.Stop ok j = tt
    own_stmt p ok j = absurd ok

    own_code : (p : CodePattern) → IsFindCode p → FitsCode σ p → MeetsCode σ p (of_code q σ p)
    own_code (pattern.CodeThen n pattern.Done) ok j = refl
    own_code pattern.Done ok j = tt
    own_code (pattern.Then s c) ok j = (own_stmt s ok.0 j.0, own_code c ok.1 j.1)
    own_code p ok j = absurd ok

  mutual
    stmt_fits : (p : StmtPattern) (s : Stmt) → MeetsStmt σ p s → FitsStmt σ p
    stmt_fits (pattern.ReturnVar n) s met = ap is_return met.1 ∙ met.0
    stmt_fits (pattern.BlockPast n m c) (Block l (Then (Break k) a)) met = ((λ i. not (nat_eq (met.1.1.0 i) (met.1.0 i))) ∙ met.0, code_fits c a met.1.1.1)
    stmt_fits (pattern.Set x e) (Set y d) met = expr_fits e d met.1
    stmt_fits (pattern.WriteField e n f) (WriteField c a d) met = (expr_fits e c met.0, expr_fits f d met.1.1)
    stmt_fits (pattern.WriteElement e f g) (WriteElement b c d) met = (expr_fits e b met.0, (expr_fits f c met.1.0, expr_fits g d met.1.1))
    stmt_fits (pattern.Evaluate e) (Evaluate d) met = expr_fits e d met
    stmt_fits (pattern.If e c d) (If f a b) met = (expr_fits e f met.0, (code_fits c a met.1.0, code_fits d b met.1.1))
    stmt_fits (pattern.Block n c) (Block l a) met = code_fits c a met.1
    stmt_fits (pattern.Catch c x d) (Catch a y b) met = (code_fits c a met.0, code_fits d b met.1.1)
    stmt_fits (pattern.Finally c d) (Finally a b) met = (code_fits c a met.0, code_fits d b met.1)
    stmt_fits (pattern.Throw e) (Throw d) met = expr_fits e d met
    stmt_fits (pattern.ThrowUnchecked e) (ThrowUnchecked d) met = expr_fits e d met
    stmt_fits (pattern.Return e) (Return d) met = expr_fits e d met
    stmt_fits (pattern.Frame r c) (Frame q a) met = code_fits c a met.1
    stmt_fits (pattern.NewArray x e) (NewArray y d) met = expr_fits e d met.1
    stmt_fits (pattern.Break n) s met = tt
    stmt_fits pattern.ReturnVoid s met = tt
    stmt_fits (pattern.Raise c) s met = tt
    stmt_fits pattern.Stop s met = tt
    stmt_fits (pattern.AllocObject x c) s met = tt
    stmt_fits (pattern.AllocArray x e) s met = tt
    stmt_fits p s met = absurd met

    code_fits : (p : CodePattern) (c : PlainCode) → MeetsCode σ p c → FitsCode σ p
    code_fits pattern.Done c met = tt
    code_fits (pattern.CodeThen n d) c met = tt
    code_fits (pattern.Then s c) (Then t d) met = (stmt_fits s t met.0, code_fits c d met.1)
    code_fits p c met = absurd met

  focus_is : (s : StmtPattern) (k : pattern.SchemaVar) (d : PlainCode) (o : Option (Context × Stmt)) → IsFindStmt s → Fills d o → Where o (λ r. (σ.context k ≡ r.0) × MeetsStmt σ s r.1) → fill (σ.context k) (one (of_stmt q σ s)) ≡ d
  focus_is s k d None f e h = absurd h
  focus_is s k d (Some r) f e h = (λ i. fill (h.0 i) (one (stmt_is s r.1 f h.1 i))) ∙ e

  own_focus : (s : StmtPattern) (k : pattern.SchemaVar) → IsFocusFind s → IsFindStmt s → FitsStmt σ s → Where (first_in (sought s) (fill (σ.context k) (one (of_stmt q σ s)))) (λ r. (σ.context k ≡ r.0) × MeetsStmt σ s r.1)
  own_focus s k f o j = subst (λ r. Where r (λ x. (σ.context k ≡ x.0) × MeetsStmt σ s x.1)) (sym (found_again (sought s) (sharp_of s) (σ.context k) (of_stmt q σ s) (sought_in q σ s f j))) (refl, own_stmt s o j)

  focus_fits : (s : StmtPattern) (k : pattern.SchemaVar) (o : Option (Context × Stmt)) → Where o (λ r. (σ.context k ≡ r.0) × MeetsStmt σ s r.1) → FitsStmt σ s
  focus_fits s k None h = absurd h
  focus_fits s k (Some r) h = stmt_fits s r.1 h.1

  mutual
    pub term_is : (p : TermPattern) (t : PlainTerm) → IsFindTerm p → MeetsTerm σ p t → of_term q σ p ≡ t
    term_is (pattern.AnyTerm n) t ok met = met
    term_is (pattern.TermOf s n) t ok met = met.1
    term_is (pattern.LiteralVar n) (Number z) ok met = ap Number met
    term_is (pattern.FieldVar n) (NamedField f) ok met = ap NamedField met
    term_is (pattern.Given p) t ok met = met
    term_is (pattern.OnePart h p) t ok met = let r : Parted (one_part h) t _ = part_of_is h t _ met in (λ i. one_part h (term_is p r.0 ok r.1.1 i)) ∙ r.1.0
    term_is (pattern.Arithmetic op p q) (Arithmetic o t u) ok met = λ i. Arithmetic (met.0 i) (term_is p t ok.0 met.1.0 i) (term_is q u ok.1 met.1.1 i)
    term_is (pattern.Select s p q r) (Select k h o f) ok met = λ i. Select (sort_is s k met.0 i) (term_is p h ok.0 met.1.0 i) (term_is q o ok.1.0 met.1.1.0 i) (term_is r f ok.1.1 met.1.1.1 i)
    term_is (pattern.Sum p q r) (Sum t u v) ok met = λ i. Sum (term_is p t ok.0 met.0 i) (term_is q u ok.1.0 met.1.0 i) (term_is r v ok.1.1 met.1.1 i)
    term_is (pattern.Store p q r s) (Store h o f t) ok met = λ i. Store (term_is p h ok.0 met.0 i) (term_is q o ok.1.0 met.1.0 i) (term_is r f ok.1.1.0 met.1.1.0 i) (term_is s t ok.1.1.1 met.1.1.1 i)
    term_is (pattern.Create p q) (Create h o) ok met = λ i. Create (term_is p h ok.0 met.0 i) (term_is q o ok.1 met.1 i)
    term_is (pattern.Anon p l q) (Anon h m g) ok met = λ i. Anon (term_is p h ok.0 met.0 i) (loc_is l m ok.1.0 met.1.0 i) (term_is q g ok.1.1 met.1.1 i)
    term_is p t ok met = absurd met

    pub loc_is : (p : LocPattern) (l : PlainLoc) → IsFindLoc p → MeetsLoc σ p l → of_loc q σ p ≡ l
    loc_is (pattern.LocVar n) l ok met = met
    loc_is (pattern.OfObject h p) l ok met = let r : Parted (of_object h) l _ = object_of_is h l _ met in (λ i. of_object h (term_is p r.0 ok r.1.1 i)) ∙ r.1.0
    loc_is pattern.NoLocations NoLocations ok met = refl
    loc_is pattern.AllLocations AllLocations ok met = refl
    loc_is (pattern.Single p q) (Single o f) ok met = λ i. Single (term_is p o ok.0 met.0 i) (term_is q f ok.1 met.1 i)
    loc_is (pattern.ElementRange p q r) (ElementRange o t u) ok met = λ i. ElementRange (term_is p o ok.0 met.0 i) (term_is q t ok.1.0 met.1.0 i) (term_is r u ok.1.1 met.1.1 i)
    loc_is (pattern.Union l k) (Union m n) ok met = λ i. Union (loc_is l m ok.0 met.0 i) (loc_is k n ok.1 met.1 i)
    loc_is p l ok met = absurd met

  pub formula_is : (p : FormulaPattern) (a : PlainFormula) → IsFindFormula p → MeetsFormula σ p a → of_formula q σ p ≡ a
  formula_is (pattern.FormulaVar n) a ok met = met
  formula_is (pattern.Connected h p q) f ok met = let r : Parted (λ a. connected h a.0 a.1) f _ = sides_of_is h f _ met in (λ i. connected h (formula_is p r.0.0 ok.0 r.1.1.0 i) (formula_is q r.0.1 ok.1 r.1.1.1 i)) ∙ r.1.0
  formula_is (pattern.Compared h p q) f ok met = let r : Parted (λ a. compared h a.0 a.1) f _ = terms_of_is h f _ met in (λ i. compared h (term_is p r.0.0 ok.0 r.1.1.0 i) (term_is q r.0.1 ok.1 r.1.1.1 i)) ∙ r.1.0
  formula_is (pattern.Quantified h s p) f ok met = let r : Parted (λ a. quantified h a.0 a.1) f _ = body_of_is h f _ met in (λ i. quantified h (sort_is s r.0.0 r.1.1.0 i) (formula_is p r.0.1 ok r.1.1.1 i)) ∙ r.1.0
  formula_is (pattern.Tested h p) f ok met = let r : Parted (tested h) f _ = term_under_is h f _ met in (λ i. tested h (term_is p r.0 ok r.1.1 i)) ∙ r.1.0
  formula_is (pattern.Classed h k p) f ok met = let r : Parted (λ a. classed h a.0 a.1) f _ = object_under_is h f _ met in (λ i. classed h (kind_is k r.0.0 r.1.1.0 i) (term_is p r.0.1 ok r.1.1.1 i)) ∙ r.1.0
  formula_is (pattern.Focus n k (pattern.Then s pattern.Done) p) (Modal m d a) ok met = λ i. Modal (met.0 i) (focus_is s k d (first_in (sought s) d) ok.1.0 (found_fills (sought s) d) met.1.0 i) (formula_is p a ok.1.1 met.1.1 i)
  formula_is pattern.TrueFormula TrueFormula ok met = refl
  formula_is pattern.FalseFormula FalseFormula ok met = refl
  formula_is (pattern.Not p) (Not a) ok met = λ i. Not (formula_is p a ok met i)
  formula_is (pattern.Modal m c p) (Modal n d a) ok met = λ i. Modal (modality_is m n met.0 i) (code_is c d ok.0 met.1.0 i) (formula_is p a ok.1 met.1.1 i)
  formula_is (pattern.InLocations p q l) (InLocations o f m) ok met = λ i. InLocations (term_is p o ok.0 met.0 i) (term_is q f ok.1.0 met.1.0 i) (loc_is l m ok.1.1 met.1.1 i)
  formula_is p a ok met = absurd met

  mutual
    pub own_term : (p : TermPattern) → IsFindTerm p → FitsTerm σ p → MeetsTerm σ p (of_term q σ p)
    own_term (pattern.AnyTerm n) ok j = refl
    own_term (pattern.TermOf s n) ok j = (j, refl)
    own_term (pattern.LiteralVar n) ok j = refl
    own_term (pattern.FieldVar n) ok j = refl
    own_term (pattern.Given p) ok j = refl
    own_term (pattern.OnePart h p) ok j = part_of_own h _ _ (own_term p ok j)
    own_term (pattern.Arithmetic op p q) ok j = (refl, (own_term p ok.0 j.0, own_term q ok.1 j.1))
    own_term (pattern.Select s p q r) ok j = (own_sort s, (own_term p ok.0 j.0, (own_term q ok.1.0 j.1.0, own_term r ok.1.1 j.1.1)))
    own_term (pattern.Sum p q r) ok j = (own_term p ok.0 j.0, (own_term q ok.1.0 j.1.0, own_term r ok.1.1 j.1.1))
    own_term (pattern.Store p q r s) ok j = (own_term p ok.0 j.0, (own_term q ok.1.0 j.1.0, (own_term r ok.1.1.0 j.1.1.0, own_term s ok.1.1.1 j.1.1.1)))
    own_term (pattern.Create p q) ok j = (own_term p ok.0 j.0, own_term q ok.1 j.1)
    own_term (pattern.Anon p l q) ok j = (own_term p ok.0 j.0, (own_loc l ok.1.0 j.1.0, own_term q ok.1.1 j.1.1))
    own_term p ok j = absurd ok

    pub own_loc : (p : LocPattern) → IsFindLoc p → FitsLoc σ p → MeetsLoc σ p (of_loc q σ p)
    own_loc (pattern.LocVar n) ok j = refl
    own_loc (pattern.OfObject h p) ok j = object_of_own h _ _ (own_term p ok j)
    own_loc pattern.NoLocations ok j = tt
    own_loc pattern.AllLocations ok j = tt
    own_loc (pattern.Single p q) ok j = (own_term p ok.0 j.0, own_term q ok.1 j.1)
    own_loc (pattern.ElementRange p q r) ok j = (own_term p ok.0 j.0, (own_term q ok.1.0 j.1.0, own_term r ok.1.1 j.1.1))
    own_loc (pattern.Union l k) ok j = (own_loc l ok.0 j.0, own_loc k ok.1 j.1)
    own_loc p ok j = absurd ok

  pub own_formula : (p : FormulaPattern) → IsFindFormula p → FitsFormula σ p → MeetsFormula σ p (of_formula q σ p)
  own_formula (pattern.FormulaVar n) ok j = refl
  own_formula (pattern.Connected h p q) ok j = sides_of_own h _ _ _ (own_formula p ok.0 j.0, own_formula q ok.1 j.1)
  own_formula (pattern.Compared h p q) ok j = terms_of_own h _ _ _ (own_term p ok.0 j.0, own_term q ok.1 j.1)
  own_formula (pattern.Quantified h s p) ok j = body_of_own h _ _ _ (own_sort s, own_formula p ok j)
  own_formula (pattern.Tested h p) ok j = term_under_own h _ _ (own_term p ok j)
  own_formula (pattern.Classed h k p) ok j = object_under_own h _ _ _ (own_kind k, own_term p ok j)
  own_formula (pattern.Focus n k (pattern.Then s pattern.Done) p) ok j = (refl, (own_focus s k ok.0 ok.1.0 j.0, own_formula p ok.1.1 j.1))
  own_formula pattern.TrueFormula ok j = tt
  own_formula pattern.FalseFormula ok j = tt
  own_formula (pattern.Not p) ok j = own_formula p ok j
  own_formula (pattern.Modal m c p) ok j = (own_modality m, (own_code c ok.0 j.0, own_formula p ok.1 j.1))
  own_formula (pattern.InLocations p q l) ok j = (own_term p ok.0 j.0, (own_term q ok.1.0 j.1.0, own_loc l ok.1.1 j.1.1))
  own_formula p ok j = absurd ok

  mutual
    pub term_fits : (p : TermPattern) (t : PlainTerm) → MeetsTerm σ p t → FitsTerm σ p
    term_fits (pattern.TermOf s n) t met = ap sort_of_term met.1 ∙ met.0
    term_fits (pattern.OnePart h p) t met = let r : Parted (one_part h) t _ = part_of_is h t _ met in term_fits p r.0 r.1.1
    term_fits (pattern.Arithmetic op p q) (Arithmetic o t u) met = (term_fits p t met.1.0, term_fits q u met.1.1)
    term_fits (pattern.Select s p q r) (Select k h o f) met = (term_fits p h met.1.0, (term_fits q o met.1.1.0, term_fits r f met.1.1.1))
    term_fits (pattern.Sum p q r) (Sum t u v) met = (term_fits p t met.0, (term_fits q u met.1.0, term_fits r v met.1.1))
    term_fits (pattern.Store p q r s) (Store h o f t) met = (term_fits p h met.0, (term_fits q o met.1.0, (term_fits r f met.1.1.0, term_fits s t met.1.1.1)))
    term_fits (pattern.Create p q) (Create h o) met = (term_fits p h met.0, term_fits q o met.1)
    term_fits (pattern.Anon p l q) (Anon h m g) met = (term_fits p h met.0, (loc_fits l m met.1.0, term_fits q g met.1.1))
    term_fits (pattern.AnyTerm n) t met = tt
    term_fits (pattern.LiteralVar n) t met = tt
    term_fits (pattern.FieldVar n) t met = tt
    term_fits (pattern.Given g) t met = tt
    term_fits (pattern.Put n a) t met = tt
    term_fits (pattern.Lifted n) t met = tt
    term_fits (pattern.OfSimple n) t met = tt
    term_fits (pattern.ProgramVariable x) t met = tt
    term_fits (pattern.Constant x) t met = tt
    term_fits p t met = absurd met

    pub loc_fits : (p : LocPattern) (l : PlainLoc) → MeetsLoc σ p l → FitsLoc σ p
    loc_fits (pattern.OfObject h p) l met = let r : Parted (of_object h) l _ = object_of_is h l _ met in term_fits p r.0 r.1.1
    loc_fits (pattern.Single p q) (Single o f) met = (term_fits p o met.0, term_fits q f met.1)
    loc_fits (pattern.ElementRange p q r) (ElementRange o t u) met = (term_fits p o met.0, (term_fits q t met.1.0, term_fits r u met.1.1))
    loc_fits (pattern.Union l k) (Union m n) met = (loc_fits l m met.0, loc_fits k n met.1)
    loc_fits (pattern.LocVar n) l met = tt
    loc_fits (pattern.LiftedLoc n) l met = tt
    loc_fits pattern.NoLocations l met = tt
    loc_fits pattern.AllLocations l met = tt
    loc_fits p l met = absurd met

  pub formula_fits : (p : FormulaPattern) (a : PlainFormula) → MeetsFormula σ p a → FitsFormula σ p
  formula_fits (pattern.Connected h p q) f met = let r : Parted (λ a. connected h a.0 a.1) f _ = sides_of_is h f _ met in (formula_fits p r.0.0 r.1.1.0, formula_fits q r.0.1 r.1.1.1)
  formula_fits (pattern.Compared h p q) f met = let r : Parted (λ a. compared h a.0 a.1) f _ = terms_of_is h f _ met in (term_fits p r.0.0 r.1.1.0, term_fits q r.0.1 r.1.1.1)
  formula_fits (pattern.Quantified h s p) f met = let r : Parted (λ a. quantified h a.0 a.1) f _ = body_of_is h f _ met in formula_fits p r.0.1 r.1.1.1
  formula_fits (pattern.Tested h p) f met = let r : Parted (tested h) f _ = term_under_is h f _ met in term_fits p r.0 r.1.1
  formula_fits (pattern.Classed h k p) f met = let r : Parted (λ a. classed h a.0 a.1) f _ = object_under_is h f _ met in term_fits p r.0.1 r.1.1.1
  formula_fits (pattern.Focus n k (pattern.Then s pattern.Done) p) (Modal m d a) met = (focus_fits s k (first_in (sought s) d) met.1.0, formula_fits p a met.1.1)
  formula_fits (pattern.Not p) (Not a) met = formula_fits p a met
  formula_fits (pattern.Modal m c p) (Modal n d a) met = (code_fits c d met.1.0, formula_fits p a met.1.1)
  formula_fits (pattern.InLocations p q l) (InLocations o f m) met = (term_fits p o met.0, (term_fits q f met.1.0, loc_fits l m met.1.1))
  formula_fits (pattern.FormulaVar n) a met = tt
  formula_fits (pattern.PutIn n t) a met = tt
  formula_fits (pattern.LiftedFormula n) a met = tt
  formula_fits pattern.TrueFormula a met = tt
  formula_fits pattern.FalseFormula a met = tt
  formula_fits (pattern.Updated x t p) a met = tt
  formula_fits p a met = absurd met
