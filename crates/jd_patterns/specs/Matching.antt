-- Matching: a pattern against a tree, from the bindings so far. A pattern that stands in no find has no match.
use Rattle.std.specs.Prelude.{ℕ, not, nat_eq, Option, Some, None}
use Rattle.jd_base.specs.declared.sort.Sort.{Sort}
use Rattle.jd_syntax.specs.Names.{Name}
use Rattle.jd_syntax.specs.Codes.{PlainKind, Expr, Variable, Unary, Binary, ReadField, ReadElement, LengthOf, Cast, InstanceOf, Stmt, Set, WriteField, WriteElement, Evaluate, If, Block, Break, Catch, Finally, Throw, ThrowUnchecked, Return, ReturnVoid, Frame, Raise, NewArray, Stop, PlainCode, Done, Then}
use Rattle.jd_term.specs.Terms.{PlainTerm, sort_of_term, Number, Arithmetic, Negation, Wrap, Length, Select, Sum, Store, Create, Anon, NamedField, ElementField, PlainLoc, NoLocations, AllLocations, Single, ObjectFields, ArrayElements, ElementRange, Union}
use Rattle.jd_term.specs.Formulas.{PlainFormula, TrueFormula, FalseFormula, Not, And, Or, Implies, Iff, Equal, Less, LessOrEqual, Forall, Exists, Modal, InLocations, InInt, WellFormed, Invariant, IsInstance, IsExactInstance}
use Rattle.jd_term.specs.declared.formula.Modality.{Modality}
use Rattle.jd_patterns.specs.Patterns as pattern
use Rattle.jd_patterns.specs.Patterns.{SchemaVar, SortPattern, SortVar, SortIs, KindPattern, KindVar, KindIs, ModalityPattern, ModalityVar, ModalityIs, NamePattern, NameVar, NameIs, ResultPattern, NoResult, ResultIn, ResultVar, ClassPattern, ClassVar, ExprPattern, StmtPattern, CodePattern, UnaryTerm, NegationOf, WrapOf, LengthOfArray, ElementOf, UnaryLoc, FieldsOf, ElementsOf, TermPattern, LocPattern, Connective, AndOf, OrOf, ImpliesOf, IffOf, Comparison, EqualOf, LessOf, LessOrEqualOf, InvariantOf, Quantifier, ForallOf, ExistsOf, TermTest, InIntOf, WellFormedOf, KindTest, InstanceTest, ExactTest, FormulaPattern}
use Rattle.jd_patterns.specs.Instances.{is_simple, is_simple_of, is_return}
use Rattle.jd_patterns.specs.Foci.{sought, first_in}
use Rattle.jd_patterns.specs.Bindings.{TheFormula, TheTerm, TheLiteral, TheLocations, TheKind, TheSort, TheName, TheResult, TheField, TheClass, TheLabel, TheCode, TheReturn, TheSimple, TheModality, TheContext, Bindings, Tests, next, only, on, bind}

-- ---- a tree's parts, where it has the form

abbrev pub part_of : UnaryTerm → PlainTerm → Option PlainTerm
part_of NegationOf (Negation t) = Some t
part_of WrapOf (Wrap t) = Some t
part_of LengthOfArray (Length t) = Some t
part_of ElementOf (ElementField t) = Some t
part_of h t = None

abbrev pub object_of : UnaryLoc → PlainLoc → Option PlainTerm
object_of FieldsOf (ObjectFields o) = Some o
object_of ElementsOf (ArrayElements o) = Some o
object_of h l = None

abbrev pub sides_of : Connective → PlainFormula → Option (PlainFormula × PlainFormula)
sides_of AndOf (And a c) = Some (a, c)
sides_of OrOf (Or a c) = Some (a, c)
sides_of ImpliesOf (Implies a c) = Some (a, c)
sides_of IffOf (Iff a c) = Some (a, c)
sides_of h a = None

abbrev pub terms_of : Comparison → PlainFormula → Option (PlainTerm × PlainTerm)
terms_of EqualOf (Equal t u) = Some (t, u)
terms_of LessOf (Less t u) = Some (t, u)
terms_of LessOrEqualOf (LessOrEqual t u) = Some (t, u)
terms_of InvariantOf (Invariant t u) = Some (t, u)
terms_of h a = None

abbrev pub body_of : Quantifier → PlainFormula → Option (Sort × PlainFormula)
body_of ForallOf (Forall s a) = Some (s, a)
body_of ExistsOf (Exists s a) = Some (s, a)
body_of h a = None

abbrev pub term_under : TermTest → PlainFormula → Option PlainTerm
term_under InIntOf (InInt t) = Some t
term_under WellFormedOf (WellFormed t) = Some t
term_under h a = None

abbrev pub object_under : KindTest → PlainFormula → Option (PlainKind × PlainTerm)
object_under InstanceTest (IsInstance k o) = Some (k, o)
object_under ExactTest (IsExactInstance k o) = Some (k, o)
object_under h a = None

-- ---- matching

module _ (w : Tests) where
  abbrev pub match_sort : SortPattern → Sort → Bindings → Option Bindings
  match_sort (SortVar n) s τ = bind w n (TheSort s) τ
  match_sort (SortIs r) s τ = only (w.sort.same r s) (Some τ)

  abbrev pub match_kind : KindPattern → PlainKind → Bindings → Option Bindings
  match_kind (KindVar n) k τ = bind w n (TheKind k) τ
  match_kind (KindIs l) k τ = only (w.kind.same l k) (Some τ)

  abbrev pub match_modality : ModalityPattern → Modality → Bindings → Option Bindings
  match_modality (ModalityVar n) m τ = bind w n (TheModality m) τ
  match_modality (ModalityIs l) m τ = only (w.modality.same l m) (Some τ)

  abbrev pub match_name : NamePattern → Name → Bindings → Option Bindings
  match_name (NameVar n) x τ = bind w n (TheName x) τ
  match_name (NameIs y) x τ = only (w.name.same y x) (Some τ)

  abbrev pub match_result : ResultPattern → Option Name → Bindings → Option Bindings
  match_result NoResult None τ = Some τ
  match_result (ResultIn x) (Some y) τ = match_name x y τ
  match_result (ResultVar n) r τ = bind w n (TheResult r) τ
  match_result p r τ = None

  abbrev pub match_class : ClassPattern → ℕ → Bindings → Option Bindings
  match_class (ClassVar n) c τ = bind w n (TheClass c) τ
  match_class p c τ = None

  abbrev pub match_expr : ExprPattern → Expr → Bindings → Option Bindings
  match_expr (pattern.Simple n) e τ = only (is_simple e) (bind w n (TheSimple e) τ)
  match_expr (pattern.SimpleAt s n) e τ = only (is_simple_of s e) (bind w n (TheSimple e) τ)
  match_expr (pattern.Variable x) (Variable y) τ = match_name x y τ
  match_expr (pattern.Unary op e) (Unary o d) τ = only (w.unary.same op o) (match_expr e d τ)
  match_expr (pattern.Binary op e f) (Binary o c d) τ = only (w.binary.same op o) (next (match_expr e c τ) (λ υ. match_expr f d υ))
  match_expr (pattern.ReadField e n) (ReadField d a) τ = next (match_expr e d τ) (λ υ. bind w n (TheField a) υ)
  match_expr (pattern.ReadElement e f) (ReadElement c d) τ = next (match_expr e c τ) (λ υ. match_expr f d υ)
  match_expr (pattern.LengthOf e) (LengthOf d) τ = match_expr e d τ
  match_expr (pattern.Cast k e) (Cast l d) τ = next (match_kind k l τ) (λ υ. match_expr e d υ)
  match_expr (pattern.InstanceOf k e) (InstanceOf l d) τ = next (match_kind k l τ) (λ υ. match_expr e d υ)
  match_expr p e τ = None

  abbrev mutual
    pub match_stmt : StmtPattern → Stmt → Bindings → Option Bindings
    match_stmt (pattern.ReturnVar n) s τ = only (is_return s) (bind w n (TheReturn s) τ)
    match_stmt (pattern.BlockPast n m c) (Block l (Then (Break k) a)) τ = only (not (nat_eq k l)) (next (bind w n (TheLabel l) τ) (λ υ. next (bind w m (TheLabel k) υ) (λ φ. match_code c a φ)))
    match_stmt (pattern.Set x e) (Set y d) τ = next (match_name x y τ) (λ υ. match_expr e d υ)
    match_stmt (pattern.WriteField e n f) (WriteField c a d) τ = next (match_expr e c τ) (λ υ. next (bind w n (TheField a) υ) (λ φ. match_expr f d φ))
    match_stmt (pattern.WriteElement e f g) (WriteElement b c d) τ = next (match_expr e b τ) (λ υ. next (match_expr f c υ) (λ φ. match_expr g d φ))
    match_stmt (pattern.Evaluate e) (Evaluate d) τ = match_expr e d τ
    match_stmt (pattern.If e c d) (If f a b) τ = next (match_expr e f τ) (λ υ. next (match_code c a υ) (λ φ. match_code d b φ))
    match_stmt (pattern.Block n c) (Block l a) τ = next (bind w n (TheLabel l) τ) (λ υ. match_code c a υ)
    match_stmt (pattern.Break n) (Break l) τ = bind w n (TheLabel l) τ
    match_stmt (pattern.Catch c x d) (Catch a y b) τ = next (match_code c a τ) (λ υ. next (match_name x y υ) (λ φ. match_code d b φ))
    match_stmt (pattern.Finally c d) (Finally a b) τ = next (match_code c a τ) (λ υ. match_code d b υ)
    match_stmt (pattern.Throw e) (Throw d) τ = match_expr e d τ
    match_stmt (pattern.ThrowUnchecked e) (ThrowUnchecked d) τ = match_expr e d τ
    match_stmt (pattern.Return e) (Return d) τ = match_expr e d τ
    match_stmt pattern.ReturnVoid ReturnVoid τ = Some τ
    match_stmt (pattern.Frame r c) (Frame q a) τ = next (match_result r q τ) (λ υ. match_code c a υ)
    match_stmt (pattern.Raise c) (Raise a) τ = match_class c a τ
    match_stmt (pattern.NewArray x e) (NewArray y d) τ = next (match_name x y τ) (λ υ. match_expr e d υ)
    match_stmt pattern.Stop Stop τ = Some τ
    match_stmt p s τ = None

    pub match_code : CodePattern → PlainCode → Bindings → Option Bindings
    match_code (pattern.CodeThen n pattern.Done) c τ = bind w n (TheCode c) τ
    match_code pattern.Done Done τ = Some τ
    match_code (pattern.Then s c) (Then t d) τ = next (match_stmt s t τ) (λ υ. match_code c d υ)
    match_code p c τ = None

  abbrev mutual
    pub match_term : TermPattern → PlainTerm → Bindings → Option Bindings
    match_term (pattern.AnyTerm n) t τ = bind w n (TheTerm t) τ
    match_term (pattern.TermOf s n) t τ = only (w.sort.same (sort_of_term t) s) (bind w n (TheTerm t) τ)
    match_term (pattern.LiteralVar n) (Number z) τ = bind w n (TheLiteral z) τ
    match_term (pattern.FieldVar n) (NamedField f) τ = bind w n (TheField f) τ
    match_term (pattern.Given p) t τ = only (w.term.same p t) (Some τ)
    match_term (pattern.OnePart h p) t τ = on (part_of h t) (λ a. match_term p a τ)
    match_term (pattern.Arithmetic op p q) (Arithmetic o t u) τ = only (w.arithmetic.same op o) (next (match_term p t τ) (λ υ. match_term q u υ))
    match_term (pattern.Select s p q r) (Select k h o f) τ = next (match_sort s k τ) (λ υ. next (match_term p h υ) (λ φ. next (match_term q o φ) (λ ψ. match_term r f ψ)))
    match_term (pattern.Sum p q r) (Sum t u v) τ = next (match_term p t τ) (λ υ. next (match_term q u υ) (λ φ. match_term r v φ))
    match_term (pattern.Store p q r s) (Store h o f t) τ = next (match_term p h τ) (λ υ. next (match_term q o υ) (λ φ. next (match_term r f φ) (λ ψ. match_term s t ψ)))
    match_term (pattern.Create p q) (Create h o) τ = next (match_term p h τ) (λ υ. match_term q o υ)
    match_term (pattern.Anon p l q) (Anon h m g) τ = next (match_term p h τ) (λ υ. next (match_loc l m υ) (λ φ. match_term q g φ))
    match_term p t τ = None

    pub match_loc : LocPattern → PlainLoc → Bindings → Option Bindings
    match_loc (pattern.LocVar n) l τ = bind w n (TheLocations l) τ
    match_loc (pattern.OfObject h p) l τ = on (object_of h l) (λ a. match_term p a τ)
    match_loc pattern.NoLocations NoLocations τ = Some τ
    match_loc pattern.AllLocations AllLocations τ = Some τ
    match_loc (pattern.Single p q) (Single o f) τ = next (match_term p o τ) (λ υ. match_term q f υ)
    match_loc (pattern.ElementRange p q r) (ElementRange o t u) τ = next (match_term p o τ) (λ υ. next (match_term q t υ) (λ φ. match_term r u φ))
    match_loc (pattern.Union l k) (Union m n) τ = next (match_loc l m τ) (λ υ. match_loc k n υ)
    match_loc p l τ = None

  abbrev pub match_formula : FormulaPattern → PlainFormula → Bindings → Option Bindings
  match_formula (pattern.FormulaVar n) a τ = bind w n (TheFormula a) τ
  match_formula (pattern.Connected h p q) f τ = on (sides_of h f) (λ a. next (match_formula p a.0 τ) (λ υ. match_formula q a.1 υ))
  match_formula (pattern.Compared h p q) f τ = on (terms_of h f) (λ a. next (match_term p a.0 τ) (λ υ. match_term q a.1 υ))
  match_formula (pattern.Quantified h s p) f τ = on (body_of h f) (λ a. next (match_sort s a.0 τ) (λ υ. match_formula p a.1 υ))
  match_formula (pattern.Tested h p) f τ = on (term_under h f) (λ a. match_term p a τ)
  match_formula (pattern.Classed h k p) f τ = on (object_under h f) (λ a. next (match_kind k a.0 τ) (λ υ. match_term p a.1 υ))
  -- the statement at the focus where it may stand
  match_formula (pattern.Focus n k (pattern.Then s pattern.Done) p) (Modal m d a) τ = next (bind w n (TheModality m) τ) (λ υ. next (on (first_in (sought s) d) (λ q. next (bind w k (TheContext q.0) υ) (λ φ. match_stmt s q.1 φ))) (λ ψ. match_formula p a ψ))
  match_formula pattern.TrueFormula TrueFormula τ = Some τ
  match_formula pattern.FalseFormula FalseFormula τ = Some τ
  match_formula (pattern.Not p) (Not a) τ = match_formula p a τ
  match_formula (pattern.Modal m c p) (Modal n d a) τ = next (match_modality m n τ) (λ υ. next (match_code c d υ) (λ φ. match_formula p a φ))
  match_formula (pattern.InLocations p q l) (InLocations o f m) τ = next (match_term p o τ) (λ υ. next (match_term q f υ) (λ φ. match_loc l m φ))
  match_formula p a τ = None
