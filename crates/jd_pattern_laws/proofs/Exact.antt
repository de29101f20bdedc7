-- What matching answers is exact: form by form, and by that of the whole pattern.
use Rattle.std.proofs.Common.{◌≡◌, ℕ, Bool, true, false, cond, Option, Some, None, [], ◌∷◌, refl, sym, ◌∙◌, subst, true≢false}
use Rattle.jd_base.specs.declared.sort.Sort.{Sort}
use Rattle.jd_syntax.specs.Names.{Name}
use Rattle.jd_syntax.specs.Codes.{PlainKind, Expr, Variable, Unary, Binary, ReadField, ReadElement, LengthOf, Cast, InstanceOf, Stmt, Set, WriteField, WriteElement, Evaluate, If, Block, Break, Catch, Finally, Throw, ThrowUnchecked, Return, ReturnVoid, Frame, Raise, NewArray, Stop, PlainCode, Done, Then}
use Rattle.jd_term.specs.Terms.{PlainTerm, sort_of_term, Number, Arithmetic, Select, Sum, Store, Create, Anon, NamedField, PlainLoc, NoLocations, AllLocations, Single, ElementRange, Union}
use Rattle.jd_term.specs.Formulas.{PlainFormula, TrueFormula, FalseFormula, Not, Modal, InLocations}
use Rattle.jd_term.specs.declared.formula.Modality.{Modality}
use Rattle.jd_patterns.specs.Patterns as pattern
use Rattle.jd_patterns.specs.Patterns.{SchemaVar, SortPattern, SortVar, SortIs, KindPattern, KindVar, KindIs, ModalityPattern, ModalityVar, ModalityIs, NamePattern, NameVar, NameIs, ResultPattern, NoResult, ResultIn, ResultVar, ClassPattern, ClassVar, ExprPattern, StmtPattern, CodePattern, TermPattern, LocPattern, FormulaPattern}
use Rattle.jd_patterns.specs.Instances.{Instance}
use Rattle.jd_patterns.specs.Foci.{sought, first_in}
use Rattle.jd_patterns.specs.Bindings.{Part, TheFormula, TheTerm, TheLiteral, TheLocations, TheKind, TheSort, TheName, TheResult, TheField, TheClass, TheLabel, TheCode, TheReturn, TheSimple, TheModality, TheContext, Bindings, Says, Agrees, Exactly, Tests, next, only, on, Verdict, OtherKind, Equal as EqualParts, Different, verdict, compare, placed, bind}
use Rattle.jd_patterns.specs.Matching.{part_of, object_of, sides_of, terms_of, body_of, term_under, object_under, match_sort, match_kind, match_modality, match_name, match_result, match_class, match_expr, match_stmt, match_code, match_term, match_loc, match_formula}
use Rattle.jd_pattern_laws.proofs.Meets.{Where, MeetsSort, MeetsKind, MeetsModality, MeetsName, MeetsResult, MeetsClass, MeetsExpr, MeetsStmt, MeetsCode, MeetsTerm, MeetsLoc, MeetsFormula}

module _ (σ : Instance) (τ : Bindings) where
  pub stay : Exactly σ τ (Unit {0}) (Some τ)
  stay = (λ h. h.0, λ h. (h, tt))

  pub none : Exactly σ τ ⊥ None
  none = (λ h. h.1, λ h. absurd h)

  -- what is exact for one property is so for an equal one
  pub alike : (P Q : Type 0) (o : Option Bindings) → (P → Q) → (Q → P) → Exactly σ τ P o → Exactly σ τ Q o
  alike P Q o f g h = (λ x. h.0 (x.0, g x.1), λ x. let y : Agrees σ τ × P = h.1 x in (y.0, f y.1))

  pub seq : (P Q : Type 0) (o : Option Bindings) (k : Bindings → Option Bindings) → Exactly σ τ P o → ((υ : Bindings) → Exactly σ υ Q (k υ)) → Exactly σ τ (P × Q) (next o k)
  seq P Q None k h f = (λ x. h.0 (x.0, x.1.0), λ x. absurd x)
  seq P Q (Some υ) k h f = (λ x. (f υ).0 (h.0 (x.0, x.1.0), x.1.1), λ x. let y : Agrees σ υ × Q = (f υ).1 x in let z : Agrees σ τ × P = h.1 y.0 in (z.0, (z.1, y.1)))

  pub guard : (b : Bool) (C P : Type 0) (o : Option Bindings) → (b ≡ true → C) × (C → b ≡ true) → Exactly σ τ P o → Exactly σ τ (C × P) (only b o)
  guard true C P o d h = (λ x. h.0 (x.0, x.1.1), λ x. let z : Agrees σ τ × P = h.1 x in (z.0, (d.0 refl, z.1)))
  guard false C P o d h = (λ x. true≢false (sym (d.1 x.1.0)), λ x. absurd x)

  pub guard_last : (b : Bool) (C : Type 0) → (b ≡ true → C) × (C → b ≡ true) → Exactly σ τ C (only b (Some τ))
  guard_last true C d = (λ x. x.0, λ x. (x, d.0 refl))
  guard_last false C d = (λ x. true≢false (sym (d.1 x.1)), λ x. absurd x)

  pub parted : {A : Type 0} (o : Option A) (P : A → Type 0) (k : A → Option Bindings) → ((a : A) → Exactly σ τ (P a) (k a)) → Exactly σ τ (Where o P) (on o k)
  parted None P k h = (λ x. x.1, λ x. absurd x)
  parted (Some a) P k h = h a

-- a test that is its own property
itself : {b : Bool} → (b ≡ true → b ≡ true) × (b ≡ true → b ≡ true)
itself = (λ e. e, λ e. e)

-- what a verdict says of two parts of one variable
abbrev Tells : Type 0 → Type 0 → Verdict → Type 0
Tells P Q OtherKind = Unit {0}
Tells P Q EqualParts = (P → Q) × (Q → P)
Tells P Q Different = P → Q → ⊥

told : {A : Type 0} (v x y : A) (b : Bool) → (b ≡ true → x ≡ y) × (x ≡ y → b ≡ true) → Tells (v ≡ x) (v ≡ y) (verdict b)
told v x y true d = (λ e. e ∙ d.0 refl, λ e. e ∙ sym (d.0 refl))
told v x y false d = λ e f. true≢false (sym (d.1 (sym e ∙ f)))

module _ (w : Tests) (σ : Instance) where
  tells : (n : SchemaVar) (x y : Part) → Tells (Says σ n x) (Says σ n y) (compare w x y)
  tells n (TheFormula x) (TheFormula y) = told (σ.formula n) x y _ (w.formula.decides x y)
  tells n (TheTerm x) (TheTerm y) = told (σ.term n) x y _ (w.term.decides x y)
  tells n (TheLiteral x) (TheLiteral y) = told (σ.literal n) x y _ (w.literal.decides x y)
  tells n (TheLocations x) (TheLocations y) = told (σ.locations n) x y _ (w.locations.decides x y)
  tells n (TheKind x) (TheKind y) = told (σ.kind n) x y _ (w.kind.decides x y)
  tells n (TheSort x) (TheSort y) = told (σ.sort n) x y _ (w.sort.decides x y)
  tells n (TheName x) (TheName y) = told (σ.name n) x y _ (w.name.decides x y)
  tells n (TheResult x) (TheResult y) = told (σ.result n) x y _ (w.result.decides x y)
  tells n (TheField x) (TheField y) = told (σ.field n) x y _ (w.number.decides x y)
  tells n (TheClass x) (TheClass y) = told (σ.class n) x y _ (w.number.decides x y)
  tells n (TheLabel x) (TheLabel y) = told (σ.label n) x y _ (w.number.decides x y)
  tells n (TheCode x) (TheCode y) = told (σ.code n) x y _ (w.code.decides x y)
  tells n (TheReturn x) (TheReturn y) = told (σ.returned n) x y _ (w.returned.decides x y)
  tells n (TheSimple x) (TheSimple y) = told (σ.simple n) x y _ (w.simple.decides x y)
  tells n (TheModality x) (TheModality y) = told (σ.modality n) x y _ (w.modality.decides x y)
  tells n (TheContext x) (TheContext y) = told (σ.context n) x y _ (w.context.decides x y)
  tells n x y = tt

  place_law : (v : Verdict) (n : SchemaVar) (x : Part) (e : SchemaVar × Part) (τ : Bindings) (o : Option Bindings) → Tells (Says σ n x) (Says σ e.0 e.1) v → Exactly σ τ (Says σ n x) o → Exactly σ (e ∷ τ) (Says σ n x) (placed v e τ o)
  place_law OtherKind n x e τ None t h = (λ y. h.0 (y.0.1, y.1), λ y. absurd y)
  place_law OtherKind n x e τ (Some υ) t h = (λ y. (y.0.0, h.0 (y.0.1, y.1)), λ y. let z : Agrees σ τ × Says σ n x = h.1 y.1 in ((y.0, z.0), z.1))
  place_law EqualParts n x e τ o t h = (λ y. y.0, λ y. (y, t.1 y.0))
  place_law Different n x e τ o t h = (λ y. t y.1 y.0.0, λ y. absurd y)

  pub bind_law : (n : SchemaVar) (x : Part) (τ : Bindings) → Exactly σ τ (Says σ n x) (bind w n x τ)
  bind_law n x [] = (λ y. (y.1, tt), λ y. (tt, y.0))
  bind_law n x (e ∷ τ) = place_law (cond (w.variable.same e.0 n) (compare w x e.1) OtherKind) n x e τ (bind w n x τ) (at (w.variable.same e.0 n) refl) (bind_law n x τ)
    where
      at : (b : Bool) → w.variable.same e.0 n ≡ b → Tells (Says σ n x) (Says σ e.0 e.1) (cond b (compare w x e.1) OtherKind)
      at true q = subst (λ m. Tells (Says σ n x) (Says σ m e.1) (compare w x e.1)) (sym ((w.variable.decides e.0 n).0 q)) (tells n x e.1)
      at false q = tt

  sort_law : (p : SortPattern) (s : Sort) (τ : Bindings) → Exactly σ τ (MeetsSort σ p s) (match_sort w p s τ)
  sort_law (SortVar n) s τ = bind_law n (TheSort s) τ
  sort_law (SortIs r) s τ = guard_last σ τ _ _ (w.sort.decides r s)

  kind_law : (p : KindPattern) (k : PlainKind) (τ : Bindings) → Exactly σ τ (MeetsKind σ p k) (match_kind w p k τ)
  kind_law (KindVar n) k τ = bind_law n (TheKind k) τ
  kind_law (KindIs l) k τ = guard_last σ τ _ _ (w.kind.decides l k)

  modality_law : (p : ModalityPattern) (m : Modality) (τ : Bindings) → Exactly σ τ (MeetsModality σ p m) (match_modality w p m τ)
  modality_law (ModalityVar n) m τ = bind_law n (TheModality m) τ
  modality_law (ModalityIs l) m τ = guard_last σ τ _ _ (w.modality.decides l m)

  name_law : (p : NamePattern) (x : Name) (τ : Bindings) → Exactly σ τ (MeetsName σ p x) (match_name w p x τ)
  name_law (NameVar n) x τ = bind_law n (TheName x) τ
  name_law (NameIs y) x τ = guard_last σ τ _ _ (w.name.decides y x)

  result_law : (p : ResultPattern) (r : Option Name) (τ : Bindings) → Exactly σ τ (MeetsResult σ p r) (match_result w p r τ)
  result_law NoResult None τ = stay σ τ
  result_law (ResultIn x) (Some y) τ = name_law x y τ
  result_law (ResultVar n) r τ = bind_law n (TheResult r) τ
  result_law p r τ = none σ τ

  class_law : (p : ClassPattern) (c : ℕ) (τ : Bindings) → Exactly σ τ (MeetsClass σ p c) (match_class w p c τ)
  class_law (ClassVar n) c τ = bind_law n (TheClass c) τ
  class_law p c τ = none σ τ

  expr_law : (p : ExprPattern) (e : Expr) (τ : Bindings) → Exactly σ τ (MeetsExpr σ p e) (match_expr w p e τ)
  expr_law (pattern.Simple n) e τ = guard σ τ _ _ _ _ itself (bind_law n (TheSimple e) τ)
  expr_law (pattern.SimpleAt s n) e τ = guard σ τ _ _ _ _ itself (bind_law n (TheSimple e) τ)
  expr_law (pattern.Variable x) (Variable y) τ = name_law x y τ
  expr_law (pattern.Unary op e) (Unary o d) τ = guard σ τ _ _ _ _ (w.unary.decides op o) (expr_law e d τ)
  expr_law (pattern.Binary op e f) (Binary o c d) τ = guard σ τ _ _ _ _ (w.binary.decides op o) (seq σ τ _ _ _ _ (expr_law e c τ) (λ υ. expr_law f d υ))
  expr_law (pattern.ReadField e n) (ReadField d a) τ = seq σ τ _ _ _ _ (expr_law e d τ) (λ υ. bind_law n (TheField a) υ)
  expr_law (pattern.ReadElement e f) (ReadElement c d) τ = seq σ τ _ _ _ _ (expr_law e c τ) (λ υ. expr_law f d υ)
  expr_law (pattern.LengthOf e) (LengthOf d) τ = expr_law e d τ
  expr_law (pattern.Cast k e) (Cast l d) τ = seq σ τ _ _ _ _ (kind_law k l τ) (λ υ. expr_law e d υ)
  expr_law (pattern.InstanceOf k e) (InstanceOf l d) τ = seq σ τ _ _ _ _ (kind_law k l τ) (λ υ. expr_law e d υ)
  expr_law p e τ = none σ τ

  mutual
    stmt_law : (p : StmtPattern) (s : Stmt) (τ : Bindings) → Exactly σ τ (MeetsStmt σ p s) (match_stmt w p s τ)
    stmt_law (pattern.ReturnVar n) s τ = guard σ τ _ _ _ _ itself (bind_law n (TheReturn s) τ)
    stmt_law (pattern.BlockPast n m c) (Block l (Then (Break k) a)) τ = guard σ τ _ _ _ _ itself (seq σ τ _ _ _ _ (bind_law n (TheLabel l) τ) (λ υ. seq σ υ _ _ _ _ (bind_law m (TheLabel k) υ) (λ φ. code_law c a φ)))
    stmt_law (pattern.Set x e) (Set y d) τ = seq σ τ _ _ _ _ (name_law x y τ) (λ υ. expr_law e d υ)
    stmt_law (pattern.WriteField e n f) (WriteField c a d) τ = seq σ τ _ _ _ _ (expr_law e c τ) (λ υ. seq σ υ _ _ _ _ (bind_law n (TheField a) υ) (λ φ. expr_law f d φ))
    stmt_law (pattern.WriteElement e f g) (WriteElement b c d) τ = seq σ τ _ _ _ _ (expr_law e b τ) (λ υ. seq σ υ _ _ _ _ (expr_law f c υ) (λ φ. expr_law g d φ))
    stmt_law (pattern.Evaluate e) (Evaluate d) τ = expr_law e d τ
    stmt_law (pattern.If e c d) (If f a b) τ = seq σ τ _ _ _ _ (expr_law e f τ) (λ υ. seq σ υ _ _ _ _ (code_law c a υ) (λ φ. code_law d b φ))
    stmt_law (pattern.Block n c) (Block l a) τ = seq σ τ _ _ _ _ (bind_law n (TheLabel l) τ) (λ υ. code_law c a υ)
    stmt_law (pattern.Break n) (Break l) τ = bind_law n (TheLabel l) τ
    stmt_law (pattern.Catch c x d) (Catch a y b) τ = seq σ τ _ _ _ _ (code_law c a τ) (λ υ. seq σ υ _ _ _ _ (name_law x y υ) (λ φ. code_law d b φ))
    stmt_law (pattern.Finally c d) (Finally a b) τ = seq σ τ _ _ _ _ (code_law c a τ) (λ υ. code_law d b υ)
    stmt_law (pattern.Throw e) (Throw d) τ = expr_law e d τ
    stmt_law (pattern.ThrowUnchecked e) (ThrowUnchecked d) τ = expr_law e d τ
    stmt_law (pattern.Return e) (Return d) τ = expr_law e d τ
    stmt_law pattern.ReturnVoid ReturnVoid τ = stay σ τ
    stmt_law (pattern.Frame r c) (Frame q a) τ = seq σ τ _ _ _ _ (result_law r q τ) (λ υ. code_law c a υ)
    stmt_law (pattern.Raise c) (Raise a) τ = class_law c a τ
    stmt_law (pattern.NewArray x e) (NewArray y d) τ = seq σ τ _ _ _ _ (name_law x y τ) (λ υ. expr_law e d υ)
    stmt_law pattern.Stop Stop τ = stay σ τ
    stmt_law p s τ = none σ τ

    code_law : (p : CodePattern) (c : PlainCode) (τ : Bindings) → Exactly σ τ (MeetsCode σ p c) (match_code w p c τ)
    code_law (pattern.CodeThen n pattern.Done) c τ = bind_law n (TheCode c) τ
    code_law pattern.Done Done τ = stay σ τ
    code_law (pattern.Then s c) (Then t d) τ = seq σ τ _ _ _ _ (stmt_law s t τ) (λ υ. code_law c d υ)
    code_law p c τ = none σ τ

  mutual
    pub term_law : (p : TermPattern) (t : PlainTerm) (τ : Bindings) → Exactly σ τ (MeetsTerm σ p t) (match_term w p t τ)
    term_law (pattern.AnyTerm n) t τ = bind_law n (TheTerm t) τ
    term_law (pattern.TermOf s n) t τ = guard σ τ _ _ _ _ (w.sort.decides (sort_of_term t) s) (bind_law n (TheTerm t) τ)
    term_law (pattern.LiteralVar n) (Number z) τ = bind_law n (TheLiteral z) τ
    term_law (pattern.FieldVar n) (NamedField f) τ = bind_law n (TheField f) τ
    term_law (pattern.Given p) t τ = guard_last σ τ _ _ (w.term.decides p t)
    term_law (pattern.OnePart h p) t τ = parted σ τ (part_of h t) _ _ (λ a. term_law p a τ)
    term_law (pattern.Arithmetic op p q) (Arithmetic o t u) τ = guard σ τ _ _ _ _ (w.arithmetic.decides op o) (seq σ τ _ _ _ _ (term_law p t τ) (λ υ. term_law q u υ))
    term_law (pattern.Select s p q r) (Select k h o f) τ = seq σ τ _ _ _ _ (sort_law s k τ) (λ υ. seq σ υ _ _ _ _ (term_law p h υ) (λ φ. seq σ φ _ _ _ _ (term_law q o φ) (λ ψ. term_law r f ψ)))
    term_law (pattern.Sum p q r) (Sum t u v) τ = seq σ τ _ _ _ _ (term_law p t τ) (λ υ. seq σ υ _ _ _ _ (term_law q u υ) (λ φ. term_law r v φ))
    term_law (pattern.Store p q r s) (Store h o f t) τ = seq σ τ _ _ _ _ (term_law p h τ) (λ υ. seq σ υ _ _ _ _ (term_law q o υ) (λ φ. seq σ φ _ _ _ _ (term_law r f φ) (λ ψ. term_law s t ψ)))
    term_law (pattern.Create p q) (Create h o) τ = seq σ τ _ _ _ _ (term_law p h τ) (λ υ. term_law q o υ)
    term_law (pattern.Anon p l q) (Anon h m g) τ = seq σ τ _ _ _ _ (term_law p h τ) (λ υ. seq σ υ _ _ _ _ (loc_law l m υ) (λ φ. term_law q g φ))
    term_law p t τ = none σ τ

    pub loc_law : (p : LocPattern) (l : PlainLoc) (τ : Bindings) → Exactly σ τ (MeetsLoc σ p l) (match_loc w p l τ)
    loc_law (pattern.LocVar n) l τ = bind_law n (TheLocations l) τ
    loc_law (pattern.OfObject h p) l τ = parted σ τ (object_of h l) _ _ (λ a. term_law p a τ)
    loc_law pattern.NoLocations NoLocations τ = stay σ τ
    loc_law pattern.AllLocations AllLocations τ = stay σ τ
    loc_law (pattern.Single p q) (Single o f) τ = seq σ τ _ _ _ _ (term_law p o τ) (λ υ. term_law q f υ)
    loc_law (pattern.ElementRange p q r) (ElementRange o t u) τ = seq σ τ _ _ _ _ (term_law p o τ) (λ υ. seq σ υ _ _ _ _ (term_law q t υ) (λ φ. term_law r u φ))
    loc_law (pattern.Union l k) (Union m n) τ = seq σ τ _ _ _ _ (loc_law l m τ) (λ υ. loc_law k n υ)
    loc_law p l τ = none σ τ

  pub formula_law : (p : FormulaPattern) (a : PlainFormula) (τ : Bindings) → Exactly σ τ (MeetsFormula σ p a) (match_formula w p a τ)
  formula_law (pattern.FormulaVar n) a τ = bind_law n (TheFormula a) τ
  formula_law (pattern.Connected h p q) f τ = parted σ τ (sides_of h f) _ _ (λ a. seq σ τ _ _ _ _ (formula_law p a.0 τ) (λ υ. formula_law q a.1 υ))
  formula_law (pattern.Compared h p q) f τ = parted σ τ (terms_of h f) _ _ (λ a. seq σ τ _ _ _ _ (term_law p a.0 τ) (λ υ. term_law q a.1 υ))
  formula_law (pattern.Quantified h s p) f τ = parted σ τ (body_of h f) _ _ (λ a. seq σ τ _ _ _ _ (sort_law s a.0 τ) (λ υ. formula_law p a.1 υ))
  formula_law (pattern.Tested h p) f τ = parted σ τ (term_under h f) _ _ (λ a. term_law p a τ)
  formula_law (pattern.Classed h k p) f τ = parted σ τ (object_under h f) _ _ (λ a. seq σ τ _ _ _ _ (kind_law k a.0 τ) (λ υ. term_law p a.1 υ))
  formula_law (pattern.Focus n k (pattern.Then s pattern.Done) p) (Modal m d a) τ = seq σ τ _ _ _ _ (bind_law n (TheModality m) τ) (λ υ. seq σ υ _ _ _ _ (parted σ υ (first_in (sought s) d) _ _ (λ q. seq σ υ _ _ _ _ (bind_law k (TheContext q.0) υ) (λ φ. stmt_law s q.1 φ))) (λ ψ. formula_law p a ψ))
  formula_law pattern.TrueFormula TrueFormula τ = stay σ τ
  formula_law pattern.FalseFormula FalseFormula τ = stay σ τ
  formula_law (pattern.Not p) (Not a) τ = formula_law p a τ
  formula_law (pattern.Modal m c p) (Modal n d a) τ = seq σ τ _ _ _ _ (modality_law m n τ) (λ υ. seq σ υ _ _ _ _ (code_law c d υ) (λ φ. formula_law p a φ))
  formula_law (pattern.InLocations p q l) (InLocations o f m) τ = seq σ τ _ _ _ _ (term_law p o τ) (λ υ. seq σ υ _ _ _ _ (term_law q f υ) (λ φ. loc_law l m φ))
  formula_law p a τ = none σ τ
