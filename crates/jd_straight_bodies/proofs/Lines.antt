-- Straight statements: they are known where their expressions are.
use Rattle.std.proofs.Common.{List, None, Option, Some, [], map, refl, sym, ap, ap₂, true, true≢false, ◌&&◌, ◌++◌, ◌+◌, ◌∙◌, ◌∷◌, ◌≡◌, ◌≤◌, ℕ}
use Rattle.std.specs.List.{AllByRecursion}
use Rattle.std.proofs.lemmas.Bool.{and_parts}
use Rattle.std.proofs.lemmas.List.{append_assoc, map-append}
use Rattle.jd_base.specs.declared.sort.Sort.{Sort}
use Rattle.jd_base.specs.declared.sort.Sort.TheVariants.{Int as IntSort}
use Rattle.jd_bodies.specs.declared.value.ValueType.{ValueType}
use Rattle.jd_bodies.specs.Scopes.{Local, local_named}
use Rattle.jd_bodies.specs.Variables.{Progress}
use Rattle.jd_first_form.specs.Forms.{all_steps}
use Rattle.jd_first_form.specs.Steps.{is_simple, is_step}
use Rattle.jd_model.specs.ResolvedBodies.{IsResolvedCode, IsResolvedExpr, IsResolvedStmt}
use Rattle.jd_programs.specs.Programs.{variable_name}
use Rattle.jd_syntax.specs.Codes as code
use Rattle.jd_syntax.specs.Codes.{Expr, Stmt, stmts_of}
use Rattle.jd_syntax.specs.Names.{Declared, Name}
use Rattle.jd_tforms.specs.Known.{CodeKnown, StmtKnown}
use Rattle.jd_tforms.specs.Sorted.{Value, code_sorted, expr_sort, is_some_sort, return_sorted, stmt_sorted}
use Rattle.jd_tgrammar.specs.NameTables.{NameTable}
use Rattle.jd_straight_bodies.proofs.Found.{Behind, Stands, joined, more_behind, still, stays}
use Rattle.jd_straight_bodies.proofs.Simple.{IsFine, IsTable, KnownVariable, simple_known}

-- ---- straight statements, with literals in range

abbrev pub IsStraight : Stmt → Type 0
IsStraight (code.Set x e) = (is_simple x.sort e ≡ true) × IsResolvedExpr e
IsStraight (code.Return e) = (is_simple IntSort e ≡ true) × IsResolvedExpr e
IsStraight s = ⊥

abbrev pub AreStraight : List Stmt → Type 0
AreStraight ss = AllByRecursion IsStraight ss

straight_stmt : (s : Stmt) → is_step s ≡ true → IsResolvedStmt [] s → IsStraight s
straight_stmt (code.Set x e) step resolved = (step, resolved)
straight_stmt (code.Return e) step resolved = (step, resolved)
straight_stmt s step resolved = absurd (true≢false (sym step))

pub straight_code : (ss : List Stmt) → all_steps (stmts_of ss) ≡ true → IsResolvedCode [] (stmts_of ss) → AreStraight ss
straight_code [] steps resolved = tt
straight_code (s ∷ ss) steps resolved =
    let both = and_parts (is_step s) (all_steps (stmts_of ss)) steps in
    (straight_stmt s both.0 resolved.0, straight_code ss both.1 resolved.1)

pub straight_parts : (xs ys : List Stmt) → AreStraight (xs ++ ys) → AreStraight xs × AreStraight ys
straight_parts [] ys g = (tt, g)
straight_parts (x ∷ xs) ys g = let h = straight_parts xs ys g.1 in ((g.0, h.0), h.1)

-- ---- statements that are known, in a method that returns an int

abbrev pub IsKnown : NameTable → Stmt → Type 0
IsKnown names s = StmtKnown names s × (stmt_sorted names (Value IntSort) s ≡ true)

abbrev pub AreKnown : NameTable → List Stmt → Type 0
AreKnown names ss = AllByRecursion (IsKnown names) ss

pub both_known : (names : NameTable) (xs ys : List Stmt) → AreKnown names xs → AreKnown names ys → AreKnown names (xs ++ ys)
both_known names [] ys g h = h
both_known names (x ∷ xs) ys g h = (g.0, both_known names xs ys g.1 h)

pub code_known : (names : NameTable) (ss : List Stmt) → AreKnown names ss → CodeKnown names (stmts_of ss) × (code_sorted names (Value IntSort) (stmts_of ss) ≡ true)
code_known names [] g = (tt, refl)
code_known names (s ∷ ss) g = let h = code_known names ss g.1 in ((g.0.0, h.0), ap₂ (λ a b. a && b) g.0.1 h.1)

pub set_known : (names : NameTable) (x : Name) (e : Expr) → KnownVariable names x → IsStraight (code.Set x e) → IsFine names e → IsKnown names (code.Set x e)
set_known names x e known straight fine =
    let h = simple_known names (Value IntSort) x.sort e straight.0 straight.1 fine in
    ((known.0, h.0), λ i. known.2 i && h.1 i && h.2 i)

returned_sort : (o : Option Sort) → is_some_sort IntSort o ≡ true → return_sorted (Value IntSort) o ≡ true
returned_sort None e = e
returned_sort (Some s) e = e

pub return_known : (names : NameTable) (e : Expr) → IsStraight (code.Return e) → IsFine names e → IsKnown names (code.Return e)
return_known names e straight fine =
    let h = simple_known names (Value IntSort) IntSort e straight.0 straight.1 fine in
    (h.0, λ i. returned_sort (expr_sort names e) h.1 i && h.2 i)

-- ---- from what is made before to what is made behind

-- a table of names that has what is made behind has what is made before
pub earlier : (names : NameTable) (p q : Progress) (more : List Declared) → q.variables ≡ p.variables ++ more → IsTable names q → IsTable names p
earlier names p q more is table = record {
  rest = map variable_name more ++ table.rest;
  is = table.is ∙ ap (λ l. map variable_name l ++ table.rest) is ∙ ap (λ l. l ++ table.rest) (map-append variable_name p.variables more) ∙ append_assoc (map variable_name p.variables) (map variable_name more) table.rest;
}

-- the statements are known, with so many parameters and locals more at most, and what is in scope behind them stands
pub record Walks (p q : Progress) (locals inner : List Local) (k : ℕ) (ss : List Stmt) : Type 0 where
  pub behind : Behind p q locals k
  pub stands : Stands q inner
  pub wider_ : (x : List ℕ) (t : ValueType) → local_named locals x ≡ Some t → local_named inner x ≡ Some t
  pub known : (names : NameTable) → IsTable names q → AreKnown names ss

pub none_walk : (p : Progress) (locals : List Local) → Stands p locals → Walks p p locals locals 0 []
none_walk p locals s = record { behind = stays p locals s.made; stands = s; wider_ = λ x t e. e; known = λ names table. tt }

pub then_walks : (p q r : Progress) (a b c : List Local) (j k : ℕ) (xs ys : List Stmt) → Walks p q a b j xs → Walks q r b c k ys → Walks p r a c (j + k) (xs ++ ys)
then_walks p q r a b c j k xs ys g h = record {
  behind = joined p q r a b j k g.wider_ g.behind h.behind;
  stands = h.stands;
  wider_ = λ x t e. h.wider_ x t (g.wider_ x t e);
  known = λ names table. both_known names xs ys (g.known names (earlier names q r h.behind.more h.behind.is table)) (h.known names table);
}

pub more_walks : (p q : Progress) (a b : List Local) (j k : ℕ) (ss : List Stmt) → j ≤ k → Walks p q a b j ss → Walks p q a b k ss
more_walks p q a b j k ss le g = record { behind = more_behind p q a j k le g.behind; stands = g.stands; wider_ = g.wider_; known = g.known }

-- a block is left
pub left_walks : (p q : Progress) (locals inner : List Local) (k : ℕ) (ss : List Stmt) → Stands p locals → Walks p q locals inner k ss → Walks p q locals locals k ss
left_walks p q locals inner k ss s g = record { behind = g.behind; stands = still p q locals k s g.behind; wider_ = λ x t e. e; known = g.known }
