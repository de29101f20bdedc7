-- What is in scope behind a statement is what was before it, and perhaps more.
use Rattle.std.proofs.Common.{◌≡◌, ◌++◌, ◌-◌, ℕ, drop, length, arith, List, [], ◌∷◌, Result, Ok, Err, refl, sym, ap, subst, ◌∙◌}
use Rattle.std.proofs.lemmas.List.{append_assoc, length-append}
use Rattle.std.proofs.Math.Seq.{drop-append_seam}
use Rattle.jd_syntax.specs.JavaTrees as java
use Rattle.jd_syntax.specs.JavaTrees.{JavaDeclarator, JavaForStart, JavaStmt, JavaStmts, JavaHandlers}
use Rattle.jd_bodies.specs.declared.place.Place.{Place}
use Rattle.jd_bodies.specs.declared.value.ValueType.{ValueType}
use Rattle.jd_bodies.specs.Declarations.{Declarations, class_type}
use Rattle.jd_specifications.specs.declared.fault.SpecFault.{SpecFault}
use Rattle.jd_specifications.specs.Scopes.{SpecLocal, and_then}
use Rattle.jd_specifications.specs.Clauses.{Sofar, at_first}
use Rattle.jd_specifications.specs.Refused.{type_written, local, declared_names, for_locals, loop_locals, optional_block, around, stmt, stmts, handlers}

abbrev Names : Type 0
Names = List SpecLocal

-- these are those, and perhaps more
abbrev pub Extends : Names → Names → Type 0
Extends more outer = (front : Names) × (more ≡ front ++ outer)

abbrev ok : Names → Result Names SpecFault
ok l = Ok l

same_names : (s t : Names) → ok s ≡ ok t → s ≡ t
same_names s t e = cc

itself : (l : Names) → Extends l l
itself l = ([], refl)

pub through : (s t u : Names) → Extends s t → Extends t u → Extends s u
through s t u a b = (a.0 ++ b.0, a.1 ∙ ap (λ l. a.0 ++ l) b.1 ∙ sym (append_assoc a.0 b.0 u))

pub one_more : (x : SpecLocal) (s t : Names) → Extends s (x ∷ t) → Extends s t
one_more x s t e = (e.0 ++ x ∷ [], e.1 ∙ sym (append_assoc e.0 (x ∷ []) t))

-- as many as were in scope are left of those that are
dropped_all : (xs ys : Names) → drop (length (xs ++ ys) - length ys) (xs ++ ys) ≡ ys
dropped_all xs ys =
    let same : length (xs ++ ys) - length ys ≡ length xs = (let sum = length-append xs ys in omega arith) in
    ap (λ n. drop n (xs ++ ys)) same ∙ drop-append_seam xs ys

pub restored : (l t now : Names) (mark : ℕ) → Extends t l → mark ≡ length l → now ≡ drop (length t - mark) t → now ≡ l
restored l t now mark grows marks is =
    is
    ∙ ap (λ n. drop (length t - n) t) marks
    ∙ ap (λ (x : Names). drop (length x - length l) x) grows.1
    ∙ dropped_all grows.0 l

-- what a result has in scope, where there is one
stays : (l t : Names) → ok l ≡ Ok t → Extends t l
stays l t e = subst (λ (x : Names). Extends x l) (same_names l t e) (itself l)

module _ (d : Declarations) (place : Place) where
  keeps : {A : Type 0} (r : Result A SpecFault) (l t : Names) → and_then (λ a. Ok l) r ≡ Ok t → Extends t l
  keeps (Ok a) l t e = stays l t e
  keeps (Err f) l t e = absurd cc

  keeps_behind : {A B : Type 0} (r : Result A SpecFault) (g : A → Result B SpecFault) (l t : Names) → and_then (λ a. and_then (λ b. Ok l) (g a)) r ≡ Ok t → Extends t l
  keeps_behind (Ok a) g l t e = keeps (g a) l t e
  keeps_behind (Err f) g l t e = absurd cc

  pub declared_grows : (t : ValueType) (xs : List JavaDeclarator) (l : Names) → Extends (declared_names d t xs l) l
  declared_grows t [] l = itself l
  declared_grows t (x ∷ xs) l = one_more (local d x.name t) (declared_names d t xs (local d x.name t ∷ l)) l (declared_grows t xs (local d x.name t ∷ l))

  pub for_grows : (start : JavaForStart) (l : Names) → Extends (for_locals d start l) l
  for_grows (java.Declared w xs) l = declared_grows (type_written d w) xs l
  for_grows (java.Evaluated es) l = itself l

  pub loop_grows : (s : JavaStmt) (l : Names) → Extends (loop_locals d s l) l
  loop_grows (java.For at j start c update s) l = for_grows start l
  loop_grows (java.Label at j n s) l = loop_grows s l
  loop_grows s l = itself l

  -- the handlers of a `try` leave what was in scope before them
  pub handlers_stay : (hs : JavaHandlers) (l t : Names) → handlers d place hs l ≡ Ok t → t ≡ l
  handlers_stay java.NoHandlers l t e = sym (same_names l t e)
  handlers_stay (java.HandlerThen (java.Catch at c x ss) hs) l t e = by (stmts d place ss (local d x (class_type (d.class_named c.name)) ∷ l)) (handlers_stay hs l t) e
    where
      by : {A : Type 0} (r : Result A SpecFault) → (handlers d place hs l ≡ Ok t → t ≡ l) → and_then (λ a. handlers d place hs l) r ≡ Ok t → t ≡ l
      by (Ok a) each e = each e
      by (Err f) each e = absurd cc

  handlers_behind : {A : Type 0} (r : Result A SpecFault) (hs : JavaHandlers) (l t : Names) → and_then (λ a. handlers d place hs l) r ≡ Ok t → Extends t l
  handlers_behind (Ok a) hs l t e = subst (λ (x : Names). Extends x l) (sym (handlers_stay hs l t e)) (itself l)
  handlers_behind (Err f) hs l t e = absurd cc

  finally_behind : {A B C : Type 0} (r : Result A SpecFault) (h : Result B SpecFault) (g : Result C SpecFault) (l t : Names) → and_then (λ a. and_then (λ b. and_then (λ c. Ok l) g) h) r ≡ Ok t → Extends t l
  finally_behind (Ok a) h g l t e = keeps_behind h (λ b. g) l t e
  finally_behind (Err f) h g l t e = absurd cc

  pub stmt_grows : (s : Sofar) (x : JavaStmt) (l t : Names) → stmt d place s x l ≡ Ok t → Extends t l
  stmt_grows s (java.Block at ss) l t e = keeps (stmts d place ss l) l t e
  stmt_grows s (java.Local at w xs) l t e = subst (λ (y : Names). Extends y l) (same_names _ t e) (declared_grows (type_written d w) xs l)
  stmt_grows s (java.Label at j n body) l t e = keeps_behind (optional_block d (around d place (loop_locals d body l)) s j) (λ u. stmt d place u body l) l t e
  stmt_grows s (java.If at c body) l t e = keeps (stmt d place at_first body l) l t e
  stmt_grows s (java.IfElse at c body other) l t e = keeps_behind (stmt d place at_first body l) (λ u. stmt d place at_first other l) l t e
  stmt_grows s (java.While at j c body) l t e = keeps_behind (optional_block d (around d place l) s j) (λ u. stmt d place at_first body l) l t e
  stmt_grows s (java.For at j start c update body) l t e = keeps_behind (optional_block d (around d place (for_locals d start l)) s j) (λ u. stmt d place at_first body (for_locals d start l)) l t e
  stmt_grows s (java.Try at ss hs) l t e = handlers_behind (stmts d place ss l) hs l t e
  stmt_grows s (java.TryFinally at ss hs fs) l t e = finally_behind (stmts d place ss l) (handlers d place hs l) (stmts d place fs l) l t e
  stmt_grows s (java.Empty at) l t e = stays l t e
  stmt_grows s (java.Evaluate at x) l t e = stays l t e
  stmt_grows s (java.Break at x) l t e = stays l t e
  stmt_grows s (java.Continue at x) l t e = stays l t e
  stmt_grows s (java.Return at x) l t e = stays l t e
  stmt_grows s (java.Throw at x) l t e = stays l t e
  stmt_grows s (java.Super at xs) l t e = stays l t e

  pub stmts_grow : (ss : JavaStmts) (l t : Names) → stmts d place ss l ≡ Ok t → Extends t l
  stmts_grow java.NoStmts l t e = stays l t e
  stmts_grow (java.StmtThen x ss) l t e = by (stmt d place at_first x l) refl (stmts_grow ss) e
    where
      by : (r : Result Names SpecFault) → stmt d place at_first x l ≡ r → ((u v : Names) → stmts d place ss u ≡ Ok v → Extends v u) → and_then (λ ls. stmts d place ss ls) r ≡ Ok t → Extends t l
      by (Ok u) is each e = through t u l (each u t e) (stmt_grows at_first x l u is)
      by (Err f) is each e = absurd cc
