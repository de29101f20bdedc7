-- What is made one behind the other, from what is made so far.
use Rattle.std.proofs.Common.{◌≡◌, ◌<◌, ◌≤◌, ◌+◌, ℕ, List, [], ◌∷◌, ◌++◌, length, map, drop, get_or, refl, sym, ap, ◌∙◌, append_assoc}
use Rattle.std.proofs.lemmas.List.{append-nil, drop_all, drop_more}
use Rattle.jd_syntax.specs.Codes.{Stmt}
use Rattle.jd_syntax.specs.JavaTrees.{JavaDeclarator, JavaExpr, JavaForStart, Declared, Evaluated, declarator_view, java_view}
use Rattle.jd_syntax.specs.JavaTypes.{PlainWritten}
use Rattle.jd_syntax.specs.declared.java.Declarator.{Declarator}
use Rattle.jd_syntax.specs.declared.java.Expr.{Expr}
use Rattle.jd_bodies.specs.declared.place.Place.{Place}
use Rattle.jd_bodies.specs.declared.value.ValueType.{ValueType}
use Rattle.jd_bodies.specs.Bodies.{Lines, Scoped, declaration, declared_lines, effect_lines, effects_lines, in_scope, initial_lines, start}
use Rattle.jd_bodies.specs.Declarations.{Declarations, type_by}
use Rattle.jd_bodies.specs.Scopes.{Local}
use Rattle.jd_bodies.specs.Variables.{Progress, with_local}

module _ (d : Declarations) (place : Place) where
  -- ---- expressions that stand as statements

  abbrev pub effects_from : List Local → List Stmt → List JavaExpr → Progress → Lines
  effects_from ls ss [] p = (p, ss)
  effects_from ls ss (e ∷ es) p = effects_from ls (ss ++ (effect_lines d place ls e p).1) es (effect_lines d place ls e p).0

  effects_are : (ls : List Local) (ss : List Stmt) (es : List JavaExpr) (p : Progress) → effects_from ls ss es p ≡ ((effects_lines d place ls es p).0, ss ++ (effects_lines d place ls es p).1)
  effects_are ls ss [] p = ap (λ l. (p, l)) (sym (append-nil ss))
  effects_are ls ss (e ∷ es) p =
      let r = effect_lines d place ls e p in
      effects_are ls (ss ++ r.1) es r.0 ∙ ap (λ l. ((effects_lines d place ls es r.0).0, l)) (append_assoc ss r.1 (effects_lines d place ls es r.0).1)

  pub effects_begin : (ls : List Local) (es : List JavaExpr) (p : Progress) → effects_from ls [] es p ≡ effects_lines d place ls es p
  effects_begin ls es p = effects_are ls [] es p

  pub next_effect : (ls : List Local) (es : List Expr) (i : ℕ) (e : Expr) (ss : List Stmt) (p : Progress) (whole : Lines) → i < length es → e ≡ get_or es i e
      → effects_from ls ss (map java_view (drop i es)) p ≡ whole
      → effects_from ls (ss ++ (effect_lines d place ls (java_view e) p).1) (map java_view (drop (i + 1) es)) (effect_lines d place ls (java_view e) p).0 ≡ whole
  next_effect ls es i e ss p whole lt is so_far =
      sym (ap (λ (l : List Expr). effects_from ls ss (map java_view l) p) (drop_more es i e lt ∙ ap (λ y. y ∷ drop (i + 1) es) (sym is))) ∙ so_far

  pub effects_end : (ls : List Local) (es : List Expr) (i : ℕ) (ss : List Stmt) (p : Progress) (whole : Lines) → length es ≤ i → effects_from ls ss (map java_view (drop i es)) p ≡ whole → (p, ss) ≡ whole
  effects_end ls es i ss p whole few so_far = sym (ap (λ (l : List Expr). effects_from ls ss (map java_view l) p) (drop_all i es few)) ∙ so_far

  -- ---- declared locals

  abbrev pub declared_from : ValueType → List Stmt → List JavaDeclarator → List Local → Progress → Scoped
  declared_from t ss [] ls p = record { lines = (p, ss); locals = ls }
  declared_from t ss (x ∷ xs) ls p =
      let r = initial_lines d place (in_scope d place x.name t ls) x.name t x.value (with_local x.name.name t p) in
      declared_from t (ss ++ r.1) xs (in_scope d place x.name t ls) r.0

  abbrev behind : List Stmt → Scoped → Scoped
  behind ss s = record { lines = (s.lines.0, ss ++ s.lines.1); locals = s.locals }

  declared_are : (t : ValueType) (ss : List Stmt) (xs : List JavaDeclarator) (ls : List Local) (p : Progress) → declared_from t ss xs ls p ≡ behind ss (declared_lines d place t xs ls p)
  declared_are t ss [] ls p = ap (λ l. record { lines = (p, l); locals = ls }) (sym (append-nil ss))
  declared_are t ss (x ∷ xs) ls p =
      let r = initial_lines d place (in_scope d place x.name t ls) x.name t x.value (with_local x.name.name t p) in
      let rest = declared_lines d place t xs (in_scope d place x.name t ls) r.0 in
      declared_are t (ss ++ r.1) xs (in_scope d place x.name t ls) r.0 ∙ ap (λ l. record { lines = (rest.lines.0, l); locals = rest.locals }) (append_assoc ss r.1 rest.lines.1)

  pub declared_begin : (t : ValueType) (xs : List JavaDeclarator) (ls : List Local) (p : Progress) → declared_from t [] xs ls p ≡ declared_lines d place t xs ls p
  declared_begin t xs ls p = declared_are t [] xs ls p

  pub next_declared : (t : ValueType) (xs : List Declarator) (i : ℕ) (x : Declarator) (ss : List Stmt) (ls : List Local) (p : Progress) (whole : Scoped) → i < length xs → x ≡ get_or xs i x
      → declared_from t ss (map declarator_view (drop i xs)) ls p ≡ whole
      → declared_from t (ss ++ (initial_lines d place (in_scope d place (declarator_view x).name t ls) (declarator_view x).name t (declarator_view x).value (with_local (declarator_view x).name.name t p)).1)
      (map declarator_view (drop (i + 1) xs)) (in_scope d place (declarator_view x).name t ls)
      (initial_lines d place (in_scope d place (declarator_view x).name t ls) (declarator_view x).name t (declarator_view x).value (with_local (declarator_view x).name.name t p)).0 ≡ whole
  next_declared t xs i x ss ls p whole lt is so_far =
      sym (ap (λ (l : List Declarator). declared_from t ss (map declarator_view l) ls p) (drop_more xs i x lt ∙ ap (λ y. y ∷ drop (i + 1) xs) (sym is))) ∙ so_far

  pub declared_end : (t : ValueType) (xs : List Declarator) (i : ℕ) (ss : List Stmt) (ls : List Local) (p : Progress) (whole : Scoped) → length xs ≤ i → declared_from t ss (map declarator_view (drop i xs)) ls p ≡ whole
      → record { lines = (p, ss); locals = ls } ≡ whole
  declared_end t xs i ss ls p whole few so_far = sym (ap (λ (l : List Declarator). declared_from t ss (map declarator_view l) ls p) (drop_all i xs few)) ∙ so_far

  -- ---- what is in scope behind them is that, and what was in scope

  abbrev pub Within : List Local → List Local → Type 0
  Within ks ls = (inner : List Local) × (ks ≡ inner ++ ls)

  declared_within : (t : ValueType) (xs : List JavaDeclarator) (ls : List Local) (p : Progress) → Within (declared_lines d place t xs ls p).locals ls
  declared_within t [] ls p = ([], refl)
  declared_within t (x ∷ xs) ls p =
      let r = initial_lines d place (in_scope d place x.name t ls) x.name t x.value (with_local x.name.name t p) in
      let w = declared_within t xs (in_scope d place x.name t ls) r.0 in
      (w.0 ++ (record { name = x.name.name; type = t } ∷ []), w.1 ∙ sym (append_assoc w.0 (record { name = x.name.name; type = t } ∷ []) ls))

  pub declaration_within : (w : PlainWritten) (xs : List JavaDeclarator) (ls : List Local) (p : Progress) → Within (declaration d place w xs ls p).locals ls
  declaration_within w xs ls p = declared_within (type_by d.class_named w.written) xs ls p

  pub start_within : (s : JavaForStart) (ls : List Local) (p : Progress) → Within (start d place s ls p).locals ls
  start_within (Declared w xs) ls p = declaration_within w xs ls p
  start_within (Evaluated es) ls p = ([], refl)
