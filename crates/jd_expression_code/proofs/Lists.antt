-- The code of expressions one behind the other, from what is made so far.
use Rattle.std.proofs.Common.{◌≡◌, ◌<◌, ◌+◌, ℕ, List, [], ◌∷◌, ◌++◌, length, map, drop, get_or, refl, sym, ap, ◌∙◌, append_assoc}
use Rattle.std.proofs.lemmas.List.{append-nil, drop_more}
use Rattle.jd_syntax.specs.Codes as code
use Rattle.jd_syntax.specs.JavaTrees.{JavaExprs, NoExprs, ExprThen, java_exprs, java_view}
use Rattle.jd_syntax.specs.declared.java.Expr.{Expr}
use Rattle.jd_bodies.specs.declared.place.Place.{Place}
use Rattle.jd_bodies.specs.Codes.{Arguments, arguments_of, code_of, codes_of, type_before, variable}
use Rattle.jd_bodies.specs.Declarations.{Declarations}
use Rattle.jd_bodies.specs.Scopes.{Local}
use Rattle.jd_bodies.specs.Variables.{Progress, temporary}

abbrev pub Codes : Type 0
Codes = Progress × List code.Expr

abbrev behind : List code.Expr → Codes → Codes
behind xs m = (m.0, xs ++ m.1)

abbrev behind_both : List code.Stmt → List code.Expr → Arguments → Arguments
behind_both ss xs a = record { progress = a.progress; sets = ss ++ a.sets; values = xs ++ a.values }

next_of : (es : List Expr) (i : ℕ) (e : Expr) → i < length es → e ≡ get_or es i e → drop i es ≡ e ∷ drop (i + 1) es
next_of es i e lt is = drop_more es i e lt ∙ ap (λ y. y ∷ drop (i + 1) es) (sym is)

module _ (d : Declarations) (place : Place) (locals : List Local) where
  abbrev pub codes_from : List code.Expr → JavaExprs → Progress → Codes
  codes_from xs NoExprs p = (p, xs)
  codes_from xs (ExprThen e es) p = codes_from (xs ++ (code_of d place locals e p).1 ∷ []) es (code_of d place locals e p).0

  codes_are : (xs : List code.Expr) (es : JavaExprs) (p : Progress) → codes_from xs es p ≡ behind xs (codes_of d place locals es p)
  codes_are xs NoExprs p = ap (λ l. (p, l)) (sym (append-nil xs))
  codes_are xs (ExprThen e es) p =
      let m = code_of d place locals e p in
      codes_are (xs ++ m.1 ∷ []) es m.0 ∙ ap (λ l. ((codes_of d place locals es m.0).0, l)) (append_assoc xs (m.1 ∷ []) (codes_of d place locals es m.0).1)

  pub from_nothing : (es : JavaExprs) (p : Progress) → codes_from [] es p ≡ codes_of d place locals es p
  from_nothing es p = codes_are [] es p

  -- the next expression
  pub next_code : (es : List Expr) (i : ℕ) (e : Expr) (xs : List code.Expr) (p : Progress) (whole : Codes) → i < length es → e ≡ get_or es i e
      → codes_from xs (java_exprs (map java_view (drop i es))) p ≡ whole
      → codes_from (xs ++ (code_of d place locals (java_view e) p).1 ∷ []) (java_exprs (map java_view (drop (i + 1) es))) (code_of d place locals (java_view e) p).0 ≡ whole
  next_code es i e xs p whole lt is so_far = sym (ap (λ (l : List Expr). codes_from xs (java_exprs (map java_view l)) p) (next_of es i e lt is)) ∙ so_far

  abbrev pub arguments_from : List code.Stmt → List code.Expr → JavaExprs → Progress → Arguments
  arguments_from ss xs NoExprs p = record { progress = p; sets = ss; values = xs }
  arguments_from ss xs (ExprThen e es) p =
      let m = code_of d place locals e p in
      let k = temporary (type_before d place locals e) m.0 in
      arguments_from (ss ++ code.Set k.1 m.1 ∷ []) (xs ++ variable k.1 ∷ []) es k.0

  arguments_are : (ss : List code.Stmt) (xs : List code.Expr) (es : JavaExprs) (p : Progress) → arguments_from ss xs es p ≡ behind_both ss xs (arguments_of d place locals es p)
  arguments_are ss xs NoExprs p = ap (λ l. record { progress = p; sets = l; values = xs }) (sym (append-nil ss)) ∙ ap (λ l. record { progress = p; sets = ss ++ []; values = l }) (sym (append-nil xs))
  arguments_are ss xs (ExprThen e es) p =
      let m = code_of d place locals e p in
      let k = temporary (type_before d place locals e) m.0 in
      let a = arguments_of d place locals es k.0 in
      arguments_are (ss ++ code.Set k.1 m.1 ∷ []) (xs ++ variable k.1 ∷ []) es k.0
      ∙ ap (λ l. record { progress = a.progress; sets = l; values = (xs ++ variable k.1 ∷ []) ++ a.values }) (append_assoc ss (code.Set k.1 m.1 ∷ []) a.sets)
      ∙ ap (λ l. record { progress = a.progress; sets = ss ++ (code.Set k.1 m.1 ∷ a.sets); values = l }) (append_assoc xs (variable k.1 ∷ []) a.values)

  pub arguments_from_nothing : (es : JavaExprs) (p : Progress) → arguments_from [] [] es p ≡ arguments_of d place locals es p
  arguments_from_nothing es p = arguments_are [] [] es p

  -- the next argument
  pub next_argument : (es : List Expr) (i : ℕ) (e : Expr) (ss : List code.Stmt) (xs : List code.Expr) (p : Progress) (whole : Arguments) → i < length es → e ≡ get_or es i e
      → arguments_from ss xs (java_exprs (map java_view (drop i es))) p ≡ whole
      → arguments_from (ss ++ code.Set (temporary (type_before d place locals (java_view e)) (code_of d place locals (java_view e) p).0).1 (code_of d place locals (java_view e) p).1 ∷ [])
      (xs ++ variable (temporary (type_before d place locals (java_view e)) (code_of d place locals (java_view e) p).0).1 ∷ [])
      (java_exprs (map java_view (drop (i + 1) es))) (temporary (type_before d place locals (java_view e)) (code_of d place locals (java_view e) p).0).0 ≡ whole
  next_argument es i e ss xs p whole lt is so_far = sym (ap (λ (l : List Expr). arguments_from ss xs (java_exprs (map java_view l)) p) (next_of es i e lt is)) ∙ so_far
