-- What heads make of their parts is what stands behind them.
use Rattle.std.proofs.Common.{◌≡◌, ◌≢◌, ◌⊎◌, List, [], ◌∷◌, length, map, Option, Some, None, option_map, refl}
use Rattle.std.specs.Option.{option_or}
use Rattle.jd_syntax.specs.declared.sx.Sx.{Sx}
use Rattle.jd_syntax.specs.Codes.{Expr}
use Rattle.jd_syntax.specs.Sxs.{bracketed_list, sx_view}
use Rattle.jd_tgrammar.specs.NameTables.{NameTable}
use Rattle.jd_tforms.specs.Naming.{kind_of}
use Rattle.jd_tforms.specs.Reading.{Read, both, expr_of, read, reads, stmt_of, variable, wording}
use Rattle.jd_tforms.specs.declared.heads.ExprHead.{ExprHead}
use Rattle.jd_tforms.specs.declared.heads.ExprHead.TheVariants as exprs
use Rattle.jd_tforms.specs.declared.heads.StmtHead.{StmtHead}
use Rattle.jd_tforms.specs.declared.heads.StmtHead.TheVariants as stmts
use Rattle.jd_tcode.specs.Behind.{rest_of}
use Rattle.jd_tcode.specs.Makers.{assigned, of_kind, one_expr, one_or_two, two_exprs}
use Rattle.jd_tcode.proofs.Among.{among_four, among_three, among_two}

module _ (names : NameTable) where
  pub exprs_made : (h : ExprHead) (a b : Read) → (h ≡ exprs.AndAlso) ⊎ ((h ≡ exprs.OrElse) ⊎ (h ≡ exprs.ReadElement)) → both (two_exprs h) a.expr b.expr ≡ one_or_two names h (a ∷ b ∷ [])
  exprs_made h a b is = among_three (λ k. both (two_exprs k) a.expr b.expr ≡ one_or_two names k (a ∷ b ∷ [])) is refl refl refl

  pub kind_made : (h : ExprHead) (a b : Read) → (h ≡ exprs.Cast) ⊎ (h ≡ exprs.InstanceOf) → both (of_kind h) (wording (kind_of names) a) b.expr ≡ one_or_two names h (a ∷ b ∷ [])
  kind_made h a b is = among_two (λ k. both (of_kind k) (wording (kind_of names) a) b.expr ≡ one_or_two names k (a ∷ b ∷ [])) is refl refl

  pub expr_made : (h : StmtHead) (a : Read) → (h ≡ stmts.Evaluate) ⊎ ((h ≡ stmts.Throw) ⊎ ((h ≡ stmts.ThrowUnchecked) ⊎ (h ≡ stmts.Return))) → option_map (one_expr h) a.expr ≡ stmt_of names (Some h) (a ∷ [])
  expr_made h a is = among_four (λ k. option_map (one_expr k) a.expr ≡ stmt_of names (Some k) (a ∷ [])) is refl refl refl (by a.expr)
    where
      by : (o : Option Expr) → option_map (one_expr stmts.Return) o ≡ option_or (option_map (one_expr stmts.Return) o) None
      by None = refl
      by (Some x) = refl

  pub assigned_made : (h : StmtHead) (a b : Read) → (h ≡ stmts.Set) ⊎ (h ≡ stmts.NewArray) → both (assigned h) (variable names a) b.expr ≡ stmt_of names (Some h) (a ∷ b ∷ [])
  assigned_made h a b is = among_two (λ k. both (assigned k) (variable names a) b.expr ≡ stmt_of names (Some k) (a ∷ b ∷ [])) is refl refl

  -- the heads that have one part or two are those that are none of the others
  pub one_or_two_made : (h : ExprHead) (rs : List Read) → (h ≡ exprs.Conditional → ⊥) → (h ≡ exprs.VirtualCall → ⊥) → (h ≡ exprs.StaticCall → ⊥) → (h ≡ exprs.ConstructorCall → ⊥) →
      one_or_two names h rs ≡ expr_of names (Some h) rs
  one_or_two_made exprs.Conditional rs p q r s = absurd (p refl)
  one_or_two_made exprs.VirtualCall rs p q r s = absurd (q refl)
  one_or_two_made exprs.StaticCall rs p q r s = absurd (r refl)
  one_or_two_made exprs.ConstructorCall rs p q r s = absurd (s refl)
  one_or_two_made h rs p q r s = refl

  -- neither one part nor two
  none_alone : (h : ExprHead) → None ≡ one_or_two names h []
  none_alone (exprs.Unary op) = refl
  none_alone h = refl

  none_of_three : (h : ExprHead) (a b c : Read) (rs : List Read) → None ≡ one_or_two names h (a ∷ b ∷ c ∷ rs)
  none_of_three (exprs.Unary op) a b c rs = refl
  none_of_three h a b c rs = refl

  pub not_one_nor_two : (h : ExprHead) (xs : List Sx) → length xs ≢ 2 → length xs ≢ 3 → None ≡ one_or_two names h (rest_of (reads names (bracketed_list (map sx_view xs))))
  not_one_nor_two h [] n m = none_alone h
  not_one_nor_two h (x ∷ []) n m = none_alone h
  not_one_nor_two h (x ∷ a ∷ []) n m = absurd (n refl)
  not_one_nor_two h (x ∷ a ∷ b ∷ []) n m = absurd (m refl)
  not_one_nor_two h (x ∷ a ∷ b ∷ c ∷ xs) n m = none_of_three h (read names (sx_view a)) (read names (sx_view b)) (read names (sx_view c)) (reads names (bracketed_list (map sx_view xs)))
