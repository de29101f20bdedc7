-- What is left of a number of comparisons.
use Rattle.std.proofs.Common.{◌≡◌, ℕ, suc, length, map, ◌+◌, ◌-◌, ◌≤◌, nat_le, Bool, true, false, if◌then◌else◌, List, [], ◌∷◌, Option, Some, None, refl, sym, ap, arith}
use Rattle.std.proofs.lemmas.Bool.{leb-false, leb-true}
use Rattle.std.proofs.lemmas.Option.{none-some, same_Some}
use Rattle.jd_syntax.specs.Codes.{stmts_of}
use Rattle.jd_syntax.specs.CodeViews.{stmt_view}
use Rattle.jd_syntax.specs.declared.code.CodeStmt.{CodeStmt}
use Rattle.jd_syntax.specs.SpecTrees.{PlainClause}
use Rattle.jd_first_form.specs.Forms.{statement_count}
use Rattle.jd_first_form.specs.Conditions.{all_comparisons, are_few, both_counted, comparisons_in, left_of}

pub none_left : (limit : ℕ) (m n : Option ℕ) → None ≡ left_of limit m → None ≡ left_of limit (both_counted m n)
none_left limit None n e = refl
none_left limit (Some k) None e = refl
none_left limit (Some k) (Some j) e = by (nat_le k limit) refl (nat_le (k + j) limit) refl e
  where
    by : (s : Bool) → nat_le k limit ≡ s → (t : Bool) → nat_le (k + j) limit ≡ t → None ≡ (if s then Some (limit - k) else None) → None ≡ (if t then Some (limit - (k + j)) else None)
    by true p t q n = absurd (none-some (limit - k) n)
    by false p true q n = absurd (let a = leb-false k limit p in let b = leb-true (k + j) limit q in omega arith)
    by false p false q n = refl

pub some_left : (limit left : ℕ) (m n : Option ℕ) → Some left ≡ left_of limit m → left_of left n ≡ left_of limit (both_counted m n)
some_left limit left None n e = absurd (none-some left (sym e))
some_left limit left (Some k) None e = refl
some_left limit left (Some k) (Some j) e = by (nat_le k limit) refl e
  where
    of_two : left ≡ limit - k → k ≤ limit → (t : Bool) → nat_le j left ≡ t → (u : Bool) → nat_le (k + j) limit ≡ u → ◌≡◌ {A = Option ℕ} (if t then Some (left - j) else None) (if u then Some (limit - (k + j)) else None)
    of_two is within true q true r = ap Some (let h = leb-true j left q in omega arith)
    of_two is within true q false r = absurd (let a = leb-true j left q in let b = leb-false (k + j) limit r in omega arith)
    of_two is within false q true r = absurd (let a = leb-false j left q in let b = leb-true (k + j) limit r in omega arith)
    of_two is within false q false r = refl

    by : (s : Bool) → nat_le k limit ≡ s → Some left ≡ (if s then Some (limit - k) else None) → left_of left (Some j) ≡ left_of limit (Some (k + j))
    by true p f = of_two (same_Some left (limit - k) f) (leb-true k limit p) (nat_le j left) refl (nat_le (k + j) limit) refl
    by false p f = absurd (none-some left (sym f))

-- ---- of clauses

pub refused : (limit : ℕ) (c : PlainClause) (cs : List PlainClause) → None ≡ left_of limit (comparisons_in c) → false ≡ are_few limit (all_comparisons (c ∷ cs))
refused limit c cs e = by (comparisons_in c) (all_comparisons cs) e
  where
    of_two : (k j : ℕ) → (s : Bool) → nat_le k limit ≡ s → None ≡ (if s then Some (limit - k) else None) → (t : Bool) → nat_le (k + j) limit ≡ t → false ≡ t
    of_two k j true p e t q = absurd (none-some (limit - k) e)
    of_two k j false p e true q = absurd (let a = leb-false k limit p in let b = leb-true (k + j) limit q in omega arith)
    of_two k j false p e false q = refl

    by : (m n : Option ℕ) → None ≡ left_of limit m → false ≡ are_few limit (both_counted m n)
    by None n f = refl
    by (Some k) None f = refl
    by (Some k) (Some j) f = of_two k j (nat_le k limit) refl f (nat_le (k + j) limit) refl

pub goes_on : (limit left : ℕ) (c : PlainClause) (cs : List PlainClause) → Some left ≡ left_of limit (comparisons_in c) → are_few left (all_comparisons cs) ≡ are_few limit (all_comparisons (c ∷ cs))
goes_on limit left c cs e = by (comparisons_in c) (all_comparisons cs) e
  where
    of_three : (k j : ℕ) → left ≡ limit - k → k ≤ limit → (t : Bool) → nat_le j left ≡ t → (u : Bool) → nat_le (k + j) limit ≡ u → t ≡ u
    of_three k j is within true q true r = refl
    of_three k j is within true q false r = absurd (let a = leb-true j left q in let b = leb-false (k + j) limit r in omega arith)
    of_three k j is within false q true r = absurd (let a = leb-false j left q in let b = leb-true (k + j) limit r in omega arith)
    of_three k j is within false q false r = refl

    of_two : (k j : ℕ) → (s : Bool) → nat_le k limit ≡ s → Some left ≡ (if s then Some (limit - k) else None) → nat_le j left ≡ nat_le (k + j) limit
    of_two k j true p f = of_three k j (same_Some left (limit - k) f) (leb-true k limit p) (nat_le j left) refl (nat_le (k + j) limit) refl
    of_two k j false p f = absurd (none-some left (sym f))

    by : (m n : Option ℕ) → Some left ≡ left_of limit m → are_few left n ≡ are_few limit (both_counted m n)
    by None n f = absurd (none-some left (sym f))
    by (Some k) None f = refl
    by (Some k) (Some j) f = of_two k j (nat_le k limit) refl f

-- ---- of statements

pub counted : (ss : List CodeStmt) → statement_count (stmts_of (map stmt_view ss)) ≡ length ss
counted [] = refl
counted (s ∷ ss) = ap suc (counted ss)
