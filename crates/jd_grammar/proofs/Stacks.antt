-- A stack whose top is its end, as the symbols to come.
use Rattle.std.proofs.Common.{arith, ◌≡◌, ℕ, ◌+◌, ◌-◌, ◌<◌, ◌≤◌, Bool, true, false, ◌||◌, cond, List, [], ◌∷◌, ◌++◌, length, take, get_or, Some, None, refl, sym, ap, subst, ◌∙◌}
use Rattle.std.specs.Prelude.{reverse, slice_index}
use Rattle.std.specs.List.{slice_get}
use Rattle.std.proofs.lemmas.Bool.{cond-true, cond-false}
use Rattle.std.proofs.lemmas.List.{reverse-append, reverse-reverse, take_more, take_all}
use Rattle.std.proofs.lemmas.Option.{none-some, slice_get_within, slice_get-get_or, get_or_from_slice_get}
use Rattle.jd_grammar.specs.declared.table.Symbol.{Symbol}
use Rattle.jd_grammar.specs.declared.table.Symbol.TheVariants.{Token, Name}
use Rattle.jd_grammar.specs.Tables.{PlainTable, is_solid, chosen}
use Rattle.jd_grammar.specs.Tests.{Sets, lead, has_token, is_ll1}
use Rattle.jd_grammar.proofs.Sets.{all_pass}
use Rattle.jd_grammar.proofs.Steps.{choice}

last-splits : (xs : List Symbol) (x : Symbol) → slice_get xs (length xs - 1) ≡ Some x → xs ≡ take (length xs - 1) xs ++ x ∷ []
last-splits xs x e =
    let inside = slice_get_within xs (length xs - 1) x e in
    let whole : length xs ≤ length xs - 1 + 1 = omega arith in
    sym (take_all (length xs - 1 + 1) xs whole)
    ∙ (take_more xs (length xs - 1) x inside ∙ ap (λ y. take (length xs - 1) xs ++ y ∷ []) (get_or_from_slice_get xs (length xs - 1) x x e))

-- what is to come, where the end of the stack is this symbol, and the rest is taken apart
pub next_is : (xs rest : List Symbol) (x : Symbol) → slice_get xs (length xs - 1) ≡ Some x → rest ≡ take (length xs - 1) xs → reverse xs ≡ x ∷ reverse rest
next_is xs rest x e r =
    ap reverse (last-splits xs x e ∙ ap (λ ys. ys ++ x ∷ []) (sym r)) ∙ reverse-append rest (x ∷ [])

-- what is to come, where symbols were put onto it
pub put_on : (rest more body : List Symbol) → more ≡ rest ++ reverse body → reverse more ≡ body ++ reverse rest
put_on rest more body e = ap reverse e ∙ (reverse-append rest (reverse body) ∙ ap (λ ys. ys ++ reverse rest) (reverse-reverse body))

-- nothing is to come where the stack has no end
pub none_next : (xs : List Symbol) → slice_get xs (length xs - 1) ≡ None → xs ≡ []
none_next [] e = refl
none_next (x ∷ xs) e = absurd (none-some (get_or (x ∷ xs) (length (x ∷ xs) - 1) x) (sym e ∙ slice_get-get_or (x ∷ xs) (length (x ∷ xs) - 1) x (omega arith)))

-- ---- the measure

lead-stops : (t : PlainTable) (xs ss : List Symbol) → has_token t xs ≡ true → lead t (xs ++ ss) ≡ lead t xs
lead-stops t [] ss h = absurd (let z : ⊥ = cc in z)
lead-stops t (Token k ∷ xs) ss h = refl
lead-stops t (Name a ∷ xs) ss h = go (is_solid t a) h (lead-stops t xs ss)
  where
    go : (b : Bool) → (b || has_token t xs) ≡ true → (has_token t xs ≡ true → lead t (xs ++ ss) ≡ lead t xs) → slice_index t.weights a + cond b 0 (lead t (xs ++ ss)) ≡ slice_index t.weights a + cond b 0 (lead t xs)
    go true h i = refl
    go false h i = ap (λ n. slice_index t.weights a + n) (i h)

lead-both : (t : PlainTable) (xs ss : List Symbol) → lead t (xs ++ ss) ≤ lead t xs + lead t ss
lead-both t [] ss = omega arith
lead-both t (Token k ∷ xs) ss = omega arith
lead-both t (Name a ∷ xs) ss = go (is_solid t a) (lead-both t xs ss)
  where
    go : (b : Bool) → lead t (xs ++ ss) ≤ lead t xs + lead t ss → slice_index t.weights a + cond b 0 (lead t (xs ++ ss)) ≤ slice_index t.weights a + cond b 0 (lead t xs) + lead t ss
    go true i = omega arith
    go false i = omega (arith, i)

-- a body weighs less than its name
pub lighter : (s : Sets) (t : PlainTable) (a k q : ℕ) (body ss : List Symbol) → is_ll1 s t ≡ true → chosen t a k ≡ Some (q, body) → lead t (body ++ ss) < lead t (Name a ∷ ss)
lighter s t a k q body ss passed ch =
    let by = choice t a k q body ch in
    let pass = all_pass s t passed by.number by.production by.found in
    let less : lead t body < slice_index t.weights a = subst (λ x. lead t x < slice_index t.weights a) by.stands (subst (λ x. lead t by.production.body < slice_index t.weights x) by.head pass.light) in
    let solid : is_solid t a ≡ true → has_token t body ≡ true = subst (λ x. is_solid t a ≡ true → has_token t x ≡ true) by.stands (subst (λ x. is_solid t x ≡ true → has_token t by.production.body ≡ true) by.head pass.solid) in
    go (is_solid t a) refl less solid (lead-both t body ss)
  where
    go : (b : Bool) → is_solid t a ≡ b → lead t body < slice_index t.weights a → (is_solid t a ≡ true → has_token t body ≡ true) → lead t (body ++ ss) ≤ lead t body + lead t ss → lead t (body ++ ss) < slice_index t.weights a + cond (is_solid t a) 0 (lead t ss)
    go true e less solid i =
        let here = lead-stops t body ss (solid e) in
        let zero : cond (is_solid t a) 0 (lead t ss) ≡ 0 = cond-true (is_solid t a) 0 (lead t ss) e in
        omega (arith, less, here, zero)
    go false e less solid i =
        let more : cond (is_solid t a) 0 (lead t ss) ≡ lead t ss = cond-false (is_solid t a) 0 (lead t ss) e in
        omega (arith, less, i, more)

-- what was seen at the end of a stack, and what is left where it is gone
pub top_is : (items seen rest : List Symbol) (n : ℕ) (x y : Symbol) → seen ≡ items → length seen ≡ n → Some x ≡ slice_get seen (length seen - 1) → x ≡ y → rest ≡ take (n - 1) items → reverse items ≡ y ∷ reverse rest
top_is items seen rest n x y same count last is left =
    let here : slice_get items (length items - 1) ≡ Some y = subst (λ xs. slice_get xs (length xs - 1) ≡ Some y) same (sym last ∙ ap Some is) in
    next_is items rest y here (left ∙ ap (λ m. take (m - 1) items) (sym count ∙ ap length same))

-- what was seen at the end of a stack is next
pub top_first : (items seen : List Symbol) (x y : Symbol) → seen ≡ items → Some x ≡ slice_get seen (length seen - 1) → x ≡ y → reverse items ≡ y ∷ reverse (take (length items - 1) items)
top_first items seen x y same last is = top_is items seen (take (length items - 1) items) (length items) x y same (ap length same) last is refl
