-- Runs of productions: one takes the place of the symbols that are to come before it, as its productions one after the other do.
use Rattle.std.proofs.Common.{◌≡◌, ℕ, zero, suc, ◌+◌, ◌-◌, ◌<◌, ◌≤◌, Bool, true, not, ◌&&◌, nat_eq, nat_lt, List, [], ◌∷◌, ◌++◌, length, take, drop, get_or, Option, Some, None, refl, sym, ap, ap₂, subst, ◌∙◌, arith, append_assoc, eqb-true}
use Rattle.std.specs.Int.{bit_at}
use Rattle.std.specs.Prelude.{option_map, reverse, slice_index, slice_range}
use Rattle.std.specs.List.{slice_get}
use Rattle.std.proofs.lemmas.Bool.{and_parts, eqb-false, ltb-true, not-true}
use Rattle.std.proofs.lemmas.List.{append-nil, drop_all, drop_more, reverse-append, take-append-drop}
use Rattle.std.proofs.lemmas.Option.{none-some, same_Some, slice_get-map, slice_get-get_or}
use Rattle.jd_grammar.specs.declared.table.Symbol.{Symbol}
use Rattle.jd_grammar.specs.declared.table.Symbol.TheVariants.{Token, Name}
use Rattle.jd_grammar.specs.declared.table.Table.{Table}
use Rattle.jd_grammar.specs.Grammars.{Production}
use Rattle.jd_grammar.specs.Tables.{HasRun, PlainRun, PlainTable, chosen, plain, plain_run}
use Rattle.jd_grammar.specs.Tests.{IsLl1, Sets, body_of, first_of, is_ll1, is_used, lead, leads, run_passes, runs_pass, same_symbol, same_symbols}
use Rattle.jd_grammar.specs.Moves.{IsRunAhead, Leads}
use Rattle.jd_grammar.proofs.Sets.{AllPass, all_pass, chosen-rule}
use Rattle.jd_grammar.proofs.Stacks.{lighter}
use Rattle.jd_grammar.proofs.Steps.{used}

-- ---- what the code finds

abbrev Run : Type 0
Run = ℕ × ℕ × ℕ × ℕ × ℕ × ℕ × ℕ

abbrev run : ℕ → List ℕ → List Symbol → List Symbol → PlainRun
run k order before behind = record { kind = k; order = order; before = before; behind = behind }

-- the run of a number
pub has_run : (t : Table) (n k : ℕ) (d : Run) (order : List ℕ) (before behind : List Symbol) → n < length t.runs.now → (get_or t.runs.now n d).0 ≡ k → order ≡ slice_range t.run_order.now (get_or t.runs.now n d).1 (get_or t.runs.now n d).2 → before ≡ slice_range t.run_symbols.now (get_or t.runs.now n d).3 (get_or t.runs.now n d).4 → behind ≡ slice_range t.run_symbols.now (get_or t.runs.now n d).5 (get_or t.runs.now n d).6 → HasRun (plain t) k order (reverse before) (reverse behind)
has_run t n k d order before behind there is_k is_order is_before is_behind =
    let r = get_or t.runs.now n d in
    let is : plain_run t.run_order.now t.run_symbols.now r ≡ run k order (reverse before) (reverse behind) =
    ap₂ (λ x y. run x y (reverse (slice_range t.run_symbols.now r.3 r.4)) (reverse (slice_range t.run_symbols.now r.5 r.6))) is_k (sym is_order)
    ∙ ap₂ (λ x y. run k order (reverse x) (reverse y)) (sym is_before) (sym is_behind) in
    (n, slice_get-map (plain_run t.run_order.now t.run_symbols.now) t.runs.now n ∙ (ap (option_map (plain_run t.run_order.now t.run_symbols.now)) (slice_get-get_or t.runs.now n d there) ∙ ap Some is))

-- symbols that are the same from a place on, one place earlier
same_from : (xs ys : List Symbol) (n i : ℕ) (d e : Symbol) → n + i < length xs → i < length ys → get_or xs (n + i) d ≡ get_or ys i e → drop (n + (i + 1)) xs ≡ drop (i + 1) ys → drop (n + i) xs ≡ drop i ys
same_from xs ys n i d e in_xs in_ys here rest =
    let next : n + i + 1 ≡ n + (i + 1) = omega arith in
    drop_more xs (n + i) d in_xs ∙ (ap₂ (λ x zs. x ∷ zs) here (ap (λ m. drop m xs) next ∙ rest) ∙ sym (drop_more ys i e in_ys))

pub same_before : (xs ys : List Symbol) (n l m : ℕ) (d e : Symbol) → 0 < l → m ≡ l - 1 → l ≤ length ys → n + length ys ≡ length xs → drop (n + l) xs ≡ drop l ys → get_or xs (n + m) d ≡ get_or ys m e → drop (n + m) xs ≡ drop m ys
same_before xs ys n l m d e some less low sizes rest here =
    let one : l ≡ m + 1 = omega (arith, some, less) in
    same_from xs ys n m d e (omega (arith, one, low, sizes)) (omega (arith, one, low)) here (ap (λ j. drop (n + j) xs) (sym one) ∙ (rest ∙ ap (λ j. drop j ys) one))

-- behind the last symbols there are none
pub none_from : (xs ys : List Symbol) (n m : ℕ) → length xs ≤ n → length ys ≤ m → drop n xs ≡ drop m ys
none_from xs ys n m in_xs in_ys = drop_all n xs in_xs ∙ sym (drop_all m ys in_ys)

-- symbols that are the same from there on are an end
pub end_from : (xs ys : List Symbol) (n l : ℕ) → l ≤ 0 → drop (n + l) xs ≡ drop l ys → xs ≡ take n xs ++ ys
end_from xs ys n l none same =
    let whole : n ≡ n + l = omega (arith, none) in
    let is : drop n xs ≡ ys = ap (λ j. drop j xs) whole ∙ (same ∙ ap (λ j. drop j ys) (let z : l ≡ 0 = omega (arith, none) in z)) in
    sym (take-append-drop n xs) ∙ ap (λ zs. take n xs ++ zs) is

-- what is to come, where the end of the stack is what is to come before a run
pub run_next : (t : PlainTable) (k : ℕ) (stack seen before more : List Symbol) (order : List ℕ) (left : ℕ) → HasRun t k order (reverse before) (reverse more) → seen ≡ stack → seen ≡ take left seen ++ before → IsRunAhead t k stack order more left
run_next t k stack seen before more order left has same is =
    let here : stack ≡ take left stack ++ before = subst (λ xs. xs ≡ take left xs ++ before) same is in
    record { before = reverse before; has = has; next = ap reverse here ∙ reverse-append (take left stack) before }

-- ---- what the test says

-- these productions, each as one more than its number, are chosen one after the other before kind k, and lead from these symbols to those
abbrev Follows : PlainTable → ℕ → List ℕ → List Symbol → List Symbol → Type 0
Follows t k [] xs ys = xs ≡ ys
Follows t k (q ∷ qs) (Name a ∷ xs) ys = (body : List Symbol) × (chosen t a k ≡ Some (q, body)) × Follows t k qs (body ++ xs) ys
Follows t k (q ∷ qs) _ ys = ⊥

symbol_same : (x y : Symbol) → same_symbol x y ≡ true → x ≡ y
symbol_same (Token k) (Token j) h = ap Token (eqb-true k j h)
symbol_same (Token k) (Name b) h = absurd (let z : ⊥ = cc in z)
symbol_same (Name a) (Token j) h = absurd (let z : ⊥ = cc in z)
symbol_same (Name a) (Name b) h = ap Name (eqb-true a b h)

symbols_same : (xs ys : List Symbol) → same_symbols xs ys ≡ true → xs ≡ ys
symbols_same [] [] h = refl
symbols_same [] (y ∷ ys) h = absurd (let z : ⊥ = cc in z)
symbols_same (x ∷ xs) [] h = absurd (let z : ⊥ = cc in z)
symbols_same (x ∷ xs) (y ∷ ys) h =
    let both = and_parts (same_symbol x y) (same_symbols xs ys) h in
    ap₂ (λ z zs. z ∷ zs) (symbol_same x y both.0) (symbols_same xs ys both.1)

is_chosen : (s : Sets) (t : PlainTable) → AllPass s t → (p a k : ℕ) (r : Production) → slice_get t.productions p ≡ Some r → is_used s a k (Some r) ≡ true → chosen t a k ≡ Some (suc p, r.body)
is_chosen s t pass p a k r e h =
    let both = and_parts (nat_eq r.head a) (not (nat_eq r.unless k) && nat_eq (bit_at (first_of s r.body (slice_index s.follow a)) k) 1) h in
    let rest = and_parts (not (nat_eq r.unless k)) (nat_eq (bit_at (first_of s r.body (slice_index s.follow a)) k) 1) both.1 in
    chosen-rule s t pass p r a k e (eqb-true r.head a both.0) (eqb-false r.unless k (not-true (nat_eq r.unless k) rest.0)) (eqb-true (bit_at (first_of s r.body (slice_index s.follow a)) k) 1 rest.1)

leads_follow : (s : Sets) (t : PlainTable) → AllPass s t → (k : ℕ) (qs : List ℕ) (xs ys : List Symbol) → leads s t k qs xs ys ≡ true → Follows t k qs xs ys
leads_follow s t pass k [] xs ys h = symbols_same xs ys h
leads_follow s t pass k (zero ∷ qs) [] ys h = absurd (let z : ⊥ = cc in z)
leads_follow s t pass k (zero ∷ qs) (Token j ∷ xs) ys h = absurd (let z : ⊥ = cc in z)
leads_follow s t pass k (zero ∷ qs) (Name a ∷ xs) ys h = absurd (let z : ⊥ = cc in z)
leads_follow s t pass k (suc p ∷ qs) [] ys h = absurd (let z : ⊥ = cc in z)
leads_follow s t pass k (suc p ∷ qs) (Token j ∷ xs) ys h = absurd (let z : ⊥ = cc in z)
leads_follow s t pass k (suc p ∷ qs) (Name a ∷ xs) ys h = go (slice_get t.productions p) refl h (λ body. leads_follow s t pass k qs (body ++ xs) ys)
  where
    go : (o : Option Production) → slice_get t.productions p ≡ o → (is_used s a k o && leads s t k qs (body_of o ++ xs) ys) ≡ true → ((body : List Symbol) → leads s t k qs (body ++ xs) ys ≡ true → Follows t k qs (body ++ xs) ys) → Follows t k (suc p ∷ qs) (Name a ∷ xs) ys
    go None e h more = absurd (let z : ⊥ = cc in z)
    go (Some r) e h more =
        let both = and_parts (is_used s a k (Some r)) (leads s t k qs (r.body ++ xs) ys) h in
        (r.body, is_chosen s t pass p a k r e both.0, more r.body both.1)

run_at : (s : Sets) (t : PlainTable) (rs : List PlainRun) (n : ℕ) (r : PlainRun) → runs_pass s t rs ≡ true → slice_get rs n ≡ Some r → run_passes s t r ≡ true
run_at s t [] n r h e = absurd (none-some r e)
run_at s t (x ∷ rs) zero r h e = subst (λ y. run_passes s t y ≡ true) (same_Some x r e) (and_parts (run_passes s t x) (runs_pass s t rs) h).0
run_at s t (x ∷ rs) (suc n) r h e = run_at s t rs n r (and_parts (run_passes s t x) (runs_pass s t rs) h).1 e

-- a run of a table that passes is of some productions, and follows
follows : (t : PlainTable) → IsLl1 t → (k : ℕ) (order : List ℕ) (before behind : List Symbol) → HasRun t k order before behind → (0 < length order) × Follows t k order before behind
follows t l k order before behind has =
    let here = and_parts (nat_lt 0 (length order)) (leads l.sets t k order before behind) (run_at l.sets t t.runs has.0 (run k order before behind) l.runs has.1) in
    (ltb-true 0 (length order) here.0, leads_follow l.sets t (all_pass l.sets t l.passes) k order before behind here.1)

-- ---- what the parser's state has to do with a run

run_leads : (s : Sets) (t : PlainTable) (start k : ℕ) (done qs out : List ℕ) (xs ys ss : List Symbol) → is_ll1 s t ≡ true → Follows t k qs xs ys → Leads s t start (Some k) done out (xs ++ ss) → Leads s t start (Some k) done (out ++ qs) (ys ++ ss)
run_leads s t start k done [] out xs ys ss passed f l =
    subst (λ zs. Leads s t start (Some k) done (out ++ []) (zs ++ ss)) f (subst (λ o. Leads s t start (Some k) done o (xs ++ ss)) (sym (append-nil out)) l)
run_leads s t start k done (q ∷ qs) out [] ys ss passed f l = absurd f
run_leads s t start k done (q ∷ qs) out (Token j ∷ xs) ys ss passed f l = absurd f
run_leads s t start k done (q ∷ qs) out (Name a ∷ xs) ys ss passed f l =
    let one = used s t start k done out a q f.0 (xs ++ ss) passed f.1 l in
    let two = subst (Leads s t start (Some k) done (out ++ q ∷ [])) (sym (append_assoc f.0 xs ss)) one in
    subst (λ o. Leads s t start (Some k) done o (ys ++ ss)) (append_assoc out (q ∷ []) qs) (run_leads s t start k done qs (out ++ q ∷ []) (f.0 ++ xs) ys ss passed f.2 two)

run_lighter : (s : Sets) (t : PlainTable) (k : ℕ) (qs : List ℕ) (xs ys ss : List Symbol) → is_ll1 s t ≡ true → Follows t k qs xs ys → lead t (ys ++ ss) + length qs ≤ lead t (xs ++ ss)
run_lighter s t k [] xs ys ss passed f = let e : lead t (xs ++ ss) ≡ lead t (ys ++ ss) = ap (λ zs. lead t (zs ++ ss)) f in omega (arith, e)
run_lighter s t k (q ∷ qs) [] ys ss passed f = absurd f
run_lighter s t k (q ∷ qs) (Token j ∷ xs) ys ss passed f = absurd f
run_lighter s t k (q ∷ qs) (Name a ∷ xs) ys ss passed f =
    let less = lighter s t a k q f.0 (xs ++ ss) passed f.1 in
    let more = run_lighter s t k qs (f.0 ++ xs) ys ss passed f.2 in
    let same : lead t ((f.0 ++ xs) ++ ss) ≡ lead t (f.0 ++ (xs ++ ss)) = ap (lead t) (append_assoc f.0 xs ss) in
    let whole : length (q ∷ qs) ≡ length qs + 1 = omega arith in
    omega (arith, less, more, same, whole)

-- what is to come behind a run
behind_is : (items cut new more : List Symbol) (left : ℕ) → cut ≡ take left items → new ≡ cut ++ more → reverse new ≡ reverse more ++ reverse (take left items)
behind_is items cut new more left is_cut is_new = ap reverse (is_new ∙ ap (λ xs. xs ++ more) is_cut) ∙ reverse-append (take left items) more

-- it takes the place of what was to come before
pub run_used : (s : Sets) (t : PlainTable) (start k : ℕ) (done out order new_out : List ℕ) (items cut new more : List Symbol) (left : ℕ) → IsLl1 t → is_ll1 s t ≡ true → IsRunAhead t k items order more left → cut ≡ take left items → new ≡ cut ++ more → new_out ≡ out ++ order → Leads s t start (Some k) done out (reverse items) → Leads s t start (Some k) done new_out (reverse new)
run_used s t start k done out order new_out items cut new more left l passed ahead is_cut is_new is_out was =
    let f = (follows t l k order ahead.before (reverse more) ahead.has).1 in
    let is = run_leads s t start k done order out ahead.before (reverse more) (reverse (take left items)) passed f (subst (Leads s t start (Some k) done out) ahead.next was) in
    subst (λ o. Leads s t start (Some k) done o (reverse new)) (sym is_out) (subst (Leads s t start (Some k) done (out ++ order)) (sym (behind_is items cut new more left is_cut is_new)) is)

-- and less is to be looked at
pub run_weighs : (t : PlainTable) (k : ℕ) (order : List ℕ) (items cut new more : List Symbol) (left : ℕ) → IsLl1 t → IsRunAhead t k items order more left → cut ≡ take left items → new ≡ cut ++ more → lead t (reverse new) < lead t (reverse items)
run_weighs t k order items cut new more left l ahead is_cut is_new =
    let f = follows t l k order ahead.before (reverse more) ahead.has in
    let some = f.0 in
    let less = run_lighter l.sets t k order ahead.before (reverse more) (reverse (take left items)) l.passes f.1 in
    let was : lead t (reverse items) ≡ lead t (ahead.before ++ reverse (take left items)) = ap (lead t) ahead.next in
    let is : lead t (reverse new) ≡ lead t (reverse more ++ reverse (take left items)) = ap (lead t) (behind_is items cut new more left is_cut is_new) in
    omega (arith, some, less, was, is)
