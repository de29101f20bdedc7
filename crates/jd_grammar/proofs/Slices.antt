-- What the code finds in its slices.
use Rattle.std.proofs.Common.{◌≡◌, ℕ, suc, ◌-◌, ◌<◌, false, not, ◌&&◌, nat_eq, List, length, get_or, Some, None, sym, ap, ap₂, ◌∙◌, arith, eq-eqb}
use Rattle.std.specs.Prelude.{slice_range, option_map}
use Rattle.std.specs.List.{slice_get}
use Rattle.std.proofs.lemmas.Bool.{cond-true, cond-false, ne_eqb, and_from, and_left, and_right}
use Rattle.std.proofs.lemmas.Option.{slice_get-map, slice_get-get_or}
use Rattle.jd_grammar.specs.declared.table.Symbol.{Symbol}
use Rattle.jd_grammar.specs.declared.table.Table.{Table}
use Rattle.jd_grammar.specs.Tables.{production, plain, usable, numbered, chosen_by}

abbrev Rule : Type 0
Rule = ℕ × ℕ × ℕ × ℕ

-- the rule that an entry names
chosen-at : (t : Table) (e p a k : ℕ) (r : Rule) → e ≡ suc p → slice_get t.rules.now p ≡ Some r → chosen_by (plain t).productions e a k ≡ numbered (suc p) (usable (Some (production t.symbols.now r)) a k)
chosen-at t e p a k r z h =
    ap (λ x. chosen_by (plain t).productions x a k) z
    ∙ ap (λ o. numbered (suc p) (usable o a k)) (slice_get-map (production t.symbols.now) t.rules.now p ∙ ap (option_map (production t.symbols.now)) h)

pub chosen_yes : (t : Table) (n e a k : ℕ) (d : Rule) (body : List Symbol) → (n ≡ 0 → ⊥) → n ≡ e → n - 1 < length t.rules.now → ((get_or t.rules.now (n - 1) d).0 ≡ a) → ((get_or t.rules.now (n - 1) d).1 ≡ k → ⊥) → body ≡ slice_range t.symbols.now (get_or t.rules.now (n - 1) d).2 (get_or t.rules.now (n - 1) d).3 → Some (n, body) ≡ chosen_by (plain t).productions e a k
chosen_yes t n e a k d body some z h head free is =
    let r = get_or t.rules.now (n - 1) d in
    ap₂ (λ m (x : List Symbol). Some (m, x)) (let whole : n ≡ suc (n - 1) = omega (arith, some) in whole) is
    ∙ sym (chosen-at t e (n - 1) a k r (omega (arith, some, z)) (slice_get-get_or t.rules.now (n - 1) d h)
    ∙ ap (numbered (suc (n - 1))) (cond-true (nat_eq r.0 a && not (nat_eq r.1 k)) (Some (production t.symbols.now r)) None (and_from (nat_eq r.0 a) (not (nat_eq r.1 k)) (eq-eqb r.0 a head) (ap not (ne_eqb r.1 k free)))))

chosen_none : (t : Table) (n e a k : ℕ) (d : Rule) → (n ≡ 0 → ⊥) → n ≡ e → n - 1 < length t.rules.now → (nat_eq (get_or t.rules.now (n - 1) d).0 a && not (nat_eq (get_or t.rules.now (n - 1) d).1 k)) ≡ false → None ≡ chosen_by (plain t).productions e a k
chosen_none t n e a k d some z h miss =
    let r = get_or t.rules.now (n - 1) d in
    sym (chosen-at t e (n - 1) a k r (omega (arith, some, z)) (slice_get-get_or t.rules.now (n - 1) d h)
    ∙ ap (numbered (suc (n - 1))) (cond-false (nat_eq r.0 a && not (nat_eq r.1 k)) (Some (production t.symbols.now r)) None miss))

pub chosen_other : (t : Table) (n e a k : ℕ) (d : Rule) → (n ≡ 0 → ⊥) → n ≡ e → n - 1 < length t.rules.now → ((get_or t.rules.now (n - 1) d).0 ≡ a → ⊥) → None ≡ chosen_by (plain t).productions e a k
chosen_other t n e a k d some z h miss =
    let r = get_or t.rules.now (n - 1) d in
    chosen_none t n e a k d some z h (and_left (nat_eq r.0 a) (not (nat_eq r.1 k)) (ne_eqb r.0 a miss))

pub chosen_kept : (t : Table) (n e a k : ℕ) (d : Rule) → (n ≡ 0 → ⊥) → n ≡ e → n - 1 < length t.rules.now → (get_or t.rules.now (n - 1) d).1 ≡ k → None ≡ chosen_by (plain t).productions e a k
chosen_kept t n e a k d some z h miss =
    let r = get_or t.rules.now (n - 1) d in
    chosen_none t n e a k d some z h (and_right (nat_eq r.0 a) (not (nat_eq r.1 k)) (ap not (eq-eqb r.1 k miss)))
