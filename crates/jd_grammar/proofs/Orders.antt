-- Tokens have one tree.
use Rattle.std.proofs.Common.{⊎_elim, arith, ◌≡◌, ℕ, suc, true, ◌&&◌, nat_eq, nat_lt, List, [], ◌∷◌, ◌++◌, length, refl, sym, ap, subst, ◌∙◌, append_assoc, eqb-true, eq-eqb}
use Rattle.std.specs.Int.{bit_at}
use Rattle.std.specs.Prelude.{slice_index, bit_or}
use Rattle.std.specs.Int.Bits.{or_self}
use Rattle.std.specs.List.{slice_get, list_any}
use Rattle.std.proofs.lemmas.Bool.{and_parts, and_from, or_cases}
use Rattle.std.proofs.lemmas.Option.{same_Some}
use Rattle.jd_grammar.specs.declared.table.Symbol.{Symbol}
use Rattle.jd_grammar.specs.declared.table.Symbol.TheVariants.{Token, Name}
use Rattle.jd_grammar.specs.Grammars.{Production, Forest, Done, Leaf, Node, yield, preorder, ahead, IsForest, Spells}
use Rattle.jd_grammar.specs.Tables.{PlainTable, chosen}
use Rattle.jd_grammar.specs.Tests.{Sets, within, first_of, is_followed, productions_pass, witnesses_pass, starts_pass, is_start, is_ll1}
use Rattle.jd_grammar.proofs.Masks.{has-within}
use Rattle.jd_grammar.proofs.Sets.{AllPass, all_pass, ahead-first, chosen-rule}

-- what the test says of a name that a whole text may be of
pub record StartPasses (s : Sets) (t : PlainTable) (a : ℕ) : Type 0 where
  pub ended : bit_at (slice_index s.follow a) 0 ≡ 1
  pub known : nat_lt a (length s.ranks) ≡ true
  pub followed : is_followed s (Name a ∷ []) (slice_index s.follow a) ≡ true

start-here : (s : Sets) (t : PlainTable) (a b : ℕ) → a ≡ b → bit_at (slice_index s.follow b) 0 ≡ 1 → nat_lt b (length s.ranks) ≡ true → StartPasses s t a
start-here s t a b e bit known = subst (StartPasses s t) (sym e) (record {
  ended = bit;
  known = known;
  followed = and_from (within (slice_index s.follow b) (slice_index s.follow b)) true (eq-eqb (bit_or (slice_index s.follow b) (slice_index s.follow b)) (slice_index s.follow b) (or_self (slice_index s.follow b))) refl;
})

start-at : (s : Sets) (t : PlainTable) (a : ℕ) (bs : List ℕ) → starts_pass s bs ≡ true → list_any (nat_eq a) bs ≡ true → StartPasses s t a
start-at s t a [] h m = absurd (let z : ⊥ = cc in z)
start-at s t a (b ∷ bs) h m =
    let both = and_parts (nat_eq (bit_at (slice_index s.follow b) 0) 1 && nat_lt b (length s.ranks)) (starts_pass s bs) h in
    let here = and_parts (nat_eq (bit_at (slice_index s.follow b) 0) 1) (nat_lt b (length s.ranks)) both.0 in
    ⊎_elim (λ e. start-here s t a b (eqb-true a b e) (eqb-true (bit_at (slice_index s.follow b) 0) 1 here.0) here.1) (λ more. start-at s t a bs both.1 more) (or_cases (nat_eq a b) (list_any (nat_eq a) bs) m)

pub start_passes : (s : Sets) (t : PlainTable) (a : ℕ) → is_ll1 s t ≡ true → is_start t a ≡ true → StartPasses s t a
start_passes s t a h m = start-at s t a t.starts (let h1 = and_parts (productions_pass s t 0 t.productions) _ h in let h2 = and_parts (witnesses_pass s t 0 s.ranks) _ h1.1 in (and_parts (starts_pass s t.starts) _ h2.1).0) m

-- symbols have one forest that begins these tokens, with one of the kinds of a mask behind it
pub one_reading : (s : Sets) (t : PlainTable) → AllPass s t → (f h : Forest) (ss : List Symbol) (after before : List ℕ) (mask : ℕ) → IsForest t.productions f ss after → IsForest t.productions h ss before → is_followed s ss mask ≡ true → bit_at mask (ahead after) ≡ 1 → bit_at mask (ahead before) ≡ 1 → yield f ++ after ≡ yield h ++ before → (f ≡ h) × (after ≡ before)
one_reading s t pass Done Done [] after before mask i j fo b b' e = (refl, e)
one_reading s t pass Done Done (x ∷ ss) after before mask i j fo b b' e = absurd i
one_reading s t pass Done (Leaf k h) [] after before mask i j fo b b' e = absurd j
one_reading s t pass Done (Leaf k h) (x ∷ ss) after before mask i j fo b b' e = absurd i
one_reading s t pass Done (Node q d h) [] after before mask i j fo b b' e = absurd j
one_reading s t pass Done (Node q d h) (x ∷ ss) after before mask i j fo b b' e = absurd i
one_reading s t pass (Leaf k f) h [] after before mask i j fo b b' e = absurd i
one_reading s t pass (Leaf k f) h (Name a ∷ ss) after before mask i j fo b b' e = absurd i
one_reading s t pass (Leaf k f) Done (Token n ∷ ss) after before mask i j fo b b' e = absurd j
one_reading s t pass (Leaf k f) (Leaf l h) (Token n ∷ ss) after before mask i j fo b b' e =
    let same : yield f ++ after ≡ yield h ++ before = cc in
    let r = one_reading s t pass f h ss after before mask i.1 j.1 fo b b' same in
    (ap (λ x. Leaf x f) (sym i.0 ∙ j.0) ∙ ap (Leaf l) r.0, r.1)
one_reading s t pass (Leaf k f) (Node q d h) (Token n ∷ ss) after before mask i j fo b b' e = absurd j
one_reading s t pass (Node p c f) h [] after before mask i j fo b b' e = absurd i
one_reading s t pass (Node p c f) h (Token n ∷ ss) after before mask i j fo b b' e = absurd i
one_reading s t pass (Node p c f) Done (Name a ∷ ss) after before mask i j fo b b' e = absurd j
one_reading s t pass (Node p c f) (Leaf l h) (Name a ∷ ss) after before mask i j fo b b' e = absurd j
one_reading s t pass (Node p c f) (Node q d h) (Name a ∷ ss) after before mask i j fo b b' e =
    let both = and_parts (within (first_of s ss mask) (slice_index s.follow a)) (is_followed s ss mask) fo in
    let behind = has-within (first_of s ss mask) (slice_index s.follow a) (ahead (yield f ++ after)) both.0 (ahead-first s t pass f ss after mask i.5 b) in
    let behind' = has-within (first_of s ss mask) (slice_index s.follow a) (ahead (yield h ++ before)) both.0 (ahead-first s t pass h ss before mask j.5 b') in
    let by = chosen-rule s t pass p i.0 a (ahead (yield c ++ (yield f ++ after))) i.1 i.2 i.3 (ahead-first s t pass c i.0.body (yield f ++ after) (slice_index s.follow a) i.4 behind) in
    let by' = chosen-rule s t pass q j.0 a (ahead (yield d ++ (yield h ++ before))) j.1 j.2 j.3 (ahead-first s t pass d j.0.body (yield h ++ before) (slice_index s.follow a) j.4 behind') in
    let whole : yield c ++ (yield f ++ after) ≡ yield d ++ (yield h ++ before) = sym (append_assoc (yield c) (yield f) after) ∙ (e ∙ append_assoc (yield d) (yield h) before) in
    let chose : (suc p, i.0.body) ≡ (suc q, j.0.body) = same_Some _ _ (sym by ∙ (ap (λ ys. chosen t a (ahead ys)) whole ∙ by')) in
    let same : p ≡ q = omega (arith, ap (λ x. x.0) chose) in
    let one : j.0 ≡ i.0 = same_Some j.0 i.0 (sym j.1 ∙ (ap (slice_get t.productions) (sym same) ∙ i.1)) in
    let inside : is_followed s i.0.body (slice_index s.follow a) ≡ true = subst (λ x. is_followed s i.0.body (slice_index s.follow x) ≡ true) i.2 (pass p i.0 i.1).follow in
    let below = one_reading s t pass c d i.0.body (yield f ++ after) (yield h ++ before) (slice_index s.follow a) i.4 (subst (λ (r : Production). IsForest t.productions d r.body (yield h ++ before)) one j.4) inside behind behind' whole in
    let beside = one_reading s t pass f h ss after before mask i.5 j.5 both.1 b b' below.1 in
    (ap (λ x. Node x c f) same ∙ (ap (λ x. Node q x f) below.0 ∙ ap (Node q d) beside.0), beside.1)

pub one_order : (s : Sets) (t : PlainTable) (start : ℕ) (tokens x y : List ℕ) → is_ll1 s t ≡ true → is_start t start ≡ true → Spells t.productions start tokens x → Spells t.productions start tokens y → x ≡ y
one_order s t start tokens x y passed st h i =
    let at = start_passes s t start passed st in
    let same = one_reading s t (all_pass s t passed) h.0 i.0 (Name start ∷ []) [] [] (slice_index s.follow start) h.1 i.1 at.followed at.ended at.ended (ap (λ ys. ys ++ []) (h.2 ∙ sym i.2)) in
    sym h.3 ∙ (ap preorder same.0 ∙ i.3)
