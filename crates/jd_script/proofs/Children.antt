-- The code's nodes, where one has one child more.
use Rattle.std.proofs.Common.{◌≡◌, ℕ, zero, suc, ◌+◌, ◌-◌, ◌<◌, ◌≤◌, List, [], ◌∷◌, ◌++◌, length, map, set, get_or, reverse, Some, None, refl, sym, ap, ◌∙◌, arith}
use Rattle.std.specs.Prelude.{slice_get}
use Rattle.std.proofs.lemmas.List.{reverse-append}
use Rattle.jd_sequent.specs.Trees.{PlainNode}
use Rattle.jd_sequent.specs.Steps.{node_view}
use Rattle.jd_sequent.specs.declared.script.ScriptNode.{ScriptNode}
use Rattle.jd_scripts.specs.Machine.{one_child_more, counted}

pub none_more : (ns : List PlainNode) (i : ℕ) → length ns ≤ i → ns ≡ one_child_more i ns
none_more [] i le = refl
none_more (n ∷ ns) zero le = absurd (omega arith)
none_more (n ∷ ns) (suc i) le = ap (λ l. n ∷ l) (none_more ns i (omega arith))

abbrev with_children : ScriptNode → ℕ → ScriptNode
with_children x k = record { step = x.step; children = k }

pub one_more : (ns : List ScriptNode) (i : ℕ) (x : ScriptNode) (k : ℕ) → i < length ns → x ≡ get_or ns i x → k ≡ x.children + 1 → map node_view (set ns i (with_children x k)) ≡ one_child_more i (map node_view ns)
one_more [] i x k lt is e = absurd (omega arith)
one_more (n ∷ ns) zero x k lt is e =
    ap (λ j. node_view (with_children x j) ∷ map node_view ns) e ∙ ap (λ z. node_view (with_children z (z.children + 1)) ∷ map node_view ns) is
one_more (n ∷ ns) (suc i) x k lt is e = ap (λ l. node_view n ∷ l) (one_more ns i x k (omega arith) is e)

back : (o : ℕ) (os : List ℕ) → reverse (o ∷ os) ≡ reverse os ++ o ∷ []
back o os = reverse-append (o ∷ []) os

last_is : (os : List ℕ) (i : ℕ) → slice_get os (length os - 1) ≡ Some i → (is : List ℕ) × (reverse os ≡ i ∷ is)
last_is [] i e = absurd cc
last_is (o ∷ []) i e = ([], cc)
last_is (o ∷ (p ∷ os)) i e =
    let at : suc (suc (length os)) - 1 ≡ suc (length os) = omega arith in
    let at2 : length os ≡ suc (length os) - 1 = omega arith in
    let k = last_is (p ∷ os) i (ap (slice_get (p ∷ os)) (sym at2) ∙ (sym (ap (slice_get (o ∷ (p ∷ os))) at) ∙ e)) in
    (k.0 ++ o ∷ [], back o (p ∷ os) ∙ ap (λ l. l ++ o ∷ []) k.1)

pub count_last : (os : List ℕ) (i : ℕ) (ns new : List PlainNode) → slice_get os (length os - 1) ≡ Some i → new ≡ one_child_more i ns → new ≡ counted ns (reverse os)
count_last os i ns new e is =
    let k = last_is os i e in
    is ∙ ap (counted ns) (sym k.1)

pub count_none : (os : List ℕ) (ns : List PlainNode) → slice_get os (length os - 1) ≡ None → ns ≡ counted ns (reverse os)
count_none [] ns e = refl
count_none (o ∷ os) ns e = absurd (none (o ∷ os) (length os) (omega arith) (let at : suc (length os) - 1 ≡ length os = omega arith in ap (slice_get (o ∷ os)) (sym at) ∙ e))
  where
    none : (xs : List ℕ) (i : ℕ) → i < length xs → slice_get xs i ≡ None → ⊥
    none [] i lt e = omega arith
    none (x ∷ xs) zero lt e = cc
    none (x ∷ xs) (suc i) lt e = none xs i (omega arith) e
