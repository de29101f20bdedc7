-- Edges that are added in parts.
use Rattle.std.proofs.Common.{◌≡◌, ◌==◌, ℕ, ◌+◌, ◌<◌, Bool, true, false, List, [], ◌∷◌, ◌++◌, length, map, take, get_or, refl, sym, ap, ◌∙◌, append_assoc}
use Rattle.std.specs.Prelude.{◌&&◌, ◌||◌}
use Rattle.std.specs.List.{list_any}
use Rattle.std.proofs.lemmas.List.{append-nil, map_more}
use Rattle.std.proofs.lemmas.List.Folds.{list_any-append}
use Rattle.jd_jcalls.specs.Called.{PlainCalled}
use Rattle.jd_jgraph.specs.Callees.{Lookup, reached, reached_by}
use Rattle.jd_jgraph.specs.Edges.{with_edges}

both_parts : (e f m n : Bool) → ((e || (f && m)) || (f && n)) ≡ (e || (f && (m || n)))
both_parts true f m n = refl
both_parts false true m n = refl
both_parts false false m n = refl

-- the nodes of two lists, one after the other
pub joined : (edges now new : ℕ → ℕ → Bool) (from : ℕ) (xs ys : List ℕ) → ((a b : ℕ) → now a b ≡ with_edges edges from xs a b) → ((a b : ℕ) → new a b ≡ with_edges now from ys a b) → (a b : ℕ) → new a b ≡ with_edges edges from (xs ++ ys) a b
joined edges now new from xs ys first second a b =
    second a b
    ∙ ap (λ (t : Bool). t || ((a == from) && list_any (λ (y : ℕ). b == y) ys)) (first a b)
    ∙ both_parts (edges a b) (a == from) (list_any (λ (t : ℕ). b == t) xs) (list_any (λ (t : ℕ). b == t) ys)
    ∙ ap (λ (t : Bool). edges a b || ((a == from) && t)) (sym (list_any-append (λ (t : ℕ). b == t) xs ys))

behind : (l : Lookup) (class : ℕ) (cs : List PlainCalled) (c : PlainCalled) → reached_by l class (cs ++ c ∷ []) ≡ reached_by l class cs ++ reached l class c
behind l class [] c = append-nil (reached l class c)
behind l class (d ∷ ds) c = ap (λ (t : List ℕ). reached l class d ++ t) (behind l class ds c) ∙ sym (append_assoc (reached l class d) (reached_by l class ds) (reached l class c))

-- one more call
pub one_more_call : {X : Type 0} (view : X → PlainCalled) (l : Lookup) (class : ℕ) (calls : List X) (i : ℕ) (d : X) → i < length calls
    → (edges now new : ℕ → ℕ → Bool) (from : ℕ) → ((a b : ℕ) → now a b ≡ with_edges edges from (reached_by l class (map view (take i calls))) a b)
    → ((a b : ℕ) → new a b ≡ with_edges now from (reached l class (view (get_or calls i d))) a b)
    → (a b : ℕ) → new a b ≡ with_edges edges from (reached_by l class (map view (take (i + 1) calls))) a b
one_more_call view l class calls i d lt edges now new from so_far step a b =
    joined edges now new from (reached_by l class (map view (take i calls))) (reached l class (view (get_or calls i d))) so_far step a b
    ∙ ap (λ (t : List ℕ). with_edges edges from t a b)
    (sym (behind l class (map view (take i calls)) (view (get_or calls i d))) ∙ ap (reached_by l class) (sym (map_more view calls i d lt)))
