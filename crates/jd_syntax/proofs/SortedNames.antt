-- A set of texts and ranks of sorts with one key more stands for the names with one name more.
use Rattle.jd_syntax.specs.AssignedNames.{key_name, ranked_sort}
use Rattle.jd_syntax.specs.AssignedVariables.{name_cmp, sort_rank, with_variable}
use Rattle.jd_syntax.specs.CodeNames.{same_name, same_sort}
use Rattle.jd_syntax.specs.contracts.assigned.SortRankOrd.TheImpl.{ghosts}
use Rattle.jd_syntax.specs.declared.assigned.SortRank.{SortRank}
use Rattle.jd_syntax.specs.declared.assigned.SortRank.TheVariants.{Int, Bool, Ref, Heap, Field}
use Rattle.jd_syntax.specs.Names.{Name}
use Rattle.std.proofs.Common.{◌≡◌, ℕ, Bor, List, [], ◌∷◌, cond, map, refl, sym, ap, ◌∙◌}
use Rattle.std.specs.BTreeSet.{insert_key}
use Rattle.std.specs.Cmp.{both_tied}
use Rattle.std.specs.Cmp.Lexicographic.{slice_cmp, texts_ties}
use Rattle.std.specs.Ordering.{is_eq, is_lt, match_ordering, nat_cmp, ordering_then}
use Rattle.std.specs.declared.cmp.Ordering.{Ordering}
use Rattle.std.specs.declared.cmp.Ordering.TheVariants.{Less, Equal, Greater}

abbrev Key : Type 0
Key = Bor (List ℕ) × SortRank

-- ranks stand as the sorts' places do, and are equal where the sorts are
rank_place : (r s : SortRank) → (ghosts.cmp r s ≡ nat_cmp (sort_rank (ranked_sort r)) (sort_rank (ranked_sort s))) × (same_sort (ranked_sort r) (ranked_sort s) ≡ is_eq (ghosts.cmp r s))
rank_place Int Int = (refl, refl)
rank_place Int Bool = (refl, refl)
rank_place Int Ref = (refl, refl)
rank_place Int Heap = (refl, refl)
rank_place Int Field = (refl, refl)
rank_place Bool Int = (refl, refl)
rank_place Bool Bool = (refl, refl)
rank_place Bool Ref = (refl, refl)
rank_place Bool Heap = (refl, refl)
rank_place Bool Field = (refl, refl)
rank_place Ref Int = (refl, refl)
rank_place Ref Bool = (refl, refl)
rank_place Ref Ref = (refl, refl)
rank_place Ref Heap = (refl, refl)
rank_place Ref Field = (refl, refl)
rank_place Heap Int = (refl, refl)
rank_place Heap Bool = (refl, refl)
rank_place Heap Ref = (refl, refl)
rank_place Heap Heap = (refl, refl)
rank_place Heap Field = (refl, refl)
rank_place Field Int = (refl, refl)
rank_place Field Bool = (refl, refl)
rank_place Field Ref = (refl, refl)
rank_place Field Heap = (refl, refl)
rank_place Field Field = (refl, refl)

abbrev key_cmp : Key → Key → Ordering
key_cmp k l = ordering_then (slice_cmp nat_cmp k.0.now l.0.now) (ghosts.cmp k.1 l.1)

key_place : (k l : Key) → key_cmp k l ≡ name_cmp (key_name k) (key_name l)
key_place k l = ap (ordering_then (slice_cmp nat_cmp k.0.now l.0.now)) (rank_place k.1 l.1).0

key_same : (k l : Key) → same_name (key_name k) (key_name l) ≡ is_eq (key_cmp k l)
key_same k l = both_tied _ _ _ _ (texts_ties k.0.now l.0.now) (rank_place k.1 l.1).1

one_more : (ks : List Key) (k : Key) → map key_name (insert_key key_cmp ks k) ≡ with_variable (key_name k) (map key_name ks)
one_more [] k = refl
one_more (l ∷ ls) k =
    by (one_more ls k) (key_cmp k l) ∙ (λ i. cond (sym (key_same k l) i) (key_name l ∷ map key_name ls) (cond (is_lt (key_place k l i)) (key_name k ∷ (key_name l ∷ map key_name ls)) (key_name l ∷ with_variable (key_name k) (map key_name ls))))
  where
    by : map key_name (insert_key key_cmp ls k) ≡ with_variable (key_name k) (map key_name ls) → (o : Ordering) → map key_name (match_ordering o (k ∷ (l ∷ ls)) (l ∷ ls) (l ∷ insert_key key_cmp ls k)) ≡ cond (is_eq o) (key_name l ∷ map key_name ls) (cond (is_lt o) (key_name k ∷ (key_name l ∷ map key_name ls)) (key_name l ∷ with_variable (key_name k) (map key_name ls)))
    by h Less = refl
    by h Equal = refl
    by h Greater = ap (λ ns. key_name l ∷ ns) h

-- with one key more, which is the name of a variable
pub name_added : (ks ls : List Key) (k : Key) (v : Name) → ls ≡ insert_key key_cmp ks k → k.0.now ≡ v.text → ranked_sort k.1 ≡ v.sort → map key_name ls ≡ with_variable v (map key_name ks)
name_added ks ls k v e text sort =
    ap (map key_name) e ∙ one_more ks k ∙ ap (λ n. with_variable n (map key_name ks)) (λ i. record { text = text i; sort = sort i })
