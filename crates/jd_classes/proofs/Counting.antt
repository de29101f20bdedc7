-- How many of a list's first elements pass a test, one element more.
use Rattle.std.proofs.Common.{◌≡◌, ℕ, ◌+◌, ◌<◌, Bool, cond, List, length, filter, take, map, get_or, sym, ap, arith, ◌∙◌}
use Rattle.std.proofs.lemmas.List.{get_or-map}
use Rattle.std.proofs.lemmas.List.Filters.{length-filter_more}
use Rattle.std.proofs.lemmas.List.{length-map}

pub one_more : {X Y : Type 0} (f : X → Y) (test : Y → Bool) (xs : List X) (i : ℕ) (x : X) (b : Bool) (count next : ℕ) → i < length xs → x ≡ get_or xs i x → b ≡ test (f x)
    → count ≡ length (filter test (take i (map f xs))) → next ≡ count + cond b 1 0 → next ≡ length (filter test (take (i + 1) (map f xs)))
one_more f test xs i x b count next lt is tested counted added =
    added
    ∙ ap (λ n. n + cond b 1 0) counted
    ∙ ap (λ t. length (filter test (take i (map f xs))) + cond t 1 0) (tested ∙ ap test (ap f is ∙ sym (get_or-map f xs i x (f x) lt)))
    ∙ sym (length-filter_more test (map f xs) i (f x) (omega (arith, lt, length-map xs f)))
