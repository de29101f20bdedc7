-- The numbered names of an instance are apart, and apart from names without `~`.
use Rattle.std.proofs.Common.{◌≡◌, ℕ, suc, ◌+◌, ◌<◌, ◌^◌, Bool, true, false, cond, List, [], ◌∷◌, length, refl, sym, ap, ◌∙◌, subst, arith}
use Rattle.std.specs.Fmt.{decimal}
use Rattle.jd_base.specs.declared.sort.Sort.{Sort}
use Rattle.jd_base.specs.declared.sort.Sort.TheVariants.{Int as IntSort, Bool as BoolSort, Heap as HeapSort}
use Rattle.jd_syntax.specs.Names.{Name}
use Rattle.jd_syntax.specs.CodeNames.{same_name, heap_name, is_special}
use Rattle.jd_model.specs.Bodies.{NotHeap}
use Rattle.jd_model.specs.Occurrences.{AllOf, AllApart, member}
use Rattle.jd_model.specs.NumberedNames.{numbered_variable, numbered_constant}
use Rattle.jd_model.proofs.NumberedNames.{has_tilde, tilde_apart, behind_letter, starts_with, digits_apart, letter_apart}
use Rattle.jd_model.proofs.Writes.{apart_by, not_in}
use Rattle.jd_loop.specs.LoopNames.{LoopNames, renewed_variables, variables_before, constants_now, new_variables, renewed_from, names_numbered}
use Rattle.jd_loop.proofs.NewNames.{OldVariable, SameSorts, AreNewNames}

pub renewed_are : (n k : ℕ) (xs : List Name) → renewed_variables (renewed_from n k xs) ≡ xs
renewed_are n k [] = refl
renewed_are n k (x ∷ xs) = ap (λ l. x ∷ l) (renewed_are n (suc k) xs)

renewed_sorts : (n k : ℕ) (xs : List Name) → SameSorts (renewed_from n k xs)
renewed_sorts n k [] = tt
renewed_sorts n k (x ∷ xs) = (refl, refl, renewed_sorts n (suc k) xs)

either_out : (b m : Bool) → b ≡ false → m ≡ false → cond b true m ≡ false
either_out b m p q = ap (λ c. cond c true m) p ∙ q

-- a name with a letter, or nothing, in place of the digits
before_out : (n m c : ℕ) (x : Name) (xs : List Name) → 57 < c → starts_with c (behind_letter x.text) ≡ true → m + length xs < 2 ^ 64 → member x (variables_before (renewed_from n m xs)) ≡ false
before_out n m c x [] big is b = refl
before_out n m c x (y ∷ xs) big is b =
    let small : m < 2 ^ 64 = omega arith in
    let next : suc m + length xs < 2 ^ 64 = omega arith in
    either_out (same_name x (numbered_variable y.sort (decimal m) n)) (member x (variables_before (renewed_from n (suc m) xs)))
    (letter_apart x c big is 64 y.sort m n small) (before_out n (suc m) c x xs big is next)

now_out : (n m c : ℕ) (x : Name) (xs : List Name) → 57 < c → starts_with c (behind_letter x.text) ≡ true → m + length xs < 2 ^ 64 → member x (constants_now (renewed_from n m xs)) ≡ false
now_out n m c x [] big is b = refl
now_out n m c x (y ∷ xs) big is b =
    let small : m < 2 ^ 64 = omega arith in
    let next : suc m + length xs < 2 ^ 64 = omega arith in
    either_out (same_name x (numbered_constant y.sort (decimal m) n)) (member x (constants_now (renewed_from n (suc m) xs)))
    (letter_apart x c big is 35 y.sort m n small) (now_out n (suc m) c x xs big is next)

-- the numbers of the names that follow are greater
later_before : (n k m : ℕ) (s : Sort) (xs : List Name) → k < m → m + length xs < 2 ^ 64 → member (numbered_variable s (decimal k) n) (variables_before (renewed_from n m xs)) ≡ false
later_before n k m s [] lt b = refl
later_before n k m s (y ∷ xs) lt b =
    let small : k < 2 ^ 64 = omega arith in
    let small' : m < 2 ^ 64 = omega arith in
    let next : suc m + length xs < 2 ^ 64 = omega arith in
    let more : k < suc m = omega arith in
    either_out (same_name (numbered_variable s (decimal k) n) (numbered_variable y.sort (decimal m) n)) (member (numbered_variable s (decimal k) n) (variables_before (renewed_from n (suc m) xs)))
    (digits_apart 64 k m n s y.sort small small' lt) (later_before n k (suc m) s xs more next)

later_now : (n k m : ℕ) (s : Sort) (xs : List Name) → k < m → m + length xs < 2 ^ 64 → member (numbered_constant s (decimal k) n) (constants_now (renewed_from n m xs)) ≡ false
later_now n k m s [] lt b = refl
later_now n k m s (y ∷ xs) lt b =
    let small : k < 2 ^ 64 = omega arith in
    let small' : m < 2 ^ 64 = omega arith in
    let next : suc m + length xs < 2 ^ 64 = omega arith in
    let more : k < suc m = omega arith in
    either_out (same_name (numbered_constant s (decimal k) n) (numbered_constant y.sort (decimal m) n)) (member (numbered_constant s (decimal k) n) (constants_now (renewed_from n (suc m) xs)))
    (digits_apart 35 k m n s y.sort small small' lt) (later_now n k (suc m) s xs more next)

befores_apart : (n m : ℕ) (xs : List Name) → m + length xs < 2 ^ 64 → AllApart (variables_before (renewed_from n m xs))
befores_apart n m [] b = tt
befores_apart n m (y ∷ xs) b =
    let next : suc m + length xs < 2 ^ 64 = omega arith in
    let more : m < suc m = omega arith in
    (not_in (numbered_variable y.sort (decimal m) n) (variables_before (renewed_from n (suc m) xs)) (later_before n m (suc m) y.sort xs more next), befores_apart n (suc m) xs next)

nows_apart : (n m : ℕ) (xs : List Name) → m + length xs < 2 ^ 64 → AllApart (constants_now (renewed_from n m xs))
nows_apart n m [] b = tt
nows_apart n m (y ∷ xs) b =
    let next : suc m + length xs < 2 ^ 64 = omega arith in
    let more : m < suc m = omega arith in
    (not_in (numbered_constant y.sort (decimal m) n) (constants_now (renewed_from n (suc m) xs)) (later_now n m (suc m) y.sort xs more next), nows_apart n (suc m) xs next)

-- ---- names without `~`, as `@heap`
plain_before : (x : Name) → has_tilde x.text ≡ false → (n k : ℕ) (xs : List Name) → member x (variables_before (renewed_from n k xs)) ≡ false
plain_before x o n k [] = refl
plain_before x o n k (y ∷ xs) = either_out (same_name x (numbered_variable y.sort (decimal k) n)) (member x (variables_before (renewed_from n (suc k) xs))) (tilde_apart x o (64 ∷ []) y.sort (decimal k) n) (plain_before x o n (suc k) xs)

module _ (n : ℕ) (xs : List Name) where
  abbrev M : LoopNames
  M = names_numbered n xs

  plain_old : (x : Name) → has_tilde x.text ≡ false → OldVariable M x
  plain_old x o =
      either_out (same_name x M.heap_before) (member x (M.variant_before ∷ (M.mark ∷ variables_before M.renewed))) (tilde_apart x o (64 ∷ []) HeapSort [] n)
      (either_out (same_name x M.variant_before) (member x (M.mark ∷ variables_before M.renewed)) (tilde_apart x o (64 ∷ []) IntSort (118 ∷ []) n)
      (either_out (same_name x M.mark) (member x (variables_before M.renewed)) (tilde_apart x o (64 ∷ []) BoolSort (120 ∷ []) n)
      (plain_before x o n 1 xs)))

pub heap_is_old : (n : ℕ) (xs : List Name) → OldVariable (names_numbered n xs) heap_name
heap_is_old n xs = plain_old n xs heap_name refl

-- ---- new variables begin with `@`
special_before : (n k : ℕ) (xs : List Name) → AllOf (λ v. is_special v ≡ true) (variables_before (renewed_from n k xs))
special_before n k [] = tt
special_before n k (x ∷ xs) = (refl, special_before n (suc k) xs)

pub all_special : (n : ℕ) (xs : List Name) → AllOf (λ v. is_special v ≡ true) (new_variables (names_numbered n xs))
all_special n xs = (refl, (refl, (refl, special_before n 1 xs)))

module _ (n : ℕ) (xs : List Name) (few : 1 + length xs < 2 ^ 64) where
  abbrev N : LoopNames
  N = names_numbered n xs

  heap_before_apart : member N.heap_before (N.variant_before ∷ (N.mark ∷ variables_before N.renewed)) ≡ false
  heap_before_apart = either_out (same_name N.heap_before N.variant_before) (member N.heap_before (N.mark ∷ variables_before N.renewed)) (apart_by (λ z. starts_with 126 (behind_letter z.text)) N.heap_before N.variant_before refl refl)
      (either_out (same_name N.heap_before N.mark) (member N.heap_before (variables_before N.renewed)) (apart_by (λ z. starts_with 126 (behind_letter z.text)) N.heap_before N.mark refl refl)
      (before_out n 1 126 N.heap_before xs (omega arith) refl few))

  variant_apart : member N.variant_before (N.mark ∷ variables_before N.renewed) ≡ false
  variant_apart = either_out (same_name N.variant_before N.mark) (member N.variant_before (variables_before N.renewed)) (apart_by (λ z. starts_with 118 (behind_letter z.text)) N.variant_before N.mark refl refl)
      (before_out n 1 118 N.variant_before xs (omega arith) refl few)

  mark_apart : member N.mark (variables_before N.renewed) ≡ false
  mark_apart = before_out n 1 120 N.mark xs (omega arith) refl few

  pub new_names : AllOf (OldVariable N) xs → AllOf NotHeap xs → AreNewNames N
  new_names old no_heap = record {
    apart_variables = (not_in N.heap_before (N.variant_before ∷ (N.mark ∷ variables_before N.renewed)) heap_before_apart, (not_in N.variant_before (N.mark ∷ variables_before N.renewed) variant_apart, (not_in N.mark (variables_before N.renewed) mark_apart, befores_apart n 1 xs few)));
    apart_constants = (not_in N.heap_now (constants_now N.renewed) (now_out n 1 126 N.heap_now xs (omega arith) refl few), nows_apart n 1 xs few);
    heap_before_sort = refl;
    heap_now_sort = refl;
    variant_sort = refl;
    mark_sort = refl;
    sorts = renewed_sorts n 1 xs;
    heap_old = heap_is_old n xs;
    assigned_old = subst (AllOf (OldVariable N)) (sym (renewed_are n 1 xs)) old;
    no_heap = subst (AllOf NotHeap) (sym (renewed_are n 1 xs)) no_heap;
  }
