-- A class and those above it, as the task tells them and as the code walks.
use Rattle.std.proofs.Common.{Bool, List, None, Option, Some, [], ap, append_assoc, arith, cond, false, refl, reverse, subst, suc, sym, true, zero, length, nat_eq, ◌++◌, ◌<◌, ◌≡◌, ◌∙◌, ◌∷◌, ◌&&◌, ℕ}
use Rattle.std.specs.Prelude.{nat_lt}
use Rattle.std.specs.List.{list_any, slice_get}
use Rattle.std.specs.Option.{option_and_then}
use Rattle.std.proofs.lemmas.Bool.Decides.{nat_tests}
use Rattle.std.proofs.lemmas.List.Sorted.{IsPermutation-reverse, list_any-IsPermutation}
use Rattle.jd_ancestry.specs.Walks.{parent_of}
use Rattle.jd_model.specs.Programs.{is_subclass}
use Rattle.jd_task_classes.specs.Classes.{PlainClasses, parents_in}
use Rattle.jd_told_programs.specs.Told.{line, line_above, told_program}
use Rattle.jd_told_tables.specs.Lines.{line_up, up_from}

module _ (parents : List (Option ℕ)) where
  above_same : (f g : ℕ → List ℕ) → ((c : ℕ) → f c ≡ g c) → (o : Option (Option ℕ)) → line_above f o ≡ up_from g (option_and_then (λ p. p) o)
  above_same f g same None = refl
  above_same f g same (Some None) = refl
  above_same f g same (Some (Some c)) = same c

  pub line_same : (n c : ℕ) → line parents n c ≡ line_up parents n c
  line_same zero c = refl
  line_same (suc n) c = ap (λ l. c ∷ l) (above_same (line parents n) (line_up parents n) (line_same n) (slice_get parents c))

any_if : (p : ℕ → Bool) (b : Bool) (l : List ℕ) → list_any p (cond b l []) ≡ (b && list_any p l)
any_if p true l = refl
any_if p false l = refl

-- whether a class is another or stands below it
pub below_is : (k : PlainClasses) (c d : ℕ) → is_subclass (told_program k) c d ≡ (nat_lt c (length k.tables.classes) && list_any (nat_eq d) (line_up (parents_in k.tables) (length k.tables.classes) c))
below_is k c d =
    let up : List ℕ = line (parents_in k.tables) (length k.tables.classes) c in
    any_if (nat_eq d) (nat_lt c (length k.tables.classes)) (reverse up)
    ∙ ap (λ b. nat_lt c (length k.tables.classes) && b)
    (sym (list_any-IsPermutation (nat_eq d) up (reverse up) (IsPermutation-reverse up))
    ∙ ap (list_any (nat_eq d)) (line_same (parents_in k.tables) (length k.tables.classes) c))

pub lt_test : (a b : ℕ) → a < b → nat_lt a b ≡ true
lt_test a b e = grind (arith, nat_tests)

-- the same of a class that is one of the tables
pub below_by : (k : PlainClasses) (c d n : ℕ) (r : Bool) → n ≡ length k.tables.classes → c < n → r ≡ list_any (nat_eq d) (line_up (parents_in k.tables) n c) → r ≡ is_subclass (told_program k) c d
below_by k c d n r all lt told =
    told
    ∙ ap (λ m. list_any (nat_eq d) (line_up (parents_in k.tables) m c)) all
    ∙ sym (below_is k c d ∙ ap (λ b. b && list_any (nat_eq d) (line_up (parents_in k.tables) (length k.tables.classes) c)) (lt_test c (length k.tables.classes) (subst (λ m. c < m) all lt)))

-- one step of the way up
pub one_up : (parents : List (Option ℕ)) (made more : List ℕ) (k left at above : ℕ) (whole : List ℕ) → left ≡ suc k → more ≡ made ++ at ∷ [] → Some above ≡ parent_of parents at → made ++ line_up parents left at ≡ whole → more ++ line_up parents k above ≡ whole
one_up parents made more k left at above whole fewer put up inv =
    ap (λ l. l ++ line_up parents k above) put
    ∙ append_assoc made (at ∷ []) (line_up parents k above)
    ∙ ap (λ o. made ++ at ∷ up_from (line_up parents k) o) up
    ∙ ap (λ n. made ++ line_up parents n at) (sym fewer)
    ∙ inv
