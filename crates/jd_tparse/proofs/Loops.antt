-- Loops over what is left of a list.
use Rattle.std.proofs.Common.{◌≡◌, ℕ, ◌+◌, ◌<◌, Bool, true, cond, nat_eq, List, ◌∷◌, length, map, take, drop, get_or, Option, Some, sym, ap, ◌∙◌}
use Rattle.std.specs.List.{find}
use Rattle.std.proofs.lemmas.Bool.{eq-eqb, ne_eqb}
use Rattle.std.proofs.lemmas.List.{drop_more, take_more}
use Rattle.jd_syntax.proofs.Lists.{rest_more}
use Rattle.jd_tgrammar.specs.NameTables.{NameTable}
use Rattle.jd_tforms.specs.Naming.{parted}

-- ---- the first that passes

pub found_here : {X Y : Type 0} (test : Y → Bool) (view : X → Y) (xs : List X) (i : ℕ) (x : X) (whole : Option Y) → i < length xs → x ≡ get_or xs i x → test (view x) ≡ true → find test (map view (drop i xs)) ≡ whole → Some (view x) ≡ whole
found_here test view xs i x whole lt is passes so_far =
    sym
    (ap (find test) (rest_more view xs i x lt)
    ∙ ap (λ y. find test (view y ∷ map view (drop (i + 1) xs))) (sym is)
    ∙ ap (λ b. cond b (Some (view x)) (find test (map view (drop (i + 1) xs)))) passes)
    ∙ so_far

-- ---- the first dot

module _ (names : NameTable) (w : List ℕ) (i : ℕ) (lt : i < length w) where
  at_byte : parted names (take i w) (drop i w) ≡ cond (nat_eq (get_or w i 0) 46) (Some (take i w, drop (i + 1) w)) (parted names (take (i + 1) w) (drop (i + 1) w))
  at_byte =
      ap (parted names (take i w)) (drop_more w i 0 lt)
      ∙ ap (λ f. cond (nat_eq (get_or w i 0) 46) (Some (take i w, drop (i + 1) w)) (parted names f (drop (i + 1) w))) (sym (take_more w i 0 lt))

  pub dot_here : get_or w i 0 ≡ 46 → parted names (take i w) (drop i w) ≡ Some (take i w, drop (i + 1) w)
  dot_here dot = at_byte ∙ ap (λ t. cond t (Some (take i w, drop (i + 1) w)) (parted names (take (i + 1) w) (drop (i + 1) w))) (eq-eqb (get_or w i 0) 46 dot)

  pub no_dot_here : (get_or w i 0 ≡ 46 → ⊥) → parted names (take i w) (drop i w) ≡ parted names (take (i + 1) w) (drop (i + 1) w)
  no_dot_here other = at_byte ∙ ap (λ t. cond t (Some (take i w, drop (i + 1) w)) (parted names (take (i + 1) w) (drop (i + 1) w))) (ne_eqb (get_or w i 0) 46 other)
