-- The blocks that jumps leave stand around them.
use Rattle.std.proofs.Common.{◌≡◌, ◌⊎◌, ◌||◌, inl, inr, ⊎_elim, ℕ, Bool, true, false, not, cond, nat_eq, if◌then◌else◌, List, [], ◌∷◌, ◌++◌, map, bytes_eq, refl, sym, ap, subst, ◌∙◌, arith}
use Rattle.std.specs.List.{list_any}
use Rattle.std.proofs.lemmas.Bool.Decides.{nat_tests}
use Rattle.std.proofs.lemmas.Cmp.{nat_list_eq_equiv}
use Rattle.std.proofs.lemmas.Slice.Eq.{bytes_eq-Decides}
use Rattle.jd_bodies.specs.Bodies.{Exits, exit_named, loop_exits, with_exit}
use Rattle.jd_bodies.specs.Jumps.{Asked, in_label, in_loop}
use Rattle.jd_resolved_bodies.proofs.Jumps.{Wider, ask, has_label, or_cases, or_left, or_right}

abbrev pub IsIn : ℕ → List ℕ → Type 0
IsIn n labels = list_any (nat_eq n) labels ≡ true

same : (n : ℕ) → nat_eq n n ≡ true
same n = grind (arith, nat_tests)

-- a block with the label, if one is asked for
abbrev pub inside : Bool → ℕ → List ℕ → List ℕ
inside b n labels = cond b (n ∷ labels) labels

pub in_block : (b : Bool) (n : ℕ) (labels : List ℕ) → b ≡ true → IsIn n (inside b n labels)
in_block true n labels e = or_left (nat_eq n n) _ (same n)
in_block false n labels e = absurd cc

pub in_more : (b : Bool) (n m : ℕ) (labels : List ℕ) → IsIn m labels → IsIn m (inside b n labels)
in_more true n m labels h = or_right (nat_eq m n) _ h
in_more false n m labels h = h

-- where the jumps of a statement go that leave it; those that go on with a loop may go on with the statement itself, by one of its labels
pub record Fits (x : Exits) (labels : List ℕ) (own : List (List ℕ)) (asks : Asked → Bool) (loop : Bool) : Type 0 where
  pub leaves : asks (ask false true []) ≡ true → IsIn x.left labels
  pub repeats : asks (ask true true []) ≡ true → IsIn x.repeated labels
  pub breaks : (m : List ℕ) → asks (ask false false (m ∷ [])) ≡ true → IsIn (exit_named x.labels m) labels
  pub continues : (m : List ℕ) → asks (ask true false (m ∷ [])) ≡ true → ((has_label own m ≡ true) × (loop ≡ true)) ⊎ IsIn (exit_named x.loops m) labels

-- of a part of what is no loop
pub part_fits : (x : Exits) (labels : List ℕ) (own : List (List ℕ)) (asks part : Asked → Bool) (loop : Bool) → Fits x labels own asks false → ((a : Asked) → part a ≡ true → asks a ≡ true) → Fits x labels [] part loop
part_fits x labels own asks part loop f among = record {
  leaves = λ e. f.leaves (among (ask false true []) e);
  repeats = λ e. f.repeats (among (ask true true []) e);
  breaks = λ m e. f.breaks m (among (ask false false (m ∷ [])) e);
  continues = λ m e. ⊎_elim (λ h. absurd (let unlike : false ≡ true = h.1 in cc)) inr (f.continues m (among (ask true false (m ∷ [])) e));
}

-- ---- behind a label

other_label : (asks : Asked → Bool) (l m : List ℕ) (r : Bool) → bytes_eq l m ≡ false → asks (ask r false (m ∷ [])) ≡ true → asks (in_label l (ask r false (m ∷ []))) ≡ true
other_label asks l m r unlike e = ap (λ b. asks (ask r false (cond (not b) (m ∷ []) []))) (nat_list_eq_equiv.symm m l ∙ unlike) ∙ e

pub label_fits : (x : Exits) (labels : List ℕ) (own : List (List ℕ)) (asks : Asked → Bool) (loop : Bool) (l : List ℕ) (n : ℕ)
    → (asks (ask true false (l ∷ [])) ≡ true → loop ≡ true) → Fits x labels own (λ a. asks (in_label l a)) loop
    → Fits (with_exit l n x) (inside (asks (ask false false (l ∷ []))) n labels) (l ∷ own) asks loop
label_fits x labels own asks loop l n target f = record {
  leaves = λ e. in_more (asks (ask false false (l ∷ []))) n x.left labels (f.leaves e);
  repeats = λ e. in_more (asks (ask false false (l ∷ []))) n x.repeated labels (f.repeats e);
  breaks = λ m e. out m (bytes_eq l m) refl e;
  continues = λ m e. on m (bytes_eq l m) refl e;
}
  where
    out : (m : List ℕ) (b : Bool) → bytes_eq l m ≡ b → asks (ask false false (m ∷ [])) ≡ true → IsIn (if b then n else exit_named x.labels m) (inside (asks (ask false false (l ∷ []))) n labels)
    out m true is e = in_block (asks (ask false false (l ∷ []))) n labels (ap (λ k. asks (ask false false (k ∷ []))) ((bytes_eq-Decides l m).0 is) ∙ e)
    out m false is e = in_more (asks (ask false false (l ∷ []))) n (exit_named x.labels m) labels (f.breaks m (other_label asks l m false is e))

    on : (m : List ℕ) (b : Bool) → bytes_eq l m ≡ b → asks (ask true false (m ∷ [])) ≡ true → ((b || has_label own m ≡ true) × (loop ≡ true)) ⊎ IsIn (exit_named x.loops m) (inside (asks (ask false false (l ∷ []))) n labels)
    on m true is e = inl (refl, target (ap (λ k. asks (ask true false (k ∷ []))) ((bytes_eq-Decides l m).0 is) ∙ e))
    on m false is e =
        ⊎_elim (λ h. inl (h.0, h.1)) (λ h. inr (in_more (asks (ask false false (l ∷ []))) n (exit_named x.loops m) labels h)) (f.continues m (other_label asks l m true is e))

-- ---- in the body of a loop

named_loop : (own : List (List ℕ)) (n : ℕ) (rest : List (List ℕ × ℕ)) (m : List ℕ) (b : Bool) → has_label own m ≡ b → exit_named (map (λ l. (l, n)) own ++ rest) m ≡ cond b n (exit_named rest m)
named_loop [] n rest m b e = ap (λ c. cond c n (exit_named rest m)) e
named_loop (l ∷ ls) n rest m b e = by (bytes_eq l m) e (λ h. named_loop ls n rest m b h)
  where
    by : (t : Bool) → t || has_label ls m ≡ b → (has_label ls m ≡ b → exit_named (map (λ k. (k, n)) ls ++ rest) m ≡ cond b n (exit_named rest m)) → (if t then n else exit_named (map (λ k. (k, n)) ls ++ rest) m) ≡ cond b n (exit_named rest m)
    by true is next = ap (λ c. cond c n (exit_named rest m)) is
    by false is next = next is

one_of : (own : List (List ℕ)) (m k : List ℕ) → has_label own m ≡ true → has_label (m ∷ []) k ≡ true → has_label own k ≡ true
one_of own m k h e = ⊎_elim (λ here. ap (has_label own) (sym ((bytes_eq-Decides m k).0 here)) ∙ h) (λ none. absurd (let unlike : false ≡ true = none in cc)) (or_cases (bytes_eq m k) false e)

pub loop_fits : (x : Exits) (labels : List ℕ) (own : List (List ℕ)) (asks : Asked → Bool) (loop : Bool) (left repeated : ℕ)
    → ((a b : Asked) → Wider a b → asks a ≡ true → asks b ≡ true) → Fits x labels own (λ a. asks (in_loop a)) true
    → Fits (loop_exits own left repeated x) (inside (asks (ask true true own)) repeated (inside (asks (ask false true [])) left labels)) [] asks loop
loop_fits x labels own asks loop left repeated wider f = record {
  leaves = λ e. in_more (asks (ask true true own)) repeated left (inside (asks (ask false true [])) left labels) (in_block (asks (ask false true [])) left labels e);
  repeats = λ e. in_block (asks (ask true true own)) repeated (inside (asks (ask false true [])) left labels)
      (wider (ask true true []) (ask true true own) (record { repeats = refl; plain = λ p. p; labels = λ m h. absurd (let unlike : false ≡ true = h in cc) }) e);
  breaks = λ m e. outer (exit_named x.labels m) (f.breaks m e);
  continues = λ m e. inr (on m (has_label own m) refl e);
}
  where
    outer : (n : ℕ) → IsIn n labels → IsIn n (inside (asks (ask true true own)) repeated (inside (asks (ask false true [])) left labels))
    outer n h = in_more (asks (ask true true own)) repeated n (inside (asks (ask false true [])) left labels) (in_more (asks (ask false true [])) left n labels h)

    on : (m : List ℕ) (b : Bool) → has_label own m ≡ b → asks (ask true false (m ∷ [])) ≡ true
        → IsIn (exit_named (map (λ l. (l, repeated)) own ++ x.loops) m) (inside (asks (ask true true own)) repeated (inside (asks (ask false true [])) left labels))
    on m true is e =
        subst (λ n. IsIn n (inside (asks (ask true true own)) repeated (inside (asks (ask false true [])) left labels))) (sym (named_loop own repeated x.loops m true is))
        (in_block (asks (ask true true own)) repeated (inside (asks (ask false true [])) left labels)
        (wider (ask true false (m ∷ [])) (ask true true own) (record { repeats = refl; plain = λ p. refl; labels = λ k h. one_of own m k is h }) e))
    on m false is e =
        subst (λ n. IsIn n (inside (asks (ask true true own)) repeated (inside (asks (ask false true [])) left labels))) (sym (named_loop own repeated x.loops m false is))
        (outer (exit_named x.loops m) (⊎_elim (λ h. absurd (let unlike : false ≡ true = sym is ∙ h.0 in cc)) (λ h. h) (f.continues m e)))
