-- A place is read from what is written of it, and from nothing else.
use Rattle.std.proofs.Common.{◌≡◌, ℕ, zero, suc, ◌+◌, ◌-◌, ◌*◌, ◌/◌, ◌%◌, ◌<◌, ◌≤◌, Bool, true, false, cond, eqb, leb, ltb, ◌&&◌, List, [], ◌∷◌, ◌++◌, map, Option, Some, None, refl, sym, ap, subst, ◌∙◌, append_assoc, arith, lit≤}
use Rattle.std.specs.Prelude.{option_and_then}
use Rattle.std.specs.List.{All}
use Rattle.std.specs.Int.Digits.{digits_of}
use Rattle.std.proofs.lemmas.Bool.{ne_eqb, eqb-true, ltb-true, leb-true, lt-ltb, le-leb, and_parts, and_from}
use Rattle.std.proofs.lemmas.Int.Digits.{digits_of_step}
use Rattle.std.proofs.lemmas.List.{map-append, append-nil}
use Rattle.std.proofs.lemmas.List.Elements.{All-nil, All-cons, All-head, All-tail}
use Rattle.jd_model.specs.Sequents.{PlainPlace}
use Rattle.jd_model.specs.declared.sequent.Side.{Side}
use Rattle.jd_model.specs.declared.sequent.Side.TheVariants.{Left, Right}
use Rattle.jd_scripts.specs.Places.{decimal, written_path, letter_of, written_place, IsIndex, IsPlace}
use Rattle.jd_scripts.specs.ReadPlaces.{with_digit, numbers, only_one, read_number, place_at, nothing_more, sided, read_place}

-- ---- digits

decimal_step : (n : ℕ) → 0 < n → decimal n ≡ decimal (n / 10) ++ (48 + n % 10) ∷ []
unfolding decimal
decimal_step n lt = ap (map (λ d. 48 + d)) (digits_of_step 10 n (lit≤ tt) lt) ∙ map-append (λ d. 48 + d) (digits_of 10 (n / 10)) (n % 10 ∷ [])

decimal_zero : decimal 0 ≡ []
unfolding decimal
decimal_zero = refl

decimal_push : (n m b : ℕ) → 48 ≤ b → b < 58 → m ≡ n * 10 + (b - 48) → 0 < m → decimal m ≡ decimal n ++ b ∷ []
decimal_push n m b low high is lt =
    let q : m / 10 ≡ n = omega arith in
    let r : 48 + m % 10 ≡ b = omega arith in
    decimal_step m lt ∙ (ap (λ k. decimal k ++ (48 + m % 10) ∷ []) q ∙ ap (λ d. decimal n ++ d ∷ []) r)

digit_is : (n b m : ℕ) → 48 ≤ b → b < 58 → m ≡ n * 10 + (b - 48) → 0 < m → m ≤ 999999999 → with_digit n b ≡ Some m
digit_is n b m low high is lt le =
    let v = n * 10 + (b - 48) in
    ap (λ t. cond t (Some v) None) (and_from _ _ (and_from _ _ (and_from _ _ (le-leb 48 b low) (lt-ltb b 58 high)) (lt-ltb 0 v (omega arith))) (le-leb v 999999999 (omega arith)))
    ∙ ap (λ k. Some k) (sym is)

record Digit (n b m : ℕ) : Type 0 where
  low : 48 ≤ b
  high : b < 58
  is : m ≡ n * 10 + (b - 48)
  some : 0 < m
  small : m ≤ 999999999

is_digit : (n b m : ℕ) → with_digit n b ≡ Some m → Digit n b m
is_digit n b m e = by_test _ refl e
  where
    by_test : (t : Bool) → (leb 48 b && ltb b 58 && ltb 0 (n * 10 + (b - 48)) && leb (n * 10 + (b - 48)) 999999999) ≡ t → cond t (Some (n * 10 + (b - 48))) None ≡ Some m → Digit n b m
    by_test false is h = absurd cc
    by_test true is h =
        let same : n * 10 + (b - 48) ≡ m = cc in
        let three = and_parts _ _ is in
        let two = and_parts _ _ three.0 in
        let one = and_parts _ _ two.0 in
        let some = ltb-true 0 (n * 10 + (b - 48)) two.1 in
        let small = leb-true (n * 10 + (b - 48)) 999999999 three.1 in
        record { low = leb-true 48 b one.0; high = ltb-true b 58 one.1; is = sym same; some = omega (arith, same, some); small = omega (arith, same, small) }

-- ---- numbers

digit_more : (b n m : ℕ) (bs done : List ℕ) → 48 ≤ b → b < 58 → m ≡ n * 10 + (b - 48) → 0 < m → m ≤ 999999999 → numbers (b ∷ bs) done n ≡ numbers bs done m
unfolding numbers
digit_more b n m bs done low high is lt le =
    ap (λ t. cond t (cond (eqb n 0) None (numbers bs (done ++ n ∷ []) 0)) (option_and_then (numbers bs done) (with_digit n b))) (ne_eqb b 46 (λ e. omega (arith, e)))
    ∙ ap (option_and_then (numbers bs done)) (digit_is n b m low high is lt le)

reads_number : (f n : ℕ) (more done : List ℕ) → n ≤ f → n ≤ 999999999 → numbers (decimal n ++ more) done 0 ≡ numbers more done n
reads_number f zero more done le small = ap (λ l. numbers (l ++ more) done 0) decimal_zero
reads_number zero (suc n) more done le small = absurd (omega arith)
reads_number (suc f) (suc n) more done le small =
    let m = suc n in
    let d = 48 + m % 10 in
    ap (λ l. numbers (l ++ more) done 0) (decimal_step m (omega arith))
    ∙ (ap (λ l. numbers l done 0) (append_assoc (decimal (m / 10)) (d ∷ []) more)
    ∙ (reads_number f (m / 10) (d ∷ more) done (omega arith) (omega arith)
    ∙ digit_more d (m / 10) m more done (omega arith) (omega arith) (omega arith) (omega arith) small))

reads_path : (cs : List ℕ) (n : ℕ) (done : List ℕ) → 0 < n → All IsIndex cs → numbers (written_path cs) done n ≡ Some (done ++ n ∷ cs)
unfolding numbers
reads_path [] n done lt all = ap (λ t. cond t None (Some (done ++ n ∷ []))) (ne_eqb n 0 (λ e. omega (arith, e)))
reads_path (c ∷ cs) n done lt all =
    let here = All-head IsIndex c cs all in
    ap (λ t. cond t None (numbers (decimal c ++ written_path cs) (done ++ n ∷ []) 0)) (ne_eqb n 0 (λ e. omega (arith, e)))
    ∙ (reads_number c c (written_path cs) (done ++ n ∷ []) (omega arith) here.1
    ∙ (reads_path cs c (done ++ n ∷ []) here.0 (All-tail IsIndex c cs all)
    ∙ ap (λ l. Some l) (append_assoc done (n ∷ []) (c ∷ cs))))

record Written (bs done : List ℕ) (n : ℕ) (ns : List ℕ) : Type 0 where
  first : ℕ
  others : List ℕ
  is : ns ≡ done ++ first ∷ others
  text : decimal n ++ bs ≡ decimal first ++ written_path others
  index : IsIndex first
  indices : All IsIndex others

not_zero : {X : Type 0} (n : ℕ) (x y : X) → cond (eqb (suc n) 0) x y ≡ y
not_zero n x y = ap (λ t. cond t x y) (ne_eqb (suc n) 0 (λ e. omega (arith, e)))

abbrev Rest : List ℕ → List ℕ → Type 0
Rest bs ns = (done : List ℕ) (n : ℕ) → n ≤ 999999999 → numbers bs done n ≡ Some ns → Written bs done n ns

written_dot : (b : ℕ) (bs done ns : List ℕ) (n : ℕ) → Rest bs ns → n ≤ 999999999 → b ≡ 46 → cond (eqb n 0) None (numbers bs (done ++ n ∷ []) 0) ≡ Some ns → Written (b ∷ bs) done n ns
written_dot b bs done ns zero rest le is h = absurd cc
written_dot b bs done ns (suc n) rest le is h =
    let k = rest (done ++ suc n ∷ []) 0 (omega arith) (sym (not_zero n None (numbers bs (done ++ suc n ∷ []) 0)) ∙ h) in
    record {
      first = suc n;
      others = k.first ∷ k.others;
      is = k.is ∙ append_assoc done (suc n ∷ []) (k.first ∷ k.others);
      text = ap (λ x. decimal (suc n) ++ x ∷ bs) is ∙ ap (λ l. decimal (suc n) ++ 46 ∷ l) (ap (λ l. l ++ bs) (sym decimal_zero) ∙ k.text);
      index = (omega arith, le);
      indices = All-cons IsIndex k.first k.others k.index k.indices;
    }

written_digit : (b : ℕ) (bs done ns : List ℕ) (n : ℕ) → Rest bs ns → (o : Option ℕ) → with_digit n b ≡ o → option_and_then (numbers bs done) o ≡ Some ns → Written (b ∷ bs) done n ns
written_digit b bs done ns n rest None d h = absurd cc
written_digit b bs done ns n rest (Some m) d h =
    let g = is_digit n b m d in
    let k = rest done m g.small h in
    record {
      first = k.first;
      others = k.others;
      is = k.is;
      text = sym (append_assoc (decimal n) (b ∷ []) bs) ∙ (ap (λ l. l ++ bs) (sym (decimal_push n m b g.low g.high g.is g.some)) ∙ k.text);
      index = k.index;
      indices = k.indices;
    }

written_byte : (b : ℕ) (bs done ns : List ℕ) (n : ℕ) → Rest bs ns → n ≤ 999999999 → (t : Bool) → eqb b 46 ≡ t → cond t (cond (eqb n 0) None (numbers bs (done ++ n ∷ []) 0)) (option_and_then (numbers bs done) (with_digit n b)) ≡ Some ns → Written (b ∷ bs) done n ns
written_byte b bs done ns n rest le true is h = written_dot b bs done ns n rest le (eqb-true b 46 is) h
written_byte b bs done ns n rest le false is h = written_digit b bs done ns n rest (with_digit n b) refl h

written : (bs done : List ℕ) (n : ℕ) (ns : List ℕ) → n ≤ 999999999 → numbers bs done n ≡ Some ns → Written bs done n ns
unfolding numbers
written [] done zero ns le e = absurd cc
written [] done (suc n) ns le e = let k = sym (not_zero n None (Some (done ++ suc n ∷ []))) ∙ e in record { first = suc n; others = []; is = cc; text = refl; index = (omega arith, le); indices = All-nil IsIndex }
written (b ∷ bs) done n ns le e = written_byte b bs done ns n (λ d m l h. written bs d m ns l h) le (eqb b 46) refl e

-- ---- one number

pub number_read : (n : ℕ) → IsIndex n → read_number (decimal n) ≡ Some n
unfolding read_number
number_read n h =
    ap (λ bs. option_and_then only_one (numbers bs [] 0)) (sym (append-nil (decimal n)))
    ∙ ap (option_and_then only_one) (reads_number n n [] [] (omega arith) h.1 ∙ reads_path [] n [] h.0 (All-nil IsIndex))

pub record IsNumber (w : List ℕ) (n : ℕ) : Type 0 where
  pub is : w ≡ decimal n
  pub index : IsIndex n

pub number_is : (w : List ℕ) (n : ℕ) → read_number w ≡ Some n → IsNumber w n
unfolding read_number
number_is w n e = by_numbers (numbers w [] 0) refl e
  where
    by_numbers : (o : Option (List ℕ)) → numbers w [] 0 ≡ o → option_and_then only_one o ≡ Some n → IsNumber w n
    by_numbers None is h = absurd cc
    by_numbers (Some []) is h = absurd cc
    by_numbers (Some (m ∷ (o ∷ ms))) is h = absurd cc
    by_numbers (Some (m ∷ [])) is h =
        let k = written w [] 0 (m ∷ []) (omega arith) is in
        let first : n ≡ k.first = let e = k.is in cc in
        let others : k.others ≡ [] = let e = k.is in cc in
        record {
          is = ap (λ l. l ++ w) (sym decimal_zero) ∙ (k.text ∙ (ap (λ l. decimal k.first ++ written_path l) others ∙ (append-nil (decimal k.first) ∙ ap decimal (sym first))));
          index = subst IsIndex (sym first) k.index;
        }

-- ---- places

reads_sided : (side : Side) (i : ℕ) (path : List ℕ) → IsIndex i → All IsIndex path → sided side (decimal i ++ written_path path) ≡ Some (Some (record { side = side; index = i; path = path }))
reads_sided side i path h all = ap (option_and_then (place_at side)) (reads_number i i (written_path path) [] (omega arith) h.1 ∙ reads_path path i [] h.0 all)

pub reads_place : (p : Option PlainPlace) → IsPlace p → read_place (written_place p) ≡ Some p
unfolding read_place
reads_place None h = refl
reads_place (Some p) h = by_side p.side
  where
    by_side : (side : Side) → read_place (letter_of side ∷ (decimal p.index ++ written_path p.path)) ≡ Some (Some (record { side = side; index = p.index; path = p.path }))
    by_side Left = reads_sided Left p.index p.path h.0 h.1
    by_side Right = reads_sided Right p.index p.path h.0 h.1

pub record Place (t : List ℕ) (p : Option PlainPlace) : Type 0 where
  pub is : t ≡ written_place p
  pub fits : IsPlace p

sided_is : (side : Side) (bs : List ℕ) (p : Option PlainPlace) → sided side bs ≡ Some p → Place (letter_of side ∷ bs) p
sided_is side bs p e = by_numbers (numbers bs [] 0) refl e
  where
    by_numbers : (o : Option (List ℕ)) → numbers bs [] 0 ≡ o → option_and_then (place_at side) o ≡ Some p → Place (letter_of side ∷ bs) p
    by_numbers None n h = absurd cc
    by_numbers (Some []) n h = absurd cc
    by_numbers (Some (i ∷ path)) n h =
        let k = written bs [] 0 (i ∷ path) (omega arith) n in
        let first : i ≡ k.first = let e = k.is in cc in
        let others : path ≡ k.others = let e = k.is in cc in
        let q : Option PlainPlace = Some (record { side = side; index = i; path = path }) in
        let same : q ≡ p = cc in
        let text : bs ≡ decimal i ++ written_path path = ap (λ l. l ++ bs) (sym decimal_zero) ∙ (k.text ∙ (ap (λ j. decimal j ++ written_path k.others) (sym first) ∙ ap (λ l. decimal i ++ written_path l) (sym others))) in
        subst (Place (letter_of side ∷ bs)) same (record {
          is = ap (λ l. letter_of side ∷ l) text;
          fits = (subst IsIndex (sym first) k.index, subst (All IsIndex) (sym others) k.indices);
        })

only_dash : (bs : List ℕ) (p : Option PlainPlace) → nothing_more bs ≡ Some p → Place (45 ∷ bs) p
only_dash [] p e =
    let q : Option PlainPlace = None in
    let same : q ≡ p = cc in
    subst (Place (45 ∷ [])) same (record { is = refl; fits = tt })
only_dash (b ∷ bs) p e = absurd cc

pub is_place : (t : List ℕ) (p : Option PlainPlace) → read_place t ≡ Some p → Place t p
unfolding read_place
is_place [] p e = absurd cc
is_place (b ∷ bs) p e = by_letter (eqb b 45) (eqb b 76) (eqb b 82) refl refl refl e
  where
    by_letter : (x y z : Bool) → eqb b 45 ≡ x → eqb b 76 ≡ y → eqb b 82 ≡ z → cond x (nothing_more bs) (cond y (sided Left bs) (cond z (sided Right bs) None)) ≡ Some p → Place (b ∷ bs) p
    by_letter true y z d l r h = subst (λ x. Place (x ∷ bs) p) (sym (eqb-true b 45 d)) (only_dash bs p h)
    by_letter false true z d l r h = subst (λ x. Place (x ∷ bs) p) (sym (eqb-true b 76 l)) (sided_is Left bs p h)
    by_letter false false true d l r h = subst (λ x. Place (x ∷ bs) p) (sym (eqb-true b 82 r)) (sided_is Right bs p h)
    by_letter false false false d l r h = absurd cc
