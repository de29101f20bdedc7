-- The texts of parameters and locals: words that no other of them has, nor a temporary.
use Rattle.std.proofs.Common.{◌≡◌, ◌≢◌, ◌≤◌, ◌<◌, ◌%◌, ◌^◌, ◌+◌, ℕ, Bool, true, false, true≢false, not, cond, ◌==◌, ◌&&◌, ◌||◌, nat_eq, if◌then◌else◌, List, [], ◌∷◌, ◌++◌, codes, refl, sym, ap, ap₂, ◌∙◌, arith}
use Rattle.std.specs.Fmt.{decimal}
use Rattle.std.specs.List.{list_all}
use Rattle.std.specs.Str.{bytes_eq}
use Rattle.std.specs.Str.Parse.{digits_value}
use Rattle.std.proofs.lemmas.Bool.{and_parts, eqb-true, le-ltb}
use Rattle.std.proofs.lemmas.Fmt.{decimal_by_steps_wide, decimal_is_IsNumeral_wide}
use Rattle.std.proofs.lemmas.Slice.Eq.{bytes_eq-Decides}
use Rattle.jd_bodies.specs.Variables.{local_text}
use Rattle.jd_model.specs.Tables.{source_name}
use Rattle.jd_names.specs.Identifiers.{is_identifier, is_java_byte, is_variable_byte, is_variable_word}
use Rattle.jd_names.proofs.Letters.{all_behind, all_of, java_bytes}
use Rattle.jd_tforms.specs.Shapes.{is_digit, is_letter}
use Rattle.jd_variable_words.specs.Words.{IsWord, is_literal_word}

-- ---- bytes

unmarked_byte : (b : ℕ) → is_java_byte b ≡ true → not (b == 39) ≡ true
unmarked_byte b e = by (b == 39) refl
  where
    by : (c : Bool) → (b == 39) ≡ c → not c ≡ true
    by true h = absurd (true≢false (sym e ∙ ap is_java_byte (eqb-true b 39 h)))
    by false h = refl

java_is_variable : (b : ℕ) → is_java_byte b ≡ true → is_variable_byte b ≡ true
java_is_variable b e = ap (λ t. t || (b == 39)) e

a_digit : (d : ℕ) → d < 10 → is_digit (48 + d) ≡ true
a_digit d lt = λ i. not (le-ltb (48 + d) 48 (omega arith) i) && not (le-ltb 57 (48 + d) (omega (arith, lt)) i)

digit_is_variable : (b : ℕ) → is_digit b ≡ true → is_variable_byte b ≡ true
digit_is_variable b e = by (is_letter b) (is_digit b) (b == 95) (b == 36) (b == 39) e
  where
    by : (l d x y z : Bool) → d ≡ true → ((((l || d) || x) || y) || z) ≡ true
    by true d x y z h = refl
    by false true x y z h = refl
    by false false x y z h = absurd (true≢false (sym h))

decimal_bytes : (n : ℕ) → n < 10 ^ 64 → list_all is_variable_byte (decimal n) ≡ true
decimal_bytes n lt = decimal_by_steps_wide (λ m ds. list_all is_variable_byte ds ≡ true)
    (λ m one. ap (λ b. b && true) (digit_is_variable (48 + m) (a_digit m one)))
    (λ m ds ten before. all_behind is_variable_byte ds ((48 + m % 10) ∷ []) before (ap (λ b. b && true) (digit_is_variable (48 + m % 10) (a_digit (m % 10) (omega arith)))))
    n lt

-- ---- words

pub word_is_identifier : (x : List ℕ) → IsWord x → is_identifier x ≡ true
word_is_identifier x w = (and_parts (is_identifier x) (not (is_literal_word x)) w).0

abbrev pub Unmarked : List ℕ → Type 0
Unmarked x = list_all (λ b. not (b == 39)) x ≡ true

pub unmarked : (x : List ℕ) → IsWord x → Unmarked x
unmarked x w = all_of is_java_byte (λ b. not (b == 39)) unmarked_byte x (java_bytes x (word_is_identifier x w))

-- ---- what stands before and behind the mark

pub cut_here : (x : List ℕ) → Unmarked x → source_name x ≡ x
cut_here [] u = refl
cut_here (b ∷ bs) u = by (b == 39) (and_parts (not (b == 39)) (list_all (λ c. not (c == 39)) bs) u).0 ∙ ap (λ l. b ∷ l) (cut_here bs (and_parts (not (b == 39)) (list_all (λ c. not (c == 39)) bs) u).1)
  where
    by : (c : Bool) → not c ≡ true → (if c then [] else (b ∷ source_name bs)) ≡ b ∷ source_name bs
    by true h = absurd (true≢false (sym h))
    by false h = refl

pub cut_before : (x ds : List ℕ) → Unmarked x → source_name (x ++ (39 ∷ ds)) ≡ x
cut_before [] ds u = refl
cut_before (b ∷ bs) ds u = by (b == 39) (and_parts (not (b == 39)) (list_all (λ c. not (c == 39)) bs) u).0 ∙ ap (λ l. b ∷ l) (cut_before bs ds (and_parts (not (b == 39)) (list_all (λ c. not (c == 39)) bs) u).1)
  where
    by : (c : Bool) → not c ≡ true → (if c then [] else (b ∷ source_name (bs ++ (39 ∷ ds)))) ≡ b ∷ source_name (bs ++ (39 ∷ ds))
    by true h = absurd (true≢false (sym h))
    by false h = refl

abbrev behind_mark : List ℕ → List ℕ
behind_mark [] = []
behind_mark (b ∷ bs) = cond (b == 39) bs (behind_mark bs)

behind_none : (x : List ℕ) → Unmarked x → behind_mark x ≡ []
behind_none [] u = refl
behind_none (b ∷ bs) u = let p = and_parts (not (b == 39)) (list_all (λ c. not (c == 39)) bs) u in by (b == 39) p.0 ∙ behind_none bs p.1
  where
    by : (c : Bool) → not c ≡ true → cond c bs (behind_mark bs) ≡ behind_mark bs
    by true h = absurd (true≢false (sym h))
    by false h = refl

behind_some : (x ds : List ℕ) → Unmarked x → behind_mark (x ++ (39 ∷ ds)) ≡ ds
behind_some [] ds u = refl
behind_some (b ∷ bs) ds u = let p = and_parts (not (b == 39)) (list_all (λ c. not (c == 39)) bs) u in by (b == 39) p.0 ∙ behind_some bs ds p.1
  where
    by : (c : Bool) → not c ≡ true → cond c (bs ++ (39 ∷ ds)) (behind_mark (bs ++ (39 ∷ ds))) ≡ behind_mark (bs ++ (39 ∷ ds))
    by true h = absurd (true≢false (sym h))
    by false h = refl

pub source_of : (x : List ℕ) (k : ℕ) → Unmarked x → source_name (local_text x k) ≡ x
source_of x k u = by (nat_eq k 1)
  where
    by : (b : Bool) → source_name (if b then x else (x ++ (39 ∷ decimal k))) ≡ x
    by true = cut_here x u
    by false = cut_before x (decimal k) u

number_behind : (x : List ℕ) (k : ℕ) → Unmarked x → behind_mark (local_text x k) ≡ cond (nat_eq k 1) [] (decimal k)
number_behind x k u = by (nat_eq k 1)
  where
    by : (b : Bool) → behind_mark (if b then x else (x ++ (39 ∷ decimal k))) ≡ cond b [] (decimal k)
    by true = behind_none x u
    by false = behind_some x (decimal k) u

-- ---- numbers

number_of : (k : ℕ) → k < 10 ^ 64 → digits_value 10 (decimal k) ≡ k
number_of k lt = (decimal_is_IsNumeral_wide k lt).1

no_number : (k : ℕ) → k < 10 ^ 64 → 1 ≤ k → decimal k ≡ [] → ⊥
no_number k lt some e = let z : 0 ≡ k = ap (digits_value 10) (sym e) ∙ number_of k lt in omega (arith, z, some)

same_number : (j k : ℕ) → j < 10 ^ 64 → k < 10 ^ 64 → 1 ≤ j → 1 ≤ k → cond (nat_eq j 1) [] (decimal j) ≡ cond (nat_eq k 1) [] (decimal k) → j ≡ k
same_number j k lj lk sj sk e = by (nat_eq j 1) refl (nat_eq k 1) refl e
  where
    by : (b : Bool) → nat_eq j 1 ≡ b → (c : Bool) → nat_eq k 1 ≡ c → cond b [] (decimal j) ≡ cond c [] (decimal k) → j ≡ k
    by true p true q h = eqb-true j 1 p ∙ sym (eqb-true k 1 q)
    by true p false q h = absurd (no_number k lk sk (sym h))
    by false p true q h = absurd (no_number j lj sj h)
    by false p false q h = sym (number_of j lj) ∙ ap (digits_value 10) h ∙ number_of k lk

-- two texts that are the same are of one name and one number
pub same_text : (x y : List ℕ) (j k : ℕ) → Unmarked x → Unmarked y → j < 10 ^ 64 → k < 10 ^ 64 → 1 ≤ j → 1 ≤ k → local_text x j ≡ local_text y k → (x ≡ y) × (j ≡ k)
same_text x y j k u v lj lk sj sk e = (
  sym (source_of x j u) ∙ ap source_name e ∙ source_of y k v,
  same_number j k lj lk sj sk (sym (number_behind x j u) ∙ ap behind_mark e ∙ number_behind y k v),
)

-- ---- what a text is

pub text_is_word : (x : List ℕ) (k : ℕ) → k < 10 ^ 64 → is_identifier x ≡ true → is_variable_word (local_text x k) ≡ true
text_is_word [] k lt w = absurd (true≢false (sym w))
text_is_word (b ∷ bs) k lt w = by (nat_eq k 1)
  where
    begins : not (is_digit b) ≡ true
    begins = (and_parts (not (is_digit b)) (list_all is_java_byte (b ∷ bs)) w).0

    bytes : list_all is_variable_byte (b ∷ bs) ≡ true
    bytes = all_of is_java_byte is_variable_byte java_is_variable (b ∷ bs) (and_parts (not (is_digit b)) (list_all is_java_byte (b ∷ bs)) w).1

    by : (c : Bool) → is_variable_word (if c then (b ∷ bs) else ((b ∷ bs) ++ (39 ∷ decimal k))) ≡ true
    by true = ap₂ (λ s t. s && t) begins bytes
    by false = ap₂ (λ s t. s && t) begins (all_behind is_variable_byte (b ∷ bs) (39 ∷ decimal k) bytes (decimal_bytes k lt))

no_such : (v x : List ℕ) (k : ℕ) → behind_mark v ≡ [] → Unmarked x → k < 10 ^ 64 → 1 ≤ k → bytes_eq v (x ++ (39 ∷ decimal k)) ≡ false
no_such v x k none u lt some = by (bytes_eq v (x ++ (39 ∷ decimal k))) refl
  where
    by : (b : Bool) → bytes_eq v (x ++ (39 ∷ decimal k)) ≡ b → b ≡ false
    by false e = refl
    by true e = absurd (no_number k lt some (sym (behind_some x (decimal k) u) ∙ ap behind_mark (sym ((bytes_eq-Decides v (x ++ (39 ∷ decimal k))).0 e)) ∙ none))

turned : (b : Bool) → not b ≡ true → b ≡ false
turned true e = absurd (true≢false (sym e))
turned false e = refl

pub text_is_no_literal : (x : List ℕ) (k : ℕ) → k < 10 ^ 64 → 1 ≤ k → IsWord x → is_literal_word (local_text x k) ≡ false
text_is_no_literal x k lt some w = by (nat_eq k 1)
  where
    by : (c : Bool) → is_literal_word (if c then x else (x ++ (39 ∷ decimal k))) ≡ false
    by true = turned (is_literal_word x) (and_parts (is_identifier x) (not (is_literal_word x)) w).1
    by false =
        let u = unmarked x w in
        ap₂ (λ a b. a || b) (ap₂ (λ a b. a || b) (no_such (codes "true") x k refl u lt some) (no_such (codes "false") x k refl u lt some)) (no_such (codes "null") x k refl u lt some)

-- a temporary's begins with the mark, and that of a parameter or local does not
pub not_marked : (x : List ℕ) (k : ℕ) (bs : List ℕ) → IsWord x → local_text x k ≡ 39 ∷ bs → ⊥
not_marked x k bs w e = by x w (sym (source_of x k (unmarked x w)) ∙ ap source_name e)
  where
    by : (y : List ℕ) → IsWord y → y ≡ [] → ⊥
    by [] v same = true≢false (sym v)
    by (c ∷ cs) v same = cc
