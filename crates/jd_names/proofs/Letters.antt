-- Words of identifiers.
use Rattle.std.proofs.Common.{◌≡◌, ℕ, Bool, true, false, not, cond, ◌&&◌, ◌||◌, nat_eq, List, [], ◌∷◌, ◌++◌, Option, None, Some, refl, sym, ap, ap₂, ◌∙◌, inl, inr, true≢false, arith, append_assoc}
use Rattle.std.specs.List.{list_all}
use Rattle.std.proofs.lemmas.Bool.{and_parts, cases_Bool}
use Rattle.std.proofs.lemmas.Bool.Decides.{nat_tests}
use Rattle.std.proofs.lemmas.List.{append-nil}
use Rattle.std.proofs.lemmas.Option.{same_Some}
use Rattle.jd_tgrammar.specs.NameTables.{NameTable, member_word}
use Rattle.jd_tforms.specs.Shapes.{is_digit, is_name, is_name_byte, is_special_byte}
use Rattle.jd_tforms.specs.Naming.{if_name, parted}
use Rattle.jd_names.specs.Identifiers.{is_identifier, is_java_byte, is_variable_byte, is_variable_word}

-- ---- bytes

pub all_of : (p q : ℕ → Bool) → ((b : ℕ) → p b ≡ true → q b ≡ true) → (w : List ℕ) → list_all p w ≡ true → list_all q w ≡ true
all_of p q each [] h = refl
all_of p q each (b ∷ bs) h =
    let both = and_parts (p b) (list_all p bs) h in
    ap₂ (λ s t. s && t) (each b both.0) (all_of p q each bs both.1)

pub all_behind : (p : ℕ → Bool) (v w : List ℕ) → list_all p v ≡ true → list_all p w ≡ true → list_all p (v ++ w) ≡ true
all_behind p [] w h g = g
all_behind p (b ∷ bs) w h g = let both = and_parts (p b) (list_all p bs) h in ap₂ (λ s t. s && t) both.0 (all_behind p bs w both.1 g)

four_more : (s a b c d : Bool) → s ≡ true → ((((s || a) || b) || c) || d) ≡ true
four_more true a b c d h = refl
four_more false a b c d h = absurd (true≢false (sym h))

one_more : (s a : Bool) → s ≡ true → (s || a) ≡ true
one_more true a h = refl
one_more false a h = absurd (true≢false (sym h))

pub special_is_name : (b : ℕ) → is_special_byte b ≡ true → is_name_byte b ≡ true
special_is_name b h = four_more (is_special_byte b) (nat_eq b 39) (nat_eq b 46) (nat_eq b 64) (nat_eq b 35) h

java_is_name : (b : ℕ) → is_java_byte b ≡ true → is_name_byte b ≡ true
java_is_name b h = special_is_name b (one_more (is_java_byte b) (nat_eq b 126) h)

variable_is_name : (b : ℕ) → is_variable_byte b ≡ true → is_name_byte b ≡ true
variable_is_name b h = by (is_java_byte b) (nat_eq b 126) (nat_eq b 39) (nat_eq b 46) (nat_eq b 64) (nat_eq b 35) h
  where
    by : (j a q d e f : Bool) → (j || q) ≡ true → (((((j || a) || q) || d) || e) || f) ≡ true
    by true a q d e f g = refl
    by false true q d e f g = refl
    by false false true d e f g = refl
    by false false false d e f g = absurd (true≢false (sym g))

pub same_byte : (a b : ℕ) → nat_eq a b ≡ true → a ≡ b
same_byte a b e = grind (arith, nat_tests)

no_dot : (b : ℕ) → is_java_byte b ≡ true → nat_eq b 46 ≡ false
no_dot b h = elim (cases_Bool (nat_eq b 46)) [
  | inl dot ↦ absurd (true≢false (sym h ∙ ap is_java_byte (same_byte b 46 dot)))
  | inr other ↦ other
]

-- ---- words

pub java_bytes : (w : List ℕ) → is_identifier w ≡ true → list_all is_java_byte w ≡ true
java_bytes [] h = absurd (true≢false (sym h))
java_bytes (b ∷ bs) h = (and_parts (not (is_digit b)) (list_all is_java_byte (b ∷ bs)) h).1

pub identifier_is_name : (w : List ℕ) → is_identifier w ≡ true → is_name w ≡ true
identifier_is_name [] h = absurd (true≢false (sym h))
identifier_is_name (b ∷ bs) h =
    let both = and_parts (not (is_digit b)) (list_all is_java_byte (b ∷ bs)) h in
    ap₂ (λ s t. s && t) both.0 (all_of is_java_byte is_name_byte java_is_name (b ∷ bs) both.1)

pub variable_word_is_name : (w : List ℕ) → is_variable_word w ≡ true → is_name w ≡ true
variable_word_is_name [] h = absurd (true≢false (sym h))
variable_word_is_name (b ∷ bs) h =
    let both = and_parts (not (is_digit b)) (list_all is_variable_byte (b ∷ bs)) h in
    ap₂ (λ s t. s && t) both.0 (all_of is_variable_byte is_name_byte variable_is_name (b ∷ bs) both.1)

pub member_is_name : (c n : List ℕ) → is_identifier c ≡ true → is_identifier n ≡ true → is_name (member_word c n) ≡ true
member_is_name [] n h g = absurd (true≢false (sym h))
member_is_name (b ∷ bs) n h g =
    let both = and_parts (not (is_digit b)) (list_all is_java_byte (b ∷ bs)) h in
    ap₂ (λ s t. s && t) both.0
    (all_behind is_name_byte (b ∷ bs) (46 ∷ n) (all_of is_java_byte is_name_byte java_is_name (b ∷ bs) both.1) (all_of is_java_byte is_name_byte java_is_name n (java_bytes n g)))

pub where_name : {A : Type 0} (w : List ℕ) (o : Option A) → is_name w ≡ true → if_name w o ≡ o
where_name w o h = ap (λ b. cond b o None) h

-- ---- the first dot

pub parted_member : (names : NameTable) (front c n : List ℕ) → list_all is_java_byte c ≡ true → parted names front (member_word c n) ≡ Some (front ++ c, n)
parted_member names front [] n h = ap (λ f. Some (f, n)) (sym (append-nil front))
parted_member names front (b ∷ bs) n h =
    let both = and_parts (is_java_byte b) (list_all is_java_byte bs) h in
    ap (λ t. cond t (Some (front, member_word bs n)) (parted names (front ++ b ∷ []) (member_word bs n))) (no_dot b both.0)
    ∙ parted_member names (front ++ b ∷ []) bs n both.1
    ∙ ap (λ f. Some (f, n)) (append_assoc front (b ∷ []) bs)

pub same_words : (names : NameTable) (c d m n : List ℕ) → list_all is_java_byte c ≡ true → list_all is_java_byte d ≡ true → member_word c m ≡ member_word d n → (c ≡ d) × (m ≡ n)
same_words names c d m n h g e =
    let p : (c, m) ≡ (d, n) = same_Some (c, m) (d, n) (sym (parted_member names [] c m h) ∙ ap (parted names []) e ∙ parted_member names [] d n g) in
    (ap (λ (q : List ℕ × List ℕ). q.0) p, ap (λ (q : List ℕ × List ℕ). q.1) p)
