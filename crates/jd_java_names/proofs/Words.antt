-- A word outside JML that is not reserved is an identifier.
use Rattle.std.proofs.Common.{◌≡◌, ℕ, ℤ, pos, negsuc, Bool, true, false, not, cond, ◌&&◌, ◌||◌, ◌==◌, nat_eq, nat_lt, nat_le, if◌then◌else◌, get_or, List, [], ◌∷◌, ◌++◌, Some, refl, sym, ap, ap₂, ◌∙◌, true≢false, arith}
use Rattle.std.specs.List.{list_all}
use Rattle.std.specs.Option.{unwrap_or}
use Rattle.std.specs.Str.{bytes_eq}
use Rattle.std.proofs.lemmas.Bool.{and_parts}
use Rattle.std.proofs.lemmas.Bool.Decides.{nat_tests}
use Rattle.jd_lex.specs.Bytes as bytes
use Rattle.jd_lex.specs.Parts.{Kind, start_by, start_of, IsWord}
use Rattle.jd_lex.specs.Parts as lexed
use Rattle.jd_lex.specs.declared.starts.Start.TheVariants.{White, WordStart, NumberStart, LineComment, BlockComment, SignStart}
use Rattle.jd_java_grammar.specs.declared.kinds.TheConstants as kinds
use Rattle.jd_java_tokens.specs.Heads.{word_in}
use Rattle.jd_java_tokens.specs.Words.{Table, spelled, used_signs, number_kind, sign_kind, kind_of, content_of}
use Rattle.jd_tforms.specs.Shapes.{is_digit, is_letter, is_within}
use Rattle.jd_names.specs.Identifiers.{is_java_byte, is_identifier}

-- ---- bytes

same_range : (low high b : ℕ) → bytes.from_to low high b ≡ is_within low high b
same_range low high b = by (nat_le low b) refl (nat_le b high) refl
  where
    by : (p : Bool) → nat_le low b ≡ p → (q : Bool) → nat_le b high ≡ q → (nat_le low b && nat_le b high) ≡ (not (nat_lt b low) && not (nat_lt high b))
    by p e q g = grind (arith, nat_tests)

same_digit : (b : ℕ) → bytes.is_digit b ≡ is_digit b
same_digit b = same_range 48 57 b

same_letter : (b : ℕ) → bytes.is_letter b ≡ is_letter b
same_letter b = ap₂ (λ s t. s || t) (same_range 65 90 b) (same_range 97 122 b) ∙ turned (is_within 65 90 b) (is_within 97 122 b)
  where
    turned : (s t : Bool) → (s || t) ≡ (t || s)
    turned true true = refl
    turned true false = refl
    turned false true = refl
    turned false false = refl

word_byte : (b : ℕ) → bytes.is_word_byte b ≡ true → is_java_byte b ≡ true
word_byte b h = by (bytes.is_letter b) (is_letter b) (bytes.is_digit b) (is_digit b) (nat_eq b 95) (nat_eq b 36) (same_letter b) (same_digit b) h
  where
    by : (l m d e x y : Bool) → l ≡ m → d ≡ e → (((l || x) || y) || d) ≡ true → (((m || e) || x) || y) ≡ true
    by l true d e x y lm de g = refl
    by l false d true x y lm de g = refl
    by l false d false true y lm de g = refl
    by l false d false false true lm de g = refl
    by true false d false false false lm de g = absurd (true≢false lm)
    by false false true false false false lm de g = absurd (true≢false de)
    by false false false false false false lm de g = g

same_byte : (a b : ℕ) → nat_eq a b ≡ true → a ≡ b
same_byte a b e = grind (arith, nat_tests)

no_letter : (b : ℕ) → is_letter b ≡ true → is_digit b ≡ true → ⊥
no_letter b e f = grind (arith, nat_tests)

first_no_digit : (b : ℕ) → bytes.begins_word b ≡ true → is_digit b ≡ false
first_no_digit b h =
    by (is_letter b) refl (is_digit b) refl (nat_eq b 95) refl (nat_eq b 36) refl
    (ap (λ l. (l || nat_eq b 95) || nat_eq b 36) (sym (same_letter b)) ∙ h)
  where
    by : (l : Bool) → is_letter b ≡ l → (d : Bool) → is_digit b ≡ d → (x : Bool) → nat_eq b 95 ≡ x → (y : Bool) → nat_eq b 36 ≡ y
        → ((l || x) || y) ≡ true → d ≡ false
    by l el false ed x ex y ey g = refl
    by true el true ed x ex y ey g = absurd (no_letter b el ed)
    by false el true ed true ex y ey g = absurd (true≢false (sym ed ∙ ap is_digit (same_byte b 95 ex)))
    by false el true ed false ex true ey g = absurd (true≢false (sym ed ∙ ap is_digit (same_byte b 36 ey)))
    by false el true ed false ex false ey g = absurd (true≢false (sym g))

-- ---- words

all_bytes : (w : List ℕ) → bytes.AllOf bytes.is_word_byte w → list_all is_java_byte w ≡ true
all_bytes [] h = refl
all_bytes (b ∷ w) h = ap₂ (λ s t. s && t) (word_byte b h.0) (all_bytes w h.1)

more_so : (a b : Bool) → a ≡ true → (a || b) ≡ true
more_so true b e = refl
more_so false b e = absurd (true≢false (sym e))

is_one : (first : ℕ) (more : List ℕ) → bytes.begins_word first ≡ true → bytes.AllOf bytes.is_word_byte more → is_identifier (first ∷ more) ≡ true
is_one first more begins all =
    ap₂ (λ s t. s && t) (ap not (first_no_digit first begins))
    (ap₂ (λ s t. s && t) (word_byte first (more_so (bytes.begins_word first) (bytes.is_digit first) begins)) (all_bytes more all))

chosen_word : (w x y d l m : Bool)
    → cond w White (cond (x || (false && y)) WordStart (cond d NumberStart (cond l LineComment (cond m BlockComment SignStart)))) ≡ WordStart → x ≡ true
chosen_word true x y d l m e = absurd cc
chosen_word false true y d l m e = refl
chosen_word false false y true l m e = absurd cc
chosen_word false false y false true m e = absurd cc
chosen_word false false y false false true e = absurd cc
chosen_word false false y false false false e = absurd cc

begins_so : (b c : ℕ) → start_by false b c ≡ WordStart → bytes.begins_word b ≡ true
begins_so b c e =
    chosen_word (bytes.is_white b) (bytes.begins_word b) ((b == 92) && bytes.is_letter c) (bytes.is_digit b) ((b == 47) && (c == 47)) ((b == 47) && (c == 42)) e

-- a word where words begin outside JML
pub word_named : (text rest : List ℕ) → start_of false (text ++ rest) ≡ WordStart → IsWord text rest → is_identifier text ≡ true
word_named text rest is w =
    let begins = begins_so w.first (get_or (w.first ∷ (w.more ++ rest)) 1 0) (ap (λ t. start_of false (t ++ rest)) (sym w.joined) ∙ is) in
    ap is_identifier w.joined ∙ is_one w.first w.more begins w.run.all

-- ---- kinds

abbrev is_else : ℕ → Bool
is_else k = not (k == kinds.IDENTIFIER)

spelled_else : (rows : Table) (text : List ℕ) (k : ℕ) → list_all (λ row. is_else row.1) rows ≡ true → is_else k ≡ true
    → is_else (unwrap_or (spelled rows text) k) ≡ true
spelled_else [] text k all e = e
spelled_else (row ∷ rows) text k all e =
    let both = and_parts (is_else row.1) (list_all (λ (r : List ℕ × ℕ). is_else r.1) rows) all in
    by (bytes_eq row.0 text) both.0 (spelled_else rows text k both.1 e)
  where
    by : (b : Bool) → is_else row.1 ≡ true → is_else (unwrap_or (spelled rows text) k) ≡ true
        → is_else (unwrap_or (if b then Some row.1 else spelled rows text) k) ≡ true
    by true h g = h
    by false h g = g

signs_else : list_all (λ row. is_else row.1) used_signs ≡ true
signs_else = refl

number_else : (z : ℤ) → is_else (number_kind z) ≡ true
number_else (pos n) = by (nat_lt n 2147483648) (nat_eq n 2147483648)
  where
    by : (a b : Bool) → is_else (cond a kinds.NUMBER (cond b kinds.LEAST_NUMBER kinds.UNUSED)) ≡ true
    by true b = refl
    by false true = refl
    by false false = refl
number_else (negsuc n) = refl

no_identifier : (k : ℕ) → is_else k ≡ true → k ≡ kinds.IDENTIFIER → ⊥
no_identifier k e is = true≢false (sym e ∙ ap is_else is)

-- a word is an identifier
abbrev pub IsJavaWord : Kind → Type 0
IsJavaWord (lexed.Word w) = is_identifier w ≡ true
IsJavaWord _ = Unit {0}

pub kind_named : (kind : Kind) → IsJavaWord kind → kind_of kind ≡ kinds.IDENTIFIER → is_identifier (word_in (content_of kind)) ≡ true
kind_named (lexed.Word w) h is = h
kind_named (lexed.Number z) h is = absurd (no_identifier (number_kind z) (number_else z) is)
kind_named (lexed.Sign w) h is = absurd (no_identifier (sign_kind w) (spelled_else used_signs w kinds.UNUSED signs_else refl) is)

pub run_named : (A : Type 0) → kinds.SPECS ≡ kinds.IDENTIFIER → A
run_named A is = absurd (no_identifier kinds.SPECS refl is)
