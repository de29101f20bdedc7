-- The words and numbers that a text spells stand alone too.
use Rattle.std.proofs.Common.{◌≡◌, ◌⊎◌, inl, inr, ℕ, ◌+◌, ◌^◌, ◌<◌, ◌≤◌, Bool, true, false, ◌&&◌, ◌||◌, ◌==◌, cond, get_or, List, [], ◌∷◌, ◌++◌, length, Option, Some, None, pos, refl, sym, ap, subst, ◌∙◌, arith}
use Rattle.std.specs.Str.Parse.{digits_value}
use Rattle.std.proofs.lemmas.Bool.{false≢true, and_parts, and_from, and_left, or_cases, or_parts, or_from, or_left, or_right, both_ways, eqb-true, false_from_ne_true}
use Rattle.jd_lex.specs.Bytes.{is_white, begins_word, is_word_byte, is_digit, is_letter, BeginsOther, IsRun}
use Rattle.jd_lex.specs.Parts.{Word, Number, Token, Part, start_of, IsWord, MoreDigits, IsNumeral, limit, jml_text, IsPlain}
use Rattle.jd_lex.specs.Lexing.{Parts, Reach, tokens_of, Whole, JmlPart, IsJmlPart, CommentGives, JavaPart, IsJavaPart, Spells}
use Rattle.jd_lex.specs.declared.starts.Start.{Start}
use Rattle.jd_lex.specs.declared.starts.Start.TheVariants.{White, WordStart, NumberStart, LineComment, BlockComment, SignStart}
use Rattle.jd_lex.proofs.Decimals.{numeral_decimal}
use Rattle.jd_lex.proofs.Steps.{begins_number}
use Rattle.jd_jml_spelled.specs.Comments.{IsAlone}
use Rattle.jd_jml_reprinted.specs.Reprinted.{IsWhole, AreWhole, IsAmong, AreAmong}

-- ---- what begins a word or a number

abbrev chosen : Bool → Bool → Bool → Bool → Bool → Start
chosen w x d l k = cond w White (cond x WordStart (cond d NumberStart (cond l LineComment (cond k BlockComment SignStart))))

word_chosen : (w x d l k : Bool) → chosen w x d l k ≡ WordStart → (w ≡ false) × (x ≡ true)
word_chosen true x d l k e = absurd cc
word_chosen false true d l k e = (refl, refl)
word_chosen false false true l k e = absurd cc
word_chosen false false false true k e = absurd cc
word_chosen false false false false true e = absurd cc
word_chosen false false false false false e = absurd cc

number_chosen : (w x d l k : Bool) → chosen w x d l k ≡ NumberStart → (w ≡ false) × (x ≡ false) × (d ≡ true)
number_chosen true x d l k e = absurd cc
number_chosen false true d l k e = absurd cc
number_chosen false false true l k e = (refl, refl, refl)
number_chosen false false false true k e = absurd cc
number_chosen false false false false true e = absurd cc
number_chosen false false false false false e = absurd cc

choose_word : (w x d l k : Bool) → w ≡ false → x ≡ true → chosen w x d l k ≡ WordStart
choose_word w x d l k e g = ap (λ v. chosen v x d l k) e ∙ ap (λ v. chosen false v d l k) g

choose_number : (w x d l k : Bool) → w ≡ false → x ≡ false → d ≡ true → chosen w x d l k ≡ NumberStart
choose_number w x d l k e g h = ap (λ v. chosen v x d l k) e ∙ (ap (λ v. chosen false v d l k) g ∙ ap (λ v. chosen false false v l k) h)

abbrev word_test : Bool → ℕ → ℕ → Bool
word_test jml b c = begins_word b || (jml && ((b == 92) && is_letter c))

abbrev is_line : ℕ → ℕ → Bool
is_line b c = (b == 47) && (c == 47)

abbrev is_block : ℕ → ℕ → Bool
is_block b c = (b == 47) && (c == 42)

-- a letter behind a backslash is of the word
second : (more rest : List ℕ) → BeginsOther is_word_byte rest → is_letter (get_or (more ++ rest) 0 0) ≡ true → is_letter (get_or more 0 0) ≡ true
second (m ∷ more) rest o t = t
second [] [] o t = t
second [] (r ∷ rest) o t =
    absurd (both_ways (is_word_byte r) o (or_left (begins_word r) (is_digit r) (or_left (is_letter r || (r == 95)) (r == 36) (or_left (is_letter r) (r == 95) t))))

word_alone : (jml : Bool) (b : ℕ) (more rest : List ℕ) → IsRun is_word_byte more rest → start_of jml (b ∷ (more ++ rest)) ≡ WordStart
    → start_of true (b ∷ more) ≡ WordStart
word_alone jml b more rest run e =
    let c = get_or (more ++ rest) 0 0 in
    let d = get_or more 0 0 in
    let (w, x) = word_chosen (is_white b) (word_test jml b c) (is_digit b) (is_line b c) (is_block b c) e in
    choose_word (is_white b) (word_test true b d) (is_digit b) (is_line b d) (is_block b d) w (by (or_cases (begins_word b) (jml && ((b == 92) && is_letter c)) x))
  where
    by : (begins_word b ≡ true) ⊎ ((jml && ((b == 92) && is_letter (get_or (more ++ rest) 0 0))) ≡ true) → word_test true b (get_or more 0 0) ≡ true
    by (inl k) = or_left (begins_word b) ((b == 92) && is_letter (get_or more 0 0)) k
    by (inr k) =
        let (s, t) = and_parts (b == 92) (is_letter (get_or (more ++ rest) 0 0)) (and_parts jml ((b == 92) && is_letter (get_or (more ++ rest) 0 0)) k).1 in
        or_right (begins_word b) ((b == 92) && is_letter (get_or more 0 0)) (and_from (b == 92) (is_letter (get_or more 0 0)) s (second more rest run.longest t))

number_alone : (jml : Bool) (b : ℕ) (more rest : List ℕ) → start_of jml (b ∷ (more ++ rest)) ≡ NumberStart → start_of true (b ∷ more) ≡ NumberStart
number_alone jml b more rest e =
    let c = get_or (more ++ rest) 0 0 in
    let f = get_or more 0 0 in
    let (w, x, d) = number_chosen (is_white b) (word_test jml b c) (is_digit b) (is_line b c) (is_block b c) e in
    let other : (b == 92) ≡ false = false_from_ne_true (b == 92) (λ k. false≢true (sym (ap is_digit (eqb-true b 92 k)) ∙ d)) in
    let none = or_from (begins_word b) ((b == 92) && is_letter f) (or_parts (begins_word b) (jml && ((b == 92) && is_letter c)) x).0 (and_left (b == 92) (is_letter f) other) in
    choose_number (is_white b) (word_test true b f) (is_digit b) (is_line b f) (is_block b f) w none d

-- ---- words and numbers

whole_word : (jml : Bool) (text rest : List ℕ) → IsWord text rest → start_of jml (text ++ rest) ≡ WordStart → IsWhole (Word text)
whole_word jml text rest h e =
    let start : start_of true text ≡ WordStart =
    ap (start_of true) h.joined ∙ word_alone jml h.first h.more rest h.run (ap (λ t. start_of jml (t ++ rest)) (sym h.joined) ∙ e) in
    subst (λ s. IsAlone s (Word text) text) (sym start) (record { first = h.first; more = h.more; joined = h.joined; run = record { all = h.run.all; longest = tt } }, refl)

more_alone : (zero : Bool) (more rest : List ℕ) → MoreDigits zero more rest → MoreDigits zero more []
more_alone true more rest h = h
more_alone false more rest h = record { all = h.all; longest = tt }

small_limit : (jml : Bool) (n : ℕ) → n ≤ limit jml → (n ≤ limit true) × (n < 10 ^ 64)
small_limit true n le = (le, omega (arith, le))
small_limit false n le = (omega (arith, le), omega (arith, le))

whole_number : (jml : Bool) (text rest : List ℕ) → IsNumeral text rest → digits_value 10 text ≤ limit jml
    → start_of jml (text ++ rest) ≡ NumberStart → IsWhole (Number (pos (digits_value 10 text)))
whole_number jml text rest h le e =
    let n = digits_value 10 text in
    let start : start_of true text ≡ NumberStart =
    ap (start_of true) h.joined ∙ number_alone jml h.first h.more rest (ap (λ t. start_of jml (t ++ rest)) (sym h.joined) ∙ e) in
    let (low, small) = small_limit jml n le in
    let is = numeral_decimal text rest h (begins_number true text start) small in
    subst (λ t. IsAlone (start_of true t) (Number (pos n)) t) (sym is)
    (subst (λ s. IsAlone s (Number (pos n)) text) (sym start)
    (record { first = h.first; more = h.more; joined = h.joined; run = more_alone (h.first == 48) h.more rest h.run }, low, refl))

-- ---- parts

none_whole : (ts : List Token) → ts ≡ [] → AreWhole ts
none_whole ts e = subst AreWhole (sym e) tt

plain_whole : (s : Start) (jml : Bool) (at : ℕ) (p : Part) (rest : List ℕ) → start_of jml (p.text ++ rest) ≡ s → IsPlain s jml at p rest
    → AreWhole p.tokens
plain_whole White jml at p rest is h = none_whole p.tokens h.1
plain_whole WordStart jml at p rest is h = subst AreWhole (sym h.1) (whole_word jml p.text rest h.0 is, tt)
plain_whole NumberStart jml at p rest is h = subst AreWhole (sym h.2) (whole_number jml p.text rest h.0 h.1 is, tt)
plain_whole LineComment jml at p rest is h = absurd h
plain_whole BlockComment jml at p rest is h = absurd h
plain_whole SignStart jml at p rest is h = subst AreWhole (sym h.1) (tt, tt)

sign_whole : (jml : Bool) (at : ℕ) (p : Part) (rest : List ℕ) → IsPlain SignStart jml at p rest → AreWhole p.tokens
sign_whole jml at p rest h = subst AreWhole (sym h.1) (tt, tt)

jml_by : (s : Start) (at : ℕ) (p : Part) (rest : List ℕ) → start_of true (p.text ++ rest) ≡ s → JmlPart s at p rest → AreWhole p.tokens
jml_by White at p rest is h = plain_whole White true at p rest is h
jml_by WordStart at p rest is h = plain_whole WordStart true at p rest is h
jml_by NumberStart at p rest is h = plain_whole NumberStart true at p rest is h
jml_by LineComment at p rest is (c, h, t) = none_whole p.tokens t
jml_by BlockComment at p rest is (inl (c, h, t)) = none_whole p.tokens t
jml_by BlockComment at p rest is (inr (o, h)) = sign_whole true at p rest h
jml_by SignStart at p rest is h = plain_whole SignStart true at p rest is h

whole_both : (ts us : List Token) → AreWhole ts → AreWhole us → AreWhole (ts ++ us)
whole_both [] us h k = k
whole_both (t ∷ ts) us h k = (h.0, whole_both ts us h.1 k)

reach_whole : (R : Parts) → ((at : ℕ) (p : Part) (rest : List ℕ) → R at p rest → AreWhole p.tokens)
    → (ps : List Part) (from : ℕ) (bytes : List ℕ) (at : ℕ) (rest : List ℕ) → Reach R ps from bytes at rest
    → AreWhole (tokens_of ps)
reach_whole R given [] from bytes at rest h = tt
reach_whole R given (p ∷ ps) from bytes at rest (some, behind, is, part, more) =
    whole_both p.tokens (tokens_of ps) (given from p behind part) (reach_whole R given ps (from + length p.text) behind at rest more)

all_whole : (R : Parts) → ((at : ℕ) (p : Part) (rest : List ℕ) → R at p rest → AreWhole p.tokens) → (from : ℕ) (bytes : List ℕ) (ts : List Token)
    → Whole R from bytes ts → AreWhole ts
all_whole R given from bytes ts w = subst AreWhole (sym w.leads.given) (reach_whole R given w.leads.parts from bytes w.end [] w.leads.reach)

jml_whole : (at : ℕ) (p : Part) (rest : List ℕ) → IsJmlPart at p rest → AreWhole p.tokens
jml_whole at p rest h = jml_by (start_of true (p.text ++ rest)) at p rest refl h

comment_whole : (at : ℕ) (text : Option (List ℕ)) (ts : List Token) → CommentGives at text ts → AreWhole ts
comment_whole at None ts h = none_whole ts h
comment_whole at (Some text) ts h = all_whole IsJmlPart jml_whole (at + 3) text ts h

java_by : (s : Start) (at : ℕ) (p : Part) (rest : List ℕ) → start_of false (p.text ++ rest) ≡ s → JavaPart s at p rest → AreWhole p.tokens
java_by White at p rest is h = plain_whole White false at p rest is h
java_by WordStart at p rest is h = plain_whole WordStart false at p rest is h
java_by NumberStart at p rest is h = plain_whole NumberStart false at p rest is h
java_by LineComment at p rest is (body, h, t) = comment_whole at (jml_text false body) p.tokens t
java_by BlockComment at p rest is (body, h, t) = comment_whole at (jml_text true body) p.tokens t
java_by SignStart at p rest is h = plain_whole SignStart false at p rest is h

java_whole : (at : ℕ) (p : Part) (rest : List ℕ) → IsJavaPart at p rest → AreWhole p.tokens
java_whole at p rest h = java_by (start_of false (p.text ++ rest)) at p rest refl h

pub spelled_whole : (bytes : List ℕ) (tokens : List Token) → Spells bytes tokens → AreWhole tokens
spelled_whole bytes tokens h = all_whole IsJavaPart java_whole 0 bytes tokens h.parts

-- ---- some of them

pub whole_among : (us ts : List Token) → AreAmong us ts → AreWhole ts → AreWhole us
whole_among [] ts a h = tt
whole_among (u ∷ us) ts a h = (at ts a.0 h, whole_among us ts a.1 h)
  where
    at : (xs : List Token) → IsAmong u xs → AreWhole xs → IsWhole u.kind
    at [] i k = absurd i
    at (x ∷ xs) (inl e) k = subst (λ (t : Token). IsWhole t.kind) (sym e) k.0
    at (x ∷ xs) (inr i) k = at xs i k.1
