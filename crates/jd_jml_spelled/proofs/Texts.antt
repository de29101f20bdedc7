-- What the text of one token is, alone and with white space behind it.
use Rattle.std.proofs.Common.{◌≡◌, ◌≢◌, inl, inr, ℕ, ◌≤◌, Bool, true, false, not, ◌==◌, ◌&&◌, cond, List, [], ◌∷◌, ◌++◌, length, refl, sym, ap, subst, ◌∙◌, true≢false, arith}
use Rattle.std.specs.List.{list_all}
use Rattle.jd_lex.specs.Bytes.{is_white, is_digit, is_word_byte, AllOf}
use Rattle.jd_lex.specs.Signs.{signs, Listed, IsLongest}
use Rattle.jd_lex.specs.Parts.{Kind, start_of, IsWord, MoreDigits, IsNumeral, one, IsPlain}
use Rattle.jd_lex.specs.declared.starts.Start.{Start}
use Rattle.jd_lex.specs.declared.starts.Start.TheVariants.{White, WordStart, NumberStart, LineComment, BlockComment, SignStart}
use Rattle.jd_lex.proofs.Steps.{begins_number}
use Rattle.jd_jml_spelled.specs.Comments.{IsAlone, IsTokenText}
use Rattle.jd_jml_spelled.proofs.Pairs.{BeginsNot, Lacks, lacks, lacks_is}

-- ---- signs

listed_test : (test : List ℕ → Bool) (table : List (List ℕ)) (text : List ℕ) → list_all test table ≡ true → Listed text table → test text ≡ true
listed_test test [] text all h = absurd h
listed_test test (s ∷ table) text all (inl e) = ap test e ∙ first (test s) all
  where
    first : (p : Bool) → (p && list_all test table) ≡ true → p ≡ true
    first true e' = refl
    first false e' = e'
listed_test test (s ∷ table) text all (inr h) = listed_test test table text (others (test s) all) h
  where
    others : (p : Bool) → (p && list_all test table) ≡ true → list_all test table ≡ true
    others true e' = e'
    others false e' = absurd (true≢false (sym e'))

abbrev no_gap : List ℕ → Bool
no_gap text = list_all (λ b. not (is_white b)) text

abbrev some : List ℕ → Bool
some [] = false
some (b ∷ text) = true

signs_some : list_all some (signs true) ≡ true
signs_some = refl

signs_no_gap : list_all no_gap (signs true) ≡ true
signs_no_gap = refl

signs_no_close : list_all (lacks 42 47) (signs true) ≡ true
signs_no_close = refl

signs_no_escape : list_all (lacks 92 117) (signs true) ≡ true
signs_no_escape = refl

and_both : (p q : Bool) → (p && q) ≡ true → (p ≡ true) × (q ≡ true)
and_both true q e = (refl, e)
and_both false q e = absurd (true≢false (sym e))

heads : (x y : ℕ) (xs ys : List ℕ) → x ∷ xs ≡ y ∷ ys → (x ≡ y) × (xs ≡ ys)
heads x y xs ys e = (cc, cc)

-- what has no white space and begins a text and white space behind it is no longer than the text
ends_before : (text other : List ℕ) (b : ℕ) (rest behind : List ℕ) → is_white b ≡ true → no_gap other ≡ true → text ++ b ∷ rest ≡ other ++ behind → length other ≤ length text
ends_before text [] b rest behind w h e = omega arith
ends_before [] (o ∷ other) b rest behind w h e =
    let same = heads b o rest (other ++ behind) e in
    absurd (true≢false (sym (and_both (not (is_white o)) (no_gap other) h).0 ∙ ap not (ap is_white (sym same.0) ∙ w)))
ends_before (x ∷ text) (o ∷ other) b rest behind w h e =
    let same = heads x o (text ++ b ∷ rest) (other ++ behind) e in
    let less = ends_before text other b rest behind w (and_both (not (is_white o)) (no_gap other) h).1 same.1 in
    omega (arith, less)

longest : (text : List ℕ) (b : ℕ) (rest : List ℕ) → is_white b ≡ true → Listed text (signs true) → IsLongest (signs true) text (b ∷ rest)
longest text b rest w h = record {
  listed = h;
  longest = λ other l (behind, is). ends_before text other b rest behind w (listed_test no_gap (signs true) other signs_no_gap l) is;
}

-- ---- words and numerals

word_before : (text : List ℕ) (b : ℕ) (rest : List ℕ) → is_word_byte b ≡ false → IsWord text [] → IsWord text (b ∷ rest)
word_before text b rest o h = record { first = h.first; more = h.more; joined = h.joined; run = record { all = h.run.all; longest = o } }

digits_before : (zero : Bool) (more : List ℕ) (b : ℕ) (rest : List ℕ) → is_digit b ≡ false → MoreDigits zero more [] → MoreDigits zero more (b ∷ rest)
digits_before true more b rest o h = h
digits_before false more b rest o h = record { all = h.all; longest = o }

numeral_before : (text : List ℕ) (b : ℕ) (rest : List ℕ) → is_digit b ≡ false → IsNumeral text [] → IsNumeral text (b ∷ rest)
numeral_before text b rest o h = record { first = h.first; more = h.more; joined = h.joined; run = digits_before (h.first == 48) h.more b rest o h.run }

-- ---- the part that a text is before white space

pub plain_before : (s : Start) (kind : Kind) (text : List ℕ) (at b : ℕ) (rest : List ℕ) → is_white b ≡ true → is_word_byte b ≡ false → is_digit b ≡ false
    → IsAlone s kind text → IsPlain s true at (record { text = text; tokens = one true at text kind }) (b ∷ rest)
plain_before White kind text at b rest w o d h = absurd h
plain_before WordStart kind text at b rest w o d h = (word_before text b rest o h.0, ap (λ k. one true at text k) h.1)
plain_before NumberStart kind text at b rest w o d h = (numeral_before text b rest d h.0, h.1, ap (λ k. one true at text k) h.2)
plain_before LineComment kind text at b rest w o d h = absurd h
plain_before BlockComment kind text at b rest w o d h = absurd h
plain_before SignStart kind text at b rest w o d h = (longest text b rest w h.0, ap (λ k. one true at text k) h.1)

-- ---- the first byte

not_empty : (kind : Kind) → IsAlone (start_of true []) kind [] → ⊥
not_empty kind h = true≢false (sym (listed_test some (signs true) [] signs_some h.0))

not_white : (v : Bool) (s : Start) (kind : Kind) (text : List ℕ) → IsAlone (cond v White s) kind text → v ≡ false
not_white true s kind text h = absurd h
not_white false s kind text h = refl

-- a text of one token has a first byte, which is no white space
pub first_byte : (kind : Kind) (text : List ℕ) → IsTokenText kind text → (c : ℕ) × (more : List ℕ) × (text ≡ c ∷ more) × (is_white c ≡ false)
first_byte kind [] h = absurd (not_empty kind h.alone)
first_byte kind (c ∷ more) h = (c, more, refl, not_white (is_white c) _ kind (c ∷ more) h.alone)

-- ---- bytes that do not stand side by side

others_lack : (test : ℕ → Bool) (a b : ℕ) (xs : List ℕ) → test a ≡ false → AllOf test xs → Lacks a b xs
others_lack test a b [] other h = tt
others_lack test a b (x ∷ xs) other h = (λ e. absurd (true≢false (sym h.0 ∙ (ap test e ∙ other))), others_lack test a b xs other h.1)

more_lack : (zero : Bool) (a b : ℕ) (more : List ℕ) → is_digit a ≡ false → MoreDigits zero more [] → Lacks a b more
more_lack true a b more other h = subst (Lacks a b) (sym h) tt
more_lack false a b more other h = others_lack is_digit a b more other h.all

abbrev is_word_start : Start → Bool
is_word_start White = false
is_word_start WordStart = true
is_word_start NumberStart = false
is_word_start LineComment = false
is_word_start BlockComment = false
is_word_start SignStart = false

no_star : (c : ℕ) (more : List ℕ) → start_of true (c ∷ more) ≡ WordStart → c ≢ 42
no_star c more is e = true≢false (sym (ap is_word_start is) ∙ ap (λ x. is_word_start (start_of true (x ∷ more))) e)

lacks_by : (s : Start) (kind : Kind) (text : List ℕ) → start_of true text ≡ s → IsAlone s kind text → ((behind : List ℕ) → text ≢ 92 ∷ 117 ∷ behind) → Lacks 42 47 text × Lacks 92 117 text
lacks_by White kind text is h other = absurd h
lacks_by WordStart kind text is h other =
    let e = h.0.joined in
    let first = no_star h.0.first h.0.more (ap (start_of true) (sym e) ∙ is) in (
      subst (Lacks 42 47) (sym e) (λ f. absurd (first f), others_lack is_word_byte 42 47 h.0.more refl h.0.run.all),
      subst (Lacks 92 117) (sym e) (λ f. begins h.0.first h.0.more f e, others_lack is_word_byte 92 117 h.0.more refl h.0.run.all),
    )
  where
    begins : (c : ℕ) (more : List ℕ) → c ≡ 92 → text ≡ c ∷ more → BeginsNot 117 more
    begins c [] f e = tt
    begins c (x ∷ more) f e = λ g. other more (e ∙ (ap (λ y. y ∷ x ∷ more) f ∙ ap (λ y. 92 ∷ y ∷ more) g))
lacks_by NumberStart kind text is h other =
    let e = h.0.joined in
    let digit = begins_number true (h.0.first ∷ h.0.more) (ap (start_of true) (sym e) ∙ is) in (
      subst (Lacks 42 47) (sym e) (λ f. absurd (true≢false (sym digit ∙ ap is_digit f)), more_lack (h.0.first == 48) 42 47 h.0.more refl h.0.run),
      subst (Lacks 92 117) (sym e) (λ f. absurd (true≢false (sym digit ∙ ap is_digit f)), more_lack (h.0.first == 48) 92 117 h.0.more refl h.0.run),
    )
lacks_by LineComment kind text is h other = absurd h
lacks_by BlockComment kind text is h other = absurd h
lacks_by SignStart kind text is h other = (
  lacks_is 42 47 text (listed_test (lacks 42 47) (signs true) text signs_no_close h.0),
  lacks_is 92 117 text (listed_test (lacks 92 117) (signs true) text signs_no_escape h.0),
)

pub text_lacks : (kind : Kind) (text : List ℕ) → IsTokenText kind text → Lacks 42 47 text × Lacks 92 117 text
text_lacks kind text h = lacks_by (start_of true text) kind text refl h.alone h.no_escape
