-- What the kind of a token says of its text.
use Rattle.std.proofs.Common.{◌≡◌, ℕ, Bool, true, false, not, ◌&&◌, ◌==◌, cond, nat_eq, get_or, List, [], ◌∷◌, Option, Some, None, refl, sym, ap, ◌∙◌}
use Rattle.std.specs.Prelude.{ℤ, pos, negsuc}
use Rattle.std.specs.List.{list_all, list_any}
use Rattle.std.specs.Option.{unwrap_or}
use Rattle.std.specs.Str.{bytes_eq}
use Rattle.std.proofs.lemmas.Bool.{and_parts, and_from}
use Rattle.std.proofs.lemmas.Option.{none-some, same_Some}
use Rattle.std.proofs.lemmas.Slice.Eq.{bytes_eq-Decides}
use Rattle.jd_java_tokens.specs.Words.{Table, spelled}
use Rattle.jd_jml_grammar.specs.declared.kinds.TheConstants as kinds
use Rattle.jd_jml_tokens.specs.Words.{words, used_signs, other_word_kind, word_kind, sign_kind, number_kind}
use Rattle.jd_jml_trimmed.proofs.Shapes.{implies}

-- the kinds of words that are names where one stands
abbrev pub is_name_kind : ℕ → Bool
is_name_kind k =
    list_any (nat_eq k)
    (kinds.IDENTIFIER
    ∷ kinds.REQUIRES
    ∷ kinds.ENSURES
    ∷ kinds.SIGNALS
    ∷ kinds.SIGNALS_ONLY
    ∷ kinds.ASSIGNABLE
    ∷ kinds.MEASURED_BY
    ∷ kinds.DIVERGES
    ∷ kinds.LOOP_INVARIANT
    ∷ kinds.DECREASES
    ∷ kinds.INVARIANT
    ∷ kinds.ALSO
    ∷ kinds.NORMAL_BEHAVIOR
    ∷ kinds.EXCEPTIONAL_BEHAVIOR
    ∷ kinds.BEHAVIOR
    ∷ kinds.PURE
    ∷ kinds.HELPER
    ∷ kinds.NULLABLE
    ∷ kinds.NON_NULL
    ∷ kinds.SPEC_PUBLIC
    ∷ kinds.SPEC_PROTECTED
    ∷ [])

-- a row of a table passes
abbrev Test : Type 0
Test = List ℕ → ℕ → Bool

row_passes : (test : Test) (table : Table) (text : List ℕ) (k : ℕ) → list_all (λ row. test row.0 row.1) table ≡ true → spelled table text ≡ Some k
    → test text k ≡ true
row_passes test [] text k all e = absurd (none-some k e)
row_passes test (row ∷ rows) text k all e =
    let (first, others) = and_parts (test row.0 row.1) (list_all (λ r. test r.0 r.1) rows) all in
    by first (λ g. row_passes test rows text k others g) (bytes_eq row.0 text) refl e
  where
    by : test row.0 row.1 ≡ true → (spelled rows text ≡ Some k → test text k ≡ true) → (b : Bool) → bytes_eq row.0 text ≡ b
        → cond b (Some row.1) (spelled rows text) ≡ Some k → test text k ≡ true
    by first others true s g = ap (λ t. test t k) (sym ((bytes_eq-Decides row.0 text).0 s)) ∙ (ap (test row.0) (sym (same_Some row.1 k g)) ∙ first)
    by first others false s g = others g

passes_by : (test : Test) (table : Table) (text : List ℕ) (other : ℕ) → list_all (λ row. test row.0 row.1) table ≡ true → test text other ≡ true
    → test text (unwrap_or (spelled table text) other) ≡ true
passes_by test table text other all e = by (spelled table text) refl
  where
    by : (o : Option ℕ) → spelled table text ≡ o → test text (unwrap_or o other) ≡ true
    by None s = e
    by (Some k) s = row_passes test table text k all s

-- a name does not begin with a backslash, and no word is a number
abbrev word_test : Test
word_test text k = implies (is_name_kind k) (not (get_or text 0 0 == 92)) && not (k == kinds.NUMBER)

words_pass : list_all (λ row. word_test row.0 row.1) words ≡ true
words_pass = refl

other_passes : (text : List ℕ) → word_test text (other_word_kind text) ≡ true
other_passes text = by (nat_eq (get_or text 0 0) 92) refl
  where
    by : (b : Bool) → nat_eq (get_or text 0 0) 92 ≡ b → word_test text (cond b kinds.UNUSED kinds.IDENTIFIER) ≡ true
    by true e = refl
    by false e = and_from (not (nat_eq (get_or text 0 0) 92)) true (ap not e) refl

pub word_passes : (text : List ℕ)
    → (implies (is_name_kind (word_kind text)) (not (get_or text 0 0 == 92)) ≡ true) × (not (word_kind text == kinds.NUMBER) ≡ true)
word_passes text =
    and_parts (implies (is_name_kind (word_kind text)) (not (get_or text 0 0 == 92))) (not (word_kind text == kinds.NUMBER))
    (passes_by word_test words text (other_word_kind text) words_pass (other_passes text))

-- no sign is a name or a number
abbrev sign_test : Test
sign_test text k = not (is_name_kind k) && not (k == kinds.NUMBER)

signs_pass : list_all (λ row. sign_test row.0 row.1) used_signs ≡ true
signs_pass = refl

pub sign_passes : (text : List ℕ) → (not (is_name_kind (sign_kind text)) ≡ true) × (not (sign_kind text == kinds.NUMBER) ≡ true)
sign_passes text =
    and_parts (not (is_name_kind (sign_kind text))) (not (sign_kind text == kinds.NUMBER)) (passes_by sign_test used_signs text kinds.UNUSED signs_pass refl)

pub number_passes : (value : ℤ) → not (is_name_kind (number_kind value)) ≡ true
number_passes (pos n) = refl
number_passes (negsuc n) = refl
