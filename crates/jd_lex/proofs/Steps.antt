-- What a step of the code has found is a part, or a fault.
use Rattle.std.proofs.Common.{◌≡◌, inl, inr, ℕ, zero, suc, ◌+◌, ◌<◌, ◌≤◌, Bool, true, false, cond, ◌&&◌, ◌||◌, ◌==◌, true≢false, List, [], ◌∷◌, ◌++◌, length, take, drop, get_or, Result, Ok, Err, refl, sym, ap, subst, ◌∙◌, append_assoc, arith}
use Rattle.std.proofs.lemmas.Bool.Decides.{nat_tests}
use Rattle.std.proofs.lemmas.List.{append-nil, take-append-drop, length-take, drop-drop}
use Rattle.std.proofs.lemmas.Slice.Eq.{bytes_eq-Decides}
use Rattle.std.proofs.Math.Seq.{take-append-add}
use Rattle.std.specs.List.{list_any}
use Rattle.std.specs.Str.{bytes_eq}
use Rattle.jd_lex.specs.Signs.{signs, jml_signs, Listed, BeginsNone}
use Rattle.jd_lex.specs.Bytes.{is_white, is_letter, in_line, IsRun}
use Rattle.jd_lex.specs.Parts.{Fault, start_by, start_of, IsWhite, IsLineComment, IsBlockComment, NoClose, jml_text, IsPlain, IsPlainFault}
use Rattle.jd_lex.specs.Lexing.{Parts, JmlPart, IsJmlPart, IsJmlFault, JavaPart, IsJavaPart, JavaFault, IsJavaFault, CommentFault}
use Rattle.jd_lex.specs.Lens.{Head, ClosesAt}
use Rattle.jd_lex.specs.View.{tokens_view, Refuses, Took, StepGives, CommentAdded}
use Rattle.jd_lex.specs.declared.starts.Start.{Start}
use Rattle.jd_lex.specs.declared.starts.Start.TheVariants.{White, WordStart, NumberStart, LineComment, BlockComment, SignStart}
use Rattle.jd_lex.specs.declared.token.Token.{Token}
use Rattle.jd_lex.specs.declared.token.LexRefusal.{LexRefusal}
use Rattle.jd_lex.specs.declared.token.LexRefusal.TheVariants as refusals

-- ---- how a text begins

abbrev chosen : Bool → Bool → Bool → Bool → Bool → Start
chosen w x d s t = cond w White (cond x WordStart (cond d NumberStart (cond s LineComment (cond t BlockComment SignStart))))

chosen_white : (w x d s t : Bool) → chosen w x d s t ≡ White → w ≡ true
chosen_white true x d s t e = refl
chosen_white false true d s t e = absurd cc
chosen_white false false true s t e = absurd cc
chosen_white false false false true t e = absurd cc
chosen_white false false false false true e = absurd cc
chosen_white false false false false false e = absurd cc

chosen_number : (w x d s t : Bool) → chosen w x d s t ≡ NumberStart → d ≡ true
chosen_number true x d s t e = absurd cc
chosen_number false true d s t e = absurd cc
chosen_number false false true s t e = refl
chosen_number false false false true t e = absurd cc
chosen_number false false false false true e = absurd cc
chosen_number false false false false false e = absurd cc

chosen_line : (w x d s t : Bool) → chosen w x d s t ≡ LineComment → s ≡ true
chosen_line true x d s t e = absurd cc
chosen_line false true d s t e = absurd cc
chosen_line false false true s t e = absurd cc
chosen_line false false false true t e = refl
chosen_line false false false false true e = absurd cc
chosen_line false false false false false e = absurd cc

chosen_block : (w x d s t : Bool) → chosen w x d s t ≡ BlockComment → t ≡ true
chosen_block true x d s t e = absurd cc
chosen_block false true d s t e = absurd cc
chosen_block false false true s t e = absurd cc
chosen_block false false false true t e = absurd cc
chosen_block false false false false true e = refl
chosen_block false false false false false e = absurd cc

two_are : (b c m : ℕ) → ((b == 47) && (c == m)) ≡ true → (b ≡ 47) × (c ≡ m)
two_are b c m h = grind (arith, nat_tests, h)

abbrev word_test : Bool → ℕ → ℕ → Bool
word_test jml b c = Rattle.jd_lex.specs.Bytes.begins_word b || (jml && ((b == 92) && is_letter c))

line_bytes : (jml : Bool) (b c : ℕ) → start_by jml b c ≡ LineComment → (b ≡ 47) × (c ≡ 47)
line_bytes jml b c e = two_are b c 47 (chosen_line (is_white b) (word_test jml b c) (Rattle.jd_lex.specs.Bytes.is_digit b) ((b == 47) && (c == 47)) ((b == 47) && (c == 42)) e)

block_two : (jml : Bool) (b c : ℕ) → start_by jml b c ≡ BlockComment → (b ≡ 47) × (c ≡ 42)
block_two jml b c e = two_are b c 42 (chosen_block (is_white b) (word_test jml b c) (Rattle.jd_lex.specs.Bytes.is_digit b) ((b == 47) && (c == 47)) ((b == 47) && (c == 42)) e)

first_two : (bytes : List ℕ) (m : ℕ) → 0 < m → get_or bytes 0 0 ≡ 47 → get_or bytes 1 0 ≡ m → bytes ≡ 47 ∷ m ∷ drop 2 bytes
first_two [] m lt e f = let no : ⊥ = omega (arith, e) in absurd no
first_two (b ∷ []) m lt e f = let no : ⊥ = omega (arith, f, lt) in absurd no
first_two (b ∷ c ∷ bytes) m lt e f = ap (λ x. x ∷ c ∷ bytes) e ∙ ap (λ x. 47 ∷ x ∷ bytes) f

pub begins_line : (jml : Bool) (bytes : List ℕ) → start_of jml bytes ≡ LineComment → bytes ≡ 47 ∷ 47 ∷ drop 2 bytes
begins_line jml bytes e = let k = line_bytes jml (get_or bytes 0 0) (get_or bytes 1 0) e in first_two bytes 47 (omega arith) k.0 k.1

pub begins_block : (jml : Bool) (bytes : List ℕ) → start_of jml bytes ≡ BlockComment → bytes ≡ 47 ∷ 42 ∷ drop 2 bytes
begins_block jml bytes e = let k = block_two jml (get_or bytes 0 0) (get_or bytes 1 0) e in first_two bytes 42 (omega arith) k.0 k.1

pub begins_white : (jml : Bool) (bytes : List ℕ) → start_of jml bytes ≡ White → is_white (get_or bytes 0 0) ≡ true
begins_white jml bytes e =
    let b = get_or bytes 0 0 in
    let c = get_or bytes 1 0 in
    chosen_white (is_white b) (word_test jml b c) (Rattle.jd_lex.specs.Bytes.is_digit b) ((b == 47) && (c == 47)) ((b == 47) && (c == 42)) e

pub begins_number : (jml : Bool) (bytes : List ℕ) → start_of jml bytes ≡ NumberStart → Rattle.jd_lex.specs.Bytes.is_digit (get_or bytes 0 0) ≡ true
begins_number jml bytes e =
    let b = get_or bytes 0 0 in
    let c = get_or bytes 1 0 in
    chosen_number (is_white b) (word_test jml b c) (Rattle.jd_lex.specs.Bytes.is_digit b) ((b == 47) && (c == 47)) ((b == 47) && (c == 42)) e

-- ---- refusals

pub refuses_more : (P Q : Fault → Type 0) → ((f : Fault) → P f → Q f) → (e : LexRefusal) → Refuses P e → Refuses Q e
refuses_more P Q h (refusals.BadByte file n) k = (k.0, h _ k.1)
refuses_more P Q h (refusals.OpenComment file n) k = (k.0, h _ k.1)
refuses_more P Q h (refusals.BigLiteral file n) k = (k.0, h _ k.1)
refuses_more P Q h refusals.NoMemory k = tt

-- ---- a step by what the text begins with

module _ (By : Start → Parts) (jml : Bool) (s : Start) (at : ℕ) (bytes : List ℕ) (is : start_of jml bytes ≡ s) (old new : List Token) where
  pub took_by : (n : ℕ) → Took (By s) at bytes old new n → Took (λ m p rest. By (start_of jml (p.text ++ rest)) m p rest) at bytes old new n
  took_by n t = record {
    some = t.some;
    within = t.within;
    tokens = t.tokens;
    added = t.added;
    part = subst (λ s. By s at (record { text = take n bytes; tokens = t.tokens }) (drop n bytes)) (sym (ap (start_of jml) (take-append-drop n bytes) ∙ is)) t.part;
  }

jml_fault : (s : Start) (at : ℕ) (bytes : List ℕ) → start_of true bytes ≡ s → 0 < length bytes → (f : Fault) → IsPlainFault s true at bytes f → IsJmlFault at bytes f
jml_fault s at [] is lt f h = let no : ⊥ = omega arith in absurd no
jml_fault s at (b ∷ bytes) is lt f h = subst (λ s. IsPlainFault s true at (b ∷ bytes) f) (sym is) h

pub jml_step : (s : Start) (at : ℕ) (bytes : List ℕ) (old new : List Token) (r : Result ℕ LexRefusal) → start_of true bytes ≡ s → 0 < length bytes
    → StepGives (JmlPart s) (IsPlainFault s true at bytes) at bytes old new r → StepGives IsJmlPart (IsJmlFault at bytes) at bytes old new r
jml_step s at bytes old new (Ok n) is lt h = took_by JmlPart true s at bytes is old new n h
jml_step s at bytes old new (Err e) is lt h = refuses_more (IsPlainFault s true at bytes) (IsJmlFault at bytes) (jml_fault s at bytes is lt) e h

java_fault : (s : Start) (at : ℕ) (bytes : List ℕ) → start_of false bytes ≡ s → 0 < length bytes → (f : Fault) → JavaFault s at bytes f → IsJavaFault at bytes f
java_fault s at [] is lt f h = let no : ⊥ = omega arith in absurd no
java_fault s at (b ∷ bytes) is lt f h = subst (λ s. JavaFault s at (b ∷ bytes) f) (sym is) h

pub java_step : (s : Start) (at : ℕ) (bytes : List ℕ) (old new : List Token) (r : Result ℕ LexRefusal) → start_of false bytes ≡ s → 0 < length bytes
    → StepGives (JavaPart s) (JavaFault s at bytes) at bytes old new r → StepGives IsJavaPart (IsJavaFault at bytes) at bytes old new r
java_step s at bytes old new (Ok n) is lt h = took_by JavaPart false s at bytes is old new n h
java_step s at bytes old new (Err e) is lt h = refuses_more (JavaFault s at bytes) (IsJavaFault at bytes) (java_fault s at bytes is lt) e h

-- ---- white space

white_some : (jml : Bool) (bytes : List ℕ) (n : ℕ) → is_white (get_or bytes 0 0) ≡ true → Head (IsWhite jml) bytes n → 0 < n
white_some jml [] n e h = absurd (true≢false (sym e))
white_some jml (b ∷ bytes) zero e h = absurd (none h.is.white h.is.ats h.is.joined h.is.run)
  where
    none : (white ats : List ℕ) → [] ≡ white ++ ats → IsRun is_white white (ats ++ b ∷ bytes) → ⊥
    none [] [] j r = true≢false (sym e ∙ r.longest)
    none [] (a ∷ ats) j r = let no : ⊥ = omega (arith, ap length j) in no
    none (w ∷ white) ats j r = let no : ⊥ = omega (arith, ap length j) in no
white_some jml (b ∷ bytes) (suc n) e h = omega arith

pub white_took : (jml : Bool) (at : ℕ) (bytes : List ℕ) (old : List Token) (n : ℕ) → start_of jml bytes ≡ White → Head (IsWhite jml) bytes n → Took (IsPlain White jml) at bytes old old n
white_took jml at bytes old n is h = record {
  some = white_some jml bytes n (begins_white jml bytes is) h;
  within = h.within;
  tokens = [];
  added = sym (append-nil (tokens_view old));
  part = (h.is, refl);
}

-- ---- comments

two_more : (bytes : List ℕ) (b c : ℕ) (n : ℕ) → bytes ≡ b ∷ c ∷ drop 2 bytes → (take (n + 2) bytes ≡ b ∷ c ∷ take n (drop 2 bytes)) × (drop (n + 2) bytes ≡ drop n (drop 2 bytes))
two_more bytes b c n is =
    let two : n + 2 ≡ suc (suc n) = omega arith in
    (ap (take (n + 2)) is ∙ ap (λ m. take m (b ∷ c ∷ drop 2 bytes)) two, ap (drop (n + 2)) is ∙ ap (λ m. drop m (b ∷ c ∷ drop 2 bytes)) two)

long_two : (bytes : List ℕ) (b c : ℕ) → bytes ≡ b ∷ c ∷ drop 2 bytes → 2 + length (drop 2 bytes) ≡ length bytes
long_two bytes b c is = let e = ap length is in omega (arith, e)

pub line_at : (bytes : List ℕ) (n : ℕ) → bytes ≡ 47 ∷ 47 ∷ drop 2 bytes → Head (IsRun in_line) (drop 2 bytes) n
    → IsLineComment (take n (drop 2 bytes)) (take (n + 2) bytes) (drop (n + 2) bytes)
line_at bytes n is h = let m = two_more bytes 47 47 n is in record { joined = m.0; run = subst (IsRun in_line (take n (drop 2 bytes))) (sym m.1) h.is }

pub line_within : (bytes : List ℕ) (n : ℕ) → bytes ≡ 47 ∷ 47 ∷ drop 2 bytes → Head (IsRun in_line) (drop 2 bytes) n → n + 2 ≤ length bytes
line_within bytes n is h = let l = long_two bytes 47 47 is in omega (arith, l, h.within)

-- the first n + 2 bytes end with the closing
closed_front : (bytes : List ℕ) (n : ℕ) → ClosesAt bytes n → take (n + 2) bytes ≡ take n bytes ++ 42 ∷ 47 ∷ []
closed_front bytes n h =
    let long : length (take n bytes) ≡ n = length-take n bytes ∙ omega (arith, h.within) in
    let count : n + 2 ≡ length (take n bytes) + 2 = omega (arith, long) in
    ap (take (n + 2)) h.parts ∙ (ap (λ m. take m (take n bytes ++ 42 ∷ 47 ∷ drop (n + 2) bytes)) count ∙ take-append-add (take n bytes) (42 ∷ 47 ∷ drop (n + 2) bytes) 2)

pub block_at : (bytes : List ℕ) (n : ℕ) → bytes ≡ 47 ∷ 42 ∷ drop 2 bytes → ClosesAt (drop 2 bytes) n → IsBlockComment (take n (drop 2 bytes)) (take (n + 4) bytes)
block_at bytes n is h =
    let four : n + 4 ≡ n + 2 + 2 = omega arith in
    let m = two_more bytes 47 42 (n + 2) is in
    record { joined = ap (λ k. take k bytes) four ∙ (m.0 ∙ ap (λ t. 47 ∷ 42 ∷ t) (closed_front (drop 2 bytes) n h)); first = h.first }

pub block_within : (bytes : List ℕ) (n : ℕ) → bytes ≡ 47 ∷ 42 ∷ drop 2 bytes → ClosesAt (drop 2 bytes) n → n + 4 ≤ length bytes
block_within bytes n is h = let l = long_two bytes 47 42 is in omega (arith, l, h.within)

pub jml_line_took : (at : ℕ) (bytes : List ℕ) (old : List Token) (n : ℕ) → start_of true bytes ≡ LineComment → Head (IsRun in_line) (drop 2 bytes) n
    → Took (JmlPart LineComment) at bytes old old (n + 2)
jml_line_took at bytes old n is h =
    let two = begins_line true bytes is in
    record {
      some = omega arith;
      within = line_within bytes n two h;
      tokens = [];
      added = sym (append-nil (tokens_view old));
      part = (take n (drop 2 bytes), line_at bytes n two h, refl);
    }

pub jml_block_took : (at : ℕ) (bytes : List ℕ) (old : List Token) (n : ℕ) → start_of true bytes ≡ BlockComment → ClosesAt (drop 2 bytes) n
    → Took (JmlPart BlockComment) at bytes old old (n + 4)
jml_block_took at bytes old n is h =
    let two = begins_block true bytes is in
    record {
      some = omega arith;
      within = block_within bytes n two h;
      tokens = [];
      added = sym (append-nil (tokens_view old));
      part = inl (take n (drop 2 bytes), block_at bytes n two h, refl);
    }

listed_head : (text sign : List ℕ) (table : List (List ℕ)) (b : Bool) → bytes_eq text sign ≡ b → (b ≡ false → Listed text table) → Listed text (sign ∷ table)
listed_head text sign table true is h = inl ((bytes_eq-Decides text sign).0 is)
listed_head text sign table false is h = inr (h refl)

listed_test : (text : List ℕ) (table : List (List ℕ)) → list_any (bytes_eq text) table ≡ true → Listed text table
listed_test text [] e = absurd (true≢false (sym e))
listed_test text (sign ∷ table) e =
    listed_head text sign table (bytes_eq text sign) refl (λ is. listed_test text table (ap (λ b. b || list_any (bytes_eq text) table) (sym is) ∙ e))

-- what begins with a slash begins with a sign
slash_stands : (behind : List ℕ) → BeginsNone (signs true) (47 ∷ behind) → ⊥
slash_stands behind h = h (47 ∷ []) (listed_test (47 ∷ []) jml_signs refl) (behind, refl)

pub jml_open_step : (at : ℕ) (bytes : List ℕ) (old new : List Token) (r : Result ℕ LexRefusal) → start_of true bytes ≡ BlockComment → NoClose (drop 2 bytes)
    → StepGives (IsPlain SignStart true) (IsPlainFault SignStart true at bytes) at bytes old new r → StepGives (JmlPart BlockComment) (λ f. ⊥) at bytes old new r
jml_open_step at bytes old new (Ok n) is never t = record {
  some = t.some;
  within = t.within;
  tokens = t.tokens;
  added = t.added;
  part = inr (record { behind = drop 2 bytes; opening = take-append-drop n bytes ∙ begins_block true bytes is; never = never }, t.part);
}
jml_open_step at bytes old new (Err e) is never h =
    refuses_more (IsPlainFault SignStart true at bytes) (λ f. ⊥) (λ f k. slash_stands (42 ∷ drop 2 bytes) (subst (BeginsNone (signs true)) (begins_block true bytes is) k.0)) e h

pub java_line_took : (at : ℕ) (bytes : List ℕ) (old new : List Token) (n : ℕ) → start_of false bytes ≡ LineComment → Head (IsRun in_line) (drop 2 bytes) n
    → CommentAdded at (jml_text false (take n (drop 2 bytes))) old new → Took (JavaPart LineComment) at bytes old new (n + 2)
java_line_took at bytes old new n is h a =
    let two = begins_line false bytes is in
    record {
      some = omega arith;
      within = line_within bytes n two h;
      tokens = a.tokens;
      added = a.added;
      part = (take n (drop 2 bytes), line_at bytes n two h, a.given);
    }

pub java_block_took : (at : ℕ) (bytes : List ℕ) (old new : List Token) (n : ℕ) → start_of false bytes ≡ BlockComment → ClosesAt (drop 2 bytes) n
    → CommentAdded at (jml_text true (take n (drop 2 bytes))) old new → Took (JavaPart BlockComment) at bytes old new (n + 4)
java_block_took at bytes old new n is h a =
    let two = begins_block false bytes is in
    record {
      some = omega arith;
      within = block_within bytes n two h;
      tokens = a.tokens;
      added = a.added;
      part = (take n (drop 2 bytes), block_at bytes n two h, a.given);
    }

pub java_line_fault : (at : ℕ) (bytes : List ℕ) (n : ℕ) → start_of false bytes ≡ LineComment → Head (IsRun in_line) (drop 2 bytes) n
    → (e : LexRefusal) → Refuses (CommentFault at (jml_text false (take n (drop 2 bytes)))) e → Refuses (JavaFault LineComment at bytes) e
java_line_fault at bytes n is h e k =
    refuses_more (CommentFault at (jml_text false (take n (drop 2 bytes)))) (JavaFault LineComment at bytes)
    (λ f c. record { body = take n (drop 2 bytes); text = take (n + 2) bytes; rest = drop (n + 2) bytes; joined = sym (take-append-drop (n + 2) bytes); comment = line_at bytes n (begins_line false bytes is) h; inside = c }) e k

pub java_block_fault : (at : ℕ) (bytes : List ℕ) (n : ℕ) → start_of false bytes ≡ BlockComment → ClosesAt (drop 2 bytes) n
    → (e : LexRefusal) → Refuses (CommentFault at (jml_text true (take n (drop 2 bytes)))) e → Refuses (JavaFault BlockComment at bytes) e
java_block_fault at bytes n is h e k =
    refuses_more (CommentFault at (jml_text true (take n (drop 2 bytes)))) (JavaFault BlockComment at bytes)
    (λ f c. inr (record { body = take n (drop 2 bytes); text = take (n + 4) bytes; rest = drop (n + 4) bytes; joined = sym (take-append-drop (n + 4) bytes); comment = block_at bytes n (begins_block false bytes is) h; inside = c })) e k

-- ---- what is not closed stays so

pub close_drop : (n : ℕ) (bytes : List ℕ) → NoClose bytes → NoClose (drop n bytes)
close_drop n bytes h front behind e = h (take n bytes ++ front) behind
    (sym (take-append-drop n bytes) ∙ (ap (λ t. take n bytes ++ t) e ∙ sym (append_assoc (take n bytes) front (42 ∷ 47 ∷ behind))))

pub two_then : (n : ℕ) (bytes : List ℕ) → NoClose (drop 2 bytes) → NoClose (drop 2 (drop n bytes))
two_then n bytes h = subst NoClose (drop-drop n 2 bytes ∙ (ap (λ m. drop m bytes) (plus n) ∙ sym (drop-drop 2 n bytes))) (close_drop n (drop 2 bytes) h)
  where
    plus : (n : ℕ) → 2 + n ≡ n + 2
    plus n = omega arith
