-- The tokens that a text spells are slices of it, in order.
use Rattle.std.proofs.Common.{◌≡◌, inl, inr, ℕ, ◌+◌, ◌-◌, ◌^◌, ◌<◌, Bool, true, false, cond, List, [], ◌∷◌, ◌++◌, length, take, drop, get_or, slice_range, Some, None, pos, refl, sym, ap, subst, ◌∙◌, append_assoc, length-append, arith}
use Rattle.std.proofs.lemmas.List.{append-nil}
use Rattle.std.proofs.Math.Seq.{drop-append_seam, take-append_seam}
use Rattle.std.specs.List.{list_all}
use Rattle.std.specs.Str.Parse.{digits_value}
use Rattle.jd_lex.specs.Bytes.{is_at, is_digit}
use Rattle.jd_lex.specs.Parts.{Kind, Word, Number, Sign, Token, Part, start_of, limit, jml_text, without_last_ats, one, IsPlain}
use Rattle.jd_lex.specs.Lexing.{Parts, Reach, tokens_of, Whole, JmlPart, IsJmlPart, CommentGives, JavaPart, IsJavaPart}
use Rattle.jd_lex.specs.Places.{Says, AreSlices, InOrder}
use Rattle.jd_lex.proofs.Steps.{begins_number}
use Rattle.jd_lex.proofs.Decimals.{numeral_decimal}
use Rattle.jd_lex.specs.declared.starts.Start.{Start}
use Rattle.jd_lex.specs.declared.starts.Start.TheVariants.{White, WordStart, NumberStart, LineComment, BlockComment, SignStart}

-- ---- tokens at their places in a text

-- the tokens stand in the text, which begins at that place, one behind another
abbrev pub Placed : ℕ → List ℕ → List Token → Type 0
Placed at text [] = Unit {0}
Placed at text (t ∷ ts) =
    (gap word rest : List ℕ) × (text ≡ gap ++ (word ++ rest)) × (t.begins ≡ at + length gap) × (t.ends ≡ t.begins + length word) × (0 < length word) × Says t.kind word × Placed t.ends rest ts

placed_more : (text more : List ℕ) (at : ℕ) (ts : List Token) → Placed at text ts → Placed at (text ++ more) ts
placed_more text more at [] h = tt
placed_more text more at (t ∷ ts) (gap, word, rest, is, b, e, some, says, others) = (
  gap,
  word,
  rest ++ more,
  ap (λ s. s ++ more) is ∙ (append_assoc gap (word ++ rest) more ∙ ap (λ s. gap ++ s) (append_assoc word rest more)),
  b,
  e,
  some,
  says,
  placed_more rest more t.ends ts others,
)

placed_behind : (front text : List ℕ) (at : ℕ) (ts : List Token) → Placed (at + length front) text ts → Placed at (front ++ text) ts
placed_behind front text at [] h = tt
placed_behind front text at (t ∷ ts) (gap, word, rest, is, b, e, some, says, others) =
    let long = length-append front gap in
    (front ++ gap, word, rest, ap (λ s. front ++ s) is ∙ sym (append_assoc front gap (word ++ rest)), omega (arith, b, long), e, some, says, others)

placed_append : (xs ys : List Token) (text more : List ℕ) (at : ℕ) → Placed at text xs → Placed (at + length text) more ys → Placed at (text ++ more) (xs ++ ys)
placed_append [] ys text more at h k = placed_behind text more at ys k
placed_append (t ∷ xs) ys text more at (gap, word, rest, is, b, e, some, says, others) k =
    let l = ap length is in
    let m = length-append gap (word ++ rest) in
    let n = length-append word rest in
    let same : at + length text ≡ t.ends + length rest = omega (arith, l, m, n, b, e) in (
      gap,
      word,
      rest ++ more,
      ap (λ s. s ++ more) is ∙ (append_assoc gap (word ++ rest) more ∙ ap (λ s. gap ++ s) (append_assoc word rest more)),
      b,
      e,
      some,
      says,
      placed_append xs ys rest more t.ends others (subst (λ i. Placed i more ys) same k),
    )

reach_placed : (R : Parts) → ((at : ℕ) (p : Part) (behind : List ℕ) → 0 < length p.text → R at p behind → Placed at p.text p.tokens)
    → (ps : List Part) (from : ℕ) (bytes : List ℕ) (at : ℕ) → Reach R ps from bytes at [] → Placed from bytes (tokens_of ps)
reach_placed R given [] from bytes at h = tt
reach_placed R given (p ∷ ps) from bytes at (some, behind, is, part, more) =
    subst (λ s. Placed from s (p.tokens ++ tokens_of ps)) (sym is)
    (placed_append p.tokens (tokens_of ps) p.text behind from (given from p behind some part) (reach_placed R given ps (from + length p.text) behind at more))

whole_placed : (R : Parts) → ((at : ℕ) (p : Part) (behind : List ℕ) → 0 < length p.text → R at p behind → Placed at p.text p.tokens)
    → (from : ℕ) (bytes : List ℕ) (ts : List Token) → Whole R from bytes ts → Placed from bytes ts
whole_placed R given from bytes ts w = subst (Placed from bytes) (sym w.leads.given) (reach_placed R given w.leads.parts from bytes w.end w.leads.reach)

-- ---- what each part gives

one_placed : (jml : Bool) (at : ℕ) (text : List ℕ) (kind : Kind) → 0 < length text → Says kind text → Placed at text (one jml at text kind)
one_placed jml at text kind some says = ([], text, [], sym (append-nil text), omega arith, refl, some, says, tt)

no_tokens : (at : ℕ) (text : List ℕ) (ts : List Token) → ts ≡ [] → Placed at text ts
no_tokens at text ts is = subst (Placed at text) (sym is) tt

small_limit : (jml : Bool) → limit jml < 10 ^ 64
small_limit true = omega arith
small_limit false = omega arith

first_byte : (text behind : List ℕ) → 0 < length text → get_or (text ++ behind) 0 0 ≡ get_or text 0 0
first_byte [] behind lt = let no : ⊥ = omega arith in absurd no
first_byte (b ∷ text) behind lt = refl

plain_placed : (s : Start) (jml : Bool) (at : ℕ) (p : Part) (behind : List ℕ) → start_of jml (p.text ++ behind) ≡ s → 0 < length p.text → IsPlain s jml at p behind → Placed at p.text p.tokens
plain_placed White jml at p behind is some h = no_tokens at p.text p.tokens h.1
plain_placed WordStart jml at p behind is some h = subst (Placed at p.text) (sym h.1) (one_placed jml at p.text (Word p.text) some refl)
plain_placed NumberStart jml at p behind is some h =
    let digit = ap is_digit (sym (first_byte p.text behind some)) ∙ begins_number jml (p.text ++ behind) is in
    let le = h.1 in
    let lim = small_limit jml in
    let says = numeral_decimal p.text behind h.0 digit (omega (arith, le, lim)) in
    subst (Placed at p.text) (sym h.2) (one_placed jml at p.text (Number (pos (digits_value 10 p.text))) some (sym says))
plain_placed LineComment jml at p behind is some h = absurd h
plain_placed BlockComment jml at p behind is some h = absurd h
plain_placed SignStart jml at p behind is some h = subst (Placed at p.text) (sym h.1) (one_placed jml at p.text (Sign p.text) some refl)

sign_placed : (jml : Bool) (at : ℕ) (p : Part) (behind : List ℕ) → 0 < length p.text → IsPlain SignStart jml at p behind → Placed at p.text p.tokens
sign_placed jml at p behind some h = subst (Placed at p.text) (sym h.1) (one_placed jml at p.text (Sign p.text) some refl)

jml_by : (s : Start) (at : ℕ) (p : Part) (behind : List ℕ) → start_of true (p.text ++ behind) ≡ s → 0 < length p.text → JmlPart s at p behind → Placed at p.text p.tokens
jml_by White at p behind is some h = plain_placed White true at p behind is some h
jml_by WordStart at p behind is some h = plain_placed WordStart true at p behind is some h
jml_by NumberStart at p behind is some h = plain_placed NumberStart true at p behind is some h
jml_by SignStart at p behind is some h = plain_placed SignStart true at p behind is some h
jml_by LineComment at p behind is some (c, h, t) = no_tokens at p.text p.tokens t
jml_by BlockComment at p behind is some (inl (c, h, t)) = no_tokens at p.text p.tokens t
jml_by BlockComment at p behind is some (inr h) = sign_placed true at p behind some h.1

jml_placed : (at : ℕ) (p : Part) (behind : List ℕ) → 0 < length p.text → IsJmlPart at p behind → Placed at p.text p.tokens
jml_placed at p behind some h = jml_by (start_of true (p.text ++ behind)) at p behind refl some h

-- the bytes without their last `@` signs are a front of them
pub ats_behind : (bytes : List ℕ) → (ats : List ℕ) × (bytes ≡ without_last_ats bytes ++ ats)
ats_behind [] = ([], refl)
ats_behind (b ∷ bytes) = go (list_all is_at (b ∷ bytes)) (ats_behind bytes)
  where
    go : (v : Bool) → ((ats : List ℕ) × (bytes ≡ without_last_ats bytes ++ ats)) → (ats : List ℕ) × (b ∷ bytes ≡ cond v [] (b ∷ without_last_ats bytes) ++ ats)
    go true k = (b ∷ bytes, refl)
    go false (ats, is) = (ats, ap (λ t. b ∷ t) is)

text_placed : (block : Bool) (at : ℕ) (text : List ℕ) (ts : List Token) → Whole IsJmlPart at (cond block (without_last_ats text) text) ts → Placed at text ts
text_placed true at text ts w =
    let (ats, is) = ats_behind text in
    subst (λ s. Placed at s ts) (sym is) (placed_more (without_last_ats text) ats at ts (whole_placed IsJmlPart jml_placed at (without_last_ats text) ts w))
text_placed false at text ts w = whole_placed IsJmlPart jml_placed at text ts w

comment_placed : (block : Bool) (at : ℕ) (body : List ℕ) (ts : List Token) → CommentGives at (jml_text block body) ts → Placed (at + 2) body ts
comment_placed block at [] ts h = no_tokens (at + 2) [] ts h
comment_placed block at (b ∷ text) ts h = go (is_at b) h
  where
    go : (v : Bool) → CommentGives at (cond v (Some (cond block (without_last_ats text) text)) None) ts → Placed (at + 2) (b ∷ text) ts
    go true w =
        let three : at + 3 ≡ at + 2 + length (b ∷ []) = omega arith in
        placed_behind (b ∷ []) text (at + 2) ts (subst (λ i. Placed i text ts) three (text_placed block (at + 3) text ts w))
    go false is = no_tokens (at + 2) (b ∷ text) ts is

java_by : (s : Start) (at : ℕ) (p : Part) (behind : List ℕ) → start_of false (p.text ++ behind) ≡ s → 0 < length p.text → JavaPart s at p behind → Placed at p.text p.tokens
java_by White at p behind is some h = plain_placed White false at p behind is some h
java_by WordStart at p behind is some h = plain_placed WordStart false at p behind is some h
java_by NumberStart at p behind is some h = plain_placed NumberStart false at p behind is some h
java_by SignStart at p behind is some h = plain_placed SignStart false at p behind is some h
java_by LineComment at p behind is some (c, h, t) =
    subst (λ s. Placed at s p.tokens) (sym h.joined) (placed_behind (47 ∷ 47 ∷ []) c at p.tokens (comment_placed false at c p.tokens t))
java_by BlockComment at p behind is some (c, h, t) =
    subst (λ s. Placed at s p.tokens) (sym h.joined)
    (placed_behind (47 ∷ 42 ∷ []) (c ++ 42 ∷ 47 ∷ []) at p.tokens (placed_more c (42 ∷ 47 ∷ []) (at + 2) p.tokens (comment_placed true at c p.tokens t)))

pub java_placed : (bytes : List ℕ) (ts : List Token) → Whole IsJavaPart 0 bytes ts → Placed 0 bytes ts
java_placed bytes ts w = whole_placed IsJavaPart (λ at p behind some h. java_by (start_of false (p.text ++ behind)) at p behind refl some h) 0 bytes ts w

-- ---- slices

slice_seam : (a w r : List ℕ) (b e : ℕ) → b ≡ length a → e ≡ b + length w → slice_range (a ++ (w ++ r)) b e ≡ w
slice_seam a w r b e begins ends =
    let long : e - b ≡ length w = omega (arith, begins, ends) in
    ap (λ n. take n (drop b (a ++ (w ++ r)))) long
    ∙ (ap (λ n. take (length w) (drop n (a ++ (w ++ r)))) begins ∙ (ap (λ t. take (length w) t) (drop-append_seam a (w ++ r)) ∙ take-append_seam w r))

pub placed_slices : (front text : List ℕ) (at : ℕ) (ts : List Token) → at ≡ length front → Placed at text ts → AreSlices (front ++ text) ts
placed_slices front text at [] e h = tt
placed_slices front text at (t ∷ ts) here (gap, word, rest, is, b, e, some, says, others) =
    let whole : front ++ text ≡ (front ++ gap) ++ (word ++ rest) = ap (λ s. front ++ s) is ∙ sym (append_assoc front gap (word ++ rest)) in
    let again : (front ++ gap) ++ (word ++ rest) ≡ ((front ++ gap) ++ word) ++ rest = sym (append_assoc (front ++ gap) word rest) in
    let l = length-append front gap in
    let m = length-append (front ++ gap) (word ++ rest) in
    let n = length-append word rest in
    let o = length-append (front ++ gap) word in
    let begins : t.begins ≡ length (front ++ gap) = omega (arith, here, b, l) in
    let ends : t.ends ≡ length ((front ++ gap) ++ word) = omega (arith, begins, e, o) in
    let long = ap length whole in
    let slice = ap (λ s. slice_range s t.begins t.ends) whole ∙ slice_seam (front ++ gap) word rest t.begins t.ends begins e in (
      record { within = omega (arith, long, m, n, begins, e); says = subst (Says t.kind) (sym slice) says },
      subst (λ s. AreSlices s ts) (sym (whole ∙ again)) (placed_slices ((front ++ gap) ++ word) rest t.ends ts ends others),
    )

pub placed_order : (text : List ℕ) (at : ℕ) (ts : List Token) → Placed at text ts → InOrder at ts
placed_order text at [] h = tt
placed_order text at (t ∷ ts) (gap, word, rest, is, b, e, some, says, others) = (omega (arith, b), omega (arith, e, some), placed_order rest t.ends ts others)
