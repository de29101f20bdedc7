-- A comment that is written token by token spells its tokens.
use Rattle.std.proofs.Common.{◌≡◌, ◌≢◌, ℕ, ◌+◌, ◌<◌, Bool, true, false, List, [], ◌∷◌, ◌++◌, length, refl, sym, ap, subst, ◌∙◌, append_assoc, arith}
use Rattle.std.proofs.lemmas.List.{append-nil}
use Rattle.jd_lex.specs.Bytes.{is_white, is_at, BeginsOther}
use Rattle.jd_lex.specs.Parts.{Kind, Token, one, Part, start_of, NoClose, without_last_ats}
use Rattle.jd_lex.specs.Lexing.{Reach, tokens_of, Whole, IsJmlPart, JmlPart, IsJavaPart, IsEscape, Spells}
use Rattle.jd_lex.specs.declared.starts.Start.{Start}
use Rattle.jd_lex.specs.declared.starts.Start.TheVariants.{White, WordStart, NumberStart, LineComment, BlockComment, SignStart}
use Rattle.jd_lex.proofs.Heads.{without_at, without_other, no_close}
use Rattle.jd_jml_spelled.specs.Comments.{IsAlone, IsTokenText, Piece, gap, inside, comment, behind_gap, tokens_at, AreTokenTexts}
use Rattle.jd_jml_spelled.proofs.Pairs.{BeginsNot, Lacks, lacks_at, lacks_append, lacks_behind}
use Rattle.jd_jml_spelled.proofs.Texts.{plain_before, first_byte, text_lacks}

-- ---- the parts inside

abbrev white_part : Bool → Part
white_part first = record { text = gap first; tokens = [] }

abbrev token_of : ℕ → Piece → Token
token_of from p = record { kind = p.kind; begins = behind_gap from p; ends = behind_gap from p + length p.text; jml = true }

abbrev text_part : ℕ → Piece → Part
text_part from p = record { text = p.text; tokens = token_of from p ∷ [] }

abbrev parts_at : ℕ → List Piece → List Part
parts_at from [] = white_part true ∷ []
parts_at from (p ∷ ps) = white_part p.first ∷ text_part from p ∷ parts_at (behind_gap from p + length p.text) ps

abbrev end_of : ℕ → List Piece → ℕ
end_of from [] = from + 2
end_of from (p ∷ ps) = end_of (behind_gap from p + length p.text) ps

-- white space before what is neither white space nor `@`
white : (first : Bool) (at : ℕ) (rest : List ℕ) → BeginsOther is_white rest → BeginsOther is_at rest → IsJmlPart at (white_part first) rest
white true at rest w a = (
  record {
    white = gap true;
    ats = [];
    joined = refl;
    run = record { all = (refl, (refl, tt)); longest = w };
    ignored = record { all = tt; longest = a };
  },
  refl,
)
white false at rest w a = (
  record {
    white = gap false;
    ats = [];
    joined = refl;
    run = record { all = (refl, tt); longest = w };
    ignored = refl;
  },
  refl,
)

gap_some : (first : Bool) → 0 < length (gap first)
gap_some true = omega arith
gap_some false = omega arith

other_append : (test : ℕ → Bool) (c : ℕ) (more text rest : List ℕ) → text ≡ c ∷ more → test c ≡ false → BeginsOther test (text ++ rest)
other_append test c more text rest e other = subst (λ t. BeginsOther test (t ++ rest)) (sym e) other

at_append : (text rest : List ℕ) (c : ℕ) (more : List ℕ) → text ≡ c ∷ more → BeginsOther is_at text → BeginsOther is_at (text ++ rest)
at_append text rest c more e other = subst (λ t. BeginsOther is_at (t ++ rest)) (sym e) (first c more (subst (BeginsOther is_at) e other))
  where
    first : (d : ℕ) (others : List ℕ) → BeginsOther is_at (d ∷ others) → BeginsOther is_at ((d ∷ others) ++ rest)
    first d others o = o

-- the byte that a gap begins with
abbrev gap_byte : Bool → ℕ
gap_byte true = 10
gap_byte false = 32

-- what begins with one byte of a token and white space begins as the byte alone does
same_start : (first : Bool) (c : ℕ) (more rest : List ℕ) → start_of true ((c ∷ more) ++ gap_byte first ∷ rest) ≡ start_of true (c ∷ more)
same_start true c [] rest = refl
same_start true c (d ∷ more) rest = refl
same_start false c [] rest = refl
same_start false c (d ∷ more) rest = refl

as_jml : (s : Start) (first : Bool) (kind : Kind) (text : List ℕ) (at : ℕ) (rest : List ℕ) → IsAlone s kind text
    → JmlPart s at (record { text = text; tokens = one true at text kind }) (gap_byte first ∷ rest)
as_jml White first kind text at rest h = absurd h
as_jml WordStart true kind text at rest h = plain_before WordStart kind text at 10 rest refl refl refl h
as_jml WordStart false kind text at rest h = plain_before WordStart kind text at 32 rest refl refl refl h
as_jml NumberStart true kind text at rest h = plain_before NumberStart kind text at 10 rest refl refl refl h
as_jml NumberStart false kind text at rest h = plain_before NumberStart kind text at 32 rest refl refl refl h
as_jml LineComment first kind text at rest h = absurd h
as_jml BlockComment first kind text at rest h = absurd h
as_jml SignStart true kind text at rest h = plain_before SignStart kind text at 10 rest refl refl refl h
as_jml SignStart false kind text at rest h = plain_before SignStart kind text at 32 rest refl refl refl h

abbrev AsPart : Piece → ℕ → List ℕ → Type 0
AsPart p from rest = IsJmlPart (behind_gap from p) (text_part from p) rest

-- a text is its token before a gap
before_gap : (p : Piece) (from : ℕ) (first : Bool) (rest : List ℕ) → IsTokenText p.kind p.text → AsPart p from (gap_byte first ∷ rest)
before_gap p from first rest h =
    let (c, more, e, w) = first_byte p.kind p.text h in
    let start : start_of true (p.text ++ gap_byte first ∷ rest) ≡ start_of true p.text =
    ap (λ t. start_of true (t ++ gap_byte first ∷ rest)) e ∙ (same_start first c more rest ∙ ap (start_of true) (sym e)) in
    subst (λ s. JmlPart s (behind_gap from p) (text_part from p) (gap_byte first ∷ rest)) (sym start)
    (as_jml (start_of true p.text) first p.kind p.text (behind_gap from p) rest h.alone)

-- what is inside begins with a gap
before : (p : Piece) (from : ℕ) (ps : List Piece) → IsTokenText p.kind p.text → AsPart p from (inside ps)
before p from [] h = before_gap p from true (32 ∷ []) h
before p from (q ∷ ps) h = by q.first
  where
    by : (first : Bool) → AsPart p from (gap first ++ (q.text ++ inside ps))
    by true = before_gap p from true (32 ∷ (q.text ++ inside ps)) h
    by false = before_gap p from false (q.text ++ inside ps) h

white_before : (p : Piece) (at : ℕ) (rest : List ℕ) → IsTokenText p.kind p.text → IsJmlPart at (white_part p.first) (p.text ++ rest)
white_before p at rest h =
    let (c, more, e, w) = first_byte p.kind p.text h in
    white p.first at (p.text ++ rest) (other_append is_white c more p.text rest e w) (at_append p.text rest c more e h.no_at)

text_some : (p : Piece) → IsTokenText p.kind p.text → 0 < length p.text
text_some p h = let (c, more, e, w) = first_byte p.kind p.text h in omega (arith, ap length e)

reach : (ps : List Piece) (from : ℕ) → AreTokenTexts ps → Reach IsJmlPart (parts_at from ps) from (inside ps) (end_of from ps) []
reach [] from h = (gap_some true, [], refl, white true from [] tt tt, (refl, refl))
reach (p ∷ ps) from h = (
  gap_some p.first,
  p.text ++ inside ps,
  refl,
  white_before p from (inside ps) h.0,
  (text_some p h.0, inside ps, refl, before p from ps h.0, reach ps (behind_gap from p + length p.text) h.1),
)

given : (ps : List Piece) (from : ℕ) → tokens_at from ps ≡ tokens_of (parts_at from ps)
given [] from = refl
given (p ∷ ps) from = ap (λ ts. token_of from p ∷ ts) (given ps (behind_gap from p + length p.text))

whole : (ps : List Piece) (from : ℕ) → AreTokenTexts ps → Whole IsJmlPart from (inside ps) (tokens_at from ps)
whole ps from h = record { end = end_of from ps; leads = record { parts = parts_at from ps; reach = reach ps from h; given = given ps from } }

-- ---- the comment

-- what is inside ends with a blank
ends_blank : (ps : List Piece) → (front : List ℕ) × (inside ps ≡ front ++ 32 ∷ [])
ends_blank [] = (10 ∷ [], refl)
ends_blank (p ∷ ps) =
    let (front, e) = ends_blank ps in (
      gap p.first ++ (p.text ++ front),
      ap (λ t. gap p.first ++ (p.text ++ t)) e
          ∙ sym (append_assoc (gap p.first) (p.text ++ front) (32 ∷ []) ∙ ap (λ t. gap p.first ++ t) (append_assoc p.text front (32 ∷ []))),
    )

without : (ps : List Piece) → without_last_ats (inside ps ++ 64 ∷ []) ≡ inside ps
without ps =
    let (front, e) = ends_blank ps in
    without_at (inside ps) ∙ (ap without_last_ats e ∙ (without_other front 32 refl ∙ sym e))

abbrev body : List Piece → List ℕ
body ps = 64 ∷ (inside ps ++ 64 ∷ [])

comment_is : (ps : List Piece) → comment ps ≡ 47 ∷ 42 ∷ (body ps ++ 42 ∷ 47 ∷ [])
comment_is ps = ap (λ t. 47 ∷ 42 ∷ 64 ∷ t) (sym (append_assoc (inside ps) (64 ∷ []) (42 ∷ 47 ∷ [])))

-- ---- bytes that do not stand side by side

gap_lacks : (first : Bool) (a b : ℕ) (text : List ℕ) → 10 ≢ a → 32 ≢ a → Lacks a b text → Lacks a b (gap first ++ text)
gap_lacks true a b text no_feed no_blank h = lacks_behind a b 10 (32 ∷ text) no_feed (lacks_behind a b 32 text no_blank h)
gap_lacks false a b text no_feed no_blank h = lacks_behind a b 32 text no_blank h

inside_begins : (b : ℕ) (ps : List Piece) → 10 ≢ b → 32 ≢ b → BeginsNot b (inside ps)
inside_begins b [] no_feed no_blank = no_feed
inside_begins b (p ∷ ps) no_feed no_blank = by p.first
  where
    by : (first : Bool) → BeginsNot b (gap first ++ (p.text ++ inside ps))
    by true = no_feed
    by false = no_blank

-- texts that lack the two bytes in a row
abbrev AllLack : ℕ → ℕ → List Piece → Type 0
AllLack a b [] = Unit {0}
AllLack a b (p ∷ ps) = Lacks a b p.text × AllLack a b ps

inside_lacks : (a b : ℕ) → 10 ≢ a → 32 ≢ a → 10 ≢ b → 32 ≢ b → (ps : List Piece) → AllLack a b ps → Lacks a b (inside ps)
inside_lacks a b feed_a blank_a feed_b blank_b [] h = lacks_behind a b 10 (32 ∷ []) feed_a (lacks_behind a b 32 [] blank_a tt)
inside_lacks a b feed_a blank_a feed_b blank_b (p ∷ ps) h =
    gap_lacks p.first a b (p.text ++ inside ps) feed_a blank_a
    (lacks_append a b p.text (inside ps) h.0 (inside_begins b ps feed_b blank_b) (inside_lacks a b feed_a blank_a feed_b blank_b ps h.1))

no_close_texts : (ps : List Piece) → AreTokenTexts ps → AllLack 42 47 ps
no_close_texts [] h = tt
no_close_texts (p ∷ ps) h = ((text_lacks p.kind p.text h.0).0, no_close_texts ps h.1)

no_escape_texts : (ps : List Piece) → AreTokenTexts ps → AllLack 92 117 ps
no_escape_texts [] h = tt
no_escape_texts (p ∷ ps) h = ((text_lacks p.kind p.text h.0).1, no_escape_texts ps h.1)

no_close_inside : (ps : List Piece) → AreTokenTexts ps → Lacks 42 47 (inside ps)
no_close_inside ps h = inside_lacks 42 47 (λ e. omega (arith, e)) (λ e. omega (arith, e)) (λ e. omega (arith, e)) (λ e. omega (arith, e)) ps (no_close_texts ps h)

no_escape_inside : (ps : List Piece) → AreTokenTexts ps → Lacks 92 117 (inside ps)
no_escape_inside ps h = inside_lacks 92 117 (λ e. omega (arith, e)) (λ e. omega (arith, e)) (λ e. omega (arith, e)) (λ e. omega (arith, e)) ps (no_escape_texts ps h)

body_closes : (ps : List Piece) → AreTokenTexts ps → NoClose (body ps ++ 42 ∷ [])
body_closes ps h = no_close (body ps ++ 42 ∷ []) (λ k low c. lacks_at 42 47 (body ps ++ 42 ∷ []) k all low c.0 c.1)
  where
    last : Lacks 42 47 (64 ∷ 42 ∷ [])
    last = lacks_behind 42 47 64 (42 ∷ []) (λ e. omega (arith, e)) (λ e. tt, tt)

    most : Lacks 42 47 (inside ps ++ 64 ∷ 42 ∷ [])
    most = lacks_append 42 47 (inside ps) (64 ∷ 42 ∷ []) (no_close_inside ps h) (λ e. omega (arith, e)) last

    all : Lacks 42 47 (body ps ++ 42 ∷ [])
    all = lacks_behind 42 47 64 ((inside ps ++ 64 ∷ []) ++ 42 ∷ []) (λ e. omega (arith, e)) (subst (Lacks 42 47) (sym (append_assoc (inside ps) (64 ∷ []) (42 ∷ []))) most)

comment_plain : (ps : List Piece) → AreTokenTexts ps → (at : ℕ) → IsEscape (comment ps) at → ⊥
comment_plain ps h at e = lacks_at 92 117 (comment ps) at all e.within e.backslash e.letter
  where
    other : (x : ℕ) (xs : List ℕ) → x ≢ 92 → Lacks 92 117 xs → Lacks 92 117 (x ∷ xs)
    other x xs ne k = lacks_behind 92 117 x xs ne k

    last : Lacks 92 117 (64 ∷ 42 ∷ 47 ∷ [])
    last = other 64 (42 ∷ 47 ∷ []) (λ e'. omega (arith, e')) (other 42 (47 ∷ []) (λ e'. omega (arith, e')) (other 47 [] (λ e'. omega (arith, e')) tt))

    most : Lacks 92 117 (inside ps ++ 64 ∷ 42 ∷ 47 ∷ [])
    most = lacks_append 92 117 (inside ps) (64 ∷ 42 ∷ 47 ∷ []) (no_escape_inside ps h) (λ e'. omega (arith, e')) last

    all : Lacks 92 117 (comment ps)
    all = other 47 (42 ∷ 64 ∷ (inside ps ++ 64 ∷ 42 ∷ 47 ∷ [])) (λ e'. omega (arith, e'))
        (other 42 (64 ∷ (inside ps ++ 64 ∷ 42 ∷ 47 ∷ [])) (λ e'. omega (arith, e')) (other 64 (inside ps ++ 64 ∷ 42 ∷ 47 ∷ []) (λ e'. omega (arith, e')) most))

-- ---- the whole text

abbrev comment_part : List Piece → Part
comment_part ps = record { text = comment ps; tokens = tokens_at 3 ps }

is_part : (ps : List Piece) → AreTokenTexts ps → IsJavaPart 0 (comment_part ps) []
is_part ps h = (
  body ps,
  record { joined = comment_is ps; first = body_closes ps h },
  subst (λ text. Whole IsJmlPart 3 text (tokens_at 3 ps)) (sym (without ps)) (whole ps 3 h),
)

pub comment_spelled : (ps : List Piece) → AreTokenTexts ps → Spells (comment ps) (tokens_at 3 ps)
comment_spelled ps h = record {
  parts = record {
    end = length (comment ps);
    leads = record {
      parts = comment_part ps ∷ [];
      reach = (omega arith, [], sym (append-nil (comment ps)), is_part ps h, (omega arith, refl));
      given = sym (append-nil (tokens_at 3 ps));
    };
  };
  plain = comment_plain ps h;
}
