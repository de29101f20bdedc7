-- No two sequents have one text: no line of it has a line feed inside.
use Rattle.std.proofs.Common.{◌≡◌, ◌≢◌, ℕ, ◌+◌, List, [], ◌∷◌, ◌++◌, Bool, true, false, cond, ◌||◌, codes, refl, sym, ap, ap₂, ◌∙◌, subst, true≢false, inl, inr, arith, append_assoc}
use Rattle.std.specs.List.{AllByRecursion}
use Rattle.std.proofs.lemmas.List.{append-nil, append_cancel_left}
use Rattle.std.proofs.lemmas.List.Elements.{All-head, All-tail}
use Rattle.jd_bracketed.specs.Bytes.{is_word_byte}
use Rattle.jd_bracketed.specs.Texts.{AllOfWords}
use Rattle.jd_bracketed.specs.Tokens.{TokenKind, Open, Close, OpenSquare, CloseSquare, Word, Bad, array_type}
use Rattle.jd_bracketed.specs.Trees.{spell}
use Rattle.jd_written.specs.Written.{IsWritable, AllWritable, closes, gap, number_text, opens, text_from, token_text}
use Rattle.jd_term.specs.Formulas.{PlainFormula}
use Rattle.jd_model.specs.Sequents.{PlainSequent}
use Rattle.jd_tgrammar.specs.NameTables.{NameTable}
use Rattle.jd_tgrammar.specs.Spelling.{formula_text}
use Rattle.jd_sequent_print.specs.Lines.{line, lines, sequent_text}
use Rattle.jd_printed.specs.Laws.{IsSpelledFormula, IsSpelledSequent, printed}

-- ---- no line feed

abbrev NoFeed : List ℕ → Type 0
NoFeed w = AllByRecursion (λ b. b ≢ 10) w

feed_more : (v w : List ℕ) → NoFeed v → NoFeed w → NoFeed (v ++ w)
feed_more [] w h k = k
feed_more (b ∷ bs) w h k = (h.0, feed_more bs w h.1 k)

words_no_feed : (w : List ℕ) → AllOfWords w → NoFeed w
words_no_feed [] h = tt
words_no_feed (b ∷ bs) h = ((λ e. true≢false (sym h.0 ∙ ap is_word_byte e)), words_no_feed bs h.1)

other : (b : ℕ) → is_word_byte b ≡ true → NoFeed (b ∷ [])
other b h = words_no_feed (b ∷ []) (h, tt)

apart : (b : ℕ) → b ≢ 10 → NoFeed (b ∷ [])
apart b n = (n, tt)

array_no_feed : NoFeed array_type
array_no_feed = ((λ e. absurd cc), ((λ e. absurd cc), ((λ e. absurd cc), ((λ e. absurd cc), ((λ e. absurd cc), tt)))))

token_no_feed : (t : TokenKind) → IsWritable t → NoFeed (token_text t)
token_no_feed Open h = ((λ e. absurd cc), tt)
token_no_feed Close h = ((λ e. absurd cc), tt)
token_no_feed OpenSquare h = ((λ e. absurd cc), tt)
token_no_feed CloseSquare h = ((λ e. absurd cc), tt)
token_no_feed (Word w) (inl e) = subst NoFeed (sym e) array_no_feed
token_no_feed (Word w) (inr h) = words_no_feed w h.parts
token_no_feed Bad h = absurd h

gap_no_feed : (b : Bool) → NoFeed (cond b [] (codes " "))
gap_no_feed true = tt
gap_no_feed false = ((λ e. absurd cc), tt)

text_no_feed : (tight : Bool) (ts : List TokenKind) → AllWritable ts → NoFeed (text_from tight ts)
text_no_feed tight [] h = tt
text_no_feed tight (t ∷ ts) h =
    feed_more (gap tight t) (token_text t ++ text_from (opens t) ts) (gap_no_feed (tight || closes t))
    (feed_more (token_text t) (text_from (opens t) ts) (token_no_feed t (All-head IsWritable t ts h)) (text_no_feed (opens t) ts (All-tail IsWritable t ts h)))

-- ---- the first line feed

heads : (a b : ℕ) (v w : List ℕ) → a ∷ v ≡ b ∷ w → a ≡ b
heads a b v w e = cc

tails : (a b : ℕ) (v w : List ℕ) → a ∷ v ≡ b ∷ w → v ≡ w
tails a b v w e = cc

up_to_feed : (v w r s : List ℕ) → NoFeed v → NoFeed w → v ++ 10 ∷ r ≡ w ++ 10 ∷ s → (v ≡ w) × (r ≡ s)
up_to_feed [] [] r s h k e = (refl, tails 10 10 r s e)
up_to_feed [] (b ∷ w) r s h k e = absurd (k.0 (sym (heads 10 b r (w ++ 10 ∷ s) e)))
up_to_feed (a ∷ v) [] r s h k e = absurd (h.0 (heads a 10 (v ++ 10 ∷ r) s e))
up_to_feed (a ∷ v) (b ∷ w) r s h k e =
    let more = up_to_feed v w r s h.1 k.1 (tails a b (v ++ 10 ∷ r) (w ++ 10 ∷ s) e) in
    (ap₂ (λ c u. c ∷ u) (heads a b (v ++ 10 ∷ r) (w ++ 10 ∷ s) e) more.0, more.1)

-- ---- lines

module _ (names : NameTable) (words : (a : PlainFormula) → IsSpelledFormula names a → AllWritable (spell (formula_text names a)))
    (one : (a b : PlainFormula) → IsSpelledFormula names a → IsSpelledFormula names b → printed (formula_text names a) ≡ printed (formula_text names b) → a ≡ b) where
  -- a line and what stands behind it
  in_parts : (letter i : ℕ) (a : PlainFormula) (more : List ℕ) → line names letter i a ++ more ≡ letter ∷ (number_text i ++ 32 ∷ (printed (formula_text names a) ++ 10 ∷ more))
  in_parts letter i a more =
      ap (λ w. letter ∷ w) (append_assoc (number_text i) (32 ∷ (printed (formula_text names a) ++ 10 ∷ [])) more
      ∙ ap (λ w. number_text i ++ 32 ∷ w) (append_assoc (printed (formula_text names a)) (10 ∷ []) more))

  same_line : (letter i : ℕ) (a b : PlainFormula) (r s : List ℕ) → IsSpelledFormula names a → IsSpelledFormula names b → line names letter i a ++ r ≡ line names letter i b ++ s → (a ≡ b) × (r ≡ s)
  same_line letter i a b r s h k e =
      let v = printed (formula_text names a) in
      let w = printed (formula_text names b) in
      let both = sym (in_parts letter i a r) ∙ (e ∙ in_parts letter i b s) in
      let behind = append_cancel_left (number_text i) (32 ∷ (v ++ 10 ∷ r)) (32 ∷ (w ++ 10 ∷ s)) (tails letter letter _ _ both) in
      let texts = up_to_feed v w r s (text_no_feed true (spell (formula_text names a)) (words a h)) (text_no_feed true (spell (formula_text names b)) (words b k)) (tails 32 32 _ _ behind) in
      (one a b h k texts.0, texts.1)

  -- what stands behind the lines of a side begins with no such letter
  abbrev BeginsOther : ℕ → List ℕ → Type 0
  BeginsOther letter w = (more : List ℕ) → w ≡ letter ∷ more → ⊥

  more_lines : (letter i : ℕ) (a : PlainFormula) (fs : List PlainFormula) (r : List ℕ) → lines names letter i (a ∷ fs) ++ r ≡ line names letter i a ++ (lines names letter (i + 1) fs ++ r)
  more_lines letter i a fs r = append_assoc (line names letter i a) (lines names letter (i + 1) fs) r

  same_lines : (letter i : ℕ) (fs gs : List PlainFormula) (r s : List ℕ) → BeginsOther letter r → BeginsOther letter s → AllByRecursion (IsSpelledFormula names) fs → AllByRecursion (IsSpelledFormula names) gs
      → lines names letter i fs ++ r ≡ lines names letter i gs ++ s → (fs ≡ gs) × (r ≡ s)
  same_lines letter i [] [] r s nr ns h k e = (refl, e)
  same_lines letter i [] (g ∷ gs) r s nr ns h k e = absurd (nr _ (e ∙ (more_lines letter i g gs s ∙ in_parts letter i g (lines names letter (i + 1) gs ++ s))))
  same_lines letter i (f ∷ fs) [] r s nr ns h k e = absurd (ns _ (sym e ∙ (more_lines letter i f fs r ∙ in_parts letter i f (lines names letter (i + 1) fs ++ r))))
  same_lines letter i (f ∷ fs) (g ∷ gs) r s nr ns h k e =
      let here = same_line letter i f g (lines names letter (i + 1) fs ++ r) (lines names letter (i + 1) gs ++ s) h.0 k.0 (sym (more_lines letter i f fs r) ∙ (e ∙ more_lines letter i g gs s)) in
      let more = same_lines letter (i + 1) fs gs r s nr ns h.1 k.1 here.1 in
      (ap₂ (λ x xs. x ∷ xs) here.0 more.0, more.1)

  right_begins : (gs : List PlainFormula) → BeginsOther 76 (lines names 82 1 gs)
  right_begins [] more e = absurd cc
  right_begins (g ∷ gs) more e = let same : 82 ≡ 76 = heads 82 76 _ more e in omega (arith, same)

  nothing_begins : (letter : ℕ) → BeginsOther letter []
  nothing_begins letter more e = absurd cc

  pub one_sequent : (s t : PlainSequent) → IsSpelledSequent names s → IsSpelledSequent names t → sequent_text names s ≡ sequent_text names t → s ≡ t
  one_sequent s t h k e =
      let left = same_lines 76 1 s.left t.left (lines names 82 1 s.right) (lines names 82 1 t.right) (right_begins s.right) (right_begins t.right) h.left k.left e in
      let right = same_lines 82 1 s.right t.right [] [] (nothing_begins 82) (nothing_begins 82) h.right k.right (append-nil (lines names 82 1 s.right) ∙ (left.1 ∙ sym (append-nil (lines names 82 1 t.right)))) in
      ap₂ (λ (l r : List PlainFormula). let q : PlainSequent = record { left = l; right = r } in q) left.0 right.0
