-- The tokens that a text spells are those that are read.
use Rattle.std.proofs.Common.{◌≡◌, inl, inr, ℕ, zero, suc, ◌+◌, List, [], ◌∷◌, ◌++◌, length, take, drop, Bool, true, false, cond, ◌==◌, refl, sym, ap, subst, ◌∙◌, arith}
use Rattle.std.proofs.lemmas.List.{append-nil, take-append-drop, length-take-le}
use Rattle.std.proofs.Math.Seq.{take-append_seam, drop-append_seam}
use Rattle.std.specs.Prelude.{nat_lt}
use Rattle.jd_bracketed.specs.Bytes.{class_in, is_part, is_word_byte}
use Rattle.jd_bracketed.specs.Tokens.{TokenKind, Open, Close, OpenSquare, CloseSquare, Word, Bad, Placed, kind_alone, array_type, word_more, turn, tokens_behind, tokens_from}
use Rattle.jd_bracketed.specs.Texts.{if_between, IsGap, IsWord, IsAlone, IsText, Spells}
use Rattle.jd_bracketed.specs.declared.class.Class.{Class}
use Rattle.jd_bracketed.specs.declared.class.Class.TheVariants.{Blank, InComment, Alone, Part}
use Rattle.jd_bracketed.proofs.Passing.{passes, turned}
use Rattle.jd_bracketed.proofs.Words.{run_more, array_more, head_word}

-- ---- what is spelled is read

between_step : (before behind : Bool) (b at : ℕ) (gap rest : List ℕ) (found : List Placed) (k : Class) → class_in before b ≡ k
    → if_between k (IsGap false gap behind) (IsGap true gap behind)
    → (IsGap false gap behind → tokens_from false (suc at) (gap ++ rest) ≡ found) → (IsGap true gap behind → tokens_from true (suc at) (gap ++ rest) ≡ found)
    → tokens_from before at (b ∷ (gap ++ rest)) ≡ found
between_step before behind b at gap rest found Blank e h f g = turned before at b (gap ++ rest) Blank e ∙ f h
between_step before behind b at gap rest found InComment e h f g = turned before at b (gap ++ rest) InComment e ∙ g h
between_step before behind b at gap rest found Alone e h f g = absurd h
between_step before behind b at gap rest found Part e h f g = absurd h

gap_passed : (gap : List ℕ) (before behind : Bool) (at : ℕ) (rest : List ℕ) → IsGap before gap behind → tokens_from before at (gap ++ rest) ≡ tokens_from behind (at + length gap) rest
gap_passed [] before behind at rest h = ap (λ c. tokens_from c at rest) h ∙ ap (λ n. tokens_from behind n rest) (omega arith)
gap_passed (b ∷ gap) before behind at rest h =
    let further : tokens_from behind (suc at + length gap) rest ≡ tokens_from behind (at + length (b ∷ gap)) rest = ap (λ n. tokens_from behind n rest) (omega arith) in
    between_step before behind b at gap rest (tokens_from behind (at + length (b ∷ gap)) rest) (class_in before b) refl h
    (λ k. gap_passed gap false behind (suc at) rest k ∙ further) (λ k. gap_passed gap true behind (suc at) rest k ∙ further)

part_of : (k : Class) → is_part k ≡ true → k ≡ Part
part_of Blank e = absurd cc
part_of InComment e = absurd cc
part_of Alone e = absurd cc
part_of Part e = refl

alone_read : (c : Bool) (kind : TokenKind) (text rest : List ℕ) (at : ℕ) → IsAlone c kind text → tokens_from c at (text ++ rest) ≡ (kind, at) ∷ tokens_from c (at + length text) rest
alone_read c kind text rest at a =
    ap (λ w. tokens_from c at (w ++ rest)) a.is
    ∙ (turned c at a.byte rest Alone a.alone
    ∙ (ap (λ k. (k, at) ∷ tokens_from c (suc at) rest) a.kind_is
    ∙ ap (λ n. (kind, at) ∷ tokens_from c n rest) (omega (arith, ap length a.is))))

-- where a byte of words stands at the head, and so many bytes of the word follow
word_so : (b : ℕ) (w rest : List ℕ) (at : ℕ) → is_word_byte b ≡ true → word_more (b ∷ (w ++ rest)) ≡ length w
    → tokens_from false at (b ∷ (w ++ rest)) ≡ (Word (b ∷ w), at) ∷ tokens_from false (at + length (b ∷ w)) rest
word_so b w rest at part more =
    turned false at b (w ++ rest) Part (part_of (class_in false b) part)
    ∙ (ap (λ n. (Word (b ∷ take n (w ++ rest)), at) ∷ tokens_behind n false (suc at) (w ++ rest)) more
    ∙ (ap (λ u. (Word (b ∷ u), at) ∷ tokens_behind (length w) false (suc at) (w ++ rest)) (take-append_seam w rest)
    ∙ (ap (λ ts. (Word (b ∷ w), at) ∷ ts) (passes (length w) false (suc at) (w ++ rest))
    ∙ (ap (λ bs. (Word (b ∷ w), at) ∷ tokens_from false (suc at + length w) bs) (drop-append_seam w rest)
    ∙ ap (λ n. (Word (b ∷ w), at) ∷ tokens_from false n rest) (omega arith)))))

word_read : (w rest : List ℕ) (at : ℕ) → IsWord w rest → tokens_from false at (w ++ rest) ≡ (Word w, at) ∷ tokens_from false (at + length w) rest
word_read [] rest at (inl e) = absurd cc
word_read [] rest at (inr r) = absurd (r.some refl)
word_read (b ∷ w) rest at (inl e) = word_so b w rest at (ap (is_word_byte) (head_is b w e)) (array_more b w rest e)
  where
    head_is : (b : ℕ) (w : List ℕ) → b ∷ w ≡ array_type → b ≡ 105
    head_is b w e = cc
word_read (b ∷ w) rest at (inr r) = word_so b w rest at r.parts.0 (run_more b w rest r)

text_read : (c : Bool) (kind : TokenKind) (text rest : List ℕ) (at : ℕ) → IsText c kind text rest → tokens_from c at (text ++ rest) ≡ (kind, at) ∷ tokens_from c (at + length text) rest
text_read c (Word w) text rest at (out, is, word) =
    ap (λ k. tokens_from k at (text ++ rest)) out
    ∙ (ap (λ u. tokens_from false at (u ++ rest)) is
    ∙ (word_read w rest at word
    ∙ (ap (λ u. (Word w, at) ∷ tokens_from false (at + length u) rest) (sym is)
    ∙ ap (λ k. (Word w, at) ∷ tokens_from k (at + length text) rest) (sym out))))
text_read c Open text rest at a = alone_read c Open text rest at a
text_read c Close text rest at a = alone_read c Close text rest at a
text_read c OpenSquare text rest at a = alone_read c OpenSquare text rest at a
text_read c CloseSquare text rest at a = alone_read c CloseSquare text rest at a
text_read c Bad text rest at a = alone_read c Bad text rest at a

pub read_so : (tokens : List Placed) (c : Bool) (at : ℕ) (bytes : List ℕ) → Spells tokens c at bytes → tokens_from c at bytes ≡ tokens
unfolding tokens_behind
read_so [] c at bytes (behind, gap) = ap (λ bs. tokens_from c at bs) (sym (append-nil bytes)) ∙ gap_passed bytes c behind at [] gap
read_so (p ∷ ps) c at bytes (gap, text, rest, inside, is, between, here, token, more) =
    ap (λ bs. tokens_from c at bs) is
    ∙ (gap_passed gap c inside at (text ++ rest) between
    ∙ (ap (λ n. tokens_from inside n (text ++ rest)) (sym here)
    ∙ (text_read inside p.0 text rest p.1 token
    ∙ ap (λ qs. (p.0, p.1) ∷ qs) (read_so ps inside (p.1 + length text) rest more))))

-- ---- what is read is spelled

gap_more : (tokens : List Placed) (c inside : Bool) (at b : ℕ) (bytes : List ℕ)
    → ((gap : List ℕ) (behind : Bool) → IsGap inside gap behind → IsGap c (b ∷ gap) behind) → Spells tokens inside (suc at) bytes → Spells tokens c at (b ∷ bytes)
gap_more [] c inside at b bytes longer (behind, gap) = (behind, longer bytes behind gap)
gap_more (p ∷ ps) c inside at b bytes longer (gap, text, rest, before, is, between, here, token, more) =
    (b ∷ gap, text, rest, before, ap (λ bs. b ∷ bs) is, longer gap before between, omega (arith, here), token, more)

outside : (c : Bool) (b : ℕ) → class_in c b ≡ Part → c ≡ false
outside false b e = refl
outside true b e = by_tests (b == 10) (nat_lt 127 b) e
  where
    by_tests : (s t : Bool) → cond s Blank (cond t Alone InComment) ≡ Part → true ≡ false
    by_tests true t e = absurd cc
    by_tests false true e = absurd cc
    by_tests false false e = absurd cc

alone_text : (c : Bool) (b : ℕ) (rest : List ℕ) → class_in c b ≡ Alone → IsText c (kind_alone b) (b ∷ []) rest
alone_text c b rest e = by_kind (kind_alone b) refl
  where
    by_kind : (k : TokenKind) → kind_alone b ≡ k → IsText c k (b ∷ []) rest
    by_kind Open h = record { byte = b; is = refl; alone = e; kind_is = h }
    by_kind Close h = record { byte = b; is = refl; alone = e; kind_is = h }
    by_kind OpenSquare h = record { byte = b; is = refl; alone = e; kind_is = h }
    by_kind CloseSquare h = record { byte = b; is = refl; alone = e; kind_is = h }
    by_kind Bad h = record { byte = b; is = refl; alone = e; kind_is = h }
    by_kind (Word w) h = absurd (no_word (b == 40) (b == 41) (b == 91) (b == 93) h)
      where
        no_word : (p q r s : Bool) → cond p Open (cond q Close (cond r OpenSquare (cond s CloseSquare Bad))) ≡ Word w → ⊥
        no_word true q r s e = absurd cc
        no_word false true r s e = absurd cc
        no_word false false true s e = absurd cc
        no_word false false false true e = absurd cc
        no_word false false false false e = absurd cc

-- a token at the head, with what is spelled behind it
abbrev Behind : List ℕ → Type 0
Behind bytes = (more : ℕ) (c : Bool) (at : ℕ) → Spells (tokens_behind more c at bytes) c (at + more) (drop more bytes)

spelled_step : (c : Bool) (at b : ℕ) (bytes : List ℕ) (k : Class) → class_in c b ≡ k → Behind bytes
    → Spells ((turn c at b bytes k).0 ++ tokens_behind (turn c at b bytes k).1 (turn c at b bytes k).2 (suc at) bytes) c at (b ∷ bytes)
spelled_step c at b bytes Blank e so =
    gap_more (tokens_from false (suc at) bytes) c false at b bytes (λ gap behind g. subst (λ k. if_between k (IsGap false gap behind) (IsGap true gap behind)) (sym e) g)
    (subst (λ n. Spells (tokens_from false (suc at) bytes) false n bytes) (omega arith) (so 0 false (suc at)))
spelled_step c at b bytes InComment e so =
    gap_more (tokens_from true (suc at) bytes) c true at b bytes (λ gap behind g. subst (λ k. if_between k (IsGap false gap behind) (IsGap true gap behind)) (sym e) g)
    (subst (λ n. Spells (tokens_from true (suc at) bytes) true n bytes) (omega arith) (so 0 true (suc at)))
spelled_step c at b bytes Alone e so = (
  [],
  b ∷ [],
  bytes,
  c,
  refl,
  refl,
  omega arith,
  alone_text c b bytes e,
  subst (λ n. Spells (tokens_from c (suc at) bytes) c n bytes) (omega arith) (so 0 c (suc at)),
)
spelled_step c at b bytes Part e so =
    let n = word_more (b ∷ bytes) in
    let out = outside c b e in
    let head = head_word b bytes (ap is_part (sym (ap (λ k. class_in k b) out) ∙ e)) in (
      [],
      b ∷ take n bytes,
      drop n bytes,
      c,
      ap (λ bs. b ∷ bs) (sym (take-append-drop n bytes)),
      refl,
      omega arith,
      (out, refl, head.word),
      subst (λ m. Spells (tokens_behind n c (suc at) bytes) c m (drop n bytes)) (omega (arith, length-take-le n bytes head.within)) (so n c (suc at)),
    )

spelled : (bytes : List ℕ) → Behind bytes
unfolding tokens_behind
spelled [] zero c at = (c, refl)
spelled [] (suc more) c at = (c, refl)
spelled (b ∷ bytes) (suc more) c at = subst (λ n. Spells (tokens_behind more c (suc at) bytes) c n (drop more bytes)) (omega arith) (spelled bytes more c (suc at))
spelled (b ∷ bytes) zero c at =
    subst (λ n. Spells (tokens_behind zero c at (b ∷ bytes)) c n (b ∷ bytes)) (omega arith) (spelled_step c at b bytes (class_in c b) refl (spelled bytes))

pub all_spelled : (bytes : List ℕ) → Spells (tokens_from false 0 bytes) false 0 bytes
all_spelled bytes = spelled bytes 0 false 0
