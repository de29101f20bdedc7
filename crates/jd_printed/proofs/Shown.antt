-- What has a form is written with words: its tokens can be written.
use Rattle.std.proofs.Common.{◌≡◌, ℕ, List, [], ◌∷◌, ◌++◌, Bool, true, false, not, ◌&&◌, ◌||◌, nat_eq, Option, Some, None, codes, refl, sym, subst, true≢false, inl, inr}
use Rattle.std.specs.List.{list_all, list_any}
use Rattle.std.specs.Option.{is_some}
use Rattle.std.specs.Str.{bytes_eq}
use Rattle.std.specs.Str.Parse.{digits_value}
use Rattle.std.proofs.lemmas.Bool.{and_parts}
use Rattle.std.proofs.lemmas.List.Elements.{All-nil, All-cons, All-append}
use Rattle.jd_base.specs.declared.sort.Sort.{Sort}
use Rattle.jd_base.specs.declared.sort.Sort.TheVariants.{Int as IntSort, Bool as BoolSort, Ref as RefSort, Heap as HeapSort, Field as FieldSort}
use Rattle.jd_syntax.specs.Sxs.{Bracketed, BracketedList, Atom, Brackets, NoneBracketed, BracketedThen}
use Rattle.jd_bracketed.specs.Bytes.{is_word_byte}
use Rattle.jd_bracketed.specs.Texts.{AllOfWords}
use Rattle.jd_bracketed.specs.Tokens.{Open, Close, Word}
use Rattle.jd_bracketed.specs.Trees.{spell, spell_all}
use Rattle.jd_written.specs.Written.{IsWritable, AllWritable}
use Rattle.jd_written.proofs.Integers.{integer_word}
use Rattle.jd_tgrammar.specs.Words.{sort_word, array_word}
use Rattle.jd_tforms.specs.Forms as places
use Rattle.jd_tforms.specs.Forms.{Place, Form, forms}
use Rattle.jd_tforms.specs.HasForm.{has_form, have_forms, word_fits}
use Rattle.jd_tforms.specs.Naming.{sort_of_word}
use Rattle.jd_tforms.specs.Shapes.{is_digit, is_empty, is_name, is_name_byte, is_natural, bound_number, integer_of, label_of, loop_of, natural_of, number_of, narrow, wide}
use Rattle.jd_tforms.proofs.Somes.{chained, guarded, same_bytes}
use Rattle.jd_tforms.proofs.Words.{integer_is, sort_is}
use Rattle.jd_printed.proofs.Bytes.{all_digits, all_of, all_of_name, digit_byte, same_byte}

-- ---- words

abbrev IsShown : List ℕ → Type 0
IsShown w = IsWritable (Word w)

or_then : {P : Type 0} (x y : Bool) → (x || y) ≡ true → (x ≡ true → P) → (y ≡ true → P) → P
or_then true y h f g = f refl
or_then false y h f g = g h

some_then : {A P : Type 0} (o : Option A) → is_some o ≡ true → ((x : A) → o ≡ Some x → P) → P
some_then None h f = absurd (true≢false (sym h))
some_then (Some x) h f = f x refl

plain : (b : ℕ) (bs : List ℕ) → AllOfWords (b ∷ bs) → IsShown (b ∷ bs)
plain b bs all = inr record { some = λ e. absurd cc; parts = all }

name_shown : (w : List ℕ) → is_name w ≡ true → IsShown w
name_shown [] h = absurd (true≢false (sym h))
name_shown (b ∷ bs) h = plain b bs (all_of_name (b ∷ bs) (and_parts (not (is_digit b)) (list_all is_name_byte (b ∷ bs)) h).1)

natural_digits : (w : List ℕ) (n : ℕ) → natural_of w ≡ Some n → AllOfWords w
natural_digits [] n e = tt
natural_digits (b ∷ bs) n e =
    let h = guarded (is_natural (b ∷ bs)) (Some (digits_value 10 (b ∷ bs))) n e in
    let g = and_parts (is_digit b && list_all is_digit bs) (not (nat_eq b 48) || is_empty bs) h.0 in
    let k = and_parts (is_digit b) (list_all is_digit bs) g.0 in
    (digit_byte b k.0, all_digits bs k.1)

loop_digits : (w : List ℕ) (n : ℕ) → loop_of w ≡ Some n → AllOfWords w
loop_digits w n e = let h = chained _ (natural_of w) n e in natural_digits w h.0 h.1

number_digits : (w : List ℕ) (n : ℕ) → number_of w ≡ Some n → AllOfWords w
number_digits w n e = let h = chained _ (natural_of w) n e in natural_digits w h.0 h.1

loop_shown : (w : List ℕ) (n : ℕ) → loop_of w ≡ Some n → IsShown w
loop_shown [] n e = absurd cc
loop_shown (b ∷ bs) n e = plain b bs (loop_digits (b ∷ bs) n e)

signed_shown : (sign b : ℕ) (bs : List ℕ) → is_word_byte sign ≡ true → nat_eq b sign ≡ true → AllOfWords bs → IsShown (b ∷ bs)
signed_shown sign b bs is same all = plain b bs (subst (λ c. is_word_byte c ≡ true) (sym (same_number b sign same)) is, all)
  where
    same_number : (m n : ℕ) → nat_eq m n ≡ true → m ≡ n
    same_number m n e = same_byte m n e

bound_shown : (w : List ℕ) (n : ℕ) → bound_number w ≡ Some n → IsShown w
bound_shown [] n e = absurd cc
bound_shown (b ∷ bs) n e = let h = guarded (nat_eq b 37) (loop_of bs) n e in signed_shown 37 b bs refl h.0 (loop_digits bs n h.1)

label_shown : (w : List ℕ) (n : ℕ) → label_of w ≡ Some n → IsShown w
label_shown [] n e = absurd cc
label_shown (b ∷ bs) n e = let h = guarded (nat_eq b 108) (number_of bs) n e in signed_shown 108 b bs refl h.0 (number_digits bs n h.1)

fixed : (b : ℕ) (bs : List ℕ) → list_all is_word_byte (b ∷ bs) ≡ true → IsShown (b ∷ bs)
fixed b bs h = plain b bs (all_of is_word_byte (λ c is. is) (b ∷ bs) h)

listed : (v w : List ℕ) → IsShown v → bytes_eq v w ≡ true → IsShown w
listed v w h e = subst IsShown (same_bytes v w e) h

integer_shown : (limit : ℕ) (w : List ℕ) → is_some (integer_of limit w) ≡ true → IsShown w
integer_shown limit w h = some_then (integer_of limit w) h (λ z is. subst IsShown (integer_is limit w z is) (integer_word z))

sort_shown : (s : Sort) → IsShown (sort_word s)
sort_shown IntSort = fixed _ _ refl
sort_shown BoolSort = fixed _ _ refl
sort_shown RefSort = fixed _ _ refl
sort_shown HeapSort = fixed _ _ refl
sort_shown FieldSort = fixed _ _ refl

-- ---- places

-- the words that stand in the forms are words
abbrev proper_place : Place → Bool
proper_place (places.WordPlace []) = false
proper_place (places.WordPlace (b ∷ bs)) = list_all is_word_byte (b ∷ bs)
proper_place _ = true

abbrev proper_rest : Option Place → Bool
proper_rest None = true
proper_rest (Some p) = proper_place p

abbrev proper_form : Form → Bool
proper_form f = list_all proper_place f.parts && proper_rest f.rest

forms_proper : (p : Place) → list_all proper_form (forms p) ≡ true
forms_proper places.TermPlace = refl
forms_proper places.LocPlace = refl
forms_proper places.FormulaPlace = refl
forms_proper places.ExprPlace = refl
forms_proper places.StmtPlace = refl
forms_proper places.CodePlace = refl
forms_proper places.PairsPlace = refl
forms_proper places.PairPlace = refl
forms_proper places.ArrayPlace = refl
forms_proper places.SortPlace = refl
forms_proper places.KindPlace = refl
forms_proper places.NamePlace = refl
forms_proper places.ResultPlace = refl
forms_proper places.LoopPlace = refl
forms_proper places.LabelPlace = refl
forms_proper (places.WordPlace v) = refl

word_shown : (p : Place) (w : List ℕ) → proper_place p ≡ true → word_fits p w ≡ true → IsShown w
word_shown places.TermPlace w proper h =
    or_then (is_some (integer_of wide w) || is_name w) (is_some (bound_number w)) h
    (λ h. or_then (is_some (integer_of wide w)) (is_name w) h (integer_shown wide w) (name_shown w))
    (λ h. some_then (bound_number w) h (bound_shown w))
word_shown places.LocPlace w proper h = or_then (bytes_eq (codes "none") w) (bytes_eq (codes "all") w) h (listed (codes "none") w (fixed _ _ refl)) (listed (codes "all") w (fixed _ _ refl))
word_shown places.FormulaPlace w proper h = or_then (bytes_eq (codes "true") w) (bytes_eq (codes "false") w) h (listed (codes "true") w (fixed _ _ refl)) (listed (codes "false") w (fixed _ _ refl))
word_shown places.ExprPlace w proper h = or_then (is_some (integer_of narrow w)) (is_name w) h (integer_shown narrow w) (name_shown w)
word_shown places.StmtPlace w proper h = absurd (true≢false (sym h))
word_shown places.CodePlace w proper h = absurd (true≢false (sym h))
word_shown places.PairsPlace w proper h = absurd (true≢false (sym h))
word_shown places.PairPlace w proper h = absurd (true≢false (sym h))
word_shown places.ArrayPlace w proper h = absurd (true≢false (sym h))
word_shown places.SortPlace w proper h = some_then (sort_of_word w) h (λ s is. subst IsShown (sort_is w s is) (sort_shown s))
word_shown places.KindPlace w proper h = or_then (bytes_eq array_word w) (is_name w) h (listed array_word w (inl refl)) (name_shown w)
word_shown places.NamePlace w proper h = name_shown w h
word_shown places.ResultPlace w proper h = or_then (bytes_eq (codes "-") w) (is_name w) h (listed (codes "-") w (fixed _ _ refl)) (name_shown w)
word_shown places.LoopPlace w proper h = some_then (loop_of w) h (loop_shown w)
word_shown places.LabelPlace w proper h = some_then (label_of w) h (label_shown w)
word_shown (places.WordPlace []) w proper h = absurd (true≢false (sym proper))
word_shown (places.WordPlace (b ∷ bs)) w proper h = listed (b ∷ bs) w (fixed b bs proper) h

-- ---- expressions

any_then : {A P : Type 0} (test good : A → Bool) (xs : List A) → list_all good xs ≡ true → list_any test xs ≡ true → ((x : A) → good x ≡ true → test x ≡ true → P) → P
any_then test good [] all h f = absurd (true≢false (sym h))
any_then {A} {P} test good (x ∷ xs) all h f =
    let g = and_parts (good x) (list_all good xs) all in
    or_then (test x) (list_any test xs) h (f x g.0) (λ h. any_then test good xs g.1 h f)

in_brackets : (xs : BracketedList) → AllWritable (spell_all xs) → AllWritable (spell (Brackets xs))
in_brackets xs h =
    All-cons IsWritable Open (spell_all xs ++ Close ∷ []) tt
    (All-append IsWritable (spell_all xs) (Close ∷ []) h (All-cons IsWritable Close [] tt (All-nil IsWritable)))

mutual
  pub shown : (x : Bracketed) (p : Place) → proper_place p ≡ true → has_form x p ≡ true → AllWritable (spell x)
  shown (Atom w) p proper h = All-cons IsWritable (Word w) [] (word_shown p w proper h) (All-nil IsWritable)
  shown (Brackets xs) p proper h =
      any_then (λ (f : Form). have_forms xs f.parts f.rest) proper_form (forms p) (forms_proper p) h
      (λ f good is. let g = and_parts (list_all proper_place f.parts) (proper_rest f.rest) good in in_brackets xs (all_shown xs f.parts f.rest g.0 g.1 is))

  all_shown : (xs : BracketedList) (ps : List Place) (rest : Option Place) → list_all proper_place ps ≡ true → proper_rest rest ≡ true → have_forms xs ps rest ≡ true → AllWritable (spell_all xs)
  all_shown NoneBracketed ps rest all more h = All-nil IsWritable
  all_shown (BracketedThen x xs) [] None all more h = absurd (true≢false (sym h))
  all_shown (BracketedThen x xs) [] (Some p) all more h =
      let g = and_parts (has_form x p) (have_forms xs [] (Some p)) h in
      All-append IsWritable (spell x) (spell_all xs) (shown x p more g.0) (all_shown xs [] (Some p) refl more g.1)
  all_shown (BracketedThen x xs) (p ∷ ps) rest all more h =
      let g = and_parts (has_form x p) (have_forms xs ps rest) h in
      let k = and_parts (proper_place p) (list_all proper_place ps) all in
      All-append IsWritable (spell x) (spell_all xs) (shown x p k.0 g.0) (all_shown xs ps rest k.1 more g.1)
