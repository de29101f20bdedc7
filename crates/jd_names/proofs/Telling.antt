-- Variables, and names that tell their sort.
use Rattle.std.proofs.Common.{◌≡◌, ℕ, zero, suc, ◌<◌, Bool, true, false, not, cond, ◌&&◌, nat_eq, List, [], ◌∷◌, None, Some, option_map, refl, sym, ap, ap₂, ◌∙◌, inl, inr, true≢false, arith}
use Rattle.std.specs.List.{find, list_all, slice_get}
use Rattle.std.specs.Option.{option_and_then, option_or}
use Rattle.std.specs.Str.{bytes_eq}
use Rattle.std.proofs.lemmas.Bool.{and_parts, cases_Bool}
use Rattle.std.proofs.lemmas.Option.{none-some, same_Some}
use Rattle.jd_base.specs.declared.sort.Sort.{Sort}
use Rattle.jd_base.specs.declared.sort.Sort.TheVariants.{Int as IntSort, Bool as BoolSort, Ref as RefSort, Heap as HeapSort, Field as FieldSort}
use Rattle.jd_syntax.specs.Names.{Name}
use Rattle.jd_tgrammar.specs.NameTables.{NameTable}
use Rattle.jd_tforms.specs.Known.{IsVariable}
use Rattle.jd_tforms.specs.Naming.{constant_of, letter_sort, named, not_field, special_of, special_sort}
use Rattle.jd_tforms.specs.Shapes.{is_digit, is_name, is_name_byte, is_special_byte}
use Rattle.jd_tforms.proofs.Somes.{bytes_same, guarded, parted_by, same_bytes}
use Rattle.jd_names.specs.Identifiers.{AreVariables, is_variable_byte, is_variable_word}
use Rattle.jd_names.proofs.Letters.{all_of, same_byte, special_is_name, variable_word_is_name, where_name}

-- ---- names that tell their sort

at_letter : (b n : ℕ) → is_special_byte n ≡ true → nat_eq b n ≡ true → is_special_byte b ≡ true
at_letter b n special is = ap is_special_byte (same_byte b n is) ∙ special

letter_is_special : (b : ℕ) (s : Sort) → letter_sort b ≡ Some s → is_special_byte b ≡ true
letter_is_special b s e =
    parted_by (nat_eq b 105) (Some IntSort) (cond (nat_eq b 98) (Some BoolSort) (cond (nat_eq b 114) (Some RefSort) (cond (nat_eq b 104) (Some HeapSort) (cond (nat_eq b 102) (Some FieldSort) None)))) s e
    (λ is _. at_letter b 105 refl is)
    (λ _ e. parted_by (nat_eq b 98) (Some BoolSort) (cond (nat_eq b 114) (Some RefSort) (cond (nat_eq b 104) (Some HeapSort) (cond (nat_eq b 102) (Some FieldSort) None))) s e
    (λ is _. at_letter b 98 refl is)
    (λ _ e. parted_by (nat_eq b 114) (Some RefSort) (cond (nat_eq b 104) (Some HeapSort) (cond (nat_eq b 102) (Some FieldSort) None)) s e
    (λ is _. at_letter b 114 refl is)
    (λ _ e. parted_by (nat_eq b 104) (Some HeapSort) (cond (nat_eq b 102) (Some FieldSort) None) s e
    (λ is _. at_letter b 104 refl is)
    (λ _ e. at_letter b 102 refl (guarded (nat_eq b 102) (Some FieldSort) s e).0))))

told_is_name : (sign : ℕ) (w : List ℕ) (s : Sort) → not (is_digit sign) ≡ true → is_name_byte sign ≡ true → special_sort sign w ≡ Some s → is_name w ≡ true
told_is_name sign [] s starts byte e = absurd (none-some s e)
told_is_name sign (a ∷ []) s starts byte e = absurd (none-some s e)
told_is_name sign (a ∷ b ∷ bs) s starts byte e =
    let g = guarded (nat_eq a sign && list_all is_special_byte bs) (letter_sort b) s e in
    let both = and_parts (nat_eq a sign) (list_all is_special_byte bs) g.0 in
    let same = same_byte a sign both.0 in
    ap₂ (λ p q. p && q) (ap (λ n. not (is_digit n)) same ∙ starts)
    (ap₂ (λ p q. p && q) (ap is_name_byte same ∙ byte)
    (ap₂ (λ p q. p && q) (special_is_name b (letter_is_special b s g.1)) (all_of is_special_byte is_name_byte special_is_name bs both.1)))

pub special_known : (names : NameTable) (w : List ℕ) (s : Sort) → special_sort 64 w ≡ Some s → not_field s ≡ Some s → IsVariable names (named w s)
special_known names w s told kept =
    let others = find (λ (x : Name). bytes_eq x.text w) names.variables in
    let special : special_of w ≡ Some (named w s) = ap (λ o. option_map (named w) (option_and_then not_field o)) told ∙ ap (option_map (named w)) kept in
    where_name w (option_or (special_of w) others) (told_is_name 64 w s refl refl told) ∙ ap (λ o. option_or o others) special

pub constant_known : (w : List ℕ) (s : Sort) → special_sort 35 w ≡ Some s → constant_of w ≡ Some (named w s)
constant_known w s told =
    where_name w (option_map (named w) (special_sort 35 w)) (told_is_name 35 w s refl refl told) ∙ ap (option_map (named w)) told

-- ---- variables

no_sign : (b : ℕ) → is_variable_byte b ≡ true → nat_eq b 64 ≡ false
no_sign b h = elim (cases_Bool (nat_eq b 64)) [
  | inl at ↦ absurd (true≢false (sym h ∙ ap is_variable_byte (same_byte b 64 at)))
  | inr other ↦ other
]

tells_none : (w : List ℕ) → is_variable_word w ≡ true → special_sort 64 w ≡ None
tells_none [] h = refl
tells_none (a ∷ []) h = refl
tells_none (a ∷ b ∷ bs) h =
    let all = (and_parts (not (is_digit a)) (list_all is_variable_byte (a ∷ b ∷ bs)) h).1 in
    let first = (and_parts (is_variable_byte a) (list_all is_variable_byte (b ∷ bs)) all).0 in
    ap (λ t. cond (t && list_all is_special_byte bs) (letter_sort b) None) (no_sign a first)

find_one : {A : Type 0} (t : A → Bool) (xs : List A) (i : ℕ) (x : A) → slice_get xs i ≡ Some x → t x ≡ true → ((j : ℕ) (y : A) → j < i → slice_get xs j ≡ Some y → t y ≡ false) → find t xs ≡ Some x
find_one t [] i x there passes before = absurd (none-some x there)
find_one t (y ∷ ys) zero x there passes before = let same = same_Some y x there in ap (λ b. cond b (Some y) (find t ys)) (ap t same ∙ passes) ∙ ap Some same
find_one t (y ∷ ys) (suc i) x there passes before =
    ap (λ b. cond b (Some y) (find t ys)) (before 0 y (omega arith) refl) ∙ find_one t ys i x there passes (λ j z lt. before (suc j) z (omega (arith, lt)))

pub variable_known : (names : NameTable) → AreVariables names.variables → (i : ℕ) (x : Name) → slice_get names.variables i ≡ Some x → IsVariable names x
variable_known names are i x there =
    let word = are.words i x there in
    let w = x.text in
    let others = find (λ (y : Name). bytes_eq y.text w) names.variables in
    where_name w (option_or (special_of w) others) (variable_word_is_name w word)
    ∙ ap (λ o. option_or (option_map (named w) (option_and_then not_field o)) others) (tells_none w word)
    ∙ find_one (λ (y : Name). bytes_eq y.text w) names.variables i x there (bytes_same w) (λ j y lt at. elim (cases_Bool (bytes_eq y.text w)) [
      | inl same ↦ absurd (are.apart j i y x lt at there (same_bytes y.text w same))
      | inr other ↦ other
    ])
