-- The words of variables, literals and constants of parameters.
use Rattle.std.proofs.Common.{List, None, Some, [], ap, ap₂, arith, cond, false, inl, inr, int_le, nat_eq, not, option_map, refl, sym, true, true≢false, ◌&&◌, ◌||◌, ◌∙◌, ◌∷◌, ◌≡◌, ◌≤◌, ℕ, ℤ, Bool, pos, negsuc}
use Rattle.std.proofs.lemmas.Int.{ints}
use Rattle.std.specs.List.{find, list_all}
use Rattle.std.specs.Option.{option_and_then, option_or}
use Rattle.std.specs.Prelude.{codes}
use Rattle.std.specs.Str.{bytes_eq}
use Rattle.std.specs.Str.Parse.{digits_value}
use Rattle.std.proofs.lemmas.Bool.{and_parts, cases_Bool, cond-true, lt-ltb, ltb-true, ne_eqb}
use Rattle.std.proofs.lemmas.Option.{none-some}
use Rattle.jd_base.specs.declared.sort.Sort.{Sort}
use Rattle.jd_base.specs.declared.sort.Sort.TheVariants as sorts
use Rattle.jd_bodies.specs.declared.value.ValueType.{ValueType}
use Rattle.jd_bodies.specs.declared.value.ValueType.TheVariants as types
use Rattle.jd_bodies.specs.Variables.{sort_of}
use Rattle.jd_model.specs.Tables.{parameter_constant, source_name}
use Rattle.jd_model.specs.WellFormedHeaps.{in_int}
use Rattle.jd_names.proofs.Letters.{all_of, java_bytes, same_byte, variable_word_is_name, where_name}
use Rattle.jd_names.specs.Identifiers.{is_java_byte, is_variable_byte, is_variable_word}
use Rattle.jd_names.specs.Laws.{NamesAreKnown}
use Rattle.jd_spelled_trees.proofs.Numerals.{integer_is_read, signed_begins}
use Rattle.jd_syntax.specs.Codes as code
use Rattle.jd_syntax.specs.Names.{Name}
use Rattle.jd_tforms.proofs.Somes.{chained, guarded}
use Rattle.jd_tforms.specs.Known.{ExprKnown, IsVariable}
use Rattle.jd_tforms.specs.Naming.{constant_of, if_word, letter_sort, named, not_field, special_of, special_sort, variable_of, word_expr}
use Rattle.jd_tforms.specs.Shapes.{integer_of, is_below, is_digit, is_empty, is_special_byte, minus, narrow, natural_of, signed_of, wide}
use Rattle.jd_tforms.specs.Sorted.{is_value}
use Rattle.jd_tgrammar.specs.NameTables.{NameTable}
use Rattle.jd_variable_words.specs.Words.{IsWord, is_literal_word}
use Rattle.jd_written.specs.Written.{integer_text}

turned : (b : Bool) → not b ≡ true → b ≡ false
turned true e = absurd (true≢false (sym e))
turned false e = refl

neither : (a b : Bool) → (a || b) ≡ false → (a ≡ false) × (b ≡ false)
neither true b e = absurd (true≢false e)
neither false b e = (refl, e)

-- ---- variables

no_byte : (b n : ℕ) → is_variable_byte n ≡ false → is_variable_byte b ≡ true → nat_eq b n ≡ false
no_byte b n none h = elim (cases_Bool (nat_eq b n)) [
  | inl same ↦ absurd (true≢false (sym h ∙ ap is_variable_byte (same_byte b n same) ∙ none))
  | inr other ↦ other
]

first_byte : (b : ℕ) (bs : List ℕ) → is_variable_word (b ∷ bs) ≡ true → (is_digit b ≡ false) × (is_variable_byte b ≡ true)
first_byte b bs h =
    let both = and_parts (not (is_digit b)) (list_all is_variable_byte (b ∷ bs)) h in
    (turned (is_digit b) both.0, (and_parts (is_variable_byte b) (list_all is_variable_byte bs) both.1).0)

pub no_sign : (sign : ℕ) (w : List ℕ) → is_variable_byte sign ≡ false → is_variable_word w ≡ true → special_sort sign w ≡ None
no_sign sign [] none h = refl
no_sign sign (a ∷ []) none h = refl
no_sign sign (a ∷ (b ∷ bs)) none h = ap (λ t. cond (t && list_all is_special_byte bs) (letter_sort b) None) (no_byte a sign none (first_byte a (b ∷ bs) h).1)

no_integer : (w : List ℕ) → is_variable_word w ≡ true → signed_of w ≡ None
no_integer [] h = refl
no_integer (b ∷ bs) h =
    let first = first_byte b bs h in
    ap (λ c. cond c (option_and_then minus (natural_of bs)) (option_map pos (natural_of (b ∷ bs)))) (no_byte b 45 refl first.1)
    ∙ ap (λ c. option_map pos (cond (c && list_all is_digit bs && (not (nat_eq b 48) || is_empty bs)) (Some (digits_value 10 (b ∷ bs))) None)) first.0

pub variable_is : (names : NameTable) (x : Name) → is_variable_word x.text ≡ true → find (λ (v : Name). bytes_eq v.text x.text) names.variables ≡ Some x → IsVariable names x
variable_is names x word there =
    let w = x.text in
    let others = find (λ (v : Name). bytes_eq v.text w) names.variables in
    where_name w (option_or (special_of w) others) (variable_word_is_name w word)
    ∙ ap (λ o. option_or (option_map (named w) (option_and_then not_field o)) others) (no_sign 64 w refl word)
    ∙ there

pub variable_expr : (names : NameTable) (x : Name) → is_variable_word x.text ≡ true → is_literal_word x.text ≡ false → IsVariable names x → ExprKnown names (code.Variable x)
variable_expr names x word plain is =
    let w = x.text in
    let two = neither (bytes_eq (codes "true") w || bytes_eq (codes "false") w) (bytes_eq (codes "null") w) plain in
    let one = neither (bytes_eq (codes "true") w) (bytes_eq (codes "false") w) two.0 in
    let rest = option_map code.Variable (variable_of names w) in
    ap₂ (λ a b. option_or (option_map code.BoolLiteral (option_or (cond a (Some true) None) (cond b (Some false) None))) (option_or (if_word (codes "null") code.NullLiteral w) (option_or (option_map code.IntLiteral (integer_of narrow w)) rest))) one.0 one.1
    ∙ ap (λ a. option_or (cond a (Some code.NullLiteral) None) (option_or (option_map code.IntLiteral (integer_of narrow w)) rest)) two.1
    ∙ ap (λ o. option_or (option_map code.IntLiteral (option_and_then (λ z. cond (is_below narrow z) (Some z) None) o)) rest) (no_integer w word)
    ∙ ap (option_map code.Variable) is

-- ---- literals

below_narrow : (z : ℤ) → in_int z ≡ true → is_below narrow z ≡ true
below_narrow (pos n) e = let most = (and_parts (int_le (negsuc 2147483647) (pos n)) (int_le (pos n) (pos 2147483647)) e).1 in lt-ltb n narrow (omega (arith, ints, most))
below_narrow (negsuc n) e = let least = (and_parts (int_le (negsuc 2147483647) (negsuc n)) (int_le (negsuc n) (pos 2147483647)) e).0 in lt-ltb n narrow (omega (arith, ints, least))

narrow_wide : (z : ℤ) → is_below narrow z ≡ true → is_below wide z ≡ true
narrow_wide (pos n) e = let lt = ltb-true n narrow e in lt-ltb n wide (omega (arith, lt))
narrow_wide (negsuc n) e = let lt = ltb-true n narrow e in lt-ltb n wide (omega (arith, lt))

-- a word that begins otherwise is no fixed one
other_word : {A : Type 0} (v : ℕ) (vs : List ℕ) (b : ℕ) (bs : List ℕ) (x : A) → nat_eq v b ≡ false → if_word (v ∷ vs) x (b ∷ bs) ≡ None
other_word v vs b bs x e = ap (λ c. cond (c && bytes_eq vs bs) (Some x) None) e

integer_word : (names : NameTable) (w : List ℕ) (z : ℤ) → signed_of w ≡ Some z → is_below narrow z ≡ true → word_expr names w ≡ Some (code.IntLiteral z)
integer_word names [] z e fits = absurd (none-some z e)
integer_word names (b ∷ bs) z e fits =
    let low = signed_begins b bs z e in
    let other_than : (v : ℕ) → 58 ≤ v → nat_eq v b ≡ false = λ v le. ne_eqb v b (λ same. omega (arith, low, le, same)) in
    let rest = option_map code.Variable (variable_of names (b ∷ bs)) in
    let read : integer_of narrow (b ∷ bs) ≡ Some z = ap (option_and_then (λ y. cond (is_below narrow y) (Some y) None)) e ∙ cond-true (is_below narrow z) (Some z) None fits in
    λ i. option_or (option_map code.BoolLiteral (option_or (other_word 116 (codes "rue") b bs true (other_than 116 (omega arith)) i) (other_word 102 (codes "alse") b bs false (other_than 102 (omega arith)) i)))
    (option_or (other_word 110 (codes "ull") b bs code.NullLiteral (other_than 110 (omega arith)) i)
    (option_or (option_map code.IntLiteral (read i)) rest))

pub literal_expr : (names : NameTable) (z : ℤ) → in_int z ≡ true → ExprKnown names (code.IntLiteral z)
literal_expr names z e =
    let fits = below_narrow z e in
    let h = chained (λ y. cond (is_below wide y) (Some y) None) (signed_of (integer_text z)) z (integer_is_read z (narrow_wide z fits)) in
    let g = guarded (is_below wide h.0) (Some h.0) z h.2 in
    integer_word names (integer_text z) z (h.1 ∙ g.1) fits

-- ---- parameters

special_bytes : (x : List ℕ) → IsWord x → list_all is_special_byte x ≡ true
special_bytes x w = all_of is_java_byte is_special_byte (λ b h. ap (λ t. t || nat_eq b 126) h) x (java_bytes x (and_parts _ (not (is_literal_word x)) w).0)

pub constant_is : NamesAreKnown → (y x : List ℕ) (s : Sort) → is_value s ≡ true → IsWord y → source_name x ≡ y → constant_of (parameter_constant (record { text = x; sort = s })).text ≡ Some (parameter_constant (record { text = x; sort = s }))
constant_is laws y x sorts.Int v w e = laws.constants_ (parameter_constant (record { text = x; sort = sorts.Int })).text sorts.Int (cond-true (list_all is_special_byte (source_name x)) (Some sorts.Int) None (ap (list_all is_special_byte) e ∙ special_bytes y w))
constant_is laws y x sorts.Bool v w e = laws.constants_ (parameter_constant (record { text = x; sort = sorts.Bool })).text sorts.Bool (cond-true (list_all is_special_byte (source_name x)) (Some sorts.Bool) None (ap (list_all is_special_byte) e ∙ special_bytes y w))
constant_is laws y x sorts.Ref v w e = laws.constants_ (parameter_constant (record { text = x; sort = sorts.Ref })).text sorts.Ref (cond-true (list_all is_special_byte (source_name x)) (Some sorts.Ref) None (ap (list_all is_special_byte) e ∙ special_bytes y w))
constant_is laws y x sorts.Heap v w e = absurd (true≢false (sym v))
constant_is laws y x sorts.Field v w e = absurd (true≢false (sym v))

pub of_value : (t : ValueType) → is_value (sort_of t) ≡ true
of_value types.Int = refl
of_value types.Boolean = refl
of_value types.Null = refl
of_value types.IntArray = refl
of_value (types.Class c) = refl
of_value types.Missing = refl
