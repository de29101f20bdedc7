-- What the terms of single words tell: a literal is the integer that is written, and a constant the one that the word tells.
use Rattle.std.proofs.Common.{Bool, List, None, Option, Some, ap, ap₂, cond, false, nat_eq, option_map, refl, sym, true, ◌&&◌, ◌≡◌, ◌∙◌, ◌∷◌, ◌⊎◌, inl, inr, ℕ, ℤ, []}
use Rattle.std.specs.List.{list_all}
use Rattle.std.specs.Option.{option_and_then, option_or}
use Rattle.std.specs.Prelude.{codes}
use Rattle.std.specs.Str.{bytes_eq}
use Rattle.std.proofs.lemmas.Bool.{and_parts}
use Rattle.jd_base.specs.declared.sort.Sort.{Sort}
use Rattle.jd_base.specs.declared.sort.Sort.TheVariants.{Bool as BoolSort, Field as FieldSort, Heap as HeapSort, Int as IntSort, Ref as RefSort}
use Rattle.jd_names.proofs.Letters.{all_of, same_byte, special_is_name}
use Rattle.jd_patterns.specs.Bindings.{TheLiteral}
use Rattle.jd_syntax.specs.Names.{Name}
use Rattle.jd_taclet_matching.specs.Words.{constant_sort, literal_in}
use Rattle.jd_term.specs.Terms as terms
use Rattle.jd_term.specs.Terms.{PlainTerm}
use Rattle.jd_tforms.proofs.Somes.{guarded, parted_by, same_bytes}
use Rattle.jd_tforms.proofs.Words.{truth_is}
use Rattle.jd_tforms.specs.Naming.{at_number, bound_of, constant_of, field_of, if_name, if_word, letter_sort, named, not_field, special_of, special_sort, truth_of, variable_of, word_term}
use Rattle.jd_tforms.specs.Shapes.{bound_number, integer_of, is_name, is_name_byte, is_special_byte, wide}
use Rattle.jd_tgrammar.specs.NameTables.{NameTable}
use Rattle.jd_tgrammar.specs.Words.{truth_word}

-- ---- the forms one after the other

module _ {X : Type 0} (f : PlainTerm → Option X) (n : Option X) where
  abbrev Tells : Option PlainTerm → Type 0
  Tells o = option_and_then f o ≡ n

  past_map : {A : Type 0} (g : A → PlainTerm) (o : Option A) (rest : Option PlainTerm) → ((x : A) → o ≡ Some x → f (g x) ≡ n) → Tells rest → Tells (option_or (option_map g o) rest)
  past_map g None rest each h = h
  past_map g (Some x) rest each h = each x refl

  past_word : (v : List ℕ) (t : PlainTerm) (w : List ℕ) (rest : Option PlainTerm) → (v ≡ w → f t ≡ n) → Tells rest → Tells (option_or (if_word v t w) rest)
  past_word v t w rest here h = by (bytes_eq v w) refl
    where
      by : (b : Bool) → bytes_eq v w ≡ b → Tells (option_or (cond b (Some t) None) rest)
      by true is = here (same_bytes v w is)
      by false is = h

  past_bound : (ctx : List Sort) (w : List ℕ) (rest : Option PlainTerm) → ((k : ℕ) (s : Sort) → f (terms.Bound k s) ≡ n) → Tells rest → Tells (option_or (bound_of ctx w) rest)
  past_bound ctx w rest each h = by (bound_number w)
    where
      at : (k : ℕ) (o : Option Sort) → Tells (option_or (option_map (terms.Bound k) o) rest)
      at k None = h
      at k (Some s) = each k s

      by : (o : Option ℕ) → Tells (option_or (option_and_then (λ k. option_map (terms.Bound k) (at_number ctx k)) o) rest)
      by None = h
      by (Some k) = at k (at_number ctx k)

-- ---- literals

no_integer : (b : Bool) → None ≡ integer_of wide (truth_word b)
no_integer true = refl
no_integer false = refl

literal_here : (i : Option ℤ) (rest : Option PlainTerm) → option_and_then literal_in rest ≡ None → option_and_then literal_in (option_or (option_map terms.Number i) rest) ≡ i
literal_here None rest none = none
literal_here (Some z) rest none = refl

last_map : {X A : Type 0} (f : PlainTerm → Option X) (g : A → PlainTerm) (o : Option A) → ((x : A) → f (g x) ≡ None) → option_and_then f (option_map g o) ≡ None
last_map f g None each = refl
last_map f g (Some x) each = each x

pub literal_of_word : (names : NameTable) (ctx : List Sort) (w : List ℕ) → option_and_then literal_in (word_term names ctx w) ≡ integer_of wide w
literal_of_word names ctx w =
    let n = integer_of wide w in
    past_map literal_in n terms.Boolean (truth_of w) _ (λ b is. no_integer b ∙ ap (integer_of wide) (truth_is w b is))
    (past_word literal_in n (codes "null") terms.NullTerm w _ (λ e. ap (integer_of wide) e)
    (past_word literal_in n (codes "created") terms.CreatedField w _ (λ e. ap (integer_of wide) e)
    (literal_here n _
    (past_bound literal_in None ctx w _ (λ k s. refl)
    (past_map literal_in None terms.Constant (constant_of w) _ (λ c is. refl)
    (past_map literal_in None terms.ProgramVariable (variable_of names w) _ (λ x is. refl)
    (last_map literal_in terms.NamedField (field_of names w) (λ k. refl))))))))

pub as_literal : (o : Option ℤ) → option_map TheLiteral o ≡ option_and_then (λ z. Some (TheLiteral z)) o
as_literal None = refl
as_literal (Some z) = refl

-- ---- constants

abbrev sort_told : Option Name → Option Sort
sort_told o = option_map (λ (c : Name). c.sort) o

-- a word that is no constant's, or one that begins with its sign
constant_or_sign : (w : List ℕ) → (constant_of w ≡ None) ⊎ ((bs : List ℕ) × (w ≡ 35 ∷ bs))
constant_or_sign [] = inl refl
constant_or_sign (a ∷ bs) = by (nat_eq a 35) refl
  where
    none : (b : Bool) (o : Option Name) → o ≡ None → cond b o None ≡ None
    none true o is = is
    none false o is = refl

    unsigned : (bs : List ℕ) → nat_eq a 35 ≡ false → option_map (named (a ∷ bs)) (special_sort 35 (a ∷ bs)) ≡ None
    unsigned [] is = refl
    unsigned (b ∷ cs) is = ap (λ t. option_map (named (a ∷ b ∷ cs)) (cond (t && list_all is_special_byte cs) (letter_sort b) None)) is

    by : (t : Bool) → nat_eq a 35 ≡ t → (constant_of (a ∷ bs) ≡ None) ⊎ ((cs : List ℕ) × (a ∷ bs ≡ 35 ∷ cs))
    by true is = inr (bs, ap (λ x. x ∷ bs) (same_byte a 35 is))
    by false is = inl (none (is_name (a ∷ bs)) (option_map (named (a ∷ bs)) (special_sort 35 (a ∷ bs))) (unsigned bs is))

constant_here : (o : Option Name) (rest : Option PlainTerm) → option_and_then constant_sort rest ≡ None → option_and_then constant_sort (option_or (option_map terms.Constant o) rest) ≡ sort_told o
constant_here None rest none = none
constant_here (Some c) rest none = refl

module _ (names : NameTable) (ctx : List Sort) where
  other_names : (w : List ℕ) → option_and_then constant_sort (option_or (option_map terms.ProgramVariable (variable_of names w)) (option_map terms.NamedField (field_of names w))) ≡ None
  other_names w =
      past_map constant_sort None terms.ProgramVariable (variable_of names w) _ (λ x is. refl)
      (last_map constant_sort terms.NamedField (field_of names w) (λ k. refl))

  no_constant : (w : List ℕ) → constant_of w ≡ None → option_and_then constant_sort (word_term names ctx w) ≡ None
  no_constant w none =
      past_map constant_sort None terms.Boolean (truth_of w) _ (λ b is. refl)
      (past_word constant_sort None (codes "null") terms.NullTerm w _ (λ e. refl)
      (past_word constant_sort None (codes "created") terms.CreatedField w _ (λ e. refl)
      (past_map constant_sort None terms.Number (integer_of wide w) _ (λ z is. refl)
      (past_bound constant_sort None ctx w _ (λ k s. refl)
      (ap (λ o. option_and_then constant_sort (option_or (option_map terms.Constant o) (option_or (option_map terms.ProgramVariable (variable_of names w)) (option_map terms.NamedField (field_of names w))))) none
      ∙ other_names w)))))

  signed_constant : (bs : List ℕ) → option_and_then constant_sort (word_term names ctx (35 ∷ bs)) ≡ sort_told (constant_of (35 ∷ bs))
  signed_constant bs = constant_here (constant_of (35 ∷ bs)) _ (other_names (35 ∷ bs))

  pub constant_of_word : (w : List ℕ) → option_and_then constant_sort (word_term names ctx w) ≡ sort_told (constant_of w)
  constant_of_word w = elim (constant_or_sign w) [
    | inl none ↦ no_constant w none ∙ sym (ap sort_told none)
    | inr sign ↦ ap (λ v. option_and_then constant_sort (word_term names ctx v)) sign.1 ∙ signed_constant sign.0 ∙ sym (ap (λ v. sort_told (constant_of v)) sign.1)
  ]

-- its name is the word
pub constant_named : (w : List ℕ) → option_map (named w) (sort_told (constant_of w)) ≡ constant_of w
constant_named w = guard (is_name w) (special_sort 35 w)
  where
    guard : (b : Bool) (o : Option Sort) → option_map (named w) (sort_told (cond b (option_map (named w) o) None)) ≡ cond b (option_map (named w) o) None
    guard true None = refl
    guard true (Some s) = refl
    guard false o = refl

-- ---- variables that tell their sort have names

at_letter : (b n : ℕ) → is_special_byte n ≡ true → nat_eq b n ≡ true → is_special_byte b ≡ true
at_letter b n special is = ap is_special_byte (same_byte b n is) ∙ special

letter_is_special : (b : ℕ) (s : Sort) → letter_sort b ≡ Some s → is_special_byte b ≡ true
letter_is_special b s e =
    parted_by (nat_eq b 105) (Some IntSort) (cond (nat_eq b 98) (Some BoolSort) (cond (nat_eq b 114) (Some RefSort) (cond (nat_eq b 104) (Some HeapSort) (cond (nat_eq b 102) (Some FieldSort) None)))) s e
    (λ is _. at_letter b 105 refl is)
    (λ _ e. parted_by (nat_eq b 98) (Some BoolSort) (cond (nat_eq b 114) (Some RefSort) (cond (nat_eq b 104) (Some HeapSort) (cond (nat_eq b 102) (Some FieldSort) None))) s e
    (λ is _. at_letter b 98 refl is)
    (λ _ e. parted_by (nat_eq b 114) (Some RefSort) (cond (nat_eq b 104) (Some HeapSort) (cond (nat_eq b 102) (Some FieldSort) None)) s e
    (λ is _. at_letter b 114 refl is)
    (λ _ e. parted_by (nat_eq b 104) (Some HeapSort) (cond (nat_eq b 102) (Some FieldSort) None) s e
    (λ is _. at_letter b 104 refl is)
    (λ _ e. at_letter b 102 refl (guarded (nat_eq b 102) (Some FieldSort) s e).0))))

told_is_name : (w : List ℕ) (s : Sort) → special_sort 64 w ≡ Some s → is_name w ≡ true
told_is_name [] s e = cc
told_is_name (a ∷ []) s e = cc
told_is_name (a ∷ b ∷ bs) s e =
    let g = guarded (nat_eq a 64 && list_all is_special_byte bs) (letter_sort b) s e in
    let both = and_parts (nat_eq a 64) (list_all is_special_byte bs) g.0 in
    let rest : (is_name_byte b && list_all is_name_byte bs) ≡ true =
    ap₂ (λ p q. p && q) (special_is_name b (letter_is_special b s g.1)) (all_of is_special_byte is_name_byte special_is_name bs both.1) in
    ap (λ n. is_name (n ∷ b ∷ bs)) (same_byte a 64 both.0) ∙ rest

pub told_named : (w : List ℕ) → if_name w (special_of w) ≡ special_of w
told_named w = by (special_sort 64 w) refl
  where
    none : (b : Bool) → cond b (option_map (named w) None) None ≡ None
    none true = refl
    none false = refl

    by : (o : Option Sort) → special_sort 64 w ≡ o → cond (is_name w) (option_map (named w) (option_and_then not_field o)) None ≡ option_map (named w) (option_and_then not_field o)
    by None is = none (is_name w)
    by (Some s) is = ap (λ b. cond b (option_map (named w) (not_field s)) None) (told_is_name w s is)
