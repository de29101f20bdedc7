-- Words that are known under binders, and those that are known under none.
use Rattle.std.proofs.Common.{List, None, Option, Some, [], ap, arith, cond, false, nat_eq, option_map, refl, subst, suc, sym, true, true≢false, zero, ◌&&◌, ◌<◌, ◌||◌, ◌∙◌, ◌∷◌, ◌≡◌, ◌≤◌, ℕ, ℤ, length}
use Rattle.std.proofs.lemmas.Bool.{and_parts, cond-true, eqb-true, ne_eqb}
use Rattle.std.proofs.lemmas.Option.{none-some}
use Rattle.std.specs.List.{find, list_all}
use Rattle.std.specs.Option.{option_and_then, option_or}
use Rattle.std.specs.Prelude.{codes}
use Rattle.std.specs.Str.{bytes_eq}
use Rattle.jd_base.specs.declared.sort.Sort.{Sort}
use Rattle.jd_spelled_trees.proofs.Numerals.{loop_is_narrow, loop_is_read, signed_begins}
use Rattle.jd_syntax.specs.Names.{Name}
use Rattle.jd_term.specs.Terms as terms
use Rattle.jd_term.specs.Terms.{PlainTerm}
use Rattle.jd_tforms.proofs.Somes.{chained, either, guarded, mapped, parted_by}
use Rattle.jd_tforms.proofs.Words.{constant_is, special_is}
use Rattle.jd_tforms.specs.Known.{IsVariable, TermKnown}
use Rattle.jd_tforms.specs.Naming.{at_number, bound_of, constant_of, field_of, if_word, letter_sort, named, not_field, special_of, special_sort, truth_of, variable_of, word_term}
use Rattle.jd_tforms.specs.Shapes.{bound_number, integer_of, is_below, is_name, is_name_byte, is_special_byte, loop_of, signed_of, wide}
use Rattle.jd_tgrammar.specs.NameTables.{NameTable}
use Rattle.jd_tgrammar.specs.Words.{bound_word}
use Rattle.jd_written.specs.Written.{integer_text, number_text}

-- ---- indices

pub at_length : (ctx : List Sort) (k : ℕ) (s : Sort) → at_number ctx k ≡ Some s → k < length ctx
at_length [] k s e = absurd (none-some s e)
at_length (r ∷ ctx) zero s e = omega arith
at_length (r ∷ ctx) (suc k) s e = let lt = at_length ctx k s e in omega (arith, lt)

-- under no binder no word is an index
no_index : (w : List ℕ) → bound_of [] w ≡ None
no_index w = by (bound_number w)
  where
    by : (o : Option ℕ) → option_and_then (λ k. option_map (terms.Bound k) (at_number [] k)) o ≡ None
    by None = refl
    by (Some k) = refl

abbrev pub NoIndex : PlainTerm → Type 0
NoIndex (terms.Bound k s) = ⊥
NoIndex t = Unit {0}

-- the term is the index that the word names, of the sort of its binder
abbrev IndexIs : List Sort → List ℕ → PlainTerm → Type 0
IndexIs ctx w (terms.Bound k s) = (bound_number w ≡ Some k) × (at_number ctx k ≡ Some s)
IndexIs ctx w t = ⊥

index_is : (ctx : List Sort) (w : List ℕ) (t : PlainTerm) → bound_of ctx w ≡ Some t → IndexIs ctx w t
index_is ctx w t e =
    let h = chained (λ k. option_map (terms.Bound k) (at_number ctx k)) (bound_number w) t e in
    mapped (IndexIs ctx w) (terms.Bound h.0) (at_number ctx h.0) t h.2 (λ s this. (h.1, this))

never_index : (ctx : List Sort) (w : List ℕ) (t : PlainTerm) → NoIndex t → IndexIs ctx w t → ⊥
never_index ctx w (terms.Bound k s) other is = other
never_index ctx w t other is = is

-- a name is no index
name_is_no_index : (ctx : List Sort) (w : List ℕ) → is_name w ≡ true → bound_of ctx w ≡ None
name_is_no_index ctx [] e = refl
name_is_no_index ctx (b ∷ bs) e =
    ap (λ c. option_and_then (λ k. option_map (terms.Bound k) (at_number ctx k)) (cond c (loop_of bs) None))
    (ne_eqb b 37 (λ sign. true≢false (sym (subst (λ a. is_name (a ∷ bs) ≡ true) sign e))))

-- ---- what stands before and behind the indices in the choice of a word

-- the fifth in a choice may be another, if that gives the answer where it did
fifth : (a b c d e f : Option PlainTerm) (t : PlainTerm) → (e ≡ Some t → f ≡ Some t) → option_or a (option_or b (option_or c (option_or d e))) ≡ Some t → option_or a (option_or b (option_or c (option_or d f))) ≡ Some t
fifth (Some x) b c d e f t go is = is
fifth None (Some x) c d e f t go is = is
fifth None None (Some x) d e f t go is = is
fifth None None None (Some x) e f t go is = is
fifth None None None None e f t go is = go is

module _ (names : NameTable) where
  -- the choice of a name
  abbrev name_term : List ℕ → Option PlainTerm
  name_term w = option_or (option_map terms.Constant (constant_of w)) (option_or (option_map terms.ProgramVariable (variable_of names w)) (option_map terms.NamedField (field_of names w)))

  abbrev HasName : List ℕ → PlainTerm → Type 0
  HasName w t = (is_name w ≡ true) × NoIndex t

  name_term_is : (w : List ℕ) (t : PlainTerm) → name_term w ≡ Some t → HasName w t
  name_term_is w t e =
      either (option_map terms.Constant (constant_of w)) (option_or (option_map terms.ProgramVariable (variable_of names w)) (option_map terms.NamedField (field_of names w))) t e
      (λ is. mapped (HasName w) terms.Constant (constant_of w) t is (λ c this. ((guarded (is_name w) (option_map (named w) (special_sort 35 w)) c this).0, tt)))
      (λ more. either (option_map terms.ProgramVariable (variable_of names w)) (option_map terms.NamedField (field_of names w)) t more
      (λ is. mapped (HasName w) terms.ProgramVariable (variable_of names w) t is (λ x this. ((guarded (is_name w) (option_or (special_of w) (find (λ (y : Name). bytes_eq y.text w) names.variables)) x this).0, tt)))
      (λ is. mapped (HasName w) terms.NamedField (field_of names w) t is (λ f this. ((named_field w f this), tt))))
    where
      named_field : (v : List ℕ) (f : ℕ) → field_of names v ≡ Some f → is_name v ≡ true
      named_field v f this = (guarded (is_name v) _ f this).0

  -- a word that is no index is known under any binders as under none
  pub known_under_none : (ctx : List Sort) (w : List ℕ) (t : PlainTerm) → NoIndex t → word_term names ctx w ≡ Some t → word_term names [] w ≡ Some t
  known_under_none ctx w t other e =
      fifth (option_map terms.Boolean (truth_of w)) (if_word (codes "null") terms.NullTerm w) (if_word (codes "created") terms.CreatedField w) (option_map terms.Number (integer_of wide w)) (option_or (bound_of ctx w) (name_term w)) (option_or (bound_of [] w) (name_term w)) t
      (λ is. either (bound_of ctx w) (name_term w) t is
      (λ this. absurd (never_index ctx w t other (index_is ctx w t this)))
      (λ this. ap (λ o. option_or o (name_term w)) (no_index w) ∙ this))
      e

  pub known_under : (ctx : List Sort) (w : List ℕ) (t : PlainTerm) → word_term names [] w ≡ Some t → word_term names ctx w ≡ Some t
  known_under ctx w t e =
      fifth (option_map terms.Boolean (truth_of w)) (if_word (codes "null") terms.NullTerm w) (if_word (codes "created") terms.CreatedField w) (option_map terms.Number (integer_of wide w)) (option_or (bound_of [] w) (name_term w)) (option_or (bound_of ctx w) (name_term w)) t
      (λ is. let this = sym (ap (λ o. option_or o (name_term w)) (no_index w)) ∙ is in
      ap (λ o. option_or o (name_term w)) (name_is_no_index ctx w (name_term_is w t this).0) ∙ this)
      e

  -- ---- indices that are known

  -- an index that is known is below a billion, and has the sort of its binder
  pub index_known : (ctx : List Sort) (k : ℕ) (s : Sort) → TermKnown names ctx (terms.Bound k s) → (at_number ctx k ≡ Some s) × (k < 1000000000)
  index_known ctx k s e =
      either (bound_of ctx (bound_word k)) (name_term (bound_word k)) (terms.Bound k s) e
      (λ is. let h = index_is ctx (bound_word k) (terms.Bound k s) is in (h.1, loop_is_narrow (number_text k) k h.0))
      (λ is. absurd (name_term_is (bound_word k) (terms.Bound k s) is).1)

  pub index_is_known : (ctx : List Sort) (k : ℕ) (s : Sort) → at_number ctx k ≡ Some s → k < 1000000000 → TermKnown names ctx (terms.Bound k s)
  index_is_known ctx k s e lt =
      ap (λ o. option_or (option_and_then (λ j. option_map (terms.Bound j) (at_number ctx j)) o) (name_term (bound_word k))) (loop_is_read k lt)
      ∙ ap (λ o. option_or (option_map (terms.Bound k) o) (name_term (bound_word k))) e

  -- ---- words that are given

  -- a word that begins otherwise is no fixed one
  other_word : {A : Type 0} (v : ℕ) (vs : List ℕ) (b : ℕ) (bs : List ℕ) (x : A) → nat_eq v b ≡ false → if_word (v ∷ vs) x (b ∷ bs) ≡ None
  other_word v vs b bs x e = ap (λ c. cond (c && bytes_eq vs bs) (Some x) None) e

  number_is_known : (w : List ℕ) (z : ℤ) → integer_of wide w ≡ Some z → word_term names [] w ≡ Some (terms.Number z)
  number_is_known [] z e = absurd (none-some z e)
  number_is_known (b ∷ bs) z e =
      let h = chained (λ y. cond (is_below wide y) (Some y) None) (signed_of (b ∷ bs)) z e in
      let low = signed_begins b bs h.0 h.1 in
      let other_than : (v : ℕ) → 58 ≤ v → nat_eq v b ≡ false = λ v le. ne_eqb v b (λ same. omega (arith, low, le, same)) in
      λ i. option_or (option_map terms.Boolean (option_or (other_word 116 (codes "rue") b bs true (other_than 116 (omega arith)) i) (other_word 102 (codes "alse") b bs false (other_than 102 (omega arith)) i)))
      (option_or (other_word 110 (codes "ull") b bs terms.NullTerm (other_than 110 (omega arith)) i)
      (option_or (other_word 99 (codes "reated") b bs terms.CreatedField (other_than 99 (omega arith)) i)
      (option_or (option_map terms.Number (e i)) (option_or (bound_of [] (b ∷ bs)) (name_term (b ∷ bs))))))

  pub literal_is_known : (z : ℤ) → integer_of wide (integer_text z) ≡ Some z → TermKnown names [] (terms.Number z)
  literal_is_known z e = number_is_known (integer_text z) z e

  -- a special word has its sign before the letter of a sort
  sign_is : (sign : ℕ) (b : ℕ) (bs : List ℕ) (s : Sort) → special_sort sign (b ∷ bs) ≡ Some s → b ≡ sign
  sign_is sign b [] s e = absurd (none-some s e)
  sign_is sign b (d ∷ ds) s e = eqb-true b sign (and_parts (nat_eq b sign) (list_all is_special_byte ds) (guarded (nat_eq b sign && list_all is_special_byte ds) (letter_sort d) s e).0).0

  constant_word : (w : List ℕ) (c : Name) → constant_of w ≡ Some c → word_term names [] w ≡ Some (terms.Constant c)
  constant_word [] c e = absurd (none-some c e)
  constant_word (b ∷ bs) c e =
      let h = guarded (is_name (b ∷ bs)) (option_map (named (b ∷ bs)) (special_sort 35 (b ∷ bs))) c e in
      let sign : b ≡ 35 = mapped (λ x. b ≡ 35) (named (b ∷ bs)) (special_sort 35 (b ∷ bs)) c h.1 (λ s this. sign_is 35 b bs s this) in
      subst (λ a. constant_of (a ∷ bs) ≡ Some c → word_term names [] (a ∷ bs) ≡ Some (terms.Constant c)) (sym sign)
      (λ is. ap (λ o. option_or (option_map terms.Constant o) (option_or (option_map terms.ProgramVariable (variable_of names (35 ∷ bs))) (option_map terms.NamedField (field_of names (35 ∷ bs))))) is)
      e

  pub constant_is_known : (w : List ℕ) (c : Name) → constant_of w ≡ Some c → TermKnown names [] (terms.Constant c)
  constant_is_known w c e = subst (λ v. word_term names [] v ≡ Some (terms.Constant c)) (sym (constant_is w c e)) (constant_word w c e)

  -- the letter of a sort is one of a name
  letter_is_of_name : (b : ℕ) (s : Sort) → letter_sort b ≡ Some s → is_name_byte b ≡ true
  letter_is_of_name b s e =
      parted_by (nat_eq b 105) _ _ s e (λ at is. letter 105 at refl)
      (λ not_it e1. parted_by (nat_eq b 98) _ _ s e1 (λ at is. letter 98 at refl)
      (λ not_it e2. parted_by (nat_eq b 114) _ _ s e2 (λ at is. letter 114 at refl)
      (λ not_it e3. parted_by (nat_eq b 104) _ _ s e3 (λ at is. letter 104 at refl)
      (λ not_it e4. parted_by (nat_eq b 102) _ _ s e4 (λ at is. letter 102 at refl)
      (λ not_it e5. absurd (none-some s e5))))))
    where
      letter : (v : ℕ) → nat_eq b v ≡ true → is_name_byte v ≡ true → is_name_byte b ≡ true
      letter v at is = subst (λ a. is_name_byte a ≡ true) (sym (eqb-true b v at)) is

  bytes_are_of_name : (bs : List ℕ) → list_all is_special_byte bs ≡ true → list_all is_name_byte bs ≡ true
  bytes_are_of_name [] e = refl
  bytes_are_of_name (b ∷ bs) e =
      let h = and_parts (is_special_byte b) (list_all is_special_byte bs) e in
      λ i. (h.0 i || nat_eq b 39 || nat_eq b 46 || nat_eq b 64 || nat_eq b 35) && bytes_are_of_name bs h.1 i

  special_is_name : (w : List ℕ) (s : Sort) → special_sort 64 w ≡ Some s → is_name w ≡ true
  special_is_name [] s e = absurd (none-some s e)
  special_is_name (a ∷ []) s e = absurd (none-some s e)
  special_is_name (a ∷ (b ∷ bs)) s e =
      let h = guarded (nat_eq a 64 && list_all is_special_byte bs) (letter_sort b) s e in
      let g = and_parts (nat_eq a 64) (list_all is_special_byte bs) h.0 in
      subst (λ d. is_name (d ∷ (b ∷ bs)) ≡ true) (sym (eqb-true a 64 g.0)) (λ i. letter_is_of_name b s h.1 i && bytes_are_of_name bs g.1 i)

  pub variable_is_known : (w : List ℕ) (x : Name) → special_of w ≡ Some x → IsVariable names x
  variable_is_known w x e =
      subst (λ v. variable_of names v ≡ Some x) (sym (special_is w x e))
      (cond-true (is_name w) (option_or (special_of w) (find (λ (y : Name). bytes_eq y.text w) names.variables)) None name
      ∙ ap (λ o. option_or o (find (λ (y : Name). bytes_eq y.text w) names.variables)) e)
    where
      name : is_name w ≡ true
      name = mapped (λ y. is_name w ≡ true) (named w) (option_and_then not_field (special_sort 64 w)) x e
          (λ s this. let h = chained not_field (special_sort 64 w) s this in special_is_name w h.0 h.1)
