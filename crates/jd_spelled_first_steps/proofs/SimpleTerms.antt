-- Literals and variables of code, as terms.
use Rattle.std.proofs.Common.{Bool, List, None, Option, Some, [], ap, arith, cond, false, inl, inr, nat_eq, not, option_map, refl, subst, sym, true, true≢false, ◌&&◌, ◌||◌, ◌∙◌, ◌∷◌, ◌≡◌, ◌≢◌, ℕ, ℤ, pos, negsuc}
use Rattle.std.proofs.lemmas.Bool.{and_parts, cases_Bool, eqb-true, lt-ltb, ltb-true, ne_eqb}
use Rattle.std.proofs.lemmas.Option.{none-some}
use Rattle.std.specs.List.{find, list_all}
use Rattle.std.specs.Option.{option_and_then, option_or}
use Rattle.std.specs.Prelude.{codes}
use Rattle.std.specs.Str.{bytes_eq}
use Rattle.std.specs.Str.Parse.{digits_value}
use Rattle.jd_base.specs.declared.sort.Sort.{Sort}
use Rattle.jd_base.specs.declared.sort.Sort.TheVariants.{Bool as BoolSort, Int as IntSort, Ref as RefSort}
use Rattle.jd_first_steps.specs.Rewrites.{simple_term}
use Rattle.jd_spelled_first_steps.proofs.Sorts.{one_sort}
use Rattle.jd_spelled_first_steps.specs.Laws.{SimpleTermsAreSpelled}
use Rattle.jd_spelled_first_steps.specs.TermNames.{AreTermNames, IsTermName}
use Rattle.jd_spelled_trees.proofs.Numerals.{integer_is_read}
use Rattle.jd_spelled_trees.proofs.Words.{literal_is_known}
use Rattle.jd_spelled_trees.specs.Spelled.{AtSort, SpelledTerm}
use Rattle.jd_syntax.specs.Codes as code
use Rattle.jd_syntax.specs.Codes.{Expr}
use Rattle.jd_syntax.specs.Names.{Name}
use Rattle.jd_term.specs.Terms as terms
use Rattle.jd_term.specs.Terms.{PlainTerm}
use Rattle.jd_tforms.proofs.Somes.{chained, either, guarded, mapped, parted_by, same_bytes, some_same}
use Rattle.jd_tforms.specs.Known.{ExprKnown, TermKnown}
use Rattle.jd_tforms.specs.Naming.{at_number, bound_of, constant_of, field_of, letter_sort, named, not_field, special_of, special_sort, truth_of, variable_of}
use Rattle.jd_tforms.specs.Shapes.{bound_number, integer_of, is_below, is_digit, is_empty, is_name, is_name_byte, is_special_byte, minus, narrow, natural_of, signed_of, wide}
use Rattle.jd_tforms.specs.Sorted.{is as has_value}
use Rattle.jd_tgrammar.specs.NameTables.{NameTable}
use Rattle.jd_written.specs.Written.{integer_text}

-- ---- what a word of code is not, where it is a variable or an integer

-- the choice among words of code
abbrev chosen : Option Bool → Bool → Option ℤ → Option Name → Option Expr
chosen truth null int variable =
    option_or (option_map code.BoolLiteral truth) (option_or (cond null (Some code.NullLiteral) None) (option_or (option_map code.IntLiteral int) (option_map code.Variable variable)))

abbrev is_variable : Expr → Bool
is_variable (code.Variable x) = true
is_variable e = false

abbrev is_integer : Expr → Bool
is_integer (code.IntLiteral z) = true
is_integer e = false

abbrev name_in : Name → Expr → Name
name_in d (code.Variable x) = x
name_in d e = d

abbrev integer_in : ℤ → Expr → ℤ
integer_in d (code.IntLiteral z) = z
integer_in d e = d

wrong_test : (e f : Expr) (test : Expr → Bool) → test e ≡ false → test f ≡ true → Some e ≡ Some f → ⊥
wrong_test e f test fails passes same = true≢false (sym passes ∙ (ap test (sym (some_same e f same)) ∙ fails))

variable_chosen : (truth : Option Bool) (null : Bool) (int : Option ℤ) (variable : Option Name) (x : Name) → chosen truth null int variable ≡ Some (code.Variable x) → (truth ≡ None) × (null ≡ false) × (variable ≡ Some x)
variable_chosen (Some b) null int variable x e = absurd (wrong_test (code.BoolLiteral b) (code.Variable x) is_variable refl refl e)
variable_chosen None true int variable x e = absurd (wrong_test code.NullLiteral (code.Variable x) is_variable refl refl e)
variable_chosen None false (Some z) variable x e = absurd (wrong_test (code.IntLiteral z) (code.Variable x) is_variable refl refl e)
variable_chosen None false None None x e = absurd (none-some (code.Variable x) e)
variable_chosen None false None (Some y) x e = (refl, refl, ap Some (ap (name_in x) (some_same (code.Variable y) (code.Variable x) e)))

integer_chosen : (truth : Option Bool) (null : Bool) (int : Option ℤ) (variable : Option Name) (z : ℤ) → chosen truth null int variable ≡ Some (code.IntLiteral z) → int ≡ Some z
integer_chosen (Some b) null int variable z e = absurd (wrong_test (code.BoolLiteral b) (code.IntLiteral z) is_integer refl refl e)
integer_chosen None true int variable z e = absurd (wrong_test code.NullLiteral (code.IntLiteral z) is_integer refl refl e)
integer_chosen None false (Some y) variable z e = ap Some (ap (integer_in z) (some_same (code.IntLiteral y) (code.IntLiteral z) e))
integer_chosen None false None None z e = absurd (none-some (code.IntLiteral z) e)
integer_chosen None false None (Some x) z e = absurd (wrong_test (code.Variable x) (code.IntLiteral z) is_integer refl refl e)

-- ---- integers

below_wide : (z : ℤ) → is_below narrow z ≡ true → is_below wide z ≡ true
below_wide (pos n) e = lt-ltb n wide (omega (arith, ltb-true n narrow e))
below_wide (negsuc n) e = lt-ltb n wide (omega (arith, ltb-true n narrow e))

-- what code has as an integer is one of terms
integer_is_wide : (z : ℤ) → integer_of narrow (integer_text z) ≡ Some z → integer_of wide (integer_text z) ≡ Some z
integer_is_wide z e =
    let h = chained (λ y. cond (is_below narrow y) (Some y) None) (signed_of (integer_text z)) z e in
    let g = guarded (is_below narrow h.0) (Some h.0) z h.2 in
    integer_is_read z (below_wide z (subst (λ y. is_below narrow y ≡ true) (some_same h.0 z g.1) g.0))

-- ---- names

denied : (c : Bool) → not c ≡ true → c ≡ false
denied true p = absurd (true≢false (sym p))
denied false p = refl

-- a name is no integer
name_is_no_integer : (w : List ℕ) → is_name w ≡ true → integer_of wide w ≡ None
name_is_no_integer [] e = refl
name_is_no_integer (b ∷ bs) e =
    let h = and_parts (not (is_digit b)) (list_all is_name_byte (b ∷ bs)) e in
    let first = (and_parts (is_name_byte b) (list_all is_name_byte bs) h.1).0 in
    let sign : nat_eq b 45 ≡ false = ne_eqb b 45 (λ at. true≢false (sym (subst (λ a. is_name_byte a ≡ true) at first))) in
    let digit : is_digit b ≡ false = denied (is_digit b) h.0 in
    ap (option_and_then (λ y. cond (is_below wide y) (Some y) None))
    (ap (λ c. cond c (option_and_then minus (natural_of bs)) (option_map pos (natural_of (b ∷ bs)))) sign
    ∙ ap (λ c. option_map pos (cond (c && list_all is_digit bs && (not (nat_eq b 48) || is_empty bs)) (Some (digits_value 10 (b ∷ bs))) None)) digit)

-- under no binder no word is an index
no_index : (w : List ℕ) → bound_of [] w ≡ None
no_index w = by (bound_number w)
  where
    by : (o : Option ℕ) → option_and_then (λ k. option_map (terms.Bound k) (at_number [] k)) o ≡ None
    by None = refl
    by (Some k) = refl

abbrev pub no_name : Option Name
no_name = None

pub none_both : (c : Bool) → cond c no_name no_name ≡ no_name
none_both true = refl
none_both false = refl

abbrev begins_with_at : List ℕ → Bool
begins_with_at [] = false
begins_with_at (b ∷ bs) = nat_eq b 64

-- a special word is neither `created` nor one of a constant
special_is_term_name : (w : List ℕ) (s : Sort) → special_sort 64 w ≡ Some s → (w ≢ codes "created") × (constant_of w ≡ None)
special_is_term_name [] s e = absurd (none-some s e)
special_is_term_name (a ∷ []) s e = absurd (none-some s e)
special_is_term_name (a ∷ (b ∷ bs)) s e =
    let h = guarded (nat_eq a 64 && list_all is_special_byte bs) (letter_sort b) s e in
    let at = eqb-true a 64 (and_parts (nat_eq a 64) (list_all is_special_byte bs) h.0).0 in
    subst (λ c. ((c ∷ (b ∷ bs)) ≢ codes "created") × (constant_of (c ∷ (b ∷ bs)) ≡ None)) (sym at)
    ((λ is. true≢false (ap begins_with_at is)), none_both (is_name (64 ∷ (b ∷ bs))))

listed_is_term_name : (xs : List Name) → AreTermNames xs → (w : List ℕ) (x : Name) → find (λ (y : Name). bytes_eq y.text w) xs ≡ Some x → IsTermName x
listed_is_term_name [] are w x e = absurd (none-some x e)
listed_is_term_name (y ∷ ys) are w x e =
    parted_by (bytes_eq y.text w) (Some y) (find (λ (z : Name). bytes_eq z.text w) ys) x e
    (λ passes is. subst IsTermName (some_same y x is) are.0)
    (λ fails is. listed_is_term_name ys are.1 w x is)

no_word : {A : Type 0} (v w : List ℕ) (x : A) → w ≢ v → bytes_eq v w ≡ false
no_word v w x other = elim (cases_Bool (bytes_eq v w)) [
  | inl same ↦ absurd (other (sym (same_bytes v w same)))
  | inr is ↦ is
]

module _ (names : NameTable) (are : AreTermNames names.variables) where
  -- a word that names a variable is a name, and neither `created` nor one of a constant
  variable_word : (x : Name) → variable_of names x.text ≡ Some x → (is_name x.text ≡ true) × IsTermName x
  variable_word x e =
      let h = guarded (is_name x.text) (option_or (special_of x.text) (find (λ (y : Name). bytes_eq y.text x.text) names.variables)) x e in (
        h.0,
        either (special_of x.text) (find (λ (y : Name). bytes_eq y.text x.text) names.variables) x h.1
            (λ is. mapped (λ y. IsTermName x) (named x.text) (option_and_then not_field (special_sort 64 x.text)) x is (λ s this. let g = chained not_field (special_sort 64 x.text) s this in special_is_term_name x.text g.0 g.1))
            (λ is. listed_is_term_name names.variables are x.text x is),
      )

  -- a variable that code has is one that terms have
  variable_is_term : (x : Name) → ExprKnown names (code.Variable x) → TermKnown names [] (terms.ProgramVariable x)
  variable_is_term x e =
      let w = x.text in
      let h = variable_chosen (truth_of w) (bytes_eq (codes "null") w) (integer_of narrow w) (variable_of names w) x e in
      let g = variable_word x h.2 in
      let created = no_word (codes "created") w x g.1.0 in
      let number = name_is_no_integer w g.0 in
      λ i. option_or (option_map terms.Boolean (h.0 i))
      (option_or (cond (h.1 i) (Some terms.NullTerm) None)
      (option_or (cond (created i) (Some terms.CreatedField) None)
      (option_or (option_map terms.Number (number i))
      (option_or (no_index w i)
      (option_or (option_map terms.Constant (g.1.1 i))
      (option_or (option_map terms.ProgramVariable (h.2 i))
      (option_map terms.NamedField (field_of names w))))))))

  integer_is_term : (z : ℤ) → ExprKnown names (code.IntLiteral z) → TermKnown names [] (terms.Number z)
  integer_is_term z e =
      let w = integer_text z in
      literal_is_known names z (integer_is_wide z (integer_chosen (truth_of w) (bytes_eq (codes "null") w) (integer_of narrow w) (variable_of names w) z e))

  -- what a simple expression is as a term
  abbrev TermIs : List Sort → Sort → PlainTerm → Type 0
  TermIs ctx s t = AtSort s t (SpelledTerm names ctx t)

  simple_term_spelled : (ctx : List Sort) (s : Sort) (e : Expr) (t : PlainTerm) → simple_term e ≡ Some t → ExprKnown names e → has_value names s e ≡ true → TermIs ctx s t
  simple_term_spelled ctx s (code.IntLiteral z) t is known sort = subst (TermIs ctx s) (some_same (terms.Number z) t is) (one_sort IntSort s sort, integer_is_term z known)
  simple_term_spelled ctx s (code.BoolLiteral b) t is known sort = subst (TermIs ctx s) (some_same (terms.Boolean b) t is) (one_sort BoolSort s sort, tt)
  simple_term_spelled ctx s code.NullLiteral t is known sort = subst (TermIs ctx s) (some_same terms.NullTerm t is) (one_sort RefSort s sort, tt)
  simple_term_spelled ctx s (code.Variable x) t is known sort = subst (TermIs ctx s) (some_same (terms.ProgramVariable x) t is) (one_sort x.sort s sort, variable_is_term x known)
  simple_term_spelled ctx s e t is known sort = absurd (none-some t is)

pub simple_terms_are_spelled : SimpleTermsAreSpelled
simple_terms_are_spelled = simple_term_spelled
