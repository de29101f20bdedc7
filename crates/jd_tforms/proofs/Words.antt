-- What a word stands for is written as that word.
use Rattle.std.proofs.Common.{◌≡◌, ℕ, zero, suc, ℤ, pos, negsuc, List, [], ◌∷◌, ◌++◌, Bool, true, false, not, ◌&&◌, nat_eq, nat_lt, cond, Option, Some, None, option_map, codes, refl, sym, ap, ◌∙◌, subst, arith}
use Rattle.std.specs.List.{find}
use Rattle.std.specs.Option.{option_and_then, option_or}
use Rattle.std.specs.Str.{bytes_eq}
use Rattle.std.specs.Str.Parse.{digits_value}
use Rattle.std.proofs.lemmas.Bool.{and_parts}
use Rattle.std.proofs.lemmas.Bool.Decides.{nat_tests}
use Rattle.std.proofs.lemmas.Option.{none-some}
use Rattle.std.proofs.lemmas.List.{append_assoc}
use Rattle.jd_base.specs.declared.sort.Sort.{Sort}
use Rattle.jd_syntax.specs.Names.{Name}
use Rattle.jd_syntax.specs.Sxs.{Atom}
use Rattle.jd_syntax.specs.Codes as code
use Rattle.jd_syntax.specs.Codes.{PlainKind, OfClass, IntArray, Expr}
use Rattle.jd_term.specs.Terms as terms
use Rattle.jd_term.specs.Terms.{PlainTerm, PlainLoc}
use Rattle.jd_term.specs.Formulas as formulas
use Rattle.jd_term.specs.Formulas.{PlainFormula}
use Rattle.jd_written.specs.Written.{number_text, integer_text}
use Rattle.jd_tgrammar.specs.NameTables.{NameTable, member_word}
use Rattle.jd_tgrammar.specs.Spelling.{class_word, field_word, kind_word, method_word, result_word, routine, no_field, no_routine, term_text, loc_text, expr_text, formula_text}
use Rattle.jd_tgrammar.specs.Words.{sort_word, truth_word, bound_word, label_word, array_word}
use Rattle.jd_tforms.specs.Shapes.{is_name, is_natural, natural_of, number_of, is_number, bound_number, loop_of, label_of, minus, signed_of, integer_of, is_below, wide, narrow}
use Rattle.jd_tforms.specs.Naming.{number_where, at_number, if_word, named, special_sort, not_field, constant_of, special_of, truth_of, quantified, sort_of_word, class_of, kind_of, is_field, field_of, is_static, static_of, is_constructor, constructor_of, parted, is_method, seen_method, method_at, method_of, variable_of, result_of, bound_of, word_term, word_expr, word_loc}
use Rattle.jd_tforms.specs.Known.{TermKnown, LocKnown, ExprKnown, FormulaKnown}
use Rattle.jd_tforms.specs.Reading.{truth_formula}
use Rattle.jd_tforms.proofs.Numerals.{numeral}
use Rattle.jd_tforms.proofs.Somes.{some_same, mapped, chained, either, guarded, parted_by, found_number, found, same_bytes, word_is}

-- ---- numbers

pub natural_is : (w : List ℕ) (n : ℕ) → natural_of w ≡ Some n → number_text n ≡ w
natural_is w n e =
    let h = guarded (is_natural w) (Some (digits_value 10 w)) n e in
    ap number_text (sym (some_same (digits_value 10 w) n h.1)) ∙ numeral w h.0

pub number_is : (w : List ℕ) (n : ℕ) → number_of w ≡ Some n → number_text n ≡ w
number_is w n e =
    let h = chained (λ k. cond (is_number k) (Some k) None) (natural_of w) n e in
    let g = guarded (is_number h.0) (Some h.0) n h.2 in
    ap number_text (sym (some_same h.0 n g.1)) ∙ natural_is w h.0 h.1

pub loop_is : (w : List ℕ) (n : ℕ) → loop_of w ≡ Some n → number_text n ≡ w
loop_is w n e =
    let h = chained (λ k. cond (nat_lt k 1000000000) (Some k) None) (natural_of w) n e in
    let g = guarded (nat_lt h.0 1000000000) (Some h.0) n h.2 in
    ap number_text (sym (some_same h.0 n g.1)) ∙ natural_is w h.0 h.1

same_number : (a b : ℕ) → nat_eq a b ≡ true → a ≡ b
same_number a b e = grind (arith, nat_tests)

pub label_is : (w : List ℕ) (n : ℕ) → label_of w ≡ Some n → label_word n ≡ w
label_is [] n e = absurd (none-some n e)
label_is (b ∷ bs) n e =
    let h = guarded (nat_eq b 108) (number_of bs) n e in
    ap (λ w. 108 ∷ w) (number_is bs n h.1) ∙ ap (λ a. a ∷ bs) (sym (same_number b 108 h.0))

pub bound_is : (w : List ℕ) (n : ℕ) → bound_number w ≡ Some n → bound_word n ≡ w
bound_is [] n e = absurd (none-some n e)
bound_is (b ∷ bs) n e =
    let h = guarded (nat_eq b 37) (loop_of bs) n e in
    ap (λ w. 37 ∷ w) (loop_is bs n h.1) ∙ ap (λ a. a ∷ bs) (sym (same_number b 37 h.0))

signed_is : (w : List ℕ) (z : ℤ) → signed_of w ≡ Some z → integer_text z ≡ w
signed_is [] z e = absurd (none-some z e)
signed_is (b ∷ bs) z e =
    parted_by (nat_eq b 45) (option_and_then minus (natural_of bs)) (option_map pos (natural_of (b ∷ bs))) z e
    (λ sign is. let h = chained minus (natural_of bs) z is in
    by h.0 h.2 (natural_is bs h.0 h.1) (same_number b 45 sign))
    (λ none is. mapped (λ y. integer_text y ≡ b ∷ bs) pos (natural_of (b ∷ bs)) z is (λ n this. natural_is (b ∷ bs) n this))
  where
    by : (n : ℕ) → minus n ≡ Some z → number_text n ≡ bs → b ≡ 45 → integer_text z ≡ b ∷ bs
    by zero g same sign = absurd (none-some z g)
    by (suc n) g same sign = ap integer_text (sym (some_same (negsuc n) z g)) ∙ (ap (λ w. 45 ∷ w) same ∙ ap (λ a. a ∷ bs) (sym sign))

pub integer_is : (limit : ℕ) (w : List ℕ) (z : ℤ) → integer_of limit w ≡ Some z → integer_text z ≡ w
integer_is limit w z e =
    let h = chained (λ y. cond (is_below limit y) (Some y) None) (signed_of w) z e in
    let g = guarded (is_below limit h.0) (Some h.0) z h.2 in
    ap integer_text (sym (some_same h.0 z g.1)) ∙ signed_is w h.0 h.1

-- ---- words with a fixed meaning

pub truth_is : (w : List ℕ) (b : Bool) → truth_of w ≡ Some b → truth_word b ≡ w
truth_is w b e =
    either (if_word (truth_word true) true w) (if_word (truth_word false) false w) b e
    (λ is. let h = word_is (truth_word true) true w b is in ap truth_word (sym h.1) ∙ h.0)
    (λ is. let h = word_is (truth_word false) false w b is in ap truth_word (sym h.1) ∙ h.0)

pub sort_is : (w : List ℕ) (s : Sort) → sort_of_word w ≡ Some s → sort_word s ≡ w
sort_is w s e = same_bytes (sort_word s) w (found (λ (q : Sort). bytes_eq (sort_word q) w) quantified s e)

-- ---- names

pub constant_is : (w : List ℕ) (c : Name) → constant_of w ≡ Some c → c.text ≡ w
constant_is w c e =
    let h = guarded (is_name w) (option_map (named w) (special_sort 35 w)) c e in
    mapped (λ (x : Name). x.text ≡ w) (named w) (special_sort 35 w) c h.1 (λ s is. refl)

pub special_is : (w : List ℕ) (x : Name) → special_of w ≡ Some x → x.text ≡ w
special_is w x e = mapped (λ (y : Name). y.text ≡ w) (named w) (option_and_then not_field (special_sort 64 w)) x e (λ s is. refl)

module _ (names : NameTable) where
  pub class_is : (w : List ℕ) (c : ℕ) → class_of names w ≡ Some c → class_word names c ≡ w
  class_is w c e =
      let h = guarded (is_name w) (number_where (λ d. bytes_eq d w) names.classes) c e in
      same_bytes (class_word names c) w (found_number (λ (d : List ℕ). bytes_eq d w) names.classes [] c h.1)

  pub kind_is : (w : List ℕ) (k : PlainKind) → kind_of names w ≡ Some k → kind_word names k ≡ w
  kind_is w k e =
      either (if_word array_word IntArray w) (option_map OfClass (class_of names w)) k e
      (λ is. let h = word_is array_word IntArray w k is in ap (kind_word names) (sym h.1) ∙ h.0)
      (λ is. mapped (λ (j : PlainKind). kind_word names j ≡ w) OfClass (class_of names w) k is (λ c this. class_is w c this))

  pub field_is : (w : List ℕ) (f : ℕ) → field_of names w ≡ Some f → field_word names f ≡ w
  field_is w f e =
      let h = guarded (is_name w) (number_where (is_field names w) names.fields) f e in
      same_bytes (field_word names f) w (found_number (is_field names w) names.fields (no_field names) f h.1)

  pub static_is : (w : List ℕ) (m : ℕ) → static_of names w ≡ Some m → method_word names (routine names m).class m ≡ w
  static_is w m e =
      let h = guarded (is_name w) (number_where (is_static names w) names.routines) m e in
      let r = routine names m in
      let both = and_parts (r.static && not r.constructor) (bytes_eq (method_word names r.class m) w) (found_number (is_static names w) names.routines (no_routine names) m h.1) in
      same_bytes (method_word names r.class m) w both.1

  pub constructor_is : (w : List ℕ) (m : ℕ) → constructor_of names w ≡ Some m → class_word names (routine names m).class ≡ w
  constructor_is w m e =
      let h = guarded (is_name w) (number_where (is_constructor names w) names.routines) m e in
      let r = routine names m in
      let both = and_parts r.constructor (bytes_eq (class_word names r.class) w) (found_number (is_constructor names w) names.routines (no_routine names) m h.1) in
      same_bytes (class_word names r.class) w both.1

  pub parted_is : (front w a b : List ℕ) → parted names front w ≡ Some (a, b) → front ++ w ≡ member_word a b
  parted_is front [] a b e = absurd (none-some (a, b) e)
  parted_is front (c ∷ cs) a b e =
      parted_by (nat_eq c 46) (Some (front, cs)) (parted names (front ++ c ∷ []) cs) (a, b) e
      (λ dot is. let p : (front, cs) ≡ (a, b) = some_same (front, cs) (a, b) is in
      ap (λ d. front ++ d ∷ cs) (same_number c 46 dot) ∙ (ap (λ (q : List ℕ × List ℕ). q.0 ++ 46 ∷ q.1) p))
      (λ none is. sym (append_assoc front (c ∷ []) cs) ∙ parted_is (front ++ c ∷ []) cs a b is)

  method_seen : (name : List ℕ) (c d m : ℕ) → seen_method names name c ≡ Some (d, m) → (c ≡ d) × ((routine names m).name ≡ name)
  method_seen name c d m e =
      let h = chained (λ k. cond (is_method names name (routine names k)) (Some (c, k)) None) (names.seen c name) (d, m) e in
      let g = guarded (is_method names name (routine names h.0)) (Some (c, h.0)) (d, m) h.2 in
      let p : (c, h.0) ≡ (d, m) = some_same (c, h.0) (d, m) g.1 in
      let r = routine names h.0 in
      let both = and_parts (not r.static && not r.constructor) (bytes_eq r.name name) g.0 in
      (ap (λ (q : ℕ × ℕ). q.0) p, ap (λ (q : ℕ × ℕ). (routine names q.1).name) (sym p) ∙ same_bytes r.name name both.1)

  pub method_is : (w : List ℕ) (c m : ℕ) → method_of names w ≡ Some (c, m) → method_word names c m ≡ w
  method_is w c m e =
      let h = guarded (is_name w) (option_and_then (method_at names) (parted names [] w)) (c, m) e in
      let p = chained (method_at names) (parted names [] w) (c, m) h.1 in
      let q = chained (seen_method names p.0.1) (class_of names p.0.0) (c, m) p.2 in
      let seen = method_seen p.0.1 q.0 c m q.2 in
      ap (λ d. member_word (class_word names d) (routine names m).name) (sym seen.0)
      ∙ (ap (λ n. member_word (class_word names q.0) n) seen.1
      ∙ (ap (λ v. member_word v p.0.1) (class_is p.0.0 q.0 q.1)
      ∙ sym (parted_is [] w p.0.0 p.0.1 p.1)))

  pub variable_is : (w : List ℕ) (x : Name) → variable_of names w ≡ Some x → x.text ≡ w
  variable_is w x e =
      let h = guarded (is_name w) (option_or (special_of w) (find (λ (y : Name). bytes_eq y.text w) names.variables)) x e in
      either (special_of w) (find (λ (y : Name). bytes_eq y.text w) names.variables) x h.1
      (λ is. special_is w x is)
      (λ is. same_bytes x.text w (found (λ (y : Name). bytes_eq y.text w) names.variables x is))

  pub result_is : (w : List ℕ) (r : Option Name) → result_of names w ≡ Some r → result_word names r ≡ w
  result_is w r e =
      either (if_word (codes "-") None w) (option_map Some (variable_of names w)) r e
      (λ is. let h = word_is (codes "-") None w r is in ap (result_word names) (sym h.1) ∙ h.0)
      (λ is. mapped (λ (q : Option Name). result_word names q ≡ w) Some (variable_of names w) r is (λ x this. variable_is w x this))

  -- ---- terms of one word

  abbrev TermIs : List Sort → List ℕ → PlainTerm → Type 0
  TermIs ctx w t = word_term names ctx w ≡ Some t → (term_text names t ≡ Atom w) × TermKnown names ctx t

  leaf : (ctx : List Sort) (w v : List ℕ) (t : PlainTerm) → v ≡ w → word_term names ctx w ≡ Some t → word_term names ctx v ≡ Some t
  leaf ctx w v t e is = ap (word_term names ctx) e ∙ is

  bound_term : (ctx : List Sort) (w : List ℕ) (t : PlainTerm) → bound_of ctx w ≡ Some t → TermIs ctx w t
  bound_term ctx w t e =
      let h = chained (λ k. option_map (terms.Bound k) (at_number ctx k)) (bound_number w) t e in
      mapped (TermIs ctx w) (terms.Bound h.0) (at_number ctx h.0) t h.2
      (λ s this is. (ap Atom (bound_is w h.0 h.1), leaf ctx w (bound_word h.0) (terms.Bound h.0 s) (bound_is w h.0 h.1) is))

  pub word_term_is : (ctx : List Sort) (w : List ℕ) (t : PlainTerm) → TermIs ctx w t
  word_term_is ctx w t e = either _ _ t e
      (λ is. mapped (TermIs ctx w) terms.Boolean (truth_of w) t is (λ b this all. (ap Atom (truth_is w b this), tt)) e)
      (λ e1. either _ _ t e1
      (λ is. let h = word_is (codes "null") terms.NullTerm w t is in subst (TermIs ctx w) h.1 (λ all. (ap Atom h.0, tt)) e)
      (λ e2. either _ _ t e2
      (λ is. let h = word_is (codes "created") terms.CreatedField w t is in subst (TermIs ctx w) h.1 (λ all. (ap Atom h.0, tt)) e)
      (λ e3. either _ _ t e3
      (λ is. mapped (TermIs ctx w) terms.Number (integer_of wide w) t is (λ z this all. (ap Atom (integer_is wide w z this), leaf ctx w (integer_text z) (terms.Number z) (integer_is wide w z this) all)) e)
      (λ e4. either _ _ t e4
      (λ is. bound_term ctx w t is e)
      (λ e5. either _ _ t e5
      (λ is. mapped (TermIs ctx w) terms.Constant (constant_of w) t is (λ c this all. (ap Atom (constant_is w c this), leaf ctx w c.text (terms.Constant c) (constant_is w c this) all)) e)
      (λ e6. either _ _ t e6
      (λ is. mapped (TermIs ctx w) terms.ProgramVariable (variable_of names w) t is (λ x this all. (ap Atom (variable_is w x this), leaf ctx w x.text (terms.ProgramVariable x) (variable_is w x this) all)) e)
      (λ is. mapped (TermIs ctx w) terms.NamedField (field_of names w) t is (λ f this all. (ap Atom (field_is w f this), leaf ctx w (field_word names f) (terms.NamedField f) (field_is w f this) all)) e)))))))

  abbrev ExprIs : List ℕ → Expr → Type 0
  ExprIs w t = word_expr names w ≡ Some t → (expr_text names t ≡ Atom w) × ExprKnown names t

  pub word_expr_is : (w : List ℕ) (t : Expr) → ExprIs w t
  word_expr_is w t e = either _ _ t e
      (λ is. mapped (ExprIs w) code.BoolLiteral (truth_of w) t is (λ b this all. (ap Atom (truth_is w b this), tt)) e)
      (λ e1. either _ _ t e1
      (λ is. let h = word_is (codes "null") code.NullLiteral w t is in subst (ExprIs w) h.1 (λ all. (ap Atom h.0, tt)) e)
      (λ e2. either _ _ t e2
      (λ is. mapped (ExprIs w) code.IntLiteral (integer_of narrow w) t is (λ z this all. (ap Atom (integer_is narrow w z this), ap (word_expr names) (integer_is narrow w z this) ∙ all)) e)
      (λ is. mapped (ExprIs w) code.Variable (variable_of names w) t is (λ x this all. (ap Atom (variable_is w x this), ap (word_expr names) (variable_is w x this) ∙ all)) e)))

  pub word_loc_is : (ctx : List Sort) (w : List ℕ) (l : PlainLoc) → word_loc w ≡ Some l → (loc_text names l ≡ Atom w) × LocKnown names ctx l
  word_loc_is ctx w l e = either _ _ l e
      (λ is. let h = word_is (codes "none") terms.NoLocations w l is in subst (λ m. (loc_text names m ≡ Atom w) × LocKnown names ctx m) h.1 (ap Atom h.0, tt))
      (λ is. let h = word_is (codes "all") terms.AllLocations w l is in subst (λ m. (loc_text names m ≡ Atom w) × LocKnown names ctx m) h.1 (ap Atom h.0, tt))

  pub word_formula_is : (ctx : List Sort) (w : List ℕ) (a : PlainFormula) → truth_formula w ≡ Some a → (formula_text names a ≡ Atom w) × FormulaKnown names ctx a
  word_formula_is ctx w a e =
      mapped (λ c. (formula_text names c ≡ Atom w) × FormulaKnown names ctx c) (λ b. cond b formulas.TrueFormula formulas.FalseFormula) (truth_of w) a e
      (λ b is. by b (truth_is w b is))
    where
      by : (b : Bool) → truth_word b ≡ w → (formula_text names (cond b formulas.TrueFormula formulas.FalseFormula) ≡ Atom w) × FormulaKnown names ctx (cond b formulas.TrueFormula formulas.FalseFormula)
      by true is = (ap Atom is, tt)
      by false is = (ap Atom is, tt)
