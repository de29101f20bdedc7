-- What is spelled stays so under more binders, lifted below one more, and with a term for an index.
use Rattle.std.proofs.Common.{Bool, List, Some, [], add-one, ap, arith, false, if◌then◌else◌, length, nat_lt, refl, subst, suc, sym, true, zero, ◌++◌, ◌+◌, ◌-◌, ◌<◌, ◌∙◌, ◌∷◌, ◌≡◌, ℕ}
use Rattle.std.proofs.lemmas.Bool.{ltb-false, ltb-true}
use Rattle.std.proofs.lemmas.Option.{none-some}
use Rattle.jd_base.specs.declared.sort.Sort.{Sort}
use Rattle.jd_model.proofs.Indices.{raised, raised_is}
use Rattle.jd_spelled_trees.proofs.Mapped.{mapped_formula, mapped_loc, mapped_term}
use Rattle.jd_spelled_trees.specs.Spelled.{AtSort, SpelledFormula, SpelledLoc, SpelledTerm}
use Rattle.jd_term.proofs.Leafwise.{same_formula, same_loc, same_term}
use Rattle.jd_term.specs.Formulas.{PlainFormula}
use Rattle.jd_term.specs.Maps.{unchanged_leaves}
use Rattle.jd_term.specs.Shifts.{formula_shift, loc_shift, shift_leaves, term_shift}
use Rattle.jd_term.specs.Substitutions.{formula_subst, index_subst, loc_subst, subst_leaves, term_subst}
use Rattle.jd_term.specs.Terms.{Bound, PlainLoc, PlainTerm, sort_of_term}
use Rattle.jd_tforms.proofs.Somes.{some_same}
use Rattle.jd_tforms.specs.Naming.{at_number}
use Rattle.jd_tgrammar.specs.NameTables.{NameTable}

-- ---- numbers in lists of binders

same_number : (l : List Sort) (m n : ℕ) → m ≡ n → at_number l m ≡ at_number l n
same_number l m n e = ap (at_number l) e

-- what has a number in the front of a list
in_front : (front behind : List Sort) (k : ℕ) → k < length front → at_number (front ++ behind) k ≡ at_number front k
in_front [] behind k lt = absurd (omega (arith, lt))
in_front (s ∷ front) behind zero lt = refl
in_front (s ∷ front) behind (suc k) lt = in_front front behind k (omega (arith, lt))

-- and behind it
behind_front : (front behind : List Sort) (k : ℕ) → at_number (front ++ behind) (length front + k) ≡ at_number behind k
behind_front [] behind k = same_number behind (0 + k) k (omega arith)
behind_front (s ∷ front) behind k = same_number (s ∷ (front ++ behind)) (suc (length front) + k) (suc (length front + k)) (omega arith) ∙ behind_front front behind k

-- where one stands between, the numbers behind it are one more
past_one : (front behind : List Sort) (s : Sort) (k : ℕ) → length front < k → at_number (front ++ (s ∷ behind)) k ≡ at_number (front ++ behind) (k - 1)
past_one [] behind s zero lt = absurd (omega (arith, lt))
past_one [] behind s (suc k) lt = same_number behind k (suc k - 1) (omega arith)
past_one (r ∷ front) behind s zero lt = absurd (omega (arith, lt))
past_one (r ∷ front) behind s (suc zero) lt = absurd (omega (arith, lt))
past_one (r ∷ front) behind s (suc (suc k)) lt =
    past_one front behind s (suc k) (omega (arith, lt))
    ∙ (same_number (front ++ behind) (suc k - 1) k (omega arith) ∙ same_number (r ∷ (front ++ behind)) (suc k) (suc (suc k) - 1) (omega arith))

-- the number from the front's length on that is raised by the length of more
raised_at : (front more behind : List Sort) (k : ℕ) → at_number (front ++ (more ++ behind)) (raised (length more) (length front) k) ≡ at_number (front ++ behind) k
raised_at [] more behind k = behind_front more behind k
raised_at (s ∷ front) more behind zero = refl
raised_at (s ∷ front) more behind (suc k) = raised_at front more behind k

-- ---- lifts

-- binders stand between, behind so many
abbrev Between : List Sort → List Sort → ℕ → List Sort → List Sort → Type 0
Between more behind k ctx new = (front : List Sort) × (ctx ≡ front ++ behind) × (new ≡ front ++ (more ++ behind)) × (k ≡ length front)

next_between : (more behind : List Sort) (k : ℕ) (ctx new : List Sort) (s : Sort) → Between more behind k ctx new → Between more behind (k + 1) (s ∷ ctx) (s ∷ new)
next_between more behind k ctx new s r = (s ∷ r.0, ap (λ l. s ∷ l) r.1, ap (λ l. s ∷ l) r.2, add-one k ∙ ap suc r.3)

module _ (names : NameTable) (more behind : List Sort) (n : ℕ) (same : n ≡ length more) where
  raised_index : (k : ℕ) (ctx new : List Sort) → Between more behind k ctx new → (i : ℕ) (s : Sort) → at_number ctx i ≡ Some s → at_number new (if nat_lt i k then i else i + n) ≡ Some s
  raised_index k ctx new r i s e =
      (λ j. at_number (r.2 j) (sym (raised_is n k i) j))
      ∙ ((λ j. at_number (r.0 ++ (more ++ behind)) (raised (same j) (r.3 j) i))
      ∙ (raised_at r.0 more behind i ∙ (ap (λ l. at_number l i) (sym r.1) ∙ e)))

  abbrev start : Between more behind 0 behind (more ++ behind)
  start = ([], refl, refl, refl)

  pub raised_term : (t : PlainTerm) → SpelledTerm names behind t → AtSort (sort_of_term t) (term_shift 0 n t) (SpelledTerm names (more ++ behind) (term_shift 0 n t))
  raised_term t h = mapped_term names (shift_leaves n) (Between more behind) (next_between more behind) (λ k x. refl) (λ k x. refl) (λ k ctx new r i s e. (refl, raised_index k ctx new r i s e)) 0 behind (more ++ behind) start t h

  pub raised_loc : (l : PlainLoc) → SpelledLoc names behind l → SpelledLoc names (more ++ behind) (loc_shift 0 n l)
  raised_loc l h = mapped_loc names (shift_leaves n) (Between more behind) (next_between more behind) (λ k x. refl) (λ k x. refl) (λ k ctx new r i s e. (refl, raised_index k ctx new r i s e)) 0 behind (more ++ behind) start l h

  pub raised_formula : (a : PlainFormula) → SpelledFormula names behind a → SpelledFormula names (more ++ behind) (formula_shift 0 n a)
  raised_formula a h = mapped_formula names (shift_leaves n) (Between more behind) (next_between more behind) (λ k x. refl) (λ k x. refl) (λ k ctx new r i s e. (refl, raised_index k ctx new r i s e)) 0 behind (more ++ behind) start a h

-- ---- puts

-- a binder is left out, behind so many
abbrev LeftOut : Sort → List Sort → ℕ → List Sort → List Sort → Type 0
LeftOut s behind n ctx new = (front : List Sort) × (ctx ≡ front ++ (s ∷ behind)) × (new ≡ front ++ behind) × (n ≡ length front)

next_left_out : (s : Sort) (behind : List Sort) (n : ℕ) (ctx new : List Sort) (q : Sort) → LeftOut s behind n ctx new → LeftOut s behind (n + 1) (q ∷ ctx) (q ∷ new)
next_left_out s behind n ctx new q r = (q ∷ r.0, ap (λ l. q ∷ l) r.1, ap (λ l. q ∷ l) r.2, add-one n ∙ ap suc r.3)

module _ (names : NameTable) (s : Sort) (behind : List Sort) (t : PlainTerm) (put : AtSort s t (SpelledTerm names behind t)) where
  put_index : (front : List Sort) (k : ℕ) (r : Sort) → at_number (front ++ (s ∷ behind)) k ≡ Some r → AtSort r (index_subst (length front) 0 t k r) (SpelledTerm names (front ++ behind) (index_subst (length front) 0 t k r))
  put_index front k r e = by (nat_lt k (0 + length front)) (nat_lt (0 + length front) k) refl refl
    where
      by : (a b : Bool) → nat_lt k (0 + length front) ≡ a → nat_lt (0 + length front) k ≡ b → AtSort r (if a then Bound k r else (if b then Bound (k - 1) r else term_shift 0 (length front) t)) (SpelledTerm names (front ++ behind) (if a then Bound k r else (if b then Bound (k - 1) r else term_shift 0 (length front) t)))
      by true b p q =
          let lt : k < length front = omega (arith, ltb-true k (0 + length front) p) in
          (refl, in_front front behind k lt ∙ (sym (in_front front (s ∷ behind) k lt) ∙ e))
      by false true p q =
          let lt : length front < k = omega (arith, ltb-true (0 + length front) k q) in
          (refl, sym (past_one front behind s k lt) ∙ e)
      by false false p q =
          let at : k ≡ length front + 0 = omega (arith, ltb-false k (0 + length front) p, ltb-false (0 + length front) k q) in
          let is : s ≡ r = some_same s r (sym (behind_front front (s ∷ behind) 0) ∙ (sym (ap (at_number (front ++ (s ∷ behind))) at) ∙ e)) in
          let up = raised_term names front behind (length front) refl t put.1 in
          (up.0 ∙ (put.0 ∙ is), up.1)

  left_out : (n : ℕ) (ctx new : List Sort) → LeftOut s behind n ctx new → (k : ℕ) (r : Sort) → at_number ctx k ≡ Some r → AtSort r (index_subst n 0 t k r) (SpelledTerm names new (index_subst n 0 t k r))
  left_out n ctx new l k r e =
      subst (λ j. AtSort r (index_subst j 0 t k r) (SpelledTerm names new (index_subst j 0 t k r))) (sym l.3)
      (subst (λ c. AtSort r (index_subst (length l.0) 0 t k r) (SpelledTerm names c (index_subst (length l.0) 0 t k r))) (sym l.2)
      (put_index l.0 k r (ap (λ c. at_number c k) (sym l.1) ∙ e)))

  abbrev begin : LeftOut s behind 0 (s ∷ behind) behind
  begin = ([], refl, refl, refl)

  pub put_in_term : (u : PlainTerm) → SpelledTerm names (s ∷ behind) u → AtSort (sort_of_term u) (term_subst 0 0 t u) (SpelledTerm names behind (term_subst 0 0 t u))
  put_in_term u h = mapped_term names (subst_leaves 0 t) (LeftOut s behind) (next_left_out s behind) (λ k x. refl) (λ k x. refl) left_out 0 (s ∷ behind) behind begin u h

  pub put_in_loc : (l : PlainLoc) → SpelledLoc names (s ∷ behind) l → SpelledLoc names behind (loc_subst 0 0 t l)
  put_in_loc l h = mapped_loc names (subst_leaves 0 t) (LeftOut s behind) (next_left_out s behind) (λ k x. refl) (λ k x. refl) left_out 0 (s ∷ behind) behind begin l h

  pub put_in_formula : (a : PlainFormula) → SpelledFormula names (s ∷ behind) a → SpelledFormula names behind (formula_subst 0 0 t a)
  put_in_formula a h = mapped_formula names (subst_leaves 0 t) (LeftOut s behind) (next_left_out s behind) (λ k x. refl) (λ k x. refl) left_out 0 (s ∷ behind) behind begin a h

-- ---- more binders outside

abbrev Outside : List Sort → ℕ → List Sort → List Sort → Type 0
Outside more k ctx new = new ≡ ctx ++ more

wider_index : (ctx more : List Sort) (k : ℕ) (s : Sort) → at_number ctx k ≡ Some s → at_number (ctx ++ more) k ≡ Some s
wider_index [] more k s e = absurd (none-some s e)
wider_index (r ∷ ctx) more zero s e = e
wider_index (r ∷ ctx) more (suc k) s e = wider_index ctx more k s e

module _ (names : NameTable) (ctx more : List Sort) where
  outside : (k : ℕ) (old new : List Sort) → Outside more k old new → (i : ℕ) (s : Sort) → at_number old i ≡ Some s → AtSort s (Bound i s) (SpelledTerm names new (Bound i s))
  outside k old new r i s e = (refl, ap (λ l. at_number l i) r ∙ wider_index old more i s e)

  pub wider_term : (t : PlainTerm) → SpelledTerm names ctx t → SpelledTerm names (ctx ++ more) t
  wider_term t h = subst (SpelledTerm names (ctx ++ more)) (same_term unchanged_leaves (λ k x. refl) 0 t) (mapped_term names unchanged_leaves (Outside more) (λ k old new s r. ap (λ l. s ∷ l) r) (λ k x. refl) (λ k x. refl) outside 0 ctx (ctx ++ more) refl t h).1

  pub wider_loc : (l : PlainLoc) → SpelledLoc names ctx l → SpelledLoc names (ctx ++ more) l
  wider_loc l h = subst (SpelledLoc names (ctx ++ more)) (same_loc unchanged_leaves (λ k x. refl) 0 l) (mapped_loc names unchanged_leaves (Outside more) (λ k old new s r. ap (λ l. s ∷ l) r) (λ k x. refl) (λ k x. refl) outside 0 ctx (ctx ++ more) refl l h)

  pub wider_formula : (a : PlainFormula) → SpelledFormula names ctx a → SpelledFormula names (ctx ++ more) a
  wider_formula a h = subst (SpelledFormula names (ctx ++ more)) (same_formula unchanged_leaves (λ k x. refl) 0 a) (mapped_formula names unchanged_leaves (Outside more) (λ k old new s r. ap (λ l. s ∷ l) r) (λ k x. refl) (λ k x. refl) outside 0 ctx (ctx ++ more) refl a h)
