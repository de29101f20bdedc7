-- What a node of each production of lists of clauses tells: what its parts tell, and its own word.
use Rattle.std.proofs.Common.{◌≡◌, ℕ, zero, suc, ◌+◌, ◌≤◌, Bool, true, not, ◌&&◌, nat_le, true≢false, List, [], ◌∷◌, ◌++◌, drop, length, Some, refl, sym, ap, subst, ◌∙◌, arith}
use Rattle.std.specs.List.{slice_get, list_all, flat_map}
use Rattle.std.proofs.lemmas.Bool.{and_parts, both_ways, not-true, leb-true}
use Rattle.std.proofs.lemmas.List.{append-nil}
use Rattle.std.proofs.lemmas.Option.{none-some, same_Some}
use Rattle.jd_grammar.specs.Grammars.{Production, Forest}
use Rattle.jd_grammar.specs.Folds.{values, name_count}
use Rattle.jd_grammar.specs.Nodes.{all_of, filled}
use Rattle.jd_jml_grammar.specs.Productions.{jml_productions}
use Rattle.jd_jml_tokens.specs.Lexemes.{PlainLexeme}
use Rattle.jd_jml_values.specs.Values.{PlainValue, Nothing}
use Rattle.jd_jml_values.specs.Parts.{clauses_of}
use Rattle.jd_jml_clauses.specs.Meaning.{all_clauses}
use Rattle.jd_jml_trees.specs.Meaning.{value_of_node}
use Rattle.jd_jml_attributes.specs.Forms.{PlainForm, empty}
use Rattle.jd_jml_attributes.specs.Rules.{all_in_order, with_high}
use Rattle.jd_jml_attributes.specs.Judging.{form_of_node}
use Rattle.jd_jml_print.specs.Texts.{Texts}
use Rattle.jd_jml_texts.specs.Kept.{texts_of_node}
use Rattle.jd_jml_trimmed.proofs.Shapes.{IsShape, passes, tested, implies, implied, is_inner, all_upper, count}
use Rattle.jd_jml_trimmed.proofs.Levels.{AreLevel, all_low, levels, form_of_all}
use Rattle.jd_jml_trimmed.proofs.Sums.{tells, four, nothing, beside, sums, told_by, node, total, own, Owns}

-- ---- lists of parts

flat_clauses : (vs : List PlainValue) → length vs ≤ 3 → all_clauses (filled (all_of Nothing) vs) ≡ flat_map clauses_of vs
flat_clauses [] l = refl
flat_clauses (a ∷ []) l = refl
flat_clauses (a ∷ b ∷ []) l = refl
flat_clauses (a ∷ b ∷ c ∷ []) l = ap (λ ys. clauses_of a ++ (clauses_of b ++ ys)) (sym (append-nil (clauses_of c)))
flat_clauses (a ∷ b ∷ c ∷ d ∷ vs) l = let no_more : ⊥ = omega (arith, l) in absurd no_more

abbrev joined : List Texts → Texts
joined xs = flat_map (λ x. x) xs

texts0 : (xs : List Texts) → length xs ≡ 0 → [] ≡ joined xs
texts0 [] n = refl
texts0 (a ∷ xs) n = let no_more : ⊥ = omega (arith, n) in absurd no_more

texts1 : (xs : List Texts) → length xs ≡ 1 → (filled (all_of []) xs).first ≡ joined xs
texts1 [] n = let no_more : ⊥ = omega (arith, n) in absurd no_more
texts1 (a ∷ []) n = sym (append-nil a)
texts1 (a ∷ b ∷ xs) n = let no_more : ⊥ = omega (arith, n) in absurd no_more

texts2 : (xs : List Texts) → length xs ≡ 2 → (filled (all_of []) xs).first ++ (filled (all_of []) xs).second ≡ joined xs
texts2 [] n = let no_more : ⊥ = omega (arith, n) in absurd no_more
texts2 (a ∷ []) n = let no_more : ⊥ = omega (arith, n) in absurd no_more
texts2 (a ∷ b ∷ []) n = ap (λ ys. a ++ ys) (sym (append-nil b))
texts2 (a ∷ b ∷ c ∷ xs) n = let no_more : ⊥ = omega (arith, n) in absurd no_more

texts3 : (xs : List Texts) → length xs ≡ 3
    → (filled (all_of []) xs).first ++ ((filled (all_of []) xs).second ++ (filled (all_of []) xs).third) ≡ joined xs
texts3 [] n = let no_more : ⊥ = omega (arith, n) in absurd no_more
texts3 (a ∷ []) n = let no_more : ⊥ = omega (arith, n) in absurd no_more
texts3 (a ∷ b ∷ []) n = let no_more : ⊥ = omega (arith, n) in absurd no_more
texts3 (a ∷ b ∷ c ∷ []) n = ap (λ ys. a ++ (b ++ ys)) (sym (append-nil c))
texts3 (a ∷ b ∷ c ∷ d ∷ xs) n = let no_more : ⊥ = omega (arith, n) in absurd no_more

-- ---- a line for each production

record IsInner (p n : ℕ) (owns_as : Type 0) : Type 0 where
  told : (ts : List PlainLexeme) (vs : List PlainValue) (fs : List PlainForm) (xs : List Texts) → length vs ≡ n → length fs ≡ n → length xs ≡ n
      → AreLevel fs → told_by p ts vs fs xs ≡ beside (own p ts) (sums vs fs xs)
  owns : owns_as

abbrev Line : ℕ → Production → Type 0
Line p r = is_inner r.head ≡ true → IsInner p (name_count r.body) (Owns p r.body)

abbrev Each : ℕ → List Production → Type 0
Each n [] = Unit {0}
Each n (r ∷ rs) = Line n r × Each (n + 1) rs

no_lines : (n : ℕ) (g : List Production) → list_all (λ r. not (is_inner r.head)) g ≡ true → Each n g
no_lines n [] e = tt
no_lines n (r ∷ g) e =
    let (a, b) = and_parts (not (is_inner r.head)) (list_all (λ s. not (is_inner s.head)) g) e in
    (λ u. absurd (both_ways (is_inner r.head) (not-true (is_inner r.head) a) u), no_lines (n + 1) g b)

few : (n m : ℕ) → n ≡ m → nat_le m 3 ≡ true → n ≤ 3
few n m e u = let l = leb-true m 3 u in omega (arith, e, l)

inner_told : (p n : ℕ) (ts : List PlainLexeme) (vs : List PlainValue) (fs : List PlainForm) (xs : List Texts) → nat_le n 3 ≡ true
    → clauses_of (value_of_node p ts vs) ≡ (own p ts).clauses ++ all_clauses (filled (all_of Nothing) vs)
    → form_of_node p ts fs ≡ with_high ts (all_in_order empty (filled (all_of empty) fs))
    → texts_of_node p ts xs ≡ (own p ts).texts ++ joined xs
    → length vs ≡ n → length fs ≡ n → AreLevel fs → told_by p ts vs fs xs ≡ beside (own p ts) (sums vs fs xs)
inner_told p n ts vs fs xs u e g k l m h =
    let f = form_of_all ts fs h (few (length fs) n m u) in
    four tells
    (e ∙ ap (λ ys. (own p ts).clauses ++ ys) (flat_clauses vs (few (length vs) n l u)))
    (ap (λ (x : PlainForm). x.fault) g ∙ f.0)
    (ap (λ (x : PlainForm). x.high) g ∙ f.1)
    k

lines_from_contracts : Each 28 (drop 28 jml_productions)
lines_from_contracts = (
  λ u. record { told = λ ts vs fs xs l m k h. inner_told 28 3 ts vs fs xs refl refl refl (ap (λ ys. (own 28 ts).texts ++ ys) (texts3 xs k)) l m h; owns = λ t us ws. refl },
  (
    λ u. record { told = λ ts vs fs xs l m k h. inner_told 29 3 ts vs fs xs refl refl refl (ap (λ ys. (own 29 ts).texts ++ ys) (texts3 xs k)) l m h; owns = λ us ws. refl },
    (
      λ u. record { told = λ ts vs fs xs l m k h. inner_told 30 1 ts vs fs xs refl refl refl (ap (λ ys. (own 30 ts).texts ++ ys) (texts1 xs k)) l m h; owns = λ t us ws. refl },
      (
        λ u. record { told = λ ts vs fs xs l m k h. inner_told 31 1 ts vs fs xs refl refl refl (ap (λ ys. (own 31 ts).texts ++ ys) (texts1 xs k)) l m h; owns = λ us ws. refl },
        (
          λ u. record { told = λ ts vs fs xs l m k h. inner_told 32 1 ts vs fs xs refl refl refl (ap (λ ys. (own 32 ts).texts ++ ys) (texts1 xs k)) l m h; owns = λ us ws. refl },
          (
            λ u. record { told = λ ts vs fs xs l m k h. inner_told 33 2 ts vs fs xs refl refl refl (ap (λ ys. (own 33 ts).texts ++ ys) (texts2 xs k)) l m h; owns = λ us ws. refl },
            (
              λ u. record { told = λ ts vs fs xs l m k h. inner_told 34 1 ts vs fs xs refl refl refl (ap (λ ys. (own 34 ts).texts ++ ys) (texts1 xs k)) l m h; owns = λ t us ws. refl },
              (
                λ u. record { told = λ ts vs fs xs l m k h. inner_told 35 1 ts vs fs xs refl refl refl (ap (λ ys. (own 35 ts).texts ++ ys) (texts1 xs k)) l m h; owns = λ t us ws. refl },
                (
                  λ u. record { told = λ ts vs fs xs l m k h. inner_told 36 1 ts vs fs xs refl refl refl (ap (λ ys. (own 36 ts).texts ++ ys) (texts1 xs k)) l m h; owns = λ t us ws. refl },
                  (
                    λ u. record { told = λ ts vs fs xs l m k h. inner_told 37 2 ts vs fs xs refl refl refl (ap (λ ys. (own 37 ts).texts ++ ys) (texts2 xs k)) l m h; owns = λ t us ws. refl },
                    (
                      λ u. record { told = λ ts vs fs xs l m k h. inner_told 38 0 ts vs fs xs refl refl refl (ap (λ ys. (own 38 ts).texts ++ ys) (texts0 xs k)) l m h; owns = λ us ws. refl },
                      (
                        λ u. record { told = λ ts vs fs xs l m k h. inner_told 39 2 ts vs fs xs refl refl refl (ap (λ ys. (own 39 ts).texts ++ ys) (texts2 xs k)) l m h; owns = λ us ws. refl },
                        (
                          λ u. record { told = λ ts vs fs xs l m k h. inner_told 40 0 ts vs fs xs refl refl refl (ap (λ ys. (own 40 ts).texts ++ ys) (texts0 xs k)) l m h; owns = λ us ws. refl },
                          no_lines 41 (drop 41 jml_productions) refl,
                        ),
                      ),
                    ),
                  ),
                ),
              ),
            ),
          ),
        ),
      ),
    ),
  ),
)

lines_from_loops : Each 14 (drop 14 jml_productions)
lines_from_loops = (
  λ u. record { told = λ ts vs fs xs l m k h. inner_told 14 1 ts vs fs xs refl refl refl (ap (λ ys. (own 14 ts).texts ++ ys) (texts1 xs k)) l m h; owns = λ us ws. refl },
  (
    λ u. record { told = λ ts vs fs xs l m k h. inner_told 15 2 ts vs fs xs refl refl refl (ap (λ ys. (own 15 ts).texts ++ ys) (texts2 xs k)) l m h; owns = λ us ws. refl },
    (
      λ u. record { told = λ ts vs fs xs l m k h. inner_told 16 0 ts vs fs xs refl refl refl (ap (λ ys. (own 16 ts).texts ++ ys) (texts0 xs k)) l m h; owns = λ us ws. refl },
      (
        λ u. record { told = λ ts vs fs xs l m k h. inner_told 17 2 ts vs fs xs refl refl refl (ap (λ ys. (own 17 ts).texts ++ ys) (texts2 xs k)) l m h; owns = λ us ws. refl },
        (
          λ u. record { told = λ ts vs fs xs l m k h. inner_told 18 2 ts vs fs xs refl refl refl (ap (λ ys. (own 18 ts).texts ++ ys) (texts2 xs k)) l m h; owns = λ t us ws. refl },
          (
            λ u. record { told = λ ts vs fs xs l m k h. inner_told 19 0 ts vs fs xs refl refl refl (ap (λ ys. (own 19 ts).texts ++ ys) (texts0 xs k)) l m h; owns = λ us ws. refl },
            (
              λ u. record { told = λ ts vs fs xs l m k h. inner_told 20 2 ts vs fs xs refl refl refl (ap (λ ys. (own 20 ts).texts ++ ys) (texts2 xs k)) l m h; owns = λ us ws. refl },
              (
                λ u. record { told = λ ts vs fs xs l m k h. inner_told 21 0 ts vs fs xs refl refl refl (ap (λ ys. (own 21 ts).texts ++ ys) (texts0 xs k)) l m h; owns = λ us ws. refl },
                (
                  λ u. absurd (true≢false (sym u)),
                  (
                    λ u. absurd (true≢false (sym u)),
                    (
                      λ u. absurd (true≢false (sym u)),
                      (
                        λ u. absurd (true≢false (sym u)),
                        (
                          λ u. absurd (true≢false (sym u)),
                          (
                            λ u. absurd (true≢false (sym u)),
                            lines_from_contracts,
                          ),
                        ),
                      ),
                    ),
                  ),
                ),
              ),
            ),
          ),
        ),
      ),
    ),
  ),
)

lines : Each 0 jml_productions
lines = (
  λ u. record { told = λ ts vs fs xs l m k h. inner_told 0 2 ts vs fs xs refl refl refl (ap (λ ys. (own 0 ts).texts ++ ys) (texts2 xs k)) l m h; owns = λ us ws. refl },
  (
    λ u. record { told = λ ts vs fs xs l m k h. inner_told 1 1 ts vs fs xs refl refl refl (ap (λ ys. (own 1 ts).texts ++ ys) (texts1 xs k)) l m h; owns = λ t us ws. refl },
    (
      λ u. record { told = λ ts vs fs xs l m k h. inner_told 2 1 ts vs fs xs refl refl refl (ap (λ ys. (own 2 ts).texts ++ ys) (texts1 xs k)) l m h; owns = λ us ws. refl },
      (
        λ u. record { told = λ ts vs fs xs l m k h. inner_told 3 2 ts vs fs xs refl refl refl (ap (λ ys. (own 3 ts).texts ++ ys) (texts2 xs k)) l m h; owns = λ us ws. refl },
        (
          λ u. record { told = λ ts vs fs xs l m k h. inner_told 4 0 ts vs fs xs refl refl refl (ap (λ ys. (own 4 ts).texts ++ ys) (texts0 xs k)) l m h; owns = λ us ws. refl },
          (
            λ u. record { told = λ ts vs fs xs l m k h. inner_told 5 2 ts vs fs xs refl refl refl (ap (λ ys. (own 5 ts).texts ++ ys) (texts2 xs k)) l m h; owns = λ us ws. refl },
            (
              λ u. record { told = λ ts vs fs xs l m k h. inner_told 6 3 ts vs fs xs refl refl refl (ap (λ ys. (own 6 ts).texts ++ ys) (texts3 xs k)) l m h; owns = λ us ws. refl },
              (
                λ u. record { told = λ ts vs fs xs l m k h. inner_told 7 2 ts vs fs xs refl refl refl (ap (λ ys. (own 7 ts).texts ++ ys) (texts2 xs k)) l m h; owns = λ us ws. refl },
                (
                  λ u. record { told = λ ts vs fs xs l m k h. inner_told 8 1 ts vs fs xs refl refl refl (ap (λ ys. (own 8 ts).texts ++ ys) (texts1 xs k)) l m h; owns = λ us ws. refl },
                  (
                    λ u. record { told = λ ts vs fs xs l m k h. inner_told 9 3 ts vs fs xs refl refl refl (ap (λ ys. (own 9 ts).texts ++ ys) (texts3 xs k)) l m h; owns = λ t us ws. refl },
                    (
                      λ u. record { told = λ ts vs fs xs l m k h. inner_told 10 0 ts vs fs xs refl refl refl (ap (λ ys. (own 10 ts).texts ++ ys) (texts0 xs k)) l m h; owns = λ us ws. refl },
                      (
                        λ u. record { told = λ ts vs fs xs l m k h. inner_told 11 2 ts vs fs xs refl refl refl (ap (λ ys. (own 11 ts).texts ++ ys) (texts2 xs k)) l m h; owns = λ us ws. refl },
                        (
                          λ u. record { told = λ ts vs fs xs l m k h. inner_told 12 2 ts vs fs xs refl refl refl (ap (λ ys. (own 12 ts).texts ++ ys) (texts2 xs k)) l m h; owns = λ t us ws. refl },
                          (
                            λ u. record { told = λ ts vs fs xs l m k h. inner_told 13 1 ts vs fs xs refl refl refl (ap (λ ys. (own 13 ts).texts ++ ys) (texts1 xs k)) l m h; owns = λ us ws. refl },
                            lines_from_loops,
                          ),
                        ),
                      ),
                    ),
                  ),
                ),
              ),
            ),
          ),
        ),
      ),
    ),
  ),
)

-- ---- one of them

line_at : (g : List Production) (n p : ℕ) (r : Production) → Each n g → slice_get g p ≡ Some r → Line (n + p) r
line_at [] n p r h e = absurd (none-some r e)
line_at (x ∷ g) n zero r h e =
    let same : n ≡ n + 0 = omega arith in
    subst (λ m. Line m r) same (subst (Line n) (same_Some x r e) h.0)
line_at (x ∷ g) n (suc p) r h e =
    let same : n + 1 + p ≡ n + suc p = omega arith in
    subst (λ m. Line m r) same (line_at g (n + 1) p r h.1 e)

line : (p : ℕ) (r : Production) → slice_get jml_productions p ≡ Some r → Line p r
line p r e =
    let same : 0 + p ≡ p = omega arith in
    subst (λ m. Line m r) same (line_at jml_productions 0 p r lines e)

pub owns_at : (p : ℕ) (r : Production) → slice_get jml_productions p ≡ Some r → is_inner r.head ≡ true → Owns p r.body
owns_at p r at u = (line p r at u).owns

abbrev leads_up : ℕ → Production → Bool
leads_up p r = implies (is_inner r.head) (all_upper r.body && all_low r.body)

all_lead_up : passes leads_up 0 jml_productions ≡ true
all_lead_up = refl

pub parts_are : (p : ℕ) (r : Production) → slice_get jml_productions p ≡ Some r → is_inner r.head ≡ true
    → (all_upper r.body ≡ true) × (all_low r.body ≡ true)
parts_are p r at u =
    and_parts (all_upper r.body) (all_low r.body) (implied (is_inner r.head) (all_upper r.body && all_low r.body) (tested leads_up p r all_lead_up at) u)

-- what a node tells
pub node_tells : (p : ℕ) (r : Production) → slice_get jml_productions p ≡ Some r → is_inner r.head ≡ true → (c : Forest) (ts : List PlainLexeme)
    → IsShape c r.body
    → node p c ts ≡ beside (own p ts) (total c ts)
node_tells p r at u c ts h =
    (line p r at u).told ts (values value_of_node c ts) (values form_of_node c ts) (values texts_of_node c ts)
    (count value_of_node c r.body ts h)
    (count form_of_node c r.body ts h)
    (count texts_of_node c r.body ts h)
    (levels c r.body ts h (parts_are p r at u).1)

-- one without a word of its own
pub plain : (p : ℕ) (r : Production) → slice_get jml_productions p ≡ Some r → is_inner r.head ≡ true → ((ts : List PlainLexeme) → own p ts ≡ nothing)
    → (c : Forest) (ts : List PlainLexeme) → IsShape c r.body → node p c ts ≡ total c ts
plain p r at u o c ts h = node_tells p r at u c ts h ∙ ap (λ x. beside x (total c ts)) (o ts)
