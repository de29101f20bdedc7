-- What is read has the text that was read, and its words stand for what is in it.
use Rattle.std.proofs.Common.{◌≡◌, ◌≢◌, ℕ, List, [], ◌∷◌, cond, Option, Some, None, option_map, codes, refl, sym, ap, ◌∙◌, subst}
use Rattle.std.specs.Str.{bytes_eq}
use Rattle.std.proofs.lemmas.Option.{none-some}
use Rattle.jd_base.specs.declared.sort.Sort.{Sort}
use Rattle.jd_base.specs.declared.sort.Sort.TheVariants.{Int as IntSort, Bool as BoolSort, Ref as RefSort, Heap as HeapSort, Field as FieldSort}
use Rattle.jd_syntax.specs.Names.{Name}
use Rattle.jd_syntax.specs.Sxs.{Bracketed, BracketedList, Atom, Brackets, NoneBracketed, BracketedThen}
use Rattle.jd_syntax.specs.Codes as code
use Rattle.jd_syntax.specs.Codes.{Expr, Exprs, NoExprs, ExprThen, Stmt, PlainCode, Done, Then}
use Rattle.jd_term.specs.Terms as terms
use Rattle.jd_term.specs.Terms.{PlainTerm, PlainLoc}
use Rattle.jd_term.specs.Formulas as formulas
use Rattle.jd_term.specs.Formulas.{PlainFormula, Pairs}
use Rattle.jd_written.specs.Written.{number_text}
use Rattle.jd_tgrammar.specs.NameTables.{NameTable}
use Rattle.jd_tgrammar.specs.Spelling.{class_word, field_word, kind_word, method_word, result_word, routine, form, one, two, term_text, loc_text, expr_text, exprs_text, stmt_text, stmts_text, code_text, pairs_text, formula_text}
use Rattle.jd_tgrammar.specs.Words.{sort_word, label_word}
use Rattle.jd_tforms.specs.declared.heads.TermHead.{TermHead}
use Rattle.jd_tforms.specs.declared.heads.TermHead.TheVariants as term_kinds
use Rattle.jd_tforms.specs.declared.heads.LocHead.{LocHead}
use Rattle.jd_tforms.specs.declared.heads.LocHead.TheVariants as loc_kinds
use Rattle.jd_tforms.specs.declared.heads.FormulaHead.{FormulaHead}
use Rattle.jd_tforms.specs.declared.heads.FormulaHead.TheVariants as formula_kinds
use Rattle.jd_tforms.specs.declared.heads.ExprHead.{ExprHead}
use Rattle.jd_tforms.specs.declared.heads.ExprHead.TheVariants as expr_kinds
use Rattle.jd_tforms.specs.declared.heads.StmtHead.{StmtHead}
use Rattle.jd_tforms.specs.declared.heads.StmtHead.TheVariants as stmt_kinds
use Rattle.jd_tforms.specs.Heads.{head_of, term_word, term_heads, loc_word, loc_heads, formula_word, formula_heads, expr_word, expr_heads, stmt_word, stmt_heads}
use Rattle.jd_tforms.specs.Known.{TermKnown, LocKnown, ExprKnown, ExprsKnown, StmtKnown, CodeKnown, PairsKnown, FormulaKnown, IsVariable}
use Rattle.jd_tforms.specs.Naming.{class_of, kind_of, field_of, static_of, constructor_of, method_of, variable_of, result_of, sort_of_word}
use Rattle.jd_tforms.specs.Reading.{Read, both, wording, heading, variable, term_of, loc_of, under, formula_of, operands, virtual_call, expr_of, stmt_of, behind, statements, pair_of, all_pairs, pairs_of, array_of, read_word, read_brackets, read, reads}
use Rattle.jd_tforms.specs.Shapes.{loop_of, label_of}
use Rattle.jd_tforms.proofs.Somes.{some_same, mapped, boths, threes, fours, chained, either, guarded, found, same_bytes}
use Rattle.jd_tforms.proofs.Words.{loop_is, label_is, sort_is, class_is, kind_is, field_is, static_is, constructor_is, method_is, variable_is, result_is, word_term_is, word_expr_is, word_loc_is, word_formula_is}

-- ---- what is said of what an expression is at each place

abbrev TermIs : NameTable → List Sort → Bracketed → PlainTerm → Type 0
TermIs names ctx x t = (term_text names t ≡ x) × TermKnown names ctx t

abbrev LocIs : NameTable → List Sort → Bracketed → PlainLoc → Type 0
LocIs names ctx x l = (loc_text names l ≡ x) × LocKnown names ctx l

abbrev FormulaIs : NameTable → List Sort → Bracketed → PlainFormula → Type 0
FormulaIs names ctx x a = (formula_text names a ≡ x) × FormulaKnown names ctx a

abbrev PairIs : NameTable → List Sort → Bracketed → Name × PlainTerm → Type 0
PairIs names ctx x p = (Brackets (two (Atom p.0.text) (term_text names p.1)) ≡ x) × (IsVariable names p.0 × TermKnown names ctx p.1)

abbrev PairsAre : NameTable → List Sort → Bracketed → Pairs → Type 0
PairsAre names ctx x ps = (Brackets (pairs_text names ps) ≡ x) × (ps ≢ []) × PairsKnown names ctx ps

abbrev ExprIs : NameTable → Bracketed → Expr → Type 0
ExprIs names x e = (expr_text names e ≡ x) × ExprKnown names e

abbrev StmtIs : NameTable → Bracketed → Stmt → Type 0
StmtIs names x s = (stmt_text names s ≡ x) × StmtKnown names s

abbrev CodeIs : NameTable → Bracketed → PlainCode → Type 0
CodeIs names x ss = (code_text names ss ≡ x) × CodeKnown names ss

abbrev ArrayIs : NameTable → Bracketed → Expr → Type 0
ArrayIs names x e = (form (codes "arr") (one (expr_text names e)) ≡ x) × ExprKnown names e

pub record Holds (names : NameTable) (x : Bracketed) (r : Read) : Type 0 where
  pub word : (w : List ℕ) → r.word ≡ Some w → Atom w ≡ x
  pub term : (ctx : List Sort) (t : PlainTerm) → r.term ctx ≡ Some t → TermIs names ctx x t
  pub loc : (ctx : List Sort) (l : PlainLoc) → r.loc ctx ≡ Some l → LocIs names ctx x l
  pub formula : (ctx : List Sort) (a : PlainFormula) → r.formula ctx ≡ Some a → FormulaIs names ctx x a
  pub pair : (ctx : List Sort) (p : Name × PlainTerm) → r.pair ctx ≡ Some p → PairIs names ctx x p
  pub pairs : (ctx : List Sort) (ps : Pairs) → r.pairs ctx ≡ Some ps → PairsAre names ctx x ps
  pub expr : (e : Expr) → r.expr ≡ Some e → ExprIs names x e
  pub stmt : (s : Stmt) → r.stmt ≡ Some s → StmtIs names x s
  pub code : (ss : PlainCode) → r.code ≡ Some ss → CodeIs names x ss
  pub array : (e : Expr) → r.array ≡ Some e → ArrayIs names x e

abbrev AllHold : NameTable → BracketedList → Type 0
AllHold names NoneBracketed = Unit {0}
AllHold names (BracketedThen x xs) = Holds names x (read names x) × AllHold names xs

-- ---- parts

then_is : {x a : Bracketed} {xs bs : BracketedList} → x ≡ a → xs ≡ bs → BracketedThen x xs ≡ BracketedThen a bs
then_is e g = cc

worded : {A : Type 0} (names : NameTable) (text : A → List ℕ) (meaning : List ℕ → Option A) → ((w : List ℕ) (k : A) → meaning w ≡ Some k → text k ≡ w) →
    (x : Bracketed) → Holds names x (read names x) → (k : A) → wording meaning (read names x) ≡ Some k → (Atom (text k) ≡ x) × (meaning (text k) ≡ Some k)
worded names text meaning is x hold k e =
    let h = chained meaning (read names x).word k e in
    let same = is h.0 k h.2 in
    (ap Atom same ∙ hold.word h.0 h.1, ap meaning same ∙ h.2)

abbrev text_of_name : Name → List ℕ
text_of_name x = x.text

abbrev call_word : NameTable → ℕ × ℕ → List ℕ
call_word names cm = method_word names cm.0 cm.1

call_is : (names : NameTable) (w : List ℕ) (cm : ℕ × ℕ) → method_of names w ≡ Some cm → call_word names cm ≡ w
call_is names w (c, m) e = method_is names w c m e

abbrev static_word : NameTable → ℕ → List ℕ
static_word names m = method_word names (routine names m).class m

abbrev made_word : NameTable → ℕ → List ℕ
made_word names m = class_word names (routine names m).class

head_is : {H : Type 0} (word : H → List ℕ) (hs : List H) (w : List ℕ) (h : H) → head_of word hs w ≡ Some h → word h ≡ w
head_is word hs w h e = same_bytes (word h) w (found (λ k. bytes_eq (word k) w) hs h e)

-- ---- terms and location sets
term_sound : (names : NameTable) (ctx : List Sort) (h : Option TermHead) (y0 : Bracketed) (ys : BracketedList) → AllHold names ys → ((k : TermHead) → h ≡ Some k → Atom (term_word k) ≡ y0) →
    (t : PlainTerm) → term_of names ctx h (reads names ys) ≡ Some t → TermIs names ctx (Brackets (BracketedThen y0 ys)) t
term_sound names ctx (Some (term_kinds.Arithmetic op)) y0 (BracketedThen a (BracketedThen b NoneBracketed)) hold at t e =
    boths (TermIs names ctx (Brackets (BracketedThen y0 (BracketedThen a (BracketedThen b NoneBracketed))))) (terms.Arithmetic op) ((read names a).term ctx) ((read names b).term ctx) t e
    (λ x y ix iy. let p = hold.0.term ctx x ix in let q = hold.1.0.term ctx y iy in (ap Brackets (then_is (at (term_kinds.Arithmetic op) refl) (then_is p.0 (then_is q.0 refl))), (p.1, q.1)))
term_sound names ctx (Some term_kinds.Negation) y0 (BracketedThen a NoneBracketed) hold at t e =
    mapped (TermIs names ctx (Brackets (BracketedThen y0 (BracketedThen a NoneBracketed)))) terms.Negation ((read names a).term ctx) t e
    (λ x ix. let p = hold.0.term ctx x ix in (ap Brackets (then_is (at term_kinds.Negation refl) (then_is p.0 refl)), p.1))
term_sound names ctx (Some term_kinds.Wrap) y0 (BracketedThen a NoneBracketed) hold at t e =
    mapped (TermIs names ctx (Brackets (BracketedThen y0 (BracketedThen a NoneBracketed)))) terms.Wrap ((read names a).term ctx) t e
    (λ x ix. let p = hold.0.term ctx x ix in (ap Brackets (then_is (at term_kinds.Wrap refl) (then_is p.0 refl)), p.1))
term_sound names ctx (Some term_kinds.Length) y0 (BracketedThen a NoneBracketed) hold at t e =
    mapped (TermIs names ctx (Brackets (BracketedThen y0 (BracketedThen a NoneBracketed)))) terms.Length ((read names a).term ctx) t e
    (λ x ix. let p = hold.0.term ctx x ix in (ap Brackets (then_is (at term_kinds.Length refl) (then_is p.0 refl)), p.1))
term_sound names ctx (Some (term_kinds.Select IntSort)) y0 (BracketedThen a (BracketedThen b (BracketedThen c NoneBracketed))) hold at t e =
    threes (TermIs names ctx (Brackets (BracketedThen y0 (BracketedThen a (BracketedThen b (BracketedThen c NoneBracketed)))))) (terms.Select IntSort) ((read names a).term ctx) ((read names b).term ctx) ((read names c).term ctx) t e
    (λ x y z ix iy iz. let p = hold.0.term ctx x ix in let q = hold.1.0.term ctx y iy in let r = hold.1.1.0.term ctx z iz in (ap Brackets (then_is (at (term_kinds.Select IntSort) refl) (then_is p.0 (then_is q.0 (then_is r.0 refl)))), (refl, p.1, q.1, r.1)))
term_sound names ctx (Some (term_kinds.Select BoolSort)) y0 (BracketedThen a (BracketedThen b (BracketedThen c NoneBracketed))) hold at t e =
    threes (TermIs names ctx (Brackets (BracketedThen y0 (BracketedThen a (BracketedThen b (BracketedThen c NoneBracketed)))))) (terms.Select BoolSort) ((read names a).term ctx) ((read names b).term ctx) ((read names c).term ctx) t e
    (λ x y z ix iy iz. let p = hold.0.term ctx x ix in let q = hold.1.0.term ctx y iy in let r = hold.1.1.0.term ctx z iz in (ap Brackets (then_is (at (term_kinds.Select BoolSort) refl) (then_is p.0 (then_is q.0 (then_is r.0 refl)))), (refl, p.1, q.1, r.1)))
term_sound names ctx (Some (term_kinds.Select RefSort)) y0 (BracketedThen a (BracketedThen b (BracketedThen c NoneBracketed))) hold at t e =
    threes (TermIs names ctx (Brackets (BracketedThen y0 (BracketedThen a (BracketedThen b (BracketedThen c NoneBracketed)))))) (terms.Select RefSort) ((read names a).term ctx) ((read names b).term ctx) ((read names c).term ctx) t e
    (λ x y z ix iy iz. let p = hold.0.term ctx x ix in let q = hold.1.0.term ctx y iy in let r = hold.1.1.0.term ctx z iz in (ap Brackets (then_is (at (term_kinds.Select RefSort) refl) (then_is p.0 (then_is q.0 (then_is r.0 refl)))), (refl, p.1, q.1, r.1)))
term_sound names ctx (Some (term_kinds.Select HeapSort)) y0 (BracketedThen a (BracketedThen b (BracketedThen c NoneBracketed))) hold at t e = absurd (none-some t e)
term_sound names ctx (Some (term_kinds.Select FieldSort)) y0 (BracketedThen a (BracketedThen b (BracketedThen c NoneBracketed))) hold at t e = absurd (none-some t e)
term_sound names ctx (Some term_kinds.Sum) y0 (BracketedThen a (BracketedThen b (BracketedThen c NoneBracketed))) hold at t e =
    threes (TermIs names ctx (Brackets (BracketedThen y0 (BracketedThen a (BracketedThen b (BracketedThen c NoneBracketed)))))) terms.Sum ((read names a).term ctx) ((read names b).term ctx) ((read names c).term (IntSort ∷ ctx)) t e
    (λ x y z ix iy iz. let p = hold.0.term ctx x ix in let q = hold.1.0.term ctx y iy in let r = hold.1.1.0.term (IntSort ∷ ctx) z iz in (ap Brackets (then_is (at term_kinds.Sum refl) (then_is p.0 (then_is q.0 (then_is r.0 refl)))), (p.1, q.1, r.1)))
term_sound names ctx (Some term_kinds.Store) y0 (BracketedThen a (BracketedThen b (BracketedThen c (BracketedThen d NoneBracketed)))) hold at t e =
    fours (TermIs names ctx (Brackets (BracketedThen y0 (BracketedThen a (BracketedThen b (BracketedThen c (BracketedThen d NoneBracketed))))))) terms.Store ((read names a).term ctx) ((read names b).term ctx) ((read names c).term ctx) ((read names d).term ctx) t e
    (λ x y z w ix iy iz iw. let p = hold.0.term ctx x ix in let q = hold.1.0.term ctx y iy in let r = hold.1.1.0.term ctx z iz in let s = hold.1.1.1.0.term ctx w iw in (ap Brackets (then_is (at term_kinds.Store refl) (then_is p.0 (then_is q.0 (then_is r.0 (then_is s.0 refl))))), (p.1, q.1, r.1, s.1)))
term_sound names ctx (Some term_kinds.Create) y0 (BracketedThen a (BracketedThen b NoneBracketed)) hold at t e =
    boths (TermIs names ctx (Brackets (BracketedThen y0 (BracketedThen a (BracketedThen b NoneBracketed))))) terms.Create ((read names a).term ctx) ((read names b).term ctx) t e
    (λ x y ix iy. let p = hold.0.term ctx x ix in let q = hold.1.0.term ctx y iy in (ap Brackets (then_is (at term_kinds.Create refl) (then_is p.0 (then_is q.0 refl))), (p.1, q.1)))
term_sound names ctx (Some term_kinds.Anon) y0 (BracketedThen a (BracketedThen b (BracketedThen c NoneBracketed))) hold at t e =
    threes (TermIs names ctx (Brackets (BracketedThen y0 (BracketedThen a (BracketedThen b (BracketedThen c NoneBracketed)))))) terms.Anon ((read names a).term ctx) ((read names b).loc ctx) ((read names c).term ctx) t e
    (λ x y z ix iy iz. let p = hold.0.term ctx x ix in let q = hold.1.0.loc ctx y iy in let r = hold.1.1.0.term ctx z iz in (ap Brackets (then_is (at term_kinds.Anon refl) (then_is p.0 (then_is q.0 (then_is r.0 refl)))), (p.1, q.1, r.1)))
term_sound names ctx (Some term_kinds.Element) y0 (BracketedThen a NoneBracketed) hold at t e =
    mapped (TermIs names ctx (Brackets (BracketedThen y0 (BracketedThen a NoneBracketed)))) terms.ElementField ((read names a).term ctx) t e
    (λ x ix. let p = hold.0.term ctx x ix in (ap Brackets (then_is (at term_kinds.Element refl) (then_is p.0 refl)), p.1))
term_sound names ctx _ y0 ys hold at t e = absurd (none-some t e)

loc_sound : (names : NameTable) (ctx : List Sort) (h : Option LocHead) (y0 : Bracketed) (ys : BracketedList) → AllHold names ys → ((k : LocHead) → h ≡ Some k → Atom (loc_word k) ≡ y0) →
    (t : PlainLoc) → loc_of names ctx h (reads names ys) ≡ Some t → LocIs names ctx (Brackets (BracketedThen y0 ys)) t
loc_sound names ctx (Some loc_kinds.Single) y0 (BracketedThen a (BracketedThen b NoneBracketed)) hold at t e =
    boths (LocIs names ctx (Brackets (BracketedThen y0 (BracketedThen a (BracketedThen b NoneBracketed))))) terms.Single ((read names a).term ctx) ((read names b).term ctx) t e
    (λ x y ix iy. let p = hold.0.term ctx x ix in let q = hold.1.0.term ctx y iy in (ap Brackets (then_is (at loc_kinds.Single refl) (then_is p.0 (then_is q.0 refl))), (p.1, q.1)))
loc_sound names ctx (Some loc_kinds.Object) y0 (BracketedThen a NoneBracketed) hold at t e =
    mapped (LocIs names ctx (Brackets (BracketedThen y0 (BracketedThen a NoneBracketed)))) terms.ObjectFields ((read names a).term ctx) t e
    (λ x ix. let p = hold.0.term ctx x ix in (ap Brackets (then_is (at loc_kinds.Object refl) (then_is p.0 refl)), p.1))
loc_sound names ctx (Some loc_kinds.Elements) y0 (BracketedThen a NoneBracketed) hold at t e =
    mapped (LocIs names ctx (Brackets (BracketedThen y0 (BracketedThen a NoneBracketed)))) terms.ArrayElements ((read names a).term ctx) t e
    (λ x ix. let p = hold.0.term ctx x ix in (ap Brackets (then_is (at loc_kinds.Elements refl) (then_is p.0 refl)), p.1))
loc_sound names ctx (Some loc_kinds.Range) y0 (BracketedThen a (BracketedThen b (BracketedThen c NoneBracketed))) hold at t e =
    threes (LocIs names ctx (Brackets (BracketedThen y0 (BracketedThen a (BracketedThen b (BracketedThen c NoneBracketed)))))) terms.ElementRange ((read names a).term ctx) ((read names b).term ctx) ((read names c).term ctx) t e
    (λ x y z ix iy iz. let p = hold.0.term ctx x ix in let q = hold.1.0.term ctx y iy in let r = hold.1.1.0.term ctx z iz in (ap Brackets (then_is (at loc_kinds.Range refl) (then_is p.0 (then_is q.0 (then_is r.0 refl)))), (p.1, q.1, r.1)))
loc_sound names ctx (Some loc_kinds.Union) y0 (BracketedThen a (BracketedThen b NoneBracketed)) hold at t e =
    boths (LocIs names ctx (Brackets (BracketedThen y0 (BracketedThen a (BracketedThen b NoneBracketed))))) terms.Union ((read names a).loc ctx) ((read names b).loc ctx) t e
    (λ x y ix iy. let p = hold.0.loc ctx x ix in let q = hold.1.0.loc ctx y iy in (ap Brackets (then_is (at loc_kinds.Union refl) (then_is p.0 (then_is q.0 refl))), (p.1, q.1)))
loc_sound names ctx _ y0 ys hold at t e = absurd (none-some t e)

-- ---- formulas
under_sound : (names : NameTable) (ctx : List Sort) (f : Sort → PlainFormula → PlainFormula) (w : List ℕ) (y0 a b : Bracketed) → Holds names a (read names a) → Holds names b (read names b) →
    Atom w ≡ y0 → ((s : Sort) (c : PlainFormula) → formula_text names (f s c) ≡ form w (two (Atom (sort_word s)) (formula_text names c))) →
    ((s : Sort) (c : PlainFormula) → sort_of_word (sort_word s) ≡ Some s → FormulaKnown names (s ∷ ctx) c → FormulaKnown names ctx (f s c)) →
    (t : PlainFormula) → under names f ctx (read names a) (read names b) ≡ Some t → FormulaIs names ctx (Brackets (BracketedThen y0 (BracketedThen a (BracketedThen b NoneBracketed)))) t
under_sound names ctx f w y0 a b ha hb at text known t e =
    let h = chained (λ s. option_map (f s) ((read names b).formula (s ∷ ctx))) (wording sort_of_word (read names a)) t e in
    let s = h.0 in
    let p = worded names sort_word sort_of_word sort_is a ha s h.1 in
    mapped (FormulaIs names ctx (Brackets (BracketedThen y0 (BracketedThen a (BracketedThen b NoneBracketed))))) (f s) ((read names b).formula (s ∷ ctx)) t h.2
    (λ c is. let q = hb.formula (s ∷ ctx) c is in (text s c ∙ ap Brackets (then_is at (then_is p.0 (then_is q.0 refl))), known s c p.1 q.1))

formula_sound : (names : NameTable) (ctx : List Sort) (h : Option FormulaHead) (y0 : Bracketed) (ys : BracketedList) → AllHold names ys → ((k : FormulaHead) → h ≡ Some k → Atom (formula_word k) ≡ y0) →
    (t : PlainFormula) → formula_of names ctx h (reads names ys) ≡ Some t → FormulaIs names ctx (Brackets (BracketedThen y0 ys)) t
formula_sound names ctx (Some formula_kinds.Not) y0 (BracketedThen a NoneBracketed) hold at t e =
    mapped (FormulaIs names ctx (Brackets (BracketedThen y0 (BracketedThen a NoneBracketed)))) formulas.Not ((read names a).formula ctx) t e
    (λ x ix. let p = hold.0.formula ctx x ix in (ap Brackets (then_is (at formula_kinds.Not refl) (then_is p.0 refl)), p.1))
formula_sound names ctx (Some formula_kinds.And) y0 (BracketedThen a (BracketedThen b NoneBracketed)) hold at t e =
    boths (FormulaIs names ctx (Brackets (BracketedThen y0 (BracketedThen a (BracketedThen b NoneBracketed))))) formulas.And ((read names a).formula ctx) ((read names b).formula ctx) t e
    (λ x y ix iy. let p = hold.0.formula ctx x ix in let q = hold.1.0.formula ctx y iy in (ap Brackets (then_is (at formula_kinds.And refl) (then_is p.0 (then_is q.0 refl))), (p.1, q.1)))
formula_sound names ctx (Some formula_kinds.Or) y0 (BracketedThen a (BracketedThen b NoneBracketed)) hold at t e =
    boths (FormulaIs names ctx (Brackets (BracketedThen y0 (BracketedThen a (BracketedThen b NoneBracketed))))) formulas.Or ((read names a).formula ctx) ((read names b).formula ctx) t e
    (λ x y ix iy. let p = hold.0.formula ctx x ix in let q = hold.1.0.formula ctx y iy in (ap Brackets (then_is (at formula_kinds.Or refl) (then_is p.0 (then_is q.0 refl))), (p.1, q.1)))
formula_sound names ctx (Some formula_kinds.Implies) y0 (BracketedThen a (BracketedThen b NoneBracketed)) hold at t e =
    boths (FormulaIs names ctx (Brackets (BracketedThen y0 (BracketedThen a (BracketedThen b NoneBracketed))))) formulas.Implies ((read names a).formula ctx) ((read names b).formula ctx) t e
    (λ x y ix iy. let p = hold.0.formula ctx x ix in let q = hold.1.0.formula ctx y iy in (ap Brackets (then_is (at formula_kinds.Implies refl) (then_is p.0 (then_is q.0 refl))), (p.1, q.1)))
formula_sound names ctx (Some formula_kinds.Iff) y0 (BracketedThen a (BracketedThen b NoneBracketed)) hold at t e =
    boths (FormulaIs names ctx (Brackets (BracketedThen y0 (BracketedThen a (BracketedThen b NoneBracketed))))) formulas.Iff ((read names a).formula ctx) ((read names b).formula ctx) t e
    (λ x y ix iy. let p = hold.0.formula ctx x ix in let q = hold.1.0.formula ctx y iy in (ap Brackets (then_is (at formula_kinds.Iff refl) (then_is p.0 (then_is q.0 refl))), (p.1, q.1)))
formula_sound names ctx (Some formula_kinds.Equal) y0 (BracketedThen a (BracketedThen b NoneBracketed)) hold at t e =
    boths (FormulaIs names ctx (Brackets (BracketedThen y0 (BracketedThen a (BracketedThen b NoneBracketed))))) formulas.Equal ((read names a).term ctx) ((read names b).term ctx) t e
    (λ x y ix iy. let p = hold.0.term ctx x ix in let q = hold.1.0.term ctx y iy in (ap Brackets (then_is (at formula_kinds.Equal refl) (then_is p.0 (then_is q.0 refl))), (p.1, q.1)))
formula_sound names ctx (Some formula_kinds.Less) y0 (BracketedThen a (BracketedThen b NoneBracketed)) hold at t e =
    boths (FormulaIs names ctx (Brackets (BracketedThen y0 (BracketedThen a (BracketedThen b NoneBracketed))))) formulas.Less ((read names a).term ctx) ((read names b).term ctx) t e
    (λ x y ix iy. let p = hold.0.term ctx x ix in let q = hold.1.0.term ctx y iy in (ap Brackets (then_is (at formula_kinds.Less refl) (then_is p.0 (then_is q.0 refl))), (p.1, q.1)))
formula_sound names ctx (Some formula_kinds.LessOrEqual) y0 (BracketedThen a (BracketedThen b NoneBracketed)) hold at t e =
    boths (FormulaIs names ctx (Brackets (BracketedThen y0 (BracketedThen a (BracketedThen b NoneBracketed))))) formulas.LessOrEqual ((read names a).term ctx) ((read names b).term ctx) t e
    (λ x y ix iy. let p = hold.0.term ctx x ix in let q = hold.1.0.term ctx y iy in (ap Brackets (then_is (at formula_kinds.LessOrEqual refl) (then_is p.0 (then_is q.0 refl))), (p.1, q.1)))
formula_sound names ctx (Some formula_kinds.Forall) y0 (BracketedThen a (BracketedThen b NoneBracketed)) hold at t e =
    under_sound names ctx formulas.Forall (formula_word formula_kinds.Forall) y0 a b hold.0 hold.1.0 (at formula_kinds.Forall refl) (λ s c. refl) (λ s c k l. (k, l)) t e
formula_sound names ctx (Some formula_kinds.Exists) y0 (BracketedThen a (BracketedThen b NoneBracketed)) hold at t e =
    under_sound names ctx formulas.Exists (formula_word formula_kinds.Exists) y0 a b hold.0 hold.1.0 (at formula_kinds.Exists refl) (λ s c. refl) (λ s c k l. (k, l)) t e
formula_sound names ctx (Some formula_kinds.Updated) y0 (BracketedThen a (BracketedThen b NoneBracketed)) hold at t e =
    boths (FormulaIs names ctx (Brackets (BracketedThen y0 (BracketedThen a (BracketedThen b NoneBracketed))))) formulas.Updated ((read names a).pairs ctx) ((read names b).formula ctx) t e
    (λ x y ix iy. let p = hold.0.pairs ctx x ix in let q = hold.1.0.formula ctx y iy in (ap Brackets (then_is (at formula_kinds.Updated refl) (then_is p.0 (then_is q.0 refl))), (p.1, p.2, q.1)))
formula_sound names ctx (Some (formula_kinds.Modal m)) y0 (BracketedThen a (BracketedThen b NoneBracketed)) hold at t e =
    boths (FormulaIs names ctx (Brackets (BracketedThen y0 (BracketedThen a (BracketedThen b NoneBracketed))))) (formulas.Modal m) (read names a).code ((read names b).formula ctx) t e
    (λ x y ix iy. let p = hold.0.code x ix in let q = hold.1.0.formula ctx y iy in (ap Brackets (then_is (at (formula_kinds.Modal m) refl) (then_is p.0 (then_is q.0 refl))), (p.1, q.1)))
formula_sound names ctx (Some formula_kinds.In) y0 (BracketedThen a (BracketedThen b (BracketedThen c NoneBracketed))) hold at t e =
    threes (FormulaIs names ctx (Brackets (BracketedThen y0 (BracketedThen a (BracketedThen b (BracketedThen c NoneBracketed)))))) formulas.InLocations ((read names a).term ctx) ((read names b).term ctx) ((read names c).loc ctx) t e
    (λ x y z ix iy iz. let p = hold.0.term ctx x ix in let q = hold.1.0.term ctx y iy in let r = hold.1.1.0.loc ctx z iz in (ap Brackets (then_is (at formula_kinds.In refl) (then_is p.0 (then_is q.0 (then_is r.0 refl)))), (p.1, q.1, r.1)))
formula_sound names ctx (Some formula_kinds.InInt) y0 (BracketedThen a NoneBracketed) hold at t e =
    mapped (FormulaIs names ctx (Brackets (BracketedThen y0 (BracketedThen a NoneBracketed)))) formulas.InInt ((read names a).term ctx) t e
    (λ x ix. let p = hold.0.term ctx x ix in (ap Brackets (then_is (at formula_kinds.InInt refl) (then_is p.0 refl)), p.1))
formula_sound names ctx (Some formula_kinds.WellFormed) y0 (BracketedThen a NoneBracketed) hold at t e =
    mapped (FormulaIs names ctx (Brackets (BracketedThen y0 (BracketedThen a NoneBracketed)))) formulas.WellFormed ((read names a).term ctx) t e
    (λ x ix. let p = hold.0.term ctx x ix in (ap Brackets (then_is (at formula_kinds.WellFormed refl) (then_is p.0 refl)), p.1))
formula_sound names ctx (Some formula_kinds.Invariant) y0 (BracketedThen a (BracketedThen b NoneBracketed)) hold at t e =
    boths (FormulaIs names ctx (Brackets (BracketedThen y0 (BracketedThen a (BracketedThen b NoneBracketed))))) formulas.Invariant ((read names a).term ctx) ((read names b).term ctx) t e
    (λ x y ix iy. let p = hold.0.term ctx x ix in let q = hold.1.0.term ctx y iy in (ap Brackets (then_is (at formula_kinds.Invariant refl) (then_is p.0 (then_is q.0 refl))), (p.1, q.1)))
formula_sound names ctx (Some formula_kinds.Instance) y0 (BracketedThen a (BracketedThen b NoneBracketed)) hold at t e =
    boths (FormulaIs names ctx (Brackets (BracketedThen y0 (BracketedThen a (BracketedThen b NoneBracketed))))) formulas.IsInstance (wording (kind_of names) (read names a)) ((read names b).term ctx) t e
    (λ x y ix iy. let p = worded names (kind_word names) (kind_of names) (kind_is names) a hold.0 x ix in let q = hold.1.0.term ctx y iy in (ap Brackets (then_is (at formula_kinds.Instance refl) (then_is p.0 (then_is q.0 refl))), (p.1, q.1)))
formula_sound names ctx (Some formula_kinds.Exact) y0 (BracketedThen a (BracketedThen b NoneBracketed)) hold at t e =
    boths (FormulaIs names ctx (Brackets (BracketedThen y0 (BracketedThen a (BracketedThen b NoneBracketed))))) formulas.IsExactInstance (wording (kind_of names) (read names a)) ((read names b).term ctx) t e
    (λ x y ix iy. let p = worded names (kind_word names) (kind_of names) (kind_is names) a hold.0 x ix in let q = hold.1.0.term ctx y iy in (ap Brackets (then_is (at formula_kinds.Exact refl) (then_is p.0 (then_is q.0 refl))), (p.1, q.1)))
formula_sound names ctx _ y0 ys hold at t e = absurd (none-some t e)

-- ---- code
operands_sound : (names : NameTable) (ys : BracketedList) → AllHold names ys → (es : Exprs) → operands names (reads names ys) ≡ Some es → (exprs_text names es ≡ ys) × ExprsKnown names es
operands_sound names NoneBracketed hold es e = subst (λ fs. (exprs_text names fs ≡ NoneBracketed) × ExprsKnown names fs) (some_same NoExprs es e) (refl, tt)
operands_sound names (BracketedThen a ys) hold es e =
    boths (λ fs. (exprs_text names fs ≡ BracketedThen a ys) × ExprsKnown names fs) ExprThen (read names a).expr (operands names (reads names ys)) es e
    (λ x xs ix ixs. let p = hold.0.expr x ix in let q = operands_sound names ys hold.1 xs ixs in (then_is p.0 q.0, (p.1, q.1)))

expr_sound : (names : NameTable) (h : Option ExprHead) (y0 : Bracketed) (ys : BracketedList) → AllHold names ys → ((k : ExprHead) → h ≡ Some k → Atom (expr_word k) ≡ y0) →
    (t : Expr) → expr_of names h (reads names ys) ≡ Some t → ExprIs names (Brackets (BracketedThen y0 ys)) t
expr_sound names (Some (expr_kinds.Unary op)) y0 (BracketedThen a NoneBracketed) hold at t e =
    mapped (ExprIs names (Brackets (BracketedThen y0 (BracketedThen a NoneBracketed)))) (code.Unary op) (read names a).expr t e
    (λ x ix. let p = hold.0.expr x ix in (ap Brackets (then_is (at (expr_kinds.Unary op) refl) (then_is p.0 refl)), p.1))
expr_sound names (Some (expr_kinds.Binary op)) y0 (BracketedThen a (BracketedThen b NoneBracketed)) hold at t e =
    boths (ExprIs names (Brackets (BracketedThen y0 (BracketedThen a (BracketedThen b NoneBracketed))))) (code.Binary op) (read names a).expr (read names b).expr t e
    (λ x y ix iy. let p = hold.0.expr x ix in let q = hold.1.0.expr y iy in (ap Brackets (then_is (at (expr_kinds.Binary op) refl) (then_is p.0 (then_is q.0 refl))), (p.1, q.1)))
expr_sound names (Some expr_kinds.AndAlso) y0 (BracketedThen a (BracketedThen b NoneBracketed)) hold at t e =
    boths (ExprIs names (Brackets (BracketedThen y0 (BracketedThen a (BracketedThen b NoneBracketed))))) code.AndAlso (read names a).expr (read names b).expr t e
    (λ x y ix iy. let p = hold.0.expr x ix in let q = hold.1.0.expr y iy in (ap Brackets (then_is (at expr_kinds.AndAlso refl) (then_is p.0 (then_is q.0 refl))), (p.1, q.1)))
expr_sound names (Some expr_kinds.OrElse) y0 (BracketedThen a (BracketedThen b NoneBracketed)) hold at t e =
    boths (ExprIs names (Brackets (BracketedThen y0 (BracketedThen a (BracketedThen b NoneBracketed))))) code.OrElse (read names a).expr (read names b).expr t e
    (λ x y ix iy. let p = hold.0.expr x ix in let q = hold.1.0.expr y iy in (ap Brackets (then_is (at expr_kinds.OrElse refl) (then_is p.0 (then_is q.0 refl))), (p.1, q.1)))
expr_sound names (Some expr_kinds.Conditional) y0 (BracketedThen a (BracketedThen b (BracketedThen c NoneBracketed))) hold at t e =
    threes (ExprIs names (Brackets (BracketedThen y0 (BracketedThen a (BracketedThen b (BracketedThen c NoneBracketed)))))) code.Conditional (read names a).expr (read names b).expr (read names c).expr t e
    (λ x y z ix iy iz. let p = hold.0.expr x ix in let q = hold.1.0.expr y iy in let r = hold.1.1.0.expr z iz in (ap Brackets (then_is (at expr_kinds.Conditional refl) (then_is p.0 (then_is q.0 (then_is r.0 refl)))), (p.1, q.1, r.1)))
expr_sound names (Some expr_kinds.ReadField) y0 (BracketedThen a (BracketedThen b NoneBracketed)) hold at t e =
    boths (ExprIs names (Brackets (BracketedThen y0 (BracketedThen a (BracketedThen b NoneBracketed))))) code.ReadField (read names a).expr (wording (field_of names) (read names b)) t e
    (λ x y ix iy. let p = hold.0.expr x ix in let q = worded names (field_word names) (field_of names) (field_is names) b hold.1.0 y iy in (ap Brackets (then_is (at expr_kinds.ReadField refl) (then_is p.0 (then_is q.0 refl))), (p.1, q.1)))
expr_sound names (Some expr_kinds.ReadElement) y0 (BracketedThen a (BracketedThen b NoneBracketed)) hold at t e =
    boths (ExprIs names (Brackets (BracketedThen y0 (BracketedThen a (BracketedThen b NoneBracketed))))) code.ReadElement (read names a).expr (read names b).expr t e
    (λ x y ix iy. let p = hold.0.expr x ix in let q = hold.1.0.expr y iy in (ap Brackets (then_is (at expr_kinds.ReadElement refl) (then_is p.0 (then_is q.0 refl))), (p.1, q.1)))
expr_sound names (Some expr_kinds.LengthOf) y0 (BracketedThen a NoneBracketed) hold at t e =
    mapped (ExprIs names (Brackets (BracketedThen y0 (BracketedThen a NoneBracketed)))) code.LengthOf (read names a).expr t e
    (λ x ix. let p = hold.0.expr x ix in (ap Brackets (then_is (at expr_kinds.LengthOf refl) (then_is p.0 refl)), p.1))
expr_sound names (Some expr_kinds.Cast) y0 (BracketedThen a (BracketedThen b NoneBracketed)) hold at t e =
    boths (ExprIs names (Brackets (BracketedThen y0 (BracketedThen a (BracketedThen b NoneBracketed))))) code.Cast (wording (kind_of names) (read names a)) (read names b).expr t e
    (λ x y ix iy. let p = worded names (kind_word names) (kind_of names) (kind_is names) a hold.0 x ix in let q = hold.1.0.expr y iy in (ap Brackets (then_is (at expr_kinds.Cast refl) (then_is p.0 (then_is q.0 refl))), (p.1, q.1)))
expr_sound names (Some expr_kinds.InstanceOf) y0 (BracketedThen a (BracketedThen b NoneBracketed)) hold at t e =
    boths (ExprIs names (Brackets (BracketedThen y0 (BracketedThen a (BracketedThen b NoneBracketed))))) code.InstanceOf (wording (kind_of names) (read names a)) (read names b).expr t e
    (λ x y ix iy. let p = worded names (kind_word names) (kind_of names) (kind_is names) a hold.0 x ix in let q = hold.1.0.expr y iy in (ap Brackets (then_is (at expr_kinds.InstanceOf refl) (then_is p.0 (then_is q.0 refl))), (p.1, q.1)))
expr_sound names (Some expr_kinds.DoThen) y0 (BracketedThen a (BracketedThen b NoneBracketed)) hold at t e =
    boths (ExprIs names (Brackets (BracketedThen y0 (BracketedThen a (BracketedThen b NoneBracketed))))) code.DoThen (read names a).code (read names b).expr t e
    (λ x y ix iy. let p = hold.0.code x ix in let q = hold.1.0.expr y iy in (ap Brackets (then_is (at expr_kinds.DoThen refl) (then_is p.0 (then_is q.0 refl))), (p.1, q.1)))
expr_sound names (Some expr_kinds.VirtualCall) y0 (BracketedThen a (BracketedThen b ys)) hold at t e =
    threes (ExprIs names (Brackets (BracketedThen y0 (BracketedThen a (BracketedThen b ys))))) (virtual_call names) (wording (method_of names) (read names a)) (read names b).expr (operands names (reads names ys)) t e
    (λ x y z ix iy iz. let p = worded names (call_word names) (method_of names) (call_is names) a hold.0 x ix in let q = hold.1.0.expr y iy in let r = operands_sound names ys hold.1.1 z iz in
    (ap Brackets (then_is (at expr_kinds.VirtualCall refl) (then_is p.0 (then_is q.0 r.0))), (p.1, q.1, r.1)))
expr_sound names (Some expr_kinds.StaticCall) y0 (BracketedThen a ys) hold at t e =
    boths (ExprIs names (Brackets (BracketedThen y0 (BracketedThen a ys)))) code.StaticCall (wording (static_of names) (read names a)) (operands names (reads names ys)) t e
    (λ x z ix iz. let p = worded names (static_word names) (static_of names) (static_is names) a hold.0 x ix in let r = operands_sound names ys hold.1 z iz in
    (ap Brackets (then_is (at expr_kinds.StaticCall refl) (then_is p.0 r.0)), (p.1, r.1)))
expr_sound names (Some expr_kinds.ConstructorCall) y0 (BracketedThen a (BracketedThen b ys)) hold at t e =
    threes (ExprIs names (Brackets (BracketedThen y0 (BracketedThen a (BracketedThen b ys))))) code.ConstructorCall (wording (constructor_of names) (read names a)) (read names b).expr (operands names (reads names ys)) t e
    (λ x y z ix iy iz. let p = worded names (made_word names) (constructor_of names) (constructor_is names) a hold.0 x ix in let q = hold.1.0.expr y iy in let r = operands_sound names ys hold.1.1 z iz in
    (ap Brackets (then_is (at expr_kinds.ConstructorCall refl) (then_is p.0 (then_is q.0 r.0))), (p.1, q.1, r.1)))
expr_sound names _ y0 ys hold at t e = absurd (none-some t e)

stmt_sound : (names : NameTable) (h : Option StmtHead) (y0 : Bracketed) (ys : BracketedList) → AllHold names ys → ((k : StmtHead) → h ≡ Some k → Atom (stmt_word k) ≡ y0) →
    (t : Stmt) → stmt_of names h (reads names ys) ≡ Some t → StmtIs names (Brackets (BracketedThen y0 ys)) t
stmt_sound names (Some stmt_kinds.Set) y0 (BracketedThen a (BracketedThen b NoneBracketed)) hold at t e =
    boths (StmtIs names (Brackets (BracketedThen y0 (BracketedThen a (BracketedThen b NoneBracketed))))) code.Set (variable names (read names a)) (read names b).expr t e
    (λ x y ix iy. let p = worded names text_of_name (variable_of names) (variable_is names) a hold.0 x ix in let q = hold.1.0.expr y iy in (ap Brackets (then_is (at stmt_kinds.Set refl) (then_is p.0 (then_is q.0 refl))), (p.1, q.1)))
stmt_sound names (Some stmt_kinds.WriteField) y0 (BracketedThen a (BracketedThen b (BracketedThen c NoneBracketed))) hold at t e =
    threes (StmtIs names (Brackets (BracketedThen y0 (BracketedThen a (BracketedThen b (BracketedThen c NoneBracketed)))))) code.WriteField (read names a).expr (wording (field_of names) (read names b)) (read names c).expr t e
    (λ x y z ix iy iz. let p = hold.0.expr x ix in let q = worded names (field_word names) (field_of names) (field_is names) b hold.1.0 y iy in let r = hold.1.1.0.expr z iz in (ap Brackets (then_is (at stmt_kinds.WriteField refl) (then_is p.0 (then_is q.0 (then_is r.0 refl)))), (p.1, q.1, r.1)))
stmt_sound names (Some stmt_kinds.WriteElement) y0 (BracketedThen a (BracketedThen b (BracketedThen c NoneBracketed))) hold at t e =
    threes (StmtIs names (Brackets (BracketedThen y0 (BracketedThen a (BracketedThen b (BracketedThen c NoneBracketed)))))) code.WriteElement (read names a).expr (read names b).expr (read names c).expr t e
    (λ x y z ix iy iz. let p = hold.0.expr x ix in let q = hold.1.0.expr y iy in let r = hold.1.1.0.expr z iz in (ap Brackets (then_is (at stmt_kinds.WriteElement refl) (then_is p.0 (then_is q.0 (then_is r.0 refl)))), (p.1, q.1, r.1)))
stmt_sound names (Some stmt_kinds.Evaluate) y0 (BracketedThen a NoneBracketed) hold at t e =
    mapped (StmtIs names (Brackets (BracketedThen y0 (BracketedThen a NoneBracketed)))) code.Evaluate (read names a).expr t e
    (λ x ix. let p = hold.0.expr x ix in (ap Brackets (then_is (at stmt_kinds.Evaluate refl) (then_is p.0 refl)), p.1))
stmt_sound names (Some stmt_kinds.If) y0 (BracketedThen a (BracketedThen b (BracketedThen c NoneBracketed))) hold at t e =
    threes (StmtIs names (Brackets (BracketedThen y0 (BracketedThen a (BracketedThen b (BracketedThen c NoneBracketed)))))) code.If (read names a).expr (read names b).code (read names c).code t e
    (λ x y z ix iy iz. let p = hold.0.expr x ix in let q = hold.1.0.code y iy in let r = hold.1.1.0.code z iz in (ap Brackets (then_is (at stmt_kinds.If refl) (then_is p.0 (then_is q.0 (then_is r.0 refl)))), (p.1, q.1, r.1)))
stmt_sound names (Some stmt_kinds.While) y0 (BracketedThen a (BracketedThen b (BracketedThen c NoneBracketed))) hold at t e =
    threes (StmtIs names (Brackets (BracketedThen y0 (BracketedThen a (BracketedThen b (BracketedThen c NoneBracketed)))))) code.While (wording loop_of (read names a)) (read names b).expr (read names c).code t e
    (λ x y z ix iy iz. let p = worded names number_text loop_of loop_is a hold.0 x ix in let q = hold.1.0.expr y iy in let r = hold.1.1.0.code z iz in (ap Brackets (then_is (at stmt_kinds.While refl) (then_is p.0 (then_is q.0 (then_is r.0 refl)))), (p.1, q.1, r.1)))
stmt_sound names (Some stmt_kinds.Block) y0 (BracketedThen a (BracketedThen b NoneBracketed)) hold at t e =
    boths (StmtIs names (Brackets (BracketedThen y0 (BracketedThen a (BracketedThen b NoneBracketed))))) code.Block (wording label_of (read names a)) (read names b).code t e
    (λ x y ix iy. let p = worded names label_word label_of label_is a hold.0 x ix in let q = hold.1.0.code y iy in (ap Brackets (then_is (at stmt_kinds.Block refl) (then_is p.0 (then_is q.0 refl))), (p.1, q.1)))
stmt_sound names (Some stmt_kinds.Break) y0 (BracketedThen a NoneBracketed) hold at t e =
    mapped (StmtIs names (Brackets (BracketedThen y0 (BracketedThen a NoneBracketed)))) code.Break (wording label_of (read names a)) t e
    (λ x ix. let p = worded names label_word label_of label_is a hold.0 x ix in (ap Brackets (then_is (at stmt_kinds.Break refl) (then_is p.0 refl)), p.1))
stmt_sound names (Some stmt_kinds.Catch) y0 (BracketedThen a (BracketedThen b (BracketedThen c NoneBracketed))) hold at t e =
    threes (StmtIs names (Brackets (BracketedThen y0 (BracketedThen a (BracketedThen b (BracketedThen c NoneBracketed)))))) code.Catch (read names a).code (variable names (read names b)) (read names c).code t e
    (λ x y z ix iy iz. let p = hold.0.code x ix in let q = worded names text_of_name (variable_of names) (variable_is names) b hold.1.0 y iy in let r = hold.1.1.0.code z iz in (ap Brackets (then_is (at stmt_kinds.Catch refl) (then_is p.0 (then_is q.0 (then_is r.0 refl)))), (p.1, q.1, r.1)))
stmt_sound names (Some stmt_kinds.Finally) y0 (BracketedThen a (BracketedThen b NoneBracketed)) hold at t e =
    boths (StmtIs names (Brackets (BracketedThen y0 (BracketedThen a (BracketedThen b NoneBracketed))))) code.Finally (read names a).code (read names b).code t e
    (λ x y ix iy. let p = hold.0.code x ix in let q = hold.1.0.code y iy in (ap Brackets (then_is (at stmt_kinds.Finally refl) (then_is p.0 (then_is q.0 refl))), (p.1, q.1)))
stmt_sound names (Some stmt_kinds.Throw) y0 (BracketedThen a NoneBracketed) hold at t e =
    mapped (StmtIs names (Brackets (BracketedThen y0 (BracketedThen a NoneBracketed)))) code.Throw (read names a).expr t e
    (λ x ix. let p = hold.0.expr x ix in (ap Brackets (then_is (at stmt_kinds.Throw refl) (then_is p.0 refl)), p.1))
stmt_sound names (Some stmt_kinds.ThrowUnchecked) y0 (BracketedThen a NoneBracketed) hold at t e =
    mapped (StmtIs names (Brackets (BracketedThen y0 (BracketedThen a NoneBracketed)))) code.ThrowUnchecked (read names a).expr t e
    (λ x ix. let p = hold.0.expr x ix in (ap Brackets (then_is (at stmt_kinds.ThrowUnchecked refl) (then_is p.0 refl)), p.1))
stmt_sound names (Some stmt_kinds.Frame) y0 (BracketedThen a (BracketedThen b NoneBracketed)) hold at t e =
    boths (StmtIs names (Brackets (BracketedThen y0 (BracketedThen a (BracketedThen b NoneBracketed))))) code.Frame (wording (result_of names) (read names a)) (read names b).code t e
    (λ x y ix iy. let p = worded names (result_word names) (result_of names) (result_is names) a hold.0 x ix in let q = hold.1.0.code y iy in (ap Brackets (then_is (at stmt_kinds.Frame refl) (then_is p.0 (then_is q.0 refl))), (p.1, q.1)))
stmt_sound names (Some stmt_kinds.Raise) y0 (BracketedThen a NoneBracketed) hold at t e =
    mapped (StmtIs names (Brackets (BracketedThen y0 (BracketedThen a NoneBracketed)))) code.Raise (wording (class_of names) (read names a)) t e
    (λ x ix. let p = worded names (class_word names) (class_of names) (class_is names) a hold.0 x ix in (ap Brackets (then_is (at stmt_kinds.Raise refl) (then_is p.0 refl)), p.1))
stmt_sound names (Some stmt_kinds.NewArray) y0 (BracketedThen a (BracketedThen b NoneBracketed)) hold at t e =
    boths (StmtIs names (Brackets (BracketedThen y0 (BracketedThen a (BracketedThen b NoneBracketed))))) code.NewArray (variable names (read names a)) (read names b).expr t e
    (λ x y ix iy. let p = worded names text_of_name (variable_of names) (variable_is names) a hold.0 x ix in let q = hold.1.0.expr y iy in (ap Brackets (then_is (at stmt_kinds.NewArray refl) (then_is p.0 (then_is q.0 refl))), (p.1, q.1)))
stmt_sound names (Some stmt_kinds.Return) y0 (BracketedThen a NoneBracketed) hold at t e =
    either (option_map code.Return (read names a).expr) None t e
    (λ is. mapped (StmtIs names (Brackets (BracketedThen y0 (BracketedThen a NoneBracketed)))) code.Return (read names a).expr t is
    (λ x ix. let p = hold.0.expr x ix in (ap Brackets (then_is (at stmt_kinds.Return refl) (then_is p.0 refl)), p.1)))
    (λ is. absurd (none-some t is))
stmt_sound names (Some stmt_kinds.Return) y0 NoneBracketed hold at t e =
    subst (StmtIs names (Brackets (BracketedThen y0 NoneBracketed))) (some_same code.ReturnVoid t e) (ap Brackets (then_is (at stmt_kinds.Return refl) refl), tt)
stmt_sound names (Some stmt_kinds.Alloc) y0 (BracketedThen a (BracketedThen b NoneBracketed)) hold at t e =
    either (both code.AllocObject (variable names (read names a)) (wording (class_of names) (read names b))) (both code.AllocArray (variable names (read names a)) (read names b).array) t e
    (λ is. boths (StmtIs names (Brackets (BracketedThen y0 (BracketedThen a (BracketedThen b NoneBracketed))))) code.AllocObject (variable names (read names a)) (wording (class_of names) (read names b)) t is
    (λ x y ix iy. let p = worded names text_of_name (variable_of names) (variable_is names) a hold.0 x ix in let q = worded names (class_word names) (class_of names) (class_is names) b hold.1.0 y iy in
    (ap Brackets (then_is (at stmt_kinds.Alloc refl) (then_is p.0 (then_is q.0 refl))), (p.1, q.1))))
    (λ is. boths (StmtIs names (Brackets (BracketedThen y0 (BracketedThen a (BracketedThen b NoneBracketed))))) code.AllocArray (variable names (read names a)) (read names b).array t is
    (λ x y ix iy. let p = worded names text_of_name (variable_of names) (variable_is names) a hold.0 x ix in let q = hold.1.0.array y iy in
    (ap Brackets (then_is (at stmt_kinds.Alloc refl) (then_is p.0 (then_is q.0 refl))), (p.1, q.1))))
stmt_sound names (Some stmt_kinds.Stop) y0 NoneBracketed hold at t e =
    subst (StmtIs names (Brackets (BracketedThen y0 NoneBracketed))) (some_same code.Stop t e) (ap Brackets (then_is (at stmt_kinds.Stop refl) refl), tt)
stmt_sound names _ y0 ys hold at t e = absurd (none-some t e)

-- ---- what stands in brackets

statements_sound : (names : NameTable) (xs : BracketedList) → AllHold names xs → (ss : PlainCode) → statements names (reads names xs) ≡ Some ss → (stmts_text names ss ≡ xs) × CodeKnown names ss
statements_sound names NoneBracketed hold ss e = subst (λ ts. (stmts_text names ts ≡ NoneBracketed) × CodeKnown names ts) (some_same Done ss e) (refl, tt)
statements_sound names (BracketedThen a xs) hold ss e =
    boths (λ ts. (stmts_text names ts ≡ BracketedThen a xs) × CodeKnown names ts) Then (read names a).stmt (statements names (reads names xs)) ss e
    (λ x rest ix irest. let p = hold.0.stmt x ix in let q = statements_sound names xs hold.1 rest irest in (then_is p.0 q.0, (p.1, q.1)))

pair_sound : (names : NameTable) (ctx : List Sort) (xs : BracketedList) → AllHold names xs → (p : Name × PlainTerm) → pair_of names ctx (reads names xs) ≡ Some p → PairIs names ctx (Brackets xs) p
pair_sound names ctx (BracketedThen a (BracketedThen b NoneBracketed)) hold p e =
    boths (PairIs names ctx (Brackets (BracketedThen a (BracketedThen b NoneBracketed)))) (λ x t. (x, t)) (variable names (read names a)) ((read names b).term ctx) p e
    (λ x t ix it. let v = worded names text_of_name (variable_of names) (variable_is names) a hold.0 x ix in let u = hold.1.0.term ctx t it in
    (ap Brackets (then_is v.0 (then_is u.0 refl)), (v.1, u.1)))
pair_sound names ctx _ hold p e = absurd (none-some p e)

abbrev SomePairs : NameTable → List Sort → BracketedList → Pairs → Type 0
SomePairs names ctx xs ps = (pairs_text names ps ≡ xs) × PairsKnown names ctx ps

all_pairs_sound : (names : NameTable) (ctx : List Sort) (xs : BracketedList) → AllHold names xs → (ps : Pairs) → all_pairs names ctx (reads names xs) ≡ Some ps → SomePairs names ctx xs ps
all_pairs_sound names ctx NoneBracketed hold ps e = subst (SomePairs names ctx NoneBracketed) (some_same [] ps e) (refl, tt)
all_pairs_sound names ctx (BracketedThen a xs) hold ps e =
    boths (SomePairs names ctx (BracketedThen a xs)) (λ p rest. p ∷ rest) ((read names a).pair ctx) (all_pairs names ctx (reads names xs)) ps e
    (λ p rest ip irest. let q = hold.0.pair ctx p ip in let r = all_pairs_sound names ctx xs hold.1 rest irest in (then_is q.0 r.0, (q.1, r.1)))

some_text : (names : NameTable) (a : Bracketed) (xs : BracketedList) (ps : Pairs) → pairs_text names ps ≡ BracketedThen a xs → ps ≢ []
some_text names a xs [] e n = cc
some_text names a xs (p ∷ ps) e n = absurd cc

pairs_sound : (names : NameTable) (ctx : List Sort) (xs : BracketedList) → AllHold names xs → (ps : Pairs) → pairs_of names ctx (reads names xs) ≡ Some ps → PairsAre names ctx (Brackets xs) ps
pairs_sound names ctx NoneBracketed hold ps e = absurd (none-some ps e)
pairs_sound names ctx (BracketedThen a xs) hold ps e =
    let h = all_pairs_sound names ctx (BracketedThen a xs) hold ps e in
    (ap Brackets h.0, some_text names a xs ps h.0, h.1)

array_sound : (names : NameTable) (xs : BracketedList) → AllHold names xs → (t : Expr) → array_of names (reads names xs) ≡ Some t → ArrayIs names (Brackets xs) t
array_sound names (BracketedThen a (BracketedThen b NoneBracketed)) hold t e =
    let h = chained (λ w. cond (bytes_eq (codes "arr") w) (read names b).expr None) (read names a).word t e in
    let g = guarded (bytes_eq (codes "arr") h.0) (read names b).expr t h.2 in
    let p = hold.1.0.expr t g.1 in
    (ap Brackets (then_is (ap Atom (same_bytes (codes "arr") h.0 g.0) ∙ hold.0.word h.0 h.1) (then_is p.0 refl)), p.1)
array_sound names _ hold t e = absurd (none-some t e)

behind_sound : {H T : Type 0} (names : NameTable) (word : H → List ℕ) (hs : List H) (go : Option H → List Read → Option T) (P : Bracketed → T → Type 0) →
    ((h : Option H) (y0 : Bracketed) (ys : BracketedList) → AllHold names ys → ((k : H) → h ≡ Some k → Atom (word k) ≡ y0) → (t : T) → go h (reads names ys) ≡ Some t → P (Brackets (BracketedThen y0 ys)) t) →
    (xs : BracketedList) → AllHold names xs → (t : T) → behind names word hs go (reads names xs) ≡ Some t → P (Brackets xs) t
behind_sound names word hs go P sound NoneBracketed hold t e = absurd (none-some t e)
behind_sound names word hs go P sound (BracketedThen y0 ys) hold t e =
    sound (heading word hs (read names y0)) y0 ys hold.1 (λ k is. (worded names word (head_of word hs) (head_is word hs) y0 hold.0 k is).0) t e

word_holds : (names : NameTable) (w : List ℕ) → Holds names (Atom w) (read_word names w)
word_holds names w = record {
  word = λ v e. ap Atom (sym (some_same w v e));
  term = λ ctx t e. word_term_is names ctx w t e;
  loc = λ ctx l e. word_loc_is names ctx w l e;
  formula = λ ctx a e. word_formula_is names ctx w a e;
  pair = λ ctx p e. absurd (none-some p e);
  pairs = λ ctx ps e. absurd (none-some ps e);
  expr = λ t e. word_expr_is names w t e;
  stmt = λ s e. absurd (none-some s e);
  code = λ ss e. absurd (none-some ss e);
  array = λ t e. absurd (none-some t e);
}

brackets_hold : (names : NameTable) (xs : BracketedList) → AllHold names xs → Holds names (Brackets xs) (read_brackets names (reads names xs))
brackets_hold names xs hold = record {
  word = λ v e. absurd (none-some v e);
  term = λ ctx t e. behind_sound names term_word term_heads (term_of names ctx) (TermIs names ctx) (term_sound names ctx) xs hold t e;
  loc = λ ctx l e. behind_sound names loc_word loc_heads (loc_of names ctx) (LocIs names ctx) (loc_sound names ctx) xs hold l e;
  formula = λ ctx a e. behind_sound names formula_word formula_heads (formula_of names ctx) (FormulaIs names ctx) (formula_sound names ctx) xs hold a e;
  pair = λ ctx p e. pair_sound names ctx xs hold p e;
  pairs = λ ctx ps e. pairs_sound names ctx xs hold ps e;
  expr = λ t e. behind_sound names expr_word expr_heads (expr_of names) (ExprIs names) (expr_sound names) xs hold t e;
  stmt = λ s e. behind_sound names stmt_word stmt_heads (stmt_of names) (StmtIs names) (stmt_sound names) xs hold s e;
  code = λ ss e. let h = statements_sound names xs hold ss e in (ap Brackets h.0, h.1);
  array = λ t e. array_sound names xs hold t e;
}

mutual
  pub holds : (names : NameTable) (x : Bracketed) → Holds names x (read names x)
  holds names (Atom w) = word_holds names w
  holds names (Brackets xs) = brackets_hold names xs (all_hold names xs)

  all_hold : (names : NameTable) (xs : BracketedList) → AllHold names xs
  all_hold names NoneBracketed = tt
  all_hold names (BracketedThen x xs) = (holds names x, all_hold names xs)
