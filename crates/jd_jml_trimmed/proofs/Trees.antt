-- Each derivation of the JML of a place has one without the words that are left out.
use Rattle.std.proofs.Common.{◌≡◌, inl, inr, ℕ, suc, Bool, true, false, not, ◌&&◌, ◌||◌, nat_eq, List, [], ◌∷◌, ◌++◌, drop, length, Some, refl, sym, ap, subst, ◌∙◌, arith, append_assoc}
use Rattle.std.specs.List.{slice_get, list_all, list_any}
use Rattle.std.proofs.lemmas.Bool.{false≢true, and_parts, and_from, or_cases, eqb-true, not_from_false}
use Rattle.std.proofs.lemmas.List.{append-nil}
use Rattle.jd_grammar.specs.Grammars.{Production, Forest, Done, Leaf, Node, yield, IsForest}
use Rattle.jd_grammar.specs.Folds.{values}
use Rattle.jd_grammar.specs.declared.table.Symbol.{Symbol}
use Rattle.jd_grammar.specs.declared.table.Symbol.TheVariants.{Token, Name}
use Rattle.jd_jml_grammar.specs.Jml.{is_place}
use Rattle.jd_jml_grammar.specs.Productions.{jml_productions}
use Rattle.jd_jml_grammar.specs.declared.names.TheConstants.{STARTS}
use Rattle.jd_jml_tokens.specs.Lexemes.{PlainLexeme, kinds_of}
use Rattle.jd_jml_values.specs.Parts.{clauses_of}
use Rattle.jd_jml_attributes.specs.Forms.{PlainForm}
use Rattle.jd_jml_attributes.specs.Judging.{form_of_node}
use Rattle.jd_jml_trees.specs.Meaning.{value_of_node}
use Rattle.jd_jml_texts.specs.Kept.{texts_of_node}
use Rattle.jd_jml_trimmed.specs.Trimmed.{IsTrimmed, AreWithout, Trimmed}
use Rattle.jd_jml_trimmed.proofs.Shapes.{IsShape, shape_of, placed, passes, tested, implies, implied, is_inner, clause_names, is_upper, all_upper, long}
use Rattle.jd_jml_trimmed.proofs.Near.{two, LooksNear, has_token, is_closed, one_token, same_front, by_own_tokens, values_near, texts_near, forms_near}
use Rattle.jd_jml_trimmed.proofs.Sums.{Told, tells, four, beside, node, total, tree_tells, StartAlike, own_alike}
use Rattle.jd_jml_trimmed.proofs.Table.{owns_at, parts_are, node_tells}
use Rattle.jd_jml_trimmed.proofs.Again.{keeps_all, AreTrimmedBelow, all_seen, whole, lower_node, anew_at}

-- ---- tokens

kind_of : PlainLexeme → ℕ
kind_of l = l.kind

-- the tokens of two texts of kinds, side by side
record Split (ts : List PlainLexeme) (ks ls : List ℕ) : Type 0 where
  first : List PlainLexeme
  second : List PlainLexeme
  is : ts ≡ first ++ second
  kinds : kinds_of first ≡ ks
  others : kinds_of second ≡ ls

split : (ts : List PlainLexeme) (ks ls : List ℕ) → kinds_of ts ≡ ks ++ ls → Split ts ks ls
split ts [] ls e = record { first = []; second = ts; is = refl; kinds = refl; others = e }
split [] (k ∷ ks) ls e = absurd cc
split (t ∷ ts) (k ∷ ks) ls e =
    let first : t.kind ≡ k = cc in
    let more : kinds_of ts ≡ ks ++ ls = cc in
    let s = split ts ks ls more in
    record { first = t ∷ s.first; second = s.second; is = ap (λ xs. t ∷ xs) s.is; kinds = two (λ x xs. x ∷ xs) first s.kinds; others = s.others }

drop_kinds : (xs : List PlainLexeme) (ks : List ℕ) (ys : List PlainLexeme) → kinds_of xs ≡ ks → drop (length ks) (xs ++ ys) ≡ ys
drop_kinds [] [] ys e = refl
drop_kinds [] (k ∷ ks) ys e = absurd cc
drop_kinds (x ∷ xs) [] ys e = absurd cc
drop_kinds (x ∷ xs) (k ∷ ks) ys e = let more : kinds_of xs ≡ ks = cc in drop_kinds xs ks ys more

length_kinds : (xs : List PlainLexeme) → length (kinds_of xs) ≡ length xs
length_kinds [] = refl
length_kinds (x ∷ xs) = ap (λ n. suc n) (length_kinds xs)

without_both : (us ts vs xs : List PlainLexeme) → AreWithout us ts → AreWithout vs xs → AreWithout (us ++ vs) (ts ++ xs)
without_both us [] vs xs e w = subst (λ ys. AreWithout (ys ++ vs) xs) (sym e) w
without_both us (t ∷ ts) vs xs (inl (l, h)) w = inl (l, without_both us ts vs xs h w)
without_both us (t ∷ ts) vs xs (inr (ys, e, h)) w = inr (ys ++ vs, ap (λ zs. zs ++ vs) e, without_both ys ts vs xs h w)

without_none : (ts : List PlainLexeme) → AreWithout ts ts
without_none [] = refl
without_none (t ∷ ts) = inr (ts, refl, without_none ts)

kinds_append : (xs ys : List PlainLexeme) → kinds_of (xs ++ ys) ≡ kinds_of xs ++ kinds_of ys
kinds_append [] ys = refl
kinds_append (x ∷ xs) ys = ap (λ ks. x.kind ∷ ks) (kinds_append xs ys)

-- ---- clauses and words, which stay

abbrev ends_in_token : ℕ → Production → Bool
ends_in_token p r = implies (list_any (nat_eq r.head) clause_names) (has_token r.body && is_closed r.body)

clauses_end_in_tokens : passes ends_in_token 0 jml_productions ≡ true
clauses_end_in_tokens = refl

same_node : {V : Type 0} (make : ℕ → List PlainLexeme → List V → V) → LooksNear make
    → (p : ℕ) (r : Production) (c : Forest) (ts bs cs : List PlainLexeme) → slice_get jml_productions p ≡ Some r
    → has_token r.body ≡ true → is_closed r.body ≡ true → IsShape c r.body → kinds_of ts ≡ yield c
    → make p (ts ++ bs) (values make c (ts ++ bs)) ≡ make p (ts ++ cs) (values make c (ts ++ cs))
same_node make looks p r c ts bs cs at has closed h e =
    let l : length ts ≡ length (yield c) = sym (length_kinds ts) ∙ ap length e in
    let n = long c r.body h in
    let o = one_token r.body has in
    let agree = same_front ts bs cs in
    looks p r (ts ++ bs) (ts ++ cs) (values make c (ts ++ bs)) at (agree 0 (omega (arith, l, n, o))) (λ five. agree 4 (omega (arith, l, n, five)))
    ∙ ap (make p (ts ++ cs)) (by_own_tokens make looks c r.body (ts ++ bs) (ts ++ cs) h closed (λ i lt. agree i (omega (arith, lt, l))))

clause_stays : (p : ℕ) (r : Production) (c : Forest) (ts bs cs : List PlainLexeme) → slice_get jml_productions p ≡ Some r
    → list_any (nat_eq r.head) clause_names ≡ true → IsShape c r.body → kinds_of ts ≡ yield c
    → node p c (ts ++ bs) ≡ node p c (ts ++ cs)
clause_stays p r c ts bs cs at u h e =
    let (has, closed) = and_parts (has_token r.body) (is_closed r.body) (implied (list_any (nat_eq r.head) clause_names) (has_token r.body && is_closed r.body) (tested ends_in_token p r clauses_end_in_tokens at) u) in
    let forms = same_node form_of_node forms_near p r c ts bs cs at has closed h e in
    four tells
    (ap clauses_of (same_node value_of_node values_near p r c ts bs cs at has closed h e))
    (ap (λ (x : PlainForm). x.fault) forms)
    (ap (λ (x : PlainForm). x.high) forms)
    (same_node texts_of_node texts_near p r c ts bs cs at has closed h e)

-- ---- what trees side by side become, and what a node does

record Cut (f : Forest) (ss : List Symbol) (ts : List PlainLexeme) : Type 0 where
  forest : Forest
  tokens : List PlainLexeme
  shape : IsShape forest ss
  spelled : kinds_of tokens ≡ yield forest
  below : AreTrimmedBelow forest
  without : AreWithout tokens ts
  start : StartAlike ss ts tokens
  same : (bs cs : List PlainLexeme) → total f (ts ++ bs) ≡ total forest (tokens ++ cs)

record NodeCut (p : ℕ) (c : Forest) (a : ℕ) (ts : List PlainLexeme) : Type 0 where
  number : ℕ
  below : Forest
  tokens : List PlainLexeme
  production : Production
  at : slice_get jml_productions number ≡ Some production
  is : production.head ≡ a
  shape : IsShape below production.body
  spelled : kinds_of tokens ≡ yield below
  kept : keeps_all number
  trimmed : IsTrimmed below
  without : AreWithout tokens ts
  same : (bs cs : List PlainLexeme) → node p c (ts ++ bs) ≡ node number below (tokens ++ cs)

inner_cut : (p : ℕ) (r : Production) → slice_get jml_productions p ≡ Some r → is_inner r.head ≡ true → (c : Forest) (ts : List PlainLexeme)
    → IsShape c r.body → Cut c r.body ts → NodeCut p c r.head ts
inner_cut p r at u c ts h k =
    let m = (anew_at p r at u).anew k.forest k.tokens k.shape k.spelled k.below in
    record {
      number = m.number;
      below = m.below;
      tokens = m.tokens;
      production = m.production;
      at = m.at;
      is = m.is;
      shape = m.shape;
      spelled = m.spelled;
      kept = m.kept;
      trimmed = m.trimmed;
      without = m.without ts k.without;
      same = λ bs cs.
          node_tells p r at u c (ts ++ bs) h
          ∙ two beside (own_alike p r.body ts k.tokens bs cs (owns_at p r at u) k.start) (k.same bs cs)
          ∙ sym (node_tells p r at u k.forest (k.tokens ++ cs) k.shape)
          ∙ m.same cs;
    }

kept_cut : (p : ℕ) (r : Production) → slice_get jml_productions p ≡ Some r → not (is_inner r.head) ≡ true
    → list_any (nat_eq r.head) clause_names ≡ true → (c : Forest) (ts : List PlainLexeme)
    → IsShape c r.body → kinds_of ts ≡ yield c → NodeCut p c r.head ts
kept_cut p r at u v c ts h e =
    let (k, t) = lower_node p r c at u h in
    record {
      number = p;
      below = c;
      tokens = ts;
      production = r;
      at = at;
      is = refl;
      shape = h;
      spelled = e;
      kept = k;
      trimmed = t;
      without = without_none ts;
      same = λ bs cs. clause_stays p r c ts bs cs at v h e;
    }

node_cut : (p : ℕ) (r : Production) (a : ℕ) → slice_get jml_productions p ≡ Some r → r.head ≡ a → is_upper a ≡ true
    → (c : Forest) (ts : List PlainLexeme) → IsShape c r.body → kinds_of ts ≡ yield c
    → (all_upper r.body ≡ true → Cut c r.body ts) → NodeCut p c a ts
node_cut p r a at is u c ts h e parts = subst (λ b. NodeCut p c b ts) is (by (is_inner r.head) refl (subst (λ b. is_upper b ≡ true) (sym is) u))
  where
    by : (b : Bool) → is_inner r.head ≡ b → (b || list_any (nat_eq r.head) clause_names) ≡ true → NodeCut p c r.head ts
    by true i v = inner_cut p r at i c ts h (parts (parts_are p r at i).0)
    by false i v = kept_cut p r at (not_from_false (is_inner r.head) i) v c ts h e

total_node : (p : ℕ) (c f : Forest) (xs zs : List PlainLexeme) → kinds_of xs ≡ yield c
    → total (Node p c f) (xs ++ zs) ≡ beside (node p c (xs ++ zs)) (total f zs)
total_node p c f xs zs e = ap (λ us. beside (node p c (xs ++ zs)) (total f us)) (drop_kinds xs (yield c) zs e)

put : (p : ℕ) (c f : Forest) (a : ℕ) (ss : List Symbol) (ts xs ys : List PlainLexeme) → ts ≡ xs ++ ys → kinds_of xs ≡ yield c → NodeCut p c a xs
    → Cut f ss ys → Cut (Node p c f) (Name a ∷ ss) ts
put p c f a ss ts xs ys is e n k = subst (Cut (Node p c f) (Name a ∷ ss)) (sym is) both
  where
    both : Cut (Node p c f) (Name a ∷ ss) (xs ++ ys)
    both = record {
      forest = Node n.number n.below k.forest;
      tokens = n.tokens ++ k.tokens;
      shape = (n.production, n.at, n.is, n.shape, k.shape);
      spelled = kinds_append n.tokens k.tokens ∙ two (λ ks ls. ks ++ ls) n.spelled k.spelled;
      below = (n.kept, n.trimmed, k.below);
      without = without_both n.tokens xs k.tokens ys n.without k.without;
      start = tt;
      same = λ bs cs.
          ap (total (Node p c f)) (append_assoc xs ys bs)
          ∙ total_node p c f xs (ys ++ bs) e
          ∙ two beside (n.same (ys ++ bs) (k.tokens ++ cs)) (k.same bs cs)
          ∙ sym (total_node n.number n.below k.forest n.tokens (k.tokens ++ cs) n.spelled)
          ∙ ap (total (Node n.number n.below k.forest)) (sym (append_assoc n.tokens k.tokens cs));
    }

cut : (f : Forest) (ss : List Symbol) (ts : List PlainLexeme) → IsShape f ss → all_upper ss ≡ true → kinds_of ts ≡ yield f → Cut f ss ts
cut Done [] [] h u e = record { forest = Done; tokens = []; shape = tt; spelled = refl; below = tt; without = refl; start = tt; same = λ bs cs. refl }
cut Done [] (t ∷ ts) h u e = absurd cc
cut Done (s ∷ ss) ts h u e = absurd h
cut (Leaf k f) [] ts h u e = absurd h
cut (Leaf k f) (Token j ∷ ss) [] h u e = absurd cc
cut (Leaf k f) (Token j ∷ ss) (t ∷ ts) h u e =
    let first : t.kind ≡ k = cc in
    let more : kinds_of ts ≡ yield f = cc in
    let r = cut f ss ts h.1 u more in
    record {
      forest = Leaf k r.forest;
      tokens = t ∷ r.tokens;
      shape = (h.0, r.shape);
      spelled = two (λ x xs. x ∷ xs) first r.spelled;
      below = r.below;
      without = inr (r.tokens, refl, r.without);
      start = (t, ts, r.tokens, refl, refl);
      same = r.same;
    }
cut (Leaf k f) (Name a ∷ ss) ts h u e = absurd h
cut (Node p c f) [] ts h u e = absurd h
cut (Node p c f) (Token j ∷ ss) ts h u e = absurd h
cut (Node p c f) (Name a ∷ ss) ts (r, at, is, below, behind) u e =
    let (v, w) = and_parts (is_upper a) (all_upper ss) u in
    let s = split ts (yield c) (yield f) e in
    put p c f a ss ts s.first s.second s.is s.kinds
    (node_cut p r a at is v c s.first below s.kinds (λ x. cut c r.body s.first below x s.kinds))
    (cut f ss s.second behind w s.others)

-- ---- the law

all_of_these : (test : ℕ → Bool) (bs : List ℕ) (a : ℕ) → list_all test bs ≡ true → list_any (nat_eq a) bs ≡ true → test a ≡ true
all_of_these test [] a all e = absurd (false≢true e)
all_of_these test (b ∷ bs) a all e =
    let (here, others) = and_parts (test b) (list_all test bs) all in
    elim (or_cases (nat_eq a b) (list_any (nat_eq a) bs) e) [
      | inl k ↦ ap test (eqb-true a b k) ∙ here
      | inr k ↦ all_of_these test bs a others k
    ]

starts_are_upper : list_all is_upper STARTS ≡ true
starts_are_upper = refl

starts_are_seen : (a : ℕ) → all_seen (Name a ∷ []) ≡ true
starts_are_seen a = refl

pub trimmed : (f : Forest) (place : ℕ) (ts : List PlainLexeme) → is_place place ≡ true → IsForest jml_productions f (Name place ∷ []) []
    → yield f ≡ kinds_of ts → Trimmed f place ts
trimmed f place ts at h e =
    let shape = shape_of f (Name place ∷ []) [] h in
    let k = cut f (Name place ∷ []) ts shape (and_from (is_upper place) true (all_of_these is_upper STARTS place starts_are_upper at) refl) (sym e) in
    let same =
    sym (tree_tells k.forest place k.tokens k.shape)
    ∙ (ap (total k.forest) (sym (append-nil k.tokens)) ∙ (sym (k.same [] []) ∙ ap (total f) (append-nil ts)))
    ∙ tree_tells f place ts shape in
    record {
      forest = k.forest;
      tokens = k.tokens;
      tree = placed k.forest place k.shape;
      spelled = sym k.spelled;
      trimmed = whole k.forest (Name place ∷ []) k.shape refl k.below;
      without = k.without;
      clauses = ap (λ (t : Told). t.clauses) same;
      fault = ap (λ (t : Told). t.fault) same;
      high = ap (λ (t : Told). t.high) same;
      texts = ap (λ (t : Told). t.texts) same;
    }
