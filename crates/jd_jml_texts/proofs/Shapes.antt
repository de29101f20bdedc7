-- What each form of a node shows, where its parts show what their names say.
use Rattle.std.proofs.Common.{◌≡◌, ◌⊎◌, inl, inr, ℕ, List, [], ◌∷◌, ◌++◌, map, Bool, true, false, cond, Option, Some, None, codes, refl, sym, ap, ◌∙◌, append_assoc}
use Rattle.std.proofs.lemmas.List.{append-nil}
use Rattle.std.proofs.lemmas.List.Concat.{flat_map-append}
use Rattle.jd_grammar.specs.declared.piles.NodeParts.{NodeParts}
use Rattle.jd_jml_tokens.specs.Lexemes.{PlainLexeme}
use Rattle.jd_syntax.specs.JavaTypes.{PlainIdentifier}
use Rattle.jd_syntax.specs.SpecTrees as jml
use Rattle.jd_syntax.specs.SpecTrees.{PlainSpec, PlainSpecType, PlainClause, specs_of}
use Rattle.jd_syntax.specs.declared.spec.Quantifier.{Quantifier}
use Rattle.jd_jml_values.specs.Values as values
use Rattle.jd_jml_values.specs.Values.{PlainSuffix, PlainStart, PlainEnd, PlainValue}
use Rattle.jd_jml_values.specs.Heads.{int_type}
use Rattle.jd_jml_values.specs.Parts.{expression_of, some_expression, suffixes_of, expressions_of, arguments_of, name_of, type_of, bound_type_of, steps_of, end_of, locations_of, clauses_of}
use Rattle.jd_jml_expressions.specs.Applying.{applied, all_applied, named, joined, begun, class_type, quantified, sum}
use Rattle.jd_jml_expressions.specs.Meaning.{begun_at, parenthesis, int_cast, followed}
use Rattle.jd_jml_clauses.specs.Locating.{location, located, named_location, member_step, index_step}
use Rattle.jd_jml_clauses.specs.Meaning.{all_clauses}
use Rattle.jd_jml_print.specs.Texts.{Texts, quantifier_text, type_texts, spec_type_texts, spec_texts, specs_texts, more_texts, location_texts, clause_texts, separated}
use Rattle.jd_jml_texts.specs.Kept.{all_texts, IsRange}
use Rattle.jd_jml_texts.proofs.Frames.{suffix_texts, suffixes_texts, start_texts, end_texts, steps_texts, behind_name_texts, behind_index_texts, int_cast_texts, behind_parenthesis_texts, behind_range_texts, call_texts, behind_commas, IsExpr, AreSuffixes, IsStart, AreSteps, AreExprs, IsNamed, IsTyped, IsLocation}

pub two : {A B C : Type 0} (f : A → B → C) {a a' : A} {b b' : B} → a ≡ a' → b ≡ b' → f a b ≡ f a' b'
two f {a} {a'} {b} {b'} e g = ap (λ x. f x b) e ∙ ap (f a') g

pub three : {A B C D : Type 0} (f : A → B → C → D) {a a' : A} {b b' : B} {c c' : C} → a ≡ a' → b ≡ b' → c ≡ c' → f a b c ≡ f a' b' c'
three f {a} {a'} {b} {b'} {c} {c'} e g h = ap (λ x. f x b c) e ∙ two (f a') g h

pub four : {A B C D E : Type 0} (f : A → B → C → D → E) {a a' : A} {b b' : B} {c c' : C} {d d' : D} → a ≡ a' → b ≡ b' → c ≡ c' → d ≡ d' → f a b c d ≡ f a' b' c' d'
four f {a} {a'} {b} {b'} {c} {c'} {d} {d'} e g h i = ap (λ x. f x b c d) e ∙ three (f a') g h i

-- ---- texts of parts

pub expr_text : (v : PlainValue) (t : Texts) → IsExpr v t → t ≡ spec_texts (expression_of v)
expr_text v t (e, is, et) = et ∙ sym (ap (λ x. spec_texts (expression_of x)) is)

pub suffixes_text : (v : PlainValue) (t : Texts) → AreSuffixes v t → t ≡ suffixes_texts (suffixes_of v)
suffixes_text v t (ss, is, et) = et ∙ sym (ap (λ x. suffixes_texts (suffixes_of x)) is)

pub name_text : (v : PlainValue) (t : Texts) → IsNamed v t → t ≡ (name_of v).name ∷ []
name_text v t (x, is, et) = et ∙ sym (ap (λ y. (name_of y).name ∷ []) is)

pub type_text : (v : PlainValue) (t : Texts) → IsTyped v t → t ≡ type_texts (type_of v).written
type_text v t (x, is, et) = et ∙ sym (ap (λ y. type_texts (type_of y).written) is)

pub steps_text : (v : PlainValue) (t : Texts) → AreSteps [] v t → t ≡ steps_texts (steps_of v) (end_of v)
steps_text v t (ss, end, is, et) = et ∙ sym (ap (λ y. steps_texts (steps_of y) (end_of y)) is)

pub exprs_text : (texts : List PlainSpec → Texts) (v : PlainValue) (t : Texts) → AreExprs texts v t → t ≡ texts (expressions_of v)
exprs_text texts v t (es, is, et) = et ∙ sym (ap (λ y. texts (expressions_of y)) is)

-- ---- clauses

pub single : (c : PlainClause) → clause_texts c ≡ all_texts (c ∷ [])
single c = sym (append-nil (clause_texts c))

no_clauses : (v : PlainValue) → v ≡ values.Nothing → [] ≡ all_texts (clauses_of v)
no_clauses v e = sym (ap (λ x. all_texts (clauses_of x)) e)

abbrev ShowsClauses : PlainValue → Texts → Type 0
ShowsClauses v t = t ≡ all_texts (clauses_of v)

pub clauses3 : (parts : NodeParts PlainValue) (t u r : Texts) → ShowsClauses parts.first t → ShowsClauses parts.second u → ShowsClauses parts.third r → t ++ (u ++ r) ≡ all_texts (all_clauses parts)
clauses3 parts t u r h k l =
    three (λ x y z. x ++ (y ++ z)) h k l
    ∙ ap (λ x. all_texts (clauses_of parts.first) ++ x) (sym (flat_map-append clause_texts (clauses_of parts.second) (clauses_of parts.third)))
    ∙ sym (flat_map-append clause_texts (clauses_of parts.first) (clauses_of parts.second ++ clauses_of parts.third))

pub clauses2 : (parts : NodeParts PlainValue) (t u : Texts) → ShowsClauses parts.first t → ShowsClauses parts.second u → parts.third ≡ values.Nothing → t ++ u ≡ all_texts (all_clauses parts)
clauses2 parts t u h k n = ap (λ x. t ++ x) (sym (append-nil u)) ∙ clauses3 parts t u [] h k (no_clauses parts.third n)

pub clauses1 : (parts : NodeParts PlainValue) (t : Texts) → ShowsClauses parts.first t → parts.second ≡ values.Nothing → parts.third ≡ values.Nothing → t ≡ all_texts (all_clauses parts)
clauses1 parts t h m n = sym (append-nil t) ∙ clauses2 parts t [] h (no_clauses parts.second m) n

pub clauses0 : (parts : NodeParts PlainValue) → parts.first ≡ values.Nothing → parts.second ≡ values.Nothing → parts.third ≡ values.Nothing → [] ≡ all_texts (all_clauses parts)
clauses0 parts l m n = clauses1 parts [] (no_clauses parts.first l) m n

-- ---- operands

applied_text : (e : PlainSpec) (s : PlainSuffix) → spec_texts (applied e s) ≡ spec_texts e ++ suffix_texts s
applied_text e (values.Infix o r) = refl
applied_text e (values.InstanceOf t) = refl
applied_text e (values.Choice a b) = refl
applied_text e (values.Implies r) = refl
applied_text e (values.Equivalent r) = refl
applied_text e (values.Member x) = refl
applied_text e (values.Method x es) = refl
applied_text e (values.Element i) = refl

pub applied_texts : (e : PlainSpec) (ss : List PlainSuffix) → spec_texts (all_applied e ss) ≡ spec_texts e ++ suffixes_texts ss
applied_texts e [] = sym (append-nil (spec_texts e))
applied_texts e (s ∷ ss) = applied_texts (applied e s) ss ∙ ap (λ t. t ++ suffixes_texts ss) (applied_text e s) ∙ append_assoc (spec_texts e) (suffix_texts s) (suffixes_texts ss)

pub operand : (v w : PlainValue) (t u : Texts) → IsExpr v t → AreSuffixes w u → IsExpr (values.Expression (all_applied (expression_of v) (suffixes_of w))) (t ++ u)
operand v w t u h k = (_, refl, two (λ x y. x ++ y) (expr_text v t h) (suffixes_text w u k) ∙ sym (applied_texts (expression_of v) (suffixes_of w)))

named_text : (x : PlainIdentifier) (es : Option (List PlainSpec)) → (x.name ∷ []) ++ call_texts es ≡ spec_texts (named x es)
named_text x None = refl
named_text x (Some es) = refl

pub name_operand : (v w x : PlainValue) (t u r : Texts) → IsNamed v t → u ≡ call_texts (arguments_of w) → AreSuffixes x r
    → IsExpr (values.Expression (all_applied (named (name_of v) (arguments_of w)) (suffixes_of x))) (t ++ (u ++ r))
name_operand v w x t u r h k l = (
  _,
  refl,
  sym (append_assoc t u r)
      ∙ two (λ y z. y ++ z) (two (λ y z. y ++ z) (name_text v t h) k ∙ named_text (name_of v) (arguments_of w)) (suffixes_text x r l)
      ∙ sym (applied_texts (named (name_of v) (arguments_of w)) (suffixes_of x)),
)

begun_text : (at : ℕ) (s : PlainStart) → codes "(" ∷ start_texts s ≡ spec_texts (begun at s)
begun_text at (values.Inside e) = refl
begun_text at (values.Cast t e) = refl
begun_text at (values.Quantified q t x e) = refl
begun_text at (values.QuantifiedIn q t x r e) = refl
begun_text at (values.Sum x a b e) = refl

pub begun_texts : (at : ℕ) (v : PlainValue) (t : Texts) → IsStart v t → codes "(" ∷ t ≡ spec_texts (begun_at at v)
begun_texts at v t (s, ss, is, et) =
    ap (λ x. codes "(" ∷ x) et ∙ ap (λ x. x ++ suffixes_texts ss) (begun_text at s) ∙ sym (applied_texts (begun at s) ss) ∙ sym (ap (λ x. spec_texts (begun_at at x)) is)

-- ---- what stands behind an operand

-- one thing alone
pub alone : (s : PlainSuffix) (t : Texts) → t ≡ suffix_texts s → AreSuffixes (values.Suffixes (s ∷ [])) t
alone s t e = (s ∷ [], refl, e ∙ sym (append-nil (suffix_texts s)))

-- and more behind it
pub before : (s : PlainSuffix) (w : PlainValue) (t u : Texts) → t ≡ suffix_texts s → AreSuffixes w u → AreSuffixes (values.Suffixes (s ∷ suffixes_of w)) (t ++ u)
before s w t u e k = (_, refl, two (λ x y. x ++ y) e (suffixes_text w u k))

joined_text : (x : PlainIdentifier) (es : Option (List PlainSpec)) → codes "." ∷ x.name ∷ call_texts es ≡ suffix_texts (joined x es)
joined_text x None = refl
joined_text x (Some es) = refl

pub member : (v w x : PlainValue) (t u r : Texts) → IsNamed v t → u ≡ call_texts (arguments_of w) → AreSuffixes x r
    → AreSuffixes (values.Suffixes (joined (name_of v) (arguments_of w) ∷ suffixes_of x)) (codes "." ∷ (t ++ (u ++ r)))
member v w x t u r h k l = (
  _,
  refl,
  ap (λ y. codes "." ∷ y) (sym (append_assoc t u r))
      ∙ two (λ y z. y ++ z) (ap (λ y. codes "." ∷ y) (two (λ y z. y ++ z) (name_text v t h) k) ∙ joined_text (name_of v) (arguments_of w)) (suffixes_text x r l),
)

pub element : (v w : PlainValue) (t u : Texts) → IsExpr v t → AreSuffixes w u → AreSuffixes (values.Suffixes (values.Element (expression_of v) ∷ suffixes_of w)) (codes "[" ∷ (t ++ codes "]" ∷ u))
element v w t u h k = (
  _,
  refl,
  two (λ x y. codes "[" ∷ (x ++ codes "]" ∷ y)) (expr_text v t h) (suffixes_text w u k)
      ∙ ap (λ x. codes "[" ∷ x) (sym (append_assoc (spec_texts (expression_of v)) (codes "]" ∷ []) (suffixes_texts (suffixes_of w)))),
)

-- ---- parentheses

-- what begins so, with nothing behind it
pub started : (s : PlainStart) (t : Texts) → t ≡ start_texts s → IsStart (values.Started s []) t
started s t e = (s, [], refl, e ∙ sym (append-nil (start_texts s)))

pub inside_alone : (v w : PlainValue) (t : Texts) → IsExpr v t → w ≡ values.Nothing → IsStart (parenthesis (expression_of v) w) (t ++ codes ")" ∷ [])
inside_alone v w t h n =
    (values.Inside (expression_of v), [], ap (parenthesis (expression_of v)) n, ap (λ x. x ++ codes ")" ∷ []) (expr_text v t h) ∙ sym (append-nil (spec_texts (expression_of v) ++ codes ")" ∷ [])))

abbrev IsCast : PlainValue → PlainSpec → Type 0
IsCast w e = (d : PlainSpec) → w ≡ values.Expression d → (at : ℕ) × (x : List ℕ) × (e ≡ jml.Name at x)

cast_text : (e d : PlainSpec) (at : ℕ) (x : List ℕ) → e ≡ jml.Name at x → spec_texts e ++ codes ")" ∷ spec_texts d ≡ start_texts (values.Cast (class_type e) d)
cast_text e d at x is = ap (λ y. spec_texts y ++ codes ")" ∷ spec_texts d) is ∙ sym (ap (λ y. type_texts (class_type y).written ++ codes ")" ∷ spec_texts d) is)

in_parentheses : (e : PlainSpec) (w : PlainValue) → IsCast w e → IsStart (parenthesis e w) (spec_texts e ++ codes ")" ∷ behind_parenthesis_texts w)
in_parentheses e (values.Expression d) q = let (at, x, is) = q d refl in started (values.Cast (class_type e) d) _ (cast_text e d at x is)
in_parentheses e (values.Suffixes ss) q = (values.Inside e, ss, refl, sym (append_assoc (spec_texts e) (codes ")" ∷ []) (suffixes_texts ss)))
in_parentheses e _ q = started (values.Inside e) _ refl

pub parenthesized : (v w : PlainValue) (t u : Texts) → IsExpr v t → u ≡ behind_parenthesis_texts w → IsCast w (expression_of v) → IsStart (parenthesis (expression_of v) w) (t ++ codes ")" ∷ u)
parenthesized v w t u h k q =
    let (s, ss, is, et) = in_parentheses (expression_of v) w q in
    (s, ss, is, two (λ x y. x ++ codes ")" ∷ y) (expr_text v t h) k ∙ et)

pub int_cast_shown : (ts : List PlainLexeme) (v : PlainValue) (t : Texts) → t ≡ int_cast_texts v → IsStart (int_cast ts v) (codes "int" ∷ t)
int_cast_shown ts (values.ArrayOperand e) t h = started _ _ (ap (λ x. codes "int" ∷ x) h)
int_cast_shown ts (values.Expression e) t h = started _ _ (ap (λ x. codes "int" ∷ x) h)
int_cast_shown ts _ t h = started _ _ (ap (λ x. codes "int" ∷ x) h)

pub followed_shown : (v w : PlainValue) (t u : Texts) → IsStart v t → AreSuffixes w u → IsStart (followed v (suffixes_of w)) (t ++ u)
followed_shown v w t u (s, ss, is, et) k = (
  s,
  ss ++ suffixes_of w,
  ap (λ x. followed x (suffixes_of w)) is,
  two (λ x y. x ++ y) et (suffixes_text w u k)
      ∙ append_assoc (start_texts s) (suffixes_texts ss) (suffixes_texts (suffixes_of w))
      ∙ ap (λ x. start_texts s ++ x) (sym (flat_map-append suffix_texts ss (suffixes_of w))),
)

quantified_text : (q : Quantifier) (b : PlainSpecType) (x : PlainIdentifier) (e : PlainSpec) (r : Option PlainSpec)
    → quantifier_text q ∷ (spec_type_texts b ++ (x.name ∷ codes ";" ∷ (spec_texts e ++ behind_range_texts r))) ≡ start_texts (quantified q b x e r)
quantified_text q b x e None = refl
quantified_text q b x e (Some d) = refl

pub quantified_shown : (q : Quantifier) (v w x y : PlainValue) (t u r i : Texts) → t ≡ spec_type_texts (bound_type_of v) → IsNamed w u → IsExpr x r → i ≡ behind_range_texts (some_expression y)
    → IsStart (values.Started (quantified q (bound_type_of v) (name_of w) (expression_of x) (some_expression y)) []) (quantifier_text q ∷ (t ++ (u ++ codes ";" ∷ (r ++ i))))
quantified_shown q v w x y t u r i h k l m =
    started _ _ (four (λ a b c d. quantifier_text q ∷ (a ++ (b ++ codes ";" ∷ (c ++ d)))) h (name_text w u k) (expr_text x r l) m ∙ quantified_text q (bound_type_of v) (name_of w) (expression_of x) (some_expression y))

sum_text : (x : PlainIdentifier) (range e : PlainSpec) → IsRange x.name range
    → codes "\\sum" ∷ codes "int" ∷ x.name ∷ codes ";" ∷ (spec_texts range ++ (codes ";" ∷ (spec_texts e ++ codes ")" ∷ []))) ≡ start_texts (sum x range e)
sum_text x range e (at, low, name, high, other, a, b, is) =
    ap (λ y. codes "\\sum" ∷ codes "int" ∷ x.name ∷ codes ";" ∷ (spec_texts y ++ (codes ";" ∷ (spec_texts e ++ codes ")" ∷ [])))) is
    ∙ ap (λ y. codes "\\sum" ∷ codes "int" ∷ x.name ∷ codes ";" ∷ y)
    (ap (λ y. y ++ end) (append_assoc (spec_texts a) (codes "<=" ∷ x.name ∷ []) (codes "&&" ∷ x.name ∷ codes "<" ∷ spec_texts b))
    ∙ append_assoc (spec_texts a) (codes "<=" ∷ x.name ∷ codes "&&" ∷ x.name ∷ codes "<" ∷ spec_texts b) end)
    ∙ sym (ap (λ y. start_texts (sum x y e)) is)
  where
    end : Texts
    end = codes ";" ∷ (spec_texts e ++ codes ")" ∷ [])

pub sum_shown : (v w x : PlainValue) (t u r : Texts) → IsNamed v t → IsExpr w u → IsExpr x r → IsRange (name_of v).name (expression_of w)
    → IsStart (values.Started (sum (name_of v) (expression_of w) (expression_of x)) []) (codes "\\sum" ∷ codes "int" ∷ (t ++ codes ";" ∷ (u ++ codes ";" ∷ (r ++ codes ")" ∷ []))))
sum_shown v w x t u r h k l q =
    started _ _ (three (λ a b c. codes "\\sum" ∷ codes "int" ∷ (a ++ codes ";" ∷ (b ++ codes ";" ∷ (c ++ codes ")" ∷ [])))) (name_text v t h) (expr_text w u k) (expr_text x r l) ∙ sum_text (name_of v) (expression_of w) (expression_of x) q)

pub int_type_text : (b : Bool) → codes "int" ∷ cond b (codes "[" ∷ codes "]" ∷ []) [] ≡ type_texts (int_type b)
int_type_text true = refl
int_type_text false = refl

-- ---- locations

location_text : (at : ℕ) (e : PlainSpec) (end : PlainEnd) → location_texts (location at e end) ≡ spec_texts e ++ end_texts end
location_text at e (values.FieldEnd x) = refl
location_text at e values.AllFieldsEnd = refl
location_text at e (values.ElementEnd i) = refl
location_text at e (values.RangeEnd i j) = refl
location_text at e values.AllElementsEnd = refl

pub located_text : (at : ℕ) (e : PlainSpec) (ss : List PlainSuffix) (end : PlainEnd) → spec_texts e ++ steps_texts ss end ≡ location_texts (located at e ss end)
located_text at e ss end =
    sym (append_assoc (spec_texts e) (suffixes_texts ss) (end_texts end)) ∙ ap (λ x. x ++ end_texts end) (sym (applied_texts e ss)) ∙ sym (location_text at (all_applied e ss) end)

named_location_text : (x : PlainIdentifier) (v : PlainValue) → x.name ∷ behind_name_texts v ≡ location_texts (named_location x v)
named_location_text x (values.Steps ss end) = located_text x.at (named x None) ss end
named_location_text x (values.Invoked es ss end) = located_text x.at (named x (Some es)) ss end
named_location_text x _ = refl

pub named_location_shown : (v w : PlainValue) (t u : Texts) → IsNamed v t → u ≡ behind_name_texts w → IsLocation (values.Locations (named_location (name_of v) w ∷ [])) (t ++ u)
named_location_shown v w t u h k = (_, refl, two (λ x y. x ++ y) (name_text v t h) k ∙ named_location_text (name_of v) w)

member_steps : (x : PlainIdentifier) (v : PlainValue) (u : Texts) → u ≡ behind_name_texts v → AreSteps (codes "." ∷ []) (member_step x v) (x.name ∷ u)
member_steps x (values.Steps ss end) u h = (_, _, refl, ap (λ y. codes "." ∷ x.name ∷ y) h)
member_steps x (values.Invoked es ss end) u h =
    (_, _, refl, ap (λ y. codes "." ∷ x.name ∷ y) (h ∙ sym (append_assoc (codes "(" ∷ specs_texts (specs_of es) ++ codes ")" ∷ []) (suffixes_texts ss) (end_texts end))))
member_steps x _ u h = (_, _, refl, ap (λ y. codes "." ∷ x.name ∷ y) h)

pub member_shown : (v w : PlainValue) (t u : Texts) → IsNamed v t → u ≡ behind_name_texts w → AreSteps (codes "." ∷ []) (member_step (name_of v) w) (t ++ u)
member_shown v w t u h k =
    let (ss, end, is, et) = member_steps (name_of v) w u k in
    (ss, end, is, ap (λ x. codes "." ∷ (x ++ u)) (name_text v t h) ∙ et)

index_steps : (i : PlainSpec) (v : PlainValue) → AreSteps (codes "[" ∷ []) (index_step i v) (spec_texts i ++ behind_index_texts v)
index_steps i (values.Steps ss end) = (
  _,
  _,
  refl,
  ap (λ y. codes "[" ∷ y)
      (sym (append_assoc (spec_texts i) (codes "]" ∷ []) (suffixes_texts ss ++ end_texts end)) ∙ sym (append_assoc (spec_texts i ++ codes "]" ∷ []) (suffixes_texts ss) (end_texts end))),
)
index_steps i (values.Bound j) = (_, _, refl, refl)
index_steps i _ = (_, _, refl, refl)

pub index_shown : (v w : PlainValue) (t u : Texts) → IsExpr v t → u ≡ behind_index_texts w → AreSteps (codes "[" ∷ []) (index_step (expression_of v) w) (t ++ u)
index_shown v w t u h k =
    let (ss, end, is, et) = index_steps (expression_of v) w in
    (ss, end, is, two (λ x y. codes "[" ∷ (x ++ y)) (expr_text v t h) k ∙ et)

pub element_behind : (v : PlainValue) (t : Texts) → ((v ≡ values.Nothing) × (t ≡ [])) ⊎ AreSteps [] v t → codes "]" ∷ t ≡ behind_index_texts v
element_behind v t (inl (is, et)) = ap (λ x. codes "]" ∷ x) et ∙ sym (ap behind_index_texts is)
element_behind v t (inr (ss, end, is, et)) = ap (λ x. codes "]" ∷ x) et ∙ sym (ap behind_index_texts is)

abbrev locations : PlainValue → List Texts
locations v = map location_texts (locations_of v)

pub first_location : (v w : PlainValue) (t u : Texts) → IsLocation v t → u ≡ behind_commas (locations w) → t ++ u ≡ separated (map location_texts (locations_of v ++ locations_of w))
first_location v w t u (l, is, et) k = two (λ x y. x ++ y) et k ∙ sym (ap (λ ls. separated (map location_texts (ls ++ locations_of w))) is)

pub next_location : (v w : PlainValue) (t u : Texts) → IsLocation v t → u ≡ behind_commas (locations w) → codes "," ∷ (t ++ u) ≡ behind_commas (map location_texts (locations_of v ++ locations_of w))
next_location v w t u (l, is, et) k = ap (λ x. codes "," ∷ x) (two (λ x y. x ++ y) et k) ∙ sym (ap (λ ls. behind_commas (map location_texts (ls ++ locations_of w))) is)

-- ---- arguments

pub first_argument : (v w : PlainValue) (t u : Texts) → IsExpr v t → AreExprs (λ es. more_texts (specs_of es) ++ codes ")" ∷ []) w u
    → AreExprs (λ es. specs_texts (specs_of es) ++ codes ")" ∷ []) (values.Expressions (expression_of v ∷ expressions_of w)) (t ++ u)
first_argument v w t u h k = (
  _,
  refl,
  two (λ x y. x ++ y) (expr_text v t h) (exprs_text (λ es. more_texts (specs_of es) ++ codes ")" ∷ []) w u k)
      ∙ sym (append_assoc (spec_texts (expression_of v)) (more_texts (specs_of (expressions_of w))) (codes ")" ∷ [])),
)

pub next_argument : (v w : PlainValue) (t u : Texts) → IsExpr v t → AreExprs (λ es. more_texts (specs_of es) ++ codes ")" ∷ []) w u
    → AreExprs (λ es. more_texts (specs_of es) ++ codes ")" ∷ []) (values.Expressions (expression_of v ∷ expressions_of w)) (codes "," ∷ (t ++ u))
next_argument v w t u h k = (
  _,
  refl,
  ap (λ x. codes "," ∷ x)
      (two (λ x y. x ++ y) (expr_text v t h) (exprs_text (λ es. more_texts (specs_of es) ++ codes ")" ∷ []) w u k)
      ∙ sym (append_assoc (spec_texts (expression_of v)) (more_texts (specs_of (expressions_of w))) (codes ")" ∷ []))),
)
