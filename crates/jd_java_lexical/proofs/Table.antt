-- What the nodes of each production have: but behind a minus, values that are good by themselves.
use Rattle.std.proofs.Common.{◌≡◌, ℕ, ◌+◌, List, [], ◌∷◌, ◌++◌, Bool, true, false, not, ◌&&◌, nat_eq, length, take, drop, refl, sym, subst, ◌∙◌, arith}
use Rattle.std.specs.List.{AllByRecursion as Every}
use Rattle.std.proofs.lemmas.Bool.{and_parts}
use Rattle.std.proofs.lemmas.Bool.Decides.{nat_tests}
use Rattle.jd_grammar.specs.Grammars.{Production, produces}
use Rattle.jd_grammar.specs.Nodes.{all_of, filled}
use Rattle.jd_grammar.specs.declared.piles.NodeParts.{NodeParts}
use Rattle.jd_grammar.specs.declared.table.Symbol.{Symbol}
use Rattle.jd_grammar.specs.declared.table.Symbol.TheVariants.{Token, Name}
use Rattle.jd_java_grammar.specs.Productions.{java_productions}
use Rattle.jd_java_grammar.specs.declared.kinds.TheConstants as kinds
use Rattle.jd_java_grammar.specs.declared.names.TheConstants as names
use Rattle.jd_java_tokens.specs.Contents.{PlainLexeme}
use Rattle.jd_java_values.specs.Values.{PlainValue, Nothing}
use Rattle.jd_java_values.specs.Parts.{expression_of}
use Rattle.jd_java_expressions.specs.declared.action.Action.{Action as ExpressionAction}
use Rattle.jd_java_expressions.specs.declared.action.Action.TheVariants as expressions
use Rattle.jd_java_members.specs.declared.action.Action.{Action as MemberAction}
use Rattle.jd_java_members.specs.declared.action.Action.TheVariants as members
use Rattle.jd_java_trees.specs.Meaning.{action_of, meaning_by, value_of_node}
use Rattle.jd_java_trees.specs.declared.actions.Action.{Action}
use Rattle.jd_java_trees.specs.declared.actions.Action.TheVariants as actions
use Rattle.jd_resolved_bodies.specs.Lexical.{IsLexical}
use Rattle.jd_java_lexical.proofs.Expressions as of_expressions
use Rattle.jd_java_lexical.proofs.Statements as of_statements
use Rattle.jd_java_lexical.proofs.Members as of_members
use Rattle.jd_java_lexical.proofs.Good.{Good, GoodParts, good_parts}
use Rattle.jd_java_lexical.proofs.Tokens.{TokenSo, number_few}

-- ---- actions

abbrev Needs : Action → List PlainLexeme → Type 0
Needs (actions.Expression a) ts = of_expressions.Needs a ts
Needs (actions.Statement a) ts = Unit {0}
Needs (actions.Member a) ts = of_members.Needs a ts

acts : (a : Action) (ts : List PlainLexeme) (parts : NodeParts PlainValue) → Every TokenSo ts → GoodParts parts → Needs a ts → Good (meaning_by a ts parts)
acts (actions.Expression a) ts parts so g n = of_expressions.acts a ts parts so g n
acts (actions.Statement a) ts parts so g n = of_statements.acts a ts parts so g
acts (actions.Member a) ts parts so g n = of_members.acts a ts parts so g n

-- ---- what a production has before its first name

abbrev starts : ℕ → List Symbol → Bool
starts k [] = false
starts k (Token j ∷ ss) = nat_eq j k
starts k (Name a ∷ ss) = false

abbrev met_by_expression : ExpressionAction → List Symbol → Bool
met_by_expression expressions.Identifier ss = starts kinds.IDENTIFIER ss
met_by_expression expressions.Number ss = starts kinds.NUMBER ss
met_by_expression a ss = true

abbrev met_by_member : MemberAction → List Symbol → Bool
met_by_member members.Constant ss = starts kinds.NUMBER ss
met_by_member a ss = true

abbrev met : Action → List Symbol → Bool
met (actions.Expression a) ss = met_by_expression a ss
met (actions.Statement a) ss = true
met (actions.Member a) ss = met_by_member a ss

-- the first token is of the production's kind
abbrev pub Begins : List Symbol → List PlainLexeme → Type 0
Begins [] ts = Unit {0}
Begins (Token k ∷ ss) [] = ⊥
Begins (Token k ∷ ss) (t ∷ ts) = t.kind ≡ k
Begins (Name a ∷ ss) ts = Unit {0}

same_kind : (j k : ℕ) → nat_eq j k ≡ true → j ≡ k
same_kind j k e = grind (arith, nat_tests)

identifier_met : (ss : List Symbol) (ts : List PlainLexeme) → starts kinds.IDENTIFIER ss ≡ true → Begins ss ts → Every TokenSo ts → of_expressions.Needs expressions.Identifier ts
identifier_met [] ts e b so = absurd cc
identifier_met (Name a ∷ ss) ts e b so = absurd cc
identifier_met (Token j ∷ ss) [] e b so = absurd b
identifier_met (Token j ∷ ss) (t ∷ ts) e b so = so.0.identifier (b ∙ same_kind j kinds.IDENTIFIER e)

number_met : (ss : List Symbol) (ts : List PlainLexeme) → starts kinds.NUMBER ss ≡ true → Begins ss ts → Every TokenSo ts → of_expressions.Needs expressions.Number ts
number_met [] ts e b so = absurd cc
number_met (Name a ∷ ss) ts e b so = absurd cc
number_met (Token j ∷ ss) [] e b so = absurd b
number_met (Token j ∷ ss) (t ∷ ts) e b so = so.0.literal (b ∙ same_kind j kinds.NUMBER e)

needs_of_expression : (a : ExpressionAction) (ss : List Symbol) (ts : List PlainLexeme) → met_by_expression a ss ≡ true → Begins ss ts → Every TokenSo ts → of_expressions.Needs a ts
needs_of_expression expressions.Identifier ss ts e b so = identifier_met ss ts e b so
needs_of_expression expressions.Number ss ts e b so = number_met ss ts e b so
needs_of_expression a ss ts e b so = tt

needs_of_member : (a : MemberAction) (ss : List Symbol) (ts : List PlainLexeme) → met_by_member a ss ≡ true → Begins ss ts → Every TokenSo ts → of_members.Needs a ts
needs_of_member members.Constant ss ts e b so = number_met ss ts e b so
needs_of_member a ss ts e b so = tt

needs : (a : Action) (ss : List Symbol) (ts : List PlainLexeme) → met a ss ≡ true → Begins ss ts → Every TokenSo ts → Needs a ts
needs (actions.Expression a) ss ts e b so = needs_of_expression a ss ts e b so
needs (actions.Statement a) ss ts e b so = tt
needs (actions.Member a) ss ts e b so = needs_of_member a ss ts e b so

-- ---- what a node of a name has

abbrev Role : Bool → PlainValue → Type 0
Role true v = IsLexical true (expression_of v)
Role false v = Good v

abbrev pub Shown : ℕ → PlainValue → Type 0
Shown a v = Role (nat_eq a names.NEGATED) v

abbrev pub FitValues : List Symbol → List PlainValue → Type 0
FitValues [] vs = vs ≡ []
FitValues (Token kind ∷ ss) vs = FitValues ss vs
FitValues (Name a ∷ ss) [] = ⊥
FitValues (Name a ∷ ss) (v ∷ vs) = Shown a v × FitValues ss vs

abbrev plain : List Symbol → Bool
plain [] = true
plain (Token kind ∷ ss) = plain ss
plain (Name a ∷ ss) = not (nat_eq a names.NEGATED) && plain ss

plain_role : (b : Bool) (v : PlainValue) → not b ≡ true → Role b v → Good v
plain_role true v e h = absurd cc
plain_role false v e h = h

role_plain : (b : Bool) (v : PlainValue) → not b ≡ true → Good v → Role b v
role_plain true v e h = absurd cc
role_plain false v e h = h

all_good : (ss : List Symbol) (vs : List PlainValue) → plain ss ≡ true → FitValues ss vs → Every Good vs
all_good [] vs e h = subst (Every Good) (sym h) tt
all_good (Token kind ∷ ss) vs e h = all_good ss vs e h
all_good (Name a ∷ ss) [] e h = absurd h
all_good (Name a ∷ ss) (v ∷ vs) e h =
    let p = and_parts (not (nat_eq a names.NEGATED)) (plain ss) e in (plain_role (nat_eq a names.NEGATED) v p.0 h.0, all_good ss vs p.1 h.1)

-- ---- productions

abbrev pub Shows : ℕ → Production → Type 0
Shows n r = (ts : List PlainLexeme) (vs : List PlainValue) → Every TokenSo ts → FitValues r.body vs → Begins r.body ts → Shown r.head (value_of_node n ts vs)

abbrev pub Each : ℕ → List Production → Type 0
Each n [] = Unit {0}
Each n (r ∷ rs) = Shows n r × Each (n + 1) rs

abbrev uniform : ℕ → Production → Bool
uniform n r = not (nat_eq r.head names.NEGATED) && (plain r.body && met (action_of n) r.body)

abbrev all_uniform : ℕ → List Production → Bool
all_uniform n [] = true
all_uniform n (r ∷ rs) = uniform n r && all_uniform (n + 1) rs

uniform_shows : (n : ℕ) (r : Production) → uniform n r ≡ true → Shows n r
uniform_shows n r e ts vs so fit begins =
    let p = and_parts (not (nat_eq r.head names.NEGATED)) (plain r.body && met (action_of n) r.body) e in
    let q = and_parts (plain r.body) (met (action_of n) r.body) p.1 in
    role_plain (nat_eq r.head names.NEGATED) (value_of_node n ts vs) p.0
    (acts (action_of n) ts (filled (all_of Nothing) vs) so (good_parts vs (all_good r.body vs q.0 fit)) (needs (action_of n) r.body ts q.1 begins so))

from_uniform : (n m : ℕ) (xs ys : List Production) → m ≡ n + length xs → all_uniform n xs ≡ true → Each m ys → Each n (xs ++ ys)
from_uniform n m [] ys at e h = let same : m ≡ n = omega (arith, at) in subst (λ k. Each k ys) same h
from_uniform n m (x ∷ xs) ys at e h =
    let both = and_parts (uniform n x) (all_uniform (n + 1) xs) e in
    let next : m ≡ n + 1 + length xs = omega (arith, at) in
    (uniform_shows n x both.0, from_uniform (n + 1) m xs ys next both.1 h)

-- ---- behind a minus

-- `- NEGATED`
minus : Shows 184 (produces names.UNARY (Token kinds.MINUS ∷ Name names.NEGATED ∷ []))
minus ts [] so fit begins = absurd fit
minus ts (v ∷ vs) so fit begins = subst (λ l. Good (value_of_node 184 ts (v ∷ l))) (sym fit.1) fit.0

no_values : (n : ℕ) (ts : List PlainLexeme) (vs : List PlainValue) → vs ≡ [] → Shown names.NEGATED (value_of_node n ts []) → Shown names.NEGATED (value_of_node n ts vs)
no_values n ts vs e h = subst (λ l. Shown names.NEGATED (value_of_node n ts l)) (sym e) h

one_value : (ts : List PlainLexeme) (vs : List PlainValue) → FitValues (Name names.UNARY ∷ []) vs → Shown names.NEGATED (value_of_node 189 ts vs)
one_value ts [] fit = absurd fit
one_value ts (v ∷ vs) fit = subst (λ l. Shown names.NEGATED (value_of_node 189 ts (v ∷ l))) (sym fit.1) (of_expressions.behind_minus (expression_of v) (of_expressions.expression_part v fit.0))

from_not : Each 190 (drop 190 java_productions)
from_not = from_uniform 190 225 (drop 190 java_productions) [] refl refl tt

from_negated : Each 188 (drop 188 java_productions)
from_negated = (λ ts vs so fit begins. no_values 188 ts vs fit (number_few ts so), (λ ts vs so fit begins. one_value ts vs fit, from_not))

from_increment : Each 185 (drop 185 java_productions)
from_increment = from_uniform 185 188 (take 3 (drop 185 java_productions)) (drop 188 java_productions) refl refl from_negated

from_minus : Each 184 (drop 184 java_productions)
from_minus = (λ ts vs so fit begins. minus ts vs so fit begins, from_increment)

pub each : Each 0 java_productions
each = from_uniform 0 184 (take 184 java_productions) (drop 184 java_productions) refl refl from_minus
