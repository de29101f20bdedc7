-- What the nodes of each production have: good values, and words where they are names.
use Rattle.std.proofs.Common.{◌≡◌, ℕ, zero, suc, ◌+◌, List, [], ◌∷◌, Bool, true, false, true≢false, ◌&&◌, nat_eq, refl, sym, subst, ◌∙◌, arith}
use Rattle.std.specs.List.{AllByRecursion as Every}
use Rattle.std.proofs.lemmas.Bool.{and_parts}
use Rattle.std.proofs.lemmas.Bool.Decides.{nat_tests}
use Rattle.jd_grammar.specs.Grammars.{Production}
use Rattle.jd_grammar.specs.Nodes.{all_of, filled}
use Rattle.jd_grammar.specs.declared.piles.NodeParts.{NodeParts}
use Rattle.jd_grammar.specs.declared.table.Symbol.{Symbol}
use Rattle.jd_grammar.specs.declared.table.Symbol.TheVariants.{Token, Name}
use Rattle.jd_java_grammar.specs.Productions.{java_productions}
use Rattle.jd_java_grammar.specs.declared.kinds.TheConstants as kinds
use Rattle.jd_java_grammar.specs.declared.names.TheConstants as names
use Rattle.jd_java_tokens.specs.Contents.{PlainLexeme}
use Rattle.jd_java_values.specs.Heads.{identifier_at}
use Rattle.jd_java_values.specs.Values.{PlainValue, Named, Nothing}
use Rattle.jd_java_expressions.specs.declared.action.Action.TheVariants as expressions
use Rattle.jd_java_members.specs.declared.action.Action.{Action as MemberAction}
use Rattle.jd_java_members.specs.declared.action.Action.TheVariants as members
use Rattle.jd_java_statements.specs.declared.action.Action.{Action as StatementAction}
use Rattle.jd_java_statements.specs.declared.action.Action.TheVariants as statements
use Rattle.jd_java_trees.specs.Meaning.{action_of, meaning_by, value_of_node}
use Rattle.jd_java_trees.specs.declared.actions.Action.{Action}
use Rattle.jd_java_trees.specs.declared.actions.Action.TheVariants as actions
use Rattle.jd_variable_words.proofs.Expressions as of_expressions
use Rattle.jd_variable_words.proofs.Statements as of_statements
use Rattle.jd_variable_words.proofs.Statements.{Called}
use Rattle.jd_variable_words.proofs.Members as of_members
use Rattle.jd_variable_words.proofs.Good.{Good, good_parts, GoodParts}
use Rattle.jd_variable_words.proofs.Tokens.{TokenSo}

-- ---- actions

abbrev Needs : Action → NodeParts PlainValue → Type 0
Needs (actions.Expression a) parts = Unit {0}
Needs (actions.Statement a) parts = of_statements.Needs a parts
Needs (actions.Member a) parts = of_members.Needs a parts

acts : (a : Action) (ts : List PlainLexeme) (parts : NodeParts PlainValue) → GoodParts parts → Needs a parts → Good (meaning_by a ts parts)
acts (actions.Expression a) ts parts g n = of_expressions.acts a ts parts g
acts (actions.Statement a) ts parts g n = of_statements.acts a ts parts g n
acts (actions.Member a) ts parts g n = of_members.acts a ts parts g n

-- ---- the first token of a production

abbrev pub Begins : List Symbol → List PlainLexeme → Type 0
Begins [] ts = Unit {0}
Begins (Token k ∷ ss) [] = ⊥
Begins (Token k ∷ ss) (t ∷ ts) = t.kind ≡ k
Begins (Name a ∷ ss) ts = Unit {0}

-- ---- what a node of a name has

abbrev CalledIf : Bool → PlainValue → Type 0
CalledIf true v = Called v
CalledIf false v = Unit {0}

abbrev pub Shown : ℕ → PlainValue → Type 0
Shown a v = Good v × CalledIf (nat_eq a names.IDENTIFIER) v

abbrev pub FitValues : List Symbol → List PlainValue → Type 0
FitValues [] vs = vs ≡ []
FitValues (Token kind ∷ ss) vs = FitValues ss vs
FitValues (Name a ∷ ss) [] = ⊥
FitValues (Name a ∷ ss) (v ∷ vs) = Shown a v × FitValues ss vs

all_good : (ss : List Symbol) (vs : List PlainValue) → FitValues ss vs → Every Good vs
all_good [] vs h = subst (Every Good) (sym h) tt
all_good (Token kind ∷ ss) vs h = all_good ss vs h
all_good (Name a ∷ ss) [] h = absurd h
all_good (Name a ∷ ss) (v ∷ vs) h = (h.0.0, all_good ss vs h.1)

-- ---- which part is a name

-- the name of that number in the production is that of identifiers
abbrev called_at : ℕ → List Symbol → Bool
called_at n [] = false
called_at n (Token kind ∷ ss) = called_at n ss
called_at zero (Name a ∷ ss) = nat_eq a names.IDENTIFIER
called_at (suc n) (Name a ∷ ss) = called_at n ss

abbrev CalledAt : ℕ → List PlainValue → Type 0
CalledAt n [] = ⊥
CalledAt zero (v ∷ vs) = Called v
CalledAt (suc n) (v ∷ vs) = CalledAt n vs

called_if : (b : Bool) (v : PlainValue) → b ≡ true → CalledIf b v → Called v
called_if true v e h = h
called_if false v e h = absurd (true≢false (sym e))

is_called : (n : ℕ) (ss : List Symbol) (vs : List PlainValue) → called_at n ss ≡ true → FitValues ss vs → CalledAt n vs
is_called n [] vs e h = absurd (true≢false (sym e))
is_called n (Token kind ∷ ss) vs e h = is_called n ss vs e h
is_called n (Name a ∷ ss) [] e h = absurd h
is_called zero (Name a ∷ ss) (v ∷ vs) e h = called_if (nat_eq a names.IDENTIFIER) v e h.0.1
is_called (suc n) (Name a ∷ ss) (v ∷ vs) e h = is_called n ss vs e h.1

first_called : (vs : List PlainValue) → CalledAt 0 vs → Called (filled (all_of Nothing) vs).first
first_called [] h = absurd h
first_called (a ∷ []) h = h
first_called (a ∷ b ∷ []) h = h
first_called (a ∷ b ∷ c ∷ []) h = h
first_called (a ∷ b ∷ c ∷ d ∷ more) h = h

second_called : (vs : List PlainValue) → CalledAt 1 vs → Called (filled (all_of Nothing) vs).second
second_called [] h = absurd h
second_called (a ∷ []) h = absurd h
second_called (a ∷ b ∷ []) h = h
second_called (a ∷ b ∷ c ∷ []) h = h
second_called (a ∷ b ∷ c ∷ d ∷ more) h = h

third_called : (vs : List PlainValue) → CalledAt 2 vs → Called (filled (all_of Nothing) vs).third
third_called [] h = absurd h
third_called (a ∷ []) h = absurd h
third_called (a ∷ b ∷ []) h = absurd h
third_called (a ∷ b ∷ c ∷ []) h = h
third_called (a ∷ b ∷ c ∷ d ∷ more) h = h

fourth_called : (vs : List PlainValue) → CalledAt 3 vs → Called (filled (all_of Nothing) vs).fourth
fourth_called [] h = absurd h
fourth_called (a ∷ []) h = absurd h
fourth_called (a ∷ b ∷ []) h = absurd h
fourth_called (a ∷ b ∷ c ∷ []) h = absurd h
fourth_called (a ∷ b ∷ c ∷ d ∷ more) h = h

abbrev met_by_statement : StatementAction → List Symbol → Bool
met_by_statement statements.FinalLocal ss = called_at 1 ss
met_by_statement statements.IntLocal ss = called_at 1 ss
met_by_statement statements.BooleanLocal ss = called_at 0 ss
met_by_statement statements.Variables ss = called_at 0 ss
met_by_statement statements.IntStart ss = called_at 1 ss
met_by_statement statements.BooleanStart ss = called_at 0 ss
met_by_statement statements.Catch ss = called_at 2 ss
met_by_statement a ss = true

abbrev met_by_member : MemberAction → List Symbol → Bool
met_by_member members.Parameter ss = called_at 3 ss
met_by_member a ss = true

abbrev met : Action → List Symbol → Bool
met (actions.Expression a) ss = true
met (actions.Statement a) ss = met_by_statement a ss
met (actions.Member a) ss = met_by_member a ss

statement_needs : (a : StatementAction) (ss : List Symbol) (vs : List PlainValue) → met_by_statement a ss ≡ true → FitValues ss vs → of_statements.Needs a (filled (all_of Nothing) vs)
statement_needs statements.FinalLocal ss vs e h = second_called vs (is_called 1 ss vs e h)
statement_needs statements.IntLocal ss vs e h = second_called vs (is_called 1 ss vs e h)
statement_needs statements.BooleanLocal ss vs e h = first_called vs (is_called 0 ss vs e h)
statement_needs statements.Variables ss vs e h = first_called vs (is_called 0 ss vs e h)
statement_needs statements.IntStart ss vs e h = second_called vs (is_called 1 ss vs e h)
statement_needs statements.BooleanStart ss vs e h = first_called vs (is_called 0 ss vs e h)
statement_needs statements.Catch ss vs e h = third_called vs (is_called 2 ss vs e h)
statement_needs a ss vs e h = tt

member_needs : (a : MemberAction) (ss : List Symbol) (vs : List PlainValue) → met_by_member a ss ≡ true → FitValues ss vs → of_members.Needs a (filled (all_of Nothing) vs)
member_needs members.Parameter ss vs e h = fourth_called vs (is_called 3 ss vs e h)
member_needs a ss vs e h = tt

needs : (a : Action) (ss : List Symbol) (vs : List PlainValue) → met a ss ≡ true → FitValues ss vs → Needs a (filled (all_of Nothing) vs)
needs (actions.Expression a) ss vs e h = tt
needs (actions.Statement a) ss vs e h = statement_needs a ss vs e h
needs (actions.Member a) ss vs e h = member_needs a ss vs e h

-- ---- names

abbrev names_one : Action → Bool
names_one (actions.Expression expressions.Identifier) = true
names_one a = false

abbrev starts : List Symbol → Bool
starts [] = false
starts (Token j ∷ ss) = nat_eq j kinds.IDENTIFIER
starts (Name a ∷ ss) = false

same_kind : (j k : ℕ) → nat_eq j k ≡ true → j ≡ k
same_kind j k e = grind (arith, nat_tests)

identifier_called : (ss : List Symbol) (ts : List PlainLexeme) → starts ss ≡ true → Begins ss ts → Every TokenSo ts → Called (Named (identifier_at ts))
identifier_called [] ts e b so = absurd (true≢false (sym e))
identifier_called (Name a ∷ ss) ts e b so = absurd (true≢false (sym e))
identifier_called (Token j ∷ ss) [] e b so = absurd b
identifier_called (Token j ∷ ss) (t ∷ ts) e b so = so.0 (b ∙ same_kind j kinds.IDENTIFIER e)

node_called : (a : Action) (ss : List Symbol) (ts : List PlainLexeme) (parts : NodeParts PlainValue) → names_one a && starts ss ≡ true → Begins ss ts → Every TokenSo ts → Called (meaning_by a ts parts)
node_called (actions.Expression expressions.Identifier) ss ts parts e b so = identifier_called ss ts e b so
node_called a ss ts parts e b so = absurd (true≢false (sym (and_parts (names_one a) (starts ss) e).0))

-- ---- productions

abbrev pub Shows : ℕ → Production → Type 0
Shows n r = (ts : List PlainLexeme) (vs : List PlainValue) → Every TokenSo ts → FitValues r.body vs → Begins r.body ts → Shown r.head (value_of_node n ts vs)

abbrev pub Each : ℕ → List Production → Type 0
Each n [] = Unit {0}
Each n (r ∷ rs) = Shows n r × Each (n + 1) rs

abbrev is_name_if : Bool → Action → List Symbol → Bool
is_name_if true a ss = names_one a && starts ss
is_name_if false a ss = true

abbrev uniform : ℕ → Production → Bool
uniform n r = met (action_of n) r.body && is_name_if (nat_eq r.head names.IDENTIFIER) (action_of n) r.body

abbrev all_uniform : ℕ → List Production → Bool
all_uniform n [] = true
all_uniform n (r ∷ rs) = uniform n r && all_uniform (n + 1) rs

head_called : (b : Bool) (a : Action) (ss : List Symbol) (ts : List PlainLexeme) (parts : NodeParts PlainValue) → is_name_if b a ss ≡ true → Begins ss ts → Every TokenSo ts → CalledIf b (meaning_by a ts parts)
head_called true a ss ts parts e b so = node_called a ss ts parts e b so
head_called false a ss ts parts e b so = tt

uniform_shows : (n : ℕ) (r : Production) → uniform n r ≡ true → Shows n r
uniform_shows n r e ts vs so fit begins =
    let p = and_parts (met (action_of n) r.body) (is_name_if (nat_eq r.head names.IDENTIFIER) (action_of n) r.body) e in (
      acts (action_of n) ts (filled (all_of Nothing) vs) (good_parts vs (all_good r.body vs fit)) (needs (action_of n) r.body vs p.0 fit),
      head_called (nat_eq r.head names.IDENTIFIER) (action_of n) r.body ts (filled (all_of Nothing) vs) p.1 begins so,
    )

each_uniform : (n : ℕ) (rs : List Production) → all_uniform n rs ≡ true → Each n rs
each_uniform n [] e = tt
each_uniform n (r ∷ rs) e = let both = and_parts (uniform n r) (all_uniform (n + 1) rs) e in (uniform_shows n r both.0, each_uniform (n + 1) rs both.1)

pub each : Each 0 java_productions
each = each_uniform 0 java_productions refl
