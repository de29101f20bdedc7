-- A file's tree is at most twice as large as the tokens that spell it.
use Rattle.std.proofs.Common.{◌≡◌, ℕ, zero, suc, ◌+◌, ◌*◌, ◌≤◌, ◌<◌, List, [], ◌∷◌, ◌++◌, length, drop, nat_le, Bool, true, ◌&&◌, Some, refl, ap, ◌∙◌, arith}
use Rattle.std.specs.List.{slice_get}
use Rattle.std.proofs.lemmas.Bool.{and_parts, leb-true}
use Rattle.std.proofs.lemmas.List.{length-append}
use Rattle.std.proofs.lemmas.Option.{slice_get_within}
use Rattle.jd_grammar.specs.Folds.{values}
use Rattle.jd_grammar.specs.Grammars.{Forest, Done, Leaf, Node, IsForest, Production, yield}
use Rattle.jd_grammar.specs.Nodes.{all_of, filled}
use Rattle.jd_grammar.specs.declared.table.Symbol.{Symbol}
use Rattle.jd_grammar.specs.declared.table.Symbol.TheVariants.{Token, Name}
use Rattle.jd_java_tokens.specs.Contents.{PlainLexeme}
use Rattle.jd_java_grammar.specs.Productions.{java_productions}
use Rattle.jd_java_attributes.specs.Laws.{RowsFit, token_count}
use Rattle.jd_java_attributes.specs.Rules.{row_of}
use Rattle.jd_java_values.specs.Values.{PlainValue, Nothing}
use Rattle.jd_java_values.specs.Parts.{classes_of}
use Rattle.jd_java_trees.specs.Meaning.{action_of, value_of_node, first_value, unit_of}
use Rattle.jd_jsizes.specs.Sizes.{unit_size}
use Rattle.jd_jsizes.proofs.Values.{size, sizes, worth, filled_size, few_classes, node_size}

-- ---- no action is worth more than its production has tokens

-- it holds of k and of the numbers behind it, n in all
abbrev all_from : ℕ → ℕ → (ℕ → Bool) → Bool
all_from k zero holds = true
all_from k (suc n) holds = holds k && all_from (1 + k) n holds

at_each : (k n i : ℕ) (holds : ℕ → Bool) → all_from k n holds ≡ true → i < n → holds (k + i) ≡ true
at_each k zero i holds all lt = absurd (omega (arith, lt))
at_each k (suc n) zero holds all lt = ap holds (let same : k + 0 ≡ k = omega arith in same) ∙ (and_parts (holds k) (all_from (1 + k) n holds) all).0
at_each k (suc n) (suc i) holds all lt =
    ap holds (let same : k + suc i ≡ 1 + k + i = omega arith in same)
    ∙ at_each (1 + k) n i holds (and_parts (holds k) (all_from (1 + k) n holds) all).1 (omega (arith, lt))

abbrev is_worth : ℕ → Bool
is_worth p = nat_le (worth (action_of p)) (row_of p).0

all_are_worth : all_from 0 225 is_worth ≡ true
all_are_worth = refl

worth_fits : (p : ℕ) (r : Production) → slice_get java_productions p ≡ Some r → worth (action_of p) ≤ (row_of p).0
worth_fits p r there =
    leb-true (worth (action_of p)) (row_of p).0 (ap is_worth (let same : p ≡ 0 + p = omega arith in same) ∙ at_each 0 225 p is_worth all_are_worth (slice_get_within java_productions p r there))

-- ---- trees side by side

-- the leaves among them
abbrev leaves : Forest → ℕ
leaves Done = 0
leaves (Leaf k f) = 1 + leaves f
leaves (Node p c f) = leaves f

leaves_are : (g : List Production) (f : Forest) (ss : List Symbol) (after : List ℕ) → IsForest g f ss after → leaves f ≡ token_count ss
leaves_are g Done [] after h = refl
leaves_are g Done (x ∷ ss) after h = absurd h
leaves_are g (Leaf k f) [] after h = absurd h
leaves_are g (Leaf k f) (Token j ∷ ss) after h = ap (λ n. 1 + n) (leaves_are g f ss after h.1)
leaves_are g (Leaf k f) (Name a ∷ ss) after h = absurd h
leaves_are g (Node p c f) [] after h = absurd h
leaves_are g (Node p c f) (Token j ∷ ss) after h = absurd h
leaves_are g (Node p c f) (Name a ∷ ss) after h = leaves_are g f ss after h.5

made : RowsFit → (p : ℕ) (r : Production) (ts : List PlainLexeme) (vs : List PlainValue) → slice_get java_productions p ≡ Some r → size (value_of_node p ts vs) ≤ 2 * token_count r.body + sizes vs
made fit p r ts vs there =
    omega (arith, node_size (action_of p) ts (filled (all_of Nothing) vs), filled_size vs, worth_fits p r there, fit.tokens p r there)

forest_size : RowsFit → (f : Forest) (ss : List Symbol) (after : List ℕ) (ts : List PlainLexeme) → IsForest java_productions f ss after → sizes (values value_of_node f ts) + 2 * leaves f ≤ 2 * length (yield f)
forest_size fit Done [] after ts h = omega arith
forest_size fit Done (x ∷ ss) after ts h = absurd h
forest_size fit (Leaf k f) [] after ts h = absurd h
forest_size fit (Leaf k f) (Token j ∷ ss) after ts h = omega (arith, forest_size fit f ss after (drop 1 ts) h.1)
forest_size fit (Leaf k f) (Name a ∷ ss) after ts h = absurd h
forest_size fit (Node p c f) [] after ts h = absurd h
forest_size fit (Node p c f) (Token j ∷ ss) after ts h = absurd h
forest_size fit (Node p c f) (Name a ∷ ss) after ts h =
    omega (
      arith,
      made fit p h.0 ts (values value_of_node c ts) h.1,
      leaves_are java_productions c h.0.body (yield f ++ after) h.4,
      forest_size fit c h.0.body (yield f ++ after) ts h.4,
      forest_size fit f ss after (drop (length (yield c)) ts) h.5,
      length-append (yield c) (yield f),
    )

first_size : (vs : List PlainValue) → size (first_value vs) ≤ sizes vs
first_size [] = omega arith
first_size (v ∷ vs) = omega arith

pub unit : RowsFit → (f : Forest) (ss : List Symbol) (after : List ℕ) (ts : List PlainLexeme) → IsForest java_productions f ss after → unit_size (unit_of f ts) ≤ 2 * length (yield f)
unit fit f ss after ts h =
    omega (arith, forest_size fit f ss after ts h, first_size (values value_of_node f ts), few_classes (first_value (values value_of_node f ts)))
