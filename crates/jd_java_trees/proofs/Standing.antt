-- What the code's nodes stand for.
use Rattle.std.proofs.Common.{◌≡◌, ℕ, List, [], ◌∷◌, ◌++◌, map, take, drop, refl, sym, ap, ap₂, subst, ◌∙◌}
use Rattle.std.specs.Prelude.{Result}
use Rattle.jd_base.specs.declared.memory.NoMemory.{NoMemory}
use Rattle.jd_grammar.specs.Counted.{IsKept, IsQuiet}
use Rattle.jd_grammar.specs.Grammars.{Forest}
use Rattle.jd_grammar.specs.Nodes.{StandFor, all_of, filled}
use Rattle.jd_grammar.specs.declared.piles.NodeParts.{NodeParts}
use Rattle.jd_grammar.proofs.Walks.{made_values}
use Rattle.jd_java_attributes.specs.Judging.{names_of}
use Rattle.jd_java_tokens.specs.Contents.{PlainLexeme}
use Rattle.jd_java_tokens.specs.Lexemes.{lexeme_view}
use Rattle.jd_java_tokens.specs.declared.lexeme.Lexeme.{Lexeme}
use Rattle.jd_java_expressions.specs.declared.action.Action.TheVariants as actions
use Rattle.jd_java_values.specs.Parts.{expression_of}
use Rattle.jd_java_values.specs.Values.{Expression, Nothing, Suffixes}
use Rattle.jd_java_values.specs.Views.{Gives, parts_view, value_view}
use Rattle.jd_java_values.specs.declared.values.Value.{Value}
use Rattle.jd_java_values.specs.declared.values.Value.TheVariants.{NoSuffixes}
use Rattle.jd_java_trees.specs.Meaning.{action_of, first_value, meaning_by, unit_by, unit_of, value_of_node}
use Rattle.jd_java_trees.specs.Short.{IsBlank, IsValueAt}
use Rattle.jd_java_trees.specs.declared.actions.Action.{Action}
use Rattle.jd_java_trees.specs.declared.actions.Action.TheVariants as code

filled_views : (none : NodeParts Value) (parts : List Value) → parts_view (filled none parts) ≡ filled (parts_view none) (map value_view parts)
filled_views none [] = refl
filled_views none (a ∷ []) = refl
filled_views none (a ∷ b ∷ []) = refl
filled_views none (a ∷ b ∷ c ∷ []) = refl
filled_views none (a ∷ b ∷ c ∷ d ∷ more) = refl

pub made_of : (p : ℕ) (ts : List PlainLexeme) (stack : List Value) (n : ℕ) (action : Action) (none four : NodeParts Value) (r : Result Value NoMemory) → action ≡ action_of p → parts_view none ≡ all_of Nothing → n ≡ names_of p → four ≡ filled none (take n stack) → Gives value_view r (meaning_by action ts (parts_view four)) → Gives value_view r (value_of_node p ts (map value_view (take (names_of p) stack)))
made_of p ts stack n action none four r of bare count is gives =
    let parts = take (names_of p) stack in
    let whole : four ≡ filled none parts = is ∙ ap (λ m. filled none (take m stack)) count in
    subst (Gives value_view r) (ap₂ (λ a vs. meaning_by a ts vs) of (ap parts_view whole ∙ (filled_views none parts ∙ ap (λ m. filled m (map value_view parts)) bare))) gives

pub stands : (f : Forest) (ts : List Lexeme) (v : Value) → StandFor (λ p us ws x. value_view x ≡ value_of_node p (map lexeme_view us) (map value_view ws)) f ts (v ∷ []) → unit_by (value_view v) ≡ unit_of f (map lexeme_view ts)
stands f ts v s = ap (λ vs. unit_by (first_value vs)) (made_values _ value_view lexeme_view value_of_node f ts (v ∷ []) (λ p us ws x h. h) s)

-- ---- nothing behind an operand

pub blank : (p : ℕ) (action : Action) (n : ℕ) → n ≡ names_of p → n ≡ 0 → action ≡ action_of p → ((ts : List PlainLexeme) → meaning_by action ts (all_of Nothing) ≡ Suffixes []) → IsBlank p
blank p action n count none of empty = record {
  nameless = sym count ∙ none;
  empty = λ ts. ap (λ (a : Action). meaning_by a ts (all_of Nothing)) (sym of) ∙ empty ts;
}

pub quiet : (p : ℕ) → IsBlank p → IsQuiet names_of IsValueAt NoSuffixes p 0
quiet p is = record { names = is.nameless; quiet = λ ts. sym (is.empty (map lexeme_view ts)) }

-- ---- an operand alone

pub keeps : (p n : ℕ) (action : Action) (v : Value) → n ≡ names_of p → n ≡ 2 → action ≡ action_of p → action ≡ code.Expression actions.Operand → Expression (expression_of (value_view v)) ≡ value_view v → IsKept names_of IsValueAt NoSuffixes p 1 v
keeps p n action v count two of is operand = record {
  names = sym count ∙ two;
  keeps = λ ts. sym (ap (λ (a : Action). meaning_by a (map lexeme_view ts) (filled (all_of Nothing) (value_view v ∷ Suffixes [] ∷ []))) (sym of ∙ is) ∙ operand);
}

-- ---- an only part

pub only : (p n : ℕ) (action : Action) (v : Value) → n ≡ names_of p → n ≡ 1 → action ≡ action_of p → action ≡ code.Expression actions.First → IsKept names_of IsValueAt NoSuffixes p 0 v
only p n action v count one of is = record {
  names = sym count ∙ one;
  keeps = λ ts. sym (ap (λ (a : Action). meaning_by a (map lexeme_view ts) (filled (all_of Nothing) (value_view v ∷ []))) (sym of ∙ is));
}
