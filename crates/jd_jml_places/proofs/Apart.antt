-- What a derivation stands for, and what it tells, without places.
use Rattle.std.proofs.Common.{◌≡◌, ℕ, List, [], ◌∷◌, map, None, refl, sym, ap, ◌∙◌}
use Rattle.jd_grammar.specs.Grammars.{Forest}
use Rattle.jd_grammar.specs.Folds.{values}
use Rattle.jd_grammar.specs.Nodes.{all_of, filled}
use Rattle.jd_grammar.specs.declared.piles.NodeParts.{NodeParts}
use Rattle.jd_jml_tokens.specs.Lexemes.{PlainLexeme}
use Rattle.jd_jml_values.specs.Values.{PlainValue, Nothing}
use Rattle.jd_jml_values.specs.Parts.{clauses_of}
use Rattle.jd_jml_attributes.specs.Forms.{PlainForm}
use Rattle.jd_jml_attributes.specs.Judging.{first_form, form_of, form_of_node}
use Rattle.jd_jml_trees.specs.declared.actions.Action.{Action}
use Rattle.jd_jml_trees.specs.declared.actions.Action.TheVariants as actions
use Rattle.jd_jml_trees.specs.Meaning.{action_of, meaning_by, value_of_node, first_value, clauses_of_tree}
use Rattle.jd_jml_places.specs.Unplaced.{unplaced_clause, Alike}
use Rattle.jd_jml_places.proofs.Values.{unplaced_value, unplaced_parts, unplaced, parts_apart, values_apart}
use Rattle.jd_jml_places.proofs.Expressions.{expression_meaning_apart}
use Rattle.jd_jml_places.proofs.Clauses.{clauses_apart, clause_meaning_apart}
use Rattle.jd_jml_places.proofs.Forms.{unplaced_form, form_apart, none_apart}

-- ---- clauses

meaning_apart : (a : Action) (ts : List PlainLexeme) (parts : NodeParts PlainValue) → unplaced_value (meaning_by a ts parts) ≡ meaning_by a (unplaced ts) (unplaced_parts parts)
meaning_apart (actions.Expression a) ts parts = expression_meaning_apart a ts parts
meaning_apart (actions.Clause a) ts parts = clause_meaning_apart a ts parts

node_apart : (p : ℕ) (ts : List PlainLexeme) (vs : List PlainValue) → unplaced_value (value_of_node p ts vs) ≡ value_of_node p (unplaced ts) (map unplaced_value vs)
node_apart p ts vs = meaning_apart (action_of p) ts (filled (all_of Nothing) vs) ∙ ap (meaning_by (action_of p) (unplaced ts)) (parts_apart vs)

first_apart : (vs : List PlainValue) → unplaced_value (first_value vs) ≡ first_value (map unplaced_value vs)
first_apart [] = refl
first_apart (v ∷ vs) = refl

tree_apart : (f : Forest) (ts : List PlainLexeme) → map unplaced_clause (clauses_of_tree f ts) ≡ clauses_of_tree f (unplaced ts)
tree_apart f ts =
    clauses_apart (first_value (values value_of_node f ts))
    ∙ ap clauses_of (first_apart (values value_of_node f ts) ∙ ap first_value (values_apart unplaced_value value_of_node node_apart f ts))

pub clauses_alike : (f : Forest) (ts us : List PlainLexeme) → Alike ts us → map unplaced_clause (clauses_of_tree f ts) ≡ map unplaced_clause (clauses_of_tree f us)
clauses_alike f ts us e = tree_apart f ts ∙ ap (clauses_of_tree f) e ∙ sym (tree_apart f us)

-- ---- attributes

first_form_apart : (fs : List PlainForm) → unplaced_form (first_form fs) ≡ first_form (map unplaced_form fs)
first_form_apart [] = refl
first_form_apart (f ∷ fs) = refl

told_apart : (f : Forest) (ts : List PlainLexeme) → unplaced_form (form_of f ts) ≡ form_of f (unplaced ts)
told_apart f ts = first_form_apart (values form_of_node f ts) ∙ ap first_form (values_apart unplaced_form form_of_node form_apart f ts)

forms_alike : (f : Forest) (ts us : List PlainLexeme) → Alike ts us → unplaced_form (form_of f ts) ≡ unplaced_form (form_of f us)
forms_alike f ts us e = told_apart f ts ∙ ap (form_of f) e ∙ sym (told_apart f us)

pub faultless_alike : (f : Forest) (ts us : List PlainLexeme) → Alike ts us → (form_of f ts).fault ≡ None → (form_of f us).fault ≡ None
faultless_alike f ts us e = none_apart (form_of f ts).fault (form_of f us).fault (ap (λ (x : PlainForm). x.fault) (forms_alike f ts us e))

pub within_alike : (f : Forest) (ts us : List PlainLexeme) → Alike ts us → (form_of f ts).high ≡ None → (form_of f us).high ≡ None
within_alike f ts us e = none_apart (form_of f ts).high (form_of f us).high (ap (λ (x : PlainForm). x.high) (forms_alike f ts us e))
