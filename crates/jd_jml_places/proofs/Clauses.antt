-- Clauses and locations, without places.
use Rattle.std.proofs.Common.{◌≡◌, ℕ, List, [], ◌∷◌, ◌++◌, map, Some, None, option_map, refl, ap, ◌∙◌}
use Rattle.std.proofs.lemmas.List.{map-append}
use Rattle.jd_grammar.specs.declared.piles.NodeParts.{NodeParts}
use Rattle.jd_jml_tokens.specs.Lexemes.{PlainLexeme, place_of}
use Rattle.jd_syntax.specs.JavaTypes.{PlainIdentifier}
use Rattle.jd_syntax.specs.SpecTrees as jml
use Rattle.jd_syntax.specs.SpecTrees.{PlainSpec, PlainLocation}
use Rattle.jd_jml_values.specs.Values as values
use Rattle.jd_jml_values.specs.Values.{PlainSuffix, PlainEnd, PlainValue}
use Rattle.jd_jml_values.specs.Parts.{expression_of, name_of, some_name, steps_of, end_of, locations_of, clauses_of, names_of}
use Rattle.jd_jml_expressions.specs.Applying.{all_applied, named}
use Rattle.jd_jml_expressions.specs.Meaning.{begun_at}
use Rattle.jd_jml_clauses.specs.declared.action.Action.{Action}
use Rattle.jd_jml_clauses.specs.declared.action.Action.TheVariants as actions
use Rattle.jd_jml_clauses.specs.declared.action.Assertion.{Assertion}
use Rattle.jd_jml_clauses.specs.declared.action.Assertion.TheVariants as assertions
use Rattle.jd_jml_clauses.specs.declared.action.Word.{Word}
use Rattle.jd_jml_clauses.specs.declared.action.Word.TheVariants as words
use Rattle.jd_jml_clauses.specs.Locating.{location, located, named_location, member_step, index_step}
use Rattle.jd_jml_clauses.specs.Meaning.{all_clauses, asserted, word, truth_of, meaning}
use Rattle.jd_jml_places.specs.Unplaced.{unplaced_name, unplaced_spec, unplaced_location, unplaced_clause}
use Rattle.jd_jml_places.proofs.Values.{two, three, four, unplaced_suffixes, unplaced_end, unplaced_value, unplaced_parts, unplaced, place_apart}
use Rattle.jd_jml_places.proofs.Expressions.{expression_apart, expressions_apart, name_apart, all_applied_apart, named_apart, begun_at_apart}

-- ---- what a value is as a part

some_name_apart : (v : PlainValue) → option_map unplaced_name (some_name v) ≡ some_name (unplaced_value v)
some_name_apart (values.Named x) = refl
some_name_apart _ = refl

steps_apart : (v : PlainValue) → unplaced_suffixes (steps_of v) ≡ steps_of (unplaced_value v)
steps_apart (values.Steps ss end) = refl
steps_apart _ = refl

end_apart : (v : PlainValue) → unplaced_end (end_of v) ≡ end_of (unplaced_value v)
end_apart (values.Steps ss end) = refl
end_apart _ = refl

locations_apart : (v : PlainValue) → map unplaced_location (locations_of v) ≡ locations_of (unplaced_value v)
locations_apart (values.Locations ls) = refl
locations_apart _ = refl

pub clauses_apart : (v : PlainValue) → map unplaced_clause (clauses_of v) ≡ clauses_of (unplaced_value v)
clauses_apart (values.Clauses cs) = refl
clauses_apart _ = refl

names_apart : (v : PlainValue) → map unplaced_name (names_of v) ≡ names_of (unplaced_value v)
names_apart (values.Names xs) = refl
names_apart _ = refl

all_clauses_apart : (parts : NodeParts PlainValue) → map unplaced_clause (all_clauses parts) ≡ all_clauses (unplaced_parts parts)
all_clauses_apart parts =
    map-append unplaced_clause (clauses_of parts.first) (clauses_of parts.second ++ clauses_of parts.third)
    ∙ two (λ cs ds. cs ++ ds) (clauses_apart parts.first)
    (map-append unplaced_clause (clauses_of parts.second) (clauses_of parts.third) ∙ two (λ cs ds. cs ++ ds) (clauses_apart parts.second) (clauses_apart parts.third))

-- ---- clauses

asserted_apart : (at : ℕ) (a : Assertion) (e : PlainSpec) → unplaced_clause (asserted at a e) ≡ asserted 0 a (unplaced_spec e)
asserted_apart at assertions.Requires e = refl
asserted_apart at _ e = refl

word_apart : (at : ℕ) (w : Word) → unplaced_clause (word at w) ≡ word 0 w
word_apart at words.Also = refl
word_apart at _ = refl

truth_apart : (e : PlainSpec) → truth_of e ≡ truth_of (unplaced_spec e)
truth_apart (jml.Boolean at b) = refl
truth_apart _ = refl

-- ---- locations

located_apart : (at : ℕ) (e : PlainSpec) (ss : List PlainSuffix) (end : PlainEnd) → unplaced_location (located at e ss end) ≡ located 0 (unplaced_spec e) (unplaced_suffixes ss) (unplaced_end end)
located_apart at e ss end = ends end ∙ ap (λ d. location 0 d (unplaced_end end)) (all_applied_apart e ss)
  where
    ends : (last : PlainEnd) → unplaced_location (location at (all_applied e ss) last) ≡ location 0 (unplaced_spec (all_applied e ss)) (unplaced_end last)
    ends (values.FieldEnd x) = refl
    ends _ = refl

located_to : (at : ℕ) (e d : PlainSpec) (ss us : List PlainSuffix) (end last : PlainEnd) → unplaced_spec e ≡ d → unplaced_suffixes ss ≡ us → unplaced_end end ≡ last
    → unplaced_location (located at e ss end) ≡ located 0 d us last
located_to at e d ss us end last x y z = located_apart at e ss end ∙ three (located 0) x y z

named_location_apart : (x : PlainIdentifier) (v : PlainValue) → unplaced_location (named_location x v) ≡ named_location (unplaced_name x) (unplaced_value v)
named_location_apart x (values.Steps ss end) = located_apart x.at (named x None) ss end
named_location_apart x (values.Invoked es ss end) =
    located_to x.at (named x (Some es)) (named (unplaced_name x) (Some (map unplaced_spec es))) ss (unplaced_suffixes ss) end (unplaced_end end) (named_apart x (Some es)) refl refl
named_location_apart x _ = refl

member_step_apart : (x : PlainIdentifier) (v : PlainValue) → unplaced_value (member_step x v) ≡ member_step (unplaced_name x) (unplaced_value v)
member_step_apart x (values.Steps ss end) = refl
member_step_apart x (values.Invoked es ss end) = refl
member_step_apart x _ = refl

index_step_apart : (i : PlainSpec) (v : PlainValue) → unplaced_value (index_step i v) ≡ index_step (unplaced_spec i) (unplaced_value v)
index_step_apart i (values.Steps ss end) = refl
index_step_apart i (values.Bound j) = refl
index_step_apart i _ = refl

-- ---- actions

pub clause_meaning_apart : (a : Action) (ts : List PlainLexeme) (parts : NodeParts PlainValue) → unplaced_value (meaning a ts parts) ≡ meaning a (unplaced ts) (unplaced_parts parts)
clause_meaning_apart actions.AllClauses ts parts = ap values.Clauses (all_clauses_apart parts)
clause_meaning_apart (actions.Word w) ts parts =
    two (λ c cs. values.Clauses (c ∷ cs)) (word_apart (place_of 0 ts) w ∙ ap (λ at. word at w) (place_apart 0 ts)) (all_clauses_apart parts)
clause_meaning_apart (actions.Asserts a) ts parts =
    ap (λ c. values.Clauses (c ∷ [])) (asserted_apart (place_of 0 ts) a (expression_of parts.first) ∙ two (λ at e. asserted at a e) (place_apart 0 ts) (expression_apart parts.first))
clause_meaning_apart actions.Signals ts parts =
    four (λ at c x e. values.Clauses (jml.Signals at c x e ∷ [])) (place_apart 0 ts) (name_apart parts.first) (some_name_apart parts.second) (expression_apart parts.third)
clause_meaning_apart actions.SignalsOnly ts parts = two (λ at xs. values.Clauses (jml.SignalsOnly at xs ∷ [])) (place_apart 0 ts) (names_apart parts.first)
clause_meaning_apart actions.Assignable ts parts = two (λ at ls. values.Clauses (jml.Assignable at ls ∷ [])) (place_apart 0 ts) (locations_apart parts.first)
clause_meaning_apart actions.Diverges ts parts =
    two (λ at b. values.Clauses (jml.Diverges at b ∷ [])) (place_apart 0 ts) (truth_apart (expression_of parts.first) ∙ ap truth_of (expression_apart parts.first))
clause_meaning_apart actions.NoNames ts parts = refl
clause_meaning_apart actions.Names ts parts = two (λ x xs. values.Names (x ∷ xs)) (name_apart parts.first) (names_apart parts.second)
clause_meaning_apart actions.NothingAssigned ts parts = ap (λ at. values.Locations (jml.Nothing at ∷ [])) (place_apart 0 ts)
clause_meaning_apart actions.EverythingAssigned ts parts = ap (λ at. values.Locations (jml.Everything at ∷ [])) (place_apart 0 ts)
clause_meaning_apart actions.Locations ts parts =
    ap values.Locations (map-append unplaced_location (locations_of parts.first) (locations_of parts.second) ∙ two (λ ls ms. ls ++ ms) (locations_apart parts.first) (locations_apart parts.second))
clause_meaning_apart actions.NamedLocation ts parts =
    ap (λ l. values.Locations (l ∷ [])) (named_location_apart (name_of parts.first) parts.second ∙ ap (λ x. named_location x (unplaced_value parts.second)) (name_apart parts.first))
clause_meaning_apart actions.OperandLocation ts parts =
    ap (λ l. values.Locations (l ∷ []))
    (located_to (place_of 0 ts) (expression_of parts.first) _ (steps_of parts.second) _ (end_of parts.second) _ (expression_apart parts.first) (steps_apart parts.second) (end_apart parts.second)
    ∙ ap (λ at. located at (expression_of (unplaced_value parts.first)) (steps_of (unplaced_value parts.second)) (end_of (unplaced_value parts.second))) (place_apart 0 ts))
clause_meaning_apart actions.BegunLocation ts parts =
    ap (λ l. values.Locations (l ∷ []))
    (located_to (place_of 0 ts) (begun_at (place_of 0 ts) parts.first) _ (steps_of parts.second) _ (end_of parts.second) _ (begun_at_apart (place_of 0 ts) parts.first) (steps_apart parts.second) (end_apart parts.second)
    ∙ ap (λ at. located at (begun_at at (unplaced_value parts.first)) (steps_of (unplaced_value parts.second)) (end_of (unplaced_value parts.second))) (place_apart 0 ts))
clause_meaning_apart actions.Invoked ts parts = three values.Invoked (expressions_apart parts.first) (steps_apart parts.second) (end_apart parts.second)
clause_meaning_apart actions.AllFields ts parts = refl
clause_meaning_apart actions.AllElements ts parts = refl
clause_meaning_apart actions.MemberStep ts parts = member_step_apart (name_of parts.first) parts.second ∙ ap (λ x. member_step x (unplaced_value parts.second)) (name_apart parts.first)
clause_meaning_apart actions.IndexStep ts parts = index_step_apart (expression_of parts.first) parts.second ∙ ap (λ e. index_step e (unplaced_value parts.second)) (expression_apart parts.first)
clause_meaning_apart actions.Bound ts parts = ap values.Bound (expression_apart parts.first)
