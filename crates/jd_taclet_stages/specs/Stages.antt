-- A step by a row, worked out: one stage after the other, of which each decides one cause or two and goes on with what the row's variables
-- stand for by then. That this is what the relation between a step and its premises says is a law.
use Rattle.std.specs.Prelude.{Bool, List, None, Option, Some, cond, false, is_some, length, nat_eq, not, true, ◌&&◌, ◌∷◌, ℕ, []}
use Rattle.std.specs.List.{list_any}
use Rattle.std.specs.Option.{option_and_then}
use Rattle.jd_declared.specs.Named.{first_named}
use Rattle.jd_model.specs.ContractForms.{PlainBody}
use Rattle.jd_model.specs.Occurrences.{member}
use Rattle.jd_model.specs.Places.{FormulaPart, TermPart, at_place, numbered, on_side}
use Rattle.jd_model.specs.Places as places
use Rattle.jd_model.specs.Programs.{Program}
use Rattle.jd_model.specs.Sequents.{PlainPlace, PlainSequent}
use Rattle.jd_model.specs.declared.sequent.Side.{Side}
use Rattle.jd_model.specs.declared.sequent.Side.TheVariants.{Left, Right}
use Rattle.jd_patterns.specs.Bindings.{Bindings, Part, TheFormula, TheLiteral, TheName, TheTerm, Tests, bind, next, on}
use Rattle.jd_patterns.specs.Chosen.{chosen}
use Rattle.jd_patterns.specs.Instances.{Instance}
use Rattle.jd_patterns.specs.Matching.{match_formula, match_term}
use Rattle.jd_patterns.specs.Patterns.{FormulaPattern}
use Rattle.jd_sequent.specs.Freshness.{constant_stands_in, special_variables, variable_stands_in}
use Rattle.jd_sequent.specs.Obligations.{PlainTask, names_of}
use Rattle.jd_sequent.specs.Trees.{PlainStep}
use Rattle.jd_sequent.specs.declared.bad.Bad.{Bad}
use Rattle.jd_sequent.specs.declared.bad.Bad.TheVariants.{BadInst, MissingInst, NoAssume, NoFormula, NoMatch, NoPlace, NotFresh, SideCondition, WrongPlaceKind}
use Rattle.jd_syntax.specs.CodeNames.{named_in_code, same_name, same_sort}
use Rattle.jd_syntax.specs.Names.{Name}
use Rattle.jd_syntax.specs.Sxs.{Atom, Bracketed, Brackets}
use Rattle.jd_taclet_scripts.specs.Places.{is_calm_place}
use Rattle.jd_taclet_stages.specs.Conditions.{conditions_told}
use Rattle.jd_taclets.specs.Taclets.{AFormula, ANumber, ATerm, AtFormula, AtTerm, FormulaFind, InstForm, InstVar, NewConstant, NewVariable, OnLeft, OnRight, Pattern, Taclet, TacletKind, TermFind, asked_sort}
use Rattle.jd_term.specs.Formulas.{PlainFormula}
use Rattle.jd_tforms.specs.Answers.{Answer, Is, Refused as NotRead, formula_answer, term_answer}
use Rattle.jd_tforms.specs.Naming.{constant_of, special_of}
use Rattle.jd_tforms.specs.Shapes.{integer_of, wide}
use Rattle.jd_tgrammar.specs.NameTables.{NameTable}
use Rattle.jd_told_programs.specs.Told.{told_setting}

-- ---- outcomes

-- the step is refused for this cause, or the variables stand for this by now
pub data Outcome : Type 0 where
  Refuses : Bad → Outcome
  Goes : Bindings → Outcome

-- go on with the bindings, where there are some
abbrev pub going : Bad → Option Bindings → Outcome
going b None = Refuses b
going b (Some τ) = Goes τ

abbrev pub provided : Bad → Bool → Outcome → Outcome
provided b c o = cond c o (Refuses b)

abbrev pub and_then : Outcome → (Bindings → Outcome) → Outcome
and_then (Refuses b) k = Refuses b
and_then (Goes τ) k = k τ

-- ---- the place, and what is found there: causes 2 to 5

abbrev pub is_side : Side → Side → Bool
is_side Left Left = true
is_side Right Right = true
is_side a b = false

abbrev pub is_empty : {A : Type 0} → List A → Bool
is_empty [] = true
is_empty (x ∷ xs) = false

-- whether rows of the kind act on such a part there
abbrev pub acts_on : TacletKind → PlainPlace → places.Part → Bool
acts_on OnLeft q (FormulaPart a) = is_side q.side Left && is_empty q.path
acts_on OnRight q (FormulaPart a) = is_side q.side Right && is_empty q.path
acts_on AtFormula q (FormulaPart a) = true
acts_on AtTerm q (TermPart t) = true
acts_on k q x = false

abbrev pub may_stand : List (Side × FormulaPattern) → PlainSequent → PlainPlace → Bool
may_stand [] s q = true
may_stand (a ∷ l) s q = is_calm_place s q

module _ (w : Tests) where
  abbrev pub matched : Option Pattern → places.Part → Option Bindings
  matched (Some (FormulaFind a)) (FormulaPart x) = match_formula w a x []
  matched (Some (TermFind p)) (TermPart x) = match_term w p x []
  matched f x = None

  abbrev pub found_at : Taclet → PlainSequent → PlainPlace → Option places.Part → Outcome
  found_at r s q None = Refuses NoPlace
  found_at r s q (Some x) = provided WrongPlaceKind (acts_on r.kind q x && may_stand r.assumes s q) (going NoMatch (matched r.find x))

  abbrev pub found_stage : Taclet → PlainSequent → Option PlainPlace → Outcome
  found_stage r s None = provided NoFormula (not (is_some r.find)) (Goes [])
  found_stage r s (Some q) = provided NoFormula (is_some (numbered (on_side s q.side) q.index)) (found_at r s q (at_place s q))

-- ---- what is given: causes 6 and 7

abbrev pub all_named : List InstVar → List (List ℕ × Bracketed) → Bool
all_named [] given = true
all_named (v ∷ vs) given = is_some (first_named given v.name) && all_named vs given

abbrev pub answered_as : {T : Type 0} → (T → Part) → Answer T → Option Part
answered_as as_part (Is x) = Some (as_part x)
answered_as as_part (NotRead f) = None

-- a word that is no list of words
abbrev pub word_of : Bracketed → Option (List ℕ)
word_of (Atom v) = Some v
word_of (Brackets l) = None

-- the name, where it has the sort
abbrev pub name_if : Bool → Name → Option Part
name_if b c = cond b (Some (TheName c)) None

module _ (names : NameTable) (p : Program) (σ : Instance) where
  -- what the text stands for where this form is asked for
  abbrev pub read_as : InstForm → Bracketed → Option Part
  read_as AFormula x = answered_as TheFormula (formula_answer names x)
  read_as ANumber x = option_and_then (λ v. option_and_then (λ z. Some (TheLiteral z)) (integer_of wide v)) (word_of x)
  read_as (ATerm k) x = answered_as TheTerm (term_answer names (asked_sort p σ k) x)
  read_as (NewConstant k) x = option_and_then (λ v. option_and_then (λ (c : Name). name_if (same_sort c.sort (asked_sort p σ k)) c) (constant_of v)) (word_of x)
  read_as (NewVariable k) x = option_and_then (λ v. option_and_then (λ (c : Name). name_if (same_sort c.sort (asked_sort p σ k)) c) (special_of v)) (word_of x)

  -- what each variable that is asked for is to stand for
  abbrev pub given_for : List InstVar → List (List ℕ × Bracketed) → Option Bindings
  given_for [] given = Some []
  given_for (v ∷ vs) given = option_and_then (λ x. option_and_then (λ y. option_and_then (λ τ. Some ((v.name, y) ∷ τ)) (given_for vs given)) (read_as v.form x)) (first_named given v.name)

module _ (w : Tests) where
  -- each is bound, or was to the same
  abbrev pub bind_all : Bindings → Bindings → Option Bindings
  bind_all [] τ = Some τ
  bind_all (e ∷ l) τ = next (bind w e.0 e.1 τ) (bind_all l)

  abbrev pub given_stage : PlainTask → List InstVar → List (List ℕ × Bracketed) → Bindings → Outcome
  given_stage t vs given τ =
      provided MissingInst (all_named vs given)
      (provided BadInst (nat_eq (length given) (length vs))
      (going BadInst (option_and_then (λ l. bind_all l τ) (given_for (names_of t) (told_setting t).program (chosen w τ) vs given))))

-- ---- what is assumed: cause 8

abbrev pub is_other : Option PlainPlace → PlainPlace → Bool
is_other None q = true
is_other (Some own) q = not (is_side own.side q.side && nat_eq own.index q.index)

-- the formula of the side that the place names, where it is the place of a whole formula there
abbrev pub whole_at : PlainSequent → Side → PlainPlace → Option PlainFormula
whole_at s side q = cond (is_side q.side side && is_empty q.path) (numbered (on_side s side) q.index) None

abbrev pub assumed_at : PlainSequent → Option PlainPlace → Side → Option PlainPlace → Option PlainFormula
assumed_at s own side None = None
assumed_at s own side (Some q) = cond (is_other own q) (whole_at s side q) None

module _ (w : Tests) where
  abbrev pub match_assumed : PlainSequent → Option PlainPlace → List (Side × FormulaPattern) → List (Option PlainPlace) → Bindings → Option Bindings
  match_assumed s own [] [] τ = Some τ
  match_assumed s own (a ∷ l) (q ∷ qs) τ = on (assumed_at s own a.0 q) (λ x. next (match_formula w a.1 x τ) (match_assumed s own l qs))
  match_assumed s own l qs τ = None

-- ---- new names: cause 9

abbrev pub stands_in_body : PlainTask → Name → Bool
stands_in_body t x = list_any (λ (b : PlainBody). named_in_code x b.code) t.contracts.bodies

abbrev pub is_new_constant : PlainTask → PlainSequent → Name → Bool
is_new_constant t s c = not (constant_stands_in s c) && not (list_any (λ k. same_name c k) t.obligation.consts)

abbrev pub is_new_variable : PlainTask → PlainSequent → Name → Bool
is_new_variable t s x = not (variable_stands_in s x) && not (member x special_variables) && not (stands_in_body t x)

abbrev pub is_new_as : PlainTask → PlainSequent → InstForm → Name → Bool
is_new_as t s (NewConstant k) x = is_new_constant t s x
is_new_as t s (NewVariable k) x = is_new_variable t s x
is_new_as t s f x = true

abbrev pub all_new : PlainTask → PlainSequent → Instance → List InstVar → Bool
all_new t s σ [] = true
all_new t s σ (v ∷ vs) = is_new_as t s v.form (σ.name v.name) && all_new t s σ vs

-- ---- all stages

module _ (w : Tests) where
  abbrev pub condition_stage : PlainTask → Taclet → Bindings → Outcome
  condition_stage t r τ = going SideCondition (option_and_then (λ l. bind_all w l τ) (conditions_told w t (chosen w τ) r.conds))

  abbrev pub new_stage : PlainTask → PlainSequent → Taclet → Bindings → Outcome
  new_stage t s r τ = provided NotFresh (all_new t s (chosen w τ) r.insts) (condition_stage t r τ)

  abbrev pub assumed_stage : PlainTask → PlainSequent → Taclet → PlainStep → Bindings → Outcome
  assumed_stage t s r step τ = and_then (going NoAssume (match_assumed w s step.place r.assumes step.assumes τ)) (new_stage t s r)

  abbrev pub stages : Taclet → PlainTask → PlainSequent → PlainStep → Outcome
  stages r t s step = and_then (found_stage w r s step.place) (λ τ. and_then (given_stage w t r.insts step.insts τ) (assumed_stage t s r step))
