-- The premises of an instance of a first rule are spelled where the sequent is.
use Rattle.std.proofs.Common.{All, List, Option, Some, [], arith, map, subst, suc, sym, true, zero, inl, inr, ◌∷◌, ◌≡◌, ◌⊎◌, ℕ}
use Rattle.std.proofs.lemmas.Bool.{and_parts, leb-true}
use Rattle.std.proofs.lemmas.List.Elements.{All-cons, All-head, All-nil, All-tail}
use Rattle.std.specs.List.{list_all}
use Rattle.std.specs.Option.{IfSome}
use Rattle.std.specs.Prelude.{nat_le, slice_get}
use Rattle.jd_first_steps.proofs.FormulaLists.{OfEach, append_each, instead_each, numbered_each}
use Rattle.jd_first_steps.proofs.Options.{if_found, no_some}
use Rattle.jd_first_steps.specs.declared.rules.FirstRule.{FirstRule}
use Rattle.jd_first_steps.specs.declared.rules.FirstRule.TheVariants.{AndLeft, AndRight, CloseTrue, ImpRight, NotLeft}
use Rattle.jd_first_steps.specs.Instances.{IsClose, IsInstance, IsRewrite, IsRow}
use Rattle.jd_first_steps.specs.Rows.{Goal, goal_premise, row_goals}
use Rattle.jd_model.specs.declared.sequent.Side.{Side}
use Rattle.jd_model.specs.declared.sequent.Side.TheVariants.{Left, Right}
use Rattle.jd_model.specs.Places.{numbered, on_side}
use Rattle.jd_model.specs.Sequents.{PlainSequent}
use Rattle.jd_sequent.specs.Limits.{IsWithinLimits, is_small_formula}
use Rattle.jd_sequent.specs.Trees.{PlainStep}
use Rattle.jd_spelled_first_steps.proofs.Rewrites.{rewritten}
use Rattle.jd_spelled_first_steps.specs.Laws.{FirstInstancesKeepSpelled}
use Rattle.jd_spelled_first_steps.specs.TermNames.{AreTermNames}
use Rattle.jd_spelled_trees.proofs.Places.{taken_is_spelled}
use Rattle.jd_spelled_trees.proofs.ToKnown.{known_formula}
use Rattle.jd_spelled_trees.specs.Laws.{PlacesAreSpelled}
use Rattle.jd_spelled_trees.specs.Places.{AreSpelled, IsSpelledSequent, SpelledFormulas, SpelledSequent}
use Rattle.jd_spelled_trees.specs.Spelled.{SpelledFormula}
use Rattle.jd_term.specs.Formulas.{And, Implies, Not, PlainFormula, TrueFormula}
use Rattle.jd_term.specs.FormulaSizes.{formula_depth, formula_size}
use Rattle.jd_tgrammar.specs.NameTables.{NameTable}

module _ (names : NameTable) where
  abbrev Spelled : PlainFormula → Type 0
  Spelled a = SpelledFormula names [] a

  all_spelled : OfEach Spelled (SpelledFormulas names)
  all_spelled = record { none = tt; more = λ a l h k. (h, k); first = λ a l h. h.0; others = λ a l h. h.1 }

  -- ---- premises within the limits are known again

  small_is_taken : (l : List PlainFormula) → SpelledFormulas names l → list_all is_small_formula l ≡ true → AreSpelled names l
  small_is_taken [] h e = tt
  small_is_taken (a ∷ l) h e =
      let f = and_parts (is_small_formula a) (list_all is_small_formula l) e in
      let g = and_parts (nat_le (formula_size a) 100000) (nat_le (formula_depth a) 1000) f.0 in
      (known_formula names [] a h.0 (omega (arith, leb-true (formula_depth a) 1000 g.1)), small_is_taken l h.1 f.1)

  within_is_taken : (s : PlainSequent) → SpelledSequent names s → IsWithinLimits s → IsSpelledSequent names s
  within_is_taken s h w = (small_is_taken s.left h.0 w.left, small_is_taken s.right h.1 w.right)

  abbrev EachSpelled : List PlainSequent → Type 0
  EachSpelled [] = Unit {0}
  EachSpelled (s ∷ l) = SpelledSequent names s × EachSpelled l

  all_taken : (l : List PlainSequent) → EachSpelled l → All IsWithinLimits l → All (IsSpelledSequent names) l
  all_taken [] h w = All-nil (IsSpelledSequent names)
  all_taken (s ∷ l) h w = All-cons (IsSpelledSequent names) s l (within_is_taken s h.0 (All-head IsWithinLimits s l w)) (all_taken l h.1 (All-tail IsWithinLimits s l w))

  -- ---- whole formulas

  side_spelled : (s : PlainSequent) (side : Side) → SpelledSequent names s → SpelledFormulas names (on_side s side)
  side_spelled s Left h = h.0
  side_spelled s Right h = h.1

  abbrev GoalSpelled : Goal → Type 0
  GoalSpelled q = SpelledFormulas names q.here × SpelledFormulas names q.other

  abbrev GoalsSpelled : List Goal → Type 0
  GoalsSpelled [] = Unit {0}
  GoalsSpelled (q ∷ qs) = GoalSpelled q × GoalsSpelled qs

  row_spelled : (rule : FirstRule) (side : Side) (a : PlainFormula) → Spelled a → IfSome (row_goals rule side a) GoalsSpelled
  row_spelled CloseTrue Right TrueFormula h = tt
  row_spelled NotLeft Left (Not a) h = ((tt, (h, tt)), tt)
  row_spelled AndLeft Left (And a c) h = (((h.0, (h.1, tt)), tt), tt)
  row_spelled AndRight Right (And a c) h = (((h.0, tt), tt), (((h.1, tt), tt), tt))
  row_spelled ImpRight Right (Implies a c) h = (((h.1, tt), (h.0, tt)), tt)
  row_spelled rule side a h = tt

  premise_spelled : (s : PlainSequent) (side : Side) (k : ℕ) (q : Goal) → SpelledSequent names s → GoalSpelled q → SpelledSequent names (goal_premise s side (suc k) q)
  premise_spelled s Left k q w h = (instead_each Spelled (SpelledFormulas names) all_spelled s.left k q.here w.0 h.0, append_each Spelled (SpelledFormulas names) all_spelled s.right q.other w.1 h.1)
  premise_spelled s Right k q w h = (append_each Spelled (SpelledFormulas names) all_spelled s.left q.other w.0 h.1, instead_each Spelled (SpelledFormulas names) all_spelled s.right k q.here w.1 h.0)

  premises_spelled : (s : PlainSequent) (side : Side) (k : ℕ) (goals : List Goal) → SpelledSequent names s → GoalsSpelled goals → EachSpelled (map (goal_premise s side (suc k)) goals)
  premises_spelled s side k [] w h = tt
  premises_spelled s side k (q ∷ qs) w h = (premise_spelled s side k q w h.0, premises_spelled s side k qs w h.1)

  row_keeps : (rule : FirstRule) (s : PlainSequent) (side : Side) (n : ℕ) (a : PlainFormula) (goals : List Goal) → SpelledSequent names s → numbered (on_side s side) n ≡ Some a → row_goals rule side a ≡ Some goals → EachSpelled (map (goal_premise s side n) goals)
  row_keeps rule s side zero a goals w e row = absurd (no_some e)
  row_keeps rule s side (suc k) a goals w e row =
      let found = if_found Spelled (slice_get (on_side s side) k) a e (numbered_each Spelled (SpelledFormulas names) all_spelled (on_side s side) k (side_spelled s side w)) in
      premises_spelled s side k goals w (if_found GoalsSpelled (row_goals rule side a) goals row (row_spelled rule side a found))

  -- ---- instances

  instance_spelled : PlacesAreSpelled → AreTermNames names.variables → (s : PlainSequent) (p : PlainStep) (ps : List PlainSequent) → SpelledSequent names s → IsInstance s p ps → EachSpelled ps
  instance_spelled places are s p ps w e = by e.step
    where
      by : IsClose e.rule s p ps ⊎ (IsRow e.rule s p ps ⊎ IsRewrite e.rule s p ps) → EachSpelled ps
      by (inl h) = subst EachSpelled (sym h.premises) tt
      by (inr (inl h)) = subst EachSpelled (sym h.premises) (row_keeps e.rule s h.place.side h.place.index h.formula h.goals w h.found h.row)
      by (inr (inr h)) =
          let at = places.formula names s h.place h.before w h.found in
          subst EachSpelled (sym h.premises) (at.again h.after (rewritten names are at.binders e.rule h.before h.after h.rewrites at.spelled), tt)

pub first_instances_keep_spelled : PlacesAreSpelled → FirstInstancesKeepSpelled
first_instances_keep_spelled places names are s p ps w e within = all_taken names ps (instance_spelled names places are s p ps (taken_is_spelled names s w) e) within
