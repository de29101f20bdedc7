-- The instances of the loop rule are sound steps.
use Rattle.std.proofs.Common.{◌≡◌, ℕ, ℤ, ◌==◌, if◌then◌else◌, Bool, true, false, cond, Option, Some, None, List, [], ◌∷◌, ◌++◌, sym, ap, ◌∙◌, subst}
use Rattle.std.specs.List.{AllByRecursion}
use Rattle.std.proofs.lemmas.List.Elements.{recursion_from_All}
use Rattle.jd_base.specs.declared.sort.Sort.{Sort}
use Rattle.jd_base.specs.declared.sort.Sort.TheVariants.{Int as IntSort, Bool as BoolSort, Ref as RefSort, Heap as HeapSort, Field as FieldSort}
use Rattle.jd_syntax.specs.AssignedVariables.{assigned_in_loop}
use Rattle.jd_syntax.specs.Names.{Name, Declared}
use Rattle.jd_syntax.specs.CodeNames.{same_name, heap_name}
use Rattle.jd_syntax.specs.Codes.{Expr, While, PlainCode}
use Rattle.jd_term.specs.declared.formula.Modality.{Modality}
use Rattle.jd_term.specs.declared.formula.Modality.TheVariants as modalities
use Rattle.jd_term.specs.Terms.{PlainTerm, ProgramVariable, PlainLoc}
use Rattle.jd_term.specs.Formulas.{PlainFormula, Modal, WellFormed}
use Rattle.jd_model.specs.SpecialNames.{entry_measure}
use Rattle.jd_model.specs.Sequents.{PlainSequent, PlainPlace}
use Rattle.jd_model.specs.Contexts.{Context, fill, one}
use Rattle.jd_model.specs.Conjunctions.{conjunction}
use Rattle.jd_model.specs.Truth.{Setting, InvTruth}
use Rattle.jd_model.specs.Validity.{Valid, AllValid}
use Rattle.jd_model.specs.UpdatePlaces.{through, sequent_with, sequents_with}
use Rattle.jd_model.specs.Bodies.{AllAssignNoHeap}
use Rattle.jd_model.specs.BodyTables.{BodiesAssignNoHeap}
use Rattle.jd_model.specs.Cases.{Case, SpecifiedProgram}
use Rattle.jd_model.specs.Occurrences.{Always, CodeIn, TermIn, FormulaIn, FormulasIn, AllOf, member}
use Rattle.jd_model.proofs.AssignedVariables.{Member, test_covered, body_covered, assigned_all}
use Rattle.jd_model.proofs.BodyTables.{bodies_assign_no_heap}
use Rattle.jd_model.proofs.InnermostFocus.{Fills, focus_fills}
use Rattle.jd_model.proofs.RightRows.{FormulaMeans, sound_under}
use Rattle.jd_model.proofs.UpdatePlaces.{Around, around_place}
use Rattle.jd_model.proofs.Wider.{expr_wider, code_wider, term_wider, loc_wider, formula_wider, fill_focus}
use Rattle.jd_model.proofs.Writes.{not_in}
use Rattle.jd_sequent.specs.Obligations.{PlainLoop, PlainObligation, PlainTask}
use Rattle.jd_sequent.specs.TaskMeaning.{IsKnownVariable, IsKnownConstant, VariantIn, LoopIsKnown, TaskStandsFor}
use Rattle.jd_sequent.proofs.Freshness.{left_old, right_old, known_constant_old, known_variable_old, front_in, rest_in, updates_in, place_in, formulas_without, updates_without}
use Rattle.jd_loop.specs.LoopNames.{LoopNames, renewed_variables, new_variables, new_constants, loop_names}
use Rattle.jd_loop.specs.LoopPremises.{typing_at, declared_typing, typings, loop_invariant, variant_or_zero, loop_formula, turn_premise, first_premise, second_premise}
use Rattle.jd_loop.specs.LoopInstances.{loop_numbered, IsLoopInstance}
use Rattle.jd_loop.specs.LoopLaws.{LoopRuleIsSound}
use Rattle.jd_loop.proofs.NewNames.{OldVariable, OldConstant, AreNewNames, Written, NamesAreOld}
use Rattle.jd_loop.proofs.LoopSound.{necessity_sound, possibility_sound}
use Rattle.jd_loop.proofs.LoopFresh.{renewed_are, heap_is_old, all_special, new_names}

-- ---- the names of what each turn keeps
module _ (P Q : Name → Type 0) (heap_in : P heap_name) where
  conj_in : (l : List PlainFormula) → FormulasIn P Q l → FormulaIn P Q (conjunction l)
  conj_in [] h = tt
  conj_in (a ∷ []) h = h.0
  conj_in (a ∷ (b ∷ l)) h = (h.0, conj_in (b ∷ l) h.1)

  append_in : (l m : List PlainFormula) → FormulasIn P Q l → FormulasIn P Q m → FormulasIn P Q (l ++ m)
  append_in [] m h g = g
  append_in (a ∷ l) m h g = (h.0, append_in l m h.1 g)

  typing_in : (k : Sort) (x : Name) (class : Option ℕ) → P x → FormulasIn P Q (typing_at k x class)
  typing_in IntSort x class o = (o, tt)
  typing_in BoolSort x class o = tt
  typing_in RefSort x class o = (((o, tt), (o, ((heap_in, o, tt), tt))), tt)
  typing_in HeapSort x class o = tt
  typing_in FieldSort x class o = tt

  declared_in : (vars : List Declared) (x : Name) → P x → FormulasIn P Q (declared_typing vars x)
  declared_in [] x o = tt
  declared_in (v ∷ vars) x o = by (declared_in vars x o) (same_name x v.name)
    where
      by : FormulasIn P Q (declared_typing vars x) → (b : Bool) → FormulasIn P Q (cond b (typing_at x.sort x v.class) (declared_typing vars x))
      by h true = typing_in x.sort x v.class o
      by h false = h

  typings_in : (vars : List Declared) (scope xs : List Name) → AllOf P xs → FormulasIn P Q (typings vars scope xs)
  typings_in vars scope [] o = tt
  typings_in vars scope (x ∷ xs) o = append_in (cond (member x scope) (declared_typing vars x) []) (typings vars scope xs) (by (member x scope)) (typings_in vars scope xs o.1)
    where
      by : (b : Bool) → FormulasIn P Q (cond b (declared_typing vars x) [])
      by true = declared_in vars x o.0
      by false = tt

  loop_invariant_in : (vars : List Declared) (f : PlainLoop) (xs : List Name) → AllOf P xs → FormulaIn P Q f.invariant → FormulaIn P Q (loop_invariant vars f xs)
  loop_invariant_in vars f xs o h = conj_in (WellFormed (ProgramVariable heap_name) ∷ (typings vars f.scope xs ++ (f.invariant ∷ []))) (heap_in, append_in (typings vars f.scope xs) (f.invariant ∷ []) (typings_in vars f.scope xs o) (h, tt))

-- ---- the loop is one of the obligation's
known_loop : (o : PlainObligation) (l : List PlainLoop) → AllByRecursion (LoopIsKnown o) l → (j : ℕ) (f : PlainLoop) → loop_numbered l j ≡ Some f → LoopIsKnown o f
known_loop o [] h j f e = absurd (no e)
  where
    no : {x : PlainLoop} → None ≡ Some x → ⊥
    no q = cc
known_loop o (q ∷ l) h j f e = by (known_loop o l h.1 j f) (q.number == j) e
  where
    same : {x y : PlainLoop} → Some x ≡ Some y → x ≡ y
    same q = cc

    by : (loop_numbered l j ≡ Some f → LoopIsKnown o f) → (b : Bool) → (if b then Some q else loop_numbered l j) ≡ Some f → LoopIsKnown o f
    by more true e = subst (LoopIsKnown o) (same e) h.0
    by more false e = more e

-- the meaning of the rule, as of formulas
loop_means : (g : Setting) → AllAssignNoHeap g.program → (n : LoopNames) → AreNewNames n → (k : Context) (j : ℕ) (e : Expr) (c : PlainCode) (a w : PlainFormula) (l : PlainLoc) (v : PlainTerm) → NamesAreOld n k j e c a w l v → (m : Modality) → FormulaMeans g (loop_formula m k j e c a) (new_constants n) (w ∷ (turn_premise m n w l v k e c a ∷ []))
loop_means g bodies n ok k j e c a w l v uses modalities.Necessity d i s b h = necessity_sound g d (InvTruth g d) bodies n ok k j e c a w l v uses i s b (h.0 []) h.1.0
loop_means g bodies n ok k j e c a w l v uses modalities.Possibility d i s b h = possibility_sound g d (InvTruth g d) bodies n ok k j e c a w l v uses i s b (h.0 []) h.1.0

module _ (t : PlainTask) (rows : BodiesAssignNoHeap t.contracts) (s : PlainSequent) (p : PlainPlace) (n : ℕ) (premises : List PlainSequent) (o : IsLoopInstance t s p n premises) (program : SpecifiedProgram) (case : Case) (stands : TaskStandsFor t program case) where
  abbrev N : LoopNames
  N = loop_names n o.test o.body

  abbrev assigned : List Name
  assigned = assigned_in_loop o.test o.body

  abbrev find : PlainFormula
  find = Modal o.modality o.code o.formula

  abbrev first : PlainFormula
  first = first_premise t.obligation.vars o.loop N

  abbrev second : PlainFormula
  second = second_premise o.modality t.obligation.vars o.loop N o.context o.test o.body o.formula

  filled : o.code ≡ fill o.context (one (While o.number o.test o.body))
  filled = subst (Fills o.code) o.at_focus (focus_fills o.code)

  around : Around s p find
  around = around_place s p find o.at_place

  -- ---- old names
  right_is : FormulasIn (OldVariable N) (OldConstant N) (around.front ++ (through around.updates find ∷ around.back))
  right_is = subst (FormulasIn (OldVariable N) (OldConstant N)) (ap (λ (q : PlainSequent). q.right) around.is) (right_old (new_variables N) (new_constants N) t.obligation s o.variables_new o.constants_new)

  front_old : FormulasIn (OldVariable N) (OldConstant N) around.front
  front_old = front_in (OldVariable N) (OldConstant N) around.front (through around.updates find ∷ around.back) right_is

  rest_old : FormulasIn (OldVariable N) (OldConstant N) (through around.updates find ∷ around.back)
  rest_old = rest_in (OldVariable N) (OldConstant N) around.front (through around.updates find ∷ around.back) right_is

  place_old : FormulaIn (OldVariable N) (OldConstant N) find
  place_old = place_in (OldVariable N) (OldConstant N) around.updates find rest_old.0

  code_old : CodeIn (OldVariable N) (OldVariable N) (fill o.context (one (While o.number o.test o.body)))
  code_old = subst (CodeIn (OldVariable N) (OldVariable N)) filled place_old.0.0

  loop_old : CodeIn (OldVariable N) (OldVariable N) (one (While o.number o.test o.body))
  loop_old = fill_focus (OldVariable N) (OldVariable N) o.context (one (While o.number o.test o.body)) code_old

  assigned_old : AllOf (OldVariable N) assigned
  assigned_old = assigned_all (OldVariable N) (OldVariable N) o.test o.body loop_old.0.0 loop_old.0.1

  names : AreNewNames N
  names = new_names n assigned o.few assigned_old o.assigns_no_heap

  known : LoopIsKnown t.obligation o.loop
  known = known_loop t.obligation t.obligation.loops (recursion_from_All (LoopIsKnown t.obligation) t.obligation.loops stands.loops) o.number o.loop o.of_obligation

  variable_old : (x : Name) → IsKnownVariable t.obligation x → OldVariable N x
  variable_old = known_variable_old (new_variables N) (new_constants N) t.obligation s o.variables_new o.constants_new (all_special n assigned) stands.variables

  constant_old : (c : Name) → IsKnownConstant t.obligation c → OldConstant N c
  constant_old = known_constant_old (new_variables N) (new_constants N) t.obligation s o.variables_new o.constants_new

  variant_old : (v : Option PlainTerm) → VariantIn t.obligation v → TermIn (OldVariable N) (OldConstant N) (variant_or_zero v)
  variant_old None h = tt
  variant_old (Some v) h = term_wider (IsKnownVariable t.obligation) (IsKnownConstant t.obligation) (OldVariable N) (OldConstant N) variable_old constant_old v h

  are : renewed_variables N.renewed ≡ assigned
  are = renewed_are n 1 assigned

  is_written : (x : Name) → Member assigned x → Written N x
  is_written x h = ap (member x) are ∙ h

  uses : NamesAreOld N o.context o.number o.test o.body o.formula first o.loop.assignable (variant_or_zero o.loop.variant)
  uses = record {
    code_in = code_old;
    formula_in = place_old.1;
    invariant_in = loop_invariant_in (OldVariable N) (OldConstant N) (heap_is_old n assigned) t.obligation.vars o.loop (renewed_variables N.renewed) (subst (AllOf (OldVariable N)) (sym are) assigned_old)
        (formula_wider (IsKnownVariable t.obligation) (IsKnownConstant t.obligation) (OldVariable N) (OldConstant N) variable_old constant_old o.loop.invariant known.invariant);
    locations_in = loc_wider (IsKnownVariable t.obligation) (IsKnownConstant t.obligation) (OldVariable N) (OldConstant N) variable_old constant_old o.loop.assignable known.assignable;
    variant_in = variant_old o.loop.variant known.variant;
    test_writes = expr_wider Always (Member assigned) Always (Written N) (λ x h. tt) is_written o.test (test_covered o.test o.body);
    body_writes = code_wider Always (Member assigned) Always (Written N) (λ x h. tt) is_written o.body (body_covered o.test o.body);
  }

  -- ---- the sequent
  goal : PlainFormula → PlainSequent
  goal a = sequent_with s.left around.front around.back around.updates a

  module _ (d : ℕ) (m : ℤ) (valid : AllValid program.setting d m premises) where
    both : AllValid program.setting d m (sequents_with s.left around.front around.back around.updates (first ∷ (second ∷ [])))
    both =
        let v = subst (AllValid program.setting d m) o.premises_are valid in
        (subst (Valid program.setting d m) (around.put first) v.0, (subst (Valid program.setting d m) (around.put second) v.1.0, tt))

    concluded : Valid program.setting d m (sequent_with s.left around.front around.back around.updates (loop_formula o.modality o.context o.number o.test o.body o.formula))
    concluded = sound_under program.setting d m (loop_formula o.modality o.context o.number o.test o.body o.formula) (new_constants N) (first ∷ (second ∷ []))
        (λ i z e h. loop_means program.setting (bodies_assign_no_heap t.contracts program stands.tables rows) N names o.context o.number o.test o.body o.formula first o.loop.assignable (variant_or_zero o.loop.variant) uses o.modality d i z [] h)
        (not_in entry_measure (new_constants N) (constant_old entry_measure stands.measure))
        around.updates (updates_without (OldVariable N) (new_constants N) around.updates (updates_in (OldVariable N) (OldConstant N) around.updates find rest_old.0))
        s.left around.front around.back
        (formulas_without (OldVariable N) (new_constants N) s.left (left_old (new_variables N) (new_constants N) t.obligation s o.variables_new o.constants_new))
        (formulas_without (OldVariable N) (new_constants N) around.front front_old)
        (formulas_without (OldVariable N) (new_constants N) around.back rest_old.1)
        both

    pub sound_step : Valid program.setting d m s
    sound_step = subst (Valid program.setting d m) (sym around.is)
        (subst (λ x. Valid program.setting d m (sequent_with s.left around.front around.back around.updates (Modal o.modality x o.formula))) (sym filled) concluded)

pub loop_rule_is_sound : LoopRuleIsSound
loop_rule_is_sound t rows s p n premises o program case stands d m usable valid = sound_step t rows s p n premises o program case stands d m valid
