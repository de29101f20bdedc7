-- The step with a new name in the loop's form.
use Rattle.std.proofs.Common.{◌≡◌, ℕ, ℤ, ◌+◌, ◌<◌, ◌^◌, pos, Bool, true, false, cond, Option, Some, None, List, [], refl, sym, ap, ◌∙◌, subst, true≢false, arith}
use Rattle.std.specs.Fmt.{digits}
use Rattle.jd_base.specs.declared.sort.Sort.TheVariants.{Bool as BoolSort}
use Rattle.jd_syntax.specs.Names.{Name, Declared}
use Rattle.jd_syntax.specs.CodeNames.{heap_name}
use Rattle.jd_syntax.specs.Codes.{Variable, Done}
use Rattle.jd_term.specs.declared.formula.Modality.TheVariants as modalities
use Rattle.jd_term.specs.Terms.{AllLocations}
use Rattle.jd_term.specs.Formulas.{Modal}
use Rattle.jd_heap.specs.Heaps.{Entry, empty_heap}
use Rattle.jd_heap.specs.Values.{Value, IntValue, BoolValue, HeapValue, as_bool, IsOf}
use Rattle.jd_heap.proofs.Entries.{entry-empty}
use Rattle.jd_model.specs.SpecialNames.{entry_measure}
use Rattle.jd_model.specs.States.{State, read, write, empty_state}
use Rattle.jd_model.specs.Outcomes.{Normal, Stopped, NotEnded, then}
use Rattle.jd_model.specs.TermValues.{updated}
use Rattle.jd_model.specs.Truth.{Setting, Truth, IfEnds, IsWf}
use Rattle.jd_model.specs.Validity.{Valid}
use Rattle.jd_model.specs.Contexts.{Here}
use Rattle.jd_model.proofs.States.{read-none, read_of}
use Rattle.jd_model.proofs.Writes.{read_back, read_here, read_there}
use Rattle.jd_loop.specs.LoopPremises.{first_premise, second_premise, saving, renewing, beginning, after_turn, variant_or_zero}
use Rattle.jd_loop.specs.LoopInstances.{IsLoopInstance}
use Rattle.jd_loop.specs.NewNameInForm.{b, b_now, body, code, form, is_true, sequent_of, wrong_sequent, wrong_place, wrong_task, wrong_premises, names, NewNameInFormIsUnsound}

abbrev vars : List Declared
vars = wrong_task.obligation.vars

abbrev mark : Name
mark = names.mark

few : 1 + 1 < 2 ^ 64
few = omega arith

wrong_step : IsLoopInstance wrong_task wrong_sequent wrong_place 1 wrong_premises
unfolding digits
wrong_step = record {
  modality = modalities.Necessity;
  code = code;
  formula = is_true;
  at_place = record { right = refl; found = refl };
  context = Here Done;
  number = 1;
  test = Variable b;
  body = body;
  at_focus = refl;
  loop = form;
  of_obligation = refl;
  has_variant = tt;
  assigns_no_heap = (refl, tt);
  few = few;
  variables_new = (record { absent = refl; not_special = refl }, (record { absent = refl; not_special = refl }, (record { absent = refl; not_special = refl }, (record { absent = refl; not_special = refl }, tt))));
  constants_new = (record { absent = refl; not_known = refl }, (record { absent = refl; not_known = refl }, tt));
  premises_are = refl;
}

false_true : BoolValue false ≡ BoolValue true → ⊥
false_true e = true≢false (sym (ap as_bool e))

bool_by : (v : Value) → IsOf BoolSort v → (x : Bool) → as_bool v ≡ x → v ≡ BoolValue x
bool_by v o x e = by v o ∙ ap BoolValue e
  where
    by : (v : Value) → IsOf BoolSort v → v ≡ BoolValue (as_bool v)
    by (BoolValue z) o = refl
    by v o = absurd o

module _ (g : Setting) (d : ℕ) (size : ℤ) where
  first_valid : Valid g d size (sequent_of (first_premise vars form names))
  unfolding digits
  first_valid i s e r = r.1.0 (r.0.0, λ q. q.0 r.0.1.0)

  module _ (i s : State) where
    s1 : State
    s1 = updated i s [] (saving names) s

    s2 : State
    s2 = updated i s1 [] (renewing names AllLocations) s1

    s3 : State
    s3 = updated i s2 [] (beginning names (variant_or_zero None)) s2

    z : State
    z = write (write s3 b (BoolValue false)) mark (BoolValue true)

    b_two : read s2 b ≡ read i b_now
    unfolding s2 digits
    b_two = read_here _ b (read i b_now) ∙ read_back i b_now

    b_three : read s3 b ≡ read i b_now
    unfolding s3 digits
    b_three = read_there _ mark (BoolValue false) b refl ∙ read_there s2 names.variant_before (IntValue (pos 0)) b refl ∙ b_two

    heap_three : read s3 heap_name ≡ read s2 heap_name
    unfolding s3 digits
    heap_three = read_there _ mark (BoolValue false) heap_name refl ∙ read_there s2 names.variant_before (IntValue (pos 0)) heap_name refl

    mark_three : read s3 mark ≡ BoolValue false
    unfolding s3 digits
    mark_three = read_here _ mark (BoolValue false)

    heap_z : read z heap_name ≡ read s2 heap_name
    unfolding z
    heap_z = read_there (write s3 b (BoolValue false)) mark (BoolValue true) heap_name refl ∙ read_there s3 b (BoolValue false) heap_name refl ∙ heap_three

    mark_z : read z mark ≡ BoolValue true
    unfolding z
    mark_z = read_here (write s3 b (BoolValue false)) mark (BoolValue true)

    abbrev Q : State → Type 0
    Q y = Truth g d i y [] (after_turn modalities.Necessity names (first_premise vars form names) AllLocations (variant_or_zero None) is_true)

    choose : Truth g d i s2 [] (first_premise vars form names) → (x : Bool) → as_bool (read s3 b) ≡ x → IfEnds (then (cond x (Stopped z) (Normal (tt {0}) s3)) (λ _ t. Normal (tt {0}) t)) Q
    unfolding digits
    choose w true e = (
      λ m. absurd (false_true (sym m ∙ mark_z)),
      λ m. (
        (subst (λ v. IsWf g v) (sym heap_z) w.0, λ q. q.1 (sym b_three ∙ bool_by (read s3 b) (read_of s3 b) true e)),
        ((λ v o f u n. n.0 refl), tt),
      ),
    )
    choose w false e = (
      λ m. absurd (w.1 (
        λ p. false_true (sym (bool_by (read s3 b) (read_of s3 b) false e) ∙ b_three ∙ sym b_two ∙ p),
        λ p. false_true (sym (bool_by (read s3 b) (read_of s3 b) false e) ∙ b_three ∙ p),
      )),
      λ m. absurd (false_true (sym mark_three ∙ m)),
    )

    second_true : Truth g d i s [] (second_premise modalities.Necessity vars form names (Here Done) (Variable b) body is_true)
    unfolding s1 s2 s3 z digits
    second_true w m = choose w (as_bool (read s3 b)) refl

  second_valid : Valid g d size (sequent_of (second_premise modalities.Necessity vars form names (Here Done) (Variable b) body is_true))
  second_valid i s e r = r.1.0 (second_true i s)

  s0 : State
  s0 = write empty_state b (BoolValue true)

  u0 : State
  u0 = write s0 b (BoolValue false)

  i0 : State
  i0 = write empty_state entry_measure (IntValue size)

  b_s0 : read s0 b ≡ BoolValue true
  unfolding s0
  b_s0 = read_here empty_state b (BoolValue true)

  b_u0 : read u0 b ≡ BoolValue false
  unfolding u0
  b_u0 = read_here s0 b (BoolValue false)

  heap_s0 : read s0 heap_name ≡ HeapValue empty_heap
  unfolding s0
  heap_s0 = read_there empty_state b (BoolValue true) heap_name refl ∙ read-none heap_name

  abbrev is_missing : Option Entry → Bool
  is_missing None = true
  is_missing (Some x) = false

  none_some : (e : Entry) → None ≡ Some e → ⊥
  none_some e p = true≢false (ap is_missing p)

  wf_s0 : IsWf g (read s0 heap_name)
  wf_s0 = subst (λ v. IsWf g v) (sym heap_s0) (λ l e p. absurd (none_some e (sym (entry-empty l) ∙ p)))

  not_true : ¬ (Truth g d i0 s0 [] (Modal modalities.Necessity code is_true))
  unfolding u0
  not_true h =
      let one : IfEnds (then (cond (as_bool (read u0 b)) NotEnded (Normal (tt {0}) u0)) (λ _ t. Normal (tt {0}) t)) (λ t. read t b ≡ BoolValue true) =
      subst (λ x. IfEnds (then (cond (as_bool x) (cond (as_bool (read u0 b)) NotEnded (Normal (tt {0}) u0)) (Normal (tt {0}) s0)) (λ _ t. Normal (tt {0}) t)) (λ t. read t b ≡ BoolValue true)) b_s0 (h 1) in
      let two : read u0 b ≡ BoolValue true = subst (λ x. IfEnds (then (cond (as_bool x) NotEnded (Normal (tt {0}) u0)) (λ _ t. Normal (tt {0}) t)) (λ t. read t b ≡ BoolValue true)) b_u0 one in
      false_true (sym b_u0 ∙ two)

  conclusion_invalid : ¬ (Valid g d size wrong_sequent)
  unfolding i0
  conclusion_invalid valid = valid i0 s0 (read_here empty_state entry_measure (IntValue size)) ((wf_s0, (b_s0, tt)), (not_true, tt))

pub new_name_in_form : NewNameInFormIsUnsound
new_name_in_form = record {
  step = wrong_step;
  valid = λ g d m. (first_valid g d m, (second_valid g d m, tt));
  not_valid = λ g d m. conclusion_invalid g d m;
}
