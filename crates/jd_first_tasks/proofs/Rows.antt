-- The obligation of such a program's case is made of its row.
use Rattle.std.proofs.Common.{◌≡◌, ℕ, ◌+◌, pos, Bool, true, false, true≢false, List, [], ◌∷◌, ◌++◌, Option, Some, None, option_map, refl, sym, ap, subst, ◌∙◌}
use Rattle.std.specs.List.{slice_get}
use Rattle.std.proofs.lemmas.Option.{same_Some, none-some}
use Rattle.jd_base.specs.declared.sort.Sort.TheVariants.{Int as IntSort}
use Rattle.jd_syntax.specs.JavaTrees.{JavaResult, Void, Gives, OfConstructor}
use Rattle.jd_syntax.specs.SpecTrees.{PlainClause, MeasuredBy}
use Rattle.jd_syntax.specs.CodeNames.{heap_name}
use Rattle.jd_term.specs.Terms.{ProgramVariable, sort_of_term}
use Rattle.jd_bodies.specs.declared.value.ValueType.{ValueType}
use Rattle.jd_bodies.specs.declared.value.ValueType.TheVariants as types
use Rattle.jd_bodies.specs.Declarations.{Declarations, type_by}
use Rattle.jd_bodies.specs.Variables.{sort_of}
use Rattle.jd_model.specs.Cases.{Role, Static, Ordinary, Helper, ConstructorOf}
use Rattle.jd_model.specs.ContractForms.{PlainContracts}
use Rattle.jd_model.specs.Programs.{Body, type_sort}
use Rattle.jd_model.specs.Sequents.{PlainSequent}
use Rattle.jd_model.specs.Tables.{HasResult}
use Rattle.jd_oblig.specs.CaseObligations.{invariant_members, obligation_sequent}
use Rattle.jd_oblig.specs.KeptByObligations.{IsMadeOfRow, sort_of_result}
use Rattle.jd_jml_meaning.specs.ContractFormulas.{contract_of, contract_spelling}
use Rattle.jd_jml_meaning.specs.JmlCases.{JmlCase, JmlProgram, case_of, specified}
use Rattle.jd_jml_meaning.specs.Meaning.{Before}
use Rattle.jd_jml_meaning.specs.Resolved.{IntegerLiteral}
use Rattle.jd_jml_meaning.specs.Translation.{Spelling, term}
use Rattle.jd_case_rows.specs.Rows as rows
use Rattle.jd_case_rows.specs.Rows.{row_of, spelled_for}
use Rattle.jd_specifications.specs.Resolution.{Entry}
use Rattle.jd_specifications.specs.WrittenCases.{measure_of, model_type, result}
use Rattle.jd_programs.specs.Programs.{result_sort}
use Rattle.jd_case_obligations.specs.Listed.{keeps_invariant, parts_of}
use Rattle.jd_first_form.specs.Conditions.{all_comparisons, are_few, both_counted, comparisons_in}

-- ---- a case is made of its row where the result has its sort and the measure is an integer

same_invariants : (r : Role) → rows.invariant_members r (ProgramVariable heap_name) ≡ invariant_members (keeps_invariant r)
same_invariants Static = refl
same_invariants Ordinary = refl
same_invariants Helper = refl
same_invariants (ConstructorOf a) = refl

module _ (t : PlainContracts) (j : JmlProgram) (fields : ℕ → List ℕ) (c : JmlCase) (b : Body) where
  abbrev sequent_by : Body → PlainSequent
  sequent_by x = obligation_sequent (row_of j.program fields c b) x (parts_of j.program (contract_of j.program (spelled_for b c.contract)))

  pub made_of_row : slice_get t.cases 0 ≡ Some (row_of j.program fields c b) → j.program.body c.body ≡ Some b → HasResult (option_map sort_of_result c.contract.result) b.result
      → ((s : Spelling) → sort_of_term (term j.program s Before c.contract.measure) ≡ IntSort)
      → IsMadeOfRow t (specified j) 0 (case_of j.program c) (sequent_by b)
  made_of_row found runs result_ measure_ = record {
    row = row_of j.program fields c b;
    parts = parts_of j.program (contract_of j.program (spelled_for b c.contract));
    found = found;
    sequent = λ x e. ap sequent_by (same_Some b x (sym runs ∙ e));
    normal = ap (λ l. rows.normal_members (contract_of j.program (spelled_for b c.contract)) ++ l) (same_invariants c.contract.role);
    exceptional = ap (λ l. rows.exceptional_members j.program (contract_of j.program (spelled_for b c.contract)) ++ l) (same_invariants c.contract.role);
    result = refl;
    result_of_body = λ x e. subst (λ (y : Body). HasResult (option_map sort_of_result c.contract.result) y.result) (same_Some b x (sym runs ∙ e)) result_;
    measure = measure_ (contract_spelling (spelled_for b c.contract).parameters c.contract.result);
  }

-- ---- the result has its sort

same_sorts : (d : Declarations) (t : ValueType) → type_sort (model_type d t) ≡ sort_of t
same_sorts d types.Int = refl
same_sorts d types.Boolean = refl
same_sorts d types.IntArray = refl
same_sorts d (types.Class c) = refl
same_sorts d types.Null = refl
same_sorts d types.Missing = refl

pub has_result : (d : Declarations) (r : JavaResult) (nullable : Bool) → HasResult (option_map sort_of_result (result d r nullable)) (result_sort d r)
has_result d Void nullable = tt
has_result d (Gives w) nullable = same_sorts d (type_by d.class_named w.written)
has_result d OfConstructor nullable = tt

-- ---- the measure is 0

counted_behind : (a b : Option ℕ) (n : ℕ) → both_counted a b ≡ Some n → (k : ℕ) × (b ≡ Some k)
counted_behind None b n e = absurd (none-some n e)
counted_behind (Some m) None n e = absurd (none-some n e)
counted_behind (Some m) (Some k) n e = (k, refl)

pub counted : (limit : ℕ) (o : Option ℕ) → are_few limit o ≡ true → (n : ℕ) × (o ≡ Some n)
counted limit None e = absurd (true≢false (sym e))
counted limit (Some n) e = (n, refl)

module _ (d : Declarations) (class : ℕ) (r : ValueType) (es : List Entry) where
  pub measure_is : (cs : List PlainClause) (n : ℕ) → all_comparisons cs ≡ Some n → measure_of d class r es cs ≡ IntegerLiteral (pos 0)
  measure_is [] n e = refl
  measure_is (MeasuredBy at a ∷ cs) n e = absurd (none-some n e)
  measure_is (c ∷ cs) n e = let k = counted_behind (comparisons_in c) (all_comparisons cs) n e in measure_is cs k.0 k.1
