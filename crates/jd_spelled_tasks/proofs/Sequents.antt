-- The sequent of a case of a static method of ints is spelled, by what is known of its clauses and its body.
use Rattle.std.proofs.Common.{Bool, List, None, Some, [], arith, false, map, option_map, pos, refl, subst, sym, true, ◌&&◌, ◌++◌, ◌∷◌, ◌≡◌, ◌⊎◌, ⊎_elim, ℕ}
use Rattle.std.specs.List.{AllByRecursion as Every}
use Rattle.jd_base.specs.declared.sort.Sort.TheVariants.{Field as FieldSort, Int as IntSort, Ref as RefSort}
use Rattle.jd_case_obligations.specs.Listed.{keeps_invariant, parts_of}
use Rattle.jd_case_rows.specs.Rows as rows
use Rattle.jd_case_rows.specs.Rows.{entry_members, established_members, exceptional_members, field_members, normal_members, only_member, parameter_members, receiver_members, result_members, row_of, signalled_members, spelled_for, unless_exceptional, unless_normal}
use Rattle.jd_jml_meaning.specs.ContractFormulas.{contract_of, contract_spelling}
use Rattle.jd_jml_meaning.specs.JmlCases.{JmlCase}
use Rattle.jd_jml_meaning.specs.Meaning.{Before, Now}
use Rattle.jd_jml_meaning.specs.Resolved as jml
use Rattle.jd_jml_meaning.specs.Resolved.{JmlExpr}
use Rattle.jd_jml_meaning.specs.Translation.{Spelling, formula, locations, term}
use Rattle.jd_model.specs.Cases.{AnyEnd, Behaviour, Contract, ExceptionalOnly, NormalOnly, Static}
use Rattle.jd_model.specs.Conjunctions.{conjunction, frame}
use Rattle.jd_model.specs.Programs as model
use Rattle.jd_model.specs.Programs.{Body, Program}
use Rattle.jd_model.specs.SpecialNames.{entry_heap, entry_measure, thrown_variable}
use Rattle.jd_oblig.specs.CaseObligations as obligations
use Rattle.jd_oblig.specs.CaseObligations.{exit_formula, exit_members, frame_members, measure_members, none_thrown, obligation_sequent, parameter_pair, receiver_pairs, run_code, start_pairs}
use Rattle.jd_oblig.specs.KeptByObligations.{sort_of_result}
use Rattle.jd_spelled_tasks.proofs.Formulas.{both_spelled, conjunction_spelled, equal_spelled, implies_spelled, number_known}
use Rattle.jd_spelled_tasks.proofs.Parameters.{IsIntName, IsIntParameter, PairsSpelled, members_spelled, pairs_spelled}
use Rattle.jd_straight_bodies.specs.Laws.{ParametersKnown}
use Rattle.jd_spelled_trees.proofs.Words.{index_is_known}
use Rattle.jd_spelled_trees.specs.Places.{AreSpelled, IsSpelledSequent}
use Rattle.jd_spelled_trees.specs.Spelled.{IsSpelled}
use Rattle.jd_syntax.specs.CodeNames.{heap_name}
use Rattle.jd_syntax.specs.Codes.{OfClass}
use Rattle.jd_term.specs.Formulas.{Equal, Not, Pairs}
use Rattle.jd_term.specs.Terms.{Bound, Constant, NoLocations, NullTerm, Number}
use Rattle.jd_tforms.specs.Known.{CodeKnown, IsKind, TermKnown}
use Rattle.jd_tforms.specs.Sorted.{Free, Value, code_sorted}
use Rattle.jd_tgrammar.specs.NameTables.{NameTable}

no_cons : {A : Type 0} (x : A) (xs : List A) → x ∷ xs ≡ [] → ⊥
no_cons x xs e = cc

module _ (names : NameTable) where
  -- ---- members that hang on nothing

  behaviour_normal : (b : Behaviour) → AreSpelled names (unless_normal b)
  behaviour_normal AnyEnd = tt
  behaviour_normal NormalOnly = tt
  behaviour_normal ExceptionalOnly = ((tt, refl), tt)

  behaviour_exceptional : (b : Behaviour) → AreSpelled names (unless_exceptional b)
  behaviour_exceptional AnyEnd = tt
  behaviour_exceptional NormalOnly = ((tt, refl), tt)
  behaviour_exceptional ExceptionalOnly = tt

  none_thrown_spelled : IsSpelled names none_thrown
  none_thrown_spelled = ((refl, tt), refl)

  -- the frame where nothing may be assigned, below its two binders
  outer : TermKnown names (FieldSort ∷ RefSort ∷ []) (Bound 1 RefSort)
  outer = index_is_known names (FieldSort ∷ RefSort ∷ []) 1 RefSort refl (omega arith)

  inner : TermKnown names (FieldSort ∷ RefSort ∷ []) (Bound 0 FieldSort)
  inner = index_is_known names (FieldSort ∷ RefSort ∷ []) 0 FieldSort refl (omega arith)

  frame_spelled : IsSpelled names (frame NoLocations (Constant entry_heap))
  frame_spelled = (
    (
      refl,
      (
        refl,
        (
          (outer, inner, tt),
          (((refl, refl, outer, tt), tt), (((refl, refl, outer, inner), (refl, refl, outer, inner)), (((refl, refl, outer, inner), (refl, refl, outer, inner)), ((refl, refl, outer, inner), (refl, refl, outer, inner))))),
        ),
      ),
    ),
    refl,
  )

  -- ---- the case

  module _ (p : Program) (fields : ℕ → List ℕ) (c : JmlCase) (b : Body) where
    abbrev k : Contract
    k = contract_of p (spelled_for b c.contract)

    abbrev pub spelling_of : Spelling
    spelling_of = contract_spelling (spelled_for b c.contract).parameters c.contract.result

    pub record IsIntCase : Type 0 where
      pub static : c.contract.role ≡ Static
      pub nullable : Bool
      pub gives : c.contract.result ≡ Some (record { type = model.IntType; nullable = nullable })
      pub signals : c.contract.signals ≡ []
      pub only : c.contract.signals_only ≡ []
      pub assignable : (c.contract.assignable ≡ jml.Nothing ∷ []) ⊎ (c.contract.assignable ≡ jml.Everything ∷ [])
      pub measure : c.contract.measure ≡ jml.IntegerLiteral (pos 0)
      pub receiver : b.receiver ≡ None
      pub takes : Every IsIntParameter (spelled_for b c.contract).parameters
      pub ints : Every IsIntName b.parameters
      pub known : ParametersKnown names b.parameters
      pub runs : CodeKnown names b.code
      pub fits : code_sorted names (Value IntSort) b.code ≡ true
      pub throwable : IsKind names (OfClass p.throwable)
      pub before : AreSpelled names (map (formula p spelling_of Before) c.contract.requires_)
      pub behind : AreSpelled names (map (formula p spelling_of Now) c.contract.ensures_)

    module _ (f : IsIntCase) where
      -- ---- the entry

      entry_spelled : AreSpelled names (entry_members p fields c.class k)
      entry_spelled = (
        (refl, refl),
        both_spelled names (receiver_members k.role c.class) _ (subst (λ r. AreSpelled names (receiver_members r c.class)) (sym f.static) tt)
            (both_spelled names (parameter_members k.parameters) _ (members_spelled names k.parameters f.takes)
            (both_spelled names k.requires_ _ f.before
            (both_spelled names (rows.invariant_members k.role (Constant entry_heap)) _ (subst (λ r. AreSpelled names (rows.invariant_members r (Constant entry_heap))) (sym f.static) tt)
            (subst (λ r. AreSpelled names (field_members p fields r)) (sym f.static) tt)))),
      )

      measured : (diverges : Bool) (m : JmlExpr) → m ≡ jml.IntegerLiteral (pos 0) → AreSpelled names (measure_members diverges (term p spelling_of Before m))
      measured true m e = tt
      measured false m e = (
        subst (λ x. IsSpelled names (Equal (Constant entry_measure) (term p spelling_of Before x))) (sym e)
            (equal_spelled names (Constant entry_measure) (Number (pos 0)) (refl, refl, refl) (number_known names (pos 0) refl)),
        tt,
      )

      left_spelled : AreSpelled names (obligation_sequent (row_of p fields c b) b (parts_of p k)).left
      left_spelled = (
        conjunction_spelled names (entry_members p fields c.class k ++ measure_members k.diverges k.measure)
            (both_spelled names (entry_members p fields c.class k) _ entry_spelled (measured k.diverges c.contract.measure f.measure)),
        tt,
      )

      -- ---- the start

      started : PairsSpelled names (start_pairs b)
      started =
          let more : Pairs = map parameter_pair b.parameters ++ ((thrown_variable, NullTerm) ∷ []) in
          let rest : PairsSpelled names more = pairs_spelled names b.parameters ((thrown_variable, NullTerm) ∷ []) f.ints f.known (record { known = ((refl, tt), tt); sorted = refl }) in
          let all : PairsSpelled names (receiver_pairs b.receiver ++ more) = subst (λ r. PairsSpelled names (receiver_pairs r ++ more)) (sym f.receiver) rest in
          record { known = ((refl, refl), all.known); sorted = all.sorted }

      -- ---- the run

      run_spelled : CodeKnown names (run_code (option_map sort_of_result k.result) b) × (code_sorted names Free (run_code (option_map sort_of_result k.result) b) ≡ true)
      run_spelled =
          subst (λ r. CodeKnown names (run_code (option_map sort_of_result r) b) × (code_sorted names Free (run_code (option_map sort_of_result r) b) ≡ true)) (sym f.gives)
          (((((refl, f.runs), tt), refl, tt), tt), λ i. ((f.fits i && true) && true) && true)

      -- ---- the exit

      normal_spelled : AreSpelled names (normal_members k)
      normal_spelled =
          both_spelled names (result_members k.result) _ (subst (λ r. AreSpelled names (result_members r)) (sym f.gives) ((refl, refl), tt))
          (both_spelled names k.ensures_ _ f.behind
          (both_spelled names (established_members k.role) _ (subst (λ r. AreSpelled names (established_members r)) (sym f.static) tt) (behaviour_normal k.behaviour)))

      exceptional_spelled : AreSpelled names (exceptional_members p k)
      exceptional_spelled = (
        ((f.throwable, refl), refl),
        (
          (((refl, refl, refl, tt), tt), refl),
          both_spelled names (signalled_members k.signals) _ (subst (λ l. AreSpelled names (signalled_members (map (λ e. (e.0, formula p spelling_of Now e.1)) l))) (sym f.signals) tt)
              (both_spelled names (map only_member k.signals_only) _ (subst (λ l. AreSpelled names (map only_member l)) (sym f.only) tt) (behaviour_exceptional k.behaviour)),
        ),
      )

      framed : AreSpelled names (frame_members k.assignable)
      framed =
          ⊎_elim
          (λ e. subst (λ l. AreSpelled names (frame_members (locations p spelling_of Before l))) (sym e) (frame_spelled, tt))
          (λ e. subst (λ l. AreSpelled names (frame_members (locations p spelling_of Before l))) (sym e) tt)
          f.assignable

      exit_spelled : IsSpelled names (exit_formula (row_of p fields c b) (parts_of p k))
      exit_spelled = conjunction_spelled names (exit_members (row_of p fields c b) (parts_of p k)) (
        (refl, refl),
        (
          implies_spelled names none_thrown (conjunction (normal_members k)) none_thrown_spelled (conjunction_spelled names (normal_members k) normal_spelled),
          (
            implies_spelled names (Not none_thrown) (conjunction (exceptional_members p k)) none_thrown_spelled (conjunction_spelled names (exceptional_members p k) exceptional_spelled),
            both_spelled names (obligations.invariant_members (keeps_invariant k.role)) _ (subst (λ r. AreSpelled names (obligations.invariant_members (keeps_invariant r))) (sym f.static) tt) framed,
          ),
        ),
      )

      -- ---- together

      pub sequent_spelled : IsSpelledSequent names (obligation_sequent (row_of p fields c b) b (parts_of p k))
      sequent_spelled = (
        left_spelled,
        ((((λ e. no_cons (heap_name, Constant entry_heap) (receiver_pairs b.receiver ++ (map parameter_pair b.parameters ++ ((thrown_variable, NullTerm) ∷ []))) e), started.known, (run_spelled.0, exit_spelled.0)), λ i. started.sorted i && (run_spelled.1 i && exit_spelled.1 i)), tt),
      )
