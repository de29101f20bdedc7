-- The parts of an obligation, by its row and what the declaration says.
use Rattle.std.proofs.Common.{◌≡◌, ℕ, List, ◌∷◌, ◌++◌, not, option_map, Result, Ok, IfOk, refl, ap, subst, ◌∙◌}
use Rattle.jd_syntax.specs.CodeNames.{heap_name}
use Rattle.jd_syntax.specs.JavaTrees.{JavaUnit}
use Rattle.jd_syntax.specs.Names.{Name, Declared}
use Rattle.jd_term.specs.Terms.{ProgramVariable}
use Rattle.jd_model.specs.Cases.{Role, Static, Ordinary, Helper, ConstructorOf}
use Rattle.jd_model.specs.ContractForms.{PlainCase}
use Rattle.jd_model.specs.Programs.{Body, Program}
use Rattle.jd_model.specs.Sequents.{PlainSequent}
use Rattle.jd_model.specs.SpecialNames.{entry_heap, entry_measure, receiver}
use Rattle.jd_model.specs.Tables.{constants_of_parameters}
use Rattle.jd_sequent.specs.Obligations.{PlainLoop, PlainObligation}
use Rattle.jd_oblig.specs.CaseObligations as obligations
use Rattle.jd_oblig.specs.KeptByObligations.{sort_of_result}
use Rattle.jd_jml_meaning.specs.ContractFormulas.{contract_of}
use Rattle.jd_jml_meaning.specs.JmlCases.{JmlCase}
use Rattle.jd_case_rows.specs.Rows as rows
use Rattle.jd_case_rows.specs.Rows.{row_of, spelled_for}
use Rattle.jd_obligation_makers.specs.Parts.{AreParts}
use Rattle.jd_obligation_makers.specs.declared.sequents.Run.{Run}
use Rattle.jd_case_obligations.specs.Listed.{case_obligation, keeps_invariant, obligation_name, parts_of}

exits_alike : (r : Role) → rows.invariant_members r (ProgramVariable heap_name) ≡ obligations.invariant_members (keeps_invariant r)
exits_alike Static = refl
exits_alike Ordinary = refl
exits_alike Helper = refl
exits_alike (ConstructorOf a) = refl

-- what the row does not tell is known
pub are_parts : (p : Program) (fields : ℕ → List ℕ) (c : JmlCase) (b : Body) (f : PlainCase) (r : Run) → f ≡ row_of p fields c b
    → option_map sort_of_result (contract_of p (spelled_for b c.contract)).result ≡ r.result → keeps_invariant (contract_of p (spelled_for b c.contract)).role ≡ r.keeps_invariant → AreParts f r (parts_of p (contract_of p (spelled_for b c.contract)))
are_parts p fields c b f r row outcome kept =
    let k = contract_of p (spelled_for b c.contract) in
    record {
      outcome = outcome;
      keeps = kept;
      normal = ap (λ (q : PlainCase). q.exit) row ∙ ap (λ l. rows.normal_members k ++ l) (exits_alike k.role ∙ ap obligations.invariant_members kept);
      exceptional = ap (λ (q : PlainCase). q.exceptional) row ∙ ap (λ l. rows.exceptional_members p k ++ l) (exits_alike k.role ∙ ap obligations.invariant_members kept);
    }

-- what was made, where memory sufficed
pub made : {A E : Type 0} (P : A → Type 0) (r : Result A E) (v : A) → r ≡ Ok v → IfOk r P → P v
made P r v is h = subst (λ q. IfOk q P) is h

-- the whole, of its parts
pub whole : (units : List JavaUnit) (p : Program) (fields : ℕ → List ℕ) (c : JmlCase) (b : Body) (f : PlainCase) (name : List ℕ) (vars variables : List Declared) (loops : List PlainLoop) (consts xs : List Name) (s : PlainSequent)
    → f ≡ row_of p fields c b → name ≡ obligation_name units f.class f.method f.number → vars ≡ variables → consts ≡ entry_heap ∷ entry_measure ∷ receiver ∷ constants_of_parameters xs → xs ≡ b.parameters
    → s ≡ obligations.obligation_sequent f b (parts_of p (contract_of p (spelled_for b c.contract)))
    → ◌≡◌ {A = PlainObligation} (record { name = name; class = f.class; method = f.method; case = f.number; vars = vars; loops = loops; consts = consts; diamond = not f.diverges; sequent = s }) (case_obligation units p fields c b variables loops)
whole units p fields c b f name vars variables loops consts xs s row named copied constants parameters shown =
    let its_name : name ≡ obligation_name units c.class c.method c.number = named ∙ ap (λ (q : PlainCase). obligation_name units q.class q.method q.number) row in
    let its_constants : consts ≡ entry_heap ∷ entry_measure ∷ receiver ∷ constants_of_parameters b.parameters = constants ∙ ap (λ l. entry_heap ∷ entry_measure ∷ receiver ∷ constants_of_parameters l) parameters in
    let its_sequent = shown ∙ ap (λ (q : PlainCase). obligations.obligation_sequent q b (parts_of p (contract_of p (spelled_for b c.contract)))) row in
    λ i. record { name = its_name i; class = (row i).class; method = (row i).method; case = (row i).number; vars = copied i; loops = loops; consts = its_constants i; diamond = not (row i).diverges; sequent = its_sequent i }
