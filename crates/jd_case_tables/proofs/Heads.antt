-- What the clauses of a case say by the contract, where the head is made.
use Rattle.std.proofs.Common.{◌≡◌, ℕ, Bool, List, [], map, option_map, sym, ap, ap₂, subst, ◌∙◌}
use Rattle.std.specs.Option.{unwrap_or}
use Rattle.jd_syntax.specs.JavaTrees.{JavaMethod}
use Rattle.jd_syntax.specs.SpecTrees.{PlainClause}
use Rattle.jd_bodies.specs.Declarations.{Declarations}
use Rattle.jd_bodies.specs.declared.value.ValueType.{ValueType}
use Rattle.jd_model.specs.Programs.{Body, Program}
use Rattle.jd_case_rows.specs.Rows.{spelled_for}
use Rattle.jd_jml_meaning.specs.ContractFormulas.{contract_spelling}
use Rattle.jd_jml_meaning.specs.JmlContracts.{JmlContract}
use Rattle.jd_jml_meaning.specs.Translation.{Spelling}
use Rattle.jd_jml_written.specs.Marked.{PlainCase, PlainMarks, marks_of}
use Rattle.jd_specifications.specs.Resolution.{Entry}
use Rattle.jd_specifications.specs.WrittenCases as plain
use Rattle.jd_specifications.specs.WrittenCases.{contract, entries}
use Rattle.jd_row_makers.specs.Heads.{declared_view, parameter_view}
use Rattle.jd_row_makers.specs.Rows.{IsHead}
use Rattle.jd_row_makers.specs.declared.heads.Head.{Head}
use Rattle.jd_case_clauses.specs.Whole.{SaysClauses}
use Rattle.jd_case_tables.specs.Spelled.{contract_for}

pub says : (p : Program) (b : Body) (d : Declarations) (class : ℕ) (m : JavaMethod) (k : PlainCase) (h : Head) (es : List Entry) (sp : Spelling)
    → IsHead h (contract_for p b d class m k) → k.marks ≡ marks_of m → es ≡ entries d 0 m.parameters [] → sp ≡ contract_spelling (map parameter_view h.parameters.items) (option_map declared_view h.result)
    → SaysClauses d class (plain.result_value d m.result) es sp k.marks.is_pure (plain.builds d m.result) k.clauses (spelled_for b (contract d class m k.clauses))
says p b d class m k h es sp is marks named spoken =
    let r = plain.result_value d m.result in
    let own = plain.builds d m.result in
    record {
      required = ap (λ (l : List Entry). plain.requires_of d class r l k.clauses) (sym named);
      ensured = ap (λ (l : List Entry). plain.ensures_of d class r l k.clauses) (sym named);
      signals = ap (λ (l : List Entry). plain.signals_of d class r l k.clauses) (sym named);
      signals_only = ap (λ (l : List Entry). plain.signals_only_of d class r l k.clauses) (sym named);
      assignable =
          ap (λ (l : List Entry). unwrap_or (plain.assignable_of d class r l k.clauses) (plain.assignable_else d (marks_of m).is_pure own)) (sym named)
          ∙ ap (λ (s : PlainMarks). unwrap_or (plain.assignable_of d class r es k.clauses) (plain.assignable_else d s.is_pure own)) (sym marks);
      measure = ap (λ (l : List Entry). plain.measure_of d class r l k.clauses) (sym named);
      spelling = spoken ∙ ap₂ contract_spelling (sym is.parameters) (sym is.outcome);
    }

-- the same of what code has for the result's type, the mark and the clauses
pub says_same : (d : Declarations) (class : ℕ) (es : List Entry) (sp : Spelling) (pure : Bool) (c : JmlContract) (r q : ValueType) (k l : Bool) (cs ds : List PlainClause)
    → q ≡ r → l ≡ k → ds ≡ cs → SaysClauses d class r es sp pure k cs c → SaysClauses d class q es sp pure l ds c
says_same d class es sp pure c r q k l cs ds gives builds are says =
    subst (λ (t : ValueType). SaysClauses d class t es sp pure l ds c) (sym gives)
    (subst (λ (b : Bool). SaysClauses d class r es sp pure b ds c) (sym builds)
    (subst (λ (xs : List PlainClause). SaysClauses d class r es sp pure k xs c) (sym are) says))
