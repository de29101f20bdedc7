-- What a valid obligation says of its case, and every case by the two inductions.
use Rattle.std.proofs.Common.{◌≡◌, ℕ, Option, Some, refl, sym, ap, ◌∙◌, subst, arith}
use Rattle.std.specs.Option.{unwrap_or}
use Rattle.jd_model.specs.Programs.{Body}
use Rattle.jd_model.specs.Outcomes.{IsOver}
use Rattle.jd_model.specs.Validity.{Valid}
use Rattle.jd_model.specs.Cases.{Case}
use Rattle.jd_model.specs.ContractForms.{PlainCase}
use Rattle.jd_model.specs.Tables.{CaseAt}
use Rattle.jd_model.specs.KeptCases.{start_state, Exit, run_of, measure_of}
use Rattle.jd_model.proofs.More.{more}
use Rattle.jd_oblig.specs.KeptByObligations.{RowsMakeObligations, ObligationsCarry, EveryCaseIsKept}
use Rattle.jd_oblig.proofs.Exits.{exit_by, box_exit, diamond_exit, diamond_ends}
use Rattle.jd_oblig.proofs.Layers.{every_case_kept}

one_body : (a b : Body) (o : Option Body) → o ≡ Some a → o ≡ Some b → a ≡ b
one_body a b o e f = ap (λ x. unwrap_or x a) (sym e ∙ f)

pub rows_make_obligations : RowsMakeObligations
rows_make_obligations t p tables κ c has q made =
    let at : CaseAt p (Some made.row) (Some c) = subst (λ (e : Option PlainCase × Option Case). CaseAt p e.0 e.1) (λ j. (made.found j, has j)) (tables.cases κ) in record {
      row = made.row;
      body = at.0;
      parts = made.parts;
      sequent = made.sequent at.0 at.1;
      runs = at.1;
      stands = at.2;
      normal = made.normal;
      exceptional = made.exceptional;
      result = made.result;
      result_of_body = made.result_of_body at.0 at.1;
      measure = made.measure;
    }

pub obligations_carry : ObligationsCarry
obligations_carry = record {
  to_depth = λ p all c q o may d m valid h r vs en b has f n le.
      subst (λ z. Exit p c.contract z h r vs (run_of p z f n h r vs)) (one_body o.body b (p.setting.program.body c.body) o.runs has)
      (exit_by p c.contract o.body h r vs (run_of p o.body f n h r vs) (run_of p o.body d n h r vs)
      (more p.setting.program f d n n le (omega arith) o.body.code (start_state o.body h r vs))
      (box_exit p all c q o h r vs en m d n may valid));
  from_measure = λ p all c q o must d m valid h r vs en same. (
    λ e b has f n le. subst (λ z. Exit p c.contract z h r vs (run_of p z f n h r vs)) (one_body o.body b (p.setting.program.body c.body) o.runs has)
        (diamond_exit p all c q o h r vs en m d must same valid f n),
    λ b has. subst (λ z. ¬ ((f n : ℕ) → ¬ (IsOver (run_of p z f n h r vs)))) (one_body o.body b (p.setting.program.body c.body) o.runs has)
        (diamond_ends p all c q o h r vs en m d must same valid),
  );
}

pub every_case_is_kept : EveryCaseIsKept
every_case_is_kept p all reach obligation made valid = every_case_kept p reach (λ κ d m. Valid p.setting d m (obligation κ)) record {
  in_box = λ κ c q may d given h r vs en. obligations_carry.to_depth p all c (obligation κ) (made κ c q) may d (measure_of p c h r vs) (given (measure_of p c h r vs)) h r vs en;
  in_diamond = λ κ c q must h r vs en given. obligations_carry.from_measure p all c (obligation κ) (made κ c q) must 0 (measure_of p c h r vs) given h r vs en refl;
} (λ κ c q d m usable. valid κ c q d m usable)
