use Rattle.std.proofs.Common.{IfOk, Ok, Result, subst, ◌≡◌}
use Rattle.jd_schema_trees.specs.TacletViews.{taclet_kind}
use Rattle.jd_row_data.proofs.Forms.{conditions_are, variables_are}
use Rattle.jd_row_data.proofs.rows.whole.Goals as goal

held : {A E : Type 0} (P : A → Type 0) (r : Result A E) (x : A) → IfOk r P → r ≡ Ok x → P x
held P r x h e = subst (λ z. IfOk z P) e h

pub returns : goal.returns
returns c = λ p l f g.
    let found = held _ _ _ c.both-found.ensures c.in_ok-find.ensures.0 in
    let rest = held _ _ _ c.both.ensures c.in_ok-find.ensures.1 in
    let told = held _ _ _ c.both-told.ensures rest.0 in
    let named = held _ _ _ c.both-named.ensures rest.1 in
    let said = held _ _ _ c.conditions.ensures told.1 in
    let names = held _ _ _ c.variables.ensures told.0 in
    λ i. record {
      name = held _ _ _ c.copy_bytes.ensures named.0 i;
      kind = taclet_kind c.args.kind;
      find = held _ _ _ f found.0 i;
      assumes = held _ _ _ c.assumptions.ensures found.1 i;
      insts = variables_are c.args.asked.now.given.now c.args.asked.now.conds.now c.in_ok-find.conds.items said c.in_ok-find.insts.items names i;
      conds = conditions_are c.args.asked.now.given.now c.args.asked.now.conds.now c.in_ok-find.conds.items said i;
      goals = held _ _ _ g named.1 i;
    }
