use Rattle.std.proofs.Common.{Bor, Some, ap, map, option_map, sym, ◌≡◌, ◌∙◌}
use Rattle.jd_schema_trees.specs.TacletViews.{taclet}
use Rattle.jd_schema_trees.specs.declared.taclet.Taclet.{Taclet}
use Rattle.jd_table_steps.specs.Tables.{rule_rows}
use Rattle.jd_taclet_scripts.specs.Steps.{row_named}
use Rattle.rule_rows.proofs.Finds.{has_find}
use Rattle.rule_rows.proofs.matches.found_by.Goals as goal

pub match_at-requires : goal.match_at-requires
match_at-requires c =
    let named : row_named rule_rows c.args.name.now ≡ Some (taclet c.in-Some.row.now) =
    sym (sym (ap (option_map (λ (r : Bor Taclet). taclet r.now)) c.in-Some.is) ∙ c.row_named.ensures ∙ ap (λ l. row_named (map taclet l) c.args.name.now) c.deref.ensures.value ∙ ap (λ l. row_named l c.args.name.now) c.requires) in
    has_find c.args.name.now (taclet c.in-Some.row.now) named
