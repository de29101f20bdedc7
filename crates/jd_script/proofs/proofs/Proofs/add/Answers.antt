use Rattle.std.proofs.Common.{map, ap, ◌∙◌}
use Rattle.std.proofs.lemmas.List.{map-append}
use Rattle.jd_sequent.specs.Trees.{tree_of}
use Rattle.jd_sequent.specs.Steps.{node_view}
use Rattle.jd_scripts.specs.Scripts.{PlainProof, names_of}
use Rattle.jd_scripts.specs.ProofViews.{proof_of, proof_view}
use Rattle.jd_script.specs.ProofViews.{proofs_view, name_list}
use Rattle.jd_script.proofs.NameSets.{one_more_name, names_more}
use Rattle.jd_script.proofs.proofs.Proofs.add.Goals as goal

pub returns-clause-hashed : goal.returns-clause-hashed
returns-clause-hashed c =
    names_more (λ (p : PlainProof). p.name) (proofs_view c.args.self.now) (map proof_view c.push.new.self.items) (proof_of c.args.name.items (tree_of (map node_view c.args.tree.nodes.items)))
    (name_list c.insert.new.self) (ap (map proof_view) c.in_ok-push.ensures.items ∙ map-append proof_view c.args.self.now.done.items _)
    (one_more_name c.args.name.items c.in_ok-copy.copy c.args.self.now.names.keys c.insert.new.self.keys (names_of (proofs_view c.args.self.now)) (c.in_ok-copy.ensures ∙ c.deref.ensures.value) c.in_ok-insert.ensures.keys c.requires)
