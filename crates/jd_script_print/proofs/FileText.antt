-- What is written for a file is spelled so.
use Rattle.std.proofs.Common.{◌≡◌, ℕ, true, List, [], ◌∷◌, map, codes, refl, sym, ap, ◌∙◌}
use Rattle.jd_bracketed.specs.Tokens.{Open, Close, Word}
use Rattle.jd_sequent.specs.Trees.{PlainNode, are_trees, tree_of}
use Rattle.jd_sequent.specs.Steps.{node_view}
use Rattle.jd_written.specs.Written.{Text, empty_text, write, write_all}
use Rattle.jd_written.proofs.Writing.{write_all-append, written_all}
use Rattle.jd_scripts.specs.Places.{decimal}
use Rattle.jd_scripts.specs.Scripts.{spell_file, spell_proof, spell_proofs, spell_tree}
use Rattle.jd_scripts.specs.ProofViews.{proof_of, proof_view}
use Rattle.jd_scripts.specs.declared.proof.Proof.{Proof}
use Rattle.jd_script_print.specs.Laws.{file_of, script_text}
use Rattle.jd_script_print.specs.Views.{named_nodes}
use Rattle.jd_script_print.specs.Writing.{OpenSteps, put_file, put_nodes, put_proof, put_proofs}
use Rattle.jd_script_print.proofs.Forests.{tree_nodes}
use Rattle.jd_script_print.proofs.TreeText.{tree_written}

nodes_written : (text : Text) (ns : List PlainNode) → are_trees 1 ns ≡ true → put_nodes (text, []) ns ≡ (write_all text (spell_tree (tree_of ns)), [])
unfolding put_nodes
nodes_written text ns one =
    ap (λ l. put_nodes (text, []) l) (sym (tree_nodes ns one)) ∙ tree_written (tree_of ns) text [] []

proof_written : (text : Text) (name : List ℕ) (ns : List PlainNode) → are_trees 1 ns ≡ true → put_proof text (name, ns) ≡ write_all text (spell_proof (proof_of name (tree_of ns)))
proof_written text name ns one =
    let t : Text = write (write (write text Open) (Word (codes "proof"))) (Word name) in
    ap (λ (s : OpenSteps). write s.0 Close) (nodes_written t ns one) ∙ sym (write_all-append t (spell_tree (tree_of ns)) (Close ∷ []))

proofs_written : (text : Text) (ps : List Proof) → put_proofs text (map named_nodes ps) ≡ write_all text (spell_proofs (map proof_view ps))
proofs_written text [] = refl
proofs_written text (p ∷ ps) =
    proofs_written (put_proof text (named_nodes p)) ps
    ∙ ap (λ (t : Text). write_all t (spell_proofs (map proof_view ps))) (proof_written text p.name.items (map node_view p.tree.nodes.items) p.tree.is_one_tree)
    ∙ sym (write_all-append text (spell_proof (proof_view p)) (spell_proofs (map proof_view ps)))

one : codes "1" ≡ decimal 1
unfolding decimal
one = refl

pub file_written : (ps : List Proof) → (put_file (map named_nodes ps)).0 ≡ script_text (map proof_view ps)
file_written ps =
    let begun : List ℕ → Text = λ w. write (write (write empty_text Open) (Word (codes "jdl"))) (Word w) in
    let behind = spell_proofs (map proof_view ps) in
    ap (λ (t : Text). t.0)
    (ap (λ (t : Text). write t Close) (proofs_written (begun (codes "1")) ps)
    ∙ ap (λ w. write (write_all (begun w) behind) Close) one
    ∙ sym (write_all-append (begun (decimal 1)) behind (Close ∷ []))
    ∙ written_all empty_text (spell_file (file_of (map proof_view ps))))
