-- One node more of a script.
use Rattle.std.proofs.Common.{◌≡◌, ℕ, zero, suc, ◌+◌, ◌-◌, ◌<◌, Bool, false, ◌&&◌, List, ◌∷◌, length, map, drop, get_or, sym, ap, ◌∙◌, arith}
use Rattle.std.proofs.lemmas.List.{drop_more, get_or-map, length-map}
use Rattle.jd_sequent.specs.declared.script.ScriptNode.{ScriptNode}
use Rattle.jd_sequent.specs.Trees.{PlainNode, are_trees, leaf_is_bare}
use Rattle.jd_sequent.specs.Steps.{node_view}

next : (nodes : List ScriptNode) (i : ℕ) (n : ScriptNode) → n ≡ get_or nodes i n → i < length nodes → drop i (map node_view nodes) ≡ node_view n ∷ drop (i + 1) (map node_view nodes)
next nodes i n is lt =
    let lt2 : i < length (map node_view nodes) = omega (arith, length-map nodes node_view) in
    drop_more (map node_view nodes) i (node_view n) lt2 ∙ ap (λ x. x ∷ drop (i + 1) (map node_view nodes)) (get_or-map node_view nodes i n (node_view n) lt ∙ sym (ap node_view is))

pub open_none : (nodes : List ScriptNode) (i : ℕ) (n : ScriptNode) (b : Bool) → n ≡ get_or nodes i n → i < length nodes → are_trees 0 (drop i (map node_view nodes)) ≡ b → b ≡ false
unfolding are_trees
open_none nodes i n b is lt e = sym e ∙ ap (are_trees 0) (next nodes i n is lt)

step : (k : ℕ) (n : PlainNode) (ns : List PlainNode) → 0 < k → are_trees k (n ∷ ns) ≡ (leaf_is_bare n.step n.children && are_trees (k - 1 + n.children) ns)
unfolding are_trees
step zero n ns h = absurd (omega arith)
step (suc k) n ns h =
    let e : k + n.children ≡ suc k - 1 + n.children = omega arith in
    ap (λ m. leaf_is_bare n.step n.children && are_trees m ns) e

pub open_bare : (nodes : List ScriptNode) (i k m : ℕ) (n : ScriptNode) (b c : Bool) → m ≡ k - 1 + n.children → n ≡ get_or nodes i n → i < length nodes → 0 < k → are_trees k (drop i (map node_view nodes)) ≡ b → leaf_is_bare (node_view n).step n.children ≡ c → b ≡ (c && are_trees m (drop (i + 1) (map node_view nodes)))
open_bare nodes i k m n b c left is lt pos e bare =
    sym e
    ∙ ap (are_trees k) (next nodes i n is lt)
    ∙ step k (node_view n) (drop (i + 1) (map node_view nodes)) pos
    ∙ ap (λ x. x && are_trees (k - 1 + n.children) (drop (i + 1) (map node_view nodes))) bare
    ∙ ap (λ x. c && are_trees x (drop (i + 1) (map node_view nodes))) (sym left)

pub ruleset turns = open_none
