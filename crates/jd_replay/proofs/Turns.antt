-- The turns of a replay's loop, over the code's values.
use Rattle.std.proofs.Common.{◌≡◌, ℕ, ◌+◌, ◌<◌, ◌≤◌, true, List, [], ◌∷◌, ◌++◌, length, Option, Some, None, get_or, refl, sym, ap, ◌∙◌, subst, arith, map, option_map, drop, reverse}
use Rattle.std.specs.Global.{Box}
use Rattle.std.proofs.lemmas.List.{drop_all, drop_more, get_or-map, length-map, map-append, reverse-append, reverse-reverse}
use Rattle.jd_model.specs.declared.sequent.Sequent.{Sequent}
use Rattle.jd_model.specs.Sequents.{PlainSequent, sequent_view}
use Rattle.jd_sequent.specs.declared.script.Step.{Step}
use Rattle.jd_sequent.specs.declared.script.ScriptNode.{ScriptNode}
use Rattle.jd_sequent.specs.Trees.{PlainStep, PlainNode, ProofTree, are_trees, tree_of, steps_in}
use Rattle.jd_sequent.specs.Steps.{step_view, boxed_view, node_view}
use Rattle.jd_sequent.specs.Derives.{Derives}
use Rattle.jd_replay.specs.declared.verdict.Cause.TheVariants.{BranchCount}
use Rattle.jd_replay.specs.FirstBad.{FirstBad}
use Rattle.jd_replay.proofs.Going.{Going, Each, going_start, going_some, going_open, going_step, going_broken, going_done}

next : (nodes : List ScriptNode) (i : ℕ) (n : ScriptNode) → n ≡ get_or nodes i n → i < length nodes → drop i (map node_view nodes) ≡ node_view n ∷ drop (i + 1) (map node_view nodes)
next nodes i n is lt =
    let lt2 : i < length (map node_view nodes) = omega (arith, length-map nodes node_view) in
    drop_more (map node_view nodes) i (node_view n) lt2 ∙ ap (λ x. x ∷ drop (i + 1) (map node_view nodes)) (get_or-map node_view nodes i n (node_view n) lt ∙ sym (ap node_view is))

map_back : (ps : List Sequent) → map sequent_view (reverse ps) ≡ reverse (map sequent_view ps)
map_back [] = refl
map_back (p ∷ ps) =
    ap (map sequent_view) (reverse-append (p ∷ []) ps)
    ∙ map-append sequent_view (reverse ps) (p ∷ [])
    ∙ ap (λ l. l ++ sequent_view p ∷ []) (map_back ps)
    ∙ sym (reverse-append (sequent_view p ∷ []) (map sequent_view ps))

with_premises : (a b ps : List Sequent) → a ≡ b ++ reverse ps → reverse (map sequent_view a) ≡ map sequent_view ps ++ reverse (map sequent_view b)
with_premises a b ps e =
    ap (λ l. reverse (map sequent_view l)) e
    ∙ ap reverse (map-append sequent_view b (reverse ps) ∙ ap (λ l. map sequent_view b ++ l) (map_back ps))
    ∙ reverse-append (map sequent_view b) (reverse (map sequent_view ps))
    ∙ ap (λ l. l ++ reverse (map sequent_view b)) (reverse-reverse (map sequent_view ps))

-- the step in a node's box
pub boxed_step : (o : Option (Box Step)) (b : Box Step) (s : Step) → o ≡ Some b → s ≡ b.value → option_map boxed_view o ≡ Some (step_view s)
boxed_step o b s is e = ap (option_map boxed_view) is ∙ ap (λ t. Some (step_view t)) (sym e)

pub start_turn : (leads : PlainSequent → PlainStep → List PlainSequent → Type 0) (causes : PlainSequent → PlainStep → ℕ → Type 0) (accepts : PlainSequent → Type 0) (nodes : List PlainNode) (first : Sequent) (stack goals : List Sequent) (steps : ℕ) → accepts (sequent_view first) → stack ≡ first ∷ [] → goals ≡ [] → steps ≡ 0 → are_trees 1 nodes ≡ true → Going leads causes accepts (tree_of nodes) (sequent_view first) nodes (reverse (map sequent_view stack)) (map sequent_view goals) steps
start_turn leads causes accepts nodes first stack goals steps ok e none zero fits =
    let g = going_start leads causes accepts nodes (sequent_view first) ok fits in
    let on_stack : sequent_view first ∷ [] ≡ reverse (map sequent_view stack) = sym (ap (λ l. reverse (map sequent_view l)) e) in
    let nothing : [] ≡ map sequent_view goals = sym (ap (map sequent_view) none) in
    subst (λ k. Going leads causes accepts (tree_of nodes) (sequent_view first) nodes (reverse (map sequent_view stack)) (map sequent_view goals) k) (sym zero) (subst (λ st. Going leads causes accepts (tree_of nodes) (sequent_view first) nodes st (map sequent_view goals) 0) on_stack (subst (λ fd. Going leads causes accepts (tree_of nodes) (sequent_view first) nodes (sequent_view first ∷ []) fd 0) nothing g))

pub at_turn : (leads : PlainSequent → PlainStep → List PlainSequent → Type 0) (causes : PlainSequent → PlainStep → ℕ → Type 0) (accepts : PlainSequent → Type 0) (tree : ProofTree) (goal : PlainSequent) (items nodes : List ScriptNode) (i : ℕ) (n : ScriptNode) (stack rest : List Sequent) (s : Sequent) (found : List PlainSequent) (steps : ℕ) → items ≡ nodes → n ≡ get_or items i n → i < length items → stack ≡ rest ++ s ∷ [] → Going leads causes accepts tree goal (drop i (map node_view nodes)) (reverse (map sequent_view stack)) found steps → Going leads causes accepts tree goal (node_view n ∷ drop (i + 1) (map node_view nodes)) (sequent_view s ∷ reverse (map sequent_view rest)) found steps
at_turn leads causes accepts tree goal items nodes i n stack rest s found steps same is lt top g =
    subst (λ ns. Going leads causes accepts tree goal ns (sequent_view s ∷ reverse (map sequent_view rest)) found steps) (next nodes i n (subst (λ l. n ≡ get_or l i n) same is) (subst (λ l. i < length l) same lt)) (subst (λ ss. Going leads causes accepts tree goal (drop i (map node_view nodes)) ss found steps) (ap (λ l. reverse (map sequent_view l)) top ∙ last) g)
  where
    last : reverse (map sequent_view (rest ++ s ∷ [])) ≡ sequent_view s ∷ reverse (map sequent_view rest)
    last = ap reverse (map-append sequent_view rest (s ∷ [])) ∙ reverse-append (map sequent_view rest) (sequent_view s ∷ [])

pub stack_some : (leads : PlainSequent → PlainStep → List PlainSequent → Type 0) (causes : PlainSequent → PlainStep → ℕ → Type 0) (accepts : PlainSequent → Type 0) (tree : ProofTree) (goal : PlainSequent) (items nodes : List ScriptNode) (i : ℕ) (n : ScriptNode) (stack : List Sequent) (found : List PlainSequent) (steps : ℕ) → items ≡ nodes → n ≡ get_or items i n → i < length items → Going leads causes accepts tree goal (drop i (map node_view nodes)) (reverse (map sequent_view stack)) found steps → 0 < length stack
stack_some leads causes accepts tree goal items nodes i n [] found steps same is lt g =
    let lt2 : i < length (map node_view nodes) = omega (arith, length-map nodes node_view, ap length same) in
    absurd (going_some leads causes accepts tree goal _ _ found steps (subst (λ ns. Going leads causes accepts tree goal ns [] found steps) (drop_more (map node_view nodes) i (node_view n) lt2) g))
stack_some leads causes accepts tree goal items nodes i n (s ∷ stack) found steps same is lt g = omega arith

pub open_turn : (leads : PlainSequent → PlainStep → List PlainSequent → Type 0) (causes : PlainSequent → PlainStep → ℕ → Type 0) (accepts : PlainSequent → Type 0) (tree : ProofTree) (goal : PlainSequent) (n : PlainNode) (ns : List PlainNode) (s : Sequent) (stack : List PlainSequent) (goals more : List Sequent) (steps : ℕ) → n.step ≡ None → more ≡ goals ++ s ∷ [] → Going leads causes accepts tree goal (n ∷ ns) (sequent_view s ∷ stack) (map sequent_view goals) steps → Going leads causes accepts tree goal ns stack (map sequent_view more) steps
open_turn leads causes accepts tree goal n ns s stack goals more steps none e g =
    let pushed : map sequent_view goals ++ sequent_view s ∷ [] ≡ map sequent_view more = sym (ap (map sequent_view) e ∙ map-append sequent_view goals (s ∷ [])) in
    subst (λ found. Going leads causes accepts tree goal ns stack found steps) pushed (going_open leads causes accepts tree goal n ns (sequent_view s) stack (map sequent_view goals) steps none g)

pub step_turn : (leads : PlainSequent → PlainStep → List PlainSequent → Type 0) (causes : PlainSequent → PlainStep → ℕ → Type 0) (accepts : PlainSequent → Type 0) (tree : ProofTree) (goal : PlainSequent) (n : PlainNode) (ns : List PlainNode) (p : PlainStep) (s : PlainSequent) (premises rest stack : List Sequent) (found : List PlainSequent) (steps more : ℕ) → n.step ≡ Some p → leads s p (map sequent_view premises) → Each accepts (map sequent_view premises) → length premises ≡ n.children → stack ≡ rest ++ reverse premises → more ≡ steps + 1 → Going leads causes accepts tree goal (n ∷ ns) (s ∷ reverse (map sequent_view rest)) found steps → Going leads causes accepts tree goal ns (reverse (map sequent_view stack)) found more
step_turn leads causes accepts tree goal n ns p s premises rest stack found steps more some is ok len e count g =
    subst (λ k. Going leads causes accepts tree goal ns (reverse (map sequent_view stack)) found k) (sym count) (subst (λ st. Going leads causes accepts tree goal ns st found (steps + 1)) (sym (with_premises stack rest premises e)) (going_step leads causes accepts tree goal n ns p s (map sequent_view premises) (reverse (map sequent_view rest)) found steps some is ok (length-map premises sequent_view ∙ len) g))

pub miscounted_turn : (leads : PlainSequent → PlainStep → List PlainSequent → Type 0) (causes : PlainSequent → PlainStep → ℕ → Type 0) (accepts : PlainSequent → Type 0) (tree : ProofTree) (goal : PlainSequent) (n : PlainNode) (ns : List PlainNode) (p : PlainStep) (s : PlainSequent) (premises : List Sequent) (stack found : List PlainSequent) (steps count : ℕ) → n.step ≡ Some p → leads s p (map sequent_view premises) → count ≡ length premises → (n.children ≡ count → ⊥) → Going leads causes accepts tree goal (n ∷ ns) (s ∷ stack) found steps → FirstBad leads causes tree goal (steps + 1) (BranchCount n.children count)
miscounted_turn leads causes accepts tree goal n ns p s premises stack found steps count some is many other g =
    going_broken leads causes accepts tree goal n ns p s stack found steps (BranchCount n.children count) some (map sequent_view premises, is, refl, many ∙ sym (length-map premises sequent_view), other) g

pub end_turn : (leads : PlainSequent → PlainStep → List PlainSequent → Type 0) (causes : PlainSequent → PlainStep → ℕ → Type 0) (accepts : PlainSequent → Type 0) (tree : ProofTree) (goal : PlainSequent) (items nodes : List ScriptNode) (i : ℕ) (stack found : List PlainSequent) (steps : ℕ) → items ≡ nodes → length items ≤ i → Going leads causes accepts tree goal (drop i (map node_view nodes)) stack found steps → Derives leads tree goal found × (steps_in tree ≡ steps)
end_turn leads causes accepts tree goal items nodes i stack found steps same le g =
    going_done leads causes accepts tree goal stack found steps (subst (λ l. Going leads causes accepts tree goal l stack found steps) (drop_all i (map node_view nodes) (omega (arith, length-map nodes node_view, ap length same))) g)

pub nothing_left : (leads : PlainSequent → PlainStep → List PlainSequent → Type 0) (tree : ProofTree) (goal : PlainSequent) (goals : List Sequent) → length goals ≡ 0 → Derives leads tree goal (map sequent_view goals) → Derives leads tree goal []
nothing_left leads tree goal [] none d = d
nothing_left leads tree goal (g ∷ goals) none d = absurd (omega arith)
