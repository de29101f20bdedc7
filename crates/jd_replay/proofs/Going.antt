-- A replay on its way, over plain lists.
use Rattle.std.proofs.Common.{◌≡◌, ℕ, zero, suc, ◌+◌, ◌≤◌, Bool, true, false, ◌&&◌, ◌⊎◌, inl, inr, List, [], ◌∷◌, ◌++◌, length, Some, None, All, refl, sym, ap, ◌∙◌, subst, arith, append_assoc, append-nil, length-append, zero-add, Option}
use Rattle.std.proofs.lemmas.Bool.Decides.{nat_tests}
use Rattle.jd_model.specs.Sequents.{PlainSequent}
use Rattle.jd_sequent.specs.Trees.{PlainStep, PlainNode, ProofTree, ByStep, ProofTrees, NoTrees, TreeThen, first_trees, after_trees, count_trees, forest, are_trees, leaf_is_bare, tree_at, head_tree, tree_of, steps_in, steps_in_all}
use Rattle.jd_sequent.specs.Derives.{Derives, DeriveAll}
use Rattle.jd_replay.specs.declared.verdict.Cause.{Cause}
use Rattle.jd_replay.specs.FirstBad.{Breaks, FirstBad, FirstBadIn}

-- a predicate of each sequent of a list
abbrev pub Each : (PlainSequent → Type 0) → List PlainSequent → Type 0
Each P [] = Unit {0}
Each P (s ∷ ss) = P s × Each P ss

-- what is left of the nodes are trees for the sequents on the stack; to derive those is to derive the goal; the first bad step of those is, behind the steps taken, that of the whole tree; the steps taken and those left are all
pub record Going (leads : PlainSequent → PlainStep → List PlainSequent → Type 0) (causes : PlainSequent → PlainStep → ℕ → Type 0) (accepts : PlainSequent → Type 0) (tree : ProofTree) (goal : PlainSequent) (nodes : List PlainNode) (stack found : List PlainSequent) (steps : ℕ) : Type 0 where
  pub fits : are_trees (length stack) nodes ≡ true
  pub taken : Each accepts stack
  pub goes : (rest : List PlainSequent) → DeriveAll leads (forest nodes) stack rest → Derives leads tree goal (found ++ rest)
  pub breaks : (k : ℕ) (c : Cause) → FirstBadIn leads causes (forest nodes) stack k c → FirstBad leads causes tree goal (steps + k) c
  pub counted : steps + steps_in_all (forest nodes) ≡ steps_in tree

false_not_true : false ≡ true → ⊥
false_not_true h = cc

and_parts : (a b : Bool) → (a && b) ≡ true → (a ≡ true) × (b ≡ true)
and_parts true b e = (refl, e)
and_parts false b e = absurd (false_not_true e)

bare_is_zero : (n : ℕ) → leaf_is_bare None n ≡ true → n ≡ 0
bare_is_zero n e = grind (arith, nat_tests)

-- ---- counts of trees

count_after : (k : ℕ) (ts : ProofTrees) → k ≤ count_trees ts → k + count_trees (after_trees k ts) ≡ count_trees ts
count_after zero ts le = omega arith
count_after (suc k) NoTrees le = absurd (omega arith)
count_after (suc k) (TreeThen t ts) le = let rest = count_after k ts (omega arith) in omega arith

count_first : (k : ℕ) (ts : ProofTrees) → k ≤ count_trees ts → count_trees (first_trees k ts) ≡ k
count_first zero ts le = refl
count_first (suc k) NoTrees le = absurd (omega arith)
count_first (suc k) (TreeThen t ts) le = let rest = count_first k ts (omega arith) in omega arith

-- as many trees as there should be
forest_count : (k : ℕ) (ns : List PlainNode) → are_trees k ns ≡ true → count_trees (forest ns) ≡ k
unfolding are_trees forest
forest_count zero [] e = refl
forest_count (suc k) [] e = absurd (false_not_true e)
forest_count zero (n ∷ ns) e = absurd (false_not_true e)
forest_count (suc k) (n ∷ ns) e =
    let parts = and_parts (leaf_is_bare n.step n.children) (are_trees (k + n.children) ns) e in
    let all = forest_count (k + n.children) ns parts.1 in
    let left = count_after n.children (forest ns) (omega arith) in
    omega arith

steps_split : (k : ℕ) (ts : ProofTrees) → steps_in_all ts ≡ steps_in_all (first_trees k ts) + steps_in_all (after_trees k ts)
steps_split zero ts = omega arith
steps_split (suc k) NoTrees = refl
steps_split (suc k) (TreeThen t ts) = let rest = steps_split k ts in omega arith

-- ---- the start

head_steps : (ts : ProofTrees) → count_trees ts ≡ 1 → steps_in_all ts ≡ steps_in (head_tree ts)
head_steps NoTrees e = absurd (omega arith)
head_steps (TreeThen t NoTrees) e = omega arith
head_steps (TreeThen t (TreeThen u us)) e = absurd (omega arith)

pub going_start : (leads : PlainSequent → PlainStep → List PlainSequent → Type 0) (causes : PlainSequent → PlainStep → ℕ → Type 0) (accepts : PlainSequent → Type 0) (nodes : List PlainNode) (s : PlainSequent) → accepts s → are_trees 1 nodes ≡ true → Going leads causes accepts (tree_of nodes) s nodes (s ∷ []) [] 0
going_start leads causes accepts nodes s ok fits =
    record {
      fits = fits;
      taken = (ok, tt);
      goes = λ rest d. one leads (forest nodes) s rest d;
      breaks = λ k c b. subst (λ m. FirstBad leads causes (tree_of nodes) s m c) (sym (zero-add k)) (head_bad leads causes (forest nodes) s k c b);
      counted = let h = head_steps (forest nodes) (forest_count 1 nodes fits) in omega arith;
    }
  where
    one : (leads : PlainSequent → PlainStep → List PlainSequent → Type 0) (ts : ProofTrees) (s : PlainSequent) (rest : List PlainSequent) → DeriveAll leads ts (s ∷ []) rest → Derives leads (head_tree ts) s rest
    one leads NoTrees s rest d = absurd d
    one leads (TreeThen t NoTrees) s rest d =
        subst (Derives leads t s) (sym (d.4 ∙ ap (λ l. d.0 ++ l) d.3 ∙ append-nil d.0)) d.2
    one leads (TreeThen t (TreeThen u us)) s rest d = absurd d.3

    head_bad : (leads : PlainSequent → PlainStep → List PlainSequent → Type 0) (causes : PlainSequent → PlainStep → ℕ → Type 0) (ts : ProofTrees) (s : PlainSequent) (k : ℕ) (c : Cause) → FirstBadIn leads causes ts (s ∷ []) k c → FirstBad leads causes (head_tree ts) s k c
    head_bad leads causes NoTrees s k c b = absurd b
    head_bad leads causes (TreeThen t ts) s k c (inl b) = b
    head_bad leads causes (TreeThen t NoTrees) s k c (inr b) = absurd b.4
    head_bad leads causes (TreeThen t (TreeThen u us)) s k c (inr b) = absurd b.4

pub going_some : (leads : PlainSequent → PlainStep → List PlainSequent → Type 0) (causes : PlainSequent → PlainStep → ℕ → Type 0) (accepts : PlainSequent → Type 0) (tree : ProofTree) (goal : PlainSequent) (n : PlainNode) (ns : List PlainNode) (found : List PlainSequent) (steps : ℕ) → Going leads causes accepts tree goal (n ∷ ns) [] found steps → ⊥
unfolding are_trees
going_some leads causes accepts tree goal n ns found steps g = false_not_true g.fits

-- ---- an open leaf

pub going_open : (leads : PlainSequent → PlainStep → List PlainSequent → Type 0) (causes : PlainSequent → PlainStep → ℕ → Type 0) (accepts : PlainSequent → Type 0) (tree : ProofTree) (goal : PlainSequent) (n : PlainNode) (ns : List PlainNode) (s : PlainSequent) (stack found : List PlainSequent) (steps : ℕ) → n.step ≡ None → Going leads causes accepts tree goal (n ∷ ns) (s ∷ stack) found steps → Going leads causes accepts tree goal ns stack (found ++ s ∷ []) steps
unfolding are_trees forest
going_open leads causes accepts tree goal n ns s stack found steps none g =
    let parts = and_parts (leaf_is_bare n.step n.children) (are_trees (length stack + n.children) ns) g.fits in
    let bare : n.children ≡ 0 = bare_is_zero n.children (subst (λ o. leaf_is_bare o n.children ≡ true) none parts.0) in
    let same : length stack + n.children ≡ length stack = omega arith in
    record {
      fits = subst (λ k. are_trees k ns ≡ true) same parts.1;
      taken = g.taken.1;
      goes = λ rest d.
          subst (Derives leads tree goal) (sym (append_assoc found (s ∷ []) rest)) (g.goes (s ∷ rest) (leaf leads n.step n.children (forest ns) s stack rest none bare d));
      breaks = λ k c b. g.breaks k c (leaf_bad leads causes n.step n.children (forest ns) s stack k c none bare b);
      counted = leaf_steps n.step n.children (forest ns) steps (steps_in tree) none bare g.counted;
    }
  where
    none_not_some : {p : PlainStep} → None ≡ Some p → ⊥
    none_not_some h = cc

    leaf : (leads : PlainSequent → PlainStep → List PlainSequent → Type 0) (o : Option PlainStep) (k : ℕ) (ts : ProofTrees) (s : PlainSequent) (stack rest : List PlainSequent) → o ≡ None → k ≡ 0 → DeriveAll leads ts stack rest → DeriveAll leads (TreeThen (tree_at o (first_trees k ts)) (after_trees k ts)) (s ∷ stack) (s ∷ rest)
    leaf leads None zero ts s stack rest e z d = (s ∷ [], rest, refl, d, refl)
    leaf leads None (suc k) ts s stack rest e z d = absurd (omega arith)
    leaf leads (Some p) k ts s stack rest e z d = absurd (none_not_some (sym e))

    leaf_bad : (leads : PlainSequent → PlainStep → List PlainSequent → Type 0) (causes : PlainSequent → PlainStep → ℕ → Type 0) (o : Option PlainStep) (k : ℕ) (ts : ProofTrees) (s : PlainSequent) (stack : List PlainSequent) (j : ℕ) (c : Cause) → o ≡ None → k ≡ 0 → FirstBadIn leads causes ts stack j c → FirstBadIn leads causes (TreeThen (tree_at o (first_trees k ts)) (after_trees k ts)) (s ∷ stack) j c
    leaf_bad leads causes None zero ts s stack j c e z b = inr (s ∷ [], refl, j, sym (zero-add j), b)
    leaf_bad leads causes None (suc k) ts s stack j c e z b = absurd (omega arith)
    leaf_bad leads causes (Some p) k ts s stack j c e z b = absurd (none_not_some (sym e))

    leaf_steps : (o : Option PlainStep) (k : ℕ) (ts : ProofTrees) (steps all : ℕ) → o ≡ None → k ≡ 0 → steps + steps_in_all (TreeThen (tree_at o (first_trees k ts)) (after_trees k ts)) ≡ all → steps + steps_in_all ts ≡ all
    leaf_steps None zero ts steps all e z c = omega arith
    leaf_steps None (suc k) ts steps all e z c = absurd (omega arith)
    leaf_steps (Some p) k ts steps all e z c = absurd (none_not_some (sym e))

-- ---- a step

-- deriving a list of sequents is deriving its front by as many trees, and then the others
split : (leads : PlainSequent → PlainStep → List PlainSequent → Type 0) (ts : ProofTrees) (ps stack rest : List PlainSequent) → DeriveAll leads ts (ps ++ stack) rest → (here : List PlainSequent) × (there : List PlainSequent) × DeriveAll leads (first_trees (length ps) ts) ps here × DeriveAll leads (after_trees (length ps) ts) stack there × (rest ≡ here ++ there)
split leads ts [] stack rest d = ([], rest, refl, d, refl)
split leads NoTrees (p ∷ ps) stack rest d = absurd d
split leads (TreeThen t ts) (p ∷ ps) stack rest d =
    let more = split leads ts ps stack d.1 d.3 in
    (d.0 ++ more.0, more.1, (d.0, more.0, d.2, more.2, refl), more.3, d.4 ∙ ap (λ l. d.0 ++ l) more.4 ∙ sym (append_assoc d.0 more.0 more.1))

-- the first bad step is in the trees in front, or those derive what they stand for and it is in the trees behind
abbrev InFrontOrBehind : (leads : PlainSequent → PlainStep → List PlainSequent → Type 0) (causes : PlainSequent → PlainStep → ℕ → Type 0) (front back : ProofTrees) (ps stack : List PlainSequent) (k : ℕ) (c : Cause) → Type 0
InFrontOrBehind leads causes front back ps stack k c =
    FirstBadIn leads causes front ps k c
    ⊎ ((goals : List PlainSequent) × DeriveAll leads front ps goals × (j : ℕ) × (k ≡ steps_in_all front + j) × FirstBadIn leads causes back stack j c)

one_more_in_front : (leads : PlainSequent → PlainStep → List PlainSequent → Type 0) (causes : PlainSequent → PlainStep → ℕ → Type 0) (t : ProofTree) (front back : ProofTrees) (p : PlainSequent) (ps stack : List PlainSequent) (k j : ℕ) (c : Cause) (goals : List PlainSequent) → Derives leads t p goals → k ≡ steps_in t + j → InFrontOrBehind leads causes front back ps stack j c → InFrontOrBehind leads causes (TreeThen t front) back (p ∷ ps) stack k c
one_more_in_front leads causes t front back p ps stack k j c goals d e (inl b) = inl (inr (goals, d, j, e, b))
one_more_in_front leads causes t front back p ps stack k j c goals d e (inr b) = inr (goals ++ b.0, (goals, b.0, d, b.1, refl), b.2, omega (arith, e, b.3), b.4)

split_bad : (leads : PlainSequent → PlainStep → List PlainSequent → Type 0) (causes : PlainSequent → PlainStep → ℕ → Type 0) (ts : ProofTrees) (ps stack : List PlainSequent) (k : ℕ) (c : Cause) → FirstBadIn leads causes ts (ps ++ stack) k c → InFrontOrBehind leads causes (first_trees (length ps) ts) (after_trees (length ps) ts) ps stack k c
split_bad leads causes ts [] stack k c b = inr ([], refl, k, sym (zero-add k), b)
split_bad leads causes NoTrees (p ∷ ps) stack k c b = absurd b
split_bad leads causes (TreeThen t ts) (p ∷ ps) stack k c (inl b) = inl (inl b)
split_bad leads causes (TreeThen t ts) (p ∷ ps) stack k c (inr b) =
    one_more_in_front leads causes t (first_trees (length ps) ts) (after_trees (length ps) ts) p ps stack k b.2 c b.0 b.1 b.3 (split_bad leads causes ts ps stack b.2 c b.4)

-- below a step that leads to as many premises as it has children, the first bad step is one further behind
step_bad : (leads : PlainSequent → PlainStep → List PlainSequent → Type 0) (causes : PlainSequent → PlainStep → ℕ → Type 0) (p : PlainStep) (front back : ProofTrees) (s : PlainSequent) (ps stack : List PlainSequent) (k : ℕ) (c : Cause) → leads s p ps → count_trees front ≡ length ps → InFrontOrBehind leads causes front back ps stack k c → FirstBadIn leads causes (TreeThen (ByStep p front) back) (s ∷ stack) (k + 1) c
step_bad leads causes p front back s ps stack k c is count (inl b) = inl (inr (ps, is, count, k, refl, b))
step_bad leads causes p front back s ps stack k c is count (inr b) = inr (b.0, (ps, is, b.1), b.2, omega (arith, b.3), b.4)

each_append : (P : PlainSequent → Type 0) (ss ts : List PlainSequent) → Each P ss → Each P ts → Each P (ss ++ ts)
each_append P [] ts a b = b
each_append P (s ∷ ss) ts a b = (a.0, each_append P ss ts a.1 b)

pub each_of_all : (P : PlainSequent → Type 0) (ss : List PlainSequent) → All P ss → Each P ss
each_of_all P [] all = tt
each_of_all P (s ∷ ss) all = (all 0 s (omega arith), each_of_all P ss (λ k d lt. all (suc k) d (omega arith)))

-- what a tree that begins with a step derives is what its children derive from the step's premises
step_back : (leads : PlainSequent → PlainStep → List PlainSequent → Type 0) (o : Option PlainStep) (p : PlainStep) (k : ℕ) (ts : ProofTrees) (s : PlainSequent) (stack rest : List PlainSequent) → o ≡ Some p → DeriveAll leads (TreeThen (tree_at o (first_trees k ts)) (after_trees k ts)) (s ∷ stack) rest → (ps : List PlainSequent) × (here : List PlainSequent) × (there : List PlainSequent) × leads s p ps × DeriveAll leads (first_trees k ts) ps here × DeriveAll leads (after_trees k ts) stack there
step_back leads None p k ts s stack rest e d = absurd (no e)
  where
    no : None ≡ Some p → ⊥
    no h = cc
step_back leads (Some q) p k ts s stack rest e d =
    let same : q ≡ p = cc in
    (d.2.0, d.0, d.1, subst (λ r. leads s r d.2.0) same d.2.1, d.2.2, d.3)

pub going_step : (leads : PlainSequent → PlainStep → List PlainSequent → Type 0) (causes : PlainSequent → PlainStep → ℕ → Type 0) (accepts : PlainSequent → Type 0) (tree : ProofTree) (goal : PlainSequent) (n : PlainNode) (ns : List PlainNode) (p : PlainStep) (s : PlainSequent) (ps stack found : List PlainSequent) (steps : ℕ) → n.step ≡ Some p → leads s p ps → Each accepts ps → length ps ≡ n.children → Going leads causes accepts tree goal (n ∷ ns) (s ∷ stack) found steps → Going leads causes accepts tree goal ns (ps ++ stack) found (steps + 1)
unfolding are_trees forest
going_step leads causes accepts tree goal n ns p s ps stack found steps some is ok len g =
    let parts = and_parts (leaf_is_bare n.step n.children) (are_trees (length stack + n.children) ns) g.fits in
    let same : length stack + n.children ≡ length (ps ++ stack) = omega (arith, length-append ps stack) in
    record {
      fits = subst (λ k. are_trees k ns ≡ true) same parts.1;
      taken = each_append accepts ps stack ok g.taken.1;
      goes = λ rest d.
          let w = split leads (forest ns) ps stack rest d in
          g.goes rest (w.0, w.1, subst (λ o. Derives leads (tree_at o (first_trees n.children (forest ns))) s w.0) (sym some) (ps, is, subst (λ k. DeriveAll leads (first_trees k (forest ns)) ps w.0) len w.2), subst (λ k. DeriveAll leads (after_trees k (forest ns)) stack w.1) len w.3, w.4);
      breaks = λ k c b.
          let all = forest_count (length stack + n.children) ns parts.1 in
          let parted = subst (λ m. InFrontOrBehind leads causes (first_trees m (forest ns)) (after_trees m (forest ns)) ps stack k c) len (split_bad leads causes (forest ns) ps stack k c b) in
          let below = step_bad leads causes p (first_trees n.children (forest ns)) (after_trees n.children (forest ns)) s ps stack k c is (count_first n.children (forest ns) (omega arith) ∙ sym len) parted in
          let behind : steps + (k + 1) ≡ steps + 1 + k = omega arith in
          subst (λ m. FirstBad leads causes tree goal m c) behind (g.breaks (k + 1) c (subst (λ o. FirstBadIn leads causes (TreeThen (tree_at o (first_trees n.children (forest ns))) (after_trees n.children (forest ns))) (s ∷ stack) (k + 1) c) (sym some) below));
      counted = step_steps n.step p n.children (forest ns) steps (steps_in tree) some g.counted;
    }
  where
    step_steps : (o : Option PlainStep) (p : PlainStep) (k : ℕ) (ts : ProofTrees) (steps all : ℕ) → o ≡ Some p → steps + steps_in_all (TreeThen (tree_at o (first_trees k ts)) (after_trees k ts)) ≡ all → steps + 1 + steps_in_all ts ≡ all
    step_steps None p k ts steps all e c = absurd (no e)
      where
        no : None ≡ Some p → ⊥
        no h = cc
    step_steps (Some q) p k ts steps all e c = let parts = steps_split k ts in omega arith

-- ---- a step that breaks the derivation, and the end

pub going_broken : (leads : PlainSequent → PlainStep → List PlainSequent → Type 0) (causes : PlainSequent → PlainStep → ℕ → Type 0) (accepts : PlainSequent → Type 0) (tree : ProofTree) (goal : PlainSequent) (n : PlainNode) (ns : List PlainNode) (p : PlainStep) (s : PlainSequent) (stack found : List PlainSequent) (steps : ℕ) (c : Cause) → n.step ≡ Some p → Breaks leads causes s p n.children c → Going leads causes accepts tree goal (n ∷ ns) (s ∷ stack) found steps → FirstBad leads causes tree goal (steps + 1) c
unfolding are_trees forest
going_broken leads causes accepts tree goal n ns p s stack found steps c some b g =
    let parts = and_parts (leaf_is_bare n.step n.children) (are_trees (length stack + n.children) ns) g.fits in
    let all = forest_count (length stack + n.children) ns parts.1 in
    let first = count_first n.children (forest ns) (omega arith) in
    let here : FirstBadIn leads causes (TreeThen (ByStep p (first_trees n.children (forest ns))) (after_trees n.children (forest ns))) (s ∷ stack) 1 c = inl (inl (refl, subst (λ k. Breaks leads causes s p k c) (sym first) b)) in
    g.breaks 1 c (subst (λ o. FirstBadIn leads causes (TreeThen (tree_at o (first_trees n.children (forest ns))) (after_trees n.children (forest ns))) (s ∷ stack) 1 c) (sym some) here)

pub going_done : (leads : PlainSequent → PlainStep → List PlainSequent → Type 0) (causes : PlainSequent → PlainStep → ℕ → Type 0) (accepts : PlainSequent → Type 0) (tree : ProofTree) (goal : PlainSequent) (stack found : List PlainSequent) (steps : ℕ) → Going leads causes accepts tree goal [] stack found steps → Derives leads tree goal found × (steps_in tree ≡ steps)
unfolding are_trees forest
going_done leads causes accepts tree goal [] found steps g = (subst (Derives leads tree goal) (append-nil found) (g.goes [] refl), omega (arith, g.counted))
going_done leads causes accepts tree goal (s ∷ stack) found steps g = absurd (false_not_true g.fits)
