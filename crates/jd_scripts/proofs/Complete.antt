-- The tokens of a file within the limits are read as that file.
use Rattle.std.proofs.Common.{◌≡◌, ℕ, suc, ◌+◌, ◌<◌, ◌≤◌, Bool, true, false, not, ◌||◌, ◌&&◌, cond, List, [], ◌∷◌, ◌++◌, length, map, Option, Some, Result, Ok, Err, refl, sym, ap, subst, ◌∙◌, append_assoc, zero-add, add-zero, arith, bytes_eq}
use Rattle.std.specs.Prelude.{option_map, codes, ◌==◌}
use Rattle.std.specs.List.{All, list_any}
use Rattle.std.proofs.lemmas.Bool.{lt-ltb, eq-eqb}
use Rattle.std.proofs.lemmas.List.{append-nil, map-append}
use Rattle.std.proofs.lemmas.List.Elements.{All-head, All-tail}
use Rattle.jd_syntax.specs.Sxs.{Bracketed}
use Rattle.jd_bracketed.specs.Tokens.{TokenKind, Open, Close, OpenSquare, CloseSquare, Word, Bad}
use Rattle.jd_bracketed.specs.Trees as brackets
use Rattle.jd_bracketed.specs.Readings as readings
use Rattle.jd_bracketed.proofs.Runs as bracket_runs
use Rattle.jd_model.specs.Sequents.{PlainPlace}
use Rattle.jd_sequent.specs.Trees.{PlainStep, PlainNode, ProofTree, OpenLeaf, ByStep, ProofTrees, NoTrees, TreeThen, count_trees, preorder, preorder_all, steps_in, steps_in_all, tree_of}
use Rattle.jd_sequent.proofs.Preorder.{are_trees-preorder, tree_of-preorder}
use Rattle.jd_scripts.specs.Places.{IsPlace, IsIndex, decimal}
use Rattle.jd_scripts.specs.Scripts.{PlainProof, ScriptFile, Inst, Limits, StepFits, TreeFits, TreesFit, ProofFits, AreDistinct, FileFits, names_of, spell_place, spell_insts, spell_step, spell_tree, spell_trees, spell_proof, spell_proofs, spell_file}
use Rattle.jd_scripts.specs.Answers.{Steps, Names, Version}
use Rattle.jd_scripts.specs.Machine.{State, FileNext, WordNext, VersionNext, ProofNext, ProofWord, NameNext, InProof, FileEnd, Part, TreeNext, RuleNext, PlaceNext, AssumesNext, AssumedNext, InstsNext, InstNext, InstName, InstBody, TreeEnd, Context, Wrong, Goes, GoesIf, Fault, Over, StepBehind, NameBehind, step_at, with_assumed, with_inst, goes_part, of_version, new_node, grown, counted, after_tree, one_child_more, decide, step, run}
use Rattle.jd_scripts.proofs.PlaceText.{reads_place, number_read}
use Rattle.jd_scripts.proofs.Runs.{on, run-append, mapped, in_body_is, more_at, length-counted}
use Rattle.jd_scripts.proofs.NewNames.{is_new}

-- ---- the parts of a step

module _ (l : Limits) (c : Context) (ns : List PlainNode) (os : List ℕ) (k : ℕ) where
  abbrev at : Part → State
  at q = InProof c q ns os k

  abbrev with_assumes : PlainStep → List (Option PlainPlace) → PlainStep
  with_assumes p qs = record { rule = p.rule; place = p.place; assumes = qs; insts = p.insts }

  abbrev with_insts : PlainStep → List Inst → PlainStep
  with_insts p is = record { rule = p.rule; place = p.place; assumes = p.assumes; insts = is }

  reads_assumes : (qs : List (Option PlainPlace)) (p : PlainStep) (more : List TokenKind) → All IsPlace qs
      → run l (map spell_place qs ++ more) (at (AssumedNext p)) ≡ run l more (at (AssumedNext (with_assumes p (p.assumes ++ qs))))
  reads_assumes [] p more all = ap (λ qs. run l more (at (AssumedNext (with_assumes p qs)))) (sym (append-nil p.assumes))
  reads_assumes (q ∷ qs) p more all =
      on l (spell_place q) (map spell_place qs ++ more) (at (AssumedNext p)) (at (AssumedNext (with_assumed p q)))
      (ap (λ o. decide l (goes_part c ns os k (option_map (λ q. AssumedNext (with_assumed p q)) o))) (reads_place q (All-head IsPlace q qs all)))
      ∙ (reads_assumes qs (with_assumed p q) more (All-tail IsPlace q qs all)
      ∙ ap (λ qs. run l more (at (AssumedNext (with_assumes p qs)))) (append_assoc p.assumes (q ∷ []) qs))

  not_whole : (p : PlainStep) (n : List ℕ) (x : Bracketed) (t : TokenKind) (m : readings.State) → readings.step l.levels (readings.Whole x) t ≡ Ok m → ⊥
  not_whole p n x Open m e = absurd cc
  not_whole p n x Close m e = absurd cc
  not_whole p n x OpenSquare m e = absurd cc
  not_whole p n x CloseSquare m e = absurd cc
  not_whole p n x (Word w) m e = absurd cc
  not_whole p n x Bad m e = absurd cc

  body_step : (p : PlainStep) (n : List ℕ) (x : readings.State) (t : TokenKind) (m : readings.State) → readings.step l.levels x t ≡ Ok m → step l (at (InstBody p n x)) t ≡ Ok (at (InstBody p n m))
  body_step p n readings.Before t m e = in_body_is l (λ x. at (InstBody p n x)) readings.Before t ∙ ap (mapped (λ x. at (InstBody p n x))) e
  body_step p n (readings.Inside xs around) t m e = in_body_is l (λ x. at (InstBody p n x)) (readings.Inside xs around) t ∙ ap (mapped (λ x. at (InstBody p n x))) e
  body_step p n (readings.Whole x) t m e = absurd (not_whole p n x t m e)

  reads_body : (p : PlainStep) (n : List ℕ) (es : List TokenKind) (x y : readings.State) (more : List TokenKind) → readings.run l.levels es x ≡ Ok y
      → run l (es ++ more) (at (InstBody p n x)) ≡ run l more (at (InstBody p n y))
  unfolding readings.run
  reads_body p n [] x y more e = let same : x ≡ y = cc in ap (λ z. run l more (at (InstBody p n z))) same
  reads_body p n (t ∷ es) x y more e =
      let g = bracket_runs.ran (readings.run l.levels es) (readings.step l.levels x t) y e in
      on l t (es ++ more) (at (InstBody p n x)) (at (InstBody p n g.0)) (body_step p n x t g.0 g.1) ∙ reads_body p n es g.0 y more g.2

  reads_insts : (is : List Inst) (p : PlainStep) (more : List TokenKind) → All (λ (i : Inst). brackets.depth i.1 ≤ l.levels) is
      → run l (spell_insts is ++ more) (at (InstNext p)) ≡ run l more (at (InstNext (with_insts p (p.insts ++ is))))
  reads_insts [] p more all = ap (λ is. run l more (at (InstNext (with_insts p is)))) (sym (append-nil p.insts))
  reads_insts (i ∷ is) p more all =
      let rest : List TokenKind = spell_insts is ++ more in
      let body : List TokenKind = (brackets.spell i.1 ++ Close ∷ spell_insts is) ++ more in
      on l Open (Word i.0 ∷ body) (at (InstNext p)) (at (InstName p)) refl
      ∙ (on l (Word i.0) body (at (InstName p)) (at (InstBody p i.0 readings.Before)) refl
      ∙ (ap (λ ts. run l ts (at (InstBody p i.0 readings.Before))) (append_assoc (brackets.spell i.1) (Close ∷ spell_insts is) more)
      ∙ (reads_body p i.0 (brackets.spell i.1) readings.Before (readings.Whole i.1) (Close ∷ rest) (bracket_runs.read_whole l.levels (brackets.spell i.1) i.1 refl (All-head (λ (i : Inst). brackets.depth i.1 ≤ l.levels) i is all))
      ∙ (on l Close rest (at (InstBody p i.0 (readings.Whole i.1))) (at (InstNext (with_inst p i.0 i.1))) refl
      ∙ (reads_insts is (with_inst p i.0 i.1) more (All-tail (λ (i : Inst). brackets.depth i.1 ≤ l.levels) i is all)
      ∙ ap (λ is. run l more (at (InstNext (with_insts p is)))) (append_assoc p.insts (i ∷ []) is))))))

one_more_step : (l : Limits) (k : ℕ) (s : State) → k < l.steps → decide l (GoesIf (StepBehind k) s) ≡ Ok s
one_more_step l k s lt = ap (λ b. cond b (let r : Result State Fault = Ok s in r) (Err (Over Steps))) (lt-ltb k l.steps lt)

reads_step : (l : Limits) (c : Context) (p : PlainStep) (ns : List PlainNode) (os : List ℕ) (k : ℕ) → StepFits l.levels p → k < l.steps
    → run l (spell_step p) (InProof c TreeNext ns os k) ≡ Ok (InProof c TreeNext (grown ns os (new_node p)) (length ns ∷ os) (suc k))
unfolding run
reads_step l c p ns os k h lt =
    let fourth : List TokenKind = spell_insts p.insts ++ CloseSquare ∷ [] in
    let third : List TokenKind = map spell_place p.assumes ++ CloseSquare ∷ OpenSquare ∷ fourth in
    let second : List TokenKind = OpenSquare ∷ third in
    let first : List TokenKind = spell_place p.place ∷ second in
    let begun : PlainStep = step_at p.rule p.place in
    let named : PlainStep = record { rule = p.rule; place = p.place; assumes = p.assumes; insts = [] } in
    on l Open (Word p.rule ∷ first) (InProof c TreeNext ns os k) (InProof c RuleNext ns os (suc k)) (one_more_step l k (InProof c RuleNext ns os (suc k)) lt)
    ∙ (on l (Word p.rule) first (InProof c RuleNext ns os (suc k)) (InProof c (PlaceNext p.rule) ns os (suc k)) refl
    ∙ (on l (spell_place p.place) second (InProof c (PlaceNext p.rule) ns os (suc k)) (InProof c (AssumesNext begun) ns os (suc k))
    (ap (λ o. decide l (goes_part c ns os (suc k) (option_map (λ q. AssumesNext (step_at p.rule q)) o))) (reads_place p.place h.place))
    ∙ (on l OpenSquare third (InProof c (AssumesNext begun) ns os (suc k)) (InProof c (AssumedNext begun) ns os (suc k)) refl
    ∙ (reads_assumes l c ns os (suc k) p.assumes begun (CloseSquare ∷ OpenSquare ∷ fourth) h.assumes
    ∙ (on l CloseSquare (OpenSquare ∷ fourth) (InProof c (AssumedNext named) ns os (suc k)) (InProof c (InstsNext named) ns os (suc k)) refl
    ∙ (on l OpenSquare fourth (InProof c (InstsNext named) ns os (suc k)) (InProof c (InstNext named) ns os (suc k)) refl
    ∙ reads_insts l c ns os (suc k) p.insts named (CloseSquare ∷ []) h.insts))))))

-- ---- trees

abbrev pub whole_at : Context → List PlainNode → List ℕ → ℕ → ProofTree → State
whole_at c ns os k t = InProof c (after_tree os) (counted ns os ++ preorder t) os (k + steps_in t)

abbrev with_count : Option PlainStep → ℕ → PlainNode
with_count s n = record { step = s; children = n }

closes : (l : Limits) (c : Context) (ns : List PlainNode) (o : ℕ) (os : List ℕ) (k : ℕ) → run l (Close ∷ []) (InProof c TreeNext ns (o ∷ os) k) ≡ Ok (InProof c (after_tree os) ns os k)
unfolding run
closes l c ns o os k = refl

mutual
  unfolding run

  pub reads : (t : ProofTree) (l : Limits) (c : Context) (ns : List PlainNode) (os : List ℕ) (k : ℕ) → TreeFits l.levels t → k + steps_in t ≤ l.steps
      → run l (spell_tree t) (InProof c TreeNext ns os k) ≡ Ok (whole_at c ns os k t)
  reads OpenLeaf l c ns os k h le = ap (λ n. Ok (InProof c (after_tree os) (counted ns os ++ preorder OpenLeaf) os n)) (sym (add-zero k))
  reads (ByStep p ts) l c ns os k h le =
      let pre = counted ns os in
      let whole : List PlainNode = pre ++ with_count (Some p) (0 + count_trees ts) ∷ ([] ++ preorder_all ts) in
      let sum : suc k + steps_in_all ts ≡ k + (1 + steps_in_all ts) = omega arith in
      run-append l (spell_step p) (spell_trees ts ++ Close ∷ []) (InProof c TreeNext ns os k) (InProof c TreeNext (grown ns os (new_node p)) (length ns ∷ os) (suc k)) (reads_step l c p ns os k h.0 (omega arith))
      ∙ (run-append l (spell_trees ts) (Close ∷ []) (InProof c TreeNext (pre ++ with_count (Some p) 0 ∷ []) (length ns ∷ os) (suc k)) (InProof c TreeNext whole (length ns ∷ os) (suc k + steps_in_all ts))
      (reads_all ts l c pre (Some p) 0 [] (length ns) os (suc k) (sym (length-counted ns os)) h.1 (omega arith))
      ∙ (closes l c whole (length ns) os (suc k + steps_in_all ts)
      ∙ (ap (λ n. Ok (InProof c (after_tree os) (pre ++ with_count (Some p) n ∷ preorder_all ts) os (suc k + steps_in_all ts))) (zero-add (count_trees ts))
      ∙ ap (λ n. Ok (InProof c (after_tree os) (pre ++ with_count (Some p) (count_trees ts) ∷ preorder_all ts) os n)) sum)))

  reads_all : (ts : ProofTrees) (l : Limits) (c : Context) (pre : List PlainNode) (s : Option PlainStep) (n : ℕ) (post : List PlainNode) (o : ℕ) (os : List ℕ) (k : ℕ) → o ≡ length pre → TreesFit l.levels ts → k + steps_in_all ts ≤ l.steps
      → run l (spell_trees ts) (InProof c TreeNext (pre ++ with_count s n ∷ post) (o ∷ os) k) ≡ Ok (InProof c TreeNext (pre ++ with_count s (n + count_trees ts) ∷ (post ++ preorder_all ts)) (o ∷ os) (k + steps_in_all ts))
  reads_all NoTrees l c pre s n post o os k e h le =
      ap (λ m. Ok (InProof c TreeNext (pre ++ with_count s m ∷ post) (o ∷ os) k)) (sym (add-zero n))
      ∙ (ap (λ xs. Ok (InProof c TreeNext (pre ++ with_count s (n + 0) ∷ xs) (o ∷ os) k)) (sym (append-nil post))
      ∙ ap (λ m. Ok (InProof c TreeNext (pre ++ with_count s (n + 0) ∷ (post ++ [])) (o ∷ os) m)) (sym (add-zero k)))
  reads_all (TreeThen t ts) l c pre s n post o os k e h le =
      let ns = pre ++ with_count s n ∷ post in
      let nodes : one_child_more o ns ++ preorder t ≡ pre ++ with_count s (n + 1) ∷ (post ++ preorder t) =
      ap (λ xs. xs ++ preorder t) (more_at o pre (with_count s n) post e) ∙ append_assoc pre (with_count s (n + 1) ∷ post) (preorder t) in
      let count : (n + 1) + count_trees ts ≡ n + (count_trees ts + 1) = omega arith in
      let sum : (k + steps_in t) + steps_in_all ts ≡ k + (steps_in t + steps_in_all ts) = omega arith in
      run-append l (spell_tree t) (spell_trees ts) (InProof c TreeNext ns (o ∷ os) k) (whole_at c ns (o ∷ os) k t) (reads t l c ns (o ∷ os) k h.0 (omega arith))
      ∙ (ap (λ xs. run l (spell_trees ts) (InProof c TreeNext xs (o ∷ os) (k + steps_in t))) nodes
      ∙ (reads_all ts l c pre s (n + 1) (post ++ preorder t) o os (k + steps_in t) e h.1 (omega arith)
      ∙ (ap (λ m. Ok (InProof c TreeNext (pre ++ with_count s m ∷ ((post ++ preorder t) ++ preorder_all ts)) (o ∷ os) ((k + steps_in t) + steps_in_all ts))) count
      ∙ (ap (λ xs. Ok (InProof c TreeNext (pre ++ with_count s (n + (count_trees ts + 1)) ∷ xs) (o ∷ os) ((k + steps_in t) + steps_in_all ts))) (append_assoc post (preorder t) (preorder_all ts))
      ∙ ap (λ m. Ok (InProof c TreeNext (pre ++ with_count s (n + (count_trees ts + 1)) ∷ (post ++ (preorder t ++ preorder_all ts))) (o ∷ os) m)) sum))))

-- ---- proofs

name_passes : (distinct : Bool) (front behind : List (List ℕ)) (name : List ℕ) → (distinct ≡ true → AreDistinct (front ++ name ∷ behind)) → not (distinct && list_any (bytes_eq name) front) ≡ true
name_passes false front behind name h = refl
name_passes true front behind name h = ap not (is_new front behind name (h refl))

new_name : (l : Limits) (v : ℕ) (done ps : List PlainProof) (p : PlainProof) → (l.distinct ≡ true → AreDistinct (names_of (done ++ p ∷ ps))) → (s : State)
    → decide l (GoesIf (NameBehind p.name (names_of done)) s) ≡ Ok s
new_name l v done ps p h s =
    ap (λ b. cond b (let r : Result State Fault = Ok s in r) (Err (Over Names)))
    (name_passes l.distinct (names_of done) (names_of ps) p.name (λ e. subst AreDistinct (map-append (λ (q : PlainProof). q.name) done (p ∷ ps)) (h e)))

abbrev only_tree : Context → ProofTree → State
only_tree c t = InProof c TreeEnd (preorder t) [] (0 + steps_in t)

proof_ends : (l : Limits) (c : Context) (t : ProofTree) → step l (only_tree c t) Close ≡ Ok (ProofNext c.version (c.done ++ record { name = c.name; tree = t } ∷ []))
proof_ends l c t =
    ap (λ b. decide l (cond b (Goes (ProofNext c.version (c.done ++ record { name = c.name; tree = tree_of (preorder t) } ∷ []))) Wrong)) (are_trees-preorder t)
    ∙ ap (λ u. Ok (ProofNext c.version (c.done ++ record { name = c.name; tree = u } ∷ []))) (tree_of-preorder t)

reads_proof : (l : Limits) (v : ℕ) (done ps : List PlainProof) (p : PlainProof) → ProofFits l p → (l.distinct ≡ true → AreDistinct (names_of (done ++ p ∷ ps)))
    → run l (spell_proof p) (ProofNext v done) ≡ Ok (ProofNext v (done ++ p ∷ []))
unfolding run
reads_proof l v done ps p h distinct =
    let c : Context = record { version = v; done = done; name = p.name } in
    let le : 0 + steps_in p.tree ≤ l.steps = let few = h.steps in omega (arith, few) in
    let tree : List TokenKind = spell_tree p.tree ++ Close ∷ [] in
    on l Open (Word (codes "proof") ∷ Word p.name ∷ tree) (ProofNext v done) (ProofWord v done) refl
    ∙ (on l (Word (codes "proof")) (Word p.name ∷ tree) (ProofWord v done) (NameNext v done) refl
    ∙ (on l (Word p.name) tree (NameNext v done) (InProof c TreeNext [] [] 0) (new_name l v done ps p distinct (InProof c TreeNext [] [] 0))
    ∙ (run-append l (spell_tree p.tree) (Close ∷ []) (InProof c TreeNext [] [] 0) (only_tree c p.tree) (reads p.tree l c [] [] 0 h.tree le)
    ∙ on l Close [] (only_tree c p.tree) (ProofNext v (done ++ p ∷ [])) (proof_ends l c p.tree))))

reads_proofs : (ps : List PlainProof) (l : Limits) (v : ℕ) (done : List PlainProof) → All (ProofFits l) ps → (l.distinct ≡ true → AreDistinct (names_of (done ++ ps)))
    → run l (spell_proofs ps) (ProofNext v done) ≡ Ok (ProofNext v (done ++ ps))
unfolding run
reads_proofs [] l v done all distinct = ap (λ ps. Ok (ProofNext v ps)) (sym (append-nil done))
reads_proofs (p ∷ ps) l v done all distinct =
    run-append l (spell_proof p) (spell_proofs ps) (ProofNext v done) (ProofNext v (done ++ p ∷ [])) (reads_proof l v done ps p (All-head (ProofFits l) p ps all) distinct)
    ∙ (reads_proofs ps l v (done ++ p ∷ []) (All-tail (ProofFits l) p ps all) (λ e. subst (λ qs. AreDistinct (names_of qs)) (sym (append_assoc done (p ∷ []) ps)) (distinct e))
    ∙ ap (λ ps. Ok (ProofNext v ps)) (append_assoc done (p ∷ []) ps))

-- ---- the file

version_passes : (one : Bool) (n : ℕ) → (one ≡ true → n ≡ 1) → (not one || (n == 1)) ≡ true
version_passes false n h = refl
version_passes true n h = eq-eqb n 1 (h refl)

reads_version : (l : Limits) (n : ℕ) → IsIndex n → (l.one_version ≡ true → n ≡ 1) → step l VersionNext (Word (decimal n)) ≡ Ok (ProofNext n [])
reads_version l n h one =
    ap (λ o. decide l (of_version o)) (number_read n h)
    ∙ ap (λ b. cond b (let r : Result State Fault = Ok (ProofNext n []) in r) (Err (Over Version))) (version_passes l.one_version n one)

pub reads_file : (l : Limits) (f : ScriptFile) → FileFits l f → run l (spell_file f) FileNext ≡ Ok (FileEnd f.version f.proofs)
unfolding run
reads_file l f h =
    let proofs : List TokenKind = spell_proofs f.proofs ++ Close ∷ [] in
    on l Open (Word (codes "jdl") ∷ Word (decimal f.version) ∷ proofs) FileNext WordNext refl
    ∙ (on l (Word (codes "jdl")) (Word (decimal f.version) ∷ proofs) WordNext VersionNext refl
    ∙ (on l (Word (decimal f.version)) proofs VersionNext (ProofNext f.version []) (reads_version l f.version h.number h.version)
    ∙ (run-append l (spell_proofs f.proofs) (Close ∷ []) (ProofNext f.version []) (ProofNext f.version f.proofs) (reads_proofs f.proofs l f.version [] h.proofs h.names)
    ∙ on l Close [] (ProofNext f.version f.proofs) (FileEnd f.version f.proofs) refl)))
