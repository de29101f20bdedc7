-- What led to a state begins a file within the limits.
use Rattle.std.proofs.Common.{◌≡◌, ℕ, zero, suc, ◌+◌, ◌<◌, ◌≤◌, true, List, [], ◌∷◌, ◌++◌, length, map, slice_index_or, None, refl, sym, ap, subst, ◌∙◌, append_assoc, arith, lit≤, inl, inr}
use Rattle.std.specs.Prelude.{codes}
use Rattle.std.specs.List.{Contains}
use Rattle.std.proofs.lemmas.List.{append-nil, length-append}
use Rattle.std.proofs.lemmas.List.Elements.{All-nil}
use Rattle.jd_syntax.specs.Sxs.{Bracketed, Atom}
use Rattle.jd_bracketed.specs.Tokens.{TokenKind, Open, Close, OpenSquare, CloseSquare, Word}
use Rattle.jd_bracketed.specs.Trees as brackets
use Rattle.jd_bracketed.specs.Readings as readings
use Rattle.jd_bracketed.proofs.Runs as bracket_runs
use Rattle.jd_sequent.specs.Trees.{PlainStep, PlainNode, ProofTree, OpenLeaf, ByStep, NoTrees, steps_in}
use Rattle.jd_scripts.specs.Places.{IsPlace, decimal}
use Rattle.jd_scripts.specs.Scripts.{PlainProof, Inst, Limits, StepFits, TreeFits, ProofFits, FileFits, IsFront, names_of, spell_place, spell_insts, spell_step, spell_tree, spell_trees, spell_proof}
use Rattle.jd_scripts.specs.Machine.{State, FileNext, WordNext, VersionNext, ProofNext, ProofWord, NameNext, InProof, FileEnd, Part, TreeNext, RuleNext, PlaceNext, AssumesNext, AssumedNext, InstsNext, InstNext, InstName, InstBody, TreeEnd, Context, step_at, with_inst}
use Rattle.jd_scripts.proofs.NewNames.{none_distinct}
use Rattle.jd_scripts.proofs.Parts.{assumes_front, insts_front, part_text, PartFits, part_steps, inst_text, inst_fits, step_text}
use Rattle.jd_scripts.proofs.Open.{Frame, heard, AreOpen, steps_of, then_tree, spell-then, fit-then, steps-then, Inside, TreeReached}
use Rattle.jd_scripts.proofs.Sound.{file_of, heard_proofs, heard_name, Reached, more_proofs, file_more}

-- ---- a step that is begun can be ended

record Completed (levels : ℕ) (ts : List TokenKind) : Type 0 where
  rest : List TokenKind
  by : PlainStep
  text : ts ++ rest ≡ spell_step by
  fits : StepFits levels by

empty_fits : (levels : ℕ) (r : List ℕ) → StepFits levels (step_at r None)
empty_fits levels r = record { place = tt; assumes = All-nil IsPlace; insts = All-nil (λ (i : Inst). brackets.depth i.1 ≤ levels) }

abbrev no_assumes : List TokenKind
no_assumes = OpenSquare ∷ CloseSquare ∷ OpenSquare ∷ CloseSquare ∷ []

-- behind an expression its bracket and the last one
inst_ends : (p : PlainStep) (n : List ℕ) (x : Bracketed) → insts_front p ++ Open ∷ Word n ∷ (brackets.spell x ++ Close ∷ CloseSquare ∷ []) ≡ spell_step (with_inst p n x)
inst_ends p n x =
    sym (append_assoc (insts_front p) (Open ∷ Word n ∷ brackets.spell x) (Close ∷ CloseSquare ∷ []))
    ∙ (sym (append_assoc (insts_front p ++ Open ∷ Word n ∷ brackets.spell x) (Close ∷ []) (CloseSquare ∷ []))
    ∙ (ap (λ ts. ts ++ CloseSquare ∷ []) (sym (inst_text p n x)) ∙ step_text (with_inst p n x)))

body_completed : (levels : ℕ) (p : PlainStep) (n : List ℕ) (x : readings.State) → PartFits levels (InstBody p n x) → Completed levels (part_text (InstBody p n x))
body_completed levels p n x h =
    let (more, y, led) = bracket_runs.ends_state x levels in
    let spelled = bracket_runs.run_heard levels more x (readings.Whole y) led in
    let last : List TokenKind = Close ∷ CloseSquare ∷ [] in
    record {
      rest = more ++ last;
      by = with_inst p n y;
      text = append_assoc (insts_front p) (Open ∷ Word n ∷ bracket_runs.heard x) (more ++ last)
          ∙ (ap (λ ts. insts_front p ++ Open ∷ Word n ∷ ts) (sym (append_assoc (bracket_runs.heard x) more last) ∙ ap (λ ts. ts ++ last) (sym spelled))
          ∙ inst_ends p n y);
      fits = inst_fits levels p n y h.0 (bracket_runs.run_fits levels more x (readings.Whole y) led h.1);
    }

completed : (levels : ℕ) (q : Part) → PartFits levels q → part_steps q ≡ 1 → Completed levels (part_text q)
completed levels TreeNext h one = absurd cc
completed levels TreeEnd h one = absurd cc
completed levels RuleNext h one = record { rest = Word [] ∷ Word (codes "-") ∷ no_assumes; by = step_at [] None; text = refl; fits = empty_fits levels [] }
completed levels (PlaceNext r) h one = record { rest = Word (codes "-") ∷ no_assumes; by = step_at r None; text = refl; fits = empty_fits levels r }
completed levels (AssumesNext p) h one = record {
  rest = no_assumes;
  by = p;
  text = ap (λ qs. Open ∷ Word p.rule ∷ spell_place p.place ∷ OpenSquare ∷ (map spell_place qs ++ CloseSquare ∷ OpenSquare ∷ CloseSquare ∷ [])) (sym h.1)
      ∙ ap (λ is. Open ∷ Word p.rule ∷ spell_place p.place ∷ OpenSquare ∷ (map spell_place p.assumes ++ CloseSquare ∷ OpenSquare ∷ (spell_insts is ++ CloseSquare ∷ []))) (sym h.2);
  fits = h.0;
}
completed levels (AssumedNext p) h one = record {
  rest = CloseSquare ∷ OpenSquare ∷ CloseSquare ∷ [];
  by = p;
  text = ap (λ is. assumes_front p ++ CloseSquare ∷ OpenSquare ∷ (spell_insts is ++ CloseSquare ∷ [])) (sym h.1);
  fits = h.0;
}
completed levels (InstsNext p) h one = record {
  rest = OpenSquare ∷ CloseSquare ∷ [];
  by = p;
  text = append_assoc (assumes_front p) (CloseSquare ∷ []) (OpenSquare ∷ CloseSquare ∷ []) ∙ ap (λ is. assumes_front p ++ CloseSquare ∷ OpenSquare ∷ (spell_insts is ++ CloseSquare ∷ [])) (sym h.1);
  fits = h.0;
}
completed levels (InstNext p) h one = record { rest = CloseSquare ∷ []; by = p; text = step_text p; fits = h }
completed levels (InstName p) h one = record {
  rest = Word [] ∷ Word [] ∷ Close ∷ CloseSquare ∷ [];
  by = with_inst p [] (Atom []);
  text = append_assoc (insts_front p) (Open ∷ []) (Word [] ∷ Word [] ∷ Close ∷ CloseSquare ∷ []) ∙ inst_ends p [] (Atom []);
  fits = inst_fits levels p [] (Atom []) h (omega arith);
}
completed levels (InstBody p n x) h one = body_completed levels p n x h

-- ---- open steps can be closed

abbrev plugged : List Frame → ProofTree → ProofTree
plugged [] t = t
plugged (f ∷ fs) t = plugged fs (ByStep f.by (then_tree f.done t))

abbrev closes : List Frame → List TokenKind
closes [] = []
closes (f ∷ fs) = Close ∷ closes fs

-- a step with trees, its bracket, and more
step_ends : (said under more : List TokenKind) → (said ++ (under ++ Close ∷ [])) ++ more ≡ said ++ (under ++ Close ∷ more)
step_ends said under more = append_assoc said (under ++ Close ∷ []) more ∙ ap (λ ts. said ++ ts) (append_assoc under (Close ∷ []) more)

plugged_text : (fs : List Frame) (t : ProofTree) → heard fs ++ (spell_tree t ++ closes fs) ≡ spell_tree (plugged fs t)
plugged_text [] t = append-nil (spell_tree t)
plugged_text (f ∷ fs) t =
    let said = spell_step f.by in
    let under = spell_trees f.done in
    append_assoc (heard fs) (said ++ under) (spell_tree t ++ Close ∷ closes fs)
    ∙ (ap (λ ts. heard fs ++ ts)
    (append_assoc said under (spell_tree t ++ Close ∷ closes fs)
    ∙ (ap (λ ts. said ++ ts) (sym (append_assoc under (spell_tree t) (Close ∷ closes fs)) ∙ ap (λ ts. ts ++ Close ∷ closes fs) (sym (spell-then f.done t)))
    ∙ sym (step_ends said (spell_trees (then_tree f.done t)) (closes fs))))
    ∙ plugged_text fs (ByStep f.by (then_tree f.done t)))

plugged_fits : (levels : ℕ) (fs : List Frame) (t : ProofTree) → AreOpen levels fs → TreeFits levels t → TreeFits levels (plugged fs t)
plugged_fits levels [] t h g = g
plugged_fits levels (f ∷ fs) t h g = plugged_fits levels fs (ByStep f.by (then_tree f.done t)) h.2 (h.0, fit-then levels f.done t h.1 g)

plugged_steps : (fs : List Frame) (t : ProofTree) → steps_in (plugged fs t) ≡ steps_of fs + steps_in t
plugged_steps [] t = omega arith
plugged_steps (f ∷ fs) t =
    let sum = steps-then f.done t in
    let more = plugged_steps fs (ByStep f.by (then_tree f.done t)) in
    omega (arith, sum, more)

-- ---- a proof that is begun can be ended

record TreeFront (l : Limits) (ts : List TokenKind) : Type 0 where
  rest : List TokenKind
  tree : ProofTree
  text : ts ++ rest ≡ spell_tree tree
  fits : TreeFits l.levels tree
  few : steps_in tree ≤ l.steps

step_front : (l : Limits) (ts : List TokenKind) (q : Part) (ns : List PlainNode) (os : List ℕ) (k : ℕ) → Inside l ts q ns os k → part_steps q ≡ 1 → TreeFront l ts
step_front l ts q ns os k i one =
    let done = completed l.levels q i.part_fits one in
    let fs = i.frames in
    let t : ProofTree = ByStep done.by NoTrees in
    let sum = plugged_steps fs t in
    let steps = i.steps in
    let few = i.few in
    record {
      rest = done.rest ++ Close ∷ closes fs;
      tree = plugged fs t;
      text = ap (λ us. us ++ (done.rest ++ Close ∷ closes fs)) i.text
          ∙ (append_assoc (heard fs) (part_text q) (done.rest ++ Close ∷ closes fs)
          ∙ (ap (λ us. heard fs ++ us)
          (sym (append_assoc (part_text q) done.rest (Close ∷ closes fs))
          ∙ (ap (λ us. us ++ Close ∷ closes fs) done.text
          ∙ sym (step_ends (spell_step done.by) [] (closes fs))))
          ∙ plugged_text fs t));
      fits = plugged_fits l.levels fs t i.fits (done.fits, tt);
      few = omega (arith, sum, steps, few, one);
    }

inside_front : (l : Limits) (ts : List TokenKind) (q : Part) (ns : List PlainNode) (os : List ℕ) (k : ℕ) → Inside l ts q ns os k → TreeFront l ts
inside_front l ts TreeNext ns os k i =
    let fs = i.frames in
    let sum = plugged_steps fs OpenLeaf in
    let steps = i.steps in
    let few = i.few in
    record {
      rest = spell_tree OpenLeaf ++ closes fs;
      tree = plugged fs OpenLeaf;
      text = ap (λ us. us ++ (spell_tree OpenLeaf ++ closes fs)) (i.text ∙ append-nil (heard fs)) ∙ plugged_text fs OpenLeaf;
      fits = plugged_fits l.levels fs OpenLeaf i.fits tt;
      few = omega (arith, sum, steps, few);
    }
inside_front l ts TreeEnd ns os k i = absurd i.part_fits
inside_front l ts RuleNext ns os k i = step_front l ts RuleNext ns os k i refl
inside_front l ts (PlaceNext r) ns os k i = step_front l ts (PlaceNext r) ns os k i refl
inside_front l ts (AssumesNext p) ns os k i = step_front l ts (AssumesNext p) ns os k i refl
inside_front l ts (AssumedNext p) ns os k i = step_front l ts (AssumedNext p) ns os k i refl
inside_front l ts (InstsNext p) ns os k i = step_front l ts (InstsNext p) ns os k i refl
inside_front l ts (InstNext p) ns os k i = step_front l ts (InstNext p) ns os k i refl
inside_front l ts (InstName p) ns os k i = step_front l ts (InstName p) ns os k i refl
inside_front l ts (InstBody p n x) ns os k i = step_front l ts (InstBody p n x) ns os k i refl

tree_front : (l : Limits) (ts : List TokenKind) (q : Part) (ns : List PlainNode) (os : List ℕ) (k : ℕ) → TreeReached l ts q ns os k → TreeFront l ts
tree_front l ts q ns os k (inl i) = inside_front l ts q ns os k i
tree_front l ts q ns os k (inr (is, w)) =
    let steps = w.steps in
    let few = w.few in
    record { rest = []; tree = w.tree; text = append-nil ts ∙ w.text; fits = w.fits; few = omega (arith, steps, few) }

-- ---- a name that no proof has

abbrev fresh : List (List ℕ) → List ℕ
fresh [] = []
fresh (n ∷ names) = 0 ∷ (n ++ fresh names)

longer : (names : List (List ℕ)) (k : ℕ) (d : List ℕ) → k < length names → length (slice_index_or names k d) < length (fresh names)
longer [] k d lt = absurd (omega arith)
longer (n ∷ names) zero d lt = let sum = length-append n (fresh names) in omega (arith, sum)
longer (n ∷ names) (suc k) d lt =
    let sum = length-append n (fresh names) in
    let more = longer names k d (omega arith) in
    omega (arith, sum, more)

fresh_new : (names : List (List ℕ)) → Contains names (fresh names) → ⊥
fresh_new names (k, lt, is) =
    let more = longer names k (fresh names) lt in
    let same = ap length is in
    omega (arith, more, same)

-- ---- a file that is begun can be ended

pub shorter : (l : Limits) (ts more : List TokenKind) → IsFront l (ts ++ more) → IsFront l ts
shorter l ts more (rest, f, is) = (more ++ rest, f, record { spelled = sym (append_assoc ts more rest) ∙ is.spelled; fits = is.fits })

proof_front : (l : Limits) (ts : List TokenKind) (c : Context) (behind : List TokenKind) → ts ≡ heard_name c behind → FileFits l (file_of c.version c.done) → (l.distinct ≡ true → Contains (names_of c.done) c.name → ⊥)
    → TreeFront l behind → IsFront l ts
proof_front l ts c behind text fits new t =
    let p : PlainProof = record { name = c.name; tree = t.tree } in
    let before = heard_proofs c.version c.done in
    let last : List TokenKind = Close ∷ Close ∷ [] in (
      t.rest ++ last,
      file_of c.version (c.done ++ p ∷ []),
      record {
        spelled = ap (λ us. us ++ (t.rest ++ last)) text
            ∙ (append_assoc before (Open ∷ Word (codes "proof") ∷ Word c.name ∷ behind) (t.rest ++ last)
            ∙ (ap (λ us. before ++ Open ∷ Word (codes "proof") ∷ Word c.name ∷ us) (sym (append_assoc behind t.rest last) ∙ (ap (λ us. us ++ last) t.text ∙ sym (append_assoc (spell_tree t.tree) (Close ∷ []) (Close ∷ []))))
            ∙ (sym (append_assoc before (spell_proof p) (Close ∷ []))
            ∙ ap (λ us. Open ∷ Word (codes "jdl") ∷ Word (decimal c.version) ∷ (us ++ Close ∷ [])) (sym (more_proofs c.done p)))));
        fits = file_more l c.version c.done p fits new (record { tree = t.fits; steps = t.few });
      },
    )

leaf_front : (l : Limits) → TreeFront l []
leaf_front l = record { rest = spell_tree OpenLeaf; tree = OpenLeaf; text = refl; fits = tt; few = omega arith }

name_front : (l : Limits) (v : ℕ) (done : List PlainProof) → FileFits l (file_of v done) → IsFront l (heard_proofs v done ++ Open ∷ Word (codes "proof") ∷ Word (fresh (names_of done)) ∷ [])
name_front l v done fits =
    let c : Context = record { version = v; done = done; name = fresh (names_of done) } in
    proof_front l (heard_name c []) c [] refl fits (λ _. fresh_new (names_of done)) (leaf_front l)

no_proofs : (l : Limits) → FileFits l (file_of 1 [])
no_proofs l = record { number = (lit≤ tt, lit≤ tt); version = λ _. refl; proofs = All-nil (ProofFits l); names = λ _. none_distinct }

end_front : (l : Limits) (v : ℕ) (done : List PlainProof) → FileFits l (file_of v done) → IsFront l (heard_proofs v done ++ Close ∷ [])
end_front l v done fits = ([], file_of v done, record { spelled = append-nil (heard_proofs v done ++ Close ∷ []); fits = fits })

pub front_of : (l : Limits) (ts : List TokenKind) (st : State) → Reached l ts st → IsFront l ts
front_of l ts FileNext r = subst (IsFront l) (sym r) (shorter l [] (heard_proofs 1 [] ++ Close ∷ []) (end_front l 1 [] (no_proofs l)))
front_of l ts WordNext r = subst (IsFront l) (sym r) (shorter l (Open ∷ []) (Word (codes "jdl") ∷ Word (decimal 1) ∷ Close ∷ []) (end_front l 1 [] (no_proofs l)))
front_of l ts VersionNext r = subst (IsFront l) (sym r) (shorter l (Open ∷ Word (codes "jdl") ∷ []) (Word (decimal 1) ∷ Close ∷ []) (end_front l 1 [] (no_proofs l)))
front_of l ts (ProofNext v done) r = subst (IsFront l) (sym r.0) (shorter l (heard_proofs v done) (Close ∷ []) (end_front l v done r.1))
front_of l ts (ProofWord v done) r =
    let rest : List TokenKind = Word (codes "proof") ∷ Word (fresh (names_of done)) ∷ [] in
    subst (IsFront l) (sym r.0) (shorter l (heard_proofs v done ++ Open ∷ []) rest (subst (IsFront l) (sym (append_assoc (heard_proofs v done) (Open ∷ []) rest)) (name_front l v done r.1)))
front_of l ts (NameNext v done) r =
    let said : List TokenKind = Open ∷ Word (codes "proof") ∷ [] in
    let rest : List TokenKind = Word (fresh (names_of done)) ∷ [] in
    subst (IsFront l) (sym r.0) (shorter l (heard_proofs v done ++ said) rest (subst (IsFront l) (sym (append_assoc (heard_proofs v done) said rest)) (name_front l v done r.1)))
front_of l ts (InProof c q ns os k) r = proof_front l ts c r.behind r.text r.fits r.new (tree_front l r.behind q ns os k r.tree)
front_of l ts (FileEnd v done) r = subst (IsFront l) (sym r.0) (end_front l v done r.1)
