-- More is within wider limits.
use Rattle.std.proofs.Common.{◌≡◌, ℕ, suc, ◌+◌, ◌≤◌, Bool, true, false, not, ◌||◌, ◌&&◌, nat_lt, cond, List, [], ◌∷◌, Result, Ok, Err, refl, sym, ap, subst, ◌∙◌, arith, bytes_eq, true≢false}
use Rattle.std.specs.Prelude.{◌==◌}
use Rattle.std.specs.List.{list_any}
use Rattle.std.proofs.lemmas.Bool.{ltb-true, lt-ltb}
use Rattle.std.proofs.lemmas.List.Elements.{All-weaker}
use Rattle.jd_bracketed.specs.Tokens.{TokenKind}
use Rattle.jd_bracketed.specs.Trees as brackets
use Rattle.jd_sequent.specs.Trees.{PlainStep, ProofTree, OpenLeaf, ByStep, ProofTrees, NoTrees, TreeThen}
use Rattle.jd_scripts.specs.Scripts.{PlainProof, ScriptFile, Inst, Limits, StepFits, TreeFits, TreesFit, ProofFits, FileFits, IsFront}
use Rattle.jd_scripts.specs.Answers.{Limit, Version, Names, Steps, Levels, lifted}
use Rattle.jd_scripts.specs.Machine.{State, Next, Wrong, Goes, GoesIf, Check, VersionIs, NameBehind, StepBehind, BracketInside, Fault, WrongToken, Over, limit_of, passes, decide, next, step, then_run, run}
use Rattle.jd_scripts.proofs.Runs.{ran, err_ok}

pub record Looser (l m : Limits) : Type 0 where
  pub one_version : m.one_version ≡ true → l.one_version ≡ true
  pub distinct : m.distinct ≡ true → l.distinct ≡ true
  pub steps : l.steps ≤ m.steps
  pub levels : l.levels ≤ m.levels

-- ---- files

step_looser : (n m : ℕ) (p : PlainStep) → n ≤ m → StepFits n p → StepFits m p
step_looser n m p le h = record {
  place = h.place;
  assumes = h.assumes;
  insts = All-weaker (λ (i : Inst). brackets.depth i.1 ≤ n) (λ (i : Inst). brackets.depth i.1 ≤ m) (λ i d. omega (arith, d, le)) p.insts h.insts;
}

mutual
  tree_looser : (t : ProofTree) (n m : ℕ) → n ≤ m → TreeFits n t → TreeFits m t
  tree_looser OpenLeaf n m le h = tt
  tree_looser (ByStep p ts) n m le h = (step_looser n m p le h.0, trees_looser ts n m le h.1)

  trees_looser : (ts : ProofTrees) (n m : ℕ) → n ≤ m → TreesFit n ts → TreesFit m ts
  trees_looser NoTrees n m le h = tt
  trees_looser (TreeThen t ts) n m le h = (tree_looser t n m le h.0, trees_looser ts n m le h.1)

proof_looser : (l m : Limits) (p : PlainProof) → Looser l m → ProofFits l p → ProofFits m p
proof_looser l m p w h =
    let few = h.steps in
    let more = w.steps in
    record { tree = tree_looser p.tree l.levels m.levels w.levels h.tree; steps = omega (arith, few, more) }

pub file_looser : (l m : Limits) (f : ScriptFile) → Looser l m → FileFits l f → FileFits m f
file_looser l m f w h = record {
  number = h.number;
  version = λ e. h.version (w.one_version e);
  proofs = All-weaker (ProofFits l) (ProofFits m) (λ p g. proof_looser l m p w g) f.proofs h.proofs;
  names = λ e. h.names (w.distinct e);
}

pub front_looser : (l m : Limits) (ts : List TokenKind) → Looser l m → IsFront l ts → IsFront m ts
front_looser l m ts w (more, f, is) = (more, f, record { spelled = is.spelled; fits = file_looser l m f w is.fits })

-- ---- reading

or_looser : (a b t : Bool) → (b ≡ true → a ≡ true) → (not a || t) ≡ true → (not b || t) ≡ true
or_looser a false t h e = refl
or_looser true true t h e = e
or_looser false true t h e = absurd (true≢false (sym (h refl)))

and_looser : (a b t : Bool) → (b ≡ true → a ≡ true) → not (a && t) ≡ true → not (b && t) ≡ true
and_looser a false t h e = refl
and_looser true true t h e = e
and_looser false true t h e = absurd (true≢false (sym (h refl)))

lt_looser : (k n m : ℕ) → n ≤ m → nat_lt k n ≡ true → nat_lt k m ≡ true
lt_looser k n m le e = let lt = ltb-true k n e in lt-ltb k m (omega (arith, lt, le))

passes_looser : (l m : Limits) (check : Check) → Looser l m → passes l check ≡ true → passes m check ≡ true
passes_looser l m (VersionIs n) w e = or_looser l.one_version m.one_version (n == 1) w.one_version e
passes_looser l m (NameBehind name names) w e = and_looser l.distinct m.distinct (list_any (bytes_eq name) names) w.distinct e
passes_looser l m (StepBehind k) w e = lt_looser k l.steps m.steps w.steps e
passes_looser l m (BracketInside n) w e = lt_looser n l.levels m.levels w.levels e

abbrev decided : Bool → Check → State → Result State Fault
decided b check s = cond b (Ok s) (Err (Over (limit_of check)))

passed : (b : Bool) (check : Check) (s t : State) → decided b check s ≡ Ok t → b ≡ true
passed true check s t e = refl
passed false check s t e = absurd (err_ok _ _ e)

failed : (b : Bool) (check : Check) (s : State) (k : Limit) → decided b check s ≡ Err (Over k) → (b ≡ false) × (limit_of check ≡ k)
failed true check s k e = absurd cc
failed false check s k e = (refl, cc)

never_wrong : (b : Bool) (check : Check) (s : State) → decided b check s ≡ Err WrongToken → ⊥
never_wrong true check s e = absurd cc
never_wrong false check s e = absurd cc

pub decide_looser : (l m : Limits) (x : Next) (s : State) → Looser l m → decide l x ≡ Ok s → decide m x ≡ Ok s
decide_looser l m Wrong s w e = absurd (err_ok _ _ e)
decide_looser l m (Goes t) s w e = e
decide_looser l m (GoesIf check t) s w e =
    let yes = passed (passes l check) check t s e in
    ap (λ b. decided b check t) (passes_looser l m check w yes ∙ sym yes) ∙ e

pub decide_wrong : (l m : Limits) (x : Next) → decide l x ≡ Err WrongToken → decide m x ≡ Err WrongToken
decide_wrong l m Wrong e = refl
decide_wrong l m (Goes t) e = absurd cc
decide_wrong l m (GoesIf check t) e = absurd (never_wrong (passes l check) check t e)

pub run_looser : (l m : Limits) (ts : List TokenKind) (st s : State) → Looser l m → run l ts st ≡ Ok s → run m ts st ≡ Ok s
unfolding run
run_looser l m [] st s w e = e
run_looser l m (t ∷ ts) st s w e =
    let k = ran (run l ts) (step l st t) s e in
    ap (then_run (run m ts)) (decide_looser l m (next st t) k.0 w k.1) ∙ run_looser l m ts k.0 s w k.2

-- ---- one limit lifted

record Lifts (l : Limits) (check : Check) : Type 0 where
  to : ℕ
  looser : Looser l (lifted (limit_of check) to l)
  goes : passes (lifted (limit_of check) to l) check ≡ true

lifts : (l : Limits) (check : Check) → Lifts l check
lifts l (VersionIs n) = record { to = 0; looser = record { one_version = λ e. absurd (true≢false (sym e)); distinct = λ e. e; steps = omega arith; levels = omega arith }; goes = refl }
lifts l (NameBehind name names) = record { to = 0; looser = record { one_version = λ e. e; distinct = λ e. absurd (true≢false (sym e)); steps = omega arith; levels = omega arith }; goes = refl }
lifts l (StepBehind k) = record {
  to = l.steps + suc k;
  looser = record { one_version = λ e. e; distinct = λ e. e; steps = omega arith; levels = omega arith };
  goes = lt-ltb k (l.steps + suc k) (omega arith);
}
lifts l (BracketInside n) = record {
  to = l.levels + suc n;
  looser = record { one_version = λ e. e; distinct = λ e. e; steps = omega arith; levels = omega arith };
  goes = lt-ltb n (l.levels + suc n) (omega arith);
}

pub record Beyond (l : Limits) (k : Limit) (x : Next) : Type 0 where
  pub to : ℕ
  pub looser : Looser l (lifted k to l)
  pub state : State
  pub goes : decide (lifted k to l) x ≡ Ok state

pub beyond : (l : Limits) (x : Next) (k : Limit) → decide l x ≡ Err (Over k) → Beyond l k x
beyond l Wrong k e = absurd cc
beyond l (Goes s) k e = absurd cc
beyond l (GoesIf check s) k e =
    let g = failed (passes l check) check s k e in
    let up = lifts l check in
    subst (λ j. Beyond l j (GoesIf check s)) g.1 (record { to = up.to; looser = up.looser; state = s; goes = ap (λ b. decided b check s) up.goes })

-- only the limit that is exceeded has to be lifted
one_limit : (l : Limits) (check : Check) (k : Limit) (n : ℕ) → passes l check ≡ false → passes (lifted k n l) check ≡ true → limit_of check ≡ k
one_limit l (VersionIs m) Version n e h = refl
one_limit l (VersionIs m) Names n e h = absurd (true≢false (sym h ∙ e))
one_limit l (VersionIs m) Steps n e h = absurd (true≢false (sym h ∙ e))
one_limit l (VersionIs m) Levels n e h = absurd (true≢false (sym h ∙ e))
one_limit l (NameBehind name names) Version n e h = absurd (true≢false (sym h ∙ e))
one_limit l (NameBehind name names) Names n e h = refl
one_limit l (NameBehind name names) Steps n e h = absurd (true≢false (sym h ∙ e))
one_limit l (NameBehind name names) Levels n e h = absurd (true≢false (sym h ∙ e))
one_limit l (StepBehind m) Version n e h = absurd (true≢false (sym h ∙ e))
one_limit l (StepBehind m) Names n e h = absurd (true≢false (sym h ∙ e))
one_limit l (StepBehind m) Steps n e h = refl
one_limit l (StepBehind m) Levels n e h = absurd (true≢false (sym h ∙ e))
one_limit l (BracketInside m) Version n e h = absurd (true≢false (sym h ∙ e))
one_limit l (BracketInside m) Names n e h = absurd (true≢false (sym h ∙ e))
one_limit l (BracketInside m) Steps n e h = absurd (true≢false (sym h ∙ e))
one_limit l (BracketInside m) Levels n e h = refl

pub same_limit : (l : Limits) (x : Next) (j k : Limit) (n : ℕ) (s : State) → decide l x ≡ Err (Over j) → decide (lifted k n l) x ≡ Ok s → j ≡ k
same_limit l Wrong j k n s e h = absurd (err_ok _ _ h)
same_limit l (Goes t) j k n s e h = absurd cc
same_limit l (GoesIf check t) j k n s e h =
    let g = failed (passes l check) check t j e in
    sym g.1 ∙ one_limit l check k n g.0 (passed (passes (lifted k n l) check) check t s h)
