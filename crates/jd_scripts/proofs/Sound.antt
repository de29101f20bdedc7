-- What is read is a file within the limits, spelled by the tokens.
use Rattle.std.proofs.Common.{◌≡◌, ℕ, suc, ◌+◌, ◌<◌, ◌≤◌, Bool, true, false, not, ◌||◌, ◌&&◌, cond, List, [], ◌∷◌, ◌++◌, length, Option, Some, None, Result, Ok, Err, refl, sym, ap, subst, ◌∙◌, append_assoc, arith, bytes_eq, inl, inr, true≢false}
use Rattle.std.specs.Prelude.{codes, ◌==◌}
use Rattle.std.specs.List.{Contains, list_any}
use Rattle.std.proofs.lemmas.Bool.{ltb-true, eqb-true}
use Rattle.std.proofs.lemmas.List.{append-nil, map-append}
use Rattle.std.proofs.lemmas.List.Elements.{All-nil, All-cons, All-append}
use Rattle.std.proofs.lemmas.Slice.Eq.{bytes_eq-Decides}
use Rattle.jd_syntax.specs.Sxs.{Bracketed}
use Rattle.jd_bracketed.specs.Tokens.{TokenKind, Open, Close, OpenSquare, CloseSquare, Word, Bad}
use Rattle.jd_bracketed.specs.Readings as readings
use Rattle.jd_sequent.specs.Trees.{PlainStep, PlainNode, OpenLeaf, ByStep, NoTrees, preorder, steps_in, are_trees, tree_of}
use Rattle.jd_sequent.proofs.Preorder.{tree_of-preorder}
use Rattle.jd_scripts.specs.Places.{decimal}
use Rattle.jd_scripts.specs.ReadPlaces.{read_number}
use Rattle.jd_scripts.specs.Scripts.{PlainProof, ScriptFile, Limits, StepFits, ProofFits, AreDistinct, FileFits, IsFile, names_of, spell_step, spell_tree, spell_trees, spell_proof, spell_proofs}
use Rattle.jd_scripts.specs.Machine.{State, FileNext, WordNext, VersionNext, ProofNext, ProofWord, NameNext, InProof, FileEnd, Part, TreeNext, RuleNext, PlaceNext, AssumesNext, AssumedNext, InstsNext, InstNext, InstName, InstBody, TreeEnd, Context, Next, Wrong, Goes, GoesIf, Check, Fault, Over, StepBehind, NameBehind, VersionIs, passes, limit_of, with_inst, goes_part, part_step, if_close, if_open, if_word, of_version, at_tree, at_inst, in_body, closed, proof_closed, at_version, at_proof, at_name, in_proof, new_node, leaf, grown, after_tree, decide, step, run}
use Rattle.jd_scripts.proofs.PlaceText.{number_is}
use Rattle.jd_scripts.proofs.Runs.{ran, same_state, err_ok, mapped, in_body_is, length-counted}
use Rattle.jd_scripts.proofs.NewNames.{absent, none_distinct, one_more_distinct}
use Rattle.jd_scripts.proofs.Parts.{part_text, PartFits, part_steps, part_more, inst_text, inst_fits, body_text, body_fits, step_text}
use Rattle.jd_scripts.proofs.Open.{Frame, flat, positions, heard, AreOpen, steps_of, counted_is, Inside, Whole, TreeReached, tree_reached}

-- ---- a token in a proof

abbrev InTree : Limits → Context → List TokenKind → State → Type 0
InTree l c ts st = (q : Part) × (ns : List PlainNode) × (os : List ℕ) × (k : ℕ) × (st ≡ InProof c q ns os k) × TreeReached l ts q ns os k

if_passed : (l : Limits) (check : Check) (s st : State) → decide l (GoesIf check s) ≡ Ok st → (passes l check ≡ true) × (s ≡ st)
if_passed l check s st e = by_test (passes l check) refl e
  where
    by_test : (b : Bool) → passes l check ≡ b → cond b (let r : Result State Fault = Ok s in r) (Err (Over (limit_of check))) ≡ Ok st → (passes l check ≡ true) × (s ≡ st)
    by_test true is h = (is, same_state h)
    by_test false is h = absurd (err_ok _ _ h)

if_true : (l : Limits) (b : Bool) (n : Next) (st : State) → decide l (cond b n Wrong) ≡ Ok st → (b ≡ true) × (decide l n ≡ Ok st)
if_true l true n st e = (refl, e)
if_true l false n st e = absurd (err_ok _ _ e)

if_mapped : (f : readings.State → State) (r : Result readings.State readings.Fault) (st : State) → mapped f r ≡ Ok st → (m : readings.State) × (r ≡ Ok m) × (f m ≡ st)
if_mapped f (Ok m) st e = (m, refl, same_state e)
if_mapped f (Err readings.WrongToken) st e = absurd (err_ok _ _ e)
if_mapped f (Err readings.TooManyLevels) st e = absurd (err_ok _ _ e)

some_part : (l : Limits) (c : Context) (ns : List PlainNode) (os : List ℕ) (k : ℕ) (o : Option Part) (st : State) → decide l (goes_part c ns os k o) ≡ Ok st → (q : Part) × (o ≡ Some q) × (InProof c q ns os k ≡ st)
some_part l c ns os k None st e = absurd (err_ok _ _ e)
some_part l c ns os k (Some q) st e = (q, refl, same_state e)

part_text_more : (ts h p r : List TokenKind) (t : TokenKind) → ts ≡ h ++ p → r ≡ p ++ t ∷ [] → ts ++ t ∷ [] ≡ h ++ r
part_text_more ts h p r t e f = ap (λ l. l ++ t ∷ []) e ∙ (append_assoc h p (t ∷ []) ∙ ap (λ l. h ++ l) (sym f))

module _ (l : Limits) (c : Context) where
  -- the same steps are open
  same_frames : (ts : List TokenKind) (t : TokenKind) (q r : Part) (ns : List PlainNode) (os : List ℕ) (k : ℕ) (st : State) (i : Inside l ts q ns os k)
      → part_text r ≡ part_text q ++ t ∷ [] → PartFits l.levels r → part_steps r ≡ part_steps q → InProof c r ns os k ≡ st → InTree l c (ts ++ t ∷ []) st
  same_frames ts t q r ns os k st i text fits steps e = (
    r,
    ns,
    os,
    k,
    sym e,
    inl (record {
      frames = i.frames;
      nodes = i.nodes;
      places = i.places;
      text = part_text_more ts (heard i.frames) (part_text q) (part_text r) t i.text text;
      steps = i.steps ∙ ap (λ n. steps_of i.frames + n) (sym steps);
      few = i.few;
      fits = i.fits;
      part_fits = fits;
    }),
  )

  part_reached : (ts : List TokenKind) (t : TokenKind) (q : Part) (ns : List PlainNode) (os : List ℕ) (k : ℕ) (st : State) (i : Inside l ts q ns os k)
      → decide l (goes_part c ns os k (part_step q t)) ≡ Ok st → InTree l c (ts ++ t ∷ []) st
  part_reached ts t q ns os k st i e =
      let g = some_part l c ns os k (part_step q t) st e in
      let m = part_more l.levels q g.0 t i.part_fits g.1 in
      same_frames ts t q g.0 ns os k st i m.text m.fits m.steps g.2

  body_reached : (ts : List TokenKind) (t : TokenKind) (p : PlainStep) (n : List ℕ) (x : readings.State) (ns : List PlainNode) (os : List ℕ) (k : ℕ) (st : State) (i : Inside l ts (InstBody p n x) ns os k)
      → decide l (in_body (λ y. InProof c (InstBody p n y) ns os k) x t) ≡ Ok st → InTree l c (ts ++ t ∷ []) st
  body_reached ts t p n x ns os k st i e =
      let g = if_mapped (λ y. InProof c (InstBody p n y) ns os k) (readings.step l.levels x t) st (sym (in_body_is l (λ y. InProof c (InstBody p n y) ns os k) x t) ∙ e) in
      same_frames ts t (InstBody p n x) (InstBody p n g.0) ns os k st i (body_text l.levels p n x g.0 t g.1) (i.part_fits.0, body_fits l.levels x g.0 t g.1 i.part_fits.1) refl g.2

  inst_reached : (ts : List TokenKind) (t : TokenKind) (p : PlainStep) (n : List ℕ) (x : Bracketed) (ns : List PlainNode) (os : List ℕ) (k : ℕ) (st : State) (i : Inside l ts (InstBody p n (readings.Whole x)) ns os k)
      → decide l (if_close t (Goes (InProof c (InstNext (with_inst p n x)) ns os k))) ≡ Ok st → InTree l c (ts ++ t ∷ []) st
  inst_reached ts Close p n x ns os k st i e =
      same_frames ts Close (InstBody p n (readings.Whole x)) (InstNext (with_inst p n x)) ns os k st i (inst_text p n x) (inst_fits l.levels p n x i.part_fits.0 i.part_fits.1) refl (same_state e)
  inst_reached ts Open p n x ns os k st i e = absurd (err_ok _ _ e)
  inst_reached ts OpenSquare p n x ns os k st i e = absurd (err_ok _ _ e)
  inst_reached ts CloseSquare p n x ns os k st i e = absurd (err_ok _ _ e)
  inst_reached ts (Word w) p n x ns os k st i e = absurd (err_ok _ _ e)
  inst_reached ts Bad p n x ns os k st i e = absurd (err_ok _ _ e)

  -- the trees below a step begin
  begin_reached : (ts : List TokenKind) (p : PlainStep) (fs : List Frame) (k : ℕ) (st : State) → ts ≡ heard fs ++ part_text (InstNext p) → k ≡ steps_of fs + 1 → k ≤ l.steps → AreOpen l.levels fs → StepFits l.levels p
      → InProof c TreeNext (grown (flat fs) (positions fs) (new_node p)) (length (flat fs) ∷ positions fs) k ≡ st → InTree l c (ts ++ CloseSquare ∷ []) st
  begin_reached ts p fs k st text steps few h g e =
      let f : Frame = record { by = p; done = NoTrees } in (
        TreeNext,
        grown (flat fs) (positions fs) (new_node p),
        length (flat fs) ∷ positions fs,
        k,
        sym e,
        inl (record {
          frames = f ∷ fs;
          nodes = ap (λ ns. ns ++ new_node p ∷ []) (counted_is fs);
          places = ap (λ n. n ∷ positions fs) (sym (length-counted (flat fs) (positions fs)) ∙ ap length (counted_is fs));
          text = part_text_more ts (heard fs) (part_text (InstNext p)) (spell_step p) CloseSquare text (sym (step_text p))
              ∙ (ap (λ u. heard fs ++ u) (sym (append-nil (spell_step p))) ∙ sym (append-nil (heard (f ∷ fs))));
          steps = omega (arith, steps);
          few = few;
          fits = (g, tt, h);
          part_fits = tt;
        }),
      )

  -- the end of a step
  close_reached : (ts : List TokenKind) (fs : List Frame) (k : ℕ) (st : State) → ts ≡ heard fs ++ [] → k ≡ steps_of fs + 0 → k ≤ l.steps → AreOpen l.levels fs
      → decide l (closed c (flat fs) (positions fs) k) ≡ Ok st → InTree l c (ts ++ Close ∷ []) st
  close_reached ts [] k st text steps few h e = absurd (err_ok _ _ e)
  close_reached ts (f ∷ fs) k st text steps few h e =
      let said = spell_step f.by in
      let under = spell_trees f.done in
      let tree = ByStep f.by f.done in (
        after_tree (positions fs),
        flat (f ∷ fs),
        positions fs,
        k,
        sym (same_state e),
        tree_reached l (ts ++ Close ∷ []) fs tree (flat (f ∷ fs)) k h.2 (h.0, h.1) few
            (ap (λ u. u ++ Close ∷ []) (text ∙ append-nil (heard (f ∷ fs)))
            ∙ (append_assoc (heard fs) (said ++ under) (Close ∷ [])
            ∙ ap (λ u. heard fs ++ u) (append_assoc said under (Close ∷ []))))
            (ap (λ u. u ++ preorder tree) (sym (counted_is fs)))
            (omega (arith, steps)),
      )

  leaf_reached : (ts : List TokenKind) (w : List ℕ) (fs : List Frame) (k : ℕ) (st : State) → ts ≡ heard fs ++ [] → k ≡ steps_of fs + 0 → k ≤ l.steps → AreOpen l.levels fs
      → decide l (at_tree c (flat fs) (positions fs) k (Word w)) ≡ Ok st → InTree l c (ts ++ Word w ∷ []) st
  leaf_reached ts w fs k st text steps few h e =
      let g = if_true l (bytes_eq w (codes "-")) (Goes (InProof c (after_tree (positions fs)) (grown (flat fs) (positions fs) leaf) (positions fs) k)) st e in
      let dash : w ≡ codes "-" = (bytes_eq-Decides w (codes "-")).0 g.0 in (
        after_tree (positions fs),
        grown (flat fs) (positions fs) leaf,
        positions fs,
        k,
        sym (same_state g.1),
        tree_reached l (ts ++ Word w ∷ []) fs OpenLeaf (grown (flat fs) (positions fs) leaf) k h tt few
            (ap (λ u. u ++ Word w ∷ []) (text ∙ append-nil (heard fs)) ∙ ap (λ u. heard fs ++ Word u ∷ []) dash)
            refl
            steps,
      )

  opened_reached : (ts : List TokenKind) (fs : List Frame) (k : ℕ) (st : State) → ts ≡ heard fs ++ [] → k ≡ steps_of fs + 0 → k ≤ l.steps → AreOpen l.levels fs
      → decide l (at_tree c (flat fs) (positions fs) k Open) ≡ Ok st → InTree l c (ts ++ Open ∷ []) st
  opened_reached ts fs k st text steps few h e =
      let g = if_passed l (StepBehind k) (InProof c RuleNext (flat fs) (positions fs) (suc k)) st e in
      let lt : k < l.steps = ltb-true k l.steps g.0 in (
        RuleNext,
        flat fs,
        positions fs,
        suc k,
        sym g.1,
        inl (record {
          frames = fs;
          nodes = refl;
          places = refl;
          text = ap (λ u. u ++ Open ∷ []) (text ∙ append-nil (heard fs));
          steps = omega (arith, steps);
          few = omega (arith, lt);
          fits = h;
          part_fits = tt;
        }),
      )

  tree_next : (ts : List TokenKind) (t : TokenKind) (fs : List Frame) (k : ℕ) (st : State) → ts ≡ heard fs ++ [] → k ≡ steps_of fs + 0 → k ≤ l.steps → AreOpen l.levels fs
      → decide l (at_tree c (flat fs) (positions fs) k t) ≡ Ok st → InTree l c (ts ++ t ∷ []) st
  tree_next ts Open fs k st text steps few h e = opened_reached ts fs k st text steps few h e
  tree_next ts Close fs k st text steps few h e = close_reached ts fs k st text steps few h e
  tree_next ts (Word w) fs k st text steps few h e = leaf_reached ts w fs k st text steps few h e
  tree_next ts OpenSquare fs k st text steps few h e = absurd (err_ok _ _ e)
  tree_next ts CloseSquare fs k st text steps few h e = absurd (err_ok _ _ e)
  tree_next ts Bad fs k st text steps few h e = absurd (err_ok _ _ e)

  inst_next : (ts : List TokenKind) (t : TokenKind) (p : PlainStep) (ns : List PlainNode) (os : List ℕ) (k : ℕ) (st : State) (i : Inside l ts (InstNext p) ns os k)
      → decide l (at_inst p c ns os k t) ≡ Ok st → InTree l c (ts ++ t ∷ []) st
  inst_next ts Open p ns os k st i e = same_frames ts Open (InstNext p) (InstName p) ns os k st i refl i.part_fits refl (same_state e)
  inst_next ts CloseSquare p ns os k st i e =
      begin_reached ts p i.frames k st i.text i.steps i.few i.fits i.part_fits
      (ap (λ ms. InProof c TreeNext (grown ms (positions i.frames) (new_node p)) (length ms ∷ positions i.frames) k) (sym i.nodes)
      ∙ (ap (λ ps. InProof c TreeNext (grown ns ps (new_node p)) (length ns ∷ ps) k) (sym i.places) ∙ same_state e))
  inst_next ts Close p ns os k st i e = absurd (err_ok _ _ e)
  inst_next ts OpenSquare p ns os k st i e = absurd (err_ok _ _ e)
  inst_next ts (Word w) p ns os k st i e = absurd (err_ok _ _ e)
  inst_next ts Bad p ns os k st i e = absurd (err_ok _ _ e)

  inside_reached : (ts : List TokenKind) (t : TokenKind) (q : Part) (ns : List PlainNode) (os : List ℕ) (k : ℕ) (st : State) → Inside l ts q ns os k
      → decide l (in_proof c q ns os k t) ≡ Ok st → InTree l c (ts ++ t ∷ []) st
  inside_reached ts t TreeNext ns os k st i e =
      tree_next ts t i.frames k st i.text i.steps i.few i.fits
      (ap (λ ms. decide l (at_tree c ms (positions i.frames) k t)) (sym i.nodes) ∙ (ap (λ ps. decide l (at_tree c ns ps k t)) (sym i.places) ∙ e))
  inside_reached ts t RuleNext ns os k st i e = part_reached ts t RuleNext ns os k st i e
  inside_reached ts t (PlaceNext r) ns os k st i e = part_reached ts t (PlaceNext r) ns os k st i e
  inside_reached ts t (AssumesNext p) ns os k st i e = part_reached ts t (AssumesNext p) ns os k st i e
  inside_reached ts t (AssumedNext p) ns os k st i e = part_reached ts t (AssumedNext p) ns os k st i e
  inside_reached ts t (InstsNext p) ns os k st i e = part_reached ts t (InstsNext p) ns os k st i e
  inside_reached ts t (InstNext p) ns os k st i e = inst_next ts t p ns os k st i e
  inside_reached ts t (InstName p) ns os k st i e = part_reached ts t (InstName p) ns os k st i e
  inside_reached ts t (InstBody p n readings.Before) ns os k st i e = body_reached ts t p n readings.Before ns os k st i e
  inside_reached ts t (InstBody p n (readings.Inside xs around)) ns os k st i e = body_reached ts t p n (readings.Inside xs around) ns os k st i e
  inside_reached ts t (InstBody p n (readings.Whole x)) ns os k st i e = inst_reached ts t p n x ns os k st i e
  inside_reached ts t TreeEnd ns os k st i e = absurd i.part_fits

-- ---- a token in a file

abbrev pub file_of : ℕ → List PlainProof → ScriptFile
file_of v done = record { version = v; proofs = done }

abbrev pub heard_proofs : ℕ → List PlainProof → List TokenKind
heard_proofs v done = Open ∷ Word (codes "jdl") ∷ Word (decimal v) ∷ spell_proofs done

abbrev pub heard_name : Context → List TokenKind → List TokenKind
heard_name c ts = heard_proofs c.version c.done ++ Open ∷ Word (codes "proof") ∷ Word c.name ∷ ts

pub more_proofs : (done : List PlainProof) (p : PlainProof) → spell_proofs (done ++ p ∷ []) ≡ spell_proofs done ++ spell_proof p
more_proofs [] p = append-nil (spell_proof p)
more_proofs (q ∷ done) p = ap (λ us. spell_proof q ++ us) (more_proofs done p) ∙ sym (append_assoc (spell_proof q) (spell_proofs done) (spell_proof p))

-- one proof more, of a new name
pub file_more : (l : Limits) (v : ℕ) (done : List PlainProof) (p : PlainProof) → FileFits l (file_of v done) → (l.distinct ≡ true → Contains (names_of done) p.name → ⊥) → ProofFits l p
    → FileFits l (file_of v (done ++ p ∷ []))
file_more l v done p h new fits = record {
  number = h.number;
  version = h.version;
  proofs = All-append (ProofFits l) done (p ∷ []) h.proofs (All-cons (ProofFits l) p [] fits (All-nil (ProofFits l)));
  names = λ d. subst AreDistinct (sym (map-append (λ (q : PlainProof). q.name) done (p ∷ []))) (one_more_distinct (names_of done) p.name (h.names d) (new d));
}

pub record ProofReached (l : Limits) (ts : List TokenKind) (c : Context) (q : Part) (ns : List PlainNode) (os : List ℕ) (k : ℕ) : Type 0 where
  pub behind : List TokenKind
  pub text : ts ≡ heard_name c behind
  pub fits : FileFits l (file_of c.version c.done)
  pub new : l.distinct ≡ true → Contains (names_of c.done) c.name → ⊥
  pub tree : TreeReached l behind q ns os k

-- what led to a state
abbrev pub Reached : Limits → List TokenKind → State → Type 0
Reached l ts FileNext = ts ≡ []
Reached l ts WordNext = ts ≡ Open ∷ []
Reached l ts VersionNext = ts ≡ Open ∷ Word (codes "jdl") ∷ []
Reached l ts (ProofNext v done) = (ts ≡ heard_proofs v done) × FileFits l (file_of v done)
Reached l ts (ProofWord v done) = (ts ≡ heard_proofs v done ++ Open ∷ []) × FileFits l (file_of v done)
Reached l ts (NameNext v done) = (ts ≡ heard_proofs v done ++ Open ∷ Word (codes "proof") ∷ []) × FileFits l (file_of v done)
Reached l ts (InProof c q ns os k) = ProofReached l ts c q ns os k
Reached l ts (FileEnd v done) = (ts ≡ heard_proofs v done ++ Close ∷ []) × FileFits l (file_of v done)

module _ (l : Limits) (ts : List TokenKind) where
  abbrev Goal : TokenKind → State → Type 0
  Goal t s = Reached l (ts ++ t ∷ []) s

  more_text : (front behind : List TokenKind) (t : TokenKind) → ts ≡ front ++ behind → ts ++ t ∷ [] ≡ front ++ (behind ++ t ∷ [])
  more_text front behind t e = ap (λ us. us ++ t ∷ []) e ∙ append_assoc front behind (t ∷ [])

  if_opened : (t : TokenKind) (s st : State) → (t ≡ Open → Goal t s) → decide l (if_open t (Goes s)) ≡ Ok st → Goal t st
  if_opened Open s st h e = subst (Goal Open) (same_state e) (h refl)
  if_opened Close s st h e = absurd (err_ok _ _ e)
  if_opened OpenSquare s st h e = absurd (err_ok _ _ e)
  if_opened CloseSquare s st h e = absurd (err_ok _ _ e)
  if_opened (Word w) s st h e = absurd (err_ok _ _ e)
  if_opened Bad s st h e = absurd (err_ok _ _ e)

  if_named : (u : List ℕ) (t : TokenKind) (s st : State) → (t ≡ Word u → Goal t s) → decide l (if_word u t (Goes s)) ≡ Ok st → Goal t st
  if_named u (Word w) s st h e =
      let g = if_true l (bytes_eq w u) (Goes s) st e in
      subst (Goal (Word w)) (same_state g.1) (h (ap Word ((bytes_eq-Decides w u).0 g.0)))
  if_named u Open s st h e = absurd (err_ok _ _ e)
  if_named u Close s st h e = absurd (err_ok _ _ e)
  if_named u OpenSquare s st h e = absurd (err_ok _ _ e)
  if_named u CloseSquare s st h e = absurd (err_ok _ _ e)
  if_named u Bad s st h e = absurd (err_ok _ _ e)

  one_version : (one : Bool) (n : ℕ) → (not one || (n == 1)) ≡ true → one ≡ true → n ≡ 1
  one_version false n e h = absurd (true≢false (sym h))
  one_version true n e h = eqb-true n 1 e

  versioned : (w : List ℕ) (o : Option ℕ) (st : State) → ts ≡ Open ∷ Word (codes "jdl") ∷ [] → read_number w ≡ o → decide l (of_version o) ≡ Ok st → Goal (Word w) st
  versioned w None st text is e = absurd (err_ok _ _ e)
  versioned w (Some n) st text is e =
      let g = if_passed l (VersionIs n) (ProofNext n []) st e in
      let k = number_is w n is in
      subst (Goal (Word w)) g.1 (
        ap (λ us. us ++ Word w ∷ []) text ∙ ap (λ u. Open ∷ Word (codes "jdl") ∷ Word u ∷ []) k.is,
        record { number = k.index; version = one_version l.one_version n g.0; proofs = All-nil (ProofFits l); names = λ _. none_distinct },
      )

  version_reached : (t : TokenKind) (st : State) → ts ≡ Open ∷ Word (codes "jdl") ∷ [] → decide l (at_version t) ≡ Ok st → Goal t st
  version_reached (Word w) st text e = versioned w (read_number w) st text refl e
  version_reached Open st text e = absurd (err_ok _ _ e)
  version_reached Close st text e = absurd (err_ok _ _ e)
  version_reached OpenSquare st text e = absurd (err_ok _ _ e)
  version_reached CloseSquare st text e = absurd (err_ok _ _ e)
  version_reached Bad st text e = absurd (err_ok _ _ e)

  proof_reached : (v : ℕ) (done : List PlainProof) (t : TokenKind) (st : State) → Reached l ts (ProofNext v done) → decide l (at_proof v done t) ≡ Ok st → Goal t st
  proof_reached v done Open st r e = subst (Goal Open) (same_state e) (ap (λ us. us ++ Open ∷ []) r.0, r.1)
  proof_reached v done Close st r e = subst (Goal Close) (same_state e) (ap (λ us. us ++ Close ∷ []) r.0, r.1)
  proof_reached v done OpenSquare st r e = absurd (err_ok _ _ e)
  proof_reached v done CloseSquare st r e = absurd (err_ok _ _ e)
  proof_reached v done (Word w) st r e = absurd (err_ok _ _ e)
  proof_reached v done Bad st r e = absurd (err_ok _ _ e)

  not_among : (distinct : Bool) (name : List ℕ) (names : List (List ℕ)) → not (distinct && list_any (bytes_eq name) names) ≡ true → distinct ≡ true → Contains names name → ⊥
  not_among false name names e h there = true≢false (sym h)
  not_among true name names e h there = absent names name (by_test (list_any (bytes_eq name) names) e) there
    where
      by_test : (b : Bool) → not b ≡ true → b ≡ false
      by_test false e = refl
      by_test true e = sym e

  name_reached : (v : ℕ) (done : List PlainProof) (t : TokenKind) (st : State) → Reached l ts (NameNext v done) → decide l (at_name v done t) ≡ Ok st → Goal t st
  name_reached v done (Word w) st r e =
      let c : Context = record { version = v; done = done; name = w } in
      let g = if_passed l (NameBehind w (names_of done)) (InProof c TreeNext [] [] 0) st e in
      subst (Goal (Word w)) g.1 (record {
        behind = [];
        text = more_text (heard_proofs v done) (Open ∷ Word (codes "proof") ∷ []) (Word w) r.0;
        fits = r.1;
        new = not_among l.distinct w (names_of done) g.0;
        tree = inl (record { frames = []; nodes = refl; places = refl; text = refl; steps = refl; few = omega arith; fits = tt; part_fits = tt });
      })
  name_reached v done Open st r e = absurd (err_ok _ _ e)
  name_reached v done Close st r e = absurd (err_ok _ _ e)
  name_reached v done OpenSquare st r e = absurd (err_ok _ _ e)
  name_reached v done CloseSquare st r e = absurd (err_ok _ _ e)
  name_reached v done Bad st r e = absurd (err_ok _ _ e)

  in_reached : (c : Context) (q : Part) (t : TokenKind) (ns : List PlainNode) (os : List ℕ) (k : ℕ) (st : State) (r : ProofReached l ts c q ns os k) → InTree l c (r.behind ++ t ∷ []) st → Goal t st
  in_reached c q t ns os k st r (p, ms, ps, n, is, reached) = subst (Goal t) (sym is) (record {
    behind = r.behind ++ t ∷ [];
    text = more_text (heard_proofs c.version c.done) (Open ∷ Word (codes "proof") ∷ Word c.name ∷ r.behind) t r.text;
    fits = r.fits;
    new = r.new;
    tree = reached;
  })

  ended : (c : Context) (ns : List PlainNode) (os : List ℕ) (k : ℕ) (st : State) (r : ProofReached l ts c TreeEnd ns os k) → Whole l r.behind ns k → decide l (proof_closed c ns) ≡ Ok st → Goal Close st
  ended c ns os k st r w e =
      let proof : PlainProof = record { name = c.name; tree = tree_of ns } in
      let g = if_true l (are_trees 1 ns) (Goes (ProofNext c.version (c.done ++ proof ∷ []))) st e in
      let tree : tree_of ns ≡ w.tree = ap tree_of w.nodes ∙ tree_of-preorder w.tree in
      let few : steps_in w.tree ≤ l.steps = let a = w.few in let b = w.steps in omega (arith, a, b) in
      let fits : ProofFits l (record { name = c.name; tree = w.tree }) = record { tree = w.fits; steps = few } in
      let fits : ProofFits l proof = subst (λ u. ProofFits l (record { name = c.name; tree = u })) (sym tree) fits in
      subst (Goal Close) (same_state g.1) (
        more_text (heard_proofs c.version c.done) (Open ∷ Word (codes "proof") ∷ Word c.name ∷ r.behind) Close r.text
            ∙ (ap (λ us. heard_proofs c.version c.done ++ Open ∷ Word (codes "proof") ∷ Word c.name ∷ (us ++ Close ∷ [])) (w.text ∙ ap spell_tree (sym tree))
            ∙ ap (λ us. Open ∷ Word (codes "jdl") ∷ Word (decimal c.version) ∷ us) (sym (more_proofs c.done proof))),
        file_more l c.version c.done proof r.fits r.new fits,
      )

  end_reached : (c : Context) (t : TokenKind) (ns : List PlainNode) (os : List ℕ) (k : ℕ) (st : State) (r : ProofReached l ts c TreeEnd ns os k) → Whole l r.behind ns k → decide l (if_close t (proof_closed c ns)) ≡ Ok st → Goal t st
  end_reached c Close ns os k st r w e = ended c ns os k st r w e
  end_reached c Open ns os k st r w e = absurd (err_ok _ _ e)
  end_reached c OpenSquare ns os k st r w e = absurd (err_ok _ _ e)
  end_reached c CloseSquare ns os k st r w e = absurd (err_ok _ _ e)
  end_reached c (Word w) ns os k st r h e = absurd (err_ok _ _ e)
  end_reached c Bad ns os k st r w e = absurd (err_ok _ _ e)

  tree_token : (c : Context) (q : Part) (t : TokenKind) (ns : List PlainNode) (os : List ℕ) (k : ℕ) (st : State) (r : ProofReached l ts c q ns os k) → TreeReached l r.behind q ns os k
      → decide l (in_proof c q ns os k t) ≡ Ok st → Goal t st
  tree_token c q t ns os k st r (inl i) e = in_reached c q t ns os k st r (inside_reached l c r.behind t q ns os k st i e)
  tree_token c TreeEnd t ns os k st r (inr (is, w)) e = end_reached c t ns os k st r w e
  tree_token c TreeNext t ns os k st r (inr (is, w)) e = absurd cc
  tree_token c RuleNext t ns os k st r (inr (is, w)) e = absurd cc
  tree_token c (PlaceNext x) t ns os k st r (inr (is, w)) e = absurd cc
  tree_token c (AssumesNext p) t ns os k st r (inr (is, w)) e = absurd cc
  tree_token c (AssumedNext p) t ns os k st r (inr (is, w)) e = absurd cc
  tree_token c (InstsNext p) t ns os k st r (inr (is, w)) e = absurd cc
  tree_token c (InstNext p) t ns os k st r (inr (is, w)) e = absurd cc
  tree_token c (InstName p) t ns os k st r (inr (is, w)) e = absurd cc
  tree_token c (InstBody p n x) t ns os k st r (inr (is, w)) e = absurd cc

  pub step_reached : (t : TokenKind) (st s : State) → Reached l ts st → step l st t ≡ Ok s → Reached l (ts ++ t ∷ []) s
  step_reached t FileNext s r e = if_opened t WordNext s (λ is. ap (λ us. us ++ t ∷ []) r ∙ ap (λ u. u ∷ []) is) e
  step_reached t WordNext s r e = if_named (codes "jdl") t VersionNext s (λ is. ap (λ us. us ++ t ∷ []) r ∙ ap (λ u. Open ∷ u ∷ []) is) e
  step_reached t VersionNext s r e = version_reached t s r e
  step_reached t (ProofNext v done) s r e = proof_reached v done t s r e
  step_reached t (ProofWord v done) s r e =
      if_named (codes "proof") t (NameNext v done) s (λ is. (more_text (heard_proofs v done) (Open ∷ []) t r.0 ∙ ap (λ u. heard_proofs v done ++ Open ∷ u ∷ []) is, r.1)) e
  step_reached t (NameNext v done) s r e = name_reached v done t s r e
  step_reached t (InProof c q ns os k) s r e = tree_token c q t ns os k s r r.tree e
  step_reached t (FileEnd v done) s r e = absurd (err_ok _ _ e)

run_reached : (us : List TokenKind) (l : Limits) (ts : List TokenKind) (st s : State) → Reached l ts st → run l us st ≡ Ok s → Reached l (ts ++ us) s
unfolding run
run_reached [] l ts st s r e = subst (λ vs. Reached l vs s) (sym (append-nil ts)) (subst (Reached l ts) (same_state e) r)
run_reached (t ∷ us) l ts st s r e =
    let k = ran (run l us) (step l st t) s e in
    subst (λ vs. Reached l vs s) (append_assoc ts (t ∷ []) us) (run_reached us l (ts ++ t ∷ []) k.0 s (step_reached l ts t st k.0 r k.1) k.2)

pub reached : (l : Limits) (ts : List TokenKind) (st : State) → run l ts FileNext ≡ Ok st → Reached l ts st
reached l ts st e = run_reached ts l [] FileNext st refl e

pub is_file : (l : Limits) (ts : List TokenKind) (v : ℕ) (done : List PlainProof) → run l ts FileNext ≡ Ok (FileEnd v done) → IsFile l ts (file_of v done)
is_file l ts v done e = let r = reached l ts (FileEnd v done) e in record { spelled = r.0; fits = r.1 }
