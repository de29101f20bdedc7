-- The token that gives a name that was there is that name.
use Rattle.std.proofs.Common.{◌≡◌, ℕ, Bool, true, false, cond, List, [], ◌∷◌, Option, Some, None, Result, Ok, Err, refl, bytes_eq}
use Rattle.std.specs.Prelude.{codes}
use Rattle.jd_syntax.specs.Sxs.{Atom}
use Rattle.jd_bracketed.specs.Tokens.{TokenKind, Open, Close, OpenSquare, CloseSquare, Word, Bad}
use Rattle.jd_bracketed.specs.Readings as readings
use Rattle.jd_sequent.specs.Trees.{PlainStep, PlainNode, are_trees}
use Rattle.jd_scripts.specs.ReadPlaces.{read_number}
use Rattle.jd_scripts.specs.Scripts.{PlainProof, Limits}
use Rattle.jd_scripts.specs.Answers.{Names}
use Rattle.jd_scripts.specs.Results.{word_of}
use Rattle.jd_scripts.specs.Machine.{State, FileNext, WordNext, VersionNext, ProofNext, ProofWord, NameNext, InProof, FileEnd, Part, TreeNext, RuleNext, PlaceNext, AssumesNext, AssumedNext, InstsNext, InstNext, InstName, InstBody, TreeEnd, Context, Next, Wrong, Goes, GoesIf, Check, VersionIs, NameBehind, StepBehind, BracketInside, Fault, Over, limit_of, passes, part_step, goes_part, if_open, if_word, if_close, of_version, at_version, at_proof, at_name, at_tree, at_inst, in_body, goes_on, goes_deeper, closed, proof_closed, in_proof, next, decide, step}

abbrev Named : TokenKind → Next → Type 0
Named t Wrong = Unit {0}
Named t (Goes s) = Unit {0}
Named t (GoesIf (VersionIs n) s) = Unit {0}
Named t (GoesIf (NameBehind w names) s) = t ≡ Word w
Named t (GoesIf (StepBehind k) s) = Unit {0}
Named t (GoesIf (BracketInside n) s) = Unit {0}

module _ (u : TokenKind) where
  if_opens : (t : TokenKind) (s : State) → Named u (if_open t (Goes s))
  if_opens Open s = tt
  if_opens Close s = tt
  if_opens OpenSquare s = tt
  if_opens CloseSquare s = tt
  if_opens (Word w) s = tt
  if_opens Bad s = tt

  either : (b : Bool) (s : State) → Named u (cond b (Goes s) Wrong)
  either true s = tt
  either false s = tt

  if_words : (w : List ℕ) (t : TokenKind) (s : State) → Named u (if_word w t (Goes s))
  if_words w Open s = tt
  if_words w Close s = tt
  if_words w OpenSquare s = tt
  if_words w CloseSquare s = tt
  if_words w (Word v) s = either (bytes_eq v w) s
  if_words w Bad s = tt

  versions : (o : Option ℕ) → Named u (of_version o)
  versions None = tt
  versions (Some n) = tt

  at_versions : (t : TokenKind) → Named u (at_version t)
  at_versions Open = tt
  at_versions Close = tt
  at_versions OpenSquare = tt
  at_versions CloseSquare = tt
  at_versions (Word w) = versions (read_number w)
  at_versions Bad = tt

  at_proofs : (v : ℕ) (done : List PlainProof) (t : TokenKind) → Named u (at_proof v done t)
  at_proofs v done Open = tt
  at_proofs v done Close = tt
  at_proofs v done OpenSquare = tt
  at_proofs v done CloseSquare = tt
  at_proofs v done (Word w) = tt
  at_proofs v done Bad = tt

  module _ (c : Context) (ns : List PlainNode) (os : List ℕ) (k : ℕ) where
    parts : (o : Option Part) → Named u (goes_part c ns os k o)
    parts None = tt
    parts (Some q) = tt

    closes : (os : List ℕ) → Named u (closed c ns os k)
    closes [] = tt
    closes (o ∷ os) = tt

    trees : (t : TokenKind) → Named u (at_tree c ns os k t)
    trees Open = tt
    trees Close = closes os
    trees OpenSquare = tt
    trees CloseSquare = tt
    trees (Word w) = either (bytes_eq w (codes "-")) _
    trees Bad = tt

    insts : (p : PlainStep) (t : TokenKind) → Named u (at_inst p c ns os k t)
    insts p Open = tt
    insts p Close = tt
    insts p OpenSquare = tt
    insts p CloseSquare = tt
    insts p (Word w) = tt
    insts p Bad = tt

    on_goes : (f : readings.State → State) (r : Result readings.State readings.Fault) → Named u (goes_on f r)
    on_goes f (Ok x) = tt
    on_goes f (Err e) = tt

    deeper : (n : ℕ) (f : readings.State → State) (r : Result readings.State readings.Fault) → Named u (goes_deeper n f r)
    deeper n f (Ok x) = tt
    deeper n f (Err e) = tt

    bodies : (f : readings.State → State) (x : readings.State) (t : TokenKind) → Named u (in_body f x t)
    bodies f x Open = deeper (readings.level x) f (readings.opened x)
    bodies f x Close = on_goes f (readings.closed x)
    bodies f x OpenSquare = tt
    bodies f x CloseSquare = tt
    bodies f x (Word w) = on_goes f (readings.added (Atom w) x)
    bodies f x Bad = tt

    closing : (t : TokenKind) (n : Next) → Named u n → Named u (if_close t n)
    closing Open n h = tt
    closing Close n h = h
    closing OpenSquare n h = tt
    closing CloseSquare n h = tt
    closing (Word w) n h = tt
    closing Bad n h = tt

    proofs : (q : Part) (t : TokenKind) → Named u (in_proof c q ns os k t)
    proofs TreeNext t = trees t
    proofs RuleNext t = parts (part_step RuleNext t)
    proofs (PlaceNext r) t = parts (part_step (PlaceNext r) t)
    proofs (AssumesNext p) t = parts (part_step (AssumesNext p) t)
    proofs (AssumedNext p) t = parts (part_step (AssumedNext p) t)
    proofs (InstsNext p) t = parts (part_step (InstsNext p) t)
    proofs (InstNext p) t = insts p t
    proofs (InstName p) t = parts (part_step (InstName p) t)
    proofs (InstBody p n readings.Before) t = bodies (λ x. InProof c (InstBody p n x) ns os k) readings.Before t
    proofs (InstBody p n (readings.Inside xs around)) t = bodies (λ x. InProof c (InstBody p n x) ns os k) (readings.Inside xs around) t
    proofs (InstBody p n (readings.Whole x)) t = closing t _ tt
    proofs TreeEnd t = closing t (proof_closed c ns) (either (are_trees 1 ns) _)

names : (v : ℕ) (done : List PlainProof) (t : TokenKind) → Named t (at_name v done t)
names v done Open = tt
names v done Close = tt
names v done OpenSquare = tt
names v done CloseSquare = tt
names v done (Word w) = refl
names v done Bad = tt

each : (st : State) (t : TokenKind) → Named t (next st t)
each FileNext t = if_opens t t WordNext
each WordNext t = if_words t (codes "jdl") t VersionNext
each VersionNext t = at_versions t t
each (ProofNext v done) t = at_proofs t v done t
each (ProofWord v done) t = if_words t (codes "proof") t (NameNext v done)
each (NameNext v done) t = names v done t
each (InProof c q ns os k) t = proofs t c ns os k q t
each (FileEnd v done) t = tt

is_word : (w : List ℕ) (t : TokenKind) → t ≡ Word w → t ≡ Word (word_of t)
is_word w (Word v) e = refl
is_word w Open e = absurd cc
is_word w Close e = absurd cc
is_word w OpenSquare e = absurd cc
is_word w CloseSquare e = absurd cc
is_word w Bad e = absurd cc

over_names : (l : Limits) (t : TokenKind) (x : Next) → Named t x → decide l x ≡ Err (Over Names) → t ≡ Word (word_of t)
over_names l t Wrong h e = absurd cc
over_names l t (Goes s) h e = absurd cc
over_names l t (GoesIf check s) h e = by_test (passes l check) e check h
  where
    other : (check : Check) → Named t (GoesIf check s) → limit_of check ≡ Names → t ≡ Word (word_of t)
    other (VersionIs n) h e = absurd cc
    other (NameBehind w names) h e = is_word w t h
    other (StepBehind k) h e = absurd cc
    other (BracketInside n) h e = absurd cc

    by_test : (b : Bool) → cond b (let r : Result State Fault = Ok s in r) (Err (Over (limit_of check))) ≡ Err (Over Names) → (check' : Check) → Named t (GoesIf check s) → t ≡ Word (word_of t)
    by_test true e _ h = absurd cc
    by_test false e _ h = other check h cc

pub name_is : (l : Limits) (st : State) (t : TokenKind) → step l st t ≡ Err (Over Names) → t ≡ Word (word_of t)
name_is l st t e = over_names l t (next st t) (each st t) e
