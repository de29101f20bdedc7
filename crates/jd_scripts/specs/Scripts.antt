-- Files of proof scripts and the tokens that spell them.
use Rattle.std.specs.Prelude.{◌≡◌, ◌≤◌, ℕ, Bool, true, List, [], ◌∷◌, ◌++◌, map, Option, codes}
use Rattle.std.specs.List.{All, Contains}
use Rattle.jd_syntax.specs.Sxs.{Bracketed}
use Rattle.jd_bracketed.specs.Tokens.{TokenKind, Open, Close, OpenSquare, CloseSquare, Word}
use Rattle.jd_bracketed.specs.Trees as brackets
use Rattle.jd_model.specs.Sequents.{PlainPlace}
use Rattle.jd_sequent.specs.Trees.{PlainStep, ProofTree, OpenLeaf, ByStep, ProofTrees, NoTrees, TreeThen, steps_in}
use Rattle.jd_scripts.specs.Places.{IsIndex, IsPlace, decimal, written_place}

pub record PlainProof : Type 0 where
  pub name : List ℕ
  pub tree : ProofTree

-- a file, with the version of its form
pub record ScriptFile : Type 0 where
  pub version : ℕ
  pub proofs : List PlainProof

-- ---- how files are spelled

abbrev pub spell_place : Option PlainPlace → TokenKind
spell_place p = Word (written_place p)

-- a name and an expression
abbrev pub Inst : Type 0
Inst = List ℕ × Bracketed

abbrev pub spell_insts : List Inst → List TokenKind
spell_insts [] = []
spell_insts (i ∷ is) = Open ∷ Word i.0 ∷ (brackets.spell i.1 ++ Close ∷ spell_insts is)

-- a step, up to its trees
abbrev pub spell_step : PlainStep → List TokenKind
spell_step p =
    Open ∷ Word p.rule ∷ spell_place p.place ∷ OpenSquare ∷ (map spell_place p.assumes ++ CloseSquare ∷ OpenSquare ∷ (spell_insts p.insts ++ CloseSquare ∷ []))

abbrev mutual
  pub spell_tree : ProofTree → List TokenKind
  spell_tree OpenLeaf = Word (codes "-") ∷ []
  spell_tree (ByStep p ts) = spell_step p ++ (spell_trees ts ++ Close ∷ [])

  pub spell_trees : ProofTrees → List TokenKind
  spell_trees NoTrees = []
  spell_trees (TreeThen t ts) = spell_tree t ++ spell_trees ts

abbrev pub spell_proof : PlainProof → List TokenKind
spell_proof p = Open ∷ Word (codes "proof") ∷ Word p.name ∷ (spell_tree p.tree ++ Close ∷ [])

abbrev pub spell_proofs : List PlainProof → List TokenKind
spell_proofs [] = []
spell_proofs (p ∷ ps) = spell_proof p ++ spell_proofs ps

abbrev pub spell_file : ScriptFile → List TokenKind
spell_file f = Open ∷ Word (codes "jdl") ∷ Word (decimal f.version) ∷ (spell_proofs f.proofs ++ Close ∷ [])

-- ---- which files there are, within limits

-- whether the version has to be 1 and the names have to differ; how many steps a proof may have, and how many levels of
-- brackets the expressions of its instantiations
pub record Limits : Type 0 where
  pub one_version : Bool
  pub distinct : Bool
  pub steps : ℕ
  pub levels : ℕ

pub record StepFits (levels : ℕ) (p : PlainStep) : Type 0 where
  pub place : IsPlace p.place
  pub assumes : All IsPlace p.assumes
  pub insts : All (λ (i : Inst). brackets.depth i.1 ≤ levels) p.insts

abbrev mutual
  pub TreeFits : ℕ → ProofTree → Type 0
  TreeFits levels OpenLeaf = Unit {0}
  TreeFits levels (ByStep p ts) = StepFits levels p × TreesFit levels ts

  pub TreesFit : ℕ → ProofTrees → Type 0
  TreesFit levels NoTrees = Unit {0}
  TreesFit levels (TreeThen t ts) = TreeFits levels t × TreesFit levels ts

pub record ProofFits (limits : Limits) (p : PlainProof) : Type 0 where
  pub tree : TreeFits limits.levels p.tree
  pub steps : steps_in p.tree ≤ limits.steps

-- no name stands behind the same one
abbrev pub AreDistinct : List (List ℕ) → Type 0
AreDistinct names = (front behind : List (List ℕ)) (name : List ℕ) → names ≡ front ++ name ∷ behind → Contains front name → ⊥

abbrev pub names_of : List PlainProof → List (List ℕ)
names_of ps = map (λ p. p.name) ps

pub record FileFits (limits : Limits) (f : ScriptFile) : Type 0 where
  pub number : IsIndex f.version
  pub version : limits.one_version ≡ true → f.version ≡ 1
  pub proofs : All (ProofFits limits) f.proofs
  pub names : limits.distinct ≡ true → AreDistinct (names_of f.proofs)

-- the tokens are this file's, within the limits
pub record IsFile (limits : Limits) (ts : List TokenKind) (f : ScriptFile) : Type 0 where
  pub spelled : ts ≡ spell_file f
  pub fits : FileFits limits f

-- a file within the limits begins with these tokens, or is these
abbrev pub IsFront : Limits → List TokenKind → Type 0
IsFront limits ts = (more : List TokenKind) × (f : ScriptFile) × IsFile limits (ts ++ more) f
