-- What the program prints, and when.
use Rattle.std.specs.Prelude.{◌≡◌, ℕ, ◌+◌, ◌<◌, Bool, true, false, List, [], ◌∷◌, ◌++◌, length, map, Option, Some, None, codes}
use Rattle.std.specs.Fmt.{decimal}
use Rattle.jd_lex.specs.Parts.{Fault, BadByte, OpenComment, BigLiteral}
use Rattle.jd_jclasses.specs.Refusals as classes
use Rattle.jd_source.specs.Sources.{Reason, Faulty, Unsupported, NoFile, TooDeep}
use Rattle.jd_model.specs.Sequents.{PlainSequent, sequent_view}
use Rattle.jd_sequent_print.specs.Lines.{sequent_text}
use Rattle.jd_tgrammar.specs.NameTables.{NameTable}
use Rattle.jd_sequent.specs.Trees.{PlainStep, ProofTree, steps_in}
use Rattle.jd_sequent.specs.Derives.{Derives}
use Rattle.jd_sequent.specs.declared.bad.Bad.{Bad}
use Rattle.jd_sequent.specs.declared.bad.Bad.TheVariants.{UnknownRule, NoFormula, NoPlace, WrongPlaceKind, NoMatch, MissingInst, BadInst, NoAssume, NotFresh, SideCondition, NoContract, NoDecreases, TooLarge, NoMemory as OutOfMemory}
use Rattle.jd_replay.specs.declared.verdict.Verdict.{Verdict}
use Rattle.jd_replay.specs.declared.verdict.Verdict.TheVariants.{Closed, Open, Bad as Broken}
use Rattle.jd_replay.specs.declared.verdict.Cause.{Cause}
use Rattle.jd_replay.specs.declared.verdict.Cause.TheVariants.{Rule, BranchCount}
use Rattle.jd_replay.specs.FirstBad.{FirstBad}
use Rattle.jd_scripts.specs.Answers as script
use Rattle.jd_scripts.specs.Answers.{Answer}
use Rattle.jd_bodies.specs.declared.fault.Cause.{Cause as BodyCause}
use Rattle.jd_bodies.specs.declared.fault.Cause.TheVariants as body
use Rattle.jd_specifications.specs.declared.fault.SpecCause.{SpecCause}
use Rattle.jd_specifications.specs.declared.fault.SpecCause.TheVariants as jml
use Rattle.jd_refusals.specs.declared.refused.Refusal.{Refusal as TokenRefusal}
use Rattle.jd_refusals.specs.declared.refused.Refusal.TheVariants.{Body, Jml}
use Rattle.jd_answer.specs.declared.status.Status.{Status}
use Rattle.jd_answer.specs.declared.status.Status.TheVariants.{Done, NotAccepted}

abbrev pub line : List ℕ → List ℕ
line text = text ++ (10 ∷ [])

-- ---- the lines of refusals

abbrev pub usage_text : List ℕ
usage_text = line (codes "usage: jdl COMMAND ARGUMENT..")

-- of a file whose form has no obligation yet
abbrev pub unbuilt_text : List ℕ → List ℕ
unbuilt_text file = line (codes "refused " ++ (file ++ codes " Unbuilt at 0"))

-- a kind of refusal, and its place in the file
abbrev pub placed_text : List ℕ → ℕ → List ℕ
placed_text kind at = kind ++ (codes " at " ++ decimal at)

abbrev pub fault_text : Fault → List ℕ
fault_text (BadByte at) = placed_text (codes "BadByte") at
fault_text (OpenComment at) = placed_text (codes "OpenComment") at
fault_text (BigLiteral at) = placed_text (codes "BigLiteral") at

-- why a file is not read; a token that is not supported is named
abbrev pub reason_text : Reason → List ℕ
reason_text (Faulty fault) = fault_text fault
reason_text (Unsupported at what) = placed_text (codes "Unsupported") at ++ (32 ∷ what)
reason_text (NoFile at) = placed_text (codes "Syntax") at
reason_text (TooDeep at) = placed_text (codes "TooDeep") at

abbrev pub refusal_text : List ℕ → Reason → List ℕ
refusal_text file reason = line (codes "refused " ++ (file ++ (32 ∷ reason_text reason)))

-- the kind of a refusal of classes, the number of the file, and the place in it; none of a limit
abbrev pub class_kind : classes.Refusal → Option (List ℕ × (ℕ × ℕ))
class_kind (classes.DuplicateClass file at) = Some (codes "DuplicateClass", (file, at))
class_kind (classes.UnknownSuper file at) = Some (codes "UnknownSuper", (file, at))
class_kind (classes.CyclicExtends file at) = Some (codes "CyclicExtends", (file, at))
class_kind (classes.DuplicateMember file at) = Some (codes "DuplicateMember", (file, at))
class_kind (classes.Hiding file at) = Some (codes "Hiding", (file, at))
class_kind (classes.Overload file at) = Some (codes "Overload", (file, at))
class_kind (classes.BadOverride file at) = Some (codes "BadOverride", (file, at))
class_kind classes.ManyClasses = None
class_kind classes.ManyMethods = None

abbrev pub placed_refusal_text : List ℕ → List ℕ → ℕ → List ℕ
placed_refusal_text name kind at = line (codes "refused " ++ (name ++ (32 ∷ placed_text kind at)))

-- the kind of a refusal of a token of a body, and of JML
abbrev pub body_kind : BodyCause → List ℕ
body_kind body.UnknownName = codes "UnknownName"
body_kind body.UnknownClass = codes "UnknownClass"
body_kind body.UnknownMethod = codes "UnknownMethod"
body_kind body.TypeMismatch = codes "TypeMismatch"
body_kind body.WrongArity = codes "WrongArity"
body_kind body.BadTarget = codes "BadTarget"
body_kind body.BadLabel = codes "BadLabel"
body_kind body.Redeclared = codes "Redeclared"

abbrev pub jml_kind : SpecCause → List ℕ
jml_kind jml.UnknownName = codes "UnknownName"
jml_kind jml.TypeMismatch = codes "TypeMismatch"
jml_kind jml.ResultHere = codes "ResultHere"
jml_kind jml.OldHere = codes "OldHere"
jml_kind jml.InvariantRecursion = codes "InvariantRecursion"
jml_kind jml.CallInSpec = codes "CallInSpec"
jml_kind jml.BadClause = codes "BadClause"

abbrev pub token_kind : TokenRefusal → List ℕ
token_kind (Body cause) = body_kind cause
token_kind (Jml cause) = jml_kind cause

-- the kind of a refusal of a proof file; none where it is read, and none of a limit
abbrev pub script_kind : Answer → Option (List ℕ)
script_kind (script.Proofs ps) = None
script_kind script.OtherVersion = Some (codes "Version")
script_kind (script.Syntax at) = Some (placed_text (codes "Syntax") at)
script_kind (script.DuplicateProof name) = Some (codes "DuplicateProof " ++ name)
script_kind script.Truncated = Some (codes "Truncated")
script_kind script.TooManySteps = None
script_kind (script.TooDeep at) = Some (placed_text (codes "TooDeep") at)

-- of a proof of this name, which no obligation has
abbrev pub unknown_kind : List ℕ → List ℕ
unknown_kind name = codes "UnknownObligation " ++ name

abbrev pub script_refusal_text : List ℕ → List ℕ → List ℕ
script_refusal_text file kind = line (codes "refused " ++ (file ++ (32 ∷ kind)))

-- ---- the lines of limits

abbrev pub files_limit_text : List ℕ
files_limit_text = line (codes "limit files 64")

abbrev pub class_limit_text : List ℕ
class_limit_text = line (codes "limit classes 256")

abbrev pub method_limit_text : List ℕ
method_limit_text = line (codes "limit methods 2048")

abbrev pub proof_limit_text : List ℕ
proof_limit_text = line (codes "limit proof-bytes 16777216")

-- of the steps of a proof
abbrev pub steps_limit_text : List ℕ
steps_limit_text = line (codes "limit nodes 500000")

abbrev pub file_limit_text : List ℕ
file_limit_text = line (codes "limit file-bytes 1048576")

-- of the formulas of an obligation's sequent, and of the sequent
abbrev pub formula_limit_text : List ℕ
formula_limit_text = line (codes "limit formula 100000")

abbrev pub report_limit_text : List ℕ
report_limit_text = line (codes "limit report 67108864")

-- ---- the lines of verdicts

abbrev pub accepted_text : List ℕ
accepted_text = line (codes "accepted 1 of 1")

abbrev pub not_accepted_text : List ℕ
not_accepted_text = line (codes "accepted 0 of 1")

abbrev pub closed_text : List ℕ → ℕ → List ℕ
closed_text name steps = line (name ++ (codes " closed " ++ decimal steps)) ++ accepted_text

-- each goal that a proof leaves, with its number from this one on
abbrev pub goals_from : NameTable → ℕ → List PlainSequent → List ℕ
goals_from names n [] = []
goals_from names n (s ∷ ss) = line (codes "goal " ++ decimal n) ++ (sequent_text names s ++ goals_from names (n + 1) ss)

-- where they are asked for
abbrev pub goals_text : Bool → NameTable → List PlainSequent → List ℕ
goals_text false names goals = []
goals_text true names goals = goals_from names 1 goals

-- with what is said of the goals
abbrev pub open_text : List ℕ → List ℕ → ℕ → List ℕ
open_text name said goals = line (name ++ (codes " open " ++ decimal goals)) ++ (said ++ not_accepted_text)

abbrev pub missing_text : List ℕ → List ℕ
missing_text name = line (name ++ codes " missing") ++ not_accepted_text

-- the number and the name of a cause
abbrev pub bad_kind : Bad → List ℕ
bad_kind UnknownRule = codes "1 UnknownRule"
bad_kind NoFormula = codes "2 NoFormula"
bad_kind NoPlace = codes "3 NoPlace"
bad_kind WrongPlaceKind = codes "4 WrongPlaceKind"
bad_kind NoMatch = codes "5 NoMatch"
bad_kind MissingInst = codes "6 MissingInst"
bad_kind BadInst = codes "7 BadInst"
bad_kind NoAssume = codes "8 NoAssume"
bad_kind NotFresh = codes "9 NotFresh"
bad_kind SideCondition = codes "10 SideCondition"
bad_kind NoContract = codes "11 NoContract"
bad_kind NoDecreases = codes "12 NoDecreases"
bad_kind TooLarge = codes "13 TooLarge"
bad_kind OutOfMemory = codes "14 NoMemory"

abbrev pub cause_text : Cause → List ℕ
cause_text (Rule bad) = bad_kind bad
cause_text (BranchCount script rule) = codes "15 BranchCount " ++ (decimal script ++ (codes " " ++ decimal rule))

abbrev pub bad_text : List ℕ → ℕ → Cause → List ℕ
bad_text name node cause = line (name ++ (codes " bad " ++ (decimal node ++ (codes " " ++ cause_text cause)))) ++ not_accepted_text

-- the status and the report of a verdict
abbrev pub verdict_status : Verdict → Status
verdict_status (Closed steps) = Done
verdict_status (Open goals) = NotAccepted
verdict_status (Broken node cause) = NotAccepted

abbrev pub verdict_text : List ℕ → List ℕ → Verdict → List ℕ
verdict_text name said (Closed steps) = closed_text name steps
verdict_text name said (Open goals) = open_text name said (length goals.items)
verdict_text name said (Broken node cause) = bad_text name node cause

-- what is said of the goals of a verdict that leaves some
abbrev pub said_of_verdict : (List PlainSequent → List ℕ) → Verdict → List ℕ
said_of_verdict said (Closed steps) = []
said_of_verdict said (Open goals) = said (map sequent_view goals.items)
said_of_verdict said (Broken node cause) = []

-- the report of a proof or none for an obligation of this name and sequent, where a step leads from a sequent to its premises or
-- has causes by their numbers, and this is said of goals that are left; of a proof that is bad it names the first bad step and its cause
pub data IsReport (leads : PlainSequent → PlainStep → List PlainSequent → Type 0) (causes : PlainSequent → PlainStep → ℕ → Type 0) (said : List PlainSequent → List ℕ) (name : List ℕ) (goal : PlainSequent) (proof : Option ProofTree) : Status → List ℕ → Type 0 where
  missing : proof ≡ None → IsReport leads causes said name goal proof NotAccepted (missing_text name)
  closed : (tree : ProofTree) → proof ≡ Some tree → Derives leads tree goal [] → IsReport leads causes said name goal proof Done (closed_text name (steps_in tree))
  opened : (tree : ProofTree) (goals : List PlainSequent) → proof ≡ Some tree → Derives leads tree goal goals → 0 < length goals → IsReport leads causes said name goal proof NotAccepted (open_text name (said goals) (length goals))
  broken : (tree : ProofTree) (node : ℕ) (cause : Cause) → proof ≡ Some tree → FirstBad leads causes tree goal node cause → IsReport leads causes said name goal proof NotAccepted (bad_text name node cause)
