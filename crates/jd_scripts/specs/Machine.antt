-- Reading the tokens of a file from left to right, with the steps that are open.
use Rattle.std.specs.Prelude.{◌≡◌, ℕ, zero, suc, ◌+◌, ◌==◌, Bool, true, not, ◌||◌, ◌&&◌, cond, nat_lt, List, [], ◌∷◌, ◌++◌, length, Option, Some, None, option_map, Result, Ok, Err, codes}
use Rattle.std.specs.List.{list_any}
use Rattle.std.specs.Str.{bytes_eq}
use Rattle.jd_syntax.specs.Sxs.{Bracketed, Atom}
use Rattle.jd_bracketed.specs.Tokens.{TokenKind, Open, Close, OpenSquare, CloseSquare, Word, Bad}
use Rattle.jd_bracketed.specs.Readings as brackets
use Rattle.jd_model.specs.Sequents.{PlainPlace}
use Rattle.jd_sequent.specs.Trees.{PlainStep, PlainNode, are_trees, tree_of}
use Rattle.jd_scripts.specs.ReadPlaces.{read_number, read_place}
use Rattle.jd_scripts.specs.Scripts.{PlainProof, Limits, names_of}
use Rattle.jd_scripts.specs.Answers.{Limit, Version, Names, Steps, Levels}

-- ---- states

-- what comes next in a proof: a tree or the end of the innermost step; a part of a step; behind the last tree, the end of the
-- proof
pub data Part : Type 0 where
  TreeNext : Part
  RuleNext : Part
  PlaceNext : List ℕ → Part
  AssumesNext : PlainStep → Part
  AssumedNext : PlainStep → Part
  InstsNext : PlainStep → Part
  InstNext : PlainStep → Part
  InstName : PlainStep → Part
  InstBody : PlainStep → List ℕ → brackets.State → Part
  TreeEnd : Part

-- the version, the proofs so far, and the name of the one that is read
pub record Context : Type 0 where
  pub version : ℕ
  pub done : List PlainProof
  pub name : List ℕ

-- what comes next in a file: its bracket, `jdl`, the version, a proof or the end, `proof`, a name, and a part of a proof, where
-- the nodes so far are given, the places among them of the open steps, the innermost first, and how many steps were opened
pub data State : Type 0 where
  FileNext : State
  WordNext : State
  VersionNext : State
  ProofNext : ℕ → List PlainProof → State
  ProofWord : ℕ → List PlainProof → State
  NameNext : ℕ → List PlainProof → State
  InProof : Context → Part → List PlainNode → List ℕ → ℕ → State
  FileEnd : ℕ → List PlainProof → State

-- ---- what a token leads to

-- what has to be within the limits: the version, a name behind others, that one step more is opened behind so many, and one
-- bracket more inside so many
pub data Check : Type 0 where
  VersionIs : ℕ → Check
  NameBehind : List ℕ → List (List ℕ) → Check
  StepBehind : ℕ → Check
  BracketInside : ℕ → Check

pub data Next : Type 0 where
  Wrong : Next
  Goes : State → Next
  GoesIf : Check → State → Next

-- ---- nodes

abbrev pub one_child_more : ℕ → List PlainNode → List PlainNode
one_child_more i [] = []
one_child_more zero (n ∷ ns) = record { step = n.step; children = n.children + 1 } ∷ ns
one_child_more (suc i) (n ∷ ns) = n ∷ one_child_more i ns

abbrev pub counted : List PlainNode → List ℕ → List PlainNode
counted ns [] = ns
counted ns (i ∷ is) = one_child_more i ns

-- the nodes with one more, a child of the innermost open step
abbrev pub grown : List PlainNode → List ℕ → PlainNode → List PlainNode
grown ns is n = counted ns is ++ n ∷ []

-- ---- a part of a step

abbrev pub step_at : List ℕ → Option PlainPlace → PlainStep
step_at r q = record { rule = r; place = q; assumes = []; insts = [] }

abbrev pub with_assumed : PlainStep → Option PlainPlace → PlainStep
with_assumed p q = record { rule = p.rule; place = p.place; assumes = p.assumes ++ q ∷ []; insts = p.insts }

abbrev pub with_inst : PlainStep → List ℕ → Bracketed → PlainStep
with_inst p n x = record { rule = p.rule; place = p.place; assumes = p.assumes; insts = p.insts ++ (n, x) ∷ [] }

abbrev pub placed : List ℕ → TokenKind → Option Part
placed r (Word w) = option_map (λ q. AssumesNext (step_at r q)) (read_place w)
placed r Open = None
placed r Close = None
placed r OpenSquare = None
placed r CloseSquare = None
placed r Bad = None

abbrev pub assumed : PlainStep → TokenKind → Option Part
assumed p (Word w) = option_map (λ q. AssumedNext (with_assumed p q)) (read_place w)
assumed p CloseSquare = Some (InstsNext p)
assumed p Open = None
assumed p Close = None
assumed p OpenSquare = None
assumed p Bad = None

abbrev pub if_open_square : TokenKind → Part → Option Part
if_open_square OpenSquare q = Some q
if_open_square Open q = None
if_open_square Close q = None
if_open_square CloseSquare q = None
if_open_square (Word w) q = None
if_open_square Bad q = None

abbrev pub rule_read : TokenKind → Option Part
rule_read (Word w) = Some (PlaceNext w)
rule_read Open = None
rule_read Close = None
rule_read OpenSquare = None
rule_read CloseSquare = None
rule_read Bad = None

abbrev pub inst_named : PlainStep → TokenKind → Option Part
inst_named p (Word w) = Some (InstBody p w brackets.Before)
inst_named p Open = None
inst_named p Close = None
inst_named p OpenSquare = None
inst_named p CloseSquare = None
inst_named p Bad = None

-- the parts of a step that neither open a tree nor end one
abbrev pub part_step : Part → TokenKind → Option Part
part_step TreeNext t = None
part_step RuleNext t = rule_read t
part_step (PlaceNext r) t = placed r t
part_step (AssumesNext p) t = if_open_square t (AssumedNext p)
part_step (AssumedNext p) t = assumed p t
part_step (InstsNext p) t = if_open_square t (InstNext p)
part_step (InstNext p) t = None
part_step (InstName p) t = inst_named p t
part_step (InstBody p n x) t = None
part_step TreeEnd t = None

-- ---- a token of a proof

-- what comes after a tree
abbrev pub after_tree : List ℕ → Part
after_tree [] = TreeEnd
after_tree (i ∷ is) = TreeNext

abbrev pub closed : Context → List PlainNode → List ℕ → ℕ → Next
closed c ns [] k = Wrong
closed c ns (i ∷ is) k = Goes (InProof c (after_tree is) ns is k)

abbrev pub leaf : PlainNode
leaf = record { step = None; children = 0 }

abbrev pub at_tree : Context → List PlainNode → List ℕ → ℕ → TokenKind → Next
at_tree c ns is k Open = GoesIf (StepBehind k) (InProof c RuleNext ns is (suc k))
at_tree c ns is k Close = closed c ns is k
at_tree c ns is k (Word w) = cond (bytes_eq w (codes "-")) (Goes (InProof c (after_tree is) (grown ns is leaf) is k)) Wrong
at_tree c ns is k OpenSquare = Wrong
at_tree c ns is k CloseSquare = Wrong
at_tree c ns is k Bad = Wrong

-- the step has no trees yet
abbrev pub new_node : PlainStep → PlainNode
new_node p = record { step = Some p; children = 0 }

abbrev pub at_inst : PlainStep → Context → List PlainNode → List ℕ → ℕ → TokenKind → Next
at_inst p c ns is k Open = Goes (InProof c (InstName p) ns is k)
at_inst p c ns is k CloseSquare = Goes (InProof c TreeNext (grown ns is (new_node p)) (length ns ∷ is) k)
at_inst p c ns is k Close = Wrong
at_inst p c ns is k OpenSquare = Wrong
at_inst p c ns is k (Word w) = Wrong
at_inst p c ns is k Bad = Wrong

abbrev pub goes_on : (brackets.State → State) → Result brackets.State brackets.Fault → Next
goes_on f (Ok x) = Goes (f x)
goes_on f (Err e) = Wrong

abbrev pub goes_deeper : ℕ → (brackets.State → State) → Result brackets.State brackets.Fault → Next
goes_deeper n f (Ok x) = GoesIf (BracketInside n) (f x)
goes_deeper n f (Err e) = Wrong

abbrev pub in_body : (brackets.State → State) → brackets.State → TokenKind → Next
in_body f x Open = goes_deeper (brackets.level x) f (brackets.opened x)
in_body f x Close = goes_on f (brackets.closed x)
in_body f x (Word w) = goes_on f (brackets.added (Atom w) x)
in_body f x OpenSquare = Wrong
in_body f x CloseSquare = Wrong
in_body f x Bad = Wrong

abbrev pub if_close : TokenKind → Next → Next
if_close Close n = n
if_close Open n = Wrong
if_close OpenSquare n = Wrong
if_close CloseSquare n = Wrong
if_close (Word w) n = Wrong
if_close Bad n = Wrong

abbrev pub at_body : PlainStep → List ℕ → brackets.State → Context → List PlainNode → List ℕ → ℕ → TokenKind → Next
at_body p n brackets.Before c ns is k t = in_body (λ x. InProof c (InstBody p n x) ns is k) brackets.Before t
at_body p n (brackets.Inside xs around) c ns is k t = in_body (λ x. InProof c (InstBody p n x) ns is k) (brackets.Inside xs around) t
at_body p n (brackets.Whole x) c ns is k t = if_close t (Goes (InProof c (InstNext (with_inst p n x)) ns is k))

-- the nodes are those of one tree
abbrev pub proof_closed : Context → List PlainNode → Next
proof_closed c ns = cond (are_trees 1 ns) (Goes (ProofNext c.version (c.done ++ record { name = c.name; tree = tree_of ns } ∷ []))) Wrong

abbrev pub goes_part : Context → List PlainNode → List ℕ → ℕ → Option Part → Next
goes_part c ns is k None = Wrong
goes_part c ns is k (Some q) = Goes (InProof c q ns is k)

abbrev pub in_proof : Context → Part → List PlainNode → List ℕ → ℕ → TokenKind → Next
in_proof c TreeNext ns is k t = at_tree c ns is k t
in_proof c RuleNext ns is k t = goes_part c ns is k (part_step RuleNext t)
in_proof c (PlaceNext r) ns is k t = goes_part c ns is k (part_step (PlaceNext r) t)
in_proof c (AssumesNext p) ns is k t = goes_part c ns is k (part_step (AssumesNext p) t)
in_proof c (AssumedNext p) ns is k t = goes_part c ns is k (part_step (AssumedNext p) t)
in_proof c (InstsNext p) ns is k t = goes_part c ns is k (part_step (InstsNext p) t)
in_proof c (InstNext p) ns is k t = at_inst p c ns is k t
in_proof c (InstName p) ns is k t = goes_part c ns is k (part_step (InstName p) t)
in_proof c (InstBody p n x) ns is k t = at_body p n x c ns is k t
in_proof c TreeEnd ns is k t = if_close t (proof_closed c ns)

-- ---- a token of a file

abbrev pub if_open : TokenKind → Next → Next
if_open Open n = n
if_open Close n = Wrong
if_open OpenSquare n = Wrong
if_open CloseSquare n = Wrong
if_open (Word w) n = Wrong
if_open Bad n = Wrong

abbrev pub if_word : List ℕ → TokenKind → Next → Next
if_word u (Word w) n = cond (bytes_eq w u) n Wrong
if_word u Open n = Wrong
if_word u Close n = Wrong
if_word u OpenSquare n = Wrong
if_word u CloseSquare n = Wrong
if_word u Bad n = Wrong

abbrev pub of_version : Option ℕ → Next
of_version None = Wrong
of_version (Some n) = GoesIf (VersionIs n) (ProofNext n [])

abbrev pub at_version : TokenKind → Next
at_version (Word w) = of_version (read_number w)
at_version Open = Wrong
at_version Close = Wrong
at_version OpenSquare = Wrong
at_version CloseSquare = Wrong
at_version Bad = Wrong

abbrev pub at_proof : ℕ → List PlainProof → TokenKind → Next
at_proof v done Open = Goes (ProofWord v done)
at_proof v done Close = Goes (FileEnd v done)
at_proof v done OpenSquare = Wrong
at_proof v done CloseSquare = Wrong
at_proof v done (Word w) = Wrong
at_proof v done Bad = Wrong

abbrev pub at_name : ℕ → List PlainProof → TokenKind → Next
at_name v done (Word w) = GoesIf (NameBehind w (names_of done)) (InProof (record { version = v; done = done; name = w }) TreeNext [] [] 0)
at_name v done Open = Wrong
at_name v done Close = Wrong
at_name v done OpenSquare = Wrong
at_name v done CloseSquare = Wrong
at_name v done Bad = Wrong

abbrev pub next : State → TokenKind → Next
next FileNext t = if_open t (Goes WordNext)
next WordNext t = if_word (codes "jdl") t (Goes VersionNext)
next VersionNext t = at_version t
next (ProofNext v done) t = at_proof v done t
next (ProofWord v done) t = if_word (codes "proof") t (Goes (NameNext v done))
next (NameNext v done) t = at_name v done t
next (InProof c q ns is k) t = in_proof c q ns is k t
next (FileEnd v done) t = Wrong

-- ---- within limits

-- no file goes on so; only one beyond this limit does
pub data Fault : Type 0 where
  WrongToken : Fault
  Over : Limit → Fault

abbrev pub limit_of : Check → Limit
limit_of (VersionIs n) = Version
limit_of (NameBehind name names) = Names
limit_of (StepBehind k) = Steps
limit_of (BracketInside n) = Levels

abbrev pub passes : Limits → Check → Bool
passes l (VersionIs n) = not l.one_version || (n == 1)
passes l (NameBehind name names) = not (l.distinct && list_any (bytes_eq name) names)
passes l (StepBehind k) = nat_lt k l.steps
passes l (BracketInside n) = nat_lt n l.levels

abbrev pub decide : Limits → Next → Result State Fault
decide l Wrong = Err WrongToken
decide l (Goes st) = Ok st
decide l (GoesIf check st) = cond (passes l check) (Ok st) (Err (Over (limit_of check)))

abbrev pub step : Limits → State → TokenKind → Result State Fault
step l st t = decide l (next st t)

abbrev pub then_run : (State → Result State Fault) → Result State Fault → Result State Fault
then_run f (Ok s) = f s
then_run f (Err e) = Err e

unfoldable pub run : Limits → List TokenKind → State → Result State Fault
run l [] st = Ok st
run l (t ∷ ts) st = then_run (run l ts) (step l st t)

-- some tokens lead there from a file's beginning
abbrev pub IsReached : Limits → State → Type 0
IsReached l st = (ts : List TokenKind) × (run l ts FileNext ≡ Ok st)

-- behind the last tree of a proof there are the nodes of one tree
abbrev pub IsWhole : State → Type 0
IsWhole FileNext = Unit {0}
IsWhole WordNext = Unit {0}
IsWhole VersionNext = Unit {0}
IsWhole (ProofNext v done) = Unit {0}
IsWhole (ProofWord v done) = Unit {0}
IsWhole (NameNext v done) = Unit {0}
IsWhole (InProof c q ns is k) = q ≡ TreeEnd → are_trees 1 ns ≡ true
IsWhole (FileEnd v done) = Unit {0}
