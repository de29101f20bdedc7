-- What holds of the statements of a form holds of those of a statement that is it.
use Rattle.std.proofs.Common.{◌≡◌, ◌<◌, ℕ, Bool, true, List, [], ◌∷◌, length, map, Option, refl, sym, subst, arith}
use Rattle.jd_syntax.specs.Codes as code
use Rattle.jd_syntax.specs.Codes.{PlainCode}
use Rattle.jd_syntax.specs.JavaTrees as java
use Rattle.jd_syntax.specs.JavaTrees.{JavaExpr, JavaHandler, JavaHandlers, JavaStmt, JavaStmts, java_handlers}
use Rattle.jd_syntax.specs.declared.java.Handler.{Handler}
use Rattle.jd_jcalls.specs.Handlers.{java_handler_view}
use Rattle.jd_syntax.specs.JavaTypes.{PlainIdentifier}
use Rattle.jd_syntax.specs.Names.{Name}
use Rattle.jd_syntax.specs.SpecTrees.{PlainSpecBlock}
use Rattle.jd_bodies.specs.Bodies.{Exits, Lines, Scoped, block_if, block_lines, class_number, code_in, condition_code, effects_lines, handler_lines, has_handlers, label_if, lines, loop_exits, loop_lines, try_lines, with_exit}
use Rattle.jd_bodies.specs.Codes.{code_of}
use Rattle.jd_bodies.specs.Declarations.{Declarations}
use Rattle.jd_bodies.specs.Scopes.{Local}
use Rattle.jd_bodies.specs.Jumps.{leaves_label, leaves_loop, repeats_loop}
use Rattle.jd_bodies.specs.Types.{throwable}
use Rattle.jd_bodies.specs.Variables.{Progress, local_name, temporary, with_local}
use Rattle.jd_bodies.specs.declared.place.Place.{Place}
use Rattle.jd_bodies.specs.declared.value.ValueType.TheVariants as types
use Rattle.jd_statement_parts.specs.Catching.{PlainPart, caught_stmts}
use Rattle.jd_statement_parts.specs.Standing.{local_of}
use Rattle.jd_statement_parts.specs.Turning.{PlainHead, PlainNumbers, head_of, looped_stmts}
use Rattle.jd_body_code.specs.Parted.{handler_parts, loop_of, part_of, tried_lines}
use Rattle.jd_body_code.proofs.Blocks.{handlers_split}

-- a `try` that has handlers
pub some_there : (hs : List Handler) → 0 < length hs → has_handlers (java_handlers (map java_handler_view hs)) ≡ true
some_there [] some = absurd (omega (arith, some))
some_there (h ∷ hs) some = refl

module _ (d : Declarations) (place : Place) where
  pub told : (Q : Lines → Type 0) (s t : JavaStmt) (labels : List (List ℕ)) (x : Exits) (ls : List Local) (q : Progress) → s ≡ t → Q (lines d place t labels x ls q).lines → Q (lines d place s labels x ls q).lines
  told Q s t labels x ls q is given = subst (λ (y : JavaStmt). Q (lines d place y labels x ls q).lines) (sym is) given

  -- the same with what is in scope behind it
  pub scoped_told : (Q : Scoped → Type 0) (s t : JavaStmt) (labels : List (List ℕ)) (x : Exits) (ls : List Local) (q : Progress) → s ≡ t → Q (lines d place t labels x ls q) → Q (lines d place s labels x ls q)
  scoped_told Q s t labels x ls q is given = subst (λ (y : JavaStmt). Q (lines d place y labels x ls q)) (sym is) given

  abbrev Handled : ℕ → List ℕ → JavaStmts → Exits → List Local → Progress → Progress × PlainPart
  Handled class name ss x ls q =
      let p = with_local name (types.Class class) q in
      let r = block_lines d place ss x (local_of name (types.Class class) ∷ ls) p in
      (r.0, record { class = class; name = local_name p.names name (types.Class class); stmts = r.1 })

  -- a handler, by its class and its name
  pub handler_told : (Q : Progress × PlainPart → Type 0) (h : JavaHandler) (at : ℕ) (c y : PlainIdentifier) (ss : JavaStmts) (class : ℕ) (name : List ℕ) (body : JavaStmts) (x : Exits) (ls : List Local) (q : Progress)
      → h ≡ java.Catch at c y ss → class ≡ class_number (d.class_named c.name) → name ≡ y.name → body ≡ ss → Q (Handled class name body x ls q) → Q (part_of d place h x ls q)
  handler_told Q h at c y ss class name body x ls q is classed named told given =
      let first = subst (λ b. Q (Handled class name b x ls q)) told given in
      let second = subst (λ n. Q (Handled class n ss x ls q)) named first in
      let third = subst (λ k. Q (Handled k y.name ss x ls q)) classed second in
      subst (λ (z : JavaHandler). Q (part_of d place z x ls q)) (sym is) third

  abbrev labelled : Bool → ℕ → Lines → Lines
  labelled wanted n r = (r.0, block_if wanted n r.1)

  -- a label, with its number, and what is made inside of it
  pub label_told : (Q : Lines → Type 0) (s t : JavaStmt) (at : ℕ) (j : Option PlainSpecBlock) (l : List ℕ) (labels behind : List (List ℕ)) (x y : Exits) (ls : List Local) (q : Progress) (wanted : Bool) (n : ℕ)
      → s ≡ java.Label at j l t → wanted ≡ leaves_label l t → n ≡ (label_if wanted q).labels → y ≡ with_exit l n x → behind ≡ l ∷ labels
      → Q (labelled wanted n (lines d place t behind y ls (label_if wanted q)).lines) → Q (lines d place s labels x ls q).lines
  label_told Q s t at j l labels behind x y ls q wanted n is told number exit told_labels given =
      let first = subst (λ b. Q (labelled wanted n (lines d place t b y ls (label_if wanted q)).lines)) told_labels given in
      let second = subst (λ e. Q (labelled wanted n (lines d place t (l ∷ labels) e ls (label_if wanted q)).lines)) exit first in
      let third = subst (λ k. Q (labelled wanted k (lines d place t (l ∷ labels) (with_exit l k x) ls (label_if wanted q)).lines)) number second in
      let fourth = subst (λ w. Q (labelled w (label_if w q).labels (lines d place t (l ∷ labels) (with_exit l (label_if w q).labels x) ls (label_if w q)).lines)) told third in
      subst (λ (z : JavaStmt). Q (lines d place z labels x ls q).lines) (sym is) fourth

  abbrev Body : JavaStmt → Exits → List Local → Progress → Lines
  Body t y ls p = (lines d place t [] y ls p).lines

  abbrev Update : List JavaExpr → List Local → Progress → Lines
  Update es ls p = effects_lines d place ls es p

  abbrev turned : Bool → Bool → PlainNumbers → code.Expr → Lines → (Progress → Lines) → Lines
  turned leaves repeats n c b update = ((update b.0).0, looped_stmts leaves repeats n c b.1 (update b.0).1)

  -- a loop, by what is made before its body
  pub turns_told : (Q : Lines → Type 0) (labels : List (List ℕ)) (c : Option JavaExpr) (es : List JavaExpr) (t : JavaStmt) (x y : Exits) (ls : List Local) (q : Progress) (leaves repeats : Bool) (n : PlainNumbers)
      → leaves ≡ leaves_loop t → repeats ≡ repeats_loop labels t → n ≡ (head_of leaves repeats ls (condition_code (code_of d place ls) c) q).numbers → y ≡ loop_exits labels n.left n.repeated x
      → Q (turned leaves repeats n (head_of leaves repeats ls (condition_code (code_of d place ls) c) q).condition (Body t y ls (head_of leaves repeats ls (condition_code (code_of d place ls) c) q).progress) (Update es ls))
      → Q (loop_lines (loop_of d place labels ls c es t) x q)
  turns_told Q labels c es t x y ls q leaves repeats n left right number exit given =
      let H : Bool → Bool → PlainHead = λ a b. head_of a b ls (condition_code (code_of d place ls) c) q in
      let first = subst (λ e. Q (turned leaves repeats n (H leaves repeats).condition (Body t e ls (H leaves repeats).progress) (Update es ls))) exit given in
      let second = subst (λ (k : PlainNumbers). Q (turned leaves repeats k (H leaves repeats).condition (Body t (loop_exits labels k.left k.repeated x) ls (H leaves repeats).progress) (Update es ls))) number first in
      let third = subst (λ b. Q (turned leaves b (H leaves b).numbers (H leaves b).condition (Body t (loop_exits labels (H leaves b).numbers.left (H leaves b).numbers.repeated x) ls (H leaves b).progress) (Update es ls))) right second in
      subst (λ a. Q (turned a (repeats_loop labels t) (H a (repeats_loop labels t)).numbers (H a (repeats_loop labels t)).condition (Body t (loop_exits labels (H a (repeats_loop labels t)).numbers.left (H a (repeats_loop labels t)).numbers.repeated x) ls (H a (repeats_loop labels t)).progress) (Update es ls))) left third

  -- the handlers of a `try` that has some
  abbrev tried : List code.Stmt → Name → Progress × List PlainPart → Lines
  tried ss k h = (h.0, caught_stmts ss k h.1)

  abbrev Caught : JavaStmts → JavaHandlers → Exits → List Local → Progress → Lines
  Caught ss hs x ls q =
      let b = block_lines d place ss x ls q in
      let k = temporary throwable b.0 in
      tried b.1 k.1 (handler_parts d place hs x ls k.0)

  pub tried_told : (Q : Lines → Type 0) (ss : JavaStmts) (hs : JavaHandlers) (x : Exits) (ls : List Local) (q : Progress) → has_handlers hs ≡ true → Q (Caught ss hs x ls q) → Q (tried_lines d place ss hs x ls q)
  tried_told Q ss hs x ls q some given =
      let b = block_lines d place ss x ls q in
      let k = temporary throwable b.0 in
      let whole = subst (λ (h : Progress × PlainCode). Q (h.0, code.Catch (code_in b) k.1 h.1 ∷ [])) (sym (handlers_split d place hs k.1 x ls k.0)) given in
      subst (λ w. Q (try_lines w b (λ n. handler_lines d place hs n x ls))) (sym some) whole
