-- What the forms of statements come to, each from what its parts gave.
use Rattle.std.proofs.Common.{◌≡◌, ◌<◌, ◌+◌, ◌-◌, ℕ, List, ◌∷◌, drop, get_or, length, map, Option, Result, Ok, Err, IfErr, IsErrAnd, sym, ap, subst, ◌∙◌}
use Rattle.std.proofs.lemmas.List.{drop_more}
use Rattle.jd_syntax.specs.declared.java.Handler.{Handler, out-Handler}
use Rattle.jd_syntax.specs.JavaTypes.{identifier_view}
use Rattle.jd_syntax.specs.JavaTrees as trees
use Rattle.jd_syntax.specs.JavaTrees.{JavaExpr, JavaForStart, JavaHandlers, JavaStmt, JavaStmts, java_handlers, java_stmt_view, java_stmts}
use Rattle.jd_syntax.specs.SpecTrees.{PlainSpecBlock}
use Rattle.jd_jcalls.specs.Handlers.{java_handler_view}
use Rattle.jd_bodies.specs.declared.place.Place.{Place}
use Rattle.jd_bodies.specs.Declarations.{Declarations, class_type}
use Rattle.jd_statements.proofs.Taken.{is_handler}
use Rattle.jd_specifications.specs.declared.fault.SpecFault.{SpecFault}
use Rattle.jd_specifications.specs.Scopes.{SpecLocal, and_then}
use Rattle.jd_specifications.specs.Clauses.{Sofar, at_first}
use Rattle.jd_specifications.specs.Refused.{local, for_locals, loop_locals, optional_block, around, keeping, stmt, stmts, handlers}
use Rattle.jd_jml_members.specs.Judged.{IsStop}
use Rattle.jd_jml_members.specs.declared.stop.Stop.{Stop}
use Rattle.jd_jml_members.specs.declared.stop.Stop.TheVariants.{Refused, NoMemory}
use Rattle.jd_jml_members.proofs.Growing.{one_more, restored, through, for_grows, loop_grows, handlers_stay, stmt_grows, stmts_grow}

abbrev Names : Type 0
Names = List SpecLocal

abbrev ok : Names → Result Names SpecFault
ok l = Ok l

-- an early way out hands on what it was told
pub passed_on : {A : Type 0} (r : Result A Stop) (P Q : Stop → Type 0) → IsErrAnd r P → ((e : Stop) → P e → Q e) → IfErr r Q
passed_on (Ok a) P Q told each = tt
passed_on (Err e) P Q told each = each e told

carried : {A B : Type 0} (p : Result A SpecFault) (q : Result B SpecFault) (e : Stop) → ((f : SpecFault) → p ≡ Err f → q ≡ Err f) → IsStop p e → IsStop q e
carried p q (Refused f) h told = h f told
carried p q NoMemory h told = tt

module _ (d : Declarations) (place : Place) where
  keep_ok : (l t : Names) (r : Result Names SpecFault) → r ≡ Ok t → keeping d place l r ≡ Ok l
  keep_ok l t r is = ap (keeping d place l) is

  keep_err : (l : Names) (r : Result Names SpecFault) (f : SpecFault) → r ≡ Err f → keeping d place l r ≡ Err f
  keep_err l r f is = ap (keeping d place l) is

  -- ---- one list of statements

  pub block_taken : (s : Sofar) (x : JavaStmt) (at : ℕ) (bs cs : JavaStmts) (l t now : Names) (mark : ℕ) → x ≡ trees.Block at bs → cs ≡ bs → stmts d place cs l ≡ Ok t → mark ≡ length l → now ≡ drop (length t - mark) t → stmt d place s x l ≡ Ok now
  block_taken s x at bs cs l t now mark view same told marks is =
      ap (λ y. stmt d place s y l) (view ∙ ap (trees.Block at) (sym same))
      ∙ keep_ok l t (stmts d place cs l) told
      ∙ ap ok (sym (restored l t now mark (stmts_grow d place cs l t told) marks is))

  pub if_taken : (s f : Sofar) (x : JavaStmt) (at : ℕ) (c : JavaExpr) (b a : JavaStmt) (l t now : Names) (mark : ℕ) → x ≡ trees.If at c b → a ≡ b → f ≡ at_first → stmt d place f a l ≡ Ok t → mark ≡ length l → now ≡ drop (length t - mark) t → stmt d place s x l ≡ Ok now
  if_taken s f x at c b a l t now mark view same first told marks is =
      let inner = subst (λ g. stmt d place g a l ≡ ok t) first told in
      ap (λ y. stmt d place s y l) (view ∙ ap (trees.If at c) (sym same))
      ∙ keep_ok l t (stmt d place at_first a l) inner
      ∙ ap ok (sym (restored l t now mark (stmt_grows d place at_first a l t inner) marks is))

  -- ---- two statements

  abbrev Else : (c : JavaExpr) (a n : JavaStmt) → Names → Result Names SpecFault
  Else c a n l = and_then (λ ls. keeping d place l (stmt d place at_first n l)) (stmt d place at_first a l)

  else_view : (s : Sofar) (x : JavaStmt) (at : ℕ) (c : JavaExpr) (b a o n : JavaStmt) (l : Names) → x ≡ trees.IfElse at c b o → a ≡ b → n ≡ o → stmt d place s x l ≡ Else c a n l
  else_view s x at c b a o n l view same like = ap (λ y. stmt d place s y l) (view ∙ ap (λ y. trees.IfElse at c y o) (sym same) ∙ ap (trees.IfElse at c a) (sym like))

  pub else_taken : (s f g : Sofar) (x : JavaStmt) (at : ℕ) (c : JavaExpr) (b a o n : JavaStmt) (l t mid v now : Names) (mark : ℕ) → x ≡ trees.IfElse at c b o → a ≡ b → n ≡ o → f ≡ at_first → g ≡ at_first
      → stmt d place f a l ≡ Ok t → mark ≡ length l → mid ≡ drop (length t - mark) t → stmt d place g n mid ≡ Ok v → now ≡ drop (length v - mark) v → stmt d place s x l ≡ Ok now
  else_taken s f g x at c b a o n l t mid v now mark view same like first second told marks between done is =
      let one = subst (λ k. stmt d place k a l ≡ ok t) first told in
      let back = restored l t mid mark (stmt_grows d place at_first a l t one) marks between in
      let two = subst (λ k. stmt d place k n l ≡ ok v) second (subst (λ (k : Names). stmt d place g n k ≡ ok v) back done) in
      else_view s x at c b a o n l view same like
      ∙ ap (and_then (λ ls. keeping d place l (stmt d place at_first n l))) one
      ∙ keep_ok l v (stmt d place at_first n l) two
      ∙ ap ok (sym (restored l v now mark (stmt_grows d place at_first n l v two) marks is))

  pub else_refused : (s f g : Sofar) (x : JavaStmt) (at : ℕ) (c : JavaExpr) (b a o n : JavaStmt) (l t mid : Names) (mark : ℕ) (e : Stop) → x ≡ trees.IfElse at c b o → a ≡ b → n ≡ o → f ≡ at_first → g ≡ at_first
      → stmt d place f a l ≡ Ok t → mark ≡ length l → mid ≡ drop (length t - mark) t → IsStop (stmt d place g n mid) e → IsStop (stmt d place s x l) e
  else_refused s f g x at c b a o n l t mid mark e view same like first second told marks between stop =
      let one = subst (λ k. stmt d place k a l ≡ ok t) first told in
      let back = restored l t mid mark (stmt_grows d place at_first a l t one) marks between in
      let two = subst (λ k. IsStop (stmt d place k n l) e) second (subst (λ (k : Names). IsStop (stmt d place g n k) e) back stop) in
      carried (stmt d place at_first n l) (stmt d place s x l) e (λ f is. else_view s x at c b a o n l view same like ∙ ap (and_then (λ ls. keeping d place l (stmt d place at_first n l))) one ∙ keep_err l (stmt d place at_first n l) f is) two

  -- ---- loops

  pub while_taken : (s f u : Sofar) (x : JavaStmt) (at : ℕ) (j k : Option PlainSpecBlock) (c : JavaExpr) (b a : JavaStmt) (l t now : Names) (mark : ℕ) → x ≡ trees.While at j c b → k ≡ j → a ≡ b → f ≡ at_first → Ok u ≡ optional_block d (around d place l) s k
      → stmt d place f a l ≡ Ok t → mark ≡ length l → now ≡ drop (length t - mark) t → stmt d place s x l ≡ Ok now
  while_taken s f u x at j k c b a l t now mark view alike same first clauses told marks is =
      let inner = subst (λ g. stmt d place g a l ≡ ok t) first told in
      ap (λ y. stmt d place s y l) (view ∙ ap (λ y. trees.While at y c b) (sym alike) ∙ ap (trees.While at k c) (sym same))
      ∙ ap (and_then (λ (v : Sofar). keeping d place l (stmt d place at_first a l))) (sym clauses)
      ∙ keep_ok l t (stmt d place at_first a l) inner
      ∙ ap ok (sym (restored l t now mark (stmt_grows d place at_first a l t inner) marks is))

  pub for_taken : (s f u : Sofar) (x : JavaStmt) (at : ℕ) (j k : Option PlainSpecBlock) (start : JavaForStart) (c : Option JavaExpr) (us : List JavaExpr) (b a : JavaStmt) (l m t now : Names) (mark : ℕ) → x ≡ trees.For at j start c us b → k ≡ j → a ≡ b → f ≡ at_first
      → m ≡ for_locals d start l → Ok u ≡ optional_block d (around d place m) s k → stmt d place f a m ≡ Ok t → mark ≡ length l → now ≡ drop (length t - mark) t → stmt d place s x l ≡ Ok now
  for_taken s f u x at j k start c us b a l m t now mark view alike same first entered clauses told marks is =
      let here = subst (λ (y : Names). Ok u ≡ optional_block d (around d place y) s k) entered clauses in
      let inner = subst (λ (y : Names). stmt d place at_first a y ≡ ok t) entered (subst (λ g. stmt d place g a m ≡ ok t) first told) in
      ap (λ y. stmt d place s y l) (view ∙ ap (λ y. trees.For at y start c us b) (sym alike) ∙ ap (trees.For at k start c us) (sym same))
      ∙ ap (and_then (λ (v : Sofar). keeping d place l (stmt d place at_first a (for_locals d start l)))) (sym here)
      ∙ keep_ok l t (stmt d place at_first a (for_locals d start l)) inner
      ∙ ap ok (sym (restored l t now mark (through t (for_locals d start l) l (stmt_grows d place at_first a (for_locals d start l) t inner) (for_grows d place start l)) marks is))

  label_view : (s : Sofar) (x : JavaStmt) (at : ℕ) (j k : Option PlainSpecBlock) (n : List ℕ) (b a : JavaStmt) (l : Names) → x ≡ trees.Label at j n b → k ≡ j → a ≡ b
      → stmt d place s x l ≡ and_then (λ u. keeping d place l (stmt d place u a l)) (optional_block d (around d place (loop_locals d a l)) s k)
  label_view s x at j k n b a l view alike same = ap (λ y. stmt d place s y l) (view ∙ ap (λ y. trees.Label at y n b) (sym alike) ∙ ap (trees.Label at k n) (sym same))

  -- what is seen by a loop behind the label, and then no more
  seen : (s u : Sofar) (k : Option PlainSpecBlock) (a : JavaStmt) (l m : Names) → m ≡ loop_locals d a l → Ok u ≡ optional_block d (around d place m) s k → Ok u ≡ optional_block d (around d place (loop_locals d a l)) s k
  seen s u k a l m entered clauses = subst (λ (y : Names). Ok u ≡ optional_block d (around d place y) s k) entered clauses

  unseen : (a : JavaStmt) (l m mid : Names) (mark : ℕ) → m ≡ loop_locals d a l → mark ≡ length l → mid ≡ drop (length m - mark) m → mid ≡ l
  unseen a l m mid mark entered marks between =
      restored l (loop_locals d a l) mid mark (loop_grows d place a l) marks (between ∙ ap (λ (y : Names). drop (length y - mark) y) entered)

  pub label_taken : (s u : Sofar) (x : JavaStmt) (at : ℕ) (j k : Option PlainSpecBlock) (n : List ℕ) (b a i : JavaStmt) (l m mid t now : Names) (mark : ℕ) → x ≡ trees.Label at j n b → k ≡ j → a ≡ b → i ≡ a
      → m ≡ loop_locals d i l → Ok u ≡ optional_block d (around d place m) s k → mark ≡ length l → mid ≡ drop (length m - mark) m → stmt d place u a mid ≡ Ok t → now ≡ drop (length t - mark) t → stmt d place s x l ≡ Ok now
  label_taken s u x at j k n b a i l m mid t now mark view alike same like entered clauses marks between told is =
      let whole : m ≡ loop_locals d a l = entered ∙ ap (λ y. loop_locals d y l) like in
      let inner = subst (λ (y : Names). stmt d place u a y ≡ ok t) (unseen a l m mid mark whole marks between) told in
      label_view s x at j k n b a l view alike same
      ∙ ap (and_then (λ v. keeping d place l (stmt d place v a l))) (sym (seen s u k a l m whole clauses))
      ∙ keep_ok l t (stmt d place u a l) inner
      ∙ ap ok (sym (restored l t now mark (stmt_grows d place u a l t inner) marks is))

  pub label_refused : (s u : Sofar) (x : JavaStmt) (at : ℕ) (j k : Option PlainSpecBlock) (n : List ℕ) (b a i : JavaStmt) (l m mid : Names) (mark : ℕ) (e : Stop) → x ≡ trees.Label at j n b → k ≡ j → a ≡ b → i ≡ a
      → m ≡ loop_locals d i l → Ok u ≡ optional_block d (around d place m) s k → mark ≡ length l → mid ≡ drop (length m - mark) m → IsStop (stmt d place u a mid) e → IsStop (stmt d place s x l) e
  label_refused s u x at j k n b a i l m mid mark e view alike same like entered clauses marks between stop =
      let whole : m ≡ loop_locals d a l = entered ∙ ap (λ y. loop_locals d y l) like in
      let inner = subst (λ (y : Names). IsStop (stmt d place u a y) e) (unseen a l m mid mark whole marks between) stop in
      carried (stmt d place u a l) (stmt d place s x l) e (λ f is. label_view s x at j k n b a l view alike same ∙ ap (and_then (λ v. keeping d place l (stmt d place v a l))) (sym (seen s u k a l m whole clauses)) ∙ keep_err l (stmt d place u a l) f is) inner

  -- ---- `try`

  try_view : (s : Sofar) (x : JavaStmt) (at : ℕ) (bs cs : JavaStmts) (hs gs : JavaHandlers) (l : Names) → x ≡ trees.Try at bs hs → cs ≡ bs → gs ≡ hs → stmt d place s x l ≡ and_then (λ ls. handlers d place gs l) (stmts d place cs l)
  try_view s x at bs cs hs gs l view same like = ap (λ y. stmt d place s y l) (view ∙ ap (λ y. trees.Try at y hs) (sym same) ∙ ap (trees.Try at cs) (sym like))

  pub try_taken : (s : Sofar) (x : JavaStmt) (at : ℕ) (bs cs : JavaStmts) (hs gs : JavaHandlers) (l t mid now : Names) (mark : ℕ) → x ≡ trees.Try at bs hs → cs ≡ bs → gs ≡ hs → stmts d place cs l ≡ Ok t → mark ≡ length l → mid ≡ drop (length t - mark) t
      → handlers d place gs mid ≡ Ok now → stmt d place s x l ≡ Ok now
  try_taken s x at bs cs hs gs l t mid now mark view same like told marks between done =
      let back = restored l t mid mark (stmts_grow d place cs l t told) marks between in
      try_view s x at bs cs hs gs l view same like
      ∙ ap (and_then (λ ls. handlers d place gs l)) told
      ∙ subst (λ (y : Names). handlers d place gs y ≡ ok now) back done

  pub try_refused : (s : Sofar) (x : JavaStmt) (at : ℕ) (bs cs : JavaStmts) (hs gs : JavaHandlers) (l t mid : Names) (mark : ℕ) (e : Stop) → x ≡ trees.Try at bs hs → cs ≡ bs → gs ≡ hs → stmts d place cs l ≡ Ok t → mark ≡ length l → mid ≡ drop (length t - mark) t
      → IsStop (handlers d place gs mid) e → IsStop (stmt d place s x l) e
  try_refused s x at bs cs hs gs l t mid mark e view same like told marks between stop =
      let back = restored l t mid mark (stmts_grow d place cs l t told) marks between in
      let inner = subst (λ (y : Names). IsStop (handlers d place gs y) e) back stop in
      carried (handlers d place gs l) (stmt d place s x l) e (λ f is. try_view s x at bs cs hs gs l view same like ∙ ap (and_then (λ ls. handlers d place gs l)) told ∙ is) inner

  finally_view : (s : Sofar) (x : JavaStmt) (at : ℕ) (bs cs : JavaStmts) (hs gs : JavaHandlers) (fs es : JavaStmts) (l t : Names) → x ≡ trees.TryFinally at bs hs fs → cs ≡ bs → gs ≡ hs → es ≡ fs → stmts d place cs l ≡ Ok t
      → stmt d place s x l ≡ and_then (λ ms. keeping d place l (stmts d place es l)) (handlers d place gs l)
  finally_view s x at bs cs hs gs fs es l t view same like last told =
      ap (λ y. stmt d place s y l) (view ∙ ap (λ y. trees.TryFinally at y hs fs) (sym same) ∙ ap (λ y. trees.TryFinally at cs y fs) (sym like) ∙ ap (trees.TryFinally at cs gs) (sym last))
      ∙ ap (and_then (λ ls. and_then (λ ms. keeping d place l (stmts d place es l)) (handlers d place gs l))) told

  pub finally_taken : (s : Sofar) (x : JavaStmt) (at : ℕ) (bs cs : JavaStmts) (hs gs : JavaHandlers) (fs es : JavaStmts) (l t mid u v now : Names) (mark : ℕ) → x ≡ trees.TryFinally at bs hs fs → cs ≡ bs → gs ≡ hs → es ≡ fs → stmts d place cs l ≡ Ok t
      → mark ≡ length l → mid ≡ drop (length t - mark) t → handlers d place gs mid ≡ Ok u → stmts d place es u ≡ Ok v → now ≡ drop (length v - mark) v → stmt d place s x l ≡ Ok now
  finally_taken s x at bs cs hs gs fs es l t mid u v now mark view same like last told marks between caught_ done is =
      let back = restored l t mid mark (stmts_grow d place cs l t told) marks between in
      let here = subst (λ (y : Names). handlers d place gs y ≡ ok u) back caught_ in
      let from_here = subst (λ (y : Names). stmts d place es y ≡ ok v) (handlers_stay d place gs l u here) done in
      finally_view s x at bs cs hs gs fs es l t view same like last told
      ∙ ap (and_then (λ ms. keeping d place l (stmts d place es l))) here
      ∙ keep_ok l v (stmts d place es l) from_here
      ∙ ap ok (sym (restored l v now mark (stmts_grow d place es l v from_here) marks is))

  pub handlers_refused : (s : Sofar) (x : JavaStmt) (at : ℕ) (bs cs : JavaStmts) (hs gs : JavaHandlers) (fs es : JavaStmts) (l t mid : Names) (mark : ℕ) (e : Stop) → x ≡ trees.TryFinally at bs hs fs → cs ≡ bs → gs ≡ hs → es ≡ fs → stmts d place cs l ≡ Ok t
      → mark ≡ length l → mid ≡ drop (length t - mark) t → IsStop (handlers d place gs mid) e → IsStop (stmt d place s x l) e
  handlers_refused s x at bs cs hs gs fs es l t mid mark e view same like last told marks between stop =
      let back = restored l t mid mark (stmts_grow d place cs l t told) marks between in
      let inner = subst (λ (y : Names). IsStop (handlers d place gs y) e) back stop in
      carried (handlers d place gs l) (stmt d place s x l) e (λ f is. finally_view s x at bs cs hs gs fs es l t view same like last told ∙ ap (and_then (λ ms. keeping d place l (stmts d place es l))) is) inner

  pub finally_refused : (s : Sofar) (x : JavaStmt) (at : ℕ) (bs cs : JavaStmts) (hs gs : JavaHandlers) (fs es : JavaStmts) (l t mid u : Names) (mark : ℕ) (e : Stop) → x ≡ trees.TryFinally at bs hs fs → cs ≡ bs → gs ≡ hs → es ≡ fs → stmts d place cs l ≡ Ok t
      → mark ≡ length l → mid ≡ drop (length t - mark) t → handlers d place gs mid ≡ Ok u → IsStop (stmts d place es u) e → IsStop (stmt d place s x l) e
  finally_refused s x at bs cs hs gs fs es l t mid u mark e view same like last told marks between caught_ stop =
      let back = restored l t mid mark (stmts_grow d place cs l t told) marks between in
      let here = subst (λ (y : Names). handlers d place gs y ≡ ok u) back caught_ in
      let inner = subst (λ (y : Names). IsStop (stmts d place es y) e) (handlers_stay d place gs l u here) stop in
      carried (stmts d place es l) (stmt d place s x l) e (λ f is. finally_view s x at bs cs hs gs fs es l t view same like last told ∙ ap (and_then (λ ms. keeping d place l (stmts d place es l))) here ∙ keep_err l (stmts d place es l) f is) inner

  -- one more handler is taken: what is left decides
  pub handler_taken : (hs : List Handler) (i : ℕ) (h : Handler) (l u v last : Names) (mark : ℕ) (whole : Result Names SpecFault) (bs : JavaStmts) → i < length hs → h ≡ get_or hs i h
      → (whole ≡ handlers d place (java_handlers (map java_handler_view (drop i hs))) l) × (mark ≡ length l)
      → u ≡ local d (identifier_view (out-Handler h).name) (class_type (d.class_named (identifier_view (out-Handler h).class).name)) ∷ l → bs ≡ java_stmts (map java_stmt_view (out-Handler h).body.items) → stmts d place bs u ≡ Ok v → last ≡ drop (length v - mark) v
      → (whole ≡ handlers d place (java_handlers (map java_handler_view (drop (i + 1) hs))) last) × (mark ≡ length last)
  handler_taken hs i h l u v last mark whole bs lt is inv met same told ends =
      let bound : SpecLocal = local d (identifier_view (out-Handler h).name) (class_type (d.class_named (identifier_view (out-Handler h).class).name)) in
      let inner = subst (λ c. stmts d place c u ≡ ok v) same told in
      let body = subst (λ (y : Names). stmts d place (java_stmts (map java_stmt_view (out-Handler h).body.items)) y ≡ ok v) met inner in
      let back : last ≡ l = restored l v last mark (one_more bound v l (stmts_grow d place (java_stmts (map java_stmt_view (out-Handler h).body.items)) (bound ∷ l) v body)) inv.1 ends in
      let rest : JavaHandlers = java_handlers (map java_handler_view (drop (i + 1) hs)) in (
        inv.0
            ∙ ap (λ (x : List Handler). handlers d place (java_handlers (map java_handler_view x)) l) (drop_more hs i h lt ∙ ap (λ y. y ∷ drop (i + 1) hs) (sym is))
            ∙ ap (λ y. handlers d place (trees.HandlerThen y rest) l) (is_handler h)
            ∙ ap (and_then (λ ls. handlers d place rest l)) body
            ∙ ap (handlers d place rest) (sym back),
        inv.1 ∙ ap length (sym back),
      )
