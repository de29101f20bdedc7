-- A tree is what it is without clauses, with those of its blocks put in again.
use Rattle.std.proofs.Common.{◌≡◌, List, [], ◌∷◌, ◌++◌, Option, Some, None, length, drop, map, option_map, refl, sym, ap, ◌∙◌}
use Rattle.std.specs.List.{flat_map}
use Rattle.std.specs.Option.{option_to_list}
use Rattle.std.proofs.Math.Seq.{drop-append_seam}
use Rattle.std.proofs.lemmas.List.{append-nil, append_assoc, length-map}
use Rattle.jd_syntax.specs.SpecTrees.{PlainSpecBlock}
use Rattle.jd_syntax.specs.JavaTrees.{JavaStmt, Block, Empty, Local, Evaluate, Label, If, IfElse, While, For, Break, Continue, Return, Throw, Try, TryFinally, Super, JavaStmts, NoStmts, StmtThen, java_stmts, JavaHandler, Catch, JavaHandlers, NoHandlers, HandlerThen, JavaParameter, JavaMember, FieldMember, ConstantMember, MethodMember, JavaClass, JavaUnit}
use Rattle.jd_jmlparse.specs.Filled.{stmt_blocks, stmts_blocks, handler_blocks, handlers_blocks, parameter_blocks, member_blocks, class_blocks, blocks_of, bare_block, bare_stmt, bare_stmts, bare_handler, bare_handlers, bare_parameter, bare_member, bare_class, bare}
use Rattle.jd_jmlparse.proofs.Bare.{of_stmt, of_stmts, of_handler, of_handlers, of_list, of_member, of_class, body_blocks}

abbrev Blocks : Type 0
Blocks = List PlainSpecBlock

-- ---- putting in: each place takes the next blocks

abbrev put_option : Option PlainSpecBlock → Blocks → Option PlainSpecBlock
put_option None bs = None
put_option (Some b) [] = Some b
put_option (Some b) (c ∷ bs) = Some c

abbrev put_blocks : Blocks → Blocks → Blocks
put_blocks [] bs = []
put_blocks (x ∷ xs) [] = x ∷ xs
put_blocks (x ∷ xs) (b ∷ bs) = b ∷ put_blocks xs bs

-- what is left behind those of a part
abbrev behind : Blocks → Blocks → Blocks
behind xs bs = drop (length xs) bs

abbrev mutual
  put_stmt : JavaStmt → Blocks → JavaStmt
  put_stmt (Block at ss) bs = Block at (put_stmts ss bs)
  put_stmt (Label at j l s) bs = Label at (put_option j bs) l (put_stmt s (behind (option_to_list j) bs))
  put_stmt (If at c s) bs = If at c (put_stmt s bs)
  put_stmt (IfElse at c s t) bs = IfElse at c (put_stmt s bs) (put_stmt t (behind (stmt_blocks s) bs))
  put_stmt (While at j c s) bs = While at (put_option j bs) c (put_stmt s (behind (option_to_list j) bs))
  put_stmt (For at j start c update s) bs = For at (put_option j bs) start c update (put_stmt s (behind (option_to_list j) bs))
  put_stmt (Try at ss hs) bs = Try at (put_stmts ss bs) (put_handlers hs (behind (stmts_blocks ss) bs))
  put_stmt (TryFinally at ss hs ts) bs =
      TryFinally at (put_stmts ss bs) (put_handlers hs (behind (stmts_blocks ss) bs)) (put_stmts ts (behind (handlers_blocks hs) (behind (stmts_blocks ss) bs)))
  put_stmt (Empty at) bs = Empty at
  put_stmt (Local at t ds) bs = Local at t ds
  put_stmt (Evaluate at e) bs = Evaluate at e
  put_stmt (Break at l) bs = Break at l
  put_stmt (Continue at l) bs = Continue at l
  put_stmt (Return at e) bs = Return at e
  put_stmt (Throw at e) bs = Throw at e
  put_stmt (Super at es) bs = Super at es

  put_stmts : JavaStmts → Blocks → JavaStmts
  put_stmts NoStmts bs = NoStmts
  put_stmts (StmtThen s ss) bs = StmtThen (put_stmt s bs) (put_stmts ss (behind (stmt_blocks s) bs))

  put_handler : JavaHandler → Blocks → JavaHandler
  put_handler (Catch at c x ss) bs = Catch at c x (put_stmts ss bs)

  put_handlers : JavaHandlers → Blocks → JavaHandlers
  put_handlers NoHandlers bs = NoHandlers
  put_handlers (HandlerThen h hs) bs = HandlerThen (put_handler h bs) (put_handlers hs (behind (handler_blocks h) bs))

abbrev put_list : {A : Type 0} → (A → Blocks) → (A → Blocks → A) → List A → Blocks → List A
put_list one put [] bs = []
put_list one put (x ∷ xs) bs = put x bs ∷ put_list one put xs (behind (one x) bs)

abbrev put_parameter : JavaParameter → Blocks → JavaParameter
put_parameter x bs = record x { specs = put_blocks x.specs bs }

abbrev put_member : JavaMember → Blocks → JavaMember
put_member (FieldMember f) bs = FieldMember (record f { specs = put_blocks f.specs bs })
put_member (ConstantMember c) bs = ConstantMember (record c { specs = put_blocks c.specs bs })
put_member (MethodMember m) bs =
    let more = behind m.specs bs in
    MethodMember (record m {
      specs = put_blocks m.specs bs;
      parameters = put_list parameter_blocks put_parameter m.parameters more;
      body = put_list stmt_blocks put_stmt m.body (behind (flat_map parameter_blocks m.parameters) more);
    })

abbrev put_class : JavaClass → Blocks → JavaClass
put_class c bs = record c { members = put_list member_blocks put_member c.members bs; end = put_option c.end (behind (flat_map member_blocks c.members) bs) }

abbrev put_unit : JavaUnit → Blocks → JavaUnit
put_unit u bs = record { classes = put_list class_blocks put_class u.classes bs }

-- ---- what was taken out is put in again

-- behind a part without clauses are those behind the part
left : (us xs ys : Blocks) → us ≡ map bare_block xs → behind us (xs ++ ys) ≡ ys
left us xs ys same = ap (λ l. drop (length l) (xs ++ ys)) same ∙ ap (λ n. drop n (xs ++ ys)) (length-map xs bare_block) ∙ drop-append_seam xs ys

left_of_two : (us xs ys rest : Blocks) → us ≡ map bare_block xs → behind us ((xs ++ ys) ++ rest) ≡ ys ++ rest
left_of_two us xs ys rest same = ap (behind us) (append_assoc xs ys rest) ∙ left us xs (ys ++ rest) same

blocks_again : (xs rest : Blocks) → put_blocks (map bare_block xs) (xs ++ rest) ≡ xs
blocks_again [] rest = refl
blocks_again (x ∷ xs) rest = ap (λ l. x ∷ l) (blocks_again xs rest)

option_again : (j : Option PlainSpecBlock) (rest : Blocks) → put_option (option_map bare_block j) (option_to_list j ++ rest) ≡ j
option_again None rest = refl
option_again (Some b) rest = refl

-- a part, and what stands behind it
first_of_two : {A : Type 0} (put : Blocks → A) (x : A) (xs ys rest : Blocks) → ((more : Blocks) → put (xs ++ more) ≡ x) → put ((xs ++ ys) ++ rest) ≡ x
first_of_two put x xs ys rest again = ap put (append_assoc xs ys rest) ∙ again (ys ++ rest)

second_of_two : {A : Type 0} (put : Blocks → A) (y : A) (us xs ys rest : Blocks) → us ≡ map bare_block xs → ((more : Blocks) → put (ys ++ more) ≡ y) → put (behind us ((xs ++ ys) ++ rest)) ≡ y
second_of_two put y us xs ys rest same again = ap put (left_of_two us xs ys rest same) ∙ again rest

both : {A B C : Type 0} (f : A → B → C) (a x : A) (b y : B) → a ≡ x → b ≡ y → f a b ≡ f x y
both f a x b y p q = ap (λ v. f v b) p ∙ ap (f x) q

option_blocks : (j : Option PlainSpecBlock) → option_to_list (option_map bare_block j) ≡ map bare_block (option_to_list j)
option_blocks None = refl
option_blocks (Some b) = refl

mutual
  stmt_again : (s : JavaStmt) (rest : Blocks) → put_stmt (bare_stmt s) (stmt_blocks s ++ rest) ≡ s
  stmt_again (Block at ss) rest = ap (Block at) (stmts_again ss rest)
  stmt_again (Empty at) rest = refl
  stmt_again (Local at t ds) rest = refl
  stmt_again (Evaluate at e) rest = refl
  stmt_again (Label at None l s) rest = ap (Label at None l) (stmt_again s rest)
  stmt_again (Label at (Some b) l s) rest = ap (Label at (Some b) l) (stmt_again s rest)
  stmt_again (If at c s) rest = ap (If at c) (stmt_again s rest)
  stmt_again (IfElse at c s t) rest =
      both (IfElse at c) (put_stmt (bare_stmt s) ((stmt_blocks s ++ stmt_blocks t) ++ rest)) s (put_stmt (bare_stmt t) (behind (stmt_blocks (bare_stmt s)) ((stmt_blocks s ++ stmt_blocks t) ++ rest))) t
      (first_of_two (put_stmt (bare_stmt s)) s (stmt_blocks s) (stmt_blocks t) rest (stmt_again s))
      (second_of_two (put_stmt (bare_stmt t)) t (stmt_blocks (bare_stmt s)) (stmt_blocks s) (stmt_blocks t) rest (of_stmt s) (stmt_again t))
  stmt_again (While at None c s) rest = ap (While at None c) (stmt_again s rest)
  stmt_again (While at (Some b) c s) rest = ap (While at (Some b) c) (stmt_again s rest)
  stmt_again (For at None start c update s) rest = ap (For at None start c update) (stmt_again s rest)
  stmt_again (For at (Some b) start c update s) rest = ap (For at (Some b) start c update) (stmt_again s rest)
  stmt_again (Break at l) rest = refl
  stmt_again (Continue at l) rest = refl
  stmt_again (Return at e) rest = refl
  stmt_again (Throw at e) rest = refl
  stmt_again (Try at ss hs) rest =
      both (Try at) (put_stmts (bare_stmts ss) ((stmts_blocks ss ++ handlers_blocks hs) ++ rest)) ss (put_handlers (bare_handlers hs) (behind (stmts_blocks (bare_stmts ss)) ((stmts_blocks ss ++ handlers_blocks hs) ++ rest))) hs
      (first_of_two (put_stmts (bare_stmts ss)) ss (stmts_blocks ss) (handlers_blocks hs) rest (stmts_again ss))
      (second_of_two (put_handlers (bare_handlers hs)) hs (stmts_blocks (bare_stmts ss)) (stmts_blocks ss) (handlers_blocks hs) rest (of_stmts ss) (handlers_again hs))
  stmt_again (TryFinally at ss hs ts) rest =
      let all = (stmts_blocks ss ++ (handlers_blocks hs ++ stmts_blocks ts)) ++ rest in
      let more = behind (stmts_blocks (bare_stmts ss)) all in
      let is : more ≡ (handlers_blocks hs ++ stmts_blocks ts) ++ rest = left_of_two (stmts_blocks (bare_stmts ss)) (stmts_blocks ss) (handlers_blocks hs ++ stmts_blocks ts) rest (of_stmts ss) in
      let caught : put_handlers (bare_handlers hs) more ≡ hs = ap (put_handlers (bare_handlers hs)) is ∙ first_of_two (put_handlers (bare_handlers hs)) hs (handlers_blocks hs) (stmts_blocks ts) rest (handlers_again hs) in
      let last : put_stmts (bare_stmts ts) (behind (handlers_blocks (bare_handlers hs)) more) ≡ ts =
      ap (λ l. put_stmts (bare_stmts ts) (behind (handlers_blocks (bare_handlers hs)) l)) is
      ∙ second_of_two (put_stmts (bare_stmts ts)) ts (handlers_blocks (bare_handlers hs)) (handlers_blocks hs) (stmts_blocks ts) rest (of_handlers hs) (stmts_again ts) in
      let first : put_stmts (bare_stmts ss) all ≡ ss = first_of_two (put_stmts (bare_stmts ss)) ss (stmts_blocks ss) (handlers_blocks hs ++ stmts_blocks ts) rest (stmts_again ss) in
      ap (put_stmt (bare_stmt (TryFinally at ss hs ts))) (ap (λ l. l ++ rest) (append_assoc (stmts_blocks ss) (handlers_blocks hs) (stmts_blocks ts)))
      ∙ ap (λ v. TryFinally at v (put_handlers (bare_handlers hs) more) (put_stmts (bare_stmts ts) (behind (handlers_blocks (bare_handlers hs)) more))) first
      ∙ both (TryFinally at ss) (put_handlers (bare_handlers hs) more) hs (put_stmts (bare_stmts ts) (behind (handlers_blocks (bare_handlers hs)) more)) ts caught last
  stmt_again (Super at es) rest = refl

  stmts_again : (ss : JavaStmts) (rest : Blocks) → put_stmts (bare_stmts ss) (stmts_blocks ss ++ rest) ≡ ss
  stmts_again NoStmts rest = refl
  stmts_again (StmtThen s ss) rest =
      both StmtThen (put_stmt (bare_stmt s) ((stmt_blocks s ++ stmts_blocks ss) ++ rest)) s (put_stmts (bare_stmts ss) (behind (stmt_blocks (bare_stmt s)) ((stmt_blocks s ++ stmts_blocks ss) ++ rest))) ss
      (first_of_two (put_stmt (bare_stmt s)) s (stmt_blocks s) (stmts_blocks ss) rest (stmt_again s))
      (second_of_two (put_stmts (bare_stmts ss)) ss (stmt_blocks (bare_stmt s)) (stmt_blocks s) (stmts_blocks ss) rest (of_stmt s) (stmts_again ss))

  handler_again : (h : JavaHandler) (rest : Blocks) → put_handler (bare_handler h) (handler_blocks h ++ rest) ≡ h
  handler_again (Catch at c x ss) rest = ap (Catch at c x) (stmts_again ss rest)

  handlers_again : (hs : JavaHandlers) (rest : Blocks) → put_handlers (bare_handlers hs) (handlers_blocks hs ++ rest) ≡ hs
  handlers_again NoHandlers rest = refl
  handlers_again (HandlerThen h hs) rest =
      both HandlerThen (put_handler (bare_handler h) ((handler_blocks h ++ handlers_blocks hs) ++ rest)) h (put_handlers (bare_handlers hs) (behind (handler_blocks (bare_handler h)) ((handler_blocks h ++ handlers_blocks hs) ++ rest))) hs
      (first_of_two (put_handler (bare_handler h)) h (handler_blocks h) (handlers_blocks hs) rest (handler_again h))
      (second_of_two (put_handlers (bare_handlers hs)) hs (handler_blocks (bare_handler h)) (handler_blocks h) (handlers_blocks hs) rest (of_handler h) (handlers_again hs))

list_again : {A : Type 0} (one : A → Blocks) (strip : A → A) (put : A → Blocks → A) → ((x : A) → one (strip x) ≡ map bare_block (one x)) → ((x : A) (more : Blocks) → put (strip x) (one x ++ more) ≡ x) → (xs : List A) (rest : Blocks) → put_list one put (map strip xs) (flat_map one xs ++ rest) ≡ xs
list_again one strip put blocks each [] rest = refl
list_again one strip put blocks each (x ∷ xs) rest =
    both (λ v l. v ∷ l) (put (strip x) ((one x ++ flat_map one xs) ++ rest)) x (put_list one put (map strip xs) (behind (one (strip x)) ((one x ++ flat_map one xs) ++ rest))) xs
    (first_of_two (put (strip x)) x (one x) (flat_map one xs) rest (each x))
    (second_of_two (put_list one put (map strip xs)) xs (one (strip x)) (one x) (flat_map one xs) rest (blocks x) (list_again one strip put blocks each xs))

parameter_again : (x : JavaParameter) (rest : Blocks) → put_parameter (bare_parameter x) (parameter_blocks x ++ rest) ≡ x
parameter_again x rest = ap (λ bs. record x { specs = bs }) (blocks_again x.specs rest)

member_again : (m : JavaMember) (rest : Blocks) → put_member (bare_member m) (member_blocks m ++ rest) ≡ m
member_again (FieldMember f) rest = ap (λ bs. FieldMember (record f { specs = bs })) (blocks_again f.specs rest)
member_again (ConstantMember c) rest = ap (λ bs. ConstantMember (record c { specs = bs })) (blocks_again c.specs rest)
member_again (MethodMember m) rest =
    let of_parameters = flat_map parameter_blocks m.parameters in
    let of_body = stmts_blocks (java_stmts m.body) in
    let all = (m.specs ++ (of_parameters ++ of_body)) ++ rest in
    let more = behind (map bare_block m.specs) all in
    let bodies = behind (flat_map parameter_blocks (map bare_parameter m.parameters)) more in
    let is : more ≡ (of_parameters ++ of_body) ++ rest = left_of_two (map bare_block m.specs) m.specs (of_parameters ++ of_body) rest refl in
    let specs : put_blocks (map bare_block m.specs) all ≡ m.specs = first_of_two (put_blocks (map bare_block m.specs)) m.specs m.specs (of_parameters ++ of_body) rest (blocks_again m.specs) in
    let parameters : put_list parameter_blocks put_parameter (map bare_parameter m.parameters) more ≡ m.parameters =
    ap (put_list parameter_blocks put_parameter (map bare_parameter m.parameters)) is
    ∙ first_of_two (put_list parameter_blocks put_parameter (map bare_parameter m.parameters)) m.parameters of_parameters of_body rest (list_again parameter_blocks bare_parameter put_parameter (λ x. refl) parameter_again m.parameters) in
    let left_for_body : bodies ≡ of_body ++ rest =
    ap (behind (flat_map parameter_blocks (map bare_parameter m.parameters))) is
    ∙ left_of_two (flat_map parameter_blocks (map bare_parameter m.parameters)) of_parameters of_body rest (of_list parameter_blocks bare_parameter (λ x. refl) m.parameters) in
    let body : put_list stmt_blocks put_stmt (map bare_stmt m.body) bodies ≡ m.body =
    ap (put_list stmt_blocks put_stmt (map bare_stmt m.body)) (left_for_body ∙ ap (λ l. l ++ rest) (body_blocks m.body))
    ∙ list_again stmt_blocks bare_stmt put_stmt of_stmt stmt_again m.body rest in
    ap (put_member (bare_member (MethodMember m))) (ap (λ l. l ++ rest) (append_assoc m.specs of_parameters of_body))
    ∙ ap (λ v. MethodMember (record m { specs = v; parameters = put_list parameter_blocks put_parameter (map bare_parameter m.parameters) more; body = put_list stmt_blocks put_stmt (map bare_stmt m.body) bodies })) specs
    ∙ ap (λ v. MethodMember (record m { parameters = v; body = put_list stmt_blocks put_stmt (map bare_stmt m.body) bodies })) parameters
    ∙ ap (λ v. MethodMember (record m { body = v })) body

class_again : (c : JavaClass) (rest : Blocks) → put_class (bare_class c) (class_blocks c ++ rest) ≡ c
class_again c rest =
    let of_members = flat_map member_blocks c.members in
    let all = (of_members ++ option_to_list c.end) ++ rest in
    let members : put_list member_blocks put_member (map bare_member c.members) all ≡ c.members =
    first_of_two (put_list member_blocks put_member (map bare_member c.members)) c.members of_members (option_to_list c.end) rest (list_again member_blocks bare_member put_member of_member member_again c.members) in
    let end : put_option (option_map bare_block c.end) (behind (flat_map member_blocks (map bare_member c.members)) all) ≡ c.end =
    second_of_two (put_option (option_map bare_block c.end)) c.end (flat_map member_blocks (map bare_member c.members)) of_members (option_to_list c.end) rest (of_list member_blocks bare_member of_member c.members) (option_again c.end) in
    ap (λ v. record c { members = v; end = put_option (option_map bare_block c.end) (behind (flat_map member_blocks (map bare_member c.members)) all) }) members
    ∙ ap (λ v. record c { end = v }) end

unit_again : (u : JavaUnit) → put_unit (bare u) (blocks_of u) ≡ u
unit_again u =
    ap (put_unit (bare u)) (sym (append-nil (blocks_of u)))
    ∙ ap (λ cs. record { classes = cs }) (list_again class_blocks bare_class put_class of_class class_again u.classes [])

-- trees that differ in clauses alone and have the same blocks are the same
pub same_unit : (t u : JavaUnit) → bare t ≡ bare u → blocks_of t ≡ blocks_of u → t ≡ u
same_unit t u bares blocks = sym (unit_again t) ∙ ap (λ v. put_unit v (blocks_of t)) bares ∙ ap (put_unit (bare u)) blocks ∙ unit_again u
