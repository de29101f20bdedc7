-- The variables of a body whose names are words have words that terms read as them.
use Rattle.std.proofs.Common.{All, Bool, List, None, Option, [], ap, arith, codes, cond, false, length, map, nat_eq, not, option_map, refl, subst, suc, sym, true, true≢false, ◌&&◌, ◌+◌, ◌++◌, ◌∙◌, ◌∷◌, ◌≡◌, ◌≢◌, if◌then◌else◌, ℕ}
use Rattle.std.proofs.lemmas.Bool.{and_parts, ne_eqb}
use Rattle.std.proofs.lemmas.List.Elements.{All-head, All-tail}
use Rattle.std.proofs.lemmas.Slice.Eq.{bytes_eq-Decides}
use Rattle.std.specs.Fmt.{decimal}
use Rattle.std.specs.List.{filter, list_all}
use Rattle.std.specs.Str.{bytes_eq}
use Rattle.jd_body_variables.specs.Names.{DeclaratorsPass, HandlersPass, IsMadeOf, MethodPasses, ParametersPass, StartPasses, StmtPasses, StmtsPass}
use Rattle.jd_body_variables.specs.Names.IsMadeOf.{a_local, a_temporary, the_receiver}
use Rattle.jd_bodies.specs.Variables.{count_of, local_text}
use Rattle.jd_names.specs.Identifiers.{is_identifier, is_java_byte}
use Rattle.jd_programs.specs.Programs.{variable_name}
use Rattle.jd_spelled_first_steps.specs.TermNames.{AreTermNames, IsTermName}
use Rattle.jd_syntax.specs.JavaTrees.{Block, Break, Catch, Continue, Declared as DeclaredStart, Empty, Evaluate, Evaluated, For, HandlerThen, If, IfElse, JavaDeclarator, JavaForStart, JavaHandlers, JavaMethod, JavaParameter, JavaStmt, JavaStmts, Label, Local, NoHandlers, NoStmts, Return, StmtThen, Super, Throw, Try, TryFinally, While, java_stmts}
use Rattle.jd_syntax.specs.Names.{Declared, Name}
use Rattle.jd_tforms.specs.Naming.{constant_of, letter_sort, named, special_sort}
use Rattle.jd_tforms.specs.Shapes.{is_digit, is_name, is_special_byte}
use Rattle.jd_variable_words.specs.Words.{DeclaratorsHaveWords, HandlersHaveWords, HasWords, HaveWords, IsWord, MethodHasWords, ParametersHaveWords, StartHasWords, is_literal_word, is_plain_word}

abbrev created : List ℕ
created = codes "created"

-- ---- words that are no constant's

no_sort : (a : ℕ) (w : List ℕ) → nat_eq a 35 ≡ false → special_sort 35 (a ∷ w) ≡ None
no_sort a [] e = refl
no_sort a (b ∷ bs) e = ap (λ t. cond (t && list_all is_special_byte bs) (letter_sort b) None) e

none_both : (b : Bool) (o : Option Name) → o ≡ None → cond b o None ≡ None
none_both true o e = e
none_both false o e = refl

no_constant : (a : ℕ) (w : List ℕ) → nat_eq a 35 ≡ false → constant_of (a ∷ w) ≡ None
no_constant a w e = none_both (is_name (a ∷ w)) (option_map (named (a ∷ w)) (special_sort 35 (a ∷ w))) (ap (option_map (named (a ∷ w))) (no_sort a w e))

no_sign : (b : ℕ) → is_java_byte b ≡ true → nat_eq b 35 ≡ false
no_sign b h = ne_eqb b 35 (λ same. true≢false (sym (subst (λ c. is_java_byte c ≡ true) same h)))

-- ---- words that are not `created`

-- by a test that it does not pass
apart : (test : List ℕ → Bool) (w : List ℕ) → test created ≡ true → test w ≡ false → w ≢ created
apart test w passes fails e = true≢false (sym passes ∙ (ap test (sym e) ∙ fails))

abbrev unmarked : List ℕ → Bool
unmarked w = list_all (λ b. not (nat_eq b 39)) w

never_both : (b : Bool) → (b && false) ≡ false
never_both true = refl
never_both false = refl

has_mark : (x ds : List ℕ) → unmarked (x ++ (39 ∷ ds)) ≡ false
has_mark [] ds = refl
has_mark (b ∷ bs) ds = ap (λ t. not (nat_eq b 39) && t) (has_mark bs ds) ∙ never_both (not (nat_eq b 39))

-- ---- names

itself : (x : List ℕ) → bytes_eq x x ≡ true
itself x = (bytes_eq-Decides x x).1 refl

-- a name that is called `created` has a second one of its kind at least
counted : (x : List ℕ) (names : List (List ℕ)) → bytes_eq x created ≡ true → nat_eq (count_of x (x ∷ names)) 1 ≡ false
counted x names e =
    let rest : List (List ℕ) = filter (λ n. bytes_eq n x) names in
    let first : count_of x (x ∷ names) ≡ suc (length rest) + cond (bytes_eq x created) 1 0 = ap (λ b. length (cond b (x ∷ rest) rest) + cond (bytes_eq x created) 1 0) (itself x) in
    let both : count_of x (x ∷ names) ≡ suc (length rest) + 1 = first ∙ ap (λ b. suc (length rest) + cond b 1 0) e in
    ne_eqb (count_of x (x ∷ names)) 1 (λ one. omega (arith, both, one))

text_is_other : (x : List ℕ) (names : List (List ℕ)) → local_text x (count_of x (x ∷ names)) ≢ created
text_is_other x names = by (bytes_eq x created) refl (nat_eq (count_of x (x ∷ names)) 1) refl
  where
    by : (b : Bool) → bytes_eq x created ≡ b → (c : Bool) → nat_eq (count_of x (x ∷ names)) 1 ≡ c → (if c then x else (x ++ (39 ∷ decimal (count_of x (x ∷ names))))) ≢ created
    by b e false k = apart unmarked (x ++ (39 ∷ decimal (count_of x (x ∷ names)))) refl (has_mark x (decimal (count_of x (x ∷ names))))
    by true e true k = absurd (true≢false (sym k ∙ counted x names e))
    by false e true k = apart (λ w. bytes_eq w created) x refl e

text_is_no_constant : (x : List ℕ) (k : ℕ) → IsWord x → constant_of (local_text x k) ≡ None
text_is_no_constant [] k w = absurd (true≢false (sym w))
text_is_no_constant (b ∷ bs) k w = by (nat_eq k 1)
  where
    word : is_identifier (b ∷ bs) ≡ true
    word = (and_parts (is_identifier (b ∷ bs)) (not (is_literal_word (b ∷ bs))) w).0

    begins : nat_eq b 35 ≡ false
    begins = no_sign b (and_parts (is_java_byte b) (list_all is_java_byte bs) (and_parts (not (is_digit b)) (list_all is_java_byte (b ∷ bs)) word).1).0

    by : (c : Bool) → constant_of (if c then (b ∷ bs) else ((b ∷ bs) ++ (39 ∷ decimal k))) ≡ None
    by true = no_constant b bs begins
    by false = no_constant b (bs ++ (39 ∷ decimal k)) begins

-- ---- variables

is_term_name : (v : Declared) → IsMadeOf is_plain_word v → IsTermName v.name
is_term_name _ (the_receiver class) = (apart (λ w. bytes_eq w created) (codes "this") refl refl, refl)
is_term_name _ (a_temporary number t) = (apart unmarked (39 ∷ decimal number) refl refl, no_constant 39 (decimal number) refl)
is_term_name _ (a_local names x t w) = (text_is_other x names, text_is_no_constant x (count_of x (x ∷ names)) w)

pub are_term_names : (vs : List Declared) → All (IsMadeOf is_plain_word) vs → AreTermNames (map variable_name vs)
are_term_names [] h = tt
are_term_names (v ∷ vs) h = (is_term_name v (All-head (IsMadeOf is_plain_word) v vs h), are_term_names vs (All-tail (IsMadeOf is_plain_word) v vs h))

-- ---- what is declared with words

declarators_pass : (xs : List JavaDeclarator) → DeclaratorsHaveWords xs → DeclaratorsPass is_plain_word xs
declarators_pass [] h = tt
declarators_pass (x ∷ xs) h = (h.0, declarators_pass xs h.1)

start_passes : (first : JavaForStart) → StartHasWords first → StartPasses is_plain_word first
start_passes (DeclaredStart w xs) h = declarators_pass xs h
start_passes (Evaluated es) h = tt

mutual
  stmt_passes : (s : JavaStmt) → HasWords s → StmtPasses is_plain_word s
  stmt_passes (Block at ss) h = stmts_pass ss h
  stmt_passes (Empty at) h = tt
  stmt_passes (Local at w xs) h = declarators_pass xs h
  stmt_passes (Evaluate at e) h = tt
  stmt_passes (Label at j l s) h = stmt_passes s h
  stmt_passes (If at c s) h = stmt_passes s h
  stmt_passes (IfElse at c s t) h = (stmt_passes s h.0, stmt_passes t h.1)
  stmt_passes (While at j c s) h = stmt_passes s h
  stmt_passes (For at j start c update s) h = (start_passes start h.0, stmt_passes s h.1)
  stmt_passes (Break at l) h = tt
  stmt_passes (Continue at l) h = tt
  stmt_passes (Return at e) h = tt
  stmt_passes (Throw at e) h = tt
  stmt_passes (Try at ss hs) h = (stmts_pass ss h.0, handlers_pass hs h.1)
  stmt_passes (TryFinally at ss hs ts) h = (stmts_pass ss h.0, handlers_pass hs h.1, stmts_pass ts h.2)
  stmt_passes (Super at es) h = tt

  stmts_pass : (ss : JavaStmts) → HaveWords ss → StmtsPass is_plain_word ss
  stmts_pass NoStmts h = tt
  stmts_pass (StmtThen s ss) h = (stmt_passes s h.0, stmts_pass ss h.1)

  handlers_pass : (hs : JavaHandlers) → HandlersHaveWords hs → HandlersPass is_plain_word hs
  handlers_pass NoHandlers h = tt
  handlers_pass (HandlerThen (Catch at c x ss) hs) h = (h.0, stmts_pass ss h.1, handlers_pass hs h.2)

parameters_pass : (xs : List JavaParameter) → ParametersHaveWords xs → ParametersPass is_plain_word xs
parameters_pass [] h = tt
parameters_pass (x ∷ xs) h = (h.0, parameters_pass xs h.1)

pub words_pass : (m : JavaMethod) → MethodHasWords m → MethodPasses is_plain_word m
words_pass m h = record { parameters_ = parameters_pass m.parameters h.parameters_; body_ = stmts_pass (java_stmts m.body) h.body_ }
