-- Parameters and code of a straight body are known.
use Rattle.std.proofs.Common.{List, None, Option, Some, [], Result, Ok, drop, cond, length, map, nat_le, suc, refl, sym, ap, arith, subst, Bool, true, false, ◌++◌, ◌+◌, ◌∙◌, ◌∷◌, ◌≡◌, ◌≤◌, ℕ}
use Rattle.std.proofs.lemmas.Bool.{and_parts, leb-true}
use Rattle.std.proofs.lemmas.List.{append-nil, append_assoc}
use Rattle.std.proofs.lemmas.Option.{none-some}
use Rattle.jd_base.specs.declared.sort.Sort.TheVariants.{Int as IntSort}
use Rattle.jd_bodies.specs.declared.fault.Fault.{Fault}
use Rattle.jd_bodies.specs.declared.place.Place.{Place}
use Rattle.jd_bodies.specs.declared.value.ValueType.{ValueType}
use Rattle.jd_bodies.specs.declared.value.ValueType.TheVariants as types
use Rattle.jd_bodies.specs.Bodies.{Lines, above, above_lines, begun, block_lines, body_of, no_exits, parameter_locals, receiver, unwritten, with_parameters}
use Rattle.jd_bodies.specs.Declarations.{Declarations, type_by}
use Rattle.jd_bodies.specs.Expressions.{written_type}
use Rattle.jd_bodies.specs.Judgements.{and_then}
use Rattle.jd_bodies.specs.Refused.{begins_with_super, body, method, needs_none, place_of, result_known, returns_of, runs_above}
use Rattle.jd_bodies.specs.Refused as refused
use Rattle.jd_bodies.specs.Scopes.{Local, Scope, empty_scope, local_named}
use Rattle.jd_bodies.specs.Statements as judged
use Rattle.jd_bodies.specs.Statements.{with_name}
use Rattle.jd_bodies.specs.Variables.{Progress, declared, local_name, this_name, with_local}
use Rattle.jd_expression_temporaries.specs.Laws.{ExpressionsAddTemporaries}
use Rattle.jd_first_form.specs.Forms.{all_steps, is_straight, statement_count, step_limit}
use Rattle.jd_model.specs.ResolvedBodies.{IsResolvedCode}
use Rattle.jd_local_texts.specs.Laws.{TextsOfLocalsAreApart}
use Rattle.jd_names.specs.Laws.{NamesAreKnown}
use Rattle.jd_programs.specs.Programs.{parameter_names, variable_name}
use Rattle.jd_spelled_first_steps.specs.TermNames.{AreTermNames}
use Rattle.jd_syntax.specs.Codes.{Stmt, stmts_of}
use Rattle.jd_syntax.specs.JavaTrees.{Gives, JavaMethod, JavaParameter, JavaResult, OfConstructor, Void, java_stmts}
use Rattle.jd_syntax.specs.JavaTypes.{PlainIdentifier}
use Rattle.jd_syntax.specs.Names.{Declared, Name}
use Rattle.jd_tforms.specs.Known.{CodeKnown}
use Rattle.jd_tforms.specs.Sorted.{Value, code_sorted}
use Rattle.jd_tgrammar.specs.NameTables.{NameTable}
use Rattle.jd_variable_words.specs.Words.{MethodHasWords, ParametersHaveWords}
use Rattle.jd_straight_bodies.specs.Laws.{IsKnownBody, ParametersKnown, StraightBodiesAreKnown}
use Rattle.jd_straight_bodies.proofs.Effects.{named_once, same_ok}
use Rattle.jd_straight_bodies.proofs.Found.{AreMade, Stands, entered, limit, new_found}
use Rattle.jd_straight_bodies.proofs.Lines.{AreStraight, code_known, earlier, straight_code, straight_parts}
use Rattle.jd_straight_bodies.proofs.Named.{made_are_term_names}
use Rattle.jd_straight_bodies.proofs.Simple.{IsTable, found_known, through}
use Rattle.jd_straight_bodies.proofs.Statements.{known_type, stmts_walk}
use Rattle.jd_straight_bodies.proofs.Words.{constant_is, of_value}

-- ---- parameters

pub parameters_both : (names : NameTable) (xs ys : List Name) → ParametersKnown names xs → ParametersKnown names ys → ParametersKnown names (xs ++ ys)
parameters_both names [] ys g h = h
parameters_both names (x ∷ xs) ys g h = (g.0, parameters_both names xs ys g.1 h)

-- behind so many parameters: what is in scope stands, and each that is new is known
record Entered (p q : Progress) (locals : List Local) (k : ℕ) : Type 0 where
  more : List Declared
  is : q.variables ≡ p.variables ++ more
  few : length q.names ≤ length p.names + k
  stands : Stands q locals
  known : (names : NameTable) → IsTable names q → ParametersKnown names (map variable_name more)

one_more : (all before more : List Declared) (v : Declared) → all ≡ (before ++ (v ∷ [])) ++ more → all ≡ before ++ (v ∷ more)
one_more all before more v is = is ∙ append_assoc before (v ∷ []) more

module _ (texts : TextsOfLocalsAreApart) (laws : NamesAreKnown) (d : Declarations) where
  entered_all : (xs : List JavaParameter) → ParametersHaveWords xs → (s t : Scope) → refused.with_parameters d xs s ≡ Ok t → (locals : List Local) → s.locals ≡ locals → (p : Progress) → Stands p locals → length p.names + length xs ≤ limit
      → Entered p (with_parameters d xs p) (parameter_locals d xs locals) (length xs) × (t.locals ≡ parameter_locals d xs locals)
  entered_all [] words s t e locals same p stands few =
      (record { more = []; is = sym (append-nil p.variables); few = omega arith; stands = stands; known = λ names table. tt }, ap (λ v. v.locals) (sym (same_ok s t e)) ∙ same)
  entered_all (x ∷ xs) words s t e locals same p stands few =
      let h = through (refused.with_parameters d xs) (and_then (λ u. with_name x.name u s) (written_type d x.ty)) t e in
      let g = through (λ u. with_name x.name u s) (written_type d x.ty) h.0 h.1 in
      let type = type_by d.class_named x.ty.written in
      let named : with_name x.name type s ≡ Ok h.0 = subst (λ u. with_name x.name u s ≡ Ok h.0) (sym (known_type d x.ty.at type g.0 g.1)) g.2 in
      let n = named_once (local_named s.locals x.name.name) x.name.at _ (judged.with_local x.name.name type s) h.0 named in
      let once : local_named locals x.name.name ≡ None = subst (λ l. local_named l x.name.name ≡ None) same n.0 in
      let inner : List Local = record { name = x.name.name; type = type } ∷ locals in
      let here : h.0.locals ≡ inner = ap (λ v. v.locals) (sym n.1) ∙ ap (λ l. record { name = x.name.name; type = type } ∷ l) same in
      let q = with_local x.name.name type p in
      let found = new_found texts p x.name.name type words.0 (omega (arith, few)) stands.made in
      let i = entered_all xs words.1 h.0 t h.2 inner here q (entered texts p x.name.name type locals stands once words.0 (omega (arith, few))) (omega (arith, few)) in
      let r = i.0 in
      let own : Declared = declared (local_name q.names x.name.name type) type in (
        record {
          more = own ∷ r.more;
          is = one_more (with_parameters d xs q).variables p.variables r.more own r.is;
          few = (let low = r.few in omega (arith, low));
          stands = r.stands;
          known = λ names table.
              let k = found_known texts names q (earlier names q (with_parameters d xs q) r.more r.is table) (omega (arith, few)) x.name.name type found in
              ((k.0, constant_is laws x.name.name own.name.text own.name.sort (of_value type) words.0 (texts.source x.name.name _ words.0)), r.known names table);
        },
        i.1,
      )

-- ---- what stands before the parameters and the body

module _ (d : Declarations) where
  result_stays : (r : JavaResult) (s t : Scope) → result_known d r s ≡ Ok t → s ≡ t
  result_stays Void s t e = same_ok s t e
  result_stays (Gives w) s t e = let h = through (λ u. Ok s) (written_type d w) t e in same_ok s t h.2
  result_stays OfConstructor s t e = same_ok s t e

  needs_stays : (at : ℕ) (o : Option (List ValueType)) (s t : Scope) → needs_none d at o s ≡ Ok t → s ≡ t
  needs_stays at None s t e = absurd cc
  needs_stays at (Some []) s t e = same_ok s t e
  needs_stays at (Some (u ∷ us)) s t e = absurd cc

  above_stays : (class : ℕ) (name : PlainIdentifier) (r : JavaResult) (says : Bool) (s t : Scope) → runs_above d class name r says s ≡ Ok t → s ≡ t
  above_stays class name OfConstructor false s t e = needs_stays name.at _ s t e
  above_stays class name OfConstructor true s t e = same_ok s t e
  above_stays class name Void says s t e = same_ok s t e
  above_stays class name (Gives w) says s t e = same_ok s t e

  none_above : (o : Option ℕ) (p : Progress) → AreStraight (above_lines o (p, [])).1 → (above_lines o (p, [])).1 ≡ []
  none_above None p straight = refl
  none_above (Some m) p straight = absurd straight.0

  none_unwritten : (r : JavaResult) (says : Bool) (class : ℕ) → AreStraight (unwritten d r says class) → unwritten d r says class ≡ []
  none_unwritten OfConstructor false class straight = none_above (above d (d.parent class)) _ straight
  none_unwritten OfConstructor true class straight = refl
  none_unwritten Void says class straight = refl
  none_unwritten (Gives w) says class straight = refl

counted : (ss : List Stmt) → statement_count (stmts_of ss) ≡ length ss
counted [] = refl
counted (s ∷ ss) = ap suc (counted ss)

no_receiver : (place : Place) → place.is_static ≡ true → receiver place ≡ []
no_receiver place static = ap (λ b. cond b [] (declared this_name (types.Class place.class) ∷ [])) static

-- ---- together

all_few : (before behind : List (List ℕ)) (j k : ℕ) → length before ≤ 0 + j → j ≤ 1000 → length behind ≤ length before + k → k ≤ step_limit → length behind ≤ limit
all_few before behind j k a b c e = omega (arith, a, b, c, e)

own_table : (names : NameTable) (p : Progress) → names.variables ≡ map variable_name p.variables → IsTable names p
own_table names p e = record { rest = []; is = e ∙ sym (append-nil (map variable_name p.variables)) }

module _ (names : NameTable) (d : Declarations) (class : ℕ) (m : JavaMethod) (s : Scope) (static : m.is_static ≡ true) where
  abbrev place : Place
  place = place_of d class m

  abbrev first : List Stmt
  first = unwritten d m.result (begins_with_super m.body) class

  abbrev locals : List Local
  locals = parameter_locals d m.parameters []

  abbrev entry : Progress
  entry = with_parameters d m.parameters (begun place)

  abbrev whole : Lines
  whole = block_lines d place (java_stmts m.body) no_exits locals entry

  abbrev before_parameters : Result Scope Fault
  before_parameters = and_then (runs_above d class m.name m.result (begins_with_super m.body)) (result_known d m.result empty_scope)

  nothing_stands : Stands (begun place) []
  nothing_stands = record { made = subst (AreMade []) (sym (no_receiver place static)) tt; found = λ x t e. absurd (none-some t e) }

  -- nothing is in scope before the parameters
  nothing_before : (g : Scope) → before_parameters ≡ Ok g → g.locals ≡ []
  nothing_before g e =
      let k = through (runs_above d class m.name m.result (begins_with_super m.body)) (result_known d m.result empty_scope) g e in
      ap (λ v. v.locals) (sym (result_stays d m.result empty_scope k.0 k.1 ∙ above_stays d class m.name m.result (begins_with_super m.body) k.0 g k.2))

  few_lines : first ≡ [] → nat_le (statement_count (stmts_of (first ++ whole.1))) step_limit ≡ true → length whole.1 ≤ step_limit
  few_lines none e = subst (λ n. n ≤ step_limit) (counted whole.1) (subst (λ f. statement_count (stmts_of (f ++ whole.1)) ≤ step_limit) none (leb-true (statement_count (stmts_of (first ++ whole.1))) step_limit e))

  -- the parameters are the variables that are there first
  called : (more : List Declared) → entry.variables ≡ receiver place ++ more → ParametersKnown names (map variable_name more) → ParametersKnown names (parameter_names d class m)
  called more is known = subst (ParametersKnown names) (sym same) known
    where
      same : parameter_names d class m ≡ map variable_name more
      same =
          ap (λ b. drop (cond b 0 1) (map variable_name entry.variables)) static
          ∙ ap (map variable_name) (is ∙ ap (λ l. l ++ more) (no_receiver place static))

  known_body : TextsOfLocalsAreApart → ExpressionsAddTemporaries → NamesAreKnown → MethodHasWords m → method d class m empty_scope ≡ Ok s → length m.parameters ≤ 1000 → is_straight (body_of d class m).code_ ≡ true
      → IsResolvedCode [] (body_of d class m).code_ → names.variables ≡ map variable_name (body_of d class m).variables → IsKnownBody names (parameter_names d class m) (body_of d class m).code_
  known_body texts adds laws words e few straight resolved table =
      let h = through (body d class m) (and_then (refused.with_parameters d m.parameters) before_parameters) s e in
      let g = through (refused.with_parameters d m.parameters) before_parameters h.0 h.1 in
      let a = entered_all texts laws d m.parameters words.parameters_ g.0 h.0 g.2 [] (nothing_before g.0 g.1) (begun place) nothing_stands (omega (arith, few)) in
      let both = and_parts (nat_le (statement_count (stmts_of (first ++ whole.1))) step_limit) (all_steps (stmts_of (first ++ whole.1))) straight in
      let parts = straight_parts first whole.1 (straight_code (first ++ whole.1) both.1 resolved) in
      let none = none_unwritten d m.result (begins_with_super m.body) class parts.0 in
      let short = few_lines none both.0 in
      let low = a.0.few in
      let w = stmts_walk texts adds d place static (returns_of d m.result) (java_stmts m.body) words.body_ h.0 s h.2 no_exits locals a.1 entry a.0.stands parts.1 (omega (arith, few, short, low)) in
      let last = own_table names whole.0 table in
      let c = code_known names whole.1 (w.known names last) in
      record {
        parameters_ = called a.0.more a.0.is (a.0.known names (earlier names entry whole.0 w.behind.more w.behind.is last));
        code = subst (λ f. CodeKnown names (stmts_of (f ++ whole.1))) (sym none) c.0;
        sorted = subst (λ f. code_sorted names (Value IntSort) (stmts_of (f ++ whole.1)) ≡ true) (sym none) c.1;
        variables_ = subst AreTermNames (sym table) (made_are_term_names texts whole.0.names (all_few entry.names whole.0.names (length m.parameters) (length whole.1) low few w.behind.few short) whole.0.variables w.behind.made);
      }

pub bodies_known : TextsOfLocalsAreApart → ExpressionsAddTemporaries → NamesAreKnown → StraightBodiesAreKnown
bodies_known texts adds laws names d class m s static words e few straight resolved table = known_body names d class m s static texts adds laws words e few straight resolved table
