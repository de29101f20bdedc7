-- What the first rules put for a spelled formula at any place.
use Rattle.std.proofs.Common.{Bool, List, None, Option, Some, [], ap, cond, false, option_map, refl, subst, sym, true, true≢false, ◌&&◌, ◌∷◌, ◌≡◌, ◌≢◌}
use Rattle.std.proofs.lemmas.Option.{none-some}
use Rattle.std.specs.Option.{option_or}
use Rattle.std.specs.Prelude.{codes}
use Rattle.std.specs.Str.{bytes_eq}
use Rattle.jd_base.specs.declared.sort.Sort.{Sort}
use Rattle.jd_first_steps.specs.declared.rules.FirstRule.{FirstRule}
use Rattle.jd_first_steps.specs.declared.rules.FirstRule.TheVariants.{CatchEmpty, EmptyCode, EqRefl, FrameReturn, SetSimple, Simplify}
use Rattle.jd_first_steps.specs.Rewrites.{IsCatchEmpty, IsFrameReturn, IsSetSimple, Rewrites, simple_term}
use Rattle.jd_model.specs.Contexts.{fill, one}
use Rattle.jd_spelled_first_steps.proofs.Focus.{filled, focused}
use Rattle.jd_spelled_first_steps.proofs.Pushes.{push_spelled}
use Rattle.jd_spelled_first_steps.proofs.SimpleTerms.{simple_terms_are_spelled}
use Rattle.jd_spelled_first_steps.proofs.Sorts.{all_2, all_3}
use Rattle.jd_spelled_first_steps.specs.Focus.{SpelledCode, returns_at}
use Rattle.jd_spelled_first_steps.specs.Laws.{RewritingKeepsSpelled}
use Rattle.jd_spelled_first_steps.specs.TermNames.{AreTermNames}
use Rattle.jd_spelled_trees.specs.Spelled.{SpelledFormula}
use Rattle.jd_syntax.specs.Codes.{BoolLiteral, Catch, Done, Expr, Frame, IntLiteral, NullLiteral, PlainCode, Return, Set, Then, Variable}
use Rattle.jd_syntax.specs.Names.{Name}
use Rattle.jd_term.specs.Formulas.{Modal, PlainFormula}
use Rattle.jd_term.specs.Terms.{PlainTerm}
use Rattle.jd_tforms.proofs.Somes.{some_same}
use Rattle.jd_tforms.specs.Naming.{variable_of}
use Rattle.jd_tforms.specs.Sorted.{Free, Returns, Value, code_sorted, expr_sort, expr_sorted, is as has_value, is_some_sort, is_value, return_sorted, stmt_sorted}
use Rattle.jd_tgrammar.specs.NameTables.{NameTable}

some_pair : (p : Name × PlainTerm) → (p ∷ []) ≢ []
some_pair p e = cc

-- ---- the result of a frame

abbrev is_there : {A : Type 0} → Option A → Bool
is_there None = false
is_there (Some x) = true

abbrev no_result : Option Name
no_result = None

-- a result that is a variable is known as one
result_variable : (dash : Bool) (o : Option Name) (x : Name) → option_or (cond dash (Some no_result) None) (option_map Some o) ≡ Some (Some x) → o ≡ Some x
result_variable true o x e = absurd (true≢false (sym (ap is_there (some_same no_result (Some x) e))))
result_variable false None x e = absurd (none-some (Some x) e)
result_variable false (Some y) x e = some_same (Some y) (Some x) e

module _ (names : NameTable) where
  -- a simple expression is sorted, whatever a `return` has to give
  simple_sorted : (r q : Returns) (e : Expr) (t : PlainTerm) → simple_term e ≡ Some t → expr_sorted names r e ≡ true → expr_sorted names q e ≡ true
  simple_sorted r q (IntLiteral z) t is h = refl
  simple_sorted r q (BoolLiteral b) t is h = refl
  simple_sorted r q NullLiteral t is h = refl
  simple_sorted r q (Variable x) t is h = h
  simple_sorted r q e t is h = absurd (none-some t is)

  -- what a frame's `return` gives has the sort of the frame's result
  returned_value : (x : Name) (o : Option Sort) → return_sorted (Value x.sort) o ≡ true → is_some_sort x.sort o ≡ true
  returned_value x None h = h
  returned_value x (Some s) h = h

  -- the assignment that stands for a frame that begins with a `return`
  set_for_frame : (r : Returns) (x : Name) (e : Expr) (t : PlainTerm) (dropped : PlainCode) → simple_term e ≡ Some t → SpelledCode names r (one (Frame (Some x) (Then (Return e) dropped))) → SpelledCode names r (one (Set x e))
  set_for_frame r x e t dropped simple h =
      let returned = return_sorted (Value x.sort) (expr_sort names e) && expr_sorted names (Value x.sort) e in
      let framed = returned && code_sorted names (Value x.sort) dropped in
      let frame = all_2 (is_value x.sort) framed (all_2 (is_value x.sort && framed) true h.1).0 in
      let given = all_2 (return_sorted (Value x.sort) (expr_sort names e)) (expr_sorted names (Value x.sort) e) (all_2 returned (code_sorted names (Value x.sort) dropped) frame.1).0 in
      let fits = returned_value x (expr_sort names e) given.0 in
      let sorted = simple_sorted (Value x.sort) r e t simple given.1 in
      (((result_variable (bytes_eq (codes "-") x.text) (variable_of names x.text) x h.0.0.0, h.0.0.1.0), tt), λ i. frame.0 i && fits i && sorted i && true)

  module _ (are : AreTermNames names.variables) (ctx : List Sort) where
    set_simple : (before after : PlainFormula) → IsSetSimple before after → SpelledFormula names ctx before → SpelledFormula names ctx after
    set_simple before after r h =
        let set = one (Set r.variable r.value) in
        let old : SpelledFormula names ctx (Modal r.modality (fill r.context set) r.body) = subst (SpelledFormula names ctx) r.found h in
        let here = focused names Free r.context set (old.0, old.1) in
        let at = returns_at Free r.context in
        let sorted = all_3 (is_value r.variable.sort) (has_value names r.variable.sort r.value) (expr_sorted names at r.value) (all_2 (stmt_sorted names at (Set r.variable r.value)) true here.1).0 in
        let put = simple_terms_are_spelled names are ctx r.variable.sort r.value r.term r.simple here.0.0.1 sorted.1 in
        let rest = filled names Free r.context set Done (old.0, old.1) (tt, refl) in
        subst (SpelledFormula names ctx) (sym r.made) (some_pair (r.variable, r.term), ((here.0.0.0, put), tt), (rest.0, rest.1, old.2))

    frame_return : (before after : PlainFormula) → IsFrameReturn before after → SpelledFormula names ctx before → SpelledFormula names ctx after
    frame_return before after r h =
        let frame = one (Frame (Some r.variable) (Then (Return r.value) r.dropped)) in
        let set = one (Set r.variable r.value) in
        let old : SpelledFormula names ctx (Modal r.modality (fill r.context frame) r.body) = subst (SpelledFormula names ctx) r.found h in
        let here = focused names Free r.context frame (old.0, old.1) in
        let rest = filled names Free r.context frame set (old.0, old.1) (set_for_frame (returns_at Free r.context) r.variable r.value r.term r.dropped r.simple here) in
        subst (SpelledFormula names ctx) (sym r.made) (rest.0, rest.1, old.2)

    catch_empty : (before after : PlainFormula) → IsCatchEmpty before after → SpelledFormula names ctx before → SpelledFormula names ctx after
    catch_empty before after r h =
        let catch = one (Catch Done r.variable r.handler) in
        let old : SpelledFormula names ctx (Modal r.modality (fill r.context catch) r.body) = subst (SpelledFormula names ctx) r.found h in
        let rest = filled names Free r.context catch Done (old.0, old.1) (tt, refl) in
        subst (SpelledFormula names ctx) (sym r.made) (rest.0, rest.1, old.2)

    pub rewritten : (rule : FirstRule) (before after : PlainFormula) → Rewrites rule before after → SpelledFormula names ctx before → SpelledFormula names ctx after
    rewritten EqRefl before after r h = subst (SpelledFormula names ctx) (sym r.made) tt
    rewritten SetSimple before after r h = set_simple before after r h
    rewritten FrameReturn before after r h = frame_return before after r h
    rewritten CatchEmpty before after r h = catch_empty before after r h
    rewritten EmptyCode before after r h = let old : SpelledFormula names ctx (Modal r.modality Done after) = subst (SpelledFormula names ctx) r.found h in old.2
    rewritten Simplify before after r h = subst (SpelledFormula names ctx) (sym r.made) (push_spelled names ctx [] tt before h)
    rewritten rule before after r h = absurd r

pub rewriting_keeps_spelled : RewritingKeepsSpelled
rewriting_keeps_spelled = record {
  pushed = λ names ctx q a o h. push_spelled names ctx q o a h;
  rewritten = λ names are rule before after r ctx h. rewritten names are ctx rule before after r h;
}
