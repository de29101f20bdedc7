-- Worked examples: which fault an expression has, and that the least of all its parts is the answer.
use Rattle.std.specs.Prelude.{◌≡◌, ℕ, pos, negsuc, List, [], ◌∷◌, true, false, Some, None, codes}
use Rattle.jd_base.specs.declared.sort.Sort.TheVariants.{Int as IntSort, Ref as RefSort, Heap as HeapSort}
use Rattle.jd_syntax.specs.Names.{Name}
use Rattle.jd_syntax.specs.Sxs.{Bracketed, Atom, Brackets, bracketed_list}
use Rattle.jd_syntax.specs.Codes as code
use Rattle.jd_syntax.specs.Codes.{NoExprs, ExprThen, Done, Then}
use Rattle.jd_term.specs.Terms as terms
use Rattle.jd_term.specs.Formulas as formulas
use Rattle.jd_term.specs.declared.formula.Modality.TheVariants as modalities
use Rattle.jd_tgrammar.specs.NameTables.{NameTable}
use Rattle.jd_tforms.specs.Answers.{Answer, Is, Refused, NoForm, UnknownSymbol, SortMismatch, term_answer, formula_answer}

-- the class C, with the field f, the method m of one parameter and the static method s without a result; x and o are variables
abbrev pub table : NameTable
table = record {
  classes = codes "Object" ∷ codes "C" ∷ [];
  fields = record { class = 1; name = codes "f"; sort = IntSort } ∷ [];
  routines =
      record { class = 1; name = codes "m"; static = false; constructor = false; parameters = IntSort ∷ []; result = Some IntSort }
      ∷ record { class = 1; name = codes "s"; static = true; constructor = false; parameters = []; result = None }
      ∷ [];
  seen = λ c name. Some 0;
  variables = record { text = codes "x"; sort = IntSort } ∷ record { text = codes "o"; sort = RefSort } ∷ [];
}

abbrev pub w : List ℕ → Bracketed
w text = Atom text

abbrev pub l : List Bracketed → Bracketed
l xs = Brackets (bracketed_list xs)

abbrev pub formula : Bracketed → Answer formulas.PlainFormula
formula x = formula_answer table x

abbrev pub x : Name
x = record { text = codes "x"; sort = IntSort }

abbrev pub o : Name
o = record { text = codes "o"; sort = RefSort }

-- `(lt 1)`, `(lt 1 nosuch)`, `(lt null 1)`
abbrev pub short : Bracketed
short = l (w (codes "lt") ∷ w (codes "1") ∷ [])

abbrev pub unknown : Bracketed
unknown = l (w (codes "lt") ∷ w (codes "1") ∷ w (codes "nosuch") ∷ [])

abbrev pub mismatched : Bracketed
mismatched = l (w (codes "lt") ∷ w (codes "null") ∷ w (codes "1") ∷ [])

abbrev pub both : Bracketed → Bracketed → Bracketed
both a b = l (w (codes "and") ∷ a ∷ b ∷ [])

abbrev pub equal : List ℕ → List ℕ → Bracketed
equal a b = l (w (codes "eq") ∷ w a ∷ w b ∷ [])

-- `(box (S) true)`
abbrev pub after : Bracketed → Bracketed
after s = l (w (codes "box") ∷ l (s ∷ []) ∷ w (codes "true") ∷ [])

abbrev pub set : List ℕ → Bracketed → Bracketed
set name e = l (w (codes "set") ∷ w name ∷ e ∷ [])

-- `(eval E)`, `(do () E)`
abbrev pub evaluate : Bracketed → Bracketed
evaluate e = l (w (codes "eval") ∷ e ∷ [])

abbrev pub done_then : Bracketed → Bracketed
done_then e = l (w (codes "do") ∷ l [] ∷ e ∷ [])

-- `(store @heap o C.f X)`
abbrev pub stored : List ℕ → Bracketed
stored t = l (w (codes "store") ∷ w (codes "@heap") ∷ w (codes "o") ∷ w (codes "C.f") ∷ w t ∷ [])

abbrev pub heap : terms.PlainTerm
heap = terms.ProgramVariable (record { text = codes "@heap"; sort = HeapSort })

pub record FaultExamples : Type 0 where
  pub no_form : formula short ≡ Refused NoForm
  pub no_symbol : formula unknown ≡ Refused UnknownSymbol
  pub no_sort : formula mismatched ≡ Refused SortMismatch
  -- the least, wherever it stands
  pub form_first : formula (both mismatched (both unknown short)) ≡ Refused NoForm
  pub symbol_first : formula (both mismatched unknown) ≡ Refused UnknownSymbol
  pub sort_last : formula (both mismatched (w (codes "true"))) ≡ Refused SortMismatch
  -- words
  pub leading_zero : formula (equal (codes "01") (codes "1")) ≡ Refused NoForm
  pub minus_zero : formula (equal (codes "-0") (codes "1")) ≡ Refused NoForm
  pub negative : formula (equal (codes "x") (codes "-1")) ≡ Is (formulas.Equal (terms.ProgramVariable x) (terms.Number (negsuc 0)))
  pub no_word : formula (equal (codes "x") (codes "+")) ≡ Refused NoForm
  pub no_letter : formula (equal (codes "x") (codes "@q")) ≡ Refused UnknownSymbol
  pub special : formula (l (w (codes "wf") ∷ w (codes "@heap") ∷ [])) ≡ Is (formulas.WellFormed (terms.ProgramVariable (record { text = codes "@heap"; sort = HeapSort })))
  pub constant : formula (equal (codes "x") (codes "#i_x")) ≡ Is (formulas.Equal (terms.ProgramVariable x) (terms.Constant (record { text = codes "#i_x"; sort = IntSort })))
  pub field : term_answer table IntSort (l (w (codes "selI") ∷ w (codes "@heap") ∷ w (codes "o") ∷ w (codes "C.f") ∷ []))
      ≡ Is (terms.Select IntSort (terms.ProgramVariable (record { text = codes "@heap"; sort = HeapSort })) (terms.ProgramVariable o) (terms.NamedField 0))
  pub no_field : term_answer table IntSort (l (w (codes "selI") ∷ w (codes "@heap") ∷ w (codes "o") ∷ w (codes "C.g") ∷ [])) ≡ Refused UnknownSymbol
  -- a term of another sort
  pub other_sort : term_answer table IntSort (w (codes "null")) ≡ Refused SortMismatch
  pub that_sort : term_answer table RefSort (w (codes "null")) ≡ Is terms.NullTerm
  pub no_term : term_answer table IntSort short ≡ Refused NoForm
  -- what is stored may have any sort
  pub stored_heap : term_answer table HeapSort (stored (codes "@heap")) ≡ Is (terms.Store heap (terms.ProgramVariable o) (terms.NamedField 0) heap)
  pub stored_field : term_answer table HeapSort (stored (codes "created")) ≡ Is (terms.Store heap (terms.ProgramVariable o) (terms.NamedField 0) terms.CreatedField)
  -- binders
  pub unbound : formula (equal (codes "%0") (codes "1")) ≡ Refused UnknownSymbol
  pub bound : formula (l (w (codes "forall") ∷ w (codes "Int") ∷ equal (codes "%0") (codes "1") ∷ [])) ≡ Is (formulas.Forall IntSort (formulas.Equal (terms.Bound 0 IntSort) (terms.Number (pos 1))))
  pub bound_otherwise : formula (l (w (codes "forall") ∷ w (codes "Bool") ∷ equal (codes "%0") (codes "1") ∷ [])) ≡ Refused SortMismatch
  pub over_heaps : formula (l (w (codes "forall") ∷ w (codes "Heap") ∷ w (codes "true") ∷ [])) ≡ Refused NoForm
  -- updates
  pub no_pair : formula (l (w (codes "upd") ∷ l [] ∷ w (codes "true") ∷ [])) ≡ Refused NoForm
  pub pair : formula (l (w (codes "upd") ∷ l (l (w (codes "x") ∷ w (codes "1") ∷ []) ∷ []) ∷ w (codes "true") ∷ [])) ≡ Is (formulas.Updated ((x, terms.Number (pos 1)) ∷ []) formulas.TrueFormula)
  pub pair_of_sorts : formula (l (w (codes "upd") ∷ l (l (w (codes "x") ∷ w (codes "null") ∷ []) ∷ []) ∷ w (codes "true") ∷ [])) ≡ Refused SortMismatch
  -- code
  pub assigned : formula (after (set (codes "x") (w (codes "2147483647")))) ≡ Is (formulas.Modal modalities.Necessity (Then (code.Set x (code.IntLiteral (pos 2147483647))) Done) formulas.TrueFormula)
  pub too_wide : formula (after (set (codes "x") (w (codes "2147483648")))) ≡ Refused NoForm
  pub assigned_otherwise : formula (after (set (codes "x") (w (codes "true")))) ≡ Refused SortMismatch
  pub assigned_unknown : formula (after (set (codes "y") (w (codes "true")))) ≡ Refused UnknownSymbol
  pub no_statement : formula (after (w (codes "stop"))) ≡ Refused NoForm
  pub called : formula (after (set (codes "x") (l (w (codes "call") ∷ w (codes "C.m") ∷ w (codes "o") ∷ w (codes "1") ∷ []))))
      ≡ Is (formulas.Modal modalities.Necessity (Then (code.Set x (code.VirtualCall 1 0 (code.Variable o) (ExprThen (code.IntLiteral (pos 1)) NoExprs))) Done) formulas.TrueFormula)
  pub called_with_less : formula (after (set (codes "x") (l (w (codes "call") ∷ w (codes "C.m") ∷ w (codes "o") ∷ [])))) ≡ Refused SortMismatch
  pub called_static : formula (after (set (codes "x") (l (w (codes "call") ∷ w (codes "C.s") ∷ w (codes "o") ∷ [])))) ≡ Refused UnknownSymbol
  -- a call without a result may be evaluated, and neither assigned nor the last part of a `do`
  pub evaluated : formula (after (l (w (codes "eval") ∷ l (w (codes "scall") ∷ w (codes "C.s") ∷ []) ∷ []))) ≡ Is (formulas.Modal modalities.Necessity (Then (code.Evaluate (code.StaticCall 1 NoExprs)) Done) formulas.TrueFormula)
  pub done : formula (after (evaluate (done_then (l (w (codes "call") ∷ w (codes "C.m") ∷ w (codes "o") ∷ w (codes "1") ∷ [])))))
      ≡ Is (formulas.Modal modalities.Necessity (Then (code.Evaluate (code.DoThen Done (code.VirtualCall 1 0 (code.Variable o) (ExprThen (code.IntLiteral (pos 1)) NoExprs)))) Done) formulas.TrueFormula)
  pub done_without_result : formula (after (evaluate (done_then (l (w (codes "scall") ∷ w (codes "C.s") ∷ []))))) ≡ Refused SortMismatch
  pub done_twice : formula (after (evaluate (done_then (done_then (l (w (codes "scall") ∷ w (codes "C.s") ∷ [])))))) ≡ Refused SortMismatch
  pub no_result : formula (after (set (codes "x") (l (w (codes "scall") ∷ w (codes "C.s") ∷ [])))) ≡ Refused SortMismatch
  -- a `return` belongs to the innermost frame
  pub returned : formula (after (l (w (codes "frame") ∷ w (codes "-") ∷ l (l (w (codes "return") ∷ []) ∷ []) ∷ []))) ≡ Is (formulas.Modal modalities.Necessity (Then (code.Frame None (Then code.ReturnVoid Done)) Done) formulas.TrueFormula)
  pub returned_value : formula (after (l (w (codes "frame") ∷ w (codes "-") ∷ l (l (w (codes "return") ∷ w (codes "1") ∷ []) ∷ []) ∷ []))) ≡ Refused SortMismatch
