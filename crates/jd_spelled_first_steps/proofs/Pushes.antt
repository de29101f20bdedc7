-- Updates pushed inward into spelled formulas.
use Rattle.std.proofs.Common.{Bool, Equal as EqualOrder, Greater, Less as LessOrder, List, Ordering, [], ap, cond, false, filter, refl, sym, true, ◌∙◌, ◌∷◌, ◌≡◌}
use Rattle.std.specs.Ordering.{match_ordering}
use Rattle.jd_base.specs.declared.sort.Sort.{Sort}
use Rattle.jd_base.specs.declared.sort.Sort.TheVariants.{Field as FieldSort, Heap as HeapSort, Int as IntSort, Ref as RefSort}
use Rattle.jd_spelled_trees.proofs.Mapped.{moved}
use Rattle.jd_spelled_trees.proofs.Puts.{raised_term}
use Rattle.jd_spelled_trees.specs.Spelled.{AtSort, SpelledFormula, SpelledLoc, SpelledPairs, SpelledTerm}
use Rattle.jd_syntax.proofs.NameTests.{same_name_decides}
use Rattle.jd_syntax.specs.CodeNames.{same_name}
use Rattle.jd_syntax.specs.Names.{Name}
use Rattle.jd_term.specs.Formulas.{And, Equal, Exists, FalseFormula, Forall, Iff, Implies, InInt, InLocations, Invariant, IsExactInstance, IsInstance, Less, LessOrEqual, Modal, Not, Or, Pairs, PlainFormula, TrueFormula, Updated, WellFormed}
use Rattle.jd_term.specs.Shifts.{term_shift}
use Rattle.jd_term.specs.Terms.{AllLocations, Anon, Arithmetic, ArrayElements, Boolean, Bound, Constant, Create, CreatedField, ElementField, ElementRange, Length, NamedField, Negation, NoLocations, NullTerm, Number, ObjectFields, PlainLoc, PlainTerm, ProgramVariable, Select, Single, Store, Sum, Union, Wrap, sort_of_term}
use Rattle.jd_tforms.specs.Known.{IsVariable, TermKnown}
use Rattle.jd_tgrammar.specs.NameTables.{NameTable}
use Rattle.jd_update.specs.Push.{in_order, insert_pair, joined, kept, matters, name_order, push, under}
use Rattle.jd_update.specs.Replace.{inner, look, replace, replace_loc}

no_pairs : (p : Name × PlainTerm) (ps : Pairs) → (p ∷ ps) ≡ [] → ⊥
no_pairs p ps e = cc

module _ (names : NameTable) where
  -- what a pair of an update is
  abbrev PairSpelled : List Sort → Name × PlainTerm → Type 0
  PairSpelled ctx p = IsVariable names p.0 × AtSort p.0.sort p.1 (SpelledTerm names ctx p.1)

  -- ---- what is put for variables

  look_spelled : (ctx : List Sort) (q : Pairs) → SpelledPairs names ctx q → (x : Name) → TermKnown names [] (ProgramVariable x) → AtSort x.sort (look q x) (SpelledTerm names ctx (look q x))
  look_spelled ctx [] o x h = (refl, h)
  look_spelled ctx (p ∷ q) o x h = by (look_spelled ctx q o.1 x h) (same_name x p.0) refl
    where
      by : AtSort x.sort (look q x) (SpelledTerm names ctx (look q x)) → (c : Bool) → same_name x p.0 ≡ c → AtSort x.sort (cond c p.1 (look q x)) (SpelledTerm names ctx (cond c p.1 (look q x)))
      by later true e = (o.0.1.0 ∙ ap (λ (n : Name). n.sort) (sym ((same_name_decides x p.0).0 e)), o.0.1.1)
      by later false e = later

  inner_spelled : (ctx : List Sort) (s : Sort) (q : Pairs) → SpelledPairs names ctx q → SpelledPairs names (s ∷ ctx) (inner q)
  inner_spelled ctx s [] o = tt
  inner_spelled ctx s (p ∷ q) o = ((o.0.0, moved p.0.sort p.1 (term_shift 0 1 p.1) o.0.1.0 (raised_term names (s ∷ []) ctx 1 refl p.1 o.0.1.1)), inner_spelled ctx s q o.1)

  mutual
    replaced : (ctx : List Sort) (q : Pairs) → SpelledPairs names ctx q → (t : PlainTerm) → SpelledTerm names ctx t → AtSort (sort_of_term t) (replace q t) (SpelledTerm names ctx (replace q t))
    replaced ctx q o (Number z) h = (refl, h)
    replaced ctx q o (Boolean z) h = (refl, tt)
    replaced ctx q o NullTerm h = (refl, tt)
    replaced ctx q o (ProgramVariable x) h = look_spelled ctx q o x h
    replaced ctx q o (Constant x) h = (refl, h)
    replaced ctx q o (Bound i s) h = (refl, h)
    replaced ctx q o (Arithmetic op a b) h = (refl, (moved IntSort a (replace q a) h.0.0 (replaced ctx q o a h.0.1), moved IntSort b (replace q b) h.1.0 (replaced ctx q o b h.1.1)))
    replaced ctx q o (Negation a) h = (refl, moved IntSort a (replace q a) h.0 (replaced ctx q o a h.1))
    replaced ctx q o (Wrap a) h = (refl, moved IntSort a (replace q a) h.0 (replaced ctx q o a h.1))
    replaced ctx q o (Length a) h = (refl, moved RefSort a (replace q a) h.0 (replaced ctx q o a h.1))
    replaced ctx q o (Select s a b d) h = (refl, (h.0, moved HeapSort a (replace q a) h.1.0 (replaced ctx q o a h.1.1), moved RefSort b (replace q b) h.2.0 (replaced ctx q o b h.2.1), moved FieldSort d (replace q d) h.3.0 (replaced ctx q o d h.3.1)))
    replaced ctx q o (Sum a b d) h = (refl, (moved IntSort a (replace q a) h.0.0 (replaced ctx q o a h.0.1), moved IntSort b (replace q b) h.1.0 (replaced ctx q o b h.1.1), moved IntSort d (replace (inner q) d) h.2.0 (replaced (IntSort ∷ ctx) (inner q) (inner_spelled ctx IntSort q o) d h.2.1)))
    replaced ctx q o (Store a b c d) h = (refl, (moved HeapSort a (replace q a) h.0.0 (replaced ctx q o a h.0.1), moved RefSort b (replace q b) h.1.0 (replaced ctx q o b h.1.1), moved FieldSort c (replace q c) h.2.0 (replaced ctx q o c h.2.1), (replaced ctx q o d h.3).1))
    replaced ctx q o (Create a b) h = (refl, (moved HeapSort a (replace q a) h.0.0 (replaced ctx q o a h.0.1), moved RefSort b (replace q b) h.1.0 (replaced ctx q o b h.1.1)))
    replaced ctx q o (Anon a l d) h = (refl, (moved HeapSort a (replace q a) h.0.0 (replaced ctx q o a h.0.1), replaced_loc ctx q o l h.1, moved HeapSort d (replace q d) h.2.0 (replaced ctx q o d h.2.1)))
    replaced ctx q o (NamedField f) h = (refl, h)
    replaced ctx q o CreatedField h = (refl, tt)
    replaced ctx q o (ElementField a) h = (refl, moved IntSort a (replace q a) h.0 (replaced ctx q o a h.1))

    replaced_loc : (ctx : List Sort) (q : Pairs) → SpelledPairs names ctx q → (l : PlainLoc) → SpelledLoc names ctx l → SpelledLoc names ctx (replace_loc q l)
    replaced_loc ctx q o NoLocations h = tt
    replaced_loc ctx q o AllLocations h = tt
    replaced_loc ctx q o (Single a b) h = (moved RefSort a (replace q a) h.0.0 (replaced ctx q o a h.0.1), moved FieldSort b (replace q b) h.1.0 (replaced ctx q o b h.1.1))
    replaced_loc ctx q o (ObjectFields a) h = moved RefSort a (replace q a) h.0 (replaced ctx q o a h.1)
    replaced_loc ctx q o (ArrayElements a) h = moved RefSort a (replace q a) h.0 (replaced ctx q o a h.1)
    replaced_loc ctx q o (ElementRange a b d) h = (moved RefSort a (replace q a) h.0.0 (replaced ctx q o a h.0.1), moved IntSort b (replace q b) h.1.0 (replaced ctx q o b h.1.1), moved IntSort d (replace q d) h.2.0 (replaced ctx q o d h.2.1))
    replaced_loc ctx q o (Union l m) h = (replaced_loc ctx q o l h.0, replaced_loc ctx q o m h.1)

  -- a part of this sort keeps it
  of_part : (ctx : List Sort) (q : Pairs) → SpelledPairs names ctx q → (s : Sort) (t : PlainTerm) → AtSort s t (SpelledTerm names ctx t) → AtSort s (replace q t) (SpelledTerm names ctx (replace q t))
  of_part ctx q o s t h = moved s t (replace q t) h.0 (replaced ctx q o t h.1)

  -- ---- updates

  joined_spelled : (ctx : List Sort) (old : Pairs) → SpelledPairs names ctx old → (u : Pairs) → SpelledPairs names ctx u → (q : Pairs) → SpelledPairs names ctx q → SpelledPairs names ctx (joined old u q)
  joined_spelled ctx old h [] o q w = w
  joined_spelled ctx old h (p ∷ u) o q w = joined_spelled ctx old h u o.1 ((p.0, replace old p.1) ∷ q) ((o.0.0, of_part ctx old h p.0.sort p.1 o.0.1), w)

  insert_spelled : (ctx : List Sort) (p : Name × PlainTerm) → PairSpelled ctx p → (l : Pairs) → SpelledPairs names ctx l → SpelledPairs names ctx (insert_pair p l)
  insert_spelled ctx p e [] o = (e, tt)
  insert_spelled ctx p e (r ∷ l) o = by (insert_spelled ctx p e l o.1) (name_order p.0 r.0)
    where
      by : SpelledPairs names ctx (insert_pair p l) → (k : Ordering) → SpelledPairs names ctx (match_ordering k (p ∷ r ∷ l) (r ∷ l) (r ∷ insert_pair p l))
      by later LessOrder = (e, o)
      by later EqualOrder = o
      by later Greater = (o.0, later)

  in_order_spelled : (ctx : List Sort) (q done : Pairs) → SpelledPairs names ctx q → SpelledPairs names ctx done → SpelledPairs names ctx (in_order q done)
  in_order_spelled ctx [] done o w = w
  in_order_spelled ctx (p ∷ q) done o w = in_order_spelled ctx q (insert_pair p done) o.1 (insert_spelled ctx p o.0 done w)

  filter_spelled : (ctx : List Sort) (m : Name × PlainTerm → Bool) (u : Pairs) → SpelledPairs names ctx u → SpelledPairs names ctx (filter m u)
  filter_spelled ctx m [] o = tt
  filter_spelled ctx m (p ∷ u) o = by (filter_spelled ctx m u o.1) (m p)
    where
      by : SpelledPairs names ctx (filter m u) → (c : Bool) → SpelledPairs names ctx (cond c (p ∷ filter m u) (filter m u))
      by later true = (o.0, later)
      by later false = later

  under_spelled : (ctx : List Sort) (u : Pairs) (a : PlainFormula) → SpelledPairs names ctx u → SpelledFormula names ctx a → SpelledFormula names ctx (under u a)
  under_spelled ctx [] a o w = w
  under_spelled ctx (p ∷ u) a o w = (no_pairs p u, o, w)

  -- ---- formulas

  pub push_spelled : (ctx : List Sort) (q : Pairs) → SpelledPairs names ctx q → (a : PlainFormula) → SpelledFormula names ctx a → SpelledFormula names ctx (push q a)
  push_spelled ctx q o TrueFormula h = tt
  push_spelled ctx q o FalseFormula h = tt
  push_spelled ctx q o (Not a) h = push_spelled ctx q o a h
  push_spelled ctx q o (And a b) h = (push_spelled ctx q o a h.0, push_spelled ctx q o b h.1)
  push_spelled ctx q o (Or a b) h = (push_spelled ctx q o a h.0, push_spelled ctx q o b h.1)
  push_spelled ctx q o (Implies a b) h = (push_spelled ctx q o a h.0, push_spelled ctx q o b h.1)
  push_spelled ctx q o (Iff a b) h = (push_spelled ctx q o a h.0, push_spelled ctx q o b h.1)
  push_spelled ctx q o (Equal t u) h = let x = replaced ctx q o t h.1 in let y = replaced ctx q o u h.2 in (x.0 ∙ (h.0 ∙ sym y.0), x.1, y.1)
  push_spelled ctx q o (Less t u) h = (of_part ctx q o IntSort t h.0, of_part ctx q o IntSort u h.1)
  push_spelled ctx q o (LessOrEqual t u) h = (of_part ctx q o IntSort t h.0, of_part ctx q o IntSort u h.1)
  push_spelled ctx q o (Forall s a) h = (h.0, push_spelled (s ∷ ctx) (inner q) (inner_spelled ctx s q o) a h.1)
  push_spelled ctx q o (Exists s a) h = (h.0, push_spelled (s ∷ ctx) (inner q) (inner_spelled ctx s q o) a h.1)
  push_spelled ctx q o (Updated u a) h = push_spelled ctx (joined q u q) (joined_spelled ctx q o u h.1 q o) a h.2
  push_spelled ctx q o (Modal m c a) h = under_spelled ctx (kept q c a) (Modal m c a) (filter_spelled ctx (matters c a) (in_order q []) (in_order_spelled ctx q [] o tt)) h
  push_spelled ctx q o (InLocations t f l) h = (of_part ctx q o RefSort t h.0, of_part ctx q o FieldSort f h.1, replaced_loc ctx q o l h.2)
  push_spelled ctx q o (InInt t) h = of_part ctx q o IntSort t h
  push_spelled ctx q o (WellFormed t) h = of_part ctx q o HeapSort t h
  push_spelled ctx q o (Invariant t u) h = (of_part ctx q o HeapSort t h.0, of_part ctx q o RefSort u h.1)
  push_spelled ctx q o (IsInstance k t) h = (h.0, of_part ctx q o RefSort t h.1)
  push_spelled ctx q o (IsExactInstance k t) h = (h.0, of_part ctx q o RefSort t h.1)
