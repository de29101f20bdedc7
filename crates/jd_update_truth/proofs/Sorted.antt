-- What is made of sorted updates is sorted, and others are not what they replace.
use Rattle.std.proofs.Common.{◌≡◌, ℕ, Bool, true, false, cond, [], ◌∷◌, filter, Ordering, Less, Equal as EqualOrder, Greater, refl, sym, ap, ◌∙◌, true≢false}
use Rattle.std.specs.Ordering.{match_ordering}
use Rattle.jd_base.specs.declared.sort.Sort.TheVariants.{Int as IntSort}
use Rattle.jd_syntax.specs.Names.{Name}
use Rattle.jd_syntax.specs.CodeNames.{same_name}
use Rattle.jd_syntax.proofs.NameTests.{same_name_decides}
use Rattle.jd_term.specs.Terms.{PlainTerm, sort_of_term, Number, Boolean, NullTerm, ProgramVariable, Constant, Bound, Arithmetic, Negation, Wrap, Length, Select, Sum, Store, Create, Anon, NamedField, CreatedField, ElementField}
use Rattle.jd_term.specs.Formulas.{Pairs, PlainFormula, Not, And, Or, Implies, Iff, Equal, Forall, Exists, Updated, Modal}
use Rattle.jd_term.specs.Shifts.{term_shift}
use Rattle.jd_term.specs.Occurs.{occurs_var_in}
use Rattle.jd_heap.specs.References.{Null}
use Rattle.jd_heap.specs.Values.{Value, IntValue, RefValue}
use Rattle.jd_update.specs.Replace.{look, inner, replace}
use Rattle.jd_update.specs.Push.{joined, name_order, insert_pair, in_order, matters, kept, under, push}
use Rattle.jd_model.proofs.Writes.{read_here}
use Rattle.jd_update_truth.specs.SortedFormulas.{AreSorted, SortedFormula}
use Rattle.jd_update_truth.specs.UpdateLaws.{StaySorted, UnsortedUpdatesDiffer}

look_sort : (q : Pairs) → AreSorted q → (x : Name) → sort_of_term (look q x) ≡ x.sort
look_sort [] o x = refl
look_sort (p ∷ q) o x = by (look_sort q o.1 x) (same_name x p.0) refl
  where
    by : sort_of_term (look q x) ≡ x.sort → (c : Bool) → same_name x p.0 ≡ c → sort_of_term (cond c p.1 (look q x)) ≡ x.sort
    by later true e = o.0 ∙ ap (λ (n : Name). n.sort) (sym ((same_name_decides x p.0).0 e))
    by later false e = later

replace_sort : (q : Pairs) → AreSorted q → (t : PlainTerm) → sort_of_term (replace q t) ≡ sort_of_term t
replace_sort q o (Number z) = refl
replace_sort q o (Boolean b) = refl
replace_sort q o NullTerm = refl
replace_sort q o (ProgramVariable x) = look_sort q o x
replace_sort q o (Constant c) = refl
replace_sort q o (Bound k s) = refl
replace_sort q o (Arithmetic op t u) = refl
replace_sort q o (Negation t) = refl
replace_sort q o (Wrap t) = refl
replace_sort q o (Length t) = refl
replace_sort q o (Select s h r f) = refl
replace_sort q o (Sum t u v) = refl
replace_sort q o (Store h r f t) = refl
replace_sort q o (Create h r) = refl
replace_sort q o (Anon h l k) = refl
replace_sort q o (NamedField f) = refl
replace_sort q o CreatedField = refl
replace_sort q o (ElementField t) = refl

shift_sort : (from amount : ℕ) (t : PlainTerm) → sort_of_term (term_shift from amount t) ≡ sort_of_term t
shift_sort from amount (Number z) = refl
shift_sort from amount (Boolean b) = refl
shift_sort from amount NullTerm = refl
shift_sort from amount (ProgramVariable x) = refl
shift_sort from amount (Constant c) = refl
shift_sort from amount (Bound k s) = refl
shift_sort from amount (Arithmetic op t u) = refl
shift_sort from amount (Negation t) = refl
shift_sort from amount (Wrap t) = refl
shift_sort from amount (Length t) = refl
shift_sort from amount (Select s h r f) = refl
shift_sort from amount (Sum t u v) = refl
shift_sort from amount (Store h r f t) = refl
shift_sort from amount (Create h r) = refl
shift_sort from amount (Anon h l k) = refl
shift_sort from amount (NamedField f) = refl
shift_sort from amount CreatedField = refl
shift_sort from amount (ElementField t) = refl

inner_sorted : (q : Pairs) → AreSorted q → AreSorted (inner q)
inner_sorted [] o = tt
inner_sorted (p ∷ q) o = (shift_sort 0 1 p.1 ∙ o.0, inner_sorted q o.1)

joined_sorted : (old : Pairs) → AreSorted old → (u : Pairs) → AreSorted u → (q : Pairs) → AreSorted q → AreSorted (joined old u q)
joined_sorted old h [] o q w = w
joined_sorted old h (p ∷ u) o q w = joined_sorted old h u o.1 ((p.0, replace old p.1) ∷ q) (replace_sort old h p.1 ∙ o.0, w)

insert_sorted : (p : Name × PlainTerm) → sort_of_term p.1 ≡ p.0.sort → (l : Pairs) → AreSorted l → AreSorted (insert_pair p l)
insert_sorted p e [] o = (e, tt)
insert_sorted p e (r ∷ l) o = by (insert_sorted p e l o.1) (name_order p.0 r.0)
  where
    by : AreSorted (insert_pair p l) → (k : Ordering) → AreSorted (match_ordering k (p ∷ r ∷ l) (r ∷ l) (r ∷ insert_pair p l))
    by later Less = (e, o)
    by later EqualOrder = o
    by later Greater = (o.0, later)

in_order_sorted : (q done : Pairs) → AreSorted q → AreSorted done → AreSorted (in_order q done)
in_order_sorted [] done o w = w
in_order_sorted (p ∷ q) done o w = in_order_sorted q (insert_pair p done) o.1 (insert_sorted p o.0 done w)

filter_sorted : (m : Name × PlainTerm → Bool) (u : Pairs) → AreSorted u → AreSorted (filter m u)
filter_sorted m [] o = tt
filter_sorted m (p ∷ u) o = by (filter_sorted m u o.1) (m p)
  where
    by : AreSorted (filter m u) → (c : Bool) → AreSorted (cond c (p ∷ filter m u) (filter m u))
    by later true = (o.0, later)
    by later false = later

under_sorted : (u : Pairs) (a : PlainFormula) → AreSorted u → SortedFormula a → SortedFormula (under u a)
under_sorted [] a o w = w
under_sorted (p ∷ u) a o w = (o, w)

push_sorted : (q : Pairs) → AreSorted q → (a : PlainFormula) → SortedFormula a → SortedFormula (push q a)
push_sorted q o (Not a) w = push_sorted q o a w
push_sorted q o (And a c) w = (push_sorted q o a w.0, push_sorted q o c w.1)
push_sorted q o (Or a c) w = (push_sorted q o a w.0, push_sorted q o c w.1)
push_sorted q o (Implies a c) w = (push_sorted q o a w.0, push_sorted q o c w.1)
push_sorted q o (Iff a c) w = (push_sorted q o a w.0, push_sorted q o c w.1)
push_sorted q o (Forall k a) w = push_sorted (inner q) (inner_sorted q o) a w
push_sorted q o (Exists k a) w = push_sorted (inner q) (inner_sorted q o) a w
push_sorted q o (Updated u a) w = push_sorted (joined q u q) (joined_sorted q o u w.0 q o) a w.1
push_sorted q o (Modal m c a) w = under_sorted (kept q c a) (Modal m c a) (filter_sorted (matters c a) (in_order q []) (in_order_sorted q [] o tt)) w
push_sorted q o a w = tt

pub updates_stay_sorted : StaySorted
updates_stay_sorted = record {
  of_formulas = push_sorted;
  of_updates = λ u o. joined_sorted [] tt u o [] tt;
  of_live_pairs = λ u a o. filter_sorted (λ p. occurs_var_in p.0 a) u o;
}

-- ---- an integer variable that is sent to null

abbrev number_name : Name
number_name = record { text = []; sort = IntSort }

abbrev is_number : Value → Bool
is_number (IntValue z) = true
is_number v = false

pub unsorted_updates_differ : UnsortedUpdatesDiffer
unsorted_updates_differ g d i s f =
    true≢false (ap is_number (sym (read_here s number_name (RefValue Null)) ∙ f [] ((number_name, NullTerm) ∷ []) (Equal (ProgramVariable number_name) NullTerm) refl))
