-- At a moment of a contract its terms stand for what its clauses speak of.
use Rattle.std.proofs.Common.{◌≡◌, ℕ, zero, suc, false, List, [], ◌∷◌, Option, Some, None, refl, ap, ◌∙◌}
use Rattle.jd_base.specs.declared.sort.Sort.{Sort}
use Rattle.jd_base.specs.declared.sort.Sort.TheVariants.{Int as IntSort, Bool as BoolSort, Ref as RefSort, Heap as HeapSort, Field as FieldSort}
use Rattle.jd_syntax.specs.Names.{Name}
use Rattle.jd_syntax.specs.CodeNames.{same_name, heap_name}
use Rattle.jd_heap.specs.Values.{Value, RefValue, HeapValue, at_sort, default}
use Rattle.jd_model.specs.SpecialNames.{entry_heap, receiver, thrown_variable, result_variable}
use Rattle.jd_model.specs.States.{State, read, write, empty_state, with_heap}
use Rattle.jd_model.specs.Programs.{Program, type_sort}
use Rattle.jd_model.specs.Runs.{with_values}
use Rattle.jd_model.specs.TermValues.{value}
use Rattle.jd_model.specs.Cases.{DeclaredType, Parameter}
use Rattle.jd_model.specs.EntryExit.{Moment, constants_of, interpretation_of, with_result, state_of}
use Rattle.jd_model.specs.Occurrences.{AllApart, NotIn}
use Rattle.jd_model.proofs.States.{read-none}
use Rattle.jd_model.proofs.Writes.{read_here, read_there, read_other, flip_apart}
use Rattle.jd_jml_meaning.specs.Meaning.{When, Now, Before}
use Rattle.jd_jml_meaning.specs.Standing.{Stands}
use Rattle.jd_jml_meaning.specs.JmlContracts.{JmlContract, argument_at, result_at, world_of}
use Rattle.jd_jml_meaning.specs.ContractFormulas.{constant_at, result_term, contract_spelling, contract_of}
use Rattle.jd_jml_meaning.specs.Laws.{HasOwnConstants}

-- a name that is not yet written, with its default
abbrev IsBlank : State → List Name → Type 0
IsBlank i [] = Unit {0}
IsBlank i (x ∷ xs) = (read i x ≡ default x.sort) × IsBlank i xs

still_blank : (i : State) (x : Name) (v : Value) (xs : List Name) → NotIn x xs → IsBlank i xs → IsBlank (write i x v) xs
still_blank i x v [] n b = tt
still_blank i x v (y ∷ ys) n b = (read_there i x v y (flip_apart x y n.0) ∙ b.0, still_blank i x v ys n.1 b.1)

-- a constant reads the argument at its position
read_argument : (i s : State) (b : List Value) (xs : List Parameter) (vs : List Value) (k : ℕ) → AllApart (constants_of xs) → IsBlank i (constants_of xs) → value (with_values i (constants_of xs) vs) s b (constant_at xs k) ≡ argument_at xs vs k
read_argument i s b [] vs k a o = refl
read_argument i s b (x ∷ xs) [] zero a o = o.0
read_argument i s b (x ∷ xs) [] (suc k) a o = unread xs k o.1
  where
    unread : (ys : List Parameter) (n : ℕ) → IsBlank i (constants_of ys) → value i s b (constant_at ys n) ≡ argument_at ys [] n
    unread [] n o = refl
    unread (y ∷ ys) zero o = o.0
    unread (y ∷ ys) (suc n) o = unread ys n o.1
read_argument i s b (x ∷ xs) (v ∷ vs) zero a o = read_other (write i x.constant v) (constants_of xs) vs x.constant a.0 ∙ read_here i x.constant v
read_argument i s b (x ∷ xs) (v ∷ vs) (suc k) a o = read_argument (write i x.constant v) s b xs vs k a.1 (still_blank i x.constant v (constants_of xs) a.0 o.1)

all_blank : (xs : List Name) → IsBlank empty_state xs
all_blank [] = tt
all_blank (x ∷ xs) = (read-none x, all_blank xs)

pub result_sort : (k : Sort) → (result_variable k).sort ≡ k
result_sort IntSort = refl
result_sort BoolSort = refl
result_sort RefSort = refl
result_sort HeapSort = refl
result_sort FieldSort = refl

heap_apart : (k : Sort) → same_name heap_name (result_variable k) ≡ false
heap_apart IntSort = refl
heap_apart BoolSort = refl
heap_apart RefSort = refl
heap_apart HeapSort = refl
heap_apart FieldSort = refl

thrown_apart : (k : Sort) → same_name thrown_variable (result_variable k) ≡ false
thrown_apart IntSort = refl
thrown_apart BoolSort = refl
thrown_apart RefSort = refl
thrown_apart HeapSort = refl
thrown_apart FieldSort = refl

module _ (p : Program) (c : JmlContract) (own : HasOwnConstants c) (m : Moment) where
  abbrev i : State
  i = interpretation_of (contract_of p c) m

  abbrev s : State
  s = state_of (contract_of p c) m

  abbrev unthrown : State
  unthrown = with_heap empty_state m.after

  read_beside : (r : Option DeclaredType) (x : Name) → ((k : Sort) → same_name x (result_variable k) ≡ false) → read (with_result r m.result (write unthrown thrown_variable (RefValue m.thrown))) x ≡ read (write unthrown thrown_variable (RefValue m.thrown)) x
  read_beside None x a = refl
  read_beside (Some t) x a = read_there _ (result_variable (type_sort t.type)) m.result x (a (type_sort t.type))

  read_result : (r : Option DeclaredType) (b : List Value) → value i (with_result r m.result (write unthrown thrown_variable (RefValue m.thrown))) b (result_term r) ≡ result_at r m.result
  read_result None b = refl
  read_result (Some t) b = read_here _ (result_variable (type_sort t.type)) m.result ∙ ap (λ k. at_sort k m.result) (result_sort (type_sort t.type))

  read_heap : (t : When) (b : List Value) → value i s b ((contract_spelling c.parameters c.result).heap t) ≡ HeapValue ((world_of c m).heap t)
  read_heap Now b = read_beside c.result heap_name heap_apart ∙ read_there unthrown thrown_variable (RefValue m.thrown) heap_name refl ∙ read_here empty_state heap_name (HeapValue m.after)
  read_heap Before b =
      read_other _ (constants_of c.parameters) m.arguments entry_heap own.0.1
      ∙ read_there (write empty_state entry_heap (HeapValue m.before)) receiver (RefValue m.this) entry_heap refl
      ∙ read_here empty_state entry_heap (HeapValue m.before)

  pub contract_stands : Stands (contract_spelling c.parameters c.result) i s (world_of c m)
  contract_stands = record {
    heap = read_heap;
    argument = λ t k b. read_argument (write (write empty_state entry_heap (HeapValue m.before)) receiver (RefValue m.this)) s b c.parameters m.arguments k own.1.1
        (still_blank (write empty_state entry_heap (HeapValue m.before)) receiver (RefValue m.this) (constants_of c.parameters) own.1.0
        (still_blank empty_state entry_heap (HeapValue m.before) (constants_of c.parameters) own.0.1 (all_blank (constants_of c.parameters))));
    local = λ x. refl;
    this = λ b. read_other _ (constants_of c.parameters) m.arguments receiver own.1.0 ∙ read_here (write empty_state entry_heap (HeapValue m.before)) receiver (RefValue m.this);
    result = read_result c.result;
    thrown = λ b. read_beside c.result thrown_variable thrown_apart ∙ read_here unthrown thrown_variable (RefValue m.thrown);
  }
