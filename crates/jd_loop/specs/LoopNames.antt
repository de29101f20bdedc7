-- The new names of an instance of the loop rule.
use Rattle.std.specs.Prelude.{ℕ, suc, List, [], ◌∷◌, codes}
use Rattle.std.specs.Fmt.{decimal}
use Rattle.jd_base.specs.declared.sort.Sort.TheVariants.{Int as IntSort, Bool as BoolSort, Heap as HeapSort}
use Rattle.jd_syntax.specs.Names.{Name}
use Rattle.jd_syntax.specs.Codes.{Expr, PlainCode}
use Rattle.jd_syntax.specs.AssignedVariables.{assigned_in_loop}
use Rattle.jd_model.specs.NumberedNames.{numbered_variable, numbered_constant}

-- a variable that the loop assigns, the new variable for its value before the loop, and the new constant for its value before a turn
pub record RenewedVariable : Type 0 where
  pub variable : Name
  pub before : Name
  pub now : Name

-- the heap before the loop and before a turn, the variant before a turn, the mark of a whole turn, and the assigned variables
pub record LoopNames : Type 0 where
  pub heap_before : Name
  pub heap_now : Name
  pub variant_before : Name
  pub mark : Name
  pub renewed : List RenewedVariable

-- the assigned variables
abbrev pub renewed_variables : List RenewedVariable → List Name
renewed_variables [] = []
renewed_variables (r ∷ rs) = r.variable ∷ renewed_variables rs

-- their new variables
abbrev pub variables_before : List RenewedVariable → List Name
variables_before [] = []
variables_before (r ∷ rs) = r.before ∷ variables_before rs

-- their new constants
abbrev pub constants_now : List RenewedVariable → List Name
constants_now [] = []
constants_now (r ∷ rs) = r.now ∷ constants_now rs

-- all new variables of an instance
abbrev pub new_variables : LoopNames → List Name
new_variables n = n.heap_before ∷ (n.variant_before ∷ (n.mark ∷ variables_before n.renewed))

-- all its new constants
abbrev pub new_constants : LoopNames → List Name
new_constants n = n.heap_now ∷ constants_now n.renewed

-- `@i1~n` and `#i1~n`, `@b2~n` and `#b2~n`, and so on: by sort, and by number from k on
abbrev pub renewed_from : ℕ → ℕ → List Name → List RenewedVariable
renewed_from n k [] = []
renewed_from n k (x ∷ xs) = record { variable = x; before = numbered_variable x.sort (decimal k) n; now = numbered_constant x.sort (decimal k) n } ∷ renewed_from n (suc k) xs

-- `@h~n`, `#h~n`, `@iv~n` and `@bx~n`
abbrev pub names_numbered : ℕ → List Name → LoopNames
names_numbered n xs = record {
  heap_before = numbered_variable HeapSort [] n;
  heap_now = numbered_constant HeapSort [] n;
  variant_before = numbered_variable IntSort (codes "v") n;
  mark = numbered_variable BoolSort (codes "x") n;
  renewed = renewed_from n 1 xs;
}

-- the names of the loop with this test and this body
abbrev pub loop_names : ℕ → Expr → PlainCode → LoopNames
loop_names n e c = names_numbered n (assigned_in_loop e c)
