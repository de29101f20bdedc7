-- The names that a set of texts and ranks of sorts stands for.
use Rattle.std.specs.Prelude.{ℕ, List, map}
use Rattle.std.specs.Borrow.{Bor}
use Rattle.std.specs.BTreeSet.{BTreeSet}
use Rattle.jd_base.specs.declared.sort.Sort.{Sort}
use Rattle.jd_base.specs.declared.sort.Sort.TheVariants as sorts
use Rattle.jd_syntax.specs.declared.assigned.SortRank.{SortRank}
use Rattle.jd_syntax.specs.declared.assigned.SortRank.TheVariants.{Int, Bool, Ref, Heap, Field}
use Rattle.jd_syntax.specs.Names.{Name}

abbrev pub ranked_sort : SortRank → Sort
ranked_sort Int = sorts.Int
ranked_sort Bool = sorts.Bool
ranked_sort Ref = sorts.Ref
ranked_sort Heap = sorts.Heap
ranked_sort Field = sorts.Field

abbrev pub key_name : Bor (List ℕ) × SortRank → Name
key_name k = record { text = k.0.now; sort = ranked_sort k.1 }

abbrev pub names_of : BTreeSet (Bor (List ℕ) × SortRank) → List Name
names_of s = map key_name s.keys
