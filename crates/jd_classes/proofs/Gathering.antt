-- What is gathered of classes.
use Rattle.std.proofs.Common.{◌≡◌, ℕ, ◌<◌, Bool, List, Option, Result, Ok, Err, slice_index, length, filter, map, sym, subst, ap, ◌∙◌}
use Rattle.std.specs.Prelude.{IfOk, OnOk}
use Rattle.std.specs.Bool.{Decides}
use Rattle.std.specs.List.{All}
use Rattle.jd_syntax.specs.JavaTrees.{JavaUnit}
use Rattle.jd_jclasses.specs.CallGraph.{AreFamilyCalls}
use Rattle.jd_jclasses.specs.Classes.{class_names, parents}
use Rattle.jd_jclasses.specs.Members.{Declared, declared_members, is_field, is_routine}
use Rattle.jd_jclasses.specs.Numbers.{AreNumbers}
use Rattle.jd_jclasses.specs.Refusals.{AreClasses, SameName}
use Rattle.jd_jgraph.specs.Tables.{AreNamedTables}
use Rattle.jd_jinfos.specs.Infos.{PlainFieldInfo, PlainMethodInfo, field_info, method_info}
use Rattle.jd_jseen.specs.Seen.{AreSeen}
use Rattle.jd_jseen.specs.Tables.{AreTables}
use Rattle.jd_jseen.proofs.Nodes.{length_parents}
use Rattle.jd_jinfos.proofs.Together.{members_have_classes}
use Rattle.jd_reach.specs.Graphs.{edge}
use Rattle.jd_reach.specs.Paths.{ReachesBy}
use Rattle.jd_reach.specs.declared.graph.Graph.{Graph}
use Rattle.jd_classes.specs.Tables.{IsClosedCallGraph}

-- the class of each member of this list is one of so many
pub have_classes : (units : List JavaUnit) (members : List Declared) (nodes : List (Option ℕ)) (count : ℕ) → members ≡ declared_members units → nodes ≡ parents units → count ≡ length nodes → All (λ m. m.class < count) members
have_classes units members nodes count are nodes_are counted =
    subst (λ ms. All (λ m. m.class < count) ms) (sym are)
    (subst (λ n. All (λ m. m.class < n) (declared_members units)) (sym (counted ∙ ap length nodes_are ∙ length_parents units)) (members_have_classes units))

-- the tables, where their parts are named otherwise
pub tables_as : (units : List JavaUnit) (ps qs : List (Option ℕ)) (ms : List Declared) (ns os : List ℕ) (n k : ℕ) → ps ≡ qs → ns ≡ os → n ≡ k → AreTables units qs ms os k → AreTables units ps ms ns n
tables_as units ps qs ms ns os n k p o c t =
    subst (λ ps. AreTables units ps ms ns n) (sym p) (subst (λ ns. AreTables units qs ms ns n) (sym o) (subst (λ n. AreTables units qs ms os n) (sym c) t))

pub seen_as : (units : List JavaUnit) (ns os : List ℕ) (n k : ℕ) (cells : List (Option ℕ)) → ns ≡ os → n ≡ k → AreSeen units ns n cells → AreSeen units os k cells
seen_as units ns os n k cells o c s = subst (λ os. AreSeen units os k cells) o (subst (λ k. AreSeen units ns k cells) c s)

abbrev pub field_infos_of : List Declared → List PlainFieldInfo
field_infos_of ms = map field_info (filter (λ m. is_field m.kind) ms)

abbrev pub method_infos_of : List Declared → List PlainMethodInfo
method_infos_of ms = map method_info (filter (λ m. is_routine m.kind) ms)

-- ---- the call graph

pub named_tables : (units : List JavaUnit) (classes : List (List ℕ)) (extended : List (Option ℕ)) (ms : List Declared) (numbers : List ℕ) (many count : ℕ)
    → classes ≡ class_names units → extended ≡ parents units → ms ≡ declared_members units → AreClasses units → AreNumbers SameName (declared_members units) numbers count → many ≡ count
    → AreNamedTables units classes extended ms numbers many
named_tables units classes extended ms numbers many count named extends are stand numbered counted = record {
  tables = record {
    stand = stand;
    parents_are = extends;
    members_are = are;
    numbers_are = subst (λ n. AreNumbers SameName ms numbers n) (sym counted) (subst (λ ms. AreNumbers SameName ms numbers count) (sym are) numbered);
  };
  classes_are = named;
}

pub closed_as : {E : Type 0} (units : List JavaUnit) (ns os : List ℕ) (count : ℕ) (r : Result Graph E) → ns ≡ os
    → OnOk r ((calls : ℕ → ℕ → Bool) × AreFamilyCalls units (λ m. slice_index ns m) calls)
    → ((calls : ℕ → ℕ → Bool) → AreFamilyCalls units (λ m. slice_index ns m) calls → IfOk r (λ g. (a b : ℕ) → a < count → b < count → Decides (edge g a b) (ReachesBy calls a b)))
    → IfOk r (λ g. IsClosedCallGraph units os count (edge g))
closed_as units ns os count (Err e) same calls reaches = tt
closed_as units ns os count (Ok g) same calls reaches = subst (λ os. IsClosedCallGraph units os count (edge g)) same (record { calls = calls; reaches = reaches })
