-- The tables of a program's classes.
use Rattle.std.specs.Prelude.{◌≡◌, ◌+◌, ◌<◌, ℕ, Bool, List, length, map, slice_index}
use Rattle.std.specs.Bool.{Decides}
use Rattle.jd_ancestry.specs.Depths.{IsDepths}
use Rattle.jd_syntax.specs.JavaTrees.{JavaUnit}
use Rattle.jd_jclasses.specs.CallGraph.{AreFamilyCalls}
use Rattle.jd_jclasses.specs.Classes.{class_names, declared_classes, parents, prelude_count}
use Rattle.jd_jclasses.specs.Members.{declared_members}
use Rattle.jd_jclasses.specs.Methods.{routines, AreFamilies}
use Rattle.jd_jclasses.specs.Refusals.{AreClasses}
use Rattle.jd_jheads.specs.Heads.{names_of}
use Rattle.jd_jnumbers.specs.Numbered.{AreNames, count_of, texts_of}
use Rattle.jd_jseen.specs.Seen.{AreSeen, cells_of, name_count}
use Rattle.jd_jinfos.specs.Infos.{PlainClassInfo, PlainFieldInfo, PlainMethodInfo, class_infos, field_infos, method_infos, own_of_each}
use Rattle.jd_jinfos.specs.Views.{class_info_view, field_info_view, method_info_view, own_view}
use Rattle.jd_reach.specs.Graphs.{edge, node_count}
use Rattle.jd_reach.specs.Paths.{ReachesBy}
use Rattle.jd_classes.specs.declared.gather.Gathered.{Gathered}
use Rattle.jd_classes.specs.declared.classes.Classes.{Classes}

-- the number of a routine's family
abbrev pub family_in : List ℕ → ℕ → ℕ
family_in numbers m = slice_index numbers m

-- the edges of this graph lead from a family to each that it reaches by calls; and there are such calls
pub record IsClosedCallGraph (units : List JavaUnit) (numbers : List ℕ) (count : ℕ) (edges : ℕ → ℕ → Bool) : Type 0 where
  pub calls : (calls : ℕ → ℕ → Bool) × AreFamilyCalls units (family_in numbers) calls
  pub reaches : (calls : ℕ → ℕ → Bool) → AreFamilyCalls units (family_in numbers) calls → (a b : ℕ) → a < count → b < count → Decides (edges a b) (ReachesBy calls a b)

-- this is known of the classes of the files, apart from their declarations
pub record AreGathered (units : List JavaUnit) (g : Gathered) : Type 0 where
  pub stand : AreClasses units
  pub class_names_ : names_of g.heads ≡ class_names units
  pub parents_ : g.heads.parents.items ≡ parents units
  pub depths_ : IsDepths g.heads.parents.items g.depths.items
  pub names_ : AreNames (declared_members units) (texts_of g.names) g.names.numbers.items
  pub name_count_ : name_count g.seen ≡ count_of g.names
  pub seen_ : AreSeen units g.names.numbers.items (count_of g.names) (cells_of g.seen)
  pub routines_ : length g.families.numbers.items ≡ length (routines units)
  pub families_ : AreFamilies units g.families.count (family_in g.families.numbers.items)
  pub nodes_ : node_count g.graph ≡ g.families.count
  pub graph_ : IsClosedCallGraph units g.families.numbers.items g.families.count (edge g.graph)
  pub fields_ : map field_info_view g.fields.items ≡ field_infos units
  pub methods_ : map method_info_view g.methods.items ≡ method_infos units
  pub own_ : map own_view g.own.items ≡ own_of_each (declared_members units) (prelude_count + length (declared_classes units))

-- these are the tables of the program whose files have these trees
pub record AreTables (units : List JavaUnit) (c : Classes) : Type 0 where
  pub stand : AreClasses units
  pub class_names_ : names_of c.heads ≡ class_names units
  pub parents_ : c.heads.parents.items ≡ parents units
  pub depths_ : IsDepths c.heads.parents.items c.depths.items
  pub names_ : AreNames (declared_members units) (texts_of c.names) c.names.numbers.items
  pub name_count_ : name_count c.seen ≡ count_of c.names
  pub seen_ : AreSeen units c.names.numbers.items (count_of c.names) (cells_of c.seen)
  pub routines_ : length c.families.numbers.items ≡ length (routines units)
  pub families_ : AreFamilies units c.families.count (family_in c.families.numbers.items)
  pub graph_ : IsClosedCallGraph units c.families.numbers.items c.families.count (edge c.graph)
  pub fields_ : map field_info_view c.fields.items ≡ field_infos units
  pub methods_ : map method_info_view c.methods.items ≡ method_infos units
  pub classes_ : map class_info_view c.classes.items ≡ class_infos units

-- ---- what a table lists

abbrev pub listed_classes : Classes → List PlainClassInfo
listed_classes c = map class_info_view c.classes.items

abbrev pub listed_fields : Classes → List PlainFieldInfo
listed_fields c = map field_info_view c.fields.items

-- methods and constructors
abbrev pub listed_methods : Classes → List PlainMethodInfo
listed_methods c = map method_info_view c.methods.items

-- ---- the ids of a table are the numbers below these

abbrev pub class_count_of : Classes → ℕ
class_count_of c = length c.classes.items

abbrev pub field_count_of : Classes → ℕ
field_count_of c = length c.fields.items

-- methods and constructors
abbrev pub method_count_of : Classes → ℕ
method_count_of c = length c.methods.items

abbrev pub family_count_of : Classes → ℕ
family_count_of c = c.families.count

-- the family of a method or constructor
abbrev pub family_of : Classes → ℕ → ℕ
family_of c m = family_in c.families.numbers.items m
