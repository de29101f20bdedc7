-- The method that a class sees by a name.
use Rattle.std.proofs.Common.{◌≡◌, ℕ, ◌<◌, true, cond, List, length, Option, None, Some, option_map, sym, ap, ◌∙◌, subst, arith, IsUtf8, []}
use Rattle.std.specs.List.{list_all, slice_get}
use Rattle.std.specs.Option.{option_and_then}
use Rattle.std.proofs.lemmas.Option.{same_Some, slice_get-map}
use Rattle.std.proofs.lemmas.Str.{IsUtf8-from_ascii}
use Rattle.jd_ancestry.specs.Depths.{IsDepths}
use Rattle.jd_syntax.specs.JavaTrees.{JavaUnit}
use Rattle.jd_syntax.specs.Names.{Name}
use Rattle.jd_jclasses.specs.Classes.{parents}
use Rattle.jd_jclasses.specs.Laws.{OneMethod}
use Rattle.jd_jclasses.specs.Methods.{IsSeen, SeesNone, routines}
use Rattle.jd_jinfos.specs.Infos.{PlainMethodInfo, method_info, method_infos}
use Rattle.jd_jinfos.specs.Views.{method_info_view}
use Rattle.jd_jinfos.specs.declared.info.MethodInfo.{MethodInfo}
use Rattle.jd_classes.specs.Tables.{AreTables, class_count_of}
use Rattle.jd_classes.specs.declared.classes.Classes.{Classes}
use Rattle.jd_tgrammar.specs.NameTables.{NameTable}
use Rattle.jd_tforms.specs.Naming.{class_of, method_at, method_of, parted, seen_method}
use Rattle.jd_tforms.specs.Shapes.{is_name, is_name_byte}
use Rattle.jd_names.specs.Tables.{name_table, program_tables, sees}
use Rattle.jd_names.proofs.Letters.{where_name}
use Rattle.jd_names.proofs.Seeing.{one_sees, sees_is}
use Rattle.jd_names.proofs.Sighting.{seen_method_at, seen_method_none}
use Rattle.jd_tparse.proofs.Ascii.{are_ascii}
use Rattle.jd_tparse.proofs.Opening.{as_many_classes}

pub is_text : (w : List ℕ) → list_all is_name_byte w ≡ true → IsUtf8 w
is_text w h = IsUtf8-from_ascii w (are_ascii w h)

module _ (law : OneMethod) (c : Classes) (units : List JavaUnit) (tables : AreTables units c) (vs : List Name) (class : ℕ) (name : List ℕ) (lt : class < class_count_of c) where
  abbrev Names : NameTable
  Names = name_table (program_tables units) vs

  there : class < length (parents units)
  there = omega (arith, lt, as_many_classes c units tables)

  deep : IsDepths (parents units) c.depths.items
  deep = subst (λ (ps : List (Option ℕ)). IsDepths ps c.depths.items) tables.parents_ tables.depths_

  pub none_seen : SeesNone units class name → None ≡ seen_method Names name class
  none_seen none =
      sym (seen_method_none units vs name class
      (one_sees law units name tables.stand class (sees (program_tables units) class name) None (sees_is units name c.depths.items deep class there) none))

  pub one_seen : (m : ℕ) (info : MethodInfo) → slice_get (method_infos units) m ≡ Some (method_info_view info) → IsSeen units class name m → seen_method Names name class ≡ cond info.is_static None (Some (class, m))
  one_seen m info listed seen =
      let sees_it = one_sees law units name tables.stand class (sees (program_tables units) class name) (Some m) (sees_is units name c.depths.items deep class there) seen in
      let same = same_Some (method_info seen.declared.routine) (method_info_view info)
      (sym (slice_get-map method_info (routines units) m ∙ ap (option_map method_info) seen.declared.there) ∙ listed) in
      seen_method_at units vs name class m seen sees_it
      ∙ ap (λ (i : PlainMethodInfo). cond i.static None (Some (class, m))) same

-- what a word stands for, by its parts
module _ (names : NameTable) (w : List ℕ) (is : is_name w ≡ true) where
  pub no_parts : None ≡ parted names [] w → None ≡ method_of names w
  no_parts none = sym (where_name w (option_and_then (method_at names) (parted names [] w)) is ∙ ap (option_and_then (method_at names)) (sym none))

  pub by_parts : (c n : List ℕ) (k : Option ℕ) → Some (c, n) ≡ parted names [] w → k ≡ class_of names c → option_and_then (seen_method names n) k ≡ method_of names w
  by_parts c n k parts class =
      ap (option_and_then (seen_method names n)) class
      ∙ ap (option_and_then (method_at names)) parts
      ∙ sym (where_name w (option_and_then (method_at names) (parted names [] w)) is)
