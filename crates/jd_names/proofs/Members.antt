-- The members of classes by the words that name them.
use Rattle.std.proofs.Common.{◌≡◌, ℕ, ◌<◌, Bool, List, length, Some, ◌∙◌}
use Rattle.std.specs.List.{filter, slice_get}
use Rattle.jd_syntax.specs.JavaTrees.{JavaUnit}
use Rattle.jd_syntax.specs.Names.{Name}
use Rattle.jd_jclasses.specs.Classes.{parents}
use Rattle.jd_jclasses.specs.Members.{Declared, declared_members, is_field as is_field_kind, is_routine}
use Rattle.jd_jclasses.specs.Methods.{fields, routines}
use Rattle.jd_jinfos.specs.Infos.{field_info, field_infos, method_info, method_infos}
use Rattle.jd_jseen.proofs.Nodes.{members_are_of_classes}
use Rattle.jd_jseen.proofs.Routines.{kept}
use Rattle.jd_tgrammar.specs.NameTables.{NameTable}
use Rattle.jd_tforms.specs.Naming.{number_where, is_constructor, is_field, is_static}
use Rattle.jd_names.specs.Tables.{field_name, name_table, program_tables, routine_name}
use Rattle.jd_names.specs.Words.{names_constructor, names_field, names_static}
use Rattle.jd_names.proofs.Firsts.{first_mapped}

-- ---- members by their words

module _ (units : List JavaUnit) (variables : List Name) (w : List ℕ) where
  abbrev Names : NameTable
  Names = name_table (program_tables units) variables

  pub fields_named : number_where (is_field Names w) Names.fields ≡ number_where (names_field units w) (fields units)
  fields_named = first_mapped field_name (is_field Names w) (field_infos units) ∙ first_mapped field_info (λ f. is_field Names w (field_name f)) (fields units)

  pub statics_named : number_where (is_static Names w) Names.routines ≡ number_where (names_static units w) (routines units)
  statics_named = first_mapped routine_name (is_static Names w) (method_infos units) ∙ first_mapped method_info (λ f. is_static Names w (routine_name f)) (routines units)

  pub constructors_named : number_where (is_constructor Names w) Names.routines ≡ number_where (names_constructor units w) (routines units)
  constructors_named = first_mapped routine_name (is_constructor Names w) (method_infos units) ∙ first_mapped method_info (λ f. is_constructor Names w (routine_name f)) (routines units)

-- ---- members are of classes

kept_below : (units : List JavaUnit) (test : Declared → Bool) (i : ℕ) (d : Declared) → slice_get (filter test (declared_members units)) i ≡ Some d → d.class < length (parents units)
kept_below units test i d there = let k = kept test (declared_members units) i d there in members_are_of_classes units k.i d k.there

pub field_class : (units : List JavaUnit) (i : ℕ) (d : Declared) → slice_get (fields units) i ≡ Some d → d.class < length (parents units)
field_class units i d there = kept_below units (λ m. is_field_kind m.kind) i d there

pub routine_class : (units : List JavaUnit) (i : ℕ) (d : Declared) → slice_get (routines units) i ≡ Some d → d.class < length (parents units)
routine_class units i d there = kept_below units (λ m. is_routine m.kind) i d there
