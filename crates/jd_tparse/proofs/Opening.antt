-- Classes that are some program's tables: what holds for each program that has these tables.
use Rattle.std.proofs.Common.{◌≡◌, ℕ, ◌<◌, List, Some, length, map, get_or, option_map, sym, ap, ◌∙◌}
use Rattle.std.proofs.Math.Logic.{∥∥₁_elim}
use Rattle.std.proofs.lemmas.List.{length-map}
use Rattle.std.proofs.lemmas.Option.{get_or_from_slice_get, slice_get-map}
use Rattle.std.specs.Coded.{Coded, Coded-set, le_prop}
use Rattle.std.specs.List.{slice_get}
use Rattle.jd_syntax.specs.JavaTrees.{JavaUnit}
use Rattle.jd_jclasses.specs.Classes.{parents}
use Rattle.jd_jinfos.specs.Infos.{class_infos}
use Rattle.jd_jinfos.specs.Views.{class_info_view}
use Rattle.jd_classes.specs.Tables.{AreTables, class_count_of, listed_fields, listed_methods}
use Rattle.jd_classes.specs.declared.classes.Classes.{Classes}
use Rattle.jd_names.specs.Tables.{ClassTables, program_tables}
use Rattle.jd_names.proofs.Seeing.{as_many_listed}
use Rattle.jd_tparse.specs.Programs.{AreSomeTables, tables_of}

module _ (c : Classes) (some : ∥ AreSomeTables c ∥₁) where
  -- values of a type that has a code are the same, if they are for each program
  pub same_for_each : {A : Type 0} (a b : A) → Coded A → ((units : List JavaUnit) → AreTables units c → a ≡ b) → a ≡ b
  same_for_each a b code each = ∥∥₁_elim some (Coded-set code a b) (λ s. each s.0 s.1)

  pub less_for_each : (a b : ℕ) → ((units : List JavaUnit) → AreTables units c → a < b) → a < b
  less_for_each a b each = ∥∥₁_elim some le_prop (λ s. each s.0 s.1)

module _ (c : Classes) (units : List JavaUnit) (tables : AreTables units c) where
  -- they list what the program has
  pub tables_are : tables_of c ≡ program_tables units
  tables_are =
      let one : tables_of c ≡ record { classes = class_infos units; fields = listed_fields c; routines = listed_methods c } =
      ap (λ l. let t : ClassTables = record { classes = l; fields = listed_fields c; routines = listed_methods c } in t) tables.classes_ in
      one
      ∙ ap (λ l. let t : ClassTables = record { classes = class_infos units; fields = l; routines = listed_methods c } in t) tables.fields_
      ∙ ap (λ l. let t : ClassTables = record { classes = class_infos units; fields = (program_tables units).fields; routines = l } in t) tables.methods_

  pub as_many_classes : class_count_of c ≡ length (parents units)
  as_many_classes = sym (length-map c.classes.items class_info_view) ∙ ap length tables.classes_ ∙ as_many_listed units

-- what is read of something that is listed
pub read_at : {X Y : Type 0} (f : X → Y) (xs ys : List X) (i : ℕ) (x : X) (d : Y) → xs ≡ ys → slice_get ys i ≡ Some x → get_or (map f xs) i d ≡ f x
read_at f xs ys i x d same there = ap (λ l. get_or (map f l) i d) same ∙ get_or_from_slice_get (map f ys) i (f x) d (slice_get-map f ys i ∙ ap (option_map f) there)
