-- The method that a class sees by a name, as the names have it.
use Rattle.std.proofs.Common.{◌≡◌, ℕ, Bool, true, false, not, cond, ◌&&◌, List, None, Some, option_map, refl, ap, ◌∙◌}
use Rattle.std.specs.Option.{option_and_then}
use Rattle.std.specs.Str.{bytes_eq}
use Rattle.std.proofs.lemmas.Option.{get_or_from_slice_get, slice_get-map}
use Rattle.jd_syntax.specs.JavaTrees.{JavaUnit}
use Rattle.jd_syntax.specs.Names.{Name}
use Rattle.jd_jclasses.specs.Members.{is_constructor as constructs, is_static as is_static_kind}
use Rattle.jd_jclasses.specs.Methods.{IsSeen, routines}
use Rattle.jd_jinfos.specs.Infos.{method_info, method_infos}
use Rattle.jd_tgrammar.specs.NameTables.{NameTable, RoutineName}
use Rattle.jd_tgrammar.specs.Spelling.{no_routine, routine}
use Rattle.jd_tforms.specs.Naming.{is_method, seen_method}
use Rattle.jd_tforms.proofs.Somes.{bytes_same}
use Rattle.jd_names.specs.Tables.{name_table, program_tables, routine_name, sees}
use Rattle.jd_names.proofs.Seeing.{no_constructor}

module _ (units : List JavaUnit) (variables : List Name) (name : List ℕ) (c : ℕ) where
  abbrev Names : NameTable
  Names = name_table (program_tables units) variables

  no_static : (s k b : Bool) → k ≡ true → b ≡ true → ((not s && k) && b) ≡ not s
  no_static true true true h g = refl
  no_static false true true h g = refl
  no_static s false b h g = absurd cc
  no_static s true false h g = absurd cc

  chosen : {A : Type 0} (s : Bool) (x : A) → cond (not s) (Some x) None ≡ cond s None (Some x)
  chosen true x = refl
  chosen false x = refl

  -- the method that it sees
  pub seen_method_at : (m : ℕ) (seen : IsSeen units c name m) → sees (program_tables units) c name ≡ Some m → seen_method Names name c ≡ cond (is_static_kind seen.declared.routine.kind) None (Some (c, m))
  seen_method_at m seen is =
      let d = seen.declared.routine in
      let listed : routine Names m ≡ routine_name (method_info d) =
      get_or_from_slice_get Names.routines m (routine_name (method_info d)) (no_routine Names)
      (slice_get-map routine_name (method_infos units) m ∙ ap (option_map routine_name) (slice_get-map method_info (routines units) m ∙ ap (option_map method_info) seen.declared.there)) in
      let called : bytes_eq d.name.name name ≡ true = ap (λ (n : List ℕ). bytes_eq n name) seen.declared.holds.2 ∙ bytes_same name in
      ap (option_and_then (λ k. cond (is_method Names name (routine Names k)) (Some (c, k)) None)) is
      ∙ ap (λ (r : RoutineName). cond (is_method Names name r) (Some (c, m)) None) listed
      ∙ ap (λ b. cond b (Some (c, m)) None) (no_static (is_static_kind d.kind) (not (constructs d.kind)) (bytes_eq d.name.name name) (no_constructor d.kind seen.declared.holds.0) called)
      ∙ chosen (is_static_kind d.kind) (c, m)

  pub seen_method_none : sees (program_tables units) c name ≡ None → seen_method Names name c ≡ None
  seen_method_none is = ap (option_and_then (λ k. cond (is_method Names name (routine Names k)) (Some (c, k)) None)) is
