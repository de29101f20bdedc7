use Rattle.std.proofs.Common.{rules, ◌≡◌, length, map, sym, ap, subst, ◌∙◌}
use Rattle.jd_syntax.specs.JavaTrees.{unit_view}
use Rattle.jd_jclasses.specs.Numbers.{AreNumbers}
use Rattle.jd_jclasses.specs.Refusals.{SameName}
use Rattle.jd_jlists.specs.Views.{member_of_view}
use Rattle.jd_jnumbers.specs.Numbered.{count_of}
use Rattle.jd_jseen.specs.Seen.{cells_of, name_count}
use Rattle.jd_jseen.specs.Tables.{AreTables}
use Rattle.jd_jclasses.specs.Members.{declared_members}
use Rattle.jd_jinfos.specs.Infos.{own_of_each}
use Rattle.jd_jseen.proofs.Nodes.{length_parents}
use Rattle.jd_classes.proofs.Gathering.{field_infos_of, method_infos_of, seen_as, tables_as}
use Rattle.jd_classes.proofs.gather.gather_standing.Goals as goal

pub returns : goal.returns
returns c =
    let units = map unit_view c.args.units.now in
    let tables : AreTables units c.args.heads.parents.items (map member_of_view c.args.members.now) c.args.names.numbers.items (count_of c.args.names) =
    record { stand = c.requires.stand; parents_are = c.requires.parents; members_are = c.requires.members; numbers_are = subst (λ ms. AreNumbers SameName ms c.args.names.numbers.items (count_of c.args.names)) (sym c.requires.members) c.requires.numbers } in
    let counted : name_count c.in_ok-seen.seen ≡ count_of c.args.names = c.in_ok-seen.ensures.names ∙ c.count-count.ensures in
    let many : c.len.result ≡ length c.args.heads.parents.items = search (rules, c.len.ensures) in
    record {
      stand = c.requires.stand;
      class_names_ = c.requires.class_names;
      parents_ = c.requires.parents;
      depths_ = c.requires.depths;
      names_ = c.requires.names;
      name_count_ = counted;
      seen_ = seen_as units _ _ _ _ (cells_of c.in_ok-seen.seen) c.deref-3.ensures.value c.count-count.ensures
          (c.in_ok-seen.ensures.seen units (tables_as units _ _ (map member_of_view c.args.members.now) _ _ _ _ c.deref.ensures.value c.deref-3.ensures.value c.count-count.ensures tables));
      routines_ = c.in_ok-families.ensures.each units (tables_as units _ _ (map member_of_view c.args.members.now) _ _ _ _ c.deref-4.ensures.value c.deref-5.ensures.value counted tables);
      families_ = c.in_ok-families.ensures.families units (tables_as units _ _ (map member_of_view c.args.members.now) _ _ _ _ c.deref-4.ensures.value c.deref-5.ensures.value counted tables);
      nodes_ = c.in_ok-graph.ensures.nodes;
      graph_ = c.in_ok-graph.ensures.closed;
      fields_ = c.in_ok-fields.ensures ∙ ap field_infos_of c.requires.members;
      methods_ = c.in_ok-methods.ensures ∙ ap method_infos_of c.requires.members;
      own_ =
          c.in_ok-own.ensures
          ∙ ap (λ ms. own_of_each ms c.len.result) c.requires.members
          ∙ ap (λ n. own_of_each (declared_members units) n) (many ∙ ap length c.requires.parents ∙ length_parents units);
    }
