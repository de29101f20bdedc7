use Rattle.std.proofs.Common.{◌≡◌, ◌++◌, drop, map}
use Rattle.jd_syntax.specs.JavaTypes.{identifier_view, type_view}
use Rattle.jd_syntax.specs.JavaTrees.{field_view, FieldMember}
use Rattle.jd_jclasses.specs.Members.{of_member}
use Rattle.jd_jlists.specs.Views.{member_of_view}
use Rattle.jd_jlists.proofs.Rests.{fields_of}
use Rattle.jd_jlists.proofs.listing.add_fields.Given as goal

-- what is made so far, and what the rest adds
abbrev pub invariant-loop-name : goal.invariant-loop-name
invariant-loop-name l =
    map member_of_view l.out.items ++ fields_of l.class l.file l.place (type_view l.field.ty.written) (map identifier_view (drop l.name-index l.field.names.items))
    ≡ map member_of_view l.fn.out.items ++ of_member l.class l.file l.place (FieldMember (field_view l.field))
