-- What the tables of classes list, as plain numbers and trees.
use Rattle.std.specs.Prelude.{ℕ, ℤ, List, map, option_map}
use Rattle.std.specs.Global.{Vec}
use Rattle.jd_base.specs.declared.ids.ClassId.{ClassId}
use Rattle.jd_base.specs.declared.ids.FieldId.{FieldId}
use Rattle.jd_base.specs.declared.ids.MethodId.{MethodId}
use Rattle.jd_syntax.specs.JavaTypes.{type_view}
use Rattle.jd_syntax.specs.JavaTrees.{class_view}
use Rattle.jd_jinfos.specs.Infos.{PlainOwnMembers, PlainClassInfo, PlainFieldInfo, PlainMethodInfo}
use Rattle.jd_jinfos.specs.declared.info.ClassInfo.{ClassInfo}
use Rattle.jd_jinfos.specs.declared.info.FieldInfo.{FieldInfo}
use Rattle.jd_jinfos.specs.declared.info.MethodInfo.{MethodInfo}
use Rattle.jd_jinfos.specs.declared.info.OwnMembers.{OwnMembers}

-- ---- numbers

abbrev pub class_number : ClassId → ℕ
class_number c = c.0

abbrev pub field_number : FieldId → ℕ
field_number f = f.0

abbrev pub method_number : MethodId → ℕ
method_number m = m.0

-- the name and the value of a constant
abbrev pub constant_view : Vec ℕ × ℤ → List ℕ × ℤ
constant_view c = (c.0.items, c.1)

-- ---- members, fields, routines and classes

abbrev pub own_view : OwnMembers → PlainOwnMembers
own_view o = record {
  fields = map field_number o.fields.items;
  constants = map constant_view o.constants.items;
  constructor = option_map method_number o.constructor;
  methods = map method_number o.methods.items;
}

abbrev pub field_info_view : FieldInfo → PlainFieldInfo
field_info_view f = record { name = f.name.items; class = class_number f.class; ty = type_view f.ty }

abbrev pub method_info_view : MethodInfo → PlainMethodInfo
method_info_view m = record {
  name = m.name.items;
  class = class_number m.class;
  member = m.member;
  static = m.is_static;
  constructor = m.constructor;
  params = map type_view m.params.items;
  result = option_map type_view m.result;
}

abbrev pub class_info_view : ClassInfo → PlainClassInfo
class_info_view c = record {
  name = c.name.items;
  parent = option_map class_number c.parent;
  file = c.file;
  decl = option_map class_view c.decl;
  own = record {
    fields = map field_number c.fields.items;
    constants = map constant_view c.constants.items;
    constructor = option_map method_number c.constructor;
    methods = map method_number c.methods.items;
  };
}
