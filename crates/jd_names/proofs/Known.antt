-- Each class, field and routine is named by its word.
use Rattle.std.proofs.Common.{◌≡◌, ℕ, zero, suc, ◌<◌, Bool, true, false, not, cond, ◌&&◌, List, [], ◌∷◌, length, map, get_or, None, Some, option_map, refl, sym, ap, ap₂, ◌∙◌, inl, inr, true≢false, arith}
use Rattle.std.specs.List.{filter, list_all, slice_get}
use Rattle.std.specs.Option.{option_and_then}
use Rattle.std.specs.Str.{bytes_eq}
use Rattle.std.proofs.lemmas.Bool.{and_parts, cases_Bool}
use Rattle.std.proofs.lemmas.List.{length-map}
use Rattle.std.proofs.lemmas.Option.{get_or_from_slice_get, none-some, same_Some, slice_get-get_or, slice_get-map, slice_get_cases}
use Rattle.jd_ancestry.specs.Depths.{IsDepths}
use Rattle.jd_syntax.specs.JavaTrees.{JavaUnit}
use Rattle.jd_syntax.specs.Names.{Name}
use Rattle.jd_jclasses.specs.Classes.{DeclaredClass, class_names, declared_classes, parents, prelude}
use Rattle.jd_jclasses.specs.Laws.{OneMethod}
use Rattle.jd_jclasses.specs.Members.{Declared, Kind, FieldOf, ConstantOf, RoutineOf, declared_members, is_constructor as constructs, is_field as is_field_kind, is_method as is_method_kind, is_routine, is_static as is_static_kind, is_variable}
use Rattle.jd_jclasses.specs.Methods.{IsSeen, RoutineAt, fields, routines}
use Rattle.jd_jclasses.specs.Refusals.{AreClasses, IsSecondMember, IsSecondMethod}
use Rattle.jd_jinfos.specs.Infos.{class_infos, field_info, field_infos, method_info, method_infos}
use Rattle.jd_jseen.proofs.Routines.{kept}
use Rattle.jd_tgrammar.specs.NameTables.{FieldName, NameTable, RoutineName, member_word}
use Rattle.jd_tgrammar.specs.Spelling.{class_word, field_word, method_word, no_field, no_routine, routine}
use Rattle.jd_tforms.specs.Known.{IsField}
use Rattle.jd_tforms.specs.Naming.{class_of, constructor_of, field_of, is_constructor, is_field, is_static, method_at, method_of, number_where, parted, seen_method, static_of}
use Rattle.jd_tforms.specs.Shapes.{is_name}
use Rattle.jd_tforms.proofs.Somes.{bytes_same, same_bytes}
use Rattle.jd_names.specs.Identifiers.{AreIdentifiers, is_identifier}
use Rattle.jd_names.specs.Laws.{MembersAreKnown}
use Rattle.jd_names.specs.Tables.{class_name, field_name, name_table, program_tables, routine_name, sees}
use Rattle.jd_names.specs.Words.{class_called, names_constructor, names_field, names_static}
use Rattle.jd_names.proofs.ClassNames.{as_many_names, at_either, listed_names, named_at, one_name, unmapped}
use Rattle.jd_names.proofs.Firsts.{is_first}
use Rattle.jd_names.proofs.Letters.{identifier_is_name, java_bytes, member_is_name, parted_member, same_words, where_name}
use Rattle.jd_names.proofs.Members.{constructors_named, field_class, fields_named, routine_class, statics_named}
use Rattle.jd_names.proofs.Seeing.{as_many_listed, one_sees, sees_is}
use Rattle.jd_names.proofs.Sighting.{seen_method_at}

-- ---- places among all members

-- what is kept of a list keeps its order
found_at : {X : Type 0} (p : X → Bool) (x : X) (xs : List X) (n : ℕ) (b : X) (t : Bool) → ((k : ℕ) → slice_get (filter p xs) k ≡ Some b → (j : ℕ) × (slice_get xs j ≡ Some b))
    → slice_get (cond t (x ∷ filter p xs) (filter p xs)) n ≡ Some b → (j : ℕ) × (slice_get (x ∷ xs) j ≡ Some b)
found_at p x xs zero b true behind h = (0, h)
found_at p x xs (suc n) b true behind h = let r = behind n h in (suc r.0, r.1)
found_at p x xs n b false behind h = let r = behind n h in (suc r.0, r.1)

found : {X : Type 0} (p : X → Bool) (xs : List X) (n : ℕ) (b : X) → slice_get (filter p xs) n ≡ Some b → (j : ℕ) × (slice_get xs j ≡ Some b)
found p [] n b h = absurd (none-some b h)
found p (x ∷ xs) n b h = found_at p x xs n b (p x) (λ k g. found p xs k b g) h

abbrev InOrder : {X : Type 0} → List X → X → X → Type 0
InOrder {X} xs a b = (i : ℕ) × (j : ℕ) × (i < j) × (slice_get xs i ≡ Some a) × (slice_get xs j ≡ Some b)

later : {X : Type 0} (x : X) (xs : List X) (a b : X) → InOrder xs a b → InOrder (x ∷ xs) a b
later x xs a b o = let lt = o.2 in (suc o.0, suc o.1, omega (arith, lt), o.3, o.4)

ordered_at : {X : Type 0} (p : X → Bool) (x : X) (xs : List X) (m n : ℕ) (a b : X) (t : Bool) → ((k l : ℕ) → slice_get (filter p xs) k ≡ Some a → slice_get (filter p xs) l ≡ Some b → k < l → InOrder xs a b)
    → slice_get (cond t (x ∷ filter p xs) (filter p xs)) m ≡ Some a → slice_get (cond t (x ∷ filter p xs) (filter p xs)) n ≡ Some b → m < n → InOrder (x ∷ xs) a b
ordered_at p x xs m zero a b true behind g h before = absurd (omega (arith, before))
ordered_at p x xs zero (suc n) a b true behind g h before = let r = found p xs n b h in (0, suc r.0, omega arith, g, r.1)
ordered_at p x xs (suc m) (suc n) a b true behind g h before = later x xs a b (behind m n g h (omega (arith, before)))
ordered_at p x xs m n a b false behind g h before = later x xs a b (behind m n g h before)

ordered : {X : Type 0} (p : X → Bool) (xs : List X) (m n : ℕ) (a b : X) → slice_get (filter p xs) m ≡ Some a → slice_get (filter p xs) n ≡ Some b → m < n → InOrder xs a b
ordered p [] m n a b g h before = absurd (none-some a g)
ordered p (x ∷ xs) m n a b g h before = ordered_at p x xs m n a b (p x) (λ k l. ordered p xs k l a b) g h before

-- ---- classes

each_passes : {X : Type 0} (p : X → Bool) (xs : List X) → list_all p xs ≡ true → (i : ℕ) (x : X) → slice_get xs i ≡ Some x → p x ≡ true
each_passes p [] all i x there = absurd (none-some x there)
each_passes p (y ∷ ys) all zero x there = ap p (sym (same_Some y x there)) ∙ (and_parts (p y) (list_all p ys) all).0
each_passes p (y ∷ ys) all (suc i) x there = each_passes p ys (and_parts (p y) (list_all p ys) all).1 i x there

prelude_words : list_all is_identifier (map (λ p. p.0) prelude) ≡ true
prelude_words = refl

module _ (units : List JavaUnit) (are : AreClasses units) (words : AreIdentifiers units) (variables : List Name) where
  abbrev Names : NameTable
  Names = name_table (program_tables units) variables

  pub called : (c : ℕ) → c < length (class_names units) → slice_get (class_names units) c ≡ Some (class_called units c)
  called c lt =
      ap (λ (l : List (List ℕ)). slice_get l c) (sym (listed_names units))
      ∙ slice_get-get_or (map class_name (class_infos units)) c [] (omega (arith, lt, as_many_names units, length-map (class_infos units) class_name))

  class_word_is : (c : ℕ) (w : List ℕ) → slice_get (class_names units) c ≡ Some w → is_identifier w ≡ true
  class_word_is c w there =
      elim (at_either (map (λ p. p.0) prelude) (map (λ d. d.tree.name.name) (declared_classes units)) c w there) [
        | inl here ↦ each_passes is_identifier (map (λ p. p.0) prelude) prelude_words c w here
        | inr behind ↦
            let d = unmapped (λ (d : DeclaredClass). d.tree.name.name) (slice_get (declared_classes units) behind.0) w (sym (slice_get-map (λ (d : DeclaredClass). d.tree.name.name) (declared_classes units) behind.0) ∙ behind.2) in
            ap is_identifier (sym d.2) ∙ words.classes behind.0 d.0 d.1
      ]

  called_is : (c : ℕ) → c < length (class_names units) → is_identifier (class_called units c) ≡ true
  called_is c lt = class_word_is c (class_called units c) (called c lt)

  as_many : length (parents units) ≡ length (class_names units)
  as_many = sym (as_many_listed units) ∙ as_many_names units

  pub class_is : (c : ℕ) → c < length (class_names units) → class_of Names (class_called units c) ≡ Some c
  class_is c lt =
      where_name (class_called units c) (number_where (λ d. bytes_eq d (class_called units c)) Names.classes) (identifier_is_name (class_called units c) (called_is c lt))
      ∙ ap (number_where (λ d. bytes_eq d (class_called units c))) (listed_names units)
      ∙ named_at units are c (class_called units c) (called c lt)

  -- two classes that are called the same
  one_class : (a b : ℕ) → a < length (class_names units) → b < length (class_names units) → class_called units a ≡ class_called units b → a ≡ b
  one_class a b la lb same = one_name units are a b (class_called units b) (called a la ∙ ap Some same) (called b lb)

  -- ---- members

  member_identifier : (test : Declared → Bool) (i : ℕ) (d : Declared) → slice_get (filter test (declared_members units)) i ≡ Some d → is_identifier d.name.name ≡ true
  member_identifier test i d there = let k = kept test (declared_members units) i d there in words.members k.i d k.there

  -- two members that are called the same
  one_member : (test : Declared → Bool) (i j : ℕ) (d e : Declared) → slice_get (filter test (declared_members units)) i ≡ Some d → slice_get (filter test (declared_members units)) j ≡ Some e → d.class < length (class_names units) → e.class < length (class_names units)
      → bytes_eq (member_word (class_called units d.class) d.name.name) (member_word (class_called units e.class) e.name.name) ≡ true → (d.class ≡ e.class) × (d.name.name ≡ e.name.name)
  one_member test i j d e at there ld le same =
      let both = same_words Names (class_called units d.class) (class_called units e.class) d.name.name e.name.name (java_bytes (class_called units d.class) (called_is d.class ld)) (java_bytes (class_called units e.class) (called_is e.class le))
      (same_bytes (member_word (class_called units d.class) d.name.name) (member_word (class_called units e.class) e.name.name) same) in
      (one_class d.class e.class ld le both.0, both.1)

  member_name : (test : Declared → Bool) (i : ℕ) (d : Declared) → slice_get (filter test (declared_members units)) i ≡ Some d → d.class < length (class_names units) → is_name (member_word (class_called units d.class) d.name.name) ≡ true
  member_name test i d there lt = member_is_name (class_called units d.class) d.name.name (called_is d.class lt) (member_identifier test i d there)

  -- ---- fields

  variable_kind : (k : Kind) → is_field_kind k ≡ true → is_variable k ≡ true
  variable_kind (FieldOf t) h = refl
  variable_kind (ConstantOf n) h = absurd (true≢false (sym h))
  variable_kind (RoutineOf m) h = absurd (true≢false (sym h))

  is_field_of : (f : ℕ) (d : Declared) → slice_get (fields units) f ≡ Some d → number_where (names_field units (member_word (class_called units d.class) d.name.name)) (fields units) ≡ Some f
  is_field_of f d there =
      let w = member_word (class_called units d.class) d.name.name in
      let ld = field_class units f d there in
      is_first (names_field units w) (fields units) f d there (bytes_same w) (λ i e lt at. elim (cases_Bool (names_field units w e)) [
        | inl same ↦
            let le = field_class units i e at in
            let both = one_member (λ m. is_field_kind m.kind) i f e d at there (omega (arith, le, as_many)) (omega (arith, ld, as_many)) same in
            let o = ordered (λ (m : Declared). is_field_kind m.kind) (declared_members units) i f e d at there lt in
            let first = variable_kind e.kind (kept (λ (m : Declared). is_field_kind m.kind) (declared_members units) i e at).passes in
            let second = variable_kind d.kind (kept (λ (m : Declared). is_field_kind m.kind) (declared_members units) f d there).passes in
            let holds : IsSecondMember e d = (both.0, inl (first, second, both.1)) in
            absurd (are.members.members o.1 (record { place = o.0; earlier = o.2; other = e; one = d; other_there = o.3; there = o.4; holds = holds }))
        | inr other ↦ other
      ])

  pub known_field : (f : ℕ) (d : Declared) → slice_get (fields units) f ≡ Some d → IsField Names f
  known_field f d there =
      let w = member_word (class_called units d.class) d.name.name in
      let lt = field_class units f d there in
      let listed : get_or Names.fields f (no_field Names) ≡ field_name (field_info d) =
      get_or_from_slice_get Names.fields f (field_name (field_info d)) (no_field Names)
      (slice_get-map field_name (field_infos units) f ∙ ap (option_map field_name) (slice_get-map field_info (fields units) f ∙ ap (option_map field_info) there)) in
      let word : field_word Names f ≡ w = ap (λ (n : FieldName). member_word (class_word Names n.class) n.name) listed in
      ap (field_of Names) word
      ∙ where_name w (number_where (is_field Names w) Names.fields) (member_name (λ m. is_field_kind m.kind) f d there (omega (arith, lt, as_many)))
      ∙ fields_named units variables w
      ∙ is_field_of f d there

  -- ---- routines

  routine_is : (m : ℕ) (d : Declared) → slice_get (routines units) m ≡ Some d → routine Names m ≡ routine_name (method_info d)
  routine_is m d there =
      get_or_from_slice_get Names.routines m (routine_name (method_info d)) (no_routine Names)
      (slice_get-map routine_name (method_infos units) m ∙ ap (option_map routine_name) (slice_get-map method_info (routines units) m ∙ ap (option_map method_info) there))

  method_kind : (k : Kind) → is_routine k ≡ true → not (constructs k) ≡ true → is_method_kind k ≡ true
  method_kind (FieldOf t) r h = absurd (true≢false (sym r))
  method_kind (ConstantOf n) r h = absurd (true≢false (sym r))
  method_kind (RoutineOf m) r h = h

  no_constructor : (k : Kind) → is_method_kind k ≡ true → not (constructs k) ≡ true
  no_constructor (FieldOf t) h = absurd (true≢false (sym h))
  no_constructor (ConstantOf n) h = absurd (true≢false (sym h))
  no_constructor (RoutineOf m) h = h

  is_static_of_class : (m : ℕ) (d : Declared) → slice_get (routines units) m ≡ Some d → is_method_kind d.kind ≡ true → is_static_kind d.kind ≡ true
      → number_where (names_static units (member_word (class_called units d.class) d.name.name)) (routines units) ≡ Some m
  is_static_of_class m d there method static =
      let w = member_word (class_called units d.class) d.name.name in
      let ld = routine_class units m d there in
      is_first (names_static units w) (routines units) m d there
      (ap₂ (λ s t. s && t) (ap₂ (λ s t. s && t) static (no_constructor d.kind method)) (bytes_same w)) (λ i e lt at. elim (cases_Bool (names_static units w e)) [
        | inl same ↦
            let le = routine_class units i e at in
            let parts = and_parts (is_static_kind e.kind && not (constructs e.kind)) (bytes_eq (member_word (class_called units e.class) e.name.name) w) same in
            let both = one_member (λ r. is_routine r.kind) i m e d at there (omega (arith, le, as_many)) (omega (arith, ld, as_many)) parts.1 in
            let o = ordered (λ (r : Declared). is_routine r.kind) (declared_members units) i m e d at there lt in
            let first = method_kind e.kind (kept (λ (r : Declared). is_routine r.kind) (declared_members units) i e at).passes (and_parts (is_static_kind e.kind) (not (constructs e.kind)) parts.0).1 in
            let holds : IsSecondMethod e d = (both.0, (first, method, both.1)) in
            absurd (are.members.overloads o.1 (inl (record { place = o.0; earlier = o.2; other = e; one = d; other_there = o.3; there = o.4; holds = holds })))
        | inr other ↦ other
      ])

  pub known_static : (m : ℕ) (d : Declared) → slice_get (routines units) m ≡ Some d → is_method_kind d.kind ≡ true → is_static_kind d.kind ≡ true → static_of Names (method_word Names (routine Names m).class m) ≡ Some m
  known_static m d there method static =
      let w = member_word (class_called units d.class) d.name.name in
      let lt = routine_class units m d there in
      let word : method_word Names (routine Names m).class m ≡ w = ap (λ (r : RoutineName). member_word (class_word Names r.class) r.name) (routine_is m d there) in
      ap (static_of Names) word
      ∙ where_name w (number_where (is_static Names w) Names.routines) (member_name (λ r. is_routine r.kind) m d there (omega (arith, lt, as_many)))
      ∙ statics_named units variables w
      ∙ is_static_of_class m d there method static

  is_constructor_of_class : (m : ℕ) (d : Declared) → slice_get (routines units) m ≡ Some d → constructs d.kind ≡ true → number_where (names_constructor units (class_called units d.class)) (routines units) ≡ Some m
  is_constructor_of_class m d there built =
      let w = class_called units d.class in
      let ld = routine_class units m d there in
      is_first (names_constructor units w) (routines units) m d there (ap₂ (λ s t. s && t) built (bytes_same w)) (λ i e lt at. elim (cases_Bool (names_constructor units w e)) [
        | inl same ↦
            let le = routine_class units i e at in
            let parts = and_parts (constructs e.kind) (bytes_eq (class_called units e.class) w) same in
            let class = one_class e.class d.class (omega (arith, le, as_many)) (omega (arith, ld, as_many)) (same_bytes (class_called units e.class) w parts.1) in
            let o = ordered (λ (r : Declared). is_routine r.kind) (declared_members units) i m e d at there lt in
            let holds : IsSecondMember e d = (class, inr (parts.0, built)) in
            absurd (are.members.members o.1 (record { place = o.0; earlier = o.2; other = e; one = d; other_there = o.3; there = o.4; holds = holds }))
        | inr other ↦ other
      ])

  pub known_constructor : (m : ℕ) (d : Declared) → slice_get (routines units) m ≡ Some d → constructs d.kind ≡ true → constructor_of Names (class_word Names (routine Names m).class) ≡ Some m
  known_constructor m d there built =
      let w = class_called units d.class in
      let lt = routine_class units m d there in
      let word : class_word Names (routine Names m).class ≡ w = ap (λ (r : RoutineName). class_word Names r.class) (routine_is m d there) in
      ap (constructor_of Names) word
      ∙ where_name w (number_where (is_constructor Names w) Names.routines) (identifier_is_name w (called_is d.class (omega (arith, lt, as_many))))
      ∙ constructors_named units variables w
      ∙ is_constructor_of_class m d there built

  -- ---- methods that a class sees

  pub known_method : OneMethod → (depths : List ℕ) → IsDepths (parents units) depths → (c m : ℕ) (name : List ℕ) → c < length (class_names units) → IsSeen units c name m → (r : RoutineAt units m (λ r. is_static_kind r.kind ≡ false)) → method_of Names (method_word Names c m) ≡ Some (c, m)
  known_method law depths deep c m name lt seen static =
      let d = seen.declared.routine in
      let there = seen.declared.there in
      let cw = class_called units c in
      let w = member_word cw d.name.name in
      let word : method_word Names c m ≡ w = ap (λ (r : RoutineName). member_word cw r.name) (routine_is m d there) in
      let named_so : d.name.name ≡ name = seen.declared.holds.2 in
      let same : static.routine ≡ d = same_Some static.routine d (sym static.there ∙ there) in
      let sees_it : sees (program_tables units) c name ≡ Some m = one_sees law units name are c (sees (program_tables units) c name) (Some m) (sees_is units name depths deep c (omega (arith, lt, as_many))) seen in
      ap (method_of Names) word
      ∙ where_name w (option_and_then (method_at Names) (parted Names [] w)) (member_is_name cw d.name.name (called_is c lt) (member_identifier (λ r. is_routine r.kind) m d there))
      ∙ ap (option_and_then (method_at Names)) (parted_member Names [] cw d.name.name (java_bytes cw (called_is c lt)))
      ∙ ap (option_and_then (seen_method Names d.name.name)) (class_is c lt)
      ∙ ap (λ n. seen_method Names n c) named_so
      ∙ seen_method_at units variables name c m seen sees_it
      ∙ ap (λ b. cond b None (Some (c, m))) (ap (λ (r : Declared). is_static_kind r.kind) (sym same) ∙ static.holds)

-- ---- all of a program

pub known_members : OneMethod → (units : List JavaUnit) (depths : List ℕ) (variables : List Name) → AreClasses units → IsDepths (parents units) depths → AreIdentifiers units → MembersAreKnown units (name_table (program_tables units) variables)
known_members law units depths variables are deep words = record {
  classes_ = λ c lt. class_is units are words variables c lt;
  fields_ = λ f lt. elim (slice_get_cases (fields units) f).1 [
    | inl here ↦ known_field units are words variables f here.0 here.2
    | inr past ↦ absurd (omega (arith, lt, past.0))
  ];
  methods_ = known_method units are words variables law depths deep;
  statics_ = λ m at. known_static units are words variables m at.routine at.there at.holds.0 at.holds.1;
  constructors_ = λ m at. known_constructor units are words variables m at.routine at.there at.holds;
}
