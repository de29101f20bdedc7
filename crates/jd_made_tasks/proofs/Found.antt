-- The first row and the first body are those of the program's one case.
use Rattle.std.proofs.Common.{◌≡◌, ◌<◌, ℕ, zero, suc, Bool, true, false, true≢false, cond, List, [], ◌∷◌, map, take, length, get_or, Option, Some, None, option_map, refl, sym, ap, subst, ◌∙◌, arith}
use Rattle.std.specs.List.{slice_get}
use Rattle.std.proofs.lemmas.Option.{same_Some}
use Rattle.jd_base.specs.declared.sort.Sort.TheVariants.{Int as IntSort}
use Rattle.jd_syntax.specs.JavaTypes.{PlainType, IntType, BooleanType, IntArrayType, NamedType}
use Rattle.jd_syntax.specs.JavaTrees.{JavaMethod, JavaResult, Void, Gives, OfConstructor, JavaUnit}
use Rattle.jd_syntax.specs.Names.{Name, Declared as DeclaredVariable, decl_view}
use Rattle.jd_syntax.specs.declared.variable.VarDecl.{VarDecl}
use Rattle.jd_jclasses.specs.Refusals.{AreClasses}
use Rattle.jd_term.specs.Shifts.{LocFits}
use Rattle.jd_bodies.specs.Declarations.{Declarations, type_by}
use Rattle.jd_bodies.specs.Variables.{this_name}
use Rattle.jd_model.specs.Cases.{Static, Ordinary, Helper, ConstructorOf}
use Rattle.jd_model.specs.ContractForms.{PlainBody, PlainCase, PlainContracts}
use Rattle.jd_model.specs.Programs.{Body, type_sort}
use Rattle.jd_model.specs.Tables.{BodyAt, body_in, receiver_then}
use Rattle.jd_obligation_makers.specs.Starts.{decl_name}
use Rattle.jd_oblig.specs.KeptByObligations.{sort_of_result}
use Rattle.jd_jml_meaning.specs.ContractFormulas.{contract_of}
use Rattle.jd_jml_meaning.specs.JmlCases.{JmlCase, JmlProgram}
use Rattle.jd_specifications.specs.WrittenCases.{builds, contract, model_type, result, role}
use Rattle.jd_case_rows.specs.Rows.{row_of, spelled_for}
use Rattle.jd_frame_laws.specs.Laws.{FramesFit}
use Rattle.jd_programs.specs.Programs.{IsProgram, body_with}
use Rattle.jd_listed_tables.specs.Listed.{body_row, fields_along}
use Rattle.jd_program_tables.specs.Laws.{ListedTablesAreMade}
use Rattle.jd_program_tables.specs.Made.{AreMadeOf, RowAt}
use Rattle.jd_case_obligations.specs.Listed.{keeps_invariant, variables_of_body}
use Rattle.jd_first_form.specs.Forms.{gives_int, is_first_form, is_int}
use Rattle.jd_first_tasks.proofs.OnlyCase.{TheCase, the_case}
use Rattle.jd_made_tasks.specs.Tabled.{AreTabled}
use Rattle.jd_made_tasks.proofs.Form.{OneBody, one_body}

-- ---- what the row does not tell

role_by : (d : Declarations) (class : ℕ) (r : JavaResult) (s h : Bool) → s ≡ true → gives_int r ≡ true → cond (builds d r) (ConstructorOf class) (cond s Static (cond h Helper Ordinary)) ≡ Static
role_by d class Void s h static gives = absurd (true≢false (sym gives))
role_by d class (Gives w) true h static gives = refl
role_by d class (Gives w) false h static gives = absurd (true≢false (sym static))
role_by d class OfConstructor s h static gives = absurd (true≢false (sym gives))

int_sort : (d : Declarations) (t : PlainType) → is_int t ≡ true → type_sort (model_type d (type_by d.class_named t)) ≡ IntSort
int_sort d IntType e = refl
int_sort d BooleanType e = absurd (true≢false (sym e))
int_sort d IntArrayType e = absurd (true≢false (sym e))
int_sort d (NamedType x) e = absurd (true≢false (sym e))

sort_by : (d : Declarations) (r : JavaResult) (nullable : Bool) → gives_int r ≡ true → option_map sort_of_result (result d r nullable) ≡ Some IntSort
sort_by d Void nullable gives = absurd (true≢false (sym gives))
sort_by d (Gives w) nullable gives = ap Some (int_sort d w.written gives)
sort_by d OfConstructor nullable gives = absurd (true≢false (sym gives))

-- ---- lists of the code as plain ones

pub first_there : {X Y : Type 0} (f : X → Y) (xs : List X) (x : X) → 0 < length xs → x ≡ get_or xs 0 x → slice_get (map f xs) 0 ≡ Some (f x)
first_there f [] x some is = absurd (omega (arith, some))
first_there f (y ∷ ys) x some is = ap (λ z. Some (f z)) (sym is)

pub none_there : {X Y : Type 0} (f : X → Y) (xs : List X) → length xs ≡ 0 → slice_get (map f xs) 0 ≡ None
none_there f [] none = refl
none_there f (x ∷ xs) none = absurd (omega (arith, none))

abbrev name_of : DeclaredVariable → Name
name_of v = v.name

pub names_taken : (n : ℕ) (vs : List VarDecl) → map decl_name (take n vs) ≡ map name_of (take n (map decl_view vs))
names_taken zero [] = refl
names_taken zero (v ∷ vs) = refl
names_taken (suc n) [] = refl
names_taken (suc n) (v ∷ vs) = ap (λ l. decl_name v ∷ l) (names_taken n vs)

module _ (units : List JavaUnit) (are : AreClasses units) (listed : ListedTablesAreMade) (frames : FramesFit) (j : JmlProgram) (is : IsProgram units j) (form : is_first_form is.declarations units ≡ true) (t : PlainContracts) (tabled : AreTabled units j is t) where
  abbrev d : Declarations
  d = is.declarations

  abbrev along : ℕ → List ℕ
  along = fields_along units j.program.superclasses

  made : AreMadeOf j along t
  made = subst (AreMadeOf j along) (sym tabled) (listed units are j is)

  pub record Found (row : PlainCase) (f : PlainBody) : Type 0 where
    pub case : JmlCase
    pub first : j.case 0 ≡ Some case
    pub body : Body
    pub runs : j.program.body case.body ≡ Some body
    pub row_is : row ≡ row_of j.program along case body
    pub method : row.method ≡ 0
    pub fits : LocFits 0 2 row.frame
    pub sort : option_map sort_of_result (contract_of j.program (spelled_for body case.contract)).result ≡ Some IntSort
    pub keeps : keeps_invariant (contract_of j.program (spelled_for body case.contract)).role ≡ false
    pub receiver : body.receiver ≡ None
    pub names : map name_of (take f.params f.vars) ≡ receiver_then body.receiver body.parameters
    pub code : f.code ≡ body.code
    pub variables : f.vars ≡ variables_of_body units d case.body

  case_there : (row : PlainCase) (o : Option JmlCase) → RowAt j along (Some row) o → (c : JmlCase) × (o ≡ Some c) × (b : Body) × (j.program.body c.body ≡ Some b) × (row ≡ row_of j.program along c b)
  case_there row None at = absurd at
  case_there row (Some c) at = (c, refl, at.0, at.1, at.2)

  no_receiver : (m : JavaMethod) → m.is_static ≡ true → (body_with d 10 m).receiver ≡ None
  no_receiver m static = ap (λ s. cond s None (Some this_name)) static

  body_there : (f : PlainBody) (b : Body) (o : Option PlainBody) (p : Option Body) → o ≡ Some f → p ≡ Some b → BodyAt o p → (map name_of (take f.params f.vars) ≡ receiver_then b.receiver b.parameters) × (f.code ≡ b.code)
  body_there f b o p e g at = let both = subst (λ x. BodyAt x (Some b)) e (subst (BodyAt o) g at) in (both.0, both.2)

  pub found : (row : PlainCase) (f : PlainBody) → slice_get t.cases 0 ≡ Some row → slice_get t.bodies 0 ≡ Some f → Found row f
  found row f row_there body_first =
      let at = case_there row (j.case 0) (subst (λ o. RowAt j along o (j.case 0)) row_there (made.cases 0)) in
      let c = at.0 in
      let b = at.2 in
      let its : TheCase units d j.program.superclasses is.family c = the_case d j.program.superclasses is.family units form is.are_declarations c (sym (is.cases 0) ∙ at.1) in
      let one : OneBody units d = one_body units d form in
      let body_is : b ≡ body_with d 10 its.tree = same_Some b (body_with d 10 its.tree) (sym at.3 ∙ ap (λ (x : JmlCase). j.program.body x.body) its.is ∙ is.bodies 0 ∙ its.body) in
      let body_one : b ≡ body_with d 10 one.tree = same_Some b (body_with d 10 one.tree) (sym at.3 ∙ ap (λ (x : JmlCase). j.program.body x.body) its.is ∙ is.bodies 0 ∙ one.body) in
      let rows : t.bodies ≡ body_row d 0 10 one.tree ∷ [] = ap (λ (x : PlainContracts). x.bodies) tabled ∙ one.rows in
      let f_is : f ≡ body_row d 0 10 one.tree = same_Some f (body_row d 0 10 one.tree) (sym body_first ∙ ap (λ l. slice_get l 0) rows) in
      let in_table : body_in t.bodies 0 ≡ Some f = ap (λ l. body_in l 0) rows ∙ ap Some (sym f_is) in
      let run = body_there f b (body_in t.bodies 0) (j.program.body 0) in_table (ap (λ (x : JmlCase). j.program.body x.body) (sym its.is) ∙ at.3) (made.bodies 0) in
      record {
        case = c;
        first = at.1;
        body = b;
        runs = at.3;
        row_is = at.4;
        method = ap (λ (x : PlainCase). x.method) at.4 ∙ ap (λ (x : JmlCase). x.method) its.is;
        fits = subst (λ (x : PlainCase). LocFits 0 2 x.frame) (sym at.4) (subst (λ (x : JmlCase). LocFits 0 2 (contract_of j.program (spelled_for b x.contract)).assignable) (sym its.is) (frames d j.program 10 its.tree its.method.clauses b));
        sort = ap (λ (x : JmlCase). option_map sort_of_result x.contract.result) its.is ∙ sort_by d its.tree.result _ its.method.gives;
        keeps = ap (λ (x : JmlCase). keeps_invariant x.contract.role) its.is ∙ ap keeps_invariant (role_by d 10 its.tree.result its.tree.is_static _ its.method.static its.method.gives);
        receiver = ap (λ (x : Body). x.receiver) body_one ∙ no_receiver one.tree one.static;
        names = run.0;
        code = run.1;
        variables = ap (λ (x : PlainBody). x.vars) f_is ∙ sym one.variables ∙ ap (λ (x : JmlCase). variables_of_body units d x.body) (sym its.is);
      }
