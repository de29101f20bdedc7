-- Worked examples: the text of each form.
use Rattle.std.specs.Prelude.{◌≡◌, ℕ, pos, negsuc, List, [], ◌∷◌, true, false, Some, None, codes}
use Rattle.jd_base.specs.declared.sort.Sort.TheVariants.{Int as IntSort, Bool as BoolSort, Ref as RefSort, Heap as HeapSort, Field as FieldSort}
use Rattle.jd_syntax.specs.Names.{Name}
use Rattle.jd_syntax.specs.Codes as code
use Rattle.jd_syntax.specs.Codes.{OfClass, IntArray, Expr, NoExprs, ExprThen, Stmt, PlainCode, Done, Then}
use Rattle.jd_syntax.specs.declared.code.UnaryOp.TheVariants as unary
use Rattle.jd_syntax.specs.declared.code.BinaryOp.TheVariants as binary
use Rattle.jd_term.specs.declared.term.ArithmeticOp.TheVariants as arithmetic
use Rattle.jd_term.specs.declared.formula.Modality.TheVariants as modalities
use Rattle.jd_term.specs.Terms as terms
use Rattle.jd_term.specs.Terms.{PlainTerm, PlainLoc}
use Rattle.jd_term.specs.Formulas as formulas
use Rattle.jd_term.specs.Formulas.{PlainFormula}
use Rattle.jd_bracketed.specs.Trees.{spell}
use Rattle.jd_written.specs.Written.{text_of}
use Rattle.jd_tgrammar.specs.NameTables.{NameTable}
use Rattle.jd_tgrammar.specs.Spelling.{term_text, loc_text, formula_text, expr_text, stmt_text}

-- the class C with the field f, the method m of one parameter, the static method s, and a constructor
abbrev pub table : NameTable
table = record {
  classes = codes "Object" ∷ codes "C" ∷ [];
  fields = record { class = 1; name = codes "f"; sort = IntSort } ∷ [];
  routines =
      record { class = 1; name = codes "m"; static = false; constructor = false; parameters = IntSort ∷ []; result = Some IntSort }
      ∷ record { class = 1; name = codes "s"; static = true; constructor = false; parameters = []; result = None }
      ∷ record { class = 1; name = codes "C"; static = false; constructor = true; parameters = []; result = None }
      ∷ [];
  seen = λ c name. None;
  variables = [];
}

abbrev pub x : Name
x = record { text = codes "x"; sort = IntSort }

abbrev pub y : Name
y = record { text = codes "y'2"; sort = BoolSort }

abbrev pub o : Name
o = record { text = codes "this"; sort = RefSort }

abbrev pub h : Name
h = record { text = codes "@heap"; sort = HeapSort }

abbrev pub c : Name
c = record { text = codes "#i_x"; sort = IntSort }

abbrev pub term : PlainTerm → List ℕ
term t = text_of (spell (term_text table t))

abbrev pub loc : PlainLoc → List ℕ
loc l = text_of (spell (loc_text table l))

abbrev pub formula : PlainFormula → List ℕ
formula a = text_of (spell (formula_text table a))

abbrev pub expr : Expr → List ℕ
expr e = text_of (spell (expr_text table e))

abbrev pub stmt : Stmt → List ℕ
stmt s = text_of (spell (stmt_text table s))

abbrev pub tx : PlainTerm
tx = terms.ProgramVariable x

abbrev pub to : PlainTerm
to = terms.ProgramVariable o

abbrev pub th : PlainTerm
th = terms.ProgramVariable h

abbrev pub tf : PlainTerm
tf = terms.NamedField 0

abbrev pub seven : PlainTerm
seven = terms.Number (pos 7)

abbrev pub ex : Expr
ex = code.Variable x

abbrev pub eo : Expr
eo = code.Variable o

abbrev pub stop : PlainCode
stop = Then code.Stop Done

pub record TermExamples : Type 0 where
  pub number : term seven ≡ codes "7"
  pub zero : term (terms.Number (pos 0)) ≡ codes "0"
  pub negative : term (terms.Number (negsuc 11)) ≡ codes "-12"
  pub truth : term (terms.Boolean true) ≡ codes "true"
  pub null : term terms.NullTerm ≡ codes "null"
  pub variable : term (terms.ProgramVariable y) ≡ codes "y'2"
  pub constant : term (terms.Constant c) ≡ codes "#i_x"
  pub bound : term (terms.Bound 10 IntSort) ≡ codes "%10"
  pub add : term (terms.Arithmetic arithmetic.Add tx seven) ≡ codes "(add x 7)"
  pub subtract : term (terms.Arithmetic arithmetic.Subtract tx seven) ≡ codes "(sub x 7)"
  pub multiply : term (terms.Arithmetic arithmetic.Multiply tx seven) ≡ codes "(mul x 7)"
  pub divide : term (terms.Arithmetic arithmetic.Divide tx seven) ≡ codes "(div x 7)"
  pub remainder : term (terms.Arithmetic arithmetic.Remainder tx seven) ≡ codes "(mod x 7)"
  pub negation : term (terms.Negation (terms.Negation tx)) ≡ codes "(neg (neg x))"
  pub wrap : term (terms.Wrap tx) ≡ codes "(wrap x)"
  pub length : term (terms.Length to) ≡ codes "(len this)"
  pub integer : term (terms.Select IntSort th to tf) ≡ codes "(selI @heap this C.f)"
  pub boolean : term (terms.Select BoolSort th to terms.CreatedField) ≡ codes "(selB @heap this created)"
  pub reference : term (terms.Select RefSort th to tf) ≡ codes "(selR @heap this C.f)"
  pub sum : term (terms.Sum (terms.Number (pos 0)) tx (terms.Bound 0 IntSort)) ≡ codes "(bsum 0 x %0)"
  pub store : term (terms.Store th to tf seven) ≡ codes "(store @heap this C.f 7)"
  pub create : term (terms.Create th to) ≡ codes "(create @heap this)"
  pub anon : term (terms.Anon th terms.AllLocations th) ≡ codes "(anon @heap all @heap)"
  pub element : term (terms.ElementField seven) ≡ codes "(idx 7)"

pub record LocExamples : Type 0 where
  pub none : loc terms.NoLocations ≡ codes "none"
  pub all : loc terms.AllLocations ≡ codes "all"
  pub single : loc (terms.Single to tf) ≡ codes "(loc this C.f)"
  pub object : loc (terms.ObjectFields to) ≡ codes "(obj this)"
  pub elements : loc (terms.ArrayElements to) ≡ codes "(arrall this)"
  pub range : loc (terms.ElementRange to seven tx) ≡ codes "(arr this 7 x)"
  pub union : loc (terms.Union terms.NoLocations (terms.ObjectFields to)) ≡ codes "(union none (obj this))"

abbrev pub yes : PlainFormula
yes = formulas.TrueFormula

abbrev pub no : PlainFormula
no = formulas.FalseFormula

pub record FormulaExamples : Type 0 where
  pub true : formula yes ≡ codes "true"
  pub false : formula no ≡ codes "false"
  pub not : formula (formulas.Not yes) ≡ codes "(not true)"
  pub and : formula (formulas.And yes (formulas.And no yes)) ≡ codes "(and true (and false true))"
  pub or : formula (formulas.Or yes no) ≡ codes "(or true false)"
  pub implies : formula (formulas.Implies yes no) ≡ codes "(imp true false)"
  pub iff : formula (formulas.Iff yes no) ≡ codes "(iff true false)"
  pub equal : formula (formulas.Equal tx seven) ≡ codes "(eq x 7)"
  pub less : formula (formulas.Less tx seven) ≡ codes "(lt x 7)"
  pub less_or_equal : formula (formulas.LessOrEqual seven tx) ≡ codes "(le 7 x)"
  pub for_all : formula (formulas.Forall IntSort (formulas.Equal (terms.Bound 0 IntSort) tx)) ≡ codes "(forall Int (eq %0 x))"
  pub exists : formula (formulas.Exists RefSort (formulas.Exists FieldSort yes)) ≡ codes "(exists Ref (exists Field true))"
  pub truth : formula (formulas.Forall BoolSort yes) ≡ codes "(forall Bool true)"
  pub updated : formula (formulas.Updated ((x, seven) ∷ (h, th) ∷ []) yes) ≡ codes "(upd ((x 7) (@heap @heap)) true)"
  pub necessity : formula (formulas.Modal modalities.Necessity Done yes) ≡ codes "(box () true)"
  pub possibility : formula (formulas.Modal modalities.Possibility stop yes) ≡ codes "(dia ((stop)) true)"
  pub in_locations : formula (formulas.InLocations to tf terms.NoLocations) ≡ codes "(in this C.f none)"
  pub in_int : formula (formulas.InInt tx) ≡ codes "(inInt x)"
  pub well_formed : formula (formulas.WellFormed th) ≡ codes "(wf @heap)"
  pub invariant : formula (formulas.Invariant th to) ≡ codes "(inv @heap this)"
  pub instance : formula (formulas.IsInstance (OfClass 1) to) ≡ codes "(inst C this)"
  pub exact : formula (formulas.IsExactInstance IntArray to) ≡ codes "(exact int[] this)"

pub record ExprExamples : Type 0 where
  pub number : expr (code.IntLiteral (negsuc 0)) ≡ codes "-1"
  pub truth : expr (code.BoolLiteral false) ≡ codes "false"
  pub null : expr code.NullLiteral ≡ codes "null"
  pub variable : expr ex ≡ codes "x"
  pub negate : expr (code.Unary unary.Negate ex) ≡ codes "(neg x)"
  pub invert : expr (code.Unary unary.Invert ex) ≡ codes "(not x)"
  pub add : expr (code.Binary binary.Add ex ex) ≡ codes "(add x x)"
  pub subtract : expr (code.Binary binary.Subtract ex ex) ≡ codes "(sub x x)"
  pub multiply : expr (code.Binary binary.Multiply ex ex) ≡ codes "(mul x x)"
  pub divide : expr (code.Binary binary.Divide ex ex) ≡ codes "(div x x)"
  pub remainder : expr (code.Binary binary.Remainder ex ex) ≡ codes "(mod x x)"
  pub less : expr (code.Binary binary.Less ex ex) ≡ codes "(lt x x)"
  pub less_or_equal : expr (code.Binary binary.LessOrEqual ex ex) ≡ codes "(le x x)"
  pub greater : expr (code.Binary binary.Greater ex ex) ≡ codes "(gt x x)"
  pub greater_or_equal : expr (code.Binary binary.GreaterOrEqual ex ex) ≡ codes "(ge x x)"
  pub equal : expr (code.Binary binary.Equal ex ex) ≡ codes "(eq x x)"
  pub not_equal : expr (code.Binary binary.NotEqual ex ex) ≡ codes "(ne x x)"
  pub and_also : expr (code.AndAlso ex ex) ≡ codes "(and x x)"
  pub or_else : expr (code.OrElse ex ex) ≡ codes "(or x x)"
  pub conditional : expr (code.Conditional ex ex ex) ≡ codes "(cond x x x)"
  pub field : expr (code.ReadField eo 0) ≡ codes "(get this C.f)"
  pub element : expr (code.ReadElement eo ex) ≡ codes "(aget this x)"
  pub length : expr (code.LengthOf eo) ≡ codes "(len this)"
  pub cast : expr (code.Cast (OfClass 0) eo) ≡ codes "(cast Object this)"
  pub instance : expr (code.InstanceOf IntArray eo) ≡ codes "(inst int[] this)"
  pub virtual_call : expr (code.VirtualCall 1 0 eo (ExprThen ex NoExprs)) ≡ codes "(call C.m this x)"
  pub static_call : expr (code.StaticCall 1 NoExprs) ≡ codes "(scall C.s)"
  pub constructor_call : expr (code.ConstructorCall 2 eo NoExprs) ≡ codes "(ctor C this)"
  pub do_then : expr (code.DoThen stop ex) ≡ codes "(do ((stop)) x)"

pub record StmtExamples : Type 0 where
  pub set : stmt (code.Set x ex) ≡ codes "(set x x)"
  pub field : stmt (code.WriteField eo 0 ex) ≡ codes "(put this C.f x)"
  pub element : stmt (code.WriteElement eo ex ex) ≡ codes "(aput this x x)"
  pub evaluate : stmt (code.Evaluate (code.StaticCall 1 NoExprs)) ≡ codes "(eval (scall C.s))"
  pub if_else : stmt (code.If ex stop Done) ≡ codes "(if x ((stop)) ())"
  pub while : stmt (code.While 0 ex Done) ≡ codes "(while 0 x ())"
  pub block : stmt (code.Block 1 (Then (code.Break 1) stop)) ≡ codes "(block l1 ((break l1) (stop)))"
  pub catch : stmt (code.Catch stop o Done) ≡ codes "(catch ((stop)) this ())"
  pub finally : stmt (code.Finally Done stop) ≡ codes "(finally () ((stop)))"
  pub throw : stmt (code.Throw eo) ≡ codes "(throw this)"
  pub throw_unchecked : stmt (code.ThrowUnchecked eo) ≡ codes "(throwx this)"
  pub return : stmt (code.Return ex) ≡ codes "(return x)"
  pub return_void : stmt code.ReturnVoid ≡ codes "(return)"
  pub frame : stmt (code.Frame (Some x) stop) ≡ codes "(frame x ((stop)))"
  pub frame_void : stmt (code.Frame None Done) ≡ codes "(frame - ())"
  pub raise : stmt (code.Raise 1) ≡ codes "(raise C)"
  pub object : stmt (code.AllocObject o 1) ≡ codes "(alloc this C)"
  pub array : stmt (code.AllocArray o ex) ≡ codes "(alloc this (arr x))"
  pub new_array : stmt (code.NewArray o ex) ≡ codes "(allocarr this x)"

pub record Examples : Type 0 where
  pub of_terms : TermExamples
  pub of_locations : LocExamples
  pub of_formulas : FormulaExamples
  pub of_expressions : ExprExamples
  pub of_statements : StmtExamples
