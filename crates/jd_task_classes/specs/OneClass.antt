-- The tables of a program with one class beside those that are always there, and a program that they stand for.
use Rattle.std.specs.Prelude.{List, Option, Some, codes, false, map, nat_eq, ◌++◌, ◌≡◌, ◌∷◌, ℕ, []}
use Rattle.std.specs.List.{slice_get}
use Rattle.std.specs.Option.{option_and_then, unwrap_or}
use Rattle.jd_jclasses.specs.Classes.{prelude}
use Rattle.jd_jinfos.specs.Infos.{PlainMethodInfo, prelude_info}
use Rattle.jd_model.specs.Cases.{SpecifiedProgram}
use Rattle.jd_model.specs.Programs.{Body, IntType, Program}
use Rattle.jd_names.specs.Tables.{ClassTables, sees}
use Rattle.jd_task_classes.specs.Classes.{PlainClasses, methods_of}
use Rattle.jd_task_classes.specs.Methods.{MethodsStandFor}
use Rattle.jd_task_classes.specs.ResolvedCalls.{CallsAreResolved}
use Rattle.jd_task_classes.specs.Standing.{ClassesStandFor, result_sort}

-- `Z`, which extends Object
abbrev pub the_class : ℕ
the_class = 10

abbrev pub one_class_tables : List PlainMethodInfo → ClassTables
one_class_tables methods = record { classes = map prelude_info prelude ++ (prelude_info (codes "Z", Some 0) ∷ []); fields = []; routines = methods }

-- each method is a family of its own, which reaches itself alone
abbrev pub one_class : List PlainMethodInfo → PlainClasses
one_class methods = record { tables = one_class_tables methods; families = λ m. m; reaches = nat_eq }

-- of each class it and those above it
abbrev pub lineages : List (List ℕ)
lineages =
    (0 ∷ [])
    ∷ (0 ∷ 1 ∷ [])
    ∷ (0 ∷ 1 ∷ 2 ∷ [])
    ∷ (0 ∷ 1 ∷ 2 ∷ 3 ∷ [])
    ∷ (0 ∷ 1 ∷ 2 ∷ 3 ∷ 4 ∷ [])
    ∷ (0 ∷ 1 ∷ 2 ∷ 3 ∷ 5 ∷ [])
    ∷ (0 ∷ 1 ∷ 2 ∷ 3 ∷ 6 ∷ [])
    ∷ (0 ∷ 1 ∷ 2 ∷ 3 ∷ 7 ∷ [])
    ∷ (0 ∷ 1 ∷ 2 ∷ 3 ∷ 8 ∷ [])
    ∷ (0 ∷ 1 ∷ 2 ∷ 3 ∷ 6 ∷ 9 ∷ [])
    ∷ (0 ∷ 10 ∷ [])
    ∷ []

abbrev pub program_of : List PlainMethodInfo → (ℕ → Option Body) → Program
program_of methods body_ = record {
  superclasses = λ c. unwrap_or (slice_get lineages c) [];
  object = 0;
  throwable = 1;
  null_pointer = 4;
  arithmetic = 5;
  bounds = 9;
  cast = 8;
  negative_size = 7;
  field_type = λ f. IntType;
  has_field = λ c f. false;
  lookup = λ c m. option_and_then (λ (i : PlainMethodInfo). sees (one_class_tables methods) c i.name) (slice_get methods m);
  body = body_;
}

-- each body has its method's result
abbrev pub HaveResults : List PlainMethodInfo → (ℕ → Option Body) → Type 0
HaveResults methods body_ = (m : ℕ) (i : PlainMethodInfo) (b : Body) → slice_get methods m ≡ Some i → body_ m ≡ Some b → b.result ≡ result_sort i.result

abbrev pub OneClassHasAProgram : Type 0
OneClassHasAProgram =
    (methods : List PlainMethodInfo) (body_ : ℕ → Option Body) → HaveResults methods body_
    → (p : SpecifiedProgram) → p.setting.program ≡ program_of methods body_ → MethodsStandFor (methods_of (one_class methods)) p → CallsAreResolved p
    → ClassesStandFor (one_class methods) p
