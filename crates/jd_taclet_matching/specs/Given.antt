-- What a step gives for a row's variables, in the parts that the code makes.
use Rattle.std.specs.Global.{Vec}
use Rattle.std.specs.Option.{option_and_then}
use Rattle.std.specs.Prelude.{List, None, Option, Some, cond, length, nat_eq, option_map, ◌++◌, ◌∷◌, ℕ, []}
use Rattle.std.specs.Str.{bytes_eq}
use Rattle.jd_declared.specs.Named.{first_named}
use Rattle.jd_model.specs.Programs.{Program}
use Rattle.jd_patterns.specs.Bindings.{Bindings, Part}
use Rattle.jd_patterns.specs.Instances.{Instance}
use Rattle.jd_patterns.specs.Patterns.{SchemaVar}
use Rattle.jd_schema_trees.specs.TacletViews.{given_form}
use Rattle.jd_schema_trees.specs.declared.condition.VarCond.{VarCond}
use Rattle.jd_schema_trees.specs.declared.condition.VarCond.TheVariants as conds
use Rattle.jd_sequent.specs.Obligations.{PlainTask, names_of}
use Rattle.jd_sequent.specs.declared.bad.Bad.TheVariants.{BadInst, MissingInst}
use Rattle.jd_syntax.specs.Sxs.{Bracketed, sx_view}
use Rattle.jd_syntax.specs.declared.sx.Sx.{Sx}
use Rattle.jd_taclet_stages.specs.Stages.{Outcome, all_named, given_for, going, provided, read_as}
use Rattle.jd_taclets.specs.Taclets.{AFormula, InstForm, InstVar}
use Rattle.jd_tgrammar.specs.NameTables.{NameTable}
use Rattle.jd_told_programs.specs.Told.{told_setting}

-- a name with the text that is given for it
abbrev pub inst_view : Vec ℕ × Sx → List ℕ × Bracketed
inst_view p = (p.0.items, sx_view p.1)

-- the form that the condition says of the variable
abbrev pub own_form : VarCond → SchemaVar → Option InstForm
own_form (conds.Gives m f) n = cond (bytes_eq m.items n) (Some (given_form f)) None
own_form c n = None

-- of a variable of which no condition says a form it is that of formulas
abbrev pub form_or : Option InstForm → InstForm
form_or None = AFormula
form_or (Some f) = f

-- what the variable is to stand for
abbrev pub given_entry : NameTable → Program → Instance → InstVar → List (List ℕ × Bracketed) → Option (SchemaVar × Part)
given_entry names p σ v given = option_and_then (λ x. option_map (λ y. (v.name, y)) (read_as names p σ v.form x)) (first_named given v.name)

-- with more behind it, if there is more
abbrev pub with_more : Bindings → Option Bindings → Option Bindings
with_more τ o = option_map (λ φ. τ ++ φ) o

abbrev pub with_entry : Bindings → Option (SchemaVar × Part) → Option Bindings
with_entry τ o = option_map (λ e. τ ++ e ∷ []) o

-- causes 6 and 7, before what is given is bound
abbrev pub given_told : PlainTask → List InstVar → List (List ℕ × Bracketed) → Instance → Outcome
given_told t vs given σ =
    provided MissingInst (all_named vs given)
    (provided BadInst (nat_eq (length given) (length vs))
    (going BadInst (given_for (names_of t) (told_setting t).program σ vs given)))
