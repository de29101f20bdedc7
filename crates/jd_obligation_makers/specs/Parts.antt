-- What a sequent is made of.
use Rattle.std.specs.Prelude.{◌≡◌, Bool, true, false, Option, Some, None, ◌++◌, map}
use Rattle.jd_syntax.specs.CodeViews.{code_view}
use Rattle.jd_syntax.specs.Names.{Name}
use Rattle.jd_model.specs.ContractForms.{PlainCase}
use Rattle.jd_model.specs.Programs.{Body}
use Rattle.jd_model.specs.Tables.{receiver_then}
use Rattle.jd_oblig.specs.CaseObligations.{ObligationParts, invariant_members}
use Rattle.jd_obligation_makers.specs.Starts.{decl_name}
use Rattle.jd_obligation_makers.specs.declared.sequents.Run.{Run}

abbrev pub has_name : Option Name → Bool
has_name None = false
has_name (Some x) = true

-- the body's variables and its code
pub record IsRun (r : Run) (b : Body) : Type 0 where
  pub receiver : r.has_receiver ≡ has_name b.receiver
  pub variables : map decl_name r.variables.now ≡ receiver_then b.receiver b.parameters
  pub code : b.code ≡ code_view r.code.now

-- what the row does not tell
pub record AreParts (f : PlainCase) (r : Run) (o : ObligationParts) : Type 0 where
  pub outcome : o.result ≡ r.result
  pub keeps : o.keeps_invariant ≡ r.keeps_invariant
  pub normal : f.exit ≡ o.normal ++ invariant_members r.keeps_invariant
  pub exceptional : f.exceptional ≡ o.exceptional ++ invariant_members r.keeps_invariant
