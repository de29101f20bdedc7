-- What the rules on code make of a focus.
use Rattle.std.specs.Prelude.{ℕ, [], ◌∷◌, Option, Some, None, option_map}
use Rattle.jd_syntax.specs.Names.{Name}
use Rattle.jd_syntax.specs.Codes.{Stmt, Set, Frame, Return, Catch, Block, Finally, PlainCode, Done, Then}
use Rattle.jd_term.specs.Terms.{PlainTerm}
use Rattle.jd_term.specs.Formulas.{PlainFormula, Equal, Updated, Modal}
use Rattle.jd_term.specs.declared.formula.Modality.{Modality}
use Rattle.jd_model.specs.Contexts.{chain, one}
use Rattle.jd_first_steps.specs.declared.rules.FirstRule.{FirstRule}
use Rattle.jd_first_steps.specs.declared.rules.FirstRule.TheVariants.{SetSimple, FrameReturn, CatchEmpty}
use Rattle.jd_first_steps.specs.Rewrites.{simple_term}

-- an update before the modality, where there is one, and the code in the modality
pub record Effect : Type 0 where
  pub update : Option (Name × PlainTerm)
  pub code : PlainCode

abbrev pub behind_first : PlainCode → PlainCode
behind_first Done = Done
behind_first (Then s rest) = rest

-- a frame whose body begins with the return of a simple expression
abbrev pub return_effect : Name → PlainCode → Option Effect
return_effect r (Then (Return e) more) = option_map (λ t. record { update = None; code = one (Set r e) }) (simple_term e)
return_effect r body = None

-- a catch round no statement
abbrev pub nothing_effect : PlainCode → Option Effect
nothing_effect Done = Some (record { update = None; code = Done })
nothing_effect (Then s c) = None

-- what the rule makes of the statement alone
abbrev pub at_stmt : FirstRule → Stmt → Option Effect
at_stmt SetSimple (Set x e) = option_map (λ t. record { update = Some (x, t); code = Done }) (simple_term e)
at_stmt FrameReturn (Frame (Some r) body) = return_effect r body
at_stmt CatchEmpty (Catch body x h) = nothing_effect body
at_stmt rule s = None

abbrev pub first_some : Option Effect → Option Effect → Option Effect
first_some None o = o
first_some (Some e) o = Some e

abbrev pub followed : PlainCode → Effect → Effect
followed rest e = record { update = e.update; code = chain e.code rest }

abbrev pub in_block : ℕ → Effect → Effect
in_block l e = record { update = e.update; code = one (Block l e.code) }

abbrev pub in_frame : Option Name → Effect → Effect
in_frame r e = record { update = e.update; code = one (Frame r e.code) }

abbrev pub in_catch : Name → PlainCode → Effect → Effect
in_catch x h e = record { update = e.update; code = one (Catch e.code x h) }

abbrev pub in_finally : PlainCode → Effect → Effect
in_finally f e = record { update = e.update; code = one (Finally e.code f) }

-- what the rule makes of the code at the outermost focus that it matches
abbrev mutual
  pub at_focus : FirstRule → PlainCode → Option Effect
  at_focus rule Done = None
  at_focus rule (Then s rest) = option_map (followed rest) (first_some (at_stmt rule s) (within rule s))

  pub within : FirstRule → Stmt → Option Effect
  within rule (Block l c) = option_map (in_block l) (at_focus rule c)
  within rule (Frame r c) = option_map (in_frame r) (at_focus rule c)
  within rule (Catch c x h) = option_map (in_catch x h) (at_focus rule c)
  within rule (Finally c f) = option_map (in_finally f) (at_focus rule c)
  within rule s = None

-- a formula under an update, where there is one
abbrev pub with_update : Option (Name × PlainTerm) → PlainFormula → PlainFormula
with_update None f = f
with_update (Some p) f = Updated (p ∷ []) f

-- the modality with the effect
abbrev pub effected : Modality → PlainFormula → Effect → PlainFormula
effected m a e = with_update e.update (Modal m e.code a)

-- what the rule makes of a modality by its code
abbrev pub executed : FirstRule → PlainFormula → Option PlainFormula
executed rule (Modal m c a) = option_map (effected m a) (at_focus rule c)
executed rule f = None

-- a modality over no statement is its formula
abbrev pub emptied : PlainFormula → Option PlainFormula
emptied (Modal m Done a) = Some a
emptied f = None

-- the two sides of an equation
abbrev pub equal_sides : PlainFormula → Option (PlainTerm × PlainTerm)
equal_sides (Equal t u) = Some (t, u)
equal_sides f = None
