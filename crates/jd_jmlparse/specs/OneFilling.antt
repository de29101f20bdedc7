-- That a tree is filled in one way.
use Rattle.std.specs.Prelude.{◌≡◌, List}
use Rattle.jd_lex.specs.Parts as lexed
use Rattle.jd_syntax.specs.JavaTrees.{JavaUnit}
use Rattle.jd_jmlparse.specs.Filled.{Fills, HasNoSpec, HasDeepSpec}

-- one filled tree at most; each refusal excludes it, and the other
pub record OneFilling : Type 0 where
  pub one_unit : (ts : List lexed.Token) (unit f g : JavaUnit) → Fills ts unit f → Fills ts unit g → f ≡ g
  pub no_spec : (ts : List lexed.Token) (unit f : JavaUnit) → Fills ts unit f → HasNoSpec ts unit → ⊥
  pub not_deep : (ts : List lexed.Token) (unit f : JavaUnit) → Fills ts unit f → HasDeepSpec ts unit → ⊥
  pub one_cause : (ts : List lexed.Token) (unit : JavaUnit) → HasNoSpec ts unit → HasDeepSpec ts unit → ⊥
