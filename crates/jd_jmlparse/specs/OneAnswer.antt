-- That tokens have one answer at a place.
use Rattle.std.specs.Prelude.{◌≡◌, List}
use Rattle.jd_lex.specs.Parts as lexed
use Rattle.jd_syntax.specs.SpecTrees.{PlainClause}
use Rattle.jd_syntax.specs.declared.spec.SpecPlace.{SpecPlace}
use Rattle.jd_jmlparse.specs.Parses.{Reads, IsNoSpec, IsTooDeep}

-- one list of clauses at most; each refusal excludes what is read and the other
pub record OneAnswer : Type 0 where
  pub one_list : (place : SpecPlace) (ts : List lexed.Token) (cs ds : List PlainClause) → Reads place ts cs → Reads place ts ds → cs ≡ ds
  pub a_spec : (place : SpecPlace) (ts : List lexed.Token) (cs : List PlainClause) → Reads place ts cs → IsNoSpec place ts → ⊥
  pub not_too_deep : (place : SpecPlace) (ts : List lexed.Token) (cs : List PlainClause) → Reads place ts cs → IsTooDeep place ts → ⊥
  pub no_spec_is_not_deep : (place : SpecPlace) (ts : List lexed.Token) → IsNoSpec place ts → IsTooDeep place ts → ⊥
