-- A unit that was gone over is filled, or its first block that is refused is known.
use Rattle.std.proofs.Common.{◌≡◌, List, [], Some, None, sym, subst}
use Rattle.std.proofs.lemmas.List.Elements.{All-nil}
use Rattle.jd_lex.specs.Parts as lexed
use Rattle.jd_syntax.specs.JavaTrees.{JavaUnit}
use Rattle.jd_jparse.specs.declared.refusal.ParseRefusal.{ParseRefusal}
use Rattle.jd_jmlparse.specs.Filled.{Fills, HasClauses, IsNotFilled, bare, blocks_of}
use Rattle.jd_jmlparse.specs.Filling.{Goes, refusal_of}
use Rattle.jd_jmlparse.specs.declared.fill.refused.Cause.{Cause}
use Rattle.jd_jmlparse.proofs.Bare.{same_places}
use Rattle.jd_jmlparse.proofs.Blocks.{not_filled_there}

pub fills : (ts : List lexed.Token) (unit new : JavaUnit) → bare new ≡ bare unit → Goes ts None (blocks_of new) None → Fills ts unit new
fills ts unit new same goes = record { same = same; read = goes.known [] (All-nil (HasClauses ts)) }

pub refused : (ts : List lexed.Token) (unit new : JavaUnit) (cause : Cause) (e : ParseRefusal) → bare new ≡ bare unit → Goes ts None (blocks_of new) (Some cause) → e ≡ refusal_of cause → IsNotFilled ts unit e
refused ts unit new cause e same goes is =
    subst (IsNotFilled ts unit) (sym is) (not_filled_there ts (refusal_of cause) (blocks_of new) (blocks_of unit) (same_places new unit same) (goes.known [] (All-nil (HasClauses ts))))
