-- The relations of the walk.
use Rattle.std.proofs.Common.{List, [], ◌++◌, Option, sym, subst}
use Rattle.std.proofs.lemmas.List.{append-nil, append_assoc}
use Rattle.jd_lex.specs.Parts as lexed
use Rattle.jd_syntax.specs.SpecTrees.{PlainSpecBlock}
use Rattle.jd_jmlparse.specs.Filling.{Goes, Knows}
use Rattle.jd_jmlparse.specs.declared.fill.refused.Cause.{Cause}

pub goes_nowhere : (ts : List lexed.Token) (a : Option Cause) → Goes ts a [] a
goes_nowhere ts a = record { known = λ before k. subst (Knows ts a) (sym (append-nil before)) k }

pub goes_on : (ts : List lexed.Token) (a b c : Option Cause) (xs ys : List PlainSpecBlock) → Goes ts a xs b → Goes ts b ys c → Goes ts a (xs ++ ys) c
goes_on ts a b c xs ys g h = record { known = λ before k. subst (Knows ts c) (append_assoc before xs ys) (h.known (before ++ xs) (g.known before k)) }

pub ruleset going = (goes_nowhere, goes_on)
