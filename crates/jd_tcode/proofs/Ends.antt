-- How many parts stand behind a head.
use Rattle.std.proofs.Common.{◌≡◌, ◌≢◌, ◌<◌, ◌≤◌, List, [], ◌∷◌, length, map, Option, Some, None, refl, arith}
use Rattle.jd_syntax.specs.declared.sx.Sx.{Sx}
use Rattle.jd_syntax.specs.Sxs.{bracketed_list, sx_view}
use Rattle.jd_tgrammar.specs.NameTables.{NameTable}
use Rattle.jd_tforms.specs.Reading.{Read, with_two, behind_one, behind_two, read, reads, stmt_of}
use Rattle.jd_tforms.specs.declared.heads.StmtHead.{StmtHead}
use Rattle.jd_tforms.specs.declared.heads.StmtHead.TheVariants as stmts
use Rattle.jd_tcode.specs.Behind.{rest_of}

-- ---- fewer than a call has

pub no_behind_one : {T : Type 0} (names : NameTable) (f : Read → List Read → Option T) (xs : List Sx) → length xs < 2 → None ≡ behind_one f (rest_of (reads names (bracketed_list (map sx_view xs))))
no_behind_one names f [] n = refl
no_behind_one names f (h ∷ []) n = refl
no_behind_one names f (h ∷ a ∷ xs) n = absurd (omega (arith, n))

pub no_behind_two : {T : Type 0} (names : NameTable) (f : Read → Read → List Read → Option T) (xs : List Sx) → length xs < 3 → None ≡ behind_two f (rest_of (reads names (bracketed_list (map sx_view xs))))
no_behind_two names f [] n = refl
no_behind_two names f (h ∷ []) n = refl
no_behind_two names f (h ∷ a ∷ []) n = refl
no_behind_two names f (h ∷ a ∷ b ∷ xs) n = absurd (omega (arith, n))

pub ruleset short = (no_behind_one, no_behind_two)

-- ---- a head alone

pub alone_behind : {T : Type 0} (names : NameTable) (go : List Read → Option T) (xs : List Sx) (o : Option T) → length xs < 2 → o ≡ go [] → o ≡ go (rest_of (reads names (bracketed_list (map sx_view xs))))
alone_behind names go [] o n e = e
alone_behind names go (h ∷ []) o n e = e
alone_behind names go (h ∷ a ∷ xs) o n e = absurd (omega (arith, n))

-- ---- more than a statement has

no_four : (names : NameTable) (h : StmtHead) (a b c d : Read) (rs : List Read) → None ≡ stmt_of names (Some h) (a ∷ b ∷ c ∷ d ∷ rs)
no_four names stmts.Set a b c d rs = refl
no_four names h a b c d rs = refl

pub more_than_three : (names : NameTable) (h : StmtHead) (xs : List Sx) → 5 ≤ length xs → None ≡ stmt_of names (Some h) (rest_of (reads names (bracketed_list (map sx_view xs))))
more_than_three names h [] n = absurd (omega (arith, n))
more_than_three names h (x ∷ []) n = absurd (omega (arith, n))
more_than_three names h (x ∷ a ∷ []) n = absurd (omega (arith, n))
more_than_three names h (x ∷ a ∷ b ∷ []) n = absurd (omega (arith, n))
more_than_three names h (x ∷ a ∷ b ∷ c ∷ []) n = absurd (omega (arith, n))
more_than_three names h (x ∷ a ∷ b ∷ c ∷ d ∷ xs) n = no_four names h (read names (sx_view a)) (read names (sx_view b)) (read names (sx_view c)) (read names (sx_view d)) (reads names (bracketed_list (map sx_view xs)))

-- ---- two parts, none of which is a head

pub no_two_parts : {T : Type 0} (names : NameTable) (f : Read → Read → Option T) (xs : List Sx) → length xs ≢ 2 → None ≡ with_two f (reads names (bracketed_list (map sx_view xs)))
no_two_parts names f [] n = refl
no_two_parts names f (a ∷ []) n = refl
no_two_parts names f (a ∷ b ∷ []) n = absurd (n refl)
no_two_parts names f (a ∷ b ∷ c ∷ xs) n = refl

pub ruleset not_two = no_two_parts
