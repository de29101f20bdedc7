-- A tree is filled in one way.
use Rattle.std.proofs.Common.{◌≡◌, List, [], ◌∷◌, ◌++◌, map, All, refl, sym, ap, subst, ◌∙◌}
use Rattle.std.proofs.lemmas.List.Elements.{All-cons, All-head, All-tail, All-weaker}
use Rattle.jd_lex.specs.Parts as lexed
use Rattle.jd_syntax.specs.SpecTrees.{PlainClause, PlainSpecBlock}
use Rattle.jd_syntax.specs.JavaTrees.{JavaUnit}
use Rattle.jd_syntax.specs.declared.spec.SpecPlace.{SpecPlace}
use Rattle.jd_jmlparse.specs.Parses.{Reads, IsNoSpec, IsTooDeep}
use Rattle.jd_jmlparse.specs.OneAnswer.{OneAnswer}
use Rattle.jd_jmlparse.specs.Filled.{bare_block, bare, blocks_of, block_tokens, HasClauses, Fills, IsRead, IsFirstRefused}
use Rattle.jd_jmlparse.specs.OneFilling.{OneFilling}
use Rattle.jd_jmlparse.proofs.Bare.{same_places}
use Rattle.jd_jmlparse.proofs.Blocks.{first_of, rest_of}
use Rattle.jd_jmlparse.proofs.Refilling.{same_unit}

-- ---- lists of blocks that differ in clauses alone

abbrev with_clauses : PlainSpecBlock → List PlainClause → PlainSpecBlock
with_clauses b cs = record b { clauses = cs }

same_block : OneAnswer → (ts : List lexed.Token) (b c : PlainSpecBlock) → bare_block b ≡ bare_block c → HasClauses ts b → HasClauses ts c → b ≡ c
same_block answer ts b c same has also =
    let moved : Reads b.place (block_tokens ts b) c.clauses = subst (λ (d : PlainSpecBlock). Reads d.place (block_tokens ts d) c.clauses) (sym same) also in
    let clauses : b.clauses ≡ c.clauses = answer.one_list b.place (block_tokens ts b) b.clauses c.clauses has moved in
    ap (λ d. with_clauses d b.clauses) same ∙ ap (with_clauses (bare_block c)) clauses

same_blocks : OneAnswer → (ts : List lexed.Token) (bs cs : List PlainSpecBlock) → map bare_block bs ≡ map bare_block cs → All (HasClauses ts) bs → All (HasClauses ts) cs → bs ≡ cs
same_blocks answer ts [] [] same has also = refl
same_blocks answer ts [] (c ∷ cs) same has also = cc
same_blocks answer ts (b ∷ bs) [] same has also = cc
same_blocks answer ts (b ∷ bs) (c ∷ cs) same has also =
    let one : b ≡ c = same_block answer ts b c (ap (first_of (bare_block b)) same) (All-head (HasClauses ts) b bs has) (All-head (HasClauses ts) c cs also) in
    let rest : bs ≡ cs = same_blocks answer ts bs cs (ap rest_of same) (All-tail (HasClauses ts) b bs has) (All-tail (HasClauses ts) c cs also) in
    ap (λ d. d ∷ bs) one ∙ ap (λ l. c ∷ l) rest

one_unit : OneAnswer → (ts : List lexed.Token) (unit f g : JavaUnit) → Fills ts unit f → Fills ts unit g → f ≡ g
one_unit answer ts unit f g p q =
    let same : bare f ≡ bare g = p.same ∙ sym q.same in
    same_unit f g same (same_blocks answer ts (blocks_of f) (blocks_of g) (same_places f g same) p.read q.read)

-- ---- what is read is not refused

-- a list of the same places is read
read_too : (ts : List lexed.Token) (bs cs : List PlainSpecBlock) → map bare_block bs ≡ map bare_block cs → All (IsRead ts) bs → All (IsRead ts) cs
read_too ts [] [] same all = all
read_too ts [] (c ∷ cs) same all = cc
read_too ts (b ∷ bs) [] same all = cc
read_too ts (b ∷ bs) (c ∷ cs) same all =
    let one : IsRead ts c = subst (IsRead ts) (ap (first_of (bare_block b)) same) (All-head (IsRead ts) b bs all) in
    All-cons (IsRead ts) c cs one (read_too ts bs cs (ap rest_of same) (All-tail (IsRead ts) b bs all))

blocks_read : (ts : List lexed.Token) (unit f : JavaUnit) → Fills ts unit f → All (IsRead ts) (blocks_of unit)
blocks_read ts unit f p =
    read_too ts (blocks_of f) (blocks_of unit) (same_places f unit p.same) (All-weaker (HasClauses ts) (IsRead ts) (λ b has. (b.clauses, has)) (blocks_of f) p.read)

-- no place is read and refused so
abbrev Excludes : (SpecPlace → List lexed.Token → Type 0) → Type 0
Excludes IsRefused = (place : SpecPlace) (us : List lexed.Token) (cs : List PlainClause) → Reads place us cs → IsRefused place us → ⊥

in_middle : (P : PlainSpecBlock → Type 0) (xs : List PlainSpecBlock) (b : PlainSpecBlock) (ys : List PlainSpecBlock) → All P (xs ++ b ∷ ys) → P b
in_middle P [] b ys all = All-head P b ys all
in_middle P (x ∷ xs) b ys all = in_middle P xs b ys (All-tail P x (xs ++ b ∷ ys) all)

not_read : (ts : List lexed.Token) (bs : List PlainSpecBlock) (IsRefused : SpecPlace → List lexed.Token → Type 0) → Excludes IsRefused → All (IsRead ts) bs → IsFirstRefused ts bs IsRefused → ⊥
not_read ts bs IsRefused excludes all r =
    let b = r.block in
    let read : IsRead ts b = in_middle (IsRead ts) r.before b r.behind (subst (All (IsRead ts)) r.blocks all) in
    excludes b.place (block_tokens ts b) read.0 read.1 r.refused

-- ---- one cause

-- of two blocks in a list, each refused behind blocks that are read, one is the other
meet : (ts : List lexed.Token) (P Q : SpecPlace → List lexed.Token → Type 0) → Excludes P → Excludes Q → ((place : SpecPlace) (us : List lexed.Token) → P place us → Q place us → ⊥)
    → (xs : List PlainSpecBlock) (b : PlainSpecBlock) (ys us : List PlainSpecBlock) (c : PlainSpecBlock) (vs : List PlainSpecBlock)
    → xs ++ b ∷ ys ≡ us ++ c ∷ vs → All (IsRead ts) xs → All (IsRead ts) us → P b.place (block_tokens ts b) → Q c.place (block_tokens ts c) → ⊥
meet ts P Q no_p no_q apart [] b ys [] c vs same read also p q =
    let one : b ≡ c = ap (first_of b) same in
    apart c.place (block_tokens ts c) (subst (λ (d : PlainSpecBlock). P d.place (block_tokens ts d)) one p) q
meet ts P Q no_p no_q apart [] b ys (u ∷ us) c vs same read also p q =
    let one : b ≡ u = ap (first_of b) same in
    let read_u = All-head (IsRead ts) u us also in
    no_p u.place (block_tokens ts u) read_u.0 read_u.1 (subst (λ (d : PlainSpecBlock). P d.place (block_tokens ts d)) one p)
meet ts P Q no_p no_q apart (x ∷ xs) b ys [] c vs same read also p q =
    let one : x ≡ c = ap (first_of x) same in
    let read_x = All-head (IsRead ts) x xs read in
    no_q x.place (block_tokens ts x) read_x.0 read_x.1 (subst (λ (d : PlainSpecBlock). Q d.place (block_tokens ts d)) (sym one) q)
meet ts P Q no_p no_q apart (x ∷ xs) b ys (u ∷ us) c vs same read also p q =
    meet ts P Q no_p no_q apart xs b ys us c vs (ap rest_of same) (All-tail (IsRead ts) x xs read) (All-tail (IsRead ts) u us also) p q

pub one_filling : OneAnswer → OneFilling
one_filling answer = record {
  one_unit = one_unit answer;
  no_spec = λ ts unit f p r. not_read ts (blocks_of unit) IsNoSpec answer.a_spec (blocks_read ts unit f p) r;
  not_deep = λ ts unit f p r. not_read ts (blocks_of unit) IsTooDeep answer.not_too_deep (blocks_read ts unit f p) r;
  one_cause = λ ts unit r d. meet ts IsNoSpec IsTooDeep answer.a_spec answer.not_too_deep answer.no_spec_is_not_deep r.before r.block r.behind d.before d.block d.behind (sym r.blocks ∙ d.blocks) r.read d.read r.refused d.refused;
}
