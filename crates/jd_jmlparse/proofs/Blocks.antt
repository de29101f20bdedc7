-- What is known after a block.
use Rattle.std.proofs.Common.{◌≡◌, List, [], ◌∷◌, ◌++◌, Some, None, All, map, refl, sym, ap, subst, ◌∙◌}
use Rattle.std.proofs.lemmas.List.{append_assoc}
use Rattle.std.proofs.lemmas.List.Elements.{All-cons, All-head, All-nil, All-push, All-tail, All-weaker}
use Rattle.jd_lex.specs.Parts as lexed
use Rattle.jd_syntax.specs.SpecTrees.{PlainSpecBlock}
use Rattle.jd_syntax.specs.declared.spec.SpecPlace.{SpecPlace}
use Rattle.jd_jparse.specs.declared.refusal.ParseRefusal.{ParseRefusal}
use Rattle.jd_jparse.specs.declared.refusal.ParseRefusal.TheVariants as refusals
use Rattle.jd_jmlparse.specs.Parses.{Refuses}
use Rattle.jd_jmlparse.specs.Filled.{AreNotFilled, HasClauses, IsFirstRefused, IsRead, bare_block, block_tokens}
use Rattle.jd_jmlparse.specs.Filling.{Goes, refusal_of}
use Rattle.jd_jmlparse.specs.declared.fill.refused.Cause.{Cause}

further : (ts : List lexed.Token) (P : SpecPlace → List lexed.Token → Type 0) (xs ys : List PlainSpecBlock) → IsFirstRefused ts xs P → IsFirstRefused ts (xs ++ ys) P
further ts P xs ys r = record {
  before = r.before;
  block = r.block;
  behind = r.behind ++ ys;
  blocks = ap (λ l. l ++ ys) r.blocks ∙ append_assoc r.before (r.block ∷ r.behind) ys;
  read = r.read;
  refused = r.refused;
}

still_refused : (ts : List lexed.Token) (e : ParseRefusal) (xs ys : List PlainSpecBlock) → AreNotFilled ts xs e → AreNotFilled ts (xs ++ ys) e
still_refused ts (refusals.Syntax file at) xs ys r = further ts (λ place us. Refuses place us (refusals.Syntax file at)) xs ys r
still_refused ts (refusals.Unsupported file at what) xs ys r = further ts (λ place us. Refuses place us (refusals.Unsupported file at what)) xs ys r
still_refused ts (refusals.TooDeep file at) xs ys r = further ts (λ place us. Refuses place us (refusals.TooDeep file at)) xs ys r
still_refused ts refusals.NoMemory xs ys r = r

-- a block behind one that is refused says nothing
pub passes : (ts : List lexed.Token) (cause : Cause) (bs : List PlainSpecBlock) → Goes ts (Some cause) bs (Some cause)
passes ts cause bs = record { known = λ xs k. still_refused ts (refusal_of cause) xs bs k }

-- a block that is read
pub reads : (ts : List lexed.Token) (b : PlainSpecBlock) → HasClauses ts b → Goes ts None (b ∷ []) None
reads ts b has = record { known = λ xs k. All-push (HasClauses ts) xs b k has }

now_refused : (ts : List lexed.Token) (P : SpecPlace → List lexed.Token → Type 0) (xs : List PlainSpecBlock) (b : PlainSpecBlock) → All (HasClauses ts) xs → P b.place (block_tokens ts b) → IsFirstRefused ts (xs ++ b ∷ []) P
now_refused ts P xs b all p = record {
  before = xs;
  block = b;
  behind = [];
  blocks = refl;
  read = All-weaker (HasClauses ts) (IsRead ts) (λ c has. (c.clauses, has)) xs all;
  refused = p;
}

now_not_filled : (ts : List lexed.Token) (e : ParseRefusal) (xs : List PlainSpecBlock) (b : PlainSpecBlock) → All (HasClauses ts) xs → Refuses b.place (block_tokens ts b) e → AreNotFilled ts (xs ++ b ∷ []) e
now_not_filled ts (refusals.Syntax file at) xs b all p = now_refused ts (λ place us. Refuses place us (refusals.Syntax file at)) xs b all p
now_not_filled ts (refusals.Unsupported file at what) xs b all p = absurd p
now_not_filled ts (refusals.TooDeep file at) xs b all p = now_refused ts (λ place us. Refuses place us (refusals.TooDeep file at)) xs b all p
now_not_filled ts refusals.NoMemory xs b all p = p

-- a block that is refused behind those that are read
pub refuses : (ts : List lexed.Token) (b : PlainSpecBlock) (cause : Cause) → Refuses b.place (block_tokens ts b) (refusal_of cause) → Goes ts None (b ∷ []) (Some cause)
refuses ts b cause r = record { known = λ xs k. now_not_filled ts (refusal_of cause) xs b k r }

-- ---- blocks at the same places

abbrev pub first_of : PlainSpecBlock → List PlainSpecBlock → PlainSpecBlock
first_of b [] = b
first_of b (c ∷ bs) = c

abbrev pub rest_of : List PlainSpecBlock → List PlainSpecBlock
rest_of [] = []
rest_of (b ∷ bs) = bs

refused_behind : (ts : List lexed.Token) (P : SpecPlace → List lexed.Token → Type 0) (xs : List PlainSpecBlock) (b : PlainSpecBlock) (ys cs : List PlainSpecBlock)
    → map bare_block (xs ++ b ∷ ys) ≡ map bare_block cs → All (IsRead ts) xs → P b.place (block_tokens ts b) → IsFirstRefused ts cs P
refused_behind ts P [] b ys [] same all p = cc
refused_behind ts P [] b ys (c ∷ cs) same all p = record {
  before = [];
  block = c;
  behind = cs;
  blocks = refl;
  read = All-nil (IsRead ts);
  refused = subst (λ (d : PlainSpecBlock). P d.place (block_tokens ts d)) (ap (first_of (bare_block b)) same) p;
}
refused_behind ts P (x ∷ xs) b ys [] same all p = cc
refused_behind ts P (x ∷ xs) b ys (c ∷ cs) same all p =
    let r = refused_behind ts P xs b ys cs (ap rest_of same) (All-tail (IsRead ts) x xs all) p in
    record {
      before = c ∷ r.before;
      block = r.block;
      behind = r.behind;
      blocks = ap (λ l. c ∷ l) r.blocks;
      read = All-cons (IsRead ts) c r.before (subst (IsRead ts) (ap (first_of (bare_block x)) same) (All-head (IsRead ts) x xs all)) r.read;
      refused = r.refused;
    }

refused_there : (ts : List lexed.Token) (P : SpecPlace → List lexed.Token → Type 0) (bs cs : List PlainSpecBlock) → map bare_block bs ≡ map bare_block cs → IsFirstRefused ts bs P → IsFirstRefused ts cs P
refused_there ts P bs cs same r = refused_behind ts P r.before r.block r.behind cs (ap (map bare_block) (sym r.blocks) ∙ same) r.read r.refused

pub not_filled_there : (ts : List lexed.Token) (e : ParseRefusal) (bs cs : List PlainSpecBlock) → map bare_block bs ≡ map bare_block cs → AreNotFilled ts bs e → AreNotFilled ts cs e
not_filled_there ts (refusals.Syntax file at) bs cs same r = refused_there ts (λ place us. Refuses place us (refusals.Syntax file at)) bs cs same r
not_filled_there ts (refusals.Unsupported file at what) bs cs same r = refused_there ts (λ place us. Refuses place us (refusals.Unsupported file at what)) bs cs same r
not_filled_there ts (refusals.TooDeep file at) bs cs same r = refused_there ts (λ place us. Refuses place us (refusals.TooDeep file at)) bs cs same r
not_filled_there ts refusals.NoMemory bs cs same r = r
