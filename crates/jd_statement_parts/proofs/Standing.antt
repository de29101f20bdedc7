-- What there is, and what is in scope.
use Rattle.std.proofs.Common.{◌≡◌, ◌-◌, ℕ, List, ◌∷◌, ◌++◌, drop, length, ap, ◌∙◌, subst, arith}
use Rattle.std.proofs.Math.Seq.{drop-append_seam}
use Rattle.std.proofs.lemmas.List.{length-append}
use Rattle.jd_bodies.specs.Scopes.{Local, Scope}
use Rattle.jd_naming.specs.Marks.{left_at, marked}
use Rattle.jd_naming.specs.declared.scope.Mark.{Mark}
use Rattle.jd_bodies.specs.Statements.{with_local}
use Rattle.jd_bodies.specs.Variables as plain
use Rattle.jd_bodies.specs.declared.value.ValueType.{ValueType}
use Rattle.jd_code_makers.specs.Held.{Holds, Works}
use Rattle.jd_code_makers.specs.declared.progress.Progress.{Progress}
use Rattle.jd_statement_parts.specs.Standing.{Stands, local_of}

pub there : (p : Progress) (s ls : List Local) (q : plain.Progress) → Stands p s q ls → Holds p q
there p s ls q h = record { held = λ w. (h.held w).0 }

-- nothing is known where memory ran out
pub nothing_known : (p : Progress) (s ls : List Local) (q : plain.Progress) → (Works p → ⊥) → Stands p s q ls
nothing_known p s ls q out = record { held = λ w. absurd (out w) }

-- what goes on where memory has sufficed so far, with the same in scope
pub goes_on : (F : List Local → plain.Progress) (p r : Progress) (s ls : List Local) (q : plain.Progress) → Works p → Stands p s q ls → (Holds p q → Holds r (F s)) → Stands r s (F ls) ls
goes_on F p r s ls q works h next =
    let same = (h.held works).1 in
    let held = subst (λ l. Holds r (F l)) same (next (there p s ls q h)) in
    record { held = λ w. (held.held w, same) }

-- what is made there
pub is_made : (V : List Local → Type 0) (p : Progress) (s ls : List Local) (q : plain.Progress) → Works p → Stands p s q ls → (Holds p q → V s) → V ls
is_made V p s ls q works h next = subst V (h.held works).1 (next (there p s ls q h))

-- what goes on in a progress that has the same in scope
pub moves_on : (p r : Progress) (s ls : List Local) (q t : plain.Progress) → (Works r → Works p) → Stands p s q ls → (Holds p q → Holds r t) → Stands r s t ls
moves_on p r s ls q t back h next =
    let held = next (there p s ls q h) in
    record { held = λ w. (held.held w, (h.held (back w)).1) }

-- as much as was in scope is left of what is
dropped_all : {A : Type 0} (xs ys : List A) → drop (length (xs ++ ys) - length ys) (xs ++ ys) ≡ ys
dropped_all xs ys =
    let same : length (xs ++ ys) - length ys ≡ length xs = (let sum = length-append xs ys in omega arith) in
    ap (λ n. drop n (xs ++ ys)) same ∙ drop-append_seam xs ys

-- what was in scope at the mark is in scope again
pub left : (p r : Progress) (before after last : Scope) (ls ks : List Local) (q t : plain.Progress) (mark : Mark) → (Works r → Works p) → Stands p before.locals q ls → Stands r after.locals t ks
    → (inner : List Local) × (ks ≡ inner ++ ls) → mark ≡ marked before → last ≡ left_at mark after → Stands r last.locals t ls
left p r before after last ls ks q t mark back h k within marked_at left_there = record { held = λ w. ((k.held w).0, same w) }
  where
    same : Works r → last.locals ≡ ls
    same w =
        let old = (h.held (back w)).1 in
        let new = (k.held w).1 ∙ within.1 in
        ap (λ (s : Scope). s.locals) left_there
        ∙ ap (λ (m : Mark). drop (length after.locals - m.locals) after.locals) marked_at
        ∙ ap (λ (l : List Local). drop (length after.locals - length l) after.locals) old
        ∙ ap (λ (l : List Local). drop (length l - length ls) l) new
        ∙ dropped_all within.0 ls

-- one more in scope
pub one_more : (p r : Progress) (before after : Scope) (ls : List Local) (q : plain.Progress) (x : List ℕ) (t : ValueType) → (Works r → Works p) → Stands p before.locals q ls → (Holds p q → Holds r (plain.with_local x t q)) → after ≡ with_local x t before
    → Stands r after.locals (plain.with_local x t q) (local_of x t ∷ ls)
one_more p r before after ls q x t back h next entered =
    let held = next (there p before.locals ls q h) in
    record { held = λ w. (held.held w, ap (λ (s : Scope). s.locals) entered ∙ ap (λ (l : List Local). local_of x t ∷ l) (h.held (back w)).1) }
