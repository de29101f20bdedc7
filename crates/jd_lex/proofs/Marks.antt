-- The byte at a fault's place, and that a text has one first fault.
use Rattle.std.proofs.Common.{◌≡◌, inl, inr, ℕ, ◌+◌, ◌<◌, Bool, true, false, cond, List, [], ◌∷◌, ◌++◌, length, get_or, Some, None, refl, sym, ap, subst, ◌∙◌, length-append, le_antisymm, arith}
use Rattle.std.proofs.lemmas.List.{get_or-append-add}
use Rattle.std.proofs.Math.ListN.{get_or-append}
use Rattle.jd_lex.specs.Bytes.{is_at, is_digit}
use Rattle.jd_lex.specs.Parts.{Part, Fault, BadByte, OpenComment, BigLiteral, place, start_of, jml_text, without_last_ats, IsPlainFault}
use Rattle.jd_lex.specs.Lexing.{Parts, Faults, Reach, Stops, IsJmlPart, IsJmlFault, CommentFault, JavaFault, IsJavaPart, IsJavaFault, IsEscape, HasFault, IsFirstFault}
use Rattle.jd_lex.proofs.Heads.{digit_range}
use Rattle.jd_lex.proofs.Steps.{begins_number}
use Rattle.jd_lex.proofs.Slices.{ats_behind}
use Rattle.jd_lex.proofs.Rows.{one_stop}
use Rattle.jd_lex.proofs.Once.{one_java_part, one_java_fault}
use Rattle.jd_lex.specs.declared.starts.Start.{Start}
use Rattle.jd_lex.specs.declared.starts.Start.TheVariants.{White, WordStart, NumberStart, LineComment, BlockComment, SignStart}

-- the byte at which a fault can be
abbrev FaultByte : Fault → ℕ → Type 0
FaultByte (BadByte at) b = Unit {0}
FaultByte (OpenComment at) b = b ≡ 47
FaultByte (BigLiteral at) b = is_digit b ≡ true

-- the fault's place is in the text that begins at the other, and such a byte stands there
pub record Marked (from : ℕ) (bytes : List ℕ) (f : Fault) : Type 0 where
  pub offset : ℕ
  pub there : place f ≡ from + offset
  pub within : offset < length bytes
  pub byte : FaultByte f (get_or bytes offset 0)

marked_behind : (front rest : List ℕ) (from : ℕ) (f : Fault) → Marked (from + length front) rest f → Marked from (front ++ rest) f
marked_behind front rest from f m =
    let long = length-append front rest in
    record {
      offset = length front + m.offset;
      there = m.there ∙ omega arith;
      within = omega (arith, long, m.within);
      byte = subst (FaultByte f) (sym (get_or-append-add front rest m.offset 0)) m.byte;
    }

marked_more : (text more : List ℕ) (from : ℕ) (f : Fault) → Marked from text f → Marked from (text ++ more) f
marked_more text more from f m =
    let long = length-append text more in
    record {
      offset = m.offset;
      there = m.there;
      within = omega (arith, long, m.within);
      byte = subst (FaultByte f) (sym (get_or-append text more 0 m.offset m.within)) m.byte;
    }

reach_marked : (R : Parts) (ps : List Part) (from : ℕ) (bytes : List ℕ) (at : ℕ) (rest : List ℕ) (f : Fault) → Reach R ps from bytes at rest → Marked at rest f → Marked from bytes f
reach_marked R [] from bytes at rest f h m = subst (λ n. Marked n bytes f) (sym h.0) (subst (λ s. Marked at s f) (sym h.1) m)
reach_marked R (p ∷ ps) from bytes at rest f (some, behind, is, part, more) m =
    subst (λ s. Marked from s f) (sym is) (marked_behind p.text behind from f (reach_marked R ps (from + length p.text) behind at rest f more m))

stops_marked : (R : Parts) (F : Faults) → ((at : ℕ) (rest : List ℕ) (f : Fault) → F at rest f → Marked at rest f) → (from : ℕ) (bytes : List ℕ) (f : Fault) → Stops R F from bytes f → Marked from bytes f
stops_marked R F marks from bytes f s = reach_marked R s.leads.parts from bytes s.at s.rest f s.leads.reach (marks s.at s.rest f s.here)

-- a fault at the head
at_head : (b : ℕ) (bytes : List ℕ) (at : ℕ) (f g : Fault) → f ≡ g → place g ≡ at → FaultByte g b → Marked at (b ∷ bytes) f
at_head b bytes at f g is here byte = subst (Marked at (b ∷ bytes)) (sym is) (record { offset = 0; there = omega (arith, here); within = omega arith; byte = byte })

plain_marked : (s : Start) (jml : Bool) (at b : ℕ) (bytes : List ℕ) (f : Fault) → start_of jml (b ∷ bytes) ≡ s → IsPlainFault s jml at (b ∷ bytes) f → Marked at (b ∷ bytes) f
plain_marked White jml at b bytes f is h = absurd h
plain_marked WordStart jml at b bytes f is h = absurd h
plain_marked NumberStart jml at b bytes f is h = at_head b bytes at f (BigLiteral at) h.1 refl (begins_number jml (b ∷ bytes) is)
plain_marked LineComment jml at b bytes f is h = absurd h
plain_marked BlockComment jml at b bytes f is h = absurd h
plain_marked SignStart jml at b bytes f is h = at_head b bytes at f (BadByte at) h.1 refl tt

jml_marked : (at : ℕ) (rest : List ℕ) (f : Fault) → IsJmlFault at rest f → Marked at rest f
jml_marked at [] f h = absurd h
jml_marked at (b ∷ rest) f h = plain_marked (start_of true (b ∷ rest)) true at b rest f refl h

text_marked : (block : Bool) (at : ℕ) (text : List ℕ) (f : Fault) → Stops IsJmlPart IsJmlFault at (cond block (without_last_ats text) text) f → Marked at text f
text_marked true at text f s =
    let (ats, is) = ats_behind text in
    subst (λ t. Marked at t f) (sym is) (marked_more (without_last_ats text) ats at f (stops_marked IsJmlPart IsJmlFault jml_marked at (without_last_ats text) f s))
text_marked false at text f s = stops_marked IsJmlPart IsJmlFault jml_marked at text f s

comment_marked : (block : Bool) (at : ℕ) (body : List ℕ) (f : Fault) → CommentFault at (jml_text block body) f → Marked (at + 2) body f
comment_marked block at [] f h = absurd h
comment_marked block at (b ∷ text) f h = go (is_at b) h
  where
    go : (v : Bool) → CommentFault at (cond v (Some (cond block (without_last_ats text) text)) None) f → Marked (at + 2) (b ∷ text) f
    go true s =
        let three : at + 3 ≡ at + 2 + length (b ∷ []) = omega arith in
        marked_behind (b ∷ []) text (at + 2) f (subst (λ n. Marked n text f) three (text_marked block (at + 3) text f s))
    go false none = absurd none

java_by : (s : Start) (at b : ℕ) (bytes : List ℕ) (f : Fault) → start_of false (b ∷ bytes) ≡ s → JavaFault s at (b ∷ bytes) f → Marked at (b ∷ bytes) f
java_by White at b bytes f is h = absurd h
java_by WordStart at b bytes f is h = absurd h
java_by NumberStart at b bytes f is h = plain_marked NumberStart false at b bytes f is h
java_by SignStart at b bytes f is h = plain_marked SignStart false at b bytes f is h
java_by LineComment at b bytes f is h =
    subst (λ s. Marked at s f) (sym h.joined)
    (marked_more h.text h.rest at f (subst (λ s. Marked at s f) (sym h.comment.joined) (marked_behind (47 ∷ 47 ∷ []) h.body at f (comment_marked false at h.body f h.inside))))
java_by BlockComment at b bytes f is (inl h) =
    at_head b bytes at f (OpenComment at) h.1 refl (ap (λ t. get_or t 0 0) h.0.opening)
java_by BlockComment at b bytes f is (inr h) =
    subst (λ s. Marked at s f) (sym h.joined)
    (marked_more h.text h.rest at f (subst (λ s. Marked at s f) (sym h.comment.joined)
    (marked_behind (47 ∷ 42 ∷ []) (h.body ++ 42 ∷ 47 ∷ []) at f (marked_more h.body (42 ∷ 47 ∷ []) (at + 2) f (comment_marked true at h.body f h.inside)))))

java_marked : (at : ℕ) (rest : List ℕ) (f : Fault) → IsJavaFault at rest f → Marked at rest f
java_marked at [] f h = absurd h
java_marked at (b ∷ rest) f h = java_by (start_of false (b ∷ rest)) at b rest f refl h

-- a fault at a backslash is that of a byte
at_backslash : (f : Fault) (k b : ℕ) → place f ≡ k → b ≡ 92 → FaultByte f b → f ≡ BadByte k
at_backslash (BadByte n) k b here is h = ap BadByte here
at_backslash (OpenComment n) k b here is h = let no : ⊥ = omega (arith, is, h) in absurd no
at_backslash (BigLiteral n) k b here is h = let r = digit_range b h in let no : ⊥ = omega (arith, is, r.1) in absurd no

stop_at_escape : (bytes : List ℕ) (f : Fault) (k : ℕ) → Stops IsJavaPart IsJavaFault 0 bytes f → IsEscape bytes k → place f ≡ k → f ≡ BadByte k
stop_at_escape bytes f k s e here =
    let m = stops_marked IsJavaPart IsJavaFault java_marked 0 bytes f s in
    let same : m.offset ≡ k = omega (arith, m.there, here) in
    at_backslash f k (get_or bytes k 0) here e.backslash (subst (λ n. FaultByte f (get_or bytes n 0)) same m.byte)

same_fault : (bytes : List ℕ) (f g : Fault) → HasFault bytes f → HasFault bytes g → place f ≡ place g → f ≡ g
same_fault bytes f g (inl s) (inl t) e = one_stop IsJavaPart one_java_part IsJavaFault one_java_fault 0 bytes f g s t
same_fault bytes f g (inl s) (inr (k, esc, is)) e = stop_at_escape bytes f k s esc (e ∙ ap place is) ∙ sym is
same_fault bytes f g (inr (k, esc, is)) (inl t) e = is ∙ sym (stop_at_escape bytes g k t esc (sym e ∙ ap place is))
same_fault bytes f g (inr (k, esc, is)) (inr (l, esc', is')) e = is ∙ (ap BadByte (sym (ap place is) ∙ (e ∙ ap place is')) ∙ sym is')

pub one_first : (bytes : List ℕ) (f g : Fault) → IsFirstFault bytes f → IsFirstFault bytes g → f ≡ g
one_first bytes f g h k = same_fault bytes f g h.there k.there (le_antisymm (h.first g k.there) (k.first f h.there))
