-- A text has one list of tokens, or one first fault.
use Rattle.std.proofs.Common.{◌≡◌, inl, inr, ℕ, ◌+◌, true, false, List, [], ◌∷◌, ◌++◌, Option, Some, None, sym, subst, ◌∙◌}
use Rattle.jd_lex.specs.Parts.{Token, Part, Fault, start_of, IsOpen, jml_text, IsPlainFault}
use Rattle.jd_lex.specs.Lexing.{JmlPart, IsJmlPart, IsJmlFault, CommentGives, CommentFault, JavaPart, IsJavaPart, JavaFault, IsJavaFault}
use Rattle.jd_lex.proofs.Rows.{OnePart, OneFault, Stuck, one_whole, one_stop, not_both}
use Rattle.jd_lex.proofs.Same.{same_plain, same_line, same_block, open_not_block, plain_or_fault, one_plain_fault}
use Rattle.jd_lex.specs.declared.starts.Start.{Start}
use Rattle.jd_lex.specs.declared.starts.Start.TheVariants.{White, WordStart, NumberStart, LineComment, BlockComment, SignStart}

-- ---- JML texts

jml_same : (s : Start) (at : ℕ) (p q : Part) (behind after : List ℕ) → JmlPart s at p behind → JmlPart s at q after → p.text ++ behind ≡ q.text ++ after
    → (p.text ≡ q.text) × (p.tokens ≡ q.tokens)
jml_same White at p q behind after h k e = same_plain White true at p q behind after h k e
jml_same WordStart at p q behind after h k e = same_plain WordStart true at p q behind after h k e
jml_same NumberStart at p q behind after h k e = same_plain NumberStart true at p q behind after h k e
jml_same SignStart at p q behind after h k e = same_plain SignStart true at p q behind after h k e
jml_same LineComment at p q behind after (c, h, t) (d, k, u) e = ((same_line c p.text behind d q.text after h k e).text, t ∙ sym u)
jml_same BlockComment at p q behind after (inl (c, h, t)) (inl (d, k, u)) e = ((same_block c p.text behind d q.text after h k e).text, t ∙ sym u)
jml_same BlockComment at p q behind after (inl (c, h, t)) (inr k) e = absurd (open_not_block c p.text behind h (subst IsOpen (sym e) k.0))
jml_same BlockComment at p q behind after (inr h) (inl (d, k, u)) e = absurd (open_not_block d q.text after k (subst IsOpen e h.0))
jml_same BlockComment at p q behind after (inr h) (inr k) e = same_plain SignStart true at p q behind after h.1 k.1 e

pub one_jml_part : OnePart IsJmlPart
one_jml_part at p q behind after some some' h k e =
    jml_same (start_of true (q.text ++ after)) at p q behind after (subst (λ t. JmlPart (start_of true t) at p behind) e h) k e

jml_stuck : (s : Start) (at : ℕ) (p : Part) (behind bytes : List ℕ) (f : Fault) → bytes ≡ p.text ++ behind → JmlPart s at p behind → IsPlainFault s true at bytes f → ⊥
jml_stuck White at p behind bytes f e h k = k
jml_stuck WordStart at p behind bytes f e h k = k
jml_stuck NumberStart at p behind bytes f e h k = plain_or_fault NumberStart true at p behind bytes f e h k
jml_stuck LineComment at p behind bytes f e h k = k
jml_stuck BlockComment at p behind bytes f e h k = k
jml_stuck SignStart at p behind bytes f e h k = plain_or_fault SignStart true at p behind bytes f e h k

pub one_jml_fault : OneFault IsJmlPart IsJmlFault
one_jml_fault = record { stuck = stuck; some = λ at f h. h; only = only }
  where
    stuck : (at : ℕ) (rest : List ℕ) (f : Fault) → IsJmlFault at rest f → Stuck IsJmlPart at rest
    stuck at [] f h p behind some e part = h
    stuck at (b ∷ rest) f h p behind some e part =
        jml_stuck (start_of true (b ∷ rest)) at p behind (b ∷ rest) f e (subst (λ t. JmlPart (start_of true t) at p behind) (sym e) part) h

    only : (at : ℕ) (rest : List ℕ) (f g : Fault) → IsJmlFault at rest f → IsJmlFault at rest g → f ≡ g
    only at [] f g h k = absurd h
    only at (b ∷ rest) f g h k = one_plain_fault (start_of true (b ∷ rest)) true at (b ∷ rest) f g h k

-- ---- Java texts

same_given : (at : ℕ) (text : Option (List ℕ)) (xs ys : List Token) → CommentGives at text xs → CommentGives at text ys → xs ≡ ys
same_given at None xs ys h k = h ∙ sym k
same_given at (Some text) xs ys h k = one_whole IsJmlPart one_jml_part (at + 3) text xs ys h k

given_or_fault : (at : ℕ) (text : Option (List ℕ)) (xs : List Token) (f : Fault) → CommentGives at text xs → CommentFault at text f → ⊥
given_or_fault at None xs f h k = k
given_or_fault at (Some text) xs f h k = not_both IsJmlPart one_jml_part IsJmlFault one_jml_fault (at + 3) text xs f h k

same_inside : (at : ℕ) (text : Option (List ℕ)) (f g : Fault) → CommentFault at text f → CommentFault at text g → f ≡ g
same_inside at None f g h k = absurd h
same_inside at (Some text) f g h k = one_stop IsJmlPart one_jml_part IsJmlFault one_jml_fault (at + 3) text f g h k

java_same : (s : Start) (at : ℕ) (p q : Part) (behind after : List ℕ) → JavaPart s at p behind → JavaPart s at q after → p.text ++ behind ≡ q.text ++ after
    → (p.text ≡ q.text) × (p.tokens ≡ q.tokens)
java_same White at p q behind after h k e = same_plain White false at p q behind after h k e
java_same WordStart at p q behind after h k e = same_plain WordStart false at p q behind after h k e
java_same NumberStart at p q behind after h k e = same_plain NumberStart false at p q behind after h k e
java_same SignStart at p q behind after h k e = same_plain SignStart false at p q behind after h k e
java_same LineComment at p q behind after (c, h, t) (d, k, u) e =
    let m = same_line c p.text behind d q.text after h k e in
    (m.text, same_given at (jml_text false d) p.tokens q.tokens (subst (λ b. CommentGives at (jml_text false b) p.tokens) m.body t) u)
java_same BlockComment at p q behind after (c, h, t) (d, k, u) e =
    let m = same_block c p.text behind d q.text after h k e in
    (m.text, same_given at (jml_text true d) p.tokens q.tokens (subst (λ b. CommentGives at (jml_text true b) p.tokens) m.body t) u)

pub one_java_part : OnePart IsJavaPart
one_java_part at p q behind after some some' h k e =
    java_same (start_of false (q.text ++ after)) at p q behind after (subst (λ t. JavaPart (start_of false t) at p behind) e h) k e

java_stuck : (s : Start) (at : ℕ) (p : Part) (behind bytes : List ℕ) (f : Fault) → bytes ≡ p.text ++ behind → JavaPart s at p behind → JavaFault s at bytes f → ⊥
java_stuck White at p behind bytes f e h k = k
java_stuck WordStart at p behind bytes f e h k = k
java_stuck NumberStart at p behind bytes f e h k = plain_or_fault NumberStart false at p behind bytes f e h k
java_stuck SignStart at p behind bytes f e h k = plain_or_fault SignStart false at p behind bytes f e h k
java_stuck LineComment at p behind bytes f e (c, h, t) k =
    let m = same_line c p.text behind k.body k.text k.rest h k.comment (sym e ∙ k.joined) in
    given_or_fault at (jml_text false k.body) p.tokens f (subst (λ b. CommentGives at (jml_text false b) p.tokens) m.body t) k.inside
java_stuck BlockComment at p behind bytes f e (c, h, t) (inl k) = open_not_block c p.text behind h (subst IsOpen e k.0)
java_stuck BlockComment at p behind bytes f e (c, h, t) (inr k) =
    let m = same_block c p.text behind k.body k.text k.rest h k.comment (sym e ∙ k.joined) in
    given_or_fault at (jml_text true k.body) p.tokens f (subst (λ b. CommentGives at (jml_text true b) p.tokens) m.body t) k.inside

java_only : (s : Start) (at : ℕ) (bytes : List ℕ) (f g : Fault) → JavaFault s at bytes f → JavaFault s at bytes g → f ≡ g
java_only White at bytes f g h k = absurd h
java_only WordStart at bytes f g h k = absurd h
java_only NumberStart at bytes f g h k = one_plain_fault NumberStart false at bytes f g h k
java_only SignStart at bytes f g h k = one_plain_fault SignStart false at bytes f g h k
java_only LineComment at bytes f g h k =
    let m = same_line h.body h.text h.rest k.body k.text k.rest h.comment k.comment (sym h.joined ∙ k.joined) in
    same_inside at (jml_text false k.body) f g (subst (λ b. CommentFault at (jml_text false b) f) m.body h.inside) k.inside
java_only BlockComment at bytes f g (inl h) (inl k) = h.1 ∙ sym k.1
java_only BlockComment at bytes f g (inl h) (inr k) = absurd (open_not_block k.body k.text k.rest k.comment (subst IsOpen k.joined h.0))
java_only BlockComment at bytes f g (inr h) (inl k) = absurd (open_not_block h.body h.text h.rest h.comment (subst IsOpen h.joined k.0))
java_only BlockComment at bytes f g (inr h) (inr k) =
    let m = same_block h.body h.text h.rest k.body k.text k.rest h.comment k.comment (sym h.joined ∙ k.joined) in
    same_inside at (jml_text true k.body) f g (subst (λ b. CommentFault at (jml_text true b) f) m.body h.inside) k.inside

pub one_java_fault : OneFault IsJavaPart IsJavaFault
one_java_fault = record { stuck = stuck; some = λ at f h. h; only = only }
  where
    stuck : (at : ℕ) (rest : List ℕ) (f : Fault) → IsJavaFault at rest f → Stuck IsJavaPart at rest
    stuck at [] f h p behind some e part = h
    stuck at (b ∷ rest) f h p behind some e part =
        java_stuck (start_of false (b ∷ rest)) at p behind (b ∷ rest) f e (subst (λ t. JavaPart (start_of false t) at p behind) (sym e) part) h

    only : (at : ℕ) (rest : List ℕ) (f g : Fault) → IsJavaFault at rest f → IsJavaFault at rest g → f ≡ g
    only at [] f g h k = absurd h
    only at (b ∷ rest) f g h k = java_only (start_of false (b ∷ rest)) at (b ∷ rest) f g h k
