-- At the head of a text stands one part, or a fault.
use Rattle.std.proofs.Common.{◌≡◌, ℕ, ◌<◌, Bool, true, false, ◌&&◌, ◌==◌, true≢false, List, [], ◌∷◌, ◌++◌, length, refl, sym, ap, subst, pos, ◌∙◌, append_assoc, arith}
use Rattle.std.specs.List.{list_any}
use Rattle.std.specs.Str.Parse.{digits_value}
use Rattle.jd_lex.specs.Signs.{signs, IsLongest}
use Rattle.jd_lex.specs.Bytes.{is_white, ends_line, is_digit, is_word_byte, is_at, in_line, AllOf, BeginsOther, IsRun}
use Rattle.jd_lex.specs.Parts.{Kind, Word, Number, Sign, Part, Fault, Ignored, IsWhite, IsWord, MoreDigits, IsNumeral, limit, IsLineComment, IsBlockComment, IsOpen, NoClose, one, IsPlain, IsPlainFault}
use Rattle.jd_lex.specs.declared.starts.Start.{Start}
use Rattle.jd_lex.specs.declared.starts.Start.TheVariants.{White, WordStart, NumberStart, LineComment, BlockComment, SignStart}

-- ---- runs

heads : (x y : ℕ) (xs ys : List ℕ) → x ∷ xs ≡ y ∷ ys → (x ≡ y) × (xs ≡ ys)
heads x y xs ys e = (cc, cc)

other_than : (test : ℕ → Bool) (b : ℕ) → test b ≡ true → test b ≡ false → ⊥
other_than test b t f = true≢false (sym t ∙ f)

pub same_run : (test : ℕ → Bool) (u r v q : List ℕ) → IsRun test u r → IsRun test v q → u ++ r ≡ v ++ q → (u ≡ v) × (r ≡ q)
same_run test u r v q h k = go u v h.all k.all
  where
    go : (u v : List ℕ) → AllOf test u → AllOf test v → u ++ r ≡ v ++ q → (u ≡ v) × (r ≡ q)
    go [] [] a b e = (refl, e)
    go [] (y ∷ v) a b e = absurd (other_than test y b.0 (subst (BeginsOther test) e h.longest))
    go (x ∷ u) [] a b e = absurd (other_than test x a.0 (subst (BeginsOther test) (sym e) k.longest))
    go (x ∷ u) (y ∷ v) a b e =
        let s = heads x y (u ++ r) (v ++ q) e in
        let m = go u v a.1 b.1 s.1 in
        (ap (λ t. t ∷ u) s.0 ∙ ap (λ t. y ∷ t) m.0, m.1)

same_ignored : (line : Bool) (u r v q : List ℕ) → Ignored line u r → Ignored line v q → u ++ r ≡ v ++ q → u ≡ v
same_ignored true u r v q h k e = (same_run is_at u r v q h k e).0
same_ignored false u r v q h k e = h ∙ sym k

pub same_white : (jml : Bool) (u r v q : List ℕ) → IsWhite jml u r → IsWhite jml v q → u ++ r ≡ v ++ q → u ≡ v
same_white jml u r v q h k e =
    let left : u ++ r ≡ h.white ++ (h.ats ++ r) = ap (λ t. t ++ r) h.joined ∙ append_assoc h.white h.ats r in
    let right : v ++ q ≡ k.white ++ (k.ats ++ q) = ap (λ t. t ++ q) k.joined ∙ append_assoc k.white k.ats q in
    let m = same_run is_white h.white (h.ats ++ r) k.white (k.ats ++ q) h.run k.run (sym left ∙ (e ∙ right)) in
    let line : Ignored (jml && list_any ends_line k.white) h.ats r = subst (λ w. Ignored (jml && list_any ends_line w) h.ats r) m.0 h.ignored in
    let ats = same_ignored (jml && list_any ends_line k.white) h.ats r k.ats q line k.ignored m.1 in
    h.joined ∙ (ap (λ w. w ++ h.ats) m.0 ∙ (ap (λ a. k.white ++ a) ats ∙ sym k.joined))

pub same_word : (u r v q : List ℕ) → IsWord u r → IsWord v q → u ++ r ≡ v ++ q → u ≡ v
same_word u r v q h k e =
    let s = heads h.first k.first (h.more ++ r) (k.more ++ q) (ap (λ t. t ++ r) (sym h.joined) ∙ (e ∙ ap (λ t. t ++ q) k.joined)) in
    let m = same_run is_word_byte h.more r k.more q h.run k.run s.1 in
    h.joined ∙ (ap (λ b. b ∷ h.more) s.0 ∙ (ap (λ t. k.first ∷ t) m.0 ∙ sym k.joined))

same_digits : (zero : Bool) (u r v q : List ℕ) → MoreDigits zero u r → MoreDigits zero v q → u ++ r ≡ v ++ q → u ≡ v
same_digits true u r v q h k e = h ∙ sym k
same_digits false u r v q h k e = (same_run is_digit u r v q h k e).0

pub same_numeral : (u r v q : List ℕ) → IsNumeral u r → IsNumeral v q → u ++ r ≡ v ++ q → u ≡ v
same_numeral u r v q h k e =
    let s = heads h.first k.first (h.more ++ r) (k.more ++ q) (ap (λ t. t ++ r) (sym h.joined) ∙ (e ∙ ap (λ t. t ++ q) k.joined)) in
    let m = same_digits (k.first == 48) h.more r k.more q (subst (λ b. MoreDigits (b == 48) h.more r) s.0 h.run) k.run s.1 in
    h.joined ∙ (ap (λ b. b ∷ h.more) s.0 ∙ (ap (λ t. k.first ∷ t) m ∙ sym k.joined))

-- ---- comments

pub record SameComment (c d u v : List ℕ) : Type 0 where
  pub body : c ≡ d
  pub text : u ≡ v

pub same_line : (c u r d v q : List ℕ) → IsLineComment c u r → IsLineComment d v q → u ++ r ≡ v ++ q → SameComment c d u v
same_line c u r d v q h k e =
    let both : 47 ∷ 47 ∷ (c ++ r) ≡ 47 ∷ 47 ∷ (d ++ q) = ap (λ t. t ++ r) (sym h.joined) ∙ (e ∙ ap (λ t. t ++ q) k.joined) in
    let m = same_run in_line c r d q h.run k.run (heads 47 47 (c ++ r) (d ++ q) (heads 47 47 (47 ∷ (c ++ r)) (47 ∷ (d ++ q)) both).1).1 in
    record { body = m.0; text = h.joined ∙ (ap (λ t. 47 ∷ 47 ∷ t) m.0 ∙ sym k.joined) }

tail_none : (b : ℕ) (bytes : List ℕ) → NoClose (b ∷ bytes) → NoClose bytes
tail_none b bytes h front behind e = h (b ∷ front) behind (ap (λ t. b ∷ t) e)

-- what closes at once closes nothing behind it
closed_at_once : (b : ℕ) (d r q : List ℕ) → NoClose ((b ∷ d) ++ 42 ∷ []) → 42 ∷ 47 ∷ r ≡ (b ∷ d) ++ 42 ∷ 47 ∷ q → ⊥
closed_at_once b [] r q h e =
    let s = heads 42 b (47 ∷ r) (42 ∷ 47 ∷ q) e in
    let t = heads 47 42 r (47 ∷ q) s.1 in
    let no : ⊥ = omega (arith, t.0) in no
closed_at_once b (x ∷ d) r q h e =
    let s = heads 42 b (47 ∷ r) (x ∷ (d ++ 42 ∷ 47 ∷ q)) e in
    let t = heads 47 x r (d ++ 42 ∷ 47 ∷ q) s.1 in
    h [] (d ++ 42 ∷ []) (ap (λ y. y ∷ x ∷ (d ++ 42 ∷ [])) (sym s.0) ∙ ap (λ y. 42 ∷ y ∷ (d ++ 42 ∷ [])) (sym t.0))

same_close : (c r d q : List ℕ) → NoClose (c ++ 42 ∷ []) → NoClose (d ++ 42 ∷ []) → c ++ 42 ∷ 47 ∷ r ≡ d ++ 42 ∷ 47 ∷ q → c ≡ d
same_close [] r [] q h k e = refl
same_close [] r (y ∷ d) q h k e = absurd (closed_at_once y d r q k e)
same_close (x ∷ c) r [] q h k e = absurd (closed_at_once x c q r h (sym e))
same_close (x ∷ c) r (y ∷ d) q h k e =
    let s = heads x y (c ++ 42 ∷ 47 ∷ r) (d ++ 42 ∷ 47 ∷ q) e in
    let m = same_close c r d q (tail_none x (c ++ 42 ∷ []) h) (tail_none y (d ++ 42 ∷ []) k) s.1 in
    ap (λ b. b ∷ c) s.0 ∙ ap (λ t. y ∷ t) m

-- the bytes of a block comment and what follows it
pub block_bytes : (c u r : List ℕ) → IsBlockComment c u → u ++ r ≡ 47 ∷ 42 ∷ (c ++ 42 ∷ 47 ∷ r)
block_bytes c u r h = ap (λ t. t ++ r) h.joined ∙ ap (λ t. 47 ∷ 42 ∷ t) (append_assoc c (42 ∷ 47 ∷ []) r)

pub same_block : (c u r d v q : List ℕ) → IsBlockComment c u → IsBlockComment d v → u ++ r ≡ v ++ q → SameComment c d u v
same_block c u r d v q h k e =
    let both : 47 ∷ 42 ∷ (c ++ 42 ∷ 47 ∷ r) ≡ 47 ∷ 42 ∷ (d ++ 42 ∷ 47 ∷ q) = sym (block_bytes c u r h) ∙ (e ∙ block_bytes d v q k) in
    let inner = (heads 42 42 (c ++ 42 ∷ 47 ∷ r) (d ++ 42 ∷ 47 ∷ q) (heads 47 47 (42 ∷ (c ++ 42 ∷ 47 ∷ r)) (42 ∷ (d ++ 42 ∷ 47 ∷ q)) both).1).1 in
    let m = same_close c r d q h.first k.first inner in
    record { body = m; text = h.joined ∙ (ap (λ t. 47 ∷ 42 ∷ (t ++ 42 ∷ 47 ∷ [])) m ∙ sym k.joined) }

pub open_not_block : (c u r : List ℕ) → IsBlockComment c u → IsOpen (u ++ r) → ⊥
open_not_block c u r h o =
    let both : 47 ∷ 42 ∷ (c ++ 42 ∷ 47 ∷ r) ≡ 47 ∷ 42 ∷ o.behind = sym (block_bytes c u r h) ∙ o.opening in
    let inner = (heads 42 42 (c ++ 42 ∷ 47 ∷ r) o.behind (heads 47 47 (42 ∷ (c ++ 42 ∷ 47 ∷ r)) (42 ∷ o.behind) both).1).1 in
    o.never c r (sym inner)

-- ---- signs

fronts : (u v r q : List ℕ) → length u ≡ length v → u ++ r ≡ v ++ q → u ≡ v
fronts [] [] r q l e = refl
fronts [] (y ∷ v) r q l e = let no : ⊥ = omega (arith, l) in absurd no
fronts (x ∷ u) [] r q l e = let no : ⊥ = omega (arith, l) in absurd no
fronts (x ∷ u) (y ∷ v) r q l e =
    let s = heads x y (u ++ r) (v ++ q) e in
    let m = fronts u v r q (omega (arith, l)) s.1 in
    ap (λ b. b ∷ u) s.0 ∙ ap (λ t. y ∷ t) m

pub same_sign : (table : List (List ℕ)) (u r v q : List ℕ) → IsLongest table u r → IsLongest table v q → u ++ r ≡ v ++ q → u ≡ v
same_sign table u r v q h k e =
    let a = h.longest v k.listed (q, e) in
    let b = k.longest u h.listed (r, sym e) in
    fronts u v r q (omega (arith, a, b)) e

-- ---- parts that are no comments

one_token : (jml : Bool) (at : ℕ) (u v : List ℕ) (k : List ℕ → Kind) → u ≡ v → one jml at u (k u) ≡ one jml at v (k v)
one_token jml at u v k e = ap (λ t. one jml at t (k t)) e

pub same_plain : (s : Start) (jml : Bool) (at : ℕ) (p q : Part) (behind after : List ℕ) → IsPlain s jml at p behind → IsPlain s jml at q after
    → p.text ++ behind ≡ q.text ++ after → (p.text ≡ q.text) × (p.tokens ≡ q.tokens)
same_plain White jml at p q behind after h k e = (same_white jml p.text behind q.text after h.0 k.0 e, h.1 ∙ sym k.1)
same_plain WordStart jml at p q behind after h k e =
    let m = same_word p.text behind q.text after h.0 k.0 e in (m, h.1 ∙ (one_token jml at p.text q.text Word m ∙ sym k.1))
same_plain NumberStart jml at p q behind after h k e =
    let m = same_numeral p.text behind q.text after h.0 k.0 e in (m, h.2 ∙ (ap (λ t. one jml at t (Number (pos (digits_value 10 t)))) m ∙ sym k.2))
same_plain LineComment jml at p q behind after h k e = absurd h
same_plain BlockComment jml at p q behind after h k e = absurd h
same_plain SignStart jml at p q behind after h k e =
    let m = same_sign (signs jml) p.text behind q.text after h.0 k.0 e in (m, h.1 ∙ (one_token jml at p.text q.text Sign m ∙ sym k.1))

pub plain_or_fault : (s : Start) (jml : Bool) (at : ℕ) (p : Part) (behind bytes : List ℕ) (f : Fault) → bytes ≡ p.text ++ behind → IsPlain s jml at p behind → IsPlainFault s jml at bytes f → ⊥
plain_or_fault White jml at p behind bytes f e h k = k
plain_or_fault WordStart jml at p behind bytes f e h k = k
plain_or_fault NumberStart jml at p behind bytes f e h k =
    let m = same_numeral p.text behind k.0.text k.0.rest h.0 k.0.numeral (sym e ∙ k.0.joined) in
    let le = h.1 in
    let lt = k.0.great in
    let no : ⊥ = omega (arith, le, subst (λ t. limit jml < digits_value 10 t) (sym m) lt) in no
plain_or_fault LineComment jml at p behind bytes f e h k = k
plain_or_fault BlockComment jml at p behind bytes f e h k = k
plain_or_fault SignStart jml at p behind bytes f e h k = k.0 p.text h.0.listed (behind, e)

pub one_plain_fault : (s : Start) (jml : Bool) (at : ℕ) (bytes : List ℕ) (f g : Fault) → IsPlainFault s jml at bytes f → IsPlainFault s jml at bytes g → f ≡ g
one_plain_fault White jml at bytes f g h k = absurd h
one_plain_fault WordStart jml at bytes f g h k = absurd h
one_plain_fault NumberStart jml at bytes f g h k = h.1 ∙ sym k.1
one_plain_fault LineComment jml at bytes f g h k = absurd h
one_plain_fault BlockComment jml at bytes f g h k = absurd h
one_plain_fault SignStart jml at bytes f g h k = h.1 ∙ sym k.1
