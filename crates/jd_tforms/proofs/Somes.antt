-- What an optional that is there tells of its parts, and what its parts tell of it.
use Rattle.std.proofs.Common.{◌≡◌, ℕ, suc, List, [], ◌∷◌, Bool, true, false, cond, get_or, Option, Some, None, option_map, refl, subst}
use Rattle.std.specs.List.{find}
use Rattle.std.specs.Option.{option_and_then, option_or}
use Rattle.std.specs.Str.{bytes_eq}
use Rattle.std.proofs.lemmas.Slice.Eq.{bytes_eq-Decides}
use Rattle.std.proofs.lemmas.Option.{none-some}
use Rattle.jd_tforms.specs.Naming.{number_where, if_word}
use Rattle.jd_tforms.specs.Reading.{both, three, four}

pub some_same : {A : Type 0} (x y : A) → Some x ≡ Some y → x ≡ y
some_same x y e = cc

pub mapped : {A B : Type 0} (P : B → Type 0) (f : A → B) (o : Option A) (t : B) → option_map f o ≡ Some t → ((x : A) → o ≡ Some x → P (f x)) → P t
mapped P f None t e go = absurd (none-some t e)
mapped P f (Some x) t e go = subst P (some_same (f x) t e) (go x refl)

pub boths : {A B C : Type 0} (P : C → Type 0) (f : A → B → C) (a : Option A) (b : Option B) (t : C) → both f a b ≡ Some t →
    ((x : A) (y : B) → a ≡ Some x → b ≡ Some y → P (f x y)) → P t
boths P f None b t e go = absurd (none-some t e)
boths P f (Some x) b t e go = mapped P (f x) b t e (λ y is. go x y refl is)

pub threes : {A B C D : Type 0} (P : D → Type 0) (f : A → B → C → D) (a : Option A) (b : Option B) (c : Option C) (t : D) → three f a b c ≡ Some t →
    ((x : A) (y : B) (z : C) → a ≡ Some x → b ≡ Some y → c ≡ Some z → P (f x y z)) → P t
threes P f None b c t e go = absurd (none-some t e)
threes P f (Some x) b c t e go = boths P (f x) b c t e (λ y z is this. go x y z refl is this)

pub fours : {A B C D E : Type 0} (P : E → Type 0) (f : A → B → C → D → E) (a : Option A) (b : Option B) (c : Option C) (d : Option D) (t : E) → four f a b c d ≡ Some t →
    ((x : A) (y : B) (z : C) (w : D) → a ≡ Some x → b ≡ Some y → c ≡ Some z → d ≡ Some w → P (f x y z w)) → P t
fours P f None b c d t e go = absurd (none-some t e)
fours P f (Some x) b c d t e go = threes P (f x) b c d t e (λ y z w is this that. go x y z w refl is this that)

pub both_is : {A B C : Type 0} (f : A → B → C) (a : Option A) (b : Option B) (x : A) (y : B) → a ≡ Some x → b ≡ Some y → both f a b ≡ Some (f x y)
both_is f a b x y e g = rw (e, g) refl

pub three_is : {A B C D : Type 0} (f : A → B → C → D) (a : Option A) (b : Option B) (c : Option C) (x : A) (y : B) (z : C) → a ≡ Some x → b ≡ Some y → c ≡ Some z →
    three f a b c ≡ Some (f x y z)
three_is f a b c x y z e g h = rw (e, g, h) refl

pub four_is : {A B C D E : Type 0} (f : A → B → C → D → E) (a : Option A) (b : Option B) (c : Option C) (d : Option D) (x : A) (y : B) (z : C) (w : D) → a ≡ Some x →
    b ≡ Some y → c ≡ Some z → d ≡ Some w → four f a b c d ≡ Some (f x y z w)
four_is f a b c d x y z w e g h i = rw (e, g, h, i) refl

pub chained : {A B : Type 0} (f : A → Option B) (o : Option A) (t : B) → option_and_then f o ≡ Some t → (x : A) × (o ≡ Some x) × (f x ≡ Some t)
chained f None t e = absurd (none-some t e)
chained f (Some x) t e = (x, refl, e)

pub either : {A P : Type 0} (a b : Option A) (t : A) → option_or a b ≡ Some t → (a ≡ Some t → P) → (b ≡ Some t → P) → P
either None b t e left right = right e
either (Some x) b t e left right = left e

pub guarded : {A : Type 0} (b : Bool) (o : Option A) (t : A) → cond b o None ≡ Some t → (b ≡ true) × (o ≡ Some t)
guarded true o t e = (refl, e)
guarded false o t e = absurd (none-some t e)

pub parted_by : {A P : Type 0} (b : Bool) (o u : Option A) (t : A) → cond b o u ≡ Some t → (b ≡ true → o ≡ Some t → P) → (b ≡ false → u ≡ Some t → P) → P
parted_by true o u t e left right = left refl e
parted_by false o u t e left right = right refl e

-- ---- lists

pub found_number : {A : Type 0} (test : A → Bool) (xs : List A) (d : A) (k : ℕ) → number_where test xs ≡ Some k → test (get_or xs k d) ≡ true
found_number test [] d k e = absurd (none-some k e)
found_number test (x ∷ xs) d k e =
    parted_by (test x) (Some 0) (option_map suc (number_where test xs)) k e
    (λ passes is. subst (λ n. test (get_or (x ∷ xs) n d) ≡ true) (some_same 0 k is) passes)
    (λ fails is. mapped (λ n. test (get_or (x ∷ xs) n d) ≡ true) suc (number_where test xs) k is (λ j this. found_number test xs d j this))

pub found : {A : Type 0} (test : A → Bool) (xs : List A) (x : A) → find test xs ≡ Some x → test x ≡ true
found test [] x e = absurd (none-some x e)
found test (y ∷ ys) x e =
    parted_by (test y) (Some y) (find test ys) x e
    (λ passes is. subst (λ z. test z ≡ true) (some_same y x is) passes)
    (λ fails is. found test ys x is)

-- ---- bytes

pub same_bytes : (v w : List ℕ) → bytes_eq v w ≡ true → v ≡ w
same_bytes v w e = (bytes_eq-Decides v w).0 e

pub bytes_same : (v : List ℕ) → bytes_eq v v ≡ true
bytes_same v = (bytes_eq-Decides v v).1 refl

pub word_is : {A : Type 0} (v : List ℕ) (x : A) (w : List ℕ) (t : A) → if_word v x w ≡ Some t → (v ≡ w) × (x ≡ t)
word_is v x w t e = let h = guarded (bytes_eq v w) (Some x) t e in (same_bytes v w h.0, some_same x t h.1)
