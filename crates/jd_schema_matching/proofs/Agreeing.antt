-- What decides equality agrees with the exact test.
use Rattle.std.proofs.Common.{◌≡◌, ◌↔◌, Bool, true, false, IsTrue, refl, sym}
use Rattle.jd_patterns.specs.Bindings.{Test}

-- answers that say the same are one
one_answer : (a b : Bool) (X : Type 0) → (IsTrue a ↔ X) → (b ≡ true → X) → (X → b ≡ true) → a ≡ b
one_answer true b X h p q = sym (q (h.0 refl))
one_answer false false X h p q = refl
one_answer false true X h p q = h.1 (p refl)

pub agreed_by : {A : Type 0} (t : Test A) (x y : A) (b : Bool) → (IsTrue b ↔ x ≡ y) → b ≡ t.same x y
agreed_by t x y b h = one_answer b (t.same x y) (x ≡ y) h (t.decides x y).0 (t.decides x y).1
