-- To prove a stable statement, what is known only not to be absent may be taken as given.
use mathlib.Core.HLevel.{Stable}

pub taken_as_given : {P A : Type 0} → Stable P → ¬ (¬ A) → (A → P) → P
taken_as_given st some use_it = st (λ no. some (λ a. no (use_it a)))

-- some value of a family, said by denial
pub one_taken : {P X : Type 0} {A : X → Type 0} → Stable P → ¬ ((x : X) → ¬ (A x)) → ((x : X) → A x → P) → P
one_taken st some use_it = st (λ no. some (λ x a. no (use_it x a)))

-- one of two, said by denial
pub branch_taken : {P A B : Type 0} → Stable P → ¬ ((¬ A) × (¬ B)) → (A → P) → (B → P) → P
branch_taken st some on_a on_b = st (λ no. some (λ a. no (on_a a), λ b. no (on_b b)))
