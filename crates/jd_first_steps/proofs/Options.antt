-- What is so of an optional value is so of the value.
use Rattle.std.proofs.Common.{◌≡◌, Option, Some, None, subst}
use Rattle.std.specs.Option.{IfSome}

pub no_some : {A : Type 0} {x : A} → None ≡ Some x → ⊥
no_some h = cc

pub some_same : {A : Type 0} {x y : A} → Some x ≡ Some y → x ≡ y
some_same h = cc

pub if_found : {A : Type 0} (P : A → Type 0) (o : Option A) (x : A) → o ≡ Some x → IfSome o P → P x
if_found P o x e h = subst (λ q. IfSome q P) e h
