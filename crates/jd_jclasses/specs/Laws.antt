-- That files are a program's classes, or are refused for one reason; and that a class sees one method of a name.
use Rattle.std.specs.Prelude.{◌≡◌, ℕ, List}
use Rattle.jd_syntax.specs.JavaTrees.{JavaUnit}
use Rattle.jd_jclasses.specs.Methods.{IsSeen, SeesNone}
use Rattle.jd_jclasses.specs.Refusals.{Refusal, IsRefused, AreClasses}

pub record OneClassRefusal : Type 0 where
  pub one_refusal : (units : List JavaUnit) (r s : Refusal) → IsRefused units r → IsRefused units s → r ≡ s
  pub not_refused : (units : List JavaUnit) (r : Refusal) → AreClasses units → IsRefused units r → ⊥

pub record OneMethod : Type 0 where
  pub one_seen : (units : List JavaUnit) (class : ℕ) (name : List ℕ) (m n : ℕ) → AreClasses units → IsSeen units class name m → IsSeen units class name n → m ≡ n
  pub none_seen : (units : List JavaUnit) (class : ℕ) (name : List ℕ) (m : ℕ) → SeesNone units class name → IsSeen units class name m → ⊥
