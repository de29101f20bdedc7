-- What resolution gives of the calls of a program: each finds a case for the class of its receiver.
use Rattle.std.specs.Prelude.{None, Option, Some, false, nat_eq, true, ◌≡◌, ℕ}
use Rattle.jd_model.specs.Cases.{Case, ConstructorOf, Role, SpecifiedProgram, Static}
use Rattle.jd_model.specs.Programs.{Body, Program, is_subclass}
use Rattle.jd_syntax.specs.Names.{Name}

abbrev pub HasReceiver : Role → Type 0
HasReceiver Static = ⊥
HasReceiver r = Unit {0}

-- a body has a variable for the receiver exactly where there is one
abbrev pub ReceiverVariable : Role → Option Name → Type 0
ReceiverVariable Static None = Unit {0}
ReceiverVariable Static (Some x) = ⊥
ReceiverVariable r (Some x) = Unit {0}
ReceiverVariable r None = ⊥

-- the body that a call of the method runs on an object of the class: a constructor's own, else the one that is looked up
abbrev pub body_on : Program → Role → ℕ → ℕ → Option ℕ
body_on p (ConstructorOf a) method class = Some method
body_on p r method class = p.lookup class method

-- a case of the same contract and family for objects of exactly the class, with the body that a call runs on them
pub record CaseFor (p : SpecifiedProgram) (c : Case) (class : ℕ) : Type 0 where
  pub index : ℕ
  pub case : Case
  pub found : p.case index ≡ Some case
  pub contract_same : c.contract ≡ case.contract
  pub family_same : case.family ≡ c.family
  pub class_is : case.class ≡ class
  pub runs : body_on p.setting.program c.contract.role c.method class ≡ Some case.body

pub record CallsAreResolved (p : SpecifiedProgram) : Type 0 where
  -- the body of a case is its method's
  pub own_body : (κ : ℕ) (c : Case) → p.case κ ≡ Some c → c.body ≡ c.method
  pub receiver_variable : (κ : ℕ) (c : Case) → p.case κ ≡ Some c → (b : Body) → p.setting.program.body c.body ≡ Some b → ReceiverVariable c.contract.role b.receiver
  -- Object, whose methods arrays have too, has no method with a contract
  pub not_object : (κ : ℕ) (c : Case) → p.case κ ≡ Some c → HasReceiver c.contract.role → nat_eq c.class p.setting.program.object ≡ false
  -- the class and each class below it has a case with the same contract
  pub dispatched : (κ : ℕ) (c : Case) → p.case κ ≡ Some c → HasReceiver c.contract.role → (class : ℕ) → is_subclass p.setting.program class c.class ≡ true → CaseFor p c class
