-- A worked example: the cases of
--
--     class A { A() {..} int m() {..} static int s() {..} }
--     class B extends A { B() {} int m() {..} int n() {..} }
--     class C extends B { int v() {..} }
--
-- where A's constructor has one case, A's m two, s one, B's m one, v one, and the others none.
use Rattle.std.specs.Prelude.{◌≡◌, ℕ, true, false, Bool, nat_eq, nat_lt, List, [], ◌∷◌, map, if◌then◌else◌, Option, Some, None, codes}
use Rattle.std.specs.Str.{bytes_eq}
use Rattle.jd_syntax.specs.JavaTypes.{PlainIdentifier, IntType}
use Rattle.jd_syntax.specs.SpecTrees.{PlainClause, Requires, Also, PlainSpecBlock, Boolean}
use Rattle.jd_syntax.specs.declared.spec.SpecPlace.TheVariants.{Method as BeforeMethod}
use Rattle.jd_syntax.specs.JavaTrees.{JavaClass, JavaMember, JavaResult, MethodMember, Gives, OfConstructor, JavaUnit}
use Rattle.jd_bodies.specs.declared.value.ValueType.TheVariants as types
use Rattle.jd_bodies.specs.Declarations.{Declarations}
use Rattle.jd_jml_meaning.specs.JmlCases.{JmlCase}
use Rattle.jd_programs.specs.Cases.{all_cases}
use Rattle.jd_programs.specs.Members.{constructors_run, methods_seen}

abbrev pub ident : List ℕ → PlainIdentifier
ident name = record { at = 0; name = name }

-- so many cases
abbrev pub case_clauses : List ℕ → List PlainClause
case_clauses [] = []
case_clauses (n ∷ []) = Requires 0 (Boolean 0 true) ∷ []
case_clauses (n ∷ ns) = Requires 0 (Boolean 0 true) ∷ Also 0 ∷ case_clauses ns

abbrev pub contract : List ℕ → List PlainSpecBlock
contract ns = record { place = BeforeMethod; from = 0; to = 0; clauses = case_clauses ns } ∷ []

abbrev pub member : Bool → JavaResult → List ℕ → List ℕ → JavaMember
member static result name cases = MethodMember (record { at = 0; specs = contract cases; is_static = static; result = result; name = ident name; parameters = []; body = [] })

abbrev pub gives_int : JavaResult
gives_int = Gives (record { at = 0; written = IntType })

abbrev pub class : List ℕ → Option PlainIdentifier → List JavaMember → JavaClass
class name parent members = record { at = 0; name = ident name; parent = parent; members = members; end = None }

abbrev pub units : List JavaUnit
units =
    record {
      classes =
          class (codes "A") None (member false OfConstructor (codes "A") (1 ∷ []) ∷ member false gives_int (codes "m") (1 ∷ 2 ∷ []) ∷ member true gives_int (codes "s") (1 ∷ []) ∷ [])
          ∷ class (codes "B") (Some (ident (codes "A"))) (member false OfConstructor (codes "B") [] ∷ member false gives_int (codes "m") (1 ∷ []) ∷ member false gives_int (codes "n") [] ∷ [])
          ∷ class (codes "C") (Some (ident (codes "B"))) (member false gives_int (codes "v") (1 ∷ []) ∷ [])
          ∷ [];
    }
    ∷ []

-- A has the number 10, B 11, C 12; routines are A 0, A.m 1, s 2, B 3, B.m 4, n 5, v 6
abbrev pub lineage : ℕ → List ℕ
lineage c = if nat_eq c 0 then (0 ∷ []) else if nat_eq c 10 then (0 ∷ 10 ∷ []) else if nat_eq c 11 then (0 ∷ 10 ∷ 11 ∷ []) else if nat_eq c 12 then (0 ∷ 10 ∷ 11 ∷ 12 ∷ []) else (0 ∷ [])

abbrev pub numbers : List (List ℕ × ℕ) → List ℕ → Option ℕ
numbers [] x = None
numbers (n ∷ ns) x = if bytes_eq n.0 x then Some n.1 else numbers ns x

abbrev pub declarations : Declarations
declarations = record {
  class_named = λ x. None;
  parent = λ c. None;
  is_subclass = λ a b. false;
  joined = λ a b. 0;
  variable = λ c x. None;
  method = λ c.
      if nat_lt c 10 then numbers []
      else if nat_eq c 10 then numbers ((codes "m", 1) ∷ (codes "s", 2) ∷ [])
      else if nat_eq c 11 then numbers ((codes "m", 4) ∷ (codes "s", 2) ∷ (codes "n", 5) ∷ [])
      else numbers ((codes "m", 4) ∷ (codes "s", 2) ∷ (codes "n", 5) ∷ (codes "v", 6) ∷ []);
  constructor = λ c. None;
  signature = λ m. record { class = 0; static = false; parameters = []; result = Some types.Int };
}

-- each method a family of its own, but for the two that are called m
abbrev pub family : ℕ → ℕ
family m = if nat_eq m 4 then 1 else m

-- the class, the method and the number of a case
abbrev pub key : JmlCase → ℕ × ℕ × ℕ
key c = (c.class, c.method, c.number)

pub record CaseExamples : Type 0 where
  pub constructors : constructors_run units lineage 12 ≡ 0 ∷ 3 ∷ []
  pub of_a : methods_seen units lineage declarations 10 ≡ 1 ∷ 2 ∷ []
  -- B's own m stands where A's does, and A's static method is none of its
  pub of_b : methods_seen units lineage declarations 11 ≡ 4 ∷ 5 ∷ []
  pub of_c : methods_seen units lineage declarations 12 ≡ 4 ∷ 5 ∷ 6 ∷ []
  pub of_object : methods_seen units lineage declarations 0 ≡ []
  -- constructors first; m has both cases of A's before its own
  pub cases :
      map key (all_cases units lineage declarations family)
      ≡ (10, 0, 1)
      ∷ (10, 1, 1)
      ∷ (10, 1, 2)
      ∷ (10, 2, 1)
      ∷ (11, 0, 1)
      ∷ (11, 4, 1)
      ∷ (11, 4, 2)
      ∷ (11, 4, 3)
      ∷ (12, 0, 1)
      ∷ (12, 4, 1)
      ∷ (12, 4, 2)
      ∷ (12, 4, 3)
      ∷ (12, 6, 1)
      ∷ []
