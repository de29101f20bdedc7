-- Files within their limits have not too many classes and members.
use Rattle.std.proofs.Common.{◌≡◌, ◌≤◌, ◌*◌, ℕ, List, [], ◌∷◌, length, map, refl, ap, arith}
use Rattle.std.specs.List.{All}
use Rattle.std.proofs.lemmas.List.Elements.{All-head, All-tail, All-weaker}
use Rattle.jd_syntax.specs.JavaTrees.{JavaMember, FieldMember, ConstantMember, MethodMember, JavaClass, JavaUnit}
use Rattle.jd_jmlparse.specs.Filled.{bare, bare_member, bare_class}
use Rattle.jd_source.specs.Sources.{IsSource}
use Rattle.jd_jclasses.specs.Classes.{DeclaredClass, declared_classes}
use Rattle.jd_jclasses.specs.Members.{declared_members}
use Rattle.jd_jlists.specs.Views.{HasFewMembers}
use Rattle.jd_jsizes.specs.Sizes.{member_size, members_size, classes_size, unit_size, files_size, TokensAreFew, TreesAreSmall, ClassesAreFew, PlacesAreFew, MembersAreFew}
use Rattle.jd_files.specs.Files.{AreTrees, file_limit}
use Rattle.jd_files.proofs.Trees.{as_many_trees}

-- ---- the clauses of JML do not count

member_bare : (m : JavaMember) → member_size (bare_member m) ≡ member_size m
member_bare (FieldMember f) = refl
member_bare (ConstantMember c) = refl
member_bare (MethodMember m) = refl

members_bare : (ms : List JavaMember) → members_size (map bare_member ms) ≡ members_size ms
members_bare [] = refl
members_bare (m ∷ ms) = omega (arith, member_bare m, members_bare ms)

classes_bare : (cs : List JavaClass) → classes_size (map bare_class cs) ≡ classes_size cs
classes_bare [] = refl
classes_bare (c ∷ cs) = omega (arith, members_bare c.members, classes_bare cs)

-- two trees that differ in them have one size
same_size : (t u : JavaUnit) → bare t ≡ bare u → unit_size t ≡ unit_size u
same_size t u same = omega (arith, classes_bare t.classes, classes_bare u.classes, ap unit_size same)

-- ---- files within their limits

small_file : TokensAreFew → TreesAreSmall → (bytes : List ℕ) (t : JavaUnit) → IsSource bytes t → unit_size t ≤ 2 * length bytes
small_file few small bytes t s =
    let less = small s.tokens s.read.file s.read.spelled.derived in
    omega (arith, less, ap unit_size s.read.is, same_size t s.java s.filled.same, few bytes s.tokens s.spelled)

small_files : TokensAreFew → TreesAreSmall → (bs : List (List ℕ)) (ts : List JavaUnit) → AreTrees bs ts → All (λ b. length b ≤ file_limit) bs → files_size ts ≤ length bs * 2097152
small_files few small [] [] are within = omega arith
small_files few small [] (t ∷ ts) are within = absurd are
small_files few small (b ∷ bs) [] are within = absurd are
small_files few small (b ∷ bs) (t ∷ ts) are within =
    omega (arith, small_file few small b t are.0, All-head (λ b. length b ≤ file_limit) b bs within, small_files few small bs ts are.1 (All-tail (λ b. length b ≤ file_limit) b bs within))

few_places : (limit : ℕ) (ds : List DeclaredClass) → limit ≤ 134217728 → All (λ d. length d.tree.members ≤ limit) ds → All (λ d. HasFewMembers d.tree) ds
few_places limit ds le all = All-weaker (λ d. length d.tree.members ≤ limit) (λ d. HasFewMembers d.tree) (λ d few. omega (arith, few, le)) ds all

-- files have not too many classes and members for their numbers
pub record AreFewParts (units : List JavaUnit) : Type 0 where
  pub files : length units ≤ 999999999
  pub classes : length (declared_classes units) ≤ 999999999
  pub places : All (λ d. HasFewMembers d.tree) (declared_classes units)
  pub members : length (declared_members units) ≤ 999999999

pub few_parts : TokensAreFew → TreesAreSmall → ClassesAreFew → PlacesAreFew → MembersAreFew → (bs : List (List ℕ)) (ts : List JavaUnit) → AreTrees bs ts → All (λ b. length b ≤ file_limit) bs → length bs ≤ 64 → AreFewParts ts
few_parts few small classes places members bs ts are within count =
    let total : files_size ts ≤ 134217728 = omega (arith, small_files few small bs ts are within, count) in
    record {
      files = omega (arith, as_many_trees bs ts are, count);
      classes = omega (arith, classes ts, total);
      places = few_places (files_size ts) (declared_classes ts) total (places ts);
      members = omega (arith, members ts, total);
    }
