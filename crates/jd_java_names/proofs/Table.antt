-- What the nodes of each production have, in the order of the productions.
use Rattle.std.proofs.Common.{◌≡◌, ℕ, ◌+◌, List, [], ◌∷◌, ◌++◌, Bool, true, false, length, take, drop, refl, sym, subst, true≢false, arith}
use Rattle.std.specs.List.{list_all}
use Rattle.std.proofs.lemmas.Bool.{and_parts}
use Rattle.jd_grammar.specs.Grammars.{Production}
use Rattle.jd_grammar.specs.declared.piles.NodeParts.{NodeParts}
use Rattle.jd_grammar.specs.declared.table.Symbol.{Symbol}
use Rattle.jd_grammar.specs.declared.table.Symbol.TheVariants.{Token, Name}
use Rattle.jd_java_grammar.specs.Productions.{java_productions}
use Rattle.jd_java_grammar.specs.declared.kinds.TheConstants as kinds
use Rattle.jd_java_tokens.specs.Contents.{PlainLexeme}
use Rattle.jd_java_tokens.specs.Heads.{place_of, text_of}
use Rattle.jd_java_values.specs.Values.{PlainValue, Nothing}
use Rattle.jd_java_values.specs.Parts.{static_of, blocks_of, members_of, end_of, classes_of}
use Rattle.jd_java_trees.specs.Meaning.{action_of, meaning_by}
use Rattle.jd_names.specs.Identifiers.{is_identifier}
use Rattle.jd_java_names.proofs.Every.{every_append}
use Rattle.jd_java_names.proofs.Named.{MemberIsNamed, ClassIsNamed, Role, Other, Classes, Members, Declaration, IntDeclaration, BehindName, More, Names, Identifier, has_role, role_of, Shown}
use Rattle.jd_java_names.proofs.Shapes.{body_named, member_named, int_named, behind_named}

abbrev pub rest : NodeParts PlainValue → NodeParts PlainValue
rest parts = record { first = parts.second; second = parts.third; third = parts.fourth; fourth = Nothing }

-- the parts of a node have what their names say
abbrev pub Fits : List Symbol → NodeParts PlainValue → Type 0
Fits [] parts = Unit {0}
Fits (Token kind ∷ ss) parts = Fits ss parts
Fits (Name a ∷ ss) parts = Shown a parts.first × Fits ss (rest parts)

-- where a node begins with an identifier, its first token is one
abbrev pub BeginsSo : List Symbol → List PlainLexeme → Type 0
BeginsSo [] ts = Unit {0}
BeginsSo (Token kind ∷ ss) ts = kind ≡ kinds.IDENTIFIER → is_identifier (text_of ts) ≡ true
BeginsSo (Name a ∷ ss) ts = Unit {0}

-- then so has a node of that production
abbrev pub Shows : ℕ → Production → Type 0
Shows n r = (ts : List PlainLexeme) (parts : NodeParts PlainValue) → Fits r.body parts → BeginsSo r.body ts → Shown r.head (meaning_by (action_of n) ts parts)

abbrev pub Each : ℕ → List Production → Type 0
Each n [] = Unit {0}
Each n (r ∷ rs) = Shows n r × Each (n + 1) rs

-- ---- productions of other names

abbrev is_other : Role → Bool
is_other Other = true
is_other _ = false

others_have : (role : Role) (v : PlainValue) → is_other role ≡ true → has_role role v
others_have Other v e = tt
others_have Classes v e = absurd (true≢false (sym e))
others_have Members v e = absurd (true≢false (sym e))
others_have Declaration v e = absurd (true≢false (sym e))
others_have IntDeclaration v e = absurd (true≢false (sym e))
others_have BehindName v e = absurd (true≢false (sym e))
others_have More v e = absurd (true≢false (sym e))
others_have Names v e = absurd (true≢false (sym e))
others_have Identifier v e = absurd (true≢false (sym e))

abbrev all_other : List Production → Bool
all_other rs = list_all (λ r. is_other (role_of r.head)) rs

from_others : (n m : ℕ) (xs ys : List Production) → m ≡ n + length xs → all_other xs ≡ true → Each m ys → Each n (xs ++ ys)
from_others n m [] ys at e h = let same : m ≡ n = omega (arith, at) in subst (λ k. Each k ys) same h
from_others n m (x ∷ xs) ys at e h =
    let both = and_parts (is_other (role_of x.head)) (all_other xs) e in
    let next : m ≡ n + 1 + length xs = omega (arith, at) in
    (λ ts parts k q. others_have (role_of x.head) (meaning_by (action_of n) ts parts) both.0, from_others (n + 1) m xs ys next both.1 h)

-- ---- the productions from that name on; the last ones come first

from_identifier : Each 224 (drop 224 java_productions)
from_identifier = (λ ts parts h q. q refl, tt)

from_statement : Each 44 (drop 44 java_productions)
from_statement = from_others 44 224 (take 180 (drop 44 java_productions)) (drop 224 java_productions) refl refl from_identifier

from_identifier_declaration : Each 31 (drop 31 java_productions)
from_identifier_declaration = (
  λ ts parts h q. tt,
  (
    λ ts parts h q. (h.0, h.1.0),
    (
      λ ts parts h q. h.0,
      (
        λ ts parts h q. h.0,
        (
          λ ts parts h q. tt,
          (
            λ ts parts h q. tt,
            (
              λ ts parts h q. tt,
              (
                λ ts parts h q. tt,
                (
                  λ ts parts h q. h.0,
                  (
                    λ ts parts h q. h.0,
                    (
                      λ ts parts h q. (h.0, h.1.0),
                      (
                        λ ts parts h q. tt,
                        (
                          λ ts parts h q. tt,
                          from_statement,
                        ),
                      ),
                    ),
                  ),
                ),
              ),
            ),
          ),
        ),
      ),
    ),
  ),
)

from_member_declaration : Each 20 (drop 20 java_productions)
from_member_declaration = (
  λ ts parts h q. member_named (place_of 0 ts) (static_of parts.first) (blocks_of parts.first) parts.second h.1.0,
  (
    λ ts parts h q. tt,
    (
      λ ts parts h q. tt,
      (
        λ ts parts h q. tt,
        (
          λ ts parts h q. tt,
          (
            λ ts parts h q. (h.0, h.1.0),
            (
              λ ts parts h q. (h.0, h.1.0),
              (
                λ ts parts h q. int_named ts parts.first h.0,
                (
                  λ ts parts h q. behind_named ts parts.first (q refl) h.0,
                  (
                    λ ts parts h q. (h.0, h.1.0),
                    (
                      λ ts parts h q. (h.0, h.1.0),
                      from_identifier_declaration,
                    ),
                  ),
                ),
              ),
            ),
          ),
        ),
      ),
    ),
  ),
)

from_modifier : Each 9 (drop 9 java_productions)
from_modifier = (
  λ ts parts h q. tt,
  (
    λ ts parts h q. tt,
    (
      λ ts parts h q. tt,
      (
        λ ts parts h q. tt,
        (
          λ ts parts h q. tt,
          (
            λ ts parts h q. tt,
            (
              λ ts parts h q. tt,
              (
                λ ts parts h q. body_named ts (members_of parts.first) (end_of parts.first) h.0,
                (
                  λ ts parts h q. every_append MemberIsNamed (members_of parts.first) (members_of parts.second) h.0 h.1.0,
                  (
                    λ ts parts h q. tt,
                    (
                      λ ts parts h q. every_append MemberIsNamed (members_of parts.first) (members_of parts.second) h.0 h.1.0,
                      from_member_declaration,
                    ),
                  ),
                ),
              ),
            ),
          ),
        ),
      ),
    ),
  ),
)

from_compilation_unit : Each 0 (drop 0 java_productions)
from_compilation_unit = (
  λ ts parts h q. h.1.1.0,
  (
    λ ts parts h q. h.0,
    (
      λ ts parts h q. tt,
      (
        λ ts parts h q. tt,
        (
          λ ts parts h q. every_append ClassIsNamed (classes_of parts.first) (classes_of parts.second) h.0 h.1.0,
          (
            λ ts parts h q. tt,
            (
              λ ts parts h q. ((h.1.0, h.1.1.1.0), tt),
              (
                λ ts parts h q. tt,
                (
                  λ ts parts h q. tt,
                  from_modifier,
                ),
              ),
            ),
          ),
        ),
      ),
    ),
  ),
)

pub each : Each 0 java_productions
each = from_compilation_unit
