-- What is made of an expression adds temporaries behind the variables that are there, and no parameter or local.
use Rattle.std.proofs.Common.{◌+◌, List, [], ◌∷◌, ◌++◌, refl, sym, ap, ◌∙◌}
use Rattle.std.specs.List.{AllByRecursion}
use Rattle.std.proofs.lemmas.List.{append-nil, append_assoc}
use Rattle.jd_syntax.specs.Names.{Declared}
use Rattle.jd_bodies.specs.declared.value.ValueType.{ValueType}
use Rattle.jd_bodies.specs.Variables.{Progress, declared, temporary, temporary_name}
use Rattle.jd_expression_temporaries.specs.Growing.{Grows, IsTemporary}

all_both : (xs ys : List Declared) → AllByRecursion IsTemporary xs → AllByRecursion IsTemporary ys → AllByRecursion IsTemporary (xs ++ ys)
all_both [] ys g h = h
all_both (x ∷ xs) ys g h = (g.0, all_both xs ys g.1 h)

pub stays : (p : Progress) → Grows p p
stays p = record { more = []; is = sym (append-nil p.variables); marked = tt; names = refl }

pub joined : (p q r : Progress) → Grows p q → Grows q r → Grows p r
joined p q r g h = record {
  more = g.more ++ h.more;
  is = h.is ∙ ap (λ l. l ++ h.more) g.is ∙ append_assoc p.variables g.more h.more;
  marked = all_both g.more h.more g.marked h.marked;
  names = h.names ∙ g.names;
}

pub kept : (t : ValueType) (p q : Progress) → Grows p q → Grows p (temporary t q).0
kept t p q g =
    joined p q (temporary t q).0 g (record { more = declared (temporary_name (q.temporaries + 1) t) t ∷ []; is = refl; marked = (refl, tt); names = refl })
