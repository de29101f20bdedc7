-- The names of what is in scope, one by one.
use Rattle.std.proofs.Common.{◌≡◌, ◌<◌, ◌≤◌, ◌+◌, ◌⊎◌, inl, inr, ℕ, List, [], ◌∷◌, ◌++◌, length, map, reverse, take, get_or, slice_get, Some, None, sym, ap, ◌∙◌, arith}
use Rattle.std.proofs.lemmas.List.{length-reverse, map-append, take_all, take_more}
use Rattle.std.proofs.lemmas.Option.{slice_get_cases}
use Rattle.jd_syntax.specs.Names.{Name}
use Rattle.jd_bodies.specs.Bodies.{scope_names}
use Rattle.jd_bodies.specs.Scopes.{Local}
use Rattle.jd_bodies.specs.Variables.{Progress, local_name}
use Rattle.jd_statement_parts.specs.Turning.{named}

abbrev pub name_of : Progress → Local → Name
name_of q k = local_name q.names k.name k.type

pub next_name : (q : Progress) (ls : List Local) (i : ℕ) → named q (map (λ k. name_of q k) (take i ls)) (slice_get ls i) ≡ map (λ k. name_of q k) (take (i + 1) ls)
next_name q ls i = by (slice_get_cases ls i).1
  where
    by : ((x : Local) × (i < length ls) × (slice_get ls i ≡ Some x) × (get_or ls i x ≡ x)) ⊎ ((length ls ≤ i) × (slice_get ls i ≡ None)) → named q (map (λ k. name_of q k) (take i ls)) (slice_get ls i) ≡ map (λ k. name_of q k) (take (i + 1) ls)
    by (inl (x, lt, is, at)) =
        ap (λ o. named q (map (λ k. name_of q k) (take i ls)) o) is
        ∙ sym (map-append (λ k. name_of q k) (take i ls) (x ∷ []))
        ∙ ap (λ y. map (λ k. name_of q k) (take i ls ++ y ∷ [])) (sym at)
        ∙ ap (map (λ k. name_of q k)) (sym (take_more ls i x lt))
    by (inr (past, is)) =
        ap (λ o. named q (map (λ k. name_of q k) (take i ls)) o) is
        ∙ ap (map (λ k. name_of q k)) (take_all i ls past ∙ sym (take_all (i + 1) ls (omega (arith, past))))

pub all_named : (q : Progress) (locals ls : List Local) (i n : ℕ) → n ≤ i → n ≡ length locals → locals ≡ ls → map (λ k. name_of q k) (take i (reverse locals)) ≡ scope_names q ls
all_named q locals ls i n past count same =
    ap (map (λ k. name_of q k)) (take_all i (reverse locals) (omega (arith, past, count, length-reverse locals)))
    ∙ ap (λ (l : List Local). scope_names q l) same
