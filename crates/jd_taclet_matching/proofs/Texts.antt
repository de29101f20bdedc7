-- What texts give that are read.
use Rattle.std.proofs.Common.{Err, IfOk, List, None, Ok, Option, Some, ap, option_map, rules, subst, sym, ◌≡◌, ◌∙◌, ℕ, []}
use Rattle.std.specs.Option.{option_and_then}
use Rattle.std.specs.declared.result.Result.{Result}
use Rattle.jd_base.specs.declared.sort.Sort.{Sort}
use Rattle.jd_base.specs.declared.memory.NoMemory.{NoMemory}
use Rattle.jd_patterns.specs.Bindings.{Part, TheLiteral}
use Rattle.jd_syntax.specs.Sxs.{Atom, sx_view}
use Rattle.jd_syntax.specs.declared.sx.Sx.{Sx, the_lemmas}
use Rattle.jd_syntax.specs.declared.sx.Sx.TheVariants as sxs
use Rattle.jd_taclet_matching.proofs.SingleWords.{as_literal, constant_named, constant_of_word, literal_of_word}
use Rattle.jd_taclet_matching.specs.OwnedParts.{owned_part}
use Rattle.jd_taclet_matching.specs.Words.{IsOfText, constant_sort, literal_in}
use Rattle.jd_taclet_matching.specs.declared.owned.OwnedPart.{OwnedPart}
use Rattle.jd_taclet_stages.specs.Stages.{answered_as, word_of}
use Rattle.jd_term.specs.Terms.{PlainTerm}
use Rattle.jd_tforms.specs.Answers.{Answer}
use Rattle.jd_tforms.specs.Naming.{constant_of, named, word_term}
use Rattle.jd_tforms.specs.Shapes.{integer_of, wide}
use Rattle.jd_tgrammar.specs.NameTables.{NameTable}
use Rattle.jd_tread.specs.Faults.{IsFault}
use Rattle.jd_tread.specs.declared.refusal.TermRefusal.{TermRefusal}
use Rattle.jd_tread.specs.declared.refusal.TermRefusal.TheVariants as refusals

nothing_read : {T : Type 0} (f : T → Part) (e : TermRefusal) (o : Answer T) → IsFault e o → IsOfText e → answered_as f o ≡ None
nothing_read f refusals.Syntax o is text = ap (answered_as f) is
nothing_read f refusals.UnknownSymbol o is text = ap (answered_as f) is
nothing_read f refusals.SortMismatch o is text = ap (answered_as f) is
nothing_read f refusals.TooDeep o is text = ap (answered_as f) is
nothing_read f refusals.NoMemory o is text = absurd text

pub not_read : {T : Type 0} (f : T → Part) (e : TermRefusal) (o : Answer T) (r : Result (Option OwnedPart) NoMemory) → IsFault e o → IfOk r (λ p. (option_map owned_part p ≡ None) × IsOfText e) → IfOk r (λ p. option_map owned_part p ≡ answered_as f o)
not_read f e o (Ok p) is told = told.0 ∙ sym (nothing_read f e o is told.1)
not_read f e o (Err n) is told = tt

-- what was read is this, where that is the same
pub read_along : (r : Result (Option OwnedPart) NoMemory) (o p : Option Part) → o ≡ p → IfOk r (λ q. option_map owned_part q ≡ o) → IfOk r (λ q. option_map owned_part q ≡ p)
read_along r o p is told = subst (λ (t : Option Part). IfOk r (λ q. option_map owned_part q ≡ t)) is told

-- ---- single words

atom_view : (w : _) → sx_view (sxs.Atom w) ≡ Atom w.items
atom_view w = search (rules, the_lemmas)

pub of_word : (f : List ℕ → Option Part) (x : Sx) (w : _) (bytes : List ℕ) → x ≡ sxs.Atom w → bytes ≡ w.items → f bytes ≡ option_and_then f (word_of (sx_view x))
of_word f x w bytes is same = ap f same ∙ sym (ap (λ (y : Sx). option_and_then f (word_of (sx_view y))) is ∙ ap (λ b. option_and_then f (word_of b)) (atom_view w))

pub number_read : (names : NameTable) (bytes : List ℕ) (t : Option PlainTerm) → t ≡ word_term names [] bytes → option_map TheLiteral (option_and_then literal_in t) ≡ option_and_then (λ z. Some (TheLiteral z)) (integer_of wide bytes)
number_read names bytes t is = ap (λ o. option_map TheLiteral (option_and_then literal_in o)) is ∙ ap (option_map TheLiteral) (literal_of_word names [] bytes) ∙ as_literal (integer_of wide bytes)

pub constant_read : (names : NameTable) (bytes : List ℕ) (t : Option PlainTerm) (s : Option Sort) → t ≡ word_term names [] bytes → s ≡ option_and_then constant_sort t → option_map (named bytes) s ≡ constant_of bytes
constant_read names bytes t s is told = ap (option_map (named bytes)) (told ∙ ap (option_and_then constant_sort) is ∙ constant_of_word names [] bytes) ∙ constant_named bytes
