-- The tokens of the step that is being read.
use Rattle.std.proofs.Common.{◌≡◌, ℕ, ◌≤◌, List, [], ◌∷◌, ◌++◌, map, Option, Some, None, Ok, refl, sym, ap, subst, ◌∙◌, append_assoc}
use Rattle.std.specs.Prelude.{option_map}
use Rattle.std.proofs.lemmas.List.{map-append}
use Rattle.std.proofs.lemmas.List.Elements.{All-nil, All-cons, All-append}
use Rattle.jd_syntax.specs.Sxs.{Bracketed}
use Rattle.jd_bracketed.specs.Tokens.{TokenKind, Open, Close, OpenSquare, CloseSquare, Word, Bad}
use Rattle.jd_bracketed.specs.Trees as brackets
use Rattle.jd_bracketed.specs.Readings as readings
use Rattle.jd_bracketed.proofs.Runs as bracket_runs
use Rattle.jd_model.specs.Sequents.{PlainPlace}
use Rattle.jd_sequent.specs.Trees.{PlainStep}
use Rattle.jd_scripts.specs.Places.{IsPlace}
use Rattle.jd_scripts.specs.ReadPlaces.{read_place}
use Rattle.jd_scripts.specs.Scripts.{Inst, StepFits, spell_place, spell_insts, spell_step}
use Rattle.jd_scripts.specs.Machine.{Part, TreeNext, RuleNext, PlaceNext, AssumesNext, AssumedNext, InstsNext, InstNext, InstName, InstBody, TreeEnd, step_at, with_assumed, with_inst, placed, assumed, if_open_square, rule_read, inst_named, part_step}
use Rattle.jd_scripts.proofs.PlaceText.{is_place}

-- ---- the tokens that led to a part

abbrev pub assumes_front : PlainStep → List TokenKind
assumes_front p = Open ∷ Word p.rule ∷ spell_place p.place ∷ OpenSquare ∷ map spell_place p.assumes

abbrev pub insts_front : PlainStep → List TokenKind
insts_front p = assumes_front p ++ CloseSquare ∷ OpenSquare ∷ spell_insts p.insts

abbrev pub part_text : Part → List TokenKind
part_text TreeNext = []
part_text RuleNext = Open ∷ []
part_text (PlaceNext r) = Open ∷ Word r ∷ []
part_text (AssumesNext p) = Open ∷ Word p.rule ∷ spell_place p.place ∷ []
part_text (AssumedNext p) = assumes_front p
part_text (InstsNext p) = assumes_front p ++ CloseSquare ∷ []
part_text (InstNext p) = insts_front p
part_text (InstName p) = insts_front p ++ Open ∷ []
part_text (InstBody p n x) = insts_front p ++ Open ∷ Word n ∷ bracket_runs.heard x
part_text TreeEnd = []

abbrev pub PartFits : ℕ → Part → Type 0
PartFits levels TreeNext = Unit {0}
PartFits levels RuleNext = Unit {0}
PartFits levels (PlaceNext r) = Unit {0}
PartFits levels (AssumesNext p) = StepFits levels p × (p.assumes ≡ []) × (p.insts ≡ [])
PartFits levels (AssumedNext p) = StepFits levels p × (p.insts ≡ [])
PartFits levels (InstsNext p) = StepFits levels p × (p.insts ≡ [])
PartFits levels (InstNext p) = StepFits levels p
PartFits levels (InstName p) = StepFits levels p
PartFits levels (InstBody p n x) = StepFits levels p × bracket_runs.fits levels x
PartFits levels TreeEnd = ⊥

-- how many steps are being read
abbrev pub part_steps : Part → ℕ
part_steps TreeNext = 0
part_steps RuleNext = 1
part_steps (PlaceNext r) = 1
part_steps (AssumesNext p) = 1
part_steps (AssumedNext p) = 1
part_steps (InstsNext p) = 1
part_steps (InstNext p) = 1
part_steps (InstName p) = 1
part_steps (InstBody p n x) = 1
part_steps TreeEnd = 0

-- ---- one token more

pub record PartMore (levels : ℕ) (q r : Part) (t : TokenKind) : Type 0 where
  pub text : part_text r ≡ part_text q ++ t ∷ []
  pub fits : PartFits levels r
  pub steps : part_steps r ≡ part_steps q

same_part : {q r : Part} → (let o : Option Part = Some q in o) ≡ Some r → q ≡ r
same_part e = cc

none_part : {r : Part} → (let o : Option Part = None in o) ≡ Some r → ⊥
none_part e = absurd cc

some_place : (o : Option (Option PlainPlace)) (f : Option PlainPlace → Part) (r : Part) → option_map f o ≡ Some r → (q : Option PlainPlace) × (o ≡ Some q) × (f q ≡ r)
some_place None f r e = absurd cc
some_place (Some q) f r e = (q, refl, cc)

module _ (levels : ℕ) where
  rule_more : (r : Part) (t : TokenKind) → rule_read t ≡ Some r → PartMore levels RuleNext r t
  rule_more r (Word w) e = subst (λ q. PartMore levels RuleNext q (Word w)) (same_part e) (record { text = refl; fits = tt; steps = refl })
  rule_more r Open e = absurd (none_part e)
  rule_more r Close e = absurd (none_part e)
  rule_more r OpenSquare e = absurd (none_part e)
  rule_more r CloseSquare e = absurd (none_part e)
  rule_more r Bad e = absurd (none_part e)

  place_more : (rule : List ℕ) (r : Part) (t : TokenKind) → placed rule t ≡ Some r → PartMore levels (PlaceNext rule) r t
  place_more rule r (Word w) e =
      let k = some_place (read_place w) (λ q. AssumesNext (step_at rule q)) r e in
      let p = is_place w k.0 k.1 in
      subst (λ q. PartMore levels (PlaceNext rule) q (Word w)) k.2 (record {
        text = ap (λ u. Open ∷ Word rule ∷ Word u ∷ []) (sym p.is);
        fits = (record { place = p.fits; assumes = All-nil IsPlace; insts = All-nil (λ (i : Inst). brackets.depth i.1 ≤ levels) }, refl, refl);
        steps = refl;
      })
  place_more rule r Open e = absurd (none_part e)
  place_more rule r Close e = absurd (none_part e)
  place_more rule r OpenSquare e = absurd (none_part e)
  place_more rule r CloseSquare e = absurd (none_part e)
  place_more rule r Bad e = absurd (none_part e)

  square_more : (p : PlainStep) (r : Part) (t : TokenKind) → PartFits levels (AssumesNext p) → if_open_square t (AssumedNext p) ≡ Some r → PartMore levels (AssumesNext p) r t
  square_more p r OpenSquare h e = subst (λ q. PartMore levels (AssumesNext p) q OpenSquare) (same_part e) (record {
    text = ap (λ qs. Open ∷ Word p.rule ∷ spell_place p.place ∷ OpenSquare ∷ map spell_place qs) h.1;
    fits = (h.0, h.2);
    steps = refl;
  })
  square_more p r Open h e = absurd (none_part e)
  square_more p r Close h e = absurd (none_part e)
  square_more p r (Word w) h e = absurd (none_part e)
  square_more p r CloseSquare h e = absurd (none_part e)
  square_more p r Bad h e = absurd (none_part e)

  assumed_more : (p : PlainStep) (r : Part) (t : TokenKind) → PartFits levels (AssumedNext p) → assumed p t ≡ Some r → PartMore levels (AssumedNext p) r t
  assumed_more p r (Word w) h e =
      let k = some_place (read_place w) (λ q. AssumedNext (with_assumed p q)) r e in
      let g = is_place w k.0 k.1 in
      subst (λ q. PartMore levels (AssumedNext p) q (Word w)) k.2 (record {
        text = ap (λ ts. Open ∷ Word p.rule ∷ spell_place p.place ∷ OpenSquare ∷ ts) (map-append spell_place p.assumes (k.0 ∷ []) ∙ ap (λ u. map spell_place p.assumes ++ Word u ∷ []) (sym g.is));
        fits = (record { place = h.0.place; assumes = All-append IsPlace p.assumes (k.0 ∷ []) h.0.assumes (All-cons IsPlace k.0 [] g.fits (All-nil IsPlace)); insts = h.0.insts }, h.1);
        steps = refl;
      })
  assumed_more p r CloseSquare h e = subst (λ q. PartMore levels (AssumedNext p) q CloseSquare) (same_part e) (record { text = refl; fits = h; steps = refl })
  assumed_more p r Open h e = absurd (none_part e)
  assumed_more p r Close h e = absurd (none_part e)
  assumed_more p r OpenSquare h e = absurd (none_part e)
  assumed_more p r Bad h e = absurd (none_part e)

  insts_more : (p : PlainStep) (r : Part) (t : TokenKind) → PartFits levels (InstsNext p) → if_open_square t (InstNext p) ≡ Some r → PartMore levels (InstsNext p) r t
  insts_more p r OpenSquare h e = subst (λ q. PartMore levels (InstsNext p) q OpenSquare) (same_part e) (record {
    text = ap (λ is. assumes_front p ++ CloseSquare ∷ OpenSquare ∷ spell_insts is) h.1 ∙ sym (append_assoc (assumes_front p) (CloseSquare ∷ []) (OpenSquare ∷ []));
    fits = h.0;
    steps = refl;
  })
  insts_more p r Open h e = absurd (none_part e)
  insts_more p r Close h e = absurd (none_part e)
  insts_more p r (Word w) h e = absurd (none_part e)
  insts_more p r CloseSquare h e = absurd (none_part e)
  insts_more p r Bad h e = absurd (none_part e)

  name_more : (p : PlainStep) (r : Part) (t : TokenKind) → StepFits levels p → inst_named p t ≡ Some r → PartMore levels (InstName p) r t
  name_more p r (Word w) h e = subst (λ q. PartMore levels (InstName p) q (Word w)) (same_part e) (record {
    text = sym (append_assoc (insts_front p) (Open ∷ []) (Word w ∷ []));
    fits = (h, tt);
    steps = refl;
  })
  name_more p r Open h e = absurd (none_part e)
  name_more p r Close h e = absurd (none_part e)
  name_more p r OpenSquare h e = absurd (none_part e)
  name_more p r CloseSquare h e = absurd (none_part e)
  name_more p r Bad h e = absurd (none_part e)

  pub part_more : (q r : Part) (t : TokenKind) → PartFits levels q → part_step q t ≡ Some r → PartMore levels q r t
  part_more TreeNext r t h e = absurd (none_part e)
  part_more RuleNext r t h e = rule_more r t e
  part_more (PlaceNext rule) r t h e = place_more rule r t e
  part_more (AssumesNext p) r t h e = square_more p r t h e
  part_more (AssumedNext p) r t h e = assumed_more p r t h e
  part_more (InstsNext p) r t h e = insts_more p r t h e
  part_more (InstNext p) r t h e = absurd (none_part e)
  part_more (InstName p) r t h e = name_more p r t h e
  part_more (InstBody p n x) r t h e = absurd (none_part e)
  part_more TreeEnd r t h e = absurd (none_part e)

-- ---- instantiations

abbrev one_inst : Inst → List TokenKind
one_inst i = Open ∷ Word i.0 ∷ (brackets.spell i.1 ++ Close ∷ [])

spell_insts-more : (is : List Inst) (i : Inst) → spell_insts (is ++ i ∷ []) ≡ spell_insts is ++ one_inst i
spell_insts-more [] i = refl
spell_insts-more (j ∷ is) i =
    ap (λ ts. Open ∷ Word j.0 ∷ (brackets.spell j.1 ++ Close ∷ ts)) (spell_insts-more is i)
    ∙ ap (λ ts. Open ∷ Word j.0 ∷ ts) (sym (append_assoc (brackets.spell j.1) (Close ∷ spell_insts is) (one_inst i)))

-- an instantiation is whole
pub inst_text : (p : PlainStep) (n : List ℕ) (x : Bracketed) → insts_front (with_inst p n x) ≡ (insts_front p ++ Open ∷ Word n ∷ brackets.spell x) ++ Close ∷ []
inst_text p n x =
    ap (λ ts. assumes_front p ++ CloseSquare ∷ OpenSquare ∷ ts) (spell_insts-more p.insts (n, x))
    ∙ (sym (append_assoc (assumes_front p) (CloseSquare ∷ OpenSquare ∷ spell_insts p.insts) (one_inst (n, x)))
    ∙ sym (append_assoc (insts_front p) (Open ∷ Word n ∷ brackets.spell x) (Close ∷ [])))

pub inst_fits : (levels : ℕ) (p : PlainStep) (n : List ℕ) (x : Bracketed) → StepFits levels p → brackets.depth x ≤ levels → StepFits levels (with_inst p n x)
inst_fits levels p n x h le = record {
  place = h.place;
  assumes = h.assumes;
  insts = All-append (λ (i : Inst). brackets.depth i.1 ≤ levels) p.insts ((n, x) ∷ []) h.insts
      (All-cons (λ (i : Inst). brackets.depth i.1 ≤ levels) (n, x) [] le (All-nil (λ (i : Inst). brackets.depth i.1 ≤ levels)));
}

-- a token more of an expression
pub body_text : (levels : ℕ) (p : PlainStep) (n : List ℕ) (x y : readings.State) (t : TokenKind) → readings.step levels x t ≡ Ok y
    → part_text (InstBody p n y) ≡ part_text (InstBody p n x) ++ t ∷ []
body_text levels p n x y t e =
    ap (λ ts. insts_front p ++ Open ∷ Word n ∷ ts) (bracket_runs.step_heard levels x t y e)
    ∙ sym (append_assoc (insts_front p) (Open ∷ Word n ∷ bracket_runs.heard x) (t ∷ []))

pub body_fits : (levels : ℕ) (x y : readings.State) (t : TokenKind) → readings.step levels x t ≡ Ok y → bracket_runs.fits levels x → bracket_runs.fits levels y
unfolding readings.run
body_fits levels x y t e h = bracket_runs.run_fits levels (t ∷ []) x y (ap (readings.then_run (λ m. Ok m)) e) h

-- the last bracket before a step's trees
pub step_text : (p : PlainStep) → insts_front p ++ CloseSquare ∷ [] ≡ spell_step p
step_text p = append_assoc (assumes_front p) (CloseSquare ∷ OpenSquare ∷ spell_insts p.insts) (CloseSquare ∷ [])
