-- Where a node is without fault so are its parts, for each production, in the order of the productions.
use Rattle.std.proofs.Common.{drop}
use Rattle.jd_jml_grammar.specs.Productions.{jml_productions}
use Rattle.jd_jml_attributes.specs.declared.form.Link.TheVariants as links
use Rattle.jd_jml_attributes.specs.Forms.{empty, linked}
use Rattle.jd_jml_proper.proofs.Rules.{order_none, all_none, empty_none, step_none}
use Rattle.jd_jml_proper.proofs.Sums.{asked_none, parenthesized_none, suffix1_none, suffix2_none}
use Rattle.jd_jml_proper.proofs.Roles.{EachNone}

-- ---- the productions from that name on; the last ones come first

none_from_suffixes : EachNone 163 (drop 163 jml_productions)
none_from_suffixes = (
  λ ts forms h q. suffix1_none (linked links.Other forms.first.kind) forms q,
  (
    λ ts forms h q. suffix1_none (linked links.Other forms.first.kind) forms q,
    (
      λ ts forms h q. (all_none empty forms q).1,
      (
        λ ts forms h q. (empty_none forms.first h.0, empty_none forms.second h.1, empty_none forms.third h.2, empty_none forms.fourth h.3),
        (
          λ ts forms h q. (empty_none forms.first h.0, empty_none forms.second h.1, empty_none forms.third h.2, empty_none forms.fourth h.3),
          (
            λ ts forms h q. (empty_none forms.first h.0, empty_none forms.second h.1, empty_none forms.third h.2, empty_none forms.fourth h.3),
            (
              λ ts forms h q. (empty_none forms.first h.0, empty_none forms.second h.1, empty_none forms.third h.2, empty_none forms.fourth h.3),
              (
                λ ts forms h q. (empty_none forms.first h.0, empty_none forms.second h.1, empty_none forms.third h.2, empty_none forms.fourth h.3),
                (
                  λ ts forms h q. (empty_none forms.first h.0, empty_none forms.second h.1, empty_none forms.third h.2, empty_none forms.fourth h.3),
                  (
                    λ ts forms h q. (empty_none forms.first h.0, empty_none forms.second h.1, empty_none forms.third h.2, empty_none forms.fourth h.3),
                    (
                      λ ts forms h q. (empty_none forms.first h.0, empty_none forms.second h.1, empty_none forms.third h.2, empty_none forms.fourth h.3),
                      (
                        λ ts forms h q. (empty_none forms.first h.0, empty_none forms.second h.1, empty_none forms.third h.2, empty_none forms.fourth h.3),
                        (
                          λ ts forms h q. (empty_none forms.first h.0, empty_none forms.second h.1, empty_none forms.third h.2, empty_none forms.fourth h.3),
                          (
                            λ ts forms h q. (empty_none forms.first h.0, empty_none forms.second h.1, empty_none forms.third h.2, empty_none forms.fourth h.3),
                            (
                              λ ts forms h q. (empty_none forms.first h.0, empty_none forms.second h.1, empty_none forms.third h.2, empty_none forms.fourth h.3),
                              (
                                λ ts forms h q. (empty_none forms.first h.0, empty_none forms.second h.1, empty_none forms.third h.2, empty_none forms.fourth h.3),
                                (
                                  λ ts forms h q. (empty_none forms.first h.0, empty_none forms.second h.1, empty_none forms.third h.2, empty_none forms.fourth h.3),
                                  (
                                    λ ts forms h q. (empty_none forms.first h.0, empty_none forms.second h.1, empty_none forms.third h.2, empty_none forms.fourth h.3),
                                    (
                                      λ ts forms h q. (empty_none forms.first h.0, empty_none forms.second h.1, empty_none forms.third h.2, empty_none forms.fourth h.3),
                                      (
                                        λ ts forms h q. (empty_none forms.first h.0, empty_none forms.second h.1, empty_none forms.third h.2, empty_none forms.fourth h.3),
                                        (
                                          λ ts forms h q. (empty_none forms.first h.0, empty_none forms.second h.1, empty_none forms.third h.2, empty_none forms.fourth h.3),
                                          (
                                            λ ts forms h q. (empty_none forms.first h.0, empty_none forms.second h.1, empty_none forms.third h.2, empty_none forms.fourth h.3),
                                            (
                                              λ ts forms h q. (empty_none forms.first h.0, empty_none forms.second h.1, empty_none forms.third h.2, empty_none forms.fourth h.3),
                                              (
                                                λ ts forms h q. (empty_none forms.first h.0, empty_none forms.second h.1, empty_none forms.third h.2, empty_none forms.fourth h.3),
                                                tt,
                                              ),
                                            ),
                                          ),
                                        ),
                                      ),
                                    ),
                                  ),
                                ),
                              ),
                            ),
                          ),
                        ),
                      ),
                    ),
                  ),
                ),
              ),
            ),
          ),
        ),
      ),
    ),
  ),
)

none_from_invocation : EachNone 158 (drop 158 jml_productions)
none_from_invocation = (
  λ ts forms h q. (all_none empty forms q).1,
  (
    λ ts forms h q. (all_none empty forms q).1,
    (
      λ ts forms h q. (all_none empty forms q).1,
      (
        λ ts forms h q. (all_none empty forms q).1,
        (
          λ ts forms h q. (all_none empty forms q).1,
          none_from_suffixes,
        ),
      ),
    ),
  ),
)

none_from_class_type : EachNone 153 (drop 153 jml_productions)
none_from_class_type = (
  λ ts forms h q. (all_none empty forms q).1,
  (
    λ ts forms h q. (all_none empty forms q).1,
    (
      λ ts forms h q. (all_none empty forms q).1,
      (
        λ ts forms h q. (all_none empty forms q).1,
        (
          λ ts forms h q. (all_none empty forms q).1,
          none_from_invocation,
        ),
      ),
    ),
  ),
)

none_from_behind_range : EachNone 147 (drop 147 jml_productions)
none_from_behind_range = (
  λ ts forms h q. (all_none empty forms q).1,
  (
    λ ts forms h q. (all_none empty forms q).1,
    (
      λ ts forms h q. (all_none empty forms q).1,
      (
        λ ts forms h q. (all_none empty forms q).1,
        (
          λ ts forms h q. (all_none empty forms q).1,
          (
            λ ts forms h q. (all_none empty forms q).1,
            none_from_class_type,
          ),
        ),
      ),
    ),
  ),
)

none_from_behind_parenthesis : EachNone 142 (drop 142 jml_productions)
none_from_behind_parenthesis = (
  λ ts forms h q. ((order_none empty forms.first q).1, empty_none forms.second h.0, empty_none forms.third h.1, empty_none forms.fourth h.2),
  (
    λ ts forms h q. (all_none empty forms q).1,
    (
      λ ts forms h q. (all_none empty forms q).1,
      (
        λ ts forms h q. (all_none empty forms q).1,
        (
          λ ts forms h q. (all_none empty forms (asked_none ts forms q).0).1,
          none_from_behind_range,
        ),
      ),
    ),
  ),
)

none_from_parenthesis : EachNone 136 (drop 136 jml_productions)
none_from_parenthesis = (
  λ ts forms h q. (all_none empty forms q).1,
  (
    λ ts forms h q. (all_none empty forms q).1,
    (
      λ ts forms h q. (all_none empty forms q).1,
      (
        λ ts forms h q. parenthesized_none forms q,
        (
          λ ts forms h q. (all_none empty forms q).1,
          (
            λ ts forms h q. (all_none empty forms q).1,
            none_from_behind_parenthesis,
          ),
        ),
      ),
    ),
  ),
)

none_from_atom : EachNone 127 (drop 127 jml_productions)
none_from_atom = (
  λ ts forms h q. (empty_none forms.first h.0, empty_none forms.second h.1, empty_none forms.third h.2, empty_none forms.fourth h.3),
  (
    λ ts forms h q. (empty_none forms.first h.0, empty_none forms.second h.1, empty_none forms.third h.2, empty_none forms.fourth h.3),
    (
      λ ts forms h q. (empty_none forms.first h.0, empty_none forms.second h.1, empty_none forms.third h.2, empty_none forms.fourth h.3),
      (
        λ ts forms h q. (empty_none forms.first h.0, empty_none forms.second h.1, empty_none forms.third h.2, empty_none forms.fourth h.3),
        (
          λ ts forms h q. (empty_none forms.first h.0, empty_none forms.second h.1, empty_none forms.third h.2, empty_none forms.fourth h.3),
          (
            λ ts forms h q. (empty_none forms.first h.0, empty_none forms.second h.1, empty_none forms.third h.2, empty_none forms.fourth h.3),
            (
              λ ts forms h q. (all_none empty forms q).1,
              (
                λ ts forms h q. (all_none empty forms q).1,
                (
                  λ ts forms h q. (all_none empty forms q).1,
                  none_from_parenthesis,
                ),
              ),
            ),
          ),
        ),
      ),
    ),
  ),
)

none_from_unary : EachNone 120 (drop 120 jml_productions)
none_from_unary = (
  λ ts forms h q. (all_none empty forms q).1,
  (
    λ ts forms h q. (all_none empty forms q).1,
    (
      λ ts forms h q. (all_none empty forms q).1,
      (
        λ ts forms h q. (all_none empty forms q).1,
        (
          λ ts forms h q. (all_none empty forms q).1,
          (
            λ ts forms h q. (all_none empty forms q).1,
            (
              λ ts forms h q. (all_none empty forms q).1,
              none_from_atom,
            ),
          ),
        ),
      ),
    ),
  ),
)

none_from_multiplicative : EachNone 115 (drop 115 jml_productions)
none_from_multiplicative = (
  λ ts forms h q. (all_none empty forms q).1,
  (
    λ ts forms h q. suffix1_none (linked links.Other forms.first.kind) forms q,
    (
      λ ts forms h q. suffix1_none (linked links.Other forms.first.kind) forms q,
      (
        λ ts forms h q. suffix1_none (linked links.Other forms.first.kind) forms q,
        (
          λ ts forms h q. (all_none empty forms q).1,
          none_from_unary,
        ),
      ),
    ),
  ),
)

none_from_reference_type : EachNone 109 (drop 109 jml_productions)
none_from_reference_type = (
  λ ts forms h q. (all_none empty forms q).1,
  (
    λ ts forms h q. (all_none empty forms q).1,
    (
      λ ts forms h q. (all_none empty forms q).1,
      (
        λ ts forms h q. suffix1_none (linked links.Other forms.first.kind) forms q,
        (
          λ ts forms h q. suffix1_none (linked links.Other forms.first.kind) forms q,
          (
            λ ts forms h q. (all_none empty forms q).1,
            none_from_multiplicative,
          ),
        ),
      ),
    ),
  ),
)

none_from_relational_tail : EachNone 103 (drop 103 jml_productions)
none_from_relational_tail = (
  λ ts forms h q. suffix1_none (linked links.Less forms.first.kind) forms q,
  (
    λ ts forms h q. suffix1_none (linked links.AtMost forms.first.kind) forms q,
    (
      λ ts forms h q. suffix1_none (linked links.Other forms.first.kind) forms q,
      (
        λ ts forms h q. suffix1_none (linked links.Other forms.first.kind) forms q,
        (
          λ ts forms h q. suffix1_none (linked links.Other forms.first.kind) forms q,
          (
            λ ts forms h q. (all_none empty forms q).1,
            none_from_reference_type,
          ),
        ),
      ),
    ),
  ),
)

none_from_equality : EachNone 98 (drop 98 jml_productions)
none_from_equality = (
  λ ts forms h q. (all_none empty forms q).1,
  (
    λ ts forms h q. suffix1_none (linked links.Other forms.first.kind) forms q,
    (
      λ ts forms h q. suffix1_none (linked links.Other forms.first.kind) forms q,
      (
        λ ts forms h q. (all_none empty forms q).1,
        (
          λ ts forms h q. (all_none empty forms q).1,
          none_from_relational_tail,
        ),
      ),
    ),
  ),
)

none_from_or : EachNone 92 (drop 92 jml_productions)
none_from_or = (
  λ ts forms h q. (all_none empty forms q).1,
  (
    λ ts forms h q. suffix1_none (linked links.Other forms.first.kind) forms q,
    (
      λ ts forms h q. (all_none empty forms q).1,
      (
        λ ts forms h q. (all_none empty forms q).1,
        (
          λ ts forms h q. suffix1_none (linked links.And forms.first.kind) forms q,
          (
            λ ts forms h q. (all_none empty forms q).1,
            none_from_equality,
          ),
        ),
      ),
    ),
  ),
)

none_from_equivalence : EachNone 86 (drop 86 jml_productions)
none_from_equivalence = (
  λ ts forms h q. (all_none empty forms q).1,
  (
    λ ts forms h q. suffix1_none (linked links.Other forms.first.kind) forms q,
    (
      λ ts forms h q. (all_none empty forms q).1,
      (
        λ ts forms h q. (all_none empty forms q).1,
        (
          λ ts forms h q. suffix1_none (linked links.Other forms.first.kind) forms q,
          (
            λ ts forms h q. (all_none empty forms q).1,
            none_from_or,
          ),
        ),
      ),
    ),
  ),
)

none_from_behind_location_element : EachNone 81 (drop 81 jml_productions)
none_from_behind_location_element = (
  λ ts forms h q. (all_none empty forms q).1,
  (
    λ ts forms h q. (all_none empty forms q).1,
    (
      λ ts forms h q. (all_none empty forms q).1,
      (
        λ ts forms h q. suffix2_none (linked links.Other forms.first.kind) forms q,
        (
          λ ts forms h q. (all_none empty forms q).1,
          none_from_equivalence,
        ),
      ),
    ),
  ),
)

none_from_location_member : EachNone 75 (drop 75 jml_productions)
none_from_location_member = (
  λ ts forms h q. (empty_none forms.first h.0, empty_none forms.second h.1, empty_none forms.third h.2, empty_none forms.fourth h.3),
  (
    λ ts forms h q. (let (a, b) = step_none forms.second.kind forms q in (a, b, empty_none forms.third h.0, empty_none forms.fourth h.1)),
    (
      λ ts forms h q. (empty_none forms.first h.0, empty_none forms.second h.1, empty_none forms.third h.2, empty_none forms.fourth h.3),
      (
        λ ts forms h q. (let (a, b) = step_none forms.second.kind forms q in (a, b, empty_none forms.third h.0, empty_none forms.fourth h.1)),
        (
          λ ts forms h q. (all_none empty forms q).1,
          (
            λ ts forms h q. ((order_none empty forms.first q).1, empty_none forms.second h.0, empty_none forms.third h.1, empty_none forms.fourth h.2),
            none_from_behind_location_element,
          ),
        ),
      ),
    ),
  ),
)

none_from_behind_location_name : EachNone 70 (drop 70 jml_productions)
none_from_behind_location_name = (
  λ ts forms h q. (all_none empty forms q).1,
  (
    λ ts forms h q. (all_none empty forms q).1,
    (
      λ ts forms h q. (all_none empty forms q).1,
      (
        λ ts forms h q. (all_none empty forms q).1,
        (
          λ ts forms h q. (all_none empty forms q).1,
          none_from_location_member,
        ),
      ),
    ),
  ),
)

none_from_location : EachNone 65 (drop 65 jml_productions)
none_from_location = (
  λ ts forms h q. (all_none empty forms q).1,
  (
    λ ts forms h q. (all_none empty forms q).1,
    (
      λ ts forms h q. (all_none empty forms q).1,
      (
        λ ts forms h q. (all_none empty forms q).1,
        (
          λ ts forms h q. (all_none empty forms q).1,
          none_from_behind_location_name,
        ),
      ),
    ),
  ),
)

none_from_invariant_clause : EachNone 59 (drop 59 jml_productions)
none_from_invariant_clause = (
  λ ts forms h q. (all_none empty forms q).1,
  (
    λ ts forms h q. (all_none empty forms q).1,
    (
      λ ts forms h q. (all_none empty forms q).1,
      (
        λ ts forms h q. (all_none empty forms q).1,
        (
          λ ts forms h q. (all_none empty forms q).1,
          (
            λ ts forms h q. (all_none empty forms q).1,
            none_from_location,
          ),
        ),
      ),
    ),
  ),
)

none_from_truth : EachNone 54 (drop 54 jml_productions)
none_from_truth = (
  λ ts forms h q. (all_none empty forms q).1,
  (
    λ ts forms h q. (all_none empty forms q).1,
    (
      λ ts forms h q. (all_none empty forms q).1,
      (
        λ ts forms h q. (all_none empty forms q).1,
        (
          λ ts forms h q. (all_none empty forms q).1,
          none_from_invariant_clause,
        ),
      ),
    ),
  ),
)

none_from_exception_name : EachNone 48 (drop 48 jml_productions)
none_from_exception_name = (
  λ ts forms h q. (all_none empty forms q).1,
  (
    λ ts forms h q. (all_none empty forms q).1,
    (
      λ ts forms h q. (all_none empty forms q).1,
      (
        λ ts forms h q. (all_none empty forms q).1,
        (
          λ ts forms h q. (all_none empty forms q).1,
          (
            λ ts forms h q. (all_none empty forms q).1,
            none_from_truth,
          ),
        ),
      ),
    ),
  ),
)

none_from_clauses : EachNone 39 (drop 39 jml_productions)
none_from_clauses = (
  λ ts forms h q. (all_none empty forms q).1,
  (
    λ ts forms h q. (all_none empty forms q).1,
    (
      λ ts forms h q. (all_none empty forms q).1,
      (
        λ ts forms h q. (all_none empty forms q).1,
        (
          λ ts forms h q. (all_none empty forms q).1,
          (
            λ ts forms h q. (all_none empty forms q).1,
            (
              λ ts forms h q. (all_none empty forms q).1,
              (
                λ ts forms h q. (all_none empty forms q).1,
                (
                  λ ts forms h q. (all_none empty forms q).1,
                  none_from_exception_name,
                ),
              ),
            ),
          ),
        ),
      ),
    ),
  ),
)

none_from_behavior_case : EachNone 34 (drop 34 jml_productions)
none_from_behavior_case = (
  λ ts forms h q. (all_none empty forms q).1,
  (
    λ ts forms h q. (all_none empty forms q).1,
    (
      λ ts forms h q. (all_none empty forms q).1,
      (
        λ ts forms h q. (all_none empty forms q).1,
        (
          λ ts forms h q. (all_none empty forms q).1,
          none_from_clauses,
        ),
      ),
    ),
  ),
)

none_from_contract : EachNone 28 (drop 28 jml_productions)
none_from_contract = (
  λ ts forms h q. (all_none empty forms q).1,
  (
    λ ts forms h q. (all_none empty forms q).1,
    (
      λ ts forms h q. (all_none empty forms q).1,
      (
        λ ts forms h q. (all_none empty forms q).1,
        (
          λ ts forms h q. (all_none empty forms q).1,
          (
            λ ts forms h q. (all_none empty forms q).1,
            none_from_behavior_case,
          ),
        ),
      ),
    ),
  ),
)

none_from_modifier_word : EachNone 22 (drop 22 jml_productions)
none_from_modifier_word = (
  λ ts forms h q. (all_none empty forms q).1,
  (
    λ ts forms h q. (all_none empty forms q).1,
    (
      λ ts forms h q. (all_none empty forms q).1,
      (
        λ ts forms h q. (all_none empty forms q).1,
        (
          λ ts forms h q. (all_none empty forms q).1,
          (
            λ ts forms h q. (all_none empty forms q).1,
            none_from_contract,
          ),
        ),
      ),
    ),
  ),
)

none_from_class_end_specs : EachNone 17 (drop 17 jml_productions)
none_from_class_end_specs = (
  λ ts forms h q. (all_none empty forms q).1,
  (
    λ ts forms h q. (all_none empty forms q).1,
    (
      λ ts forms h q. (all_none empty forms q).1,
      (
        λ ts forms h q. (all_none empty forms q).1,
        (
          λ ts forms h q. (all_none empty forms q).1,
          none_from_modifier_word,
        ),
      ),
    ),
  ),
)

none_from_field_specs : EachNone 11 (drop 11 jml_productions)
none_from_field_specs = (
  λ ts forms h q. (all_none empty forms q).1,
  (
    λ ts forms h q. (all_none empty forms q).1,
    (
      λ ts forms h q. (all_none empty forms q).1,
      (
        λ ts forms h q. (all_none empty forms q).1,
        (
          λ ts forms h q. (all_none empty forms q).1,
          (
            λ ts forms h q. (all_none empty forms q).1,
            none_from_class_end_specs,
          ),
        ),
      ),
    ),
  ),
)

none_from_method_specs_behind_visibility : EachNone 5 (drop 5 jml_productions)
none_from_method_specs_behind_visibility = (
  λ ts forms h q. (all_none empty forms q).1,
  (
    λ ts forms h q. (all_none empty forms q).1,
    (
      λ ts forms h q. (all_none empty forms q).1,
      (
        λ ts forms h q. (all_none empty forms q).1,
        (
          λ ts forms h q. (all_none empty forms q).1,
          (
            λ ts forms h q. (all_none empty forms q).1,
            none_from_field_specs,
          ),
        ),
      ),
    ),
  ),
)

pub each_none : EachNone 0 jml_productions
each_none = (
  λ ts forms h q. (all_none empty forms q).1,
  (
    λ ts forms h q. (all_none empty forms q).1,
    (
      λ ts forms h q. (all_none empty forms q).1,
      (
        λ ts forms h q. (all_none empty forms q).1,
        (
          λ ts forms h q. (all_none empty forms q).1,
          none_from_method_specs_behind_visibility,
        ),
      ),
    ),
  ),
)
