use Rattle.jd_local_texts.proofs.Texts.{not_marked, same_text, source_of, text_is_no_literal, text_is_word, unmarked, word_is_identifier}
use Rattle.jd_local_texts.proofs.laws.texts_of_locals_are_apart.Goals as goal

pub returns : goal.returns
returns c = record {
  word = λ x k lt w. text_is_word x k lt (word_is_identifier x w);
  no_literal = text_is_no_literal;
  source = λ x k w. source_of x k (unmarked x w);
  apart = λ x y j k v w. same_text x y j k (unmarked x v) (unmarked y w);
  no_temporary = not_marked;
}
