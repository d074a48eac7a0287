use Rattle.mg_numbers.proofs.TextsValues.{text_unique, text_of_each}
use Rattle.mg_numbers.proofs.texts.texts_and_numbers_correspond.Goals as goal

pub returns : goal.returns
returns c = record { one_text = text_unique; each_number = text_of_each }
