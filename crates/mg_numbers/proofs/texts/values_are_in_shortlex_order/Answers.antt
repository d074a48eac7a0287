use Rattle.mg_numbers.proofs.TextsValues.{order_of_values, value_in_order}
use Rattle.mg_numbers.proofs.texts.values_are_in_shortlex_order.Goals as goal

pub returns : goal.returns
returns c = λ base s t a b. (order_of_values base s t a b, value_in_order base s t a b)
