use Rattle.std.proofs.Common.{◌≡◌, ◌+◌, ◌-◌, ◌*◌, ◌≤◌, List, ◌++◌, length}
use Rattle.mg_names.specs.Named.{Word}
use Rattle.mg_names.specs.Sign.{Sign, word_signs, Stops}
use Rattle.mg_names.proofs.Tails.{IsReadUpTo}
use Rattle.mg_names.proofs.words.+product.Given as goal

abbrev pub decreases-base : goal.decreases-base
decreases-base l = 4 * length l.cursor.now + 1

abbrev pub decreases-factor : goal.decreases-factor
decreases-factor l = 4 * length l.cursor.now + 2

abbrev pub decreases-in_round : goal.decreases-in_round
decreases-in_round l = 4 * length l.cursor.now

abbrev pub decreases-in_square : goal.decreases-in_square
decreases-in_square l = 4 * length l.cursor.now

abbrev pub decreases-product : goal.decreases-product
decreases-product l = 4 * length l.cursor.now + 3

abbrev pub invariant-product-loop-alloc : goal.invariant-product-loop-alloc
invariant-product-loop-alloc l = record {
  read :
      (w : Word) (rest : List Sign) → l.fn.cursor ≡ word_signs w ++ rest → Stops rest →
      IsReadUpTo l.home w rest l.fn.found l.word.letters l.cursor l.found;
  shorter : length l.cursor ≤ length l.fn.cursor - 1;
}

abbrev pub decreases-product-loop-alloc : goal.decreases-product-loop-alloc
decreases-product-loop-alloc l = length l.cursor
