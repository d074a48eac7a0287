use Rattle.std.proofs.Common.{◌≡◌, ◌≤◌, ◌++◌, map, neg_ℤ}
use Rattle.mg_words.specs.Reduction.{free_form}
use Rattle.mg_derive.proofs.checker.write_inverse.Given as goal

abbrev pub invariant-loop-letter : goal.invariant-loop-letter
invariant-loop-letter l = record {
  can : (goal.iterator-loop-letter).can_next l.letter-iterator;
  finite : (goal.iterator-loop-letter).is_finite l.letter-iterator;
  done : l.written.letters ≡ free_form (l.initial.written.letters ++ map neg_ℤ (map (λ y. y.now) l.yielded));
  room : l.initial.written.capacity ≤ l.written.capacity;
}
