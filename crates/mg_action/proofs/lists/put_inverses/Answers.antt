use Rattle.std.proofs.Common.{◌≡◌, ◌∙◌, length, ap, sym, subst, arith}
use Rattle.std.specs.Slice.Iter.{chunks_exact_rest, chunks_exact_size}
use Rattle.std.proofs.lemmas.List.{length-append}
use Rattle.mg_numbers.specs.Perms.{IsPerm}
use Rattle.mg_action.specs.Permutation.{inverse_of}
use Rattle.mg_action.proofs.Permutations.{length-inverse}
use Rattle.mg_action.proofs.Rows.{first_perm, all_inverses, inverse_more, no_rows_left}
use Rattle.mg_action.proofs.lists.put_inverses.Goals as goal

pub loop-perm-init : goal.loop-perm-init
loop-perm-init c =
    let size : chunks_exact_size c.into_iter-perm-iterator.result ≡ c.args.degree = ap chunks_exact_size c.into_iter-perm-iterator.ensures.into_iter_gives ∙ c.chunks_exact-perm-items.ensures.size in
    let rest : chunks_exact_rest c.into_iter-perm-iterator.result ≡ c.args.perms.now = ap chunks_exact_rest c.into_iter-perm-iterator.ensures.into_iter_gives ∙ c.chunks_exact-perm-items.ensures.rest in
    record {
      can_next = omega (arith, size, c.requires.points);
      is_finite = tt;
      size = size;
      left = c.requires.perms.0;
      each = c.requires.perms.1.each;
      rest = c.requires.perms.1.joined ∙ sym rest;
      done = λ perms are. all_inverses c.args.degree c.clear.new.self.items c.requires.perms.0 perms c.requires.points c.clear.ensures.items c.requires.perms.1.each are.each (c.requires.perms.1.joined ∙ sym are.joined);
      room = omega (arith, ap length rest, ap length c.clear.ensures.items, c.requires.room, c.clear.ensures.capacity);
      capacity = omega (arith, c.clear.ensures.capacity);
    }

pub push_inverse-requires-clause-perm : goal.push_inverse-requires-clause-perm
push_inverse-requires-clause-perm c =
    let before = c.loop-perm.invariant in
    let long : length c.in-Some.perm.now ≡ c.args.degree = c.in-Some.ensures.steps.1.1 ∙ before.size in
    let first = first_perm c.args.degree before.left c.in-Some.perm.now (chunks_exact_rest c.next.new.self) c.requires.points before.each (before.rest ∙ c.in-Some.ensures.steps.1.0) long in
    subst (λ d. IsPerm d c.in-Some.perm.now) (sym long) first.perm

pub loop-perm-preserved : goal.loop-perm-preserved
loop-perm-preserved c =
    let before = c.loop-perm.invariant in
    let x = c.in-Some.perm.now in
    let size = c.in-Some.ensures.steps.0 ∙ before.size in
    let long : length x ≡ c.args.degree = c.in-Some.ensures.steps.1.1 ∙ before.size in
    let first = first_perm c.args.degree before.left x (chunks_exact_rest c.next.new.self) c.requires.points before.each (before.rest ∙ c.in-Some.ensures.steps.1.0) long in
    record {
      can_next = omega (arith, size, c.requires.points);
      is_finite = tt;
      size = size;
      left = first.tail;
      each = first.others;
      rest = first.rest;
      done = λ perms are. inverse_more c.loop-perm.list.items before.left x first.tail c.push_inverse.new.list.items c.push_inverse.ensures.inverse first.shape ∙ before.done perms are;
      room = omega (arith, before.room, ap length c.in-Some.ensures.steps.1.0, length-append x (chunks_exact_rest c.next.new.self), ap length c.push_inverse.ensures.inverse, length-append c.loop-perm.list.items (inverse_of x), length-inverse x, c.push_inverse.ensures.capacity);
      capacity = omega (arith, before.capacity, c.push_inverse.ensures.capacity);
    }

pub returns-clause-inverses : goal.returns-clause-inverses
returns-clause-inverses c each are =
    let before = c.loop-perm.invariant in
    no_rows_left c.args.degree c.loop-perm.list.items before.left each (chunks_exact_rest c.loop-perm.perm-iterator) before.each before.rest (omega (arith, before.size, c.in-None.ensures.steps.1.0)) (before.done each are)
