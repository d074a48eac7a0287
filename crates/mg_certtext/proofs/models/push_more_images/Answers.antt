use Rattle.std.proofs.Common.{◌≡◌, ◌∙◌, length, ap, sym, append-nil, arith}
use Rattle.std.specs.Slice.Iter.{chunks_exact_rest, chunks_exact_size}
use Rattle.mg_action.proofs.Rows.{first_perm}
use Rattle.mg_certtext.proofs.Extended.{extends_by, extends_on}
use Rattle.mg_certtext.proofs.Images.{images_at_start, image_more, images_at_end}
use Rattle.mg_certtext.proofs.models.push_more_images.Goals as goal

pub loop-perm-init : goal.loop-perm-init
loop-perm-init c =
    let size : chunks_exact_size c.into_iter-perm-iterator.result ≡ c.args.degree = ap chunks_exact_size c.into_iter-perm-iterator.ensures.into_iter_gives ∙ c.chunks_exact-perm-items.ensures.size in
    let rest : chunks_exact_rest c.into_iter-perm-iterator.result ≡ c.args.images.now = ap chunks_exact_rest c.into_iter-perm-iterator.ensures.into_iter_gives ∙ c.chunks_exact-perm-items.ensures.rest in
    record {
      can_next = omega (arith, size, c.requires.points);
      is_finite = tt;
      size = size;
      left = c.requires.perms.0;
      each = c.requires.perms.1.each;
      rest = c.requires.perms.1.joined ∙ sym rest;
      done = λ perms are. images_at_start c.args.degree c.args.out.now.items c.requires.perms.0 perms c.requires.points c.requires.perms.1.each are.each (c.requires.perms.1.joined ∙ sym are.joined);
      behind = extends_by _ _ _ (sym (append-nil c.args.out.now.items));
    }

pub loop-perm-preserved : goal.loop-perm-preserved
loop-perm-preserved c =
    let before = c.loop-perm.invariant in
    let x = c.in-Some.perm.now in
    let size = c.in-Some.ensures.steps.0 ∙ before.size in
    let long : length x ≡ c.args.degree = c.in-Some.ensures.steps.1.1 ∙ before.size in
    let first = first_perm c.args.degree before.left x (chunks_exact_rest c.next.new.self) c.requires.points before.each (before.rest ∙ c.in-Some.ensures.steps.1.0) long in
    record {
      can_next = omega (arith, size, c.requires.points);
      is_finite = tt;
      size = size;
      left = first.tail;
      each = first.others;
      rest = first.rest;
      done = λ perms are. image_more c.loop-perm.out.items c.push_comma.new.out.items c.push_numbers.new.out.items before.left x first.tail c.in_ok-push_comma.ensures.pushed c.in_ok-push_numbers.ensures.pushed first.shape ∙ before.done perms are;
      behind = extends_on _ _ _ _ (extends_on _ _ _ _ before.behind c.in_ok-push_comma.ensures.pushed) c.in_ok-push_numbers.ensures.pushed;
    }

pub returns-clause-pushed : goal.returns-clause-pushed
returns-clause-pushed c perms are =
    let before = c.loop-perm.invariant in
    images_at_end c.args.degree c.loop-perm.out.items before.left (chunks_exact_rest c.loop-perm.perm-iterator) _ before.each before.rest (omega (arith, before.size, c.in-None.ensures.steps.1.0)) (before.done perms are)
