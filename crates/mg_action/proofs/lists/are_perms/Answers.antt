use Rattle.std.proofs.Common.{◌≡◌, ◌∙◌, ◌<◌, length, sym, subst, refl, arith}
use Rattle.std.specs.Slice.Iter.{chunks_exact_rest, chunks_exact_size}
use Rattle.mg_numbers.specs.Perms.{IsPerm}
use Rattle.mg_action.proofs.Rows.{whole_more, whole_less, whole_none, none_left, some_left}
use Rattle.mg_action.proofs.lists.are_perms.Goals as goal

pub returns-then-not-is_perm : goal.returns-then-not-is_perm
returns-then-not-is_perm c =
    let before = c.loop-perm.invariant in
    let long : length c.in-Some.perm.now ≡ c.args.degree = c.in-Some.ensures.steps.1.1 ∙ before.size in (
      (λ t. cc),
      λ whole.
          let parts = whole_less c.args.degree c.in-Some.perm.now (chunks_exact_rest c.next.new.self) (chunks_exact_rest c.loop-perm.perm-iterator) c.requires.points long c.in-Some.ensures.steps.1.0 (before.same.1 whole) in
          sym c.if-not-is_perm.true ∙ c.is_perm.ensures.1 (subst (λ d. IsPerm d c.in-Some.perm.now) (sym long) parts.0),
    )

pub loop-perm-preserved : goal.loop-perm-preserved
loop-perm-preserved c =
    let before = c.loop-perm.invariant in
    let d = c.args.degree in
    let x = c.in-Some.perm.now in
    let rest = chunks_exact_rest c.loop-perm.perm-iterator in
    let after = chunks_exact_rest c.next.new.self in
    let size : chunks_exact_size c.next.new.self ≡ d = c.in-Some.ensures.steps.0 ∙ before.size in
    let long : length x ≡ d = c.in-Some.ensures.steps.1.1 ∙ before.size in
    let perm : IsPerm d x = subst (λ n. IsPerm n x) long (c.is_perm.ensures.0 c.if-not-is_perm.false) in
    record {
      can_next = omega (arith, size, c.requires.points);
      is_finite = tt;
      size = size;
      fits = c.is_perm.auto.places ∙ before.fits;
      whole = some_left d x after rest long c.in-Some.ensures.steps.1.0 before.whole;
      same = (
        (λ whole. before.same.0 (whole_more d x after rest perm c.in-Some.ensures.steps.1.0 whole)),
        λ whole. (whole_less d x after rest c.requires.points long c.in-Some.ensures.steps.1.0 (before.same.1 whole)).1,
      );
    }

pub returns : goal.returns
returns c =
    let before = c.loop-perm.invariant in
    let rest = chunks_exact_rest c.loop-perm.perm-iterator in
    let short : length rest < c.args.degree = omega (arith, before.size, c.in-None.ensures.steps.1.0) in
    ((λ t. before.same.0 (whole_none c.args.degree rest (none_left c.args.degree rest before.whole short))), λ whole. refl)
