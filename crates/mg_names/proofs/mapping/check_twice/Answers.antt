use Rattle.std.proofs.Common.{◌+◌, Option, List, take, subst, sym}
use Rattle.std.specs.Prelude.{map}
use Rattle.std.proofs.lemmas.List.{take_all}
use Rattle.mg_names.specs.declared.cursor.Name.{Name}
use Rattle.mg_names.specs.Cause.{Shown, twice}
use Rattle.mg_names.specs.Least.{Gets}
use Rattle.mg_names.specs.Name.{named_of}
use Rattle.mg_names.proofs.Mappings.{named_more, twice_again, twice_new}
use Rattle.mg_names.proofs.mapping.check_twice.Goals as goal
use Rattle.mg_names.proofs.mapping.check_twice.Goals.{then-not-branch, else-not-branch}

pub loop-name-preserved : goal.loop-name-preserved
loop-name-preserved c =
    let names = c.args.names.now in
    let i = c.loop-name.name-index in
    let less = c.loop-name-test.true in
    let before = c.loop-name.invariant in (
      elim c.if-not-branch.branch [
        | then-not-branch w ↦ subst (λ (o : Option Shown). Gets (twice (map named_of (take (i + 1) names))) c.args.found.now o) (sym w.found-is)
            (twice_again names i _ c.args.found.now c.loop-name.found w.offer.new.self _ _ less before.0 before.1 c.in_ok-insert.ensures.added w.if-not-branch.true w.offer.ensures)
        | else-not-branch w ↦ subst (λ (o : Option Shown). Gets (twice (map named_of (take (i + 1) names))) c.args.found.now o) (sym w.found-is)
            (twice_new names i _ c.args.found.now c.loop-name.found _ _ less before.0 before.1 c.in_ok-insert.ensures.added w.if-not-branch.false)
      ],
      λ text. named_more names i _ text _ _ less before.1 (c.in_ok-insert.ensures.updates.0 text),
    )

pub returns : goal.returns
returns c = subst (λ (ns : List Name). Gets (twice (map named_of ns)) c.args.found.now c.loop-name.found) (take_all c.loop-name.name-index c.args.names.now c.loop-name-test.false) c.loop-name.invariant.0
