use Rattle.std.proofs.Common.{refl}
use Rattle.mg_core.specs.Streaks.{next_of}
use Rattle.mg_core.proofs.tests.go_on.Goals as goal

pub returns : goal.returns
returns c went =
    let last = c.requires.0 in
    let ends = c.requires.1 in (
      next_of last,
      record {
        before = c.args.book.now;
        log_is = (c.in_ok-commit_next.ensures.ok last ends).1;
        kept = ends.kept;
        nothing = refl;
      },
    )
