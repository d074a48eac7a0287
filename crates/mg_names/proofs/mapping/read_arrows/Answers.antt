use Rattle.std.proofs.Common.{◌≡◌, true}
use Rattle.mg_names.proofs.Mappings.{arrow_ahead, left_shorter, stepped, all_read}
use Rattle.mg_names.proofs.mapping.read_arrows.Goals as goal

pub read-requires : goal.read-requires
read-requires c =
    arrow_ahead c.args.target.now c.requires.arrows c.args.found.now c.loop-alloc.cursor c.loop-alloc.arrows c.loop-alloc.found (c.loop-alloc.invariant c.requires.arrows c.requires.written)
    (λ e. let t = c.loop-alloc-test.true in let g = c.is.ensures.1 e in cc) c.requires.sized

pub loop-alloc-smaller : goal.loop-alloc-smaller
loop-alloc-smaller c =
    left_shorter c.args.target.now c.requires.arrows c.args.found.now c.loop-alloc.cursor c.loop-alloc.arrows c.loop-alloc.found (c.loop-alloc.invariant c.requires.arrows c.requires.written)
    (λ e. let t = c.loop-alloc-test.true in let g = c.is.ensures.1 e in cc) c.read.new.cursor c.skip_comma.new.cursor c.read.new.self c.read.new.found c.in_ok-read.ensures c.skip_comma.ensures

pub loop-alloc-preserved : goal.loop-alloc-preserved
loop-alloc-preserved c all e =
    stepped c.args.target.now all c.args.found.now c.loop-alloc.cursor c.loop-alloc.arrows c.loop-alloc.found (c.loop-alloc.invariant all e)
    (λ f. let t = c.loop-alloc-test.true in let g = c.is.ensures.1 f in cc) c.read.new.cursor c.skip_comma.new.cursor c.read.new.self c.read.new.found c.in_ok-read.ensures c.skip_comma.ensures

pub returns : goal.returns
returns c all e =
    all_read c.args.target.now all c.args.found.now c.loop-alloc.cursor c.loop-alloc.arrows c.loop-alloc.found (c.loop-alloc.invariant all e)
    (let t = c.loop-alloc-test.false in let is : c.is.result ≡ true = cc in c.is.ensures.0 is)
