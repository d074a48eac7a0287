use Rattle.std.proofs.Common.{◌∙◌, arith}
use Rattle.mg_rules.specs.Reading.{whole}
use Rattle.mg_rules.proofs.Reading.{stands_next, tells_next}
use Rattle.mg_rules.proofs.rewriter.Stacks.descend.Goals as goal

pub rewriting-preserved : goal.rewriting-preserved
rewriting-preserved c =
    let start = whole c.args.self.now.read.items c.args.self.now.rest.items in
    let read = c.rewriting.self.read.items in
    let rest = c.rewriting.self.rest.items in
    let mid = c.read_on.new.self.read.items in
    let more = c.read_on.new.self.rest.items in
    let read' = c.use_rule.new.self.read.items in
    let rest' = c.use_rule.new.self.rest.items in
    record {
      stands = (stands_next c.args.rules.now start read rest mid more read' rest' c.in_ok-number.number c.requires.decrease c.rewriting.invariant.stands c.in_ok-number.ensures c.in_ok-use_rule.ensures).stands;
      told = λ asked. tells_next c.args.rules.now start read rest mid more read' rest' c.in_ok-number.number c.len.result c.args.told.now c.rewriting.told c.tell.new.told
          (c.rewriting.invariant.told asked) c.in_ok-number.ensures c.in_ok-use_rule.ensures (omega (arith, c.len.ensures, c.use_rule.new.self.read.ok)) (c.in_ok-tell.ensures.told asked);
      silent = λ quiet. c.tell.ensures.silent quiet ∙ c.rewriting.invariant.silent quiet;
    }

pub rewriting-smaller : goal.rewriting-smaller
rewriting-smaller c =
    let start = whole c.args.self.now.read.items c.args.self.now.rest.items in
    (stands_next c.args.rules.now start c.rewriting.self.read.items c.rewriting.self.rest.items c.read_on.new.self.read.items c.read_on.new.self.rest.items
    c.use_rule.new.self.read.items c.use_rule.new.self.rest.items c.in_ok-number.number c.requires.decrease c.rewriting.invariant.stands c.in_ok-number.ensures c.in_ok-use_rule.ensures).lower
