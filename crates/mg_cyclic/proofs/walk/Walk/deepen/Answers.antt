use Rattle.std.proofs.Common.{arith}
use Rattle.mg_cyclic.proofs.Stretches.{zeros_deeper}
use Rattle.mg_cyclic.proofs.walk.Walk.deepen.Goals as goal

pub returns-clause-place : goal.returns-clause-place
returns-clause-place c = λ ask p.
    let e = p.equipped in
    record {
      equipped = record { asked = e.asked; some = e.some; content = e.content };
      count = p.count;
      standing = record { map = p.standing.map; level = omega (arith, c.requires.left); zeros = zeros_deeper c.args.self.now.level c.args.self.now.map.residues p.standing.zeros };
      relators = p.relators;
      members = p.members;
    }
