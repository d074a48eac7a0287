use Rattle.std.proofs.Common.{◌≡◌, ◌++◌, take}
use Rattle.std.specs.List.{flat_map}
use Rattle.mg_certtext.specs.Pieces.{spaced}
use Rattle.mg_certtext.specs.Logs.{logged_pieces}
use Rattle.mg_certtext.proofs.logs.push_rules.Given as goal

abbrev pub invariant-loop-rule : goal.invariant-loop-rule
invariant-loop-rule l = l.out.items ≡ l.fn.out.items ++ spaced (flat_map (logged_pieces l.names) (take l.rule-index l.rules))
