use Rattle.std.proofs.Common.{length}
use Rattle.mg_script.proofs.LineByLine.{AreRead}
use Rattle.mg_script.proofs.parsing.parse.Given as goal

-- the lines so far have been read
abbrev pub invariant-loop-line : goal.invariant-loop-line
invariant-loop-line l = AreRead l.bytes l.lines l.parser

abbrev pub decreases-loop-line : goal.decreases-loop-line
decreases-loop-line l = length l.lines
