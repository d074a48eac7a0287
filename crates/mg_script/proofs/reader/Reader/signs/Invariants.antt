use Rattle.std.proofs.Common.{◌≤◌, drop}
use Rattle.mg_script.specs.Grammar.{Rest}
use Rattle.mg_script.specs.Reader.{Start, Knows, signs_then, unread}
use Rattle.mg_script.proofs.reader.Reader.signs.Given as goal

-- the signs so far have been read
abbrev pub invariant-loop-sign : goal.invariant-loop-sign
invariant-loop-sign l = record {
  known : (s : Start) (r : Rest) → Knows s (signs_then l.signs r) l.fn.self → Knows s (signs_then (drop l.sign-index l.signs) r) l.self;
  forward : unread l.self ≤ unread l.fn.self;
}
