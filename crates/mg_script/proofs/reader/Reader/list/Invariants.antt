use Rattle.mg_script.specs.Grammar.{Rest, more, list_then}
use Rattle.mg_script.specs.Reader.{Start, Knows, unread}
use Rattle.mg_script.specs.Lists.{item_of}
use Rattle.mg_script.proofs.reader.Reader.list.Given as goal

-- more members may follow
abbrev pub invariant-loop-member : goal.invariant-loop-member
invariant-loop-member l = (s : Start) (r : Rest) → Knows s (list_then (item_of l.member) r) l.fn.self → Knows s (more (item_of l.member) r) l.self

abbrev pub decreases-loop-member : goal.decreases-loop-member
decreases-loop-member l = unread l.self
