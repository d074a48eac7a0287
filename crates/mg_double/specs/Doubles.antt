-- What the made-up records and searches mean.
use Rattle.std.specs.Prelude.{ℕ, Some, None, true, if◌then◌else◌}
use Rattle.mg_core.specs.Recording.{Recording}
use Rattle.mg_turn.specs.Turn.{Searching}
use Rattle.mg_double.specs.declared.mark.Mark.{Mark}
use Rattle.mg_double.specs.declared.finder.Finder.{Finder}
use Rattle.mg_double.specs.Third.{Third, third, seen_as}

-- what marks mean: each settles its number, or is a model of it
abbrev pub marks : Recording Mark ℕ ℕ
marks = record {
  valid = λ mark. Unit {0};
  settles = λ mark. if mark.settling then Some mark.number else None;
  model_of = λ mark. if mark.settling then None else Some mark.number;
}

-- the mark that settles a number
abbrev pub verdict_for : ℕ → Mark
verdict_for number = record { settling = true; number = number }

-- the search that a finder is
abbrev pub third_of : Finder → Third ℕ ℕ
third_of finder = record { key = finder.key; group = finder.group; spent = finder.spent }

-- what finders mean: each finds at its third unit
abbrev pub finders : Searching Mark ℕ ℕ Finder
finders = seen_as third_of (third marks verdict_for)
