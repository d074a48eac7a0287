-- A run of one search, for examples.
use Rattle.std.specs.Prelude.{ℕ, false, [], ◌∷◌}
use Rattle.mg_double.specs.Third.{Third}
use Rattle.mg_workers.specs.declared.held.End.TheVariants.{Fresh}
use Rattle.mg_workers.specs.Run.{Running}

-- one search that finds at its third unit, with units of which it may spend all, and an empty log
abbrev pub third_with : {R K G : Type 0} → K → G → ℕ → ℕ → Running R (Third K G)
third_with key group number units = record {
  rows = (record {
    search = record { key = key; group = group; spent = 0 };
    number = number;
    held = units;
    spent = 0;
    allowed = units;
    turns = 0;
    read = 0;
    end = Fresh;
    left = false;
    looked = false;
  }) ∷ [];
  log = [];
}
