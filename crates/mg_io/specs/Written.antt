-- What a refused write tells.
use Rattle.std.specs.Prelude.{ℕ}
use Rattle.mg_io.specs.declared.whole.WriteRefused.{WriteRefused}
use Rattle.mg_io.specs.declared.whole.WriteRefused.TheVariants.{Fault}

-- how many bytes were taken before the sink failed
abbrev pub written_of : WriteRefused → ℕ
written_of (Fault written) = written
