-- Sources and sinks over memory, as contracts see them.
use Rattle.std.specs.Prelude.{ℕ, List}
use Rattle.mg_io.specs.Causes.{raised}

-- the bytes left or taken, how many bytes a call moves at most, the numbers of the calls that fail,
-- the calls so far and how many of them failed
pub record Store : Type 0 where
  pub bytes : List ℕ
  pub most : ℕ
  pub failing : List ℕ
  pub calls : ℕ
  pub faults : ℕ

-- a store that grows, with how many bytes it can hold with no memory
pub record Growing : Type 0 where
  pub store : Store
  pub capacity : ℕ

-- the store after a call that left these bytes
abbrev pub moved : Store → List ℕ → Store
moved store bytes = record store { bytes = bytes; calls = raised store.calls }

-- the store after a call that failed
abbrev pub failed : Store → Store
failed store = record store { calls = raised store.calls; faults = raised store.faults }
