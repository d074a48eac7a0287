-- What a log records about groups: verdicts with their certificates, and models.
use Rattle.std.specs.Prelude.{ℕ, List}
use Rattle.mg_present.specs.Presentation.{Group}
use Rattle.mg_present.specs.Ask.{Inquiry}
use Rattle.mg_derive.specs.declared.symbol.Symbol.{Symbol}
use Rattle.mg_rulelog.specs.declared.log.RuleLog.{RuleLog}
use Rattle.mg_numbers.specs.Perms.{PermTuple}
use Rattle.mg_numbers.specs.Residues.{ResidueTuple}
use Rattle.mg_rules.specs.Rule.{Rule}

-- a certificate that each goal lies in the subgroup: a derivation, or a log of rules
pub data Affirmation : Type 0 where
  derivation : List Symbol → Affirmation
  rulelog : RuleLog → Affirmation

-- a model of a group, which can refute goals: a finite action, a map to residues, or a complete
-- rewriting system
pub data Model : Type 0 where
  action : PermTuple → Model
  residues : ResidueTuple → Model
  complete : List Rule → Model

-- the goals lie, or the goal at a place from 0 does not
pub data Verdict : Type 0 where
  affirmed : Affirmation → Verdict
  refuted : (goal : ℕ) → Model → Verdict

-- what a record says: an Ask is settled by a verdict, or a model is one of a group
pub data Fact : Type 0 where
  settled : Inquiry → Verdict → Fact
  model_of : Group → Model → Fact
