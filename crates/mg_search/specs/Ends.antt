-- How searches by each procedure may end.
use Rattle.mg_turn.specs.declared.outcome.TurnEnd.{TurnEnd}
use Rattle.mg_turn.specs.declared.outcome.TurnEnd.TheVariants.{More, Found, Closed, Idle, Stopped, Full}
use Rattle.mg_words.specs.declared.procedure.Procedure.{Procedure}
use Rattle.mg_words.specs.declared.procedure.Procedure.TheVariants.{Derive, Act, Residue, Rewrite, Cosets, Nielsen, Recall}
use Rattle.mg_certs.specs.Claim.{Fact}

-- a search that publishes models without a verdict
abbrev pub CanClose : Procedure → Type 0
CanClose Derive = ⊥
CanClose Act = ⊥
CanClose Residue = ⊥
CanClose Rewrite = ⊥
CanClose Cosets = Unit {0}
CanClose Nielsen = Unit {0}
CanClose Recall = ⊥

-- a search that reads models
abbrev pub CanIdle : Procedure → Type 0
CanIdle Derive = ⊥
CanIdle Act = ⊥
CanIdle Residue = ⊥
CanIdle Rewrite = ⊥
CanIdle Cosets = ⊥
CanIdle Nielsen = ⊥
CanIdle Recall = Unit {0}

-- a search that keeps what may pass a limit
abbrev pub CanFill : Procedure → Type 0
CanFill Derive = ⊥
CanFill Act = ⊥
CanFill Residue = ⊥
CanFill Rewrite = Unit {0}
CanFill Cosets = Unit {0}
CanFill Nielsen = Unit {0}
CanFill Recall = ⊥

-- a turn of a search by the procedure may end so
abbrev pub MayEnd : TurnEnd Fact → Procedure → Type 0
MayEnd (Closed records) procedure = CanClose procedure
MayEnd Idle procedure = CanIdle procedure
MayEnd (Full what count) procedure = CanFill procedure
MayEnd More procedure = Unit {0}
MayEnd (Found records) procedure = Unit {0}
MayEnd (Stopped seen) procedure = Unit {0}
