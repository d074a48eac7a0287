-- What is said of each status, without a line feed.
use Rattle.std.specs.Prelude.{ℕ, List, [], ◌++◌, codes}
use Rattle.std.specs.Fmt.{decimal}
use Rattle.mg_lex.specs.declared.refusal.Cause.{Cause}
use Rattle.mg_lex.specs.declared.refusal.Cause.TheVariants as cause
use Rattle.mg_lex.specs.declared.refusal.Refused.{Refused}
use Rattle.mg_command.specs.declared.command.UsageCause.{UsageCause}
use Rattle.mg_command.specs.declared.command.UsageCause.TheVariants.{NoCommand, UnknownCommand, BadWords}
use Rattle.mg_top.specs.declared.status.Status.{Status}
use Rattle.mg_top.specs.declared.status.Status.TheVariants.{Done, ReadFault, WriteFault, Usage, ScriptRefused, TooLong, NoMemory, NotBuilt}

-- a cause, by its number and its name
abbrev pub cause_text : Cause → List ℕ
cause_text cause.BadByte = codes "S1 BadByte"
cause_text cause.BadToken = codes "S2 BadToken"
cause_text cause.Unexpected = codes "S3 Unexpected"
cause_text cause.LineTooLong = codes "S4 LineTooLong"
cause_text cause.NumberTooLarge = codes "S5 NumberTooLarge"
cause_text cause.WordTooLong = codes "S6 WordTooLong"
cause_text cause.TooMany = codes "S7 TooMany"
cause_text cause.NameTaken = codes "S8 NameTaken"
cause_text cause.UnknownName = codes "S9 UnknownName"
cause_text cause.WrongKind = codes "S10 WrongKind"
cause_text cause.UnknownGenerator = codes "S11 UnknownGenerator"
cause_text cause.GeneratorTwice = codes "S12 GeneratorTwice"
cause_text cause.ImageMissing = codes "S13 ImageMissing"
cause_text cause.ProcedureDoesNotApply = codes "S14 ProcedureDoesNotApply"

abbrev pub at_line : ℕ → List ℕ
at_line line = codes "magnus: line " ++ decimal line

abbrev pub refused_text : Refused → List ℕ
refused_text r = at_line r.line ++ codes " column " ++ decimal r.column ++ codes ": " ++ cause_text r.cause

-- why words are no command, by its name
abbrev pub usage_text : UsageCause → List ℕ
usage_text NoCommand = codes "magnus: usage: NoCommand"
usage_text UnknownCommand = codes "magnus: usage: UnknownCommand"
usage_text BadWords = codes "magnus: usage: BadWords"

abbrev pub message_of : Status → List ℕ
message_of Done = []
message_of ReadFault = codes "magnus: read fault"
message_of WriteFault = codes "magnus: write fault"
message_of (Usage cause) = usage_text cause
message_of (ScriptRefused r) = refused_text r
message_of TooLong = codes "magnus: input too long"
message_of NoMemory = codes "magnus: no memory"
message_of (NotBuilt line) = at_line line ++ codes ": not built"
