-- What is told of a refusal.
use Rattle.mg_script.specs.declared.parsing.ParseRefused.{ParseRefused}
use Rattle.mg_script.specs.declared.parsing.ParseRefused.TheVariants as parse
use Rattle.mg_names.specs.declared.resolving.ResolveRefused.{ResolveRefused}
use Rattle.mg_names.specs.declared.resolving.ResolveRefused.TheVariants as resolve
use Rattle.mg_session.specs.declared.script.SessionRefused.{SessionRefused}
use Rattle.mg_session.specs.declared.script.SessionRefused.TheVariants.{Script, NoMemory}

-- what is told where reading refuses the bytes
abbrev pub of_reading : ParseRefused → SessionRefused
of_reading (parse.Refused r) = Script r
of_reading parse.NoMemory = NoMemory

-- what is told where resolving refuses the script
abbrev pub of_resolving : ResolveRefused → SessionRefused
of_resolving (resolve.Refused r) = Script r
of_resolving resolve.NoMemory = NoMemory
