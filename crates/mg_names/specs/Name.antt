-- The name that a reader lends, as a name of the line.
use Rattle.mg_names.specs.declared.cursor.Name.{Name}
use Rattle.mg_names.specs.Named.{Named}

abbrev pub named_of : Name → Named
named_of name = record { text = name.text.now; place = name.place }
