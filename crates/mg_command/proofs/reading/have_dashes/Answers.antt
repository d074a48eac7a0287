use Rattle.std.proofs.Common.{◌∙◌, codes}
use Rattle.std.specs.Str.{bytes_eq}
use Rattle.clap.proofs.WalkLemmas.{list_any-map}
use Rattle.mg_command.proofs.reading.have_dashes.Goals as goal

pub returns : goal.returns
returns c = c.contains.ensures.value ∙ list_any-map (λ w. bytes_eq w (codes "--")) (λ w. w.now) c.args.words.now
