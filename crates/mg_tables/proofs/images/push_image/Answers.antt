use Rattle.std.proofs.Common.{◌∙◌, sym}
use Rattle.std.proofs.lemmas.Bool.{false≢true}
use Rattle.mg_tables.proofs.Spotting.{imaging_next, imaging_gap}
use Rattle.mg_tables.proofs.images.push_image.Goals as goal

pub returns-then-stands : goal.returns-then-stands
returns-then-stands c before h =
    imaging_next c.args.table.now.places c.args.letter before c.args.images.now.items c.push.new.self.items c.args.place c.image_of.ensures.0 c.image_of.result (c.stands.ensures.0 c.if-stands.true) c.image_of.ensures.1 c.image_of.ensures.2 c.in_ok-push.ensures.items h

pub returns : goal.returns
returns c before h =
    imaging_gap c.args.table.now.places c.args.letter before c.args.images.now.items c.args.place (λ s. false≢true (sym c.if-stands.false ∙ c.stands.ensures.1 s)) h
