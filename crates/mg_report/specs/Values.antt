-- What the values handed in say.
use Rattle.std.specs.Prelude.{ℕ, Option, map, option_map}
use Rattle.std.specs.Borrow.{Bor}
use Rattle.mg_certs.specs.Claim.{Verdict, Fact, settled, model_of}
use Rattle.mg_certs.specs.Values.{model_value, verdict_of}
use Rattle.mg_certs.specs.declared.verdict.Verdict.{Verdict as Answer}
use Rattle.mg_report.specs.Report.{SearchLine, QuestionBlock}
use Rattle.mg_report.specs.Log.{Fate, kept, dropped_by, EntryLine, SumLine}
use Rattle.mg_report.specs.declared.blocks.SearchLine.{SearchLine as Search}
use Rattle.mg_report.specs.declared.blocks.QuestionBlock.{QuestionBlock as Question}
use Rattle.mg_report.specs.declared.facts.FactBlock.{FactBlock}
use Rattle.mg_report.specs.declared.facts.FactBlock.TheVariants.{Settled, ModelOf}
use Rattle.mg_report.specs.declared.log.Fate.{Fate as EntryFate}
use Rattle.mg_report.specs.declared.log.Fate.TheVariants.{Kept, DroppedBy}
use Rattle.mg_report.specs.declared.log.EntryLine.{EntryLine as Entry}
use Rattle.mg_report.specs.declared.log.SumLine.{SumLine as Sum}

abbrev pub search_of : Search → SearchLine
search_of s = record { procedure = s.procedure; account = s.account; end = s.end }

abbrev pub found_of : Option (ℕ × Bor Answer) → Option (ℕ × Verdict)
found_of found = option_map (λ v. (v.0, verdict_of v.1.now)) found

abbrev pub block_of : Question → QuestionBlock
block_of b = record { name = b.name.now; names = b.names.now; ask = b.ask.now; verdict = found_of b.verdict; searches = map search_of b.searches }

abbrev pub fact_of : FactBlock → Fact
fact_of (Settled ask verdict) = settled ask.now (verdict_of verdict.now)
fact_of (ModelOf group model) = model_of group.now (model_value model.now)

abbrev pub fate_of : EntryFate → Fate
fate_of (Kept records) = kept records
fate_of (DroppedBy fact) = dropped_by fact

abbrev pub entry_of : Entry → EntryLine
entry_of e = record { pass = e.pass; search = e.search; turn = e.turn; units = e.units; fate = fate_of e.fate }

abbrev pub sum_of : Sum → SumLine
sum_of s = record { search = s.search; name = s.name.now; procedure = s.procedure; units = s.units }
