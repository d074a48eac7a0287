use Rattle.std.proofs.Common.{◌≡◌, ℕ, ◌+◌, ◌≤◌, List, length, drop, ap, subst, ◌∙◌}
use Rattle.std.specs.Prelude.{Err, Some}
use Rattle.mg_session.specs.Scripts.{IsRefused}
use Rattle.mg_session.specs.declared.script.SessionRefused.TheVariants.{Script}
use Rattle.mg_top.specs.Command.{HasMeaning}
use Rattle.mg_session.proofs.Meanings.{never_both}
use Rattle.mg_top.proofs.Answered.{whole_then, has_meaning, long_not_short}
use Rattle.mg_top.proofs.top.run_command.Goals as goal

pub returns-in-Err-Script-clause-refused : goal.returns-in-Err-Script-clause-refused
returns-in-Err-Script-clause-refused g c = λ r told.
    let same : c.in-Err-Script.refused ≡ r = cc told in
    whole_then (λ script. IsRefused script r) (g.S.Source.left c.args.source.now) (g.S.Source.left c.read_all.new.source) c.in-Ok.bytes.items c.in-Ok.ensures.whole
    (subst (λ (bytes : List ℕ). IsRefused bytes r) c.as_slice.ensures.value (c.in-Err-Script.ensures.script r (ap Err (c.in-Err-Script.field-0-is ∙ ap Script same))))

pub returns-in-Ok-write_all-clause-meaning : goal.returns-in-Ok-write_all-clause-meaning
returns-in-Ok-write_all-clause-meaning g c = λ _.
    whole_then HasMeaning (g.S.Source.left c.args.source.now) (g.S.Source.left c.read_all.new.source) c.in-Ok.bytes.items c.in-Ok.ensures.whole
    (subst HasMeaning c.as_slice.ensures.value (has_meaning _ c.as_slice.result.now c.in-Ok-run_named.output c.in-Ok-run_named.ensures.output))

pub returns-clause-meaning : goal.returns-clause-meaning
returns-clause-meaning g c = λ _.
    whole_then HasMeaning (g.S.Source.left c.args.source.now) (g.S.Source.left c.read_all.new.source) c.in-Ok.bytes.items c.in-Ok.ensures.whole
    (subst HasMeaning c.as_slice.ensures.value (has_meaning _ c.as_slice.result.now c.in-Ok-run_named.output c.in-Ok-run_named.ensures.output))

pub returns-in-Err-TooLong-clause-complete : goal.returns-in-Err-TooLong-clause-complete
returns-in-Err-TooLong-clause-complete g c =
    long_not_short (λ bytes. g.S.Source.left c.read_all.new.source ≡ Some (drop (1048576 + 1) bytes)) HasMeaning (g.S.Source.left c.args.source.now) 1048576 (c.in-Err-TooLong.ensures.too_long (ap Err c.in-Err-TooLong.field-0-is))

pub returns-in-Err-Script-clause-complete : goal.returns-in-Err-Script-clause-complete
returns-in-Err-Script-clause-complete g c =
    whole_then (λ script. length script ≤ 1048576 → HasMeaning script → ⊥) (g.S.Source.left c.args.source.now) (g.S.Source.left c.read_all.new.source) c.in-Ok.bytes.items c.in-Ok.ensures.whole
    (λ short meaning. never_both c.in-Ok.bytes.items meaning.0 c.in-Err-Script.refused meaning.1
    (subst (λ (bytes : List ℕ). IsRefused bytes c.in-Err-Script.refused) c.as_slice.ensures.value (c.in-Err-Script.ensures.script c.in-Err-Script.refused (ap Err c.in-Err-Script.field-0-is))))
