-- Turns of searches are sound, whatever the procedure.
use Rattle.std.proofs.Common.{◌≡◌, ℕ, ◌≤◌, Some, refl, sym, subst}
use Rattle.mg_core.specs.declared.entries.Facts.{Facts}
use Rattle.mg_turn.specs.declared.outcome.Outcome.{Outcome}
use Rattle.mg_turn.specs.declared.outcome.TurnEnd.{TurnEnd}
use Rattle.mg_turn.specs.declared.outcome.TurnEnd.TheVariants.{More, Found, Closed, Idle, Stopped, Full}
use Rattle.mg_turn.specs.Turn.{Searching, Sound, IsSound, EndFits, Settles}
use Rattle.mg_present.specs.Presentation.{Group}
use Rattle.mg_present.specs.Ask.{Inquiry}
use Rattle.mg_certs.specs.Claim.{Fact}
use Rattle.mg_certs.specs.Validity.{recording}
use Rattle.mg_plain.specs.Plain.{searching as plain_searching}
use Rattle.mg_plain.specs.Sounds.{plain_sound}
use Rattle.mg_cosets.specs.Cosets.{searching as enumerating_searching}
use Rattle.mg_cosets.specs.Sounds.{cosets_sound}
use Rattle.mg_nielsen.specs.Turn.{searching as reducing_searching}
use Rattle.mg_nielsen.specs.Sounds.{nielsen_sound}
use Rattle.mg_recall.specs.Recall.{searching as reading_searching}
use Rattle.mg_recall.specs.Sounds.{recall_sound}
use Rattle.mg_complete.specs.Turn.{searching as completing_searching}
use Rattle.mg_complete.specs.Sounds.{completion_sound}
use Rattle.mg_search.specs.Search.{Search, plain, completing, enumerating, reducing, recalling, searching}

-- what an end says of a search of some kind it says of it as a search
fits_as : {S : Type 0} (own : Searching Fact Inquiry Group S) (search : S) (whole : Search) (units : ℕ) (facts : Facts Fact) (spent : ℕ) (end : TurnEnd Fact) → searching.key whole ≡ own.key search → ((n : ℕ) → searching.wants whole n ≡ own.wants search n) → EndFits recording own search units facts spent end → EndFits recording searching whole units facts spent end
fits_as own search whole units facts spent More key wants h = (h.0, λ none. h.1 (subst (λ (n : ℕ). n ≡ 0) (wants units) none))
fits_as own search whole units facts spent (Found records) key wants h = subst (λ (ask : Inquiry). Settles recording ask records) (sym key) h
fits_as own search whole units facts spent (Closed records) key wants h = h
fits_as own search whole units facts spent Idle key wants h = (h.0, subst (λ (n : ℕ). 1 ≤ n) (sym (wants units)) h.1, h.2)
fits_as own search whole units facts spent (Stopped seen) key wants h =
    (h.0, subst (λ (ask : Inquiry). recording.settles seen.value ≡ Some ask) (sym key) h.1, λ some. h.2 (subst (λ (n : ℕ). 1 ≤ n) (wants units) some))
fits_as own search whole units facts spent (Full what count) key wants h = h

pub sound : Sound recording searching
sound (plain search) units facts outcome after opened some wanted turn =
    let there = plain_sound search units facts outcome turn.0 opened some (record { few = wanted.few; of_group = wanted.of_group }) turn.2 in
    subst (λ (s : Search). IsSound recording searching (plain search) units facts outcome s) (sym turn.1) (record {
      key = there.key;
      group = there.group;
      wants = there.wants;
      spent = there.spent;
      within = there.within;
      openness = there.openness;
      end = fits_as plain_searching search (plain search) units facts outcome.spent outcome.end refl (λ n. refl) there.end;
      valid = there.valid;
    })
sound (completing search) units facts outcome after opened some wanted turn =
    let there = completion_sound search units facts outcome turn.0 opened some (record { few = wanted.few; of_group = wanted.of_group }) turn.2 in
    subst (λ (s : Search). IsSound recording searching (completing search) units facts outcome s) (sym turn.1) (record {
      key = there.key;
      group = there.group;
      wants = there.wants;
      spent = there.spent;
      within = there.within;
      openness = there.openness;
      end = fits_as completing_searching search (completing search) units facts outcome.spent outcome.end refl (λ n. refl) there.end;
      valid = there.valid;
    })
sound (enumerating search) units facts outcome after opened some wanted turn =
    let there = cosets_sound search units facts outcome turn.0 opened some (record { few = wanted.few; of_group = wanted.of_group }) turn.2 in
    subst (λ (s : Search). IsSound recording searching (enumerating search) units facts outcome s) (sym turn.1) (record {
      key = there.key;
      group = there.group;
      wants = there.wants;
      spent = there.spent;
      within = there.within;
      openness = there.openness;
      end = fits_as enumerating_searching search (enumerating search) units facts outcome.spent outcome.end refl (λ n. refl) there.end;
      valid = there.valid;
    })
sound (reducing search) units facts outcome after opened some wanted turn =
    let there = nielsen_sound search units facts outcome turn.0 opened some (record { few = wanted.few; of_group = wanted.of_group }) turn.2 in
    subst (λ (s : Search). IsSound recording searching (reducing search) units facts outcome s) (sym turn.1) (record {
      key = there.key;
      group = there.group;
      wants = there.wants;
      spent = there.spent;
      within = there.within;
      openness = there.openness;
      end = fits_as reducing_searching search (reducing search) units facts outcome.spent outcome.end refl (λ n. refl) there.end;
      valid = there.valid;
    })
sound (recalling search) units facts outcome after opened some wanted turn =
    let there = recall_sound search units facts outcome turn.0 opened some (record { few = wanted.few; of_group = wanted.of_group }) turn.2 in
    subst (λ (s : Search). IsSound recording searching (recalling search) units facts outcome s) (sym turn.1) (record {
      key = there.key;
      group = there.group;
      wants = there.wants;
      spent = there.spent;
      within = there.within;
      openness = there.openness;
      end = fits_as reading_searching search (recalling search) units facts outcome.spent outcome.end refl (λ n. refl) there.end;
      valid = there.valid;
    })
