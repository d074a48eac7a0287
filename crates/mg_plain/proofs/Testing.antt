-- What a search through objects does is a turn of a plain search.
use Rattle.std.proofs.Common.{◌≡◌, ℕ, ◌+◌, List, subst, arith}
use Rattle.mg_turn.specs.declared.outcome.TurnEnd.TheVariants as ends
use Rattle.mg_numbers.specs.declared.advance.Advance.TheVariants.{More, Found}
use Rattle.mg_action.specs.Search as by_action
use Rattle.mg_cyclic.specs.Search as by_residues
use Rattle.mg_certs.specs.Claim.{action, residues, Fact}
use Rattle.mg_certs.specs.Refuting.{no_and_model}
use Rattle.mg_plain.specs.Plain.{Plain, IsPlain, PlainTurn, PublishesHere, SomeAccepted}
use Rattle.mg_plain.specs.Objects.{seen, HasFound, Advances}
use Rattle.mg_plain.specs.declared.objects.Objects.{Objects}
use Rattle.mg_plain.specs.declared.objects.Objects.TheVariants.{Texts, Actions, Maps}

-- the procedure of a search through objects is built
pub objects_plain : (objects : Objects) → IsPlain (seen objects).procedure
objects_plain (Texts texts) = tt
objects_plain (Actions actions) = tt
objects_plain (Maps maps) = tt

-- a search that accepts none goes on
pub turn_more : (search after : Plain) (units : ℕ) → IsPlain search.procedure → Advances search units More after → PlainTurn search units (record { spent = units; end = ends.More }) after
turn_more search after units plain advances = record { is_plain = plain; end = advances.0; after_it = advances.1 }

-- a search finds, and what it found is published
pub turn_found : (search after : Plain) (units spent : ℕ) (records : List Fact) → IsPlain search.procedure → Advances search units (Found spent) after → PublishesHere after records → PlainTurn search units (record { spent = spent; end = ends.Found records }) after
turn_found search after units spent records plain advances published = record {
  is_plain = plain;
  end = (advances.0, subst (λ (s : Plain). PublishesHere s records) advances.1 published);
  after_it = advances.1;
}

pub some_accepted : (search after : Plain) (units spent : ℕ) → Advances search units (Found spent) after → SomeAccepted search.procedure search.ask search.cursor (search.cursor + units)
some_accepted search after units spent advances =
    let some = advances.0.some in let within = advances.0.within in
    (search.cursor + spent, omega arith, omega arith, advances.0.holds)

-- what is published of the object that was found
pub action_published : (actions : by_action.Searched) (records : List Fact) → HasFound (Actions actions) → records ≡ no_and_model actions.ask actions.goal (action actions.action) → PublishesHere (seen (Actions actions)) records
action_published actions records found is = (actions.action, found.0, record { goal = actions.goal; refutes = found.1; least = found.2; records_are = is })

pub map_published : (maps : by_residues.Searched) (records : List Fact) → HasFound (Maps maps) → records ≡ no_and_model maps.ask maps.goal (residues maps.map) → PublishesHere (seen (Maps maps)) records
map_published maps records found is = (maps.map, found.0, record { goal = maps.goal; refutes = found.1; least = found.2; records_are = is })
