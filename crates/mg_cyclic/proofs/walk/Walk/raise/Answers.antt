use Rattle.std.proofs.Common.{◌≡◌, length, sym, subst, arith}
use Rattle.std.proofs.lemmas.List.{with_items_is}
use Rattle.mg_cyclic.specs.Kept.{Keep}
use Rattle.mg_cyclic.proofs.Raises.{next_one}
use Rattle.mg_cyclic.proofs.walk.Walk.raise.Goals as goal

pub returns-clause-relators : goal.returns-clause-relators
returns-clause-relators c = λ words keep.
    let now = c.args.self.now in
    let new = c.raise-is_higher.new.self in
    let e = c.raise-is_higher.ensures in
    let turn = next_one c.args.place now.map new c.raise-is_higher.result c.modulus-modulus.ensures.residues c.requires.there e.up e.raised e.last e.around in
    let count : length c.raise_all.new.rows ≡ now.relators.len = omega (arith, c.raise_all.auto.rows, c.deref_mut.ensures.len) in
    subst (λ l. Keep words new l) (sym (with_items_is now.relators c.raise_all.new.rows count))
    (c.raise_all.ensures words now.map new (sym c.modulus-modulus.ensures.value) c.requires.few turn (subst (λ l. Keep words now.map l) (sym c.deref_mut.ensures.value) keep))

pub returns-clause-members : goal.returns-clause-members
returns-clause-members c = λ words keep.
    let now = c.args.self.now in
    let new = c.raise-is_higher.new.self in
    let e = c.raise-is_higher.ensures in
    let turn = next_one c.args.place now.map new c.raise-is_higher.result c.modulus-modulus.ensures.residues c.requires.there e.up e.raised e.last e.around in
    let count : length c.raise_all-2.new.rows ≡ now.members.len = omega (arith, c.raise_all-2.auto.rows, c.deref_mut-2.ensures.len) in
    subst (λ l. Keep words new l) (sym (with_items_is now.members c.raise_all-2.new.rows count))
    (c.raise_all-2.ensures words now.map new (sym c.modulus-modulus.ensures.value) c.requires.few turn (subst (λ l. Keep words now.map l) (sym c.deref_mut-2.ensures.value) keep))
