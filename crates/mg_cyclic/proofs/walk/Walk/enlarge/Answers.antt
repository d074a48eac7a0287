use Rattle.std.proofs.Common.{◌≡◌, ◌+◌, length, ap, sym, subst, ◌∙◌, arith}
use Rattle.std.proofs.lemmas.List.{with_items_is}
use Rattle.mg_numbers.specs.Residues.{ResidueTuple}
use Rattle.mg_cyclic.specs.Kept.{Keep}
use Rattle.mg_cyclic.proofs.Sums.{tuple}
use Rattle.mg_cyclic.proofs.walk.Walk.enlarge.Goals as goal

pub returns-clause-relators : goal.returns-clause-relators
returns-clause-relators c = λ words keep.
    let now = c.args.self.now in
    let new = c.enlarge.new.self in
    let count : length c.renew_all.new.rows ≡ now.relators.len = omega (arith, c.renew_all.auto.rows, c.deref_mut.ensures.len) in
    let modulus : c.modulus-modulus.result ≡ now.map.modulus + 1 = c.modulus-modulus.ensures.value ∙ ap (λ (t : ResidueTuple). t.modulus) c.enlarge.ensures in
    subst (λ l. Keep words new l) (sym (with_items_is now.relators c.renew_all.new.rows count))
    (c.renew_all.ensures words now.map new (length now.map.residues) c.requires.few c.requires.zeros (c.enlarge.ensures ∙ ap (λ n. tuple n now.map.residues) (sym modulus)) (subst (λ l. Keep words now.map l) (sym c.deref_mut.ensures.value) keep))

pub returns-clause-members : goal.returns-clause-members
returns-clause-members c = λ words keep.
    let now = c.args.self.now in
    let new = c.enlarge.new.self in
    let count : length c.renew_all-2.new.rows ≡ now.members.len = omega (arith, c.renew_all-2.auto.rows, c.deref_mut-2.ensures.len) in
    let modulus : c.modulus-modulus.result ≡ now.map.modulus + 1 = c.modulus-modulus.ensures.value ∙ ap (λ (t : ResidueTuple). t.modulus) c.enlarge.ensures in
    subst (λ l. Keep words new l) (sym (with_items_is now.members c.renew_all-2.new.rows count))
    (c.renew_all-2.ensures words now.map new (length now.map.residues) c.requires.few c.requires.zeros (c.enlarge.ensures ∙ ap (λ n. tuple n now.map.residues) (sym modulus)) (subst (λ l. Keep words now.map l) (sym c.deref_mut-2.ensures.value) keep))
