use Rattle.std.proofs.Common.{◌≡◌, ◌+◌, ℕ, ◌∙◌, ap, sym, subst, length, arith}
use Rattle.std.proofs.lemmas.List.{with_items_is}
use Rattle.mg_numbers.specs.Residues.{ResidueTuple, residue_tuples_below}
use Rattle.mg_numbers.proofs.ResiduesLaws.{residue_tuple_of_block}
use Rattle.mg_cyclic.specs.Number.{IsNumbered}
use Rattle.mg_cyclic.proofs.Sums.{tuple}
use Rattle.mg_cyclic.proofs.residues.Residues.put_number.Goals as goal

pub returns : goal.returns
returns c =
    let m : ℕ = length c.args.self.now.residues in
    let size : ℕ = c.residue_block-block.result.size in
    let index : ℕ = c.residue_block-block.result.index in
    let before : length c.self.inside.images.items ≡ m = ap (λ (map : ResidueTuple). length map.residues) c.self.view_is in
    let generators : c.len.result ≡ m = omega (arith, c.len.ensures, c.self.inside.images.ok, before) in
    let count : length c.residues_of.new.out ≡ m = omega (arith, c.residues_of.auto.out, c.self.inside.images.ok, before) in
    let place : residue_tuples_below m size + index + 1 ≡ c.args.number = ap (λ k. residue_tuples_below k size + index + 1) (sym generators) ∙ c.residue_block-block.ensures.place in
    let seen = ap (tuple size) (with_items_is c.self.inside.images c.residues_of.new.out (omega (arith, count, c.self.inside.images.ok, before))) in
    subst (λ (map : ResidueTuple). IsNumbered m map c.args.number) (sym seen)
    (residue_tuple_of_block m c.args.number size index c.residues_of.new.out c.residue_block-block.ensures.proper place count c.residues_of.ensures.below c.residues_of.ensures.digits)
