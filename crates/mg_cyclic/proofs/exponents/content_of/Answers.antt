use Rattle.std.proofs.Common.{◌≡◌, ℕ, ◌<◌, length, get_or, sym, subst, ap, ◌∙◌, inl, inr, arith}
use Rattle.std.proofs.lemmas.Bool.{cases_lt}
use Rattle.std.proofs.lemmas.List.{length-map, get_or-map, drop_more}
use Rattle.std.proofs.lemmas.List.Elements.{recursion_from_All}
use Rattle.std.specs.List.{AllByRecursion}
use Rattle.mg_words.specs.Word.{IsOver, letters_of}
use Rattle.mg_cyclic.specs.Map.{residue_of_word}
use Rattle.mg_cyclic.specs.Exponents.{VanishesWith}
use Rattle.mg_cyclic.proofs.exponents.content_of.Goals as goal

pub loop-word-preserved : goal.loop-word-preserved
loop-word-preserved c =
    let words = c.args.words.now in
    let i : ℕ = c.loop-word.word-index in
    let there : i < length words = omega (arith, c.loop-word-test.true) in
    let left = drop_more words i c.word-item.result there in
    record {
      over = (subst (λ l. AllByRecursion (IsOver c.args.generators) (letters_of l)) left c.loop-word.invariant.over).1;
      each = λ k e below t is divides. elim (cases_lt k i) [
        | inl before ↦ c.loop-word.invariant.each k e before t is (c.content_with-content.ensures.content t.modulus (omega (arith, is.proper)) divides)
        | inr here ↦
            let same : k ≡ i = omega (arith, below, here) in
            let word : get_or (letters_of words) k e ≡ c.letters.result.now =
            ap (λ j. get_or (letters_of words) j e) same ∙ get_or-map (λ w. w.letters) words i c.word-item.result e there ∙ ap (λ w. w.letters) (sym c.word-item.is) ∙ sym c.letters.ensures in
            subst (λ l. residue_of_word t l ≡ 0) (sym word) (c.content_with-content.ensures.word t is divides)
      ];
    }

pub returns : goal.returns
returns c =
    recursion_from_All (VanishesWith c.args.generators c.loop-word.content) (letters_of c.args.words.now)
    (λ k e h. c.loop-word.invariant.each k e (omega (arith, h, length-map c.args.words.now (λ w. w.letters), c.loop-word-test.false)))
