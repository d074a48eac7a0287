use Rattle.std.proofs.Common.{◌≡◌, ℕ, ℤ, ◌+◌, ◌<◌, List, [], length, replicate, get_or, sym, subst, ap, ◌∙◌, inl, inr, arith}
use Rattle.std.specs.List.{AllByRecursion}
use Rattle.std.proofs.lemmas.Bool.{cases_lt}
use Rattle.std.proofs.lemmas.List.{length-map, length_push, get_or-map, get_or_push, get_or_append_left, drop_more}
use Rattle.mg_words.specs.Word.{IsOver, letters_of}
use Rattle.mg_cyclic.specs.Kept.{IsKept}
use Rattle.mg_cyclic.specs.declared.kept.Kept.{Kept}
use Rattle.mg_cyclic.proofs.Sums.{tuple}
use Rattle.mg_cyclic.proofs.kept.kept_of.Goals as goal

pub loop-word-preserved : goal.loop-word-preserved
loop-word-preserved c =
    let g : ℕ = c.args.generators in
    let words = c.args.words.now in
    let i : ℕ = c.loop-word.word-index in
    let old : List Kept = c.loop-word.rows.items in
    let new : List Kept = c.push.new.self.items in
    let one : Kept = c.of.result in
    let inv = c.loop-word.invariant in
    let there : i < length words = omega (arith, c.loop-word-test.true) in
    let left = drop_more words i c.word-item.result there in
    let word : get_or (letters_of words) i [] ≡ c.letters.result.now = get_or-map (λ w. w.letters) words i c.word-item.result [] there ∙ ap (λ w. w.letters) (sym c.word-item.is) ∙ sym c.letters.ensures in
    let is_kept : List ℤ → Kept → Type 0 = λ w row. IsKept (tuple 2 (replicate g 0)) w row in
    record {
      over = (subst (λ l. AllByRecursion (IsOver g) (letters_of l)) left inv.over).1;
      count = ap length c.in_ok-push.ensures.items ∙ length_push old one ∙ ap (λ n. n + 1) inv.count;
      each = λ k row below. elim (cases_lt k i) [
        | inl before ↦
            let same : get_or new k row ≡ get_or old k row = ap (λ l. get_or l k row) c.in_ok-push.ensures.items ∙ get_or_append_left old _ row k (omega (arith, before, inv.count)) in
            subst (is_kept (get_or (letters_of words) k [])) (sym same) (inv.each k row before)
        | inr here ↦
            let same : i ≡ k = omega (arith, below, here) in
            let last : get_or new i row ≡ one = ap (λ l. get_or l i row) c.in_ok-push.ensures.items ∙ get_or_push old one row i inv.count in
            subst (λ j. is_kept (get_or (letters_of words) j []) (get_or new j row)) same
            (subst (is_kept (get_or (letters_of words) i [])) (sym last) (subst (λ l. is_kept l one) (sym word) c.of.ensures))
      ];
    }

pub returns : goal.returns
returns c =
    let words = c.args.words.now in
    let count = c.loop-word.invariant.count in
    record {
      count = omega (arith, count, length-map words (λ w. w.letters), c.loop-word-test.false);
      each = λ k row below. c.loop-word.invariant.each k row (omega (arith, below, length-map words (λ w. w.letters), c.loop-word-test.false));
    }
