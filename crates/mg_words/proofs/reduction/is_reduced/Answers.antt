use Rattle.std.proofs.Common.{◌≡◌, ◌≢◌, ℕ, ◌+◌, ◌<◌, List, ℤ, pos, neg_ℤ, length, get_or, refl, sym, subst, arith}
use Rattle.mg_words.specs.Word.{IsReduced}
use Rattle.mg_words.proofs.Free.{undone_read, reduced_by_places}
use Rattle.mg_words.proofs.reduction.is_reduced.Goals as goal

pub returns-then-undoes : goal.returns-then-undoes
returns-then-undoes c =
    let w = c.letters-letters.result.now in
    let e : c.index-letters-place.result ≡ neg_ℤ c.index-letters-place-in-loop-place.result = (c.if-undoes.ensures).undoes.0 refl in
    (λ f. cc, λ h. absurd (undone_read w c.loop-place.place _ _ (omega arith) (omega arith) c.index-letters-place.is c.index-letters-place-in-loop-place.is e (subst (λ (t : List ℤ). IsReduced t) (sym c.letters-letters.ensures) h)))

pub returns : goal.returns
returns c =
    (λ f. reduced_by_places c.args.w.now.letters (pos 0) (subst (λ (t : List ℤ). (k : ℕ) → k + 1 < length t → get_or t (k + 1) (pos 0) ≢ neg_ℤ (get_or t k (pos 0))) c.letters-letters.ensures (λ k l. c.loop-place.invariant k (omega arith))), λ h. refl)
