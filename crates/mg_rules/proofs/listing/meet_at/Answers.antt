use Rattle.std.proofs.Common.{◌≡◌, length, drop, take, false, true, ◌∙◌, sym, arith, List, ℤ, ap, ◌-◌, inl}
use Rattle.std.proofs.lemmas.List.{length-drop, take_rest}
use Rattle.mg_rules.proofs.Meetings.{short_from, short_to, long_overlaps, overlap_sizes, overlaps_from, overlaps_to}
use Rattle.mg_rules.proofs.listing.meet_at.Goals as goal

pub returns-then-i-j : goal.returns-then-i-j
returns-then-i-j c =
    let first : List ℤ = c.args.first.now in
    let second : List ℤ = c.args.second.now in
    let rest : take (length first - c.args.place) (drop c.args.place first) ≡ drop c.args.place first = take_rest first c.args.place in (
      λ t. short_from c.args.i c.args.j first second c.args.place (omega arith) c.if-i-j.true (sym (ap (take (length second)) rest) ∙ c.are_same.ensures.0 t),
      λ h. c.are_same.ensures.1 (ap (take (length second)) rest ∙ short_to c.args.i c.args.j first second c.args.place (omega arith) (omega (arith, ap length rest)) h),
    )

pub returns-then-place-eq0 : goal.returns-then-place-eq0
returns-then-place-eq0 c =
    let first : List ℤ = c.args.first.now in
    let second : List ℤ = c.args.second.now in
    let rest : take (length first - c.args.place) (drop c.args.place first) ≡ drop c.args.place first = take_rest first c.args.place in (
      λ (t : false ≡ true). absurd cc,
      λ h. absurd (let sizes = overlap_sizes first second c.args.place (long_overlaps c.args.i c.args.j first second c.args.place (omega (arith, ap length rest)) h) in omega (arith, sizes.some)),
    )

pub returns-then-place-first-2 : goal.returns-then-place-first-2
returns-then-place-first-2 c =
    let first : List ℤ = c.args.first.now in
    let second : List ℤ = c.args.second.now in
    let rest : take (length first - c.args.place) (drop c.args.place first) ≡ drop c.args.place first = take_rest first c.args.place in (
      λ t. inl (overlaps_from first second c.args.place (omega arith) (omega arith) (omega (arith, length-drop c.args.place first)) (omega (arith, ap length rest))
          (sym rest ∙ (c.are_same-then-place-first-2.ensures.0 t ∙ ap (λ w. take (length w) second) rest))),
      λ h. c.are_same-then-place-first-2.ensures.1 (rest ∙ (overlaps_to first second c.args.place (long_overlaps c.args.i c.args.j first second c.args.place (omega (arith, ap length rest)) h) ∙ sym (ap (λ w. take (length w) second) rest))),
    )
