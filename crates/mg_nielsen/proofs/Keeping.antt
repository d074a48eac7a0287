-- What states keep: a first state has it, and units keep it.
use Rattle.std.proofs.Common.{◌≢◌, ℕ, zero, suc, ◌+◌, ◌<◌, ◌≤◌, Bool, ℤ, List, [], ◌∷◌, set, length, sym, ap, subst, inl, inr, arith}
use Rattle.std.specs.List.{AllByRecursion}
use Rattle.mg_turn.specs.declared.bounds.TheConstants.{MOST_SYMBOLS}
use Rattle.mg_turn.specs.declared.outcome.Outcome.{Outcome}
use Rattle.mg_turn.specs.Turn.{goes_on}
use Rattle.mg_words.specs.Word.{IsOver}
use Rattle.mg_present.specs.Ask.{Inquiry, IsAsked, IsReducedOver}
use Rattle.mg_present.specs.Same.{Lies}
use Rattle.mg_certs.specs.Claim.{Fact}
use Rattle.mg_nielsen.specs.Expressed.{Expressed, IsExpressed}
use Rattle.mg_nielsen.specs.Moves.{Nielsen, Steps, Peels, Moves, Reaches, IsKept, words_of, signs_held, member_at, trimmed, stepped, peeled}
use Rattle.mg_nielsen.specs.Turn.{NielsenTurn}
use Rattle.mg_nielsen.proofs.Products.{all_set, expressed_trimmed, expressed_stepped, expressed_factor, rests_set}
use Rattle.mg_nielsen.proofs.Subgroups.{changed, old_lie, all_through, members_lie, lies_through, trimmed_word}
use Rattle.mg_nielsen.proofs.Bounds.{letters_set, signs_set, stepped_signs, peeled_signs, growth_next}

-- the subgroup words are over the generators
over_all : (m : ℕ) (words : List (List ℤ)) → AllByRecursion (IsReducedOver m) words → AllByRecursion (IsOver m) words
over_all m [] h = tt
over_all m (w ∷ words) h = (h.0.over, over_all m words h.1)

pub subgroup_over : (ask : Inquiry) → IsAsked ask → AllByRecursion (IsOver ask.group.generators) ask.subgroup
subgroup_over ask h = over_all ask.group.generators ask.subgroup h.words.subgroup_words

-- an elementary step
generated : (s : Nielsen) (place other : ℕ) (inverse left : Bool) → IsKept s → place < length s.members → other < length s.members → other ≢ place
    → AllByRecursion (Lies s.ask.group (words_of (set s.members place (trimmed (stepped s.members place other inverse left))))) s.ask.subgroup
unfolding changed
generated s place other inverse left h there other_there apart =
    all_through s.ask.group (words_of s.members) (words_of (changed s.members place other inverse left)) s.ask.subgroup
    (old_lie s.ask.group s.ask.subgroup s.members place other inverse left (subgroup_over s.ask h.asked) h.members there other_there apart) h.generate

step_kept : (before after : Nielsen) → Steps before after → signs_held after ≤ MOST_SYMBOLS → IsKept before → IsKept after
step_kept before after step few h =
    let place : ℕ = step.place in
    let new : Expressed = trimmed (stepped before.members place step.other step.inverse step.left) in
    let next : Nielsen = record before { members = set before.members place new; spent = before.spent + 1 } in
    let signs = signs_set before.members place new step.there in
    let letters = letters_set before.members place new step.there in
    let more = stepped_signs before.members place step.other step.inverse step.left step.other_there in
    let word = ap (λ (w : List ℤ). length w) (trimmed_word (stepped before.members place step.other step.inverse step.left)) in
    let shorter = step.shorter in
    let lengths = h.lengths in
    subst IsKept (sym step.after_it) (record {
      asked = h.asked;
      free = h.free;
      members = all_set (IsExpressed before.ask.subgroup) before.members place new
          (expressed_trimmed before.ask.subgroup _ (expressed_stepped before.ask.subgroup before.members place step.other step.inverse step.left h.members)) h.members;
      generate = generated before place step.other step.inverse step.left h step.there step.other_there step.apart;
      rests = h.rests;
      most = subst (λ (s : Nielsen). signs_held s ≤ MOST_SYMBOLS) step.after_it few;
      growth = growth_next (length before.ask.subgroup) before.spent (signs_held before) (signs_held next) h.growth (omega arith);
      lengths = omega arith;
    })

peel_kept : (before after : Nielsen) → Peels before after → signs_held after ≤ MOST_SYMBOLS → IsKept before → IsKept after
peel_kept before after peel few h =
    let goal : ℕ = peel.goal in
    let new : Expressed = peeled peel.factor (member_at before.rests goal) in
    let next : Nielsen = record before { rests = set before.rests goal new; spent = before.spent + 1 } in
    let signs = signs_set before.rests goal new peel.there in
    let letters = letters_set before.rests goal new peel.there in
    let more = peeled_signs before.members peel.factor (member_at before.rests goal) peel.is_factor in
    let shorter = peel.shorter in
    let lengths = h.lengths in
    subst IsKept (sym peel.after_it) (record {
      asked = h.asked;
      free = h.free;
      members = h.members;
      generate = h.generate;
      rests = rests_set before.ask.subgroup peel.factor before.rests before.ask.goals goal (expressed_factor before.ask.subgroup before.members peel.factor h.members peel.is_factor) h.rests;
      most = subst (λ (s : Nielsen). signs_held s ≤ MOST_SYMBOLS) peel.after_it few;
      growth = growth_next (length before.ask.subgroup) before.spent (signs_held before) (signs_held next) h.growth (omega arith);
      lengths = omega arith;
    })

pub move_kept : (before after : Nielsen) → Moves before after → signs_held after ≤ MOST_SYMBOLS → IsKept before → IsKept after
move_kept before after (inl step) few h = step_kept before after step few h
move_kept before after (inr peel) few h = peel_kept before after peel few h

pub reached_kept : (n : ℕ) (first last : Nielsen) → Reaches n first last → IsKept first → IsKept last
reached_kept zero first last e h = subst IsKept (sym e) h
reached_kept (suc n) first last r h = move_kept r.0 last r.2 r.3 (reached_kept n first r.0 r.1 h)

-- whether a search goes on isn't kept
pub kept_however : (s : Nielsen) (goes : Bool) → IsKept s → IsKept (record s { is_open = goes })
kept_however s goes h = record { asked = h.asked; free = h.free; members = h.members; generate = h.generate; rests = h.rests; most = h.most; growth = h.growth; lengths = h.lengths }

pub turn_kept : (search after : Nielsen) (units : ℕ) (outcome : Outcome Fact) → IsKept search → NielsenTurn search units outcome after → IsKept after
turn_kept search after units outcome h turn =
    subst IsKept (sym turn.after_it) (kept_however turn.reached (goes_on outcome.end) (reached_kept outcome.spent search turn.reached turn.reaches h))

-- the subgroup stays
pub subgroup_stays : (s : Nielsen) (w : List ℤ) → IsKept s → (Lies s.ask.group (words_of s.members) w → Lies s.ask.group s.ask.subgroup w) × (Lies s.ask.group s.ask.subgroup w → Lies s.ask.group (words_of s.members) w)
subgroup_stays s w h = (
  lies_through s.ask.group (words_of s.members) s.ask.subgroup w (members_lie s.ask.group s.ask.subgroup s.members (subgroup_over s.ask h.asked) h.members),
  lies_through s.ask.group s.ask.subgroup (words_of s.members) w h.generate,
)
