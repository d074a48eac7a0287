-- What the functions of a search do with its fields.
use Rattle.std.proofs.Common.{◌≡◌, ◌≢◌, ℕ, zero, suc, ◌+◌, ◌-◌, ◌<◌, ◌≤◌, Bool, true, false, cond, Some, ℤ, pos, List, [], ◌∷◌, ◌++◌, length, get_or, drop, set, refl, sym, ap, subst, ◌∙◌, inl, inr, append_assoc, arith, slice_get, add-one}
use Rattle.std.specs.List.{AllByRecursion}
use Rattle.std.proofs.lemmas.Bool.{cases_lt}
use Rattle.std.proofs.lemmas.List.{drop_more}
use Rattle.std.proofs.lemmas.Option.{get_or_from_slice_get}
use Rattle.mg_turn.specs.declared.bounds.TheConstants.{MOST_SYMBOLS, MOST_LETTERS}
use Rattle.mg_turn.specs.declared.outcome.TurnEnd.{TurnEnd}
use Rattle.mg_turn.specs.declared.outcome.TurnEnd.TheVariants.{Found}
use Rattle.mg_turn.specs.Turn.{goes_on}
use Rattle.mg_words.specs.Word.{IsReduced}
use Rattle.mg_words.proofs.Free.{IsReduced-free_form}
use Rattle.mg_present.specs.Ask.{Inquiry, IsAsked}
use Rattle.mg_present.specs.Image.{image_of}
use Rattle.mg_derive.specs.declared.symbol.Symbol.{Symbol}
use Rattle.mg_derive.specs.Symbols.{written_out}
use Rattle.mg_derive.specs.Acceptance.{IsAccepted}
use Rattle.mg_certs.specs.Claim.{derivation, affirmed, Fact, settled}
use Rattle.mg_nielsen.specs.Expressed.{Expressed, IsExpressed, AreRests}
use Rattle.mg_nielsen.specs.Moves.{Nielsen, Moves, Reaches, NothingShortens, IsKept, member_at, stepped, trimmed, IsSingle, IsFactor, one, two, peeled, signs_in, signs_held}
use Rattle.mg_nielsen.specs.Turn.{NielsenEnd, NielsenTurn, NoRest, Publishes, text_of, first_members, first_rests}
use Rattle.mg_nielsen.specs.declared.choice.Pick.{Pick}
use Rattle.mg_nielsen.specs.declared.choice.Pick.TheVariants.{One, Two}
use Rattle.mg_nielsen.specs.declared.choice.StepPick.{StepPick}
use Rattle.mg_nielsen.specs.declared.nielsen.Move.TheVariants.{Peel, Step}
use Rattle.mg_nielsen.specs.Choice.{quotient_length, AreReduced, place_of, inverse_of, numbered, IsNumber, picked, IsPick, made, IsMove, HasMade, IsHeld, IsLast}
use Rattle.mg_nielsen.proofs.Bounds.{signs_set}
use Rattle.mg_nielsen.proofs.Cancelling.{below, not_below}
use Rattle.mg_nielsen.proofs.Keeping.{move_kept}
use Rattle.mg_nielsen.proofs.Choosing.{letters_reduced}
use Rattle.mg_nielsen.proofs.Ends.{first_kept, first_signs, first_count, rest_signs}
use Rattle.mg_nielsen.proofs.Accepting.{signs_accepted}

-- one more first member
pub first_next : (words : List (List ℤ)) (place : ℕ) (members : List Expressed) (new : Expressed) (w : List ℤ) (all : List Expressed) → place < length words → slice_get words place ≡ Some w
    → new ≡ record { word = w; signs = pos (place + 1) ∷ [] } → members ++ first_members (place + 1) (drop place words) ≡ all → (members ++ new ∷ []) ++ first_members (place + 1 + 1) (drop (place + 1) words) ≡ all
first_next words place members new w all there at is before =
    append_assoc members (new ∷ []) (first_members (place + 1 + 1) (drop (place + 1) words))
    ∙ (ap (λ (e : Expressed). members ++ e ∷ first_members (place + 1 + 1) (drop (place + 1) words)) is
    ∙ (ap (λ t. members ++ first_members (place + 1) t) (ap (λ v. v ∷ drop (place + 1) words) (sym (get_or_from_slice_get words place w [] at)) ∙ sym (drop_more words place [] there)) ∙ before))

-- the words of a state are reduced
all_reduced : (subgroup : List (List ℤ)) (members : List Expressed) → AllByRecursion (IsExpressed subgroup) members → AreReduced members
all_reduced subgroup [] h = tt
all_reduced subgroup (e ∷ members) h = (subst IsReduced (sym h.0.word) (IsReduced-free_form (image_of subgroup e.signs)), all_reduced subgroup members h.1)

rests_reduced : (subgroup : List (List ℤ)) (rests : List Expressed) (goals : List (List ℤ)) → AreRests subgroup rests goals → AreReduced rests
rests_reduced subgroup [] goals h = tt
rests_reduced subgroup (rest ∷ rests) [] h = absurd h
rests_reduced subgroup (rest ∷ rests) (goal ∷ goals) h = (h.0.reduced, rests_reduced subgroup rests goals h.1)

pub held_reduced : (s : Nielsen) (held : ℕ) (members : List Expressed) → IsHeld held s → members ≡ s.members → AreReduced members
held_reduced s held members h e = subst AreReduced (sym e) (all_reduced s.ask.subgroup s.members h.kept.members)

pub held_rests_reduced : (s : Nielsen) (held : ℕ) (rests : List Expressed) → IsHeld held s → rests ≡ s.rests → AreReduced rests
held_rests_reduced s held rests h e = subst AreReduced (sym e) (rests_reduced s.ask.subgroup s.rests s.ask.goals h.kept.rests)

pub read_reduced : (rests : List Expressed) (goal : ℕ) (e : Expressed) (w : List ℤ) → AreReduced rests → goal < length rests → e ≡ get_or rests goal e → w ≡ e.word → IsReduced w
read_reduced rests goal e w h there r is = letters_reduced rests goal false e w h there r is

-- what is picked is a factor
place_below : (members : List Expressed) (n : ℕ) → IsNumber members n → place_of members n < length members
place_below members n h =
    elim (cases_lt n (length members)) as (λ _. place_of members n < length members) [
      | inl first ↦ subst (λ (b : Bool). cond b n (n - length members) < length members) (sym (below n (length members) first)) first
      | inr second ↦ subst (λ (b : Bool). cond b n (n - length members) < length members) (sym (not_below n (length members) second)) (omega arith)
    ]

number_single : (members : List Expressed) (n : ℕ) → IsNumber members n → IsSingle members (numbered members n)
number_single members n h = record { place = place_of members n; inverse = inverse_of members n; there = place_below members n h; is = refl }

pick_factor : (members : List Expressed) (pick : Pick) → IsPick members pick → IsFactor members (picked members pick)
pick_factor members (One n) h = one (number_single members n h)
pick_factor members (Two m n) h = two (numbered members m) (numbered members n) (number_single members m h.0) (number_single members n h.1) refl

-- a unit and the count of signs after it
pub record IsNext (held : ℕ) (before after : Nielsen) : Type 0 where
  pub moves : Moves before after
  pub count : held ≡ signs_held after

pub peel_next : (s : Nielsen) (goal : ℕ) (pick : Pick) (rest : Expressed) (held after : ℕ) → IsHeld held s → IsMove s (Peel goal pick) → rest ≡ peeled (picked s.members pick) (member_at s.rests goal)
    → after + length (member_at s.rests goal).signs ≡ held + length rest.signs → IsNext after s (record s { rests = set s.rests goal rest; spent = s.spent + 1 })
peel_next s goal pick rest held after h move is count =
    let factor : Expressed = picked s.members pick in
    let old : Expressed = member_at s.rests goal in
    let sums = signs_set s.rests goal rest move.0 in
    let before = h.count in
    record {
      moves = inr (record {
        goal = goal;
        factor = factor;
        there = move.0;
        is_factor = pick_factor s.members pick move.1;
        shorter = move.2;
        after_it = ap (λ (e : Expressed). record s { rests = set s.rests goal e; spent = s.spent + 1 }) is;
      });
      count = omega arith;
    }

pub step_next : (s : Nielsen) (pick : StepPick) (member : Expressed) (held after : ℕ) → IsHeld held s → IsMove s (Step pick) → member ≡ trimmed (made s.members pick)
    → after + length (member_at s.members pick.place).signs ≡ held + length member.signs → IsNext after s (record s { members = set s.members pick.place member; spent = s.spent + 1 })
step_next s pick member held after h move is count =
    let sums = signs_set s.members pick.place member move.0.there in
    let before = h.count in
    record {
      moves = inl (record {
        place = pick.place;
        other = place_of s.members pick.number;
        inverse = inverse_of s.members pick.number;
        left = pick.left;
        there = move.0.there;
        other_there = place_below s.members pick.number move.0.number;
        apart = move.0.apart;
        shorter = move.1;
        after_it = ap (λ (e : Expressed). record s { members = set s.members pick.place e; spent = s.spent + 1 }) is;
      });
      count = omega arith;
    }

pub next_made : (before now after : Nielsen) (held : ℕ) → before ≡ now → IsNext held before after → held ≤ MOST_SYMBOLS → Moves now after × (signs_held after ≤ MOST_SYMBOLS)
next_made before now after held e h few = (subst (λ (s : Nielsen). Moves s after) e h.moves, subst (λ (n : ℕ). n ≤ MOST_SYMBOLS) h.count few)

pub next_full : (before now after : Nielsen) (held : ℕ) → before ≡ now → IsNext held before after → MOST_SYMBOLS < held → (now ≡ now) × ((next : Nielsen) × Moves now next × (MOST_SYMBOLS < signs_held next))
next_full before now after held e h many = (refl, (after, subst (λ (s : Nielsen). Moves s after) e h.moves, subst (λ (n : ℕ). MOST_SYMBOLS < n) h.count many))

pub next_held : (before after : Nielsen) (held now : ℕ) → IsHeld held before → IsNext now before after → now ≤ MOST_SYMBOLS → IsHeld now after
next_held before after held now h next few = record { kept = move_kept before after next.moves (subst (λ (n : ℕ). n ≤ MOST_SYMBOLS) next.count few) h.kept; count = next.count }

-- the three ways in which a peeling ends
peel_read : (s now : Nielsen) → s ≡ now → (goal : ℕ) (pick : Pick) (members rests list : List Expressed) (rest : Expressed) (held after : ℕ) → IsHeld held s → IsMove now (Peel goal pick)
    → members ≡ s.members → rests ≡ s.rests → list ≡ s.rests → rest ≡ peeled (picked members pick) (member_at rests goal) → after + length (member_at list goal).signs ≡ held + length rest.signs
    → IsNext after s (record s { rests = set s.rests goal rest; spent = s.spent + 1 })
peel_read s now e goal pick members rests list rest held after h move a b d is count =
    peel_next s goal pick rest held after h (subst (λ (t : Nielsen). IsMove t (Peel goal pick)) (sym e) move)
    (is ∙ (ap (λ (l : List Expressed). peeled (picked l pick) (member_at rests goal)) a ∙ ap (λ (l : List Expressed). peeled (picked s.members pick) (member_at l goal)) b))
    (subst (λ (l : List Expressed). after + length (member_at l goal).signs ≡ held + length rest.signs) d count)

pub peel_full : (s now : Nielsen) → s ≡ now → (goal : ℕ) (pick : Pick) (members rests list : List Expressed) (rest : Expressed) (held after : ℕ) → IsHeld held s → IsMove now (Peel goal pick)
    → members ≡ s.members → rests ≡ s.rests → list ≡ s.rests → rest ≡ peeled (picked members pick) (member_at rests goal) → after + length (member_at list goal).signs ≡ held + length rest.signs
    → MOST_SYMBOLS < after → (now ≡ now) × ((next : Nielsen) × Moves now next × (MOST_SYMBOLS < signs_held next))
peel_full s now e goal pick members rests list rest held after h move a b d is count many =
    next_full s now _ after e (peel_read s now e goal pick members rests list rest held after h move a b d is count) many

pub peel_made : (s now : Nielsen) → s ≡ now → (goal : ℕ) (pick : Pick) (members rests list : List Expressed) (rest : Expressed) (held after : ℕ) → IsHeld held s → IsMove now (Peel goal pick)
    → members ≡ s.members → rests ≡ s.rests → list ≡ s.rests → rest ≡ peeled (picked members pick) (member_at rests goal) → after + length (member_at list goal).signs ≡ held + length rest.signs
    → after ≤ MOST_SYMBOLS → HasMade now true (record s { rests = set s.rests goal rest; spent = s.spent + 1 })
peel_made s now e goal pick members rests list rest held after h move a b d is count few =
    next_made s now _ after e (peel_read s now e goal pick members rests list rest held after h move a b d is count) few

pub peel_held : (s now : Nielsen) → s ≡ now → (goal : ℕ) (pick : Pick) (members rests list : List Expressed) (rest : Expressed) (held after : ℕ) → IsHeld held s → IsMove now (Peel goal pick)
    → members ≡ s.members → rests ≡ s.rests → list ≡ s.rests → rest ≡ peeled (picked members pick) (member_at rests goal) → after + length (member_at list goal).signs ≡ held + length rest.signs
    → after ≤ MOST_SYMBOLS → IsHeld after (record s { rests = set s.rests goal rest; spent = s.spent + 1 })
peel_held s now e goal pick members rests list rest held after h move a b d is count few =
    next_held s _ held after h (peel_read s now e goal pick members rests list rest held after h move a b d is count) few

-- and a step
step_read : (s now : Nielsen) → s ≡ now → (pick : StepPick) (members list : List Expressed) (member : Expressed) (held after : ℕ) → IsHeld held s → IsMove now (Step pick)
    → members ≡ s.members → list ≡ s.members → member ≡ trimmed (made members pick) → after + length (member_at list pick.place).signs ≡ held + length member.signs
    → IsNext after s (record s { members = set s.members pick.place member; spent = s.spent + 1 })
step_read s now e pick members list member held after h move a d is count =
    step_next s pick member held after h (subst (λ (t : Nielsen). IsMove t (Step pick)) (sym e) move)
    (is ∙ ap (λ (l : List Expressed). trimmed (made l pick)) a)
    (subst (λ (l : List Expressed). after + length (member_at l pick.place).signs ≡ held + length member.signs) d count)

pub step_full : (s now : Nielsen) → s ≡ now → (pick : StepPick) (members list : List Expressed) (member : Expressed) (held after : ℕ) → IsHeld held s → IsMove now (Step pick)
    → members ≡ s.members → list ≡ s.members → member ≡ trimmed (made members pick) → after + length (member_at list pick.place).signs ≡ held + length member.signs
    → MOST_SYMBOLS < after → (now ≡ now) × ((next : Nielsen) × Moves now next × (MOST_SYMBOLS < signs_held next))
step_full s now e pick members list member held after h move a d is count many =
    next_full s now _ after e (step_read s now e pick members list member held after h move a d is count) many

pub step_made : (s now : Nielsen) → s ≡ now → (pick : StepPick) (members list : List Expressed) (member : Expressed) (held after : ℕ) → IsHeld held s → IsMove now (Step pick)
    → members ≡ s.members → list ≡ s.members → member ≡ trimmed (made members pick) → after + length (member_at list pick.place).signs ≡ held + length member.signs
    → after ≤ MOST_SYMBOLS → HasMade now true (record s { members = set s.members pick.place member; spent = s.spent + 1 })
step_made s now e pick members list member held after h move a d is count few =
    next_made s now _ after e (step_read s now e pick members list member held after h move a d is count) few

pub step_held : (s now : Nielsen) → s ≡ now → (pick : StepPick) (members list : List Expressed) (member : Expressed) (held after : ℕ) → IsHeld held s → IsMove now (Step pick)
    → members ≡ s.members → list ≡ s.members → member ≡ trimmed (made members pick) → after + length (member_at list pick.place).signs ≡ held + length member.signs
    → after ≤ MOST_SYMBOLS → IsHeld after (record s { members = set s.members pick.place member; spent = s.spent + 1 })
step_held s now e pick members list member held after h move a d is count few =
    next_held s _ held after h (step_read s now e pick members list member held after h move a d is count) few

-- nothing was found that shortens
pub nothing_found : (s now : Nielsen) → s ≡ now → (members other rests : List Expressed) → members ≡ s.members → rests ≡ s.rests → other ≡ s.members
    → ((goal : ℕ) (p : Expressed) → goal < length rests → IsFactor members p → length (member_at rests goal).word ≤ quotient_length p.word (member_at rests goal).word)
    → ((place other_place : ℕ) (inverse left : Bool) → place < length other → other_place < length other → other_place ≢ place → length (member_at other place).word ≤ length (stepped other place other_place inverse left).word)
    → NothingShortens now
nothing_found s now e members other rests a b d goals steps =
    subst NothingShortens e (record {
      no_step = subst (λ (l : List Expressed). (place other_place : ℕ) (inverse left : Bool) → place < length l → other_place < length l → other_place ≢ place → length (member_at l place).word ≤ length (stepped l place other_place inverse left).word) d steps;
      no_peeling = subst (λ (l : List Expressed). (goal : ℕ) (p : Expressed) → goal < length l → IsFactor s.members p → length (member_at l goal).word ≤ quotient_length p.word (member_at l goal).word) b
          (subst (λ (l : List Expressed). (goal : ℕ) (p : Expressed) → goal < length rests → IsFactor l p → length (member_at rests goal).word ≤ quotient_length p.word (member_at rests goal).word) a goals);
    })

-- a search that is started
pub start_held : (ask : Inquiry) (members rests : List Expressed) (count : ℕ) → IsAsked ask → ask.group.relators ≡ [] → members ≡ first_members 1 ask.subgroup → rests ≡ first_rests ask.goals → count ≡ length members
    → IsHeld count (record { ask = ask; members = members; rests = rests; spent = 0; is_open = true })
start_held ask members rests count asked free a b e =
    let signs : signs_in members ≡ length members = ap (λ (l : List Expressed). signs_in l) a ∙ (first_signs 1 ask.subgroup ∙ sym (ap (λ (l : List Expressed). length l) a ∙ first_count 1 ask.subgroup)) in
    let none : signs_in rests ≡ 0 = ap (λ (l : List Expressed). signs_in l) b ∙ rest_signs ask.goals in
    record {
      kept = subst (λ (l : List Expressed). IsKept (record { ask = ask; members = l; rests = rests; spent = 0; is_open = true })) (sym a)
          (subst (λ (l : List Expressed). IsKept (record { ask = ask; members = first_members 1 ask.subgroup; rests = l; spent = 0; is_open = true })) (sym b) (first_kept ask asked free));
      count = omega arith;
    }

-- where every goal is peeled away
pub done_accepted : (s now : Nielsen) → s ≡ now → (held : ℕ) (rests : List Expressed) (text : List Symbol) → IsHeld held s → NoRest now → rests ≡ s.rests → text ≡ text_of rests → IsAccepted s.ask text
done_accepted s now e held rests text h done r is =
    subst (IsAccepted s.ask) (sym (is ∙ ap text_of r)) (signs_accepted s h.kept (subst NoRest (sym e) done))

pub found_last : (s now : Nielsen) → s ≡ now → (held : ℕ) (rests : List Expressed) (text second third : List Symbol) (count : ℕ) (short : Bool) (records : List Fact) → IsHeld held s → NoRest now
    → rests ≡ s.rests → text ≡ text_of rests → count ≡ length text → count ≤ MOST_SYMBOLS → second ≡ text → third ≡ text → short ≡ true
    → (short ≡ true → length (written_out s.ask second) ≤ MOST_LETTERS) → records ≡ settled s.ask (affirmed (derivation third)) ∷ [] → IsLast now (Found records)
found_last s now e held rests text second third count short records h done r is k few a b test letters published =
    let same : text ≡ text_of s.rests = is ∙ ap text_of r in
    let reached : NoRest s = subst NoRest (sym e) done in
    let all : Publishes s records = record {
      accepted = signs_accepted s h.kept reached;
      symbols = subst (λ (n : ℕ). n ≤ MOST_SYMBOLS) (k ∙ ap (λ (l : List Symbol). length l) same) few;
      letters = subst (λ (l : List Symbol). length (written_out s.ask l) ≤ MOST_LETTERS) (a ∙ same) (letters test);
      records_are = published ∙ ap (λ (l : List Symbol). settled s.ask (affirmed (derivation l)) ∷ []) (b ∙ same);
    } in
    record { ends = λ units spent. (done, subst (λ (t : Nielsen). Publishes t records) e all); last = refl; stops = λ known. tt }

-- a unit more
pub reach_next : (n : ℕ) (first between last : Nielsen) → Reaches n first between → Moves between last × (signs_held last ≤ MOST_SYMBOLS) → Reaches (n + 1) first last
reach_next n first between last h move = subst (λ (k : ℕ). Reaches k first last) (sym (add-one n)) (between, h, move.0, move.1)

pub reach_none : (s : Nielsen) → Reaches 0 s s
reach_none s = refl

-- the ends of a turn
move_open : (before after : Nielsen) → Moves before after → after.is_open ≡ before.is_open
move_open before after (inl step) = ap (λ (s : Nielsen). s.is_open) step.after_it
move_open before after (inr peel) = ap (λ (s : Nielsen). s.is_open) peel.after_it

reached_open : (n : ℕ) (first last : Nielsen) → Reaches n first last → last.is_open ≡ first.is_open
reached_open zero first last h = ap (λ (s : Nielsen). s.is_open) h
reached_open (suc n) first last h = move_open h.0 last h.2 ∙ reached_open n first h.0 h.1

goes_as : (s : Nielsen) (b : Bool) → s.is_open ≡ b → s ≡ record s { is_open = b }
goes_as s b e = λ i. record s { is_open = e i }

pub turn_goes_on : (search reached : Nielsen) (units spent : ℕ) (end : TurnEnd Fact) → search.is_open ≡ true → spent ≤ units → Reaches spent search reached → goes_on end ≡ true → NielsenEnd reached units spent end
    → NielsenTurn search units (record { spent = spent; end = end }) reached
turn_goes_on search reached units spent end opened within reaches goes ends = record {
  within = within;
  reached = reached;
  reaches = reaches;
  end = ends;
  after_it = goes_as reached (goes_on end) (reached_open spent search reached reaches ∙ (opened ∙ sym goes));
}

pub turn_is_over : (search reached now : Nielsen) (units spent : ℕ) (end : TurnEnd Fact) → spent ≤ units → Reaches spent search reached → now ≡ reached → IsLast reached end
    → NielsenTurn search units (record { spent = spent; end = end }) (record now { is_open = false })
turn_is_over search reached now units spent end within reaches e h = record {
  within = within;
  reached = reached;
  reaches = reaches;
  end = h.ends units spent;
  after_it = ap (λ (s : Nielsen). record s { is_open = false }) e ∙ ap (λ b. record reached { is_open = b }) (sym h.last);
}
