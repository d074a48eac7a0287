-- A first state keeps what states keep, and enough units end a search.
use Rattle.std.proofs.Common.{◌≡◌, ℕ, suc, ◌+◌, ◌≤◌, ℤ, pos, List, [], ◌∷◌, ◌++◌, length, get_or, refl, sym, ap, subst, ◌∙◌, append_assoc, arith}
use Rattle.std.specs.List.{AllByRecursion}
use Rattle.std.specs.Prelude.{sum_by}
use Rattle.std.proofs.lemmas.List.{append-nil, length-append, length_push, get_or_at, nil_from_length}
use Rattle.std.proofs.lemmas.List.Sums.{sum_by-cons, get_or-le-sum_by}
use Rattle.mg_turn.specs.declared.outcome.Outcome.{Outcome}
use Rattle.mg_turn.specs.declared.outcome.TurnEnd.{TurnEnd}
use Rattle.mg_turn.specs.declared.outcome.TurnEnd.TheVariants.{More}
use Rattle.mg_words.specs.Letter.{IsLetterOf}
use Rattle.mg_words.specs.Reduction.{free_form}
use Rattle.mg_words.proofs.Free.{reduced_from_apart, free_form-reduced, IsReduced-nil}
use Rattle.mg_present.specs.Ask.{Inquiry, IsAsked, IsReducedOver}
use Rattle.mg_present.specs.Presentation.{Group}
use Rattle.mg_present.specs.Same.{Lies}
use Rattle.mg_present.specs.Image.{letter_image}
use Rattle.mg_present.proofs.Sameness.{lies_at}
use Rattle.mg_certs.specs.Claim.{Fact}
use Rattle.mg_nielsen.specs.Expressed.{Expressed, empty, IsExpressed, AreRests}
use Rattle.mg_nielsen.specs.Moves.{Nielsen, IsKept, words_of, letters_in, signs_in, letters_left, letters_at_start, member_at}
use Rattle.mg_nielsen.specs.Turn.{NielsenTurn, NielsenEnd, first_members, first_rests, first_search}
use Rattle.mg_nielsen.specs.Sounds.{reached_ask, reached_spent}
use Rattle.mg_nielsen.proofs.Subgroups.{all_by_places}
use Rattle.mg_nielsen.proofs.Keeping.{reached_kept}

-- no letters are left, so every rest is empty
no_letters : (list : List Expressed) → letters_in list ≤ 0 → AllByRecursion (λ (e : Expressed). e.word ≡ []) list
no_letters list none =
    all_by_places (λ (e : Expressed). e.word ≡ []) list empty
    (λ i below. nil_from_length (member_at list i).word (let least = get_or-le-sum_by (λ (e : Expressed). length e.word) list i empty below in omega arith))

pub enough_units : (search after : Nielsen) (units : ℕ) (outcome : Outcome Fact) → IsKept search → NielsenTurn search units outcome after → letters_at_start search.ask ≤ search.spent + units → outcome.end ≡ More → ⊥
enough_units search after units outcome h turn enough e =
    let end = subst (λ (t : TurnEnd Fact). NielsenEnd turn.reached units outcome.spent t) e turn.end in
    let kept : IsKept turn.reached = reached_kept outcome.spent search turn.reached turn.reaches h in
    let spent = reached_spent outcome.spent search turn.reached turn.reaches in
    let lengths = subst (λ (a : Inquiry). turn.reached.spent + letters_left turn.reached ≤ letters_at_start a) (reached_ask outcome.spent search turn.reached turn.reaches) kept.lengths in
    let all : outcome.spent ≡ units = end.0 in
    end.1 (no_letters turn.reached.rests (omega arith))

-- sums over first members and rests
pub first_signs : (place : ℕ) (words : List (List ℤ)) → signs_in (first_members place words) ≡ length words
first_signs place [] = refl
first_signs place (w ∷ words) =
    omega (arith, sum_by-cons (λ (e : Expressed). length e.signs) (record { word = w; signs = pos place ∷ [] }) (first_members (place + 1) words), first_signs (place + 1) words)

first_letters : (place : ℕ) (words : List (List ℤ)) → letters_in (first_members place words) ≡ sum_by (λ (w : List ℤ). length w) words
first_letters place [] = refl
first_letters place (w ∷ words) =
    sum_by-cons (λ (e : Expressed). length e.word) (record { word = w; signs = pos place ∷ [] }) (first_members (place + 1) words)
    ∙ (ap (λ n. length w + n) (first_letters (place + 1) words) ∙ sym (sum_by-cons (λ (w : List ℤ). length w) w words))

pub rest_signs : (goals : List (List ℤ)) → signs_in (first_rests goals) ≡ 0
rest_signs [] = refl
rest_signs (w ∷ goals) = omega (arith, sum_by-cons (λ (e : Expressed). length e.signs) (record { word = w; signs = [] }) (first_rests goals), rest_signs goals)

rest_letters : (goals : List (List ℤ)) → letters_in (first_rests goals) ≡ sum_by (λ (w : List ℤ). length w) goals
rest_letters [] = refl
rest_letters (w ∷ goals) =
    sum_by-cons (λ (e : Expressed). length e.word) (record { word = w; signs = [] }) (first_rests goals)
    ∙ (ap (λ n. length w + n) (rest_letters goals) ∙ sym (sum_by-cons (λ (w : List ℤ). length w) w goals))

pub first_count : (place : ℕ) (words : List (List ℤ)) → length (first_members place words) ≡ length words
first_count place [] = refl
first_count place (w ∷ words) = ap suc (first_count (place + 1) words)

first_words : (place : ℕ) (words : List (List ℤ)) → words_of (first_members place words) ≡ words
first_words place [] = refl
first_words place (w ∷ words) = ap (λ t. w ∷ t) (first_words (place + 1) words)

-- a subgroup word is the product of its own sign
first_expressed : (m : ℕ) (subgroup before words : List (List ℤ)) (place : ℕ) → subgroup ≡ before ++ words → place ≡ suc (length before) → AllByRecursion (IsReducedOver m) words → AllByRecursion (IsExpressed subgroup) (first_members place words)
first_expressed m subgroup before [] place e k h = tt
first_expressed m subgroup before (w ∷ words) place e k h =
    let here : letter_image subgroup (pos place) ≡ w = ap (λ n. letter_image subgroup (pos n)) k ∙ (ap (λ t. get_or t (length before) []) e ∙ get_or_at before w words [] (length before) refl) in
    let count : length subgroup ≡ length before + suc (length words) = ap length e ∙ length-append before (w ∷ words) in
    let letter : IsLetterOf (length subgroup) (pos place) = record { least = omega arith; most = omega arith } in (
      record {
        word = sym (ap free_form (append-nil (letter_image subgroup (pos place)) ∙ here) ∙ free_form-reduced w h.0.reduced);
        signs = record { over = (letter, tt); reduced = reduced_from_apart (pos place ∷ []) (tt, tt) };
      },
      first_expressed m subgroup (before ++ w ∷ []) words (place + 1) (e ∙ sym (append_assoc before (w ∷ []) words)) (let l = length_push before w in omega arith) h.1,
    )

first_are_rests : (m : ℕ) (subgroup goals : List (List ℤ)) → AllByRecursion (IsReducedOver m) goals → AreRests subgroup (first_rests goals) goals
first_are_rests m subgroup [] h = tt
first_are_rests m subgroup (w ∷ goals) h =
    (record { reduced = h.0.reduced; goal_is = sym (free_form-reduced w h.0.reduced); signs = record { over = tt; reduced = IsReduced-nil } }, first_are_rests m subgroup goals h.1)

own_lie : (group : Group) (words : List (List ℤ)) → AllByRecursion (Lies group words) words
own_lie group words = all_by_places (Lies group words) words [] (λ i below. lies_at group words i below)

pub first_kept : (ask : Inquiry) → IsAsked ask → ask.group.relators ≡ [] → IsKept (first_search ask)
first_kept ask asked free =
    let m : ℕ = ask.group.generators in
    let signs = first_signs 1 ask.subgroup in
    let none = rest_signs ask.goals in
    let letters = first_letters 1 ask.subgroup in
    let others = rest_letters ask.goals in
    let few = asked.words.subgroup_count in
    record {
      asked = asked;
      free = free;
      members = first_expressed m ask.subgroup [] ask.subgroup 1 refl refl asked.words.subgroup_words;
      generate = subst (λ (words : List (List ℤ)). AllByRecursion (Lies ask.group words) ask.subgroup) (sym (first_words 1 ask.subgroup)) (own_lie ask.group ask.subgroup);
      rests = first_are_rests m ask.subgroup ask.goals asked.words.goal_words;
      most = omega arith;
      growth = omega arith;
      lengths = omega arith;
    }
