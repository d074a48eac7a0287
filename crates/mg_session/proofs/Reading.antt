-- The models that a recall reads are the first ones of its group.
use Rattle.std.proofs.Common.{◌≡◌, ◌≢◌, ℕ, zero, suc, ◌+◌, ◌-◌, ◌<◌, ◌≤◌, ◌⊎◌, inl, inr, Bool, true, false, cond, max, nat_le, List, [], ◌∷◌, ◌++◌, length, map, take, drop, Option, Some, Ordering, refl, ap, sym, ◌∙◌, subst, arith, length-append}
use Rattle.std.specs.List.{AllByRecursion}
use Rattle.std.specs.declared.cmp.Ordering.TheVariants.{Less, Equal, Greater}
use Rattle.std.proofs.lemmas.Bool.{cases_lt}
use Rattle.std.proofs.lemmas.Bool.Decides.{nat_tests}
use Rattle.std.proofs.lemmas.Option.{slice_get_within}
use Rattle.mg_core.specs.declared.entries.Entry.{Entry}
use Rattle.mg_core.specs.declared.entries.Facts.{Facts}
use Rattle.mg_core.specs.Log.{facts_of, ModelsFrom, ModelsAbove, last_number, Handed}
use Rattle.mg_core.proofs.Logs.{facts_of-append}
use Rattle.mg_turn.specs.declared.outcome.Outcome.{Outcome}
use Rattle.mg_turn.specs.declared.outcome.TurnEnd.{TurnEnd}
use Rattle.mg_turn.specs.declared.outcome.TurnEnd.TheVariants.{More, Found, Closed, Idle, Stopped, Full}
use Rattle.mg_turn.specs.Turn.{goes_on, is_stopped}
use Rattle.mg_workers.specs.Run.{Begins}
use Rattle.mg_words.specs.declared.procedure.Procedure.{Procedure}
use Rattle.mg_present.specs.Presentation.{Group}
use Rattle.mg_present.specs.Ask.{Inquiry}
use Rattle.mg_present.proofs.Exact.{group_cmp, group_exact, group_itself}
use Rattle.mg_certs.specs.Claim.{Fact}
use Rattle.mg_certs.specs.Claim as claims
use Rattle.mg_certs.specs.Validity.{recording}
use Rattle.mg_recall.specs.Recall.{Recall, NoneRefutes, RecallEnd, RecallTurn}
use Rattle.mg_search.specs.Search.{Search, plain, completing, enumerating, reducing, recalling, ask_of, is_open, models_wanted, SearchTurn, Opens}
use Rattle.mg_session.specs.Reading.{RefutesNoGoal, HasRead, ReadsOf}
use Rattle.mg_session.proofs.Lists.{all-append}
use Rattle.mg_session.proofs.Handing.{one_list}

module _ {R G : Type 0} (model_of : R → Option G) (group : G) where
  -- the models of two lists of facts are those of the first, and behind them those of the second
  record Split (above n : ℕ) (front back : List R) (models : List (ℕ × R)) : Type 0 where
    firsts : List (ℕ × R)
    rest : List (ℕ × R)
    are : models ≡ firsts ++ rest
    in_front : ModelsFrom model_of group above n front firsts
    in_back : ModelsFrom model_of group above (n + length front) back rest

  split : (above n : ℕ) (front back : List R) (models : List (ℕ × R)) → ModelsFrom model_of group above n (front ++ back) models → Split above n front back models
  split above n [] back models h = record { firsts = []; rest = models; are = refl; in_front = refl; in_back = subst (λ (m : ℕ). ModelsFrom model_of group above m back models) (omega arith) h }
  split above n (r ∷ front) back models (inl h) =
      let next = split above (n + 1) front back h.2 h.4 in
      record {
        firsts = (n, r) ∷ next.firsts;
        rest = next.rest;
        are = h.3 ∙ ap (λ found. (n, r) ∷ found) next.are;
        in_front = inl (h.0, h.1, next.firsts, refl, next.in_front);
        in_back = subst (λ (m : ℕ). ModelsFrom model_of group above m back next.rest) (omega arith) next.in_back;
      }
  split above n (r ∷ front) back models (inr h) =
      let next = split above (n + 1) front back models h.1 in
      record {
        firsts = next.firsts;
        rest = next.rest;
        are = next.are;
        in_front = inr (h.0, next.in_front);
        in_back = subst (λ (m : ℕ). ModelsFrom model_of group above m back next.rest) (omega arith) next.in_back;
      }

  joined : (above n : ℕ) (front back : List R) (firsts rest : List (ℕ × R)) → ModelsFrom model_of group above n front firsts → ModelsFrom model_of group above (n + length front) back rest → ModelsFrom model_of group above n (front ++ back) (firsts ++ rest)
  joined above n [] back firsts rest h g = subst (λ found. ModelsFrom model_of group above n back found) (ap (λ found. found ++ rest) (sym h)) (subst (λ (m : ℕ). ModelsFrom model_of group above m back rest) (omega arith) g)
  joined above n (r ∷ front) back firsts rest (inl h) g =
      inl (h.0, h.1, h.2 ++ rest, ap (λ found. found ++ rest) h.3, joined above (n + 1) front back h.2 rest h.4 (subst (λ (m : ℕ). ModelsFrom model_of group above m back rest) (omega arith) g))
  joined above n (r ∷ front) back firsts rest (inr h) g = inr (h.0, joined above (n + 1) front back firsts rest h.1 (subst (λ (m : ℕ). ModelsFrom model_of group above m back rest) (omega arith) g))

  -- above two numbers before the first fact there are the same models
  lower : (above other n : ℕ) (facts : List R) (models : List (ℕ × R)) → above < n → other < n → ModelsFrom model_of group above n facts models → ModelsFrom model_of group other n facts models
  lower above other n [] models low low' h = h
  lower above other n (r ∷ facts) models low low' (inl h) = inl (low', h.1, h.2, h.3, lower above other (n + 1) facts h.2 (omega arith) (omega arith) h.4)
  lower above other n (r ∷ facts) models low low' (inr (inl high, h)) = absurd (omega arith)
  lower above other n (r ∷ facts) models low low' (inr (inr not, h)) = inr (inr not, lower above other (n + 1) facts models (omega arith) (omega arith) h)

  -- there is none above a number that no fact has
  none_above : (above n : ℕ) (facts : List R) → n + length facts ≤ above + 1 → ModelsFrom model_of group above n facts []
  none_above above n [] within = refl
  none_above above n (r ∷ facts) within = inr (inl (omega arith), none_above above (n + 1) facts (omega arith))

  -- the numbers of models are those of their facts
  last_high : (above start n k : ℕ) (facts : List R) (models : List (ℕ × R)) → 1 ≤ k → k ≤ length models → ModelsFrom model_of group above n facts models → n ≤ last_number start (take k models)
  last_high above start n zero facts models some within h = absurd (omega arith)
  last_high above start n (suc k) [] models some within h = let none : length models ≡ 0 = ap length h in absurd (omega arith)
  last_high above start n (suc zero) (r ∷ facts) models some within (inl h) = subst (λ found. n ≤ last_number start (take 1 found)) (sym h.3) (omega arith)
  last_high above start n (suc (suc k)) (r ∷ facts) models some within (inl h) =
      let long : length models ≡ suc (length h.2) = ap length h.3 in
      let later = last_high above n (n + 1) (suc k) facts h.2 (omega arith) (omega arith) h.4 in
      subst (λ found. n ≤ last_number start (take (suc (suc k)) found)) (sym h.3) (omega arith)
  last_high above start n (suc k) (r ∷ facts) models some within (inr h) = let later = last_high above start (n + 1) (suc k) facts models some within h.1 in omega arith

  last_same : (start other k : ℕ) (models : List (ℕ × R)) → 1 ≤ k → k ≤ length models → last_number start (take k models) ≡ last_number other (take k models)
  last_same start other zero models some within = absurd (omega arith)
  last_same start other (suc k) [] some within = absurd (omega arith)
  last_same start other (suc k) (model ∷ models) some within = refl

  -- above the number of a model are those behind it
  behind : (above n k : ℕ) (facts : List R) (models : List (ℕ × R)) → 1 ≤ k → k ≤ length models → ModelsFrom model_of group above n facts models → ModelsFrom model_of group (last_number above (take k models)) n facts (drop k models)
  behind above n zero facts models some within h = absurd (omega arith)
  behind above n (suc k) [] models some within h = let none : length models ≡ 0 = ap length h in absurd (omega arith)
  behind above n (suc zero) (r ∷ facts) models some within (inl h) =
      subst (λ found. ModelsFrom model_of group (last_number above (take 1 found)) n (r ∷ facts) (drop 1 found)) (sym h.3)
      (inr (inl (omega arith), lower above n (n + 1) facts h.2 (let low = h.0 in omega arith) (omega arith) h.4))
  behind above n (suc (suc k)) (r ∷ facts) models some within (inl h) =
      let long : length models ≡ suc (length h.2) = ap length h.3 in
      let high = last_high above n (n + 1) (suc k) facts h.2 (omega arith) (omega arith) h.4 in
      subst (λ found. ModelsFrom model_of group (last_number above (take (suc (suc k)) found)) n (r ∷ facts) (drop (suc (suc k)) found)) (sym h.3)
      (inr (
        inl (omega arith),
        subst (λ (m : ℕ). ModelsFrom model_of group m (n + 1) facts (drop (suc k) h.2)) (last_same above n (suc k) h.2 (omega arith) (omega arith)) (behind above (n + 1) (suc k) facts h.2 (omega arith) (omega arith) h.4),
      ))
  behind above n (suc k) (r ∷ facts) models some within (inr (inl low, h)) =
      let high = last_high above above (n + 1) (suc k) facts models some within h in inr (inl (omega arith), behind above (n + 1) (suc k) facts models some within h)
  behind above n (suc k) (r ∷ facts) models some within (inr (inr not, h)) = inr (inr not, behind above (n + 1) (suc k) facts models some within h)

  behind_any : (above n k : ℕ) (facts : List R) (models : List (ℕ × R)) → k ≤ length models → ModelsFrom model_of group above n facts models → ModelsFrom model_of group (last_number above (take k models)) n facts (drop k models)
  behind_any above n zero facts models within h = h
  behind_any above n (suc k) facts models within h = behind above n (suc k) facts models (omega arith) within h

take_front : {X : Type 0} (k : ℕ) (xs ys : List X) → k ≤ length xs → take k (xs ++ ys) ≡ take k xs
take_front zero xs ys within = refl
take_front (suc k) [] ys within = absurd (omega arith)
take_front (suc k) (x ∷ xs) ys within = ap (λ zs. x ∷ zs) (take_front k xs ys (omega arith))

take_whole : {X : Type 0} (k : ℕ) (xs : List X) → length xs ≤ k → take k xs ≡ xs
take_whole zero [] within = refl
take_whole (suc k) [] within = refl
take_whole zero (x ∷ xs) within = absurd (omega arith)
take_whole (suc k) (x ∷ xs) within = ap (λ zs. x ∷ zs) (take_whole k xs (omega arith))

drop_front : {X : Type 0} (xs ys : List X) → drop (length xs) (xs ++ ys) ≡ ys
drop_front [] ys = refl
drop_front (x ∷ xs) ys = drop_front xs ys

take_length : {X : Type 0} (k : ℕ) (xs : List X) → k ≤ length xs → length (take k xs) ≡ k
take_length zero xs within = refl
take_length (suc k) [] within = absurd (omega arith)
take_length (suc k) (x ∷ xs) within = ap suc (take_length k xs (omega arith))

map_length : {X Y : Type 0} (f : X → Y) (xs : List X) → length (map f xs) ≡ length xs
map_length f [] = refl
map_length f (x ∷ xs) = ap suc (map_length f xs)

-- of the models above what it has read a search is handed the first ones, and up to the last of them it has read then
pub record HandedFirst {R G : Type 0} (model_of : R → Option G) (group : G) (log : List (Entry R)) (models : List (ℕ × R)) (facts : Facts R) : Type 0 where
  pub count : ℕ
  pub within : count ≤ length models
  pub are : facts.records ≡ map (λ found. found.1) (take count models)
  pub rest : ModelsAbove model_of log group facts.upto (drop count models)

pub handed_count : {R G : Type 0} (model_of : R → Option G) (group : G) (log : List (Entry R)) (models : List (ℕ × R)) (facts : Facts R) (h : HandedFirst model_of group log models facts) → length facts.records ≡ h.count
handed_count model_of group log models facts h = ap length h.are ∙ map_length (λ found. found.1) (take h.count models) ∙ take_length h.count models h.within

module _ {R G : Type 0} (model_of : R → Option G) (group : G) (seen more : List R) (read most : ℕ) (models : List (ℕ × R)) (facts : Facts R) where
  -- how many were handed, and what is above the last of them
  first_handed : (whole : List (Entry R)) → facts_of whole ≡ seen ++ more → (enough : Bool) (found : List (ℕ × R)) → nat_le most (length found) ≡ enough → Split model_of group read 1 seen more models → ModelsFrom model_of group read 1 seen found → ModelsFrom model_of group read 1 (seen ++ more) models →
      facts.records ≡ map (λ f. f.1) (take most found) → facts.upto ≡ cond enough (last_number read (take most found)) (max read (length seen)) → HandedFirst model_of group whole models facts
  first_handed whole is true found enough parts are all records upto =
      let same : found ≡ parts.firsts = one_list model_of group read 1 seen found parts.firsts are parts.in_front in
      let most_within : most ≤ length found = grind (arith, nat_tests, enough) in
      let long : length models ≡ length parts.firsts + length parts.rest = ap length parts.are ∙ length-append parts.firsts parts.rest in
      let fits : length found ≡ length parts.firsts = ap length same in
      let taken : take most models ≡ take most found = ap (take most) (parts.are ∙ ap (λ f. f ++ parts.rest) (sym same)) ∙ take_front most found parts.rest most_within in
      record {
        count = most;
        within = omega arith;
        are = records ∙ ap (map (λ f. f.1)) (sym taken);
        rest = subst (λ (fs : List R). ModelsFrom model_of group facts.upto 1 fs (drop most models)) (sym is)
            (subst (λ (n : ℕ). ModelsFrom model_of group n 1 (seen ++ more) (drop most models)) (ap (last_number read) taken ∙ sym upto) (behind_any model_of group read 1 most (seen ++ more) models (omega arith) all));
      }
  first_handed whole is false found enough parts are all records upto =
      let same : found ≡ parts.firsts = one_list model_of group read 1 seen found parts.firsts are parts.in_front in
      let few : length found ≤ most = grind (arith, nat_tests, enough) in
      let long : length models ≡ length parts.firsts + length parts.rest = ap length parts.are ∙ length-append parts.firsts parts.rest in
      let fits : length found ≡ length parts.firsts = ap length same in
      let split_so : models ≡ found ++ parts.rest = parts.are ∙ ap (λ f. f ++ parts.rest) (sym same) in
      let taken : take (length found) models ≡ found = ap (take (length found)) split_so ∙ take_front (length found) found parts.rest (omega arith) ∙ take_whole (length found) found (omega arith) in
      let left : drop (length found) models ≡ parts.rest = ap (drop (length found)) split_so ∙ drop_front found parts.rest in
      record {
        count = length found;
        within = omega arith;
        are = records ∙ ap (map (λ f. f.1)) (take_whole most found few ∙ sym taken);
        rest = subst (λ (fs : List R). ModelsFrom model_of group facts.upto 1 fs (drop (length found) models)) (sym is)
            (subst (λ (f : List (ℕ × R)). ModelsFrom model_of group facts.upto 1 (seen ++ more) f) (sym left)
            (subst (λ (n : ℕ). ModelsFrom model_of group n 1 (seen ++ more) parts.rest) (sym upto) (above_all parts.rest parts.in_back)));
      }
    where
      by_size : (high : Bool) → nat_le (length seen) read ≡ high → (rest : List (ℕ × R)) → ModelsFrom model_of group read (1 + length seen) more rest → ModelsFrom model_of group (max read (length seen)) (1 + length seen) more rest
      by_size true e rest h = let same : max read (length seen) ≡ read = grind (arith, nat_tests, e) in subst (λ (n : ℕ). ModelsFrom model_of group n (1 + length seen) more rest) (sym same) h
      by_size false e rest h =
          let low : read < length seen = grind (arith, nat_tests, e) in
          lower model_of group read (max read (length seen)) (1 + length seen) more rest (omega arith) (omega arith) h

      above_all : (rest : List (ℕ × R)) → ModelsFrom model_of group read (1 + length seen) more rest → ModelsFrom model_of group (max read (length seen)) 1 (seen ++ more) rest
      above_all rest h = joined model_of group (max read (length seen)) 1 seen more [] rest (none_above model_of group (max read (length seen)) 1 seen (omega arith)) (by_size (nat_le (length seen) read) refl rest h)

-- what is handed out of a beginning of a log are the first models of the log above what was read
pub handed_first : {R G : Type 0} (model_of : R → Option G) (group : G) (seen log : List (Entry R)) (more : List R) → facts_of log ≡ facts_of seen ++ more → (read most : ℕ) (facts : Facts R) (models : List (ℕ × R)) → ModelsAbove model_of log group read models → Handed model_of seen group read most facts →
    HandedFirst model_of group log models facts
handed_first model_of group seen log more is read most facts models are h =
    let all = subst (λ fs. ModelsFrom model_of group read 1 fs models) is are in
    first_handed model_of group (facts_of seen) more read most models facts log is (nat_le most (length h.models)) h.models refl (split model_of group read 1 (facts_of seen) more models all) h.are_models all h.records_are h.upto_is

drop_within : {X : Type 0} (k : ℕ) (xs ys : List X) → k ≤ length xs → drop k (xs ++ ys) ≡ drop k xs ++ ys
drop_within zero xs ys within = refl
drop_within (suc k) [] ys within = absurd (omega arith)
drop_within (suc k) (x ∷ xs) ys within = drop_within k xs ys (omega arith)

drop_long : {X : Type 0} (k : ℕ) (xs : List X) → k ≤ length xs → length (drop k xs) + k ≡ length xs
drop_long zero xs within = omega arith
drop_long (suc k) [] within = absurd (omega arith)
drop_long (suc k) (x ∷ xs) within = let rest = drop_long k xs (omega arith) in omega arith

drop_more : {X : Type 0} (n k : ℕ) (xs : List X) → n ≤ length xs → drop k (drop n xs) ≡ drop (n + k) xs
drop_more zero k xs within = let same : k ≡ 0 + k = omega arith in ap (λ (m : ℕ). drop m xs) same
drop_more (suc n) k [] within = absurd (omega arith)
drop_more (suc n) k (x ∷ xs) within = let same : suc (n + k) ≡ suc n + k = omega arith in drop_more n k xs (omega arith) ∙ ap (λ (m : ℕ). drop m (x ∷ xs)) same

take_more : {X : Type 0} (n k : ℕ) (xs : List X) → n ≤ length xs → take (n + k) xs ≡ take n xs ++ take k (drop n xs)
take_more zero k xs within = let same : 0 + k ≡ k = omega arith in ap (λ (m : ℕ). take m xs) same
take_more (suc n) k [] within = absurd (omega arith)
take_more (suc n) k (x ∷ xs) within = let same : suc n + k ≡ suc (n + k) = omega arith in ap (λ (m : ℕ). take m (x ∷ xs)) same ∙ ap (λ zs. x ∷ zs) (take_more n k xs (omega arith))

-- ---- the models of a group

same_group : (a b : Group) (answer : Ordering) → group_cmp a b ≡ answer → (a ≡ b) ⊎ (a ≢ b)
same_group a b Equal e = inl (group_exact a b e)
same_group a b Less e = inr (λ same. let equal : Less ≡ Equal = sym e ∙ group_itself a b same in absurd (cc equal))
same_group a b Greater e = inr (λ same. let equal : Greater ≡ Equal = sym e ∙ group_itself a b same in absurd (cc equal))

is_model : (group : Group) (r : Fact) → (recording.model_of r ≡ Some group) ⊎ (recording.model_of r ≢ Some group)
is_model group (claims.settled ask verdict) = inr (λ e. absurd (cc e))
is_model group (claims.model_of own model) =
    elim (same_group own group (group_cmp own group) refl) [
      | inl same ↦ inl (ap (λ (g : Group). Some g) same)
      | inr other ↦ inr (λ e. let same : own ≡ group = cc e in other same)
    ]

-- every list of facts has a list of the models among them
pub all_models : (group : Group) (above n : ℕ) (facts : List Fact) → (found : List (ℕ × Fact)) × ModelsFrom recording.model_of group above n facts found
all_models group above n [] = ([], refl)
all_models group above n (r ∷ facts) =
    let rest = all_models group above (n + 1) facts in
    elim (cases_lt above n) [
      | inr low ↦ (rest.0, inr (inl low, rest.1))
      | inl high ↦ elim (is_model group r) [ inl model ↦ ((n, r) ∷ rest.0, inl (high, model, rest.0, refl, rest.1)) | inr other ↦ (rest.0, inr (inr other, rest.1)) ]
    ]

-- ---- a longer log

module _ (log : List (Entry Fact)) (entry : Entry Fact) where
  facts_then : facts_of (log ++ entry ∷ []) ≡ facts_of log ++ facts_of (entry ∷ [])
  facts_then = facts_of-append log (entry ∷ [])

  recall_grows : (search : Recall) (read : ℕ) → read ≤ length (facts_of log) → HasRead log search read → HasRead (log ++ entry ∷ []) search read
  recall_grows search read low h =
      let group = search.ask.group in
      let more = all_models group 0 (1 + length (facts_of log)) (facts_of (entry ∷ [])) in
      let fits = h.few in
      let long = length-append h.models more.0 in
      record {
        models = h.models ++ more.0;
        are_models = subst (λ (fs : List Fact). ModelsFrom recording.model_of group 0 1 fs (h.models ++ more.0)) (sym facts_then) (joined recording.model_of group 0 1 (facts_of log) (facts_of (entry ∷ [])) h.models more.0 h.are_models more.1);
        few = omega arith;
        others_unread = λ opened.
            subst (λ (found : List (ℕ × Fact)). ModelsFrom recording.model_of group read 1 (facts_of (log ++ entry ∷ [])) found) (sym (drop_within search.read h.models more.0 fits))
            (subst (λ (fs : List Fact). ModelsFrom recording.model_of group read 1 fs (drop search.read h.models ++ more.0)) (sym facts_then)
            (joined recording.model_of group read 1 (facts_of log) (facts_of (entry ∷ [])) (drop search.read h.models) more.0 (h.others_unread opened) (lower recording.model_of group 0 read (1 + length (facts_of log)) (facts_of (entry ∷ [])) more.0 (omega arith) (omega arith) more.1)));
        none_refutes = λ opened. subst (AllByRecursion (λ (found : ℕ × Fact). RefutesNoGoal search.ask found.1)) (sym (take_front search.read h.models more.0 fits)) (h.none_refutes opened);
      }

  pub reads_grow : (search : Search) (read : ℕ) → read ≤ length (facts_of log) → ReadsOf log search read → ReadsOf (log ++ entry ∷ []) search read
  reads_grow (plain search) read low h = tt
  reads_grow (completing search) read low h = tt
  reads_grow (enumerating search) read low h = tt
  reads_grow (reducing search) read low h = tt
  reads_grow (recalling search) read low h = recall_grows search read low h

-- ---- a turn

-- facts of which none is a model that refutes
all_read : (ask : Inquiry) (found : List (ℕ × Fact)) (n : ℕ) → length found ≤ n → NoneRefutes ask (map (λ f. f.1) found) n → AllByRecursion (λ (f : ℕ × Fact). RefutesNoGoal ask f.1) found
all_read ask [] n within none = tt
all_read ask (f ∷ found) zero within none = absurd (omega arith)
all_read ask (f ∷ found) (suc n) within none = (λ model is. none 0 model (omega arith) (ap (λ (r : Fact). Some r) is), all_read ask found n (omega arith) (λ k model low at. none (suc k) model (omega arith) at))

module _ (log seen : List (Entry Fact)) (begins : Begins seen log) (search : Recall) (read most : ℕ) (facts : Facts Fact) (opened : search.is_open ≡ true) (h : HasRead log search read) (handed : Handed recording.model_of seen search.ask.group read most facts) where
  abbrev unread : List (ℕ × Fact)
  unread = drop search.read h.models

  ahead : HandedFirst recording.model_of search.ask.group log unread facts
  ahead = handed_first recording.model_of search.ask.group seen log (facts_of begins.0) (ap (λ (l : List (Entry Fact)). facts_of l) begins.1 ∙ facts_of-append seen begins.0) read most facts unread (h.others_unread opened) handed

  -- all that were handed are read, and none refutes
  reads_all : (spent : ℕ) (goes : Bool) → spent ≡ ahead.count → NoneRefutes search.ask facts.records spent → HasRead log (record search { read = search.read + spent; is_open = goes }) facts.upto
  reads_all spent goes all none =
      let within = ahead.within in
      let long = drop_long search.read h.models h.few in
      let taken = take_length ahead.count unread within in
      let first : facts.records ≡ map (λ f. f.1) (take spent unread) = ahead.are ∙ ap (λ (n : ℕ). map (λ f. f.1) (take n unread)) (sym all) in
      let few : length (take spent unread) ≤ spent = subst (λ (n : ℕ). length (take n unread) ≤ n) (sym all) (omega arith) in
      record {
        models = h.models;
        are_models = h.are_models;
        few = omega arith;
        others_unread = λ _. subst (λ (found : List (ℕ × Fact)). ModelsAbove recording.model_of log search.ask.group facts.upto found) (drop_more search.read ahead.count h.models h.few ∙ ap (λ (n : ℕ). drop (search.read + n) h.models) (sym all)) ahead.rest;
        none_refutes = λ _. subst (AllByRecursion (λ (found : ℕ × Fact). RefutesNoGoal search.ask found.1)) (sym (take_more search.read spent h.models h.few))
            (all-append (λ (found : ℕ × Fact). RefutesNoGoal search.ask found.1) (take search.read h.models) (take spent unread) (h.none_refutes opened)
            (all_read search.ask (take spent unread) spent few (subst (λ (rs : List Fact). NoneRefutes search.ask rs spent) first none)));
      }

  reads_to : (spent : ℕ) (end : TurnEnd Fact) → RecallEnd search.ask facts.records spent end → HasRead log (record search { read = search.read + spent; is_open = goes_on end }) (cond (is_stopped end) read facts.upto)
  reads_to spent More end = reads_all spent true (end.1 ∙ handed_count recording.model_of search.ask.group log unread facts ahead) end.2
  reads_to spent (Found records) end =
      let count = handed_count recording.model_of search.ask.group log unread facts ahead in
      let some = end.some in
      let there = slice_get_within facts.records (spent - 1) _ end.there in
      let within = ahead.within in
      let long = drop_long search.read h.models h.few in
      record { models = h.models; are_models = h.are_models; few = omega arith; others_unread = λ o. absurd (cc o); none_refutes = λ o. absurd (cc o) }
  reads_to spent Idle end =
      let count = handed_count recording.model_of search.ask.group log unread facts ahead in
      let none : length facts.records ≡ 0 = ap length end.1 in
      let spent_none = end.0 in reads_all spent true (omega arith) (λ k model low at. absurd (omega arith))
  reads_to spent (Stopped look) end =
      let same : search.read ≡ search.read + spent = let none = end.0 in omega arith in
      subst (λ (n : ℕ). HasRead log (record search { read = n; is_open = true }) read) same (subst (λ (goes : Bool). HasRead log (record search { is_open = goes }) read) opened h)
  reads_to spent (Closed records) end = absurd end
  reads_to spent (Full what count) end = absurd end

  recall_turn : (outcome : Outcome Fact) (after : Recall) → RecallTurn search facts outcome after → HasRead log after (cond (is_stopped outcome.end) read facts.upto)
  recall_turn outcome after turn = subst (λ (s : Recall). HasRead log s (cond (is_stopped outcome.end) read facts.upto)) (sym turn.after_it) (reads_to outcome.spent outcome.end turn.end)

-- what a search has read of a log after a turn
pub reads_turn : (log seen : List (Entry Fact)) → Begins seen log → (search : Search) (read units : ℕ) (facts : Facts Fact) (outcome : Outcome Fact) (after : Search) → is_open search ≡ true → SearchTurn search units facts outcome after → ReadsOf log search read →
    Handed recording.model_of seen (ask_of search).group read (models_wanted search units) facts → ReadsOf log after (cond (is_stopped outcome.end) read facts.upto)
reads_turn log seen begins (plain search) read units facts outcome after opened turn h handed = subst (λ (s : Search). ReadsOf log s (cond (is_stopped outcome.end) read facts.upto)) (sym turn.1) tt
reads_turn log seen begins (completing search) read units facts outcome after opened turn h handed = subst (λ (s : Search). ReadsOf log s (cond (is_stopped outcome.end) read facts.upto)) (sym turn.1) tt
reads_turn log seen begins (enumerating search) read units facts outcome after opened turn h handed = subst (λ (s : Search). ReadsOf log s (cond (is_stopped outcome.end) read facts.upto)) (sym turn.1) tt
reads_turn log seen begins (reducing search) read units facts outcome after opened turn h handed = subst (λ (s : Search). ReadsOf log s (cond (is_stopped outcome.end) read facts.upto)) (sym turn.1) tt
reads_turn log seen begins (recalling search) read units facts outcome after opened turn h handed =
    subst (λ (s : Search). ReadsOf log s (cond (is_stopped outcome.end) read facts.upto)) (sym turn.1) (recall_turn log seen begins search read (models_wanted (recalling search) units) facts opened h handed outcome turn.0 turn.2)

-- a search that has just been started has read nothing
first_read : (log : List (Entry Fact)) (search : Recall) → search.read ≡ 0 → HasRead log search 0
first_read log search none =
    let models = all_models search.ask.group 0 1 (facts_of log) in
    record {
      models = models.0;
      are_models = models.1;
      few = omega arith;
      others_unread = λ _. subst (λ (n : ℕ). ModelsAbove recording.model_of log search.ask.group 0 (drop n models.0)) (sym none) models.1;
      none_refutes = λ _. subst (λ (n : ℕ). AllByRecursion (λ (found : ℕ × Fact). RefutesNoGoal search.ask found.1) (take n models.0)) (sym none) tt;
    }

pub reads_first : (log : List (Entry Fact)) (procedure : Procedure) (ask : Inquiry) (search : Search) → Opens procedure ask search → ReadsOf log search 0
reads_first log procedure ask (plain search) opens = tt
reads_first log procedure ask (completing search) opens = tt
reads_first log procedure ask (enumerating search) opens = tt
reads_first log procedure ask (reducing search) opens = tt
reads_first log procedure ask (recalling search) opens = first_read log search (ap (λ (s : Recall). s.read) opens.first)
