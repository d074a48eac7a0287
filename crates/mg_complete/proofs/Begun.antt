-- The pairs and the relators, one after another, up to the limit that would be passed.
use Rattle.std.proofs.Common.{◌≡◌, ℕ, zero, suc, ◌+◌, ◌*◌, ◌<◌, ◌≤◌, ℤ, pos, negsuc, List, [], ◌∷◌, ◌++◌, length, refl, sym, ap, subst, ◌∙◌, inl, inr, arith}
use Rattle.std.specs.Prelude.{◌⊎◌, Option, None, Some, Result, IfOk, neg_ℤ, slice_get}
use Rattle.std.specs.List.{AllByRecursion}
use Rattle.std.proofs.lemmas.Bool.{cases_lt}
use Rattle.std.proofs.lemmas.Option.{same_Some, slice_get_within}
use Rattle.std.proofs.lemmas.List.{append-nil}
use Rattle.std.proofs.lemmas.Result.{IfOk-weaker}
use Rattle.mg_words.specs.Letter.{IsLetterOf}
use Rattle.mg_present.specs.Presentation.{Group}
use Rattle.mg_present.specs.Ask.{Inquiry}
use Rattle.mg_rules.specs.Rule.{Rule, Descends}
use Rattle.mg_complete.specs.declared.system.Passed.{Passed}
use Rattle.mg_complete.specs.declared.work.Work.{Work}
use Rattle.mg_complete.specs.Completion.{Vanish, first_equations}
use Rattle.mg_complete.specs.Turn.{NoRoom}
use Rattle.mg_complete.specs.Working.{Works}
use Rattle.mg_complete.specs.Beginning.{Begins, ComesTo, Vanishes, PairsVanish, LetterVanishes, RelatorsVanish}
use Rattle.mg_complete.proofs.Growing.{descends_still}
use Rattle.mg_complete.proofs.Showing.{some_at}
use Rattle.mg_complete.proofs.Starting.{works_more, grows_none, grows_on}

-- what holds of rules holds of more rules
abbrev pub IsStable : (List Rule → Type 0) → Type 0
IsStable holds = (rules more : List Rule) → holds rules → holds (rules ++ more)

pub pairs_stable : (generators : ℕ) → IsStable (PairsVanish generators)
pairs_stable generators rules more h x letter = descends_still rules more (x ∷ neg_ℤ x ∷ []) [] (h x letter)

pub letter_stable : (x : ℤ) → IsStable (LetterVanishes x)
letter_stable x rules more h = (descends_still rules more (x ∷ neg_ℤ x ∷ []) [] h.0, descends_still rules more (neg_ℤ x ∷ neg_ℤ (neg_ℤ x) ∷ []) [] h.1)

pub word_stable : (word : List ℤ) → IsStable (Vanishes word)
word_stable word rules more h = descends_still rules more word [] h

pub relators_stable : (relators : List (List ℤ)) (count : ℕ) → IsStable (RelatorsVanish relators count)
relators_stable relators count rules more h place word less at = descends_still rules more word [] (h place word less at)

-- ---- one after the other

come_both : (b c : Work) (m : ℕ) (P Q : List Rule → Type 0) (full : Option Passed) → IsStable P → P b.system.rules → Begins b m Q full c → ComesTo (λ rules. P rules × Q rules) full c
come_both b c m P Q None stable h k = (subst P (sym k.grows.rules) (stable b.system.rules k.grows.added h), k.comes)
come_both b c m P Q (Some passed) stable h k = k.comes

pub begins_then : (a b c : Work) (m n : ℕ) (P Q : List Rule → Type 0) (full : Option Passed) → IsStable P → Begins a m P None b → Begins b n Q full c → Begins a (m + n) (λ rules. P rules × Q rules) full c
begins_then a b c m n P Q full stable h k = record {
  grows = grows_on a b c h.grows k.grows;
  last = k.last ∙ h.last;
  spent = k.spent ∙ h.spent;
  works = λ dealt works. let same : dealt + m + n ≡ dealt + (m + n) = omega arith in subst (Works c) same (k.works (dealt + m) (h.works dealt works));
  comes = come_both b c n P Q full stable h.comes k;
}

-- a limit that would be passed
pub begins_full : (a b c : Work) (m n most : ℕ) (P Q R : List Rule → Type 0) (passed : Passed) → Begins a m P None b → Begins b n Q (Some passed) c → m + n ≤ most → Begins a most R (Some passed) c
begins_full a b c m n most P Q R passed h k less = record {
  grows = grows_on a b c h.grows k.grows;
  last = k.last ∙ h.last;
  spent = k.spent ∙ h.spent;
  works = λ dealt works. works_more c (dealt + m + n) (dealt + most) (omega (arith, less)) (k.works (dealt + m) (h.works dealt works));
  comes = k.comes;
}

pub begins_none : (a : Work) (P : List Rule → Type 0) → P a.system.rules → Begins a 0 P None a
begins_none a P h = record {
  grows = grows_none a a refl refl;
  last = refl;
  spent = refl;
  works = λ dealt works. let same : dealt ≡ dealt + 0 = omega arith in subst (Works a) same works;
  comes = h;
}

come_weaker : (c : Work) (P Q : List Rule → Type 0) (full : Option Passed) → ((rules : List Rule) → P rules → Q rules) → ComesTo P full c → ComesTo Q full c
come_weaker c P Q None h k = h c.system.rules k
come_weaker c P Q (Some passed) h k = k

pub begins_weaker : (a c : Work) (m n : ℕ) (P Q : List Rule → Type 0) (full : Option Passed) → m ≡ n → ((rules : List Rule) → P rules → Q rules) → Begins a m P full c → Begins a n Q full c
begins_weaker a c m n P Q full same h k = record {
  grows = k.grows;
  last = k.last;
  spent = k.spent;
  works = λ dealt works. subst (λ n. Works c (dealt + n)) same (k.works dealt works);
  comes = come_weaker c P Q full h k.comes;
}

-- ---- letters

letter_above : (n : ℕ) (x : ℤ) → IsLetterOf (suc n) x → IsLetterOf n x ⊎ ((x ≡ pos (suc n)) ⊎ (x ≡ negsuc n))
letter_above n (pos k) h =
    elim (cases_lt k (suc n)) as (λ _. IsLetterOf n (pos k) ⊎ ((pos k ≡ pos (suc n)) ⊎ (pos k ≡ negsuc n))) [
      | inl less ↦ inl (record { least = h.least; most = omega (arith, less) })
      | inr most ↦ let same : k ≡ suc n = omega (arith, most, h.most) in inr (inl (ap pos same))
    ]
letter_above n (negsuc k) h =
    elim (cases_lt k n) as (λ _. IsLetterOf n (negsuc k) ⊎ ((negsuc k ≡ pos (suc n)) ⊎ (negsuc k ≡ negsuc n))) [
      | inl less ↦ inl (record { least = h.least; most = omega (arith, less) })
      | inr most ↦ let same : k ≡ n = omega (arith, most, h.most) in inr (inr (ap negsuc same))
    ]

no_letter : (x : ℤ) → IsLetterOf 0 x → ⊥
no_letter x h = omega (arith, h.least, h.most)

pub no_pairs : (rules : List Rule) → PairsVanish 0 rules
no_pairs rules x letter = absurd (no_letter x letter)

pairs_next : (n : ℕ) (rules : List Rule) → PairsVanish n rules → LetterVanishes (pos (suc n)) rules → PairsVanish (suc n) rules
pairs_next n rules h k x letter =
    elim (letter_above n x letter) as (λ _. Descends rules (x ∷ neg_ℤ x ∷ []) []) [
      | inl old ↦ h x old
      | inr new ↦ elim new as (λ _. Descends rules (x ∷ neg_ℤ x ∷ []) []) [
        | inl e ↦ subst (λ (t : ℤ). Descends rules (t ∷ neg_ℤ t ∷ []) []) (sym e) k.0
        | inr e ↦ subst (λ (t : ℤ). Descends rules (t ∷ neg_ℤ t ∷ []) []) (sym e) k.1
      ]
    ]

-- one more generator
pub pairs_more : (a b c : Work) (n : ℕ) → Begins a (2 * n) (PairsVanish n) None b → Begins b 2 (LetterVanishes (pos (n + 1))) None c → Begins a (2 * (n + 1)) (PairsVanish (n + 1)) None c
pairs_more a b c n h k =
    let one : n + 1 ≡ suc n = omega arith in
    begins_weaker a c (2 * n + 2) (2 * (n + 1)) (λ rules. PairsVanish n rules × LetterVanishes (pos (n + 1)) rules) (PairsVanish (n + 1)) None (omega arith)
    (λ rules both. subst (λ m. PairsVanish m rules) (sym one) (pairs_next n rules both.0 (subst (λ m. LetterVanishes (pos m) rules) one both.1)))
    (begins_then a b c (2 * n) 2 (PairsVanish n) (LetterVanishes (pos (n + 1))) None (pairs_stable n) h k)

-- ---- relators

pub no_relators : (relators : List (List ℤ)) (rules : List Rule) → RelatorsVanish relators 0 rules
no_relators relators rules place word less at = absurd (omega arith)

relators_next : (relators : List (List ℤ)) (n : ℕ) (word : List ℤ) (rules : List Rule) → slice_get relators n ≡ Some word → RelatorsVanish relators n rules → Vanishes word rules → RelatorsVanish relators (n + 1) rules
relators_next relators n word rules there h k place other less at =
    elim (cases_lt place n) as (λ _. Descends rules other []) [
      | inl old ↦ h place other old at
      | inr new ↦ let same : n ≡ place = omega arith in
          let is : word ≡ other = same_Some word other (sym there ∙ (ap (slice_get relators) same ∙ at)) in
          subst (λ (t : List ℤ). Descends rules t []) is k
    ]

-- one more relator
pub relators_more : (a b c : Work) (relators : List (List ℤ)) (n : ℕ) (word : List ℤ) → slice_get relators n ≡ Some word → Begins a n (RelatorsVanish relators n) None b
    → Begins b 1 (Vanishes word) None c → Begins a (n + 1) (RelatorsVanish relators (n + 1)) None c
relators_more a b c relators n word there h k =
    begins_weaker a c (n + 1) (n + 1) (λ rules. RelatorsVanish relators n rules × Vanishes word rules) (RelatorsVanish relators (n + 1)) None refl
    (λ rules both. relators_next relators n word rules there both.0 both.1)
    (begins_then a b c n 1 (RelatorsVanish relators n) (Vanishes word) None (relators_stable relators n) h k)

all_vanish : (relators : List (List ℤ)) (rules : List Rule) → ((place : ℕ) (word : List ℤ) → slice_get relators place ≡ Some word → Descends rules word []) → AllByRecursion (λ (relator : List ℤ). Descends rules relator []) relators
all_vanish [] rules h = tt
all_vanish (r ∷ relators) rules h = (h 0 r refl, all_vanish relators rules (λ place word at. h (suc place) word at))

-- ---- both

vanish_so : (group : Group) (rules : List Rule) → PairsVanish group.generators rules × RelatorsVanish group.relators (length group.relators) rules → Vanish group rules
vanish_so group rules h = record {
  pairs = h.0;
  relators = all_vanish group.relators rules (λ place word at. h.1 place word (slice_get_within group.relators place word at) at);
}

-- all pairs, and then all relators
pub all_begun : (a b c : Work) (group : Group) (full : Option Passed) → Begins a (2 * group.generators) (PairsVanish group.generators) None b
    → Begins b (length group.relators) (RelatorsVanish group.relators (length group.relators)) full c → Begins a (first_equations group) (Vanish group) full c
all_begun a b c group full h k =
    begins_weaker a c (2 * group.generators + length group.relators) (first_equations group)
    (λ rules. PairsVanish group.generators rules × RelatorsVanish group.relators (length group.relators) rules) (Vanish group) full refl (vanish_so group)
    (begins_then a b c (2 * group.generators) (length group.relators) (PairsVanish group.generators) (RelatorsVanish group.relators (length group.relators)) full (pairs_stable group.generators) h k)

all_still : (rules more : List Rule) (words : List (List ℤ)) → AllByRecursion (λ (word : List ℤ). Descends rules word []) words → AllByRecursion (λ (word : List ℤ). Descends (rules ++ more) word []) words
all_still rules more [] h = tt
all_still rules more (word ∷ words) h = (descends_still rules more word [] h.0, all_still rules more words h.1)

-- what comes to nothing still does
pub all_descend_still : (group : Group) (rules more : List Rule) → Vanish group rules → Vanish group (rules ++ more)
all_descend_still group rules more h = record { pairs = pairs_stable group.generators rules more h.pairs; relators = all_still rules more group.relators h.relators }

-- ---- as far as no limit is passed

pub none_passed : (full : Option Passed) → ((passed : Passed) → full ≡ Some passed → ⊥) → full ≡ None
none_passed None h = refl
none_passed (Some passed) h = absurd (h passed refl)

pub full_first : (a c : Work) (n most : ℕ) (Q R : List Rule → Type 0) (full : Option Passed) (passed : Passed) → full ≡ Some passed → Begins a n Q full c → n ≤ most → Begins a most R (Some passed) c
full_first a c n most Q R full passed is h less =
    let k : Begins a n Q (Some passed) c = subst (λ (o : Option Passed). Begins a n Q o c) is h in
    record { grows = k.grows; last = k.last; spent = k.spent; works = λ dealt works. works_more c (dealt + n) (dealt + most) (omega (arith, less)) (k.works dealt works); comes = k.comes }

-- the letter, and then its inverse
pub letter_dealt : {E : Type 0} (r : Result (Option Passed) E) (a b c : Work) (x y : ℤ) (first : Option Passed) → ((passed : Passed) → first ≡ Some passed → ⊥) → y ≡ neg_ℤ x
    → Begins a 1 (Vanishes (x ∷ neg_ℤ x ∷ [])) first b → IfOk r (λ full. Begins b 1 (Vanishes (y ∷ neg_ℤ y ∷ [])) full c) → IfOk r (λ full. Begins a 2 (LetterVanishes x) full c)
letter_dealt r a b c x y first none is h =
    let k : Begins a 1 (Vanishes (x ∷ neg_ℤ x ∷ [])) None b = subst (λ (o : Option Passed). Begins a 1 (Vanishes (x ∷ neg_ℤ x ∷ [])) o b) (none_passed first none) h in
    IfOk-weaker r _ _ (λ full m.
    let last : Begins b 1 (Vanishes (neg_ℤ x ∷ neg_ℤ (neg_ℤ x) ∷ [])) full c = subst (λ (t : ℤ). Begins b 1 (Vanishes (t ∷ neg_ℤ t ∷ [])) full c) is m in
    begins_weaker a c (1 + 1) 2 (λ rules. Vanishes (x ∷ neg_ℤ x ∷ []) rules × Vanishes (neg_ℤ x ∷ neg_ℤ (neg_ℤ x) ∷ []) rules) (LetterVanishes x) full refl (λ rules both. both)
    (begins_then a b c 1 1 (Vanishes (x ∷ neg_ℤ x ∷ [])) (Vanishes (neg_ℤ x ∷ neg_ℤ (neg_ℤ x) ∷ [])) full (word_stable (x ∷ neg_ℤ x ∷ [])) k last))

-- what was dealt with, and a limit that would be passed
pub full_next : (a b c : Work) (m n most : ℕ) (P Q R : List Rule → Type 0) (full : Option Passed) (passed : Passed) → full ≡ Some passed → Begins a m P None b → Begins b n Q full c → m + n ≤ most
    → Begins a most R (Some passed) c
full_next a b c m n most P Q R full passed is h k less = begins_full a b c m n most P Q R passed h (subst (λ (o : Option Passed). Begins b n Q o c) is k) less

pub none_next : (b c : Work) (n : ℕ) (Q : List Rule → Type 0) (full : Option Passed) → ((passed : Passed) → full ≡ Some passed → ⊥) → Begins b n Q full c → Begins b n Q None c
none_next b c n Q full none k = subst (λ (o : Option Passed). Begins b n Q o c) (none_passed full none) k

-- the relator at the place is dealt with
pub relator_dealt : (a b c : Work) (place : ℕ) (full : Option Passed) → b.ask ≡ a.ask → place < length a.ask.group.relators
    → ((word : List ℤ) → slice_get b.ask.group.relators place ≡ Some word → Begins b 1 (Vanishes word) full c)
    → (word : List ℤ) × (slice_get a.ask.group.relators place ≡ Some word) × Begins b 1 (Vanishes word) full c
relator_dealt a b c place full same less h =
    let at = some_at a.ask.group.relators place less in (at.0, at.1, h at.0 (subst (λ (q : Inquiry). slice_get q.group.relators place ≡ Some at.0) (sym same) at.1))

-- all relators, behind all pairs
pub both_begun : {E : Type 0} (r : Result (Option Passed) E) (a b c : Work) (first : Option Passed) → ((passed : Passed) → first ≡ Some passed → ⊥)
    → Begins a (2 * a.ask.group.generators) (PairsVanish a.ask.group.generators) first b
    → IfOk r (λ full. Begins b (length b.ask.group.relators) (RelatorsVanish b.ask.group.relators (length b.ask.group.relators)) full c)
    → IfOk r (λ full. Begins a (first_equations a.ask.group) (Vanish a.ask.group) full c)
both_begun r a b c first never h =
    let k = none_next a b (2 * a.ask.group.generators) (PairsVanish a.ask.group.generators) first never h in
    IfOk-weaker r _ _ (λ full m.
    all_begun a b c a.ask.group full k
    (subst (λ (q : Inquiry). Begins b (length q.group.relators) (RelatorsVanish q.group.relators (length q.group.relators)) full c) k.grows.ask m))
