-- The maps that begin alike: none of them refutes a goal where a word shows it, and which one comes behind them.
use Rattle.std.proofs.Common.{◌≡◌, ℕ, zero, suc, ◌+◌, ◌-◌, ◌*◌, ◌%◌, ◌^◌, ◌<◌, ◌≤◌, List, [], ◌∷◌, ◌++◌, length, get_or, set, take, drop, replicate, All, refl, sym, ap, subst, ◌∙◌, inl, inr, arith}
use Rattle.std.specs.Prelude.{slice_index_or}
use Rattle.std.specs.List.{AllByRecursion}
use Rattle.std.proofs.lemmas.Bool.{cases_lt}
use Rattle.std.proofs.Math.Nat.{zero-mul, one-mul, add-mul, mul_comm, pow-suc}
use Rattle.std.proofs.Math.Seq.{take-append_seam}
use Rattle.std.proofs.lemmas.List.{length-set, length-take-le, length-replicate, take-append-drop, take_all, drop-set, drop-set-lt, drop-drop, drop-replicate}
use Rattle.std.proofs.lemmas.List.Elements.{All-set, All-take, All-replicate, All-get_or, All-from_recursion}
use Rattle.mg_numbers.specs.Blocks.{number_in}
use Rattle.mg_numbers.specs.Plain.{NoneAmong}
use Rattle.mg_numbers.specs.Residues.{ResidueTuple, IsResidueTuple, residue_tuples_below}
use Rattle.mg_numbers.proofs.Beginnings.{number_in-zeros, number_in-append, residues_begin, residue_tuples_below-next, modulus_fits}
use Rattle.mg_numbers.proofs.ResiduesLaws.{residue_tuple_of_block}
use Rattle.mg_present.specs.Ask.{Inquiry}
use Rattle.mg_cyclic.specs.Map.{residue_of_word, Refutes}
use Rattle.mg_cyclic.specs.Number.{IsNumbered, RefutedAt}
use Rattle.mg_cyclic.specs.Exponents.{VanishesWith}
use Rattle.mg_cyclic.specs.Kept.{Keep}
use Rattle.mg_cyclic.specs.Walk.{Breaks, IsPlace, IsEquipped, IsWalk, NoneHere, first_at}
use Rattle.mg_cyclic.specs.declared.walk.Walk.{Walk}
use Rattle.mg_cyclic.proofs.Sums.{tuple}

-- a digit put in place of another
number_in-set : (n i v : ℕ) (xs : List ℕ) → i < length xs → number_in n (set xs i v) + get_or xs i 0 * n ^ (length xs - suc i) ≡ number_in n xs + v * n ^ (length xs - suc i)
number_in-set n i v [] h = absurd (omega (arith, h))
number_in-set n zero v (x ∷ xs) h =
    let e : suc (length xs) - 1 ≡ length xs = omega arith in
    omega (arith, ap (λ k. x * n ^ k) e, ap (λ k. v * n ^ k) e)
number_in-set n (suc i) v (x ∷ xs) h =
    let e : suc (length xs) - suc (suc i) ≡ length xs - suc i = omega arith in
    omega (arith, ap (λ k. get_or xs i 0 * n ^ k) e, ap (λ k. v * n ^ k) e, ap (λ k. x * n ^ k) (length-set xs i v), number_in-set n i v xs (omega (arith, h)))

-- where only zeros follow, the beginning alone counts
number_in-beginning : (n level : ℕ) (xs : List ℕ) → drop level xs ≡ replicate (length xs - level) 0 → number_in n xs ≡ number_in n (take level xs) * n ^ (length xs - level)
number_in-beginning n level xs zeros =
    let left = length xs - level in
    ap (number_in n) (sym (take-append-drop level xs)) ∙ number_in-append n (take level xs) (drop level xs)
    ∙ ap (λ l. number_in n (take level xs) * n ^ length l + number_in n l) zeros
    ∙ omega (arith, number_in-zeros n left, ap (λ k. number_in n (take level xs) * n ^ k) (length-replicate {A = ℕ} left 0))

-- what no map that begins so does, no number of the stretch does
pub none_in_stretch : (ask : Inquiry) (walk : Walk) → IsPlace ask walk
    → ((t : ResidueTuple) → IsResidueTuple ask.group.generators t → t.modulus ≡ walk.map.modulus → take walk.level t.residues ≡ take walk.level walk.map.residues → (goal : ℕ) → Refutes ask goal t → ⊥) → NoneHere ask walk
none_in_stretch ask walk place none k low high refuted =
    let m = ask.group.generators in
    let n = walk.map.modulus in
    let xs = walk.map.residues in
    let b = take walk.level xs in
    let stands = place.standing in
    let long : length b ≡ walk.level = length-take-le walk.level xs stands.level in
    let blocks : residue_tuples_below (length xs) n ≡ residue_tuples_below m n = ap (λ j. residue_tuples_below j n) place.count in
    let first = number_in-beginning n walk.level xs stands.zeros in
    let t = refuted.map in
    let r = residues_begin m k n (length xs - walk.level) b t refuted.numbered stands.map.proper (All-take (λ x. x < n) walk.level xs stands.map.below) (omega (arith, long, stands.level, place.count))
    (omega (arith, low, first, blocks)) (omega (arith, high, first, blocks)) in
    let begins : take walk.level t.residues ≡ b = ap (take walk.level) r.1.whole ∙ ap (λ j. take j (b ++ r.1.rest)) (sym long) ∙ take-append_seam b r.1.rest in
    none t refuted.numbered.is r.0 begins refuted.goal refuted.refutes

pub none_where_relator_breaks : (ask : Inquiry) (walk : Walk) → IsPlace ask walk → Breaks ask.group.relators walk.level walk.map → NoneHere ask walk
none_where_relator_breaks ask walk place breaks = none_in_stretch ask walk place (λ t is same begins goal refutes.
    let w = slice_index_or ask.group.relators breaks.place [] in
    let alike = breaks.depends t walk.map (subst (λ m. IsResidueTuple m t) (sym place.count) is) place.standing.map same begins in
    breaks.remains (sym alike ∙ All-get_or (λ w. residue_of_word t w ≡ 0) ask.group.relators breaks.place [] breaks.there (All-from_recursion (λ w. residue_of_word t w ≡ 0) ask.group.relators refutes.is_map.relators)))

pub none_where_member_breaks : (ask : Inquiry) (walk : Walk) → IsPlace ask walk → Breaks ask.subgroup walk.level walk.map → NoneHere ask walk
none_where_member_breaks ask walk place breaks = none_in_stretch ask walk place (λ t is same begins goal refutes.
    let alike = breaks.depends t walk.map (subst (λ m. IsResidueTuple m t) (sym place.count) is) place.standing.map same begins in
    breaks.remains (sym alike ∙ All-get_or (λ w. residue_of_word t w ≡ 0) ask.subgroup breaks.place [] breaks.there (All-from_recursion (λ w. residue_of_word t w ≡ 0) ask.subgroup refutes.vanish)))

-- a map whose modulus divides the exponent sums of all goals refutes none
none_refuted : (ask : Inquiry) (walk : Walk) (t : ResidueTuple) → IsEquipped ask walk → IsResidueTuple ask.group.generators t → walk.content % t.modulus ≡ 0 → (goal : ℕ) → Refutes ask goal t → ⊥
none_refuted ask walk t equipped is divides goal refutes =
    refutes.remains (All-get_or (VanishesWith ask.group.generators walk.content) ask.goals goal [] refutes.there (All-from_recursion (VanishesWith ask.group.generators walk.content) ask.goals equipped.content) t is divides)

pub none_of_modulus : (ask : Inquiry) (walk : Walk) → IsPlace ask walk → walk.content % walk.map.modulus ≡ 0 → NoneHere ask walk
none_of_modulus ask walk place divides = none_in_stretch ask walk place (λ t is same begins goal refutes. none_refuted ask walk t place.equipped is (ap (λ n. walk.content % n) same ∙ divides) goal refutes)

-- where all exponent sums of all goals are 0, no number is refuted
pub none_at_all : (ask : Inquiry) (walk : Walk) → IsEquipped ask walk → walk.content ≡ 0 → (high : ℕ) → NoneAmong (RefutedAt ask) 0 high
none_at_all ask walk equipped none high k low up refuted =
    none_refuted ask walk refuted.map equipped refuted.numbered.is (ap (λ c. c % refuted.map.modulus) none ∙ omega (arith, refuted.numbered.is.proper)) refuted.goal refuted.refutes

-- the walk's map alone
pub none_of_map : (ask : Inquiry) (walk : Walk) → IsPlace ask walk → walk.level ≡ length walk.map.residues → ((goal : ℕ) → Refutes ask goal walk.map → ⊥) → NoneHere ask walk
none_of_map ask walk place whole none = none_in_stretch ask walk place (λ t is same begins goal refutes.
    let mine : take walk.level walk.map.residues ≡ walk.map.residues = take_all walk.level walk.map.residues (omega (arith, whole)) in
    let its : take walk.level t.residues ≡ t.residues = take_all walk.level t.residues (omega (arith, whole, is.count, place.count)) in
    let residues : t.residues ≡ walk.map.residues = sym its ∙ begins ∙ mine in
    let equal : t ≡ walk.map = ap (λ n. tuple n t.residues) same ∙ ap (tuple walk.map.modulus) residues in
    none goal (subst (λ (u : ResidueTuple). Refutes ask goal u) equal refutes))

-- and its number
pub numbered_here : (ask : Inquiry) (walk : Walk) → IsPlace ask walk → IsNumbered ask.group.generators walk.map (first_at walk + 1)
numbered_here ask walk place =
    let stands = place.standing in
    residue_tuple_of_block ask.group.generators (first_at walk + 1) walk.map.modulus (number_in walk.map.modulus walk.map.residues) walk.map.residues stands.map.proper
    (ap (λ m. residue_tuples_below m walk.map.modulus + number_in walk.map.modulus walk.map.residues + 1) (sym place.count)) place.count stands.map.below refl

-- one residue more is chosen, which is 0
pub zeros_deeper : (level : ℕ) (xs : List ℕ) → drop level xs ≡ replicate (length xs - level) 0 → drop (level + 1) xs ≡ replicate (length xs - (level + 1)) 0
zeros_deeper level xs zeros =
    let e : length xs - level - 1 ≡ length xs - (level + 1) = omega arith in
    sym (drop-drop 1 level xs) ∙ ap (drop 1) zeros ∙ drop-replicate 1 (length xs - level) 0 ∙ ap (λ j. replicate j 0) e

-- where a map stands, and up to which place its stretch goes
pub record Stands (map : ResidueTuple) (level total : ℕ) : Type 0 where
  pub is : IsResidueTuple (length map.residues) map
  pub within : level ≤ length map.residues
  pub zeros : drop level map.residues ≡ replicate (length map.residues - level) 0
  pub ends : residue_tuples_below (length map.residues) map.modulus + number_in map.modulus map.residues + map.modulus ^ (length map.residues - level) ≡ total

-- where a map stands, and at which place
pub record IsStandingAt (map : ResidueTuple) (level place : ℕ) : Type 0 where
  pub is : IsResidueTuple (length map.residues) map
  pub within : level ≤ length map.residues
  pub zeros : drop level map.residues ≡ replicate (length map.residues - level) 0
  pub at : residue_tuples_below (length map.residues) map.modulus + number_in map.modulus map.residues ≡ place

-- a map of which one residue is put in place of another
abbrev pub put : ResidueTuple → ℕ → ℕ → ResidueTuple
put map i v = record { modulus = map.modulus; residues = set map.residues i v }

is_put : (map : ResidueTuple) (i v : ℕ) → IsResidueTuple (length map.residues) map → v < map.modulus → IsResidueTuple (length (set map.residues i v)) (put map i v)
is_put map i v p h = record { proper = p.proper; count = refl; below = All-set (λ x. x < map.modulus) map.residues i v h p.below }

-- the last chosen residue is raised
pub stands_raised : (map : ResidueTuple) (level total : ℕ) → Stands map level total → 1 ≤ level → get_or map.residues (level - 1) 0 + 1 < map.modulus
    → IsStandingAt (put map (level - 1) (get_or map.residues (level - 1) 0 + 1)) level total
stands_raised map level total s some less =
    let xs = map.residues in
    let n = map.modulus in
    let i = level - 1 in
    let y = get_or xs i 0 in
    let w = n ^ (length xs - level) in
    let long : length (set xs i (y + 1)) ≡ length xs = length-set xs i (y + 1) in
    let e : length xs - suc i ≡ length xs - level = omega (arith, some) in
    let p : n ^ (length xs - suc i) ≡ w = ap (λ k. n ^ k) e in
    let changed = number_in-set n i (y + 1) xs (omega (arith, some, s.within)) in
    record {
      is = is_put map i (y + 1) s.is less;
      within = omega (arith, long, s.within);
      zeros = drop-set-lt level xs i (y + 1) (omega (arith, some)) ∙ s.zeros ∙ ap (λ k. replicate (k - level) 0) (sym long);
      at = omega (arith, s.ends, changed, ap (λ k. y * k) p, ap (λ k. (y + 1) * k) p, add-mul y 1 w, one-mul w, ap (λ k. residue_tuples_below k n) long);
    }

-- the last residue goes round to 0, and one less is chosen
pub stands_around : (map : ResidueTuple) (level total : ℕ) → Stands map level total → 1 ≤ level → get_or map.residues (level - 1) 0 + 1 ≡ map.modulus → Stands (put map (level - 1) 0) (level - 1) total
stands_around map level total s some last =
    let xs = map.residues in
    let n = map.modulus in
    let i = level - 1 in
    let y = get_or xs i 0 in
    let w = n ^ (length xs - level) in
    let there : i < length xs = omega (arith, some, s.within) in
    let long : length (set xs i 0) ≡ length xs = length-set xs i 0 in
    let e : length xs - suc i ≡ length xs - level = omega (arith, some) in
    let p : n ^ (length xs - suc i) ≡ w = ap (λ k. n ^ k) e in
    let f : length (set xs i 0) - i ≡ suc (length xs - level) = omega (arith, long, some, s.within) in
    let wide : n ^ (length (set xs i 0) - i) ≡ w * n = ap (λ k. n ^ k) f ∙ pow-suc n (length xs - level) in
    let next : i + 1 ≡ level = omega (arith, some) in
    let changed = number_in-set n i 0 xs there in
    let rise : n * w ≡ y * w + w = ap (λ k. k * w) (sym last) ∙ add-mul y 1 w ∙ ap (λ k. y * w + k) (one-mul w) in
    record {
      is = is_put map i 0 s.is (omega (arith, s.is.proper));
      within = omega (arith, long, s.within);
      zeros = drop-set xs i 0 there ∙ ap (λ j. 0 ∷ drop j xs) next ∙ ap (λ l. 0 ∷ l) s.zeros ∙ ap (λ k. replicate k 0) (sym f);
      ends = omega (arith, s.ends, changed, ap (λ k. y * k) p, zero-mul (n ^ (length xs - suc i)), wide, mul_comm w n, rise, ap (λ k. residue_tuples_below k n) long);
    }

-- where no residue is chosen, all are 0
pub zeros_at_last : (map : ResidueTuple) (level total : ℕ) → Stands map level total → level ≡ 0 → map.residues ≡ replicate (length map.residues) 0
zeros_at_last map level total s none =
    let xs = map.residues in
    let whole : length xs - level ≡ length xs = omega (arith, none) in
    ap (λ k. drop k xs) (sym none) ∙ s.zeros ∙ ap (λ k. replicate k 0) whole

-- behind all maps of a modulus comes the first one of the next
pub stands_enlarged : (map : ResidueTuple) (total : ℕ) → Stands map 0 total → IsStandingAt (record { modulus = map.modulus + 1; residues = map.residues }) 0 total
stands_enlarged map total s =
    let xs = map.residues in
    let n = map.modulus in
    let m = length xs in
    let whole : m - 0 ≡ m = omega arith in
    let none : xs ≡ replicate m 0 = s.zeros ∙ ap (λ k. replicate k 0) whole in
    let now : number_in (n + 1) xs ≡ 0 = ap (number_in (n + 1)) none ∙ number_in-zeros (n + 1) m in
    let before : number_in n xs ≡ 0 = ap (number_in n) none ∙ number_in-zeros n m in
    record {
      is = record { proper = omega (arith, s.is.proper); count = refl; below = subst (λ l. All (λ x. x < n + 1) l) (sym none) (All-replicate (λ x. x < n + 1) m 0 (omega arith)) };
      within = omega arith;
      zeros = s.zeros;
      at = omega (arith, s.ends, now, before, residue_tuples_below-next m n s.is.proper, ap (λ k. n ^ k) whole);
    }

abbrev pub place_first : ResidueTuple → ℕ
place_first t = residue_tuples_below (length t.residues) t.modulus + number_in t.modulus t.residues

-- the modulus of a walk that is stepped fits, and the next one too
pub modulus_fits_here : (ask : Inquiry) (walk : Walk) → IsPlace ask walk → first_at walk < 2 ^ 62 → walk.map.modulus + 1 < 2 ^ 32
modulus_fits_here ask walk place few =
    modulus_fits (length walk.map.residues) walk.map.modulus (omega (arith, place.count, place.equipped.some)) place.standing.map.proper (omega (arith, few))

-- a walk at another place for the same Ask
pub equipped_still : (ask : Inquiry) (old new : Walk) → new.content ≡ old.content → IsEquipped ask old → IsEquipped ask new
equipped_still ask old new c e = record { asked = e.asked; some = e.some; content = subst (λ k. AllByRecursion (VanishesWith ask.group.generators k) ask.goals) (sym c) e.content }

-- the numbers before a stretch and those of it
pub none_through : (ask : Inquiry) (next first many after : ℕ) → next ≡ first + 1 → NoneAmong (RefutedAt ask) 0 (next - 1) → NoneAmong (RefutedAt ask) first (first + many) → after ≤ next + many → NoneAmong (RefutedAt ask) 0 (after - 1)
none_through ask next first many after is before here within k low high refuted =
    elim (cases_lt first k) [
      | inl behind ↦ here k behind (omega (arith, high, within, is)) refuted
      | inr ahead ↦ before k low (omega (arith, ahead, is)) refuted
    ]

-- the walk that has passed nothing
pub started : (ask : Inquiry) (walk : Walk) → IsEquipped ask walk → walk.map ≡ tuple 2 (replicate ask.group.generators 0) → walk.level ≡ 0
    → Keep ask.group.relators (tuple 2 (replicate ask.group.generators 0)) walk.relators.items → Keep ask.subgroup (tuple 2 (replicate ask.group.generators 0)) walk.members.items
    → (walk.content ≡ 0 → walk.next ≡ 2 ^ 64 - 1) → (1 ≤ walk.content → walk.next ≡ 1) → IsWalk ask walk
started ask walk equipped map level relators members none some =
    let m = ask.group.generators in
    let residues : walk.map.residues ≡ replicate m 0 = ap (λ (t : ResidueTuple). t.residues) map in
    let long : length walk.map.residues ≡ m = ap length residues ∙ length-replicate {A = ℕ} m 0 in
    let zeros : walk.map.residues ≡ replicate (length walk.map.residues - walk.level) 0 = residues ∙ (let e : m ≡ length walk.map.residues - walk.level = omega (arith, long, level) in ap (λ k. replicate k 0) e) in
    let tuple_is : IsResidueTuple m (tuple 2 (replicate m 0)) = record { proper = omega arith; count = length-replicate {A = ℕ} m 0; below = All-replicate (λ x. x < 2) m 0 (omega arith) } in
    let first : first_at walk ≡ 0 = omega (arith, ap place_first map, number_in-zeros 2 m) in
    record {
      place = record {
        equipped = equipped;
        count = long;
        standing = record {
          map = subst (λ (t : ResidueTuple). IsResidueTuple (length t.residues) t) (sym map) (subst (λ k. IsResidueTuple k (tuple 2 (replicate m 0))) (sym (length-replicate {A = ℕ} m 0)) tuple_is);
          level = omega (arith, level);
          zeros = ap (λ k. drop k walk.map.residues) level ∙ zeros;
        };
        relators = subst (λ (t : ResidueTuple). Keep ask.group.relators t walk.relators.items) (sym map) relators;
        members = subst (λ (t : ResidueTuple). Keep ask.subgroup t walk.members.items) (sym map) members;
      };
      some = elim (cases_lt 0 walk.content) [ inl more ↦ omega (arith, some (omega (arith, more))) | inr less ↦ omega (arith, none (omega (arith, less))) ];
      none = elim (cases_lt 0 walk.content) [
        | inl more ↦ λ k low high refuted. absurd (omega (arith, low, high, some (omega (arith, more))))
        | inr less ↦ none_at_all ask walk equipped (omega (arith, less)) (walk.next - 1)
      ];
      number = elim (cases_lt 0 walk.content) [
        | inl more ↦ λ few. omega (arith, some (omega (arith, more)), first)
        | inr less ↦ λ few. absurd (omega (arith, few, none (omega (arith, less))))
      ];
    }
