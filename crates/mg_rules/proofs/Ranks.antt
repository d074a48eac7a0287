-- The rank of a word: its value as a text of digits, one for each generator and one for its inverse. Shortlex goes by
-- ranks, so a rewriting by a rule that decreases lowers the rank of the word around it.
use Rattle.std.proofs.Common.{◌≡◌, ℕ, ◌+◌, ◌<◌, ◌≤◌, ◌⊎◌, ℤ, pos, negsuc, List, [], ◌∷◌, ◌++◌, map, length, refl, sym, ap, subst, ◌∙◌, inl, inr, arith}
use Rattle.std.specs.List.{AllByRecursion}
use Rattle.std.specs.declared.cmp.Ordering.{Ordering}
use Rattle.std.specs.declared.cmp.Ordering.TheVariants.{Less, Equal, Greater}
use Rattle.std.specs.Ordering.{ordering_then, nat_cmp}
use Rattle.std.specs.Cmp.{ranked}
use Rattle.std.proofs.lemmas.List.{map-append, length-map, length-append}
use Rattle.mg_words.specs.Orders.{letter_cmp, letters_cmp}
use Rattle.mg_words.proofs.Exact.{letter_exact}
use Rattle.mg_numbers.specs.Texts.{IsText, value, IsLexBefore}
use Rattle.mg_numbers.proofs.TextsValues.{IsText-append, IsText-front, IsText-back, value_in_order}
use Rattle.mg_rules.specs.Rule.{Rule, Occurrence}
use Rattle.mg_rules.specs.Shortlex.{IsSmaller, AllDecrease, Decreases}
use Rattle.mg_rules.proofs.Parts.{all_numbered}

-- letters as digits, in their order
abbrev pub digit_of : ℤ → ℕ
digit_of (pos n) = n + n + 1
digit_of (negsuc n) = n + n + 4

abbrev pub rank : ℕ → List ℤ → ℕ
rank base w = value base (map digit_of w)

abbrev pub IsWithin : ℕ → List ℤ → Type 0
IsWithin base w = IsText base (map digit_of w)

-- both sides are within the base
pub record IsRuleWithin (base : ℕ) (rule : Rule) : Type 0 where
  pub left : IsWithin base rule.left
  pub right : IsWithin base rule.right

less_then : (p q : Ordering) → ordering_then p q ≡ Less → (p ≡ Less) ⊎ ((p ≡ Equal) × (q ≡ Less))
less_then Less q e = inl refl
less_then Equal q e = inr (refl, e)
less_then Greater q e = absurd (let no : Greater ≡ Less = e in cc)

digit_less : (x y : ℤ) → letter_cmp x y ≡ Less → digit_of x < digit_of y
digit_less (pos a) (pos b) e =
    elim (less_then (nat_cmp a b) Equal e) [ inl l ↦ (let below : a < b = ranked a b Less (sym l) in omega arith) | inr s ↦ absurd (let no : Equal ≡ Less = s.1 in cc) ]
digit_less (pos a) (negsuc b) e =
    elim (less_then (nat_cmp a (b + 1)) Less e) [
      | inl l ↦ (let below : a < b + 1 = ranked a (b + 1) Less (sym l) in omega arith)
      | inr s ↦ (let same : a ≡ b + 1 = ranked a (b + 1) Equal (sym s.0) in omega arith)
    ]
digit_less (negsuc a) (pos b) e =
    elim (less_then (nat_cmp (a + 1) b) Greater e) [ inl l ↦ (let below : a + 1 < b = ranked (a + 1) b Less (sym l) in omega arith) | inr s ↦ absurd (let no : Greater ≡ Less = s.1 in cc) ]
digit_less (negsuc a) (negsuc b) e =
    elim (less_then (nat_cmp (a + 1) (b + 1)) Equal e) [ inl l ↦ (let below : a + 1 < b + 1 = ranked (a + 1) (b + 1) Less (sym l) in omega arith) | inr s ↦ absurd (let no : Equal ≡ Less = s.1 in cc) ]

lex_digits : (u v : List ℤ) → length u ≡ length v → letters_cmp u v ≡ Less → IsLexBefore (map digit_of u) (map digit_of v)
lex_digits [] [] h e = absurd (let no : Equal ≡ Less = e in cc)
lex_digits [] (y ∷ v) h e = absurd (omega arith)
lex_digits (x ∷ u) [] h e = absurd (omega arith)
lex_digits (x ∷ u) (y ∷ v) h e =
    elim (less_then (letter_cmp x y) (letters_cmp u v) e) [
      | inl l ↦ inl (digit_less x y l)
      | inr s ↦ inr (ap digit_of (letter_exact x y s.0), lex_digits u v (omega arith) s.1)
    ]

lex_after : (p q t : List ℕ) → IsLexBefore p q → IsLexBefore (p ++ t) (q ++ t)
lex_after [] q t h = absurd h
lex_after (x ∷ p) [] t h = absurd h
lex_after (x ∷ p) (y ∷ q) t h = elim h [ inl l ↦ inl l | inr s ↦ inr (s.0, lex_after p q t s.1) ]

lex_before : (t p q : List ℕ) → IsLexBefore p q → IsLexBefore (t ++ p) (t ++ q)
lex_before [] p q h = h
lex_before (x ∷ t) p q h = inr (refl, lex_before t p q h)

digits-parts : (a b c : List ℤ) → map digit_of (a ++ (b ++ c)) ≡ map digit_of a ++ (map digit_of b ++ map digit_of c)
digits-parts a b c = map-append digit_of a (b ++ c) ∙ ap (λ t. map digit_of a ++ t) (map-append digit_of b c)

pub within_parts : (base : ℕ) (a b c : List ℤ) → IsWithin base a → IsWithin base b → IsWithin base c → IsWithin base (a ++ (b ++ c))
within_parts base a b c h k l =
    subst (IsText base) (sym (digits-parts a b c)) (IsText-append base (map digit_of a) (map digit_of b ++ map digit_of c) h (IsText-append base (map digit_of b) (map digit_of c) k l))

-- the parts of a word within the base
pub record PartsWithin (base : ℕ) (a b c : List ℤ) : Type 0 where
  pub front : IsWithin base a
  pub middle : IsWithin base b
  pub back : IsWithin base c

pub parts_within : (base : ℕ) (a b c : List ℤ) → IsWithin base (a ++ (b ++ c)) → PartsWithin base a b c
parts_within base a b c h =
    let t : IsText base (map digit_of a ++ (map digit_of b ++ map digit_of c)) = subst (IsText base) (digits-parts a b c) h in
    let rest = IsText-back base (map digit_of a) (map digit_of b ++ map digit_of c) t in
    record {
      front = IsText-front base (map digit_of a) (map digit_of b ++ map digit_of c) t;
      middle = IsText-front base (map digit_of b) (map digit_of c) rest;
      back = IsText-back base (map digit_of b) (map digit_of c) rest;
    }

-- a smaller word in a word makes it of lower rank
pub rank_smaller : (base : ℕ) (a b c r : List ℤ) → IsWithin base (a ++ (b ++ c)) → IsWithin base (a ++ (r ++ c)) → IsSmaller r b → rank base (a ++ (r ++ c)) < rank base (a ++ (b ++ c))
rank_smaller base a b c r h k smaller =
    value_in_order base (map digit_of (a ++ (r ++ c))) (map digit_of (a ++ (b ++ c))) k h (elim smaller [
      | inl shorter ↦ inl (omega (arith, length-map (a ++ (r ++ c)) digit_of, length-map (a ++ (b ++ c)) digit_of, length-append a (r ++ c), length-append a (b ++ c), length-append r c, length-append b c))
      | inr lex ↦ inr (
        omega (arith, lex.0, length-map (a ++ (r ++ c)) digit_of, length-map (a ++ (b ++ c)) digit_of, length-append a (r ++ c), length-append a (b ++ c), length-append r c, length-append b c),
        subst (λ (t : List ℕ). IsLexBefore t (map digit_of (a ++ (b ++ c)))) (sym (digits-parts a r c))
            (subst (λ (t : List ℕ). IsLexBefore (map digit_of a ++ (map digit_of r ++ map digit_of c)) t) (sym (digits-parts a b c))
            (lex_before (map digit_of a) (map digit_of r ++ map digit_of c) (map digit_of b ++ map digit_of c) (lex_after (map digit_of r) (map digit_of b) (map digit_of c) (lex_digits r b lex.0 lex.1)))),
      )
    ])

-- what a rewriting does to a word within the base
pub record Lowers (base : ℕ) (u v : List ℤ) : Type 0 where
  pub within : IsWithin base v
  pub lower : rank base v < rank base u

pub replacing_lowers : (base : ℕ) (rules : List Rule) (u v : List ℤ) (at : Occurrence rules u) → v ≡ at.before ++ (at.rule.right ++ at.behind)
    → AllDecrease rules → AllByRecursion (IsRuleWithin base) rules → IsWithin base u → Lowers base u v
replacing_lowers base rules u v at replaced decrease sides h =
    let down : Decreases at.rule = all_numbered Decreases rules at.number at.rule decrease at.numbered in
    let side : IsRuleWithin base at.rule = all_numbered (IsRuleWithin base) rules at.number at.rule sides at.numbered in
    let whole : IsWithin base (at.before ++ (at.rule.left ++ at.behind)) = subst (IsWithin base) at.stands h in
    let parts = parts_within base at.before at.rule.left at.behind whole in
    let after : IsWithin base (at.before ++ (at.rule.right ++ at.behind)) = within_parts base at.before at.rule.right at.behind parts.front side.right parts.back in
    let lower = rank_smaller base at.before at.rule.left at.behind at.rule.right whole after down in
    record {
      within = subst (IsWithin base) (sym replaced) after;
      lower = subst (λ (t : List ℤ). rank base t < rank base u) (sym replaced) (subst (λ (t : List ℤ). rank base (at.before ++ (at.rule.right ++ at.behind)) < rank base t) (sym at.stands) lower);
    }

-- ---- a base for all

digit_some : (x : ℤ) → 1 ≤ digit_of x
digit_some (pos n) = omega arith
digit_some (negsuc n) = omega arith

pub within_more : (m n : ℕ) (w : List ℤ) → m ≤ n → IsWithin m w → IsWithin n w
within_more m n [] l h = tt
within_more m n (x ∷ w) l h = (record { least = h.0.least; most = (let most : digit_of x ≤ m = h.0.most in omega arith) }, within_more m n w l h.1)

pub word_base : (w : List ℤ) → (base : ℕ) × IsWithin base w
word_base [] = (1, tt)
word_base (x ∷ w) =
    let rest = word_base w in
    (digit_of x + rest.0, (record { least = digit_some x; most = omega arith }, within_more rest.0 (digit_of x + rest.0) w (omega arith) rest.1))

rules_more : (m n : ℕ) (rules : List Rule) → m ≤ n → AllByRecursion (IsRuleWithin m) rules → AllByRecursion (IsRuleWithin n) rules
rules_more m n [] l h = tt
rules_more m n (rule ∷ rules) l h =
    (record { left = within_more m n rule.left l h.0.left; right = within_more m n rule.right l h.0.right }, rules_more m n rules l h.1)

pub rules_base : (rules : List Rule) → (base : ℕ) × AllByRecursion (IsRuleWithin base) rules
rules_base [] = (1, tt)
rules_base (rule ∷ rules) =
    let rest = rules_base rules in
    let left = word_base rule.left in
    let right = word_base rule.right in
    let base : ℕ = left.0 + right.0 + rest.0 in
    (base, (record { left = within_more left.0 base rule.left (omega arith) left.1; right = within_more right.0 base rule.right (omega arith) right.1 }, rules_more rest.0 base rules (omega arith) rest.1))

-- one base for a system and a word
pub record HasBase (rules : List Rule) (w : List ℤ) : Type 0 where
  pub base : ℕ
  pub sides : AllByRecursion (IsRuleWithin base) rules
  pub within : IsWithin base w

pub base_for : (rules : List Rule) (w : List ℤ) → HasBase rules w
base_for rules w =
    let system = rules_base rules in
    let word = word_base w in
    record {
      base = system.0 + word.0;
      sides = rules_more system.0 (system.0 + word.0) rules (omega arith) system.1;
      within = within_more word.0 (system.0 + word.0) w (omega arith) word.1;
    }
