-- Trees of left sides: what stays where a node is put in or told of a rule, and what a look-up finds.
use Rattle.std.proofs.Common.{◌≡◌, ◌≢◌, ℕ, zero, suc, ◌+◌, ◌<◌, ◌≤◌, ◌⊎◌, ℤ, pos, negsuc, List, [], ◌∷◌, ◌++◌, length, replicate, get_or, drop, take, ◌-◌, refl, sym, ap, subst, ◌∙◌, inl, inr, append_assoc, arith}
use Rattle.std.specs.Prelude.{None, Some, slice_get, slice_set}
use Rattle.std.proofs.lemmas.Option.{same_Some, slice_get_within, slice_get-get_or}
use lib.Seq.{drop-cons}
use Rattle.std.proofs.lemmas.List.{length-append, length-set, length-replicate}
use Rattle.mg_rules.specs.declared.index.Node.{Node}
use Rattle.mg_rules.specs.Rule.{Rule, rule_numbered}
use Rattle.mg_rules.specs.First.{Ends, IsLeastEnd}
use Rattle.mg_rules.specs.Index.{code, IsWide, IsBelow, Reaches, HasLeft, IsLeastLeft, Knows, fresh, led, grown, IsLesser, IsIndexOf}
use Rattle.mg_rules.proofs.Parts.{cuts}
use Rattle.mg_rules.proofs.Adding.{numbered_still}

-- ---- members of lists that are changed at one place

same_or : (a b : ℕ) → (a ≡ b) ⊎ (a ≢ b)
same_or zero zero = inl refl
same_or zero (suc b) = inr (λ (e : 0 ≡ suc b). omega arith)
same_or (suc a) zero = inr (λ (e : suc a ≡ 0). omega arith)
same_or (suc a) (suc b) =
    elim (same_or a b) [
      | inl e ↦ inl (ap suc e)
      | inr apart ↦ inr (λ (e : suc a ≡ suc b). apart (omega arith))
    ]

pub positive : (n : ℕ) → n ≢ 0 → 0 < n
positive zero h = absurd (h refl)
positive (suc n) h = omega arith

set_same : {X : Type 0} (xs : List X) (i : ℕ) (x y : X) → slice_get xs i ≡ Some x → slice_get (slice_set xs i y) i ≡ Some y
set_same [] i x y e = absurd (let no : None ≡ Some x = e in cc)
set_same (z ∷ xs) zero x y e = refl
set_same (z ∷ xs) (suc i) x y e = set_same xs i x y e

set_other : {X : Type 0} (xs : List X) (i k : ℕ) (y : X) → i ≢ k → slice_get (slice_set xs i y) k ≡ slice_get xs k
set_other [] i k y h = refl
set_other (z ∷ xs) zero zero y h = absurd (h refl)
set_other (z ∷ xs) zero (suc k) y h = refl
set_other (z ∷ xs) (suc i) zero y h = refl
set_other (z ∷ xs) (suc i) (suc k) y h = set_other xs i k y (λ e. h (ap suc e))

get_front : {X : Type 0} (xs ys : List X) (i : ℕ) (x : X) → slice_get xs i ≡ Some x → slice_get (xs ++ ys) i ≡ Some x
get_front [] ys i x e = absurd (let no : None ≡ Some x = e in cc)
get_front (z ∷ xs) ys zero x e = e
get_front (z ∷ xs) ys (suc i) x e = get_front xs ys i x e

get_back : {X : Type 0} (xs : List X) (x : X) → slice_get (xs ++ x ∷ []) (length xs) ≡ Some x
get_back [] x = refl
get_back (z ∷ xs) x = get_back xs x

get_cases : {X : Type 0} (xs : List X) (x : X) (i : ℕ) (y : X) → slice_get (xs ++ x ∷ []) i ≡ Some y → (slice_get xs i ≡ Some y) ⊎ ((i ≡ length xs) × (x ≡ y))
get_cases [] x zero y e = inr (refl, same_Some x y e)
get_cases [] x (suc i) y e = absurd (let no : None ≡ Some y = e in cc)
get_cases (z ∷ xs) x zero y e = inl e
get_cases (z ∷ xs) x (suc i) y e =
    elim (get_cases xs x i y e) [
      | inl there ↦ inl there
      | inr last ↦ inr (ap suc last.0, last.1)
    ]

get_replicate : {X : Type 0} (count : ℕ) (x : X) (i : ℕ) (y : X) → slice_get (replicate count x) i ≡ Some y → x ≡ y
get_replicate zero x i y e = absurd (let no : None ≡ Some y = e in cc)
get_replicate (suc count) x zero y e = same_Some x y e
get_replicate (suc count) x (suc i) y e = get_replicate count x i y e

pub get_or_is : {X : Type 0} (xs : List X) (i : ℕ) (x d : X) → slice_get xs i ≡ Some x → get_or xs i d ≡ x
get_or_is [] i x d e = absurd (let no : None ≡ Some x = e in cc)
get_or_is (z ∷ xs) zero x d e = same_Some z x e
get_or_is (z ∷ xs) (suc i) x d e = get_or_is xs i x d e

pub drop_whole : (w : List ℤ) → drop (length w) w ≡ []
drop_whole [] = refl
drop_whole (x ∷ w) = drop_whole w

front_back : (w : List ℤ) (i : ℕ) → take i w ++ drop i w ≡ w
front_back w zero = refl
front_back [] (suc i) = refl
front_back (x ∷ w) (suc i) = ap (λ t. x ∷ t) (front_back w i)

pub drop_back : (w : List ℤ) (i : ℕ) (x : ℤ) → 0 < i → i ≤ length w → x ≡ get_or w (i - 1) x → drop (i - 1) w ≡ x ∷ drop i w
drop_back w zero x h g e = absurd (omega arith)
drop_back w (suc i) x h g e =
    let back : suc i - 1 ≡ i = omega arith in
    let at : x ≡ get_or w i x = e ∙ ap (λ t. get_or w t x) back in
    ap (λ t. drop t w) back ∙ (drop-cons w i x (omega arith) ∙ ap (λ t. t ∷ drop (suc i) w) (sym at))

pub cut_back : (w : List ℤ) (i : ℕ) (x : ℤ) → 0 < i → i ≤ length w → x ≡ get_or w (i - 1) x → take (i - 1) w ++ x ∷ drop i w ≡ w
cut_back w i x h g e = ap (λ t. take (i - 1) w ++ t) (sym (drop_back w i x h g e)) ∙ front_back w (i - 1)

-- the last of the rules
pub last_of : (others : List Rule) (last : Rule) (rules : List Rule) (d : Rule) → rules ≡ others ++ last ∷ []
    → (length rules ≡ length others + 1) × (get_or rules (length rules - 1) d ≡ last)
last_of others last rules d e =
    let long : length rules ≡ length others + 1 = ap length e ∙ length-append others (last ∷ []) in
    let at : length rules - 1 ≡ length others = omega (arith, long) in
    (long, ap (λ t. get_or rules t d) at ∙ (ap (λ (t : List Rule). get_or t (length others) d) e ∙ get_or_is (others ++ last ∷ []) (length others) last d (get_back others last)))

take_one : (rules : List Rule) (i : ℕ) (rule : Rule) → i < length rules → rule ≡ get_or rules i rule → take (suc i) rules ≡ take i rules ++ rule ∷ []
take_one [] i rule h e = absurd (omega arith)
take_one (r ∷ rules) zero rule h e = ap (λ (t : Rule). t ∷ []) (sym e)
take_one (r ∷ rules) (suc i) rule h e = ap (λ t. r ∷ t) (take_one rules i rule (omega arith) e)

take_length : (rules : List Rule) (i : ℕ) → i ≤ length rules → length (take i rules) ≡ i
take_length rules zero h = refl
take_length [] (suc i) h = absurd (omega arith)
take_length (r ∷ rules) (suc i) h = ap suc (take_length rules i (omega arith))

-- a rule more of those at the beginning
pub taken : (rules : List Rule) (i : ℕ) (rule : Rule) → i < length rules → rule ≡ get_or rules i rule
    → (take (i + 1) rules ≡ take i rules ++ rule ∷ []) × (i + 1 ≡ length (take i rules) + 1)
taken rules i rule h e =
    let next : i + 1 ≡ suc i = omega arith in
    (ap (λ t. take t rules) next ∙ take_one rules i rule h e, ap (λ t. t + 1) (sym (take_length rules i (omega (arith, h)))))

-- ---- what leads where

code_one : (x y : ℤ) → code x ≡ code y → x ≡ y
code_one (pos a) (pos b) e = let h : a + a ≡ b + b = e in ap pos (let s : a ≡ b = omega arith in s)
code_one (pos a) (negsuc b) e = absurd (let h : a + a ≡ b + b + 3 = e in omega arith)
code_one (negsuc a) (pos b) e = absurd (let h : a + a + 3 ≡ b + b = e in omega arith)
code_one (negsuc a) (negsuc b) e = let h : a + a + 3 ≡ b + b + 3 = e in ap negsuc (let s : a ≡ b = omega arith in s)

-- the table of this node leads there
below_at : (nodes : List Node) (n : ℕ) (node : Node) (x : ℤ) (m : ℕ) → slice_get nodes n ≡ Some node → IsBelow nodes n x m → slice_get node.below (code x) ≡ Some m
below_at nodes n node x m there h =
    let same : h.0 ≡ node = same_Some h.0 node (sym h.1 ∙ there) in
    ap (λ (t : Node). slice_get t.below (code x)) (sym same) ∙ h.2

below_one : (nodes : List Node) (n : ℕ) (x : ℤ) (m k : ℕ) → IsBelow nodes n x m → IsBelow nodes n x k → m ≡ k
below_one nodes n x m k h g = same_Some m k (sym (below_at nodes n g.0 x m g.1 h) ∙ g.2)

reaches_one : (nodes : List Node) (w : List ℤ) (m k : ℕ) → Reaches nodes w m → Reaches nodes w k → m ≡ k
reaches_one nodes [] m k h g = h ∙ sym g
reaches_one nodes (x ∷ w) m k h g =
    let same : h.0 ≡ g.0 = reaches_one nodes w h.0 g.0 h.1 g.1 in
    below_one nodes g.0 x m k (subst (λ (t : ℕ). IsBelow nodes t x m) same h.2) g.2

reaches_end : (nodes : List Node) (u w : List ℤ) (n : ℕ) → Reaches nodes (u ++ w) n → (m : ℕ) × Reaches nodes w m
reaches_end nodes [] w n h = (n, h)
reaches_end nodes (x ∷ u) w n h = reaches_end nodes u w h.0 h.1

-- nothing is reached where a table has a 0
reaches_no : (nodes : List Node) (w : List ℤ) (n : ℕ) (x : ℤ) (m : ℕ) → Reaches nodes w n → IsBelow nodes n x 0 → Reaches nodes (x ∷ w) m → ⊥
reaches_no nodes w n x m reached none h =
    let same : h.0 ≡ n = reaches_one nodes w h.0 n h.1 reached in
    let zero : m ≡ 0 = below_one nodes n x m 0 (subst (λ (t : ℕ). IsBelow nodes t x m) same h.2) none in
    let some : 0 < m = h.3 in
    omega arith

pub reached_within : (rules : List Rule) (nodes : List Node) (w : List ℤ) (n : ℕ) → IsIndexOf rules nodes → Reaches nodes w n → n < length nodes
reached_within rules nodes w n index h = let known = index.knows w n h in slice_get_within nodes n known.node known.there

pub reached_wide : (rules : List Rule) (nodes : List Node) (w : List ℤ) (n : ℕ) → IsIndexOf rules nodes → Reaches nodes w n → IsWide nodes n
reached_wide rules nodes w n index h = let known = index.knows w n h in (known.node, known.there, known.wide)

-- what a table is read as
pub read_below : (nodes : List Node) (n : ℕ) (x : ℤ) (at : ℕ) (d : Node) → IsWide nodes n → at ≡ code x → at < 130 → IsBelow nodes n x (get_or (get_or nodes n d).below at 0)
read_below nodes n x at d wide e within =
    let known : get_or nodes n d ≡ wide.0 = get_or_is nodes n wide.0 d wide.1 in
    let long : at < length wide.0.below = omega (arith, wide.2) in
    (wide.0, wide.1, ap (slice_get wide.0.below) (sym e) ∙ (slice_get-get_or wide.0.below at 0 long ∙ ap (λ (t : Node). Some (get_or t.below at 0)) (sym known)))

-- what a node is read to know
pub read_least : (rules : List Rule) (nodes : List Node) (w : List ℤ) (n : ℕ) (node : Node) → IsIndexOf rules nodes → Reaches nodes w n → slice_get nodes n ≡ Some node
    → IsLeastLeft rules w node.least
read_least rules nodes w n node index h there =
    let known = index.knows w n h in
    subst (λ (t : Node). IsLeastLeft rules w t.least) (same_Some known.node node (sym known.there ∙ there)) known.least

-- ---- a node more

pub grown_length : (nodes : List Node) (n : ℕ) (node : Node) (x : ℤ) → length (grown nodes n node x) ≡ length nodes + 1
grown_length nodes n node x =
    length-append (slice_set nodes n (led node x (length nodes))) (fresh ∷ []) ∙ ap (λ t. t + 1) (length-set nodes n (led node x (length nodes)))

grown_at : (nodes : List Node) (n : ℕ) (node : Node) (x : ℤ) → slice_get nodes n ≡ Some node → slice_get (grown nodes n node x) n ≡ Some (led node x (length nodes))
grown_at nodes n node x there = get_front (slice_set nodes n (led node x (length nodes))) (fresh ∷ []) n (led node x (length nodes)) (set_same nodes n node (led node x (length nodes)) there)

grown_other : (nodes : List Node) (n : ℕ) (node : Node) (x : ℤ) (k : ℕ) (other : Node) → n ≢ k → slice_get nodes k ≡ Some other → slice_get (grown nodes n node x) k ≡ Some other
grown_other nodes n node x k other apart e =
    get_front (slice_set nodes n (led node x (length nodes))) (fresh ∷ []) k other (set_other nodes n k (led node x (length nodes)) apart ∙ e)

grown_fresh : (nodes : List Node) (n : ℕ) (node : Node) (x : ℤ) → slice_get (grown nodes n node x) (length nodes) ≡ Some fresh
grown_fresh nodes n node x =
    subst (λ (t : ℕ). slice_get (grown nodes n node x) t ≡ Some fresh) (length-set nodes n (led node x (length nodes))) (get_back (slice_set nodes n (led node x (length nodes))) fresh)

-- which node stands at a place
abbrev GrownAt : List Node → ℕ → Node → ℤ → ℕ → Node → Type 0
GrownAt nodes n node x k other =
    ((n ≢ k) × (slice_get nodes k ≡ Some other)) ⊎ (((n ≡ k) × (led node x (length nodes) ≡ other)) ⊎ ((k ≡ length nodes) × (fresh ≡ other)))

grown_cases : (nodes : List Node) (n : ℕ) (node : Node) (x : ℤ) (k : ℕ) (other : Node) → slice_get nodes n ≡ Some node
    → slice_get (grown nodes n node x) k ≡ Some other → GrownAt nodes n node x k other
grown_cases nodes n node x k other there e =
    elim (get_cases (slice_set nodes n (led node x (length nodes))) fresh k other e) as (λ _. GrownAt nodes n node x k other) [
      | inr last ↦ inr (inr (last.0 ∙ length-set nodes n (led node x (length nodes)), last.1))
      | inl old ↦ elim (same_or n k) as (λ _. GrownAt nodes n node x k other) [
        | inr apart ↦ inl (apart, sym (set_other nodes n k (led node x (length nodes)) apart) ∙ old)
        | inl same ↦ inr (inl (same, same_Some (led node x (length nodes)) other (sym (subst (λ (t : ℕ). slice_get (slice_set nodes n (led node x (length nodes))) t ≡ Some (led node x (length nodes))) same (set_same nodes n node (led node x (length nodes)) there)) ∙ old)))
      ]
    ]

below_up_there : (nodes : List Node) (n : ℕ) (node : Node) (x y : ℤ) (m : ℕ) → slice_get nodes n ≡ Some node → IsBelow nodes n x 0 → IsBelow nodes n y m → 0 < m
    → IsBelow (grown nodes n node x) n y m
below_up_there nodes n node x y m there none h some =
    elim (same_or (code x) (code y)) [
      | inl same ↦ absurd (
          let alike : x ≡ y = code_one x y same in
          let zero : m ≡ 0 = below_one nodes n x m 0 (subst (λ (t : ℤ). IsBelow nodes n t m) (sym alike) h) none in omega arith)
      | inr apart ↦ (
        led node x (length nodes),
        grown_at nodes n node x there,
        set_other node.below (code x) (code y) (length nodes) apart ∙ below_at nodes n node y m there h,
      )
    ]

below_up : (nodes : List Node) (n : ℕ) (node : Node) (x : ℤ) (k : ℕ) (y : ℤ) (m : ℕ) → slice_get nodes n ≡ Some node → IsBelow nodes n x 0 → IsBelow nodes k y m → 0 < m
    → IsBelow (grown nodes n node x) k y m
below_up nodes n node x k y m there none h some =
    elim (same_or n k) [
      | inr apart ↦ (h.0, grown_other nodes n node x k h.0 apart h.1, h.2)
      | inl same ↦ subst (λ (t : ℕ). IsBelow (grown nodes n node x) t y m) same
          (below_up_there nodes n node x y m there none (subst (λ (t : ℕ). IsBelow nodes t y m) (sym same) h) some)
    ]

reaches_up : (nodes : List Node) (n : ℕ) (node : Node) (x : ℤ) (w : List ℤ) (k : ℕ) → slice_get nodes n ≡ Some node → IsBelow nodes n x 0 → Reaches nodes w k
    → Reaches (grown nodes n node x) w k
reaches_up nodes n node x [] k there none h = h
reaches_up nodes n node x (y ∷ w) k there none h =
    (h.0, reaches_up nodes n node x w h.0 there none h.1, below_up nodes n node x h.0 y k there none h.2 h.3, h.3)

-- what leads somewhere did so before, or is the one that was put in
abbrev BelowOf : List Node → ℕ → ℤ → ℕ → ℤ → ℕ → Type 0
BelowOf nodes n x k y m = IsBelow nodes k y m ⊎ ((k ≡ n) × (y ≡ x) × (m ≡ length nodes))

below_down : (nodes : List Node) (n : ℕ) (node : Node) (x : ℤ) (k : ℕ) (y : ℤ) (m : ℕ) → slice_get nodes n ≡ Some node → IsBelow nodes n x 0
    → IsBelow (grown nodes n node x) k y m → 0 < m → BelowOf nodes n x k y m
below_down nodes n node x k y m there none h some =
    elim (grown_cases nodes n node x k h.0 there h.1) as (λ _. BelowOf nodes n x k y m) [
      | inl old ↦ inl (h.0, old.1, h.2)
      | inr more ↦ elim more as (λ _. BelowOf nodes n x k y m) [
        | inr last ↦ absurd (
            let zero : 0 ≡ m = get_replicate 130 0 (code y) m (ap (λ (t : Node). slice_get t.below (code y)) last.1 ∙ h.2) in omega arith)
        | inl at ↦ (
            let leads : slice_get (slice_set node.below (code x) (length nodes)) (code y) ≡ Some m = ap (λ (t : Node). slice_get t.below (code y)) at.1 ∙ h.2 in
            elim (same_or (code x) (code y)) as (λ _. BelowOf nodes n x k y m) [
              | inr apart ↦ inl (node, subst (λ (t : ℕ). slice_get nodes t ≡ Some node) at.0 there, sym (set_other node.below (code x) (code y) (length nodes) apart) ∙ leads)
              | inl same ↦ (
                  let was : slice_get node.below (code x) ≡ Some 0 = below_at nodes n node x 0 there none in
                  let put : slice_get (slice_set node.below (code x) (length nodes)) (code y) ≡ Some (length nodes) =
                  subst (λ (t : ℕ). slice_get (slice_set node.below (code x) (length nodes)) t ≡ Some (length nodes)) same (set_same node.below (code x) 0 (length nodes) was) in
                  inr (sym at.0, sym (code_one x y same), same_Some m (length nodes) (sym leads ∙ put)))
            ])
      ]
    ]

fresh_below : (nodes : List Node) (n : ℕ) (node : Node) (x y : ℤ) (m : ℕ) → IsBelow (grown nodes n node x) (length nodes) y m → 0 < m → ⊥
fresh_below nodes n node x y m h some =
    let zero : 0 ≡ m = get_replicate 130 0 (code y) m (below_at (grown nodes n node x) (length nodes) fresh y m (grown_fresh nodes n node x) h) in omega arith

-- a word that leads somewhere did so before, or leads to the new node
abbrev ReachesOf : List Node → ℕ → ℤ → List ℤ → ℕ → Type 0
ReachesOf nodes n x w k = Reaches nodes w k ⊎ ((v : List ℤ) × (w ≡ x ∷ v) × Reaches nodes v n × (k ≡ length nodes))

reaches_down : (nodes : List Node) (n : ℕ) (node : Node) (x : ℤ) (w : List ℤ) (k : ℕ) → slice_get nodes n ≡ Some node → IsBelow nodes n x 0
    → Reaches (grown nodes n node x) w k → ReachesOf nodes n x w k
reaches_down nodes n node x [] k there none h = inl h
reaches_down nodes n node x (y ∷ w) k there none h =
    elim (reaches_down nodes n node x w h.0 there none h.1) as (λ _. ReachesOf nodes n x (y ∷ w) k) [
      | inr new ↦ absurd (fresh_below nodes n node x y k (subst (λ (t : ℕ). IsBelow (grown nodes n node x) t y k) new.3 h.2) h.3)
      | inl old ↦ elim (below_down nodes n node x h.0 y k there none h.2 h.3) as (λ _. ReachesOf nodes n x (y ∷ w) k) [
        | inl below ↦ inl (h.0, old, below, h.3)
        | inr new ↦ inr (w, ap (λ t. t ∷ w) new.1, subst (Reaches nodes w) new.0 old, new.2)
      ]
    ]

-- each node of the tree with one more knows what it should
grown_knows : (rules : List Rule) (nodes : List Node) (v : List ℤ) (n : ℕ) (node : Node) (x : ℤ) → IsIndexOf rules nodes → Reaches nodes v n → slice_get nodes n ≡ Some node
    → IsBelow nodes n x 0 → (w : List ℤ) (k : ℕ) → ReachesOf nodes n x w k → Knows rules (grown nodes n node x) w k
grown_knows rules nodes v n node x index reached there none w k (inl old) =
    let known = index.knows w k old in
    elim (same_or n k) [
      | inr apart ↦ record {
        node = known.node;
        there = grown_other nodes n node x k known.node apart known.there;
        wide = known.wide;
        least = known.least;
      }
      | inl same ↦ (
          let alike : known.node ≡ node = same_Some known.node node (sym known.there ∙ subst (λ (t : ℕ). slice_get nodes t ≡ Some node) same there) in
          record {
            node = led node x (length nodes);
            there = subst (λ (t : ℕ). slice_get (grown nodes n node x) t ≡ Some (led node x (length nodes))) same (grown_at nodes n node x there);
            wide = length-set node.below (code x) (length nodes) ∙ (ap (λ (t : Node). length t.below) (sym alike) ∙ known.wide);
            least = subst (λ (t : Node). IsLeastLeft rules w t.least) alike known.least;
          })
    ]
grown_knows rules nodes v n node x index reached there none w k (inr new) =
    let no : (other : ℕ) → HasLeft rules other w → ⊥ =
    λ other h. (let led_to = index.all other w h in
    reaches_no nodes new.0 n x led_to.0 new.2 none (subst (λ (t : List ℤ). Reaches nodes t led_to.0) new.1 led_to.1)) in
    record {
      node = fresh;
      there = subst (λ (t : ℕ). slice_get (grown nodes n node x) t ≡ Some fresh) (sym new.3) (grown_fresh nodes n node x);
      wide = length-replicate {A = ℕ} 130 0;
      least = record { has = λ (h : 0 < 0). absurd (omega arith); none = λ _. no; least = λ other h. absurd (no other h) };
    }

past : (rules : List Rule) (nodes : List Node) (u : List ℤ) (k : ℕ) → IsIndexOf rules nodes → Reaches nodes u k → k ≡ length nodes → ⊥
past rules nodes u k index h e = let below : k < length nodes = reached_within rules nodes u k index h in omega arith

grown_one : (rules : List Rule) (nodes : List Node) (n : ℕ) (x : ℤ) → IsIndexOf rules nodes → (u w : List ℤ) (k : ℕ) → ReachesOf nodes n x u k → ReachesOf nodes n x w k → u ≡ w
grown_one rules nodes n x index u w k (inl h) (inl g) = index.one u w k h g
grown_one rules nodes n x index u w k (inl h) (inr g) = absurd (past rules nodes u k index h g.3)
grown_one rules nodes n x index u w k (inr h) (inl g) = absurd (past rules nodes w k index g h.3)
grown_one rules nodes n x index u w k (inr h) (inr g) = h.1 ∙ (ap (λ t. x ∷ t) (index.one h.0 g.0 n h.2 g.2) ∙ sym g.1)

-- an empty node where there was none leaves an index of the same rules, and the longer word leads to it
pub grown_index : (rules : List Rule) (nodes : List Node) (v : List ℤ) (n : ℕ) (node : Node) (x : ℤ) → IsIndexOf rules nodes → Reaches nodes v n → slice_get nodes n ≡ Some node
    → IsBelow nodes n x 0 → IsIndexOf rules (grown nodes n node x) × Reaches (grown nodes n node x) (x ∷ v) (length nodes)
grown_index rules nodes v n node x index reached there none =
    let was : slice_get node.below (code x) ≡ Some 0 = below_at nodes n node x 0 there none in
    let below : IsBelow (grown nodes n node x) n x (length nodes) =
    (led node x (length nodes), grown_at nodes n node x there, set_same node.below (code x) 0 (length nodes) was) in
    let root : 0 < length nodes = index.root in (
      record {
        all = λ number w h. (let old = index.all number w h in (old.0, reaches_up nodes n node x w old.0 there none old.1));
        one = λ u w k h g. grown_one rules nodes n x index u w k (reaches_down nodes n node x u k there none h) (reaches_down nodes n node x w k there none g);
        knows = λ w k h. grown_knows rules nodes v n node x index reached there none w k (reaches_down nodes n node x w k there none h);
        root = omega (arith, length-append (slice_set nodes n (led node x (length nodes))) (fresh ∷ []));
      },
      (n, reaches_up nodes n node x v n there none reached, below, root),
    )

-- ---- a rule more

left_cases : (others : List Rule) (last : Rule) (number : ℕ) (w : List ℤ) → HasLeft (others ++ last ∷ []) number w
    → HasLeft others number w ⊎ ((number ≡ length others + 1) × (last.left ≡ w))
left_cases others last zero w h = absurd (let no : None ≡ Some h.0 = h.1 in cc)
left_cases others last (suc n) w h =
    elim (get_cases others last n h.0 h.1) [
      | inl old ↦ inl (h.0, old, h.2)
      | inr new ↦ inr (let at : n ≡ length others = new.0 in omega arith, ap (λ (t : Rule). t.left) new.1 ∙ h.2)
    ]

left_last : (others : List Rule) (last : Rule) → HasLeft (others ++ last ∷ []) (length others + 1) last.left
left_last others last =
    let e : suc (length others) ≡ length others + 1 = omega arith in
    (last, subst (λ (t : ℕ). rule_numbered (others ++ last ∷ []) t ≡ Some last) e (get_back others last), refl)

left_within : (others : List Rule) (number : ℕ) (w : List ℤ) → HasLeft others number w → (0 < number) × (number ≤ length others)
left_within others zero w h = absurd (let no : None ≡ Some h.0 = h.1 in cc)
left_within others (suc n) w h = let below : n < length others = slice_get_within others n h.0 h.1 in (omega arith, omega arith)

-- a rule behind the others doesn't change which is the least with a left side, if one of them has it or the new one hasn't
least_still : (others : List Rule) (last : Rule) (w : List ℤ) (number : ℕ) → IsLeastLeft others w number → (last.left ≢ w) ⊎ (0 < number)
    → IsLeastLeft (others ++ last ∷ []) w number
least_still others last w number old how = record {
  has = λ some. (let h = old.has some in (h.0, numbered_still others (last ∷ []) number h.0 h.1, h.2));
  none = λ none other h. none_of none other (left_cases others last other w h);
  least = λ other h. least_of other (left_cases others last other w h);
}
  where
    none_of : number ≡ 0 → (other : ℕ) → HasLeft others other w ⊎ ((other ≡ length others + 1) × (last.left ≡ w)) → ⊥
    none_of none other (inl h) = old.none none other h
    none_of none other (inr h) = elim how [ inl apart ↦ apart h.1 | inr some ↦ omega arith ]

    least_of : (other : ℕ) → HasLeft others other w ⊎ ((other ≡ length others + 1) × (last.left ≡ w)) → number ≤ other
    least_of other (inl h) = old.least other h
    least_of other (inr h) = elim how [
      | inl apart ↦ absurd (apart h.1)
      | inr some ↦ (let within = left_within others number w (old.has some) in let up : number ≤ length others = within.1 in let at : other ≡ length others + 1 = h.0 in omega arith)
    ]

least_new : (others : List Rule) (last : Rule) (w : List ℤ) → IsLeastLeft others w 0 → last.left ≡ w → IsLeastLeft (others ++ last ∷ []) w (length others + 1)
least_new others last w old e = record {
  has = λ _. subst (HasLeft (others ++ last ∷ []) (length others + 1)) e (left_last others last);
  none = λ (h : length others + 1 ≡ 0). absurd (omega arith);
  least = λ other h. elim (left_cases others last other w h) [
    | inl known ↦ absurd (old.none refl other known)
    | inr new ↦ (let at : other ≡ length others + 1 = new.0 in omega arith)
  ];
}

-- the tables stay
abbrev Carries : List Node → List Node → Type 0
Carries nodes nodes' = (k : ℕ) (node : Node) → slice_get nodes k ≡ Some node → (node' : Node) × (slice_get nodes' k ≡ Some node') × (node'.below ≡ node.below)

reaches_carried : (nodes nodes' : List Node) → Carries nodes nodes' → (w : List ℤ) (k : ℕ) → Reaches nodes w k → Reaches nodes' w k
reaches_carried nodes nodes' carries [] k h = h
reaches_carried nodes nodes' carries (x ∷ w) k h =
    let to = carries h.0 h.2.0 h.2.1 in
    (h.0, reaches_carried nodes nodes' carries w h.0 h.1, (to.0, to.1, ap (λ t. slice_get t (code x)) to.2 ∙ h.2.2), h.3)

-- the node told of the rule with a number
abbrev pub told : Node → ℕ → Node
told node number = record { least = number; below = node.below }

carries_to : (nodes : List Node) (n : ℕ) (node : Node) (number : ℕ) → slice_get nodes n ≡ Some node → Carries nodes (slice_set nodes n (told node number))
carries_to nodes n node number there k other e =
    elim (same_or n k) [
      | inr apart ↦ (other, set_other nodes n k (told node number) apart ∙ e, refl)
      | inl same ↦ (
          let alike : node ≡ other = same_Some node other (sym (subst (λ (t : ℕ). slice_get nodes t ≡ Some node) same there) ∙ e) in
          (told node number, subst (λ (t : ℕ). slice_get (slice_set nodes n (told node number)) t ≡ Some (told node number)) same (set_same nodes n node (told node number) there), ap (λ (t : Node). t.below) alike))
    ]

carries_from : (nodes : List Node) (n : ℕ) (node : Node) (number : ℕ) → slice_get nodes n ≡ Some node → Carries (slice_set nodes n (told node number)) nodes
carries_from nodes n node number there k other e =
    elim (same_or n k) [
      | inr apart ↦ (other, sym (set_other nodes n k (told node number) apart) ∙ e, refl)
      | inl same ↦ (
          let alike : told node number ≡ other = same_Some (told node number) other (sym (subst (λ (t : ℕ). slice_get (slice_set nodes n (told node number)) t ≡ Some (told node number)) same (set_same nodes n node (told node number) there)) ∙ e) in
          (node, subst (λ (t : ℕ). slice_get nodes t ≡ Some node) same there, ap (λ (t : Node). t.below) alike))
    ]

-- the new rule's left side leads to a node, and the others' do as before
all_led : (others : List Rule) (last : Rule) (nodes : List Node) (n : ℕ) → IsIndexOf others nodes → Reaches nodes last.left n
    → (number : ℕ) (w : List ℤ) → HasLeft (others ++ last ∷ []) number w → (k : ℕ) × Reaches nodes w k
all_led others last nodes n index reached number w h =
    elim (left_cases others last number w h) [
      | inl old ↦ index.all number w old
      | inr new ↦ (n, subst (λ (t : List ℤ). Reaches nodes t n) new.1 reached)
    ]

apart_left : (others : List Rule) (last : Rule) (nodes : List Node) (n : ℕ) (w : List ℤ) (k : ℕ) → Reaches nodes last.left n → Reaches nodes w k → n ≢ k → last.left ≢ w
apart_left others last nodes n w k reached h apart e = apart (reaches_one nodes w n k (subst (λ (t : List ℤ). Reaches nodes t n) e reached) h)

-- a node that knows a rule already isn't told
pub known_again : (others : List Rule) (last : Rule) (nodes : List Node) (n : ℕ) (node : Node) → IsIndexOf others nodes → Reaches nodes last.left n → slice_get nodes n ≡ Some node
    → 0 < node.least → IsIndexOf (others ++ last ∷ []) nodes
known_again others last nodes n node index reached there some = record {
  all = all_led others last nodes n index reached;
  one = index.one;
  knows = knows_of;
  root = index.root;
}
  where
    knows_of : (w : List ℤ) (k : ℕ) → Reaches nodes w k → Knows (others ++ last ∷ []) nodes w k
    knows_of w k h =
        let known = index.knows w k h in
        record {
          node = known.node;
          there = known.there;
          wide = known.wide;
          least = least_still others last w known.node.least known.least (elim (same_or n k) [
            | inr apart ↦ inl (apart_left others last nodes n w k reached h apart)
            | inl same ↦ (
                let alike : node ≡ known.node = same_Some node known.node (sym (subst (λ (t : ℕ). slice_get nodes t ≡ Some node) same there) ∙ known.there) in
                inr (subst (λ (t : Node). 0 < t.least) alike some))
          ]);
        }

-- a node that knows none is told of the new rule
pub told_index : (others : List Rule) (last : Rule) (nodes : List Node) (n : ℕ) (node : Node) → IsIndexOf others nodes → Reaches nodes last.left n → slice_get nodes n ≡ Some node
    → node.least ≡ 0 → IsIndexOf (others ++ last ∷ []) (slice_set nodes n (told node (length others + 1)))
told_index others last nodes n node index reached there none = record {
  all = λ number w h. (let old = all_led others last nodes n index reached number w h in
      (old.0, reaches_carried nodes new (carries_to nodes n node (length others + 1) there) w old.0 old.1));
  one = λ u w k h g. index.one u w k (back u k h) (back w k g);
  knows = λ w k h. knows_of w k (back w k h);
  root = let some : 0 < length nodes = index.root in omega (arith, length-set nodes n (told node (length others + 1)));
}
  where
    new : List Node
    new = slice_set nodes n (told node (length others + 1))

    back : (w : List ℤ) (k : ℕ) → Reaches new w k → Reaches nodes w k
    back w k h = reaches_carried new nodes (carries_from nodes n node (length others + 1) there) w k h

    knows_of : (w : List ℤ) (k : ℕ) → Reaches nodes w k → Knows (others ++ last ∷ []) new w k
    knows_of w k h =
        let known = index.knows w k h in
        elim (same_or n k) [
          | inr apart ↦ record {
            node = known.node;
            there = set_other nodes n k (told node (length others + 1)) apart ∙ known.there;
            wide = known.wide;
            least = least_still others last w known.node.least known.least (inl (apart_left others last nodes n w k reached h apart));
          }
          | inl same ↦ (
              let alike : known.node ≡ node = same_Some known.node node (sym known.there ∙ subst (λ (t : ℕ). slice_get nodes t ≡ Some node) same there) in
              let word : last.left ≡ w = index.one last.left w k (subst (Reaches nodes last.left) same reached) h in
              record {
                node = told node (length others + 1);
                there = subst (λ (t : ℕ). slice_get new t ≡ Some (told node (length others + 1))) same (set_same nodes n node (told node (length others + 1)) there);
                wide = ap (λ (t : Node). length t.below) (sym alike) ∙ known.wide;
                least = least_new others last w (subst (IsLeastLeft others w) (ap (λ (t : Node). t.least) alike ∙ none) known.least) word;
              })
        ]

-- the root alone
pub root_index : IsIndexOf [] (fresh ∷ [])
root_index = record { all = all_of; one = one_of; knows = knows_of; root = omega arith }
  where
    no_rule : (number : ℕ) (w : List ℤ) → HasLeft [] number w → ⊥
    no_rule zero w h = let no : None ≡ Some h.0 = h.1 in cc
    no_rule (suc n) w h = let no : None ≡ Some h.0 = h.1 in cc

    no_below : (n : ℕ) (x : ℤ) (m : ℕ) → IsBelow (fresh ∷ []) n x m → 0 < m → ⊥
    no_below zero x m h some = let zero : 0 ≡ m = get_replicate 130 0 (code x) m (ap (λ (t : Node). slice_get t.below (code x)) (same_Some fresh h.0 h.1) ∙ h.2) in omega arith
    no_below (suc n) x m h some = let no : None ≡ Some h.0 = h.1 in cc

    all_of : (number : ℕ) (w : List ℤ) → HasLeft [] number w → (n : ℕ) × Reaches (fresh ∷ []) w n
    all_of number w h = absurd (no_rule number w h)

    one_of : (u v : List ℤ) (n : ℕ) → Reaches (fresh ∷ []) u n → Reaches (fresh ∷ []) v n → u ≡ v
    one_of [] [] n h g = refl
    one_of [] (y ∷ v) n h g = absurd (no_below g.0 y n g.2 g.3)
    one_of (x ∷ u) v n h g = absurd (no_below h.0 x n h.2 h.3)

    knows_of : (w : List ℤ) (n : ℕ) → Reaches (fresh ∷ []) w n → Knows [] (fresh ∷ []) w n
    knows_of [] n h = record {
      node = fresh;
      there = ap (slice_get (fresh ∷ [])) h;
      wide = length-replicate {A = ℕ} 130 0;
      least = record { has = λ (g : 0 < 0). absurd (omega arith); none = λ _ other g. no_rule other [] g; least = λ other g. absurd (no_rule other [] g) };
    }
    knows_of (x ∷ w) n h = absurd (no_below h.0 x n h.2 h.3)

-- ---- looking up

-- a left side that ends a word still does so where letters come before
end_more : (rules : List Rule) (u w : List ℤ) (number : ℕ) → Ends rules w number → Ends rules (u ++ w) number
end_more rules u w number e = record {
  rule = e.rule;
  numbered = e.numbered;
  before = u ++ e.before;
  ends = ap (λ t. u ++ t) e.ends ∙ sym (append_assoc u e.before e.rule.left);
}

from_left : (rules : List Rule) (w : List ℤ) (number : ℕ) → HasLeft rules number w → Ends rules w number
from_left rules w number h = record { rule = h.0; numbered = h.1; before = []; ends = sym h.2 }

-- it ends the word without its first letter or is the word
end_cases : (rules : List Rule) (x : ℤ) (w : List ℤ) (number : ℕ) (rule : Rule) → rule_numbered rules number ≡ Some rule → (before : List ℤ) → x ∷ w ≡ before ++ rule.left
    → Ends rules w number ⊎ HasLeft rules number (x ∷ w)
end_cases rules x w number rule numbered [] e = inr (rule, numbered, sym e)
end_cases rules x w number rule numbered (y ∷ before) e = inl (record { rule = rule; numbered = numbered; before = before; ends = let tails : w ≡ before ++ rule.left = cc in tails })

no_letters : (a b : List ℤ) → [] ≡ a ++ b → b ≡ []
no_letters [] b e = sym e
no_letters (x ∷ a) b e = absurd (let no : [] ≡ x ∷ (a ++ b) = e in cc)

-- the root knows the least rule that ends the empty word
pub end_root : (rules : List Rule) (number : ℕ) → IsLeastLeft rules [] number → IsLeastEnd rules [] number
end_root rules number known = record {
  ends = λ some. from_left rules [] number (known.has some);
  none = λ none other e. known.none none other (e.rule, e.numbered, no_letters e.before e.rule.left e.ends);
  least = λ other e. known.least other (e.rule, e.numbered, no_letters e.before e.rule.left e.ends);
}

-- one letter more
pub end_next : (rules : List Rule) (x : ℤ) (w : List ℤ) (found number least : ℕ) → IsLeastEnd rules w found → IsLeastLeft rules (x ∷ w) number → IsLesser found number least
    → IsLeastEnd rules (x ∷ w) least
end_next rules x w found number least end known lesser = record {
  ends = λ some. ends_of some lesser.is;
  none = λ none other e. none_of (lesser.none none) other (end_cases rules x w other e.rule e.numbered e.before e.ends);
  least = λ other e. least_of other (same_or found 0) (same_or number 0) (end_cases rules x w other e.rule e.numbered e.before e.ends);
}
  where
    ends_of : 0 < least → (least ≡ found) ⊎ (least ≡ number) → Ends rules (x ∷ w) least
    ends_of some (inl e) = end_more rules (x ∷ []) w least (subst (Ends rules w) (sym e) (end.ends (omega arith)))
    ends_of some (inr e) = from_left rules (x ∷ w) least (subst (λ (t : ℕ). HasLeft rules t (x ∷ w)) (sym e) (known.has (omega arith)))

    none_of : (found ≡ 0) × (number ≡ 0) → (other : ℕ) → Ends rules w other ⊎ HasLeft rules other (x ∷ w) → ⊥
    none_of none other (inl e) = end.none none.0 other e
    none_of none other (inr h) = known.none none.1 other h

    least_of : (other : ℕ) → (found ≡ 0) ⊎ (found ≢ 0) → (number ≡ 0) ⊎ (number ≢ 0) → Ends rules w other ⊎ HasLeft rules other (x ∷ w) → least ≤ other
    least_of other (inl z) b (inl e) = absurd (end.none z other e)
    least_of other (inr some) b (inl e) =
        let up : found ≤ other = end.least other e in
        let down : least ≤ found = lesser.first (omega (arith, some)) in
        omega arith
    least_of other a (inl z) (inr h) = absurd (known.none z other h)
    least_of other a (inr some) (inr h) =
        let up : number ≤ other = known.least other h in
        let down : least ≤ number = lesser.second (omega (arith, some)) in
        omega arith

-- where no node follows no longer left side ends the word
pub end_stop : (rules : List Rule) (nodes : List Node) (u : List ℤ) (x : ℤ) (w : List ℤ) (n found : ℕ) → IsIndexOf rules nodes → Reaches nodes w n → IsBelow nodes n x 0
    → IsLeastEnd rules w found → IsLeastEnd rules (u ++ x ∷ w) found
end_stop rules nodes u x w n found index reached none end = record {
  ends = λ some. longer found (end.ends some);
  none = λ zero other e. end.none zero other (shorter other e);
  least = λ other e. end.least other (shorter other e);
}
  where
    longer : (number : ℕ) → Ends rules w number → Ends rules (u ++ x ∷ w) number
    longer number e = subst (λ (t : List ℤ). Ends rules t number) (append_assoc u (x ∷ []) w) (end_more rules (u ++ x ∷ []) w number e)

    no_left : (number : ℕ) (rule : Rule) → rule_numbered rules number ≡ Some rule → (middle : List ℤ) → rule.left ≡ middle ++ x ∷ w → ⊥
    no_left number rule numbered middle e =
        let to = index.all number rule.left (rule, numbered, refl) in
        let end = reaches_end nodes middle (x ∷ w) to.0 (subst (λ (t : List ℤ). Reaches nodes t to.0) e to.1) in
        reaches_no nodes w n x end.0 reached none end.1

    within : (number : ℕ) (rule : Rule) → rule_numbered rules number ≡ Some rule → (middle : List ℤ) → x ∷ w ≡ middle ++ rule.left → Ends rules w number
    within number rule numbered [] e = absurd (no_left number rule numbered [] (sym e))
    within number rule numbered (y ∷ middle) e = record { rule = rule; numbered = numbered; before = middle; ends = let tails : w ≡ middle ++ rule.left = cc in tails }

    shorter : (number : ℕ) → Ends rules (u ++ x ∷ w) number → Ends rules w number
    shorter number e =
        elim (cuts u (x ∷ w) e.before e.rule.left e.ends) [
          | inl cut ↦ within number e.rule e.numbered cut.middle cut.rest
          | inr cut ↦ absurd (no_left number e.rule e.numbered cut.middle cut.rest)
        ]
