-- The search for what shortens most.
use Rattle.std.proofs.Common.{◌≡◌, ◌≢◌, ℕ, ◌+◌, ◌-◌, ◌*◌, ◌<◌, ◌≤◌, Bool, true, false, not, cond, Option, None, ℤ, List, ◌++◌, length, get_or, take, drop, refl, sym, ap, subst, ◌∙◌, inl, inr, append_assoc, arith}
use Rattle.std.proofs.Math.Seq.{take-append_seam}
use Rattle.std.proofs.lemmas.Bool.{cases_eq}
use Rattle.std.proofs.lemmas.List.{length-append, length-drop, take-append-drop, take_rest, get_or_read}
use Rattle.mg_words.specs.Word.{inv, IsReduced}
use Rattle.mg_words.specs.Reduction.{free_form}
use Rattle.mg_words.proofs.Chains.{inv-append, inv-inv, length-inv}
use Rattle.mg_words.proofs.Free.{free_form-free_form, free_form-product, free_form-inv, IsReduced-inv, IsReduced-right, IsReduced-free_form, IsReduced-nil}
use Rattle.mg_present.specs.Same.{signed}
use Rattle.mg_nielsen.specs.Expressed.{Expressed, empty, turned, times}
use Rattle.mg_nielsen.specs.Moves.{member_at, on_side, stepped, IsSingle, IsFactor, one, two}
use Rattle.mg_nielsen.specs.declared.choice.Pick.{Pick}
use Rattle.mg_nielsen.specs.declared.choice.Pick.TheVariants.{One, Two}
use Rattle.mg_nielsen.specs.declared.choice.StepPick.{StepPick}
use Rattle.mg_nielsen.specs.Choice.{common, quotient_length, AreReduced, place_of, inverse_of, numbered, IsNumber, IsPick, left_by, Leaves, made, Gains, GainsMost}
use Rattle.mg_nielsen.proofs.Products.{all_at_or}
use Rattle.mg_nielsen.proofs.Cancelling.{quotient_parts, quotient_counted, common-first, common-second, common_all, common_part, below, not_below, numbered_first, numbered_second}

-- a part of a reduced word
pub rest_reduced : (u : List ℤ) (n : ℕ) → IsReduced u → IsReduced (take (length u - n) (drop n u))
rest_reduced u n h = subst IsReduced (sym (take_rest u n)) (IsReduced-right (take n u) (drop n u) (subst IsReduced (sym (take-append-drop n u)) h))

-- a second word in two parts
pub split_all : (u head tail : List ℤ) (n : ℕ) → n ≡ common u head → n ≡ length head → IsReduced u → IsReduced (head ++ tail) → quotient_length (take (length u - n) (drop n u)) tail ≡ quotient_length u (head ++ tail)
split_all u head tail n e f h k =
    let all : common u (head ++ tail) ≡ n + common (drop n u) tail = subst (λ (m : ℕ). common u (head ++ tail) ≡ m + common (drop m u) tail) (sym f) (common_all u head tail (sym e ∙ f)) in
    let rest : IsReduced (drop n u) = subst IsReduced (take_rest u n) (rest_reduced u n h) in
    let first = quotient_counted (drop n u) tail (common (drop n u) tail) refl rest (IsReduced-right head tail k) in
    let second = quotient_counted u (head ++ tail) (common u (head ++ tail)) refl h k in
    ap (λ t. quotient_length t tail) (take_rest u n)
    ∙ omega (arith, first, second, all, length-drop n u, length-append head tail, f, common-first (drop n u) tail, common-second (drop n u) tail)

pub split_part : (u head tail : List ℤ) (n : ℕ) → n ≡ common u head → n ≢ length head → IsReduced u → IsReduced (head ++ tail) → length u - n + (length head - n) + length tail ≡ quotient_length u (head ++ tail)
split_part u head tail n e f h k =
    let part : common u (head ++ tail) ≡ common u head = common_part u head tail (λ g. f (e ∙ g)) in
    let all = quotient_counted u (head ++ tail) n (e ∙ sym part) h k in
    omega (arith, all, length-append head tail, common-second u head, e)

-- factors are reduced
pub member_reduced : (members : List Expressed) (place : ℕ) → AreReduced members → IsReduced (member_at members place).word
member_reduced members place h = all_at_or (λ (e : Expressed). IsReduced e.word) members place empty IsReduced-nil h

pub signed_reduced : (inverse : Bool) (w : List ℤ) → IsReduced w → IsReduced (signed inverse w)
signed_reduced false w h = h
signed_reduced true w h = IsReduced-inv w h

pub factor_reduced : (members : List Expressed) (n : ℕ) (inverse : Bool) (w : List ℤ) → AreReduced members → w ≡ signed inverse (numbered members n).word → IsReduced w
factor_reduced members n inverse w h e =
    subst IsReduced (sym e) (signed_reduced inverse (numbered members n).word
    (signed_reduced (inverse_of members n) (member_at members (place_of members n)).word (member_reduced members (place_of members n) h)))

pub letters_reduced : (members : List Expressed) (place : ℕ) (inverse : Bool) (e : Expressed) (w : List ℤ) → AreReduced members → place < length members → e ≡ get_or members place e → w ≡ (turned inverse e).word → IsReduced w
letters_reduced members place inverse e w h there r is =
    subst IsReduced (sym is) (signed_reduced inverse e.word (subst (λ (e : Expressed). IsReduced e.word) (sym (get_or_read members place e there r empty)) (member_reduced members place h)))

-- what holds below a number and at it
pub least_next : (f : ℕ → ℕ) (i before after : ℕ) → ((n : ℕ) → n < i → before ≤ f n) → after ≤ before → after ≤ f i → (n : ℕ) → n < i + 1 → after ≤ f n
least_next f i before after h no_more here n below =
    elim (cases_eq n i) as (λ _. after ≤ f n) [
      | inl e ↦ subst (λ (k : ℕ). after ≤ f k) (sym e) here
      | inr apart ↦ let earlier = h n (omega arith) in omega arith
    ]

-- the first factor's product with the rest, cut in two
pub head_is : (u : List ℤ) (n : ℕ) → n ≤ length u → take (length u - n) (inv u) ≡ inv (drop n u)
head_is u n h =
    ap (take (length u - n)) (ap inv (sym (take-append-drop n u)) ∙ inv-append (take n u) (drop n u))
    ∙ (ap (λ k. take k (inv (drop n u) ++ inv (take n u))) (let l : length u - n ≡ length (inv (drop n u)) = sym (length-inv (drop n u) ∙ length-drop n u) in l)
    ∙ take-append_seam (inv (drop n u)) (inv (take n u)))

pub cut_is : (u v : List ℤ) (n : ℕ) → n ≡ common u v → IsReduced u → IsReduced v → take (length u - n) (inv u) ++ take (length v - n) (drop n v) ≡ free_form (inv u ++ v)
cut_is u v n e h k =
    ap (λ t. t ++ take (length v - n) (drop n v)) (head_is u n (subst (λ (m : ℕ). m ≤ length u) (sym e) (common-first u v)))
    ∙ (ap (λ t. inv (drop n u) ++ t) (take_rest v n)
    ∙ (ap (λ m. inv (drop m u) ++ drop m v) e ∙ sym (quotient_parts u v h k)))

-- a product of two factors takes off what one after the other does
pub two_left : (members : List Expressed) (rest : List ℤ) (m n : ℕ) → quotient_length (numbered members n).word (free_form (inv (numbered members m).word ++ rest)) ≡ left_by members rest (Two m n)
two_left members rest m n =
    let p : List ℤ = (numbered members m).word in
    let q : List ℤ = (numbered members n).word in
    ap (λ t. length t)
    (free_form-product (inv q) (inv q) (free_form (inv p ++ rest)) (inv p ++ rest) refl (free_form-free_form (inv p ++ rest))
    ∙ (ap free_form (sym (append_assoc (inv q) (inv p) rest) ∙ ap (λ t. t ++ rest) (sym (inv-append p q)))
    ∙ free_form-product (inv (p ++ q)) (inv (free_form (p ++ q))) rest rest (sym (ap free_form (sym (free_form-inv (p ++ q))) ∙ free_form-free_form (inv (p ++ q)))) refl))

-- every factor has a number
pub number_of : (members : List Expressed) (other : ℕ) (inverse : Bool) → other < length members → (n : ℕ) × IsNumber members n × (turned inverse (member_at members other) ≡ numbered members n) × (place_of members n ≡ other)
number_of members other false there =
    (other, omega arith, sym (numbered_first members other there), ap (λ b. cond b other (other - length members)) (below other (length members) there))
number_of members other true there =
    let n : ℕ = length members + other in
    let back : other ≡ n - length members = omega arith in
    let behind : length members ≤ n = omega arith in (
      n,
      omega arith,
      ap (λ k. turned true (member_at members k)) back ∙ sym (numbered_second members n behind),
      ap (λ b. cond b n (n - length members)) (not_below n (length members) behind) ∙ sym back,
    )

single_numbered : (members : List Expressed) (p : Expressed) → IsSingle members p → (n : ℕ) × IsNumber members n × (p ≡ numbered members n)
single_numbered members p s = let t = number_of members s.place s.inverse s.there in (t.0, t.1, s.is ∙ t.2)

-- so where no pick leaves less, no peeling does
pub no_pick : (members : List Expressed) (rest : List ℤ) (least : ℕ)
    → ((n : ℕ) → IsNumber members n → least ≤ left_by members rest (One n))
    → ((m n : ℕ) → IsNumber members m → IsNumber members n → least ≤ left_by members rest (Two m n))
    → (p : Expressed) → IsFactor members p → least ≤ quotient_length p.word rest
no_pick members rest least h k p (one s) =
    let t = single_numbered members p s in subst (λ (e : Expressed). least ≤ quotient_length e.word rest) (sym t.2) (h t.0 t.1)
no_pick members rest least h k p (two a b s t e) =
    let x = single_numbered members a s in
    let y = single_numbered members b t in
    let is : p ≡ times (numbered members x.0) (numbered members y.0) = e ∙ (ap (λ (c : Expressed). times c b) x.2 ∙ ap (λ (c : Expressed). times (numbered members x.0) c) y.2) in
    subst (λ (c : Expressed). least ≤ quotient_length c.word rest) (sym is) (k x.0 y.0 x.1 y.1)

-- the values of the words that the search for a second factor reads
pub cut_value : (members : List Expressed) (rest word back : List ℤ) (m n : ℕ) → word ≡ (numbered members m).word → back ≡ inv (numbered members m).word → n ≡ common word rest → IsReduced word → IsReduced rest
    → take (length word - n) back ++ take (length rest - n) (drop n rest) ≡ free_form (inv (numbered members m).word ++ rest)
cut_value members rest word back m n e f g h k =
    ap (λ t. take (length word - n) t ++ take (length rest - n) (drop n rest)) (f ∙ ap inv (sym e))
    ∙ (cut_is word rest n g h k ∙ ap (λ t. free_form (inv t ++ rest)) e)

pub cut_reduced : (members : List Expressed) (rest word back : List ℤ) (m n : ℕ) → word ≡ (numbered members m).word → back ≡ inv (numbered members m).word → n ≡ common word rest → IsReduced word → IsReduced rest
    → IsReduced (take (length word - n) back ++ take (length rest - n) (drop n rest))
cut_reduced members rest word back m n e f g h k =
    subst IsReduced (sym (cut_value members rest word back m n e f g h k)) (IsReduced-free_form (inv (numbered members m).word ++ rest))

pub two_value : (members : List Expressed) (rest cut q : List ℤ) (m n left : ℕ) → left ≡ quotient_length q cut → q ≡ (numbered members n).word → cut ≡ free_form (inv (numbered members m).word ++ rest) → left ≡ left_by members rest (Two m n)
two_value members rest cut q m n left e f g = e ∙ (ap (λ t. quotient_length t cut) f ∙ (ap (quotient_length (numbered members n).word) g ∙ two_left members rest m n))

-- nothing was picked, so nothing shortens the rest
pub none_left : (members : List Expressed) (rest : List ℤ) (left first : ℕ) (by : Option Pick) → Leaves members rest left by → by ≡ None → 2 * length members ≤ first
    → ((n : ℕ) → IsNumber members n → left ≤ left_by members rest (One n))
    → ((m n : ℕ) → m < first → IsNumber members n → left ≤ left_by members rest (Two m n))
    → (p : Expressed) → IsFactor members p → length rest ≤ quotient_length p.word rest
none_left members rest left first by h e far single double p f =
    let all : left ≡ length rest = subst (Leaves members rest left) e h in
    subst (λ (n : ℕ). n ≤ quotient_length p.word rest) all (no_pick members rest left single (λ m n k l. double m n (omega arith) l) p f)

-- a product with a factor as a quotient
pub made_left : (members : List Expressed) (place n : ℕ) (e : Expressed) (f w : List ℤ) → place < length members → e ≡ get_or members place e → f ≡ inv (numbered members n).word → w ≡ e.word
    → quotient_length f w ≡ length (times (numbered members n) (member_at members place)).word
made_left members place n e f w there r is same =
    let p : List ℤ = (numbered members n).word in
    ap (λ t. length (free_form (inv t ++ w))) is
    ∙ (ap (λ t. length (free_form (t ++ w))) (inv-inv p)
    ∙ ap (λ t. length (free_form (p ++ t))) (same ∙ ap (λ (e : Expressed). e.word) (get_or_read members place e there r empty)))

pub made_right : (members : List Expressed) (place n : ℕ) (e : Expressed) (w f : List ℤ) → place < length members → e ≡ get_or members place e → w ≡ inv e.word → f ≡ (numbered members n).word
    → quotient_length w f ≡ length (times (member_at members place) (numbered members n)).word
made_right members place n e w f there r is same =
    ap (λ t. length (free_form (inv t ++ f))) is
    ∙ (ap (λ t. length (free_form (t ++ f))) (inv-inv e.word ∙ ap (λ (e : Expressed). e.word) (get_or_read members place e there r empty))
    ∙ ap (λ t. length (free_form ((member_at members place).word ++ t))) same)

pub side_left : (members : List Expressed) (pick : StepPick) → pick.left ≡ true → times (numbered members pick.number) (member_at members pick.place) ≡ made members pick
side_left members pick e = ap (λ b. on_side b (member_at members pick.place) (numbered members pick.number)) (sym e)

pub side_right : (members : List Expressed) (pick : StepPick) → pick.left ≡ false → times (member_at members pick.place) (numbered members pick.number) ≡ made members pick
side_right members pick e = ap (λ b. on_side b (member_at members pick.place) (numbered members pick.number)) (sym e)

-- no step by a factor before a number takes more off, nor one by that factor
pub gains_next : (members : List Expressed) (before after place i : ℕ)
    → ((n : ℕ) (left : Bool) → n < i → place_of members n ≢ place → GainsMost members before (record { place = place; number = n; left = left })) → before ≤ after
    → (place_of members i ≢ place → (left : Bool) → GainsMost members after (record { place = place; number = i; left = left }))
    → (n : ℕ) (left : Bool) → n < i + 1 → place_of members n ≢ place → GainsMost members after (record { place = place; number = n; left = left })
gains_next members before after place i h no_less here n left below apart =
    elim (cases_eq n i) as (λ _. GainsMost members after (record { place = place; number = n; left = left })) [
      | inl e ↦ subst (λ (k : ℕ). GainsMost members after (record { place = place; number = k; left = left })) (sym e) (here (subst (λ (k : ℕ). place_of members k ≢ place) e apart) left)
      | inr not ↦ let earlier = h n left (omega arith) apart in omega arith
    ]

-- no step was picked, so none shortens a member
pub none_gained : (members : List Expressed) (gain last : ℕ) (by : Option StepPick) → Gains members gain by → by ≡ None → length members ≤ last
    → ((place n : ℕ) (left : Bool) → place < last → IsNumber members n → place_of members n ≢ place → GainsMost members gain (record { place = place; number = n; left = left }))
    → (place other : ℕ) (inverse left : Bool) → place < length members → other < length members → other ≢ place
    → length (member_at members place).word ≤ length (stepped members place other inverse left).word
none_gained members gain last by h e far all place other inverse left there other_there apart =
    let none : gain ≡ 0 = subst (Gains members gain) e h in
    let t = number_of members other inverse other_there in
    let most = all place t.0 left (omega arith) t.1 (λ (k : place_of members t.0 ≡ place). apart (sym t.3 ∙ k)) in
    subst (λ (f : Expressed). length (member_at members place).word ≤ length (on_side left (member_at members place) f).word) (sym t.2) (omega arith)

-- one more goal that can't be peeled
pub no_goal_next : (members rests : List Expressed) (i : ℕ) (e : Expressed) (w : List ℤ) → i < length rests → e ≡ get_or rests i e → w ≡ e.word
    → ((g : ℕ) (p : Expressed) → g < i → IsFactor members p → length (member_at rests g).word ≤ quotient_length p.word (member_at rests g).word)
    → ((p : Expressed) → IsFactor members p → length w ≤ quotient_length p.word w)
    → (g : ℕ) (p : Expressed) → g < i + 1 → IsFactor members p → length (member_at rests g).word ≤ quotient_length p.word (member_at rests g).word
no_goal_next members rests i e w there r is h here g p less f =
    let same : w ≡ (member_at rests i).word = is ∙ ap (λ (e : Expressed). e.word) (get_or_read rests i e there r empty) in
    elim (cases_eq g i) as (λ _. length (member_at rests g).word ≤ quotient_length p.word (member_at rests g).word) [
      | inl k ↦ subst (λ (n : ℕ). length (member_at rests n).word ≤ quotient_length p.word (member_at rests n).word) (sym k) (subst (λ (t : List ℤ). length t ≤ quotient_length p.word t) same (here p f))
      | inr n ↦ h g p (omega arith) f
    ]

pub one_found : (members rests : List Expressed) (i : ℕ) (e : Expressed) (w : List ℤ) (pick : Pick) → i < length rests → e ≡ get_or rests i e → w ≡ e.word → IsPick members pick × (left_by members w pick < length w)
    → (i < length rests) × IsPick members pick × (left_by members (member_at rests i).word pick < length (member_at rests i).word)
one_found members rests i e w pick there r is h =
    let same : w ≡ (member_at rests i).word = is ∙ ap (λ (e : Expressed). e.word) (get_or_read rests i e there r empty) in
    (there, h.0, subst (λ (t : List ℤ). left_by members t pick < length t) same h.1)
