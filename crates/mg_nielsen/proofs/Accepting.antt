-- Where every goal is peeled away the derivation of the signs is accepted.
use Rattle.std.proofs.Common.{◌≡◌, zero, suc, ◌+◌, ◌-◌, ◌≤◌, ℤ, pos, negsuc, List, [], ◌∷◌, ◌++◌, map, length, get_or, refl, sym, ap, subst, ◌∙◌, arith}
use Rattle.std.specs.List.{AllByRecursion, flat_map}
use Rattle.std.proofs.lemmas.List.{append-nil}
use Rattle.mg_words.specs.Letter.{IsLetterOf}
use Rattle.mg_words.specs.Word.{inv, IsOver}
use Rattle.mg_words.specs.Chain.{FreelyEqual}
use Rattle.mg_words.specs.Reduction.{free_form}
use Rattle.mg_words.proofs.Chains.{Same-refl}
use Rattle.mg_words.proofs.Free.{free_form-freely}
use Rattle.mg_present.specs.Ask.{Inquiry}
use Rattle.mg_present.specs.Image.{letter_image, image_of}
use Rattle.mg_present.proofs.Images.{image-over}
use Rattle.mg_derive.specs.declared.symbol.Symbol.{Symbol}
use Rattle.mg_derive.specs.declared.symbol.Symbol.TheVariants.{Cut}
use Rattle.mg_derive.specs.Symbols.{IsSymbolOf, word_of, written_out, letters_alone}
use Rattle.mg_derive.specs.Acceptance.{IsMember, IsInOrder, Vanishes, Write, IsAccepted}
use Rattle.mg_nielsen.specs.Expressed.{Expressed, IsRestOf, AreRests}
use Rattle.mg_nielsen.specs.Moves.{Nielsen, IsKept}
use Rattle.mg_nielsen.specs.Turn.{symbol_of, part_of, text_of, NoRest}
use Rattle.mg_nielsen.proofs.Keeping.{subgroup_over}

all_append : {X : Type 0} (P : X → Type 0) (xs ys : List X) → AllByRecursion P xs → AllByRecursion P ys → AllByRecursion P (xs ++ ys)
all_append P [] ys h k = k
all_append P (x ∷ xs) ys h k = (h.0, all_append P xs ys h.1 k)

-- the signs of each rest as symbols
all_symbols : List Expressed → List (List Symbol)
all_symbols [] = []
all_symbols (e ∷ rests) = map symbol_of e.signs ∷ all_symbols rests

sign_symbol : (ask : Inquiry) (x : ℤ) → IsLetterOf (length ask.subgroup) x → IsSymbolOf ask (symbol_of x)
sign_symbol ask (pos n) h = record { least = h.least; most = h.most }
sign_symbol ask (negsuc n) h = let least = h.least in let most = h.most in record { least = omega arith; most = omega arith }

signs_symbols : (ask : Inquiry) (signs : List ℤ) → IsOver (length ask.subgroup) signs → AllByRecursion (IsSymbolOf ask) (map symbol_of signs)
signs_symbols ask [] h = tt
signs_symbols ask (x ∷ signs) h = (sign_symbol ask x h.0, signs_symbols ask signs h.1)

signs_members : (signs : List ℤ) → AllByRecursion IsMember (map symbol_of signs)
signs_members [] = tt
signs_members (x ∷ signs) = (tt, signs_members signs)

no_letters_alone : (signs : List ℤ) → letters_alone (map symbol_of signs) ≡ []
no_letters_alone [] = refl
no_letters_alone (x ∷ signs) = no_letters_alone signs

-- a sign stands for its subgroup word
sign_word : (ask : Inquiry) (x : ℤ) → IsLetterOf (length ask.subgroup) x → word_of ask (symbol_of x) ≡ letter_image ask.subgroup x
sign_word ask (pos zero) h = absurd (let least : 1 ≤ 0 = h.least in omega arith)
sign_word ask (pos (suc n)) h = let e : suc n - 1 ≡ n = omega arith in ap (λ k. get_or ask.subgroup k []) e
sign_word ask (negsuc n) h = let e : n + 1 - 1 ≡ n = omega arith in ap (λ k. inv (get_or ask.subgroup k [])) e

signs_word : (ask : Inquiry) (signs : List ℤ) → IsOver (length ask.subgroup) signs → written_out ask (map symbol_of signs) ≡ image_of ask.subgroup signs
signs_word ask [] h = refl
signs_word ask (x ∷ signs) h = ap (λ t. t ++ written_out ask (map symbol_of signs)) (sign_word ask x h.0) ∙ ap (λ t. letter_image ask.subgroup x ++ t) (signs_word ask signs h.1)

in_order : (signs : List ℤ) → IsInOrder (map symbol_of signs)
in_order signs = record { front = []; back = map symbol_of signs; split = refl; of_group = tt; members = signs_members signs }

vanishes : (ask : Inquiry) (signs : List ℤ) → Vanishes ask (map symbol_of signs)
vanishes ask signs = subst (λ (t : List ℤ). FreelyEqual ask.group.generators t []) (sym (no_letters_alone signs)) (Same-refl ask.group.generators [] [])

all_in_order : (rests : List Expressed) → AllByRecursion IsInOrder (all_symbols rests)
unfolding all_symbols
all_in_order [] = tt
all_in_order (e ∷ rests) = (in_order e.signs, all_in_order rests)

all_vanish : (ask : Inquiry) (rests : List Expressed) → AllByRecursion (Vanishes ask) (all_symbols rests)
unfolding all_symbols
all_vanish ask [] = tt
all_vanish ask (e ∷ rests) = (vanishes ask e.signs, all_vanish ask rests)

all_cut : (rests : List Expressed) → text_of rests ≡ flat_map (λ part. part ++ Cut ∷ []) (all_symbols rests)
unfolding all_symbols
all_cut [] = refl
all_cut (e ∷ rests) = ap (λ t. part_of e ++ t) (all_cut rests)

all_are_symbols : (ask : Inquiry) (rests : List Expressed) (goals : List (List ℤ)) → AreRests ask.subgroup rests goals → AllByRecursion (IsSymbolOf ask) (text_of rests)
all_are_symbols ask [] goals h = tt
all_are_symbols ask (e ∷ rests) [] h = absurd h
all_are_symbols ask (e ∷ rests) (goal ∷ goals) h =
    all_append (IsSymbolOf ask) (part_of e) (text_of rests)
    (all_append (IsSymbolOf ask) (map symbol_of e.signs) (Cut ∷ []) (signs_symbols ask e.signs h.0.signs.over) (tt, tt))
    (all_are_symbols ask rests goals h.1)

-- the signs of a goal without a rest, written out
goal_written : (ask : Inquiry) (e : Expressed) (goal : List ℤ) → AllByRecursion (IsOver ask.group.generators) ask.subgroup → IsRestOf ask.subgroup e goal → e.word ≡ [] → FreelyEqual ask.group.generators (written_out ask (map symbol_of e.signs)) goal
goal_written ask e goal over h none =
    let w : List ℤ = image_of ask.subgroup e.signs in
    let is : free_form w ≡ goal = sym (h.goal_is ∙ ap free_form (ap (λ t. w ++ t) none ∙ append-nil w)) in
    subst (λ (t : List ℤ). FreelyEqual ask.group.generators t goal) (sym (signs_word ask e.signs h.signs.over))
    (subst (FreelyEqual ask.group.generators w) is (free_form-freely ask.group.generators w (image-over ask.group.generators ask.subgroup e.signs over)))

all_written : (ask : Inquiry) (rests : List Expressed) (goals : List (List ℤ)) → AllByRecursion (IsOver ask.group.generators) ask.subgroup → AreRests ask.subgroup rests goals → AllByRecursion (λ (e : Expressed). e.word ≡ []) rests → Write ask (all_symbols rests) goals
unfolding all_symbols
all_written ask [] [] over h none = tt
all_written ask [] (goal ∷ goals) over h none = absurd h
all_written ask (e ∷ rests) [] over h none = absurd h
all_written ask (e ∷ rests) (goal ∷ goals) over h none = (goal_written ask e goal over h.0 none.0, all_written ask rests goals over h.1 none.1)

pub signs_accepted : (s : Nielsen) → IsKept s → NoRest s → IsAccepted s.ask (text_of s.rests)
signs_accepted s h none = record {
  symbols = all_are_symbols s.ask s.rests s.ask.goals h.rests;
  parts = all_symbols s.rests;
  cut = all_cut s.rests;
  in_order = all_in_order s.rests;
  vanish = all_vanish s.ask s.rests;
  write = all_written s.ask s.rests s.ask.goals (subgroup_over s.ask h.asked) h.rests none;
}
