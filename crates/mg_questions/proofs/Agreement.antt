-- What a question means, over all words, is what its goals say over generators.
use Rattle.std.proofs.Common.{◌↔◌, ℕ, suc, ◌≤◌, ℤ, pos, negsuc, List, [], ◌∷◌, ◌++◌, map, sym, subst}
use Rattle.std.specs.List.{AllZip}
use Rattle.mg_words.specs.Letter.{IsLetterOf}
use Rattle.mg_words.specs.Word.{IsOver, inv, commutator_of}
use Rattle.mg_words.specs.Reduction.{IsFormOf}
use Rattle.mg_words.proofs.Chains.{inv-inv, IsOver-inv, Same-refl, Same-sym, Same-from_free}
use Rattle.mg_present.specs.Presentation.{Group}
use Rattle.mg_present.specs.Ask.{Inquiry}
use Rattle.mg_present.specs.Same.{Same, Lies, Holds}
use Rattle.mg_present.specs.Image.{image_of}
use Rattle.mg_present.proofs.Sameness.{lies_empty, lies_product, lies_inverse, lies_same, lies_in_none, none_lies, quotient_is_one, quotient_of_same}
use Rattle.mg_questions.specs.declared.question.Question.{Question}
use Rattle.mg_questions.specs.declared.question.Question.TheVariants.{WordIsOne, WordsEqual, InSubgroup, Trivial, Abelian, Central, Normal, Extends, Onto, InKernel}
use Rattle.mg_questions.specs.Goals.{generators, commutators, conjugates, group_of, subgroup_of, goals_of}
use Rattle.mg_questions.specs.Meaning.{IsWordOf, IsTrivial, IsCentral, IsAbelian, IsNormal, IsOnto, Meaning}
use Rattle.mg_questions.specs.Asking.{IsFit, IsAskOf}
use Rattle.mg_questions.proofs.Asked.{given_over, generators_over, goals_over}
use Rattle.mg_questions.proofs.Commuting.{Commute, commute_one, commute_turn, commute_times, commute_inverse, commutator_is_one, commute_of_commutator}
use Rattle.mg_questions.proofs.Conjugation.{Keeps, conjugate, keeps_all, conjugate_by_none, conjugate_by_more, members_lie}
use Rattle.mg_questions.proofs.Mapping.{extends_where, relators_lie, image_of_lying, image_lies}
use Rattle.mg_questions.proofs.Tables.{Each, Both, each_more, each_both, each_map, each_of_map, each_generator, generator_at, each_commutator, each_pair, each_conjugate, each_of_conjugates}

-- a goal lies where its reduced form lies
forms_lie : (group : Group) (members ws goals : List (List ℤ)) → Each (IsOver group.generators) ws → AllZip IsFormOf ws goals → Each (Lies group members) ws ↔ Each (Lies group members) goals
forms_lie group members [] [] over forms = (λ h. tt, λ h. tt)
forms_lie group members [] (goal ∷ goals) over forms = absurd forms
forms_lie group members (w ∷ ws) [] over forms = absurd forms
forms_lie group members (w ∷ ws) (goal ∷ goals) over forms =
    let same : Same group w goal = Same-from_free group.generators group.relators w goal (forms.0.equal group.generators over.0) in
    let rest = forms_lie group members ws goals over.1 forms.1 in (
      λ h. (lies_same group members w goal h.0 same, rest.0 h.1),
      λ h. (lies_same group members goal w h.0 (Same-sym group.generators group.relators w goal same), rest.1 h.1),
    )

-- what holds of each generator, and with a word of its inverse, holds of each letter
pub each_letter : (P : List ℤ → Type 0) (m : ℕ) → ((x : List ℤ) → IsOver m x → P x → P (inv x)) → Each P (generators m) → (x : ℤ) → IsLetterOf m x → P (x ∷ [])
each_letter P m turn each (pos n) letter = generator_at P m n letter.least letter.most each
each_letter P m turn each (negsuc n) letter =
    turn (pos (suc n) ∷ []) (record { least = letter.least; most = letter.most }, tt) (generator_at P m (suc n) letter.least letter.most each)

-- and, with two words of their product, of each word
pub each_word : (P : List ℤ → Type 0) (m : ℕ) → P [] → ((u v : List ℤ) → P u → P v → P (u ++ v)) → ((x : List ℤ) → IsOver m x → P x → P (inv x)) → Each P (generators m) → (w : List ℤ) → IsOver m w → P w
each_word P m none times turn each [] over = none
each_word P m none times turn each (x ∷ w) over =
    times (x ∷ []) w (each_letter P m turn each x over.0) (each_word P m none times turn each w over.1)

generator_over : (m n : ℕ) → 1 ≤ n → n ≤ m → IsOver m (pos n ∷ [])
generator_over m n h k = (record { least = h; most = k }, tt)

-- what holds of all words holds of the generators
each_of_words : (P : List ℤ → Type 0) (m : ℕ) → ((w : List ℤ) → IsOver m w → P w) → Each P (generators m)
each_of_words P m all = each_generator P m (λ n h k. all (pos n ∷ []) (generator_over m n h k))

-- where the generators lie, every word lies
all_lie : (group : Group) (members : List (List ℤ)) → Each (Lies group members) (generators group.generators) → (w : List ℤ) → IsWordOf group w → Lies group members w
all_lie group members each =
    each_word (Lies group members) group.generators (lies_empty group members) (lies_product group members) (λ x over h. lies_inverse group members x h) each

-- what commutes with the generators commutes with every word
commutes_with_all : (group : Group) (u : List ℤ) → Each (Commute group u) (generators group.generators) → (v : List ℤ) → IsWordOf group v → Commute group u v
commutes_with_all group u = each_word (Commute group u) group.generators (commute_one group u) (commute_times group u) (commute_inverse group u)

-- trivial
trivial_agrees : (group : Group) → IsTrivial group ↔ Each (Lies group []) (generators group.generators)
trivial_agrees group = (
  λ one. each_of_words (Lies group []) group.generators (λ w over. none_lies group w (one w over)),
  λ each w over. lies_in_none group w (all_lie group [] each w over),
)

-- central
central_agrees : (group : Group) (u : List ℤ) → IsWordOf group u → IsCentral group u ↔ Each (Lies group []) (map (commutator_of u) (generators group.generators))
central_agrees group u over =
    let m : ℕ = group.generators in (
      λ central. each_map (Lies group []) (commutator_of u) (generators m)
          (each_of_words (λ v. Lies group [] (commutator_of u v)) m (λ v v_over. none_lies group (commutator_of u v) (commutator_is_one group u v over v_over (central v v_over)))),
      λ lie. commutes_with_all group u
          (each_more (λ v. IsOver m v × Lies group [] (commutator_of u v)) (Commute group u) (generators m) (λ v h. commute_of_commutator group u v over h.0 (lies_in_none group (commutator_of u v) h.1))
          (each_both (IsOver m) (λ v. Lies group [] (commutator_of u v)) (generators m) (generators_over m) (each_of_map (Lies group []) (commutator_of u) (generators m) lie))),
    )

-- abelian
abelian_goals : (group : Group) → IsAbelian group → Each (Lies group []) (commutators (generators group.generators))
abelian_goals group abelian =
    each_commutator (Lies group []) (IsWordOf group) (generators group.generators)
    (λ u v u_over v_over. none_lies group (commutator_of u v) (commutator_is_one group u v u_over v_over (abelian u u_over v v_over))) (generators_over group.generators)

generators_commute : (group : Group) → Each (Lies group []) (commutators (generators group.generators)) → Each (λ u. IsWordOf group u × Each (λ v. IsWordOf group u → IsWordOf group v → Commute group u v) (generators group.generators)) (generators group.generators)
generators_commute group lie =
    let m : ℕ = group.generators in
    each_both (IsOver m) (λ u. Each (λ v. IsOver m u → IsOver m v → Commute group u v) (generators m)) (generators m) (generators_over m)
    (each_pair (Lies group []) (λ u v. IsOver m u → IsOver m v → Commute group u v) (generators m) (λ u u_over v_over. Same-refl m group.relators (u ++ u))
    (λ u v h v_over u_over. commute_turn group u v (h u_over v_over)) (λ u v h u_over v_over. commute_of_commutator group u v u_over v_over (lies_in_none group (commutator_of u v) h)) lie)

abelian_where : (group : Group) → Each (Lies group []) (commutators (generators group.generators)) → IsAbelian group
abelian_where group lie u u_over v v_over =
    let m : ℕ = group.generators in
    let turned : Each (Commute group v) (generators m) =
    each_more (λ x. IsOver m x × Each (λ y. IsOver m x → IsOver m y → Commute group x y) (generators m)) (Commute group v) (generators m)
    (λ x h. commute_turn group x v (commutes_with_all group x
    (each_more (λ y. IsOver m y × (IsOver m x → IsOver m y → Commute group x y)) (Commute group x) (generators m) (λ y k. k.1 h.0 k.0)
    (each_both (IsOver m) (λ y. IsOver m x → IsOver m y → Commute group x y) (generators m) (generators_over m) h.1)) v v_over)) (generators_commute group lie) in
    commute_turn group v u (commutes_with_all group v turned u u_over)

-- normal
normal_goals : (group : Group) (members : List (List ℤ)) → Each (IsWordOf group) members → IsNormal group members → Each (Lies group members) (conjugates (generators group.generators) members)
normal_goals group members over normal =
    let m : ℕ = group.generators in
    each_conjugate (Lies group members) (generators m) members
    (each_more (IsOver m) (λ x. Each (Both (Lies group members) x) members) (generators m)
    (λ x x_over. each_more (λ h. IsOver m h × Lies group members h) (Both (Lies group members) x) members
    (λ h k. (
      normal h x k.0 x_over k.1,
      subst (λ (t : List ℤ). Lies group members (inv x ++ h ++ t)) (inv-inv x) (normal h (inv x) k.0 (IsOver-inv m x x_over) k.1),
    )) (each_both (IsOver m) (Lies group members) members over (members_lie group members))) (generators_over m))

keeps_letter : (group : Group) (members : List (List ℤ)) (x : ℤ) → IsLetterOf group.generators x → Each (Lies group members) (conjugates (generators group.generators) members) → Keeps group members (x ∷ [])
keeps_letter group members (pos n) letter lie =
    each_more (Both (Lies group members) (pos n ∷ [])) (λ h. Lies group members (conjugate (pos n ∷ []) h)) members (λ h both. both.0)
    (generator_at (λ x. Each (Both (Lies group members) x) members) group.generators n letter.least letter.most (each_of_conjugates (Lies group members) (generators group.generators) members lie))
keeps_letter group members (negsuc n) letter lie =
    each_more (Both (Lies group members) (pos (suc n) ∷ [])) (λ h. Lies group members (conjugate (negsuc n ∷ []) h)) members (λ h both. both.1)
    (generator_at (λ x. Each (Both (Lies group members) x) members) group.generators (suc n) letter.least letter.most (each_of_conjugates (Lies group members) (generators group.generators) members lie))

keeps_word : (group : Group) (members : List (List ℤ)) (v h : List ℤ) → IsWordOf group v → Each (Lies group members) (conjugates (generators group.generators) members) → Lies group members h → Lies group members (conjugate v h)
keeps_word group members [] h over lie lies = subst (λ (t : List ℤ). Lies group members t) (sym (conjugate_by_none h)) lies
keeps_word group members (x ∷ v) h over lie lies =
    subst (λ (t : List ℤ). Lies group members t) (sym (conjugate_by_more x v h))
    (keeps_all group members (x ∷ []) (conjugate v h) (over.0, tt) (keeps_letter group members x over.0 lie) (keeps_word group members v h over.1 lie lies))

-- onto
onto_agrees : (target : Group) (images : List (List ℤ)) → IsOnto target images ↔ Each (Lies target images) (generators target.generators)
onto_agrees target images = (
  λ onto. each_of_words (Lies target images) target.generators (λ w over. let some = onto w over in lies_same target images (image_of images some.0) w (image_lies target images some.0 some.1) some.2),
  λ lie w over. image_of_lying target images w (all_lie target images lie w over),
)

-- one goal
one_agrees : (group : Group) (w : List ℤ) → Same group w [] ↔ Each (Lies group []) (w ∷ [])
one_agrees group w = (λ same. (none_lies group w same, tt), λ lie. lies_in_none group w lie.0)

-- each kind means what its goals say, before they are reduced
pub goals_agree : (question : Question) → IsFit question → Meaning question ↔ Each (Lies (group_of question) (subgroup_of question)) (goals_of question)
goals_agree (WordIsOne group word) fit = one_agrees group word.letters
goals_agree (WordsEqual group left right) fit = (
  λ same. (none_lies group (left.letters ++ inv right.letters) (quotient_is_one group left.letters right.letters fit.1.over same), tt),
  λ lie. quotient_of_same group left.letters right.letters fit.1.over (lies_in_none group (left.letters ++ inv right.letters) lie.0),
)
goals_agree (InSubgroup group subgroup word) fit = (λ lies. (lies, tt), λ lie. lie.0)
goals_agree (Trivial group) fit = trivial_agrees group
goals_agree (Abelian group) fit = (abelian_goals group, abelian_where group)
goals_agree (Central group word) fit = central_agrees group word.letters fit.over
goals_agree (Normal group subgroup) fit = (
  normal_goals group subgroup (given_over group.generators subgroup fit.each),
  λ lie h v h_over v_over lies. keeps_word group subgroup v h v_over lie lies,
)
goals_agree (Extends source target images) fit = (
  relators_lie source target images fit.0,
  extends_where source target images (given_over target.generators images fit.1.each),
)
goals_agree (Onto target images) fit = onto_agrees target images
goals_agree (InKernel target images word) fit = one_agrees target (image_of images word.letters)

pub agree : (question : Question) (ask : Inquiry) → IsFit question → IsAskOf question ask → Meaning question ↔ Holds ask
agree question ask fit is =
    let means : Meaning question ↔ Each (Lies (group_of question) (subgroup_of question)) (goals_of question) = goals_agree question fit in
    let lie : Each (Lies (group_of question) (subgroup_of question)) (goals_of question) ↔ Each (Lies (group_of question) (subgroup_of question)) ask.goals =
    forms_lie (group_of question) (subgroup_of question) (goals_of question) ask.goals (goals_over question fit) is.goals in
    let here : Each (Lies (group_of question) (subgroup_of question)) ask.goals ↔ Holds ask = (
      λ h. subst (λ (g : Group). Each (Lies g ask.subgroup) ask.goals) (sym is.group) (subst (λ (s : List (List ℤ)). Each (Lies (group_of question) s) ask.goals) (sym is.subgroup) h),
      λ h. subst (λ (s : List (List ℤ)). Each (Lies (group_of question) s) ask.goals) is.subgroup (subst (λ (g : Group). Each (Lies g ask.subgroup) ask.goals) is.group h),
    ) in
    (λ h. here.0 (lie.0 (means.0 h)), λ h. means.1 (lie.1 (here.1 h)))
