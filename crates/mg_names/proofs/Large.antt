-- Which Asks are too large, and the first cause that they show.
use Rattle.std.proofs.Common.{◌≡◌, ℕ, zero, suc, ℤ, ◌+◌, ◌-◌, ◌<◌, ◌≤◌, inr, Bool, true, false, Some, List, [], ◌∷◌, ◌++◌, map, length, refl, sym, ap, subst, ◌∙◌, arith}
use Rattle.std.specs.Prelude.{if◌then◌else◌, nat_lt, slice_index_or}
use Rattle.std.specs.List.{AllByRecursion, AllZip}
use Rattle.std.proofs.lemmas.List.{length-append, length-map}
use Rattle.std.proofs.lemmas.Bool.{ltb-false, ltb-true, lt-ltb}
use Rattle.mg_lex.specs.declared.refusal.Cause.TheVariants as cause
use Rattle.mg_words.specs.Word.{IsOver, inv}
use Rattle.mg_words.specs.Reduction.{IsFormOf, free_form}
use Rattle.mg_words.proofs.Chains.{length-inv}
use Rattle.mg_words.proofs.Free.{free_form-reduced, same_form}
use Rattle.mg_present.specs.declared.ask.TheConstants.{MOST_GOALS}
use Rattle.mg_present.specs.Presentation.{Group, IsPresented}
use Rattle.mg_present.specs.Ask.{Inquiry}
use Rattle.mg_present.specs.Image.{image_of}
use Rattle.mg_questions.specs.declared.question.Question.{Question}
use Rattle.mg_questions.specs.declared.question.Question.TheVariants.{WordIsOne, WordsEqual, InSubgroup, Trivial, Abelian, Central, Normal, Extends, Onto, InKernel}
use Rattle.mg_questions.specs.declared.question.TheConstants.{MOST_WORD_LETTERS, MOST_GOAL_LETTERS}
use Rattle.mg_questions.specs.Goals.{generators, conjugates, goals_of, group_of, subgroup_of}
use Rattle.mg_questions.specs.Asking.{IsFit, IsAskOf, AreAllowed, AreTooMany, IsFirstTooLong}
use Rattle.mg_questions.specs.Content.{content_of}
use Rattle.mg_questions.proofs.Asked.{goals_over}
use Rattle.mg_questions.proofs.Bounds.{given_short, never_refused}
use Rattle.mg_questions.proofs.Tables.{Each, each_more, each_conjugate, each_generator}
use Rattle.mg_names.specs.declared.limits.TheConstants.{ASK_LETTER_LIMIT}
use Rattle.mg_names.specs.Named.{Named}
use Rattle.mg_names.specs.Scope.{Scope}
use Rattle.mg_names.specs.Meaning.{Asking, ask_for, ask_letters}
use Rattle.mg_names.specs.Cause.{Shown, at, has_long, too_large, IsFirst}
use Rattle.mg_names.specs.Sized.{IsCounted}

-- the same content asks the same
pub same_goals : (q : Question) → goals_of (content_of q) ≡ goals_of q
same_goals (WordIsOne group word) = refl
same_goals (WordsEqual group left right) = refl
same_goals (InSubgroup group subgroup word) = refl
same_goals (Trivial group) = refl
same_goals (Abelian group) = refl
same_goals (Central group word) = refl
same_goals (Normal group subgroup) = refl
same_goals (Extends source target images) = refl
same_goals (Onto target images) = refl
same_goals (InKernel target images word) = refl

pub same_ask : (q : Question) → ask_for (content_of q) ≡ ask_for q
same_ask (WordIsOne group word) = refl
same_ask (WordsEqual group left right) = refl
same_ask (InSubgroup group subgroup word) = refl
same_ask (Trivial group) = refl
same_ask (Abelian group) = refl
same_ask (Central group word) = refl
same_ask (Normal group subgroup) = refl
same_ask (Extends source target images) = refl
same_ask (Onto target images) = refl
same_ask (InKernel target images word) = refl

pub same_fit : (q : Question) → IsFit (content_of q) ≡ IsFit q
same_fit (WordIsOne group word) = refl
same_fit (WordsEqual group left right) = refl
same_fit (InSubgroup group subgroup word) = refl
same_fit (Trivial group) = refl
same_fit (Abelian group) = refl
same_fit (Central group word) = refl
same_fit (Normal group subgroup) = refl
same_fit (Extends source target images) = refl
same_fit (Onto target images) = refl
same_fit (InKernel target images word) = refl

pub goals_agree : (p q : Question) → content_of p ≡ content_of q → goals_of p ≡ goals_of q
goals_agree p q e = sym (same_goals p) ∙ (ap goals_of e ∙ same_goals q)

pub asks_agree : (p q : Question) → content_of p ≡ content_of q → ask_for p ≡ ask_for q
asks_agree p q e = sym (same_ask p) ∙ (ap ask_for e ∙ same_ask q)

-- long goals
has_long_if : (b : Bool) (rest : Bool) → b ≡ true → (if b then true else rest) ≡ true
has_long_if true rest e = refl
has_long_if false rest e = absurd cc

has_long_rest : (b : Bool) (rest : Bool) → rest ≡ true → (if b then true else rest) ≡ true
has_long_rest true rest e = refl
has_long_rest false rest e = e

ltb-not : (a b : ℕ) → b ≤ a → nat_lt a b ≡ false
ltb-not a b h = by_less (nat_lt a b) refl
  where
    by_less : (r : Bool) → nat_lt a b ≡ r → nat_lt a b ≡ false
    by_less false e = e
    by_less true e = absurd (let k = ltb-true a b e in omega (arith, k, h))

pub long_there : (ws : List (List ℤ)) (i : ℕ) → i < length ws → MOST_GOAL_LETTERS < length (slice_index_or ws i []) → has_long ws ≡ true
long_there [] i h k = absurd (omega (arith, h))
long_there (w ∷ ws) zero h k = has_long_if (nat_lt MOST_GOAL_LETTERS (length w)) (has_long ws) (lt-ltb MOST_GOAL_LETTERS (length w) k)
long_there (w ∷ ws) (suc i) h k = has_long_rest (nat_lt MOST_GOAL_LETTERS (length w)) (has_long ws) (long_there ws i (omega (arith, h)) k)

pub none_long : (ws : List (List ℤ)) → AllByRecursion (λ w. length w ≤ MOST_GOAL_LETTERS) ws → has_long ws ≡ false
none_long [] h = refl
none_long (w ∷ ws) h = ap (λ b. if b then true else has_long ws) (ltb-not MOST_GOAL_LETTERS (length w) h.0) ∙ none_long ws h.1

-- the first of the causes at one place
abbrev pub sizes : Bool → Bool → Bool → ℕ → List Shown
sizes long many letters place =
    (if long then at cause.WordTooLong place else []) ++ ((if many then at cause.TooMany place else []) ++ (if letters then at cause.TooMany place else []))

first_long : (many letters : Bool) (place : ℕ) → IsFirst (sizes true many letters place) (record { place = place; cause = cause.WordTooLong })
first_long true true place = record { among = (0, omega arith, refl); least = (inr (refl, omega arith), (inr (refl, omega arith), (inr (refl, omega arith), tt))) }
first_long true false place = record { among = (0, omega arith, refl); least = (inr (refl, omega arith), (inr (refl, omega arith), tt)) }
first_long false true place = record { among = (0, omega arith, refl); least = (inr (refl, omega arith), (inr (refl, omega arith), tt)) }
first_long false false place = record { among = (0, omega arith, refl); least = (inr (refl, omega arith), tt) }

first_many : (letters : Bool) (place : ℕ) → IsFirst (sizes false true letters place) (record { place = place; cause = cause.TooMany })
first_many true place = record { among = (0, omega arith, refl); least = (inr (refl, omega arith), (inr (refl, omega arith), tt)) }
first_many false place = record { among = (0, omega arith, refl); least = (inr (refl, omega arith), tt) }

first_letters : (place : ℕ) → IsFirst (sizes false false true place) (record { place = place; cause = cause.TooMany })
first_letters place = record { among = (0, omega arith, refl); least = (inr (refl, omega arith), tt) }

module _ (scope : Scope) (n : Named) (a : Asking) where
  pub is_long : has_long (goals_of a.question) ≡ true → IsFirst (too_large scope n (Some a)) (record { place = n.place; cause = cause.WordTooLong })
  is_long e =
      subst (λ (b : Bool). IsFirst (sizes b (nat_lt MOST_GOALS (length (goals_of a.question))) (nat_lt ASK_LETTER_LIMIT (scope.letters + ask_letters (ask_for a.question))) n.place) (record { place = n.place; cause = cause.WordTooLong })) (sym e)
      (first_long (nat_lt MOST_GOALS (length (goals_of a.question))) (nat_lt ASK_LETTER_LIMIT (scope.letters + ask_letters (ask_for a.question))) n.place)

  pub is_many : has_long (goals_of a.question) ≡ false → nat_lt MOST_GOALS (length (goals_of a.question)) ≡ true → IsFirst (too_large scope n (Some a)) (record { place = n.place; cause = cause.TooMany })
  is_many e f =
      subst (λ (b : Bool). IsFirst (sizes b (nat_lt MOST_GOALS (length (goals_of a.question))) (nat_lt ASK_LETTER_LIMIT (scope.letters + ask_letters (ask_for a.question))) n.place) (record { place = n.place; cause = cause.TooMany })) (sym e)
      (subst (λ (b : Bool). IsFirst (sizes false b (nat_lt ASK_LETTER_LIMIT (scope.letters + ask_letters (ask_for a.question))) n.place) (record { place = n.place; cause = cause.TooMany })) (sym f)
      (first_many (nat_lt ASK_LETTER_LIMIT (scope.letters + ask_letters (ask_for a.question))) n.place))

  pub is_full : has_long (goals_of a.question) ≡ false → nat_lt MOST_GOALS (length (goals_of a.question)) ≡ false → nat_lt ASK_LETTER_LIMIT (scope.letters + ask_letters (ask_for a.question)) ≡ true →
      IsFirst (too_large scope n (Some a)) (record { place = n.place; cause = cause.TooMany })
  is_full e f g =
      subst (λ (b : Bool). IsFirst (sizes b (nat_lt MOST_GOALS (length (goals_of a.question))) (nat_lt ASK_LETTER_LIMIT (scope.letters + ask_letters (ask_for a.question))) n.place) (record { place = n.place; cause = cause.TooMany })) (sym e)
      (subst (λ (b : Bool). IsFirst (sizes false b (nat_lt ASK_LETTER_LIMIT (scope.letters + ask_letters (ask_for a.question))) n.place) (record { place = n.place; cause = cause.TooMany })) (sym f)
      (subst (λ (b : Bool). IsFirst (sizes false false b n.place) (record { place = n.place; cause = cause.TooMany })) (sym g) (first_letters n.place)))

  pub is_small : has_long (goals_of a.question) ≡ false → nat_lt MOST_GOALS (length (goals_of a.question)) ≡ false → nat_lt ASK_LETTER_LIMIT (scope.letters + ask_letters (ask_for a.question)) ≡ false →
      too_large scope n (Some a) ≡ []
  is_small e f g =
      ap (λ b. sizes b (nat_lt MOST_GOALS (length (goals_of a.question))) (nat_lt ASK_LETTER_LIMIT (scope.letters + ask_letters (ask_for a.question))) n.place) e
      ∙ (ap (λ b. sizes false b (nat_lt ASK_LETTER_LIMIT (scope.letters + ask_letters (ask_for a.question))) n.place) f ∙ ap (λ b. sizes false false b n.place) g)

-- where there are too many goals none is too long
conjugates_short : (xs hs : List (List ℤ)) → Each (λ x. length x ≡ 1) xs → Each (λ h. length h ≤ MOST_WORD_LETTERS) hs → AllByRecursion (λ w. length w ≤ MOST_GOAL_LETTERS) (conjugates xs hs)
conjugates_short xs hs ones short =
    each_conjugate (λ w. length w ≤ MOST_GOAL_LETTERS) xs hs
    (each_more (λ x. length x ≡ 1) _ xs (λ x one. each_more (λ h. length h ≤ MOST_WORD_LETTERS) _ hs (λ h k. (
      omega (arith, one, k, length-append (x ++ h) (inv x), length-append x h, length-inv x),
      omega (arith, one, k, length-append (inv x ++ h) x, length-append (inv x) h, length-inv x),
    )) short) ones)

few_or_short : (q : Question) → AreAllowed (goals_of q) → MOST_GOALS < length (goals_of q) → has_long (goals_of q) ≡ false
few_or_short q allowed many = none_long (goals_of q) allowed.short

pub many_short : (q : Question) → IsFit q → IsPresented (group_of q) → MOST_GOALS < length (goals_of q) → has_long (goals_of q) ≡ false
many_short (WordIsOne group word) fit is many = few_or_short (WordIsOne group word) (never_refused (WordIsOne group word) fit is.generators (λ a b e. cc) (λ a b c e. cc) (λ a b c e. cc)) many
many_short (WordsEqual group left right) fit is many =
    few_or_short (WordsEqual group left right) (never_refused (WordsEqual group left right) fit is.generators (λ a b e. cc) (λ a b c e. cc) (λ a b c e. cc)) many
many_short (InSubgroup group subgroup word) fit is many =
    few_or_short (InSubgroup group subgroup word) (never_refused (InSubgroup group subgroup word) fit is.generators (λ a b e. cc) (λ a b c e. cc) (λ a b c e. cc)) many
many_short (Trivial group) fit is many = few_or_short (Trivial group) (never_refused (Trivial group) fit is.generators (λ a b e. cc) (λ a b c e. cc) (λ a b c e. cc)) many
many_short (Abelian group) fit is many = few_or_short (Abelian group) (never_refused (Abelian group) fit is.generators (λ a b e. cc) (λ a b c e. cc) (λ a b c e. cc)) many
many_short (Central group word) fit is many = few_or_short (Central group word) (never_refused (Central group word) fit is.generators (λ a b e. cc) (λ a b c e. cc) (λ a b c e. cc)) many
many_short (Normal group subgroup) fit is many =
    none_long (conjugates (generators group.generators) subgroup)
    (conjugates_short (generators group.generators) subgroup (each_generator (λ x. length x ≡ 1) group.generators (λ n h k. refl)) (given_short group.generators subgroup fit.each))
many_short (Extends source target images) fit is many = absurd (omega (arith, many, length-map source.relators (image_of images), fit.0.count))
many_short (Onto target images) fit is many = few_or_short (Onto target images) (never_refused (Onto target images) fit is.generators (λ a b e. cc) (λ a b c e. cc) (λ a b c e. cc)) many
many_short (InKernel target images word) fit is many = absurd (omega (arith, many))

-- the first long goal
pub record IsFirstLong (ws : List (List ℤ)) : Type 0 where
  pub place : ℕ
  pub within : place < length ws
  pub long : MOST_GOAL_LETTERS < length (slice_index_or ws place [])
  pub first : (earlier : ℕ) → earlier < place → length (slice_index_or ws earlier []) ≤ MOST_GOAL_LETTERS

first_of : (ws : List (List ℤ)) → has_long ws ≡ true → IsFirstLong ws
first_of [] e = absurd cc
first_of (w ∷ ws) e = by_long (nat_lt MOST_GOAL_LETTERS (length w)) refl e (first_of ws)
  where
    by_long : (b : Bool) → nat_lt MOST_GOAL_LETTERS (length w) ≡ b → (if b then true else has_long ws) ≡ true → (has_long ws ≡ true → IsFirstLong ws) → IsFirstLong (w ∷ ws)
    by_long true is f rest = record { place = 0; within = omega arith; long = ltb-true MOST_GOAL_LETTERS (length w) is; first = λ earlier h. absurd (omega (arith, h)) }
    by_long false is f rest =
        let r = rest f in
        record { place = suc r.place; within = let h = r.within in omega (arith, h); long = r.long; first = before r (ltb-false MOST_GOAL_LETTERS (length w) is) }
      where
        before : (r : IsFirstLong ws) → length w ≤ MOST_GOAL_LETTERS → (earlier : ℕ) → earlier < suc r.place → length (slice_index_or (w ∷ ws) earlier []) ≤ MOST_GOAL_LETTERS
        before r short zero h = short
        before r short (suc earlier) h = r.first earlier (omega (arith, h))

-- goals that are not refused
pub not_many : (goals : List (List ℤ)) → ((count : ℕ) → AreTooMany goals count → ⊥) → nat_lt MOST_GOALS (length goals) ≡ false
not_many goals no_many = by_less (nat_lt MOST_GOALS (length goals)) refl
  where
    by_less : (r : Bool) → nat_lt MOST_GOALS (length goals) ≡ r → nat_lt MOST_GOALS (length goals) ≡ false
    by_less false e = e
    by_less true e = absurd (no_many (length goals) (record { all = refl; many = ltb-true MOST_GOALS (length goals) e }))

pub not_long : (goals : List (List ℤ)) → nat_lt MOST_GOALS (length goals) ≡ false → ((goal letters : ℕ) → IsFirstTooLong goals goal letters → ⊥) → has_long goals ≡ false
not_long goals few no_long = by_long (has_long goals) refl
  where
    by_long : (r : Bool) → has_long goals ≡ r → has_long goals ≡ false
    by_long false e = e
    by_long true e =
        let first = first_of goals e in
        absurd (no_long first.place (length (slice_index_or goals first.place []))
        (record { few = ltb-false MOST_GOALS (length goals) few; there = first.within; written = refl; long = first.long; first = first.first }))

-- the Ask of a question is the one that is meant
form_is : (m : ℕ) (w v : List ℤ) → IsOver m w → IsFormOf w v → v ≡ free_form w
form_is m w v over form = sym (free_form-reduced v form.reduced) ∙ sym (same_form m w v (form.equal m over))

forms_are : (m : ℕ) (ws goals : List (List ℤ)) → Each (IsOver m) ws → AllZip IsFormOf ws goals → goals ≡ map free_form ws
forms_are m [] [] over forms = refl
forms_are m [] (v ∷ goals) over forms = absurd forms
forms_are m (w ∷ ws) [] over forms = absurd forms
forms_are m (w ∷ ws) (v ∷ goals) over forms =
    ap (λ (x : List ℤ). x ∷ goals) (form_is m w v over.0 forms.0) ∙ ap (λ (xs : List (List ℤ)). free_form w ∷ xs) (forms_are m ws goals over.1 forms.1)

abbrev inquiry : Group → List (List ℤ) → List (List ℤ) → Inquiry
inquiry group subgroup goals = record { group = group; subgroup = subgroup; goals = goals }

pub ask_is : (q : Question) (ask : Inquiry) → IsFit q → IsAskOf q ask → ask ≡ ask_for q
ask_is q ask fit is =
    ap (λ (g : Group). inquiry g ask.subgroup ask.goals) is.group
    ∙ (ap (λ (ws : List (List ℤ)). inquiry (group_of q) ws ask.goals) is.subgroup
    ∙ ap (λ (ws : List (List ℤ)). inquiry (group_of q) (subgroup_of q) ws) (forms_are (group_of q).generators (goals_of q) ask.goals (goals_over q fit) is.goals))

-- what is answered of an Ask
module _ (scope : Scope) (n : Named) (a : Asking) (q : Question) (same : content_of q ≡ content_of a.question) (fit : IsFit q) where
  pub many_answer : IsPresented (group_of q) → (count : ℕ) → AreTooMany (goals_of q) count → IsFirst (too_large scope n (Some a)) (record { place = n.place; cause = cause.TooMany })
  many_answer presented count h =
      let e : goals_of q ≡ goals_of a.question = goals_agree q a.question same in
      let many : MOST_GOALS < length (goals_of q) = omega (arith, h.all, h.many) in
      is_many scope n a (subst (λ (gs : List (List ℤ)). has_long gs ≡ false) e (many_short q fit presented many))
      (subst (λ (gs : List (List ℤ)). nat_lt MOST_GOALS (length gs) ≡ true) e (lt-ltb MOST_GOALS (length (goals_of q)) many))

  pub long_answer : (goal letters : ℕ) → IsFirstTooLong (goals_of q) goal letters → IsFirst (too_large scope n (Some a)) (record { place = n.place; cause = cause.WordTooLong })
  long_answer goal letters h =
      let long : MOST_GOAL_LETTERS < length (slice_index_or (goals_of q) goal []) = omega (arith, h.written, h.long) in
      is_long scope n a (subst (λ (gs : List (List ℤ)). has_long gs ≡ true) (goals_agree q a.question same) (long_there (goals_of q) goal h.there long))

  module _ (letters : ℕ) (ask : Inquiry) (before : scope.letters ≡ letters) (is : IsAskOf q ask)
      (no_many : (count : ℕ) → AreTooMany (goals_of q) count → ⊥) (no_long : (goal size : ℕ) → IsFirstTooLong (goals_of q) goal size → ⊥) (few : letters ≤ ASK_LETTER_LIMIT) where
    asked : ask ≡ ask_for a.question
    asked = ask_is q ask fit is ∙ asks_agree q a.question same

    not_too_many : nat_lt MOST_GOALS (length (goals_of a.question)) ≡ false
    not_too_many = subst (λ (gs : List (List ℤ)). nat_lt MOST_GOALS (length gs) ≡ false) (goals_agree q a.question same) (not_many (goals_of q) no_many)

    not_too_long : has_long (goals_of a.question) ≡ false
    not_too_long = subst (λ (gs : List (List ℤ)). has_long gs ≡ false) (goals_agree q a.question same) (not_long (goals_of q) (not_many (goals_of q) no_many) no_long)

    pub fits_answer : (left : ℕ) → left + ask_letters ask ≡ ASK_LETTER_LIMIT - letters →
        IsCounted scope.letters a.question (record { ask = ask; letters = ASK_LETTER_LIMIT - letters - left }) × (too_large scope n (Some a) ≡ [])
    fits_answer left h =
        let k : ask_letters ask ≡ ask_letters (ask_for a.question) = ap ask_letters asked in (
          record { ask = asked; count = omega (arith, h, k); few = omega (arith, h, few, before) },
          is_small scope n a not_too_long not_too_many (ltb-not ASK_LETTER_LIMIT (scope.letters + ask_letters (ask_for a.question)) (omega (arith, h, k, few, before))),
        )

    pub full_answer : ASK_LETTER_LIMIT - letters < ask_letters ask → IsFirst (too_large scope n (Some a)) (record { place = n.place; cause = cause.TooMany })
    full_answer h =
        let k : ask_letters ask ≡ ask_letters (ask_for a.question) = ap ask_letters asked in
        is_full scope n a not_too_long not_too_many (lt-ltb ASK_LETTER_LIMIT (scope.letters + ask_letters (ask_for a.question)) (omega (arith, h, k, few, before)))
