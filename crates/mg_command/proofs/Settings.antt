-- Words begin with one setting only, and settings come to one thing only.
use Rattle.std.proofs.Common.{◌≡◌, ℕ, List, [], ◌∷◌, ◌++◌, refl, sym, ap, subst, get_or, arith, ◌∙◌, codes}
use Rattle.mg_command.specs.declared.command.PolicyName.{PolicyName}
use Rattle.mg_command.specs.declared.command.PolicyName.TheVariants.{Even, Doubling}
use Rattle.mg_command.specs.Words.{Setting, Workers, Policy, policy_text, option_text, IsValue, Begins, apart, joined, AreSettings, ComeTo, SaysRun}

-- a name of a policy is of one policy
one_policy : (p q : PolicyName) → policy_text p ≡ policy_text q → p ≡ q
one_policy Even Even e = refl
one_policy Doubling Doubling e = refl
one_policy Even Doubling e = absurd (cc e)
one_policy Doubling Even e = absurd (cc e)

-- two texts that differ at their third byte
pub differ : (xs ys : List ℕ) → get_or xs 2 0 ≡ 119 → get_or ys 2 0 ≡ 112 → xs ≡ ys → ⊥
differ xs ys h k e = let same : get_or xs 2 0 ≡ get_or ys 2 0 = ap (λ zs. get_or zs 2 0) e in absurd (omega (arith, h, k, same))

-- an option and a value make one setting
one_setting : (s t : Setting) (text : List ℕ) → option_text s ≡ option_text t → IsValue text s → IsValue text t → s ≡ t
one_setting (Workers n) (Workers m) text e h k = ap Workers (h.value ∙ sym k.value)
one_setting (Policy p) (Policy q) text e h k = ap Policy (one_policy p q (sym h ∙ k))
one_setting (Workers n) (Policy q) text e h k = absurd (cc e)
one_setting (Policy p) (Workers m) text e h k = absurd (cc e)

-- a word of its own is no option with an equals sign
not_both : (s t : Setting) (text : List ℕ) → option_text s ≡ option_text t ++ (codes "=" ++ text) → ⊥
not_both (Workers n) (Workers m) text e = cc e
not_both (Policy p) (Policy q) text e = cc e
not_both (Workers n) (Policy q) text e = differ _ _ refl refl e
not_both (Policy p) (Workers m) text e = differ _ _ refl refl (sym e)

-- what stands in one word is one option with one value
one_joined : (s t : Setting) (text other : List ℕ) → option_text s ++ (codes "=" ++ text) ≡ option_text t ++ (codes "=" ++ other) → (option_text s ≡ option_text t) × (text ≡ other)
one_joined (Workers n) (Workers m) text other e = (refl, cc e)
one_joined (Policy p) (Policy q) text other e = (refl, cc e)
one_joined (Workers n) (Policy q) text other e = absurd (differ _ _ refl refl e)
one_joined (Policy p) (Workers m) text other e = absurd (differ _ _ refl refl (sym e))

pub one_beginning : (words rest behind : List (List ℕ)) (s t : Setting) → Begins words s rest → Begins words t behind → (s ≡ t) × (rest ≡ behind)
one_beginning words rest behind s t (apart text h e) (apart other k f) =
    let all : option_text s ∷ text ∷ rest ≡ option_text t ∷ other ∷ behind = sym e ∙ f in
    let options : option_text s ≡ option_text t = cc all in
    let same : text ≡ other = cc all in
    (one_setting s t text options h (subst (λ (x : List ℕ). IsValue x t) (sym same) k), cc all)
one_beginning words rest behind s t (joined text h e) (joined other k f) =
    let all : (option_text s ++ (codes "=" ++ text)) ∷ rest ≡ (option_text t ++ (codes "=" ++ other)) ∷ behind = sym e ∙ f in
    let both = one_joined s t text other (cc all) in
    (one_setting s t text both.0 h (subst (λ (x : List ℕ). IsValue x t) (sym both.1) k), cc all)
one_beginning words rest behind s t (apart text h e) (joined other k f) =
    let all : option_text s ∷ text ∷ rest ≡ (option_text t ++ (codes "=" ++ other)) ∷ behind = sym e ∙ f in
    absurd (not_both s t other (cc all))
one_beginning words rest behind s t (joined text h e) (apart other k f) =
    let all : option_text t ∷ other ∷ behind ≡ (option_text s ++ (codes "=" ++ text)) ∷ rest = sym f ∙ e in
    absurd (not_both t s text (cc all))

-- no words begin with no setting
begins_some : (s : Setting) (rest : List (List ℕ)) → Begins [] s rest → ⊥
begins_some s rest (apart text h e) = cc e
begins_some s rest (joined text h e) = cc e

-- the words are one list of settings
pub one_list : (words : List (List ℕ)) (ss ts : List Setting) → AreSettings words ss → AreSettings words ts → ss ≡ ts
one_list words [] [] h k = refl
one_list words [] (t ∷ ts) h k = absurd (begins_some t k.0 (subst (λ (w : List (List ℕ)). Begins w t k.0) h k.1))
one_list words (s ∷ ss) [] h k = absurd (begins_some s h.0 (subst (λ (w : List (List ℕ)). Begins w s h.0) k h.1))
one_list words (s ∷ ss) (t ∷ ts) h k =
    let one = one_beginning words h.0 k.0 s t h.1 k.1 in
    let rest = one_list h.0 ss ts h.2 (subst (λ (w : List (List ℕ)). AreSettings w ts) (sym one.1) k.2) in
    cc (one.0, rest)

-- settings come to one number of workers and one policy
pub come_to_one : (ss : List Setting) (n m : ℕ) (p q : PolicyName) → ComeTo ss n p → ComeTo ss m q → (n ≡ m) × (p ≡ q)
come_to_one [] n m p q h k = (h.0 ∙ sym k.0, h.1 ∙ sym k.1)
come_to_one (Workers a ∷ []) n m p q h k = (h.0 ∙ sym k.0, h.1 ∙ sym k.1)
come_to_one (Policy a ∷ []) n m p q h k = (h.0 ∙ sym k.0, h.1 ∙ sym k.1)
come_to_one (Workers a ∷ Policy b ∷ []) n m p q h k = (h.0 ∙ sym k.0, h.1 ∙ sym k.1)
come_to_one (Policy a ∷ Workers b ∷ []) n m p q h k = (h.0 ∙ sym k.0, h.1 ∙ sym k.1)
come_to_one (Workers a ∷ Workers b ∷ ss) n m p q h k = absurd h
come_to_one (Policy a ∷ Policy b ∷ ss) n m p q h k = absurd h
come_to_one (Workers a ∷ Policy b ∷ c ∷ ss) n m p q h k = absurd h
come_to_one (Policy a ∷ Workers b ∷ c ∷ ss) n m p q h k = absurd h

-- three settings come to nothing
pub no_three : (s t u : Setting) (ss : List Setting) (n : ℕ) (p : PolicyName) → ComeTo (s ∷ t ∷ u ∷ ss) n p → ⊥
no_three (Workers a) (Workers b) u ss n p h = h
no_three (Policy a) (Policy b) u ss n p h = h
no_three (Workers a) (Policy b) u ss n p h = h
no_three (Policy a) (Workers b) u ss n p h = h

-- where words begin with no setting and are some, they say no run
pub no_beginning : (words : List (List ℕ)) → (words ≡ [] → ⊥) → ((s : Setting) (rest : List (List ℕ)) → Begins words s rest → ⊥) → (n : ℕ) (p : PolicyName) → SaysRun words n p → ⊥
no_beginning words some none n p ([], are, come) = some are
no_beginning words some none n p (s ∷ ss, are, come) = none s are.0 are.1

-- nor where what stands behind a first setting is some, and begins with none
pub no_second : (words rest : List (List ℕ)) (first : Setting) → Begins words first rest → (rest ≡ [] → ⊥) → ((s : Setting) (behind : List (List ℕ)) → Begins rest s behind → ⊥) → (n : ℕ) (p : PolicyName) → SaysRun words n p → ⊥
no_second words rest first begins some none n p ([], are, come) = begins_some first rest (subst (λ (w : List (List ℕ)). Begins w first rest) are begins)
no_second words rest first begins some none n p (s ∷ [], are, come) = some ((one_beginning words rest are.0 first s begins are.1).1 ∙ are.2)
no_second words rest first begins some none n p (s ∷ t ∷ ss, are, come) =
    none t are.2.0 (subst (λ (w : List (List ℕ)). Begins w t are.2.0) (sym (one_beginning words rest are.0 first s begins are.1).1) are.2.1)

-- words that begin with two settings say a run only where nothing stands behind these and they come to it
pub two_settings : (words rest behind : List (List ℕ)) (first second : Setting) → Begins words first rest → Begins rest second behind → (n : ℕ) (p : PolicyName) → SaysRun words n p → (behind ≡ []) × ComeTo (first ∷ second ∷ []) n p
two_settings words rest behind first second b c n p ([], are, come) = absurd (begins_some first rest (subst (λ (w : List (List ℕ)). Begins w first rest) are b))
two_settings words rest behind first second b c n p (s ∷ [], are, come) =
    absurd (begins_some second behind (subst (λ (w : List (List ℕ)). Begins w second behind) ((one_beginning words rest are.0 first s b are.1).1 ∙ are.2) c))
two_settings words rest behind first second b c n p (s ∷ t ∷ [], are, come) =
    let one = one_beginning words rest are.0 first s b are.1 in
    let two = one_beginning rest behind are.2.0 second t c (subst (λ (w : List (List ℕ)). Begins w t are.2.0) (sym one.1) are.2.1) in
    let list : s ∷ t ∷ [] ≡ first ∷ second ∷ [] = cc (one.0, two.0) in
    (two.1 ∙ are.2.2, subst (λ (ss : List Setting). ComeTo ss n p) list come)
two_settings words rest behind first second b c n p (s ∷ t ∷ u ∷ ss, are, come) = absurd (no_three s t u ss n p come)
