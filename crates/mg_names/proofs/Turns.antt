-- How questions are told apart by what stands behind their words.
use Rattle.std.proofs.Common.{◌≡◌, ◌≢◌, Bool, true, false, not, Some, List, [], ◌∷◌, ◌++◌, drop, refl, sym, ap, subst, ◌∙◌, append_assoc}
use Rattle.mg_lex.specs.declared.keyword.Keyword.TheVariants as keyword
use Rattle.mg_lex.specs.declared.mark.Mark.TheVariants as mark
use Rattle.mg_terms.specs.declared.lexeme.Lexeme.{Lexeme}
use Rattle.mg_terms.specs.declared.lexeme.Lexeme.TheVariants as lexeme
use Rattle.mg_script.specs.declared.form.Property.{Property}
use Rattle.mg_script.specs.declared.form.Property.TheVariants as property
use Rattle.mg_script.specs.Statement.{property_keyword}
use Rattle.mg_names.specs.declared.asking.Form.TheVariants as form
use Rattle.mg_names.specs.Named.{Named, Base, named, one, round, commutator, Factor, bare, power, Word, single, times, Question, equal, member, vanishes, central, has}
use Rattle.mg_names.specs.Sign.{Sign, a_name, sign_lexeme, first_lexeme, Stops, the_mark, the_keyword, the_number, minus_signs, star_signs, base_signs, factor_signs, word_signs, question_signs, EndsWithName}
use Rattle.mg_names.specs.Turn.{is_turn, is_before_turn, turn_or, turn, is_one, IsOneAhead}
use Rattle.mg_names.specs.Asked.{form_of}
use Rattle.mg_names.proofs.Members.{none_right}
use Rattle.mg_names.proofs.Tails.{head_of, tail_of, tail_signs, word_ahead, tail_ended}

-- words have no turn
minus_turn : (negative : Bool) (ss : List Sign) → turn (minus_signs negative ++ ss) ≡ turn ss
minus_turn true ss = refl
minus_turn false ss = refl

star_turn : (star : Bool) (ss : List Sign) → turn (star_signs star ++ ss) ≡ turn ss
star_turn true ss = refl
star_turn false ss = refl

mutual
  base_turn : (b : Base) (ss : List Sign) → turn (base_signs b ++ ss) ≡ turn ss
  base_turn (named n) ss = refl
  base_turn one ss = refl
  base_turn (round w) ss = ap turn (append_assoc (word_signs w) (the_mark mark.CloseRound ∷ []) ss) ∙ word_turn w (the_mark mark.CloseRound ∷ ss)
  base_turn (commutator u v) ss =
      ap turn (append_assoc (word_signs u) (the_mark mark.Comma ∷ (word_signs v ++ the_mark mark.CloseSquare ∷ [])) ss)
      ∙ (word_turn u (the_mark mark.Comma ∷ ((word_signs v ++ the_mark mark.CloseSquare ∷ []) ++ ss))
      ∙ (ap turn (append_assoc (word_signs v) (the_mark mark.CloseSquare ∷ []) ss) ∙ word_turn v (the_mark mark.CloseSquare ∷ ss)))

  factor_turn : (f : Factor) (ss : List Sign) → turn (factor_signs f ++ ss) ≡ turn ss
  factor_turn (bare b) ss = base_turn b ss
  factor_turn (power b negative n) ss =
      ap turn (append_assoc (base_signs b) (the_mark mark.Caret ∷ (minus_signs negative ++ the_number n ∷ [])) ss)
      ∙ (base_turn b (the_mark mark.Caret ∷ ((minus_signs negative ++ the_number n ∷ []) ++ ss))
      ∙ (ap turn (append_assoc (minus_signs negative) (the_number n ∷ []) ss) ∙ minus_turn negative (the_number n ∷ ss)))

  pub word_turn : (w : Word) (ss : List Sign) → turn (word_signs w ++ ss) ≡ turn ss
  word_turn (single f) ss = factor_turn f ss
  word_turn (times w star f) ss =
      ap turn (append_assoc (word_signs w) (star_signs star ++ factor_signs f) ss)
      ∙ (word_turn w ((star_signs star ++ factor_signs f) ++ ss)
      ∙ (ap turn (append_assoc (star_signs star) (factor_signs f) ss) ∙ (star_turn star (factor_signs f ++ ss) ∙ factor_turn f ss)))

-- going on to the turn
at_turn : (b : Bool) (here later : List Sign) → not b ≡ false → turn_or b here later ≡ here
at_turn true here later e = refl
at_turn false here later e = absurd cc

before_turn : (b : Bool) (here later : List Sign) → not b ≡ true → later ≡ turn_or b here later
before_turn true here later e = absurd cc
before_turn false here later e = refl

pub turn_here : (ss : List Sign) → is_before_turn ss ≡ false → turn ss ≡ ss
turn_here [] e = refl
turn_here (s ∷ ss) e = at_turn (is_turn (sign_lexeme s)) (s ∷ ss) (turn ss) e

pub turn_later : (ss : List Sign) → is_before_turn ss ≡ true → turn (drop 1 ss) ≡ turn ss
turn_later [] e = absurd cc
turn_later (s ∷ ss) e = before_turn (is_turn (sign_lexeme s)) (s ∷ ss) (turn ss) e

-- what stands behind the words on the left of a question
abbrev pub turn_signs : Question → List Sign
turn_signs (equal u v g) = the_mark mark.Equals ∷ (word_signs v ++ the_keyword keyword.In ∷ a_name g ∷ [])
turn_signs (member w h) = the_keyword keyword.In ∷ a_name h ∷ []
turn_signs (vanishes w f) = the_keyword keyword.In ∷ the_keyword keyword.Kernel ∷ a_name f ∷ []
turn_signs (central w g) = the_keyword keyword.Central ∷ the_keyword keyword.In ∷ a_name g ∷ []
turn_signs (has n p) = the_keyword (property_keyword p) ∷ []

pub question_turn : (q : Question) → turn (question_signs q) ≡ turn_signs q
question_turn (equal u v g) = word_turn u (turn_signs (equal u v g))
question_turn (member w h) = word_turn w (turn_signs (member w h))
question_turn (vanishes w f) = word_turn w (turn_signs (vanishes w f))
question_turn (central w g) = word_turn w (turn_signs (central w g))
question_turn (has n p) = refl

pub turned : (ss rest : List Sign) (q : Question) → rest ≡ turn ss → ss ≡ question_signs q → rest ≡ turn_signs q
turned ss rest q t e = t ∙ (ap turn e ∙ question_turn q)

-- no property is written with these
no_in : (p : Property) → property_keyword p ≢ keyword.In
no_in property.Trivial e = cc
no_in property.Abelian e = cc
no_in property.Normal e = cc
no_in property.Extends e = cc
no_in property.Onto e = cc

no_central : (p : Property) → property_keyword p ≢ keyword.Central
no_central property.Trivial e = cc
no_central property.Abelian e = cc
no_central property.Normal e = cc
no_central property.Extends e = cc
no_central property.Onto e = cc

first_is : (ss : List Sign) (q : Question) {x : Lexeme} → ss ≡ turn_signs q → first_lexeme ss ≡ Some x → first_lexeme (turn_signs q) ≡ Some x
first_is ss q e f = sym (ap first_lexeme e) ∙ f

module _ (rest : List Sign) where
  pub equality_told : (q : Question) → rest ≡ turn_signs q → first_lexeme rest ≡ Some (lexeme.Mark mark.Equals) → form.Equality ≡ form_of q
  equality_told (equal u v g) e f = refl
  equality_told (member w h) e f = let k = first_is rest (member w h) e f in absurd cc
  equality_told (vanishes w g) e f = let k = first_is rest (vanishes w g) e f in absurd cc
  equality_told (central w g) e f = let k = first_is rest (central w g) e f in absurd cc
  equality_told (has n p) e f = let k = first_is rest (has n p) e f in absurd cc

  pub centrality_told : (q : Question) → rest ≡ turn_signs q → first_lexeme rest ≡ Some (lexeme.Keyword keyword.Central) → form.Centrality ≡ form_of q
  centrality_told (equal u v g) e f = let k = first_is rest (equal u v g) e f in absurd cc
  centrality_told (member w h) e f = let k = first_is rest (member w h) e f in absurd cc
  centrality_told (vanishes w g) e f = let k = first_is rest (vanishes w g) e f in absurd cc
  centrality_told (central w g) e f = refl
  centrality_told (has n p) e f =
      let k = first_is rest (has n p) e f in
      let same : property_keyword p ≡ keyword.Central = cc in
      absurd (no_central p same)

  pub property_told : (q : Question) → rest ≡ turn_signs q → first_lexeme rest ≢ Some (lexeme.Mark mark.Equals) → first_lexeme rest ≢ Some (lexeme.Keyword keyword.Central) →
      first_lexeme rest ≢ Some (lexeme.Keyword keyword.In) → form.Property ≡ form_of q
  property_told (equal u v g) e equals middle inside = absurd (equals (ap first_lexeme e))
  property_told (member w h) e equals middle inside = absurd (inside (ap first_lexeme e))
  property_told (vanishes w g) e equals middle inside = absurd (inside (ap first_lexeme e))
  property_told (central w g) e equals middle inside = absurd (middle (ap first_lexeme e))
  property_told (has n p) e equals middle inside = refl

  pub kernel_told : (q : Question) (behind : List Sign) → rest ≡ turn_signs q → behind ≡ drop 1 rest → first_lexeme rest ≡ Some (lexeme.Keyword keyword.In) →
      first_lexeme behind ≡ Some (lexeme.Keyword keyword.Kernel) → form.InKernel ≡ form_of q
  kernel_told (equal u v g) behind e d f h = let k = first_is rest (equal u v g) e f in absurd cc
  kernel_told (member w g) behind e d f h =
      let k : first_lexeme (a_name g ∷ []) ≡ Some (lexeme.Keyword keyword.Kernel) = sym (ap first_lexeme (d ∙ ap (drop 1) e)) ∙ h in absurd cc
  kernel_told (vanishes w g) behind e d f h = refl
  kernel_told (central w g) behind e d f h = let k = first_is rest (central w g) e f in absurd cc
  kernel_told (has n p) behind e d f h =
      let k = first_is rest (has n p) e f in
      let same : property_keyword p ≡ keyword.In = cc in
      absurd (no_in p same)

  pub membership_told : (q : Question) (behind : List Sign) → rest ≡ turn_signs q → behind ≡ drop 1 rest → first_lexeme rest ≡ Some (lexeme.Keyword keyword.In) →
      first_lexeme behind ≢ Some (lexeme.Keyword keyword.Kernel) → form.Membership ≡ form_of q
  membership_told (equal u v g) behind e d f h = let k = first_is rest (equal u v g) e f in absurd cc
  membership_told (member w g) behind e d f h = refl
  membership_told (vanishes w g) behind e d f h = absurd (h (ap first_lexeme (d ∙ ap (drop 1) e)))
  membership_told (central w g) behind e d f h = let k = first_is rest (central w g) e f in absurd cc
  membership_told (has n p) behind e d f h =
      let k = first_is rest (has n p) e f in
      let same : property_keyword p ≡ keyword.In = cc in
      absurd (no_in p same)

-- the number 1 alone
one_factor : (f : Factor) (ss : List Sign) → IsOneAhead (factor_signs f ++ ss) → (f ≡ bare one) × Stops ss
one_factor (bare (named n)) ss h = let k = h.0 in absurd cc
one_factor (bare one) ss h = (refl, h.1)
one_factor (bare (round w)) ss h = let k = h.0 in absurd cc
one_factor (bare (commutator u v)) ss h = let k = h.0 in absurd cc
one_factor (power (named n) negative k) ss h = let e = h.0 in absurd cc
one_factor (power one negative k) ss h = let e : true ≡ false = h.1 in absurd cc
one_factor (power (round w) negative k) ss h = let e = h.0 in absurd cc
one_factor (power (commutator u v) negative k) ss h = let e = h.0 in absurd cc

one_whole : (v : Word) → head_of v ≡ bare one → tail_of v ≡ [] → is_one v ≡ true
one_whole (single f) e none = ap (λ (g : Factor). is_one (single g)) e
one_whole (times w star f) e none = let h : ◌≡◌ {A = List (Bool × Factor)} ((star, f) ∷ []) [] = none_right (tail_of w) ((star, f) ∷ []) none in absurd cc

pub one_told : (v : Word) (rest : List Sign) → Stops rest → IsOneAhead (word_signs v ++ rest) → is_one v ≡ true
one_told v rest stops h =
    let first = one_factor (head_of v) (tail_signs (tail_of v) ++ rest) (subst IsOneAhead (word_ahead (word_signs v ++ rest) v rest refl) h) in
    one_whole v first.0 (tail_ended (tail_of v) rest first.1)

pub one_ahead : (v : Word) (rest : List Sign) → Stops rest → is_one v ≡ true → IsOneAhead (word_signs v ++ rest)
one_ahead (single (bare (named n))) rest stops e = absurd cc
one_ahead (single (bare one)) rest stops e = (refl, stops)
one_ahead (single (bare (round w))) rest stops e = absurd cc
one_ahead (single (bare (commutator u v))) rest stops e = absurd cc
one_ahead (single (power b negative n)) rest stops e = absurd cc
one_ahead (times w star f) rest stops e = absurd cc

pub not_one : (v : Word) (rest : List Sign) → Stops rest → (IsOneAhead (word_signs v ++ rest) → ⊥) → is_one v ≡ false
not_one v rest stops no_ahead = by_one (is_one v) refl
  where
    by_one : (b : Bool) → is_one v ≡ b → is_one v ≡ false
    by_one true e = absurd (no_ahead (one_ahead v rest stops e))
    by_one false e = e

-- the name at the end
abbrev pub last_sign : Sign → List Sign → Sign
last_sign s [] = s
last_sign s (t ∷ ss) = last_sign t ss

last_behind : (xs : List Sign) (s t : Sign) → last_sign s (xs ++ t ∷ []) ≡ t
last_behind [] s t = refl
last_behind (x ∷ xs) s t = last_behind xs x t

ends_of : (xs ys : List Sign) (m n : Named) (ss : List Sign) → ss ≡ xs ++ a_name m ∷ [] → ss ≡ ys ++ a_name n ∷ [] → m ≡ n
ends_of xs ys m n ss e f =
    let same : a_name m ≡ a_name n =
    sym (last_behind xs (a_name m) (a_name m)) ∙ (ap (last_sign (a_name m)) (sym e ∙ f) ∙ last_behind ys (a_name m) (a_name n)) in
    cc

-- what is read at the end is the name there
abbrev pub EndsWith : List Sign → Named → Type 0
EndsWith ss n = (front : List Sign) × (ss ≡ front ++ a_name n ∷ [])

pub equality_end : (u v : Word) (g : Named) → EndsWith (question_signs (equal u v g)) g
equality_end u v g = (word_signs u ++ the_mark mark.Equals ∷ (word_signs v ++ the_keyword keyword.In ∷ []), simp append_assoc)

pub membership_end : (w : Word) (h : Named) → EndsWith (question_signs (member w h)) h
membership_end w h = (word_signs w ++ the_keyword keyword.In ∷ [], simp append_assoc)

pub kernel_end : (w : Word) (f : Named) → EndsWith (question_signs (vanishes w f)) f
kernel_end w f = (word_signs w ++ the_keyword keyword.In ∷ the_keyword keyword.Kernel ∷ [], simp append_assoc)

pub centrality_end : (w : Word) (g : Named) → EndsWith (question_signs (central w g)) g
centrality_end w g = (word_signs w ++ the_keyword keyword.Central ∷ the_keyword keyword.In ∷ [], simp append_assoc)

pub same_end : (ss : List Sign) (m n : Named) (q : List Sign) → EndsWith ss m → ss ≡ q → EndsWith q n → m ≡ n
same_end ss m n q h e k = ends_of h.0 k.0 m n ss h.1 (e ∙ k.1)

pub ends_with : (ss q : List Sign) (n : Named) → ss ≡ q → EndsWith q n → EndsWithName ss
ends_with ss q n e k = (k.0, n, e ∙ k.1)
