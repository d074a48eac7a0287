-- What can be read begins a word, and what begins a word can be read.
use Rattle.std.proofs.Common.{◌≡◌, ◌⊎◌, inl, inr, ⊎_elim, zero, suc, true, false, List, [], ◌∷◌, ◌++◌, Option, Some, None, option_and_then, refl, sym, ap, subst, ◌∙◌, append_assoc, append-nil}
use Rattle.mg_lex.specs.declared.mark.Mark.TheVariants as mark
use Rattle.mg_terms.specs.declared.lexeme.Lexeme.{Lexeme}
use Rattle.mg_terms.specs.declared.lexeme.Lexeme.TheVariants as lexeme
use Rattle.mg_terms.specs.Word.{name, one, round, commutator, Factor, bare, power, Word, single, times, word_lexemes}
use Rattle.mg_terms.specs.Beginning.{IsBeginning, GoesOn, EndsBefore, BeginsBase, EndsBare, CanFollow}
use Rattle.mg_terms.specs.Reading.{Before, none, after, in_round, in_left, in_right, Frame, frame, Stand, front, behind, caret, minus, whole, State, state, joined, begin_step, whole_step, step, run, start, frames_lexemes, stand_lexemes, state_lexemes}
use Rattle.mg_terms.proofs.Machine.{joined_lexemes, step_reads, if_some, ended, ended_step}
use Rattle.mg_terms.proofs.Unique.{word_reads, one_word}

-- a chain that gives a value, link by link
pub chained : {A B : Type 0} (f : A → Option B) (o : Option A) (y : B) → option_and_then f o ≡ Some y → (a : A) × (o ≡ Some a) × (f a ≡ Some y)
chained f None y e = absurd cc
chained f (Some a) y e = (a, refl, e)

pub run_append : (xs ys : List Lexeme) (s : State) → run s (xs ++ ys) ≡ option_and_then (λ t. run t ys) (run s xs)
run_append [] ys s = refl
run_append (x ∷ xs) ys s =
    elim (step s x) as (λ o. option_and_then (λ t. run t (xs ++ ys)) o ≡ option_and_then (λ t. run t ys) (option_and_then (λ t. run t xs) o))
    [ None ↦ refl | Some t ↦ run_append xs ys t ]

-- a run has read its lexemes
pub run_reads : (xs : List Lexeme) (s t : State) → run s xs ≡ Some t → state_lexemes t ≡ state_lexemes s ++ xs
run_reads [] s t e = let same : s ≡ t = cc in ap state_lexemes (sym same) ∙ sym (append-nil (state_lexemes s))
run_reads (x ∷ xs) s t e =
    let next = chained (λ u. run u xs) (step s x) t e in
    run_reads xs next.0 t next.2
    ∙ ap (λ ys. ys ++ xs) (if_some (λ u. state_lexemes u ≡ state_lexemes s ++ x ∷ []) (step s x) next.0 next.1 (step_reads s x))
    ∙ append_assoc (state_lexemes s) (x ∷ []) xs

-- the word that closes what is open, and the lexemes that do
abbrev pub filled : Stand → Word
filled (front before) = joined before (bare name)
filled (behind before b) = joined before (bare b)
filled (caret before b) = joined before (power b false 1)
filled (minus before b) = joined before (power b true 1)
filled (whole w) = w

abbrev pub filling : Stand → List Lexeme
filling (front before) = lexeme.Name ∷ []
filling (behind before b) = []
filling (caret before b) = lexeme.Number 1 ∷ []
filling (minus before b) = lexeme.Number 1 ∷ []
filling (whole w) = []

abbrev pub framed : List Frame → Word → Word
framed [] w = w
framed (frame before in_round ∷ fs) w = framed fs (joined before (bare (round w)))
framed (frame before in_left ∷ fs) w = framed fs (joined before (bare (commutator w (single (bare name)))))
framed (frame before (in_right u) ∷ fs) w = framed fs (joined before (bare (commutator u w)))

abbrev pub closing : List Frame → List Lexeme
closing [] = []
closing (frame before in_round ∷ fs) = lexeme.Mark mark.CloseRound ∷ closing fs
closing (frame before in_left ∷ fs) = lexeme.Mark mark.Comma ∷ lexeme.Name ∷ lexeme.Mark mark.CloseSquare ∷ closing fs
closing (frame before (in_right u) ∷ fs) = lexeme.Mark mark.CloseSquare ∷ closing fs

filled_lexemes : (s : Stand) → word_lexemes (filled s) ≡ stand_lexemes s ++ filling s
filled_lexemes (front before) = joined_lexemes before (bare name)
filled_lexemes (behind before b) = joined_lexemes before (bare b) ∙ sym (append-nil (stand_lexemes (behind before b)))
filled_lexemes (caret before b) = joined_lexemes before (power b false 1) ∙ simp append_assoc
filled_lexemes (minus before b) = joined_lexemes before (power b true 1) ∙ simp append_assoc
filled_lexemes (whole w) = sym (append-nil (word_lexemes w))

framed_lexemes : (fs : List Frame) (w : Word) → word_lexemes (framed fs w) ≡ frames_lexemes fs ++ (word_lexemes w ++ closing fs)
framed_lexemes [] w = sym (append-nil (word_lexemes w))
framed_lexemes (frame before in_round ∷ fs) w =
    let f : Factor = bare (round w) in
    framed_lexemes fs (joined before f) ∙ ap (λ xs. frames_lexemes fs ++ (xs ++ closing fs)) (joined_lexemes before f) ∙ simp append_assoc
framed_lexemes (frame before in_left ∷ fs) w =
    let f : Factor = bare (commutator w (single (bare name))) in
    framed_lexemes fs (joined before f) ∙ ap (λ xs. frames_lexemes fs ++ (xs ++ closing fs)) (joined_lexemes before f) ∙ simp append_assoc
framed_lexemes (frame before (in_right u) ∷ fs) w =
    let f : Factor = bare (commutator u w) in
    framed_lexemes fs (joined before f) ∙ ap (λ xs. frames_lexemes fs ++ (xs ++ closing fs)) (joined_lexemes before f) ∙ simp append_assoc

-- the word that completes a state
unfoldable pub completed : State → Word
completed (state fs s) = framed fs (filled s)

unfoldable pub completing : State → List Lexeme
completing (state fs s) = filling s ++ closing fs

pub completed_lexemes : (s : State) → word_lexemes (completed s) ≡ state_lexemes s ++ completing s
unfolding completed completing
completed_lexemes (state fs s) =
    framed_lexemes fs (filled s) ∙ ap (λ xs. frames_lexemes fs ++ (xs ++ closing fs)) (filled_lexemes s) ∙ simp append_assoc

-- the rest of a word is read from where its beginning leads
pub begun : (w : Word) (xs rest : List Lexeme) → word_lexemes w ≡ xs ++ rest → (s : State) × (run start xs ≡ Some s) × (run s rest ≡ Some (state [] (ended w)))
begun w xs rest e =
    chained (λ t. run t rest) (run start xs) (state [] (ended w)) (sym (run_append xs rest start) ∙ ap (run start) (sym e) ∙ word_reads w)

pub read_begins : (xs : List Lexeme) (s : State) → run start xs ≡ Some s → IsBeginning xs
read_begins xs s e = (completed s, completing s, completed_lexemes s ∙ ap (λ ys. ys ++ completing s) (run_reads xs start s e))

pub begins_read : (xs : List Lexeme) → IsBeginning xs → (s : State) × (run start xs ≡ Some s)
begins_read xs begins = let h = begun begins.0 xs begins.1 begins.2 in (h.0, h.1)

-- one lexeme more
pub run_more : (xs : List Lexeme) (x : Lexeme) (s : State) → run start xs ≡ Some s → run start (xs ++ x ∷ []) ≡ option_and_then (λ t. run t []) (step s x)
run_more xs x s e = run_append xs (x ∷ []) start ∙ ap (option_and_then (λ t. run t (x ∷ []))) e

pub read_more : (xs : List Lexeme) (x : Lexeme) (s t : State) → run start xs ≡ Some s → step s x ≡ Some t → run start (xs ++ x ∷ []) ≡ Some t
read_more xs x s t e f = run_more xs x s e ∙ ap (option_and_then (λ t. run t [])) f

pub stepped : (xs : List Lexeme) (x : Lexeme) (s : State) → run start xs ≡ Some s → IsBeginning (xs ++ x ∷ []) → (t : State) × (step s x ≡ Some t)
stepped xs x s e begins =
    let h = begins_read (xs ++ x ∷ []) begins in
    let next = chained (λ t. run t []) (step s x) h.0 (sym (run_more xs x s e) ∙ h.1) in
    (next.0, next.1)

pub no_more : (xs : List Lexeme) (x : Lexeme) (s : State) → run start xs ≡ Some s → step s x ≡ None → ¬ IsBeginning (xs ++ x ∷ [])
no_more xs x s e f begins = let h = stepped xs x s e begins in let clash = sym f ∙ h.1 in absurd cc

-- which lexemes are read behind a word
begin_step_some : (fs : List Frame) (before : Before) (x : Lexeme) (t : State) → begin_step fs before x ≡ Some t → BeginsBase x
begin_step_some fs before lexeme.Name t e = tt
begin_step_some fs before (lexeme.Number (suc zero)) t e = refl
begin_step_some fs before (lexeme.Mark mark.OpenRound) t e = inl refl
begin_step_some fs before (lexeme.Mark mark.OpenSquare) t e = inr refl
begin_step_some fs before _ t e = absurd cc

whole_step_some : (w : Word) (x : Lexeme) (t : State) → whole_step [] w x ≡ Some t → (x ≡ lexeme.Mark mark.Star) ⊎ BeginsBase x
whole_step_some w (lexeme.Mark mark.Star) t e = inl refl
whole_step_some w (lexeme.Mark mark.CloseRound) t e = absurd cc
whole_step_some w (lexeme.Mark mark.Comma) t e = absurd cc
whole_step_some w (lexeme.Mark mark.CloseSquare) t e = absurd cc
whole_step_some w x t e = inr (begin_step_some [] (after w false) x t e)

caret_some : (w : Word) (t : State) → step (state [] (ended w)) (lexeme.Mark mark.Caret) ≡ Some t → EndsBare w
caret_some (single (bare b)) t e = tt
caret_some (single (power b negative n)) t e = absurd cc
caret_some (times w star (bare b)) t e = tt
caret_some (times w star (power b negative n)) t e = absurd cc

step_some : (w : Word) (x : Lexeme) (t : State) → step (state [] (ended w)) x ≡ Some t → CanFollow w x
step_some w (lexeme.Mark mark.Caret) t e = inr (inr (refl, caret_some w t e))
step_some w x t e = ⊎_elim (λ star. inl star) (λ base. inr (inl base)) (whole_step_some w x t (sym (ended_step [] w x (λ same. cc)) ∙ e))

pub follows : (w : Word) (x : Lexeme) → GoesOn w x → CanFollow w x
follows w x goes =
    let h = stepped (word_lexemes w) x (state [] (ended w)) (word_reads w) goes in
    step_some w x h.0 h.1

goes_on : (w : Word) (x : Lexeme) (t : State) → step (state [] (ended w)) x ≡ Some t → GoesOn w x
goes_on w x t e = read_begins (word_lexemes w ++ x ∷ []) t (read_more (word_lexemes w) x (state [] (ended w)) t (word_reads w) e)

begin_step_takes : (fs : List Frame) (before : Before) (x : Lexeme) → BeginsBase x → (t : State) × (begin_step fs before x ≡ Some t)
begin_step_takes fs before lexeme.Name base = (state fs (behind before name), refl)
begin_step_takes fs before (lexeme.Number n) base = (state fs (behind before one), ap (λ m. begin_step fs before (lexeme.Number m)) base)
begin_step_takes fs before (lexeme.Mark m) base =
    ⊎_elim (λ e. (state (frame before in_round ∷ fs) (front none), ap (λ k. begin_step fs before (lexeme.Mark k)) e))
    (λ e. (state (frame before in_left ∷ fs) (front none), ap (λ k. begin_step fs before (lexeme.Mark k)) e)) base
begin_step_takes fs before (lexeme.Keyword k) base = absurd base
begin_step_takes fs before lexeme.RelatorSign base = absurd base

whole_step_begins : (w : Word) (x : Lexeme) → BeginsBase x → step (state [] (ended w)) x ≡ begin_step [] (after w false) x
whole_step_begins w lexeme.Name base = ended_step [] w lexeme.Name (λ same. cc)
whole_step_begins w (lexeme.Number n) base = ended_step [] w (lexeme.Number n) (λ same. cc)
whole_step_begins w (lexeme.Mark mark.OpenRound) base = ended_step [] w (lexeme.Mark mark.OpenRound) (λ same. cc)
whole_step_begins w (lexeme.Mark mark.OpenSquare) base = ended_step [] w (lexeme.Mark mark.OpenSquare) (λ same. cc)
whole_step_begins w (lexeme.Mark _) base = absurd (⊎_elim (λ e. cc) (λ e. cc) base)
whole_step_begins w (lexeme.Keyword k) base = absurd base
whole_step_begins w lexeme.RelatorSign base = absurd base

caret_takes : (w : Word) → EndsBare w → GoesOn w (lexeme.Mark mark.Caret)
caret_takes (single (bare b)) bare_end = goes_on (single (bare b)) (lexeme.Mark mark.Caret) (state [] (caret none b)) refl
caret_takes (single (power b negative n)) bare_end = absurd bare_end
caret_takes (times w star (bare b)) bare_end = goes_on (times w star (bare b)) (lexeme.Mark mark.Caret) (state [] (caret (after w star) b)) refl
caret_takes (times w star (power b negative n)) bare_end = absurd bare_end

star_takes : (w : Word) → GoesOn w (lexeme.Mark mark.Star)
star_takes w = goes_on w (lexeme.Mark mark.Star) (state [] (front (after w true))) (ended_step [] w (lexeme.Mark mark.Star) (λ same. cc))

base_takes : (w : Word) (x : Lexeme) → BeginsBase x → GoesOn w x
base_takes w x base =
    let h = begin_step_takes [] (after w false) x base in
    goes_on w x h.0 (whole_step_begins w x base ∙ h.1)

pub can_follow : (w : Word) (x : Lexeme) → CanFollow w x → GoesOn w x
can_follow w x can =
    ⊎_elim (λ star. subst (GoesOn w) (sym star) (star_takes w))
    (λ other. ⊎_elim (λ base. base_takes w x base) (λ exponent. subst (GoesOn w) (sym exponent.0) (caret_takes w exponent.1)) other) can

-- where two lists are one, one of two beginnings begins the other
pub overlap : (xs ys as' bs : List Lexeme) → xs ++ as' ≡ ys ++ bs → ((cs : List Lexeme) × (ys ≡ xs ++ cs) × (as' ≡ cs ++ bs)) ⊎ ((cs : List Lexeme) × (xs ≡ ys ++ cs) × (bs ≡ cs ++ as'))
overlap [] ys as' bs e = inl (ys, refl, e)
overlap (x ∷ xs) [] as' bs e = inr (x ∷ xs, refl, sym e)
overlap (x ∷ xs) (y ∷ ys) as' bs e =
    let heads : x ≡ y = cc in
    let tails : xs ++ as' ≡ ys ++ bs = cc in
    ⊎_elim (λ h. inl (h.0, cc (heads, h.1), h.2)) (λ h. inr (h.0, cc (heads, h.1), h.2)) (overlap xs ys as' bs tails)

longer : (u v : Word) (cs xs ys : List Lexeme) → word_lexemes v ≡ word_lexemes u ++ cs → xs ≡ cs ++ ys → EndsBefore u xs → (u ≡ v) × (xs ≡ ys)
longer u v [] xs ys e f ends = (one_word u v (sym (e ∙ append-nil (word_lexemes u))), f)
longer u v (x ∷ cs) xs ys e f ends =
    absurd (subst (EndsBefore u) f ends (v, cs, e ∙ sym (append_assoc (word_lexemes u) (x ∷ []) cs)))

pub one_end : (u v : Word) (xs ys : List Lexeme) → word_lexemes u ++ xs ≡ word_lexemes v ++ ys → EndsBefore u xs → EndsBefore v ys → (u ≡ v) × (xs ≡ ys)
one_end u v xs ys e u_ends v_ends =
    ⊎_elim (λ h. longer u v h.0 xs ys h.1 h.2 u_ends) (λ h. let k = longer v u h.0 ys xs h.1 h.2 v_ends in (sym k.0, sym k.1)) (overlap (word_lexemes u) (word_lexemes v) xs ys e)
