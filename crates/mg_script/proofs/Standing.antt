-- What has been read of a statement, and the first cause where nothing goes on with it.
use Rattle.std.proofs.Common.{◌≡◌, ◌⊎◌, inl, inr, ⊎_elim, ℕ, zero, suc, ◌+◌, ◌-◌, ◌<◌, ◌≤◌, Option, None, List, [], ◌∷◌, ◌++◌, length, take, refl, sym, ap, subst, ◌∙◌, arith, append_assoc, append-nil, length-append}
use Rattle.std.proofs.Math.Seq.{take-append_seam, take-append-add}
use Rattle.std.proofs.lemmas.Bool.{cases_lt}
use Rattle.std.proofs.lemmas.List.{append_cancel_left}
use Rattle.mg_lex.specs.declared.refusal.Cause.{Cause}
use Rattle.mg_lex.specs.declared.refusal.Cause.TheVariants as cause
use Rattle.mg_lex.specs.Cause.{cause_number}
use Rattle.mg_terms.specs.declared.lexeme.Lexeme.{Lexeme}
use Rattle.mg_terms.specs.Word.{Word, word_lexemes}
use Rattle.mg_terms.specs.Event.{Event, opens, ends}
use Rattle.mg_terms.specs.Cause as words
use Rattle.mg_script.specs.declared.counted.Counted.{Counted}
use Rattle.mg_script.specs.declared.counted.Counts.{Counts}
use Rattle.mg_script.specs.Statement.{Piece, sign, term, piece_lexemes, pieces_lexemes, statement_pieces, statement_lexemes}
use Rattle.mg_script.specs.Count.{Adds}
use Rattle.mg_script.specs.Cause.{IsStatement, IsBeginning, IsReach, IsOneTooMany, Shows, one_sign_too_many, one_word_too_many, in_word, long_relation, too_many_letters, IsShown, IsFaultless, IsFirstCause}
use Rattle.mg_script.specs.Grammar.{Class, IsIn, Rest, end, sign_then, either, statement_rest, Reads, reads_end, reads_sign, reads_first, reads_second, Begins, CanEnd, Tells}
use Rattle.mg_script.specs.Reader.{Start, IsWriting, BeginAlike, Stand}
use Rattle.mg_script.proofs.Rests.{sample, word_first, reads_begins, reads_nothing, sign_inv, either_inv}
use Rattle.mg_script.proofs.Written.{written, tree}
use Rattle.mg_script.proofs.Unique.{statement_tells}
use Rattle.mg_script.proofs.Reaches.{reach_past, one_reach}

pub pieces_append : (ps qs : List Piece) → pieces_lexemes (ps ++ qs) ≡ pieces_lexemes ps ++ pieces_lexemes qs
pieces_append [] qs = refl
pieces_append (p ∷ ps) qs = ap (λ xs. piece_lexemes p ++ xs) (pieces_append ps qs) ∙ sym (append_assoc (piece_lexemes p) (pieces_lexemes ps) (pieces_lexemes qs))

pub pieces_push : (ps : List Piece) (p : Piece) → pieces_lexemes (ps ++ p ∷ []) ≡ pieces_lexemes ps ++ piece_lexemes p
pieces_push ps p = pieces_append ps (p ∷ []) ∙ ap (λ xs. pieces_lexemes ps ++ xs) (append-nil (piece_lexemes p))

-- a piece of a list that is in two parts stands in one of them
pub split_at : (front back done ps : List Piece) (p : Piece) → front ++ p ∷ back ≡ done ++ ps →
    ((cs : List Piece) × (done ≡ front ++ p ∷ cs)) ⊎ ((cs : List Piece) × (front ≡ done ++ cs) × (ps ≡ cs ++ p ∷ back))
split_at [] back [] ps p e = inr ([], refl, sym e)
split_at [] back (d ∷ done) ps p e = inl (done, cc)
split_at (f ∷ front) back [] ps p e = inr (f ∷ front, refl, sym e)
split_at (f ∷ front) back (d ∷ done) ps p e =
    let heads : f ≡ d = cc in
    let tails : front ++ p ∷ back ≡ done ++ ps = cc in
    ⊎_elim (λ h. inl (h.0, cc (heads, h.1))) (λ h. inr (h.0, cc (heads, h.1), h.2)) (split_at front back done ps p tails)

pub word_length : (w : Word) → 1 ≤ length (word_lexemes w)
word_length w = let h = word_first w in omega (arith, ap length h.2)

pub piece_length : (p : Piece) → 1 ≤ length (piece_lexemes p)
piece_length (sign kind x) = omega arith
piece_length (term kind left w) = word_length w

-- no piece shows a cause before its first lexeme
pub shows_from : (counts : Counts) (xs : List Lexeme) (front : List Piece) (p : Piece) (q : ℕ) (c : Cause) → Shows counts xs front p q c → length (pieces_lexemes front) ≤ q
shows_from counts xs front _ _ _ (one_sign_too_many kind x p at_first many) = omega (arith, at_first)
shows_from counts xs front _ _ _ (one_word_too_many kind left w p at_first many) = omega (arith, at_first)
shows_from counts xs front _ _ _ (in_word kind left w p q c at_place shown) = omega (arith, at_place)
shows_from counts xs front _ _ _ (long_relation kind u v p whole long) = omega (arith, whole.last, word_length v)
shows_from counts xs front _ _ _ (too_many_letters kind left w p whole many apart) = omega (arith, whole.last, word_length w)

pub sign_shows : (counts : Counts) (xs : List Lexeme) (front : List Piece) (kind : Option Counted) (x : Lexeme) (q : ℕ) (c : Cause) → Shows counts xs front (sign kind x) q c →
    (q ≡ length (pieces_lexemes front)) × IsOneTooMany counts front kind × (c ≡ cause.TooMany)
sign_shows counts xs front _ _ _ _ (one_sign_too_many kind x p at_first many) = (at_first, many, refl)

pub sign_quiet : (counts : Counts) (xs : List Lexeme) (front : List Piece) (x : Lexeme) (q : ℕ) (c : Cause) → Shows counts xs front (sign None x) q c → ⊥
sign_quiet counts xs front x q c shows = (sign_shows counts xs front None x q c shows).1

-- the number of a cause that a piece shows is that of a word that is too long or more
pub shows_number : (counts : Counts) (xs : List Lexeme) (front : List Piece) (p : Piece) (q : ℕ) (c : Cause) → Shows counts xs front p q c → 6 ≤ cause_number c
shows_number counts xs front _ _ _ (one_sign_too_many kind x p at_first many) = omega arith
shows_number counts xs front _ _ _ (one_word_too_many kind left w p at_first many) = omega arith
shows_number counts xs front _ _ _ (in_word kind left w p q c at_place shown) = event_number shown.event q c shown.shows
  where
    event_number : (e : Event) (j : ℕ) (d : Cause) → words.Shows e j d → 6 ≤ cause_number d
    event_number (opens place depth) j d shows = subst (λ a. 6 ≤ cause_number a) (sym shows.0) (omega arith)
    event_number (ends count letters) j d shows = subst (λ a. 6 ≤ cause_number a) (sym shows.0) (omega arith)
shows_number counts xs front _ _ _ (long_relation kind u v p whole long) = omega arith
shows_number counts xs front _ _ _ (too_many_letters kind left w p whole many apart) = omega arith

pub alike_self : (xs : List Lexeme) → BeginAlike xs xs
alike_self [] = tt
alike_self (x ∷ xs) = refl

alike_front : (m : ℕ) (xs rest : List Lexeme) → 1 ≤ m → m ≤ length xs → BeginAlike xs (take m xs ++ rest)
alike_front zero xs rest some within = absurd (omega (arith, some))
alike_front (suc m) [] rest some within = absurd (omega (arith, within))
alike_front (suc m) (x ∷ xs) rest some within = refl

-- a statement whose lexemes begin with so many of those that are left
pub record Shared (r : Rest) (done qs : List Piece) (zs : List Lexeme) : Type 0 where
  pub pieces : List Piece
  pub split : qs ≡ done ++ pieces
  pub reads : Reads r pieces
  pub lexemes : pieces_lexemes pieces ≡ zs

pub shared : (s : Start) (r : Rest) (done : List Piece) (ahead : List Lexeme) → Stand s r done ahead → (qs : List Piece) (zs : List Lexeme) →
    IsWriting qs → pieces_lexemes qs ≡ pieces_lexemes done ++ zs → BeginAlike ahead zs → Shared r done qs zs
shared s r done ahead stand qs zs writing e alike =
    let h = stand.only qs zs writing e alike in
    record {
      pieces = h.0;
      split = h.1;
      reads = h.2;
      lexemes = append_cancel_left (pieces_lexemes done) (pieces_lexemes h.0) zs (sym (pieces_append done h.0) ∙ ap pieces_lexemes (sym h.1) ∙ e);
    }

-- the front of all lexemes, by what is left of them
pub front_of : (s : Start) (r : Rest) (done : List Piece) (ahead : List Lexeme) → Stand s r done ahead → (m : ℕ) → take (length (pieces_lexemes done) + m) s.lexemes ≡ pieces_lexemes done ++ take m ahead
front_of s r done ahead stand m = ap (take (length (pieces_lexemes done) + m)) stand.split ∙ take-append-add (pieces_lexemes done) ahead m

pub all_count : (s : Start) (r : Rest) (done : List Piece) (ahead : List Lexeme) → Stand s r done ahead → length s.lexemes ≡ length (pieces_lexemes done) + length ahead
all_count s r done ahead stand = ap length stand.split ∙ length-append (pieces_lexemes done) ahead

-- what begins a statement: what was read, and what begins the rest
pub begins_with : (s : Start) (r : Rest) (done : List Piece) (ahead : List Lexeme) → Stand s r done ahead → (ps : List Piece) → Reads r ps → (us more : List Lexeme) → pieces_lexemes ps ≡ us ++ more →
    IsBeginning (pieces_lexemes done ++ us)
begins_with s r done ahead stand ps reads us more e =
    let h = stand.goes_on ps reads in
    (h.0, more, ap pieces_lexemes h.1 ∙ pieces_append done ps ∙ ap (λ xs. pieces_lexemes done ++ xs) e ∙ sym (append_assoc (pieces_lexemes done) us more))

-- A cause that is shown: it stands in what may follow what was read.
pub record ShownBehind (s : Start) (r : Rest) (done : List Piece) (ahead : List Lexeme) (q : ℕ) (c : Cause) : Type 0 where
  pub count : ℕ
  pub place : q + 1 ≡ length (pieces_lexemes done) + count
  pub some : 1 ≤ count
  pub within : count ≤ length ahead
  pub pieces : List Piece
  pub reads : Reads r pieces
  pub rest : List Lexeme
  pub lexemes : pieces_lexemes pieces ≡ take count ahead ++ rest
  pub front : List Piece
  pub piece : Piece
  pub back : List Piece
  pub split : pieces ≡ front ++ piece ∷ back
  pub shows : Shows s.counts s.lexemes (done ++ front) piece q c

pub shown_behind : (s : Start) (r : Rest) (done : List Piece) (ahead : List Lexeme) → Stand s r done ahead → (q : ℕ) (c : Cause) → IsShown s.counts s.lexemes q c → ShownBehind s r done ahead q c
shown_behind s r done ahead stand q c shown =
    let early = stand.early q c shown in
    let all = all_count s r done ahead stand in
    let inside = shown.within in
    let m = q + 1 - length (pieces_lexemes done) in
    let place : q + 1 ≡ length (pieces_lexemes done) + m = omega arith in
    let zs = take m ahead ++ shown.rest in
    let e : statement_lexemes shown.statement ≡ pieces_lexemes done ++ zs =
    shown.shared ∙ ap (λ k. take k s.lexemes ++ shown.rest) place ∙ ap (λ xs. xs ++ shown.rest) (front_of s r done ahead stand m) ∙ append_assoc (pieces_lexemes done) (take m ahead) shown.rest in
    behind m place (omega arith) (omega arith)
    (shared s r done ahead stand (statement_pieces shown.statement) zs (shown.statement, refl) e (alike_front m ahead shown.rest (omega arith) (omega arith)))
  where
    new_one : (m : ℕ) → q + 1 ≡ length (pieces_lexemes done) + m → 1 ≤ m → m ≤ length ahead → (h : Shared r done (statement_pieces shown.statement) (take m ahead ++ shown.rest)) →
        (cs : List Piece) → shown.front ≡ done ++ cs → h.pieces ≡ cs ++ shown.piece ∷ shown.back → ShownBehind s r done ahead q c
    new_one m place some within h cs front split = record {
      count = m;
      place = place;
      some = some;
      within = within;
      pieces = h.pieces;
      reads = h.reads;
      rest = shown.rest;
      lexemes = h.lexemes;
      front = cs;
      piece = shown.piece;
      back = shown.back;
      split = split;
      shows = subst (λ fs. Shows s.counts s.lexemes fs shown.piece q c) front shown.shows;
    }

    behind : (m : ℕ) → q + 1 ≡ length (pieces_lexemes done) + m → 1 ≤ m → m ≤ length ahead → Shared r done (statement_pieces shown.statement) (take m ahead ++ shown.rest) → ShownBehind s r done ahead q c
    behind m place some within h =
        ⊎_elim (λ old. absurd (stand.quiet shown.front old.0 shown.piece q c old.1 shown.shows))
        (λ new. new_one m place some within h new.0 new.1 new.2)
        (split_at shown.front shown.back done h.pieces shown.piece (sym shown.written ∙ h.split))

-- nothing of the rest begins with what is left
abbrev pub Misses : Rest → List Lexeme → Type 0
Misses r [] = ¬ CanEnd r
Misses r (x ∷ xs) = ¬ Begins r x

missed : (r : Rest) (ahead : List Lexeme) → Misses r ahead → (ps : List Piece) (zs : List Lexeme) → Reads r ps → pieces_lexemes ps ≡ zs → BeginAlike ahead zs → ⊥
missed r [] misses ps [] reads e alike = misses (reads_nothing r ps reads e)
missed r [] misses ps (z ∷ zs) reads e alike = alike
missed r (x ∷ xs) misses ps [] reads e alike = alike
missed r (x ∷ xs) misses ps (z ∷ zs) reads e alike = misses (reads_begins r ps reads x zs (e ∙ ap (λ y. y ∷ zs) (sym alike)))

-- what was read is the front of a statement, whatever is left
pub reaches_here : (s : Start) (r : Rest) (done : List Piece) (ahead : List Lexeme) → Stand s r done ahead → IsBeginning (take (length (pieces_lexemes done)) s.lexemes)
reaches_here s r done ahead stand =
    let h = sample r in
    subst IsBeginning (append-nil (pieces_lexemes done) ∙ sym (take-append_seam (pieces_lexemes done) ahead) ∙ ap (take (length (pieces_lexemes done))) (sym stand.split))
    (begins_with s r done ahead stand h.0 h.1 [] (pieces_lexemes h.0) refl)

-- where nothing goes on, what comes next is unexpected
pub stuck : (s : Start) (r : Rest) (done : List Piece) (ahead : List Lexeme) → Stand s r done ahead → Misses r ahead → IsFirstCause s.counts s.lexemes (length (pieces_lexemes done)) cause.Unexpected
stuck s r done ahead stand misses =
    record { stands = inl (refl, reach, no_statement); first = λ q d stands. ⊎_elim (at_reach q d) (shown_later q d) stands }
  where
    n : ℕ
    n = length (pieces_lexemes done)

    no_statement : IsStatement s.lexemes → ⊥
    no_statement h =
        let k = shared s r done ahead stand (statement_pieces h.0) ahead (h.0, refl) (h.1 ∙ stand.split) (alike_self ahead) in
        missed r ahead misses k.pieces ahead k.reads k.lexemes (alike_self ahead)

    no_more : length (pieces_lexemes done) < length s.lexemes → ¬ IsBeginning (take (length (pieces_lexemes done) + 1) s.lexemes)
    no_more inside h =
        let all = all_count s r done ahead stand in
        let zs = take 1 ahead ++ h.1 in
        let alike = alike_front 1 ahead h.1 (omega arith) (omega arith) in
        let e : statement_lexemes h.0 ≡ pieces_lexemes done ++ zs = h.2 ∙ ap (λ xs. xs ++ h.1) (front_of s r done ahead stand 1) ∙ append_assoc (pieces_lexemes done) (take 1 ahead) h.1 in
        let k = shared s r done ahead stand (statement_pieces h.0) zs (h.0, refl) e alike in
        missed r ahead misses k.pieces zs k.reads k.lexemes alike

    reach : IsReach s.lexemes (length (pieces_lexemes done))
    reach = let all = all_count s r done ahead stand in record { within = omega arith; begins = reaches_here s r done ahead stand; no_more = no_more }

    at_reach : (q : ℕ) (d : Cause) → (d ≡ cause.Unexpected) × IsReach s.lexemes q × (¬ IsStatement s.lexemes) → (length (pieces_lexemes done) < q) ⊎ ((length (pieces_lexemes done) ≡ q) × (cause_number cause.Unexpected ≤ cause_number d))
    at_reach q d unexpected = inr (one_reach s.lexemes (length (pieces_lexemes done)) q reach unexpected.1, subst (λ c. 3 ≤ cause_number c) (sym unexpected.0) (omega arith))

    shown_later : (q : ℕ) (d : Cause) → IsShown s.counts s.lexemes q d → (length (pieces_lexemes done) < q) ⊎ ((length (pieces_lexemes done) ≡ q) × (cause_number cause.Unexpected ≤ cause_number d))
    shown_later q d shown =
        let early = stand.early q d shown in
        let number = shows_number s.counts s.lexemes shown.front shown.piece q d shown.shows in
        ⊎_elim (λ less. inl less) (λ more. inr (omega arith, omega arith)) (cases_lt (length (pieces_lexemes done)) q)

-- a cause that is shown where a lexeme may follow: that one is too many, or it stands behind the lexeme
pub sign_shown : (s : Start) (kind : Option Counted) (k : Class) (r : Rest) (done : List Piece) (ahead : List Lexeme) → Stand s (sign_then kind k r) done ahead → (q : ℕ) (c : Cause) → IsShown s.counts s.lexemes q c →
    ((q ≡ length (pieces_lexemes done)) × IsOneTooMany s.counts done kind × (c ≡ cause.TooMany)) ⊎ (length (pieces_lexemes done) + 1 ≤ q)
sign_shown s kind k r done ahead stand q c shown =
    let h = shown_behind s (sign_then kind k r) done ahead stand q c shown in
    let read = sign_inv kind k r h.pieces h.reads in
    by_front h.front read.lexeme read.others h.piece h.back (sym h.split ∙ read.split) h.shows
  where
    by_front : (front : List Piece) (x : Lexeme) (others : List Piece) (p : Piece) (back : List Piece) → front ++ p ∷ back ≡ sign kind x ∷ others → Shows s.counts s.lexemes (done ++ front) p q c →
        ((q ≡ length (pieces_lexemes done)) × IsOneTooMany s.counts done kind × (c ≡ cause.TooMany)) ⊎ (length (pieces_lexemes done) + 1 ≤ q)
    by_front [] x others p back e shows =
        let same : p ≡ sign kind x = cc in
        let at_sign = subst (λ fs. Shows s.counts s.lexemes fs (sign kind x) q c) (append-nil done) (subst (λ o. Shows s.counts s.lexemes (done ++ []) o q c) same shows) in
        inl (sign_shows s.counts s.lexemes done kind x q c at_sign)
    by_front (f ∷ front) x others p back e shows =
        let from = shows_from s.counts s.lexemes (done ++ f ∷ front) p q c shows in
        inr (omega (arith, ap length (pieces_append done (f ∷ front)), length-append (pieces_lexemes done) (pieces_lexemes (f ∷ front)), length-append (piece_lexemes f) (pieces_lexemes front), piece_length f))

-- a lexeme that may follow begins a statement with what was read
pub sign_begins : (s : Start) (kind : Option Counted) (k : Class) (r : Rest) (done : List Piece) (x : Lexeme) (ys : List Lexeme) → Stand s (sign_then kind k r) done (x ∷ ys) → IsIn k x →
    (h : IsWriting (done ++ sign kind x ∷ (sample r).0)) × (statement_lexemes h.0 ≡ take (length (pieces_lexemes done) + 1) s.lexemes ++ pieces_lexemes (sample r).0)
sign_begins s kind k r done x ys stand in_class =
    let rest = sample r in
    let h = stand.goes_on (sign kind x ∷ rest.0) (reads_sign kind k r x rest.0 in_class rest.1) in (
      h,
      ap pieces_lexemes h.1 ∙ pieces_append done (sign kind x ∷ rest.0) ∙ sym (append_assoc (pieces_lexemes done) (x ∷ []) (pieces_lexemes rest.0))
          ∙ ap (λ xs. xs ++ pieces_lexemes rest.0) (sym (front_of s (sign_then kind k r) done (x ∷ ys) stand 1)),
    )

-- a lexeme that is one too many
pub sign_full : (s : Start) (kind : Option Counted) (k : Class) (r : Rest) (done : List Piece) (x : Lexeme) (ys : List Lexeme) → Stand s (sign_then kind k r) done (x ∷ ys) → IsIn k x → IsOneTooMany s.counts done kind →
    IsFirstCause s.counts s.lexemes (length (pieces_lexemes done)) cause.TooMany
sign_full s kind k r done x ys stand in_class many =
    let h = sign_begins s kind k r done x ys stand in_class in
    let all = all_count s (sign_then kind k r) done (x ∷ ys) stand in
    record {
      stands = inr (record {
        within = omega arith;
        statement = h.0.0;
        rest = pieces_lexemes (sample r).0;
        shared = h.1;
        front = done;
        piece = sign kind x;
        back = (sample r).0;
        written = h.0.1;
        shows = one_sign_too_many kind x (length (pieces_lexemes done)) refl many;
      });
      first = λ q d stands. ⊎_elim
          (λ unexpected.
          let far = reach_past s.lexemes q (length (pieces_lexemes done) + 1) unexpected.1 (omega arith) (h.0.0, pieces_lexemes (sample r).0, h.1) in
          inl (omega arith))
          (λ shown. ⊎_elim (λ here. inr (sym here.0, subst (λ c. 7 ≤ cause_number c) (sym here.2) (omega arith))) (λ later. inl (omega arith))
          (sign_shown s kind k r done (x ∷ ys) stand q d shown)) stands;
    }

-- a lexeme is read
pub sign_passed : (s : Start) (kind : Option Counted) (k : Class) (r : Rest) (done : List Piece) (x : Lexeme) (ys : List Lexeme) → Stand s (sign_then kind k r) done (x ∷ ys) → IsIn k x → ¬ IsOneTooMany s.counts done kind →
    Stand s r (done ++ sign kind x ∷ []) ys
sign_passed s kind k r done x ys stand in_class room =
    record {
      split = stand.split ∙ sym (append_assoc (pieces_lexemes done) (x ∷ []) ys) ∙ ap (λ xs. xs ++ ys) (sym (pieces_push done (sign kind x)));
      goes_on = λ ps reads. subst IsWriting (sym (append_assoc done (sign kind x ∷ []) ps)) (stand.goes_on (sign kind x ∷ ps) (reads_sign kind k r x ps in_class reads));
      only = only;
      tells = stand.tells;
      quiet = λ front back p q c e shows. ⊎_elim (λ old. stand.quiet front old.0 p q c old.1 shows)
          (λ new. last front back p q c new.0 new.1 new.2 shows)
          (split_at front back done (sign kind x ∷ []) p (sym e));
      early = λ q c shown. ⊎_elim (λ here. absurd (room here.1)) (λ later. omega (arith, ap length (pieces_push done (sign kind x)), length-append (pieces_lexemes done) (x ∷ [])))
          (sign_shown s kind k r done (x ∷ ys) stand q c shown);
    }
  where
    only : (qs : List Piece) (zs : List Lexeme) → IsWriting qs → pieces_lexemes qs ≡ pieces_lexemes (done ++ sign kind x ∷ []) ++ zs → BeginAlike ys zs →
        (ps : List Piece) × (qs ≡ (done ++ sign kind x ∷ []) ++ ps) × Reads r ps
    only qs zs writing e alike =
        let all : pieces_lexemes qs ≡ pieces_lexemes done ++ x ∷ zs = e ∙ ap (λ xs. xs ++ zs) (pieces_push done (sign kind x)) ∙ append_assoc (pieces_lexemes done) (x ∷ []) zs in
        let h = shared s (sign_then kind k r) done (x ∷ ys) stand qs (x ∷ zs) writing all refl in
        let read = sign_inv kind k r h.pieces h.reads in
        let lexemes : read.lexeme ∷ pieces_lexemes read.others ≡ x ∷ zs = ap pieces_lexemes (sym read.split) ∙ h.lexemes in
        let same : read.lexeme ≡ x = cc in
        (read.others, h.split ∙ ap (λ ps. done ++ ps) read.split ∙ ap (λ y. done ++ sign kind y ∷ read.others) same ∙ sym (append_assoc done (sign kind x ∷ []) read.others), read.reads)

    last : (front back : List Piece) (p : Piece) (q : ℕ) (c : Cause) (cs : List Piece) → front ≡ done ++ cs → sign kind x ∷ [] ≡ cs ++ p ∷ back → Shows s.counts s.lexemes front p q c → ⊥
    last front back p q c [] e f shows =
        let same : p ≡ sign kind x = cc in
        let before : front ≡ done = e ∙ append-nil done in
        let at_sign = subst (λ fs. Shows s.counts s.lexemes fs (sign kind x) q c) before (subst (λ o. Shows s.counts s.lexemes front o q c) same shows) in
        room (sign_shows s.counts s.lexemes done kind x q c at_sign).1
    last front back p q c (f' ∷ []) e f shows = absurd cc
    last front back p q c (f' ∷ g ∷ cs) e f shows = absurd cc

-- of two that may follow the next lexeme chooses one
chosen : (s : Start) (r t : Rest) (done : List Piece) (ahead : List Lexeme) → Stand s r done ahead → Tells t → ((ps : List Piece) → Reads t ps → Reads r ps) →
    ((ps : List Piece) (zs : List Lexeme) → Reads r ps → pieces_lexemes ps ≡ zs → BeginAlike ahead zs → Reads t ps) → Stand s t done ahead
chosen s r t done ahead stand tells up down =
    record {
      split = stand.split;
      goes_on = λ ps reads. stand.goes_on ps (up ps reads);
      only = λ qs zs writing e alike. let h = shared s r done ahead stand qs zs writing e alike in (h.pieces, h.split, down h.pieces zs h.reads h.lexemes alike);
      tells = tells;
      quiet = stand.quiet;
      early = stand.early;
    }

pub first_chosen : (s : Start) (a b : Rest) (done : List Piece) (x : Lexeme) (ys : List Lexeme) → Stand s (either a b) done (x ∷ ys) → Begins a x → Stand s a done (x ∷ ys)
first_chosen s a b done x ys stand begins =
    chosen s (either a b) a done (x ∷ ys) stand stand.tells.0 (λ ps reads. reads_first a b ps reads)
    (λ ps zs reads e alike. ⊎_elim (λ first. first) (λ second. absurd (missed b (x ∷ ys) (λ other. stand.tells.2 x begins other) ps zs second e alike)) (either_inv a b ps reads))

pub second_chosen : (s : Start) (a b : Rest) (done : List Piece) (ahead : List Lexeme) → Stand s (either a b) done ahead → Misses a ahead → Stand s b done ahead
second_chosen s a b done ahead stand misses =
    chosen s (either a b) b done ahead stand stand.tells.1 (λ ps reads. reads_second a b ps reads)
    (λ ps zs reads e alike. ⊎_elim (λ first. absurd (missed a ahead misses ps zs first e alike)) (λ second. second) (either_inv a b ps reads))

-- before the first lexeme
pub started : (s : Start) → Stand s statement_rest [] s.lexemes
started s = record {
  split = refl;
  goes_on = λ ps reads. tree ps reads;
  only = λ qs zs writing e alike. (qs, refl, subst (Reads statement_rest) writing.1 (written writing.0));
  tells = statement_tells;
  quiet = λ front back p q c e shows. nothing front back p e;
  early = λ q c shown. omega arith;
}
  where
    nothing : (front back : List Piece) (p : Piece) → [] ≡ front ++ p ∷ back → ⊥
    nothing [] back p e = absurd cc
    nothing (f ∷ front) back p e = absurd cc

-- at the end
pub finished : (s : Start) (done : List Piece) → Stand s end done [] → IsWriting done × (pieces_lexemes done ≡ s.lexemes) × IsFaultless s.counts s.lexemes
finished s done stand =
    let writing = subst IsWriting (append-nil done) (stand.goes_on [] reads_end) in
    let all : pieces_lexemes done ≡ s.lexemes = sym (stand.split ∙ append-nil (pieces_lexemes done)) in (
      writing,
      all,
      λ p c stands. ⊎_elim (λ unexpected. unexpected.2 (writing.0, ap pieces_lexemes writing.1 ∙ all))
          (λ shown. let early = stand.early p c shown in let inside = shown.within in absurd (omega (arith, ap length all))) stands,
    )

pub adds_nothing : (counts : Counts) → Adds [] counts counts
adds_nothing counts = record { counted = λ k. omega arith; letters = omega arith }
