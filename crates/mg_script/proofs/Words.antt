-- What a word brings to a reader: it is taken, or the first cause is found in it or at its end.
use Rattle.std.proofs.Common.{◌≡◌, ◌⊎◌, inl, inr, ⊎_elim, ℕ, zero, suc, ◌+◌, ◌-◌, ◌<◌, ◌≤◌, Option, Some, None, List, [], ◌∷◌, ◌++◌, length, take, drop, refl, sym, ap, subst, ◌∙◌, arith, append_assoc, append-nil, length-append}
use Rattle.std.specs.List.{AllByRecursion}
use Rattle.std.proofs.Math.Seq.{take-append_seam, take-append-add, take-add, drop-append-add, drop-append_seam}
use Rattle.std.proofs.lemmas.Bool.{cases_lt}
use Rattle.std.proofs.lemmas.List.{take-take, take-append-drop, length-take, length-take-le, take_all, take_at, append_cancel_left, length-drop}
use Rattle.std.proofs.lemmas.List.Elements.{All-from_recursion, All-contains}
use Rattle.mg_lex.specs.declared.refusal.Cause.{Cause}
use Rattle.mg_lex.specs.declared.refusal.Cause.TheVariants as cause
use Rattle.mg_lex.specs.Cause.{cause_number}
use Rattle.mg_lex.specs.declared.mark.Mark.TheVariants as mark
use Rattle.mg_terms.specs.declared.lexeme.Lexeme.{Lexeme}
use Rattle.mg_terms.specs.declared.lexeme.Lexeme.TheVariants as lexeme
use Rattle.mg_terms.specs.declared.limits.TheConstants.{WORD_LIMIT}
use Rattle.mg_terms.specs.declared.read.WordRead.{WordRead}
use Rattle.mg_terms.specs.Word.{Base, name, one, round, commutator, Factor, bare, power, Word, single, times, minus_lexemes, star_lexemes, base_lexemes, factor_lexemes, word_lexemes, base_letters, factor_letters, word_letters}
use Rattle.mg_terms.specs.Event.{Event, opens, ends, base_events, factor_events, word_events}
use Rattle.mg_terms.specs.Beginning.{IsWord, BeginsBase, GoesOn, EndsBefore}
use Rattle.mg_terms.specs.Beginning as begun
use Rattle.mg_terms.specs.Cause as words
use Rattle.mg_terms.specs.Read.{IsRead}
use Rattle.mg_terms.proofs.Beginnings.{overlap, one_end}
use Rattle.mg_script.specs.declared.counted.Counted.{Counted}
use Rattle.mg_script.specs.declared.counted.Counts.{Counts}
use Rattle.mg_script.specs.declared.counted.TheConstants.{LETTER_LIMIT}
use Rattle.mg_script.specs.Statement.{Piece, sign, term, pieces_lexemes, has, Statement, ask, statement_pieces, statement_lexemes}
use Rattle.mg_script.specs.Count.{letters_in, left_letters}
use Rattle.mg_script.specs.Cause.{IsStatement, IsReach, IsWhole, IsNameAsked, IsOneTooMany, Shows, one_word_too_many, in_word, long_relation, too_many_letters, IsShown, Stands, IsFirstCause}
use Rattle.mg_script.specs.Grammar.{IsIn, a_property, Rest, end, sign_then, words_rest, property_rest, first_word_rest, Reads, reads_word, reads_other, Begins, Tells}
use Rattle.mg_script.specs.Reader.{Start, IsWriting, BeginAlike, Stand, IsPropertyNext, IsWordThen, any_word, no_property}
use Rattle.mg_script.proofs.Rests.{name_alone, sample, end_inv, sign_inv, this_inv, WordRead as WordFirst, word_inv, by_two_inv}
use Rattle.mg_script.proofs.Unique.{ends_word}
use Rattle.mg_script.proofs.Standing.{pieces_append, split_at, word_length, shows_from, sign_quiet}
use Rattle.mg_script.proofs.Reaches.{reach_past, one_reach}

-- a piece is one of those that are read, the next one or a later one
abbrev IsPlaced : List Piece → Piece → List Piece → Piece → Type 0
IsPlaced done p front piece =
    ((back : List Piece) × (done ≡ front ++ piece ∷ back)) ⊎ (((front ≡ done) × (piece ≡ p)) ⊎ ((mid : List Piece) × (front ≡ done ++ p ∷ mid)))

placed : (done : List Piece) (p : Piece) (ps front : List Piece) (piece : Piece) (back : List Piece) → done ++ p ∷ ps ≡ front ++ piece ∷ back → IsPlaced done p front piece
placed [] p ps [] piece back e = inr (inl (refl, cc))
placed [] p ps (f ∷ front) piece back e = inr (inr (front, let same : f ≡ p = cc in ap (λ x. x ∷ front) same))
placed (d ∷ done) p ps [] piece back e = inl (done, let same : d ≡ piece = cc in ap (λ x. x ∷ done) same)
placed (d ∷ done) p ps (f ∷ front) piece back e =
    let heads : d ≡ f = cc in
    let tails : done ++ p ∷ ps ≡ front ++ piece ∷ back = cc in
    ⊎_elim (λ inside. inl (inside.0, cc (heads, inside.1)))
    (λ other. ⊎_elim (λ next. inr (inl (cc (heads, next.0), next.1))) (λ later. inr (inr (later.0, cc (heads, later.1)))) other)
    (placed done p ps front piece back tails)

placed_in : (qs done : List Piece) (p : Piece) (ps front : List Piece) (piece : Piece) (back : List Piece) → qs ≡ done ++ p ∷ ps → qs ≡ front ++ piece ∷ back → IsPlaced done p front piece
placed_in qs done p ps front piece back e f = placed done p ps front piece back (sym e ∙ f)

-- what a word shows
pub data TermShows (counts : Counts) (xs : List Lexeme) (front : List Piece) (kind : Option Counted) (left : Option Word) (w : Word) (p : ℕ) (c : Cause) : Type 0 where
  over : c ≡ cause.TooMany → p ≡ length (pieces_lexemes front) → IsOneTooMany counts front kind → TermShows counts xs front kind left w p c
  inside : (q : ℕ) → p ≡ length (pieces_lexemes front) + q → words.IsShown (drop (length (pieces_lexemes front)) xs) q c → TermShows counts xs front kind left w p c
  long : (u : Word) → left ≡ Some u → c ≡ cause.WordTooLong → IsWhole xs (length (pieces_lexemes front)) w p → WORD_LIMIT < word_letters u + word_letters w → TermShows counts xs front kind left w p c
  many : c ≡ cause.TooMany → IsWhole xs (length (pieces_lexemes front)) w p → LETTER_LIMIT < counts.letters + (letters_in front + word_letters w) → (IsNameAsked xs p → ⊥) → TermShows counts xs front kind left w p c

pub term_shows : (counts : Counts) (xs : List Lexeme) (front : List Piece) (kind : Option Counted) (left : Option Word) (w : Word) (p : ℕ) (c : Cause) → Shows counts xs front (term kind left w) p c → TermShows counts xs front kind left w p c
term_shows _ _ _ _ _ _ _ _ (one_word_too_many kind left w p at full) = over refl at full
term_shows _ _ _ _ _ _ _ _ (in_word kind left w p q c at shown) = inside q at shown
term_shows _ _ _ _ _ _ _ _ (long_relation kind u v p whole too_long) = long u refl refl whole too_long
term_shows _ _ _ _ _ _ _ _ (too_many_letters kind left w p whole too_many apart) = many refl whole too_many apart

-- a word that is read at the front of some lexemes
pub record IsTaken (ahead : List Lexeme) (w : Word) (after : List Lexeme) : Type 0 where
  pub split : ahead ≡ word_lexemes w ++ after
  pub faultless : words.IsFaultless ahead
  pub ended : EndsBefore w after

-- what a statement has at the front of what is ahead, of which it has so many lexemes
record IsShared (kind : Option Counted) (left : Option Word) (done : List Piece) (ahead : List Lexeme) (qs : List Piece) (k : ℕ) (rest : List Lexeme) : Type 0 where
  word : Word
  others : List Piece
  written : qs ≡ done ++ term kind left word ∷ others
  lexemes : word_lexemes word ++ pieces_lexemes others ≡ take k ahead ++ rest
  ended : EndsBefore word (pieces_lexemes others)

-- a name and a property are no word
pub record NameRead (ahead : List Lexeme) (ps : List Piece) : Type 0 where
  pub behind : Lexeme
  pub split : ps ≡ sign None lexeme.Name ∷ sign None behind ∷ []
  pub in_class : IsIn a_property behind
  pub apart : IsPropertyNext ahead → ⊥

word_or_name : (ahead : List Lexeme) (kind : Option Counted) (left : Option Word) (f : Word → Rest) (r : Rest) → IsWordThen ahead kind left f r → (ps : List Piece) → Reads r ps →
    WordFirst kind left f ps ⊎ NameRead ahead ps
word_or_name ahead _ _ _ _ (any_word kind left f) ps reads = inl (word_inv kind left f ps reads)
word_or_name ahead _ _ _ _ (no_property apart) ps reads =
    ⊎_elim (λ property.
    let h = this_inv None lexeme.Name (sign_then None a_property end) ps property in
    let k = sign_inv None a_property end h.0 h.2 in
    inr (record {
      behind = k.lexeme;
      split = h.1 ∙ ap (λ us. sign None lexeme.Name ∷ us) (k.split ∙ ap (λ us. sign None k.lexeme ∷ us) (end_inv k.others k.reads));
      in_class = k.in_class;
      apart = apart;
    }))
    (λ words. inl (word_inv None None (λ v. words_rest) ps words))
    (by_two_inv property_rest first_word_rest ps reads)

writes_word : (ahead : List Lexeme) (kind : Option Counted) (left : Option Word) (f : Word → Rest) (r : Rest) → IsWordThen ahead kind left f r → (w : Word) (ps : List Piece) → Reads (f w) ps →
    Reads r (term kind left w ∷ ps)
writes_word ahead _ _ _ _ (any_word kind left f) w ps reads = reads_word kind left f w ps reads
writes_word ahead _ _ _ _ (no_property apart) w ps reads = reads_other property_rest first_word_rest _ (reads_word None None (λ v. words_rest) w ps reads)

word_tells : (ahead : List Lexeme) (kind : Option Counted) (left : Option Word) (f : Word → Rest) (r : Rest) → IsWordThen ahead kind left f r → Tells r → (w : Word) →
    Tells (f w) × ((x : Lexeme) → Begins (f w) x → ¬ GoesOn w x)
word_tells ahead _ _ _ _ (any_word kind left f) tells w = tells w
word_tells ahead _ _ _ _ (no_property apart) tells w = tells.1 w

-- a statement that has such a name at the front of what is ahead
record IsOther (done : List Piece) (ahead : List Lexeme) (qs : List Piece) (k : ℕ) (rest : List Lexeme) : Type 0 where
  behind : Lexeme
  written : qs ≡ done ++ sign None lexeme.Name ∷ sign None behind ∷ []
  lexemes : lexeme.Name ∷ behind ∷ [] ≡ take k ahead ++ rest
  in_class : IsIn a_property behind
  apart : IsPropertyNext ahead → ⊥

-- neither of the two shows a cause
pub signs_quiet : (counts : Counts) (xs : List Lexeme) (front cs back : List Piece) (x y : Lexeme) (piece : Piece) (p : ℕ) (c : Cause) →
    sign None x ∷ sign None y ∷ [] ≡ cs ++ piece ∷ back → Shows counts xs front piece p c → ⊥
signs_quiet counts xs front [] back x y piece p c e shows =
    let same : piece ≡ sign None x = cc in sign_quiet counts xs front x p c (subst (λ o. Shows counts xs front o p c) same shows)
signs_quiet counts xs front (d ∷ []) back x y piece p c e shows =
    let same : piece ≡ sign None y = cc in sign_quiet counts xs front y p c (subst (λ o. Shows counts xs front o p c) same shows)
signs_quiet counts xs front (d ∷ (f ∷ [])) back x y piece p c e shows = absurd cc
signs_quiet counts xs front (d ∷ (f ∷ (g ∷ cs))) back x y piece p c e shows = absurd cc

-- where no word is read, no name is
name_not_read : (ahead : List Lexeme) (q : ℕ) (behind : Lexeme) (rest : List Lexeme) → words.IsReach ahead q → 1 ≤ length ahead → lexeme.Name ∷ behind ∷ [] ≡ take (q + 1) ahead ++ rest →
    IsIn a_property behind → (IsPropertyNext ahead → ⊥) → (q ≡ length ahead → rest ≡ []) → ⊥
name_not_read [] q behind rest reach any e property apart last = absurd (omega (arith, any))
name_not_read (x ∷ xs) zero behind rest reach any e property apart last =
    let first : x ≡ lexeme.Name = cc in
    reach.no_more any (name_alone, [], ap (λ y. y ∷ []) (sym first))
name_not_read (x ∷ []) (suc n) behind rest reach any e property apart last =
    let within = reach.within in
    let at_end : suc n ≡ 1 = omega (arith, within) in
    let none = last at_end in
    omega (arith, ap length e, length-append (take (suc n + 1) (x ∷ [])) rest, length-take (suc n + 1) (x ∷ []), ap length none)
name_not_read (x ∷ (y ∷ xs)) (suc n) behind rest reach any e property apart last =
    let two : suc n + 1 ≡ suc (suc n) = omega arith in
    let both : lexeme.Name ∷ behind ∷ [] ≡ x ∷ (y ∷ (take n xs ++ rest)) = e ∙ ap (λ j. take j (x ∷ (y ∷ xs)) ++ rest) two in
    let first : x ≡ lexeme.Name = cc in
    let second : y ≡ behind = cc in
    apart (behind, xs, ap (λ u. u ∷ (y ∷ xs)) first ∙ ap (λ u. lexeme.Name ∷ (u ∷ xs)) second, property)

-- what begins like a name and a property has both next
name_next : (us zs after : List Lexeme) (behind : Lexeme) → us ++ zs ≡ lexeme.Name ∷ behind ∷ [] → 1 ≤ length us → BeginAlike after zs → (xs : List Lexeme) × (us ++ after ≡ lexeme.Name ∷ behind ∷ xs)
name_next [] zs after behind e some next = absurd (omega (arith, some))
name_next (x ∷ []) [] after behind e some next = absurd cc
name_next (x ∷ []) (z ∷ zs) [] behind e some next = absurd next
name_next (x ∷ []) (z ∷ zs) (a ∷ us) behind e some next =
    let first : x ≡ lexeme.Name = cc in
    let second : z ≡ behind = cc in
    (us, ap (λ u. u ∷ (a ∷ us)) first ∙ ap (λ u. lexeme.Name ∷ (u ∷ us)) (next ∙ second))
name_next (x ∷ (y ∷ us)) zs after behind e some next =
    let first : x ≡ lexeme.Name = cc in
    let second : y ≡ behind = cc in
    (us ++ after, ap (λ u. u ∷ (y ∷ (us ++ after))) first ∙ ap (λ u. lexeme.Name ∷ (u ∷ (us ++ after))) second)

-- pieces without a word
abbrev AreSigns : List Piece → Type 0
AreSigns [] = Unit {0}
AreSigns (sign kind x ∷ ps) = AreSigns ps
AreSigns (term kind left w ∷ ps) = ⊥

no_term : (front back : List Piece) (kind : Option Counted) (left : Option Word) (w : Word) → AreSigns (front ++ term kind left w ∷ back) → ⊥
no_term [] back kind left w signs = signs
no_term (sign k x ∷ front) back kind left w signs = no_term front back kind left w signs
no_term (term k l v ∷ front) back kind left w signs = signs

-- a statement that has a word next
record IsBegun (s : Start) (kind : Option Counted) (left : Option Word) (done : List Piece) (w : Word) (p : ℕ) : Type 0 where
  statement : Statement
  back : List Piece
  written : statement_pieces statement ≡ done ++ term kind left w ∷ back
  rest : List Lexeme
  shared : statement_lexemes statement ≡ take p s.lexemes ++ rest

alike : (k : ℕ) (xs rest : List Lexeme) → 1 ≤ k → 1 ≤ length xs → BeginAlike xs (take k xs ++ rest)
alike zero xs rest some any = absurd (omega (arith, some))
alike (suc k) [] rest some any = absurd (omega (arith, any))
alike (suc k) (x ∷ xs) rest some any = refl

no_more : (xs : List Lexeme) → length xs ≡ 0 → xs ≡ []
no_more [] e = refl
no_more (x ∷ xs) e = absurd (omega (arith, e))

-- some lexemes begin a word, or they end it before a lexeme with which it doesn't go on
abbrev IsCut : List Lexeme → Word → Type 0
IsCut xs w = ((cs : List Lexeme) × (word_lexemes w ≡ xs ++ cs)) ⊎ ((y : Lexeme) × (cs : List Lexeme) × (xs ≡ word_lexemes w ++ y ∷ cs) × (¬ GoesOn w y))

cut_at : (w : Word) (zs xs rest cs : List Lexeme) → EndsBefore w zs → xs ≡ word_lexemes w ++ cs → zs ≡ cs ++ rest → IsCut xs w
cut_at w zs xs rest [] ended e f = inl ([], sym (append-nil (word_lexemes w)) ∙ sym e ∙ sym (append-nil xs))
cut_at w zs xs rest (y ∷ cs) ended e f = inr (y, cs, e, subst (EndsBefore w) f ended)

cut : (w : Word) (zs xs rest : List Lexeme) → EndsBefore w zs → word_lexemes w ++ zs ≡ xs ++ rest → IsCut xs w
cut w zs xs rest ended e =
    ⊎_elim (λ h. cut_at w zs xs rest h.0 ended h.1 h.2) (λ h. inl (h.0, h.1)) (overlap (word_lexemes w) xs zs rest e)

short_take : (k : ℕ) (xs : List Lexeme) → length (take k xs) ≤ k
short_take zero xs = omega arith
short_take (suc k) [] = omega arith
short_take (suc k) (x ∷ xs) = let h = short_take k xs in omega (arith, h)

-- a word doesn't end inside the one that is taken
not_inside : (ahead : List Lexeme) (w v : Word) (after cs : List Lexeme) (y : Lexeme) (k : ℕ) → IsTaken ahead w after → k ≤ length (word_lexemes w) →
    take k ahead ≡ word_lexemes v ++ y ∷ cs → (¬ GoesOn v y) → ⊥
not_inside ahead w v after cs y k taken short e apart =
    let all : word_lexemes v ++ (y ∷ (cs ++ drop k ahead)) ≡ word_lexemes w ++ after =
    sym (append_assoc (word_lexemes v) (y ∷ cs) (drop k ahead)) ∙ ap (λ xs. xs ++ drop k ahead) (sym e) ∙ take-append-drop k ahead ∙ taken.split in
    let same = one_end v w (y ∷ (cs ++ drop k ahead)) after all apart taken.ended in
    let fewer = short_take k ahead in
    omega (arith, fewer, short, ap length e, length-append (word_lexemes v) (y ∷ cs), ap (λ u. length (word_lexemes u)) same.0)

-- more words
alike_front : (xs ys zs : List Lexeme) → 1 ≤ length xs → BeginAlike (xs ++ ys) (xs ++ zs)
alike_front [] ys zs some = absurd (omega (arith, some))
alike_front (x ∷ xs) ys zs some = refl

ends_alike : (w : Word) (xs ys : List Lexeme) → BeginAlike xs ys → EndsBefore w xs → EndsBefore w ys
ends_alike w [] [] next ended = tt
ends_alike w (x ∷ xs) (y ∷ ys) next ended = subst (λ z. ¬ GoesOn w z) next ended
ends_alike w [] (y ∷ ys) next ended = absurd next
ends_alike w (x ∷ xs) [] next ended = tt

some_left : (left : Option Word) (w : Word) → word_letters w ≤ WORD_LIMIT → WORD_LIMIT < left_letters left + word_letters w → (u : Word) × (left ≡ Some u)
some_left None w short too_long = absurd (omega (arith, short, too_long))
some_left (Some u) w short too_long = (u, refl)

some_none : (u : Word) → Some u ≡ None → ⊥
some_none u e = cc

-- a beginning of a word that is longer than another word and one lexeme
prefix_goes : (ahead : List Lexeme) (v w : Word) (y : Lexeme) (cs rest : List Lexeme) (k m : ℕ) → word_lexemes w ≡ take m ahead ++ rest → length (word_lexemes v) + 1 ≤ m →
    take k ahead ≡ word_lexemes v ++ y ∷ cs → GoesOn v y
prefix_goes ahead v w y cs rest k m begins longer e =
    let few = short_take k ahead in
    let size = ap length e in
    let parts = length-append (word_lexemes v) (y ∷ cs) in
    let short : length (word_lexemes v) + 1 ≤ k = omega (arith, few, size, parts) in
    let split : take k ahead ≡ (word_lexemes v ++ y ∷ []) ++ cs = e ∙ sym (append_assoc (word_lexemes v) (y ∷ []) cs) in
    let one_longer : length (word_lexemes v ++ y ∷ []) ≡ length (word_lexemes v) + 1 = length-append (word_lexemes v) (y ∷ []) in
    let front : take (length (word_lexemes v) + 1) ahead ≡ word_lexemes v ++ y ∷ [] =
    sym (take-take (length (word_lexemes v) + 1) k ahead short) ∙ ap (λ xs. take (length (word_lexemes v) + 1) xs) split ∙
    take_at (word_lexemes v ++ y ∷ []) cs (length (word_lexemes v) + 1) one_longer in
    let inner = take-take (length (word_lexemes v) + 1) m ahead longer in
    let behind : List Lexeme = drop (length (word_lexemes v) + 1) (take m ahead) in (
      w,
      behind ++ rest,
      begins ∙ ap (λ xs. xs ++ rest) (sym (take-append-drop (length (word_lexemes v) + 1) (take m ahead)) ∙ ap (λ xs. xs ++ behind) (inner ∙ front)) ∙
          append_assoc (word_lexemes v ++ y ∷ []) behind rest,
    )

-- a word that ends before the place of a cause goes on with what stands behind it
goes_within : (ahead : List Lexeme) (q : ℕ) (c : Cause) → words.Stands ahead q c → (v : Word) (y : Lexeme) (cs : List Lexeme) (k : ℕ) → k ≤ q + 1 → take k ahead ≡ word_lexemes v ++ y ∷ cs → GoesOn v y
goes_within ahead q c stands v y cs k small e =
    let few = short_take k ahead in
    let size = ap length e in
    let parts = length-append (word_lexemes v) (y ∷ cs) in
    let short : length (word_lexemes v) + 1 ≤ k = omega (arith, few, size, parts) in
    ⊎_elim (λ unexpected.
    let begins = unexpected.1.begins in
    ⊎_elim (λ less. prefix_goes ahead v begins.0 y cs begins.1 k q begins.2 (omega (arith, less)) e)
    (λ late.
    let same : length (word_lexemes v) ≡ q = omega (arith, late, short, small) in
    let front : take q ahead ≡ word_lexemes v = sym (take-take q k ahead (omega (arith, same, short))) ∙ ap (λ xs. take q xs) e ∙ take_at (word_lexemes v) (y ∷ cs) q same in
    absurd (unexpected.2 (v, sym front))) (cases_lt (length (word_lexemes v)) q))
    (λ shown. let inner = shown.within in prefix_goes ahead v shown.word y cs shown.agrees.rest k shown.shared shown.agrees.shared (omega (arith, inner, short, small)) e) stands

-- where no word can be read, no word is longer
not_read : (ahead : List Lexeme) (q : ℕ) → words.IsReach ahead q → (¬ IsWord (take q ahead)) → (v : Word) (zs rest cs : List Lexeme) → word_lexemes v ++ zs ≡ take (q + 1) ahead ++ rest →
    word_lexemes v ≡ take (q + 1) ahead ++ cs → (q ≡ length ahead → rest ≡ []) → ⊥
not_read ahead q reach no_word v zs rest cs e f last =
    ⊎_elim (λ less. reach.no_more less (v, cs, f))
    (λ late.
    let within = reach.within in
    let same : q ≡ length ahead = omega (arith, late, within) in
    let all : take (q + 1) ahead ≡ ahead = take_all (q + 1) ahead (omega (arith, same)) in
    let front : take q ahead ≡ ahead = take_all q ahead (omega (arith, same)) in
    let sizes = ap length e in
    let one_size = length-append (word_lexemes v) zs in
    let two_size = length-append (take (q + 1) ahead) rest in
    let word_size = ap length f in
    let parts = length-append (take (q + 1) ahead) cs in
    let none : cs ≡ [] = no_more cs (omega (arith, sizes, one_size, two_size, word_size, parts, ap length (last same))) in
    no_word (v, f ∙ ap (λ xs. take (q + 1) ahead ++ xs) none ∙ append-nil (take (q + 1) ahead) ∙ all ∙ sym front)) (cases_lt q (length ahead))

-- a word ends where no word reaches further
reach_ends : (ahead : List Lexeme) (w : Word) (n : ℕ) → word_lexemes w ≡ take n ahead → words.IsReach ahead n → EndsBefore w (drop n ahead)
reach_ends ahead w n e reach = by_next (drop n ahead) refl
  where
    by_next : (xs : List Lexeme) → drop n ahead ≡ xs → EndsBefore w xs
    by_next [] f = tt
    by_next (x ∷ xs) f = λ goes.
        let within = reach.within in
        let size = ap length f in
        let less : n < length ahead = omega (arith, size, length-drop n ahead) in
        let longer : word_lexemes w ++ x ∷ [] ≡ take (n + 1) ahead = ap (λ ys. ys ++ x ∷ []) e ∙ sym (take-add n 1 ahead ∙ ap (λ ys. take n ahead ++ take 1 ys) f) in
        reach.no_more less (subst begun.IsBeginning longer goes)

-- a word that begins with a lexeme
base_word : (x : Lexeme) → BeginsBase x → (w : Word) × (rest : List Lexeme) × (word_lexemes w ≡ x ∷ rest)
base_word lexeme.Name base = (name_alone, [], refl)
base_word (lexeme.Number n) base = (single (bare one), [], ap (λ m. lexeme.Number m ∷ []) (sym base))
base_word (lexeme.Mark m) base =
    ⊎_elim (λ e. (single (bare (round name_alone)), lexeme.Name ∷ lexeme.Mark mark.CloseRound ∷ [], ap (λ k. lexeme.Mark k ∷ lexeme.Name ∷ lexeme.Mark mark.CloseRound ∷ []) (sym e)))
    (λ e. (
      single (bare (commutator name_alone name_alone)),
      lexeme.Name ∷ lexeme.Mark mark.Comma ∷ lexeme.Name ∷ lexeme.Mark mark.CloseSquare ∷ [],
      ap (λ k. lexeme.Mark k ∷ lexeme.Name ∷ lexeme.Mark mark.Comma ∷ lexeme.Name ∷ lexeme.Mark mark.CloseSquare ∷ []) (sym e),
    )) base
base_word (lexeme.Keyword k) base = absurd base
base_word lexeme.RelatorSign base = absurd base

-- a part with one lexeme has at most one letter
abbrev IsShort : ℕ → Event → Type 0
IsShort k (opens place depth) = Unit {0}
IsShort k (ends count letters) = (k + 1 ≤ count) × (count ≡ k + 1 → letters ≤ 1)

weaken : (j k : ℕ) (e : Event) → k + 1 ≤ j → IsShort j e → IsShort k e
weaken j k (opens place depth) less short = tt
weaken j k (ends count letters) less short = let h = short.0 in (omega (arith, h, less), λ same. absurd (omega (arith, h, less, same)))

weaken_all : (j k : ℕ) (es : List Event) → k + 1 ≤ j → AllByRecursion (IsShort j) es → AllByRecursion (IsShort k) es
weaken_all j k [] less short = tt
weaken_all j k (e ∷ es) less short = (weaken j k e less short.0, weaken_all j k es less short.1)

both : (k : ℕ) (es gs : List Event) → AllByRecursion (IsShort k) es → AllByRecursion (IsShort k) gs → AllByRecursion (IsShort k) (es ++ gs)
both k [] gs first second = second
both k (e ∷ es) gs first second = (first.0, both k es gs first.1 second)

far : (k count letters : ℕ) → k + 2 ≤ count → IsShort k (ends count letters)
far k count letters past = (omega (arith, past), λ same. absurd (omega (arith, past, same)))

base_one : (b : Base) → length (base_lexemes b) ≡ 1 → base_letters b ≤ 1
base_one name e = omega arith
base_one one e = omega arith
base_one (round w) e = absurd (omega (arith, e, length-append (word_lexemes w) (lexeme.Mark mark.CloseRound ∷ [])))
base_one (commutator u v) e = absurd (omega (arith, e, length-append (word_lexemes u) (lexeme.Mark mark.Comma ∷ (word_lexemes v ++ lexeme.Mark mark.CloseSquare ∷ []))))

factor_one : (g : Factor) → length (factor_lexemes g) ≡ 1 → factor_letters g ≤ 1
factor_one (bare b) e = base_one b e
factor_one (power b negative n) e =
    absurd (omega (arith, e, word_length (single (bare b)), length-append (base_lexemes b) (lexeme.Mark mark.Caret ∷ (minus_lexemes negative ++ lexeme.Number n ∷ []))))

mutual
  base_short : (k d : ℕ) (b : Base) → AllByRecursion (IsShort k) (base_events k d b)
  base_short k d name = ((omega arith, λ same. omega arith), tt)
  base_short k d one = ((omega arith, λ same. omega arith), tt)
  base_short k d (round w) = (
    tt,
    both k (word_events (k + 1) (d + 1) w) (ends (k + length (base_lexemes (round w))) (base_letters (round w)) ∷ [])
        (weaken_all (k + 1) k (word_events (k + 1) (d + 1) w) (omega arith) (word_short (k + 1) (d + 1) w))
        (far k (k + length (base_lexemes (round w))) (base_letters (round w)) (omega (arith, length-append (word_lexemes w) (lexeme.Mark mark.CloseRound ∷ []))), tt),
  )
  base_short k d (commutator u v) = (
    tt,
    both k (word_events (k + 1) (d + 1) u) _
        (weaken_all (k + 1) k (word_events (k + 1) (d + 1) u) (omega arith) (word_short (k + 1) (d + 1) u))
        (both k (word_events (k + 1 + length (word_lexemes u) + 1) (d + 1) v) _
        (weaken_all (k + 1 + length (word_lexemes u) + 1) k (word_events (k + 1 + length (word_lexemes u) + 1) (d + 1) v) (omega arith) (word_short (k + 1 + length (word_lexemes u) + 1) (d + 1) v)) (
          far k (k + length (base_lexemes (commutator u v))) (base_letters (commutator u v))
              (omega (arith, length-append (word_lexemes u) (lexeme.Mark mark.Comma ∷ (word_lexemes v ++ lexeme.Mark mark.CloseSquare ∷ [])))),
          tt,
        )),
  )

  factor_short : (k d : ℕ) (g : Factor) → AllByRecursion (IsShort k) (factor_events k d g)
  factor_short k d (bare b) = base_short k d b
  factor_short k d (power b negative n) = both k (base_events k d b) _ (base_short k d b) (
    far k (k + length (factor_lexemes (power b negative n))) (factor_letters (power b negative n))
        (omega (arith, word_length (single (bare b)), length-append (base_lexemes b) (lexeme.Mark mark.Caret ∷ (minus_lexemes negative ++ lexeme.Number n ∷ [])))),
    tt,
  )

  word_short : (k d : ℕ) (w : Word) → AllByRecursion (IsShort k) (word_events k d w)
  word_short k d (single g) = both k (factor_events k d g) _ (factor_short k d g)
      ((omega (arith, word_length (single g)), λ same. factor_one g (omega (arith, same))), tt)
  word_short k d (times w star g) = both k (word_events k d w) _ (word_short k d w)
      (both k (factor_events (k + length (word_lexemes w ++ star_lexemes star)) d g) _
      (weaken_all (k + length (word_lexemes w ++ star_lexemes star)) k (factor_events (k + length (word_lexemes w ++ star_lexemes star)) d g)
      (omega (arith, word_length w, length-append (word_lexemes w) (star_lexemes star))) (factor_short (k + length (word_lexemes w ++ star_lexemes star)) d g)) (
        far k (k + length (word_lexemes (times w star g))) (word_letters (times w star g))
            (omega (arith, word_length w, word_length (single g), length-append (word_lexemes w) (star_lexemes star ++ factor_lexemes g), length-append (star_lexemes star) (factor_lexemes g))),
        tt,
      ))

event_first : (e : Event) (c : Cause) → IsShort 0 e → words.Shows e 0 c → c ≡ cause.TooMany
event_first (opens place depth) c short shows = shows.0
event_first (ends count letters) c short shows =
    let few = short.1 (sym shows.1) in
    let over_it = shows.2 in
    absurd (omega (arith, few, over_it))

first_lexeme : (ahead : List Lexeme) (c : Cause) → words.IsShown ahead 0 c → c ≡ cause.TooMany
first_lexeme ahead c shown =
    event_first shown.event c
    (All-contains (IsShort 0) (word_events 0 0 shown.word) shown.event (All-from_recursion (IsShort 0) (word_events 0 0 shown.word) (word_short 0 0 shown.word)) shown.among) shown.shows

-- a cause that is shown where the word that is taken stands, is shown by that word, at its last lexeme
record IsOfWord (s : Start) (kind : Option Counted) (left : Option Word) (done : List Piece) (w : Word) (p : ℕ) (c : Cause) : Type 0 where
  last : p + 1 ≡ length (pieces_lexemes done) + length (word_lexemes w)
  shows : TermShows s.counts s.lexemes done kind left w p c

module _ (s : Start) (kind : Option Counted) (left : Option Word) (f : Word → Rest) (r : Rest) (done : List Piece) (ahead : List Lexeme) (is_word : IsWordThen ahead kind left f r) (stand : Stand s r done ahead) where
  shared_at : (t : Statement) (k : ℕ) (rest : List Lexeme) → 1 ≤ k → 1 ≤ length ahead → statement_lexemes t ≡ pieces_lexemes done ++ (take k ahead ++ rest) →
      IsShared kind left done ahead (statement_pieces t) k rest ⊎ IsOther done ahead (statement_pieces t) k rest
  shared_at t k rest some any e =
      let h = stand.only (statement_pieces t) (take k ahead ++ rest) (t, refl) e (alike k ahead rest some any) in
      let behind : pieces_lexemes h.0 ≡ take k ahead ++ rest =
      append_cancel_left (pieces_lexemes done) (pieces_lexemes h.0) (take k ahead ++ rest) (sym (pieces_append done h.0) ∙ ap pieces_lexemes (sym h.1) ∙ e) in
      ⊎_elim (λ w. inl (record {
        word = w.word;
        others = w.others;
        written = h.1 ∙ ap (λ ps. done ++ ps) w.split;
        lexemes = ap pieces_lexemes (sym w.split) ∙ behind;
        ended = ends_word w.word (f w.word) w.others w.reads (word_tells ahead kind left f r is_word stand.tells w.word).1;
      }))
      (λ n. inr (record {
        behind = n.behind;
        written = h.1 ∙ ap (λ ps. done ++ ps) n.split;
        lexemes = ap pieces_lexemes (sym n.split) ∙ behind;
        in_class = n.in_class;
        apart = n.apart;
      }))
      (word_or_name ahead kind left f r is_word h.0 h.2)

  -- where a name stands next, nothing is shown
  name_quiet : (p k : ℕ) (c : Cause) (rest : List Lexeme) (shown : IsShown s.counts s.lexemes p c) → IsOther done ahead (statement_pieces shown.statement) k rest → ⊥
  name_quiet p k c rest shown other =
      ⊎_elim (λ old. stand.quiet shown.front old.0 shown.piece p c old.1 shown.shows)
      (λ new. signs_quiet s.counts s.lexemes shown.front new.0 shown.back lexeme.Name other.behind shown.piece p c new.2 shown.shows)
      (split_at shown.front shown.back done (sign None lexeme.Name ∷ sign None other.behind ∷ []) shown.piece (sym shown.written ∙ other.written))

  -- all lexemes, and those that are read
  front_of : (p k : ℕ) → p ≡ length (pieces_lexemes done) + k → take p s.lexemes ≡ pieces_lexemes done ++ take k ahead
  front_of p k e = ap (λ xs. take p xs) stand.split ∙ ap (λ n. take n (pieces_lexemes done ++ ahead)) e ∙ take-append-add (pieces_lexemes done) ahead k

  behind_of : (p k : ℕ) → p ≡ length (pieces_lexemes done) + k → drop p s.lexemes ≡ drop k ahead
  behind_of p k e = ap (λ xs. drop p xs) stand.split ∙ ap (λ n. drop n (pieces_lexemes done ++ ahead)) e ∙ drop-append-add (pieces_lexemes done) ahead k

  ahead_of : drop (length (pieces_lexemes done)) s.lexemes ≡ ahead
  ahead_of = ap (λ xs. drop (length (pieces_lexemes done)) xs) stand.split ∙ drop-append_seam (pieces_lexemes done) ahead

  all_of : length s.lexemes ≡ length (pieces_lexemes done) + length ahead
  all_of = ap length stand.split ∙ length-append (pieces_lexemes done) ahead

  -- a statement that begins with so many lexemes
  shared_of : (t : Statement) (p k : ℕ) (rest : List Lexeme) → p ≡ length (pieces_lexemes done) + k → 1 ≤ k → 1 ≤ length ahead → statement_lexemes t ≡ take p s.lexemes ++ rest →
      IsShared kind left done ahead (statement_pieces t) k rest ⊎ IsOther done ahead (statement_pieces t) k rest
  shared_of t p k rest e some any f =
      shared_at t k rest some any (f ∙ ap (λ xs. xs ++ rest) (front_of p k e) ∙ append_assoc (pieces_lexemes done) (take k ahead) rest)

  -- a statement with a word next that has so many lexemes of those ahead
  begun_of : (w : Word) (p k : ℕ) (rest : List Lexeme) → p ≡ length (pieces_lexemes done) + k → word_lexemes w ≡ take k ahead ++ rest → IsBegun s kind left done w p
  begun_of w p k rest e begins =
      let ps = sample (f w) in
      let t = stand.goes_on (term kind left w ∷ ps.0) (writes_word ahead kind left f r is_word w ps.0 ps.1) in
      let behind : word_lexemes w ++ pieces_lexemes ps.0 ≡ take k ahead ++ (rest ++ pieces_lexemes ps.0) =
      ap (λ xs. xs ++ pieces_lexemes ps.0) begins ∙ append_assoc (take k ahead) rest (pieces_lexemes ps.0) in
      record {
        statement = t.0;
        back = ps.0;
        written = t.1;
        rest = rest ++ pieces_lexemes ps.0;
        shared = ap pieces_lexemes t.1 ∙ pieces_append done (term kind left w ∷ ps.0) ∙ ap (λ xs. pieces_lexemes done ++ xs) behind ∙
            sym (append_assoc (pieces_lexemes done) (take k ahead) (rest ++ pieces_lexemes ps.0)) ∙ ap (λ xs. xs ++ (rest ++ pieces_lexemes ps.0)) (sym (front_of p k e));
      }

  -- a word that shows no cause itself, and that is whole
  module _ (w : Word) (after : List Lexeme) (taken : IsTaken ahead w after) where
    same_whole : (v : Word) (cs : List Lexeme) (p k : ℕ) → IsWhole s.lexemes (length (pieces_lexemes done)) v p → p + 1 ≡ length (pieces_lexemes done) + k → k ≤ length ahead →
        word_lexemes v ≡ take k ahead ++ cs → v ≡ w
    same_whole v cs p k whole e within f =
        let count = length-take-le k ahead within in
        let last = whole.last in
        let none : cs ≡ [] = no_more cs (omega (arith, last, e, count, ap length f, length-append (take k ahead) cs)) in
        let front : word_lexemes v ≡ take k ahead = f ∙ ap (λ xs. take k ahead ++ xs) none ∙ append-nil (take k ahead) in
        (one_end v w (drop k ahead) after (ap (λ xs. xs ++ drop k ahead) front ∙ take-append-drop k ahead ∙ taken.split)
        (subst (EndsBefore v) (behind_of (p + 1) k e) whole.ended) taken.ended).0

    word_of : (qs : List Piece) (k : ℕ) (rest : List Lexeme) (share : IsShared kind left done ahead qs k rest) → k ≤ length (word_lexemes w) →
        (cs : List Lexeme) × (word_lexemes share.word ≡ take k ahead ++ cs)
    word_of qs k rest share short =
        ⊎_elim (λ h. h) (λ h. absurd (not_inside ahead w share.word after h.1 h.0 k taken short h.2 h.3))
        (cut share.word (pieces_lexemes share.others) (take k ahead) rest share.ended share.lexemes)

    ahead_within : length ahead ≡ length (word_lexemes w) + length after
    ahead_within = ap length taken.split ∙ length-append (word_lexemes w) after

    module _ (room : ¬ IsOneTooMany s.counts done kind) where
      by_term : (qs : List Piece) (k : ℕ) (rest : List Lexeme) (share : IsShared kind left done ahead qs k rest) → k ≤ length (word_lexemes w) →
          (p : ℕ) (c : Cause) → p + 1 ≡ length (pieces_lexemes done) + k → TermShows s.counts s.lexemes done kind left share.word p c → IsOfWord s kind left done w p c
      by_term qs k rest share short p c e (over f at full) = absurd (room full)
      by_term qs k rest share short p c e (inside q at shown) = absurd (taken.faultless q c (inr (subst (λ xs. words.IsShown xs q c) ahead_of shown)))
      by_term qs k rest share short p c e (long u side f whole too_long) =
          let h = word_of qs k rest share short in
          let same = same_whole share.word h.0 p k whole e (omega (arith, short, ahead_within)) h.1 in
          let mine = subst (λ v. IsWhole s.lexemes (length (pieces_lexemes done)) v p) same whole in
          record { last = mine.last; shows = long u side f mine (subst (λ v. WORD_LIMIT < word_letters u + word_letters v) same too_long) }
      by_term qs k rest share short p c e (many f whole too_many apart) =
          let h = word_of qs k rest share short in
          let same = same_whole share.word h.0 p k whole e (omega (arith, short, ahead_within)) h.1 in
          let mine = subst (λ v. IsWhole s.lexemes (length (pieces_lexemes done)) v p) same whole in
          record { last = mine.last; shows = many f mine (subst (λ v. LETTER_LIMIT < s.counts.letters + (letters_in done + word_letters v)) same too_many) apart }

      -- a piece behind the word shows nothing before its end
      too_late : (qs : List Piece) (k : ℕ) (rest : List Lexeme) (share : IsShared kind left done ahead qs k rest) → k ≤ length (word_lexemes w) →
          (p : ℕ) → p + 1 ≡ length (pieces_lexemes done) + k → (front mid : List Piece) → front ≡ done ++ term kind left share.word ∷ mid → length (pieces_lexemes front) ≤ p → ⊥
      too_late qs k rest share short p e front mid g late =
          let h = word_of qs k rest share short in
          let count = length-take-le k ahead (omega (arith, short, ahead_within)) in
          let size = ap length (ap pieces_lexemes g ∙ pieces_append done (term kind left share.word ∷ mid)) in
          let parts = length-append (pieces_lexemes done) (word_lexemes share.word ++ pieces_lexemes mid) in
          let inner = length-append (word_lexemes share.word) (pieces_lexemes mid) in
          omega (arith, e, late, count, size, parts, inner, ap length h.1, length-append (take k ahead) h.0)

      of_shared : (p : ℕ) (c : Cause) (shown : IsShown s.counts s.lexemes p c) (k : ℕ) → k ≤ length (word_lexemes w) → p + 1 ≡ length (pieces_lexemes done) + k →
          (share : IsShared kind left done ahead (statement_pieces shown.statement) k shown.rest) → IsOfWord s kind left done w p c
      of_shared p c shown k small e share =
          ⊎_elim (λ h. absurd (stand.quiet shown.front h.0 shown.piece p c h.1 shown.shows))
          (λ other. ⊎_elim (λ next. by_term (statement_pieces shown.statement) k shown.rest share small p c e
          (term_shows s.counts s.lexemes done kind left share.word p c (subst (λ q. Shows s.counts s.lexemes done q p c) next.1 (subst (λ ps. Shows s.counts s.lexemes ps shown.piece p c) next.0 shown.shows))))
          (λ later. absurd (too_late (statement_pieces shown.statement) k shown.rest share small p e shown.front later.0 later.1
          (shows_from s.counts s.lexemes shown.front shown.piece p c shown.shows))) other)
          (placed_in (statement_pieces shown.statement) done (term kind left share.word) share.others shown.front shown.piece shown.back share.written shown.written)

      of_word : (p : ℕ) (c : Cause) → IsShown s.counts s.lexemes p c → p < length (pieces_lexemes done) + length (word_lexemes w) → IsOfWord s kind left done w p c
      of_word p c shown short =
          let early = stand.early p c shown in
          let k : ℕ = (p + 1) - length (pieces_lexemes done) in
          let e : p + 1 ≡ length (pieces_lexemes done) + k = omega (arith, early) in
          let small : k ≤ length (word_lexemes w) = omega (arith, early, short) in
          ⊎_elim (λ share. of_shared p c shown k small e share) (λ other. absurd (name_quiet p k c shown.rest shown other))
          (shared_of shown.statement (p + 1) k shown.rest e (omega (arith, early)) (omega (arith, ahead_within, word_length w)) shown.shared)

      term_quiet : left_letters left + word_letters w ≤ WORD_LIMIT → s.counts.letters + (letters_in done + word_letters w) ≤ LETTER_LIMIT →
          (p : ℕ) (c : Cause) → TermShows s.counts s.lexemes done kind left w p c → ⊥
      term_quiet relation letters p c (over f at full) = room full
      term_quiet relation letters p c (inside q at shown) = taken.faultless q c (inr (subst (λ xs. words.IsShown xs q c) ahead_of shown))
      term_quiet relation letters p c (long u side f whole too_long) = absurd (omega (arith, relation, too_long, ap left_letters side))
      term_quiet relation letters p c (many f whole too_many apart) = absurd (omega (arith, letters, too_many))

      one_more : pieces_lexemes (done ++ term kind left w ∷ []) ≡ pieces_lexemes done ++ word_lexemes w
      one_more = pieces_append done (term kind left w ∷ []) ∙ ap (λ xs. pieces_lexemes done ++ xs) (append-nil (word_lexemes w))

      passed_only : (qs : List Piece) (zs : List Lexeme) → IsWriting qs → pieces_lexemes qs ≡ pieces_lexemes (done ++ term kind left w ∷ []) ++ zs → BeginAlike after zs →
          (ps : List Piece) × (qs ≡ (done ++ term kind left w ∷ []) ++ ps) × Reads (f w) ps
      passed_only qs zs writing e next =
          let longer : pieces_lexemes qs ≡ pieces_lexemes done ++ (word_lexemes w ++ zs) = e ∙ ap (λ xs. xs ++ zs) one_more ∙ append_assoc (pieces_lexemes done) (word_lexemes w) zs in
          let begins = subst (λ xs. BeginAlike xs (word_lexemes w ++ zs)) (sym taken.split) (alike_front (word_lexemes w) after zs (word_length w)) in
          let h = stand.only qs (word_lexemes w ++ zs) writing longer begins in
          let behind : pieces_lexemes h.0 ≡ word_lexemes w ++ zs =
          append_cancel_left (pieces_lexemes done) (pieces_lexemes h.0) (word_lexemes w ++ zs) (sym (pieces_append done h.0) ∙ ap pieces_lexemes (sym h.1) ∙ longer) in
          ⊎_elim (λ v.
          let same = one_end v.word w (pieces_lexemes v.others) zs (ap pieces_lexemes (sym v.split) ∙ behind)
          (ends_word v.word (f v.word) v.others v.reads (word_tells ahead kind left f r is_word stand.tells v.word).1) (ends_alike w after zs next taken.ended) in (
            v.others,
            h.1 ∙ ap (λ ps. done ++ ps) (v.split ∙ ap (λ u. term kind left u ∷ v.others) same.0) ∙ sym (append_assoc done (term kind left w ∷ []) v.others),
            subst (λ u. Reads (f u) v.others) same.0 v.reads,
          ))
          (λ n.
          let both = name_next (word_lexemes w) zs after n.behind (sym behind ∙ ap pieces_lexemes n.split) (word_length w) next in
          absurd (n.apart (n.behind, both.0, taken.split ∙ both.1, n.in_class)))
          (word_or_name ahead kind left f r is_word h.0 h.2)

      passed_quiet : ((p : ℕ) (c : Cause) → TermShows s.counts s.lexemes done kind left w p c → ⊥) → (front back : List Piece) (piece : Piece) (p : ℕ) (c : Cause) →
          done ++ term kind left w ∷ [] ≡ front ++ piece ∷ back → Shows s.counts s.lexemes front piece p c → ⊥
      passed_quiet none front back piece p c e shows =
          ⊎_elim (λ h. stand.quiet front h.0 piece p c h.1 shows)
          (λ other. ⊎_elim (λ next. none p c
          (term_shows s.counts s.lexemes done kind left w p c (subst (λ q. Shows s.counts s.lexemes done q p c) next.1 (subst (λ ps. Shows s.counts s.lexemes ps piece p c) next.0 shows))))
          (λ later. absurd (omega (
            arith,
            ap length e,
            length-append done (term kind left w ∷ []),
            length-append front (piece ∷ back),
            ap length later.1,
            length-append done (term kind left w ∷ later.0),
          ))) other)
          (placed done (term kind left w) [] front piece back e)

      passed_early : ((p : ℕ) (c : Cause) → TermShows s.counts s.lexemes done kind left w p c → ⊥) → (p : ℕ) (c : Cause) → IsShown s.counts s.lexemes p c →
          length (pieces_lexemes (done ++ term kind left w ∷ [])) ≤ p
      passed_early none p c shown =
          ⊎_elim (λ less. absurd (none p c (of_word p c shown less).shows))
          (λ late. omega (arith, late, ap length one_more, length-append (pieces_lexemes done) (word_lexemes w)))
          (cases_lt p (length (pieces_lexemes done) + length (word_lexemes w)))

      -- the word is taken where it shows no cause
      pub word_passed : left_letters left + word_letters w ≤ WORD_LIMIT → s.counts.letters + (letters_in done + word_letters w) ≤ LETTER_LIMIT →
          Stand s (f w) (done ++ term kind left w ∷ []) after
      word_passed relation letters =
          let none = term_quiet relation letters in
          record {
            split = stand.split ∙ ap (λ xs. pieces_lexemes done ++ xs) taken.split ∙ sym (append_assoc (pieces_lexemes done) (word_lexemes w) after) ∙ ap (λ xs. xs ++ after) (sym one_more);
            goes_on = λ ps reads. subst IsWriting (sym (append_assoc done (term kind left w ∷ []) ps)) (stand.goes_on (term kind left w ∷ ps) (writes_word ahead kind left f r is_word w ps reads));
            only = passed_only;
            tells = (word_tells ahead kind left f r is_word stand.tells w).0;
            quiet = passed_quiet none;
            early = passed_early none;
          }

      word_whole : (p : ℕ) → p + 1 ≡ length (pieces_lexemes done) + length (word_lexemes w) → IsWhole s.lexemes (length (pieces_lexemes done)) w p
      word_whole p e = record {
        faultless = subst words.IsFaultless (sym ahead_of) taken.faultless;
        last = e;
        ended = subst (EndsBefore w) (sym (behind_of (p + 1) (length (word_lexemes w)) e ∙ ap (λ xs. drop (length (word_lexemes w)) xs) taken.split ∙ drop-append_seam (word_lexemes w) after))
            taken.ended;
      }

      -- a cause at the last lexeme of the word
      at_end : (p : ℕ) (c : Cause) → p + 1 ≡ length (pieces_lexemes done) + length (word_lexemes w) → Shows s.counts s.lexemes done (term kind left w) p c →
          ((d : Cause) → TermShows s.counts s.lexemes done kind left w p d → cause_number c ≤ cause_number d) → IsFirstCause s.counts s.lexemes p c
      at_end p c e shows least =
          let front : word_lexemes w ≡ take (length (word_lexemes w)) ahead ++ [] =
          sym (append-nil (take (length (word_lexemes w)) ahead) ∙ ap (λ xs. take (length (word_lexemes w)) xs) taken.split ∙ take-append_seam (word_lexemes w) after) in
          let t = begun_of w (p + 1) (length (word_lexemes w)) [] e front in
          let within : p + 1 ≤ length s.lexemes = omega (arith, e, all_of, ahead_within) in
          record {
            stands = inr (record { within = omega (arith, within); statement = t.statement; rest = t.rest; shared = t.shared; front = done; piece = term kind left w; back = t.back; written = t.written; shows = shows });
            first = λ q d stands. ⊎_elim (λ unexpected.
                let past = reach_past s.lexemes q (p + 1) unexpected.1 within (t.statement, t.rest, t.shared) in inl (omega (arith, past)))
                (λ shown. ⊎_elim (λ less.
                let mine = of_word q d shown less in
                let same : p ≡ q = omega (arith, e, mine.last) in
                inr (same, least d (subst (λ r. TermShows s.counts s.lexemes done kind left w r d) (sym same) mine.shows)))
                (λ late. inl (omega (arith, e, late))) (cases_lt q (length (pieces_lexemes done) + length (word_lexemes w)))) stands;
          }

      -- an equation whose sides have too many letters together
      pub word_long : (p : ℕ) → p + 1 ≡ length (pieces_lexemes done) + length (word_lexemes w) → word_letters w ≤ WORD_LIMIT → WORD_LIMIT < left_letters left + word_letters w →
          IsFirstCause s.counts s.lexemes p cause.WordTooLong
      word_long p e short too_long =
          let u = some_left left w short too_long in
          let sum : WORD_LIMIT < word_letters u.0 + word_letters w = omega (arith, too_long, ap left_letters u.1) in
          at_end p cause.WordTooLong e
          (subst (λ l. Shows s.counts s.lexemes done (term kind l w) p cause.WordTooLong) (sym u.1) (long_relation kind u.0 w p (word_whole p e) sum))
          (long_least p)
        where
          long_least : (q : ℕ) (d : Cause) → TermShows s.counts s.lexemes done kind left w q d → cause_number cause.WordTooLong ≤ cause_number d
          long_least q d (over g at full) = absurd (room full)
          long_least q d (inside r at shown) = absurd (taken.faultless r d (inr (subst (λ xs. words.IsShown xs r d) ahead_of shown)))
          long_least q d (long u side g whole longer) = subst (λ c. 6 ≤ cause_number c) (sym g) (omega arith)
          long_least q d (many g whole too_many apart) = subst (λ c. 6 ≤ cause_number c) (sym g) (omega arith)

      -- the lexemes are no question about a name
      no_name_asked : (p : ℕ) → p + 1 ≡ length (pieces_lexemes done) + length (word_lexemes w) → IsNameAsked s.lexemes p → ⊥
      no_name_asked p e asked =
          let t = ask (has asked.0) in
          ⊎_elim (λ share. no_term done share.others kind left share.word (subst AreSigns share.written tt))
          (λ other.
          let k = length (word_lexemes w) + 1 in
          other.apart (
            other.behind,
            drop k ahead,
            sym (take-append-drop k ahead) ∙ ap (λ us. us ++ drop k ahead) (sym (append-nil (take k ahead)) ∙ sym other.lexemes),
            other.in_class,
          ))
          (shared_of t (p + 2) (length (word_lexemes w) + 1) [] (omega (arith, e)) (omega arith) (omega (arith, ahead_within, word_length w)) (asked.1 ∙ sym (append-nil (take (p + 2) s.lexemes))))

      -- all words have too many letters together
      pub word_many : (p : ℕ) → p + 1 ≡ length (pieces_lexemes done) + length (word_lexemes w) → left_letters left + word_letters w ≤ WORD_LIMIT →
          LETTER_LIMIT < s.counts.letters + (letters_in done + word_letters w) → IsFirstCause s.counts s.lexemes p cause.TooMany
      word_many p e relation sum = at_end p cause.TooMany e (too_many_letters kind left w p (word_whole p e) sum (no_name_asked p e)) (many_least p)
        where
          many_least : (q : ℕ) (d : Cause) → TermShows s.counts s.lexemes done kind left w q d → cause_number cause.TooMany ≤ cause_number d
          many_least q d (over g at full) = absurd (room full)
          many_least q d (inside r at shown) = absurd (taken.faultless r d (inr (subst (λ xs. words.IsShown xs r d) ahead_of shown)))
          many_least q d (long u side g whole longer) = absurd (omega (arith, relation, longer, ap left_letters side))
          many_least q d (many g whole too_many apart) = subst (λ c. 7 ≤ cause_number c) (sym g) (omega arith)

  -- the first cause is in the word
  module _ (room : ¬ IsOneTooMany s.counts done kind) (q : ℕ) (c : Cause) (fault : words.IsFirstCause ahead q c) (any : 1 ≤ length ahead) where
    none_reads : (reach : words.IsReach ahead q) (no_word : ¬ IsWord (take q ahead)) (t : Statement) (rest : List Lexeme) → statement_lexemes t ≡ pieces_lexemes done ++ (take (q + 1) ahead ++ rest) →
        (q ≡ length ahead → rest ≡ []) → ⊥
    none_reads reach no_word t rest e last =
        ⊎_elim (λ share.
        ⊎_elim (λ h. not_read ahead q reach no_word share.word (pieces_lexemes share.others) rest h.0 share.lexemes h.1 last)
        (λ h. h.3 (goes_within ahead q c fault.stands share.word h.0 h.1 (q + 1) (omega arith) h.2))
        (cut share.word (pieces_lexemes share.others) (take (q + 1) ahead) rest share.ended share.lexemes))
        (λ other. name_not_read ahead q other.behind rest reach any other.lexemes other.in_class other.apart last)
        (shared_at t (q + 1) rest (omega arith) any e)

    unexpected_reach : words.IsReach ahead q → (¬ IsWord (take q ahead)) → IsReach s.lexemes (length (pieces_lexemes done) + q)
    unexpected_reach reach no_word =
        let t = begun_of reach.begins.0 (length (pieces_lexemes done) + q) q reach.begins.1 refl reach.begins.2 in
        let within = reach.within in
        record {
          within = omega (arith, within, all_of);
          begins = (t.statement, t.rest, t.shared);
          no_more = λ less begins. none_reads reach no_word begins.0 begins.1
              (begins.2 ∙ ap (λ xs. xs ++ begins.1) (front_of (length (pieces_lexemes done) + q + 1) (q + 1) (omega arith)) ∙ append_assoc (pieces_lexemes done) (take (q + 1) ahead) begins.1)
              (λ same. absurd (omega (arith, less, all_of, same)));
        }

    unexpected_none : words.IsReach ahead q → (¬ IsWord (take q ahead)) → ¬ IsStatement s.lexemes
    unexpected_none reach no_word all =
        none_reads reach no_word all.0 (drop (q + 1) ahead) (all.1 ∙ stand.split ∙ ap (λ xs. pieces_lexemes done ++ xs) (sym (take-append-drop (q + 1) ahead)))
        (λ same. no_more (drop (q + 1) ahead) (omega (arith, length-drop (q + 1) ahead, same)))

    inside_begins : (shown : words.IsShown ahead q c) → IsBegun s kind left done shown.word (length (pieces_lexemes done) + q + 1)
    inside_begins shown =
        let inner = shown.within in
        let front : take (q + 1) (take shown.shared ahead) ≡ take (q + 1) ahead = take-take (q + 1) shown.shared ahead (omega (arith, inner)) in
        let begins : word_lexemes shown.word ≡ take (q + 1) ahead ++ (drop (q + 1) (take shown.shared ahead) ++ shown.agrees.rest) =
        shown.agrees.shared ∙ ap (λ xs. xs ++ shown.agrees.rest) (sym (take-append-drop (q + 1) (take shown.shared ahead))) ∙
        append_assoc (take (q + 1) (take shown.shared ahead)) (drop (q + 1) (take shown.shared ahead)) shown.agrees.rest ∙
        ap (λ xs. xs ++ (drop (q + 1) (take shown.shared ahead) ++ shown.agrees.rest)) front in
        begun_of shown.word (length (pieces_lexemes done) + q + 1) (q + 1) (drop (q + 1) (take shown.shared ahead) ++ shown.agrees.rest) (omega arith) begins

    inside_within : (shown : words.IsShown ahead q c) → length (pieces_lexemes done) + q < length s.lexemes
    inside_within shown = let inner = shown.within in let outer = shown.agrees.reach.within in omega (arith, inner, outer, all_of)

    inside_stands : words.IsShown ahead q c → Stands s.counts s.lexemes (length (pieces_lexemes done) + q) c
    inside_stands shown =
        let t = inside_begins shown in
        inr (record {
          within = inside_within shown;
          statement = t.statement;
          rest = t.rest;
          shared = t.shared;
          front = done;
          piece = term kind left shown.word;
          back = t.back;
          written = t.written;
          shows = in_word kind left shown.word (length (pieces_lexemes done) + q) q c refl (subst (λ xs. words.IsShown xs q c) (sym ahead_of) shown);
        })

    word_stands : Stands s.counts s.lexemes (length (pieces_lexemes done) + q) c
    word_stands = ⊎_elim (λ h. inl (h.0, unexpected_reach h.1 h.2, unexpected_none h.1 h.2)) inside_stands fault.stands

    abbrev IsNotBefore : ℕ → Cause → Type 0
    IsNotBefore p d = (length (pieces_lexemes done) + q < p) ⊎ ((length (pieces_lexemes done) + q ≡ p) × (cause_number c ≤ cause_number d))

    reach_late : (p : ℕ) (d : Cause) → d ≡ cause.Unexpected → IsReach s.lexemes p → IsNotBefore p d
    reach_late p d g reach =
        ⊎_elim (λ h.
        inr (one_reach s.lexemes (length (pieces_lexemes done) + q) p (unexpected_reach h.1 h.2) reach, subst (λ e. cause_number c ≤ cause_number e) (sym g) (subst (λ e. cause_number e ≤ 3) (sym h.0) (omega arith))))
        (λ shown.
        let t = inside_begins shown in
        let inner = inside_within shown in
        let past = reach_past s.lexemes p (length (pieces_lexemes done) + q + 1) reach (omega (arith, inner)) (t.statement, t.rest, t.shared) in
        inl (omega (arith, past))) fault.stands

    refused_term : (p k : ℕ) (d : Cause) (qs : List Piece) (rest : List Lexeme) (share : IsShared kind left done ahead qs k rest) → TermShows s.counts s.lexemes done kind left share.word p d → IsNotBefore p d
    refused_term p k d qs rest share (over g at full) = absurd (room full)
    refused_term p k d qs rest share (inside r at shown) =
        ⊎_elim (λ less. inl (omega (arith, less, at))) (λ same. inr (omega (arith, same.0, at), same.1))
        (fault.first r d (inr (subst (λ xs. words.IsShown xs r d) ahead_of shown)))
    refused_term p k d qs rest share (long u side g whole too_long) = absurd (subst words.IsFaultless ahead_of whole.faultless q c fault.stands)
    refused_term p k d qs rest share (many g whole too_many apart) = absurd (subst words.IsFaultless ahead_of whole.faultless q c fault.stands)

    refused_later : (p k : ℕ) (qs : List Piece) (rest : List Lexeme) (share : IsShared kind left done ahead qs k rest) → k ≤ q + 1 → k ≤ length ahead → p + 1 ≡ length (pieces_lexemes done) + k →
        (front mid : List Piece) → front ≡ done ++ term kind left share.word ∷ mid → length (pieces_lexemes front) ≤ p → ⊥
    refused_later p k qs rest share small within e front mid g late =
        let size = ap length (ap pieces_lexemes g ∙ pieces_append done (term kind left share.word ∷ mid)) in
        let parts = length-append (pieces_lexemes done) (word_lexemes share.word ++ pieces_lexemes mid) in
        let inner = length-append (word_lexemes share.word) (pieces_lexemes mid) in
        let count = length-take-le k ahead within in
        ⊎_elim (λ h. absurd (omega (arith, e, late, count, size, parts, inner, ap length h.1, length-append (take k ahead) h.0)))
        (λ h. h.3 (goes_within ahead q c fault.stands share.word h.0 h.1 k small h.2))
        (cut share.word (pieces_lexemes share.others) (take k ahead) rest share.ended share.lexemes)

    shown_late : (p : ℕ) (d : Cause) → IsShown s.counts s.lexemes p d → p ≤ length (pieces_lexemes done) + q → IsNotBefore p d
    shown_late p d shown short =
        let early = stand.early p d shown in
        let outer = shown.within in
        let k : ℕ = (p + 1) - length (pieces_lexemes done) in
        let e : p + 1 ≡ length (pieces_lexemes done) + k = omega (arith, early) in
        ⊎_elim (λ share.
        ⊎_elim (λ h. absurd (stand.quiet shown.front h.0 shown.piece p d h.1 shown.shows))
        (λ other. ⊎_elim (λ next. refused_term p k d (statement_pieces shown.statement) shown.rest share
        (term_shows s.counts s.lexemes done kind left share.word p d (subst (λ r. Shows s.counts s.lexemes done r p d) next.1 (subst (λ ps. Shows s.counts s.lexemes ps shown.piece p d) next.0 shown.shows))))
        (λ later. absurd (refused_later p k (statement_pieces shown.statement) shown.rest share (omega (arith, early, short)) (omega (arith, early, outer, all_of)) e shown.front later.0 later.1
        (shows_from s.counts s.lexemes shown.front shown.piece p d shown.shows))) other)
        (placed_in (statement_pieces shown.statement) done (term kind left share.word) share.others shown.front shown.piece shown.back share.written shown.written))
        (λ other. absurd (name_quiet p k d shown.rest shown other))
        (shared_of shown.statement (p + 1) k shown.rest e (omega (arith, early)) any shown.shared)

    pub word_refused : IsFirstCause s.counts s.lexemes (length (pieces_lexemes done) + q) c
    word_refused = record {
      stands = word_stands;
      first = λ p d stands. ⊎_elim (λ h. reach_late p d h.0 h.1)
          (λ shown. ⊎_elim (λ less. inl less) (λ short. shown_late p d shown short) (cases_lt (length (pieces_lexemes done) + q) p)) stands;
    }

  -- the word is one too many
  module _ (full : IsOneTooMany s.counts done kind) (alone : left ≡ None) (x : Lexeme) (xs : List Lexeme) (next : ahead ≡ x ∷ xs) (base : BeginsBase x) where
    full_begins : (w : Word) × IsBegun s kind left done w (length (pieces_lexemes done) + 1)
    full_begins =
        let w = base_word x base in
        (w.0, begun_of w.0 (length (pieces_lexemes done) + 1) 1 w.1 refl (w.2 ∙ ap (λ ys. take 1 ys ++ w.1) (sym next)))

    full_within : length (pieces_lexemes done) + 1 ≤ length s.lexemes
    full_within = omega (arith, all_of, ap length next)

    full_term : (p k : ℕ) (d : Cause) (w : Word) → p ≡ length (pieces_lexemes done) → TermShows s.counts s.lexemes done kind left w p d → d ≡ cause.TooMany
    full_term p k d w e (over g at most) = g
    full_term p k d w e (inside r at shown) =
        let front : r ≡ 0 = omega (arith, e, at) in
        first_lexeme ahead d (subst (λ m. words.IsShown ahead m d) front (subst (λ ys. words.IsShown ys r d) ahead_of shown))
    full_term p k d w e (long u side g whole too_long) = absurd (some_none u (sym side ∙ alone))
    full_term p k d w e (many g whole too_many apart) = g

    full_late : (p : ℕ) (d : Cause) → IsShown s.counts s.lexemes p d → (length (pieces_lexemes done) < p) ⊎ ((length (pieces_lexemes done) ≡ p) × (7 ≤ cause_number d))
    full_late p d shown =
        let early = stand.early p d shown in
        ⊎_elim (λ less. inl less)
        (λ short.
        let same : p ≡ length (pieces_lexemes done) = omega (arith, early, short) in
        let late = shows_from s.counts s.lexemes shown.front shown.piece p d shown.shows in
        ⊎_elim (λ share.
        ⊎_elim (λ h. absurd (stand.quiet shown.front h.0 shown.piece p d h.1 shown.shows))
        (λ other. ⊎_elim (λ at.
        let g = full_term p 1 d share.word same
        (term_shows s.counts s.lexemes done kind left share.word p d (subst (λ r. Shows s.counts s.lexemes done r p d) at.1 (subst (λ ps. Shows s.counts s.lexemes ps shown.piece p d) at.0 shown.shows))) in
        inr (sym same, subst (λ c. 7 ≤ cause_number c) (sym g) (omega arith)))
        (λ later. absurd (omega (
          arith,
          same,
          late,
          word_length share.word,
          ap length (ap pieces_lexemes later.1 ∙ pieces_append done (term kind left share.word ∷ later.0)),
          length-append (pieces_lexemes done) (word_lexemes share.word ++ pieces_lexemes later.0),
          length-append (word_lexemes share.word) (pieces_lexemes later.0),
        ))) other)
        (placed_in (statement_pieces shown.statement) done (term kind left share.word) share.others shown.front shown.piece shown.back share.written shown.written))
        (λ other. absurd (name_quiet p 1 d shown.rest shown other))
        (shared_of shown.statement (p + 1) 1 shown.rest (omega (arith, same)) (omega arith) (omega (arith, ap length next)) shown.shared))
        (cases_lt (length (pieces_lexemes done)) p)

    pub word_full : IsFirstCause s.counts s.lexemes (length (pieces_lexemes done)) cause.TooMany
    word_full =
        let t = full_begins in
        record {
          stands = inr (record {
            within = omega (arith, full_within);
            statement = t.1.statement;
            rest = t.1.rest;
            shared = t.1.shared;
            front = done;
            piece = term kind left t.0;
            back = t.1.back;
            written = t.1.written;
            shows = one_word_too_many kind left t.0 (length (pieces_lexemes done)) refl full;
          });
          first = λ p d stands. ⊎_elim (λ unexpected.
              let past = reach_past s.lexemes p (length (pieces_lexemes done) + 1) unexpected.1 full_within (t.1.statement, t.1.rest, t.1.shared) in inl (omega (arith, past)))
              (λ shown. full_late p d shown) stands;
        }

-- what read_word answers
pub word_taken : (ahead : List Lexeme) (r : WordRead) (is_read : IsRead ahead r) → words.IsFaultless ahead → IsTaken ahead is_read.word (drop r.count ahead)
word_taken ahead r is_read faultless = record {
  split = sym (take-append-drop r.count ahead) ∙ ap (λ xs. xs ++ drop r.count ahead) (sym is_read.lexemes);
  faultless = faultless;
  ended = reach_ends ahead is_read.word r.count is_read.lexemes is_read.reach;
}
