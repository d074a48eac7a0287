-- What a word brings to the reader.
use Rattle.std.proofs.Common.{◌≡◌, ℕ, ◌+◌, ◌-◌, ◌<◌, ◌≤◌, Option, None, List, [], ◌∷◌, ◌++◌, length, drop, sym, ap, subst, ◌∙◌, arith, length-append}
use Rattle.std.proofs.lemmas.List.{length-take-le}
use Rattle.mg_lex.specs.declared.refusal.Cause.{Cause}
use Rattle.mg_lex.specs.declared.refusal.Cause.TheVariants as cause
use Rattle.mg_terms.specs.declared.lexeme.Lexeme.{Lexeme}
use Rattle.mg_terms.specs.declared.limits.TheConstants.{WORD_LIMIT}
use Rattle.mg_terms.specs.declared.read.WordRead.{WordRead}
use Rattle.mg_terms.specs.Read.{IsRead}
use Rattle.mg_terms.specs.Word.{Word, word_lexemes}
use Rattle.mg_terms.specs.Cause as words
use Rattle.mg_script.specs.declared.counted.Counted.{Counted}
use Rattle.mg_script.specs.declared.counted.Counts.{Counts}
use Rattle.mg_script.specs.declared.counted.TheConstants.{LETTER_LIMIT}
use Rattle.mg_script.specs.declared.reader.Reader.{Reader}
use Rattle.mg_script.specs.declared.sign.Role.{Role}
use Rattle.mg_script.specs.declared.sign.Role.TheVariants as role
use Rattle.mg_script.specs.Statement.{term, pieces_lexemes}
use Rattle.mg_script.specs.Cause.{IsOneTooMany, IsFirstCause}
use Rattle.mg_script.specs.Grammar.{Rest}
use Rattle.mg_script.specs.Count.{left_letters}
use Rattle.mg_script.specs.Reader.{Start, Knows, IsWordThen, BeginsWord, AddsOne, IsOf, kind_of, IsLeft, numbers}
use Rattle.mg_script.proofs.Standing.{pieces_push, word_length}
use Rattle.mg_script.proofs.Steps.{adds_piece, bounded_push, within_one, full_since, room_since, same_count, ahead_is}
use Rattle.mg_script.proofs.Words.{word_taken, word_passed, word_long, word_many, word_refused, word_full}

-- a word that is counted has no left side
none_left : (r : Role) (left : Option Word) (counts : Counts) → IsLeft r left → IsOneTooMany counts [] (kind_of r) → left ≡ None
none_left role.Plain left counts is_left full = is_left
none_left (role.Counted k) left counts is_left full = is_left
none_left (role.RightSide n) left counts is_left full = absurd full

-- by what is ahead
ahead_word : (s : Start) (kind : Option Counted) (left : Option Word) (f : Word → Rest) (r : Rest) (now : Reader) → IsWordThen (drop now.place now.lexemes.now) kind left f r → (knows : Knows s r now) →
    IsWordThen knows.ahead kind left f r
ahead_word s kind left f r now is_word knows = subst (λ zs. IsWordThen zs kind left f r) (ahead_is s r now knows) is_word

pub word_over : (s : Start) (role : Role) (left : Option Word) (f : Word → Rest) (r : Rest) (now : Reader) → IsLeft role left → IsWordThen (drop now.place now.lexemes.now) (kind_of role) left f r → Knows s r now →
    BeginsWord now → IsOneTooMany now.counts [] (kind_of role) → IsFirstCause s.counts s.lexemes now.place cause.TooMany
word_over s role left f r now is_left is_word knows begins full =
    let e : knows.ahead ≡ begins.0 ∷ begins.1 = sym (ahead_is s r now knows) ∙ begins.2 in
    subst (λ p. IsFirstCause s.counts s.lexemes p cause.TooMany) (sym knows.place)
    (word_full s (kind_of role) left f r knows.done knows.ahead (ahead_word s (kind_of role) left f r now is_word knows) knows.stand (full_since s.counts now.counts knows.done (kind_of role) knows.adds full)
    (none_left role left now.counts is_left full) begins.0 begins.1 e begins.3)

pub word_wrong : (s : Start) (kind : Option Counted) (left : Option Word) (f : Word → Rest) (r : Rest) (now : Reader) → IsWordThen (drop now.place now.lexemes.now) kind left f r → Knows s r now →
    BeginsWord now → ¬ IsOneTooMany now.counts [] kind →
    (q : ℕ) (c : Cause) → words.IsFirstCause (drop now.place now.lexemes.now) q c → IsFirstCause s.counts s.lexemes (now.place + q) c
word_wrong s kind left f r now is_word knows begins room q c first =
    let same = ahead_is s r now knows in
    let e : knows.ahead ≡ begins.0 ∷ begins.1 = sym same ∙ begins.2 in
    subst (λ n. IsFirstCause s.counts s.lexemes (n + q) c) (sym knows.place)
    (word_refused s kind left f r knows.done knows.ahead (ahead_word s kind left f r now is_word knows) knows.stand (room_since s.counts now.counts knows.done kind knows.adds room) q c
    (subst (λ zs. words.IsFirstCause zs q c) same first) (omega (arith, ap length e)))

-- a word that has been read
pub read_count : (xs : List Lexeme) (r : WordRead) (is_read : IsRead xs r) → length (word_lexemes is_read.word) ≡ r.count
read_count xs r is_read = ap length is_read.lexemes ∙ length-take-le r.count xs is_read.reach.within

pub read_some : (xs : List Lexeme) (r : WordRead) → IsRead xs r → 1 ≤ r.count
read_some xs r is_read = omega (arith, read_count xs r is_read, word_length is_read.word)

module _ (s : Start) (kind : Option Counted) (left : Option Word) (f : Word → Rest) (r : Rest) (now : Reader) (found : WordRead) (is_word : IsWordThen (drop now.place now.lexemes.now) kind left f r) (knows : Knows s r now)
    (is_read : IsRead (drop now.place now.lexemes.now) found) (faultless : words.IsFaultless (drop now.place now.lexemes.now)) (room : ¬ IsOneTooMany now.counts [] kind) where
  same_ahead : drop now.place now.lexemes.now ≡ knows.ahead
  same_ahead = ahead_is s r now knows

  word_here : IsWordThen knows.ahead kind left f r
  word_here = ahead_word s kind left f r now is_word knows

  here : IsRead knows.ahead found
  here = subst (λ zs. IsRead zs found) same_ahead is_read

  faultless_here : words.IsFaultless knows.ahead
  faultless_here = subst words.IsFaultless same_ahead faultless

  room_here : ¬ IsOneTooMany s.counts knows.done kind
  room_here = room_since s.counts now.counts knows.done kind knows.adds room

  last_place : now.place + found.count - 1 + 1 ≡ length (pieces_lexemes knows.done) + length (word_lexemes here.word)
  last_place = omega (arith, knows.place, read_count knows.ahead found here, read_some knows.ahead found here)

  pub relation_long : found.letters ≤ WORD_LIMIT → WORD_LIMIT < left_letters left + found.letters → IsFirstCause s.counts s.lexemes (now.place + found.count - 1) cause.WordTooLong
  relation_long short long =
      word_long s kind left f r knows.done knows.ahead word_here knows.stand here.word (drop found.count knows.ahead) (word_taken knows.ahead found here faultless_here) room_here
      (now.place + found.count - 1) last_place (omega (arith, short, here.letters)) (omega (arith, long, here.letters))

  pub letters_many : left_letters left + found.letters ≤ WORD_LIMIT → LETTER_LIMIT < now.counts.letters + found.letters → IsFirstCause s.counts s.lexemes (now.place + found.count - 1) cause.TooMany
  letters_many short many =
      word_many s kind left f r knows.done knows.ahead word_here knows.stand here.word (drop found.count knows.ahead) (word_taken knows.ahead found here faultless_here) room_here
      (now.place + found.count - 1) last_place (omega (arith, short, here.letters)) (omega (arith, many, here.letters, knows.adds.letters))

  pub word_read : (middle new : Counts) → left_letters left + found.letters ≤ WORD_LIMIT → now.counts.letters + found.letters ≤ LETTER_LIMIT →
      AddsOne kind now.counts middle → middle.letters ≡ now.counts.letters → numbers new ≡ numbers middle → new.letters ≡ middle.letters + found.letters →
      (w : Word) × IsOf w found × Knows s (f w) (record { lexemes = now.lexemes; place = now.place + found.count; counts = new })
  word_read middle new short few one before same letters =
      let w = here.word in
      let rest = drop found.count knows.ahead in
      let count = read_count knows.ahead found here in (
        w,
        (count, here.letters),
        record {
          done = knows.done ++ term kind left w ∷ [];
          ahead = rest;
          stand = word_passed s kind left f r knows.done knows.ahead word_here knows.stand w rest (word_taken knows.ahead found here faultless_here) room_here
              (omega (arith, short, here.letters)) (omega (arith, few, here.letters, knows.adds.letters));
          lexemes = knows.lexemes;
          place = omega (arith, knows.place, count, ap length (pieces_push knows.done (term kind left w)), length-append (pieces_lexemes knows.done) (word_lexemes w));
          adds = adds_piece s.counts now.counts new knows.done (term kind left w) knows.adds (λ k. same_count new middle same k ∙ one k) (omega (arith, letters, before, here.letters));
          bounded = bounded_push knows.done (term kind left w) knows.bounded (record { within = here.within; relation = omega (arith, short, here.letters) });
          within = λ start. within_one now.counts new kind (λ k. same_count new middle same k ∙ one k) room (knows.within start) (omega (arith, letters, before, few));
        },
      )
