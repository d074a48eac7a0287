-- A name and a property, which is asked of what the name stands for.
use Rattle.std.proofs.Common.{◌≡◌, inr, ⊎_elim, ℕ, ◌+◌, ◌≤◌, Bool, true, false, None, Some, List, [], ◌∷◌, ◌++◌, map, length, take, drop, refl, sym, ap, subst, ◌∙◌, arith, append_assoc, append-nil, length-append}
use Rattle.std.specs.List.{AllByRecursion}
use Rattle.std.proofs.Math.Seq.{drop-append_seam}
use Rattle.std.proofs.lemmas.Bool.{cases_lt}
use Rattle.mg_lex.specs.declared.keyword.Keyword.{Keyword}
use Rattle.mg_lex.specs.declared.keyword.Keyword.TheVariants as keyword
use Rattle.mg_lex.specs.declared.refusal.Cause.{Cause}
use Rattle.mg_lex.specs.declared.mark.Mark.TheVariants as mark
use Rattle.mg_terms.specs.declared.lexeme.Lexeme.{Lexeme}
use Rattle.mg_terms.specs.declared.lexeme.Lexeme.TheVariants as lexeme
use Rattle.mg_terms.specs.Word.{name, Word, word_lexemes}
use Rattle.mg_terms.specs.Cause as words
use Rattle.mg_terms.specs.Reading.{none, behind, state}
use Rattle.mg_terms.proofs.Faults.{word_stops}
use Rattle.mg_words.specs.declared.procedure.Procedure.{Procedure}
use Rattle.mg_words.specs.declared.procedure.Procedure.TheVariants as procedure
use Rattle.mg_script.specs.declared.form.Property.{Property}
use Rattle.mg_script.specs.declared.form.Property.TheVariants as property
use Rattle.mg_script.specs.declared.form.Printed.TheVariants as printed
use Rattle.mg_script.specs.declared.reader.Reader.{Reader}
use Rattle.mg_script.specs.Statement.{equal, member, vanishes, central, has, Statement, group, word, subgroup, mapping, ask, fund, grant, run, cancel, report, Piece, sign, term, a_name, the_mark, the_keyword, property_keyword, procedure_keyword, pieces_lexemes, listed, generator_names, bar_pieces, member_pieces, arrow_pieces, statement_pieces, statement_lexemes}
use Rattle.mg_script.specs.Count.{Adds, IsBounded}
use Rattle.mg_script.specs.Cause.{IsNameAsked, Shows, IsShown}
use Rattle.mg_script.specs.Grammar.{IsIn, a_property, end, sign_then, words_rest, property_rest, first_word_rest, asked_rest, Reads, reads_sign, reads_end, reads_one}
use Rattle.mg_script.specs.Reader.{Start, IsWriting, BeginAlike, Stand, Knows, IsPropertyNext}
use Rattle.mg_script.proofs.Rests.{name_alone, sign_inv, this_inv, end_inv, word_inv, by_two_inv, reads_this}
use Rattle.mg_script.proofs.Standing.{pieces_append, split_at, word_length, shows_from, front_of, shared, ShownBehind, shown_behind}
use Rattle.mg_script.proofs.Steps.{ahead_is, adds_piece, none_added, bounded_push}
use Rattle.mg_script.proofs.Words.{TermShows, over, inside, long, many, term_shows, signs_quiet}

-- the last piece
last_piece : Piece → List Piece → Piece
last_piece p [] = p
last_piece p (q ∷ ps) = last_piece q ps

last_is : (p q : Piece) (ps : List Piece) → last_piece p (ps ++ q ∷ []) ≡ q
unfolding last_piece
last_is p q [] = refl
last_is p q (r ∷ ps) = last_is r q ps

last_behind : (p q : Piece) (ps qs : List Piece) → last_piece p (ps ++ (qs ++ q ∷ [])) ≡ q
unfolding last_piece
last_behind p q [] qs = last_is p q qs
last_behind p q (r ∷ ps) qs = last_behind r q ps qs

-- keywords of properties
is_property : Keyword → Bool
is_property keyword.Trivial = true
is_property keyword.Abelian = true
is_property keyword.Normal = true
is_property keyword.Extends = true
is_property keyword.Onto = true
is_property _ = false

property_is : (p : Property) → is_property (property_keyword p) ≡ true
unfolding is_property
property_is property.Trivial = refl
property_is property.Abelian = refl
property_is property.Normal = refl
property_is property.Extends = refl
property_is property.Onto = refl

procedure_is_none : (p : Procedure) → is_property (procedure_keyword p) ≡ false
unfolding is_property
procedure_is_none procedure.Derive = refl
procedure_is_none procedure.Act = refl
procedure_is_none procedure.Residue = refl
procedure_is_none procedure.Rewrite = refl
procedure_is_none procedure.Cosets = refl
procedure_is_none procedure.Nielsen = refl
procedure_is_none procedure.Recall = refl

apart_from : (k : Keyword) (p : Property) → is_property k ≡ false → the_keyword k ≡ the_keyword (property_keyword p) → ⊥
apart_from k p e f =
    let same : k ≡ property_keyword p = cc in
    let both : false ≡ true = sym e ∙ ap is_property same ∙ property_is p in
    absurd cc

-- a statement that ends in a property asks it of a name
property_last : (s : Statement) (p : Property) (front : List Piece) → statement_pieces s ≡ front ++ the_keyword (property_keyword p) ∷ [] → (q : Property) × (s ≡ ask (has q))
unfolding last_piece is_property
property_last s p front e = by_last s (ap (last_piece a_name) e ∙ last_is a_name (the_keyword (property_keyword p)) front)
  where
    by_last : (t : Statement) → last_piece a_name (statement_pieces t) ≡ the_keyword (property_keyword p) → (q : Property) × (t ≡ ask (has q))
    by_last (group n rs) f =
        let same : the_mark mark.Greater ≡ the_keyword (property_keyword p) = sym (last_behind (the_mark mark.Less) (the_mark mark.Greater) (listed (generator_names n)) (bar_pieces rs)) ∙ f in absurd cc
    by_last (word w) f = absurd cc
    by_last (subgroup ws) f =
        let same : the_mark mark.Greater ≡ the_keyword (property_keyword p) = sym (last_is (the_mark mark.Less) (the_mark mark.Greater) (listed (map member_pieces ws))) ∙ f in absurd cc
    by_last (mapping ws) f =
        let same : the_mark mark.CloseSquare ≡ the_keyword (property_keyword p) = sym (last_is (the_mark mark.OpenSquare) (the_mark mark.CloseSquare) (listed (map arrow_pieces ws))) ∙ f in absurd cc
    by_last (ask (equal u v)) f = absurd cc
    by_last (ask (member w)) f = absurd cc
    by_last (ask (vanishes w)) f = absurd cc
    by_last (ask (central w)) f = absurd cc
    by_last (ask (has q)) f = (q, refl)
    by_last (fund n) f = absurd cc
    by_last (grant q n) f = absurd cc
    by_last (run None) f = absurd (apart_from keyword.Run p refl f)
    by_last (run (Some n)) f = absurd cc
    by_last (cancel q) f = absurd (apart_from (procedure_keyword q) p (procedure_is_none q) f)
    by_last (report printed.Questions) f = absurd cc
    by_last (report printed.Facts) f = absurd (apart_from keyword.Facts p refl f)
    by_last (report printed.Log) f = absurd (apart_from keyword.Log p refl f)

-- a name with a keyword behind it is a word in which no cause stands
name_faultless : (k : Keyword) (xs : List Lexeme) → words.IsFaultless (lexeme.Name ∷ lexeme.Keyword k ∷ xs)
name_faultless k xs = (word_stops (lexeme.Name ∷ []) (lexeme.Keyword k ∷ xs) (state [] (behind none name)) name_alone refl refl (omega arith, (omega arith, tt)) refl).2

-- A name and a property are next.
module _ (s : Start) (done : List Piece) (x : Lexeme) (xs : List Lexeme) (stand : Stand s asked_rest done (lexeme.Name ∷ x ∷ xs)) (property : IsIn a_property x) where
  two : List Piece
  two = sign None lexeme.Name ∷ sign None x ∷ []

  split_two : pieces_lexemes (done ++ two) ≡ pieces_lexemes done ++ lexeme.Name ∷ x ∷ []
  unfolding two
  split_two = pieces_append done (sign None lexeme.Name ∷ sign None x ∷ [])

  reads_two : Reads property_rest two
  unfolding two
  reads_two = reads_this None lexeme.Name (sign_then None a_property end) (sign None x ∷ []) (reads_sign None a_property end x [] property reads_end)

  written_two : IsWriting (done ++ two)
  written_two = stand.goes_on two (reads_one property_rest first_word_rest two reads_two)

  -- the lexemes up to and with the property are a question about a name
  asked_two : IsNameAsked s.lexemes (length (pieces_lexemes done))
  unfolding two
  asked_two =
      let t = written_two in
      let same : the_keyword (property_keyword property.0) ≡ sign None x = ap (λ y. sign None y) (sym property.1) in
      let q = property_last t.0 property.0 (done ++ sign None lexeme.Name ∷ [])
      (t.1 ∙ sym (append_assoc done (sign None lexeme.Name ∷ []) (sign None x ∷ [])) ∙ ap (λ p. (done ++ sign None lexeme.Name ∷ []) ++ p ∷ []) (sym same)) in
      (q.0, ap statement_lexemes (sym q.1) ∙ ap pieces_lexemes t.1 ∙ split_two ∙ sym (front_of s asked_rest done (lexeme.Name ∷ x ∷ xs) stand 2))

  ahead_here : drop (length (pieces_lexemes done)) s.lexemes ≡ lexeme.Name ∷ lexeme.Keyword (property_keyword property.0) ∷ xs
  ahead_here = ap (drop (length (pieces_lexemes done))) stand.split ∙ drop-append_seam (pieces_lexemes done) (lexeme.Name ∷ x ∷ xs) ∙ ap (λ y. lexeme.Name ∷ y ∷ xs) property.1

  -- a word that begins with the name shows nothing at it
  word_quiet : (w : Word) (c : Cause) → TermShows s.counts s.lexemes done None None w (length (pieces_lexemes done)) c → ⊥
  word_quiet w c (over e at full) = full
  word_quiet w c (inside r at shown) = name_faultless (property_keyword property.0) xs r c (inr (subst (λ ys. words.IsShown ys r c) ahead_here shown))
  word_quiet w c (long u side e whole too_long) = absurd cc
  word_quiet w c (many e whole too_many apart) = apart asked_two

  name_shows_one : (q : ℕ) (c : Cause) (h : ShownBehind s asked_rest done (lexeme.Name ∷ x ∷ xs) q c) → h.count ≡ 1 → (w : Word) (others : List Piece) → h.pieces ≡ term None None w ∷ others →
      (front : List Piece) → h.front ≡ front → ⊥
  name_shows_one q c h one w others split [] e =
      let here : q ≡ length (pieces_lexemes done) = omega (arith, h.place, one) in
      let list : term None None w ∷ others ≡ h.piece ∷ h.back = sym split ∙ h.split ∙ ap (λ fs. fs ++ h.piece ∷ h.back) e in
      let same : h.piece ≡ term None None w = cc in
      let before : done ++ h.front ≡ done = ap (λ fs. done ++ fs) e ∙ append-nil done in
      word_quiet w c
      (subst (λ p. TermShows s.counts s.lexemes done None None w p c) here
      (term_shows s.counts s.lexemes done None None w q c (subst (λ o. Shows s.counts s.lexemes done o q c) same (subst (λ fs. Shows s.counts s.lexemes fs h.piece q c) before h.shows))))
  name_shows_one q c h one w others split (f ∷ front) e =
      let list : term None None w ∷ others ≡ f ∷ (front ++ h.piece ∷ h.back) = sym split ∙ h.split ∙ ap (λ fs. fs ++ h.piece ∷ h.back) e in
      let same : f ≡ term None None w = cc in
      let from = shows_from s.counts s.lexemes (done ++ h.front) h.piece q c h.shows in
      let size = ap length (pieces_append done h.front) in
      let parts = length-append (pieces_lexemes done) (pieces_lexemes h.front) in
      let first : pieces_lexemes h.front ≡ word_lexemes w ++ pieces_lexemes front = ap pieces_lexemes (e ∙ ap (λ o. o ∷ front) same) in
      omega (arith, h.place, one, from, size, parts, ap length first, length-append (word_lexemes w) (pieces_lexemes front), word_length w)

  name_shows : (q : ℕ) (c : Cause) (h : ShownBehind s asked_rest done (lexeme.Name ∷ x ∷ xs) q c) → h.count ≤ 2 → ⊥
  unfolding two
  name_shows q c h few =
      ⊎_elim (λ one.
      let k = this_inv None lexeme.Name (sign_then None a_property end) h.pieces one in
      let l = sign_inv None a_property end k.0 k.2 in
      let both : h.pieces ≡ sign None lexeme.Name ∷ sign None l.lexeme ∷ [] = k.1 ∙ ap (λ us. sign None lexeme.Name ∷ us) (l.split ∙ ap (λ us. sign None l.lexeme ∷ us) (end_inv l.others l.reads)) in
      signs_quiet s.counts s.lexemes (done ++ h.front) h.front h.back lexeme.Name l.lexeme h.piece q c (sym both ∙ h.split) h.shows)
      (λ other.
      let w = word_inv None None (λ v. words_rest) h.pieces other in
      ⊎_elim (λ less. name_shows_one q c h (let some = h.some in omega (arith, some, less)) w.word w.others w.split h.front refl)
      (λ more.
      let count : h.count ≡ 2 = omega (arith, few, more) in
      stand.tells.2 two h.pieces reads_two other
      (sym (ap (λ us. take 2 us) h.lexemes ∙ ap (λ n. take 2 (take n (lexeme.Name ∷ x ∷ xs) ++ h.rest)) count)))
      (cases_lt h.count 2))
      (by_two_inv property_rest first_word_rest h.pieces h.reads)

  name_early : (q : ℕ) (c : Cause) → IsShown s.counts s.lexemes q c → length (pieces_lexemes (done ++ two)) ≤ q
  unfolding two
  name_early q c shown =
      let h = shown_behind s asked_rest done (lexeme.Name ∷ x ∷ xs) stand q c shown in
      ⊎_elim (λ more. omega (arith, more, h.place, ap length split_two, length-append (pieces_lexemes done) (lexeme.Name ∷ x ∷ [])))
      (λ less. absurd (name_shows q c h (omega (arith, less))))
      (cases_lt 2 h.count)

  name_only : (qs : List Piece) (zs : List Lexeme) → IsWriting qs → pieces_lexemes qs ≡ pieces_lexemes (done ++ two) ++ zs → BeginAlike xs zs →
      (ps : List Piece) × (qs ≡ (done ++ two) ++ ps) × Reads end ps
  unfolding two
  name_only qs zs writing e alike =
      let all : pieces_lexemes qs ≡ pieces_lexemes done ++ lexeme.Name ∷ x ∷ zs = e ∙ ap (λ us. us ++ zs) split_two ∙ append_assoc (pieces_lexemes done) (lexeme.Name ∷ x ∷ []) zs in
      let h = shared s asked_rest done (lexeme.Name ∷ x ∷ xs) stand qs (lexeme.Name ∷ x ∷ zs) writing all refl in
      ⊎_elim (λ one.
      let k = this_inv None lexeme.Name (sign_then None a_property end) h.pieces one in
      let l = sign_inv None a_property end k.0 k.2 in
      let both : h.pieces ≡ sign None lexeme.Name ∷ sign None l.lexeme ∷ l.others = k.1 ∙ ap (λ us. sign None lexeme.Name ∷ us) l.split in
      let list : lexeme.Name ∷ l.lexeme ∷ pieces_lexemes l.others ≡ lexeme.Name ∷ x ∷ zs = ap pieces_lexemes (sym both) ∙ h.lexemes in
      let same : l.lexeme ≡ x = cc in
      (l.others, h.split ∙ ap (λ ps. done ++ ps) (both ∙ ap (λ y. sign None lexeme.Name ∷ sign None y ∷ l.others) same) ∙ sym (append_assoc done (sign None lexeme.Name ∷ sign None x ∷ []) l.others), l.reads))
      (λ other. absurd (stand.tells.2 two h.pieces reads_two other (sym (ap (λ us. take 2 us) h.lexemes))))
      (by_two_inv property_rest first_word_rest h.pieces h.reads)

  pub name_passed : Stand s end (done ++ sign None lexeme.Name ∷ sign None x ∷ []) xs
  unfolding two
  name_passed = record {
    split = stand.split ∙ sym (append_assoc (pieces_lexemes done) (lexeme.Name ∷ x ∷ []) xs) ∙ ap (λ us. us ++ xs) (sym split_two);
    goes_on = λ ps reads. subst (λ us. IsWriting ((done ++ two) ++ us)) (sym (end_inv ps reads)) (subst IsWriting (sym (append-nil (done ++ two))) written_two);
    only = name_only;
    tells = tt;
    quiet = λ front back p q c e shows. ⊎_elim (λ old. stand.quiet front old.0 p q c old.1 shows)
        (λ new. signs_quiet s.counts s.lexemes front new.0 back lexeme.Name x p q c new.2 shows)
        (split_at front back done two p (sym e));
    early = name_early;
  }

-- both are taken
pub name_taken : (s : Start) (now : Reader) → Knows s asked_rest now → IsPropertyNext (drop now.place now.lexemes.now) → Knows s end (record { lexemes = now.lexemes; place = now.place + 2; counts = now.counts })
name_taken s now knows next =
    let left : knows.ahead ≡ lexeme.Name ∷ next.0 ∷ next.1 = sym (ahead_is s asked_rest now knows) ∙ next.2 in
    let stand = subst (λ zs. Stand s asked_rest knows.done zs) left knows.stand in
    let one = adds_piece s.counts now.counts now.counts knows.done (sign None lexeme.Name) knows.adds (none_added now.counts) (omega arith) in
    let both = adds_piece s.counts now.counts now.counts (knows.done ++ sign None lexeme.Name ∷ []) (sign None next.0) one (none_added now.counts) (omega arith) in
    let list = append_assoc knows.done (sign None lexeme.Name ∷ []) (sign None next.0 ∷ []) in
    record {
      done = knows.done ++ sign None lexeme.Name ∷ sign None next.0 ∷ [];
      ahead = next.1;
      stand = name_passed s knows.done next.0 next.1 stand next.3;
      lexemes = knows.lexemes;
      place = omega (arith, knows.place, ap length (pieces_append knows.done (sign None lexeme.Name ∷ sign None next.0 ∷ [])), length-append (pieces_lexemes knows.done) (lexeme.Name ∷ next.0 ∷ []));
      adds = subst (λ ps. Adds ps s.counts now.counts) list both;
      bounded = subst (AllByRecursion IsBounded) list (bounded_push (knows.done ++ sign None lexeme.Name ∷ []) (sign None next.0) (bounded_push knows.done (sign None lexeme.Name) knows.bounded tt) tt);
      within = knows.within;
    }
