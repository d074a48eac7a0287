-- The lines of bytes, byte by byte, are those of the definition.
use Rattle.std.proofs.Common.{◌≡◌, ◌≢◌, ◌⊎◌, inl, inr, ℕ, ◌+◌, Bool, true, false, ◌&&◌, ◌==◌, not, List, [], ◌∷◌, ◌++◌, length, take, drop, refl, sym, ap, subst, ◌∙◌, arith, if◌then◌else◌, ne_eqb, eq-eqb, eqb-true, cond, suc, ◌<◌, append_assoc}
use Rattle.std.proofs.Math.Seq.{take-length}
use Rattle.std.proofs.lemmas.Bool.{eqb-false}
use Rattle.std.specs.List.{prefix_len}
use Rattle.mg_script.specs.declared.lines.TheConstants.{FEED, RETURN}
use Rattle.mg_script.specs.Lines.{HasNoFeed, EndsInReturn, AreLines}
use Rattle.mg_script.specs.Cut.{onto, begins_feed, lines_of}

pub true_or_false : (b : Bool) → (b ≡ true) ⊎ (b ≡ false)
true_or_false true = inl refl
true_or_false false = inr refl

pub is_not : (a b : ℕ) → a ≢ b → (a == b) ≡ false
is_not a b differs = ne_eqb a b differs

both_false : (a b : Bool) → b ≡ false → (a && b) ≡ false
both_false true b e = e
both_false false b e = refl

-- a byte that belongs to the first line
plain_byte : (b : ℕ) (bs : List ℕ) → (b == FEED) ≡ false → (b == RETURN && begins_feed bs) ≡ false → lines_of (b ∷ bs) ≡ onto b (lines_of bs)
plain_byte b bs feed return =
    ap (λ t. if t then [] ∷ lines_of bs else (if b == RETURN && begins_feed bs then lines_of bs else onto b (lines_of bs))) feed ∙
    ap (λ t. if t then lines_of bs else onto b (lines_of bs)) return

-- a line with a line feed
pub fed : (line rest : List ℕ) → HasNoFeed line → (¬ EndsInReturn line) → lines_of (line ++ FEED ∷ rest) ≡ line ∷ lines_of rest
fed [] rest plain end = refl
fed (b ∷ []) rest plain end =
    plain_byte b (FEED ∷ rest) (is_not b FEED plain.0) (ap (λ t. t && true) (is_not b RETURN (λ e. end ([], ap (λ x. x ∷ []) e))))
fed (b ∷ c ∷ cs) rest plain end =
    plain_byte b (c ∷ cs ++ FEED ∷ rest) (is_not b FEED plain.0) (both_false (b == RETURN) (c == FEED) (is_not c FEED plain.1.0)) ∙
    ap (onto b) (fed (c ∷ cs) rest plain.1 (λ ends. end (b ∷ ends.0, ap (λ xs. b ∷ xs) ends.1)))

-- a line with a carriage return and a line feed
pub returned : (line rest : List ℕ) → HasNoFeed line → lines_of (line ++ RETURN ∷ FEED ∷ rest) ≡ line ∷ lines_of rest
returned [] rest plain = refl
returned (b ∷ []) rest plain =
    plain_byte b (RETURN ∷ FEED ∷ rest) (is_not b FEED plain.0) (both_false (b == RETURN) false refl)
returned (b ∷ c ∷ cs) rest plain =
    plain_byte b (c ∷ cs ++ RETURN ∷ FEED ∷ rest) (is_not b FEED plain.0) (both_false (b == RETURN) (c == FEED) (is_not c FEED plain.1.0)) ∙
    ap (onto b) (returned (c ∷ cs) rest plain.1)

-- a line without an end
pub unended : (line : List ℕ) → line ≢ [] → HasNoFeed line → lines_of line ≡ line ∷ []
unended [] some plain = absurd (some refl)
unended (b ∷ []) some plain = plain_byte b [] (is_not b FEED plain.0) (both_false (b == RETURN) false refl)
unended (b ∷ c ∷ cs) some plain =
    plain_byte b (c ∷ cs) (is_not b FEED plain.0) (both_false (b == RETURN) (c == FEED) (is_not c FEED plain.1.0)) ∙
    ap (onto b) (unended (c ∷ cs) (λ e. absurd cc) plain.1)

-- bytes have one list of lines
pub lines_are : (bytes : List ℕ) (lines : List (List ℕ)) → AreLines bytes lines → lines_of bytes ≡ lines
lines_are bytes [] are = ap lines_of are
lines_are bytes (line ∷ lines) (inl (rest, (plain, inl (cut, end)), more)) =
    ap lines_of cut ∙ fed line rest plain end ∙ ap (λ ls. line ∷ ls) (lines_are rest lines more)
lines_are bytes (line ∷ lines) (inl (rest, (plain, inr cut), more)) =
    ap lines_of cut ∙ returned line rest plain ∙ ap (λ ls. line ∷ ls) (lines_are rest lines more)
lines_are bytes (line ∷ lines) (inr ((cut, some, plain), none)) =
    ap lines_of cut ∙ unended line some plain ∙ ap (λ ls. line ∷ ls) (sym none)

pub one_cut : (bytes : List ℕ) (ls ms : List (List ℕ)) → AreLines bytes ls → AreLines bytes ms → ls ≡ ms
one_cut bytes ls ms first second = sym (lines_are bytes ls first) ∙ lines_are bytes ms second

both_true : (a b : Bool) → (a && b) ≡ true → (a ≡ true) × (b ≡ true)
both_true true b both = (refl, both)
both_true false b both = absurd cc

is_return : (b : ℕ) → b ≡ RETURN → (b == RETURN) ≡ true
is_return b e = eq-eqb b RETURN e

no_end : (front : List ℕ) → [] ≡ front ++ RETURN ∷ [] → ⊥
no_end [] e = absurd cc
no_end (x ∷ xs) e = absurd cc

-- the front of a line is plain
plain_front : (line : List ℕ) (end : List ℕ) → HasNoFeed (line ++ end) → HasNoFeed line
plain_front [] end plain = tt
plain_front (b ∷ bs) end plain = (plain.0, plain_front bs end plain.1)

-- what stands before a line feed, with or without a carriage return at its end
by_end : (rest front line : List ℕ) → HasNoFeed front → (front ≡ line ++ RETURN ∷ []) ⊎ ((front ≡ line) × (¬ EndsInReturn front)) → lines_of (front ++ FEED ∷ rest) ≡ line ∷ lines_of rest
by_end rest front line plain (inl e) =
    ap (λ xs. lines_of (xs ++ FEED ∷ rest)) e ∙ ap lines_of (append_assoc line (RETURN ∷ []) (FEED ∷ rest)) ∙
    returned line rest (plain_front line (RETURN ∷ []) (subst HasNoFeed e plain))
by_end rest front line plain (inr (e, end)) = fed front rest plain end ∙ ap (λ xs. xs ∷ lines_of rest) e

-- one more byte at the front of the first line
ends_more : (b : ℕ) (line : List ℕ) → (b ≡ RETURN → line ≢ []) → (¬ EndsInReturn line) → ¬ EndsInReturn (b ∷ line)
ends_more b line some end ([], e) = let same : b ≡ RETURN = cc in let empty : line ≡ [] = cc in some same empty
ends_more b line some end (c ∷ cs, e) = end (cs, cc)

with_byte : (b : ℕ) (bs : List ℕ) (lines : List (List ℕ)) → b ≢ FEED → (b ≡ RETURN → begins_feed bs ≡ false) → AreLines bs lines → AreLines (b ∷ bs) (onto b lines)
with_byte b bs [] differs apart are = inr ((ap (λ xs. b ∷ xs) are, λ e. absurd cc, (differs, tt)), refl)
with_byte b bs (line ∷ lines) differs apart (inl (rest, (plain, inl (cut, end)), more)) =
    inl (
      rest,
      (
        (differs, plain),
        inl (
          ap (λ xs. b ∷ xs) cut,
          ends_more b line (λ return empty.
              let feed : bs ≡ FEED ∷ rest = cut ∙ ap (λ xs. xs ++ FEED ∷ rest) empty in
              let none : true ≡ false = sym (ap begins_feed feed) ∙ apart return in absurd cc) end,
        ),
      ),
      more,
    )
with_byte b bs (line ∷ lines) differs apart (inl (rest, (plain, inr cut), more)) =
    inl (rest, ((differs, plain), inr (ap (λ xs. b ∷ xs) cut)), more)
with_byte b bs (line ∷ lines) differs apart (inr ((cut, some, plain), none)) =
    inr ((ap (λ xs. b ∷ xs) cut, λ e. absurd cc, (differs, plain)), none)

-- a byte at the front, by what it is and whether a line feed follows
are_byte : (b : ℕ) (bs : List ℕ) → AreLines bs (lines_of bs) → AreLines (drop 1 bs) (lines_of (drop 1 bs)) → (feed return : Bool) → (b == FEED) ≡ feed → (b == RETURN && begins_feed bs) ≡ return → AreLines (b ∷ bs) (if feed then [] ∷ lines_of bs else if return then lines_of bs else onto b (lines_of bs))
are_byte b bs all tail true return e f =
    inl (bs, (tt, inl (ap (λ x. x ∷ bs) (eqb-true b FEED e), λ ends. no_end ends.0 ends.1)), all)
are_byte b [] all tail false true e f = absurd (let none : false ≡ true = sym (both_false (b == RETURN) false refl) ∙ f in cc)
are_byte b (c ∷ cs) all tail false true e f =
    let two = both_true (b == RETURN) (c == FEED) f in
    let at_return = eqb-true b RETURN two.0 in
    let at_feed = eqb-true c FEED two.1 in
    subst (AreLines (b ∷ c ∷ cs)) (sym (ap (λ x. lines_of (x ∷ cs)) at_feed))
    (inl (cs, (tt, inr (ap (λ x. x ∷ c ∷ cs) at_return ∙ ap (λ x. RETURN ∷ x ∷ cs) at_feed)), tail))
are_byte b bs all tail false false e f = with_byte b bs (lines_of bs) (eqb-false b FEED e) (λ return. ap (λ t. t && begins_feed bs) (sym (is_return b return)) ∙ f) all

pub are_lines : (bytes : List ℕ) → AreLines bytes (lines_of bytes)
are_lines [] = refl
are_lines (b ∷ []) = are_byte b [] refl refl (b == FEED) (b == RETURN && false) refl refl
are_lines (b ∷ c ∷ cs) = are_byte b (c ∷ cs) (are_lines (c ∷ cs)) (are_lines cs) (b == FEED) (b == RETURN && c == FEED) refl refl

-- before the first line feed there is none, and behind it stands the rest
abbrev pub IsCut : List ℕ → ℕ → Type 0
IsCut bytes n = HasNoFeed (take n bytes) × (n < length bytes → bytes ≡ take n bytes ++ FEED ∷ drop (suc n) bytes)

cut_byte : (feed : Bool) (b : ℕ) (bs : List ℕ) (n : ℕ) → (b == FEED) ≡ feed → IsCut bs n → IsCut (b ∷ bs) (cond (not feed) (1 + n) 0)
cut_byte true b bs n e cut = (tt, λ some. ap (λ x. x ∷ bs) (eqb-true b FEED e))
cut_byte false b bs n e cut =
    let one : suc n ≡ 1 + n = omega arith in
    subst (IsCut (b ∷ bs)) one ((eqb-false b FEED e, cut.0), λ some. ap (λ xs. b ∷ xs) (cut.1 (omega arith)))

pub is_cut : (bytes : List ℕ) → IsCut bytes (prefix_len (λ b. not (b == FEED)) bytes)
is_cut [] = (tt, λ some. absurd (omega arith))
is_cut (b ∷ bs) = cut_byte (b == FEED) b bs (prefix_len (λ b. not (b == FEED)) bs) refl (is_cut bs)

-- the first line of some bytes, where no line feed is among them
pub only_line : (bytes : List ℕ) (n : ℕ) → n ≡ prefix_len (λ b. not (b == FEED)) bytes → n ≡ length bytes → bytes ≢ [] → lines_of bytes ≡ bytes ∷ []
only_line bytes n count all some =
    unended bytes some (subst HasNoFeed (ap (λ k. take k bytes) (sym count ∙ all) ∙ take-length bytes) (is_cut bytes).0)

-- and where one is
pub next_line : (bytes : List ℕ) (n : ℕ) → n ≡ prefix_len (λ b. not (b == FEED)) bytes → n < length bytes → (line : List ℕ) → (take n bytes ≡ line ++ RETURN ∷ []) ⊎ ((take n bytes ≡ line) × (¬ EndsInReturn (take n bytes))) → lines_of bytes ≡ line ∷ lines_of (drop (n + 1) bytes)
next_line bytes n count some line return =
    let cut = subst (IsCut bytes) (sym count) (is_cut bytes) in
    let after : suc n ≡ n + 1 = omega arith in
    ap lines_of (cut.1 some) ∙ by_end (drop (suc n) bytes) (take n bytes) line cut.0 return ∙ ap (λ k. line ∷ lines_of (drop k bytes)) after
