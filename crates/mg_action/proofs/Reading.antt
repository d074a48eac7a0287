-- What the first images of an action tell: all actions with the same first images take a point by a word alike, as far
-- as it is read through these images.
use Rattle.std.proofs.Common.{◌≡◌, ◌≢◌, ℕ, zero, suc, ◌+◌, ◌-◌, ◌*◌, ◌<◌, ◌≤◌, ℤ, pos, negsuc, List, [], ◌∷◌, length, get_or, take, drop, refl, sym, ap, subst, ◌∙◌, inl, inr, arith}
use Rattle.std.specs.Prelude.{slice_index_or}
use Rattle.std.specs.List.{concat}
use Rattle.std.proofs.lemmas.Bool.{cases_lt}
use Rattle.std.proofs.lemmas.Bool.Decides.{eqb_tells}
use Rattle.std.proofs.lemmas.List.{get_or-take, drop_all, take_all}
use Rattle.std.proofs.lemmas.List.Elements.{All-get_or, All-from_recursion}
use Rattle.mg_words.specs.Letter.{IsLetterOf}
use Rattle.mg_numbers.specs.Perms.{IsPerm, PermTuple, IsPermTuple}
use Rattle.mg_present.specs.Ask.{Inquiry}
use Rattle.mg_action.specs.Permutation.{identity, inverse_of}
use Rattle.mg_action.specs.Action.{perm_of_letter, perm_of_word, image_of_zero, Refutes}
use Rattle.mg_action.specs.Walk.{Begins, NoneBegin, letter_depth}
use Rattle.mg_action.proofs.Permutations.{at-identity, inverse-at, at-inverse, at-place, place_of, place-below}
use Rattle.mg_action.proofs.Rows.{AreLong, long_perms, length-rows, rows_unique, at-rows, generator_is}
use Rattle.mg_action.proofs.Words.{image_step}

take_of_take : (n m : ℕ) (xs : List ℕ) → n ≤ m → take n (take m xs) ≡ take n xs
take_of_take zero m xs h = refl
take_of_take (suc n) zero xs h = absurd (omega arith)
take_of_take (suc n) (suc m) [] h = refl
take_of_take (suc n) (suc m) (x ∷ xs) h = ap (λ l. x ∷ l) (take_of_take n m xs (omega arith))

tuple_ext : (t u : PermTuple) → t.degree ≡ u.degree → t.images ≡ u.images → t ≡ u
tuple_ext t u e f = λ i. record { degree = e i; images = f i }

-- fewer first images are the same too
pub take_fewer : (n m : ℕ) (xs ys : List ℕ) → n ≤ m → take m xs ≡ take m ys → take n xs ≡ take n ys
take_fewer n m xs ys h e = sym (take_of_take n m xs h) ∙ ap (take n) e ∙ take_of_take n m ys h

pub begins_fewer : (action : PermTuple) (n m : ℕ) (t : PermTuple) → n ≤ m → Begins action m t → Begins action n t
begins_fewer action n m t h b = record { degree = b.degree; perms = b.perms; same = take_fewer n m _ _ h b.same }

-- an image among the first ones is the same
entry_alike : (action t : PermTuple) (depth n p : ℕ) (e f : List ℕ) → IsPermTuple (length action.images) action → Begins action depth t → n < length action.images → p < action.degree → n * action.degree + p + 1 ≤ depth
    → get_or (get_or t.images n f) p 0 ≡ get_or (get_or action.images n e) p 0
entry_alike action t depth n p e f perms b h l within =
    let d = action.degree in
    let long : AreLong d t.images = subst (λ k. AreLong k t.images) b.degree (long_perms t.degree t.images b.perms.perms) in
    let below : n < length t.images = omega (arith, h, b.perms.count) in
    let q = n * d + p in
    let here : q < depth = omega (arith, within) in
    sym (at-rows d t.images n p f long below l) ∙ sym (get_or-take depth (concat t.images) q 0 here) ∙ ap (λ xs. get_or xs q 0) b.same ∙ get_or-take depth (concat action.images) q 0 here
    ∙ at-rows d action.images n p e (long_perms d action.images perms.perms) h l

-- where a letter takes a point
pub letter_alike : (action t : PermTuple) (x : ℤ) (p depth : ℕ) → IsPermTuple (length action.images) action → IsLetterOf (length action.images) x → p < action.degree
    → letter_depth action.degree x p (get_or (perm_of_letter action x) p 0) ≤ depth → Begins action depth t → get_or (perm_of_letter t x) p 0 ≡ get_or (perm_of_letter action x) p 0
letter_alike action t (pos g) p depth perms letter l within b =
    let d = action.degree in
    ap (λ xs. get_or xs p 0) (generator_is t g letter.least) ∙ entry_alike action t depth (g - 1) p (identity d) (identity t.degree) perms b (omega (arith, letter.least, letter.most)) l within
    ∙ ap (λ xs. get_or xs p 0) (sym (generator_is action g letter.least))
letter_alike action t (negsuc n) p depth perms letter l within b =
    let d = action.degree in
    let there : n < length action.images = omega (arith, letter.most) in
    let list = get_or action.images n (identity d) in
    let other = get_or t.images n (identity t.degree) in
    let perm : IsPerm d list = All-get_or (IsPerm d) action.images n (identity d) there perms.perms in
    let also : IsPerm d other = subst (λ k. IsPerm k other) b.degree (All-get_or (IsPerm t.degree) t.images n (identity t.degree) (omega (arith, there, b.perms.count)) b.perms.perms) in
    let i : ℕ = get_or (inverse_of list) p 0 in
    let place : i ≡ place_of list p = at-inverse list p (omega (arith, l, perm.count)) in
    let small : i < d = omega (arith, place, place-below d list perm p l) in
    let stands : get_or list i 0 ≡ p = ap (λ k. get_or list k 0) place ∙ at-place d list perm p l in
    let same : get_or other i 0 ≡ p = entry_alike action t depth n i (identity d) (identity t.degree) perms b there small within ∙ stands in
    ap (λ k. get_or (inverse_of other) k 0) (sym same) ∙ inverse-at d other also i small

-- one letter more is read
pub reads_more : (action : PermTuple) (word : List ℤ) (i point image next depth new : ℕ) (x : ℤ) → IsPermTuple (length action.images) action → IsLetterOf (length action.images) x → i < length word → x ≡ get_or word i x
    → image < action.degree → next ≡ get_or (perm_of_letter action x) image 0 → depth ≤ new → letter_depth action.degree x image next ≤ new
    → ((t : PermTuple) → Begins action depth t → get_or (perm_of_word t word) point 0 ≡ get_or (perm_of_word t (drop i word)) image 0)
    → (t : PermTuple) → Begins action new t → get_or (perm_of_word t word) point 0 ≡ get_or (perm_of_word t (drop (i + 1) word)) next 0
reads_more action word i point image next depth new x perms letter there is below at more deep reads t b =
    let within : letter_depth action.degree x image (get_or (perm_of_letter action x) image 0) ≤ new = subst (λ k. letter_depth action.degree x image k ≤ new) at deep in
    let goes : next ≡ get_or (perm_of_letter t x) image 0 = at ∙ sym (letter_alike action t x image new perms letter below within b) in
    sym (image_step t word i image next (get_or (perm_of_word t word) point 0) x goes is there (omega (arith, below, b.degree)) (subst (λ n. IsPermTuple n t) (sym b.perms.count) b.perms) (sym (reads t (begins_fewer action depth new t more b))))

-- nothing is left to read
pub reads_all : (action : PermTuple) (word : List ℤ) (i point image depth : ℕ) → length word ≤ i → image < action.degree
    → ((t : PermTuple) → Begins action depth t → get_or (perm_of_word t word) point 0 ≡ get_or (perm_of_word t (drop i word)) image 0)
    → (t : PermTuple) → Begins action depth t → get_or (perm_of_word t word) point 0 ≡ image
reads_all action word i point image depth past below reads t b =
    reads t b ∙ ap (λ w. get_or (perm_of_word t w) image 0) (drop_all i word past) ∙ at-identity t.degree image (omega (arith, below, b.degree))

-- a word that is read to move a point isn't the identity in any of them
pub moved_more : (action : PermTuple) (word : List ℤ) (point depth new most : ℕ) → point < action.degree
    → (new ≢ depth → (t : PermTuple) → Begins action new t → get_or (perm_of_word t word) point 0 ≢ point)
    → (depth ≢ most → (t : PermTuple) → Begins action depth t → perm_of_word t word ≢ identity t.degree)
    → new ≢ most → (t : PermTuple) → Begins action new t → perm_of_word t word ≢ identity t.degree
moved_more action word point depth new most below moved before other t b e =
    elim (eqb_tells new depth) [
      | inl (yes_eq, same) ↦ before (λ h. other (same ∙ h)) t (subst (λ n. Begins action n t) same b) e
      | inr (no_eq, differ) ↦ moved differ t b (ap (λ xs. get_or xs point 0) e ∙ at-identity t.degree point (omega (arith, below, b.degree)))
    ]

-- so where a relator is, no goal is refuted
pub none_by_relator : (ask : Inquiry) (action : PermTuple) (relator : List ℤ) (place depth new : ℕ) → place < length ask.group.relators → relator ≡ get_or ask.group.relators place relator
    → (new ≢ depth → (t : PermTuple) → Begins action new t → perm_of_word t relator ≢ identity t.degree) → NoneBegin ask action depth → NoneBegin ask action new
none_by_relator ask action relator place depth new there is moved before t b goal refutes =
    elim (eqb_tells new depth) [
      | inl (yes_eq, same) ↦ before t (subst (λ n. Begins action n t) same b) goal refutes
      | inr (no_eq, differ) ↦ moved differ t b (ap (perm_of_word t) is ∙ All-get_or (λ w. perm_of_word t w ≡ identity t.degree) ask.group.relators place relator there (All-from_recursion (λ w. perm_of_word t w ≡ identity t.degree) ask.group.relators refutes.is_action.relators))
    ]

-- where a subgroup word moves the point 0, no goal is refuted
pub none_by_member : (ask : Inquiry) (action : PermTuple) (member : List ℤ) (place depth new : ℕ) → place < length ask.subgroup → member ≡ get_or ask.subgroup place member
    → (new ≢ depth → (t : PermTuple) → Begins action new t → image_of_zero t member ≢ 0) → NoneBegin ask action depth → NoneBegin ask action new
none_by_member ask action member place depth new there is moved before t b goal refutes =
    elim (eqb_tells new depth) [
      | inl (yes_eq, same) ↦ before t (subst (λ n. Begins action n t) same b) goal refutes
      | inr (no_eq, differ) ↦ moved differ t b (ap (image_of_zero t) is ∙ All-get_or (λ w. image_of_zero t w ≡ 0) ask.subgroup place member there (All-from_recursion (λ w. image_of_zero t w ≡ 0) ask.subgroup refutes.fixed))
    ]

-- one goal more is read to fix the point 0
pub fixed_more : (ask : Inquiry) (action : PermTuple) (goal : List ℤ) (place depth new deep : ℕ) → goal ≡ get_or ask.goals place [] → depth ≤ new → deep ≤ new
    → ((t : PermTuple) → Begins action deep t → image_of_zero t goal ≡ 0)
    → ((t : PermTuple) → Begins action depth t → (k : ℕ) → k < place → image_of_zero t (slice_index_or ask.goals k []) ≡ 0)
    → (t : PermTuple) → Begins action new t → (k : ℕ) → k < place + 1 → image_of_zero t (slice_index_or ask.goals k []) ≡ 0
fixed_more ask action goal place depth new deep is more there fixes before t b k h =
    elim (cases_lt k place) [
      | inl less ↦ before t (begins_fewer action depth new t more b) k less
      | inr rest ↦ let e : k ≡ place = omega arith in ap (λ n. image_of_zero t (get_or ask.goals n [])) e ∙ ap (image_of_zero t) (sym is) ∙ fixes t (begins_fewer action deep new t there b)
    ]

-- where all goals are, none is refuted
pub none_by_goals : (ask : Inquiry) (action : PermTuple) (place depth : ℕ) → length ask.goals ≤ place
    → ((t : PermTuple) → Begins action depth t → (k : ℕ) → k < place → image_of_zero t (slice_index_or ask.goals k []) ≡ 0) → NoneBegin ask action depth
none_by_goals ask action place depth all fixed t b goal refutes = refutes.moved (fixed t b goal (omega (arith, refutes.there)))

-- an action with all images of one that refutes no goal is that one
pub none_whole : (ask : Inquiry) (action : PermTuple) (depth : ℕ) → IsPermTuple (length action.images) action → depth ≡ length action.images * action.degree → ((k : ℕ) → Refutes ask k action → ⊥) → NoneBegin ask action depth
none_whole ask action depth perms whole refused t b goal refutes =
    let d = action.degree in
    let long = long_perms d action.images perms.perms in
    let also : AreLong d t.images = subst (λ k. AreLong k t.images) b.degree (long_perms t.degree t.images b.perms.perms) in
    let size : length (concat t.images) ≡ depth = length-rows d t.images also ∙ ap (λ n. n * d) b.perms.count ∙ sym whole in
    let joined : concat t.images ≡ concat action.images = sym (take_all depth (concat t.images) (omega (arith, size))) ∙ b.same ∙ take_all depth (concat action.images) (omega (arith, length-rows d action.images long, whole)) in
    let same = rows_unique d t.images action.images perms.points also long joined in
    refused goal (subst (λ (a : PermTuple). Refutes ask goal a) (let e = b.degree in let f = same in tuple_ext t action e f) refutes)
