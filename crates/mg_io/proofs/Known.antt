-- What is known of bytes after several reads or writes.
use Rattle.std.proofs.Common.{◌≡◌, ◌+◌, ◌<◌, ℕ, List, [], ◌++◌, length, take, drop, Option, Some, None, IfSome, sym, ap, subst, ◌∙◌, arith, length-append, take-add}
use Rattle.std.proofs.Math.Seq.{drop-append_seam, drop-nil}
use Rattle.std.proofs.lemmas.List.{drop-drop}
use Rattle.std.proofs.KnownBytes.{Appends-trans}
use Rattle.std.specs.Io.KnownBytes.{Appends, Consumes}
use Rattle.mg_io.specs.Bytes.{ReadsWhole}

-- two writes, one behind the other, appended one longer front
pub Appends-front : (a b c : Option (List ℕ)) (bytes : List ℕ) (i n : ℕ) → Appends a b (take i bytes) → Appends b c (take n (drop i bytes)) → Appends a c (take (i + n) bytes)
Appends-front a b c bytes i n first second =
    subst (Appends a c) (sym (take-add i n bytes)) (Appends-trans a b c _ _ first second)

-- one more than n of the told bytes were read, and the others are left
pub Consumes-beyond : (a c : Option (List ℕ)) (bytes : List ℕ) (n : ℕ) → Consumes a c bytes → length bytes ≡ n + 1 → IfSome a (λ all. (n < length all) × (c ≡ Some (drop (n + 1) all)))
Consumes-beyond None c bytes n read long = tt
Consumes-beyond (Some x) None bytes n read long = absurd read
Consumes-beyond (Some x) (Some y) bytes n read long =
    let left : drop (n + 1) x ≡ y = ap (drop (n + 1)) read ∙ subst (λ k. drop k (bytes ++ y) ≡ y) long (drop-append_seam bytes y) in
    (omega (arith, ap length read, length-append bytes y), ap Some (sym left))

-- what was copied from behind the place `at` is the front of what was left there
pub front_of : (all old copied : List ℕ) (at n : ℕ) → drop at all ≡ old → drop at all ≡ take n copied ++ drop n (drop at all) → old ≡ take n copied ++ drop (at + n) all
front_of all old copied at n is front = sym is ∙ front ∙ ap (λ rest. take n copied ++ rest) (drop-drop n at all)

-- where nothing is left at `at`, nothing is left behind it
pub none_behind : (all : List ℕ) (at n : ℕ) → drop at all ≡ [] → drop (at + n) all ≡ []
none_behind all at n none = sym (drop-drop n at all) ∙ ap (drop n) none ∙ drop-nil n

-- what holds of the bytes that were read whole holds of the bytes that were left
pub ReadsWhole-gives : (old new : Option (List ℕ)) (bytes : List ℕ) (P : List ℕ → Type 0) → P bytes → ReadsWhole old new bytes → IfSome old P
ReadsWhole-gives None new bytes P holds whole = tt
ReadsWhole-gives (Some all) new bytes P holds whole = subst P whole.0 holds
