-- Bytes that begin with those that were there before.
use Rattle.std.proofs.Common.{◌≡◌, ℕ, List, [], ◌∷◌, ◌++◌, Result, Ok, Err, OnOk, OnErr, ap, ◌∙◌, append_assoc, append-nil}
use Rattle.mg_certtext.specs.Pieces.{spaced, Extends}

pub extends_by : (old new rest : List ℕ) → new ≡ old ++ rest → Extends old new
extends_by old new rest e = record { rest = rest; split = e }

pub extends_on : (old mid new rest : List ℕ) → Extends old mid → new ≡ mid ++ rest → Extends old new
extends_on old mid new rest h e = record { rest = h.rest ++ rest; split = e ∙ ap (λ l. l ++ rest) h.split ∙ append_assoc old h.rest rest }

pub extends_trans : (old mid new : List ℕ) → Extends old mid → Extends mid new → Extends old new
extends_trans old mid new h k = extends_on old mid new k.rest h k.split

pub on_err : {T E P : Type 0} (r : Result T E) → P → OnErr r P
on_err (Ok x) p = tt
on_err (Err e) p = p

-- a call behind others
pub extends_err : {T E : Type 0} (r : Result T E) (old mid new : List ℕ) → Extends old mid → OnErr r (Extends mid new) → OnErr r (Extends old new)
extends_err (Ok x) old mid new h k = tt
extends_err (Err e) old mid new h k = extends_trans old mid new h k

-- a piece, another piece, and a call that writes the others
pub two_pieces : {T E : Type 0} (r : Result T E) (out one two new first second : List ℕ) (others : List (List ℕ)) → one ≡ out ++ spaced (first ∷ []) → two ≡ one ++ spaced (second ∷ []) → OnOk r (new ≡ two ++ spaced others) → OnOk r (new ≡ out ++ spaced (first ∷ second ∷ others))
two_pieces (Ok x) out one two new first second others e f h = h ∙ rw (f, e) (simp (append_assoc, append-nil))
two_pieces (Err x) out one two new first second others e f h = tt
