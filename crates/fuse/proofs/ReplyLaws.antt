-- A reply is its head and what stands behind it.
use Rattle.std.proofs.Common.{◌≡◌, List, ℕ, ◌++◌, cond, is_ok, Result, Ok, Err, OnOk, sym, ap, ◌∙◌, append_assoc}

-- a text was written by its front and the rest behind it
pub wrote_both : {T E : Type 0} (r : Result T E) (old mid new front rest text : List ℕ) → mid ≡ old ++ front → new ≡ cond (is_ok r) (mid ++ rest) mid → text ≡ front ++ rest
    → OnOk r (new ≡ old ++ text)
wrote_both (Ok x) old mid new front rest text first second whole =
    second ∙ ap (λ (l : List ℕ). l ++ rest) first ∙ append_assoc old front rest ∙ ap (λ (l : List ℕ). old ++ l) (sym whole)
wrote_both (Err x) old mid new front rest text first second whole = tt
