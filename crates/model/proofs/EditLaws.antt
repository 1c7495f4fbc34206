-- How many bytes a file has behind an edit.
use Rattle.std.proofs.Common.{◌≡◌, ℕ, ◌+◌, ◌-◌, ◌≤◌, List, ◌++◌, length, take, drop, replicate, sym, ap, subst, ◌∙◌, length-append, length-take, length-drop, arith}
use Rattle.std.proofs.lemmas.List.{length-replicate}
use Rattle.model.specs.Edits.{resized, written}

pub length-resized : (size : ℕ) (bytes : List ℕ) → length (resized size bytes) ≡ size
length-resized size bytes = omega (arith, length-append (take size bytes) (replicate (size - length bytes) 0), length-take size bytes, length-replicate {A = ℕ} (size - length bytes) 0)

pub length-written : (offset : ℕ) (given bytes : List ℕ) → length (written offset given bytes) ≡ (offset + length given) + (length bytes - (offset + length given))
length-written offset given bytes =
    let rest : List ℕ = drop (offset + length given) bytes in
    length-append (resized offset bytes ++ given) rest
    ∙ ap (λ k. k + length rest) (length-append (resized offset bytes) given ∙ ap (λ k. k + length given) (length-resized offset bytes))
    ∙ ap (λ k. (offset + length given) + k) (length-drop (offset + length given) bytes)

pub written_short : {most : ℕ} (offset : ℕ) (given bytes : List ℕ) → offset + length given ≤ most → length bytes ≤ most → length (written offset given bytes) ≤ most
written_short {most} offset given bytes few short = subst (λ k. k ≤ most) (sym (length-written offset given bytes)) (omega (arith, few, short))
