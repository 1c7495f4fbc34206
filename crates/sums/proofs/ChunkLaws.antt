-- Chunks of a list, one behind the other.
use Rattle.std.specs.Simd.{first_chunks}
use Rattle.std.proofs.Common.{◌≡◌, ℕ, zero, suc, ◌+◌, ◌*◌, ◌<◌, ◌≤◌, List, [], ◌∷◌, ◌++◌, length, take, drop, slice_index_or, append_assoc, length-drop, sym, ap, ◌∙◌, arith}
use Rattle.std.proofs.lemmas.List.{take_more, drop-drop, take-append-drop, append-nil}
use Rattle.std.proofs.lemmas.List.Folds.{concat-append}
use Rattle.std.specs.List.{concat}

-- whole chunks and what is behind them are the list
pub chunks_and_rest : (n k : ℕ) (xs : List ℕ) → k * n ≤ length xs → concat (first_chunks n k xs) ++ drop (k * n) xs ≡ xs
chunks_and_rest n zero xs room = let none : zero * n ≡ 0 = omega arith in ap (λ (m : ℕ). drop m xs) none
chunks_and_rest n (suc k) xs room =
    let count : n + k * n ≡ suc k * n = omega arith in
    append_assoc (take n xs) (concat (first_chunks n k (drop n xs))) (drop (suc k * n) xs)
    ∙ ap (λ (ys : List ℕ). take n xs ++ (concat (first_chunks n k (drop n xs)) ++ ys)) (ap (λ (m : ℕ). drop m xs) (sym count) ∙ sym (drop-drop (k * n) n xs))
    ∙ ap (λ (ys : List ℕ). take n xs ++ ys) (chunks_and_rest n k (drop n xs) (omega (arith, length-drop n xs, count, room))) ∙ take-append-drop n xs

-- one chunk more
pub concat-take_more : (chunks : List (List ℕ)) (i : ℕ) → i < length chunks → concat (take (i + 1) chunks) ≡ concat (take i chunks) ++ slice_index_or chunks i []
concat-take_more chunks i lt =
    let chunk = slice_index_or chunks i [] in
    ap concat (take_more chunks i [] lt) ∙ concat-append (take i chunks) (chunk ∷ []) ∙ ap (λ (ys : List ℕ). concat (take i chunks) ++ ys) (append-nil chunk)
