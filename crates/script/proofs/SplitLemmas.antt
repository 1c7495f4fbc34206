-- The parts of bytes between separators, by the place of the first one.
use Rattle.std.proofs.Common.{◌≡◌, ◌+◌, ◌-◌, ◌<◌, ◌≤◌, ◌==◌, ℕ, false, List, [], ◌∷◌, ◌++◌, None, Some, add-one, append_assoc, arith, length, map, slice_index, take, drop, refl, sym, ap, ◌∙◌, drop-cons}
use Rattle.std.specs.List.{All, slice_split}
use Rattle.std.proofs.lemmas.Bool.{false_from_ne_true}
use Rattle.std.proofs.lemmas.List.{get_or-take, length-drop, length-take, map-append, take-append-drop, take_all}
use Rattle.std.proofs.lemmas.List.Elements.{All-from_get_or}
use Rattle.std.proofs.lemmas.List.Splits.{slice_split_at, slice_split_none}
use Rattle.memchr.specs.Find.{is_byte, IsFirstByte}

module _ (a : ℕ) (xs : List ℕ) where
  pub no_separator : IsFirstByte (is_byte a) xs None → slice_split (λ b. b == a) xs ≡ xs ∷ []
  no_separator none =
      slice_split_none (λ b. b == a) xs (All-from_get_or (λ b. (b == a) ≡ false) xs 0 (λ i within. false_from_ne_true (slice_index xs i == a) (none i (omega arith) within)))

  module _ (end : ℕ) (found : IsFirstByte (is_byte a) xs (Some end)) where
    front : All (λ b. (b == a) ≡ false) (take end xs)
    front = All-from_get_or (λ b. (b == a) ≡ false) (take end xs) 0 (λ i within.
        let before : i < end = omega (arith, length-take end xs) in
        rw (get_or-take end xs i 0 before) (false_from_ne_true (slice_index xs i == a) (found.0.before i (omega arith) before)))

    pub first_part : slice_split (λ b. b == a) xs ≡ take end xs ∷ slice_split (λ b. b == a) (drop (end + 1) xs)
    first_part =
        let within : end < length xs = found.0.high in
        let whole : xs ≡ take end xs ++ (slice_index xs end ∷ drop (end + 1) xs) =
        sym (take-append-drop end xs) ∙ ap (λ l. take end xs ++ l) (rw (add-one, drop-cons xs end 0) refl) in
        ap (slice_split (λ b. b == a)) whole ∙ slice_split_at (λ b. b == a) (take end xs) (slice_index xs end) (drop (end + 1) xs) front found.1

-- one more part was pushed, and the rest stands behind it
pub part_pushed : {X : Type 0} (f : X → List ℕ) (a end n : ℕ) (ps qs : List X) (p : X) (xs bytes : List ℕ) → IsFirstByte (is_byte a) xs (Some end) → n ≡ length xs - (end + 1) → qs ≡ ps ++ p ∷ [] → f p ≡ take end xs
    → map f ps ++ slice_split (λ b. b == a) xs ≡ slice_split (λ b. b == a) bytes
    → map f qs ++ slice_split (λ b. b == a) (take n (drop (end + 1) xs)) ≡ slice_split (λ b. b == a) bytes
part_pushed f a end n ps qs p xs bytes found len pushed is before =
    let rest : take n (drop (end + 1) xs) ≡ drop (end + 1) xs = take_all n (drop (end + 1) xs) (omega (arith, length-drop (end + 1) xs)) in
    rw (pushed, map-append f ps (p ∷ []), is, rest, append_assoc (map f ps) (take end xs ∷ []) (slice_split (λ b. b == a) (drop (end + 1) xs)), ← first_part a xs end found) before

-- the last part was pushed
pub last_pushed : {X : Type 0} (f : X → List ℕ) (a : ℕ) (ps qs : List X) (p : X) (xs bytes : List ℕ) → IsFirstByte (is_byte a) xs None → qs ≡ ps ++ p ∷ [] → f p ≡ xs
    → map f ps ++ slice_split (λ b. b == a) xs ≡ slice_split (λ b. b == a) bytes → map f qs ≡ slice_split (λ b. b == a) bytes
last_pushed f a ps qs p xs bytes none pushed is before = rw (pushed, map-append f ps (p ∷ []), is, ← no_separator a xs none) before

-- what stands behind a place is no longer
pub no_longer : (n k : ℕ) (xs bytes : List ℕ) → length xs ≤ length bytes → length (take n (drop k xs)) ≤ length bytes
no_longer n k xs bytes within = omega (arith, length-take n (drop k xs), length-drop k xs)
