-- How the names of snapshots are learnt.
use Rattle.std.proofs.Common.{◌≡◌, ◌+◌, ◌<◌, ◌≤◌, ◌++◌, ℕ, List, [], ◌∷◌, Ok, Err, length, map, take, drop, get_or, ap, refl, sym, ◌∙◌, take-append-drop}
use Rattle.std.proofs.lemmas.List.{map-append, map_more, take_all}
use Rattle.model.specs.declared.errno.Errno.TheVariants.{ENOMEM}
use Rattle.served.specs.Known.{Known, with_snapshot}
use Rattle.served.specs.Snapshots.{AreLearnt, with_names}

-- one name more
with_names_more : (names : List (List ℕ)) (name : List ℕ) (k : Known) → with_names (names ++ name ∷ []) k ≡ with_snapshot name (with_names names k)
with_names_more [] name k = refl
with_names_more (other ∷ names) name k = with_names_more names name (with_snapshot other k)

module _ {X : Type 0} (text : X → List ℕ) (xs : List X) (k : Known) where
  pub noted_more : (i : ℕ) (x : X) (known next : Known) → i < length xs → x ≡ get_or xs i x → known ≡ with_names (map text (take i xs)) k → next ≡ with_snapshot (text x) known
      → next ≡ with_names (map text (take (i + 1) xs)) k
  noted_more i x known next below is before then =
      then ∙ (ap (with_snapshot (text x)) before ∙ (sym (with_names_more (map text (take i xs)) (text x) k)
      ∙ ap (λ (names : List (List ℕ)). with_names names k)
      (ap (λ (y : X). map text (take i xs) ++ text y ∷ []) is ∙ sym (map_more text xs i x below))))

  pub all_noted : (i : ℕ) (known : Known) → length xs ≤ i → known ≡ with_names (map text (take i xs)) k → AreLearnt k (map text xs) (Ok tt, known)
  all_noted i known past before = before ∙ ap (λ (ys : List X). with_names (map text ys) k) (take_all i xs past)

  pub some_noted : (i : ℕ) (known next : Known) → known ≡ with_names (map text (take i xs)) k → next ≡ known → AreLearnt k (map text xs) (Err ENOMEM, next)
  some_noted i known next before then =
      (refl, (map text (take i xs), map text (drop i xs), ap (map text) (sym (take-append-drop i xs)) ∙ map-append text (take i xs) (drop i xs), then ∙ before))
