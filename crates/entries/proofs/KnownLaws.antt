-- What is known of blocks, where one becomes known or unknown.
use Rattle.std.proofs.Common.{◌≡◌, ◌≢◌, ◌∙◌, ℕ, zero, suc, ◌<◌, List, [], ◌∷◌, ◌++◌, Option, length, IfSome, inl, inr, sym, subst, ap, arith, Some, None}
use Rattle.std.specs.Prelude.{Result, Ok, Err, is_ok, if◌then◌else◌, slice_get, set, take}
use Rattle.std.proofs.lemmas.Bool.{cases_eq}
use Rattle.model.proofs.ListLaws.{get_others, get_pushed}
use Rattle.entries.specs.Known.{AreButOne, Summarizes}
use Rattle.entries.specs.declared.summary.Summary.{Summary}

-- elements of a list of which one was set, or the first ones are left
module _ {X : Type 0} where
  at_none : (x : X) → None ≡ Some x → ⊥
  at_none x e = absurd cc

  set_here : (xs : List X) (i : ℕ) (y x : X) → slice_get (set xs i y) i ≡ Some x → y ≡ x
  set_here [] i y x is = absurd (at_none x is)
  set_here (z ∷ xs) zero y x is = cc
  set_here (z ∷ xs) (suc i) y x is = set_here xs i y x is

  among_first : (n : ℕ) (xs : List X) (i : ℕ) (x : X) → slice_get (take n xs) i ≡ Some x → (i < n) × (slice_get xs i ≡ Some x)
  among_first zero xs i x is = absurd (at_none x is)
  among_first (suc n) [] i x is = absurd (at_none x is)
  among_first (suc n) (z ∷ xs) zero x is = (omega arith, is)
  among_first (suc n) (z ∷ xs) (suc i) x is =
      let b = among_first n xs i x is in
      (omega (arith, b.0), b.1)

no_summary : (s : Summary) → None ≡ Some s → ⊥
no_summary s e = absurd cc

same_summary : (s t : Summary) → Some s ≡ Some t → s ≡ t
same_summary s t e = cc

-- each of these summaries tells of the block with its index
abbrev AreKnown : ℕ → (ℕ → List ℕ) → List (Option Summary) → Type 0
AreKnown inodes block xs = (i : ℕ) (s : Summary) → slice_get xs i ≡ Some (Some s) → Summarizes inodes (block i) s

module _ (inodes : ℕ) (xs ys : List (Option Summary)) where
  pub same_known : (block : ℕ → List ℕ) → ys ≡ xs → AreKnown inodes block xs → AreKnown inodes block ys
  same_known block is known = subst (AreKnown inodes block) (sym is) known

  -- there is none of one block any more
  pub none_at : (i : ℕ) (block next : ℕ → List ℕ) → ys ≡ set xs i None → AreKnown inodes block xs → AreButOne i block next → AreKnown inodes next ys
  none_at i block next is known others = subst (AreKnown inodes next) (sym is) left
    where
      left : AreKnown inodes next (set xs i None)
      left j s had = elim (cases_eq j i) [
        | inl e ↦ absurd (no_summary s (set_here xs i None (Some s) (sym (ap (slice_get (set xs i None)) e) ∙ had)))
        | inr apart ↦ subst (λ b. Summarizes inodes b s) (sym (others j apart)) (known j s (sym (get_others xs i j None apart) ∙ had))
      ]

  -- there is a new one of one block
  with_one : (i : ℕ) (summary : Summary) (block : ℕ → List ℕ) → ((s : Summary) → slice_get ys i ≡ Some (Some s) → summary ≡ s) → ((j : ℕ) → (j ≢ i) → slice_get ys j ≡ slice_get xs j)
      → AreKnown inodes block xs → Summarizes inodes (block i) summary → AreKnown inodes block ys
  with_one i summary block here others known tells j s had = elim (cases_eq j i) [
    | inl e ↦ subst (λ (k : ℕ). Summarizes inodes (block k) s) (sym e) (subst (Summarizes inodes (block i)) (here s (sym (ap (slice_get ys) e) ∙ had)) tells)
    | inr apart ↦ known j s (sym (others j apart) ∙ had)
  ]

  -- the first so many are left
  pub first_known : (count : ℕ) (block next : ℕ → List ℕ) → ys ≡ take count xs → AreKnown inodes block xs → ((i : ℕ) → i < count → next i ≡ block i) → AreKnown inodes next ys
  first_known count block next is known same j s had =
      let b = among_first count xs j (Some s) (sym (ap (λ (l : List (Option Summary)). slice_get l j) is) ∙ had) in
      subst (λ b. Summarizes inodes b s) (sym (same j b.0)) (known j s b.1)

module _ (inodes : ℕ) (xs ys : List (Option Summary)) where
  pub known_at : (i : ℕ) (summary : Summary) (block : ℕ → List ℕ) → ys ≡ set xs i (Some summary) → AreKnown inodes block xs → Summarizes inodes (block i) summary → AreKnown inodes block ys
  known_at i summary block is known tells =
      let zs = set xs i (Some summary) in
      subst (AreKnown inodes block) (sym is)
      (with_one inodes xs zs i summary block (λ t e. same_summary summary t (set_here xs i (Some summary) (Some t) e)) (λ k apart. get_others xs i k (Some summary) apart) known tells)

  pub known_last : (i : ℕ) (summary : Summary) (block : ℕ → List ℕ) → ys ≡ xs ++ Some summary ∷ [] → i ≡ length xs → AreKnown inodes block xs → Summarizes inodes (block i) summary → AreKnown inodes block ys
  known_last i summary block is last known tells =
      let longer : AreKnown inodes block (xs ++ Some summary ∷ []) = λ j s had. elim (get_pushed xs (Some summary) j (Some s) had) [
        | inl old ↦ known j s old
        | inr new ↦ subst (λ (k : ℕ). Summarizes inodes (block k) s) (last ∙ sym new.0) (subst (Summarizes inodes (block i)) (same_summary summary s (sym new.1)) tells)
      ] in
      subst (AreKnown inodes block) (sym is) longer

-- nothing is known of a block that has no place
pub none_past : (inodes : ℕ) (xs : List (Option Summary)) (i : ℕ) (block next : ℕ → List ℕ) → slice_get xs i ≡ None → AreKnown inodes block xs → AreButOne i block next → AreKnown inodes next xs
none_past inodes xs i block next none known others j s had = elim (cases_eq j i) [
  | inl e ↦ absurd (at_none (Some s) (sym none ∙ sym (ap (slice_get xs) e) ∙ had))
  | inr apart ↦ subst (λ b. Summarizes inodes b s) (sym (others j apart)) (known j s had)
]

-- what there is of one block
pub some_at : (inodes : ℕ) (xs : List (Option Summary)) (i : ℕ) (block : ℕ → List ℕ) (o : Option Summary) → slice_get xs i ≡ Some o → AreKnown inodes block xs → IfSome o (Summarizes inodes (block i))
some_at inodes xs i block None is known = tt
some_at inodes xs i block (Some s) is known = known i s is

-- a new one behind the others, where memory sufficed
pub pushed : {E : Type 0} (inodes : ℕ) (xs ys : List (Option Summary)) (r : Result Unit E) (i : ℕ) (summary : Summary) (block : ℕ → List ℕ) → ys ≡ (if is_ok r then xs ++ Some summary ∷ [] else xs) → i ≡ length xs
    → AreKnown inodes block xs → Summarizes inodes (block i) summary → AreKnown inodes block ys
pushed inodes xs ys (Ok x) i summary block is last known tells = known_last inodes xs ys i summary block is last known tells
pushed inodes xs ys (Err e) i summary block is last known tells = same_known inodes xs ys block is known
