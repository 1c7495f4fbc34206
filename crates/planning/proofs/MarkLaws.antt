-- The map's marks of a file's blocks, which are first taken out and then put in.
use Rattle.std.proofs.Common.{◌≡◌, ◌⊎◌, inl, inr, ℕ, true, false, List, length, ap, sym, ◌∙◌, arith}
use Rattle.std.proofs.lemmas.Bool.{cases_Bool}
use Rattle.std.specs.Int.{bit_at}
use Rattle.blockmap.specs.Parts.{Part}
use Rattle.blockmap.specs.Maps.{entry_at}
use Rattle.conspoint.specs.Marks.{AreMarked}
use Rattle.images.specs.BlockMap.{HasBit}
use Rattle.placement.specs.Files.{is_one}
use Rattle.placement.proofs.OneLaws.{among, one_of}
use Rattle.planning.specs.Progress.{IsMarked}
use Rattle.planning.proofs.ProgressLaws.{true_false}

module _ (taken freed : List ℕ) (old mid new : List Part) (out : AreMarked freed (length freed) false old mid) (came : AreMarked taken (length taken) true mid new) where
  same_out : (b : ℕ) → is_one freed b ≡ false → bit_at (entry_at mid b) 0 ≡ bit_at (entry_at old b) 0
  same_out b none = ap (λ x. bit_at x 0) (out.stay b (λ at. true_false (one_of freed b at) none))

  same_in : (b : ℕ) → is_one taken b ≡ false → bit_at (entry_at new b) 0 ≡ bit_at (entry_at mid b) 0
  same_in b none = ap (λ x. bit_at x 0) (came.stay b (λ at. true_false (one_of taken b at) none))

  now_in : (b : ℕ) → HasBit 0 (entry_at new b) → (HasBit 0 (entry_at old b) × (is_one freed b ≡ false)) ⊎ (is_one taken b ≡ true)
  now_in b has = elim (cases_Bool (is_one taken b)) [
    | inl is ↦ inr is
    | inr isnt ↦ elim (cases_Bool (is_one freed b)) [
      | inl gone ↦
          let none : bit_at (entry_at mid b) 0 ≡ 0 = out.marked b (among freed b gone) in
          let still : bit_at (entry_at mid b) 0 ≡ 1 = sym (same_in b isnt) ∙ has in absurd (omega arith)
      | inr kept ↦ inl (sym (same_out b kept) ∙ (sym (same_in b isnt) ∙ has), kept)
    ]
  ]

  was_in : (b : ℕ) → (HasBit 0 (entry_at old b) × (is_one freed b ≡ false)) ⊎ (is_one taken b ≡ true) → HasBit 0 (entry_at new b)
  was_in b (inr is) = came.marked b (among taken b is)
  was_in b (inl kept) = elim (cases_Bool (is_one taken b)) [
    | inl is ↦ came.marked b (among taken b is)
    | inr isnt ↦ same_in b isnt ∙ (same_out b kept.1 ∙ kept.0)
  ]

  pub marked_both : IsMarked (is_one taken) (is_one freed) (entry_at old) (entry_at new)
  marked_both = record { active = λ b. (now_in b, was_in b); others = λ b i other. came.others b i other ∙ out.others b i other }
