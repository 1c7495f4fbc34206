-- What a look at a block tells of a name.
use Rattle.std.proofs.Common.{◌≡◌, inl, inr, ℕ, ◌<◌, ◌+◌, List, Option, Some, None, Result, Ok, Err, IfOk, sym, subst, arith}
use Rattle.std.proofs.lemmas.Bool.{cases_eq}
use Rattle.model.specs.Paths.{Name}
use Rattle.buffers.specs.declared.error.BlockError.{BlockError}
use Rattle.dirs.specs.Edits.{HasNumber, IsFirstFound}
use Rattle.entries.specs.Looks.{TellsEntries}
use Rattle.entries.specs.declared.look.Look.{Look}

-- a block has the number that a look at it tells
pub number_told : (inodes : ℕ) (bytes : List ℕ) (name : Name) (l : Look) → TellsEntries inodes bytes name l → HasNumber inodes bytes name l.number
number_told inodes bytes name l t = (t.entries, t.holds, sym (t.number t.entries t.holds))

-- one block more without a name
pub none_more : (inodes : ℕ) (block : ℕ → List ℕ) (i : ℕ) (name : Name) → ((j : ℕ) → j < i → HasNumber inodes (block j) name None) → HasNumber inodes (block i) name None
    → (j : ℕ) → j < i + 1 → HasNumber inodes (block j) name None
none_more inodes block i name before here j below = elim (cases_eq j i) [
  | inl same ↦ subst (λ k. HasNumber inodes (block k) name None) (sym same) here
  | inr else ↦ before j (omega (arith, below, else))
]

-- where blocks are the same, so is what they tell of a name
pub first_same : (inodes count : ℕ) (old new : ℕ → List ℕ) (name : Name) → ((i : ℕ) → new i ≡ old i) → (number : Option ℕ) → IsFirstFound inodes old count name number → IsFirstFound inodes new count name number
first_same inodes count old new name same (Some n) f =
    (f.0, f.1, λ i below. subst (λ b. HasNumber inodes b name None) (sym (same i)) (f.2 i below), subst (λ b. HasNumber inodes b name (Some n)) (sym (same f.0)) f.3)
first_same inodes count old new name same None f = λ i below. subst (λ b. HasNumber inodes b name None) (sym (same i)) (f i below)

pub first_same_ok : (inodes count : ℕ) (old new : ℕ → List ℕ) (name : Name) → ((i : ℕ) → new i ≡ old i) → (r : Result (Option ℕ) BlockError) → IfOk r (IsFirstFound inodes old count name) → IfOk r (IsFirstFound inodes new count name)
first_same_ok inodes count old new name same (Ok number) f = first_same inodes count old new name same number f
first_same_ok inodes count old new name same (Err e) f = tt
