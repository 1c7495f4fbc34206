-- What is told of entries by their marks.
use Rattle.std.proofs.Common.{◌≡◌, ℕ, ◌<◌, List, [], ◌∷◌, Option, Some, None, refl, arith}
use Rattle.layout.specs.Directory.{Named}
use Rattle.layout.specs.DirectoryNames.{number_of}
use Rattle.model.specs.Paths.{Name}
use Rattle.entries.specs.declared.TheConstants.{HASHES}
use Rattle.entries.specs.Marks.{hash_of, print_of, AreMarked, HasMarks, KeepsMarks}

nothing : (o : Option ℕ) → ((n : ℕ) → o ≡ Some n → ⊥) → o ≡ None
nothing None never = refl
nothing (Some n) never = absurd (never n refl)

-- a name without its marks isn't there
pub unmarked : (marks : List ℕ) (name : Name) (es : List Named) → AreMarked marks es → (HasMarks marks name → ⊥) → number_of name es ≡ None
unmarked marks name es marked apart = nothing (number_of name es) (λ n is. apart (marked name n is))

-- a hash is below the bound of hashes
pub hash_below : (name : Name) → hash_of name < HASHES
hash_below [] = omega arith
hash_below (byte ∷ name) = omega arith

-- no name loses its marks
pub keeps_name : (old new : List ℕ) (name : Name) → KeepsMarks old new → HasMarks old name → HasMarks new name
keeps_name old new name keeps had = (keeps _ (print_of name) (omega arith) had.0, keeps _ (print_of name) (omega arith) had.1)
