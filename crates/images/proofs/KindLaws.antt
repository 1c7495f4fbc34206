-- What an inode's number and its object tell of its kind.
use Rattle.std.proofs.Common.{◌≡◌, ℕ, zero, suc, ◌≤◌, false, Option, IsTrue, refl, ap, sym, ◌∙◌, arith}
use Rattle.std.proofs.lemmas.Bool.{both_ways}
use Rattle.layout.specs.declared.kind.Kind.{Kind}
use Rattle.layout.specs.declared.kind.Kind.TheVariants as kinds
use Rattle.model.specs.Volumes.{Node, is_directory_node}
use Rattle.images.specs.Contents.{Content, StandsAs}
use Rattle.images.specs.Soundness.{FitsNumber, IsOrdinary}

-- from number 3 on there are objects alone
pub ordinary_kind : (n : ℕ) (k : Kind) → 3 ≤ n → FitsNumber n k → IsOrdinary k
ordinary_kind zero k ge fits = absurd (omega arith)
ordinary_kind (suc zero) k ge fits = absurd (omega arith)
ordinary_kind (suc (suc zero)) k ge fits = absurd (omega arith)
ordinary_kind (suc (suc (suc n))) k ge fits = fits

pub no_directory : {X : Type 0} (o node : Option Node) → o ≡ node → is_directory_node node ≡ false → IsTrue (is_directory_node o) → X
no_directory o node same not is = absurd (both_ways (is_directory_node node) not (sym (ap is_directory_node same) ∙ is))

-- what stands for a directory is one
pub directory_kind : (k : Kind) (inodes : ℕ) (c : Content) (o : Option Node) → StandsAs k inodes c o → IsTrue (is_directory_node o) → k ≡ kinds.Directory
directory_kind kinds.Free inodes c o stands is = no_directory o _ stands refl is
directory_kind kinds.File inodes c o stands is = no_directory o _ stands refl is
directory_kind kinds.Directory inodes c o stands is = refl
directory_kind kinds.Link inodes c o stands is = no_directory o _ stands refl is
directory_kind kinds.InodeFile inodes c o stands is = no_directory o _ stands refl is
directory_kind kinds.InodeMap inodes c o stands is = no_directory o _ stands refl is
directory_kind kinds.BlockMap inodes c o stands is = no_directory o _ stands refl is
