-- Files in the grammar are no larger than the newest version allows.
use Rattle.std.proofs.Common.{◌≡◌, ℕ, ◌≤◌, false, eqb, refl, sym, subst, ◌∙◌, arith}
use Rattle.std.proofs.lemmas.Bool.Decides.{nat_tests}
use Rattle.layout.specs.Limits.{Sizes}
use Rattle.layout.specs.Root.{IsRoot}
use Rattle.layout.specs.Trees.{greatest_size}
use Rattle.layout.specs.declared.root.Root.{Root}
use Rattle.layout.specs.declared.trees.Layout.{Layout}
use Rattle.layout.specs.declared.trees.Layout.TheVariants.{Plain}
use Rattle.layout.specs.declared.version.TheConstants.{VERSION}
use Rattle.images.specs.Roots.{HeldTree}
use Rattle.images.specs.Soundness.{IsSoundTree, IsWithin}

pub newest_within : (s : Sizes) (version : ℕ) (t : HeldTree) → version ≡ VERSION → s.layout ≡ Plain → IsSoundTree s t → IsWithin version t
newest_within s version t newest plain sound =
    subst (λ (v : ℕ). IsWithin v t) (sym newest)
    (λ n. let fits = (sound.files n).inode in subst (λ (l : Layout). (t n).inode.size ≤ greatest_size l) (fits.layout ∙ plain) fits.size)

-- roots of the versions that are read have plain trees
pub root_plain : (r : Root) → IsRoot r → r.geometry.layout ≡ Plain
root_plain r root = root.head.layout ∙ (let other : eqb r.version 4 ≡ false = grind (arith, nat_tests, root.head.known.most) in rw other refl)
