-- An inode file whose blocks end with zeros can be read.
use Rattle.std.proofs.Common.{◌≡◌, ℕ, ◌-◌, List, length, drop, ap, sym, ◌∙◌, arith, length-drop}
use Rattle.layout.specs.Bytes.{zeros}
use Rattle.layout.specs.Inode.{FitsBody}
use Rattle.layout.specs.Limits.{Sizes}
use Rattle.layout.specs.Places.{Blocks}
use Rattle.layout.specs.Trees.{level_of}
use Rattle.layout.specs.declared.inode.Body.{Body}
use Rattle.layout.specs.declared.inode.Body.TheVariants.{Inline, Pointers}
use Rattle.layout.specs.declared.inode.Inode.{Inode}
use Rattle.layout.proofs.SizeLaws.{level_none}
use Rattle.layout.proofs.ZeroLaws.{length-zeros}
use Rattle.images.specs.Nodes.{body_block, file_block, held}
use Rattle.images.specs.Soundness.{IsReadable}
use Rattle.images.proofs.EmptyLaws.{none_named}

-- of a file without blocks there is nothing to read
none_stored : (d : Blocks) (f : Inode) → level_of f.layout f.size ≡ 0 → IsReadable (held d f)
none_stored d f level i b is = absurd (none_named d f level b (record { height = 0; index = i; is = is }))

-- a list whose end has so many bytes
ends_whole : (xs : List ℕ) → drop 4032 xs ≡ zeros 64 → length xs ≡ 4096
ends_whole xs is =
    let rest : length xs - 4032 ≡ 64 = sym (length-drop 4032 xs) ∙ ap length is ∙ length-zeros 64 in
    omega (arith, rest)

-- the inode file, whose blocks end with zeros
pub inodes_readable : (s : Sizes) (d : Blocks) (f : Inode) (body : Body) → f.body ≡ body → FitsBody f.layout body s.blocks f.size
    → ((i : ℕ) → drop 4032 (file_block (held d f) i) ≡ zeros 64) → IsReadable (held d f)
unfolding held
inodes_readable s d f (Inline bytes) is fits behind = none_stored d f (level_none f.layout f.size fits.0)
inodes_readable s d f (Pointers pointers) is fits behind =
    λ i b there. ends_whole ((held d f).bytes 0 i) (ap (λ x. drop 4032 (body_block x ((held d f).bytes 0 i) i)) (sym is) ∙ behind i)
