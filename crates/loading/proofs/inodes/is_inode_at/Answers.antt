use Rattle.std.proofs.Common.{◌≡◌, ◌∙◌, ℕ, Some, refl, sym, ap, subst, arith}
use Rattle.layout.specs.Inode.{IsSomeInode, inode_bytes}
use Rattle.layout.specs.InodeReading.{inode_in}
use Rattle.layout.specs.declared.inode.Inode.{Inode}
use Rattle.layout.proofs.InodeLaws.{inode_read}
use Rattle.images.specs.Roots.{free_inode}
use Rattle.images.proofs.EmptyLaws.{free_bytes, free_fits}
use Rattle.loading.specs.InodeBlocks.{HasKindOfPlace}
use Rattle.loading.proofs.inodes.is_inode_at.Goals as goal

pub returns-then-is_free : goal.returns-then-is_free
returns-then-is_free c =
    let s = c.args.geometry in
    let free = free_inode s.layout in
    let inodes : c.inodes.result ≡ s.inodes = c.inodes.ensures.value in
    let bytes : c.args.bytes.now ≡ inode_bytes free = c.is_free.ensures.0 c.if-is_free.true ∙ sym (free_bytes s.layout) in (
      λ fits. record { inode = free; is = free_fits s; within = omega arith; spelled = bytes; kind = subst (λ (n : ℕ). HasKindOfPlace n c.args.place free.kind) inodes (c.kind_fits.ensures.0 fits) },
      λ at.
          let i = at.inode in
          let some : IsSomeInode i = record { sizes = s; are_sizes = c.inodes.ensures.within; fits = at.is } in
          let none : IsSomeInode free = record { sizes = s; are_sizes = c.inodes.ensures.within; fits = free_fits s } in
          let same : Some i ≡ Some free = sym (inode_read s.layout i some at.is.layout) ∙ ap (inode_in s.layout) (sym at.spelled ∙ bytes) ∙ inode_read s.layout free none refl in
          let it : i ≡ free = cc in
          c.kind_fits.ensures.1 (subst (λ (n : ℕ). HasKindOfPlace n c.args.place free.kind) (sym inodes) (subst (λ (x : Inode). HasKindOfPlace s.inodes c.args.place x.kind) it at.kind)),
    )
