-- What is settled under a tree that memory stands over.
use Rattle.std.proofs.Common.{◌≡◌, ℕ, sym, subst, ◌∙◌}
use Rattle.layout.specs.Places.{Blocks}
use Rattle.layout.specs.declared.inode.Inode.{Inode}
use Rattle.buffers.specs.Reads.{ReadsBlocks}
use Rattle.buffers.specs.declared.blocks.Blocks.{Ghosts}
use Rattle.conspoint.specs.declared.draft.Draft.{Draft}
use Rattle.inofile.specs.Volumes.{IsVolumeOf}
use Rattle.inofile.specs.declared.inode_file.InodeFile.{InodeFile}
use Rattle.planning.specs.Numbers.{IsSettledFile}
use Rattle.planning.specs.Steps.{HasSettled, OverTree}
use Rattle.std.specs.Prelude.{Result}
use Rattle.images.proofs.EmptyLaws.{no_bit}

-- that stays, whatever is read
abbrev pub over_later : {B : Type 0} {G : Ghosts B} {x y : B} {inodes : InodeFile} → G.count y ≡ G.count x → ((disk : Blocks) → G.Shows x disk → G.Shows y disk) → OverTree G x inodes → OverTree G y inodes
over_later {inodes = inodes} count same o = record {
  disk = o.disk;
  settled = o.settled;
  volume = o.volume;
  before = o.before;
  shows = same o.disk o.shows;
  memory = subst (λ (n : ℕ). IsVolumeOf n o.disk o.settled inodes o.volume) (sym count) o.memory;
  once = o.once;
  exact = o.exact;
}

abbrev pub over_read : {B T E : Type 0} {G : Ghosts B} {IsFault : E → Type 0} {x y : B} {r : Result T E} {inodes : InodeFile} → ReadsBlocks G IsFault x y r → OverTree G x inodes → OverTree G y inodes
over_read read o = over_later read.count read.same o

module _ {B : Type 0} {G : Ghosts B} {x : B} {inodes : InodeFile} (o : OverTree G x inodes) (draft : Draft) (same : HasSettled draft o.before.entry) (size : G.count x ≡ draft.map.count) where
  -- each number's file is in its grammar, and its blocks are in use
  pub settled_file : (n : ℕ) → IsSettledFile inodes.geometry draft o.disk (o.settled n)
  settled_file n = record {
    blocks = o.memory.inodes.count ∙ size;
    sound = o.memory.inodes.sound n;
    once = o.once.each n;
    used = λ b names free. no_bit o.before.plane (o.before.entry b) (sym (same b) ∙ free) ((o.exact b).1 (record { file = n; names = names }));
  }

  pub file_over : (n : ℕ) (f : Inode) → f ≡ o.settled n → IsSettledFile inodes.geometry draft o.disk f
  file_over n f now = subst (λ (g : Inode). IsSettledFile inodes.geometry draft o.disk g) (sym now) (settled_file n)
