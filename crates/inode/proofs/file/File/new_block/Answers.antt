use Rattle.std.proofs.Common.{rules, length, inl, inr, arith, ◌∙◌, ap, sym, slice_index, List, ℕ, refl, ◌+◌, ◌-◌, ◌*◌, ◌≡◌, ◌≢◌}
use Rattle.images.specs.Edges.{IsPartlyWritten}
use Rattle.buffers.specs.Positions.{with_bytes_at}
use Rattle.inode.specs.Files.{file_block, byte_at}
use Rattle.inode.proofs.BytePositions.{written_piece, byte_in_block}
use Rattle.inode.proofs.ChangeLaws.{leaves_part}
use Rattle.inode.proofs.file.File.new_block.Goals as goal

pub returns-in_err-block-clause-damaged : goal.returns-in_err-block-clause-damaged
returns-in_err-block-clause-damaged g c = λ disk shows bad sound.
    c.in_err-block.ensures.damaged disk shows (search rules)
    (λ some. c.make_room.ensures.sound (g.B.Blocks.count c.args.blocks.now) disk c.args.i
    (sound (leaves_part c.args.offset (length c.args.bytes.now) c.args.i c.requires.above c.requires.below (λ reached past. some (omega (arith, reached, past))))))

pub returns-clause-read : goal.returns-clause-read
returns-clause-read g c = λ disk shows part.
    c.make_room.ensures.same.was_sound (g.B.Blocks.count c.args.blocks.now) disk c.args.i (c.in_ok-block.ensures.sound disk shows (leaves_some part))
  where
    leaves_some : IsPartlyWritten c.args.offset (length c.args.bytes.now) c.args.i → c.min-to.result - c.max-from.result ≢ 4096
    leaves_some part whole = elim part.part [
      | inl before ↦ omega (arith, before, whole)
      | inr behind ↦ omega (arith, behind, whole)
    ]

pub returns-clause-bytes : goal.returns-clause-bytes
returns-clause-bytes g c = λ disk shows r lt.
    let start : 4096 * c.from-start.result ≡ 4096 * c.args.i = ap (λ (n : ℕ). 4096 * n) c.from-start.ensures in
    let block : c.min-to.result - c.max-from.result ≢ 4096 → c.in_ok-block.block ≡ file_block disk c.args.self.now c.args.i =
    λ part. c.in_ok-block.ensures.bytes disk shows part ∙ c.make_room.ensures.same.blocks disk c.args.i in
    ap (λ (b : List ℕ). slice_index b r) c.in_ok-shared.ensures ∙ c.put.ensures.bytes r
    ∙ written_piece (byte_at disk c.args.self.now) (slice_index c.in_ok-block.block) c.args.offset c.args.bytes.now _ (4096 * c.from-start.result) c.max-from.result c.min-to.result r (search rules) (search rules) (omega arith) (omega arith) refl lt
    (λ part. ap (λ (b : List ℕ). slice_index b r) (block part) ∙ sym (byte_in_block (file_block disk c.args.self.now) c.args.i r lt) ∙ ap (λ (n : ℕ). byte_at disk c.args.self.now (n + r)) (sym start))
    ∙ ap (λ (n : ℕ). with_bytes_at (byte_at disk c.args.self.now) c.args.offset c.args.bytes.now (n + r)) start
