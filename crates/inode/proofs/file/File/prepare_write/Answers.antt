use Rattle.std.proofs.Common.{rules, subst, arith, length, ◌∙◌, ap, slice_index, List, ℕ, refl, sym, ◌/◌, ◌+◌, ◌*◌, ◌%◌, ◌≡◌}
use Rattle.buffers.specs.Positions.{with_bytes_at}
use Rattle.std.proofs.lemmas.List.{length_push}
use Rattle.blocktree.specs.Places.{block_count}
use Rattle.blocktree.specs.Trees.{HasRoom, IsSoundAt}
use Rattle.images.specs.Edges.{IsPartlyWritten}
use Rattle.inode.specs.Files.{file_block, byte_at}
use Rattle.inode.proofs.BaseLaws.{same_itself, still_same}
use Rattle.inode.proofs.BytePositions.{write_laid, piece_more, each_more, at_edge, written_same}
use Rattle.inode.proofs.EdgeLaws.{list_of_write}
use Rattle.inode.proofs.RoomLaws.{stores_write}
use Rattle.inode.proofs.ChangeLaws.{kept_block, one_more, past_length, put_length, written_in, written_out}
use Rattle.inode.proofs.file.File.prepare_write.Given.{Over}
use Rattle.inode.proofs.file.File.prepare_write.Goals as goal

pub returns-clause-bytes : goal.returns-clause-bytes
returns-clause-bytes g c = λ disk shows whole p.
    write_laid (file_block disk c.args.self.now) c.args.self.now.size c.max.result c.args.offset c.args.bytes.now (c.args.offset / 4096) c.loop-i.pieces.items refl c.requires (search rules) (search rules) whole (c.loop-i.invariant.bytes disk shows) p

pub returns-clause-list : goal.returns-clause-list
returns-clause-list g c = λ disk shows whole.
    list_of_write (byte_at disk c.args.self.now) _ c.args.self.now.size c.max.result c.args.offset c.args.bytes.now (search rules) whole (returns-clause-bytes g c disk shows whole)

pub returns-clause-sound : goal.returns-clause-sound
returns-clause-sound g c = λ disk shows i part.
    at_edge (λ i. IsPartlyWritten c.args.offset (length c.args.bytes.now) i → IsSoundAt (g.B.Blocks.count c.args.blocks.now) disk c.args.self.now.tree i)
    c.args.offset (length c.args.bytes.now) (length c.loop-i.pieces.items) i (search rules) (c.loop-i.invariant.sound disk shows) part part

more : (g : Over) (c : goal.In_ok-push g) → length c.push.new.self.items ≡ length c.loop-i.pieces.items + 1
more g c = ap length c.in_ok-push.ensures.items ∙ length_push c.loop-i.pieces.items c.in_ok-block.block

pub loop-i-init : goal.loop-i-init
loop-i-init g c = record {
  read = record { count = refl; counted = refl; reads = λ start was. was; same = λ disk was. was };
  same = same_itself c.args.self.now;
  count = search rules;
  sound = search rules;
  parts = search rules;
  whole = search rules;
  room = search rules;
  bytes = search rules;
}

pub loop-i-preserved : goal.loop-i-preserved
loop-i-preserved g c = record {
  read = search rules;
  same = still_same c.args.self.now c.loop-i.self c.new_block.new.self c.loop-i.invariant.same c.in_ok-block.ensures.unchanged;
  count = let one : length c.push.new.self.items ≡ length c.loop-i.pieces.items + 1 = more g c in omega (arith, c.loop-i.invariant.count, one);
  sound = λ disk shows.
      each_more (λ i. IsPartlyWritten c.args.offset (length c.args.bytes.now) i → IsSoundAt (g.B.Blocks.count c.args.blocks.now) disk c.args.self.now.tree i)
      (c.args.offset / 4096) (length c.loop-i.pieces.items) (length c.push.new.self.items) c.loop-i.i (more g c) c.loop-i.invariant.count (c.loop-i.invariant.sound disk shows)
      (λ part. c.loop-i.invariant.same.was_sound (g.B.Blocks.count c.args.blocks.now) disk c.loop-i.i
      (subst (λ (n : ℕ). IsSoundAt n disk c.loop-i.self.tree c.loop-i.i) c.loop-i.invariant.read.count
      (c.in_ok-block.ensures.read disk (c.loop-i.invariant.read.same disk shows) part)));
  parts = λ disk shows.
      each_more (λ i. IsPartlyWritten c.args.offset (length c.args.bytes.now) i → length (file_block disk c.args.self.now i) ≡ 4096)
      (c.args.offset / 4096) (length c.loop-i.pieces.items) (length c.push.new.self.items) c.loop-i.i (more g c) c.loop-i.invariant.count (c.loop-i.invariant.parts disk shows)
      (λ part. ap length (sym (c.loop-i.invariant.same.blocks disk c.loop-i.i)) ∙ c.in_ok-block.ensures.whole disk (c.loop-i.invariant.read.same disk shows) part);
  whole = one_more c.loop-i.pieces.items c.push.new.self.items c.in_ok-block.block c.in_ok-push.ensures.items c.loop-i.invariant.whole c.in_ok-block.ensures.length;
  room = each_more (HasRoom c.new_block.new.self.tree) (c.args.offset / 4096) (length c.loop-i.pieces.items) (length c.push.new.self.items) c.loop-i.i (more g c) c.loop-i.invariant.count
      (λ j lt. c.in_ok-block.ensures.keeps (c.args.offset / 4096 + j) (c.loop-i.invariant.room j lt)) c.in_ok-block.ensures.room;
  bytes = λ disk shows. piece_more c.loop-i.pieces.items c.push.new.self.items c.in_ok-block.block (c.args.offset / 4096) c.loop-i.i (with_bytes_at (byte_at disk c.args.self.now) c.args.offset c.args.bytes.now) c.in_ok-push.ensures.items c.loop-i.invariant.count (c.loop-i.invariant.bytes disk shows)
      (λ r lt. c.in_ok-block.ensures.bytes disk (c.loop-i.invariant.read.same disk shows) r lt
      ∙ written_same (byte_at disk c.loop-i.self) (byte_at disk c.args.self.now) c.args.offset c.args.bytes.now (4096 * c.loop-i.i + r)
      (ap (λ (b : List ℕ). slice_index b ((4096 * c.loop-i.i + r) % 4096)) (c.loop-i.invariant.same.blocks disk ((4096 * c.loop-i.i + r) / 4096))));
}

pub returns-in_err-block-clause-same : goal.returns-in_err-block-clause-same
returns-in_err-block-clause-same g c = still_same c.args.self.now c.loop-i.self c.new_block.new.self c.loop-i.invariant.same c.in_err-block.ensures.unchanged

pub returns-in_err-push-clause-same : goal.returns-in_err-push-clause-same
returns-in_err-push-clause-same g c = still_same c.args.self.now c.loop-i.self c.new_block.new.self c.loop-i.invariant.same c.in_ok-block.ensures.unchanged

pub returns-clause-stores : goal.returns-clause-stores
returns-clause-stores g c = λ short.
    stores_write c.loop-i.self _ c.args.self.now.size c.args.offset (length c.args.bytes.now) (search rules) short (search rules)

pub returns-in_err-block-clause-damaged : goal.returns-in_err-block-clause-damaged
returns-in_err-block-clause-damaged g c = λ disk shows bad sound.
    c.in_err-block.ensures.damaged disk (c.loop-i.invariant.read.same disk shows) (search rules)
    (λ part. subst (λ (n : ℕ). IsSoundAt n disk c.loop-i.self.tree c.loop-i.i) (sym c.loop-i.invariant.read.count)
    (c.loop-i.invariant.same.sound (g.B.Blocks.count c.args.blocks.now) disk c.loop-i.i (sound c.loop-i.i part)))

pub returns-clause-blocks : goal.returns-clause-blocks
returns-clause-blocks g c = λ disk shows.
    let blocks = file_block disk c.args.self.now in
    let first = c.args.offset / 4096 in
    let pieces = c.loop-i.pieces.items in
    let are : c.args.offset / 4096 + length c.loop-i.pieces.items ≡ block_count (c.args.offset + length c.args.bytes.now) = search rules in
    record {
      read = λ i part.
          at_edge (λ i. IsPartlyWritten c.args.offset (length c.args.bytes.now) i → length (file_block disk c.args.self.now i) ≡ 4096)
          c.args.offset (length c.args.bytes.now) (length c.loop-i.pieces.items) i are (c.loop-i.invariant.parts disk shows) part part;
      put = λ i is.
          let (from, to) = written_in c.args.offset (length c.args.bytes.now) (length c.loop-i.pieces.items) i are is in
          put_length blocks c.max.result first pieces i from to c.loop-i.invariant.whole;
      past = λ i past. past_length blocks c.max.result first pieces i past;
      rest = λ i out lt. kept_block blocks c.max.result first pieces i lt (written_out c.args.offset (length c.args.bytes.now) (length c.loop-i.pieces.items) i are c.requires out);
    }
