use Rattle.std.proofs.Common.{◌≡◌, ◌+◌, ◌/◌, ◌∷◌, ◌++◌, [], length, take, slice_index_or, sym, arith}
use Rattle.std.proofs.lemmas.List.{take_all, take_more}
use Rattle.std.specs.List.{concat}
use Rattle.std.specs.Prelude.{bit_xor}
use Rattle.sums.proofs.ChunkLaws.{chunks_and_rest, concat-take_more}
use Rattle.sums.proofs.RemainderLaws.{remainder-none, remainder-append, sum-append}
use Rattle.sums.proofs.sum.crc32c_append.Goals as goal

pub loop-eight-init : goal.loop-eight-init
loop-eight-init c = record { so_far = sym (remainder-none (bit_xor c.args.sum 0xffffffff)) }

pub loop-eight-preserved : goal.loop-eight-preserved
loop-eight-preserved c =
    let eights = c.as_chunks.result.0.now in
    let i = c.loop-eight.eight-index in
    let more : concat (take (i + 1) eights) ≡ concat (take i eights) ++ slice_index_or eights i [] = concat-take_more eights i c.loop-eight-test.true in
    let law = remainder-append (bit_xor c.args.sum 0xffffffff) (concat (take i eights)) (slice_index_or eights i []) in
    record { so_far = cc }

pub loop-byte-init : goal.loop-byte-init
loop-byte-init c = record { so_far = sym (remainder-none c.loop-eight.remainder) }

pub loop-byte-preserved : goal.loop-byte-preserved
loop-byte-preserved c =
    let last = c.as_chunks.result.1.now in
    let i = c.loop-byte.byte-index in
    let more = take_more last i 0 c.loop-byte-test.true in
    let law = remainder-append c.loop-eight.remainder (take i last) (slice_index_or last i 0 ∷ []) in
    record { so_far = cc }

pub returns : goal.returns
returns c = λ before is.
    let bytes = c.args.bytes.now in
    let eights = c.as_chunks.result.0.now in
    let last = c.as_chunks.result.1.now in
    let all_eights = take_all c.loop-eight.eight-index eights c.loop-eight-test.false in
    let all_last = take_all c.loop-byte.byte-index last c.loop-byte-test.false in
    let parts = chunks_and_rest 8 (length bytes / 8) bytes (omega arith) in
    let law = remainder-append (bit_xor c.args.sum 0xffffffff) (concat eights) last in
    let sum = sum-append before bytes in
    cc
