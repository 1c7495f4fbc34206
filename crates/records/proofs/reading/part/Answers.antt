use Rattle.std.proofs.Common.{◌≡◌, ◌∙◌, ◌+◌, ◌-◌, ◌++◌, length, take, drop, min, refl, ap, arith}
use Rattle.std.proofs.Math.Seq.{take-append_seam}
use Rattle.inode.specs.Files.{byte_at, bytes_of_file}
use Rattle.model.specs.Edits.{read_at}
use Rattle.records.proofs.PartLaws.{part_read}
use Rattle.records.proofs.reading.part.Goals as goal

pub returns-clause-bytes : goal.returns-clause-bytes
returns-clause-bytes g c = λ disk shows.
    let bytes = c.read_at.new.out in
    let rest = drop (length bytes) c.in_ok-bytes.bytes.items in
    let file = c.args.file.now in
    let size = file.size in
    let start = min c.args.offset size in
    let same : c.min-start.result ≡ start = omega (arith, c.size-size.ensures.value) in
    let long : length bytes ≡ min (size - start) c.args.count = omega (arith, c.in_ok-bytes.ensures.len, c.size-size.ensures.value) in
    let len : c.in_ok-bytes.bytes.len ≡ length bytes = omega arith in
    let all : bytes ≡ read_at c.args.offset c.args.count (bytes_of_file disk file) = part_read (byte_at disk file) size c.args.offset c.args.count start bytes refl long (λ k lt. c.in_ok-read_at.ensures.bytes disk shows k lt ∙ ap (λ n. byte_at disk file (n + k)) same) in
    ap (λ n. take n (bytes ++ rest)) len ∙ take-append_seam bytes rest ∙ all
