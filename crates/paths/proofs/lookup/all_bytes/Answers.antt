use Rattle.std.proofs.Common.{◌≡◌, ◌∙◌, ◌+◌, ◌++◌, length, take, drop, ap, arith}
use Rattle.std.proofs.Math.Seq.{take-append_seam}
use Rattle.std.proofs.lemmas.List.FromFn.{fill_by_all}
use Rattle.inode.specs.Files.{byte_at, bytes_of_file}
use Rattle.paths.proofs.lookup.all_bytes.Goals as goal

pub returns-clause-bytes : goal.returns-clause-bytes
returns-clause-bytes g c = λ disk shows.
    let bytes = c.read_at.new.out in
    let rest = drop (length bytes) c.in_ok-bytes.bytes.items in
    let long : length bytes ≡ c.args.file.now.size = omega (arith, c.in_ok-bytes.ensures.len, c.size.ensures.value) in
    let len : c.in_ok-bytes.bytes.len ≡ length bytes = omega arith in
    let all : bytes ≡ bytes_of_file disk c.args.file.now = fill_by_all (byte_at disk c.args.file.now) bytes c.args.file.now.size 0 long (λ k lt. let at : 0 + k ≡ k = omega arith in c.in_ok-read_at.ensures.bytes disk shows k (omega (arith, lt, long)) ∙ ap (byte_at disk c.args.file.now) at) in
    ap (λ n. take n (bytes ++ rest)) len ∙ take-append_seam bytes rest ∙ all
