use Rattle.std.proofs.Common.{◌≡◌, List, ℕ, length, sym, subst, ◌∙◌, rules}
use Rattle.std.specs.Cmp.Lexicographic.{same_text}
use Rattle.model.proofs.ListLaws.{whole_again}
use Rattle.buffers.specs.Positions.{IsPart}
use Rattle.inode.specs.Files.{byte_at}
use Rattle.planning.proofs.inode_map.has_bytes.Goals as goal

pub returns-clause-same : goal.returns-clause-same
returns-clause-same g c = λ disk shows is.
    let long : length c.read_at.new.out ≡ c.in_ok-found.found.len = search rules in
    let same : c.as_slice.result.now ≡ c.args.bytes.now = same_text c.as_slice.result.now c.args.bytes.now (sym is ∙ c.eq.ensures) in
    let out : c.read_at.new.out ≡ c.args.bytes.now = sym (whole_again c.read_at.new.out c.in_ok-found.found.items c.in_ok-found.found.len long) ∙ sym c.as_slice.ensures.value ∙ same in
    subst (λ (xs : List ℕ). IsPart (byte_at disk c.args.file.now) 0 xs) out (c.in_ok-read_at.ensures.bytes disk shows)
