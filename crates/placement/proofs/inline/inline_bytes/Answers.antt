use Rattle.std.proofs.Common.{◌≡◌, ℕ, List, length, ap, sym, ◌∙◌}
use Rattle.inode.specs.Files.{file_block}
use Rattle.placement.proofs.InlineLaws.{head_is}
use Rattle.placement.proofs.inline.inline_bytes.Given.{Over}
use Rattle.placement.proofs.inline.inline_bytes.Goals as goal

-- the bytes that were found are those of the file's first block
first_is : (g : Over) (c : goal.After-head_of g) (disk : ℕ → List ℕ) → g.B.Blocks.Shows c.args.blocks.now disk → c.bytes.result.now ≡ file_block disk c.args.file.now 0
first_is g c disk shows = c.bytes.ensures disk (c.in_ok-location.ensures.reads.same disk shows) (c.in_ok-location.ensures.found disk shows)

pub returns-clause-bytes : goal.returns-clause-bytes
returns-clause-bytes g c = λ disk shows.
    let first = first_is g c disk shows in
    let each = λ (k : ℕ). rw (first, c.size.ensures.value) at (c.head_of.ensures.each k) in
    head_is c.head_of.result (file_block disk c.args.file.now 0) c.args.file.now.size c.head_of.ensures.count (ap (λ (xs : List ℕ). length xs) (sym first) ∙ c.head_of.ensures.whole) c.requires each

pub returns-clause-whole : goal.returns-clause-whole
returns-clause-whole g c = λ disk shows.
    ap (λ (xs : List ℕ). length xs) (sym (first_is g c disk shows)) ∙ c.head_of.ensures.whole
