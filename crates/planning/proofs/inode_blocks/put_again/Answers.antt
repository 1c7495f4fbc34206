use Rattle.std.proofs.Common.{◌≡◌, ◌/◌, length, refl, ap, ◌∙◌, inl, inr, arith, nat_eq, true, false}
use Rattle.std.proofs.lemmas.Bool.{cases_eq}
use Rattle.std.proofs.lemmas.Bool.Decides.{nat_tests}
use Rattle.layout.specs.Inode.{inode_bytes}
use Rattle.layout.proofs.WritingLaws.{wrote_all}
use Rattle.inode.proofs.PutLaws.{put_is}
use Rattle.inode.specs.Files.{file_block}
use Rattle.planning.proofs.inode_blocks.put_again.Goals as goal

pub returns-clause-put : goal.returns-clause-put
returns-clause-put c = λ yes disk i.
    let block = file_block disk c.args.file.now in
    let after = file_block disk c.put_in_block.new.self in
    let n = c.args.number in
    let whole = c.in_ok-put.ensures.whole yes disk in
    let spelled : c.write-at.new.out ≡ inode_bytes c.args.inode.now = wrote_all _ _ _ _ c.write-at.ensures.wrote refl in
    let long : length c.write-at.new.out ≡ 192 = (let said = c.write-at.ensures.wrote.length_is in omega (arith, ap length spelled)) in
    elim (cases_eq i (n / 21)) [
      | inl same ↦
          let here : nat_eq i (n / 21) ≡ true = grind (arith, nat_tests) in
          rw here (ap after same ∙ put_is (after (n / 21)) (block (n / 21)) _ _ _ _ refl spelled whole.0 whole.1 (omega (arith, long)) (c.in_ok-put.ensures.there yes disk))
      | inr other ↦
          let apart : nat_eq i (n / 21) ≡ false = grind (arith, nat_tests) in
          rw apart (c.put_in_block.ensures.others disk i other)
    ]
