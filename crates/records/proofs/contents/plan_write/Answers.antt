use Rattle.std.proofs.Common.{rules, ◌∙◌, arith}
use Rattle.model.specs.Edits.{written}
use Rattle.inode.specs.Files.{byte_at, byte_with, bytes_of_file}
use Rattle.inode.proofs.ComposingLaws.{written_ends}
use Rattle.model.proofs.EditLaws.{length-written}
use Rattle.records.proofs.BlockLaws.{write_tells}
use Rattle.records.proofs.ContentLaws.{resizes_same, rewrites_same, written_is}
use Rattle.records.proofs.contents.plan_write.Goals as goal

pub returns-in-Ok : goal.returns-in-Ok
returns-in-Ok g c =
    let told = c.in-Ok.ensures in
    let old = c.args.file.now in
    let change = c.in-Ok.change in
    record {
      reads = search rules;
      same = search rules;
      fits = search rules;
      stores = told.stores c.requires.few;
      rewrites = λ disk shows whole.
          rewrites_same disk (written c.args.offset c.args.bytes.now) old c.prepare_write.new.self change told.same
          (written_ends (byte_at disk old) (byte_with disk old change) old.size change.size c.args.offset c.args.bytes.now told.size whole (told.bytes disk shows whole))
          (told.list disk shows whole ∙ written_is c.args.offset c.args.bytes.now (bytes_of_file disk old));
      sizes = λ disk shows. resizes_same disk (written c.args.offset c.args.bytes.now) old c.prepare_write.new.self change told.same (λ bytes long tells. (
        length-written c.args.offset c.args.bytes.now bytes ∙ omega (arith, long, told.size),
        write_tells disk old change c.args.offset c.args.bytes.now bytes (λ i. omega (arith, c.type_inv.bytes i)) long told.size tells (told.blocks disk shows),
      ));
      whole = λ disk shows. (told.blocks disk shows).read;
      damaged = search rules;
    }

pub returns-in-Err-TooBig : goal.returns-in-Err-TooBig
returns-in-Err-TooBig g c = record {
  reads = search rules;
  same = search rules;
  fits = tt;
  stores = tt;
  rewrites = λ disk shows whole. tt;
  sizes = λ disk shows. tt;
  whole = λ disk shows. tt;
  damaged = λ disk shows is sound within. omega (arith, c.in-Err-TooBig.ensures.too_big (search rules), within);
}
