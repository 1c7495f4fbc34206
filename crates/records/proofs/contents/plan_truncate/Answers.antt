use Rattle.std.proofs.Common.{rules, ℕ, ◌∙◌, sym, subst, arith}
use Rattle.layout.specs.FileBytes.{EndsAt}
use Rattle.model.specs.Edits.{resized}
use Rattle.inode.specs.Files.{byte_at, byte_with, bytes_of_file}
use Rattle.inode.proofs.ComposingLaws.{truncated_ends}
use Rattle.model.proofs.EditLaws.{length-resized}
use Rattle.records.proofs.BlockLaws.{truncated_tells}
use Rattle.records.proofs.ContentLaws.{resized_is, resizes_same, rewrites_same}
use Rattle.records.proofs.contents.plan_truncate.Goals as goal

pub returns-in-Ok : goal.returns-in-Ok
returns-in-Ok g c =
    let told = c.in-Ok.ensures in
    let old = c.args.file.now in
    let change = c.in-Ok.change in
    record {
      reads = search rules;
      same = search rules;
      fits = search rules;
      stores = told.stores;
      rewrites = λ disk shows whole.
          rewrites_same disk (resized c.args.size) old c.prepare_truncate.new.self change told.same
          (subst (λ (n : ℕ). EndsAt n (byte_with disk old change)) (sym told.size) (truncated_ends (byte_at disk old) (byte_with disk old change) c.args.size (told.bytes disk shows whole)))
          (told.list disk shows whole ∙ resized_is c.args.size (bytes_of_file disk old));
      sizes = λ disk shows. resizes_same disk (resized c.args.size) old c.prepare_truncate.new.self change told.same (λ bytes long tells. (
        length-resized c.args.size bytes ∙ sym told.size,
        truncated_tells disk old change c.args.size bytes long told.size tells (told.blocks disk shows),
      ));
      whole = λ disk shows. (told.blocks disk shows).read;
      damaged = search rules;
    }

pub returns-in-Err-TooBig : goal.returns-in-Err-TooBig
returns-in-Err-TooBig g c = record {
  reads = search rules;
  same = search rules;
  fits = tt;
  stores = tt;
  rewrites = λ disk shows whole. tt;
  sizes = λ disk shows. tt;
  whole = λ disk shows. tt;
  damaged = λ disk shows is sound within. omega (arith, c.in-Err-TooBig.ensures.too_big (search rules), within);
}
