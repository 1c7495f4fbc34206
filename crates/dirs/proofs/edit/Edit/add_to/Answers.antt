use Rattle.std.proofs.Common.{sym, subst, ◌∷◌, ◌++◌, []}
use Rattle.layout.specs.Directory.{HoldsEntries, named_of}
use Rattle.dirs.specs.Edits.{edited_block}
use Rattle.buffers.proofs.ReadLaws.{reads_err, reads_ok}
use Rattle.dirs.proofs.edit.Edit.add_to.Goals as goal

pub returns-in_err-copy-clause-reads : goal.returns-in_err-copy-clause-reads
returns-in_err-copy-clause-reads g c = reads_err c.from_residual.result c.from_residual.ensures.1 c.in_err-copy.ensures.reads

pub returns-clause-reads : goal.returns-clause-reads
returns-clause-reads g c = reads_ok c.in_ok-copy.ensures.reads

pub returns-clause-knows : goal.returns-clause-knows
returns-clause-knows g c = λ disk shows knows.
    let old = edited_block disk c.args.file.now c.args.self.now in
    let new = edited_block disk c.put.new.file c.put.new.self in
    let put = c.in_ok-put.ensures in
    c.add.ensures.knows old new knows (sym (c.in_ok-copy.ensures.bytes disk shows)) (put.here disk) (λ j other. put.others disk j other)

pub returns-clause-here : goal.returns-clause-here
returns-clause-here g c = λ disk entries shows knows holds fits.
    let copied = c.in_ok-copy.ensures.bytes disk shows in
    let added = c.add.ensures.holds (edited_block disk c.args.file.now c.args.self.now) entries knows (sym copied) (subst (λ b. HoldsEntries c.args.inodes b entries) (sym copied) holds) fits in
    subst (λ b. HoldsEntries c.args.inodes b (entries ++ named_of c.args.entry.now ∷ [])) (sym (c.in_ok-put.ensures.here disk)) added
