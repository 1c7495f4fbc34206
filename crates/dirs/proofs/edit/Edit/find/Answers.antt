use Rattle.std.proofs.Common.{sym, subst}
use Rattle.std.specs.Option.{option_map}
use Rattle.dirs.specs.Edits.{IsNamePlace, IsFirstFound, edited_block}
use Rattle.dirs.proofs.HoldLaws.{missing_name}
use Rattle.buffers.proofs.ReadLaws.{reads_err, reads_ok}
use Rattle.dirs.proofs.edit.Edit.find.Goals as goal

pub returns-in-Some-clause-found : goal.returns-in-Some-clause-found
returns-in-Some-clause-found g c = λ disk names shows knows has.
    let placed = subst (IsNamePlace has.entries c.args.self.now.count c.args.name.now) c.in-Some.is (c.in_ok-place.ensures.placed disk has.entries shows knows has.holds) in
    sym (has.are.found c.in-Some.place.block c.args.name.now c.in-Some.place.number placed.1)

pub returns-in-None-clause-found : goal.returns-in-None-clause-found
returns-in-None-clause-found g c = λ disk names shows knows has.
    let placed = subst (IsNamePlace has.entries c.args.self.now.count c.args.name.now) c.in-None.is (c.in_ok-place.ensures.placed disk has.entries shows knows has.holds) in
    sym (missing_name c.args.inodes c.args.self.now.count (edited_block disk c.args.file.now c.args.self.now) names c.args.name.now has placed)

pub returns-in-None-clause-sound : goal.returns-in-None-clause-sound
returns-in-None-clause-sound g c = λ disk shows knows.
    subst (λ p. IsFirstFound c.args.inodes (edited_block disk c.args.file.now c.args.self.now) c.args.self.now.count c.args.name.now (option_map (λ q. q.number) p))
    c.in-None.is (c.in_ok-place.ensures.first disk shows knows)

pub returns-in_err-place-clause-reads : goal.returns-in_err-place-clause-reads
returns-in_err-place-clause-reads g c = reads_err c.from_residual.result c.from_residual.ensures.1 c.in_err-place.ensures.reads

pub returns-in-Some-clause-reads : goal.returns-in-Some-clause-reads
returns-in-Some-clause-reads g c = reads_ok c.in_ok-place.ensures.reads

pub returns-in-None-clause-reads : goal.returns-in-None-clause-reads
returns-in-None-clause-reads g c = reads_ok c.in_ok-place.ensures.reads
