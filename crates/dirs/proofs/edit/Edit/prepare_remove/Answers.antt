use Rattle.std.proofs.Common.{rules, ◌≡◌, ◌∙◌, inl, inr, ◌+◌, ◌≤◌, arith, subst, sym, refl, [], None}
use Rattle.std.specs.Prelude.{OnErr, Result, Ok, Err}
use Rattle.std.proofs.lemmas.Bool.{cases_lt}
use Rattle.std.proofs.lemmas.List.{nil_from_length}
use Rattle.layout.specs.Directory.{HoldsEntries}
use Rattle.entries.specs.Entries.{without}
use Rattle.layout.specs.DirectoryNames.{HoldNames}
use Rattle.dirs.specs.Directory.{with_name}
use Rattle.dirs.specs.Edits.{IsNamePlace, IsReached, edited_block}
use Rattle.dirs.proofs.HoldLaws.{removed_nothing, hold_removed, same_blocks}
use Rattle.dirs.proofs.KnownLaws.{forgets}
use Rattle.buffers.proofs.ReadLaws.{reads_err, reads_more, reads_ok}
use Rattle.dirs.proofs.edit.Edit.prepare_remove.Goals as goal

on_err : {T E : Type 0} (r : Result T E) (P : Type 0) → P → OnErr r P
on_err (Ok x) P holds = tt
on_err (Err e) P holds = holds

pub returns-in_err-put-clause-kept : goal.returns-in_err-put-clause-kept
returns-in_err-put-clause-kept g c = λ disk names has.
    let put = c.in_err-put.ensures in
    let new = edited_block disk c.put.new.file c.put.new.self in
    on_err c.from_residual-in_err-put.result _ (subst (λ n. HoldNames c.args.inodes n new names) (sym put.count)
    (same_blocks c.args.inodes c.args.self.now.count (edited_block disk c.args.file.now c.args.self.now) new names (λ j below. put.err disk j) has))

pub returns-in_default-clause-removed : goal.returns-in_default-clause-removed
returns-in_default-clause-removed g c = λ disk names shows knows has.
    let placed = subst (IsNamePlace has.entries c.args.self.now.count c.args.name.now) c.in_default.is (c.in_ok-place.ensures.placed disk has.entries shows knows has.holds) in
    removed_nothing c.args.inodes c.args.self.now.count (edited_block disk c.args.file.now c.args.self.now) names c.args.name.now has placed

pub returns-in_err-self-clause-damaged : goal.returns-in_err-self-clause-damaged
returns-in_err-self-clause-damaged g c = λ disk shows is reached sound.
    let same = c.in_ok-copy.ensures.reads.count ∙ c.in_ok-place.ensures.reads.count in
    let last : c.in-Some.place.block + 1 ≡ c.args.self.now.count = omega arith in
    let before : IsReached (g.B.Blocks.count c.copy.new.blocks) disk c.args.file.now c.in-Some.place.block =
    subst (λ n. IsReached n disk c.args.file.now c.in-Some.place.block) (sym same) (λ i below. reached i (omega (arith, below))) in
    c.in_err-self.ensures.damaged disk (c.in_ok-copy.ensures.reads.same disk (c.in_ok-place.ensures.reads.same disk shows)) (search rules) before (λ i below. sound i (omega (arith, below)))

pub returns-then-count-eq0-clause-removed : goal.returns-then-count-eq0-clause-removed
returns-then-count-eq0-clause-removed g c = λ disk names shows knows has.
    let old = edited_block disk c.args.file.now c.args.self.now in
    let i = c.in-Some.place.block in
    let last : i + 1 ≡ c.args.self.now.count = omega arith in
    let placed = subst (IsNamePlace has.entries c.args.self.now.count c.args.name.now) c.in-Some.is (c.in_ok-place.ensures.placed disk has.entries shows knows has.holds) in
    let located = c.in_ok-place.ensures.reads.same disk shows in
    let copied = c.in_ok-copy.ensures.bytes disk located in
    let left = c.remove.ensures.holds (has.entries i) (subst (λ b. HoldsEntries c.args.inodes b (has.entries i)) (sym copied) (has.holds i placed.0)) in
    let none = c.count.ensures.count (without c.args.name.now (has.entries i)) left in
    let gone : without c.args.name.now (has.entries i) ≡ [] = nil_from_length (without c.args.name.now (has.entries i)) (omega (arith, none)) in
    let more = c.in_ok-self.field-0 in
    let most : more ≤ i = c.in_ok-self.ensures.within in
    let forgotten = forgets c.args.inodes i old c.remove.new.bytes c.remove.new.self c.forget_from.new.self (c.remove.ensures.knows old _ (c.in_ok-place.ensures.knows disk shows knows) (sym copied)) (c.forget_from.ensures.knows c.args.inodes) in
    let empty = c.in_ok-self.ensures.empty disk has.entries (c.in_ok-copy.ensures.reads.same disk located) forgotten (λ j below. has.holds j (omega (arith, below))) in
    hold_removed c.args.inodes c.args.self.now.count old old names i more c.in-Some.place.number c.args.name.now has placed.1 (record {
      others = λ j below else. (omega (arith, below), refl);
      here = λ below. absurd (omega (arith, below, most));
      past = λ j beyond else. elim (cases_lt j i) [
        | inl before ↦ empty j beyond before
        | inr behind ↦ has.past j (omega (arith, behind, else))
      ];
      gone = λ beyond. gone;
    })

pub returns-clause-removed : goal.returns-clause-removed
returns-clause-removed g c = λ disk names shows knows has.
    let old = edited_block disk c.args.file.now c.args.self.now in
    let new = edited_block disk c.put.new.file c.put.new.self in
    let i = c.in-Some.place.block in
    let placed = subst (IsNamePlace has.entries c.args.self.now.count c.args.name.now) c.in-Some.is (c.in_ok-place.ensures.placed disk has.entries shows knows has.holds) in
    let copied = c.in_ok-copy.ensures.bytes disk (c.in_ok-place.ensures.reads.same disk shows) in
    let left = c.remove.ensures.holds (has.entries i) (subst (λ b. HoldsEntries c.args.inodes b (has.entries i)) (sym copied) (has.holds i placed.0)) in
    subst (λ n. HoldNames c.args.inodes n new (with_name c.args.name.now None names)) (sym c.in_ok-put.ensures.count)
    (hold_removed c.args.inodes c.args.self.now.count old new names i c.args.self.now.count c.in-Some.place.number c.args.name.now has placed.1 (record {
      others = λ j below else. (below, c.in_ok-put.ensures.others disk j else);
      here = λ below. subst (λ b. HoldsEntries c.args.inodes b (without c.args.name.now (has.entries i))) (sym (c.in_ok-put.ensures.here disk)) left;
      past = λ j beyond else. has.past j beyond;
      gone = λ beyond. absurd (omega (arith, beyond, placed.0));
    }))

pub returns-in_err-place-clause-reads : goal.returns-in_err-place-clause-reads
returns-in_err-place-clause-reads g c = reads_err c.from_residual.result c.from_residual.ensures.1 c.in_err-place.ensures.reads

pub returns-in_default-clause-reads : goal.returns-in_default-clause-reads
returns-in_default-clause-reads g c = reads_ok c.in_ok-place.ensures.reads

pub returns-in_err-copy-clause-reads : goal.returns-in_err-copy-clause-reads
returns-in_err-copy-clause-reads g c = reads_err c.from_residual-in_err-copy.result c.from_residual-in_err-copy.ensures.1 (reads_more _ c.in_ok-place.ensures.reads c.in_err-copy.ensures.reads)

pub returns-in_err-self-clause-reads : goal.returns-in_err-self-clause-reads
returns-in_err-self-clause-reads g c = reads_err c.from_residual-in_err-self.result c.from_residual-in_err-self.ensures.1 (reads_more _ (reads_more _ c.in_ok-place.ensures.reads c.in_ok-copy.ensures.reads) c.in_err-self.ensures.reads)

pub returns-then-count-eq0-clause-reads : goal.returns-then-count-eq0-clause-reads
returns-then-count-eq0-clause-reads g c = reads_ok (reads_more _ (reads_more _ c.in_ok-place.ensures.reads c.in_ok-copy.ensures.reads) c.in_ok-self.ensures.reads)

pub returns-clause-reads : goal.returns-clause-reads
returns-clause-reads g c = reads_ok (reads_more _ c.in_ok-place.ensures.reads c.in_ok-copy.ensures.reads)

pub returns-in_default-clause-knows : goal.returns-in_default-clause-knows
returns-in_default-clause-knows g c = λ disk shows knows. c.in_ok-place.ensures.knows disk shows knows

pub returns-then-count-eq0-clause-knows : goal.returns-then-count-eq0-clause-knows
returns-then-count-eq0-clause-knows g c = λ disk shows knows.
    let old = edited_block disk c.args.file.now c.args.self.now in
    let located = c.in_ok-place.ensures.reads.same disk shows in
    let copied = c.in_ok-copy.ensures.bytes disk located in
    c.in_ok-self.ensures.knows disk (c.in_ok-copy.ensures.reads.same disk located)
    (forgets c.args.inodes c.in-Some.place.block old c.remove.new.bytes c.remove.new.self c.forget_from.new.self (c.remove.ensures.knows old _ (c.in_ok-place.ensures.knows disk shows knows) (sym copied)) (c.forget_from.ensures.knows c.args.inodes))

pub returns-clause-knows : goal.returns-clause-knows
returns-clause-knows g c = λ disk shows knows.
    let old = edited_block disk c.args.file.now c.args.self.now in
    let new = edited_block disk c.put.new.file c.put.new.self in
    let copied = c.in_ok-copy.ensures.bytes disk (c.in_ok-place.ensures.reads.same disk shows) in
    let put = c.in_ok-put.ensures in
    c.remove.ensures.knows old new (c.in_ok-place.ensures.knows disk shows knows) (sym copied) (put.here disk) (λ j other. put.others disk j other)
