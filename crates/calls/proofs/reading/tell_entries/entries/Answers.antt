use Rattle.std.proofs.Common.{◌≡◌, ◌∙◌, ◌||◌, ◌==◌, nat_lt, ℤ, w64, true, None, Some, refl, sym, subst}
use Rattle.std.proofs.lemmas.Int.{to_z-of_z}
use Rattle.layout.specs.StateLimits.{limits_of}
use Rattle.model.specs.Paths.{first_refusal, text_tests}
use Rattle.model.specs.declared.errno.Errno.TheVariants.{EINVAL}
use Rattle.model.specs.declared.limits.TheConstants.{ENTRIES_TOLD}
use Rattle.model.specs.Reading.{tells_entries, is_negative}
use Rattle.calls.specs.Entries.{entries_reply, part_tests}
use Rattle.calls.specs.Seeing.{Answers}
use Rattle.calls.proofs.RefusalLaws.{text_own}
use Rattle.calls.proofs.EntriesLaws.{entries_refused, part_passed, part_refused, some_asked}
use Rattle.calls.proofs.GetLaws.{text_before, text_first}
use Rattle.calls.proofs.SeeSteps.{refuses}
use Rattle.records.proofs.StandLaws.{no_look}
use Rattle.calls.proofs.reading.tell_entries.entries.Goals as goal

pub returns-in-Some : goal.returns-in-Some
returns-in-Some g c =
    let is : first_refusal (text_tests (limits_of c.args.inodes.now.geometry) c.args.path.now) ≡ Some c.in-Some.errno = sym c.refusal_of_path.ensures ∙ c.in-Some.is in
    refuses no_look (text_own (limits_of c.args.inodes.now.geometry) c.args.path.now c.in-Some.errno is) (λ disk settled v table stands volume.
    entries_refused (limits_of c.args.inodes.now.geometry) v table c.args.path.now c.args.after c.args.count c.in-Some.errno (text_first (limits_of c.args.inodes.now.geometry) c.args.path.now (part_tests c.args.after c.args.count) c.in-Some.errno is))

pub returns-then-is_no_part : goal.returns-then-is_no_part
returns-then-is_no_part g c = refuses no_look refl (λ disk settled v table stands volume.
    let back = to_z-of_z w64 c.args.after c.ranges.after in
    let none : first_refusal (text_tests (limits_of c.args.inodes.now.geometry) c.args.path.now) ≡ None = sym c.refusal_of_path.ensures ∙ c.in_default.is in
    entries_refused (limits_of c.args.inodes.now.geometry) v table c.args.path.now c.args.after c.args.count EINVAL
    (text_before (limits_of c.args.inodes.now.geometry) c.args.path.now (part_tests c.args.after c.args.count) none ∙ part_refused c.args.after c.args.count
    (subst (λ (z : ℤ). (is_negative z || c.args.count == 0 || nat_lt ENTRIES_TOLD c.args.count) ≡ true) back (sym c.is_no_part.ensures ∙ c.if-is_no_part.true))))

pub entries_along-requires-clause-passed : goal.entries_along-requires-clause-passed
entries_along-requires-clause-passed g c =
    let none : first_refusal (text_tests (limits_of c.args.inodes.now.geometry) c.args.path.now) ≡ None = sym c.refusal_of_path.ensures ∙ c.in_default.is in
    part_passed (limits_of c.args.inodes.now.geometry) c.args.path.now _ c.args.count none (sym c.is_no_part.ensures ∙ c.if-is_no_part.false)

pub entries_along-requires-clause-some : goal.entries_along-requires-clause-some
entries_along-requires-clause-some g c = some_asked _ c.args.count (sym c.is_no_part.ensures ∙ c.if-is_no_part.false)

pub returns : goal.returns
returns g c =
    subst
    (λ (z : ℤ). Answers g.B.Blocks c.args.blocks.now c.entries_along.new.blocks c.args.inodes.now c.entries_along.new.inodes (λ limits t. tells_entries limits t c.args.path.now z c.args.count) entries_reply c.entries_along.result)
    (to_z-of_z w64 c.args.after c.ranges.after) c.entries_along.ensures
