use Rattle.std.proofs.Common.{◌≡◌, ◌∙◌, ◌||◌, ℤ, w64, true, None, Some, refl, sym, subst}
use Rattle.std.proofs.lemmas.Int.{to_z-of_z}
use Rattle.layout.specs.StateLimits.{limits_of}
use Rattle.model.specs.Paths.{first_refusal, text_tests}
use Rattle.model.specs.declared.errno.Errno.TheVariants.{EINVAL}
use Rattle.model.specs.Reading.{gets, is_negative, is_too_many}
use Rattle.calls.specs.Get.{data_reply, range_tests}
use Rattle.calls.specs.Seeing.{Answers}
use Rattle.calls.proofs.RefusalLaws.{text_own}
use Rattle.calls.proofs.GetLaws.{get_passed, get_refused, range_refused, text_before, text_first}
use Rattle.calls.proofs.SeeSteps.{refuses}
use Rattle.records.proofs.StandLaws.{no_look}
use Rattle.calls.proofs.reading.get.get.Goals as goal

pub returns-in-Some : goal.returns-in-Some
returns-in-Some g c =
    let is : first_refusal (text_tests (limits_of c.args.inodes.now.geometry) c.args.path.now) ≡ Some c.in-Some.errno = sym c.refusal_of_path.ensures ∙ c.in-Some.is in
    refuses no_look (text_own (limits_of c.args.inodes.now.geometry) c.args.path.now c.in-Some.errno is) (λ disk settled v table stands volume.
    get_refused (limits_of c.args.inodes.now.geometry) v table c.args.path.now c.args.offset c.args.count c.in-Some.errno (text_first (limits_of c.args.inodes.now.geometry) c.args.path.now (range_tests c.args.offset c.args.count) c.in-Some.errno is))

pub returns-then-is_no_range : goal.returns-then-is_no_range
returns-then-is_no_range g c = refuses no_look refl (λ disk settled v table stands volume.
    let back = to_z-of_z w64 c.args.offset c.ranges.offset in
    let none : first_refusal (text_tests (limits_of c.args.inodes.now.geometry) c.args.path.now) ≡ None = sym c.refusal_of_path.ensures ∙ c.in_default.is in
    get_refused (limits_of c.args.inodes.now.geometry) v table c.args.path.now c.args.offset c.args.count EINVAL
    (text_before (limits_of c.args.inodes.now.geometry) c.args.path.now (range_tests c.args.offset c.args.count) none ∙ range_refused c.args.offset c.args.count
    (subst (λ (z : ℤ). (is_negative z || is_too_many c.args.count) ≡ true) back (sym c.is_no_range.ensures ∙ c.if-is_no_range.true))))

pub get_along-requires-clause-passed : goal.get_along-requires-clause-passed
get_along-requires-clause-passed g c =
    let none : first_refusal (text_tests (limits_of c.args.inodes.now.geometry) c.args.path.now) ≡ None = sym c.refusal_of_path.ensures ∙ c.in_default.is in
    get_passed (limits_of c.args.inodes.now.geometry) c.args.path.now _ c.args.count none (sym c.is_no_range.ensures ∙ c.if-is_no_range.false)

pub returns : goal.returns
returns g c =
    subst
    (λ (z : ℤ). Answers g.B.Blocks c.args.blocks.now c.get_along.new.blocks c.args.inodes.now c.get_along.new.inodes (λ limits t. gets limits t c.args.path.now z c.args.count) data_reply c.get_along.result)
    (to_z-of_z w64 c.args.offset c.ranges.offset) c.get_along.ensures
