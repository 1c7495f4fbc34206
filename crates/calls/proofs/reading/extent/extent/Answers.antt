use Rattle.std.proofs.Common.{◌≡◌, ◌∙◌, ℤ, w64, true, None, Some, refl, sym, subst}
use Rattle.std.proofs.lemmas.Int.{to_z-of_z}
use Rattle.layout.specs.StateLimits.{limits_of}
use Rattle.model.specs.Paths.{first_refusal, text_tests}
use Rattle.model.specs.declared.errno.Errno.TheVariants.{EINVAL}
use Rattle.model.specs.Reading.{is_negative}
use Rattle.calls.specs.Extent.{extent_reply, offset_tests, shows_extent}
use Rattle.calls.specs.Seeing.{Answers}
use Rattle.calls.proofs.RefusalLaws.{text_own}
use Rattle.calls.proofs.ExtentLaws.{extent_passed, extent_refused, offset_refused}
use Rattle.calls.proofs.GetLaws.{text_before, text_first}
use Rattle.calls.proofs.SeeSteps.{refuses}
use Rattle.records.proofs.StandLaws.{no_look}
use Rattle.calls.proofs.reading.extent.extent.Goals as goal

pub returns-in-Some : goal.returns-in-Some
returns-in-Some g c =
    let is : first_refusal (text_tests (limits_of c.args.inodes.now.geometry) c.args.path.now) ≡ Some c.in-Some.errno = sym c.refusal_of_path.ensures ∙ c.in-Some.is in
    refuses no_look (text_own (limits_of c.args.inodes.now.geometry) c.args.path.now c.in-Some.errno is) (λ disk settled v table stands volume over stored shows told.
    extent_refused (limits_of c.args.inodes.now.geometry) stored v table c.args.path.now c.args.offset c.in-Some.errno (text_first (limits_of c.args.inodes.now.geometry) c.args.path.now (offset_tests c.args.offset) c.in-Some.errno is))

pub returns-then-is_before_start : goal.returns-then-is_before_start
returns-then-is_before_start g c = refuses no_look refl (λ disk settled v table stands volume over stored shows told.
    let back = to_z-of_z w64 c.args.offset c.ranges.offset in
    let none : first_refusal (text_tests (limits_of c.args.inodes.now.geometry) c.args.path.now) ≡ None = sym c.refusal_of_path.ensures ∙ c.in_default.is in
    extent_refused (limits_of c.args.inodes.now.geometry) stored v table c.args.path.now c.args.offset EINVAL
    (text_before (limits_of c.args.inodes.now.geometry) c.args.path.now (offset_tests c.args.offset) none ∙ offset_refused c.args.offset
    (subst (λ (z : ℤ). is_negative z ≡ true) back (sym c.is_before_start.ensures ∙ c.if-is_before_start.true))))

pub extent_along-requires-clause-passed : goal.extent_along-requires-clause-passed
extent_along-requires-clause-passed g c =
    let none : first_refusal (text_tests (limits_of c.args.inodes.now.geometry) c.args.path.now) ≡ None = sym c.refusal_of_path.ensures ∙ c.in_default.is in
    extent_passed (limits_of c.args.inodes.now.geometry) c.args.path.now _ none (sym c.is_before_start.ensures ∙ c.if-is_before_start.false)

pub returns : goal.returns
returns g c =
    subst
    (λ (z : ℤ). Answers g.B.Blocks c.args.blocks.now c.extent_along.new.blocks c.args.inodes.now c.extent_along.new.inodes (shows_extent g.B.Blocks c.args.blocks.now c.extent_along.new.inodes c.args.path.now z) extent_reply c.extent_along.result)
    (to_z-of_z w64 c.args.offset c.ranges.offset) c.extent_along.ensures
