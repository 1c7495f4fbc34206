use Rattle.std.proofs.Common.{◌≡◌, ◌∙◌, ◌||◌, ℤ, length, w64, true, None, Some, refl, sym, subst}
use Rattle.std.proofs.lemmas.Int.{to_z-of_z}
use Rattle.layout.specs.StateLimits.{limits_of}
use Rattle.model.specs.Descriptors.{stores}
use Rattle.model.specs.Paths.{first_refusal, text_tests}
use Rattle.model.specs.Reading.{is_negative, is_too_many}
use Rattle.model.specs.Volumes.{tree_of}
use Rattle.model.specs.declared.errno.Errno.TheVariants.{EINVAL}
use Rattle.records.proofs.StandLaws.{no_look}
use Rattle.calls.specs.Get.{range_tests}
use Rattle.calls.specs.Store.{PreparesStoring, StoresFile}
use Rattle.calls.proofs.GetLaws.{get_passed, range_refused, text_before, text_first}
use Rattle.calls.proofs.RefusalLaws.{text_own}
use Rattle.calls.proofs.StoreLaws.{store_refused}
use Rattle.calls.proofs.StoreSteps.{refuses}
use Rattle.calls.proofs.preparing.store.store.Goals as goal

pub returns-in-Some : goal.returns-in-Some
returns-in-Some g c =
    let is : first_refusal (text_tests (limits_of c.args.inodes.now.geometry) c.args.path.now) ≡ Some c.in-Some.errno = sym c.refusal_of_path.ensures ∙ c.in-Some.is in
    let bytes = c.args.bytes.now in
    refuses no_look (text_own (limits_of c.args.inodes.now.geometry) c.args.path.now c.in-Some.errno is) (λ disk settled v table stands volume mounted.
    store_refused (limits_of c.args.inodes.now.geometry) c.args.now v table c.args.path.now c.args.offset bytes c.in-Some.errno (text_first (limits_of c.args.inodes.now.geometry) c.args.path.now (range_tests c.args.offset (length bytes)) c.in-Some.errno is))

pub returns-then-is_no_range : goal.returns-then-is_no_range
returns-then-is_no_range g c = refuses no_look refl (λ disk settled v table stands volume mounted.
    let back = to_z-of_z w64 c.args.offset c.ranges.offset in
    let many = length c.args.bytes.now in
    let none : first_refusal (text_tests (limits_of c.args.inodes.now.geometry) c.args.path.now) ≡ None = sym c.refusal_of_path.ensures ∙ c.in_default.is in
    store_refused (limits_of c.args.inodes.now.geometry) c.args.now v table c.args.path.now c.args.offset c.args.bytes.now EINVAL
    (text_before (limits_of c.args.inodes.now.geometry) c.args.path.now (range_tests c.args.offset many) none ∙ range_refused c.args.offset many
    (subst (λ (z : ℤ). (is_negative z || is_too_many many) ≡ true) back (sym c.is_no_range.ensures ∙ c.if-is_no_range.true))))

pub store_along-requires-clause-passed : goal.store_along-requires-clause-passed
store_along-requires-clause-passed g c =
    let none : first_refusal (text_tests (limits_of c.args.inodes.now.geometry) c.args.path.now) ≡ None = sym c.refusal_of_path.ensures ∙ c.in_default.is in
    get_passed (limits_of c.args.inodes.now.geometry) c.args.path.now _ (length c.args.bytes.now) none (sym c.is_no_range.ensures ∙ c.if-is_no_range.false)

pub returns : goal.returns
returns g c =
    subst
    (λ (z : ℤ). PreparesStoring c.args.now c.args.bytes.now g.B.Blocks c.args.blocks.now c.store_along.new.blocks c.args.inodes.now c.store_along.new.inodes
    (λ limits v table. StoresFile (stores limits c.args.now (tree_of v table) c.args.path.now z c.args.bytes.now) limits c.args.now v table c.args.bytes.now) c.store_along.result)
    (to_z-of_z w64 c.args.offset c.ranges.offset) c.store_along.ensures
