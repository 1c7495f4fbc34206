use Rattle.std.proofs.Common.{ℤ, pos, negsuc, ◌≤◌, nat_abs, w64, Option, Some, IfSome, SFits, arith, subst}
use Rattle.std.proofs.lemmas.Int.{to_z-of_z}
use Rattle.model.specs.declared.limits.Limits.{Limits}
use Rattle.layout.specs.StateLimits.{limits_of}
use Rattle.model.specs.Changing.{sets_file}
use Rattle.model.specs.Volumes.{tree_of}
use Rattle.model.specs.Limits.{AreLimits}
use Rattle.layout.proofs.LimitLaws.{limits_can_be}
use Rattle.calls.specs.Changing.{ComesOrStays}
use Rattle.calls.proofs.PrepareSteps.{leaves}
use Rattle.calls.proofs.SetLaws.{file_has_mode}
use Rattle.calls.proofs.preparing.set.set_file.Goals as goal

-- a size within the limit is a number of 64 bits
size_fits : (limits : Limits) → AreLimits limits → (z : ℤ) → nat_abs z ≤ limits.file_bytes → SFits w64 z
size_fits limits can_be (pos n) few = record { sfits = omega (arith, few, can_be.files) }
size_fits limits can_be (negsuc n) few = record { sfits = omega (arith, few, can_be.files) }

pub returns-in-None : goal.returns-in-None
returns-in-None g c = leaves c.set_mode.ensures (λ disk settled v table stands volume mounted r given is. rw c.in-None.is (given (file_has_mode (v c.args.number) is)))

pub returns-in-Some : goal.returns-in-Some
returns-in-Some g c = leaves c.set_size.ensures (λ disk settled v table stands volume mounted r given is.
    let few = subst (λ (o : Option ℤ). IfSome o (λ size. nat_abs size ≤ (limits_of c.args.inodes.now.geometry).file_bytes)) c.in-Some.is c.requires.within in
    rw c.in-Some.is (subst (λ (z : ℤ). ComesOrStays (sets_file c.args.now (tree_of v table) c.args.number c.args.settings.mode (Some z)) (limits_of c.args.inodes.now.geometry) v table r)
    (to_z-of_z w64 c.in-Some.size (size_fits (limits_of c.args.inodes.now.geometry) (limits_can_be c.args.inodes.now.geometry) c.in-Some.size few)) (given is)))
