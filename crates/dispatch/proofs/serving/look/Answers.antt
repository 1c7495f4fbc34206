use Rattle.std.proofs.Common.{rules, ℤ, Ok, subst, w64}
use Rattle.std.proofs.lemmas.Int.{to_z-of_z}
use Rattle.model.specs.declared.command.Command.TheVariants as command
use Rattle.dispatch.specs.Answering.{Answers}
use Rattle.dispatch.proofs.serving.look.Goals as goal

pub returns-in-SnapList : goal.returns-in-SnapList
returns-in-SnapList g c = rw c.in-SnapList.is c.list_snapshots.ensures

pub returns-in-Within : goal.returns-in-Within
returns-in-Within g c = rw c.in-Within.is c.look_within.ensures

pub returns-in-Close : goal.returns-in-Close
returns-in-Close g c = rw c.in-Close.is c.close_file.ensures

pub returns-in-Extent : goal.returns-in-Extent
returns-in-Extent g c = rw c.in-Extent.is
    (subst (λ (z : ℤ). Answers c.args.system.now c.look_at_blocks.new.system (command.Extent c.in-Extent.path z) c.look_at_blocks.result)
    (to_z-of_z w64 c.in-Extent.offset (search rules)) c.look_at_blocks.ensures)

pub returns-in-At : goal.returns-in-At
returns-in-At g c = rw c.in-At.is
    (subst (λ (z : ℤ). Answers c.args.system.now c.say_time.new.system (command.At z c.in-At.nanoseconds) (Ok c.say_time.result))
    (to_z-of_z w64 c.in-At.seconds (search rules)) c.say_time.ensures)

pub returns-in-As : goal.returns-in-As
returns-in-As g c = rw c.in-As.is c.say_owner.ensures
