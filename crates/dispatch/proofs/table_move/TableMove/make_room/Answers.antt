use Rattle.dispatch.proofs.TableLaws.{room_beside, same_numbers}
use Rattle.dispatch.proofs.table_move.TableMove.make_room.Goals as goal

pub returns-in-Opens-clause-numbers : goal.returns-in-Opens-clause-numbers
returns-in-Opens-clause-numbers c = λ n has. same_numbers n c.args.files.now c.make_room.new.self c.make_room.ensures.files has

pub returns-in_default-clause-room : goal.returns-in_default-clause-room
returns-in_default-clause-room c = room_beside c.args.files.now c.args.self c.in_default.not-Opens
