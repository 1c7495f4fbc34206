use Rattle.std.proofs.Common.{◌||◌, Bool, List, ℕ, Option, IsTrue, refl, ap, sym, subst, ◌∙◌}
use Rattle.model.specs.Records.{with_file_bytes}
use Rattle.model.specs.Volumes.{Node, is_directory_node, is_file_node}
use Rattle.model.proofs.MoveLemmas.{bytes_by}
use Rattle.inofile.specs.Objects.{IsObjectOrNone}
use Rattle.records.specs.Steps.{with_given_mode}
use Rattle.records.proofs.RoomLaws.{raises_then}
use Rattle.records.proofs.steps.commit_file.Goals as goal

-- a file with other bytes has a mode
has_mode : (f : List ℕ → List ℕ) (found : Option Node) → IsTrue (is_file_node found) → IsTrue (is_file_node (with_file_bytes f found) || is_directory_node (with_file_bytes f found))
has_mode f found is = ap (λ (b : Bool). b || is_directory_node (with_file_bytes f found)) (bytes_by is_file_node (λ attributes links a b. refl) f found ∙ is)

pub returns-in-Some-clause-rewrites : goal.returns-in-Some-clause-rewrites
returns-in-Some-clause-rewrites c = λ detail disk inodes settled found f stands is rewrites.
    subst (λ (m : Option ℕ). IsObjectOrNone detail disk inodes settled c.set_mode.new.object (with_given_mode m (with_file_bytes f found))) (sym c.in-Some.is)
    (c.set_mode.ensures.sets detail disk inodes settled (with_file_bytes f found) (c.commit_bytes.ensures.rewrites detail disk inodes settled found f stands is rewrites) (has_mode f found is))

pub returns-in-Some-clause-room : goal.returns-in-Some-clause-room
returns-in-Some-clause-room c = λ k stores. raises_then k (c.commit_bytes.ensures.room k stores) c.set_mode.ensures.room

pub returns-in-None-clause-rewrites : goal.returns-in-None-clause-rewrites
returns-in-None-clause-rewrites c = λ detail disk inodes settled found f stands is rewrites.
    subst (λ (m : Option ℕ). IsObjectOrNone detail disk inodes settled c.commit_bytes.new.object (with_given_mode m (with_file_bytes f found))) (sym c.in-None.is)
    (c.commit_bytes.ensures.rewrites detail disk inodes settled found f stands is rewrites)
