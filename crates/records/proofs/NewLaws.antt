-- What is made anew has the status of a new object.
use Rattle.std.proofs.Common.{◌≡◌, ℕ, List, Option, sym, ap, subst, ◌∙◌}
use Rattle.layout.specs.declared.inode.Inode.{Inode}
use Rattle.layout.specs.declared.kind.Kind.{Kind}
use Rattle.model.specs.Attributes.{new_attributes}
use Rattle.model.specs.Volumes.{Node}
use Rattle.model.specs.declared.attributes.Attributes.{Attributes}
use Rattle.model.specs.declared.attributes.Permissions.{Permissions}
use Rattle.images.specs.Soundness.{Detail}
use Rattle.entries.specs.declared.known.Known.{Known}
use Rattle.inode.specs.declared.file.File.{File}
use Rattle.inode.specs.declared.object.Object.{Object}
use Rattle.inode.specs.declared.object.Status.{Status}
use Rattle.inofile.specs.Objects.{IsObjectIn}

abbrev pub status_of : Kind → Attributes → Status
status_of kind attributes = record { kind = kind; attributes = attributes; links = 1 }

abbrev pub object_with : File → Known → Status → Object
object_with file known status = record { status = status; file = file; known = known }

pub new_object : (kind : Kind) (permissions : Permissions) (attributes : Attributes) (status : Status) (file : File) (known : Known) (found : Option Node)
    → attributes ≡ new_attributes permissions → status ≡ status_of kind attributes → (detail : Detail) (disk : ℕ → List ℕ) (inodes : ℕ) (settled : Inode)
    → IsObjectIn detail disk inodes settled (object_with file known (status_of kind (new_attributes permissions))) found
    → IsObjectIn detail disk inodes settled (object_with file known status) found
new_object kind permissions attributes status file known found of_given of_kind detail disk inodes settled is =
    subst (λ (s : Status). IsObjectIn detail disk inodes settled (object_with file known s) found) (sym (of_kind ∙ ap (status_of kind) of_given)) is
