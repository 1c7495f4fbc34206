-- The commands that requests come to.
use Rattle.std.specs.Prelude.{ℕ, ◌==◌, if◌then◌else◌, Bool, false, List}
use Rattle.model.specs.declared.command.Access.TheVariants.{Both}
use Rattle.model.specs.declared.command.Command.{Command}
use Rattle.model.specs.declared.command.Command.TheVariants as command
use Rattle.model.specs.declared.command.Flags.{Flags}
use Rattle.model.specs.declared.command.PathCall.{PathCall}
use Rattle.model.specs.declared.command.PathCall.TheVariants as call
use Rattle.served.specs.declared.removing.TheConstants.{NO_REPLACE}

-- a call on the running tree that looks at what has a path, itself
abbrev pub lstat : List ℕ → Command
lstat path = command.Path (call.Lstat path)

-- a file is opened for reading and for writing, since the kernel reads through what writes
abbrev pub opening : Bool → Bool → Flags
opening creates exclusive = record {
  access = Both;
  creates = creates;
  exclusive = exclusive;
  truncates = false;
  appends = false;
}

-- a call that takes a name away, of a directory or of something else
abbrev pub removing : List ℕ → Bool → PathCall
removing path is_directory = if is_directory then call.Rmdir path else call.Unlink path

-- a call that moves a name, as the flags of `renameat2` have it
abbrev pub moving : ℕ → List ℕ → List ℕ → PathCall
moving flags path new_path = if flags == NO_REPLACE then call.RenameNew path new_path else call.Rename path new_path
