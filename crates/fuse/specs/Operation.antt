-- What a request asks, without where its bytes lie in memory.
use Rattle.std.specs.Prelude.{ℕ, Bool, List, Option}
use Rattle.fuse.specs.declared.attribute_changes.AttributeChanges.{AttributeChanges}
use Rattle.fuse.specs.Forgets.{forgets_of}
use Rattle.fuse.specs.declared.forgets.Forget.{Forget}
use Rattle.fuse.specs.declared.operation.Operation.{Operation}
use Rattle.fuse.specs.declared.operation.Operation.TheVariants as asked

pub data OperationValue : Type 0 where
  lookup : (name : List ℕ) → OperationValue
  forget : (lookups : ℕ) → OperationValue
  batch_forget : (forgets : List Forget) → OperationValue
  get_attributes : (handle : Option ℕ) → OperationValue
  set_attributes : (changes : AttributeChanges) → OperationValue
  read_link : OperationValue
  symbolic_link : (name text : List ℕ) → OperationValue
  make_node : (name : List ℕ) → (mode device umask : ℕ) → OperationValue
  make_directory : (name : List ℕ) → (mode umask : ℕ) → OperationValue
  unlink : (name : List ℕ) → OperationValue
  remove_directory : (name : List ℕ) → OperationValue
  rename : (name : List ℕ) → (new_parent : ℕ) → (new_name : List ℕ) → (flags : ℕ) → OperationValue
  link : (name : List ℕ) → (node : ℕ) → OperationValue
  open_file : (flags open_flags : ℕ) → OperationValue
  read : (handle offset size read_flags flags : ℕ) → OperationValue
  write : (handle offset : ℕ) → (bytes : List ℕ) → (write_flags flags : ℕ) → OperationValue
  stat_file_system : OperationValue
  release : (handle flags release_flags : ℕ) → OperationValue
  sync : (handle : ℕ) → (data_only : Bool) → OperationValue
  flush : (handle : ℕ) → OperationValue
  init : (major minor max_readahead flags : ℕ) → OperationValue
  open_directory : (flags open_flags : ℕ) → OperationValue
  read_directory : (handle offset size : ℕ) → OperationValue
  read_directory_plus : (handle offset size : ℕ) → OperationValue
  release_directory : (handle : ℕ) → OperationValue
  sync_directory : (handle : ℕ) → (data_only : Bool) → OperationValue
  access : (mask : ℕ) → OperationValue
  create : (name : List ℕ) → (mode umask flags open_flags : ℕ) → OperationValue
  interrupt : (unique : ℕ) → OperationValue
  seek : (handle offset whence : ℕ) → OperationValue
  destroy : OperationValue
  retrieved : OperationValue
  other : (opcode : ℕ) → OperationValue

abbrev pub operation_of : Operation → OperationValue
operation_of (asked.Lookup name) = lookup name.now
operation_of (asked.Forget lookups) = forget lookups
operation_of (asked.BatchForget forgets) = batch_forget (forgets_of forgets)
operation_of (asked.GetAttributes handle) = get_attributes handle
operation_of (asked.SetAttributes changes) = set_attributes changes
operation_of asked.ReadLink = read_link
operation_of (asked.SymbolicLink name text) = symbolic_link name.now text.now
operation_of (asked.MakeNode name mode device umask) = make_node name.now mode device umask
operation_of (asked.MakeDirectory name mode umask) = make_directory name.now mode umask
operation_of (asked.Unlink name) = unlink name.now
operation_of (asked.RemoveDirectory name) = remove_directory name.now
operation_of (asked.Rename name new_parent new_name flags) =
    rename name.now new_parent new_name.now flags
operation_of (asked.Link name node) = link name.now node
operation_of (asked.Open flags open_flags) = open_file flags open_flags
operation_of (asked.Read handle offset size read_flags flags) =
    read handle offset size read_flags flags
operation_of (asked.Write handle offset bytes write_flags flags) =
    write handle offset bytes.now write_flags flags
operation_of asked.StatFileSystem = stat_file_system
operation_of (asked.Release handle flags release_flags) = release handle flags release_flags
operation_of (asked.Sync handle data_only) = sync handle data_only
operation_of (asked.Flush handle) = flush handle
operation_of (asked.Init major minor max_readahead flags) = init major minor max_readahead flags
operation_of (asked.OpenDirectory flags open_flags) = open_directory flags open_flags
operation_of (asked.ReadDirectory handle offset size) = read_directory handle offset size
operation_of (asked.ReadDirectoryPlus handle offset size) = read_directory_plus handle offset size
operation_of (asked.ReleaseDirectory handle) = release_directory handle
operation_of (asked.SyncDirectory handle data_only) = sync_directory handle data_only
operation_of (asked.Access mask) = access mask
operation_of (asked.Create name mode umask flags open_flags) =
    create name.now mode umask flags open_flags
operation_of (asked.Interrupt unique) = interrupt unique
operation_of (asked.Seek handle offset whence) = seek handle offset whence
operation_of asked.Destroy = destroy
operation_of asked.Retrieved = retrieved
operation_of (asked.Other opcode) = other opcode
