-- What the definitions say of making a symbolic link over a path.
use Rattle.std.proofs.Common.{◌≡◌, ℕ, List, Option, Some, None, Result, Ok, Err}
use Rattle.model.specs.declared.attributes.Permissions.{Permissions}
use Rattle.model.specs.declared.limits.Limits.{Limits}
use Rattle.model.specs.Changes.{with_made}
use Rattle.model.specs.Changing.{creates, link_text_tests, makes_symlink}
use Rattle.model.specs.Paths.{first_refusal}
use Rattle.model.specs.Records.{symbolic_link}
use Rattle.model.specs.Room.{nothing}
use Rattle.model.specs.Trees.{Tree, Description}
use Rattle.model.specs.Volumes.{Volume, tree_of}
use Rattle.model.specs.declared.errno.Errno.{Errno}
use Rattle.model.specs.declared.reply.Reply.TheVariants.{Done, Refused}
use Rattle.model.specs.declared.time.Time.{Time}
use Rattle.calls.specs.Changing.{Comes}
use Rattle.calls.specs.declared.changed.Changing.{Changing}
use Rattle.calls.proofs.TestedLaws.{tested_some, tested_none}

module _ (limits : Limits) (now : Option Time) (v : Volume) (table : ℕ → Option Description) (text path : List ℕ) (permissions : Permissions) where
  abbrev t : Tree
  t = tree_of v table

  -- a text that doesn't pass its tests
  pub link_text_refused : (errno : Errno) → first_refusal (link_text_tests limits text) ≡ Some errno → makes_symlink limits now t text path permissions (Refused errno) t nothing
  link_text_refused errno is = tested_some t (link_text_tests limits text) _ errno is

  -- one that passes them: what comes of making the object
  pub symlink_comes : first_refusal (link_text_tests limits text) ≡ None → (told : Result Changing Errno) → Comes (creates limits now t path (with_made (symbolic_link permissions text))) limits v table told
      → Comes (makes_symlink limits now t text path permissions) limits v table told
  symlink_comes passed (Err errno) refused = tested_none t (link_text_tests limits text) (creates limits now t path (with_made (symbolic_link permissions text))) (Refused errno) t nothing passed refused
  symlink_comes passed (Ok c) (applies, mounted, made) =
      (applies, mounted, tested_none t (link_text_tests limits text) (creates limits now t path (with_made (symbolic_link permissions text))) Done _ _ passed made)
