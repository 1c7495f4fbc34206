-- A step of a walk, in the words of the model.
use Rattle.std.specs.Prelude.{ℕ, ◌≡◌, ◌-◌, ◌&&◌, not, Bool, IsTrue, if◌then◌else◌, List, [], ◌∷◌, ◌++◌, length, take, Option, Some, None}
use Rattle.layout.specs.declared.kind.Kind.{Kind}
use Rattle.layout.specs.declared.kind.Kind.TheVariants as kinds
use Rattle.model.specs.declared.errno.Errno.TheVariants.{ENOENT, ENOTDIR, ENAMETOOLONG, DAMAGED}
use Rattle.model.specs.Finding as model
use Rattle.model.specs.Finding.{find_along, halts, halts_at_link, at_entry, at_missing, at_refusal}
use Rattle.model.specs.Paths.{Name, is_empty}
use Rattle.model.specs.Volumes.{Node, directory_node, file_node, link_node, Volume, is_placed_node}
use Rattle.paths.specs.Numbers.{IsInodeNumber}
use Rattle.paths.specs.Refusals.{is_walk_refusal}
use Rattle.paths.specs.declared.lookup.Found.{Found}
use Rattle.paths.specs.declared.lookup.Found.TheVariants as found
use Rattle.paths.specs.declared.step.WalkStep.{WalkStep}
use Rattle.paths.specs.declared.step.WalkStep.TheVariants as step

-- what kind of object it is
abbrev pub found_in : Option Node → Found
found_in None = found.Nothing
found_in (Some (directory_node attributes names)) = found.Directory
found_in (Some (file_node attributes links bytes)) = found.File
found_in (Some (link_node attributes text)) = found.Link

-- what kind of object it is that stands at a path, as an orphan doesn't
abbrev pub placed_in : Option Node → Found
placed_in o = if is_placed_node o then found_in o else found.Nothing

-- what an object of this kind is
abbrev pub found_as : Kind → Found
found_as kinds.Directory = found.Directory
found_as kinds.File = found.File
found_as kinds.Link = found.Link
found_as _ = found.Nothing

-- the text of a link
abbrev pub text_in : Option Node → List ℕ
text_in (Some (link_node attributes text)) = text
text_in _ = []

-- where a walk ends that takes a step by a part from the end of a trail, with parts left
abbrev pub halt_after : Volume → Bool → List ℕ → Name → List Name → WalkStep → model.WalkEnd
halt_after v follow trail part rest step.Stays = find_along v follow trail rest
halt_after v follow trail part rest step.Rises = find_along v follow (take (length trail - 1) trail) rest
halt_after v follow trail part rest (step.Enters n) = find_along v follow (trail ++ n ∷ []) rest
halt_after v follow trail part rest (step.Follows n) = halts_at_link trail (text_in (v n)) rest
halt_after v follow trail part rest (step.EndsAt n) = halts (at_entry trail part n)
halt_after v follow trail part rest step.FindsNothing = halts (at_missing trail part)
halt_after v follow trail part rest (step.Refused errno) = halts (at_refusal errno)

-- where the model's walk ends that makes a turn by a part
abbrev pub after_turn : Volume → Bool → List ℕ → Name → List Name → model.Turn → model.WalkEnd
after_turn v follow trail part rest (model.stays_on next) = find_along v follow next rest
after_turn v follow trail part rest (model.enters n) =
    if is_empty rest then halts (at_entry trail part n) else find_along v follow (trail ++ n ∷ []) rest
after_turn v follow trail part rest (model.ends_at n) = halts (if is_empty rest then at_entry trail part n else at_refusal ENOTDIR)
after_turn v follow trail part rest (model.follows n text) =
    if is_empty rest && not follow then halts (at_entry trail part n) else halts_at_link trail text rest
after_turn v follow trail part rest model.finds_nothing = halts (if is_empty rest then at_missing trail part else at_refusal ENOENT)
after_turn v follow trail part rest model.finds_damage = halts (at_refusal DAMAGED)
after_turn v follow trail part rest model.finds_long = halts (at_refusal ENAMETOOLONG)

-- a walk takes this step by a part from a directory
abbrev pub IsStepBy : ℕ → Name → Bool → Bool → Volume → WalkStep → Type 0
IsStepBy directory part is_last follow v s =
    (trail : List ℕ) (rest : List Name) → model.here trail ≡ directory → is_empty rest ≡ is_last
    → halt_after v follow trail part rest s ≡ find_along v follow trail (part ∷ rest)

-- each number that a step tells is one of an object, and a refusal one of a walk
abbrev pub IsStepWithin : ℕ → WalkStep → Type 0
IsStepWithin inodes step.Stays = Unit {0}
IsStepWithin inodes step.Rises = Unit {0}
IsStepWithin inodes (step.Enters n) = IsInodeNumber inodes n
IsStepWithin inodes (step.Follows n) = IsInodeNumber inodes n
IsStepWithin inodes (step.EndsAt n) = IsInodeNumber inodes n
IsStepWithin inodes step.FindsNothing = Unit {0}
IsStepWithin inodes (step.Refused errno) = IsTrue (is_walk_refusal errno)
