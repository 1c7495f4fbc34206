use Rattle.std.proofs.Common.{ℕ, List, sym, subst, ◌≡◌, ◌∙◌, ◌↔◌, Contains, filter}
use Rattle.std.specs.Ordering.{nat_cmp}
use Rattle.std.specs.List.Sorted.{IsStrictlyIncreasing}
use Rattle.std.specs.BTreeMap as tree
use Rattle.std.proofs.lemmas.List.Kept.{IsStrictlySortedBy-filter}
use Rattle.std.proofs.lemmas.Map.Keys.{IsStrictlyIncreasing-from_sorted}
use Rattle.inofile.specs.Inodes.{is_changed_slot, IsChanged}
use Rattle.inofile.proofs.ChangedLaws.{changed_members, changed_known, entries_changed}
use Rattle.inofile.proofs.inode_file.InodeFile.changed_numbers.Goals as goal

keys : (c : goal.In_ok-numbers) → c.in_ok-numbers.numbers.items ≡ filter (λ n. is_changed_slot (tree.get nat_cmp c.args.self.now.slots n)) (tree.keys c.args.self.now.slots)
keys c = c.in_ok-numbers.ensures.keys ∙ entries_changed c.args.self.now.slots c.in_ok-numbers.ensures.found

pub returns-clause-sorted : goal.returns-clause-sorted
returns-clause-sorted c =
    subst IsStrictlyIncreasing (sym (keys c))
    (IsStrictlyIncreasing-from_sorted _ (IsStrictlySortedBy-filter nat_cmp (λ n. is_changed_slot (tree.get nat_cmp c.args.self.now.slots n)) (tree.keys c.args.self.now.slots) c.in_ok-numbers.ensures.ordered))

pub returns-clause-members : goal.returns-clause-members
returns-clause-members c = λ n.
    subst (λ (xs : List ℕ). Contains xs n ↔ IsChanged c.args.self.now n) (sym (keys c)) (changed_members c.args.self.now.slots n)

pub returns-clause-within : goal.returns-clause-within
returns-clause-within c = λ n there. c.args.self.now.changes n ((returns-clause-members c n).0 there)

pub returns-clause-known : goal.returns-clause-known
returns-clause-known c = λ n there. changed_known (tree.get nat_cmp c.args.self.now.slots n) ((returns-clause-members c n).0 there)
