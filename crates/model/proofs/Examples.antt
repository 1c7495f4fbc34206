-- Worked examples of the calls, each by computing it where nothing else is told.
use Rattle.std.proofs.Common.{◌≡◌, ℕ, List, [], ◌∷◌, ◌++◌, true, false, refl, inl, inr, replicate, zero, suc, ◌+◌, Option, Some, None, IsSome}
use Rattle.model.proofs.WalkLemmas.{same_path}
use Rattle.std.specs.List.Sorted.{IsStrictlySortedBy}
use Rattle.std.proofs.Common.{◌<◌}
use Rattle.std.specs.Prelude.{Contains, slice_index_or, codes, pos, negsuc, if◌then◌else◌}
use Rattle.std.proofs.lemmas.Bool.{cond_both, false≢true, eqb-true}
use Rattle.std.proofs.Common.{◌⊎◌, ◌==◌, sym, ap, subst, ◌∙◌, arith, lit≤}
use Rattle.model.specs.declared.errno.Errno.TheVariants.{ENOTDIR, EISDIR, EEXIST, EINVAL, EOVERFLOW, ELOOP, EBADF, EFBIG, EPERM, EBUSY, NOSNAP, EROFS, BADNAME}
use Rattle.model.specs.declared.reply.Reply.TheVariants as reply
use Rattle.model.specs.declared.command.Command.TheVariants as command
use Rattle.model.specs.declared.command.PathCall.TheVariants as call
use Rattle.model.specs.declared.command.Whence.TheVariants as whence
use Rattle.model.specs.declared.command.Access.TheVariants as access
use Rattle.model.specs.declared.command.Flags.{Flags}
use Rattle.model.specs.declared.attributes.Attributes.{Attributes}
use Rattle.model.specs.Attributes.{mode_alone, new_attributes}
use Rattle.model.specs.Paths.{Name, Path, path_eq}
use Rattle.model.specs.Trees.{Tree, Object, number_of_object, Description, IsUsed, directory, symlink, file, root_alone}
use Rattle.model.specs.Edits.{resized, written, read_at, with_object, with_directory, with_file, with_bytes, with_descriptor, without_object, moved}
use Rattle.model.specs.Resolution.{resolve, named, refused}
use Rattle.model.specs.Room.{Room, nothing, logs, removes_name, puts_bytes, changes_size}
use Rattle.model.specs.Outcomes.{IsFresh, IsListing}
use Rattle.model.specs.Changing.{renames, unlinks, links, removes_directory, truncates, changes_mode}
use Rattle.model.specs.Descriptors.{opens, reads, writes, writes_to, reads_from, seeks, closes, truncates_open}
use Rattle.model.specs.Reading.{reads_link, lists}
use Rattle.model.specs.States.{State, empty}
use Rattle.model.specs.Steps.{WouldStep}
use Rattle.model.proofs.ExampleLimits.{costs, limits}

abbrev name_a : Name
name_a = codes "a"

abbrev name_b : Name
name_b = codes "b"

abbrev name_c : Name
name_c = codes "c"

abbrev name_f : Name
name_f = codes "f"

-- an open file for reading and writing
abbrev opened : ℕ → Description
opened offset = record { number = 6; offset = offset; reads = true; writes = true; appends = false }

-- directories `/a` and `/a/b`, and the file `/f` of three bytes, which is open
abbrev small : Tree
small =
    with_descriptor 0 (Some (opened 2)) (with_bytes 6 (97 ∷ 98 ∷ 99 ∷ []) (with_file (name_f ∷ []) 6 (mode_alone 0o644)
    (with_directory (name_a ∷ name_b ∷ []) 5 (mode_alone 0o700) (with_directory (name_a ∷ []) 4 (mode_alone 0o755) (root_alone 0o755)))))

-- a directory moves with what it holds
moved_with_it : ((moved (name_a ∷ []) (name_c ∷ []) small).objects (name_c ∷ name_b ∷ []) ≡ Some (directory 5)) × ((moved (name_a ∷ []) (name_c ∷ []) small).objects (name_a ∷ name_b ∷ []) ≡ None)
moved_with_it = (refl, refl)

below_itself : renames limits None small false (codes "/a") (codes "/a/b/c") (reply.Refused EINVAL) small nothing
below_itself = (refl, refl, refl)

onto_itself : renames limits None small false (codes "/a") (codes "/a/../a") reply.Done small nothing
onto_itself = (refl, refl, refl)

file_onto_directory : renames limits None small false (codes "/f") (codes "/a/b") (reply.Refused EISDIR) small nothing
file_onto_directory = (refl, refl, refl)

directory_onto_file : renames limits None small false (codes "/a") (codes "/f") (reply.Refused ENOTDIR) small nothing
directory_onto_file = (refl, refl, refl)

rename_of_root : renames limits None small false (codes "/") (codes "/a") (reply.Refused EBUSY) small nothing
rename_of_root = (refl, refl, refl)

unlink_directory : unlinks limits None small (codes "/a") (reply.Refused EPERM) small nothing
unlink_directory = (refl, refl, refl)

rmdir_of_file : removes_directory limits None small (codes "/f") (reply.Refused ENOTDIR) small nothing
rmdir_of_file = (refl, refl, refl)

link_over_name : links limits None small (codes "/f") (codes "/a") (reply.Refused EEXIST) small nothing
link_over_name = (refl, refl, refl)

-- bytes
into_a_gap : written 5 (1 ∷ []) (97 ∷ 98 ∷ []) ≡ 97 ∷ 98 ∷ 0 ∷ 0 ∷ 0 ∷ 1 ∷ []
into_a_gap = refl

in_the_midst : written 1 (1 ∷ []) (97 ∷ 98 ∷ 99 ∷ []) ≡ 97 ∷ 1 ∷ 99 ∷ []
in_the_midst = refl

truncated_and_grown : resized 4 (resized 1 (97 ∷ 98 ∷ [])) ≡ 97 ∷ 0 ∷ 0 ∷ 0 ∷ []
truncated_and_grown = refl

past_the_end : read_at 9 5 (97 ∷ 98 ∷ []) ≡ []
past_the_end = refl

-- `read 0 5` from offset 2 gives one byte, and the offset is then 3
reads_on : reads small 0 5 (reply.Data (99 ∷ [])) (with_descriptor 0 (Some (opened 3)) small) nothing
reads_on = (refl, refl, refl)

reads_from_start : reads_from small 0 (pos 0) 2 (reply.Data (97 ∷ 98 ∷ [])) small nothing
reads_from_start = (refl, refl, refl)

writes_nothing : writes limits None small 0 [] (reply.Wrote 0) small nothing
writes_nothing = (refl, refl, refl)

writes_on : writes limits None small 0 (1 ∷ 2 ∷ []) (reply.Wrote 2) (with_descriptor 0 (Some (opened 4)) (with_bytes 6 (97 ∷ 98 ∷ 1 ∷ 2 ∷ []) small)) (logs (puts_bytes 3 2 2))
writes_on = (refl, refl, refl)

abbrev appends : Tree
appends = with_descriptor 0 (Some (record (opened 0) { appends = true })) small

-- under append: behind the last byte, wherever the offset is
writes_behind : writes limits None appends 0 (1 ∷ []) (reply.Wrote 1) (with_descriptor 0 (Some (record (opened 4) { appends = true })) (with_bytes 6 (97 ∷ 98 ∷ 99 ∷ 1 ∷ []) appends)) (logs (puts_bytes 3 3 1))
writes_behind = (refl, refl, refl)

too_far : writes_to limits None small 0 (pos 68719476735) (0 ∷ 0 ∷ []) (reply.Refused EFBIG) small nothing
too_far = (refl, refl, refl)

before_the_start : writes_to limits None small 0 (negsuc 0) [] (reply.Refused EINVAL) small nothing
before_the_start = (refl, refl, refl)

truncates_to_two : truncates limits None small (codes "/f") (pos 2) reply.Done (with_bytes 6 (97 ∷ 98 ∷ []) small) (logs (changes_size 3 2))
truncates_to_two = (refl, refl, refl)

truncates_to_five : truncates_open limits None small 0 (pos 5) reply.Done (with_bytes 6 (97 ∷ 98 ∷ 99 ∷ 0 ∷ 0 ∷ []) small) (logs (changes_size 3 5))
truncates_to_five = (refl, refl, refl)

truncates_to_same : truncates_open limits None small 0 (pos 3) reply.Done small nothing
truncates_to_same = (refl, refl, refl)

seeks_to_the_end : seeks small 0 whence.End (negsuc 0) (reply.At 2) (with_descriptor 0 (Some (opened 2)) small) nothing
seeks_to_the_end = (refl, refl, refl)

seeks_before_the_start : seeks small 0 whence.Cur (negsuc 2) (reply.Refused EINVAL) small nothing
seeks_before_the_start = (refl, refl, refl)

seeks_too_far : seeks small 0 whence.Cur (pos 9223372036854775806) (reply.Refused EOVERFLOW) small nothing
seeks_too_far = (refl, refl, refl)

not_open : closes small 1 (reply.Refused EBADF) small nothing
not_open = (refl, refl, refl)

abbrev plainly : Flags
plainly = record { access = access.Both; creates = false; exclusive = false; truncates = false; appends = false }

-- the lowest free descriptor
opens_again : opens false 32 limits None small (codes "/f") plainly (mode_alone 0o644) (reply.Fd 1) (with_descriptor 1 (Some (opened 0)) small) nothing
opens_again = (refl, refl, refl)

opens_directory : opens false 32 limits None small (codes "/a") plainly (mode_alone 0o644) (reply.Refused EISDIR) small nothing
opens_directory = (refl, refl, refl)

truncates_what_it_reads : opens false 32 limits None small (codes "/x") (record plainly { access = access.Reading; truncates = true }) (mode_alone 0o644) (reply.Refused EINVAL) small nothing
truncates_what_it_reads = (refl, refl, refl)

opens_exclusively : opens false 32 limits None small (codes "/f") (record plainly { creates = true; exclusive = true }) (mode_alone 0o644) (reply.Refused EEXIST) small nothing
opens_exclusively = (refl, refl, refl)

opens_and_truncates : opens false 32 limits None small (codes "/f") (record plainly { truncates = true }) (mode_alone 0o644) (reply.Fd 1) (with_descriptor 1 (Some (opened 0)) (with_bytes 6 [] small)) (logs (changes_size 3 0))
opens_and_truncates = (refl, refl, refl)

abbrev full : Room
full = record { costs = costs; blocks = 64; free = 60; pledged = 0; is_covered = true; orphans_of = λ name. 0; stored = λ n k. false }

-- states
no_snapshot : WouldStep full (empty limits) (command.Within (codes "t") (call.Mkdir (codes "/x") 0o755)) (reply.Refused NOSNAP) (empty limits) nothing
no_snapshot = (refl, refl, refl)

abbrev kept : State
kept = record (empty limits) { snapshots = (codes "s", small) ∷ [] }

view_is_read_only : WouldStep full kept (command.Within (codes "s") (call.Mkdir (codes "x") 0o755)) (reply.Refused EROFS) kept nothing
view_is_read_only = (refl, refl, refl)

view_reads : WouldStep full kept (command.Within (codes "s") (call.Get (codes "/f") (pos 1) 9)) (reply.Data (98 ∷ 99 ∷ [])) kept nothing
view_reads = ((refl, refl, refl), refl)

bad_name : WouldStep full kept (command.SnapTake (codes "a b")) (reply.Refused BADNAME) kept nothing
bad_name = (refl, refl, refl)

free_room : WouldStep full kept command.Df (reply.Space 64 60 0) kept nothing
free_room = (refl, refl, refl)

deleted : WouldStep full kept (command.SnapDelete (codes "s")) reply.Done (empty limits) nothing
deleted = (refl, refl, refl)

-- `/a`, and links `/x` to `/a`, `/xx` to `x`, and so on: nine of them
abbrev chain : ℕ → Tree
chain zero = with_directory (name_a ∷ []) 4 (mode_alone 0o755) (root_alone 0o755)
chain (suc k) = with_object (replicate (suc k) 120 ∷ []) (symlink (5 + k) (elim k [ zero ↦ codes "/a" | suc j ↦ replicate (suc j) 120 ])) (chain k)

eight_links : resolve (chain 9) true (codes "/" ++ replicate 8 120) ≡ named (name_a ∷ [])
eight_links = refl

nine_links : resolve (chain 9) true (codes "/" ++ replicate 9 120) ≡ refused ELOOP
nine_links = refl

chmod_of_nine : changes_mode limits None (chain 9) (codes "/" ++ replicate 9 120) 0o700 (reply.Refused ELOOP) (chain 9) nothing
chmod_of_nine = (refl, refl, refl)

reads_the_ninth : reads_link limits (chain 9) (codes "/" ++ replicate 9 120) (reply.Text (replicate 8 120)) (chain 9) nothing
reads_the_ninth = (refl, refl, refl)

-- the file `/f`, number 4, is open
abbrev tiny : Tree
tiny = with_descriptor 0 (Some (record (opened 0) { number = 4 })) (with_file (name_f ∷ []) 4 (mode_alone 0o644) (root_alone 0o755))

-- its name was taken away
abbrev orphans : Tree
orphans = without_object (name_f ∷ []) tiny

-- it was closed then
abbrev closed : Tree
closed = record (with_descriptor 0 None orphans) { bytes = λ n. None; attributes = λ n. if n == 3 then Some (new_attributes (mode_alone 0o755)) else None }

only_root : (p : Path) (o : Object) → orphans.objects p ≡ Some o → o ≡ directory 3
only_root p o =
    cond_both (path_eq p (name_f ∷ [])) None _ (λ (r : Option Object). r ≡ Some o → o ≡ directory 3) (λ e is. cc) (λ e.
    cond_both (path_eq p (name_f ∷ [])) (Some (file 4)) _ (λ (r : Option Object). r ≡ Some o → o ≡ directory 3) (λ f is. absurd (false≢true (sym e ∙ f))) (λ f.
    cond_both (path_eq p []) (Some (directory 3)) None (λ (r : Option Object). r ≡ Some o → o ≡ directory 3) (λ g is. cc) (λ g is. cc)))

open_is : (d : ℕ) (g : Description) → orphans.descriptors d ≡ Some g → g.number ≡ 4
open_is d g = cond_both (d == 0) (Some (record (opened 0) { number = 4 })) None (λ (r : Option Description). r ≡ Some g → g.number ≡ 4) (λ e is. cc) (λ e is. cc)

root_used : IsUsed orphans 3
root_used = inl ([], directory 3, refl, refl)

file_used : IsUsed orphans 4
file_used = inr (0, record (opened 0) { number = 4 }, refl, refl)

-- an orphan that is open keeps its bytes
unlink_open : unlinks limits None tiny (codes "/f") reply.Done orphans (logs removes_name)
unlink_open = (
  refl,
  record {
    objects = refl;
    descriptors = refl;
    kept = λ n used. (refl, refl);
    gone = λ n unused. (
      cond_both (n == 4) (Some []) None (λ (r : Option (List ℕ)). r ≡ None) (λ e. absurd (unused (subst (IsUsed orphans) (sym (eqb-true n 4 e)) file_used))) (λ e. refl),
      cond_both (n == 4) (Some (new_attributes (mode_alone 0o644))) _ (λ (r : Option Attributes). r ≡ None) (λ e. absurd (unused (subst (IsUsed orphans) (sym (eqb-true n 4 e)) file_used))) (λ e. cond_both (n == 3) (Some (new_attributes (mode_alone 0o755))) None (λ (r : Option Attributes). r ≡ None) (λ f. absurd (unused (subst (IsUsed orphans) (sym (eqb-true n 3 f)) root_used))) (λ f. refl)),
    );
  },
  refl,
)

used_number : (n : ℕ) → IsUsed orphans n → (n ≡ 3) ⊎ (n ≡ 4)
used_number n (inl (p, o, is, same)) = inl (sym same ∙ ap number_of_object (only_root p o is))
used_number n (inr (d, g, is, same)) = inr (sym same ∙ open_is d g is)

-- its number isn't given again while it is open
next_number : IsFresh limits orphans 5
next_number = record {
  low = lit≤ tt;
  high = lit≤ tt;
  free = λ used. elim (used_number 5 used) [ inl e ↦ cc | inr e ↦ cc ];
  least = λ k low high. subst (IsUsed orphans) (omega (arith, low, high)) file_used;
}

closed_used : (n : ℕ) → IsUsed (with_descriptor 0 None orphans) n → n ≡ 3
closed_used n (inl (p, o, is, same)) = sym same ∙ ap number_of_object (only_root p o is)
closed_used n (inr (d, g, is, same)) =
    cond_both (d == 0) None _ (λ (r : Option Description). r ≡ Some g → n ≡ 3) (λ e is. cc) (λ e. cond_both (d == 0) (Some (record (opened 0) { number = 4 })) None (λ (r : Option Description). r ≡ Some g → n ≡ 3) (λ f is. absurd (false≢true (sym e ∙ f))) (λ f is. cc)) is

-- a close drops it
close_last : closes orphans 0 reply.Done closed nothing
close_last = (
  refl,
  record {
    objects = refl;
    descriptors = refl;
    kept = λ n used. subst (λ k. (closed.bytes k ≡ orphans.bytes k) × (closed.attributes k ≡ orphans.attributes k)) (sym (closed_used n used)) (refl, refl);
    gone = λ n unused. (refl, cond_both (n == 3) (Some (new_attributes (mode_alone 0o755))) None (λ (r : Option Attributes). r ≡ None) (λ e. absurd (unused (subst (IsUsed (with_descriptor 0 None orphans)) (sym (eqb-true n 3 e)) (inl ([], directory 3, refl, refl))))) (λ e. refl));
  },
  refl,
)

-- and its number is given again
number_again : IsFresh limits closed 4
number_again = record {
  low = lit≤ tt;
  high = lit≤ tt;
  free = λ used. let e : 4 ≡ 3 = closed_used 4 used in cc;
  least = λ k low high. absurd (omega (arith, low, high));
}

-- the names of the root directory, sorted
abbrev in_root : List Name
in_root = name_a ∷ name_f ∷ []

listed_there : (name : Name) (k : ℕ) → k < 2 → slice_index_or in_root k name ≡ name → IsSome (small.objects (name ∷ []))
listed_there name zero below is = subst (λ n. IsSome (small.objects (n ∷ []))) is refl
listed_there name (suc zero) below is = subst (λ n. IsSome (small.objects (n ∷ []))) is refl
listed_there name (suc (suc k)) below is = absurd (omega (arith, below))

there_listed : (name : Name) → IsSome (small.objects (name ∷ [])) → Contains in_root name
there_listed name =
    cond_both (path_eq (name ∷ []) (name_f ∷ [])) (Some (file 6)) _ (λ (r : Option Object). IsSome r → Contains in_root name) (λ e some. let same = same_path (name ∷ []) (name_f ∷ []) e in (1, lit≤ tt, cc)) (λ e.
    cond_both (path_eq (name ∷ []) (name_a ∷ name_b ∷ [])) (Some (directory 5)) _ (λ (r : Option Object). IsSome r → Contains in_root name) (λ f some. let same = same_path (name ∷ []) (name_a ∷ name_b ∷ []) f in cc) (λ f.
    cond_both (path_eq (name ∷ []) (name_a ∷ [])) (Some (directory 4)) None (λ (r : Option Object). IsSome r → Contains in_root name) (λ g some. let same = same_path (name ∷ []) (name_a ∷ []) g in (0, lit≤ tt, cc)) (λ g some. absurd (false≢true some))))

root_names : IsListing small [] in_root
unfolding IsStrictlySortedBy
root_names = record { sorted = ((refl, tt), (tt, tt)); whole = λ name. ((λ (k, below, is). listed_there name k below is), there_listed name) }

lists_root : lists limits small (codes "/") (reply.Names in_root) small nothing
lists_root = (in_root, root_names, (refl, refl, refl))
